-- Which page is wrong, as a tree is read.
use Rattle.std.proofs.Common.{◌≡◌, ℕ, suc, ◌+◌, arith, List, [], ◌∷◌, sym, subst, Some}
use Rattle.std.specs.Prelude.{slice_get}
use Rattle.bx_truth.specs.PageTrees.{Chunks, Node, IsIn, IsLevel}
use Rattle.bx_audit_pages.specs.Torn.{AreUnder, Highest, Lower, ComesTo, Start}
use Rattle.bx_audit_pages.proofs.Descents.{Stack}
use Rattle.bx_audit_pages.proofs.Walk.{here}

some_same : {X : Type 0} (x y : X) → Some x ≡ Some y → x ≡ y
some_same x y e = cc

-- a walk along a level begins at its first page
pub start_met : (chunks : Chunks) (level first : ℕ) (begins : List ℕ) → begins ≡ [] → ComesTo chunks level first begins first
start_met chunks level first begins none = subst (λ (k : List ℕ). ComesTo chunks level first k first) (sym none) Start

-- the first page of a list is in it
pub first_there : (nodes : List Node) (node : Node) → Some node ≡ slice_get nodes 0 → IsIn node nodes
first_there [] node is = absurd cc
first_there (x ∷ xs) node is = subst (λ (n : Node). IsIn n (x ∷ xs)) (sym (some_same node x is)) (here x xs)

-- levels that were read, the lowest first, are under the root
pub are_under : (chunks : Chunks) (root level : ℕ) (nodes : List Node) (others : List (List Node)) → Stack chunks root level (nodes ∷ others) → AreUnder chunks root level nodes
are_under chunks root level nodes [] stack = Highest level nodes stack
are_under chunks root level nodes (above ∷ others) stack =
    Lower level above nodes (subst (λ (n : ℕ). AreUnder chunks root n above) (up level) (are_under chunks root (suc level) above others stack.1)) stack.0
  where
    up : (n : ℕ) → suc n ≡ n + 1
    up n = omega arith

-- what is under a root are levels
pub under_level : (chunks : Chunks) (root level : ℕ) (nodes : List Node) → AreUnder chunks root level nodes → IsLevel chunks level nodes
under_level chunks root _ _ (Highest level nodes top) = top.is
under_level chunks root _ _ (Lower level above nodes under lies) = lies.is
