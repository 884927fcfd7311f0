-- The way up from a directory, move by move.
use Rattle.std.proofs.Common.{◌≡◌, ℕ, zero, suc, Bool, true, false, cond, eqb, not, List, [], ◌∷◌, refl, ap, ◌∙◌, arith}
use Rattle.std.specs.Prelude.{Result, Ok, Err}
use Rattle.std.specs.List.{list_any}
use Rattle.std.proofs.lemmas.Bool.Decides.{nat_tests}
use Rattle.bx_model.specs.declared.tree.Tree.{Tree}
use Rattle.bx_model.specs.Moves.{way_errors}
use Rattle.bx_model.specs.Renaming.{parent_at, way_up}
use Rattle.bx_model.specs.Steps.{refuse, ◌>>◌}

same_number : (n : ℕ) → eqb n n ≡ true
same_number n = grind (arith, nat_tests)

-- the errors of a way, as a list
abbrev errors_of : ℕ → ℕ → List ℕ → Result (Unit {0}) ℕ
errors_of root handle way =
    refuse (list_any (λ other. eqb other handle) way) 1 >> refuse (not (list_any (λ other. eqb other root) way)) 63

errors_met : (root handle : ℕ) (way : List ℕ) → errors_of root handle (handle ∷ way) ≡ Err 1
errors_met root handle way = rw (same_number handle) refl

errors_over : (root handle at : ℕ) (way : List ℕ) → eqb at handle ≡ false → eqb at root ≡ false → errors_of root handle (at ∷ way) ≡ errors_of root handle way
errors_over root handle at way apart below = rw (apart, below) refl

errors_there : (root handle : ℕ) → eqb root handle ≡ false → errors_of root handle (root ∷ []) ≡ Ok tt
errors_there root handle apart = rw (apart, same_number root) refl

-- it begins at the directory
begins : (tree : Tree) (moves at : ℕ) → (rest : List ℕ) × (way_up tree moves at ≡ at ∷ rest)
unfolding way_up
begins tree zero at = ([], refl)
begins tree (suc moves) at = by (eqb at tree.root)
  where
    by : (b : Bool) → (rest : List ℕ) × (cond b (at ∷ []) (at ∷ way_up tree moves (parent_at tree.files at)) ≡ at ∷ rest)
    by true = ([], refl)
    by false = (way_up tree moves (parent_at tree.files at), refl)

-- it ends at the root
ends : (tree : Tree) (moves : ℕ) → way_up tree moves tree.root ≡ tree.root ∷ []
unfolding way_up
ends tree zero = refl
ends tree (suc moves) = rw (same_number tree.root) refl

goes_on : (tree : Tree) (moves at : ℕ) → eqb at tree.root ≡ false → way_up tree (suc moves) at ≡ at ∷ way_up tree moves (parent_at tree.files at)
unfolding way_up
goes_on tree moves at below = rw below refl

stops : (tree : Tree) (at : ℕ) → way_up tree 0 at ≡ at ∷ []
unfolding way_up
stops tree at = refl

-- a way that begins at the file that moves
pub way_met : (tree : Tree) (moves handle : ℕ) → way_errors tree moves handle handle ≡ Err 1
way_met tree moves handle =
    let begin = begins tree moves handle in
    ap (errors_of tree.root handle) begin.1 ∙ errors_met tree.root handle begin.0

-- one that begins at the root
pub way_there : (tree : Tree) (moves handle : ℕ) → eqb tree.root handle ≡ false → way_errors tree moves tree.root handle ≡ Ok tt
way_there tree moves handle apart = ap (errors_of tree.root handle) (ends tree moves) ∙ errors_there tree.root handle apart

-- any other way goes on at the parent
pub way_on : (tree : Tree) (moves at handle : ℕ) → eqb at handle ≡ false → eqb at tree.root ≡ false
    → way_errors tree (suc moves) at handle ≡ way_errors tree moves (parent_at tree.files at) handle
way_on tree moves at handle apart below =
    ap (errors_of tree.root handle) (goes_on tree moves at below) ∙ errors_over tree.root handle at (way_up tree moves (parent_at tree.files at)) apart below

-- and where no move is left, it is too long
pub way_long : (tree : Tree) (at handle : ℕ) → eqb at handle ≡ false → eqb at tree.root ≡ false → way_errors tree 0 at handle ≡ Err 63
way_long tree at handle apart below =
    ap (errors_of tree.root handle) (stops tree at) ∙ errors_over tree.root handle at [] apart below
