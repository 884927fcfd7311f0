-- Members of lists.
use Rattle.std.proofs.Common.{◌≡◌, zero, suc, arith, List, [], ◌∷◌, ap, subst}
use Rattle.std.specs.Prelude.{Contains, map}
use Rattle.bx_truth.specs.PageTrees.{IsIn}
use Rattle.bx_audit_pages.proofs.NodeLists.{at_place, place_of}
use Rattle.bx_audit_files.proofs.PairedEntries.{head_in, tail_in}

pub contains_map : {X Y : Type 0} (f : X → Y) (xs : List X) (x : X) → Contains xs x → Contains (map f xs) (f x)
contains_map f [] x within = absurd (omega (arith, within.1))
contains_map f (y ∷ ys) x (zero, less, is) = (0, omega arith, ap f is)
contains_map f (y ∷ ys) x (suc k, less, is) =
    let rest = contains_map f ys x (k, omega (arith, less), is) in (suc rest.0, omega (arith, rest.1), rest.2)

pub from_map : {X Y : Type 0} (f : X → Y) (xs : List X) (y : Y) → Contains (map f xs) y → (x : X) × Contains xs x × (f x ≡ y)
from_map f [] y within = absurd (omega (arith, within.1))
from_map f (x ∷ xs) y (zero, less, is) = (x, head_in x xs, is)
from_map f (x ∷ xs) y (suc k, less, is) =
    let rest = from_map f xs y (k, omega (arith, less), is) in (rest.0, tail_in rest.0 x xs rest.1, rest.2)

pub in_contains : {X : Type 0} (x : X) (xs : List X) → IsIn x xs → Contains xs x
in_contains x xs there = let at = place_of x xs there in (at.0, at.1, at.2 x)

pub contains_in : {X : Type 0} (x : X) (xs : List X) → Contains xs x → IsIn x xs
contains_in x xs within = subst (λ y. IsIn y xs) within.2 (at_place xs within.0 x within.1)

pub in_none : {X : Type 0} (x : X) → IsIn x [] → ⊥
in_none x there = let c = in_contains x [] there in absurd (omega (arith, c.1))
