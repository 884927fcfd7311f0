-- One step of a loop over the slots.
use Rattle.std.proofs.Common.{◌≡◌, ℕ, zero, suc, ◌+◌, ◌<◌, Bool, false, List, [], ◌∷◌, drop, Some, refl, arith, add-one}
use Rattle.std.specs.Prelude.{slice_get, find}
use Rattle.bx_rows.specs.Words.{slots}

-- the item at a place is the first behind those before it
drop_here-suc : {X : Type 0} (xs : List X) (i : ℕ) (x : X) → slice_get xs i ≡ Some x → drop i xs ≡ x ∷ drop (suc i) xs
drop_here-suc [] i x e = absurd cc
drop_here-suc (y ∷ xs) zero x e = let h : y ≡ x = cc in rw h refl
drop_here-suc (y ∷ xs) (suc i) x e = drop_here-suc xs i x e

-- an item that isn't the one looked for
pub find_past : {X : Type 0} (p : X → Bool) (xs : List X) (i : ℕ) (x : X) → slice_get xs i ≡ Some x → p x ≡ false → find p (drop i xs) ≡ find p (drop (i + 1) xs)
find_past p xs i x e t = rw (add-one, drop_here-suc xs i x e, t) refl

-- the slots are their own places
pub slot_here : (i : ℕ) → i < 8 → slice_get slots i ≡ Some i
slot_here zero lt = refl
slot_here (suc zero) lt = refl
slot_here (suc (suc zero)) lt = refl
slot_here (suc (suc (suc zero))) lt = refl
slot_here (suc (suc (suc (suc zero)))) lt = refl
slot_here (suc (suc (suc (suc (suc zero))))) lt = refl
slot_here (suc (suc (suc (suc (suc (suc zero)))))) lt = refl
slot_here (suc (suc (suc (suc (suc (suc (suc zero))))))) lt = refl
slot_here (suc (suc (suc (suc (suc (suc (suc (suc i)))))))) lt = absurd (omega arith)
