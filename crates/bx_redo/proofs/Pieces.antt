-- Pieces of one length that are written one after the other.
use Rattle.std.proofs.Common.{◌≡◌, ℕ, zero, suc, ◌+◌, ◌*◌, ◌<◌, ◌≤◌, List, [], ◌∷◌, ◌++◌, length, take, get_or, sym, ap, ◌∙◌, arith}
use Rattle.std.specs.List.{flat_map, AllByRecursion}
use Rattle.std.proofs.lemmas.List.{append-nil, length-append, take_more, take_all}
use Rattle.std.proofs.lemmas.List.Concat.{flat_map-cons}
use Rattle.std.proofs.lemmas.Grind.{flat_map-append}
use Rattle.bx_base.specs.Writing.{Writes}

-- bytes that fill the whole are all of it
pub filled : (old new bytes : List ℕ) (end : ℕ) → Writes old new 0 end bytes → length bytes ≡ length old → new ≡ bytes
filled old new bytes end w e =
    let all : take end new ≡ new = take_all end new (omega (arith, w.len, w.place, e)) in
    sym all ∙ w.front

module _ {X : Type 0} (f : X → List ℕ) (P : X → Type 0) (size : ℕ) (long : (x : X) → P x → length (f x) ≡ size) where
  pub length_all : (xs : List X) → AllByRecursion P xs → length (flat_map f xs) ≡ size * length xs
  length_all [] all = omega arith
  length_all (x ∷ xs) all =
      ap length (flat_map-cons f x xs) ∙ length-append (f x) (flat_map f xs) ∙ omega (arith, long x all.0, length_all xs all.1)

  pub room_at : (xs : List X) (i : ℕ) → AllByRecursion P xs → i < length xs → length (flat_map f (take i xs)) + size ≤ size * length xs
  room_at [] i all there = absurd (omega (arith, there))
  room_at (x ∷ xs) zero all there = omega arith
  room_at (x ∷ xs) (suc i) all there =
      let h = room_at xs i all.1 (omega (arith, there)) in
      let e = ap length (flat_map-cons f x (take i xs)) ∙ length-append (f x) (flat_map f (take i xs)) in
      omega (arith, h, e, long x all.0)

  pub one_more : (xs : List X) (i : ℕ) (x d : X) → i < length xs → x ≡ get_or xs i d → flat_map f (take (i + 1) xs) ≡ flat_map f (take i xs) ++ f x
  one_more xs i x d there e =
      ap (flat_map f) (take_more xs i d there) ∙ flat_map-append f (take i xs) (get_or xs i d ∷ []) ∙ ap (λ (ys : List ℕ). flat_map f (take i xs) ++ ys) (single (get_or xs i d) ∙ ap f (sym e))
    where
      single : (y : X) → flat_map f (y ∷ []) ≡ f y
      single y = flat_map-cons f y [] ∙ append-nil (f y)
