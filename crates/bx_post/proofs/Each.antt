-- A list of which the front was gone through, and the rest is as it was.
use Rattle.std.proofs.Common.{◌≡◌, ℕ, zero, suc, ◌≤◌, List, [], ◌∷◌, ◌++◌, length, map, set, take, drop, refl, arith, ap, sym, ◌∙◌, subst, Some}
use Rattle.std.specs.Prelude.{slice_get}
use Rattle.std.specs.List.{AllByRecursion}

abbrev pub part : {A : Type 0} → (A → A) → ℕ → List A → List A
part f at xs = map f (take at xs) ++ drop at xs

pub part_more : {A : Type 0} (f : A → A) (at : ℕ) (xs : List A) (x : A) → slice_get xs at ≡ Some x → set (part f at xs) at (f x) ≡ part f (suc at) xs
part_more f at [] x there = cc
part_more f zero (y ∷ ys) x there = let it : x ≡ y = cc in ap (λ z. f z ∷ ys) it
part_more f (suc at) (y ∷ ys) x there = ap (λ zs. f y ∷ zs) (part_more f at ys x there)

pub part_at : {A : Type 0} (f : A → A) (at : ℕ) (xs : List A) → slice_get (part f at xs) at ≡ slice_get xs at
part_at f zero [] = refl
part_at f (suc at) [] = refl
part_at f zero (y ∷ ys) = refl
part_at f (suc at) (y ∷ ys) = part_at f at ys

pub part_long : {A : Type 0} (f : A → A) (at : ℕ) (xs : List A) → length (part f at xs) ≡ length xs
part_long f zero [] = refl
part_long f (suc at) [] = refl
part_long f zero (y ∷ ys) = refl
part_long f (suc at) (y ∷ ys) = ap suc (part_long f at ys)

pub part_all : {A : Type 0} (f : A → A) (xs : List A) → part f (length xs) xs ≡ map f xs
part_all f [] = refl
part_all f (y ∷ ys) = ap (λ zs. f y ∷ zs) (part_all f ys)

pub part_none : {A : Type 0} (f : A → A) (xs : List A) → part f 0 xs ≡ xs
part_none f [] = refl
part_none f (y ∷ ys) = refl

-- one more is gone through
pub part_step : {A : Type 0} (f : A → A) (at n : ℕ) (xs ys : List A) (x y : A) → ys ≡ part f at xs → slice_get ys at ≡ Some x → y ≡ f x → n ≡ suc at → set ys at y ≡ part f n xs
part_step f at n xs ys x y are there is next =
    let was : slice_get xs at ≡ Some x = sym (part_at f at xs) ∙ ap (λ zs. slice_get zs at) (sym are) ∙ there in
    ap (set ys at) is ∙ ap (λ zs. set zs at (f x)) are ∙ part_more f at xs x was ∙ ap (λ m. part f m xs) (sym next)

pub part_end : {A : Type 0} (f : A → A) (at : ℕ) (xs ys : List A) → ys ≡ part f at xs → at ≡ length xs → ys ≡ map f xs
part_end f at xs ys are is = are ∙ ap (λ n. part f n xs) is ∙ part_all f xs

pub as_long_as : {A : Type 0} (f : A → A) (at : ℕ) (xs ys : List A) → ys ≡ part f at xs → length ys ≡ length xs
as_long_as f at xs ys are = ap length are ∙ part_long f at xs

pub all_at : {A : Type 0} (P : A → Type 0) (at : ℕ) (xs : List A) (x : A) → AllByRecursion P xs → slice_get xs at ≡ Some x → P x
all_at P at [] x all there = cc
all_at P zero (y ∷ ys) x all there = let it : y ≡ x = cc in subst P it all.0
all_at P (suc at) (y ∷ ys) x all there = all_at P at ys x all.1 there

pub take_all : {A : Type 0} (n : ℕ) (xs : List A) → length xs ≤ n → take n xs ≡ xs
take_all zero [] long = refl
take_all (suc n) [] long = refl
take_all zero (x ∷ xs) long = absurd (omega (arith, long))
take_all (suc n) (x ∷ xs) long = ap (λ ys. x ∷ ys) (take_all n xs (omega (arith, long)))
