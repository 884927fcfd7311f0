-- Lists that are turned round and cut, and tests over them.
use Rattle.std.proofs.Common.{◌≡◌, ℕ, zero, suc, ◌-◌, ◌≤◌, Bool, true, false, cond, List, [], ◌∷◌, ◌++◌, length, take, drop, Some, inl, inr, refl, sym, ap, subst, ◌∙◌, arith}
use Rattle.std.specs.Prelude.{◌||◌, ◌⊎◌, map, reverse}
use Rattle.std.specs.List.{AllByRecursion, find, list_any}
use Rattle.std.proofs.lemmas.List.{drop_all, length-reverse, reverse-append, take_all, take-append-le}
use Rattle.std.proofs.lemmas.List.Folds.{list_any-append}
use Rattle.bx_history.specs.Trace.{IsIn}

turned : {X : Type 0} (x : X) (xs : List X) → reverse (x ∷ xs) ≡ reverse xs ++ x ∷ []
turned x xs = reverse-append (x ∷ []) xs

pub any_reversed : {X : Type 0} (p : X → Bool) (xs : List X) → list_any p (reverse xs) ≡ list_any p xs
any_reversed p [] = refl
any_reversed p (x ∷ xs) = ap (list_any p) (turned x xs) ∙ list_any-append p (reverse xs) (x ∷ []) ∙ swap (p x) (list_any p (reverse xs)) ∙ ap (λ (b : Bool). p x || b) (any_reversed p xs)
  where
    swap : (a b : Bool) → (b || (a || false)) ≡ (a || b)
    swap true true = refl
    swap true false = refl
    swap false true = refl
    swap false false = refl

pub any_mapped : {X Y : Type 0} (p : Y → Bool) (f : X → Y) (xs : List X) → list_any p (map f xs) ≡ list_any (λ x. p (f x)) xs
any_mapped p f [] = refl
any_mapped p f (x ∷ xs) = ap (λ (b : Bool). p (f x) || b) (any_mapped p f xs)

-- the last so many, turned round
pub newest_reversed : {X : Type 0} (n : ℕ) (xs : List X) → reverse (drop (length xs - n) xs) ≡ take n (reverse xs)
newest_reversed n [] = ap reverse (drop_all (0 - n) [] (omega arith)) ∙ sym (take_all n [] (omega arith))
newest_reversed n (x ∷ xs) = by (short n (length xs)) (newest_reversed n xs)
  where
    short : (n m : ℕ) → (n ≤ m) ⊎ (suc m ≤ n)
    short zero m = inl (omega arith)
    short (suc n) zero = inr (omega arith)
    short (suc n) (suc m) = elim (short n m) [ inl le ↦ inl (omega (arith, le)) | inr le ↦ inr (omega (arith, le)) ]

    by : (n ≤ length xs) ⊎ (suc (length xs) ≤ n) → reverse (drop (length xs - n) xs) ≡ take n (reverse xs) → reverse (drop (suc (length xs) - n) (x ∷ xs)) ≡ take n (reverse (x ∷ xs))
    by (inl le) later =
        let fewer : suc (length xs) - n ≡ suc (length xs - n) = omega (arith, le) in
        rw fewer (later ∙ sym (take-append-le n (reverse xs) (x ∷ []) (omega (arith, le, length-reverse xs))) ∙ ap (take n) (sym (turned x xs)))
    by (inr le) later =
        let none : suc (length xs) - n ≡ 0 = omega (arith, le) in
        rw none (sym (take_all n (reverse (x ∷ xs)) (omega (arith, le, length-reverse (x ∷ xs)))))

-- what is taken twice
pub take_once : {X : Type 0} (n : ℕ) (xs : List X) → take n (take (suc n) xs) ≡ take n xs
take_once zero xs = refl
take_once (suc n) [] = refl
take_once {X = X} (suc n) (x ∷ xs) = ap (λ (l : List X). x ∷ l) (take_once n xs)

-- what passes a test among the first of a list does among the first of a longer one
pub any_first : {X : Type 0} (p : X → Bool) (n : ℕ) (xs ys : List X) → list_any p (take n xs) ≡ true → list_any p (take n (xs ++ ys)) ≡ true
any_first p zero xs ys is = is
any_first p (suc n) [] ys is = absurd cc
any_first p (suc n) (x ∷ xs) ys is = by (p x) is (any_first p n xs ys)
  where
    by : (b : Bool) → (b || list_any p (take n xs)) ≡ true → (list_any p (take n xs) ≡ true → list_any p (take n (xs ++ ys)) ≡ true) → (b || list_any p (take n (xs ++ ys))) ≡ true
    by true is later = refl
    by false is later = later is

-- what is found passes the test
pub found_any : {X : Type 0} (p q : X → Bool) (xs : List X) (x : X) → find p xs ≡ Some x → q x ≡ true → list_any q xs ≡ true
found_any p q [] x is holds = absurd cc
found_any p q (y ∷ xs) x is holds = by (p y) is (found_any p q xs x)
  where
    some_is : {A : Type 0} (a b : A) → Some a ≡ Some b → a ≡ b
    some_is a b e = cc

    first : (b : Bool) → q y ≡ b → y ≡ x → (b || list_any q xs) ≡ true
    first true test same = refl
    first false test same = absurd (let one : q y ≡ true = ap q same ∙ holds in cc)

    or_true : (b : Bool) → (b || true) ≡ true
    or_true true = refl
    or_true false = refl

    by : (b : Bool) → (cond b (Some y) (find p xs)) ≡ Some x → (find p xs ≡ Some x → q x ≡ true → list_any q xs ≡ true) → (q y || list_any q xs) ≡ true
    by true is later = first (q y) refl (some_is y x is)
    by false is later = rw (later is holds) (or_true (q y))

pub all_push : {X : Type 0} (P : X → Type 0) (xs : List X) (x : X) → AllByRecursion P xs → P x → AllByRecursion P (xs ++ x ∷ [])
all_push P [] x all last = (last, tt)
all_push P (y ∷ xs) x all last = (all.0, all_push P xs x all.1 last)

pub all_as : {X : Type 0} (P Q : X → Type 0) (xs : List X) → ((x : X) → P x → Q x) → AllByRecursion P xs → AllByRecursion Q xs
all_as P Q [] gives all = tt
all_as P Q (x ∷ xs) gives all = (gives x all.0, all_as P Q xs gives all.1)

pub all_both : {X : Type 0} (P Q R : X → Type 0) (xs : List X) → ((x : X) → P x → Q x → R x) → AllByRecursion P xs → AllByRecursion Q xs → AllByRecursion R xs
all_both P Q R [] gives all each = tt
all_both P Q R (x ∷ xs) gives all each = (gives x all.0 each.0, all_both P Q R xs gives all.1 each.1)

-- none passes the test
pub none_any : {X : Type 0} (p : X → Bool) (xs : List X) → list_any p xs ≡ false → AllByRecursion (λ x. p x ≡ false) xs
none_any p [] is = tt
none_any p (x ∷ xs) is = by (p x) refl is (none_any p xs)
  where
    by : (b : Bool) → p x ≡ b → (b || list_any p xs) ≡ false → (list_any p xs ≡ false → AllByRecursion (λ x. p x ≡ false) xs) → (p x ≡ false) × AllByRecursion (λ x. p x ≡ false) xs
    by true test is later = absurd cc
    by false test is later = (test, later is)

-- ---- one of a list

in_either : {X : Type 0} (xs ys : List X) (x : X) → IsIn x (xs ++ ys) → IsIn x xs ⊎ IsIn x ys
in_either [] ys x is = inr is
in_either (y ∷ xs) ys x (inl here) = inl (inl here)
in_either (y ∷ xs) ys x (inr there) = elim (in_either xs ys x there) [ inl first ↦ inl (inr first) | inr second ↦ inr second ]

in_first : {X : Type 0} (xs ys : List X) (x : X) → IsIn x xs → IsIn x (xs ++ ys)
in_first [] ys x is = absurd is
in_first (y ∷ xs) ys x (inl here) = inl here
in_first (y ∷ xs) ys x (inr there) = inr (in_first xs ys x there)

in_second : {X : Type 0} (xs ys : List X) (x : X) → IsIn x ys → IsIn x (xs ++ ys)
in_second [] ys x is = is
in_second (y ∷ xs) ys x is = inr (in_second xs ys x is)

pub in_reversed : {X : Type 0} (xs : List X) (x : X) → IsIn x (reverse xs) → IsIn x xs
in_reversed [] x is = is
in_reversed (y ∷ xs) x is = by (in_either (reverse xs) (y ∷ []) x (subst (IsIn x) (turned y xs) is)) (in_reversed xs x)
  where
    by : IsIn x (reverse xs) ⊎ IsIn x (y ∷ []) → (IsIn x (reverse xs) → IsIn x xs) → IsIn x (y ∷ xs)
    by (inl there) later = inr (later there)
    by (inr (inl here)) later = inl here
    by (inr (inr none)) later = absurd none

pub reversed_in : {X : Type 0} (xs : List X) (x : X) → IsIn x xs → IsIn x (reverse xs)
reversed_in [] x is = is
reversed_in (y ∷ xs) x (inl here) = subst (IsIn x) (sym (turned y xs)) (in_second (reverse xs) (y ∷ []) x (inl here))
reversed_in (y ∷ xs) x (inr there) = subst (IsIn x) (sym (turned y xs)) (in_first (reverse xs) (y ∷ []) x (reversed_in xs x there))

pub in_mapped : {X Y : Type 0} (f : X → Y) (xs : List X) (y : Y) → IsIn y (map f xs) → (x : X) × IsIn x xs × (f x ≡ y)
in_mapped f [] y is = absurd is
in_mapped f (x ∷ xs) y (inl here) = (x, inl refl, here)
in_mapped f (x ∷ xs) y (inr there) = let rest = in_mapped f xs y there in (rest.0, inr rest.1, rest.2)

pub mapped_in : {X Y : Type 0} (f : X → Y) (xs : List X) (x : X) → IsIn x xs → IsIn (f x) (map f xs)
mapped_in f [] x is = absurd is
mapped_in f (y ∷ xs) x (inl here) = inl (ap f here)
mapped_in f (y ∷ xs) x (inr there) = inr (mapped_in f xs x there)
