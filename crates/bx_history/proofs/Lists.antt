-- Lists that are tested.
use Rattle.std.proofs.Common.{◌≡◌, ◌<◌, Bool, true, false, cond, List, [], ◌∷◌, ◌++◌, inl, inr, refl, sym, ap, subst, ◌∙◌}
use Rattle.std.specs.Prelude.{◌&&◌, filter}
use Rattle.std.specs.List.{AllByRecursion}
use Rattle.bx_history.specs.Trace.{IsIn, Taking}
use Rattle.bx_history.specs.Account.{AreNewestFirst}

pub all_mapped : {X : Type 0} (P Q : X → Type 0) (xs : List X) → ((x : X) → P x → Q x) → AllByRecursion P xs → AllByRecursion Q xs
all_mapped P Q [] gives all = tt
all_mapped P Q (x ∷ xs) gives all = (gives x all.0, all_mapped P Q xs gives all.1)

-- what passes a stronger test is what passes both
filter_step : {X : Type 0} (p q : Bool) (x : X) (ps qs : List X) (r : X → Bool) → r x ≡ q → filter r ps ≡ qs → cond (p && q) (x ∷ qs) qs ≡ filter r (cond p (x ∷ ps) ps)
filter_step true true x ps qs r is rest = rw (is, rest) refl
filter_step true false x ps qs r is rest = rw (is, rest) refl
filter_step false q x ps qs r is rest = sym rest

pub filter_both : {X : Type 0} (p q r : X → Bool) (xs : List X) → ((x : X) → r x ≡ (p x && q x)) → filter r xs ≡ filter q (filter p xs)
filter_both p q r [] is = refl
filter_both p q r (x ∷ xs) is = rw (is x) (filter_step (p x) (q x) x (filter p xs) (filter r xs) q refl (sym (filter_both p q r xs is)))

pub filter_all : {X : Type 0} (p : X → Bool) (xs : List X) → AllByRecursion (λ x. p x ≡ true) xs → filter p xs ≡ xs
filter_all p [] all = refl
filter_all {X = X} p (x ∷ xs) all = rw (all.0) (ap (λ (l : List X). x ∷ l) (filter_all p xs all.1))

-- what holds of all that pass a test
pub all_passed : {X : Type 0} (P Q : X → Type 0) (p : X → Bool) (xs : List X) → ((x : X) → p x ≡ true → P x → Q x) → AllByRecursion P xs → AllByRecursion Q (filter p xs)
all_passed P Q p [] gives all = tt
all_passed P Q p (x ∷ xs) gives all = by (p x) refl (all_passed P Q p xs gives all.1)
  where
    by : (b : Bool) → p x ≡ b → AllByRecursion Q (filter p xs) → AllByRecursion Q (cond b (x ∷ filter p xs) (filter p xs))
    by true is later = (gives x is all.0, later)
    by false is later = later

-- what passes a test keeps its order
pub order_passed : (p : Taking → Bool) (waits : List Taking) → AreNewestFirst waits → AreNewestFirst (filter p waits)
order_passed p [] order = tt
order_passed p (t ∷ waits) order = by (p t) (order_passed p waits order.1)
  where
    by : (b : Bool) → AreNewestFirst (filter p waits) → AreNewestFirst (cond b (t ∷ filter p waits) (filter p waits))
    by true later = (all_passed (λ other. other.call < t.call) (λ other. other.call < t.call) p waits (λ other is less. less) order.0, later)
    by false later = later

-- ---- one of a list

pub one_of : {X : Type 0} (P : X → Type 0) (xs : List X) (x : X) → AllByRecursion P xs → IsIn x xs → P x
one_of P [] x all is = absurd is
one_of P (y ∷ xs) x all (inl here) = subst P here all.0
one_of P (y ∷ xs) x all (inr there) = one_of P xs x all.1 there

pub all_of : {X : Type 0} (P : X → Type 0) (xs : List X) → ((x : X) → IsIn x xs → P x) → AllByRecursion P xs
all_of P [] each = tt
all_of P (y ∷ xs) each = (each y (inl refl), all_of P xs (λ x there. each x (inr there)))

pub all_front : {X : Type 0} (P : X → Type 0) (front : List X) (last : X) → AllByRecursion P (front ++ last ∷ []) → AllByRecursion P front × P last
all_front P [] last all = (tt, all.0)
all_front P (x ∷ front) last all = let rest = all_front P front last all.1 in ((all.0, rest.0), rest.1)

-- it is one of those that pass a test where it is one of all, and passes it
pub in_filter : {X : Type 0} (p : X → Bool) (xs : List X) (x : X) → IsIn x (filter p xs) → IsIn x xs × (p x ≡ true)
in_filter p [] x is = absurd is
in_filter p (y ∷ xs) x is = by (p y) refl (in_filter p xs x) is
  where
    by : (b : Bool) → p y ≡ b → (IsIn x (filter p xs) → IsIn x xs × (p x ≡ true)) → IsIn x (cond b (y ∷ filter p xs) (filter p xs)) → IsIn x (y ∷ xs) × (p x ≡ true)
    by true test later (inl here) = (inl here, sym (ap p here) ∙ test)
    by true test later (inr there) = let rest = later there in (inr rest.0, rest.1)
    by false test later there = let rest = later there in (inr rest.0, rest.1)

pub filter_in : {X : Type 0} (p : X → Bool) (xs : List X) (x : X) → IsIn x xs → p x ≡ true → IsIn x (filter p xs)
filter_in p [] x is passes = absurd is
filter_in p (y ∷ xs) x is passes = by (p y) refl is (λ there. filter_in p xs x there passes)
  where
    by : (b : Bool) → p y ≡ b → IsIn x (y ∷ xs) → (IsIn x xs → IsIn x (filter p xs)) → IsIn x (cond b (y ∷ filter p xs) (filter p xs))
    by true test (inl here) later = inl here
    by true test (inr there) later = inr (later there)
    by false test (inl here) later = absurd (let fails : p x ≡ false = sym (ap p here) ∙ test in cc)
    by false test (inr there) later = later there
