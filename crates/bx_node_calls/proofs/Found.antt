-- What holds of what is found, and where there are results.
use Rattle.std.proofs.Common.{◌≡◌, ◌≢◌, ◌⊎◌, ℕ, Option, Some, None, IfOk, IsSomeAnd, OnOk, Result, Ok, Err, refl, sym, subst, arith}

-- two numbers are the same, or not
pub same_or : (a b : ℕ) → (a ≡ b) ⊎ (a ≢ b)
same_or a b = grind arith

-- ---- what is found

-- what is said of one that is there
pub some_and : {A : Type 0} (P : A → Type 0) (found : Option A) (one : A) → found ≡ Some one → IsSomeAnd found P → P one
some_and P found one there is = subst (λ f. IsSomeAnd f P) there is

pub and_some : {A : Type 0} (P : A → Type 0) (found : Option A) (one : A) → found ≡ Some one → P one → IsSomeAnd found P
and_some P found one there is = subst (λ f. IsSomeAnd f P) (sym there) is

-- and which one that is
pub which : {A : Type 0} (P : A → Type 0) (found : Option A) → IsSomeAnd found P → (one : A) × (found ≡ Some one) × P one
which P None is = absurd is
which P (Some one) is = (one, refl, is)

-- ---- results

-- what holds where there is a result
pub on_ok_then : {A F : Type 0} (P Q : Type 0) (r : Result A F) → (P → Q) → OnOk r P → OnOk r Q
on_ok_then P Q (Ok a) gives is = gives is
on_ok_then P Q (Err e) gives is = tt

pub on_ok_two : {A F : Type 0} (P Q R : Type 0) (r : Result A F) → (P → Q → R) → OnOk r P → OnOk r Q → OnOk r R
on_ok_two P Q R (Ok a) by is also = by is also
on_ok_two P Q R (Err e) by is also = tt

-- .. and of the result
pub if_ok_with : {A F : Type 0} (P R : A → Type 0) (Q : Type 0) (r : Result A F) → ((a : A) → P a → Q → R a) → IfOk r P → OnOk r Q → IfOk r R
if_ok_with P R Q (Ok a) by is also = by a is also
if_ok_with P R Q (Err e) by is also = tt

pub if_ok_both : {A F : Type 0} (P Q R : A → Type 0) (r : Result A F) → ((a : A) → P a → Q a → R a) → IfOk r P → IfOk r Q → IfOk r R
if_ok_both P Q R (Ok a) by is also = by a is also
if_ok_both P Q R (Err e) by is also = tt

pub if_ok_three : {A F : Type 0} (P Q R : A → Type 0) (N : Type 0) (r : Result A F) → ((a : A) → P a → Q a → N → R a) → IfOk r P → IfOk r Q → OnOk r N → IfOk r R
if_ok_three P Q R N (Ok a) by is also last = by a is also last
if_ok_three P Q R N (Err e) by is also last = tt

pub if_ok_and : {A F : Type 0} (P Q : A → Type 0) (r : Result A F) → IfOk r P → IfOk r Q → IfOk r (λ a. P a × Q a)
if_ok_and P Q (Ok a) is also = (is, also)
if_ok_and P Q (Err e) is also = tt

pub on_ok_with : {A F : Type 0} (P : A → Type 0) (Q R : Type 0) (r : Result A F) → ((a : A) → P a → Q → R) → IfOk r P → OnOk r Q → OnOk r R
on_ok_with P Q R (Ok a) by is also = by a is also
on_ok_with P Q R (Err e) by is also = tt

-- .. or what follows of it
pub on_ok_by : {A F : Type 0} (P : A → Type 0) (R : Type 0) (r : Result A F) → IfOk r P → ((a : A) → P a → OnOk r R) → OnOk r R
on_ok_by P R (Ok a) is by = by a is
on_ok_by P R (Err e) is by = tt
