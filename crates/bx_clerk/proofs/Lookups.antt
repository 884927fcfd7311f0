-- Requests that are looked up by their block.
use Rattle.std.proofs.Common.{◌≡◌, ◌≢◌, ℕ, Bool, true, false, nat_eq, [], ◌∷◌, Option, Some, None, refl, sym, ap, ◌∙◌, arith}
use Rattle.std.specs.Prelude.{not, if◌then◌else◌}
use Rattle.std.proofs.lemmas.Bool.Decides.{nat_tests}
use Rattle.bx_clerk.specs.declared.requests.Asking.{Asking}
use Rattle.bx_clerk.specs.Requests.{Requests, request_in, with_request, without_request}

is_itself : (n : ℕ) → nat_eq n n ≡ true
is_itself n = grind (arith, nat_tests)

is_other : (n m : ℕ) → m ≢ n → nat_eq m n ≡ false
is_other n m other = by_test (nat_eq m n) refl
  where
    by_test : (t : Bool) → nat_eq m n ≡ t → nat_eq m n ≡ false
    by_test true is = absurd (other (grind (arith, nat_tests, is)))
    by_test false is = is

-- what was put there, and what was there beside it
pub put_here : (requests : Requests) (block : ℕ) (asking : Asking) → request_in (with_request requests block asking) block ≡ Some asking
put_here [] block asking = ap (λ t. if t then Some asking else None) (is_itself block)
put_here (e ∷ es) block asking = by_test (nat_eq block e.0) refl (put_here es block asking)
  where
    by_test : (t : Bool) → nat_eq block e.0 ≡ t → request_in (with_request es block asking) block ≡ Some asking → request_in (if t then (e.0, asking) ∷ es else e ∷ with_request es block asking) block ≡ Some asking
    by_test true is rest = ap (λ t. if t then Some asking else request_in es block) is
    by_test false is rest = ap (λ t. if t then Some e.1 else request_in (with_request es block asking) block) is ∙ rest

pub put_beside : (requests : Requests) (block other : ℕ) (asking : Asking) → other ≢ block → request_in (with_request requests block asking) other ≡ request_in requests other
put_beside [] block other asking apart = ap (λ t. if t then Some asking else None) (is_other block other apart)
put_beside (e ∷ es) block other asking apart = by_test (nat_eq block e.0) refl (put_beside es block other asking apart)
  where
    same : nat_eq block e.0 ≡ true → nat_eq other e.0 ≡ false
    same is = is_other e.0 other (λ one. apart (grind (arith, nat_tests, one, is)))

    by_test : (t : Bool) → nat_eq block e.0 ≡ t → request_in (with_request es block asking) other ≡ request_in es other → request_in (if t then (e.0, asking) ∷ es else e ∷ with_request es block asking) other ≡ request_in (e ∷ es) other
    by_test true is rest = ap (λ t. if t then Some asking else request_in es other) (same is) ∙ sym (ap (λ t. if t then Some e.1 else request_in es other) (same is))
    by_test false is rest = ap (λ (o : Option Asking). if nat_eq other e.0 then Some e.1 else o) rest

-- none is left where it was taken out, and what was there beside it
pub out_here : (requests : Requests) (block : ℕ) → request_in (without_request requests block) block ≡ None
out_here [] block = refl
out_here (e ∷ es) block = by_test (nat_eq block e.0) refl (out_here es block)
  where
    by_test : (t : Bool) → nat_eq block e.0 ≡ t → request_in (without_request es block) block ≡ None → request_in (if not t then e ∷ without_request es block else without_request es block) block ≡ None
    by_test true is rest = rest
    by_test false is rest = ap (λ t. if t then Some e.1 else request_in (without_request es block) block) is ∙ rest

pub out_beside : (requests : Requests) (block other : ℕ) → other ≢ block → request_in (without_request requests block) other ≡ request_in requests other
out_beside [] block other apart = refl
out_beside (e ∷ es) block other apart = by_test (nat_eq block e.0) refl (out_beside es block other apart)
  where
    same : nat_eq block e.0 ≡ true → nat_eq other e.0 ≡ false
    same is = is_other e.0 other (λ one. apart (grind (arith, nat_tests, one, is)))

    by_test : (t : Bool) → nat_eq block e.0 ≡ t → request_in (without_request es block) other ≡ request_in es other → request_in (if not t then e ∷ without_request es block else without_request es block) other ≡ request_in (e ∷ es) other
    by_test true is rest = rest ∙ sym (ap (λ t. if t then Some e.1 else request_in es other) (same is))
    by_test false is rest = ap (λ (o : Option Asking). if nat_eq other e.0 then Some e.1 else o) rest
