-- Each block has one request in a clerk's map.
use Rattle.std.proofs.Common.{◌≡◌, ⊎_elim, ℕ, [], ◌∷◌, Some, None, refl, sym, ◌∙◌, ap}
use Rattle.std.specs.List.{AllByRecursion}
use Rattle.std.proofs.lemmas.Bool.Decides.{eqb_tells}
use Rattle.bx_global.proofs.Kept.{all_is}
use Rattle.bx_clerk.specs.Requests.{Requests, request_in, with_request, without_request}
use Rattle.bx_clerk.specs.declared.requests.Asking.{Asking}
use Rattle.bx_clerk.proofs.Lookups.{out_beside, put_beside}
use Rattle.bx_lock_steps.specs.Machines.{AreUnique}

pub put_unique : (requests : Requests) (b : ℕ) (asking : Asking) → AreUnique requests → AreUnique (with_request requests b asking)
put_unique [] b asking unique = (refl, tt)
put_unique (entry ∷ rest) b asking unique = ⊎_elim
    (λ same. rw same.0 (unique.0, unique.1))
    (λ other. rw other.0 (put_beside rest b entry.0 asking (λ is. other.1 (sym is)) ∙ unique.0, put_unique rest b asking unique.1))
    (eqb_tells b entry.0)

pub out_unique : (requests : Requests) (b : ℕ) → AreUnique requests → AreUnique (without_request requests b)
out_unique [] b unique = tt
out_unique (entry ∷ rest) b unique = ⊎_elim
    (λ same. rw same.0 (out_unique rest b unique.1))
    (λ other. rw other.0 (out_beside rest b entry.0 (λ is. other.1 (sym is)) ∙ unique.0, out_unique rest b unique.1))
    (eqb_tells b entry.0)

-- so each entry is the request for its block
pub each_found : (requests : Requests) → AreUnique requests → AllByRecursion (λ (entry : ℕ × Asking). request_in requests entry.0 ≡ Some entry.1) requests
each_found [] unique = tt
each_found (first ∷ rest) unique = (
  ⊎_elim (λ same. rw same.0 refl) (λ other. absurd (other.1 refl)) (eqb_tells first.0 first.0),
  all_is (λ (entry : ℕ × Asking). request_in rest entry.0 ≡ Some entry.1) (λ (entry : ℕ × Asking). request_in (first ∷ rest) entry.0 ≡ Some entry.1)
      (λ entry is. ⊎_elim
      (λ same. absurd (none_some entry.1 (sym unique.0 ∙ ap (request_in rest) (sym same.1) ∙ is)))
      (λ other. rw other.0 is)
      (eqb_tells entry.0 first.0))
      rest (each_found rest unique.1),
)
  where
    none_some : (a : Asking) → None ≡ Some a → ⊥
    none_some a wrong = cc
