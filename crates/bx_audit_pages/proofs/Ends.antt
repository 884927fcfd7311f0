-- What follows where something is torn.
use Rattle.std.proofs.Common.{◌≡◌, ℕ, subst, sym, Result, Err}
use Rattle.bx_audit_pages.specs.declared.error.AuditError.{AuditError}
use Rattle.bx_audit_pages.specs.declared.error.AuditError.TheVariants.{Torn, Fault, OutOfMemory}
use Rattle.bx_audit_pages.specs.Errors.{IfTorn, IfTornError}

pub if_torn : {A : Type 0} (P Q : ℕ → ℕ → ℕ → Type 0) (error : AuditError) (now : Result A AuditError) → now ≡ Err error → ((at found wanted : ℕ) → P at found wanted → Q at found wanted)
    → IfTornError error P → IfTorn now Q
if_torn P Q (Torn at found wanted) now is implies holds = subst (λ r. IfTorn r Q) (sym is) (implies at found wanted holds)
if_torn P Q Fault now is implies holds = subst (λ r. IfTorn r Q) (sym is) tt
if_torn P Q OutOfMemory now is implies holds = subst (λ r. IfTorn r Q) (sym is) tt

-- of what is torn two facts hold together
pub both_torn : (P Q : ℕ → ℕ → ℕ → Type 0) (error : AuditError) → IfTornError error P → IfTornError error Q → IfTornError error (λ at found wanted. P at found wanted × Q at found wanted)
both_torn P Q (Torn at found wanted) holds too = (holds, too)
both_torn P Q Fault holds too = tt
both_torn P Q OutOfMemory holds too = tt
