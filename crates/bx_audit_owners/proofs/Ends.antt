-- What follows where something is torn, or ends otherwise.
use Rattle.std.proofs.Common.{◌≡◌, ℕ, subst, Result, Ok, Err}
use Rattle.std.specs.Prelude.{OnOk}
use Rattle.bx_audit_pages.specs.declared.error.AuditError.{AuditError}
use Rattle.bx_audit_pages.specs.declared.error.AuditError.TheVariants.{Torn, Fault, OutOfMemory}
use Rattle.bx_audit_pages.specs.Errors.{IfTorn, IfTornError}

-- what is never torn is torn for any reason
pub never_torn : {A : Type 0} (Q : ℕ → ℕ → ℕ → Type 0) (now : Result A AuditError) → IfTorn now (λ at found wanted. ⊥) → IfTorn now Q
never_torn Q (Ok value) never = tt
never_torn Q (Err (Torn at found wanted)) never = absurd never
never_torn Q (Err Fault) never = tt
never_torn Q (Err OutOfMemory) never = tt

-- what is torn for a reason is so for what follows from it
pub torn_too : {A : Type 0} (P Q : ℕ → ℕ → ℕ → Type 0) (now : Result A AuditError) → ((at found wanted : ℕ) → P at found wanted → Q at found wanted) → IfTorn now P → IfTorn now Q
torn_too P Q (Ok value) implies holds = tt
torn_too P Q (Err (Torn at found wanted)) implies holds = implies at found wanted holds
torn_too P Q (Err Fault) implies holds = tt
torn_too P Q (Err OutOfMemory) implies holds = tt

-- what holds of each thing of some kind, of what is torn, holds of all of them
pub each_torn : (error : AuditError) (X : Type 0) (P : X → Type 0) (Q : X → ℕ → Type 0) → ((x : X) → P x → IfTornError error (λ at found wanted. Q x wanted))
    → IfTornError error (λ at found wanted. (x : X) → P x → Q x wanted)
each_torn (Torn at found wanted) X P Q each = each
each_torn Fault X P Q each = tt
each_torn OutOfMemory X P Q each = tt

-- what holds of an error that is a torn block
pub of_torn : (P : ℕ → ℕ → ℕ → Type 0) (error : AuditError) (at found wanted : ℕ) → error ≡ Torn at found wanted → IfTornError error P → P at found wanted
of_torn P error at found wanted is holds = subst (λ (e : AuditError). IfTornError e P) is holds

pub ok_too : {A E : Type 0} (P Q : Type 0) (now : Result A E) → (P → Q) → OnOk now P → OnOk now Q
ok_too P Q (Ok value) implies holds = implies holds
ok_too P Q (Err error) implies holds = tt
