-- What results imply.
use Rattle.std.proofs.Common.{ℕ, Result, Ok, Err}
use Rattle.std.specs.Prelude.{OnOk}
use Rattle.bx_audit_pages.specs.declared.error.AuditError.{AuditError}
use Rattle.bx_audit_pages.specs.declared.error.AuditError.TheVariants.{Torn, Fault, OutOfMemory}
use Rattle.bx_audit_pages.specs.Errors.{IfTorn}

pub torn_too : {A : Type 0} (P Q : ℕ → ℕ → ℕ → Type 0) (r : Result A AuditError) → ((at found wanted : ℕ) → P at found wanted → Q at found wanted) → IfTorn r P → IfTorn r Q
torn_too P Q (Ok x) implies is = is
torn_too P Q (Err (Torn at found wanted)) implies is = implies at found wanted is
torn_too P Q (Err Fault) implies is = is
torn_too P Q (Err OutOfMemory) implies is = is

pub ok_too : {A E : Type 0} (P Q : Type 0) (r : Result A E) → (P → Q) → OnOk r P → OnOk r Q
ok_too P Q (Ok x) implies is = implies is
ok_too P Q (Err e) implies is = is
