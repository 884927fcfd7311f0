-- What holds of a result that is Ok, from what holds of it already.
use Rattle.std.proofs.Common.{◌≡◌, Result, Ok, Err, IfOk, OnOk, sym, ◌∙◌, subst}
use Rattle.std.specs.Prelude.{IsErrAnd, OnErr}
use Rattle.std.proofs.lemmas.Result.{err_from_is_err_and}
use Rattle.bx_disk.specs.declared.fault.RackError.{RackError}
use Rattle.bx_disk.specs.declared.fault.RackError.TheVariants.{Fault, OutOfMemory as NoMemory}
use Rattle.bx_facts.specs.Inputs.{fact_of}
use Rattle.bx_facts.specs.declared.input.FactError.{FactError}
use Rattle.bx_facts.specs.declared.input.FactError.TheVariants.{Disk, OutOfMemory}

pub if_ok : {A E : Type 0} {P Q : A → Type 0} (result : Result A E) → ((value : A) → P value → Q value) → IfOk result P → IfOk result Q
if_ok (Ok value) so is = so value is
if_ok (Err error) so is = tt

pub on_ok : {A E P Q : Type 0} (result : Result A E) → (P → Q) → OnOk result P → OnOk result Q
on_ok (Ok value) so is = so is
on_ok (Err error) so is = tt

-- of two facts, and of one that holds whatever the result
pub on_both : {A E P Q R : Type 0} (result : Result A E) → (P → Q → R) → OnOk result P → OnOk result Q → OnOk result R
on_both (Ok value) so one other = so one other
on_both (Err error) so one other = tt

pub on_any : {A E Q : Type 0} (result : Result A E) → Q → OnOk result Q
on_any (Ok value) is = is
on_any (Err error) is = tt

pub on_value : {A E : Type 0} {P : A → Type 0} {Q : Type 0} (result : Result A E) → ((value : A) → P value → Q) → IfOk result P → OnOk result Q
on_value (Ok value) so is = so value is
on_value (Err error) so is = tt

pub on_all : {A E P Q R S : Type 0} (result : Result A E) → (P → Q → R → S) → OnOk result P → OnOk result Q → OnOk result R → OnOk result S
on_all (Ok value) so one two three = so one two three
on_all (Err error) so one two three = tt

pub if_both : {A E : Type 0} {P Q : A → Type 0} {S : Type 0} (result : Result A E) → ((value : A) → P value → S → Q value) → IfOk result P → OnOk result S → IfOk result Q
if_both (Ok value) so one other = so value one other
if_both (Err error) so one other = tt

-- a rack's error, where it makes a store's
pub fault_given : {A B : Type 0} (result : Result A RackError) (given : Result B FactError) (error : RackError) → result ≡ Err error → IsErrAnd given (λ made. made ≡ fact_of error) → given ≡ Err Disk → result ≡ Err Fault
fault_given result given Fault was made fault = was
fault_given result given NoMemory was made fault =
    let is = err_from_is_err_and given made in
    let same : Err is.0 ≡ Err Disk = sym is.1 ∙ fault in
    absurd (let e : is.0 ≡ Disk = cc in let no : OutOfMemory ≡ Disk = sym is.2 ∙ e in cc)

-- what holds on success, or else, of a result that is one
pub started : {A E Q : Type 0} (result : Result A E) (value : A) → result ≡ Ok value → OnOk result Q → Q
started {A} {E} {Q} result value was is = subst (λ (r : Result A E). OnOk r Q) was is

pub ended : {A E Q : Type 0} (result : Result A E) (error : E) → result ≡ Err error → OnErr result Q → Q
ended {A} {E} {Q} result error was is = subst (λ (r : Result A E). OnErr r Q) was is
