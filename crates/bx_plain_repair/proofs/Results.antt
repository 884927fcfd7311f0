-- What holds on errors.
use Rattle.std.proofs.Common.{◌≡◌, inl, inr, ℕ, ◌≤◌, arith, Err, IsErrAnd, Ok, OnErr, Result, sym, ◌∙◌}
use Rattle.std.proofs.lemmas.Result.{err_from_is_err_and}
use Rattle.bx_base.specs.Faults.{Rose}

-- what always holds does so on errors
pub on_err : {T E : Type 0} (P : Type 0) (result : Result T E) → P → OnErr result P
on_err P (Ok value) holds = tt
on_err P (Err error) holds = holds

-- an error that is passed on is the one that came
pub passed_on : {T E : Type 0} (error fault : E) (result : Result T E) → result ≡ Err fault → IsErrAnd result (λ e. e ≡ error) → error ≡ fault
passed_on error fault result is and = let p = err_from_is_err_and result and in let same : p.0 ≡ fault = (let h = sym p.1 ∙ is in cc) in sym p.2 ∙ same

-- a count that rose at last rose
pub rose_since : (before mid now : ℕ) → before ≤ mid → Rose mid now → Rose before now
rose_since before mid now le (inl more) = inl (omega (arith, le, more))
rose_since before mid now le (inr most) = inr most
