-- How a call ends that passes an error on.
use Rattle.std.proofs.Common.{◌≡◌, ◌∙◌, Result, Ok, Err, sym, ap}
use Rattle.std.specs.Result.{IsErrAnd, IsErrOf}
use Rattle.bx_facts.specs.declared.input.FactError.{FactError}
use Rattle.bx_facts.specs.declared.input.FactError.TheVariants.{Disk as DiskFails}

-- the error with which a call ended is the one that is returned
pub err_back : {A T : Type 0} (r : Result T FactError) (error : FactError) → IsErrAnd r (λ y. y ≡ error) → IsErrOf r DiskFails → IsErrOf {T = A} {E = FactError} (Err error) DiskFails
err_back (Ok value) error ends is = absurd ends
err_back (Err other) error ends is = let same : other ≡ DiskFails = cc in ap (λ (e : FactError). Err e) (sym ends ∙ same)
