-- Calls that lack their points, by their numbers.
use Rattle.std.proofs.Common.{◌≡◌, ℕ, true, false, List, [], ◌∷◌, None, refl, arith}
use Rattle.std.specs.Prelude.{◌==◌}
use Rattle.std.proofs.lemmas.Bool.Decides.{nat_tests}
use Rattle.bx_cluster.specs.Closing.{lacks_point}
use Rattle.bx_history.specs.Account.{LacksPoint}
use Rattle.bx_history.specs.Trace.{Entry, FitsNewest, Taking, taking_of}
use Rattle.bx_script.specs.declared.trace_line.TraceLine.{TraceLine}
use Rattle.bx_script.specs.declared.trace_line.TraceLine.TheVariants.{Took, Acted, Reply, Again}

-- numbers begin with 1
none_zero : (kept : ℕ) (trace : List TraceLine) (history : List Entry) → FitsNewest kept trace history → taking_of trace 0 ≡ None
none_zero kept [] history fits = refl
none_zero kept (Took call node client bytes ∷ older) history fits =
    let apart : (call == 0) ≡ false = let e = fits.0 in grind (arith, nat_tests, e) in
    rw apart (none_zero kept older history fits.1)
none_zero kept (Acted point ∷ older) [] fits = absurd fits
none_zero kept (Acted point ∷ older) (entry ∷ earlier) fits = none_zero kept older earlier fits.1
none_zero kept (Reply call reply ∷ older) history fits = none_zero kept older history fits.1
none_zero kept (Again node client reply ∷ older) history fits = none_zero kept older history fits.1

-- so a record of no call lacks none
pub lacks_zero : (kept : ℕ) (trace : List TraceLine) (history : List Entry) → FitsNewest kept trace history → lacks_point trace 0 ≡ false
lacks_zero kept trace history fits = rw (none_zero kept trace history fits) refl

-- a call that was taken and has none
pub lacks_one : (trace : List TraceLine) (taking : Taking) → LacksPoint trace taking → lacks_point trace taking.call ≡ true
lacks_one trace taking lacks = rw (lacks.taken, lacks.no_point) refl
