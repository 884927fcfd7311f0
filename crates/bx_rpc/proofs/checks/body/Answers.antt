use Rattle.std.proofs.Common.{◌≡◌, ℕ, inl}
use Rattle.std.proofs.lemmas.Result.{err_from_is_err_and}
use Rattle.bx_xdr.specs.Items.{SpellsWord, Lacks}
use Rattle.bx_rpc.specs.Checks.{Verdict, FromBody}
use Rattle.bx_rpc.specs.Checks.Verdict.{refused}
use Rattle.bx_rpc.proofs.Steps.{stops_then}
use Rattle.bx_rpc.proofs.checks.body.Goals as goal

pub returns-in_err-word-clause-err : goal.returns-in_err-word-clause-err
returns-in_err-word-clause-err c =
    let p = err_from_is_err_and c.from_residual.result c.from_residual.ensures.1 in
    let P : Verdict → Type 0 = λ verdict. (verdict ≡ refused 7 0) × Lacks SpellsWord c.new-ahead.result in
    let Q : Verdict → Type 0 = λ verdict. (program procedure flavor : ℕ) → FromBody program procedure flavor verdict c.args.reader.now in
    rw (p.1, p.2) (stops_then P Q c.in_err-word.field-0.0 c.in_err-word.ensures.err (λ verdict is program procedure flavor. inl (rw (c.new-ahead.ensures, c.rest.ensures) at is.1, is.0)))
