use Rattle.std.proofs.Common.{ℕ}
use Rattle.std.proofs.lemmas.Result.{err_from_is_err_and}
use Rattle.bx_rpc.specs.declared.caller.Caller.{Caller}
use Rattle.bx_rpc.specs.Checks.{Verdict, Checks, FromProcedure, FromCredential, FromVerifier}
use Rattle.bx_rpc.proofs.Steps.{stops_then}
use Rattle.bx_rpc.proofs.checks.read_header.Goals as goal

pub returns-in_err-procedure-clause-err : goal.returns-in_err-procedure-clause-err
returns-in_err-procedure-clause-err c =
    let p = err_from_is_err_and c.from_residual-in_err-procedure.result c.from_residual-in_err-procedure.ensures.1 in
    let P : Verdict → Type 0 = λ verdict. FromProcedure c.in_ok-program.program verdict c.program.new.reader in
    let Q : Verdict → Type 0 = λ verdict. Checks verdict c.args.reader.now in
    rw (p.1, p.2) (stops_then P Q c.in_err-procedure.field-0.0 c.in_err-procedure.ensures.err (λ verdict is. c.in_ok-program.ensures.ok verdict is))

pub returns-in_err-caller-clause-err : goal.returns-in_err-caller-clause-err
returns-in_err-caller-clause-err c =
    let p = err_from_is_err_and c.from_residual-in_err-caller.result c.from_residual-in_err-caller.ensures.1 in
    let P : Verdict → Type 0 = λ verdict. (program procedure : ℕ) → FromCredential program procedure verdict c.procedure.new.reader in
    let Q : Verdict → Type 0 = λ verdict. Checks verdict c.args.reader.now in
    rw (p.1, p.2) (stops_then P Q c.in_err-caller.field-0.0 c.in_err-caller.ensures.err (λ verdict is.
    c.in_ok-program.ensures.ok verdict (c.in_ok-procedure.ensures.ok verdict (is c.in_ok-program.program c.in_ok-procedure.procedure))))

pub returns-in_err-verifier-clause-err : goal.returns-in_err-verifier-clause-err
returns-in_err-verifier-clause-err c =
    let p = err_from_is_err_and c.from_residual-in_err-verifier.result c.from_residual-in_err-verifier.ensures.1 in
    let P : Verdict → Type 0 = λ verdict. (program procedure : ℕ) (caller : Caller) → FromVerifier program procedure caller verdict c.credential.new.reader in
    let Q : Verdict → Type 0 = λ verdict. Checks verdict c.args.reader.now in
    rw (p.1, p.2) (stops_then P Q c.in_err-verifier.field-0.0 c.in_err-verifier.ensures.err (λ verdict is.
    c.in_ok-program.ensures.ok verdict (c.in_ok-procedure.ensures.ok verdict (c.in_ok-caller.ensures.ok c.in_ok-program.program c.in_ok-procedure.procedure verdict (is c.in_ok-program.program c.in_ok-procedure.procedure c.in_ok-caller.caller)))))

pub returns-clause-ok : goal.returns-clause-ok
returns-clause-ok c =
    c.in_ok-program.ensures.ok _ (c.in_ok-procedure.ensures.ok _ (c.in_ok-caller.ensures.ok c.in_ok-program.program c.in_ok-procedure.procedure _ (c.in_ok-verifier.ensures.ok c.in_ok-program.program c.in_ok-procedure.procedure c.in_ok-caller.caller)))
