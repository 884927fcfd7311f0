use Rattle.std.proofs.Common.{◌≡◌, ℕ, refl, inl, inr, arith}
use Rattle.std.proofs.lemmas.Result.{err_from_is_err_and}
use Rattle.bx_xdr.specs.Items.{SpellsWord, SpellsOpaque, Lacks}
use Rattle.bx_xdr.proofs.Grammar.{lacks-first, lacks-second, reads_then}
use Rattle.bx_xdr.proofs.Spelling.{word_once}
use Rattle.bx_rpc.specs.declared.caller.Caller.{Caller}
use Rattle.bx_rpc.specs.Checks.{Verdict, FromVerifier}
use Rattle.bx_rpc.specs.Checks.Verdict.{refused}
use Rattle.bx_rpc.proofs.Steps.{stops_then}
use Rattle.bx_rpc.proofs.checks.verifier.Goals as goal

pub returns-in_err-word-clause-err : goal.returns-in_err-word-clause-err
returns-in_err-word-clause-err c =
    let p = err_from_is_err_and c.from_residual.result c.from_residual.ensures.1 in
    let P : Verdict → Type 0 = λ verdict. (verdict ≡ refused 7 0) × Lacks SpellsWord c.args.reader.now in
    let Q : Verdict → Type 0 = λ verdict. (program procedure : ℕ) (caller : Caller) → FromVerifier program procedure caller verdict c.args.reader.now in
    rw (p.1, p.2) (stops_then P Q c.in_err-word.field-0.0 c.in_err-word.ensures.err (λ verdict is program procedure caller. inl (lacks-first SpellsWord (SpellsOpaque 400) _ is.1, is.0)))

pub returns-in_default-clause-err : goal.returns-in_default-clause-err
returns-in_default-clause-err c =
    (omega arith, λ program procedure caller. inl (lacks-second SpellsWord (SpellsOpaque 400) _ _ _ word_once c.in_ok-word.ensures.ok c.in_default.ensures.none, refl))

pub returns-clause-ok : goal.returns-clause-ok
returns-clause-ok c = λ program procedure caller. inr ((_, _), _, reads_then c.in_ok-word.ensures.ok c.in-Some.ensures.some, refl)
