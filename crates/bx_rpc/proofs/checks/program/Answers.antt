use Rattle.std.proofs.Common.{◌≡◌, refl, sym, ◌∙◌, inl, inr, arith}
use Rattle.std.proofs.lemmas.Result.{err_from_is_err_and}
use Rattle.bx_xdr.specs.Items.{SpellsWord, Lacks}
use Rattle.bx_rpc.specs.Checks.{Verdict, Checks}
use Rattle.bx_rpc.specs.Checks.Verdict.{refused}
use Rattle.bx_rpc.proofs.Steps.{stops_then}
use Rattle.bx_rpc.proofs.checks.program.Goals as goal

pub returns-in_default-clause-err : goal.returns-in_default-clause-err
returns-in_default-clause-err c =
    (omega arith, inr (_, _, c.in_ok-word.ensures.ok, inl (omega arith, inr (_, _, c.in_ok-program.ensures.ok, inr (c.in_default.ensures.none, refl)))))

pub returns-in_err-word-2-clause-err : goal.returns-in_err-word-2-clause-err
returns-in_err-word-2-clause-err c =
    let p = err_from_is_err_and c.from_residual-in_err-word-2.result c.from_residual-in_err-word-2.ensures.1 in
    let P : Verdict → Type 0 = λ verdict. (verdict ≡ refused 7 0) × Lacks SpellsWord c.word-2.new.reader in
    let Q : Verdict → Type 0 = λ verdict. Checks verdict c.args.reader.now in
    rw (p.1, p.2) (stops_then P Q c.in_err-word-2.field-0.0 c.in_err-word-2.ensures.err (λ verdict is.
    inr (_, _, c.in_ok-word.ensures.ok, inl (omega arith, inr (_, _, c.in_ok-program.ensures.ok, inl (c.in-Some.ensures.some.0, inl (is.1, is.0)))))))

pub returns-then-branch-version-clause-err : goal.returns-then-branch-version-clause-err
returns-then-branch-version-clause-err c =
    (omega arith, inr (_, _, c.in_ok-word.ensures.ok, inl (omega arith, inr (_, _, c.in_ok-program.ensures.ok, inl (c.in-Some.ensures.some.0, inr (_, _, c.in_ok-word-2.ensures.ok, inr ((λ same. c.if-branch-version.true (same ∙ sym c.in-Some.ensures.some.1)), refl)))))))

pub returns-clause-ok : goal.returns-clause-ok
returns-clause-ok c = λ verdict later.
    inr (_, _, c.in_ok-word.ensures.ok, inl (omega arith, inr (_, _, c.in_ok-program.ensures.ok, inl (c.in-Some.ensures.some.0, inr (_, _, c.in_ok-word-2.ensures.ok, inl (c.if-branch-version.false ∙ c.in-Some.ensures.some.1, later))))))
