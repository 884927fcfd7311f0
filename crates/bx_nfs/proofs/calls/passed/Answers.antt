use Rattle.std.proofs.Common.{inl}
use Rattle.std.proofs.lemmas.List.{take_rest}
use Rattle.bx_nfs.proofs.calls.passed.Goals as goal

pub returns-in_default : goal.returns-in_default
returns-in_default c =
    inl (rw (c.in_default.is, c.form_of-form.ensures, c.new-reader.ensures, take_rest) at c.in_ok-args.ensures.none, c.refused.ensures)
