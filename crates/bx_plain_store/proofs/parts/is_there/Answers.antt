use Rattle.std.proofs.Common.{sym, ap, ◌∙◌, arith}
use Rattle.std.specs.Prelude.{is_some}
use Rattle.bx_plain_store.proofs.Serving.{at_got}
use Rattle.bx_plain_store.proofs.Places.{at_past}
use Rattle.bx_plain_store.proofs.parts.is_there.Goals as goal

pub returns-then-place-all : goal.returns-then-place-all
returns-then-place-all g c = sym (ap is_some (at_past c.args.all.now c.args.place (omega (arith, c.if-place-all.true))))

pub returns : goal.returns
returns g c = c.is_some.ensures ∙ ap is_some (at_got c.args.all.now c.args.place c.index-all-place.result (omega (arith, c.if-place-all.false)) c.index-all-place.is)
