use Rattle.std.proofs.Common.{None, sym, arith}
use Rattle.bx_plain_store.proofs.Places.{at_past, at_read}
use Rattle.bx_plain_store.proofs.parts.find_session.Goals as goal

pub returns-then-place-owns : goal.returns-then-place-owns
returns-then-place-owns c = sym (at_past c.args.owns.now c.args.place (omega (arith, c.if-place-owns.true)))

pub returns : goal.returns
returns c = at_read c.args.owns.now c.args.place None (omega (arith, c.if-place-owns.false))
