use Rattle.std.proofs.Common.{inl, inr, arith}
use Rattle.bx_plain_store.proofs.Serving.{at_beside, at_here}
use Rattle.bx_plain_store.proofs.Places.{at_past}
use Rattle.bx_plain_store.proofs.sessions.put_session.Goals as goal

pub returns-then-place-len-clause-own : goal.returns-then-place-len-clause-own
returns-then-place-len-clause-own c = λ less. at_here c.args.owns.now.items c.args.place c.args.session less

pub returns-then-place-len-clause-own_or : goal.returns-then-place-len-clause-own_or
returns-then-place-len-clause-own_or c = inl (at_here c.args.owns.now.items c.args.place c.args.session (omega (arith, c.if-place-len.true, c.len.ensures)))

pub returns-then-place-len-clause-out : goal.returns-then-place-len-clause-out
returns-then-place-len-clause-out c = at_here c.args.slots.now.items c.args.place _ (omega (arith, c.if-place-len.true, c.len.ensures, c.requires.slots))

pub returns-then-place-len-clause-asked : goal.returns-then-place-len-clause-asked
returns-then-place-len-clause-asked c = at_here c.args.inquiries.now.items c.args.place _ (omega (arith, c.if-place-len.true, c.len.ensures, c.requires.inquiries))

pub returns-then-place-len-clause-others : goal.returns-then-place-len-clause-others
returns-then-place-len-clause-others c = λ other apart. (
  at_beside c.args.owns.now.items c.args.place other c.args.session apart,
  at_beside c.args.slots.now.items c.args.place other _ apart,
  at_beside c.args.inquiries.now.items c.args.place other _ apart,
)

pub returns-else-place-len-clause-own_or : goal.returns-else-place-len-clause-own_or
returns-else-place-len-clause-own_or c = inr (at_past c.args.owns.now.items c.args.place (omega (arith, c.if-place-len.false, c.len.ensures)))

pub returns-else-place-len-clause-out : goal.returns-else-place-len-clause-out
returns-else-place-len-clause-out c = at_past c.args.slots.now.items c.args.place (omega (arith, c.if-place-len.false, c.len.ensures, c.requires.slots))

pub returns-else-place-len-clause-asked : goal.returns-else-place-len-clause-asked
returns-else-place-len-clause-asked c = at_past c.args.inquiries.now.items c.args.place (omega (arith, c.if-place-len.false, c.len.ensures, c.requires.inquiries))
