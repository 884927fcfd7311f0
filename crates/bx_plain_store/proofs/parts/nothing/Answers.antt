use Rattle.std.proofs.Common.{None, length, ap, arith}
use Rattle.std.proofs.lemmas.List.{length_push}
use Rattle.bx_plain_store.proofs.Places.{none_pushed}
use Rattle.bx_plain_store.proofs.parts.nothing.Goals as goal

pub loop-preserved : goal.loop-preserved
loop-preserved g c = record {
  long = omega (arith, ap length c.in_ok-push.ensures.items, length_push c.loop.all.items None, c.loop.invariant.long);
  none = λ node. rw c.in_ok-push.ensures.items (none_pushed c.loop.all.items c.loop.invariant.none node);
}
