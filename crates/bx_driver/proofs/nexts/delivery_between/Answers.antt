use Rattle.std.proofs.Common.{refl, ap}
use Rattle.bx_world_events.specs.declared.event.Event.TheVariants.{Deliver}
use Rattle.bx_driver.proofs.Between.{next_refused, one_next}
use Rattle.bx_driver.proofs.nexts.delivery_between.Goals as goal

pub returns-clause-next : goal.returns-clause-next
returns-clause-next g c = (c.next_number.result, refl, c.next_number.ensures)

pub returns-clause-only : goal.returns-clause-only
returns-clause-only g c = λ number is. ap (Deliver c.args.reading) (one_next (g.C.Shows.seen c.args.cluster.now).post c.args.from c.args.to c.next_number.result number c.next_number.ensures is)

pub returns-clause-refused : goal.returns-clause-refused
returns-clause-refused g c = next_refused (g.C.Shows.seen c.args.cluster.now) c.args.from c.args.to c.args.reading c.next_number.result c.next_number.ensures
