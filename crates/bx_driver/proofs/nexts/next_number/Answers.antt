use Rattle.std.proofs.Common.{sym, ◌∙◌, subst}
use Rattle.bx_driver.specs.Nexts.{IsNextNumber}
use Rattle.bx_driver.proofs.Between.{next_found, next_lacks}
use Rattle.bx_driver.proofs.nexts.next_number.Goals as goal

pub returns-in-Some : goal.returns-in-Some
returns-in-Some g c = next_found (g.C.Shows.seen c.args.cluster.now).post c.args.from c.args.to c.in-Some.number (sym c.next.ensures ∙ c.in-Some.is)

pub returns-in-None : goal.returns-in-None
returns-in-None g c =
    let post = (g.C.Shows.seen c.args.cluster.now).post in
    subst (IsNextNumber post c.args.from c.args.to) (sym c.number_above.ensures) (next_lacks post c.args.from c.args.to (sym c.next.ensures ∙ c.in-None.is))
