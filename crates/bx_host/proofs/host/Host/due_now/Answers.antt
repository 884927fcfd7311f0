use Rattle.std.proofs.Common.{◌<◌, arith}
use Rattle.std.proofs.lemmas.Bool.Decides.{nat_tests}
use Rattle.bx_host.proofs.Dues.{due_is, due_over}
use Rattle.bx_host.proofs.host.Host.due_now.Goals as goal

pub returns-clause-due : goal.returns-clause-due
returns-clause-due g c =
    let more : 0 < c.args.self.now.left = grind (arith, nat_tests, c.if-self-eq0.false) in
    due_is c.args.self.now.reading c.args.self.now.left (g.C.Shows.seen c.args.self.now.cluster) _ c.due.result c.requires.none more c.due.ensures.due

pub returns-clause-over : goal.returns-clause-over
returns-clause-over g c = λ is. due_over c.args.self.now.reading c.args.self.now.left (g.C.Shows.seen c.args.self.now.cluster) _ c.due.result c.requires.none c.due.ensures.due is
