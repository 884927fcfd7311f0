use Rattle.std.proofs.Common.{[], subst}
use Rattle.std.proofs.lemmas.Result.{err_from_is_err_and}
use Rattle.bx_base.specs.declared.names.Actor.TheVariants.{Server}
use Rattle.bx_host.specs.Standing.{AreAny}
use Rattle.bx_host.specs.Turns.{AllTicked, AreMembersTicked, AreTicked, IsNodeTicked}
use Rattle.bx_host.proofs.Acting.{goes_both, goes_err}
use Rattle.bx_host.proofs.Going.{TwoTicked, all_ticked, two_ticked}
use Rattle.bx_host.proofs.host.Host.tick_all.Goals as goal

pub returns-in_err-tick_members-clause-ends : goal.returns-in_err-tick_members-clause-ends
returns-in_err-tick_members-clause-ends g c =
    let p = err_from_is_err_and c.from_residual-in_err-tick_members.result c.from_residual-in_err-tick_members.ensures.1 in
    let old = c.args.self.now in
    let servers = c.in_ok-tick_servers.ensures.ends in
    rw (p.1, p.2) (goes_err g.C.Shows.seen g.C.Cluster.room g.C.Cluster.led g.R.Rack (Unit {0}) (Unit {0}) AreAny (AllTicked old.first old.reading) [] old c.tick_members.new.self c.args.rack.now c.tick_members.new.rack _
    (goes_both g.C.Shows.seen g.C.Cluster.room g.C.Cluster.led g.R.Rack (AreTicked Server old.reading 2) (AreMembersTicked c.tick_servers.new.self.reading) AreAny [] [] old c.tick_servers.new.self c.tick_members.new.self c.args.rack.now c.tick_servers.new.rack c.tick_members.new.rack _ tt (λ earlier later middle from to are is. tt) servers c.in_err-tick_members.ensures.ends))

pub returns-clause-ends : goal.returns-clause-ends
returns-clause-ends g c =
    let old = c.args.self.now in
    let servers = c.in_ok-tick_servers.ensures.ends in
    let members = c.in_ok-tick_members.ensures.ends in
    let node = c.tick_node.ensures.ends in
    let two = goes_both g.C.Shows.seen g.C.Cluster.room g.C.Cluster.led g.R.Rack (AreTicked Server old.reading 2) (AreMembersTicked c.tick_servers.new.self.reading) (TwoTicked old.reading) [] [] old c.tick_servers.new.self c.tick_members.new.self c.args.rack.now c.tick_servers.new.rack c.tick_members.new.rack _ tt
    (λ earlier later middle from to are is. two_ticked old.reading from middle to earlier later are (subst (λ r. AreMembersTicked r middle later to) servers.reading is)) servers members in
    goes_both g.C.Shows.seen g.C.Cluster.room g.C.Cluster.led g.R.Rack (TwoTicked old.reading) (IsNodeTicked c.tick_members.new.self.first c.tick_members.new.self.reading) (AllTicked old.first old.reading) [] [] old c.tick_members.new.self c.tick_node.new.self c.args.rack.now c.tick_members.new.rack c.tick_node.new.rack c.tick_node.result tt
    (λ earlier later middle from to are is. all_ticked old.first old.reading from middle to earlier later are (subst (λ r. IsNodeTicked old.first r middle later to) two.reading (subst (λ f. IsNodeTicked f c.tick_members.new.self.reading middle later to) two.first is))) two node
