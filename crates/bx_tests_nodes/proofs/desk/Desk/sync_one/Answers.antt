use Rattle.bx_tests_nodes.proofs.Nodes.{none_done}
use Rattle.bx_tests_nodes.proofs.Rooms.{register_room, store_has_room}
use Rattle.bx_facts.specs.declared.input.FactError.TheVariants.{Disk as DiskFails}
use Rattle.bx_tests_nodes.proofs.desk.Desk.sync_one.Goals as goal

pub take-requires-clause-room : goal.take-requires-clause-room
take-requires-clause-room g c =
    let nodes = c.args.self.now.nodes in
    let is = c.requires.ready in
    let long = c.is_long.ensures c.if-not-is_long.false in (
      register_room (g.G.Register.needs nodes.register) (g.R.Rack.state c.args.rack.now).sizes (g.met.G.Register.needs_little nodes.register) (g.met.G.Register.needs_none nodes.register) long,
      store_has_room (g.S.Store.needs nodes.store) (g.S.Store.made nodes.store) (g.R.Rack.state c.args.rack.now).sizes is.devices is.areas (g.met.S.Store.needs_little nodes.store) (g.met.S.Store.needs_none nodes.store) (g.met.S.Store.needs_of_volume nodes.store) long,
    )

pub returns-clause-ready : goal.returns-clause-ready
returns-clause-ready g c =
    let said = c.take.ensures in
    none_done g.G.Register g.S.Store g.E.Engine c.args.self.now.nodes c.args.self.now.count c.requires.ready c.take.result DiskFails c.take.new.self said.machines said.made.1 said.made.3 (λ node. said.ready node (c.requires.ready.ready node))
