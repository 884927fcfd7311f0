use Rattle.bx_mirror_server.proofs.Events.{input_none}
use Rattle.std.proofs.Common.{sym, subst}
use Rattle.bx_facts.specs.declared.input.Input.{Input}
use Rattle.bx_mirror_member.specs.Standing.{disk_in, room_in}
use Rattle.bx_mirror_server.specs.Serving.{BringsOnly}
use Rattle.bx_mirror_server.specs.Working.{Nothing, Works}
use Rattle.bx_mirror_server.proofs.Working.{reads_work, works_for}
use Rattle.bx_mirror_server.proofs.server.MirrorServer.take_input.Goals as goal

pub returns-in-Packet-clause-works : goal.returns-in-Packet-clause-works
returns-in-Packet-clause-works g c =
    subst (λ (input : Input). Works g.R.Rack c.args.rack.now c.take_packet.new.rack (disk_in c.args.self.now) (room_in c.args.self.now) (BringsOnly c.args.self.now input)) (sym c.in-Packet.is) c.take_packet.ensures.works

pub returns-in_err-take_sync-in-Synced-clause-works : goal.returns-in_err-take_sync-in-Synced-clause-works
returns-in_err-take_sync-in-Synced-clause-works g c =
    subst (λ (input : Input). Works g.R.Rack c.args.rack.now c.take_sync.new.rack (disk_in c.args.self.now) (room_in c.args.self.now) (BringsOnly c.args.self.now input)) (sym c.in-Synced.is)
    (works_for g.R.Rack c.args.rack.now c.take_sync.new.rack (disk_in c.args.self.now) (room_in c.args.self.now) Nothing Nothing (λ runs brings. brings) c.take_sync.ensures.works)

pub returns-in_ok-take_sync-in-Synced-clause-works : goal.returns-in_ok-take_sync-in-Synced-clause-works
returns-in_ok-take_sync-in-Synced-clause-works g c =
    subst (λ (input : Input). Works g.R.Rack c.args.rack.now c.take_sync.new.rack (disk_in c.args.self.now) (room_in c.args.self.now) (BringsOnly c.args.self.now input)) (sym c.in-Synced.is)
    (works_for g.R.Rack c.args.rack.now c.take_sync.new.rack (disk_in c.args.self.now) (room_in c.args.self.now) Nothing Nothing (λ runs brings. brings) c.take_sync.ensures.works)

pub returns-in-Tick-clause-works : goal.returns-in-Tick-clause-works
returns-in-Tick-clause-works g c =
    reads_work g.R.Rack c.args.rack.now c.take_tick.new.rack (disk_in c.args.self.now) (room_in c.args.self.now) (BringsOnly c.args.self.now c.args.input.now) (input_none c.args.self.now c.args.input.now) c.take_tick.ensures.reads
