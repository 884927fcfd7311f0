use Rattle.bx_mirror_server.specs.Serving.{BringsIn}
use Rattle.bx_mirror_server.proofs.Working.{works_none}
use Rattle.bx_mirror_member.specs.Standing.{disk_in, room_in}
use Rattle.std.proofs.Common.{inl, refl}
use Rattle.bx_mirror_server.proofs.server.MirrorServer.take_packet.Goals as goal

pub returns-in_err-said-clause-works : goal.returns-in_err-said-clause-works
returns-in_err-said-clause-works g c =
    works_none g.R.Rack c.args.rack.now (disk_in c.args.self.now) (room_in c.args.self.now) (BringsIn c.args.self.now c.args.reading c.args.packet.now.kind c.args.packet.now.body) (inl refl) (λ image tells left. g.met.R.Rack.only_now c.args.rack.now image tells left)

pub returns-in_default-clause-works : goal.returns-in_default-clause-works
returns-in_default-clause-works g c =
    works_none g.R.Rack c.args.rack.now (disk_in c.args.self.now) (room_in c.args.self.now) (BringsIn c.args.self.now c.args.reading c.args.packet.now.kind c.args.packet.now.body) (inl refl) (λ image tells left. g.met.R.Rack.only_now c.args.rack.now image tells left)
