use Rattle.bx_mirror_server.proofs.Working.{reads_work, works_none}
use Rattle.bx_mirror_server.proofs.Events.{message_none}
use Rattle.std.proofs.Common.{sym, subst}
use Rattle.bx_mirror_packets.specs.declared.message.DeviceMessage.{DeviceMessage}
use Rattle.bx_mirror_member.specs.Standing.{disk_in, room_in}
use Rattle.bx_mirror_server.specs.Serving.{BringsOf}
use Rattle.bx_mirror_server.specs.Working.{Works}
use Rattle.bx_mirror_server.proofs.server.MirrorServer.take_message.Goals as goal

pub returns-in_err-take_write-in-Write-clause-works : goal.returns-in_err-take_write-in-Write-clause-works
returns-in_err-take_write-in-Write-clause-works g c =
    subst (λ (message : DeviceMessage). Works g.R.Rack c.args.rack.now c.take_write.new.rack (disk_in c.args.self.now) (room_in c.args.self.now) (BringsOf c.args.self.now c.args.reading message)) (sym c.in-Write.is) c.take_write.ensures.works

pub returns-in-Write-clause-works : goal.returns-in-Write-clause-works
returns-in-Write-clause-works g c =
    subst (λ (message : DeviceMessage). Works g.R.Rack c.args.rack.now c.take_write.new.rack (disk_in c.args.self.now) (room_in c.args.self.now) (BringsOf c.args.self.now c.args.reading message)) (sym c.in-Write.is) c.take_write.ensures.works

pub returns-in_err-take_copy-in-Copy-clause-works : goal.returns-in_err-take_copy-in-Copy-clause-works
returns-in_err-take_copy-in-Copy-clause-works g c =
    subst (λ (message : DeviceMessage). Works g.R.Rack c.args.rack.now c.take_copy.new.rack (disk_in c.args.self.now) (room_in c.args.self.now) (BringsOf c.args.self.now c.args.reading message)) (sym c.in-Copy.is) c.take_copy.ensures.works

pub returns-in-Copy-clause-works : goal.returns-in-Copy-clause-works
returns-in-Copy-clause-works g c =
    subst (λ (message : DeviceMessage). Works g.R.Rack c.args.rack.now c.take_copy.new.rack (disk_in c.args.self.now) (room_in c.args.self.now) (BringsOf c.args.self.now c.args.reading message)) (sym c.in-Copy.is) c.take_copy.ensures.works

pub returns-in_err-take_read-in-Read-clause-works : goal.returns-in_err-take_read-in-Read-clause-works
returns-in_err-take_read-in-Read-clause-works g c =
    reads_work g.R.Rack c.args.rack.now c.take_read.new.rack (disk_in c.args.self.now) (room_in c.args.self.now) (BringsOf c.args.self.now c.args.reading c.args.message) (message_none c.args.self.now c.args.reading c.args.message) c.take_read.ensures.reads

pub returns-in-Read-clause-works : goal.returns-in-Read-clause-works
returns-in-Read-clause-works g c =
    reads_work g.R.Rack c.args.rack.now c.take_read.new.rack (disk_in c.args.self.now) (room_in c.args.self.now) (BringsOf c.args.self.now c.args.reading c.args.message) (message_none c.args.self.now c.args.reading c.args.message) c.take_read.ensures.reads

pub returns-in-Copied-clause-works : goal.returns-in-Copied-clause-works
returns-in-Copied-clause-works g c =
    reads_work g.R.Rack c.args.rack.now c.take_copied.new.rack (disk_in c.args.self.now) (room_in c.args.self.now) (BringsOf c.args.self.now c.args.reading c.args.message) (message_none c.args.self.now c.args.reading c.args.message) c.take_copied.ensures.reads

pub returns-in-Alive-clause-works : goal.returns-in-Alive-clause-works
returns-in-Alive-clause-works g c =
    works_none g.R.Rack c.args.rack.now (disk_in c.args.self.now) (room_in c.args.self.now) (BringsOf c.args.self.now c.args.reading c.args.message) (message_none c.args.self.now c.args.reading c.args.message) (λ image tells left. g.met.R.Rack.only_now c.args.rack.now image tells left)

pub returns-clause-works : goal.returns-clause-works
returns-clause-works g c =
    works_none g.R.Rack c.args.rack.now (disk_in c.args.self.now) (room_in c.args.self.now) (BringsOf c.args.self.now c.args.reading c.args.message) (message_none c.args.self.now c.args.reading c.args.message) (λ image tells left. g.met.R.Rack.only_now c.args.rack.now image tells left)
