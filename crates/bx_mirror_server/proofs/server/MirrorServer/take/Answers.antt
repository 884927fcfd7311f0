use Rattle.bx_mirror_member.specs.Standing.{disk_in, learned, room_in}
use Rattle.bx_mirror_server.specs.Serving.{BringsOnly}
use Rattle.bx_mirror_server.proofs.Events.{does_on, input_none, works_known}
use Rattle.bx_mirror_server.proofs.Sending.{sent_on}
use Rattle.bx_mirror_server.proofs.Working.{reads_then, reads_work}
use Rattle.bx_mirror_server.proofs.server.MirrorServer.take.Goals as goal

pub returns-clause-does : goal.returns-clause-does
returns-clause-does g c =
    does_on (g.R.Rack.tells c.learn.new.rack) (g.R.Rack.tells c.args.rack.now) c.learn.ensures.rack.keeps_telling c.args.known.now c.args.input.now c.args.self.now c.learn.new.self c.take_input.new.self c.take_input.result
    c.args.out.now c.learn.new.out c.take_input.new.out (g.R.Rack.state c.args.rack.now) (g.R.Rack.state c.learn.new.rack) (g.R.Rack.state c.take_input.new.rack)
    c.learn.ensures.learns c.learn.ensures.reads.stays c.in_ok-learn.ensures.sends c.take_input.ensures.does

pub returns-clause-sent : goal.returns-clause-sent
returns-clause-sent g c =
    sent_on (g.R.Rack.tells c.args.rack.now) c.args.known.now c.args.input.now c.args.self.now c.take_input.new.self c.take_input.result c.args.out.now c.take_input.new.out (g.R.Rack.state c.args.rack.now) (g.R.Rack.state c.take_input.new.rack)
    (does_on (g.R.Rack.tells c.learn.new.rack) (g.R.Rack.tells c.args.rack.now) c.learn.ensures.rack.keeps_telling c.args.known.now c.args.input.now c.args.self.now c.learn.new.self c.take_input.new.self c.take_input.result
    c.args.out.now c.learn.new.out c.take_input.new.out (g.R.Rack.state c.args.rack.now) (g.R.Rack.state c.learn.new.rack) (g.R.Rack.state c.take_input.new.rack)
    c.learn.ensures.learns c.learn.ensures.reads.stays c.in_ok-learn.ensures.sends c.take_input.ensures.does)

pub returns-clause-works : goal.returns-clause-works
returns-clause-works g c =
    reads_then g.R.Rack c.args.rack.now c.learn.new.rack c.take_input.new.rack (disk_in c.args.self.now) (room_in c.args.self.now) (BringsOnly (learned c.args.known.now c.args.self.now) c.args.input.now) c.learn.ensures.reads c.learn.ensures.rack.keeps_telling
    (works_known g.R.Rack c.learn.new.rack c.take_input.new.rack c.args.known.now c.args.input.now c.args.self.now c.learn.new.self c.learn.ensures.learns c.take_input.ensures.works)

pub returns-in_err-learn-clause-works : goal.returns-in_err-learn-clause-works
returns-in_err-learn-clause-works g c =
    reads_work g.R.Rack c.args.rack.now c.learn.new.rack (disk_in c.args.self.now) (room_in c.args.self.now) (BringsOnly (learned c.args.known.now c.args.self.now) c.args.input.now) (input_none (learned c.args.known.now c.args.self.now) c.args.input.now) c.learn.ensures.reads
