use Rattle.bx_mirror_server.proofs.Working.{works_none}
use Rattle.std.proofs.Common.{inl, inr, ℕ, refl, sym, ◌∙◌, ap, subst}
use Rattle.bx_mirror_disks.specs.Puts.{AllLieIn, PutsRuns}
use Rattle.bx_mirror_member.specs.declared.judging.Judgement.TheVariants.{Taken}
use Rattle.bx_mirror_member.specs.Acting.{IsTaken}
use Rattle.bx_mirror_member.specs.Standing.{MemberView, device_in, disk_in, room_in}
use Rattle.bx_mirror_member.specs.Steps.{with_write}
use Rattle.bx_mirror_server.specs.Serving.{BringsWrite}
use Rattle.bx_mirror_server.specs.Working.{Works}
use Rattle.bx_mirror_server.proofs.Places.{writes_lie}
use Rattle.bx_mirror_server.proofs.Putting.{puts_here, works_put}
use Rattle.bx_mirror_server.proofs.server.MirrorServer.take_write.Goals as goal

pub put_runs-requires-clause-lie : goal.put_runs-requires-clause-lie
put_runs-requires-clause-lie g c =
    let n : MemberView = c.self.inside.member in
    (device_in n, subst (λ (room : ℕ). AllLieIn (device_in n) room c.args.write.now.runs.1) (sym c.room.ensures) (writes_lie n c.args.reading c.args.write.now c.requires.write c.in-Taken.ensures.opens))

pub returns-in_err-put_runs-in-Taken-clause-works : goal.returns-in_err-put_runs-in-Taken-clause-works
returns-in_err-put_runs-in-Taken-clause-works g c =
    let n : MemberView = c.self.inside.member in
    subst (λ (k : MemberView). Works g.R.Rack c.args.rack.now c.put_runs.new.rack (disk_in k) (room_in k) (BringsWrite k c.args.reading c.args.write.now)) c.self.view_is
    (works_put g.R.Rack c.args.rack.now c.put_runs.new.rack n c.args.write.now.runs.1 c.disk.result c.room.result c.disk.ensures c.room.ensures (writes_lie n c.args.reading c.args.write.now c.requires.write c.in-Taken.ensures.opens)
    (BringsWrite n c.args.reading c.args.write.now) (inr (c.in-Taken.ensures, refl)) c.put_runs.ensures.keeps c.put_runs.ensures.any_moment c.put_runs.ensures.elsewhere c.put_runs.ensures.sure_moment)

pub returns-in_err-note_write-in-Taken-clause-works : goal.returns-in_err-note_write-in-Taken-clause-works
returns-in_err-note_write-in-Taken-clause-works g c =
    let n : MemberView = c.self.inside.member in
    subst (λ (k : MemberView). Works g.R.Rack c.args.rack.now c.put_runs.new.rack (disk_in k) (room_in k) (BringsWrite k c.args.reading c.args.write.now)) c.self.view_is
    (works_put g.R.Rack c.args.rack.now c.put_runs.new.rack n c.args.write.now.runs.1 c.disk.result c.room.result c.disk.ensures c.room.ensures (writes_lie n c.args.reading c.args.write.now c.requires.write c.in-Taken.ensures.opens)
    (BringsWrite n c.args.reading c.args.write.now) (inr (c.in-Taken.ensures, refl)) c.put_runs.ensures.keeps c.put_runs.ensures.any_moment c.put_runs.ensures.elsewhere c.put_runs.ensures.sure_moment)

pub returns-in_ok-note_write-in-Taken-clause-does : goal.returns-in_ok-note_write-in-Taken-clause-does
returns-in_ok-note_write-in-Taken-clause-does g c =
    let n : MemberView = c.self.inside.member in
    record {
      judgement = Taken;
      judged = subst (λ (k : MemberView). IsTaken k c.args.reading c.args.write.now) c.self.view_is c.in-Taken.ensures;
      does = record {
        member = c.in_ok-note_write-in-Taken.ensures ∙ ap (with_write c.args.from c.args.write.now) c.self.view_is;
        sends = refl;
        puts = λ told. subst (λ (k : MemberView). PutsRuns (disk_in k) (device_in k) c.args.write.now.runs.1 (g.R.Rack.state c.args.rack.now) (g.R.Rack.state c.put_runs.new.rack)) c.self.view_is
            (puts_here g.R.Rack c.args.rack.now c.put_runs.new.rack n c.args.write.now.runs.1 c.disk.result c.room.result c.disk.ensures c.room.ensures (writes_lie n c.args.reading c.args.write.now c.requires.write c.in-Taken.ensures.opens)
            (λ device second own lie. c.in_ok-put_runs-in-Taken.ensures.puts device second told own lie));
      };
    }

pub returns-in_ok-note_write-in-Taken-clause-works : goal.returns-in_ok-note_write-in-Taken-clause-works
returns-in_ok-note_write-in-Taken-clause-works g c =
    let n : MemberView = c.self.inside.member in
    subst (λ (k : MemberView). Works g.R.Rack c.args.rack.now c.put_runs.new.rack (disk_in k) (room_in k) (BringsWrite k c.args.reading c.args.write.now)) c.self.view_is
    (works_put g.R.Rack c.args.rack.now c.put_runs.new.rack n c.args.write.now.runs.1 c.disk.result c.room.result c.disk.ensures c.room.ensures (writes_lie n c.args.reading c.args.write.now c.requires.write c.in-Taken.ensures.opens)
    (BringsWrite n c.args.reading c.args.write.now) (inr (c.in-Taken.ensures, refl)) c.put_runs.ensures.keeps c.put_runs.ensures.any_moment c.put_runs.ensures.elsewhere c.put_runs.ensures.sure_moment)

pub returns-in_err-repeat-in-Repeated-clause-works : goal.returns-in_err-repeat-in-Repeated-clause-works
returns-in_err-repeat-in-Repeated-clause-works g c =
    works_none g.R.Rack c.args.rack.now (disk_in c.args.self.now) (room_in c.args.self.now) (BringsWrite c.args.self.now c.args.reading c.args.write.now) (inl refl) (λ image tells left. g.met.R.Rack.only_now c.args.rack.now image tells left)

pub returns-in_ok-repeat-in-Repeated-clause-works : goal.returns-in_ok-repeat-in-Repeated-clause-works
returns-in_ok-repeat-in-Repeated-clause-works g c =
    works_none g.R.Rack c.args.rack.now (disk_in c.args.self.now) (room_in c.args.self.now) (BringsWrite c.args.self.now c.args.reading c.args.write.now) (inl refl) (λ image tells left. g.met.R.Rack.only_now c.args.rack.now image tells left)

pub returns-in-Refused-clause-works : goal.returns-in-Refused-clause-works
returns-in-Refused-clause-works g c =
    works_none g.R.Rack c.args.rack.now (disk_in c.args.self.now) (room_in c.args.self.now) (BringsWrite c.args.self.now c.args.reading c.args.write.now) (inl refl) (λ image tells left. g.met.R.Rack.only_now c.args.rack.now image tells left)
