use Rattle.bx_mirror_server.proofs.Working.{works_none}
use Rattle.std.proofs.Common.{◌≡◌, ℕ, List, [], ◌∷◌, inl, inr, refl, sym, ◌∙◌, ap, subst}
use Rattle.bx_mirror_disks.specs.Puts.{AllLieIn, PutsRuns}
use Rattle.bx_mirror_member.specs.Acting.{IsCopiedHere}
use Rattle.bx_mirror_member.specs.Standing.{MemberView, device_in, disk_in, room_in}
use Rattle.bx_mirror_member.specs.Steps.{copied_of, with_piece}
use Rattle.bx_mirror_server.specs.Serving.{BringsPiece, run_of}
use Rattle.bx_mirror_server.specs.Working.{Works}
use Rattle.bx_mirror_server.proofs.Places.{piece_lies}
use Rattle.bx_mirror_server.proofs.Putting.{puts_here, works_put}
use Rattle.bx_records.specs.declared.runs.Run.{Run}
use Rattle.bx_mirror_server.proofs.server.MirrorServer.take_copy.Goals as goal

pub put_runs-requires-clause-lie : goal.put_runs-requires-clause-lie
put_runs-requires-clause-lie g c =
    let n : MemberView = c.self.inside.member in
    let here : IsCopiedHere n c.args.copy = c.is_copied_here.ensures.0 c.if-not-is_copied_here.false in
    let runs_are : c.in_ok-runs.runs.1 ≡ run_of c.args.copy ∷ [] = c.in_ok-runs.ensures in
    let lie : AllLieIn (device_in n) (room_in n) c.in_ok-runs.runs.1 = subst (AllLieIn (device_in n) (room_in n)) (sym runs_are) (piece_lies n c.args.copy c.requires.copy here) in
    (device_in n, subst (λ (room : ℕ). AllLieIn (device_in n) room c.in_ok-runs.runs.1) (sym c.room.ensures) lie)

pub returns-in_err-put_runs-clause-works : goal.returns-in_err-put_runs-clause-works
returns-in_err-put_runs-clause-works g c =
    let n : MemberView = c.self.inside.member in
    let here : IsCopiedHere n c.args.copy = c.is_copied_here.ensures.0 c.if-not-is_copied_here.false in
    let runs_are : c.in_ok-runs.runs.1 ≡ run_of c.args.copy ∷ [] = c.in_ok-runs.ensures in
    let lie : AllLieIn (device_in n) (room_in n) c.in_ok-runs.runs.1 = subst (AllLieIn (device_in n) (room_in n)) (sym runs_are) (piece_lies n c.args.copy c.requires.copy here) in
    subst (λ (k : MemberView). Works g.R.Rack c.args.rack.now c.put_runs.new.rack (disk_in k) (room_in k) (BringsPiece k c.args.copy)) c.self.view_is
    (works_put g.R.Rack c.args.rack.now c.put_runs.new.rack n c.in_ok-runs.runs.1 c.disk.result c.room.result c.disk.ensures c.room.ensures lie
    (BringsPiece n c.args.copy) (inr (here, runs_are)) c.put_runs.ensures.keeps c.put_runs.ensures.any_moment c.put_runs.ensures.elsewhere c.put_runs.ensures.sure_moment)

pub returns-in_err-note_piece-clause-works : goal.returns-in_err-note_piece-clause-works
returns-in_err-note_piece-clause-works g c =
    let n : MemberView = c.self.inside.member in
    let here : IsCopiedHere n c.args.copy = c.is_copied_here.ensures.0 c.if-not-is_copied_here.false in
    let runs_are : c.in_ok-runs.runs.1 ≡ run_of c.args.copy ∷ [] = c.in_ok-runs.ensures in
    let lie : AllLieIn (device_in n) (room_in n) c.in_ok-runs.runs.1 = subst (AllLieIn (device_in n) (room_in n)) (sym runs_are) (piece_lies n c.args.copy c.requires.copy here) in
    subst (λ (k : MemberView). Works g.R.Rack c.args.rack.now c.put_runs.new.rack (disk_in k) (room_in k) (BringsPiece k c.args.copy)) c.self.view_is
    (works_put g.R.Rack c.args.rack.now c.put_runs.new.rack n c.in_ok-runs.runs.1 c.disk.result c.room.result c.disk.ensures c.room.ensures lie
    (BringsPiece n c.args.copy) (inr (here, runs_are)) c.put_runs.ensures.keeps c.put_runs.ensures.any_moment c.put_runs.ensures.elsewhere c.put_runs.ensures.sure_moment)

pub returns-clause-works : goal.returns-clause-works
returns-clause-works g c =
    let n : MemberView = c.self.inside.member in
    let here : IsCopiedHere n c.args.copy = c.is_copied_here.ensures.0 c.if-not-is_copied_here.false in
    let runs_are : c.in_ok-runs.runs.1 ≡ run_of c.args.copy ∷ [] = c.in_ok-runs.ensures in
    let lie : AllLieIn (device_in n) (room_in n) c.in_ok-runs.runs.1 = subst (AllLieIn (device_in n) (room_in n)) (sym runs_are) (piece_lies n c.args.copy c.requires.copy here) in
    subst (λ (k : MemberView). Works g.R.Rack c.args.rack.now c.put_runs.new.rack (disk_in k) (room_in k) (BringsPiece k c.args.copy)) c.self.view_is
    (works_put g.R.Rack c.args.rack.now c.put_runs.new.rack n c.in_ok-runs.runs.1 c.disk.result c.room.result c.disk.ensures c.room.ensures lie
    (BringsPiece n c.args.copy) (inr (here, runs_are)) c.put_runs.ensures.keeps c.put_runs.ensures.any_moment c.put_runs.ensures.elsewhere c.put_runs.ensures.sure_moment)

pub returns-clause-does : goal.returns-clause-does
returns-clause-does g c =
    let n : MemberView = c.self.inside.member in
    let here : IsCopiedHere n c.args.copy = c.is_copied_here.ensures.0 c.if-not-is_copied_here.false in
    let runs_are : c.in_ok-runs.runs.1 ≡ run_of c.args.copy ∷ [] = c.in_ok-runs.ensures in
    let lie : AllLieIn (device_in n) (room_in n) c.in_ok-runs.runs.1 = subst (AllLieIn (device_in n) (room_in n)) (sym runs_are) (piece_lies n c.args.copy c.requires.copy here) in
    inl (
      subst (λ (k : MemberView). IsCopiedHere k c.args.copy) c.self.view_is here,
      record {
        member = c.in_ok-note_piece.ensures ∙ ap (with_piece c.args.from (copied_of c.args.copy)) c.self.view_is;
        puts = λ told. subst (λ (k : MemberView). PutsRuns (disk_in k) (device_in k) (run_of c.args.copy ∷ []) (g.R.Rack.state c.args.rack.now) (g.R.Rack.state c.put_runs.new.rack)) c.self.view_is
            (subst (λ (runs : List Run). PutsRuns (disk_in n) (device_in n) runs (g.R.Rack.state c.args.rack.now) (g.R.Rack.state c.put_runs.new.rack)) runs_are
            (puts_here g.R.Rack c.args.rack.now c.put_runs.new.rack n c.in_ok-runs.runs.1 c.disk.result c.room.result c.disk.ensures c.room.ensures lie
            (λ device second own lies. c.in_ok-put_runs.ensures.puts device second told own lies)));
      },
    )

pub returns-then-not-is_copied_here-clause-works : goal.returns-then-not-is_copied_here-clause-works
returns-then-not-is_copied_here-clause-works g c =
    works_none g.R.Rack c.args.rack.now (disk_in c.args.self.now) (room_in c.args.self.now) (BringsPiece c.args.self.now c.args.copy) (inl refl) (λ image tells left. g.met.R.Rack.only_now c.args.rack.now image tells left)

pub returns-in_err-runs-clause-works : goal.returns-in_err-runs-clause-works
returns-in_err-runs-clause-works g c =
    works_none g.R.Rack c.args.rack.now (disk_in c.args.self.now) (room_in c.args.self.now) (BringsPiece c.args.self.now c.args.copy) (inl refl) (λ image tells left. g.met.R.Rack.only_now c.args.rack.now image tells left)
