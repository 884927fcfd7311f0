use Rattle.std.proofs.Common.{ℕ, List, Ok, Err, inl, inr, refl, subst, ◌∙◌}
use Rattle.std.specs.Prelude.{IfErr}
use Rattle.bx_ready.specs.Lacking.{MakesRoom}
use Rattle.bx_truth.specs.Keys.{name_key}
use Rattle.bx_entries.specs.RoomFinding.{ReadyIn}
use Rattle.bx_entries.specs.Lacking.{IfFirst}
use Rattle.bx_entries.proofs.First.{either, finds_both, stops_both}
use Rattle.bx_entries.proofs.Lacks.{first_if, first_so}
use Rattle.bx_entries.proofs.rooms.room_for.Goals as goal

pub returns-in-Err-clause-step : goal.returns-in-Err-clause-step
returns-in-Err-clause-step g c = λ volume truth tree d.
    stops_both c.args.areas (g.V.View.held c.args.view.now) truth c.args.directory.now.inode.tree c.args.name.now c.args.directory.now.inode.next (name_key c.args.name.now) (λ both. both.0) c.in-Err.error
    (subst (λ (k : List ℕ). ReadyIn c.args.areas truth c.args.directory.now.inode.tree k (Err c.in-Err.error)) (c.bytes.ensures ∙ c.in-Ok.ensures.0)
    (c.in-Err.ensures.step volume truth tree c.args.directory.now.handle c.args.directory.now.inode d refl))

pub returns-clause-step : goal.returns-clause-step
returns-clause-step g c = λ volume truth tree d.
    either volume c.args.areas (g.V.View.held c.args.view.now) (g.V.View.hints c.args.view.now) truth tree c.args.directory.now.handle c.args.directory.now.inode d c.args.name.now c.args.directory.now.inode.next
    (subst (λ (k : List ℕ). ReadyIn c.args.areas truth c.args.directory.now.inode.tree k (Ok tt)) (c.bytes.ensures ∙ c.in-Ok.ensures.0)
    (c.in-Ok-room_at.ensures.step volume truth tree c.args.directory.now.handle c.args.directory.now.inode d refl)) c.room_at-in-Ok-room_at.result
    (subst (λ (k : List ℕ). ReadyIn c.args.areas truth c.args.directory.now.inode.tree k c.room_at-in-Ok-room_at.result) (c.bytes-2.ensures ∙ c.in-Ok.ensures.1)
    (c.room_at-in-Ok-room_at.ensures.step volume truth tree c.args.directory.now.handle c.args.directory.now.inode d refl))

pub returns-in-Err-clause-lacks : goal.returns-in-Err-clause-lacks
returns-in-Err-clause-lacks g c = λ volume truth tree d.
    first_so (λ blocks l. inl l) c.in-Err.error
    (subst (λ (k : List ℕ). IfFirst (MakesRoom c.args.areas (g.V.View.held c.args.view.now) (g.V.View.hints c.args.view.now) truth c.args.directory.now.inode.tree k) c.in-Err.error) (c.bytes.ensures ∙ c.in-Ok.ensures.0)
    (c.in-Err.ensures.lacks volume truth tree c.args.directory.now.handle c.args.directory.now.inode d refl))

pub returns-clause-lacks : goal.returns-clause-lacks
returns-clause-lacks g c = λ volume truth tree d.
    first_if (λ blocks l. inr l) c.room_at-in-Ok-room_at.result
    (subst (λ (k : List ℕ). IfErr c.room_at-in-Ok-room_at.result (IfFirst (MakesRoom c.args.areas (g.V.View.held c.args.view.now) (g.V.View.hints c.args.view.now) truth c.args.directory.now.inode.tree k))) (c.bytes-2.ensures ∙ c.in-Ok.ensures.1)
    (c.room_at-in-Ok-room_at.ensures.lacks volume truth tree c.args.directory.now.handle c.args.directory.now.inode d refl))

pub returns-clause-finds : goal.returns-clause-finds
returns-clause-finds g c = λ volume truth tree d.
    finds_both c.args.areas truth c.args.directory.now.inode.tree c.args.name.now c.args.directory.now.inode.next
    (subst (λ (k : List ℕ). ReadyIn c.args.areas truth c.args.directory.now.inode.tree k (Ok tt)) (c.bytes.ensures ∙ c.in-Ok.ensures.0)
    (c.in-Ok-room_at.ensures.step volume truth tree c.args.directory.now.handle c.args.directory.now.inode d refl)) c.room_at-in-Ok-room_at.result
    (subst (λ (k : List ℕ). ReadyIn c.args.areas truth c.args.directory.now.inode.tree k c.room_at-in-Ok-room_at.result) (c.bytes-2.ensures ∙ c.in-Ok.ensures.1)
    (c.room_at-in-Ok-room_at.ensures.step volume truth tree c.args.directory.now.handle c.args.directory.now.inode d refl))
