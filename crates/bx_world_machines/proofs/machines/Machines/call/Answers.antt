use Rattle.std.proofs.Common.{◌≡◌, ◌++◌, subst}
use Rattle.bx_node_tries.specs.Tries.{IsAnswerTo}
use Rattle.bx_world_machines.specs.Answering.Called.{AtOnce}
use Rattle.bx_world_machines.specs.Doubts.{AreInDoubt}
use Rattle.bx_world_machines.specs.Standing.{StandsBehind, StandsBy}
use Rattle.bx_world_machines.proofs.AnsweredAtOnce.{rounded_behind, rounded_more}
use Rattle.bx_world_machines.proofs.machines.Machines.call.Goals as goal

pub returns-in_ok-insert-in-Ok-Answered-clause-stands : goal.returns-in_ok-insert-in-Ok-Answered-clause-stands
returns-in_ok-insert-in-Ok-Answered-clause-stands g c = λ letters x tree course standing.
    let old = c.args.self.now in
    let middle = c.answer_at_once.new.self in
    let first = rw c.in-Ok-Answered.field-0-is at (c.in-Ok-Answered.ensures.stands (letters ++ c.args.out.now) x tree course standing) in
    let tried : IsAnswerTo c.args.reading c.args.call c.in-Ok-Answered.one = rw c.in-Ok-Answered.field-0-is at c.in-Ok-Answered.ensures.tried in
    rounded_behind g.E.Engine old.nodes.engine (StandsBy g.G.Register g.O.Owners g.S.Store g.E.Engine course middle (letters ++ c.args.out.now) x) (StandsBehind g.G.Register g.O.Owners g.S.Store g.E.Engine course c.insert.new.self.items c.turn.new.self (letters ++ c.turn.new.out) x) tree
    c.in-Ok-Answered.one c.in_ok-said-in-Ok-Answered.said.items c.insert.new.self.items c.in_ok-insert-in-Ok-Answered.ensures.items first
    (λ next stands. rounded_more g.G.Register g.O.Owners g.S.Store g.E.Engine old.nodes.engine c.in-Ok-Answered.one c.in_ok-said-in-Ok-Answered.said.items c.insert.new.self.items course old c.turn.new.self
    (letters ++ c.turn.new.out) x next c.in_ok-insert-in-Ok-Answered.ensures.items (rw tried.number c.requires.newer) (subst (AreInDoubt old.latest old.nodes.machines.items) standing.1 standing.0.doubts)
    (rw c.in-Ok-Answered.ensures.same at (c.in_ok-said-in-Ok-Answered.ensures.stands letters x next course stands)))

pub returns-in_ok-insert-in-Ok-Answered-clause-ready : goal.returns-in_ok-insert-in-Ok-Answered-clause-ready
returns-in_ok-insert-in-Ok-Answered-clause-ready g c = λ sizes ready. c.in_ok-said-in-Ok-Answered.ensures.ready sizes (c.in-Ok-Answered.ensures.ready sizes ready)

pub returns-in_ok-insert-in-Ok-Answered-clause-answers : goal.returns-in_ok-insert-in-Ok-Answered-clause-answers
returns-in_ok-insert-in-Ok-Answered-clause-answers g c =
    AtOnce c.in-Ok-Answered.one c.in_ok-said-in-Ok-Answered.said.items c.in_ok-insert-in-Ok-Answered.ensures.items (rw c.in-Ok-Answered.field-0-is at c.in-Ok-Answered.ensures.tried)
    (rw c.in-Ok-Answered.ensures.same at c.in_ok-said-in-Ok-Answered.ensures.answers)

pub returns-in-Ok-Waits-clause-stands : goal.returns-in-Ok-Waits-clause-stands
returns-in-Ok-Waits-clause-stands g c = λ letters x tree course standing.
    let stays : (⊥ → ⊥) → c.answer_at_once.new.self ≡ c.args.self.now = rw c.in-Ok-Waits.field-0-is at c.in-Ok-Waits.ensures.waits in
    let same = stays (λ none. none) in
    rw same at (c.take.ensures.stands letters x tree course (rw same standing))
