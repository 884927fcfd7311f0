use Rattle.std.proofs.Common.{◌≡◌, All, None, false}
use Rattle.std.specs.Prelude.{IfSome}
use Rattle.bx_node_tries.specs.Tries.{AllGo, AreNeeded, AreNone, IsToBegin, LedTo, MayWait}
use Rattle.bx_views.specs.Truths.{IsTruth, Truth}
use Rattle.bx_node_tries.proofs.tries.attempt_all.Given as goal

abbrev pub invariant-loop-call : goal.invariant-loop-call
invariant-loop-call g l =
    (goal.iterator-loop-call g).can_next l.call-iterator ×
    (goal.iterator-loop-call g).is_finite l.call-iterator ×
    ((truth : Truth) (first : g.row.E-Tree.Denot) → IsTruth (g.V.View.held l.view) truth → g.E.Engine.stands l.engine truth (g.V.View.hints l.view) first
    → LedTo (g.E.Engine.stands l.engine) (g.E.Engine.step l.engine) (g.E.Engine.free l.engine truth) truth first l.round.said.items) ×
    (l.round.begun ≡ None → All (MayWait g.E.Engine l.engine (g.V.View.held l.view) (g.V.View.hints l.view) l.moment l.newest l.may_begin l.round.needs.items) l.round.waiting.items) ×
    AllGo l.newest l.moment l.yielded l.initial.round l.round ×
    IfSome l.round.begun (IsToBegin g.E.Engine l.engine (g.V.View.held l.view) (g.V.View.hints l.view) l.moment) ×
    (l.may_begin ≡ false → l.round.begun ≡ None) ×
    AreNone l.initial.round ×
    All (AreNeeded g.E.Engine l.engine (g.V.View.held l.view) (g.V.View.hints l.view) l.moment l.round.waiting.items) l.round.needs.items
