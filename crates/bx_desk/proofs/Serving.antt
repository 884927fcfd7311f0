-- The desk of a node goes on by a part of a run in which calls that wait there are answered.
use Rattle.std.proofs.Common.{◌≡◌, ℕ, List, [], ◌∷◌, Some, take, refl, sym, ap, subst, ◌∙◌}
use Rattle.std.specs.Prelude.{◌==◌, map, reverse}
use Rattle.bx_history.specs.Trace as traces
use Rattle.bx_history.specs.Trace.{IsIn}
use Rattle.bx_history.specs.Parts.{Part, trace_since, waiting}
use Rattle.bx_history.specs.Account.{answers_at}
use Rattle.bx_history.proofs.OnePart.{AnswersOne, AreAnswered, StaysSame}
use Rattle.bx_history.proofs.Serving.{Served, sent_by}
use Rattle.bx_desk.specs.declared.desk.Asked.{Asked}
use Rattle.bx_desk.specs.Desks.{AtDesk, answered, asked_as}
use Rattle.bx_desk.specs.Nodes.{IsDeskOf, sent_at, taking_at}
use Rattle.bx_desk.proofs.Going.{asked_there, asked_waits, desk_answered, desk_stays}

-- a desk once these calls are answered, of which the newest stands first
abbrev pub desk_after : AtDesk → List Served → AtDesk
desk_after desk [] = desk
desk_after desk (one ∷ earlier) = answered (desk_after desk earlier) one.point.call one.reply

module _ (node : ℕ) where
  pub desk_same : (before after : List Part) (desk : AtDesk) → StaysSame node before after → IsDeskOf node before desk → IsDeskOf node after desk
  desk_same before after desk same is = desk_stays node before after desk is same.waits (ap (take 256) same.sent)

  desk_one : (before after : List Part) (desk : AtDesk) (one : Served) → AnswersOne node before after one → IsDeskOf node before desk → IsDeskOf node after (answered desk one.point.call one.reply)
  desk_one before after desk one answers is =
      desk_answered node one.point.call before desk is found.0 asked_is after one.reply answers.left
      (answers.sent ∙ ap (λ (t : traces.Taking). record { node = t.node; client = t.client; bytes = t.bytes; reply = one.reply } ∷ answers_at (trace_since before node) node) (sym this))
    where
      found : (asked : Asked) × (asked_as one.taking.call desk.waits ≡ Some asked)
      found = asked_there node desk.waits one.taking (subst (IsIn one.taking) is.waits_are answers.waits)

      asked_is : asked_as one.point.call desk.waits ≡ Some found.0
      asked_is = ap (λ (n : ℕ). asked_as n desk.waits) answers.of ∙ found.1

      there : IsIn (taking_at node found.0) (waiting before node) × (found.0.call ≡ one.point.call)
      there = asked_waits node one.point.call before desk is found.0 asked_is

      this : taking_at node found.0 ≡ one.taking
      this = answers.alone (taking_at node found.0) there.0 there.1

  pub desk_served : (before after : List Part) (desk : AtDesk) (all : List Served) → AreAnswered node before after all → IsDeskOf node before desk → IsDeskOf node after (desk_after desk all)
  desk_served before after desk [] answers is = desk_same before after desk answers is
  desk_served before after desk (one ∷ earlier) answers is = desk_one answers.0 after (desk_after desk earlier) one answers.2 (desk_served before answers.0 desk earlier answers.1 is)
