-- What an attempt that reads answers, or is stopped by.
use Rattle.std.proofs.Common.{◌≡◌, ℕ, ap, refl, sym, subst}
use Rattle.std.specs.Prelude.{Result, Ok, Err, IfOk}
use Rattle.std.proofs.lemmas.Result.{IfOk-weaker}
use Rattle.bx_attempts.proofs.Fairness as fairness
use Rattle.bx_attempts.specs.Replies.{IsReplied, IsStopped, done_of}
use Rattle.bx_base.specs.declared.names.Mode.{Mode}
use Rattle.bx_engine.specs.Outcomes.{IsOutcomeOf, TellsEnough}
use Rattle.bx_inodes.specs.declared.stop.Stop.{Stop}
use Rattle.bx_inodes.specs.declared.stop.Stop.TheVariants as stops
use Rattle.bx_inodes.specs.Stops.{NeedsOn, NeverInner}
use Rattle.bx_model.specs.declared.reply.Reply.{Reply}
use Rattle.bx_model.specs.declared.reply.Reply.TheVariants as replies
use Rattle.bx_model.specs.declared.tree.Tree.{Tree}
use Rattle.bx_model.specs.Steps.{Outcome, done}
use Rattle.bx_reads.specs.Answers.{IsOutcome}
use Rattle.bx_views.specs.declared.attempt.Attempt.{Attempt}
use Rattle.bx_views.specs.declared.attempt.Attempt.TheVariants.{Answer}
use Rattle.bx_views.specs.declared.attempt.Done.{Done}
use Rattle.bx_views.specs.Attempts.{ChangesNothing, IsFair}
use Rattle.bx_views.specs.Truths.{Held}

module _ (xid : ℕ) (attempt : Attempt) where
  pub stops_fair : (T : Type 0) (areas : ℕ) (held : Held) (Path : ℕ → Mode → Type 0) (stop : Stop) → NeedsOn areas held Path {T = T} (Err stop) → NeverInner {T = T} (Err stop)
      → IsStopped xid stop attempt → IsFair areas held Path attempt
  stops_fair T areas held Path stop needs never is = fairness.stops_fair xid areas held Path attempt T stop needs never is

  answer_enough : (reply : Reply) → attempt ≡ Answer (done_of xid reply) → TellsEnough attempt
  answer_enough reply is = subst TellsEnough (sym is) refl

  stop_enough : (stop : Stop) → IsStopped xid stop attempt → TellsEnough attempt
  stop_enough (stops.Need at mode) is = subst TellsEnough (sym is) tt
  stop_enough (stops.Inner blocks) is = subst TellsEnough (sym is) tt
  stop_enough (stops.Status status) is = answer_enough (replies.Status status) is
  stop_enough stops.OutOfMemory is = absurd is

  module _ (tree : Tree) (outcome : Outcome) where
    pub stops_come : (stop : Stop) → IsOutcome tree outcome (Err stop) → IsStopped xid stop attempt → IsOutcomeOf tree xid outcome attempt
    stops_come (stops.Need at mode) comes is = subst (IsOutcomeOf tree xid outcome) (sym is) tt
    stops_come (stops.Inner blocks) comes is = absurd comes
    stops_come (stops.Status status) comes is = subst (IsOutcomeOf tree xid outcome) (sym is) (record { reply = replies.Status status; comes_to = ap (done tree) comes; told = refl })
    stops_come stops.OutOfMemory comes is = absurd is

    pub answer_comes : (reply : Reply) → outcome ≡ Ok (reply, tree) → attempt ≡ Answer (done_of xid reply) → IsOutcomeOf tree xid outcome attempt
    answer_comes reply comes is = subst (IsOutcomeOf tree xid outcome) (sym is) (record { reply = reply; comes_to = ap (done tree) comes; told = refl })

    pub replied_comes : (r : Result Reply Stop) → IsOutcome tree outcome r → IsReplied xid r attempt → IsOutcomeOf tree xid outcome attempt
    replied_comes (Ok reply) comes is = answer_comes reply comes is
    replied_comes (Err stop) comes is = stops_come stop comes is

  pub replied_fair : (areas : ℕ) (held : Held) (Path : ℕ → Mode → Type 0) (r : Result Reply Stop) → NeedsOn areas held Path r → NeverInner r → IsReplied xid r attempt → IsFair areas held Path attempt
  replied_fair areas held Path (Ok reply) needs never is = subst (IsFair areas held Path) (sym is) tt
  replied_fair areas held Path (Err stop) needs never is = stops_fair Reply areas held Path stop needs never is

  stop_keeps : (stop : Stop) → NeverInner {T = Reply} (Err stop) → IsStopped xid stop attempt → ChangesNothing attempt
  stop_keeps (stops.Need at mode) never is = subst ChangesNothing (sym is) tt
  stop_keeps (stops.Inner blocks) never is = absurd never
  stop_keeps (stops.Status status) never is = subst ChangesNothing (sym is) tt
  stop_keeps stops.OutOfMemory never is = absurd is

  pub replied_keeps : (r : Result Reply Stop) → NeverInner r → IsReplied xid r attempt → ChangesNothing attempt
  replied_keeps (Ok reply) never is = subst ChangesNothing (sym is) tt
  replied_keeps (Err stop) never is = stop_keeps stop never is

  pub replied_enough : (r : Result Reply Stop) → IsReplied xid r attempt → TellsEnough attempt
  replied_enough (Ok reply) is = answer_enough reply is
  replied_enough (Err stop) is = stop_enough stop is

-- an answer, where there is memory for it
pub answered_comes : {E : Type 0} (tree : Tree) (xid : ℕ) (reply : Reply) (result : Result Attempt E) → IfOk result (λ attempt. attempt ≡ Answer (done_of xid reply)) → IfOk result (IsOutcomeOf tree xid (Ok (reply, tree)))
answered_comes tree xid reply result is = IfOk-weaker result _ _ (λ attempt same. answer_comes xid attempt tree (Ok (reply, tree)) reply refl same) is

-- 8 free blocks are told where there is memory for the answer
pub told_enough : {E : Type 0} (told : Done) (result : Result Attempt E) → IfOk result (λ attempt. attempt ≡ Answer told) → told.spare ≡ 8 → IfOk result TellsEnough
told_enough told result is eight = IfOk-weaker result _ _ (λ attempt same. subst TellsEnough (sym same) eight) is
