-- What tells the outcome of a procedure is an attempt of its call.
use Rattle.std.proofs.Common.{◌≡◌, ℕ, ◌≤◌, List, Some, subst, sym}
use Rattle.std.specs.Prelude.{Result, Ok, Err, IfErr, IfOk}
use Rattle.bx_attempts.specs.Attempts.{IsAttemptOf}
use Rattle.bx_attempts.specs.First.{PreparesFirst, ReadyBy}
use Rattle.bx_attempts.specs.Full.{IsFullFor}
use Rattle.bx_attempts.specs.Paths.{ChangePathOf}
use Rattle.bx_attempts.specs.Replies.{IsOutcome, plainly, simply}
use Rattle.bx_attempts.proofs.Changing.{ActsBy, RefusesBy, change_acts, change_by_acts, changed_gives, error_refuses, making_acts, making_refuses, refused_gives, stop_refuses_or}
use Rattle.bx_attempts.proofs.Fairness.{changed_fair, refused_fair}
use Rattle.bx_attempts.proofs.First.{changed_first, changed_ready, refused_first, refused_ready}
use Rattle.bx_attempts.proofs.Fullness.{changed_full, refused_full}
use Rattle.bx_base.specs.declared.names.Mode.{Mode}
use Rattle.bx_changes.specs.Changes.{IsChange}
use Rattle.bx_changes.specs.Growing.{HoldsFirst, IfFull, IsChangeBy, IsMaking, NeedsBy}
use Rattle.bx_changes.specs.declared.error.ChangeError.{ChangeError}
use Rattle.bx_changes.specs.declared.error.ChangeError.TheVariants.{Stopped, Full}
use Rattle.bx_creating.specs.Lacking.{IfFirst}
use Rattle.bx_inodes.specs.Fitting.{HintsFitAll}
use Rattle.bx_inodes.specs.declared.stop.Stop.{Stop}
use Rattle.bx_inodes.specs.declared.stop.Stop.TheVariants as stops
use Rattle.bx_inodes.specs.Stops.{NeedsOn, NeverInner}
use Rattle.bx_model.specs.declared.call.Args.{Args}
use Rattle.bx_model.specs.declared.call.Call.{Call}
use Rattle.bx_model.specs.declared.reply.Reply.{Reply}
use Rattle.bx_model.specs.declared.tree.Tree.{Tree}
use Rattle.bx_model.specs.Act.{act}
use Rattle.bx_model.specs.Steps.{Making, Outcome, done, taken}
use Rattle.bx_records.specs.Drafts.{Changed}
use Rattle.bx_creating.specs.bx_sizes.specs.Answers.{HoldsInner, IsChangeOr}
use Rattle.bx_steps.specs.Steps.{StandsWith}
use Rattle.bx_views.specs.Attempts.{IsHeldDraft}
use Rattle.bx_views.specs.Truths.{Held, Hints, IsTruth, Truth, with_draft}
use Rattle.bx_views.specs.declared.attempt.Attempt.{Attempt}

-- what holds over each truth that stands for a tree
abbrev pub OnTruth : ℕ → ℕ → Held → Hints → (Truth → Tree → Type 0) → Type 0
OnTruth volume areas held hints Says = (truth : Truth) (tree : Tree) → IsTruth held truth → StandsWith volume areas truth hints tree → Says truth tree

module _ (volume areas : ℕ) (held : Held) (hints : Hints) (call : Call) (moment : ℕ) where
  -- what a procedure says of its outcome, by the call's arguments
  pub record Comes (args : Args) (outcome : Result (List Changed × Reply × ℕ) ChangeError) : Type 0 where
    pub acts : OnTruth volume areas held hints (λ truth tree. IfOk outcome (λ made. ActsBy volume areas truth tree call moment made.0 made.1 made.2))
    pub refuses : OnTruth volume areas held hints (λ truth tree. IfErr outcome (RefusesBy volume areas truth tree call moment))
    pub first : OnTruth volume areas held hints (λ truth tree. IfErr outcome (IfFirst (PreparesFirst volume areas held hints truth tree call moment)))
    pub ready : OnTruth volume areas held hints (λ truth tree. IfOk outcome (λ made. ReadyBy volume areas truth tree call.procedure args))
    pub need : IfErr outcome (NeedsBy areas held (ChangePathOf held hints volume areas call.procedure args))
    pub held_first : IfErr outcome (HoldsFirst held)
    pub is_held : IfOk outcome (λ made. IsHeldDraft held made.0)
    pub full : IfErr outcome (IfFull (IsFullFor held hints volume areas args))

  told : (outcome : Result (List Changed × Reply × ℕ) ChangeError) → Comes call.args outcome → moment ≤ 4294967295999 → (xid : ℕ) (attempt : Attempt) → IsOutcome xid outcome attempt
      → IsAttemptOf volume areas held hints xid call moment attempt
  told (Ok made) comes fits xid attempt is = record {
    gives = λ client bytes truth tree reads same s. changed_gives volume areas client bytes moment truth tree xid call reads fits made.0 made.1 made.2 attempt is.1 (comes.acts truth tree same s) is.0;
    lacks = λ truth tree same s. changed_first (PreparesFirst volume areas held hints truth tree call moment) xid attempt made.0 made.1 made.2 is.0;
    ready = λ truth tree same s. changed_ready (ReadyBy volume areas truth tree call.procedure call.args) xid attempt made.0 made.1 made.2 (comes.ready truth tree same s) is.0;
    fair = changed_fair xid areas held (ChangePathOf held hints volume areas call.procedure call.args) attempt made.0 made.1 made.2 comes.is_held is.0;
    full = changed_full xid (IsFullFor held hints volume areas call.args) attempt made.0 made.1 made.2 is.0;
  }
  told (Err error) comes fits xid attempt is = record {
    gives = λ client bytes truth tree reads same s. refused_gives volume areas client bytes moment truth tree xid call reads fits s.stands error attempt (comes.refuses truth tree same s) is;
    lacks = λ truth tree same s. refused_first (PreparesFirst volume areas held hints truth tree call moment) xid attempt error (comes.first truth tree same s) is;
    ready = λ truth tree same s. refused_ready (ReadyBy volume areas truth tree call.procedure call.args) xid attempt error is;
    fair = refused_fair xid areas held (ChangePathOf held hints volume areas call.procedure call.args) attempt error comes.need comes.held_first is;
    full = refused_full xid (IsFullFor held hints volume areas call.args) attempt error comes.full is;
  }

  pub is_attempt : (args : Args) → call.args ≡ args → (outcome : Result (List Changed × Reply × ℕ) ChangeError) → Comes args outcome → moment ≤ 4294967295999 → (xid : ℕ) (attempt : Attempt)
      → IsOutcome xid outcome attempt → IsAttemptOf volume areas held hints xid call moment attempt
  is_attempt args is outcome comes = told outcome (subst (λ (a : Args). Comes a outcome) (sym is) comes)

  -- ---- by a procedure that may make a file

  module _ (args : Args) (making : Tree → ℕ → Making) (acts : (tree : Tree) (spare made : ℕ) → act tree call moment spare made ≡ taken tree made (making tree spare)) where
    pub by_making : (r : Result (List Changed × Reply × ℕ) ChangeError) → OnTruth volume areas held hints (λ truth tree. IsMaking volume areas truth tree (making tree) r)
        → OnTruth volume areas held hints (λ truth tree. (other : Hints) → HintsFitAll areas other truth → IfOk r (λ made. HintsFitAll areas other (with_draft truth made.0)))
        → OnTruth volume areas held hints (λ truth tree. IfErr r (IfFirst (PreparesFirst volume areas held hints truth tree call moment)))
        → OnTruth volume areas held hints (λ truth tree. IfOk r (λ made. ReadyBy volume areas truth tree call.procedure args))
        → IfErr r (NeedsBy areas held (ChangePathOf held hints volume areas call.procedure args)) → IfErr r (HoldsFirst held) → IfOk r (λ made. IsHeldDraft held made.0)
        → IfErr r (IfFull (IsFullFor held hints volume areas args)) → Comes args r
    by_making (Ok made) step leads first ready need held_first is_held full = record {
      acts = λ truth tree same s. making_acts volume areas truth tree call moment (making tree) (acts tree) made.0 made.1 made.2 (step truth tree same s) (leads truth tree same s);
      refuses = λ truth tree same s. tt;
      first = λ truth tree same s. tt;
      ready = ready;
      need = tt;
      held_first = tt;
      is_held = is_held;
      full = tt;
    }
    by_making (Err error) step leads first ready need held_first is_held full = record {
      acts = λ truth tree same s. tt;
      refuses = λ truth tree same s. making_refuses volume areas truth tree call moment (making tree) (acts tree) error (step truth tree same s);
      first = first;
      ready = λ truth tree same s. tt;
      need = need;
      held_first = held_first;
      is_held = tt;
      full = full;
    }

  -- ---- by one that makes none

  module _ (args : Args) (outcome : Tree → ℕ → Outcome) (acts : (tree : Tree) (spare : ℕ) → act tree call moment spare 0 ≡ Some (done tree (outcome tree spare))) where
    pub by_change : (r : Result (List Changed × Reply) ChangeError) → OnTruth volume areas held hints (λ truth tree. IsChangeBy volume areas truth (outcome tree) r)
        → OnTruth volume areas held hints (λ truth tree. (other : Hints) → HintsFitAll areas other truth → IfOk r (λ made. HintsFitAll areas other (with_draft truth made.0)))
        → OnTruth volume areas held hints (λ truth tree. IfErr r (IfFirst (PreparesFirst volume areas held hints truth tree call moment)))
        → OnTruth volume areas held hints (λ truth tree. IfOk r (λ made. ReadyBy volume areas truth tree call.procedure args))
        → IfErr r (NeedsBy areas held (ChangePathOf held hints volume areas call.procedure args)) → IfErr r (HoldsFirst held) → IfOk r (λ made. IsHeldDraft held made.0)
        → IfErr r (IfFull (IsFullFor held hints volume areas args)) → Comes args (plainly r)
    by_change (Ok made) step leads first ready need held_first is_held full = record {
      acts = λ truth tree same s. change_by_acts volume areas truth tree call moment (outcome tree) (acts tree) made.0 made.1 (step truth tree same s) (leads truth tree same s);
      refuses = λ truth tree same s. tt;
      first = λ truth tree same s. tt;
      ready = ready;
      need = tt;
      held_first = tt;
      is_held = is_held;
      full = tt;
    }
    by_change (Err error) step leads first ready need held_first is_held full = record {
      acts = λ truth tree same s. tt;
      refuses = λ truth tree same s. error_refuses volume areas truth tree call moment (outcome tree) (acts tree) error (step truth tree same s);
      first = first;
      ready = λ truth tree same s. tt;
      need = need;
      held_first = held_first;
      is_held = tt;
      full = full;
    }

  -- ---- by one that takes no blocks

  module _ (args : Args) (outcome : Tree → Outcome) (acts : (tree : Tree) → act tree call moment 8 0 ≡ Some (done tree (outcome tree))) where
    abbrev Path : ℕ → Mode → Type 0
    Path = ChangePathOf held hints volume areas call.procedure args

    needs : (stop : Stop) → NeedsOn areas held Path {T = List Changed × Reply} (Err stop) → NeedsBy areas held Path (Stopped stop)
    needs (stops.Need at mode) need = need
    needs (stops.Inner blocks) need = tt
    needs (stops.Status status) need = tt
    needs stops.OutOfMemory need = tt

    holds : (stop : Stop) → HoldsInner {T = List Changed × Reply} held (Err stop) → HoldsFirst held (Stopped stop)
    holds (stops.Need at mode) first = tt
    holds (stops.Inner blocks) first = first
    holds (stops.Status status) first = tt
    holds stops.OutOfMemory first = tt

    pub by_stopping : (r : Result (List Changed × Reply) Stop) → OnTruth volume areas held hints (λ truth tree. IsChangeOr volume areas truth (outcome tree) r)
        → OnTruth volume areas held hints (λ truth tree. (other : Hints) → HintsFitAll areas other truth → IfOk r (λ made. HintsFitAll areas other (with_draft truth made.0)))
        → OnTruth volume areas held hints (λ truth tree. IfErr r (λ stop. IfFirst (PreparesFirst volume areas held hints truth tree call moment) (Stopped stop)))
        → OnTruth volume areas held hints (λ truth tree. IfOk r (λ made. ReadyBy volume areas truth tree call.procedure args))
        → NeedsOn areas held Path r → HoldsInner held r → IfOk r (λ made. IsHeldDraft held made.0) → Comes args (simply r)
    by_stopping (Ok made) step leads first ready need held_first is_held = record {
      acts = λ truth tree same s. change_acts volume areas truth tree call moment (outcome tree) (acts tree) made.0 made.1 (step truth tree same s) (leads truth tree same s);
      refuses = λ truth tree same s. tt;
      first = λ truth tree same s. tt;
      ready = ready;
      need = tt;
      held_first = tt;
      is_held = is_held;
      full = tt;
    }
    by_stopping (Err stop) step leads first ready need held_first is_held = record {
      acts = λ truth tree same s. tt;
      refuses = λ truth tree same s. stop_refuses_or volume areas truth tree call moment (outcome tree) (acts tree) stop (step truth tree same s);
      first = first;
      ready = λ truth tree same s. tt;
      need = needs stop need;
      held_first = holds stop held_first;
      is_held = tt;
      full = tt;
    }

-- ---- what never wants blocks to be written first

pub change_or : (volume areas : ℕ) (truth : Truth) (tree : Tree) (outcome : Outcome) (r : Result (List Changed × Reply) Stop) → IsChange volume areas truth tree outcome r → IsChangeOr volume areas truth outcome r
change_or volume areas truth tree outcome (Ok made) is = is
change_or volume areas truth tree outcome (Err (stops.Need at mode)) is = tt
change_or volume areas truth tree outcome (Err (stops.Inner blocks)) is = absurd is
change_or volume areas truth tree outcome (Err (stops.Status status)) is = is
change_or volume areas truth tree outcome (Err stops.OutOfMemory) is = tt

pub never_holds : (held : Held) (r : Result (List Changed × Reply) Stop) → NeverInner r → HoldsInner held r
never_holds held (Ok made) never = tt
never_holds held (Err (stops.Need at mode)) never = tt
never_holds held (Err (stops.Inner blocks)) never = absurd never
never_holds held (Err (stops.Status status)) never = tt
never_holds held (Err stops.OutOfMemory) never = tt

pub never_prepares : (Holds : List Changed → Type 0) (r : Result (List Changed × Reply) Stop) → NeverInner r → IfErr r (λ stop. IfFirst Holds (Stopped stop))
never_prepares Holds (Ok made) never = tt
never_prepares Holds (Err (stops.Need at mode)) never = tt
never_prepares Holds (Err (stops.Inner blocks)) never = absurd never
never_prepares Holds (Err (stops.Status status)) never = tt
never_prepares Holds (Err stops.OutOfMemory) never = tt

-- ---- what is on a path is on a wider one

module _ (areas : ℕ) (held : Held) (Path Wider : ℕ → Mode → Type 0) (wider : (at : ℕ) (mode : Mode) → Path at mode → Wider at mode) where
  pub on_wider : (r : Result (List Changed × Reply) Stop) → NeedsOn areas held Path r → NeedsOn areas held Wider r
  on_wider (Ok made) need = tt
  on_wider (Err (stops.Need at mode)) need = (need.0, need.1, wider at mode need.2)
  on_wider (Err (stops.Inner blocks)) need = tt
  on_wider (Err (stops.Status status)) need = tt
  on_wider (Err stops.OutOfMemory) need = tt

  pub by_wider : (error : ChangeError) → NeedsBy areas held Path error → NeedsBy areas held Wider error
  by_wider (Stopped (stops.Need at mode)) need = (need.0, need.1, wider at mode need.2)
  by_wider (Stopped (stops.Inner blocks)) need = tt
  by_wider (Stopped (stops.Status status)) need = tt
  by_wider (Stopped stops.OutOfMemory) need = tt
  by_wider (Full spare) need = tt
