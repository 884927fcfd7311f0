-- A change that a procedure comes to is one step of the tree, and so is why it isn't made.
use Rattle.std.proofs.Common.{◌≡◌, ℕ, ◌≤◌, ◌<◌, ◌^◌, false, true, List, [], ◌∷◌, Some, refl, sym, ap, ◌∙◌, subst, inl, inr, arith, lit≤}
use Rattle.std.specs.Prelude.{◌⊎◌, Err}
use Rattle.bx_attempts.specs.Replies.{IsChanged, IsRefused, done_with}
use Rattle.bx_steps.specs.Steps.{StandsWith, StepOfTree}
use Rattle.bx_changes.specs.Changes.{Changes, IsChange}
use Rattle.bx_changes.specs.Growing.{IsChangeBy, IsMaking, IsNearlyFull, LeavesTrees, Makes}
use Rattle.bx_changes.specs.declared.error.ChangeError.{ChangeError}
use Rattle.bx_changes.specs.declared.error.ChangeError.TheVariants.{Stopped, Full}
use Rattle.bx_chunks.specs.Counting.{free_slots}
use Rattle.bx_inodes.specs.Fitting.{HintsFitAll}
use Rattle.bx_inodes.specs.declared.stop.Stop.{Stop}
use Rattle.bx_inodes.specs.declared.stop.Stop.TheVariants as stops
use Rattle.bx_inodes.specs.Stands.{Stands}
use Rattle.bx_model.specs.declared.call.Call.{Call}
use Rattle.bx_model.specs.declared.reply.Reply.{Reply}
use Rattle.bx_model.specs.declared.reply.Reply.TheVariants.{Status}
use Rattle.bx_model.specs.declared.status.TheConstants.{NOSPC}
use Rattle.bx_model.specs.declared.tree.Tree.{Tree}
use Rattle.bx_model.specs.Act.{act}
use Rattle.bx_model.specs.History.{tells_spare}
use Rattle.bx_model.specs.Steps.{Making, Outcome, done, taken}
use Rattle.bx_nfs.specs.Wire.{ReadsAs, reply_text}
use Rattle.bx_records.specs.Drafts.{Changed}
use Rattle.bx_creating.specs.bx_sizes.specs.Answers.{IsChangeOr}
use Rattle.bx_views.specs.declared.attempt.Attempt.{Attempt}
use Rattle.bx_views.specs.declared.attempt.Attempt.TheVariants.{Answer}
use Rattle.bx_views.specs.declared.attempt.Done.{Done}
use Rattle.bx_views.specs.Attempts.{Acts, Gives, TellsSpare, deed_of}
use Rattle.bx_views.specs.Truths.{Hints, Truth, with_draft}

-- ---- what the tree does by the call

module _ (volume areas : ℕ) (truth : Truth) (tree : Tree) (call : Call) (moment : ℕ) where
  -- The call comes to a reply and a next tree, for which the truth with the draft stands, and all hints that fitted still fit.
  pub record ActsBy (draft : List Changed) (reply : Reply) (made : ℕ) : Type 0 where
    pub next : Tree
    pub acts : act tree call moment 8 made ≡ Some (reply, next)
    pub stands : Stands volume areas (with_draft truth draft) next
    pub leads : (hints : Hints) → HintsFitAll areas hints truth → HintsFitAll areas hints (with_draft truth draft)

  -- the call comes to an error, and blocks to be written first leave the tree
  abbrev pub RefusesBy : ChangeError → Type 0
  RefusesBy (Stopped (stops.Need at mode)) = Unit {0}
  RefusesBy (Stopped (stops.Inner draft)) = LeavesTrees areas truth draft
  RefusesBy (Stopped (stops.Status status)) = act tree call moment 8 0 ≡ Some (Status status, tree)
  RefusesBy (Stopped stops.OutOfMemory) = Unit {0}
  RefusesBy (Full spare) = IsNearlyFull areas truth spare × (act tree call moment spare 0 ≡ Some (Status NOSPC, tree))

  abbrev Leads : List Changed → Type 0
  Leads draft = (hints : Hints) → HintsFitAll areas hints truth → HintsFitAll areas hints (with_draft truth draft)

  -- by a procedure that takes no blocks
  module _ (outcome : Outcome) (acts : act tree call moment 8 0 ≡ Some (done tree outcome)) where
    pub change_acts : (draft : List Changed) (reply : Reply) → Changes volume areas truth outcome draft reply → Leads draft → ActsBy draft reply 0
    change_acts draft reply changes leads = record { next = changes.next; acts = acts ∙ ap (λ (o : Outcome). Some (done tree o)) changes.comes_to; stands = changes.stands; leads = leads }

    pub stop_refuses_or : (stop : Stop) → IsChangeOr volume areas truth outcome (Err stop) → RefusesBy (Stopped stop)
    stop_refuses_or (stops.Need at mode) is = tt
    stop_refuses_or (stops.Inner draft) is = is
    stop_refuses_or (stops.Status status) is = acts ∙ ap (λ (o : Outcome). Some (done tree o)) is
    stop_refuses_or stops.OutOfMemory is = tt

    pub stop_refuses : (stop : Stop) → IsChange volume areas truth tree outcome (Err stop) → RefusesBy (Stopped stop)
    stop_refuses (stops.Need at mode) is = tt
    stop_refuses (stops.Inner draft) is = absurd is
    stop_refuses (stops.Status status) is = acts ∙ ap (λ (o : Outcome). Some (done tree o)) is
    stop_refuses stops.OutOfMemory is = tt

  -- by one that may take some
  module _ (outcome : ℕ → Outcome) (acts : (spare : ℕ) → act tree call moment spare 0 ≡ Some (done tree (outcome spare))) where
    pub change_by_acts : (draft : List Changed) (reply : Reply) → Changes volume areas truth (outcome 8) draft reply → Leads draft → ActsBy draft reply 0
    change_by_acts draft reply changes leads = change_acts (outcome 8) (acts 8) draft reply changes leads

    pub error_refuses : (error : ChangeError) → IsChangeBy volume areas truth outcome (Err error) → RefusesBy error
    error_refuses (Stopped (stops.Need at mode)) is = tt
    error_refuses (Stopped (stops.Inner draft)) is = is
    error_refuses (Stopped (stops.Status status)) is = acts 8 ∙ ap (λ (o : Outcome). Some (done tree o)) is
    error_refuses (Stopped stops.OutOfMemory) is = tt
    error_refuses (Full spare) is = (is.0, acts spare ∙ ap (λ (o : Outcome). Some (done tree o)) is.1)

  -- by one that may make a file
  module _ (making : ℕ → Making) (acts : (spare made : ℕ) → act tree call moment spare made ≡ taken tree made (making spare)) where
    pub making_acts : (draft : List Changed) (reply : Reply) (made : ℕ) → Makes volume areas truth tree (making 8) draft reply made → Leads draft → ActsBy draft reply made
    making_acts draft reply made makes leads = record { next = makes.next; acts = acts 8 made ∙ makes.comes_to; stands = makes.stands; leads = leads }

    pub making_refuses : (error : ChangeError) → IsMaking volume areas truth tree making (Err error) → RefusesBy error
    making_refuses (Stopped (stops.Need at mode)) is = tt
    making_refuses (Stopped (stops.Inner draft)) is = is
    making_refuses (Stopped (stops.Status status)) is = acts 8 0 ∙ ap (taken tree 0) is
    making_refuses (Stopped stops.OutOfMemory) is = tt
    making_refuses (Full spare) is = (is.0, acts spare 0 ∙ ap (taken tree 0) is.1)

-- ---- the step

module _ (volume areas client : ℕ) (bytes : List ℕ) (moment : ℕ) (truth : Truth) (tree : Tree) (xid : ℕ) (call : Call)
    (reads : ReadsAs bytes xid call) (fits : moment ≤ 4294967295999) where
  abbrev free : ℕ
  free = free_slots areas truth

  abbrev GivesStep : Attempt → Type 0
  GivesStep attempt = Gives (StandsWith volume areas) StepOfTree free client bytes moment truth tree attempt

  module _ (reply : Reply) (spare made : ℕ) (next : Tree) (acts : act tree call moment spare made ≡ Some (reply, next)) (few : spare ≤ 4294967295) (made_fits : made < 2 ^ 64)
      (enough : tells_spare reply ≡ false → spare ≡ 8) where
    abbrev acted : Done
    acted = record { reply = reply_text xid reply; spare = spare; made = made }

    one_step : StepOfTree tree (deed_of client bytes moment acted) next
    one_step = record {
      xid = xid;
      call = call;
      reply = reply;
      reads = reads;
      acts = acts;
      replies = refl;
      moment_fits = fits;
      spare_fits = few;
      made_fits = made_fits;
      enough = enough;
    }

    by_step : (draft : List Changed) → TellsSpare free acted → Stands volume areas (with_draft truth draft) next → ((hints : Hints) → HintsFitAll areas hints truth → HintsFitAll areas hints (with_draft truth draft))
        → Acts (StandsWith volume areas) StepOfTree free (deed_of client bytes moment acted) acted truth draft tree
    by_step draft tells stands leads = record {
      next = next;
      step = one_step;
      leads = record { each = λ hints was. record { stands = stands; fit = leads hints was.fit } };
      spare = tells;
    }

  pub changed_gives : (draft : List Changed) (reply : Reply) (made : ℕ) (attempt : Attempt) → made < 2 ^ 64 → ActsBy volume areas truth tree call moment draft reply made → IsChanged xid draft reply made attempt
      → GivesStep attempt
  changed_gives [] reply made attempt fit by is = subst GivesStep (sym is) (by_step reply 8 made by.next by.acts (lit≤ tt) fit (λ quiet. refl) [] (inl refl) by.stands by.leads)
  changed_gives (block ∷ blocks) reply made attempt fit by is =
      subst GivesStep (sym is) (by_step reply 8 made by.next by.acts (lit≤ tt) fit (λ quiet. refl) (block ∷ blocks) (inl refl) by.stands by.leads)

  module _ (stands : Stands volume areas truth tree) where
    status_gives : (status spare : ℕ) (attempt : Attempt) → act tree call moment spare 0 ≡ Some (Status status, tree) → spare ≤ 4294967295 → (tells_spare (Status status) ≡ false → spare ≡ 8)
        → (spare ≡ 8) ⊎ (spare ≡ free) → attempt ≡ Answer (done_with xid (Status status) spare) → GivesStep attempt
    status_gives status spare attempt acts few enough tells is =
        subst GivesStep (sym is) (by_step (Status status) spare 0 tree acts few (omega arith) enough [] tells stands (λ hints fit. fit))

    pub refused_gives : (error : ChangeError) (attempt : Attempt) → RefusesBy volume areas truth tree call moment error → IsRefused xid error attempt → GivesStep attempt
    refused_gives (Stopped (stops.Need at mode)) attempt by is = subst GivesStep (sym is) tt
    refused_gives (Stopped (stops.Inner draft)) attempt by is =
        subst GivesStep (sym is) (record { each = λ hints was. record { stands = by.stands volume tree was.stands; fit = by.leads hints was.fit } })
    refused_gives (Stopped (stops.Status status)) attempt by is = status_gives status 8 attempt by (lit≤ tt) (λ quiet. refl) (inl refl) is
    refused_gives (Stopped stops.OutOfMemory) attempt by is = absurd is
    refused_gives (Full spare) attempt by is = status_gives NOSPC spare attempt by.1 (few_fit spare by.0.few) (λ quiet. absurd (loud quiet)) (inr by.0.spare_is) is
      where
        few_fit : (n : ℕ) → n < 8 → n ≤ 4294967295
        few_fit n less = omega (arith, less)

        loud : true ≡ false → ⊥
        loud never = cc
