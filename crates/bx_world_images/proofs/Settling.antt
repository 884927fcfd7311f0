-- What was being written to the gates of a slot stands: by whom ever, and however it turned out. So the gate of a record is acknowledged, so gate 0 is closed,
-- and so a recovery finds a log whose gates it wrote back as it had read them.
use Rattle.std.proofs.Common.{◌≡◌, ◌≢◌, ◌⊎◌, inl, inr, ℕ, ◌+◌, ◌*◌, ◌/◌, ◌<◌, Bool, true, false, List, [], ◌∷◌, length, IsSome, refl, sym, ◌∙◌, ap, subst, arith}
use Rattle.bx_disk.specs.Disks.{Image}
use Rattle.bx_places.specs.Places.{IsBlock, block_place, body_place, gate_place, log_device, log_start}
use Rattle.bx_world_logs.specs.bx_redo.specs.Stands.{LogStands, Shows as ShowsOne}
use Rattle.bx_world_logs.specs.bx_redo.specs.Stands as log
use Rattle.bx_world_logs.specs.bx_redo.specs.declared.work.Work.{Work}
use Rattle.bx_world_logs.specs.bx_redo.specs.declared.work.Work.TheVariants as works
use Rattle.bx_world_logs.specs.bx_redo.proofs.Shown.{shown as shows_one}
use Rattle.bx_world_logs.specs.bx_redo.proofs.Within.{before_it, behind_it}
use Rattle.bx_rows.specs.declared.session.SessionRow.{SessionRow}
use Rattle.bx_rows.specs.Words.{is_taken}
use Rattle.bx_truth.proofs.Cases.{same_or}
use Rattle.bx_views.specs.Truths.{Truth, with_draft}
use Rattle.bx_volume.specs.Overlay.{Logs, IsOverlaidTruth, IsUnlogged, filled_of, with_log}
use Rattle.bx_volume.specs.Records.{Logged, LogWhere, StandOpen, gate_of, newest_in}
use Rattle.bx_volume.proofs.Matters.{truth_same}
use Rattle.bx_volume.proofs.Overlay.{log_here, log_there}
use Rattle.bx_world_logs.specs.Logs.{Activity, OfLog, Found, Finds, IsInLog, IsLogOf, LogsStand, Slot, SlotStands, begins, closes, opens, view_of, writes_in}
use Rattle.bx_world_logs.specs.Shown.{IsRun, ShowsSlot}
use Rattle.bx_world_images.proofs.Images.{body_sure, home_sure, in_log}
use Rattle.bx_world_logs.proofs.Moving.{filled_most, moves, slot_here, with_slot}
use Rattle.bx_world_logs.proofs.Regions.{IsIn, home_in_none, writes_within}

-- the slot with nothing under way, as it is found
abbrev pub found_slot : Slot → Slot
found_slot is = record { activity = Found; more = is.more }

-- what stands then: the log's run, or that with the record that was under way, or none
pub record Settles (Sure : ℕ → ℕ → List ℕ → Type 0) (devices areas : ℕ) (rows : List SessionRow) (now : Image) (logs : Logs) (slots : ℕ → Slot) (truth : Truth) (slot : ℕ) : Type 0 where
  pub run : List Logged
  pub next : Truth
  pub shows : ShowsSlot logs slots slot run truth next
  pub stand : LogsStand Sure devices areas rows now (with_log logs slot run) (with_slot slots slot (found_slot (slots slot))) next

run_is : (logs : Logs) (slots : ℕ → Slot) (slot : ℕ) (run : List Logged) (truth next : Truth) → ShowsSlot logs slots slot run truth next → IsRun logs slots slot run
run_is logs slots slot run truth next (inl is) = inl is.0
run_is logs slots slot run truth next (inr (inl is)) = inr (inl (is.0, is.1))
run_is logs slots slot run truth next (inr (inr is)) = inr (inr (is.0, is.1))

module _ (Sure Sure_then : ℕ → ℕ → List ℕ → Type 0) (devices areas : ℕ) (rows : List SessionRow) (before now : Image) (logs : Logs) (slots : ℕ → Slot) (truth : Truth)
    (st : LogsStand Sure devices areas rows before logs slots truth) (slot : ℕ) (less : slot < 8) (taken : is_taken rows slot ≡ true)
    (same : (d s : ℕ) → writes_in devices slot (length (logs slot)) (slots slot).activity d s ≡ false → now d s ≡ before d s)
    (keeps : (d s : ℕ) (content : List ℕ) → writes_in devices slot (length (logs slot)) (slots slot).activity d s ≡ false → Sure d s content → Sure_then d s content)
    (gates : (gate : ℕ) → gate < 8 → Sure_then (gate_place slot gate devices).0 (gate_place slot gate devices).1 (gate_of now devices slot gate)) where
  its : IsLogOf Sure devices areas before logs slot (slots slot)
  its = subst (λ (t : Bool). SlotStands Sure devices areas before t logs slot (slots slot)) taken (st.each slot less)

  -- nothing is written outside the slot
  quiet_outside : (d s : ℕ) → (IsIn slot s → ⊥) → writes_in devices slot (length (logs slot)) (slots slot).activity d s ≡ false
  quiet_outside d s apart = by (writes_in devices slot (length (logs slot)) (slots slot).activity d s) refl
    where
      by : (b : Bool) → writes_in devices slot (length (logs slot)) (slots slot).activity d s ≡ b → writes_in devices slot (length (logs slot)) (slots slot).activity d s ≡ false
      by true is = absurd (apart (writes_within Sure devices areas before logs slots slot d s (is_taken rows slot) (st.each slot less) is))
      by false is = is

  -- nor in the bodies of its run
  quiet_body : (body i : ℕ) → body < length (logs slot) → i < 145 → (activity : Activity) → Finds Sure devices areas before logs (slots slot).more slot activity
      → writes_in devices slot (length (logs slot)) activity (body_place slot body devices).0 ((body_place slot body devices).1 + i) ≡ false
  quiet_body body i low few (OfLog works.Idle) finds = behind_it (log_device slot devices) 0 0 (log_device slot devices) (log_start slot + 8 + 145 * body + i) (omega arith)
  quiet_body body i low few (OfLog (works.Body text point)) finds = before_it (log_device slot devices) (log_start slot + 8 + 145 * length (logs slot)) (length text / 512) (log_device slot devices) (log_start slot + 8 + 145 * body + i) (omega (arith, low, few))
  quiet_body body i low few (OfLog (works.Opens point)) finds = let room = finds.1.under_way.room in behind_it (log_device slot devices) (log_start slot + length (logs slot)) 1 (log_device slot devices) (log_start slot + 8 + 145 * body + i) (omega (arith, room))
  quiet_body body i low few (OfLog works.Closes) finds = behind_it (log_device slot devices) (log_start slot) 1 (log_device slot devices) (log_start slot + 8 + 145 * body + i) (omega arith)
  quiet_body body i low few (OfLog works.Shuts) finds = behind_it (log_device slot devices) (log_start slot + 1) 7 (log_device slot devices) (log_start slot + 8 + 145 * body + i) (omega arith)
  quiet_body body i low few Found finds = refl

  quiet_more : (body i : ℕ) → (activity : Activity) → opens activity ≡ true → Finds Sure devices areas before logs (slots slot).more slot activity
      → writes_in devices slot (length (logs slot)) activity (body_place slot body devices).0 ((body_place slot body devices).1 + i) ≡ false
  quiet_more body i (OfLog works.Idle) starts finds = absurd cc
  quiet_more body i (OfLog (works.Body text point)) starts finds = absurd cc
  quiet_more body i (OfLog (works.Opens point)) starts finds = let room = finds.1.under_way.room in behind_it (log_device slot devices) (log_start slot + length (logs slot)) 1 (log_device slot devices) (log_start slot + 8 + 145 * body + i) (omega (arith, room))
  quiet_more body i (OfLog works.Closes) starts finds = absurd cc
  quiet_more body i (OfLog works.Shuts) starts finds = absurd cc
  quiet_more body i Found starts finds = absurd cc

  goes_if : (d s : ℕ) → writes_in devices slot (length (logs slot)) (slots slot).activity d s ≡ false → Sure d s (before d s) → Sure_then d s (now d s)
  goes_if d s quiet sure = subst (λ (content : List ℕ). Sure_then d s content) (sym (same d s quiet)) (keeps d s (before d s) quiet sure)

  runs_then : (run : List Logged) → IsRun logs slots slot run → (other : ℕ) → other < 8 → IsRun logs slots other (with_log logs slot run other)
  runs_then run is other in_slots = by (same_or other slot)
    where
      by : (other ≡ slot) ⊎ (other ≢ slot) → IsRun logs slots other (with_log logs slot run other)
      by (inl e) = subst (λ (k : ℕ). IsRun logs slots k (with_log logs slot run k)) (sym e) (subst (λ (r : List Logged). IsRun logs slots slot r) (sym (log_here logs slot run)) is)
      by (inr apart) = inl (log_there logs slot other run apart)

  -- the log of the slot, with a run that it may show
  log_then : (run : List Logged) (next : Truth) → IsRun logs slots slot run → IsOverlaidTruth now devices areas rows (with_log logs slot run) next → IsLogOf Sure_then devices areas now (with_log logs slot run) slot (found_slot (slots slot))
  log_then run next is truth_is = record {
    gates = λ gate place apart. gates gate place;
    bodies = λ body i few fills. body_then body i (subst (λ (r : List Logged). body < length r) (log_here logs slot run) few) (subst (λ (r : List Logged). i < filled_of r body) (log_here logs slot run) fills);
    finds = tt;
  }
    where
      stand_open : StandOpen now devices areas slot run
      stand_open = subst (λ (r : List Logged). StandOpen now devices areas slot r) (log_here logs slot run)
          (subst (λ (t : Bool). LogWhere t now devices areas slot (with_log logs slot run slot)) taken (truth_is.has_logs slot less)).stand

      split : (a b : ℕ) → a < b + 1 → (a ≡ b) ⊎ (a < b)
      split a b lower = grind arith

      quiet : (body i : ℕ) → body < length run → i < 145 → IsRun logs slots slot run → writes_in devices slot (length (logs slot)) (slots slot).activity (body_place slot body devices).0 ((body_place slot body devices).1 + i) ≡ false
      quiet body i few small (inl whole) = quiet_body body i (subst (λ (r : List Logged). body < length r) whole few) small (slots slot).activity its.finds
      quiet body i few small (inr (inl with_it)) = quiet_more body i (slots slot).activity with_it.0 its.finds
      quiet body i few small (inr (inr without)) = absurd (let e : body < length {A = Logged} [] = subst (λ (r : List Logged). body < length r) without.1 few in omega (arith, e))

      body_then : (body i : ℕ) → body < length run → i < filled_of run body → Sure_then (body_place slot body devices).0 ((body_place slot body devices).1 + i) (now (body_place slot body devices).0 ((body_place slot body devices).1 + i))
      body_then body i few fills =
          goes_if (body_place slot body devices).0 ((body_place slot body devices).1 + i)
          (quiet body i few (let small = filled_most now devices areas slot run body stand_open in omega (arith, small, fills)) is)
          (body_sure Sure devices areas rows before logs slots truth st now slot run less is taken body i few fills)

  home_then : (run : List Logged) → IsRun logs slots slot run → (at : ℕ) → IsBlock areas at → IsUnlogged (with_log logs slot run) at → (i : ℕ) → i < 9
      → Sure_then (block_place at devices).0 ((block_place at devices).1 + i) (now (block_place at devices).0 ((block_place at devices).1 + i))
  home_then run is at is_block unlogged i few =
      goes_if (block_place at devices).0 ((block_place at devices).1 + i)
      (quiet_outside (block_place at devices).0 ((block_place at devices).1 + i) (λ there. home_in_none at devices slot i less there))
      (home_sure Sure devices areas rows before logs slots truth st now (with_log logs slot run) (runs_then run is) at is_block unlogged i few)

  found : (run : List Logged) (next : Truth) → ShowsSlot logs slots slot run truth next → IsOverlaidTruth now devices areas rows (with_log logs slot run) next → Settles Sure_then devices areas rows now logs slots truth slot
  found run next shows truth_is = record {
    run = run;
    next = next;
    shows = shows;
    stand = moves Sure Sure_then devices areas rows before now logs slots truth st slot less
        (λ d s apart. same d s (quiet_outside d s apart))
        (λ d s content apart sure. keeps d s content (quiet_outside d s apart) sure)
        run (found_slot (slots slot)) next taken truth_is (log_then run next (run_is logs slots slot run truth next shows) truth_is) (home_then run (run_is logs slots slot run truth next shows)) alone;
  }
    where
      alone : (other at : ℕ) → other < 8 → other ≢ slot → IsInLog (with_log logs slot run) (with_slot slots slot (found_slot (slots slot))) slot at → IsInLog logs slots other at → ⊥
      alone other at in_slots apart (inl some) in_other = apart (sym (st.once slot other at less in_slots
          (in_log logs slots slot at run (run_is logs slots slot run truth next shows) (subst (λ (r : List Logged). IsSome (newest_in r at)) (log_here logs slot run) some)) in_other))
      alone other at in_slots apart (inr begun) in_other = absurd (let e : begins (with_slot slots slot (found_slot (slots slot)) slot).activity ≡ false = ap (λ (x : Slot). begins x.activity) (slot_here slots slot (found_slot (slots slot))) in let b = begun.0 in cc)

  same_logs : (run : List Logged) → run ≡ logs slot → (other : ℕ) → with_log logs slot run other ≡ logs other
  same_logs run is other = by (same_or other slot)
    where
      by : (other ≡ slot) ⊎ (other ≢ slot) → with_log logs slot run other ≡ logs other
      by (inl e) = ap (with_log logs slot run) e ∙ log_here logs slot run ∙ is ∙ ap logs (sym e)
      by (inr apart) = log_there logs slot other run apart

  -- the truth by the same runs, spelled with the slot's own
  respelled : IsOverlaidTruth now devices areas rows logs truth → IsOverlaidTruth now devices areas rows (with_log logs slot (logs slot)) truth
  respelled is = record {
    has_logs = λ other in_slots. subst (λ (r : List Logged). LogWhere (is_taken rows other) now devices areas other r) (sym (same_logs (logs slot) refl other)) (is.has_logs other in_slots);
    logged = λ other at block in_slots newest. is.logged other at block in_slots (ap (λ (r : List Logged). newest_in r at) (sym (same_logs (logs slot) refl other)) ∙ newest);
    home = λ at is_block unlogged. is.home at is_block (λ other in_slots. ap (λ (r : List Logged). newest_in r at) (sym (same_logs (logs slot) refl other)) ∙ unlogged other in_slots);
  }

  abbrev Trivial : ℕ → ℕ → List ℕ → Type 0
  Trivial d s content = content ≡ before d s

  finds_one : (work : Work) → Finds Sure devices areas before logs (slots slot).more slot (OfLog work)
      → log.Finds Trivial devices areas rows before logs truth (slots slot).more (view_of devices slot (length (logs slot)) work) work
  finds_one works.Idle finds = finds
  finds_one (works.Body text point) finds = (finds.0, finds.1.under_way)
  finds_one (works.Opens point) finds = (finds.0, finds.1.under_way, λ sector lower. refl)
  finds_one works.Closes finds = record { some = finds.0; home = finds.1.home; sure = λ d s matters apart. refl }
  finds_one works.Shuts finds = finds

  log_one : (work : Work) → Finds Sure devices areas before logs (slots slot).more slot (OfLog work) → LogStands Trivial devices areas rows before logs truth (slots slot).more (view_of devices slot (length (logs slot)) work)
  log_one work finds = record {
    volume = st.volume;
    is_slot = less;
    on_device = refl;
    taken = taken;
    is_truth = st.is_truth;
    run = refl;
    sure = λ d s matters apart. refl;
    own = λ d s gate apart. refl;
    finds = finds_one work finds;
  }

  pub settles : Settles Sure_then devices areas rows now logs slots truth slot
  settles = by_activity (slots slot).activity refl its.finds
    where
      shown_by : (work : Work) → (slots slot).activity ≡ OfLog work → Finds Sure devices areas before logs (slots slot).more slot (OfLog work)
          → ShowsOne devices areas rows logs truth (slots slot).more now slot work
      shown_by work is finds = shows_one Trivial devices areas rows before now logs truth (slots slot).more (view_of devices slot (length (logs slot)) work) work
          (λ d s apart sure. same d s (subst (λ (c : Activity). writes_in devices slot (length (logs slot)) c d s ≡ false) (sym is) apart)) (log_one work finds)

      whole : IsOverlaidTruth now devices areas rows logs truth → Settles Sure_then devices areas rows now logs slots truth slot
      whole is = found (logs slot) truth (inl (refl, refl)) (respelled is)

      by_work : (work : Work) → (slots slot).activity ≡ OfLog work → ShowsOne devices areas rows logs truth (slots slot).more now slot work → Settles Sure_then devices areas rows now logs slots truth slot
      by_work works.Idle is shows = whole shows
      by_work (works.Body text point) is shows = whole shows
      by_work (works.Opens point) is (inl shows) = whole shows
      by_work (works.Opens point) is (inr shows) = found ((slots slot).more ∷ logs slot) (with_draft truth (slots slot).more.changed) (inr (inl (ap opens is, refl, refl))) shows
      by_work works.Closes is (inl shows) = whole shows
      by_work works.Closes is (inr shows) = found [] truth (inr (inr (ap closes is, refl, refl))) shows
      by_work works.Shuts is shows = whole shows

      by_activity : (activity : Activity) → (slots slot).activity ≡ activity → Finds Sure devices areas before logs (slots slot).more slot activity → Settles Sure_then devices areas rows now logs slots truth slot
      by_activity (OfLog work) is finds = by_work work is (shown_by work is finds)
      by_activity Found is finds = whole (truth_same before now devices areas rows logs truth (λ d s matters. same d s (ap (λ (c : Activity). writes_in devices slot (length (logs slot)) c d s) is)) st.is_truth)
