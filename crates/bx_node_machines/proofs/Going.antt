-- A recovery goes on where nothing happens to the slot that it recovers, nor to the homes of the blocks of its log.
use Rattle.std.proofs.Common.{◌≡◌, ◌⊎◌, ⊎_elim, inl, inr, ◌∙◌, ℕ, ◌+◌, ◌-◌, ◌/◌, ◌<◌, ◌≤◌, true, false, List, ◌∷◌, Contains, length, reverse, Option, Some, None, IsSome, refl, sym, ap, subst, arith}
use Rattle.bx_facts.specs.Chains.{Chain, IsPlace, last}
use Rattle.bx_facts.specs.Writes.{Asked, Sent, Writes, WritesIn, WritesTo}
use Rattle.bx_global.specs.declared.change.Change.{Change}
use Rattle.bx_global.specs.declared.change.Change.TheVariants.{Close}
use Rattle.bx_global.specs.declared.state.GlobalState.{GlobalState}
use Rattle.bx_node_machines.specs.Machines.{IsFlying, IsWriting}
use Rattle.bx_node_machines.specs.Recovering.{AreGatesAsked, Around, HasEnded, IsAtStage, IsBodyAsked, IsFilled, IsFound, IsRecovering, IsStill, body_asked, gates_asked, gates_back, gates_shut, recovery_of}
use Rattle.bx_places.specs.Places.{IsBlock, block_place, body_place, gate_place, log_device, log_start}
use Rattle.bx_records.specs.Drafts.{Block}
use Rattle.bx_records.specs.declared.runs.Run.{Run}
use Rattle.bx_recover.specs.Done.{HasDone, RecoveryStep}
use Rattle.bx_recover.specs.HomesOf.{home_runs}
use Rattle.bx_recover.specs.declared.stage.Stage.{Stage}
use Rattle.bx_recover.specs.declared.stage.Stage.TheVariants.{Begins, Gates, Settles, Bodies, Told, Homes, Closes, Shuts, Closed}
use Rattle.bx_node_views.specs.bx_redo.specs.Homes.{AreItsHomes, home_run}
use Rattle.bx_node_views.specs.bx_redo.specs.declared.work.Work.TheVariants as works
use Rattle.bx_node_views.specs.bx_redo.proofs.Stored.{its_sectors, only_one}
use Rattle.bx_node_views.specs.bx_redo.proofs.Within.{within_is}
use Rattle.bx_node_views.specs.bx_volume.specs.Overlay.{filled_of}
use Rattle.bx_node_views.specs.bx_volume.specs.Records.{Logged, gate_of, logged_text, newest_in}
use Rattle.bx_node_views.specs.bx_volume.proofs.Sizes.{filled_below, filled_there, length-block_text}
use Rattle.bx_node_views.specs.bx_world_chains.specs.Entitled.{IsEntitled}
use Rattle.bx_node_views.specs.bx_world_logs.specs.Logs.{Activity, Finds, Found, IsLogOf, OfLog, Slot, opens, view_of, writes_in}
use Rattle.bx_node_views.specs.bx_world_standing.specs.Rights.{IsOfHome, IsOfSlot}

-- ---- what its writes touch

module _ (devices areas slot : ℕ) (records : List Logged) where
  -- a sector is one of the slot, or of the home of a block of these records
  abbrev pub IsNear : ℕ → ℕ → Type 0
  IsNear d s = IsOfSlot devices slot d s ⊎ ((at : ℕ) × IsBlock areas at × IsSome (newest_in records at) × IsOfHome devices at d s)

pub of_gates : (devices slot : ℕ) (gates : List ℕ) → length gates ≡ 4096 → (d s : ℕ) (content : List ℕ) → WritesIn (gates_back devices slot gates) d s content → IsOfSlot devices slot d s
of_gates devices slot gates long d s content (run, there, w) =
    let one : Run = record { device = log_device slot devices; place = log_start slot + 0; bytes = gates } in
    let mine : Writes one d s content = subst (λ (r : Run). Writes r d s content) (sym (only_one one run there)) w in
    let from = mine.from in
    let below = mine.below in
    record { device = sym mine.on; from = omega (arith, from); to = omega (arith, from, below, long) }

pub of_first : (devices slot d s : ℕ) (content : List ℕ) → WritesIn (gates_shut devices slot works.Closes) d s content → IsOfSlot devices slot d s
of_first devices slot d s content w =
    let log = view_of devices slot 0 works.Closes in
    let is = its_sectors log (record { session = 0; until = 0; runs = gates_shut devices slot works.Closes }) (λ e. cc) refl d s content w in
    let inside = within_is (log_device slot devices) (log_start slot) 1 d s is in
    let from = inside.begins in
    let to = inside.ends in
    record { device = inside.on; from = from; to = omega (arith, to) }

pub of_others : (devices slot d s : ℕ) (content : List ℕ) → WritesIn (gates_shut devices slot works.Shuts) d s content → IsOfSlot devices slot d s
of_others devices slot d s content w =
    let log = view_of devices slot 0 works.Shuts in
    let is = its_sectors log (record { session = 0; until = 0; runs = gates_shut devices slot works.Shuts }) (λ e. cc) refl d s content w in
    let inside = within_is (log_device slot devices) (log_start slot + 1) 7 d s is in
    let from = inside.begins in
    let to = inside.ends in
    record { device = inside.on; from = omega (arith, from); to = omega (arith, to) }

pub of_homes : (devices areas slot : ℕ) (logs : ℕ → List Logged) (runs : List Run) → AreItsHomes devices areas logs slot runs → (d s : ℕ) (content : List ℕ) → WritesIn runs d s content → IsNear devices areas slot (logs slot) d s
of_homes devices areas slot logs runs its d s content (run, there, w) =
    let h = its.each run there in
    let home : Writes (home_run devices h.at h.block) d s content = subst (λ (r : Run). Writes r d s content) h.run_is w in
    let nine = length-block_text h.block h.parts in
    let from = home.from in
    let below = home.below in
    inr (
      h.at,
      h.is,
      subst (λ (found : Option Block). IsSome found) (sym h.newest) refl,
      record { device = sym home.on; i = s - (block_place h.at devices).1; few = omega (arith, nine, from, below); is = omega (arith, from) },
    )

-- ---- the bodies that are filled

module _ (devices areas : ℕ) (Sure : ℕ → ℕ → List ℕ → Type 0) (a : Around) (slot : ℕ) (log : IsLogOf Sure devices areas a.before a.logs slot (a.slots slot)) (most : length (a.logs slot) ≤ 8) where
  -- what a record fills of a body stands surely
  pub filled_sure : (body i : ℕ) → i < 145 → IsFilled devices a slot body i → Sure (body_place slot body devices).0 ((body_place slot body devices).1 + i) (a.before (body_place slot body devices).0 ((body_place slot body devices).1 + i))
  filled_sure body i few filled = by filled
    where
      opening : (activity : Activity) → Finds Sure devices areas a.before a.logs (a.slots slot).more slot activity → opens activity ≡ true → i < length (logged_text (a.slots slot).more) / 512
          → Sure (body_place slot (length (a.logs slot)) devices).0 ((body_place slot (length (a.logs slot)) devices).1 + i) (a.before (body_place slot (length (a.logs slot)) devices).0 ((body_place slot (length (a.logs slot)) devices).1 + i))
      opening (OfLog works.Idle) finds is low = absurd cc
      opening (OfLog (works.Body text point)) finds is low = absurd cc
      opening (OfLog (works.Opens point)) finds is low = finds.2 i low
      opening (OfLog works.Closes) finds is low = absurd cc
      opening (OfLog works.Shuts) finds is low = absurd cc
      opening Found finds is low = absurd cc

      by : IsFilled devices a slot body i → Sure (body_place slot body devices).0 ((body_place slot body devices).1 + i) (a.before (body_place slot body devices).0 ((body_place slot body devices).1 + i))
      by (inl lower, fills) = log.bodies body i lower (subst (λ (n : ℕ). i < n) (filled_below (a.logs slot) (a.slots slot).more body lower) fills)
      by (inr top, fills) =
          subst (λ (n : ℕ). Sure (body_place slot n devices).0 ((body_place slot n devices).1 + i) (a.before (body_place slot n devices).0 ((body_place slot n devices).1 + i))) (sym top.0)
          (opening (a.slots slot).activity log.finds top.1 (subst (λ (n : ℕ). i < n) (filled_there (a.logs slot) (a.slots slot).more body top.0) fills))

  -- a body that is filled is one of eight, or of the ninth place, which is the next slot's
  pub body_in : (body i : ℕ) → body < 8 → i < 145 → IsOfSlot devices slot (body_place slot body devices).0 ((body_place slot body devices).1 + i)
  body_in body i low few = record { device = refl; from = omega arith; to = omega (arith, low, few) }

  pub body_low : (body i : ℕ) → IsFilled devices a slot body i → body < 8
  body_low body i filled = by (a.slots slot).activity log.finds filled.0
    where
      by : (activity : Activity) → Finds Sure devices areas a.before a.logs (a.slots slot).more slot activity → (body < length (a.logs slot)) ⊎ ((body ≡ length (a.logs slot)) × (opens activity ≡ true)) → body < 8
      by activity finds (inl lower) = omega (arith, lower, most)
      by (OfLog works.Idle) finds (inr top) = absurd (let e = top.1 in cc)
      by (OfLog (works.Body text point)) finds (inr top) = absurd (let e = top.1 in cc)
      by (OfLog (works.Opens point)) finds (inr top) = let room = finds.1.under_way.room in let e = top.0 in omega (arith, room, e)
      by (OfLog works.Closes) finds (inr top) = absurd (let e = top.1 in cc)
      by (OfLog works.Shuts) finds (inr top) = absurd (let e = top.1 in cc)
      by Found finds (inr top) = absurd (let e = top.1 in cc)

-- ---- what spares a slot

-- An event spares the slot: its log and what is under way there, what stands surely in it and at home, and what its node asked for; or that was over, or is done.
pub record SparesSlot (devices areas : ℕ) (Sure Sure_then : ℕ → ℕ → List ℕ → Type 0) (Reads Reads_then : ℕ → List ℕ → Type 0) (a b : Around) (session slot : ℕ) : Type 0 where
  pub logs : b.logs slot ≡ a.logs slot
  pub slots : b.slots slot ≡ a.slots slot
  pub before : (d s : ℕ) → IsOfSlot devices slot d s → b.before d s ≡ a.before d s
  pub asked : (b.asked ≡ a.asked) ⊎ (b.asked ≡ None)
  pub out : (b.out ≡ a.out) ⊎ ((b.out ≡ None) × ((runs : List Run) → ((d s : ℕ) (content : List ℕ) → WritesIn runs d s content → IsNear devices areas slot (a.logs slot) d s) → IsFlying session runs a.out a.sent
      → (d s : ℕ) (content : List ℕ) → WritesIn runs d s content → Sure_then d s content))
  pub sent : (write : Sent) → Contains b.sent write → write.session ≡ session → Contains a.sent write
  pub sure : (d s : ℕ) (content : List ℕ) → IsNear devices areas slot (a.logs slot) d s → Sure d s content → Sure_then d s content
  pub reads : (asks : Asked) (s : ℕ) (content : List ℕ) → a.asked ≡ Some asks → b.asked ≡ Some asks → IsNear devices areas slot (a.logs slot) asks.device s → Sure asks.device s content → Reads s content → Reads_then s content

module _ (devices areas : ℕ) (Sure Sure_then : ℕ → ℕ → List ℕ → Type 0) (Reads Reads_then : ℕ → List ℕ → Type 0) (a b : Around) (session slot : ℕ)
    (leaves : SparesSlot devices areas Sure Sure_then Reads Reads_then a b session slot) where
  none_out : a.out ≡ None → b.out ≡ None
  none_out none = ⊎_elim (λ same. same ∙ none) (λ done. done.0) leaves.out

  none_asked : a.asked ≡ None → b.asked ≡ None
  none_asked none = ⊎_elim (λ same. same ∙ none) (λ gone. gone) leaves.asked

  still_was : (gate : ℕ) → IsStill devices b slot gate → IsStill devices a slot gate
  still_was gate still =
      subst (λ (is : Slot). writes_in devices slot (length (a.logs slot)) is.activity (gate_place slot gate devices).0 (gate_place slot gate devices).1 ≡ false) leaves.slots
      (subst (λ (l : List Logged). writes_in devices slot (length l) (b.slots slot).activity (gate_place slot gate devices).0 (gate_place slot gate devices).1 ≡ false) leaves.logs still)

  filled_was : (body i : ℕ) → IsFilled devices b slot body i → IsFilled devices a slot body i
  filled_was body i filled =
      subst (λ (is : Slot). ((body < length (a.logs slot)) ⊎ ((body ≡ length (a.logs slot)) × (opens is.activity ≡ true))) × (i < filled_of (is.more ∷ a.logs slot) body)) leaves.slots
      (subst (λ (l : List Logged). ((body < length l) ⊎ ((body ≡ length l) × (opens (b.slots slot).activity ≡ true))) × (i < filled_of ((b.slots slot).more ∷ l) body)) leaves.logs filled)

  gate_in : (gate : ℕ) → gate < 8 → IsOfSlot devices slot (gate_place slot gate devices).0 (gate_place slot gate devices).1
  gate_in gate low = record { device = refl; from = omega arith; to = omega (arith, low) }

  writing_on : (runs : List Run) → ((d s : ℕ) (content : List ℕ) → WritesIn runs d s content → IsNear devices areas slot (a.logs slot) d s) → IsWriting Sure session runs a.out a.sent → IsWriting Sure_then session runs b.out b.sent
  writing_on runs near (inl flying) = ⊎_elim
      (λ same. inl (record { write = flying.write; whose = flying.whose; runs_are = flying.runs_are; once = flying.once; is_out = same ∙ flying.is_out; only = λ other has its. flying.only other (leaves.sent other has its) its }))
      (λ done. inr (record {
        none_out = done.0;
        sure = λ d s content w. done.1 runs near flying d s content w;
      }))
      leaves.out
  writing_on runs near (inr landed) = inr (record { none_out = none_out landed.none_out; sure = λ d s content w. leaves.sure d s content (near d s content w) (landed.sure d s content w) })

  found_on : (records : List Logged) → IsFound a slot records → IsFound b slot records
  found_on records is = (ap (λ (l : Slot). l.activity) leaves.slots ∙ is.0, is.1 ∙ ap reverse (sym leaves.logs))

  homes_on : (runs : List Run) → AreItsHomes devices areas a.logs slot runs → AreItsHomes devices areas b.logs slot runs
  homes_on runs its = record {
    each = λ run there. let h = its.each run there in record { at = h.at; is = h.is; block = h.block; parts = h.parts; newest = ap (λ (l : List Logged). newest_in l h.at) leaves.logs ∙ h.newest; run_is = h.run_is };
    all = λ at block is newest. its.all at block is (ap (λ (l : List Logged). newest_in l at) (sym leaves.logs) ∙ newest);
  }

  module _ (less : slot < 8) (log : IsLogOf Sure devices areas a.before a.logs slot (a.slots slot)) (most : length (a.logs slot) ≤ 8) where
    gates_on : AreGatesAsked devices Reads a slot → AreGatesAsked devices Reads_then b slot
    gates_on (inl none) = inl (none_asked none)
    gates_on (inr is) = ⊎_elim
        (λ same. inr (
          same ∙ is.0,
          λ gate low still.
              let was = still_was gate still in
              subst (λ (content : List ℕ). Reads_then (gate_place slot gate devices).1 content) (sym (leaves.before (gate_place slot gate devices).0 (gate_place slot gate devices).1 (gate_in gate low)))
              (leaves.reads (gates_asked devices slot) (gate_place slot gate devices).1 (gate_of a.before devices slot gate) is.0 (same ∙ is.0) (inl (gate_in gate low)) (log.gates gate low was) (is.1 gate low was)),
        ))
        (λ gone. inl gone)
        leaves.asked

    body_on : (body : ℕ) → IsBodyAsked devices Reads a slot body → IsBodyAsked devices Reads_then b slot body
    body_on body (inl none) = inl (none_asked none)
    body_on body (inr is) = ⊎_elim
        (λ same. inr (
          same ∙ is.0,
          λ i few filled.
              let was = filled_was body i filled in
              subst (λ (content : List ℕ). Reads_then ((body_place slot body devices).1 + i) content) (sym (leaves.before (body_place slot body devices).0 ((body_place slot body devices).1 + i) (body_in devices areas Sure a slot log most body i (body_low devices areas Sure a slot log most body i was) few)))
              (leaves.reads (body_asked devices slot body) ((body_place slot body devices).1 + i) (a.before (body_place slot body devices).0 ((body_place slot body devices).1 + i)) is.0 (same ∙ is.0)
              (inl (body_in devices areas Sure a slot log most body i (body_low devices areas Sure a slot log most body i was) few)) (filled_sure devices areas Sure a slot log most body i few was) (is.1 i few was)),
        ))
        (λ gone. inl gone)
        leaves.asked

    -- What goes with each stage goes with it still.
    pub stage_on : (records : List Logged) (steps : List RecoveryStep) (stage : Stage) (done : HasDone (recovery_of slot devices areas stage records) steps stage)
        → IsAtStage devices areas Sure Reads a session slot records steps stage done → IsAtStage devices areas Sure_then Reads_then b session slot records steps stage done
    stage_on records steps Begins done at = (none_out at.0, none_asked at.1, at.2)
    stage_on records steps Gates done at = (none_out at.0, gates_on at.1, at.2)
    stage_on records steps (Settles opened) done at = (
      none_asked at.0,
      (λ gate low still. at.1 gate low (still_was gate still) ∙ sym (leaves.before (gate_place slot gate devices).0 (gate_place slot gate devices).1 (gate_in gate low))),
      at.2,
      writing_on (gates_back devices slot done.2.0) (λ d s content w. inl (of_gates devices slot done.2.0 done.2.1.long d s content w)) at.3,
    )
    stage_on records steps (Bodies opened) done at = (
      none_out at.0,
      (λ gate low. leaves.sure (gate_place slot gate devices).0 (gate_place slot gate devices).1 _ (inl (gate_in gate low)) (at.1 gate low)),
      (λ body bytes came i few filled.
          let was = filled_was body i filled in
          at.2 body bytes came i few was ∙ sym (leaves.before (body_place slot body devices).0 ((body_place slot body devices).1 + i) (body_in devices areas Sure a slot log most body i (body_low devices areas Sure a slot log most body i was) few))),
      body_on (length records) at.3,
    )
    stage_on records steps Told done at = (none_out at.0, none_asked at.1, found_on records at.2)
    stage_on records steps Homes done at = (
      none_asked at.0,
      found_on records at.1,
      subst (λ (l : List Logged). 0 < length l) (sym leaves.logs) at.2,
      homes_on (home_runs devices done.2.0) at.3,
      writing_on (home_runs devices done.2.0) (of_homes devices areas slot a.logs (home_runs devices done.2.0) at.3) at.4,
    )
    stage_on records steps Closes done at = (
      none_asked at.0,
      ap (λ (l : Slot). l.activity) leaves.slots ∙ at.1,
      writing_on (gates_shut devices slot works.Closes) (λ d s content w. inl (of_first devices slot d s content w)) at.2,
    )
    stage_on records steps Shuts done at = (
      none_asked at.0,
      ap (λ (l : Slot). l.activity) leaves.slots ∙ at.1,
      writing_on (gates_shut devices slot works.Shuts) (λ d s content w. inl (of_others devices slot d s content w)) at.2,
    )
    stage_on records steps Closed done at = record {
      none = leaves.logs ∙ at.none;
      still = ap (λ (l : Slot). l.activity) leaves.slots ∙ at.still;
      unwritten = λ write d s content has its w inside. at.unwritten write d s content (leaves.sent write has its) its w inside;
    }

    -- So a recovery goes on, where its session may write the slot still, and has proposed no more than it had that the dead one is closed, if it is under way.
    pub goes_on : (chain later : Chain) (knew knew_then : ℕ) (proposed proposed_then : List Change) (gone : ℕ) (stage : Stage) (records : List Logged)
        → IsRecovering devices areas Sure Reads chain knew proposed a session gone slot stage records
        → IsEntitled (last later) gone slot session → ((s : GlobalState) → IsPlace later s → knew_then ≤ s.index → IsEntitled s gone slot session)
        → ((HasEnded stage → ⊥) → Contains proposed_then (Close gone session) → Contains proposed (Close gone session))
        → IsRecovering devices areas Sure_then Reads_then later knew_then proposed_then b session gone slot stage records
    goes_on chain later knew knew_then proposed proposed_then gone stage records was claimed known back = record {
      claimed = claimed;
      known = known;
      other = was.other;
      unproposed = λ under_way there. was.unproposed under_way (back under_way there);
      steps = was.steps;
      done = was.done;
      at = stage_on records was.steps stage was.done was.at;
    }

-- ---- what is over

-- An event spares a slot whose recovery is over: its log, and what is under way there; and no write of the session that comes is of the slot.
pub record SparesClosed (devices : ℕ) (a b : Around) (session slot : ℕ) : Type 0 where
  pub logs : b.logs slot ≡ a.logs slot
  pub slots : (b.slots slot).activity ≡ (a.slots slot).activity
  pub sent : (write : Sent) → Contains b.sent write → write.session ≡ session → Contains a.sent write ⊎ ((d s : ℕ) (content : List ℕ) → WritesTo write d s content → IsOfSlot devices slot d s → ⊥)

-- So a recovery that is over stays so.
pub ended_on : (devices areas : ℕ) (Sure Sure_then : ℕ → ℕ → List ℕ → Type 0) (Reads Reads_then : ℕ → List ℕ → Type 0) (a b : Around) (session slot : ℕ) → SparesClosed devices a b session slot
    → (chain later : Chain) (knew knew_then : ℕ) (proposed proposed_then : List Change) (gone : ℕ) (stage : Stage) (records : List Logged) → HasEnded stage
    → IsRecovering devices areas Sure Reads chain knew proposed a session gone slot stage records
    → IsEntitled (last later) gone slot session → ((s : GlobalState) → IsPlace later s → knew_then ≤ s.index → IsEntitled s gone slot session)
    → IsRecovering devices areas Sure_then Reads_then later knew_then proposed_then b session gone slot stage records
ended_on devices areas Sure Sure_then Reads Reads_then a b session slot spares chain later knew knew_then proposed proposed_then gone stage records ended was claimed known = record {
  claimed = claimed;
  known = known;
  other = was.other;
  unproposed = λ under_way. absurd (under_way ended);
  steps = was.steps;
  done = was.done;
  at = by stage ended was.done was.at;
}
  where
    by : (one : Stage) → HasEnded one → (done : HasDone (recovery_of slot devices areas one records) was.steps one) → IsAtStage devices areas Sure Reads a session slot records was.steps one done → IsAtStage devices areas Sure_then Reads_then b session slot records was.steps one done
    by Begins over done at = absurd over
    by Gates over done at = absurd over
    by (Settles opened) over done at = absurd over
    by (Bodies opened) over done at = absurd over
    by Told over done at = absurd over
    by Homes over done at = absurd over
    by Closes over done at = absurd over
    by Shuts over done at = absurd over
    by Closed over done at = record {
      none = spares.logs ∙ at.none;
      still = spares.slots ∙ at.still;
      unwritten = λ write d s content has its w inside. ⊎_elim (λ before. at.unwritten write d s content before its w inside) (λ apart. apart d s content w inside) (spares.sent write has its);
    }
