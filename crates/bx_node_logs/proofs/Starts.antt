-- How a write that is sent leaves all logs standing: what it writes is no part of what stands.
use Rattle.std.proofs.Common.{◌≡◌, ◌≢◌, ◌⊎◌, ⊎_elim, inl, inr, ℕ, ◌+◌, ◌*◌, ◌/◌, ◌<◌, ◌≤◌, Bool, true, false, eqb, List, ◌∷◌, length, Option, Some, None, IsSome, refl, sym, ◌∙◌, ap, subst, arith}
use Rattle.std.proofs.lemmas.Bool.Decides.{nat_tests}
use Rattle.bx_disk.specs.Disks.{Image}
use Rattle.bx_facts.specs.Writes.{IsOnly, Sent, WritesTo}
use Rattle.bx_facts.proofs.Lists.{front_or_behind}
use Rattle.bx_places.specs.Places.{IsBlock, block_place, body_place, gate_place, log_device, log_start}
use Rattle.bx_records.specs.Drafts.{Block, block_in}
use Rattle.bx_world_logs.specs.bx_redo.specs.declared.work.Work.TheVariants as works
use Rattle.bx_world_logs.specs.bx_redo.proofs.Within.{before_it, within_is}
use Rattle.bx_rows.specs.declared.session.SessionRow.{SessionRow}
use Rattle.bx_rows.specs.Words.{is_taken}
use Rattle.bx_views.specs.Truths.{Truth}
use Rattle.bx_world_logs.specs.bx_volume.specs.Overlay.{Logs}
use Rattle.bx_world_logs.specs.bx_volume.specs.Records.{Logged, IsLogged, LogWhere, logged_text, newest_in}
use Rattle.bx_world_logs.specs.bx_volume.proofs.Sizes.{logged_sectors}
use Rattle.bx_world_logs.specs.Logs.{Activity, OfLog, Found, Finds, IsInLog, IsLogOf, LogsStand, Slot, SlotStands, begins, idle, point_in, writes_in}
use Rattle.bx_world_logs.proofs.Regions.{IsIn, body_is_in, gate_is_in, home_in_none, idle_writes, one_slot}
use Rattle.bx_node_logs.proofs.Moved.{fills_few, is_some_block}
use Rattle.bx_world_logs.proofs.Moving.{slot_here, slot_there, with_slot}

-- what a sector stands for goes on where a write more brings nothing there
pub only_more : (writes : List Sent) (new : Sent) (greatest d s : ℕ) (content : List ℕ) → ((other : List ℕ) → WritesTo new d s other → ⊥) → IsOnly writes greatest d s content → IsOnly (new ∷ writes) greatest d s content
only_more writes new greatest d s content none only = record {
  each = λ write other has to. ⊎_elim
      (λ same. absurd (none other (subst (λ (w : Sent). WritesTo w d s other) (sym same) to)))
      (λ old. only.each write other old to)
      (front_or_behind new writes write has);
}

-- a slot's log where what is sure in it, and of the homes of its blocks, is sure still
module _ (Sure Sure_then : ℕ → ℕ → List ℕ → Type 0) (devices areas : ℕ) (before : Image) (logs : Logs) (slot : ℕ)
    (inside : (d s : ℕ) (content : List ℕ) → IsIn slot s → Sure d s content → Sure_then d s content)
    (homes : (at i : ℕ) (content : List ℕ) → IsBlock areas at → IsSome (newest_in (logs slot) at) → i < 9 → Sure (block_place at devices).0 ((block_place at devices).1 + i) content → Sure_then (block_place at devices).0 ((block_place at devices).1 + i) content) where
  finds_sure : (more : Logged) (activity : Activity) → Finds Sure devices areas before logs more slot activity → Finds Sure_then devices areas before logs more slot activity
  finds_sure more (OfLog works.Idle) finds = finds
  finds_sure more (OfLog (works.Body text point)) finds = finds
  finds_sure more (OfLog (works.Opens point)) finds = (
    finds.0,
    finds.1,
    λ i few.
        inside (body_place slot (length (logs slot)) devices).0 ((body_place slot (length (logs slot)) devices).1 + i) (before (body_place slot (length (logs slot)) devices).0 ((body_place slot (length (logs slot)) devices).1 + i))
        (body_is_in slot (length (logs slot)) i finds.1.under_way.room (let most = logged_sectors areas more finds.0.is in omega (arith, few, most))) (finds.2 i few),
  )
  finds_sure more (OfLog works.Closes) finds = (
    finds.0,
    record {
      home = finds.1.home;
      sure = λ at there some i few. homes at i (before (block_place at devices).0 ((block_place at devices).1 + i)) there some few (finds.1.sure at there some i few);
    },
  )
  finds_sure more (OfLog works.Shuts) finds = finds
  finds_sure more Found finds = finds

  pub slot_sure : (is : Slot) (taken : Bool) → LogWhere taken before devices areas slot (logs slot) → SlotStands Sure devices areas before taken logs slot is → SlotStands Sure_then devices areas before taken logs slot is
  slot_sure is true has stands = record {
    gates = λ gate low apart. inside (gate_place slot gate devices).0 (gate_place slot gate devices).1 (before (gate_place slot gate devices).0 (gate_place slot gate devices).1) (gate_is_in slot gate low) (stands.gates gate low apart);
    bodies = λ body i few fills. inside (body_place slot body devices).0 ((body_place slot body devices).1 + i) (before (body_place slot body devices).0 ((body_place slot body devices).1 + i))
        (body_is_in slot body i (let most = has.most in omega (arith, few, most)) (fills_few before devices areas slot (logs slot) body i has.stand few fills)) (stands.bodies body i few fills);
    finds = finds_sure is.more is.activity stands.finds;
  }
  slot_sure is false has stands = record {
    gates = λ gate low. inside (gate_place slot gate devices).0 (gate_place slot gate devices).1 (before (gate_place slot gate devices).0 (gate_place slot gate devices).1) (gate_is_in slot gate low) (stands.gates gate low);
    closed = stands.closed;
    still = stands.still;
  }

module _ (Sure Sure_then : ℕ → ℕ → List ℕ → Type 0) (devices areas : ℕ) (rows : List SessionRow) (before : Image) (logs : Logs) (slots : ℕ → Slot) (truth : Truth) (slot : ℕ)
    (less : slot < 8) (taken : is_taken rows slot ≡ true) (st : LogsStand Sure devices areas rows before logs slots truth) where
  log : IsLogOf Sure devices areas before logs slot (slots slot)
  log = subst (λ (t : Bool). SlotStands Sure devices areas before t logs slot (slots slot)) taken (st.each slot less)

  has_log : LogWhere true before devices areas slot (logs slot)
  has_log = subst (λ (t : Bool). LogWhere t before devices areas slot (logs slot)) taken (st.is_truth.has_logs slot less)

  -- A write is sent in a slot where nothing was under way: what it doesn't write stands as it did.
  pub starts : (activity : Activity) (more : Logged) → (slots slot).activity ≡ idle
      → ((d s : ℕ) → writes_in devices slot (length (logs slot)) activity d s ≡ true → IsIn slot s)
      → ((d s : ℕ) (content : List ℕ) → writes_in devices slot (length (logs slot)) activity d s ≡ false → Sure d s content → Sure_then d s content)
      → ((body i : ℕ) → body < length (logs slot) → i < 145 → writes_in devices slot (length (logs slot)) activity (body_place slot body devices).0 ((body_place slot body devices).1 + i) ≡ false)
      → Finds Sure_then devices areas before logs more slot activity
      → ((one other at : ℕ) → one < 8 → other < 8 → IsInLog logs (with_slot slots slot (record { activity = activity; more = more })) one at → IsInLog logs (with_slot slots slot (record { activity = activity; more = more })) other at → one ≡ other)
      → LogsStand Sure_then devices areas rows before logs (with_slot slots slot (record { activity = activity; more = more })) truth
  starts activity more was within keeps bodies finds once = record {
    volume = st.volume;
    is_truth = st.is_truth;
    homes = λ at block none i few. home_keeps at i (before (block_place at devices).0 ((block_place at devices).1 + i)) (st.homes at block none i few);
    each = λ other few. by_test other few (eqb other slot) refl;
    once = once;
  }
    where
      home_keeps : (at i : ℕ) (content : List ℕ) → Sure (block_place at devices).0 ((block_place at devices).1 + i) content → Sure_then (block_place at devices).0 ((block_place at devices).1 + i) content
      home_keeps at i content sure = by (writes_in devices slot (length (logs slot)) activity (block_place at devices).0 ((block_place at devices).1 + i)) refl
        where
          by : (b : Bool) → writes_in devices slot (length (logs slot)) activity (block_place at devices).0 ((block_place at devices).1 + i) ≡ b → Sure_then (block_place at devices).0 ((block_place at devices).1 + i) content
          by true w = absurd (home_in_none at devices slot i less (within (block_place at devices).0 ((block_place at devices).1 + i) w))
          by false w = keeps (block_place at devices).0 ((block_place at devices).1 + i) content w sure

      others_keep : (other : ℕ) → other ≢ slot → (d s : ℕ) (content : List ℕ) → IsIn other s → Sure d s content → Sure_then d s content
      others_keep other ne d s content in_other sure = by (writes_in devices slot (length (logs slot)) activity d s) refl
        where
          by : (b : Bool) → writes_in devices slot (length (logs slot)) activity d s ≡ b → Sure_then d s content
          by true w = absurd (ne (one_slot other slot s in_other (within d s w)))
          by false w = keeps d s content w sure

      here : IsLogOf Sure_then devices areas before logs slot (record { activity = activity; more = more })
      here = record {
        gates = λ gate low apart. keeps (gate_place slot gate devices).0 (gate_place slot gate devices).1 (before (gate_place slot gate devices).0 (gate_place slot gate devices).1) apart
            (log.gates gate low (ap (λ (c : Activity). writes_in devices slot (length (logs slot)) c (gate_place slot gate devices).0 (gate_place slot gate devices).1) was
            ∙ idle_writes devices slot (length (logs slot)) (gate_place slot gate devices).0 (gate_place slot gate devices).1));
        bodies = λ body i few fills. keeps (body_place slot body devices).0 ((body_place slot body devices).1 + i) (before (body_place slot body devices).0 ((body_place slot body devices).1 + i))
            (bodies body i few (fills_few before devices areas slot (logs slot) body i has_log.stand few fills)) (log.bodies body i few fills);
        finds = finds;
      }

      by_test : (other : ℕ) → other < 8 → (b : Bool) → eqb other slot ≡ b
          → SlotStands Sure_then devices areas before (is_taken rows other) logs other (with_slot slots slot (record { activity = activity; more = more }) other)
      by_test other few true is =
          let e : other ≡ slot = grind (arith, nat_tests, is) in
          subst (λ (n : ℕ). SlotStands Sure_then devices areas before (is_taken rows n) logs n (with_slot slots slot (record { activity = activity; more = more }) n)) (sym e)
          (subst (λ (t : Bool). SlotStands Sure_then devices areas before t logs slot (with_slot slots slot (record { activity = activity; more = more }) slot)) (sym taken)
          (subst (λ (l : Slot). IsLogOf Sure_then devices areas before logs slot l) (sym (slot_here slots slot (record { activity = activity; more = more }))) here))
      by_test other few false is =
          let ne : other ≢ slot = λ e. grind (arith, nat_tests, is, e) in
          subst (λ (l : Slot). SlotStands Sure_then devices areas before (is_taken rows other) logs other l) (sym (slot_there slots slot other (record { activity = activity; more = more }) ne))
          (slot_sure Sure Sure_then devices areas before logs other (others_keep other ne) (λ at i content is some few. home_keeps at i content) (slots other) (is_taken rows other) (st.is_truth.has_logs other few) (st.each other few))

  -- A record begins: its body is written. No log has a block of it, nor has a record that is under way.
  pub record_begins : (more : Logged) → (slots slot).activity ≡ idle → IsLogged areas more → length (logs slot) < 8
      → ((other at : ℕ) → other < 8 → IsInLog logs slots other at → IsSome (block_in more.changed at) → other ≡ slot)
      → ((d s : ℕ) (content : List ℕ) → writes_in devices slot (length (logs slot)) (OfLog (works.Body (logged_text more) (point_in more))) d s ≡ false → Sure d s content → Sure_then d s content)
      → LogsStand Sure_then devices areas rows before logs (with_slot slots slot (record { activity = OfLog (works.Body (logged_text more) (point_in more)); more = more })) truth
  record_begins more was is room apart keeps = starts activity more was within keeps bodies (
    refl,
    record {
      under_way = record {
        room = room;
        is = is;
        alone = λ s at block small ne has. no_block s at small ne (newest_in (logs s) at) refl (is_some_block (block_in more.changed at) block has);
        closed = subst (λ (c : Activity). Finds Sure devices areas before logs (slots slot).more slot c) was log.finds;
      };
      at = refl;
    },
  )
      (λ one other at few small in_one in_other. st_once one other at few small (eqb one slot) (eqb other slot) refl refl in_one in_other)
    where
      activity : Activity
      activity = OfLog (works.Body (logged_text more) (point_in more))

      then_is : Slot
      then_is = record { activity = OfLog (works.Body (logged_text more) (point_in more)); more = more }

      few_sectors : length (logged_text more) / 512 ≤ 145
      few_sectors = logged_sectors areas more is

      within : (d s : ℕ) → writes_in devices slot (length (logs slot)) (OfLog (works.Body (logged_text more) (point_in more))) d s ≡ true → IsIn slot s
      within d s w = let there = within_is (log_device slot devices) (log_start slot + 8 + 145 * length (logs slot)) (length (logged_text more) / 512) d s w in
          let low = there.begins in let high = there.ends in record { from = omega (arith, low); to = omega (arith, high, few_sectors, room) }

      bodies : (body i : ℕ) → body < length (logs slot) → i < 145
          → writes_in devices slot (length (logs slot)) (OfLog (works.Body (logged_text more) (point_in more))) (body_place slot body devices).0 ((body_place slot body devices).1 + i) ≡ false
      bodies body i lower few = before_it (log_device slot devices) (log_start slot + 8 + 145 * length (logs slot)) (length (logged_text more) / 512) (log_device slot devices) (log_start slot + 8 + 145 * body + i) (omega (arith, lower, few))

      no_block : (s at : ℕ) → s < 8 → s ≢ slot → (o : Option Block) → newest_in (logs s) at ≡ o → IsSome (block_in more.changed at) → newest_in (logs s) at ≡ None
      no_block s at small ne None e some = e
      no_block s at small ne (Some block) e some = absurd (ne (apart s at small (inl (is_some_block (newest_in (logs s) at) block e)) some))

      was_in : (one at : ℕ) → one ≢ slot → IsInLog logs (with_slot slots slot then_is) one at → IsInLog logs slots one at
      was_in one at ne inside = subst (λ (l : Slot). IsSome (newest_in (logs one) at) ⊎ ((begins l.activity ≡ true) × IsSome (block_in l.more.changed at))) (slot_there slots slot one then_is ne) inside

      same : (one : ℕ) → eqb one slot ≡ true → one ≡ slot
      same one is_same = grind (arith, nat_tests, is_same)

      differ : (one : ℕ) → eqb one slot ≡ false → one ≢ slot
      differ one is_other e = grind (arith, nat_tests, is_other, e)

      here_in : (one at : ℕ) → one ≡ slot → IsInLog logs (with_slot slots slot then_is) one at → IsSome (newest_in (logs slot) at) ⊎ IsSome (block_in more.changed at)
      here_in one at e inside = ⊎_elim (λ old. inl old) (λ new. inr new.1)
          (subst (λ (l : Slot). IsSome (newest_in (logs slot) at) ⊎ ((begins l.activity ≡ true) × IsSome (block_in l.more.changed at))) (slot_here slots slot then_is)
          (subst (λ (n : ℕ). IsInLog logs (with_slot slots slot then_is) n at) e inside))

      against : (other at : ℕ) → other < 8 → IsInLog logs slots other at → IsSome (newest_in (logs slot) at) ⊎ IsSome (block_in more.changed at) → other ≡ slot
      against other at small in_other mine = ⊎_elim (λ old. st.once other slot at small less in_other (inl old)) (λ new. apart other at small in_other new) mine

      st_once : (one other at : ℕ) → one < 8 → other < 8 → (a b : Bool) → eqb one slot ≡ a → eqb other slot ≡ b → IsInLog logs (with_slot slots slot then_is) one at → IsInLog logs (with_slot slots slot then_is) other at → one ≡ other
      st_once one other at few small true true e f in_one in_other = same one e ∙ sym (same other f)
      st_once one other at few small false false e f in_one in_other = st.once one other at few small (was_in one at (differ one e) in_one) (was_in other at (differ other f) in_other)
      st_once one other at few small true false e f in_one in_other = same one e ∙ sym (against other at small (was_in other at (differ other f) in_other) (here_in one at (same one e) in_one))
      st_once one other at few small false true e f in_one in_other = against one at few (was_in one at (differ one e) in_one) (here_in other at (same other f) in_other) ∙ sym (same other f)
