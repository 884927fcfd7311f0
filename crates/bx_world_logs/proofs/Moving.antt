-- The log of one slot goes on: nothing changes but in that slot.
use Rattle.std.proofs.Common.{◌≡◌, ◌≢◌, ◌⊎◌, inl, inr, ℕ, ◌+◌, ◌*◌, ◌/◌, ◌<◌, ◌≤◌, Bool, true, false, List, [], ◌∷◌, length, Option, Some, None, IsSome, refl, sym, ◌∙◌, subst, arith}
use Rattle.std.specs.Prelude.{◌==◌, if◌then◌else◌}
use Rattle.bx_base.specs.declared.names.Point.{Point}
use Rattle.bx_disk.specs.Disks.{Image}
use Rattle.bx_views.specs.bx_layout.specs.Labels.{IsOpenGate}
use Rattle.bx_places.specs.Places.{IsBlock, block_place, body_place, gate_place, log_start}
use Rattle.bx_views.specs.bx_records.specs.Drafts.{Block, block_in}
use Rattle.bx_redo.specs.Stands.{AreClosed, IsAlone, IsUnderWay}
use Rattle.bx_redo.specs.declared.work.Work.TheVariants as works
use Rattle.bx_rows.specs.declared.session.SessionRow.{SessionRow}
use Rattle.bx_rows.specs.Words.{is_taken}
use Rattle.bx_redo.specs.bx_truth.proofs.Cases.{eq_false, eq_true, same_or}
use Rattle.bx_views.specs.Truths.{Truth}
use Rattle.bx_redo.specs.bx_volume.specs.Overlay.{Logs, IsHome, IsOverlaidTruth, IsUnlogged, filled_of, with_log}
use Rattle.bx_redo.specs.bx_volume.specs.Records.{Logged, LogWhere, StandOpen, IsInBody, logged_text, newest_in}
use Rattle.bx_redo.specs.bx_volume.proofs.Overlay.{log_there}
use Rattle.bx_redo.specs.bx_volume.proofs.Sizes.{logged_sectors}
use Rattle.bx_redo.proofs.Own.{most_of}
use Rattle.bx_world_logs.specs.Logs.{AreSure, Activity, OfLog, Found, Finds, IsBegun, IsInLog, IsLogOf, LogsStand, Slot, SlotStands, begins, writes_in}
use Rattle.bx_world_logs.proofs.Regions.{IsIn, body_is_in, gate_is_in, home_in_none, one_slot}

-- the slots with another in the place of one
abbrev pub with_slot : (ℕ → Slot) → ℕ → Slot → ℕ → Slot
with_slot slots slot is other = if other == slot then is else slots other

pub slot_here : (slots : ℕ → Slot) (slot : ℕ) (is : Slot) → with_slot slots slot is slot ≡ is
slot_here slots slot is = rw (eq_true slot slot refl) refl

pub slot_there : (slots : ℕ → Slot) (slot other : ℕ) (is : Slot) → other ≢ slot → with_slot slots slot is other ≡ slots other
slot_there slots slot other is apart = rw (eq_false other slot apart) refl

-- a record fills no more than a body
pub filled_most : (held : Image) (devices areas slot : ℕ) (run : List Logged) (body : ℕ) → StandOpen held devices areas slot run → filled_of run body ≤ 145
filled_most held devices areas slot [] body stand = omega arith
filled_most held devices areas slot (newest ∷ older) body stand = by (body == length older) (filled_most held devices areas slot older body stand.2)
  where
    by : (b : Bool) → filled_of older body ≤ 145 → (if b then length (logged_text newest) / 512 else filled_of older body) ≤ 145
    by true rest = logged_sectors areas newest stand.1.is
    by false rest = rest

module _ (Sure Sure_then : ℕ → ℕ → List ℕ → Type 0) (devices areas : ℕ) (rows : List SessionRow) (before now : Image) (logs : Logs) (slots : ℕ → Slot) (truth : Truth)
    (st : LogsStand Sure devices areas rows before logs slots truth) (slot : ℕ) (less : slot < 8)
    (outside : (d s : ℕ) → (IsIn slot s → ⊥) → now d s ≡ before d s)
    (keeps : (d s : ℕ) (content : List ℕ) → (IsIn slot s → ⊥) → Sure d s content → Sure_then d s content) where
  -- what stood so elsewhere stands so
  pub goes : (d s : ℕ) → (IsIn slot s → ⊥) → Sure d s (before d s) → Sure_then d s (now d s)
  goes d s apart sure = subst (λ (content : List ℕ). Sure_then d s content) (sym (outside d s apart)) (keeps d s (before d s) apart sure)

  not_in : (other s : ℕ) → other ≢ slot → IsIn other s → IsIn slot s → ⊥
  not_in other s apart here there = apart (one_slot other slot s here there)

  pub home_goes : (at : ℕ) → ((i : ℕ) → i < 9 → Sure (block_place at devices).0 ((block_place at devices).1 + i) (before (block_place at devices).0 ((block_place at devices).1 + i)))
      → (i : ℕ) → i < 9 → Sure_then (block_place at devices).0 ((block_place at devices).1 + i) (now (block_place at devices).0 ((block_place at devices).1 + i))
  home_goes at sure i few = goes (block_place at devices).0 ((block_place at devices).1 + i) (λ there. home_in_none at devices slot i less there) (sure i few)

  module _ (other : ℕ) (in_slots : other < 8) (apart : other ≢ slot) (logs_then : Logs) (same : logs_then other ≡ logs other) (more : Logged) where
    closed_goes : (from : ℕ) → AreClosed before devices other from → AreClosed now devices other from
    closed_goes from closed gate above few is_open =
        closed gate above few (subst IsOpenGate (outside (gate_place other gate devices).0 (gate_place other gate devices).1 (λ there. not_in other (log_start other + gate) apart (gate_is_in other gate few) there)) is_open)

    under_way_goes : IsAlone logs_then other more → IsUnderWay before devices areas logs more other (length (logs other)) → IsUnderWay now devices areas logs_then more other (length (logs_then other))
    under_way_goes alone is = record {
      room = subst (λ (r : List Logged). length r < 8) (sym same) is.room;
      is = is.is;
      alone = alone;
      closed = subst (λ (r : List Logged). AreClosed now devices other (length r)) (sym same) (closed_goes (length (logs other)) is.closed);
    }

    begun_goes : IsAlone logs_then other more → (point : Point) → IsBegun before devices areas logs more other point → IsBegun now devices areas logs_then more other point
    begun_goes alone point is = record { under_way = under_way_goes alone is.under_way; at = is.at }

    finds_goes : (activity : Activity) → (begins activity ≡ true → IsAlone logs_then other more) → Finds Sure devices areas before logs more other activity → Finds Sure_then devices areas now logs_then more other activity
    finds_goes (OfLog works.Idle) alone finds = subst (λ (r : List Logged). AreClosed now devices other (length r)) (sym same) (closed_goes (length (logs other)) finds)
    finds_goes (OfLog (works.Body text point)) alone finds = (finds.0, begun_goes (alone refl) point finds.1)
    finds_goes (OfLog (works.Opens point)) alone finds =
        subst (λ (r : List Logged). IsInBody now devices areas other (length r) more × IsBegun now devices areas logs_then more other point × AreSure Sure_then devices areas now (body_place other (length r) devices) (length (logged_text more) / 512)) (sym same) (
          record {
            is = finds.0.is;
            reads = record { each = λ i lower. outside (body_place other (length (logs other)) devices).0 ((body_place other (length (logs other)) devices).1 + i) (in_body i (let small = logged_sectors areas more finds.0.is in omega (arith, small, lower))) ∙ finds.0.reads.each i lower };
          },
          begun_goes (alone refl) point finds.1,
          λ i lower. goes (body_place other (length (logs other)) devices).0 ((body_place other (length (logs other)) devices).1 + i) (in_body i (let small = logged_sectors areas more finds.0.is in omega (arith, small, lower))) (finds.2 i lower),
        )
      where
        in_body : (i : ℕ) → i < 145 → IsIn slot (log_start other + 8 + 145 * length (logs other) + i) → ⊥
        in_body i few there = not_in other (log_start other + 8 + 145 * length (logs other) + i) apart (body_is_in other (length (logs other)) i finds.1.under_way.room few) there
    finds_goes (OfLog works.Closes) alone finds = (
      subst (λ (r : List Logged). 0 < length r) (sym same) finds.0,
      record {
        home = λ at block is newest. home_at at block (finds.1.home at block is (subst (λ (r : List Logged). newest_in r at ≡ Some block) same newest));
        sure = λ at is some. home_goes at (finds.1.sure at is (subst (λ (r : List Logged). IsSome (newest_in r at)) same some));
      },
    )
      where
        home_at : (at : ℕ) (block : Block) → IsHome before devices at block → IsHome now devices at block
        home_at at block home = record {
          is = home.is;
          reads = record { each = λ i lower. outside (block_place at devices).0 ((block_place at devices).1 + i) (λ there. home_in_none at devices slot i less there) ∙ home.reads.each i lower };
        }
    finds_goes (OfLog works.Shuts) alone finds = subst (λ (r : List Logged). length r ≡ 0) (sym same) finds
    finds_goes Found alone finds = finds

  filled_here : (other body : ℕ) → other < 8 → filled_of (logs other) body ≤ 145
  filled_here other body in_slots = by (is_taken rows other) (st.is_truth.has_logs other in_slots)
    where
      by : (t : Bool) → LogWhere t before devices areas other (logs other) → filled_of (logs other) body ≤ 145
      by true log = filled_most before devices areas other (logs other) body log.stand
      by false none = subst (λ (r : List Logged). filled_of r body ≤ 145) (sym none) (omega arith)

  -- the log of another slot
  other_goes : (other : ℕ) → other < 8 → other ≢ slot → (logs_then : Logs) → logs_then other ≡ logs other → (begins (slots other).activity ≡ true → IsAlone logs_then other (slots other).more)
      → (taken : Bool) → SlotStands Sure devices areas before taken logs other (slots other) → SlotStands Sure_then devices areas now taken logs_then other (slots other)
  other_goes other in_slots apart logs_then same alone true stands = record {
    gates = λ gate place quiet. goes (gate_place other gate devices).0 (gate_place other gate devices).1 (λ there. not_in other (log_start other + gate) apart (gate_is_in other gate place) there)
        (stands.gates gate place (subst (λ (r : List Logged). writes_in devices other (length r) (slots other).activity (gate_place other gate devices).0 (gate_place other gate devices).1 ≡ false) same quiet));
    bodies = λ body i few fills.
        let low : body < length (logs other) = subst (λ (r : List Logged). body < length r) same few in
        let full : i < filled_of (logs other) body = subst (λ (r : List Logged). i < filled_of r body) same fills in
        let most = most_of before devices areas rows logs truth st.is_truth other in_slots in
        goes (body_place other body devices).0 ((body_place other body devices).1 + i)
        (λ there. not_in other (log_start other + 8 + 145 * body + i) apart (body_is_in other body i (omega (arith, low, most)) (let small = filled_here other body in_slots in omega (arith, small, full))) there)
        (stands.bodies body i low full);
    finds = finds_goes other in_slots apart logs_then same (slots other).more (slots other).activity alone stands.finds;
  }
  other_goes other in_slots apart logs_then same alone false stands = record {
    gates = λ gate place. goes (gate_place other gate devices).0 (gate_place other gate devices).1 (λ there. not_in other (log_start other + gate) apart (gate_is_in other gate place) there) (stands.gates gate place);
    closed = closed_goes other in_slots apart logs_then same (slots other).more 0 stands.closed;
    still = stands.still;
  }

  -- The whole, once the slot's log is this. No other log has a block of it.
  pub moves : (run : List Logged) (is : Slot) (next : Truth) → is_taken rows slot ≡ true
      → IsOverlaidTruth now devices areas rows (with_log logs slot run) next
      → IsLogOf Sure_then devices areas now (with_log logs slot run) slot is
      → ((at : ℕ) → IsBlock areas at → IsUnlogged (with_log logs slot run) at → (i : ℕ) → i < 9 → Sure_then (block_place at devices).0 ((block_place at devices).1 + i) (now (block_place at devices).0 ((block_place at devices).1 + i)))
      → ((other at : ℕ) → other < 8 → other ≢ slot → IsInLog (with_log logs slot run) (with_slot slots slot is) slot at → IsInLog logs slots other at → ⊥)
      → LogsStand Sure_then devices areas rows now (with_log logs slot run) (with_slot slots slot is) next
  moves run is next taken is_truth its homes alone = record {
    volume = st.volume;
    is_truth = is_truth;
    homes = homes;
    each = λ other in_slots. by_slot other in_slots (same_or other slot);
    once = λ one other at one_less other_less in_one in_other. by_two one other at one_less other_less in_one in_other (same_or one slot) (same_or other slot);
  }
    where
      there_log : (other : ℕ) → other ≢ slot → with_log logs slot run other ≡ logs other
      there_log other apart = log_there logs slot other run apart

      there_slot : (other : ℕ) → other ≢ slot → with_slot slots slot is other ≡ slots other
      there_slot other apart = slot_there slots slot other is apart

      -- in another slot, a block is as it was
      in_other_slot : (other at : ℕ) → other ≢ slot → IsInLog (with_log logs slot run) (with_slot slots slot is) other at → IsInLog logs slots other at
      in_other_slot other at apart (inl some) = inl (subst (λ (r : List Logged). IsSome (newest_in r at)) (there_log other apart) some)
      in_other_slot other at apart (inr has) = inr (subst (λ (x : Slot). (begins x.activity ≡ true) × IsSome (block_in x.more.changed at)) (there_slot other apart) has)

      alone_in : (other : ℕ) → other < 8 → other ≢ slot → begins (slots other).activity ≡ true → IsAlone (with_log logs slot run) other (slots other).more
      alone_in other in_slots apart begun s at block lower differ has = by_same (same_or s slot) (newest_in (with_log logs slot run s) at) refl
        where
          in_more : IsInLog logs slots other at
          in_more = inr (begun, subst (λ (o : Option Block). IsSome o) (sym has) refl)

          by_same : (s ≡ slot) ⊎ (s ≢ slot) → (o : Option Block) → newest_in (with_log logs slot run s) at ≡ o → newest_in (with_log logs slot run s) at ≡ None
          by_same which None none = none
          by_same (inl same) (Some one) some = absurd (alone other at in_slots apart
              (inl (subst (λ (k : ℕ). IsSome (newest_in (with_log logs slot run k) at)) same (subst (λ (o : Option Block). IsSome o) (sym some) refl))) in_more)
          by_same (inr not) (Some one) some = absurd (differ (st.once s other at lower in_slots
              (inl (subst (λ (r : List Logged). IsSome (newest_in r at)) (there_log s not) (subst (λ (o : Option Block). IsSome o) (sym some) refl))) in_more))

      by_slot : (other : ℕ) → other < 8 → (other ≡ slot) ⊎ (other ≢ slot) → SlotStands Sure_then devices areas now (is_taken rows other) (with_log logs slot run) other (with_slot slots slot is other)
      by_slot other in_slots (inl same) = subst (λ (k : ℕ). SlotStands Sure_then devices areas now (is_taken rows k) (with_log logs slot run) k (with_slot slots slot is k)) (sym same)
          (subst (λ (t : Bool). SlotStands Sure_then devices areas now t (with_log logs slot run) slot (with_slot slots slot is slot)) (sym taken)
          (subst (λ (x : Slot). IsLogOf Sure_then devices areas now (with_log logs slot run) slot x) (sym (slot_here slots slot is)) its))
      by_slot other in_slots (inr apart) = subst (λ (x : Slot). SlotStands Sure_then devices areas now (is_taken rows other) (with_log logs slot run) other x) (sym (there_slot other apart))
          (other_goes other in_slots apart (with_log logs slot run) (there_log other apart) (alone_in other in_slots apart) (is_taken rows other) (st.each other in_slots))

      by_two : (one other at : ℕ) → one < 8 → other < 8 → IsInLog (with_log logs slot run) (with_slot slots slot is) one at → IsInLog (with_log logs slot run) (with_slot slots slot is) other at
          → (one ≡ slot) ⊎ (one ≢ slot) → (other ≡ slot) ⊎ (other ≢ slot) → one ≡ other
      by_two one other at one_less other_less in_one in_other (inl a) (inl b) = a ∙ sym b
      by_two one other at one_less other_less in_one in_other (inl a) (inr b) = absurd (alone other at other_less b (subst (λ (k : ℕ). IsInLog (with_log logs slot run) (with_slot slots slot is) k at) a in_one) (in_other_slot other at b in_other))
      by_two one other at one_less other_less in_one in_other (inr a) (inl b) = absurd (alone one at one_less a (subst (λ (k : ℕ). IsInLog (with_log logs slot run) (with_slot slots slot is) k at) b in_other) (in_other_slot one at a in_one))
      by_two one other at one_less other_less in_one in_other (inr a) (inr b) = st.once one other at one_less other_less (in_other_slot one at a in_one) (in_other_slot other at b in_other)
