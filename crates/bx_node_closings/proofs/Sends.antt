-- How a write that a log's work sends leaves all logs standing; and how the last gates of a closing are acknowledged.
use Rattle.std.proofs.Common.{◌≡◌, ◌≢◌, ◌⊎◌, ⊎_elim, ℕ, zero, suc, ◌+◌, ◌*◌, ◌/◌, ◌<◌, Bool, true, false, eqb, List, [], ◌∷◌, length, IsSome, refl, sym, ◌∙◌, ap, subst, arith}
use Rattle.std.proofs.lemmas.Bool.Decides.{nat_tests}
use Rattle.bx_disk.specs.Disks.{Image, is_within}
use Rattle.bx_layout.specs.Labels.{IsOpenGate}
use Rattle.bx_places.specs.Places.{block_place, log_device, log_start}
use Rattle.bx_world_logs.specs.bx_redo.specs.Stands.{IsAcknowledged}
use Rattle.bx_world_logs.specs.bx_redo.specs.Steps.{shut_text}
use Rattle.bx_world_logs.specs.bx_redo.specs.declared.work.Work.TheVariants as works
use Rattle.bx_world_logs.specs.bx_redo.proofs.Own.{most_of}
use Rattle.bx_world_logs.specs.bx_redo.proofs.Shown.{not_in_gates}
use Rattle.bx_world_logs.specs.bx_redo.proofs.Within.{before_it, behind_it, within_it}
use Rattle.bx_rows.specs.declared.session.SessionRow.{SessionRow}
use Rattle.bx_rows.specs.Words.{is_taken}
use Rattle.bx_views.specs.Truths.{Truth}
use Rattle.bx_volume.specs.Overlay.{Logs}
use Rattle.bx_volume.specs.Records.{Logged, LogWhere, gate_of, newest_in}
use Rattle.bx_volume.proofs.Matters.{truth_same}
use Rattle.bx_world_logs.specs.Logs.{Activity, OfLog, Found, Finds, IsLogOf, LogsStand, Slot, SlotStands, begins, idle, view_of, writes_in}
use Rattle.bx_world_logs.proofs.Regions.{IsIn, home_in_none, one_slot, writes_within}
use Rattle.bx_node_logs.proofs.Moved.{fills_few}
use Rattle.bx_node_closings.proofs.Closings.{many, shut_is}
use Rattle.bx_node_logs.proofs.Starts.{slot_sure}
use Rattle.bx_world_logs.proofs.Moving.{with_slot}
use Rattle.bx_node_logs.proofs.Steps.{advance}

module _ (Sure Sure_then : ℕ → ℕ → List ℕ → Type 0) (devices areas : ℕ) (rows : List SessionRow) (before : Image) (logs : Logs) (slots : ℕ → Slot) (truth : Truth) (slot : ℕ)
    (less : slot < 8) (taken : is_taken rows slot ≡ true) (st : LogsStand Sure devices areas rows before logs slots truth)
    (keeps : (d s : ℕ) (content : List ℕ) → writes_in devices slot (length (logs slot)) (slots slot).activity d s ≡ false → Sure d s content → Sure_then d s content) where
  as_log : IsLogOf Sure devices areas before logs slot (slots slot)
  as_log = subst (λ (t : Bool). SlotStands Sure devices areas before t logs slot (slots slot)) taken (st.each slot less)

  has_log : LogWhere true before devices areas slot (logs slot)
  has_log = subst (λ (t : Bool). LogWhere t before devices areas slot (logs slot)) taken (st.is_truth.has_logs slot less)

  home_keeps : (at i : ℕ) (content : List ℕ) → Sure (block_place at devices).0 ((block_place at devices).1 + i) content → Sure_then (block_place at devices).0 ((block_place at devices).1 + i) content
  home_keeps at i content sure = by (writes_in devices slot (length (logs slot)) (slots slot).activity (block_place at devices).0 ((block_place at devices).1 + i)) refl
    where
      by : (b : Bool) → writes_in devices slot (length (logs slot)) (slots slot).activity (block_place at devices).0 ((block_place at devices).1 + i) ≡ b → Sure_then (block_place at devices).0 ((block_place at devices).1 + i) content
      by true w = absurd (home_in_none at devices slot i less (writes_within Sure devices areas before logs slots slot (block_place at devices).0 ((block_place at devices).1 + i) (is_taken rows slot) (st.each slot less) w))
      by false w = keeps (block_place at devices).0 ((block_place at devices).1 + i) content w sure

  others_keep : (other : ℕ) → other ≢ slot → (d s : ℕ) (content : List ℕ) → IsIn other s → Sure d s content → Sure_then d s content
  others_keep other ne d s content in_other sure = by (writes_in devices slot (length (logs slot)) (slots slot).activity d s) refl
    where
      by : (b : Bool) → writes_in devices slot (length (logs slot)) (slots slot).activity d s ≡ b → Sure_then d s content
      by true w = absurd (ne (one_slot other slot s in_other (writes_within Sure devices areas before logs slots slot d s (is_taken rows slot) (st.each slot less) w)))
      by false w = keeps d s content w sure

  -- no work writes the body of a record that is open, nor that of the one whose gate is being opened
  body_out : (activity : Activity) (more : Logged) → Finds Sure devices areas before logs more slot activity → (body i : ℕ) → body < length (logs slot) → i < 145
      → writes_in devices slot (length (logs slot)) activity (log_device slot devices) (log_start slot + 8 + 145 * body + i) ≡ false
  body_out (OfLog works.Idle) more finds body i lower few = behind_it (log_device slot devices) 0 0 (log_device slot devices) (log_start slot + 8 + 145 * body + i) (omega arith)
  body_out (OfLog (works.Body text point)) more finds body i lower few =
      before_it (log_device slot devices) (log_start slot + 8 + 145 * length (logs slot)) (length text / 512) (log_device slot devices) (log_start slot + 8 + 145 * body + i) (omega (arith, lower, few))
  body_out (OfLog (works.Opens point)) more finds body i lower few =
      behind_it (log_device slot devices) (log_start slot + length (logs slot)) 1 (log_device slot devices) (log_start slot + 8 + 145 * body + i) (let room = finds.1.under_way.room in omega (arith, room))
  body_out (OfLog works.Closes) more finds body i lower few = behind_it (log_device slot devices) (log_start slot) 1 (log_device slot devices) (log_start slot + 8 + 145 * body + i) (omega arith)
  body_out (OfLog works.Shuts) more finds body i lower few = behind_it (log_device slot devices) (log_start slot + 1) 7 (log_device slot devices) (log_start slot + 8 + 145 * body + i) (omega arith)
  body_out Found more finds body i lower few = refl

  found_then : (activity : Activity) (more : Logged) → (slots slot).activity ≡ activity → Finds Sure devices areas before logs more slot activity → Finds Sure_then devices areas before logs more slot activity
  found_then (OfLog works.Idle) more is finds = finds
  found_then (OfLog (works.Body text point)) more is finds = finds
  found_then (OfLog (works.Opens point)) more is finds = (
    finds.0,
    finds.1,
    λ i few.
        keeps (log_device slot devices) (log_start slot + 8 + 145 * length (logs slot) + i) (before (log_device slot devices) (log_start slot + 8 + 145 * length (logs slot) + i))
        (ap (λ (c : Activity). writes_in devices slot (length (logs slot)) c (log_device slot devices) (log_start slot + 8 + 145 * length (logs slot) + i)) is
        ∙ behind_it (log_device slot devices) (log_start slot + length (logs slot)) 1 (log_device slot devices) (log_start slot + 8 + 145 * length (logs slot) + i) (let room = finds.1.under_way.room in omega (arith, room)))
        (finds.2 i few),
  )
  found_then (OfLog works.Closes) more is finds = (
    finds.0,
    record {
      home = finds.1.home;
      sure = λ at there some i few. home_keeps at i (before (block_place at devices).0 ((block_place at devices).1 + i)) (finds.1.sure at there some i few);
    },
  )
  found_then (OfLog works.Shuts) more is finds = finds
  found_then Found more is finds = finds

  -- The write that a slot's work asks for is sent: all that it doesn't write stands as it did.
  pub sends : LogsStand Sure_then devices areas rows before logs slots truth
  sends = record {
    volume = st.volume;
    is_truth = st.is_truth;
    homes = λ at block none i few. home_keeps at i (before (block_place at devices).0 ((block_place at devices).1 + i)) (st.homes at block none i few);
    each = λ other few. by_test other few (eqb other slot) refl;
    once = st.once;
  }
    where
      here : IsLogOf Sure_then devices areas before logs slot (slots slot)
      here = record {
        gates = λ gate low apart. keeps (log_device slot devices) (log_start slot + gate) (gate_of before devices slot gate) apart (as_log.gates gate low apart);
        bodies = λ body i few fills. keeps (log_device slot devices) (log_start slot + 8 + 145 * body + i) (before (log_device slot devices) (log_start slot + 8 + 145 * body + i))
            (body_out (slots slot).activity (slots slot).more as_log.finds body i few (fills_few before devices areas slot (logs slot) body i has_log.stand few fills)) (as_log.bodies body i few fills);
        finds = found_then (slots slot).activity (slots slot).more refl as_log.finds;
      }

      by_test : (other : ℕ) → other < 8 → (b : Bool) → eqb other slot ≡ b → SlotStands Sure_then devices areas before (is_taken rows other) logs other (slots other)
      by_test other few true is =
          let e : other ≡ slot = grind (arith, nat_tests, is) in
          subst (λ (n : ℕ). SlotStands Sure_then devices areas before (is_taken rows n) logs n (slots n)) (sym e)
          (subst (λ (t : Bool). SlotStands Sure_then devices areas before t logs slot (slots slot)) (sym taken) here)
      by_test other few false is =
          let ne : other ≢ slot = λ e. grind (arith, nat_tests, is, e) in
          slot_sure Sure Sure_then devices areas before logs other (others_keep other ne) (λ at i content is some few. home_keeps at i content) (slots other) (is_taken rows other) (st.is_truth.has_logs other few) (st.each other few)

-- All gates but the first are closed too: the log rests.
module _ (Sure : ℕ → ℕ → List ℕ → Type 0) (devices areas : ℕ) (rows : List SessionRow) (before now : Image) (logs : Logs) (slots : ℕ → Slot) (truth : Truth) (slot : ℕ)
    (less : slot < 8) (taken : is_taken rows slot ≡ true) (st : LogsStand Sure devices areas rows before logs slots truth) (more : Logged) where
  empty_closed : (records : List Logged) → length records ≡ 0 → LogWhere true before devices areas slot records → IsOpenGate (gate_of before devices slot 0) → ⊥
  empty_closed [] none has = has.end (omega arith)
  empty_closed (one ∷ records) none has = absurd (omega (arith, none))

  some_of_empty : (records : List Logged) (at : ℕ) → length records ≡ 0 → IsSome (newest_in records at) → ⊥
  some_of_empty [] at none some = cc
  some_of_empty (one ∷ records) at none some = absurd (omega (arith, none))

  pub others_land : (next : Logged) → slots slot ≡ record { activity = OfLog works.Shuts; more = more }
      → IsAcknowledged Sure Sure before now (view_of devices slot (length (logs slot)) works.Shuts) shut_text
      → LogsStand Sure devices areas rows now logs (with_slot slots slot (record { activity = idle; more = next })) truth
  others_land next is ack =
      advance Sure devices areas rows before now logs slots truth slot less taken st (OfLog works.Shuts) (ap (λ (l : Slot). l.activity) is) ack.same logs (record { activity = idle; more = next }) truth
      (λ other ne. refl)
      (truth_same before now devices areas rows logs truth
      (λ d s matters. ack.same d s (not_in_gates devices areas logs (most_of before devices areas rows logs truth st.is_truth) slot less d s none matters)) st.is_truth)
      (λ at block free. st.homes at block free)
      (record {
        gates = λ gate low apart. by_gate gate low;
        bodies = λ body i few fills. absurd (omega (arith, none, few));
        finds = λ gate le low was. closed gate low was;
      })
      (λ at inside. absurd (⊎_elim (λ one. some_of_empty (logs slot) at none one) (λ two. not_begun two.0) inside))
    where
      its : IsLogOf Sure devices areas before logs slot (record { activity = OfLog works.Shuts; more = more })
      its = subst (λ (l : Slot). IsLogOf Sure devices areas before logs slot l) is (subst (λ (t : Bool). SlotStands Sure devices areas before t logs slot (slots slot)) taken (st.each slot less))

      none : length (logs slot) ≡ 0
      none = its.finds

      not_begun : begins idle ≡ true → ⊥
      not_begun e = cc

      first_out : is_within (log_device slot devices) (log_start slot + 1) 7 (log_device slot devices) (log_start slot + 0) ≡ false
      first_out = before_it (log_device slot devices) (log_start slot + 1) 7 (log_device slot devices) (log_start slot + 0) (omega arith)

      by_gate : (gate : ℕ) → gate < 8 → Sure (log_device slot devices) (log_start slot + gate) (gate_of now devices slot gate)
      by_gate zero low = subst (λ (c : List ℕ). Sure (log_device slot devices) (log_start slot + 0) c) (sym (ack.same (log_device slot devices) (log_start slot + 0) first_out)) (its.gates 0 low first_out)
      by_gate (suc gate) low = ack.sure (log_device slot devices) (log_start slot + suc gate) (within_it (log_device slot devices) (log_start slot + 1) 7 (log_device slot devices) (log_start slot + suc gate) refl (omega arith) (omega (arith, low)))

      closed : (gate : ℕ) → gate < 8 → IsOpenGate (gate_of now devices slot gate) → ⊥
      closed zero low was = empty_closed (logs slot) none (subst (λ (t : Bool). LogWhere t before devices areas slot (logs slot)) taken (st.is_truth.has_logs slot less))
          (subst (λ (c : List ℕ). IsOpenGate c) (ack.same (log_device slot devices) (log_start slot + 0) first_out) was)
      closed (suc gate) low was = shut_is gate (gate_of now devices slot (suc gate)) (omega (arith, low))
          (let e : log_start slot + suc gate ≡ log_start slot + 1 + gate = omega arith in ap (λ (s : ℕ). now (log_device slot devices) s) e ∙ ack.reads.each gate (many gate (omega (arith, low)))) was
