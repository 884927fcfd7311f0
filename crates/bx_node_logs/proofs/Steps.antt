-- How the steps of one log leave all logs standing: what was written there is acknowledged, and it goes on.
use Rattle.std.proofs.Common.{◌≡◌, ◌≢◌, ◌⊎◌, ⊎_elim, inl, inr, ℕ, ◌+◌, ◌*◌, ◌/◌, ◌<◌, ◌≤◌, Bool, true, false, eqb, List, ◌∷◌, length, Option, Some, None, IsSome, refl, sym, ◌∙◌, ap, subst, arith}
use Rattle.std.proofs.lemmas.Bool.Decides.{nat_tests}
use Rattle.bx_base.specs.declared.names.Point.{Point}
use Rattle.bx_calls.specs.Regions.{ReadsAs}
use Rattle.bx_disk.specs.Disks.{Image, is_within}
use Rattle.bx_layout.specs.Labels.{IsOpenGate, gate_text}
use Rattle.bx_layout.specs.declared.gate.Gate.TheVariants.{Open}
use Rattle.bx_places.specs.Places.{IsBlock, block_place, log_device, log_start}
use Rattle.bx_records.specs.Drafts.{Block, block_in}
use Rattle.bx_world_logs.specs.bx_redo.specs.Stands.{IsAcknowledged}
use Rattle.bx_world_logs.specs.bx_redo.specs.declared.work.Work.TheVariants as works
use Rattle.bx_world_logs.specs.bx_redo.proofs.Opened.{one_only, open_is}
use Rattle.bx_world_logs.specs.bx_redo.proofs.Within.{before_it, behind_it, elsewhere, within_it}
use Rattle.bx_rows.specs.declared.session.SessionRow.{SessionRow}
use Rattle.bx_rows.specs.Words.{is_taken}
use Rattle.bx_views.specs.Truths.{Truth, with_draft}
use Rattle.bx_world_logs.specs.bx_volume.specs.Overlay.{Logs, IsOverlaidTruth, IsUnlogged, WritesOnly, filled_of, with_log}
use Rattle.bx_world_logs.specs.bx_volume.specs.Records.{Logged, LogWhere, StandOpen, gate_of, newest_in, or_older}
use Rattle.bx_world_logs.specs.bx_volume.proofs.Overlay.{log_here, log_there, older_none}
use Rattle.bx_world_logs.specs.bx_volume.proofs.Sizes.{filled_below, filled_there, logged_sectors}
use Rattle.bx_world_logs.specs.bx_volume.proofs.Steps.{body_written, gate_opens}
use Rattle.bx_world_logs.specs.Logs.{Activity, OfLog, IsHomeSure, IsInLog, IsLogOf, LogsStand, Slot, SlotStands, begins, idle, view_of, writes_in}
use Rattle.bx_world_logs.proofs.Moving.{slot_here, slot_there, with_slot}
use Rattle.bx_world_logs.proofs.Regions.{IsIn, home_in_none, one_slot, writes_within}
use Rattle.bx_node_logs.proofs.Moved.{fills_few, moved}

-- behind a write of some sectors of a body nothing but that body is written
body_only : (before now : Image) (device from count : ℕ) → count ≤ 145 → ((d s : ℕ) → is_within device from count d s ≡ false → now d s ≡ before d s) → WritesOnly before now device from 145
body_only before now device from count few same = record {
  elsewhere = λ d s other. same d s (elsewhere device from count d s other);
  before = λ s less. same device s (before_it device from count device s less);
  behind = λ s le. same device s (behind_it device from count device s (omega (arith, few, le)));
}

module _ (Sure : ℕ → ℕ → List ℕ → Type 0) (devices areas : ℕ) (rows : List SessionRow) (before now : Image) (logs : Logs) (slots : ℕ → Slot) (truth : Truth) (slot : ℕ)
    (less : slot < 8) (taken : is_taken rows slot ≡ true) (st : LogsStand Sure devices areas rows before logs slots truth) where
  stand : StandOpen before devices areas slot (logs slot)
  stand = (subst (λ (t : Bool). LogWhere t before devices areas slot (logs slot)) taken (st.is_truth.has_logs slot less)).stand

  pub log : IsLogOf Sure devices areas before logs slot (slots slot)
  log = subst (λ (t : Bool). SlotStands Sure devices areas before t logs slot (slots slot)) taken (st.each slot less)

  -- One log goes on, behind a write in its slot.
  pub advance : (activity : Activity) → (slots slot).activity ≡ activity → ((d s : ℕ) → writes_in devices slot (length (logs slot)) activity d s ≡ false → now d s ≡ before d s)
      → (later : Logs) (is : Slot) (truth_then : Truth) → ((other : ℕ) → other ≢ slot → later other ≡ logs other)
      → IsOverlaidTruth now devices areas rows later truth_then
      → ((at : ℕ) → IsBlock areas at → IsUnlogged later at → IsHomeSure Sure devices areas before at)
      → IsLogOf Sure devices areas now later slot is
      → ((at : ℕ) → IsSome (newest_in (later slot) at) ⊎ ((begins is.activity ≡ true) × IsSome (block_in is.more.changed at)) → IsInLog logs slots slot at)
      → LogsStand Sure devices areas rows now later (with_slot slots slot is) truth_then
  advance activity is_activity wrote later is truth_then others is_truth homes here back =
      moved Sure devices areas rows before now logs later slots (with_slot slots slot is) truth truth_then slot less st
      (λ other few ne. (others other ne, slot_there slots slot other is ne))
      other_same
      (λ other at i few ne there some low. home_same at i)
      is_truth
      (λ at block none i low. subst (λ (c : List ℕ). Sure (block_place at devices).0 ((block_place at devices).1 + i) c) (sym (home_same at i)) (homes at block none i low))
      (subst (λ (t : Bool). SlotStands Sure devices areas now t later slot (with_slot slots slot is slot)) (sym taken) (subst (λ (l : Slot). IsLogOf Sure devices areas now later slot l) (sym (slot_here slots slot is)) here))
      (λ one other at few small in_one in_other. st.once one other at few small (was one at in_one) (was other at in_other))
    where
      wrote_in : (d s : ℕ) → writes_in devices slot (length (logs slot)) activity d s ≡ true → IsIn slot s
      wrote_in d s w = writes_within Sure devices areas before logs slots slot d s (is_taken rows slot) (st.each slot less) (subst (λ (c : Activity). writes_in devices slot (length (logs slot)) c d s ≡ true) (sym is_activity) w)

      other_same : (other : ℕ) → other < 8 → other ≢ slot → (d s : ℕ) → IsIn other s → now d s ≡ before d s
      other_same other few ne d s inside = by (writes_in devices slot (length (logs slot)) activity d s) refl
        where
          by : (b : Bool) → writes_in devices slot (length (logs slot)) activity d s ≡ b → now d s ≡ before d s
          by true w = absurd (ne (one_slot other slot s inside (wrote_in d s w)))
          by false w = wrote d s w

      home_same : (at i : ℕ) → now (block_place at devices).0 ((block_place at devices).1 + i) ≡ before (block_place at devices).0 ((block_place at devices).1 + i)
      home_same at i = by (writes_in devices slot (length (logs slot)) activity (block_place at devices).0 ((block_place at devices).1 + i)) refl
        where
          by : (b : Bool) → writes_in devices slot (length (logs slot)) activity (block_place at devices).0 ((block_place at devices).1 + i) ≡ b
              → now (block_place at devices).0 ((block_place at devices).1 + i) ≡ before (block_place at devices).0 ((block_place at devices).1 + i)
          by true w = absurd (home_in_none at devices slot i less (wrote_in (block_place at devices).0 ((block_place at devices).1 + i) w))
          by false w = wrote (block_place at devices).0 ((block_place at devices).1 + i) w

      was : (one at : ℕ) → IsInLog later (with_slot slots slot is) one at → IsInLog logs slots one at
      was one at inside = by (eqb one slot) refl
        where
          by : (b : Bool) → eqb one slot ≡ b → IsInLog logs slots one at
          by true same =
              let e : one ≡ slot = grind (arith, nat_tests, same) in
              subst (λ (n : ℕ). IsInLog logs slots n at) (sym e)
              (back at (subst (λ (l : Slot). IsSome (newest_in (later slot) at) ⊎ ((begins l.activity ≡ true) × IsSome (block_in l.more.changed at))) (slot_here slots slot is)
              (subst (λ (n : ℕ). IsInLog later (with_slot slots slot is) n at) e inside)))
          by false apart =
              let ne : one ≢ slot = λ e. grind (arith, nat_tests, apart, e) in
              subst (λ (l : Slot). IsSome (newest_in (logs one) at) ⊎ ((begins l.activity ≡ true) × IsSome (block_in l.more.changed at))) (slot_there slots slot one is ne)
              (subst (λ (r : List Logged). IsSome (newest_in r at) ⊎ ((begins (with_slot slots slot is one).activity ≡ true) × IsSome (block_in (with_slot slots slot is one).more.changed at))) (others one ne) inside)

  module _ (more : Logged) (point : Point) where
    -- The body of the record under way is acknowledged: its gate is written.
    pub body_lands : (text : List ℕ) → slots slot ≡ record { activity = OfLog (works.Body text point); more = more }
        → IsAcknowledged Sure Sure before now (view_of devices slot (length (logs slot)) (works.Body text point)) text
        → LogsStand Sure devices areas rows now logs (with_slot slots slot (record { activity = OfLog (works.Opens point); more = more })) truth
    body_lands text is ack =
        advance (OfLog (works.Body text point)) (ap (λ (l : Slot). l.activity) is) ack.same logs (record { activity = OfLog (works.Opens point); more = more }) truth (λ other ne. refl)
        (body_written before now devices areas rows logs truth slot (length (logs slot)) less log_its.finds.1.under_way.room (omega arith)
        (body_only before now (log_device slot devices) (log_start slot + 8 + 145 * length (logs slot)) (length text / 512) few ack.same) st.is_truth)
        (λ at block none. st.homes at block none)
        (record {
          gates = λ gate low apart. gate_kept gate low (log_gate gate low);
          bodies = λ body i low fills. body_kept body i low (fills_few before devices areas slot (logs slot) body i stand low fills) (log_its.bodies body i low fills);
          finds = (
            record { is = log_its.finds.1.under_way.is; reads = subst (λ (t : List ℕ). ReadsAs now (log_device slot devices) (log_start slot + 8 + 145 * length (logs slot)) t) log_its.finds.0 ack.reads },
            record {
              under_way = record {
                room = log_its.finds.1.under_way.room;
                is = log_its.finds.1.under_way.is;
                alone = log_its.finds.1.under_way.alone;
                closed = λ gate le low was. log_its.finds.1.under_way.closed gate le low (subst (λ (c : List ℕ). IsOpenGate c) (gate_same gate low) was);
              };
              at = log_its.finds.1.at;
            },
            λ i inside. ack.sure (log_device slot devices) (log_start slot + 8 + 145 * length (logs slot) + i)
                (within_it (log_device slot devices) (log_start slot + 8 + 145 * length (logs slot)) (length text / 512) (log_device slot devices) (log_start slot + 8 + 145 * length (logs slot) + i) refl (omega arith)
                (let e = ap (λ (t : List ℕ). length t / 512) log_its.finds.0 in omega (arith, e, inside))),
          );
        })
        (λ at inside. subst (λ (l : Slot). IsSome (newest_in (logs slot) at) ⊎ ((begins l.activity ≡ true) × IsSome (block_in l.more.changed at))) (sym is)
        (⊎_elim (λ one. inl one) (λ two. inr (refl, two.1)) inside))
      where
        log_its : IsLogOf Sure devices areas before logs slot (record { activity = OfLog (works.Body text point); more = more })
        log_its = subst (λ (l : Slot). IsLogOf Sure devices areas before logs slot l) is log

        few : length text / 512 ≤ 145
        few = let e = ap (λ (t : List ℕ). length t / 512) log_its.finds.0 in let most = logged_sectors areas more log_its.finds.1.under_way.is in omega (arith, e, most)

        gate_out : (gate : ℕ) → gate < 8 → is_within (log_device slot devices) (log_start slot + 8 + 145 * length (logs slot)) (length text / 512) (log_device slot devices) (log_start slot + gate) ≡ false
        gate_out gate low = before_it (log_device slot devices) (log_start slot + 8 + 145 * length (logs slot)) (length text / 512) (log_device slot devices) (log_start slot + gate) (omega (arith, low))

        gate_same : (gate : ℕ) → gate < 8 → gate_of now devices slot gate ≡ gate_of before devices slot gate
        gate_same gate low = ack.same (log_device slot devices) (log_start slot + gate) (gate_out gate low)

        log_gate : (gate : ℕ) → gate < 8 → Sure (log_device slot devices) (log_start slot + gate) (gate_of before devices slot gate)
        log_gate gate low = log_its.gates gate low (gate_out gate low)

        gate_kept : (gate : ℕ) → gate < 8 → Sure (log_device slot devices) (log_start slot + gate) (gate_of before devices slot gate) → Sure (log_device slot devices) (log_start slot + gate) (gate_of now devices slot gate)
        gate_kept gate low sure = subst (λ (c : List ℕ). Sure (log_device slot devices) (log_start slot + gate) c) (sym (gate_same gate low)) sure

        body_kept : (body i : ℕ) → body < length (logs slot) → i < 145 → Sure (log_device slot devices) (log_start slot + 8 + 145 * body + i) (before (log_device slot devices) (log_start slot + 8 + 145 * body + i))
            → Sure (log_device slot devices) (log_start slot + 8 + 145 * body + i) (now (log_device slot devices) (log_start slot + 8 + 145 * body + i))
        body_kept body i low inside sure = subst (λ (c : List ℕ). Sure (log_device slot devices) (log_start slot + 8 + 145 * body + i) c)
            (sym (ack.same (log_device slot devices) (log_start slot + 8 + 145 * body + i)
            (before_it (log_device slot devices) (log_start slot + 8 + 145 * length (logs slot)) (length text / 512) (log_device slot devices) (log_start slot + 8 + 145 * body + i) (omega (arith, low, inside))))) sure

    -- Its gate is acknowledged: it is a record of the log, and the truth is overlaid by its blocks.
    pub gate_lands : (next : Logged) → slots slot ≡ record { activity = OfLog (works.Opens point); more = more }
        → IsAcknowledged Sure Sure before now (view_of devices slot (length (logs slot)) (works.Opens point)) (gate_text Open)
        → LogsStand Sure devices areas rows now (with_log logs slot (more ∷ logs slot)) (with_slot slots slot (record { activity = idle; more = next })) (with_draft truth more.changed)
    gate_lands next is ack =
        advance (OfLog (works.Opens point)) (ap (λ (l : Slot). l.activity) is) ack.same later (record { activity = idle; more = next }) (with_draft truth more.changed)
        (λ other ne. log_there logs slot other (more ∷ logs slot) ne)
        (gate_opens before now devices areas rows logs truth slot more less taken log_its.finds.1.under_way.room
        (one_only before now (log_device slot devices) (log_start slot + length (logs slot)) (log_start slot + length (logs slot)) ack.same (log_device slot devices) refl refl)
        (open_is (gate_of now devices slot (length (logs slot))) (let e : log_start slot + length (logs slot) ≡ log_start slot + length (logs slot) + 0 = omega arith in ap (λ (s : ℕ). now (log_device slot devices) s) e ∙ ack.reads.each 0 (omega arith)))
        log_its.finds.0 (λ room. log_its.finds.1.under_way.closed (length (logs slot) + 1) (omega arith) room) log_its.finds.1.under_way.alone st.is_truth)
        (λ at block none. st.homes at block (λ s small. unlogged at none s small (eqb s slot) refl))
        (record {
          gates = λ gate low apart. by_gate gate low (eqb gate (length (logs slot))) refl;
          bodies = λ body i low fills. by_body body i (subst (λ (r : List Logged). body < length r) here low) (subst (λ (r : List Logged). i < filled_of r body) here fills) (eqb body (length (logs slot))) refl;
          finds = λ gate le low was. log_its.finds.1.under_way.closed gate (let e = ap length here in omega (arith, e, le)) low
              (subst (λ (c : List ℕ). IsOpenGate c) (gate_same gate (let e = ap length here in omega (arith, e, le))) was);
        })
        (λ at inside. subst (λ (l : Slot). IsSome (newest_in (logs slot) at) ⊎ ((begins l.activity ≡ true) × IsSome (block_in l.more.changed at))) (sym is)
        (⊎_elim (λ one. by_newest at (block_in more.changed at) refl (subst (λ (r : List Logged). IsSome (newest_in r at)) here one)) (λ two. absurd (not_begun two.0)) inside))
      where
        later : Logs
        later = with_log logs slot (more ∷ logs slot)

        here : later slot ≡ more ∷ logs slot
        here = log_here logs slot (more ∷ logs slot)

        log_its : IsLogOf Sure devices areas before logs slot (record { activity = OfLog (works.Opens point); more = more })
        log_its = subst (λ (l : Slot). IsLogOf Sure devices areas before logs slot l) is log

        not_begun : begins idle ≡ true → ⊥
        not_begun e = cc

        by_newest : (at : ℕ) (o : Option Block) → block_in more.changed at ≡ o → IsSome (or_older (block_in more.changed at) (newest_in (logs slot) at)) → IsSome (newest_in (logs slot) at) ⊎ ((true ≡ true) × IsSome (block_in more.changed at))
        by_newest at None e some = inl (subst (λ (o : Option Block). IsSome (or_older o (newest_in (logs slot) at))) e some)
        by_newest at (Some block) e some = inr (refl, subst (λ (o : Option Block). IsSome o) (sym e) refl)

        unlogged : (at : ℕ) → IsUnlogged later at → (s : ℕ) → s < 8 → (b : Bool) → eqb s slot ≡ b → newest_in (logs s) at ≡ None
        unlogged at none s small true same =
            let e : s ≡ slot = grind (arith, nat_tests, same) in
            ap (λ (n : ℕ). newest_in (logs n) at) e ∙ (older_none (block_in more.changed at) (newest_in (logs slot) at) (subst (λ (r : List Logged). newest_in r at ≡ None) here (none slot less))).1
        unlogged at none s small false apart =
            let ne : s ≢ slot = λ e. grind (arith, nat_tests, apart, e) in
            subst (λ (r : List Logged). newest_in r at ≡ None) (log_there logs slot s (more ∷ logs slot) ne) (none s small)

        out : (gate : ℕ) → gate ≢ length (logs slot) → is_within (log_device slot devices) (log_start slot + length (logs slot)) 1 (log_device slot devices) (log_start slot + gate) ≡ false
        out gate ne = ⊎_elim
            (λ lower. before_it (log_device slot devices) (log_start slot + length (logs slot)) 1 (log_device slot devices) (log_start slot + gate) (omega (arith, lower)))
            (λ upper. behind_it (log_device slot devices) (log_start slot + length (logs slot)) 1 (log_device slot devices) (log_start slot + gate) (omega (arith, upper)))
            (sides gate (length (logs slot)) ne)
          where
            sides : (a b : ℕ) → a ≢ b → (a < b) ⊎ (b < a)
            sides a b apart = grind arith

        gate_same : (gate : ℕ) → length (logs slot) + 1 ≤ gate → gate_of now devices slot gate ≡ gate_of before devices slot gate
        gate_same gate le = ack.same (log_device slot devices) (log_start slot + gate) (out gate (λ e. omega (arith, e, le)))

        by_gate : (gate : ℕ) → gate < 8 → (b : Bool) → eqb gate (length (logs slot)) ≡ b → Sure (log_device slot devices) (log_start slot + gate) (gate_of now devices slot gate)
        by_gate gate low true same =
            let e : gate ≡ length (logs slot) = grind (arith, nat_tests, same) in
            ack.sure (log_device slot devices) (log_start slot + gate)
            (within_it (log_device slot devices) (log_start slot + length (logs slot)) 1 (log_device slot devices) (log_start slot + gate) refl (omega (arith, e)) (omega (arith, e)))
        by_gate gate low false apart =
            let ne : gate ≢ length (logs slot) = λ e. grind (arith, nat_tests, apart, e) in
            subst (λ (c : List ℕ). Sure (log_device slot devices) (log_start slot + gate) c) (sym (ack.same (log_device slot devices) (log_start slot + gate) (out gate ne))) (log_its.gates gate low (out gate ne))

        body_same : (body i : ℕ) → now (log_device slot devices) (log_start slot + 8 + 145 * body + i) ≡ before (log_device slot devices) (log_start slot + 8 + 145 * body + i)
        body_same body i = ack.same (log_device slot devices) (log_start slot + 8 + 145 * body + i)
            (behind_it (log_device slot devices) (log_start slot + length (logs slot)) 1 (log_device slot devices) (log_start slot + 8 + 145 * body + i) (let room = log_its.finds.1.under_way.room in omega (arith, room)))

        by_body : (body i : ℕ) → body < length (more ∷ logs slot) → i < filled_of (more ∷ logs slot) body → (b : Bool) → eqb body (length (logs slot)) ≡ b
            → Sure (log_device slot devices) (log_start slot + 8 + 145 * body + i) (now (log_device slot devices) (log_start slot + 8 + 145 * body + i))
        by_body body i low fills true same =
            let e : body ≡ length (logs slot) = grind (arith, nat_tests, same) in
            let f = filled_there (logs slot) more body e in
            subst (λ (c : List ℕ). Sure (log_device slot devices) (log_start slot + 8 + 145 * body + i) c) (sym (body_same body i))
            (subst (λ (n : ℕ). Sure (log_device slot devices) (log_start slot + 8 + 145 * n + i) (before (log_device slot devices) (log_start slot + 8 + 145 * n + i))) (sym e) (log_its.finds.2 i (omega (arith, f, fills))))
        by_body body i low fills false apart =
            let lower : body < length (logs slot) = grind (arith, nat_tests, apart, low) in
            let f = filled_below (logs slot) more body lower in
            subst (λ (c : List ℕ). Sure (log_device slot devices) (log_start slot + 8 + 145 * body + i) c) (sym (body_same body i)) (log_its.bodies body i lower (omega (arith, f, fills)))
