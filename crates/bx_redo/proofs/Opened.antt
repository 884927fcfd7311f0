-- What an acknowledged body and an acknowledged gate leave.
use Rattle.std.proofs.Common.{◌≡◌, ℕ, ◌+◌, ◌*◌, ◌/◌, ⊎_elim, inl, inr, arith, true, false, List, ◌∷◌, length, take, sym, ap, ◌∙◌, subst, refl}
use Rattle.bx_base.specs.declared.names.Point.{Point}
use Rattle.bx_calls.specs.Regions.{ReadsAs}
use Rattle.bx_disk.specs.Disks.{Image, is_within, sector_of}
use Rattle.bx_layout.specs.Labels.{IsOpenGate, gate_text}
use Rattle.bx_layout.specs.declared.gate.Gate.TheVariants.{Open}
use Rattle.bx_places.specs.Places.{log_start, log_device}
use Rattle.bx_rows.specs.declared.session.SessionRow.{SessionRow}
use Rattle.bx_volume.specs.bx_views.specs.Truths.{Truth, with_draft}
use Rattle.bx_volume.specs.Overlay.{Logs, MattersMore, WritesOnly, with_log}
use Rattle.bx_volume.specs.Records.{Logged, IsInBody, gate_of, logged_text}
use Rattle.bx_volume.proofs.GateOut.{matters_more}
use Rattle.bx_volume.proofs.Matters.{truth_same}
use Rattle.bx_volume.proofs.Overlay.{log_here}
use Rattle.bx_volume.proofs.Steps.{gate_opens}
use Rattle.bx_redo.specs.View.{LogView}
use Rattle.bx_redo.specs.Stands.{LogStands, IsAcknowledged, is_written}
use Rattle.bx_redo.specs.declared.work.Work.TheVariants.{Idle, Body, Opens}
use Rattle.bx_redo.proofs.Shown.{body_apart}
use Rattle.bx_redo.proofs.Within.{elsewhere, before_it, behind_it, within_it, decided}

module _ (Sure Sure_then : ℕ → ℕ → List ℕ → Type 0) (before now : Image) (log : LogView) (bytes : List ℕ) (ack : IsAcknowledged Sure Sure_then before now log bytes) where
  -- what was sure, where it isn't written, is sure as it stands now
  pub carried : (d s : ℕ) → (is_written log d s ≡ false → Sure d s (before d s)) → Sure_then d s (now d s)
  carried d s was = ⊎_elim
      (λ written. ack.sure d s written)
      (λ kept. subst (Sure_then d s) (sym (ack.same d s kept)) (ack.out d s (before d s) kept (was kept)))
      (decided (is_written log d s))

-- a write of one sector
pub one_only : (before now : Image) (device at sector : ℕ) (same : (d s : ℕ) → is_within device at 1 d s ≡ false → now d s ≡ before d s)
    → (d : ℕ) → device ≡ d → at ≡ sector → WritesOnly before now d sector 1
one_only before now device at sector same d on is = record {
  elsewhere = λ x s other. same x s (elsewhere device at 1 x s (λ e. other (e ∙ on)));
  before = λ s less. same d s (before_it device at 1 d s (omega (arith, less, is)));
  behind = λ s le. same d s (behind_it device at 1 d s (omega (arith, le, is)));
}

-- an opened gate is open
pub open_is : (content : List ℕ) → content ≡ sector_of (gate_text Open) 0 → IsOpenGate content
unfolding sector_of
open_is content is = ap (take 8) is

module _ (Sure Sure_then : ℕ → ℕ → List ℕ → Type 0) (devices areas : ℕ) (rows : List SessionRow) (before now : Image) (logs : Logs) (truth : Truth) (more : Logged) (log : LogView) (point : Point) where
  pub body_stands : (text : List ℕ) → LogStands Sure devices areas rows before logs truth more (record log { work = Body text point; out = true })
      → IsAcknowledged Sure Sure_then before now (record log { work = Body text point; out = true }) text
      → LogStands Sure_then devices areas rows now logs truth more (record log { work = Opens point; out = true })
  body_stands text st ack = record {
    volume = st.volume;
    is_slot = st.is_slot;
    on_device = st.on_device;
    taken = st.taken;
    is_truth = truth_same before now devices areas rows logs truth
        (λ d s matters. ack.same d s (body_apart Sure devices areas rows before logs truth more (record log { out = true }) text point st d s matters)) st.is_truth;
    run = st.run;
    sure = λ d s matters apart. carried Sure Sure_then before now _ text ack d s (st.sure d s matters);
    own = λ d s is apart. carried Sure Sure_then before now _ text ack d s (st.own d s is);
    finds = (
      record {
        is = st.finds.1.is;
        reads = subst (λ (n : ℕ). ReadsAs now n (log_start log.slot + 8 + 145 * log.count) (logged_text more)) st.on_device
            (subst (ReadsAs now log.device (log_start log.slot + 8 + 145 * log.count)) st.finds.0 ack.reads);
      },
      record {
        room = st.finds.1.room;
        is = st.finds.1.is;
        alone = st.finds.1.alone;
        closed = λ gate le place is_open. st.finds.1.closed gate le place
            (subst IsOpenGate (ack.same (log_device log.slot devices) (log_start log.slot + gate)
            (before_it log.device (log_start log.slot + 8 + 145 * log.count) (length text / 512) (log_device log.slot devices) (log_start log.slot + gate) (omega (arith, place)))) is_open);
      },
      λ sector within. ack.sure log.device (log_start log.slot + 8 + 145 * log.count + sector)
          (within_it log.device (log_start log.slot + 8 + 145 * log.count) (length text / 512) log.device (log_start log.slot + 8 + 145 * log.count + sector) refl (omega arith)
          (let long = ap (λ (t : List ℕ). length t / 512) st.finds.0 in omega (arith, within, long))),
    );
  }

  more_sure : LogStands Sure devices areas rows before logs truth more (record log { work = Opens point; out = true })
      → IsAcknowledged Sure Sure_then before now (record log { work = Opens point; out = true }) (gate_text Open)
      → (d s : ℕ) → MattersMore devices areas logs log.slot more d s → Sure_then d s (now d s)
  more_sure st ack d s (inl matters) = carried Sure Sure_then before now _ (gate_text Open) ack d s (st.sure d s matters)
  more_sure st ack d s (inr (inl (sector, within, device, place))) = carried Sure Sure_then before now _ (gate_text Open) ack d s
      (λ apart.
      let r = st.run in
      let on = device ∙ sym st.on_device in
      let at : s ≡ log_start log.slot + 8 + 145 * log.count + sector = omega (arith, place, r) in
      subst (λ (x : ℕ × ℕ). Sure x.0 x.1 (before x.0 x.1)) (λ i. (sym on i, sym at i)) (st.finds.2 sector within))
  more_sure st ack d s (inr (inr (few, device, place))) = carried Sure Sure_then before now _ (gate_text Open) ack d s
      (st.own d s (within_it log.device (log_start log.slot) 8 d s (device ∙ sym st.on_device) (omega (arith, place)) (omega (arith, place, few))))

  pub record_stands : (next : Logged) → LogStands Sure devices areas rows before logs truth more (record log { work = Opens point; out = true })
      → IsAcknowledged Sure Sure_then before now (record log { work = Opens point; out = true }) (gate_text Open)
      → LogStands Sure_then devices areas rows now (with_log logs log.slot (more ∷ logs log.slot)) (with_draft truth more.changed) next
      (record log { count = log.count + 1; work = Idle; out = false })
  record_stands next st ack = record {
    volume = st.volume;
    is_slot = st.is_slot;
    on_device = st.on_device;
    taken = st.taken;
    is_truth = gate_opens before now devices areas rows logs truth log.slot more st.is_slot st.taken (omega (arith, st.run, st.finds.1.room))
        (one_only before now log.device (log_start log.slot + log.count) (log_start log.slot + length (logs log.slot)) ack.same (log_device log.slot devices) st.on_device (let r = st.run in omega (arith, r)))
        (open_is (gate_of now devices log.slot (length (logs log.slot)))
        (ap (λ (n : ℕ). now n (log_start log.slot + length (logs log.slot))) (sym st.on_device)
        ∙ ap (now log.device) (let r = st.run in omega (arith, r)) ∙ ack.reads.each 0 (omega arith)))
        (subst (λ (n : ℕ). IsInBody before devices areas log.slot n more) (sym st.run) st.finds.0)
        (λ less. st.finds.1.closed (length (logs log.slot) + 1) (let r = st.run in omega (arith, r)) less)
        st.finds.1.alone st.is_truth;
    run = ap length (log_here logs log.slot (more ∷ logs log.slot)) ∙ (let r = st.run in omega (arith, r));
    sure = λ d s matters apart. more_sure st ack d s (matters_more devices areas logs log.slot more st.is_slot d s matters);
    own = λ d s is apart. carried Sure Sure_then before now _ (gate_text Open) ack d s (st.own d s is);
    finds = λ gate le place is_open. st.finds.1.closed gate (omega (arith, le)) place
        (subst IsOpenGate (ack.same (log_device log.slot devices) (log_start log.slot + gate)
        (behind_it log.device (log_start log.slot + log.count) 1 (log_device log.slot devices) (log_start log.slot + gate) (omega (arith, le)))) is_open);
  }
