-- What writes of homes leave: that of a log with nothing under way, and what a recovery found.
use Rattle.std.proofs.Common.{◌≡◌, ℕ, ◌+◌, ◌<◌, ⊎_elim, inl, inr, arith, false, true, List, length, sym, ◌∙◌, subst}
use Rattle.bx_disk.specs.Disks.{Image}
use Rattle.bx_layout.specs.Labels.{IsOpenGate}
use Rattle.bx_places.specs.Places.{log_start, log_device}
use Rattle.bx_rows.specs.declared.session.SessionRow.{SessionRow}
use Rattle.bx_volume.specs.bx_views.specs.Truths.{Truth}
use Rattle.bx_volume.specs.Overlay.{Logs, IsOfLogged}
use Rattle.bx_volume.specs.Records.{Logged}
use Rattle.bx_volume.proofs.Apart.{home_and_log}
use Rattle.bx_volume.proofs.LoggedHomes.{homes_written, matters_not}
use Rattle.bx_redo.specs.View.{LogView}
use Rattle.bx_redo.specs.Stands.{LogStands, IsFound, AreClosed, WritesHomes, is_gate}
use Rattle.bx_redo.specs.declared.work.Work.TheVariants.{Idle}
use Rattle.bx_redo.proofs.Own.{most_of}
use Rattle.bx_redo.proofs.Within.{behind_it, within_it, within_is, part}

-- a log with nothing under way is one that was found, whose gates behind the run are closed
module _ (Sure : ℕ → ℕ → List ℕ → Type 0) (devices areas : ℕ) (rows : List SessionRow) (before : Image) (logs : Logs) (truth : Truth) (more : Logged) (log : LogView) where
  pub found_idle : LogStands Sure devices areas rows before logs truth more (record log { work = Idle; out = false }) → IsFound Sure devices areas rows before logs truth more log.slot
  found_idle st = record {
    volume = st.volume;
    is_slot = st.is_slot;
    taken = st.taken;
    is_truth = st.is_truth;
    sure = λ d s matters. st.sure d s matters (behind_it log.device 0 0 d s (omega arith));
    gates = λ gate place. st.own (log_device log.slot devices) (log_start log.slot + gate)
        (within_it log.device (log_start log.slot) 8 (log_device log.slot devices) (log_start log.slot + gate) (sym st.on_device) (omega arith) (omega (arith, place)))
        (behind_it log.device 0 0 (log_device log.slot devices) (log_start log.slot + gate) (omega arith));
  }

  -- its gates are all of its slot's
  pub gate_sure : IsFound Sure devices areas rows before logs truth more log.slot → log.device ≡ log_device log.slot devices
      → (d s : ℕ) → is_gate log d s ≡ true → Sure d s (before d s)
  gate_sure found on d s is =
      let w = within_is log.device (log_start log.slot) 8 d s is in
      let gate : (n : ℕ) × (s ≡ log_start log.slot + n) × (n < 8) = part (log_start log.slot) s w.begins w.ends in
      subst (λ (x : ℕ × ℕ). Sure x.0 x.1 (before x.0 x.1)) (λ i. (sym (w.on ∙ on) i, sym gate.1 i)) (found.gates gate.0 gate.2)

  pub idle_found : IsFound Sure devices areas rows before logs truth more log.slot → log.device ≡ log_device log.slot devices
      → length (logs log.slot) ≡ log.count → AreClosed before devices log.slot log.count
      → LogStands Sure devices areas rows before logs truth more (record log { work = Idle; out = false })
  idle_found found on run closed = record {
    volume = found.volume;
    is_slot = found.is_slot;
    on_device = on;
    taken = found.taken;
    is_truth = found.is_truth;
    run = run;
    sure = λ d s matters apart. found.sure d s matters;
    own = λ d s is apart. gate_sure found on d s is;
    finds = closed;
  }

module _ (Sure Sure_then : ℕ → ℕ → List ℕ → Type 0) (devices areas : ℕ) (rows : List SessionRow) (before now : Image) (logs : Logs) (truth : Truth) (more : Logged)
    (writes : WritesHomes Sure Sure_then devices areas before now logs) where
  not_own : (slot d s : ℕ) → slot < 8 → s < log_start slot + 1168 → IsOfLogged devices areas logs d s → ⊥
  not_own slot d s less to logged = let b = home_and_log logged.at devices slot less in let p = logged.place in omega (arith, b, to, p)

  -- a gate is as it was, and what was sure there is
  gate_stays : (slot gate : ℕ) → slot < 8 → gate < 8
      → (now (log_device slot devices) (log_start slot + gate) ≡ before (log_device slot devices) (log_start slot + gate))
      × ((content : List ℕ) → Sure (log_device slot devices) (log_start slot + gate) content → Sure_then (log_device slot devices) (log_start slot + gate) content)
  gate_stays slot gate less place = ⊎_elim
      (λ (logged : IsOfLogged devices areas logs (log_device slot devices) (log_start slot + gate)). absurd (not_own slot (log_device slot devices) (log_start slot + gate) less (omega (arith, place)) logged))
      (λ kept. kept)
      (writes (log_device slot devices) (log_start slot + gate))

  pub homes_found : (slot : ℕ) → IsFound Sure devices areas rows before logs truth more slot → IsFound Sure_then devices areas rows now logs truth more slot
  homes_found slot found = record {
    volume = found.volume;
    is_slot = found.is_slot;
    taken = found.taken;
    is_truth = homes_written devices areas logs found.volume before now rows truth (λ d s. ⊎_elim (λ logged. inr logged) (λ kept. inl kept.0) (writes d s)) found.is_truth;
    sure = λ d s matters. ⊎_elim
        (λ (logged : IsOfLogged devices areas logs d s). absurd (matters_not devices areas logs found.volume (most_of before devices areas rows logs truth found.is_truth) d s matters logged))
        (λ kept. subst (Sure_then d s) (sym kept.0) (kept.1 (before d s) (found.sure d s matters)))
        (writes d s);
    gates = λ gate place. let kept = gate_stays slot gate found.is_slot place in
        subst (Sure_then (log_device slot devices) (log_start slot + gate)) (sym kept.0) (kept.1 (before (log_device slot devices) (log_start slot + gate)) (found.gates gate place));
  }

  -- homes of its blocks are written
  pub homes_stand : (log : LogView) → LogStands Sure devices areas rows before logs truth more (record log { work = Idle; out = false })
      → LogStands Sure_then devices areas rows now logs truth more (record log { work = Idle; out = false })
  homes_stand log st = idle_found Sure_then devices areas rows now logs truth more log
      (homes_found log.slot (found_idle Sure devices areas rows before logs truth more log st)) st.on_device st.run
      (λ gate le place is_open. st.finds gate le place (subst IsOpenGate (gate_stays log.slot gate st.is_slot place).0 is_open))
