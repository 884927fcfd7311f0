-- What an acknowledged closing leaves: that of gate 0, and that of the others.
use Rattle.std.proofs.Common.{◌≡◌, ℕ, zero, suc, ◌+◌, ◌-◌, ◌*◌, ◌/◌, ◌<◌, ◌≤◌, arith, Bool, true, false, List, [], ◌∷◌, length, take, replicate, sym, ap, ◌∙◌, subst, refl}
use Rattle.std.proofs.lemmas.List.{drop-replicate, length-replicate, take-replicate}
use Rattle.bx_disk.specs.Disks.{Image, sector_of}
use Rattle.bx_layout.specs.Labels.{IsOpenGate, gate_text}
use Rattle.bx_layout.specs.declared.gate.Gate.TheVariants.{Closed}
use Rattle.bx_places.specs.Places.{log_start, log_device}
use Rattle.bx_rows.specs.declared.session.SessionRow.{SessionRow}
use Rattle.bx_rows.specs.Words.{is_taken}
use Rattle.bx_volume.specs.bx_views.specs.Truths.{Truth}
use Rattle.bx_volume.specs.Overlay.{Logs, with_log}
use Rattle.bx_volume.specs.Records.{Logged, LogWhere, gate_of}
use Rattle.bx_volume.proofs.Matters.{truth_same}
use Rattle.bx_volume.proofs.Overlay.{log_here}
use Rattle.bx_volume.proofs.Steps.{log_closed}
use Rattle.bx_redo.specs.Steps.{shut_text}
use Rattle.bx_redo.specs.View.{LogView}
use Rattle.bx_redo.specs.Stands.{LogStands, IsAcknowledged}
use Rattle.bx_redo.specs.declared.work.Work.TheVariants.{Idle, Closes, Shuts}
use Rattle.bx_redo.proofs.Opened.{carried, one_only}
use Rattle.bx_redo.proofs.Shown.{gates_apart}
use Rattle.bx_redo.proofs.Within.{before_it}

-- zeros are no open gate
zeros_closed : (n : ℕ) → 8 ≤ n → IsOpenGate (replicate n 0) → ⊥
zeros_closed n long is_open = let e = sym (take-replicate 8 n 0 long) ∙ is_open in absurd cc

closed_is : (content : List ℕ) → content ≡ sector_of (gate_text Closed) 0 → IsOpenGate content → ⊥
unfolding sector_of
closed_is content is is_open = zeros_closed 512 (omega arith) (sym (ap (take 8) is) ∙ is_open)

shut_is : (i : ℕ) (content : List ℕ) → i < 7 → content ≡ sector_of shut_text i → IsOpenGate content → ⊥
unfolding sector_of shut_text
shut_is i content less is is_open =
    let zeros : sector_of shut_text i ≡ replicate 512 0 = ap (take 512) (drop-replicate (512 * i) 3584 0) ∙ take-replicate 512 (3584 - 512 * i) 0 (omega (arith, less)) in
    zeros_closed 512 (omega arith) (sym (ap (take 8) (is ∙ zeros)) ∙ is_open)

many : (n : ℕ) → n < 7 → n < length shut_text / 512
unfolding shut_text
many n less = omega (arith, less, length-replicate {A = ℕ} 3584 0)

module _ (Sure Sure_then : ℕ → ℕ → List ℕ → Type 0) (devices areas : ℕ) (rows : List SessionRow) (before now : Image) (logs : Logs) (truth : Truth) (more next : Logged) (log : LogView) where
  pub closing_stands : LogStands Sure devices areas rows before logs truth more (record log { work = Closes; out = true })
      → IsAcknowledged Sure Sure_then before now (record log { work = Closes; out = true }) (gate_text Closed)
      → LogStands Sure_then devices areas rows now (with_log logs log.slot []) truth next (record log { count = 0; work = Shuts; out = true })
  closing_stands st ack = record {
    volume = st.volume;
    is_slot = st.is_slot;
    on_device = st.on_device;
    taken = st.taken;
    is_truth = log_closed before now devices areas rows logs truth log.slot st.is_slot st.taken
        (one_only before now log.device (log_start log.slot) (log_start log.slot + 0) ack.same (log_device log.slot devices) st.on_device (omega arith))
        (closed_is (gate_of now devices log.slot 0)
        (ap (λ (n : ℕ). now n (log_start log.slot + 0)) (sym st.on_device) ∙ ack.reads.each 0 (omega arith)))
        st.finds.home st.is_truth;
    run = ap length (log_here logs log.slot []);
    sure = λ d s matters apart. carried Sure Sure_then before now _ (gate_text Closed) ack d s (st.finds.sure d s matters);
    own = λ d s is apart. carried Sure Sure_then before now _ (gate_text Closed) ack d s (st.own d s is);
    finds = refl;
  }

  -- gate 0 of a log without records is closed
  first_closed : (records : List Logged) → length records ≡ 0 → (taken : Bool) → taken ≡ true → LogWhere taken before devices areas log.slot records
      → IsOpenGate (gate_of before devices log.slot 0) → ⊥
  first_closed [] none true is has = has.end (omega arith)
  first_closed [] none false is has = absurd cc
  first_closed (r ∷ records) none taken is has = absurd (omega (arith, none))

  pub shut_stands : LogStands Sure devices areas rows before logs truth more (record log { work = Shuts; out = true })
      → IsAcknowledged Sure Sure_then before now (record log { work = Shuts; out = true }) shut_text
      → LogStands Sure_then devices areas rows now logs truth next (record log { work = Idle; out = false })
  shut_stands st ack = record {
    volume = st.volume;
    is_slot = st.is_slot;
    on_device = st.on_device;
    taken = st.taken;
    is_truth = truth_same before now devices areas rows logs truth
        (λ d s matters. ack.same d s (gates_apart Sure devices areas rows before logs truth more (record log { out = true }) st d s matters)) st.is_truth;
    run = st.run;
    sure = λ d s matters apart. carried Sure Sure_then before now _ shut_text ack d s (st.sure d s matters);
    own = λ d s is apart. carried Sure Sure_then before now _ shut_text ack d s (st.own d s is);
    finds = λ gate le place. closed gate place;
  }
    where
      closed : (gate : ℕ) → gate < 8 → IsOpenGate (gate_of now devices log.slot gate) → ⊥
      closed zero place is_open = first_closed (logs log.slot) (st.run ∙ st.finds) (is_taken rows log.slot) st.taken (st.is_truth.has_logs log.slot st.is_slot)
          (subst IsOpenGate (ack.same (log_device log.slot devices) (log_start log.slot + 0)
          (before_it log.device (log_start log.slot + 1) 7 (log_device log.slot devices) (log_start log.slot + 0) (omega arith))) is_open)
      closed (suc gate) place is_open = shut_is gate (gate_of now devices log.slot (suc gate)) (omega (arith, place))
          (ap (λ (n : ℕ). now n (log_start log.slot + suc gate)) (sym st.on_device) ∙ ap (now log.device) (omega arith) ∙ ack.reads.each gate (many gate (omega (arith, place))))
          is_open
