-- What a recovery finds once the gates are written back.
use Rattle.std.proofs.Common.{◌≡◌, ℕ, ◌+◌, ◌≤◌, ◌⊎◌, ⊎_elim, inl, inr, arith, true, false, List, [], ◌∷◌, sym, ◌∙◌, subst}
use Rattle.bx_disk.specs.Disks.{Image, is_within}
use Rattle.bx_places.specs.Places.{log_start, log_device}
use Rattle.bx_rows.specs.declared.session.SessionRow.{SessionRow}
use Rattle.bx_volume.specs.bx_views.specs.Truths.{Truth, with_draft}
use Rattle.bx_volume.specs.Overlay.{Logs, IsOverlaidTruth, Matters, with_log}
use Rattle.bx_volume.specs.Records.{Logged}
use Rattle.bx_volume.proofs.GateOut.{matters_more}
use Rattle.bx_redo.specs.Found.{AreGatesRead, AreSettled, Settles}
use Rattle.bx_redo.specs.View.{LogView}
use Rattle.bx_redo.specs.Stands.{LogStands, IsFound, is_gate, is_written}
use Rattle.bx_redo.specs.declared.work.Work.{Work}
use Rattle.bx_redo.specs.declared.work.Work.TheVariants.{Idle, Body, Opens, Closes, Shuts}
use Rattle.bx_redo.proofs.Shown.{body_apart, gates_apart, opening_has, shown}
use Rattle.bx_redo.proofs.Within.{behind_it, within_it, within_is, decided, part}

-- a sector that isn't among those of a region isn't among some of them
among : (device start from count d s : ℕ) → start ≤ from → from + count ≤ start + 8 → is_within device start 8 d s ≡ false → is_within device from count d s ≡ false
among device start from count d s begins ends apart = by (decided (is_within device from count d s))
  where
    by : (is_within device from count d s ≡ true) ⊎ (is_within device from count d s ≡ false) → is_within device from count d s ≡ false
    by (inr free) = free
    by (inl is) =
        let w = within_is device from count d s is in
        let t = within_it device start 8 d s w.on (omega (arith, begins, w.begins)) (omega (arith, ends, w.ends)) in
        absurd cc

module _ (Sure Sure_then : ℕ → ℕ → List ℕ → Type 0) (before now : Image) (log : LogView) (bytes : List ℕ)
    (read : AreGatesRead before log bytes) (set : AreSettled Sure Sure_then before now log bytes) where
  -- what isn't being written is as it was
  pub as_before : (d s : ℕ) → is_written log d s ≡ false → now d s ≡ before d s
  as_before d s apart = by (decided (is_gate log d s))
    where
      by : (is_gate log d s ≡ true) ⊎ (is_gate log d s ≡ false) → now d s ≡ before d s
      by (inr free) = set.same d s free
      by (inl is) =
          let w = within_is log.device (log_start log.slot) 8 d s is in
          let gate = part (log_start log.slot) s w.begins w.ends in
          let here : (d, s) ≡ (log.device, log_start log.slot + gate.0) = (λ i. (w.on i, gate.1 i)) in
          let clear : is_written log log.device (log_start log.slot + gate.0) ≡ false = subst (λ (x : ℕ × ℕ). is_written log x.0 x.1 ≡ false) here apart in
          let same : now log.device (log_start log.slot + gate.0) ≡ before log.device (log_start log.slot + gate.0)
          = set.reads.each gate.0 (let long = read.long in omega (arith, long, gate.2)) ∙ read.each gate.0 gate.2 clear in
          subst (λ (x : ℕ × ℕ). now x.0 x.1 ≡ before x.0 x.1) (sym here) same

  -- what was sure, where it isn't written or is a gate, is sure as it stands now
  pub settled_sure : (d s : ℕ) → (is_gate log d s ≡ false → (is_written log d s ≡ false) × Sure d s (before d s)) → Sure_then d s (now d s)
  settled_sure d s was = ⊎_elim
      (λ is. set.sure d s is)
      (λ free. subst (Sure_then d s) (sym (set.same d s free)) (set.out d s (before d s) free (was free).0 (was free).1))
      (decided (is_gate log d s))

module _ (Sure Sure_then : ℕ → ℕ → List ℕ → Type 0) (devices areas : ℕ) (rows : List SessionRow) (before now : Image) (logs : Logs) (truth : Truth) (more : Logged) (log : LogView) (bytes : List ℕ) where
  -- what is found, for some logs
  finds : (work : Work) → LogStands Sure devices areas rows before logs truth more (record log { work = work })
      → AreGatesRead before (record log { work = work }) bytes → AreSettled Sure Sure_then before now (record log { work = work }) bytes
      → (found : Logs) (its : Truth) → IsOverlaidTruth now devices areas rows found its
      → ((d s : ℕ) → Matters devices areas found d s → is_gate log d s ≡ false → (is_written (record log { work = work }) d s ≡ false) × Sure d s (before d s))
      → IsFound Sure_then devices areas rows now found its more log.slot
  finds work st read set found its is was = record {
    volume = st.volume;
    is_slot = st.is_slot;
    taken = st.taken;
    is_truth = is;
    sure = λ d s matters. settled_sure Sure Sure_then before now (record log { work = work }) bytes read set d s (was d s matters);
    gates = λ gate place. set.sure (log_device log.slot devices) (log_start log.slot + gate)
        (within_it log.device (log_start log.slot) 8 (log_device log.slot devices) (log_start log.slot + gate) (sym st.on_device) (omega arith) (omega (arith, place)));
  }

  pub settled : (work : Work) → LogStands Sure devices areas rows before logs truth more (record log { work = work })
      → AreGatesRead before (record log { work = work }) bytes → AreSettled Sure Sure_then before now (record log { work = work }) bytes
      → Settles Sure_then devices areas rows now logs truth more log.slot work
  settled Idle st read set = finds Idle st read set logs truth
      (shown Sure devices areas rows before now logs truth more log Idle (λ d s apart sure. as_before Sure Sure_then before now (record log { work = Idle }) bytes read set d s apart) st)
      (λ d s matters free. let apart = behind_it log.device 0 0 d s (omega arith) in (apart, st.sure d s matters apart))
  settled (Body text point) st read set = finds (Body text point) st read set logs truth
      (shown Sure devices areas rows before now logs truth more log (Body text point) (λ d s apart sure. as_before Sure Sure_then before now (record log { work = Body text point }) bytes read set d s apart) st)
      (λ d s matters free. let apart = body_apart Sure devices areas rows before logs truth more log text point st d s matters in (apart, st.sure d s matters apart))
  settled (Opens point) st read set = ⊎_elim
      (λ is. inl (finds (Opens point) st read set logs truth is
      (λ d s matters free. let apart = other d s free in (apart, opening_has Sure devices areas rows before now logs truth more log point st st.finds.1.room d s (inl matters) apart))))
      (λ is. inr (finds (Opens point) st read set (with_log logs log.slot (more ∷ logs log.slot)) (with_draft truth more.changed) is
      (λ d s matters free. let apart = other d s free in (apart, opening_has Sure devices areas rows before now logs truth more log point st st.finds.1.room d s (matters_more devices areas logs log.slot more st.is_slot d s matters) apart))))
      (shown Sure devices areas rows before now logs truth more log (Opens point) (λ d s apart sure. as_before Sure Sure_then before now (record log { work = Opens point }) bytes read set d s apart) st)
    where
      other : (d s : ℕ) → is_gate log d s ≡ false → is_within log.device (log_start log.slot + log.count) 1 d s ≡ false
      other d s free = among log.device (log_start log.slot) (log_start log.slot + log.count) 1 d s (omega arith) (let room = st.finds.1.room in omega (arith, room)) free
  settled Closes st read set = ⊎_elim
      (λ is. inl (finds Closes st read set logs truth is (λ d s matters free. let apart = other d s free in (apart, st.sure d s matters apart))))
      (λ is. inr (finds Closes st read set (with_log logs log.slot []) truth is (λ d s matters free. let apart = other d s free in (apart, st.finds.sure d s matters apart))))
      (shown Sure devices areas rows before now logs truth more log Closes (λ d s apart sure. as_before Sure Sure_then before now (record log { work = Closes }) bytes read set d s apart) st)
    where
      other : (d s : ℕ) → is_gate log d s ≡ false → is_within log.device (log_start log.slot) 1 d s ≡ false
      other d s free = among log.device (log_start log.slot) (log_start log.slot) 1 d s (omega arith) (omega arith) free
  settled Shuts st read set = finds Shuts st read set logs truth
      (shown Sure devices areas rows before now logs truth more log Shuts (λ d s apart sure. as_before Sure Sure_then before now (record log { work = Shuts }) bytes read set d s apart) st)
      (λ d s matters free. let apart = gates_apart Sure devices areas rows before logs truth more log st d s matters in (apart, st.sure d s matters apart))
