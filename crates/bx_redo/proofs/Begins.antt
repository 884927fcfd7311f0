-- How a log begins: that of a slot whose log was found, and that of a rack at rest. What a crash of disks leaves.
use Rattle.std.proofs.Common.{◌≡◌, ℕ, zero, suc, ◌+◌, ◌<◌, arith, Bool, true, false, List, [], length, sym, ap, ◌∙◌, subst, refl}
use Rattle.std.specs.Prelude.{◌==◌, if◌then◌else◌}
use Rattle.bx_disk.specs.Disks.{Image, Disks}
use Rattle.bx_calls.specs.Regions.{ReadsAs}
use Rattle.bx_facts.specs.Disks.{IsKept}
use Rattle.bx_facts.specs.Writes.{IsSettled, IsSourceIn, member_disk}
use Rattle.bx_global.specs.declared.state.GlobalState.{GlobalState}
use Rattle.bx_layout.specs.declared.label.Label.{Label}
use Rattle.bx_places.specs.Places.{IsVolume, log_start, log_device, gate_place}
use Rattle.bx_rows.specs.declared.session.SessionRow.{SessionRow}
use Rattle.bx_rows.specs.Words.{is_taken}
use Rattle.bx_volume.specs.bx_truth.proofs.Cases.{eq_false}
use Rattle.bx_volume.specs.bx_views.specs.Truths.{Truth}
use Rattle.bx_volume.specs.AtRest.{IsAtRest}
use Rattle.bx_volume.specs.Images.{devices_of}
use Rattle.bx_volume.specs.Overlay.{Logs, Matters, Gate, Body, Home, with_log}
use Rattle.bx_volume.specs.Records.{Logged}
use Rattle.bx_volume.proofs.Matters.{homes_truth}
use Rattle.bx_volume.proofs.OneStands.{on_device}
use Rattle.bx_volume.proofs.Sizes.{block_bytes}
use Rattle.bx_redo.specs.Found.{AreGatesRead}
use Rattle.bx_redo.specs.View.{LogView}
use Rattle.bx_redo.specs.Stands.{LogStands, IsFound, AreHome}
use Rattle.bx_redo.specs.Steps.{closed_log, found_log}
use Rattle.bx_redo.specs.declared.work.Work.{Work}
use Rattle.bx_redo.specs.declared.work.Work.TheVariants.{Closes, Shuts}
use Rattle.bx_redo.proofs.Homes.{gate_sure}
use Rattle.bx_redo.proofs.Settled.{one_disk}
use Rattle.bx_redo.proofs.Within.{part, within_is, within_it}

module _ (Sure : ℕ → ℕ → List ℕ → Type 0) (devices areas : ℕ) (rows : List SessionRow) (before : Image) (logs : Logs) (truth : Truth) (more : Logged) (slot : ℕ)
    (found : IsFound Sure devices areas rows before logs truth more slot) where
  closing : (count : ℕ) → length (logs slot) ≡ count → (work : Work) → LogStands Sure devices areas rows before logs truth more (record { slot = slot; device = log_device slot devices; count = count; work = work; out = false })
      → (if count == 0 then Shuts else Closes) ≡ work → LogStands Sure devices areas rows before logs truth more (found_log slot (log_device slot devices) count)
  closing count is work st same =
      subst (λ (w : Work). LogStands Sure devices areas rows before logs truth more (record { slot = slot; device = log_device slot devices; count = count; work = w; out = false })) (sym same) st

  -- its closing is under way
  pub found_closes : AreHome before devices areas logs slot
      → ((d s : ℕ) → Matters devices areas (with_log logs slot []) d s → Sure d s (before d s))
      → LogStands Sure devices areas rows before logs truth more (found_log slot (log_device slot devices) (length (logs slot)))
  found_closes home sure = by (length (logs slot)) refl
    where
      by : (count : ℕ) → length (logs slot) ≡ count → LogStands Sure devices areas rows before logs truth more (found_log slot (log_device slot devices) count)
      by zero is = record {
        volume = found.volume;
        is_slot = found.is_slot;
        on_device = refl;
        taken = found.taken;
        is_truth = found.is_truth;
        run = is;
        sure = λ d s matters apart. found.sure d s matters;
        own = λ d s gate apart. gate_sure Sure devices areas rows before logs truth more (record { slot = slot; device = log_device slot devices; count = 0; work = Shuts; out = false }) found refl d s gate;
        finds = refl;
      }
      by (suc n) is = closing (suc n) is Closes (record {
        volume = found.volume;
        is_slot = found.is_slot;
        on_device = refl;
        taken = found.taken;
        is_truth = found.is_truth;
        run = is;
        sure = λ d s matters apart. found.sure d s matters;
        own = λ d s gate apart. gate_sure Sure devices areas rows before logs truth more (record { slot = slot; device = log_device slot devices; count = suc n; work = Closes; out = false }) found refl d s gate;
        finds = record { some = omega arith; home = home; sure = λ d s matters apart. sure d s matters };
      }) (ap (λ (b : Bool). if b then Shuts else Closes) (eq_false (suc n) 0 (λ e. omega (arith, e))))

-- what was sure and is so still, is settled still
pub kept_settled : (disks disks_then : Disks) (state : GlobalState) → ((d s : ℕ) → disks.unsure d s ≡ false → IsKept disks disks_then d s)
    → (d s : ℕ) (content : List ℕ) → IsSettled disks state d s content → IsSettled disks_then state d s content
kept_settled disks disks_then state kept d s content was = record {
  there = was.there;
  reads = λ second source. (kept (member_disk d second) s (was.sure second source)).reads ∙ was.reads second source;
  sure = λ second source. (kept (member_disk d second) s (was.sure second source)).sure (was.sure second source);
}

-- gates that are read off a source stand there, where they aren't being written
pub read_as_before : (disks : Disks) (state : GlobalState) (devices areas : ℕ) (rows : List SessionRow) (before : Image) (logs : Logs) (truth : Truth) (more : Logged) (log : LogView) (second : Bool) (bytes : List ℕ)
    → LogStands (IsSettled disks state) devices areas rows before logs truth more log
    → IsSourceIn state log.device second → length bytes ≡ 4096 → ReadsAs disks.reads (member_disk log.device second) (log_start log.slot) bytes
    → AreGatesRead before log bytes
read_as_before disks state devices areas rows before logs truth more log second bytes st source long reads = record {
  long = long;
  each = λ gate place apart.
      sym (reads.each gate (omega (arith, place, long)))
      ∙ (st.own log.device (log_start log.slot + gate)
      (within_it log.device (log_start log.slot) 8 log.device (log_start log.slot + gate) refl (omega arith) (omega (arith, place))) apart).reads second source;
}

module _ (disks : Disks) (state : GlobalState) (first : Label) (truth : Truth) (rest : IsAtRest disks (λ image told. told ≡ state) first truth)
    (alike : (slot gate : ℕ) → slot < 8 → gate < 8
    → disks.reads (member_disk (log_device slot first.devices) true) (log_start slot + gate) ≡ disks.reads (member_disk (log_device slot first.devices) false) (log_start slot + gate)) where
  -- what devices hold, read off their first members
  abbrev content : Image
  content = devices_of disks.reads (λ device sector. false)

  -- a sector that both members have alike is settled
  settled_at : (d s : ℕ) → d < first.devices → disks.reads (member_disk d true) s ≡ disks.reads (member_disk d false) s → IsSettled disks state d s (content d s)
  settled_at d s there same = record {
    there = let many = rest.state state refl in omega (arith, there, many);
    reads = λ second source. by second;
    sure = λ second source. rest.sure (member_disk d second) s;
  }
    where
      first_is : disks.reads (member_disk d false) s ≡ content d s
      first_is = ap (λ (n : ℕ). disks.reads n s) (sym (one_disk d false))

      by : (second : Bool) → disks.reads (member_disk d second) s ≡ content d s
      by false = first_is
      by true = same ∙ first_is

  gate_settled : (slot gate : ℕ) → slot < 8 → gate < 8 → log_device slot first.devices < first.devices
      → IsSettled disks state (log_device slot first.devices) (log_start slot + gate) (content (log_device slot first.devices) (log_start slot + gate))
  gate_settled slot gate less place there = settled_at (log_device slot first.devices) (log_start slot + gate) there (alike slot gate less place)

  settled_here : (d s : ℕ) → Matters first.devices first.areas (λ slot. []) d s → d < first.devices → IsSettled disks state d s (content d s)
  settled_here d s (Gate slot gate less place few) there = gate_settled slot gate less place there
  settled_here d s (Body slot body sector less few within fills) there = absurd (omega (arith, few))
  settled_here d s (Home at sector is unlogged within) there = settled_at d s there
      (let a = rest.homes (λ device sector. true) at is in
      let b = rest.homes (λ device sector. false) at is in
      let long = block_bytes (truth at) b.is in
      ap (λ (n : ℕ). disks.reads n s) (sym (one_disk d true)) ∙ a.reads.each sector (omega (arith, within, long))
      ∙ sym (b.reads.each sector (omega (arith, within, long))) ∙ ap (λ (n : ℕ). disks.reads n s) (one_disk d false))

  volume_is : IsVolume first.devices first.areas
  volume_is = let is = rest.is_first.own.spells.is in
      record { least_devices = is.least_devices; most_devices = is.most_devices; least_areas = is.least_areas; most_areas = is.most_areas }

  -- the log of a slot, closed
  pub rest_stands : (more : Logged) (slot : ℕ) → slot < 8 → is_taken state.sessions slot ≡ true
      → LogStands (IsSettled disks state) first.devices first.areas state.sessions content (λ slot. []) truth more (closed_log slot (log_device slot first.devices))
  rest_stands more slot less taken = record {
    volume = volume_is;
    is_slot = less;
    on_device = refl;
    taken = taken;
    is_truth = homes_truth content first.devices first.areas state.sessions truth (rest.homes (λ device sector. false)) (λ other there. rest.gates (λ device sector. false) other 0 there (omega arith));
    run = refl;
    sure = λ d s matters apart. settled_here d s matters (on_device first.devices first.areas (λ slot. []) volume_is.least_devices d s matters);
    own = λ d s gate apart.
        let w = within_is (log_device slot first.devices) (log_start slot) 8 d s gate in
        let which : (n : ℕ) × (s ≡ log_start slot + n) × (n < 8) = part (log_start slot) s w.begins w.ends in
        subst (λ (x : ℕ × ℕ). IsSettled disks state x.0 x.1 (content x.0 x.1)) (λ i. (sym w.on i, sym which.1 i))
        (gate_settled slot which.0 less which.2 (on_device first.devices first.areas (λ slot. []) volume_is.least_devices (gate_place slot 0 first.devices).0 (gate_place slot 0 first.devices).1 (Gate slot 0 less (omega arith) (omega arith))));
    finds = λ gate le place. rest.gates (λ device sector. false) slot gate less place;
  }
