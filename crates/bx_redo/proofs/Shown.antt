-- What each image has while a log is at work.
use Rattle.std.proofs.Common.{◌≡◌, ℕ, ◌+◌, ◌*◌, ◌/◌, ◌<◌, ◌≤◌, ◌⊎◌, ⊎_elim, inl, inr, arith, false, List, length, sym, ap, ◌∙◌, subst}
use Rattle.std.specs.Prelude.{◌≢◌}
use Rattle.bx_disk.specs.Disks.{Image, is_within}
use Rattle.bx_places.specs.Places.{log_start, log_device, gate_place}
use Rattle.bx_rows.specs.declared.session.SessionRow.{SessionRow}
use Rattle.bx_volume.specs.bx_truth.proofs.Cases.{same_or}
use Rattle.bx_volume.specs.bx_views.specs.Truths.{Truth}
use Rattle.bx_volume.specs.Overlay.{Logs, Matters, MattersMore}
use Rattle.bx_volume.specs.Records.{Logged, IsInBody}
use Rattle.bx_volume.proofs.Doubt.{gate_in_doubt, closing_in_doubt}
use Rattle.bx_volume.proofs.GateOut.{matters_more}
use Rattle.bx_volume.proofs.Matters.{truth_same}
use Rattle.bx_base.specs.declared.names.Point.{Point}
use Rattle.bx_volume.proofs.Sizes.{logged_sectors}
use Rattle.bx_redo.specs.View.{LogView}
use Rattle.bx_redo.specs.Stands.{LogStands, Shows, is_written}
use Rattle.bx_redo.specs.declared.work.Work.{Work}
use Rattle.bx_redo.specs.declared.work.Work.TheVariants.{Idle, Body, Opens, Closes, Shuts}
use Rattle.bx_redo.proofs.Own.{most_of, own, IsOwnGate, IsOwnBody}
use Rattle.bx_redo.proofs.Within.{elsewhere, before_it, behind_it, within_it}

-- a sector on which the truth depends isn't behind the run
module _ (devices areas : ℕ) (logs : Logs) (most : (slot : ℕ) → slot < 8 → length (logs slot) ≤ 8) (slot : ℕ) (less : slot < 8) where
  -- in bodies behind it
  pub not_in_body : (d s count : ℕ) → count ≤ 145 → length (logs slot) < 8 → Matters devices areas logs d s
      → is_within (log_device slot devices) (log_start slot + 8 + 145 * length (logs slot)) count d s ≡ false
  not_in_body d s count few room matters = by (same_or d (log_device slot devices))
    where
      from : ℕ
      from = log_start slot + 8 + 145 * length (logs slot)

      place : (s < from) ⊎ (from ≤ s) → is_within (log_device slot devices) from count d s ≡ false
      place (inl below) = before_it (log_device slot devices) from count d s below
      place (inr above) = side (last s (from + count))
        where
          last : (n m : ℕ) → (n < m) ⊎ (m ≤ n)
          last n m = grind arith

          here : (s < from + count) → ⊥
          here within = ⊎_elim
              (λ (g : IsOwnGate slot (length (logs slot)) s). let e = g.is in let p = g.place in omega (arith, above, e, p))
              (λ (b : IsOwnBody slot (length (logs slot)) s). let e = b.is in let p = b.few in let w = b.within in omega (arith, above, e, p, w))
              (own devices areas logs most slot less d s matters (omega (arith, above)) (omega (arith, within, few, room)))

          side : (s < from + count) ⊎ (from + count ≤ s) → is_within (log_device slot devices) from count d s ≡ false
          side (inl within) = absurd (here within)
          side (inr behind) = behind_it (log_device slot devices) from count d s behind

      split : (n m : ℕ) → (n < m) ⊎ (m ≤ n)
      split n m = grind arith

      by : (d ≡ log_device slot devices) ⊎ (d ≢ log_device slot devices) → is_within (log_device slot devices) from count d s ≡ false
      by (inr other) = elsewhere (log_device slot devices) from count d s other
      by (inl same) = place (split s from)

  -- in the gates behind the first, where the log has no record
  pub not_in_gates : (d s : ℕ) → length (logs slot) ≡ 0 → Matters devices areas logs d s → is_within (log_device slot devices) (log_start slot + 1) 7 d s ≡ false
  not_in_gates d s none matters = place (split s (log_start slot + 1)) (split s (log_start slot + 8))
    where
      split : (n m : ℕ) → (n < m) ⊎ (m ≤ n)
      split n m = grind arith

      place : (s < log_start slot + 1) ⊎ (log_start slot + 1 ≤ s) → (s < log_start slot + 8) ⊎ (log_start slot + 8 ≤ s)
          → is_within (log_device slot devices) (log_start slot + 1) 7 d s ≡ false
      place (inl below) any = before_it (log_device slot devices) (log_start slot + 1) 7 d s below
      place (inr above) (inr behind) = behind_it (log_device slot devices) (log_start slot + 1) 7 d s (omega (arith, behind))
      place (inr above) (inl within) = absurd (⊎_elim
          (λ (g : IsOwnGate slot (length (logs slot)) s). let e = g.is in let p = g.few in omega (arith, above, e, p, none))
          (λ (b : IsOwnBody slot (length (logs slot)) s). let p = b.few in omega (arith, p, none))
          (own devices areas logs most slot less d s matters (omega (arith, above)) (omega (arith, within))))

module _ (Sure : ℕ → ℕ → List ℕ → Type 0) (devices areas : ℕ) (rows : List SessionRow) (before : Image) (logs : Logs) (truth : Truth) (more : Logged) where
  -- what is written of a body doesn't matter, and neither do the gates behind the first while they are closed
  pub body_apart : (log : LogView) (text : List ℕ) (point : Point) → LogStands Sure devices areas rows before logs truth more (record log { work = Body text point })
      → (d s : ℕ) → Matters devices areas logs d s → is_within log.device (log_start log.slot + 8 + 145 * log.count) (length text / 512) d s ≡ false
  body_apart log text point st d s matters =
      let few = logged_sectors areas more st.finds.1.is in
      let long = ap (λ (t : List ℕ). length t / 512) st.finds.0 in
      let r = st.run in
      let room = st.finds.1.room in
      subst (λ (n : ℕ). is_within n (log_start log.slot + 8 + 145 * log.count) (length text / 512) d s ≡ false) (sym st.on_device)
      (subst (λ (n : ℕ). is_within (log_device log.slot devices) (log_start log.slot + 8 + 145 * n) (length text / 512) d s ≡ false) st.run
      (not_in_body devices areas logs (most_of before devices areas rows logs truth st.is_truth) log.slot st.is_slot d s (length text / 512)
      (omega (arith, few, long)) (omega (arith, r, room)) matters))

  pub gates_apart : (log : LogView) → LogStands Sure devices areas rows before logs truth more (record log { work = Shuts })
      → (d s : ℕ) → Matters devices areas logs d s → is_within log.device (log_start log.slot + 1) 7 d s ≡ false
  gates_apart log st d s matters =
      subst (λ (n : ℕ). is_within n (log_start log.slot + 1) 7 d s ≡ false) (sym st.on_device)
      (not_in_gates devices areas logs (most_of before devices areas rows logs truth st.is_truth) log.slot st.is_slot d s (st.run ∙ st.finds) matters)

module _ (Sure : ℕ → ℕ → List ℕ → Type 0) (devices areas : ℕ) (rows : List SessionRow) (before now : Image) (logs : Logs) (truth : Truth) (more : Logged) where
  -- a sector that isn't one gate isn't written with it
  not_gate : (device from d s : ℕ) → (d ≢ device) ⊎ (s ≢ from) → is_within device from 1 d s ≡ false
  not_gate device from d s (inl other) = elsewhere device from 1 d s other
  not_gate device from d s (inr other) = ⊎_elim (before_it device from 1 d s) (behind_it device from 1 d s) (sides s from other)
    where
      sides : (n m : ℕ) → n ≢ m → (n < m) ⊎ (m + 1 ≤ n)
      sides n m apart = grind arith

  module _ (log : LogView) (on : log.device ≡ log_device log.slot devices) where
    -- what isn't in the gate behind the run isn't in that of the record under way
    pub other_gate : (count d s : ℕ) → count ≡ log.count → (d ≢ (gate_place log.slot count devices).0) ⊎ (s ≢ (gate_place log.slot count devices).1)
        → is_within log.device (log_start log.slot + log.count) 1 d s ≡ false
    other_gate count d s same apart = not_gate log.device (log_start log.slot + log.count) d s (⊎_elim
        (λ other. inl (λ e. other (e ∙ on)))
        (λ other. inr (λ e. other (omega (arith, e, same)))) apart)

    pub other_first : (d s : ℕ) → (d ≢ (gate_place log.slot 0 devices).0) ⊎ (s ≢ (gate_place log.slot 0 devices).1)
        → is_within log.device (log_start log.slot) 1 d s ≡ false
    other_first d s apart = not_gate log.device (log_start log.slot) d s (⊎_elim
        (λ other. inl (λ e. other (e ∙ on)))
        (λ other. inr (λ e. other (omega (arith, e)))) apart)

  -- where a gate is opened, each other sector on which the truth depends with the record is sure
  pub opening_has : (log : LogView) (point : Point) (st : LogStands Sure devices areas rows before logs truth more (record log { work = Opens point }))
      → log.count < 8 → (d s : ℕ) → MattersMore devices areas logs log.slot more d s → is_within log.device (log_start log.slot + log.count) 1 d s ≡ false → Sure d s (before d s)
  opening_has log point st room d s (inl matters) apart = st.sure d s matters apart
  opening_has log point st room d s (inr (inl (sector, within, device, place))) apart =
      let r = st.run in
      let on = device ∙ sym st.on_device in
      let at : s ≡ log_start log.slot + 8 + 145 * log.count + sector = omega (arith, place, r) in
      subst (λ (x : ℕ × ℕ). Sure x.0 x.1 (before x.0 x.1)) (λ i. (sym on i, sym at i)) (st.finds.2 sector within)
  opening_has log point st room d s (inr (inr (few, device, place))) apart =
      st.own d s (within_it log.device (log_start log.slot) 8 d s (device ∙ sym st.on_device) (omega (arith, place)) (omega (arith, place, few))) apart

  -- a content that has all that was sure and isn't written shows this
  pub shown : (log : LogView) (work : Work) → ((d s : ℕ) → is_written (record log { work = work }) d s ≡ false → Sure d s (before d s) → now d s ≡ before d s)
      → LogStands Sure devices areas rows before logs truth more (record log { work = work })
      → Shows devices areas rows logs truth more now log.slot work
  shown log Idle has st = truth_same before now devices areas rows logs truth
      (λ d s matters. let apart = behind_it log.device 0 0 d s (omega arith) in has d s apart (st.sure d s matters apart)) st.is_truth
  shown log (Body text point) has st = truth_same before now devices areas rows logs truth
      (λ d s matters. let apart = body_apart Sure devices areas rows before logs truth more log text point st d s matters in has d s apart (st.sure d s matters apart)) st.is_truth
  shown log (Opens point) has st =
      gate_in_doubt before now devices areas rows logs truth log.slot more st.is_slot st.taken (omega (arith, st.run, st.finds.1.room))
      (subst (λ (n : ℕ). IsInBody before devices areas log.slot n more) (sym st.run) st.finds.0)
      (λ less. st.finds.1.closed (length (logs log.slot) + 1) (let r = st.run in omega (arith, r)) less)
      st.finds.1.alone
      (λ d s matters apart. let other = other_gate log st.on_device (length (logs log.slot)) d s st.run apart in
      has d s other (opening_has log point st st.finds.1.room d s (inl matters) other))
      (λ d s matters apart. let other = other_gate log st.on_device (length (logs log.slot)) d s st.run apart in
      has d s other (opening_has log point st st.finds.1.room d s (matters_more devices areas logs log.slot more st.is_slot d s matters) other))
      st.is_truth
  shown log Closes has st =
      closing_in_doubt before now devices areas rows logs truth log.slot st.is_slot st.taken (omega (arith, st.run, st.finds.some)) st.finds.home
      (λ d s matters apart. let other = other_first log st.on_device d s apart in has d s other (st.sure d s matters other))
      (λ d s matters apart. let other = other_first log st.on_device d s apart in has d s other (st.finds.sure d s matters other))
      st.is_truth
  shown log Shuts has st = truth_same before now devices areas rows logs truth
      (λ d s matters. let apart = gates_apart Sure devices areas rows before logs truth more log st d s matters in has d s apart (st.sure d s matters apart)) st.is_truth
