-- The records that a recovery read are those of the run that it finds.
use Rattle.std.proofs.Common.{◌≡◌, ◌⊎◌, inl, inr, ℕ, ◌+◌, ◌*◌, ◌/◌, ◌<◌, Bool, true, false, List, ◌∷◌, length, reverse, refl, sym, ◌∙◌, ap, subst, arith}
use Rattle.bx_disk.specs.Disks.{Image, sector_of}
use Rattle.bx_places.specs.Places.{body_place, log_device, log_start}
use Rattle.bx_redo.specs.declared.work.Work.TheVariants as works
use Rattle.bx_redo.proofs.Within.{before_it, behind_it}
use Rattle.bx_rows.specs.declared.session.SessionRow.{SessionRow}
use Rattle.bx_rows.specs.Words.{is_taken}
use Rattle.bx_views.specs.Truths.{Truth}
use Rattle.bx_volume.specs.Overlay.{Logs, filled_of}
use Rattle.bx_volume.specs.Records.{IsLog, Logged}
use Rattle.bx_volume.proofs.Sizes.{filled_below}
use Rattle.bx_world_standing.specs.bx_world_logs.specs.Logs.{Activity, Finds, Found, IsLogOf, LogsStand, OfLog, Slot, SlotStands, opens, writes_in}
use Rattle.bx_world_standing.specs.bx_world_logs.specs.Shown.{IsRun}
use Rattle.bx_node_logs.proofs.Moved.{fills_few}
use Rattle.bx_node_machines.specs.Recovering.{recovery_of}
use Rattle.bx_recover.specs.Done.{HasRun, RecoveryStep, WasRead}
use Rattle.bx_recover.specs.Reading.{AreGates}
use Rattle.bx_recover.specs.Recovering.{reads_body}
use Rattle.bx_recover.specs.declared.stage.Stage.{Stage}
use Rattle.bx_recover.proofs.Logs.{the_log}

module _ (Sure : ℕ → ℕ → List ℕ → Type 0) (devices areas : ℕ) (rows : List SessionRow) (before now : Image) (logs : Logs) (slots : ℕ → Slot) (truth : Truth) (slot : ℕ)
    (less : slot < 8) (taken : is_taken rows slot ≡ true) (st : LogsStand Sure devices areas rows before logs slots truth)
    (same : (d s : ℕ) → writes_in devices slot (length (logs slot)) (slots slot).activity d s ≡ false → now d s ≡ before d s)
    (run : List Logged) (is : IsRun logs slots slot run) (log : IsLog now devices areas slot run) where
  its : IsLogOf Sure devices areas before logs slot (slots slot)
  its = subst (λ (t : Bool). SlotStands Sure devices areas before t logs slot (slots slot)) taken (st.each slot less)

  -- no work writes the body of a record that is open, nor that of the one whose gate is being opened
  body_out : (activity : Activity) → Finds Sure devices areas before logs (slots slot).more slot activity → (body i : ℕ) → (body < length (logs slot)) ⊎ ((body ≡ length (logs slot)) × (opens activity ≡ true)) → i < 145
      → writes_in devices slot (length (logs slot)) activity (log_device slot devices) (log_start slot + 8 + 145 * body + i) ≡ false
  body_out (OfLog works.Idle) finds body i lower few = behind_it (log_device slot devices) 0 0 (log_device slot devices) (log_start slot + 8 + 145 * body + i) (omega arith)
  body_out (OfLog (works.Body text point)) finds body i (inl lower) few =
      before_it (log_device slot devices) (log_start slot + 8 + 145 * length (logs slot)) (length text / 512) (log_device slot devices) (log_start slot + 8 + 145 * body + i) (omega (arith, lower, few))
  body_out (OfLog (works.Body text point)) finds body i (inr last) few = absurd (let e = last.1 in cc)
  body_out (OfLog (works.Opens point)) finds body i lower few =
      behind_it (log_device slot devices) (log_start slot + length (logs slot)) 1 (log_device slot devices) (log_start slot + 8 + 145 * body + i) (let room = finds.1.under_way.room in omega (arith, room))
  body_out (OfLog works.Closes) finds body i lower few = behind_it (log_device slot devices) (log_start slot) 1 (log_device slot devices) (log_start slot + 8 + 145 * body + i) (omega arith)
  body_out (OfLog works.Shuts) finds body i lower few = behind_it (log_device slot devices) (log_start slot + 1) 7 (log_device slot devices) (log_start slot + 8 + 145 * body + i) (omega arith)
  body_out Found finds body i lower few = refl

  -- a body of the run is one of the log's, or that of the record whose gate is being opened; and how far its record fills it
  in_run : (body : ℕ) → body < length run → ((body < length (logs slot)) ⊎ ((body ≡ length (logs slot)) × (opens (slots slot).activity ≡ true))) × (filled_of run body ≡ filled_of ((slots slot).more ∷ logs slot) body)
  in_run body low = by is
    where
      sides : (n : ℕ) → body < n + 1 → (body < n) ⊎ (body ≡ n)
      sides n low = grind (arith, low)

      by : IsRun logs slots slot run → ((body < length (logs slot)) ⊎ ((body ≡ length (logs slot)) × (opens (slots slot).activity ≡ true))) × (filled_of run body ≡ filled_of ((slots slot).more ∷ logs slot) body)
      by (inl e) =
          let long = ap (λ (l : List Logged). length l) e in
          let lower : body < length (logs slot) = omega (arith, low, long) in
          (inl lower, ap (λ (l : List Logged). filled_of l body) e ∙ sym (filled_below (logs slot) (slots slot).more body lower))
      by (inr (inl two)) =
          let long = ap (λ (l : List Logged). length l) two.1 in
          (last_or (sides (length (logs slot)) (omega (arith, low, long))), ap (λ (l : List Logged). filled_of l body) two.1)
        where
          last_or : (body < length (logs slot)) ⊎ (body ≡ length (logs slot)) → (body < length (logs slot)) ⊎ ((body ≡ length (logs slot)) × (opens (slots slot).activity ≡ true))
          last_or (inl lower) = inl lower
          last_or (inr last) = inr (last, two.0)
      by (inr (inr three)) = absurd (let long = ap (λ (l : List Logged). length l) three.1 in omega (arith, low, long))

  bodies_same : (body i : ℕ) → body < length run → i < filled_of run body → now (body_place slot body devices).0 ((body_place slot body devices).1 + i) ≡ before (body_place slot body devices).0 ((body_place slot body devices).1 + i)
  bodies_same body i low fills =
      same (log_device slot devices) (log_start slot + 8 + 145 * body + i)
      (body_out (slots slot).activity its.finds body i (in_run body low).0 (fills_few now devices areas slot run body i log.stand low fills))

  -- Where bodies were read as they stand, as far as their records fill them, the records that were read are those of the run.
  pub read_run : (stage : Stage) (records : List Logged) (steps : List RecoveryStep) (has : HasRun (recovery_of slot devices areas stage records) steps) → AreGates now devices slot has.settled.gates
      → ((body i : ℕ) (bytes : List ℕ) → WasRead steps (reads_body (recovery_of slot devices areas stage records) body) bytes → i < 145
      → (body < length (logs slot)) ⊎ ((body ≡ length (logs slot)) × (opens (slots slot).activity ≡ true)) → i < filled_of ((slots slot).more ∷ logs slot) body
      → sector_of bytes i ≡ before (body_place slot body devices).0 ((body_place slot body devices).1 + i))
      → records ≡ reverse run
  read_run stage records steps has gates bodies =
      the_log now (recovery_of slot devices areas stage records) steps run has gates
      (λ body i bytes came low fills. bodies_same body i low fills
      ∙ sym (bodies body i bytes came (fills_few now devices areas slot run body i log.stand low fills) (in_run body low).0 (subst (λ (n : ℕ). i < n) (in_run body low).1 fills)))
      log
