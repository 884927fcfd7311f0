-- What a write of one region leaves of logs and homes.
use Rattle.std.proofs.Common.{◌≡◌, ℕ, ◌+◌, ◌<◌, ◌≤◌, ◌⊎◌, ⊎_elim, inl, inr, arith, List, [], ◌∷◌, length, sym, subst, true, false, Bool}
use Rattle.std.specs.Prelude.{◌≢◌}
use Rattle.bx_disk.specs.Disks.{Image}
use Rattle.bx_rows.specs.declared.session.SessionRow.{SessionRow}
use Rattle.bx_rows.specs.Words.{is_taken}
use Rattle.bx_layout.specs.declared.block.Block.{Block}
use Rattle.bx_layout.specs.Blocks.{block_text}
use Rattle.bx_layout.specs.Labels.{IsOpenGate}
use Rattle.bx_places.specs.Places.{AreApart, block_place, log_start, log_device, gate_place, body_place}
use Rattle.bx_volume.specs.Records.{Logged, IsInBody, StandOpen, IsLog, HasLog, LogWhere, gate_of, logged_text}
use Rattle.bx_volume.specs.Overlay.{IsHome, WritesOnly}
use Rattle.bx_volume.proofs.Apart.{outside, reads_apart}
use Rattle.bx_volume.proofs.Sizes.{length-block_text, logged_sectors}
use Rattle.bx_truth.proofs.Cases.{same_or}

pub home_kept : (held now : Image) (device sector count devices at : ℕ) (block : Block) → WritesOnly held now device sector count
    → ((block_place at devices).0 ≡ device → AreApart sector count (block_place at devices).1 9) → IsHome held devices at block → IsHome now devices at block
home_kept held now device sector count devices at block only apart home = record {
  is = home.is;
  reads = reads_apart held now device sector count (block_place at devices).0 (block_place at devices).1 (block_text block) only
      (λ same. subst (AreApart sector count (block_place at devices).1) (sym (length-block_text block home.is)) (apart same)) home.reads;
}

-- a region that is apart from these sectors
abbrev pub IsApart : ℕ → ℕ → ℕ → ℕ → ℕ → ℕ → Type 0
IsApart device sector count d s n = d ≡ device → AreApart sector count s n

module _ (held now : Image) (device sector count devices areas slot : ℕ) where
  pub gate_kept : (gate : ℕ) → WritesOnly held now device sector count → IsApart device sector count (gate_place slot gate devices).0 (gate_place slot gate devices).1 1
      → gate_of now devices slot gate ≡ gate_of held devices slot gate
  gate_kept gate only apart = outside device sector count (λ d s. now d s ≡ held d s) (gate_place slot gate devices).0 (gate_place slot gate devices).1 only (side (same_or (gate_place slot gate devices).0 device))
    where
      side : ((gate_place slot gate devices).0 ≡ device) ⊎ ((gate_place slot gate devices).0 ≢ device)
          → ((gate_place slot gate devices).0 ≢ device) ⊎ (((gate_place slot gate devices).1 < sector) ⊎ (sector + count ≤ (gate_place slot gate devices).1))
      side (inl same) = inr (⊎_elim (λ before. inr (omega (arith, before))) (λ behind. inl (omega (arith, behind))) (apart same))
      side (inr other) = inl other

  pub body_kept : (body : ℕ) (logged : Logged) → WritesOnly held now device sector count → IsApart device sector count (body_place slot body devices).0 (body_place slot body devices).1 145
      → IsInBody held devices areas slot body logged → IsInBody now devices areas slot body logged
  body_kept body logged only apart there = record {
    is = there.is;
    reads = reads_apart held now device sector count (body_place slot body devices).0 (body_place slot body devices).1 (logged_text logged) only
        (λ same. let small = logged_sectors areas logged there.is in ⊎_elim (λ before. inl (omega (arith, before))) (λ behind. inr (omega (arith, behind, small))) (apart same)) there.reads;
  }

  -- all gates and bodies up to here are apart from the region
  pub stand_kept : (records : List Logged) → WritesOnly held now device sector count
      → ((k : ℕ) → k < length records → IsApart device sector count (gate_place slot k devices).0 (gate_place slot k devices).1 1)
      → ((k : ℕ) → k < length records → IsApart device sector count (body_place slot k devices).0 (body_place slot k devices).1 145)
      → StandOpen held devices areas slot records → StandOpen now devices areas slot records
  stand_kept [] only gates bodies stand = tt
  stand_kept (newest ∷ older) only gates bodies stand = (
    subst IsOpenGate (sym (gate_kept (length older) only (gates (length older) (omega arith)))) stand.0,
    body_kept (length older) newest only (bodies (length older) (omega arith)) stand.1,
    stand_kept older only (λ k less. gates k (omega (arith, less))) (λ k less. bodies k (omega (arith, less))) stand.2,
  )

  pub log_kept : (records : List Logged) → WritesOnly held now device sector count
      → ((k : ℕ) → k ≤ length records → k < 8 → IsApart device sector count (gate_place slot k devices).0 (gate_place slot k devices).1 1)
      → ((k : ℕ) → k < length records → IsApart device sector count (body_place slot k devices).0 (body_place slot k devices).1 145)
      → IsLog held devices areas slot records → IsLog now devices areas slot records
  log_kept records only gates bodies log = record {
    most = log.most;
    stand = stand_kept records only (λ k less. gates k (omega (arith, less)) (omega (arith, less, log.most))) bodies log.stand;
    end = λ less gate_open. log.end less (subst IsOpenGate (gate_kept (length records) only (gates (length records) (omega arith) less)) gate_open);
  }

-- a log whose device or sectors are others
pub log_apart : (held now : Image) (device sector count devices areas slot : ℕ) (records : List Logged) → WritesOnly held now device sector count
    → IsApart device sector count (log_device slot devices) (log_start slot) 1168
    → IsLog held devices areas slot records → IsLog now devices areas slot records
log_apart held now device sector count devices areas slot records only apart log =
    log_kept held now device sector count devices areas slot records only
    (λ k le less same. ⊎_elim (λ before. inl (omega (arith, before))) (λ behind. inr (omega (arith, behind, less))) (apart same))
    (λ k less same. let most = log.most in ⊎_elim (λ before. inl (omega (arith, before))) (λ behind. inr (omega (arith, behind, less, most))) (apart same))
    log

pub has_log : (rows : List SessionRow) (held now : Image) (devices areas slot : ℕ) (records : List Logged)
    → (IsLog held devices areas slot records → IsLog now devices areas slot records) → HasLog rows held devices areas slot records → HasLog rows now devices areas slot records
has_log rows held now devices areas slot records keeps = by (is_taken rows slot)
  where
    by : (taken : Bool) → LogWhere taken held devices areas slot records → LogWhere taken now devices areas slot records
    by true log = keeps log
    by false none = none
