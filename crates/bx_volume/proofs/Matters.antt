-- The truth depends on the sectors that matter, and on no others.
use Rattle.std.proofs.Common.{◌≡◌, ℕ, ◌+◌, ◌<◌, ◌≤◌, arith, Bool, true, false, List, [], ◌∷◌, length, sym, ◌∙◌, subst, refl}
use Rattle.bx_disk.specs.Disks.{Image, Disks, IsImage}
use Rattle.bx_rows.specs.declared.session.SessionRow.{SessionRow}
use Rattle.bx_layout.specs.declared.block.Block.{Block}
use Rattle.bx_layout.specs.Labels.{IsOpenGate}
use Rattle.bx_places.specs.Places.{IsBlock, block_place, gate_place, body_place}
use Rattle.bx_volume.specs.Images.{devices_of, member_disk}
use Rattle.bx_volume.specs.Records.{Logged, StandOpen, IsLog, LogWhere, gate_of}
use Rattle.bx_rows.specs.Words.{is_taken}
use Rattle.bx_truth.specs.bx_views.specs.Truths.{Truth}
use Rattle.bx_volume.specs.Overlay.{Logs, IsOverlaidTruth, IsHome, IsUnlogged, Matters, Gate, Body, Home, filled_of}
use Rattle.bx_volume.proofs.Kept.{has_log}
use Rattle.bx_volume.proofs.Sizes.{block_bytes, filled_below, filled_there, logged_sectors}

module _ (held now : Image) (devices areas : ℕ) (rows : List SessionRow) (logs : Logs) (truth : Truth)
    (same : (d s : ℕ) → Matters devices areas logs d s → now d s ≡ held d s) where
  home_same : (at : ℕ) → IsBlock areas at → IsUnlogged logs at → (block : Block) → IsHome held devices at block → IsHome now devices at block
  home_same at is unlogged block home = record {
    is = home.is;
    reads = record { each = λ i less. same (block_place at devices).0 ((block_place at devices).1 + i) (Home at i is unlogged (let long = block_bytes block home.is in omega (arith, less, long))) ∙ home.reads.each i less };
  }

  stand_same : (slot : ℕ) → slot < 8 → (records : List Logged) → length records ≤ length (logs slot) → length records ≤ 8
      → ((k : ℕ) → k < length records → filled_of (logs slot) k ≡ filled_of records k)
      → StandOpen held devices areas slot records → StandOpen now devices areas slot records
  stand_same slot less [] few most fills stand = tt
  stand_same slot less (newest ∷ older) few most fills stand = (
    subst IsOpenGate (sym (same (gate_place slot (length older) devices).0 (gate_place slot (length older) devices).1 (Gate slot (length older) less (omega (arith, most)) (omega (arith, few))))) stand.0,
    record {
      is = stand.1.is;
      reads = record {
        each = λ i within.
            same (body_place slot (length older) devices).0 ((body_place slot (length older) devices).1 + i)
            (Body slot (length older) i less (omega (arith, few)) (let small = logged_sectors areas newest stand.1.is in omega (arith, within, small))
            (let there = fills (length older) (omega arith) in let own = filled_there older newest (length older) refl in omega (arith, within, there, own)))
            ∙ stand.1.reads.each i within;
      };
    },
    stand_same slot less older (omega (arith, few)) (omega (arith, most)) (λ k below. fills k (omega (arith, below)) ∙ filled_below older newest k below) stand.2,
  )

  log_same : (slot : ℕ) → slot < 8 → IsLog held devices areas slot (logs slot) → IsLog now devices areas slot (logs slot)
  log_same slot less log = record {
    most = log.most;
    stand = stand_same slot less (logs slot) (omega arith) log.most (λ k below. refl) log.stand;
    end = λ few is_open. log.end few (subst IsOpenGate (same (gate_place slot (length (logs slot)) devices).0 (gate_place slot (length (logs slot)) devices).1 (Gate slot (length (logs slot)) less few (omega arith))) is_open);
  }

  pub truth_same : IsOverlaidTruth held devices areas rows logs truth → IsOverlaidTruth now devices areas rows logs truth
  truth_same was = record {
    has_logs = λ slot less. has_log rows held now devices areas slot (logs slot) (log_same slot less) (was.has_logs slot less);
    logged = was.logged;
    home = λ at is unlogged. home_same at is unlogged (truth at) (was.home at is unlogged);
  }

-- what a crash leaves is the same truth, where all that matters is sure
pub image_truth : (disks : Disks) (image : Image) (second : ℕ → ℕ → Bool) (devices areas : ℕ) (rows : List SessionRow) (logs : Logs) (truth : Truth)
    → IsImage disks image → ((d s : ℕ) → Matters devices areas logs d s → disks.unsure (member_disk d (second d s)) s ≡ false)
    → IsOverlaidTruth (devices_of disks.reads second) devices areas rows logs truth → IsOverlaidTruth (devices_of image second) devices areas rows logs truth
image_truth disks image second devices areas rows logs truth is sure =
    truth_same (devices_of disks.reads second) (devices_of image second) devices areas rows logs truth (λ d s matters. is.sure (member_disk d (second d s)) s (sure d s matters))

-- where the first gates are closed, the truth is what stands in the homes
pub homes_truth : (held : Image) (devices areas : ℕ) (rows : List SessionRow) (truth : Truth) → ((at : ℕ) → IsBlock areas at → IsHome held devices at (truth at))
    → ((slot : ℕ) → slot < 8 → IsOpenGate (gate_of held devices slot 0) → ⊥) → IsOverlaidTruth held devices areas rows (λ slot. []) truth
homes_truth held devices areas rows truth homes closed = record {
  has_logs = λ slot less. by slot less (is_taken rows slot);
  logged = λ slot at block less some. absurd cc;
  home = λ at is unlogged. homes at is;
}
  where
    by : (slot : ℕ) → slot < 8 → (taken : Bool) → LogWhere taken held devices areas slot []
    by slot less true = record { most = omega arith; stand = tt; end = λ few. closed slot less }
    by slot less false = refl
