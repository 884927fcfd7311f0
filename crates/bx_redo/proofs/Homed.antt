-- Once the homes of a log's blocks are written, each is home.
use Rattle.std.proofs.Common.{◌≡◌, ℕ, ◌+◌, ◌-◌, ◌<◌, ⊎_elim, arith, List, sym, ap, ◌∙◌, subst}
use Rattle.std.specs.Prelude.{◌≢◌}
use Rattle.bx_disk.specs.Disks.{Image, sector_of}
use Rattle.bx_facts.specs.Writes.{Writes, WritesIn}
use Rattle.bx_layout.specs.Blocks.{HasParts, block_text}
use Rattle.bx_places.specs.Places.{IsVolume, IsBlock, block_place}
use Rattle.bx_records.specs.declared.runs.Run.{Run}
use Rattle.bx_volume.specs.bx_truth.proofs.Cases.{same_or}
use Rattle.bx_volume.specs.Overlay.{Logs}
use Rattle.bx_volume.specs.Records.{newest_in}
use Rattle.bx_volume.proofs.Apart.{two_homes}
use Rattle.bx_volume.proofs.Sizes.{length-block_text}
use Rattle.bx_redo.specs.Homes.{AreItsHomes, IsItsHome, home_run, with_runs}
use Rattle.bx_redo.specs.Stands.{AreHome}
use Rattle.bx_redo.proofs.HomeRuns.{home_writes, written_or}

module _ (devices areas : ℕ) (logs : Logs) (slot : ℕ) (less : slot < 8) (runs : List Run) (its : AreItsHomes devices areas logs slot runs) where
  -- each block is home then
  pub are_home : (before : Image) → IsVolume devices areas → AreHome (with_runs before runs) devices areas logs slot
  are_home before volume at block is newest =
      let run = its.all at block is newest in
      let h = its.each (home_run devices at block) run in
      let same : h.block ≡ block = one_block h in
      record {
        is = subst HasParts same h.parts;
        reads = record { each = λ i within. here i (let nine = length-block_text block (subst HasParts same h.parts) in omega (arith, within, nine)) };
      }
    where
      one_block : (h : IsItsHome devices areas logs slot (home_run devices at block)) → h.block ≡ block
      one_block h = ⊎_elim
          (λ (e : at ≡ h.at). let n = sym newest ∙ ap (newest_in (logs slot)) e ∙ h.newest in sym (let x : block ≡ h.block = cc in x))
          (λ apart. absurd (far h.at h.is apart (ap (λ (r : Run). r.device) h.run_is) (ap (λ (r : Run). r.place) h.run_is)))
          (same_or at h.at)
        where
          far : (other : ℕ) → IsBlock areas other → at ≢ other → (block_place at devices).0 ≡ (block_place other devices).0 → (block_place at devices).1 ≡ (block_place other devices).1 → ⊥
          far other is_other apart one two = ⊎_elim (λ le. omega (arith, le, two)) (λ le. omega (arith, le, two))
              (two_homes at other devices areas volume is is_other apart one)

      here : (i : ℕ) → i < 9 → with_runs before runs (block_place at devices).0 ((block_place at devices).1 + i) ≡ sector_of (block_text block) i
      here i within = ⊎_elim
          (λ same. let run = its.all at block is newest in
          absurd (same.1 (sector_of (block_text block) ((block_place at devices).1 + i - (block_place at devices).1))
          (home_run devices at block, run, home_writes devices areas logs slot less runs its at block i within (its.each (home_run devices at block) run))))
          (λ (w : WritesIn runs (block_place at devices).0 ((block_place at devices).1 + i) (with_runs before runs (block_place at devices).0 ((block_place at devices).1 + i))).
          its_content (its.each w.0 w.1) (subst (λ (r : Run). Writes r (block_place at devices).0 ((block_place at devices).1 + i) (with_runs before runs (block_place at devices).0 ((block_place at devices).1 + i))) (its.each w.0 w.1).run_is w.2))
          (written_or before runs (block_place at devices).0 ((block_place at devices).1 + i))
        where
          its_content : {run : Run} (h : IsItsHome devices areas logs slot run)
              → Writes (home_run devices h.at h.block) (block_place at devices).0 ((block_place at devices).1 + i) (with_runs before runs (block_place at devices).0 ((block_place at devices).1 + i))
              → with_runs before runs (block_place at devices).0 ((block_place at devices).1 + i) ≡ sector_of (block_text block) i
          its_content h w = ⊎_elim
              (λ (e : at ≡ h.at).
              let n = sym newest ∙ ap (newest_in (logs slot)) e ∙ h.newest in
              let b : h.block ≡ block = sym (let x : block ≡ h.block = cc in x) in
              let index : (block_place at devices).1 + i - (block_place h.at devices).1 ≡ i = let p = ap (λ (x : ℕ). (block_place x devices).1) e in omega (arith, p) in
              sym w.is ∙ (λ j. sector_of (block_text (b j)) (index j)))
              (λ apart.
              let nine = length-block_text h.block h.parts in
              let from = w.from in
              let below = w.below in
              absurd (⊎_elim (λ le. omega (arith, le, from, below, nine, within)) (λ le. omega (arith, le, from, below, nine, within))
              (two_homes at h.at devices areas volume is h.is apart (sym w.on))))
              (same_or at h.at)
