-- Slices of the bytes of a body: the sectors that they have, and what is read of them.
use Rattle.std.proofs.Common.{◌≡◌, ℕ, ◌+◌, ◌-◌, ◌*◌, ◌<◌, ◌≤◌, arith, List, length, take, drop, length-drop, sym, ap, ◌∙◌, refl}
use Rattle.std.proofs.lemmas.List.{drop-drop, drop-take, length-take, take-take}
use Rattle.bx_disk.specs.Disks.{sector_of}
use Rattle.bx_logs.specs.bx_homes.specs.Standing.{BlockStandsAt}
use Rattle.bx_layout.specs.declared.block.Block.{Block}
use Rattle.bx_layout.specs.Blocks.{SpellsBlock, block_text}
use Rattle.bx_redo.specs.bx_volume.proofs.OneTruth.{same_sectors}
use Rattle.bx_redo.specs.bx_volume.proofs.Sizes.{block_bytes}
use Rattle.bx_recover.specs.Bodies.{held_in}

pub first_sector : (bytes : List ℕ) → sector_of bytes 0 ≡ take 512 bytes
unfolding sector_of
first_sector bytes = refl

-- so many bytes from a place on are nine sectors from one on
module _ (bytes : List ℕ) (from count sector : ℕ) (begins : from ≡ 512 * sector) (nine : count ≡ 4608) where
  slice_sector : (i : ℕ) → i < 9 → sector_of (take count (drop from bytes)) i ≡ sector_of bytes (sector + i)
  unfolding sector_of
  slice_sector i less =
      let parts : count ≡ 512 * i + (4608 - 512 * i) = omega (arith, nine, less) in
      let there : from + 512 * i ≡ 512 * (sector + i) = omega (arith, begins) in
      ap (λ (n : ℕ). take 512 (drop (512 * i) (take n (drop from bytes)))) parts
      ∙ ap (take 512) (drop-take (512 * i) (4608 - 512 * i) (drop from bytes))
      ∙ take-take 512 (4608 - 512 * i) (drop (512 * i) (drop from bytes)) (omega (arith, less))
      ∙ ap (take 512) (drop-drop (512 * i) from bytes)
      ∙ ap (λ (n : ℕ). take 512 (drop n bytes)) there

  pub block_there : (block : Block) → SpellsBlock block (take count (drop from bytes)) → BlockStandsAt (held_in bytes) 0 sector block
  block_there block spells = record {
    is = spells.is;
    reads = record { each = λ i less. sym (slice_sector i (omega (arith, less, block_bytes block spells.is))) ∙ ap (λ (l : List ℕ). sector_of l i) spells.parts };
  }

  pub block_spelled : (block : Block) → from + 4608 ≤ length bytes → BlockStandsAt (held_in bytes) 0 sector block → SpellsBlock block (take count (drop from bytes))
  block_spelled block room stands = record {
    is = stands.is;
    parts = same_sectors 9 (take count (drop from bytes)) (block_text block) long (block_bytes block stands.is)
        (λ i less. slice_sector i less ∙ stands.reads.each i (omega (arith, less, block_bytes block stands.is)));
  }
    where
      long : length (take count (drop from bytes)) ≡ 4608
      long = simp (length-take, length-drop) (omega (arith, room, nine))
