-- Blocks at places of disks, and in homes.
use Rattle.std.proofs.Common.{◌≡◌, ℕ, ◌+◌, Bool, List, length, sym, ap, ◌∙◌}
use Rattle.bx_disk.specs.Disks.{Image}
use Rattle.bx_calls.specs.Regions.{ReadsAs}
use Rattle.bx_layout.specs.declared.block.Block.{Block}
use Rattle.bx_layout.specs.Blocks.{SpellsBlock, block_text}
use Rattle.bx_places.specs.Places.{block_place}
use Rattle.bx_volume.specs.Images.{devices_of, member_disk}
use Rattle.bx_volume.specs.Overlay.{IsHome}
use Rattle.bx_volume.proofs.OneTruth.{one_block, one_text}
use Rattle.bx_volume.proofs.Sizes.{block_bytes}
use Rattle.bx_homes.specs.Standing.{BlockStandsAt}

-- bytes that are read there spell the block that stands there
pub spelled : (image : Image) (disk sector : ℕ) (bytes : List ℕ) (block : Block) → BlockStandsAt image disk sector block → length bytes ≡ 4608 → ReadsAs image disk sector bytes → SpellsBlock block bytes
spelled image disk sector bytes block stands long reads = record {
  is = stands.is;
  parts = one_text image disk sector 9 bytes (block_text block) long (block_bytes block stands.is) reads stands.reads;
}

-- there is one
pub one_there : (image : Image) (disk sector : ℕ) (a b : Block) → BlockStandsAt image disk sector a → BlockStandsAt image disk sector b → a ≡ b
one_there image disk sector a b is_a is_b =
    one_block a b is_a.is is_b.is (one_text image disk sector 9 (block_text a) (block_text b) (block_bytes a is_a.is) (block_bytes b is_b.is) is_a.reads is_b.reads)

module _ (image : Image) (second : Bool) (devices at disk sector : ℕ) (block : Block)
    (same_disk : disk ≡ member_disk (block_place at devices).0 second) (same_sector : sector ≡ (block_place at devices).1) where
  there : (i : ℕ) → image disk (sector + i) ≡ image (member_disk (block_place at devices).0 second) ((block_place at devices).1 + i)
  there i = ap (λ (d : ℕ). image d (sector + i)) same_disk ∙ ap (λ (s : ℕ). image (member_disk (block_place at devices).0 second) (s + i)) same_sector

  pub home_there : IsHome (devices_of image (λ device sector. second)) devices at block → BlockStandsAt image disk sector block
  home_there home = record { is = home.is; reads = record { each = λ i less. there i ∙ home.reads.each i less } }

  pub there_home : BlockStandsAt image disk sector block → IsHome (devices_of image (λ device sector. second)) devices at block
  there_home stands = record { is = stands.is; reads = record { each = λ i less. sym (there i) ∙ stands.reads.each i less } }
