-- What a write of a block into its home, on both members, makes of the blocks that they have.
use Rattle.std.proofs.Common.{◌≡◌, ℕ, ◌+◌, ◌*◌, ◌<◌, ◌≤◌, ◌⊎◌, inl, inr, arith, Bool, true, false, List, length, sym, ap, ◌∙◌, subst, ◌/◌}
use Rattle.std.specs.Prelude.{◌≢◌, slice_index}
use Rattle.std.proofs.lemmas.Bool.Decides.{nat_tests}
use Rattle.bx_disk.specs.Disks.{Image, Disks}
use Rattle.bx_calls.specs.Regions.{ReadsAs}
use Rattle.bx_calls.specs.Calls.{KeepsSure}
use Rattle.bx_layout.specs.declared.block.Block.{Block}
use Rattle.bx_layout.specs.Blocks.{HasParts, block_text}
use Rattle.bx_places.specs.Places.{IsVolume, IsBlock, block_place}
use Rattle.bx_truth.proofs.Cases.{eq_false, eq_true, same_or}
use Rattle.bx_views.specs.Truths.{Truth}
use Rattle.bx_volume.specs.Images.{devices_of, member_disk}
use Rattle.bx_volume.specs.Overlay.{IsHome, WritesOnly}
use Rattle.bx_volume.proofs.Apart.{outside, two_homes}
use Rattle.bx_volume.proofs.Kept.{home_kept}
use Rattle.bx_volume.proofs.Sizes.{length-block_text}
use Rattle.bx_format.specs.Formats.{HasSizes, HoldsBlocks, with_chunk}

-- what one member of each device has
abbrev pub on_member : Image → Bool → Image
on_member image member = devices_of image (λ device sector. member)

-- a sector that isn't among those of two writes at one place of two disks
pub both_kept : (old mid new : Disks) (one two sector count d s : ℕ) → KeepsSure old mid one sector count → KeepsSure mid new two sector count
    → ((d ≢ one) × (d ≢ two)) ⊎ ((s < sector) ⊎ (sector + count ≤ s)) → new.reads d s ≡ old.reads d s
both_kept old mid new one two sector count d s first second (inl others) =
    outside two sector count (λ d s. new.reads d s ≡ mid.reads d s) d s second.reads (inl others.1) ∙ outside one sector count (λ d s. mid.reads d s ≡ old.reads d s) d s first.reads (inl others.0)
both_kept old mid new one two sector count d s first second (inr beside) =
    outside two sector count (λ d s. new.reads d s ≡ mid.reads d s) d s second.reads (inr beside) ∙ outside one sector count (λ d s. mid.reads d s ≡ old.reads d s) d s first.reads (inr beside)

-- the members of two devices are four disks
members_differ : (d device : ℕ) (member : Bool) → d ≢ device → (member_disk d member ≢ 3 + 2 * device) × (member_disk d member ≢ 4 + 2 * device)
members_differ d device true other = ((λ same. other (omega (arith, same))), (λ same. other (omega (arith, same))))
members_differ d device false other = ((λ same. other (omega (arith, same))), (λ same. other (omega (arith, same))))

-- of what each member has, the place alone was written
pub writes_place : (old mid new : Disks) (device sector count : ℕ) (member : Bool) → KeepsSure old mid (3 + 2 * device) sector count
    → KeepsSure mid new (4 + 2 * device) sector count → WritesOnly (on_member old.reads member) (on_member new.reads member) device sector count
writes_place old mid new device sector count member first second = record {
  elsewhere = λ d s other. both_kept old mid new (3 + 2 * device) (4 + 2 * device) sector count (member_disk d member) s first second (inl (members_differ d device member other));
  before = λ s less. both_kept old mid new (3 + 2 * device) (4 + 2 * device) sector count (member_disk device member) s first second (inr (inl less));
  behind = λ s past. both_kept old mid new (3 + 2 * device) (4 + 2 * device) sector count (member_disk device member) s first second (inr (inr past));
}

-- each member reads as what was written
pub reads_place : (mid new : Disks) (device sector : ℕ) (bytes : List ℕ) (member : Bool) → ReadsAs mid.reads (3 + 2 * device) sector bytes
    → KeepsSure mid new (4 + 2 * device) sector (length bytes / 512) → ReadsAs new.reads (4 + 2 * device) sector bytes
    → ReadsAs (on_member new.reads member) device sector bytes
reads_place mid new device sector bytes true first keeps second = record { each = λ i less. ap (λ (d : ℕ). new.reads d (sector + i)) (omega arith) ∙ second.each i less }
reads_place mid new device sector bytes false first keeps second = record {
  each = λ i less.
      ap (λ (d : ℕ). new.reads d (sector + i)) (omega arith) ∙ (keeps.others (3 + 2 * device) (sector + i) (λ same. omega (arith, same))).reads ∙ first.each i less;
}

-- The blocks that the members have, once one more is written in its home.
pub holds_more : (old new : Disks) (devices areas at : ℕ) (block : Block) (truth : Truth) → IsVolume devices areas → IsBlock areas at → HasParts block
    → ((member : Bool) → WritesOnly (on_member old.reads member) (on_member new.reads member) (block_place at devices).0 (block_place at devices).1 9)
    → ((member : Bool) → ReadsAs (on_member new.reads member) (block_place at devices).0 (block_place at devices).1 (block_text block))
    → HoldsBlocks old.reads devices areas truth → HoldsBlocks new.reads devices areas (with_chunk truth at block)
holds_more old new devices areas at block truth volume is parts only reads holds = record { home = λ member other there. by member other there (same_or other at) }
  where
    by : (member : Bool) (other : ℕ) → IsBlock areas other → (other ≡ at) ⊎ (other ≢ at) → IsHome (on_member new.reads member) devices other (with_chunk truth at block other)
    by member other there (inl same) = rw (eq_true other at same, same) (record { is = parts; reads = reads member })
    by member other there (inr apart) =
        rw (eq_false other at apart)
        (home_kept (on_member old.reads member) (on_member new.reads member) (block_place at devices).0 (block_place at devices).1 9 devices other (truth other) (only member)
        (λ same. two_homes at other devices areas volume is there (λ e. apart (sym e)) (sym same)) (holds.home member other there))

-- The same two of a place that was computed, and of bytes that were written there.
pub writes_at : (old mid new : Disks) (devices at : ℕ) (block : Block) (place : ℕ × ℕ) (bytes : List ℕ) → HasParts block → place ≡ block_place at devices → bytes ≡ block_text block
    → KeepsSure old mid (3 + 2 * place.0) place.1 (length bytes / 512) → KeepsSure mid new (4 + 2 * place.0) place.1 (length bytes / 512)
    → (member : Bool) → WritesOnly (on_member old.reads member) (on_member new.reads member) (block_place at devices).0 (block_place at devices).1 9
writes_at old mid new devices at block place bytes parts is_place is_bytes first second member =
    subst (λ (p : ℕ × ℕ). WritesOnly (on_member old.reads member) (on_member new.reads member) p.0 p.1 9) is_place
    (writes_place old mid new place.0 place.1 9 member (nine first) (nine second))
  where
    long : length bytes / 512 ≡ 9
    long = ap (λ (l : List ℕ). length l / 512) is_bytes ∙ length-block_text block parts

    nine : {a b : Disks} {disk : ℕ} → KeepsSure a b disk place.1 (length bytes / 512) → KeepsSure a b disk place.1 9
    nine {a} {b} {disk} keeps = subst (KeepsSure a b disk place.1) long keeps

pub reads_at : (mid new : Disks) (devices at : ℕ) (block : Block) (place : ℕ × ℕ) (bytes : List ℕ) → place ≡ block_place at devices → bytes ≡ block_text block
    → ReadsAs mid.reads (3 + 2 * place.0) place.1 bytes → KeepsSure mid new (4 + 2 * place.0) place.1 (length bytes / 512)
    → ReadsAs new.reads (4 + 2 * place.0) place.1 bytes
    → (member : Bool) → ReadsAs (on_member new.reads member) (block_place at devices).0 (block_place at devices).1 (block_text block)
reads_at mid new devices at block place bytes is_place is_bytes first keeps second member =
    subst (λ (p : ℕ × ℕ). ReadsAs (on_member new.reads member) p.0 p.1 (block_text block)) is_place
    (subst (ReadsAs (on_member new.reads member) place.0 place.1) is_bytes (reads_place mid new place.0 place.1 bytes member first keeps second))

-- a home is on each of the disks of its device
pub room_on : (sizes : List ℕ) (devices areas at : ℕ) (member : Bool) → HasSizes sizes devices areas → IsVolume devices areas → IsBlock areas at
    → (block_place at devices).1 + 9 ≤ slice_index sizes (member_disk (block_place at devices).0 member)
room_on sizes devices areas at member has volume is = by member
  where
    of : (disk : ℕ) → 3 + 2 * (block_place at devices).0 ≤ disk → disk ≤ 4 + 2 * (block_place at devices).0 → (block_place at devices).1 + 9 ≤ slice_index sizes disk
    of disk low high = rw (has.each disk (grind (arith, nat_tests))) (grind (arith, nat_tests))

    by : (member : Bool) → (block_place at devices).1 + 9 ≤ slice_index sizes (member_disk (block_place at devices).0 member)
    by true = of (member_disk (block_place at devices).0 true) (omega arith) (omega arith)
    by false = of (member_disk (block_place at devices).0 false) (omega arith) (omega arith)

pub room : (before now : List ℕ) (devices areas at : ℕ) (place : ℕ × ℕ) (count : ℕ) → now ≡ before → HasSizes before devices areas → IsVolume devices areas → IsBlock areas at
    → place ≡ block_place at devices → count ≡ 9 → place.1 + count ≤ slice_index now (4 + 2 * place.0)
room before now devices areas at place count same has volume is is_place nine =
    rw (same, is_place, nine) (subst (λ (d : ℕ). (block_place at devices).1 + 9 ≤ slice_index before d) (omega arith) (room_on before devices areas at true has volume is))
