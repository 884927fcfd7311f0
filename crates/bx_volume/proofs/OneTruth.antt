-- What the devices hold is one truth.
use Rattle.std.proofs.Common.{◌≡◌, ℕ, zero, suc, ◌+◌, ◌*◌, ◌/◌, ◌<◌, ◌⊎◌, ⊎_elim, inl, inr, arith, Bool, List, ◌++◌, length, take, drop, sym, ap, ◌∙◌, refl, Some, None}
use Rattle.std.proofs.Common.{get_or, ◌%◌}
use Rattle.std.specs.Int.{w32, w64, to_be_bytes}
use Rattle.std.proofs.lemmas.List.{ext_get_or, get_or-take, get_or-drop, drop_at}
use Rattle.bx_base.specs.Writing.{padded}
use Rattle.bx_base.proofs.Whole.{length-padded}
use Rattle.bx_layout.proofs.BlockHeaders.{header_is, handle_in, kind_in}
use Rattle.bx_disk.specs.Disks.{Image, sector_of}
use Rattle.bx_calls.specs.Regions.{ReadsAs}
use Rattle.bx_rows.specs.declared.session.SessionRow.{SessionRow}
use Rattle.bx_layout.specs.declared.block.Block.{Block}
use Rattle.bx_layout.specs.Blocks.{HasParts, SpellsBlock, block_text}
use Rattle.bx_places.specs.Places.{block_place}
use Rattle.bx_volume.specs.Images.{by_device, devices_of, member_disk}
use Rattle.bx_volume.specs.Records.{newest_in}
use Rattle.bx_truth.specs.Truth.{AreSame}
use Rattle.bx_truth.specs.bx_views.specs.Truths.{Truth}
use Rattle.bx_volume.specs.Overlay.{Logs, IsOverlaidTruth, IsHome}
use Rattle.bx_truth.proofs.Cases.{found}
use Rattle.bx_volume.proofs.Sizes.{block_bytes}

-- ---- bytes that stand at one place are one

-- lists of one length whose sectors are the same are the same
pub same_sectors : (n : ℕ) (a b : List ℕ) → length a ≡ 512 * n → length b ≡ 512 * n → ((i : ℕ) → i < n → sector_of a i ≡ sector_of b i) → a ≡ b
unfolding sector_of
same_sectors n a b len_a len_b same = ext_get_or 0 a b (len_a ∙ sym len_b) (λ i less. byte i (omega (arith, less, len_a)))
  where
    part : (l : List ℕ) (i : ℕ) → get_or (take 512 (drop (512 * (i / 512)) l)) (i % 512) 0 ≡ get_or l i 0
    part l i =
        get_or-take 512 (drop (512 * (i / 512)) l) (i % 512) 0 (omega arith) ∙ get_or-drop (512 * (i / 512)) l (i % 512) 0
        ∙ ap (λ (k : ℕ). get_or l k 0) (whole i)
      where
        whole : (i : ℕ) → 512 * (i / 512) + i % 512 ≡ i
        whole i = omega arith

    byte : (i : ℕ) → i < 512 * n → get_or a i 0 ≡ get_or b i 0
    byte i less = sym (part a i) ∙ ap (λ (l : List ℕ). get_or l (i % 512) 0) (same (i / 512) (omega (arith, less))) ∙ part b i

pub one_text : (held : Image) (d s n : ℕ) (a b : List ℕ) → length a ≡ 512 * n → length b ≡ 512 * n → ReadsAs held d s a → ReadsAs held d s b → a ≡ b
one_text held d s n a b len_a len_b reads_a reads_b =
    same_sectors n a b len_a len_b (λ i less. sym (reads_a.each i (omega (arith, less, len_a))) ∙ reads_b.each i (omega (arith, less, len_b)))

-- one block in a home
pub one_block : (a b : Block) → HasParts a → HasParts b → block_text a ≡ block_text b → a ≡ b
one_block a b is_a is_b same = λ i. record { handle = handle i; kind = kind i; payload = payload i }
  where
    of_a : SpellsBlock a (block_text a)
    of_a = record { is = is_a; parts = refl }

    of_b : SpellsBlock b (block_text a)
    of_b = record { is = is_b; parts = same }

    handle : a.handle ≡ b.handle
    handle = sym (handle_in a.handle a.kind (take 512 (block_text a)) (header_is a (block_text a) (take 512 (block_text a)) of_a refl)) ∙ handle_in b.handle b.kind (take 512 (block_text a)) (header_is b (block_text a) (take 512 (block_text a)) of_b refl)

    kind : a.kind ≡ b.kind
    kind = sym (kind_in a.handle a.kind (take 512 (block_text a)) (header_is a (block_text a) (take 512 (block_text a)) of_a refl)) ∙ kind_in b.handle b.kind (take 512 (block_text a)) (header_is b (block_text a) (take 512 (block_text a)) of_b refl)

    header : Block → List ℕ
    header block = padded 512 (to_be_bytes w64 block.handle ++ to_be_bytes w32 block.kind)

    long : (block : Block) → length (padded 512 (to_be_bytes w64 block.handle ++ to_be_bytes w32 block.kind)) ≡ 512
    long block = length-padded 512 (to_be_bytes w64 block.handle ++ to_be_bytes w32 block.kind) (omega arith)

    behind : (block : Block) → drop 512 (block_text block) ≡ block.payload
    behind block = drop_at (padded 512 (to_be_bytes w64 block.handle ++ to_be_bytes w32 block.kind)) block.payload 512 (long block)

    payload : a.payload ≡ b.payload
    payload = sym (behind a) ∙ ap (drop 512) same ∙ behind b

pub one_home : (held : Image) (devices at : ℕ) (a b : Block) → IsHome held devices at a → IsHome held devices at b → a ≡ b
one_home held devices at a b home_a home_b =
    one_block a b home_a.is home_b.is (one_text held (block_place at devices).0 (block_place at devices).1 9 (block_text a) (block_text b) (block_bytes a home_a.is) (block_bytes b home_b.is) home_a.reads home_b.reads)

-- ---- one truth by the same logs

-- some slot below n has a block of this number, or none has
logged_or : (logs : Logs) (at n : ℕ) → ((slot : ℕ) → slot < n → newest_in (logs slot) at ≡ None) ⊎ ((slot : ℕ) × (block : Block) × (slot < n) × (newest_in (logs slot) at ≡ Some block))
logged_or logs at zero = inl (λ slot less. absurd (omega (arith, less)))
logged_or logs at (suc n) = by (found (newest_in (logs n) at)) (logged_or logs at n)
  where
    by : (newest_in (logs n) at ≡ None) ⊎ ((block : Block) × (newest_in (logs n) at ≡ Some block))
        → ((slot : ℕ) → slot < n → newest_in (logs slot) at ≡ None) ⊎ ((slot : ℕ) × (block : Block) × (slot < n) × (newest_in (logs slot) at ≡ Some block))
        → ((slot : ℕ) → slot < suc n → newest_in (logs slot) at ≡ None) ⊎ ((slot : ℕ) × (block : Block) × (slot < suc n) × (newest_in (logs slot) at ≡ Some block))
    by (inr (block, some)) others = inr (n, block, omega arith, some)
    by (inl none) (inr (slot, block, less, some)) = inr (slot, block, omega (arith, less), some)
    by (inl none) (inl others) = inl (λ slot less. ⊎_elim (λ e. ap (λ (k : ℕ). newest_in (logs k) at) e ∙ none) (λ below. others slot below) (last slot less))
      where
        last : (slot : ℕ) → slot < suc n → (slot ≡ n) ⊎ (slot < n)
        last slot less = grind (arith, less)

pub one_truth : (held : Image) (devices areas : ℕ) (rows : List SessionRow) (logs : Logs) (a b : Truth) → IsOverlaidTruth held devices areas rows logs a → IsOverlaidTruth held devices areas rows logs b → AreSame areas a b
one_truth held devices areas rows logs a b is_a is_b at is_block = by (logged_or logs at 8)
  where
    by : ((slot : ℕ) → slot < 8 → newest_in (logs slot) at ≡ None) ⊎ ((slot : ℕ) × (block : Block) × (slot < 8) × (newest_in (logs slot) at ≡ Some block)) → a at ≡ b at
    by (inl none) = one_home held devices at (a at) (b at) (is_a.home at is_block none) (is_b.home at is_block none)
    by (inr (slot, block, less, some)) = is_a.logged slot at block less some ∙ sym (is_b.logged slot at block less some)

-- bytes that are read of a home spell the block that is in it
pub spelled_home : (image : Image) (second : ℕ → Bool) (devices at disk sector : ℕ) (bytes : List ℕ) (block : Block) → IsHome (devices_of image (by_device second)) devices at block
    → length bytes ≡ 4608 → disk ≡ member_disk (block_place at devices).0 (second (block_place at devices).0) → sector ≡ (block_place at devices).1 → ReadsAs image disk sector bytes → SpellsBlock block bytes
spelled_home image second devices at disk sector bytes block home long same_disk same_sector reads = record {
  is = home.is;
  parts = same_sectors 9 bytes (block_text block) long (block_bytes block home.is) (λ i less.
      sym (reads.each i (omega (arith, less, long)))
      ∙ ap (λ (d : ℕ). image d (sector + i)) same_disk ∙ ap (λ (s : ℕ). image (member_disk (block_place at devices).0 (second (block_place at devices).0)) (s + i)) same_sector
      ∙ home.reads.each i (omega (arith, less, block_bytes block home.is)));
}
