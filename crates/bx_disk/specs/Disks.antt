-- Disks of sectors: what they hold, what a crash may leave of them, and what the calls of a rack make of them.
use Rattle.std.specs.Prelude.{◌≡◌, ℕ, ◌+◌, ◌-◌, ◌*◌, ◌/◌, ◌<◌, Bool, true, false, not, ◌&&◌, ◌||◌, ◌==◌, nat_lt, nat_le, if◌then◌else◌, List, [], length, take, drop, replicate, slice_index}

-- content by disk and by sector
abbrev pub Image : Type 0
Image = ℕ → ℕ → List ℕ

-- How many sectors each disk has; what each sector reads as, and what it held at its last sync; which are unsure.
pub record Disks : Type 0 where
  pub sizes : List ℕ
  pub reads : Image
  pub held : Image
  pub unsure : ℕ → ℕ → Bool

-- 512 bytes
pub record IsSector (content : List ℕ) : Type 0 where
  pub long : length content ≡ 512
  pub bytes : (i : ℕ) → slice_index content i < 256

-- What a crash may leave: sure sectors as they read, and any 512 bytes in those that are unsure.
pub record IsImage (disks : Disks) (image : Image) : Type 0 where
  pub sure : (d s : ℕ) → disks.unsure d s ≡ false → image d s ≡ disks.reads d s
  pub torn : (d s : ℕ) → disks.unsure d s ≡ true → IsSector (image d s)

-- sector i of bytes
unfoldable pub sector_of : List ℕ → ℕ → List ℕ
sector_of bytes i = take 512 (drop (512 * i) bytes)

-- whether s is one of so many sectors from one on
abbrev pub is_among : ℕ → ℕ → ℕ → Bool
is_among from count s = nat_le from s && nat_lt s (from + count)

-- whether it is one of these sectors of this disk
abbrev pub is_within : ℕ → ℕ → ℕ → ℕ → ℕ → Bool
is_within disk from count d s = (d == disk) && is_among from count s

-- The bytes stand in the disk's sectors from one on, which are unsure.
abbrev pub written : Disks → ℕ → ℕ → List ℕ → Disks
written disks disk from bytes =
    let count = length bytes / 512 in
    record {
      sizes = disks.sizes;
      reads = λ d s. if is_within disk from count d s then sector_of bytes (s - from) else disks.reads d s;
      held = disks.held;
      unsure = λ d s. is_within disk from count d s || disks.unsure d s;
    }

-- No sector of the disk is unsure.
abbrev pub synced : Disks → ℕ → Disks
synced disks disk = record {
  sizes = disks.sizes;
  reads = disks.reads;
  held = λ d s. if d == disk then disks.reads d s else disks.held d s;
  unsure = λ d s. not (d == disk) && disks.unsure d s;
}

-- the bytes of a sector that was never written
unfoldable pub zeros : List ℕ
zeros = replicate 512 0

-- what the sectors of disks of these sizes hold at first
abbrev pub blank_image : List ℕ → Image
blank_image sizes d s = if nat_lt s (slice_index sizes d) then zeros else []

-- disks of these sizes, whose sectors are zero and sure
abbrev pub shaped : List ℕ → Disks
shaped sizes = record { sizes = sizes; reads = blank_image sizes; held = blank_image sizes; unsure = λ d s. false }

-- All sectors of the disk are zero and sure.
abbrev pub blanked : Disks → ℕ → Disks
blanked disks disk = record {
  sizes = disks.sizes;
  reads = λ d s. if d == disk then blank_image disks.sizes d s else disks.reads d s;
  held = λ d s. if d == disk then blank_image disks.sizes d s else disks.held d s;
  unsure = λ d s. not (d == disk) && disks.unsure d s;
}

-- this sector is as it was
pub record Stays (old new : Disks) (d s : ℕ) : Type 0 where
  pub reads : new.reads d s ≡ old.reads d s
  pub held : new.held d s ≡ old.held d s
  pub unsure : new.unsure d s ≡ old.unsure d s

-- After a write, also one that failed: each of its sectors is unsure, or as it was. All others are as they were. What
-- each held at its last sync it still holds.
pub record MayBeWritten (old new : Disks) (disk from count : ℕ) : Type 0 where
  pub sizes : new.sizes ≡ old.sizes
  pub held : (d s : ℕ) → new.held d s ≡ old.held d s
  pub sure : (d s : ℕ) → is_within disk from count d s ≡ true → new.unsure d s ≡ false → Stays old new d s
  pub beyond : (d s : ℕ) → is_within disk from count d s ≡ false → Stays old new d s

-- Each of so many sectors of the bytes is what the sector of the disk reads as.
abbrev pub AreSectors : (ℕ → List ℕ) → ℕ → ℕ → List ℕ → Type 0
AreSectors reads from count bytes = (i : ℕ) → i < count → sector_of bytes i ≡ reads (from + i)
