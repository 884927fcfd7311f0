-- What a crash of one disk leaves.
use Rattle.std.specs.Prelude.{ℕ, zero, suc, ◌+◌, Bool, not, ◌&&◌, ◌==◌, if◌then◌else◌, List}
use Rattle.rand_core.specs.Steps.{fill_via_u32}
use Rattle.rand_core.specs.Pcg32Seed.{pcg32_seed}
use Rattle.rand_pcg.specs.Lcg.{Lcg}
use Rattle.rand_pcg.specs.Pcg.{pcg32, pcg32_of_seed}
use Rattle.bx_disk.specs.Disks.{Disks, synced}
use Rattle.bx_disk.specs.declared.noise.Noise.{Noise}
use Rattle.bx_disk.specs.declared.noise.Noise.TheVariants.{Keep, Drop, Seed}

-- the next 128 words of a generator, each with its low byte first, and the generator after them
unfoldable pub drawn : Lcg → List ℕ × Lcg
drawn generator = fill_via_u32 pcg32 512 generator

-- the generator after so many sectors were drawn
abbrev pub after_sectors : Lcg → ℕ → Lcg
after_sectors generator zero = generator
after_sectors generator (suc n) = (drawn (after_sectors generator n)).1

-- the generator of a seed
unfoldable pub seeded : ℕ → Lcg
seeded seed = pcg32_of_seed (pcg32_seed 16 seed)

-- how many numbers below n pass a test
abbrev pub count_below : (ℕ → Bool) → ℕ → ℕ
count_below test zero = 0
count_below test (suc n) = count_below test n + (if test n then 1 else 0)

-- each unsure sector of the disk holds what is given for it, and no sector of the disk is unsure
abbrev pub left_with : Disks → ℕ → (ℕ → List ℕ) → Disks
left_with disks disk content = record {
  sizes = disks.sizes;
  reads = λ d s. if (d == disk) && disks.unsure d s then content s else disks.reads d s;
  held = λ d s. if d == disk then (if disks.unsure d s then content s else disks.reads d s) else disks.held d s;
  unsure = λ d s. not (d == disk) && disks.unsure d s;
}

-- the noise in a sector: what is drawn behind the noise of the unsure sectors before it
abbrev pub noise_at : (ℕ → Bool) → Lcg → ℕ → List ℕ
noise_at unsure generator s = (drawn (after_sectors generator (count_below unsure s))).0

-- the disks once one of them crashed
abbrev pub crashed : Disks → ℕ → Noise → Disks
crashed disks disk Keep = synced disks disk
crashed disks disk Drop = left_with disks disk (disks.held disk)
crashed disks disk (Seed seed) = left_with disks disk (noise_at (disks.unsure disk) (seeded seed))
