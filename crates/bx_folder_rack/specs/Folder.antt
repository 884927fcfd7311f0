-- What a rack in a folder shows of itself.
use Rattle.std.specs.Prelude.{ℕ, ◌<◌, ◌≤◌, ◌^◌, false, List, []}
use Rattle.bx_disk.specs.Disks.{Disks}

-- how many sectors each disk has, and how often calls failed, in all and on each disk
pub record Folder : Type 0 where
  pub sizes : List ℕ
  pub faults : ℕ
  pub by_disk : List ℕ

-- disks of these sizes, of whose content nothing is told
abbrev pub untold : List ℕ → Disks
untold sizes = record { sizes = sizes; reads = λ d s. []; held = λ d s. []; unsure = λ d s. false }

-- Each disk has a file and a count of its faults, and fewer than 2^32 disks are there.
pub record AreCounted (disks files counts : ℕ) : Type 0 where
  pub few : disks < 2 ^ 32
  pub filed : disks ≤ files
  pub counted : disks ≤ counts
