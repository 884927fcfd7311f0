-- The disks under a replay, once all of them crash.
use Rattle.std.specs.Prelude.{ℕ, zero, suc, length}
use Rattle.bx_disk.specs.Crash.{crashed}
use Rattle.bx_disk.specs.Disks.{Disks}
use Rattle.bx_disk.specs.declared.noise.Noise.{Noise}
use Rattle.bx_model.specs.declared.tree.Tree.{Tree}
use Rattle.bx_opens.specs.bx_cluster.specs.Closing.{IsCrashed}
use Rattle.bx_opens.specs.bx_rack_audit.specs.Alone.{StandAlone}

-- the disks once the first so many crashed so, one after the other
abbrev pub after_crashes : Disks → Noise → ℕ → Disks
after_crashes disks how zero = disks
after_crashes disks how (suc n) = crashed (after_crashes disks how n) n how

-- the disks once each of them crashed so
abbrev pub all_crashed : Disks → Noise → Disks
all_crashed disks how = after_crashes disks how (length disks.sizes)

-- However what is unsure is lost, the disks stand for a tree then, in the state that their own cells tell.
abbrev pub HoldsAny : Disks → Type 0
HoldsAny disks = (left : Disks) → IsCrashed disks left → (tree : Tree) × StandAlone left tree
