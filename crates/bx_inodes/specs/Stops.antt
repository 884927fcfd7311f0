-- What a stopped attempt asks for.
use Rattle.std.specs.Prelude.{◌≡◌, ℕ, true, List, None, Some, Result, Ok, Err}
use Rattle.bx_base.specs.declared.names.Mode.{Mode}
use Rattle.bx_places.specs.Handles.{named}
use Rattle.bx_places.specs.Places.{is_block}
use Rattle.bx_blink.specs.bx_truth.specs.Chunks.{block_at}
use Rattle.bx_blink.specs.bx_views.specs.Truths.{Held}
use Rattle.bx_inodes.specs.declared.stop.Stop.{Stop}
use Rattle.bx_inodes.specs.declared.stop.Stop.TheVariants.{Need, Inner, Status, OutOfMemory}

-- A block that is needed is one of the volume that isn't held in the mode, and is on the path.
abbrev pub NeedsOn : ℕ → Held → (ℕ → Mode → Type 0) → {T : Type 0} → Result T Stop → Type 0
NeedsOn areas held Path (Ok found) = Unit {0}
NeedsOn areas held Path (Err (Need at mode)) = (is_block areas at ≡ true) × (held at mode ≡ None) × Path at mode
NeedsOn areas held Path (Err (Inner blocks)) = Unit {0}
NeedsOn areas held Path (Err (Status status)) = Unit {0}
NeedsOn areas held Path (Err OutOfMemory) = Unit {0}

-- the block of the inode that a file handle of a volume names, in a mode
abbrev pub OnInode : ℕ → List ℕ → Mode → ℕ → Mode → Type 0
OnInode volume bytes mode at asked = (handle : ℕ) × (named volume bytes ≡ Some handle) × (at ≡ block_at handle) × (asked ≡ mode)

-- no blocks are to be written first
abbrev pub NeverInner : {T : Type 0} → Result T Stop → Type 0
NeverInner (Ok found) = Unit {0}
NeverInner (Err (Need at mode)) = Unit {0}
NeverInner (Err (Inner blocks)) = ⊥
NeverInner (Err (Status status)) = Unit {0}
NeverInner (Err OutOfMemory) = Unit {0}
