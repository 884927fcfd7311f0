-- Which wants are granted.
use Rattle.std.specs.Prelude.{◌≡◌, ◌≢◌, ◌⊎◌, ◌<◌, ℕ, List, Some, None, slice_index}
use Rattle.bx_base.specs.declared.names.Mode.{Mode}
use Rattle.bx_plain.specs.declared.rows.Row.{Row}
use Rattle.bx_plain.specs.Rows.{AllLet, floor_in, hold_in, sessions_at, want_in}

-- What a session holds and wants of a block is as it was.
pub record IsAlike (old new : List Row) (session block : ℕ) : Type 0 where
  pub hold : hold_in new session block ≡ hold_in old session block
  pub want : want_in new session block ≡ want_in old session block

-- What a session wanted of a block, and didn't hold, it holds, as it wanted it, at the greatest index with which the block was given up.
pub record IsGranted (old new : List Row) (session block : ℕ) : Type 0 where
  pub mode : Mode
  pub wanted : want_in old session block ≡ Some mode
  pub not_held : hold_in old session block ≡ None
  pub held : hold_in new session block ≡ Some (mode, floor_in new block)
  pub over : want_in new session block ≡ None

-- A want is left that a session has of a block that it doesn't hold, though no hold of another stands against it.
pub record IsLeft (rows : List Row) (session block : ℕ) : Type 0 where
  pub mode : Mode
  pub wanted : want_in rows session block ≡ Some mode
  pub not_held : hold_in rows session block ≡ None
  pub free : AllLet session block mode rows

-- What others hold and want of a block is as it was, or was granted, and of other blocks all is as it was. No want of the block is left.
pub record Grants (session block : ℕ) (old new : List Row) : Type 0 where
  pub others : (other : ℕ) → other ≢ session → IsAlike old new other block ⊎ IsGranted old new other block
  pub elsewhere : (other at : ℕ) → at ≢ block → IsAlike old new other at
  pub none_left : (other : ℕ) → IsLeft new other block → ⊥

-- A session's want is granted at once where no hold of another stands against it; else it waits, and the session holds nothing of the block.
pub record IsAnswered (session block : ℕ) (mode : Mode) (old new : List Row) : Type 0 where
  pub granted : AllLet session block mode old → (hold_in new session block ≡ Some (mode, floor_in old block)) × (want_in new session block ≡ None)
  pub waits : (AllLet session block mode old → ⊥) → (hold_in new session block ≡ None) × (want_in new session block ≡ Some mode)

-- A session neither holds nor wants a block.
pub record IsGone (rows : List Row) (session block : ℕ) : Type 0 where
  pub hold : hold_in rows session block ≡ None
  pub want : want_in rows session block ≡ None

-- Wants of one block are granted against which nothing stood, and all else is as it was.
pub record Passes (block : ℕ) (old new : List Row) : Type 0 where
  pub each : (other at : ℕ) → IsAlike old new other at ⊎ ((at ≡ block) × IsGranted old new other at)
  pub floors : (at : ℕ) → floor_in new at ≡ floor_in old at
  pub fewer : (other : ℕ) (mode : Mode) → AllLet other block mode new → AllLet other block mode old
  pub free : (other : ℕ) (mode : Mode) → want_in old other block ≡ Some mode → want_in new other block ≡ None → AllLet other block mode old

-- no want of the block is left of the first so many sessions that have rows of it
pub record NoneLeft (block : ℕ) (rows new : List Row) (count : ℕ) : Type 0 where
  pub each : (place : ℕ) → place < count → IsLeft new (slice_index (sessions_at block rows) place) block → ⊥
