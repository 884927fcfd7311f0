-- The way up from a directory, over a view: what it tells of a move, and what it asks for.
use Rattle.std.specs.Prelude.{◌≡◌, ℕ, [], Option, Some, None, Result, Ok, Err}
use Rattle.bx_base.specs.declared.names.Mode.{Mode}
use Rattle.bx_base.specs.declared.names.Mode.TheVariants.{Shared}
use Rattle.bx_blink.specs.Walks.{reads_with}
use Rattle.bx_inodes.specs.Inodes.{LiveAt}
use Rattle.bx_inodes.specs.declared.stop.Stop.{Stop}
use Rattle.bx_inodes.specs.declared.stop.Stop.TheVariants.{Need, Inner, Status, OutOfMemory}
use Rattle.bx_layout.specs.declared.inode.Inode.{Inode}
use Rattle.bx_truth.specs.Chunks.{block_at}
use Rattle.bx_views.specs.Truths.{Held, Hints}

-- the first error of a test is told, or that there is none, unless a block is needed first or memory ran out
abbrev pub TellsError : Result (Unit {0}) ℕ → Result (Option ℕ) Stop → Type 0
TellsError errors (Ok None) = errors ≡ Ok tt
TellsError errors (Ok (Some status)) = errors ≡ Err status
TellsError errors (Err (Need at mode)) = Unit {0}
TellsError errors (Err (Inner blocks)) = ⊥
TellsError errors (Err (Status status)) = ⊥
TellsError errors (Err OutOfMemory) = Unit {0}

-- the directories on the way up from one, by the parents of the inodes that are seen
pub data IsAbove (held : Held) (hints : Hints) (areas directory : ℕ) : ℕ → Type 0 where
  itself : IsAbove held hints areas directory directory
  parent : (handle : ℕ) (inode : Inode) → IsAbove held hints areas directory handle → LiveAt (reads_with held hints []) areas handle Shared inode → IsAbove held hints areas directory inode.parent

-- the blocks of their inodes, shared
pub record OnWay (held : Held) (hints : Hints) (areas directory at : ℕ) (mode : Mode) : Type 0 where
  pub handle : ℕ
  pub above : IsAbove held hints areas directory handle
  pub at_is : at ≡ block_at handle
  pub mode_is : mode ≡ Shared
