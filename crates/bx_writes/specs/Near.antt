-- What WRITE takes, it takes near the file: in what it changes, and in what is written first.
use Rattle.std.specs.Prelude.{◌≡◌, ℕ, ◌+◌, ◌<◌, ◌⊎◌, true, [], List, Some, length}
use Rattle.bx_base.specs.declared.names.Mode.TheVariants.{Exclusive}
use Rattle.bx_blink.specs.Walks.{reads_with}
use Rattle.bx_chunks.specs.Taking.{TakesSlots}
use Rattle.bx_places.specs.Handles.{named, parts_of}
use Rattle.bx_inodes.specs.Inodes.{LiveAt}
use Rattle.bx_layout.specs.declared.inode.Inode.{Inode}
use Rattle.bx_records.specs.Drafts.{Changed}
use Rattle.bx_sizes.specs.Lengths.{grows_over}
use Rattle.bx_views.specs.Truths.{Held, Hints}
use Rattle.bx_writes.specs.Laid.{IsLaid}

-- ---- what is changed

-- From a file's inode on: nothing where there are no bytes, and else the inode and pieces, of which those that weren't there took slots near the file.
pub record LaysNear (areas : ℕ) (held : Held) (hints : Hints) (handle : ℕ) (inode : Inode) (written : List ℕ) (new : List Changed) : Type 0 where
  pub nothing : length written ≡ 0 → new ≡ []
  pub laid : 0 < length written → IsLaid held hints (parts_of handle).area areas handle inode.tree new

-- so it is of the file that is named, and held
pub record IsLaidNear (held : Held) (hints : Hints) (volume areas : ℕ) (bytes written : List ℕ) (new : List Changed) : Type 0 where
  pub handle : ℕ
  pub inode : Inode
  pub is_named : named volume bytes ≡ Some handle
  pub live : LiveAt (reads_with held hints []) areas handle Exclusive inode
  pub lays : LaysNear areas held hints handle inode written new

-- ---- what is written first

-- From a file's inode on: the file would grow over bytes that were cut, or slots are taken near the file, for pages.
abbrev pub ReadiesNear : ℕ → Held → ℕ → Inode → ℕ → List ℕ → List Changed → Type 0
ReadiesNear areas held handle inode offset written new = (grows_over inode (offset + length written) ≡ true) ⊎ TakesSlots held (parts_of handle).area areas [] new

-- so it is of the file that is named, and held
pub record IsReadiedNear (held : Held) (hints : Hints) (volume areas : ℕ) (bytes : List ℕ) (offset : ℕ) (written : List ℕ) (new : List Changed) : Type 0 where
  pub handle : ℕ
  pub inode : Inode
  pub is_named : named volume bytes ≡ Some handle
  pub live : LiveAt (reads_with held hints []) areas handle Exclusive inode
  pub readies : ReadiesNear areas held handle inode offset written new
