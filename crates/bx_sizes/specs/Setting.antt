-- The path of SETATTR.
use Rattle.std.specs.Prelude.{◌≡◌, ℕ, ◌⊎◌, true, [], List, Some}
use Rattle.bx_base.specs.declared.names.Mode.{Mode}
use Rattle.bx_base.specs.declared.names.Mode.TheVariants.{Exclusive}
use Rattle.bx_blink.specs.Walks.{reads_with}
use Rattle.bx_places.specs.Handles.{named}
use Rattle.bx_inodes.specs.Inodes.{LiveAt}
use Rattle.bx_inodes.specs.Stops.{OnInode}
use Rattle.bx_layout.specs.declared.inode.Inode.{Inode}
use Rattle.bx_tree_files.specs.Times.{is_given}
use Rattle.bx_views.specs.Truths.{Held, Hints}
use Rattle.bx_sizes.specs.Clearing.{OnClearing}

-- from the inode that is named, and held, on: where a size is given, the path of clearing
pub record OnNamedBehind (held : Held) (hints : Hints) (volume areas : ℕ) (bytes : List ℕ) (size at : ℕ) (mode : Mode) : Type 0 where
  pub given : is_given size ≡ true
  pub handle : ℕ
  pub inode : Inode
  pub is_named : named volume bytes ≡ Some handle
  pub live : LiveAt (reads_with held hints []) areas handle Exclusive inode
  pub on : OnClearing held hints inode at mode

-- The path of SETATTR, by its size: the inode of the file that is named, exclusively, and that from there on.
abbrev pub OnSetting : Held → Hints → ℕ → ℕ → List ℕ → ℕ → ℕ → Mode → Type 0
OnSetting held hints volume areas bytes size at mode = OnInode volume bytes Exclusive at mode ⊎ OnNamedBehind held hints volume areas bytes size at mode
