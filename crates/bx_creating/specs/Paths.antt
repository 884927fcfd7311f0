-- The path of CREATE.
use Rattle.std.specs.Prelude.{◌≡◌, ℕ, ◌⊎◌, List}
use Rattle.bx_base.specs.declared.names.Mode.{Mode}
use Rattle.bx_base.specs.declared.names.Mode.TheVariants.{Exclusive}
use Rattle.bx_creating.specs.Finding.{IsHeldAt}
use Rattle.bx_creating.specs.Placing.{IsMadeNear, OnPlacing}
use Rattle.bx_files.specs.Paths.{OnSearch}
use Rattle.bx_inodes.specs.Stops.{OnInode}
use Rattle.bx_layout.specs.declared.inode.Inode.{Inode}
use Rattle.bx_truth.specs.Keys.{name_key}
use Rattle.bx_views.specs.Truths.{Held, Hints}
use Rattle.bx_creating.specs.Existing.{OnExisting}

-- from a directory on by its inode: the search for the name; that of the file that has it, or that of placing the new file
abbrev pub OnCreating : ℕ → Held → Hints → ℕ → Inode → List ℕ → ℕ → ℕ → Mode → Type 0
OnCreating areas held hints handle inode name size at mode =
    OnSearch held hints inode.tree (name_key name) at mode ⊎ (OnExisting held hints areas inode.tree name size at mode ⊎ OnPlacing areas held hints handle inode name at mode)

-- from the directory that the call names, and that is held, on
pub record OnCreatingIn (held : Held) (hints : Hints) (volume areas : ℕ) (bytes name : List ℕ) (size at : ℕ) (mode : Mode) : Type 0 where
  pub handle : ℕ
  pub inode : Inode
  pub is : IsHeldAt held hints volume areas bytes handle inode
  pub on : OnCreating areas held hints handle inode name size at mode

-- CREATE made no file, or its handle is that of the first slot that is taken near the directory that the call names
abbrev pub IsNoneOrNear : ℕ → ℕ → Held → List ℕ → ℕ → Type 0
IsNoneOrNear volume areas held bytes made = (made ≡ 0) ⊎ IsMadeNear volume areas held bytes made

-- The path of CREATE, by its size: the block of the directory's inode, exclusively, and that from there on.
abbrev pub OnCreate : Held → Hints → ℕ → ℕ → List ℕ → List ℕ → ℕ → ℕ → Mode → Type 0
OnCreate held hints volume areas bytes name size at mode = OnInode volume bytes Exclusive at mode ⊎ OnCreatingIn held hints volume areas bytes name size at mode
