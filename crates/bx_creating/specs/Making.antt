-- The path of a call that makes a file with a new entry.
use Rattle.std.specs.Prelude.{ℕ, ◌⊎◌, List}
use Rattle.bx_base.specs.declared.names.Mode.{Mode}
use Rattle.bx_layout.specs.declared.inode.Inode.{Inode}
use Rattle.bx_views.specs.Truths.{Held, Hints}
use Rattle.bx_creating.specs.Finding.{IsHeldAt, OnFinding}
use Rattle.bx_creating.specs.Placing.{OnPlacing}

-- that of placing the file in the directory that the call names
pub record OnPlaced (held : Held) (hints : Hints) (volume areas : ℕ) (bytes name : List ℕ) (at : ℕ) (mode : Mode) : Type 0 where
  pub handle : ℕ
  pub inode : Inode
  pub is : IsHeldAt held hints volume areas bytes handle inode
  pub on : OnPlacing areas held hints handle inode name at mode

-- The path: that of finding the directory, and that of placing the file in it.
abbrev pub OnMaking : Held → Hints → ℕ → ℕ → List ℕ → List ℕ → ℕ → Mode → Type 0
OnMaking held hints volume areas bytes name at mode = OnFinding held hints volume areas bytes name at mode ⊎ OnPlaced held hints volume areas bytes name at mode
