-- What a recovery answers.
use Rattle.std.specs.Prelude.{ℕ, None, Option}
use Rattle.bx_base.specs.declared.names.Point.{Point}
use Rattle.bx_disk.specs.Disks.{Disks}
use Rattle.bx_model.specs.declared.tree.Tree.{Tree}
use Rattle.bx_plain_repair.specs.declared.recovery.Recovery.{Recovery}
use Rattle.bx_plain_repair.specs.declared.recovery.Recovery.TheVariants.{Found, Closed}
use Rattle.bx_plain_repair.specs.Left.{OpenDoubt, IsClosed, IsLeft, IsOfDoubt}

-- The record at this point is open: its call acted, and the disks hold the next tree, with nothing in doubt once the call is told.
pub record IsFoundOpen (volume floor : ℕ) (tree : Tree) (doubt : Option OpenDoubt) (disks : Disks) (point : Point) : Type 0 where
  pub next : Tree
  pub acted : IsOfDoubt floor tree doubt point next
  pub left : IsLeft volume point.call next None disks

-- a record is found of a call that wasn't told; or there is none, and the log was closed
abbrev pub Recovers : ℕ → ℕ → Tree → Option OpenDoubt → Disks → Recovery → Type 0
Recovers volume floor tree doubt disks (Found point) = IsFoundOpen volume floor tree doubt disks point
Recovers volume floor tree doubt disks Closed = IsClosed volume tree disks
