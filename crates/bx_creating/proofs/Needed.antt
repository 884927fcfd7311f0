-- What placing a new file needs.
use Rattle.std.proofs.Common.{ℕ, List, inr}
use Rattle.std.specs.Prelude.{IfErr, Result, Ok, Err}
use Rattle.bx_changes.specs.Growing.{NeedsBy}
use Rattle.bx_changes.specs.declared.error.ChangeError.{ChangeError}
use Rattle.bx_changes.specs.declared.error.ChangeError.TheVariants.{Stopped, Full}
use Rattle.bx_creating.specs.Placing.{OnPlacing}
use Rattle.bx_inodes.specs.declared.stop.Stop.TheVariants.{Need, Inner, Status, OutOfMemory}
use Rattle.bx_layout.specs.declared.inode.Inode.{Inode}
use Rattle.bx_views.specs.Truths.{Held, Hints}
use Rattle.bx_creating.specs.Paths.{OnCreating}

module _ (areas : ℕ) (held : Held) (hints : Hints) (handle : ℕ) (inode : Inode) (name : List ℕ) (size : ℕ) where
  pub placing_needs : {X : Type 0} → (result : Result X ChangeError) → IfErr result (NeedsBy areas held (OnPlacing areas held hints handle inode name)) → IfErr result (NeedsBy areas held (OnCreating areas held hints handle inode name size))
  placing_needs (Ok made) n = tt
  placing_needs (Err (Stopped (Need at mode))) n = (n.0, n.1, inr (inr n.2))
  placing_needs (Err (Stopped (Inner blocks))) n = tt
  placing_needs (Err (Stopped (Status status))) n = tt
  placing_needs (Err (Stopped OutOfMemory)) n = tt
  placing_needs (Err (Full spare)) n = tt
