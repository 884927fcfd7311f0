-- Where a file is made by a call that meets no error, room may be lacking first.
use Rattle.std.proofs.Common.{◌≡◌, ℕ, List, sym, ◌∙◌}
use Rattle.std.specs.Prelude.{Ok, Err, IfErr, Result}
use Rattle.bx_entries.specs.Lacking.{IfFirst}
use Rattle.bx_changes.specs.First.{ComesFirst}
use Rattle.bx_changes.specs.declared.error.ChangeError.{ChangeError}
use Rattle.bx_changes.specs.declared.error.ChangeError.TheVariants.{Stopped, Full}
use Rattle.bx_inodes.specs.Stops.{NeverInner}
use Rattle.bx_inodes.specs.declared.stop.Stop.{Stop}
use Rattle.bx_inodes.specs.declared.stop.Stop.TheVariants.{Need, Inner, Status, OutOfMemory}
use Rattle.bx_model.specs.Steps.{Making, Step}
use Rattle.bx_records.specs.Drafts.{Changed}
use Rattle.bx_base.specs.declared.names.Mode.{Mode}
use Rattle.bx_blink.specs.Walks.{Reads}
use Rattle.bx_inodes.specs.Inodes.{InodeAt}
use Rattle.bx_layout.specs.declared.inode.Inode.{Inode}

no_error : (step : Step) (status : ℕ) → ◌≡◌ {A = Making} (Ok step) (Err status) → ⊥
no_error step status is = absurd cc

pub made_first : (making : Making) (step : Step) → making ≡ Ok step → (Prepares : List Changed → Type 0) (error : ChangeError) → IfFirst Prepares error → ComesFirst (λ status. making ≡ Err status) Prepares error
made_first making step comes Prepares (Stopped (Inner blocks)) prepares = ((λ status is. no_error step status (sym comes ∙ is)), prepares)
made_first making step comes Prepares (Stopped (Need at mode)) prepares = tt
made_first making step comes Prepares (Stopped (Status status)) prepares = tt
made_first making step comes Prepares (Stopped OutOfMemory) prepares = tt
made_first making step comes Prepares (Full spare) prepares = tt

-- nothing is written first where nothing ever is
pub stop_comes : (T : Type 0) (Fails : ℕ → Type 0) (Prepares : List Changed → Type 0) (stop : Stop) → NeverInner {T = T} (Err stop) → ComesFirst Fails Prepares (Stopped stop)
stop_comes T Fails Prepares (Need at mode) never = tt
stop_comes T Fails Prepares (Inner blocks) never = absurd never
stop_comes T Fails Prepares (Status status) never = tt
stop_comes T Fails Prepares OutOfMemory never = tt

module _ (Fails Fails_so : ℕ → Type 0) (Prepares Prepares_so : List Changed → Type 0) (fails : (status : ℕ) → Fails_so status → Fails status) (prepares : (blocks : List Changed) → Prepares blocks → Prepares_so blocks) where
  pub first_so : (error : ChangeError) → ComesFirst Fails Prepares error → ComesFirst Fails_so Prepares_so error
  first_so (Stopped (Inner blocks)) first = ((λ status f. first.0 status (fails status f)), prepares blocks first.1)
  first_so (Stopped (Need at mode)) first = tt
  first_so (Stopped (Status status)) first = tt
  first_so (Stopped OutOfMemory) first = tt
  first_so (Full spare) first = tt

  pub first_if : {X : Type 0} (result : Result X ChangeError) → IfErr result (ComesFirst Fails Prepares) → IfErr result (ComesFirst Fails_so Prepares_so)
  first_if (Ok value) first = tt
  first_if (Err error) first = first_so error first

pub inode_never : (reads : Reads) (areas handle : ℕ) (mode : Mode) (stop : Stop) → InodeAt reads areas handle mode (Err stop) → NeverInner {T = Inode} (Err stop)
inode_never reads areas handle mode (Need at asked) is = tt
inode_never reads areas handle mode (Inner blocks) is = absurd is
inode_never reads areas handle mode (Status status) is = tt
inode_never reads areas handle mode OutOfMemory is = tt
