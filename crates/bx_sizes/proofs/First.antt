-- Where nothing is to be written first, where that clears bytes, and where none are to be cleared.
use Rattle.std.proofs.Common.{◌≡◌, ◌∙◌, ℕ, arith, Bool, true, false, List, Option, Some, ap, refl, subst, sym, Ok, Err}
use Rattle.std.specs.Prelude.{◌<◌, ◌&&◌, IfErr, IfOk, nat_lt, Result}
use Rattle.std.proofs.lemmas.Bool.Decides.{nat_tests}
use Rattle.bx_base.specs.declared.names.Mode.{Mode}
use Rattle.bx_blink.specs.Walks.{Reads}
use Rattle.bx_changes.specs.First.{StopsFirst}
use Rattle.bx_places.specs.Handles.{named}
use Rattle.bx_inodes.proofs.Pages.{inode_is}
use Rattle.bx_inodes.specs.Inodes.{HoldsInode, InodeAt}
use Rattle.bx_inodes.specs.Stops.{NeverInner}
use Rattle.bx_inodes.specs.declared.stop.Stop.{Stop}
use Rattle.bx_inodes.specs.declared.stop.Stop.TheVariants.{Need, Inner, Status, OutOfMemory}
use Rattle.bx_layout.specs.declared.inode.Inode.{Inode}
use Rattle.bx_model.specs.declared.tree.Tree.{Tree}
use Rattle.bx_records.specs.Drafts.{Changed}
use Rattle.bx_tree_files.specs.Times.{is_given}
use Rattle.bx_truth.specs.Stands.{StandsFor}
use Rattle.bx_sizes.specs.Cuts.{ReadyToGrow, ReadyToSet}
use Rattle.bx_sizes.specs.Lengths.{grows_over}
use Rattle.bx_views.specs.Truths.{Truth}

-- the tail of a file that would grow over it is behind its end
pub behind_end : (inode : Inode) (size : ℕ) → grows_over inode size ≡ true → inode.size < inode.tail
behind_end inode size test = by (nat_lt inode.size size) (nat_lt inode.size inode.tail) refl test
  where
    by : (a b : Bool) → nat_lt inode.size inode.tail ≡ b → (a && b) ≡ true → inode.size < inode.tail
    by a true second both = grind (arith, nat_tests, second)
    by true false second both = absurd cc
    by false false second both = absurd cc

pub never_stops : (T : Type 0) (Fails : ℕ → Type 0) (Prepares : List Changed → Type 0) (stop : Stop) → NeverInner {T = T} (Err stop) → StopsFirst Fails Prepares stop
never_stops T Fails Prepares (Need at mode) never = tt
never_stops T Fails Prepares (Inner blocks) never = absurd never
never_stops T Fails Prepares (Status status) never = tt
never_stops T Fails Prepares OutOfMemory never = tt

pub never_first : {T : Type 0} (Fails : ℕ → Type 0) (Prepares : List Changed → Type 0) (result : Result T Stop) → NeverInner result → IfErr result (StopsFirst Fails Prepares)
never_first Fails Prepares (Ok made) never = tt
never_first Fails Prepares (Err (Need at mode)) never = tt
never_first Fails Prepares (Err (Inner blocks)) never = absurd never
never_first Fails Prepares (Err (Status status)) never = tt
never_first Fails Prepares (Err OutOfMemory) never = tt

-- where one error is no error of another, and what prepares one prepares the other
pub first_wider : (Fails Fails_there : ℕ → Type 0) (Prepares Prepares_there : List Changed → Type 0) → ((status : ℕ) → Fails_there status → Fails status) → ((new : List Changed) → Prepares new → Prepares_there new)
    → (stop : Stop) → StopsFirst Fails Prepares stop → StopsFirst Fails_there Prepares_there stop
first_wider Fails Fails_there Prepares Prepares_there fails prepares (Need at mode) s = tt
first_wider Fails Fails_there Prepares Prepares_there fails prepares (Inner blocks) s = ((λ status fail. s.0 status (fails status fail)), prepares blocks s.1)
first_wider Fails Fails_there Prepares Prepares_there fails prepares (Status status) s = tt
first_wider Fails Fails_there Prepares Prepares_there fails prepares OutOfMemory s = tt

-- where an inode isn't read, nothing is written first
pub no_inode_stops : (Fails : ℕ → Type 0) (Prepares : List Changed → Type 0) (reads : Reads) (areas handle : ℕ) (mode : Mode) (stop : Stop) → InodeAt reads areas handle mode (Err stop) → StopsFirst Fails Prepares stop
no_inode_stops Fails Prepares reads areas handle mode (Need at asked) is = tt
no_inode_stops Fails Prepares reads areas handle mode (Inner blocks) is = absurd is
no_inode_stops Fails Prepares reads areas handle mode (Status status) is = tt
no_inode_stops Fails Prepares reads areas handle mode OutOfMemory is = tt

-- a handle has one inode, so where that grows over nothing the file may grow
pub grows_freely : (areas : ℕ) (truth : Truth) (tree : Tree) (handle size : ℕ) (inode : Inode) → StandsFor areas truth tree → HoldsInode areas truth handle inode → grows_over inode size ≡ false → ReadyToGrow areas truth handle size
grows_freely areas truth tree handle size inode is holds free = λ other there.
    ap (λ (i : Inode). grows_over i size) (sym (inode_is areas truth tree is handle other there) ∙ inode_is areas truth tree is handle inode holds) ∙ free

-- and a file handle names one file
pub sets_freely : (volume areas : ℕ) (truth : Truth) (tree : Tree) (bytes : List ℕ) (handle size : ℕ) (inode : Inode) → StandsFor areas truth tree → named volume bytes ≡ Some handle → HoldsInode areas truth handle inode
    → grows_over inode size ≡ false → ReadyToSet volume areas truth bytes size
sets_freely volume areas truth tree bytes handle size inode is names holds free = λ given other names_other.
    let both : ◌≡◌ {A = Option ℕ} (Some handle) (Some other) = sym names ∙ names_other in
    let same : handle ≡ other = cc in
    subst (λ (h : ℕ). ReadyToGrow areas truth h size) same (grows_freely areas truth tree handle size inode is holds free)

-- where no size is given, there is nothing to clear
pub not_given : {T : Type 0} (volume areas : ℕ) (truth : Truth) (bytes : List ℕ) (size : ℕ) → is_given size ≡ false → (result : Result T Stop) → IfOk result (λ made. ReadyToSet volume areas truth bytes size)
not_given volume areas truth bytes size none (Ok made) = λ given handle names. let both : true ≡ false = sym given ∙ none in absurd cc
not_given volume areas truth bytes size none (Err stop) = tt
