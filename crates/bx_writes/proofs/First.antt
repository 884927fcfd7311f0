-- Blocks are written first only where no error comes, and prepare the call; and where nothing is wanted.
use Rattle.std.proofs.Common.{◌≡◌, ◌∙◌, ℕ, ◌+◌, ◌/◌, ◌%◌, ◌<◌, ◌⊎◌, arith, false, List, [], ◌∷◌, length, Option, Some, inl, inr, subst, sym, Ok, Err}
use Rattle.std.proofs.Math.Nat.{eq-or-lt_of_le}
use Rattle.std.specs.Prelude.{IfErr, IfOk, Result}
use Rattle.bx_entries.specs.Lacking.{IfFirst}
use Rattle.bx_changes.specs.Stopping.{NeverFirst}
use Rattle.bx_entries.proofs.Lacks.{first_so, never_first}
use Rattle.bx_changes.specs.First.{ComesFirst}
use Rattle.bx_changes.specs.declared.error.ChangeError.{ChangeError}
use Rattle.bx_changes.specs.declared.error.ChangeError.TheVariants.{Stopped, Full}
use Rattle.bx_places.specs.Handles.{named}
use Rattle.bx_inodes.proofs.Pages.{inode_is}
use Rattle.bx_inodes.specs.Inodes.{HoldsInode}
use Rattle.bx_inodes.specs.Stops.{NeverInner}
use Rattle.bx_inodes.specs.declared.stop.Stop.{Stop}
use Rattle.bx_inodes.specs.declared.stop.Stop.TheVariants.{Need, Inner, Status, OutOfMemory}
use Rattle.bx_layout.specs.declared.inode.Inode.{Inode}
use Rattle.bx_model.specs.declared.reply.Reply.{Reply}
use Rattle.bx_model.specs.declared.tree.Tree.{Tree}
use Rattle.bx_records.specs.Drafts.{Changed}
use Rattle.bx_sizes.specs.Lengths.{grows_over}
use Rattle.bx_sizes.proofs.First.{grows_freely}
use Rattle.bx_truth.specs.Stands.{StandsFor}
use Rattle.bx_views.specs.Truths.{Held, Hints, Truth}
use Rattle.bx_writes.specs.Lacking.{FindEntries, FindsEntry, MakesEntries, MakesEntry, ReadyToLay, ReadyToWrite}
use Rattle.bx_writes.specs.Laying.{InodeAlone, pieces_of}
use Rattle.bx_writes.specs.Steps.{FoundAt}
use Rattle.bx_writes.specs.Telling.{TellsWith}

-- ---- a piece

pub value_first : (T : Type 0) (Holds : List Changed → Type 0) (stop : Stop) → NeverInner {T = T} (Err stop) → IfFirst Holds (Stopped stop)
value_first T Holds (Need at mode) never = tt
value_first T Holds (Inner blocks) never = absurd never
value_first T Holds (Status status) never = tt
value_first T Holds OutOfMemory never = tt

pub found_first : (Holds : List Changed → Type 0) (areas : ℕ) (held : Held) (names place : ℕ) (part : List ℕ) (result : Result (Option ℕ × List ℕ) ChangeError) → FoundAt areas held names place part result
    → IfErr result (IfFirst Holds)
found_first Holds areas held names place part (Ok made) f = tt
found_first Holds areas held names place part (Err (Stopped (Need at mode))) f = tt
found_first Holds areas held names place part (Err (Stopped (Inner blocks))) f = absurd f
found_first Holds areas held names place part (Err (Stopped (Status status))) f = tt
found_first Holds areas held names place part (Err (Stopped OutOfMemory)) f = tt
found_first Holds areas held names place part (Err (Full spare)) f = tt

-- ---- all pieces

pub alone_first : (Holds : List Changed → Type 0) (handle : ℕ) (inode : Inode) (result : Result (List Changed) ChangeError) → InodeAlone handle inode result → IfErr result (IfFirst Holds)
alone_first Holds handle inode (Ok draft) a = tt
alone_first Holds handle inode (Err (Stopped (Need at mode))) a = tt
alone_first Holds handle inode (Err (Stopped (Inner blocks))) a = absurd a
alone_first Holds handle inode (Err (Stopped (Status status))) a = tt
alone_first Holds handle inode (Err (Stopped OutOfMemory)) a = tt
alone_first Holds handle inode (Err (Full spare)) a = tt

pub one_makes : (areas : ℕ) (held : Held) (hints : Hints) (truth : Truth) (root index count : ℕ) → 0 < count → (error : ChangeError) → IfFirst (MakesEntry areas held hints truth root index) error
    → IfFirst (MakesEntries areas held hints truth root index (index + count)) error
one_makes areas held hints truth root index count some error = first_so (λ new makes. record { index = index; above = omega arith; below = omega (arith, some); makes = makes }) error

pub rest_makes : (areas : ℕ) (held : Held) (hints : Hints) (truth : Truth) (root index rest count : ℕ) → rest + 1 ≡ count → (error : ChangeError)
    → IfFirst (MakesEntries areas held hints truth root (index + 1) (index + 1 + rest)) error → IfFirst (MakesEntries areas held hints truth root index (index + count)) error
rest_makes areas held hints truth root index rest count same error =
    first_so (λ new m. let above = m.above in let below = m.below in record { index = m.index; above = omega (arith, above); below = omega (arith, below, same); makes = m.makes }) error

pub put_first : (Holds : List Changed → Type 0) (result : Result (List Changed) ChangeError) → IfErr result NeverFirst → IfErr result (IfFirst Holds)
put_first Holds (Ok draft) never = tt
put_first Holds (Err error) never = never_first Holds error never

-- the first piece finds room, and all behind it
pub find_all : (areas : ℕ) (truth : Truth) (root index rest count : ℕ) → rest + 1 ≡ count → FindsEntry areas truth root index → FindEntries areas truth root (index + 1) (index + 1 + rest) → FindEntries areas truth root index (index + count)
find_all areas truth root index rest count same one behind other above below = by (eq-or-lt_of_le above)
  where
    by : (index ≡ other) ⊎ (index < other) → FindsEntry areas truth root other
    by (inl is) = subst (FindsEntry areas truth root) is one
    by (inr more) = behind other (omega (arith, more)) (omega (arith, below, same))

-- where no bytes are left, there is no piece behind
pub find_behind : (areas : ℕ) (truth : Truth) (root from : ℕ) (rest : List ℕ) → (0 < length rest → FindEntries areas truth root from (from + pieces_of 0 rest)) → FindEntries areas truth root from (from + pieces_of 0 rest)
find_behind areas truth root from [] finds = λ other above below. absurd (omega (arith, above, below))
find_behind areas truth root from (byte ∷ rest) finds = finds (omega arith)

-- ---- the procedure

module _ (Fails : ℕ → Type 0) (Prepares : List Changed → Type 0) where
  pub told_first : (volume handle : ℕ) (inode : Inode) (draft : List Changed) (result : Result (List Changed × Reply) ChangeError) → TellsWith volume handle inode draft result → IfErr result (ComesFirst Fails Prepares)
  told_first volume handle inode draft (Ok made) t = tt
  told_first volume handle inode draft (Err (Stopped (Need at mode))) t = absurd t
  told_first volume handle inode draft (Err (Stopped (Inner blocks))) t = absurd t
  told_first volume handle inode draft (Err (Stopped (Status status))) t = absurd t
  told_first volume handle inode draft (Err (Stopped OutOfMemory)) t = tt
  told_first volume handle inode draft (Err (Full spare)) t = absurd t

  pub first_by : (Holds : List Changed → Type 0) → ((status : ℕ) → Fails status → ⊥) → ((new : List Changed) → Holds new → Prepares new) → (error : ChangeError) → IfFirst Holds error → ComesFirst Fails Prepares error
  first_by Holds fine prepares (Stopped (Need at mode)) h = tt
  first_by Holds fine prepares (Stopped (Inner blocks)) h = (fine, prepares blocks h)
  first_by Holds fine prepares (Stopped (Status status)) h = tt
  first_by Holds fine prepares (Stopped OutOfMemory) h = tt
  first_by Holds fine prepares (Full spare) h = tt

  pub named_first : (Prepares_there : List Changed → Type 0) → ((new : List Changed) → Prepares new → Prepares_there new) → {T : Type 0} → (result : Result T ChangeError) → IfErr result (ComesFirst Fails Prepares)
      → IfErr result (ComesFirst Fails Prepares_there)
  named_first Prepares_there prepares (Ok made) first = tt
  named_first Prepares_there prepares (Err (Stopped (Need at mode))) first = tt
  named_first Prepares_there prepares (Err (Stopped (Inner blocks))) first = (first.0, prepares blocks first.1)
  named_first Prepares_there prepares (Err (Stopped (Status status))) first = tt
  named_first Prepares_there prepares (Err (Stopped OutOfMemory)) first = tt
  named_first Prepares_there prepares (Err (Full spare)) first = tt

-- a file has one inode, so where that grows over nothing, and finds room for its pieces, bytes may be written
pub ready_to_lay : (areas : ℕ) (truth : Truth) (tree : Tree) (handle offset : ℕ) (written : List ℕ) (inode : Inode) → StandsFor areas truth tree → HoldsInode areas truth handle inode
    → grows_over inode (offset + length written) ≡ false → FindEntries areas truth inode.tree (offset / 4096) (offset / 4096 + pieces_of (offset % 4096) written) → ReadyToLay areas truth handle offset written
ready_to_lay areas truth tree handle offset written inode is holds free finds = record {
  grows = grows_freely areas truth tree handle (offset + length written) inode is holds free;
  pieces = λ other there.
      subst (λ (i : Inode). FindEntries areas truth i.tree (offset / 4096) (offset / 4096 + pieces_of (offset % 4096) written))
      (sym (inode_is areas truth tree is handle inode holds) ∙ inode_is areas truth tree is handle other there) finds;
}

-- and a file handle names one file
pub named_ready : {T : Type 0} (volume areas : ℕ) (truth : Truth) (bytes : List ℕ) (handle offset : ℕ) (written : List ℕ) → named volume bytes ≡ Some handle → (result : Result T ChangeError)
    → IfOk result (λ made. 0 < length written → ReadyToLay areas truth handle offset written) → IfOk result (λ made. ReadyToWrite volume areas truth bytes offset written)
named_ready volume areas truth bytes handle offset written names (Err error) ready = tt
named_ready volume areas truth bytes handle offset written names (Ok made) ready = λ some other names_other.
    let both : ◌≡◌ {A = Option ℕ} (Some handle) (Some other) = sym names ∙ names_other in
    let same : handle ≡ other = cc in
    subst (λ (h : ℕ). ReadyToLay areas truth h offset written) same (ready some)
