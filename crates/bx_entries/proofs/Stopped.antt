-- What a change needs that is stopped by a call on a tree; and how many blocks a draft gets.
use Rattle.std.proofs.Common.{ℕ, ◌+◌, ◌≤◌, arith, List, length, sym, ap, subst, inl, inr}
use Rattle.std.specs.Prelude.{Err, Ok}
use Rattle.bx_base.specs.declared.names.Mode.{Mode}
use Rattle.bx_blink.specs.declared.error.BlinkError.{BlinkError}
use Rattle.bx_blink.specs.declared.error.BlinkError.TheVariants as tree_error
use Rattle.bx_changes.specs.Growing.{HoldsFirst, IfFull, NeedsBy}
use Rattle.bx_changes.specs.declared.error.ChangeError.{ChangeError}
use Rattle.bx_changes.specs.declared.error.ChangeError.TheVariants.{Stopped, Full}
use Rattle.bx_directory_reads.specs.bx_dirs.specs.Changes.{AddsAt}
use Rattle.bx_inodes.specs.Writing.{PutsInode}
use Rattle.bx_inodes.specs.declared.stop.Stop.TheVariants.{Need, Inner, Status, OutOfMemory}
use Rattle.bx_layout.specs.declared.inode.Inode.{Inode}
use Rattle.bx_leaves.specs.Changes.{NeedsUnheld}
use Rattle.bx_ready.proofs.Lengths.{one_more, put_more}
use Rattle.bx_ready.specs.Spare.{IfNoSlot as IfTreeFull}
use Rattle.bx_records.specs.Drafts.{Changed}
use Rattle.bx_tree_files.specs.declared.file.Name.{Name}
use Rattle.bx_truth.specs.Chunks.{block_at}
use Rattle.bx_views.specs.Truths.{Held, Hints}
use Rattle.bx_changes.specs.Stopping.{NeverFirst, StopsChange}

pub needs_stop : (X : Type 0) (areas : ℕ) (held : Held) (Path : ℕ → Mode → Type 0) (error : BlinkError) (stop : ChangeError) → NeedsUnheld {X = X} held Path (Err error) → StopsChange areas error stop → NeedsBy areas held Path stop
needs_stop X areas held Path (tree_error.Need at mode) stop n (inl s) = subst (NeedsBy areas held Path) (sym s.1) (s.0, n.0, n.1)
needs_stop X areas held Path (tree_error.Need at mode) stop n (inr s) = subst (NeedsBy areas held Path) (sym s.1) tt
needs_stop X areas held Path (tree_error.Full spare) stop n s = subst (NeedsBy areas held Path) (sym s) tt
needs_stop X areas held Path tree_error.OutOfMemory stop n s = subst (NeedsBy areas held Path) (sym s) tt
needs_stop X areas held Path tree_error.Stale stop n s = subst (NeedsBy areas held Path) (sym s) tt
needs_stop X areas held Path tree_error.Absent stop n s = subst (NeedsBy areas held Path) (sym s) tt
needs_stop X areas held Path tree_error.Present stop n s = subst (NeedsBy areas held Path) (sym s) tt
needs_stop X areas held Path (tree_error.NoRoom leaf) stop n s = subst (NeedsBy areas held Path) (sym s) tt
needs_stop X areas held Path tree_error.Crowded stop n s = subst (NeedsBy areas held Path) (sym s) tt

-- what is needed on one path is needed on a wider one
pub wider : (areas : ℕ) (held : Held) (Path Wider : ℕ → Mode → Type 0) → ((at : ℕ) (mode : Mode) → Path at mode → Wider at mode) → (stop : ChangeError) → NeedsBy areas held Path stop → NeedsBy areas held Wider stop
wider areas held Path Wider more (Stopped (Need at mode)) n = (n.0, n.1, more at mode n.2)
wider areas held Path Wider more (Stopped (Inner blocks)) n = tt
wider areas held Path Wider more (Stopped (Status status)) n = tt
wider areas held Path Wider more (Stopped OutOfMemory) n = tt
wider areas held Path Wider more (Full spare) n = tt

-- what holds where a call on a tree finds no slot holds where the change that it stops is full
pub full_stops : (X : Type 0) (areas : ℕ) (Holds : ℕ → Type 0) (error : BlinkError) (stop : ChangeError) → IfTreeFull {X = X} Holds (Err error) → StopsChange areas error stop → IfFull Holds stop
full_stops X areas Holds (tree_error.Need at mode) stop f (inl s) = subst (IfFull Holds) (sym s.1) tt
full_stops X areas Holds (tree_error.Need at mode) stop f (inr s) = subst (IfFull Holds) (sym s.1) tt
full_stops X areas Holds (tree_error.Full spare) stop f s = subst (IfFull Holds) (sym s) f
full_stops X areas Holds tree_error.OutOfMemory stop f s = subst (IfFull Holds) (sym s) tt
full_stops X areas Holds tree_error.Stale stop f s = subst (IfFull Holds) (sym s) tt
full_stops X areas Holds tree_error.Absent stop f s = subst (IfFull Holds) (sym s) tt
full_stops X areas Holds tree_error.Present stop f s = subst (IfFull Holds) (sym s) tt
full_stops X areas Holds (tree_error.NoRoom leaf) stop f s = subst (IfFull Holds) (sym s) tt
full_stops X areas Holds tree_error.Crowded stop f s = subst (IfFull Holds) (sym s) tt

-- an entry that is added takes no slot
pub never_full : (held : Held) (hints : Hints) (old new : List Changed) (root : ℕ) (entry : Name) (error : BlinkError) → AddsAt held hints old new root entry (Err error) → IfTreeFull {X = Unit {0}} (λ spare. ⊥) (Err error)
never_full held hints old new root entry (tree_error.Need at mode) a = tt
never_full held hints old new root entry (tree_error.Full spare) (inl never) = absurd never
never_full held hints old new root entry (tree_error.Full spare) (inr then) = absurd then.numbered
never_full held hints old new root entry tree_error.OutOfMemory a = tt
never_full held hints old new root entry tree_error.Stale a = tt
never_full held hints old new root entry tree_error.Absent a = tt
never_full held hints old new root entry tree_error.Present a = tt
never_full held hints old new root entry (tree_error.NoRoom leaf) a = tt
never_full held hints old new root entry tree_error.Crowded a = tt

-- where no blocks are to be written first they are held
pub never_held : (held : Held) (stop : ChangeError) → NeverFirst stop → HoldsFirst held stop
never_held held (Stopped (Need at mode)) n = tt
never_held held (Stopped (Inner blocks)) n = absurd n
never_held held (Stopped (Status status)) n = tt
never_held held (Stopped OutOfMemory) n = tt
never_held held (Full spare) n = tt

-- ---- how many blocks a draft gets

pub added_more : (held : Held) (hints : Hints) (old new : List Changed) (root : ℕ) (entry : Name) → AddsAt held hints old new root entry (Ok tt) → length new ≤ length old + 2
added_more held hints old new root entry a = omega (arith, put_more old a.mid a.named.handle _ a.named.puts, put_more a.mid new a.numbered.handle _ a.numbered.puts)

pub inode_more : (old new : List Changed) (handle : ℕ) (inode : Inode) → PutsInode old new handle inode → length new ≤ length old + 1
inode_more old new handle inode p = let same = ap (λ (l : List Changed). length l) p.put in omega (arith, same, one_more old (block_at handle) p.block)
