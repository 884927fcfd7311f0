-- What contracts of procedures over views speak of, in one place.
use Rattle.std.specs.Prelude.{ℕ, List, Result, IfOk}
use Rattle.bx_records.specs.Drafts.{Changed}
pub use Rattle.bx_base.specs.declared.names.Mode.TheVariants.{Shared, Exclusive}
pub use Rattle.bx_reads.specs.bx_blink.specs.Walks.{reads_with}
pub use Rattle.bx_changes.specs.First.{ComesFirst, StopsFirst}
pub use Rattle.bx_changes.specs.Growing.{HoldsFirst, IfFull, IsChangeBy, IsMaking, NeedsBy}
pub use Rattle.bx_changes.specs.Stopping.{NeverFirst, StopsByChunks, StopsChange}
pub use Rattle.bx_reads.specs.bx_chunks.specs.Taking.{NoSlots, OnSlots, TakesSlots}
pub use Rattle.bx_places.specs.Handles.{named, parts_of}
pub use Rattle.bx_reads.specs.bx_inodes.specs.Fitting.{HintsFitAll}
pub use Rattle.bx_reads.specs.bx_inodes.specs.Inodes.{HoldsInode, IsInodeOf, LiveAt}
pub use Rattle.bx_reads.specs.bx_inodes.specs.Stands.{Stands}
pub use Rattle.bx_reads.specs.bx_inodes.specs.Stops.{NeedsOn, NeverInner, OnInode}
pub use Rattle.bx_layout.specs.Inodes.{IsInode}
pub use Rattle.bx_model.specs.declared.tree.Tree.{Tree}
pub use Rattle.bx_tree_files.specs.declared.file.File.{File}
pub use Rattle.bx_tree_files.specs.declared.file.Name.{Name}
pub use Rattle.bx_tree_files.specs.Entries.{entry_named}
pub use Rattle.bx_tree_files.specs.Files.{file_at}
pub use Rattle.bx_tree_files.specs.Names.{names_of}
pub use Rattle.bx_reads.specs.bx_truth.specs.Chunks.{block_at}
pub use Rattle.bx_reads.specs.bx_truth.specs.Stands.{StandsFor}
pub use Rattle.bx_views.specs.Attempts.{IsHeldDraft}
pub use Rattle.bx_views.specs.Truths.{Held, Hints, IsTruth, Truth, with_draft}

-- what is so over each truth of what is held that stands for a tree of the volume, and which the hints fit
abbrev pub OnVolume : ℕ → ℕ → Held → Hints → (Truth → Tree → Type 0) → Type 0
OnVolume volume areas held hints Says = (truth : Truth) (tree : Tree) → IsTruth held truth → Stands volume areas truth tree → HintsFitAll areas hints truth → Says truth tree

-- over each of these all hints that fitted still fit, once it is changed
abbrev pub KeepsHints : {X E : Type 0} → ℕ → ℕ → Held → Hints → Result (List Changed × X) E → Type 0
KeepsHints volume areas held hints result = (other : Hints) (truth : Truth) (tree : Tree) → IsTruth held truth → Stands volume areas truth tree → HintsFitAll areas hints truth
    → HintsFitAll areas other truth → IfOk result (λ made. HintsFitAll areas other (with_draft truth made.0))
