use Rattle.std.proofs.Common.{◌≡◌, ℕ, ◌<◌, true, List, Some, Ok}
use Rattle.std.specs.Prelude.{slice_index_or}
use Rattle.bx_audit_slots.specs.declared.slots.UsedSlot.{UsedSlot}
use Rattle.bx_audit_owners.specs.declared.holders.Holder.{Holder}
use Rattle.bx_audit_owners.specs.declared.holders.Holder.TheVariants.{Dead as OfDead}
use Rattle.bx_audit_owners.specs.Found.{IsFound}
use Rattle.bx_audit_owners.specs.Holding.{holdings_of}
use Rattle.bx_audit_pages.specs.Shown.{Shows}
use Rattle.bx_tree_files.specs.declared.file.File.{File}
use Rattle.bx_truth.specs.PageTrees.{Chunks}
use Rattle.bx_audit_pages.specs.Reading.{ReadsChunks, StillShows}
use Rattle.bx_audit_owners.proofs.dead.read_dead.Given as goal

abbrev pub invariant-loop-slot : goal.invariant-loop-slot
invariant-loop-slot g l = record {
  blocks : ReadsChunks {A = Unit {0}} g.B.Blocks l.fn.blocks l.blocks (Ok tt);
  shows : StillShows g.B.Blocks l.areas l.fn.blocks l.blocks;
  found : (chunks : Chunks) (files : List File) → Shows (g.B.Blocks.tells l.fn.blocks) l.areas (g.B.Blocks.stands l.fn.blocks) chunks
      → IsFound chunks (holdings_of l.fn.holders) files → IsFound chunks (holdings_of l.holders) files;
  marked : (k : ℕ) (slot : UsedSlot) → k < l.slot-index → slice_index_or l.slots k slot ≡ slot → slot.dead ≡ true → holdings_of l.holders slot.handle ≡ Some OfDead;
  still : (at : ℕ) (held : Holder) → holdings_of l.fn.holders at ≡ Some held → holdings_of l.holders at ≡ Some held;
}
