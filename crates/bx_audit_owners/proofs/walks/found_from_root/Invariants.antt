use Rattle.std.proofs.Common.{◌≡◌, ℕ, ◌<◌, ◌≤◌, length, get_or, Some, Ok}
use Rattle.std.specs.Prelude.{Contains}
use Rattle.bx_audit_owners.specs.declared.holders.Holder.TheVariants.{File as OfFile}
use Rattle.bx_audit_owners.specs.Found.{AreOrdered}
use Rattle.bx_audit_owners.specs.Holding.{holdings_of}
use Rattle.bx_audit_owners.proofs.Walking.{IsUnderWay}
use Rattle.bx_audit_pages.specs.Shown.{Shows}
use Rattle.bx_model.specs.Opening.{root_handle}
use Rattle.bx_truth.specs.PageTrees.{Chunks}
use Rattle.bx_audit_pages.specs.Reading.{ReadsChunks, StillShows}
use Rattle.bx_audit_owners.proofs.walks.found_from_root.Given as goal

abbrev pub invariant-loop-at : goal.invariant-loop-at
invariant-loop-at g l = record {
  blocks : ReadsChunks {A = Unit {0}} g.B.Blocks l.fn.blocks l.blocks (Ok tt);
  shows : StillShows g.B.Blocks l.areas l.fn.blocks l.blocks;
  under : (chunks : Chunks) → Shows (g.B.Blocks.tells l.fn.blocks) l.areas (g.B.Blocks.stands l.fn.blocks) chunks → IsUnderWay chunks (holdings_of l.found.holders) l.found.files l.met.items;
  within : l.at ≤ length l.met.items;
  root : Contains l.met.items root_handle;
  done : (k : ℕ) → k < l.at → holdings_of l.found.holders (get_or l.met.items k 0) ≡ Some OfFile;
  ordered : AreOrdered l.found.files l.found.given;
}
