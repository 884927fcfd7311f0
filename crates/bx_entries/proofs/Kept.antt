-- Room stays where all chunks stay that there were.
use Rattle.std.proofs.Common.{◌≡◌, ℕ, List, Some}
use Rattle.bx_layout.specs.declared.block.Block.{Block}
use Rattle.bx_records.specs.Drafts.{Changed}
use Rattle.bx_truth.specs.Chunks.{chunks_of}
use Rattle.bx_truth.specs.PageTrees.{Chunks, IsTree, PageTree}
use Rattle.bx_views.specs.Truths.{Held, Truth, with_draft}
use Rattle.bx_entries.specs.Rooms.{HasRooms}

pub tree_kept : (chunks now : Chunks) (root : ℕ) (tree : PageTree) → ((handle : ℕ) (block : Block) → chunks handle ≡ Some block → now handle ≡ Some block) → IsTree chunks root tree → IsTree now root tree
tree_kept chunks now root tree kept is = record {
  levels = λ level within. record {
    nodes_are = λ node there.
        let n = (is.levels level within).nodes_are node there in
        record { block = n.block; chunk = kept node.handle n.block n.chunk; has = n.has; same_level = n.same_level; lowest = n.lowest; highest = n.highest };
    chain = (is.levels level within).chain;
  };
  interior = is.interior;
  top = is.top;
  root_alone = is.root_alone;
  root_is = is.root_is;
}

pub rooms_kept : (areas : ℕ) (held : Held) (truth : Truth) (old new : List Changed) (root : ℕ) (name : List ℕ) (number : ℕ)
    → ((handle : ℕ) (block : Block) → chunks_of areas (with_draft truth old) handle ≡ Some block → chunks_of areas (with_draft truth new) handle ≡ Some block)
    → HasRooms areas held truth old root name number → HasRooms areas held truth new root name number
rooms_kept areas held truth old new root name number kept r =
    record { pages = r.pages; is = tree_kept (chunks_of areas (with_draft truth old)) (chunks_of areas (with_draft truth new)) root r.pages kept r.is; by_name = r.by_name; by_number = r.by_number }
