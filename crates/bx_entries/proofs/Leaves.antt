-- What changes of leaves ask for are blocks of the volume.
use Rattle.std.proofs.Common.{◌≡◌, ℕ, zero, suc, ◌≤◌, true, List, Option, Some, None, subst, arith, inl, inr}
use Rattle.std.specs.Prelude.{Ok}
use Rattle.bx_base.specs.declared.names.Mode.{Mode}
use Rattle.bx_base.specs.declared.names.Mode.TheVariants.{Exclusive}
use Rattle.bx_blink.specs.Hints.{HintsAgree, Place, Sees, Under}
use Rattle.bx_blink.specs.Walks.{MayAsk, OnPath, Reads, as_said, landed, most, reads_with, shared, start}
use Rattle.bx_blink.proofs.OnWay.{After, IsOnWay}
use Rattle.bx_blink.proofs.Rights.{on_way, step}
use Rattle.bx_blink.proofs.Under.{agrees}
use Rattle.bx_blink.proofs.Visits.{slot_of_spot}
use Rattle.bx_directory_reads.specs.bx_dirs.specs.Changes.{OnTakePath}
use Rattle.bx_changes.specs.bx_files.proofs.Slots.{slot_is_block}
use Rattle.bx_leaves.specs.Leaves.{OnLeafPath}
use Rattle.bx_leaves.proofs.Done.{removes_in}
use Rattle.bx_places.specs.Places.{is_block}
use Rattle.bx_records.specs.Drafts.{Changed}
use Rattle.bx_truth.specs.Chunks.{IsSlot, chunks_of}
use Rattle.bx_truth.specs.Keys.{entry_key, name_key}
use Rattle.bx_truth.specs.PageTrees.{Chunks, IsTree, PageTree}
use Rattle.bx_views.specs.Truths.{Held, Hints, Truth, with_draft}

module _ (areas : ℕ) (reads : Reads) (chunks : Chunks) (root : ℕ) (tree : PageTree) (target : ℕ) (asked : Mode) (key : List ℕ) (few : areas ≤ 64) (sees : Sees areas reads chunks) (is : IsTree chunks root tree) (hints : HintsAgree areas reads.hint chunks root tree) where
  asked_slot : (low : Option Place) (spot : _) (at : ℕ) (mode : Mode) → IsOnWay hints.home root hints.most tree target key low spot → MayAsk reads target asked spot at mode → IsSlot areas at
  asked_slot low spot at mode w as_said = slot_of_spot areas reads chunks root tree target asked key few sees is hints low spot w
  asked_slot low spot at mode w shared = slot_of_spot areas reads chunks root tree target asked key few sees is hints low spot w
  asked_slot low spot at mode w (landed page finds level) = slot_of_spot areas reads chunks root tree target asked key few sees is hints low spot w

  path_slot : (n : ℕ) (low : Option Place) (spot : _) (at : ℕ) (mode : Mode) → OnPath reads target asked key n spot at mode → IsOnWay hints.home root hints.most tree target key low spot → IsSlot areas at
  unfolding OnPath
  path_slot zero low spot at mode on w = absurd on
  path_slot (suc n) low spot at mode (inl may) w = asked_slot low spot at mode w may
  path_slot (suc n) low spot at mode (inr on) w =
      path_slot n (Some (record { level = w.rank; begins = w.begins })) on.2 at mode on.4
      (subst (After hints.home root hints.most tree target key (record { level = w.rank; begins = w.begins })) on.3 (step areas reads chunks root tree target asked key sees is hints low spot on.0 on.1 w))

-- what is on the path to a leaf is a block of the volume
pub leaf_block : (areas : ℕ) (held : Held) (hints : Hints) (truth : Truth) (draft : List Changed) (root : ℕ) (tree : PageTree) (key : List ℕ) (at : ℕ) (mode : Mode) → Under areas held hints truth draft root tree
    → OnLeafPath (reads_with held hints draft) root key at mode → is_block areas at ≡ true
leaf_block areas held hints truth draft root tree key at mode u on =
    let a = agrees areas held hints truth draft root tree u in
    slot_is_block areas at
    (path_slot areas (reads_with held hints draft) (chunks_of areas (with_draft truth draft)) root tree 0 Exclusive key a.few a.sees a.is a.hints most None (start root Exclusive) at mode on
    (on_way areas (reads_with held hints draft) (chunks_of areas (with_draft truth draft)) root tree 0 Exclusive key a.sees a.is a.hints (omega arith)))

-- so are those of taking an entry out
pub take_block : (areas : ℕ) (held : Held) (hints : Hints) (truth : Truth) (draft : List Changed) (root : ℕ) (tree : PageTree) (number : ℕ) (name : List ℕ) (at : ℕ) (mode : Mode) → Under areas held hints truth draft root tree
    → OnTakePath held hints draft root number name at mode → is_block areas at ≡ true
take_block areas held hints truth draft root tree number name at mode u (inl on) = leaf_block areas held hints truth draft root tree (name_key name) at mode u on
take_block areas held hints truth draft root tree number name at mode u (inr on) =
    let one = removes_in areas held hints truth draft on.mid root tree (name_key name) u (Ok tt) on.named in
    leaf_block areas held hints truth on.mid root one.1.after (entry_key number) at mode one.1.under on.numbered
