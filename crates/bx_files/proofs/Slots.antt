-- What a search in a tree asks for are blocks of slots of the volume.
use Rattle.std.proofs.Common.{◌≡◌, ℕ, zero, suc, ◌≤◌, true, List, [], Option, Some, None, refl, subst, arith, inl, inr}
use Rattle.std.proofs.lemmas.Bool.{le-leb, lt-ltb}
use Rattle.bx_base.specs.declared.names.Mode.{Mode}
use Rattle.bx_base.specs.declared.names.Mode.TheVariants.{Shared}
use Rattle.bx_inodes.specs.bx_blink.specs.Hints.{HintsAgree, Place, Sees, Under}
use Rattle.bx_inodes.specs.bx_blink.specs.Walks.{MayAsk, OnPath, Reads, as_said, landed, most, reads_with, shared, start}
use Rattle.bx_inodes.specs.bx_blink.proofs.OnWay.{After, IsOnWay}
use Rattle.bx_inodes.specs.bx_blink.proofs.Rights.{on_way, step}
use Rattle.bx_inodes.specs.bx_blink.proofs.Under.{agrees}
use Rattle.bx_inodes.specs.bx_blink.proofs.Visits.{slot_of_spot}
use Rattle.bx_places.specs.Places.{block_area, block_slot, is_block}
use Rattle.bx_chunks.specs.bx_truth.specs.Chunks.{IsSlot, chunks_of}
use Rattle.bx_chunks.specs.bx_truth.specs.PageTrees.{Chunks, IsTree, PageTree}
use Rattle.bx_views.specs.Truths.{Held, Hints, Truth}

-- a slot of a volume is one of its blocks
pub slot_is_block : (areas at : ℕ) → IsSlot areas at → is_block areas at ≡ true
slot_is_block areas at is = let fits : block_slot at ≤ 960 = let less = is.slot in omega (arith, less) in rw (lt-ltb (block_area at) areas is.area, le-leb (block_slot at) 960 fits) refl

module _ (areas : ℕ) (reads : Reads) (chunks : Chunks) (root : ℕ) (tree : PageTree) (target : ℕ) (asked : Mode) (key : List ℕ) (few : areas ≤ 64) (sees : Sees areas reads chunks) (is : IsTree chunks root tree) (hints : HintsAgree areas reads.hint chunks root tree) where
  asked_slot : (low : Option Place) (spot : _) (at : ℕ) (mode : Mode) → IsOnWay hints.home root hints.most tree target key low spot → MayAsk reads target asked spot at mode → IsSlot areas at
  asked_slot low spot at mode w as_said = slot_of_spot areas reads chunks root tree target asked key few sees is hints low spot w
  asked_slot low spot at mode w shared = slot_of_spot areas reads chunks root tree target asked key few sees is hints low spot w
  asked_slot low spot at mode w (landed page finds level) = slot_of_spot areas reads chunks root tree target asked key few sees is hints low spot w

  path_slot : (n : ℕ) (low : Option Place) (spot : _) (at : ℕ) (mode : Mode) → OnPath reads target asked key n spot at mode → IsOnWay hints.home root hints.most tree target key low spot → IsSlot areas at
  unfolding OnPath
  path_slot zero low spot at mode on w = absurd on
  path_slot (suc n) low spot at mode (inl may) w = asked_slot low spot at mode w may
  path_slot (suc n) low spot at mode (inr on) w =
      path_slot n (Some (record { level = w.rank; begins = w.begins })) on.2 at mode on.4
      (subst (After hints.home root hints.most tree target key (record { level = w.rank; begins = w.begins })) on.3 (step areas reads chunks root tree target asked key sees is hints low spot on.0 on.1 w))

-- what a search asks for is a block of the volume
pub search_block : (areas : ℕ) (held : Held) (hints : Hints) (truth : Truth) (root : ℕ) (tree : PageTree) (key : List ℕ) (at : ℕ) (mode : Mode) → Under areas held hints truth [] root tree
    → OnPath (reads_with held hints []) 0 Shared key most (start root Shared) at mode → is_block areas at ≡ true
search_block areas held hints truth root tree key at mode u on =
    let a = agrees areas held hints truth [] root tree u in
    slot_is_block areas at
    (path_slot areas (reads_with held hints []) (chunks_of areas truth) root tree 0 Shared key a.few a.sees a.is a.hints most None (start root Shared) at mode on
    (on_way areas (reads_with held hints []) (chunks_of areas truth) root tree 0 Shared key a.sees a.is a.hints (omega arith)))
