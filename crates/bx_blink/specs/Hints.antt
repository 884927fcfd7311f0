-- When what a call reads agrees with the chunks, and its hints with a tree.
use Rattle.std.specs.Prelude.{◌≡◌, ℕ, ◌-◌, ◌<◌, ◌≤◌, ◌⊎◌, false, List, [], length, All, Option, Some, None}
use Rattle.std.specs.Option.{option_map}
use Rattle.std.specs.Int.{w64, from_be_bytes}
use Rattle.bx_base.specs.declared.names.Mode.{Mode}
use Rattle.bx_truth.specs.bx_layout.specs.declared.block.Block.{Block}
use Rattle.bx_page.specs.declared.entry.Entry.{Entry}
use Rattle.bx_page.specs.Keys.{is_below, IsBelow}
use Rattle.bx_page.specs.Contents.{Contents, first}
use Rattle.bx_truth.specs.PageTrees.{Chunks, Node, IsIn, HasPage, IsLast, PageTree, IsTree}
use Rattle.bx_blink.specs.Walks.{Reads}
use Rattle.bx_truth.specs.bx_records.specs.Drafts.{Changed}
use Rattle.bx_truth.specs.bx_views.specs.Truths.{Truth, Held, Hints, IsTruth, with_draft}
use Rattle.bx_truth.specs.Chunks.{block_at, IsSlot, IsName, IsChunked, chunks_of}
use Rattle.bx_truth.specs.Stands.{WasGiven}

-- What a call reads is what the chunks have: a held block is the chunk of each handle in use that is in it, a header names its
-- chunk's handle, and where the header of a held block names a handle of the volume, that handle is in use.
pub record Sees (areas : ℕ) (reads : Reads) (chunks : Chunks) : Type 0 where
  pub same : (handle : ℕ) (mode : Mode) (block chunk : Block) → reads.held (block_at handle) mode ≡ Some block → chunks handle ≡ Some chunk → block ≡ chunk
  pub header : (handle : ℕ) (chunk : Block) → chunks handle ≡ Some chunk → chunk.handle ≡ handle
  pub slot : (handle : ℕ) (chunk : Block) → chunks handle ≡ Some chunk → IsSlot areas (block_at handle)
  pub named : (handle : ℕ) (mode : Mode) (block : Block) → IsName areas handle → reads.held (block_at handle) mode ≡ Some block → block.handle ≡ handle → chunks handle ≡ Some block

-- where a page is or was: its level, and the key where its range begins
pub record Place : Type 0 where
  pub level : ℕ
  pub begins : List ℕ

-- the entry names a page that is or was one level lower, whose range begins at or below the entry's key
pub record LeadsDown (home : ℕ → Option Place) (level : ℕ) (entry : Entry) : Type 0 where
  pub handle : ℕ
  pub begins : List ℕ
  pub eight : length entry.value ≡ 8
  pub value : from_be_bytes w64 entry.value ≡ handle
  pub home_is : home handle ≡ Some (record { level = level - 1; begins = begins })
  pub key : is_below entry.key begins ≡ false

-- the right link names a page that is or was of this level, whose range begins at the high key
pub record LeadsRight (home : ℕ → Option Place) (page : Contents) (begins : List ℕ) : Type 0 where
  pub high : List ℕ
  pub high_is : page.high ≡ Some high
  pub above : IsBelow begins high
  pub home_is : home page.right ≡ Some (record { level = page.level; begins = high })

-- an old page of this tree
pub record IsOld (home : ℕ → Option Place) (begins : List ℕ) (page : Contents) : Type 0 where
  pub first : option_map (λ entry. entry.key) (first page.entries) ≡ Some begins
  pub down : All (LeadsDown home page.level) page.entries
  pub right : IsLast page ⊎ LeadsRight home page begins

-- a page of the tree is at a place
pub record PlaceStands (tree : PageTree) (handle : ℕ) (place : Place) : Type 0 where
  pub node : Node
  pub within : place.level ≤ tree.height
  pub there : IsIn node (tree.level place.level)
  pub handle_is : node.handle ≡ handle
  pub begins_is : node.begins ≡ place.begins

-- The hints agree with a tree: there are the places where its pages are, or were before they went, such that each page but
-- the root that is in use is at its place, and each hint of a page above the leaves leads to such pages.
pub record HintsAgree (areas : ℕ) (hint : Hints) (chunks : Chunks) (root : ℕ) (tree : PageTree) : Type 0 where
  pub home : ℕ → Option Place
  pub names : (handle : ℕ) (place : Place) → home handle ≡ Some place → IsName areas handle
  pub root_apart : home root ≡ None
  pub most : ℕ
  pub highest : tree.height ≤ most
  pub placed : (level : ℕ) (node : Node) → level < tree.height → IsIn node (tree.level level) → home node.handle ≡ Some (record { level = level; begins = node.begins })
  pub stands : (handle : ℕ) (place : Place) (block : Block) → home handle ≡ Some place → chunks handle ≡ Some block → PlaceStands tree handle place
  pub hints : (handle : ℕ) (place : Place) (block : Block) (page : Contents) → home handle ≡ Some place → hint (block_at handle) ≡ Some block → block.handle ≡ handle → HasPage page block → 0 < page.level
      → (page.level ≡ place.level) × IsOld home place.begins page
  pub root_hints : (block : Block) (page : Contents) → hint (block_at root) ≡ Some block → block.handle ≡ root → HasPage page block → 0 < page.level → (page.level ≤ most) × IsOld home [] page

-- The handles of all pages that are or were in the tree were given out, and those of all hints.
pub record AreGiven (areas : ℕ) (hint : Hints) (truth : Truth) (home : ℕ → Option Place) : Type 0 where
  pub homes : (handle : ℕ) (place : Place) → home handle ≡ Some place → WasGiven areas truth handle
  pub hints : (handle : ℕ) (block : Block) → hint (block_at handle) ≡ Some block → block.handle ≡ handle → IsName areas handle → WasGiven areas truth handle

-- the hints agree with the tree that a truth has under a root, and were given out
pub record HintsFit (areas : ℕ) (hint : Hints) (truth : Truth) (root : ℕ) (tree : PageTree) : Type 0 where
  pub agree : HintsAgree areas hint (chunks_of areas truth) root tree
  pub given : AreGiven areas hint truth agree.home

-- what a call reads agrees with the chunks, which hold this tree under this root, and its hints agree with the tree
pub record Agrees (areas : ℕ) (reads : Reads) (chunks : Chunks) (root : ℕ) (tree : PageTree) : Type 0 where
  pub few : areas ≤ 64
  pub sees : Sees areas reads chunks
  pub is : IsTree chunks root tree
  pub hints : HintsAgree areas reads.hint chunks root tree

-- What a call on a tree rests on, for a truth: what is held is the truth's; the truth with the draft has the rules of chunks, and
-- holds the tree under the root; and the hints agree with the tree, and were given out.
pub record Under (areas : ℕ) (held : Held) (hint : Hints) (truth : Truth) (draft : List Changed) (root : ℕ) (tree : PageTree) : Type 0 where
  pub few : areas ≤ 64
  pub same : IsTruth held truth
  pub chunked : IsChunked areas (with_draft truth draft)
  pub is : IsTree (chunks_of areas (with_draft truth draft)) root tree
  pub hints : HintsFit areas hint (with_draft truth draft) root tree
