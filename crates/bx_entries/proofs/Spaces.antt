-- Space for entries in leaves: where it comes from, what an entry takes of it, and that it stays.
use Rattle.std.proofs.Common.{◌≡◌, ℕ, ◌+◌, ◌≤◌, ◌<◌, ◌⊎◌, false, List, [], ◌∷◌, ◌++◌, length, sym, ap, ◌∙◌, subst, arith, inl, inr, refl}
use Rattle.std.specs.Prelude.{All, IfSome}
use Rattle.bx_base.specs.declared.names.Mode.TheVariants.{Exclusive}
use Rattle.bx_blink.specs.Hints.{Under}
use Rattle.bx_blink.specs.Places.{IsPlaceOf}
use Rattle.bx_blink.proofs.Under.{agrees}
use Rattle.bx_layout.specs.declared.block.Block.{Block}
use Rattle.bx_leaves.specs.Changes.{IsFullLeaf}
use Rattle.bx_leaves.specs.Leaves.{IsPageNearlyFull}
use Rattle.bx_leaves.proofs.Exchanged.{with_page}
use Rattle.bx_leaves.proofs.Members.{in_left, in_middle, in_right, in_split}
use Rattle.bx_leaves.proofs.Replaced.{Fits, replaced, with_level}
use Rattle.bx_page.specs.Contents.{Contents, size, with_value}
use Rattle.bx_page.specs.Keys.{IsBelow, is_below}
use Rattle.bx_page.proofs.Room.{size_with-le}
use Rattle.bx_page.proofs.Whole.{one_page}
use Rattle.bx_truth.specs.Chunks.{chunks_of}
use Rattle.bx_truth.specs.Edits.{ChunkAnew}
use Rattle.bx_truth.specs.PageTrees.{Chunks, HasPage, IsIn, IsNode, IsTree, Node, PageTree}
use Rattle.bx_views.specs.Truths.{Held, Hints, Truth}
use Rattle.bx_ready.specs.Rooms.{LeafHasRoom}
use Rattle.bx_entries.specs.Rooms.{HasSpace}
use Rattle.bx_ready.proofs.Places.{one_place, place_in}

-- ---- where it comes from

some_same : (a b : Block) → a ≡ b → (p q : Contents) → HasPage p a → HasPage q b → p ≡ q
some_same a b e p q hp hq = one_page p q b.payload (subst (λ (x : Block). HasPage p x) e hp).spells hq.spells

-- a leaf with room in a tree that a view agrees with isn't nearly full in the view
pub space_of : (areas : ℕ) (held : Held) (hints : Hints) (truth : Truth) (root : ℕ) (tree : PageTree) (key : List ℕ) → Under areas held hints truth [] root tree → LeafHasRoom tree key → HasSpace held tree key 544
space_of areas held hints truth root tree key u r = record { handle = r.handle; page = r.page; place = r.place; room = r.room; roomy = full }
  where
    node : IsNode (chunks_of areas truth) 0 r.place.node
    node = (u.is.levels 0 r.place.within).nodes_are r.place.node r.place.there

    full : IsPageNearlyFull held r.handle → ⊥
    full n =
        let same = (agrees areas held hints truth [] root tree u).sees.same r.handle Exclusive n.block node.block n.there (ap (chunks_of areas truth) (sym r.place.handle_is) ∙ node.chunk) in
        let pages : n.page ≡ r.page = some_same n.block node.block same n.page r.place.node.page n.has node.has ∙ r.place.page_is in
        let sizes = ap size pages in
        let nearly = n.full in
        let room = r.room in
        omega (arith, sizes, nearly, room)

-- ---- an entry finds it

pub finds_space : (chunks : Chunks) (root : ℕ) (held : Held) (tree : PageTree) (key value : List ℕ) (space leaf : ℕ) → IsTree chunks root tree → HasSpace held tree key space → length key + length value ≤ 268 → 272 ≤ space
    → IsFullLeaf held tree key value leaf → ⊥
finds_space chunks root held tree key value space leaf is s short enough f = by f.full
  where
    same : (leaf ≡ s.handle) × (f.page ≡ s.page)
    same = one_place chunks root tree 0 key s.handle leaf s.page f.page is s.place f.place

    by : IsPageNearlyFull held leaf ⊎ (4096 < size (with_value f.page key value)) → ⊥
    by (inl n) = s.roomy (subst (IsPageNearlyFull held) same.0 n)
    by (inr big) =
        let sizes = ap size same.1 in
        let room = s.room in
        omega (arith, short, enough, big, sizes, room, size_with-le f.page key value)

-- ---- it stays where a leaf is rewritten that grows little

module _ (chunks now : Chunks) (root : ℕ) (held : Held) (tree : PageTree) (is : IsTree chunks root tree) (at : List ℕ) (leaf : ℕ) (was page : Contents) (block : Block) (place : IsPlaceOf tree 0 at leaf was)
    (anew : ChunkAnew chunks now leaf block) (has : HasPage page block) (level_is : page.level ≡ was.level) (right_is : page.right ≡ was.right) (high_is : page.high ≡ was.high)
    (lowest : All (λ entry. is_below entry.key place.node.begins ≡ false) page.entries) where
  abbrev node : Node
  node = place.node

  abbrev before : List Node
  before = place.there.before

  abbrev behind : List Node
  behind = place.there.behind

  abbrev nodes : List Node
  nodes = before ++ with_page node page ∷ behind

  after : PageTree
  after = with_level tree 0 nodes

  fits : Fits tree 0 place.node page block
  fits = record {
    has = has;
    same_level = level_is ∙ ap (λ (c : Contents). c.level) (sym place.page_is);
    right = right_is ∙ ap (λ (c : Contents). c.right) (sym place.page_is);
    high = high_is ∙ ap (λ (c : Contents). c.high) (sym place.page_is);
    lowest = lowest;
    interior = λ under e. absurd (omega (arith, e));
  }

  anew_node : ChunkAnew chunks now place.node.handle block
  anew_node = subst (λ (h : ℕ). ChunkAnew chunks now h block) (sym place.handle_is) anew

  is_after : IsTree now root after
  unfolding after
  is_after = replaced chunks now root tree 0 before node behind page block is place.within place.there.parts anew_node fits

  in_after : (x : Node) → IsIn x nodes → IsIn x (after.level 0)
  unfolding after
  in_after x i = i

  height_after : after.height ≡ tree.height
  unfolding after
  height_after = refl

  module _ (key : List ℕ) (space left : ℕ) (s : HasSpace held tree key space) (less : left ≤ space) (grows : size page + left ≤ size was + space) where
    here : s.place.node ≡ node → HasSpace held after key left
    here same = record {
      handle = s.handle;
      page = page;
      place = record {
        node = with_page node page;
        within = omega arith;
        there = in_after (with_page node page) (in_middle (with_page node page) before behind);
        handle_is = ap (λ (n : Node). n.handle) (sym same) ∙ s.place.handle_is;
        page_is = refl;
        from = subst (λ (n : Node). is_below key n.begins ≡ false) same s.place.from;
        to = subst (λ o. IfSome o (IsBelow key)) (ap (λ (n : Node). n.page.high) same ∙ sym fits.high) s.place.to;
      };
      room =
          let pages : s.page ≡ was = sym s.place.page_is ∙ ap (λ (n : Node). n.page) same ∙ place.page_is in
          let sizes = ap size pages in
          let room = s.room in
          omega (arith, sizes, room, grows);
      roomy = s.roomy;
    }

    elsewhere : IsIn s.place.node nodes → HasSpace held after key left
    elsewhere there = record {
      handle = s.handle;
      page = s.page;
      place = record {
        node = s.place.node;
        within = omega arith;
        there = in_after s.place.node there;
        handle_is = s.place.handle_is;
        page_is = s.place.page_is;
        from = s.place.from;
        to = s.place.to;
      };
      room = let room = s.room in omega (arith, room, less);
      roomy = s.roomy;
    }

    in_this : HasSpace held after key left
    in_this = elim (in_split s.place.node node before behind (subst (IsIn s.place.node) place.there.parts s.place.there)) [
      | inl e ↦ here e
      | inr (inl i) ↦ elsewhere (in_left s.place.node before (with_page node page ∷ behind) i)
      | inr (inr i) ↦ elsewhere (in_right s.place.node before (with_page node page ∷ behind) (in_right s.place.node (with_page node page ∷ []) behind i))
    ]

    -- in any tree that the chunks hold then
    pub space_stays : (other : PageTree) → IsTree now root other → HasSpace held other key left
    space_stays other is_other =
        let t = in_this in
        record { handle = t.handle; page = t.page; place = place_in now root after other key t.handle t.page is_after is_other t.place; room = t.room; roomy = t.roomy }

-- it stays in the same tree
pub same_space : (chunks : Chunks) (root : ℕ) (held : Held) (tree other : PageTree) (key : List ℕ) (space : ℕ) → IsTree chunks root tree → IsTree chunks root other → HasSpace held tree key space → HasSpace held other key space
same_space chunks root held tree other key space is_tree is_other s =
    record { handle = s.handle; page = s.page; place = place_in chunks root tree other key s.handle s.page is_tree is_other s.place; room = s.room; roomy = s.roomy }
