-- A tree of a volume has fewer levels than the volume has slots.
use Rattle.std.proofs.Common.{◌≡◌, ℕ, zero, suc, ◌+◌, ◌*◌, ◌<◌, ◌≤◌, List, [], ◌∷◌, length, refl, sym, ap, ◌∙◌, arith}
use Rattle.std.specs.List.{AllByRecursion}
use Rattle.bx_layout.specs.Areas.{generation_in}
use Rattle.bx_page.specs.Contents.{Contents}
use Rattle.bx_places.specs.Places.{block_area, block_slot}
use Rattle.bx_truth.specs.Chunks.{IsSlot, block_at, chunks_of, handle_of, word_at}
use Rattle.bx_truth.specs.PageTrees.{Node, IsIn, IsNode, IsChain, PageTree, IsTree}
use Rattle.bx_views.specs.Truths.{Truth}
use Rattle.bx_blink.proofs.Pigeons.{Distinct, pigeons}
use Rattle.bx_blink.proofs.Sees.{chunk_is}
use Rattle.bx_leaves.proofs.Apart.{same_page}
use Rattle.bx_leaves.proofs.Members.{in_head}

-- the place of a block among all slots
abbrev place_of : ℕ → ℕ
place_of block = 960 * block_area block + block_slot block

one_block : (a b : ℕ) → block_slot a < 960 → block_slot b < 960 → place_of a ≡ place_of b → a ≡ b
one_block a b x y e = omega (arith, x, y, e)

module _ (areas : ℕ) (few : areas ≤ 64) (truth : Truth) (root : ℕ) (tree : PageTree) (is : IsTree (chunks_of areas truth) root tree) where
  abbrev first_of : List Node → Node
  first_of [] = is.top
  first_of (x ∷ xs) = x

  first_in : (nodes : List Node) → IsChain nodes → IsIn (first_of nodes) nodes
  first_in [] chain = absurd chain
  first_in (x ∷ xs) chain = in_head x xs

  node_at : (l : ℕ) → l ≤ tree.height → IsNode (chunks_of areas truth) l (first_of (tree.level l))
  node_at l within = (is.levels l within).nodes_are (first_of (tree.level l)) (first_in (tree.level l) (is.levels l within).chain)

  abbrev at : ℕ → ℕ
  at l = place_of (block_at (first_of (tree.level l)).handle)

  slot_at : (l : ℕ) → l ≤ tree.height → IsSlot areas (block_at (first_of (tree.level l)).handle)
  slot_at l within = let n = node_at l within in (chunk_is areas truth (first_of (tree.level l)).handle n.block n.chunk).slot

  below : (l : ℕ) → l ≤ tree.height → place_of (block_at (first_of (tree.level l)).handle) < 61440
  below l within = let s = slot_at l within in let a = s.area in let b = s.slot in omega (arith, few, a, b)

  one_level : (k l : ℕ) → k ≤ tree.height → l ≤ tree.height → place_of (block_at (first_of (tree.level k)).handle) ≡ place_of (block_at (first_of (tree.level l)).handle) → k ≡ l
  one_level k l kw lw e =
      let m = node_at k kw in
      let n = node_at l lw in
      let c = chunk_is areas truth (first_of (tree.level k)).handle m.block m.chunk in
      let d = chunk_is areas truth (first_of (tree.level l)).handle n.block n.chunk in
      let blocks : block_at (first_of (tree.level k)).handle ≡ block_at (first_of (tree.level l)).handle = one_block (block_at (first_of (tree.level k)).handle) (block_at (first_of (tree.level l)).handle) (c.slot).slot (d.slot).slot e in
      let handles : (first_of (tree.level k)).handle ≡ (first_of (tree.level l)).handle = c.is_handle ∙ ap (λ (b : ℕ). handle_of b (generation_in (word_at truth b))) blocks ∙ sym d.is_handle in
      sym m.same_level ∙ ap (λ (p : Contents). p.level) (same_page (chunks_of areas truth) k l (first_of (tree.level k)) (first_of (tree.level l)) m n handles) ∙ n.same_level

  abbrev places : ℕ → List ℕ
  places zero = []
  places (suc n) = place_of (block_at (first_of (tree.level n)).handle) ∷ places n

  length-places : (n : ℕ) → length (places n) ≡ n
  length-places zero = refl
  length-places (suc n) = ap suc (length-places n)

  all_below : (n : ℕ) → n ≤ tree.height + 1 → AllByRecursion (λ x. x < 61440) (places n)
  all_below zero within = tt
  all_below (suc n) within = (below n (omega (arith, within)), all_below n (omega (arith, within)))

  apart : (l n : ℕ) → l ≤ tree.height → n ≤ l → AllByRecursion (λ y. place_of (block_at (first_of (tree.level l)).handle) ≡ y → ⊥) (places n)
  apart l zero within le = tt
  apart l (suc n) within le = ((λ e. let same = one_level l n within (omega (arith, within, le)) e in omega (arith, same, le)), apart l n within (omega (arith, le)))

  distinct : (n : ℕ) → n ≤ tree.height + 1 → Distinct (places n)
  distinct zero within = tt
  distinct (suc n) within = (apart n n (omega (arith, within)) (omega arith), distinct n (omega (arith, within)))

  pub few_levels : tree.height < 61440
  few_levels = let most = pigeons 61440 (places (tree.height + 1)) (distinct (tree.height + 1) (omega arith)) (all_below (tree.height + 1) (omega arith)) in omega (arith, most, length-places (tree.height + 1))
