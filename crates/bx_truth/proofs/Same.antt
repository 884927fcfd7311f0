-- A tree depends on the blocks of the volume alone.
use Rattle.std.proofs.Common.{◌≡◌, ℕ, ◌%◌, ◌^◌, ◌<◌, ◌≤◌, arith, Bool, true, false, sym, ap, ◌∙◌, subst, refl, Some, None}
use Rattle.std.specs.Prelude.{◌&&◌, ◌==◌, if◌then◌else◌}
use Rattle.std.proofs.lemmas.Bool.Decides.{nat_tests}
use mathlib.Core.Path.{fun_ext}
use Rattle.bx_views.specs.bx_layout.specs.declared.block.Block.{Block}
use Rattle.bx_views.specs.bx_layout.specs.Areas.{in_use, generation_in}
use Rattle.bx_places.specs.Places.{IsBlock, block_area, block_slot}
use Rattle.bx_model.specs.declared.tree.Tree.{Tree}
use Rattle.bx_truth.specs.Chunks.{IsSlot, IsAreaBlock, IsChunked, is_slot, chunks_of, block_at, handle_of, own_block, word_in, word_at, dead_in, dead_at}
use Rattle.bx_truth.specs.Stands.{StandsFor, AreFiles}
use Rattle.bx_truth.specs.PageTrees.{Chunks}
use Rattle.bx_truth.specs.Truth.{AreSame}
use Rattle.bx_views.specs.Truths.{Truth}

pub slot_tested : (areas block : ℕ) → is_slot areas block ≡ true → IsSlot areas block
slot_tested areas block is = record { area = grind (arith, nat_tests, is); slot = grind (arith, nat_tests, is) }

pub slot_block : (areas block : ℕ) → IsSlot areas block → IsBlock areas block
slot_block areas block is = record { area = is.area; slot = let less = is.slot in omega (arith, less) }

pub own_is_block : (areas area : ℕ) → area < areas → IsBlock areas (own_block area)
own_is_block areas area less = record { area = omega (arith, less); slot = omega arith }

-- what a chunk is
pub record IsChunk (areas : ℕ) (truth : Truth) (handle : ℕ) (block : Block) : Type 0 where
  pub slot : IsSlot areas (block_at handle)
  pub used : in_use (word_at truth (block_at handle)) ≡ true
  pub is_handle : handle ≡ handle_of (block_at handle) (generation_in (word_at truth (block_at handle)))
  pub is_block : truth (block_at handle) ≡ block

tests : (t u e : Bool) (b c : Block) → (if (t && (u && e)) then Some b else None) ≡ Some c → (t ≡ true) × (u ≡ true) × (e ≡ true) × (b ≡ c)
tests true true true b c is = (refl, refl, refl, cc)
tests true true false b c is = absurd cc
tests true false e b c is = absurd cc
tests false u e b c is = absurd cc

pub chunk_is : (areas : ℕ) (truth : Truth) (handle : ℕ) (block : Block) → chunks_of areas truth handle ≡ Some block → IsChunk areas truth handle block
chunk_is areas truth handle block is =
    let t = tests (is_slot areas (block_at handle)) (in_use (word_at truth (block_at handle))) (handle == handle_of (block_at handle) (generation_in (word_at truth (block_at handle)))) (truth (block_at handle)) block is in
    record {
      slot = slot_tested areas (block_at handle) t.0;
      used = t.1;
      is_handle = equal handle (handle_of (block_at handle) (generation_in (word_at truth (block_at handle)))) t.2;
      is_block = t.3;
    }
  where
    equal : (a b : ℕ) → (a == b) ≡ true → a ≡ b
    equal a b is = grind (arith, nat_tests, is)

module _ (areas : ℕ) (truth other : Truth) (same : AreSame areas truth other) where
  pub word_same : (block : ℕ) → IsSlot areas block → word_at other block ≡ word_at truth block
  word_same block is = ap (λ (b : Block). word_in b.payload (block_slot block)) (sym (same (own_block (block_area block)) (own_is_block areas (block_area block) is.area)))

  pub dead_same : (block : ℕ) → IsSlot areas block → dead_at other block ≡ dead_at truth block
  dead_same block is = ap (λ (b : Block). dead_in b.payload (block_slot block)) (sym (same (own_block (block_area block)) (own_is_block areas (block_area block) is.area)))

  chunk_by : (test : Bool) (w v handle block : ℕ) (b c : Block) → (test ≡ true → w ≡ v) → (test ≡ true → b ≡ c)
      → (if (test && (in_use w && (handle == handle_of block (generation_in w)))) then Some b else None) ≡ (if (test && (in_use v && (handle == handle_of block (generation_in v)))) then Some c else None)
  chunk_by false w v handle block b c words blocks = refl
  chunk_by true w v handle block b c words blocks =
      let e = words refl in let f = blocks refl in
      λ i. if (in_use (e i) && (handle == handle_of block (generation_in (e i)))) then Some (f i) else None

  pub chunk_same : (handle : ℕ) → chunks_of areas other handle ≡ chunks_of areas truth handle
  chunk_same handle = chunk_by (is_slot areas (block_at handle)) (word_at other (block_at handle)) (word_at truth (block_at handle)) handle (block_at handle) (other (block_at handle)) (truth (block_at handle))
      (λ is. word_same (block_at handle) (slot_tested areas (block_at handle) is))
      (λ is. sym (same (block_at handle) (slot_block areas (block_at handle) (slot_tested areas (block_at handle) is))))

  pub chunks_same : chunks_of areas truth ≡ chunks_of areas other
  chunks_same = fun_ext (λ handle. sym (chunk_same handle))

  pub chunked_same : IsChunked areas truth → IsChunked areas other
  chunked_same is = record {
    own = λ area less. subst (IsAreaBlock area) (same (own_block area) (own_is_block areas area less)) (is.own area less);
    used = λ block slot used.
        let w = word_same block slot in
        ap (λ (b : Block). b.handle) (sym (same block (slot_block areas block slot))) ∙ is.used block slot (sym (ap in_use w) ∙ used) ∙ ap (λ (n : ℕ). handle_of block (generation_in n)) (sym w);
    unused = λ block slot unused.
        ap (λ (b : Block). b.handle) (sym (same block (slot_block areas block slot))) ∙ is.unused block slot (sym (ap in_use (word_same block slot)) ∙ unused);
  }

  pub stands_same : (tree : Tree) → StandsFor areas truth tree → StandsFor areas other tree
  stands_same tree is = record {
    chunked = chunked_same is.chunked;
    owner = is.owner;
    stored = is.stored;
    are_files = subst (λ (c : Chunks). AreFiles c is.owner is.stored tree.files) chunks_same is.are_files;
    marks = record {
      dead = λ handle block chunk itself kind.
          let before = chunk_is areas other handle block chunk in
          dead_same (block_at handle) before.slot ∙ is.marks.dead handle block (sym (chunk_same handle) ∙ chunk) itself kind;
      marked = λ block slot marked.
          let m = is.marks.marked block slot (sym (dead_same block slot) ∙ marked) in
          (m.0, m.1, (λ none. m.2 (sym (chunk_same m.0) ∙ none)), m.3, m.4);
    };
    areas_are = is.areas_are;
    root_is = is.root_is;
    has_root = is.has_root;
    in_order = is.in_order;
    given = λ handle given. let was = is.given handle given in record {
      slot = was.slot;
      generation = let w = word_same (block_at handle) was.slot in subst (λ (n : ℕ). handle % 2 ^ 32 ≤ generation_in n) (sym w) was.generation;
    };
  }
