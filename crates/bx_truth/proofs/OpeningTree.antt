-- A volume that was just made stands for the tree that has the root alone.
use Rattle.std.proofs.Common.{◌≡◌, ℕ, zero, suc, ◌+◌, ◌^◌, ◌<◌, ◌≤◌, ◌⊎◌, ⊎_elim, inl, inr, arith, Bool, true, false, List, [], ◌∷◌, ◌++◌, length, sym, ap, ◌∙◌, subst, refl, Some, None}
use Rattle.std.specs.Prelude.{◌≢◌, ◌&&◌, ◌==◌, if◌then◌else◌, slice_index_or}
use Rattle.std.proofs.lemmas.Bool.Decides.{nat_tests}
use Rattle.std.proofs.lemmas.List.{length-append}
use Rattle.bx_views.specs.bx_layout.specs.declared.block.Block.{Block}
use Rattle.bx_views.specs.bx_layout.specs.Areas.{in_use, generation_in}
use Rattle.bx_views.specs.bx_layout.specs.Inodes.{IsInode}
use Rattle.bx_model.specs.bx_tree_files.specs.Files.{file_at}
use Rattle.bx_model.specs.Opening.{opening, opening_root}
use Rattle.bx_page.specs.Contents.{IsPage}
use Rattle.bx_page.proofs.Whole.{page_written}
use Rattle.bx_truth.specs.Chunks.{IsSlot, is_slot, chunks_of, block_at, handle_of, word_at}
use Rattle.bx_truth.specs.Opening.{opening_truth, opening_inode, empty_page, page_handle, root_block, page_block}
use Rattle.bx_truth.specs.Stands.{StandsFor, AreFiles, IsOwned, WasGiven}
use Rattle.bx_truth.specs.Stored.{Owner, Inodes, PageOf, Stored, HasTree, AreNames}
use Rattle.bx_truth.specs.PageTrees.{Node, PageTree, IsTree, IsNode, IsIn}
use Rattle.bx_truth.proofs.OpeningSlots.{word_cases, dead_of, opening_chunked}
use Rattle.bx_truth.proofs.Cases.{same_or, eq_false}
use Rattle.bx_truth.proofs.Same.{IsChunk, chunk_is}

-- ---- the page of the root's tree

pub empty_is : IsPage empty_page
empty_is = record {
  level = omega arith;
  right = omega arith;
  high = tt;
  entries = λ k d less. absurd (omega (arith, less));
  rises = λ i j d less within. absurd (omega (arith, within));
  below = tt;
  children = λ up. absurd (omega (arith, up));
  room = omega arith;
}

abbrev the_node : Node
the_node = record { handle = page_handle; begins = []; page = empty_page }

abbrev the_tree : PageTree
the_tree = record { height = 0; level = λ level. the_node ∷ [] }

abbrev the_stored : ℕ → Stored
the_stored handle = record { inode = opening_inode; tree = the_tree }

abbrev the_owner : ℕ → Owner
the_owner handle = if handle == 1 then Inodes else PageOf 1

-- ---- the chunks

all_tests : (t u e : Bool) (b : Block) → t ≡ true → u ≡ true → e ≡ true → (if (t && (u && e)) then Some b else None) ≡ Some b
all_tests true true true b is_t is_u is_e = refl
all_tests true true false b is_t is_u is_e = absurd cc
all_tests true false e b is_t is_u is_e = absurd cc
all_tests false u e b is_t is_u is_e = absurd cc

module _ (areas : ℕ) (some : 1 ≤ areas) where
  slot_is : (block : ℕ) → block < 2 → is_slot areas block ≡ true
  slot_is block less = grind (arith, nat_tests, some, less)

  slot_there : (block : ℕ) → block < 2 → IsSlot areas block
  slot_there block less = record { area = omega (arith, less, some); slot = omega (arith, less) }

  word_there : (block : ℕ) → (block ≡ 0) ⊎ (block ≡ 1) → word_at opening_truth block ≡ 2 ^ 31 + 1
  word_there block which = by (word_cases areas block (slot_there block (⊎_elim (λ e. omega (arith, e)) (λ e. omega (arith, e)) which)))
    where
      by : (((block ≡ 0) ⊎ (block ≡ 1)) × (word_at opening_truth block ≡ 2 ^ 31 + 1)) ⊎ ((block ≢ 0) × (block ≢ 1) × (word_at opening_truth block ≡ 0)) → word_at opening_truth block ≡ 2 ^ 31 + 1
      by (inl x) = x.1
      by (inr x) = ⊎_elim (λ e. absurd (x.0 e)) (λ e. absurd (x.1 e)) which

  pub root_chunk : chunks_of areas opening_truth 1 ≡ Some root_block
  root_chunk = all_tests (is_slot areas 0) (in_use (word_at opening_truth 0)) (1 == handle_of 0 (generation_in (word_at opening_truth 0))) root_block
      (slot_is 0 (omega arith)) (ap in_use (word_there 0 (inl refl))) (ap (λ (w : ℕ). 1 == handle_of 0 (generation_in w)) (word_there 0 (inl refl)))

  pub page_chunk : chunks_of areas opening_truth page_handle ≡ Some page_block
  page_chunk = all_tests (is_slot areas 1) (in_use (word_at opening_truth 1)) (page_handle == handle_of 1 (generation_in (word_at opening_truth 1))) page_block
      (slot_is 1 (omega arith)) (ap in_use (word_there 1 (inr refl))) (ap (λ (w : ℕ). page_handle == handle_of 1 (generation_in w)) (word_there 1 (inr refl)))

  pub chunk_cases : (handle : ℕ) (block : Block) → chunks_of areas opening_truth handle ≡ Some block
      → ((handle ≡ 1) × (block ≡ root_block)) ⊎ ((handle ≡ page_handle) × (block ≡ page_block))
  chunk_cases handle block chunk = by (chunk_is areas opening_truth handle block chunk)
    where
      by : IsChunk areas opening_truth handle block → ((handle ≡ 1) × (block ≡ root_block)) ⊎ ((handle ≡ page_handle) × (block ≡ page_block))
      by c = which (word_cases areas (block_at handle) c.slot)
        where
          which : (((block_at handle ≡ 0) ⊎ (block_at handle ≡ 1)) × (word_at opening_truth (block_at handle) ≡ 2 ^ 31 + 1)) ⊎ ((block_at handle ≢ 0) × (block_at handle ≢ 1) × (word_at opening_truth (block_at handle) ≡ 0))
              → ((handle ≡ 1) × (block ≡ root_block)) ⊎ ((handle ≡ page_handle) × (block ≡ page_block))
          which (inl (inl root, w)) = inl (c.is_handle ∙ ap (λ (n : ℕ). handle_of (block_at handle) (generation_in n)) w ∙ ap (λ (n : ℕ). handle_of n 1) root, sym c.is_block ∙ ap opening_truth root)
          which (inl (inr page, w)) = inr (c.is_handle ∙ ap (λ (n : ℕ). handle_of (block_at handle) (generation_in n)) w ∙ ap (λ (n : ℕ). handle_of n 1) page, sym c.is_block ∙ ap opening_truth page)
          which (inr (not_root, not_page, w)) = let no : in_use 0 ≡ true = sym (ap in_use w) ∙ c.used in absurd cc

  -- ---- the tree

  only : (node : Node) → IsIn node (the_node ∷ []) → node ≡ the_node
  only node there = by there.before there.behind there.parts
    where
      by : (before behind : List Node) → the_node ∷ [] ≡ before ++ node ∷ behind → node ≡ the_node
      by [] behind parts = let same : the_node ≡ node = cc in sym same
      by (x ∷ before) behind parts = absurd (omega (arith, ap length parts, length-append before (node ∷ behind)))

  node_is : IsNode (chunks_of areas opening_truth) 0 the_node
  unfolding page_block
  node_is = record {
    block = page_block;
    chunk = page_chunk;
    has = record { kind = refl; spells = page_written empty_page empty_is };
    same_level = refl;
    lowest = λ k d less. absurd (omega (arith, less));
    highest = tt;
  }

  tree_is : IsTree (chunks_of areas opening_truth) page_handle the_tree
  tree_is = record {
    levels = λ level le. record {
      nodes_are = λ node there. subst (IsNode (chunks_of areas opening_truth) level) (sym (only node there)) (subst (λ (n : ℕ). IsNode (chunks_of areas opening_truth) n the_node) (none level le) node_is);
      chain = (refl, record { right = refl; high = refl });
    };
    interior = λ level less. absurd (omega (arith, less));
    top = the_node;
    root_alone = refl;
    root_is = refl;
  }
    where
      none : (level : ℕ) → level ≤ 0 → 0 ≡ level
      none level le = omega arith

  has_tree : HasTree (chunks_of areas opening_truth) the_owner 1 (the_stored 1)
  has_tree = record {
    is = tree_is;
    pages = λ node page. subst (λ (n : Node). the_owner n.handle ≡ PageOf 1) (sym (only node page.there)) refl;
  }

  pub no_names : AreNames [] []
  no_names = record {
    numbered = λ name within. absurd (omega (arith, within.1));
    named = λ name within. absurd (omega (arith, within.1));
    only = λ key value is. absurd cc;
    number_fits = λ name within. absurd (omega (arith, within.1));
    handle_fits = λ name within. absurd (omega (arith, within.1));
    in_order = λ i j d less within. absurd (omega (arith, within));
  }

  -- ---- the files

  inode_is : IsInode opening_inode
  inode_is = record {
    kind = inr (inr (inl refl));
    mode = omega arith;
    nlink = omega arith;
    uid = omega arith;
    gid = omega arith;
    size = omega arith;
    tail = omega arith;
    atime = (omega arith, omega arith);
    mtime = (omega arith, omega arith);
    ctime = (omega arith, omega arith);
    tree = omega arith;
    parent = omega arith;
    next = omega arith;
    path = omega arith;
  }

  root_owned : IsOwned (chunks_of areas opening_truth) the_owner the_stored (opening_root ∷ []) 1 root_block Inodes
  unfolding root_block
  root_owned = record {
    inode = record { kind = refl; spells = record { is = inode_is; parts = refl } };
    file = (
      refl,
      record { kind = refl; mode = refl; nlink = refl; uid = refl; gid = refl; atime = refl; mtime = refl; ctime = refl },
      record {
        kind = refl;
        tree = has_tree;
        parent_is = refl;
        next_is = refl;
        entries = no_names;
      },
    );
  }

  page_owned : IsOwned (chunks_of areas opening_truth) the_owner the_stored (opening_root ∷ []) page_handle page_block (PageOf 1)
  unfolding page_block
  page_owned = record {
    kind = refl;
    of = record { block = root_block; chunk = root_chunk; itself = refl; has_tree = λ e. absurd (omega (arith, e)) };
    node = the_node;
    there = record { level = 0; within = omega arith; there = record { before = []; behind = []; parts = refl } };
    names = refl;
  }

  some_there : (block : Block) → chunks_of areas opening_truth 1 ≡ Some block → chunks_of areas opening_truth 1 ≢ None
  some_there block is none = absurd cc

  are_files : AreFiles (chunks_of areas opening_truth) the_owner the_stored (opening_root ∷ [])
  are_files = record {
    each = λ handle block chunk. ⊎_elim
        (λ is. subst (λ (h : ℕ). IsOwned (chunks_of areas opening_truth) the_owner the_stored (opening_root ∷ []) h block (the_owner h)) (sym is.0)
        (subst (λ (b : Block). IsOwned (chunks_of areas opening_truth) the_owner the_stored (opening_root ∷ []) 1 b Inodes) (sym is.1) root_owned))
        (λ is. subst (λ (h : ℕ). IsOwned (chunks_of areas opening_truth) the_owner the_stored (opening_root ∷ []) h block (the_owner h)) (sym is.0)
        (subst (λ (b : Block). IsOwned (chunks_of areas opening_truth) the_owner the_stored (opening_root ∷ []) page_handle b (PageOf 1)) (sym is.1) page_owned))
        (chunk_cases handle block chunk);
    all = λ handle file is. ⊎_elim
        (λ root. (ap the_owner root, subst (λ (h : ℕ). chunks_of areas opening_truth h ≢ None) (sym root) (some_there root_block root_chunk)))
        (λ other. let none : file_at (opening_root ∷ []) handle ≡ None = rw (eq_false 1 handle (λ e. other (sym e))) refl in absurd cc)
        (same_or handle 1);
  }

  pub opening_stands : (volume : ℕ) → StandsFor areas opening_truth (record (opening volume) { areas = areas })
  opening_stands volume = record {
    chunked = opening_chunked areas;
    owner = the_owner;
    stored = the_stored;
    are_files = are_files;
    marks = record {
      dead = λ handle block chunk itself kind. absurd (omega (arith, kind));
      marked = λ block slot marked. let no = dead_of areas block slot in absurd cc;
    };
    areas_are = refl;
    root_is = refl;
    has_root = λ none. absurd cc;
    in_order = λ i j d less within. absurd (omega (arith, less, within));
    given = λ handle given. subst (WasGiven areas opening_truth) (the_given handle given.0 given.1 given.2)
        record { slot = slot_there 0 (omega arith); generation = subst (λ (w : ℕ). 1 ≤ generation_in w) (sym (word_there 0 (inl refl))) (omega arith) };
  }
    where
      the_given : (handle k : ℕ) → k < 1 → slice_index_or (1 ∷ []) k handle ≡ handle → 1 ≡ handle
      the_given handle zero less is = is
      the_given handle (suc k) less is = absurd (omega (arith, less))
