-- A file is made.
use Rattle.std.proofs.Common.{◌≡◌, ℕ, ◌+◌, ◌*◌, ◌%◌, ◌^◌, ◌≤◌, ◌⊎◌, ⊎_elim, inl, inr, arith, Bool, false, List, [], ◌∷◌, ◌++◌, length, sym, ap, ◌∙◌, subst, refl, Option, Some, None}
use Rattle.std.specs.Prelude.{◌≢◌, ◌==◌, if◌then◌else◌, Contains}
use Rattle.std.proofs.lemmas.List.{length-append}
use Rattle.bx_views.specs.bx_layout.specs.declared.block.Block.{Block}
use Rattle.bx_views.specs.bx_layout.specs.declared.inode.Inode.{Inode}
use Rattle.bx_views.specs.bx_layout.specs.Areas.{generation_in}
use Rattle.bx_places.specs.Places.{block_area, block_slot}
use Rattle.bx_model.specs.bx_tree_files.specs.declared.file.Body.{Body}
use Rattle.bx_model.specs.bx_tree_files.specs.declared.file.Body.TheVariants.{Bytes, Path, Names}
use Rattle.bx_model.specs.bx_tree_files.specs.declared.file.File.{File}
use Rattle.bx_model.specs.declared.tree.Tree.{Tree}
use Rattle.bx_model.specs.bx_tree_files.specs.Files.{with_file}
use Rattle.bx_truth.specs.Opening.{empty_page}
use Rattle.bx_truth.specs.Chunks.{chunks_of, block_at, word_at}
use Rattle.bx_truth.specs.Stands.{StandsFor, IsOwned, WasGiven, inode_of}
use Rattle.bx_truth.specs.Stored.{Owner, Inodes, PageOf, DataOf, Stored, HasInode, HasFields, HasBody, HasTree, AreNames}
use Rattle.bx_truth.specs.PageTrees.{Chunks, Node, PageTree, HasPage, IsNode, IsTree, IsIn}
use Rattle.bx_views.specs.Truths.{Truth}
use Rattle.bx_truth.proofs.Cases.{same_or, eq_true, eq_false}
use Rattle.bx_truth.proofs.Same.{chunk_is}
use Rattle.bx_truth.specs.Shown.{IsPageIn, IsShown, KeepsSlots, KeepsOthers, IsNoDead}
use Rattle.bx_truth.specs.Making.{MakesTwo, IsEmptyBody}
use Rattle.bx_truth.proofs.Put.{put}

-- ---- slots

pub keeps_and : (areas : ℕ) (a b c : Truth) → KeepsSlots areas a b → KeepsSlots areas b c → KeepsSlots areas a c
keeps_and areas a b c x y = record {
  chunked = y.chunked;
  given = λ block slot. let l = x.given block slot in let m = y.given block slot in omega (arith, l, m);
  dead = λ block slot. y.dead block slot ∙ x.dead block slot;
}

-- ---- the handle was given

pub chunk_given : (areas : ℕ) (truth : Truth) (handle : ℕ) (block : Block) → chunks_of areas truth handle ≡ Some block → WasGiven areas truth handle
chunk_given areas truth handle block chunk =
    let c = chunk_is areas truth handle block chunk in
    record { slot = c.slot; generation = subst (λ (h : ℕ). h % 2 ^ 32 ≤ generation_in (word_at truth (block_at handle))) (sym c.is_handle) (small (block_area (block_at handle)) (block_slot (block_at handle)) (word_at truth (block_at handle))) }
  where
    small : (area slot word : ℕ) → (area * 2 ^ 48 + slot * 2 ^ 32 + word % 2 ^ 31) % 2 ^ 32 ≤ word % 2 ^ 31
    small area slot word = omega arith

pub more_given : (areas : ℕ) (truth : Truth) (tree : Tree) (handle : ℕ) (given : List ℕ) → StandsFor areas truth tree → WasGiven areas truth handle
    → ((other : ℕ) → Contains given other → (other ≡ handle) ⊎ Contains tree.given other) → StandsFor areas truth (record tree { given = given })
more_given areas truth tree handle given is was each = record {
  chunked = is.chunked;
  owner = is.owner;
  stored = is.stored;
  are_files = is.are_files;
  marks = is.marks;
  areas_are = is.areas_are;
  root_is = is.root_is;
  has_root = is.has_root;
  in_order = is.in_order;
  given = λ h there. ⊎_elim (λ same. subst (WasGiven areas truth) (sym same) was) (is.given h) (each h there);
}

-- ---- an empty tree

abbrev pub empty_node : ℕ → Node
empty_node page = record { handle = page; begins = []; page = empty_page }

abbrev pub empty_tree : ℕ → PageTree
empty_tree page = record { height = 0; level = λ level. empty_node page ∷ [] }

module _ (page : ℕ) where
  pub only : (node : Node) → IsIn node (empty_node page ∷ []) → node ≡ empty_node page
  only node there = by there.before there.behind there.parts
    where
      by : (before behind : List Node) → empty_node page ∷ [] ≡ before ++ node ∷ behind → node ≡ empty_node page
      by [] behind parts = let same : empty_node page ≡ node = cc in sym same
      by (x ∷ before) behind parts = absurd (omega (arith, ap length parts, length-append before (node ∷ behind)))

  pub empty_is : (now : Chunks) (block : Block) → now page ≡ Some block → HasPage empty_page block → IsTree now page (empty_tree page)
  empty_is now block chunk has = record {
    levels = λ level le. record {
      nodes_are = λ node there. subst (IsNode now level) (sym (only node there)) (subst (λ (n : ℕ). IsNode now n (empty_node page)) (none level le) node_is);
      chain = (refl, record { right = refl; high = refl });
    };
    interior = λ level less. absurd (omega (arith, less));
    top = empty_node page;
    root_alone = refl;
    root_is = refl;
  }
    where
      none : (level : ℕ) → level ≤ 0 → 0 ≡ level
      none level le = omega arith

      node_is : IsNode now 0 (empty_node page)
      node_is = record { block = block; chunk = chunk; has = has; same_level = refl; lowest = λ k d less. absurd (omega (arith, less)); highest = tt }

no_names : AreNames [] []
no_names = record {
  numbered = λ name within. absurd (omega (arith, within.1));
  named = λ name within. absurd (omega (arith, within.1));
  only = λ key value is. absurd cc;
  number_fits = λ name within. absurd (omega (arith, within.1));
  handle_fits = λ name within. absurd (omega (arith, within.1));
  in_order = λ i j d less within. absurd (omega (arith, within));
}

none_some : (b : Block) → ◌≡◌ {A = Option Block} None (Some b) → ⊥
none_some b e = absurd cc

-- ---- a file with a tree

module _ (areas : ℕ) (truth now : Truth) (tree : Tree) (handle page : ℕ) (block page_block : Block) (inode : Inode) (file : File) (is : StandsFor areas truth tree)
    (slots : KeepsSlots areas truth now) (makes : MakesTwo (chunks_of areas truth) (chunks_of areas now) handle page block page_block)
    (has : HasInode inode block) (has_page : HasPage empty_page page_block) (root : inode.tree ≡ page) (some : page ≢ 0)
    (same_handle : file.handle ≡ handle) (fields : HasFields inode file) (body : IsEmptyBody inode file.body) where
  abbrev owner_now : ℕ → Owner
  owner_now h = if h == handle then Inodes else (if h == page then PageOf handle else is.owner h)

  abbrev stored : Stored
  stored = record { inode = inode; tree = empty_tree page }

  own_here : owner_now handle ≡ Inodes
  own_here = ap (λ (t : Bool). if t then Inodes else (if handle == page then PageOf handle else is.owner handle)) (eq_true handle handle refl)

  own_page : owner_now page ≡ PageOf handle
  own_page = ap (λ (t : Bool). if t then Inodes else (if page == page then PageOf handle else is.owner page)) (eq_false page handle makes.apart)
      ∙ ap (λ (t : Bool). if t then PageOf handle else is.owner page) (eq_true page page refl)

  own_other : (h : ℕ) → h ≢ handle → h ≢ page → owner_now h ≡ is.owner h
  own_other h a b = ap (λ (t : Bool). if t then Inodes else (if h == page then PageOf handle else is.owner h)) (eq_false h handle a)
      ∙ ap (λ (t : Bool). if t then PageOf handle else is.owner h) (eq_false h page b)

  -- no chunk that was there is of the new file
  not_of : (h : ℕ) (b : Block) (o : Owner) → chunks_of areas truth h ≡ Some b → is.owner h ≡ o → inode_of h o ≢ handle
  not_of h b Inodes there owned same = none_some b (sym makes.fresh ∙ ap (chunks_of areas truth) (sym same) ∙ there)
  not_of h b (PageOf inode) there owned same =
      let p = subst (IsOwned (chunks_of areas truth) is.owner is.stored tree.files h b) owned (is.are_files.each h b there) in
      none_some p.of.block (sym makes.fresh ∙ ap (chunks_of areas truth) (sym same) ∙ p.of.chunk)
  not_of h b (DataOf inode index) there owned same =
      let p = subst (IsOwned (chunks_of areas truth) is.owner is.stored tree.files h b) owned (is.are_files.each h b there) in
      none_some p.of.block (sym makes.fresh ∙ ap (chunks_of areas truth) (sym same) ∙ p.of.chunk)

  was_other : (h : ℕ) (b : Block) → chunks_of areas truth h ≡ Some b → (h ≢ handle) × (h ≢ page)
  was_other h b there = ((λ same. none_some b (sym makes.fresh ∙ ap (chunks_of areas truth) (sym same) ∙ there)), (λ same. none_some b (sym makes.fresh_page ∙ ap (chunks_of areas truth) (sym same) ∙ there)))

  now_other : (h : ℕ) → (inode_of h (owner_now h) == handle) ≡ false → (h ≢ handle) × (h ≢ page)
  now_other h test = (
    (λ same. let t = eq_true (inode_of h (owner_now h)) handle (ap (inode_of h) (ap owner_now same ∙ own_here) ∙ same) in absurd cc),
    (λ same. let t = eq_true (inode_of h (owner_now h)) handle (ap (inode_of h) (ap owner_now same ∙ own_page)) in absurd cc),
  )

  others : KeepsOthers areas truth now tree is owner_now handle
  others = record {
    kept = λ h b there test. let o = was_other h b there in (makes.others h o.0 o.1 ∙ there, own_other h o.0 o.1);
    none_new = λ h b there test. let o = now_other h test in (sym (makes.others h o.0 o.1) ∙ there, own_other h o.0 o.1);
  }

  has_tree : HasTree (chunks_of areas now) owner_now handle stored
  has_tree = record {
    is = subst (λ (n : ℕ). IsTree (chunks_of areas now) n (empty_tree page)) (sym root) (empty_is page (chunks_of areas now) page_block makes.page_here has_page);
    pages = λ node there. ap (λ (n : Node). owner_now n.handle) (only page node there.there) ∙ own_page;
  }

  the_body : (b : Body) → IsEmptyBody inode b → HasBody (chunks_of areas now) owner_now handle stored b
  the_body (Bytes bytes) (kind, size, zeros) = record {
    kind = kind;
    tree = has_tree;
    contents = λ key value is. absurd cc;
    bytes_are = record { long = size; each = λ place less. zeros place; cleared = λ index place fits less past. refl };
  }
  the_body (Path path) never = absurd never
  the_body (Names parent next names) (kind, parent_is, next_is, none) = record {
    kind = kind;
    tree = has_tree;
    parent_is = parent_is;
    next_is = next_is;
    entries = subst (AreNames []) (sym none) no_names;
  }

  -- a chunk of the new file's is its inode or its page
  of_it : (h : ℕ) (b : Block) (o : Owner) → chunks_of areas now h ≡ Some b → owner_now h ≡ o → inode_of h o ≡ handle → (h ≡ handle) ⊎ (h ≡ page)
  of_it h b o there owned same = by (same_or h handle) (same_or h page)
    where
      by : (h ≡ handle) ⊎ (h ≢ handle) → (h ≡ page) ⊎ (h ≢ page) → (h ≡ handle) ⊎ (h ≡ page)
      by (inl e) q = inl e
      by (inr n) (inl e) = inr e
      by (inr n) (inr m) = absurd (not_of h b o (sym (makes.others h n m) ∙ there) (sym (own_other h n m) ∙ owned) same)

  is_shown : IsShown (chunks_of areas now) owner_now handle stored file
  is_shown = record {
    block = block;
    chunk = makes.here;
    itself = own_here;
    has = has;
    handle_is = same_handle;
    fields = fields;
    body = the_body file.body body;
    pages = λ h b there owned. page_by h b there owned (of_it h b (PageOf handle) there owned refl);
    pieces = λ h index b there owned. absurd (piece_by h index owned (of_it h b (DataOf handle index) there owned refl));
  }
    where
      page_by : (h : ℕ) (b : Block) → chunks_of areas now h ≡ Some b → owner_now h ≡ PageOf handle → (h ≡ handle) ⊎ (h ≡ page) → IsPageIn stored h b
      page_by h b there owned (inl same) = let e : Inodes ≡ PageOf handle = sym own_here ∙ ap owner_now (sym same) ∙ owned in absurd cc
      page_by h b there owned (inr same) =
          let e : Some page_block ≡ Some b = sym makes.page_here ∙ ap (chunks_of areas now) (sym same) ∙ there in
          let f : page_block ≡ b = cc in
          record {
            kind = ap (λ (x : Block). x.kind) (sym f) ∙ has_page.kind;
            has_tree = λ zero. some (sym root ∙ zero);
            node = empty_node page;
            there = record { level = 0; within = omega arith; there = record { before = []; behind = []; parts = refl } };
            names = sym same;
          }

      piece_by : (h index : ℕ) → owner_now h ≡ DataOf handle index → (h ≡ handle) ⊎ (h ≡ page) → ⊥
      piece_by h index owned (inl same) = let e : Inodes ≡ DataOf handle index = sym own_here ∙ ap owner_now (sym same) ∙ owned in absurd cc
      piece_by h index owned (inr same) = let e : PageOf handle ≡ DataOf handle index = sym own_page ∙ ap owner_now (sym same) ∙ owned in absurd cc

  no_dead_there : IsNoDead areas truth tree is handle
  no_dead_there there itself = absurd (there makes.fresh)

  pub file_made : (given : List ℕ) → ((other : ℕ) → Contains given other → (other ≡ handle) ⊎ Contains tree.given other)
      → StandsFor areas now (record tree { files = with_file tree.files file; given = given })
  file_made given each = more_given areas now (record tree { files = with_file tree.files file }) handle given
      (put areas truth now tree handle file owner_now stored is slots others no_dead_there is_shown)
      (chunk_given areas now handle block makes.here) each
