-- A file's tree gets new pages.
use Rattle.std.proofs.Common.{◌≡◌, ℕ, ◌⊎◌, ⊎_elim, inl, inr, arith, Bool, true, false, List, [], sym, ap, ◌∙◌, subst, refl, Option, Some, None}
use Rattle.std.specs.Prelude.{◌≢◌, ◌==◌, if◌then◌else◌, option_and_then}
use Rattle.bx_layout.specs.declared.block.Block.{Block}
use Rattle.bx_tree_files.specs.declared.file.Body.{Body}
use Rattle.bx_tree_files.specs.declared.file.Body.TheVariants.{Bytes, Path, Names}
use Rattle.bx_tree_files.specs.declared.file.File.{File}
use Rattle.bx_model.specs.declared.tree.Tree.{Tree}
use Rattle.bx_tree_files.specs.Files.{file_at}
use Rattle.bx_page.specs.declared.entry.Entry.{Entry}
use Rattle.bx_page.specs.Contents.{value_of}
use Rattle.bx_truth.specs.Chunks.{chunks_of}
use Rattle.bx_truth.specs.Keys.{content_key}
use Rattle.bx_truth.specs.Stands.{StandsFor, inode_of}
use Rattle.bx_truth.specs.Stored.{Owner, Inodes, PageOf, DataOf, Stored, HasBody, HasTree, HasContents, IsContent, AreNames, piece_of}
use Rattle.bx_truth.specs.PageTrees.{Chunks, Node, PageTree, IsPageOf, map_of, handle_in}
use Rattle.bx_views.specs.Truths.{Truth}
use Rattle.bx_truth.proofs.Frames.{handle_back, bytes_same}
use Rattle.bx_truth.proofs.Cases.{eq_true, found}
use Rattle.bx_truth.specs.Shown.{IsPageIn, IsShown, KeepsSlots, KeepsOthers}
use Rattle.bx_ready.specs.Growing.{GrowsPages}
use Rattle.bx_truth.proofs.Put.{shown, put, no_dead}
use Rattle.bx_truth.proofs.Splits.{with_same}

none_some : {X : Type 0} (b : X) → ◌≡◌ {A = Option X} None (Some b) → ⊥
none_some b e = absurd cc

some_same : {X : Type 0} (x y : X) → Some x ≡ Some y → x ≡ y
some_same x y e = cc

-- ---- the file

module _ (chunks now : Chunks) (owner : ℕ → Owner) (handle : ℕ) (stored : Stored) (file : File) (s : IsShown chunks owner handle stored file) (has : HasTree chunks owner handle stored)
    (after : PageTree) (is_new : ℕ → Bool) (x : GrowsPages chunks now stored.inode.tree stored.tree after is_new) where
  abbrev pub owner_now : ℕ → Owner
  owner_now h = if is_new h then PageOf handle else owner h

  own_here : (h : ℕ) → is_new h ≡ true → owner_now h ≡ PageOf handle
  own_here h new = ap (λ (t : Bool). if t then PageOf handle else owner h) new

  pub own_there : (h : ℕ) → is_new h ≡ false → owner_now h ≡ owner h
  own_there h other = ap (λ (t : Bool). if t then PageOf handle else owner h) other

  not_new : (h : ℕ) → (is_new h ≡ true → ⊥) → is_new h ≡ false
  not_new h never = by (is_new h) refl
    where
      by : (t : Bool) → is_new h ≡ t → is_new h ≡ false
      by true is = absurd (never is)
      by false is = is

  pub used_apart : (h : ℕ) (b : Block) → chunks h ≡ Some b → is_new h ≡ false
  used_apart h b some = not_new h (λ new. none_some b (sym (x.fresh h new) ∙ some))

  pub same_chunk : (h : ℕ) → is_new h ≡ false → owner h ≢ PageOf handle → now h ≡ chunks h
  same_chunk h apart other = x.others h apart (λ node there same. other (ap owner (sym same) ∙ has.pages node there))

  tree_now : HasTree now owner_now handle (record { inode = stored.inode; tree = after })
  tree_now = record {
    is = x.is;
    pages = λ node there. ⊎_elim
        (λ new. own_here node.handle new)
        (λ w. let n = (has.is.levels w.1.level w.1.within).nodes_are w.0 w.1.there in
        own_there node.handle (used_apart node.handle n.block (ap chunks (sym w.2) ∙ n.chunk)) ∙ ap owner (sym w.2) ∙ has.pages w.0 w.1)
        (x.back node there);
  }

  piece_own : (h i : ℕ) → owner h ≡ DataOf handle i → owner h ≢ PageOf handle
  piece_own h i piece page_own = let e : PageOf handle ≡ DataOf handle i = sym page_own ∙ piece in absurd cc

  names_chunk : (key value : List ℕ) (c : IsContent chunks owner handle key value) → now c.names ≡ Some c.block
  names_chunk key value c = same_chunk c.names (used_apart c.names c.block c.chunk) (piece_own c.names c.index c.own) ∙ c.chunk

  contents_now : HasContents chunks owner handle stored → HasContents now owner_now handle (record { inode = stored.inode; tree = after })
  contents_now contents key value is = let c = contents key value (ap (λ (m : List Entry). value_of m key) (sym x.map_is) ∙ is) in record {
    index = c.index;
    names = c.names;
    block = c.block;
    index_fits = c.index_fits;
    names_fits = c.names_fits;
    key_is = c.key_is;
    value_is = c.value_is;
    chunk = names_chunk key value c;
    kind = c.kind;
    own = own_there c.names (used_apart c.names c.block c.chunk) ∙ c.own;
  }

  some_or : (o : Option (List ℕ)) → (o ≡ None) ⊎ ((value : List ℕ) × (o ≡ Some value))
  some_or None = inl refl
  some_or (Some value) = inr (value, refl)

  piece_now : HasContents chunks owner handle stored → (i : ℕ) → piece_of now after i ≡ piece_of chunks stored.tree i
  piece_now contents i = ap (λ (m : List Entry). option_and_then (λ value. now (handle_in value)) (value_of m (content_key i))) x.map_is ∙ by (some_or (value_of (map_of stored.tree) (content_key i)))
    where
      at : (value : List ℕ) → IsContent chunks owner handle (content_key i) value → now (handle_in value) ≡ chunks (handle_in value)
      at value c =
          let e : handle_in value ≡ c.names = ap handle_in c.value_is ∙ handle_back c.names c.names_fits in
          ap now e ∙ names_chunk (content_key i) value c ∙ sym c.chunk ∙ ap chunks (sym e)

      by : (value_of (map_of stored.tree) (content_key i) ≡ None) ⊎ ((value : List ℕ) × (value_of (map_of stored.tree) (content_key i) ≡ Some value))
          → option_and_then (λ value. now (handle_in value)) (value_of (map_of stored.tree) (content_key i)) ≡ piece_of chunks stored.tree i
      by (inl none) = ap (option_and_then (λ value. now (handle_in value))) none ∙ sym (ap (option_and_then (λ value. chunks (handle_in value))) none)
      by (inr (value, some)) = ap (option_and_then (λ value. now (handle_in value))) some ∙ at value (contents (content_key i) value some) ∙ sym (ap (option_and_then (λ value. chunks (handle_in value))) some)

  body_now : (b : Body) → HasBody chunks owner handle stored b → HasBody now owner_now handle (record { inode = stored.inode; tree = after }) b
  body_now (Bytes bytes) r = record {
    kind = r.kind;
    tree = tree_now;
    contents = contents_now r.contents;
    bytes_are = bytes_same (piece_of chunks stored.tree) (piece_of now after) stored.inode.size stored.inode.tail bytes (piece_now r.contents) r.bytes_are;
  }
  body_now (Path path) r = record { kind = r.kind; no_tree = r.no_tree; path_is = r.path_is }
  body_now (Names parent next names) r = record { kind = r.kind; tree = tree_now; parent_is = r.parent_is; next_is = r.next_is; entries = subst (λ (m : List Entry). AreNames m names) (sym x.map_is) r.entries }

  some_tree : stored.inode.tree ≢ 0
  some_tree =
      let n = (has.is.levels stored.tree.height (omega arith)).nodes_are has.is.top (record { before = []; behind = []; parts = has.is.root_alone }) in
      (s.pages has.is.top.handle n.block n.chunk (has.pages has.is.top (record { level = stored.tree.height; within = omega arith; there = record { before = []; behind = []; parts = has.is.root_alone } }))).has_tree

  page_there : (h : ℕ) (b : Block) → now h ≡ Some b → owner_now h ≡ PageOf handle → IsPageIn (record { inode = stored.inode; tree = after }) h b
  page_there h b some own = by (is_new h) refl (found (chunks h))
    where
      none_there : chunks h ≡ None → (node : Node) → IsPageOf stored.tree node → node.handle ≢ h
      none_there none node there same =
          let n = (has.is.levels there.level there.within).nodes_are node there.there in none_some n.block (sym none ∙ ap chunks (sym same) ∙ n.chunk)

      in_after : (f : (page : Node) × IsPageOf after page × (page.handle ≡ h)) → IsPageIn (record { inode = stored.inode; tree = after }) h b
      in_after f =
          let n = (x.is.levels f.1.level f.1.within).nodes_are f.0 f.1.there in
          let b_is : n.block ≡ b = some_same n.block b (sym n.chunk ∙ ap now f.2 ∙ some) in
          record { kind = ap (λ (y : Block). y.kind) (sym b_is) ∙ n.has.kind; has_tree = some_tree; node = f.0; there = f.1; names = f.2 }

      by : (t : Bool) → is_new h ≡ t → (chunks h ≡ None) ⊎ ((c : Block) × (chunks h ≡ Some c)) → IsPageIn (record { inode = stored.inode; tree = after }) h b
      by true new o = in_after (x.new_pages h new)
      by false other (inl none) = absurd (none_some b (sym none ∙ sym (x.others h other (none_there none)) ∙ some))
      by false other (inr (c, was)) =
          let q = s.pages h c was (sym (own_there h other) ∙ own) in
          let f = x.forth q.node q.there in in_after (f.0, f.1, f.2 ∙ q.names)

  pub grown_shown : IsShown now owner_now handle (record { inode = stored.inode; tree = after }) file
  grown_shown = record {
    block = s.block;
    chunk = same_chunk handle (used_apart handle s.block s.chunk) itself_not ∙ s.chunk;
    itself = own_there handle (used_apart handle s.block s.chunk) ∙ s.itself;
    has = s.has;
    handle_is = s.handle_is;
    fields = s.fields;
    body = body_now file.body s.body;
    pages = page_there;
    pieces = λ h i b some piece.
        let apart = not_new h (λ new. let e : PageOf handle ≡ DataOf handle i = sym (own_here h new) ∙ piece in absurd cc) in
        let own : owner h ≡ DataOf handle i = sym (own_there h apart) ∙ piece in
        let q = s.pieces h i b (sym (same_chunk h apart (piece_own h i own)) ∙ some) own in
        record { kind = q.kind; has_tree = q.has_tree; names = ap (λ (m : List Entry). value_of m (content_key i)) x.map_is ∙ q.names };
  }
    where
      itself_not : owner handle ≢ PageOf handle
      itself_not own = let e : Inodes ≡ PageOf handle = sym s.itself ∙ own in absurd cc

pub tree_grown : (areas : ℕ) (truth now : Truth) (tree : Tree) (handle : ℕ) (file : File) (after : PageTree) (is_new : ℕ → Bool)
    → (is : StandsFor areas truth tree) → file_at tree.files handle ≡ Some file → HasTree (chunks_of areas truth) is.owner handle (is.stored handle)
    → KeepsSlots areas truth now
    → GrowsPages (chunks_of areas truth) (chunks_of areas now) (is.stored handle).inode.tree (is.stored handle).tree after is_new
    → StandsFor areas now tree
tree_grown areas truth now tree handle file after is_new is there has slots x =
    subst (λ (fs : List File). StandsFor areas now (record tree { files = fs })) (with_same tree.files file is.in_order (ap (file_at tree.files) s.handle_is ∙ there))
    (put areas truth now tree handle file (λ h. if is_new h then PageOf handle else is.owner h) (record { inode = (is.stored handle).inode; tree = after }) is slots others (no_dead areas truth tree handle file is there)
    (grown_shown (chunks_of areas truth) (chunks_of areas now) is.owner handle (is.stored handle) file s has after is_new x))
  where
    s : IsShown (chunks_of areas truth) is.owner handle (is.stored handle) file
    s = shown areas truth tree handle file is there

    not_own : (h : ℕ) → (inode_of h (is.owner h) == handle) ≡ false → is.owner h ≢ PageOf handle
    not_own h test own = let t = eq_true (inode_of h (is.owner h)) handle (ap (inode_of h) own) in absurd cc

    old_page : (h : ℕ) → (inode_of h (if is_new h then PageOf handle else is.owner h) == handle) ≡ false → (t : Bool) → is_new h ≡ t → is_new h ≡ false
    old_page h test true new =
        let own : (if is_new h then PageOf handle else is.owner h) ≡ PageOf handle = ap (λ (t : Bool). if t then PageOf handle else is.owner h) new in
        let t = eq_true (inode_of h (if is_new h then PageOf handle else is.owner h)) handle (ap (inode_of h) own) in absurd cc
    old_page h test false other = other

    others : KeepsOthers areas truth now tree is (λ h. if is_new h then PageOf handle else is.owner h) handle
    others = record {
      kept = λ h b some test.
          let apart = used_apart (chunks_of areas truth) (chunks_of areas now) is.owner handle (is.stored handle) file s has after is_new x h b some in (
            same_chunk (chunks_of areas truth) (chunks_of areas now) is.owner handle (is.stored handle) file s has after is_new x h apart (not_own h test) ∙ some,
            own_there (chunks_of areas truth) (chunks_of areas now) is.owner handle (is.stored handle) file s has after is_new x h apart,
          );
      none_new = λ h b some test.
          let apart = old_page h test (is_new h) refl in
          let own = own_there (chunks_of areas truth) (chunks_of areas now) is.owner handle (is.stored handle) file s has after is_new x h apart in
          let old_test : (inode_of h (is.owner h) == handle) ≡ false = ap (λ (o : Owner). inode_of h o == handle) (sym own) ∙ test in
          (sym (same_chunk (chunks_of areas truth) (chunks_of areas now) is.owner handle (is.stored handle) file s has after is_new x h apart (not_own h old_test)) ∙ some, own);
    }
