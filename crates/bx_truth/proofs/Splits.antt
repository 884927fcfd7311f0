-- A file's tree gets one page more.
use Rattle.std.proofs.Common.{◌≡◌, ℕ, suc, ◌<◌, ◌⊎◌, ⊎_elim, inl, inr, arith, Bool, false, List, [], ◌∷◌, sym, ap, ◌∙◌, subst, refl, Option, Some, None}
use Rattle.std.specs.Prelude.{◌≢◌, ◌==◌, nat_lt, if◌then◌else◌, All, AllPairs, option_and_then}
use Rattle.std.proofs.lemmas.Bool.Decides.{nat_tests}
use Rattle.std.proofs.lemmas.List.Elements.{All-head, All-tail}
use Rattle.bx_views.specs.bx_layout.specs.declared.block.Block.{Block}
use Rattle.bx_model.specs.bx_tree_files.specs.declared.file.Body.{Body}
use Rattle.bx_model.specs.bx_tree_files.specs.declared.file.Body.TheVariants.{Bytes, Path, Names}
use Rattle.bx_model.specs.bx_tree_files.specs.declared.file.File.{File}
use Rattle.bx_model.specs.declared.tree.Tree.{Tree}
use Rattle.bx_model.specs.bx_tree_files.specs.Files.{file_at, with_file}
use Rattle.bx_page.specs.declared.entry.Entry.{Entry}
use Rattle.bx_page.specs.Contents.{value_of}
use Rattle.bx_truth.specs.Chunks.{chunks_of}
use Rattle.bx_truth.specs.Keys.{content_key}
use Rattle.bx_truth.specs.Stands.{StandsFor, inode_of}
use Rattle.bx_truth.specs.Stored.{Owner, Inodes, PageOf, DataOf, Stored, HasBody, HasTree, HasContents, IsContent, AreNames, piece_of}
use Rattle.bx_truth.specs.PageTrees.{Chunks, Node, PageTree, IsPageOf, map_of, handle_in}
use Rattle.bx_views.specs.Truths.{Truth}
use Rattle.bx_truth.proofs.Frames.{handle_back, bytes_same}
use Rattle.bx_truth.proofs.Cases.{same_or, eq_true, eq_false, found}
use Rattle.bx_truth.specs.Shown.{IsPageIn, IsShown, KeepsSlots, KeepsOthers}
use Rattle.bx_truth.specs.Splitting.{SplitsTree}
use Rattle.bx_truth.proofs.Put.{shown, put, no_dead}

none_some : {X : Type 0} (b : X) → ◌≡◌ {A = Option X} None (Some b) → ⊥
none_some b e = absurd cc

some_same : {X : Type 0} (x y : X) → Some x ≡ Some y → x ≡ y
some_same x y e = cc

-- ---- a file put as it is

above_all : (n : ℕ) (files : List File) (h : ℕ) (file : File) → All (λ (b : File). n < b.handle) files → file_at files h ≡ Some file → n < h
above_all n [] h file all is = absurd cc
above_all n (x ∷ files) h file all is = by (same_or x.handle h) (above_all n files h file (All-tail (λ (b : File). n < b.handle) x files all))
  where
    by : (x.handle ≡ h) ⊎ (x.handle ≢ h) → (file_at files h ≡ Some file → n < h) → n < h
    by (inl same) rest = let less = All-head (λ (b : File). n < b.handle) x files all in omega (arith, less, same)
    by (inr other) rest = rest (sym (ap (λ (t : Bool). if t then Some x else file_at files h) (eq_false x.handle h other)) ∙ is)

pub with_same : (files : List File) (file : File) → AllPairs (λ a b. a.handle < b.handle) files → file_at files file.handle ≡ Some file → with_file files file ≡ files
with_same [] file rises is = absurd cc
with_same (x ∷ files) file rises is = by (same_or x.handle file.handle) (with_same files file (λ i j d less within. rises (suc i) (suc j) d (omega (arith, less)) (omega (arith, within))))
  where
    above : All (λ (b : File). x.handle < b.handle) files
    above k d less = rises 0 (suc k) d (omega arith) (omega (arith, less))

    not_less : (n m : ℕ) → m < n → nat_lt n m ≡ false
    not_less n m less = grind (arith, nat_tests, less)

    by : (x.handle ≡ file.handle) ⊎ (x.handle ≢ file.handle) → (file_at files file.handle ≡ Some file → with_file files file ≡ files) → with_file (x ∷ files) file ≡ x ∷ files
    by (inl same) rest =
        let first : Some x ≡ Some file = sym (ap (λ (t : Bool). if t then Some x else file_at files file.handle) (eq_true x.handle file.handle same)) ∙ is in
        ap (λ (t : Bool). if t then file ∷ files else (if nat_lt file.handle x.handle then file ∷ x ∷ files else x ∷ with_file files file)) (eq_true x.handle file.handle same)
        ∙ ap (λ (f : File). f ∷ files) (sym (some_same x file first))
    by (inr other) rest =
        let later : file_at files file.handle ≡ Some file = sym (ap (λ (t : Bool). if t then Some x else file_at files file.handle) (eq_false x.handle file.handle other)) ∙ is in
        ap (λ (t : Bool). if t then file ∷ files else (if nat_lt file.handle x.handle then file ∷ x ∷ files else x ∷ with_file files file)) (eq_false x.handle file.handle other)
        ∙ ap (λ (t : Bool). if t then file ∷ x ∷ files else x ∷ with_file files file) (not_less file.handle x.handle (above_all x.handle files file.handle file above later))
        ∙ ap (λ (fs : List File). x ∷ fs) (rest later)

-- ---- the file

module _ (chunks now : Chunks) (owner : ℕ → Owner) (handle page : ℕ) (stored : Stored) (file : File) (s : IsShown chunks owner handle stored file) (has : HasTree chunks owner handle stored)
    (after : PageTree) (block : Block) (x : SplitsTree chunks now stored.inode.tree stored.tree after page block) where
  abbrev pub owner_now : ℕ → Owner
  owner_now h = if h == page then PageOf handle else owner h

  own_here : owner_now page ≡ PageOf handle
  own_here = ap (λ (t : Bool). if t then PageOf handle else owner page) (eq_true page page refl)

  pub own_there : (h : ℕ) → h ≢ page → owner_now h ≡ owner h
  own_there h other = ap (λ (t : Bool). if t then PageOf handle else owner h) (eq_false h page other)

  pub used_apart : (h : ℕ) (b : Block) → chunks h ≡ Some b → h ≢ page
  used_apart h b some same = none_some b (sym x.fresh ∙ ap chunks (sym same) ∙ some)

  pub same_chunk : (h : ℕ) → h ≢ page → owner h ≢ PageOf handle → now h ≡ chunks h
  same_chunk h apart other = x.others h apart (λ node there same. other (ap owner (sym same) ∙ has.pages node there))

  tree_now : HasTree now owner_now handle (record { inode = stored.inode; tree = after })
  tree_now = record {
    is = x.is;
    pages = λ node there. ⊎_elim
        (λ same. ap owner_now same ∙ own_here)
        (λ w. let n = (has.is.levels w.1.level w.1.within).nodes_are w.0 w.1.there in
        own_there node.handle (used_apart node.handle n.block (ap chunks (sym w.2) ∙ n.chunk)) ∙ ap owner (sym w.2) ∙ has.pages w.0 w.1)
        (x.back node there);
  }

  piece_own : (h i : ℕ) → owner h ≡ DataOf handle i → owner h ≢ PageOf handle
  piece_own h i piece page_own = let e : PageOf handle ≡ DataOf handle i = sym page_own ∙ piece in absurd cc

  names_chunk : (key value : List ℕ) (c : IsContent chunks owner handle key value) → now c.names ≡ Some c.block
  names_chunk key value c = same_chunk c.names (used_apart c.names c.block c.chunk) (piece_own c.names c.index c.own) ∙ c.chunk

  contents_now : HasContents chunks owner handle stored → HasContents now owner_now handle (record { inode = stored.inode; tree = after })
  contents_now contents key value is = let c = contents key value (ap (λ (m : List Entry). value_of m key) (sym x.map_is) ∙ is) in record {
    index = c.index;
    names = c.names;
    block = c.block;
    index_fits = c.index_fits;
    names_fits = c.names_fits;
    key_is = c.key_is;
    value_is = c.value_is;
    chunk = names_chunk key value c;
    kind = c.kind;
    own = own_there c.names (used_apart c.names c.block c.chunk) ∙ c.own;
  }

  some_or : (o : Option (List ℕ)) → (o ≡ None) ⊎ ((value : List ℕ) × (o ≡ Some value))
  some_or None = inl refl
  some_or (Some value) = inr (value, refl)

  piece_now : HasContents chunks owner handle stored → (i : ℕ) → piece_of now after i ≡ piece_of chunks stored.tree i
  piece_now contents i = ap (λ (m : List Entry). option_and_then (λ value. now (handle_in value)) (value_of m (content_key i))) x.map_is ∙ by (some_or (value_of (map_of stored.tree) (content_key i)))
    where
      at : (value : List ℕ) → IsContent chunks owner handle (content_key i) value → now (handle_in value) ≡ chunks (handle_in value)
      at value c =
          let e : handle_in value ≡ c.names = ap handle_in c.value_is ∙ handle_back c.names c.names_fits in
          ap now e ∙ names_chunk (content_key i) value c ∙ sym c.chunk ∙ ap chunks (sym e)

      by : (value_of (map_of stored.tree) (content_key i) ≡ None) ⊎ ((value : List ℕ) × (value_of (map_of stored.tree) (content_key i) ≡ Some value))
          → option_and_then (λ value. now (handle_in value)) (value_of (map_of stored.tree) (content_key i)) ≡ piece_of chunks stored.tree i
      by (inl none) = ap (option_and_then (λ value. now (handle_in value))) none ∙ sym (ap (option_and_then (λ value. chunks (handle_in value))) none)
      by (inr (value, some)) = ap (option_and_then (λ value. now (handle_in value))) some ∙ at value (contents (content_key i) value some) ∙ sym (ap (option_and_then (λ value. chunks (handle_in value))) some)

  body_now : (b : Body) → HasBody chunks owner handle stored b → HasBody now owner_now handle (record { inode = stored.inode; tree = after }) b
  body_now (Bytes bytes) r = record {
    kind = r.kind;
    tree = tree_now;
    contents = contents_now r.contents;
    bytes_are = bytes_same (piece_of chunks stored.tree) (piece_of now after) stored.inode.size stored.inode.tail bytes (piece_now r.contents) r.bytes_are;
  }
  body_now (Path path) r = record { kind = r.kind; no_tree = r.no_tree; path_is = r.path_is }
  body_now (Names parent next names) r = record { kind = r.kind; tree = tree_now; parent_is = r.parent_is; next_is = r.next_is; entries = subst (λ (m : List Entry). AreNames m names) (sym x.map_is) r.entries }

  some_tree : stored.inode.tree ≢ 0
  some_tree =
      let n = (has.is.levels stored.tree.height (omega arith)).nodes_are has.is.top (record { before = []; behind = []; parts = has.is.root_alone }) in
      (s.pages has.is.top.handle n.block n.chunk (has.pages has.is.top (record { level = stored.tree.height; within = omega arith; there = record { before = []; behind = []; parts = has.is.root_alone } }))).has_tree

  page_there : (h : ℕ) (b : Block) → now h ≡ Some b → owner_now h ≡ PageOf handle → IsPageIn (record { inode = stored.inode; tree = after }) h b
  page_there h b some own = by (same_or h page) (found (chunks h))
    where
      none_there : chunks h ≡ None → (node : Node) → IsPageOf stored.tree node → node.handle ≢ h
      none_there none node there same =
          let n = (has.is.levels there.level there.within).nodes_are node there.there in none_some n.block (sym none ∙ ap chunks (sym same) ∙ n.chunk)

      by : (h ≡ page) ⊎ (h ≢ page) → (chunks h ≡ None) ⊎ ((c : Block) × (chunks h ≡ Some c)) → IsPageIn (record { inode = stored.inode; tree = after }) h b
      by (inl same) o =
          let b_is : block ≡ b = some_same block b (sym x.here ∙ ap now (sym same) ∙ some) in
          record { kind = ap (λ (y : Block). y.kind) (sym b_is) ∙ x.kind; has_tree = some_tree; node = x.new; there = x.new_there; names = x.new_is ∙ sym same }
      by (inr other) (inl none) = absurd (none_some b (sym none ∙ sym (x.others h other (none_there none)) ∙ some))
      by (inr other) (inr (c, was)) =
          let q = s.pages h c was (sym (own_there h other) ∙ own) in
          let f = x.forth q.node q.there in
          let n = (x.is.levels f.1.level f.1.within).nodes_are f.0 f.1.there in
          let b_is : n.block ≡ b = some_same n.block b (sym n.chunk ∙ ap now (f.2 ∙ q.names) ∙ some) in
          record { kind = ap (λ (y : Block). y.kind) (sym b_is) ∙ n.has.kind; has_tree = q.has_tree; node = f.0; there = f.1; names = f.2 ∙ q.names }

  pub split_shown : IsShown now owner_now handle (record { inode = stored.inode; tree = after }) file
  split_shown = record {
    block = s.block;
    chunk = same_chunk handle (used_apart handle s.block s.chunk) itself_not ∙ s.chunk;
    itself = own_there handle (used_apart handle s.block s.chunk) ∙ s.itself;
    has = s.has;
    handle_is = s.handle_is;
    fields = s.fields;
    body = body_now file.body s.body;
    pages = page_there;
    pieces = λ h i b some piece.
        let apart : h ≢ page = λ same. let e : PageOf handle ≡ DataOf handle i = sym own_here ∙ ap owner_now (sym same) ∙ piece in absurd cc in
        let own : owner h ≡ DataOf handle i = sym (own_there h apart) ∙ piece in
        let q = s.pieces h i b (sym (same_chunk h apart (piece_own h i own)) ∙ some) own in
        record { kind = q.kind; has_tree = q.has_tree; names = ap (λ (m : List Entry). value_of m (content_key i)) x.map_is ∙ q.names };
  }
    where
      itself_not : owner handle ≢ PageOf handle
      itself_not own = let e : Inodes ≡ PageOf handle = sym s.itself ∙ own in absurd cc

pub tree_split : (areas : ℕ) (truth now : Truth) (tree : Tree) (handle page : ℕ) (file : File) (after : PageTree) (block : Block)
    → (is : StandsFor areas truth tree) → file_at tree.files handle ≡ Some file → HasTree (chunks_of areas truth) is.owner handle (is.stored handle)
    → KeepsSlots areas truth now
    → SplitsTree (chunks_of areas truth) (chunks_of areas now) (is.stored handle).inode.tree (is.stored handle).tree after page block
    → StandsFor areas now tree
tree_split areas truth now tree handle page file after block is there has slots x =
    subst (λ (fs : List File). StandsFor areas now (record tree { files = fs })) (with_same tree.files file is.in_order (ap (file_at tree.files) s.handle_is ∙ there))
    (put areas truth now tree handle file (λ h. if h == page then PageOf handle else is.owner h) (record { inode = (is.stored handle).inode; tree = after }) is slots others (no_dead areas truth tree handle file is there)
    (split_shown (chunks_of areas truth) (chunks_of areas now) is.owner handle page (is.stored handle) file s has after block x))
  where
    s : IsShown (chunks_of areas truth) is.owner handle (is.stored handle) file
    s = shown areas truth tree handle file is there

    not_own : (h : ℕ) → (inode_of h (is.owner h) == handle) ≡ false → is.owner h ≢ PageOf handle
    not_own h test own = let t = eq_true (inode_of h (is.owner h)) handle (ap (inode_of h) own) in absurd cc

    others : KeepsOthers areas truth now tree is (λ h. if h == page then PageOf handle else is.owner h) handle
    others = record {
      kept = λ h b some test.
          let apart = used_apart (chunks_of areas truth) (chunks_of areas now) is.owner handle page (is.stored handle) file s has after block x h b some in (
            same_chunk (chunks_of areas truth) (chunks_of areas now) is.owner handle page (is.stored handle) file s has after block x h apart (not_own h test) ∙ some,
            own_there (chunks_of areas truth) (chunks_of areas now) is.owner handle page (is.stored handle) file s has after block x h apart,
          );
      none_new = λ h b some test.
          let apart : h ≢ page = λ same.
          let own : (if h == page then PageOf handle else is.owner h) ≡ PageOf handle = ap (λ (t : Bool). if t then PageOf handle else is.owner h) (eq_true h page same) in
          let t = eq_true (inode_of h (if h == page then PageOf handle else is.owner h)) handle (ap (inode_of h) own) in absurd cc in
          let own = own_there (chunks_of areas truth) (chunks_of areas now) is.owner handle page (is.stored handle) file s has after block x h apart in
          let old_test : (inode_of h (is.owner h) == handle) ≡ false = ap (λ (o : Owner). inode_of h o == handle) (sym own) ∙ test in
          (sym (same_chunk (chunks_of areas truth) (chunks_of areas now) is.owner handle page (is.stored handle) file s has after block x h apart (not_own h old_test)) ∙ some, own);
    }
