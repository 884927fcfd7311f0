-- An inode is rewritten, and its file's body stays.
use Rattle.std.proofs.Common.{◌≡◌, ℕ, ◌+◌, ◌<◌, ◌≤◌, ◌⊎◌, inl, inr, arith, Bool, true, false, List, [], ◌∷◌, sym, ap, ◌∙◌, subst, refl, Option, Some, None}
use Rattle.std.specs.Prelude.{◌≢◌, ◌==◌, if◌then◌else◌, unwrap_or, option_map}
use Rattle.std.proofs.lemmas.Bool.Decides.{nat_tests}
use Rattle.std.proofs.Common.{◌*◌, ◌%◌}
use Rattle.bx_views.specs.bx_layout.specs.Areas.{generation_in}
use Rattle.bx_model.specs.Opening.{root_handle}
use Rattle.bx_page.specs.Contents.{value_of}
use Rattle.bx_truth.specs.Keys.{content_key}
use Rattle.bx_views.specs.bx_layout.specs.declared.block.Block.{Block}
use Rattle.bx_views.specs.bx_layout.specs.declared.inode.Inode.{Inode}
use Rattle.bx_views.specs.Truths.{Changed, block_in}
use Rattle.bx_model.specs.bx_tree_files.specs.declared.file.Body.{Body}
use Rattle.bx_model.specs.bx_tree_files.specs.declared.file.Body.TheVariants.{Bytes, Path, Names}
use Rattle.bx_model.specs.bx_tree_files.specs.declared.file.File.{File}
use Rattle.bx_model.specs.declared.tree.Tree.{Tree}
use Rattle.bx_model.specs.bx_tree_files.specs.Files.{file_at, with_file}
use Rattle.bx_truth.specs.Chunks.{chunks_of, block_at, handle_of, own_block, word_at}
use Rattle.bx_truth.specs.Stands.{StandsFor, AreFiles, StaysBut, IsOwned, IsAnInode, HasOne, inode_of}
use Rattle.bx_truth.specs.Stored.{Owner, Inodes, PageOf, DataOf, Stored, HasInode, HasFields, HasBody, HasTree, IsFileOr}
use Rattle.bx_truth.specs.Rewritten.{KeepsBody}
use Rattle.bx_truth.specs.PageTrees.{Chunks, IsTree, IsPageOf, map_of}
use Rattle.bx_views.specs.Truths.{Truth, with_draft}
use Rattle.bx_truth.proofs.Frames.{Keeps, body_kept, files_kept}
use Rattle.bx_truth.proofs.InPlace.{chunk_laid, chunked_stays, some_laid, marks_stay, given_stays}
use Rattle.bx_truth.proofs.OneFiles.{one_inode}
use Rattle.bx_truth.proofs.Cases.{same_or, eq_true, eq_false}
use Rattle.bx_truth.proofs.Same.{IsChunk, chunk_is}
use Rattle.bx_truth.proofs.FilesInOrder.{file_with, rises_with}

-- ---- the body

abbrev pub anew : Stored → Inode → Stored
anew stored new = record { inode = new; tree = stored.tree }

module _ (chunks : Chunks) (owner : ℕ → Owner) (handle : ℕ) (stored : Stored) (new : Inode) (same : KeepsBody stored.inode new) where
  tree_anew : HasTree chunks owner handle stored → HasTree chunks owner handle (anew stored new)
  tree_anew has = record { is = subst (λ (root : ℕ). IsTree chunks root stored.tree) (sym same.tree) has.is; pages = has.pages }

  pub body_anew : (body : Body) → HasBody chunks owner handle stored body → HasBody chunks owner handle (anew stored new) body
  body_anew (Bytes bytes) has = record {
    kind = same.kind ∙ has.kind;
    tree = tree_anew has.tree;
    contents = has.contents;
    bytes_are = record {
      long = has.bytes_are.long ∙ sym same.size;
      each = has.bytes_are.each;
      cleared = λ index place fits less past. has.bytes_are.cleared index place fits less (subst (λ (n : ℕ). n ≤ 4096 * index + place) same.tail past);
    };
  }
  body_anew (Path path) has = record { kind = same.kind ∙ has.kind; no_tree = same.tree ∙ has.no_tree; path_is = same.path ∙ has.path_is }
  body_anew (Names parent next names) has = record {
    kind = same.kind ∙ has.kind;
    tree = tree_anew has.tree;
    parent_is = same.parent ∙ has.parent_is;
    next_is = same.next ∙ has.next_is;
    entries = has.entries;
  }

-- ---- the tree

some_same : {X : Type 0} (x y : X) → Some x ≡ Some y → x ≡ y
some_same x y e = cc

module _ (areas : ℕ) (truth : Truth) (tree : Tree) (handle : ℕ) (block after : Block) (file file_now : File) (old new : Inode)
    (is : StandsFor areas truth tree) (chunk : chunks_of areas truth handle ≡ Some block) (there : file_at tree.files handle ≡ Some file)
    (has_old : HasInode old block) (has_new : HasInode new after) (same_header : after.handle ≡ block.handle) (keeps_body : KeepsBody old new)
    (fields : HasFields new file_now) (same_handle : file_now.handle ≡ handle) (same_body : file_now.body ≡ file.body) where
  abbrev draft : List Changed
  draft = (block_at handle, after) ∷ []

  abbrev now : Chunks
  now = chunks_of areas (with_draft truth ((block_at handle, after) ∷ []))

  own : is.owner handle ≡ Inodes
  own = (is.are_files.all handle file there).0

  was : IsAnInode (chunks_of areas truth) is.owner is.stored tree.files handle block
  was = subst (IsOwned (chunks_of areas truth) is.owner is.stored tree.files handle block) own (is.are_files.each handle block chunk)

  keeps : KeepsBody (is.stored handle).inode new
  keeps = subst (λ (i : Inode). KeepsBody i new) (one_inode old (is.stored handle).inode block.payload has_old.spells was.inode.spells) keeps_body

  the_chunk : IsChunk areas truth handle block
  the_chunk = chunk_is areas truth handle block chunk

  no_own : (area : ℕ) → area < areas → block_in ((block_at handle, after) ∷ []) (own_block area) ≡ None
  no_own area less = ap (λ (b : Bool). if b then Some after else None) (eq_false (block_at handle) (own_block area) (apart (block_at handle) the_chunk.slot.slot))
    where
      apart : (n : ℕ) → n % 1024 < 960 → n ≢ 1024 * area + 960
      apart n less same = omega (arith, less, same)

  header : (at : ℕ) (b : Block) → block_in ((block_at handle, after) ∷ []) at ≡ Some b → b.handle ≡ (truth at).handle
  header at b some = by (same_or (block_at handle) at)
    where
      by : (block_at handle ≡ at) ⊎ (block_at handle ≢ at) → b.handle ≡ (truth at).handle
      by (inl same) =
          let here : Some after ≡ Some b = sym (ap (λ (t : Bool). if t then Some after else None) (eq_true (block_at handle) at same)) ∙ some in
          ap (λ (x : Block). x.handle) (sym (some_same after b here)) ∙ same_header ∙ ap (λ (x : Block). x.handle) (sym the_chunk.is_block) ∙ ap (λ (n : ℕ). (truth n).handle) same
      by (inr other) = let none : None ≡ Some b = sym (ap (λ (t : Bool). if t then Some after else None) (eq_false (block_at handle) at other)) ∙ some in absurd cc

  -- another chunk is in another block
  elsewhere : (h : ℕ) (b : Block) → h ≢ handle → chunks_of areas truth h ≡ Some b → block_in ((block_at handle, after) ∷ []) (block_at h) ≡ None
  elsewhere h b other some = ap (λ (t : Bool). if t then Some after else None) (eq_false (block_at handle) (block_at h) (λ same.
      let c = chunk_is areas truth h b some in
      other (c.is_handle ∙ ap (λ (n : ℕ). handle_of n (generation_in (word_at truth n))) (sym same) ∙ sym the_chunk.is_handle)))

  chunk_other : (h : ℕ) (b : Block) → h ≢ handle → chunks_of areas truth h ≡ Some b → now h ≡ Some b
  chunk_other h b other some = chunk_laid areas truth ((block_at handle, after) ∷ []) no_own header h ∙ ap (option_map (unwrap_or (block_in ((block_at handle, after) ∷ []) (block_at h)))) some
      ∙ ap (λ (o : Option Block). Some (unwrap_or o b)) (elsewhere h b other some)

  here_in : block_in ((block_at handle, after) ∷ []) (block_at handle) ≡ Some after
  here_in = ap (λ (t : Bool). if t then Some after else None) (eq_true (block_at handle) (block_at handle) refl)

  chunk_here : now handle ≡ Some after
  chunk_here = chunk_laid areas truth ((block_at handle, after) ∷ []) no_own header handle ∙ ap (option_map (unwrap_or (block_in ((block_at handle, after) ∷ []) (block_at handle)))) chunk
      ∙ ap (λ (o : Option Block). Some (unwrap_or o block)) here_in

  not_handle : (h : ℕ) → (inode_of h (is.owner h) == handle) ≡ false → h ≢ handle
  not_handle h test same =
      let e : inode_of h (is.owner h) ≡ handle = ap (inode_of h) (ap is.owner same ∙ own) ∙ same in
      let t = eq_true (inode_of h (is.owner h)) handle e in absurd cc

  stays : StaysBut (λ h. h == handle) (chunks_of areas truth) is.owner now is.owner
  stays = record {
    kept = λ h b some test. (chunk_other h b (not_handle h test) some, refl);
    none_new = λ h b some test.
        let before = some_laid areas truth ((block_at handle, after) ∷ []) no_own header h b some in
        (before.1 ∙ ap Some (sym (ap (λ (o : Option Block). unwrap_or o before.0) (elsewhere h before.0 (not_handle h test) before.1)) ∙ before.2), refl);
  }

  page_elsewhere : (h o : ℕ) → is.owner h ≡ PageOf o → h ≢ handle
  page_elsewhere h o page same = let e : Inodes ≡ PageOf o = sym own ∙ ap is.owner (sym same) ∙ page in absurd cc

  piece_elsewhere : (h o index : ℕ) → is.owner h ≡ DataOf o index → h ≢ handle
  piece_elsewhere h o index piece same = let e : Inodes ≡ DataOf o index = sym own ∙ ap is.owner (sym same) ∙ piece in absurd cc

  keeps_chunks : Keeps (chunks_of areas truth) now is.owner is.owner handle (is.stored handle)
  keeps_chunks = record {
    pages = λ node b page some. (chunk_other node.handle b (page_elsewhere node.handle handle page) some, refl);
    pieces = λ names index b piece some. (chunk_other names b (piece_elsewhere names handle index piece) some, refl);
  }

  abbrev stored_now : ℕ → Stored
  stored_now h = if h == handle then record { inode = new; tree = (is.stored handle).tree } else is.stored h

  stored_here : (h : ℕ) → h ≡ handle → stored_now h ≡ anew (is.stored handle) new
  stored_here h same = ap (λ (t : Bool). if t then anew (is.stored handle) new else is.stored h) (eq_true h handle same)

  stored_there : (h : ℕ) → (h == handle) ≡ false → stored_now h ≡ is.stored h
  stored_there h test = ap (λ (t : Bool). if t then anew (is.stored handle) new else is.stored h) test

  equal : (a b : ℕ) → (a == b) ≡ true → a ≡ b
  equal a b test = grind (arith, nat_tests, test)

  file_here : file_at (with_file tree.files file_now) handle ≡ Some file_now
  file_here = file_with tree.files file_now handle ∙ ap (λ (t : Bool). if t then Some file_now else file_at tree.files handle) (eq_true file_now.handle handle same_handle)

  file_there : (h : ℕ) → (h == handle) ≡ false → file_at (with_file tree.files file_now) h ≡ file_at tree.files h
  file_there h test = file_with tree.files file_now h ∙ ap (λ (t : Bool). if t then Some file_now else file_at tree.files h) (eq_false file_now.handle h (λ same. let t = eq_true h handle (sym same ∙ same_handle) in absurd cc))

  the_body : IsFileOr (chunks_of areas truth) is.owner handle (is.stored handle) (file_at tree.files handle) → HasBody (chunks_of areas truth) is.owner handle (is.stored handle) file.body
  the_body has = (subst (IsFileOr (chunks_of areas truth) is.owner handle (is.stored handle)) there has).2

  new_body : HasBody now is.owner handle (anew (is.stored handle) new) file_now.body
  new_body = subst (HasBody now is.owner handle (anew (is.stored handle) new)) (sym same_body)
      (body_anew now is.owner handle (is.stored handle) new keeps file.body
      (body_kept (chunks_of areas truth) now is.owner is.owner handle (is.stored handle) keeps_chunks file.body (the_body was.file)))

  one : HasOne (chunks_of areas truth) is.owner is.stored handle → HasOne now is.owner stored_now handle
  one of = record {
    block = after;
    chunk = chunk_here;
    itself = own;
    has_tree = λ none. of.has_tree (sym keeps.tree ∙ ap (λ (s : Stored). s.inode.tree) (sym (stored_here handle refl)) ∙ none);
  }

  these : (h : ℕ) (b : Block) (o : Owner) → now h ≡ Some b → is.owner h ≡ o → inode_of h o ≡ handle → IsOwned now is.owner stored_now (with_file tree.files file_now) h b o
  these h b Inodes some owned same =
      let after_is : after ≡ b = some_same after b (sym chunk_here ∙ ap now (sym same) ∙ some) in
      record {
        inode = subst (λ (s : Stored). HasInode s.inode b) (sym (stored_here h same)) (subst (HasInode new) after_is has_new);
        file = subst (λ (s : Stored). IsFileOr now is.owner h s (file_at (with_file tree.files file_now) h)) (sym (stored_here h same))
            (subst (λ (n : ℕ). IsFileOr now is.owner n (anew (is.stored handle) new) (file_at (with_file tree.files file_now) n)) (sym same)
            (subst (IsFileOr now is.owner handle (anew (is.stored handle) new)) (sym file_here) (same_handle, fields, new_body)));
      }
  these h b (PageOf inode) some owned same =
      let before = some_laid areas truth ((block_at handle, after) ∷ []) no_own header h b some in
      let b_is : before.0 ≡ b = sym (ap (λ (o : Option Block). unwrap_or o before.0) (elsewhere h before.0 (page_elsewhere h inode owned) before.1)) ∙ before.2 in
      let page = subst (IsOwned (chunks_of areas truth) is.owner is.stored tree.files h before.0) owned (is.are_files.each h before.0 before.1) in
      record {
        kind = ap (λ (x : Block). x.kind) (sym b_is) ∙ page.kind;
        of = subst (HasOne now is.owner stored_now) (sym same) (one (subst (HasOne (chunks_of areas truth) is.owner is.stored) same page.of));
        node = page.node;
        there = subst (λ (s : Stored). IsPageOf s.tree page.node) (sym (stored_here inode same)) (subst (λ (n : ℕ). IsPageOf (is.stored n).tree page.node) same page.there);
        names = page.names;
      }
  these h b (DataOf inode index) some owned same =
      let before = some_laid areas truth ((block_at handle, after) ∷ []) no_own header h b some in
      let b_is : before.0 ≡ b = sym (ap (λ (o : Option Block). unwrap_or o before.0) (elsewhere h before.0 (piece_elsewhere h inode index owned) before.1)) ∙ before.2 in
      let piece = subst (IsOwned (chunks_of areas truth) is.owner is.stored tree.files h before.0) owned (is.are_files.each h before.0 before.1) in
      record {
        kind = ap (λ (x : Block). x.kind) (sym b_is) ∙ piece.kind;
        of = subst (HasOne now is.owner stored_now) (sym same) (one (subst (HasOne (chunks_of areas truth) is.owner is.stored) same piece.of));
        names = ap (λ (s : Stored). value_of (map_of s.tree) (content_key index)) (stored_here inode same)
            ∙ ap (λ (n : ℕ). value_of (map_of (is.stored n).tree) (content_key index)) (sym same) ∙ piece.names;
      }

  some_not : (o : Option Block) (b : Block) → o ≡ Some b → o ≢ None
  some_not o b some none = absurd cc

  are_files_now : AreFiles now is.owner stored_now (with_file tree.files file_now)
  are_files_now = files_kept (λ h. h == handle) (chunks_of areas truth) now is.owner is.owner is.stored stored_now tree.files (with_file tree.files file_now)
      is.are_files stays stored_there file_there
      (λ h b some test. these h b (is.owner h) some refl (equal (inode_of h (is.owner h)) handle test))
      (λ h other test found. (ap is.owner (equal h handle test) ∙ own, subst (λ (n : ℕ). now n ≢ None) (sym (equal h handle test)) (some_not (now handle) after chunk_here)))

  kinds : (h : ℕ) → (stored_now h).inode.kind ≡ (is.stored h).inode.kind
  kinds h = by (same_or h handle)
    where
      by : (h ≡ handle) ⊎ (h ≢ handle) → (stored_now h).inode.kind ≡ (is.stored h).inode.kind
      by (inl same) = ap (λ (s : Stored). s.inode.kind) (stored_here h same) ∙ keeps.kind ∙ ap (λ (n : ℕ). (is.stored n).inode.kind) (sym same)
      by (inr other) = ap (λ (s : Stored). s.inode.kind) (stored_there h (eq_false h handle other))

  root_there : file_at (with_file tree.files file_now) root_handle ≢ None
  root_there none = by (same_or root_handle handle)
    where
      by : (root_handle ≡ handle) ⊎ (root_handle ≢ handle) → ⊥
      by (inl same) = let e : Some file_now ≡ None = sym file_here ∙ ap (file_at (with_file tree.files file_now)) (sym same) ∙ none in absurd cc
      by (inr other) = is.has_root (sym (file_there root_handle (eq_false root_handle handle other)) ∙ none)

  pub rewritten_stands : StandsFor areas (with_draft truth ((block_at handle, after) ∷ [])) (record tree { files = with_file tree.files file_now })
  rewritten_stands = record {
    chunked = chunked_stays areas truth ((block_at handle, after) ∷ []) no_own header is.chunked;
    owner = is.owner;
    stored = stored_now;
    are_files = are_files_now;
    marks = marks_stay areas truth ((block_at handle, after) ∷ []) no_own header is.owner is.stored stored_now kinds is.marks;
    areas_are = is.areas_are;
    root_is = is.root_is;
    has_root = root_there;
    in_order = rises_with tree.files file_now is.in_order;
    given = λ h given. given_stays areas truth ((block_at handle, after) ∷ []) no_own header h (is.given h given);
  }
