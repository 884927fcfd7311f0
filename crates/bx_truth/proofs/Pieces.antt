-- A piece is put.
use Rattle.std.proofs.Common.{◌≡◌, ℕ, ◌/◌, ◌%◌, ◌^◌, ◌<◌, ◌≤◌, ◌⊎◌, inl, inr, arith, Bool, true, false, List, [], length, sym, ap, ◌∙◌, subst, refl, Option, Some, None}
use Rattle.std.specs.Prelude.{◌≢◌, ◌==◌, if◌then◌else◌, bytes_eq, option_and_then}
use Rattle.std.proofs.lemmas.Slice.Eq.{bytes_eq-Decides}
use Rattle.bx_views.specs.bx_layout.specs.declared.block.Block.{Block}
use Rattle.bx_model.specs.bx_tree_files.specs.declared.file.Body.TheVariants.{Bytes}
use Rattle.bx_model.specs.bx_tree_files.specs.declared.file.File.{File}
use Rattle.bx_model.specs.declared.tree.Tree.{Tree}
use Rattle.bx_model.specs.bx_tree_files.specs.Files.{file_at, with_file}
use Rattle.bx_page.specs.Contents.{value_of}
use Rattle.bx_truth.specs.Chunks.{chunks_of}
use Rattle.bx_truth.specs.Keys.{content_key, content_value}
use Rattle.bx_truth.specs.Stands.{StandsFor, inode_of}
use Rattle.bx_truth.specs.Stored.{AreBytesOf, Owner, Inodes, PageOf, DataOf, Stored, HasBody, HasTree, HasContents, IsContent, IsRegular, piece_of, byte_in}
use Rattle.bx_truth.specs.PageTrees.{Chunks, Node, PageTree, IsPageOf, map_of, handle_in}
use Rattle.bx_views.specs.Truths.{Truth}
use Rattle.bx_truth.proofs.Frames.{handle_back}
use Rattle.bx_truth.proofs.Cases.{same_or, eq_true, eq_false, found}
use Rattle.bx_truth.specs.Shown.{IsPageIn, IsPieceIn, IsShown, KeepsSlots, KeepsOthers}
use Rattle.bx_truth.specs.Pieces.{PutsPiece, pieces_with}
use Rattle.bx_truth.proofs.PieceKeys.{none_some, some_same, yes, not_yes, one_index, chunk_fits}
use Rattle.bx_truth.proofs.Put.{shown, put, no_dead}

module _ (chunks now : Chunks) (owner : ℕ → Owner) (handle : ℕ) (stored : Stored) (file : File) (bytes bytes_now : List ℕ) (s : IsShown chunks owner handle stored file) (body_is : file.body ≡ Bytes bytes)
    (after : PageTree) (index names : ℕ) (block : Block) (p : PutsPiece chunks now owner handle stored after index names block)
    (are : AreBytesOf (pieces_with chunks stored index block) stored.inode.size stored.inode.tail bytes_now) where
  abbrev pub owner_now : ℕ → Owner
  owner_now h = if h == names then DataOf handle index else owner h

  regular : IsRegular chunks owner handle stored bytes
  regular = subst (HasBody chunks owner handle stored) body_is s.body

  own_here : owner_now names ≡ DataOf handle index
  own_here = ap (λ (t : Bool). if t then DataOf handle index else owner names) (eq_true names names refl)

  pub own_there : (h : ℕ) → h ≢ names → owner_now h ≡ owner h
  own_there h other = ap (λ (t : Bool). if t then DataOf handle index else owner h) (eq_false h names other)

  -- a chunk of another owner isn't the piece
  apart_by : (h : ℕ) (b : Block) → chunks h ≡ Some b → owner h ≢ DataOf handle index → h ≢ names
  apart_by h b there other same = by p.was
    where
      by : (chunks names ≡ None) ⊎ ((c : Block) × (chunks names ≡ Some c) × (owner names ≡ DataOf handle index)) → ⊥
      by (inl none) = none_some b (sym none ∙ ap chunks (sym same) ∙ there)
      by (inr (c, some, own)) = other (ap owner same ∙ own)

  page_not : (h inode : ℕ) → owner h ≡ PageOf inode → owner h ≢ DataOf handle index
  page_not h inode page piece = let e : PageOf inode ≡ DataOf handle index = sym page ∙ piece in absurd cc

  not_page : (h : ℕ) → owner h ≢ PageOf handle → (node : Node) → IsPageOf stored.tree node → node.handle ≢ h
  not_page h other node there same = other (ap owner (sym same) ∙ regular.tree.pages node there)

  -- what is neither a page nor the piece stays
  pub same_chunk : (h : ℕ) → h ≢ names → owner h ≢ PageOf handle → now h ≡ chunks h
  same_chunk h other not_own = p.around.others h other (not_page h not_own)

  page_chunk : (node : Node) → IsPageOf stored.tree node → (b : Block) × (chunks node.handle ≡ Some b)
  page_chunk node there = let n = (regular.tree.is.levels there.level there.within).nodes_are node there.there in (n.block, n.chunk)

  page_own : (node : Node) → IsPageOf after node → owner_now node.handle ≡ PageOf handle
  page_own node there =
      let b = p.around.back node there in
      let c = page_chunk b.0 b.1 in
      let own : owner node.handle ≡ PageOf handle = ap owner (sym b.2) ∙ regular.tree.pages b.0 b.1 in
      own_there node.handle (apart_by node.handle c.0 (ap chunks (sym b.2) ∙ c.1) (page_not node.handle handle own)) ∙ own

  has_tree : HasTree now owner_now handle (record { inode = stored.inode; tree = after })
  has_tree = record { is = p.around.is; pages = page_own }

  -- ---- the pieces

  value_here : value_of (map_of after) (content_key index) ≡ Some (content_value names)
  value_here = p.values (content_key index) ∙ ap (λ (t : Bool). if t then Some (content_value names) else value_of (map_of stored.tree) (content_key index)) (yes (content_key index) (content_key index) refl)

  value_there : (key : List ℕ) → key ≢ content_key index → value_of (map_of after) key ≡ value_of (map_of stored.tree) key
  value_there key other = p.values key ∙ ap (λ (t : Bool). if t then Some (content_value names) else value_of (map_of stored.tree) key) (not_yes key (content_key index) other)

  index_same : (a b : ℕ) → DataOf handle a ≡ DataOf handle b → a ≡ b
  index_same a b e = cc

  other_names : (key value : List ℕ) → key ≢ content_key index → (c : IsContent chunks owner handle key value) → c.names ≢ names
  other_names key value other c = apart_by c.names c.block c.chunk (λ same. other (c.key_is ∙ ap content_key (index_same c.index index (sym c.own ∙ same))))

  -- another piece stays
  other_content : (key value : List ℕ) → key ≢ content_key index → IsContent chunks owner handle key value → IsContent now owner_now handle key value
  other_content key value other c = record {
    index = c.index;
    names = c.names;
    block = c.block;
    index_fits = c.index_fits;
    names_fits = c.names_fits;
    key_is = c.key_is;
    value_is = c.value_is;
    chunk = same_chunk c.names not_it (λ page. let e : PageOf handle ≡ DataOf handle c.index = sym page ∙ c.own in absurd cc) ∙ c.chunk;
    kind = c.kind;
    own = own_there c.names not_it ∙ c.own;
  }
    where
      not_it : c.names ≢ names
      not_it = apart_by c.names c.block c.chunk (λ same. other (c.key_is ∙ ap content_key (index_of c.index index (sym c.own ∙ same))))
        where
          index_of : (a b : ℕ) → DataOf handle a ≡ DataOf handle b → a ≡ b
          index_of a b e = cc

  pub contents : HasContents now owner_now handle (record { inode = stored.inode; tree = after })
  contents key value is = by (bytes_eq key (content_key index)) refl
    where
      by : (t : Bool) → bytes_eq key (content_key index) ≡ t → IsContent now owner_now handle key value
      by true test =
          let same : key ≡ content_key index = (bytes_eq-Decides key (content_key index)).0 test in
          record {
            index = index;
            names = names;
            block = block;
            index_fits = p.index_fits;
            names_fits = p.names_fits;
            key_is = same;
            value_is = sym (some_same (content_value names) value (sym value_here ∙ ap (value_of (map_of after)) (sym same) ∙ is));
            chunk = p.here;
            kind = p.kind;
            own = own_here;
          }
      by false test =
          let other : key ≢ content_key index = λ same. let e = yes key (content_key index) same in absurd cc in
          other_content key value other (regular.contents key value (sym (value_there key other) ∙ is))

  some_or : (o : Option (List ℕ)) → (o ≡ None) ⊎ ((value : List ℕ) × (o ≡ Some value))
  some_or None = inl refl
  some_or (Some value) = inr (value, refl)

  -- the piece with an index
  pub piece_now : (i : ℕ) → i < 2 ^ 32 → piece_of now after i ≡ pieces_with chunks stored index block i
  piece_now i fits = by (same_or i index)
    where
      there : (value : List ℕ) → IsContent chunks owner handle (content_key i) value → content_key i ≢ content_key index → now (handle_in value) ≡ chunks (handle_in value)
      there value c other =
          let e : handle_in value ≡ c.names = ap handle_in c.value_is ∙ handle_back c.names c.names_fits in
          ap now e ∙ same_chunk c.names (other_names (content_key i) value other c) (λ page. let e : PageOf handle ≡ DataOf handle c.index = sym page ∙ c.own in absurd cc) ∙ ap chunks (sym e)

      by : (i ≡ index) ⊎ (i ≢ index) → piece_of now after i ≡ pieces_with chunks stored index block i
      by (inl same) =
          ap (λ (n : ℕ). piece_of now after n) same
          ∙ ap (option_and_then (λ value. now (handle_in value))) value_here
          ∙ ap now (handle_back names p.names_fits) ∙ p.here
          ∙ sym (ap (λ (t : Bool). if t then Some block else piece_of chunks stored.tree i) (eq_true i index same))
      by (inr other) =
          let key : content_key i ≢ content_key index = λ same. other (one_index i index fits p.index_fits same) in
          ap (option_and_then (λ value. now (handle_in value))) (value_there (content_key i) key)
          ∙ by_value key (some_or (value_of (map_of stored.tree) (content_key i)))
          ∙ sym (ap (λ (t : Bool). if t then Some block else piece_of chunks stored.tree i) (eq_false i index other))
        where
          by_value : content_key i ≢ content_key index → (value_of (map_of stored.tree) (content_key i) ≡ None) ⊎ ((value : List ℕ) × (value_of (map_of stored.tree) (content_key i) ≡ Some value))
              → option_and_then (λ value. now (handle_in value)) (value_of (map_of stored.tree) (content_key i)) ≡ piece_of chunks stored.tree i
          by_value key (inl none) = ap (option_and_then (λ value. now (handle_in value))) none ∙ sym (ap (option_and_then (λ value. chunks (handle_in value))) none)
          by_value key (inr (value, some)) = ap (option_and_then (λ value. now (handle_in value))) some ∙ there value (regular.contents (content_key i) value some) key
              ∙ sym (ap (option_and_then (λ value. chunks (handle_in value))) some)

  -- ---- the file

  module _ (small : stored.inode.size ≤ 2 ^ 32) (fits : (h : ℕ) (b : Block) → now h ≡ Some b → h < 2 ^ 64) where
    low : (place : ℕ) → place < 2 ^ 32 → place / 4096 < 2 ^ 32
    low place less = omega (arith, less)

    wide : (a b c : ℕ) → a ≡ b → b ≤ 2 ^ 32 → c < a → c < 2 ^ 32
    wide a b c same le less = omega (arith, same, le, less)

    page_there : (h : ℕ) (b : Block) → now h ≡ Some b → owner_now h ≡ PageOf handle → IsPageIn (record { inode = stored.inode; tree = after }) h b
    page_there h b some page = by (same_or h names) (found (chunks h))
      where
        none_there : chunks h ≡ None → (node : Node) → IsPageOf stored.tree node → node.handle ≢ h
        none_there none node there same = let c = page_chunk node there in none_some c.0 (sym none ∙ ap chunks (sym same) ∙ c.1)

        by : (h ≡ names) ⊎ (h ≢ names) → (chunks h ≡ None) ⊎ ((c : Block) × (chunks h ≡ Some c)) → IsPageIn (record { inode = stored.inode; tree = after }) h b
        by (inl same) o = let e : DataOf handle index ≡ PageOf handle = sym own_here ∙ ap owner_now (sym same) ∙ page in absurd cc
        by (inr other) (inl none) = absurd (none_some b (sym none ∙ sym (p.around.others h other (none_there none)) ∙ some))
        by (inr other) (inr (c, was)) =
            let q = s.pages h c was (sym (own_there h other) ∙ page) in
            let f = p.around.forth q.node q.there in
            let n = (p.around.is.levels f.1.level f.1.within).nodes_are f.0 f.1.there in
            let b_is : n.block ≡ b = some_same n.block b (sym n.chunk ∙ ap now (f.2 ∙ q.names) ∙ some) in
            record { kind = ap (λ (x : Block). x.kind) (sym b_is) ∙ n.has.kind; has_tree = q.has_tree; node = f.0; there = f.1; names = f.2 ∙ q.names }

    piece_there : (h i : ℕ) (b : Block) → now h ≡ Some b → owner_now h ≡ DataOf handle i → IsPieceIn (record { inode = stored.inode; tree = after }) i h b
    piece_there h i b some piece = by (same_or h names)
      where
        index_of : (x y : ℕ) → DataOf handle x ≡ DataOf handle y → x ≡ y
        index_of x y e = cc

        by : (h ≡ names) ⊎ (h ≢ names) → IsPieceIn (record { inode = stored.inode; tree = after }) i h b
        by (inl same) =
            let i_is : index ≡ i = index_of index i (sym own_here ∙ ap owner_now (sym same) ∙ piece) in
            let b_is : block ≡ b = some_same block b (sym p.here ∙ ap now (sym same) ∙ some) in
            record {
              kind = ap (λ (x : Block). x.kind) (sym b_is) ∙ p.kind;
              has_tree = s_tree;
              names = ap (λ (n : ℕ). value_of (map_of after) (content_key n)) (sym i_is) ∙ value_here ∙ ap (λ (n : ℕ). Some (content_value n)) (sym same);
            }
          where
            top : Node
            top = regular.tree.is.top

            at_top : IsPageOf stored.tree top
            at_top = record { level = stored.tree.height; within = omega arith; there = record { before = []; behind = []; parts = regular.tree.is.root_alone } }

            s_tree : stored.inode.tree ≢ 0
            s_tree = let c = page_chunk top at_top in (s.pages top.handle c.0 c.1 (regular.tree.pages top at_top)).has_tree
        by (inr other) =
            let own : owner h ≡ DataOf handle i = sym (own_there h other) ∙ piece in
            let was : chunks h ≡ Some b = sym (same_chunk h other (λ page. let e : PageOf handle ≡ DataOf handle i = sym page ∙ own in absurd cc)) ∙ some in
            let q = s.pieces h i b was own in
            record { kind = q.kind; has_tree = q.has_tree; names = value_there (content_key i) (λ same. other (not_it q.names own same)) ∙ q.names }
          where
            not_it : value_of (map_of stored.tree) (content_key i) ≡ Some (content_value h) → owner h ≡ DataOf handle i → content_key i ≡ content_key index → h ≡ names
            not_it is own same = p.none_else h (ap (λ (k : List ℕ). value_of (map_of stored.tree) k) (sym same) ∙ is) (fits h b some)

    pub piece_shown : IsShown now owner_now handle (record { inode = stored.inode; tree = after }) (record file { body = Bytes bytes_now })
    piece_shown = record {
      block = s.block;
      chunk = same_chunk handle itself_apart itself_not ∙ s.chunk;
      itself = own_there handle itself_apart ∙ s.itself;
      has = s.has;
      handle_is = s.handle_is;
      fields = record { kind = s.fields.kind; mode = s.fields.mode; nlink = s.fields.nlink; uid = s.fields.uid; gid = s.fields.gid; atime = s.fields.atime; mtime = s.fields.mtime; ctime = s.fields.ctime };
      body = record {
        kind = regular.kind;
        tree = has_tree;
        contents = contents;
        bytes_are = record {
          long = are.long;
          each = λ place less. are.each place less ∙ sym (ap (λ (o : Option Block). byte_in o (place % 4096)) (piece_now (place / 4096) (low place (wide (length bytes_now) stored.inode.size place are.long small less))));
          cleared = λ i place fits_i less past. ap (λ (o : Option Block). byte_in o place) (piece_now i fits_i) ∙ are.cleared i place fits_i less past;
        };
      };
      pages = page_there;
      pieces = piece_there;
    }
      where
        itself_apart : handle ≢ names
        itself_apart = apart_by handle s.block s.chunk (λ piece. let e : Inodes ≡ DataOf handle index = sym s.itself ∙ piece in absurd cc)

        itself_not : owner handle ≢ PageOf handle
        itself_not page = let e : Inodes ≡ PageOf handle = sym s.itself ∙ page in absurd cc

-- A regular file has a piece more, or another one.
pub piece_put : (areas : ℕ) (truth now : Truth) (tree : Tree) (handle : ℕ) (file : File) (bytes bytes_now : List ℕ) (after : PageTree) (index names : ℕ) (block : Block)
    → (is : StandsFor areas truth tree) → file_at tree.files handle ≡ Some file → file.body ≡ Bytes bytes
    → KeepsSlots areas truth now
    → PutsPiece (chunks_of areas truth) (chunks_of areas now) is.owner handle (is.stored handle) after index names block
    → AreBytesOf (pieces_with (chunks_of areas truth) (is.stored handle) index block) (is.stored handle).inode.size (is.stored handle).inode.tail bytes_now
    → (is.stored handle).inode.size ≤ 2 ^ 32 → areas ≤ 64
    → StandsFor areas now (record tree { files = with_file tree.files (record file { body = Bytes bytes_now }) })
piece_put areas truth now tree handle file bytes bytes_now after index names block is there body_is slots p are small few =
    put areas truth now tree handle (record file { body = Bytes bytes_now }) (λ h. if h == names then DataOf handle index else is.owner h) (record { inode = (is.stored handle).inode; tree = after }) is
    slots others (no_dead areas truth tree handle file is there)
    (piece_shown (chunks_of areas truth) (chunks_of areas now) is.owner handle (is.stored handle) file bytes bytes_now s body_is after index names block p are small (λ h b some. chunk_fits areas now h b few some))
  where
    s : IsShown (chunks_of areas truth) is.owner handle (is.stored handle) file
    s = shown areas truth tree handle file is there

    not_page_of : (h : ℕ) → (inode_of h (is.owner h) == handle) ≡ false → is.owner h ≢ PageOf handle
    not_page_of h test page = let t = eq_true (inode_of h (is.owner h)) handle (ap (inode_of h) page) in absurd cc

    not_piece_of : (h : ℕ) → (inode_of h (is.owner h) == handle) ≡ false → is.owner h ≢ DataOf handle index
    not_piece_of h test piece = let t = eq_true (inode_of h (is.owner h)) handle (ap (inode_of h) piece) in absurd cc

    now_apart : (h : ℕ) → (inode_of h ((if h == names then DataOf handle index else is.owner h)) == handle) ≡ false → h ≢ names
    now_apart h test same =
        let own : (if h == names then DataOf handle index else is.owner h) ≡ DataOf handle index = ap (λ (t : Bool). if t then DataOf handle index else is.owner h) (eq_true h names same) in
        let t = eq_true (inode_of h ((if h == names then DataOf handle index else is.owner h))) handle (ap (inode_of h) own) in absurd cc

    others : KeepsOthers areas truth now tree is (λ h. if h == names then DataOf handle index else is.owner h) handle
    others = record {
      kept = λ h b some test.
          let apart = apart_by (chunks_of areas truth) (chunks_of areas now) is.owner handle (is.stored handle) file bytes bytes_now s body_is after index names block p are h b some (not_piece_of h test) in (
            same_chunk (chunks_of areas truth) (chunks_of areas now) is.owner handle (is.stored handle) file bytes bytes_now s body_is after index names block p are h apart (not_page_of h test) ∙ some,
            own_there (chunks_of areas truth) (chunks_of areas now) is.owner handle (is.stored handle) file bytes bytes_now s body_is after index names block p are h apart,
          );
      none_new = λ h b some test.
          let apart = now_apart h test in
          let own : (if h == names then DataOf handle index else is.owner h) ≡ is.owner h = own_there (chunks_of areas truth) (chunks_of areas now) is.owner handle (is.stored handle) file bytes bytes_now s body_is after index names block p are h apart in
          let old_test : (inode_of h (is.owner h) == handle) ≡ false = ap (λ (o : Owner). inode_of h o == handle) (sym own) ∙ test in
          (sym (same_chunk (chunks_of areas truth) (chunks_of areas now) is.owner handle (is.stored handle) file bytes bytes_now s body_is after index names block p are h apart (not_page_of h old_test)) ∙ some, own);
    }
