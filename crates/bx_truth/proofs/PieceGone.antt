-- What an inode has once a piece is cut.
use Rattle.std.proofs.Common.{◌≡◌, ℕ, ◌^◌, ◌<◌, ◌⊎◌, inl, inr, Bool, List, sym, ap, ◌∙◌, refl, Option, Some, None}
use Rattle.std.specs.Prelude.{◌≢◌, if◌then◌else◌, option_and_then}
use Rattle.bx_views.specs.bx_layout.specs.declared.block.Block.{Block}
use Rattle.bx_page.specs.Contents.{value_of}
use Rattle.bx_truth.specs.Keys.{content_key, content_value}
use Rattle.bx_truth.specs.Stored.{Owner, Inodes, PageOf, DataOf, Stored, HasTree, HasContents, IsContent, piece_of}
use Rattle.bx_truth.specs.PageTrees.{Chunks, Node, PageTree, IsPageOf, map_of, handle_in}
use Rattle.bx_truth.specs.Shown.{IsPageIn, IsPieceIn}
use Rattle.bx_truth.specs.Pieces.{CutsPiece, pieces_without}
use Rattle.bx_truth.proofs.Frames.{handle_back}
use Rattle.bx_truth.proofs.Cases.{same_or, eq_true, eq_false, found}
use Rattle.bx_truth.proofs.PieceKeys.{none_some, some_same, yes, not_yes, one_index, one_handle}

-- what is known of an inode with a tree: a regular file's, or a dead one
pub record HasPieces (chunks : Chunks) (owner : ℕ → Owner) (handle : ℕ) (stored : Stored) : Type 0 where
  pub tree : HasTree chunks owner handle stored
  pub contents : HasContents chunks owner handle stored
  pub block : Block
  pub chunk : chunks handle ≡ Some block
  pub itself : owner handle ≡ Inodes
  pub pages : (h : ℕ) (b : Block) → chunks h ≡ Some b → owner h ≡ PageOf handle → IsPageIn stored h b
  pub pieces : (h index : ℕ) (b : Block) → chunks h ≡ Some b → owner h ≡ DataOf handle index → IsPieceIn stored index h b

module _ (chunks now : Chunks) (owner : ℕ → Owner) (handle : ℕ) (stored : Stored) (s : HasPieces chunks owner handle stored)
    (after : PageTree) (index names : ℕ) (p : CutsPiece chunks now stored after index names) where
  index_same : (a b : ℕ) → DataOf handle a ≡ DataOf handle b → a ≡ b
  index_same a b e = cc

  the_content : IsContent chunks owner handle (content_key index) (content_value names)
  the_content = s.contents (content_key index) (content_value names) p.was

  pub own_here : owner names ≡ DataOf handle index
  own_here =
      let c = the_content in
      let n : names ≡ c.names = one_handle names c.names p.names_fits c.names_fits c.value_is in
      let i : index ≡ c.index = one_index index c.index p.index_fits c.index_fits c.key_is in
      ap owner n ∙ c.own ∙ ap (DataOf handle) (sym i)

  not_page : (h : ℕ) → owner h ≢ PageOf handle → (node : Node) → IsPageOf stored.tree node → node.handle ≢ h
  not_page h other node there same = other (ap owner (sym same) ∙ s.tree.pages node there)

  -- what is neither a page nor the piece stays
  pub same_chunk : (h : ℕ) → h ≢ names → owner h ≢ PageOf handle → now h ≡ chunks h
  same_chunk h other not_own = p.around.others h other (not_page h not_own)

  -- what is there now isn't the piece
  pub not_gone : (h : ℕ) (b : Block) → now h ≡ Some b → h ≢ names
  not_gone h b some same = none_some b (sym p.gone ∙ ap now (sym same) ∙ some)

  page_chunk : (node : Node) → IsPageOf stored.tree node → (b : Block) × (chunks node.handle ≡ Some b)
  page_chunk node there = let n = (s.tree.is.levels there.level there.within).nodes_are node there.there in (n.block, n.chunk)

  page_own : (node : Node) → IsPageOf after node → owner node.handle ≡ PageOf handle
  page_own node there = let b = p.around.back node there in ap owner (sym b.2) ∙ s.tree.pages b.0 b.1

  pub has_tree : HasTree now owner handle (record { inode = stored.inode; tree = after })
  has_tree = record { is = p.around.is; pages = page_own }

  -- ---- the pieces

  value_here : value_of (map_of after) (content_key index) ≡ None
  value_here = p.values (content_key index) ∙ ap (λ (t : Bool). if t then None else value_of (map_of stored.tree) (content_key index)) (yes (content_key index) (content_key index) refl)

  value_there : (key : List ℕ) → key ≢ content_key index → value_of (map_of after) key ≡ value_of (map_of stored.tree) key
  value_there key other = p.values key ∙ ap (λ (t : Bool). if t then None else value_of (map_of stored.tree) key) (not_yes key (content_key index) other)

  other_names : (key value : List ℕ) → key ≢ content_key index → (c : IsContent chunks owner handle key value) → c.names ≢ names
  other_names key value other c same = other (c.key_is ∙ ap content_key (index_same c.index index (sym c.own ∙ ap owner same ∙ own_here)))

  data_not_page : (h i : ℕ) → owner h ≡ DataOf handle i → owner h ≢ PageOf handle
  data_not_page h i own page = let e : PageOf handle ≡ DataOf handle i = sym page ∙ own in absurd cc

  -- another piece stays
  other_content : (key value : List ℕ) → key ≢ content_key index → IsContent chunks owner handle key value → IsContent now owner handle key value
  other_content key value other c = record {
    index = c.index;
    names = c.names;
    block = c.block;
    index_fits = c.index_fits;
    names_fits = c.names_fits;
    key_is = c.key_is;
    value_is = c.value_is;
    chunk = same_chunk c.names (other_names key value other c) (data_not_page c.names c.index c.own) ∙ c.chunk;
    kind = c.kind;
    own = c.own;
  }

  not_cut : (key value : List ℕ) → value_of (map_of after) key ≡ Some value → key ≢ content_key index
  not_cut key value is same = let e : ◌≡◌ {A = Option (List ℕ)} None (Some value) = sym value_here ∙ ap (value_of (map_of after)) (sym same) ∙ is in absurd cc

  pub contents : HasContents now owner handle (record { inode = stored.inode; tree = after })
  contents key value is =
      let other = not_cut key value is in
      other_content key value other (s.contents key value (sym (value_there key other) ∙ is))

  some_or : (o : Option (List ℕ)) → (o ≡ None) ⊎ ((value : List ℕ) × (o ≡ Some value))
  some_or None = inl refl
  some_or (Some value) = inr (value, refl)

  -- the piece with an index
  pub piece_now : (i : ℕ) → i < 2 ^ 32 → piece_of now after i ≡ pieces_without chunks stored index i
  piece_now i fits = by (same_or i index)
    where
      there : (value : List ℕ) → IsContent chunks owner handle (content_key i) value → content_key i ≢ content_key index → now (handle_in value) ≡ chunks (handle_in value)
      there value c other =
          let e : handle_in value ≡ c.names = ap handle_in c.value_is ∙ handle_back c.names c.names_fits in
          ap now e ∙ same_chunk c.names (other_names (content_key i) value other c) (data_not_page c.names c.index c.own) ∙ ap chunks (sym e)

      by_value : content_key i ≢ content_key index → (value_of (map_of stored.tree) (content_key i) ≡ None) ⊎ ((value : List ℕ) × (value_of (map_of stored.tree) (content_key i) ≡ Some value))
          → option_and_then (λ value. now (handle_in value)) (value_of (map_of stored.tree) (content_key i)) ≡ piece_of chunks stored.tree i
      by_value key (inl none) = ap (option_and_then (λ value. now (handle_in value))) none ∙ sym (ap (option_and_then (λ value. chunks (handle_in value))) none)
      by_value key (inr (value, some)) = ap (option_and_then (λ value. now (handle_in value))) some ∙ there value (s.contents (content_key i) value some) key
          ∙ sym (ap (option_and_then (λ value. chunks (handle_in value))) some)

      by : (i ≡ index) ⊎ (i ≢ index) → piece_of now after i ≡ pieces_without chunks stored index i
      by (inl same) =
          ap (λ (n : ℕ). piece_of now after n) same
          ∙ ap (option_and_then (λ value. now (handle_in value))) value_here
          ∙ sym (ap (λ (t : Bool). if t then None else piece_of chunks stored.tree i) (eq_true i index same))
      by (inr other) =
          let key : content_key i ≢ content_key index = λ same. other (one_index i index fits p.index_fits same) in
          ap (option_and_then (λ value. now (handle_in value))) (value_there (content_key i) key)
          ∙ by_value key (some_or (value_of (map_of stored.tree) (content_key i)))
          ∙ sym (ap (λ (t : Bool). if t then None else piece_of chunks stored.tree i) (eq_false i index other))

  -- ---- what is its own

  module _ (fits : (h : ℕ) (b : Block) → now h ≡ Some b → h < 2 ^ 64) where
    pub page_there : (h : ℕ) (b : Block) → now h ≡ Some b → owner h ≡ PageOf handle → IsPageIn (record { inode = stored.inode; tree = after }) h b
    page_there h b some page = by (found (chunks h))
      where
        none_there : chunks h ≡ None → (node : Node) → IsPageOf stored.tree node → node.handle ≢ h
        none_there none node there same = let c = page_chunk node there in none_some c.0 (sym none ∙ ap chunks (sym same) ∙ c.1)

        by : (chunks h ≡ None) ⊎ ((c : Block) × (chunks h ≡ Some c)) → IsPageIn (record { inode = stored.inode; tree = after }) h b
        by (inl none) = absurd (none_some b (sym none ∙ sym (p.around.others h (not_gone h b some) (none_there none)) ∙ some))
        by (inr (c, was)) =
            let q = s.pages h c was page in
            let f = p.around.forth q.node q.there in
            let n = (p.around.is.levels f.1.level f.1.within).nodes_are f.0 f.1.there in
            let b_is : n.block ≡ b = some_same n.block b (sym n.chunk ∙ ap now (f.2 ∙ q.names) ∙ some) in
            record { kind = ap (λ (x : Block). x.kind) (sym b_is) ∙ n.has.kind; has_tree = q.has_tree; node = f.0; there = f.1; names = f.2 ∙ q.names }

    pub piece_there : (h i : ℕ) (b : Block) → now h ≡ Some b → owner h ≡ DataOf handle i → IsPieceIn (record { inode = stored.inode; tree = after }) i h b
    piece_there h i b some own =
        let was : chunks h ≡ Some b = sym (same_chunk h (not_gone h b some) (data_not_page h i own)) ∙ some in
        let q = s.pieces h i b was own in
        record { kind = q.kind; has_tree = q.has_tree; names = value_there (content_key i) (other_key q.names) ∙ q.names }
      where
        other_key : value_of (map_of stored.tree) (content_key i) ≡ Some (content_value h) → content_key i ≢ content_key index
        other_key is same =
            let e : content_value h ≡ content_value names = some_same (content_value h) (content_value names) (sym is ∙ ap (value_of (map_of stored.tree)) same ∙ p.was) in
            not_gone h b some (one_handle h names (fits h b some) p.names_fits e)

  itself_apart : handle ≢ names
  itself_apart same = let e : Inodes ≡ DataOf handle index = sym s.itself ∙ ap owner same ∙ own_here in absurd cc

  itself_not : owner handle ≢ PageOf handle
  itself_not page = let e : Inodes ≡ PageOf handle = sym s.itself ∙ page in absurd cc

  pub chunk_now : now handle ≡ Some s.block
  chunk_now = same_chunk handle itself_apart itself_not ∙ s.chunk
