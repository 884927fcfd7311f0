-- The block of a piece is rewritten in its place.
use Rattle.std.proofs.Common.{◌≡◌, ℕ, ◌^◌, ◌%◌, ◌<◌, ◌≤◌, ◌⊎◌, inl, inr, arith, Bool, true, false, List, [], ◌∷◌, sym, ap, ◌∙◌, subst, refl, Some, None}
use Rattle.std.specs.Prelude.{◌≢◌, if◌then◌else◌, bytes_eq, unwrap_or, option_map}
use Rattle.std.proofs.lemmas.Slice.Eq.{bytes_eq-Decides}
use Rattle.bx_views.specs.bx_layout.specs.declared.block.Block.{Block}
use Rattle.bx_views.specs.bx_layout.specs.Areas.{generation_in}
use Rattle.bx_views.specs.Truths.{block_in}
use Rattle.bx_model.specs.bx_tree_files.specs.declared.file.Body.TheVariants.{Bytes}
use Rattle.bx_model.specs.bx_tree_files.specs.declared.file.File.{File}
use Rattle.bx_model.specs.declared.tree.Tree.{Tree}
use Rattle.bx_model.specs.bx_tree_files.specs.Files.{file_at, with_file}
use Rattle.bx_page.specs.Contents.{value_of}
use Rattle.bx_truth.specs.Chunks.{chunks_of, block_at, handle_of, own_block, word_at}
use Rattle.bx_truth.specs.Keys.{content_key, content_value}
use Rattle.bx_truth.specs.Stands.{StandsFor}
use Rattle.bx_truth.specs.Stored.{AreBytesOf, PageOf, DataOf, HasBody, IsContent, IsRegular}
use Rattle.bx_truth.specs.PageTrees.{Node, IsPageOf, map_of}
use Rattle.bx_views.specs.Truths.{Truth, with_draft}
use Rattle.bx_truth.specs.Shown.{IsShown, KeepsSlots}
use Rattle.bx_truth.specs.Pieces.{PutsPiece, pieces_with}
use Rattle.bx_truth.proofs.Frames.{tree_kept}
use Rattle.bx_truth.proofs.Cases.{same_or, eq_true, eq_false, found}
use Rattle.bx_truth.proofs.InPlace.{chunk_laid, chunked_stays, word_stays, dead_stays}
use Rattle.bx_truth.proofs.PieceKeys.{none_some, some_same, one_index, one_handle}
use Rattle.bx_truth.proofs.Pieces.{piece_put}
use Rattle.bx_truth.proofs.Put.{shown}
use Rattle.bx_truth.proofs.Same.{IsChunk, chunk_is}

module _ (areas : ℕ) (few : areas ≤ 64) (truth : Truth) (tree : Tree) (handle : ℕ) (file : File) (bytes bytes_now : List ℕ) (index names : ℕ) (block : Block)
    (is : StandsFor areas truth tree) (there : file_at tree.files handle ≡ Some file) (body_is : file.body ≡ Bytes bytes)
    (index_fits : index < 2 ^ 32) (names_fits : names < 2 ^ 64) (value_is : value_of (map_of (is.stored handle).tree) (content_key index) ≡ Some (content_value names))
    (kind : block.kind ≡ 3) (header : block.handle ≡ names) where
  s : IsShown (chunks_of areas truth) is.owner handle (is.stored handle) file
  s = shown areas truth tree handle file is there

  regular : IsRegular (chunks_of areas truth) is.owner handle (is.stored handle) bytes
  regular = subst (HasBody (chunks_of areas truth) is.owner handle (is.stored handle)) body_is s.body

  content : IsContent (chunks_of areas truth) is.owner handle (content_key index) (content_value names)
  content = regular.contents (content_key index) (content_value names) value_is

  names_is : names ≡ content.names
  names_is = one_handle names content.names names_fits content.names_fits content.value_is

  chunk : chunks_of areas truth names ≡ Some content.block
  chunk = ap (chunks_of areas truth) names_is ∙ content.chunk

  own_here : is.owner names ≡ DataOf handle index
  own_here = ap is.owner names_is ∙ content.own ∙ ap (DataOf handle) (sym (one_index index content.index index_fits content.index_fits content.key_is))

  the_chunk : IsChunk areas truth names content.block
  the_chunk = chunk_is areas truth names content.block chunk

  -- the header that was there
  header_was : (truth (block_at names)).handle ≡ names
  header_was = is.chunked.used (block_at names) the_chunk.slot the_chunk.used ∙ sym the_chunk.is_handle

  no_own : (area : ℕ) → area < areas → block_in ((block_at names, block) ∷ []) (own_block area) ≡ None
  no_own area less = ap (λ (b : Bool). if b then Some block else None) (eq_false (block_at names) (own_block area) (apart (block_at names) the_chunk.slot.slot))
    where
      apart : (n : ℕ) → n % 1024 < 960 → n ≢ own_block area
      apart n less same = omega (arith, less, same)

  same_header : (at : ℕ) (b : Block) → block_in ((block_at names, block) ∷ []) at ≡ Some b → b.handle ≡ (truth at).handle
  same_header at b some = by (same_or (block_at names) at)
    where
      by : (block_at names ≡ at) ⊎ (block_at names ≢ at) → b.handle ≡ (truth at).handle
      by (inl same) =
          let here : Some block ≡ Some b = sym (ap (λ (t : Bool). if t then Some block else None) (eq_true (block_at names) at same)) ∙ some in
          ap (λ (x : Block). x.handle) (sym (some_same block b here)) ∙ header ∙ sym header_was ∙ ap (λ (n : ℕ). (truth n).handle) same
      by (inr other) = absurd (none_some b (sym (ap (λ (t : Bool). if t then Some block else None) (eq_false (block_at names) at other)) ∙ some))

  now_is : (h : ℕ) → chunks_of areas (with_draft truth ((block_at names, block) ∷ [])) h ≡ option_map (unwrap_or (block_in ((block_at names, block) ∷ []) (block_at h))) (chunks_of areas truth h)
  now_is h = chunk_laid areas truth ((block_at names, block) ∷ []) no_own same_header h

  here : chunks_of areas (with_draft truth ((block_at names, block) ∷ [])) names ≡ Some block
  here = now_is names ∙ ap (option_map (unwrap_or (block_in ((block_at names, block) ∷ []) (block_at names)))) chunk
      ∙ ap (λ (t : Bool). Some (unwrap_or (if t then Some block else None) content.block)) (eq_true (block_at names) (block_at names) refl)

  -- another chunk is in another block
  elsewhere : (h : ℕ) (b : Block) → h ≢ names → chunks_of areas truth h ≡ Some b → block_at names ≢ block_at h
  elsewhere h b other some same =
      let c = chunk_is areas truth h b some in
      other (c.is_handle ∙ ap (λ (n : ℕ). handle_of n (generation_in (word_at truth n))) (sym same) ∙ sym the_chunk.is_handle)

  others : (h : ℕ) → h ≢ names → chunks_of areas (with_draft truth ((block_at names, block) ∷ [])) h ≡ chunks_of areas truth h
  others h other = now_is h ∙ by (found (chunks_of areas truth h))
    where
      by : (chunks_of areas truth h ≡ None) ⊎ ((b : Block) × (chunks_of areas truth h ≡ Some b))
          → option_map (unwrap_or (block_in ((block_at names, block) ∷ []) (block_at h))) (chunks_of areas truth h) ≡ chunks_of areas truth h
      by (inl none) = ap (option_map (unwrap_or (block_in ((block_at names, block) ∷ []) (block_at h)))) none ∙ sym none
      by (inr (b, some)) = ap (option_map (unwrap_or (block_in ((block_at names, block) ∷ []) (block_at h)))) some
          ∙ ap (λ (t : Bool). Some (unwrap_or (if t then Some block else None) b)) (eq_false (block_at names) (block_at h) (elsewhere h b other some)) ∙ sym some

  page_apart : (node : Node) → IsPageOf (is.stored handle).tree node → node.handle ≢ names
  page_apart node page same = let e : PageOf handle ≡ DataOf handle index = sym (regular.tree.pages node page) ∙ ap is.owner same ∙ own_here in absurd cc

  values : (key : List ℕ) → value_of (map_of (is.stored handle).tree) key ≡ (if bytes_eq key (content_key index) then Some (content_value names) else value_of (map_of (is.stored handle).tree) key)
  values key = by (bytes_eq key (content_key index)) refl
    where
      by : (t : Bool) → bytes_eq key (content_key index) ≡ t → value_of (map_of (is.stored handle).tree) key ≡ (if t then Some (content_value names) else value_of (map_of (is.stored handle).tree) key)
      by true test = ap (value_of (map_of (is.stored handle).tree)) ((bytes_eq-Decides key (content_key index)).0 test) ∙ value_is
      by false test = refl

  puts : PutsPiece (chunks_of areas truth) (chunks_of areas (with_draft truth ((block_at names, block) ∷ []))) is.owner handle (is.stored handle) (is.stored handle).tree index names block
  puts = record {
    was = inr (content.block, chunk, own_here);
    index_fits = index_fits;
    names_fits = names_fits;
    kind = kind;
    here = here;
    values = values;
    none_else = λ other is_other fits. one_handle other names fits names_fits (some_same (content_value other) (content_value names) (sym is_other ∙ value_is));
    around = record {
      is = tree_kept (chunks_of areas truth) (chunks_of areas (with_draft truth ((block_at names, block) ∷ []))) (is.stored handle).inode.tree (is.stored handle).tree regular.tree.is
          (λ node b page some. others node.handle (page_apart node page) ∙ some);
      back = λ node page. (node, page, refl);
      forth = λ node page. (node, page, refl);
      others = λ h other not_page. others h other;
    };
  }

  slots : KeepsSlots areas truth (with_draft truth ((block_at names, block) ∷ []))
  slots = record {
    chunked = chunked_stays areas truth ((block_at names, block) ∷ []) no_own same_header is.chunked;
    given = λ b slot. subst (λ (w : ℕ). generation_in (word_at truth b) ≤ generation_in w) (sym (word_stays areas truth ((block_at names, block) ∷ []) no_own same_header b slot)) (omega arith);
    dead = λ b slot. dead_stays areas truth ((block_at names, block) ∷ []) no_own same_header b slot;
  }

  pub piece_rewritten : AreBytesOf (pieces_with (chunks_of areas truth) (is.stored handle) index block) (is.stored handle).inode.size (is.stored handle).inode.tail bytes_now
      → (is.stored handle).inode.size ≤ 2 ^ 32
      → StandsFor areas (with_draft truth ((block_at names, block) ∷ [])) (record tree { files = with_file tree.files (record file { body = Bytes bytes_now }) })
  piece_rewritten are small = piece_put areas truth (with_draft truth ((block_at names, block) ∷ [])) tree handle file bytes bytes_now (is.stored handle).tree index names block is there body_is slots puts are small few
