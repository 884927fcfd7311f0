-- A step of clearing leaves the tree: the last piece behind the end is cleared there, and the tail falls.
use Rattle.std.proofs.Common.{◌≡◌, ℕ, ◌+◌, ◌-◌, ◌*◌, ◌^◌, ◌<◌, ◌≤◌, arith, List, [], ◌∷◌, Option, Some, None, sym, ap, ◌∙◌, subst, refl, inl, inr, Ok, Err}
use Rattle.std.specs.Prelude.{◌⊎◌, ◌≢◌, IfOk, max, min, option_and_then, Result}
use Rattle.std.specs.Int.{div_ceil}
use Rattle.std.proofs.lemmas.Bool.{cases_lt}
use Rattle.bx_inodes.specs.Fitting.{HintsFitAll}
use Rattle.bx_inodes.proofs.Pages.{inode_is}
use Rattle.bx_blink.specs.Hints.{Under}
use Rattle.bx_inodes.specs.declared.stop.Stop.{Stop}
use Rattle.bx_inodes.specs.declared.stop.Stop.TheVariants.{Need, Inner, Status, OutOfMemory}
use Rattle.bx_inodes.specs.Inodes.{HoldsInode}
use Rattle.bx_inodes.specs.Writing.{PutsInode}
use Rattle.bx_layout.specs.declared.block.Block.{Block}
use Rattle.bx_layout.specs.declared.inode.Inode.{Inode}
use Rattle.bx_making.proofs.Puts.{put_chunk, put_slots}
use Rattle.bx_model.specs.declared.tree.Tree.{Tree}
use Rattle.bx_page.specs.declared.entry.Entry.{Entry}
use Rattle.bx_page.specs.Contents.{value_of}
use Rattle.bx_records.specs.Drafts.{Changed}
use Rattle.bx_tree_files.specs.declared.file.Body.TheVariants.{Bytes}
use Rattle.bx_tree_files.specs.declared.file.File.{File}
use Rattle.bx_tree_files.specs.Files.{file_at, with_file}
use Rattle.bx_truth.specs.Chunks.{block_at, chunks_of}
use Rattle.bx_truth.specs.Edits.{ChunkAnew}
use Rattle.bx_truth.specs.Keys.{content_key, content_value}
use Rattle.bx_truth.specs.PageTrees.{IsPageOf, IsTree, Node, PageTree, handle_in, map_of}
use Rattle.bx_truth.specs.Pieces.{pieces_with}
use Rattle.bx_truth.specs.Shown.{KeepsSlots}
use Rattle.bx_truth.specs.Stands.{StandsFor}
use Rattle.bx_truth.specs.Stored.{AreBytesOf, DataOf, HasBody, HasFields, Inodes, IsContent, IsRegular, PageOf, byte_in, piece_of}
use Rattle.bx_truth.proofs.Cases.{same_or}
use Rattle.bx_truth.proofs.Frames.{handle_back, tree_kept}
use Rattle.bx_truth.proofs.OneTree.{one_map}
use Rattle.bx_truth.proofs.PieceRewritten.{piece_rewritten}
use Rattle.bx_truth.proofs.Put.{shown}
use Rattle.bx_truth.proofs.Same.{chunk_is}
use Rattle.bx_truth.proofs.Splits.{with_same}
use Rattle.bx_views.specs.Truths.{Held, Hints, IsTruth, Truth, with_draft}
use Rattle.bx_sizes.proofs.Bytes.{fallen, same_bytes}
use Rattle.bx_sizes.proofs.Fits.{piece_fits}
use Rattle.bx_sizes.proofs.InodePut.{bytes_were, inode_leads, inode_now, inode_put}
use Rattle.bx_sizes.proofs.Stops.{not_lost}
use Rattle.bx_sizes.specs.Answers.{Clears, LeavesTree}
use Rattle.bx_sizes.specs.Clearing.{HasNone, IsLastPiece, end_cut, first_cut}
use Rattle.bx_sizes.specs.Cuts.{LowersTail}
use Rattle.bx_sizes.specs.Steps.{ClearsAt, ClearsPiece, lowered}

-- the tree with a file put as it is
pub as_it_was : (areas : ℕ) (truth : Truth) (tree : Tree) (handle : ℕ) (file put : File) (is : StandsFor areas truth tree) → file_at tree.files handle ≡ Some file → file.handle ≡ handle → put ≡ file
    → (now : Truth) → StandsFor areas now (record tree { files = with_file tree.files put }) → StandsFor areas now tree
as_it_was areas truth tree handle file put is there handle_is same now stands =
    subst (λ (fs : List File). StandsFor areas now (record tree { files = fs })) (ap (with_file tree.files) same ∙ with_same tree.files file is.in_order (ap (file_at tree.files) handle_is ∙ there)) stands

-- bytes of pieces that there aren't are zeros
no_piece_zero : (chunks : ℕ → Option Block) (pages : PageTree) (index place : ℕ) → value_of (map_of pages) (content_key index) ≡ None → byte_in (piece_of chunks pages index) place ≡ 0
no_piece_zero chunks pages index place none = ap (λ (o : Option (List ℕ)). byte_in (option_and_then (λ value. chunks (handle_in value)) o) place) none

-- where a tail ends, by an index
below_end : (tail size index place : ℕ) → index < 2 ^ 32 → place < 4096 → 4096 * index + place < tail → index < min (div_ceil tail 4096) 4294967296
below_end tail size index place fits less below = omega (arith, fits, below)

-- where a piece with an index below the tail's end is cleared, the tail falls
below_tail : (index size tail : ℕ) → size < tail → index < min (div_ceil tail 4096) 4294967296 → max size (4096 * index) < tail
below_tail index size tail behind below = omega (arith, behind, below)

module _ (areas : ℕ) (held : Held) (truth : Truth) (tree : Tree) (handle : ℕ) (file : File) (bytes : List ℕ) (inode : Inode) (few : areas ≤ 64) (same : IsTruth held truth) (is : StandsFor areas truth tree)
    (holds : HoldsInode areas truth handle inode) (there : file_at tree.files handle ≡ Some file) (body_is : file.body ≡ Bytes bytes) where
  inode_same : (is.stored handle).inode ≡ inode
  inode_same = inode_is areas truth tree is handle inode holds

  regular : IsRegular (chunks_of areas truth) is.owner handle (is.stored handle) bytes
  regular = subst (HasBody (chunks_of areas truth) is.owner handle (is.stored handle)) body_is (shown areas truth tree handle file is there).body

  fields : HasFields inode file
  fields = subst (λ (i : Inode). HasFields i file) inode_same (shown areas truth tree handle file is there).fields

  handle_is : file.handle ≡ handle
  handle_is = (shown areas truth tree handle file is there).handle_is

  fields_of : (tail : ℕ) → HasFields (record inode { tail = tail }) file
  fields_of tail = record { kind = fields.kind; mode = fields.mode; nlink = fields.nlink; uid = fields.uid; gid = fields.gid; atime = fields.atime; mtime = fields.mtime; ctime = fields.ctime }

  -- ---- where there is no piece behind the end

  module _ (draft : List Changed) (none : HasNone (map_of (is.stored handle).tree) (first_cut inode) (end_cut inode)) (puts : PutsInode [] draft handle (record inode { tail = inode.size })) where
    were_none : AreBytesOf (piece_of (chunks_of areas truth) (is.stored handle).tree) inode.size inode.tail bytes
    were_none = bytes_were areas held truth [] draft tree handle file file bytes bytes inode (record inode { tail = inode.size }) same is there holds puts body_is body_is refl refl

    zeros_none : (index place : ℕ) → index < 2 ^ 32 → place < 4096 → inode.size ≤ 4096 * index + place → byte_in (piece_of (chunks_of areas truth) (is.stored handle).tree index) place ≡ 0
    zeros_none index place fits less past = by (cases_lt (4096 * index + place) inode.tail)
      where
        by : (4096 * index + place < inode.tail) ⊎ (inode.tail ≤ 4096 * index + place) → byte_in (piece_of (chunks_of areas truth) (is.stored handle).tree index) place ≡ 0
        by (inl below) = no_piece_zero (chunks_of areas truth) (is.stored handle).tree index place (none index (omega (arith, past, less)) (below_end inode.tail inode.size index place fits less below))
        by (inr high) = were_none.cleared index place fits less high

    pub none_leaves : LeavesTree areas truth tree draft
    none_leaves = record {
      stands = as_it_was areas truth tree handle file file is there handle_is refl (with_draft truth draft)
          (inode_put areas held truth [] draft tree handle file file bytes bytes inode (record inode { tail = inode.size }) same is there holds puts body_is body_is refl refl
          (fallen (piece_of (chunks_of areas truth) (is.stored handle).tree) inode.size inode.tail bytes were_none inode.size zeros_none) (fields_of inode.size) handle_is);
      leads = λ hints fit. inode_leads areas held truth [] draft tree handle file file bytes bytes inode (record inode { tail = inode.size }) same is there holds puts body_is body_is refl refl hints fit;
    }

    pub none_lowers : inode.size < inode.tail → LowersTail areas truth handle inode draft
    none_lowers behind = record {
      tail = inode.size;
      lower = behind;
      holds = inode_now areas held truth [] draft tree handle file file bytes bytes inode (record inode { tail = inode.size }) same is there holds puts body_is body_is refl refl;
    }

  -- ---- where there is one

  module _ (draft : List Changed) (index names : ℕ) (small : inode.size < 2 ^ 31) (last : IsLastPiece (map_of (is.stored handle).tree) (first_cut inode) (end_cut inode) index names) (c : ClearsPiece held handle inode index names draft) where
    index_fits : index < 2 ^ 32
    index_fits = let below = last.below in omega (arith, below)

    content : IsContent (chunks_of areas truth) is.owner handle (content_key index) last.value
    content = regular.contents (content_key index) last.value last.is

    names_is : names ≡ content.names
    names_is = last.names_is ∙ ap handle_in content.value_is ∙ handle_back content.names content.names_fits

    names_fits : names < 2 ^ 64
    names_fits = subst (λ (n : ℕ). n < 2 ^ 64) (sym names_is) content.names_fits

    value_is : value_of (map_of (is.stored handle).tree) (content_key index) ≡ Some (content_value names)
    value_is = last.is ∙ ap Some (content.value_is ∙ ap content_value (sym names_is))

    chunk : chunks_of areas truth names ≡ Some content.block
    chunk = ap (chunks_of areas truth) names_is ∙ content.chunk

    before_is : content.block ≡ c.before
    before_is = sym (chunk_is areas truth names content.block chunk).is_block ∙ same.each (block_at names) _ c.before c.holds.there

    piece_was : piece_of (chunks_of areas truth) (is.stored handle).tree index ≡ Some c.before
    piece_was = ap (option_and_then (λ value. chunks_of areas truth (handle_in value))) value_is ∙ ap (chunks_of areas truth) (handle_back names names_fits) ∙ chunk ∙ ap Some before_is

    abbrev mid : List Changed
    mid = (block_at names, c.block) ∷ []

    were : AreBytesOf (piece_of (chunks_of areas truth) (is.stored handle).tree) inode.size inode.tail bytes
    were = subst (λ (i : Inode). AreBytesOf (piece_of (chunks_of areas truth) (is.stored handle).tree) i.size i.tail bytes) inode_same regular.bytes_are

    still : AreBytesOf (pieces_with (chunks_of areas truth) (is.stored handle) index c.block) (is.stored handle).inode.size (is.stored handle).inode.tail bytes
    still = subst (λ (i : Inode). AreBytesOf (pieces_with (chunks_of areas truth) (is.stored handle) index c.block) i.size i.tail bytes) (sym inode_same)
        (same_bytes (piece_of (chunks_of areas truth) (is.stored handle).tree) inode.size inode.tail bytes were index names c.before c.block piece_was c.is)

    size_small : (is.stored handle).inode.size ≤ 2 ^ 32
    size_small = subst (λ (i : Inode). i.size ≤ 2 ^ 32) (sym inode_same) (omega (arith, small))

    file_same : ◌≡◌ {A = File} (record file { body = Bytes bytes }) file
    file_same = λ i. record file { body = sym body_is i }

    -- the truth with the piece cleared stands for the same tree
    stands_mid : StandsFor areas (with_draft truth ((block_at names, c.block) ∷ [])) tree
    stands_mid = as_it_was areas truth tree handle file (record file { body = Bytes bytes }) is there handle_is file_same (with_draft truth ((block_at names, c.block) ∷ []))
        (piece_rewritten areas few truth tree handle file bytes bytes index names c.block is there body_is index_fits names_fits value_is c.is.kind c.is.header still size_small)

    anew : ChunkAnew (chunks_of areas truth) (chunks_of areas (with_draft truth ((block_at names, c.block) ∷ []))) names c.block
    anew = put_chunk areas held truth [] ((block_at names, c.block) ∷ []) names content.block c.block (record { same = same; chunked = is.chunked }) chunk c.is.header refl

    slots : KeepsSlots areas truth (with_draft truth ((block_at names, c.block) ∷ []))
    slots = put_slots areas held truth [] ((block_at names, c.block) ∷ []) names content.block c.block (record { same = same; chunked = is.chunked }) chunk c.is.header refl

    piece_leads : (hints : Hints) → HintsFitAll areas hints truth → HintsFitAll areas hints (with_draft truth ((block_at names, c.block) ∷ []))
    piece_leads hints fit = piece_fits areas hints truth (with_draft truth ((block_at names, c.block) ∷ [])) names content.block c.block slots chunk anew no_page fit c.is.kind
      where
        no_page : c.block.kind ≢ 2
        no_page two = let three = c.is.kind in absurd (omega (arith, two, three))

    -- ---- the inode over it

    own_names : is.owner names ≡ DataOf handle content.index
    own_names = ap is.owner names_is ∙ content.own

    apart : handle ≢ names
    apart e = let own = (is.are_files.all handle file there).0 in let both : Inodes ≡ DataOf handle content.index = sym own ∙ ap is.owner e ∙ own_names in absurd cc

    page_apart : (node : Node) → IsPageOf (is.stored handle).tree node → node.handle ≢ names
    page_apart node page e = let both : PageOf handle ≡ DataOf handle content.index = sym (regular.tree.pages node page) ∙ ap is.owner e ∙ own_names in absurd cc

    holds_mid : HoldsInode areas (with_draft truth ((block_at names, c.block) ∷ [])) handle inode
    holds_mid = record { block = holds.block; chunk = anew.others handle apart ∙ holds.chunk; has = holds.has }

    were_mid : AreBytesOf (piece_of (chunks_of areas (with_draft truth ((block_at names, c.block) ∷ []))) (stands_mid.stored handle).tree) inode.size inode.tail bytes
    were_mid = bytes_were areas held truth ((block_at names, c.block) ∷ []) draft tree handle file file bytes bytes inode (lowered inode index) same stands_mid there holds_mid c.puts body_is body_is refl refl

    regular_mid : IsRegular (chunks_of areas (with_draft truth ((block_at names, c.block) ∷ []))) stands_mid.owner handle (stands_mid.stored handle) bytes
    regular_mid = subst (HasBody (chunks_of areas (with_draft truth ((block_at names, c.block) ∷ []))) stands_mid.owner handle (stands_mid.stored handle)) body_is
        (shown areas (with_draft truth ((block_at names, c.block) ∷ [])) tree handle file stands_mid there).body

    root_same : (stands_mid.stored handle).inode.tree ≡ inode.tree
    root_same = ap (λ (i : Inode). i.tree) (inode_is areas (with_draft truth ((block_at names, c.block) ∷ [])) tree stands_mid handle inode holds_mid)

    -- the map of the file's tree is the same
    map_same : map_of (stands_mid.stored handle).tree ≡ map_of (is.stored handle).tree
    map_same =
        one_map (chunks_of areas (with_draft truth ((block_at names, c.block) ∷ []))) inode.tree (stands_mid.stored handle).tree (is.stored handle).tree
        (subst (λ (r : ℕ). IsTree (chunks_of areas (with_draft truth ((block_at names, c.block) ∷ []))) r (stands_mid.stored handle).tree) root_same regular_mid.tree.is)
        (tree_kept (chunks_of areas truth) (chunks_of areas (with_draft truth ((block_at names, c.block) ∷ []))) inode.tree (is.stored handle).tree
        (subst (λ (r : ℕ). IsTree (chunks_of areas truth) r (is.stored handle).tree) (ap (λ (i : Inode). i.tree) inode_same) regular.tree.is)
        (λ node b page some. anew.others node.handle (page_apart node page) ∙ some))

    value_mid : (i : ℕ) → value_of (map_of (stands_mid.stored handle).tree) (content_key i) ≡ value_of (map_of (is.stored handle).tree) (content_key i)
    value_mid i = ap (λ (m : List Entry). value_of m (content_key i)) map_same

    piece_now : piece_of (chunks_of areas (with_draft truth ((block_at names, c.block) ∷ []))) (stands_mid.stored handle).tree index ≡ Some c.block
    piece_now =
        ap (option_and_then (λ value. chunks_of areas (with_draft truth ((block_at names, c.block) ∷ [])) (handle_in value))) (value_mid index ∙ value_is)
        ∙ ap (chunks_of areas (with_draft truth ((block_at names, c.block) ∷ []))) (handle_back names names_fits) ∙ anew.here

    zeros : (i place : ℕ) → i < 2 ^ 32 → place < 4096 → max inode.size (4096 * index) ≤ 4096 * i + place
        → byte_in (piece_of (chunks_of areas (with_draft truth ((block_at names, c.block) ∷ []))) (stands_mid.stored handle).tree i) place ≡ 0
    zeros i place fits less past = by (same_or i index) (cases_lt (4096 * i + place) inode.tail)
      where
        by : (i ≡ index) ⊎ (i ≢ index) → (4096 * i + place < inode.tail) ⊎ (inode.tail ≤ 4096 * i + place)
            → byte_in (piece_of (chunks_of areas (with_draft truth ((block_at names, c.block) ∷ []))) (stands_mid.stored handle).tree i) place ≡ 0
        by (inl e) tail =
            let kept : inode.size - 4096 * index ≤ place = omega (arith, past, e) in
            ap (λ (n : ℕ). byte_in (piece_of (chunks_of areas (with_draft truth ((block_at names, c.block) ∷ []))) (stands_mid.stored handle).tree n) place) e
            ∙ ap (λ (o : Option Block). byte_in o place) piece_now ∙ c.is.cleared place kept less
        by (inr other) (inl below) =
            no_piece_zero (chunks_of areas (with_draft truth ((block_at names, c.block) ∷ []))) (stands_mid.stored handle).tree i place
            (value_mid i ∙ last.behind i (omega (arith, past, less, other)) (below_end inode.tail inode.size i place fits less below))
        by (inr other) (inr high) = were_mid.cleared i place fits less high

    pub piece_leaves : LeavesTree areas truth tree draft
    piece_leaves = record {
      stands = as_it_was areas (with_draft truth ((block_at names, c.block) ∷ [])) tree handle file file stands_mid there handle_is refl (with_draft truth draft)
          (inode_put areas held truth ((block_at names, c.block) ∷ []) draft tree handle file file bytes bytes inode (lowered inode index) same stands_mid there holds_mid c.puts body_is body_is refl refl
          (fallen (piece_of (chunks_of areas (with_draft truth ((block_at names, c.block) ∷ []))) (stands_mid.stored handle).tree) inode.size inode.tail bytes were_mid (max inode.size (4096 * index)) zeros)
          (fields_of (max inode.size (4096 * index))) handle_is);
      leads = λ hints fit.
          inode_leads areas held truth ((block_at names, c.block) ∷ []) draft tree handle file file bytes bytes inode (lowered inode index) same stands_mid there holds_mid c.puts body_is body_is refl refl hints (piece_leads hints fit);
    }

    pub piece_lowers : inode.size < inode.tail → LowersTail areas truth handle inode draft
    piece_lowers behind = record {
      tail = max inode.size (4096 * index);
      lower = below_tail index inode.size inode.tail behind last.below;
      holds = inode_now areas held truth ((block_at names, c.block) ∷ []) draft tree handle file file bytes bytes inode (lowered inode index) same stands_mid there holds_mid c.puts body_is body_is refl refl;
    }

-- calls on the file's tree may rest on its pages
pub pages_under : (areas : ℕ) (held : Held) (hints : Hints) (truth : Truth) (tree : Tree) (handle : ℕ) (file : File) (bytes : List ℕ) (inode : Inode) → areas ≤ 64 → IsTruth held truth → (is : StandsFor areas truth tree)
    → HintsFitAll areas hints truth → HoldsInode areas truth handle inode → file_at tree.files handle ≡ Some file → file.body ≡ Bytes bytes → Under areas held hints truth [] inode.tree (is.stored handle).tree
pages_under areas held hints truth tree handle file bytes inode few same is fit holds there body_is =
    let regular = subst (HasBody (chunks_of areas truth) is.owner handle (is.stored handle)) body_is (shown areas truth tree handle file is there).body in
    let at : IsTree (chunks_of areas truth) inode.tree (is.stored handle).tree =
    subst (λ (r : ℕ). IsTree (chunks_of areas truth) r (is.stored handle).tree) (ap (λ (i : Inode). i.tree) (inode_is areas truth tree is handle inode holds)) regular.tree.is in
    record { few = few; same = same; chunked = is.chunked; is = at; hints = fit.each handle inode (is.stored handle).tree holds at }

-- what clearing a piece answers, by the tree
pub piece_clears : (areas : ℕ) (held : Held) (truth : Truth) (tree : Tree) (handle : ℕ) (file : File) (bytes : List ℕ) (inode : Inode) (few : areas ≤ 64) (same : IsTruth held truth) (is : StandsFor areas truth tree)
    (holds : HoldsInode areas truth handle inode) (there : file_at tree.files handle ≡ Some file) (body_is : file.body ≡ Bytes bytes) (index names : ℕ) (small : inode.size < 2 ^ 31)
    (last : IsLastPiece (map_of (is.stored handle).tree) (first_cut inode) (end_cut inode) index names) (result : Result (List Changed) Stop) → ClearsAt areas held handle inode index names result → Clears areas truth tree result
piece_clears areas held truth tree handle file bytes inode few same is holds there body_is index names small last (Ok draft) c =
    piece_leaves areas held truth tree handle file bytes inode few same is holds there body_is draft index names small last c
piece_clears areas held truth tree handle file bytes inode few same is holds there body_is index names small last (Err (Need at mode)) c = tt
piece_clears areas held truth tree handle file bytes inode few same is holds there body_is index names small last (Err (Status status)) c =
    not_lost areas held truth names content.block same is.chunked (ap (chunks_of areas truth) (last.names_is ∙ ap handle_in content.value_is ∙ handle_back content.names content.names_fits) ∙ content.chunk) c.1
  where
    content : IsContent (chunks_of areas truth) is.owner handle (content_key index) last.value
    content = (regular areas held truth tree handle file bytes inode few same is holds there body_is).contents (content_key index) last.value last.is
piece_clears areas held truth tree handle file bytes inode few same is holds there body_is index names small last (Err (Inner blocks)) c = c
piece_clears areas held truth tree handle file bytes inode few same is holds there body_is index names small last (Err OutOfMemory) c = tt

-- and that it lowers the tail
pub clears_lower : (areas : ℕ) (held : Held) (truth : Truth) (tree : Tree) (handle : ℕ) (file : File) (bytes : List ℕ) (inode : Inode) (few : areas ≤ 64) (same : IsTruth held truth) (is : StandsFor areas truth tree)
    (holds : HoldsInode areas truth handle inode) (there : file_at tree.files handle ≡ Some file) (body_is : file.body ≡ Bytes bytes) (index names : ℕ) (small : inode.size < 2 ^ 31)
    (last : IsLastPiece (map_of (is.stored handle).tree) (first_cut inode) (end_cut inode) index names) (result : Result (List Changed) Stop) → ClearsAt areas held handle inode index names result
    → inode.size < inode.tail → IfOk result (LowersTail areas truth handle inode)
clears_lower areas held truth tree handle file bytes inode few same is holds there body_is index names small last (Ok draft) c behind =
    piece_lowers areas held truth tree handle file bytes inode few same is holds there body_is draft index names small last c behind
clears_lower areas held truth tree handle file bytes inode few same is holds there body_is index names small last (Err stop) c behind = tt
