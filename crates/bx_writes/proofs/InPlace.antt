-- A piece that is there is written over.
use Rattle.std.proofs.Common.{◌≡◌, ℕ, ◌+◌, ◌-◌, ◌*◌, ◌^◌, ◌<◌, ◌≤◌, arith, Bool, true, false, List, length, ◌++◌, Option, Some, sym, ap, ◌∙◌, subst, refl, inr}
use Rattle.std.specs.Prelude.{◌≢◌, if◌then◌else◌, bytes_eq, option_and_then}
use Rattle.std.proofs.lemmas.Slice.Eq.{bytes_eq-Decides}
use Rattle.bx_inodes.proofs.Pages.{one_block}
use Rattle.bx_layout.specs.declared.block.Block.{Block}
use Rattle.bx_layout.specs.declared.inode.Inode.{Inode}
use Rattle.bx_leaves.proofs.Written.{draft_elsewhere, own_not_slot}
use Rattle.bx_entries.specs.bx_making.proofs.Puts.{put_chunk, put_slots}
use Rattle.bx_model.specs.declared.tree.Tree.{Tree}
use Rattle.bx_page.specs.Contents.{value_of}
use Rattle.bx_records.specs.Drafts.{Changed, with_block}
use Rattle.bx_sizes.proofs.Fits.{piece_fits}
use Rattle.bx_tree_files.specs.declared.file.File.{File}
use Rattle.bx_truth.specs.Chunks.{block_at, chunks_of, own_block}
use Rattle.bx_truth.specs.Edits.{ChunkAnew}
use Rattle.bx_truth.specs.Keys.{content_key, content_value}
use Rattle.bx_truth.specs.PageTrees.{IsPageOf, IsTree, Node, PageTree, handle_in, map_of}
use Rattle.bx_truth.specs.Pieces.{PutsPiece}
use Rattle.bx_truth.specs.Shown.{KeepsSlots}
use Rattle.bx_truth.specs.Stored.{DataOf, IsContent, piece_of}
use Rattle.bx_truth.proofs.Frames.{handle_back, tree_kept}
use Rattle.bx_truth.proofs.PieceKeys.{one_handle, one_index, some_same}
use Rattle.bx_truth.proofs.Same.{chunk_is}
use Rattle.bx_views.specs.Truths.{Held, IsTruth, Truth, with_draft}
use Rattle.bx_writes.proofs.On.{free_same, less_space, not_inode, regular, stands_now, value_is}
use Rattle.bx_writes.proofs.Over.{is_over, over, over_both}
use Rattle.bx_writes.specs.Bytes.{IsOver, IsPayload}
use Rattle.bx_writes.specs.Written.{IsWritten}

module _ (areas : ℕ) (held : Held) (truth : Truth) (tree : Tree) (handle : ℕ) (file : File) (pages : PageTree) (inode : Inode) (base : List ℕ) (index place : ℕ) (part rest : List ℕ) (taken : ℕ) (old new : List Changed)
    (handle_is : file.handle ≡ handle) (few : areas ≤ 64) (same : IsTruth held truth) (small : inode.size < 2 ^ 31) (low : inode.size ≤ inode.tail) (long : length base ≡ inode.size)
    (short : place + length part ≤ 4096) (fits : 4096 * index + place + length part ≤ inode.size) (next : ℕ) (next_is : next ≡ 4096 * index + place + length part) (index_fits : index < 2 ^ 32)
    (w : IsWritten areas held truth tree handle file pages inode base next rest (index + 1) taken old)
    (names : ℕ) (value : List ℕ) (was block : Block) (found : value_of (map_of pages) (content_key index) ≡ Some value) (names_is : names ≡ handle_in value) (there_was : chunks_of areas truth names ≡ Some was)
    (header : block.handle ≡ names) (kind : block.kind ≡ 3) (p : IsPayload (Some was) place part block.payload) (put : new ≡ with_block old (block_at names) block) where
  abbrev chunks : ℕ → Option Block
  chunks = chunks_of areas (with_draft truth old)

  value_here : value_of (map_of (w.stands.stored handle).tree) (content_key index) ≡ Some value
  value_here = value_is areas held truth tree handle file pages inode base next rest (index + 1) taken old handle_is w index (omega arith) ∙ found

  content : IsContent (chunks_of areas (with_draft truth old)) w.stands.owner handle (content_key index) value
  content = (regular areas held truth tree handle file pages inode base next rest (index + 1) taken old handle_is w).contents (content_key index) value value_here

  names_are : names ≡ content.names
  names_are = names_is ∙ ap handle_in content.value_is ∙ handle_back content.names content.names_fits

  names_fits : names < 2 ^ 64
  names_fits = subst (λ (n : ℕ). n < 2 ^ 64) (sym names_are) content.names_fits

  value_names : value ≡ content_value names
  value_names = content.value_is ∙ ap content_value (sym names_are)

  -- the block is the one that was
  chunk : chunks_of areas (with_draft truth old) names ≡ Some was
  chunk = ap (chunks_of areas (with_draft truth old)) names_is ∙ w.leaves.blocks index value was (omega arith) found (ap (chunks_of areas truth) (sym names_is) ∙ there_was)

  kind_was : was.kind ≡ 3
  kind_was = ap (λ (b : Block). b.kind) (one_block was content.block (sym chunk ∙ ap (chunks_of areas (with_draft truth old)) names_are ∙ content.chunk)) ∙ content.kind

  own_names : w.stands.owner names ≡ DataOf handle index
  own_names = ap w.stands.owner names_are ∙ content.own ∙ ap (DataOf handle) (sym (one_index index content.index index_fits content.index_fits content.key_is))

  anew : ChunkAnew (chunks_of areas (with_draft truth old)) (chunks_of areas (with_draft truth new)) names block
  anew = put_chunk areas held truth old new names was block (record { same = same; chunked = w.stands.chunked }) chunk header put

  slots : KeepsSlots areas (with_draft truth old) (with_draft truth new)
  slots = put_slots areas held truth old new names was block (record { same = same; chunked = w.stands.chunked }) chunk header put

  -- a page is another chunk
  page_apart : (root : ℕ) (t : PageTree) → IsTree (chunks_of areas (with_draft truth old)) root t → (node : Node) → IsPageOf t node → node.handle ≢ names
  page_apart root t is node page e =
      let n = (is.levels page.level page.within).nodes_are node page.there in
      let two = n.has.kind in
      let three : n.block.kind ≡ 3 = ap (λ (b : Block). b.kind) (one_block n.block was (sym n.chunk ∙ ap (chunks_of areas (with_draft truth old)) e ∙ chunk)) ∙ kind_was in
      absurd (omega (arith, two, three))

  tree_now : (root : ℕ) (t : PageTree) → IsTree (chunks_of areas (with_draft truth old)) root t → IsTree (chunks_of areas (with_draft truth new)) root t
  tree_now root t is = tree_kept (chunks_of areas (with_draft truth old)) (chunks_of areas (with_draft truth new)) root t is (λ node b page some. anew.others node.handle (page_apart root t is node page) ∙ some)

  stored_tree : IsTree (chunks_of areas (with_draft truth old)) (w.stands.stored handle).inode.tree (w.stands.stored handle).tree
  stored_tree = (regular areas held truth tree handle file pages inode base next rest (index + 1) taken old handle_is w).tree.is

  values : (key : List ℕ) → value_of (map_of (w.stands.stored handle).tree) key ≡ (if bytes_eq key (content_key index) then Some (content_value names) else value_of (map_of (w.stands.stored handle).tree) key)
  values key = by (bytes_eq key (content_key index)) refl
    where
      by : (t : Bool) → bytes_eq key (content_key index) ≡ t → value_of (map_of (w.stands.stored handle).tree) key ≡ (if t then Some (content_value names) else value_of (map_of (w.stands.stored handle).tree) key)
      by true test = ap (value_of (map_of (w.stands.stored handle).tree)) ((bytes_eq-Decides key (content_key index)).0 test) ∙ value_here ∙ ap Some value_names
      by false test = refl

  puts : PutsPiece (chunks_of areas (with_draft truth old)) (chunks_of areas (with_draft truth new)) w.stands.owner handle (w.stands.stored handle) (w.stands.stored handle).tree index names block
  puts = record {
    was = inr (was, chunk, own_names);
    index_fits = index_fits;
    names_fits = names_fits;
    kind = kind;
    here = anew.here;
    values = values;
    none_else = λ other is_other other_fits. one_handle other names other_fits names_fits (some_same (content_value other) (content_value names) (sym is_other ∙ value_here ∙ ap Some value_names));
    around = record {
      is = tree_now (w.stands.stored handle).inode.tree (w.stands.stored handle).tree stored_tree;
      back = λ node page. (node, page, refl);
      forth = λ node page. (node, page, refl);
      others = λ h other not_page. anew.others h other;
    };
  }

  piece_was : piece_of (chunks_of areas (with_draft truth old)) (w.stands.stored handle).tree index ≡ Some was
  piece_was = ap (option_and_then (λ value. chunks_of areas (with_draft truth old) (handle_in value))) value_here ∙ ap (chunks_of areas (with_draft truth old)) (sym names_is) ∙ chunk

  within : 4096 * index + place + length part ≤ length w.bytes
  within = let all = w.over.long in omega (arith, all, long, fits)

  now_over : IsOver w.bytes (4096 * index + place) part (over (4096 * index + place) part w.bytes)
  now_over = is_over (4096 * index + place) part w.bytes within

  -- another piece is another chunk
  other_piece : (i : ℕ) (other : List ℕ) → i < index → value_of (map_of pages) (content_key i) ≡ Some other → handle_in other ≢ names
  other_piece i other less is e =
      let value_i = value_is areas held truth tree handle file pages inode base next rest (index + 1) taken old handle_is w i (omega (arith, less)) ∙ is in
      let c = (regular areas held truth tree handle file pages inode base next rest (index + 1) taken old handle_is w).contents (content_key i) other value_i in
      let owner : w.stands.owner names ≡ DataOf handle c.index = ap w.stands.owner (sym e ∙ ap handle_in c.value_is ∙ handle_back c.names c.names_fits) ∙ c.own in
      let one : index ≡ c.index = data_index (sym own_names ∙ owner) in
      let i_is : i ≡ c.index = one_index i c.index (omega (arith, less, index_fits)) c.index_fits c.key_is in
      omega (arith, less, one, i_is)
    where
      data_index : {a b : ℕ} → DataOf handle a ≡ DataOf handle b → a ≡ b
      data_index e = cc

  pub in_place : IsWritten areas held truth tree handle file pages inode base (4096 * index + place) (part ++ rest) index (taken + 1) new
  in_place = record {
    bytes = over (4096 * index + place) part w.bytes;
    over = over_both base w.bytes (over (4096 * index + place) part w.bytes) (4096 * index + place) part rest (subst (λ (n : ℕ). IsOver base n rest w.bytes) next_is w.over) now_over;
    stands = stands_now areas held truth tree handle file pages inode base next rest (index + 1) taken old handle_is w new index names place part block (w.stands.stored handle).tree few small low short fits slots puts
        (over (4096 * index + place) part w.bytes) now_over (subst (λ (o : Option Block). IsPayload o place part block.payload) (sym piece_was) p);
    holds = record { block = w.holds.block; chunk = anew.others handle (not_inode areas held truth tree handle file pages inode base next rest (index + 1) taken old handle_is w names index own_names) ∙ w.holds.chunk; has = w.holds.has };
    leads = λ hints fit. piece_fits areas hints (with_draft truth old) (with_draft truth new) names was block slots chunk anew no_page (w.leads hints fit) kind;
    after = w.after;
    is = tree_now inode.tree w.after w.is;
    leaves = record {
      values = λ i less. w.leaves.values i (omega (arith, less));
      blocks = λ i other b less is some. anew.others (handle_in other) (other_piece i other less is) ∙ w.leaves.blocks i other b (omega (arith, less)) is some;
      spaces = λ i less room. less_space held w.after (content_key i) (544 - 17 * taken) (544 - 17 * (taken + 1)) (omega arith) (w.leaves.spaces i (omega (arith, less)) room);
    };
    free = let free = w.free in let stays = free_same areas (with_draft truth old) (with_draft truth new) own in omega (arith, free, stays);
  }
    where
      no_page : block.kind ≢ 2
      no_page two = absurd (omega (arith, two, kind))

      own : (area : ℕ) → area < areas → with_draft truth new (own_block area) ≡ with_draft truth old (own_block area)
      own area less = subst (λ (d : List Changed). with_draft truth d (own_block area) ≡ with_draft truth old (own_block area)) (sym put)
          (draft_elsewhere truth old (block_at names) (own_block area) block (own_not_slot areas (block_at names) area (chunk_is areas (with_draft truth old) names was chunk).slot))
