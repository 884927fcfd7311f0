-- What a draft of some pieces of a file has, to write one more over it.
use Rattle.std.proofs.Common.{◌≡◌, ℕ, ◌+◌, ◌*◌, ◌^◌, ◌<◌, ◌≤◌, arith, Bool, List, length, Some, sym, ap, ◌∙◌, subst, refl}
use Rattle.std.specs.Prelude.{◌≢◌, if◌then◌else◌}
use Rattle.bx_entries.specs.Rooms.{HasSpace}
use Rattle.bx_chunks.proofs.Sums.{sum_same}
use Rattle.bx_chunks.specs.Counting.{free_in, free_slots}
use Rattle.bx_entries.proofs.Twice.{twice}
use Rattle.bx_inodes.proofs.Pages.{inode_is}
use Rattle.bx_layout.specs.declared.block.Block.{Block}
use Rattle.bx_layout.specs.declared.inode.Inode.{Inode}
use Rattle.bx_model.specs.declared.tree.Tree.{Tree}
use Rattle.bx_page.specs.declared.entry.Entry.{Entry}
use Rattle.bx_page.specs.Contents.{value_of}
use Rattle.bx_records.specs.Drafts.{Changed}
use Rattle.bx_tree_files.specs.declared.file.Body.TheVariants.{Bytes}
use Rattle.bx_tree_files.specs.declared.file.File.{File}
use Rattle.bx_tree_files.specs.Files.{file_at, with_file}
use Rattle.bx_truth.specs.Chunks.{chunks_of, own_block}
use Rattle.bx_truth.specs.Keys.{content_key}
use Rattle.bx_truth.specs.PageTrees.{IsTree, PageTree, map_of}
use Rattle.bx_truth.specs.Pieces.{PutsPiece, pieces_with}
use Rattle.bx_truth.specs.Shown.{IsShown, KeepsSlots}
use Rattle.bx_truth.specs.Stands.{StandsFor}
use Rattle.bx_truth.specs.Stored.{AreBytesOf, IsRegular, Inodes, DataOf, piece_of}
use Rattle.bx_truth.proofs.Cases.{eq_true}
use Rattle.bx_truth.proofs.FilesInOrder.{file_with}
use Rattle.bx_truth.proofs.OneTree.{one_map}
use Rattle.bx_truth.proofs.Pieces.{piece_put}
use Rattle.bx_truth.proofs.Put.{shown}
use Rattle.bx_views.specs.Truths.{Held, Truth, with_draft}
use Rattle.bx_writes.proofs.Over.{over_are}
use Rattle.bx_writes.specs.Bytes.{IsOver, IsPayload}
use Rattle.bx_writes.specs.Written.{IsWritten, with_bytes}

-- where the areas' own blocks stay, as many slots are free
pub free_same : (areas : ℕ) (truth now : Truth) → ((area : ℕ) → area < areas → now (own_block area) ≡ truth (own_block area)) → free_slots areas truth ≡ free_slots areas now
free_same areas truth now own = sum_same (λ area. free_in (truth (own_block area)).payload) (λ area. free_in (now (own_block area)).payload) areas (λ area less. ap (λ (b : Block). free_in b.payload) (sym (own area less)))

-- less space is there too
pub less_space : (held : Held) (tree : PageTree) (key : List ℕ) (space left : ℕ) → left ≤ space → HasSpace held tree key space → HasSpace held tree key left
less_space held tree key space left less s = record { handle = s.handle; page = s.page; place = s.place; room = let room = s.room in omega (arith, room, less); roomy = s.roomy }

module _ (areas : ℕ) (held : Held) (truth : Truth) (tree : Tree) (handle : ℕ) (file : File) (pages : PageTree) (inode : Inode) (base : List ℕ) (from : ℕ) (rest : List ℕ) (first taken : ℕ) (old : List Changed)
    (handle_is : file.handle ≡ handle) (w : IsWritten areas held truth tree handle file pages inode base from rest first taken old) where
  abbrev before : Truth
  before = with_draft truth old

  abbrev put_file : File
  put_file = record file { body = Bytes w.bytes }

  pub there : file_at (with_file tree.files (record file { body = Bytes w.bytes })) handle ≡ Some (record file { body = Bytes w.bytes })
  there = file_with tree.files (record file { body = Bytes w.bytes }) handle
      ∙ ap (λ (t : Bool). if t then Some (record file { body = Bytes w.bytes }) else file_at tree.files handle) (eq_true file.handle handle handle_is)

  shows : IsShown (chunks_of areas (with_draft truth old)) w.stands.owner handle (w.stands.stored handle) (record file { body = Bytes w.bytes })
  shows = shown areas (with_draft truth old) (with_bytes tree file w.bytes) handle (record file { body = Bytes w.bytes }) w.stands there

  pub regular : IsRegular (chunks_of areas (with_draft truth old)) w.stands.owner handle (w.stands.stored handle) w.bytes
  regular = shows.body

  pub inode_same : (w.stands.stored handle).inode ≡ inode
  inode_same = inode_is areas (with_draft truth old) (with_bytes tree file w.bytes) w.stands handle inode w.holds

  pub tree_is : IsTree (chunks_of areas (with_draft truth old)) inode.tree (w.stands.stored handle).tree
  tree_is = subst (λ (i : Inode). IsTree (chunks_of areas (with_draft truth old)) i.tree (w.stands.stored handle).tree) inode_same regular.tree.is

  pub map_same : map_of (w.stands.stored handle).tree ≡ map_of w.after
  map_same = one_map (chunks_of areas (with_draft truth old)) inode.tree (w.stands.stored handle).tree w.after tree_is w.is

  -- the entries of the file's tree are those of the tree that was
  pub value_is : (index : ℕ) → index < first → value_of (map_of (w.stands.stored handle).tree) (content_key index) ≡ value_of (map_of pages) (content_key index)
  value_is index less = ap (λ (m : List Entry). value_of m (content_key index)) map_same ∙ w.leaves.values index less

  -- the inode is no piece
  pub not_inode : (names index : ℕ) → w.stands.owner names ≡ DataOf handle index → handle ≢ names
  not_inode names index piece e = let both : Inodes ≡ DataOf handle index = sym shows.itself ∙ ap w.stands.owner e ∙ piece in absurd cc

  -- a piece is written over
  module _ (new : List Changed) (index names place : ℕ) (part : List ℕ) (block : Block) (after : PageTree) (few : areas ≤ 64) (small : inode.size < 2 ^ 31) (low : inode.size ≤ inode.tail)
      (short : place + length part ≤ 4096) (fits : 4096 * index + place + length part ≤ inode.size)
      (slots : KeepsSlots areas (with_draft truth old) (with_draft truth new))
      (puts : PutsPiece (chunks_of areas (with_draft truth old)) (chunks_of areas (with_draft truth new)) w.stands.owner handle (w.stands.stored handle) after index names block)
      (now : List ℕ) (o : IsOver w.bytes (4096 * index + place) part now)
      (p : IsPayload (piece_of (chunks_of areas (with_draft truth old)) (w.stands.stored handle).tree index) place part block.payload) where
    were : AreBytesOf (piece_of (chunks_of areas (with_draft truth old)) (w.stands.stored handle).tree) inode.size inode.tail w.bytes
    were = subst (λ (i : Inode). AreBytesOf (piece_of (chunks_of areas (with_draft truth old)) (w.stands.stored handle).tree) i.size i.tail w.bytes) inode_same regular.bytes_are

    are : AreBytesOf (pieces_with (chunks_of areas (with_draft truth old)) (w.stands.stored handle) index block) (w.stands.stored handle).inode.size (w.stands.stored handle).inode.tail now
    are = subst (λ (i : Inode). AreBytesOf (pieces_with (chunks_of areas (with_draft truth old)) (w.stands.stored handle) index block) i.size i.tail now) (sym inode_same)
        (over_are (piece_of (chunks_of areas (with_draft truth old)) (w.stands.stored handle).tree) inode.size inode.tail w.bytes now were index place part block o p short fits low)

    size_small : (w.stands.stored handle).inode.size ≤ 2 ^ 32
    size_small = subst (λ (i : Inode). i.size ≤ 2 ^ 32) (sym inode_same) (omega (arith, small))

    pub stands_now : StandsFor areas (with_draft truth new) (with_bytes tree file now)
    stands_now = subst (λ (fs : List File). StandsFor areas (with_draft truth new) (record tree { files = fs })) (twice tree.files (record file { body = Bytes w.bytes }) (record file { body = Bytes now }) refl)
        (piece_put areas (with_draft truth old) (with_draft truth new) (with_bytes tree file w.bytes) handle (record file { body = Bytes w.bytes }) w.bytes now after index names block w.stands there refl slots puts are size_small few)
