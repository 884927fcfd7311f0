-- Which part of a file is wrong, as it is read.
use Rattle.std.proofs.Common.{◌≡◌, ℕ, ◌<◌, arith, List, ◌∷◌, ◌++◌, length, take, drop, suc, get_or, sym, ap, ◌∙◌, subst}
use Rattle.std.specs.Prelude.{◌≢◌, All, Contains}
use Rattle.bx_layout.specs.declared.block.Block.{Block}
use Rattle.bx_layout.specs.declared.inode.Inode.{Inode}
use Rattle.bx_truth.specs.PageTrees.{Chunks, Node, PageTree, IsIn, IsTree, entries_of, map_of}
use Rattle.bx_audit_files.specs.Inodes.{IsBlockAt}
use Rattle.bx_audit_files.proofs.Rising.{map_rises}
use Rattle.bx_audit_files.proofs.Steps.{leaf_of_all}
use Rattle.bx_audit_pages.specs.Leading.{AreLedTo, IsLedTo}
use Rattle.bx_audit_pages.proofs.Lookups.{split}
use Rattle.bx_audit_pages.proofs.NodeLists.{all_in, at_place, place_of}
use Rattle.bx_audit_bodies.specs.Claims.{IsPieceNamed}
use Rattle.bx_audit_bodies.specs.Contents.{IsClear}
use Rattle.bx_audit_bodies.specs.Faults.{HasEntries, HasFaultIn, HasPages, Entry, Page, Piece as PieceFault}
use Rattle.bx_audit_bodies.specs.Parts.{IsFirstLeaf, IsTornDead, IsTornTree, IsUnclearPiece, Entry as TornEntry, Lost, Page as TornPage, Tree}
use Rattle.bx_audit_bodies.specs.Pieces.{ArePieces, IsPieceEntry}
use Rattle.bx_audit_bodies.specs.declared.pieces.Piece.{Piece}
use Rattle.bx_audit_bodies.proofs.EntriesOfPieces.{names_it}
use Rattle.bx_audit_bodies.proofs.Members.{in_contains}

-- ---- leaves with an entry that names no piece

pub first_leaf : (nodes : List Node) (at : ℕ) (node : Node) (wanted : ℕ) → at < length nodes → node ≡ get_or nodes at node → All IsPieceEntry (entries_of (take at nodes))
    → (All IsPieceEntry node.page.entries → ⊥) → wanted ≡ node.handle → IsFirstLeaf nodes wanted
first_leaf nodes at node wanted less is right wrong named = record {
  before = take at nodes;
  leaf = node;
  behind = drop (suc at) nodes;
  parts = split nodes at node less ∙ (λ i. take at nodes ++ (sym is) i ∷ drop (suc at) nodes);
  right = right;
  wrong = wrong;
  wanted_is = named;
}

module _ (nodes : List Node) (wanted : ℕ) (first : IsFirstLeaf nodes wanted) where
  leaf_there : IsIn first.leaf nodes
  leaf_there = record { before = first.before; behind = first.behind; parts = first.parts }

  -- not all entries name pieces
  pub not_all_pieces : All IsPieceEntry (entries_of nodes) → ⊥
  not_all_pieces all =
      let at = place_of first.leaf nodes leaf_there in
      first.wrong (subst (λ (n : Node). All IsPieceEntry n.page.entries) (at.2 first.leaf) (leaf_of_all IsPieceEntry nodes at.0 first.leaf at.1 all))

  -- the root leads to it
  pub leaf_led : (chunks : Chunks) (root : ℕ) → AreLedTo chunks root nodes → IsLedTo chunks root wanted
  leaf_led chunks root led = subst (IsLedTo chunks root) (sym first.wanted_is) (all_in (λ (n : Node). IsLedTo chunks root n.handle) nodes led first.leaf leaf_there)

-- ---- pieces

pub unclear_at : (chunks : Chunks) (pieces : List Piece) (k : ℕ) (d : Piece) (tail wanted : ℕ) → k < length pieces → wanted ≡ (get_or pieces k d).handle
    → ((block : Block) → IsBlockAt chunks (get_or pieces k d).handle 3 block → IsClear tail (get_or pieces k d).index block.payload → ⊥) → IsUnclearPiece chunks pieces tail wanted
unclear_at chunks pieces k d tail wanted less is wrong =
    record { piece = get_or pieces k d; there = in_contains (get_or pieces k d) pieces (at_place pieces k d less); is = is; wrong = wrong }

piece_named : (chunks : Chunks) (root : ℕ) (tree : PageTree) (pieces : List Piece) (piece : Piece) (wanted : ℕ) → IsTree chunks root tree → ArePieces (map_of tree) pieces
    → Contains pieces piece → wanted ≡ piece.handle → IsPieceNamed tree wanted piece.index
piece_named chunks root tree pieces piece wanted is are there named =
    let n = names_it (map_of tree) pieces piece (map_rises chunks root tree is) are there in
    subst (λ (h : ℕ). IsPieceNamed tree h piece.index) (sym named) record { index_fits = n.0; handle_fits = n.1; names = n.2 }

-- ---- faults by the kinds of inodes

module _ (chunks : Chunks) (handle : ℕ) (inode : Inode) (wanted : ℕ) where
  of_regular : inode.kind ≡ 1 → HasEntries inode
  of_regular kind = record {
    pages = record { no_link = λ link. absurd (omega (arith, kind, link)); dead = λ zero. absurd (omega (arith, kind, zero)) };
    no_directory = λ directory. absurd (omega (arith, kind, directory));
  }

  pub of_directory : inode.kind ≡ 2 → HasPages inode
  of_directory kind = record { no_link = λ link. absurd (omega (arith, kind, link)); dead = λ zero. absurd (omega (arith, kind, zero)) }

  of_dead : inode.kind ≡ 0 → inode.tree ≢ 0 → HasEntries inode
  of_dead kind some = record {
    pages = record { no_link = λ link. absurd (omega (arith, kind, link)); dead = λ zero. some };
    no_directory = λ directory. absurd (omega (arith, kind, directory));
  }

  tree_fault : HasEntries inode → IsTornTree chunks inode.tree wanted → HasFaultIn chunks handle inode wanted
  tree_fault has (TornPage none led torn) = Page has.pages torn
  tree_fault has (TornEntry tree is first) = Entry tree has is first

  -- the tree of a regular file
  pub regular_tree_fault : inode.kind ≡ 1 → IsTornTree chunks inode.tree wanted → HasFaultIn chunks handle inode wanted
  regular_tree_fault kind torn = tree_fault (of_regular kind) torn

  -- a piece of it
  pub regular_piece_fault : (tree : PageTree) (pieces : List Piece) → inode.kind ≡ 1 → IsTree chunks inode.tree tree → ArePieces (map_of tree) pieces
      → IsUnclearPiece chunks pieces inode.tail wanted → HasFaultIn chunks handle inode wanted
  regular_piece_fault tree pieces kind is are torn = PieceFault tree (of_regular kind) is record {
    index = torn.piece.index;
    named = piece_named chunks inode.tree tree pieces torn.piece wanted is are torn.there torn.is;
    wrong = λ block at clear. torn.wrong block (subst (λ (h : ℕ). IsBlockAt chunks h 3 block) torn.is at) (clear kind);
  }

  -- a part of a dead inode
  pub dead_fault : inode.kind ≡ 0 → inode.tree ≢ 0 → IsTornDead chunks inode.tree wanted → HasFaultIn chunks handle inode wanted
  dead_fault kind some (Tree torn) = tree_fault (of_dead kind some) torn
  dead_fault kind some (Lost tree pieces is are first) = PieceFault tree (of_dead kind some) is record {
    index = first.piece.index;
    named = piece_named chunks inode.tree tree pieces first.piece wanted is are (first.place, first.there, first.is) first.wanted_is;
    wrong = λ block at clear. first.none record { block = block; at = subst (λ (h : ℕ). IsBlockAt chunks h 3 block) first.wanted_is at };
  }
