-- What the root of a tree leads to.
use Rattle.std.proofs.Common.{◌≡◌, ⊎_elim, ℕ, ◌<◌, arith, List, [], ◌∷◌, length, get_or, take, refl, sym, ap, ◌∙◌, subst}
use Rattle.std.specs.Prelude.{All, Contains, slice_index_or}
use Rattle.std.specs.Int.{w64, to_be_bytes}
use Rattle.std.proofs.lemmas.List.{get_or_default}
use Rattle.std.proofs.lemmas.List.Elements.{Contains-append_cases}
use Rattle.bx_page.specs.declared.entry.Entry.{Entry}
use Rattle.bx_truth.specs.PageTrees.{Chunks, Node, IsIn, IsTree, entries_of, map_of}
use Rattle.bx_audit_files.specs.Inodes.{IsBlockAt}
use Rattle.bx_layout.specs.declared.block.Block.{Block}
use Rattle.bx_audit_files.proofs.PairedEntries.{of_all}
use Rattle.bx_audit_pages.specs.Leading.{AreLedTo, IsLedTo, Below}
use Rattle.bx_audit_pages.specs.Trees.{tree_of}
use Rattle.bx_audit_pages.proofs.NodeLists.{all_in, at_place}
use Rattle.bx_audit_bodies.specs.Parts.{IsFirstPiece, IsOfOne}
use Rattle.bx_audit_bodies.specs.Pieces.{ArePieces, HasPiece, IsPieceEntry, piece_in}
use Rattle.bx_audit_bodies.specs.declared.pieces.Piece.{Piece}
use Rattle.bx_audit_bodies.proofs.Members.{from_map, in_contains}

first_in : (node : Node) (nodes : List Node) → IsIn node (node ∷ nodes)
first_in node nodes = record { before = []; behind = nodes; parts = refl }

later_in : (other node : Node) (nodes : List Node) → IsIn node nodes → IsIn node (other ∷ nodes)
later_in other node nodes there = record { before = other ∷ there.before; behind = there.behind; parts = ap (λ (l : List Node). other ∷ l) there.parts }

-- the entries of pages are in one of them
in_one : (nodes : List Node) (entry : Entry) → Contains (entries_of nodes) entry → (node : Node) × IsIn node nodes × Contains node.page.entries entry
in_one [] entry there = absurd (omega (arith, there.1))
in_one (node ∷ nodes) entry there = ⊎_elim
    (λ here. (node, first_in node nodes, here))
    (λ later. let rest = in_one nodes entry later in (rest.0, later_in node rest.0 nodes rest.1, rest.2))
    (Contains-append_cases node.page.entries (entries_of nodes) entry there)

eight : (handle : ℕ) → length (to_be_bytes w64 handle) ≡ 8
eight handle = refl

-- the pieces that the entries of a tree's leaves name
pub pieces_led : (chunks : Chunks) (root : ℕ) (levels : List (List Node)) (pieces : List Piece) → IsTree chunks root (tree_of levels) → AreLedTo chunks root (slice_index_or levels 0 [])
    → ArePieces (map_of (tree_of levels)) pieces → (piece : Piece) → Contains pieces piece → IsLedTo chunks root piece.handle
pieces_led chunks root levels pieces is led are piece there =
    let f = from_map piece_in (map_of (tree_of levels)) piece (subst (λ (l : List Piece). Contains l piece) are.are there) in
    let entry : IsPieceEntry f.0 = of_all IsPieceEntry (map_of (tree_of levels)) f.0 are.each f.1 in
    let page = in_one (slice_index_or levels 0 []) f.0 f.1 in
    let node = (is.levels 0 (omega arith)).nodes_are page.0 page.1 in
    subst (λ (p : Piece). IsLedTo chunks root p.handle) f.2
    (Below page.0.handle page.0.page f.0 (all_in (λ (n : Node). IsLedTo chunks root n.handle) (slice_index_or levels 0 []) led page.0 page.1)
    record { block = node.block; chunk = node.chunk; has = node.has } page.2 (ap (λ (l : List ℕ). length l) entry.is.value ∙ eight entry.piece.handle))

-- one of these
pub one_led : (chunks : Chunks) (root wanted : ℕ) (pieces : List Piece) → ((piece : Piece) → Contains pieces piece → IsLedTo chunks root piece.handle) → IsOfOne pieces wanted → IsLedTo chunks root wanted
one_led chunks root wanted pieces led one = subst (IsLedTo chunks root) (sym one.is) (led one.piece one.there)

-- the one at a place
pub one_at : (pieces : List Piece) (k : ℕ) (d : Piece) (wanted : ℕ) → k < length pieces → wanted ≡ (get_or pieces k d).handle → IsOfOne pieces wanted
one_at pieces k d wanted less is = record { piece = get_or pieces k d; there = in_contains (get_or pieces k d) pieces (at_place pieces k d less); is = is }

-- the first one without a block
pub first_piece : (chunks : Chunks) (pieces : List Piece) (k : ℕ) (d : Piece) (wanted : ℕ) → k < length pieces → All (HasPiece chunks) (take k pieces)
    → ((block : Block) → IsBlockAt chunks (get_or pieces k d).handle 3 block → ⊥) → wanted ≡ (get_or pieces k d).handle → IsFirstPiece chunks pieces wanted
first_piece chunks pieces k d wanted less before never is = record {
  place = k;
  piece = get_or pieces k d;
  there = less;
  is = get_or_default pieces k (get_or pieces k d) d less;
  before = before;
  none = λ has. never has.block has.at;
  wanted_is = is;
}
