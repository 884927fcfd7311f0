-- The entries of a tree, and the pieces that they name.
use Rattle.std.proofs.Common.{◌≡◌, ℕ, suc, ◌^◌, ◌<◌, arith, Bool, true, false, List, [], ◌∷◌, drop, get_or, cond, refl, sym, ap, ◌∙◌, subst, Some}
use Rattle.std.specs.Prelude.{All, Contains, ◌≢◌, map, bytes_eq, option_and_then, if◌then◌else◌}
use Rattle.std.specs.Int.{w32, w64, from_be_bytes}
use Rattle.std.specs.List.{find}
use Rattle.std.specs.Option.{option_map}
use Rattle.std.proofs.lemmas.List.Kept.{AllPairs-cons}
use Rattle.std.proofs.lemmas.List.Elements.{All-map}
use Rattle.std.proofs.lemmas.Nat.{from_be_bytes-to_be_bytes_4, from_be_bytes-to_be_bytes_8}
use Rattle.std.proofs.lemmas.Slice.Eq.{bytes_eq-Decides}
use Rattle.bx_page.specs.declared.entry.Entry.{Entry}
use Rattle.bx_page.specs.Contents.{Rises, value_of}
use Rattle.bx_page.specs.Keys.{is_below, IsBelow}
use Rattle.bx_page.proofs.Order.{not_below_itself}
use Rattle.bx_truth.specs.Keys.{content_key, content_value}
use Rattle.bx_truth.specs.PageTrees.{Chunks, handle_in}
use Rattle.bx_truth.proofs.Cases.{eq_true, eq_false}
use Rattle.bx_truth.proofs.Frames.{handle_back}
use Rattle.bx_truth.proofs.PieceKeys.{one_index, one_handle}
use Rattle.bx_audit_files.proofs.PairedEntries.{of_all, value_in, entry_in}
use Rattle.bx_audit_bodies.specs.Pieces.{IsOfPiece, IsPieceEntry, piece_in, ArePieces, AreApart, piece_among}
use Rattle.bx_audit_bodies.specs.declared.pieces.Piece.{Piece}
use Rattle.bx_audit_bodies.proofs.Members.{contains_map, from_map}

no_true : false ≡ true → ⊥
no_true e = cc

-- what the entry of a piece tells is the piece
pub tells : (piece : Piece) (entry : Entry) → IsOfPiece piece entry → piece_in entry ≡ piece
tells piece entry is =
    let index : from_be_bytes w32 (drop 1 entry.key) ≡ piece.index = ap (λ (l : List ℕ). from_be_bytes w32 (drop 1 l)) is.key ∙ from_be_bytes-to_be_bytes_4 piece.index is.index_fits in
    let handle : from_be_bytes w64 entry.value ≡ piece.handle = ap (from_be_bytes w64) is.value ∙ from_be_bytes-to_be_bytes_8 piece.handle is.handle_fits in
    λ i. record { index = index i; handle = handle i }

-- and so the entry is the piece's that it tells
pub told : (entry : Entry) → IsPieceEntry entry → IsOfPiece (piece_in entry) entry
told entry is = subst (λ (p : Piece). IsOfPiece p entry) (sym (tells is.piece entry is.is)) is.is

-- ---- no two pieces have one index

apart_in : (entries : List Entry) → Rises entries → All IsPieceEntry entries → AreApart (map piece_in entries)
apart_in [] rises each = λ i j d less within. absurd (omega (arith, less, within))
apart_in (x ∷ xs) rises each =
    AllPairs-cons (λ (a b : Piece). a.index ≢ b.index) (piece_in x) (map piece_in xs)
    (All-map (λ (b : Piece). (piece_in x).index ≢ b.index) piece_in xs (λ k d less same.
    let a = told x (each 0 x (omega arith)) in
    let b = told (get_or xs k d) (each (suc k) d (omega (arith, less))) in
    let below : IsBelow x.key (get_or xs k d).key = rises 0 (suc k) d (omega arith) (omega (arith, less)) in
    let keys : (get_or xs k d).key ≡ x.key = b.key ∙ ap content_key (sym same) ∙ sym a.key in
    no_true (sym (not_below_itself x.key) ∙ subst (λ (key : List ℕ). is_below x.key key ≡ true) keys below)))
    (apart_in xs (λ i j d less within. rises (suc i) (suc j) d (omega (arith, less)) (omega (arith, within))) (λ k d less. each (suc k) d (omega (arith, less))))

pub apart : (entries : List Entry) (pieces : List Piece) → Rises entries → ArePieces entries pieces → AreApart pieces
apart entries pieces rises are = subst AreApart (sym are.are) (apart_in entries rises are.each)

-- ---- the block of the piece with an index

module _ (chunks : Chunks) (index : ℕ) (fits : index < 2 ^ 32) where
  found_in : (entries : List Entry) → All IsPieceEntry entries
      → option_and_then (λ value. chunks (handle_in value)) (value_of entries (content_key index)) ≡ piece_among chunks (map piece_in entries) index
  found_in [] each = refl
  found_in (x ∷ xs) each = by (found_in xs (λ k d less. each (suc k) d (omega (arith, less)))) (bytes_eq x.key (content_key index)) refl
    where
      is : IsOfPiece (piece_in x) x
      is = told x (each 0 x (omega arith))

      by : option_and_then (λ value. chunks (handle_in value)) (value_of xs (content_key index)) ≡ piece_among chunks (map piece_in xs) index
          → (t : Bool) → bytes_eq x.key (content_key index) ≡ t
          → option_and_then (λ value. chunks (handle_in value)) (value_of (x ∷ xs) (content_key index)) ≡ piece_among chunks (map piece_in (x ∷ xs)) index
      by rest true same =
          let indices : (piece_in x).index ≡ index = one_index (piece_in x).index index is.index_fits fits (sym is.key ∙ (bytes_eq-Decides x.key (content_key index)).0 same) in
          ap (λ (t : Bool). option_and_then (λ value. chunks (handle_in value)) (option_map (λ (e : Entry). e.value) (cond t (Some x) (find (λ e. bytes_eq e.key (content_key index)) xs)))) same
          ∙ ap (λ (value : List ℕ). chunks (handle_in value)) is.value
          ∙ ap chunks (handle_back (piece_in x).handle is.handle_fits)
          ∙ sym (ap (λ (t : Bool). if t then chunks (piece_in x).handle else piece_among chunks (map piece_in xs) index) (eq_true (piece_in x).index index indices))
      by rest false other =
          let apart : (piece_in x).index ≢ index = λ e. no_true (sym other ∙ (bytes_eq-Decides x.key (content_key index)).1 (is.key ∙ ap content_key e)) in
          ap (λ (t : Bool). option_and_then (λ value. chunks (handle_in value)) (option_map (λ (e : Entry). e.value) (cond t (Some x) (find (λ e. bytes_eq e.key (content_key index)) xs)))) other
          ∙ rest
          ∙ sym (ap (λ (t : Bool). if t then chunks (piece_in x).handle else piece_among chunks (map piece_in xs) index) (eq_false (piece_in x).index index apart))

  pub piece_found : (entries : List Entry) (pieces : List Piece) → ArePieces entries pieces
      → option_and_then (λ value. chunks (handle_in value)) (value_of entries (content_key index)) ≡ piece_among chunks pieces index
  piece_found entries pieces are = found_in entries are.each ∙ ap (λ (l : List Piece). piece_among chunks l index) (sym are.are)

-- ---- what the entries name

pub names_it : (entries : List Entry) (pieces : List Piece) (piece : Piece) → Rises entries → ArePieces entries pieces → Contains pieces piece
    → (piece.index < 2 ^ 32) × (piece.handle < 2 ^ 64) × (value_of entries (content_key piece.index) ≡ Some (content_value piece.handle))
names_it entries pieces piece rises are within =
    let f = from_map piece_in entries piece (subst (λ (l : List Piece). Contains l piece) are.are within) in
    let is : IsOfPiece piece f.0 = subst (λ (p : Piece). IsOfPiece p f.0) f.2 (told f.0 (of_all IsPieceEntry entries f.0 are.each f.1)) in
    (is.index_fits, is.handle_fits, ap (value_of entries) (sym is.key) ∙ value_in entries f.0 rises f.1 ∙ ap Some is.value)

-- an entry of the tree is that of one of the pieces
pub entry_is : (entries : List Entry) (pieces : List Piece) (key value : List ℕ) → ArePieces entries pieces → value_of entries key ≡ Some value
    → (piece : Piece) × Contains pieces piece × (piece.index < 2 ^ 32) × (piece.handle < 2 ^ 64) × (key ≡ content_key piece.index) × (value ≡ content_value piece.handle)
entry_is entries pieces key value are is =
    let e = entry_in entries key value is in
    let of = told e.0 (of_all IsPieceEntry entries e.0 are.each e.1) in (
      piece_in e.0,
      subst (λ (l : List Piece). Contains l (piece_in e.0)) (sym are.are) (contains_map piece_in entries e.0 e.1),
      of.index_fits,
      of.handle_fits,
      sym e.2 ∙ of.key,
      sym e.3 ∙ of.value,
    )

pub named_by : (entries : List Entry) (pieces : List Piece) (handle index : ℕ) → ArePieces entries pieces → index < 2 ^ 32 → handle < 2 ^ 64
    → value_of entries (content_key index) ≡ Some (content_value handle) → Contains pieces (record { index = index; handle = handle })
named_by entries pieces handle index are index_fits handle_fits is =
    let e = entry_is entries pieces (content_key index) (content_value handle) are is in
    let indices : e.0.index ≡ index = one_index e.0.index index e.2 index_fits (sym e.4) in
    let handles : e.0.handle ≡ handle = one_handle e.0.handle handle e.3 handle_fits (sym e.5) in
    let same : e.0 ≡ record { index = index; handle = handle } = λ i. record { index = indices i; handle = handles i } in
    subst (Contains pieces) same e.1
