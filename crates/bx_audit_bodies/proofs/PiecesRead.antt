-- Pieces read one by one.
use Rattle.std.proofs.Common.{◌≡◌, ℕ, zero, suc, ◌+◌, ◌-◌, ◌*◌, ◌^◌, ◌<◌, ◌≤◌, ◌⊎◌, inl, inr, min, arith, List, [], ◌∷◌, ◌++◌, length, take, drop, get_or, replicate, refl, sym, ap, ◌∙◌, subst, Option, Some}
use Rattle.std.specs.Prelude.{All, ◌≢◌}
use Rattle.std.proofs.lemmas.List.{ext_get_or, take_more, length-take, length-drop, length-replicate, get_or-take, get_or-drop, get_or-replicate, get_or_default, get_or_past}
use Rattle.std.proofs.lemmas.List.Elements.{All-push}
use Rattle.bx_audit_files.specs.Inodes.{IsBlockAt}
use Rattle.bx_layout.specs.declared.block.Block.{Block}
use Rattle.bx_truth.specs.PageTrees.{Chunks}
use Rattle.bx_truth.specs.Stored.{AreBytesOf, byte_in}
use Rattle.bx_audit_bodies.specs.Contents.{HasClear, IsClear, AddsPiece, with_piece}
use Rattle.bx_audit_bodies.specs.Pieces.{AreApart, HasPiece, piece_among}
use Rattle.bx_audit_bodies.specs.declared.pieces.Piece.{Piece}
use Rattle.bx_audit_bodies.proofs.PiecesAmong.{among_none, among_new, among_other, among_at}
use Rattle.bx_audit_bodies.proofs.PiecesInBytes.{bytes_more, no_bytes}

some_same : {X : Type 0} (x y : X) → Some x ≡ Some y → x ≡ y
some_same x y e = cc

-- ---- bytes of one block

pub part_taken : (bytes : List ℕ) (n place : ℕ) → n ≡ min (min (length bytes) 4096) place → take n bytes ≡ take place (take 4096 bytes)
part_taken bytes n place is =
    ext_get_or 0 (take n bytes) (take place (take 4096 bytes))
    (let a = length-take n bytes in let b = length-take place (take 4096 bytes) in let c = length-take 4096 bytes in omega (arith, a, b, c, is))
    (λ k less. let a = length-take n bytes in
    get_or-take n bytes k 0 (omega (arith, less, a)) ∙ sym (get_or-take place (take 4096 bytes) k 0 (omega (arith, less, a, is)) ∙ get_or-take 4096 bytes k 0 (omega (arith, less, a, is))))

module _ (payload part rest : List ℕ) (index tail from n : ℕ) (part_is : part ≡ take 4096 (take 4096 payload)) (from_is : from ≡ tail - 4096 * index) (fits : from < 4096)
    (n_is : n ≡ min (length part) from) (rest_is : rest ≡ drop n part) where
  part_long : length part ≡ min 4096 (length payload)
  part_long =
      let a = length-take 4096 (take 4096 payload) in
      let b = length-take 4096 payload in
      ap length part_is ∙ omega (arith, a, b)

  part_at : (k : ℕ) → k < 4096 → get_or part k 0 ≡ get_or payload k 0
  part_at k less = ap (λ (l : List ℕ). get_or l k 0) part_is ∙ get_or-take 4096 (take 4096 payload) k 0 less ∙ get_or-take 4096 payload k 0 less

  rest_at : (k : ℕ) → get_or rest k 0 ≡ get_or part (n + k) 0
  rest_at k = ap (λ (l : List ℕ). get_or l k 0) rest_is ∙ get_or-drop n part k 0

  rest_long : length rest ≡ length part - n
  rest_long = ap length rest_is ∙ length-drop n part

  pub clear_from : rest ≡ replicate (length rest) 0 → IsClear tail index payload
  clear_from zeros place less past = by (side place (length payload))
    where
      side : (a b : ℕ) → (a < b) ⊎ (b ≤ a)
      side a b = grind arith

      by : (place < length payload) ⊎ (length payload ≤ place) → get_or payload place 0 ≡ 0
      by (inl there) =
          let all : n + (place - n) ≡ place = omega (arith, n_is, from_is, past) in
          sym (part_at place less) ∙ ap (λ (k : ℕ). get_or part k 0) (sym all) ∙ sym (rest_at (place - n))
          ∙ ap (λ (l : List ℕ). get_or l (place - n) 0) zeros
          ∙ get_or-replicate (length rest) (place - n) 0 0 (omega (arith, rest_long, part_long, there, less, n_is, from_is, past))
      by (inr beyond) = get_or_past payload place 0 beyond

  pub zeros_from : IsClear tail index payload → rest ≡ replicate (length rest) 0
  zeros_from clear =
      ext_get_or 0 rest (replicate (length rest) 0) (sym (length-replicate {A = ℕ} (length rest) 0))
      (λ k less. rest_at k ∙ part_at (n + k) (omega (arith, less, rest_long, part_long))
      ∙ clear (n + k) (omega (arith, less, rest_long, part_long)) (omega (arith, less, rest_long, part_long, n_is, from_is))
      ∙ sym (get_or-replicate (length rest) k 0 0 less))

-- the same block is clear
pub clear_too : (chunks : Chunks) (handle index tail : ℕ) (block found : Block) (payload : List ℕ) → chunks handle ≡ Some found → payload ≡ found.payload → IsBlockAt chunks handle 3 block
    → IsClear tail index block.payload → IsClear tail index payload
clear_too chunks handle index tail block found payload there bytes is clear =
    subst (IsClear tail index) (ap (λ (b : Block). b.payload) (some_same block found (sym is.chunk ∙ there)) ∙ sym bytes) clear

-- ---- piece after piece

pub all_more : (P : Piece → Type 0) (pieces : List Piece) (k : ℕ) (d : Piece) → k < length pieces → All P (take k pieces) → P (get_or pieces k d) → All P (take (k + 1) pieces)
all_more P pieces k d less all has = subst (All P) (sym (take_more pieces k d less)) (All-push P (take k pieces) (get_or pieces k d) all has)

module _ (chunks : Chunks) (pieces : List Piece) (k : ℕ) (d : Piece) (less : k < length pieces) where
  pub read_more : All (HasPiece chunks) (take k pieces) → HasPiece chunks (get_or pieces k d) → All (HasPiece chunks) (take (k + 1) pieces)
  read_more all has = all_more (HasPiece chunks) pieces k d less all has

  -- no earlier piece has its index
  others : AreApart pieces → All (λ q. q.index ≢ (get_or pieces k d).index) (take k pieces)
  others apart i e within same =
      let long = length-take k pieces in
      let i_less : i < k = omega (arith, within, long, less) in
      apart i k e i_less less (ap (λ (q : Piece). q.index) (sym (get_or-take k pieces i e i_less)) ∙ same ∙ ap (λ (q : Piece). q.index) (get_or_default pieces k d e less))

  pub bytes_step : (size tail : ℕ) (old new : List ℕ) → AreApart pieces → AreBytesOf (piece_among chunks (take k pieces)) size tail old → AddsPiece chunks (get_or pieces k d) size tail old new
      → AreBytesOf (piece_among chunks (take (k + 1) pieces)) size tail new
  bytes_step size tail old new apart are puts =
      let p = get_or pieces k d in
      subst (AreBytesOf (piece_among chunks (take (k + 1) pieces)) size tail) (sym puts.new_is)
      (subst (λ (l : List Piece). AreBytesOf (piece_among chunks l) size tail (with_piece size p.index puts.block.payload old)) (sym (take_more pieces k d less))
      (bytes_more (piece_among chunks (take k pieces)) (piece_among chunks (take k pieces ++ p ∷ [])) size tail p.index puts.block old are
      (among_none chunks (take k pieces) p.index (others apart)) (among_new chunks (take k pieces) p (others apart) ∙ puts.at.chunk)
      (λ at other. among_other chunks (take k pieces) p at other) puts.clear))

  -- where a piece has no clear block, no bytes are those of the pieces
  pub no_bytes_of : (size tail : ℕ) (bytes : List ℕ) → AreApart pieces → (get_or pieces k d).index < 2 ^ 32
      → ((block : Block) → IsBlockAt chunks (get_or pieces k d).handle 3 block → IsClear tail (get_or pieces k d).index block.payload → ⊥)
      → All (HasPiece chunks) pieces → AreBytesOf (piece_among chunks pieces) size tail bytes → ⊥
  no_bytes_of size tail bytes apart fits never all are =
      let has = all k d less in
      let found = among_at chunks pieces apart k d less ∙ has.at.chunk in
      never has.block has.at (λ place below past. sym (ap (λ (o : Option Block). byte_in o place) found) ∙ are.cleared (get_or pieces k d).index place fits below past)

pub no_piece_of : (chunks : Chunks) (pieces : List Piece) (k : ℕ) (d : Piece) → k < length pieces → ((block : Block) → IsBlockAt chunks (get_or pieces k d).handle 3 block → ⊥)
    → All (HasPiece chunks) pieces → ⊥
no_piece_of chunks pieces k d less never all = let has = all k d less in never has.block has.at

-- with clear blocks for all pieces, so many first ones have bytes
pub bytes_there : (chunks : Chunks) (pieces : List Piece) (size tail : ℕ) → AreApart pieces → All (HasClear chunks tail) pieces → (count : ℕ) → count ≤ length pieces
    → (bytes : List ℕ) × AreBytesOf (piece_among chunks (take count pieces)) size tail bytes
bytes_there chunks pieces size tail apart clear zero le = (replicate size 0, no_bytes size tail (piece_among chunks (take 0 pieces)) (λ index. refl))
bytes_there chunks pieces size tail apart clear (suc count) le =
    let less : count < length pieces = omega (arith, le) in
    let rest = bytes_there chunks pieces size tail apart clear count (omega (arith, le)) in
    let p = get_or pieces count no_piece in
    let c = clear count no_piece less in
    let more : count + 1 ≡ suc count = omega arith in
    let bytes = with_piece size p.index c.block.payload rest.0 in (
      bytes,
      subst (λ (n : ℕ). AreBytesOf (piece_among chunks (take n pieces)) size tail bytes) more
          (bytes_step chunks pieces count no_piece less size tail rest.0 bytes apart rest.1 record { block = c.block; at = c.at; clear = c.clear; new_is = refl }),
    )
  where
    no_piece : Piece
    no_piece = record { index = 0; handle = 0 }
