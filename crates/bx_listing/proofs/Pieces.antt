-- The lines of a file's bytes, piece by piece.
use Rattle.std.proofs.Common.{◌≡◌, ℕ, ◌+◌, ◌-◌, ◌*◌, ◌/◌, ◌<◌, ◌≤◌, ◌⊎◌, inl, inr, Bool, false, ltb, cond, zero, suc, get_or, List, [], ◌∷◌, ◌++◌, length, take, drop, refl, sym, ap, ◌∙◌, append_assoc, arith, length-drop}
use Rattle.std.proofs.lemmas.Grind.{flat_map-append}
use Rattle.std.proofs.lemmas.List.{drop-drop, drop_all, get_or-drop, get_or-take, get_or_past, length-take}
use Rattle.std.specs.Fmt.{decimal}
use Rattle.std.specs.List.{list_any}
use Rattle.std.specs.Prelude.{codes}
use Rattle.hex.specs.Hex.{encode_lower}
use Rattle.bx_base.specs.Text.{ended, spaced, text_of}
use Rattle.bx_model.specs.Listing.{data_lines}
use Rattle.bx_tree_files.specs.Contents.{IsNext}

side : (a b : ℕ) → (a < b) ⊎ (b ≤ a)
side a b = grind arith

-- the lines of bytes that begin at an offset
abbrev pub all_pieces : ℕ → List ℕ → List (List ℕ)
all_pieces offset bytes = data_lines ((length bytes + 4095) / 4096) offset bytes

-- the line of a piece with a byte that isn't 0
abbrev pub piece_lines : ℕ → List ℕ → List (List ℕ)
piece_lines offset piece = cond (list_any (ltb 0) piece) (spaced (codes "data" ∷ decimal offset ∷ encode_lower piece ∷ []) ∷ []) []

one_more : (n : ℕ) → 0 < n → (n + 4095) / 4096 ≡ suc ((n - 4096 + 4095) / 4096)
one_more n some = omega arith

-- the first piece, and the others
pub first_piece : (offset : ℕ) (bytes : List ℕ) → 0 < length bytes
    → all_pieces offset bytes ≡ piece_lines offset (take 4096 bytes) ++ all_pieces (offset + 4096) (drop 4096 bytes)
first_piece offset bytes some =
    ap (λ (pieces : ℕ). data_lines pieces offset bytes) (one_more (length bytes) some)
    ∙ ap (λ (count : ℕ). piece_lines offset (take 4096 bytes) ++ data_lines ((count + 4095) / 4096) (offset + 4096) (drop 4096 bytes)) (rw (length-drop 4096 bytes) refl)

-- a piece of zeros has no line
no_byte : (bytes : List ℕ) → ((i : ℕ) → get_or bytes i 0 ≡ 0) → list_any (ltb 0) bytes ≡ false
no_byte [] none = refl
no_byte (byte ∷ bytes) none =
    let zero_first : byte ≡ 0 = none 0 in
    rw zero_first (no_byte bytes (λ i. none (suc i)))

zeros_in : (bytes : List ℕ) (count : ℕ) → ((place : ℕ) → place < count → get_or bytes place 0 ≡ 0) → (i : ℕ) → get_or (take count bytes) i 0 ≡ 0
zeros_in bytes count none i = by (side i count)
  where
    by : (i < count) ⊎ (count ≤ i) → get_or (take count bytes) i 0 ≡ 0
    by (inl less) = get_or-take count bytes i 0 less ∙ none i less
    by (inr past) =
        let long : length (take count bytes) ≤ i = (let e = length-take count bytes in omega (arith, e, past)) in
        get_or_past (take count bytes) i 0 long

no_line : (offset : ℕ) (bytes : List ℕ) → ((place : ℕ) → place < 4096 → get_or bytes place 0 ≡ 0) → piece_lines offset (take 4096 bytes) ≡ []
no_line offset bytes none =
    ap (λ (some : Bool). cond some (spaced (codes "data" ∷ decimal offset ∷ encode_lower (take 4096 bytes) ∷ []) ∷ []) []) (no_byte (take 4096 bytes) (zeros_in bytes 4096 none))

one_passed : (offset : ℕ) (bytes : List ℕ) → ((place : ℕ) → place < 4096 → get_or bytes place 0 ≡ 0) → all_pieces offset bytes ≡ all_pieces (offset + 4096) (drop 4096 bytes)
one_passed offset [] none = refl
one_passed offset (byte ∷ bytes) none =
    let some : 0 < length (byte ∷ bytes) = omega arith in
    first_piece offset (byte ∷ bytes) some ∙ ap (λ (lines : List (List ℕ)). lines ++ all_pieces (offset + 4096) (drop 4096 (byte ∷ bytes))) (no_line offset (byte ∷ bytes) none)

-- pieces of zeros are passed over
pub passed : (count offset : ℕ) (bytes : List ℕ) → ((place : ℕ) → place < 4096 * count → get_or bytes place 0 ≡ 0) → all_pieces offset bytes ≡ all_pieces (offset + 4096 * count) (drop (4096 * count) bytes)
passed zero offset bytes none =
    let e : offset + 4096 * 0 ≡ offset = omega arith in
    let f : 4096 * 0 ≡ 0 = omega arith in
    ap (λ (n : ℕ). all_pieces n bytes) (sym e) ∙ ap (λ (n : ℕ). all_pieces (offset + 4096 * 0) (drop n bytes)) (sym f)
passed (suc count) offset bytes none =
    let later : (place : ℕ) → place < 4096 * count → get_or (drop 4096 bytes) place 0 ≡ 0 = λ place less. get_or-drop 4096 bytes place 0 ∙ none (4096 + place) (omega (arith, less)) in
    let e : offset + 4096 + 4096 * count ≡ offset + 4096 * suc count = omega arith in
    let f : 4096 + 4096 * count ≡ 4096 * suc count = omega arith in
    one_passed offset bytes (λ place less. none place (omega (arith, less)))
    ∙ passed count (offset + 4096) (drop 4096 bytes) later
    ∙ ap (λ (others : List ℕ). all_pieces (offset + 4096 + 4096 * count) others) (drop-drop (4096 * count) 4096 bytes ∙ ap (λ (n : ℕ). drop n bytes) f)
    ∙ ap (λ (n : ℕ). all_pieces n (drop (4096 * suc count) bytes)) e

-- where no byte is left that isn't zero, no line is left
pub none_left : (from : ℕ) (bytes : List ℕ) → ((place : ℕ) → 4096 * from ≤ place → get_or bytes place 0 ≡ 0) → all_pieces (4096 * from) (drop (4096 * from) bytes) ≡ []
none_left from bytes none =
    let rest = drop (4096 * from) bytes in
    let past : length rest ≤ 4096 * length rest = omega arith in
    passed (length rest) (4096 * from) rest (λ place less. get_or-drop (4096 * from) bytes place 0 ∙ none (4096 * from + place) (omega arith))
    ∙ ap (λ (others : List ℕ). all_pieces (4096 * from + 4096 * length rest) others) (drop_all (4096 * length rest) rest past)

-- a text with the lines up to the next piece that has some
pub one_next_more : (start now next bytes : List ℕ) (from index : ℕ) (piece : List ℕ) → IsNext bytes from index piece
    → next ≡ now ++ text_of (piece_lines (4096 * index) piece)
    → start ≡ now ++ text_of (all_pieces (4096 * from) (drop (4096 * from) bytes))
    → start ≡ next ++ text_of (all_pieces (4096 * (index + 1)) (drop (4096 * (index + 1)) bytes))
one_next_more start now next bytes from index piece is put was =
    let count : ℕ = index - from in
    let above : from ≤ index = is.above in
    let within : 4096 * index < length bytes = is.within in
    let e : 4096 * from + 4096 * (index - from) ≡ 4096 * index = omega arith in
    let g : 4096 * index + 4096 ≡ 4096 * (index + 1) = omega arith in
    let some : 0 < length (drop (4096 * index) bytes) = rw (length-drop (4096 * index) bytes) (omega arith) in
    let reached : all_pieces (4096 * from) (drop (4096 * from) bytes) ≡ all_pieces (4096 * index) (drop (4096 * index) bytes) =
    passed (index - from) (4096 * from) (drop (4096 * from) bytes) (λ place less. get_or-drop (4096 * from) bytes place 0 ∙ is.before (4096 * from + place) (omega arith) (omega (arith, less, above)))
    ∙ ap (λ (others : List ℕ). all_pieces (4096 * from + 4096 * (index - from)) others) (drop-drop (4096 * (index - from)) (4096 * from) bytes ∙ ap (λ (n : ℕ). drop n bytes) e)
    ∙ ap (λ (n : ℕ). all_pieces n (drop (4096 * index) bytes)) e in
    let rest : all_pieces (4096 * index + 4096) (drop 4096 (drop (4096 * index) bytes)) ≡ all_pieces (4096 * (index + 1)) (drop (4096 * (index + 1)) bytes) =
    ap (λ (others : List ℕ). all_pieces (4096 * index + 4096) others) (drop-drop 4096 (4096 * index) bytes ∙ ap (λ (n : ℕ). drop n bytes) g)
    ∙ ap (λ (n : ℕ). all_pieces n (drop (4096 * (index + 1)) bytes)) g in
    let lines : text_of (all_pieces (4096 * from) (drop (4096 * from) bytes)) ≡ text_of (piece_lines (4096 * index) piece) ++ text_of (all_pieces (4096 * (index + 1)) (drop (4096 * (index + 1)) bytes)) =
    ap text_of (reached ∙ first_piece (4096 * index) (drop (4096 * index) bytes) some)
    ∙ flat_map-append ended (piece_lines (4096 * index) (take 4096 (drop (4096 * index) bytes))) (all_pieces (4096 * index + 4096) (drop 4096 (drop (4096 * index) bytes)))
    ∙ ap (λ (p : List ℕ). text_of (piece_lines (4096 * index) p) ++ text_of (all_pieces (4096 * index + 4096) (drop 4096 (drop (4096 * index) bytes)))) (sym is.is)
    ∙ ap (λ (others : List (List ℕ)). text_of (piece_lines (4096 * index) piece) ++ text_of others) rest in
    was
    ∙ ap (λ (more : List ℕ). now ++ more) lines
    ∙ sym (append_assoc now (text_of (piece_lines (4096 * index) piece)) (text_of (all_pieces (4096 * (index + 1)) (drop (4096 * (index + 1)) bytes))))
    ∙ ap (λ (text : List ℕ). text ++ text_of (all_pieces (4096 * (index + 1)) (drop (4096 * (index + 1)) bytes))) (sym put)
