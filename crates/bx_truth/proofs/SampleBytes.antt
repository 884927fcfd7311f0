-- The regular file of the sample volume: its map, its pieces and its bytes.
use Rattle.std.proofs.Common.{◌≡◌, ℕ, zero, suc, ◌+◌, ◌-◌, ◌/◌, ◌%◌, ◌^◌, ◌<◌, ◌≤◌, arith, Bool, true, false, List, [], ◌++◌, length, get_or, sym, ap, ◌∙◌, refl, Option, Some, None}
use Rattle.std.specs.Prelude.{◌≢◌, if◌then◌else◌, bytes_eq, option_and_then, replicate}
use Rattle.std.proofs.lemmas.List.{length-append, length-replicate, get_or-append_right}
use Rattle.std.proofs.lemmas.Slice.Eq.{bytes_eq-Decides}
use Rattle.bx_views.specs.bx_layout.specs.declared.block.Block.{Block}
use Rattle.bx_page.specs.Contents.{value_of, with_entry}
use Rattle.bx_truth.specs.Chunks.{chunks_of}
use Rattle.bx_truth.specs.Keys.{content_key, content_value}
use Rattle.bx_truth.specs.PageTrees.{handle_in, map_of}
use Rattle.bx_truth.specs.Sample.{nth, content, piece_block, sample_truth}
use Rattle.bx_truth.specs.Stored.{AreBytesOf, IsContent, Owner, DataOf, byte_in, piece_of}
use Rattle.bx_truth.proofs.Frames.{handle_back}
use Rattle.bx_truth.proofs.Names.{value_with}
use Rattle.bx_truth.proofs.PieceKeys.{not_yes, one_index, some_same}
use Rattle.bx_truth.proofs.SampleSlots.{chunk_there}
use Rattle.bx_truth.proofs.SampleTrees.{file_tree}

-- ---- the map

map_is : (key : List ℕ) → value_of (map_of file_tree) key
    ≡ (if bytes_eq key (content_key 2) then Some (content_value (nth 9)) else (if bytes_eq key (content_key 0) then Some (content_value (nth 8)) else None))
map_is key =
    value_with (with_entry [] (content_key 0) (content_value (nth 8))) (content_key 2) (content_value (nth 9)) key
    ∙ ap (λ (o : Option (List ℕ)). if bytes_eq key (content_key 2) then Some (content_value (nth 9)) else o) (value_with [] (content_key 0) (content_value (nth 8)) key)

has_kind : (handle byte : ℕ) → (piece_block handle byte).kind ≡ 3
unfolding piece_block
has_kind handle byte = refl

-- each entry names one of the two pieces
pub contents_are : (owner : ℕ → Owner) → owner (nth 8) ≡ DataOf (nth 4) 0 → owner (nth 9) ≡ DataOf (nth 4) 2
    → (key value : List ℕ) → value_of (map_of file_tree) key ≡ Some value → IsContent (chunks_of 1 sample_truth) owner (nth 4) key value
contents_are owner own_first own_third key value is = by (bytes_eq key (content_key 2)) (bytes_eq key (content_key 0)) refl refl (sym (map_is key) ∙ is)
  where
    by : (t u : Bool) → bytes_eq key (content_key 2) ≡ t → bytes_eq key (content_key 0) ≡ u
        → (if t then Some (content_value (nth 9)) else (if u then Some (content_value (nth 8)) else None)) ≡ Some value → IsContent (chunks_of 1 sample_truth) owner (nth 4) key value
    by true u is_t is_u found = record {
      index = 2;
      names = nth 9;
      block = piece_block (nth 9) 2;
      index_fits = omega arith;
      names_fits = omega arith;
      key_is = (bytes_eq-Decides key (content_key 2)).0 is_t;
      value_is = sym (some_same (content_value (nth 9)) value found);
      chunk = chunk_there 9 (omega arith);
      kind = has_kind (nth 9) 2;
      own = own_third;
    }
    by false true is_t is_u found = record {
      index = 0;
      names = nth 8;
      block = piece_block (nth 8) 1;
      index_fits = omega arith;
      names_fits = omega arith;
      key_is = (bytes_eq-Decides key (content_key 0)).0 is_u;
      value_is = sym (some_same (content_value (nth 8)) value found);
      chunk = chunk_there 8 (omega arith);
      kind = has_kind (nth 8) 1;
      own = own_first;
    }
    by false false is_t is_u found = absurd cc

-- ---- the pieces

first_piece : piece_of (chunks_of 1 sample_truth) file_tree 0 ≡ Some (piece_block (nth 8) 1)
first_piece = ap (chunks_of 1 sample_truth) (handle_back (nth 8) (omega arith)) ∙ chunk_there 8 (omega arith)

hole : piece_of (chunks_of 1 sample_truth) file_tree 1 ≡ None
hole = refl

third_piece : piece_of (chunks_of 1 sample_truth) file_tree 2 ≡ Some (piece_block (nth 9) 2)
third_piece = ap (chunks_of 1 sample_truth) (handle_back (nth 9) (omega arith)) ∙ chunk_there 9 (omega arith)

no_piece : (index : ℕ) → 3 ≤ index → index < 2 ^ 32 → piece_of (chunks_of 1 sample_truth) file_tree index ≡ None
no_piece index past fits = ap (option_and_then (λ value. chunks_of 1 sample_truth (handle_in value))) none
  where
    apart : (other : ℕ) → other < 3 → content_key index ≢ content_key other
    apart other less same = let e = one_index index other fits (omega (arith, less)) same in omega (arith, e, past, less)

    none : value_of (map_of file_tree) (content_key index) ≡ None
    none = map_is (content_key index)
        ∙ ap (λ (t : Bool). if t then Some (content_value (nth 9)) else (if bytes_eq (content_key index) (content_key 0) then Some (content_value (nth 8)) else None)) (not_yes (content_key index) (content_key 2) (apart 2 (omega arith)))
        ∙ ap (λ (t : Bool). if t then Some (content_value (nth 8)) else None) (not_yes (content_key index) (content_key 0) (apart 0 (omega arith)))

-- ---- the bytes

among : (n x i : ℕ) → i < n → get_or (replicate n x) i 0 ≡ x
among zero x i less = absurd (omega (arith, less))
among (suc n) x zero less = refl
among (suc n) x (suc i) less = among n x i (omega (arith, less))

before : (n x i : ℕ) (rest : List ℕ) → i < n → get_or (replicate n x ++ rest) i 0 ≡ x
before zero x i rest less = absurd (omega (arith, less))
before (suc n) x zero rest less = refl
before (suc n) x (suc i) rest less = before n x i rest (omega (arith, less))

past : (n x i : ℕ) (rest : List ℕ) → n ≤ i → get_or (replicate n x ++ rest) i 0 ≡ get_or rest (i - n) 0
past n x i rest le = get_or-append_right (replicate n x) rest n i 0 (length-replicate {A = ℕ} n x) le

piece_byte : (handle byte place : ℕ) → place < 4096 → byte_in (Some (piece_block handle byte)) place ≡ byte
unfolding piece_block
piece_byte handle byte place less = among 4096 byte place less

first_byte : (place : ℕ) → place < 4096 → get_or content place 0 ≡ 1
unfolding content
first_byte place less = before 4096 1 place (replicate 4096 0 ++ replicate 4096 2) less

second_byte : (place : ℕ) → 4096 ≤ place → place < 8192 → get_or content place 0 ≡ 0
unfolding content
second_byte place from less = past 4096 1 place (replicate 4096 0 ++ replicate 4096 2) from ∙ before 4096 0 (place - 4096) (replicate 4096 2) (omega (arith, from, less))

third_byte : (place : ℕ) → 8192 ≤ place → place < 12288 → get_or content place 0 ≡ 2
unfolding content
third_byte place from less =
    past 4096 1 place (replicate 4096 0 ++ replicate 4096 2) (omega (arith, from)) ∙ past 4096 0 (place - 4096) (replicate 4096 2) (omega (arith, from))
    ∙ among 4096 2 (place - 4096 - 4096) (omega (arith, from, less))

three : (n a b c : ℕ) → length (replicate n a ++ (replicate n b ++ replicate n c)) ≡ n + (n + n)
three n a b c =
    sum (length (replicate n a)) (length (replicate n b)) (length (replicate n c)) _ _ (length-replicate {A = ℕ} n a) (length-replicate {A = ℕ} n b) (length-replicate {A = ℕ} n c)
    (length-append (replicate n a) (replicate n b ++ replicate n c)) (length-append (replicate n b) (replicate n c))
  where
    sum : (x y z all rest : ℕ) → x ≡ n → y ≡ n → z ≡ n → all ≡ x + rest → rest ≡ y + z → all ≡ n + (n + n)
    sum x y z all rest is_x is_y is_z is_all is_rest = omega (arith, is_x, is_y, is_z, is_all, is_rest)

pub content_long : length content ≡ 12288
unfolding content
content_long = three 4096 1 0 2

byte_at : (place index : ℕ) → place / 4096 ≡ index → place < 12288 → get_or content place 0 ≡ byte_in (piece_of (chunks_of 1 sample_truth) file_tree index) (place % 4096)
byte_at place zero is less =
    first_byte place (omega (arith, is)) ∙ sym (ap (λ (o : Option Block). byte_in o (place % 4096)) first_piece ∙ piece_byte (nth 8) 1 (place % 4096) (omega arith))
byte_at place (suc zero) is less = second_byte place (omega (arith, is)) (omega (arith, is)) ∙ sym (ap (λ (o : Option Block). byte_in o (place % 4096)) hole)
byte_at place (suc (suc zero)) is less =
    third_byte place (omega (arith, is)) less ∙ sym (ap (λ (o : Option Block). byte_in o (place % 4096)) third_piece ∙ piece_byte (nth 9) 2 (place % 4096) (omega arith))
byte_at place (suc (suc (suc index))) is less = absurd (omega (arith, is, less))

pub bytes_are : AreBytesOf (piece_of (chunks_of 1 sample_truth) file_tree) 12288 12288 content
bytes_are = record {
  long = content_long;
  each = λ place less. byte_at place (place / 4096) refl (omega (arith, less, content_long));
  cleared = λ index place fits less past. ap (λ (o : Option Block). byte_in o place) (no_piece index (omega (arith, less, past)) fits);
}
