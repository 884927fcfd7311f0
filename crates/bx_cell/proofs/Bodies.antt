-- What the header and the value of a half are read as.
use Rattle.std.proofs.Common.{◌≡◌, ℕ, ◌+◌, ◌*◌, ◌<◌, ◌≤◌, ◌^◌, true, List, length, take, drop, Some, refl, sym, ap, ◌∙◌, arith}
use Rattle.std.proofs.lemmas.List.{take_at, length-append}
use Rattle.std.proofs.lemmas.Nat.{from_be_bytes-to_be_bytes_4, from_be_bytes-to_be_bytes_8}
use Rattle.std.proofs.Math.Seq.{take-length, drop-append_seam, take-append_seam}
use Rattle.bx_base.specs.Writing.{padded}
use Rattle.bx_base.proofs.Whole.{length-padded}
use Rattle.bx_disk.specs.Disks.{sector_of}
use Rattle.bx_cell.specs.Halves.{is_open, number_in, length_in, half_at}
use Rattle.bx_cell.specs.Bytes.{header_text, body_text}
use Rattle.bx_cell.proofs.Sectors.{half_open, joined_sectors}

number_first : (number : ℕ) (value : List ℕ) → number < 2 ^ 64 → number_in (header_text number value) ≡ number
unfolding number_in
number_first number value fits = from_be_bytes-to_be_bytes_8 number fits

length_first : (number : ℕ) (value : List ℕ) → length value ≤ 4096 → length_in (header_text number value) ≡ length value
unfolding length_in
length_first number value short = from_be_bytes-to_be_bytes_4 (length value) (omega arith)

header_first : (number : ℕ) (value : List ℕ) → sector_of (body_text number value) 0 ≡ header_text number value
unfolding sector_of
header_first number value = take_at (header_text number value) (padded 4096 value) 512 refl

value_behind : (number : ℕ) (value : List ℕ) → length value ≤ 4096 → take 4096 (drop 512 (body_text number value)) ≡ padded 4096 value
value_behind number value short =
    let front : drop 512 (body_text number value) ≡ padded 4096 value = drop-append_seam (header_text number value) (padded 4096 value) in
    ap (take 4096) front ∙ ap (λ (n : ℕ). take n (padded 4096 value)) (sym (length-padded 4096 value short)) ∙ take-length (padded 4096 value)

-- The half whose gate is open and whose other sectors are these has the value, under the number.
pub half_filled : (x : ℕ → List ℕ) (half start number : ℕ) (value : List ℕ) → length value ≤ 4096 → number < 2 ^ 64 → is_open (x start) ≡ true
    → ((i : ℕ) → i < 9 → x (start + 1 + i) ≡ sector_of (body_text number value) i)
    → half_at x half start ≡ Some (record { half = half; number = number; value = value })
half_filled x half start number value short fits opened body =
    let header : x (start + 1) ≡ header_text number value = ap x (omega arith) ∙ body 0 (omega arith) ∙ header_first number value in
    let area = joined_sectors x (body_text number value) 8 (start + 2) 1 (λ i less. ap x (omega arith) ∙ body (1 + i) (omega arith)) ∙ value_behind number value short in
    half_open x half start number (length value) (padded 4096 value) opened (ap number_in header ∙ number_first number value fits)
    (ap length_in header ∙ length_first number value short) short area
    ∙ ap (λ (l : List ℕ). Some (record { half = half; number = number; value = l })) (take-append_seam value _)

pub length-body_text : (number : ℕ) (value : List ℕ) → length value ≤ 4096 → length (body_text number value) ≡ 512 * 9
length-body_text number value short =
    let all = length-append (header_text number value) (padded 4096 value) in
    let rest = length-padded 4096 value short in
    let front : length (header_text number value) ≡ 512 = refl in
    omega arith
