-- What is read off the sectors of a half: what it depends on, and what the bytes in them make of it.
use Rattle.std.proofs.Common.{◌≡◌, ℕ, zero, suc, ◌+◌, ◌*◌, ◌<◌, ◌≤◌, true, false, List, ◌++◌, take, drop, Some, None, refl, sym, ap, ◌∙◌, arith}
use Rattle.std.proofs.lemmas.Bool.{le-leb}
use Rattle.std.proofs.lemmas.List.{drop-drop}
use Rattle.std.proofs.Math.Seq.{take-add}
use Rattle.bx_disk.specs.Disks.{sector_of}
use Rattle.bx_cell.specs.Halves.{is_open, length_in, number_in, joined, half_of, half_at}

-- ---- what it depends on

at_zero : (x : ℕ → List ℕ) (a : ℕ) → x (a + 0) ≡ x a
at_zero x a = ap x (omega arith)

at_next : (x : ℕ → List ℕ) (a i : ℕ) → x (a + 1 + i) ≡ x (a + (i + 1))
at_next x a i = ap x (omega arith)

pub joined_same : (x y : ℕ → List ℕ) (count a b : ℕ) → ((i : ℕ) → i < count → x (a + i) ≡ y (b + i)) → joined x a count ≡ joined y b count
unfolding joined
joined_same x y zero a b same = refl
joined_same x y (suc n) a b same =
    let head : x a ≡ y b = sym (at_zero x a) ∙ same 0 (omega arith) ∙ at_zero y b in
    let rest = joined_same x y n (a + 1) (b + 1) (λ i less. at_next x a i ∙ same (i + 1) (omega arith) ∙ sym (at_next y b i)) in
    ap (λ (l : List ℕ). l ++ joined x (a + 1) n) head ∙ ap (λ (l : List ℕ). y b ++ l) rest

pub of_same : (half : ℕ) (gate header area other_gate other_header other_area : List ℕ) → is_open gate ≡ is_open other_gate → header ≡ other_header → area ≡ other_area
    → half_of half gate header area ≡ half_of half other_gate other_header other_area
unfolding half_of
of_same half gate header area other_gate other_header other_area gates headers areas = rw (gates, headers, areas) refl

-- the sectors of two halves are alike, but for the gate, which is open in both or in none
pub half_beside : (x y : ℕ → List ℕ) (half a b : ℕ) → is_open (x a) ≡ is_open (y b) → ((i : ℕ) → 1 ≤ i → i < 10 → x (a + i) ≡ y (b + i)) → half_at x half a ≡ half_at y half b
unfolding half_at
half_beside x y half a b gates same =
    of_same half (x a) (x (a + 1)) (joined x (a + 2) 8) (y b) (y (b + 1)) (joined y (b + 2) 8) gates (same 1 (omega arith) (omega arith))
    (joined_same x y 8 (a + 2) (b + 2) (λ i less. ap x (omega arith) ∙ same (2 + i) (omega arith) (omega arith) ∙ ap y (omega arith)))

pub half_same : (x y : ℕ → List ℕ) (half a b : ℕ) → ((i : ℕ) → i < 10 → x (a + i) ≡ y (b + i)) → half_at x half a ≡ half_at y half b
half_same x y half a b same =
    half_beside x y half a b (ap is_open (sym (at_zero x a) ∙ same 0 (omega arith) ∙ at_zero y b)) (λ i low less. same i less)

-- ---- what the gate and the header make of it

pub half_closed : (x : ℕ → List ℕ) (half start : ℕ) → is_open (x start) ≡ false → half_at x half start ≡ None
unfolding half_at half_of
half_closed x half start closed = rw closed refl

pub half_open : (x : ℕ → List ℕ) (half start number len : ℕ) (area : List ℕ) → is_open (x start) ≡ true → number_in (x (start + 1)) ≡ number
    → length_in (x (start + 1)) ≡ len → len ≤ 4096 → joined x (start + 2) 8 ≡ area → half_at x half start ≡ Some (record { half = half; number = number; value = take len area })
unfolding half_at half_of
half_open x half start number len area opened numbers lengths short areas = rw (opened, numbers, lengths, areas, le-leb len 4096 short) refl

-- ---- sectors of bytes

pub joined_sectors : (x : ℕ → List ℕ) (bytes : List ℕ) (count from k : ℕ) → ((i : ℕ) → i < count → x (from + i) ≡ sector_of bytes (k + i))
    → joined x from count ≡ take (512 * count) (drop (512 * k) bytes)
unfolding joined sector_of
joined_sectors x bytes zero from k are = refl
joined_sectors x bytes (suc n) from k are =
    let head : x from ≡ take 512 (drop (512 * k) bytes) = sym (at_zero x from) ∙ are 0 (omega arith) ∙ ap (λ (j : ℕ). take 512 (drop (512 * j) bytes)) (omega arith) in
    let rest = joined_sectors x bytes n (from + 1) (k + 1) (λ i less. at_next x from i ∙ are (i + 1) (omega arith) ∙ ap (λ (j : ℕ). take 512 (drop (512 * j) bytes)) (omega arith)) in
    let behind : drop (512 * (k + 1)) bytes ≡ drop 512 (drop (512 * k) bytes) = ap (λ (j : ℕ). drop j bytes) (omega arith) ∙ sym (drop-drop 512 (512 * k) bytes) in
    ap (λ (l : List ℕ). l ++ joined x (from + 1) n) head
    ∙ ap (λ (l : List ℕ). take 512 (drop (512 * k) bytes) ++ l) (rest ∙ ap (take (512 * n)) behind)
    ∙ sym (take-add 512 (512 * n) (drop (512 * k) bytes))
    ∙ ap (λ (j : ℕ). take j (drop (512 * k) bytes)) (omega arith)
