-- What a cell that was written anew is read as, and what the writing of several keeps.
use Rattle.std.proofs.Common.{◌≡◌, ℕ, ◌+◌, ◌*◌, ◌<◌, ◌≤◌, List, ◌++◌, length, take, drop, Some, None, refl, sym, ap, ◌∙◌, arith}
use Rattle.std.proofs.lemmas.List.{drop-drop, drop_at, take_at, take-append-le, drop-append-le, length-drop}
use Rattle.std.proofs.Math.Seq.{take-length}
use Rattle.bx_disk.specs.Disks.{Image, Disks, sector_of}
use Rattle.bx_calls.specs.Regions.{ReadsAs, IsSynced}
use Rattle.bx_layout.specs.Labels.{gate_text}
use Rattle.bx_layout.specs.declared.gate.Gate.TheVariants.{Open, Closed}
use Rattle.bx_cell.specs.Halves.{is_open, half_at, better, cell_in}
use Rattle.bx_cell.specs.Images.{EachSure}
use Rattle.bx_cell.specs.Bytes.{body_text}
use Rattle.bx_cell.specs.Formats.{first, format_text}
use Rattle.bx_cell.proofs.Sectors.{half_closed}
use Rattle.bx_cell.proofs.Gates.{open_text, closed_text}
use Rattle.bx_cell.proofs.Bodies.{half_filled, length-body_text}
use Rattle.bx_cell.proofs.Opening.{cell_alike}

-- ---- sectors of bytes that stand one behind the other

sector_front : (gate rest : List ℕ) → length gate ≡ 512 → sector_of (gate ++ rest) 0 ≡ gate
unfolding sector_of
sector_front gate rest long = take_at gate rest 512 long

sector_behind : (gate rest : List ℕ) (i : ℕ) → length gate ≡ 512 → sector_of (gate ++ rest) (1 + i) ≡ sector_of rest i
unfolding sector_of
sector_behind gate rest i long =
    let at : 512 * (1 + i) ≡ 512 + 512 * i = omega arith in
    ap (take 512) (ap (λ (n : ℕ). drop n (gate ++ rest)) at ∙ sym (drop-drop (512 * i) 512 (gate ++ rest)) ∙ ap (drop (512 * i)) (drop_at gate rest 512 long))

sector_within : (body rest : List ℕ) (i : ℕ) → 512 * i + 512 ≤ length body → sector_of (body ++ rest) i ≡ sector_of body i
unfolding sector_of
sector_within body rest i room =
    ap (take 512) (drop-append-le (512 * i) body rest (omega arith)) ∙ take-append-le 512 (drop (512 * i) body) rest (omega (arith, length-drop (512 * i) body))

sector_last : (body gate : List ℕ) (n : ℕ) → length body ≡ 512 * n → length gate ≡ 512 → sector_of (body ++ gate) n ≡ gate
unfolding sector_of
sector_last body gate n long short =
    ap (take 512) (drop_at body gate (512 * n) long) ∙ ap (λ (k : ℕ). take k gate) (sym short) ∙ take-length gate

-- ---- a new cell

pub format_read : (x : ℕ → List ℕ) (base : ℕ) (value : List ℕ) → length value ≤ 4096 → ((i : ℕ) → i < 11 → x (base + i) ≡ sector_of (format_text value) i)
    → cell_in x base ≡ Some (first value)
unfolding cell_in better
format_read x base value short are = rw (own, other) refl
  where
    long : length (body_text 1 value) ≡ 512 * 9
    long = length-body_text 1 value short

    gate : x base ≡ gate_text Open
    gate = ap x (omega arith) ∙ are 0 (omega arith) ∙ sector_front (gate_text Open) (body_text 1 value ++ gate_text Closed) refl

    body : (i : ℕ) → i < 9 → x (base + 1 + i) ≡ sector_of (body_text 1 value) i
    body i less =
        let here : base + 1 + i ≡ base + (1 + i) = omega arith in
        ap x here ∙ are (1 + i) (omega arith) ∙ sector_behind (gate_text Open) (body_text 1 value ++ gate_text Closed) i refl
        ∙ sector_within (body_text 1 value) (gate_text Closed) i (omega (arith, long))

    last : x (base + 10) ≡ gate_text Closed
    last =
        are 10 (omega arith) ∙ sector_behind (gate_text Open) (body_text 1 value ++ gate_text Closed) 9 refl
        ∙ sector_last (body_text 1 value) (gate_text Closed) 9 long refl

    own : half_at x 0 base ≡ Some (first value)
    own = half_filled x 0 base 1 value short (omega arith) (ap is_open gate ∙ open_text) body

    other : half_at x 1 (base + 10) ≡ None
    other = half_closed x 1 (base + 10) (ap is_open last ∙ closed_text)

pub format_cell : (image : Image) (disk base : ℕ) (bytes value : List ℕ) → length bytes ≡ 5632 → bytes ≡ format_text value → length value ≤ 4096 → ReadsAs image disk base bytes
    → cell_in (image disk) base ≡ Some (first value)
format_cell image disk base bytes value long is short reads =
    format_read (image disk) base value short (λ i less. reads.each i (omega arith) ∙ ap (λ (l : List ℕ). sector_of l i) is)

-- what each image of a disk that was synced has
pub each_sure : (now : Disks) (disk base : ℕ) (value : List ℕ) → IsSynced now disk → cell_in (now.reads disk) base ≡ Some (first value)
    → EachSure now (λ image. cell_in (image disk) base ≡ Some (first value))
each_sure now disk base value synced is = record {
  each = λ image has. cell_alike (image disk) (now.reads disk) base base (λ i less. has.sure disk (base + i) (synced.each (base + i))) ∙ is;
}
