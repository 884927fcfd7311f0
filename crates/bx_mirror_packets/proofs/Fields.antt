-- The parts of bodies are read again from their bytes, and no other bytes are read as such.
use Rattle.std.proofs.Common.{◌≡◌, ℕ, ◌*◌, ◌/◌, ◌%◌, ◌^◌, ◌<◌, ◌≤◌, List, ◌++◌, length, Some, refl, sym, ap, subst, arith}
use Rattle.std.specs.List.{AllByRecursion}
use Rattle.std.specs.Int.{w32, w64, to_be_bytes}
use Rattle.std.proofs.lemmas.Bool.{lt-ltb, ltb-true}
use Rattle.bx_base.specs.Reading.{Reader, as_at}
use Rattle.bx_base.proofs.Fields.{IsField, Takes, as_field, bind_some, bytes_field, field32, field64, fits_field, list_field, sized_field, some_is, tested_field, then_field}
use Rattle.bx_records.specs.declared.runs.Run.{Run}
use Rattle.bx_rows.specs.Conditions.{Fits}
use Rattle.bx_rows.proofs.Fields.{pair_field}
use Rattle.bx_mirror_packets.specs.DeviceMessages.{IsRunOf, head_text, piece_text, run_text, runs_text}
use Rattle.bx_mirror_packets.specs.declared.parts.Head.{Head}
use Rattle.bx_mirror_packets.specs.declared.parts.Piece.{Piece}
use Rattle.bx_mirror_packets.specs.Reading

-- a part as another value, where what is read and what is written fit
made_field : {A B : Type 0} {a : Reader A} {text : A → List ℕ} {Fit : A → Type 0} (f : A → B) (g : B → A) (P : B → Type 0)
    → ((x : A) → Fit x → P (f x)) → ((y : B) → P y → Fit (g y)) → ((x : A) → g (f x) ≡ x) → ((y : B) → P y → f (g y) ≡ y)
    → IsField a text Fit → IsField (as_at f a) (λ y. text (g y)) P
made_field {A} {B} {a} {text} {Fit} f g P so if_so back forth p = record {
  takes = λ bytes x fits e.
      let first = bind_some (a bytes) (λ u. Some (f u.0, u.1)) x e in
      let t = p.takes bytes first.0 fits first.1 in
      let made : B × List ℕ = (f first.0.0, first.0.1) in
      let front : Takes bytes (text (g (f first.0.0))) first.0.1 = subst (λ (z : A). Takes bytes (text z) first.0.1) (sym (back first.0.0)) t.0 in
      subst (λ (y : B × List ℕ). Takes bytes (text (g y.0)) y.1 × P y.0) (some_is made x first.2) (front, so first.0.0 t.1);
  again = λ y rest fits. rw (p.again (g y) rest (if_so y fits), forth y fits) refl;
}

-- ---- heads

abbrev pub HeadFits : Head → Type 0
HeadFits h = Fits h.session × (((h.device < 2 ^ 32) × Fits h.epoch) × Fits h.number)

abbrev pub head_is : Head → List ℕ
head_is h = head_text h.session h.device h.epoch h.number

pub head_field : IsField Reading.head_at head_is HeadFits
unfolding Reading.head_at head_text
head_field = as_field Reading.head_with Reading.head_fields (λ x. refl) (λ y. refl) (then_field field64 (then_field pair_field field64))

abbrev pub PieceFits : Piece → Type 0
PieceFits p = ((p.device < 2 ^ 32) × Fits p.epoch) × Fits p.place

abbrev pub piece_is : Piece → List ℕ
piece_is p = piece_text p.device p.epoch p.place

pub piece_field : IsField Reading.piece_at piece_is PieceFits
unfolding Reading.piece_at piece_text
piece_field = as_field Reading.piece_with Reading.piece_fields (λ x. refl) (λ y. refl) (then_field pair_field field64)

abbrev pub ExtentFits : ℕ × ℕ → Type 0
ExtentFits x = Fits x.0 × (x.1 < 2 ^ 32)

abbrev pub extent_is : ℕ × ℕ → List ℕ
extent_is x = to_be_bytes w64 x.0 ++ to_be_bytes w32 x.1

pub extent_field : IsField Reading.extent_at extent_is ExtentFits
unfolding Reading.extent_at
extent_field = then_field field64 field32

-- ---- runs

abbrev sectors_in : List ℕ → ℕ
sectors_in bytes = length bytes / 512

abbrev SectorsFit : List ℕ → Type 0
SectorsFit bytes = ((sectors_in bytes < 2 ^ 32) × (1 ≤ sectors_in bytes)) × (length bytes % 512 ≡ 0)

abbrev sectors_are : List ℕ → List ℕ
sectors_are bytes = to_be_bytes w32 (sectors_in bytes) ++ bytes

whole_sectors : (count : ℕ) (bytes : List ℕ) → length bytes ≡ 512 * count → (sectors_in bytes ≡ count) × (length bytes % 512 ≡ 0)
whole_sectors count bytes e = (omega (arith, e), omega (arith, e))

sectors_whole : (count : ℕ) (bytes : List ℕ) → (sectors_in bytes ≡ count) × (length bytes % 512 ≡ 0) → length bytes ≡ 512 * count
sectors_whole count bytes is = omega (arith, is.0, is.1)

sectors_field : IsField Reading.sectors_at sectors_are SectorsFit
unfolding Reading.sectors_at
sectors_field =
    sized_field sectors_in (tested_field Reading.is_some (λ n. 1 ≤ n) (λ n t. omega (arith, ltb-true 0 n t)) (λ n le. lt-ltb 0 n (omega (arith, le))) field32)
    (λ count. fits_field (λ bytes. (sectors_in bytes ≡ count) × (length bytes % 512 ≡ 0)) (whole_sectors count) (sectors_whole count) (bytes_field (512 * count)))

abbrev run_fields : Run → ℕ × List ℕ
run_fields run = (run.place, run.bytes)

run_is : (device : ℕ) (run : Run) → IsRunOf device run → Reading.run_with device (run_fields run) ≡ run
run_is device run is = ap (λ (d : ℕ). record { device = d; place = run.place; bytes = run.bytes }) (sym is.on)

run_field : (device : ℕ) → IsField (Reading.run_at device) run_text (IsRunOf device)
unfolding Reading.run_at run_text
run_field device =
    made_field (Reading.run_with device) run_fields (IsRunOf device)
    (λ x fits. record { on = refl; place = fits.0; whole = fits.1.1; some = fits.1.0.1; count = fits.1.0.0 })
    (λ run is. (is.place, ((is.count, is.some), is.whole))) (λ x. refl) (run_is device) (then_field field64 sectors_field)

abbrev pub RunsFit : ℕ → List Run → Type 0
RunsFit device runs = (length runs < 2 ^ 32) × AllByRecursion (IsRunOf device) runs

runs_field : (device : ℕ) → IsField (Reading.runs_at device) runs_text (RunsFit device)
unfolding Reading.runs_at runs_text
runs_field device = sized_field length field32 (λ count. list_field count (run_field device))

abbrev pub WritingFits : ℕ → ℕ × List Run → Type 0
WritingFits device x = Fits x.0 × RunsFit device x.1

abbrev pub writing_is : ℕ × List Run → List ℕ
writing_is x = to_be_bytes w64 x.0 ++ runs_text x.1

pub writing_field : (device : ℕ) → IsField (Reading.writing_at device) writing_is (WritingFits device)
unfolding Reading.writing_at
writing_field device = then_field field64 (runs_field device)
