-- What is found of cells, in words, and what leaves it as it is.
use Rattle.std.proofs.Common.{◌≡◌, ℕ, ◌+◌, ◌<◌, ◌≤◌, Bool, true, false, cond, List, take, Option, Some, None, refl, sym, ap, ◌∙◌, arith}
use Rattle.std.specs.Prelude.{nat_le, nat_lt, ◌&&◌, if◌then◌else◌}
use Rattle.std.proofs.lemmas.Bool.{and_parts, and_from, leb-true, le-leb}
use Rattle.std.proofs.lemmas.Bool.Decides.{nat_tests}
use Rattle.std.proofs.lemmas.Slice.Eq.{bytes_eq-Decides}
use Rattle.bx_layout.specs.Labels.{IsOpenGate, gate_word}
use Rattle.bx_disk.specs.Disks.{Image, Disks, is_within}
use Rattle.bx_calls.specs.Regions.{AreApart}
use Rattle.bx_calls.specs.Calls.{KeepsSure}
use Rattle.bx_calls.specs.Laws.{outside_at}
use Rattle.bx_cell.specs.Halves.{Found, is_open, number_in, length_in, joined, half_of, half_at, better, cell_in}
use Rattle.bx_cell.specs.Images.{HasAllSure, EachSure}
use Rattle.bx_cell.specs.Cells.{Known, Holds}
use Rattle.bx_cell.specs.Laws.{HasHalf}
use Rattle.bx_cell.proofs.Opening.{cell_alike}

-- ---- one value

found_one : (a b : Found) → Some a ≡ Some b → a ≡ b
found_one a b is = cc

pub one_found : (image : Image) (one other : Known) → one.disk ≡ other.disk → one.base ≡ other.base → Holds one image → Holds other image → one.found ≡ other.found
one_found image one other disk base has also =
    let same : cell_in (image other.disk) other.base ≡ Some one.found = rw (← disk, ← base) has in
    found_one one.found other.found (sym same ∙ also)

-- ---- nothing

none_better : (p q : Option Found) → better p q ≡ None → (p ≡ None) × (q ≡ None)
unfolding better
none_better None q is = (refl, is)
none_better (Some a) None is = absurd cc
none_better (Some a) (Some b) is = (elim (nat_lt a.number b.number) as (λ t. cond t (Some b) (Some a) ≡ None → (Some a ≡ None) × (Some b ≡ None)) [
  | true ↦ λ e. absurd cc
  | false ↦ λ e. absurd cc
]) is

pub none_halves : (sectors : ℕ → List ℕ) (base : ℕ) → cell_in sectors base ≡ None → (half_at sectors 0 base ≡ None) × (half_at sectors 1 (base + 10) ≡ None)
unfolding cell_in
none_halves sectors base is = none_better (half_at sectors 0 base) (half_at sectors 1 (base + 10)) is

pub halves_none : (sectors : ℕ → List ℕ) (base : ℕ) → half_at sectors 0 base ≡ None → half_at sectors 1 (base + 10) ≡ None → cell_in sectors base ≡ None
unfolding cell_in better
halves_none sectors base first other = rw (first, other) refl

-- ---- a half

opens : (gate : List ℕ) → is_open gate ≡ true → IsOpenGate gate
unfolding is_open
opens gate is = (bytes_eq-Decides (take 8 gate) gate_word).0 is

opened : (gate : List ℕ) → IsOpenGate gate → is_open gate ≡ true
unfolding is_open
opened gate is = (bytes_eq-Decides (take 8 gate) gate_word).1 is

module _ (sectors : ℕ → List ℕ) (half start : ℕ) where
  abbrev counts : Bool
  counts = is_open (sectors start) && nat_le (length_in (sectors (start + 1))) 4096

  abbrev whole : Found
  whole = record { half = half; number = number_in (sectors (start + 1)); value = take (length_in (sectors (start + 1))) (joined sectors (start + 2) 8) }

  when : half_at sectors half start ≡ cond counts (Some whole) None
  unfolding half_at half_of
  when = refl

  some_by : (t : Bool) (found : Found) → counts ≡ t → cond t (Some whole) None ≡ Some found → HasHalf sectors half start found
  some_by false found is e = absurd cc
  some_by true found is e =
      let parts = and_parts (is_open (sectors start)) (nat_le (length_in (sectors (start + 1))) 4096) is in
      let same : found ≡ whole = sym (found_one whole found e) in
      record {
        half_is = ap (λ (f : Found). f.half) same;
        gate = opens (sectors start) parts.0;
        short = leb-true _ _ parts.1;
        number = ap (λ (f : Found). f.number) same;
        value = ap (λ (f : Found). f.value) same;
      }

  pub half_has : (found : Found) → half_at sectors half start ≡ Some found → HasHalf sectors half start found
  half_has found is = some_by counts found refl (sym when ∙ is)

  pub has_half : (found : Found) → HasHalf sectors half start found → half_at sectors half start ≡ Some found
  has_half found has =
      let test : counts ≡ true = and_from (is_open (sectors start)) (nat_le (length_in (sectors (start + 1))) 4096) (opened (sectors start) has.gate) (le-leb _ _ has.short) in
      let same : whole ≡ found = λ i. record { half = sym has.half_is i; number = sym has.number i; value = sym has.value i } in
      when ∙ ap (λ (t : Bool). cond t (Some whole) None) test ∙ ap (λ (f : Found). Some f) same

  none_by : (t : Bool) → counts ≡ t → cond t (Some whole) None ≡ None → IsOpenGate (sectors start) → 4096 < length_in (sectors (start + 1))
  none_by true is e gate = absurd cc
  none_by false is e gate = over (nat_le (length_in (sectors (start + 1))) 4096) refl
    where
      over : (t : Bool) → nat_le (length_in (sectors (start + 1))) 4096 ≡ t → 4096 < length_in (sectors (start + 1))
      over false more = grind (arith, nat_tests)
      over true less =
          let both = and_from (is_open (sectors start)) (nat_le (length_in (sectors (start + 1))) 4096) (opened (sectors start) gate) less in
          absurd cc

  pub half_none : half_at sectors half start ≡ None → IsOpenGate (sectors start) → 4096 < length_in (sectors (start + 1))
  half_none is = none_by counts refl (sym when ∙ is)

  by_none : (t : Bool) → counts ≡ t → (IsOpenGate (sectors start) → 4096 < length_in (sectors (start + 1))) → cond t (Some whole) None ≡ None
  by_none false is over = refl
  by_none true is over =
      let parts = and_parts (is_open (sectors start)) (nat_le (length_in (sectors (start + 1))) 4096) is in
      let more = over (opens (sectors start) parts.0) in
      let less = leb-true _ _ parts.1 in
      absurd (omega arith)

  pub none_half : (IsOpenGate (sectors start) → 4096 < length_in (sectors (start + 1))) → half_at sectors half start ≡ None
  none_half over = when ∙ by_none counts refl over

-- ---- what is beside the cell

pub cell_sectors : (sectors other : ℕ → List ℕ) (base : ℕ) → ((s : ℕ) → base ≤ s → s < base + 20 → other s ≡ sectors s) → cell_in other base ≡ cell_in sectors base
cell_sectors sectors other base same = cell_alike other sectors base base (λ i less. same (base + i) (omega arith) (omega arith))

-- the image where it is of the cell, and what disks read as elsewhere
mixed : Disks → Known → Image → Image
mixed old cell image d s = if is_within cell.disk cell.base 20 d s then image d s else old.reads d s

mixed_here : (old : Disks) (cell : Known) (image : Image) (s : ℕ) → cell.base ≤ s → s < cell.base + 20 → image cell.disk s ≡ mixed old cell image cell.disk s
unfolding mixed
mixed_here old cell image s low high =
    let within : is_within cell.disk cell.base 20 cell.disk s ≡ true = grind (arith, nat_tests) in
    rw within refl

pub others_leave : (old new : Disks) (cell : Known) (disk sector count : ℕ) → AreApart cell.disk cell.base 20 disk sector count → KeepsSure old new disk sector count
    → EachSure old (Holds cell) → EachSure new (Holds cell)
unfolding mixed
others_leave old new cell disk sector count apart keeps each = record {
  each = λ image has.
      cell_sectors (mixed old cell image cell.disk) (image cell.disk) cell.base (mixed_here old cell image) ∙ each.each (mixed old cell image) (mixed_sure image has);
}
  where
    sure_at : (image : Image) → HasAllSure new image → (d s : ℕ) (t : Bool) → is_within cell.disk cell.base 20 d s ≡ t → old.unsure d s ≡ false
        → (if t then image d s else old.reads d s) ≡ old.reads d s
    sure_at image has d s false is sure = refl
    sure_at image has d s true is sure =
        let out = apart.each d s is in
        has.sure d s (outside_at disk sector count (λ x y. old.unsure x y ≡ false → new.unsure x y ≡ false) keeps.sure d s out sure)
        ∙ outside_at disk sector count (λ x y. new.reads x y ≡ old.reads x y) keeps.reads d s out

    mixed_sure : (image : Image) → HasAllSure new image → HasAllSure old (mixed old cell image)
    mixed_sure image has = record { sure = λ d s sure. sure_at image has d s (is_within cell.disk cell.base 20 d s) refl sure }
