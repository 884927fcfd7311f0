-- Runs that lie within a device.
use Rattle.std.proofs.Common.{◌≡◌, ℕ, ◌+◌, ◌<◌, ◌≤◌, Bool, true, false, List, length, Some, refl, sym, ap, ◌∙◌, subst, arith, slice_get}
use Rattle.std.specs.Prelude.{◌==◌}
use Rattle.std.proofs.lemmas.Bool.Decides.{nat_tests}
use Rattle.std.proofs.lemmas.Option.{slice_get_read}
use Rattle.bx_mirror_tables.specs.Inside.{AreInside, IsInside}
use Rattle.bx_records.specs.declared.runs.Run.{Run}

pub all_inside : (room : ℕ) (runs : List Run) (count : ℕ) → length runs ≤ count → ((k : ℕ) (run : Run) → k < count → slice_get runs k ≡ Some run → IsInside room run) → AreInside room runs
all_inside room runs count all each = record {
  each = λ run has.
      let less : has.0 < length runs = has.1 in
      each has.0 run (omega (arith, less, all)) (slice_get_read runs (length runs) has.0 run refl less (sym has.2));
}

-- one run more
pub inside_more : (room : ℕ) (runs : List Run) (i : ℕ) (run : Run) → slice_get runs i ≡ Some run → IsInside room run → ((k : ℕ) (r : Run) → k < i → slice_get runs k ≡ Some r → IsInside room r)
    → (k : ℕ) (r : Run) → k < i + 1 → slice_get runs k ≡ Some r → IsInside room r
inside_more room runs i run at is before k r less there = by_place (k == i) refl
  where
    by_place : (b : Bool) → (k == i) ≡ b → IsInside room r
    by_place true same =
        let e : k ≡ i = grind (arith, nat_tests, same) in
        let one : run ≡ r = (let a = sym at ∙ ap (slice_get runs) (sym e) ∙ there in cc) in
        subst (IsInside room) one is
    by_place false other = before k r (grind (arith, nat_tests, other, less)) there
