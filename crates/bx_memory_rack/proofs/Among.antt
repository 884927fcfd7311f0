-- Sectors from one on, one more at a time.
use Rattle.std.proofs.Common.{◌≡◌, ℕ, ◌+◌, ◌-◌, Bool, true, false, arith, refl}
use Rattle.std.specs.Prelude.{if◌then◌else◌, ◌==◌}
use Rattle.std.proofs.lemmas.Bool.Decides.{nat_tests}
use Rattle.std.proofs.lemmas.Grind.{common_steps}
use Rattle.bx_disk.specs.Disks.{is_among}

pub among_last : (from i : ℕ) → is_among from (i + 1) (from + i) ≡ true
among_last from i = grind (arith, nat_tests)

pub not_yet : (from i : ℕ) → is_among from i (from + i) ≡ false
not_yet from i = grind (arith, nat_tests)

pub among_others : (from i s : ℕ) → (s == from + i) ≡ false → is_among from (i + 1) s ≡ is_among from i s
among_others from i s apart = grind (arith, nat_tests)

-- One more sector was written.
pub one_more : {C : Type 0} (from i : ℕ) (new mid old : ℕ → C) (w : ℕ → C → C)
    → ((s : ℕ) → mid s ≡ (if is_among from i s then w (s - from) (old s) else old s))
    → new (from + i) ≡ w i (mid (from + i))
    → ((s : ℕ) → (s == from + i) ≡ false → new s ≡ mid s)
    → (s : ℕ) → new s ≡ (if is_among from (i + 1) s then w (s - from) (old s) else old s)
one_more from i new mid old w so_far here others s = at (s == from + i) refl
  where
    at : (b : Bool) → (s == from + i) ≡ b → new s ≡ (if is_among from (i + 1) s then w (s - from) (old s) else old s)
    at true is =
        let same : s ≡ from + i = grind (arith, nat_tests, is) in
        let less : (from + i) - from ≡ i = omega arith in
        let before = so_far (from + i) in
        let none = not_yet from i in
        let last = among_last from i in
        grind (arith, common_steps, same, less, before, none, last, here)
    at false is = grind (arith, common_steps, others s is, so_far s, among_others from i s is)
