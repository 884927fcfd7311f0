-- The row of a log slot.
use Rattle.std.proofs.Common.{◌≡◌, ℕ, ◌<◌, Bool, true, false, eqb, List, [], ◌∷◌, Some, refl, sym, ap, ◌∙◌, arith}
use Rattle.std.specs.Prelude.{◌==◌}
use Rattle.std.proofs.lemmas.Bool.Decides.{nat_tests}
use Rattle.bx_closings.specs.Doubts.{row_at}
use Rattle.bx_global.specs.Allowed.{AreRising}
use Rattle.bx_rows.specs.Words.{is_taken, row_in}
use Rattle.bx_rows.specs.declared.session.SessionRow.{SessionRow}
use Rattle.bx_truth.proofs.Cases.{eq_true}
use Rattle.bx_world_chains.proofs.Rows.{all_row}

-- a slot that is taken has one
pub found_some : (rows : List SessionRow) (slot : ℕ) → is_taken rows slot ≡ true → (row : SessionRow) × (row_at rows slot ≡ Some row)
found_some [] slot taken = absurd cc
found_some (first ∷ rows) slot taken = by (first.slot == slot) refl (found_some rows slot)
  where
    by : (t : Bool) → (first.slot == slot) ≡ t → (is_taken rows slot ≡ true → (row : SessionRow) × (row_at rows slot ≡ Some row)) → (row : SessionRow) × (row_at (first ∷ rows) slot ≡ Some row)
    by true e rest = (first, rw e refl)
    by false e rest = let found = rest (rw e at taken) in (found.0, rw e found.1)

-- which is that of its session, and has the slot
pub found_is : (rows : List SessionRow) (next slot : ℕ) (row : SessionRow) → AreRising rows next → row_at rows slot ≡ Some row → (row_in rows row.number ≡ Some row) × (row.slot ≡ slot)
found_is [] next slot row rising found = absurd cc
found_is (first ∷ rows) next slot row rising found = by (first.slot == slot) refl (λ rest. found_is rows next slot row rising.2 rest)
  where
    apart : row_in rows row.number ≡ Some row → (t : Bool) → eqb first.number row.number ≡ t → row_in (first ∷ rows) row.number ≡ Some row
    apart is true same =
        let more = all_row (λ later. first.number < later.number) rows row.number row rising.1 is in
        let e : first.number ≡ row.number = grind (arith, nat_tests, same) in absurd (omega (arith, e, more))
    apart is false other = rw other is

    by : (t : Bool) → (first.slot == slot) ≡ t → (row_at rows slot ≡ Some row → (row_in rows row.number ≡ Some row) × (row.slot ≡ slot)) → (row_in (first ∷ rows) row.number ≡ Some row) × (row.slot ≡ slot)
    by true e rest =
        let h = rw e at found in
        let same : first ≡ row = cc in (
          ap (λ (n : ℕ). row_in (first ∷ rows) n) (ap (λ (r : SessionRow). r.number) (sym same)) ∙ (rw (eq_true first.number first.number refl) refl) ∙ ap (λ (r : SessionRow). Some r) same,
          ap (λ (r : SessionRow). r.slot) (sym same) ∙ grind (arith, nat_tests, e),
        )
    by false e rest = let is = rest (rw e at found) in (apart is.0 (eqb first.number row.number) refl, is.1)
