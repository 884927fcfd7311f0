-- What the rows of a block say of it is what all rows say.
use Rattle.std.proofs.Common.{◌≡◌, ◌≢◌, inl, inr, ℕ, ◌==◌, Bool, true, false, max, List, [], ◌∷◌, if◌then◌else◌, refl, sym, ap, ◌∙◌, arith}
use Rattle.std.proofs.lemmas.Bool.Decides.{nat_tests}
use Rattle.bx_base.specs.declared.names.Mode.{Mode}
use Rattle.bx_plain.specs.declared.rows.Row.{Row}
use Rattle.bx_plain.specs.Rows.{AllLet, floor_in, is_row, lock_row, rows_at}
use Rattle.bx_plain.specs.Tables.{AreOf}
use Rattle.bx_plain.proofs.Puts.{not_row}

first_at : (block : ℕ) (row : Row) (rows : List Row) (b : Bool) → (row.block == block) ≡ b → rows_at block (row ∷ rows) ≡ (if b then row ∷ rows_at block rows else rows_at block rows)
first_at block row rows b is = ap (λ t. if t then row ∷ rows_at block rows else rows_at block rows) is

differs : (block : ℕ) (row : Row) → (row.block == block) ≡ false → row.block ≢ block
differs block row other = λ e. grind (arith, nat_tests, e, other)

pub own_at : (block : ℕ) (rows : List Row) → AreOf block (rows_at block rows)
own_at block [] = tt
own_at block (row ∷ rows) = (elim (row.block == block) as (λ b. (row.block == block) ≡ b → AreOf block (rows_at block (row ∷ rows))) [
  | true ↦ λ its. let same : row.block ≡ block = grind (arith, nat_tests, its) in rw its (same, own_at block rows)
  | false ↦ λ other. rw other (own_at block rows)
]) refl

pub row_at : (rows : List Row) (session block : ℕ) → lock_row (rows_at block rows) session block ≡ lock_row rows session block
row_at [] session block = refl
row_at (row ∷ rows) session block = by_test (row.block == block) refl (row_at rows session block)
  where
    by_test : (b : Bool) → (row.block == block) ≡ b → lock_row (rows_at block rows) session block ≡ lock_row rows session block → lock_row (rows_at block (row ∷ rows)) session block ≡ lock_row (row ∷ rows) session block
    by_test true its more = ap (λ (xs : List Row). lock_row xs session block) (first_at block row rows true its) ∙ ap (λ (r : Row). if is_row session block row then row else r) more
    by_test false other more =
        let no = not_row session block row (inr (differs block row other)) in
        ap (λ (xs : List Row). lock_row xs session block) (first_at block row rows false other) ∙ more ∙ sym (ap (λ t. if t then row else lock_row rows session block) no)

pub floor_at : (rows : List Row) (block : ℕ) → floor_in (rows_at block rows) block ≡ floor_in rows block
floor_at [] block = refl
floor_at (row ∷ rows) block = by_test (row.block == block) refl (floor_at rows block)
  where
    by_test : (b : Bool) → (row.block == block) ≡ b → floor_in (rows_at block rows) block ≡ floor_in rows block → floor_in (rows_at block (row ∷ rows)) block ≡ floor_in (row ∷ rows) block
    by_test true its more = ap (λ (xs : List Row). floor_in xs block) (first_at block row rows true its) ∙ ap (λ n. max (if row.block == block then row.given else 0) n) more
    by_test false other more =
        let none : floor_in (row ∷ rows) block ≡ floor_in rows block = rw other (omega arith) in
        ap (λ (xs : List Row). floor_in xs block) (first_at block row rows false other) ∙ more ∙ sym none

module _ (session block : ℕ) (mode : Mode) where
  abbrev pub Let : List Row → Type 0
  Let rows = AllLet session block mode rows

  pub let_at : (rows : List Row) → (Let rows → Let (rows_at block rows)) × (Let (rows_at block rows) → Let rows)
  let_at [] = ((λ all. tt), (λ all. tt))
  let_at (row ∷ rows) = (elim (row.block == block) as (λ b. (row.block == block) ≡ b → (Let (row ∷ rows) → Let (rows_at block (row ∷ rows))) × (Let (rows_at block (row ∷ rows)) → Let (row ∷ rows))) [
    | true ↦ λ its. rw its ((λ all. (all.0, (let_at rows).0 all.1)), (λ all. (all.0, (let_at rows).1 all.1)))
    | false ↦ λ other. rw other ((λ all. (let_at rows).0 all.1), (λ all. (inr (inr (inl (differs block row other))), (let_at rows).1 all)))
  ]) refl
