-- What is wanted waits still when a row is put.
use Rattle.std.proofs.Common.{◌≡◌, ◌≢◌, ℕ, ◌==◌, ◌||◌, ltb, Bool, true, false, List, [], ◌∷◌, refl, sym, subst, ◌∙◌, arith}
use Rattle.std.specs.List.{AllByRecursion, list_any}
use Rattle.std.specs.BTreeSet.{BTreeSet, contains}
use Rattle.std.specs.Ordering.{nat_cmp}
use Rattle.std.proofs.lemmas.Bool.Decides.{nat_tests}
use Rattle.bx_plain.specs.declared.rows.Row.{Row}
use Rattle.bx_plain.specs.Rows.{is_row, rows_at, with_row}
use Rattle.bx_plain.specs.Tables.{Waits}

abbrev pub AllWait : BTreeSet ℕ → List Row → Type 0
AllWait waiting rows = AllByRecursion (Waits waiting) rows

pub more_wait : (before after : BTreeSet ℕ) (rows : List Row) → ((block : ℕ) → contains nat_cmp before block ≡ true → contains nat_cmp after block ≡ true) → AllWait before rows → AllWait after rows
more_wait before after [] more wait = tt
more_wait before after (row ∷ rows) more wait = ((λ want. more row.block (wait.0 want)), more_wait before after rows more wait.1)

pub put_waits : (waiting : BTreeSet ℕ) (rows : List Row) (new : Row) → Waits waiting new → AllWait waiting rows → AllWait waiting (with_row rows new)
put_waits waiting [] new its wait = (its, tt)
put_waits waiting (row ∷ rows) new its wait = (elim (is_row new.session new.block row) as (λ b. is_row new.session new.block row ≡ b → AllWait waiting (with_row (row ∷ rows) new)) [
  | true ↦ λ t. rw t (its, wait.1)
  | false ↦ λ t. (elim (ltb new.block row.block) as (λ b. ltb new.block row.block ≡ b → AllWait waiting (with_row (row ∷ rows) new)) [
    | true ↦ λ l. rw (t, l) (its, wait)
    | false ↦ λ l. rw (t, l) (wait.0, put_waits waiting rows new its wait.1)
  ]) refl
]) refl

-- where nothing is wanted of a block, it may go
none_waits : (before after : BTreeSet ℕ) (block : ℕ) (rows : List Row) → list_any (λ (row : Row). row.is_wanted) (rows_at block rows) ≡ false → ((other : ℕ) → other ≢ block → contains nat_cmp after other ≡ contains nat_cmp before other)
    → AllWait before rows → AllWait after rows
none_waits before after block [] none others wait = tt
none_waits before after block (row ∷ rows) none others wait = (elim (row.block == block) as (λ b. (row.block == block) ≡ b → AllWait after (row ∷ rows)) [
  | true ↦ λ t.
      let any : (row.is_wanted || list_any (λ (r : Row). r.is_wanted) (rows_at block rows)) ≡ false = rw t at none in
      let its : row.is_wanted ≡ false = grind (arith, any) in
      let later : list_any (λ (r : Row). r.is_wanted) (rows_at block rows) ≡ false = grind (arith, any) in
      ((λ want. let both = sym its ∙ want in absurd cc), none_waits before after block rows later others wait.1)
  | false ↦ λ t.
      let ne : row.block ≢ block = λ e. grind (arith, nat_tests, e, t) in
      ((λ want. others row.block ne ∙ wait.0 want), none_waits before after block rows (rw t at none) others wait.1)
]) refl

pub settled : (before after : BTreeSet ℕ) (block : ℕ) (rows : List Row) → (list_any (λ (row : Row). row.is_wanted) (rows_at block rows) ≡ true → after ≡ before)
    → ((other : ℕ) → other ≢ block → contains nat_cmp after other ≡ contains nat_cmp before other) → AllWait before rows → AllWait after rows
settled before after block rows stays others wait = by_test (list_any (λ (row : Row). row.is_wanted) (rows_at block rows)) refl
  where
    by_test : (b : Bool) → list_any (λ (row : Row). row.is_wanted) (rows_at block rows) ≡ b → AllWait after rows
    by_test true some = subst (λ (set : BTreeSet ℕ). AllWait set rows) (sym (stays some)) wait
    by_test false none = none_waits before after block rows none others wait
