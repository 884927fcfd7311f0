-- Rows in the order of their blocks: the sessions that have rows of a block, and what waits.
use Rattle.std.proofs.Common.{◌≡◌, inr, ℕ, ◌<◌, ◌≤◌, ◌==◌, ltb, Bool, true, false, List, [], ◌∷◌, ◌++◌, Option, Some, None, if◌then◌else◌, refl, sym, ap, subst, ◌∙◌, arith}
use Rattle.std.specs.Prelude.{IsSome, option_map, suc}
use Rattle.std.specs.List.{AllByRecursion, list_any}
use Rattle.std.specs.List.Sorted.{IsStrictlySortedBy}
use Rattle.std.specs.BTreeMap.{is_at}
use Rattle.std.specs.Ordering.{nat_cmp}
use Rattle.std.specs.declared.cmp.Ordering.TheVariants.{Less}
use Rattle.std.proofs.lemmas.Bool.Decides.{nat_tests}
use Rattle.bx_plain.specs.declared.rows.Row.{Row}
use Rattle.bx_plain.specs.Rows.{is_row, place_in, rows_at, sessions_at, with_row}
use Rattle.bx_plain.specs.Tables.{AreOf, AreTheirs, flat, gather, wanted}
use Rattle.bx_plain.proofs.Blocks.{AreAbove, Entries, Rise, flat_above, none_at}
use Rattle.bx_plain.proofs.Puts.{not_row, row_is}

-- ---- rows in order

abbrev pub AreFrom : ℕ → List Row → Type 0
AreFrom block rows = AllByRecursion (λ row. block ≤ row.block) rows

abbrev pub InOrder : List Row → Type 0
InOrder [] = Unit {0}
InOrder (row ∷ rows) = AreFrom row.block rows × InOrder rows

from_own : (block : ℕ) (rows more : List Row) → AreOf block rows → AreAbove block more → AreFrom block (rows ++ more)
from_own block [] [] are above = tt
from_own block [] (row ∷ more) are above = (let less = above.0 in omega (arith, less), from_own block [] more tt above.1)
from_own block (row ∷ rows) more are above = (let e = are.0 in omega (arith, e), from_own block rows more are.1 above)

order_both : (block : ℕ) (rows more : List Row) → AreOf block rows → AreAbove block more → InOrder more → InOrder (rows ++ more)
order_both block [] more are above order = order
order_both block (row ∷ rows) more are above order = (subst (λ (n : ℕ). AreFrom n (rows ++ more)) (sym are.0) (from_own block rows more are.1 above), order_both block rows more are.1 above order)

pub flat_order : (entries : Entries) → Rise entries → AreTheirs entries → InOrder (flat entries)
flat_order [] rise theirs = tt
flat_order (entry ∷ entries) rise theirs = order_both entry.0 entry.1.items (flat entries) theirs.0 (flat_above entry.0 entries rise.0 theirs.1) (flat_order entries rise.1 theirs.1)

above_from : (block key : ℕ) (rows : List Row) → block < key → AreFrom key rows → AreAbove block rows
above_from block key [] less from = tt
above_from block key (row ∷ rows) less from = (let more = from.0 in omega (arith, less, more), above_from block key rows less from.1)

-- ---- sessions

no_place : (session block : ℕ) (rows : List Row) → AreAbove block rows → place_in rows session block ≡ None
no_place session block [] above = refl
no_place session block (row ∷ rows) above =
    let no = not_row session block row (inr (λ e. let less = above.0 in omega (arith, e, less))) in
    rw (no, no_place session block rows above.1) refl

some_later : (o : Option ℕ) → IsSome (option_map suc o) → IsSome o
some_later None some = some
some_later (Some n) some = refl

-- the sessions that have rows of a block stay where a row takes the place of another
pub sessions_stay : (rows : List Row) (new : Row) → InOrder rows → IsSome (place_in rows new.session new.block) → sessions_at new.block (with_row rows new) ≡ sessions_at new.block rows
sessions_stay [] new order some = absurd cc
sessions_stay (row ∷ rows) new order some = (elim (is_row new.session new.block row) as (λ b. is_row new.session new.block row ≡ b → sessions_at new.block (with_row (row ∷ rows) new) ≡ sessions_at new.block (row ∷ rows)) [
  | true ↦ λ t.
      let keys = row_is new.session new.block row t in
      let here : (new.block == new.block) ≡ true = grind (arith, nat_tests) in
      let there : (row.block == new.block) ≡ true = let e = keys.1 in grind (arith, nat_tests, e) in
      rw (t, here, there) (ap (λ (n : ℕ). n ∷ sessions_at new.block rows) (sym keys.0))
  | false ↦ λ t.
      let later : IsSome (place_in rows new.session new.block) = some_later (place_in rows new.session new.block) (rw t at some) in
      (elim (ltb new.block row.block) as (λ b. ltb new.block row.block ≡ b → sessions_at new.block (with_row (row ∷ rows) new) ≡ sessions_at new.block (row ∷ rows)) [
        | true ↦ λ l.
            let less : new.block < row.block = grind (arith, nat_tests, l) in
            let none = no_place new.session new.block rows (above_from new.block row.block rows less order.0) in
            let wrong = subst (λ (o : Option ℕ). IsSome o) none later in
            absurd cc
        | false ↦ λ l.
            let more = sessions_stay rows new order.1 later in
            rw (t, l) (by_block row (with_row rows new) rows new.block more)
      ]) refl
]) refl
  where
    by_block : (row : Row) (xs ys : List Row) (block : ℕ) → sessions_at block xs ≡ sessions_at block ys → sessions_at block (row ∷ xs) ≡ sessions_at block (row ∷ ys)
    by_block row xs ys block same = (elim (row.block == block) as (λ b. (row.block == block) ≡ b → sessions_at block (row ∷ xs) ≡ sessions_at block (row ∷ ys)) [
      | true ↦ λ t. rw t (ap (λ (l : List ℕ). row.session ∷ l) same)
      | false ↦ λ t. rw t same
    ]) refl

-- ---- what waits

abbrev pub Covers : List ℕ → List Row → Type 0
Covers blocks rows = AllByRecursion (λ row. row.is_wanted ≡ true → list_any (is_at (nat_cmp row.block)) blocks ≡ true) rows

abbrev pub AllOver : ℕ → List ℕ → Type 0
AllOver block blocks = AllByRecursion (λ other. block < other) blocks

abbrev pub Climb : List ℕ → Type 0
Climb [] = Unit {0}
Climb (block ∷ blocks) = AllOver block blocks × Climb blocks

over_is : (block : ℕ) (blocks : List ℕ) → AllByRecursion (λ other. nat_cmp block other ≡ Less) blocks → AllOver block blocks
over_is block [] all = tt
over_is block (other ∷ blocks) all = ((let less = all.0 in grind (arith, nat_tests, less)), over_is block blocks all.1)

pub climb_is : (blocks : List ℕ) → IsStrictlySortedBy nat_cmp blocks → Climb blocks
unfolding IsStrictlySortedBy
climb_is [] sorted = tt
climb_is (block ∷ blocks) sorted = (over_is block blocks sorted.0, climb_is blocks sorted.1)

over_lower : (low block : ℕ) (blocks : List ℕ) → low < block → AllOver block blocks → AllOver low blocks
over_lower low block [] less over = tt
over_lower low block (other ∷ blocks) less over = (let more = over.0 in omega (arith, less, more), over_lower low block blocks less over.1)

not_among : (block : ℕ) (blocks : List ℕ) → AllOver block blocks → list_any (is_at (nat_cmp block)) blocks ≡ false
not_among block [] over = refl
not_among block (other ∷ blocks) over = let no : is_at (nat_cmp block) other ≡ false = (let less = over.0 in grind (arith, nat_tests, less)) in rw (no, not_among block blocks over.1) refl

-- a row of a lower block is in none of these
skip : (row : Row) (rows : List Row) (blocks : List ℕ) → AllOver row.block blocks → gather blocks (row ∷ rows) ≡ gather blocks rows
skip row rows [] over = refl
skip row rows (block ∷ blocks) over =
    let no : (row.block == block) ≡ false = (let less = over.0 in grind (arith, nat_tests, less)) in
    rw (no, skip row rows blocks over.1) refl

none_gathered : (blocks : List ℕ) → gather blocks [] ≡ []
none_gathered [] = refl
none_gathered (block ∷ blocks) = none_gathered blocks

none_wanted : (rows : List Row) → Covers [] rows → wanted rows ≡ []
none_wanted [] covers = refl
none_wanted (row ∷ rows) covers = (elim row.is_wanted as (λ b. row.is_wanted ≡ b → wanted (row ∷ rows) ≡ []) [
  | true ↦ λ t. let wrong = covers.0 t in absurd cc
  | false ↦ λ t. rw t (none_wanted rows covers.1)
]) refl

-- rows of higher blocks are in those that are left
covers_left : (block : ℕ) (blocks : List ℕ) (rows : List Row) → AreAbove block rows → Covers (block ∷ blocks) rows → Covers blocks rows
covers_left block blocks [] above covers = tt
covers_left block blocks (row ∷ rows) above covers =
    let no : is_at (nat_cmp row.block) block ≡ false = (let less = above.0 in grind (arith, nat_tests, less)) in
    ((λ want. let is = covers.0 want in rw no at is), covers_left block blocks rows above.1 covers.1)

by_rows : (block : ℕ) (blocks : List ℕ) → AllOver block blocks → ((later : List Row) → InOrder later → Covers blocks later → wanted (gather blocks later) ≡ wanted later)
    → (rows : List Row) → InOrder rows → Covers (block ∷ blocks) rows → wanted (gather (block ∷ blocks) rows) ≡ wanted rows
by_rows block blocks over rest [] order covers = ap wanted (none_gathered blocks)
by_rows block blocks over rest (row ∷ rows) order covers = by_order (row.block == block) (ltb row.block block) refl refl (by_rows block blocks over rest rows order.1 covers.1)
  where
    Goal : Type 0
    Goal = wanted (gather (block ∷ blocks) (row ∷ rows)) ≡ wanted (row ∷ rows)

    by_order : (b l : Bool) → (row.block == block) ≡ b → ltb row.block block ≡ l → wanted (gather (block ∷ blocks) rows) ≡ wanted rows → Goal
    by_order true l its at more =
        let same : row.block ≡ block = grind (arith, nat_tests, its) in
        let over_its = subst (λ (n : ℕ). AllOver n blocks) (sym same) over in
        let all : gather (block ∷ blocks) (row ∷ rows) ≡ row ∷ gather (block ∷ blocks) rows = rw its (ap (λ (xs : List Row). row ∷ rows_at block rows ++ xs) (skip row rows blocks over_its)) in
        ap wanted all ∙ ap (λ (xs : List Row). if row.is_wanted then row ∷ xs else xs) more
    by_order false true other lower more =
        let less : row.block < block = grind (arith, nat_tests, lower) in
        let all : gather (block ∷ blocks) (row ∷ rows) ≡ gather (block ∷ blocks) rows = skip row rows (block ∷ blocks) (less, over_lower row.block block blocks less over) in
        let none : row.is_wanted ≡ false = not_wanted row.is_wanted refl less in
        ap wanted all ∙ more ∙ sym (rw none refl)
      where
        not_wanted : (w : Bool) → row.is_wanted ≡ w → row.block < block → row.is_wanted ≡ false
        not_wanted true want less =
            let no = not_among row.block (block ∷ blocks) (less, over_lower row.block block blocks less over) in
            let both = sym no ∙ covers.0 want in
            absurd cc
        not_wanted false want less = want
    by_order false false other higher more =
        let less : block < row.block = grind (arith, nat_tests, other, higher) in
        let above : AreAbove block (row ∷ rows) = (less, above_from block row.block rows less order.0) in
        let all : gather (block ∷ blocks) (row ∷ rows) ≡ gather blocks (row ∷ rows) = ap (λ (xs : List Row). xs ++ gather blocks (row ∷ rows)) (none_at block (row ∷ rows) above) in
        ap wanted all ∙ rest (row ∷ rows) order (covers_left block blocks (row ∷ rows) above covers)

-- the rows by which something is wanted are those of the blocks that wait
pub gathers : (blocks : List ℕ) (rows : List Row) → Climb blocks → InOrder rows → Covers blocks rows → wanted (gather blocks rows) ≡ wanted rows
gathers [] rows climb order covers = sym (none_wanted rows covers)
gathers (block ∷ blocks) rows climb order covers = by_rows block blocks climb.0 (λ later. gathers blocks later climb.1) rows order covers
