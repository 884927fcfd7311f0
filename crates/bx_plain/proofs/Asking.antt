-- What a node is asked for, when rows of one block change.
use Rattle.std.proofs.Common.{◌≡◌, ◌≢◌, inr, ℕ, zero, suc, ◌+◌, ◌-◌, ◌<◌, ltb, Bool, true, false, ◌==◌, ◌&&◌, List, [], ◌∷◌, ◌++◌, Option, Some, None, refl, sym, ap, subst, ◌∙◌, arith}
use Rattle.std.specs.Prelude.{if◌then◌else◌, is_some, not}
use Rattle.std.proofs.lemmas.Bool.Decides.{nat_tests}
use Rattle.bx_facts.specs.Holds.{Hold, first_of, without_block}
use Rattle.bx_plain.specs.declared.rows.Row.{Row}
use Rattle.bx_plain.specs.Asks.{AlikeBut, asked_by, asked_of, asks_from, conflicts, is_asked}
use Rattle.bx_plain.specs.Rows.{hold_in, hold_of_row, is_row, rows_at, rows_but, with_row}
use Rattle.bx_plain.specs.Tables.{gather, wanted}
use Rattle.bx_plain.proofs.Puts.{not_row, row_is}

pub alike_put : (rows : List Row) (new : Row) → AlikeBut new.block rows (with_row rows new)
alike_put [] new = let its : (new.block == new.block) ≡ true = grind (arith, nat_tests) in rw its refl
alike_put (row ∷ rows) new = (elim (is_row new.session new.block row) as (λ b. is_row new.session new.block row ≡ b → AlikeBut new.block (row ∷ rows) (with_row (row ∷ rows) new)) [
  | true ↦ λ t.
      let its : (new.block == new.block) ≡ true = grind (arith, nat_tests) in
      let same : (row.block == new.block) ≡ true = let e = (row_is new.session new.block row t).1 in grind (arith, nat_tests, e) in
      rw (t, its, same) refl
  | false ↦ λ t. (elim (ltb new.block row.block) as (λ b. ltb new.block row.block ≡ b → AlikeBut new.block (row ∷ rows) (with_row (row ∷ rows) new)) [
    | true ↦ λ l. let its : (new.block == new.block) ≡ true = grind (arith, nat_tests) in rw (t, l, its) refl
    | false ↦ λ l. rw (t, l) (ap (λ (xs : List Row). if not (row.block == new.block) then row ∷ xs else xs) (alike_put rows new))
  ]) refl
]) refl

-- ---- the first that asks

first_none : (asked rest : List (ℕ × ℕ)) → first_of asked ≡ None → first_of (asked ++ rest) ≡ first_of rest
first_none [] rest none = refl
first_none (one ∷ others) rest none = absurd cc

first_some : (asked rest : List (ℕ × ℕ)) (one : ℕ × ℕ) → first_of asked ≡ Some one → first_of (asked ++ rest) ≡ Some one
first_some [] rest one is = absurd cc
first_some (other ∷ others) rest one is = is

pub asks_later : (held : ℕ → Option Hold) (session : ℕ) (rows : List Row) (node nodes : ℕ) → node < nodes → first_of (asked_of held session (node + 1) rows) ≡ None
    → first_of (asks_from held session rows (node + 1 + 1) (nodes - (node + 1))) ≡ first_of (asks_from held session rows (node + 1) (nodes - node))
asks_later held session rows node nodes less none =
    let left : nodes - node ≡ suc (nodes - (node + 1)) = omega arith in
    sym (ap (λ n. first_of (asks_from held session rows (node + 1) n)) left ∙ first_none (asked_of held session (node + 1) rows) (asks_from held session rows (node + 1 + 1) (nodes - (node + 1))) none)

pub is_none : {A : Type 0} (o : Option A) → is_some o ≡ false → o ≡ None
is_none None free = refl
is_none (Some x) free = absurd cc

-- ---- what is asked by the rows of one block and then those of others

asked_first : (held : ℕ → Option Hold) (by : ℕ) (row : Row) (rows : List Row) (t : Bool) → is_asked held by row ≡ t → asked_by held by (row ∷ rows) ≡ (if t then (row.block, by) ∷ asked_by held by rows else asked_by held by rows)
asked_first held by row rows t is = ap (λ b. if b then (row.block, by) ∷ asked_by held by rows else asked_by held by rows) is

pub asked_both : (held : ℕ → Option Hold) (by : ℕ) (rows more : List Row) → asked_by held by (rows ++ more) ≡ asked_by held by rows ++ asked_by held by more
asked_both held by [] more = refl
asked_both held by (row ∷ rows) more = by_test (is_asked held by row) refl (asked_both held by rows more)
  where
    by_test : (t : Bool) → is_asked held by row ≡ t → asked_by held by (rows ++ more) ≡ asked_by held by rows ++ asked_by held by more → asked_by held by (row ∷ rows ++ more) ≡ asked_by held by (row ∷ rows) ++ asked_by held by more
    by_test true is later = asked_first held by row (rows ++ more) true is ∙ ap (λ xs. (row.block, by) ∷ xs) later ∙ sym (ap (λ xs. xs ++ asked_by held by more) (asked_first held by row rows true is))
    by_test false is later = asked_first held by row (rows ++ more) false is ∙ later ∙ sym (ap (λ xs. xs ++ asked_by held by more) (asked_first held by row rows false is))

-- only what is wanted is asked for
asked_wanted : (held : ℕ → Option Hold) (by : ℕ) (rows : List Row) → asked_by held by (wanted rows) ≡ asked_by held by rows
asked_wanted held by [] = refl
asked_wanted held by (row ∷ rows) = by_test row.is_wanted refl (asked_wanted held by rows)
  where
    by_test : (w : Bool) → row.is_wanted ≡ w → asked_by held by (wanted rows) ≡ asked_by held by rows → asked_by held by (wanted (row ∷ rows)) ≡ asked_by held by (row ∷ rows)
    by_test true is more =
        ap (λ t. asked_by held by (if t then row ∷ wanted rows else wanted rows)) is ∙ ap (λ xs. if is_asked held by row then (row.block, by) ∷ xs else xs) more
    by_test false is more =
        let no : is_asked held by row ≡ false = ap (λ w. (row.session == by) && w && conflicts (held row.block) row.mode) is ∙ and_none (row.session == by) in
        ap (λ t. asked_by held by (if t then row ∷ wanted rows else wanted rows)) is ∙ more ∙ sym (asked_first held by row rows false no)
      where
        and_none : (b : Bool) → (b && false && conflicts (held row.block) row.mode) ≡ false
        and_none true = refl
        and_none false = refl

pub asked_gathered : (held : ℕ → Option Hold) (by : ℕ) (blocks : List ℕ) (rows : List Row) → wanted (gather blocks rows) ≡ wanted rows → asked_by held by (gather blocks rows) ≡ asked_by held by rows
asked_gathered held by blocks rows same = sym (asked_wanted held by (gather blocks rows)) ∙ ap (asked_by held by) same ∙ asked_wanted held by rows

pub asked_later : (held : ℕ → Option Hold) (by block : ℕ) (blocks : List ℕ) (rows : List Row) → first_of (asked_by held by (rows_at block rows)) ≡ None → first_of (asked_by held by (gather (block ∷ blocks) rows)) ≡ first_of (asked_by held by (gather blocks rows))
asked_later held by block blocks rows none = ap first_of (asked_both held by (rows_at block rows) (gather blocks rows)) ∙ first_none (asked_by held by (rows_at block rows)) (asked_by held by (gather blocks rows)) none

pub asked_now : (held : ℕ → Option Hold) (by block : ℕ) (blocks : List ℕ) (rows : List Row) (one : Option (ℕ × ℕ)) → is_some one ≡ true → one ≡ first_of (asked_by held by (rows_at block rows)) → one ≡ first_of (asked_by held by (gather (block ∷ blocks) rows))
asked_now held by block blocks rows None some is = absurd cc
asked_now held by block blocks rows (Some one) some is =
    sym (ap first_of (asked_both held by (rows_at block rows) (gather blocks rows)) ∙ first_some (asked_by held by (rows_at block rows)) (asked_by held by (gather blocks rows)) one (sym is))

-- ---- what is asked when rows of a block change

-- the answers about all blocks but one
cut : (b : Bool) (block by at : ℕ) (rest : List (ℕ × ℕ)) → (at == block) ≡ b → without_block block ((at, by) ∷ rest) ≡ (if not b then (at, by) ∷ without_block block rest else without_block block rest)
cut b block by at rest is = ap (λ t. if not t then (at, by) ∷ without_block block rest else without_block block rest) is

-- a block that isn't held isn't asked for
none_asked : (held : ℕ → Option Hold) (by : ℕ) (row : Row) → held row.block ≡ None → is_asked held by row ≡ false
none_asked held by row none =
    let no : conflicts (held row.block) row.mode ≡ false = ap (λ h. conflicts h row.mode) none in
    ap (λ t. (row.session == by) && row.is_wanted && t) no ∙ and_false ((row.session == by) && row.is_wanted)
  where
    and_false : (b : Bool) → (b && false) ≡ false
    and_false true = refl
    and_false false = refl

-- without a block, what is asked for is what is asked for by the rows of others
cut_asked : (held : ℕ → Option Hold) (by block : ℕ) (rows : List Row) → without_block block (asked_by held by rows) ≡ asked_by held by (rows_but block rows)
cut_asked held by block [] = refl
cut_asked held by block (row ∷ rows) = by_test (is_asked held by row) (row.block == block) refl refl (cut_asked held by block rows)
  where
    first : (b : Bool) → (row.block == block) ≡ b → rows_but block (row ∷ rows) ≡ (if not b then row ∷ rows_but block rows else rows_but block rows)
    first b is = ap (λ t. if not t then row ∷ rows_but block rows else rows_but block rows) is

    asks : (t : Bool) (rest : List Row) → is_asked held by row ≡ t → asked_by held by (row ∷ rest) ≡ (if t then (row.block, by) ∷ asked_by held by rest else asked_by held by rest)
    asks t rest is = ap (λ b. if b then (row.block, by) ∷ asked_by held by rest else asked_by held by rest) is

    by_test : (t b : Bool) → is_asked held by row ≡ t → (row.block == block) ≡ b → without_block block (asked_by held by rows) ≡ asked_by held by (rows_but block rows)
        → without_block block (asked_by held by (row ∷ rows)) ≡ asked_by held by (rows_but block (row ∷ rows))
    by_test true true is its more = ap (without_block block) (asks true rows is) ∙ cut true block by row.block (asked_by held by rows) its ∙ more ∙ sym (ap (asked_by held by) (first true its))
    by_test true false is its more =
        ap (without_block block) (asks true rows is) ∙ cut false block by row.block (asked_by held by rows) its ∙ ap (λ xs. (row.block, by) ∷ xs) more
        ∙ sym (ap (asked_by held by) (first false its) ∙ asks true (rows_but block rows) is)
    by_test false true is its more = ap (without_block block) (asks false rows is) ∙ more ∙ sym (ap (asked_by held by) (first true its))
    by_test false false is its more = ap (without_block block) (asks false rows is) ∙ more ∙ sym (ap (asked_by held by) (first false its) ∙ asks false (rows_but block rows) is)

-- rows of other blocks ask the same where what is held of these is the same
asked_same : (held other : ℕ → Option Hold) (by block : ℕ) (rows : List Row) → ((at : ℕ) → at ≢ block → other at ≡ held at) → asked_by other by (rows_but block rows) ≡ asked_by held by (rows_but block rows)
asked_same held other by block [] same = refl
asked_same held other by block (row ∷ rows) same = by_test (row.block == block) refl (asked_same held other by block rows same)
  where
    by_test : (b : Bool) → (row.block == block) ≡ b → asked_by other by (rows_but block rows) ≡ asked_by held by (rows_but block rows) → asked_by other by (rows_but block (row ∷ rows)) ≡ asked_by held by (rows_but block (row ∷ rows))
    by_test true its more =
        let e = ap (λ t. if not t then row ∷ rows_but block rows else rows_but block rows) its in
        ap (asked_by other by) e ∙ more ∙ sym (ap (asked_by held by) e)
    by_test false apart more =
        let ne : row.block ≢ block = λ e. grind (arith, nat_tests, e, apart) in
        let e = ap (λ t. if not t then row ∷ rows_but block rows else rows_but block rows) apart in
        let there : other row.block ≡ held row.block = same row.block ne in
        let asked : is_asked other by row ≡ is_asked held by row = ap (λ h. (row.session == by) && row.is_wanted && conflicts h row.mode) there in
        ap (asked_by other by) e
        ∙ ap (λ t. if t then (row.block, by) ∷ asked_by other by (rows_but block rows) else asked_by other by (rows_but block rows)) asked
        ∙ ap (λ xs. if is_asked held by row then (row.block, by) ∷ xs else xs) more
        ∙ sym (ap (asked_by held by) e)

-- all but the block are asked for as before
pub asked_alike : (held other : ℕ → Option Hold) (by block : ℕ) (rows new : List Row) → AlikeBut block rows new → ((at : ℕ) → at ≢ block → other at ≡ held at)
    → without_block block (asked_by other by new) ≡ without_block block (asked_by held by rows)
asked_alike held other by block rows new alike same =
    cut_asked other by block new ∙ ap (asked_by other by) alike ∙ asked_same held other by block rows same ∙ sym (cut_asked held by block rows)

-- a block that isn't held is asked for by nobody
pub none_left : (held : ℕ → Option Hold) (by block : ℕ) (rows : List Row) → held block ≡ None → asked_by held by rows ≡ without_block block (asked_by held by rows)
none_left held by block [] none = refl
none_left held by block (row ∷ rows) none = by_test (is_asked held by row) refl (none_left held by block rows none)
  where
    by_test : (t : Bool) → is_asked held by row ≡ t → asked_by held by rows ≡ without_block block (asked_by held by rows) → asked_by held by (row ∷ rows) ≡ without_block block (asked_by held by (row ∷ rows))
    by_test false is more =
        let e = ap (λ t. if t then (row.block, by) ∷ asked_by held by rows else asked_by held by rows) is in
        e ∙ more ∙ sym (ap (without_block block) e)
    by_test true is more =
        let apart : (row.block == block) ≡ false = by_block (row.block == block) refl in
        let e = ap (λ t. if t then (row.block, by) ∷ asked_by held by rows else asked_by held by rows) is in
        e ∙ ap (λ xs. (row.block, by) ∷ xs) more ∙ sym (ap (without_block block) e ∙ cut false block by row.block (asked_by held by rows) apart)
      where
        by_block : (t : Bool) → (row.block == block) ≡ t → (row.block == block) ≡ false
        by_block false free = free
        by_block true its =
            let same : block ≡ row.block = grind (arith, nat_tests, its) in
            let P : ℕ → Type 0 = λ n. held n ≡ None in
            let wrong = none_asked held by row (subst P same none) in
            absurd (let both = sym wrong ∙ is in cc)

cut_both : (block : ℕ) (xs ys : List (ℕ × ℕ)) → without_block block (xs ++ ys) ≡ without_block block xs ++ without_block block ys
cut_both block [] ys = refl
cut_both block (x ∷ xs) ys = by_test (x.0 == block) refl (cut_both block xs ys)
  where
    by_test : (t : Bool) → (x.0 == block) ≡ t → without_block block (xs ++ ys) ≡ without_block block xs ++ without_block block ys → without_block block (x ∷ xs ++ ys) ≡ without_block block (x ∷ xs) ++ without_block block ys
    by_test true is more =
        ap (λ t. if not t then x ∷ without_block block (xs ++ ys) else without_block block (xs ++ ys)) is ∙ more
        ∙ sym (ap (λ t. (if not t then x ∷ without_block block xs else without_block block xs) ++ without_block block ys) is)
    by_test false is more =
        ap (λ t. if not t then x ∷ without_block block (xs ++ ys) else without_block block (xs ++ ys)) is ∙ ap (λ zs. x ∷ zs) more
        ∙ sym (ap (λ t. (if not t then x ∷ without_block block xs else without_block block xs) ++ without_block block ys) is)

pub asks_alike : (held other : ℕ → Option Hold) (session block : ℕ) (rows new : List Row) → AlikeBut block rows new → ((at : ℕ) → at ≢ block → other at ≡ held at) → (by count : ℕ)
    → without_block block (asks_from other session new by count) ≡ without_block block (asks_from held session rows by count)
asks_alike held other session block rows new alike same by zero = refl
asks_alike held other session block rows new alike same by (suc count) =
    let more = asks_alike held other session block rows new alike same (by + 1) count in
    cut_both block (asked_of other session by new) (asks_from other session new (by + 1) count)
    ∙ ap (λ zs. without_block block (asked_of other session by new) ++ zs) more
    ∙ ap (λ zs. zs ++ without_block block (asks_from held session rows (by + 1) count)) (by_test (by == session) refl)
    ∙ sym (cut_both block (asked_of held session by rows) (asks_from held session rows (by + 1) count))
  where
    by_test : (t : Bool) → (by == session) ≡ t → without_block block (asked_of other session by new) ≡ without_block block (asked_of held session by rows)
    by_test true is = ap (λ t. without_block block (if t then [] else asked_by other by new)) is ∙ sym (ap (λ t. without_block block (if t then [] else asked_by held by rows)) is)
    by_test false is = ap (λ t. without_block block (if t then [] else asked_by other by new)) is ∙ asked_alike held other by block rows new alike same ∙ sym (ap (λ t. without_block block (if t then [] else asked_by held by rows)) is)

pub asks_none : (held : ℕ → Option Hold) (session block : ℕ) (rows : List Row) → held block ≡ None → (by count : ℕ) → asks_from held session rows by count ≡ without_block block (asks_from held session rows by count)
asks_none held session block rows none by zero = refl
asks_none held session block rows none by (suc count) =
    let more = asks_none held session block rows none (by + 1) count in
    ap (λ zs. asked_of held session by rows ++ zs) more
    ∙ ap (λ zs. zs ++ without_block block (asks_from held session rows (by + 1) count)) (by_test (by == session) refl)
    ∙ sym (cut_both block (asked_of held session by rows) (asks_from held session rows (by + 1) count))
  where
    by_test : (t : Bool) → (by == session) ≡ t → asked_of held session by rows ≡ without_block block (asked_of held session by rows)
    by_test true is = let e = ap (λ t. if t then [] else asked_by held by rows) is in e ∙ sym (ap (without_block block) e)
    by_test false is = let e = ap (λ t. if t then [] else asked_by held by rows) is in e ∙ none_left held by block rows none ∙ sym (ap (without_block block) e)

-- what is held of other blocks is held by the rows of these
hold_but : (block session at : ℕ) (rows : List Row) → at ≢ block → hold_in (rows_but block rows) session at ≡ hold_in rows session at
hold_but block session at [] apart = refl
hold_but block session at (row ∷ rows) apart = by_test (row.block == block) refl (hold_but block session at rows apart)
  where
    by_test : (b : Bool) → (row.block == block) ≡ b → hold_in (rows_but block rows) session at ≡ hold_in rows session at → hold_in (rows_but block (row ∷ rows)) session at ≡ hold_in (row ∷ rows) session at
    by_test true its more =
        let same : row.block ≡ block = grind (arith, nat_tests, its) in
        let no : is_row session at row ≡ false = not_row session at row (inr (λ e. apart (sym e ∙ same))) in
        ap (λ t. hold_in (if not t then row ∷ rows_but block rows else rows_but block rows) session at) its ∙ more ∙ sym (ap (λ t. if t then hold_of_row row else hold_in rows session at) no)
    by_test false other more =
        ap (λ t. hold_in (if not t then row ∷ rows_but block rows else rows_but block rows) session at) other ∙ ap (λ h. if is_row session at row then hold_of_row row else h) more

pub holds_alike : (block session at : ℕ) (rows new : List Row) → AlikeBut block rows new → at ≢ block → hold_in new session at ≡ hold_in rows session at
holds_alike block session at rows new alike apart = sym (hold_but block session at new apart) ∙ ap (λ (xs : List Row). hold_in xs session at) alike ∙ hold_but block session at rows apart
