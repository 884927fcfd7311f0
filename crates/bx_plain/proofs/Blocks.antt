-- The rows by block: what is found there, and what is put.
use Rattle.std.proofs.Common.{◌≡◌, ℕ, ◌<◌, ◌==◌, ltb, inr, Bool, true, false, List, [], ◌∷◌, ◌++◌, Some, None, Vec, Global, refl, sym, ap, subst, ◌∙◌, arith, append-nil}
use Rattle.std.specs.List.{AllByRecursion}
use Rattle.std.specs.List.Sorted.{IsStrictlySortedBy}
use Rattle.std.specs.BTreeMap.{insert_entry, is_at}
use Rattle.std.specs.Map.{keys_of, lookup, set_value}
use Rattle.std.specs.declared.cmp.Ordering.{Ordering}
use Rattle.std.specs.declared.cmp.Ordering.TheVariants.{Less, Equal, Greater}
use Rattle.std.specs.Ordering.{nat_cmp}
use Rattle.std.proofs.lemmas.Bool.Decides.{nat_tests}
use Rattle.std.proofs.lemmas.List.Elements.{filter-append}
use Rattle.bx_plain.specs.declared.rows.Row.{Row}
use Rattle.bx_plain.specs.Rows.{is_row, rows_at, with_row}
use Rattle.bx_plain.specs.Tables.{AreOf, AreTheirs, flat, items_or_none}
use Rattle.bx_plain.proofs.Puts.{not_above, not_row}

abbrev pub Entries : Type 0
Entries = List (ℕ × Vec Row Global)

-- ---- keys that rise

abbrev pub IsAbove : ℕ → Entries → Type 0
IsAbove key entries = AllByRecursion (λ entry. key < entry.0) entries

abbrev pub Rise : Entries → Type 0
Rise [] = Unit {0}
Rise (entry ∷ entries) = IsAbove entry.0 entries × Rise entries

less_is : (a b : ℕ) → nat_cmp a b ≡ Less → a < b
less_is a b is = grind (arith, nat_tests, is)

above_is : (key : ℕ) (entries : Entries) → AllByRecursion (λ k. nat_cmp key k ≡ Less) (keys_of entries) → IsAbove key entries
above_is key [] all = tt
above_is key (entry ∷ entries) all = (less_is key entry.0 all.0, above_is key entries all.1)

pub rise_is : (entries : Entries) → IsStrictlySortedBy nat_cmp (keys_of entries) → Rise entries
unfolding IsStrictlySortedBy
rise_is [] sorted = tt
rise_is (entry ∷ entries) sorted = (above_is entry.0 entries sorted.0, rise_is entries sorted.1)

-- ---- rows of higher blocks

abbrev pub AreAbove : ℕ → List Row → Type 0
AreAbove block rows = AllByRecursion (λ row. block < row.block) rows

above_both : (block : ℕ) (xs ys : List Row) → AreAbove block xs → AreAbove block ys → AreAbove block (xs ++ ys)
above_both block [] ys one two = two
above_both block (x ∷ xs) ys one two = (one.0, above_both block xs ys one.1 two)

above_own : (block key : ℕ) (rows : List Row) → block < key → AreOf key rows → AreAbove block rows
above_own block key [] less are = tt
above_own block key (row ∷ rows) less are = (let e = are.0 in omega (arith, e, less), above_own block key rows less are.1)

pub flat_above : (block : ℕ) (entries : Entries) → IsAbove block entries → AreTheirs entries → AreAbove block (flat entries)
flat_above block [] above theirs = tt
flat_above block (entry ∷ entries) above theirs = above_both block entry.1.items (flat entries) (above_own block entry.0 entry.1.items above.0 theirs.0) (flat_above block entries above.1 theirs.1)

-- ---- the rows of a block

pub none_at : (block : ℕ) (rows : List Row) → AreAbove block rows → rows_at block rows ≡ []
none_at block [] above = refl
none_at block (row ∷ rows) above = let no : (row.block == block) ≡ false = let less = above.0 in grind (arith, nat_tests, less) in rw (no, none_at block rows above.1) refl

none_own : (block key : ℕ) (rows : List Row) → (key == block) ≡ false → AreOf key rows → rows_at block rows ≡ []
none_own block key [] other are = refl
none_own block key (row ∷ rows) other are = let no : (row.block == block) ≡ false = subst (λ (n : ℕ). (n == block) ≡ false) (sym are.0) other in rw (no, none_own block key rows other are.1) refl

all_own : (block key : ℕ) (rows : List Row) → (key == block) ≡ true → AreOf key rows → rows_at block rows ≡ rows
all_own block key [] its are = refl
all_own block key (row ∷ rows) its are = let yes : (row.block == block) ≡ true = subst (λ (n : ℕ). (n == block) ≡ true) (sym are.0) its in rw (yes, all_own block key rows its are.1) refl

key_same : (block key : ℕ) → is_at (nat_cmp block) key ≡ true → (key == block) ≡ true
key_same block key is = grind (arith, nat_tests, is)

key_other : (block key : ℕ) → is_at (nat_cmp block) key ≡ false → (key == block) ≡ false
key_other block key is = grind (arith, nat_tests, is)

pub found_at : (block : ℕ) (entries : Entries) → Rise entries → AreTheirs entries → items_or_none (lookup (is_at (nat_cmp block)) entries) ≡ rows_at block (flat entries)
found_at block [] rise theirs = refl
found_at block (entry ∷ entries) rise theirs = by_key (is_at (nat_cmp block) entry.0) refl (found_at block entries rise.1 theirs.1)
  where
    both : rows_at block (flat (entry ∷ entries)) ≡ rows_at block entry.1.items ++ rows_at block (flat entries)
    both = filter-append (λ (row : Row). row.block == block) entry.1.items (flat entries)

    by_key : (b : Bool) → is_at (nat_cmp block) entry.0 ≡ b → items_or_none (lookup (is_at (nat_cmp block)) entries) ≡ rows_at block (flat entries) → items_or_none (lookup (is_at (nat_cmp block)) (entry ∷ entries)) ≡ rows_at block (flat (entry ∷ entries))
    by_key true is more =
        let same : entry.0 ≡ block = let e = key_same block entry.0 is in grind (arith, nat_tests, e) in
        let above = subst (λ (n : ℕ). AreAbove n (flat entries)) same (flat_above entry.0 entries rise.0 theirs.1) in
        rw is (sym (both ∙ ap (λ xs. xs ++ rows_at block (flat entries)) (all_own block entry.0 entry.1.items (key_same block entry.0 is) theirs.0)
        ∙ ap (λ xs. entry.1.items ++ xs) (none_at block (flat entries) above) ∙ append-nil entry.1.items))
    by_key false is more = rw is (more ∙ sym (both ∙ ap (λ xs. xs ++ rows_at block (flat entries)) (none_own block entry.0 entry.1.items (key_other block entry.0 is) theirs.0)))

-- ---- a row is put

with_above : (new : Row) (rows : List Row) → AreAbove new.block rows → with_row rows new ≡ new ∷ rows
with_above new [] above = refl
with_above new (row ∷ rows) above =
    let less = above.0 in
    let no = not_row new.session new.block row (inr (λ e. omega (arith, e, less))) in
    let higher : ltb new.block row.block ≡ true = grind (arith, nat_tests, less) in
    rw (no, higher) refl

with_here : (new : Row) (xs ys : List Row) → AreOf new.block xs → AreAbove new.block ys → with_row (xs ++ ys) new ≡ with_row xs new ++ ys
with_here new [] ys are above = with_above new ys above
with_here new (x ∷ xs) ys are above = (elim (is_row new.session new.block x) as (λ b. is_row new.session new.block x ≡ b → with_row (x ∷ xs ++ ys) new ≡ with_row (x ∷ xs) new ++ ys) [
  | true ↦ λ t. rw t refl
  | false ↦ λ t. rw (t, not_above x new are.0) (ap (λ (l : List Row). x ∷ l) (with_here new xs ys are.1 above))
]) refl

with_below : (new : Row) (key : ℕ) (xs ys : List Row) → AreOf key xs → key < new.block → with_row (xs ++ ys) new ≡ xs ++ with_row ys new
with_below new key [] ys are less = refl
with_below new key (x ∷ xs) ys are less =
    let e = are.0 in
    let no = not_row new.session new.block x (inr (λ same. omega (arith, same, e, less))) in
    let lower : ltb new.block x.block ≡ false = grind (arith, nat_tests, e, less) in
    rw (no, lower) (ap (λ (l : List Row). x ∷ l) (with_below new key xs ys are.1 less))

above_found : (key block : ℕ) (entries : Entries) (rows : Vec Row Global) → IsAbove key entries → lookup (is_at (nat_cmp block)) entries ≡ Some rows → key < block
above_found key block [] rows above found = absurd cc
above_found key block (entry ∷ entries) rows above found = by_key (is_at (nat_cmp block) entry.0) refl (above_found key block entries rows above.1)
  where
    by_key : (b : Bool) → is_at (nat_cmp block) entry.0 ≡ b → (lookup (is_at (nat_cmp block)) entries ≡ Some rows → key < block) → key < block
    by_key true is more = let same : entry.0 ≡ block = (let e = key_same block entry.0 is in grind (arith, nat_tests, e)) in let less = above.0 in omega (arith, same, less)
    by_key false is more = more (rw is at found)

-- what is there of a block is its own
pub own_found : (block : ℕ) (entries : Entries) (rows : Vec Row Global) → AreTheirs entries → lookup (is_at (nat_cmp block)) entries ≡ Some rows → AreOf block rows.items
own_found block [] rows theirs found = absurd cc
own_found block (entry ∷ entries) rows theirs found = by_key (is_at (nat_cmp block) entry.0) refl (own_found block entries rows theirs.1)
  where
    by_key : (b : Bool) → is_at (nat_cmp block) entry.0 ≡ b → (lookup (is_at (nat_cmp block)) entries ≡ Some rows → AreOf block rows.items) → AreOf block rows.items
    by_key true is more =
        let same : entry.0 ≡ block = (let e = key_same block entry.0 is in grind (arith, nat_tests, e)) in
        let it : Some entry.1 ≡ Some rows = rw is at found in
        let one : entry.1 ≡ rows = cc in
        subst (λ (v : Vec Row Global). AreOf block v.items) one (subst (λ (n : ℕ). AreOf n entry.1.items) same theirs.0)
    by_key false is more = more (rw is at found)

pub put_found : (new : Row) (entries : Entries) (was rows : Vec Row Global) → Rise entries → AreTheirs entries → lookup (is_at (nat_cmp new.block)) entries ≡ Some was → rows.items ≡ with_row was.items new
    → flat (set_value (is_at (nat_cmp new.block)) entries rows) ≡ with_row (flat entries) new
put_found new [] was rows rise theirs found is = absurd cc
put_found new (entry ∷ entries) was rows rise theirs found is = by_key (is_at (nat_cmp new.block) entry.0) refl (λ more. put_found new entries was rows rise.1 theirs.1 more is)
  where
    Later : Type 0
    Later = lookup (is_at (nat_cmp new.block)) entries ≡ Some was → flat (set_value (is_at (nat_cmp new.block)) entries rows) ≡ with_row (flat entries) new

    by_key : (b : Bool) → is_at (nat_cmp new.block) entry.0 ≡ b → Later → flat (set_value (is_at (nat_cmp new.block)) (entry ∷ entries) rows) ≡ with_row (flat (entry ∷ entries)) new
    by_key true at later =
        let same : entry.0 ≡ new.block = (let e = key_same new.block entry.0 at in grind (arith, nat_tests, e)) in
        let it : Some entry.1 ≡ Some was = rw at at found in
        let one : entry.1 ≡ was = cc in
        let above = subst (λ (n : ℕ). AreAbove n (flat entries)) same (flat_above entry.0 entries rise.0 theirs.1) in
        let own = subst (λ (n : ℕ). AreOf n entry.1.items) same theirs.0 in
        rw at (ap (λ (xs : List Row). xs ++ flat entries) (is ∙ ap (λ (v : Vec Row Global). with_row v.items new) (sym one)) ∙ sym (with_here new entry.1.items (flat entries) own above))
    by_key false at later =
        let more : lookup (is_at (nat_cmp new.block)) entries ≡ Some was = rw at at found in
        let less = above_found entry.0 new.block entries was rise.0 more in
        rw at (ap (λ (xs : List Row). entry.1.items ++ xs) (later more) ∙ sym (with_below new entry.0 entry.1.items (flat entries) theirs.0 less))

above_all : (a b : ℕ) (es : Entries) → a < b → IsAbove b es → IsAbove a es
above_all a b [] less above = tt
above_all a b (e ∷ es) less above = (let more = above.0 in omega (arith, less, more), above_all a b es less above.1)

pub put_new : (new : Row) (entries : Entries) (rows : Vec Row Global) → Rise entries → AreTheirs entries → lookup (is_at (nat_cmp new.block)) entries ≡ None → rows.items ≡ new ∷ []
    → flat (insert_entry nat_cmp entries new.block rows) ≡ with_row (flat entries) new
put_new new [] rows rise theirs none is = append-nil rows.items ∙ is
put_new new (entry ∷ entries) rows rise theirs none is = by_order (nat_cmp new.block entry.0) refl (λ more. put_new new entries rows rise.1 theirs.1 more is)
  where
    Later : Type 0
    Later = lookup (is_at (nat_cmp new.block)) entries ≡ None → flat (insert_entry nat_cmp entries new.block rows) ≡ with_row (flat entries) new

    by_order : (o : Ordering) → nat_cmp new.block entry.0 ≡ o → Later → flat (insert_entry nat_cmp (entry ∷ entries) new.block rows) ≡ with_row (flat (entry ∷ entries)) new
    by_order Less order later =
        let less = less_is new.block entry.0 order in
        let rest = above_all new.block entry.0 entries less rise.0 in
        let above = flat_above new.block (entry ∷ entries) (less, rest) theirs in
        rw order (ap (λ (xs : List Row). xs ++ flat (entry ∷ entries)) is ∙ sym (with_above new (flat (entry ∷ entries)) above))
    by_order Equal order later =
        let at : is_at (nat_cmp new.block) entry.0 ≡ true = rw order refl in
        let wrong = rw at at none in absurd cc
    by_order Greater order later =
        let at : is_at (nat_cmp new.block) entry.0 ≡ false = rw order refl in
        let more : lookup (is_at (nat_cmp new.block)) entries ≡ None = rw at at none in
        let less : entry.0 < new.block = grind (arith, nat_tests, order) in
        rw order (ap (λ (xs : List Row). entry.1.items ++ xs) (later more) ∙ sym (with_below new entry.0 entry.1.items (flat entries) theirs.0 less))

-- each block's rows stay its own
pub with_own : (block : ℕ) (rows : List Row) (new : Row) → new.block ≡ block → AreOf block rows → AreOf block (with_row rows new)
with_own block [] new its are = (its, tt)
with_own block (row ∷ rows) new its are = (elim (is_row new.session new.block row) as (λ b. is_row new.session new.block row ≡ b → AreOf block (with_row (row ∷ rows) new)) [
  | true ↦ λ t. rw t (its, are.1)
  | false ↦ λ t. rw (t, not_above row new (are.0 ∙ sym its)) (are.0, with_own block rows new its are.1)
]) refl

pub theirs_set : (block : ℕ) (entries : Entries) (rows : Vec Row Global) → AreTheirs entries → AreOf block rows.items → AreTheirs (set_value (is_at (nat_cmp block)) entries rows)
theirs_set block [] rows theirs own = tt
theirs_set block (entry ∷ entries) rows theirs own = by_key (is_at (nat_cmp block) entry.0) refl (theirs_set block entries rows theirs.1 own)
  where
    by_key : (b : Bool) → is_at (nat_cmp block) entry.0 ≡ b → AreTheirs (set_value (is_at (nat_cmp block)) entries rows) → AreTheirs (set_value (is_at (nat_cmp block)) (entry ∷ entries) rows)
    by_key true at later =
        let same : entry.0 ≡ block = (let e = key_same block entry.0 at in grind (arith, nat_tests, e)) in
        rw at (subst (λ (n : ℕ). AreOf n rows.items) (sym same) own, theirs.1)
    by_key false at later = rw at (theirs.0, later)

-- where the rows are the same, all are
pub same_set : (block : ℕ) (entries : Entries) (was rows : Vec Row Global) → lookup (is_at (nat_cmp block)) entries ≡ Some was → rows.items ≡ was.items → flat (set_value (is_at (nat_cmp block)) entries rows) ≡ flat entries
same_set block [] was rows found is = refl
same_set block (entry ∷ entries) was rows found is = by_key (is_at (nat_cmp block) entry.0) refl (λ more. same_set block entries was rows more is)
  where
    by_key : (b : Bool) → is_at (nat_cmp block) entry.0 ≡ b → (lookup (is_at (nat_cmp block)) entries ≡ Some was → flat (set_value (is_at (nat_cmp block)) entries rows) ≡ flat entries)
        → flat (set_value (is_at (nat_cmp block)) (entry ∷ entries) rows) ≡ flat (entry ∷ entries)
    by_key true at later =
        let it : Some entry.1 ≡ Some was = rw at at found in
        let one : entry.1 ≡ was = cc in
        rw at (ap (λ (xs : List Row). xs ++ flat entries) (is ∙ ap (λ (v : Vec Row Global). v.items) (sym one)))
    by_key false at later = rw at (ap (λ (xs : List Row). entry.1.items ++ xs) (later (rw at at found)))

pub theirs_new : (new : Row) (entries : Entries) (rows : Vec Row Global) → AreTheirs entries → lookup (is_at (nat_cmp new.block)) entries ≡ None → rows.items ≡ new ∷ [] → AreTheirs (insert_entry nat_cmp entries new.block rows)
theirs_new new [] rows theirs none is = (subst (λ (xs : List Row). AreOf new.block xs) (sym is) (refl, tt), tt)
theirs_new new (entry ∷ entries) rows theirs none is = by_order (nat_cmp new.block entry.0) refl (λ more. theirs_new new entries rows theirs.1 more is)
  where
    Later : Type 0
    Later = lookup (is_at (nat_cmp new.block)) entries ≡ None → AreTheirs (insert_entry nat_cmp entries new.block rows)

    by_order : (o : Ordering) → nat_cmp new.block entry.0 ≡ o → Later → AreTheirs (insert_entry nat_cmp (entry ∷ entries) new.block rows)
    by_order Less order later = rw order (subst (λ (xs : List Row). AreOf new.block xs) (sym is) (refl, tt), theirs)
    by_order Equal order later =
        let at : is_at (nat_cmp new.block) entry.0 ≡ true = rw order refl in
        let wrong = rw at at none in absurd cc
    by_order Greater order later =
        let at : is_at (nat_cmp new.block) entry.0 ≡ false = rw order refl in
        rw order (theirs.0, later (rw at at none))
