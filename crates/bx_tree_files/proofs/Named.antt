-- Entries of a directory, kept in a map by their numbers.
use Rattle.std.proofs.Common.{◌≡◌, ℕ, ◌<◌, subst, Bool, true, false, cond, List, [], ◌∷◌, ◌++◌, Option, Some, None, refl, sym, ap, ◌∙◌, arith}
use Rattle.std.specs.Prelude.{option_map, bytes_eq}
use Rattle.std.specs.List.{AllByRecursion}
use Rattle.std.specs.List.Sorted.{IsStrictlySortedBy}
use Rattle.std.specs.Map.{keys_of, values_of, remove_entry}
use Rattle.std.specs.BTreeMap.{is_at, insert_entry}
use Rattle.std.specs.declared.cmp.Ordering.TheVariants.{Less, Greater}
use Rattle.std.specs.Ordering.{nat_cmp, match_ordering}
use Rattle.std.specs.Cmp.{nat_cmp_is}
use Rattle.std.proofs.lemmas.Slice.Eq.{bytes_eq-Decides}
use Rattle.std.proofs.lemmas.Bool.Decides.{nat_tests}
use Rattle.std.proofs.lemmas.Map.Keys.{sorted_head, sorted_tail}
use Rattle.bx_tree_files.specs.declared.file.Name.{Name}
use Rattle.bx_tree_files.specs.Entries.{AreApart, AreBelow, entry_named, without_name}

-- a search that found nothing passed over the first
skipped : (b : Bool) (e : Name) (rest : Option Name) → cond b (Some e) rest ≡ None → (b ≡ false) × (rest ≡ None)
skipped true e rest none = absurd cc
skipped false e rest none = (refl, none)

-- where no entry has the name, none is taken out
pub without_none : (es : List Name) (name : List ℕ) → entry_named es name ≡ None → without_name es name ≡ es
without_none [] name none = refl
without_none (e ∷ es) name none =
    let passed = skipped (bytes_eq e.name name) e (entry_named es name) none in
    rw passed.0 (ap (λ (others : List Name). e ∷ others) (without_none es name passed.1))

behind_it : (a b : ℕ) → b < a → {X : Type 0} (x y z : X) → match_ordering (nat_cmp a b) x y z ≡ z
behind_it a b less x y z = rw (← nat_cmp_is a b Greater less) refl

-- an entry with a number above all others is put behind them
pub insert_last : (es : List (ℕ × Name)) (n : ℕ) (e : Name) → AreBelow n (values_of es) → AreApart es → insert_entry nat_cmp es n e ≡ es ++ (n, e) ∷ []
insert_last [] n e below apart = refl
insert_last (f ∷ es) n e below apart =
    let less : f.0 < n = subst (λ (k : ℕ). k < n) (sym apart.0) below.0 in
    behind_it n f.0 less ((n, e) ∷ f ∷ es) ((f.0, e) ∷ es) (f ∷ insert_entry nat_cmp es n e)
    ∙ ap (λ (others : List (ℕ × Name)). f ∷ others) (insert_last es n e below.1 apart.2)

pub values_last : (es : List (ℕ × Name)) (n : ℕ) (e : Name) → values_of (es ++ (n, e) ∷ []) ≡ values_of es ++ e ∷ []
values_last [] n e = refl
values_last (f ∷ es) n e = ap (λ (others : List Name). f.1 ∷ others) (values_last es n e)

-- the entries as they are seen then
pub seen_last : (es : List (ℕ × Name)) (n : ℕ) (e : Name) → AreBelow n (values_of es) → AreApart es → values_of (insert_entry nat_cmp es n e) ≡ values_of es ++ e ∷ []
seen_last es n e below apart = ap values_of (insert_last es n e below apart) ∙ values_last es n e

apart_flips : (x y : List ℕ) → bytes_eq x y ≡ false → bytes_eq y x ≡ false
apart_flips x y apart = by (bytes_eq y x) refl
  where
    by : (b : Bool) → bytes_eq y x ≡ b → b ≡ false
    by false is = refl
    by true is = let same : y ≡ x = grind (arith, bytes_eq-Decides) in absurd cc

named_last : (es : List Name) (e : Name) (name : List ℕ) → entry_named es name ≡ None → bytes_eq e.name name ≡ false → entry_named (es ++ e ∷ []) name ≡ None
named_last [] e name none apart = rw apart refl
named_last (f ∷ es) e name none apart =
    let passed = skipped (bytes_eq f.name name) f (entry_named es name) none in
    rw passed.0 (named_last es e name passed.1 apart)

pub apart_last : (es : List (ℕ × Name)) (n : ℕ) (e : Name) → n ≡ e.number → AreApart es → entry_named (values_of es) e.name ≡ None → AreApart (es ++ (n, e) ∷ [])
apart_last [] n e is apart none = (is, refl, tt)
apart_last (f ∷ es) n e is apart none =
    let passed = skipped (bytes_eq f.1.name e.name) f.1 (entry_named (values_of es) e.name) none in
    (apart.0, rw (values_last es n e) (named_last (values_of es) e f.1.name apart.1 (apart_flips f.1.name e.name passed.0)), apart_last es n e is apart.2 passed.1)

-- the entries stay apart
pub apart_inserted : (es : List (ℕ × Name)) (n : ℕ) (e : Name) → n ≡ e.number → AreBelow n (values_of es) → AreApart es → entry_named (values_of es) e.name ≡ None
    → AreApart (insert_entry nat_cmp es n e)
apart_inserted es n e is below apart none = rw (insert_last es n e below apart) (apart_last es n e is apart none)

none_taken_by : (taken : Bool) (f : Name) (es others : List Name) (name : List ℕ) → bytes_eq f.name name ≡ false → entry_named es name ≡ None → entry_named others name ≡ None
    → entry_named (cond taken es (f ∷ others)) name ≡ None
none_taken_by true f es others name apart none still = none
none_taken_by false f es others name apart none still = rw apart still

values_taken : (taken : Bool) (f : ℕ × Name) (es others : List (ℕ × Name)) → values_of (cond taken es (f ∷ others)) ≡ cond taken (values_of es) (f.1 ∷ values_of others)
values_taken true f es others = refl
values_taken false f es others = refl

none_taken : (test : ℕ → Bool) (es : List (ℕ × Name)) (name : List ℕ) → entry_named (values_of es) name ≡ None → entry_named (values_of (remove_entry test es)) name ≡ None
none_taken test [] name none = refl
none_taken test (f ∷ es) name none =
    let passed = skipped (bytes_eq f.1.name name) f.1 (entry_named (values_of es) name) none in
    rw (values_taken (test f.0) f es (remove_entry test es))
    (none_taken_by (test f.0) f.1 (values_of es) (values_of (remove_entry test es)) name passed.0 passed.1 (none_taken test es name passed.1))

apart_by : (taken : Bool) (f : ℕ × Name) (es others : List (ℕ × Name)) → AreApart (f ∷ es) → AreApart (f ∷ others) → AreApart (cond taken es (f ∷ others))
apart_by true f es others apart still = apart.2
apart_by false f es others apart still = still

-- and so they do where one is taken out
pub apart_taken : (test : ℕ → Bool) (es : List (ℕ × Name)) → AreApart es → AreApart (remove_entry test es)
apart_taken test [] apart = tt
apart_taken test (f ∷ es) apart =
    apart_by (test f.0) f es (remove_entry test es) apart (apart.0, none_taken test es f.1.name apart.1, apart_taken test es apart.2)

-- a number that a later entry has is above the first one's
behind_by : (k n : ℕ) (b : Bool) (f : ℕ × Name) (others : Option Name) → f.0 ≡ f.1.number → nat_cmp k f.0 ≡ Less
    → (option_map (λ (e : Name). e.number) others ≡ Some n → nat_cmp k n ≡ Less)
    → option_map (λ (e : Name). e.number) (cond b (Some f.1) others) ≡ Some n → nat_cmp k n ≡ Less
behind_by k n true f others own less later found =
    let same : f.0 ≡ n = cc in
    subst (λ (x : ℕ). nat_cmp k x ≡ Less) same less
behind_by k n false f others own less later found = later found

pub number_behind : (k n : ℕ) (es : List (ℕ × Name)) (name : List ℕ) → AllByRecursion (λ y. nat_cmp k y ≡ Less) (keys_of es) → AreApart es
    → option_map (λ (e : Name). e.number) (entry_named (values_of es) name) ≡ Some n → nat_cmp k n ≡ Less
number_behind k n [] name all apart found = absurd cc
number_behind k n (f ∷ es) name all apart found =
    behind_by k n (bytes_eq f.1.name name) f (entry_named (values_of es) name) apart.0 all.0 (number_behind k n es name all.1 apart.2) found

pub not_at : (k n : ℕ) → nat_cmp k n ≡ Less → is_at (nat_cmp n) k ≡ false
not_at k n less = grind (arith, nat_tests)

pub at_itself : (n : ℕ) → is_at (nat_cmp n) n ≡ true
at_itself n = grind (arith, nat_tests)

-- the entries as they are seen after one was taken out
taken_here : (f : ℕ × Name) (es : List (ℕ × Name)) (name : List ℕ) (n : ℕ) → AreApart (f ∷ es) → bytes_eq f.1.name name ≡ true → f.1.number ≡ n
    → values_of (remove_entry (is_at (nat_cmp n)) (f ∷ es)) ≡ without_name (values_of (f ∷ es)) name
taken_here f es name n apart is own =
    let same : f.0 ≡ n = cc in
    let found_here : is_at (nat_cmp n) f.0 ≡ true = subst (λ (x : ℕ). is_at (nat_cmp n) x ≡ true) (sym same) (at_itself n) in
    let name_same : f.1.name ≡ name = (bytes_eq-Decides f.1.name name).0 is in
    rw (found_here, is) (sym (without_none (values_of es) name (subst (λ (x : List ℕ). entry_named (values_of es) x ≡ None) name_same apart.1)))

taken_behind : (f : ℕ × Name) (es : List (ℕ × Name)) (name : List ℕ) (n : ℕ) → bytes_eq f.1.name name ≡ false → nat_cmp f.0 n ≡ Less
    → values_of (remove_entry (is_at (nat_cmp n)) es) ≡ without_name (values_of es) name
    → values_of (remove_entry (is_at (nat_cmp n)) (f ∷ es)) ≡ without_name (values_of (f ∷ es)) name
taken_behind f es name n is less later = rw (not_at f.0 n less, is) (ap (λ (others : List Name). f.1 ∷ others) later)

taken_by : (b : Bool) (f : ℕ × Name) (es : List (ℕ × Name)) (name : List ℕ) (n : ℕ) → bytes_eq f.1.name name ≡ b → AreApart (f ∷ es)
    → AllByRecursion (λ y. nat_cmp f.0 y ≡ Less) (keys_of es)
    → option_map (λ (e : Name). e.number) (cond b (Some f.1) (entry_named (values_of es) name)) ≡ Some n
    → (option_map (λ (e : Name). e.number) (entry_named (values_of es) name) ≡ Some n → values_of (remove_entry (is_at (nat_cmp n)) es) ≡ without_name (values_of es) name)
    → values_of (remove_entry (is_at (nat_cmp n)) (f ∷ es)) ≡ without_name (values_of (f ∷ es)) name
taken_by true f es name n is apart all found later = taken_here f es name n apart is cc
taken_by false f es name n is apart all found later = taken_behind f es name n is (number_behind f.0 n es name all apart.2 found) (later found)

pub seen_taken : (es : List (ℕ × Name)) (name : List ℕ) (n : ℕ) → AreApart es → IsStrictlySortedBy nat_cmp (keys_of es)
    → option_map (λ (e : Name). e.number) (entry_named (values_of es) name) ≡ Some n
    → values_of (remove_entry (is_at (nat_cmp n)) es) ≡ without_name (values_of es) name
seen_taken [] name n apart rise found = refl
seen_taken (f ∷ es) name n apart rise found =
    taken_by (bytes_eq f.1.name name) f es name n refl apart (sorted_head nat_cmp f.0 (keys_of es) rise) found
    (seen_taken es name n apart.2 (sorted_tail nat_cmp f.0 (keys_of es) rise))

-- an entry that isn't found has no number
pub not_found : (es : List Name) (name : List ℕ) → option_map (λ (e : Name). e.number) (entry_named es name) ≡ None → entry_named es name ≡ None
not_found es name none = by (entry_named es name) refl none
  where
    by : (found : Option Name) → entry_named es name ≡ found → option_map (λ (e : Name). e.number) found ≡ None → found ≡ None
    by None is gone = refl
    by (Some e) is gone = absurd cc
