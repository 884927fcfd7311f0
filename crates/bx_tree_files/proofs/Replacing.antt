-- Entries of a directory, where a new one takes the place of another.
use Rattle.std.proofs.Common.{◌≡◌, ℕ, ◌<◌, subst, Bool, true, false, cond, not, List, [], ◌∷◌, ◌++◌, Option, Some, None, refl, ap, ◌∙◌, arith}
use Rattle.std.specs.Prelude.{option_map, bytes_eq}
use Rattle.std.specs.List.Sorted.{IsStrictlySortedBy}
use Rattle.std.specs.Map.{keys_of, values_of, remove_entry}
use Rattle.std.specs.BTreeMap.{is_at, insert_entry}
use Rattle.std.specs.Ordering.{nat_cmp}
use Rattle.std.proofs.lemmas.Bool.Decides.{nat_tests}
use Rattle.bx_tree_files.specs.declared.file.Name.{Name}
use Rattle.bx_tree_files.specs.Entries.{AreApart, AreBelow, entry_named, without_name}
use Rattle.bx_tree_files.proofs.Named.{apart_last, apart_taken, insert_last, seen_taken, values_last}

below_by : (next n : ℕ) (b : Bool) (f : Name) (others : Option Name) → f.number < next
    → (option_map (λ (e : Name). e.number) others ≡ Some n → n < next)
    → option_map (λ (e : Name). e.number) (cond b (Some f) others) ≡ Some n → n < next
below_by next n true f others less later found =
    let same : f.number ≡ n = cc in
    subst (λ (x : ℕ). x < next) same less
below_by next n false f others less later found = later found

-- an entry that is found has a number below the next one
pub number_below : (next n : ℕ) (es : List Name) (name : List ℕ) → AreBelow next es → option_map (λ (e : Name). e.number) (entry_named es name) ≡ Some n → n < next
number_below next n [] name below found = absurd cc
number_below next n (f ∷ es) name below found =
    below_by next n (bytes_eq f.name name) f (entry_named es name) below.0 (number_below next n es name below.1) found

none_by : (b : Bool) (f : Name) (others : List Name) (name : List ℕ) → bytes_eq f.name name ≡ b → entry_named others name ≡ None → entry_named (cond (not b) (f ∷ others) others) name ≡ None
none_by true f others name is none = none
none_by false f others name is none = rw is none

-- no entry has a name that was taken out
pub none_without : (es : List Name) (name : List ℕ) → entry_named (without_name es name) name ≡ None
none_without [] name = refl
none_without (f ∷ es) name = none_by (bytes_eq f.name name) f (without_name es name) name refl (none_without es name)

taken_by : (b : Bool) (f e : ℕ × Name) (es left : List (ℕ × Name)) → cond b (es ++ e ∷ []) (f ∷ (left ++ e ∷ [])) ≡ cond b es (f ∷ left) ++ e ∷ []
taken_by true f e es left = refl
taken_by false f e es left = refl

-- one of those before the last is taken out
taken_before : (test : ℕ → Bool) (es : List (ℕ × Name)) (k : ℕ) (e : Name) → test k ≡ false → remove_entry test (es ++ (k, e) ∷ []) ≡ remove_entry test es ++ (k, e) ∷ []
taken_before test [] k e apart = rw apart refl
taken_before test (f ∷ es) k e apart =
    ap (λ (left : List (ℕ × Name)). cond (test f.0) (es ++ (k, e) ∷ []) (f ∷ left)) (taken_before test es k e apart)
    ∙ taken_by (test f.0) f (k, e) es (remove_entry test es)

not_above : (n k : ℕ) → n < k → is_at (nat_cmp n) k ≡ false
not_above n k less = grind (arith, nat_tests)

-- the entries after a new one came behind them and one was taken out
entries_replaced : (es : List (ℕ × Name)) (n k : ℕ) (e : Name) → n < k → AreBelow k (values_of es) → AreApart es
    → remove_entry (is_at (nat_cmp n)) (insert_entry nat_cmp es k e) ≡ remove_entry (is_at (nat_cmp n)) es ++ (k, e) ∷ []
entries_replaced es n k e less below apart =
    ap (remove_entry (is_at (nat_cmp n))) (insert_last es k e below apart) ∙ taken_before (is_at (nat_cmp n)) es k e (not_above n k less)

-- as they are seen then
pub seen_replaced : (es : List (ℕ × Name)) (name : List ℕ) (n k : ℕ) (e : Name) → AreBelow k (values_of es) → AreApart es → IsStrictlySortedBy nat_cmp (keys_of es)
    → option_map (λ (f : Name). f.number) (entry_named (values_of es) name) ≡ Some n
    → values_of (remove_entry (is_at (nat_cmp n)) (insert_entry nat_cmp es k e)) ≡ without_name (values_of es) name ++ e ∷ []
seen_replaced es name n k e below apart rise found =
    ap values_of (entries_replaced es n k e (number_below k n (values_of es) name below found) below apart)
    ∙ values_last (remove_entry (is_at (nat_cmp n)) es) k e
    ∙ ap (λ (left : List Name). left ++ e ∷ []) (seen_taken es name n apart rise found)

-- they stay apart
pub apart_replaced : (es : List (ℕ × Name)) (name : List ℕ) (n k : ℕ) (e : Name) → k ≡ e.number → e.name ≡ name → AreBelow k (values_of es) → AreApart es → IsStrictlySortedBy nat_cmp (keys_of es)
    → option_map (λ (f : Name). f.number) (entry_named (values_of es) name) ≡ Some n
    → AreApart (remove_entry (is_at (nat_cmp n)) (insert_entry nat_cmp es k e))
apart_replaced es name n k e is named below apart rise found =
    let seen : values_of (remove_entry (is_at (nat_cmp n)) es) ≡ without_name (values_of es) name = seen_taken es name n apart rise found in
    let none : entry_named (values_of (remove_entry (is_at (nat_cmp n)) es)) e.name ≡ None = rw (seen, named) (none_without (values_of es) name) in
    rw (entries_replaced es n k e (number_below k n (values_of es) name below found) below apart)
    (apart_last (remove_entry (is_at (nat_cmp n)) es) k e is (apart_taken (is_at (nat_cmp n)) es apart) none)
