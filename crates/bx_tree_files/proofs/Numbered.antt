-- The numbers of a directory's entries, as an index has them.
use Rattle.std.proofs.Common.{◌≡◌, ℕ, Bool, true, false, cond, not, List, [], ◌∷◌, ◌++◌, Option, Some, None, refl, sym, ap, subst, ◌∙◌}
use Rattle.std.specs.Prelude.{option_map, bytes_eq}
use Rattle.std.specs.BTreeMap.{is_at, insert_entry}
use Rattle.std.specs.List.Sorted.{IsStrictlySortedBy}
use Rattle.std.specs.Map.{keys_of, lookup, remove_entry, values_of}
use Rattle.std.specs.Ordering.{nat_cmp}
use Rattle.std.specs.declared.cmp.Ordering.TheVariants.{Less}
use Rattle.std.proofs.lemmas.Map.Keys.{sorted_head, sorted_tail}
use Rattle.std.proofs.lemmas.Slice.Eq.{bytes_eq-Decides}
use Rattle.bx_tree_files.specs.declared.file.Name.{Name}
use Rattle.bx_tree_files.specs.Entries.{AreApart, AreBelow, entry_named, without_name}
use Rattle.bx_tree_files.proofs.Named.{at_itself, not_at, number_behind, seen_last, seen_taken}
use Rattle.bx_tree_files.proofs.Replacing.{none_without, seen_replaced}

abbrev pub num : Option Name → Option ℕ
num found = option_map (λ entry. entry.number) found

-- a name that is one of two that differ isn't the other
apart_from : (xs ys zs : List ℕ) → bytes_eq xs ys ≡ true → bytes_eq xs zs ≡ false → bytes_eq zs ys ≡ false
apart_from xs ys zs same differ = by (bytes_eq zs ys) refl
  where
    by : (b : Bool) → bytes_eq zs ys ≡ b → b ≡ false
    by false is = refl
    by true is =
        let one : xs ≡ ys = (bytes_eq-Decides xs ys).0 same in
        let other : zs ≡ ys = (bytes_eq-Decides zs ys).0 is in
        let equal : bytes_eq xs zs ≡ true = (bytes_eq-Decides xs zs).1 (one ∙ sym other) in
        absurd cc

passed : (b : Bool) (e : Name) (rest : Option Name) → cond b (Some e) rest ≡ None → (b ≡ false) × (rest ≡ None)
passed true e rest none = absurd cc
passed false e rest none = (refl, none)

last_by : (here : Bool) (f e : Name) (name : List ℕ) (found others : Option Name) → bytes_eq f.name name ≡ here → bytes_eq f.name e.name ≡ false
    → num others ≡ cond (bytes_eq e.name name) (Some e.number) (num found)
    → num (cond here (Some f) others) ≡ cond (bytes_eq e.name name) (Some e.number) (num (cond here (Some f) found))
last_by true f e name found others here differ later = rw (apart_from f.name name e.name here differ) refl
last_by false f e name found others here differ later = later

-- the numbers after one entry more came behind the others
pub number_last : (es : List Name) (e : Name) (name : List ℕ) → entry_named es e.name ≡ None
    → num (entry_named (es ++ e ∷ []) name) ≡ cond (bytes_eq e.name name) (Some e.number) (num (entry_named es name))
number_last [] e name none = by (bytes_eq e.name name)
  where
    by : (b : Bool) → num (cond b (Some e) None) ≡ cond b (Some e.number) None
    by true = refl
    by false = refl
number_last (f ∷ es) e name none =
    let not_first = passed (bytes_eq f.name e.name) f (entry_named es e.name) none in
    last_by (bytes_eq f.name name) f e name (entry_named es name) (entry_named (es ++ e ∷ []) name) refl not_first.0 (number_last es e name not_first.1)

out_by : (out here : Bool) (e : Name) (gone name : List ℕ) (left : List Name) (found : Option Name) → bytes_eq e.name gone ≡ out → bytes_eq e.name name ≡ here
    → num (entry_named left name) ≡ cond (bytes_eq gone name) None (num found)
    → num (entry_named (cond (not out) (e ∷ left) left) name) ≡ cond (bytes_eq gone name) None (num (cond here (Some e) found))
out_by true true e gone name left found out here later =
    let one : e.name ≡ gone = (bytes_eq-Decides e.name gone).0 out in
    let other : e.name ≡ name = (bytes_eq-Decides e.name name).0 here in
    let same : bytes_eq gone name ≡ true = (bytes_eq-Decides gone name).1 (sym one ∙ other) in
    rw same (rw same at later)
out_by true false e gone name left found out here later = later
out_by false true e gone name left found out here later = rw (here, apart_from e.name name gone here out) refl
out_by false false e gone name left found out here later = rw here later

-- the numbers after the entry of a name was taken out
pub number_without : (es : List Name) (gone name : List ℕ) → num (entry_named (without_name es gone) name) ≡ cond (bytes_eq gone name) None (num (entry_named es name))
number_without [] gone name = by (bytes_eq gone name)
  where
    by : (b : Bool) → None ≡ cond b None (num None)
    by true = refl
    by false = refl
number_without (e ∷ es) gone name =
    out_by (bytes_eq e.name gone) (bytes_eq e.name name) e gone name (without_name es gone) (entry_named es name) refl refl (number_without es gone name)

there_by : (here : Bool) (f : ℕ × Name) (e : Name) (others rest : Option Name) → f.0 ≡ f.1.number → cond here (Some f.1) others ≡ Some e
    → (others ≡ Some e → nat_cmp f.0 e.number ≡ Less) → (others ≡ Some e → rest ≡ Some e)
    → cond (is_at (nat_cmp e.number) f.0) (Some f.1) rest ≡ Some e
there_by true f e others rest own found less later =
    let first : f.1 ≡ e = cc in
    let key : f.0 ≡ e.number = own ∙ ap (λ (x : Name). x.number) first in
    let here : is_at (nat_cmp e.number) f.0 ≡ true = subst (λ (x : ℕ). is_at (nat_cmp e.number) x ≡ true) (sym key) (at_itself e.number) in
    rw here (ap (λ (x : Name). Some x) first)
there_by false f e others rest own found less later = rw (not_at f.0 e.number (less found)) (later found)

-- an entry with a name stands at its number
there : (es : List (ℕ × Name)) (name : List ℕ) (e : Name) → AreApart es → IsStrictlySortedBy nat_cmp (keys_of es) → entry_named (values_of es) name ≡ Some e
    → lookup (is_at (nat_cmp e.number)) es ≡ Some e
there [] name e apart rise found = absurd cc
there (f ∷ es) name e apart rise found =
    there_by (bytes_eq f.1.name name) f e (entry_named (values_of es) name) (lookup (is_at (nat_cmp e.number)) es) apart.0 found
    (λ is. number_behind f.0 e.number es name (sorted_head nat_cmp f.0 (keys_of es) rise) apart.2 (ap num is))
    (there es name e apart.2 (sorted_tail nat_cmp f.0 (keys_of es) rise))

-- the entry at the number of a name is the one with the name
pub at_number : (es : List (ℕ × Name)) (name : List ℕ) (n : ℕ) → AreApart es → IsStrictlySortedBy nat_cmp (keys_of es) → Some n ≡ num (entry_named (values_of es) name)
    → lookup (is_at (nat_cmp n)) es ≡ entry_named (values_of es) name
at_number es name n apart rise has = by (entry_named (values_of es) name) refl has
  where
    by : (found : Option Name) → entry_named (values_of es) name ≡ found → Some n ≡ num found → lookup (is_at (nat_cmp n)) es ≡ found
    by None is has = absurd cc
    by (Some e) is has =
        let same : n ≡ e.number = cc in
        rw same (there es name e apart rise is)

-- an index that had the numbers has them after an entry came behind the others
pub pushed : (es : List (ℕ × Name)) (e : Name) (given : List ℕ) (f g : List ℕ → Option ℕ) → e.name ≡ given → AreBelow e.number (values_of es) → AreApart es
    → entry_named (values_of es) e.name ≡ None → ((name : List ℕ) → f name ≡ num (entry_named (values_of es) name))
    → ((name : List ℕ) → g name ≡ cond (bytes_eq given name) (Some e.number) (f name))
    → (name : List ℕ) → g name ≡ num (entry_named (values_of (insert_entry nat_cmp es e.number e)) name)
pushed es e given f g named below apart none was put name =
    put name
    ∙ ap (λ (bytes : List ℕ). cond (bytes_eq bytes name) (Some e.number) (f name)) (sym named)
    ∙ ap (λ (found : Option ℕ). cond (bytes_eq e.name name) (Some e.number) found) (was name)
    ∙ sym (number_last (values_of es) e name none)
    ∙ ap (λ (names : List Name). num (entry_named names name)) (sym (seen_last es e.number e below apart))

-- after the entry of a name was taken out
pub taken : (es : List (ℕ × Name)) (gone : List ℕ) (n : ℕ) (f g : List ℕ → Option ℕ) → AreApart es → IsStrictlySortedBy nat_cmp (keys_of es)
    → num (entry_named (values_of es) gone) ≡ Some n → ((name : List ℕ) → f name ≡ num (entry_named (values_of es) name))
    → ((name : List ℕ) → g name ≡ cond (bytes_eq gone name) None (f name))
    → (name : List ℕ) → g name ≡ num (entry_named (values_of (remove_entry (is_at (nat_cmp n)) es)) name)
taken es gone n f g apart rise found was take name =
    take name
    ∙ ap (λ (left : Option ℕ). cond (bytes_eq gone name) None left) (was name)
    ∙ sym (number_without (values_of es) gone name)
    ∙ ap (λ (names : List Name). num (entry_named names name)) (sym (seen_taken es gone n apart rise found))

twice : (b : Bool) (x y : Option ℕ) → cond b x (cond b None y) ≡ cond b x y
twice true x y = refl
twice false x y = refl

-- after one took the place of another
pub exchanged : (es : List (ℕ × Name)) (e : Name) (given : List ℕ) (n : ℕ) (f g : List ℕ → Option ℕ) → e.name ≡ given → AreBelow e.number (values_of es) → AreApart es
    → IsStrictlySortedBy nat_cmp (keys_of es) → num (entry_named (values_of es) given) ≡ Some n → ((name : List ℕ) → f name ≡ num (entry_named (values_of es) name))
    → ((name : List ℕ) → g name ≡ cond (bytes_eq given name) (Some e.number) (f name))
    → (name : List ℕ) → g name ≡ num (entry_named (values_of (remove_entry (is_at (nat_cmp n)) (insert_entry nat_cmp es e.number e))) name)
exchanged es e given n f g named below apart rise found was change name =
    let none : entry_named (without_name (values_of es) given) e.name ≡ None = rw named (none_without (values_of es) given) in
    change name
    ∙ ap (λ (left : Option ℕ). cond (bytes_eq given name) (Some e.number) left) (was name)
    ∙ sym (twice (bytes_eq given name) (Some e.number) (num (entry_named (values_of es) name)))
    ∙ ap (λ (left : Option ℕ). cond (bytes_eq given name) (Some e.number) left) (sym (number_without (values_of es) given name))
    ∙ ap (λ (bytes : List ℕ). cond (bytes_eq bytes name) (Some e.number) (num (entry_named (without_name (values_of es) given) name))) (sym named)
    ∙ sym (number_last (without_name (values_of es) given) e name none)
    ∙ ap (λ (names : List Name). num (entry_named names name)) (sym (seen_replaced es given n e.number e below apart rise found))
