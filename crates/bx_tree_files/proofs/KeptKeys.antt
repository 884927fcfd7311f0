-- The keys of a map that has files by their handles.
use Rattle.std.proofs.Common.{◌≡◌, ℕ, ◌||◌, eqb, ltb, Bool, true, false, cond, List, [], ◌∷◌, Some, None, refl, sym, ap, subst, ◌∙◌, arith}
use Rattle.std.specs.BTreeMap.{is_at, insert_entry}
use Rattle.std.specs.List.{AllByRecursion, list_any}
use Rattle.std.specs.List.Sorted.{IsStrictlySortedBy}
use Rattle.std.specs.Map.{keys_of, lookup, remove_entry}
use Rattle.std.specs.Ordering.{nat_cmp}
use Rattle.std.specs.declared.cmp.Ordering.TheVariants.{Less}
use Rattle.std.proofs.lemmas.Bool.{eqb-true}
use Rattle.std.proofs.lemmas.Bool.Decides.{nat_tests}
use Rattle.std.proofs.lemmas.Map.Keys.{sorted_head, sorted_tail}
use Rattle.bx_tree_files.specs.declared.file.File.{File}
use Rattle.bx_tree_files.proofs.Kept.{at_handle, same_choice}

-- whether a handle is a key
abbrev pub has_key : List (ℕ × File) → ℕ → Bool
has_key es handle = list_any (λ key. eqb key handle) (keys_of es)

or_again : (a b : Bool) → (a || b) ≡ (a || (a || b))
or_again true b = refl
or_again false b = refl

or_swapped : (a b c : Bool) → (a || (b || c)) ≡ (b || (a || c))
or_swapped true true c = refl
or_swapped true false c = refl
or_swapped false true c = refl
or_swapped false false c = refl

put_by : (same below : Bool) (e : ℕ × File) (es others : List (ℕ × File)) (k : ℕ) (v : File) (h : ℕ) → eqb e.0 k ≡ same → has_key others h ≡ (eqb k h || has_key es h)
    → has_key (cond same ((e.0, v) ∷ es) (cond below ((k, v) ∷ e ∷ es) (e ∷ others))) h ≡ (eqb k h || (eqb e.0 h || has_key es h))
put_by true below e es others k v h is later =
    or_again (eqb e.0 h) (has_key es h) ∙ ap (λ (key : ℕ). eqb key h || (eqb e.0 h || has_key es h)) (eqb-true e.0 k is)
put_by false true e es others k v h is later = refl
put_by false false e es others k v h is later = ap (λ (left : Bool). eqb e.0 h || left) later ∙ or_swapped (eqb e.0 h) (eqb k h) (has_key es h)

-- the keys after one was put in
pub key_put : (es : List (ℕ × File)) (k : ℕ) (v : File) (h : ℕ) → has_key (insert_entry nat_cmp es k v) h ≡ (eqb k h || has_key es h)
key_put [] k v h = refl
key_put (e ∷ es) k v h =
    ap (λ (entries : List (ℕ × File)). has_key entries h) (same_choice k e.0 ((k, v) ∷ e ∷ es) ((e.0, v) ∷ es) (e ∷ insert_entry nat_cmp es k v))
    ∙ put_by (eqb e.0 k) (ltb k e.0) e es (insert_entry nat_cmp es k v) k v h refl (key_put es k v h)

none_above : (h : ℕ) (es : List (ℕ × File)) → AllByRecursion (λ y. nat_cmp h y ≡ Less) (keys_of es) → has_key es h ≡ false
none_above h [] above = refl
none_above h (e ∷ es) above =
    let apart : eqb e.0 h ≡ false = grind (arith, nat_tests) in
    rw apart (none_above h es above.1)

gone_by : (here same : Bool) (e : ℕ × File) (es left : List (ℕ × File)) (k h : ℕ) → eqb e.0 k ≡ here → eqb k h ≡ same → AllByRecursion (λ y. nat_cmp e.0 y ≡ Less) (keys_of es)
    → has_key left h ≡ cond same false (has_key es h)
    → has_key (cond here es (e ∷ left)) h ≡ cond same false (eqb e.0 h || has_key es h)
gone_by true true e es left k h here same above later =
    let key : e.0 ≡ h = eqb-true e.0 k here ∙ eqb-true k h same in
    none_above h es (subst (λ (x : ℕ). AllByRecursion (λ y. nat_cmp x y ≡ Less) (keys_of es)) key above)
gone_by true false e es left k h here same above later =
    let apart : eqb e.0 h ≡ false = ap (λ (x : ℕ). eqb x h) (eqb-true e.0 k here) ∙ same in
    rw apart refl
gone_by false true e es left k h here same above later =
    let apart : eqb e.0 h ≡ false = ap (λ (x : ℕ). eqb e.0 x) (sym (eqb-true k h same)) ∙ here in
    rw apart later
gone_by false false e es left k h here same above later = ap (λ (rest : Bool). eqb e.0 h || rest) later

-- the keys after one was taken out
pub key_taken : (es : List (ℕ × File)) (k h : ℕ) → IsStrictlySortedBy nat_cmp (keys_of es) → has_key (remove_entry (is_at (nat_cmp k)) es) h ≡ cond (eqb k h) false (has_key es h)
key_taken [] k h rise = by (eqb k h)
  where
    by : (b : Bool) → false ≡ cond b false false
    by true = refl
    by false = refl
key_taken (e ∷ es) k h rise =
    ap (λ (b : Bool). has_key (cond b es (e ∷ remove_entry (is_at (nat_cmp k)) es)) h) (at_handle k e.0)
    ∙ gone_by (eqb e.0 k) (eqb k h) e es (remove_entry (is_at (nat_cmp k)) es) k h refl refl (sorted_head nat_cmp e.0 (keys_of es) rise)
    (key_taken es k h (sorted_tail nat_cmp e.0 (keys_of es) rise))

missing_by : (b : Bool) (e : ℕ × File) (es : List (ℕ × File)) (k : ℕ) → eqb e.0 k ≡ b → cond b (Some e.1) (lookup (is_at (nat_cmp k)) es) ≡ None
    → (lookup (is_at (nat_cmp k)) es ≡ None → has_key es k ≡ false) → (b || has_key es k) ≡ false
missing_by true e es k is none later = absurd cc
missing_by false e es k is none later = later none

-- a handle that isn't found is no key
pub missing : (es : List (ℕ × File)) (k : ℕ) → lookup (is_at (nat_cmp k)) es ≡ None → has_key es k ≡ false
missing [] k none = refl
missing (e ∷ es) k none = missing_by (eqb e.0 k) e es k refl (rw (at_handle k e.0) at none) (missing es k)
