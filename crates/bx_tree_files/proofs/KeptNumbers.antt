-- The numbers of files, beside the map that has the files by their handles.
use Rattle.std.proofs.Common.{◌≡◌, ℕ, ◌&&◌, ◌||◌, eqb, Bool, true, false, cond, List, [], ◌∷◌, None, refl, sym, ap, subst, ◌∙◌, arith}
use Rattle.std.specs.BTreeMap.{is_at, insert_entry}
use Rattle.std.specs.List.{list_any}
use Rattle.std.specs.List.Sorted.{IsStrictlySortedBy}
use Rattle.std.specs.Map.{keys_of, lookup, remove_entry, values_of}
use Rattle.std.specs.Ordering.{nat_cmp}
use Rattle.std.proofs.lemmas.Bool.{eqb-true}
use Rattle.std.proofs.lemmas.Bool.Decides.{nat_tests}
use Rattle.bx_tree_files.specs.declared.file.File.{File}
use Rattle.bx_tree_files.specs.Attributes.{fileid}
use Rattle.bx_tree_files.specs.Files.{AreAtHandles}
use Rattle.bx_tree_files.proofs.KeptKeys.{has_key, key_put, key_taken, missing}

-- whether a number is that of a handle which is a key
abbrev pub is_kept : List (ℕ × File) → ℕ → ℕ → Bool
is_kept es number handle = eqb (fileid handle) number && has_key es handle

same_number : (n : ℕ) → eqb n n ≡ true
same_number n = grind (arith, nat_tests)

put_here : (a any : Bool) → cond (a && true) true (a && any) ≡ (a && (true || any))
put_here true any = refl
put_here false any = refl

put_there : (a b any : Bool) → cond (a && false) true (b && any) ≡ (b && (false || any))
put_there true b any = refl
put_there false b any = refl

put_choice : (same : Bool) (n k h : ℕ) (any : Bool) → eqb k h ≡ same → cond (eqb (fileid k) n && same) true (eqb (fileid h) n && any) ≡ (eqb (fileid h) n && (same || any))
put_choice true n k h any is = ap (λ (x : ℕ). cond (eqb (fileid x) n && true) true (eqb (fileid h) n && any)) (eqb-true k h is) ∙ put_here (eqb (fileid h) n) any
put_choice false n k h any is = put_there (eqb (fileid k) n) (eqb (fileid h) n) any

-- the numbers after a file was put in
pub kept_put : (es : List (ℕ × File)) (k : ℕ) (v : File) (f g : ℕ → ℕ → Bool) → ((n h : ℕ) → f n h ≡ is_kept es n h)
    → ((n h : ℕ) → g n h ≡ cond (eqb (fileid k) n && eqb k h) true (f n h)) → (n h : ℕ) → g n h ≡ is_kept (insert_entry nat_cmp es k v) n h
kept_put es k v f g was put n h =
    put n h
    ∙ ap (λ (before : Bool). cond (eqb (fileid k) n && eqb k h) true before) (was n h)
    ∙ put_choice (eqb k h) n k h (has_key es h) refl
    ∙ ap (λ (any : Bool). eqb (fileid h) n && any) (sym (key_put es k v h))

take_here : (a any : Bool) → cond (a && true) false (a && any) ≡ (a && false)
take_here true any = refl
take_here false any = refl

take_there : (a b any : Bool) → cond (a && false) false (b && any) ≡ (b && any)
take_there true b any = refl
take_there false b any = refl

take_choice : (same : Bool) (n k h : ℕ) (any : Bool) → eqb k h ≡ same → cond (eqb (fileid k) n && same) false (eqb (fileid h) n && any) ≡ (eqb (fileid h) n && cond same false any)
take_choice true n k h any is = ap (λ (x : ℕ). cond (eqb (fileid x) n && true) false (eqb (fileid h) n && any)) (eqb-true k h is) ∙ take_here (eqb (fileid h) n) any
take_choice false n k h any is = take_there (eqb (fileid k) n) (eqb (fileid h) n) any

-- the numbers after a file was taken out
pub kept_taken : (es : List (ℕ × File)) (k : ℕ) (f g : ℕ → ℕ → Bool) → IsStrictlySortedBy nat_cmp (keys_of es) → ((n h : ℕ) → f n h ≡ is_kept es n h)
    → ((n h : ℕ) → g n h ≡ cond (eqb (fileid k) n && eqb k h) false (f n h)) → (n h : ℕ) → g n h ≡ is_kept (remove_entry (is_at (nat_cmp k)) es) n h
kept_taken es k f g rise was take n h =
    take n h
    ∙ ap (λ (before : Bool). cond (eqb (fileid k) n && eqb k h) false before) (was n h)
    ∙ take_choice (eqb k h) n k h (has_key es h) refl
    ∙ ap (λ (any : Bool). eqb (fileid h) n && any) (sym (key_taken es k h rise))

back_choice : (same : Bool) (n k h : ℕ) (any : Bool) → eqb k h ≡ same → (same ≡ true → any ≡ false)
    → cond (eqb (fileid k) n && same) false (cond (eqb (fileid k) n && same) true (eqb (fileid h) n && any)) ≡ (eqb (fileid h) n && any)
back_choice true n k h any is none =
    ap (λ (b : Bool). cond (eqb (fileid k) n && true) false (cond (eqb (fileid k) n && true) true (eqb (fileid h) n && b))) (none refl)
    ∙ ap (λ (x : ℕ). cond (eqb (fileid x) n && true) false (cond (eqb (fileid x) n && true) true (eqb (fileid h) n && false))) (eqb-true k h is)
    ∙ by (eqb (fileid h) n) ∙ ap (λ (b : Bool). eqb (fileid h) n && b) (sym (none refl))
  where
    by : (b : Bool) → cond (b && true) false (cond (b && true) true (b && false)) ≡ (b && false)
    by true = refl
    by false = refl
back_choice false n k h any is none = by (eqb (fileid k) n) (eqb (fileid h) n && any)
  where
    by : (a b : Bool) → cond (a && false) false (cond (a && false) true b) ≡ b
    by true b = refl
    by false b = refl

-- the numbers after that of a file that isn't there was put in and taken out
pub kept_back : (es : List (ℕ × File)) (k : ℕ) (f g back : ℕ → ℕ → Bool) → lookup (is_at (nat_cmp k)) es ≡ None → ((n h : ℕ) → f n h ≡ is_kept es n h)
    → ((n h : ℕ) → g n h ≡ cond (eqb (fileid k) n && eqb k h) true (f n h)) → ((n h : ℕ) → back n h ≡ cond (eqb (fileid k) n && eqb k h) false (g n h))
    → (n h : ℕ) → back n h ≡ is_kept es n h
kept_back es k f g back none was put take n h =
    take n h
    ∙ ap (λ (before : Bool). cond (eqb (fileid k) n && eqb k h) false before) (put n h ∙ ap (λ (before : Bool). cond (eqb (fileid k) n && eqb k h) true before) (was n h))
    ∙ back_choice (eqb k h) n k h (has_key es h) refl (λ same. subst (λ (x : ℕ). has_key es x ≡ false) (eqb-true k h same) (missing es k none))

found_by : (b : Bool) (e : ℕ × File) (es : List (ℕ × File)) (n h : ℕ) → eqb e.0 h ≡ b → e.0 ≡ e.1.handle → eqb (fileid h) n ≡ true → (b || has_key es h) ≡ true
    → (has_key es h ≡ true → list_any (λ file. eqb (fileid file.handle) n) (values_of es) ≡ true)
    → (eqb (fileid e.1.handle) n || list_any (λ file. eqb (fileid file.handle) n) (values_of es)) ≡ true
found_by true e es n h is own number any later =
    let same : h ≡ e.1.handle = sym (eqb-true e.0 h is) ∙ own in
    let here : eqb (fileid e.1.handle) n ≡ true = subst (λ (x : ℕ). eqb (fileid x) n ≡ true) same number in
    rw here refl
found_by false e es n h is own number any later = or_true (eqb (fileid e.1.handle) n) (list_any (λ file. eqb (fileid file.handle) n) (values_of es)) (later any)
  where
    or_true : (a b : Bool) → b ≡ true → (a || b) ≡ true
    or_true true b is = refl
    or_true false b is = is

-- a number that is kept is a file's
pub number_found : (es : List (ℕ × File)) (n h : ℕ) → AreAtHandles es → eqb (fileid h) n ≡ true → has_key es h ≡ true → list_any (λ file. eqb (fileid file.handle) n) (values_of es) ≡ true
number_found [] n h at number any = absurd cc
number_found (e ∷ es) n h at number any = found_by (eqb e.0 h) e es n h refl at.0 number any (number_found es n h at.2 number)

kept_by : (b : Bool) (e : ℕ × File) (es : List (ℕ × File)) (n : ℕ) → eqb (fileid e.1.handle) n ≡ b → e.0 ≡ e.1.handle
    → (b || list_any (λ file. eqb (fileid file.handle) n) (values_of es)) ≡ true
    → (list_any (λ file. eqb (fileid file.handle) n) (values_of es) ≡ true → (h : ℕ) × (eqb (fileid h) n ≡ true) × (has_key es h ≡ true))
    → (h : ℕ) × (eqb (fileid h) n ≡ true) × ((eqb e.0 h || has_key es h) ≡ true)
kept_by true e es n is own any later =
    let key : eqb e.0 e.1.handle ≡ true = rw own (same_number e.1.handle) in
    (e.1.handle, is, rw key refl)
kept_by false e es n is own any later =
    let h = later any in
    (h.0, h.1, or_true (eqb e.0 h.0) (has_key es h.0) h.2)
  where
    or_true : (a b : Bool) → b ≡ true → (a || b) ≡ true
    or_true true b is = refl
    or_true false b is = is

-- a file's number is kept
pub number_kept : (es : List (ℕ × File)) (n : ℕ) → AreAtHandles es → list_any (λ file. eqb (fileid file.handle) n) (values_of es) ≡ true
    → (h : ℕ) × (eqb (fileid h) n ≡ true) × (has_key es h ≡ true)
number_kept [] n at any = absurd cc
number_kept (e ∷ es) n at any = kept_by (eqb (fileid e.1.handle) n) e es n refl at.0 any (number_kept es n at.2)
