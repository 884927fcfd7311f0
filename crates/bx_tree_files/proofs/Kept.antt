-- A map from handles to files, seen as the list of the files.
use Rattle.std.proofs.Common.{◌≡◌, ℕ, subst, Bool, true, false, cond, eqb, ltb, List, [], ◌∷◌, Option, Some, None, refl, sym, ap, ◌∙◌, arith}
use Rattle.std.specs.Prelude.{IfSome, slice_get}
use Rattle.std.specs.Ordering.{is_eq, nat_cmp, match_ordering}
use Rattle.std.specs.List.{All, AllByRecursion}
use Rattle.std.proofs.lemmas.List.Elements.{All-cons, All-nil}
use Rattle.std.specs.List.Sorted.{IsStrictlySortedBy}
use Rattle.std.specs.Map.{keys_of, lookup, remove_entry, set_value, values_of}
use Rattle.std.specs.BTreeMap.{is_at, insert_entry}
use Rattle.std.specs.declared.cmp.Ordering.TheVariants.{Less}
use Rattle.std.proofs.lemmas.Map.Keys.{sorted_head, sorted_tail}
use Rattle.bx_tree_files.specs.Files.{with_changed, without_file, AreAtHandles, IsFile, file_at, with_file}
use Rattle.std.proofs.lemmas.Bool.{eqb-true}
use Rattle.std.proofs.lemmas.Bool.Decides.{nat_tests}
use Rattle.bx_tree_files.specs.declared.file.File.{File}

same_test : (x y : ℕ) → is_eq (nat_cmp x y) ≡ eqb y x
same_test x y = grind (arith, nat_tests)

pub same_choice : {X : Type 0} (x y : ℕ) (a b c : X) → match_ordering (nat_cmp x y) a b c ≡ cond (eqb y x) b (cond (ltb x y) a c)
same_choice x y a b c = grind (arith, nat_tests)

-- the file that a look-up finds
pub file_at-lookup : (handle : ℕ) (es : List (ℕ × File)) → AreAtHandles es → lookup (is_at (nat_cmp handle)) es ≡ file_at (values_of es) handle
file_at-lookup handle [] kept = refl
file_at-lookup handle (e ∷ es) kept =
    rw (same_test handle e.0, kept.0, file_at-lookup handle es kept.2) refl

either : (found : Bool) (file : File) (others : Option File) → IsFile file → IfSome others IsFile → IfSome (cond found (Some file) others) IsFile
either true file others is later = is
either false file others is later = later

-- it is a file
pub IsFile-lookup : (handle : ℕ) (es : List (ℕ × File)) → AreAtHandles es → IfSome (lookup (is_at (nat_cmp handle)) es) IsFile
IsFile-lookup handle [] kept = tt
IsFile-lookup handle (e ∷ es) kept =
    either (is_at (nat_cmp handle) e.0) e.1 (lookup (is_at (nat_cmp handle)) es) kept.1 (IsFile-lookup handle es kept.2)

seen_apart : (same below : Bool) (a b c : List (ℕ × File)) → values_of (cond same b (cond below a c)) ≡ cond same (values_of b) (cond below (values_of a) (values_of c))
seen_apart true below a b c = refl
seen_apart false true a b c = refl
seen_apart false false a b c = refl

-- the files after one more was put in
pub with_file-insert : (file : File) (es : List (ℕ × File)) → AreAtHandles es → values_of (insert_entry nat_cmp es file.handle file) ≡ with_file (values_of es) file
with_file-insert file [] kept = refl
with_file-insert file (e ∷ es) kept =
    let before : List (ℕ × File) = (file.handle, file) ∷ e ∷ es in
    let in_place : List (ℕ × File) = (e.0, file) ∷ es in
    let behind : List (ℕ × File) = e ∷ insert_entry nat_cmp es file.handle file in
    let later = with_file-insert file es kept.2 in
    ap values_of (same_choice file.handle e.0 before in_place behind)
    ∙ seen_apart (eqb e.0 file.handle) (ltb file.handle e.0) before in_place behind
    ∙ rw (kept.0, later) refl

kept_apart : (same below : Bool) (a b c : List (ℕ × File)) → AreAtHandles a → (same ≡ true → AreAtHandles b) → AreAtHandles c → AreAtHandles (cond same b (cond below a c))
kept_apart true below a b c x y z = y refl
kept_apart false true a b c x y z = x
kept_apart false false a b c x y z = z

-- they are kept
pub AreAtHandles-insert : (file : File) (es : List (ℕ × File)) → IsFile file → AreAtHandles es → AreAtHandles (insert_entry nat_cmp es file.handle file)
AreAtHandles-insert file [] is kept = (refl, is, tt)
AreAtHandles-insert file (e ∷ es) is kept =
    let before : List (ℕ × File) = (file.handle, file) ∷ e ∷ es in
    let in_place : List (ℕ × File) = (e.0, file) ∷ es in
    let behind : List (ℕ × File) = e ∷ insert_entry nat_cmp es file.handle file in
    rw (same_choice file.handle e.0 before in_place behind) (
    kept_apart (eqb e.0 file.handle) (ltb file.handle e.0) before in_place behind
    (refl, is, kept)
    (λ same. (eqb-true e.0 file.handle same, is, kept.2))
    (kept.0, kept.1, AreAtHandles-insert file es is kept.2)
    )

-- the first file is a file
pub IsFile-first : (es : List (ℕ × File)) (entry : ℕ × File) → AreAtHandles es → slice_get es 0 ≡ Some entry → IsFile entry.1
IsFile-first [] entry kept first = absurd cc
IsFile-first (e ∷ es) entry kept first =
    let same : e ≡ entry = cc in
    subst (λ (x : ℕ × File). IsFile x.1) same kept.1

-- whether a key is the handle
pub at_handle : (x y : ℕ) → is_at (nat_cmp x) y ≡ eqb y x
at_handle x y = same_test x y

unchanged_above : (handle : ℕ) (change : File → File) (es : List (ℕ × File)) → AreAtHandles es → AllByRecursion (λ y. nat_cmp handle y ≡ Less) (keys_of es)
    → with_changed (values_of es) handle change ≡ values_of es
unchanged_above handle change [] kept above = refl
unchanged_above handle change (e ∷ es) kept above =
    let apart : eqb e.1.handle handle ≡ false = rw (← kept.0) (grind (arith, nat_tests)) in
    rw apart (ap (λ (others : List File). e.1 ∷ others) (unchanged_above handle change es kept.2 above.1))

-- the files as they are seen after one was changed
seen_here : (b : Bool) (handle : ℕ) (change : File → File) (old : File) (e : ℕ × File) (es : List (ℕ × File)) → eqb e.0 handle ≡ b → eqb e.1.handle handle ≡ b → AreAtHandles (e ∷ es)
    → AllByRecursion (λ y. nat_cmp e.0 y ≡ Less) (keys_of es)
    → cond b (Some e.1) (lookup (is_at (nat_cmp handle)) es) ≡ Some old
    → (lookup (is_at (nat_cmp handle)) es ≡ Some old → values_of (set_value (is_at (nat_cmp handle)) es (change old)) ≡ with_changed (values_of es) handle change)
    → values_of (cond b ((e.0, change old) ∷ es) (e ∷ set_value (is_at (nat_cmp handle)) es (change old))) ≡ with_changed (values_of (e ∷ es)) handle change
seen_here true handle change old e es here own kept above found later =
    let same : e.0 ≡ handle = eqb-true e.0 handle here in
    let is : e.1 ≡ old = cc in
    let others : with_changed (values_of es) handle change ≡ values_of es = unchanged_above handle change es kept.2 (subst (λ (k : ℕ). AllByRecursion (λ y. nat_cmp k y ≡ Less) (keys_of es)) same above) in
    rw (own, others) (ap (λ (file : File). change file ∷ values_of es) (sym is))
seen_here false handle change old e es here own kept above found later = rw own (ap (λ (others : List File). e.1 ∷ others) (later found))

pub seen_changed : (handle : ℕ) (change : File → File) (old : File) (es : List (ℕ × File)) → AreAtHandles es → IsStrictlySortedBy nat_cmp (keys_of es)
    → lookup (is_at (nat_cmp handle)) es ≡ Some old → values_of (set_value (is_at (nat_cmp handle)) es (change old)) ≡ with_changed (values_of es) handle change
seen_changed handle change old [] kept rise found = absurd cc
seen_changed handle change old (e ∷ es) kept rise found =
    ap (λ (b : Bool). values_of (cond b ((e.0, change old) ∷ es) (e ∷ set_value (is_at (nat_cmp handle)) es (change old)))) (same_test handle e.0)
    ∙ seen_here (eqb e.0 handle) handle change old e es refl (ap (λ (k : ℕ). eqb k handle) (sym kept.0)) kept (sorted_head nat_cmp e.0 (keys_of es) rise) (rw (same_test handle e.0) at found)
    (seen_changed handle change old es kept.2 (sorted_tail nat_cmp e.0 (keys_of es) rise))

-- what a look-up finds is a file of that handle
found_by : (b : Bool) (handle : ℕ) (e : ℕ × File) (others : Option File) (file : File) → eqb e.0 handle ≡ b → (e.0 ≡ e.1.handle) → IsFile e.1 → cond b (Some e.1) others ≡ Some file
    → (others ≡ Some file → (file.handle ≡ handle) × IsFile file) → (file.handle ≡ handle) × IsFile file
found_by true handle e others file here own is found later =
    let same : e.1 ≡ file = cc in
    let at : e.0 ≡ handle = eqb-true e.0 handle here in
    subst (λ (x : File). (x.handle ≡ handle) × IsFile x) same (cc, is)
found_by false handle e others file here own is found later = later found

pub found_at : (handle : ℕ) (es : List (ℕ × File)) (file : File) → AreAtHandles es → lookup (is_at (nat_cmp handle)) es ≡ Some file → (file.handle ≡ handle) × IsFile file
found_at handle [] file kept found = absurd cc
found_at handle (e ∷ es) file kept found =
    found_by (eqb e.0 handle) handle e (lookup (is_at (nat_cmp handle)) es) file refl kept.0 kept.1 (rw (same_test handle e.0) at found) (found_at handle es file kept.2)

set_by : (b : Bool) (handle : ℕ) (e : ℕ × File) (es others : List (ℕ × File)) (new : File) → eqb e.0 handle ≡ b → new.handle ≡ handle → IsFile new → AreAtHandles (e ∷ es) → AreAtHandles others
    → AreAtHandles (cond b ((e.0, new) ∷ es) (e ∷ others))
set_by true handle e es others new here at is kept later = (eqb-true e.0 handle here ∙ sym at, is, kept.2)
set_by false handle e es others new here at is kept later = (kept.0, kept.1, later)

-- files stand at their handles after one was put in the place of another
pub at_set : (handle : ℕ) (new : File) (es : List (ℕ × File)) → new.handle ≡ handle → IsFile new → AreAtHandles es → AreAtHandles (set_value (is_at (nat_cmp handle)) es new)
at_set handle new [] at is kept = tt
at_set handle new (e ∷ es) at is kept =
    rw (same_test handle e.0)
    (set_by (eqb e.0 handle) handle e es (set_value (is_at (nat_cmp handle)) es new) new refl at is kept (at_set handle new es at is kept.2))

missing_by : (b : Bool) (handle : ℕ) (change : File → File) (e : ℕ × File) (es : List (ℕ × File)) → eqb e.0 handle ≡ b → e.0 ≡ e.1.handle → cond b (Some e.1) (lookup (is_at (nat_cmp handle)) es) ≡ None
    → (lookup (is_at (nat_cmp handle)) es ≡ None → with_changed (values_of es) handle change ≡ values_of es)
    → with_changed (values_of (e ∷ es)) handle change ≡ values_of (e ∷ es)
missing_by true handle change e es here own none later = absurd cc
missing_by false handle change e es here own none later =
    let apart : eqb e.1.handle handle ≡ false = rw (← own) here in
    rw apart (ap (λ (others : List File). e.1 ∷ others) (later none))

-- where no file has the handle, none is changed
pub seen_missing : (handle : ℕ) (change : File → File) (es : List (ℕ × File)) → AreAtHandles es → lookup (is_at (nat_cmp handle)) es ≡ None → with_changed (values_of es) handle change ≡ values_of es
seen_missing handle change [] kept none = refl
seen_missing handle change (e ∷ es) kept none =
    missing_by (eqb e.0 handle) handle change e es refl kept.0 (rw (same_test handle e.0) at none) (seen_missing handle change es kept.2)

at_some : (handle : ℕ) (es : List (ℕ × File)) (found : Option File) → AreAtHandles es → lookup (is_at (nat_cmp handle)) es ≡ found → IfSome found (λ file. file.handle ≡ handle)
at_some handle es None kept is = tt
at_some handle es (Some file) kept is = (found_at handle es file kept is).0

-- what a look-up finds has the handle
pub at_lookup : (handle : ℕ) (es : List (ℕ × File)) → AreAtHandles es → IfSome (lookup (is_at (nat_cmp handle)) es) (λ file. file.handle ≡ handle)
at_lookup handle es kept = at_some handle es (lookup (is_at (nat_cmp handle)) es) kept refl

without_above : (handle : ℕ) (es : List (ℕ × File)) → AreAtHandles es → AllByRecursion (λ y. nat_cmp handle y ≡ Less) (keys_of es) → without_file (values_of es) handle ≡ values_of es
without_above handle [] kept above = refl
without_above handle (e ∷ es) kept above =
    let apart : eqb e.1.handle handle ≡ false = rw (← kept.0) (grind (arith, nat_tests)) in
    rw apart (ap (λ (others : List File). e.1 ∷ others) (without_above handle es kept.2 above.1))

taken_here : (b : Bool) (handle : ℕ) (e : ℕ × File) (es : List (ℕ × File)) → eqb e.0 handle ≡ b → eqb e.1.handle handle ≡ b → AreAtHandles (e ∷ es)
    → AllByRecursion (λ y. nat_cmp e.0 y ≡ Less) (keys_of es)
    → values_of (remove_entry (is_at (nat_cmp handle)) es) ≡ without_file (values_of es) handle
    → values_of (cond b es (e ∷ remove_entry (is_at (nat_cmp handle)) es)) ≡ without_file (values_of (e ∷ es)) handle
taken_here true handle e es here own kept above later =
    let same : e.0 ≡ handle = eqb-true e.0 handle here in
    rw own (sym (without_above handle es kept.2 (subst (λ (k : ℕ). AllByRecursion (λ y. nat_cmp k y ≡ Less) (keys_of es)) same above)))
taken_here false handle e es here own kept above later = rw own (ap (λ (others : List File). e.1 ∷ others) later)

-- the files as they are seen after one was taken out
pub seen_without : (handle : ℕ) (es : List (ℕ × File)) → AreAtHandles es → IsStrictlySortedBy nat_cmp (keys_of es)
    → values_of (remove_entry (is_at (nat_cmp handle)) es) ≡ without_file (values_of es) handle
seen_without handle [] kept rise = refl
seen_without handle (e ∷ es) kept rise =
    ap (λ (b : Bool). values_of (cond b es (e ∷ remove_entry (is_at (nat_cmp handle)) es))) (same_test handle e.0)
    ∙ taken_here (eqb e.0 handle) handle e es refl (ap (λ (k : ℕ). eqb k handle) (sym kept.0)) kept (sorted_head nat_cmp e.0 (keys_of es) rise)
    (seen_without handle es kept.2 (sorted_tail nat_cmp e.0 (keys_of es) rise))

kept_by : (b : Bool) (e : ℕ × File) (es others : List (ℕ × File)) → AreAtHandles (e ∷ es) → AreAtHandles others → AreAtHandles (cond b es (e ∷ others))
kept_by true e es others kept later = kept.2
kept_by false e es others kept later = (kept.0, kept.1, later)

-- they stand at their handles then
pub at_without : (test : ℕ → Bool) (es : List (ℕ × File)) → AreAtHandles es → AreAtHandles (remove_entry test es)
at_without test [] kept = tt
at_without test (e ∷ es) kept = kept_by (test e.0) e es (remove_entry test es) kept (at_without test es kept.2)

-- all of them are files
pub All-files : (es : List (ℕ × File)) → AreAtHandles es → All IsFile (values_of es)
All-files [] kept = All-nil IsFile
All-files (e ∷ es) kept = All-cons IsFile e.1 (values_of es) kept.1 (All-files es kept.2)
