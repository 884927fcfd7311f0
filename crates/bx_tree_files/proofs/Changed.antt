-- Files of a tree after one was changed.
use Rattle.std.proofs.Common.{◌≡◌, ℕ, Bool, true, false, cond, eqb, List, [], ◌∷◌, Option, Some, refl, ap, ◌∙◌, arith}
use Rattle.std.specs.Prelude.{option_map}
use Rattle.std.proofs.lemmas.Bool.{eqb-true}
use Rattle.std.proofs.lemmas.Bool.Decides.{nat_tests}
use Rattle.bx_tree_files.specs.declared.file.File.{File}
use Rattle.bx_tree_files.specs.Files.{with_changed, file_at}

changed_by : (b : Bool) (handle : ℕ) (change : File → File) (file : File) (files others : List File) → eqb file.handle handle ≡ b → (change file).handle ≡ file.handle
    → file_at others handle ≡ option_map change (file_at files handle)
    → file_at (cond b (change file) file ∷ others) handle ≡ option_map change (cond b (Some file) (file_at files handle))
changed_by true handle change file files others here keeps later =
    let still : eqb (change file).handle handle ≡ true = ap (λ (k : ℕ). eqb k handle) keeps ∙ here in
    rw still refl
changed_by false handle change file files others apart keeps later = rw apart later

-- the file that was changed
pub file_at-changed : (files : List File) (handle : ℕ) (change : File → File) → ((file : File) → (change file).handle ≡ file.handle)
    → file_at (with_changed files handle change) handle ≡ option_map change (file_at files handle)
file_at-changed [] handle change keeps = refl
file_at-changed (file ∷ files) handle change keeps =
    changed_by (eqb file.handle handle) handle change file files (with_changed files handle change) refl (keeps file) (file_at-changed files handle change keeps)

other_by : (b : Bool) (handle other : ℕ) (change : File → File) (file : File) (files others : List File) → eqb file.handle handle ≡ b → (change file).handle ≡ file.handle → eqb other handle ≡ false
    → file_at others other ≡ file_at files other
    → file_at (cond b (change file) file ∷ others) other ≡ file_at (file ∷ files) other
other_by true handle other change file files others here keeps apart later =
    let is : file.handle ≡ handle = eqb-true file.handle handle here in
    let not_it : eqb file.handle other ≡ false = grind (arith, nat_tests) in
    let nor_new : eqb (change file).handle other ≡ false = ap (λ (k : ℕ). eqb k other) keeps ∙ not_it in
    rw (nor_new, not_it) later
other_by false handle other change file files others here keeps apart later = ap (λ (found : Option File). cond (eqb file.handle other) (Some file) found) later

-- another file than the one that was changed
pub file_at-unchanged : (files : List File) (handle other : ℕ) (change : File → File) → ((file : File) → (change file).handle ≡ file.handle) → eqb other handle ≡ false
    → file_at (with_changed files handle change) other ≡ file_at files other
file_at-unchanged [] handle other change keeps apart = refl
file_at-unchanged (file ∷ files) handle other change keeps apart =
    other_by (eqb file.handle handle) handle other change file files (with_changed files handle change) refl (keeps file) apart (file_at-unchanged files handle other change keeps apart)

apart_by : (b : Bool) (files : List File) (one other : ℕ) (x y : File) → eqb one other ≡ b → file_at files one ≡ Some x → file_at files other ≡ Some y → (x ≡ y → ⊥) → b ≡ false
apart_by false files one other x y is at_one at_other differ = refl
apart_by true files one other x y is at_one at_other differ =
    let same : one ≡ other = eqb-true one other is in
    let both : x ≡ y = cc in
    absurd (differ both)

-- two files that differ have different handles
pub handles_apart : (files : List File) (one other : ℕ) (x y : File) → file_at files one ≡ Some x → file_at files other ≡ Some y → (x ≡ y → ⊥) → eqb one other ≡ false
handles_apart files one other x y at_one at_other differ = apart_by (eqb one other) files one other x y refl at_one at_other differ
