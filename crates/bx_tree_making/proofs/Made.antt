-- Trees with a file that is new.
use Rattle.std.proofs.Common.{◌≡◌, ℕ, Bool, true, false, cond, eqb, ltb, not, ◌&&◌, ◌||◌, List, [], ◌∷◌, Option, Some, None, refl, ap, subst, ◌∙◌, arith}
use Rattle.std.specs.List.{list_any}
use Rattle.std.specs.Prelude.{IsSome}
use Rattle.std.proofs.lemmas.Bool.{eqb-true}
use Rattle.std.proofs.lemmas.Bool.Decides.{nat_tests}
use Rattle.bx_tree_files.specs.declared.file.File.{File}
use Rattle.bx_model.specs.declared.tree.Tree.{Tree}
use Rattle.bx_tree_files.specs.Attributes.{fileid}
use Rattle.bx_tree_files.specs.Files.{without_file, file_at, with_file}
use Rattle.bx_model.specs.Edits.{is_unused, with_new, without_new}
use Rattle.bx_tree_files.specs.Given.{with_handle, without_handle}
use Rattle.bx_tree_files.proofs.GivenOut.{without-with}

same_number : (n : ℕ) → eqb n n ≡ true
same_number n = grind (arith, nat_tests)

or_false : (a b : Bool) → (a || b) ≡ false → (a ≡ false) × (b ≡ false)
or_false true b none = absurd cc
or_false false b none = (refl, none)

and_true : (a b : Bool) → (a && b) ≡ true → (a ≡ true) × (b ≡ true)
and_true true b both = (refl, both)
and_true false b both = absurd cc

not_true : (a : Bool) → not a ≡ true → a ≡ false
not_true true is = absurd cc
not_true false is = refl

id_by : (b : Bool) (handle : ℕ) (file : File) (others : Option File) → eqb file.handle handle ≡ b → eqb (fileid file.handle) (fileid handle) ≡ false → others ≡ None → cond b (Some file) others ≡ None
id_by true handle file others here apart later =
    let same : file.handle ≡ handle = eqb-true file.handle handle here in
    let id : eqb (fileid file.handle) (fileid handle) ≡ true = rw same (same_number (fileid handle)) in
    absurd cc
id_by false handle file others here apart later = later

-- no file has a handle whose fileid is no file's
none_of_id : (handle : ℕ) (files : List File) → list_any (λ file. eqb (fileid file.handle) (fileid handle)) files ≡ false → file_at files handle ≡ None
none_of_id handle [] none = refl
none_of_id handle (file ∷ files) none =
    let apart = or_false (eqb (fileid file.handle) (fileid handle)) (list_any (λ f. eqb (fileid f.handle) (fileid handle)) files) none in
    id_by (eqb file.handle handle) handle file (file_at files handle) refl apart.0 (none_of_id handle files apart.1)

-- an unused handle was never given out, and is no file's
pub unused_given : (tree : Tree) (made : ℕ) → is_unused tree made ≡ true → list_any (λ handle. eqb handle made) tree.given ≡ false
unused_given tree made unused =
    let some = (and_true (not (eqb made 0) && not (list_any (λ handle. eqb handle made) tree.given)) (not (list_any (λ file. eqb (fileid file.handle) (fileid made)) tree.files)) unused).0 in
    not_true (list_any (λ handle. eqb handle made) tree.given) (and_true (not (eqb made 0)) (not (list_any (λ handle. eqb handle made) tree.given)) some).1

pub unused_none : (tree : Tree) (made : ℕ) → is_unused tree made ≡ true → file_at tree.files made ≡ None
unused_none tree made unused =
    none_of_id made tree.files (not_true (list_any (λ file. eqb (fileid file.handle) (fileid made)) tree.files)
    (and_true (not (eqb made 0) && not (list_any (λ handle. eqb handle made) tree.given)) (not (list_any (λ file. eqb (fileid file.handle) (fileid made)) tree.files)) unused).1)

other_by : (same below : Bool) (handle : ℕ) (new file : File) (files others : List File) → eqb file.handle new.handle ≡ same → eqb new.handle handle ≡ false → file_at others handle ≡ file_at files handle
    → file_at (cond same (new ∷ files) (cond below (new ∷ file ∷ files) (file ∷ others))) handle ≡ file_at (file ∷ files) handle
other_by true below handle new file files others here apart later =
    let is : file.handle ≡ new.handle = eqb-true file.handle new.handle here in
    let too : eqb file.handle handle ≡ false = rw is apart in
    rw (apart, too) refl
other_by false true handle new file files others here apart later = rw apart refl
other_by false false handle new file files others here apart later = ap (λ (found : Option File). cond (eqb file.handle handle) (Some file) found) later

-- another file than the new one
pub file_at-other : (files : List File) (new : File) (handle : ℕ) → eqb new.handle handle ≡ false → file_at (with_file files new) handle ≡ file_at files handle
file_at-other [] new handle apart = rw apart refl
file_at-other (file ∷ files) new handle apart =
    other_by (eqb file.handle new.handle) (ltb new.handle file.handle) handle new file files (with_file files new) refl apart (file_at-other files new handle apart)

skipped_file : (b : Bool) (file : File) (rest : Option File) → cond b (Some file) rest ≡ None → (b ≡ false) × (rest ≡ None)
skipped_file true file rest none = absurd cc
skipped_file false file rest none = (refl, none)

without_missing : (files : List File) (handle : ℕ) → file_at files handle ≡ None → without_file files handle ≡ files
without_missing [] handle none = refl
without_missing (file ∷ files) handle none =
    let passed = skipped_file (eqb file.handle handle) file (file_at files handle) none in
    rw passed.0 (ap (λ (others : List File). file ∷ others) (without_missing files handle passed.1))

back_by : (below : Bool) (new file : File) (files others : List File) → eqb file.handle new.handle ≡ false → without_file files new.handle ≡ files → without_file others new.handle ≡ files
    → without_file (cond below (new ∷ file ∷ files) (file ∷ others)) new.handle ≡ file ∷ files
back_by true new file files others apart still later = rw (same_number new.handle, apart) (ap (λ (rest : List File). file ∷ rest) still)
back_by false new file files others apart still later = rw apart (ap (λ (rest : List File). file ∷ rest) later)

back_files : (files : List File) (new : File) → file_at files new.handle ≡ None → without_file (with_file files new) new.handle ≡ files
back_files [] new none = rw (same_number new.handle) refl
back_files (file ∷ files) new none =
    let passed = skipped_file (eqb file.handle new.handle) file (file_at files new.handle) none in
    rw passed.0 (back_by (ltb new.handle file.handle) new file files (with_file files new) passed.0 (without_missing files new.handle passed.1) (back_files files new passed.1))

-- a file that comes and goes leaves the tree as it was
pub back_new : (tree : Tree) (file : File) → is_unused tree file.handle ≡ true → without_new (with_new tree file) file.handle ≡ tree
back_new tree file unused =
    ap (λ (files : List File). record tree { files = files; given = without_handle (with_handle tree.given file.handle) file.handle }) (back_files tree.files file (unused_none tree file.handle unused))
    ∙ ap (λ (given : List ℕ). record tree { given = given }) (without-with file.handle tree.given (unused_given tree file.handle unused))

apart_by : (b : Bool) (files : List File) (made handle : ℕ) → eqb made handle ≡ b → file_at files made ≡ None → IsSome (file_at files handle) → b ≡ false
apart_by false files made handle is none there = refl
apart_by true files made handle is none there =
    let same : made ≡ handle = eqb-true made handle is in
    let gone : file_at files handle ≡ None = subst (λ (k : ℕ). file_at files k ≡ None) same none in
    let is_there = rw gone at there in
    absurd cc

-- a file that is there isn't the new one
pub made_apart : (files : List File) (made handle : ℕ) → file_at files made ≡ None → IsSome (file_at files handle) → eqb made handle ≡ false
made_apart files made handle none there = apart_by (eqb made handle) files made handle refl none there
