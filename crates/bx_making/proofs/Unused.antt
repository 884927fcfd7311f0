-- A handle that names a slot taken anew is unused.
use Rattle.std.proofs.Common.{◌≡◌, ℕ, suc, zero, ◌⊎◌, arith, Bool, true, false, List, [], ◌∷◌, get_or, inl, inr, sym, ap, ◌∙◌, subst, refl, Some, None}
use Rattle.std.specs.Prelude.{◌≢◌, ◌==◌, ◌&&◌, not, if◌then◌else◌, Contains}
use Rattle.std.specs.List.{list_any}
use Rattle.std.proofs.lemmas.Bool.Decides.{nat_tests}
use Rattle.std.proofs.lemmas.List.Elements.{Contains-get_or}
use Rattle.std.proofs.lemmas.List.Folds.{list_any_none}
use Rattle.bx_model.specs.Edits.{is_unused}
use Rattle.bx_model.specs.declared.tree.Tree.{Tree}
use Rattle.bx_tree_files.specs.Attributes.{fileid}
use Rattle.bx_tree_files.specs.declared.file.File.{File}
use Rattle.bx_tree_files.specs.Files.{file_at}
use Rattle.bx_truth.specs.Chunks.{block_at}
use Rattle.bx_truth.proofs.Cases.{eq_false, eq_true, same_or}

-- each file of a list is at its handle, or one before it is
someone_there : (files : List File) (file : File) → Contains files file → file_at files file.handle ≢ None
someone_there [] file within none = omega (arith, within.1)
someone_there (x ∷ files) file (zero, less, is) none =
    let e : Some x ≡ None = sym (ap (λ (t : Bool). if t then Some x else file_at files file.handle) (eq_true x.handle file.handle (ap (λ (f : File). f.handle) is))) ∙ none in absurd cc
someone_there (x ∷ files) file (suc k, less, is) none = by (λ gone. someone_there files file (k, omega (arith, less), is) gone) (same_or x.handle file.handle)
  where
    by : (file_at files file.handle ≡ None → ⊥) → (x.handle ≡ file.handle) ⊎ (x.handle ≢ file.handle) → ⊥
    by rest (inl same) = let e : Some x ≡ None = sym (ap (λ (t : Bool). if t then Some x else file_at files file.handle) (eq_true x.handle file.handle same)) ∙ none in absurd cc
    by rest (inr other) = rest (sym (ap (λ (t : Bool). if t then Some x else file_at files file.handle) (eq_false x.handle file.handle other)) ∙ none)

test_false : (b : Bool) → (b ≡ true → ⊥) → b ≡ false
test_false true never = absurd (never refl)
test_false false never = refl

equal : (a b : ℕ) → (a == b) ≡ true → a ≡ b
equal a b test = grind (arith, nat_tests, test)

all_three : (a b c : Bool) → a ≡ false → b ≡ false → c ≡ false → (not a && not b && not c) ≡ true
all_three false false false x y z = refl
all_three true b c x y z = absurd cc
all_three false true c x y z = absurd cc
all_three false false true x y z = absurd cc

pub unused_is : (tree : Tree) (made : ℕ) → made ≢ 0 → (Contains tree.given made → ⊥) → ((handle : ℕ) → block_at handle ≡ block_at made → file_at tree.files handle ≡ None) → is_unused tree made ≡ true
unused_is tree made some never none =
    all_three (made == 0) (list_any (λ handle. handle == made) tree.given) (list_any (λ file. fileid file.handle == fileid made) tree.files)
    (test_false (made == 0) (λ t. some (equal made 0 t)))
    (list_any_none (λ (handle : ℕ). handle == made) tree.given (λ k d less. test_false (get_or tree.given k d == made) (λ t.
    never (subst (Contains tree.given) (equal (get_or tree.given k d) made t) (Contains-get_or tree.given k d less)))))
    (list_any_none (λ (file : File). fileid file.handle == fileid made) tree.files (λ k d less. test_false (fileid (get_or tree.files k d).handle == fileid made) (λ t.
    let e = equal (fileid (get_or tree.files k d).handle) (fileid made) t in
    someone_there tree.files (get_or tree.files k d) (Contains-get_or tree.files k d less) (none (get_or tree.files k d).handle (omega (arith, e))))))
