-- A set of directories as it grows by the files one after the other.
use Rattle.std.proofs.Common.{◌≡◌, ℕ, ◌⊎◌, inl, inr, true, cond, List, Some, None, Option, refl, sym, ap, ◌∙◌, subst}
use Rattle.std.specs.Prelude.{◌≢◌, Contains}
use Rattle.std.specs.BTreeMap.{is_at}
use Rattle.std.specs.BTreeSet.{BTreeSet}
use Rattle.std.specs.Ordering.{nat_cmp}
use Rattle.bx_audit_links.specs.Reached.{AreDirectories, has}
use Rattle.bx_audit_links.proofs.ReachedOnes.{same_test}
use Rattle.bx_model.specs.FileTrees.{is_directory_at, is_directory_in}
use Rattle.bx_tree_files.specs.declared.file.File.{File}
use Rattle.bx_tree_files.specs.Files.{file_at, is_directory}
use Rattle.bx_tree_laws.proofs.Lookups.{SameOr, handle_at, same_or}
use Rattle.bx_tree_laws.proofs.Rises.{Rise, at_contained, contains_at}

-- a handle that was put into a set, or was there
pub put_or_there : (at : ℕ) (old new : BTreeSet ℕ) → ((handle : ℕ) → has new handle ≡ cond (is_at (nat_cmp at) handle) true (has old handle))
    → (handle : ℕ) → has new handle ≡ true → (at ≡ handle) ⊎ (has old handle ≡ true)
put_or_there at old new puts handle is = by (same_or handle at)
  where
    by : SameOr handle at → (at ≡ handle) ⊎ (has old handle ≡ true)
    by (inl same) = inl (sym same.1)
    by (inr other) = inr (sym (puts handle ∙ rw (same_test at handle, other.0) refl) ∙ is)

pub put_here : (at : ℕ) (old new : BTreeSet ℕ) → ((handle : ℕ) → has new handle ≡ cond (is_at (nat_cmp at) handle) true (has old handle)) → has new at ≡ true
put_here at old new puts = by (same_or at at)
  where
    by : SameOr at at → has new at ≡ true
    by (inl same) = puts at ∙ rw (same_test at at, same.0) refl
    by (inr other) = absurd (other.1 refl)

pub stays_put : (at : ℕ) (old new : BTreeSet ℕ) → ((handle : ℕ) → has new handle ≡ cond (is_at (nat_cmp at) handle) true (has old handle)) → (handle : ℕ) → has old handle ≡ true → has new handle ≡ true
stays_put at old new puts handle was = by (same_or handle at)
  where
    by : SameOr handle at → has new handle ≡ true
    by (inl same) = subst (λ (h : ℕ). has new h ≡ true) (sym same.1) (put_here at old new puts)
    by (inr other) = puts handle ∙ rw (same_test at handle, other.0) was

-- a file of a list that rises, by its handle
pub directory_found : (files : List File) (file : File) → Rise files → Contains files file → is_directory file ≡ true → is_directory_at files file.handle ≡ true
directory_found files file rise there is = ap is_directory_in (at_contained files file rise there) ∙ is

some_directory : (files : List File) (handle : ℕ) (found : Option File) → file_at files handle ≡ found → is_directory_in found ≡ true → (file : File) × Contains files file × (file.handle ≡ handle) × (is_directory file ≡ true)
some_directory files handle None is yes_it_is = absurd cc
some_directory files handle (Some file) is yes_it_is = (file, contains_at files handle file is, handle_at files handle file is, yes_it_is)

pub directory_there : (files : List File) (handle : ℕ) → is_directory_at files handle ≡ true → (file : File) × Contains files file × (file.handle ≡ handle) × (is_directory file ≡ true)
directory_there files handle is = some_directory files handle (file_at files handle) refl is

-- all of the files were gone over
pub all_directories : (files : List File) (root : ℕ) (set : BTreeSet ℕ) → ((handle : ℕ) → has set handle ≡ true → (is_directory_at files handle ≡ true) × (handle ≢ root))
    → ((file : File) → Contains files file → is_directory file ≡ true → file.handle ≢ root → has set file.handle ≡ true) → AreDirectories files root set
all_directories files root set each all = record {
  each = each;
  all = λ handle is other. by handle other (directory_there files handle is);
}
  where
    by : (handle : ℕ) → handle ≢ root → (file : File) × Contains files file × (file.handle ≡ handle) × (is_directory file ≡ true) → has set handle ≡ true
    by handle other (file, there, named, is) = subst (λ (h : ℕ). has set h ≡ true) named (all file there is (λ root_is. other (sym named ∙ root_is)))
