-- Edits of a directory in two: of its entries, and of its count. Edits at one handle are one, and at two they may change places.
use Rattle.std.proofs.Common.{◌≡◌, ℕ, ◌+◌, ◌-◌, ◌<◌, List, [], ◌∷◌, refl, sym, ap, ◌∙◌, inl, inr}
use Rattle.std.specs.Prelude.{◌≢◌}
use Rattle.std.proofs.lemmas.Bool.{eq-eqb, ne_eqb}
use Rattle.bx_model.specs.bx_tree_files.specs.declared.file.Body.{Body}
use Rattle.bx_model.specs.bx_tree_files.specs.declared.file.Body.TheVariants.{Bytes, Path, Names}
use Rattle.bx_model.specs.bx_tree_files.specs.declared.file.File.{File}
use Rattle.bx_model.specs.bx_tree_files.specs.Files.{with_changed}
use Rattle.bx_model.specs.bx_tree_files.specs.Names.{with_entry, without_entry}
use Rattle.bx_model.specs.bx_tree_files.specs.Times.{Time}
use Rattle.bx_tree_laws.proofs.Lookups.{SameOr, same_or}

abbrev pub entered : Time → List ℕ → ℕ → File → File
entered now name handle directory = record directory { mtime = now; ctime = now; body = with_entry name handle directory.body }

abbrev pub taken_out : Time → List ℕ → File → File
taken_out now name directory = record directory { mtime = now; ctime = now; body = without_entry name directory.body }

abbrev pub with_subdirectory : File → File
with_subdirectory directory = record directory { nlink = directory.nlink + 1 }

abbrev pub without_subdirectory : File → File
without_subdirectory directory = record directory { nlink = directory.nlink - 1 }

-- a directory has given out more numbers than it has links
abbrev pub LinksBelowNext : ℕ → Body → Type 0
LinksBelowNext nlink (Bytes bytes) = Unit {0}
LinksBelowNext nlink (Path path) = Unit {0}
LinksBelowNext nlink (Names parent next names) = nlink < next

pub changed_twice : (files : List File) (at : ℕ) (first then : File → File) → ((file : File) → (first file).handle ≡ file.handle)
    → with_changed (with_changed files at first) at then ≡ with_changed files at (λ file. then (first file))
changed_twice [] at first then keeps = refl
changed_twice (x ∷ files) at first then keeps = by (same_or x.handle at) (changed_twice files at first then keeps)
  where
    by : SameOr x.handle at → with_changed (with_changed files at first) at then ≡ with_changed files at (λ file. then (first file))
        → with_changed (with_changed (x ∷ files) at first) at then ≡ with_changed (x ∷ files) at (λ file. then (first file))
    by (inl same) later = rw (same.0, eq-eqb (first x).handle at (keeps x ∙ same.1)) (ap (λ (l : List File). then (first x) ∷ l) later)
    by (inr apart) later = rw (apart.0, apart.0) (ap (λ (l : List File). x ∷ l) later)

pub changed_apart : (files : List File) (one other : ℕ) (first then : File → File) → ((file : File) → (first file).handle ≡ file.handle) → ((file : File) → (then file).handle ≡ file.handle) → one ≢ other
    → with_changed (with_changed files one first) other then ≡ with_changed (with_changed files other then) one first
changed_apart [] one other first then keeps stays apart = refl
changed_apart (x ∷ files) one other first then keeps stays apart = by (same_or x.handle one) (same_or x.handle other) (changed_apart files one other first then keeps stays apart)
  where
    by : SameOr x.handle one → SameOr x.handle other → with_changed (with_changed files one first) other then ≡ with_changed (with_changed files other then) one first
        → with_changed (with_changed (x ∷ files) one first) other then ≡ with_changed (with_changed (x ∷ files) other then) one first
    by (inl a) (inl b) later = absurd (apart (sym a.1 ∙ b.1))
    by (inl a) (inr b) later = rw (a.0, ne_eqb (first x).handle other (λ e. b.1 (sym (keeps x) ∙ e)), b.0, a.0) (ap (λ (l : List File). first x ∷ l) later)
    by (inr a) (inl b) later = rw (a.0, b.0, ne_eqb (then x).handle one (λ e. a.1 (sym (stays x) ∙ e))) (ap (λ (l : List File). then x ∷ l) later)
    by (inr a) (inr b) later = rw (a.0, b.0, a.0) (ap (λ (l : List File). x ∷ l) later)
