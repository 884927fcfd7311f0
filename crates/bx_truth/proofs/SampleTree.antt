-- The tree of the sample volume is a file tree.
use Rattle.std.proofs.Common.{◌≡◌, ℕ, zero, suc, ◌<◌, ◌≤◌, ◌⊎◌, inl, inr, arith, true, List, [], ◌∷◌, sym, subst, refl, Some}
use Rattle.std.specs.Prelude.{◌≢◌, ◌==◌, if◌then◌else◌, Contains, slice_index_or}
use Rattle.bx_model.specs.bx_tree_files.specs.declared.file.Body.TheVariants.{Bytes, Names}
use Rattle.bx_model.specs.bx_tree_files.specs.declared.file.File.{File}
use Rattle.bx_model.specs.bx_tree_files.specs.declared.file.Name.{Name}
use Rattle.bx_model.specs.bx_tree_files.specs.Files.{IsFile, file_at, is_directory}
use Rattle.bx_model.specs.FileTrees.{IsFileTree, IsEntryOf, AreEntriesOf, HasEntries, HasLinks, links_to}
use Rattle.bx_truth.specs.Sample.{nth, content, in_root, in_directory, root_file, directory_file, regular_file, sample_tree}
use Rattle.bx_truth.proofs.SampleBytes.{content_long}
use Rattle.bx_truth.proofs.SampleOwners.{the_files}
use Rattle.bx_truth.proofs.SampleFiles.{file_cases, handles_rise}

-- what holds of each of the three holds of what has a handle
each : (P : ℕ → File → Type 0) → P (nth 0) root_file → P (nth 2) directory_file → P (nth 4) regular_file → (handle : ℕ) (file : File) → file_at the_files handle ≡ Some file → P handle file
each P root directory regular handle file is = by (file_cases handle file is)
  where
    at : (slot : ℕ) (one : File) → (handle ≡ nth slot) × (file ≡ one) → P (nth slot) one → P handle file
    at slot one same holds = subst (λ (h : ℕ). P h file) (sym same.0) (subst (P (nth slot)) (sym same.1) holds)

    by : ((handle ≡ nth 0) × (file ≡ root_file)) ⊎ (((handle ≡ nth 2) × (file ≡ directory_file)) ⊎ ((handle ≡ nth 4) × (file ≡ regular_file))) → P handle file
    by (inl same) = at 0 root_file same root
    by (inr (inl same)) = at 2 directory_file same directory
    by (inr (inr same)) = at 4 regular_file same regular

root_is : IsFile root_file
root_is = record { kind = refl; mode = omega arith; size = omega arith; numbers = (omega arith, (omega arith, tt)) }

directory_is : IsFile directory_file
directory_is = record { kind = refl; mode = omega arith; size = omega arith; numbers = (omega arith, (omega arith, tt)) }

regular_is : IsFile regular_file
regular_is = record { kind = refl; mode = omega arith; size = omega (arith, content_long); numbers = tt }

files_are : (file : File) (k : ℕ) → k < 3 → slice_index_or the_files k file ≡ file → IsFile file
files_are file zero less is = subst IsFile is root_is
files_are file (suc zero) less is = subst IsFile is directory_is
files_are file (suc (suc zero)) less is = subst IsFile is regular_is
files_are file (suc (suc (suc k))) less is = absurd (omega (arith, less))

-- the entries of a directory that has one
one_entry : (handle : ℕ) (name : Name) → IsEntryOf the_files handle 4 name → AreEntriesOf the_files handle 4 (name ∷ [])
one_entry handle name is = record {
  each = λ entry within. by entry within.0 within.1 within.2;
  rise = λ i j d less within. absurd (omega (arith, less, within));
  apart = λ i j d less within. absurd (omega (arith, less, within));
}
  where
    by : (entry : Name) (k : ℕ) → k < 1 → slice_index_or (name ∷ []) k entry ≡ entry → IsEntryOf the_files handle 4 entry
    by entry zero less same = subst (IsEntryOf the_files handle 4) same is
    by entry (suc k) less same = absurd (omega (arith, less))

one_parent : (a b m n : ℕ) (xs ys : List Name) → Names a m xs ≡ Names b n ys → b ≡ a
one_parent a b m n xs ys same = let e : a ≡ b = cc in sym e

no_parent : (bytes : List ℕ) (b n : ℕ) (ys : List Name) → Bytes bytes ≡ Names b n ys → ⊥
no_parent bytes b n ys same = absurd cc

abbrev the_depth : ℕ → ℕ
the_depth handle = if handle == 1 then 0 else 1

nearer_by : (handle : ℕ) (file : File) → file_at the_files handle ≡ Some file → (parent next : ℕ) (names : List Name) → file.body ≡ Names parent next names → handle ≢ nth 0 → the_depth parent < the_depth handle
nearer_by handle file is = each (λ h f. (parent next : ℕ) (names : List Name) → f.body ≡ Names parent next names → h ≢ nth 0 → the_depth parent < the_depth h)
    (λ parent next names body other. absurd (other refl))
    (λ parent next names body other. subst (λ (p : ℕ). the_depth p < 1) (sym (one_parent 1 parent 4 next (in_directory ∷ []) names body)) (omega arith))
    (λ parent next names body other. absurd (no_parent content parent next names body))
    handle file is

pub sample_tree_is : (volume : ℕ) → IsFileTree (sample_tree volume)
sample_tree_is volume = record {
  rise = handles_rise;
  is_file = λ file within. files_are file within.0 within.1 within.2;
  root = (root_file, 4, in_root ∷ [], refl, refl);
  entries = λ handle file is. each (λ h f. HasEntries the_files h f.body)
      (one_entry (nth 0) in_root record { least = omega arith; number = omega arith; name = refl; file = directory_file; there = refl; parent = λ parent others names body. one_parent 1 parent 4 others (in_directory ∷ []) names body })
      (one_entry (nth 2) in_directory record { least = omega arith; number = omega arith; name = refl; file = regular_file; there = refl; parent = λ parent others names body. absurd (no_parent content parent others names body) })
      tt handle file is;
  links = λ handle file is. each (λ h f. HasLinks the_files f f.body) refl refl refl handle file is;
  named = λ handle file is other. each (λ h f. h ≢ nth 0 → 1 ≤ links_to the_files h) (λ apart. absurd (apart refl)) (λ apart. omega arith) (λ apart. omega arith) handle file is other;
  once = λ handle file is directory. each (λ h f. is_directory f ≡ true → links_to the_files h ≤ 1) (λ d. omega arith) (λ d. omega arith) (λ d. omega arith) handle file is directory;
  root_unnamed = refl;
  depth = the_depth;
  nearer = λ handle file parent next names is body other. nearer_by handle file is parent next names body other;
  was_given = λ handle file is. each (λ h f. Contains (nth 0 ∷ nth 2 ∷ nth 4 ∷ nth 10 ∷ []) h) (0, omega arith, refl) (1, omega arith, refl) (2, omega arith, refl) handle file is;
}
