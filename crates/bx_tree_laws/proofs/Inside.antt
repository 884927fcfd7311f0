-- How many directories are in one, after an edit.
use Rattle.std.proofs.Common.{◌≡◌, ℕ, ◌+◌, arith, Bool, true, false, List, [], ◌∷◌, Some, None, Option, refl, ap, ◌∙◌}
use Rattle.std.specs.Prelude.{◌≢◌, ◌==◌, if◌then◌else◌, Contains, count_by, option_map}
use Rattle.std.proofs.lemmas.List.Sums.{sum_by-append}
use Rattle.bx_model.specs.bx_tree_files.specs.declared.file.Body.{Body}
use Rattle.bx_model.specs.bx_tree_files.specs.declared.file.File.{File}
use Rattle.bx_model.specs.bx_tree_files.specs.declared.file.Name.{Name}
use Rattle.bx_model.specs.bx_tree_files.specs.Files.{with_changed, file_at}
use Rattle.bx_model.specs.FileTrees.{is_directory_at, is_directory_in}
use Rattle.bx_model.specs.bx_tree_files.specs.Names.{names_of, with_entry}
use Rattle.bx_model.specs.bx_tree_files.specs.Times.{Time}
use Rattle.bx_tree_laws.proofs.Counts.{count_same}
use Rattle.bx_tree_laws.proofs.Entries.{Apart, count_others}
use Rattle.bx_tree_laws.proofs.Links.{one_if, IsNames, names_without}
use Rattle.bx_tree_laws.proofs.Lookups.{file_at-changed, changed_here, changed_other}
use Rattle.bx_model.specs.bx_tree_files.specs.Entries.{entry_named}
use Rattle.bx_tree_laws.proofs.Halves.{entered, taken_out}

abbrev pub names_in : Option File → List Name
names_in None = []
names_in (Some file) = names_of file.body

abbrev pub names_at : List File → ℕ → List Name
names_at files handle = names_in (file_at files handle)

-- how many entries of a directory name directories
abbrev pub inside : List File → ℕ → ℕ
inside files handle = count_by (λ entry. is_directory_at files entry.handle) (names_at files handle)

-- ---- which are directories

pub directory_changed : (files : List File) (at : ℕ) (change : File → File) (handle : ℕ) → ((file : File) → (change file).handle ≡ file.handle) → ((file : File) → (change file).kind ≡ file.kind)
    → is_directory_at (with_changed files at change) handle ≡ is_directory_at files handle
directory_changed files at change handle keeps same = ap is_directory_in (file_at-changed files at change handle keeps) ∙ by (at == handle) (file_at files handle)
  where
    by : (b : Bool) (found : Option File) → is_directory_in (if b then option_map change found else found) ≡ is_directory_in found
    by true None = refl
    by true (Some file) = ap (λ (n : ℕ). n == 2) (same file)
    by false found = refl

-- ---- how many are inside

pub inside_same : (files now : List File) (handle : ℕ) → names_at now handle ≡ names_at files handle
    → ((entry : Name) → Contains (names_at files handle) entry → is_directory_at now entry.handle ≡ is_directory_at files entry.handle) → inside now handle ≡ inside files handle
inside_same files now handle names agree =
    ap (λ (l : List Name). count_by (λ (entry : Name). is_directory_at now entry.handle) l) names
    ∙ count_same (λ entry. is_directory_at now entry.handle) (λ entry. is_directory_at files entry.handle) (names_at files handle) agree

module _ (files : List File) (at : ℕ) (change : File → File) (keeps : (file : File) → (change file).handle ≡ file.handle) (kinds : (file : File) → (change file).kind ≡ file.kind) where
  agree : (entry : Name) → is_directory_at (with_changed files at change) entry.handle ≡ is_directory_at files entry.handle
  agree entry = directory_changed files at change entry.handle keeps kinds

  -- a change of something else
  pub inside_kept : ((file : File) → names_of (change file).body ≡ names_of file.body) → (handle : ℕ) → inside (with_changed files at change) handle ≡ inside files handle
  inside_kept same handle =
      inside_same files (with_changed files at change) handle (ap names_in (file_at-changed files at change handle keeps) ∙ by (at == handle) (file_at files handle)) (λ entry there. agree entry)
    where
      by : (b : Bool) (found : Option File) → names_in (if b then option_map change found else found) ≡ names_in found
      by true None = refl
      by true (Some file) = same file
      by false found = refl

  -- at another handle
  pub inside_other : (handle : ℕ) → at ≢ handle → inside (with_changed files at change) handle ≡ inside files handle
  inside_other handle other = inside_same files (with_changed files at change) handle (ap names_in (changed_other files at change handle keeps other)) (λ entry there. agree entry)

  pub inside_here : (file : File) → file_at files at ≡ Some file → inside (with_changed files at change) at ≡ count_by (λ entry. is_directory_at files entry.handle) (names_of (change file).body)
  inside_here file is =
      ap (λ (found : Option File). count_by (λ (entry : Name). is_directory_at (with_changed files at change) entry.handle) (names_in found)) (changed_here files at change file keeps is)
      ∙ count_same (λ entry. is_directory_at (with_changed files at change) entry.handle) (λ entry. is_directory_at files entry.handle) (names_of (change file).body) (λ entry there. agree entry)

pub inside_taken : (files : List File) (at : ℕ) (now : Time) (name : List ℕ) (file : File) (entry : Name) → file_at files at ≡ Some file → Apart (names_of file.body)
    → entry_named (names_of file.body) name ≡ Some entry → inside (with_changed files at (taken_out now name)) at + one_if (is_directory_at files entry.handle) ≡ inside files at
inside_taken files at now name file entry is apart found =
    let here = inside_here files at (taken_out now name) (λ f. refl) (λ f. refl) file is in
    let rest = count_others (λ (e : Name). is_directory_at files e.handle) (names_of file.body) name entry apart found in
    let names = ap (λ (l : List Name). count_by (λ (e : Name). is_directory_at files e.handle) l) (names_without name file.body) in
    let before = ap (λ (o : Option File). count_by (λ (e : Name). is_directory_at files e.handle) (names_in o)) is in
    omega (arith, here, rest, names, before)

pub inside_entered : (files : List File) (at : ℕ) (now : Time) (name : List ℕ) (to : ℕ) (file : File) → file_at files at ≡ Some file → IsNames file.body
    → inside (with_changed files at (entered now name to)) at ≡ inside files at + one_if (is_directory_at files to)
inside_entered files at now name to file is body =
    let here = inside_here files at (entered now name to) (λ f. refl) (λ f. refl) file is in
    let new : Name = record { number = body.next; name = name; handle = to } in
    let before = ap (λ (o : Option File). count_by (λ (e : Name). is_directory_at files e.handle) (names_in o)) is in
    let was = ap (λ (b : Body). count_by (λ (e : Name). is_directory_at files e.handle) (names_of b)) body.is in
    let behind = ap (λ (b : Body). count_by (λ (e : Name). is_directory_at files e.handle) (names_of (with_entry name to b))) body.is in
    let more = sum_by-append (λ (e : Name). one_if (is_directory_at files e.handle)) body.names (new ∷ []) in
    omega (arith, here, before, was, behind, more)
