-- How many entries name a handle, after an edit.
use Rattle.std.proofs.Common.{◌≡◌, ℕ, ◌+◌, ◌≤◌, arith, Bool, cond, List, [], ◌∷◌, Some, None, refl, ap}
use Rattle.std.specs.Prelude.{◌==◌, Contains, count_by}
use Rattle.std.proofs.lemmas.Bool.{eq-eqb}
use Rattle.std.proofs.lemmas.Bool.Decides.{nat_tests}
use Rattle.std.proofs.lemmas.List.Sums.{sum_by-append}
use Rattle.bx_model.specs.bx_tree_files.specs.declared.file.Body.{Body}
use Rattle.bx_model.specs.bx_tree_files.specs.declared.file.Body.TheVariants.{Bytes, Path, Names}
use Rattle.bx_model.specs.bx_tree_files.specs.declared.file.File.{File}
use Rattle.bx_model.specs.bx_tree_files.specs.declared.file.Name.{Name}
use Rattle.bx_model.specs.bx_tree_files.specs.Files.{with_changed, without_file, file_at, with_file}
use Rattle.bx_model.specs.FileTrees.{links_to}
use Rattle.bx_model.specs.bx_tree_files.specs.Names.{names_of, with_entry, without_entry}
use Rattle.bx_model.specs.bx_tree_files.specs.Times.{Time}
use Rattle.bx_tree_laws.proofs.Counts.{some_counted, counted, sum_changed, sum_without, sum_with, sum_kept}
use Rattle.bx_tree_laws.proofs.Entries.{Apart, others, count_others}
use Rattle.bx_tree_laws.proofs.Rises.{Rise, at_contained, contains_at}
use Rattle.bx_model.specs.bx_tree_files.specs.Entries.{entry_named}
use Rattle.bx_tree_laws.proofs.Halves.{entered, taken_out}

-- 1 where a test holds
abbrev pub one_if : Bool → ℕ
one_if test = cond test 1 0

-- what a body is that a directory has
pub record IsNames (body : Body) : Type 0 where
  pub parent : ℕ
  pub next : ℕ
  pub names : List Name
  pub is : body ≡ Names parent next names

pub names_without : (name : List ℕ) (body : Body) → names_of (without_entry name body) ≡ others name (names_of body)
names_without name (Bytes bytes) = refl
names_without name (Path path) = refl
names_without name (Names parent next names) = refl

abbrev pub count_of : ℕ → File → ℕ
count_of handle file = count_by (λ entry. entry.handle == handle) (names_of file.body)

pub links_kept : (files : List File) (at : ℕ) (change : File → File) (handle : ℕ) → ((file : File) → names_of (change file).body ≡ names_of file.body)
    → links_to (with_changed files at change) handle ≡ links_to files handle
links_kept files at change handle same =
    sum_kept (count_of handle) files at change (λ file. ap (λ (names : List Name). count_by (λ (entry : Name). entry.handle == handle) names) (same file))

pub links_taken : (files : List File) (at : ℕ) (now : Time) (name : List ℕ) (file : File) (entry : Name) (handle : ℕ) → Rise files → file_at files at ≡ Some file → Apart (names_of file.body)
    → entry_named (names_of file.body) name ≡ Some entry → links_to (with_changed files at (taken_out now name)) handle + one_if (entry.handle == handle) ≡ links_to files handle
links_taken files at now name file entry handle rise is apart found =
    let sum = sum_changed (count_of handle) files at (taken_out now name) file rise is in
    let rest = count_others (λ (e : Name). e.handle == handle) (names_of file.body) name entry apart found in
    let names = ap (λ (l : List Name). count_by (λ (e : Name). e.handle == handle) l) (names_without name file.body) in
    omega (arith, sum, rest, names)

pub links_entered : (files : List File) (at : ℕ) (now : Time) (name : List ℕ) (to : ℕ) (file : File) (handle : ℕ) → Rise files → file_at files at ≡ Some file → IsNames file.body
    → links_to (with_changed files at (entered now name to)) handle ≡ links_to files handle + one_if (to == handle)
links_entered files at now name to file handle rise is body =
    let sum = sum_changed (count_of handle) files at (entered now name to) file rise is in
    let new : Name = record { number = body.next; name = name; handle = to } in
    let before = ap (λ (b : Body). count_by (λ (e : Name). e.handle == handle) (names_of b)) body.is in
    let behind = ap (λ (b : Body). count_by (λ (e : Name). e.handle == handle) (names_of (with_entry name to b))) body.is in
    let more = sum_by-append (λ (e : Name). one_if (e.handle == handle)) body.names (new ∷ []) in
    omega (arith, sum, before, behind, more)

pub links_without : (files : List File) (at : ℕ) (file : File) (handle : ℕ) → Rise files → file_at files at ≡ Some file → names_of file.body ≡ [] → links_to (without_file files at) handle ≡ links_to files handle
links_without files at file handle rise is none =
    let sum = sum_without (count_of handle) files at file rise is in
    let nothing = ap (λ (names : List Name). count_by (λ (e : Name). e.handle == handle) names) none in
    omega (arith, sum, nothing)

pub links_with : (files : List File) (new : File) (handle : ℕ) → file_at files new.handle ≡ None → names_of new.body ≡ [] → links_to (with_file files new) handle ≡ links_to files handle
links_with files new handle gone none =
    let sum = sum_with (count_of handle) files new gone in
    let nothing = ap (λ (names : List Name). count_by (λ (e : Name). e.handle == handle) names) none in
    omega (arith, sum, nothing)

-- an entry of a directory, with the directory
pub record NamesIt (files : List File) (handle : ℕ) : Type 0 where
  pub directory : File
  pub entry : Name
  pub there : file_at files directory.handle ≡ Some directory
  pub contains : Contains (names_of directory.body) entry
  pub names_it : entry.handle ≡ handle

pub named_by : (files : List File) (handle : ℕ) → Rise files → 1 ≤ links_to files handle → NamesIt files handle
named_by files handle rise some =
    let directory = some_counted (count_of handle) files some in
    let entry = some_counted (λ (e : Name). one_if (e.handle == handle)) (names_of directory.0.body) directory.2 in
    record {
      directory = directory.0;
      entry = entry.0;
      there = at_contained files directory.0 rise directory.1;
      contains = entry.1;
      names_it = yes (entry.0.handle) handle entry.2;
    }
  where
    yes : (a b : ℕ) → 1 ≤ one_if (a == b) → a ≡ b
    yes a b le = grind (arith, nat_tests)

pub names_count : (files : List File) (handle : ℕ) (file : File) (entry : Name) → file_at files handle ≡ Some file → Contains (names_of file.body) entry → 1 ≤ links_to files entry.handle
names_count files handle file entry is there =
    let one = counted (λ (e : Name). one_if (e.handle == entry.handle)) (names_of file.body) entry there in
    let all = counted (count_of entry.handle) files file (contains_at files handle file is) in
    let test = ap {B = ℕ} (λ (b : Bool). one_if b) (eq-eqb entry.handle entry.handle refl) in
    omega (arith, one, all, test)
