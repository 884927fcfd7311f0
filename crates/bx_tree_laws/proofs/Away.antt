-- A file loses one name, by which it may leave the tree: a file tree is left.
use Rattle.std.proofs.Common.{◌≡◌, ℕ, ◌+◌, ◌<◌, ◌≤◌, arith, Bool, true, false, List, [], ◌∷◌, Some, refl, sym, ap, ◌∙◌, subst, inl, inr}
use Rattle.std.specs.Prelude.{◌≢◌, ◌==◌, nat_le, if◌then◌else◌, length, Contains}
use Rattle.std.proofs.lemmas.Bool.{leb-true, leb-false, ltb-false}
use Rattle.bx_model.specs.bx_tree_files.specs.declared.file.Body.{Body}
use Rattle.bx_model.specs.bx_tree_files.specs.declared.file.Body.TheVariants.{Bytes, Path, Names}
use Rattle.bx_model.specs.bx_tree_files.specs.declared.file.File.{File}
use Rattle.bx_model.specs.bx_tree_files.specs.declared.file.Name.{Name}
use Rattle.bx_model.specs.declared.tree.Tree.{Tree}
use Rattle.bx_model.specs.bx_tree_files.specs.Files.{with_changed, without_file, file_at, is_directory}
use Rattle.bx_model.specs.Edits.{changed, without}
use Rattle.bx_model.specs.FileTrees.{IsFileTree, is_directory_at, links_to}
use Rattle.bx_model.specs.bx_tree_files.specs.Names.{names_of, next_of, without_entry}
use Rattle.bx_model.specs.Removing.{has_entries, without_link}
use Rattle.bx_model.specs.bx_tree_files.specs.Changes.{taken_out as taking_out}
use Rattle.bx_model.specs.Renaming.{without_replaced}
use Rattle.bx_model.specs.bx_tree_files.specs.Times.{Time}
use Rattle.bx_tree_laws.proofs.Counts.{none_contained}
use Rattle.bx_tree_laws.proofs.Dropped.{dropped_keeps}
use Rattle.bx_tree_laws.proofs.Everys.{every_kept}
use Rattle.bx_tree_laws.proofs.Inside.{inside, inside_kept}
use Rattle.bx_tree_laws.proofs.Links.{one_if, links_kept}
use Rattle.bx_tree_laws.proofs.Lookups.{SameOr, same_or, changed_here, changed_other, some_same}
use Rattle.bx_tree_laws.proofs.Members.{directory_at, kinds_apart, links_are_names, links_below, no_entries}
use Rattle.bx_tree_laws.proofs.Stages.{minus, one_elsewhere, one_here, stage_shrunk}
use Rattle.bx_tree_laws.proofs.Stays.{parent_same, stays_changed, stays_then}
use Rattle.bx_tree_laws.proofs.Taken.{entry_contained, taken_away, taken_inside, taken_links, taken_named, taken_once, taken_stage, taken_stays, to_not_root}
use Rattle.bx_tree_laws.proofs.Unlinked.{unlinked_keeps}
use Rattle.bx_tree_laws.proofs.Whole.{plan_of}
use Rattle.bx_model.specs.bx_tree_files.specs.Entries.{entry_named}
use Rattle.bx_tree_laws.proofs.Halves.{changed_twice, taken_out, without_subdirectory}

-- the tree without the entry of a name, and without the file where it was its last one; a directory counts no more
abbrev pub lost : Time → Tree → File → List ℕ → File → Bool → Tree
lost now tree directory name file counts =
    let left : Tree = changed tree directory.handle (taking_out now name counts) in
    if counts then without left file.handle else without_link now left file.handle file.nlink

pub next_without : (name : List ℕ) (body : Body) → next_of (without_entry name body) ≡ next_of body
next_without name (Bytes bytes) = refl
next_without name (Path path) = refl
next_without name (Names parent next names) = refl

-- a directory that has no entries
pub nothing_in : (file : File) → has_entries file ≡ false → names_of file.body ≡ []
nothing_in file e = by (names_of file.body) (ltb-false 0 (length (names_of file.body)) e)
  where
    by : (names : List Name) → length names ≤ 0 → names ≡ []
    by [] le = refl
    by (x ∷ names) le = absurd (omega (arith, le))

module _ (tree : Tree) (was : IsFileTree tree) (directory file : File) (at to : ℕ) (now : Time) (name : List ℕ) (entry : Name)
    (is_there : file_at tree.files at ≡ Some directory) (is_one : is_directory directory ≡ true)
    (found : entry_named (names_of directory.body) name ≡ Some entry) (names_it : entry.handle ≡ to)
    (there : file_at tree.files to ≡ Some file) where
  abbrev first : List File
  first = with_changed tree.files at (taken_out now name)

  abbrev left : Tree
  left = changed tree at (taken_out now name)

  -- the file is no directory
  dropped_file : is_directory file ≡ false → file.nlink ≤ 1 → IsFileTree (without left to)
  dropped_file other few = dropped_keeps tree was first (inside tree.files) to file
      (taken_stage tree was directory at now name entry to is_there found names_it)
      (taken_stays tree was directory at now name entry to is_there found names_it)
      (taken_links tree was directory at now name entry to is_there found names_it)
      (λ handle. by handle (same_or at handle))
      (taken_named tree was directory at now name entry to is_there found names_it)
      (taken_once tree was directory at now name entry to is_there found names_it)
      (changed_other tree.files at (taken_out now name) to (λ f. refl) (λ e. kinds_apart tree.files to at file directory there is_there other is_one (sym e)) ∙ there)
      (no_entries tree was to file there other)
      (omega (arith, links_are_names tree was to file there other, few))
      (to_not_root tree was directory at now name entry to is_there found names_it)
    where
      none : one_if (is_directory_at tree.files to) ≡ 0
      none = ap {B = ℕ} one_if (directory_at tree was to file there ∙ other)

      by : (handle : ℕ) → SameOr at handle → inside tree.files handle ≡ inside first handle
      by handle (inl same) =
          let here = taken_inside tree was directory at now name entry to is_there found names_it in
          omega (arith, here, none, ap (inside tree.files) same.1, ap (inside first) same.1)
      by handle (inr away) = sym (taken_away tree was directory at now name entry to is_there found names_it handle away.1)

  -- it is one, and empty
  abbrev mid : List File
  mid = with_changed first at without_subdirectory

  dropped_directory : is_directory file ≡ true → names_of file.body ≡ [] → IsFileTree (without (changed left at without_subdirectory) to)
  dropped_directory is none = dropped_keeps tree was mid (minus at (inside tree.files)) to file
      (stage_shrunk (plan_of tree (links_to tree.files) (inside tree.files) was.depth) first (taken_stage tree was directory at now name entry to is_there found names_it) at
      (omega (arith, here, one)) room)
      (λ handle. stays_then tree.files first mid handle (taken_stays tree was directory at now name entry to is_there found names_it handle)
      (stays_changed first at without_subdirectory handle (λ g. refl) (λ same g g_is. parent_same g.body)))
      (λ handle. omega (arith, taken_links tree was directory at now name entry to is_there found names_it handle, links_kept first at without_subdirectory handle (λ f. refl)))
      (λ handle. by handle (same_or at handle) ∙ sym (inside_kept first at without_subdirectory (λ f. refl) (λ f. refl) (λ f. refl) handle))
      (every_kept (λ handle f. handle ≢ tree.root → 1 ≤ links_to tree.files handle) first at without_subdirectory (λ f. refl) (λ handle f h. h)
      (taken_named tree was directory at now name entry to is_there found names_it))
      (every_kept (λ handle f. is_directory f ≡ true → links_to tree.files handle ≤ 1) first at without_subdirectory (λ f. refl) (λ handle f h. h)
      (taken_once tree was directory at now name entry to is_there found names_it))
      (changed_other first at without_subdirectory to (λ f. refl) apart ∙ changed_other tree.files at (taken_out now name) to (λ f. refl) apart ∙ there)
      none
      (was.once to file there is)
      (to_not_root tree was directory at now name entry to is_there found names_it)
    where
      here : inside first at + one_if (is_directory_at tree.files to) ≡ inside tree.files at
      here = taken_inside tree was directory at now name entry to is_there found names_it

      one : one_if (is_directory_at tree.files to) ≡ 1
      one = ap {B = ℕ} one_if (directory_at tree was to file there ∙ is)

      apart : at ≢ to
      apart e =
          let same : directory ≡ file = some_same directory file (sym is_there ∙ ap (file_at tree.files) e ∙ there) in
          none_contained entry (subst (λ (l : List Name). Contains l entry) (ap (λ (f : File). names_of f.body) same ∙ none)
          (entry_contained tree was directory at now name entry to is_there found names_it))

      room : (f : File) → file_at first at ≡ Some f → (is_directory f ≡ true) × (f.nlink < next_of f.body)
      room f f_is =
          let same : taken_out now name directory ≡ f = some_same (taken_out now name directory) f (sym (changed_here tree.files at (taken_out now name) directory (λ g. refl) is_there) ∙ f_is) in
          subst (λ (g : File). (is_directory g ≡ true) × (g.nlink < next_of g.body)) same
          (is_one, subst (λ (n : ℕ). directory.nlink < n) (sym (next_without name directory.body)) (links_below tree was at directory is_there is_one))

      by : (handle : ℕ) → SameOr at handle → minus at (inside tree.files) handle ≡ inside first handle
      by handle (inl same) = omega (arith, here, one, ap (inside tree.files) same.1, ap (inside first) same.1, one_here at, ap {B = ℕ} (λ (h : ℕ). one_if (at == h)) same.1)
      by handle (inr away) = omega (arith, taken_away tree was directory at now name entry to is_there found names_it handle away.1, one_elsewhere at handle away.1)

-- the entry of a name goes, and the file with its last one
pub away_keeps : (tree : Tree) → IsFileTree tree → (directory file : File) (now : Time) (name : List ℕ) (entry : Name) → file_at tree.files directory.handle ≡ Some directory → is_directory directory ≡ true
    → entry_named (names_of directory.body) name ≡ Some entry → entry.handle ≡ file.handle → file_at tree.files file.handle ≡ Some file → (is_directory file ≡ true → has_entries file ≡ false)
    → IsFileTree (without_replaced now tree directory name (Some file))
away_keeps tree was directory file now name entry is_there is_one found names_it there empty = by (is_directory file) refl (nat_le file.nlink 1) refl
  where
    by : (b : Bool) → is_directory file ≡ b → (few : Bool) → nat_le file.nlink 1 ≡ few → IsFileTree (lost now tree directory name file b)
    by true is few t = subst (λ (l : List File). IsFileTree (record tree { files = without_file l file.handle })) (changed_twice tree.files directory.handle (taken_out now name) without_subdirectory (λ f. refl))
        (dropped_directory tree was directory file directory.handle file.handle now name entry is_there is_one found names_it there is (nothing_in file (empty is)))
    by false is true t = rw t (dropped_file tree was directory file directory.handle file.handle now name entry is_there is_one found names_it there is (leb-true file.nlink 1 t))
    by false is false t = rw t (unlinked_keeps tree was directory file directory.handle file.handle now name entry is_there is_one found names_it there is (leb-false file.nlink 1 t))
