-- A name less of a file that has more leaves a file tree.
use Rattle.std.proofs.Common.{◌≡◌, ℕ, ◌+◌, ◌-◌, ◌≤◌, arith, true, false, List, Some, refl, sym, ap, ◌∙◌, inl, inr}
use Rattle.std.specs.Prelude.{◌≢◌, ◌==◌}
use Rattle.bx_model.specs.bx_tree_files.specs.declared.file.File.{File}
use Rattle.bx_model.specs.bx_tree_files.specs.declared.file.Name.{Name}
use Rattle.bx_model.specs.declared.tree.Tree.{Tree}
use Rattle.bx_model.specs.bx_tree_files.specs.Files.{with_changed, file_at, is_directory}
use Rattle.bx_model.specs.Edits.{changed}
use Rattle.bx_model.specs.FileTrees.{IsFileTree, is_directory_at, links_to}
use Rattle.bx_model.specs.bx_tree_files.specs.Names.{names_of}
use Rattle.bx_model.specs.bx_tree_files.specs.Changes.{unlinked}
use Rattle.bx_model.specs.bx_tree_files.specs.Times.{Time}
use Rattle.bx_tree_laws.specs.Every.{Every}
use Rattle.bx_tree_laws.proofs.Everys.{every_kept}
use Rattle.bx_tree_laws.proofs.Inside.{inside, inside_kept}
use Rattle.bx_tree_laws.proofs.Links.{one_if, links_kept}
use Rattle.bx_tree_laws.proofs.Lookups.{SameOr, same_or, changed_other, some_same}
use Rattle.bx_tree_laws.proofs.Members.{directory_at, kinds_apart, links_are_names}
use Rattle.bx_tree_laws.proofs.Plans.{IsStage}
use Rattle.bx_tree_laws.proofs.Stages.{minus, one_elsewhere, one_here, stage_refers, stage_unlinked}
use Rattle.bx_tree_laws.proofs.Stays.{parent_same, stays_changed, stays_then}
use Rattle.bx_tree_laws.proofs.Taken.{taken_away, taken_inside, taken_links, taken_named, taken_once, taken_stage, taken_stays}
use Rattle.bx_tree_laws.proofs.Whole.{plan_of, tree_of}
use Rattle.bx_model.specs.bx_tree_files.specs.Entries.{entry_named}
use Rattle.bx_tree_laws.proofs.Halves.{taken_out}

module _ (tree : Tree) (was : IsFileTree tree) (directory file : File) (at to : ℕ) (now : Time) (name : List ℕ) (entry : Name)
    (is_there : file_at tree.files at ≡ Some directory) (is_one : is_directory directory ≡ true)
    (found : entry_named (names_of directory.body) name ≡ Some entry) (names_it : entry.handle ≡ to)
    (there : file_at tree.files to ≡ Some file) (other : is_directory file ≡ false) (more : 2 ≤ file.nlink) where
  abbrev first : List File
  first = with_changed tree.files at (taken_out now name)

  abbrev files : List File
  files = with_changed first to (unlinked now)

  abbrev links : ℕ → ℕ
  links = minus to (links_to tree.files)

  still : file_at first to ≡ Some file
  still = changed_other tree.files at (taken_out now name) to (λ f. refl) (λ e. kinds_apart tree.files to at file directory there is_there other is_one (sym e)) ∙ there

  stage : IsStage (record (plan_of tree links (inside tree.files) was.depth) { ref = files }) files
  stage = stage_refers (plan_of tree links (inside tree.files) was.depth) files
      (stage_unlinked (plan_of tree (links_to tree.files) (inside tree.files) was.depth) first (taken_stage tree was directory at now name entry to is_there found names_it) to now
      (λ f is. ap is_directory (some_same f file (sym is ∙ still)) ∙ other))
      files
      (λ handle f e is within. stays_then tree.files first files e.handle (taken_stays tree was directory at now name entry to is_there found names_it e.handle)
      (stays_changed first to (unlinked now) e.handle (λ g. refl) (λ same g g_is. parent_same g.body)))

  less : (handle : ℕ) → links_to first handle + one_if (to == handle) ≡ links_to tree.files handle
  less = taken_links tree was directory at now name entry to is_there found names_it

  links_are : (handle : ℕ) → links handle ≡ links_to files handle
  links_are handle = omega (arith, less handle, links_kept first to (unlinked now) handle (λ f. refl))

  inner_are : (handle : ℕ) → inside tree.files handle ≡ inside files handle
  inner_are handle = by (same_or at handle) ∙ sym (inside_kept first to (unlinked now) (λ f. refl) (λ f. refl) (λ f. refl) handle)
    where
      none : one_if (is_directory_at tree.files to) ≡ 0
      none = ap {B = ℕ} one_if (directory_at tree was to file there ∙ other)

      by : SameOr at handle → inside tree.files handle ≡ inside first handle
      by (inl same) =
          let here = taken_inside tree was directory at now name entry to is_there found names_it in
          omega (arith, here, none, ap (inside tree.files) same.1, ap (inside first) same.1)
      by (inr away) = sym (taken_away tree was directory at now name entry to is_there found names_it handle away.1)

  named : Every (λ handle f. handle ≢ tree.root → 1 ≤ links handle) files
  named = every_kept (λ handle f. handle ≢ tree.root → 1 ≤ links handle) first to (unlinked now) (λ f. refl) (λ handle f h. h)
      (λ handle f is apart. by handle (same_or to handle) (taken_named tree was directory at now name entry to is_there found names_it handle f is apart))
    where
      by : (handle : ℕ) → SameOr to handle → 1 ≤ links_to tree.files handle → 1 ≤ links handle
      by handle (inl same) one = omega (arith, links_are_names tree was to file there other, more, ap (links_to tree.files) same.1, one_here to, ap {B = ℕ} (λ (h : ℕ). one_if (to == h)) same.1)
      by handle (inr away) one = omega (arith, one, one_elsewhere to handle away.1)

  once : Every (λ handle f. is_directory f ≡ true → links handle ≤ 1) files
  once = every_kept (λ handle f. is_directory f ≡ true → links handle ≤ 1) first to (unlinked now) (λ f. refl) (λ handle f h. h)
      (λ handle f is directory'. lower (links_to tree.files handle) (one_if (to == handle)) (taken_once tree was directory at now name entry to is_there found names_it handle f is directory'))
    where
      lower : (n m : ℕ) → n ≤ 1 → n - m ≤ 1
      lower n m le = omega (arith, le)

  pub unlinked_keeps : IsFileTree (changed (changed tree at (taken_out now name)) to (unlinked now))
  unlinked_keeps = tree_of (changed (changed tree at (taken_out now name)) to (unlinked now)) links (inside tree.files) was.depth stage links_are inner_are named once
      (none (links_to tree.files tree.root) (one_if (to == tree.root)) was.root_unnamed)
    where
      none : (n m : ℕ) → n ≡ 0 → n - m ≡ 0
      none n m e = omega (arith, e)
