-- A file tree from which an entry was taken out: what else holds in the midst of a step.
use Rattle.std.proofs.Common.{◌≡◌, ℕ, ◌+◌, ◌≤◌, true, List, Some, refl, ◌∙◌, subst}
use Rattle.std.specs.Prelude.{◌≢◌, ◌==◌, Contains}
use Rattle.bx_model.specs.bx_tree_files.specs.declared.file.File.{File}
use Rattle.bx_model.specs.bx_tree_files.specs.declared.file.Name.{Name}
use Rattle.bx_model.specs.declared.tree.Tree.{Tree}
use Rattle.bx_model.specs.bx_tree_files.specs.Files.{with_changed, file_at, is_directory}
use Rattle.bx_model.specs.FileTrees.{IsFileTree, is_directory_at, links_to}
use Rattle.bx_model.specs.bx_tree_files.specs.Names.{names_of}
use Rattle.bx_model.specs.bx_tree_files.specs.Times.{Time}
use Rattle.bx_tree_laws.specs.Every.{Every}
use Rattle.bx_tree_laws.proofs.Entries.{entry_found}
use Rattle.bx_tree_laws.proofs.Everys.{every_kept}
use Rattle.bx_tree_laws.proofs.Inside.{inside, inside_other, inside_taken}
use Rattle.bx_tree_laws.proofs.Links.{one_if, links_taken, names_count}
use Rattle.bx_tree_laws.proofs.Members.{entry_not_root, names_apart}
use Rattle.bx_tree_laws.proofs.DirectoryParts.{Stays}
use Rattle.bx_tree_laws.proofs.Plans.{IsStage}
use Rattle.bx_tree_laws.proofs.Stages.{stage_taken}
use Rattle.bx_tree_laws.proofs.Stays.{parent_without, stays_changed}
use Rattle.bx_tree_laws.proofs.Whole.{plan_of, stage_of}
use Rattle.bx_model.specs.bx_tree_files.specs.Entries.{entry_named}
use Rattle.bx_tree_laws.proofs.Halves.{taken_out}

module _ (tree : Tree) (was : IsFileTree tree) (directory : File) (at : ℕ) (now : Time) (name : List ℕ) (entry : Name) (to : ℕ)
    (is_there : file_at tree.files at ≡ Some directory) (found : entry_named (names_of directory.body) name ≡ Some entry) (names_it : entry.handle ≡ to) where
  abbrev pub taken : List File
  taken = with_changed tree.files at (taken_out now name)

  pub taken_stage : IsStage (plan_of tree (links_to tree.files) (inside tree.files) was.depth) taken
  taken_stage = stage_taken (plan_of tree (links_to tree.files) (inside tree.files) was.depth) tree.files (stage_of tree was) at now name

  pub taken_stays : (handle : ℕ) → Stays tree.files taken handle
  taken_stays handle = stays_changed tree.files at (taken_out now name) handle (λ f. refl) (λ same f f_is. parent_without name f.body)

  pub taken_links : (handle : ℕ) → links_to taken handle + one_if (to == handle) ≡ links_to tree.files handle
  taken_links handle =
      subst (λ (n : ℕ). links_to taken handle + one_if (n == handle) ≡ links_to tree.files handle) names_it
      (links_taken tree.files at now name directory entry handle was.rise is_there (names_apart tree was at directory is_there) found)

  pub taken_inside : inside taken at + one_if (is_directory_at tree.files to) ≡ inside tree.files at
  taken_inside =
      subst (λ (n : ℕ). inside taken at + one_if (is_directory_at tree.files n) ≡ inside tree.files at) names_it
      (inside_taken tree.files at now name directory entry is_there (names_apart tree was at directory is_there) found)

  pub taken_away : (handle : ℕ) → at ≢ handle → inside taken handle ≡ inside tree.files handle
  taken_away handle apart = inside_other tree.files at (taken_out now name) (λ f. refl) (λ f. refl) handle apart

  pub taken_named : Every (λ handle f. handle ≢ tree.root → 1 ≤ links_to tree.files handle) taken
  taken_named = every_kept (λ handle f. handle ≢ tree.root → 1 ≤ links_to tree.files handle) tree.files at (taken_out now name) (λ f. refl) (λ handle f h. h) was.named

  pub taken_once : Every (λ handle f. is_directory f ≡ true → links_to tree.files handle ≤ 1) taken
  taken_once = every_kept (λ handle f. is_directory f ≡ true → links_to tree.files handle ≤ 1) tree.files at (taken_out now name) (λ f. refl) (λ handle f h. h) was.once

  pub entry_contained : Contains (names_of directory.body) entry
  entry_contained = (entry_found (names_of directory.body) name entry found).0

  pub to_not_root : to ≢ tree.root
  to_not_root e = entry_not_root tree was at directory is_there entry entry_contained (names_it ∙ e)

  pub to_linked : 1 ≤ links_to tree.files to
  to_linked = subst (λ (n : ℕ). 1 ≤ links_to tree.files n) names_it (names_count tree.files at directory entry is_there entry_contained)
