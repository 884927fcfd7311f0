-- A file that no entry names any more is taken out, which leaves a file tree.
use Rattle.std.proofs.Common.{◌≡◌, ℕ, ◌+◌, ◌≤◌, arith, true, List, [], Some, None, Option, refl, sym, ap, ◌∙◌, subst, inl, inr}
use Rattle.std.specs.Prelude.{◌≢◌, ◌==◌, if◌then◌else◌, Contains}
use Rattle.bx_model.specs.bx_tree_files.specs.declared.file.File.{File}
use Rattle.bx_model.specs.bx_tree_files.specs.declared.file.Name.{Name}
use Rattle.bx_model.specs.declared.tree.Tree.{Tree}
use Rattle.bx_model.specs.bx_tree_files.specs.Files.{without_file, file_at, is_directory}
use Rattle.bx_model.specs.FileTrees.{IsFileTree, is_directory_in, links_to}
use Rattle.bx_model.specs.bx_tree_files.specs.Names.{names_of}
use Rattle.bx_tree_laws.specs.Every.{Every}
use Rattle.bx_tree_laws.proofs.Counts.{none_contained}
use Rattle.bx_tree_laws.proofs.Everys.{every_without}
use Rattle.bx_tree_laws.proofs.Inside.{inside, inside_same, names_at, names_in}
use Rattle.bx_tree_laws.proofs.Links.{one_if, links_without, names_count}
use Rattle.bx_tree_laws.proofs.Lookups.{SameOr, same_or, file_at-without, without_other}
use Rattle.bx_tree_laws.proofs.DirectoryParts.{Stays}
use Rattle.bx_tree_laws.proofs.Plans.{IsStage, stage_without}
use Rattle.bx_tree_laws.proofs.Stages.{minus, one_elsewhere, one_here, part_links, stage_refers}
use Rattle.bx_tree_laws.proofs.Stays.{stays_then, stays_without}
use Rattle.bx_tree_laws.proofs.Whole.{plan_of, tree_of}

module _ (tree : Tree) (was : IsFileTree tree) (mid : List File) (inner : ℕ → ℕ) (to : ℕ) (gone : File)
    (stage : IsStage (plan_of tree (links_to tree.files) inner was.depth) mid)
    (stays : (handle : ℕ) → Stays tree.files mid handle)
    (links_mid : (handle : ℕ) → links_to mid handle + one_if (to == handle) ≡ links_to tree.files handle)
    (inner_mid : (handle : ℕ) → inner handle ≡ inside mid handle)
    (named_mid : Every (λ handle f. handle ≢ tree.root → 1 ≤ links_to tree.files handle) mid)
    (once_mid : Every (λ handle f. is_directory f ≡ true → links_to tree.files handle ≤ 1) mid)
    (there : file_at mid to ≡ Some gone) (none : names_of gone.body ≡ []) (one : links_to tree.files to ≤ 1) (apart : to ≢ tree.root) where
  abbrev files : List File
  files = without_file mid to

  abbrev links : ℕ → ℕ
  links = minus to (links_to tree.files)

  same_links : (handle : ℕ) → links_to files handle ≡ links_to mid handle
  same_links handle = links_without mid to gone handle stage.rise there none

  unnamed : links_to mid to ≡ 0
  unnamed = omega (arith, links_mid to, one, one_here to)

  -- no entry that is left names it
  not_named : (handle : ℕ) (file : File) (entry : Name) → file_at mid handle ≡ Some file → Contains (names_of file.body) entry → to ≢ entry.handle
  not_named handle file entry is within same = omega (arith, names_count mid handle file entry is within, unnamed, ap (links_to mid) same)

  not_named_after : (handle : ℕ) (file : File) (entry : Name) → file_at files handle ≡ Some file → Contains (names_of file.body) entry → to ≢ entry.handle
  not_named_after handle file entry is within same =
      omega (arith, names_count files handle file entry is within, same_links to, unnamed, ap (links_to files) same)

  staged : IsStage (record (plan_of tree links inner was.depth) { ref = files }) files
  staged = stage_refers (plan_of tree links inner was.depth) files
      (stage_without (plan_of tree (links_to tree.files) inner was.depth) (plan_of tree links inner was.depth) mid to apart refl
      (λ handle f away is part. part_links (plan_of tree (links_to tree.files) inner was.depth) handle f.kind f.mode f.nlink links inner f.body (omega (arith, one_elsewhere to handle away)) refl part)
      stage)
      files
      (λ handle f entry is within. stays_then tree.files mid files entry.handle (stays entry.handle) (stays_without mid to entry.handle (not_named_after handle f entry is within)))

  inner_are : (handle : ℕ) → inner handle ≡ inside files handle
  inner_are handle = inner_mid handle ∙ sym (inside_same mid files handle (ap names_in (file_at-without mid to handle) ∙ by (same_or to handle))
      (λ entry within. ap is_directory_in (without_other mid to entry.handle (away (file_at mid handle) refl entry within))))
    where
      by : SameOr to handle → names_in (if to == handle then None else file_at mid handle) ≡ names_at mid handle
      by (inl same) = rw same.0 (sym (ap names_in (ap (file_at mid) (sym same.1) ∙ there) ∙ none))
      by (inr away) = rw away.0 refl

      away : (found : Option File) → file_at mid handle ≡ found → (entry : Name) → Contains (names_at mid handle) entry → to ≢ entry.handle
      away None is entry within = absurd (none_contained entry (subst (λ (o : Option File). Contains (names_in o) entry) is within))
      away (Some f) is entry within = not_named handle f entry is (subst (λ (o : Option File). Contains (names_in o) entry) is within)

  named : Every (λ handle f. handle ≢ tree.root → 1 ≤ links handle) files
  named = every_without (λ handle f. handle ≢ tree.root → 1 ≤ links handle) mid to
      (λ handle f away is other. let some = named_mid handle f is other in omega (arith, some, one_elsewhere to handle away))

  once : Every (λ handle f. is_directory f ≡ true → links handle ≤ 1) files
  once = every_without (λ handle f. is_directory f ≡ true → links handle ≤ 1) mid to
      (λ handle f away is directory. let le = once_mid handle f is directory in omega (arith, le, one_elsewhere to handle away))

  pub dropped_keeps : IsFileTree (record tree { files = files })
  dropped_keeps = tree_of (record tree { files = files }) links inner was.depth staged (λ handle. omega (arith, links_mid handle, same_links handle)) inner_are named once
      (omega (arith, was.root_unnamed, one_elsewhere to tree.root apart))
