-- A new file, which a new entry of a directory names, leaves a file tree.
use Rattle.std.proofs.Common.{Bool, ◌≡◌, ℕ, suc, ◌+◌, ◌<◌, ◌≤◌, arith, true, false, List, [], Some, None, refl, sym, ap, ◌∙◌, subst, inl, inr, ◌∷◌}
use Rattle.std.specs.Prelude.{◌≢◌, ◌==◌, if◌then◌else◌, Contains}
use Rattle.bx_model.specs.bx_tree_files.specs.declared.file.Body.{Body}
use Rattle.bx_model.specs.bx_tree_files.specs.declared.file.Body.TheVariants.{Bytes, Path, Names}
use Rattle.bx_model.specs.bx_tree_files.specs.declared.file.File.{File}
use Rattle.bx_model.specs.declared.tree.Tree.{Tree}
use Rattle.bx_model.specs.bx_tree_files.specs.Files.{with_changed, file_at, is_directory, with_file}
use Rattle.bx_model.specs.Edits.{changed, with_new}
use Rattle.bx_model.specs.FileTrees.{IsFileTree, links_to}
use Rattle.bx_model.specs.bx_tree_files.specs.Names.{names_of, next_of, with_entry}
use Rattle.bx_model.specs.bx_tree_files.specs.Times.{Time}
use Rattle.bx_tree_laws.specs.Every.{Every}
use Rattle.bx_tree_laws.proofs.Everys.{every_kept}
use Rattle.bx_tree_laws.proofs.Grows.{Follows, Grows, grows_changed, grows_new, grows_same}
use Rattle.bx_tree_laws.proofs.Inside.{inside, inside_kept}
use Rattle.bx_tree_laws.proofs.Links.{IsNames, one_if, links_kept}
use Rattle.bx_tree_laws.proofs.Lookups.{SameOr, same_or, changed_here, some_same}
use Rattle.bx_tree_laws.proofs.Members.{links_below}
use Rattle.bx_tree_laws.proofs.Plans.{IsStage, Plan}
use Rattle.bx_tree_laws.proofs.Stages.{one_elsewhere, one_here, plus, stage_grown, stage_refers}
use Rattle.bx_tree_laws.proofs.Stays.{parent_same, parent_with, stays_changed, stays_then}
use Rattle.bx_tree_laws.proofs.Whole.{tree_of}
use Rattle.bx_model.specs.bx_tree_files.specs.Entries.{entry_named, is_bad}
use Rattle.bx_model.specs.bx_tree_files.specs.Given.{with_handle}
use Rattle.bx_model.specs.bx_tree_files.specs.Changes.{entered as entering}
use Rattle.bx_tree_laws.proofs.Halves.{changed_twice, entered, with_subdirectory}
use Rattle.bx_tree_laws.proofs.Made.{IsNew, stage as made_stage, links_are as made_links_are, inside_at as made_inside_at, inside_away as made_inside_away, named as made_named, once as made_once, unnamed as made_unnamed, still as made_still, body as made_body}

module _ (tree : Tree) (was : IsFileTree tree) (directory : File) (at : ℕ) (now : Time) (name : List ℕ) (new : File)
    (is_there : file_at tree.files at ≡ Some directory) (is_one : is_directory directory ≡ true)
    (good : is_bad name ≡ false) (absent : entry_named (names_of directory.body) name ≡ None)
    (gone : file_at tree.files new.handle ≡ None) (is_new : IsNew at new) where
  abbrev made : ℕ
  made = new.handle

  abbrev first : List File
  first = with_file tree.files new

  abbrev files : List File
  files = with_changed first at (entered now name made)

  abbrev links : ℕ → ℕ
  links = plus made (links_to tree.files)

  abbrev depth : ℕ → ℕ
  depth handle = if made == handle then suc (was.depth at) else was.depth handle

  abbrev plan : Plan
  plan = record { root = tree.root; ref = tree.files; links = links; inside = inside tree.files; depth = depth; given = with_handle tree.given made }

  stage : IsStage (record plan { ref = first }) files
  stage = made_stage tree was directory at now name new is_there is_one good absent gone is_new

  links_are : (handle : ℕ) → links handle ≡ links_to files handle
  links_are = made_links_are tree was directory at now name new is_there is_one good absent gone is_new

  inside_at : inside files at ≡ inside tree.files at + one_if (is_directory new)
  inside_at = made_inside_at tree was directory at now name new is_there is_one good absent gone is_new

  inside_away : (handle : ℕ) → at ≢ handle → inside files handle ≡ inside tree.files handle
  inside_away = made_inside_away tree was directory at now name new is_there is_one good absent gone is_new

  named : Every (λ handle f. handle ≢ tree.root → 1 ≤ links handle) files
  named = made_named tree was directory at now name new is_there is_one good absent gone is_new

  once : Every (λ handle f. is_directory f ≡ true → links handle ≤ 1) files
  once = made_once tree was directory at now name new is_there is_one good absent gone is_new

  unnamed : links tree.root ≡ 0
  unnamed = made_unnamed tree was directory at now name new is_there is_one good absent gone is_new

  still : file_at first at ≡ Some directory
  still = made_still tree was directory at now name new is_there is_one good absent gone is_new

  body : IsNames directory.body
  body = made_body tree was directory at now name new is_there is_one good absent gone is_new

  abbrev next : Tree
  next = record tree { files = files; given = with_handle tree.given made }

  -- a file that is no directory
  pub made_keeps : is_directory new ≡ false → IsFileTree (changed (with_new tree new) at (entered now name made))
  made_keeps other = tree_of next links (inside tree.files) depth
      (stage_refers (record plan { ref = first }) files stage files
      (λ handle f entry is within. stays_changed first at (entered now name made) entry.handle (λ g. refl) (λ same g g_is. parent_with name made g.body)))
      links_are (λ handle. by handle (same_or at handle)) named once unnamed
    where
      by : (handle : ℕ) → SameOr at handle → inside tree.files handle ≡ inside files handle
      by handle (inl same) = omega (arith, inside_at, ap {B = ℕ} one_if other, ap (inside files) same.1, ap (inside tree.files) same.1)
      by handle (inr away) = sym (inside_away handle away.1)

  -- a directory, which counts in the one that it is in
  abbrev grown : List File
  grown = with_changed files at with_subdirectory

  room : (f : File) → file_at files at ≡ Some f → (is_directory f ≡ true) × (f.nlink + 1 < next_of f.body)
  room f is =
      let here = changed_here first at (entered now name made) directory (λ g. refl) still in
      let same : entered now name made directory ≡ f = some_same (entered now name made directory) f (sym here ∙ is) in
      subst (λ (g : File). (is_directory g ≡ true) × (g.nlink + 1 < next_of g.body)) same (is_one, by directory.body body (links_below tree was at directory is_there is_one))
    where
      by : (b : Body) → IsNames b → directory.nlink < next_of b → directory.nlink + 1 < next_of (with_entry name made b)
      by (Bytes bytes) is less = absurd (omega (arith, less))
      by (Path path) is less = absurd (omega (arith, less))
      by (Names parent next names) is less = omega (arith, less)

  pub made_directory_keeps : is_directory new ≡ true → IsFileTree (changed (changed (with_new tree new) at (entered now name made)) at with_subdirectory)
  made_directory_keeps is = tree_of (changed next at with_subdirectory) links (plus at (inside tree.files)) depth
      (stage_refers (record plan { ref = first; inside = plus at (inside tree.files) }) grown (stage_grown (record plan { ref = first }) files stage at room) grown
      (λ handle f entry is within. stays_then first files grown entry.handle
      (stays_changed first at (entered now name made) entry.handle (λ g. refl) (λ same g g_is. parent_with name made g.body))
      (stays_changed files at with_subdirectory entry.handle (λ g. refl) (λ same g g_is. parent_same g.body))))
      (λ handle. links_are handle ∙ sym (links_kept files at with_subdirectory handle (λ f. refl)))
      (λ handle. by handle (same_or at handle) ∙ sym (inside_kept files at with_subdirectory (λ f. refl) (λ f. refl) (λ f. refl) handle))
      (every_kept (λ handle f. handle ≢ tree.root → 1 ≤ links handle) files at with_subdirectory (λ f. refl) (λ handle f h. h) named)
      (every_kept (λ handle f. is_directory f ≡ true → links handle ≤ 1) files at with_subdirectory (λ f. refl) (λ handle f h. h) once)
      unnamed
    where
      by : (handle : ℕ) → SameOr at handle → plus at (inside tree.files) handle ≡ inside files handle
      by handle (inl same) = omega (arith, inside_at, ap {B = ℕ} one_if is, ap (inside files) same.1, ap (inside tree.files) same.1, one_here at, ap {B = ℕ} (λ (h : ℕ). one_if (at == h)) same.1)
      by handle (inr away) = omega (arith, inside_away handle away.1, one_elsewhere at handle away.1)

module _ (tree : Tree) (was : IsFileTree tree) (directory : File) (at : ℕ) (now : Time) (name : List ℕ) (new : File) (fresh : Contains tree.given new.handle → ⊥)
    (is_there : file_at tree.files at ≡ Some directory) (is_one : is_directory directory ≡ true)
    (good : is_bad name ≡ false) (absent : entry_named (names_of directory.body) name ≡ None)
    (gone : file_at tree.files new.handle ≡ None) (is_new : IsNew at new) where
  pub made_follows : Follows (new.handle ∷ []) tree (changed (with_new tree new) at (entering now name new.handle (is_directory new)))
  made_follows = by (is_directory new) refl
    where
      grows : (counts : Bool) → Grows (new.handle ∷ []) tree (changed (with_new tree new) at (entering now name new.handle counts))
      grows counts = grows_changed tree (with_new tree new) at (entering now name new.handle counts) (λ f. refl) (grows_new tree tree new fresh (grows_same tree))

      by : (counts : Bool) → is_directory new ≡ counts → Follows (new.handle ∷ []) tree (changed (with_new tree new) at (entering now name new.handle counts))
      by false other = record { is = made_keeps tree was directory at now name new is_there is_one good absent gone is_new other; grows = grows false }
      by true is = record {
        is = subst (λ (l : List File). IsFileTree (record (with_new tree new) { files = l })) (changed_twice (with_file tree.files new) at (entered now name new.handle) with_subdirectory (λ f. refl))
            (made_directory_keeps tree was directory at now name new is_there is_one good absent gone is_new is);
        grows = grows true;
      }
