-- One more name of a file that is no directory leaves a file tree.
use Rattle.std.proofs.Common.{◌≡◌, ℕ, ◌≤◌, arith, true, false, List, Some, None, refl, sym, ap, ◌∙◌, subst, inl, inr, []}
use Rattle.std.specs.Prelude.{◌≢◌, ◌==◌}
use Rattle.std.proofs.lemmas.Bool.{ne_eqb}
use Rattle.bx_model.specs.bx_tree_files.specs.declared.file.File.{File}
use Rattle.bx_model.specs.declared.tree.Tree.{Tree}
use Rattle.bx_model.specs.bx_tree_files.specs.Files.{with_changed, file_at, is_directory}
use Rattle.bx_model.specs.Edits.{changed}
use Rattle.bx_model.specs.FileTrees.{IsFileTree, is_directory_at, links_to}
use Rattle.bx_model.specs.bx_tree_files.specs.Changes.{linked, entered as entering}
use Rattle.bx_model.specs.bx_tree_files.specs.Names.{names_of}
use Rattle.bx_model.specs.bx_tree_files.specs.Times.{Time}
use Rattle.bx_tree_laws.specs.Every.{Every}
use Rattle.bx_tree_laws.proofs.Everys.{every_kept}
use Rattle.bx_tree_laws.proofs.Grows.{Follows, grows_changed, grows_same}
use Rattle.bx_tree_laws.proofs.Inside.{inside, inside_entered, inside_kept, inside_other, directory_changed}
use Rattle.bx_tree_laws.proofs.Links.{IsNames, one_if, links_entered, links_kept}
use Rattle.bx_tree_laws.proofs.Lookups.{SameOr, same_or, changed_other, some_same}
use Rattle.bx_tree_laws.proofs.Members.{directory_at, is_names, kinds_apart, not_names, root_directory}
use Rattle.bx_tree_laws.proofs.DirectoryParts.{MayEnter}
use Rattle.bx_tree_laws.proofs.Plans.{IsStage}
use Rattle.bx_tree_laws.proofs.Rises.{rise_changed}
use Rattle.bx_tree_laws.proofs.Stages.{plus, stage_entered, stage_linked, stage_refers}
use Rattle.bx_tree_laws.proofs.Stays.{parent_same, parent_with, stays_changed, stays_then}
use Rattle.bx_tree_laws.proofs.Whole.{plan_of, stage_of, tree_of}
use Rattle.bx_model.specs.bx_tree_files.specs.Entries.{entry_named, is_bad}
use Rattle.bx_tree_laws.proofs.Halves.{changed_apart, entered}

module _ (tree : Tree) (was : IsFileTree tree) (file directory : File) (at to : ℕ) (now : Time) (name : List ℕ)
    (there : file_at tree.files to ≡ Some file) (other : is_directory file ≡ false)
    (is_there : file_at tree.files at ≡ Some directory) (is_one : is_directory directory ≡ true)
    (good : is_bad name ≡ false) (absent : entry_named (names_of directory.body) name ≡ None) where
  abbrev counted_more : List File
  counted_more = with_changed tree.files to (linked now)

  abbrev files : List File
  files = with_changed counted_more at (entered now name to)

  apart : to ≢ at
  apart = kinds_apart tree.files to at file directory there is_there other is_one

  still : file_at counted_more at ≡ Some directory
  still = changed_other tree.files to (linked now) at (λ f. refl) apart ∙ is_there

  body : IsNames directory.body
  body = is_names tree was at directory is_there is_one

  abbrev links : ℕ → ℕ
  links = plus to (links_to tree.files)

  may : (f : File) → file_at counted_more at ≡ Some f → MayEnter tree.files at name to f.body
  may f is = subst (λ (g : File). MayEnter tree.files at name to g.body) (some_same directory f (sym still ∙ is)) record {
    good = good;
    absent = absent;
    file = file;
    there = there;
    parent = λ parent next names e. absurd (not_names tree was to file there other parent next names e);
  }

  stage : IsStage (record (plan_of tree links (inside tree.files) was.depth) { ref = files }) files
  stage =
      stage_refers (plan_of tree links (inside tree.files) was.depth) files
      (stage_entered (plan_of tree links (inside tree.files) was.depth) counted_more
      (stage_linked (plan_of tree (links_to tree.files) (inside tree.files) was.depth) tree.files (stage_of tree was) to now
      (λ f is. ap is_directory (some_same f file (sym is ∙ there)) ∙ other))
      at now name to may)
      files
      (λ handle f entry is within. stays_then tree.files counted_more files entry.handle
      (stays_changed tree.files to (linked now) entry.handle (λ f. refl) (λ same f f_is. parent_same f.body))
      (stays_changed counted_more at (entered now name to) entry.handle (λ f. refl) (λ same f f_is. parent_with name to f.body)))

  links_are : (handle : ℕ) → links handle ≡ links_to files handle
  links_are handle =
      let more = links_entered counted_more at now name to directory handle (rise_changed tree.files to (linked now) (λ f. refl) was.rise) still body in
      let same = links_kept tree.files to (linked now) handle (λ f. refl) in
      omega (arith, more, same)

  no_directory : one_if (is_directory_at counted_more to) ≡ 0
  no_directory = ap {B = ℕ} one_if (directory_changed tree.files to (linked now) to (λ f. refl) (λ f. refl) ∙ directory_at tree was to file there ∙ other)

  inner_are : (handle : ℕ) → inside tree.files handle ≡ inside files handle
  inner_are handle = by (same_or at handle)
    where
      kept : inside counted_more handle ≡ inside tree.files handle
      kept = inside_kept tree.files to (linked now) (λ f. refl) (λ f. refl) (λ f. refl) handle

      by : SameOr at handle → inside tree.files handle ≡ inside files handle
      by (inl same) =
          let more = inside_entered counted_more at now name to directory still body in
          omega (arith, more, kept, no_directory, ap (inside files) same.1, ap (inside counted_more) same.1)
      by (inr away) = sym kept ∙ sym (inside_other counted_more at (entered now name to) (λ f. refl) (λ f. refl) handle away.1)

  named : Every (λ handle f. handle ≢ tree.root → 1 ≤ links handle) files
  named = every_kept (λ handle f. handle ≢ tree.root → 1 ≤ links handle) counted_more at (entered now name to) (λ f. refl) (λ handle f h. h)
      (every_kept (λ handle f. handle ≢ tree.root → 1 ≤ links handle) tree.files to (linked now) (λ f. refl) (λ handle f h. h)
      (λ handle f is away. let one = was.named handle f is away in omega (arith, one)))

  not_counted : (handle : ℕ) (f : File) → file_at tree.files handle ≡ Some f → is_directory f ≡ true → one_if (to == handle) ≡ 0
  not_counted handle f is yes' = ap {B = ℕ} one_if (ne_eqb to handle (kinds_apart tree.files to handle file f there is other yes'))

  once : Every (λ handle f. is_directory f ≡ true → links handle ≤ 1) files
  once = every_kept (λ handle f. is_directory f ≡ true → links handle ≤ 1) counted_more at (entered now name to) (λ f. refl) (λ handle f h. h)
      (every_kept (λ handle f. is_directory f ≡ true → links handle ≤ 1) tree.files to (linked now) (λ f. refl) (λ handle f h. h)
      (λ handle f is yes'. omega (arith, was.once handle f is yes', not_counted handle f is yes')))

  pub linked_keeps : IsFileTree (changed (changed tree to (linked now)) at (entered now name to))
  linked_keeps = tree_of (changed (changed tree to (linked now)) at (entered now name to)) links (inside tree.files) was.depth stage links_are inner_are named once
      (omega (arith, was.root_unnamed, not_counted tree.root was.root.0 was.root.3 (root_directory tree was was.root.0 was.root.3)))

  pub linked_follows : Follows [] tree (changed (changed tree at (entering now name to false)) to (linked now))
  linked_follows = record {
    is = subst (λ (l : List File). IsFileTree (record tree { files = l })) (changed_apart tree.files to at (linked now) (entered now name to) (λ f. refl) (λ f. refl) apart) linked_keeps;
    grows = grows_changed tree (changed tree at (entering now name to false)) to (linked now) (λ f. refl) (grows_changed tree tree at (entering now name to false) (λ f. refl) (grows_same tree));
  }
