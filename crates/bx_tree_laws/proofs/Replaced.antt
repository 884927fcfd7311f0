-- What is left in its place where a file has lost a name: the other files, and the parents of directories.
use Rattle.std.proofs.Common.{◌≡◌, ℕ, Bool, true, false, List, Some, refl, sym, ◌∙◌}
use Rattle.std.specs.Prelude.{◌≢◌, nat_le, if◌then◌else◌}
use Rattle.bx_model.specs.bx_tree_files.specs.declared.file.Body.TheVariants.{Names}
use Rattle.bx_model.specs.bx_tree_files.specs.declared.file.File.{File}
use Rattle.bx_model.specs.bx_tree_files.specs.declared.file.Name.{Name}
use Rattle.bx_model.specs.declared.tree.Tree.{Tree}
use Rattle.bx_model.specs.bx_tree_files.specs.Files.{with_changed, without_file, file_at, is_directory}
use Rattle.bx_model.specs.Edits.{without, changed}
use Rattle.bx_model.specs.bx_tree_files.specs.Names.{names_of}
use Rattle.bx_model.specs.bx_tree_files.specs.Changes.{taken_out, unlinked}
use Rattle.bx_model.specs.Removing.{without_link}
use Rattle.bx_model.specs.Renaming.{without_replaced}
use Rattle.bx_model.specs.bx_tree_files.specs.Times.{Time}
use Rattle.bx_tree_laws.specs.Every.{Every}
use Rattle.bx_tree_laws.proofs.Entries.{others}
use Rattle.bx_tree_laws.proofs.Everys.{every_kept, every_without}
use Rattle.bx_tree_laws.proofs.Links.{names_without}
use Rattle.bx_tree_laws.proofs.Lookups.{changed_here, changed_other, without_other}
use Rattle.bx_tree_laws.proofs.Stays.{parent_without}
use Rattle.bx_tree_laws.proofs.Walks.{Cut}

-- a directory had this parent
abbrev pub HadParent : List File → ℕ → ℕ → Type 0
HadParent files handle parent = (file : File) × (next : ℕ) × (names : List Name) × (file_at files handle ≡ Some file) × (file.body ≡ Names parent next names)

abbrev pub KeepsParents : List File → ℕ → File → Type 0
KeepsParents files handle file = (parent next : ℕ) (names : List Name) → file.body ≡ Names parent next names → HadParent files handle parent

pub record Left (files now : List File) (at to : ℕ) (name : List ℕ) (directory : File) : Type 0 where
  pub other : (handle : ℕ) → at ≢ handle → to ≢ handle → file_at now handle ≡ file_at files handle
  pub file : File
  pub here : file_at now at ≡ Some file
  pub names : names_of file.body ≡ others name (names_of directory.body)
  pub kind : is_directory file ≡ is_directory directory
  pub parents : Every (KeepsParents files) now

module _ (files : List File) (at to : ℕ) (now : Time) (name : List ℕ) (directory : File) (counts : Bool) (there : file_at files at ≡ Some directory) (apart : to ≢ at) where
  abbrev first : List File
  first = with_changed files at (taken_out now name counts)

  first_here : file_at first at ≡ Some (taken_out now name counts directory)
  first_here = changed_here files at (taken_out now name counts) directory (λ f. refl) there

  first_other : (handle : ℕ) → at ≢ handle → file_at first handle ≡ file_at files handle
  first_other handle away = changed_other files at (taken_out now name counts) handle (λ f. refl) away

  first_parents : Every (KeepsParents files) first
  first_parents = every_kept (KeepsParents files) files at (taken_out now name counts) (λ f. refl)
      (λ handle f keeps parent next names is. let old = parent_without name f.body parent next names is in keeps parent old.0 old.1 old.2)
      (λ handle f is parent next names body. (f, next, names, is, body))

  left_gone : Left files (without_file first to) at to name directory
  left_gone = record {
    other = λ handle a b. without_other first to handle b ∙ first_other handle a;
    file = taken_out now name counts directory;
    here = without_other first to at apart ∙ first_here;
    names = names_without name directory.body;
    kind = refl;
    parents = every_without (KeepsParents files) first to (λ handle f away is. first_parents handle f is);
  }

  left_more : Left files (with_changed first to (unlinked now)) at to name directory
  left_more = record {
    other = λ handle a b. changed_other first to (unlinked now) handle (λ f. refl) b ∙ first_other handle a;
    file = taken_out now name counts directory;
    here = changed_other first to (unlinked now) at (λ f. refl) apart ∙ first_here;
    names = names_without name directory.body;
    kind = refl;
    parents = every_kept (KeepsParents files) first to (unlinked now) (λ f. refl) (λ handle f keeps. keeps) first_parents;
  }

pub left_is : (tree : Tree) (now : Time) (name : List ℕ) (directory file : File) → file_at tree.files directory.handle ≡ Some directory → file.handle ≢ directory.handle
    → Left tree.files (without_replaced now tree directory name (Some file)).files directory.handle file.handle name directory
left_is tree now name directory file there apart = by (is_directory file) (nat_le file.nlink 1) refl
  where
    by : (b few : Bool) → nat_le file.nlink 1 ≡ few
        → Left tree.files (if b then without (changed tree directory.handle (taken_out now name b)) file.handle else without_link now (changed tree directory.handle (taken_out now name b)) file.handle file.nlink).files
        directory.handle file.handle name directory
    by true few t = left_gone tree.files directory.handle file.handle now name directory true there apart
    by false true t = rw t (left_gone tree.files directory.handle file.handle now name directory false there apart)
    by false false t = rw t (left_more tree.files directory.handle file.handle now name directory false there apart)

pub left_root : (tree : Tree) (now : Time) (name : List ℕ) (directory file : File) → (without_replaced now tree directory name (Some file)).root ≡ tree.root
left_root tree now name directory file = by (is_directory file) (nat_le file.nlink 1) refl
  where
    by : (b few : Bool) → nat_le file.nlink 1 ≡ few
        → (if b then without (changed tree directory.handle (taken_out now name b)) file.handle else without_link now (changed tree directory.handle (taken_out now name b)) file.handle file.nlink).root ≡ tree.root
    by true few t = refl
    by false true t = rw t refl
    by false false t = rw t refl

-- what was apart stays so where parents are kept
pub cut_left : (tree next : Tree) (top apart : ℕ) → next.root ≡ tree.root → Every (KeepsParents tree.files) next.files → Cut tree top apart → Cut next top apart
cut_left tree next top apart root parents cut = record {
  below = cut.below;
  top_is = cut.top_is;
  apart_is = cut.apart_is;
  closed = λ handle file parent more names there body other away.
      let old = parents handle file there parent more names body in
      cut.closed handle old.0 parent old.1 old.2 old.3 old.4 (λ e. other (e ∙ sym root)) away;
}
