-- Where a file may be made: its handle, and the directory that it comes into.
use Rattle.std.proofs.Common.{ap, ◌≡◌, ℕ, true, false, List, Some, None, Option, refl, sym, ◌∙◌, subst}
use Rattle.std.specs.Prelude.{◌==◌, ◌&&◌, not, is_some, Contains, Result, Ok}
use Rattle.std.specs.List.{list_any}
use Rattle.std.proofs.lemmas.Bool.{and_parts, eq-eqb, not-false, not-true}
use Rattle.std.proofs.lemmas.List.Recursion.{or_at}
use Rattle.bx_model.specs.declared.call.Call.{Call}
use Rattle.bx_model.specs.bx_tree_files.specs.declared.file.File.{File}
use Rattle.bx_model.specs.declared.permissions.Want.TheVariants as want
use Rattle.bx_model.specs.declared.status.TheConstants.{ACCES, EXIST, NOTDIR, STALE}
use Rattle.bx_model.specs.declared.tree.Tree.{Tree}
use Rattle.bx_model.specs.bx_tree_files.specs.Attributes.{fileid}
use Rattle.bx_model.specs.Edits.{is_unused}
use Rattle.bx_model.specs.bx_tree_files.specs.Files.{file_at, is_directory}
use Rattle.bx_model.specs.FileTrees.{IsFileTree}
use Rattle.bx_model.specs.Making.{directory_to_change, entry_errors, has_entry, new_place, searched_directory}
use Rattle.bx_model.specs.bx_tree_files.specs.Names.{names_of}
use Rattle.bx_model.specs.Permissions.{may}
use Rattle.bx_model.specs.Reading.{named_file}
use Rattle.bx_tree_laws.proofs.Members.{found_at}
use Rattle.bx_tree_laws.proofs.Steps.{after, after_bind, after_must, after_refuse}
use Rattle.bx_model.specs.bx_tree_files.specs.Entries.{entry_named, is_bad}

-- an unused handle was never given out, and is no file's
pub unused_fresh : (tree : Tree) (made : ℕ) → is_unused tree made ≡ true → Contains tree.given made → ⊥
unused_fresh tree made unused given =
    let there = or_at (list_any (λ (handle : ℕ). handle == made)) (λ (handle : ℕ). handle == made) refl (λ x xs. refl) tree.given given.0 made given.1 (eq-eqb _ made given.2) in
    let both : true ≡ false = sym there ∙ never in absurd cc
  where
    never : list_any (λ handle. handle == made) tree.given ≡ false
    never = not-true (list_any (λ handle. handle == made) tree.given)
        (and_parts (not (made == 0)) (not (list_any (λ handle. handle == made) tree.given))
        (and_parts (not (made == 0) && not (list_any (λ handle. handle == made) tree.given)) (not (list_any (λ file. fileid file.handle == fileid made) tree.files)) unused).0).1

pub unused_gone : (tree : Tree) (made : ℕ) → IsFileTree tree → is_unused tree made ≡ true → file_at tree.files made ≡ None
unused_gone tree made was unused = by (file_at tree.files made) refl
  where
    by : (found : Option File) → file_at tree.files made ≡ found → found ≡ None
    by None is = refl
    by (Some file) is = absurd (unused_fresh tree made unused (was.was_given made file is))

pub none_is : {X : Type 0} (found : Option X) → is_some found ≡ false → found ≡ None
none_is None e = refl
none_is (Some x) e = absurd cc

-- the directory that a call changes
pub record IsDirectory (tree : Tree) (name : List ℕ) (directory : File) : Type 0 where
  pub there : file_at tree.files directory.handle ≡ Some directory
  pub is : is_directory directory ≡ true
  pub good : is_bad name ≡ false

pub directory_is : (tree : Tree) (call : Call) (at name : List ℕ) (directory : File) → directory_to_change tree call at name ≡ Ok directory → IsDirectory tree name directory
directory_is tree call at name directory e =
    after_must (named_file tree at) STALE _ directory e λ file found rest.
    after_refuse (not (is_directory file)) NOTDIR _ directory rest λ is rest.
    after_refuse (is_bad name) ACCES _ directory rest λ good rest.
    after_refuse (not (may call file want.Change)) ACCES _ directory rest λ may rest.
    by file rest record { there = found_at tree at file found; is = not-false (is_directory file) is; good = good }
  where
    by : (file : File) → ◌≡◌ {A = Result File ℕ} (Ok file) (Ok directory) → IsDirectory tree name file → IsDirectory tree name directory
    by file e is = let same : file ≡ directory = cc in subst (IsDirectory tree name) same is

pub searched_is : (tree : Tree) (call : Call) (at name : List ℕ) (directory : File) → searched_directory tree call at name ≡ Ok directory → IsDirectory tree name directory
searched_is tree call at name directory e =
    after_must (named_file tree at) STALE _ directory e λ file found rest.
    after_refuse (not (is_directory file)) NOTDIR _ directory rest λ is rest.
    after_refuse (is_bad name) ACCES _ directory rest λ good rest.
    after_refuse (not (may call file want.Search)) ACCES _ directory rest λ may rest.
    by file rest record { there = found_at tree at file found; is = not-false (is_directory file) is; good = good }
  where
    by : (file : File) → ◌≡◌ {A = Result File ℕ} (Ok file) (Ok directory) → IsDirectory tree name file → IsDirectory tree name directory
    by file e is = let same : file ≡ directory = cc in subst (IsDirectory tree name) same is

pub place_is : (tree : Tree) (call : Call) (at name : List ℕ) (spare : ℕ) (directory : File) → new_place tree call at name spare ≡ Ok directory
    → IsDirectory tree name directory × (entry_named (names_of directory.body) name ≡ None)
place_is tree call at name spare directory e =
    after_bind (directory_to_change tree call at name) _ directory e λ file changes rest.
    after_refuse (has_entry file name) EXIST _ directory rest λ absent rest.
    after (entry_errors file spare) _ directory rest λ room rest.
    by file rest (directory_is tree call at name file changes) (none_is _ absent)
  where
    by : (file : File) → ◌≡◌ {A = Result File ℕ} (Ok file) (Ok directory) → IsDirectory tree name file → entry_named (names_of file.body) name ≡ None
        → IsDirectory tree name directory × (entry_named (names_of directory.body) name ≡ None)
    by file e is absent = let same : file ≡ directory = cc in (subst (IsDirectory tree name) same is, ap (λ (f : File). entry_named (names_of f.body) name) (sym same) ∙ absent)
