-- REMOVE and RMDIR keep a file tree.
use Rattle.std.proofs.Common.{◌≡◌, ℕ, Bool, true, false, List, Some, sym, ap, ◌∙◌, subst, []}
use Rattle.std.specs.Prelude.{not, Result, Ok}
use Rattle.std.proofs.lemmas.Bool.{not-false}
use Rattle.bx_model.specs.declared.call.Call.{Call}
use Rattle.bx_model.specs.bx_tree_files.specs.declared.file.File.{File}
use Rattle.bx_model.specs.bx_tree_files.specs.declared.file.Name.{Name}
use Rattle.bx_model.specs.declared.reply.Reply.{Reply}
use Rattle.bx_model.specs.declared.status.TheConstants.{ISDIR, NOENT, NOTDIR, NOTEMPTY, STALE}
use Rattle.bx_model.specs.declared.tree.Tree.{Tree}
use Rattle.bx_model.specs.bx_tree_files.specs.Entries.{entry_named}
use Rattle.bx_model.specs.bx_tree_files.specs.Files.{file_at, is_directory}
use Rattle.bx_model.specs.FileTrees.{IsFileTree}
use Rattle.bx_model.specs.Making.{directory_to_change}
use Rattle.bx_model.specs.bx_tree_files.specs.Names.{names_of}
use Rattle.bx_model.specs.Removing.{file_to_remove, has_entries, remove, rmdir}
use Rattle.bx_model.specs.Renaming.{without_replaced}
use Rattle.bx_model.specs.bx_tree_files.specs.Times.{Time}
use Rattle.bx_tree_laws.proofs.Away.{away_keeps, lost}
use Rattle.bx_tree_laws.proofs.Grows.{Follows, grows_away}
use Rattle.bx_tree_laws.proofs.Lookups.{handle_at}
use Rattle.bx_tree_laws.proofs.Places.{IsDirectory, directory_is}
use Rattle.bx_tree_laws.proofs.Steps.{after_bind, after_must, after_refuse, next_is}

pub stands : (tree : Tree) (handle : ℕ) (file : File) → file_at tree.files handle ≡ Some file → file_at tree.files file.handle ≡ Some file
stands tree handle file is = ap (file_at tree.files) (handle_at tree.files handle file is) ∙ is

-- the directory, the entry and the file that a call takes out
record IsRemoved (tree : Tree) (name : List ℕ) (directory file : File) : Type 0 where
  pub is : IsDirectory tree name directory
  pub entry : Name
  pub found : entry_named (names_of directory.body) name ≡ Some entry
  pub there : file_at tree.files entry.handle ≡ Some file

removed_is : (tree : Tree) (call : Call) (at name : List ℕ) (both : File × File) → file_to_remove tree call at name ≡ Ok both → IsRemoved tree name both.0 both.1
removed_is tree call at name both e =
    after_bind (directory_to_change tree call at name) _ both e λ directory changes rest.
    after_must (entry_named (names_of directory.body) name) NOENT _ both rest λ entry found rest.
    after_must (file_at tree.files entry.handle) STALE _ both rest λ file there rest.
    by directory file rest record { is = directory_is tree call at name directory changes; entry = entry; found = found; there = there }
  where
    by : (directory file : File) → ◌≡◌ {A = Result (File × File) ℕ} (Ok (directory, file)) (Ok both) → IsRemoved tree name directory file → IsRemoved tree name both.0 both.1
    by directory file e is = let same : ◌≡◌ {A = File × File} (directory, file) both = cc in subst (λ (p : File × File). IsRemoved tree name p.0 p.1) same is

away_follows : (tree : Tree) → IsFileTree tree → (directory file : File) (now : Time) (name : List ℕ) → IsRemoved tree name directory file → (is_directory file ≡ true → has_entries file ≡ false)
    → Follows [] tree (without_replaced now tree directory name (Some file))
away_follows tree was directory file now name removed empty = record {
  is = away_keeps tree was directory file now name removed.entry removed.is.there removed.is.is removed.found (sym (handle_at tree.files removed.entry.handle file removed.there))
      (stands tree removed.entry.handle file removed.there) empty;
  grows = grows_away tree now name directory file;
}

conflict : {P : Type 0} (b : Bool) → b ≡ true → b ≡ false → P
conflict b one other = let both : true ≡ false = sym one ∙ other in absurd cc

module _ (tree : Tree) (was : IsFileTree tree) (call : Call) (at name : List ℕ) (now : Time) (reply : Reply) (next : Tree) where
  pub remove_keeps : remove tree call at name now ≡ Ok (reply, next) → Follows [] tree next
  remove_keeps e =
      after_bind (file_to_remove tree call at name) _ (reply, next) e λ both removed rest.
      after_refuse (is_directory both.1) ISDIR _ (reply, next) rest λ other rest.
      subst (Follows [] tree) (ap (lost now tree both.0 name both.1) other ∙ next_is _ reply _ next rest)
      (away_follows tree was both.0 both.1 now name (removed_is tree call at name both removed) (λ one. conflict (is_directory both.1) one other))

  pub rmdir_keeps : rmdir tree call at name now ≡ Ok (reply, next) → Follows [] tree next
  rmdir_keeps e =
      after_bind (file_to_remove tree call at name) _ (reply, next) e λ both removed rest.
      after_refuse (not (is_directory both.1)) NOTDIR _ (reply, next) rest λ one rest.
      after_refuse (has_entries both.1) NOTEMPTY _ (reply, next) rest λ empty rest.
      subst (Follows [] tree) (ap (lost now tree both.0 name both.1) (not-false (is_directory both.1) one) ∙ next_is _ reply _ next rest)
      (away_follows tree was both.0 both.1 now name (removed_is tree call at name both removed) (λ is. empty))
