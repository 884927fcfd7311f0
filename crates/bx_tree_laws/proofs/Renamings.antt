-- RENAME keeps a file tree.
use Rattle.std.proofs.Common.{◌≡◌, ℕ, Bool, true, false, List, Some, None, Option, refl, sym, ap, ◌∙◌, subst, inl, inr, []}
use Rattle.std.specs.Prelude.{◌⊎◌, ◌&&◌, not, if◌then◌else◌, Result, Ok}
use Rattle.std.proofs.lemmas.Bool.{not-false}
use Rattle.bx_model.specs.declared.call.Call.{Call}
use Rattle.bx_model.specs.bx_tree_files.specs.declared.file.File.{File}
use Rattle.bx_model.specs.bx_tree_files.specs.declared.file.Name.{Name}
use Rattle.bx_model.specs.declared.permissions.Want.TheVariants as want
use Rattle.bx_model.specs.declared.reply.Reply.{Reply}
use Rattle.bx_model.specs.declared.reply.Reply.TheVariants as reply
use Rattle.bx_model.specs.declared.status.TheConstants.{ACCES, ISDIR, NAMETOOLONG, NFS_OK, NOENT, NOTDIR, NOTEMPTY, PERM, STALE}
use Rattle.bx_model.specs.declared.tree.Tree.{Tree}
use Rattle.bx_model.specs.bx_tree_files.specs.Files.{file_at, is_directory}
use Rattle.bx_model.specs.FileTrees.{IsFileTree}
use Rattle.bx_model.specs.bx_tree_files.specs.Names.{names_of}
use Rattle.bx_model.specs.Permissions.{may}
use Rattle.bx_model.specs.Reading.{named_file}
use Rattle.bx_model.specs.Removing.{has_entries}
use Rattle.bx_model.specs.Renaming.{changes_parent, file_of_entry, is_same, leads_by, move_errors, rename, renamed, replace_errors}
use Rattle.bx_model.specs.Steps.{◌>>◌}
use Rattle.bx_model.specs.bx_tree_files.specs.Times.{Time}
use Rattle.bx_tree_laws.proofs.Grows.{Follows, follows_same, grows_renamed}
use Rattle.bx_tree_laws.proofs.Members.{found_at}
use Rattle.bx_tree_laws.proofs.Steps.{after, after_bind, after_must, after_refuse, next_is, refused_not}
use Rattle.bx_tree_laws.proofs.Walks.{cut_of}
use Rattle.bx_model.specs.bx_tree_files.specs.Entries.{entry_named, is_bad}
use Rattle.bx_tree_laws.proofs.Replacing.{IsFound, free_keeps, over_keeps}

-- the file that is replaced, if there is one
file_is : (tree : Tree) (found : Option Name) (replaced : Option File) → file_of_entry tree found ≡ Ok replaced
    → ((found ≡ None) × (replaced ≡ None)) ⊎ ((entry : Name) × (file : File) × (found ≡ Some entry) × (replaced ≡ Some file) × (file_at tree.files entry.handle ≡ Some file))
file_is tree None replaced e = let same : None ≡ replaced = cc in inl (refl, sym same)
file_is tree (Some entry) replaced e = by (file_at tree.files entry.handle) refl e
  where
    by : (there : Option File) → file_at tree.files entry.handle ≡ there → file_of_entry tree (Some entry) ≡ Ok replaced
        → ((Some entry ≡ None) × (replaced ≡ None)) ⊎ ((one : Name) × (file : File) × (Some entry ≡ Some one) × (replaced ≡ Some file) × (file_at tree.files one.handle ≡ Some file))
    by None is e = let no' = rw is at e in absurd cc
    by (Some file) is e = let same : ◌≡◌ {A = Result (Option File) ℕ} (Ok (Some file)) (Ok replaced) = rw is at e in let file_same : Some file ≡ replaced = cc in inr (entry, file, refl, sym file_same, is)

module _ (tree : Tree) (was : IsFileTree tree) (call : Call) (from name to new_name : List ℕ) (now : Time) (spare : ℕ) (answer : Reply) (next : Tree) where
  moved_keeps_tree : (source target moved : File) (replaced : Option File) (entry : Name) → file_at tree.files source.handle ≡ Some source → is_directory source ≡ true → file_at tree.files target.handle ≡ Some target
      → is_directory target ≡ true → is_bad new_name ≡ false → entry_named (names_of source.body) name ≡ Some entry → file_at tree.files entry.handle ≡ Some moved
      → file_of_entry tree (entry_named (names_of target.body) new_name) ≡ Ok replaced → is_same moved replaced ≡ false → move_errors tree source target moved replaced spare ≡ Ok tt
      → IsFileTree (renamed now tree source name target new_name moved replaced)
  moved_keeps_tree source target moved replaced entry source_there source_is target_there target_is good found moved_there replaced_is other e =
      after_refuse (changes_parent source target moved && leads_by tree target moved.handle) PERM _ tt e λ not_below rest.
      after_refuse (changes_parent source target moved && not (leads_by tree target tree.root)) NAMETOOLONG _ tt rest λ not_deep rest.
      after (replace_errors moved replaced) _ tt rest λ may_replace rest.
      by replaced (file_is tree (entry_named (names_of target.body) new_name) replaced replaced_is) other may_replace record {
        source_there = source_there;
        source_is = source_is;
        target_there = target_there;
        target_is = target_is;
        good = good;
        entry = entry;
        found = found;
        moved_there = moved_there;
        cut = λ changes. cut_of tree was moved.handle target.handle 512 (second _ _ changes not_below) (not-false _ (second _ _ changes not_deep));
      }
    where
      second : (a b : Bool) → a ≡ true → a && b ≡ false → b ≡ false
      second true b yes' e = e
      second false b yes' e = absurd cc

      empty : (file : File) → replace_errors moved (Some file) ≡ Ok tt → has_entries file ≡ false
      empty file e =
          after_refuse (is_directory moved && not (is_directory file)) NOTDIR _ tt e λ a rest.
          after_refuse (not (is_directory moved) && is_directory file) ISDIR _ tt rest λ b rest.
          refused_not (has_entries file) NOTEMPTY tt rest

      by : (replaced : Option File)
          → ((entry_named (names_of target.body) new_name ≡ None) × (replaced ≡ None)) ⊎ ((one : Name) × (file : File) × (entry_named (names_of target.body) new_name ≡ Some one) × (replaced ≡ Some file) × (file_at tree.files one.handle ≡ Some file))
          → is_same moved replaced ≡ false → replace_errors moved replaced ≡ Ok tt → IsFound tree source target moved name new_name → IsFileTree (renamed now tree source name target new_name moved replaced)
      by replaced (inl none) other may_replace f = subst (λ (o : Option File). IsFileTree (renamed now tree source name target new_name moved o)) (sym none.1) (free_keeps tree was source target moved now name new_name f none.0)
      by replaced (inr (one, file, named, is, there)) other may_replace f =
          subst (λ (o : Option File). IsFileTree (renamed now tree source name target new_name moved o)) (sym is)
          (over_keeps tree was source target moved now name new_name f file one named there (ap (is_same moved) (sym is) ∙ other) (empty file (ap (replace_errors moved) (sym is) ∙ may_replace)))

  pub rename_keeps : rename tree call from name to new_name now spare ≡ Ok (answer, next) → Follows [] tree next
  rename_keeps e =
      after_must (named_file tree from) STALE _ (answer, next) e λ source source_found rest.
      after_must (named_file tree to) STALE _ (answer, next) rest λ target target_found rest.
      after_refuse (not (is_directory source)) NOTDIR _ (answer, next) rest λ source_is rest.
      after_refuse (not (is_directory target)) NOTDIR _ (answer, next) rest λ target_is rest.
      after_refuse (is_bad name) ACCES _ (answer, next) rest λ fine rest.
      after_refuse (is_bad new_name) ACCES _ (answer, next) rest λ good rest.
      after_refuse (not (may call source want.Change)) ACCES _ (answer, next) rest λ one_may rest.
      after_refuse (not (may call target want.Change)) ACCES _ (answer, next) rest λ other_may rest.
      after_must (entry_named (names_of source.body) name) NOENT _ (answer, next) rest λ entry found rest.
      after_must (file_at tree.files entry.handle) STALE _ (answer, next) rest λ moved there rest.
      after_bind (file_of_entry tree (entry_named (names_of target.body) new_name)) _ (answer, next) rest λ replaced replaced_is rest.
      by source target moved replaced (is_same moved replaced) refl
      (moved_keeps_tree source target moved replaced entry (found_at tree from source source_found) (not-false (is_directory source) source_is) (found_at tree to target target_found)
      (not-false (is_directory target) target_is) good found there replaced_is)
      rest
    where
      by : (source target moved : File) (replaced : Option File) (b : Bool) → is_same moved replaced ≡ b
          → (is_same moved replaced ≡ false → move_errors tree source target moved replaced spare ≡ Ok tt → IsFileTree (renamed now tree source name target new_name moved replaced))
          → ◌≡◌ {A = Result (Reply × Tree) ℕ} (if b then Ok (reply.Status NFS_OK, tree) else (move_errors tree source target moved replaced spare >> Ok (reply.Status NFS_OK, renamed now tree source name target new_name moved replaced))) (Ok (answer, next))
          → Follows [] tree next
      by source target moved replaced true t keeps e = subst (Follows [] tree) (next_is _ answer tree next e) (follows_same tree was)
      by source target moved replaced false t keeps e =
          after (move_errors tree source target moved replaced spare) _ (answer, next) e λ allowed rest.
          subst (Follows [] tree) (next_is _ answer _ next rest) record { is = keeps t allowed; grows = grows_renamed tree now source name target new_name moved replaced }
