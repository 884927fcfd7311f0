-- CREATE, SYMLINK, MKDIR and LINK keep a file tree.
use Rattle.std.proofs.Common.{◌≡◌, ℕ, ◌<◌, ◌^◌, arith, Bool, true, false, List, [], replicate, Some, None, Option, refl, subst, ◌∷◌}
use Rattle.std.specs.Prelude.{◌&&◌, not, if◌then◌else◌, nat_lt, nat_le, length, Result, Ok}
use Rattle.std.proofs.lemmas.List.{length-replicate}
use Rattle.bx_model.specs.declared.call.Call.{Call}
use Rattle.bx_model.specs.bx_tree_files.specs.declared.sattr.Sattr.{Sattr}
use Rattle.bx_model.specs.bx_tree_files.specs.declared.file.Body.TheVariants as body
use Rattle.bx_model.specs.bx_tree_files.specs.declared.file.File.{File}
use Rattle.bx_model.specs.bx_tree_files.specs.declared.file.Name.{Name}
use Rattle.bx_model.specs.declared.permissions.Want.TheVariants as want
use Rattle.bx_model.specs.declared.reply.Reply.{Reply}
use Rattle.bx_model.specs.declared.status.TheConstants.{ACCES, DQUOT, EXIST, FBIG, PERM, STALE}
use Rattle.bx_model.specs.declared.tree.Tree.{Tree}
use Rattle.bx_model.specs.Edits.{changed, is_unused}
use Rattle.bx_model.specs.bx_tree_files.specs.Files.{file_at, is_directory, is_regular}
use Rattle.bx_model.specs.FileTrees.{IsFileTree}
use Rattle.bx_model.specs.Making.{create, create_at, create_errors, create_new, create_over, directory_to_change, entry_errors, has_entry, link, mkdir, new_file, new_place, searched_directory, symlink}
use Rattle.bx_model.specs.bx_tree_files.specs.Names.{names_of}
use Rattle.bx_model.specs.Permissions.{may}
use Rattle.bx_model.specs.Reading.{handle_reply, named_file}
use Rattle.bx_model.specs.Steps.{Step}
use Rattle.bx_model.specs.Steps.Step.{Gives, Makes}
use Rattle.bx_model.specs.bx_tree_files.specs.Times.{Time, is_given}
use Rattle.bx_model.specs.bx_tree_files.specs.Changes.{most_bytes, with_size}
use Rattle.bx_model.specs.Writing.{resize_errors}
use Rattle.bx_tree_laws.proofs.Grows.{Follows, follows_same}
use Rattle.bx_tree_laws.proofs.Linked.{linked_follows}
use Rattle.bx_tree_laws.proofs.MadeKeeps.{made_follows}
use Rattle.bx_tree_laws.proofs.Members.{found_at}
use Rattle.bx_tree_laws.proofs.Steps.{after, after_bind, after_must, after_refuse, next_is}
use Rattle.bx_tree_laws.proofs.Touched.{touched_follows}
use Rattle.bx_tree_laws.proofs.Writings.{resize_fits, size_touch, within}
use Rattle.bx_model.specs.bx_tree_files.specs.Entries.{entry_named}
use Rattle.bx_tree_laws.proofs.Places.{IsDirectory, directory_is, none_is, place_is, searched_is, unused_fresh, unused_gone}
use Rattle.bx_tree_laws.proofs.NewFiles.{new_bytes, new_directory, new_path}

-- a step that keeps a file tree, whatever unused handle its file gets
abbrev pub StepKeeps : Tree → Step → Type 0
StepKeeps tree (Gives reply next) = Follows [] tree next
StepKeeps tree (Makes file) = (made : ℕ) → is_unused tree made ≡ true → Follows (made ∷ []) tree (file made).1

step_is : (tree : Tree) (one other : Step) → ◌≡◌ {A = Result Step ℕ} (Ok one) (Ok other) → StepKeeps tree one → StepKeeps tree other
step_is tree one other e keeps = let same : one ≡ other = cc in subst (StepKeeps tree) same keeps

module _ (tree : Tree) (was : IsFileTree tree) (call : Call) (name : List ℕ) (sattr : Sattr) (now : Time) where
  create_new_keeps : (directory : File) (spare : ℕ) (step : Step) → IsDirectory tree name directory → entry_named (names_of directory.body) name ≡ None
      → create_new tree call directory name sattr now spare ≡ Ok step → StepKeeps tree step
  create_new_keeps directory spare step is absent e =
      after (create_errors call directory sattr spare) _ step e λ allowed rest.
      step_is tree _ step rest (λ made unused.
      made_follows tree was directory directory.handle now name (new_file call sattr now 0o644 made (body.Bytes (replicate (if is_given sattr.size then sattr.size else 0) 0))) (unused_fresh tree made unused)
      is.there is.is is.good absent (unused_gone tree made was unused)
      (new_bytes call sattr now directory.handle made (replicate (if is_given sattr.size then sattr.size else 0) 0) (short (is_given sattr.size) (size_fits directory spare allowed))))
    where
      short : (given : Bool) → (given ≡ true → sattr.size < 2 ^ 31) → length {A = ℕ} (replicate (if given then sattr.size else 0) 0) < 2 ^ 31
      short true fits = simp length-replicate (fits refl)
      short false fits = omega arith

      size_fits : (directory : File) (spare : ℕ) → create_errors call directory sattr spare ≡ Ok tt → is_given sattr.size ≡ true → sattr.size < 2 ^ 31
      size_fits directory spare e given =
          after_refuse (not (may call directory want.Change)) ACCES _ tt e λ may rest.
          after_refuse (is_given sattr.size && nat_lt most_bytes sattr.size) FBIG _ tt rest λ fits rest.
          within (is_given sattr.size) sattr.size fits given

  create_over_keeps : (handle : ℕ) (step : Step) → create_over tree call handle sattr now ≡ Ok step → StepKeeps tree step
  create_over_keeps handle step e =
      after_must (file_at tree.files handle) STALE _ step e λ file found rest.
      after_refuse (not (is_regular file)) EXIST _ step rest λ regular rest.
      after (resize_errors call file sattr.size) _ step rest λ fits rest.
      by file (is_given sattr.size) (resize_fits call file sattr.size fits) rest
    where
      by : (file : File) (given : Bool) → (given ≡ true → sattr.size < 2 ^ 31)
          → ◌≡◌ {A = Result Step ℕ} (if given then Ok (Gives (handle_reply tree (with_size now sattr.size file)) (changed tree file.handle (with_size now sattr.size))) else Ok (Gives (handle_reply tree file) tree)) (Ok step)
          → StepKeeps tree step
      by file true fits e = step_is tree _ step e (touched_follows tree file.handle (with_size now sattr.size) (size_touch now sattr.size (fits refl)) was)
      by file false fits e = step_is tree _ step e (follows_same tree was)

  pub create_keeps : (at : List ℕ) (spare : ℕ) (step : Step) → create tree call at name sattr now spare ≡ Ok step → StepKeeps tree step
  create_keeps at spare step e =
      after_bind (searched_directory tree call at name) _ step e λ directory searched rest.
      by directory (searched_is tree call at name directory searched) (entry_named (names_of directory.body) name) refl rest
    where
      by : (directory : File) → IsDirectory tree name directory → (found : Option Name) → entry_named (names_of directory.body) name ≡ found
          → create_at tree call directory name sattr now spare found ≡ Ok step → StepKeeps tree step
      by directory is None absent rest = create_new_keeps directory spare step is absent rest
      by directory is (Some entry) present rest = create_over_keeps entry.handle step rest

  pub symlink_keeps : (at path : List ℕ) (spare : ℕ) (step : Step) → length path < 2 ^ 31 → symlink tree call at name path sattr now spare ≡ Ok step → StepKeeps tree step
  symlink_keeps at path spare step fits e =
      after_bind (new_place tree call at name spare) _ step e λ directory placed rest.
      let is = place_is tree call at name spare directory placed in
      step_is tree _ step rest (λ made unused.
      made_follows tree was directory directory.handle now name (new_file call sattr now 0o777 made (body.Path path)) (unused_fresh tree made unused) is.0.there is.0.is is.0.good is.1 (unused_gone tree made was unused)
      (new_path call sattr now directory.handle made path fits))

  pub mkdir_keeps : (at : List ℕ) (spare : ℕ) (step : Step) → mkdir tree call at name sattr now spare ≡ Ok step → StepKeeps tree step
  mkdir_keeps at spare step e =
      after_bind (new_place tree call at name spare) _ step e λ directory placed rest.
      let is = place_is tree call at name spare directory placed in
      step_is tree _ step rest (λ made unused.
      made_follows tree was directory directory.handle now name (new_file call sattr now 0o755 made (body.Names directory.handle 3 [])) (unused_fresh tree made unused) is.0.there is.0.is is.0.good is.1
      (unused_gone tree made was unused) (new_directory call sattr now directory.handle made))

pub link_keeps : (tree : Tree) (call : Call) (from at name : List ℕ) (now : Time) (spare : ℕ) (reply : Reply) (next : Tree) → IsFileTree tree → link tree call from at name now spare ≡ Ok (reply, next) → Follows [] tree next
link_keeps tree call from at name now spare reply next was e =
    after_must (named_file tree from) STALE _ (reply, next) e λ file found rest.
    after_bind (directory_to_change tree call at name) _ (reply, next) rest λ directory changes rest.
    after_refuse (is_directory file) PERM _ (reply, next) rest λ other rest.
    after_refuse (has_entry directory name) EXIST _ (reply, next) rest λ absent rest.
    after_refuse (nat_le 32000 file.nlink) DQUOT _ (reply, next) rest λ few rest.
    after (entry_errors directory spare) _ (reply, next) rest λ room rest.
    let is = directory_is tree call at name directory changes in
    subst (Follows [] tree) (next_is _ reply _ next rest)
    (linked_follows tree was file directory directory.handle file.handle now name (found_at tree from file found) other is.there is.is is.good (none_is _ absent))
