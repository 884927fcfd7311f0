-- A volume's number and how many areas it has stay, whatever is called.
use Rattle.std.proofs.Common.{◌≡◌, ℕ, Bool, true, false, List, [], ◌∷◌, Some, None, Option, refl, sym, ◌∙◌, ap, subst}
use Rattle.std.specs.Prelude.{◌==◌, if◌then◌else◌, length, nat_le, not, Result, Ok, Err}
use Rattle.bx_cluster.specs.Runs.{StepOf}
use Rattle.bx_history.specs.Legal.{LeadsNewest}
use Rattle.bx_history.specs.Trace.{Entry}
use Rattle.bx_model.specs.Act.{about_file, about_name, about_new, given}
use Rattle.bx_model.specs.Directories.{readdir}
use Rattle.bx_model.specs.Edits.{changed, is_unused, without}
use Rattle.bx_model.specs.Making.{create, create_at, create_errors, created, directory_to_change, entry_errors, has_entry, link, mkdir, new_file, new_place, searched_directory, symlink, with_made}
use Rattle.bx_model.specs.Mounting.{mount, plain}
use Rattle.bx_model.specs.Permissions.{may}
use Rattle.bx_model.specs.Reading.{attributes_reply, getattr, handle_reply, lookup, named_file, read, readlink, statfs}
use Rattle.bx_model.specs.Removing.{file_to_remove, has_entries, remove, rmdir, without_link}
use Rattle.bx_model.specs.Renaming.{changes_parent, file_of_entry, is_same, move_errors, rename, renamed, with_moved, without_replaced}
use Rattle.bx_model.specs.Steps.{Making, Outcome, Step, done, must, plainly, refuse, taken, ◌>>=◌, ◌>>◌}
use Rattle.bx_model.specs.Steps.Step.{Gives, Makes}
use Rattle.bx_model.specs.Writing.{is_forbidden, resize_errors, setattr, write, write_errors}
use Rattle.bx_model.specs.bx_tree_files.specs.Changes.{entered, linked, taken_out, unlinked, with_data, with_fields, with_size}
use Rattle.bx_model.specs.bx_tree_files.specs.Entries.{entry_named, is_bad}
use Rattle.bx_model.specs.bx_tree_files.specs.Files.{file_at, is_directory, is_regular}
use Rattle.bx_model.specs.bx_tree_files.specs.Names.{names_of}
use Rattle.bx_model.specs.bx_tree_files.specs.Times.{Time, is_given, time_of}
use Rattle.bx_model.specs.bx_tree_files.specs.declared.file.Body.TheVariants as body
use Rattle.bx_model.specs.bx_tree_files.specs.declared.file.File.{File}
use Rattle.bx_model.specs.bx_tree_files.specs.declared.file.Name.{Name}
use Rattle.bx_model.specs.bx_tree_files.specs.declared.sattr.Sattr.{Sattr}
use Rattle.bx_model.specs.declared.call.Args.{Args}
use Rattle.bx_model.specs.declared.call.Args.TheVariants as args
use Rattle.bx_model.specs.declared.call.Call.{Call}
use Rattle.bx_model.specs.declared.permissions.Want.TheVariants as want
use Rattle.bx_model.specs.declared.reply.Reply.{Reply}
use Rattle.bx_model.specs.declared.reply.Reply.TheVariants as reply_to
use Rattle.bx_model.specs.declared.reply.Reply.TheVariants.{Status}
use Rattle.bx_model.specs.declared.status.TheConstants.{ACCES, DQUOT, EXIST, ISDIR, NFS_OK, NOENT, NOTDIR, NOTEMPTY, PERM, STALE}
use Rattle.bx_model.specs.declared.tree.Tree.{Tree}
use Rattle.bx_steps.specs.Steps as steps
use Rattle.bx_tree_laws.proofs.Readings.{getattr_same, lookup_same, read_same, readdir_same, readlink_same, statfs_same}

second : (one other : Reply × Tree) → ◌≡◌ {A = Option (Reply × Tree)} (Some one) (Some other) → one.1 ≡ other.1
second one other e = let is : one ≡ other = cc in ap (λ (p : Reply × Tree). p.1) is

-- the volume is the same, and has as many areas
pub record Same (tree next : Tree) : Type 0 where
  pub volume : next.volume ≡ tree.volume
  pub areas : next.areas ≡ tree.areas

same : (tree : Tree) → Same tree tree
same tree = record { volume = refl; areas = refl }

-- so where a file is changed, taken out, or new
after_change : (tree next : Tree) (handle : ℕ) (change : File → File) → Same tree next → Same tree (changed next handle change)
after_change tree next handle change keeps = record { volume = keeps.volume; areas = keeps.areas }

after_less : (tree next : Tree) (handle : ℕ) → Same tree next → Same tree (without next handle)
after_less tree next handle keeps = record { volume = keeps.volume; areas = keeps.areas }

after_more : (tree next : Tree) (directory : ℕ) (name : List ℕ) (now : Time) (file : File) → Same tree next → Same tree (with_made next directory name now file)
after_more tree next directory name now file keeps = record { volume = keeps.volume; areas = keeps.areas }

after_unlink : (tree next : Tree) (now : Time) (handle nlink : ℕ) → Same tree next → Same tree (without_link now next handle nlink)
after_unlink tree next now handle nlink keeps = by (nat_le nlink 1)
  where
    by : (b : Bool) → Same tree (if b then without next handle else changed next handle (unlinked now))
    by true = after_less tree next handle keeps
    by false = after_change tree next handle (unlinked now) keeps

after_replaced : (tree : Tree) (now : Time) (target : File) (name : List ℕ) (replaced : Option File) → Same tree (without_replaced now tree target name replaced)
after_replaced tree now target name None = same tree
after_replaced tree now target name (Some file) = by (is_directory file)
  where
    left : (counts : Bool) → Same tree (changed tree target.handle (taken_out now name counts))
    left counts = after_change tree tree target.handle (taken_out now name counts) (same tree)

    by : (b : Bool) → Same tree (if b then without (changed tree target.handle (taken_out now name b)) file.handle else without_link now (changed tree target.handle (taken_out now name b)) file.handle file.nlink)
    by true = after_less tree (changed tree target.handle (taken_out now name true)) file.handle (left true)
    by false = after_unlink tree (changed tree target.handle (taken_out now name false)) now file.handle file.nlink (left false)

after_move : (tree next : Tree) (now : Time) (source : File) (name : List ℕ) (target : File) (new_name : List ℕ) (moved : File) (counts : Bool) → Same tree next → Same tree (with_moved now next source name target new_name moved counts)
after_move tree next now source name target new_name moved counts keeps = record { volume = keeps.volume; areas = keeps.areas }

-- ---- what a procedure comes to, line by line

-- what is said of a value, if there is one
record On {A : Type 0} (P : A → Type 0) (outcome : Result A ℕ) : Type 0 where
  each : (value : A) → outcome ≡ Ok value → P value

is_value : {A : Type 0} (one other : A) → ◌≡◌ {A = Result A ℕ} (Ok one) (Ok other) → one ≡ other
is_value one other e = cc

only : {A : Type 0} (P : A → Type 0) (value : A) → P value → On P (Ok value)
only P value is = record { each = λ other e. subst P (is_value value other e) is }

none : {A : Type 0} (P : A → Type 0) (status : ℕ) → On P (Err status)
none P status = record { each = λ other e. absurd cc }

line : {A B : Type 0} (P : B → Type 0) (first : Result A ℕ) (next : A → Result B ℕ) → ((value : A) → On P (next value)) → On P (first >>= next)
line P (Ok value) next keeps = keeps value
line P (Err status) next keeps = none P status

check : {B : Type 0} (P : B → Type 0) (first : Result (Unit {0}) ℕ) (next : Result B ℕ) → On P next → On P (first >> next)
check P (Ok done) next keeps = keeps
check P (Err status) next keeps = none P status

either : {B : Type 0} (P : B → Type 0) (b : Bool) (one other : Result B ℕ) → On P one → On P other → On P (if b then one else other)
either P true one other here there = here
either P false one other here there = there

module _ (tree : Tree) where
  abbrev After : Reply × Tree → Type 0
  After outcome = Same tree outcome.1

  abbrev Leaves : Step → Type 0
  Leaves (Gives reply next) = Same tree next
  Leaves (Makes file) = (made : ℕ) → Same tree (file made).1

  -- what only reads leaves the tree
  reads : (outcome : Outcome) → ((answer : Reply) (after : Tree) → outcome ≡ Ok (answer, after) → tree ≡ after) → On After outcome
  reads outcome stays = record { each = λ value e. subst (Same tree) (stays value.0 value.1 e) (same tree) }

  sets : (call : Call) (at : List ℕ) (sattr : Sattr) (now : Time) → On After (setattr tree call at sattr now)
  sets call at sattr now = line After (must (named_file tree at) STALE) _ (λ (file : File). check After (refuse (is_forbidden call file sattr) PERM) _ (check After (resize_errors call file sattr.size) _
      (only After (attributes_reply tree (with_fields now sattr file), changed tree file.handle (with_fields now sattr)) (after_change tree tree file.handle (with_fields now sattr) (same tree)))))

  writes : (call : Call) (at : List ℕ) (offset : ℕ) (written : List ℕ) (now : Time) (spare : ℕ) → On After (write tree call at offset written now spare)
  writes call at offset written now spare = line After (must (named_file tree at) STALE) _ (λ (file : File). check After (write_errors call file offset (length written) spare) _
      (either After (length written == 0) _ _ (only After (attributes_reply tree file, tree) (same tree))
      (only After (attributes_reply tree (with_data now offset written file), changed tree file.handle (with_data now offset written)) (after_change tree tree file.handle (with_data now offset written) (same tree)))))

  removes : (call : Call) (at name : List ℕ) (now : Time) → On After (remove tree call at name now)
  removes call at name now = line After (file_to_remove tree call at name) _ (λ (found : File × File). check After (refuse (is_directory found.1) ISDIR) _
      (only After (Status NFS_OK, without_link now (changed tree found.0.handle (taken_out now name false)) found.1.handle found.1.nlink)
      (after_unlink tree (changed tree found.0.handle (taken_out now name false)) now found.1.handle found.1.nlink (after_change tree tree found.0.handle (taken_out now name false) (same tree)))))

  removes_directory : (call : Call) (at name : List ℕ) (now : Time) → On After (rmdir tree call at name now)
  removes_directory call at name now = line After (file_to_remove tree call at name) _ (λ (found : File × File). check After (refuse (not (is_directory found.1)) NOTDIR) _ (check After (refuse (has_entries found.1) NOTEMPTY) _
      (only After (Status NFS_OK, without (changed tree found.0.handle (taken_out now name true)) found.1.handle)
      (after_less tree (changed tree found.0.handle (taken_out now name true)) found.1.handle (after_change tree tree found.0.handle (taken_out now name true) (same tree))))))

  links : (call : Call) (from at name : List ℕ) (now : Time) (spare : ℕ) → On After (link tree call from at name now spare)
  links call from at name now spare = line After (must (named_file tree from) STALE) _ (λ (file : File). line After (directory_to_change tree call at name) _ (λ (directory : File).
      check After (refuse (is_directory file) PERM) _ (check After (refuse (has_entry directory name) EXIST) _ (check After (refuse (nat_le 32000 file.nlink) DQUOT) _ (check After (entry_errors directory spare) _
      (only After (Status NFS_OK, changed (changed tree directory.handle (entered now name file.handle false)) file.handle (linked now))
      (after_change tree (changed tree directory.handle (entered now name file.handle false)) file.handle (linked now) (after_change tree tree directory.handle (entered now name file.handle false) (same tree)))))))))

  moves : (source target moved : File) (name new_name : List ℕ) (now : Time) (spare : ℕ) (replaced : Option File) → On After (if is_same moved replaced then Ok (Status NFS_OK, tree)
      else (move_errors tree source target moved replaced spare >> Ok (Status NFS_OK, renamed now tree source name target new_name moved replaced)))
  moves source target moved name new_name now spare replaced = either After (is_same moved replaced) _ _ (only After (Status NFS_OK, tree) (same tree)) (check After (move_errors tree source target moved replaced spare) _
      (only After (Status NFS_OK, renamed now tree source name target new_name moved replaced)
      (after_move tree (without_replaced now tree target new_name replaced) now source name target new_name moved (changes_parent source target moved) (after_replaced tree now target new_name replaced))))

  renames : (call : Call) (from name to new_name : List ℕ) (now : Time) (spare : ℕ) → On After (rename tree call from name to new_name now spare)
  renames call from name to new_name now spare = line After (must (named_file tree from) STALE) _ (λ (source : File). line After (must (named_file tree to) STALE) _ (λ (target : File).
      check After (refuse (not (is_directory source)) NOTDIR) _ (check After (refuse (not (is_directory target)) NOTDIR) _ (check After (refuse (is_bad name) ACCES) _ (check After (refuse (is_bad new_name) ACCES) _
      (check After (refuse (not (may call source want.Change)) ACCES) _ (check After (refuse (not (may call target want.Change)) ACCES) _
      (line After (must (entry_named (names_of source.body) name) NOENT) _ (λ (entry : Name). line After (must (file_at tree.files entry.handle) STALE) _ (λ (moved : File).
      line After (file_of_entry tree (entry_named (names_of target.body) new_name)) _ (λ (replaced : Option File). moves source target moved name new_name now spare replaced)))))))))))

  -- ---- those that make files

  makes_link : (call : Call) (at name path : List ℕ) (sattr : Sattr) (now : Time) (spare : ℕ) → On Leaves (symlink tree call at name path sattr now spare)
  makes_link call at name path sattr now spare = line Leaves (new_place tree call at name spare) _ (λ (directory : File).
      only Leaves (Makes (λ made. (Status NFS_OK, with_made tree directory.handle name now (new_file call sattr now 0o777 made (body.Path path)))))
      (λ made. after_more tree tree directory.handle name now (new_file call sattr now 0o777 made (body.Path path)) (same tree)))

  makes_directory : (call : Call) (at name : List ℕ) (sattr : Sattr) (now : Time) (spare : ℕ) → On Leaves (mkdir tree call at name sattr now spare)
  makes_directory call at name sattr now spare = line Leaves (new_place tree call at name spare) _ (λ (directory : File).
      only Leaves (Makes (λ made. (handle_reply tree (new_file call sattr now 0o755 made (body.Names directory.handle 3 [])), with_made tree directory.handle name now (new_file call sattr now 0o755 made (body.Names directory.handle 3 [])))))
      (λ made. after_more tree tree directory.handle name now (new_file call sattr now 0o755 made (body.Names directory.handle 3 [])) (same tree)))

  creates : (call : Call) (at name : List ℕ) (sattr : Sattr) (now : Time) (spare : ℕ) → On Leaves (create tree call at name sattr now spare)
  creates call at name sattr now spare = line Leaves (searched_directory tree call at name) _ (λ (directory : File). by directory (entry_named (names_of directory.body) name))
    where
      by : (directory : File) (found : Option Name) → On Leaves (create_at tree call directory name sattr now spare found)
      by directory None = check Leaves (create_errors call directory sattr spare) _ (only Leaves (Makes (created tree call directory.handle name sattr now))
          (λ made. record { volume = refl; areas = refl }))
      by directory (Some entry) = line Leaves (must (file_at tree.files entry.handle) STALE) _ (λ (file : File). check Leaves (refuse (not (is_regular file)) EXIST) _ (check Leaves (resize_errors call file sattr.size) _
          (either Leaves (is_given sattr.size) _ _
          (only Leaves (Gives (handle_reply tree (with_size now sattr.size file)) (changed tree file.handle (with_size now sattr.size))) (after_change tree tree file.handle (with_size now sattr.size) (same tree)))
          (only Leaves (Gives (handle_reply tree file) tree) (same tree)))))

  -- ---- each call

  module _ (made : ℕ) (reply : Reply) (next : Tree) where
    plainly_same : (outcome : Outcome) → On After outcome → plainly tree made outcome ≡ Some (reply, next) → Same tree next
    plainly_same outcome keeps = by (made == 0) outcome keeps
      where
        by : (b : Bool) (outcome : Outcome) → On After outcome → ◌≡◌ {A = Option (Reply × Tree)} (if b then Some (done tree outcome) else None) (Some (reply, next)) → Same tree next
        by false outcome keeps e = absurd cc
        by true (Err status) keeps e = subst (Same tree) (second (Status status, tree) (reply, next) e) (same tree)
        by true (Ok outcome) keeps e = subst (Same tree) (second outcome (reply, next) e) (keeps.each outcome refl)

    taken_same : (making : Making) → On Leaves making → taken tree made making ≡ Some (reply, next) → Same tree next
    taken_same (Err status) keeps e = by (made == 0) e
      where
        by : (b : Bool) → ◌≡◌ {A = Option (Reply × Tree)} (if b then Some (Status status, tree) else None) (Some (reply, next)) → Same tree next
        by false e = absurd cc
        by true e = subst (Same tree) (second (Status status, tree) (reply, next) e) (same tree)
    taken_same (Ok (Gives answer after)) keeps e = by (made == 0) e
      where
        by : (b : Bool) → ◌≡◌ {A = Option (Reply × Tree)} (if b then Some (answer, after) else None) (Some (reply, next)) → Same tree next
        by false e = absurd cc
        by true e = subst (Same tree) (second (answer, after) (reply, next) e) (keeps.each (Gives answer after) refl)
    taken_same (Ok (Makes file)) keeps e = by (is_unused tree made) e
      where
        by : (b : Bool) → ◌≡◌ {A = Option (Reply × Tree)} (if b then Some (file made) else None) (Some (reply, next)) → Same tree next
        by false e = absurd cc
        by true e = subst (Same tree) (second (file made) (reply, next) e) (keeps.each (Makes file) refl made)

    given_same : (call : Call) (now : Time) (spare : ℕ) (arguments : Args) → given tree call now spare made arguments ≡ Some (reply, next) → Same tree next
    given_same call now spare (args.Refused number) e = plainly_same (Ok (reply_to.Refused number call.program, tree)) (only After (reply_to.Refused number call.program, tree) (same tree)) e
    given_same call now spare args.Nothing e = plainly_same (Ok (plain call.program call.procedure, tree)) (only After (plain call.program call.procedure, tree) (same tree)) e
    given_same call now spare (args.Path path) e = plainly_same (Ok (mount tree call.procedure path, tree)) (only After (mount tree call.procedure path, tree) (same tree)) e
    given_same call now spare (args.Handle at) e = plainly_same (about_file tree call.procedure at spare)
        (either After (call.procedure == 5) _ _ (reads (readlink tree at) (λ answer after is. readlink_same tree after answer at is))
        (either After (call.procedure == 17) _ _ (reads (statfs tree at spare) (λ answer after is. statfs_same tree after answer at spare is)) (reads (getattr tree at) (λ answer after is. getattr_same tree after answer at is)))) e
    given_same call now spare (args.Set at sattr) e = plainly_same (setattr tree call at sattr now) (sets call at sattr now) e
    given_same call now spare (args.Name at name) e = plainly_same (about_name tree call at name now)
        (either After (call.procedure == 10) _ _ (removes call at name now) (either After (call.procedure == 15) _ _ (removes_directory call at name now) (reads (lookup tree call at name) (λ answer after is. lookup_same tree after answer call at name is)))) e
    given_same call now spare (args.Read at offset count total) e = plainly_same (read tree call at offset count) (reads (read tree call at offset count) (λ answer after is. read_same tree after answer call at offset count is)) e
    given_same call now spare (args.Write at begin offset total written) e = plainly_same (write tree call at offset written now spare) (writes call at offset written now spare) e
    given_same call now spare (args.Rename from name to new_name) e = plainly_same (rename tree call from name to new_name now spare) (renames call from name to new_name now spare) e
    given_same call now spare (args.Link from at name) e = plainly_same (link tree call from at name now spare) (links call from at name now spare) e
    given_same call now spare (args.List at cookie count) e = plainly_same (readdir tree call at cookie count) (reads (readdir tree call at cookie count) (λ answer after is. readdir_same tree after answer call at cookie count is)) e
    given_same call now spare (args.Make at name sattr) e = taken_same (about_new tree call at name sattr now spare) (either Leaves (call.procedure == 14) _ _ (makes_directory call at name sattr now spare) (creates call at name sattr now spare)) e
    given_same call now spare (args.Symlink at name path sattr) e = taken_same (symlink tree call at name path sattr now spare) (makes_link call at name path sattr now spare) e

-- So along a history.
pub leads_same : (first : Tree) (history : List Entry) (last : Tree) → LeadsNewest (StepOf steps.StepOfTree) first history last → Same first last
leads_same first [] last leads = subst (Same first) (sym leads) (same first)
leads_same first (entry ∷ earlier) last (middle, before, step) =
    let one = leads_same first earlier middle before in
    let more = given_same middle entry.made step.reply last step.call (time_of entry.moment) entry.spare step.call.args step.acts in
    record { volume = more.volume ∙ one.volume; areas = more.areas ∙ one.areas }
