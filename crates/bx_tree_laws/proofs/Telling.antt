-- Each procedure that answers attributes answers those that the file then has.
use Rattle.std.proofs.Common.{◌≡◌, ℕ, ◌<◌, ◌^◌, Bool, true, false, List, [], replicate, Some, None, Option, refl, sym, ap, ◌∙◌, subst}
use Rattle.std.specs.Prelude.{◌==◌, not, if◌then◌else◌, length, codes, bytes_eq, option_and_then, Result, Ok}
use Rattle.std.proofs.lemmas.Option.{option_and_then_some}
use Rattle.bx_places.specs.Handles.{file_text}
use Rattle.bx_model.specs.declared.call.Args.{Args}
use Rattle.bx_model.specs.declared.call.Call.{Call}
use Rattle.bx_model.specs.bx_tree_files.specs.declared.sattr.Sattr.{Sattr}
use Rattle.bx_model.specs.bx_tree_files.specs.declared.file.Body.TheVariants as body
use Rattle.bx_model.specs.bx_tree_files.specs.declared.file.File.{File}
use Rattle.bx_model.specs.bx_tree_files.specs.declared.file.Name.{Name}
use Rattle.bx_model.specs.declared.permissions.Want.TheVariants as want
use Rattle.bx_model.specs.declared.reply.Reply.{Reply}
use Rattle.bx_model.specs.declared.reply.Reply.TheVariants as reply
use Rattle.bx_model.specs.declared.status.TheConstants.{ACCES, EXIST, ISDIR, NOENT, NOTDIR, NXIO, PERM, STALE}
use Rattle.bx_model.specs.declared.tree.Tree.{Tree}
use Rattle.bx_model.specs.bx_tree_files.specs.Attributes.{attributes_of}
use Rattle.bx_model.specs.Edits.{changed, is_unused}
use Rattle.bx_model.specs.bx_tree_files.specs.Entries.{entry_named}
use Rattle.bx_model.specs.bx_tree_files.specs.Files.{file_at, is_directory, is_link, is_regular, with_file}
use Rattle.bx_model.specs.FileTrees.{IsFileTree}
use Rattle.bx_model.specs.bx_tree_files.specs.Changes.{entered, with_data, with_fields, with_size}
use Rattle.bx_model.specs.Making.{create, create_at, create_errors, create_over, mkdir, new_file, new_place, searched_directory, with_made}
use Rattle.bx_model.specs.bx_tree_files.specs.Names.{names_of, parent_of}
use Rattle.bx_model.specs.Permissions.{may}
use Rattle.bx_model.specs.Reading.{attributes_reply, getattr, handle_reply, lookup, meant, named_file, read}
use Rattle.bx_model.specs.Steps.{Step}
use Rattle.bx_model.specs.Steps.Step.{Gives, Makes}
use Rattle.bx_model.specs.bx_tree_files.specs.Times.{Time, is_given}
use Rattle.bx_model.specs.Writing.{is_forbidden, resize_errors, setattr, write, write_errors}
use Rattle.bx_tree_laws.specs.Telling.{HandlesFit, Tells, handle_in}
use Rattle.bx_tree_laws.proofs.Lookups.{changed_here, changed_other, handle_at, some_same, with_here}
use Rattle.bx_tree_laws.proofs.Places.{place_is, searched_is, unused_gone}
use Rattle.bx_tree_laws.proofs.Members.{found_at}
use Rattle.bx_tree_laws.proofs.Removings.{stands}
use Rattle.bx_tree_laws.proofs.Steps.{after, after_bind, after_must, after_refuse}
use Rattle.bx_tree_laws.proofs.Told.{Has, found_changed, has_found, text_found}

-- what a reply tells holds of the tree then
abbrev pub IsTrue : Args → Reply → Tree → Type 0
IsTrue arguments answer next = (at words : List ℕ) → Tells arguments answer at words → Has next at words

abbrev pub StepIsTrue : Tree → Args → Step → Type 0
StepIsTrue tree arguments (Gives answer next) = IsTrue arguments answer next
StepIsTrue tree arguments (Makes file) = (made : ℕ) → is_unused tree made ≡ true → made < 2 ^ 64 → IsTrue arguments (file made).0 (file made).1

pub result_is : (arguments : Args) (answer given : Reply) (tree next : Tree) → ◌≡◌ {A = Result (Reply × Tree) ℕ} (Ok (answer, tree)) (Ok (given, next)) → IsTrue arguments answer tree → IsTrue arguments given next
result_is arguments answer given tree next e is = let same : ◌≡◌ {A = Reply × Tree} (answer, tree) (given, next) = cc in subst (λ (p : Reply × Tree). IsTrue arguments p.0 p.1) same is

pub step_true : (tree : Tree) (arguments : Args) (one other : Step) → ◌≡◌ {A = Result Step ℕ} (Ok one) (Ok other) → StepIsTrue tree arguments one → StepIsTrue tree arguments other
step_true tree arguments one other e is = let same : one ≡ other = cc in subst (StepIsTrue tree arguments) same is

module _ (tree next : Tree) (answer : Reply) (arguments : Args) where
  -- the attributes of the file that the call names
  named_true : (after : Tree) (at : List ℕ) (file : File) → handle_in arguments ≡ Some at → named_file after at ≡ Some file → IsTrue arguments (reply.Attributes (attributes_of after.volume file)) after
  named_true after at file is found other words (same, told) =
      let one : at ≡ other = some_same at other (sym is ∙ same) in
      subst (Has after other) told (subst (λ (a : List ℕ). Has after a (attributes_of after.volume file)) one (has_found after at file found))

  pub getattr_true : (at : List ℕ) → handle_in arguments ≡ Some at → getattr tree at ≡ Ok (answer, next) → IsTrue arguments answer next
  getattr_true at is e = after_must (named_file tree at) STALE _ (answer, next) e λ file found rest.
      result_is arguments _ answer tree next rest (named_true tree at file is found)

  pub setattr_true : (call : Call) (at : List ℕ) (sattr : Sattr) (now : Time) → handle_in arguments ≡ Some at → setattr tree call at sattr now ≡ Ok (answer, next) → IsTrue arguments answer next
  setattr_true call at sattr now is e =
      after_must (named_file tree at) STALE _ (answer, next) e λ file found rest.
      after_refuse (is_forbidden call file sattr) PERM _ (answer, next) rest λ allowed rest.
      after (resize_errors call file sattr.size) _ (answer, next) rest λ fits rest.
      result_is arguments _ answer _ next rest
      (named_true (changed tree file.handle (with_fields now sattr)) at (with_fields now sattr file) is (found_changed tree at file (with_fields now sattr) (λ f. refl) found))

  pub write_true : (call : Call) (at : List ℕ) (offset : ℕ) (written : List ℕ) (now : Time) (spare : ℕ) → handle_in arguments ≡ Some at → write tree call at offset written now spare ≡ Ok (answer, next) → IsTrue arguments answer next
  write_true call at offset written now spare is e =
      after_must (named_file tree at) STALE _ (answer, next) e λ file found rest.
      after (write_errors call file offset (length written) spare) _ (answer, next) rest λ allowed rest.
      by file found (length written == 0) rest
    where
      by : (file : File) → named_file tree at ≡ Some file → (b : Bool)
          → ◌≡◌ {A = Result (Reply × Tree) ℕ} (if b then Ok (attributes_reply tree file, tree) else Ok (attributes_reply tree (with_data now offset written file), changed tree file.handle (with_data now offset written))) (Ok (answer, next))
          → IsTrue arguments answer next
      by file found true rest = result_is arguments _ answer tree next rest (named_true tree at file is found)
      by file found false rest = result_is arguments _ answer _ next rest
          (named_true (changed tree file.handle (with_data now offset written)) at (with_data now offset written file) is (found_changed tree at file (with_data now offset written) (λ f. refl) found))

  pub read_true : (call : Call) (at : List ℕ) (offset count : ℕ) → handle_in arguments ≡ Some at → read tree call at offset count ≡ Ok (answer, next) → IsTrue arguments answer next
  read_true call at offset count is e =
      after_must (named_file tree at) STALE _ (answer, next) e λ file found rest.
      after_refuse (is_directory file) ISDIR _ (answer, next) rest λ directory rest.
      after_refuse (is_link file) NXIO _ (answer, next) rest λ link rest.
      after_refuse (not (may call file want.Read)) ACCES _ (answer, next) rest λ may rest.
      result_is arguments _ answer tree next rest (λ other words tells. named_true tree at file is found other words tells)

  -- a file handle, and the attributes of its file
  text_true : (volume : ℕ) (after : Tree) (handle : ℕ) (file : File) → after.volume ≡ volume → handle < 2 ^ 64 → file_at after.files handle ≡ Some file
      → IsTrue arguments (reply.Handle (file_text volume handle) (attributes_of volume file)) after
  text_true volume after handle file same fits is other words (text, told) =
      let found = text_found after handle file fits is in
      let attributes = has_found after (file_text after.volume handle) file found in
      subst (Has after other) told (subst (λ (a : List ℕ). Has after a (attributes_of volume file)) text
      (subst (λ (v : ℕ). Has after (file_text v handle) (attributes_of v file)) same attributes))

module _ (tree : Tree) (was : IsFileTree tree) (fit : HandlesFit tree) where
  fits_at : (handle : ℕ) (file : File) → file_at tree.files handle ≡ Some file → file.handle < 2 ^ 64
  fits_at handle file is = subst (λ (h : ℕ). h < 2 ^ 64) (sym (handle_at tree.files handle file is)) (fit handle (was.was_given handle file is))

  meant_stands : (directory : File) (name : List ℕ) (file : File) → file_at tree.files directory.handle ≡ Some directory → meant tree directory name ≡ Some file → file_at tree.files file.handle ≡ Some file
  meant_stands directory name file there e = by (bytes_eq name (codes ".")) (bytes_eq name (codes "..")) e
    where
      by : (b c : Bool) → (if b then Some directory else if c then file_at tree.files (parent_of directory.body) else option_and_then (λ entry. file_at tree.files entry.handle) (entry_named (names_of directory.body) name)) ≡ Some file
          → file_at tree.files file.handle ≡ Some file
      by true c e = let same : directory ≡ file = some_same directory file e in subst (λ (f : File). file_at tree.files f.handle ≡ Some f) same there
      by false true e = stands tree (parent_of directory.body) file e
      by false false e = option_and_then_some (λ entry. file_at tree.files entry.handle) (entry_named (names_of directory.body) name) file e (λ entry found is. stands tree entry.handle file is)

  pub lookup_true : (next : Tree) (answer : Reply) (arguments : Args) (call : Call) (at name : List ℕ) → lookup tree call at name ≡ Ok (answer, next) → IsTrue arguments answer next
  lookup_true next answer arguments call at name e =
      after_must (named_file tree at) STALE _ (answer, next) e λ directory found rest.
      after_refuse (not (is_directory directory)) NOTDIR _ (answer, next) rest λ is rest.
      after_refuse (not (may call directory want.Search)) ACCES _ (answer, next) rest λ may rest.
      after_must (meant tree directory name) NOENT _ (answer, next) rest λ file means rest.
      let there = meant_stands directory name file (found_at tree at directory found) means in
      result_is arguments _ answer tree next rest (text_true tree next answer arguments tree.volume tree file.handle file refl (fits_at file.handle file there) there)

  made_true : (arguments : Args) (at : ℕ) (directory : File) (name : List ℕ) (now : Time) (file : File) → file_at tree.files at ≡ Some directory → file_at tree.files file.handle ≡ None → file.handle < 2 ^ 64
      → IsTrue arguments (handle_reply tree file) (with_made tree at name now file)
  made_true arguments at directory name now file there gone fits =
      text_true tree tree (handle_reply tree file) arguments tree.volume (with_made tree at name now file) file.handle file refl fits
      (changed_other (with_file tree.files file) at (entered now name file.handle (is_directory file)) file.handle (λ f. refl) (λ e. conflict (sym gone ∙ ap (file_at tree.files) (sym e) ∙ there)) ∙ with_here tree.files file)
    where
      conflict : None ≡ Some directory → ⊥
      conflict e = cc

  module _ (arguments : Args) (call : Call) (at name : List ℕ) (sattr : Sattr) (now : Time) (spare : ℕ) (step : Step) where
    over_true : (handle : ℕ) → create_over tree call handle sattr now ≡ Ok step → StepIsTrue tree arguments step
    over_true handle e =
        after_must (file_at tree.files handle) STALE _ step e λ file found rest.
        after_refuse (not (is_regular file)) EXIST _ step rest λ regular rest.
        after (resize_errors call file sattr.size) _ step rest λ fits rest.
        by file found (is_given sattr.size) rest
      where
        by : (file : File) → file_at tree.files handle ≡ Some file → (b : Bool)
            → ◌≡◌ {A = Result Step ℕ} (if b then Ok (Gives (handle_reply tree (with_size now sattr.size file)) (changed tree file.handle (with_size now sattr.size))) else Ok (Gives (handle_reply tree file) tree)) (Ok step)
            → StepIsTrue tree arguments step
        by file found true rest = step_true tree arguments _ step rest
            (text_true tree tree (handle_reply tree file) arguments tree.volume (changed tree file.handle (with_size now sattr.size)) file.handle (with_size now sattr.size file) refl (fits_at handle file found)
            (changed_here tree.files file.handle (with_size now sattr.size) file (λ f. refl) (stands tree handle file found)))
        by file found false rest = step_true tree arguments _ step rest
            (text_true tree tree (handle_reply tree file) arguments tree.volume tree file.handle file refl (fits_at handle file found) (stands tree handle file found))

    pub create_true : create tree call at name sattr now spare ≡ Ok step → StepIsTrue tree arguments step
    create_true e =
        after_bind (searched_directory tree call at name) _ step e λ directory searched rest.
        by directory (searched_is tree call at name directory searched).there (entry_named (names_of directory.body) name) rest
      where
        by : (directory : File) → file_at tree.files directory.handle ≡ Some directory → (found : Option Name) → create_at tree call directory name sattr now spare found ≡ Ok step → StepIsTrue tree arguments step
        by directory there None rest =
            after (create_errors call directory sattr spare) _ step rest λ allowed rest.
            step_true tree arguments _ step rest (λ made unused fits. made_true arguments directory.handle directory name now (new_file call sattr now 0o644 made (body.Bytes (replicate (if is_given sattr.size then sattr.size else 0) 0))) there (unused_gone tree made was unused) fits)
        by directory there (Some entry) rest = over_true entry.handle rest

    pub mkdir_true : mkdir tree call at name sattr now spare ≡ Ok step → StepIsTrue tree arguments step
    mkdir_true e =
        after_bind (new_place tree call at name spare) _ step e λ directory placed rest.
        step_true tree arguments _ step rest
        (λ made unused fits. made_true arguments directory.handle directory name now (new_file call sattr now 0o755 made (body.Names directory.handle 3 [])) (place_is tree call at name spare directory placed).0.there (unused_gone tree made was unused) fits)
