-- What replies tell how many blocks are free: NOSPC, which comes only where fewer than 8 are, and what STATFS answers.
use Rattle.std.proofs.Common.{◌≡◌, ◌∙◌, ℕ, Bool, true, false, List, Option, Some, None, refl, sym, ap, subst, inl, inr}
use Rattle.std.specs.Str.{bytes_eq}
use Rattle.std.specs.Prelude.{◌⊎◌, ◌≢◌, ◌*◌, [], ◌∷◌, codes, ◌==◌, ◌&&◌, nat_le, nat_lt, not, if◌then◌else◌, length, ◌+◌, Result, Ok, Err}
use Rattle.bx_model.specs.declared.call.Args.{Args}
use Rattle.bx_model.specs.declared.call.Args.TheVariants as args
use Rattle.bx_model.specs.declared.call.Call.{Call}
use Rattle.bx_model.specs.declared.reply.Reply.{Reply}
use Rattle.bx_model.specs.declared.reply.Reply.TheVariants.{Status, Space}
use Rattle.bx_model.specs.declared.reply.Reply.TheVariants as replies
use Rattle.bx_places.specs.Handles.{file_text}
use Rattle.bx_truth.proofs.Cases.{eq_false, same_or}
use Rattle.bx_model.specs.declared.tree.Tree.{Tree}
use Rattle.bx_model.specs.Act.{about_file, about_name, about_new, act, given}
use Rattle.bx_model.specs.Directories.{readdir}
use Rattle.bx_model.specs.Edits.{is_unused}
use Rattle.bx_model.specs.History.{tells_spare}
use Rattle.bx_model.specs.declared.permissions.Want.TheVariants as want
use Rattle.bx_model.specs.Making.{create, create_at, create_errors, create_over, directory_to_change, entry_errors, has_entry, link, mkdir, new_place, searched_directory, symlink}
use Rattle.bx_model.specs.Mounting.{mount, plain}
use Rattle.bx_model.specs.Permissions.{may}
use Rattle.bx_model.specs.Reading.{getattr, lookup, meant, named_file, read, readlink, statfs}
use Rattle.bx_model.specs.Removing.{file_to_remove, has_entries, remove, rmdir}
use Rattle.bx_model.specs.Renaming.{changes_parent, file_of_entry, is_same, leads_by, move_errors, rename, replace_errors}
use Rattle.bx_model.specs.Steps.{Making, Outcome, Step, must, plainly, refuse, taken, ◌>>=◌, ◌>>◌}
use Rattle.bx_model.specs.Steps.Step.{Gives, Makes}
use Rattle.bx_model.specs.Writing.{is_forbidden, is_full, resize_errors, setattr, write, write_errors}
use Rattle.bx_tree_files.specs.declared.file.File.{File}
use Rattle.bx_tree_files.specs.declared.file.Name.{Name}
use Rattle.bx_tree_files.specs.declared.sattr.Sattr.{Sattr}
use Rattle.bx_tree_files.specs.Changes.{most_bytes}
use Rattle.bx_tree_files.specs.Entries.{entry_named, is_bad}
use Rattle.bx_tree_files.specs.Files.{file_at, is_directory, is_link, is_regular}
use Rattle.bx_tree_files.specs.Names.{names_of, next_of}
use Rattle.bx_tree_files.specs.Times.{Time, is_given, time_of}

-- a status is a byte
abbrev is_small : Reply → Bool
is_small (Status status) = nat_lt status 256
is_small _ = true

-- a reply that tells nothing of free blocks
abbrev pub is_quiet : Reply → Bool
is_quiet reply = is_small reply && not (tells_spare reply)

pub quiet_tells : (reply : Reply) → is_quiet reply ≡ true → tells_spare reply ≡ false
quiet_tells reply quiet = by (is_small reply) (tells_spare reply) quiet
  where
    by : (a b : Bool) → (a && not b) ≡ true → b ≡ false
    by a false is = refl
    by true true is = absurd cc
    by false true is = absurd cc

-- what is answered where so many blocks are free
abbrev pub IsTold : ℕ → Reply → Type 0
IsTold spare reply = (is_quiet reply ≡ true) ⊎ ((reply ≡ Status 28) × (is_full spare ≡ true))

-- STATFS comes to no error
abbrev pub IsSpaceOf : Call → Reply → Type 0
IsSpaceOf call reply = (at : List ℕ) × (call.args ≡ args.Handle at) × (call.procedure ≡ 17) × (numbers : List ℕ) × (reply ≡ Space numbers)

module _ (spare : ℕ) where
  -- an error is a status that may be answered, and a value is right
  abbrev In : {B : Type 0} → (B → Type 0) → Result B ℕ → Type 0
  In Right (Ok value) = Right value
  In Right (Err status) = IsTold spare (Status status)

  abbrev Any : {B : Type 0} → B → Type 0
  Any value = Unit {0}

  after : {A B : Type 0} (Right : B → Type 0) (r : Result A ℕ) (next : A → Result B ℕ) → In Any r → ((a : A) → In Right (next a)) → In Right (r >>= next)
  after Right (Ok a) next is so = so a
  after Right (Err status) next is so = is

  behind : {B : Type 0} (Right : B → Type 0) (r : Result (Unit {0}) ℕ) (next : Result B ℕ) → In Any r → In Right next → In Right (r >> next)
  behind Right (Ok a) next is so = so
  behind Right (Err status) next is so = is

  found : {A B : Type 0} (Right : B → Type 0) (o : Option A) (status : ℕ) (next : A → Result B ℕ) → is_quiet (Status status) ≡ true → ((a : A) → In Right (next a)) → In Right (must o status >>= next)
  found Right (Some a) status next quiet so = so a
  found Right None status next quiet so = inl quiet

  refused : (test : Bool) (status : ℕ) → is_quiet (Status status) ≡ true → In Any (refuse test status)
  refused true status quiet = inl quiet
  refused false status quiet = tt

  passed : {B : Type 0} (Right : B → Type 0) (test : Bool) (status : ℕ) (next : Result B ℕ) → is_quiet (Status status) ≡ true → In Right next → In Right (refuse test status >> next)
  passed Right true status next quiet so = inl quiet
  passed Right false status next quiet so = so

  full : (test : Bool) → (test ≡ true → is_full spare ≡ true) → In Any (refuse test 28)
  full true so = inr (refl, so refl)
  full false so = tt

  either : {B : Type 0} (Right : B → Type 0) (test : Bool) (one other : Result B ℕ) → In Right one → In Right other → In Right (if test then one else other)
  either Right true one other a b = a
  either Right false one other a b = b

  both : (a b : Bool) → (a && b) ≡ true → b ≡ true
  both true b is = is
  both false b is = absurd cc

  -- what a procedure gives
  abbrev Told : Reply × Tree → Type 0
  Told given = IsTold spare given.0

  abbrev ToldStep : Step → Type 0
  ToldStep (Gives reply next) = IsTold spare reply
  ToldStep (Makes file) = (made : ℕ) → IsTold spare (file made).0

  module _ (tree : Tree) (call : Call) where
    -- ---- errors that several have

    resize_told : (file : File) (size : ℕ) → In Any (resize_errors call file size)
    resize_told file size =
        passed Any (is_given size && is_directory file) 21 _ refl
        (passed Any (is_given size && is_link file) 6 _ refl
        (passed Any (is_given size && not (may call file want.Write)) 13 _ refl (refused (is_given size && nat_lt most_bytes size) 27 refl)))

    entry_told : (directory : File) → In Any (entry_errors directory spare)
    entry_told directory = passed Any (nat_le 4294967295 (next_of directory.body)) 69 _ refl (full (is_full spare) (λ is. is))

    directory_told : (at name : List ℕ) → In Any (directory_to_change tree call at name)
    directory_told at name =
        found Any (named_file tree at) 70 _ refl λ directory.
        passed Any (not (is_directory directory)) 20 _ refl
        (passed Any (is_bad name) 13 _ refl
        (passed Any (not (may call directory want.Change)) 13 (Ok directory) refl tt))

    place_told : (at name : List ℕ) → In Any (new_place tree call at name spare)
    place_told at name =
        after Any (directory_to_change tree call at name) _ (directory_told at name) λ directory.
        passed Any (has_entry directory name) 17 _ refl
        (behind Any (entry_errors directory spare) (Ok directory) (entry_told directory) tt)

    -- ---- the procedures that change nothing

    getattr_told : (at : List ℕ) → In Told (getattr tree at)
    getattr_told at = found Told (named_file tree at) 70 _ refl λ file. inl refl

    readlink_told : (at : List ℕ) → In Told (readlink tree at)
    readlink_told at = found Told (named_file tree at) 70 _ refl λ file. passed Told (not (is_link file)) 6 _ refl (inl refl)

    lookup_told : (at name : List ℕ) → In Told (lookup tree call at name)
    lookup_told at name =
        found Told (named_file tree at) 70 _ refl λ directory.
        passed Told (not (is_directory directory)) 20 _ refl
        (passed Told (not (may call directory want.Search)) 13 _ refl (found Told (meant tree directory name) 2 _ refl λ file. inl refl))

    read_told : (at : List ℕ) (offset count : ℕ) → In Told (read tree call at offset count)
    read_told at offset count =
        found Told (named_file tree at) 70 _ refl λ file.
        passed Told (is_directory file) 21 _ refl (passed Told (is_link file) 6 _ refl (passed Told (not (may call file want.Read)) 13 _ refl (inl refl)))

    readdir_told : (at : List ℕ) (cookie count : ℕ) → In Told (readdir tree call at cookie count)
    readdir_told at cookie count =
        found Told (named_file tree at) 70 _ refl λ directory.
        passed Told (not (is_directory directory)) 20 _ refl (passed Told (not (may call directory want.List)) 13 _ refl (inl refl))

    -- ---- those that make no file

    module _ (now : Time) where
      setattr_told : (at : List ℕ) (sattr : Sattr) → In Told (setattr tree call at sattr now)
      setattr_told at sattr =
          found Told (named_file tree at) 70 _ refl λ file.
          passed Told (is_forbidden call file sattr) 1 _ refl (behind Told (resize_errors call file sattr.size) _ (resize_told file sattr.size) (inl refl))

      write_refused : (file : File) (offset count : ℕ) → In Any (write_errors call file offset count spare)
      write_refused file offset count =
          passed Any (is_directory file) 21 _ refl
          (passed Any (is_link file) 6 _ refl
          (passed Any (not (may call file want.Write)) 13 _ refl
          (passed Any (nat_lt 0 count && nat_lt most_bytes (offset + count)) 27 _ refl (full (nat_lt 0 count && is_full spare) (both (nat_lt 0 count) (is_full spare))))))

      write_told : (at : List ℕ) (offset : ℕ) (written : List ℕ) → In Told (write tree call at offset written now spare)
      write_told at offset written =
          found Told (named_file tree at) 70 _ refl λ file.
          behind Told (write_errors call file offset (length written) spare) _ (write_refused file offset (length written)) (either Told (length written == 0) _ _ (inl refl) (inl refl))

      removed_told : (at name : List ℕ) → In Any (file_to_remove tree call at name)
      removed_told at name =
          after Any (directory_to_change tree call at name) _ (directory_told at name) λ directory.
          found Any (entry_named (names_of directory.body) name) 2 _ refl λ entry.
          found Any (file_at tree.files entry.handle) 70 _ refl λ file. tt

      remove_told : (at name : List ℕ) → In Told (remove tree call at name now)
      remove_told at name =
          after Told (file_to_remove tree call at name) _ (removed_told at name) λ pair. passed Told (is_directory pair.1) 21 _ refl (inl refl)

      rmdir_told : (at name : List ℕ) → In Told (rmdir tree call at name now)
      rmdir_told at name =
          after Told (file_to_remove tree call at name) _ (removed_told at name) λ pair.
          passed Told (not (is_directory pair.1)) 20 _ refl (passed Told (has_entries pair.1) 66 _ refl (inl refl))

      link_told : (from at name : List ℕ) → In Told (link tree call from at name now spare)
      link_told from at name =
          found Told (named_file tree from) 70 _ refl λ file.
          after Told (directory_to_change tree call at name) _ (directory_told at name) λ directory.
          passed Told (is_directory file) 1 _ refl
          (passed Told (has_entry directory name) 17 _ refl
          (passed Told (nat_le 32000 file.nlink) 69 _ refl (behind Told (entry_errors directory spare) _ (entry_told directory) (inl refl))))

      entry_file_told : (entry : Option Name) → In Any (file_of_entry tree entry)
      entry_file_told None = tt
      entry_file_told (Some entry) = found Any (file_at tree.files entry.handle) 70 _ refl λ file. tt

      replace_told : (moved : File) (replaced : Option File) → In Any (replace_errors moved replaced)
      replace_told moved None = tt
      replace_told moved (Some replaced) =
          passed Any (is_directory moved && not (is_directory replaced)) 20 _ refl
          (passed Any (not (is_directory moved) && is_directory replaced) 21 _ refl (refused (has_entries replaced) 66 refl))

      move_told : (source target moved : File) (replaced : Option File) → In Any (move_errors tree source target moved replaced spare)
      move_told source target moved replaced =
          passed Any (changes_parent source target moved && leads_by tree target moved.handle) 1 _ refl
          (passed Any (changes_parent source target moved && not (leads_by tree target tree.root)) 63 _ refl
          (behind Any (replace_errors moved replaced) _ (replace_told moved replaced) (entry_told target)))

      rename_told : (from name to new_name : List ℕ) → In Told (rename tree call from name to new_name now spare)
      rename_told from name to new_name =
          found Told (named_file tree from) 70 _ refl λ source.
          found Told (named_file tree to) 70 _ refl λ target.
          passed Told (not (is_directory source)) 20 _ refl
          (passed Told (not (is_directory target)) 20 _ refl
          (passed Told (is_bad name) 13 _ refl
          (passed Told (is_bad new_name) 13 _ refl
          (passed Told (not (may call source want.Change)) 13 _ refl
          (passed Told (not (may call target want.Change)) 13 _ refl
          (found Told (entry_named (names_of source.body) name) 2 _ refl λ entry.
          found Told (file_at tree.files entry.handle) 70 _ refl λ moved.
          after Told (file_of_entry tree (entry_named (names_of target.body) new_name)) _ (entry_file_told (entry_named (names_of target.body) new_name)) λ replaced.
          either Told (is_same moved replaced) _ _ (inl refl)
          (behind Told (move_errors tree source target moved replaced spare) _ (move_told source target moved replaced) (inl refl))))))))

      -- ---- those that may make one

      over_told : (handle : ℕ) (sattr : Sattr) → In ToldStep (create_over tree call handle sattr now)
      over_told handle sattr =
          found ToldStep (file_at tree.files handle) 70 _ refl λ file.
          passed ToldStep (not (is_regular file)) 17 _ refl
          (behind ToldStep (resize_errors call file sattr.size) _ (resize_told file sattr.size) (either ToldStep (is_given sattr.size) _ _ (inl refl) (inl refl)))

      errors_told : (directory : File) (sattr : Sattr) → In Any (create_errors call directory sattr spare)
      errors_told directory sattr =
          passed Any (not (may call directory want.Change)) 13 _ refl (passed Any (is_given sattr.size && nat_lt most_bytes sattr.size) 27 _ refl (entry_told directory))

      at_told : (directory : File) (name : List ℕ) (sattr : Sattr) (entry : Option Name) → In ToldStep (create_at tree call directory name sattr now spare entry)
      at_told directory name sattr None = behind ToldStep (create_errors call directory sattr spare) _ (errors_told directory sattr) (λ made. inl refl)
      at_told directory name sattr (Some entry) = over_told entry.handle sattr

      searched_told : (at name : List ℕ) → In Any (searched_directory tree call at name)
      searched_told at name =
          found Any (named_file tree at) 70 _ refl λ directory.
          passed Any (not (is_directory directory)) 20 _ refl
          (passed Any (is_bad name) 13 _ refl (passed Any (not (may call directory want.Search)) 13 (Ok directory) refl tt))

      create_told : (at name : List ℕ) (sattr : Sattr) → In ToldStep (create tree call at name sattr now spare)
      create_told at name sattr =
          after ToldStep (searched_directory tree call at name) _ (searched_told at name) λ directory. at_told directory name sattr (entry_named (names_of directory.body) name)

      mkdir_told : (at name : List ℕ) (sattr : Sattr) → In ToldStep (mkdir tree call at name sattr now spare)
      mkdir_told at name sattr = after ToldStep (new_place tree call at name spare) _ (place_told at name) λ directory made. inl refl

      symlink_told : (at name path : List ℕ) (sattr : Sattr) → In ToldStep (symlink tree call at name path sattr now spare)
      symlink_told at name path sattr = after ToldStep (new_place tree call at name spare) _ (place_told at name) λ directory made. inl refl

      -- ---- all calls

      some_same : (a b : Reply × Tree) → Some a ≡ Some b → a ≡ b
      some_same a b is = cc

      module _ (made : ℕ) (reply : Reply) (next : Tree) where
        of_pair : (given : Reply × Tree) → Some given ≡ Some (reply, next) → IsTold spare given.0 → IsTold spare reply
        of_pair given is told = subst (λ (p : Reply × Tree). IsTold spare p.0) (some_same given (reply, next) is) told

        if_pair : (test : Bool) (given : Reply × Tree) → (if test then Some given else None) ≡ Some (reply, next) → IsTold spare given.0 → IsTold spare reply
        if_pair true given is told = of_pair given is told
        if_pair false given is told = absurd cc

        plainly_told : (outcome : Outcome) → In Told outcome → plainly tree made outcome ≡ Some (reply, next) → IsTold spare reply
        plainly_told (Ok given) told is = if_pair (made == 0) given is told
        plainly_told (Err status) told is = if_pair (made == 0) (Status status, tree) is told

        taken_told : (making : Making) → In ToldStep making → taken tree made making ≡ Some (reply, next) → IsTold spare reply
        taken_told (Ok (Gives given after_it)) told is = if_pair (made == 0) (given, after_it) is told
        taken_told (Ok (Makes file)) told is = if_pair (is_unused tree made) (file made) is (told made)
        taken_told (Err status) told is = if_pair (made == 0) (Status status, tree) is told

        plain_told : (program procedure : ℕ) → IsTold spare (plain program procedure)
        plain_told program procedure = by ((program == 100005) && (procedure == 2)) ((program == 100005) && (procedure == 5))
          where
            by : (one other : Bool) → IsTold spare (if one then replies.Mounts else if other then replies.Exports else replies.Empty)
            by true other = inl refl
            by false true = inl refl
            by false false = inl refl

        mount_told : (procedure : ℕ) (path : List ℕ) → IsTold spare (mount tree procedure path)
        mount_told procedure path = by (procedure == 3) (bytes_eq path (codes "/"))
          where
            by : (one other : Bool) → IsTold spare (if one then replies.Empty else if other then replies.Mounted (file_text tree.volume tree.root) else Status 2)
            by true other = inl refl
            by false true = inl refl
            by false false = inl refl

        space_or : (found : Option File) → plainly tree made (must found 70 >>= (λ file. Ok (Space (8192 ∷ 4096 ∷ 960 * tree.areas ∷ spare ∷ spare ∷ []), tree))) ≡ Some (reply, next)
            → IsTold spare reply ⊎ ((numbers : List ℕ) × (reply ≡ Space numbers))
        space_or None is = inl (if_pair (made == 0) (Status 70, tree) is (inl refl))
        space_or (Some file) is = by (made == 0) is
          where
            answer : Reply × Tree
            answer = (Space (8192 ∷ 4096 ∷ 960 * tree.areas ∷ spare ∷ spare ∷ []), tree)

            by : (test : Bool) → (if test then Some answer else None) ≡ Some (reply, next) → IsTold spare reply ⊎ ((numbers : List ℕ) × (reply ≡ Space numbers))
            by true same = inr (8192 ∷ 4096 ∷ 960 * tree.areas ∷ spare ∷ spare ∷ [], ap (λ (p : Reply × Tree). p.0) (sym (some_same answer (reply, next) same)))
            by false same = absurd cc

        file_or : (at : List ℕ) (procedure : ℕ) → plainly tree made (about_file tree procedure at spare) ≡ Some (reply, next)
            → IsTold spare reply ⊎ ((procedure ≡ 17) × (numbers : List ℕ) × (reply ≡ Space numbers))
        file_or at procedure is = by (same_or procedure 5) (same_or procedure 17)
          where
            by : (procedure ≡ 5) ⊎ (procedure ≢ 5) → (procedure ≡ 17) ⊎ (procedure ≢ 17) → IsTold spare reply ⊎ ((procedure ≡ 17) × (numbers : List ℕ) × (reply ≡ Space numbers))
            by (inl five) other = inl (plainly_told (readlink tree at) (readlink_told at) (subst (λ (p : ℕ). plainly tree made (about_file tree p at spare) ≡ Some (reply, next)) five is))
            by (inr not_five) (inl asks) = case (space_or (named_file tree at) (subst (λ (p : ℕ). plainly tree made (about_file tree p at spare) ≡ Some (reply, next)) asks is))
              where
                case : IsTold spare reply ⊎ ((numbers : List ℕ) × (reply ≡ Space numbers)) → IsTold spare reply ⊎ ((procedure ≡ 17) × (numbers : List ℕ) × (reply ≡ Space numbers))
                case (inl told) = inl told
                case (inr space) = inr (asks, space.0, space.1)
            by (inr not_five) (inr other) = inl (plainly_told (getattr tree at) (getattr_told at) (subst2_is))
              where
                first : (procedure == 5) ≡ false
                first = eq_false procedure 5 not_five

                second : (procedure == 17) ≡ false
                second = eq_false procedure 17 other

                subst2_is : plainly tree made (getattr tree at) ≡ Some (reply, next)
                subst2_is = sym (ap (λ (t : Bool). plainly tree made (if t then readlink tree at else if procedure == 17 then statfs tree at spare else getattr tree at)) first
                    ∙ ap (λ (t : Bool). plainly tree made (if t then statfs tree at spare else getattr tree at)) second) ∙ is

        by_args : (what : Args) → given tree call now spare made what ≡ Some (reply, next) → IsTold spare reply ⊎ ((at : List ℕ) × (what ≡ args.Handle at) × (call.procedure ≡ 17) × (numbers : List ℕ) × (reply ≡ Space numbers))
        by_args (args.Refused number) is = inl (plainly_told (Ok (replies.Refused number call.program, tree)) (inl refl) is)
        by_args args.Nothing is = inl (plainly_told (Ok (plain call.program call.procedure, tree)) (plain_told call.program call.procedure) is)
        by_args (args.Path path) is = inl (plainly_told (Ok (mount tree call.procedure path, tree)) (mount_told call.procedure path) is)
        by_args (args.Handle at) is = case (file_or at call.procedure is)
          where
            case : IsTold spare reply ⊎ ((call.procedure ≡ 17) × (numbers : List ℕ) × (reply ≡ Space numbers)) → IsTold spare reply ⊎ ((other : List ℕ) × (args.Handle at ≡ args.Handle other) × (call.procedure ≡ 17) × (numbers : List ℕ) × (reply ≡ Space numbers))
            case (inl told) = inl told
            case (inr space) = inr (at, refl, space.0, space.1, space.2)
        by_args (args.Set at sattr) is = inl (plainly_told (setattr tree call at sattr now) (setattr_told at sattr) is)
        by_args (args.Name at name) is = inl (plainly_told (about_name tree call at name now) (either Told (call.procedure == 10) _ _ (remove_told at name) (either Told (call.procedure == 15) _ _ (rmdir_told at name) (lookup_told at name))) is)
        by_args (args.Read at offset count total) is = inl (plainly_told (read tree call at offset count) (read_told at offset count) is)
        by_args (args.Write at begin offset total written) is = inl (plainly_told (write tree call at offset written now spare) (write_told at offset written) is)
        by_args (args.Rename from name to new_name) is = inl (plainly_told (rename tree call from name to new_name now spare) (rename_told from name to new_name) is)
        by_args (args.Link from at name) is = inl (plainly_told (link tree call from at name now spare) (link_told from at name) is)
        by_args (args.List at cookie count) is = inl (plainly_told (readdir tree call at cookie count) (readdir_told at cookie count) is)
        by_args (args.Make at name sattr) is = inl (taken_told (about_new tree call at name sattr now spare) (either ToldStep (call.procedure == 14) _ _ (mkdir_told at name sattr) (create_told at name sattr)) is)
        by_args (args.Symlink at name path sattr) is = inl (taken_told (symlink tree call at name path sattr now spare) (symlink_told at name path sattr) is)

-- What a call is answered tells nothing of free blocks, or is NOSPC, or the call is STATFS.
pub reply_tells : (tree : Tree) (call : Call) (moment spare made : ℕ) (reply : Reply) (next : Tree) → act tree call moment spare made ≡ Some (reply, next) → IsTold spare reply ⊎ IsSpaceOf call reply
reply_tells tree call moment spare made reply next is = case (by_args spare tree call (time_of moment) made reply next call.args is)
  where
    case : IsTold spare reply ⊎ ((at : List ℕ) × (call.args ≡ args.Handle at) × (call.procedure ≡ 17) × (numbers : List ℕ) × (reply ≡ Space numbers)) → IsTold spare reply ⊎ IsSpaceOf call reply
    case (inl told) = inl told
    case (inr space) = inr space
