-- What a procedure replies that comes to no error is no error: a status is 0.
use Rattle.std.proofs.Common.{◌≡◌, ℕ, Bool, true, false, List, Option, Some, None, subst}
use Rattle.std.specs.Prelude.{◌==◌, nat_le, not, if◌then◌else◌, length, Result, Ok, Err}
use Rattle.bx_model.specs.declared.call.Call.{Call}
use Rattle.bx_model.specs.declared.permissions.Want.TheVariants as want
use Rattle.bx_model.specs.declared.reply.Reply.{Reply}
use Rattle.bx_model.specs.declared.reply.Reply.TheVariants.{Status}
use Rattle.bx_model.specs.declared.tree.Tree.{Tree}
use Rattle.bx_model.specs.Making.{create, create_at, create_errors, directory_to_change, entry_errors, has_entry, link, mkdir, new_place, searched_directory, symlink}
use Rattle.bx_model.specs.Permissions.{may}
use Rattle.bx_model.specs.Reading.{named_file}
use Rattle.bx_model.specs.Renaming.{file_of_entry, is_same, move_errors, rename}
use Rattle.bx_model.specs.Steps.{Making, Outcome, Step, must, refuse, ◌>>=◌, ◌>>◌}
use Rattle.bx_model.specs.Steps.Step.{Gives, Makes}
use Rattle.bx_model.specs.Writing.{is_forbidden, resize_errors, setattr, write, write_errors}
use Rattle.bx_tree_files.specs.declared.file.Name.{Name}
use Rattle.bx_tree_files.specs.declared.file.File.{File}
use Rattle.bx_tree_files.specs.declared.sattr.Sattr.{Sattr}
use Rattle.bx_tree_files.specs.Entries.{entry_named, is_bad}
use Rattle.bx_tree_files.specs.Files.{file_at, is_directory, is_regular}
use Rattle.bx_tree_files.specs.Names.{names_of}
use Rattle.bx_tree_files.specs.Times.{Time, is_given}

-- a reply is no error
abbrev pub IsFine : Reply → Type 0
IsFine reply = (status : ℕ) → reply ≡ Status status → status ≡ 0

-- the same of what a step gives
abbrev pub IsFineStep : Step → Type 0
IsFineStep (Gives reply next) = IsFine reply
IsFineStep (Makes file) = (made : ℕ) → IsFine (file made).0

zero_fine : IsFine (Status 0)
zero_fine status is = cc

-- ---- what comes to a value passed each test

after : {A B Goal : Type 0} (r : Result A ℕ) (next : A → Result B ℕ) (value : B) → (r >>= next) ≡ Ok value → ((a : A) → next a ≡ Ok value → Goal) → Goal
after (Ok a) next value is so = so a is
after (Err status) next value is so = absurd cc

behind : {B Goal : Type 0} (r : Result (Unit {0}) ℕ) (next : Result B ℕ) (value : B) → (r >> next) ≡ Ok value → (next ≡ Ok value → Goal) → Goal
behind (Ok done) next value is so = so is
behind (Err status) next value is so = absurd cc

gives_fine : (found given : Reply × Tree) → ◌≡◌ {A = Outcome} (Ok found) (Ok given) → IsFine found.0 → IsFine given.0
gives_fine found given is fine = let same : found ≡ given = cc in subst (λ (p : Reply × Tree). IsFine p.0) same fine

step_fine : (found step : Step) → ◌≡◌ {A = Making} (Ok found) (Ok step) → IsFineStep found → IsFineStep step
step_fine found step is fine = let same : found ≡ step = cc in subst IsFineStep same fine

either_fine : (test : Bool) (one other : Outcome) (given : Reply × Tree) → (if test then one else other) ≡ Ok given → (one ≡ Ok given → IsFine given.0) → (other ≡ Ok given → IsFine given.0) → IsFine given.0
either_fine true one other given is a b = a is
either_fine false one other given is a b = b is

either_step : (test : Bool) (one other : Making) (step : Step) → (if test then one else other) ≡ Ok step → (one ≡ Ok step → IsFineStep step) → (other ≡ Ok step → IsFineStep step) → IsFineStep step
either_step true one other step is a b = a is
either_step false one other step is a b = b is

-- ---- the procedures that make no file

module _ (tree : Tree) (call : Call) (now : Time) (given : Reply × Tree) where
  pub setattr_fine : (at : List ℕ) (sattr : Sattr) → setattr tree call at sattr now ≡ Ok given → IsFine given.0
  setattr_fine at sattr is =
      after (must (named_file tree at) 70) _ given is λ file rest.
      behind (refuse (is_forbidden call file sattr) 1) _ given rest λ rest.
      behind (resize_errors call file sattr.size) _ given rest λ rest.
      gives_fine _ given rest (λ status never. absurd cc)

  pub write_fine : (at : List ℕ) (offset : ℕ) (written : List ℕ) (spare : ℕ) → write tree call at offset written now spare ≡ Ok given → IsFine given.0
  write_fine at offset written spare is =
      after (must (named_file tree at) 70) _ given is λ file rest.
      behind (write_errors call file offset (length written) spare) _ given rest λ rest.
      either_fine (length written == 0) _ _ given rest (λ one. gives_fine _ given one (λ status never. absurd cc)) (λ other. gives_fine _ given other (λ status never. absurd cc))

  pub link_fine : (from at name : List ℕ) (spare : ℕ) → link tree call from at name now spare ≡ Ok given → IsFine given.0
  link_fine from at name spare is =
      after (must (named_file tree from) 70) _ given is λ file rest.
      after (directory_to_change tree call at name) _ given rest λ directory rest.
      behind (refuse (is_directory file) 1) _ given rest λ rest.
      behind (refuse (has_entry directory name) 17) _ given rest λ rest.
      behind (refuse (nat_le 32000 file.nlink) 69) _ given rest λ rest.
      behind (entry_errors directory spare) _ given rest λ rest.
      gives_fine _ given rest zero_fine

  pub rename_fine : (from name to new_name : List ℕ) (spare : ℕ) → rename tree call from name to new_name now spare ≡ Ok given → IsFine given.0
  rename_fine from name to new_name spare is =
      after (must (named_file tree from) 70) _ given is λ source rest.
      after (must (named_file tree to) 70) _ given rest λ target rest.
      behind (refuse (not (is_directory source)) 20) _ given rest λ rest.
      behind (refuse (not (is_directory target)) 20) _ given rest λ rest.
      behind (refuse (is_bad name) 13) _ given rest λ rest.
      behind (refuse (is_bad new_name) 13) _ given rest λ rest.
      behind (refuse (not (may call source want.Change)) 13) _ given rest λ rest.
      behind (refuse (not (may call target want.Change)) 13) _ given rest λ rest.
      after (must (entry_named (names_of source.body) name) 2) _ given rest λ entry rest.
      after (must (file_at tree.files entry.handle) 70) _ given rest λ moved rest.
      after (file_of_entry tree (entry_named (names_of target.body) new_name)) _ given rest λ replaced rest.
      either_fine (is_same moved replaced) _ _ given rest (λ same. gives_fine _ given same zero_fine)
      (λ other. behind (move_errors tree source target moved replaced spare) _ given other λ rest. gives_fine _ given rest zero_fine)

-- ---- those that may make one

module _ (tree : Tree) (call : Call) (now : Time) (step : Step) where
  pub mkdir_fine : (at name : List ℕ) (sattr : Sattr) (spare : ℕ) → mkdir tree call at name sattr now spare ≡ Ok step → IsFineStep step
  mkdir_fine at name sattr spare is = after (new_place tree call at name spare) _ step is λ directory rest. step_fine _ step rest (λ made status never. absurd cc)

  pub symlink_fine : (at name path : List ℕ) (sattr : Sattr) (spare : ℕ) → symlink tree call at name path sattr now spare ≡ Ok step → IsFineStep step
  symlink_fine at name path sattr spare is = after (new_place tree call at name spare) _ step is λ directory rest. step_fine _ step rest (λ made. zero_fine)

  create_at_fine : (directory : File) (name : List ℕ) (sattr : Sattr) (spare : ℕ) (found : Option Name) → create_at tree call directory name sattr now spare found ≡ Ok step → IsFineStep step
  create_at_fine directory name sattr spare None is = behind (create_errors call directory sattr spare) _ step is λ rest. step_fine _ step rest (λ made status never. absurd cc)
  create_at_fine directory name sattr spare (Some entry) is =
      after (must (file_at tree.files entry.handle) 70) _ step is λ file rest.
      behind (refuse (not (is_regular file)) 17) _ step rest λ rest.
      behind (resize_errors call file sattr.size) _ step rest λ rest.
      either_step (is_given sattr.size) _ _ step rest (λ one. step_fine _ step one (λ status never. absurd cc)) (λ other. step_fine _ step other (λ status never. absurd cc))

  pub create_fine : (at name : List ℕ) (sattr : Sattr) (spare : ℕ) → create tree call at name sattr now spare ≡ Ok step → IsFineStep step
  create_fine at name sattr spare is =
      after (searched_directory tree call at name) _ step is λ directory rest.
      create_at_fine directory name sattr spare (entry_named (names_of directory.body) name) rest
