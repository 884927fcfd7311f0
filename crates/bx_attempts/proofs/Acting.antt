-- What a tree does by a call that changes it, by the call's arguments.
use Rattle.std.proofs.Common.{◌≡◌, ℕ, List, Option, Some, ap, ◌∙◌, refl}
use Rattle.std.specs.Prelude.{◌==◌, if◌then◌else◌}
use Rattle.bx_model.specs.declared.call.Args.{Args}
use Rattle.bx_model.specs.declared.call.Args.TheVariants.{Name, Set, Make, Symlink, Write, Rename, Link}
use Rattle.bx_model.specs.declared.call.Call.{Call}
use Rattle.bx_model.specs.declared.reply.Reply.{Reply}
use Rattle.bx_model.specs.declared.tree.Tree.{Tree}
use Rattle.bx_model.specs.Act.{act, given}
use Rattle.bx_model.specs.Making.{create, link, mkdir, symlink}
use Rattle.bx_model.specs.Reading.{lookup}
use Rattle.bx_model.specs.Removing.{remove, rmdir}
use Rattle.bx_model.specs.Renaming.{rename}
use Rattle.bx_model.specs.Steps.{Making, Outcome, done, plainly, taken}
use Rattle.bx_model.specs.Writing.{setattr, write}
use Rattle.bx_tree_files.specs.declared.sattr.Sattr.{Sattr}
use Rattle.bx_tree_files.specs.Times.{Time, time_of}

module _ (tree : Tree) (call : Call) (moment : ℕ) where
  abbrev now : Time
  now = time_of moment

  -- the call comes to this, with so many blocks free
  abbrev ActsSo : ℕ → Outcome → Type 0
  ActsSo spare outcome = act tree call moment spare 0 ≡ Some (done tree outcome)

  -- or, where it may make a file, to this, by the file's handle
  abbrev MakesSo : ℕ → ℕ → Making → Type 0
  MakesSo spare made making = act tree call moment spare made ≡ taken tree made making

  by_args : (spare : ℕ) (args : Args) (outcome : Outcome) → call.args ≡ args → given tree call now spare 0 args ≡ Some (done tree outcome) → ActsSo spare outcome
  by_args spare args outcome is gives = ap (given tree call now spare 0) is ∙ gives

  abbrev about_name : List ℕ → List ℕ → ℕ → Option (Reply × Tree)
  about_name at name procedure = plainly tree 0 (if procedure == 10 then remove tree call at name now else if procedure == 15 then rmdir tree call at name now else lookup tree call at name)

  pub remove_acts : (at name : List ℕ) (spare : ℕ) → call.args ≡ Name at name → call.procedure ≡ 10 → ActsSo spare (remove tree call at name now)
  remove_acts at name spare is p = by_args spare (Name at name) (remove tree call at name now) is (ap (about_name at name) p)

  pub rmdir_acts : (at name : List ℕ) (spare : ℕ) → call.args ≡ Name at name → call.procedure ≡ 15 → ActsSo spare (rmdir tree call at name now)
  rmdir_acts at name spare is p = by_args spare (Name at name) (rmdir tree call at name now) is (ap (about_name at name) p)

  pub setattr_acts : (at : List ℕ) (sattr : Sattr) (spare : ℕ) → call.args ≡ Set at sattr → ActsSo spare (setattr tree call at sattr now)
  setattr_acts at sattr spare is = by_args spare (Set at sattr) (setattr tree call at sattr now) is refl

  pub write_acts : (at : List ℕ) (begin offset total : ℕ) (written : List ℕ) (spare : ℕ) → call.args ≡ Write at begin offset total written → ActsSo spare (write tree call at offset written now spare)
  write_acts at begin offset total written spare is = by_args spare (Write at begin offset total written) (write tree call at offset written now spare) is refl

  pub rename_acts : (from name to new_name : List ℕ) (spare : ℕ) → call.args ≡ Rename from name to new_name → ActsSo spare (rename tree call from name to new_name now spare)
  rename_acts from name to new_name spare is = by_args spare (Rename from name to new_name) (rename tree call from name to new_name now spare) is refl

  pub link_acts : (from at name : List ℕ) (spare : ℕ) → call.args ≡ Link from at name → ActsSo spare (link tree call from at name now spare)
  link_acts from at name spare is = by_args spare (Link from at name) (link tree call from at name now spare) is refl

  abbrev about_new : List ℕ → List ℕ → Sattr → ℕ → ℕ → ℕ → Option (Reply × Tree)
  about_new at name sattr spare made procedure = taken tree made (if procedure == 14 then mkdir tree call at name sattr now spare else create tree call at name sattr now spare)

  pub mkdir_acts : (at name : List ℕ) (sattr : Sattr) (spare made : ℕ) → call.args ≡ Make at name sattr → call.procedure ≡ 14 → MakesSo spare made (mkdir tree call at name sattr now spare)
  mkdir_acts at name sattr spare made is p = ap (given tree call now spare made) is ∙ ap (about_new at name sattr spare made) p

  pub create_acts : (at name : List ℕ) (sattr : Sattr) (spare made : ℕ) → call.args ≡ Make at name sattr → call.procedure ≡ 9 → MakesSo spare made (create tree call at name sattr now spare)
  create_acts at name sattr spare made is p = ap (given tree call now spare made) is ∙ ap (about_new at name sattr spare made) p

  pub symlink_acts : (at name path : List ℕ) (sattr : Sattr) (spare made : ℕ) → call.args ≡ Symlink at name path sattr → MakesSo spare made (symlink tree call at name path sattr now spare)
  symlink_acts at name path sattr spare made is = ap (given tree call now spare made) is
