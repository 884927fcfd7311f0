-- What a call tells of attributes holds of the tree then.
use Rattle.std.proofs.Common.{◌≡◌, ℕ, ◌<◌, ◌^◌, Bool, true, false, List, Some, None, Option, refl, ap, ◌∙◌, subst}
use Rattle.std.specs.Prelude.{◌==◌, if◌then◌else◌, Ok, Err}
use Rattle.bx_model.specs.declared.call.Args.{Args}
use Rattle.bx_model.specs.declared.call.Args.TheVariants as args
use Rattle.bx_model.specs.declared.call.Call.{Call}
use Rattle.bx_model.specs.bx_tree_files.specs.declared.sattr.Sattr.{Sattr}
use Rattle.bx_model.specs.declared.reply.Reply.{Reply}
use Rattle.bx_model.specs.declared.reply.Reply.TheVariants as reply
use Rattle.bx_model.specs.declared.tree.Tree.{Tree}
use Rattle.bx_model.specs.Act.{about_file, about_name, about_new, act, given}
use Rattle.bx_model.specs.Edits.{is_unused}
use Rattle.bx_model.specs.FileTrees.{IsFileTree}
use Rattle.bx_model.specs.Making.{create, mkdir, symlink}
use Rattle.bx_model.specs.Reading.{getattr, lookup, readlink, statfs}
use Rattle.bx_model.specs.Removing.{remove, rmdir}
use Rattle.bx_model.specs.Steps.{Making, Outcome, Step, done, plainly, taken}
use Rattle.bx_model.specs.Steps.Step.{Gives, Makes}
use Rattle.bx_model.specs.bx_tree_files.specs.Times.{Time, time_of}
use Rattle.bx_tree_laws.specs.Telling.{HandlesFit, Tells, handle_in}
use Rattle.bx_tree_laws.proofs.Silent.{IsSilent, link_silent, mount_silent, plain_silent, readdir_silent, readlink_silent, remove_silent, rename_silent, rmdir_silent, silent_true, statfs_silent, symlink_true}
use Rattle.bx_tree_laws.proofs.Steps.{reply_is}
use Rattle.bx_tree_laws.proofs.Telling.{IsTrue, StepIsTrue, create_true, getattr_true, lookup_true, mkdir_true, read_true, setattr_true, write_true}
use Rattle.bx_tree_laws.proofs.Told.{Has}

pair_true : (arguments : Args) (one other : Reply × Tree) → ◌≡◌ {A = Option (Reply × Tree)} (Some one) (Some other) → IsTrue arguments one.0 one.1 → IsTrue arguments other.0 other.1
pair_true arguments one other e is = let same : one ≡ other = cc in subst (λ (p : Reply × Tree). IsTrue arguments p.0 p.1) same is

module _ (tree : Tree) (was : IsFileTree tree) (fit : HandlesFit tree) (made : ℕ) (made_fits : made < 2 ^ 64) (answer : Reply) (next : Tree) (arguments : Args) where
  plainly_true : (outcome : Outcome) → ((one : Reply) (after : Tree) → outcome ≡ Ok (one, after) → IsTrue arguments one after) → plainly tree made outcome ≡ Some (answer, next) → IsTrue arguments answer next
  plainly_true outcome is e = by outcome (made == 0) is e
    where
      by : (outcome : Outcome) (b : Bool) → ((one : Reply) (after : Tree) → outcome ≡ Ok (one, after) → IsTrue arguments one after)
          → ◌≡◌ {A = Option (Reply × Tree)} (if b then Some (done tree outcome) else None) (Some (answer, next)) → IsTrue arguments answer next
      by outcome false is e = absurd cc
      by (Err status) true is e = pair_true arguments (reply.Status status, tree) (answer, next) e (silent_true arguments (reply.Status status) tree tt)
      by (Ok both) true is e = pair_true arguments both (answer, next) e (is both.0 both.1 refl)

  silently_true : (outcome : Outcome) → ((one : Reply) (after : Tree) → outcome ≡ Ok (one, after) → IsSilent one) → plainly tree made outcome ≡ Some (answer, next) → IsTrue arguments answer next
  silently_true outcome is e = plainly_true outcome (λ one after o. silent_true arguments one after (is one after o)) e

  taken_true : (making : Making) → ((step : Step) → making ≡ Ok step → StepIsTrue tree arguments step) → taken tree made making ≡ Some (answer, next) → IsTrue arguments answer next
  taken_true making is e = by making (made == 0) (is_unused tree made) refl is e
    where
      held : (b : Bool) (one : Reply × Tree) → ◌≡◌ {A = Option (Reply × Tree)} (if b then Some one else None) (Some (answer, next)) → (b ≡ true → IsTrue arguments one.0 one.1) → IsTrue arguments answer next
      held false one e is = absurd cc
      held true one e is = pair_true arguments one (answer, next) e (is refl)

      by : (making : Making) (b c : Bool) → is_unused tree made ≡ c → ((step : Step) → making ≡ Ok step → StepIsTrue tree arguments step) → taken tree made making ≡ Some (answer, next) → IsTrue arguments answer next
      by (Err status) b c t is e = held (made == 0) (reply.Status status, tree) e (λ yes'. silent_true arguments (reply.Status status) tree tt)
      by (Ok (Gives one after)) b c t is e = held (made == 0) (one, after) e (λ yes'. is (Gives one after) refl)
      by (Ok (Makes file)) b c t is e = held (is_unused tree made) (file made) e (λ unused. is (Makes file) refl made unused made_fits)

  about_file_true : (procedure : ℕ) (at : List ℕ) (spare : ℕ) → handle_in arguments ≡ Some at → (one : Reply) (after : Tree) → about_file tree procedure at spare ≡ Ok (one, after) → IsTrue arguments one after
  about_file_true procedure at spare is one after e = by (procedure == 5) (procedure == 17) e
    where
      by : (b c : Bool) → (if b then readlink tree at else if c then statfs tree at spare else getattr tree at) ≡ Ok (one, after) → IsTrue arguments one after
      by true c e = silent_true arguments one after (readlink_silent tree after one at e)
      by false true e = silent_true arguments one after (statfs_silent tree after one at spare e)
      by false false e = getattr_true tree after one arguments at is e

  about_name_true : (call : Call) (at name : List ℕ) (now : Time) (one : Reply) (after : Tree) → about_name tree call at name now ≡ Ok (one, after) → IsTrue arguments one after
  about_name_true call at name now one after e = by (call.procedure == 10) (call.procedure == 15) e
    where
      by : (b c : Bool) → (if b then remove tree call at name now else if c then rmdir tree call at name now else lookup tree call at name) ≡ Ok (one, after) → IsTrue arguments one after
      by true c e = silent_true arguments one after (remove_silent tree after one call at name now e)
      by false true e = silent_true arguments one after (rmdir_silent tree after one call at name now e)
      by false false e = lookup_true tree was fit after one arguments call at name e

  about_new_true : (call : Call) (at name : List ℕ) (sattr : Sattr) (now : Time) (spare : ℕ) (step : Step) → about_new tree call at name sattr now spare ≡ Ok step → StepIsTrue tree arguments step
  about_new_true call at name sattr now spare step e = by (call.procedure == 14) e
    where
      by : (b : Bool) → (if b then mkdir tree call at name sattr now spare else create tree call at name sattr now spare) ≡ Ok step → StepIsTrue tree arguments step
      by true e = mkdir_true tree was fit arguments call at name sattr now spare step e
      by false e = create_true tree was fit arguments call at name sattr now spare step e

given_true : (tree : Tree) (was : IsFileTree tree) (fit : HandlesFit tree) (made : ℕ) (made_fits : made < 2 ^ 64) (answer : Reply) (next : Tree) (call : Call) (now : Time) (spare : ℕ) (arguments : Args)
    → given tree call now spare made arguments ≡ Some (answer, next) → IsTrue arguments answer next
given_true tree was fit made mf r next call now spare (args.Refused number) e = silently_true tree was fit made mf r next (args.Refused number) (Ok (reply.Refused number call.program, tree)) (λ one after o. subst IsSilent (reply_is _ one tree after o) tt) e
given_true tree was fit made mf r next call now spare args.Nothing e = silently_true tree was fit made mf r next args.Nothing (Ok (_, tree)) (λ one after o. subst IsSilent (reply_is _ one tree after o) (plain_silent call.program call.procedure)) e
given_true tree was fit made mf r next call now spare (args.Path path) e = silently_true tree was fit made mf r next (args.Path path) (Ok (_, tree)) (λ one after o. subst IsSilent (reply_is _ one tree after o) (mount_silent tree call.procedure path)) e
given_true tree was fit made mf r next call now spare (args.Handle at) e = plainly_true tree was fit made mf r next (args.Handle at) _ (about_file_true tree was fit made mf r next (args.Handle at) call.procedure at spare refl) e
given_true tree was fit made mf r next call now spare (args.Set at sattr) e = plainly_true tree was fit made mf r next (args.Set at sattr) _ (λ one after o. setattr_true tree after one (args.Set at sattr) call at sattr now refl o) e
given_true tree was fit made mf r next call now spare (args.Name at name) e = plainly_true tree was fit made mf r next (args.Name at name) _ (about_name_true tree was fit made mf r next (args.Name at name) call at name now) e
given_true tree was fit made mf r next call now spare (args.Read at offset count total) e =
    plainly_true tree was fit made mf r next (args.Read at offset count total) _ (λ one after o. read_true tree after one (args.Read at offset count total) call at offset count refl o) e
given_true tree was fit made mf r next call now spare (args.Write at begin offset total written) e =
    plainly_true tree was fit made mf r next (args.Write at begin offset total written) _ (λ one after o. write_true tree after one (args.Write at begin offset total written) call at offset written now spare refl o) e
given_true tree was fit made mf r next call now spare (args.Rename from name to new_name) e =
    silently_true tree was fit made mf r next (args.Rename from name to new_name) _ (λ one after o. rename_silent tree after one call from name to new_name now spare o) e
given_true tree was fit made mf r next call now spare (args.Link from at name) e = silently_true tree was fit made mf r next (args.Link from at name) _ (λ one after o. link_silent tree after one call from at name now spare o) e
given_true tree was fit made mf r next call now spare (args.List at cookie count) e = silently_true tree was fit made mf r next (args.List at cookie count) _ (λ one after o. readdir_silent tree after one call at cookie count o) e
given_true tree was fit made mf r next call now spare (args.Make at name sattr) e =
    taken_true tree was fit made mf r next (args.Make at name sattr) (about_new tree call at name sattr now spare) (about_new_true tree was fit made mf r next (args.Make at name sattr) call at name sattr now spare) e
given_true tree was fit made mf r next call now spare (args.Symlink at name path sattr) e =
    taken_true tree was fit made mf r next (args.Symlink at name path sattr) (symlink tree call at name path sattr now spare) (λ step o. symlink_true tree (args.Symlink at name path sattr) call at name path sattr now spare step o) e

pub told_attributes : (tree : Tree) (call : Call) (moment spare made : ℕ) (answer : Reply) (next : Tree) (at words : List ℕ) → IsFileTree tree → HandlesFit tree → made < 2 ^ 64
    → act tree call moment spare made ≡ Some (answer, next) → Tells call.args answer at words → Has next at words
told_attributes tree call moment spare made answer next at words was fit made_fits acts tells = given_true tree was fit made made_fits answer next call (time_of moment) spare call.args acts at words tells

-- GETATTR as a call
pub getattr_acts : (tree : Tree) (at words : List ℕ) (call : Call) (moment spare : ℕ) → call.args ≡ args.Handle at → call.procedure ≡ 1 → Has tree at words → act tree call moment spare 0 ≡ Some (reply.Attributes words, tree)
getattr_acts tree at words call moment spare arguments procedure has =
    ap (given tree call (time_of moment) spare 0) arguments
    ∙ ap (λ (n : ℕ). plainly tree 0 (about_file tree n at spare)) procedure
    ∙ ap (plainly tree 0) has
