-- Every step keeps a file tree.
use Rattle.std.proofs.Common.{◌≡◌, ℕ, Bool, true, false, List, [], ◌∷◌, Some, None, Option, refl, ap, subst}
use Rattle.std.specs.Prelude.{◌==◌, if◌then◌else◌, Ok, Err}
use Rattle.bx_model.specs.declared.call.Args.{Args}
use Rattle.bx_model.specs.declared.call.Args.TheVariants as args
use Rattle.bx_model.specs.declared.call.Call.{Call}
use Rattle.bx_model.specs.bx_tree_files.specs.declared.sattr.Sattr.{Sattr}
use Rattle.bx_model.specs.declared.entry.Entry.{Entry}
use Rattle.bx_model.specs.declared.reply.Reply.{Reply}
use Rattle.bx_model.specs.declared.reply.Reply.TheVariants.{Status}
use Rattle.bx_model.specs.declared.tree.Tree.{Tree}
use Rattle.bx_model.specs.Act.{about_file, about_name, about_new, act, given}
use Rattle.bx_model.specs.Edits.{is_unused}
use Rattle.bx_model.specs.FileTrees.{IsFileTree}
use Rattle.bx_model.specs.Making.{create, mkdir, symlink}
use Rattle.bx_model.specs.Reading.{getattr, lookup, readlink, statfs}
use Rattle.bx_model.specs.Removing.{remove, rmdir}
use Rattle.bx_model.specs.Steps.{Making, Outcome, Step, done, plainly, taken}
use Rattle.bx_model.specs.Steps.Step.{Gives, Makes}
use Rattle.bx_model.specs.bx_tree_files.specs.Times.{Time, time_of}
use Rattle.bx_tree_laws.specs.Acting.{AreSteps, PathFits}
use Rattle.bx_tree_laws.proofs.Grows.{Follows, follows_same, follows_weaker}
use Rattle.bx_tree_laws.proofs.Makings.{StepKeeps, create_keeps, link_keeps, mkdir_keeps, symlink_keeps}
use Rattle.bx_tree_laws.proofs.Readings.{getattr_same, lookup_same, read_same, readdir_same, readlink_same, statfs_same}
use Rattle.bx_tree_laws.proofs.Removings.{remove_keeps, rmdir_keeps}
use Rattle.bx_tree_laws.proofs.Renamings.{rename_keeps}
use Rattle.bx_tree_laws.proofs.Steps.{next_is}
use Rattle.bx_tree_laws.proofs.Writings.{setattr_keeps, write_keeps}

second : (one other : Reply × Tree) → ◌≡◌ {A = Option (Reply × Tree)} (Some one) (Some other) → one.1 ≡ other.1
second one other e = let same : one ≡ other = cc in ap (λ (p : Reply × Tree). p.1) same

module _ (tree : Tree) (was : IsFileTree tree) (made : ℕ) (reply : Reply) (next : Tree) where
  -- a procedure that makes no file
  plainly_keeps : (outcome : Outcome) → ((answer : Reply) (after : Tree) → outcome ≡ Ok (answer, after) → Follows [] tree after) → plainly tree made outcome ≡ Some (reply, next) → Follows (made ∷ []) tree next
  plainly_keeps outcome keeps e = by outcome (made == 0) keeps e
    where
      by : (outcome : Outcome) (b : Bool) → ((answer : Reply) (after : Tree) → outcome ≡ Ok (answer, after) → Follows [] tree after)
          → ◌≡◌ {A = Option (Reply × Tree)} (if b then Some (done tree outcome) else None) (Some (reply, next)) → Follows (made ∷ []) tree next
      by outcome false keeps e = absurd cc
      by (Err status) true keeps e = subst (Follows (made ∷ []) tree) (second _ (reply, next) e) (follows_weaker made tree tree (follows_same tree was))
      by (Ok given) true keeps e = subst (Follows (made ∷ []) tree) (second given (reply, next) e) (follows_weaker made tree given.1 (keeps given.0 given.1 refl))

  same_keeps : (outcome : Outcome) → ((answer : Reply) (after : Tree) → outcome ≡ Ok (answer, after) → tree ≡ after) → plainly tree made outcome ≡ Some (reply, next) → Follows (made ∷ []) tree next
  same_keeps outcome same e = plainly_keeps outcome (λ answer after is. subst (Follows [] tree) (same answer after is) (follows_same tree was)) e

  -- one that may make a file
  taken_keeps : (making : Making) → ((step : Step) → making ≡ Ok step → StepKeeps tree step) → taken tree made making ≡ Some (reply, next) → Follows (made ∷ []) tree next
  taken_keeps making keeps e = by making (made == 0) (is_unused tree made) refl keeps e
    where
      by : (making : Making) (b c : Bool) → is_unused tree made ≡ c → ((step : Step) → making ≡ Ok step → StepKeeps tree step) → taken tree made making ≡ Some (reply, next) → Follows (made ∷ []) tree next
      by (Err status) b c t keeps e = errs (made == 0) e
        where
          errs : (b : Bool) → ◌≡◌ {A = Option (Reply × Tree)} (if b then Some (Status status, tree) else None) (Some (reply, next)) → Follows (made ∷ []) tree next
          errs false e = absurd cc
          errs true e = subst (Follows (made ∷ []) tree) (second (Status status, tree) (reply, next) e) (follows_weaker made tree tree (follows_same tree was))
      by (Ok (Gives answer after)) b c t keeps e = gives (made == 0) e
        where
          gives : (b : Bool) → ◌≡◌ {A = Option (Reply × Tree)} (if b then Some (answer, after) else None) (Some (reply, next)) → Follows (made ∷ []) tree next
          gives false e = absurd cc
          gives true e = subst (Follows (made ∷ []) tree) (second (answer, after) (reply, next) e) (follows_weaker made tree after (keeps (Gives answer after) refl))
      by (Ok (Makes file)) b true t keeps e = subst (Follows (made ∷ []) tree) (second (file made) (reply, next) (rw t at e)) (keeps (Makes file) refl made t)
      by (Ok (Makes file)) b false t keeps e = let none : ◌≡◌ {A = Option (Reply × Tree)} None (Some (reply, next)) = rw t at e in absurd cc

  about_file_same : (procedure : ℕ) (at : List ℕ) (spare : ℕ) (answer : Reply) (after : Tree) → about_file tree procedure at spare ≡ Ok (answer, after) → tree ≡ after
  about_file_same procedure at spare answer after e = by (procedure == 5) (procedure == 17) e
    where
      by : (b c : Bool) → (if b then readlink tree at else if c then statfs tree at spare else getattr tree at) ≡ Ok (answer, after) → tree ≡ after
      by true c e = readlink_same tree after answer at e
      by false true e = statfs_same tree after answer at spare e
      by false false e = getattr_same tree after answer at e

  about_name_keeps : (call : Call) (at name : List ℕ) (now : Time) (answer : Reply) (after : Tree) → about_name tree call at name now ≡ Ok (answer, after) → Follows [] tree after
  about_name_keeps call at name now answer after e = by (call.procedure == 10) (call.procedure == 15) e
    where
      by : (b c : Bool) → (if b then remove tree call at name now else if c then rmdir tree call at name now else lookup tree call at name) ≡ Ok (answer, after) → Follows [] tree after
      by true c e = remove_keeps tree was call at name now answer after e
      by false true e = rmdir_keeps tree was call at name now answer after e
      by false false e = subst (Follows [] tree) (lookup_same tree after answer call at name e) (follows_same tree was)

  about_new_keeps : (call : Call) (at name : List ℕ) (sattr : Sattr) (now : Time) (spare : ℕ) (step : Step) → about_new tree call at name sattr now spare ≡ Ok step → StepKeeps tree step
  about_new_keeps call at name sattr now spare step e = by (call.procedure == 14) e
    where
      by : (b : Bool) → (if b then mkdir tree call at name sattr now spare else create tree call at name sattr now spare) ≡ Ok step → StepKeeps tree step
      by true e = mkdir_keeps tree was call name sattr now at spare step e
      by false e = create_keeps tree was call name sattr now at spare step e

  given_keeps : (call : Call) (now : Time) (spare : ℕ) (arguments : Args) → PathFits arguments → given tree call now spare made arguments ≡ Some (reply, next) → Follows (made ∷ []) tree next
  given_keeps call now spare (args.Refused number) fits e = same_keeps (Ok (_, tree)) (λ answer after is. next_is _ answer tree after is) e
  given_keeps call now spare args.Nothing fits e = same_keeps (Ok (_, tree)) (λ answer after is. next_is _ answer tree after is) e
  given_keeps call now spare (args.Path path) fits e = same_keeps (Ok (_, tree)) (λ answer after is. next_is _ answer tree after is) e
  given_keeps call now spare (args.Handle at) fits e = same_keeps (about_file tree call.procedure at spare) (about_file_same call.procedure at spare) e
  given_keeps call now spare (args.Set at sattr) fits e = plainly_keeps _ (λ answer after is. setattr_keeps tree call at sattr now answer after was is) e
  given_keeps call now spare (args.Name at name) fits e = plainly_keeps (about_name tree call at name now) (about_name_keeps call at name now) e
  given_keeps call now spare (args.Read at offset count total) fits e = same_keeps _ (λ answer after is. read_same tree after answer call at offset count is) e
  given_keeps call now spare (args.Write at begin offset total written) fits e = plainly_keeps _ (λ answer after is. write_keeps tree call at offset written now spare answer after was is) e
  given_keeps call now spare (args.Rename from name to new_name) fits e = plainly_keeps _ (λ answer after is. rename_keeps tree was call from name to new_name now spare answer after is) e
  given_keeps call now spare (args.Link from at name) fits e = plainly_keeps _ (λ answer after is. link_keeps tree call from at name now spare answer after was is) e
  given_keeps call now spare (args.List at cookie count) fits e = same_keeps _ (λ answer after is. readdir_same tree after answer call at cookie count is) e
  given_keeps call now spare (args.Make at name sattr) fits e = taken_keeps (about_new tree call at name sattr now spare) (about_new_keeps call at name sattr now spare) e
  given_keeps call now spare (args.Symlink at name path sattr) fits e = taken_keeps (symlink tree call at name path sattr now spare) (λ step is. symlink_keeps tree was call name sattr now at path spare step fits is) e

pub act_follows : (tree : Tree) (call : Call) (moment spare made : ℕ) (reply : Reply) (next : Tree) → IsFileTree tree → PathFits call.args → act tree call moment spare made ≡ Some (reply, next) → Follows (made ∷ []) tree next
act_follows tree call moment spare made reply next was fits e = given_keeps tree was made reply next call (time_of moment) spare call.args fits e

pub acts_keep : (tree : Tree) (call : Call) (moment spare made : ℕ) (reply : Reply) (next : Tree) → IsFileTree tree → PathFits call.args → act tree call moment spare made ≡ Some (reply, next) → IsFileTree next
acts_keep tree call moment spare made reply next was fits e = (act_follows tree call moment spare made reply next was fits e).is

pub steps_keep : (tree last : Tree) (entries : List Entry) → IsFileTree tree → AreSteps tree entries last → IsFileTree last
steps_keep tree last [] was steps = subst IsFileTree steps was
steps_keep tree last (entry ∷ entries) was (next, step, fits, steps) =
    steps_keep next last entries (acts_keep tree entry.what entry.moment entry.spare entry.made entry.reply next was fits step.acts) steps
