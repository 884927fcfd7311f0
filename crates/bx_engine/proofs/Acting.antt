-- What comes to a procedure's outcome is one step of the tree.
use Rattle.std.proofs.Common.{◌≡◌, ℕ, ◌≤◌, List, [], Some, refl, sym, ap, ◌∙◌, subst, inl, arith, lit≤}
use Rattle.bx_engine.specs.Outcomes.{IsOutcomeOf, ComesTo}
use Rattle.bx_steps.specs.Steps.{StandsWith, StepOfTree}
use Rattle.bx_inodes.specs.Stands.{Stands}
use Rattle.bx_model.specs.declared.call.Args.{Args}
use Rattle.bx_model.specs.declared.call.Args.TheVariants.{Refused, Nothing, Handle, List as Listing, Name, Read, Path}
use Rattle.bx_model.specs.declared.call.Call.{Call}
use Rattle.bx_model.specs.declared.reply.Reply.{Reply}
use Rattle.bx_model.specs.declared.reply.Reply.TheVariants as replies
use Rattle.bx_model.specs.declared.tree.Tree.{Tree}
use Rattle.bx_model.specs.Act.{act, given, about_file}
use Rattle.bx_model.specs.Directories.{readdir}
use Rattle.bx_model.specs.Mounting.{mount, plain}
use Rattle.bx_model.specs.Reading.{getattr, lookup, read, readlink, statfs}
use Rattle.bx_model.specs.Removing.{remove, rmdir}
use Rattle.bx_model.specs.Steps.{Outcome, done, plainly}
use Rattle.std.specs.Prelude.{◌==◌, if◌then◌else◌, Result, Ok, IfOk}
use Rattle.std.proofs.lemmas.Result.{IfOk-weaker}
use Rattle.bx_nfs.specs.Wire.{ReadsAs}
use Rattle.bx_tree_files.specs.Times.{time_of}
use Rattle.bx_views.specs.declared.attempt.Attempt.{Attempt}
use Rattle.bx_views.specs.declared.attempt.Attempt.TheVariants.{Need, Change, Inner, Answer}
use Rattle.bx_views.specs.declared.attempt.Done.{Done}
use Rattle.bx_views.specs.Attempts.{Acts, Gives, deed_of}
use Rattle.bx_views.specs.Truths.{Truth}

-- ---- what the tree does

module _ (tree : Tree) (call : Call) (moment : ℕ) where
  abbrev ActsSo : Outcome → Type 0
  ActsSo outcome = act tree call moment 8 0 ≡ Some (done tree outcome)

  by_args : (args : Args) (outcome : Outcome) → call.args ≡ args → given tree call (time_of moment) 8 0 args ≡ Some (done tree outcome) → ActsSo outcome
  by_args args outcome is gives = ap (given tree call (time_of moment) 8 0) is ∙ gives

  pub refused_acts : (number : ℕ) → call.args ≡ Refused number → ActsSo (Ok (replies.Refused number call.program, tree))
  refused_acts number is = by_args (Refused number) (Ok (replies.Refused number call.program, tree)) is refl

  pub nothing_acts : call.args ≡ Nothing → ActsSo (Ok (plain call.program call.procedure, tree))
  nothing_acts is = by_args Nothing (Ok (plain call.program call.procedure, tree)) is refl

  pub mount_acts : (path : List ℕ) → call.args ≡ Path path → ActsSo (Ok (mount tree call.procedure path, tree))
  mount_acts path is = by_args (Path path) (Ok (mount tree call.procedure path, tree)) is refl

  about_file_acts : (at : List ℕ) (number : ℕ) → call.args ≡ Handle at → call.procedure ≡ number → ActsSo (about_file tree number at 8)
  about_file_acts at number is p = by_args (Handle at) (about_file tree number at 8) is (ap (λ (procedure : ℕ). plainly tree 0 (about_file tree procedure at 8)) p)

  pub getattr_acts : (at : List ℕ) → call.args ≡ Handle at → call.procedure ≡ 1 → ActsSo (getattr tree at)
  getattr_acts at is p = about_file_acts at 1 is p

  pub readlink_acts : (at : List ℕ) → call.args ≡ Handle at → call.procedure ≡ 5 → ActsSo (readlink tree at)
  readlink_acts at is p = about_file_acts at 5 is p

  pub statfs_acts : (at : List ℕ) (spare : ℕ) → call.args ≡ Handle at → call.procedure ≡ 17 → act tree call moment spare 0 ≡ Some (done tree (statfs tree at spare))
  statfs_acts at spare is p = ap (given tree call (time_of moment) spare 0) is ∙ ap (λ (procedure : ℕ). plainly tree 0 (about_file tree procedure at spare)) p

  pub read_acts : (at : List ℕ) (offset count total : ℕ) → call.args ≡ Read at offset count total → ActsSo (read tree call at offset count)
  read_acts at offset count total is = by_args (Read at offset count total) (read tree call at offset count) is refl

  pub readdir_acts : (at : List ℕ) (cookie count : ℕ) → call.args ≡ Listing at cookie count → ActsSo (readdir tree call at cookie count)
  readdir_acts at cookie count is = by_args (Listing at cookie count) (readdir tree call at cookie count) is refl

  pub lookup_acts : (at name : List ℕ) → call.args ≡ Name at name → call.procedure ≡ 4 → ActsSo (lookup tree call at name)
  lookup_acts at name is p = by_args (Name at name) (lookup tree call at name) is (ap (λ (procedure : ℕ). plainly tree 0 (if procedure == 10 then remove tree call at name (time_of moment) else if procedure == 15 then rmdir tree call at name (time_of moment) else lookup tree call at name)) p)

-- ---- the step

module _ (volume areas client : ℕ) (bytes : List ℕ) (moment free : ℕ) (truth : Truth) (tree : Tree) (xid : ℕ) (call : Call) (outcome : Outcome)
    (reads : ReadsAs bytes xid call) (fits : moment ≤ 4294967295999) (acts : act tree call moment 8 0 ≡ Some (done tree outcome)) where
  steps : (next : Tree) (acted : Done) → ComesTo tree outcome xid acted next → StepOfTree tree (deed_of client bytes moment acted) next
  steps next acted comes = subst (λ (d : Done). StepOfTree tree (deed_of client bytes moment d) next) (sym comes.told) (record {
    xid = xid;
    call = call;
    reply = comes.reply;
    reads = reads;
    acts = acts ∙ ap (λ (x : Reply × Tree). Some x) comes.comes_to;
    replies = refl;
    moment_fits = fits;
    spare_fits = lit≤ tt;
    made_fits = omega arith;
    enough = λ _. refl;
  })

  answers : Stands volume areas truth tree → (acted : Done) → ComesTo tree outcome xid acted tree → Acts (StandsWith volume areas) StepOfTree free (deed_of client bytes moment acted) acted truth [] tree
  answers stands acted comes = record {
    next = tree;
    step = steps tree acted comes;
    leads = record { each = λ hints was. was };
    spare = inl (ap (λ (d : Done). d.spare) comes.told);
  }

  comes_gives : Stands volume areas truth tree → (attempt : Attempt) → IsOutcomeOf tree xid outcome attempt → Gives (StandsWith volume areas) StepOfTree free client bytes moment truth tree attempt
  comes_gives stands (Need wants) comes = tt
  comes_gives stands (Change draft acted) comes = absurd comes
  comes_gives stands (Inner draft) comes = absurd comes
  comes_gives stands (Answer acted) comes = answers stands acted comes

  pub gives_by : {E : Type 0} → Stands volume areas truth tree → (result : Result Attempt E) → IfOk result (IsOutcomeOf tree xid outcome)
      → IfOk result (Gives (StandsWith volume areas) StepOfTree free client bytes moment truth tree)
  gives_by stands result comes = IfOk-weaker result _ _ (comes_gives stands) comes
