-- How many blocks are free is told exactly where the reply tells it.
use Rattle.std.proofs.Common.{◌≡◌, ◌∙◌, ℕ, Bool, true, false, List, Option, Some, None, sym, ap, subst, inl, inr, arith}
use Rattle.std.specs.Prelude.{◌⊎◌, ◌==◌, if◌then◌else◌}
use Rattle.std.proofs.lemmas.Bool.Decides.{nat_tests}
use Rattle.bx_engine.specs.Calls.{AsksSpace, IsSpaceCall, IsSpaceReply, TellsSpace}
use Rattle.bx_engine.specs.Outcomes.{told_free}
use Rattle.bx_engine.proofs.Spaces.{by_file}
use Rattle.bx_engine.proofs.Telling.{IsSpaceOf, IsTold, quiet_tells, reply_tells}
use Rattle.bx_engine.proofs.Texts.{nospc_apart, space_apart}
use Rattle.bx_model.specs.declared.call.Args.TheVariants.{Handle}
use Rattle.bx_model.specs.declared.call.Call.{Call}
use Rattle.bx_model.specs.declared.reply.Reply.{Reply}
use Rattle.bx_model.specs.declared.reply.Reply.TheVariants.{Status, Space}
use Rattle.bx_model.specs.declared.tree.Tree.{Tree}
use Rattle.bx_model.specs.Act.{about_file, given}
use Rattle.bx_model.specs.Reading.{named_file, statfs}
use Rattle.bx_model.specs.Steps.{plainly}
use Rattle.bx_model.specs.Writing.{is_full}
use Rattle.bx_nfs.proofs.Asking.{asked}
use Rattle.bx_nfs.proofs.Reading.{reads_once}
use Rattle.bx_nfs.specs.Asked.{AsksFile, HasOwnArgs}
use Rattle.bx_nfs.specs.Wire.{ReadsAs, reply_text}
use Rattle.bx_records.specs.Drafts.{Changed}
use Rattle.bx_steps.specs.Steps.{StandsWith, StepOfTree}
use Rattle.bx_tree_files.specs.declared.file.File.{File}
use Rattle.bx_tree_files.specs.Times.{time_of}
use Rattle.bx_views.specs.declared.attempt.Attempt.{Attempt}
use Rattle.bx_views.specs.declared.attempt.Attempt.TheVariants.{Need, Change, Inner, Answer}
use Rattle.bx_views.specs.declared.attempt.Done.{Done}
use Rattle.bx_views.specs.Attempts.{Acts, Gives, IfActed, TellsFree, deed_of}
use Rattle.bx_views.specs.Truths.{Truth}

few_are_not_eight : (spare free : ℕ) → is_full spare ≡ true → (spare ≡ 8) ⊎ (spare ≡ free) → spare ≡ free
few_are_not_eight spare free full (inl eight) = grind (arith, nat_tests, full, eight)
few_are_not_eight spare free full (inr is) = is

-- a call by a file handle alone is one of NFS
of_nfs : (call : Call) → AsksFile call → call.program ≡ 100003
of_nfs call (inl is) = is.program
of_nfs call (inr (inl is)) = is.program
of_nfs call (inr (inr is)) = is.program

asks_space : (bytes : List ℕ) (xid : ℕ) (call : Call) (at : List ℕ) → ReadsAs bytes xid call → call.args ≡ Handle at → call.procedure ≡ 17 → AsksSpace call at
asks_space bytes xid call at reads args asks = record {
  args = args;
  is = record { program = of_nfs call (subst (HasOwnArgs call) args (asked bytes xid call reads)).0; procedure = asks };
}

some_pair : (made : ℕ) (given answer : Reply × Tree) → (if made == 0 then Some given else None) ≡ Some answer → answer ≡ given
some_pair made given answer is = by (made == 0) is
  where
    by : (test : Bool) → (if test then Some given else None) ≡ Some answer → answer ≡ given
    by true same = cc
    by false same = absurd cc

module _ (volume areas free client : ℕ) (bytes : List ℕ) (moment : ℕ) (truth : Truth) (tree : Tree) where
  module _ (done : Done) (draft : List Changed) (acts : Acts (StandsWith volume areas) StepOfTree free (deed_of client bytes moment done) done truth draft tree)
      (space : (at : List ℕ) → IsSpaceCall bytes at → done.spare ≡ told_free free (statfs tree at free)) where
    abbrev s : StepOfTree tree (deed_of client bytes moment done) acts.next
    s = acts.step

    tells : IsTold done.spare s.reply ⊎ IsSpaceOf s.call s.reply
    tells = reply_tells tree s.call moment done.spare done.made s.reply acts.next s.acts

    -- a STATFS by a file handle that names no file answers STALE
    by_named : (xid : ℕ) (at numbers : List ℕ) (found : Option File) → plainly tree done.made (by_file tree free found done.spare) ≡ Some (s.reply, acts.next) → reply_text xid s.reply ≡ reply_text xid (Space numbers)
        → done.spare ≡ told_free free (by_file tree free found free) → done.spare ≡ free
    by_named xid at numbers None is text spare =
        let stale : s.reply ≡ Status 70 = ap (λ (p : Reply × Tree). p.0) (some_pair done.made (Status 70, tree) (s.reply, acts.next) is) in
        absurd (space_apart xid 70 numbers (omega arith) (omega arith) (ap (reply_text xid) (sym stale) ∙ text))
    by_named xid at numbers (Some file) is text spare = spare

    told : TellsSpace bytes done.reply → done.spare ≡ free
    told t = by t.tells
      where
        once : (t.xid ≡ s.xid) × (t.call ≡ s.call)
        once = reads_once bytes t.xid s.xid t.call s.call t.reads s.reads

        by : (done.reply ≡ reply_text t.xid (Status 28)) ⊎ IsSpaceReply t.xid t.call done.reply → done.spare ≡ free
        by (inl nospc) = case tells
          where
            same : reply_text s.xid s.reply ≡ reply_text s.xid (Status 28)
            same = sym s.replies ∙ nospc ∙ ap (λ (x : ℕ). reply_text x (Status 28)) once.0

            case : IsTold done.spare s.reply ⊎ IsSpaceOf s.call s.reply → done.spare ≡ free
            case (inl (inl quiet)) = absurd (nospc_apart s.xid s.reply quiet same)
            case (inl (inr full)) = few_are_not_eight done.spare free full.1 acts.spare
            case (inr other) = absurd (space_apart s.xid 28 other.3 (omega arith) (omega arith) (sym same ∙ ap (reply_text s.xid) other.4))
        by (inr reply) =
            let asks : AsksSpace s.call reply.at = subst (λ (c : Call). AsksSpace c reply.at) once.1 reply.asks in
            let is : plainly tree done.made (statfs tree reply.at done.spare) ≡ Some (s.reply, acts.next) =
            sym (ap (given tree s.call (time_of moment) done.spare done.made) asks.args ∙ ap (λ (p : ℕ). plainly tree done.made (about_file tree p reply.at done.spare)) asks.is.procedure) ∙ s.acts in
            let text : reply_text s.xid s.reply ≡ reply_text s.xid (Space reply.numbers) = sym s.replies ∙ reply.text ∙ ap (λ (x : ℕ). reply_text x (Space reply.numbers)) once.0 in
            by_named s.xid reply.at reply.numbers (named_file tree reply.at) is text (space reply.at (record { xid = t.xid; call = t.call; reads = t.reads; asks = reply.asks }))

    enough : (TellsSpace bytes done.reply → ⊥) → done.spare ≡ 8
    enough none = case tells
      where
        case : IsTold done.spare s.reply ⊎ IsSpaceOf s.call s.reply → done.spare ≡ 8
        case (inl (inl quiet)) = s.enough (quiet_tells s.reply quiet)
        case (inl (inr full)) = absurd (none (record { xid = s.xid; call = s.call; reads = s.reads; tells = inl (s.replies ∙ ap (reply_text s.xid) full.0) }))
        case (inr other) = absurd (none (record {
          xid = s.xid;
          call = s.call;
          reads = s.reads;
          tells = inr (record { at = other.0; asks = asks_space bytes s.xid s.call other.0 s.reads other.1 other.2; numbers = other.3; text = s.replies ∙ ap (reply_text s.xid) other.4 });
        }))

    pub acted_tells : TellsFree (TellsSpace bytes) free done
    acted_tells = record { told = told; enough = enough }

  pub attempt_tells : (attempt : Attempt) → Gives (StandsWith volume areas) StepOfTree free client bytes moment truth tree attempt → ((at : List ℕ) → IsSpaceCall bytes at → IfActed (λ done. done.spare ≡ told_free free (statfs tree at free)) attempt)
      → IfActed (TellsFree (TellsSpace bytes) free) attempt
  attempt_tells (Need wants) gives space = tt
  attempt_tells (Change draft done) gives space = acted_tells done draft gives space
  attempt_tells (Inner draft) gives space = tt
  attempt_tells (Answer done) gives space = acted_tells done _ gives space
