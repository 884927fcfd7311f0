-- What STATFS comes to is one step of the tree, with the free blocks that it tells.
use Rattle.std.proofs.Common.{◌≡◌, ℕ, ◌*◌, ◌≤◌, List, [], ◌∷◌, Option, Some, None, true, false, refl, sym, ap, ◌∙◌, subst, inl, inr, arith}
use Rattle.std.specs.Prelude.{◌⊎◌, Ok, Err}
use Rattle.bx_base.specs.declared.names.Mode.{Mode}
use Rattle.bx_engine.specs.Outcomes.{ComesSpace, ComesToSpace, told_free}
use Rattle.bx_engine.specs.Paths.{ReadPathOf}
use Rattle.bx_attempts.specs.Replies.{IsStopped, done_with}
use Rattle.bx_steps.specs.Steps.{StandsWith, StepOfTree}
use Rattle.bx_engine.proofs.Acting.{statfs_acts}
use Rattle.bx_inodes.specs.declared.stop.Stop.{Stop}
use Rattle.bx_inodes.specs.declared.stop.Stop.TheVariants as stops
use Rattle.bx_model.specs.declared.call.Args.TheVariants.{Handle}
use Rattle.bx_model.specs.declared.call.Call.{Call}
use Rattle.bx_model.specs.declared.reply.Reply.{Reply}
use Rattle.bx_model.specs.declared.reply.Reply.TheVariants as replies
use Rattle.bx_model.specs.declared.tree.Tree.{Tree}
use Rattle.bx_model.specs.History.{tells_spare}
use Rattle.bx_model.specs.Reading.{named_file, statfs}
use Rattle.bx_model.specs.Steps.{Outcome, done, must, ◌>>=◌}
use Rattle.bx_nfs.specs.Wire.{ReadsAs}
use Rattle.bx_reads.specs.Space.{IsSpace, OnSpace}
use Rattle.bx_tree_files.specs.declared.file.File.{File}
use Rattle.bx_views.specs.declared.attempt.Attempt.{Attempt}
use Rattle.bx_views.specs.declared.attempt.Attempt.TheVariants.{Need, Change, Inner, Answer}
use Rattle.bx_views.specs.declared.attempt.Done.{Done}
use Rattle.bx_views.specs.Attempts.{Gives, IfActed, deed_of}
use Rattle.bx_views.specs.Truths.{Held, Hints, Truth}

-- ---- an error doesn't depend on the free blocks, and else these are told

module _ (tree : Tree) (free : ℕ) where
  abbrev pub by_file : Option File → ℕ → Outcome
  by_file found spare = must found 70 >>= (λ file. Ok (replies.Space (8192 ∷ 4096 ∷ 960 * tree.areas ∷ spare ∷ spare ∷ []), tree))

  told_again : (found : Option File) → done tree (by_file found (told_free free (by_file found free))) ≡ done tree (by_file found free)
  told_again None = refl
  told_again (Some file) = refl

  told_enough : (found : Option File) (reply : Reply) → done tree (by_file found free) ≡ (reply, tree) → tells_spare reply ≡ false → told_free free (by_file found free) ≡ 8
  told_enough None reply is quiet = refl
  told_enough (Some file) reply is quiet = let loud : true ≡ tells_spare reply = ap (λ (p : Reply × Tree). tells_spare p.0) is in absurd cc

  told_is : (found : Option File) → (told_free free (by_file found free) ≡ 8) ⊎ (told_free free (by_file found free) ≡ free)
  told_is None = inl refl
  told_is (Some file) = inr refl

-- ---- what is answered

module _ (tree : Tree) (free : ℕ) (at : List ℕ) (xid : ℕ) (attempt : Attempt) where
  pub space_answer : (reply : Reply) (count : ℕ) → count ≡ free → statfs tree at free ≡ Ok (reply, tree) → count ≤ 61440 → attempt ≡ Answer (done_with xid reply count)
      → ComesSpace tree free at xid attempt
  space_answer reply count same comes most is = subst (ComesSpace tree free at xid) (sym is) (record {
    reply = reply;
    comes_to = ap (done tree) comes;
    told = ap (done_with xid reply) (same ∙ sym (ap (told_free free) comes));
    most = most;
  })

  pub space_stops : (stop : Stop) → IsSpace tree free at (Err stop) → IsStopped xid stop attempt → ComesSpace tree free at xid attempt
  space_stops (stops.Need block mode) comes is = subst (ComesSpace tree free at xid) (sym is) tt
  space_stops (stops.Inner blocks) comes is = absurd comes
  space_stops (stops.Status status) comes is = subst (ComesSpace tree free at xid) (sym is) (record {
    reply = replies.Status status;
    comes_to = ap (done tree) (comes free);
    told = ap (done_with xid (replies.Status status)) (sym (ap (told_free free) (comes free)));
    most = omega arith;
  })
  space_stops stops.OutOfMemory comes is = absurd is

-- what it tells
pub space_tells : (tree : Tree) (free : ℕ) (at : List ℕ) (xid : ℕ) (attempt : Attempt) → ComesSpace tree free at xid attempt → IfActed (λ done. done.spare ≡ told_free free (statfs tree at free)) attempt
space_tells tree free at xid (Need wants) comes = tt
space_tells tree free at xid (Change draft acted) comes = absurd comes
space_tells tree free at xid (Inner draft) comes = tt
space_tells tree free at xid (Answer acted) comes = ap (λ (d : Done). d.spare) comes.told

-- ---- the step

module _ (volume areas client : ℕ) (bytes : List ℕ) (moment free : ℕ) (truth : Truth) (tree : Tree) (xid : ℕ) (call : Call) (at : List ℕ)
    (reads : ReadsAs bytes xid call) (fits : moment ≤ 4294967295999) (is : call.args ≡ Handle at) (asks : call.procedure ≡ 17) where
  abbrev spare : ℕ
  spare = told_free free (statfs tree at free)

  space_step : (acted : Done) → ComesToSpace tree free at xid acted → StepOfTree tree (deed_of client bytes moment acted) tree
  space_step acted comes =
      let few : spare ≤ 61440 = subst (λ (d : Done). d.spare ≤ 61440) comes.told comes.most in
      subst (λ (d : Done). StepOfTree tree (deed_of client bytes moment d) tree) (sym comes.told) (record {
        xid = xid;
        call = call;
        reply = comes.reply;
        reads = reads;
        acts = statfs_acts tree call moment at spare is asks ∙ ap (λ (x : Reply × Tree). Some x) (told_again tree free (named_file tree at) ∙ comes.comes_to);
        replies = refl;
        moment_fits = fits;
        spare_fits = omega (arith, few);
        made_fits = omega arith;
        enough = told_enough tree free (named_file tree at) comes.reply comes.comes_to;
      })

  pub space_gives : (attempt : Attempt) → ComesSpace tree free at xid attempt → Gives (StandsWith volume areas) StepOfTree free client bytes moment truth tree attempt
  space_gives (Need wants) comes = tt
  space_gives (Change draft acted) comes = absurd comes
  space_gives (Inner draft) comes = absurd comes
  space_gives (Answer acted) comes = record {
    next = tree;
    step = space_step acted comes;
    leads = record { each = λ hints was. was };
    spare = subst (λ (d : Done). (d.spare ≡ 8) ⊎ (d.spare ≡ free)) (sym comes.told) (told_is tree free (named_file tree at));
  }

-- ---- the path

pub space_on : (held : Held) (hints : Hints) (volume areas : ℕ) (handle : List ℕ) (procedure : ℕ) → procedure ≡ 17 → (at : ℕ) (mode : Mode) → OnSpace volume areas handle at mode → ReadPathOf held hints volume areas procedure (Handle handle) at mode
space_on held hints volume areas handle procedure asks at mode (inl on) = inl on
space_on held hints volume areas handle procedure asks at mode (inr own) = inr (asks, record { area = own.area; at_is = own.at_is; mode_is = own.mode_is })
