-- A step by a deed as a step of a history, and that there is one.
use Rattle.std.proofs.Common.{◌≡◌, ℕ, Option, Some, refl, sym, ap, ◌∙◌}
use Rattle.bx_steps.specs.Steps.{Enters, StepOfTree}
use Rattle.bx_model.specs.declared.call.Call.{Call}
use Rattle.bx_model.specs.declared.entry.Entry.{Entry}
use Rattle.bx_model.specs.declared.reply.Reply.{Reply}
use Rattle.bx_model.specs.declared.tree.Tree.{Tree}
use Rattle.bx_model.specs.Act.{act}
use Rattle.bx_nfs.proofs.Reading.{reads_once}
use Rattle.bx_views.specs.Attempts.{Deed}

pub entered : (tree next : Tree) (deed : Deed) (number : ℕ) → StepOfTree tree deed next → (entry : Entry) × (entry.call ≡ number) × Enters tree deed entry next
entered tree next deed number s =
    let entry : Entry = record { call = number; what = s.call; moment = deed.moment; spare = deed.spare; made = deed.made; reply = s.reply } in (
      entry,
      refl,
      record {
        xid = s.xid;
        reads = s.reads;
        moment = refl;
        spare = refl;
        made = refl;
        replies = s.replies;
        step = record { acts = s.acts; moment_fits = s.moment_fits; spare_fits = s.spare_fits; made_fits = s.made_fits; enough = s.enough };
      },
    )

next_in : Tree → Option (Reply × Tree) → Tree
next_in tree (Some step) = step.1
next_in tree _ = tree

pub one_next : (tree a b : Tree) (deed : Deed) → StepOfTree tree deed a → StepOfTree tree deed b → a ≡ b
unfolding next_in
one_next tree a b deed s t =
    let same : s.call ≡ t.call = (reads_once deed.call s.xid t.xid s.call t.call s.reads t.reads).1 in
    let both : Some (s.reply, a) ≡ Some (t.reply, b) = sym s.acts ∙ ap (λ (call : Call). act tree call deed.moment deed.spare deed.made) same ∙ t.acts in
    ap (next_in tree) both
