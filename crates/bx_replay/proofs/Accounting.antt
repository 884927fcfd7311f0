-- What a cluster's parts account for, as steps of the file tree.
use Rattle.std.proofs.Common.{◌≡◌, ℕ, List, [], ◌∷◌, Option, Some, None, refl, subst}
use Rattle.bx_history.specs.Account.{AwaitsNewest}
use Rattle.bx_history.specs.Legal.{LeadsNewest}
use Rattle.bx_history.specs.Parts.{Arrival, Part}
use Rattle.bx_history.specs.Placed.{IsImmediateAt, IsPart, PlacedNewest, Repeat, again_by, again_in, taken_by, taken_in}
use Rattle.bx_history.specs.Trace as traces
use Rattle.bx_history.proofs.Lists.{all_mapped}
use Rattle.bx_model.specs.declared.tree.Tree.{Tree}
use Rattle.bx_opens.specs.bx_cluster.specs.Runs as runs
use Rattle.bx_opens.specs.AtOnce.{IsAtOnce}
use Rattle.bx_steps.specs.Steps as engine
use Rattle.bx_replay.specs.Headline.{EntryStep, rules}

-- a step by a deed is one by its entry
pub entered : (tree next : Tree) (entry : traces.Entry) → runs.StepOf engine.StepOfTree tree entry next → EntryStep tree entry next
entered tree next entry s = record {
  entry = record { call = entry.call; what = s.call; moment = entry.moment; spare = entry.spare; made = entry.made; reply = s.reply };
  typed = record { xid = s.xid; number = refl; reads = s.reads; moment = refl; spare = refl; made = refl; replies = s.replies };
  step = record { acts = s.acts; moment_fits = s.moment_fits; spare_fits = s.spare_fits; made_fits = s.made_fits; enough = s.enough };
}

module _ (Of : Tree → traces.Entry → Tree → Type 0) (at_once : List ℕ → Type 0) (acts : (tree next : Tree) (entry : traces.Entry) → Of tree entry next → runs.StepOf engine.StepOfTree tree entry next)
    (answers : (bytes : List ℕ) → IsAtOnce bytes → at_once bytes) where
  leads : (first last : Tree) (history : List traces.Entry) → LeadsNewest Of first history last → LeadsNewest EntryStep first history last
  leads first last [] is = is
  leads first last (entry ∷ earlier) is = (is.0, leads first is.0 earlier is.1, entered is.0 last entry (acts is.0 last entry is.2))

  -- what is taken, and sent again, doesn't go by what is answered at once
  same_taken : (parts : List Part) (arrives : Option Arrival) → taken_by (runs.rules at_once) parts arrives ≡ taken_by rules parts arrives
  same_taken parts None = refl
  same_taken parts (Some arrival) = refl

  same_again : (parts : List Part) (arrives : Option Arrival) → again_by (runs.rules at_once) parts arrives ≡ again_by rules parts arrives
  same_again parts None = refl
  same_again parts (Some arrival) = refl

  immediate : (reading : Option ℕ) (bytes : List ℕ) → IsImmediateAt rules reading bytes → IsImmediateAt (runs.rules at_once) reading bytes
  immediate None bytes is = is
  immediate (Some reading) bytes is = (is.0, answers bytes is.1)

  part : (older : List Part) (its : Part) → IsPart (runs.rules at_once) older its → IsPart rules older its
  part older its is = record {
    takes = subst (λ (l : List Arrival). taken_in its.lines ≡ l) (same_taken older its.what.arrives) is.takes;
    repeats = subst (λ (l : List Repeat). again_in its.lines ≡ l) (same_again older its.what.arrives) is.repeats;
    immediate = all_mapped _ _ (traces.takings its.lines) (λ taking was at_once_is alive. was (immediate its.what.reading taking.bytes at_once_is) alive) is.immediate;
    prompt = λ prompt. is.prompt prompt;
    moments = is.moments;
  }

  placed : (parts : List Part) → PlacedNewest (runs.rules at_once) parts → PlacedNewest rules parts
  placed [] all = tt
  placed (its ∷ older) all = (part older its all.0, placed older all.1)

  pub typed_account : (first last : Tree) (parts : List Part) (history : List traces.Entry) (waits : ℕ → List traces.Taking) → AwaitsNewest Of (runs.rules at_once) first parts history last waits → AwaitsNewest EntryStep rules first parts history last waits
  typed_account first last parts history waits so_far = record {
    fits = so_far.fits;
    leads = leads first last history so_far.leads;
    placed = placed parts so_far.placed;
    waiting_are = so_far.waiting_are;
    pending = so_far.pending;
    in_order = so_far.in_order;
    split = so_far.split;
  }
