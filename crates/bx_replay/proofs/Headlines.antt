-- A replay that stands has the headline's property.
use Rattle.std.proofs.Common.{◌≡◌, ◌⊎◌, ℕ, zero, suc, ◌<◌, List, [], ◌∷◌, ◌++◌, Option, Some, None, inl, inr, refl, sym, ap, ◌∙◌, arith, subst}
use Rattle.std.specs.Prelude.{◌≢◌, map, reverse}
use Rattle.std.specs.List.{AllByRecursion}
use Rattle.std.proofs.lemmas.List.{reverse-append, reverse-reverse}
use Rattle.bx_script.specs.declared.line.Line.{Line}
use Rattle.bx_base.specs.declared.names.Point.{Point}
use Rattle.bx_script.specs.declared.trace_line.TraceLine.{TraceLine}
use Rattle.bx_script.specs.declared.trace_line.TraceLine.TheVariants.{Acted}
use Rattle.bx_script.specs.TraceText.{InTraceRange, trace_text}
use Rattle.bx_script.proofs.TraceLines.{trace_text_injective}
use Rattle.bx_history.specs.Trace as traces
use Rattle.bx_history.specs.Account.{AwaitsNewest}
use Rattle.bx_history.specs.Legal.{LeadsNewest}
use Rattle.bx_history.specs.Parts.{Part, trace_of, waiting}
use Rattle.bx_history.specs.Placed.{HasReadingSince}
use Rattle.bx_history.proofs.Once.{one_history}
use Rattle.bx_model.specs.declared.entry.Entry.{Entry}
use Rattle.bx_model.specs.declared.tree.Tree.{Tree}
use Rattle.bx_model.specs.History.{IsStep}
use Rattle.bx_opens.specs.Opening.{first_tree}
use Rattle.bx_opens.specs.bx_cluster.specs.Closing.{Doubt, HasActed, IsDoubted, Tells}
use Rattle.bx_opens.specs.bx_cluster.specs.Runs as runs
use Rattle.bx_schedule.specs.Execution.{Snapshot}
use Rattle.bx_schedule.specs.Placing.{AreOfLines, Done, IsExecution, parts_of, schedule_of}
use Rattle.bx_opens.specs.AtOnce.{IsAtOnce}
use Rattle.bx_steps.specs.Steps as engine
use Rattle.bx_replay.specs.Headline.{rules, opening_of, AreTyped, EntryStep, Headline}
use Rattle.bx_replay.proofs.Accounting.{entered, typed_account}
use Rattle.bx_replay.proofs.Allowed.{all_push}
use Rattle.bx_replay.proofs.Closings.{IsClosed, closes_more, closes_none}
use Rattle.bx_replay.proofs.Doing.{all_append, all_reversed}
use Rattle.bx_replay.proofs.OneHistory.{step_once}

AreTyped-append : (a c : List traces.Entry) (b d : List Entry) → AreTyped a b → AreTyped c d → AreTyped (a ++ c) (b ++ d)
AreTyped-append [] c [] d h k = k
AreTyped-append [] c (y ∷ b) d h k = absurd h
AreTyped-append (x ∷ a) c [] d h k = absurd h
AreTyped-append (x ∷ a) c (y ∷ b) d h k = (h.0, AreTyped-append a c b d h.1 k)

AreTyped-reverse : (a : List traces.Entry) (b : List Entry) → AreTyped a b → AreTyped (reverse a) (reverse b)
AreTyped-reverse [] [] h = tt
AreTyped-reverse [] (y ∷ b) h = absurd h
AreTyped-reverse (x ∷ a) [] h = absurd h
AreTyped-reverse (x ∷ a) (y ∷ b) h =
    rw (reverse-append (x ∷ []) a, reverse-append (y ∷ []) b) (AreTyped-append (reverse a) (x ∷ []) (reverse b) (y ∷ []) (AreTyped-reverse a b h.1) (h.0, tt))

-- a history in bytes, with the calls and the replies that the bytes are
record Typed (first last : Tree) (bytes : List traces.Entry) : Type 0 where
  history : List Entry
  typed : AreTyped bytes history
  leads : LeadsNewest IsStep first history last

typed : (first last : Tree) (bytes : List traces.Entry) → LeadsNewest EntryStep first bytes last → Typed first last bytes
typed first last [] leads = record { history = []; typed = tt; leads = leads }
typed first last (entry ∷ earlier) leads =
    let so_far = typed first leads.0 earlier leads.1 in
    record { history = leads.2.entry ∷ so_far.history; typed = (leads.2.typed, so_far.typed); leads = (leads.0, so_far.leads, leads.2.step) }

-- the same for a trace and a history with the oldest first
one_told : (first last tree : Tree) (trace : List TraceLine) (history others : List traces.Entry)
    → traces.FitsNewest rules.kept trace history → LeadsNewest EntryStep first history last
    → traces.FitsNewest rules.kept trace (reverse others) → LeadsNewest EntryStep first (reverse others) tree
    → (others ≡ reverse history) × (tree ≡ last)
one_told first last tree trace history others fits leads fits' leads' =
    let one = one_history EntryStep step_once rules.kept first tree last trace (reverse others) history fits' leads' fits leads in
    (sym (reverse-reverse others) ∙ ap (λ (h : List traces.Entry). reverse h) one.0, one.1)

-- what was done, and led to where a schedule stands now, and of which the trace is in range
pub record IsOfLines (MayStop : Type 0) (done : List Done) : Type 0 where
  pub of_lines : AreOfLines MayStop done
  pub now : Option Snapshot
  pub execution : IsExecution MayStop done now
  pub in_range : AllByRecursion InTraceRange (trace_of (parts_of done))

-- the headline, by which a schedule stands so now
pub record HeadlineAt (MayStop : Type 0) (schedule : List Line) (trace closing : List TraceLine) (last : Tree) (now : Option Snapshot) : Type 0 where
  pub headline : Headline MayStop schedule trace closing last
  pub stands : headline.placed.now ≡ now

-- points behind the trace close a history, as the headline says
headline_of : (MayStop : Type 0) (done : List Done) (points : List Point) (history : List traces.Entry) (last next : Tree) → (is : IsOfLines MayStop done)
    → AwaitsNewest EntryStep rules (opening_of (schedule_of done)) (parts_of done) history last (waiting (parts_of done)) → IsClosed EntryStep rules (opening_of (schedule_of done)) (parts_of done) points next
    → AllByRecursion InTraceRange (map Acted points) → HeadlineAt MayStop (schedule_of done) (reverse (trace_of (parts_of done))) (map Acted points) next is.now
headline_of MayStop done points history last next is accounts closes in_range =
    let first : Tree = opening_of (schedule_of done) in
    let all = typed first next closes.history closes.leads in
    let twice : reverse (reverse closes.history) ≡ closes.history = reverse-reverse closes.history in
    record {
      headline = record {
        history = reverse all.history;
        bytes = reverse closes.history;
        typed = AreTyped-reverse closes.history all.history all.typed;
        fits = rw (closes.whole_is, twice) closes.fits;
        legal = rw (reverse-reverse all.history) all.leads;
        placed = record {
          done = done;
          along = refl;
          of_lines = is.of_lines;
          now = is.now;
          execution = is.execution;
          whole = sym (reverse-reverse (trace_of (parts_of done)));
          placed = accounts.placed;
          closed = closes.closed;
        };
        in_range = all_append InTraceRange (reverse (trace_of (parts_of done))) (map Acted points) (all_reversed InTraceRange (trace_of (parts_of done)) is.in_range) in_range;
        only = λ others tree fits leads.
            let one = one_told first next tree (reverse (reverse (trace_of (parts_of done)) ++ map Acted points)) closes.history others (rw closes.whole_is closes.fits) closes.leads fits leads in
            (one.0, one.1);
      };
      stands = refl;
    }

module _ (Of : Tree → traces.Entry → Tree → Type 0) (at_once : List ℕ → Type 0) (acts : (tree next : Tree) (entry : traces.Entry) → Of tree entry next → runs.StepOf engine.StepOfTree tree entry next)
    (answers : (bytes : List ℕ) → IsAtOnce bytes → at_once bytes) (MayStop : Type 0) (done : List Done) (stood : IsOfLines MayStop done) where
  abbrev opening : Tree
  opening = opening_of (schedule_of done)

  abbrev parts : List Part
  parts = parts_of done

  -- the trace alone
  pub headline : (account : runs.Account Of at_once (opening_of (schedule_of done)) (parts_of done)) → HeadlineAt MayStop (schedule_of done) (reverse (trace_of (parts_of done))) [] account.last stood.now
  headline account =
      let accounts = typed_account Of at_once acts answers opening account.last parts account.history (waiting parts) account.accounts in
      headline_of MayStop done [] account.history account.last account.last stood accounts (closes_none EntryStep rules opening parts account.history account.last (waiting parts) accounts) tt

  -- a point that is told is that of a call in doubt in one of the first so many slots
  record IsOneOf (doubts : ℕ → Option Doubt) (slots : ℕ) (point : Point) : Type 0 where
    slot : ℕ
    below : slot < slots
    of : Doubt
    stands_there : doubts slot ≡ Some of
    at : of.point ≡ point

  all_of_more : (doubts : ℕ → Option Doubt) (slots : ℕ) (points : List Point) → AllByRecursion (IsOneOf doubts slots) points → AllByRecursion (IsOneOf doubts (suc slots)) points
  all_of_more doubts slots [] all = tt
  all_of_more doubts slots (point ∷ points) all =
      (record { slot = all.0.slot; below = (let less = all.0.below in omega (arith, less)); of = all.0.of; stands_there = all.0.stands_there; at = all.0.at }, all_of_more doubts slots points all.1)

  module _ (account : runs.Account Of at_once (opening_of (schedule_of done)) (parts_of done)) (doubts : ℕ → Option Doubt)
      (doubted : (slot : ℕ) (doubt : Doubt) → doubts slot ≡ Some doubt → IsDoubted (parts_of done) doubt)
      (once : (slot other : ℕ) (doubt twin : Doubt) → doubts slot ≡ Some doubt → doubts other ≡ Some twin → twin.call.call ≡ doubt.call.call → other ≡ slot) where
    abbrev accounts : AwaitsNewest EntryStep rules opening parts account.history account.last (waiting parts)
    accounts = typed_account Of at_once acts answers opening account.last parts account.history (waiting parts) account.accounts

    -- what is told at the end, by the calls in doubt in the first so many slots
    record ClosesSlots (slots : ℕ) (next : Tree) (opened : List Point) : Type 0 where
      closes : IsClosed EntryStep rules opening parts opened next
      each : AllByRecursion (IsOneOf doubts slots) opened

    closing : (slots : ℕ) (next : Tree) (opened : List Point) → Tells Of doubts slots account.last next opened → ClosesSlots slots next opened
    closing zero next opened told = rw (told.0, told.1) (record { closes = closes_none EntryStep rules opening parts account.history account.last (waiting parts) accounts; each = tt })
    closing (suc slot) next opened (middle, earlier, before, now) = by (closing slot middle earlier before) now
      where
        by : ClosesSlots slot middle earlier → (((next ≡ middle) × (opened ≡ earlier)) ⊎ HasActed Of middle (doubts slot) next earlier opened) → ClosesSlots (suc slot) next opened
        by so_far (inl none) = rw (none.0, none.1) (record { closes = so_far.closes; each = all_of_more doubts slot earlier so_far.each })
        by so_far (inr told) =
            let was = doubted slot told.of told.is in
            rw (told.open_is) (record {
              closes = closes_more EntryStep rules opening parts earlier middle next told.of.call told.of.point told.acts.reply so_far.closes was.lacks was.of (others earlier so_far.each)
                  (subst (λ (n : ℕ). HasReadingSince n told.of.point.moment parts) (sym was.of) was.since) (entered middle next _ (acts middle next _ told.acts.step));
              each = all_push (IsOneOf doubts (suc slot)) earlier told.of.point (all_of_more doubts slot earlier so_far.each) (record { slot = slot; below = omega arith; of = told.of; stands_there = told.is; at = refl });
            })
          where
            -- a call in doubt in another slot is another call
            apart : (point : Point) → IsOneOf doubts slot point → point.call ≢ told.of.point.call
            apart point one same =
                let mine = doubted slot told.of told.is in
                let other = doubted one.slot one.of one.stands_there in
                let number : one.of.call.call ≡ told.of.call.call = sym other.of ∙ ap (λ (p : Point). p.call) one.at ∙ same ∙ mine.of in
                let one_slot : one.slot ≡ slot = once slot one.slot told.of one.of told.is one.stands_there number in
                let less = one.below in
                omega (arith, less, one_slot)

            others : (points : List Point) → AllByRecursion (IsOneOf doubts slot) points → AllByRecursion (λ other. other.call ≢ told.of.point.call) points
            others [] all = tt
            others (point ∷ points) all = (apart point all.0, others points all.1)

    -- with what is told at the end
    pub headline_told : (slots : ℕ) (next : Tree) (opened : List Point) → Tells Of doubts slots account.last next opened → AllByRecursion InTraceRange (map Acted opened)
        → HeadlineAt MayStop (schedule_of done) (reverse (trace_of (parts_of done))) (map Acted opened) next stood.now
    headline_told slots next opened told in_range = headline_of MayStop done opened account.history account.last next stood accounts (closing slots next opened told).closes in_range

-- before the first line
pub no_headline : (MayStop : Type 0) → Headline MayStop [] [] [] (first_tree 0 1)
no_headline MayStop = record {
  history = [];
  bytes = [];
  typed = tt;
  fits = refl;
  legal = refl;
  placed = record { done = []; along = refl; of_lines = tt; now = None; execution = refl; whole = refl; placed = tt; closed = tt };
  in_range = tt;
  only = λ others tree fits leads. one_told (first_tree 0 1) (first_tree 0 1) tree [] [] others refl refl fits leads;
}

-- ---- one output has one trace

stepped : (first last : Tree) (bytes : List traces.Entry) (history : List Entry) → AreTyped bytes history → LeadsNewest IsStep first history last → LeadsNewest EntryStep first bytes last
stepped first last [] [] typed leads = leads
stepped first last [] (entry ∷ earlier) typed leads = absurd typed
stepped first last (bytes ∷ before) [] typed leads = absurd typed
stepped first last (bytes ∷ before) (entry ∷ earlier) typed leads =
    (leads.0, stepped first leads.0 before earlier typed.1 leads.1, record { entry = entry; typed = typed.0; step = leads.2 })

pub one_output : (MayStop : Type 0) (schedule : List Line) (a b c d : List TraceLine) (x y : Tree) → Headline MayStop schedule a c x → Headline MayStop schedule b d y → trace_text (a ++ c) ≡ trace_text (b ++ d)
    → (a ++ c ≡ b ++ d) × (x ≡ y)
one_output MayStop schedule a b c d x y first second e =
    let same : a ++ c ≡ b ++ d = trace_text_injective (a ++ c) (b ++ d) first.in_range second.in_range e in
    let leads = stepped (opening_of schedule) y (reverse second.bytes) (reverse second.history) (AreTyped-reverse second.bytes second.history second.typed) second.legal in
    let one = first.only second.bytes y (rw same second.fits) leads in
    (same, sym one.1)
