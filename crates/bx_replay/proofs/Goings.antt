-- A replay between two lines: how it goes on, and what it leaves where it stops.
use Rattle.std.proofs.Common.{◌≡◌, ℕ, ◌+◌, ◌<◌, ◌≤◌, List, [], ◌∷◌, ◌++◌, length, false, refl, sym, ap, ◌∙◌, arith, inl, inr, append_assoc, take, drop, subst, Option, Some}
use Rattle.std.specs.Prelude.{map, reverse}
use Rattle.std.specs.FinSet as set
use Rattle.std.specs.Ordering.{nat_cmp}
use Rattle.std.proofs.lemmas.List.{append-nil, append_cancel_left, take-append-drop}
use Rattle.bx_base.specs.Text.{BeginsWith, LacksFeed, lines_of as text_lines}
use Rattle.bx_base.specs.declared.names.Point.{Point}
use Rattle.bx_history.specs.Parts.{Part, trace_of}
use Rattle.bx_model.specs.declared.tree.Tree.{Tree}
use Rattle.bx_opens.specs.Opening.{first_tree}
use Rattle.bx_schedule.specs.Execution.{Snapshot}
use Rattle.bx_schedule.specs.Placing.{Done, lines_of, parts_of, schedule_of}
use Rattle.bx_script.specs.ScheduleLine.{spelling}
use Rattle.bx_script.specs.TraceText.{trace_text}
use Rattle.bx_script.specs.declared.line.Line.{Line}
use Rattle.bx_script.specs.declared.trace_line.TraceLine.{TraceLine}
use Rattle.bx_script.specs.declared.trace_line.TraceLine.TheVariants.{Acted}
use Rattle.bx_stops.specs.declared.stop.Reason.{Reason}
use Rattle.bx_stops.specs.declared.stop.Reason.TheVariants.{Grammar}
use Rattle.bx_stops.specs.declared.stop.Stop.TheVariants.{Refused}
use Rattle.bx_replay.specs.Headline.{opening_of}
use Rattle.bx_replay.specs.Lines.{IsRefusedLine, after_lines}
use Rattle.bx_replay.specs.Outcome.{AtEnd, IsBroken, IsCutOff, IsRefused, IsReplayed, IsTurnedAwayThere, closing_text}
use Rattle.bx_replay.specs.Replay.{Going, IsRead, IsRefusedThere, Reached, ReplayStands, StandsAfter, WroteOn}
use Rattle.bx_replay.proofs.Allowed.{are_done, begins_newest}
use Rattle.bx_replay.proofs.Headlines.{HeadlineAt, IsOfLines, no_headline}
use Rattle.bx_replay.proofs.NextLines.{IsRefusedHere}
use Rattle.bx_replay.proofs.ReadLines.{all_read, cut_at, cut_first, lines_read, one_more, read_lines, refused_empty, refused_first, refused_line, refused_outside}
use Rattle.bx_script.specs.Schedule.{HasPlace}

-- what led to a cluster has the headline's property
abbrev pub Heads : Type 0 → (Tree → List Part → Type 0) → Type 0
Heads MayStop Led = (done : List Done) → Led (opening_of (schedule_of done)) (parts_of done) → (is : IsOfLines MayStop done) → (last : Tree) × HeadlineAt MayStop (schedule_of done) (reverse (trace_of (parts_of done))) [] last is.now

module _ (MayStop : Type 0) (Led : Tree → List Part → Type 0) (lacking : set.FinSet nat_cmp) (now : Snapshot) (text rest : List ℕ) (number : ℕ) (start written : List ℕ)
    (going : Going MayStop Led lacking now text rest number start written) where
  abbrev pub so_far : IsRead MayStop now.seen now.clock text rest number
  so_far = record { done = lines_of going.done; reached = going.reached; read = going.read; count = going.count }

  abbrev pub its_trace : List TraceLine
  its_trace = reverse (trace_of (parts_of going.done))

  abbrev pub of_lines : IsOfLines MayStop going.done
  of_lines = record { of_lines = going.stands.of_lines; now = Some now; execution = going.stands.execution; in_range = going.stands.in_range }

  pub stops_broken : Heads MayStop Led → WroteOn start written (IsBroken MayStop text)
  stops_broken heads =
      let head = heads going.done going.stands.led of_lines in
      record {
        output = trace_text its_trace;
        added = going.stands.output;
        holds = record {
          done = schedule_of going.done;
          others = text_lines rest;
          trace = its_trace;
          closing = [];
          last = head.0;
          more = [];
          read = read_lines MayStop now.seen now.clock text rest number so_far;
          are_done = are_done MayStop (lines_of going.done) going.reached.are_done;
          headline = head.1.headline;
          part = inl (append-nil (trace_text its_trace));
        };
      }

  pub stops_cut : Heads MayStop Led → (piece left : List ℕ) → rest ≡ piece ++ left → LacksFeed piece → length piece ≤ 18600 → WroteOn start written (IsCutOff MayStop text left)
  stops_cut heads piece left e lacks short =
      let head = heads going.done going.stands.led of_lines in
      record {
        output = trace_text its_trace;
        added = going.stands.output;
        holds = record { cut = cut_at MayStop now.seen now.clock text rest piece left number so_far e lacks short; trace = its_trace; last = head.0; headline = head.1.headline; output-is = refl };
      }

  pub stops_outside : Heads MayStop Led → IsRefusedHere rest (number + 1) → WroteOn start written (IsRefused MayStop text (number + 1) Grammar)
  stops_outside heads here =
      let head = heads going.done going.stands.led of_lines in
      record {
        output = trace_text its_trace;
        added = going.stands.output;
        holds = record { first = refused_outside MayStop now.seen now.clock text rest number so_far here; trace = its_trace; last = head.0; headline = head.1.headline; there = inl refl; output-is = refl };
      }

  turned_there : (line : Line) (next : List ℕ) (reason : Reason) → IsRefusedThere now line (Refused (number + 1) reason) → IsTurnedAwayThere (Some now) (spelling line ∷ text_lines next) (number + 1) reason
  turned_there line next reason there = record { line = line; rest = text_lines next; next = refl; error = there.0; refuses = there.1; tells = there.2 }

  pub stops_refused : Heads MayStop Led → (reason : Reason) (line : Line) (next : List ℕ) → number < 4294967295 → BeginsWith rest (spelling line) next → HasPlace false line → IsRefusedLine MayStop reason (after_lines (lines_of going.done)) line → IsRefusedThere now line (Refused (number + 1) reason)
      → WroteOn start written (IsRefused MayStop text (number + 1) reason)
  stops_refused heads reason line next few begins place why there =
      let head = heads going.done going.stands.led of_lines in
      record {
        output = trace_text its_trace;
        added = going.stands.output;
        holds = record {
          first = refused_line MayStop now.seen now.clock text rest next number line so_far few begins place reason why;
          trace = its_trace;
          last = head.0;
          headline = head.1.headline;
          there = inr (subst (λ (at : Option Snapshot). IsTurnedAwayThere at (spelling line ∷ text_lines next) (number + 1) reason) (sym head.1.stands) (turned_there line next reason there));
          output-is = refl;
        };
      }

  -- ---- with one line more

  module _ (Now : Type 0) (Led_now : Tree → List Part → Type 0) (lacking_now : set.FinSet nat_cmp) (later : Snapshot) (line : Line) (next after : List ℕ) (begins : BeginsWith rest (spelling line) next)
      (reached : Reached Now later.seen later.clock (line ∷ lines_of going.done)) where
    pub going_on : StandsAfter Now Led_now lacking_now now later line going.done start after → Going Now Led_now lacking_now later text next (number + 1) start after
    going_on stands = record {
      done = record { line = line; parts = stands.parts } ∷ going.done;
      reached = reached;
      read = one_more MayStop now.seen now.clock text rest next number line so_far begins;
      count = (let count = going.count in omega (arith, count));
      stands = stands.stands;
    }

    -- the line was done, and only a part of its trace was written
    pub stops_torn : Heads Now Led_now → (text_new : List ℕ) (n : ℕ) → after ≡ written ++ take n text_new → StandsAfter Now Led_now lacking_now now later line going.done start (written ++ text_new) → WroteOn start after (IsBroken Now text)
    stops_torn heads text_new n part stands =
        let done : List Done = record { line = line; parts = stands.parts } ∷ going.done in
        let head = heads done stands.stands.led (record { of_lines = stands.stands.of_lines; now = Some later; execution = stands.stands.execution; in_range = stands.stands.in_range }) in
        let trace : List ℕ = trace_text (reverse (trace_of (parts_of done))) in
        let wrote : List ℕ = trace_text its_trace ++ take n text_new in
        let joined : written ++ text_new ≡ start ++ (trace_text its_trace ++ text_new) = ap (λ (w : List ℕ). w ++ text_new) going.stands.output ∙ append_assoc start (trace_text its_trace) text_new in
        let whole : wrote ++ drop n text_new ≡ trace =
        append_assoc (trace_text its_trace) (take n text_new) (drop n text_new) ∙ ap (λ (w : List ℕ). trace_text its_trace ++ w) (take-append-drop n text_new)
        ∙ append_cancel_left start _ _ (sym joined ∙ stands.stands.output) in
        record {
          output = wrote;
          added = part ∙ ap (λ (w : List ℕ). w ++ take n text_new) going.stands.output ∙ append_assoc start (trace_text its_trace) (take n text_new);
          holds = record {
            done = schedule_of done;
            others = text_lines next;
            trace = reverse (trace_of (parts_of done));
            closing = [];
            last = head.0;
            more = drop n text_new;
            read = lines_read text next (schedule_of done) (begins_newest Now (lines_of done) reached.are_done) (one_more MayStop now.seen now.clock text rest next number line so_far begins);
            are_done = are_done Now (lines_of done) reached.are_done;
            headline = head.1.headline;
            part = inl whole;
          };
        }

-- ---- the end

-- The closing points are told of the tree: with them the trace has the headline's property.
abbrev pub ClosesSo : Type 0 → List Done → Option Snapshot → Tree → List Point → Type 0
ClosesSo MayStop done now tree points = HeadlineAt MayStop (schedule_of done) (reverse (trace_of (parts_of done))) (map Acted points) tree now

module _ (MayStop : Type 0) (Led : Tree → List Part → Type 0) (lacking : set.FinSet nat_cmp) (now : Snapshot) (text : List ℕ) (number : ℕ) (start before : List ℕ)
    (going : Going MayStop Led lacking now text [] number start before) (tree : Tree) (points : List Point) (closes : ClosesSo MayStop going.done (Some now) tree points) where
  abbrev trace : List TraceLine
  trace = reverse (trace_of (parts_of going.done))

  abbrev read : IsRead MayStop now.seen now.clock text [] number
  read = record { done = lines_of going.done; reached = going.reached; read = going.read; count = going.count }

  abbrev closing : List ℕ
  closing = closing_text (map Acted points) tree

  -- a part of the end was written
  pub stops_unfinished : (after : List ℕ) (n : ℕ) → after ≡ before ++ take n closing → WroteOn start after (IsBroken MayStop text)
  stops_unfinished after n part = record {
    output = trace_text trace ++ take n closing;
    added = part ∙ ap (λ (w : List ℕ). w ++ take n closing) going.stands.output ∙ append_assoc start (trace_text trace) (take n closing);
    holds = record {
      done = schedule_of going.done;
      others = [];
      trace = trace;
      closing = map Acted points;
      last = tree;
      more = drop n closing;
      read = read_lines MayStop now.seen now.clock text [] number read;
      are_done = are_done MayStop (lines_of going.done) going.reached.are_done;
      headline = closes.headline;
      part = inr (refl, append_assoc (trace_text trace) (take n closing) (drop n closing) ∙ ap (λ (w : List ℕ). trace_text trace ++ w) (take-append-drop n closing));
    };
  }

  -- all of it was
  pub finishes : (ReplayStands : AtEnd) (after : List ℕ) → after ≡ before ++ closing → ReplayStands (Some now) tree (map Acted points) → WroteOn start after (IsReplayed MayStop text ReplayStands)
  finishes ReplayStands after all stands = record {
    output = trace_text trace ++ closing;
    added = all ∙ ap (λ (w : List ℕ). w ++ closing) going.stands.output ∙ append_assoc start (trace_text trace) closing;
    holds = record {
      input = all_read MayStop now.seen now.clock text number read;
      trace = trace;
      closing = map Acted points;
      last = tree;
      headline = closes.headline;
      output-is = refl;
      stands = subst (λ (at : Option Snapshot). ReplayStands at tree (map Acted points)) (sym closes.stands) stands;
    };
  }

-- ---- the first line

module _ (MayStop : Type 0) where
  pub begins_broken : (text start : List ℕ) → WroteOn start start (IsBroken MayStop text)
  begins_broken text start = record {
    output = [];
    added = sym (append-nil start);
    holds = record { done = []; others = text_lines text; trace = []; closing = []; last = first_tree 0 1; more = []; read = refl; are_done = tt; headline = no_headline MayStop; part = inl refl };
  }

  pub begins_cut : (text piece left start : List ℕ) → text ≡ piece ++ left → LacksFeed piece → length piece ≤ 18600 → WroteOn start start (IsCutOff MayStop text left)
  begins_cut text piece left start e lacks short = record {
    output = [];
    added = sym (append-nil start);
    holds = record { cut = cut_first MayStop text piece left e lacks short; trace = []; last = first_tree 0 1; headline = no_headline MayStop; output-is = refl };
  }

  pub begins_empty : (text start : List ℕ) → text ≡ [] → WroteOn start start (IsRefused MayStop text 1 Grammar)
  begins_empty text start e = record {
    output = [];
    added = sym (append-nil start);
    holds = record { first = refused_empty MayStop text e; trace = []; last = first_tree 0 1; headline = no_headline MayStop; there = inl refl; output-is = refl };
  }

  pub begins_outside : (text start : List ℕ) → IsRefusedHere text 1 → WroteOn start start (IsRefused MayStop text 1 Grammar)
  begins_outside text start here = record {
    output = [];
    added = sym (append-nil start);
    holds = record { first = refused_first MayStop text here; trace = []; last = first_tree 0 1; headline = no_headline MayStop; there = inl refl; output-is = refl };
  }
