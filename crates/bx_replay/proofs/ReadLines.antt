-- What was read of a text: lines in the grammar, in their places and heard, and where a replay of them stops.
use Rattle.std.proofs.Common.{◌≡◌, ℕ, ◌+◌, ◌<◌, ◌≤◌, ◌==◌, Bool, false, List, [], ◌∷◌, ◌++◌, length, refl, sym, ap, ◌∙◌, arith, inl, inr, append_assoc}
use Rattle.std.specs.Prelude.{map, reverse, ◌⊎◌, ◌≢◌}
use Rattle.std.specs.List.{AllByRecursion}
use Rattle.std.proofs.lemmas.Bool.{ne_eqb}
use Rattle.std.proofs.lemmas.List.{append-nil, length-reverse, map-append, reverse-append, reverse-reverse}
use Rattle.bx_base.specs.Text.{BeginsWith, LacksFeed, ended, lines_of, text_of}
use Rattle.bx_base.proofs.Lines.{lines_of-append, lines_of-begins, text_of-append}
use Rattle.bx_script.specs.declared.line.Line.{Line}
use Rattle.bx_script.specs.ScheduleLine.{spelling}
use Rattle.bx_script.specs.Schedule.{HasPlace, BeginsSchedule}
use Rattle.bx_script.proofs.Spelled.{spelling_lacks_feed}
use Rattle.bx_stops.specs.declared.stop.Reason.{Reason}
use Rattle.bx_stops.specs.declared.stop.Reason.TheVariants.{Grammar, NoMachine, ClockBack, NoPacket, Up, Down, NothingToSync, StillNeeded}
use Rattle.bx_opens.specs.bx_world_events.specs.Refusals.{Seen}
use Rattle.bx_replay.specs.Lines.{IsRefusedLine, after_lines}
use Rattle.bx_replay.specs.Outcome.{IsCut, IsPlayable, IsReadTo, IsReplayRefusal, IsRefusedAt, IsTurnedAway}
use Rattle.bx_replay.specs.Replay.{IsRead}
use Rattle.bx_replay.proofs.Allowed.{are_done, begins_newest, few_newest}
use Rattle.bx_replay.proofs.NextLines.{IsRefusedHere}

-- ---- the lines of a text

-- spelled lines have no line feed
spelled_lack : (first : Bool) (lines : List Line) → AllByRecursion (HasPlace first) lines → AllByRecursion LacksFeed (map spelling lines)
spelled_lack first [] h = tt
spelled_lack first (line ∷ lines) h = (spelling_lacks_feed line h.0.0, spelled_lack first lines h.1)

schedule_lacks : (lines : List Line) → BeginsSchedule lines → AllByRecursion LacksFeed (map spelling lines)
schedule_lacks [] h = tt
schedule_lacks (line ∷ lines) h = (spelling_lacks_feed line h.0.0, spelled_lack false lines h.1)

pub lines_read : (text rest : List ℕ) (done : List Line) → BeginsSchedule done → IsReadTo text done rest → lines_of text ≡ map spelling done ++ lines_of rest
lines_read text rest done begins (inl e) = ap lines_of e ∙ lines_of-append (map spelling done) rest (schedule_lacks done begins)
lines_read text rest done begins (inr h) = h.1 ∙ sym (append-nil (map spelling done)) ∙ ap (λ (r : List ℕ). map spelling done ++ lines_of r) (sym h.0)

map_push : (done : List Line) (line : Line) → map spelling (done ++ line ∷ []) ≡ map spelling done ++ spelling line ∷ []
map_push done line = map-append spelling done (line ∷ [])

text_push : (lines : List (List ℕ)) (line : List ℕ) → text_of (lines ++ line ∷ []) ≡ text_of lines ++ ended line
text_push lines line = text_of-append lines (line ∷ []) ∙ ap (λ (w : List ℕ). text_of lines ++ w) (append-nil (ended line))

-- nothing begins an empty rest
none_begins : (line rest : List ℕ) → BeginsWith [] line rest → ⊥
none_begins [] rest b = elim b.parts [ inl e ↦ cc | inr h ↦ (let l = h.1 in omega arith) ]
none_begins (c ∷ line) rest b = elim b.parts [ inl e ↦ cc | inr h ↦ (let e = h.0 in cc) ]

pub read_on : (text rest next : List ℕ) (done : List Line) (line : Line) → BeginsSchedule done → IsReadTo text done rest → BeginsWith rest (spelling line) next
    → IsReadTo text (done ++ line ∷ []) next
read_on text rest next done line begins (inl e) b =
    elim b.parts [
      | inl h ↦ inl (e ∙ ap (λ (w : List ℕ). text_of (map spelling done) ++ w) h
          ∙ sym (append_assoc (text_of (map spelling done)) (ended (spelling line)) next)
          ∙ ap (λ (w : List ℕ). w ++ next) (sym (text_push (map spelling done) (spelling line)) ∙ ap text_of (sym (map_push done line))))
      | inr h ↦ inr (
        h.2,
        lines_read text rest done begins (inl e) ∙ ap (λ (ls : List (List ℕ)). map spelling done ++ ls) (lines_of-begins rest (spelling line) next b ∙ ap (λ (r : List ℕ). spelling line ∷ lines_of r) h.2)
            ∙ sym (map_push done line),
      )
    ]
read_on text rest next done line begins (inr h) b = absurd (none_begins (spelling line) next (rw h.0 at b))

-- ---- one line more

-- a line behind the first isn't the first
not_first : (done : List Line) (number : ℕ) → 0 < length done → number ≡ length done → ((number + 1) == 1) ≡ (length (reverse done) == 0)
not_first done number some count = ne_eqb (number + 1) 1 (λ e. omega (arith, some, count, e)) ∙ sym (ne_eqb (length (reverse done)) 0 (λ e. omega (arith, some, e, length-reverse done)))

pub behind : (number : ℕ) → 0 < number → ((number + 1) == 1) ≡ false
behind number some = ne_eqb (number + 1) 1 (λ e. omega (arith, some, e))

-- ---- where a replay stops

module _ (MayStop : Type 0) where
  -- the lines before are these
  pub read_lines : (seen : Seen) (greatest : ℕ) (text rest : List ℕ) (number : ℕ) (so_far : IsRead MayStop seen greatest text rest number) → lines_of text ≡ map spelling (reverse so_far.done) ++ lines_of rest
  read_lines seen greatest text rest number so_far = lines_read text rest (reverse so_far.done) (begins_newest MayStop so_far.done so_far.reached.are_done) so_far.read

  pub one_more : (seen : Seen) (greatest : ℕ) (text rest next : List ℕ) (number : ℕ) (line : Line) (so_far : IsRead MayStop seen greatest text rest number) → BeginsWith rest (spelling line) next → IsReadTo text (reverse (line ∷ so_far.done)) next
  one_more seen greatest text rest next number line so_far begins =
      rw (reverse-append (line ∷ []) so_far.done) (read_on text rest next (reverse so_far.done) line (begins_newest MayStop so_far.done so_far.reached.are_done) so_far.read begins)

  abbrev pub all_read : (seen : Seen) (greatest : ℕ) (text : List ℕ) (number : ℕ) → IsRead MayStop seen greatest text [] number → IsPlayable MayStop text
  all_read seen greatest text number so_far = record {
    schedule = reverse so_far.done;
    read = record {
      spelled = read_lines seen greatest text [] number so_far ∙ append-nil (map spelling (reverse so_far.done));
      begins = begins_newest MayStop so_far.done so_far.reached.are_done;
      headed = (let some = so_far.reached.headed in omega (arith, some, length-reverse so_far.done));
      few = (let few = few_newest MayStop so_far.done so_far.reached.are_done in omega (arith, few, length-reverse so_far.done));
    };
    are_done = are_done MayStop so_far.done so_far.reached.are_done;
  }

  abbrev pub cut_at : (seen : Seen) (greatest : ℕ) (text rest piece left : List ℕ) (number : ℕ) → IsRead MayStop seen greatest text rest number → rest ≡ piece ++ left → LacksFeed piece → length piece ≤ 18600 → IsCut MayStop text left
  cut_at seen greatest text rest piece left number so_far e lacks short = record {
    done = reverse so_far.done;
    piece = piece;
    read = rw e at so_far.read;
    lacks = lacks;
    short = short;
    are_done = are_done MayStop so_far.done so_far.reached.are_done;
  }

  abbrev pub refused_at : (seen : Seen) (greatest : ℕ) (text rest : List ℕ) (number : ℕ) (so_far : IsRead MayStop seen greatest text rest number) (reason : Reason) (others : List (List ℕ)) → lines_of rest ≡ others
      → IsRefusedAt MayStop (reverse so_far.done) others reason → IsReplayRefusal MayStop text (number + 1) reason
  refused_at seen greatest text rest number so_far reason others e refused = record {
    done = reverse so_far.done;
    others = others;
    read = read_lines seen greatest text rest number so_far ∙ ap (λ (ls : List (List ℕ)). map spelling (reverse so_far.done) ++ ls) e;
    are_done = are_done MayStop so_far.done so_far.reached.are_done;
    number-is = ap (λ (n : ℕ). n + 1) (so_far.count ∙ sym (length-reverse so_far.done));
    refused = refused;
  }

  pub outside : (done : List Line) (number : ℕ) (first : List ℕ) (others : List (List ℕ)) → 0 < length done → number ≡ length done
      → (4294967295 < number + 1) ⊎ ((value : Line) → HasPlace ((number + 1) == 1) value → first ≢ spelling value) → IsRefusedAt MayStop (reverse done) (first ∷ others) Grammar
  outside done number first others some count (inl many) = inl (omega (arith, count, many, length-reverse done))
  outside done number first others some count (inr none) = inr (λ value place. none value (rw (not_first done number some count) place))

  abbrev pub refused_outside : (seen : Seen) (greatest : ℕ) (text rest : List ℕ) (number : ℕ) → IsRead MayStop seen greatest text rest number → IsRefusedHere rest (number + 1) → IsReplayRefusal MayStop text (number + 1) Grammar
  refused_outside seen greatest text rest number so_far here =
      refused_at seen greatest text rest number so_far Grammar (here.0 ∷ here.1) here.2 (outside so_far.done number here.0 here.1 so_far.reached.headed so_far.count here.3)

  -- a line in the grammar is turned away
  pub turned_away : (done : List Line) (line : Line) (reason : Reason) → 0 < length done → length done < 4294967295 → HasPlace false line → IsRefusedLine MayStop reason (after_lines done) line
      → IsTurnedAway MayStop (reverse done) (spelling line) reason
  turned_away done line reason some few place why = record {
    few = omega (arith, few, length-reverse done);
    value = line;
    in_place = rw (ne_eqb (length (reverse done)) 0 (λ e. omega (arith, some, e, length-reverse done))) place;
    spelled = refl;
    why = rw (reverse-reverse done) why;
  }

  pub line_refused_at : (done : List Line) (line : Line) (others : List (List ℕ)) (reason : Reason) → 0 < length done → length done < 4294967295 → HasPlace false line → IsRefusedLine MayStop reason (after_lines done) line
      → IsRefusedAt MayStop (reverse done) (spelling line ∷ others) reason
  line_refused_at done line others Grammar some few place why = absurd why
  line_refused_at done line others NoMachine some few place why = turned_away done line NoMachine some few place why
  line_refused_at done line others (ClockBack by) some few place why = turned_away done line (ClockBack by) some few place why
  line_refused_at done line others (NoPacket packet) some few place why = turned_away done line (NoPacket packet) some few place why
  line_refused_at done line others Up some few place why = turned_away done line Up some few place why
  line_refused_at done line others Down some few place why = turned_away done line Down some few place why
  line_refused_at done line others NothingToSync some few place why = turned_away done line NothingToSync some few place why
  line_refused_at done line others StillNeeded some few place why = turned_away done line StillNeeded some few place why

  abbrev pub refused_line : (seen : Seen) (greatest : ℕ) (text rest next : List ℕ) (number : ℕ) (line : Line) (so_far : IsRead MayStop seen greatest text rest number) → number < 4294967295 → BeginsWith rest (spelling line) next
      → HasPlace false line → (reason : Reason) → IsRefusedLine MayStop reason (after_lines so_far.done) line → IsReplayRefusal MayStop text (number + 1) reason
  refused_line seen greatest text rest next number line so_far few begins place reason why =
      refused_at seen greatest text rest number so_far reason (spelling line ∷ lines_of next) (lines_of-begins rest (spelling line) next begins)
      (line_refused_at so_far.done line (lines_of next) reason so_far.reached.headed (let count = so_far.count in omega (arith, few, count)) place why)

  -- ---- the first line

  abbrev pub begins_refused : (text : List ℕ) (others : List (List ℕ)) → lines_of text ≡ others → IsRefusedAt MayStop [] others Grammar → IsReplayRefusal MayStop text 1 Grammar
  begins_refused text others e refused = record { done = []; others = others; read = e; are_done = tt; number-is = refl; refused = refused }

  abbrev pub refused_empty : (text : List ℕ) → text ≡ [] → IsReplayRefusal MayStop text 1 Grammar
  refused_empty text e = begins_refused text [] (ap lines_of e) (refl, refl)

  pub first_outside : (first : List ℕ) (others : List (List ℕ)) → (4294967295 < 1) ⊎ ((value : Line) → HasPlace (1 == 1) value → first ≢ spelling value) → IsRefusedAt MayStop [] (first ∷ others) Grammar
  first_outside first others (inl many) = absurd (omega (arith, many))
  first_outside first others (inr none) = inr none

  abbrev pub refused_first : (text : List ℕ) → IsRefusedHere text 1 → IsReplayRefusal MayStop text 1 Grammar
  refused_first text here = begins_refused text (here.0 ∷ here.1) here.2 (first_outside here.0 here.1 here.3)

  abbrev pub cut_first : (text piece left : List ℕ) → text ≡ piece ++ left → LacksFeed piece → length piece ≤ 18600 → IsCut MayStop text left
  cut_first text piece left e lacks short = record { done = []; piece = piece; read = inl e; lacks = lacks; short = short; are_done = tt }
