-- A trace that is placed: which lines of the trace may come at which part of a run.
use Rattle.std.specs.Prelude.{◌≡◌, ℕ, ◌≤◌, ◌==◌, ◌&&◌, ◌||◌, not, nat_lt, Bool, true, false, List, [], ◌∷◌, length, Option, Some, None, is_some, is_none, ◌⊎◌}
use Rattle.std.specs.List.{list_any, find, AllByRecursion}
use Rattle.std.specs.Str.{bytes_eq}
use Rattle.bx_script.specs.declared.trace_line.TraceLine.{TraceLine}
use Rattle.bx_script.specs.declared.trace_line.TraceLine.TheVariants.{Took, Acted, Reply, Again}
use Rattle.bx_history.specs.Trace.{Taking, Answer, takings, taking_of, has_point, has_reply}
use Rattle.bx_history.specs.Parts.{Arrival, Happening, Part, happenings, has_ended, waiting, kept_at}

-- What a stage sets: which bytes are a call; which calls are answered at once, by the clock's reading and their bytes, at a node that
-- never ended; whether, by all that has happened (the newest first), nothing waits behind a run and no block is wanting; whether a node
-- takes a call only where few wait and it is no repeat, or each; and how many answers a node keeps for repeats.
pub record Rules : Type 1 where
  pub is_call : List ℕ → Bool
  pub IsImmediate : ℕ → List ℕ → Type 0
  pub is_prompt : List Happening → Bool
  pub is_wary : Bool
  pub kept : ℕ

-- ---- what is taken, and what is sent again

-- whether a datagram repeats a call that waits
abbrev pub waits_already : List Part → Arrival → Bool
waits_already parts arrival = list_any (λ taking. (taking.client == arrival.client) && bytes_eq taking.bytes arrival.bytes) (waiting parts arrival.node)

-- the kept answer that a datagram repeats
abbrev pub kept_answer : ℕ → List Part → Arrival → Option Answer
kept_answer kept parts arrival = find (λ answer. (answer.client == arrival.client) && bytes_eq answer.bytes arrival.bytes) (kept_at kept parts arrival.node)

-- whether fewer than 64 calls wait at the node, and the datagram repeats none that waits and no kept answer
abbrev pub is_new : Rules → List Part → Arrival → Bool
is_new rules parts arrival =
    nat_lt (length (waiting parts arrival.node)) 64 && not (waits_already parts arrival) && is_none (kept_answer rules.kept parts arrival)

-- A datagram is taken exactly where it is a call, and is new or the stage's nodes take each.
abbrev pub is_taken : Rules → List Part → Arrival → Bool
is_taken rules parts arrival = rules.is_call arrival.bytes && (not rules.is_wary || is_new rules parts arrival)

-- what arrives, where a test says that it is taken
abbrev pub taken_if : Bool → Arrival → List Arrival
taken_if true arrival = arrival ∷ []
taken_if false arrival = []

-- what is taken after these parts
abbrev pub taken_by : Rules → List Part → Option Arrival → List Arrival
taken_by rules parts None = []
taken_by rules parts (Some arrival) = taken_if (is_taken rules parts arrival) arrival

-- a reply that is sent again
pub record Repeat : Type 0 where
  pub node : ℕ
  pub client : ℕ
  pub reply : List ℕ

abbrev pub again_if : Bool → Arrival → Option Answer → List Repeat
again_if true arrival (Some answer) = record { node = arrival.node; client = arrival.client; reply = answer.reply } ∷ []
again_if true arrival None = []
again_if false arrival answer = []

-- what is sent again after these parts: the reply of the kept answer that a call repeats
abbrev pub again_by : Rules → List Part → Option Arrival → List Repeat
again_by rules parts None = []
again_by rules parts (Some arrival) =
    again_if (rules.is_call arrival.bytes && rules.is_wary && not (waits_already parts arrival)) arrival (kept_answer rules.kept parts arrival)

-- what the trace says was taken, and was sent again
abbrev pub taken_in : List TraceLine → List Arrival
taken_in [] = []
taken_in (Took call node client bytes ∷ older) = record { node = node; client = client; bytes = bytes } ∷ taken_in older
taken_in (Acted point ∷ older) = taken_in older
taken_in (Reply call reply ∷ older) = taken_in older
taken_in (Again node client reply ∷ older) = taken_in older

abbrev pub again_in : List TraceLine → List Repeat
again_in [] = []
again_in (Took call node client bytes ∷ older) = again_in older
again_in (Acted point ∷ older) = again_in older
again_in (Reply call reply ∷ older) = again_in older
again_in (Again node client reply ∷ older) = record { node = node; client = client; reply = reply } ∷ again_in older

-- ---- what is answered, and when

-- the call has its point and its reply among these lines
abbrev pub IsAnsweredIn : List TraceLine → Taking → Type 0
IsAnsweredIn lines taking = (has_point lines taking.call ≡ true) × (has_reply lines taking.call ≡ true)

-- a call is answered at once, by the reading where there is one
abbrev pub IsImmediateAt : Rules → Option ℕ → List ℕ → Type 0
IsImmediateAt rules None bytes = ⊥
IsImmediateAt rules (Some reading) bytes = rules.IsImmediate reading bytes

-- A call that was taken in a part is answered in it, if it is one that is answered at once and its node never ended before.
abbrev pub IsAnsweredAtOnce : Rules → List Part → Part → Taking → Type 0
IsAnsweredAtOnce rules older part taking =
    IsImmediateAt rules part.what.reading taking.bytes → has_ended older taking.node ≡ false → IsAnsweredIn part.lines taking

-- a point, where the line is one, had blocks enough
abbrev pub HasSpare : TraceLine → Type 0
HasSpare (Took call node client bytes) = Unit {0}
HasSpare (Acted point) = 8 ≤ point.spare
HasSpare (Reply call reply) = Unit {0}
HasSpare (Again node client reply) = Unit {0}

-- behind a run no call waits, and no block is wanting
pub record IsPrompt (older : List Part) (part : Part) : Type 0 where
  pub answered : part.what.runs ≡ true → (node : ℕ) → waiting (part ∷ older) node ≡ []
  pub spares : AllByRecursion HasSpare part.lines

-- The moment is a reading of a part, from the one that took the call to the newest one.
abbrev pub HasReadingSince : ℕ → ℕ → List Part → Type 0
HasReadingSince call moment [] = ⊥
HasReadingSince call moment (part ∷ older) =
    (part.what.reading ≡ Some moment) ⊎ ((is_some (taking_of part.lines call) ≡ false) × HasReadingSince call moment older)

abbrev pub HasMoment : List Part → TraceLine → Type 0
HasMoment parts (Took call node client bytes) = Unit {0}
HasMoment parts (Acted point) = HasReadingSince point.call point.moment parts
HasMoment parts (Reply call reply) = Unit {0}
HasMoment parts (Again node client reply) = Unit {0}

-- ---- the whole

-- what holds of the lines of the trace that come in one part
pub record IsPart (rules : Rules) (older : List Part) (part : Part) : Type 0 where
  pub takes : taken_in part.lines ≡ taken_by rules older part.what.arrives
  pub repeats : again_in part.lines ≡ again_by rules older part.what.arrives
  pub immediate : AllByRecursion (IsAnsweredAtOnce rules older part) (takings part.lines)
  pub prompt : rules.is_prompt (happenings (part ∷ older)) ≡ true → IsPrompt older part
  pub moments : AllByRecursion (HasMoment (part ∷ older)) part.lines

abbrev pub PlacedNewest : Rules → List Part → Type 0
PlacedNewest rules [] = Unit {0}
PlacedNewest rules (part ∷ older) = IsPart rules older part × PlacedNewest rules older

-- a line that may come behind the last part: a point, of a call that was in doubt
abbrev pub IsClosing : List Part → TraceLine → Type 0
IsClosing parts (Took call node client bytes) = ⊥
IsClosing parts (Acted point) = HasReadingSince point.call point.moment parts
IsClosing parts (Reply call reply) = ⊥
IsClosing parts (Again node client reply) = ⊥
