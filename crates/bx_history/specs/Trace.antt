-- A trace that fits a history. Inside, traces and histories have their newest line or entry first, so that "earlier" is the
-- tail; `Fits` turns both around for the reader.
use Rattle.std.specs.Prelude.{◌≡◌, ℕ, suc, ◌+◌, ◌==◌, ◌&&◌, ◌||◌, ◌⊎◌, Bool, true, false, if◌then◌else◌, List, [], ◌∷◌, take, reverse, filter, Option, Some, None}
use Rattle.std.specs.List.{list_any}
use Rattle.std.specs.Str.{bytes_eq}
use Rattle.bx_base.specs.declared.names.Point.{Point}
use Rattle.bx_script.specs.declared.trace_line.TraceLine.{TraceLine}
use Rattle.bx_script.specs.declared.trace_line.TraceLine.TheVariants.{Took, Acted, Reply, Again}

-- An entry of a history: a call's number, who asked and what, in bytes; when it acted, how many blocks were free, the
-- handle of the file that it made; and the reply, in bytes.
pub record Entry : Type 0 where
  pub call : ℕ
  pub client : ℕ
  pub bytes : List ℕ
  pub moment : ℕ
  pub spare : ℕ
  pub made : ℕ
  pub reply : List ℕ

-- a call as it was taken
pub record Taking : Type 0 where
  pub call : ℕ
  pub node : ℕ
  pub client : ℕ
  pub bytes : List ℕ

-- it is one of these
abbrev pub IsIn : {X : Type 0} → X → List X → Type 0
IsIn x [] = ⊥
IsIn x (y ∷ ys) = (y ≡ x) ⊎ IsIn x ys

-- an answer that a node sent
pub record Answer : Type 0 where
  pub node : ℕ
  pub client : ℕ
  pub bytes : List ℕ
  pub reply : List ℕ

-- the calls taken
abbrev pub takings : List TraceLine → List Taking
takings [] = []
takings (Took call node client bytes ∷ older) = record { call = call; node = node; client = client; bytes = bytes } ∷ takings older
takings (Acted point ∷ older) = takings older
takings (Reply call reply ∷ older) = takings older
takings (Again node client reply ∷ older) = takings older

-- how many calls were taken
abbrev pub taken_count : List TraceLine → ℕ
taken_count [] = 0
taken_count (Took call node client bytes ∷ older) = suc (taken_count older)
taken_count (Acted point ∷ older) = taken_count older
taken_count (Reply call reply ∷ older) = taken_count older
taken_count (Again node client reply ∷ older) = taken_count older

-- the taking of a call
abbrev pub taking_in : List Taking → ℕ → Option Taking
taking_in [] call = None
taking_in (taking ∷ older) call = if taking.call == call then Some taking else taking_in older call

abbrev pub taking_of : List TraceLine → ℕ → Option Taking
taking_of trace call = taking_in (takings trace) call

-- whether a call has its point
abbrev pub has_point : List TraceLine → ℕ → Bool
has_point [] call = false
has_point (Took number node client bytes ∷ older) call = has_point older call
has_point (Acted point ∷ older) call = (point.call == call) || has_point older call
has_point (Reply number reply ∷ older) call = has_point older call
has_point (Again node client reply ∷ older) call = has_point older call

-- whether a call has its reply
abbrev pub has_reply : List TraceLine → ℕ → Bool
has_reply [] call = false
has_reply (Took number node client bytes ∷ older) call = has_reply older call
has_reply (Acted point ∷ older) call = has_reply older call
has_reply (Reply number reply ∷ older) call = (number == call) || has_reply older call
has_reply (Again node client reply ∷ older) call = has_reply older call

-- the entry of a call
abbrev pub entry_of : List Entry → ℕ → Option Entry
entry_of [] call = None
entry_of (entry ∷ earlier) call = if entry.call == call then Some entry else entry_of earlier call

-- an answer in front, where its call is known
abbrev pub with_answer : Option Taking → List ℕ → List Answer → List Answer
with_answer None reply answers = answers
with_answer (Some taking) reply answers = record { node = taking.node; client = taking.client; bytes = taking.bytes; reply = reply } ∷ answers

-- the answers sent
abbrev pub answers : List TraceLine → List Answer
answers [] = []
answers (Took call node client bytes ∷ older) = answers older
answers (Acted point ∷ older) = answers older
answers (Reply call reply ∷ older) = with_answer (taking_of older call) reply (answers older)
answers (Again node client reply ∷ older) = answers older

-- the newest answers of a node, as many as it keeps
abbrev pub kept_answers : ℕ → List TraceLine → ℕ → List Answer
kept_answers count trace node = take count (filter (λ answer. answer.node == node) (answers trace))

-- The point is that of the entry: its call was taken, with the entry's client and bytes, and has no earlier point.
pub record IsPointOf (older : List TraceLine) (point : Point) (entry : Entry) : Type 0 where
  pub taking : Taking
  pub taken : taking_of older point.call ≡ Some taking
  pub client : entry.client ≡ taking.client
  pub bytes : entry.bytes ≡ taking.bytes
  pub first : has_point older point.call ≡ false
  pub call : entry.call ≡ point.call
  pub moment : entry.moment ≡ point.moment
  pub spare : entry.spare ≡ point.spare
  pub made : entry.made ≡ point.made

-- The reply is that of the call's entry, and the call has no earlier reply.
pub record IsReplyOf (older : List TraceLine) (history : List Entry) (call : ℕ) (reply : List ℕ) : Type 0 where
  pub entry : Entry
  pub entered : entry_of history call ≡ Some entry
  pub same : entry.reply ≡ reply
  pub first : has_reply older call ≡ false

-- The reply is one of the last that the node sent, of as many as it keeps, and went to this client.
abbrev pub IsSentBefore : ℕ → List TraceLine → ℕ → ℕ → List ℕ → Type 0
IsSentBefore kept older node client reply =
    list_any (λ answer. (answer.client == client) && bytes_eq answer.reply reply) (kept_answers kept older node) ≡ true

-- Calls are numbered from 1 as they are taken, the points are the entries, each reply is its entry's, and what is sent again is one of
-- as many answers as a node keeps.
abbrev pub FitsNewest : ℕ → List TraceLine → List Entry → Type 0
FitsNewest kept [] history = history ≡ []
FitsNewest kept (Took call node client bytes ∷ older) history = (call ≡ taken_count older + 1) × FitsNewest kept older history
FitsNewest kept (Acted point ∷ older) [] = ⊥
FitsNewest kept (Acted point ∷ older) (entry ∷ earlier) = IsPointOf older point entry × FitsNewest kept older earlier
FitsNewest kept (Reply call reply ∷ older) history = IsReplyOf older history call reply × FitsNewest kept older history
FitsNewest kept (Again node client reply ∷ older) history = IsSentBefore kept older node client reply × FitsNewest kept older history

-- the same, with the oldest line and entry first
abbrev pub Fits : ℕ → List TraceLine → List Entry → Type 0
Fits kept trace history = FitsNewest kept (reverse trace) (reverse history)
