-- A run in parts: what happens, and the lines of the trace that come then. What waits at a node, and what it keeps, goes by the
-- parts and not by the trace, since a node that ends forgets both and the trace has no line for that.
use Rattle.std.specs.Prelude.{ℕ, ◌==◌, ◌&&◌, not, Bool, if◌then◌else◌, List, [], ◌∷◌, ◌++◌, map, filter, Option}
use Rattle.std.specs.List.{list_any}
use Rattle.bx_script.specs.declared.trace_line.TraceLine.{TraceLine}
use Rattle.bx_history.specs.Trace.{Taking, Answer, takings, has_reply, kept_answers}

-- a datagram that arrives at a node from a client
pub record Arrival : Type 0 where
  pub node : ℕ
  pub client : ℕ
  pub bytes : List ℕ

-- What happens, at a line of a schedule or in one event: a datagram arrives, or none; the reading of the clock, where there is one;
-- which nodes end; whether events run until none is left.
pub record Happening : Type 0 where
  pub arrives : Option Arrival
  pub reading : Option ℕ
  pub ends : ℕ → Bool
  pub runs : Bool

-- what happens, with the lines of the trace that come then, the newest first
pub record Part : Type 0 where
  pub what : Happening
  pub lines : List TraceLine

-- the trace of parts; parts and lines have the newest first
abbrev pub trace_of : List Part → List TraceLine
trace_of [] = []
trace_of (part ∷ older) = part.lines ++ trace_of older

-- all that happened
abbrev pub happenings : List Part → List Happening
happenings parts = map (λ part. part.what) parts

-- whether a node ended
abbrev pub has_ended : List Part → ℕ → Bool
has_ended parts node = list_any (λ part. part.what.ends node) parts

-- the trace since a node last ended
abbrev pub trace_since : List Part → ℕ → List TraceLine
trace_since [] node = []
trace_since (part ∷ older) node = part.lines ++ (if part.what.ends node then [] else trace_since older node)

-- the calls taken at a node since it last ended that have no reply yet
abbrev pub unanswered : List TraceLine → ℕ → List Taking
unanswered trace node = filter (λ taking. (taking.node == node) && not (has_reply trace taking.call)) (takings trace)

abbrev pub waiting : List Part → ℕ → List Taking
waiting parts node = unanswered (trace_since parts node) node

-- the answers that a node keeps: the newest that it sent since it last ended, so many at most
abbrev pub kept_at : ℕ → List Part → ℕ → List Answer
kept_at kept parts node = kept_answers kept (trace_since parts node) node
