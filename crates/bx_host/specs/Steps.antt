-- Events that are done one after the other, each with what it comes to.
use Rattle.std.specs.Prelude.{◌≡◌, ℕ, ◌+◌, ◌==◌, ◌&&◌, Bool, length, is_none, List, [], ◌∷◌, ◌++◌, map, Option, Some, None, IfSome}
use Rattle.bx_base.specs.declared.names.Actor.{Actor}
use Rattle.bx_cluster.specs.Steps.{Shown, arrives_in, part_at}
use Rattle.bx_cluster.specs.declared.outcome.Outcome.{Outcome}
use Rattle.bx_cluster.specs.declared.outcome.ReplyOut.{ReplyOut}
pub use Rattle.bx_driver.specs.Steps.{EventStep, parts_with}
use Rattle.bx_history.specs.Parts.{Arrival, Part}
use Rattle.bx_outside.specs.declared.datagram.Datagram.{Datagram}
use Rattle.bx_world_events.specs.Events.{reading_of}
use Rattle.bx_world_events.specs.Refusals.{Seen, refusal}
use Rattle.bx_world_events.specs.declared.event.Event.{Event}

-- what a cluster shows, and how many events its turn may still do
pub record Place : Type 0 where
  pub seen : Seen
  pub left : ℕ

-- The event was allowed, the cluster shows what it came to, and one less is left.
pub record IsStep (from : Place) (step : EventStep) (to : Place) : Type 0 where
  pub allowed : refusal from.seen step.event ≡ None
  pub shown : Shown step.event step.outcome.stopped from.seen to.seen
  pub left : from.left ≡ to.left + 1

-- Steps, the newest first, lead from one place to another, and of each event a fact stands where it is done.
abbrev pub Along : (Seen → Event → Type 0) → Place → List EventStep → Place → Type 0
Along Does from [] to = to ≡ from
Along Does from (step ∷ earlier) to = (middle : Place) × Along Does from earlier middle × Does middle.seen step.event × IsStep middle step to

-- an event has this reading of the clock, or none
abbrev pub IsAt : ℕ → Seen → Event → Type 0
IsAt reading seen event = IfSome (reading_of event) (λ its. its ≡ reading)

-- ---- what they come to

abbrev pub arrived_in : Option Arrival → List Arrival
arrived_in None = []
arrived_in (Some arrival) = arrival ∷ []

-- the datagram that arrives in an event, or none
abbrev pub brought_in : Event → List Arrival
brought_in event = arrived_in (arrives_in event)

-- the datagrams that arrived, the oldest first
abbrev pub brought_by : List EventStep → List Arrival
brought_by [] = []
brought_by (step ∷ earlier) = brought_by earlier ++ brought_in step.event

abbrev pub datagram_of : ReplyOut → Datagram
datagram_of reply = record { client = reply.client; bytes = reply.bytes }

abbrev pub again_of : Option ReplyOut → List Datagram
again_of None = []
again_of (Some reply) = datagram_of reply ∷ []

abbrev pub replies_of : List ReplyOut → List Datagram
replies_of replies = map datagram_of replies

-- what an event has sent to clients: its replies, and the kept answer that is sent again
abbrev pub datagrams : Outcome → List Datagram
datagrams outcome = replies_of outcome.replies ++ again_of outcome.again

-- an event answers nothing
abbrev pub is_silent : Outcome → Bool
is_silent outcome = (length outcome.replies == 0) && is_none outcome.again

-- the same of all that was done, the oldest first
abbrev pub sent_by : List EventStep → List Datagram
sent_by [] = []
sent_by (step ∷ earlier) = sent_by earlier ++ datagrams step.outcome

-- what outcomes have sent, the oldest first
abbrev pub owed : List Outcome → List Datagram
owed [] = []
owed (outcome ∷ later) = datagrams outcome ++ owed later

abbrev pub stopped_in : Option Actor → List Actor
stopped_in None = []
stopped_in (Some who) = who ∷ []

-- the machines that faults stopped, the oldest first
abbrev pub stopped_by : List EventStep → List Actor
stopped_by [] = []
stopped_by (step ∷ earlier) = stopped_by earlier ++ stopped_in step.outcome.stopped
