-- What one turn of a server does.
use Rattle.std.specs.Prelude.{◌≡◌, ℕ, zero, suc, ◌*◌, ◌<◌, ◌≤◌, ◌==◌, nat_lt, ◌&&◌, ◌⊎◌, not, Bool, true, false, List, [], ◌∷◌, ◌++◌, filter, max, min, Option, Some, None}
use Rattle.std.specs.FinSet as set
use Rattle.std.specs.List.{list_any}
use Rattle.bx_base.specs.declared.names.Actor.{Actor}
use Rattle.bx_base.specs.declared.names.Actor.TheVariants.{Node, Server, Member}
use Rattle.bx_cluster.specs.Steps.{arrives_in}
use Rattle.bx_driver.specs.Runs.{IsDue}
use Rattle.bx_history.specs.Parts.{Arrival}
use Rattle.bx_global.specs.declared.state.GlobalState.{GlobalState}
use Rattle.bx_outside.specs.declared.datagram.Datagram.{Datagram}
use Rattle.bx_post.specs.Posts.{Posted}
use Rattle.bx_world_events.specs.Events.{reading_of}
use Rattle.bx_world_events.specs.Refusals.{Seen}
use Rattle.bx_world_events.specs.declared.event.Event.{Event}
use Rattle.bx_world_events.specs.declared.event.Event.TheVariants.{Tick}
use Rattle.bx_host.specs.Steps.{Along, IsStep, Place, EventStep}

-- ---- the clock

-- a turn's reading: the greatest one so far, and at most the greatest of the wire
abbrev pub reading_for : ℕ → ℕ → ℕ
reading_for greatest now = min (max greatest now) 4294967295999

-- ---- one event, and all that is due behind it

abbrev pub IsDueNow : ℕ → Seen → Event → Type 0
IsDueNow reading seen event = IsDue seen set.empty reading (Some event)

-- nothing is due, or the turn has no event left
abbrev pub IsOver : ℕ → Place → Type 0
IsOver reading place = (place.left ≡ 0) ⊎ IsDue place.seen set.empty reading None

-- what is due was done until nothing is, or no event is left
abbrev pub IsRun : ℕ → Place → List EventStep → Place → Type 0
IsRun reading from steps to = Along (IsDueNow reading) from steps to × IsOver reading to

-- One event was done, and all that was due behind it.
pub record IsSettled (Is : Event → Type 0) (reading : ℕ) (from : Place) (steps : List EventStep) (to : Place) : Type 0 where
  pub first : EventStep
  pub rest : List EventStep
  pub middle : Place
  pub whole : steps ≡ rest ++ first ∷ []
  pub is : Is first.event
  pub begins : IsStep from first middle
  pub run : IsRun reading middle rest to

-- An event alone was done.
pub record IsOne (event : Event) (from : Place) (steps : List EventStep) (to : Place) : Type 0 where
  pub step : EventStep
  pub alone : steps ≡ step ∷ []
  pub is : step.event ≡ event
  pub goes : IsStep from step to

-- nothing was done
pub record IsIdle (from : Place) (steps : List EventStep) (to : Place) : Type 0 where
  pub none : steps ≡ []
  pub same : to ≡ from

-- ---- the ticks

-- A machine has its tick, unless it is down or the turn has no event left.
pub data IsTicked (reading : ℕ) (at : Actor) (from : Place) (steps : List EventStep) (to : Place) : Type 0 where
  Passed : (from.seen.down at ≡ true) ⊎ (from.left ≡ 0) → IsIdle from steps to → IsTicked reading at from steps to
  Ticked : from.seen.down at ≡ false → IsSettled (λ event. event ≡ Tick reading at) reading from steps to → IsTicked reading at from steps to

-- the first machines of a kind have theirs, in the order of their numbers
abbrev pub AreTicked : (ℕ → Actor) → ℕ → ℕ → Place → List EventStep → Place → Type 0
AreTicked name reading zero from steps to = IsIdle from steps to
AreTicked name reading (suc n) from steps to =
    (middle : Place) × (earlier : List EventStep) × (later : List EventStep) × (steps ≡ later ++ earlier) × AreTicked name reading n from earlier middle × IsTicked reading (name n) middle later to

-- those of all members, of which each device has two
abbrev pub AreMembersTicked : ℕ → Place → List EventStep → Place → Type 0
AreMembersTicked reading from steps to = AreTicked Member reading (2 * from.seen.devices) from steps to

-- the node has its own once the term is above that to begin with
pub data IsNodeTicked (first reading : ℕ) (from : Place) (steps : List EventStep) (to : Place) : Type 0 where
  Early : from.seen.most.term ≤ first → IsIdle from steps to → IsNodeTicked first reading from steps to
  Late : first < from.seen.most.term → IsTicked reading (Node 0) from steps to → IsNodeTicked first reading from steps to

-- Lock servers have their ticks, then members, and then the node.
pub record AllTicked (first reading : ℕ) (from : Place) (steps : List EventStep) (to : Place) : Type 0 where
  pub servers : List EventStep
  pub members : List EventStep
  pub node : List EventStep
  pub after_servers : Place
  pub after_members : Place
  pub whole : steps ≡ node ++ (members ++ servers)
  pub servers_are : AreTicked Server reading 2 from servers after_servers
  pub members_are : AreMembersTicked reading after_servers members after_members
  pub node_is : IsNodeTicked first reading after_members node to

-- ---- the datagram

-- the node has a session that isn't dead; and it has, in a term behind the first; a session is dead
abbrev pub has_live : GlobalState → Bool
has_live state = list_any (λ row. row.node == 0 && row.dead == 0) state.sessions

abbrev pub is_live : ℕ → GlobalState → Bool
is_live first state = nat_lt first state.term && has_live state

abbrev pub has_dead : GlobalState → Bool
has_dead state = list_any (λ row. not (row.dead == 0)) state.sessions

-- A datagram is received: the node is up with a live session, no session is dead, and the turn has an event left.
abbrev pub is_open : ℕ → Place → Bool
is_open first place = nat_lt 0 place.left && not (place.seen.down (Node 0)) && is_live first place.seen.most && not (has_dead place.seen.most)

-- a datagram arrives at the node
abbrev pub Brings : ℕ → Datagram → Event → Type 0
Brings reading datagram event = (reading_of event ≡ Some reading) × (arrives_in event ≡ Some (record { node = 0; client = datagram.client; bytes = datagram.bytes }))

-- What was received, where something was asked for, arrives at the node, and all that is due behind it is done.
pub data IsServed (first reading : ℕ) (from : Place) (asked : List (Option Datagram)) (steps : List EventStep) (to : Place) : Type 0 where
  Closed : is_open first from ≡ false → asked ≡ [] → IsIdle from steps to → IsServed first reading from asked steps to
  Silent : is_open first from ≡ true → asked ≡ None ∷ [] → IsIdle from steps to → IsServed first reading from asked steps to
  Heard : (datagram : Datagram) → is_open first from ≡ true → asked ≡ Some datagram ∷ [] → IsSettled (Brings reading datagram) reading from steps to → IsServed first reading from asked steps to

-- the datagrams among what the link gave, as they arrive at the node
abbrev pub came : List (Option Datagram) → List Arrival
came [] = []
came (None ∷ asked) = came asked
came (Some datagram ∷ asked) = record { node = 0; client = datagram.client; bytes = datagram.bytes } ∷ came asked

-- ---- the whole

-- a packet that is pending, and whose receiver is up
abbrev pub may_come : Seen → Posted → Bool
may_come seen one = one.waits && not (seen.down one.letter.to)

-- what is shown once all other packets are dropped
abbrev pub tidied : Seen → Seen
tidied seen = record seen { post = filter (may_come seen) seen.post }

-- what a turn came to: what the clock gave, what the ticks did, what was shown then, what the link gave, what that did
pub record Turn : Type 0 where
  pub now : ℕ
  pub ticked : List EventStep
  pub shown : Seen
  pub asked : List (Option Datagram)
  pub called : List EventStep

-- all that a turn did, the newest first
abbrev pub steps_in : Turn → List EventStep
steps_in turn = turn.called ++ turn.ticked

-- A turn over what was shown and the greatest reading before it, to those behind it.
pub record IsHostTurn (first : ℕ) (from : Seen) (greatest : ℕ) (turn : Turn) (to : Seen) (reading : ℕ) : Type 0 where
  pub reads : reading ≡ reading_for greatest turn.now
  pub ticked : Place
  pub served : Place
  pub ticks : AllTicked first reading (record { seen = from; left = 1000000 }) turn.ticked ticked
  pub shows : turn.shown ≡ ticked.seen
  pub serves : IsServed first reading ticked turn.asked turn.called served
  pub ends : to ≡ tidied served.seen
