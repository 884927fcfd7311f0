-- What an event names, and which machines it needs.
use Rattle.std.specs.Prelude.{ℕ, Option, Some, None}
use Rattle.bx_base.specs.declared.names.Actor.{Actor}
use Rattle.bx_base.specs.declared.names.Actor.TheVariants.{Node}
use Rattle.bx_world_events.specs.declared.event.Event.{Event}
use Rattle.bx_world_events.specs.declared.event.Event.TheVariants.{Call, Tick, Deliver, Sync, Crash, Restart, Blank}

-- the machine that it names
abbrev pub machine_of : Event → Option Actor
machine_of (Call reading node client bytes) = Some (Node node)
machine_of (Tick reading at) = Some at
machine_of (Deliver reading number) = None
machine_of (Sync at) = Some at
machine_of (Crash at) = Some at
machine_of (Restart reading at) = Some at
machine_of (Blank at) = Some at

-- the clock's reading
abbrev pub reading_of : Event → Option ℕ
reading_of (Call reading node client bytes) = Some reading
reading_of (Tick reading at) = Some reading
reading_of (Deliver reading number) = Some reading
reading_of (Sync at) = None
reading_of (Crash at) = None
reading_of (Restart reading at) = Some reading
reading_of (Blank at) = None

-- the number of the packet that it names
abbrev pub number_of : Event → Option ℕ
number_of (Call reading node client bytes) = None
number_of (Tick reading at) = None
number_of (Deliver reading number) = Some number
number_of (Sync at) = None
number_of (Crash at) = None
number_of (Restart reading at) = None
number_of (Blank at) = None

-- the machine that has to be down
abbrev pub needs_down : Event → Option Actor
needs_down (Call reading node client bytes) = None
needs_down (Tick reading at) = None
needs_down (Deliver reading number) = None
needs_down (Sync at) = None
needs_down (Crash at) = None
needs_down (Restart reading at) = Some at
needs_down (Blank at) = Some at

-- the machine that has to be up, where packets go to these
abbrev pub needs_up : (ℕ → Option Actor) → Event → Option Actor
needs_up receiver (Call reading node client bytes) = Some (Node node)
needs_up receiver (Tick reading at) = Some at
needs_up receiver (Deliver reading number) = receiver number
needs_up receiver (Sync at) = Some at
needs_up receiver (Crash at) = Some at
needs_up receiver (Restart reading at) = None
needs_up receiver (Blank at) = None
