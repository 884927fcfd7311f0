-- What a line that a cluster refuses is to a replay.
use Rattle.std.specs.Prelude.{ℕ}
use Rattle.bx_opens.specs.bx_world_events.specs.declared.event.EventError.{EventError}
use Rattle.bx_opens.specs.bx_world_events.specs.declared.event.EventError.TheVariants as events
use Rattle.bx_stops.specs.declared.stop.Reason.TheVariants.{NoMachine, ClockBack, NoPacket, Up, Down, NothingToSync, StillNeeded}
use Rattle.bx_stops.specs.declared.stop.Stop.{Stop}
use Rattle.bx_stops.specs.declared.stop.Stop.TheVariants.{Refused, OutOfMemory}

-- the line with this number is refused for the cause of its event; or memory ran out
abbrev pub stop_of : ℕ → EventError → Stop
stop_of number events.NoSuchMachine = Refused number NoMachine
stop_of number (events.ClockBack by) = Refused number (ClockBack by)
stop_of number (events.NoSuchPacket packet) = Refused number (NoPacket packet)
stop_of number events.Up = Refused number Up
stop_of number events.Down = Refused number Down
stop_of number events.NothingToSync = Refused number NothingToSync
stop_of number events.StillNeeded = Refused number StillNeeded
stop_of number events.OutOfMemory = OutOfMemory
