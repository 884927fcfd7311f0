-- The machines of a cluster, in their order.
use Rattle.std.specs.Prelude.{◌≡◌, ℕ, ◌+◌, ◌*◌, ◌^◌, ◌<◌, true, false, List}
use Rattle.std.specs.List.{All, AllPairs, Contains}
use Rattle.bx_base.specs.Actors.{ComesBefore}
use Rattle.bx_base.specs.declared.names.Actor.{Actor}
use Rattle.bx_world_events.specs.Causes.{IsThere}
use Rattle.bx_world_events.specs.Refusals.{Seen}

-- a machine is there and up; it is there and down
abbrev pub IsUp : Seen → Actor → Type 0
IsUp seen who = IsThere seen who × (seen.down who ≡ false)

abbrev pub IsDown : Seen → Actor → Type 0
IsDown seen who = IsThere seen who × (seen.down who ≡ true)

-- These are the machines of which a fact stands, each once and no other, in the order of machines.
pub record AreInTurn (Stands : Actor → Type 0) (these : List Actor) : Type 0 where
  pub each : All Stands these
  pub every : (who : Actor) → Stands who → Contains these who
  pub rise : AllPairs ComesBefore these

-- its disks have numbers of 32 bits
abbrev pub HasDiskNumbers : Seen → Type 0
HasDiskNumbers seen = 3 + 2 * seen.devices < 2 ^ 32

-- how many machines there are
abbrev pub machines_of : Seen → ℕ
machines_of seen = seen.nodes + 2 * seen.devices + 5
