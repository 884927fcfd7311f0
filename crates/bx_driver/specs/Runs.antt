-- What a run does next.
use Rattle.std.specs.Prelude.{◌≡◌, ℕ, ◌≤◌, ◌&&◌, not, Bool, true, false, Option, Some, None}
use Rattle.std.specs.FinSet as set
use Rattle.bx_base.specs.declared.names.Actor.{Actor}
use Rattle.bx_facts.specs.Machines.{disk_of}
use Rattle.bx_post.specs.declared.packets.Letter.{Letter}
use Rattle.bx_world_events.specs.Refusals.{Seen}
use Rattle.bx_world_events.specs.declared.event.Event.{Event}
use Rattle.bx_world_events.specs.declared.event.Event.TheVariants.{Deliver, Sync}
use Rattle.bx_driver.specs.Lanes.{lane_cmp, lane_of}
use Rattle.bx_driver.specs.Machines.{IsUp}
use Rattle.bx_driver.specs.Pending.{IsLeast, IsPendingAt}

-- The packet with a number may arrive: it is pending, its receiver is up, and its lane isn't held.
abbrev pub MayArrive : Seen → set.FinSet lane_cmp → ℕ → Type 0
MayArrive seen held number = (letter : Letter) × IsPendingAt seen.post number letter × (seen.down letter.to ≡ false) × (set.contains held (lane_of letter) ≡ false)

abbrev pub NoneMayArrive : Seen → set.FinSet lane_cmp → Type 0
NoneMayArrive seen held = (number : ℕ) → MayArrive seen held number → ⊥

-- This disk of a machine may finish a sync: the machine is there and up, and a write waits.
abbrev pub MaySync : Seen → Actor → ℕ → Type 0
MaySync seen at disk = (disk_of at ≡ Some disk) × IsUp seen at × (seen.waits at ≡ true)

abbrev pub NoneMaySync : Seen → Type 0
NoneMaySync seen = (at : Actor) (disk : ℕ) → MaySync seen at disk → ⊥

-- A machine has the lowest disk that may finish a sync.
pub record IsLowest (seen : Seen) (at : Actor) : Type 0 where
  pub disk : ℕ
  pub syncs : MaySync seen at disk
  pub least : (other : Actor) (its : ℕ) → MaySync seen other its → disk ≤ its

-- What is due: the arrival of the least packet that may arrive; where there is none, a sync of the lowest disk that may finish one; where there is none either, nothing.
pub data IsDue (seen : Seen) (held : set.FinSet lane_cmp) (reading : ℕ) (next : Option Event) : Type 0 where
  Arrives : (number : ℕ) → next ≡ Some (Deliver reading number) → IsLeast (MayArrive seen held) number → IsDue seen held reading next
  Syncs : (at : Actor) → next ≡ Some (Sync at) → NoneMayArrive seen held → IsLowest seen at → IsDue seen held reading next
  Rests : next ≡ None → NoneMayArrive seen held → NoneMaySync seen → IsDue seen held reading next

-- a packet to a machine that is up, on a lane that isn't held
abbrev pub passes_now : Seen → set.FinSet lane_cmp → Actor → Actor → ℕ → Bool
passes_now seen held from to kind = not (seen.down to) && not (set.contains held (record { from = from; to = to; kind = kind }))
