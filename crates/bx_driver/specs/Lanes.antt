-- Lanes: the ways of packets of one kind from one machine to another.
use Rattle.std.specs.Prelude.{◌==◌, ℕ, ◌&&◌, Bool}
use Rattle.std.specs.Ordering.{nat_cmp, ordering_then}
use Rattle.std.specs.declared.cmp.Ordering.{Ordering}
use Rattle.bx_base.specs.Actors.{actor_cmp}
use Rattle.bx_base.specs.declared.names.Actor.{Actor}
use Rattle.bx_post.specs.Machines.{is_same}
use Rattle.bx_post.specs.declared.packets.Letter.{Letter}
use Rattle.bx_world_events.specs.Causes.{IsThere}
use Rattle.bx_world_events.specs.Refusals.{Seen}
use Rattle.bx_driver.specs.declared.lane.Lane.{Lane}

-- the order of lanes: by the sender, the receiver and the kind
abbrev pub lane_cmp : Lane → Lane → Ordering
lane_cmp lane other = ordering_then (actor_cmp lane.from other.from) (ordering_then (actor_cmp lane.to other.to) (nat_cmp lane.kind other.kind))

-- the lane on which a letter goes
abbrev pub lane_of : Letter → Lane
lane_of letter = record { from = letter.from; to = letter.to; kind = letter.kind }

-- packets go on a lane
abbrev pub is_on : Lane → Actor → Actor → ℕ → Bool
is_on lane from to kind = is_same lane.from from && (is_same lane.to to && lane.kind == kind)

-- both of its machines are there
abbrev pub HasMachines : Seen → Lane → Type 0
HasMachines seen lane = IsThere seen lane.from × IsThere seen lane.to
