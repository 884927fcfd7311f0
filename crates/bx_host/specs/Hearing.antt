-- What a part of a turn does that hears from a link.
use Rattle.bx_model.specs.declared.tree.Tree.{Tree}
use Rattle.bx_history.specs.Parts.{Part}
use Rattle.bx_disk.specs.Disks.{Disks}
use Rattle.bx_world_events.specs.Refusals.{Seen}
use Rattle.std.specs.Prelude.{◌≡◌, ◌≤◌, ◌≢◌, ℕ, List, ◌++◌, Option, Result, IfErr}
use Rattle.bx_disk.specs.declared.rack.Rack as racks
use Rattle.bx_outside.specs.declared.datagram.Datagram.{Datagram}
use Rattle.bx_outside.specs.declared.link.Link as links
use Rattle.bx_host.specs.Standing.{Ends, KeepsRack, standing}
use Rattle.bx_host.specs.Turns.{IsServed, came}
use Rattle.bx_host.specs.declared.error.HostError.{HostError}
use Rattle.bx_host.specs.declared.error.HostError.TheVariants.{Write}
use Rattle.bx_host.specs.declared.host.Host.{Host}

-- a link goes on to tell, and forgets no fault
pub record KeepsLink {L : Type 0} (li : links.Ghosts L) (old new : L) : Type 0 where
  pub later : li.faults old ≤ li.faults new
  pub tells : li.tells old → li.tells new

module _ {C R L : Type 0} (seen_of : C → Seen) (room_of : C → List ℕ → Type 0) (led_of : C → Disks → Tree → List Part → Type 0) (ra : racks.Ghosts R) (li : links.Ghosts L) where
  -- What was asked of the link, what that came to, and that nothing was sent.
  pub record Hears {A : Type 0} (result : Result A HostError) (old : Host C) (before : R) (new : Host C) (after : R) (link later : L) : Type 0 where
    pub asked : List (Option Datagram)
    pub given : li.tells link → li.given later ≡ li.given link ++ asked
    pub quiet : li.tells link → li.sent later ≡ li.sent link
    pub ends : Ends result (λ from steps to. IsServed old.first old.reading from asked steps to) (came asked) old.reading (standing seen_of room_of led_of ra old before) (standing seen_of room_of led_of ra new after)
    pub keeps : KeepsRack ra before after
    pub keeps_link : KeepsLink li link later
    pub reading : new.reading ≡ old.reading
    pub first : new.first ≡ old.first
    pub ready : new.ready ≡ old.ready
    pub sent : new.sent ≡ old.sent
    pub others : IfErr result (λ error. error ≢ Write)
