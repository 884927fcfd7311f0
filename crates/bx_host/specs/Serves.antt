-- A whole run of a server: its turns, one after the other, what came in and what went out.
use Rattle.bx_disk.specs.Disks.{Disks}
use Rattle.std.specs.Prelude.{◌≡◌, ◌≢◌, ℕ, ◌≤◌, ◌⊎◌, ◌||◌, ◌&&◌, not, Bool, true, false, List, [], ◌∷◌, ◌++◌, codes, length, Option, if◌then◌else◌}
use Rattle.std.specs.Fmt.{decimal}
use Rattle.bx_base.specs.Text.{ended}
use Rattle.bx_disk.specs.declared.rack.Rack as racks
use Rattle.bx_history.specs.Parts.{Part}
use Rattle.bx_model.specs.declared.tree.Tree.{Tree}
use Rattle.bx_outside.specs.declared.datagram.Datagram.{Datagram}
use Rattle.bx_disk.specs.Disks.{Image, IsImage}
use Rattle.bx_outside.specs.declared.clock.Clock as clocks
use Rattle.bx_outside.specs.declared.link.Link as links
use Rattle.bx_outside.specs.declared.sink.Sink as sinks
use Rattle.bx_world_events.specs.Refusals.{Seen}
use Rattle.bx_host.specs.Lost.{is_lost}
use Rattle.bx_host.specs.Sending.{SendsFront, counted}
use Rattle.bx_host.specs.Steps.{Along, IsAt, Place, EventStep, brought_by, parts_with, sent_by, stopped_by}
use Rattle.bx_host.specs.Turns.{IsHostTurn, Turn, came, is_live, steps_in}
use Rattle.bx_host.specs.declared.error.HostError.{HostError}
use Rattle.bx_host.specs.declared.error.HostError.TheVariants.{Disk, Link, Write, NoLabel, OutOfMemory, NoMajority, Spent}
use Rattle.bx_host.specs.declared.host.Host.{Host}

-- ---- what is written

-- the line that tells that the session is live, where it is for the first time
abbrev pub ready_text : Bool → Bool → List ℕ
ready_text before now = if now && not before then ended (codes "ready") else []

-- the line behind the last turn
abbrev pub done_text : ℕ → List ℕ
done_text count = ended (codes "done " ++ decimal count)

-- ---- turns, the newest first

-- They lead from what was shown, and the greatest reading then, to what is shown, and the greatest reading now.
abbrev pub AreTurns : ℕ → Seen → ℕ → List Turn → Seen → ℕ → Type 0
AreTurns first from least [] to greatest = (to ≡ from) × (greatest ≡ least)
AreTurns first from least (turn ∷ earlier) to greatest = (middle : Seen) × (before : ℕ) × AreTurns first from least earlier middle before × IsHostTurn first middle before turn to greatest

abbrev pub all_steps : List Turn → List EventStep
all_steps [] = []
all_steps (turn ∷ earlier) = steps_in turn ++ all_steps earlier

-- what the link gave, and the readings of the clock, the oldest first
abbrev pub all_asked : List Turn → List (Option Datagram)
all_asked [] = []
all_asked (turn ∷ earlier) = all_asked earlier ++ turn.asked

abbrev pub all_readings : List Turn → List ℕ
all_readings [] = []
all_readings (turn ∷ earlier) = all_readings earlier ++ turn.now ∷ []

-- the session was live behind the ticks of some turn
abbrev pub is_ready : ℕ → List Turn → Bool
is_ready first [] = false
is_ready first (turn ∷ earlier) = is_ready first earlier || is_live first turn.shown.most

-- why a turn may break off, of all that there is
abbrev pub IsOwn : HostError → Type 0
IsOwn Disk = Unit {0}
IsOwn Link = Unit {0}
IsOwn Write = Unit {0}
IsOwn OutOfMemory = Unit {0}
IsOwn (NoLabel disk) = ⊥
IsOwn NoMajority = ⊥
IsOwn (Spent boot) = ⊥

-- ---- one turn of a server

module _ {C R L S : Type 0} (seen_of : C → Seen) (room_of : C → List ℕ → Type 0) (led_of : C → Disks → Tree → List Part → Type 0) (ra : racks.Ghosts R) (li : links.Ghosts L) (si : sinks.Ghosts S) where
  -- A turn was done as a whole.
  pub record DoesTurn (now : ℕ) (old : Host C) (before : R) (new : Host C) (after : R) (link later : L) (out wrote : S) : Type 0 where
    pub turn : Turn
    pub now_is : turn.now ≡ now
    pub is : IsHostTurn old.first (seen_of old.cluster) old.reading turn (seen_of new.cluster) new.reading
    pub leads : (tree : Tree) (parts : List Part) → ra.tells before → led_of old.cluster (ra.state before) tree parts → led_of new.cluster (ra.state after) tree (parts_with (steps_in turn) parts)
    pub stops : new.stopped ≡ old.stopped ++ stopped_by (steps_in turn)
    pub brought : brought_by (steps_in turn) ≡ came turn.asked
    pub given : li.tells link → li.given later ≡ li.given link ++ turn.asked
    pub sent : li.tells link → li.sent later ≡ li.sent link ++ sent_by (steps_in turn)
    pub count : new.sent ≡ counted old.sent (sent_by (steps_in turn))
    pub ready : new.ready ≡ (old.ready || is_live old.first turn.shown.most)
    pub written : si.tells out → si.written wrote ≡ si.written out ++ ready_text old.ready new.ready
    pub first : new.first ≡ old.first

  -- A turn was broken off: so much of it was done, and of what that answers the front was sent.
  pub record BreaksTurn (error : HostError) (old : Host C) (before : R) (new : Host C) (after : R) (link later : L) : Type 0 where
    pub own : IsOwn error
    pub steps : List EventStep
    pub to : Place
    pub asked : List (Option Datagram)
    pub brought : (brought_by steps ≡ came asked) ⊎ (brought_by steps ≡ [])
    pub along : Along (IsAt new.reading) (record { seen = seen_of old.cluster; left = 1000000 }) steps to
    pub leads : error ≢ OutOfMemory → (tree : Tree) (parts : List Part) → ra.tells before → led_of old.cluster (ra.state before) tree parts → led_of new.cluster (ra.state after) tree (parts_with steps parts)
    pub lost : error ≡ Disk → is_lost (old.stopped ++ stopped_by steps) ≡ true
    pub given : li.tells link → li.given later ≡ li.given link ++ asked
    pub sent : li.tells link → SendsFront (sent_by steps) (li.sent link) (li.sent later)

-- a sink goes on to tell, and forgets no fault
pub record KeepsSink {S : Type 0} (si : sinks.Ghosts S) (old new : S) : Type 0 where
  pub later : si.faults old ≤ si.faults new
  pub tells : si.tells old → si.tells new

-- ---- the whole

-- what the clock of turns gave, behind what it gave before
module _ {C R L K S : Type 0} (seen_of : C → Seen) (shown_of : C → List ℕ → Image → Tree → List Part → Type 0) (led_of : C → Disks → Tree → List Part → Type 0) (ra : racks.Ghosts R) (li : links.Ghosts L) (ck : clocks.Ghosts K) (si : sinks.Ghosts S) where
  -- All turns were done: each read the clock once; all that the run's parts answer was sent, in their order, and counted; and each image of the disks is one that the cluster
  -- may show at the end, with these parts behind the earlier ones.
  pub record Serves (turns count : ℕ) (cluster : C) (before after : R) (link later : L) (clock ticked : K) (out wrote : S) : Type 0 where
    pub done : List Turn
    pub last : C
    pub greatest : ℕ
    pub many : length done ≡ turns
    pub are : AreTurns (seen_of cluster).most.term (seen_of cluster) (seen_of cluster).greatest done (seen_of last) greatest
    pub leads : (tree : Tree) (parts : List Part) → ra.tells before → led_of cluster (ra.state before) tree parts → led_of last (ra.state after) tree (parts_with (all_steps done) parts)
    pub images : (tree : Tree) (parts : List Part) (image : Image) → ra.tells before → led_of cluster (ra.state before) tree parts → IsImage (ra.state after) image → shown_of last (ra.state after).sizes image tree (parts_with (all_steps done) parts)
    pub brought : brought_by (all_steps done) ≡ came (all_asked done)
    pub given : li.tells link → li.given later ≡ li.given link ++ all_asked done
    pub sent : li.tells link → li.sent later ≡ li.sent link ++ sent_by (all_steps done)
    pub count_is : count ≡ counted 0 (sent_by (all_steps done))
    pub readings : (earlier : List ℕ) → ck.gave clock earlier → ck.gave ticked (earlier ++ all_readings done)
    pub written : si.tells out → si.written wrote ≡ si.written out ++ (ready_text false (is_ready (seen_of cluster).most.term done) ++ done_text count)
    pub whole : is_lost (stopped_by (all_steps done)) ≡ false

  -- It ended before: some turns were done as a whole, and a part of one more. The front of what all of that answers was sent. Unless memory ran out, each image of the disks is
  -- one that the cluster may show then. Where a disk is the cause, both members of a device have stopped, or two replicas.
  pub record Breaks (error : HostError) (turns : ℕ) (cluster : C) (before after : R) (link later : L) : Type 0 where
    pub own : IsOwn error
    pub done : List Turn
    pub to : Seen
    pub greatest : ℕ
    pub few : length done ≤ turns
    pub are : AreTurns (seen_of cluster).most.term (seen_of cluster) (seen_of cluster).greatest done to greatest
    pub reading : ℕ
    pub steps : List EventStep
    pub place : Place
    pub along : Along (IsAt reading) (record { seen = to; left = 1000000 }) steps place
    pub last : C
    pub leads : error ≢ OutOfMemory → (tree : Tree) (parts : List Part) → ra.tells before → led_of cluster (ra.state before) tree parts → led_of last (ra.state after) tree (parts_with (steps ++ all_steps done) parts)
    pub images : error ≢ OutOfMemory → (tree : Tree) (parts : List Part) (image : Image) → ra.tells before → led_of cluster (ra.state before) tree parts → IsImage (ra.state after) image
        → shown_of last (ra.state after).sizes image tree (parts_with (steps ++ all_steps done) parts)
    pub lost : error ≡ Disk → is_lost (stopped_by (steps ++ all_steps done)) ≡ true
    pub asked : List (Option Datagram)
    pub brought : (brought_by (steps ++ all_steps done) ≡ came (all_asked done ++ asked)) ⊎ (brought_by (steps ++ all_steps done) ≡ came (all_asked done))
    pub given : li.tells link → li.given later ≡ li.given link ++ (all_asked done ++ asked)
    pub sent : li.tells link → SendsFront (sent_by (steps ++ all_steps done)) (li.sent link) (li.sent later)
