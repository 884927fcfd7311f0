-- What is done to the disk of a machine behind its event.
use Rattle.std.specs.Prelude.{◌≡◌, ℕ, true, List, [], ◌∷◌, Option, Some, None}
use Rattle.bx_disk.specs.Crash.{crashed}
use Rattle.bx_disk.specs.Disks.{Disks, blanked}
use Rattle.bx_disk.specs.declared.noise.Noise.{Noise}
use Rattle.bx_driver.specs.Steps.{IsStep, EventStep}
use Rattle.bx_facts.specs.Machines.{disk_of}
use Rattle.bx_world_events.specs.Refusals.{Seen, refusal}
use Rattle.bx_world_events.specs.declared.event.Event.{Event}
use Rattle.bx_world_events.specs.declared.event.Event.TheVariants.{Call, Tick, Deliver, Sync, Crash, Restart, Blank}
use Rattle.bx_world_events.specs.declared.event.EventError.{EventError}

-- a machine's disk crashes, where it has one
abbrev pub crashed_of : Noise → Option ℕ → Disks → Disks
crashed_of noise None disks = disks
crashed_of noise (Some disk) disks = crashed disks disk noise

-- it is replaced by a blank one, where it has one that is needed no more
abbrev pub blanked_of : Option EventError → Option ℕ → Disks → Disks
blanked_of refused None disks = disks
blanked_of None (Some disk) disks = blanked disks disk
blanked_of (Some error) (Some disk) disks = disks

-- what disks hold once the disk of the machine that crashed did too, with this noise, or the disk that was to be replaced is
abbrev pub moved : Seen → Noise → Event → Disks → Disks
moved seen noise (Crash at) disks = crashed_of noise (disk_of at) disks
moved seen noise (Blank at) disks = blanked_of (refusal seen (Blank at)) (disk_of at) disks
moved seen noise (Call reading node client bytes) disks = disks
moved seen noise (Tick reading at) disks = disks
moved seen noise (Deliver reading number) disks = disks
moved seen noise (Sync at) disks = disks
moved seen noise (Restart reading at) disks = disks

-- Behind its crash a machine is down.
abbrev pub IsBehind : Seen → Event → Type 0
IsBehind seen (Crash at) = seen.down at ≡ true
IsBehind seen (Call reading node client bytes) = Unit {0}
IsBehind seen (Tick reading at) = Unit {0}
IsBehind seen (Deliver reading number) = Unit {0}
IsBehind seen (Sync at) = Unit {0}
IsBehind seen (Restart reading at) = Unit {0}
IsBehind seen (Blank at) = Unit {0}

-- What disks hold behind steps, the newest first: right behind each event, which leaves some disks, the disk of its machine crashes, or is replaced.
abbrev pub AreDisks : Noise → Seen → List EventStep → Disks → Disks → Type 0
AreDisks noise to [] old new = new ≡ old
AreDisks noise to (step ∷ earlier) old new =
    (from : Seen) × (held : Disks) × (left : Disks) × AreDisks noise from earlier old held × IsStep from step to × (left.sizes ≡ held.sizes) × (new ≡ moved to noise step.event left)
