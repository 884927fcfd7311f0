-- Where a replay doesn't begin.
use Rattle.std.proofs.Common.{◌≡◌, ℕ, List, Err, inr, refl}
use Rattle.bx_base.specs.Faults.{Rose}
use Rattle.bx_disk.specs.declared.fault.RackError.{RackError}
use Rattle.bx_disk.specs.declared.fault.RackError.TheVariants as racks
use Rattle.bx_stops.specs.declared.stop.Stop.{Stop}
use Rattle.bx_stops.specs.declared.stop.Stop.TheVariants as stops
use Rattle.bx_stops.specs.FromLine.{stop_of_rack}
use Rattle.bx_opens.specs.bx_world_events.specs.Refusals.{Seen}
use Rattle.bx_replay.specs.Replay.{Begins, GivesLine, HasBeginCause, HasLineCause, UnlessDisk}

-- the heading isn't read
pub begins_unread : {A : Type 0} (seen : A → Seen) (greatest : A → ℕ) (stop : Stop) (text rest left : List ℕ) → GivesLine (Err stop) 1 text rest left → Begins seen greatest (Err stop) text rest left
begins_unread seen greatest (stops.Refused line reason) text rest left gives = inr gives
begins_unread seen greatest stops.ReadFault text rest left gives = gives
begins_unread seen greatest stops.WriteFault text rest left gives = absurd gives
begins_unread seen greatest stops.DiskFault text rest left gives = absurd gives
begins_unread seen greatest stops.OutOfMemory text rest left gives = tt

pub unread_cause : (stop : Stop) (source source_now bench bench_now : ℕ) → HasLineCause stop 1 source source_now → HasBeginCause stop source source_now bench bench_now
unread_cause (stops.Refused line reason) source source_now bench bench_now cause = cause
unread_cause stops.ReadFault source source_now bench bench_now cause = cause
unread_cause stops.WriteFault source source_now bench bench_now cause = absurd cause
unread_cause stops.DiskFault source source_now bench bench_now cause = absurd cause
unread_cause stops.OutOfMemory source source_now bench bench_now cause = tt

-- the bench isn't made a volume
pub begins_unmade : {A : Type 0} (seen : A → Seen) (greatest : A → ℕ) (error : RackError) (text rest left : List ℕ) → Begins seen greatest (Err (stop_of_rack error)) text rest left
begins_unmade seen greatest racks.Fault text rest left = tt
begins_unmade seen greatest racks.OutOfMemory text rest left = tt

pub unmade_cause : (error : RackError) (source source_now bench bench_now : ℕ) → (error ≡ racks.Fault → Rose bench bench_now) → HasBeginCause (stop_of_rack error) source source_now bench bench_now
unmade_cause racks.Fault source source_now bench bench_now rose = rose refl
unmade_cause racks.OutOfMemory source source_now bench bench_now rose = tt

pub unmade_counts : (error : RackError) (P : Type 0) → (error ≡ racks.OutOfMemory → P) → UnlessDisk {A = Unit {0}} (Err (stop_of_rack error)) P
unmade_counts racks.Fault P counts = tt
unmade_counts racks.OutOfMemory P counts = counts refl
