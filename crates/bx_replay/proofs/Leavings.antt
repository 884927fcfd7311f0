-- What a replay leaves, by what stopped it.
use Rattle.std.proofs.Common.{◌≡◌, ℕ, ◌+◌, ◌<◌, Bool, false, List, [], ◌∷◌, ap, refl, subst, Option, Some, Result, Ok, Err, inl, inr}
use Rattle.std.specs.Prelude.{IfErr, OnOk, ◌⊎◌, map}
use Rattle.std.specs.FinSet as set
use Rattle.std.specs.Ordering.{nat_cmp}
use Rattle.bx_base.specs.Text.{BeginsWith}
use Rattle.bx_base.specs.declared.names.Point.{Point}
use Rattle.bx_disk.specs.Disks.{Disks}
use Rattle.bx_disk.specs.declared.noise.Noise.TheVariants.{Drop}
use Rattle.bx_history.specs.Parts.{Part}
use Rattle.bx_model.specs.declared.tree.Tree.{Tree}
use Rattle.bx_opens.specs.bx_world_events.specs.Refusals.{Seen}
use Rattle.bx_schedule.specs.Execution.{Snapshot}
use Rattle.bx_schedule.specs.Placing.{Done, lines_of}
use Rattle.bx_script.specs.ScheduleLine.{spelling}
use Rattle.bx_script.specs.declared.line.Line.{Line}
use Rattle.bx_script.specs.declared.trace_line.TraceLine.TheVariants.{Acted}
use Rattle.bx_stops.specs.declared.stop.Stop.{Stop}
use Rattle.bx_stops.specs.declared.stop.Stop.TheVariants as stops
use Rattle.bx_replay.specs.Bench.{all_crashed}
use Rattle.bx_replay.specs.Lines.{after_lines}
use Rattle.bx_replay.specs.Outcome.{AtEnd, IsBroken, IsReplayed, IsShownBy}
use Rattle.bx_replay.specs.Replay.{Begins, DoesLine, Ends, GivesLine, Going, HasBeginCause, HasFinishCause, HasLineCause, HasStepCause, IsRead, IsRefusedFor, IsRefusedThere, IsShownAs, IsUnread, Leaves, Reached, StandsAfter, WroteOn}
use Rattle.bx_replay.proofs.Goings.{ClosesSo, Heads, begins_broken, begins_cut, begins_empty, begins_outside, finishes, stops_broken, stops_cut, stops_outside, stops_refused, stops_torn, stops_unfinished}
use Rattle.bx_replay.proofs.ReadLines.{all_read, cut_at, cut_first, refused_empty, refused_first, refused_line, refused_outside}
use Rattle.bx_script.specs.Schedule.{HasPlace}

pub begin_stops : (MayStop : Type 0) {A : Type 0} (seen : A → Seen) (greatest : A → ℕ) (Tells : Type 0) (ReplayStands : AtEnd) (stop : Stop) (text rest left start : List ℕ) (before now bench_before bench_now : ℕ) → HasBeginCause stop before now bench_before bench_now
    → Begins seen greatest (Err stop) text rest left → Leaves MayStop Tells ReplayStands (Err stop) text left start start
begin_stops MayStop seen greatest Tells ReplayStands (stops.Refused line reason) text rest left start before now bench_before bench_now cause (inl e) = rw (cause.0, cause.1) (refused_empty MayStop text e, λ _. begins_empty MayStop text start e)
begin_stops MayStop seen greatest Tells ReplayStands (stops.Refused line reason) text rest left start before now bench_before bench_now cause (inr here) = rw (cause.0, cause.1) (refused_first MayStop text here, λ _. begins_outside MayStop text start here)
begin_stops MayStop seen greatest Tells ReplayStands stops.ReadFault text rest left start before now bench_before bench_now cause begins =
    (cut_first MayStop text begins.0 left begins.1 begins.2 begins.3, λ _. begins_cut MayStop text begins.0 left start begins.1 begins.2 begins.3)
begin_stops MayStop seen greatest Tells ReplayStands stops.WriteFault text rest left start before now bench_before bench_now cause begins = absurd cause
begin_stops MayStop seen greatest Tells ReplayStands stops.DiskFault text rest left start before now bench_before bench_now cause begins = λ _. begins_broken MayStop text start
begin_stops MayStop seen greatest Tells ReplayStands stops.OutOfMemory text rest left start before now bench_before bench_now cause begins = λ _. begins_broken MayStop text start

-- An end that comes behind the reading back of a tree, with its closing points; or a part of it.
pub record IsEnding (MayStop : Type 0) (now : Option Snapshot) (disks : Disks) (lacks : ℕ → Bool) (r : Result (Unit {0}) Stop) (old new : List ℕ) (done : List Done) : Type 0 where
  pub tree : Tree
  pub closes : (points : List Point) → IsShownAs disks lacks tree points → ClosesSo MayStop done now tree points
  pub ends : Ends r disks lacks tree old new

module _ (MayStop Tells : Type 0) (ReplayStands : AtEnd) (Led : Tree → List Part → Type 0) (heads : Tells → Heads MayStop Led) (lacking : set.FinSet nat_cmp) (now : Snapshot) where
  pub line_stops : (stop : Stop) (text rest next left start written : List ℕ) (number faults faults_now : ℕ)
      → IsRead MayStop now.seen now.clock text rest number → (Tells → Going MayStop Led lacking now text rest number start written) → HasLineCause stop (number + 1) faults faults_now → GivesLine (Err stop) (number + 1) rest next left
      → Leaves MayStop Tells ReplayStands (Err stop) text left start written
  line_stops (stops.Refused line reason) text rest next left start written number faults faults_now so_far going cause gives =
      rw (cause.0, cause.1) (refused_outside MayStop now.seen now.clock text rest number so_far gives, λ tells. stops_outside MayStop Led lacking now text rest number start written (going tells) (heads tells) gives)
  line_stops stops.ReadFault text rest next left start written number faults faults_now so_far going cause gives = (
    cut_at MayStop now.seen now.clock text rest gives.0 left number so_far gives.1 gives.2 gives.3,
    λ tells. stops_cut MayStop Led lacking now text rest number start written (going tells) (heads tells) gives.0 left gives.1 gives.2 gives.3,
  )
  line_stops stops.WriteFault text rest next left start written number faults faults_now so_far going cause gives = absurd cause
  line_stops stops.DiskFault text rest next left start written number faults faults_now so_far going cause gives = absurd cause
  line_stops stops.OutOfMemory text rest next left start written number faults faults_now so_far going cause gives =
      λ tells. stops_broken MayStop Led lacking now text rest number start written (going tells) (heads tells)

  -- Where a line is refused, or its lines of the trace aren't all written.
  pub step_stops : (stop : Stop) (text rest next left start old new : List ℕ) (number faults faults_now : ℕ) (line : Line) (Led_now : Tree → List Part → Type 0) (heads_now : Tells → Heads MayStop Led_now) (lacking_now : set.FinSet nat_cmp) (later : Snapshot)
      → (so_far : IsRead MayStop now.seen now.clock text rest number) → (going : Tells → Going MayStop Led lacking now text rest number start old) → number < 4294967295 → BeginsWith rest (spelling line) next
      → HasPlace false line → HasStepCause stop (number + 1) faults faults_now → IsRefusedFor MayStop stop (number + 1) (after_lines so_far.done) line → ((tells : Tells) → IsRefusedFor MayStop stop (number + 1) (after_lines (lines_of (going tells).done)) line) → IsRefusedThere now line stop
      → ((tells : Tells) → DoesLine (Err stop) (λ written. Reached MayStop later.seen later.clock (line ∷ lines_of (going tells).done) × StandsAfter MayStop Led_now lacking_now now later line (going tells).done start written) old new)
      → Leaves MayStop Tells ReplayStands (Err stop) text left start new
  step_stops (stops.Refused n reason) text rest next left start old new number faults faults_now line Led_now heads_now lacking_now later so_far going few begins place cause refused refused_then there does =
      rw cause (
        refused_line MayStop now.seen now.clock text rest next number line so_far few begins place reason refused.1,
        λ tells. rw (does tells) (stops_refused MayStop Led lacking now text rest number start old (going tells) (heads tells) reason line next few begins place (refused_then tells).1 (subst (λ (k : ℕ). IsRefusedThere now line (stops.Refused k reason)) cause there)),
      )
  step_stops stops.ReadFault text rest next left start old new number faults faults_now line Led_now heads_now lacking_now later so_far going few begins place cause refused refused_then there does = absurd cause
  step_stops stops.WriteFault text rest next left start old new number faults faults_now line Led_now heads_now lacking_now later so_far going few begins place cause refused refused_then there does =
      λ tells. (let it = does tells in
      stops_torn MayStop Led lacking now text rest number start old (going tells) MayStop Led_now lacking_now later line next new begins it.3.0 (heads_now tells) it.0 it.1 it.2 it.3.1)
  step_stops stops.DiskFault text rest next left start old new number faults faults_now line Led_now heads_now lacking_now later so_far going few begins place cause refused refused_then there does = absurd cause
  step_stops stops.OutOfMemory text rest next left start old new number faults faults_now line Led_now heads_now lacking_now later so_far going few begins place cause refused refused_then there does =
      λ tells. rw (does tells) (stops_broken MayStop Led lacking now text rest number start old (going tells) (heads tells))

  -- ---- the end

  module _ (disks : Disks) (lacks : ℕ → Bool) (text start old : List ℕ) (number : ℕ) (so_far : IsRead MayStop now.seen now.clock text [] number) (going : Tells → Going MayStop Led lacking now text [] number start old) where
    -- the trace alone, or with a part of the end behind it
    broken : (tells : Tells) → WroteOn start old (IsBroken MayStop text)
    broken tells = stops_broken MayStop Led lacking now text [] number start old (going tells) (heads tells)

    torn : (tells : Tells) (new : List ℕ) → IsEnding MayStop (Some now) disks lacks (Err stops.WriteFault) old new (going tells).done → WroteOn start new (IsBroken MayStop text)
    torn tells new it = stops_unfinished MayStop Led lacking now text number start old (going tells) it.tree it.ends.0 (it.closes it.ends.0 it.ends.1) new it.ends.2.0 it.ends.2.1

    whole : (x : Unit {0}) (tells : Tells) (new : List ℕ) → IsEnding MayStop (Some now) disks lacks (Ok x) old new (going tells).done → ((tree : Tree) (points : List Point) → IsShownAs disks lacks tree points → ReplayStands (Some now) tree (map Acted points)) → WroteOn start new (IsReplayed MayStop text ReplayStands)
    whole x tells new it shown =
        finishes MayStop Led lacking now text number start old (going tells) it.tree it.ends.0 (it.closes it.ends.0 it.ends.1) ReplayStands new it.ends.2 (shown it.tree it.ends.0 it.ends.1)

    pub finish_leaves : (r : Result (Unit {0}) Stop) (left new : List ℕ) (faults faults_now : ℕ) (Held : Type 0) (bench_before bench_now : ℕ) → left ≡ [] → IfErr r (λ stop. HasFinishCause stop faults faults_now Held bench_before bench_now)
        → ((tells : Tells) → IsEnding MayStop (Some now) disks lacks r old new (going tells).done ⊎ (IsUnread r × (new ≡ old)))
        → (Tells → OnOk r ((tree : Tree) (points : List Point) → IsShownAs disks lacks tree points → ReplayStands (Some now) tree (map Acted points))) → Leaves MayStop Tells ReplayStands r text left start new
    finish_leaves (Ok x) left new faults faults_now Held bench_before bench_now all cause ended shown =
        (all_read MayStop now.seen now.clock text number so_far, all, λ tells. elim (ended tells) [ inl it ↦ whole x tells new it (shown tells) | inr none ↦ absurd none.0 ])
    finish_leaves (Err (stops.Refused n reason)) left new faults faults_now Held bench_before bench_now all cause ended shown = absurd cause
    finish_leaves (Err stops.ReadFault) left new faults faults_now Held bench_before bench_now all cause ended shown = absurd cause
    finish_leaves (Err stops.WriteFault) left new faults faults_now Held bench_before bench_now all cause ended shown =
        λ tells. elim (ended tells) [ inl it ↦ torn tells new it | inr none ↦ absurd none.0 ]
    finish_leaves (Err stops.DiskFault) left new faults faults_now Held bench_before bench_now all cause ended shown =
        λ tells. elim (ended tells) [ inl it ↦ rw (it.ends) (broken tells) | inr none ↦ rw (none.1) (broken tells) ]
    finish_leaves (Err stops.OutOfMemory) left new faults faults_now Held bench_before bench_now all cause ended shown =
        λ tells. elim (ended tells) [ inl it ↦ rw (it.ends) (broken tells) | inr none ↦ rw (none.1) (broken tells) ]

-- what is shown at the end stands so on the disks
pub shown_by : (disks : Disks) (now : Snapshot) (lacks : ℕ → Bool) → disks ≡ all_crashed now.disks Drop → (tree : Tree) (points : List Point) → IsShownAs disks lacks tree points → IsShownBy disks (Some now) tree (map Acted points)
shown_by disks now lacks dropped tree points is = record {
  left = now;
  leaves = refl;
  dropped = dropped;
  stands = is.stands;
  closing_open = record { points = is.opened; open_are = is.open_are; of = lacks; lines_are = ap (map Acted) is.points_are };
}
