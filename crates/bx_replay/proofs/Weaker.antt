-- What stands where a machine may have stopped by itself stands where more may.
use Rattle.std.proofs.Common.{◌≡◌, ◌⊎◌, ◌≤◌, ℕ, List, [], ◌∷◌, true, Option, Some, None, inl, inr, arith}
use Rattle.std.specs.Prelude.{IfSome, IsSomeAnd}
use Rattle.std.specs.FinSet as set
use Rattle.std.specs.Ordering.{nat_cmp}
use Rattle.bx_base.specs.Faults.{Rose}
use Rattle.bx_base.specs.declared.names.Actor.{Actor}
use Rattle.bx_history.specs.Along.{AllowedNewest}
use Rattle.bx_history.specs.Parts.{Part}
use Rattle.bx_model.specs.declared.tree.Tree.{Tree}
use Rattle.bx_opens.specs.bx_world_events.specs.Refusals.{Seen}
use Rattle.bx_schedule.specs.Execution.{ComesBy, Snapshot}
use Rattle.bx_schedule.specs.Execution.ComesBy.{Executed, Opened}
use Rattle.bx_schedule.specs.Placing.{AreOfLines, Done, IsExecution}
use Rattle.bx_script.specs.declared.line.Line.{Line}
use Rattle.bx_stops.specs.declared.stop.Reason.{Reason}
use Rattle.bx_stops.specs.declared.stop.Reason.TheVariants.{Grammar, NoMachine, ClockBack, NoPacket, Up, Down, NothingToSync, StillNeeded}
use Rattle.bx_stops.specs.declared.stop.Stop.{Stop}
use Rattle.bx_stops.specs.declared.stop.Stop.TheVariants as stops
use Rattle.bx_replay.specs.Lines.{Allows, IsArrival, IsRefusedLine, Machines, after_lines, needs_down, needs_up}
use Rattle.bx_replay.specs.Replay.{IsRefusedFor, Reached, ReplayStands}

-- a count that rose has risen later
pub rose_on : (start now later : ℕ) → start ≤ now → now ≤ later → Rose start now → Rose start later
rose_on start now later first then_on (inl less) = inl (omega (arith, less, then_on))
rose_on start now later first then_on (inr most) = by (same_or later now)
  where
    same_or : (a b : ℕ) → (a ≡ b) ⊎ ((a ≡ b) → ⊥)
    same_or a b = grind arith

    by : (later ≡ now) ⊎ ((later ≡ now) → ⊥) → Rose start later
    by (inl same) = inr (omega (arith, same, most))
    by (inr other) = inl (omega (arith, first, then_on, other))

-- or rises since
pub rose_since : (start old now : ℕ) → start ≤ old → Rose old now → Rose start now
rose_since start old now first (inl less) = inl (omega (arith, first, less))
rose_since start old now first (inr most) = inr most

module _ (P Q : Type 0) (gives : P → Q) where
  more : (X : Type 0) → X ⊎ P → X ⊎ Q
  more X (inl x) = inl x
  more X (inr p) = inr (gives p)

  fits : (machines : Machines) (one : Option Actor) → IfSome one (λ who. (machines.down who ≡ true) ⊎ P) → IfSome one (λ who. (machines.down who ≡ true) ⊎ Q)
  fits machines None is = tt
  fits machines (Some who) is = more _ is

  pub allows_weaker : (before : List Line) (line : Line) → Allows P before line → Allows Q before line
  allows_weaker before line allows = record {
    few = allows.few;
    in_place = allows.in_place;
    there = allows.there;
    steady = allows.steady;
    fit = (allows.fit.0, fits (after_lines before) (needs_down line) allows.fit.1);
  }

  pub done_weaker : (done : List Line) → AllowedNewest (Allows P) done → AllowedNewest (Allows Q) done
  done_weaker [] are = tt
  done_weaker (line ∷ before) are = (allows_weaker before line are.0, done_weaker before are.1)

  ups : (machines : Machines) (one : Option Actor) → IsSomeAnd one (λ who. (machines.down who ≡ true) ⊎ P) → IsSomeAnd one (λ who. (machines.down who ≡ true) ⊎ Q)
  ups machines None is = is
  ups machines (Some who) is = more _ is

  arrives : (machines : Machines) (line : Line) → IsArrival line ⊎ IsSomeAnd (needs_up line) (λ who. (machines.down who ≡ true) ⊎ P) → IsArrival line ⊎ IsSomeAnd (needs_up line) (λ who. (machines.down who ≡ true) ⊎ Q)
  arrives machines line (inl is) = inl is
  arrives machines line (inr may) = inr (ups machines (needs_up line) may)

  pub refused_weaker : (reason : Reason) (machines : Machines) (line : Line) → IsRefusedLine P reason machines line → IsRefusedLine Q reason machines line
  refused_weaker Grammar machines line is = is
  refused_weaker NoMachine machines line is = is
  refused_weaker (ClockBack by) machines line is = is
  refused_weaker (NoPacket number) machines line is = is
  refused_weaker Up machines line is = is
  refused_weaker Down machines line is = (is.0, is.1, arrives machines line is.2)
  refused_weaker NothingToSync machines line is = (is.0, is.1, (is.2.0, fits machines (needs_down line) is.2.1), is.3)
  refused_weaker StillNeeded machines line is = (is.0, is.1, (is.2.0, fits machines (needs_down line) is.2.1), is.3)

  pub refused_for_weaker : (stop : Stop) (wanted : ℕ) (machines : Machines) (line : Line) → IsRefusedFor P stop wanted machines line → IsRefusedFor Q stop wanted machines line
  refused_for_weaker (stops.Refused number reason) wanted machines line is = (is.0, refused_weaker reason machines line is.1)
  refused_for_weaker stops.ReadFault wanted machines line is = is
  refused_for_weaker stops.WriteFault wanted machines line is = is
  refused_for_weaker stops.DiskFault wanted machines line is = is
  refused_for_weaker stops.OutOfMemory wanted machines line is = is

  pub reached_weaker : (seen : Seen) (greatest : ℕ) (done : List Line) → Reached P seen greatest done → Reached Q seen greatest done
  reached_weaker seen greatest done reached = record {
    headed = reached.headed;
    are_done = done_weaker done reached.are_done;
    shows = record {
      nodes = reached.shows.nodes;
      devices = reached.shows.devices;
      clock = reached.shows.clock;
      down = reached.shows.down;
      stopped = λ who there is. more _ (reached.shows.stopped who there is);
    };
  }

  pub of_lines_weaker : (done : List Done) → AreOfLines P done → AreOfLines Q done
  of_lines_weaker [] are = tt
  of_lines_weaker (one ∷ before) are = (
    record {
      each = are.0.each;
      count = are.0.count;
      ends = record {
        only = λ node ends. more _ (are.0.ends.only node ends);
        each = λ node below up ends. more _ (are.0.ends.each node below up ends);
      };
    },
    of_lines_weaker before are.1,
  )

  comes_weaker : (line : Line) (parts : List Part) (before now : Option Snapshot) → ComesBy P line parts before now → ComesBy Q line parts before now
  comes_weaker line parts before now (Opened volume nodes devices areas at heading none first then_at opened) = Opened volume nodes devices areas at heading none first then_at opened
  comes_weaker line parts before now (Executed from to from_is to_is executes) =
      Executed from to from_is to_is (record {
        allowed = executes.allowed;
        steps = executes.steps;
        is = executes.is;
        parts_are = executes.parts_are;
        stopped = λ stopped. gives (executes.stopped stopped);
        held = executes.held;
        clock = executes.clock;
        disks = executes.disks;
      })

  pub execution_weaker : (done : List Done) (now : Option Snapshot) → IsExecution P done now → IsExecution Q done now
  execution_weaker [] now is = is
  execution_weaker (one ∷ earlier) now is = (is.0, execution_weaker earlier is.0 is.1, comes_weaker one.line one.parts is.0 now is.2)

  pub stands_weaker : (Led : Tree → List Part → Type 0) (lacking : set.FinSet nat_cmp) (now : Snapshot) (done : List Done) (start written : List ℕ) → ReplayStands P Led lacking now done start written → ReplayStands Q Led lacking now done start written
  stands_weaker Led lacking now done start written stands = record {
    led = stands.led;
    lacks = stands.lacks;
    of_lines = of_lines_weaker done stands.of_lines;
    execution = execution_weaker done (Some now) stands.execution;
    in_range = stands.in_range;
    output = stands.output;
  }
