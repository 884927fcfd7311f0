-- What was read and done stands behind the heading, and where more machines may have stopped.
use Rattle.std.proofs.Common.{ℕ, ◌+◌, List, [], ◌∷◌, inl, refl, arith}
use Rattle.std.specs.FinSet as set
use Rattle.std.specs.Ordering.{nat_cmp}
use Rattle.bx_base.specs.Text.{BeginsWith}
use Rattle.bx_history.specs.Parts.{Part}
use Rattle.bx_model.specs.declared.tree.Tree.{Tree}
use Rattle.bx_opens.specs.bx_world_events.specs.Refusals.{Seen}
use Rattle.bx_schedule.specs.Execution.{Snapshot}
use Rattle.bx_schedule.specs.Placing.{lines_of}
use Rattle.bx_script.specs.ScheduleLine.{spelling}
use Rattle.bx_script.specs.declared.line.Line.{Line}
use Rattle.bx_replay.specs.Replay.{Going, IsBegun, IsRead, Reached, ReplayStands}
use Rattle.bx_replay.proofs.ReadLines.{one_more, read_on}
use Rattle.bx_replay.proofs.Weaker.{reached_weaker, stands_weaker}

module _ (P Q : Type 0) (gives : P → Q) (seen : Seen) (greatest : ℕ) (text rest : List ℕ) (number : ℕ) where
  abbrev pub read_later : IsRead P seen greatest text rest number → IsRead Q seen greatest text rest number
  read_later so_far = record { done = so_far.done; reached = reached_weaker P Q gives seen greatest so_far.done so_far.reached; read = so_far.read; count = so_far.count }

-- all of it
abbrev pub going_later : (P Q : Type 0) (gives : P → Q) (now : Snapshot) (text rest : List ℕ) (number : ℕ) (Led : Tree → List Part → Type 0) (lacking : set.FinSet nat_cmp) (start written : List ℕ)
    → Going P Led lacking now text rest number start written → Going Q Led lacking now text rest number start written
going_later P Q gives now text rest number Led lacking start written going = record {
  done = going.done;
  reached = reached_weaker P Q gives now.seen now.clock (lines_of going.done) going.reached;
  read = going.read;
  count = going.count;
  stands = stands_weaker P Q gives Led lacking now going.done start written going.stands;
}

-- behind the heading
module _ (MayStop : Type 0) (seen : Seen) (greatest : ℕ) (text rest : List ℕ) (begun : IsBegun seen greatest text rest) where
  reached_now : Reached MayStop seen greatest (begun.heading ∷ [])
  reached_now = reached_weaker ⊥ MayStop (λ none. absurd none) seen greatest (begun.heading ∷ []) begun.reached

  pub read_first : IsRead MayStop seen greatest text rest 1
  read_first = record { done = begun.heading ∷ []; reached = reached_now; read = read_on text text rest [] begun.heading tt (inl refl) begun.begins; count = refl }

pub going_first : (MayStop : Type 0) (now : Snapshot) (text rest : List ℕ) (begun : IsBegun now.seen now.clock text rest) (Led : Tree → List Part → Type 0) (lacking : set.FinSet nat_cmp) (start : List ℕ)
    → ReplayStands ⊥ Led lacking now (record { line = begun.heading; parts = [] } ∷ []) start start → Going MayStop Led lacking now text rest 1 start start
going_first MayStop now text rest begun Led lacking start stands =
    record {
      done = record { line = begun.heading; parts = [] } ∷ [];
      reached = reached_now MayStop now.seen now.clock text rest begun;
      read = read_on text text rest [] begun.heading tt (inl refl) begun.begins;
      count = refl;
      stands = stands_weaker ⊥ MayStop (λ none. absurd none) Led lacking now (record { line = begun.heading; parts = [] } ∷ []) start start stands;
    }

-- with one line more
pub read_one : (P Q : Type 0) (seen seen_now : Seen) (greatest greatest_now : ℕ) (text rest next : List ℕ) (number : ℕ) (line : Line) (so_far : IsRead P seen greatest text rest number) → BeginsWith rest (spelling line) next
    → Reached Q seen_now greatest_now (line ∷ so_far.done) → IsRead Q seen_now greatest_now text next (number + 1)
read_one P Q seen seen_now greatest greatest_now text rest next number line so_far begins reached = record {
  done = line ∷ so_far.done;
  reached = reached;
  read = one_more P seen greatest text rest next number line so_far begins;
  count = (let count = so_far.count in omega (arith, count));
}
