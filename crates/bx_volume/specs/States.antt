-- The global state that the cells of the replicas tell.
use Rattle.std.specs.Prelude.{◌≡◌, ◌≢◌, ℕ, ◌<◌, ◌≤◌, ◌⊎◌, Option, Some, None}
use Rattle.bx_global.specs.declared.held.Held.{Held}
use Rattle.bx_global.specs.declared.state.GlobalState.{GlobalState}
use Rattle.bx_rows.specs.Ballots.{ComesBefore}

-- what the readable cells of the labelled replicas hold, by replica
abbrev pub Cells : Type 0
Cells = ℕ → Option Held

-- at least two replicas have one
pub record AreEnough (cells : Cells) : Type 0 where
  pub one : ℕ
  pub other : ℕ
  pub apart : one ≢ other
  pub is_one : one < 3
  pub is_other : other < 3
  pub one_has : cells one ≢ None
  pub other_has : cells other ≢ None

-- the replica accepted a state whose index is above that of every decided one
pub record IsAbove (cells : Cells) (replica : ℕ) (held : Held) : Type 0 where
  pub is_replica : replica < 3
  pub has : cells replica ≡ Some held
  pub accepted : held.flag ≡ 1
  pub above : (other : ℕ) (cell : Held) → other < 3 → cells other ≡ Some cell → cell.decided.index < held.accepted.index

-- of two that accepted, one counts before the other: by index, then ballot, then the lower replica
abbrev pub CountsBefore : ℕ → Held → ℕ → Held → Type 0
CountsBefore replica held other cell =
    (cell.accepted.index < held.accepted.index)
    ⊎ ((cell.accepted.index ≡ held.accepted.index) × (ComesBefore cell.ballot held.ballot ⊎ ((cell.ballot ≡ held.ballot) × (replica ≤ other))))

pub record IsAcceptedState (cells : Cells) (state : GlobalState) : Type 0 where
  pub replica : ℕ
  pub held : Held
  pub is : IsAbove cells replica held
  pub best : (other : ℕ) (cell : Held) → IsAbove cells other cell → CountsBefore replica held other cell
  pub state_is : state ≡ held.accepted

pub record IsDecidedState (cells : Cells) (state : GlobalState) : Type 0 where
  pub none_above : (replica : ℕ) (held : Held) → IsAbove cells replica held → ⊥
  pub replica : ℕ
  pub held : Held
  pub is_replica : replica < 3
  pub has : cells replica ≡ Some held
  pub best : (other : ℕ) (cell : Held) → other < 3 → cells other ≡ Some cell
      → (cell.decided.index < held.decided.index) ⊎ ((cell.decided.index ≡ held.decided.index) × (replica ≤ other))
  pub state_is : state ≡ held.decided

-- The accepted state of the highest ballot at the greatest index above every decided one; where there is none, the decided state of the
-- greatest index. Among equals the lowest replica's counts.
pub record TellsState (cells : Cells) (state : GlobalState) : Type 0 where
  pub enough : AreEnough cells
  pub is : IsAcceptedState cells state ⊎ IsDecidedState cells state
