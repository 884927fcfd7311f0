-- Of which node a session is.
use Rattle.std.specs.Prelude.{◌≡◌, ℕ, ◌<◌, List}
use Rattle.std.specs.List.{AllByRecursion}
use Rattle.bx_global.specs.declared.change.Change.{Change}
use Rattle.bx_global.specs.declared.state.GlobalState.{GlobalState}
use Rattle.bx_global.specs.bx_rows.specs.declared.session.SessionRow.{SessionRow}
use Rattle.bx_facts.specs.Chains.{IsAmong, state_after}

-- A row is of the node that its session is of, and its number was given out.
pub record IsRowOf (node_of : ℕ → ℕ) (next : ℕ) (row : SessionRow) : Type 0 where
  pub node : row.node ≡ node_of row.number
  pub given : row.number < next

-- So are all rows of all states of a chain.
pub record AreRows (node_of : ℕ → ℕ) (first : GlobalState) (changes : List Change) : Type 0 where
  pub each : (s : GlobalState) → IsAmong first changes s → AllByRecursion (IsRowOf node_of (state_after first changes).next_session) s.sessions
