-- How owners on one machine fit what was done with them.
use Rattle.std.specs.Prelude.{◌≡◌, ◌≢◌, ℕ, ◌+◌, ◌<◌, ◌≤◌, max, nat_lt, if◌then◌else◌, List, [], Contains, Option, Some, None, IfSome}
use Rattle.bx_base.specs.declared.names.Mode.TheVariants.{Shared}
use Rattle.bx_global.specs.declared.state.GlobalState.{GlobalState}
use Rattle.bx_rows.specs.Words.{row_in}
use Rattle.bx_facts.specs.Chains.{IsPlace, any_session_of, oldest}
use Rattle.bx_facts.specs.Holds.{Hold, IsSessionIn, OwnersPast}
use Rattle.bx_plain.specs.declared.rows.Row.{Row}
use Rattle.bx_plain.specs.Rows.{hold_in, floor_in}

-- No two sessions hold a block unless both share it, and each hold's index reaches the floor.
pub record RowsStand (rows : List Row) : Type 0 where
  pub apart : (s t block : ℕ) (hold other : Hold) → s ≢ t → hold_in rows s block ≡ Some hold → hold_in rows t block ≡ Some other → (hold.0 ≡ Shared) × (other.0 ≡ Shared)
  pub reaches : (s block : ℕ) (hold : Hold) → hold_in rows s block ≡ Some hold → floor_in rows block ≤ hold.1

-- the session of a node
abbrev pub own_in : ℕ → ℕ → Option ℕ
own_in nodes node = if nat_lt node nodes then Some (node + 1) else None

-- the end of a node's session
abbrev pub end_in : ℕ → ℕ → Option ℕ
end_in nodes node = if nat_lt node nodes then Some 4294967295999 else None

-- a session of a node
abbrev pub IsOwn : ℕ → ℕ → Type 0
IsOwn nodes session = (1 ≤ session) × (session ≤ nodes)

-- A state that owners on one machine are made for: each node has a live session, by its number, none is dead, and none ends later than they know.
pub record IsPlainState (nodes : ℕ) (s : GlobalState) : Type 0 where
  pub sessions : (node : ℕ) → node < nodes → IsSessionIn s node (Some (node + 1))
  pub alive : (session : ℕ) → IfSome (row_in s.sessions session) (λ row. row.dead ≡ 0)
  pub ends : (session : ℕ) → IfSome (row_in s.sessions session) (λ row. row.until ≤ 4294967295999)
  pub below : nodes < s.next_session
  pub found : (node : ℕ) → any_session_of s node ≡ own_in nodes node

-- The rows hold what is held, and the floors are reached by theirs, or by the first state; each state of the chain is one that they are made for; and nothing was handed back.
pub record Fits (nodes : ℕ) (rows : List Row) (past : OwnersPast) : Type 0 where
  pub stand : RowsStand rows
  pub holds : (session block : ℕ) → past.holding session block ≡ hold_in rows session block
  pub floors : (block : ℕ) → past.floor block ≤ max (floor_in rows block) past.told.chain.first.index
  pub leases : (session end : ℕ) → Contains past.leases (session, end) → IsOwn nodes session
  pub states : (s : GlobalState) → IsPlace past.told.chain s → IsPlainState nodes s
  pub oldest_is : oldest past.told.chain ≡ 0
  pub handed : past.told.handed ≡ []
