-- How a machine starts again.
use Rattle.std.specs.Prelude.{◌≡◌, ◌≢◌, ℕ, max, Bool, true, false, Some}
use Rattle.bx_base.specs.declared.names.Actor.{Actor}
use Rattle.bx_facts.specs.Machines.{put_at}
use Rattle.bx_global.specs.declared.state.GlobalState.{GlobalState}
use Rattle.bx_node_events.specs.Works.{KeepsWorks}
use Rattle.bx_rows.specs.Words.{row_in}
use Rattle.bx_rows.specs.declared.session.SessionRow.{SessionRow}
use Rattle.bx_world_standing.specs.Parts.{Clocks}
use Rattle.bx_world_standing.specs.Standing.{Course}

-- the clocks, where a machine that was down is up again, with this boot and at this reading; where it tried to, and a fault stopped it
abbrev pub with_boot : Clocks → Actor → ℕ → ℕ → Clocks
with_boot clocks who boot reading = record clocks { down = put_at who false clocks.down; boots = put_at who boot clocks.boots; most = boot; greatest = max clocks.greatest reading }

abbrev pub with_try : Clocks → ℕ → ℕ → Clocks
with_try clocks boot reading = record clocks { most = boot; greatest = max clocks.greatest reading }

-- A node may start again with a boot, by the last state: each machine's part is its own, sessions go by boots, and no live one of the node is of this boot.
pub record MayStart (by_boot : Bool) (AreSeparate : Type 0) (s : GlobalState) (node boot : ℕ) : Type 0 where
  pub by : by_boot ≡ true
  pub separate : AreSeparate
  pub none : (session : ℕ) (row : SessionRow) → row_in s.sessions session ≡ Some row → row.dead ≡ 0 → row.node ≡ node → row.boot ≢ boot

-- There is a later course, of the same chain and logs, with what was under way and in doubt, and what stands stands for it.
pub record Starts (Stands_then : Course → Type 0) (c : Course) : Type 0 where
  pub later : Course
  pub chain : later.register.chain ≡ c.register.chain
  pub logs : later.logs ≡ c.logs
  pub works : KeepsWorks c later
  pub stands : Stands_then later
