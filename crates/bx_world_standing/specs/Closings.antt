-- Closings of dead sessions that were proposed: whenever one is decided, its slot is free for another session.
use Rattle.std.specs.Prelude.{◌≡◌, ℕ, ◌<◌, List, [], Contains, Some}
use Rattle.bx_facts.specs.Chains.{LivesIn}
use Rattle.bx_facts.specs.Writes.{Sent, WritesTo}
use Rattle.bx_global.specs.declared.state.GlobalState.{GlobalState}
use Rattle.bx_rows.specs.Words.{row_in}
use Rattle.bx_rows.specs.declared.session.SessionRow.{SessionRow}
use Rattle.bx_world_logs.specs.bx_volume.specs.Overlay.{Logs}
use Rattle.bx_world_chains.specs.Entitled.{IsEntitled}
use Rattle.bx_world_logs.specs.Logs.{Slot, idle}
use Rattle.bx_world_standing.specs.Rights.{IsOfSlot}

-- The log of a slot is closed: it has no records, nothing is under way, and no write of this session to it may be taken any more.
pub record IsClosed (devices : ℕ) (logs : Logs) (slots : ℕ → Slot) (writes : List Sent) (slot by : ℕ) : Type 0 where
  pub none : logs slot ≡ []
  pub still : (slots slot).activity ≡ idle
  pub unwritten : (write : Sent) (d s : ℕ) (content : List ℕ) → Contains writes write → write.session ≡ by → WritesTo write d s content → IsOfSlot devices slot d s → ⊥

-- Of a closing that was proposed: both sessions were given out, and the one that goes is dead; while the one that closes is live and the other
-- has a row, the slot is its own to write and the log is closed.
pub record ClosingStands (devices : ℕ) (s : GlobalState) (logs : Logs) (slots : ℕ → Slot) (writes : List Sent) (gone by : ℕ) : Type 0 where
  pub given : gone < s.next_session
  pub given_by : by < s.next_session
  pub dead : LivesIn s gone → ⊥
  pub entitled : (row : SessionRow) → LivesIn s by → row_in s.sessions gone ≡ Some row → IsEntitled s gone row.slot by
  pub closed : (row : SessionRow) → LivesIn s by → row_in s.sessions gone ≡ Some row → IsClosed devices logs slots writes row.slot by
