-- What a node has out at mirrored devices, and what becomes of that as it sends, and as it learns a state.
use Rattle.std.specs.Prelude.{◌≡◌, ℕ, ◌≤◌, ◌==◌, max, Bool, false, List, [], ◌++◌, length, Option, Some, None, if◌then◌else◌}
use Rattle.bx_facts.specs.Chains.{session_of}
use Rattle.bx_facts.specs.Writes.{Sent}
use Rattle.bx_global.specs.declared.state.GlobalState.{GlobalState}
use Rattle.bx_post.specs.declared.packets.Letter.{Letter}
use Rattle.bx_records.specs.Runs.{KindAndRuns}
use Rattle.bx_rows.specs.declared.device.DeviceRow.{DeviceRow}
use Rattle.bx_mirror_client.specs.declared.asking.Asking.{Asking}
use Rattle.bx_mirror_client.specs.declared.sending.Sending.{Sending}
use Rattle.bx_mirror_client.specs.Asks.{asks_left}
use Rattle.bx_mirror_client.specs.Letters.{is_new_for, read_letters, write_letters}
use Rattle.bx_mirror_client.specs.Sends.{is_done, next_number}

-- A stream: its node and boot; the greatest numbers of writes and reads that it drew in this boot; its session, where it knows of a live one; the
-- rows of the devices in the state that it learned last; its write that is out, and its read that is out or whose answer wasn't taken yet.
pub record Streaming : Type 0 where
  pub node : ℕ
  pub boot : ℕ
  pub sequence : ℕ
  pub tag : ℕ
  pub session : Option ℕ
  pub rows : List DeviceRow
  pub out : Option Sending
  pub asks : Option Asking

-- the write that is out, as a store tells it
abbrev pub sent_in : Option Sending → Option Sent
sent_in None = None
sent_in (Some s) = Some (record { session = s.session; until = s.until; runs = s.runs.1 })

-- a read that is out is of the stream's session
abbrev pub IsOwnRead : Option ℕ → Option Asking → Type 0
IsOwnRead session None = Unit {0}
IsOwnRead session (Some a) = session ≡ Some a.session

-- Of every stream: it knows few devices, and its read is its own.
pub record IsStreaming (c : Streaming) : Type 0 where
  pub few : length c.rows ≤ 4
  pub own_read : IsOwnRead c.session c.asks

-- All that is to be said of what is out, in the epochs that aren't those of the rows before: the write first.
abbrev pub letters_since : List DeviceRow → Streaming → List Letter
letters_since before c = write_letters before c.node c.out c.rows ++ read_letters before c.node c.asks c.rows

-- ---- it sends

-- The next number is drawn. Where none is left what is sent has the number 0, and nobody is told.
abbrev pub sending : Option ℕ → KindAndRuns → ℕ → Streaming → Streaming
sending None runs until c = c
sending (Some session) runs until c =
    record c { sequence = max c.sequence (next_number c.sequence); out = Some (record { session = session; sequence = next_number c.sequence; until = until; runs = runs; acks = [] }) }

abbrev pub asking : Option ℕ → ℕ → ℕ → ℕ → Streaming → Streaming
asking None device place sectors c = c
asking (Some session) device place sectors c =
    record c { tag = max c.tag (next_number c.tag); asks = Some (record { session = session; tag = next_number c.tag; device = device; place = place; sectors = sectors; answer = None }) }

-- the answer is taken
abbrev pub answered : Streaming → Streaming
answered c = record c { asks = asks_left c.asks }

-- ---- it learns a state

abbrev pub is_session : Option ℕ → ℕ → Bool
is_session None session = false
is_session (Some own) session = own == session

-- A write that is done with these rows isn't out any more.
abbrev pub unless_done : List DeviceRow → Sending → Option Sending
unless_done rows s = if is_done s rows then None else Some s

-- Nor is one of another session.
abbrev pub out_in : Option ℕ → List DeviceRow → Option Sending → Option Sending
out_in session rows None = None
out_in session rows (Some s) = if is_session session s.session then unless_done rows s else None

-- A read of another session is over. In another epoch of its device an answer that came before doesn't count.
abbrev pub asks_in : Option ℕ → List DeviceRow → List DeviceRow → Option Asking → Option Asking
asks_in session before rows None = None
asks_in session before rows (Some a) = if is_session session a.session then Some (if is_new_for before rows a.device then record a { answer = None } else a) else None

abbrev pub with_state : Option ℕ → List DeviceRow → Streaming → Streaming
with_state session rows c = record c { session = session; rows = rows; out = out_in session rows c.out; asks = asks_in session c.rows rows c.asks }

abbrev pub learned : GlobalState → Streaming → Streaming
learned known c = with_state (session_of known c.node c.boot) known.devices c

-- ---- it begins, stops, and starts again

abbrev pub made : ℕ → GlobalState → Streaming
made node s = record { node = node; boot = 0; sequence = 0; tag = 0; session = session_of s node 0; rows = s.devices; out = None; asks = None }

-- Its numbers stay as long as its boot does.
abbrev pub stopped : Streaming → Streaming
stopped c = record c { session = None; rows = []; out = None; asks = None }

abbrev pub restarted : ℕ → Streaming → Streaming
restarted boot c = record { node = c.node; boot = boot; sequence = 0; tag = 0; session = None; rows = []; out = None; asks = None }
