-- A node sends a write.
use Rattle.std.specs.Prelude.{◌≡◌, ℕ, ◌≤◌, ◌==◌, ◌++◌, true, false, List, [], ◌∷◌, length, Some, None, slice_get, if◌then◌else◌}
use Rattle.bx_facts.specs.Chains.{last}
use Rattle.bx_facts.specs.Writes.{AreRuns, MayWrite, Sent, StorePast}
use Rattle.bx_post.specs.declared.packets.Letter.{Letter}
use Rattle.bx_records.specs.Runs.{KindAndRuns}
use Rattle.bx_rows.specs.Conditions.{Fits}
use Rattle.bx_rows.specs.declared.device.DeviceRow.{DeviceRow}
use Rattle.bx_mirror_client.specs.Letters.{write_letters}
use Rattle.bx_mirror_client.specs.Sends.{next_number}
use Rattle.bx_mirror_client.specs.Streams.{Streaming, sending}
use Rattle.bx_mirror_client.specs.declared.sending.Sending.{Sending}
use Rattle.bx_mirror_cluster.specs.Fitting.{Parts}
use Rattle.bx_mirror_cluster.specs.Speaking.{FitsPacket}

-- one node has this stream
abbrev pub with_node : (ℕ → Streaming) → ℕ → Streaming → ℕ → Streaming
with_node nodes node c n = if n == node then c else nodes n

abbrev pub with_stream : Parts → ℕ → Streaming → Parts
with_stream parts node c = record parts { nodes = with_node parts.nodes node c }

-- the past with a write more, and with its letters
abbrev pub with_sent : StorePast → Sent → List Letter → StorePast
with_sent past sent letters = record { told = record past.told { letters = past.told.letters ++ letters }; writes = sent ∷ past.writes }

-- the write of a stream that has this session
abbrev pub write_by : Streaming → ℕ → ℕ → KindAndRuns → Sending
write_by c session until runs = record { session = session; sequence = next_number c.sequence; until = until; runs = runs; acks = [] }

-- A node may send a write: it has the session and no write out, the runs are ones of the volume, no other write to their sectors may be taken, a
-- number is left, and its numbers and those of the rows fit a packet.
pub record MaySend (parts : Parts) (past : StorePast) (node session until : ℕ) (runs : KindAndRuns) : Type 0 where
  pub own : (parts.nodes node).session ≡ Some session
  pub none : (parts.nodes node).out ≡ None
  pub runs_are : AreRuns parts.made runs.1
  pub may : MayWrite past.writes past.told.greatest (last past.told.chain) (record { session = session; until = until; runs = runs.1 })
  pub left : (next_number (parts.nodes node).sequence == 0) ≡ false
  pub fits : FitsPacket (write_by (parts.nodes node) session until runs)
  pub few : length (parts.nodes node).rows ≤ 4
  pub epochs : (k : ℕ) (row : DeviceRow) → slice_get (parts.nodes node).rows k ≡ Some row → Fits row.epoch

-- A node for which no number is left may have a write out.
pub record MayHold (parts : Parts) (node session until : ℕ) (runs : KindAndRuns) : Type 0 where
  pub own : (parts.nodes node).session ≡ Some session
  pub none : (parts.nodes node).out ≡ None
  pub runs_are : AreRuns parts.made runs.1
  pub not_left : (next_number (parts.nodes node).sequence == 0) ≡ true
  pub fits : FitsPacket (write_by (parts.nodes node) session until runs)

-- the parts once it was sent, and the past then
abbrev pub parts_sent : Parts → ℕ → ℕ → ℕ → KindAndRuns → Parts
parts_sent parts node session until runs = with_stream parts node (sending (Some session) runs until (parts.nodes node))

abbrev pub past_sent : Parts → StorePast → ℕ → ℕ → ℕ → KindAndRuns → StorePast
past_sent parts past node session until runs =
    with_sent past (record { session = session; until = until; runs = runs.1 }) (write_letters [] (parts.nodes node).node (sending (Some session) runs until (parts.nodes node)).out (parts.nodes node).rows)
