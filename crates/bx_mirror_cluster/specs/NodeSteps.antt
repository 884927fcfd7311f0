-- What a node does beside its writes: it sends a read, takes the answer, and notes what comes.
use Rattle.std.specs.Prelude.{◌≡◌, ℕ, ◌^◌, ◌<◌, true, [], Contains, Some, slice_get}
use Rattle.bx_base.specs.declared.names.Actor.TheVariants.{Member}
use Rattle.bx_facts.specs.Writes.{StorePast}
use Rattle.bx_post.specs.declared.packets.Letter.{Letter}
use Rattle.bx_rows.specs.Conditions.{Fits}
use Rattle.bx_rows.specs.declared.device.DeviceRow.{DeviceRow}
use Rattle.bx_mirror_packets.specs.DeviceMessages.{Spells}
use Rattle.bx_mirror_packets.specs.declared.message.DeviceMessage.TheVariants.{Wrote}
use Rattle.bx_mirror_packets.specs.declared.message.WroteBody.{WroteBody}
use Rattle.bx_mirror_client.specs.Events.{counts, with_ack}
use Rattle.bx_mirror_client.specs.Letters.{read_letters}
use Rattle.bx_mirror_client.specs.Sends.{next_number}
use Rattle.bx_mirror_client.specs.Streams.{asking}
use Rattle.bx_mirror_client.specs.declared.sending.Sending.{Sending}
use Rattle.bx_mirror_cluster.specs.Fitting.{Parts}
use Rattle.bx_mirror_cluster.specs.GoingOn.{letters_more}
use Rattle.bx_mirror_cluster.specs.Writing.{with_stream}

-- A node may send a read: it has the session, and the numbers of the read and of the rows fit a packet.
pub record MayRead (parts : Parts) (node session device place sectors : ℕ) : Type 0 where
  pub itself : (parts.nodes node).node ≡ node
  pub own : (parts.nodes node).session ≡ Some session
  pub session_fits : Fits session
  pub device_fits : device < 2 ^ 32
  pub tag_fits : Fits (next_number (parts.nodes node).tag)
  pub place_fits : Fits place
  pub sectors_fit : sectors < 2 ^ 32
  pub epochs : (k : ℕ) (row : DeviceRow) → slice_get (parts.nodes node).rows k ≡ Some row → Fits row.epoch

-- the parts once it was sent, and the past then
abbrev pub parts_asked : Parts → ℕ → ℕ → ℕ → ℕ → ℕ → Parts
parts_asked parts node session device place sectors = with_stream parts node (asking (Some session) device place sectors (parts.nodes node))

abbrev pub past_asked : Parts → StorePast → ℕ → ℕ → ℕ → ℕ → ℕ → StorePast
past_asked parts past node session device place sectors =
    letters_more past (read_letters [] (parts.nodes node).node (asking (Some session) device place sectors (parts.nodes node)).asks (parts.nodes node).rows)

-- An acknowledgement of a node's write is under way.
pub record IsAck (parts : Parts) (past : StorePast) (node : ℕ) (s : Sending) (member : ℕ) (w : WroteBody) : Type 0 where
  pub out : (parts.nodes node).out ≡ Some s
  pub counts_it : counts s member w ≡ true
  pub letter : Letter
  pub there : Contains past.told.letters letter
  pub from : letter.from ≡ Member member
  pub says : Spells (Wrote w) letter.kind letter.body

-- the parts once it is noted
abbrev pub parts_acked : Parts → ℕ → Sending → ℕ → ℕ → Parts
parts_acked parts node s member epoch = with_stream parts node (record (parts.nodes node) { out = Some (with_ack member epoch s) })
