-- What an event leaves of what a stream has out, and how a write ends.
use Rattle.std.specs.Prelude.{◌≡◌, ◌≢◌, ℕ, ◌/◌, ◌⊎◌, List, None}
use Rattle.bx_base.specs.declared.names.Actor.TheVariants.{Member}
use Rattle.bx_facts.specs.Chains.{session_of}
use Rattle.bx_facts.specs.declared.input.Input.{Input}
use Rattle.bx_facts.specs.declared.input.Input.TheVariants.{Packet, Tick, Synced}
use Rattle.bx_global.specs.declared.state.GlobalState.{GlobalState}
use Rattle.bx_rows.specs.declared.device.DeviceRow.{DeviceRow}
use Rattle.bx_mirror_packets.specs.DeviceMessages.{Spells}
use Rattle.bx_mirror_packets.specs.declared.message.DeviceMessage.TheVariants.{Wrote}
use Rattle.bx_mirror_packets.specs.declared.message.WroteBody.{WroteBody}
use Rattle.bx_mirror_client.specs.declared.sending.Sending.{Sending}
use Rattle.bx_mirror_client.specs.Asks.{asked_in}
use Rattle.bx_mirror_client.specs.Streams.{IsOwnRead, Streaming, sent_in}
use Rattle.bx_mirror_client.specs.Telling.{HasAcked, IsDone}

-- The stream knows what it knew; its write stays or goes, and its read stays.
pub record IsGoingOn (c new : Streaming) : Type 0 where
  pub node : new.node ≡ c.node
  pub boot : new.boot ≡ c.boot
  pub sequence : new.sequence ≡ c.sequence
  pub tag : new.tag ≡ c.tag
  pub session : new.session ≡ c.session
  pub rows : new.rows ≡ c.rows
  pub out : (new.out ≡ None) ⊎ (sent_in new.out ≡ sent_in c.out)
  pub asks : asked_in new.asks ≡ asked_in c.asks

-- It knows a state then: the session that it has there, and the rows of the devices.
pub record Leaves (c : Streaming) (known : GlobalState) (new : Streaming) : Type 0 where
  pub node : new.node ≡ c.node
  pub boot : new.boot ≡ c.boot
  pub sequence : new.sequence ≡ c.sequence
  pub tag : new.tag ≡ c.tag
  pub session : new.session ≡ session_of known c.node c.boot
  pub rows : new.rows ≡ known.devices
  pub out : (new.out ≡ None) ⊎ (sent_in new.out ≡ sent_in c.out)
  pub asks : (new.asks ≡ None) ⊎ (asked_in new.asks ≡ asked_in c.asks)
  -- its own read stays exactly as long as its session
  pub own_read : IsOwnRead c.session c.asks → ((new.session ≡ c.session) × (asked_in new.asks ≡ asked_in c.asks)) ⊎ ((new.session ≢ c.session) × (new.asks ≡ None))

-- what comes is this answer of a member
abbrev pub Brings : Input → ℕ → WroteBody → Type 0
Brings (Packet packet reading) member w = (packet.now.from ≡ Member member) × Spells (Wrote w) packet.now.kind packet.now.body
Brings (Tick reading) member w = ⊥
Brings Synced member w = ⊥

-- A write is done with these rows, by what it had noted and by what came.
pub record EndsDone (s : Sending) (rows : List DeviceRow) (input : Input) : Type 0 where
  pub acked : Sending
  pub session : acked.session ≡ s.session
  pub sequence : acked.sequence ≡ s.sequence
  pub until : acked.until ≡ s.until
  pub runs : acked.runs ≡ s.runs
  pub done : IsDone acked rows
  pub noted : (member epoch : ℕ) → HasAcked acked.acks member epoch → HasAcked s.acks member epoch ⊎ Brings input member (record { session = s.session; device = member / 2; epoch = epoch; sequence = s.sequence })
