-- What a stream does in one event: each step as a function, so that what is taken is said both ways.
use Rattle.std.specs.Prelude.{◌≡◌, ℕ, ◌/◌, ◌==◌, ◌&&◌, not, Bool, List, [], ◌∷◌, ◌++◌, MatchOption, slice_get, Option, Some, None, if◌then◌else◌}
use Rattle.bx_base.specs.declared.names.Actor.{Actor}
use Rattle.bx_base.specs.declared.names.Actor.TheVariants.{Member, Node, Replica, Server}
use Rattle.bx_facts.specs.declared.input.Input.{Input}
use Rattle.bx_facts.specs.declared.input.Input.TheVariants.{Packet, Tick, Synced}
use Rattle.bx_global.specs.declared.state.GlobalState.{GlobalState}
use Rattle.bx_post.specs.declared.packets.Letter.{Letter}
use Rattle.bx_rows.specs.declared.device.DeviceRow.{DeviceRow}
use Rattle.bx_mirror_packets.specs.DeviceMessages.{Spells}
use Rattle.bx_mirror_packets.specs.declared.message.DataBody.{DataBody}
use Rattle.bx_mirror_packets.specs.declared.message.DeviceMessage.{DeviceMessage}
use Rattle.bx_mirror_packets.specs.declared.message.DeviceMessage.TheVariants.{Write, Wrote, Read, Data, Copy, Copied, Alive}
use Rattle.bx_mirror_packets.specs.declared.message.WroteBody.{WroteBody}
use Rattle.bx_mirror_client.specs.declared.asking.Asking.{Asking}
use Rattle.bx_mirror_client.specs.declared.sending.Sending.{Sending}
use Rattle.bx_mirror_client.specs.Asks.{fits, is_awaited}
use Rattle.bx_mirror_client.specs.Sends.{has_runs, is_acked}
use Rattle.bx_mirror_client.specs.Streams.{Streaming, learned, letters_since, unless_done}

-- ---- it hears

-- An acknowledgement counts: session and number are those of the write, and it comes from a member of the device, which has some of the runs.
abbrev pub counts : Sending → ℕ → WroteBody → Bool
counts s member w = (w.session == s.session) && ((w.sequence == s.sequence) && (not (s.sequence == 0) && ((member / 2 == w.device) && has_runs w.device s.runs.1)))

-- it is noted once
abbrev pub with_ack : ℕ → ℕ → Sending → Sending
with_ack member epoch s = if is_acked s.acks member epoch then s else record s { acks = s.acks ++ record { member = member; epoch = epoch } ∷ [] }

abbrev pub out_acked : ℕ → WroteBody → List DeviceRow → Option Sending → Option Sending
out_acked member w rows None = None
out_acked member w rows (Some s) = if counts s member w then unless_done rows (with_ack member w.epoch s) else Some s

-- An answer is taken where it fits, and none came before.
abbrev pub asks_answered : DataBody → List DeviceRow → Option Asking → Option Asking
asks_answered d rows None = None
asks_answered d rows (Some a) = if is_awaited a && fits (slice_get rows a.device) a d then Some (record a { answer = Some d.bytes }) else Some a

abbrev pub hear_member : ℕ → DeviceMessage → Streaming → Streaming
hear_member member (Wrote w) c = record c { out = out_acked member w c.rows c.out }
hear_member member (Data d) c = record c { asks = asks_answered d c.rows c.asks }
hear_member member (Write w) c = c
hear_member member (Read r) c = c
hear_member member (Copy p) c = c
hear_member member (Copied p) c = c
hear_member member Alive c = c

-- what doesn't come from a member is passed over
abbrev pub hear : Actor → DeviceMessage → Streaming → Streaming
hear (Member member) message c = hear_member member message c
hear (Node n) message c = c
hear (Replica n) message c = c
hear (Server n) message c = c

-- what a packet says, or that it says nothing
abbrev pub SaysOr : ℕ → List ℕ → Option DeviceMessage → Type 0
SaysOr kind body said = MatchOption said ((message : DeviceMessage) → Spells message kind body → ⊥) (λ message. Spells message kind body)

abbrev pub heard : Actor → Option DeviceMessage → Streaming → Streaming
heard from None c = c
heard from (Some message) c = hear from message c

-- A packet is taken by a stream that knows the state.
pub record Hears (c : Streaming) (from : Actor) (kind : ℕ) (body : List ℕ) (new : Streaming) : Type 0 where
  pub said : Option DeviceMessage
  pub says : SaysOr kind body said
  pub is : new ≡ heard from said c

-- ---- all of it

-- What comes to a stream that knows the state. At a tick members are told again of all that is out and that they are missing.
abbrev pub TakesIn : Streaming → Input → Streaming → List Letter → List Letter → Type 0
TakesIn c (Packet packet reading) new before after = Hears c packet.now.from packet.now.kind packet.now.body new × (after ≡ before)
TakesIn c (Tick reading) new before after = (new ≡ c) × (after ≡ before ++ letters_since [] c)
TakesIn c Synced new before after = (new ≡ c) × (after ≡ before)

-- All that a stream does in one event: it learns the state, tells members in epochs that are new, and takes what comes.
abbrev pub Takes : Streaming → GlobalState → Input → Streaming → List Letter → List Letter → Type 0
Takes c known input new before after = TakesIn (learned known c) input new (before ++ letters_since c.rows (learned known c)) after
