-- Streams that go on with the writes that they have out.
use Rattle.std.specs.Prelude.{◌≡◌, ℕ, ◌<◌, ◌≤◌, ◌⊎◌, ◌++◌, Bool, List, Contains, Some}
use Rattle.bx_facts.specs.Writes.{StorePast}
use Rattle.bx_post.specs.declared.packets.Letter.{Letter}
use Rattle.bx_mirror_laws.specs.Sides.{Among}
use Rattle.bx_mirror_packets.specs.declared.message.ReadBody.{ReadBody}
use Rattle.bx_mirror_client.specs.Asks.{FitsRead}
use Rattle.bx_mirror_client.specs.Sends.{member_at}
use Rattle.bx_mirror_client.specs.Streams.{Streaming}
use Rattle.bx_mirror_client.specs.Telling.{HasAcked}
use Rattle.bx_mirror_client.specs.declared.asking.Asking.{Asking}
use Rattle.bx_mirror_client.specs.declared.sending.Sending.{Sending}
use Rattle.bx_mirror_cluster.specs.Speaking.{IsOfRead, IsSendable}
use Rattle.bx_mirror_cluster.specs.Fitting.{History, IsReading, Parts, out_by}

-- other streams, and more letters
abbrev pub with_nodes : Parts → (ℕ → Streaming) → Parts
with_nodes parts nodes = record parts { nodes = nodes }

abbrev pub letters_more : StorePast → List Letter → StorePast
letters_more past letters = record past { told = record past.told { letters = past.told.letters ++ letters } }

-- A read is one that the stream had out, or its number is another than all that were drawn.
pub record IsSameRead (was a : Asking) : Type 0 where
  pub session : a.session ≡ was.session
  pub tag : a.tag ≡ was.tag
  pub device : a.device ≡ was.device
  pub place : a.place ≡ was.place
  pub sectors : a.sectors ≡ was.sectors

abbrev pub IsAskedOn : Streaming → Asking → Type 0
IsAskedOn c a = ((was : Asking) × (c.asks ≡ Some was) × IsSameRead was a) ⊎ ((a.tag ≡ 0) ⊎ (c.tag < a.tag))

-- Streams have out what they had, know what they knew, and what they have noted was answered.
pub record StreamsGoOn (parts : Parts) (history : History) (nodes : ℕ → Streaming) : Type 0 where
  pub out : (m : ℕ) → out_by (nodes m).out ≡ out_by (parts.nodes m).out
  pub rows : (m : ℕ) → (nodes m).rows ≡ (parts.nodes m).rows
  pub session : (m : ℕ) → (nodes m).session ≡ (parts.nodes m).session
  pub sequence : (m : ℕ) → (nodes m).sequence ≡ (parts.nodes m).sequence
  pub boot : (m : ℕ) → (nodes m).boot ≡ (parts.nodes m).boot
  pub tag : (m : ℕ) → (parts.nodes m).tag ≤ (nodes m).tag
  pub sendable : (m : ℕ) (s : Sending) → (nodes m).out ≡ Some s → IsSendable parts.made s
  pub askable : (m : ℕ) (a : Asking) → (nodes m).asks ≡ Some a → FitsRead a
  pub holding : (m : ℕ) (s : Sending) → (nodes m).out ≡ Some s → (nodes m).session ≡ Some s.session
  pub noted : (m d epoch : ℕ) (b : Bool) (s : Sending) → d < parts.made.devices → (nodes m).out ≡ Some s → HasAcked s.acks (member_at d b) epoch → Among (history.wrotes d) (record { by = b; session = s.session; epoch = epoch; sequence = s.sequence })
  pub asking : (m : ℕ) (a : Asking) → (nodes m).asks ≡ Some a → ((nodes m).session ≡ Some a.session) × (a.tag ≤ (nodes m).tag)
  pub asked : (m : ℕ) (a : Asking) → (nodes m).asks ≡ Some a → IsAskedOn (parts.nodes m) a

-- Letters are reads, each one that its node has out and for which a number was left.
pub record AreReads (nodes : ℕ → Streaming) (letters : List Letter) : Type 0 where
  pub kinds : (letter : Letter) → Contains letters letter → letter.kind ≡ 20
  pub each : (m : ℕ) (r : ReadBody) → IsReading letters m r → (1 ≤ r.tag) × ((a : Asking) × ((nodes m).asks ≡ Some a) × IsOfRead a r)
