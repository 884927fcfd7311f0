-- What an event of a member leaves of a store.
use Rattle.std.specs.Prelude.{◌≡◌, ℕ, ◌*◌, ◌<◌, ◌≤◌, ◌==◌, false, List, [], Some, slice_get, if◌then◌else◌}
use Rattle.bx_base.specs.declared.names.Actor.{Actor}
use Rattle.bx_base.specs.declared.names.Actor.TheVariants.{Member}
use Rattle.bx_facts.specs.Chains.{IsPlace}
use Rattle.bx_facts.specs.Writes.{StorePast, store_room}
use Rattle.bx_facts.specs.declared.input.Input.{Input}
use Rattle.bx_facts.specs.declared.input.Input.TheVariants.{Packet, Tick, Synced}
use Rattle.bx_global.specs.declared.change.Change.{Change}
use Rattle.bx_global.specs.declared.state.GlobalState.{GlobalState}
use Rattle.bx_post.specs.declared.packets.Letter.{Letter}
use Rattle.bx_rows.specs.Conditions.{Fits}
use Rattle.bx_rows.specs.declared.device.DeviceRow.{DeviceRow}
use Rattle.bx_mirror_packets.specs.DeviceMessages.{Spells}
use Rattle.bx_mirror_packets.specs.declared.message.DeviceMessage.TheVariants.{Copy, Write}
use Rattle.bx_mirror_packets.specs.declared.message.CopyBody.{CopyBody}
use Rattle.bx_mirror_packets.specs.declared.message.WriteBody.{WriteBody}
use Rattle.bx_mirror_laws.specs.Sides.{Copied, CopyLetter, Wrote}
use Rattle.bx_mirror_member.specs.Standing.{MemberView as Serving}
use Rattle.bx_mirror_cluster.specs.Fitting.{History, Parts}

-- one member is another
abbrev pub with_member : (ℕ → Serving) → ℕ → Serving → ℕ → Serving
with_member members n m k = if k == n then m else members k

abbrev pub with_serving : Parts → ℕ → Serving → Parts
with_serving parts n m = record parts { members = with_member parts.members n m }

-- the past with these letters, these changes that were handed back, and what machines know
abbrev pub served : StorePast → List Letter → List Change → (Actor → ℕ) → StorePast
served past letters handed knew = record past { told = record past.told { letters = letters; handed = handed; knew = knew } }

-- what was sent of a device, its writes apart, and what sources of copies had
pub record DeviceHistory : Type 0 where
  pub wrotes : List Wrote
  pub copies : List CopyLetter
  pub copieds : List Copied
  pub source : ℕ → ℕ → List ℕ

abbrev pub history_of : History → ℕ → DeviceHistory
history_of h d = record { wrotes = h.wrotes d; copies = h.copies d; copieds = h.copieds d; source = h.source d }

abbrev pub with_histories : History → (ℕ → DeviceHistory) → History
with_histories h all = record {
  actual = h.actual;
  writes = h.writes;
  wrotes = λ k. (all k).wrotes;
  copies = λ k. (all k).copies;
  copieds = λ k. (all k).copieds;
  source = λ k. (all k).source;
}

abbrev pub at_device : History → ℕ → DeviceHistory → ℕ → DeviceHistory
at_device h d new k = if k == d then new else history_of h k

-- what comes is for this machine
abbrev pub IsFor : Actor → Input → Type 0
IsFor at (Packet packet reading) = packet.now.to ≡ at
IsFor at (Tick reading) = Unit {0}
IsFor at Synced = Unit {0}

-- a write comes, with this reading
abbrev pub IsWriteIn : Input → ℕ → WriteBody → Type 0
IsWriteIn (Packet packet r) reading w = (r ≡ reading) × Spells (Write w) packet.now.kind packet.now.body
IsWriteIn (Tick r) reading w = ⊥
IsWriteIn Synced reading w = ⊥

-- or a piece of a copy
abbrev pub IsPieceIn : Input → CopyBody → Type 0
IsPieceIn (Packet packet r) c = Spells (Copy c) packet.now.kind packet.now.body
IsPieceIn (Tick r) c = ⊥
IsPieceIn Synced c = ⊥

-- What a member is handed: it is up, the state is one of the chain, and no older than what it knew.
pub record MayServe (parts : Parts) (past : StorePast) (n : ℕ) (known : GlobalState) : Type 0 where
  pub inside : n < 2 * parts.made.devices
  pub itself : (parts.members n).number ≡ n
  pub made : (parts.members n).made ≡ parts.made
  pub up : past.told.down (Member n) ≡ false
  pub place : IsPlace past.told.chain known
  pub rises : past.told.knew (Member n) ≤ known.index
  -- each row has one of the modes, and numbers of the volume fit a packet
  pub modes : (d : ℕ) (row : DeviceRow) → slice_get known.devices d ≡ Some row → row.mode < 5
  pub few : parts.made.devices ≤ 4
  pub room : Fits (store_room parts.made)
  -- its current piece lies in the device, and where no sync is owed nothing is
  pub below : (parts.members n).place < store_room parts.made
  pub quiet : (parts.members n).due ≡ false → (parts.members n).owed ≡ []

-- what a source has once one begins a copy in this epoch: what it reads
abbrev pub source_with : ℕ → (ℕ → List ℕ) → (ℕ → ℕ → List ℕ) → ℕ → ℕ → List ℕ
source_with epoch reads source e x = if e == epoch then reads x else source e x
