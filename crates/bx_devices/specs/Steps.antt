-- What an event makes of one machine, its letters and its disk apart, and what it hands back.
use Rattle.std.specs.Prelude.{◌≡◌, ℕ, ◌⊎◌, true, false, Contains, List, Option, Some, None}
use Rattle.bx_base.specs.declared.names.Actor.{Actor}
use Rattle.bx_base.specs.declared.names.Actor.TheVariants.{Node, Replica, Server, Member}
use Rattle.bx_facts.specs.declared.input.Input.{Input}
use Rattle.bx_facts.specs.declared.input.Input.TheVariants.{Packet, Tick, Synced}
use Rattle.bx_global.specs.declared.change.Change.{Change}
use Rattle.bx_global.specs.declared.state.GlobalState.{GlobalState}
use Rattle.bx_mirror_client.specs.Events as stream_events
use Rattle.bx_mirror_client.specs.Streams as streams
use Rattle.bx_mirror_client.specs.Streams.{Streaming}
use Rattle.bx_mirror_packets.specs.declared.message.DeviceMessage.{DeviceMessage}
use Rattle.bx_mirror_packets.specs.declared.message.DeviceMessage.TheVariants.{Write, Wrote, Read, Data, Copy, Copied, Alive}
use Rattle.bx_mirror_packets.specs.declared.message.WriteBody.{WriteBody}
use Rattle.bx_mirror_packets.specs.declared.message.CopiedBody.{CopiedBody}
use Rattle.bx_mirror_packets.specs.declared.message.CopyBody.{CopyBody}
use Rattle.bx_mirror_member.specs.declared.copies.Progress.{Progress}
use Rattle.bx_mirror_member.specs.declared.judging.Judgement.{Judgement}
use Rattle.bx_mirror_member.specs.declared.judging.Judgement.TheVariants.{Taken, Repeated, Refused}
use Rattle.bx_mirror_member.specs.Acting.{IsCopiedHere, Judges}
use Rattle.bx_mirror_member.specs.Standing.{MemberView, hearing, learned}
use Rattle.bx_mirror_member.specs.Steps.{IsProgress, copied_of, gone_on, owing, proposes_in, released, with_owing, with_piece, with_write, wrote_to}
use Rattle.bx_mirror_server.specs.Serving.{SaysOr, change_of}
use Rattle.bx_devices.specs.Machines.{DeviceMachines, OnlyMachine, slot_of, stream_of}

-- ---- streams

abbrev pub StreamHears : Streaming → Input → Streaming → Type 0
StreamHears c (Packet packet reading) new = stream_events.Hears c packet.now.from packet.now.kind packet.now.body new
StreamHears c (Tick reading) new = new ≡ c
StreamHears c Synced new = new ≡ c

-- ---- members

-- A write came before: its answer waits for the sync that is owed, once.
pub record Waits (from : Actor) (w : WriteBody) (m new : MemberView) : Type 0 where
  pub at_once : m.due ≡ false → new ≡ m
  pub once : m.due ≡ true → Contains m.owed (owing from (wrote_to w)) → new ≡ m
  pub owes : m.due ≡ true → (Contains m.owed (owing from (wrote_to w)) → ⊥) → new ≡ with_owing (owing from (wrote_to w)) m

abbrev pub Judged : Judgement → Actor → WriteBody → MemberView → MemberView → Type 0
Judged Taken from w m new = new ≡ with_write from w m
Judged Repeated from w m new = Waits from w m new
Judged Refused from w m new = new ≡ m

pub record TakesWrite (reading : ℕ) (from : Actor) (w : WriteBody) (m new : MemberView) : Type 0 where
  pub judgement : Judgement
  pub judges : Judges m reading w judgement
  pub is : Judged judgement from w m new

abbrev pub TakesPiece : Actor → CopyBody → MemberView → MemberView → Type 0
TakesPiece from c m new = (IsCopiedHere m c × (new ≡ with_piece from (copied_of c) m)) ⊎ ((IsCopiedHere m c → ⊥) × (new ≡ m))

pub record CopyGoesOn (c : CopiedBody) (m new : MemberView) : Type 0 where
  pub progress : Progress
  pub is : IsProgress m c progress
  pub member : new ≡ gone_on progress m

abbrev pub MemberHears : ℕ → Actor → Option DeviceMessage → MemberView → MemberView → Type 0
MemberHears reading from None m new = new ≡ m
MemberHears reading from (Some (Write w)) m new = TakesWrite reading from w m new
MemberHears reading from (Some (Wrote w)) m new = new ≡ m
MemberHears reading from (Some (Read r)) m new = new ≡ m
MemberHears reading from (Some (Data d)) m new = new ≡ m
MemberHears reading from (Some (Copy c)) m new = TakesPiece from c m new
MemberHears reading from (Some (Copied c)) m new = CopyGoesOn c m new
MemberHears reading from (Some Alive) m new = new ≡ hearing reading m

pub record MemberPacket (reading : ℕ) (from : Actor) (kind : ℕ) (body : List ℕ) (m new : MemberView) : Type 0 where
  pub said : Option DeviceMessage
  pub says : SaysOr kind body said
  pub hears : MemberHears reading from said m new

abbrev pub MemberTakes : Input → MemberView → MemberView → Type 0
MemberTakes (Packet packet reading) m new = MemberPacket reading packet.now.from packet.now.kind packet.now.body m new
MemberTakes (Tick reading) m new = new ≡ m
MemberTakes Synced m new = new ≡ released m

pub record MemberSteps (m : MemberView) (known : GlobalState) (input : Input) (new : Option MemberView) : Type 0 where
  pub member : MemberView
  pub is : new ≡ Some member
  pub takes : MemberTakes input (learned known m) member

abbrev pub SlotSteps : Option MemberView → GlobalState → Input → Option MemberView → Type 0
SlotSteps None known input new = new ≡ None
SlotSteps (Some m) known input new = MemberSteps m known input new

-- ---- all of it: the machine takes what comes once it knows the state, and every other one is as it was

abbrev pub MachineSteps : Actor → GlobalState → Input → DeviceMachines → DeviceMachines → Type 0
MachineSteps (Node n) known input o new = StreamHears (streams.learned known (stream_of o n)) input (stream_of new n)
MachineSteps (Replica n) known input o new = new ≡ o
MachineSteps (Server n) known input o new = new ≡ o
MachineSteps (Member n) known input o new = SlotSteps (slot_of o n) known input (slot_of new n)

pub record IsStep (at : Actor) (known : GlobalState) (input : Input) (o new : DeviceMachines) : Type 0 where
  pub steps : MachineSteps at known input o new
  pub only : OnlyMachine at o new

-- ---- the change that is handed back: a member's, at a tick, or with the answer to the last piece of a copy

abbrev pub HandsOf : Option DeviceMessage → MemberView → Option Change → Type 0
HandsOf None m change = change ≡ None
HandsOf (Some (Write w)) m change = change ≡ None
HandsOf (Some (Wrote w)) m change = change ≡ None
HandsOf (Some (Read r)) m change = change ≡ None
HandsOf (Some (Data d)) m change = change ≡ None
HandsOf (Some (Copy c)) m change = change ≡ None
HandsOf (Some (Copied c)) m change = (progress : Progress) × IsProgress m c progress × (change ≡ change_of progress)
HandsOf (Some Alive) m change = change ≡ None

abbrev pub HandsIn : Input → MemberView → Option Change → Type 0
HandsIn (Packet packet reading) m change = (said : Option DeviceMessage) × SaysOr packet.now.kind packet.now.body said × HandsOf said m change
HandsIn (Tick reading) m change = change ≡ proposes_in m m.row reading
HandsIn Synced m change = change ≡ None

abbrev pub SlotHands : Option MemberView → GlobalState → Input → Option Change → Type 0
SlotHands None known input change = change ≡ None
SlotHands (Some m) known input change = HandsIn input (learned known m) change

abbrev pub Hands : Actor → GlobalState → Input → DeviceMachines → Option Change → Type 0
Hands (Node n) known input o change = change ≡ None
Hands (Replica n) known input o change = change ≡ None
Hands (Server n) known input o change = change ≡ None
Hands (Member n) known input o change = SlotHands (slot_of o n) known input change
