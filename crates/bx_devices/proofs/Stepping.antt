-- What an event makes of a machine, and what it hands back, each by itself.
use Rattle.std.proofs.Common.{◌≡◌, inl, inr, ℕ, ◌+◌, Bool, true, false, List, Option, Some, None, IfSome, sym, subst}
use Rattle.std.specs.Prelude.{◌==◌, ◌&&◌, not, if◌then◌else◌}
use Rattle.bx_base.specs.declared.names.Actor.{Actor}
use Rattle.bx_base.specs.declared.names.Actor.TheVariants.{Node, Replica, Server, Member}
use Rattle.bx_disk.specs.Disks.{Disks}
use Rattle.bx_facts.specs.Chains.{IsStoresKind}
use Rattle.bx_facts.specs.Writes.{only_other}
use Rattle.bx_facts.specs.declared.input.Input.{Input}
use Rattle.bx_facts.specs.declared.input.Input.TheVariants.{Packet, Tick, Synced}
use Rattle.bx_global.specs.declared.change.Change.{Change}
use Rattle.bx_global.specs.declared.change.Change.TheVariants.{Renew, Take, Open, Expire, Claim, Close, Shift}
use Rattle.bx_global.specs.declared.state.GlobalState.{GlobalState}
use Rattle.bx_post.specs.declared.packets.Letter.{Letter}
use Rattle.bx_rows.specs.Modes.{both}
use Rattle.bx_rows.specs.declared.device.DeviceRow.{DeviceRow}
use Rattle.bx_mirror_client.specs.Events as stream_events
use Rattle.bx_mirror_client.specs.Streams as streams
use Rattle.bx_mirror_client.specs.Streams.{Streaming}
use Rattle.bx_mirror_packets.specs.declared.message.CopiedBody.{CopiedBody}
use Rattle.bx_mirror_packets.specs.declared.message.DeviceMessage.{DeviceMessage}
use Rattle.bx_mirror_packets.specs.declared.message.DeviceMessage.TheVariants.{Write, Wrote, Read, Data, Copy, Copied, Alive}
use Rattle.bx_mirror_packets.specs.declared.message.WriteBody.{WriteBody}
use Rattle.bx_mirror_member.specs.declared.copies.Progress.{Progress}
use Rattle.bx_mirror_member.specs.declared.copies.Progress.TheVariants.{Next, Whole}
use Rattle.bx_mirror_member.specs.declared.judging.Judgement.{Judgement}
use Rattle.bx_mirror_member.specs.declared.judging.Judgement.TheVariants.{Taken, Repeated, Refused}
use Rattle.bx_mirror_member.specs.Standing.{MemberView, copy_from, is_named, is_second, learned, piece_at}
use Rattle.bx_mirror_member.specs.Steps.{IsProgress, is_last_piece, is_silent, may_alone, only, progress_in, proposes_in, shift}
use Rattle.bx_mirror_server.specs.Serving.{DoesWrite, OfInput, OfMessage, OfSaid, change_of}
use Rattle.bx_devices.specs.Events.{SlotTakes, TakesAt}
use Rattle.bx_devices.specs.Machines.{DeviceMachines, OnlyMachine, slot_of, stream_of}
use Rattle.bx_devices.specs.Steps.{Hands, HandsIn, HandsOf, IsStep, Judged, MachineSteps, MemberHears, MemberTakes, SlotHands, SlotSteps, StreamHears}

-- ---- members

judged : (Told : Type 0) (judgement : Judgement) (from : Actor) (w : WriteBody) (m new : MemberView) (before after : List Letter) (old now : Disks) → DoesWrite Told judgement from w m new before after old now → Judged judgement from w m new
judged Told Taken from w m new before after old now is = is.member
judged Told Repeated from w m new before after old now is = record { at_once = λ due. (is.repeats.at_once due).0; once = is.repeats.once; owes = is.repeats.owes }
judged Told Refused from w m new before after old now is = is.member

message_steps : (Told : Type 0) (reading : ℕ) (from : Actor) (message : DeviceMessage) (m new : MemberView) (change : Option Change) (before after : List Letter) (old now : Disks) → OfMessage Told reading from message m new change before after old now → MemberHears reading from (Some message) m new
message_steps Told reading from (Write w) m new change before after old now is = record { judgement = is.0.judgement; judges = is.0.judged; is = judged Told is.0.judgement from w m new before after old now is.0.does }
message_steps Told reading from (Wrote w) m new change before after old now is = is.0.member
message_steps Told reading from (Read r) m new change before after old now is = elim is.0 [ inl here ↦ here.1.member | inr not_here ↦ not_here.1.member ]
message_steps Told reading from (Data d) m new change before after old now is = is.0.member
message_steps Told reading from (Copy c) m new change before after old now is = elim is.0 [ inl here ↦ inl (here.0, here.1.member) | inr not_here ↦ inr (not_here.0, not_here.1) ]
message_steps Told reading from (Copied c) m new change before after old now is = record { progress = is.progress; is = is.is; member = is.member }
message_steps Told reading from Alive m new change before after old now is = is.0.member

said_steps : (Told : Type 0) (reading : ℕ) (from : Actor) (said : Option DeviceMessage) (m new : MemberView) (change : Option Change) (before after : List Letter) (old now : Disks) → OfSaid Told reading from said m new change before after old now → MemberHears reading from said m new
said_steps Told reading from None m new change before after old now is = is.0.member
said_steps Told reading from (Some message) m new change before after old now is = message_steps Told reading from message m new change before after old now is

member_steps : (Told : Type 0) (input : Input) (m new : MemberView) (change : Option Change) (before after : List Letter) (old now : Disks) → OfInput Told input m new change before after old now → MemberTakes input m new
member_steps Told (Packet packet reading) m new change before after old now is = record { said = is.said; says = is.says; hears = said_steps Told reading packet.now.from is.said m new change before after old now is.does }
member_steps Told (Tick reading) m new change before after old now is = is.member
member_steps Told Synced m new change before after old now is = is.member

slot_steps : (Told : Type 0) (n : ℕ) (slot : Option MemberView) (known : GlobalState) (input : Input) (new : DeviceMachines) (change : Option Change) (before after : List Letter) (old now : Disks) → SlotTakes Told n slot known input new change before after old now → SlotSteps slot known input (slot_of new n)
slot_steps Told n None known input new change before after old now is = is.is
slot_steps Told n (Some m) known input new change before after old now is =
    record { member = is.member; is = is.is; takes = member_steps Told input (learned known m) is.member change is.does.between after old now is.does.does }

-- ---- streams

stream_steps : (c : Streaming) (input : Input) (new : Streaming) (before after : List Letter) → stream_events.TakesIn c input new before after → StreamHears c input new
stream_steps c (Packet packet reading) new before after is = is.0
stream_steps c (Tick reading) new before after is = is.0
stream_steps c Synced new before after is = is.0

-- ---- all of it

machine_steps : (Told : Type 0) (at : Actor) (known : GlobalState) (input : Input) (o new : DeviceMachines) (change : Option Change) (before after : List Letter) (old now : Disks) → TakesAt Told at known input o new change before after old now → MachineSteps at known input o new
machine_steps Told (Node n) known input o new change before after old now is = stream_steps (streams.learned known (stream_of o n)) input (stream_of new n) _ after is.takes
machine_steps Told (Replica n) known input o new change before after old now is = is.machines
machine_steps Told (Server n) known input o new change before after old now is = is.machines
machine_steps Told (Member n) known input o new change before after old now is = slot_steps Told n (slot_of o n) known input new change before after old now is

pub event_steps : (Told : Type 0) (at : Actor) (known : GlobalState) (input : Input) (o new : DeviceMachines) (change : Option Change) (before after : List Letter) (old now : Disks) → TakesAt Told at known input o new change before after old now → OnlyMachine at o new → IsStep at known input o new
event_steps Told at known input o new change before after old now is others = record { steps = machine_steps Told at known input o new change before after old now is; only = others }

-- ---- what is handed back

message_hands : (Told : Type 0) (reading : ℕ) (from : Actor) (message : DeviceMessage) (m new : MemberView) (change : Option Change) (before after : List Letter) (old now : Disks) → OfMessage Told reading from message m new change before after old now → HandsOf (Some message) m change
message_hands Told reading from (Write w) m new change before after old now is = is.1
message_hands Told reading from (Wrote w) m new change before after old now is = is.1
message_hands Told reading from (Read r) m new change before after old now is = is.1
message_hands Told reading from (Data d) m new change before after old now is = is.1
message_hands Told reading from (Copy c) m new change before after old now is = is.2
message_hands Told reading from (Copied c) m new change before after old now is = (is.progress, is.is, is.hands)
message_hands Told reading from Alive m new change before after old now is = is.1

said_hands : (Told : Type 0) (reading : ℕ) (from : Actor) (said : Option DeviceMessage) (m new : MemberView) (change : Option Change) (before after : List Letter) (old now : Disks) → OfSaid Told reading from said m new change before after old now → HandsOf said m change
said_hands Told reading from None m new change before after old now is = is.1
said_hands Told reading from (Some message) m new change before after old now is = message_hands Told reading from message m new change before after old now is

member_hands : (Told : Type 0) (input : Input) (m new : MemberView) (change : Option Change) (before after : List Letter) (old now : Disks) → OfInput Told input m new change before after old now → HandsIn input m change
member_hands Told (Packet packet reading) m new change before after old now is = (is.said, is.says, said_hands Told reading packet.now.from is.said m new change before after old now is.does)
member_hands Told (Tick reading) m new change before after old now is = is.hands
member_hands Told Synced m new change before after old now is = is.hands

slot_hands : (Told : Type 0) (n : ℕ) (slot : Option MemberView) (known : GlobalState) (input : Input) (new : DeviceMachines) (change : Option Change) (before after : List Letter) (old now : Disks) → SlotTakes Told n slot known input new change before after old now → SlotHands slot known input change
slot_hands Told n None known input new change before after old now is = is.hands
slot_hands Told n (Some m) known input new change before after old now is = member_hands Told input (learned known m) is.member change is.does.between after old now is.does.does

pub event_hands : (Told : Type 0) (at : Actor) (known : GlobalState) (input : Input) (o new : DeviceMachines) (change : Option Change) (before after : List Letter) (old now : Disks) → TakesAt Told at known input o new change before after old now → Hands at known input o change
event_hands Told (Node n) known input o new change before after old now is = is.hands
event_hands Told (Replica n) known input o new change before after old now is = is.hands
event_hands Told (Server n) known input o new change before after old now is = is.hands
event_hands Told (Member n) known input o new change before after old now is = slot_hands Told n (slot_of o n) known input new change before after old now is

-- ---- each change is one of a store's kind

none_kind : (change : Option Change) → change ≡ None → IfSome change IsStoresKind
none_kind change none = subst (λ (c : Option Change). IfSome c IsStoresKind) (sym none) tt

-- it is the member's shift of some row to some mode, where there is one
shift_kind : (m : MemberView) (row : DeviceRow) (mode : ℕ) → IfSome (Some (shift m row mode)) IsStoresKind
shift_kind m row mode = tt

tick_kind : (m : MemberView) (row : Option DeviceRow) (reading : ℕ) → IfSome (proposes_in m row reading) IsStoresKind
tick_kind m None reading = tt
tick_kind m (Some row) reading = by_tests (row.mode == only_other (is_second m)) (not (is_named m row)) (may_alone m row && is_silent m reading)
  where
    by_tests : (out unnamed alone : Bool) → IfSome (if out then Some (shift m row (copy_from (not (is_second m)))) else if unnamed then Some (shift m row row.mode) else if alone then Some (shift m row (only (is_second m))) else None) IsStoresKind
    by_tests true unnamed alone = tt
    by_tests false true alone = tt
    by_tests false false true = tt
    by_tests false false false = tt

whole_kind : (m : MemberView) (row : DeviceRow) → IfSome (change_of (progress_in m row)) IsStoresKind
whole_kind m row = by_test (is_last_piece m)
  where
    by_test : (last : Bool) → IfSome (change_of (if last then Whole (shift m row both) else Next (piece_at m row.epoch (m.place + 64)))) IsStoresKind
    by_test true = tt
    by_test false = tt

-- one of another kind comes from no progress
kind_stable : (change : Option Change) → ((IfSome change IsStoresKind → ⊥) → ⊥) → IfSome change IsStoresKind
kind_stable None is = tt
kind_stable (Some (Shift device epoch mode second boot)) is = tt
kind_stable (Some (Renew by boot reading)) is = absurd (is (λ no. no))
kind_stable (Some (Take by boot reading)) is = absurd (is (λ no. no))
kind_stable (Some (Open node boot reading)) is = absurd (is (λ no. no))
kind_stable (Some (Expire session term reading)) is = absurd (is (λ no. no))
kind_stable (Some (Claim gone by)) is = absurd (is (λ no. no))
kind_stable (Some (Close gone by)) is = absurd (is (λ no. no))

progress_kind : (m : MemberView) (c : CopiedBody) (progress : Progress) → IsProgress m c progress → IfSome (change_of progress) IsStoresKind
progress_kind m c progress is = kind_stable (change_of progress) (λ other. other (subst (λ (p : Progress). IfSome (change_of p) IsStoresKind)
    (sym (is.ignored (λ row noted. other (subst (λ (p : Progress). IfSome (change_of p) IsStoresKind) (sym (is.noted row noted)) (whole_kind m row))))) tt))

of_kind : (said : Option DeviceMessage) (m : MemberView) (change : Option Change) → HandsOf said m change → IfSome change IsStoresKind
of_kind None m change is = none_kind change is
of_kind (Some (Write w)) m change is = none_kind change is
of_kind (Some (Wrote w)) m change is = none_kind change is
of_kind (Some (Read r)) m change is = none_kind change is
of_kind (Some (Data d)) m change is = none_kind change is
of_kind (Some (Copy c)) m change is = none_kind change is
of_kind (Some (Copied c)) m change is = subst (λ (k : Option Change). IfSome k IsStoresKind) (sym is.2) (progress_kind m c is.0 is.1)
of_kind (Some Alive) m change is = none_kind change is

in_kind : (input : Input) (m : MemberView) (change : Option Change) → HandsIn input m change → IfSome change IsStoresKind
in_kind (Packet packet reading) m change is = of_kind is.0 m change is.2
in_kind (Tick reading) m change is = subst (λ (k : Option Change). IfSome k IsStoresKind) (sym is) (tick_kind m m.row reading)
in_kind Synced m change is = none_kind change is

slot_kind : (slot : Option MemberView) (known : GlobalState) (input : Input) (change : Option Change) → SlotHands slot known input change → IfSome change IsStoresKind
slot_kind None known input change is = none_kind change is
slot_kind (Some m) known input change is = in_kind input (learned known m) change is

pub hands_kind : (at : Actor) (known : GlobalState) (input : Input) (o : DeviceMachines) (change : Option Change) → Hands at known input o change → IfSome change IsStoresKind
hands_kind (Node n) known input o change is = none_kind change is
hands_kind (Replica n) known input o change is = none_kind change is
hands_kind (Server n) known input o change is = none_kind change is
hands_kind (Member n) known input o change is = slot_kind (slot_of o n) known input change is
