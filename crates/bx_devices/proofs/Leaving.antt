-- What an event leaves of streams, of what is owed and needed, and of disks.
use Rattle.std.proofs.Common.{◌≡◌, ◌≢◌, inl, inr, ⊎_elim, ℕ, ◌+◌, ◌-◌, ◌*◌, ◌<◌, ◌≤◌, List, Option, Some, None, Result, refl, sym, ◌∙◌, ap, subst, arith}
use Rattle.std.proofs.lemmas.Bool.{cases_eq, cases_lt}
use Rattle.bx_base.specs.declared.names.Actor.{Actor}
use Rattle.bx_base.specs.declared.names.Actor.TheVariants.{Node, Replica, Server, Member}
use Rattle.bx_disk.specs.Disks.{Disks, Stays}
use Rattle.bx_disk.specs.declared.fault.RackError.{RackError}
use Rattle.bx_disk.specs.declared.rack.Rack as racks
use Rattle.bx_facts.specs.Chains.{session_of}
use Rattle.bx_facts.specs.Disks.{IsKept, NeedsNoMore, OnlyDiskOf, SameLabels, SameReplicas}
use Rattle.bx_facts.specs.Machines.{OnlyAt}
use Rattle.bx_facts.specs.Writes.{Made, store_room}
use Rattle.bx_facts.specs.declared.input.Input.{Input}
use Rattle.bx_global.specs.declared.change.Change.{Change}
use Rattle.bx_global.specs.declared.state.GlobalState.{GlobalState}
use Rattle.bx_post.specs.declared.packets.Letter.{Letter}
use Rattle.bx_mirror_client.specs.Asks.{asked_in}
use Rattle.bx_mirror_client.specs.Streams.{IsOwnRead, Streaming, sent_in}
use Rattle.bx_mirror_client.proofs.Leaving as leaving
use Rattle.bx_mirror_member.specs.Standing.{MemberView}
use Rattle.bx_devices.specs.Disks.{DisksAt, DisksIn, LabelsAt}
use Rattle.bx_devices.specs.Events.{StreamGoes, TakesAt}
use Rattle.bx_devices.specs.Machines.{DeviceMachines, IsShape, OnlyMachine, StaysAway, due_at, due_in, need_in, needs_of, slot_needs, slot_of, stream_of}
use Rattle.bx_devices.specs.Needs.{needs_behind, needs_here, needs_none, slot_in, slot_out}

-- ---- streams

node_goes : (Told : Type 0) (n : ℕ) (known : GlobalState) (input : Input) (o new : DeviceMachines) (change : Option Change) (before after : List Letter) (old now : Disks) → IsOwnRead (stream_of o n).session (stream_of o n).asks
    → TakesAt Told (Node n) known input o new change before after old now → StreamGoes (stream_of o n) (stream_of new n)
node_goes Told n known input o new change before after old now own is =
    let leaves = leaving.leaves (stream_of o n) known input (stream_of new n) before after is.takes in
    let out = ⊎_elim (λ gone. inl (ap sent_in gone)) (λ same. inr same) leaves.out in
    elim (leaves.own_read own) [
      | inl same ↦ record { out = out; asks = inr same.1; new_session = λ other. absurd (other same.0) }
      | inr gone ↦ record { out = out; asks = inl gone.0; new_session = λ other. ap asked_in gone.1 }
    ]

same_goes : (c new : Streaming) → new ≡ c → StreamGoes c new
same_goes c new e = record { out = inr (ap (λ (k : Streaming). sent_in k.out) e); asks = inr (ap (λ (k : Streaming). asked_in k.asks) e); new_session = λ other. absurd (other (ap (λ (k : Streaming). k.session) e)) }

pub event_goes : (Told : Type 0) (at : Actor) (known : GlobalState) (input : Input) (o new : DeviceMachines) (change : Option Change) (before after : List Letter) (old now : Disks) (node : ℕ) → ((n : ℕ) → at ≡ Node n → IsOwnRead (stream_of o n).session (stream_of o n).asks)
    → TakesAt Told at known input o new change before after old now → OnlyMachine at o new → StreamGoes (stream_of o node) (stream_of new node)
event_goes Told (Node n) known input o new change before after old now node own is others = elim (cases_eq node n) [
  | inl here ↦ subst (λ (k : ℕ). StreamGoes (stream_of o k) (stream_of new k)) (sym here) (node_goes Told n known input o new change before after old now (own n refl) is)
  | inr apart ↦ same_goes (stream_of o node) (stream_of new node) (others.streams node (λ same. apart cc))
]
event_goes Told (Replica n) known input o new change before after old now node own is others = same_goes (stream_of o node) (stream_of new node) (others.streams node (λ same. absurd cc))
event_goes Told (Server n) known input o new change before after old now node own is others = same_goes (stream_of o node) (stream_of new node) (others.streams node (λ same. absurd cc))
event_goes Told (Member n) known input o new change before after old now node own is others = same_goes (stream_of o node) (stream_of new node) (others.streams node (λ same. absurd cc))

pub event_session : (Told : Type 0) (at : Actor) (n : ℕ) (known : GlobalState) (input : Input) (o new : DeviceMachines) (change : Option Change) (before after : List Letter) (old now : Disks) → at ≡ Node n → TakesAt Told at known input o new change before after old now
    → (stream_of new n).session ≡ session_of known (stream_of o n).node (stream_of o n).boot
event_session Told at n known input o new change before after old now here is = (leaving.leaves (stream_of o n) known input (stream_of new n) before after (subst (λ (who : Actor). TakesAt Told who known input o new change before after old now) here is).takes).session

-- ---- what is owed

pub owes_only : (who : Actor) (o new : DeviceMachines) → OnlyMachine who o new → OnlyAt who (due_at o) (due_at new)
owes_only who o new only = record { others = λ other apart. by other apart }
  where
    by : (other : Actor) → other ≢ who → due_at new other ≡ due_at o other
    by (Node n) apart = refl
    by (Replica n) apart = refl
    by (Server n) apart = refl
    by (Member n) apart = ap due_in (only.members n (λ same. apart (sym same)))

-- ---- what is needed

need_less : (room then : ℕ) (slot new : Option MemberView) → then ≡ room → (slot ≡ None → new ≡ None) → need_in then new ≤ need_in room slot
need_less room then None new same away = subst (λ (one : Option MemberView). need_in then one ≤ 0) (sym (away refl)) (omega arith)
need_less room then (Some m) None same away = omega arith
need_less room then (Some m) (Some k) same away = omega (arith, same)

slot_less : (o new : DeviceMachines) (n : ℕ) → new.made ≡ o.made → StaysAway o new → slot_needs new n ≤ slot_needs o n
slot_less o new n made stays = elim (cases_lt n (2 * o.made.devices)) [
  | inl less ↦ subst (λ (k : ℕ). k ≤ slot_needs o n) (sym (slot_in new n (subst (λ (m : Made). n < 2 * m.devices) (sym made) less)))
      (subst (λ (k : ℕ). need_in (store_room new.made) (slot_of new n) ≤ k) (sym (slot_in o n less)) (need_less (store_room o.made) (store_room new.made) (slot_of o n) (slot_of new n) (ap store_room made) (stays.away n)))
  | inr far ↦ subst (λ (k : ℕ). k ≤ slot_needs o n) (sym (slot_out new n (subst (λ (m : Made). 2 * m.devices ≤ n) (sym made) far))) (omega arith)
]

pub needs_no_more : (o new : DeviceMachines) → new.made ≡ o.made → StaysAway o new → NeedsNoMore (needs_of o) (needs_of new)
needs_no_more o new made stays = record {
  each = λ disk. elim (cases_lt disk 3) [
    | inl less ↦ subst (λ (k : ℕ). k ≤ needs_of o disk) (sym (needs_none new disk less)) (omega arith)
    | inr far ↦ subst (λ (k : ℕ). k ≤ needs_of o disk) (sym (needs_behind new disk far)) (subst (λ (k : ℕ). slot_needs new (disk - 3) ≤ k) (sym (needs_behind o disk far)) (slot_less o new (disk - 3) made stays))
  ];
}

-- one that isn't up needs nothing
pub needs_away : (o : DeviceMachines) (n : ℕ) → slot_of o n ≡ None → needs_of o (3 + n) ≡ 0
needs_away o n none = needs_here o n ∙ elim (cases_lt n (2 * o.made.devices)) [
  | inl less ↦ slot_in o n less ∙ ap (λ (slot : Option MemberView). need_in (store_room o.made) slot) none
  | inr far ↦ slot_out o n far
]

-- ---- disks

same_disks : (old now : Disks) (d s : ℕ) → now ≡ old → Stays old now d s
same_disks old now d s e = record { reads = ap (λ (k : Disks). k.reads d s) e; held = ap (λ (k : Disks). k.held d s) e; unsure = ap (λ (k : Disks). k.unsure d s) e }

module _ {R : Type 0} (rack : racks.Ghosts R) (old new : R) (tells : rack.tells old) where
  same_rack : (d s : ℕ) → new ≡ old → Stays (rack.state old) (rack.state new) d s
  same_rack d s e = same_disks (rack.state old) (rack.state new) d s (ap (λ (r : R). rack.state r) e)

  slot_disk : (n : ℕ) (known : GlobalState) (input : Input) (o : DeviceMachines) (slot : Option MemberView) → IsShape o → slot_of o n ≡ slot → DisksIn rack old new known input slot → (d s : ℕ) → d ≢ 3 + n → Stays (rack.state old) (rack.state new) d s
  slot_disk n known input o None shape is works d s apart = same_rack d s works
  slot_disk n known input o (Some m) shape is works d s apart =
      let own = shape.each n m is in
      (works.elsewhere tells).others d s (λ here. apart (here ∙ ap (λ (k : ℕ). 3 + k) own.number))

  pub event_disk : (at : Actor) (known : GlobalState) (input : Input) (o : DeviceMachines) → ((n : ℕ) → at ≡ Member n → IsShape o) → DisksAt rack old new at known input o → OnlyDiskOf at (rack.state old) (rack.state new)
  event_disk (Node n) known input o shape works = record { others = λ d s apart. same_rack d s works }
  event_disk (Replica n) known input o shape works = record { others = λ d s apart. same_rack d s works }
  event_disk (Server n) known input o shape works = record { others = λ d s apart. same_rack d s works }
  event_disk (Member n) known input o shape works = record { others = λ d s apart. slot_disk n known input o (slot_of o n) (shape n refl) refl works d s (λ here. apart (ap (λ (k : ℕ). Some k) (sym here))) }

  pub label_disk : {A : Type 0} (made : Made) (who : Actor) (result : Result A RackError) → LabelsAt rack old new made who result → OnlyDiskOf who (rack.state old) (rack.state new)
  label_disk made (Node n) result works = record { others = λ d s apart. same_rack d s works }
  label_disk made (Replica n) result works = record { others = λ d s apart. same_rack d s works }
  label_disk made (Server n) result works = record { others = λ d s apart. same_rack d s works }
  label_disk made (Member n) result works = record { others = λ d s apart. (works.keeps tells).others d s (λ here. apart (ap (λ (k : ℕ). Some k) (sym here))) }

  -- the disks of replicas are kept
  kept : (d s : ℕ) → Stays (rack.state old) (rack.state new) d s → IsKept (rack.state old) (rack.state new) d s
  kept d s stays = record { reads = stays.reads; sure = λ sure. stays.unsure ∙ sure }

  replica_kept : (at : Actor) (known : GlobalState) (input : Input) (o : DeviceMachines) → ((n : ℕ) → at ≡ Member n → IsShape o) → DisksAt rack old new at known input o → (d s : ℕ) → d < 3 → IsKept (rack.state old) (rack.state new) d s
  replica_kept (Node n) known input o shape works d s less = kept d s (same_rack d s works)
  replica_kept (Replica n) known input o shape works d s less = kept d s (same_rack d s works)
  replica_kept (Server n) known input o shape works d s less = kept d s (same_rack d s works)
  replica_kept (Member n) known input o shape works d s less = kept d s (slot_disk n known input o (slot_of o n) (shape n refl) refl works d s (λ here. absurd (omega (arith, here, less))))

  pub replicas_kept : (at : Actor) (known : GlobalState) (input : Input) (o : DeviceMachines) → ((n : ℕ) → at ≡ Member n → IsShape o) → DisksAt rack old new at known input o → SameReplicas (rack.state old) (rack.state new) × SameLabels (rack.state old) (rack.state new)
  replicas_kept at known input o shape works = (record { each = λ d s less some. replica_kept at known input o shape works d s less }, record { each = λ d less. replica_kept at known input o shape works d 0 less })
