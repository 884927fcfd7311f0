-- What a call leaves of other machines, and of what a store tells.
use Rattle.std.proofs.Common.{◌≡◌, ◌≢◌, ◌⊎◌, inl, inr, ℕ, ◌+◌, Option, Some, None, refl, sym, ◌∙◌, ap, subst}
use Rattle.std.specs.Prelude.{IsSome, is_some, not, true}
use Rattle.std.proofs.lemmas.Bool.{cases_eq}
use Rattle.bx_base.specs.declared.names.Actor.{Actor}
use Rattle.bx_base.specs.declared.names.Actor.TheVariants.{Node, Replica, Server, Member}
use Rattle.bx_facts.specs.Disks.{NeedsNoMore}
use Rattle.bx_facts.specs.Machines.{IsMachine}
use Rattle.bx_mirror_client.specs.Asks.{answer_in, asked_in}
use Rattle.bx_global.specs.declared.state.GlobalState.{GlobalState}
use Rattle.bx_mirror_client.specs.Streams.{Streaming, answered, asking, sending, sent_in}
use Rattle.bx_mirror_client.specs.declared.asking.Asking.{Asking}
use Rattle.bx_mirror_client.specs.declared.sending.Sending.{Sending}
use Rattle.bx_records.specs.Runs.{KindAndRuns}
use Rattle.bx_devices.proofs.Leaving.{needs_away, needs_no_more}
use Rattle.bx_devices.specs.Events.{FaultsAt, StreamGoes, RestartsAt, StopsAt}
use Rattle.bx_devices.specs.Fitting.{answer_of, asked_of, out_of, own_of}
use Rattle.bx_devices.specs.Machines.{DeviceMachines, OnlyMachine, StaysAway, due_at, due_in, needs_of, slot_of, stream_of}

-- a node's stream that stays
pub same_stream : (o new : DeviceMachines) (node : ℕ) → stream_of new node ≡ stream_of o node → (own_of new node ≡ own_of o node) × (out_of new node ≡ out_of o node) × (asked_of new node ≡ asked_of o node) × (answer_of new node ≡ answer_of o node)
same_stream o new node e = (ap (λ (c : Streaming). c.session) e, ap (λ (c : Streaming). sent_in c.out) e, ap (λ (c : Streaming). asked_in c.asks) e, ap (λ (c : Streaming). answer_in c.asks) e)

pub other_node : (who : Actor) (o new : DeviceMachines) (node : ℕ) → OnlyMachine who o new → who ≢ Node node → (own_of new node ≡ own_of o node) × (out_of new node ≡ out_of o node) × (asked_of new node ≡ asked_of o node) × (answer_of new node ≡ answer_of o node)
other_node who o new node only apart = same_stream o new node (only.streams node apart)

-- no member comes up where only a node's stream changes
pub node_away : (n : ℕ) (o new : DeviceMachines) → OnlyMachine (Node n) o new → NeedsNoMore (needs_of o) (needs_of new)
node_away n o new only = needs_no_more o new only.made (record { away = λ k none. only.members k (λ same. absurd cc) ∙ none })

pub node_owes : (n : ℕ) (o new : DeviceMachines) (other : Actor) → OnlyMachine (Node n) o new → due_at new other ≡ due_at o other
node_owes n o new (Node k) only = refl
node_owes n o new (Replica k) only = refl
node_owes n o new (Server k) only = refl
node_owes n o new (Member k) only = ap due_in (only.members k (λ same. absurd cc))

-- a node's session is there
pub own_there : (o : DeviceMachines) (node : ℕ) → IsSome (own_of o node) → (session : ℕ) × (own_of o node ≡ Some session)
own_there o node some = by (own_of o node) refl some
  where
    by : (own : Option ℕ) → own_of o node ≡ own → IsSome own → (session : ℕ) × (own_of o node ≡ Some session)
    by None e none = absurd cc
    by (Some session) e is = (session, e)

-- ---- a write, a read, and an answer

apart_node : (n other : ℕ) → other ≢ n → Node n ≢ Node other
apart_node n other apart same = apart (let e : n ≡ other = cc in sym e)

pub sent_is : (o new : DeviceMachines) (node session until : ℕ) (runs : KindAndRuns) → own_of o node ≡ Some session → stream_of new node ≡ sending (stream_of o node).session runs until (stream_of o node)
    → out_of new node ≡ Some (record { session = session; until = until; runs = runs.1 })
sent_is o new node session until runs own writes = ap (λ (c : Streaming). sent_in c.out) (writes ∙ ap (λ (s : Option ℕ). sending s runs until (stream_of o node)) own)

pub asked_is : (o new : DeviceMachines) (node session device place sectors : ℕ) → own_of o node ≡ Some session → stream_of new node ≡ asking (stream_of o node).session device place sectors (stream_of o node)
    → (asked_of new node ≡ Some (record { device = device; place = place; count = sectors })) × (answer_of new node ≡ None)
asked_is o new node session device place sectors own reads =
    let e = reads ∙ ap (λ (s : Option ℕ). asking s device place sectors (stream_of o node)) own in
    (ap (λ (c : Streaming). asked_in c.asks) e, ap (λ (c : Streaming). answer_in c.asks) e)

pub other_out : (n other : ℕ) (o new : DeviceMachines) → OnlyMachine (Node n) o new → other ≢ n → out_of new other ≡ out_of o other
other_out n other o new only apart = ap (λ (c : Streaming). sent_in c.out) (only.streams other (apart_node n other apart))

pub other_read : (n other : ℕ) (o new : DeviceMachines) → OnlyMachine (Node n) o new → other ≢ n → (asked_of new other ≡ asked_of o other) × (answer_of new other ≡ answer_of o other)
other_read n other o new only apart = let e = only.streams other (apart_node n other apart) in (ap (λ (c : Streaming). asked_in c.asks) e, ap (λ (c : Streaming). answer_in c.asks) e)

pub write_stays : (n other : ℕ) (o new : DeviceMachines) → OnlyMachine (Node n) o new → ((stream_of new n).session ≡ (stream_of o n).session) × ((stream_of new n).asks ≡ (stream_of o n).asks)
    → (own_of new other ≡ own_of o other) × (asked_of new other ≡ asked_of o other) × (answer_of new other ≡ answer_of o other)
write_stays n other o new only same = elim (cases_eq other n) [
  | inl e ↦ subst (λ (k : ℕ). (own_of new k ≡ own_of o k) × (asked_of new k ≡ asked_of o k) × (answer_of new k ≡ answer_of o k)) (sym e) (same.0, ap asked_in same.1, ap answer_in same.1)
  | inr apart ↦ (let e = only.streams other (apart_node n other apart) in (ap (λ (c : Streaming). c.session) e, ap (λ (c : Streaming). asked_in c.asks) e, ap (λ (c : Streaming). answer_in c.asks) e))
]

pub read_stays : (n other : ℕ) (o new : DeviceMachines) → OnlyMachine (Node n) o new → ((stream_of new n).session ≡ (stream_of o n).session) × ((stream_of new n).out ≡ (stream_of o n).out)
    → (own_of new other ≡ own_of o other) × (out_of new other ≡ out_of o other)
read_stays n other o new only same = elim (cases_eq other n) [
  | inl e ↦ subst (λ (k : ℕ). (own_of new k ≡ own_of o k) × (out_of new k ≡ out_of o k)) (sym e) (same.0, ap sent_in same.1)
  | inr apart ↦ (let e = only.streams other (apart_node n other apart) in (ap (λ (c : Streaming). c.session) e, ap (λ (c : Streaming). sent_in c.out) e))
]

pub answered_stays : (n other : ℕ) (o new : DeviceMachines) → OnlyMachine (Node n) o new → stream_of new n ≡ answered (stream_of o n) → (own_of new other ≡ own_of o other) × (out_of new other ≡ out_of o other)
answered_stays n other o new only left = read_stays n other o new only (ap (λ (c : Streaming). c.session) left, ap (λ (c : Streaming). c.out) left)

-- what is out is told
pub reading_is : (asks : Option Asking) → is_some asks ≡ is_some (asked_in asks)
reading_is None = refl
reading_is (Some a) = refl

pub done_none : (out : Option Sending) → not (is_some out) ≡ true → sent_in out ≡ None
done_none None e = refl
done_none (Some s) e = absurd cc

pub none_done : (out : Option Sending) → sent_in out ≡ None → not (is_some out) ≡ true
none_done None e = refl
none_done (Some s) e = absurd cc

-- ---- an event

pub event_out : (o new : DeviceMachines) (node : ℕ) → StreamGoes (stream_of o node) (stream_of new node) → (out_of new node ≡ None) ⊎ (out_of new node ≡ out_of o node)
event_out o new node goes = goes.out

pub event_others : (at : Actor) (o new : DeviceMachines) (node : ℕ) → OnlyMachine at o new → at ≢ Node node → own_of new node ≡ own_of o node
event_others at o new node only apart = ap (λ (c : Streaming). c.session) (only.streams node apart)

pub event_apart : (at : Actor) (o new : DeviceMachines) (node : ℕ) → OnlyMachine at o new → at ≢ Node node → (out_of new node ≡ out_of o node) × (asked_of new node ≡ asked_of o node) × (answer_of new node ≡ answer_of o node)
event_apart at o new node only apart = let e = only.streams node apart in (ap (λ (c : Streaming). sent_in c.out) e, ap (λ (c : Streaming). asked_in c.asks) e, ap (λ (c : Streaming). answer_in c.asks) e)

-- where a disk failed no stream changed
pub fault_streams : (at : Actor) (known : GlobalState) (o new : DeviceMachines) (node : ℕ) → FaultsAt at known o new → OnlyMachine at o new → stream_of new node ≡ stream_of o node
fault_streams (Node n) known o new node faulted only = absurd faulted
fault_streams (Replica n) known o new node faulted only = absurd faulted
fault_streams (Server n) known o new node faulted only = absurd faulted
fault_streams (Member n) known o new node faulted only = only.streams node (λ same. absurd cc)

-- and no node took an input
pub fault_node : (at : Actor) (known : GlobalState) (o new : DeviceMachines) (node : ℕ) → at ≡ Node node → FaultsAt at known o new → ⊥
fault_node at known o new node is faulted = subst (λ (a : Actor). FaultsAt a known o new) is faulted

-- ---- a machine stops

stops_away : (who : Actor) (o new : DeviceMachines) → StopsAt who o new → OnlyMachine who o new → StaysAway o new
stops_away (Node n) o new stops only = record { away = λ k none. only.members k (λ same. absurd cc) ∙ none }
stops_away (Replica n) o new stops only = record { away = λ k none. only.members k (λ same. absurd cc) ∙ none }
stops_away (Server n) o new stops only = record { away = λ k none. only.members k (λ same. absurd cc) ∙ none }
stops_away (Member n) o new stops only = record {
  away = λ k none. elim (cases_eq k n) [
    | inl e ↦ subst (λ (j : ℕ). slot_of new j ≡ None) (sym e) stops
    | inr apart ↦ only.members k (λ same. apart (let e : n ≡ k = cc in sym e)) ∙ none
  ];
}

pub stops_needs : (who : Actor) (o new : DeviceMachines) → StopsAt who o new → OnlyMachine who o new → NeedsNoMore (needs_of o) (needs_of new)
stops_needs who o new stops only = needs_no_more o new only.made (stops_away who o new stops only)

pub stops_node : (who : Actor) (o new : DeviceMachines) (node : ℕ) → who ≡ Node node → StopsAt who o new → (own_of new node ≡ None) × (out_of new node ≡ None) × (asked_of new node ≡ None)
stops_node who o new node is stops =
    let e : StopsAt (Node node) o new = subst (λ (a : Actor). StopsAt a o new) is stops in
    (ap (λ (c : Streaming). c.session) e, ap (λ (c : Streaming). sent_in c.out) e, ap (λ (c : Streaming). asked_in c.asks) e)

pub stops_member : (who : Actor) (o new : DeviceMachines) (n : ℕ) → who ≡ Member n → StopsAt who o new → needs_of new (3 + n) ≡ 0
stops_member who o new n is stops = needs_away new n (subst (λ (a : Actor). StopsAt a o new) is stops)

-- ---- a machine starts again

pub starts_node : (who : Actor) (o new : DeviceMachines) (node boot reading : ℕ) → who ≡ Node node → IsMachine o.made.nodes who → RestartsAt who boot reading o new → (own_of new node ≡ None) × (out_of new node ≡ None) × (asked_of new node ≡ None)
starts_node who o new node boot reading is there starts =
    let e = subst (λ (a : Actor). RestartsAt a boot reading o new) is starts (subst (λ (a : Actor). IsMachine o.made.nodes a) is there) in
    (ap (λ (c : Streaming). c.session) e, ap (λ (c : Streaming). sent_in c.out) e, ap (λ (c : Streaming). asked_in c.asks) e)

-- whose session is another has no read out
pub starts_session : (who : Actor) (o new : DeviceMachines) (node boot reading : ℕ) → IsMachine o.made.nodes who → OnlyMachine who o new → RestartsAt who boot reading o new → own_of new node ≢ own_of o node → asked_of new node ≡ None
starts_session (Node n) o new node boot reading there only starts other = elim (cases_eq node n) [
  | inl e ↦ subst (λ (k : ℕ). asked_of new k ≡ None) (sym e) (ap (λ (c : Streaming). asked_in c.asks) (starts there))
  | inr apart ↦ absurd (other (ap (λ (c : Streaming). c.session) (only.streams node (λ same. apart (let e : n ≡ node = cc in sym e)))))
]
starts_session (Replica n) o new node boot reading there only starts other = absurd (other (ap (λ (c : Streaming). c.session) (only.streams node (λ same. absurd cc))))
starts_session (Server n) o new node boot reading there only starts other = absurd (other (ap (λ (c : Streaming). c.session) (only.streams node (λ same. absurd cc))))
starts_session (Member n) o new node boot reading there only starts other = absurd (other (ap (λ (c : Streaming). c.session) (only.streams node (λ same. absurd cc))))
