-- An event of one machine, as one of all: they go on fitting what was done with them.
use Rattle.std.proofs.Common.{◌≡◌, inl, inr, ℕ, ◌+◌, ◌*◌, ◌/◌, ◌%◌, ◌<◌, ◌≤◌, Bool, false, List, Option, Some, None, refl, sym, ◌∙◌, ap, subst, arith}
use Rattle.std.specs.Prelude.{◌==◌, IsSome}
use Rattle.std.proofs.lemmas.Bool.{cases_eq, cases_lt}
use Rattle.bx_base.specs.declared.names.Actor.{Actor}
use Rattle.bx_base.specs.declared.names.Actor.TheVariants.{Node, Replica, Server, Member}
use Rattle.bx_disk.specs.Disks.{Disks}
use Rattle.bx_facts.specs.Chains.{session_of}
use Rattle.bx_facts.specs.Disks.{OnlyDiskOf, SameMemberLengths}
use Rattle.bx_facts.specs.Inputs.{greatest_with}
use Rattle.bx_facts.specs.Machines.{IsMachine, put_at}
use Rattle.bx_facts.specs.Pasts.{MayTake}
use Rattle.bx_facts.specs.Writes.{Made, StorePast, store_heard, store_with}
use Rattle.bx_facts.specs.declared.input.Input.{Input}
use Rattle.bx_global.specs.Allowed.{IsAllowed}
use Rattle.bx_global.specs.declared.change.Change.{Change}
use Rattle.bx_global.specs.declared.state.GlobalState.{GlobalState}
use Rattle.bx_post.specs.declared.packets.Letter.{Letter}
use Rattle.bx_mirror_client.specs.Sends.{member_at}
use Rattle.bx_mirror_client.specs.Streams.{Streaming}
use Rattle.bx_mirror_client.proofs.Leaving as leaving
use Rattle.bx_mirror_member.specs.Standing.{MemberView, first_piece, learned}
use Rattle.bx_mirror_server.proofs.Telling.{any_told, input_told}
use Rattle.bx_mirror_server.specs.Serving.{Does}
use Rattle.bx_mirror_cluster.proofs.Beside.{one_knows}
use Rattle.bx_mirror_cluster.proofs.MemberEvents.{member_takes}
use Rattle.bx_mirror_cluster.proofs.NodeEvents.{node_takes, rises_with}
use Rattle.bx_mirror_cluster.specs.Beside.{IsBeside, saying}
use Rattle.bx_mirror_cluster.specs.Fitting.{Parts}
use Rattle.bx_mirror_cluster.specs.MemberSteps.{with_serving}
use Rattle.bx_mirror_cluster.specs.Writing.{with_stream}
use Rattle.bx_devices.proofs.Going.{PartsGo, beside, clocked, further, streams_go}
use Rattle.bx_devices.proofs.Parts.{member_beside, parts_same, parts_served, parts_streamed, replica_beside, same_serving, server_beside}
use Rattle.bx_devices.proofs.Serving.{few_devices, for_arrives, for_it, for_rises, for_steady, may_learn, may_serve, member_there}
use Rattle.bx_devices.specs.Needs.{beyond}
use Rattle.bx_devices.specs.Events.{SlotTakes, StreamTakes, TakesAt, input_for}
use Rattle.bx_devices.specs.Fitting.{IsFitting, own_of, parts_of}
use Rattle.bx_devices.specs.Laws.{as_member, disk_of_member}
use Rattle.bx_devices.specs.Machines.{DeviceMachines, IsShape, OnlyMachine, slot_of, stream_of}

-- where a rack tells what its disks hold
pub told_does : (Told : Type 0) → Told → (known : GlobalState) (input : Input) (m new : MemberView) (change : Option Change) (before after : List Letter) (x y : Disks) → Does Told known input m new change before after x y → Does (Unit {0}) known input m new change before after x y
told_does Told tells known input m new change before after x y does = record {
  between = does.between;
  begins = any_told Told (Unit {0}) (λ always. tells) (learned known m) (first_piece known m) x before does.between does.begins;
  does = input_told Told (Unit {0}) (λ always. tells) (learned known m) new does.between after x y change input does.does;
}

pub nobody : {A : Type 0} (a : A) → None ≡ Some a → ⊥
nobody a e = cc

not_there : {A : Type 0} (slot : Option A) → slot ≡ None → IsSome slot → ⊥
not_there None e is = absurd cc
not_there (Some a) e is = nobody a (sym e)

pub half_within : (n devices : ℕ) → n < 2 * devices → n / 2 < devices
half_within n devices less = omega (arith, less)

module _ (o new : DeviceMachines) (x y : Disks) (past : StorePast) (known : GlobalState) (allowed : ∥ IsAllowed known ∥₁) (input : Input) (before after : List Letter) (fitting : IsFitting o x (store_with past before)) (shape : IsShape new) where
  abbrev was : StorePast
  was = store_with past before

  -- the past once a machine took the input, and handed this back
  abbrev then_ : Actor → Option Change → List Letter → StorePast
  then_ at change letters = store_with (store_heard past at known.index input change) letters

  -- and where it took what is for it
  abbrev own_then : Actor → Option Change → List Letter → StorePast
  own_then at change letters = store_with (store_heard past at known.index (input_for at input) change) letters

  late : (at : Actor) (change : Option Change) (letters : List Letter) (next : Parts) (z : Disks) → PartsGo (parts_of o) next x z was (own_then at change letters) → PartsGo (parts_of o) next x z was (then_ at change letters)
  late at change letters next z goes = clocked (parts_of o) next x z was (own_then at change letters) (greatest_with past.told.greatest input) (for_rises at past.told.greatest input) goes

  -- ---- a node

  node_goes : (n : ℕ) (change : Option Change) → n < o.made.nodes → OnlyMachine (Node n) o new → MayTake was.told known (Node n) input → StreamTakes n known (input_for (Node n) input) o new change before after x y → PartsGo (parts_of o) (parts_of new) x y was (then_ (Node n) change after)
  node_goes n change less only may takes =
      let base = late (Node n) None after (with_stream (parts_of o) n (stream_of new n)) x
      (streams_go (parts_of o) (with_stream (parts_of o) n (stream_of new n)) x was (own_then (Node n) None after)
      (node_takes (parts_of o) x past n known (input_for (Node n) input) (stream_of new n) before after fitting.fits (may_learn o x was fitting known input n less may) (few_devices known allowed)
      (for_arrives (Node n) was.told.letters input may.comes) (for_it (Node n) input) takes.takes)) in
      subst (λ (c : Option Change). PartsGo (parts_of o) (parts_of new) x y was (then_ (Node n) c after)) (sym takes.hands)
      (subst (λ (z : Disks). PartsGo (parts_of o) (parts_of new) x z was (then_ (Node n) None after)) (sym takes.disks)
      (subst (λ (p : Parts). PartsGo (parts_of o) p x x was (then_ (Node n) None after)) (sym (parts_streamed o new n only)) base))

  -- ---- a machine that has nothing to do with devices

  beside_goes : (who : Actor) (change : Option Change) → IsBeside o.made who → OnlyMachine who o new → change ≡ None → after ≡ before → y ≡ x → PartsGo (parts_of o) (parts_of new) x y was (then_ who change after)
  beside_goes who change aside only none sends disks =
      let base = clocked (parts_of o) (parts_of o) x x was (saying was (put_at who known.index past.told.knew) past.told.boots past.told.down) (greatest_with past.told.greatest input) (rises_with past.told.greatest input)
      (beside o x was (put_at who known.index past.told.knew) past.told.boots past.told.down (one_knows o.made was.told who known.index aside) (same_serving o fitting.shape) fitting.fits) in
      subst (λ (c : Option Change). PartsGo (parts_of o) (parts_of new) x y was (then_ who c after)) (sym none)
      (subst (λ (letters : List Letter). PartsGo (parts_of o) (parts_of new) x y was (then_ who None letters)) (sym sends)
      (subst (λ (z : Disks). PartsGo (parts_of o) (parts_of new) x z was (then_ who None before)) (sym disks)
      (subst (λ (p : Parts). PartsGo (parts_of o) p x x was (then_ who None before)) (sym (parts_same who o new aside fitting.shape shape only)) base)))

  -- ---- a member

  module _ (lengths : SameMemberLengths x y) where
    at_member : (d : ℕ) (b : Bool) (m member : MemberView) (change : Option Change) → d < o.made.devices → member_at d b < 2 * o.made.devices → OnlyMachine (Member (member_at d b)) o new → MayTake was.told known (Member (member_at d b)) input
        → OnlyDiskOf (Member (member_at d b)) x y → slot_of o (member_at d b) ≡ Some m → slot_of new (member_at d b) ≡ Some member → Does (Unit {0}) known (input_for (Member (member_at d b)) input) m member change before after x y
        → PartsGo (parts_of o) (parts_of new) x y was (then_ (Member (member_at d b)) change after)
    at_member d b m member change within less only may disks is then_is does =
        let n : ℕ = member_at d b in
        let base = late (Member n) change after (with_serving (parts_of o) n member) y
        (further (parts_of o) (with_serving (parts_of o) n member) x y was (own_then (Member n) change after)
        (member_takes (parts_of o) x y past d b within before after fitting.fits known (may_serve o x was fitting known input allowed n m less is may) (input_for (Member n) input) (for_arrives (Member n) was.told.letters input may.comes)
        (for_it (Member n) input) (for_steady (Member n) past.told.greatest input may.steady) (λ k s apart. disks.others k s (λ e. apart (let same : 3 + n ≡ k = cc in sym same ∙ disk_of_member d b))) lengths member change
        (subst (λ (k : MemberView). Does (Unit {0}) known (input_for (Member n) input) k member change before after x y) (sym (member_there o n m is)) does))) in
        subst (λ (p : Parts). PartsGo (parts_of o) p x y was (then_ (Member n) change after)) (sym (parts_served o new n only))
        (subst (λ (k : MemberView). PartsGo (parts_of o) (with_serving (parts_of o) n k) x y was (then_ (Member n) change after)) (sym (member_there new n member then_is)) base)

    slot_goes : (n : ℕ) (slot : Option MemberView) (change : Option Change) → slot_of o n ≡ slot → OnlyMachine (Member n) o new → MayTake was.told known (Member n) input → OnlyDiskOf (Member n) x y → (Told : Type 0) → Told → SlotTakes Told n slot known (input_for (Member n) input) new change before after x y
        → PartsGo (parts_of o) (parts_of new) x y was (then_ (Member n) change after)
    slot_goes n slot change is only may disks Told tells takes = elim (cases_lt n (2 * o.made.devices)) [
      | inl less ↦ inside slot less is takes
      | inr far ↦ outside slot far (beyond o.members n None (let long = fitting.shape.members in omega (arith, far, long))) is takes
    ]
      where
        inside : (s : Option MemberView) → n < 2 * o.made.devices → slot_of o n ≡ s → SlotTakes Told n s known (input_for (Member n) input) new change before after x y → PartsGo (parts_of o) (parts_of new) x y was (then_ (Member n) change after)
        inside None less here away = absurd (not_there (slot_of o n) here (fitting.there n less may.up))
        inside (Some m) less here did =
            subst (λ (k : ℕ). k < 2 * o.made.devices → OnlyMachine (Member k) o new → MayTake was.told known (Member k) input → OnlyDiskOf (Member k) x y → slot_of o k ≡ Some m → slot_of new k ≡ Some did.member
            → Does (Unit {0}) known (input_for (Member k) input) m did.member change before after x y → PartsGo (parts_of o) (parts_of new) x y was (then_ (Member k) change after)) (as_member n)
            (at_member (n / 2) (n % 2 == 1) m did.member change (half_within n o.made.devices less)) less only may disks here did.is (told_does Told tells known (input_for (Member n) input) m did.member change before after x y did.does)

        outside : (s : Option MemberView) → 2 * o.made.devices ≤ n → slot_of o n ≡ None → slot_of o n ≡ s → SlotTakes Told n s known (input_for (Member n) input) new change before after x y → PartsGo (parts_of o) (parts_of new) x y was (then_ (Member n) change after)
        outside None far none here away = beside_goes (Member n) change (member_beside o.made n far) only away.hands away.sends away.disks
        outside (Some m) far none here did = absurd (nobody m (sym none ∙ here))

    pub event_goes : (at : Actor) (change : Option Change) (Told : Type 0) → Told → IsMachine o.made.nodes at → OnlyMachine at o new → MayTake was.told known at input → OnlyDiskOf at x y → TakesAt Told at known (input_for at input) o new change before after x y
        → PartsGo (parts_of o) (parts_of new) x y was (then_ at change after)
    event_goes (Node n) change Told tells there only may disks takes = node_goes n change there only may takes
    event_goes (Member n) change Told tells there only may disks takes = slot_goes n (slot_of o n) change refl only may disks Told tells takes
    event_goes (Replica n) change Told tells there only may disks takes = beside_goes (Replica n) change (replica_beside o.made n) only takes.hands takes.sends takes.disks
    event_goes (Server n) change Told tells there only may disks takes = beside_goes (Server n) change (server_beside o.made n) only takes.hands takes.sends takes.disks

  -- ---- which machines are there

  slot_stays : (n : ℕ) (slot : Option MemberView) (change : Option Change) (Told : Type 0) → slot_of o n ≡ slot → IsSome (slot_of o n) → SlotTakes Told n slot known (input_for (Member n) input) new change before after x y → IsSome (slot_of new n)
  slot_stays n None change Told is some takes = absurd (not_there (slot_of o n) is some)
  slot_stays n (Some m) change Told is some takes = subst (λ (s : Option MemberView). IsSome s) (sym takes.is) refl

  still_there : (at : Actor) (change : Option Change) (Told : Type 0) → OnlyMachine at o new → TakesAt Told at known (input_for at input) o new change before after x y → (n : ℕ) → IsSome (slot_of o n) → IsSome (slot_of new n)
  still_there (Node k) change Told only takes n some = subst (λ (s : Option MemberView). IsSome s) (sym (only.members n (λ same. absurd cc))) some
  still_there (Replica k) change Told only takes n some = subst (λ (s : Option MemberView). IsSome s) (sym (only.members n (λ same. absurd cc))) some
  still_there (Server k) change Told only takes n some = subst (λ (s : Option MemberView). IsSome s) (sym (only.members n (λ same. absurd cc))) some
  still_there (Member k) change Told only takes n some = elim (cases_eq n k) [
    | inl here ↦ subst (λ (j : ℕ). IsSome (slot_of new j)) (sym here) (slot_stays k (slot_of o k) change Told refl (subst (λ (j : ℕ). IsSome (slot_of o j)) here some) takes)
    | inr apart ↦ subst (λ (s : Option MemberView). IsSome s) (sym (only.members n (λ same. apart (let e : k ≡ n = cc in sym e)))) some
  ]

  its_node : (at : Actor) (change : Option Change) (Told : Type 0) → OnlyMachine at o new → TakesAt Told at known (input_for at input) o new change before after x y → (n : ℕ) → (stream_of new n).node ≡ n
  its_node (Node k) change Told only takes n = elim (cases_eq n k) [
    | inl here ↦ subst (λ (j : ℕ). (stream_of new j).node ≡ j) (sym here) ((leaving.leaves (stream_of o k) known (input_for (Node k) input) (stream_of new k) before after takes.takes).node ∙ fitting.itself k)
    | inr apart ↦ ap (λ (c : Streaming). c.node) (only.streams n (λ same. apart (let e : k ≡ n = cc in sym e))) ∙ fitting.itself n
  ]
  its_node (Replica k) change Told only takes n = ap (λ (c : Streaming). c.node) (only.streams n (λ same. absurd cc)) ∙ fitting.itself n
  its_node (Server k) change Told only takes n = ap (λ (c : Streaming). c.node) (only.streams n (λ same. absurd cc)) ∙ fitting.itself n
  its_node (Member k) change Told only takes n = ap (λ (c : Streaming). c.node) (only.streams n (λ same. absurd cc)) ∙ fitting.itself n

  pub event_fits : (at : Actor) (change : Option Change) (Told : Type 0) → OnlyMachine at o new → TakesAt Told at known (input_for at input) o new change before after x y → PartsGo (parts_of o) (parts_of new) x y was (then_ at change after) → IsFitting new y (then_ at change after)
  event_fits at change Told only takes goes = record {
    fits = goes.keeps;
    shape = shape;
    there = λ n less up. still_there at change Told only takes n (fitting.there n (subst (λ (m : Made). n < 2 * m.devices) only.made less) up);
    itself = its_node at change Told only takes;
  }

  -- ---- the session of a node, and a write that ends

  pub event_session : (at : Actor) (n : ℕ) → at ≡ Node n → IsMachine o.made.nodes at → MayTake was.told known at input → (stream_of new n).session ≡ session_of known (stream_of o n).node (stream_of o n).boot
      → own_of new n ≡ session_of known n (past.told.boots at)
  event_session at n here there may is =
      let less : n < o.made.nodes = subst (IsMachine o.made.nodes) here there in
      let up : past.told.down (Node n) ≡ false = subst (λ (who : Actor). past.told.down who ≡ false) here may.up in
      is ∙ ap (λ (k : ℕ). session_of known k (stream_of o n).boot) (fitting.itself n) ∙ ap (λ (boot : ℕ). session_of known n boot) (fitting.fits.node_boots n less up) ∙ ap (λ (who : Actor). session_of known n (past.told.boots who)) (sym here)
