-- An event of one machine that is cut short, by a fault or by a crash, and a write that an event ends.
use Rattle.std.proofs.Common.{◌≡◌, ◌≢◌, inl, inr, ℕ, ◌+◌, ◌-◌, ◌*◌, ◌/◌, ◌%◌, ◌<◌, Bool, List, Option, Some, None, refl, sym, ◌∙◌, ap, subst, arith}
use Rattle.std.specs.Prelude.{◌==◌, IsSome, slice_index}
use Rattle.std.proofs.lemmas.Bool.{cases_eq, cases_lt}
use Rattle.bx_base.specs.declared.names.Actor.{Actor}
use Rattle.bx_base.specs.declared.names.Actor.TheVariants.{Node, Replica, Server, Member}
use Rattle.bx_calls.specs.Calls.{HasSure, KeepsSure, LeavesOnly}
use Rattle.bx_calls.specs.Laws.{leaves_implies, leaves_now}
use Rattle.bx_disk.specs.Disks.{Disks, Image, IsImage, Stays}
use Rattle.bx_disk.specs.declared.rack.Rack as racks
use Rattle.bx_facts.proofs.Machines.{here as put_here}
use Rattle.bx_facts.specs.Chains.{LivesIn, last}
use Rattle.bx_facts.specs.Disks.{SameMemberLengths}
use Rattle.bx_facts.specs.Inputs.{greatest_with}
use Rattle.bx_facts.specs.Machines.{IsMachine, put_at}
use Rattle.bx_facts.specs.Pasts.{MayTake}
use Rattle.bx_facts.specs.Writes.{HasSettled, IsDone, Made, Sent, StorePast, WritesTo, member_disk, store_heard, store_room, store_with}
use Rattle.bx_facts.specs.declared.input.Input.{Input}
use Rattle.bx_global.specs.Allowed.{IsAllowed}
use Rattle.bx_global.specs.declared.change.Change.{Change}
use Rattle.bx_global.specs.declared.state.GlobalState.{GlobalState}
use Rattle.bx_members.specs.Members.{HasMembers, KeepsMembers}
use Rattle.bx_post.specs.declared.packets.Letter.{Letter}
use Rattle.bx_records.specs.declared.runs.Run.{Run}
use Rattle.bx_mirror_client.specs.Sends.{member_at}
use Rattle.bx_mirror_client.specs.Streams.{Streaming, sent_in}
use Rattle.bx_mirror_client.specs.declared.sending.Sending.{Sending}
use Rattle.bx_mirror_member.specs.Standing.{MemberView, disk_in, learned, room_in}
use Rattle.bx_mirror_server.specs.Serving.{BringsOnly}
use Rattle.bx_mirror_server.specs.Working.{alone}
use Rattle.bx_mirror_cluster.proofs.Clock.{stands_clock}
use Rattle.bx_mirror_cluster.proofs.Ended.{write_stands}
use Rattle.bx_mirror_cluster.proofs.MemberImages.{cut_goes, image_goes}
use Rattle.bx_mirror_cluster.proofs.Promised.{imaged}
use Rattle.bx_mirror_cluster.specs.Fitting.{Parts, StandsOn}
use Rattle.bx_mirror_cluster.specs.MemberSteps.{with_serving}
use Rattle.bx_mirror_cluster.specs.Writing.{with_stream}
use Rattle.bx_devices.proofs.Going.{PartsGo, clocked, further}
use Rattle.bx_devices.proofs.Parts.{parts_served, parts_streamed}
use Rattle.bx_devices.proofs.Serving.{few_devices, for_arrives, for_it, for_rises, for_steady, may_learn, may_serve, member_there}
use Rattle.bx_devices.specs.Needs.{beyond}
use Rattle.bx_devices.proofs.Taken.{half_within, nobody}
use Rattle.bx_devices.specs.Disks.{DisksAt, DisksIn}
use Rattle.bx_devices.specs.Events.{FaultsAt, SlotFaults, StreamTakes, TakesAt, input_for}
use Rattle.bx_devices.specs.Fitting.{IsFitting, Settled, Stands, out_of, own_of, parts_of}
use Rattle.bx_devices.specs.Laws.{as_member, disk_of_member}
use Rattle.bx_devices.specs.Machines.{DeviceMachines, IsShape, OnlyMachine, member_of, slot_of, stream_of}

leaves_both : (before now : ℕ) (past since : ℕ → Image → Type 0) (P Q : Image → Type 0) → LeavesOnly before now past since P → LeavesOnly before now past since Q → LeavesOnly before now past since (λ image. P image × Q image)
leaves_both before now past since P Q first second = record {
  later = first.later;
  each = λ image left. (first.each image left, second.each image left);
  nothing_else = λ t image le left. elim (first.nothing_else t image le left) [
    | inl was ↦ inl was
    | inr p ↦ elim (second.nothing_else t image le left) [ inl was ↦ inl was | inr q ↦ inr (p, q) ]
  ];
  keeps = first.keeps;
}

-- a member that is up is one of the volume
member_within : (o : DeviceMachines) (n : ℕ) (m : MemberView) → IsShape o → slot_of o n ≡ Some m → n < 2 * o.made.devices
member_within o n m shape is = elim (cases_lt n (2 * o.made.devices)) [
  | inl less ↦ less
  | inr far ↦ absurd (nobody m (sym (beyond o.members n None (let long = shape.members in omega (arith, far, long))) ∙ is))
]

module _ (o : DeviceMachines) (x : Disks) (past : StorePast) (known : GlobalState) (allowed : ∥ IsAllowed known ∥₁) (input : Input) (before : List Letter) (fitting : IsFitting o x (store_with past before)) where
  abbrev was : StorePast
  was = store_with past before

  abbrev then_ : Actor → Option Change → List Letter → StorePast
  then_ at change letters = store_with (store_heard past at known.index input change) letters

  abbrev own_then : Actor → Option Change → List Letter → StorePast
  own_then at change letters = store_with (store_heard past at known.index (input_for at input) change) letters

  -- ---- a member's event, of its device

  module _ (d : ℕ) (b : Bool) (within : d < o.made.devices) (less : member_at d b < 2 * o.made.devices) (m : MemberView) (is : slot_of o (member_at d b) ≡ Some m) (may : MayTake was.told known (Member (member_at d b)) input) (runs : List Run)
      (brings : BringsOnly (learned known m) (input_for (Member (member_at d b)) input) runs) where
    abbrev n : ℕ
    n = member_at d b

    brings_it : BringsOnly (learned known (member_of o n)) (input_for (Member n) input) runs
    brings_it = subst (λ (k : MemberView). BringsOnly (learned known k) (input_for (Member n) input) runs) (sym (member_there o n m is)) brings

    cut_at : (new : DeviceMachines) (y : Disks) → OnlyMachine (Member n) o new → slot_of new n ≡ Some (learned known m) → KeepsMembers (alone runs) 0 x y → ((k s : ℕ) → k ≢ 3 + n → Stays x y k s) → SameMemberLengths x y
        → PartsGo (parts_of o) (parts_of new) x y was (then_ (Member n) None before)
    cut_at new y only faulted members others lengths =
        let base = clocked (parts_of o) (with_serving (parts_of o) n (learned known (member_of o n))) x y was (own_then (Member n) None before) (greatest_with past.told.greatest input) (for_rises (Member n) past.told.greatest input)
        (further (parts_of o) (with_serving (parts_of o) n (learned known (member_of o n))) x y was (own_then (Member n) None before)
        (cut_goes (parts_of o) x past d b within before fitting.fits known (may_serve o x was fitting known input allowed n m less is may) (input_for (Member n) input) (for_arrives (Member n) was.told.letters input may.comes) (for_it (Member n) input)
        (for_steady (Member n) past.told.greatest input may.steady) runs brings_it y members (λ k s apart. others k s (λ e. apart (e ∙ disk_of_member d b))) lengths)) in
        let then_is : learned known (member_of o n) ≡ member_of new n = ap (learned known) (member_there o n m is) ∙ sym (member_there new n (learned known m) faulted) in
        subst (λ (p : Parts). PartsGo (parts_of o) p x y was (then_ (Member n) None before)) (sym (parts_served o new n only))
        (subst (λ (k : MemberView). PartsGo (parts_of o) (with_serving (parts_of o) n k) x y was (then_ (Member n) None before)) then_is base)

    image_at : (image : Image) → HasMembers (alone runs) 0 x image → HasSure x (3 + n) 1 (store_room o.made - 1) image → HasSettled past.writes past.told.greatest (Settled o x was) x (last past.told.chain) image
    image_at image has sure =
        image_goes (parts_of o) x past d b within before fitting.fits known (may_serve o x was fitting known input allowed n m less is may) (input_for (Member n) input) (for_arrives (Member n) was.told.letters input may.comes) (for_it (Member n) input)
        (for_steady (Member n) past.told.greatest input may.steady) runs brings_it image has (subst (λ (k : ℕ). HasSure x k 1 (store_room o.made - 1) image) (disk_of_member d b) sure)

  -- an image that has all that is sure
  of_image : (image : Image) → IsImage x image → HasSettled past.writes past.told.greatest (Settled o x was) x (last past.told.chain) image
  of_image image is = imaged (parts_of o) x was fitting.fits image (λ disk sector behind sure. is.sure disk sector sure) (λ d b source sure. is.sure (member_disk d b) 0 sure)

  -- ---- any machine's

  module _ {R : Type 0} (rack : racks.Ghosts R) (r after : R) (tells : rack.tells r) (state_is : rack.state r ≡ x) where
    abbrev y : Disks
    y = rack.state after

    fault_in : (new : DeviceMachines) (n : ℕ) (slot : Option MemberView) → slot_of o n ≡ slot → SlotFaults known slot (slot_of new n) → DisksIn rack r after known (input_for (Member n) input) slot → OnlyMachine (Member n) o new
        → MayTake was.told known (Member n) input → PartsGo (parts_of o) (parts_of new) x y was (then_ (Member n) None before)
    fault_in new n None is faulted works only may = absurd faulted
    fault_in new n (Some m) is faulted works only may =
        let less = member_within o n m fitting.shape is in
        let own = fitting.shape.each n m is in
        let keeps : KeepsSure x y (disk_in m) 1 (room_in m - 1) = subst (λ (z : Disks). KeepsSure z y (disk_in m) 1 (room_in m - 1)) state_is (works.elsewhere tells) in
        let members : KeepsMembers (alone works.runs) 0 x y = subst (λ (z : Disks). KeepsMembers (alone works.runs) 0 z y) state_is (works.keeps tells) in
        subst (λ (k : ℕ). k < 2 * o.made.devices → slot_of o k ≡ Some m → MayTake was.told known (Member k) input → BringsOnly (learned known m) (input_for (Member k) input) works.runs → OnlyMachine (Member k) o new → slot_of new k ≡ Some (learned known m)
        → ((j s : ℕ) → j ≢ 3 + k → Stays x y j s) → PartsGo (parts_of o) (parts_of new) x y was (then_ (Member k) None before)) (as_member n)
        (λ less_it is_it may_it brings only_it faulted_it others. cut_at (n / 2) (n % 2 == 1) (half_within n o.made.devices less) less_it m is_it may_it works.runs brings new y only_it faulted_it members others
        (record { each = λ k far. ap (λ (sizes : List ℕ). slice_index sizes k) keeps.sizes }))
        less is may works.brings only faulted (λ j s apart. keeps.others j s (λ e. apart (e ∙ ap (λ (k : ℕ). 3 + k) own.number)))

    pub fault_goes : (new : DeviceMachines) (at : Actor) → FaultsAt at known o new → DisksAt rack r after at known (input_for at input) o → OnlyMachine at o new → MayTake was.told known at input → PartsGo (parts_of o) (parts_of new) x y was (then_ at None before)
    fault_goes new (Node n) faulted works only may = absurd faulted
    fault_goes new (Replica n) faulted works only may = absurd faulted
    fault_goes new (Server n) faulted works only may = absurd faulted
    fault_goes new (Member n) faulted works only may = fault_in new n (slot_of o n) refl faulted works only may

    -- ---- at any moment

    abbrev Images : Type 0
    Images = LeavesOnly (rack.moment r) (rack.moment after) (rack.left_since r) (rack.left_since after) (HasSettled past.writes past.told.greatest (Settled o x was) x (last past.told.chain))

    module _ (only_now : (image : Image) → rack.left_since r (rack.moment r) image → IsImage (rack.state r) image) where
      leaves_same : after ≡ r → Images
      leaves_same same = subst (λ (q : R). LeavesOnly (rack.moment r) (rack.moment q) (rack.left_since r) (rack.left_since q) (HasSettled past.writes past.told.greatest (Settled o x was) x (last past.told.chain))) (sym same)
          (leaves_now (rack.moment r) (rack.left_since r) (HasSettled past.writes past.told.greatest (Settled o x was) x (last past.told.chain))
          (λ image left. of_image image (subst (λ (z : Disks). IsImage z image) state_is (only_now image left))))

      leaves_in : (n : ℕ) (slot : Option MemberView) → slot_of o n ≡ slot → DisksIn rack r after known (input_for (Member n) input) slot → MayTake was.told known (Member n) input → Images
      leaves_in n None is works may = leaves_same works
      leaves_in n (Some m) is works may =
          let less = member_within o n m fitting.shape is in
          let own = fitting.shape.each n m is in
          leaves_implies (rack.moment r) (rack.moment after) (rack.left_since r) (rack.left_since after)
          (λ image. HasMembers (alone works.runs) 0 (rack.state r) image × HasSure (rack.state r) (disk_in m) 1 (room_in m - 1) image) (HasSettled past.writes past.told.greatest (Settled o x was) x (last past.told.chain))
          (leaves_both (rack.moment r) (rack.moment after) (rack.left_since r) (rack.left_since after) (HasMembers (alone works.runs) 0 (rack.state r)) (HasSure (rack.state r) (disk_in m) 1 (room_in m - 1)) (works.any_moment tells) (works.sure_moment tells))
          (λ image has.
          let members : HasMembers (alone works.runs) 0 x image = subst (λ (z : Disks). HasMembers (alone works.runs) 0 z image) state_is has.0 in
          let sure : HasSure x (disk_in m) 1 (room_in m - 1) image = subst (λ (z : Disks). HasSure z (disk_in m) 1 (room_in m - 1) image) state_is has.1 in
          let sure_own : HasSure x (3 + n) 1 (store_room o.made - 1) image = subst (λ (made : Made). HasSure x (3 + n) 1 (store_room made - 1) image) own.made_is (subst (λ (k : ℕ). HasSure x (3 + k) 1 (room_in m - 1) image) own.number sure) in
          subst (λ (k : ℕ). k < 2 * o.made.devices → slot_of o k ≡ Some m → MayTake was.told known (Member k) input → BringsOnly (learned known m) (input_for (Member k) input) works.runs → HasSure x (3 + k) 1 (store_room o.made - 1) image
          → HasSettled past.writes past.told.greatest (Settled o x was) x (last past.told.chain) image) (as_member n)
          (λ less_it is_it may_it brings sure_it. image_at (n / 2) (n % 2 == 1) (half_within n o.made.devices less) less_it m is_it may_it works.runs brings image members sure_it)
          less is may works.brings sure_own)

      pub event_leaves : (at : Actor) → DisksAt rack r after at known (input_for at input) o → MayTake was.told known at input → Images
      event_leaves (Node n) works may = leaves_same works
      event_leaves (Replica n) works may = leaves_same works
      event_leaves (Server n) works may = leaves_same works
      event_leaves (Member n) works may = leaves_in n (slot_of o n) refl works may

  -- ---- which machines are there after a fault

  pub fault_fits : (new : DeviceMachines) (y : Disks) (at : Actor) → IsShape new → FaultsAt at known o new → OnlyMachine at o new → PartsGo (parts_of o) (parts_of new) x y was (then_ at None before) → IsFitting new y (then_ at None before)
  fault_fits new y at shape faulted only goes = record {
    fits = goes.keeps;
    shape = shape;
    there = λ n less up. by at faulted only n (fitting.there n (subst (λ (m : Made). n < 2 * m.devices) only.made less) up);
    itself = λ n. ap (λ (c : Streaming). c.node) (streams at faulted only n) ∙ fitting.itself n;
  }
    where
      some_then : (slot then_slot : Option MemberView) → SlotFaults known slot then_slot → IsSome then_slot
      some_then None then_slot is = absurd is
      some_then (Some m) then_slot is = subst (λ (s : Option MemberView). IsSome s) (sym is) refl

      by : (who : Actor) → FaultsAt who known o new → OnlyMachine who o new → (n : ℕ) → IsSome (slot_of o n) → IsSome (slot_of new n)
      by (Node k) is others n some = absurd is
      by (Replica k) is others n some = absurd is
      by (Server k) is others n some = absurd is
      by (Member k) is others n some = elim (cases_eq n k) [
        | inl same ↦ subst (λ (j : ℕ). IsSome (slot_of new j)) (sym same) (some_then (slot_of o k) (slot_of new k) is)
        | inr apart ↦ subst (λ (s : Option MemberView). IsSome s) (sym (others.members n (λ same. apart (let e : k ≡ n = cc in sym e)))) some
      ]

      streams : (who : Actor) → FaultsAt who known o new → OnlyMachine who o new → (n : ℕ) → stream_of new n ≡ stream_of o n
      streams (Node k) is others n = absurd is
      streams (Replica k) is others n = absurd is
      streams (Server k) is others n = absurd is
      streams (Member k) is others n = others.streams n (λ same. absurd cc)

  -- ---- a write that an event ends

  module _ (new : DeviceMachines) (y : Disks) (after : List Letter) where
    same_out : (node : ℕ) (write : Sent) → stream_of new node ≡ stream_of o node → out_of o node ≡ Some write → out_of new node ≡ None → ⊥
    same_out node write same is none = nobody write (sym none ∙ ap (λ (c : Streaming). sent_in c.out) same ∙ is)

    node_done : (node : ℕ) (change : Option Change) (s : Option Sending) (write : Sent) → node < o.made.nodes → OnlyMachine (Node node) o new → MayTake was.told known (Node node) input → StreamTakes node known (input_for (Node node) input) o new change before after x y
        → (stream_of o node).out ≡ s → sent_in s ≡ Some write → sent_in (stream_of new node).out ≡ None → own_of new node ≡ Some write.session → LivesIn (last past.told.chain) write.session
        → IsDone (Stands new y (then_ (Node node) change after)) ((store_heard past (Node node) known.index input change).told.knew (Node node)) write
    node_done node change None write less only may takes out is none own lives = absurd cc
    node_done node change (Some s) write less only may takes out is none own lives = record {
      each = λ device sector content brings. knew device sector content (stands device sector content (subst (λ (w : Sent). WritesTo w device sector content) (sym same) brings));
    }
      where
        same : record { session = s.session; until = s.until; runs = s.runs.1 } ≡ write
        same = cc

        out_none : (t : Option Sending) → sent_in t ≡ None → t ≡ None
        out_none None e = refl
        out_none (Some t) e = absurd cc

        greatest : ℕ
        greatest = greatest_with past.told.greatest input

        stands : (device sector : ℕ) (content : List ℕ) → WritesTo (record { session = s.session; until = s.until; runs = s.runs.1 }) device sector content → Stands new y (then_ (Node node) change after) device sector content known.index
        stands device sector content brings =
            subst (λ (c : Option Change). Stands new y (then_ (Node node) c after) device sector content known.index) (sym takes.hands)
            (subst (λ (z : Disks). Stands new z (then_ (Node node) None after) device sector content known.index) (sym takes.disks)
            (subst (λ (p : Parts). StandsOn p x (then_ (Node node) None after) device sector content known.index) (sym (parts_streamed o new node only))
            (stands_clock (with_stream (parts_of o) node (stream_of new node)) x (own_then (Node node) None after) greatest (for_rises (Node node) past.told.greatest input) device sector content known.index
            (write_stands (parts_of o) x past node known (input_for (Node node) input) (stream_of new node) before after fitting.fits (may_learn o x was fitting known input node less may) (few_devices known allowed)
            (for_arrives (Node node) was.told.letters input may.comes) takes.takes s out (out_none (stream_of new node).out none) (own ∙ ap (λ (w : Sent). Some w.session) (sym same)) (subst (λ (w : Sent). LivesIn (last past.told.chain) w.session) (sym same) lives)
            device sector content brings))))

        knew : (device sector : ℕ) (content : List ℕ) → Stands new y (then_ (Node node) change after) device sector content known.index → Stands new y (then_ (Node node) change after) device sector content (put_at (Node node) known.index past.told.knew (Node node))
        knew device sector content is_so = subst (λ (k : ℕ). Stands new y (then_ (Node node) change after) device sector content k) (sym (put_here (Node node) known.index past.told.knew)) is_so

    pub event_done : (at : Actor) (change : Option Change) (Told : Type 0) (node : ℕ) (write : Sent) → IsMachine o.made.nodes at → OnlyMachine at o new → MayTake was.told known at input → TakesAt Told at known (input_for at input) o new change before after x y
        → out_of o node ≡ Some write → out_of new node ≡ None → own_of new node ≡ Some write.session → LivesIn (last past.told.chain) write.session
        → IsDone (Stands new y (then_ at change after)) ((store_heard past at known.index input change).told.knew (Node node)) write
    event_done (Node k) change Told node write there only may takes out none own lives = elim (cases_eq node k) [
      | inl e ↦ subst (λ (j : ℕ). out_of o j ≡ Some write → out_of new j ≡ None → own_of new j ≡ Some write.session → IsDone (Stands new y (then_ (Node k) change after)) ((store_heard past (Node k) known.index input change).told.knew (Node j)) write) (sym e)
          (λ out_it none_it own_it. node_done k change (stream_of o k).out write there only may takes refl out_it none_it own_it lives) out none own
      | inr apart ↦ absurd (same_out node write (only.streams node (λ same. apart (let e : k ≡ node = cc in sym e))) out none)
    ]
    event_done (Replica k) change Told node write there only may takes out none own lives = absurd (same_out node write (only.streams node (λ same. absurd cc)) out none)
    event_done (Server k) change Told node write there only may takes out none own lives = absurd (same_out node write (only.streams node (λ same. absurd cc)) out none)
    event_done (Member k) change Told node write there only may takes out none own lives = absurd (same_out node write (only.streams node (λ same. absurd cc)) out none)

    -- none ends where no node's stream changed
    pub fault_done : (at : Actor) (node : ℕ) (write : Sent) → FaultsAt at known o new → OnlyMachine at o new → out_of o node ≡ Some write → out_of new node ≡ None → ⊥
    fault_done (Node k) node write faulted only out none = absurd faulted
    fault_done (Replica k) node write faulted only out none = absurd faulted
    fault_done (Server k) node write faulted only out none = absurd faulted
    fault_done (Member k) node write faulted only out none = same_out node write (only.streams node (λ same. absurd cc)) out none
