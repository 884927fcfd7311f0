-- The laws of a store, of all machines.
use Rattle.std.specs.Prelude.{◌≡◌, ◌≢◌, ⊤, ℕ, ◌+◌, ◌-◌, ◌*◌, ◌/◌, ◌%◌, ◌==◌, ◌<◌, ◌≤◌, Bool, true, false, List, [], IsSome, Option, Some, None, slice_get}
use Rattle.std.proofs.Common.{inl, inr, refl, sym, ap, subst, ◌∙◌, arith}
use Rattle.std.proofs.lemmas.Bool.{cases_lt}
use Rattle.std.proofs.lemmas.Bool.Decides.{nat_tests}
use Rattle.bx_base.specs.declared.names.Actor.TheVariants.{Member}
use Rattle.bx_disk.specs.Disks.{Disks, Stays, blanked}
use Rattle.bx_facts.specs.Chains.{IsStoresOwn, last, session_of}
use Rattle.bx_facts.specs.Disks.{Crashes, SameMemberLengths, SameMembers}
use Rattle.bx_facts.specs.Inputs.{AreAmong, IsStores}
use Rattle.bx_facts.specs.Writes.{Asked, GoesOn, IsOfStore, IsOnly, IsOnlyOther, IsOnlyOtherRow, IsSettled, NamesUpTo, Sent, StorePast, found_store, member_disk, opening_store, store_grown, store_room, without_session}
use Rattle.bx_global.specs.Allowed.{IsAllowed}
use Rattle.bx_global.specs.Table.{IsLegal}
use Rattle.bx_global.specs.declared.change.Change.{Change}
use Rattle.bx_global.specs.declared.state.GlobalState.{GlobalState}
use Rattle.bx_post.specs.declared.packets.Letter.{Letter}
use Rattle.bx_rows.specs.declared.device.DeviceRow.{DeviceRow}
use Rattle.bx_mirror_client.specs.Asks.{answer_in, asked_in}
use Rattle.bx_mirror_client.specs.Sends.{member_at}
use Rattle.bx_mirror_client.specs.Streams.{Streaming, sent_in}
use Rattle.bx_mirror_client.specs.Streams as streams
use Rattle.bx_mirror_client.specs.declared.asking.Asking.{Asking}
use Rattle.bx_mirror_client.specs.declared.sending.Sending.{Sending}
use Rattle.bx_mirror_member.specs.Standing.{MemberView, new_member}
use Rattle.bx_mirror_cluster.specs.Fitting.{IsNewParts, IsSideAlone, Keeps, WillReadOn, out_by, outs_of, row_of, row_or, will_read_by}
use Rattle.bx_mirror_cluster.proofs.Begun.{begins_keeps, finds_keeps}
use Rattle.bx_mirror_cluster.proofs.Chained as chained
use Rattle.bx_mirror_cluster.proofs.DiskChanges.{all_replaced, all_survives, replaced_reads, replaced_settled, replaced_stands, survives_reads, survives_settled, survives_stands}
use Rattle.bx_mirror_cluster.proofs.Dropping.{nothing_out as none_out, reads_dropped, settled_dropped, stands_dropped}
use Rattle.bx_mirror_cluster.proofs.Grown.{grown_keeps, grown_reads, grown_settles, grown_stands}
use Rattle.bx_mirror_cluster.proofs.Losing as losing
use Rattle.bx_mirror_cluster.proofs.Opening.{fresh_standing}
use Rattle.bx_mirror_cluster.proofs.Promised as promised
use Rattle.bx_mirror_cluster.proofs.Surer.{all_surer, surer_reads, surer_settled, surer_standing}
use Rattle.bx_devices.specs.Fitting.{IsFitting, Settled, Stands, WillRead, answer_of, asked_of, out_of, own_of, parts_of}
use Rattle.bx_devices.specs.Machines.{AreMade, DeviceMachines, IsShape, made_of, member_of, no_stream, nodes_of, or_new, stream_of}
use Rattle.bx_devices.specs.Meanings.{AreNew, IsFor}
use Rattle.bx_devices.specs.Needs.{beyond}

-- ---- what stands

pub settles : (o : DeviceMachines) (x : Disks) (past : StorePast) (device sector : ℕ) (content : List ℕ) (index : ℕ) → IsFitting o x past → Stands o x past device sector content index → Settled o x past device sector content
settles o x past device sector content index fitting is = is.settled

pub rises : (o : DeviceMachines) (x : Disks) (past : StorePast) (device sector : ℕ) (content : List ℕ) (index later : ℕ) → IsFitting o x past → index ≤ later → Stands o x past device sector content index → Stands o x past device sector content later
rises o x past device sector content index later fitting more is = chained.rises (parts_of o) x past device sector content index later more is

pub settled_is : (o : DeviceMachines) (x : Disks) (past : StorePast) (device sector : ℕ) (content : List ℕ) → IsFitting o x past → Settled o x past device sector content → IsSettled x (last past.told.chain) device sector content
settled_is o x past device sector content fitting is = chained.settled_is (parts_of o) x past device sector content fitting.fits is

pub labelled : (o : DeviceMachines) (x : Disks) (past : StorePast) → IsFitting o x past → IsOfStore (made_of o) x (last past.told.chain)
labelled o x past fitting = promised.labelled (parts_of o) x past fitting.fits

-- ---- what is out

pub own_out : (o : DeviceMachines) (x : Disks) (past : StorePast) (node : ℕ) (write : Sent) → IsFitting o x past → out_of o node ≡ Some write → own_of o node ≡ Some write.session
own_out o x past node write fitting is = by (stream_of o node).out refl is
  where
    by : (out : Option Sending) → (stream_of o node).out ≡ out → sent_in out ≡ Some write → own_of o node ≡ Some write.session
    by None e told = absurd cc
    by (Some s) e told = let same : record { session = s.session; until = s.until; runs = s.runs.1 } ≡ write = cc in fitting.fits.holding node s e ∙ ap (λ (w : Sent). Some w.session) same

pub only_asked : (o : DeviceMachines) (node : ℕ) → asked_of o node ≡ None → answer_of o node ≡ None
only_asked o node none = by (stream_of o node).asks none
  where
    by : (asks : Option Asking) → asked_in asks ≡ None → answer_in asks ≡ None
    by None e = refl
    by (Some a) e = absurd cc

-- ---- what goes on where machines stay

module _ (o : DeviceMachines) (x y : Disks) (past then_ : StorePast) where
  pub goes_on : ((device sector : ℕ) (content : List ℕ) → IsOnly past.writes past.told.greatest device sector content → Settled o x past device sector content → Settled o y then_ device sector content)
      → ((device sector : ℕ) (content : List ℕ) (index : ℕ) → IsOnly past.writes past.told.greatest device sector content → Stands o x past device sector content index → Stands o y then_ device sector content index)
      → ((reader : ℕ) (read : Asking) (sector : ℕ) (content : List ℕ) → IsOnly past.writes past.told.greatest read.device sector content → WillReadOn (parts_of o) x past reader read sector content → WillReadOn (parts_of o) y then_ reader read sector content)
      → GoesOn past.writes past.told.greatest (asked_of o) (Settled o x past) (Settled o y then_) (WillRead o x past) (WillRead o y then_) (Stands o x past) (Stands o y then_)
  goes_on settled stands reads = record {
    settles = settled;
    standing = stands;
    reading = λ reader sector content asks is only will. by reader sector content asks (stream_of o reader).asks is only will;
  }
    where
      by : (reader sector : ℕ) (content : List ℕ) (asks : Asked) (a : Option Asking) → asked_in a ≡ Some asks → IsOnly past.writes past.told.greatest asks.device sector content → will_read_by a (parts_of o) x past reader sector content → will_read_by a (parts_of o) y then_ reader sector content
      by reader sector content asks None is only will = tt
      by reader sector content asks (Some read) is only will =
          let same : record { device = read.device; place = read.place; count = read.sectors } ≡ asks = cc in
          reads reader read sector content (subst (λ (a : Asked). IsOnly past.writes past.told.greatest a.device sector content) (sym same) only) will

  -- the same machines fit
  pub still_fits : Keeps (parts_of o) y then_ → then_.told.down ≡ past.told.down → IsFitting o x past → IsFitting o y then_
  still_fits keeps down fitting = record { fits = keeps; shape = fitting.shape; there = λ n less up. fitting.there n less (ap (λ (f : _). f (Member n)) (sym down) ∙ up); itself = fitting.itself }

-- a write that isn't out has none that may be taken
outs_none : (o : DeviceMachines) (node : ℕ) → out_of o node ≡ None → outs_of (stream_of o) node ≡ None
outs_none o node none = by (stream_of o node).out refl none
  where
    by : (out : Option Sending) → (stream_of o node).out ≡ out → sent_in out ≡ None → outs_of (stream_of o) node ≡ None
    by None e is = ap (λ (s : Option Sending). out_by s) e
    by (Some s) e is = absurd cc

pub nothing_out : (o : DeviceMachines) (x : Disks) (past : StorePast) (node session : ℕ) → IsFitting o x past → own_of o node ≡ Some session → out_of o node ≡ None
    → IsFitting o x (without_session past session) × GoesOn past.writes past.told.greatest (asked_of o) (Settled o x past) (Settled o x (without_session past session)) (WillRead o x past) (WillRead o x (without_session past session)) (Stands o x past) (Stands o x (without_session past session))
nothing_out o x past node session fitting own none =
    let out = outs_none o node none in
    let keeps = fitting.fits in (
      still_fits o x x past (without_session past session) (none_out (parts_of o) x past keeps node session own out) refl fitting,
      goes_on o x x past (without_session past session)
          (λ device sector content only is. settled_dropped (parts_of o) x past keeps node session own out device sector content only is)
          (λ device sector content index only is. stands_dropped (parts_of o) x past keeps node session own out device sector content index only is)
          (λ reader read sector content only will. reads_dropped (parts_of o) x past keeps node session own out reader read sector content only will),
    )

pub grows : (o : DeviceMachines) (x : Disks) (past : StorePast) (change : Change) → IsFitting o x past → IsLegal (last past.told.chain) change → IsStoresOwn past.told.handed change
    → IsFitting o x (store_grown past change) × GoesOn past.writes past.told.greatest (asked_of o) (Settled o x past) (Settled o x (store_grown past change)) (WillRead o x past) (WillRead o x (store_grown past change)) (Stands o x past) (Stands o x (store_grown past change))
grows o x past change fitting legal own =
    let keeps = fitting.fits in (
      still_fits o x x past (store_grown past change) (grown_keeps (parts_of o) x past change keeps legal own) refl fitting,
      goes_on o x x past (store_grown past change)
          (λ device sector content only is. grown_settles (parts_of o) x past change keeps legal own device sector content is)
          (λ device sector content index only is. grown_stands (parts_of o) x past change keeps legal own device sector content index is)
          (λ reader read sector content only will. grown_reads (parts_of o) x past change keeps legal own reader read sector content will),
    )

pub loses : (o : DeviceMachines) (x : Disks) (past : StorePast) (letters : List Letter) → IsFitting o x past → AreAmong IsStores letters past.told.letters
    → IsFitting o x (record past { told = record past.told { letters = letters } })
    × GoesOn past.writes past.told.greatest (asked_of o) (Settled o x past) (Settled o x (record past { told = record past.told { letters = letters } })) (WillRead o x past) (WillRead o x (record past { told = record past.told { letters = letters } }))
    (Stands o x past) (Stands o x (record past { told = record past.told { letters = letters } }))
loses o x past letters fitting fewer =
    let then_ : StorePast = record past { told = record past.told { letters = letters } } in (
      still_fits o x x past then_ (losing.loses (parts_of o) x past letters fewer fitting.fits) refl fitting,
      goes_on o x x past then_
          (λ device sector content only is. losing.settled_lost (parts_of o) x past letters fewer device sector content is)
          (λ device sector content index only is. losing.stands_on_lost (parts_of o) x past letters fewer device sector content index is)
          (λ reader read sector content only will. losing.reads_lost (parts_of o) x past letters fewer reader read sector content will),
    )

-- ---- disks that change

pub elsewhere : (o : DeviceMachines) (x y : Disks) (past : StorePast) → IsFitting o x past → SameMemberLengths x y → SameMembers x y
    → IsFitting o y past × GoesOn past.writes past.told.greatest (asked_of o) (Settled o x past) (Settled o y past) (WillRead o x past) (WillRead o y past) (Stands o x past) (Stands o y past)
elsewhere o x y past fitting lengths same =
    let keeps = fitting.fits in (
      still_fits o x y past past (all_surer (parts_of o) x y past keeps same lengths) refl fitting,
      goes_on o x y past past
          (λ device sector content only is. surer_settled (parts_of o) x y past keeps same device sector content is)
          (λ device sector content index only is. surer_standing (parts_of o) x y past keeps same device sector content index is)
          (λ reader read sector content only will. surer_reads (parts_of o) x y past keeps same reader read sector content will),
    )

-- which member of its device one is
pub as_member : (n : ℕ) → member_at (n / 2) (n % 2 == 1) ≡ n
as_member n = by (n % 2 == 1) refl
  where
    by : (b : Bool) → (n % 2 == 1) ≡ b → member_at (n / 2) b ≡ n
    by true e = let odd : n % 2 ≡ 1 = grind (arith, nat_tests, e) in omega (arith, odd)
    by false e = let even : n % 2 ≡ 0 = grind (arith, nat_tests, e) in omega (arith, even)

pub disk_of_member : (device : ℕ) (second : Bool) → 3 + member_at device second ≡ member_disk device second
disk_of_member device false = omega arith
disk_of_member device true = omega arith

pub survives : (o : DeviceMachines) (x y : Disks) (past : StorePast) (n : ℕ) → IsFitting o x past → past.told.down (Member n) ≡ true → SameMemberLengths x y → Crashes (3 + n) x y
    → IsFitting o y past × GoesOn past.writes past.told.greatest (asked_of o) (Settled o x past) (Settled o y past) (WillRead o x past) (WillRead o y past) (Stands o x past) (Stands o y past)
survives o x y past n fitting is_down lengths crash =
    let keeps = fitting.fits in
    let d : ℕ = n / 2 in
    let b : Bool = n % 2 == 1 in
    let down = subst (λ (k : ℕ). past.told.down (Member k) ≡ true) (sym (as_member n)) is_down in
    let crashes = subst (λ (k : ℕ). Crashes (3 + k) x y) (sym (as_member n)) crash in (
      still_fits o x y past past (all_survives (parts_of o) x y past d b keeps down lengths crashes) refl fitting,
      goes_on o x y past past
          (λ device sector content only is. survives_settled (parts_of o) x y past d device b sector content keeps down lengths crashes is)
          (λ device sector content index only is. survives_stands (parts_of o) x y past d device b sector content index keeps down lengths crashes is)
          (λ reader read sector content only will. survives_reads (parts_of o) x y past d b reader read sector content keeps down lengths crashes will),
    )

-- a device that needs the other member alone
side_alone : (row : Option DeviceRow) (second : Bool) → IsOnlyOtherRow row second → IsSideAlone (row_or row) second
side_alone None second is = absurd is
side_alone (Some row) false is = inl (refl, is)
side_alone (Some row) true is = inr (refl, is)

pub replaced : (o : DeviceMachines) (x : Disks) (past : StorePast) (device : ℕ) (second : Bool) → IsFitting o x past → past.told.down (Member (member_disk device second - 3)) ≡ true → IsOnlyOther (last past.told.chain) device second
    → IsFitting o (blanked x (member_disk device second)) past
    × GoesOn past.writes past.told.greatest (asked_of o) (Settled o x past) (Settled o (blanked x (member_disk device second)) past) (WillRead o x past) (WillRead o (blanked x (member_disk device second)) past) (Stands o x past)
    (Stands o (blanked x (member_disk device second)) past)
replaced o x past device second fitting is_down only_other =
    let keeps = fitting.fits in
    let disk : ℕ = member_disk device second in
    let y : Disks = blanked x disk in
    let number : disk - 3 ≡ member_at device second = (let e = disk_of_member device second in omega (arith, e)) in
    let down = subst (λ (k : ℕ). past.told.down (Member k) ≡ true) number is_down in
    let alone : IsSideAlone (row_of (last past.told.chain) device) second = side_alone (slice_get (last past.told.chain).devices device) second only_other in
    let lengths : SameMemberLengths x y = record { each = λ d far. refl } in
    let stay = λ (k s : ℕ) (apart : k ≢ 3 + member_at device second). stays k s (λ e. apart (e ∙ sym (disk_of_member device second))) in (
      still_fits o x y past past (all_replaced (parts_of o) x y past device second keeps down alone lengths stay) refl fitting,
      goes_on o x y past past
          (λ d sector content only is. replaced_settled (parts_of o) x y past device d second sector content keeps down alone lengths stay is)
          (λ d sector content index only is. replaced_stands (parts_of o) x y past device d second sector content index keeps down alone lengths stay is)
          (λ reader read sector content only will. replaced_reads (parts_of o) x y past device second reader read sector content keeps down alone lengths stay will),
    )
  where
    stays : (k s : ℕ) → k ≢ member_disk device second → Stays x (blanked x (member_disk device second)) k s
    stays k s apart = grind (arith, nat_tests, apart)

-- ---- new ones

module _ (o : DeviceMachines) (s : GlobalState) (shape : IsShape o) (made : AreMade (made_of o) s o) where
  -- each member is a new one
  member_new : (n : ℕ) → member_of o n ≡ new_member n o.made
  member_new n = elim (cases_lt n (2 * o.made.devices)) [
    | inl less ↦ ap (λ (slot : Option MemberView). or_new o.made n slot) (made.members n less)
    | inr far ↦ ap (λ (slot : Option MemberView). or_new o.made n slot) (beyond o.members n None (let long = shape.members in omega (arith, far, long)))
  ]

  stream_none : (n : ℕ) → nodes_of o ≤ n → stream_of o n ≡ no_stream n
  stream_none n far = beyond o.streams n (no_stream n) (let long = shape.streams in omega (arith, far, long))

  by_stream : (P : Streaming → Type 0) → (n : ℕ) → P (streams.made n s) → P (no_stream n) → P (stream_of o n)
  by_stream P n there none = elim (cases_lt n (nodes_of o)) [
    | inl less ↦ subst P (sym (made.streams n less)) there
    | inr far ↦ subst P (sym (stream_none n far)) none
  ]

  new_parts : IsNewParts s (parts_of o)
  new_parts = record {
    rows = λ n. ap (λ (m : MemberView). m.row) (member_new n);
    owed = λ n. ap (λ (m : MemberView). m.owed) (member_new n);
    lasts = λ n. ap (λ (m : MemberView). m.lasts) (member_new n);
    member_boot = λ n less. ap (λ (m : MemberView). m.boot) (member_new n);
    node_boot = λ n less. ap (λ (c : Streaming). c.boot) (made.streams n less);
    session = λ n less. ap (λ (c : Streaming). c.session) (made.streams n less);
    known = λ n less. ap (λ (c : Streaming). c.rows) (made.streams n less);
    no_more = λ n far. ap (λ (c : Streaming). c.session) (stream_none n far);
    out = λ n. by_stream (λ c. c.out ≡ None) n refl refl;
    asks = λ n. by_stream (λ c. c.asks ≡ None) n refl refl;
  }

  new_fits : (x : Disks) (past : StorePast) → Keeps (parts_of o) x past → IsFitting o x past
  new_fits x past keeps = record {
    fits = keeps;
    shape = shape;
    there = λ n less up. subst (λ (slot : Option MemberView). IsSome slot) (sym (made.members n less)) refl;
    itself = λ n. by_stream (λ c. c.node ≡ n) n refl refl;
  }

pub begins : (o : DeviceMachines) (x : Disks) (s : GlobalState) → AreNew o → IsFor s o → IsAllowed s → IsOfStore (made_of o) x s → NamesUpTo 0 s → IsFitting o x (opening_store s)
begins o x s new is allowed of names = new_fits o s new.shape is.made x (opening_store s) (begins_keeps (parts_of o) x s (new_parts o s new.shape is.made) allowed is.single of names is.all_read)

pub finds : (o : DeviceMachines) (x : Disks) (first s : GlobalState) (boot : ℕ) → AreNew o → ⊤ → IsFor first o → first.sessions ≡ [] → IsAllowed s → IsOfStore (made_of o) x s → NamesUpTo boot s → IsFitting o x (found_store s boot)
finds o x first s boot new separate is none allowed of names = new_fits o first new.shape is.made x (found_store s boot) (finds_keeps (parts_of o) x first s boot (new_parts o first new.shape is.made) none allowed of names)

pub begins_standing : (o : DeviceMachines) (x : Disks) (s : GlobalState) (device sector : ℕ) (content : List ℕ) → AreNew o → device < (made_of o).devices → 1 ≤ sector → sector < store_room (made_of o) → IsSettled x s device sector content
    → Stands o x (opening_store s) device sector content s.index
begins_standing o x s device sector content new there low high settled = fresh_standing (parts_of o) x s device settled.there 0 (λ who. s.index) (λ who. 0) (λ who. false) sector content there low high settled

pub finds_standing : (o : DeviceMachines) (x : Disks) (s : GlobalState) (boot device sector : ℕ) (content : List ℕ) → AreNew o → ⊤ → device < (made_of o).devices → 1 ≤ sector → sector < store_room (made_of o) → IsSettled x s device sector content
    → Stands o x (found_store s boot) device sector content s.index
finds_standing o x s boot device sector content new separate there low high settled = fresh_standing (parts_of o) x s device settled.there s.next_session (λ who. 0) (λ who. boot) (λ who. true) sector content there low high settled

pub begins_own : (o : DeviceMachines) (s : GlobalState) (node : ℕ) → AreNew o → IsFor s o → node < nodes_of o → own_of o node ≡ session_of s node 0
begins_own o s node new is there = ap (λ (c : Streaming). c.session) (is.made.streams node there)

pub begins_idle : (o : DeviceMachines) (node : ℕ) → AreNew o → (out_of o node ≡ None) × (asked_of o node ≡ None)
begins_idle o node new = by_stream o new.state new.shape new.made (λ c. (sent_in c.out ≡ None) × (asked_in c.asks ≡ None)) node (refl, refl) (refl, refl)
