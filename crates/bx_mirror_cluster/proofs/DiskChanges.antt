-- A disk crashes, or is replaced, while its machine is down: all devices go on fitting.
use Rattle.std.proofs.Common.{◌≡◌, ◌≢◌, ◌⊎◌, inl, inr, ℕ, ◌+◌, ◌<◌, Bool, true, false, List, sym, ◌∙◌, subst, arith}
use Rattle.bx_base.specs.declared.names.Actor.TheVariants.{Member}
use Rattle.bx_disk.specs.Disks.{Disks, Stays}
use Rattle.bx_facts.specs.Chains.{last}
use Rattle.bx_facts.specs.Disks.{Crashes, SameMemberLengths}
use Rattle.bx_facts.specs.Writes.{StorePast, member_disk, store_room}
use Rattle.bx_rows.specs.declared.device.DeviceRow.{DeviceRow}
use Rattle.bx_mirror_client.specs.declared.asking.Asking.{Asking}
use Rattle.bx_mirror_laws.specs.Acting.{FromEpoch}
use Rattle.bx_mirror_laws.specs.Sides.{Side}
use Rattle.bx_mirror_laws.specs.Sound.{AreCopies, AreHanded, AreOuts, AreRows, AreWrites, AreWrotes, DeviceStands}
use Rattle.bx_mirror_client.specs.Sends.{member_at}
use Rattle.bx_mirror_cluster.specs.Fitting.{History, IsClaimed, IsComing, IsDeviceSound, IsSettledOn, IsSideAlone, Keeps, KnownFrom, Nowhere, Parts, StandsFor, StandsOn, WillReadOn, handings, knows_of, last_row, outs_of, row_of, rows_before, side_of}
use Rattle.bx_mirror_cluster.proofs.Labels.{label_kept, lengths_at}
use Rattle.bx_mirror_cluster.proofs.Crashing.{survives, survives_on, survives_standing}
use Rattle.bx_mirror_cluster.proofs.Replacing.{replaced, replaced_on, replaced_standing}

same_or : (n m : ℕ) → (n ≡ m) ⊎ (n ≢ m)
same_or n m = grind arith

-- disks of another device
other_disk : (d k : ℕ) (b c : Bool) → k ≢ d → member_disk k c ≢ 3 + member_at d b
other_disk d k false false apart e = apart (omega (arith, e))
other_disk d k false true apart e = omega (arith, e)
other_disk d k true false apart e = omega (arith, e)
other_disk d k true true apart e = apart (omega (arith, e))

-- ---- a device whose disks stay

module _ (parts : Parts) (x y : Disks) (past : StorePast) (d : ℕ) (stay : (c : Bool) (s : ℕ) → Stays x y (member_disk d c) s) where
  same_sides : side_of past.told y parts.members d ≡ side_of past.told x parts.members d
  same_sides = λ i. λ c. record {
    up = (side_of past.told x parts.members d c).up;
    boot = (side_of past.told x parts.members d c).boot;
    row = (side_of past.told x parts.members d c).row;
    lasts = (side_of past.told x parts.members d c).lasts;
    wrote = (side_of past.told x parts.members d c).wrote;
    copied = (side_of past.told x parts.members d c).copied;
    place = (side_of past.told x parts.members d c).place;
    reads = λ s. (stay c s).reads i;
    unsure = λ s. (stay c s).unsure i;
  }

  by : (P : (Bool → Side) → Type 0) → P (side_of past.told x parts.members d) → P (side_of past.told y parts.members d)
  by P is = subst P (sym same_sides) is

  sound_still : SameMemberLengths x y → (h : History) → IsDeviceSound parts x past h d → IsDeviceSound parts y past h d
  sound_still lengths h was = record {
    rows = by (λ s. AreRows (store_room parts.made) (last_row past.told.chain d) (rows_before past.told.chain d) s (h.source d)) was.rows;
    hands = by (λ s. AreHanded (store_room parts.made) (last_row past.told.chain d) (rows_before past.told.chain d) (handings d past.told.handed) s (h.source d)) was.hands;
    copies = by (λ s. AreCopies (store_room parts.made) (last_row past.told.chain d) (rows_before past.told.chain d) s (h.copies d) (h.copieds d) (h.source d)) was.copies;
    writes = by (λ s. AreWrites d past.told.greatest (last_row past.told.chain d) (rows_before past.told.chain d) s (h.writes d) (h.wrotes d) h.actual (outs_of parts.nodes) (knows_of parts.nodes d) (IsClaimed (last past.told.chain) past.told.greatest)) was.writes;
    wrotes = by (λ s. AreWrotes (last_row past.told.chain d) (rows_before past.told.chain d) s (h.writes d) (h.wrotes d)) was.wrotes;
    outs = by (λ s. AreOuts d (store_room parts.made) past.told.greatest (last_row past.told.chain d) (rows_before past.told.chain d) (handings d past.told.handed) s (h.writes d) (h.wrotes d) h.actual (outs_of parts.nodes) (knows_of parts.nodes d)
        (IsClaimed (last past.told.chain) past.told.greatest)) was.outs;
    coming = was.coming;
    answering = was.answering;
    copying = was.copying;
    copied_to = was.copied_to;
    labels = λ c needs. let k = stay c 0 in label_kept parts.made x y (member_disk d c) k.reads (λ sure. k.unsure ∙ sure) (lengths_at x y lengths d c) (was.labels c needs);
    down = was.down;
    known = was.known;
  }

  pub stands_still : (From : DeviceRow → Type 0) (sector : ℕ) (content : List ℕ) → StandsFor From parts x past d sector content → StandsFor From parts y past d sector content
  stands_still From sector content stands =
      by (λ s. DeviceStands d past.told.greatest From (last_row past.told.chain d) (rows_before past.told.chain d) (handings d past.told.handed) s (IsComing past.told.letters d) past.writes sector content) stands

  pub stands_on_still : (sector : ℕ) (content : List ℕ) (index : ℕ) → StandsOn parts x past d sector content index → StandsOn parts y past d sector content index
  stands_on_still sector content index stands = let set = stands.settled in record {
    settled = record { device = set.device; behind_label = set.behind_label; within = set.within; is = stands_still Nowhere sector content set.is };
    stands = stands_still (KnownFrom past.told.chain d index) sector content stands.stands;
  }

-- what is read goes on where what stands on its device does
pub reads_with : (parts : Parts) (x y : Disks) (past : StorePast) (n : ℕ) (a : Asking) (sector : ℕ) (content : List ℕ) → WillReadOn parts x past n a sector content
    → ((From : DeviceRow → Type 0) → StandsFor From parts x past a.device sector content → StandsFor From parts y past a.device sector content) → WillReadOn parts y past n a sector content
reads_with parts x y past n a sector content will goes = record {
  device = will.device;
  behind_label = will.behind_label;
  within = will.within;
  row = will.row;
  row_is = will.row_is;
  stands = goes (FromEpoch will.row.epoch) will.stands;
  coming = will.coming;
  came = will.came;
}

-- ---- all devices

-- what the disks hold matters to devices alone
pub with_disks : (parts : Parts) (x y : Disks) (past : StorePast) (keeps : Keeps parts x past) → ((d : ℕ) → d < parts.made.devices → IsDeviceSound parts y past keeps.history d) → Keeps parts y past
with_disks parts x y past keeps sound = record {
  history = keeps.history;
  devices = sound;
  count = keeps.count;
  rising = keeps.rising;
  highest = keeps.highest;
  placed = keeps.placed;
  actual_sent = keeps.actual_sent;
  out_actual = keeps.out_actual;
  out_number = keeps.out_number;
  actual_given = keeps.actual_given;
  sendable = keeps.sendable;
  holding = keeps.holding;
  askable = keeps.askable;
  epochs = keeps.epochs;
  owing = keeps.owing;
  from_members = keeps.from_members;
  own_out = keeps.own_out;
  lasts = keeps.lasts;
  brings = keeps.brings;
  noted = keeps.noted;
  asking = keeps.asking;
  asked = keeps.asked;
  node_known = keeps.node_known;
  node_of = keeps.node_of;
  boot_of = keeps.boot_of;
  sessions = keeps.sessions;
  booted = keeps.booted;
  owned = keeps.owned;
  single = keeps.single;
  found_most = keeps.found_most;
  in_order = keeps.in_order;
  left = keeps.left;
  numbered = keeps.numbered;
  tagged = keeps.tagged;
  read_tagged = keeps.read_tagged;
  member_boots = keeps.member_boots;
  node_boots = keeps.node_boots;
}

pub disks_stay : (parts : Parts) (x y : Disks) (past : StorePast) → Keeps parts x past → SameMemberLengths x y → ((d : ℕ) → d < parts.made.devices → (c : Bool) (s : ℕ) → Stays x y (member_disk d c) s) → Keeps parts y past
disks_stay parts x y past keeps lengths stay = with_disks parts x y past keeps (λ d within. sound_still parts x y past d (stay d within) lengths keeps.history (keeps.devices d within))

pub all_survives : (parts : Parts) (x y : Disks) (past : StorePast) (device : ℕ) (second : Bool) → Keeps parts x past → past.told.down (Member (member_at device second)) ≡ true → SameMemberLengths x y → Crashes (3 + member_at device second) x y → Keeps parts y past
all_survives parts x y past device second keeps down lengths crashes = with_disks parts x y past keeps (λ d within. elim (same_or d device) [
  | inl e ↦ subst (λ (k : ℕ). IsDeviceSound parts y past keeps.history k) (sym e) (survives parts x y past keeps.history device second (subst (λ (k : ℕ). IsDeviceSound parts x past keeps.history k) e (keeps.devices d within)) down lengths crashes)
  | inr e ↦ sound_still parts x y past d (λ c s. crashes.others (member_disk d c) s (other_disk device d second c e)) lengths keeps.history (keeps.devices d within)
])

pub all_replaced : (parts : Parts) (x y : Disks) (past : StorePast) (device : ℕ) (second : Bool) → Keeps parts x past → past.told.down (Member (member_at device second)) ≡ true → IsSideAlone (row_of (last past.told.chain) device) second
    → SameMemberLengths x y → ((k s : ℕ) → k ≢ 3 + member_at device second → Stays x y k s) → Keeps parts y past
all_replaced parts x y past device second keeps down alone lengths others = with_disks parts x y past keeps (λ d within. elim (same_or d device) [
  | inl e ↦ subst (λ (k : ℕ). IsDeviceSound parts y past keeps.history k) (sym e) (replaced parts x y past keeps.history device second (subst (λ (k : ℕ). IsDeviceSound parts x past keeps.history k) e (keeps.devices d within)) down alone lengths others)
  | inr e ↦ sound_still parts x y past d (λ c s. others (member_disk d c) s (other_disk device d second c e)) lengths keeps.history (keeps.devices d within)
])

-- and what stands goes on
pub survives_stands : (parts : Parts) (x y : Disks) (past : StorePast) (device d : ℕ) (second : Bool) (sector : ℕ) (content : List ℕ) (index : ℕ) → Keeps parts x past → past.told.down (Member (member_at device second)) ≡ true → SameMemberLengths x y → Crashes (3 + member_at device second) x y
    → StandsOn parts x past d sector content index → StandsOn parts y past d sector content index
survives_stands parts x y past device d second sector content index keeps down lengths crashes stands = elim (same_or d device) [
  | inl e ↦ subst (λ (k : ℕ). StandsOn parts x past k sector content index → StandsOn parts y past k sector content index) (sym e)
      (λ s. survives_on parts x y past keeps.history device second (keeps.devices device s.settled.device) down lengths crashes sector content index s) stands
  | inr e ↦ stands_on_still parts x y past d (λ c s. crashes.others (member_disk d c) s (other_disk device d second c e)) sector content index stands
]

pub replaced_stands : (parts : Parts) (x y : Disks) (past : StorePast) (device d : ℕ) (second : Bool) (sector : ℕ) (content : List ℕ) (index : ℕ) → Keeps parts x past → past.told.down (Member (member_at device second)) ≡ true
    → IsSideAlone (row_of (last past.told.chain) device) second → SameMemberLengths x y → ((k s : ℕ) → k ≢ 3 + member_at device second → Stays x y k s) → StandsOn parts x past d sector content index → StandsOn parts y past d sector content index
replaced_stands parts x y past device d second sector content index keeps down alone lengths others stands = elim (same_or d device) [
  | inl e ↦ subst (λ (k : ℕ). StandsOn parts x past k sector content index → StandsOn parts y past k sector content index) (sym e)
      (λ s. replaced_on parts x y past keeps.history device second (keeps.devices device s.settled.device) down alone lengths others sector content index s) stands
  | inr e ↦ stands_on_still parts x y past d (λ c s. others (member_disk d c) s (other_disk device d second c e)) sector content index stands
]

-- and what is read does
pub stays_reads : (parts : Parts) (x y : Disks) (past : StorePast) (n : ℕ) (a : Asking) (sector : ℕ) (content : List ℕ) → ((d : ℕ) → d < parts.made.devices → (c : Bool) (s : ℕ) → Stays x y (member_disk d c) s) → WillReadOn parts x past n a sector content → WillReadOn parts y past n a sector content
stays_reads parts x y past n a sector content stay will = reads_with parts x y past n a sector content will (λ From stands. stands_still parts x y past a.device (stay a.device will.device) From sector content stands)

pub stays_stands : (parts : Parts) (x y : Disks) (past : StorePast) (d sector : ℕ) (content : List ℕ) (index : ℕ) → ((k : ℕ) → k < parts.made.devices → (c : Bool) (s : ℕ) → Stays x y (member_disk k c) s) → StandsOn parts x past d sector content index → StandsOn parts y past d sector content index
stays_stands parts x y past d sector content index stay stands = stands_on_still parts x y past d (stay d stands.settled.device) sector content index stands

pub survives_reads : (parts : Parts) (x y : Disks) (past : StorePast) (device : ℕ) (second : Bool) (n : ℕ) (a : Asking) (sector : ℕ) (content : List ℕ) → Keeps parts x past → past.told.down (Member (member_at device second)) ≡ true → SameMemberLengths x y → Crashes (3 + member_at device second) x y
    → WillReadOn parts x past n a sector content → WillReadOn parts y past n a sector content
survives_reads parts x y past device second n a sector content keeps down lengths crashes will = reads_with parts x y past n a sector content will (λ From stands. elim (same_or a.device device) [
  | inl e ↦ subst (λ (k : ℕ). StandsFor From parts x past k sector content → StandsFor From parts y past k sector content) (sym e)
      (λ s. survives_standing parts x y past keeps.history device second (keeps.devices device (subst (λ (k : ℕ). k < parts.made.devices) e will.device)) down lengths crashes From sector content will.behind_label will.within s) stands
  | inr e ↦ stands_still parts x y past a.device (λ c s. crashes.others (member_disk a.device c) s (other_disk device a.device second c e)) From sector content stands
])

pub replaced_reads : (parts : Parts) (x y : Disks) (past : StorePast) (device : ℕ) (second : Bool) (n : ℕ) (a : Asking) (sector : ℕ) (content : List ℕ) → Keeps parts x past → past.told.down (Member (member_at device second)) ≡ true
    → IsSideAlone (row_of (last past.told.chain) device) second → SameMemberLengths x y → ((k s : ℕ) → k ≢ 3 + member_at device second → Stays x y k s) → WillReadOn parts x past n a sector content → WillReadOn parts y past n a sector content
replaced_reads parts x y past device second n a sector content keeps down alone lengths others will = reads_with parts x y past n a sector content will (λ From stands. elim (same_or a.device device) [
  | inl e ↦ subst (λ (k : ℕ). StandsFor From parts x past k sector content → StandsFor From parts y past k sector content) (sym e)
      (λ s. replaced_standing parts x y past keeps.history device second (keeps.devices device (subst (λ (k : ℕ). k < parts.made.devices) e will.device)) down alone lengths others From sector content will.behind_label will.within s) stands
  | inr e ↦ stands_still parts x y past a.device (λ c s. others (member_disk a.device c) s (other_disk device a.device second c e)) From sector content stands
])

-- what is settled goes on as what stands does
pub settles_with : (parts : Parts) (x y : Disks) (past : StorePast) (d sector : ℕ) (content : List ℕ) → IsSettledOn parts x past d sector content → (StandsFor Nowhere parts x past d sector content → StandsFor Nowhere parts y past d sector content) → IsSettledOn parts y past d sector content
settles_with parts x y past d sector content settled goes = record { device = settled.device; behind_label = settled.behind_label; within = settled.within; is = goes settled.is }

pub stays_settled : (parts : Parts) (x y : Disks) (past : StorePast) (d sector : ℕ) (content : List ℕ) → ((k : ℕ) → k < parts.made.devices → (c : Bool) (s : ℕ) → Stays x y (member_disk k c) s) → IsSettledOn parts x past d sector content → IsSettledOn parts y past d sector content
stays_settled parts x y past d sector content stay settled = settles_with parts x y past d sector content settled (λ stands. stands_still parts x y past d (stay d settled.device) Nowhere sector content stands)

pub survives_settled : (parts : Parts) (x y : Disks) (past : StorePast) (device d : ℕ) (second : Bool) (sector : ℕ) (content : List ℕ) → Keeps parts x past → past.told.down (Member (member_at device second)) ≡ true → SameMemberLengths x y → Crashes (3 + member_at device second) x y
    → IsSettledOn parts x past d sector content → IsSettledOn parts y past d sector content
survives_settled parts x y past device d second sector content keeps down lengths crashes settled = settles_with parts x y past d sector content settled (λ stands. elim (same_or d device) [
  | inl e ↦ subst (λ (k : ℕ). StandsFor Nowhere parts x past k sector content → StandsFor Nowhere parts y past k sector content) (sym e)
      (λ s. survives_standing parts x y past keeps.history device second (keeps.devices device (subst (λ (k : ℕ). k < parts.made.devices) e settled.device)) down lengths crashes Nowhere sector content settled.behind_label settled.within s) stands
  | inr e ↦ stands_still parts x y past d (λ c s. crashes.others (member_disk d c) s (other_disk device d second c e)) Nowhere sector content stands
])

pub replaced_settled : (parts : Parts) (x y : Disks) (past : StorePast) (device d : ℕ) (second : Bool) (sector : ℕ) (content : List ℕ) → Keeps parts x past → past.told.down (Member (member_at device second)) ≡ true
    → IsSideAlone (row_of (last past.told.chain) device) second → SameMemberLengths x y → ((k s : ℕ) → k ≢ 3 + member_at device second → Stays x y k s) → IsSettledOn parts x past d sector content → IsSettledOn parts y past d sector content
replaced_settled parts x y past device d second sector content keeps down alone lengths others settled = settles_with parts x y past d sector content settled (λ stands. elim (same_or d device) [
  | inl e ↦ subst (λ (k : ℕ). StandsFor Nowhere parts x past k sector content → StandsFor Nowhere parts y past k sector content) (sym e)
      (λ s. replaced_standing parts x y past keeps.history device second (keeps.devices device (subst (λ (k : ℕ). k < parts.made.devices) e settled.device)) down alone lengths others Nowhere sector content settled.behind_label settled.within s) stands
  | inr e ↦ stands_still parts x y past d (λ c s. others (member_disk d c) s (other_disk device d second c e)) Nowhere sector content stands
])
