-- A step of a member: where it leaves its own device fitting, all members and streams fit.
use Rattle.std.proofs.Common.{◌≡◌, ◌≢◌, ◌⊎◌, inl, inr, ℕ, ◌+◌, ◌-◌, ◌<◌, ◌≤◌, Bool, true, false, Contains, List, sym, ◌∙◌, ap, subst, arith}
use Rattle.std.specs.Prelude.{◌==◌, not, if◌then◌else◌}
use Rattle.std.proofs.lemmas.Bool.Decides.{nat_tests}
use Rattle.bx_base.specs.declared.names.Actor.{Actor}
use Rattle.bx_base.specs.declared.names.Actor.TheVariants.{Member, Node}
use Rattle.bx_disk.specs.Disks.{Disks, Stays, sector_of}
use Rattle.bx_facts.specs.Chains.{last}
use Rattle.bx_facts.specs.Disks.{SameMemberLengths}
use Rattle.bx_facts.specs.Writes.{StorePast, member_disk, store_room}
use Rattle.bx_global.specs.declared.change.Change.{Change}
use Rattle.bx_post.specs.declared.packets.Letter.{Letter}
use Rattle.bx_rows.specs.declared.device.DeviceRow.{DeviceRow}
use Rattle.bx_mirror_laws.specs.Acting.{FromEpoch}
use Rattle.bx_mirror_laws.specs.Sides.{Among, Handing, Side, WriteLetter, Wrote}
use Rattle.bx_mirror_laws.specs.Sound.{AreCopies, AreHanded, AreOuts, AreRows, AreWrites, AreWrotes, DeviceStands}
use Rattle.bx_mirror_packets.specs.DeviceMessages.{Spells}
use Rattle.bx_mirror_packets.specs.declared.message.DeviceMessage.{DeviceMessage}
use Rattle.bx_mirror_packets.specs.declared.message.ReadBody.{ReadBody}
use Rattle.bx_mirror_tables.specs.Lasts.{last_in}
use Rattle.bx_mirror_tables.specs.declared.answers.Owing.{Owing}
use Rattle.bx_mirror_member.specs.Standing.{MemberView as Serving}
use Rattle.bx_mirror_client.specs.Sends.{member_at}
use Rattle.bx_mirror_client.specs.declared.asking.Asking.{Asking}
use Rattle.bx_mirror_server.specs.Sides.{copied_in, wrote_in}
use Rattle.bx_mirror_cluster.specs.Fitting.{History, IsClaimed, IsComing, IsData, IsDeviceSound, IsDrawn, IsFromMember, IsOwing, IsOwnOrLeft, IsReading, IsSettledOn, Keeps, KnownFrom, NeedsLabel, Nowhere, Parts, StandsFor, StandsOn, WillReadOn, handings, knows_of, last_row, outs_of, rows_before, side_of}
use Rattle.bx_mirror_cluster.proofs.Labels.{label_kept, lengths_at}
use Rattle.bx_mirror_cluster.specs.MemberSteps.{DeviceHistory, at_device, history_of, served, with_histories, with_member, with_serving}

same_or : (n m : ℕ) → (n ≡ m) ⊎ (n ≢ m)
same_or n m = grind arith

-- a member's device, and its disk
pub device_is : (k d : ℕ) (c b : Bool) → member_at k c ≡ member_at d b → k ≡ d
device_is k d false false e = omega (arith, e)
device_is k d false true e = omega (arith, e)
device_is k d true false e = omega (arith, e)
device_is k d true true e = omega (arith, e)

pub other_member : (d : ℕ) (b : Bool) → member_at d (not b) ≢ member_at d b
other_member d false e = omega (arith, e)
other_member d true e = omega (arith, e)

disk_is : (k d : ℕ) (c b : Bool) → member_disk k c ≡ member_disk d b → k ≡ d
disk_is k d false false e = omega (arith, e)
disk_is k d false true e = omega (arith, e)
disk_is k d true false e = omega (arith, e)
disk_is k d true true e = omega (arith, e)

-- the history of a device matters to that device alone
pub flat_sound : (parts : Parts) (x : Disks) (past : StorePast) (h : History) (d : ℕ) (all : ℕ → DeviceHistory) (v : DeviceHistory) → all d ≡ v → IsDeviceSound parts x past (with_histories h (λ k. v)) d → IsDeviceSound parts x past (with_histories h all) d
flat_sound parts x past h d all v e is = repack (subst (λ (w : DeviceHistory). IsDeviceSound parts x past (with_histories h (λ k. w)) d) (sym e) is)
  where
    repack : IsDeviceSound parts x past (with_histories h (λ k. all d)) d → IsDeviceSound parts x past (with_histories h all) d
    repack was = record {
      rows = was.rows;
      hands = was.hands;
      copies = was.copies;
      writes = was.writes;
      wrotes = was.wrotes;
      outs = was.outs;
      coming = was.coming;
      answering = was.answering;
      copying = was.copying;
      copied_to = was.copied_to;
      labels = was.labels;
      down = was.down;
      known = was.known;
    }

-- What a step of a member is: its device fits; its disk alone changed; what it sent is from it, and no write; it owes what fits a packet, and its
-- last sequences are those of letters.
pub record IsMemberStep (parts : Parts) (x y : Disks) (past : StorePast) (h : History) (d : ℕ) (b : Bool) (m : Serving) (letters : List Letter) (handed : List Change) (knew : Actor → ℕ) (new : DeviceHistory) : Type 0 where
  pub sound : d < parts.made.devices → IsDeviceSound (with_serving parts (member_at d b) m) y (served past letters handed knew) (with_histories h (λ k. new)) d
  pub boot : m.boot ≡ (parts.members (member_at d b)).boot
  pub disks : (k s : ℕ) → k ≢ member_disk d b → Stays x y k s
  pub lengths : SameMemberLengths x y
  pub sent : (l : Letter) → Contains letters l → Contains past.told.letters l ⊎ ((l.from ≡ Member (member_at d b)) × (18 < l.kind))
  pub handed_other : (k : ℕ) → k ≢ d → handings k handed ≡ handings k past.told.handed
  pub knew_other : (who : Actor) → who ≢ Member (member_at d b) → knew who ≡ past.told.knew who
  pub owing : (o : Owing) → Contains m.owed o → IsOwing (member_at d b) o
  pub spoken : (l : Letter) (message : DeviceMessage) → Contains letters l → Spells message l.kind l.body → Contains past.told.letters l ⊎ IsFromMember message l.from
  pub lasts : (session : ℕ) → (last_in m.lasts session ≡ 0) ⊎ ((l : WriteLetter) × Among (h.writes d) l × (l.session ≡ session) × (l.sequence ≡ last_in m.lasts session))
  pub wrotes : (w : Wrote) → Among (h.wrotes d) w → Among new.wrotes w

module _ (parts : Parts) (x y : Disks) (past : StorePast) (keeps : Keeps parts x past) (d : ℕ) (b : Bool) (m : Serving) (letters : List Letter) (handed : List Change) (knew : Actor → ℕ) (new : DeviceHistory)
    (step : IsMemberStep parts x y past keeps.history d b m letters handed knew new) where
  abbrev h : History
  h = keeps.history

  abbrev n : ℕ
  n = member_at d b

  abbrev members_next : ℕ → Serving
  members_next = with_member parts.members n m

  abbrev parts_next : Parts
  parts_next = with_serving parts n m

  abbrev past_next : StorePast
  past_next = served past letters handed knew

  abbrev h_next : History
  h_next = with_histories h (at_device h d new)

  member_here : (k : ℕ) → k ≡ n → members_next k ≡ m
  member_here k e = let same : (k == n) ≡ true = grind (arith, nat_tests, e) in ap (λ (t : Bool). if t then m else parts.members k) same

  member_other : (k : ℕ) → k ≢ n → members_next k ≡ parts.members k
  member_other k e = let other : (k == n) ≡ false = grind (arith, nat_tests, e) in ap (λ (t : Bool). if t then m else parts.members k) other

  view_here : at_device h d new d ≡ new
  view_here = let same : (d == d) ≡ true = grind (arith, nat_tests) in ap (λ (t : Bool). if t then new else history_of h d) same

  view_other : (k : ℕ) → k ≢ d → at_device h d new k ≡ history_of h k
  view_other k e = let other : (k == d) ≡ false = grind (arith, nat_tests, e) in ap (λ (t : Bool). if t then new else history_of h k) other

  knew_node : (k : ℕ) → knew (Node k) ≡ past.told.knew (Node k)
  knew_node k = step.knew_other (Node k) (λ e. cc)

  -- ---- letters that were there

  not_write : (l : Letter) → Contains letters l → l.kind ≤ 18 → Contains past.told.letters l
  not_write l there low = elim (step.sent l there) [
    | inl old ↦ old
    | inr new_one ↦ absurd (let high = new_one.1 in omega (arith, high, low))
  ]

  not_its : (l : Letter) (who : Actor) → Contains letters l → l.from ≡ who → who ≢ Member n → Contains past.told.letters l
  not_its l who there from apart = elim (step.sent l there) [
    | inl old ↦ old
    | inr new_one ↦ absurd (apart (sym from ∙ new_one.0))
  ]

  was_reading : (k : ℕ) (r : ReadBody) → IsReading letters k r → IsReading past.told.letters k r
  was_reading k r read = record { letter = read.letter; there = not_its read.letter (Node k) read.there read.from (λ e. cc); spells = read.spells; from = read.from }

  pub was_coming : (k : ℕ) (l : WriteLetter) → IsComing letters k l → IsComing past.told.letters k l
  was_coming k l c = record { letter = c.letter; there = not_write c.letter c.there (let e = c.spells.kind_is in let most = c.spells.is.most in omega (arith, e, most)); write = c.write; spells = c.spells; to = c.to; device = c.device; session = c.session; epoch_is = c.epoch_is; sequence = c.sequence; until = c.until; runs = c.runs }

  of_other : (k : ℕ) (c : Bool) → k ≢ d → Member (member_at k c) ≢ Member n
  of_other k c apart e = apart (device_is k d c b (let same : member_at k c ≡ n = cc in same))

  -- ---- another device

  module _ (k : ℕ) (apart : k ≢ d) where
    same_member : (c : Bool) → members_next (member_at k c) ≡ parts.members (member_at k c)
    same_member c = member_other (member_at k c) (λ e. apart (device_is k d c b e))

    stay : (c : Bool) (s : ℕ) → Stays x y (member_disk k c) s
    stay c s = step.disks (member_disk k c) s (λ e. apart (disk_is k d c b e))

    same_sides : side_of past_next.told y members_next k ≡ side_of past.told x parts.members k
    same_sides = λ i. λ c. record {
      up = not (past.told.down (Member (member_at k c)));
      boot = past.told.boots (Member (member_at k c));
      row = ((same_member c) i).row;
      lasts = last_in ((same_member c) i).lasts;
      wrote = wrote_in c ((same_member c) i).owed;
      copied = copied_in c ((same_member c) i).owed;
      place = ((same_member c) i).place;
      reads = λ s. (stay c s).reads i;
      unsure = λ s. (stay c s).unsure i;
    }

    by : (P : (Bool → Side) → List Handing → Type 0) → P (side_of past.told x parts.members k) (handings k past.told.handed) → P (side_of past_next.told y members_next k) (handings k handed)
    by P is = subst (λ (s : Bool → Side). P s (handings k handed)) (sym same_sides) (subst (λ (hs : List Handing). P (side_of past.told x parts.members k) hs) (sym (step.handed_other k apart)) is)

    other_flat : IsDeviceSound parts x past h k → IsDeviceSound parts_next y past_next (with_histories h (λ j. history_of h k)) k
    other_flat was = record {
      rows = by (λ s hs. AreRows (store_room parts.made) (last_row past.told.chain k) (rows_before past.told.chain k) s (h.source k)) was.rows;
      hands = by (λ s hs. AreHanded (store_room parts.made) (last_row past.told.chain k) (rows_before past.told.chain k) hs s (h.source k)) was.hands;
      copies = by (λ s hs. AreCopies (store_room parts.made) (last_row past.told.chain k) (rows_before past.told.chain k) s (h.copies k) (h.copieds k) (h.source k)) was.copies;
      writes = by (λ s hs. AreWrites k past.told.greatest (last_row past.told.chain k) (rows_before past.told.chain k) s (h.writes k) (h.wrotes k) h.actual (outs_of parts.nodes) (knows_of parts.nodes k) (IsClaimed (last past.told.chain) past.told.greatest)) was.writes;
      wrotes = by (λ s hs. AreWrotes (last_row past.told.chain k) (rows_before past.told.chain k) s (h.writes k) (h.wrotes k)) was.wrotes;
      outs = by (λ s hs. AreOuts k (store_room parts.made) past.told.greatest (last_row past.told.chain k) (rows_before past.told.chain k) hs s (h.writes k) (h.wrotes k) h.actual (outs_of parts.nodes) (knows_of parts.nodes k) (IsClaimed (last past.told.chain) past.told.greatest)) was.outs;
      coming = λ l c. was.coming l (was_coming k l c);
      answering = λ w a. was.answering w (record { letter = a.letter; there = not_its a.letter (Member (member_at k w.by)) a.there a.from (of_other k w.by apart); wrote = a.wrote; spells = a.spells; from = a.from; device = a.device; session = a.session; epoch_is = a.epoch_is; sequence = a.sequence });
      copying = λ l a. was.copying l (record { letter = a.letter; there = not_its a.letter (Member (member_at k l.by)) a.there a.from (of_other k l.by apart); copy = a.copy; spells = a.spells; from = a.from; device = a.device; epoch_is = a.epoch_is; place = a.place; bytes = a.bytes });
      copied_to = λ g a. was.copied_to g (record { letter = a.letter; there = not_its a.letter (Member (member_at k g.by)) a.there a.from (of_other k g.by apart); copied = a.copied; spells = a.spells; from = a.from; device = a.device; epoch_is = a.epoch_is; place = a.place });
      labels = λ c needs.
          let l = was.labels c (subst (λ (hs : List Handing). NeedsLabel (last_row past.told.chain k) hs (h.copieds k) (past.told.down (Member (member_at k c))) c) (step.handed_other k apart) needs) in
          let s = stay c 0 in label_kept parts.made x y (member_disk k c) s.reads (λ sure. s.unsure ∙ sure) (lengths_at x y step.lengths k c) l;
      down = λ c is. let old = was.down c is in (ap (λ (q : Serving). q.row) (same_member c) ∙ old.0, ap (λ (q : Serving). q.owed) (same_member c) ∙ old.1);
      known = λ c r is. let old = was.known c r (sym (ap (λ (q : Serving). q.row) (same_member c)) ∙ is) in (old.0, old.1, old.2 ∙ sym (step.knew_other (Member (member_at k c)) (of_other k c apart)), old.3);
    }

    other_stands : (From : DeviceRow → Type 0) (sector : ℕ) (content : List ℕ) → StandsFor From parts x past k sector content → StandsFor From parts_next y past_next k sector content
    other_stands From sector content stands =
        let was = by (λ s hs. DeviceStands k past.told.greatest From (last_row past.told.chain k) (rows_before past.told.chain k) hs s (IsComing past.told.letters k) past.writes sector content) stands in record {
          reads = was.reads;
          sure = was.sure;
          coming = λ c r l other is from may leads comes at come brought. was.coming c r l other is from may leads (was_coming k l comes) at come brought;
        }

  -- ---- all of it

  sound : (k : ℕ) → k < parts.made.devices → IsDeviceSound parts_next y past_next h_next k
  sound k within = elim (same_or k d) [
    | inl e ↦ subst (λ (j : ℕ). IsDeviceSound parts_next y past_next h_next j) (sym e) (flat_sound parts_next y past_next h d (at_device h d new) new view_here (step.sound (subst (λ (j : ℕ). j < parts.made.devices) e within)))
    | inr apart ↦ flat_sound parts_next y past_next h k (at_device h d new) (history_of h k) (view_other k apart) (other_flat k apart (keeps.devices k within))
  ]

  left_then : (node own session : ℕ) → IsOwnOrLeft parts.nodes past.told.chain past.told.knew past.told.boots past.told.down node own session → IsOwnOrLeft parts.nodes past.told.chain knew past.told.boots past.told.down node own session
  left_then node own session was = record {
    boot_most = was.boot_most;
    case = elim was.case [
      | inl older ↦ inl older
      | inr rest ↦ inr (elim rest [
        | inl gone ↦ inl gone
        | inr more ↦ inr (elim more [
          | inl own_it ↦ inl own_it
          | inr behind ↦ inr (let index = behind.index in let same = knew_node node in
              record { state = behind.state; place = behind.place; index = omega (arith, index, same); given = behind.given; other = behind.other })
        ])
      ])
    ];
  }

  lasts_then : (k : ℕ) (c : Bool) (session : ℕ) → (last_in (members_next (member_at k c)).lasts session ≡ 0) ⊎ ((l : WriteLetter) × Among (h.writes k) l × (l.session ≡ session) × (l.sequence ≡ last_in (members_next (member_at k c)).lasts session))
  lasts_then k c session = elim (same_or (member_at k c) n) [
    | inl e ↦ subst (λ (q : Serving). (last_in q.lasts session ≡ 0) ⊎ ((l : WriteLetter) × Among (h.writes k) l × (l.session ≡ session) × (l.sequence ≡ last_in q.lasts session))) (sym (member_here (member_at k c) e))
        (subst (λ (j : ℕ). (last_in m.lasts session ≡ 0) ⊎ ((l : WriteLetter) × Among (h.writes j) l × (l.session ≡ session) × (l.sequence ≡ last_in m.lasts session))) (sym (device_is k d c b e)) (step.lasts session))
    | inr e ↦ subst (λ (q : Serving). (last_in q.lasts session ≡ 0) ⊎ ((l : WriteLetter) × Among (h.writes k) l × (l.session ≡ session) × (l.sequence ≡ last_in q.lasts session))) (sym (member_other (member_at k c) e)) (keeps.lasts k c session)
  ]

  wrotes_then : (k : ℕ) (w : Wrote) → Among (h.wrotes k) w → Among (at_device h d new k).wrotes w
  wrotes_then k w there = elim (same_or k d) [
    | inl e ↦ subst (λ (v : DeviceHistory). Among v.wrotes w) (sym (ap (λ (j : ℕ). at_device h d new j) e ∙ view_here)) (step.wrotes w (subst (λ (j : ℕ). Among (h.wrotes j) w) e there))
    | inr e ↦ subst (λ (v : DeviceHistory). Among v.wrotes w) (sym (view_other k e)) there
  ]

  pub member_keeps : ((k e session epoch tag : ℕ) (bytes : List ℕ) → IsData letters k e session epoch tag bytes → IsData past.told.letters k e session epoch tag bytes ⊎ IsDrawn (last past.told.chain).next_session (keeps.boot_of session) (past.told.boots (Node k)) session tag (parts.nodes k).tag)
      → Keeps parts_next y past_next
  member_keeps data_is = record {
    history = h_next;
    devices = sound;
    count = keeps.count;
    rising = keeps.rising;
    highest = keeps.highest;
    placed = keeps.placed;
    actual_sent = keeps.actual_sent;
    out_actual = keeps.out_actual;
    out_number = keeps.out_number;
    actual_given = keeps.actual_given;
    sendable = keeps.sendable;
    holding = keeps.holding;
    askable = keeps.askable;
    epochs = keeps.epochs;
    owing = λ k o there. elim (same_or k n) [
      | inl e ↦ subst (λ (j : ℕ). IsOwing j o) (sym e) (step.owing o (subst (λ (q : Serving). Contains q.owed o) (member_here k e) there))
      | inr e ↦ keeps.owing k o (subst (λ (q : Serving). Contains q.owed o) (member_other k e) there)
    ];
    own_out = keeps.own_out;
    from_members = λ letter message there spells. elim (step.spoken letter message there spells) [
      | inl old ↦ keeps.from_members letter message old spells
      | inr its ↦ its
    ];
    lasts = lasts_then;
    brings = keeps.brings;
    noted = λ k j epoch c s within is has. wrotes_then j (record { by = c; session = s.session; epoch = epoch; sequence = s.sequence }) (keeps.noted k j epoch c s within is has);
    asking = keeps.asking;
    asked = λ k r a reading is session tag. keeps.asked k r a (was_reading k r reading) is session tag;
    node_known = λ k session is. let old = keeps.node_known k session is in (old.0, old.1, old.2 ∙ sym (knew_node k), old.3, old.4);
    node_of = keeps.node_of;
    boot_of = keeps.boot_of;
    sessions = keeps.sessions;
    booted = keeps.booted;
    owned = keeps.owned;
    single = keeps.single;
    found_most = keeps.found_most;
    in_order = keeps.in_order;
    left = λ w there. left_then (keeps.node_of w.session) (keeps.boot_of w.session) w.session (keeps.left w there);
    numbered = keeps.numbered;
    tagged = λ k e session epoch tag bytes data_. elim (data_is k e session epoch tag bytes data_) [
      | inl old ↦ keeps.tagged k e session epoch tag bytes old
      | inr drawn ↦ drawn
    ];
    read_tagged = λ k r read. keeps.read_tagged k r (was_reading k r read);
    member_boots = λ k there up. elim (same_or k n) [
      | inl e ↦ ap (λ (q : Serving). q.boot) (member_here k e) ∙ step.boot ∙ ap (λ (j : ℕ). (parts.members j).boot) (sym e) ∙ keeps.member_boots k there up
      | inr e ↦ ap (λ (q : Serving). q.boot) (member_other k e) ∙ keeps.member_boots k there up
    ];
    node_boots = keeps.node_boots;
  }

  -- ---- what stands goes on, where it does on its own device

  module _ (sector : ℕ) (content : List ℕ) where
    stands_at : (k : ℕ) → (k ≡ d → (From : DeviceRow → Type 0) → StandsFor From parts x past d sector content → StandsFor From parts_next y past_next d sector content) → (From : DeviceRow → Type 0) → StandsFor From parts x past k sector content → StandsFor From parts_next y past_next k sector content
    stands_at k own From stands = elim (same_or k d) [
      | inl e ↦ subst (λ (j : ℕ). StandsFor From parts_next y past_next j sector content) (sym e) (own e From (subst (λ (j : ℕ). StandsFor From parts x past j sector content) e stands))
      | inr apart ↦ other_stands k apart From sector content stands
    ]

    pub member_settles : (k : ℕ) → (k ≡ d → (From : DeviceRow → Type 0) → StandsFor From parts x past d sector content → StandsFor From parts_next y past_next d sector content) → IsSettledOn parts x past k sector content → IsSettledOn parts_next y past_next k sector content
    member_settles k own settled = record { device = settled.device; behind_label = settled.behind_label; within = settled.within; is = stands_at k own Nowhere settled.is }

    pub member_stands : (k index : ℕ) → (k ≡ d → (From : DeviceRow → Type 0) → StandsFor From parts x past d sector content → StandsFor From parts_next y past_next d sector content) → StandsOn parts x past k sector content index → StandsOn parts_next y past_next k sector content index
    member_stands k index own stands = record { settled = member_settles k own stands.settled; stands = stands_at k own (KnownFrom past.told.chain k index) stands.stands }

    pub member_reads : (k : ℕ) (a : Asking) → (a.device ≡ d → (From : DeviceRow → Type 0) → StandsFor From parts x past d sector content → StandsFor From parts_next y past_next d sector content) → (will : WillReadOn parts x past k a sector content)
        → ((epoch : ℕ) (bytes : List ℕ) → IsData letters k a.device a.session epoch a.tag bytes → will.row.epoch ≤ epoch → a.place ≤ sector → sector < a.place + a.sectors → IsData past.told.letters k a.device a.session epoch a.tag bytes ⊎ (sector_of bytes (sector - a.place) ≡ content))
        → WillReadOn parts_next y past_next k a sector content
    member_reads k a own will data_is = record {
      device = will.device;
      behind_label = will.behind_label;
      within = will.within;
      row = will.row;
      row_is = will.row_is;
      stands = stands_at a.device own (FromEpoch will.row.epoch) will.stands;
      coming = λ epoch bytes data_ from low high. elim (data_is epoch bytes data_ from low high) [
        | inl old ↦ will.coming epoch bytes old from low high
        | inr it ↦ it
      ];
      came = will.came;
    }
