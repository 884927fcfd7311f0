-- A member starts again in a later boot, or its disk fails and it doesn't: all goes on fitting, and what stands goes on.
use Rattle.std.proofs.Common.{◌≡◌, ◌≢◌, ◌⊎◌, inl, inr, ℕ, ◌<◌, ◌≤◌, Bool, true, false, Contains, List, [], Some, None, max, refl, sym, ◌∙◌, ap, subst, arith}
use Rattle.std.specs.Prelude.{◌==◌, not, slice_get, if◌then◌else◌}
use Rattle.std.proofs.lemmas.Bool.Decides.{nat_tests}
use Rattle.bx_base.specs.declared.names.Actor.TheVariants.{Member}
use Rattle.bx_disk.specs.Disks.{Disks, Stays}
use Rattle.bx_facts.proofs.Lists.{nothing}
use Rattle.bx_facts.proofs.Machines.{elsewhere, here}
use Rattle.bx_facts.specs.Chains.{IsPlace, last}
use Rattle.bx_facts.specs.Machines.{put_at}
use Rattle.bx_facts.specs.Writes.{StorePast, member_disk, store_failed, store_restarted, store_room}
use Rattle.bx_global.specs.declared.state.GlobalState.{GlobalState}
use Rattle.bx_rows.specs.Modes.{IsSource}
use Rattle.bx_rows.specs.declared.device.DeviceRow.{DeviceRow}
use Rattle.bx_mirror_laws.specs.Acting.{Acts, Counts, FromEpoch, IsRow}
use Rattle.bx_mirror_laws.specs.Sides.{Among, Handing, Side, WriteLetter}
use Rattle.bx_mirror_laws.specs.Sound.{AreCopies, AreHanded, AreOuts, AreRows, AreWrites, AreWrotes, DeviceStands}
use Rattle.bx_mirror_laws.specs.Steps.{Ages, Silent}
use Rattle.bx_mirror_laws.proofs.Ages.{hands_age, rows_age}
use Rattle.bx_mirror_laws.proofs.Stopping.{silent_ages, silent_copies, silent_outs, silent_stands, silent_writes, silent_wrotes}
use Rattle.bx_mirror_tables.specs.Lasts.{last_in}
use Rattle.bx_mirror_tables.specs.declared.answers.Owing.{Owing}
use Rattle.bx_mirror_tables.specs.declared.lasts.Last.{Last}
use Rattle.bx_mirror_member.specs.Standing.{MemberView as Serving}
use Rattle.bx_mirror_client.specs.Sends.{member_at}
use Rattle.bx_mirror_server.specs.Sides.{copied_in, wrote_in}
use Rattle.bx_mirror_cluster.specs.Fitting.{HasLabel, History, IsClaimed, IsComing, IsDeviceSound, IsSettledOn, Keeps, KnownFrom, NeedsLabel, Nowhere, Parts, StandsFor, handings, knows_of, last_row, outs_of, rows_before, side_of}
use Rattle.bx_mirror_cluster.specs.GoesFurther.{GoesFurther}
use Rattle.bx_mirror_cluster.specs.Learning.{with_clock}
use Rattle.bx_mirror_cluster.specs.MemberSteps.{with_member, with_serving}
use Rattle.bx_mirror_cluster.specs.Starting.{IsBooted, awaking}
use Rattle.bx_mirror_cluster.proofs.Labels.{label_kept, lengths_at, needs_before}
use Rattle.bx_mirror_cluster.proofs.MemberMoves.{both_go, clock_goes}
use Rattle.bx_mirror_cluster.proofs.MemberOwn.{other_disk, two}
use Rattle.bx_mirror_cluster.proofs.MemberSteps.{device_is, other_member}

same_or : (n m : ℕ) → (n ≡ m) ⊎ (n ≢ m)
same_or n m = grind arith

same_disk : (k d : ℕ) (c b : Bool) → member_disk k c ≡ member_disk d b → k ≡ d
same_disk k d false false e = omega (arith, e)
same_disk k d false true e = omega (arith, e)
same_disk k d true false e = omega (arith, e)
same_disk k d true true e = omega (arith, e)

module _ (parts : Parts) (x y : Disks) (past : StorePast) (keeps : Keeps parts x past) (d : ℕ) (b : Bool) (is_down : past.told.down (Member (member_at d b)) ≡ true) (boot : ℕ) (newer : past.told.boots (Member (member_at d b)) < boot)
    (failed : Bool) (m : Serving) (starts : IsBooted parts.made x y d b failed boot m) where
  abbrev n : ℕ
  n = member_at d b

  abbrev h : History
  h = keeps.history

  abbrev past_then : StorePast
  past_then = awaking past n boot failed

  abbrev members_next : ℕ → Serving
  members_next = with_member parts.members n m

  abbrev down : ℕ → Bool
  down k = put_at (Member n) failed past.told.down (Member k)

  member_here : (k : ℕ) → k ≡ n → members_next k ≡ m
  member_here k e = let same : (k == n) ≡ true = grind (arith, nat_tests, e) in ap (λ (t : Bool). if t then m else parts.members k) same

  member_other : (k : ℕ) → k ≢ n → members_next k ≡ parts.members k
  member_other k e = let other : (k == n) ≡ false = grind (arith, nat_tests, e) in ap (λ (t : Bool). if t then m else parts.members k) other

  not_it : (k : ℕ) → k ≢ n → Member k ≢ Member n
  not_it k apart e = apart (let same : k ≡ n = cc in same)

  down_here : (k : ℕ) → k ≡ n → down k ≡ failed
  down_here k e = ap (λ (j : ℕ). down j) e ∙ here (Member n) failed past.told.down

  down_other : (k : ℕ) → k ≢ n → down k ≡ past.told.down (Member k)
  down_other k apart = elsewhere (Member n) (Member k) failed past.told.down (not_it k apart)

  boot_here : (k : ℕ) → k ≡ n → put_at (Member n) boot past.told.boots (Member k) ≡ boot
  boot_here k e = ap (λ (j : ℕ). put_at (Member n) boot past.told.boots (Member j)) e ∙ here (Member n) boot past.told.boots

  boot_other : (k : ℕ) → k ≢ n → put_at (Member n) boot past.told.boots (Member k) ≡ past.told.boots (Member k)
  boot_other k apart = elsewhere (Member n) (Member k) boot past.told.boots (not_it k apart)

  knew_other : (k : ℕ) → k ≢ n → put_at (Member n) 0 past.told.knew (Member k) ≡ past.told.knew (Member k)
  knew_other k apart = elsewhere (Member n) (Member k) 0 past.told.knew (not_it k apart)

  -- a side that isn't the member's stays
  module _ (k : ℕ) (c : Bool) (apart : member_at k c ≢ n) (stay : (s : ℕ) → Stays x y (member_disk k c) s) where
    side_stays : side_of past_then.told y members_next k c ≡ side_of past.told x parts.members k c
    side_stays = λ i. record {
      up = not ((down_other (member_at k c) apart) i);
      boot = (boot_other (member_at k c) apart) i;
      row = ((member_other (member_at k c) apart) i).row;
      lasts = last_in ((member_other (member_at k c) apart) i).lasts;
      wrote = wrote_in c ((member_other (member_at k c) apart) i).owed;
      copied = copied_in c ((member_other (member_at k c) apart) i).owed;
      place = ((member_other (member_at k c) apart) i).place;
      reads = λ s. (stay s).reads i;
      unsure = λ s. (stay s).unsure i;
    }

  down_knows : (k : ℕ) → k < parts.made.devices → (c : Bool) → down (member_at k c) ≡ true → ((members_next (member_at k c)).row ≡ None) × ((members_next (member_at k c)).owed ≡ [])
  down_knows k within c is = elim (same_or (member_at k c) n) [
    | inl e ↦ (let o = member_here (member_at k c) e in (ap (λ (q : Serving). q.row) o ∙ starts.row, ap (λ (q : Serving). q.owed) o ∙ starts.owed))
    | inr apart ↦ (let o = member_other (member_at k c) apart in let old = (keeps.devices k within).down c (sym (down_other (member_at k c) apart) ∙ is) in (ap (λ (q : Serving). q.row) o ∙ old.0, ap (λ (q : Serving). q.owed) o ∙ old.1))
  ]

  knows_state : (k : ℕ) → k < parts.made.devices → (c : Bool) (r : DeviceRow) → (members_next (member_at k c)).row ≡ Some r → (s : GlobalState) × IsPlace past.told.chain s × (s.index ≡ put_at (Member n) 0 past.told.knew (Member (member_at k c))) × (slice_get s.devices k ≡ Some r)
  knows_state k within c r is = elim (same_or (member_at k c) n) [
    | inl e ↦ absurd (let wrong : None ≡ Some r = sym starts.row ∙ sym (ap (λ (q : Serving). q.row) (member_here (member_at k c) e)) ∙ is in cc)
    | inr apart ↦ (let old = (keeps.devices k within).known c r (sym (ap (λ (q : Serving). q.row) (member_other (member_at k c) apart)) ∙ is) in (old.0, old.1, old.2 ∙ sym (knew_other (member_at k c) apart), old.3))
  ]

  -- ---- its own device

  module _ (within : d < parts.made.devices) where
    abbrev sound : IsDeviceSound parts x past h d
    sound = keeps.devices d within

    abbrev sides : Bool → Side
    sides = side_of past.told x parts.members d

    abbrev next : Bool → Side
    next = side_of past_then.told y members_next d

    abbrev room : ℕ
    room = store_room parts.made

    abbrev g : ℕ
    g = past.told.greatest

    abbrev last_ : DeviceRow
    last_ = last_row past.told.chain d

    abbrev older_ : List DeviceRow
    older_ = rows_before past.told.chain d

    abbrev handed : List Handing
    handed = handings d past.told.handed

    other_stays : next (not b) ≡ sides (not b)
    other_stays = side_stays d (not b) (other_member d b) (λ s. starts.disks (member_disk d (not b)) s (other_disk d b))

    member_is : members_next n ≡ m
    member_is = member_here n refl

    was_down : (sides b).up ≡ false
    was_down = ap not is_down

    silent : Silent b last_ older_ (sides b) (next b)
    silent = record {
      is = inr (λ r is. let named = sound.rows.named b r is in let now = boot_here n refl in omega (arith, named, newer, now));
      boot = let now = boot_here n refl in omega (arith, newer, now);
      row = ap (λ (q : Serving). q.row) member_is ∙ starts.row;
      wrote = ap (λ (os : List Owing). wrote_in b os) (ap (λ (q : Serving). q.owed) member_is ∙ starts.owed);
      copied = ap (λ (os : List Owing). copied_in b os) (ap (λ (q : Serving). q.owed) member_is ∙ starts.owed);
    }

    targets : (r : DeviceRow) (s : ℕ) → IsRow last_ older_ r → Acts b (sides b) r → 1 ≤ s → s < room → (next b).reads s ≡ (sides b).reads s
    targets r s is acts low high = starts.reads s low

    filled : (s : ℕ) → 3 ≤ last_.mode → (IsSource last_.mode b → ⊥) → ((sides b).up ≡ true) ⊎ ((sides b).unsure s ≡ false) → 1 ≤ s → ((next b).reads s ≡ (sides b).reads s) × ((sides b).unsure s ≡ false → (next b).unsure s ≡ false)
    filled s copying none evidence low = (starts.reads s low, λ sure. starts.sure s low sure)

    stays_it : (From : DeviceRow → Type 0) (s : ℕ) → 1 ≤ s → s < room → Counts From last_ older_ handed b (sides b) → ((sides b).up ≡ true) ⊎ ((sides b).unsure s ≡ false) → ((next b).reads s ≡ (sides b).reads s) × ((sides b).unsure s ≡ false → (next b).unsure s ≡ false)
    stays_it From s low high counts evidence = (starts.reads s low, λ sure. starts.sure s low sure)

    ages : Ages room last_ older_ sides next (h.source d) (h.source d)
    ages = silent_ages d room g g last_ older_ handed sides next (h.source d) sound.rows b silent other_stays (omega arith) targets filled stays_it

    own_label : NeedsLabel last_ handed (h.copieds d) (down n) b → HasLabel parts.made y (member_disk d b)
    own_label needs = elim needs.is [
      | inl leads ↦ starts.label (inr (sound.labels b (record { is = inl leads })))
      | inr rest ↦ elim rest [
        | inl up ↦ starts.label (inl (sym (down_here n refl) ∙ up))
        | inr taken ↦ starts.label (inr (sound.labels b (record { is = inr (inr taken) })))
      ]
    ]

    labels_then : (c : Bool) → NeedsLabel last_ handed (h.copieds d) (down (member_at d c)) c → HasLabel parts.made y (member_disk d c)
    labels_then c needs = elim (two b c) [
      | inl e ↦ subst (λ (t : Bool). HasLabel parts.made y (member_disk d t)) (sym e) (own_label (subst (λ (t : Bool). NeedsLabel last_ handed (h.copieds d) (down (member_at d t)) t) e needs))
      | inr e ↦ subst (λ (t : Bool). NeedsLabel last_ handed (h.copieds d) (down (member_at d t)) t → HasLabel parts.made y (member_disk d t)) (sym e)
          (λ its. let k = starts.disks (member_disk d (not b)) 0 (other_disk d b) in
          label_kept parts.made x y (member_disk d (not b)) k.reads (λ sure. k.unsure ∙ sure) (lengths_at x y starts.lengths d (not b))
          (sound.labels (not b) (needs_before last_ handed handed (h.copieds d) (past.told.down (Member (member_at d (not b)))) (down (member_at d (not b))) (not b) (λ leads. leads) (λ up. sym (down_other (member_at d (not b)) (other_member d b)) ∙ up) its))) needs
    ]

    own_sound : IsDeviceSound (with_serving parts n m) y past_then h d
    own_sound = record {
      rows = rows_age room last_ older_ sides next (h.source d) (h.source d) sound.rows ages;
      hands = hands_age room last_ older_ sides next (h.source d) (h.source d) sound.rows ages handed sound.hands;
      copies = silent_copies d room g g last_ older_ handed sides next (h.source d) sound.rows b silent other_stays (omega arith) targets filled stays_it (h.copies d) (h.copieds d) sound.copies;
      writes = silent_writes d room g g last_ older_ handed sides next (h.source d) sound.rows b silent other_stays (omega arith) targets filled stays_it (h.writes d) (h.wrotes d) h.actual (outs_of parts.nodes) (knows_of parts.nodes d) (IsClaimed (last past.told.chain) g) sound.writes;
      wrotes = silent_wrotes d room g g last_ older_ handed sides next (h.source d) sound.rows b silent other_stays (omega arith) targets filled stays_it (h.writes d) (h.wrotes d) sound.wrotes;
      outs = silent_outs d room g g last_ older_ handed sides next (h.source d) sound.rows b silent other_stays (omega arith) targets filled stays_it (h.writes d) (h.wrotes d) h.actual (outs_of parts.nodes) (outs_of parts.nodes) (knows_of parts.nodes d) (knows_of parts.nodes d)
          (IsClaimed (last past.told.chain) g) (λ o k sends. sends) sound.wrotes.owed_up sound.outs;
      coming = sound.coming;
      answering = sound.answering;
      copying = sound.copying;
      copied_to = sound.copied_to;
      labels = labels_then;
      down = down_knows d within;
      known = knows_state d within;
    }

    own_stands : (From : DeviceRow → Type 0) (sector : ℕ) (content : List ℕ) → 1 ≤ sector → sector < room → StandsFor From parts x past d sector content → StandsFor From (with_serving parts n m) y past_then d sector content
    own_stands From sector content low high stands =
        silent_stands d room g g last_ older_ handed sides next (h.source d) sound.rows b silent other_stays (omega arith) targets filled stays_it From (IsComing past.told.letters d) past.writes sector content low high stands

  -- ---- another one

  module _ (k : ℕ) (apart : k ≢ d) where
    stay : (c : Bool) (s : ℕ) → Stays x y (member_disk k c) s
    stay c s = starts.disks (member_disk k c) s (λ e. apart (same_disk k d c b e))

    not_member : (c : Bool) → member_at k c ≢ n
    not_member c e = apart (device_is k d c b e)

    same_sides : side_of past_then.told y members_next k ≡ side_of past.told x parts.members k
    same_sides = λ i. λ c. (side_stays k c (not_member c) (stay c)) i

    by : (P : (Bool → Side) → Type 0) → P (side_of past.told x parts.members k) → P (side_of past_then.told y members_next k)
    by P is = subst P (sym same_sides) is

    other_sound : k < parts.made.devices → IsDeviceSound (with_serving parts n m) y past_then h k
    other_sound within = let was = keeps.devices k within in record {
      rows = by (λ s. AreRows (store_room parts.made) (last_row past.told.chain k) (rows_before past.told.chain k) s (h.source k)) was.rows;
      hands = by (λ s. AreHanded (store_room parts.made) (last_row past.told.chain k) (rows_before past.told.chain k) (handings k past.told.handed) s (h.source k)) was.hands;
      copies = by (λ s. AreCopies (store_room parts.made) (last_row past.told.chain k) (rows_before past.told.chain k) s (h.copies k) (h.copieds k) (h.source k)) was.copies;
      writes = by (λ s. AreWrites k past.told.greatest (last_row past.told.chain k) (rows_before past.told.chain k) s (h.writes k) (h.wrotes k) h.actual (outs_of parts.nodes) (knows_of parts.nodes k) (IsClaimed (last past.told.chain) past.told.greatest)) was.writes;
      wrotes = by (λ s. AreWrotes (last_row past.told.chain k) (rows_before past.told.chain k) s (h.writes k) (h.wrotes k)) was.wrotes;
      outs = by (λ s. AreOuts k (store_room parts.made) past.told.greatest (last_row past.told.chain k) (rows_before past.told.chain k) (handings k past.told.handed) s (h.writes k) (h.wrotes k) h.actual (outs_of parts.nodes) (knows_of parts.nodes k) (IsClaimed (last past.told.chain) past.told.greatest)) was.outs;
      coming = was.coming;
      answering = was.answering;
      copying = was.copying;
      copied_to = was.copied_to;
      labels = λ c needs. let s = stay c 0 in label_kept parts.made x y (member_disk k c) s.reads (λ sure. s.unsure ∙ sure) (lengths_at x y starts.lengths k c)
          (was.labels c (needs_before (last_row past.told.chain k) (handings k past.told.handed) (handings k past.told.handed) (h.copieds k) (past.told.down (Member (member_at k c))) (down (member_at k c)) c (λ leads. leads) (λ up. sym (down_other (member_at k c) (not_member c)) ∙ up) needs));
      down = down_knows k within;
      known = knows_state k within;
    }

    other_stands : (From : DeviceRow → Type 0) (sector : ℕ) (content : List ℕ) → StandsFor From parts x past k sector content → StandsFor From (with_serving parts n m) y past_then k sector content
    other_stands From sector content stands =
        by (λ s. DeviceStands k past.told.greatest From (last_row past.told.chain k) (rows_before past.told.chain k) (handings k past.told.handed) s (IsComing past.told.letters k) past.writes sector content) stands

  -- ---- all of it

  stands_for : (From : DeviceRow → Type 0) (k sector : ℕ) (content : List ℕ) → k < parts.made.devices → 1 ≤ sector → sector < store_room parts.made → StandsFor From parts x past k sector content → StandsFor From (with_serving parts n m) y past_then k sector content
  stands_for From k sector content within low high stands = elim (same_or k d) [
    | inl e ↦ subst (λ (j : ℕ). StandsFor From parts x past j sector content → StandsFor From (with_serving parts n m) y past_then j sector content) (sym e)
        (λ s. own_stands (subst (λ (j : ℕ). j < parts.made.devices) e within) From sector content low high s) stands
    | inr apart ↦ other_stands k apart From sector content stands
  ]

  starts_keeps : Keeps (with_serving parts n m) y past_then
  starts_keeps = record {
    history = h;
    devices = λ k within. elim (same_or k d) [
      | inl e ↦ subst (λ (j : ℕ). IsDeviceSound (with_serving parts n m) y past_then h j) (sym e) (own_sound (subst (λ (j : ℕ). j < parts.made.devices) e within))
      | inr apart ↦ other_sound k apart within
    ];
    count = keeps.count;
    rising = keeps.rising;
    highest = keeps.highest;
    placed = keeps.placed;
    actual_sent = keeps.actual_sent;
    out_actual = keeps.out_actual;
    out_number = keeps.out_number;
    actual_given = keeps.actual_given;
    sendable = keeps.sendable;
    holding = keeps.holding;
    askable = keeps.askable;
    epochs = keeps.epochs;
    owing = λ k o there. elim (same_or k n) [
      | inl e ↦ absurd (nothing o (subst (λ (os : List Owing). Contains os o) (ap (λ (q : Serving). q.owed) (member_here k e) ∙ starts.owed) there))
      | inr e ↦ keeps.owing k o (subst (λ (q : Serving). Contains q.owed o) (member_other k e) there)
    ];
    from_members = keeps.from_members;
    own_out = keeps.own_out;
    lasts = λ k c session. elim (same_or (member_at k c) n) [
      | inl e ↦ inl (ap (λ (ls : List Last). last_in ls session) (ap (λ (q : Serving). q.lasts) (member_here (member_at k c) e) ∙ starts.lasts))
      | inr e ↦ subst (λ (q : Serving). (last_in q.lasts session ≡ 0) ⊎ ((l : WriteLetter) × Among (h.writes k) l × (l.session ≡ session) × (l.sequence ≡ last_in q.lasts session))) (sym (member_other (member_at k c) e)) (keeps.lasts k c session)
    ];
    brings = keeps.brings;
    noted = keeps.noted;
    asking = keeps.asking;
    asked = keeps.asked;
    node_known = keeps.node_known;
    node_of = keeps.node_of;
    boot_of = keeps.boot_of;
    sessions = keeps.sessions;
    booted = keeps.booted;
    owned = keeps.owned;
    single = keeps.single;
    found_most = keeps.found_most;
    in_order = keeps.in_order;
    left = λ w there. let was = keeps.left w there in record { boot_most = was.boot_most; case = was.case };
    numbered = keeps.numbered;
    tagged = keeps.tagged;
    read_tagged = keeps.read_tagged;
    member_boots = λ k there up. elim (same_or k n) [
      | inl e ↦ ap (λ (q : Serving). q.boot) (member_here k e) ∙ starts.boot_is (sym (down_here k e) ∙ up) ∙ sym (boot_here k e)
      | inr e ↦ ap (λ (q : Serving). q.boot) (member_other k e) ∙ keeps.member_boots k there (sym (down_other k e) ∙ up) ∙ sym (boot_other k e)
    ];
    node_boots = keeps.node_boots;
  }

  starts_settles : (k sector : ℕ) (content : List ℕ) → IsSettledOn parts x past k sector content → IsSettledOn (with_serving parts n m) y past_then k sector content
  starts_settles k sector content settled = record { device = settled.device; behind_label = settled.behind_label; within = settled.within; is = stands_for Nowhere k sector content settled.device settled.behind_label settled.within settled.is }

  pub starts_goes : GoesFurther parts (with_serving parts n m) x y past past_then
  starts_goes = record {
    keeps = starts_keeps;
    settles = λ k sector content only settled. starts_settles k sector content settled;
    stands = λ k sector content index only stands. record {
      settled = starts_settles k sector content stands.settled;
      stands = stands_for (KnownFrom past.told.chain k index) k sector content stands.settled.device stands.settled.behind_label stands.settled.within stands.stands;
    };
    reads = λ reader a sector content asks only will. record {
      device = will.device;
      behind_label = will.behind_label;
      within = will.within;
      row = will.row;
      row_is = will.row_is;
      stands = stands_for (FromEpoch will.row.epoch) a.device sector content will.device will.behind_label will.within will.stands;
      coming = will.coming;
      came = will.came;
    };
    nodes = refl;
    writes = refl;
    rises = omega arith;
  }

-- with the reading that it has
module _ (parts : Parts) (x y : Disks) (past : StorePast) (d : ℕ) (b : Bool) (boot reading : ℕ) (m : Serving) (keeps : Keeps parts x past) (is_down : past.told.down (Member (member_at d b)) ≡ true) (newer : past.told.boots (Member (member_at d b)) < boot) where
  abbrev risen : StorePast
  risen = with_clock past (max past.told.greatest reading)

  first : GoesFurther parts parts x x past risen
  first = clock_goes parts x past (max past.told.greatest reading) (omega arith) keeps

  pub restarts_goes : IsBooted parts.made x y d b false boot m → GoesFurther parts (with_serving parts (member_at d b) m) x y past (store_restarted past (Member (member_at d b)) boot reading)
  restarts_goes starts = both_go parts parts (with_serving parts (member_at d b) m) x x y past risen (store_restarted past (Member (member_at d b)) boot reading) first (starts_goes parts x y risen first.keeps d b is_down boot newer false m starts)

  pub fails_goes : IsBooted parts.made x y d b true boot m → GoesFurther parts (with_serving parts (member_at d b) m) x y past (store_failed past (Member (member_at d b)) boot reading)
  fails_goes starts = both_go parts parts (with_serving parts (member_at d b) m) x x y past risen (store_failed past (Member (member_at d b)) boot reading) first (starts_goes parts x y risen first.keeps d b is_down boot newer true m starts)
