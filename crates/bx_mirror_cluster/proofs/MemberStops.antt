-- A member stops: what it knew and owed is gone, its disk stays, and all goes on fitting.
use Rattle.std.proofs.Common.{◌≡◌, ◌≢◌, ◌⊎◌, inl, inr, ℕ, ◌<◌, ◌≤◌, Bool, true, false, Contains, List, [], Some, None, refl, sym, ◌∙◌, ap, subst, arith}
use Rattle.std.specs.Prelude.{not, slice_get}
use Rattle.bx_base.specs.declared.names.Actor.TheVariants.{Member}
use Rattle.bx_disk.specs.Disks.{Disks}
use Rattle.bx_facts.proofs.Lists.{nothing}
use Rattle.bx_facts.proofs.Machines.{elsewhere, here}
use Rattle.bx_facts.specs.Chains.{IsPlace, last}
use Rattle.bx_facts.specs.Machines.{put_at}
use Rattle.bx_facts.specs.Writes.{StorePast, member_disk, store_crashed, store_room}
use Rattle.bx_mirror_cluster.proofs.Labels.{needs_before}
use Rattle.bx_rows.specs.declared.device.DeviceRow.{DeviceRow}
use Rattle.bx_global.specs.declared.state.GlobalState.{GlobalState}
use Rattle.bx_mirror_client.specs.declared.asking.Asking.{Asking}
use Rattle.bx_mirror_laws.specs.Acting.{FromEpoch}
use Rattle.bx_mirror_laws.specs.Sides.{Among, Side, WriteLetter}
use Rattle.bx_mirror_laws.specs.Sound.{AreCopies, AreHanded, AreOuts, AreRows, AreWrites, AreWrotes, DeviceStands}
use Rattle.bx_mirror_laws.specs.Steps.{Ages, Silent}
use Rattle.bx_mirror_laws.proofs.Ages.{hands_age, rows_age}
use Rattle.bx_mirror_laws.proofs.Stopping.{silent_ages, silent_copies, silent_outs, silent_stands, silent_writes, silent_wrotes}
use Rattle.bx_mirror_tables.specs.declared.answers.Owing.{Owing}
use Rattle.bx_mirror_tables.specs.Lasts.{last_in}
use Rattle.bx_mirror_tables.specs.declared.lasts.Last.{Last}
use Rattle.bx_mirror_member.specs.Standing.{MemberView as Serving}
use Rattle.bx_mirror_client.specs.Sends.{member_at}
use Rattle.bx_mirror_cluster.specs.Fitting.{HasLabel, History, IsClaimed, IsComing, IsDeviceSound, IsSettledOn, Keeps, KnownFrom, NeedsLabel, Nowhere, Parts, StandsFor, StandsOn, WillReadOn, handings, knows_of, last_row, outs_of, rows_before, side_of}
use Rattle.bx_mirror_cluster.specs.Stopping.{Stops}
use Rattle.bx_mirror_server.specs.Sides.{copied_in, wrote_in}

same_or : (n m : ℕ) → (n ≡ m) ⊎ (n ≢ m)
same_or n m = grind arith

module _ (parts : Parts) (x : Disks) (past : StorePast) (n : ℕ) (members : ℕ → Serving) (stops : Stops parts members n) where
  abbrev down : ℕ → Bool
  down k = put_at (Member n) true past.told.down (Member k)

  down_here : (k : ℕ) → k ≡ n → down k ≡ true
  down_here k e = ap (λ (m : ℕ). put_at (Member n) true past.told.down (Member m)) e ∙ here (Member n) true past.told.down

  down_other : (k : ℕ) → k ≢ n → down k ≡ past.told.down (Member k)
  down_other k apart = elsewhere (Member n) (Member k) true past.told.down (λ e. apart (let m : k ≡ n = cc in m))

  module _ (h : History) (d : ℕ) (was : IsDeviceSound parts x past h d) where
    abbrev sides : Bool → Side
    sides = side_of past.told x parts.members d

    abbrev next : Bool → Side
    next = side_of (store_crashed past (Member n)).told x members d

    same_side : (c : Bool) → member_at d c ≢ n → next c ≡ sides c
    same_side c apart = let e = down_other (member_at d c) apart in let o = stops.others (member_at d c) apart in λ i. record {
      up = not (e i);
      boot = (sides c).boot;
      row = (o i).row;
      lasts = last_in (o i).lasts;
      wrote = wrote_in c (o i).owed;
      copied = copied_in c (o i).owed;
      place = (o i).place;
      reads = (sides c).reads;
      unsure = (sides c).unsure;
    }

    down_knows : (b : Bool) → down (member_at d b) ≡ true → ((members (member_at d b)).row ≡ None) × ((members (member_at d b)).owed ≡ [])
    down_knows b is = elim (same_or (member_at d b) n) [
      | inl e ↦ (ap (λ (k : ℕ). (members k).row) e ∙ stops.row, ap (λ (k : ℕ). (members k).owed) e ∙ stops.owed)
      | inr e ↦ (let old = was.down b (sym (down_other (member_at d b) e) ∙ is) in let o = stops.others (member_at d b) e in (ap (λ (m : Serving). m.row) o ∙ old.0, ap (λ (m : Serving). m.owed) o ∙ old.1))
    ]

    knew : (b : Bool) (r : DeviceRow) → (members (member_at d b)).row ≡ Some r → (s : GlobalState) × IsPlace past.told.chain s × (s.index ≡ past.told.knew (Member (member_at d b))) × (slice_get s.devices d ≡ Some r)
    knew b r is = elim (same_or (member_at d b) n) [
      | inl e ↦ absurd (let no : None ≡ Some r = sym stops.row ∙ sym (ap (λ (k : ℕ). (members k).row) e) ∙ is in cc)
      | inr e ↦ was.known b r (sym (ap (λ (m : Serving). m.row) (stops.others (member_at d b) e)) ∙ is)
    ]

    labels_then : (c : Bool) → NeedsLabel (last_row past.told.chain d) (handings d past.told.handed) (h.copieds d) (down (member_at d c)) c → HasLabel parts.made x (member_disk d c)
    labels_then c needs = was.labels c (needs_before (last_row past.told.chain d) (handings d past.told.handed) (handings d past.told.handed) (h.copieds d) (past.told.down (Member (member_at d c))) (down (member_at d c)) c (λ leads. leads)
        (λ up. elim (same_or (member_at d c) n) [
          | inl e ↦ absurd (let no : true ≡ false = sym (down_here (member_at d c) e) ∙ up in cc)
          | inr e ↦ sym (down_other (member_at d c) e) ∙ up
        ]) needs)

    -- its own device
    module _ (b : Bool) (it : member_at d b ≡ n) (other : member_at d (not b) ≢ n) where
      silent : Silent b (last_row past.told.chain d) (rows_before past.told.chain d) (sides b) (next b)
      silent = record {
        is = inl (ap not (down_here (member_at d b) it));
        boot = omega arith;
        row = ap (λ (k : ℕ). (members k).row) it ∙ stops.row;
        wrote = ap (λ (os : List Owing). wrote_in b os) (ap (λ (k : ℕ). (members k).owed) it ∙ stops.owed);
        copied = ap (λ (os : List Owing). copied_in b os) (ap (λ (k : ℕ). (members k).owed) it ∙ stops.owed);
      }

      own_sound : IsDeviceSound (record parts { members = members }) x (store_crashed past (Member n)) h d
      own_sound =
          let room = store_room parts.made in
          let g = past.told.greatest in
          let o = same_side (not b) other in
          let ages : Ages room (last_row past.told.chain d) (rows_before past.told.chain d) sides next (h.source d) (h.source d) =
          silent_ages d room g g (last_row past.told.chain d) (rows_before past.told.chain d) (handings d past.told.handed) sides next (h.source d) was.rows b silent o (omega arith)
          (λ r s is acts low high. refl) (λ s copying none ev low. (refl, λ sure. sure)) (λ From s low high counts ev. (refl, λ sure. sure)) in
          record {
            rows = rows_age room (last_row past.told.chain d) (rows_before past.told.chain d) sides next (h.source d) (h.source d) was.rows ages;
            hands = hands_age room (last_row past.told.chain d) (rows_before past.told.chain d) sides next (h.source d) (h.source d) was.rows ages (handings d past.told.handed) was.hands;
            copies = silent_copies d room g g (last_row past.told.chain d) (rows_before past.told.chain d) (handings d past.told.handed) sides next (h.source d) was.rows b silent o (omega arith)
                (λ r s is acts low high. refl) (λ s copying none ev low. (refl, λ sure. sure)) (λ From s low high counts ev. (refl, λ sure. sure)) (h.copies d) (h.copieds d) was.copies;
            writes = silent_writes d room g g (last_row past.told.chain d) (rows_before past.told.chain d) (handings d past.told.handed) sides next (h.source d) was.rows b silent o (omega arith)
                (λ r s is acts low high. refl) (λ s copying none ev low. (refl, λ sure. sure)) (λ From s low high counts ev. (refl, λ sure. sure)) (h.writes d) (h.wrotes d) h.actual (outs_of parts.nodes) (knows_of parts.nodes d) (IsClaimed (last past.told.chain) g) was.writes;
            wrotes = silent_wrotes d room g g (last_row past.told.chain d) (rows_before past.told.chain d) (handings d past.told.handed) sides next (h.source d) was.rows b silent o (omega arith)
                (λ r s is acts low high. refl) (λ s copying none ev low. (refl, λ sure. sure)) (λ From s low high counts ev. (refl, λ sure. sure)) (h.writes d) (h.wrotes d) was.wrotes;
            outs = silent_outs d room g g (last_row past.told.chain d) (rows_before past.told.chain d) (handings d past.told.handed) sides next (h.source d) was.rows b silent o (omega arith)
                (λ r s is acts low high. refl) (λ s copying none ev low. (refl, λ sure. sure)) (λ From s low high counts ev. (refl, λ sure. sure)) (h.writes d) (h.wrotes d) h.actual (outs_of parts.nodes) (outs_of parts.nodes) (knows_of parts.nodes d) (knows_of parts.nodes d)
                (IsClaimed (last past.told.chain) g) (λ q k sends. sends) was.wrotes.owed_up was.outs;
            coming = was.coming;
            answering = was.answering;
            copying = was.copying;
            copied_to = was.copied_to;
            labels = labels_then;
            down = down_knows;
            known = knew;
          }

      own_stands : (From : DeviceRow → Type 0) (sector : ℕ) (content : List ℕ) → 1 ≤ sector → sector < store_room parts.made → StandsFor From parts x past d sector content → StandsFor From (record parts { members = members }) x (store_crashed past (Member n)) d sector content
      own_stands From sector content low high stands =
          silent_stands d (store_room parts.made) past.told.greatest past.told.greatest (last_row past.told.chain d) (rows_before past.told.chain d) (handings d past.told.handed) sides next (h.source d) was.rows b silent (same_side (not b) other) (omega arith)
          (λ r s is acts low_s high_s. refl) (λ s copying none ev low_s. (refl, λ sure. sure)) (λ From_s s low_s high_s counts ev. (refl, λ sure. sure)) From (IsComing past.told.letters d) past.writes sector content low high stands

    -- another one
    other_sound : ((c : Bool) → member_at d c ≢ n) → IsDeviceSound (record parts { members = members }) x (store_crashed past (Member n)) h d
    other_sound apart =
        let same : next ≡ sides = (λ i. λ c. (same_side c (apart c)) i) in record {
          rows = subst (λ s. AreRows (store_room parts.made) (last_row past.told.chain d) (rows_before past.told.chain d) s (h.source d)) (sym same) was.rows;
          hands = subst (λ s. AreHanded (store_room parts.made) (last_row past.told.chain d) (rows_before past.told.chain d) (handings d past.told.handed) s (h.source d)) (sym same) was.hands;
          copies = subst (λ s. AreCopies (store_room parts.made) (last_row past.told.chain d) (rows_before past.told.chain d) s (h.copies d) (h.copieds d) (h.source d)) (sym same) was.copies;
          writes = subst (λ s. AreWrites d past.told.greatest (last_row past.told.chain d) (rows_before past.told.chain d) s (h.writes d) (h.wrotes d) h.actual (outs_of parts.nodes) (knows_of parts.nodes d) (IsClaimed (last past.told.chain) past.told.greatest)) (sym same) was.writes;
          wrotes = subst (λ s. AreWrotes (last_row past.told.chain d) (rows_before past.told.chain d) s (h.writes d) (h.wrotes d)) (sym same) was.wrotes;
          outs = subst (λ s. AreOuts d (store_room parts.made) past.told.greatest (last_row past.told.chain d) (rows_before past.told.chain d) (handings d past.told.handed) s (h.writes d) (h.wrotes d) h.actual (outs_of parts.nodes) (knows_of parts.nodes d)
              (IsClaimed (last past.told.chain) past.told.greatest)) (sym same) was.outs;
          coming = was.coming;
          answering = was.answering;
          copying = was.copying;
          copied_to = was.copied_to;
          labels = labels_then;
          down = down_knows;
          known = knew;
        }

    other_stands : ((c : Bool) → member_at d c ≢ n) → (From : DeviceRow → Type 0) (sector : ℕ) (content : List ℕ) → StandsFor From parts x past d sector content → StandsFor From (record parts { members = members }) x (store_crashed past (Member n)) d sector content
    other_stands apart From sector content stands =
        let same : next ≡ sides = (λ i. λ c. (same_side c (apart c)) i) in
        subst (λ s. DeviceStands d past.told.greatest From (last_row past.told.chain d) (rows_before past.told.chain d) (handings d past.told.handed) s (IsComing past.told.letters d) past.writes sector content) (sym same) stands

    stands_for : (From : DeviceRow → Type 0) (sector : ℕ) (content : List ℕ) → 1 ≤ sector → sector < store_room parts.made → StandsFor From parts x past d sector content → StandsFor From (record parts { members = members }) x (store_crashed past (Member n)) d sector content
    stands_for From sector content low high stands = elim (same_or (member_at d false) n) [
      | inl e ↦ own_stands false e (λ f. omega (arith, e, f)) From sector content low high stands
      | inr a ↦ elim (same_or (member_at d true) n) [
        | inl e ↦ own_stands true e a From sector content low high stands
        | inr b ↦ other_stands (each a b) From sector content stands
      ]
    ]
      where
        each : member_at d false ≢ n → member_at d true ≢ n → (c : Bool) → member_at d c ≢ n
        each a b false = a
        each a b true = b

    sound : IsDeviceSound (record parts { members = members }) x (store_crashed past (Member n)) h d
    sound = elim (same_or (member_at d false) n) [
      | inl e ↦ own_sound false e (λ f. omega (arith, e, f))
      | inr a ↦ elim (same_or (member_at d true) n) [
        | inl e ↦ own_sound true e a
        | inr b ↦ other_sound (both a b)
      ]
    ]
      where
        both : member_at d false ≢ n → member_at d true ≢ n → (c : Bool) → member_at d c ≢ n
        both a b false = a
        both a b true = b

  pub member_stops : Keeps parts x past → Keeps (record parts { members = members }) x (store_crashed past (Member n))
  member_stops keeps = record {
    history = keeps.history;
    devices = λ d within. sound keeps.history d (keeps.devices d within);
    count = keeps.count;
    rising = keeps.rising;
    highest = keeps.highest;
    placed = keeps.placed;
    actual_sent = keeps.actual_sent;
    out_actual = keeps.out_actual;
    out_number = keeps.out_number;
    actual_given = keeps.actual_given;
    sendable = keeps.sendable;
    holding = keeps.holding;
    askable = keeps.askable;
    epochs = keeps.epochs;
    owing = λ k o there. elim (same_or k n) [
      | inl e ↦ absurd (nothing o (subst (λ (os : List Owing). Contains os o) (ap (λ (j : ℕ). (members j).owed) e ∙ stops.owed) there))
      | inr e ↦ keeps.owing k o (subst (λ (m : Serving). Contains m.owed o) (stops.others k e) there)
    ];
    from_members = keeps.from_members;
    own_out = keeps.own_out;
    lasts = λ d b session. elim (same_or (member_at d b) n) [
      | inl e ↦ inl (ap (λ (ls : List Last). last_in ls session) (ap (λ (k : ℕ). (members k).lasts) e ∙ stops.lasts))
      | inr e ↦ subst (λ (m : Serving). (last_in m.lasts session ≡ 0) ⊎ ((l : WriteLetter) × Among (keeps.history.writes d) l × (l.session ≡ session) × (l.sequence ≡ last_in m.lasts session))) (sym (stops.others (member_at d b) e)) (keeps.lasts d b session)
    ];
    brings = keeps.brings;
    noted = keeps.noted;
    asking = keeps.asking;
    asked = keeps.asked;
    node_known = keeps.node_known;
    node_of = keeps.node_of;
    boot_of = keeps.boot_of;
    sessions = keeps.sessions;
    booted = keeps.booted;
    owned = keeps.owned;
    single = keeps.single;
    found_most = keeps.found_most;
    in_order = keeps.in_order;
    left = λ w there. let was_it = keeps.left w there in record { boot_most = was_it.boot_most; case = was_it.case };
    numbered = keeps.numbered;
    tagged = keeps.tagged;
    read_tagged = keeps.read_tagged;
    member_boots = λ k there up. elim (same_or k n) [
      | inl e ↦ absurd (let no : true ≡ false = sym (down_here k e) ∙ up in cc)
      | inr e ↦ ap (λ (m : Serving). m.boot) (stops.others k e) ∙ keeps.member_boots k there (sym (down_other k e) ∙ up)
    ];
    node_boots = keeps.node_boots;
  }

  pub stands_stopped : (d sector : ℕ) (content : List ℕ) (index : ℕ) → Keeps parts x past → StandsOn parts x past d sector content index → StandsOn (record parts { members = members }) x (store_crashed past (Member n)) d sector content index
  stands_stopped d sector content index keeps stands = let set = stands.settled in let was = keeps.devices d set.device in record {
    settled = record { device = set.device; behind_label = set.behind_label; within = set.within; is = stands_for keeps.history d was Nowhere sector content set.behind_label set.within set.is };
    stands = stands_for keeps.history d was (KnownFrom past.told.chain d index) sector content set.behind_label set.within stands.stands;
  }

  pub settles_stopped : (d sector : ℕ) (content : List ℕ) → Keeps parts x past → IsSettledOn parts x past d sector content → IsSettledOn (record parts { members = members }) x (store_crashed past (Member n)) d sector content
  settles_stopped d sector content keeps set = record { device = set.device; behind_label = set.behind_label; within = set.within; is = stands_for keeps.history d (keeps.devices d set.device) Nowhere sector content set.behind_label set.within set.is }

  pub reads_stopped : (m : ℕ) (a : Asking) (sector : ℕ) (content : List ℕ) → Keeps parts x past → WillReadOn parts x past m a sector content → WillReadOn (record parts { members = members }) x (store_crashed past (Member n)) m a sector content
  reads_stopped m a sector content keeps will = record {
    device = will.device;
    behind_label = will.behind_label;
    within = will.within;
    row = will.row;
    row_is = will.row_is;
    stands = stands_for keeps.history a.device (keeps.devices a.device will.device) (FromEpoch will.row.epoch) sector content will.behind_label will.within will.stands;
    coming = will.coming;
    came = will.came;
  }
