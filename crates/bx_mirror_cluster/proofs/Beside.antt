-- What is said of other machines changes, and all goes on fitting.
use Rattle.std.proofs.Common.{◌≡◌, ◌⊎◌, inl, inr, ℕ, ◌*◌, ◌<◌, ◌≤◌, Bool, true, false, Contains, List, [], None, refl, sym, ◌∙◌, ap, subst, arith}
use Rattle.std.specs.Prelude.{not}
use Rattle.std.proofs.lemmas.Bool.{cases_lt}
use Rattle.bx_base.specs.declared.names.Actor.{Actor}
use Rattle.bx_base.specs.declared.names.Actor.TheVariants.{Member, Node}
use Rattle.bx_disk.specs.Disks.{Disks}
use Rattle.bx_facts.proofs.Lists.{nothing}
use Rattle.bx_facts.proofs.Machines.{elsewhere}
use Rattle.bx_facts.specs.Chains.{last}
use Rattle.bx_facts.specs.Machines.{put_at}
use Rattle.bx_facts.specs.Writes.{Made, StorePast, member_disk, store_room}
use Rattle.bx_facts.specs.Pasts.{Told}
use Rattle.bx_rows.specs.declared.device.DeviceRow.{DeviceRow}
use Rattle.bx_mirror_client.specs.Sends.{member_at}
use Rattle.bx_mirror_client.specs.declared.asking.Asking.{Asking}
use Rattle.bx_mirror_laws.specs.Acting.{FromEpoch}
use Rattle.bx_mirror_laws.specs.Sides.{Among, Side, WriteLetter}
use Rattle.bx_mirror_laws.specs.Sound.{AreCopies, AreHanded, AreOuts, AreRows, AreWrites, AreWrotes, DeviceStands}
use Rattle.bx_mirror_member.specs.Standing.{MemberView as Serving}
use Rattle.bx_mirror_server.specs.Sides.{copied_in, wrote_in}
use Rattle.bx_mirror_tables.specs.Lasts.{last_in}
use Rattle.bx_mirror_tables.specs.declared.answers.Owing.{Owing}
use Rattle.bx_mirror_tables.specs.declared.lasts.Last.{Last}
use Rattle.bx_mirror_cluster.specs.Beside.{IsBeside, SameServing, SaysSame, saying, with_members}
use Rattle.bx_mirror_cluster.specs.Fitting.{History, IsBehind, IsClaimed, IsComing, IsDeviceSound, IsDrawn, IsOwnOrLeft, IsSettledOn, Keeps, KnownFrom, NeedsLabel, Nowhere, Parts, StandsFor, StandsOn, WillReadOn, handings, knows_of, last_row, outs_of, rows_before, side_of}

-- of the members of a device
at_within : (d devices : ℕ) (c : Bool) → d < devices → member_at d c < 2 * devices
at_within d devices false less = omega (arith, less)
at_within d devices true less = omega (arith, less)

-- what one machine knew, its boot and whether it is down
pub one_beside : (made : Made) (told : Told) (who : Actor) (knew boot : ℕ) (is_down : Bool) → IsBeside made who → SaysSame made told (put_at who knew told.knew) (put_at who boot told.boots) (put_at who is_down told.down)
one_beside made told who knew boot is_down beside = record {
  node_knew = λ n. elsewhere who (Node n) knew told.knew (beside.no_node n);
  node_boots = λ n. elsewhere who (Node n) boot told.boots (beside.no_node n);
  node_down = λ n. elsewhere who (Node n) is_down told.down (beside.no_node n);
  member_knew = λ n less. elsewhere who (Member n) knew told.knew (beside.no_member n less);
  member_boots = λ n less. elsewhere who (Member n) boot told.boots (beside.no_member n less);
  member_down = λ n less. elsewhere who (Member n) is_down told.down (beside.no_member n less);
}

pub one_knows : (made : Made) (told : Told) (who : Actor) (knew : ℕ) → IsBeside made who → SaysSame made told (put_at who knew told.knew) told.boots told.down
one_knows made told who knew beside = record {
  node_knew = λ n. elsewhere who (Node n) knew told.knew (beside.no_node n);
  node_boots = λ n. refl;
  node_down = λ n. refl;
  member_knew = λ n less. elsewhere who (Member n) knew told.knew (beside.no_member n less);
  member_boots = λ n less. refl;
  member_down = λ n less. refl;
}

pub one_down : (made : Made) (told : Told) (who : Actor) (is_down : Bool) → IsBeside made who → SaysSame made told told.knew told.boots (put_at who is_down told.down)
one_down made told who is_down beside = record {
  node_knew = λ n. refl;
  node_boots = λ n. refl;
  node_down = λ n. elsewhere who (Node n) is_down told.down (beside.no_node n);
  member_knew = λ n less. refl;
  member_boots = λ n less. refl;
  member_down = λ n less. elsewhere who (Member n) is_down told.down (beside.no_member n less);
}

module _ (parts : Parts) (x : Disks) (past : StorePast) (members : ℕ → Serving) (knew boots : Actor → ℕ) (down : Actor → Bool) (says : SaysSame parts.made past.told knew boots down) (are : SameServing parts members) where
  abbrev then_ : StorePast
  then_ = saying past knew boots down

  abbrev parts_then : Parts
  parts_then = with_members parts members

  same_sides : (d : ℕ) → d < parts.made.devices → side_of then_.told x members d ≡ side_of past.told x parts.members d
  same_sides d within = λ i. λ c. record {
    up = not ((says.member_down (member_at d c) (at_within d parts.made.devices c within)) i);
    boot = (says.member_boots (member_at d c) (at_within d parts.made.devices c within)) i;
    row = ((are.same (member_at d c) (at_within d parts.made.devices c within)) i).row;
    lasts = last_in ((are.same (member_at d c) (at_within d parts.made.devices c within)) i).lasts;
    wrote = wrote_in c ((are.same (member_at d c) (at_within d parts.made.devices c within)) i).owed;
    copied = copied_in c ((are.same (member_at d c) (at_within d parts.made.devices c within)) i).owed;
    place = ((are.same (member_at d c) (at_within d parts.made.devices c within)) i).place;
    reads = x.reads (member_disk d c);
    unsure = x.unsure (member_disk d c);
  }

  by : (d : ℕ) (within : d < parts.made.devices) (P : (Bool → Side) → Type 0) → P (side_of past.told x parts.members d) → P (side_of then_.told x members d)
  by d within P is = subst P (sym (same_sides d within)) is

  beside_sound : (h : History) (d : ℕ) → d < parts.made.devices → IsDeviceSound parts x past h d → IsDeviceSound parts_then x then_ h d
  beside_sound h d within was = record {
    rows = by d within (λ s. AreRows (store_room parts.made) (last_row past.told.chain d) (rows_before past.told.chain d) s (h.source d)) was.rows;
    hands = by d within (λ s. AreHanded (store_room parts.made) (last_row past.told.chain d) (rows_before past.told.chain d) (handings d past.told.handed) s (h.source d)) was.hands;
    copies = by d within (λ s. AreCopies (store_room parts.made) (last_row past.told.chain d) (rows_before past.told.chain d) s (h.copies d) (h.copieds d) (h.source d)) was.copies;
    writes = by d within (λ s. AreWrites d past.told.greatest (last_row past.told.chain d) (rows_before past.told.chain d) s (h.writes d) (h.wrotes d) h.actual (outs_of parts.nodes) (knows_of parts.nodes d)
        (IsClaimed (last past.told.chain) past.told.greatest)) was.writes;
    wrotes = by d within (λ s. AreWrotes (last_row past.told.chain d) (rows_before past.told.chain d) s (h.writes d) (h.wrotes d)) was.wrotes;
    outs = by d within (λ s. AreOuts d (store_room parts.made) past.told.greatest (last_row past.told.chain d) (rows_before past.told.chain d) (handings d past.told.handed) s (h.writes d) (h.wrotes d) h.actual (outs_of parts.nodes) (knows_of parts.nodes d)
        (IsClaimed (last past.told.chain) past.told.greatest)) was.outs;
    coming = was.coming;
    answering = was.answering;
    copying = was.copying;
    copied_to = was.copied_to;
    labels = λ c needs. was.labels c (subst (λ (t : Bool). NeedsLabel (last_row past.told.chain d) (handings d past.told.handed) (h.copieds d) t c) (says.member_down (member_at d c) (at_within d parts.made.devices c within)) needs);
    down = λ c e. subst (λ (m : Serving). (m.row ≡ None) × (m.owed ≡ [])) (sym (are.same (member_at d c) (at_within d parts.made.devices c within)))
        (was.down c (sym (says.member_down (member_at d c) (at_within d parts.made.devices c within)) ∙ e));
    known = λ c r e.
        let k = was.known c r (ap (λ (m : Serving). m.row) (sym (are.same (member_at d c) (at_within d parts.made.devices c within))) ∙ e) in
        (k.0, k.1, k.2 ∙ sym (says.member_knew (member_at d c) (at_within d parts.made.devices c within)), k.3);
  }

  pub beside_stands : (From : DeviceRow → Type 0) (d sector : ℕ) (content : List ℕ) → d < parts.made.devices → StandsFor From parts x past d sector content → StandsFor From parts_then x then_ d sector content
  beside_stands From d sector content within stands =
      by d within (λ s. DeviceStands d past.told.greatest From (last_row past.told.chain d) (rows_before past.told.chain d) (handings d past.told.handed) s (IsComing past.told.letters d) past.writes sector content) stands

  pub beside_settled : (d sector : ℕ) (content : List ℕ) → IsSettledOn parts x past d sector content → IsSettledOn parts_then x then_ d sector content
  beside_settled d sector content set = record { device = set.device; behind_label = set.behind_label; within = set.within; is = beside_stands Nowhere d sector content set.device set.is }

  pub beside_standing : (d sector : ℕ) (content : List ℕ) (index : ℕ) → StandsOn parts x past d sector content index → StandsOn parts_then x then_ d sector content index
  beside_standing d sector content index stands = record {
    settled = beside_settled d sector content stands.settled;
    stands = beside_stands (KnownFrom past.told.chain d index) d sector content stands.settled.device stands.stands;
  }

  pub beside_reads : (reader : ℕ) (read : Asking) (sector : ℕ) (content : List ℕ) → WillReadOn parts x past reader read sector content → WillReadOn parts_then x then_ reader read sector content
  beside_reads reader read sector content will = record {
    device = will.device;
    behind_label = will.behind_label;
    within = will.within;
    row = will.row;
    row_is = will.row_is;
    stands = beside_stands (FromEpoch will.row.epoch) read.device sector content will.device will.stands;
    coming = will.coming;
    came = will.came;
  }

  own_or_left : (node boot session : ℕ) → IsOwnOrLeft parts.nodes past.told.chain past.told.knew past.told.boots past.told.down node boot session → IsOwnOrLeft parts.nodes past.told.chain knew boots down node boot session
  own_or_left node boot session is = record {
    boot_most = subst (λ (b : ℕ). boot ≤ b) (sym (says.node_boots node)) is.boot_most;
    case = elim is.case [
      | inl less ↦ inl (subst (λ (b : ℕ). boot < b) (sym (says.node_boots node)) less)
      | inr rest ↦ elim rest [
        | inl is_down ↦ inr (inl (says.node_down node ∙ is_down))
        | inr more ↦ elim more [
          | inl own ↦ inr (inr (inl own))
          | inr left ↦ inr (inr (inr (subst (λ (k : ℕ). IsBehind past.told.chain k node boot session) (sym (says.node_knew node)) left)))
        ]
      ]
    ];
  }

  pub beside_keeps : Keeps parts x past → Keeps parts_then x then_
  beside_keeps keeps = record {
    history = keeps.history;
    devices = λ d within. beside_sound keeps.history d within (keeps.devices d within);
    count = keeps.count;
    rising = keeps.rising;
    highest = keeps.highest;
    placed = keeps.placed;
    actual_sent = keeps.actual_sent;
    out_actual = keeps.out_actual;
    out_number = keeps.out_number;
    actual_given = keeps.actual_given;
    sendable = keeps.sendable;
    holding = keeps.holding;
    askable = keeps.askable;
    epochs = keeps.epochs;
    owing = λ n o has. elim (cases_lt n (2 * parts.made.devices)) [
      | inl less ↦ keeps.owing n o (subst (λ (m : Serving). Contains m.owed o) (are.same n less) has)
      | inr far ↦ absurd (nothing o (subst (λ (all : List Owing). Contains all o) (are.owed n far) has))
    ];
    from_members = keeps.from_members;
    own_out = keeps.own_out;
    lasts = λ d c session. elim (cases_lt (member_at d c) (2 * parts.made.devices)) [
      | inl less ↦ subst (λ (m : Serving). (last_in m.lasts session ≡ 0) ⊎ ((l : WriteLetter) × Among (keeps.history.writes d) l × (l.session ≡ session) × (l.sequence ≡ last_in m.lasts session))) (sym (are.same (member_at d c) less)) (keeps.lasts d c session)
      | inr far ↦ inl (ap (λ (all : List Last). last_in all session) (are.lasts (member_at d c) far))
    ];
    brings = keeps.brings;
    noted = keeps.noted;
    asking = keeps.asking;
    asked = keeps.asked;
    node_known = λ n session own. let k = keeps.node_known n session own in (k.0, k.1, k.2 ∙ sym (says.node_knew n), k.3, k.4);
    node_of = keeps.node_of;
    boot_of = keeps.boot_of;
    sessions = keeps.sessions;
    booted = keeps.booted;
    owned = λ n session own. let k = keeps.owned n session own in (k.0, k.1 ∙ sym (says.node_boots n), k.2);
    single = keeps.single;
    found_most = keeps.found_most;
    in_order = keeps.in_order;
    left = λ w there. own_or_left (keeps.node_of w.session) (keeps.boot_of w.session) w.session (keeps.left w there);
    numbered = λ d l there. subst (λ (most : ℕ). IsDrawn (last past.told.chain).next_session (keeps.boot_of l.session) most l.session l.sequence (parts.nodes (keeps.node_of l.session)).sequence) (sym (says.node_boots (keeps.node_of l.session)))
        (keeps.numbered d l there);
    tagged = λ n d session epoch tag bytes data_. subst (λ (most : ℕ). IsDrawn (last past.told.chain).next_session (keeps.boot_of session) most session tag (parts.nodes n).tag) (sym (says.node_boots n)) (keeps.tagged n d session epoch tag bytes data_);
    read_tagged = λ n r reads. subst (λ (most : ℕ). IsDrawn (last past.told.chain).next_session (keeps.boot_of r.session) most r.session r.tag (parts.nodes n).tag) (sym (says.node_boots n)) (keeps.read_tagged n r reads);
    member_boots = λ n less up.
        ap (λ (m : Serving). m.boot) (are.same n less) ∙ keeps.member_boots n less (sym (says.member_down n less) ∙ up) ∙ sym (says.member_boots n less);
    node_boots = λ n less up. keeps.node_boots n less (sym (says.node_down n) ∙ up) ∙ sym (says.node_boots n);
  }
