-- The disk of a member that is down crashes.
use Rattle.std.proofs.Common.{◌≡◌, ◌≢◌, ◌⊎◌, inl, inr, ⊎_elim, ℕ, ◌+◌, ◌<◌, ◌≤◌, Bool, true, false, List, refl, sym, ◌∙◌, ap, subst, arith}
use Rattle.std.specs.Prelude.{not}
use Rattle.bx_base.specs.declared.names.Actor.TheVariants.{Member}
use Rattle.bx_disk.specs.Disks.{Disks, Stays}
use Rattle.bx_facts.specs.Chains.{last}
use Rattle.bx_facts.specs.Disks.{Crashes, SameMemberLengths}
use Rattle.bx_facts.specs.Writes.{StorePast, member_disk, store_room}
use Rattle.bx_rows.specs.Modes.{IsSource}
use Rattle.bx_rows.specs.declared.device.DeviceRow.{DeviceRow}
use Rattle.bx_mirror_laws.specs.Acting.{Acts, Counts, IsRow}
use Rattle.bx_mirror_laws.specs.Steps.{Ages, Silent}
use Rattle.bx_mirror_laws.proofs.Ages.{hands_age, rows_age}
use Rattle.bx_mirror_laws.proofs.Stopping.{silent_ages, silent_copies, silent_outs, silent_stands, silent_writes, silent_wrotes}
use Rattle.bx_mirror_tables.specs.declared.answers.Owing.{Owing}
use Rattle.bx_mirror_client.specs.Sends.{member_at}
use Rattle.bx_mirror_cluster.proofs.Labels.{label_kept, lengths_at}
use Rattle.bx_mirror_cluster.specs.Fitting.{HasLabel, History, IsClaimed, IsComing, IsDeviceSound, KnownFrom, Nowhere, Parts, StandsFor, StandsOn, handings, knows_of, outs_of, row_of, rows_before, side_of}
use Rattle.bx_mirror_server.specs.Sides.{copied_in, wrote_in}

-- the disk of a member
disk_is : (d : ℕ) (b : Bool) → 3 + member_at d b ≡ member_disk d b
disk_is d false = omega arith
disk_is d true = omega arith

apart : (d : ℕ) (b : Bool) → member_disk d (not b) ≢ 3 + member_at d b
apart d false e = omega (arith, e)
apart d true e = omega (arith, e)

module _ (parts : Parts) (x y : Disks) (past : StorePast) (h : History) (d : ℕ) (b : Bool) (was : IsDeviceSound parts x past h d)
    (down : past.told.down (Member (member_at d b)) ≡ true) (lengths : SameMemberLengths x y) (crashes : Crashes (3 + member_at d b) x y) where
  others : (s : ℕ) → Stays x y (member_disk d (not b)) s
  others s = crashes.others (member_disk d (not b)) s (apart d b)

  -- the other member's disk is the same
  other_stays : side_of past.told y parts.members d (not b) ≡ side_of past.told x parts.members d (not b)
  other_stays = λ i. record {
    up = not (past.told.down (Member (member_at d (not b))));
    boot = past.told.boots (Member (member_at d (not b)));
    row = (parts.members (member_at d (not b))).row;
    lasts = (side_of past.told x parts.members d (not b)).lasts;
    wrote = (side_of past.told x parts.members d (not b)).wrote;
    copied = (side_of past.told x parts.members d (not b)).copied;
    place = (parts.members (member_at d (not b))).place;
    reads = λ s. (others s).reads i;
    unsure = λ s. (others s).unsure i;
  }

  up_not : (side_of past.told x parts.members d b).up ≡ false
  up_not = ap not down

  silent : Silent b (row_of (last past.told.chain) d) (rows_before past.told.chain d) (side_of past.told x parts.members d b) (side_of past.told y parts.members d b)
  silent = record {
    is = inl (ap not down);
    boot = omega arith;
    row = (was.down b down).0;
    wrote = ap (λ (os : List Owing). wrote_in b os) (was.down b down).1;
    copied = ap (λ (os : List Owing). copied_in b os) (was.down b down).1;
  }

  -- what was sure stays
  kept : (s : ℕ) → x.unsure (member_disk d b) s ≡ false → (y.reads (member_disk d b) s ≡ x.reads (member_disk d b) s) × (y.unsure (member_disk d b) s ≡ false)
  kept s = subst (λ (n : ℕ). x.unsure n s ≡ false → (y.reads n s ≡ x.reads n s) × (y.unsure n s ≡ false)) (disk_is d b) (λ sure. (crashes.sure s sure, crashes.synced s))

  evident : (s : ℕ) → ((side_of past.told x parts.members d b).up ≡ true) ⊎ (x.unsure (member_disk d b) s ≡ false) → x.unsure (member_disk d b) s ≡ false
  evident s evidence = elim evidence [
    | inl up ↦ absurd (let no : true ≡ false = sym up ∙ up_not in cc)
    | inr sure ↦ sure
  ]

  targets : (r : DeviceRow) (s : ℕ) → IsRow (row_of (last past.told.chain) d) (rows_before past.told.chain d) r → Acts b (side_of past.told x parts.members d b) r → 1 ≤ s → s < store_room parts.made → y.reads (member_disk d b) s ≡ x.reads (member_disk d b) s
  targets r s is acts low high = absurd (let no : true ≡ false = sym acts.up ∙ up_not in cc)

  filled : (s : ℕ) → 3 ≤ (row_of (last past.told.chain) d).mode → (IsSource (row_of (last past.told.chain) d).mode b → ⊥) → ((side_of past.told x parts.members d b).up ≡ true) ⊎ (x.unsure (member_disk d b) s ≡ false) → 1 ≤ s
      → (y.reads (member_disk d b) s ≡ x.reads (member_disk d b) s) × (x.unsure (member_disk d b) s ≡ false → y.unsure (member_disk d b) s ≡ false)
  filled s copying none evidence low = let k = kept s (evident s evidence) in (k.0, λ sure. k.1)

  stays_it : (From : DeviceRow → Type 0) (s : ℕ) → 1 ≤ s → s < store_room parts.made → Counts From (row_of (last past.told.chain) d) (rows_before past.told.chain d) (handings d past.told.handed) b (side_of past.told x parts.members d b)
      → ((side_of past.told x parts.members d b).up ≡ true) ⊎ (x.unsure (member_disk d b) s ≡ false) → (y.reads (member_disk d b) s ≡ x.reads (member_disk d b) s) × (x.unsure (member_disk d b) s ≡ false → y.unsure (member_disk d b) s ≡ false)
  stays_it From s low high counts evidence = let k = kept s (evident s evidence) in (k.0, λ sure. k.1)

  pub survives_standing : (From : DeviceRow → Type 0) (sector : ℕ) (content : List ℕ) → 1 ≤ sector → sector < store_room parts.made → StandsFor From parts x past d sector content → StandsFor From parts y past d sector content
  survives_standing From sector content low high stands =
      silent_stands d (store_room parts.made) past.told.greatest past.told.greatest (row_of (last past.told.chain) d) (rows_before past.told.chain d) (handings d past.told.handed) (side_of past.told x parts.members d) (side_of past.told y parts.members d) (h.source d)
      was.rows b silent other_stays (omega arith) targets filled stays_it From (IsComing past.told.letters d) past.writes sector content low high stands

  -- what stands for readers of a state
  pub survives_on : (sector : ℕ) (content : List ℕ) (index : ℕ) → StandsOn parts x past d sector content index → StandsOn parts y past d sector content index
  survives_on sector content index stands = let set = stands.settled in record {
    settled = record { device = set.device; behind_label = set.behind_label; within = set.within; is = survives_standing Nowhere sector content set.behind_label set.within set.is };
    stands = survives_standing (KnownFrom past.told.chain d index) sector content set.behind_label set.within stands.stands;
  }

  pub survives : IsDeviceSound parts y past h d
  survives = record {
    rows = rows_age (store_room parts.made) (row_of (last past.told.chain) d) (rows_before past.told.chain d) (side_of past.told x parts.members d) (side_of past.told y parts.members d) (h.source d) (h.source d) was.rows ages;
    hands = hands_age (store_room parts.made) (row_of (last past.told.chain) d) (rows_before past.told.chain d) (side_of past.told x parts.members d) (side_of past.told y parts.members d) (h.source d) (h.source d) was.rows ages (handings d past.told.handed) was.hands;
    copies = silent_copies d (store_room parts.made) past.told.greatest past.told.greatest (row_of (last past.told.chain) d) (rows_before past.told.chain d) (handings d past.told.handed) (side_of past.told x parts.members d) (side_of past.told y parts.members d) (h.source d)
        was.rows b silent other_stays (omega arith) targets filled stays_it (h.copies d) (h.copieds d) was.copies;
    writes = silent_writes d (store_room parts.made) past.told.greatest past.told.greatest (row_of (last past.told.chain) d) (rows_before past.told.chain d) (handings d past.told.handed) (side_of past.told x parts.members d) (side_of past.told y parts.members d) (h.source d)
        was.rows b silent other_stays (omega arith) targets filled stays_it (h.writes d) (h.wrotes d) h.actual (outs_of parts.nodes) (knows_of parts.nodes d) (IsClaimed (last past.told.chain) past.told.greatest) was.writes;
    wrotes = silent_wrotes d (store_room parts.made) past.told.greatest past.told.greatest (row_of (last past.told.chain) d) (rows_before past.told.chain d) (handings d past.told.handed) (side_of past.told x parts.members d) (side_of past.told y parts.members d) (h.source d)
        was.rows b silent other_stays (omega arith) targets filled stays_it (h.writes d) (h.wrotes d) was.wrotes;
    outs = silent_outs d (store_room parts.made) past.told.greatest past.told.greatest (row_of (last past.told.chain) d) (rows_before past.told.chain d) (handings d past.told.handed) (side_of past.told x parts.members d) (side_of past.told y parts.members d) (h.source d)
        was.rows b silent other_stays (omega arith) targets filled stays_it (h.writes d) (h.wrotes d) h.actual (outs_of parts.nodes) (outs_of parts.nodes) (knows_of parts.nodes d) (knows_of parts.nodes d) (IsClaimed (last past.told.chain) past.told.greatest) (λ o k sends. sends) was.wrotes.owed_up was.outs;
    coming = was.coming;
    answering = was.answering;
    copying = was.copying;
    copied_to = was.copied_to;
    labels = λ c needs. labelled c (was.labels c needs);
    down = was.down;
    known = was.known;
  }
    where
      ages : Ages (store_room parts.made) (row_of (last past.told.chain) d) (rows_before past.told.chain d) (side_of past.told x parts.members d) (side_of past.told y parts.members d) (h.source d) (h.source d)
      ages = silent_ages d (store_room parts.made) past.told.greatest past.told.greatest (row_of (last past.told.chain) d) (rows_before past.told.chain d) (handings d past.told.handed) (side_of past.told x parts.members d) (side_of past.told y parts.members d) (h.source d)
          was.rows b silent other_stays (omega arith) targets filled stays_it

      two : (c e : Bool) → (e ≡ c) ⊎ (e ≡ not c)
      two false false = inl refl
      two false true = inr refl
      two true false = inr refl
      two true true = inl refl

      labelled : (c : Bool) → HasLabel parts.made x (member_disk d c) → HasLabel parts.made y (member_disk d c)
      labelled c was_it = ⊎_elim
          (λ (e : c ≡ b). subst (λ (k : Bool). HasLabel parts.made x (member_disk d k) → HasLabel parts.made y (member_disk d k)) (sym e)
          (λ l. let k = kept 0 l.sure in label_kept parts.made x y (member_disk d b) k.0 (λ sure. k.1) (lengths_at x y lengths d b) l) was_it)
          (λ (e : c ≡ not b). subst (λ (k : Bool). HasLabel parts.made x (member_disk d k) → HasLabel parts.made y (member_disk d k)) (sym e)
          (λ l. let k = others 0 in label_kept parts.made x y (member_disk d (not b)) k.reads (λ sure. k.unsure ∙ sure) (lengths_at x y lengths d (not b)) l) was_it)
          (two b c)
