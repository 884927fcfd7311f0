-- Laws of devices: what stands is settled, what is settled stands on the members, and the rows of a chain that grows.
use Rattle.std.proofs.Common.{◌≡◌, inl, inr, ⊎_elim, ℕ, ◌<◌, ◌≤◌, Bool, true, false, Contains, List, [], ◌∷◌, Option, Some, None, refl, sym, ap, subst, arith}
use Rattle.std.specs.Prelude.{◌==◌, slice_get, if◌then◌else◌}
use Rattle.std.proofs.lemmas.Bool.Decides.{nat_tests}
use Rattle.bx_disk.specs.Disks.{Disks}
use Rattle.bx_facts.specs.Chains.{Chain, IsAmong, IsPlace, LivesIn, grown, last, state_after}
use Rattle.bx_facts.proofs.Lists.{front_or_behind, nothing}
use Rattle.bx_facts.specs.Writes.{IsSettled, IsSourceIn, StorePast, store_grown, store_room}
use Rattle.bx_global.specs.Table.{IsLegal, effect}
use Rattle.bx_global.specs.declared.change.Change.{Change}
use Rattle.bx_global.specs.declared.change.Change.TheVariants.{Claim, Close, Expire, Open, Renew, Shift, Take}
use Rattle.bx_global.specs.declared.state.GlobalState.{GlobalState}
use Rattle.bx_rows.specs.Rows.{shifted}
use Rattle.bx_rows.specs.declared.device.DeviceRow.{DeviceRow}
use Rattle.bx_global.proofs.Places.{at_place_same}
use Rattle.bx_base.specs.declared.names.Actor.TheVariants.{Member}
use Rattle.bx_mirror_client.specs.Sends.{member_at}
use Rattle.bx_mirror_laws.specs.Acting.{MayLead}
use Rattle.bx_mirror_laws.specs.Sides.{Among, Handing, Out, Side}
use Rattle.bx_mirror_laws.specs.Sound.{AreCopies, AreHanded, AreOuts, AreRows, AreWrites, AreWrotes}
use Rattle.bx_mirror_laws.specs.Steps.{IsShifted}
use Rattle.bx_mirror_laws.proofs.Growing.{copies_grow, hands_grow, led, outs_grow, rows_grow, writes_grow, wrotes_grow}
use Rattle.bx_mirror_laws.proofs.Small.{outs_lived, stands_fewer, writes_lived}
use Rattle.bx_mirror_cluster.specs.Fitting.{History, IsClaimed, IsDeviceSound, IsSettledOn, Keeps, KnownFrom, NeedsLabel, Parts, StandsOn, handings, knows_of, outs_of, row_of, row_or, rows_before, side_of}

pub settles : (parts : Parts) (x : Disks) (past : StorePast) (d sector : ℕ) (content : List ℕ) (index : ℕ) → StandsOn parts x past d sector content index → IsSettledOn parts x past d sector content
settles parts x past d sector content index stands = stands.settled

pub rises : (parts : Parts) (x : Disks) (past : StorePast) (d sector : ℕ) (content : List ℕ) (index later : ℕ) → index ≤ later → StandsOn parts x past d sector content index → StandsOn parts x past d sector content later
rises parts x past d sector content index later less stands = record {
  settled = stands.settled;
  stands = stands_fewer d past.told.greatest _ (KnownFrom past.told.chain d later) _ _ _ _ _ _ sector content
      (λ r known. (known.0, known.1, (let k = known.2 in omega (arith, k, less)), known.3)) stands.stands;
}

-- a source of a state leads in its row
pub leads_in : (s : GlobalState) (handed : List Handing) (d : ℕ) (b : Bool) → IsSourceIn s d b → MayLead (row_of s d) handed b
leads_in s handed d b = (elim (slice_get s.devices d) as (λ o. slice_get s.devices d ≡ o → IsSourceIn s d b → MayLead (row_of s d) handed b) [
  | None ↦ λ e source. absurd (let h = rw e at source in h)
  | Some row ↦ λ e source. record { is = inl (rw e (let h = rw e at source in h)) }
]) refl

-- the last state is one of the chain
pub last_placed : (chain : Chain) → IsPlace chain (last chain)
last_placed chain = of_changes chain.first chain.changes
  where
    of_changes : (first : GlobalState) (changes : List Change) → IsAmong first changes (state_after first changes)
    of_changes first [] = refl
    of_changes first (change ∷ older) = inl refl

pub settled_is : (parts : Parts) (x : Disks) (past : StorePast) (d sector : ℕ) (content : List ℕ) → Keeps parts x past → IsSettledOn parts x past d sector content → IsSettled x (last past.told.chain) d sector content
settled_is parts x past d sector content keeps settled = record {
  there = subst (λ (n : ℕ). d < n) (sym (keeps.count (last past.told.chain) (last_placed past.told.chain))) settled.device;
  reads = λ b source. settled.is.reads b (record { is = inl (leads_in (last past.told.chain) (handings d past.told.handed) d b source) });
  sure = λ b source. settled.is.sure b (leads_in (last past.told.chain) (handings d past.told.handed) d b source);
}

-- a place of the chain is one of the longer chain
pub still_placed : (chain : Chain) (change : Change) (s : GlobalState) → IsPlace chain s → IsPlace (grown chain change) s
still_placed chain change s place = inr place

-- ---- a change of which this device's row is no part

module _ (parts : Parts) (x : Disks) (past : StorePast) (h : History) (d : ℕ) (change : Change) (was : IsDeviceSound parts x past h d)
    (lived : (n : ℕ) (o : Out) → outs_of parts.nodes n ≡ Some o → LivesIn (effect (last past.told.chain) change) o.session → LivesIn (last past.told.chain) o.session) where
  claimed : (n : ℕ) (o : Out) → outs_of parts.nodes n ≡ Some o → IsClaimed (effect (last past.told.chain) change) past.told.greatest o → IsClaimed (last past.told.chain) past.told.greatest o
  claimed n o out (inl lives) = inl (lived n o out lives)
  claimed n o out (inr in_time) = inr in_time

  pub still_grows : row_of (effect (last past.told.chain) change) d ≡ row_of (last past.told.chain) d → rows_before (grown past.told.chain change) d ≡ rows_before past.told.chain d → IsDeviceSound parts x (store_grown past change) h d
  still_grows e f = record {
    rows = by (λ l o. AreRows room l o sides source) was.rows;
    hands = by (λ l o. AreHanded room l o handed sides source) was.hands;
    copies = by (λ l o. AreCopies room l o sides (h.copies d) (h.copieds d) source) was.copies;
    writes = by (λ l o. AreWrites d past.told.greatest l o sides (h.writes d) (h.wrotes d) h.actual outs knows live_next) (writes_lived d past.told.greatest _ _ sides (h.writes d) (h.wrotes d) h.actual outs knows live live_next claimed was.writes);
    wrotes = by (λ l o. AreWrotes l o sides (h.writes d) (h.wrotes d)) was.wrotes;
    outs = by (λ l o. AreOuts d room past.told.greatest l o handed sides (h.writes d) (h.wrotes d) h.actual outs knows live_next) (outs_lived d room past.told.greatest _ _ handed sides (h.writes d) (h.wrotes d) h.actual outs knows live live_next claimed was.outs);
    coming = was.coming;
    answering = was.answering;
    copying = was.copying;
    copied_to = was.copied_to;
    labels = λ b needs. was.labels b (subst (λ (l : DeviceRow). NeedsLabel l handed (h.copieds d) (past.told.down (Member (member_at d b))) b) e needs);
    down = was.down;
    known = λ b r is. let k = was.known b r is in (k.0, still_placed past.told.chain change k.0 k.1, k.2, k.3);
  }
    where
      room : ℕ
      room = store_room parts.made

      sides : Bool → Side
      sides = side_of past.told x parts.members d

      source : ℕ → ℕ → List ℕ
      source = h.source d

      handed : List Handing
      handed = handings d past.told.handed

      outs : ℕ → Option Out
      outs = outs_of parts.nodes

      knows : ℕ → Option DeviceRow
      knows = knows_of parts.nodes d

      live : Out → Type 0
      live = IsClaimed (last past.told.chain) past.told.greatest

      live_next : Out → Type 0
      live_next = IsClaimed (effect (last past.told.chain) change) past.told.greatest

      by : (P : DeviceRow → List DeviceRow → Type 0) → P (row_of (last past.told.chain) d) (rows_before past.told.chain d) → P (row_of (effect (last past.told.chain) change) d) (rows_before (grown past.told.chain change) d)
      by P is = subst (λ (l : DeviceRow). P l (rows_before (grown past.told.chain change) d)) (sym e) (subst (λ (o : List DeviceRow). P (row_of (last past.told.chain) d) o) (sym f) is)

-- ---- a change of its mode

-- what is among the older is among all
more : (d : ℕ) (change : Change) (older : List Change) (h : Handing) → Among (handings d older) h → Among (handings d (change ∷ older)) h
more d (Renew by boot reading) older h there = there
more d (Take by boot reading) older h there = there
more d (Open node boot reading) older h there = there
more d (Expire session term reading) older h there = there
more d (Claim gone by) older h there = there
more d (Close gone by) older h there = there
more d (Shift device epoch mode second boot) older h there = pick (device == d)
  where
    pick : (b : Bool) → Among (if b then record { epoch = epoch; mode = mode; second = second; boot = boot } ∷ handings d older else handings d older) h
    pick true = record { is = inr there.is }
    pick false = there

-- a change that was handed back is one of the device's
pub handed_there : (d : ℕ) (changes : List Change) (epoch mode boot : ℕ) (second : Bool) → Contains changes (Shift d epoch mode second boot) → Among (handings d changes) (record { epoch = epoch; mode = mode; second = second; boot = boot })
handed_there d [] epoch mode boot second there = absurd (nothing (Shift d epoch mode second boot) there)
handed_there d (change ∷ older) epoch mode boot second there = ⊎_elim
    (λ (e : change ≡ Shift d epoch mode second boot). subst (λ (c : Change). Among (handings d (c ∷ older)) (record { epoch = epoch; mode = mode; second = second; boot = boot })) (sym e) at_front)
    (λ (rest : Contains older (Shift d epoch mode second boot)). more d change older (record { epoch = epoch; mode = mode; second = second; boot = boot }) (handed_there d older epoch mode boot second rest))
    (front_or_behind change older (Shift d epoch mode second boot) there)
  where
    at_front : Among (handings d (Shift d epoch mode second boot ∷ older)) (record { epoch = epoch; mode = mode; second = second; boot = boot })
    at_front = let e : (d == d) ≡ true = grind (arith, nat_tests) in
        let same = ap (λ (b : Bool). if b then record { epoch = epoch; mode = mode; second = second; boot = boot } ∷ handings d older else handings d older) e in
        subst (λ (hs : List Handing). Among hs (record { epoch = epoch; mode = mode; second = second; boot = boot })) (sym same) (record { is = inl refl })

-- the row that it makes
pub is_shifted : (s : GlobalState) (d epoch mode boot : ℕ) (second : Bool) → IsLegal s (Shift d epoch mode second boot)
    → IsShifted (row_of s d) (record { epoch = epoch; mode = mode; second = second; boot = boot }) (row_of (effect s (Shift d epoch mode second boot)) d)
is_shifted s d epoch mode boot second legal = (elim (slice_get s.devices d) as (λ o. slice_get s.devices d ≡ o → IsShifted (row_of s d) (record { epoch = epoch; mode = mode; second = second; boot = boot }) (row_of (effect s (Shift d epoch mode second boot)) d)) [
  | None ↦ λ e. absurd (let h = rw e at legal.row in h)
  | Some row ↦ λ e. let meets = (let h = rw e at legal.row in h) in let new = at_place_same d (shifted mode second boot) s.devices row e in
      subst (λ (o : Option DeviceRow). IsShifted (row_or o) (record { epoch = epoch; mode = mode; second = second; boot = boot }) (row_of (effect s (Shift d epoch mode second boot)) d)) (sym e)
      (subst (λ (o : Option DeviceRow). IsShifted row (record { epoch = epoch; mode = mode; second = second; boot = boot }) (row_or o)) (sym new) (by_side second row meets.0))
]) refl
  where
    by_side : (b : Bool) (row : DeviceRow) → epoch ≡ row.epoch → IsShifted row (record { epoch = epoch; mode = mode; second = b; boot = boot }) (shifted mode b boot row)
    by_side false row e = record { at = e; mode = refl; epoch = refl; boot = refl; other = refl }
    by_side true row e = record { at = e; mode = refl; epoch = refl; boot = refl; other = refl }

module _ (parts : Parts) (x : Disks) (past : StorePast) (h : History) (d epoch mode boot : ℕ) (second : Bool) (was : IsDeviceSound parts x past h d)
    (legal : IsLegal (last past.told.chain) (Shift d epoch mode second boot)) (own : Contains past.told.handed (Shift d epoch mode second boot))
    (lived : (n : ℕ) (o : Out) → outs_of parts.nodes n ≡ Some o → LivesIn (effect (last past.told.chain) (Shift d epoch mode second boot)) o.session → LivesIn (last past.told.chain) o.session) where
  abbrev this : Handing
  this = record { epoch = epoch; mode = mode; second = second; boot = boot }

  there : Among (handings d past.told.handed) this
  there = handed_there d past.told.handed epoch mode boot second own

  -- its last row is older then
  pub older_is : rows_before (grown past.told.chain (Shift d epoch mode second boot)) d ≡ row_of (last past.told.chain) d ∷ rows_before past.told.chain d
  older_is = let e : (d == d) ≡ true = grind (arith, nat_tests) in ap (λ (b : Bool). if b then row_of (last past.told.chain) d ∷ rows_before past.told.chain d else rows_before past.told.chain d) e

  shifts : IsShifted (row_of (last past.told.chain) d) this (row_of (effect (last past.told.chain) (Shift d epoch mode second boot)) d)
  shifts = is_shifted (last past.told.chain) d epoch mode boot second legal

  pub claimed_shift : (n : ℕ) (o : Out) → outs_of parts.nodes n ≡ Some o → IsClaimed (effect (last past.told.chain) (Shift d epoch mode second boot)) past.told.greatest o → IsClaimed (last past.told.chain) past.told.greatest o
  claimed_shift n o out (inl lives) = inl (lived n o out lives)
  claimed_shift n o out (inr in_time) = inr in_time

  pub shift_grows : IsDeviceSound parts x (store_grown past (Shift d epoch mode second boot)) h d
  shift_grows = record {
    rows = subst (λ (o : List DeviceRow). AreRows room new o sides source) (sym older_is) (rows_grow d room past.told.greatest last_ older_ handed sides source was.rows was.hands this there new shifts);
    hands = subst (λ (o : List DeviceRow). AreHanded room new o handed sides source) (sym older_is) (hands_grow d room past.told.greatest last_ older_ handed sides source was.rows was.hands this there new shifts);
    copies = subst (λ (o : List DeviceRow). AreCopies room new o sides (h.copies d) (h.copieds d) source) (sym older_is) (copies_grow d room past.told.greatest last_ older_ handed sides source was.rows was.hands this there new shifts (h.copies d) (h.copieds d) was.copies);
    writes = subst (λ (o : List DeviceRow). AreWrites d past.told.greatest new o sides (h.writes d) (h.wrotes d) h.actual outs knows live_next) (sym older_is)
        (writes_grow d room past.told.greatest last_ older_ handed sides source was.rows was.hands this there new shifts (h.writes d) (h.wrotes d) h.actual outs knows live live_next claimed_shift was.writes was.outs);
    wrotes = subst (λ (o : List DeviceRow). AreWrotes new o sides (h.writes d) (h.wrotes d)) (sym older_is) (wrotes_grow d room past.told.greatest last_ older_ handed sides source was.rows was.hands this there new shifts (h.writes d) (h.wrotes d) was.wrotes);
    outs = subst (λ (o : List DeviceRow). AreOuts d room past.told.greatest new o handed sides (h.writes d) (h.wrotes d) h.actual outs knows live_next) (sym older_is)
        (outs_grow d room past.told.greatest last_ older_ handed sides source was.rows was.hands this there new shifts (h.writes d) (h.wrotes d) h.actual outs knows live live_next claimed_shift was.writes was.outs);
    coming = was.coming;
    answering = was.answering;
    copying = was.copying;
    copied_to = was.copied_to;
    labels = λ b needs. was.labels b (elim needs.is [
      | inl leads ↦ record { is = inl (led d room past.told.greatest last_ older_ handed sides source was.rows was.hands this there new shifts b leads) }
      | inr rest ↦ elim rest [
        | inl up ↦ record { is = inr (inl up) }
        | inr taken ↦ absurd (let below = was.copies.copied_below taken.0 taken.1 in let at = taken.3 in let next = shifts.epoch in omega (arith, below, at, next))
      ]
    ]);
    down = was.down;
    known = λ b r is. let k = was.known b r is in (k.0, still_placed past.told.chain (Shift d epoch mode second boot) k.0 k.1, k.2, k.3);
  }
    where
      room : ℕ
      room = store_room parts.made

      last_ : DeviceRow
      last_ = row_of (last past.told.chain) d

      older_ : List DeviceRow
      older_ = rows_before past.told.chain d

      new : DeviceRow
      new = row_of (effect (last past.told.chain) (Shift d epoch mode second boot)) d

      sides : Bool → Side
      sides = side_of past.told x parts.members d

      source : ℕ → ℕ → List ℕ
      source = h.source d

      handed : List Handing
      handed = handings d past.told.handed

      outs : ℕ → Option Out
      outs = outs_of parts.nodes

      knows : ℕ → Option DeviceRow
      knows = knows_of parts.nodes d

      live : Out → Type 0
      live = IsClaimed (last past.told.chain) past.told.greatest

      live_next : Out → Type 0
      live_next = IsClaimed (effect (last past.told.chain) (Shift d epoch mode second boot)) past.told.greatest
