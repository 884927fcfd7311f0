-- A read that is sent: each answer that may come has what stands for those who know what its node knows. And members that an audit reads are labelled.
use Rattle.std.proofs.Common.{◌≡◌, ◌⊎◌, inl, inr, ℕ, ◌+◌, ◌<◌, ◌≤◌, Bool, true, false, List, [], ◌∷◌, length, Option, Some, None, refl, sym, ◌∙◌, ap, subst, arith}
use Rattle.std.specs.Prelude.{◌==◌, slice_get, if◌then◌else◌}
use Rattle.std.proofs.lemmas.Option.{slice_get_cases}
use Rattle.bx_base.specs.declared.names.Actor.TheVariants.{Node}
use Rattle.bx_disk.specs.Disks.{Disks, Image}
use Rattle.bx_facts.specs.Chains.{IsAmong, IsPlace, last, state_after}
use Rattle.bx_facts.specs.Writes.{HasSettled, IsOfStore, IsSourceIn, StorePast, member_disk}
use Rattle.bx_global.specs.Table.{greatest}
use Rattle.bx_global.specs.declared.change.Change.{Change}
use Rattle.bx_global.specs.declared.change.Change.TheVariants.{Claim, Close, Expire, Open, Renew, Shift, Take}
use Rattle.bx_global.specs.declared.state.GlobalState.{GlobalState}
use Rattle.bx_rows.specs.declared.device.DeviceRow.{DeviceRow}
use Rattle.bx_mirror_laws.specs.Acting.{FromEpoch, IsRow}
use Rattle.bx_mirror_laws.specs.Sides.{Among}
use Rattle.bx_mirror_client.specs.Sends.{next_number}
use Rattle.bx_mirror_client.specs.declared.asking.Asking.{Asking}
use Rattle.bx_mirror_cluster.specs.Fitting.{HasLabel, IsSettledOn, Keeps, KnownFrom, Parts, StandsFor, StandsOn, WillReadOn, handings, last_row, older_rows, row_of, row_or, rows_before}
use Rattle.bx_mirror_cluster.specs.NodeSteps.{MayRead, parts_asked, past_asked}
use Rattle.bx_mirror_cluster.proofs.Chained.{last_placed, leads_in}
use Rattle.bx_mirror_cluster.proofs.NodeSteps.{asked_is, reads_asked}

-- the rows of a device along a chain are those of its states
placed_after : (first : GlobalState) (changes : List Change) → IsAmong first changes (state_after first changes)
placed_after first [] = refl
placed_after first (change ∷ older) = inl refl

old_row : (d : ℕ) (first : GlobalState) (changes : List Change) (r : DeviceRow) → Among (older_rows d first changes) r → (s : GlobalState) × IsAmong first changes s × (row_of s d ≡ r)
old_row d first [] r there = absurd there.is
old_row d first (Renew by boot reading ∷ older) r there = let was = old_row d first older r there in (was.0, inr was.1, was.2)
old_row d first (Take by boot reading ∷ older) r there = let was = old_row d first older r there in (was.0, inr was.1, was.2)
old_row d first (Open node boot reading ∷ older) r there = let was = old_row d first older r there in (was.0, inr was.1, was.2)
old_row d first (Expire session term reading ∷ older) r there = let was = old_row d first older r there in (was.0, inr was.1, was.2)
old_row d first (Claim gone by ∷ older) r there = let was = old_row d first older r there in (was.0, inr was.1, was.2)
old_row d first (Close gone by ∷ older) r there = let was = old_row d first older r there in (was.0, inr was.1, was.2)
old_row d first (Shift device epoch mode second boot ∷ older) r there = by (device == d) (λ has. old_row d first older r has) there
  where
    by : (t : Bool) → (Among (older_rows d first older) r → (s : GlobalState) × IsAmong first older s × (row_of s d ≡ r)) → Among (if t then row_of (state_after first older) d ∷ older_rows d first older else older_rows d first older) r
        → (s : GlobalState) × IsAmong first (Shift device epoch mode second boot ∷ older) s × (row_of s d ≡ r)
    by true among has = elim has.is [
      | inl new ↦ (state_after first older, inr (placed_after first older), sym new)
      | inr old ↦ (let was = among (record { is = old }) in (was.0, inr was.1, was.2))
    ]
    by false among has = let was = among has in (was.0, inr was.1, was.2)

module _ (parts : Parts) (x : Disks) (past : StorePast) (keeps : Keeps parts x past) where
  of_state : (d : ℕ) (r : DeviceRow) → IsRow (last_row past.told.chain d) (rows_before past.told.chain d) r → (s : GlobalState) × IsPlace past.told.chain s × (row_of s d ≡ r)
  of_state d r row = elim row.is [
    | inl newest ↦ (last past.told.chain, last_placed past.told.chain, sym newest)
    | inr old ↦ old_row d past.told.chain.first past.told.chain.changes r old
  ]

  -- the row of a device in a state of the chain
  there_in : (s : GlobalState) → IsPlace past.told.chain s → (d : ℕ) → d < parts.made.devices → slice_get s.devices d ≡ Some (row_of s d)
  there_in s place d device = elim (slice_get_cases s.devices d).1 [
    | inl k ↦ k.2 ∙ ap Some (sym (ap row_or k.2))
    | inr none ↦ absurd (let far = none.0 in let count = keeps.count s place in omega (arith, far, count, device))
  ]

  -- A row from the epoch of a state on is known from the index of the state on.
  known_from : (s : GlobalState) → IsPlace past.told.chain s → (d index : ℕ) → d < parts.made.devices → index ≤ s.index → (r : DeviceRow) → IsRow (last_row past.told.chain d) (rows_before past.told.chain d) r → (row_of s d).epoch ≤ r.epoch
      → KnownFrom past.told.chain d index r
  known_from s place d index device low r row from = elim order [
    | inl later ↦ (its.0, its.1, later, there_in its.0 its.1 d device ∙ ap Some its.2)
    | inr before ↦ (s, place, low, there_in s place d device ∙ ap Some (same before))
  ]
    where
      its : (q : GlobalState) × IsPlace past.told.chain q × (row_of q d ≡ r)
      its = of_state d r row

      order : (index ≤ its.0.index) ⊎ (its.0.index < index)
      order = grind arith

      same : its.0.index < index → row_of s d ≡ r
      same before =
          let older = keeps.rising its.0 s its.1 place (omega (arith, before, low)) d in
          let of_it = ap (λ (q : DeviceRow). q.epoch) its.2 in
          (keeps.devices d device).rows.same (row_of s d) r (keeps.placed s place d) row (omega (arith, older, of_it, from))

  pub stands_from : (s : GlobalState) → IsPlace past.told.chain s → (d sector index : ℕ) (content : List ℕ) → d < parts.made.devices → index ≤ s.index → StandsFor (KnownFrom past.told.chain d index) parts x past d sector content
      → StandsFor (FromEpoch (row_of s d).epoch) parts x past d sector content
  stands_from s place d sector index content device low stands = record {
    reads = λ b counts. stands.reads b (record { is = elim counts.is [ inl leads ↦ inl leads | inr one ↦ inr (one.0, one.1, known_from s place d index device low one.0 one.1 one.2, one.3, one.4) ] });
    sure = stands.sure;
    coming = λ b r l other is from may leads there at come brought. stands.coming b r l other is (known_from s place d index device low r is from) may leads there at come brought;
  }

  -- ---- a read that is sent

  module _ (n session device place sectors : ℕ) (may : MayRead parts n session device place sectors) where
    abbrev it : Asking
    it = record { session = session; tag = next_number (parts.nodes n).tag; device = device; place = place; sectors = sectors; answer = None }

    -- no answer of its number is under way
    none_yet : (d epoch : ℕ) (bytes : List ℕ) (letters_say : (1 ≤ it.tag) × ((keeps.boot_of session < past.told.boots (Node n)) ⊎ (it.tag ≤ (parts.nodes n).tag))) → ⊥
    none_yet d epoch bytes says = elim says.1 [
      | inl old ↦ (let boot = (keeps.owned n session may.own).1 in omega (arith, old, boot))
      | inr le ↦ by ((parts.nodes n).tag == greatest) refl le
    ]
      where
        by : (t : Bool) → ((parts.nodes n).tag == greatest) ≡ t → next_number (parts.nodes n).tag ≤ (parts.nodes n).tag → ⊥
        by true e le = let some = says.0 in let is : next_number (parts.nodes n).tag ≡ 0 = ap (λ (t : Bool). if t then 0 else (parts.nodes n).tag + 1) e in omega (arith, some, is)
        by false e le = let is : next_number (parts.nodes n).tag ≡ (parts.nodes n).tag + 1 = ap (λ (t : Bool). if t then 0 else (parts.nodes n).tag + 1) e in omega (arith, is, le)

    pub will_have : (sector : ℕ) (content : List ℕ) (index : ℕ) → StandsOn parts x past device sector content index → index ≤ past.told.knew (Node n) → WillReadOn parts x past n it sector content
    will_have sector content index stands low =
        let known = keeps.node_known n session may.own in
        let within = stands.settled.device in
        let at = known.2 in
        record {
          device = within;
          behind_label = stands.settled.behind_label;
          within = stands.settled.within;
          row = row_of known.0 device;
          row_is = ap (λ (rs : List DeviceRow). slice_get rs device) known.3 ∙ there_in known.0 known.1 device within;
          stands = stands_from known.0 known.1 device sector index content within (omega (arith, low, at)) stands.stands;
          coming = λ epoch bytes data_ from below above. absurd (let drawn = keeps.tagged n device session epoch it.tag bytes data_ in none_yet device epoch bytes (drawn.some, drawn.case));
          came = λ bytes is below above. absurd (let no : None ≡ Some bytes = is in cc);
        }

    pub will_promise : (read : Asking) (sector : ℕ) (content : List ℕ) (index : ℕ) → ((parts_asked parts n session device place sectors).nodes n).asks ≡ Some read → StandsOn parts x past device sector content index → index ≤ past.told.knew (Node n)
        → WillReadOn (parts_asked parts n session device place sectors) x (past_asked parts past n session device place sectors) n read sector content
    will_promise read sector content index is stands low =
        let same : Some it ≡ Some read = sym (asked_is parts x past keeps n session device place sectors may) ∙ is in
        subst (λ (a : Asking). WillReadOn (parts_asked parts n session device place sectors) x (past_asked parts past n session device place sectors) n a sector content) (let e : it ≡ read = cc in e)
        (reads_asked parts x past keeps n session device place sectors may n it sector content (will_have sector content index stands low))

  -- ---- labels

  label_of : (d : ℕ) (b : Bool) → IsSourceIn (last past.told.chain) d b → HasLabel parts.made x (member_disk d b)
  label_of d b source = (keeps.devices d within).labels b (record { is = inl (leads_in (last past.told.chain) (handings d past.told.handed) d b source) })
    where
      there : (o : Option DeviceRow) → slice_get (last past.told.chain).devices d ≡ o → d < length (last past.told.chain).devices
      there None e = absurd (let h = rw e at source in h)
      there (Some row) e = elim (slice_get_cases (last past.told.chain).devices d).1 [
        | inl k ↦ k.1
        | inr none ↦ absurd (let no : None ≡ Some row = sym none.1 ∙ e in cc)
      ]

      within : d < parts.made.devices
      within = let count = keeps.count (last past.told.chain) (last_placed past.told.chain) in let short = there (slice_get (last past.told.chain).devices d) refl in omega (arith, count, short)

  pub labelled : IsOfStore parts.made x (last past.told.chain)
  labelled = record {
    devices = keeps.count (last past.told.chain) (last_placed past.told.chain);
    labels = record { reads = λ d b source. (label_of d b source).spells; sure = λ d b source. (label_of d b source).sure; long = λ d b source. (label_of d b source).long };
  }

  -- ---- images

  pub imaged : (image : Image) → ((disk sector : ℕ) → (1 ≤ sector) ⊎ (disk < 3) → x.unsure disk sector ≡ false → image disk sector ≡ x.reads disk sector)
      → ((d : ℕ) (b : Bool) → IsSourceIn (last past.told.chain) d b → x.unsure (member_disk d b) 0 ≡ false → image (member_disk d b) 0 ≡ x.reads (member_disk d b) 0)
      → HasSettled past.writes past.told.greatest (IsSettledOn parts x past) x (last past.told.chain) image
  imaged image behind label = record {
    has = λ d sector content b only settled source. let leads = leads_in (last past.told.chain) (handings d past.told.handed) d b source in
        behind (member_disk d b) sector (inl settled.behind_label) (settled.is.sure b leads) ∙ settled.is.reads b (record { is = inl leads });
    labels = label;
    replicas = λ d sector low sure. behind d sector (inr low) sure;
  }
