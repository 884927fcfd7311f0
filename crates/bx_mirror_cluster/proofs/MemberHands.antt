-- A member hands back a change of its device's mode: all goes on fitting, and what stands goes on.
use Rattle.std.proofs.Common.{◌≡◌, ◌≢◌, ◌⊎◌, inl, inr, ℕ, ◌<◌, ◌≤◌, Bool, true, false, List, ◌∷◌, Some, refl, sym, ◌∙◌, ap, subst, arith}
use Rattle.std.specs.Prelude.{◌==◌, not, if◌then◌else◌}
use Rattle.std.proofs.lemmas.Bool.Decides.{nat_tests}
use Rattle.bx_base.specs.declared.names.Actor.TheVariants.{Member}
use Rattle.bx_disk.specs.Disks.{Disks}
use Rattle.bx_facts.specs.Chains.{last}
use Rattle.bx_facts.specs.Writes.{StorePast, store_room}
use Rattle.bx_global.specs.declared.change.Change.{Change}
use Rattle.bx_rows.specs.Modes.{IsReachable, IsSource}
use Rattle.bx_rows.specs.declared.device.DeviceRow.{DeviceRow}
use Rattle.bx_mirror_laws.specs.Acting.{Acts, IsRow}
use Rattle.bx_mirror_laws.specs.Sides.{Among, Copied, Handing, Side}
use Rattle.bx_mirror_laws.specs.Sound.{AreHanded, AreOuts, Filled, DeviceStands}
use Rattle.bx_mirror_laws.proofs.Handing.{hands_hand, outs_hand, stands_hand}
use Rattle.bx_mirror_member.specs.Standing.{MemberView as Serving, device_in, is_second}
use Rattle.bx_mirror_member.specs.Steps.{shift}
use Rattle.bx_mirror_client.specs.Sends.{member_at}
use Rattle.bx_mirror_cluster.specs.Fitting.{History, IsClaimed, IsComing, IsDeviceSound, Keeps, NeedsLabel, Parts, StandsFor, handings, knows_of, last_row, outs_of, rows_before, side_of}
use Rattle.bx_mirror_cluster.specs.MemberSteps.{history_of, served, with_histories, with_serving}
use Rattle.bx_mirror_cluster.proofs.MemberOwn.{inside_at, own_device, own_second}
use Rattle.bx_mirror_cluster.proofs.MemberSays.{same_serving, says_step}
use Rattle.bx_mirror_cluster.proofs.MemberSteps.{IsMemberStep}

module _ (parts : Parts) (x : Disks) (past : StorePast) (keeps : Keeps parts x past) (d : ℕ) (b : Bool) (within : d < parts.made.devices) (up : past.told.down (Member (member_at d b)) ≡ false)
    (number : (parts.members (member_at d b)).number ≡ member_at d b) (row : DeviceRow) (knows : (parts.members (member_at d b)).row ≡ Some row) (mode : ℕ) (reaches : IsReachable row.mode mode)
    (kinds : (c : Bool) → IsSource mode c → IsSource row.mode c ⊎ ((b ≡ not c) × Filled (store_room parts.made) (last_row past.told.chain d) (keeps.history.source d) c (side_of past.told x parts.members d c) row × Acts b (side_of past.told x parts.members d b) row × IsSource row.mode b))
    (labelled : (c : Bool) → IsSource mode c → IsSource row.mode c ⊎ ((g : Copied) × Among (keeps.history.copieds d) g × (g.by ≡ c) × (g.epoch ≡ row.epoch))) where
  abbrev n : ℕ
  n = member_at d b

  abbrev was : Serving
  was = parts.members n

  abbrev h : History
  h = keeps.history

  abbrev sound : IsDeviceSound parts x past h d
  sound = keeps.devices d within

  abbrev sides : Bool → Side
  sides = side_of past.told x parts.members d

  abbrev change : Change
  change = shift was row mode

  abbrev handed_next : List Change
  handed_next = change ∷ past.told.handed

  abbrev hd : Handing
  hd = record { epoch = row.epoch; mode = mode; second = b; boot = was.boot }

  abbrev handed : List Handing
  handed = handings d past.told.handed

  -- the change is one of its device
  handings_is : handings d handed_next ≡ hd ∷ handed
  handings_is =
      let at : (device_in was == d) ≡ true = (let e = own_device was d b number in grind (arith, nat_tests, e)) in
      ap (λ (t : Bool). if t then record { epoch = row.epoch; mode = mode; second = is_second was; boot = was.boot } ∷ handed else handed) at
      ∙ ap (λ (t : Bool). record { epoch = row.epoch; mode = mode; second = t; boot = was.boot } ∷ handed) (own_second was d b number)

  handings_other : (k : ℕ) → k ≢ d → handings k handed_next ≡ handings k past.told.handed
  handings_other k apart =
      let at : (device_in was == k) ≡ false = (let e = own_device was d b number in grind (arith, nat_tests, e, apart)) in
      ap (λ (t : Bool). if t then record { epoch = row.epoch; mode = mode; second = is_second was; boot = was.boot } ∷ handings k past.told.handed else handings k past.told.handed) at

  is_row : IsRow (last_row past.told.chain d) (rows_before past.told.chain d) row
  is_row = sound.rows.known b row knows

  boot_is : was.boot ≡ (sides b).boot
  boot_is = keeps.member_boots n (inside_at d parts.made.devices b within) up

  abbrev room : ℕ
  room = store_room parts.made

  abbrev g : ℕ
  g = past.told.greatest

  abbrev last_ : DeviceRow
  last_ = last_row past.told.chain d

  abbrev older_ : List DeviceRow
  older_ = rows_before past.told.chain d

  -- who needs its label needed it, or has taken a piece of the copy
  needed : (c : Bool) → NeedsLabel last_ (hd ∷ handed) (h.copieds d) (past.told.down (Member (member_at d c))) c → NeedsLabel last_ handed (h.copieds d) (past.told.down (Member (member_at d c))) c
  needed c needs = elim needs.is [
    | inl leads ↦ elim leads.is [
      | inl now ↦ record { is = inl (record { is = inl now }) }
      | inr more ↦ elim more.1.is [
        | inr old ↦ record { is = inl (record { is = inr (more.0, record { is = old }, more.2, more.3) }) }
        | inl new ↦ by_new (sym (ap (λ (q : Handing). q.epoch) new) ∙ more.2) (subst (λ (q : Handing). IsSource q.mode c) new more.3)
      ]
    ]
    | inr rest ↦ record { is = inr rest }
  ]
    where
      by_new : row.epoch ≡ last_.epoch → IsSource mode c → NeedsLabel last_ handed (h.copieds d) (past.told.down (Member (member_at d c))) c
      by_new at source = elim (labelled c source) [
        | inl leads ↦ record { is = inl (record { is = inl (subst (λ (r : DeviceRow). IsSource r.mode c) (sound.rows.same row last_ is_row (record { is = inl refl }) at) leads) }) }
        | inr taken ↦ record { is = inr (inr (taken.0, taken.1, taken.2, taken.3 ∙ at)) }
      ]

  direct : IsDeviceSound parts x (served past past.told.letters handed_next past.told.knew) (with_histories h (λ k. history_of h d)) d
  direct = record {
    rows = sound.rows;
    hands = subst (λ (hs : List Handing). AreHanded room last_ older_ hs sides (h.source d)) (sym handings_is)
        (hands_hand d room g last_ older_ handed sides (h.source d) sound.rows sound.hands (h.copies d) (h.copieds d) sound.copies hd row is_row knows boot_is refl reaches kinds);
    copies = sound.copies;
    writes = sound.writes;
    wrotes = sound.wrotes;
    outs = subst (λ (hs : List Handing). AreOuts d room g last_ older_ hs sides (h.writes d) (h.wrotes d) h.actual (outs_of parts.nodes) (knows_of parts.nodes d) (IsClaimed (last past.told.chain) g)) (sym handings_is)
        (outs_hand d room g last_ older_ handed sides (h.source d) sound.rows sound.hands (h.copies d) (h.copieds d) sound.copies hd row is_row knows boot_is refl reaches kinds
        (h.writes d) (h.wrotes d) h.actual (outs_of parts.nodes) (knows_of parts.nodes d) (IsClaimed (last past.told.chain) g) sound.outs);
    coming = sound.coming;
    answering = sound.answering;
    copying = sound.copying;
    copied_to = sound.copied_to;
    labels = λ c needs. sound.labels c (needed c (subst (λ (hs : List Handing). NeedsLabel last_ hs (h.copieds d) (past.told.down (Member (member_at d c))) c) handings_is needs));
    down = sound.down;
    known = sound.known;
  }

  pub hand_step : IsMemberStep parts x x past h d b was past.told.letters handed_next past.told.knew (history_of h d)
  hand_step = says_step parts x past keeps d b past.told.letters handed_next (history_of h d) (λ inside. direct) (λ l there. inl there) (λ l message there spells. inl there) handings_other (λ w there. there)

  pub hand_goes : (From : DeviceRow → Type 0) (sector : ℕ) (content : List ℕ) → 1 ≤ sector → sector < store_room parts.made → StandsFor From parts x past d sector content → StandsFor From (with_serving parts n was) x (served past past.told.letters handed_next past.told.knew) d sector content
  hand_goes From sector content low high stands =
      subst (λ (p : Parts). StandsFor From p x (served past past.told.letters handed_next past.told.knew) d sector content) (sym (same_serving parts n))
      (subst (λ (hs : List Handing). DeviceStands d g From last_ older_ hs sides (IsComing past.told.letters d) past.writes sector content) (sym handings_is)
      (stands_hand d room g last_ older_ handed sides (h.source d) sound.rows sound.hands (h.copies d) (h.copieds d) sound.copies hd row is_row knows boot_is refl reaches kinds From (IsComing past.told.letters d) past.writes sector content low high stands))
