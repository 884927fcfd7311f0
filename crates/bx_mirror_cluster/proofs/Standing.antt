-- What stands goes on standing while the chain grows.
use Rattle.std.proofs.Common.{◌≡◌, ◌⊎◌, inl, inr, ℕ, ◌<◌, ◌≤◌, Bool, Contains, List, Some, sym, ◌∙◌, ap, subst}
use Rattle.std.specs.Prelude.{slice_get}
use Rattle.bx_disk.specs.Disks.{Disks}
use Rattle.bx_facts.specs.Chains.{Chain, IsPlace, LivesIn, grown, last}
use Rattle.bx_facts.specs.Writes.{StorePast, store_grown, store_room}
use Rattle.bx_global.specs.Table.{IsLegal, effect}
use Rattle.bx_global.specs.declared.change.Change.{Change}
use Rattle.bx_global.specs.declared.change.Change.TheVariants.{Shift}
use Rattle.bx_global.specs.declared.state.GlobalState.{GlobalState}
use Rattle.bx_rows.specs.declared.device.DeviceRow.{DeviceRow}
use Rattle.bx_mirror_laws.specs.Acting.{FromEpoch}
use Rattle.bx_mirror_laws.specs.Sides.{Among, Handing, Out, Side}
use Rattle.bx_mirror_laws.specs.Sound.{DeviceStands, sent_of}
use Rattle.bx_mirror_laws.proofs.Growing.{stands_grow}
use Rattle.bx_mirror_laws.proofs.Small.{stands_fewer, stands_last}
use Rattle.bx_mirror_cluster.specs.Fitting.{History, IsClaimed, IsComing, IsDeviceSound, Keeps, KnownFrom, Nowhere, Parts, StandsFor, StandsOn, handings, knows_of, outs_of, row_of, row_or, rows_before, side_of}
use Rattle.bx_mirror_cluster.proofs.Chained.{claimed_shift, handed_there, is_shifted, older_is, shift_grows, still_grows}

-- the rows known from an index on in a longer chain: those that were, or its last one
pub known_grown : (chain : Chain) (change : Change) (d index : ℕ) (r : DeviceRow) → KnownFrom (grown chain change) d index r → KnownFrom chain d index r ⊎ (r ≡ row_of (effect (last chain) change) d)
known_grown chain change d index r known = elim known.1 [
  | inl new ↦ inr (sym (ap row_or (sym (ap (λ (s : GlobalState). slice_get s.devices d) new) ∙ known.3)))
  | inr old ↦ inl (known.0, old, known.2, known.3)
]

module _ (parts : Parts) (x : Disks) (past : StorePast) (h : History) (d : ℕ) (was : IsDeviceSound parts x past h d) (sent : (w : Out) → Among h.actual w → Contains past.writes (sent_of w)) where
  -- where this device's row stays
  module _ (change : Change) (lived : (n : ℕ) (o : Out) → outs_of parts.nodes n ≡ Some o → LivesIn (effect (last past.told.chain) change) o.session → LivesIn (last past.told.chain) o.session)
      (same : row_of (effect (last past.told.chain) change) d ≡ row_of (last past.told.chain) d) (older : rows_before (grown past.told.chain change) d ≡ rows_before past.told.chain d) where
    pub still_stands : (From : DeviceRow → Type 0) (sector : ℕ) (content : List ℕ) → StandsFor From parts x past d sector content → StandsFor From parts x (store_grown past change) d sector content
    still_stands From sector content stands =
        subst (λ (l : DeviceRow). DeviceStands d past.told.greatest From l (rows_before (grown past.told.chain change) d) handed sides (IsComing past.told.letters d) past.writes sector content) (sym same)
        (subst (λ (o : List DeviceRow). DeviceStands d past.told.greatest From (row_of (last past.told.chain) d) o handed sides (IsComing past.told.letters d) past.writes sector content) (sym older) stands)
      where
        handed : List Handing
        handed = handings d past.told.handed

        sides : Bool → Side
        sides = side_of past.told x parts.members d

    pub still_stands_on : (sector : ℕ) (content : List ℕ) (index : ℕ) → StandsOn parts x past d sector content index → StandsOn parts x (store_grown past change) d sector content index
    still_stands_on sector content index stands = record {
      settled = record { device = stands.settled.device; behind_label = stands.settled.behind_label; within = stands.settled.within; is = still_stands Nowhere sector content stands.settled.is };
      stands = stands_last d (store_room parts.made) past.told.greatest (KnownFrom past.told.chain d index) (KnownFrom (grown past.told.chain change) d index) _ _ (handings d past.told.handed) (side_of past.told x parts.members d) (h.source d)
          now.rows now.hands (h.writes d) (h.wrotes d) h.actual (outs_of parts.nodes) (knows_of parts.nodes d) _ now.writes (IsComing past.told.letters d) past.writes sector content now.coming sent
          (λ r known. known_grown past.told.chain change d index r known) (still_stands (KnownFrom past.told.chain d index) sector content stands.stands);
    }
      where
        now : IsDeviceSound parts x (store_grown past change) h d
        now = still_grows parts x past h d change was lived same older

  -- where its mode is shifted
  module _ (epoch mode boot : ℕ) (second : Bool) (legal : IsLegal (last past.told.chain) (Shift d epoch mode second boot)) (own : Contains past.told.handed (Shift d epoch mode second boot))
      (lived : (n : ℕ) (o : Out) → outs_of parts.nodes n ≡ Some o → LivesIn (effect (last past.told.chain) (Shift d epoch mode second boot)) o.session → LivesIn (last past.told.chain) o.session) where
    pub shift_stands : (From : DeviceRow → Type 0) (sector : ℕ) (content : List ℕ) → StandsFor From parts x past d sector content → StandsFor From parts x (store_grown past (Shift d epoch mode second boot)) d sector content
    shift_stands From sector content stands =
        subst (λ (o : List DeviceRow). DeviceStands d past.told.greatest From (row_of (effect (last past.told.chain) (Shift d epoch mode second boot)) d) o (handings d past.told.handed) (side_of past.told x parts.members d) (IsComing past.told.letters d) past.writes sector content)
        (sym (older_is parts x past h d epoch mode boot second was legal own lived))
        (stands_grow d (store_room parts.made) past.told.greatest (row_of (last past.told.chain) d) (rows_before past.told.chain d) (handings d past.told.handed) (side_of past.told x parts.members d) (h.source d) was.rows was.hands
        (record { epoch = epoch; mode = mode; second = second; boot = boot }) (handed_there d past.told.handed epoch mode boot second own) (row_of (effect (last past.told.chain) (Shift d epoch mode second boot)) d)
        (is_shifted (last past.told.chain) d epoch mode boot second legal) (h.writes d) (h.wrotes d) h.actual (outs_of parts.nodes) (knows_of parts.nodes d) (IsClaimed (last past.told.chain) past.told.greatest) (IsClaimed (effect (last past.told.chain) (Shift d epoch mode second boot)) past.told.greatest) (claimed_shift parts x past h d epoch mode boot second was legal own lived) was.writes
        From (IsComing past.told.letters d) past.writes sector content was.coming sent stands)

    pub shift_stands_on : (sector : ℕ) (content : List ℕ) (index : ℕ) → StandsOn parts x past d sector content index → StandsOn parts x (store_grown past (Shift d epoch mode second boot)) d sector content index
    shift_stands_on sector content index stands = record {
      settled = record { device = stands.settled.device; behind_label = stands.settled.behind_label; within = stands.settled.within; is = shift_stands Nowhere sector content stands.settled.is };
      stands = stands_last d (store_room parts.made) past.told.greatest (KnownFrom past.told.chain d index) (KnownFrom (grown past.told.chain (Shift d epoch mode second boot)) d index) _ _ (handings d past.told.handed) (side_of past.told x parts.members d) (h.source d)
          now.rows now.hands (h.writes d) (h.wrotes d) h.actual (outs_of parts.nodes) (knows_of parts.nodes d) _ now.writes (IsComing past.told.letters d) past.writes sector content now.coming sent
          (λ r known. known_grown past.told.chain (Shift d epoch mode second boot) d index r known) (shift_stands (KnownFrom past.told.chain d index) sector content stands.stands);
    }
      where
        now : IsDeviceSound parts x (store_grown past (Shift d epoch mode second boot)) h d
        now = shift_grows parts x past h d epoch mode boot second was legal own lived

-- What stands from the epoch of a state on stands for readers of that state.
pub known_epoch : (parts : Parts) (x : Disks) (past : StorePast) → Keeps parts x past → (s : GlobalState) → IsPlace past.told.chain s → (d : ℕ) (r : DeviceRow) → KnownFrom past.told.chain d s.index r → (row_of s d).epoch ≤ r.epoch
known_epoch parts x past keeps s place d r known =
    let le = keeps.rising s known.0 place known.1 known.2 d in
    subst (λ (q : DeviceRow). (row_of s d).epoch ≤ q.epoch) (ap row_or known.3) le

pub done_stands_on : (parts : Parts) (x : Disks) (past : StorePast) → Keeps parts x past → (s : GlobalState) → IsPlace past.told.chain s → (d sector : ℕ) (content : List ℕ) → d < parts.made.devices → 1 ≤ sector → sector < store_room parts.made
    → StandsFor (FromEpoch (row_of s d).epoch) parts x past d sector content → StandsOn parts x past d sector content s.index
done_stands_on parts x past keeps s place d sector content device low high stands = record {
  settled = record {
    device = device;
    behind_label = low;
    within = high;
    is = stands_fewer d past.told.greatest (FromEpoch (row_of s d).epoch) Nowhere _ _ _ _ _ _ sector content (λ r none. absurd none) stands;
  };
  stands = stands_fewer d past.told.greatest (FromEpoch (row_of s d).epoch) (KnownFrom past.told.chain d s.index) _ _ _ _ _ _ sector content (λ r known. known_epoch parts x past keeps s place d r known) stands;
}
