-- The chain grows by any change that is legal, and that was handed back where a store asks for such: each device goes on fitting, and what stands stands.
use Rattle.std.proofs.Common.{◌≡◌, ◌≢◌, ◌⊎◌, ⊎_elim, ℕ, Bool, false, Contains, List, ◌∷◌, Some, refl, sym, ap, subst, arith}
use Rattle.std.specs.Prelude.{◌==◌, if◌then◌else◌}
use Rattle.std.proofs.lemmas.Bool.Decides.{nat_tests}
use Rattle.bx_disk.specs.Disks.{Disks}
use Rattle.bx_facts.specs.Chains.{IsStoresOwn, LivesIn, grown, last}
use Rattle.bx_facts.specs.Writes.{StorePast, store_grown}
use Rattle.bx_global.proofs.Places.{at_place-other}
use Rattle.bx_global.specs.Table.{IsLegal, effect}
use Rattle.bx_global.specs.declared.change.Change.{Change}
use Rattle.bx_global.specs.declared.change.Change.TheVariants.{Claim, Close, Expire, Open, Renew, Shift, Take}
use Rattle.bx_rows.specs.Rows.{shifted}
use Rattle.bx_mirror_laws.specs.Acting.{FromEpoch}
use Rattle.bx_mirror_laws.specs.Sides.{Among, Out}
use Rattle.bx_mirror_laws.specs.Sound.{sent_of}
use Rattle.bx_mirror_cluster.proofs.Chained.{shift_grows, still_grows}
use Rattle.bx_mirror_cluster.proofs.Standing.{shift_stands, shift_stands_on, still_stands, still_stands_on}
use Rattle.bx_mirror_cluster.specs.Fitting.{History, IsDeviceSound, Nowhere, Parts, StandsFor, StandsOn, outs_of, row_of, row_or, rows_before}

-- What a device keeps of the growth.
pub record GrowsWith (parts : Parts) (x : Disks) (past : StorePast) (h : History) (d : ℕ) (change : Change) : Type 0 where
  pub sound : IsDeviceSound parts x (store_grown past change) h d
  pub settles : (sector : ℕ) (content : List ℕ) → StandsFor Nowhere parts x past d sector content → StandsFor Nowhere parts x (store_grown past change) d sector content
  pub reads : (epoch sector : ℕ) (content : List ℕ) → StandsFor (FromEpoch epoch) parts x past d sector content → StandsFor (FromEpoch epoch) parts x (store_grown past change) d sector content
  pub stands : (sector : ℕ) (content : List ℕ) (index : ℕ) → StandsOn parts x past d sector content index → StandsOn parts x (store_grown past change) d sector content index

same_or : (n m : ℕ) → (n ≡ m) ⊎ (n ≢ m)
same_or n m = grind arith

module _ (parts : Parts) (x : Disks) (past : StorePast) (h : History) (d : ℕ) (was : IsDeviceSound parts x past h d) (sent : (w : Out) → Among h.actual w → Contains past.writes (sent_of w)) where
  -- where its row stays
  still : (change : Change) → ((n : ℕ) (o : Out) → outs_of parts.nodes n ≡ Some o → LivesIn (effect (last past.told.chain) change) o.session → LivesIn (last past.told.chain) o.session)
      → row_of (effect (last past.told.chain) change) d ≡ row_of (last past.told.chain) d → rows_before (grown past.told.chain change) d ≡ rows_before past.told.chain d → GrowsWith parts x past h d change
  still change lived same older = record {
    sound = still_grows parts x past h d change was lived same older;
    settles = still_stands parts x past h d was sent change lived same older Nowhere;
    reads = λ epoch sector content stands. still_stands parts x past h d was sent change lived same older (FromEpoch epoch) sector content stands;
    stands = still_stands_on parts x past h d was sent change lived same older;
  }

  pub grows : (change : Change) → IsLegal (last past.told.chain) change → IsStoresOwn past.told.handed change
      → ((n : ℕ) (o : Out) → outs_of parts.nodes n ≡ Some o → LivesIn (effect (last past.told.chain) change) o.session → LivesIn (last past.told.chain) o.session) → GrowsWith parts x past h d change
  grows (Renew by boot reading) legal own lived = still (Renew by boot reading) lived refl refl
  grows (Take by boot reading) legal own lived = still (Take by boot reading) lived refl refl
  grows (Open node boot reading) legal own lived = still (Open node boot reading) lived refl refl
  grows (Expire session term reading) legal own lived = still (Expire session term reading) lived refl refl
  grows (Claim gone by) legal own lived = still (Claim gone by) lived refl refl
  grows (Close gone by) legal own lived = still (Close gone by) lived refl refl
  grows (Shift device epoch mode second boot) legal own lived = ⊎_elim
      (λ (e : device ≡ d). subst (λ (n : ℕ). IsLegal (last past.told.chain) (Shift n epoch mode second boot) → Contains past.told.handed (Shift n epoch mode second boot)
      → ((k : ℕ) (o : Out) → outs_of parts.nodes k ≡ Some o → LivesIn (effect (last past.told.chain) (Shift n epoch mode second boot)) o.session → LivesIn (last past.told.chain) o.session) → GrowsWith parts x past h d (Shift n epoch mode second boot)) (sym e)
      (λ l c v. record { sound = shift_grows parts x past h d epoch mode boot second was l c v; settles = shift_stands parts x past h d was sent epoch mode boot second l c v Nowhere; reads = λ e sector content stands. shift_stands parts x past h d was sent epoch mode boot second l c v (FromEpoch e) sector content stands; stands = shift_stands_on parts x past h d was sent epoch mode boot second l c v }) legal own lived)
      (λ (apart : device ≢ d). still (Shift device epoch mode second boot) lived
      (ap row_or (at_place-other device (shifted mode second boot) (last past.told.chain).devices d (λ e. apart (sym e))))
      (let e : (device == d) ≡ false = grind (arith, nat_tests, apart) in ap (λ (b : Bool). if b then row_of (last past.told.chain) d ∷ rows_before past.told.chain d else rows_before past.told.chain d) e))
      (same_or device d)
