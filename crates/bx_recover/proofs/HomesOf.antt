-- The homes of the newest blocks of records are those of the log's blocks.
use Rattle.std.proofs.Common.{◌≡◌, ◌∙◌, ℕ, zero, suc, ◌<◌, arith, List, [], ◌∷◌, Contains, length, map, reverse, Some, refl, sym, ap, subst}
use Rattle.std.specs.Prelude.{slice_get, slice_index_or}
use Rattle.std.specs.BTreeMap.{is_at}
use Rattle.std.specs.Cmp.{eq_by_cmp_equiv, nat_cmp_total}
use Rattle.std.specs.List.{AllByRecursion}
use Rattle.std.specs.Ordering.{nat_cmp}
use Rattle.std.proofs.lemmas.Bool.Decides.{nat_tests}
use Rattle.std.proofs.lemmas.Map.Entries.{lookup_from_place, place_from_lookup}
use Rattle.std.proofs.lemmas.Map.Keys.{IsDistinct-from_sorted}
use Rattle.bx_layout.specs.declared.block.Block.{Block}
use Rattle.bx_layout.specs.Blocks.{HasParts}
use Rattle.bx_logs.specs.bx_homes.proofs.Sectors.{of_some}
use Rattle.bx_places.specs.Places.{IsBlock}
use Rattle.bx_records.specs.Drafts.{Changed}
use Rattle.bx_redo.specs.Homes.{AreItsHomes, home_run}
use Rattle.bx_redo.specs.bx_volume.specs.Overlay.{Logs}
use Rattle.bx_redo.specs.bx_volume.specs.Records.{IsLogged, Logged, newest_in}
use Rattle.bx_recover.specs.HomesOf.{AreNewestOf, home_runs, numbered_in}
use Rattle.bx_recover.proofs.Newest.{newest_fit}

module _ {X Y : Type 0} (f : X → Y) where
  of_place : (xs : List X) (place : ℕ) (y : Y) → place < length (map f xs) → slice_index_or (map f xs) place y ≡ y → (x : X) × (slice_get xs place ≡ Some x) × (y ≡ f x)
  of_place [] place y less is = absurd (omega (arith, less))
  of_place (x ∷ xs) zero y less is = (x, refl, sym is)
  of_place (x ∷ xs) (suc place) y less is = of_place xs place y (omega (arith, less)) is

  at_place : (xs : List X) (place : ℕ) (x : X) → slice_get xs place ≡ Some x → (place < length (map f xs)) × (slice_index_or (map f xs) place (f x) ≡ f x)
  at_place [] place x is = absurd cc
  at_place (first ∷ xs) zero x is = (omega arith, ap f (let e : first ≡ x = cc in e))
  at_place (first ∷ xs) (suc place) x is = let further = at_place xs place x is in (let less = further.0 in omega (arith, less), further.1)

pub its_homes : (devices areas slot : ℕ) (logs : Logs) (records : List Logged) (blocks : List Changed) → AreNewestOf records blocks → AllByRecursion (IsLogged areas) records → logs slot ≡ reverse records
    → AreItsHomes devices areas logs slot (home_runs devices blocks)
its_homes devices areas slot logs records blocks newest logged same = record {
  each = λ run has.
      let from = of_place (λ (block : Changed). home_run devices block.0 block.1) blocks has.0 run has.1 has.2 in
      let found : numbered_in blocks from.0.0 ≡ Some from.0.1 = lookup_from_place (eq_by_cmp_equiv nat_cmp_total) blocks has.0 from.0.0 from.0.1 (IsDistinct-from_sorted nat_cmp (map (λ (block : Changed). block.0) blocks) newest.order) from.1 in
      let is = of_some (λ block. IsBlock areas from.0.0 × HasParts block) (numbered_in blocks from.0.0) from.0.1 found (newest_fit areas records (numbered_in blocks from.0.0) from.0.0 logged (newest.each from.0.0)) in
      record { at = from.0.0; is = is.0; block = from.0.1; parts = is.1; newest = here from.0.0 ∙ found; run_is = from.2 };
  all = λ at block is has. there at block (sym (here at) ∙ has);
}
  where
    here : (at : ℕ) → newest_in (logs slot) at ≡ numbered_in blocks at
    here at = ap (λ (l : List Logged). newest_in l at) same ∙ sym (newest.each at)

    there : (at : ℕ) (block : Block) → numbered_in blocks at ≡ Some block → Contains (home_runs devices blocks) (home_run devices at block)
    there at block found =
        let place = place_from_lookup (is_at (nat_cmp at)) blocks block found in
        let key : place.1 ≡ at = let test = place.3 in grind (arith, nat_tests, test) in
        let has = at_place (λ (one : Changed). home_run devices one.0 one.1) blocks place.0 (place.1, block) place.2 in
        subst (λ (n : ℕ). Contains (home_runs devices blocks) (home_run devices n block)) key (place.0, has.0, has.1)
