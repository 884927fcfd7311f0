-- The writes of a cache's homes are those of all that isn't home, and of nothing else.
use Rattle.std.proofs.Common.{◌≡◌, ⊎_elim, ◌∙◌, ℕ, zero, suc, Bool, true, false, List, [], ◌∷◌, Contains, Option, Some, None, IfSome, refl, sym, ap, subst, arith}
use Rattle.std.specs.Prelude.{cond, if◌then◌else◌, slice_get}
use Rattle.std.specs.BTreeMap.{is_at}
use Rattle.std.specs.Ordering.{nat_cmp}
use Rattle.std.proofs.lemmas.Bool.Decides.{nat_tests}
use Rattle.bx_facts.proofs.Lists.{behind, front, front_or_behind, nothing}
use Rattle.bx_layout.specs.declared.block.Block.{Block}
use Rattle.bx_layout.specs.Blocks.{HasParts}
use Rattle.bx_places.specs.Places.{IsBlock}
use Rattle.bx_records.specs.declared.runs.Run.{Run}
use Rattle.bx_node_cache.specs.declared.cache.Kept.{Kept}
use Rattle.bx_node_cache.specs.Kept.{AreHomesOf, CacheView, IsCache, away_in, away_of, home_runs, kept_in}
use Rattle.bx_redo.specs.Homes.{home_run}

-- a run comes of a block in the list that isn't home
record ComesOf (devices : ℕ) (kept : List (ℕ × Kept)) (run : Run) : Type 0 where
  one : ℕ × Kept
  place : ℕ
  there : slice_get kept place ≡ Some one
  away : one.1.committed ≡ true
  run_is : run ≡ home_run devices one.0 one.1.block

comes_of : (devices : ℕ) (kept : List (ℕ × Kept)) (run : Run) → Contains (home_runs devices kept) run → ComesOf devices kept run
comes_of devices [] run has = absurd (nothing run has)
comes_of devices (first ∷ kept) run has = by first.1.committed refl (comes_of devices kept run)
  where
    further : ComesOf devices kept run → ComesOf devices (first ∷ kept) run
    further found = record { one = found.one; place = suc found.place; there = found.there; away = found.away; run_is = found.run_is }

    by : (b : Bool) → first.1.committed ≡ b → (Contains (home_runs devices kept) run → ComesOf devices kept run) → ComesOf devices (first ∷ kept) run
    by true is rest =
        let e : home_runs devices (first ∷ kept) ≡ home_run devices first.0 first.1.block ∷ home_runs devices kept = rw is refl in
        ⊎_elim (λ same. record { one = first; place = 0; there = refl; away = is; run_is = sym same }) (λ more. further (rest more))
        (front_or_behind (home_run devices first.0 first.1.block) (home_runs devices kept) run (subst (λ (l : List Run). Contains l run) e has))
    by false is rest = let e : home_runs devices (first ∷ kept) ≡ home_runs devices kept = rw is refl in further (rest (subst (λ (l : List Run). Contains l run) e has))

run_there : (devices : ℕ) (kept : List (ℕ × Kept)) (place : ℕ) (one : ℕ × Kept) → slice_get kept place ≡ Some one → one.1.committed ≡ true → Contains (home_runs devices kept) (home_run devices one.0 one.1.block)
run_there devices [] place one is away = absurd cc
run_there devices (first ∷ kept) zero one is away =
    let same : first ≡ one = cc in
    let committed : first.1.committed ≡ true = ap (λ (p : ℕ × Kept). p.1.committed) same ∙ away in
    let e : home_runs devices (first ∷ kept) ≡ home_run devices first.0 first.1.block ∷ home_runs devices kept = rw committed refl in
    subst (λ (p : ℕ × Kept). Contains (home_runs devices (first ∷ kept)) (home_run devices p.0 p.1.block)) same
    (subst (λ (l : List Run). Contains l (home_run devices first.0 first.1.block)) (sym e) (front (home_run devices first.0 first.1.block) (home_runs devices kept)))
run_there devices (first ∷ kept) (suc place) one is away = by first.1.committed refl (run_there devices kept place one is away)
  where
    by : (b : Bool) → first.1.committed ≡ b → Contains (home_runs devices kept) (home_run devices one.0 one.1.block) → Contains (home_runs devices (first ∷ kept)) (home_run devices one.0 one.1.block)
    by true committed rest =
        let e : home_runs devices (first ∷ kept) ≡ home_run devices first.0 first.1.block ∷ home_runs devices kept = rw committed refl in
        subst (λ (l : List Run). Contains l (home_run devices one.0 one.1.block)) (sym e) (behind (home_run devices first.0 first.1.block) (home_runs devices kept) (home_run devices one.0 one.1.block) rest)
    by false home rest = let e : home_runs devices (first ∷ kept) ≡ home_runs devices kept = rw home refl in subst (λ (l : List Run). Contains l (home_run devices one.0 one.1.block)) (sym e) rest

found_there : (kept : List (ℕ × Kept)) (at : ℕ) (one : Kept) → kept_in kept at ≡ Some one → (place : ℕ) × (slice_get kept place ≡ Some (at, one))
found_there [] at one is = absurd cc
found_there (first ∷ kept) at one is = by (is_at (nat_cmp at) first.0) refl (found_there kept at one)
  where
    by : (b : Bool) → is_at (nat_cmp at) first.0 ≡ b → (kept_in kept at ≡ Some one → (place : ℕ) × (slice_get kept place ≡ Some (at, one))) → (place : ℕ) × (slice_get (first ∷ kept) place ≡ Some (at, one))
    by true same rest =
        let key : first.0 ≡ at = grind (arith, nat_tests, same) in
        let found : Some first.1 ≡ Some one = sym (ap (λ (b : Bool). cond b (Some first.1) (kept_in kept at)) same) ∙ is in
        let value : first.1 ≡ one = cc in
        (0, λ i. Some (key i, value i))
    by false differ rest =
        let found = rest (sym (ap (λ (b : Bool). cond b (Some first.1) (kept_in kept at)) differ) ∙ is) in (suc found.0, found.1)

-- Where each pair of the list is what is kept of its block.
pub homes_are : (view : CacheView) → IsCache view → ((place at : ℕ) (one : Kept) → slice_get view.kept place ≡ Some (at, one) → kept_in view.kept at ≡ Some one)
    → AreHomesOf view.devices view.areas (away_in view.kept) (home_runs view.devices view.kept)
homes_are view is here = record {
  each = λ run has.
      let found = comes_of view.devices view.kept run has in
      let kept = here found.place found.one.0 found.one.1 found.there in
      let whole = subst (λ (o : Option Kept). IfSome o (λ one. IsBlock view.areas found.one.0 × HasParts one.block)) kept (is.each found.one.0) in
      record {
        at = found.one.0;
        is = whole.0;
        block = found.one.1.block;
        parts = whole.1;
        is_away = ap away_of kept ∙ ap (λ (b : Bool). if b then Some found.one.1.block else None) found.away;
        run_is = found.run_is;
      };
  all = λ at block is_away. by_kept at block (kept_in view.kept at) refl is_away;
}
  where
    by_one : (at : ℕ) (block : Block) (one : Kept) → kept_in view.kept at ≡ Some one → (b : Bool) → one.committed ≡ b → (if b then Some one.block else None) ≡ Some block → Contains (home_runs view.devices view.kept) (home_run view.devices at block)
    by_one at block one found true committed same =
        let there = found_there view.kept at one found in
        let e : one.block ≡ block = cc in
        subst (λ (b : Block). Contains (home_runs view.devices view.kept) (home_run view.devices at b)) e (run_there view.devices view.kept there.0 (at, one) there.1 committed)
    by_one at block one found false committed same = absurd cc

    by_kept : (at : ℕ) (block : Block) (found : Option Kept) → kept_in view.kept at ≡ found → away_of found ≡ Some block → Contains (home_runs view.devices view.kept) (home_run view.devices at block)
    by_kept at block None found is_away = absurd cc
    by_kept at block (Some one) found is_away = by_one at block one found one.committed refl is_away
