-- Walks, step by step.
use Rattle.std.proofs.Common.{◌≡◌, ℕ, suc, ◌+◌, ◌-◌, ◌<◌, ◌≤◌, List, refl, subst, arith}
use Rattle.bx_base.specs.declared.names.Mode.{Mode}
use Rattle.bx_blink.specs.declared.steps.Spot.{Spot}
use Rattle.bx_blink.specs.declared.steps.Found.{Found}
use Rattle.bx_blink.specs.declared.steps.End.{End}
use Rattle.bx_blink.specs.declared.steps.End.TheVariants.{Lost}
use Rattle.bx_blink.specs.declared.steps.Out.{Out}
use Rattle.bx_blink.specs.declared.steps.Out.TheVariants.{Goes, Stops}
use Rattle.bx_blink.specs.Walks.{Reads, Finds, decide, Follows, Ends}

module _ (reads : Reads) (target : ℕ) (asked : Mode) (key : List ℕ) where
  goes_more : (n : ℕ) (spot next : Spot) (found : Found) (end : End) → Finds reads target spot found → Goes next ≡ decide target asked key spot found → Ends reads target asked key n next end → Ends reads target asked key (suc n) spot end
  unfolding Ends
  goes_more n spot next found end f e r = (found, f, subst (λ (out : Out). Follows (λ s. Ends reads target asked key n s end) end out) e r)

  pub goes : (limit step : ℕ) (spot next : Spot) (found : Found) (end : End) → step < limit → Finds reads target spot found → Goes next ≡ decide target asked key spot found
      → Ends reads target asked key (limit - (step + 1)) next end → Ends reads target asked key (limit - step) spot end
  goes limit step spot next found end lt f e rest =
      let count : suc (limit - (step + 1)) ≡ limit - step = omega arith in
      subst (λ (n : ℕ). Ends reads target asked key n spot end) count (goes_more (limit - (step + 1)) spot next found end f e rest)

  stops_more : (n : ℕ) (spot : Spot) (found : Found) (end : End) → Finds reads target spot found → Stops end ≡ decide target asked key spot found → Ends reads target asked key (suc n) spot end
  unfolding Ends
  stops_more n spot found end f e = (found, f, subst (λ (out : Out). Follows (λ s. Ends reads target asked key n s end) end out) e refl)

  pub stops : (limit step : ℕ) (spot : Spot) (found : Found) (end : End) → step < limit → Finds reads target spot found → Stops end ≡ decide target asked key spot found → Ends reads target asked key (limit - step) spot end
  stops limit step spot found end lt f e =
      let count : suc (limit - (step + 1)) ≡ limit - step = omega arith in
      subst (λ (n : ℕ). Ends reads target asked key n spot end) count (stops_more (limit - (step + 1)) spot found end f e)

  tired : (spot : Spot) → Ends reads target asked key 0 spot Lost
  unfolding Ends
  tired spot = refl

  pub tires : (limit step : ℕ) (spot : Spot) → limit ≤ step → Ends reads target asked key (limit - step) spot Lost
  tires limit step spot le =
      let none : 0 ≡ limit - step = omega arith in
      subst (λ (n : ℕ). Ends reads target asked key n spot Lost) none (tired spot)
