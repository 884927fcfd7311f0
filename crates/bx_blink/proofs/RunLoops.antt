-- Runs, step by step.
use Rattle.std.proofs.Common.{◌≡◌, ℕ, suc, ◌+◌, ◌-◌, ◌<◌, ◌≤◌, List, refl, subst, arith}
use Rattle.bx_base.specs.declared.names.Mode.TheVariants.{Shared}
use Rattle.bx_blink.specs.declared.steps.Spot.{Spot}
use Rattle.bx_blink.specs.declared.steps.Found.{Found}
use Rattle.bx_blink.specs.declared.runs.RunEnd.{RunEnd}
use Rattle.bx_blink.specs.declared.runs.RunEnd.TheVariants.{Broken}
use Rattle.bx_blink.specs.declared.runs.Turn.{Turn}
use Rattle.bx_blink.specs.declared.runs.Turn.TheVariants.{Moves, Rests}
use Rattle.bx_blink.specs.Walks.{Reads, Finds, decide}
use Rattle.bx_blink.specs.Runs.{follow, Turns, Runs}

module _ (reads : Reads) where
  moves_more : (n : ℕ) (key other : List ℕ) (spot next : Spot) (found : Found) (end : RunEnd) → Finds reads 0 spot found → Moves other next ≡ follow key (decide 0 Shared key spot found) → Runs reads n other next end → Runs reads (suc n) key spot end
  unfolding Runs
  moves_more n key other spot next found end f e r = (found, f, subst (λ (t : Turn). Turns (λ k s. Runs reads n k s end) end t) e r)

  pub moves : (limit step : ℕ) (key other : List ℕ) (spot next : Spot) (found : Found) (end : RunEnd) → step < limit → Finds reads 0 spot found → Moves other next ≡ follow key (decide 0 Shared key spot found)
      → Runs reads (limit - (step + 1)) other next end → Runs reads (limit - step) key spot end
  moves limit step key other spot next found end lt f e rest =
      let count : suc (limit - (step + 1)) ≡ limit - step = omega arith in
      subst (λ (n : ℕ). Runs reads n key spot end) count (moves_more (limit - (step + 1)) key other spot next found end f e rest)

  rests_more : (n : ℕ) (key : List ℕ) (spot : Spot) (found : Found) (end : RunEnd) → Finds reads 0 spot found → Rests end ≡ follow key (decide 0 Shared key spot found) → Runs reads (suc n) key spot end
  unfolding Runs
  rests_more n key spot found end f e = (found, f, subst (λ (t : Turn). Turns (λ k s. Runs reads n k s end) end t) e refl)

  pub rests : (limit step : ℕ) (key : List ℕ) (spot : Spot) (found : Found) (end : RunEnd) → step < limit → Finds reads 0 spot found → Rests end ≡ follow key (decide 0 Shared key spot found) → Runs reads (limit - step) key spot end
  rests limit step key spot found end lt f e =
      let count : suc (limit - (step + 1)) ≡ limit - step = omega arith in
      subst (λ (n : ℕ). Runs reads n key spot end) count (rests_more (limit - (step + 1)) key spot found end f e)

  broken : (key : List ℕ) (spot : Spot) → Runs reads 0 key spot Broken
  unfolding Runs
  broken key spot = refl

  pub breaks : (limit step : ℕ) (key : List ℕ) (spot : Spot) → limit ≤ step → Runs reads (limit - step) key spot Broken
  breaks limit step key spot le =
      let none : 0 ≡ limit - step = omega arith in
      subst (λ (n : ℕ). Runs reads n key spot Broken) none (broken key spot)
