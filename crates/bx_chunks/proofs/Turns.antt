-- Areas in turn.
use Rattle.std.proofs.Common.{◌≡◌, ℕ, zero, suc, ◌+◌, ◌-◌, ◌%◌, ◌<◌, arith, ap, ◌∙◌}
use Rattle.std.proofs.Math.Nat.{add-mod_left, mod-eq_of_lt}
use Rattle.std.proofs.lemmas.Nat.{mod_below}
use Rattle.bx_chunks.specs.Areas.{area_in_turn}

pub turn_within : (near areas turn : ℕ) → turn < areas → area_in_turn near areas turn < areas
turn_within near areas turn less = mod_below (near + turn) areas (omega (arith, less))

-- each area has its turn
pub record HasTurn (near areas area : ℕ) : Type 0 where
  pub turn : ℕ
  pub within : turn < areas
  pub is : area_in_turn near areas turn ≡ area

pub has_turn : (near areas area : ℕ) → area < areas → HasTurn near areas area
has_turn zero areas area less = record { turn = area; within = less; is = ap (λ (n : ℕ). n % areas) (none area) ∙ mod-eq_of_lt less }
  where
    none : (n : ℕ) → 0 + n ≡ n
    none n = omega arith
has_turn (suc near) areas area less = let t = has_turn near areas area less in by t.turn t.within t.is
  where
    by : (turn : ℕ) → turn < areas → area_in_turn near areas turn ≡ area → HasTurn (suc near) areas area
    by zero within is =
        let last : suc near + (areas - 1) ≡ areas + near = omega (arith, within) in
        let first : near ≡ near + 0 = omega arith in
        record { turn = areas - 1; within = omega (arith, within); is = ap (λ (n : ℕ). n % areas) last ∙ add-mod_left areas near ∙ ap (λ (n : ℕ). n % areas) first ∙ is }
    by (suc turn) within is =
        let moved : suc near + turn ≡ near + suc turn = omega arith in
        record { turn = turn; within = omega (arith, within); is = ap (λ (n : ℕ). n % areas) moved ∙ is }
