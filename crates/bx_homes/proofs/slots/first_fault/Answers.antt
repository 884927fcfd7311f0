use Rattle.std.proofs.Common.{◌≡◌, ℕ, ◌+◌, ◌<◌, ◌⊎◌, ⊎_elim, arith, sym, subst, ◌∙◌}
use Rattle.bx_homes.specs.Slots.{AreBlocks, HasArea, IsAreaChunked}
use Rattle.bx_homes.proofs.Headers.{are_chunked, is_wrong}
use Rattle.bx_homes.proofs.Kept.{all_there, are_still, area_was_there, stays_then}
use Rattle.bx_homes.proofs.Sectors.{of_none, of_some}
use Rattle.bx_homes.proofs.slots.first_fault.Goals as goal

below_or : (n m : ℕ) → n < m + 1 → (n < m) ⊎ (n ≡ m)
below_or n m less = grind (arith, less)

pub returns-in-Some-clause-some : goal.returns-in-Some-clause-some
returns-in-Some-clause-some g c = λ tells truth are. record {
  area = c.loop-area.area;
  there = omega (arith, c.loop-area-test.true);
  before = c.loop-area.invariant.done tells truth are;
  fault = of_some _ c.in_ok-wrong.field-0 c.in-Some.wrong c.in-Some.is (c.in_ok-wrong.ensures.some (c.loop-area.invariant.blocks.keeps_telling tells)) truth
      (subst (λ (n : ℕ). AreBlocks n (g.B.Blocks.stands c.loop-area.blocks) truth) (sym (c.loop-area.invariant.blocks.keeps_areas ∙ c.requires.blocks.areas_are))
      (are_still c.args.areas (g.B.Blocks.stands c.args.blocks.now) (g.B.Blocks.stands c.loop-area.blocks) truth (c.loop-area.invariant.stays tells) are));
}

pub loop-area-preserved : goal.loop-area-preserved
loop-area-preserved g c = record {
  blocks = grind arith;
  stays = λ tells. stays_then (g.B.Blocks.stands c.args.blocks.now) (g.B.Blocks.stands c.loop-area.blocks) (g.B.Blocks.stands c.fault_in.new.blocks) (c.loop-area.invariant.stays tells) (c.in_ok-wrong.ensures.stays (c.loop-area.invariant.blocks.keeps_telling tells));
  there = λ tells other less. ⊎_elim
      (λ before. c.loop-area.invariant.there tells other before)
      (λ same. subst (HasArea (g.B.Blocks.stands c.args.blocks.now)) (sym same)
      (area_was_there (g.B.Blocks.stands c.args.blocks.now) (g.B.Blocks.stands c.loop-area.blocks) c.loop-area.area (c.loop-area.invariant.stays tells)
      (of_none c.in_ok-wrong.field-0 c.in_default.is (c.in_ok-wrong.ensures.there (c.loop-area.invariant.blocks.keeps_telling tells)))))
      (below_or other c.loop-area.area less);
  done = λ tells truth are other less. ⊎_elim
      (λ before. c.loop-area.invariant.done tells truth are other before)
      (λ same. subst (IsAreaChunked truth) (sym same)
      (of_none c.in_ok-wrong.field-0 c.in_default.is (c.in_ok-wrong.ensures.none (c.loop-area.invariant.blocks.keeps_telling tells)) truth
      (subst (λ (n : ℕ). AreBlocks n (g.B.Blocks.stands c.loop-area.blocks) truth) (sym (c.loop-area.invariant.blocks.keeps_areas ∙ c.requires.blocks.areas_are))
      (are_still c.args.areas (g.B.Blocks.stands c.args.blocks.now) (g.B.Blocks.stands c.loop-area.blocks) truth (c.loop-area.invariant.stays tells) are))))
      (below_or other c.loop-area.area less);
}

pub returns-clause-none : goal.returns-clause-none
returns-clause-none g c = λ tells truth are.
    are_chunked c.args.areas truth (λ area less. c.loop-area.invariant.done tells truth are area (omega (arith, less, c.loop-area-test.false, c.loop-area.auto.area-end)))

pub returns-clause-there : goal.returns-clause-there
returns-clause-there g c = λ tells.
    all_there c.args.areas (g.B.Blocks.stands c.args.blocks.now) (λ area less. c.loop-area.invariant.there tells area (omega (arith, less, c.loop-area-test.false, c.loop-area.auto.area-end)))

pub returns-in-Some-clause-wrong : goal.returns-in-Some-clause-wrong
returns-in-Some-clause-wrong g c = λ tells truth are. is_wrong c.args.areas truth c.in-Some.wrong.at (returns-in-Some-clause-some g c tells truth are)
