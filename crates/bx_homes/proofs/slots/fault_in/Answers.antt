use Rattle.std.proofs.Common.{◌≡◌, ℕ, ◌+◌, ◌*◌, ◌<◌, ◌⊎◌, ⊎_elim, inr, arith, sym, ap, subst, ◌∙◌}
use Rattle.bx_homes.specs.Slots.{AreBlocks, HasBlock, HasHeader, wanted_handle}
use Rattle.bx_homes.proofs.Headers.{is_wanted}
use Rattle.bx_homes.proofs.Kept.{are_still, stays_then, was_there}
use Rattle.bx_homes.proofs.Sectors.{of_some}
use Rattle.bx_homes.proofs.slots.fault_in.Goals as goal

below_or : (n m : ℕ) → n < m + 1 → (n < m) ⊎ (n ≡ m)
below_or n m less = grind (arith, less)

pub loop-slot-init : goal.loop-slot-init
loop-slot-init g c = record {
  blocks = grind arith;
  stays = c.in_ok-slots.ensures.stays;
  is = of_some _ c.in_ok-slots.field-0 c.in-Some.slots c.in-Some.is c.in_ok-slots.ensures.is;
  own = λ tells. of_some _ c.in_ok-slots.field-0 c.in-Some.slots c.in-Some.is (c.in_ok-slots.ensures.own tells);
  spells = λ tells. of_some _ c.in_ok-slots.field-0 c.in-Some.slots c.in-Some.is (c.in_ok-slots.ensures.spells tells);
  own_there = λ tells. of_some _ c.in_ok-slots.field-0 c.in-Some.slots c.in-Some.is (c.in_ok-slots.ensures.there tells);
  there = λ tells slot less. absurd (omega (arith, less));
  done = λ tells truth are slot less. absurd (omega (arith, less));
}

pub loop-slot-preserved : goal.loop-slot-preserved
loop-slot-preserved g c = record {
  blocks = grind arith;
  stays = λ tells. stays_then (g.B.Blocks.stands c.args.blocks.now) (g.B.Blocks.stands c.loop-slot.blocks) (g.B.Blocks.stands c.has_header.new.blocks) (c.loop-slot.invariant.stays tells) (c.in_ok-has_header.ensures.stays (c.loop-slot.invariant.blocks.keeps_telling tells));
  is = c.loop-slot.invariant.is;
  own = c.loop-slot.invariant.own;
  spells = c.loop-slot.invariant.spells;
  own_there = c.loop-slot.invariant.own_there;
  there = λ tells slot less. ⊎_elim
      (λ before. c.loop-slot.invariant.there tells slot before)
      (λ same. subst (λ (n : ℕ). HasBlock (g.B.Blocks.stands c.args.blocks.now) (1024 * c.args.area + n)) (sym same)
      (was_there (g.B.Blocks.stands c.args.blocks.now) (g.B.Blocks.stands c.loop-slot.blocks) (1024 * c.args.area + c.loop-slot.slot) (c.loop-slot.invariant.stays tells)
      (c.in_ok-has_header.ensures.there (c.loop-slot.invariant.blocks.keeps_telling tells) c.if-not-branch.false)))
      (below_or slot c.loop-slot.slot less);
  done = λ tells truth are slot less. ⊎_elim
      (λ before. c.loop-slot.invariant.done tells truth are slot before)
      (λ same. subst (λ (n : ℕ). HasHeader truth (1024 * c.args.area + n)) (sym same)
      (c.in_ok-has_header.ensures.yes (c.loop-slot.invariant.blocks.keeps_telling tells) c.if-not-branch.false truth
      (subst (λ (n : ℕ). AreBlocks n (g.B.Blocks.stands c.loop-slot.blocks) truth) (sym c.loop-slot.invariant.blocks.keeps_areas)
      (are_still (g.B.Blocks.areas c.args.blocks.now) (g.B.Blocks.stands c.args.blocks.now) (g.B.Blocks.stands c.loop-slot.blocks) truth (c.loop-slot.invariant.stays tells) are))
      (c.loop-slot.invariant.spells tells truth are)))
      (below_or slot c.loop-slot.slot less);
}

pub returns-clause-none : goal.returns-clause-none
returns-clause-none g c = λ tells truth are. record {
  own = c.loop-slot.invariant.own tells truth are;
  slots = λ slot less. c.loop-slot.invariant.done tells truth are slot (omega (arith, less, c.loop-slot-test.false));
}

pub returns-clause-there : goal.returns-clause-there
returns-clause-there g c = λ tells. record {
  own = c.loop-slot.invariant.own_there tells;
  slots = λ slot less. c.loop-slot.invariant.there tells slot (omega (arith, less, c.loop-slot-test.false));
}

pub returns-then-not-branch-clause-some : goal.returns-then-not-branch-clause-some
returns-then-not-branch-clause-some g c = λ tells truth are. inr record {
  slot = c.loop-slot.slot;
  there = omega (arith, c.loop-slot-test.true);
  at_is = c.in_ok-wrong-2.ensures.at;
  own = c.loop-slot.invariant.own tells truth are;
  before = c.loop-slot.invariant.done tells truth are;
  wrong = c.in_ok-has_header.ensures.no (c.loop-slot.invariant.blocks.keeps_telling tells) c.if-not-branch.true truth
      (subst (λ (n : ℕ). AreBlocks n (g.B.Blocks.stands c.loop-slot.blocks) truth) (sym c.loop-slot.invariant.blocks.keeps_areas)
      (are_still (g.B.Blocks.areas c.args.blocks.now) (g.B.Blocks.stands c.args.blocks.now) (g.B.Blocks.stands c.loop-slot.blocks) truth (c.loop-slot.invariant.stays tells) are))
      (c.loop-slot.invariant.spells tells truth are);
}

pub returns-then-not-branch-clause-wanted : goal.returns-then-not-branch-clause-wanted
returns-then-not-branch-clause-wanted g c = λ tells truth are.
    c.in_ok-wrong-2.ensures.wanted
    ∙ is_wanted truth c.args.area c.loop-slot.slot c.in-Some.slots c.wanted_at.result (omega (arith, c.loop-slot-test.true)) (c.loop-slot.invariant.spells tells truth are) c.wanted_at.ensures.used c.wanted_at.ensures.unused
    ∙ ap (wanted_handle truth) (sym c.in_ok-wrong-2.ensures.at)
