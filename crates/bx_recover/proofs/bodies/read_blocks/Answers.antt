use Rattle.std.proofs.Common.{ℕ, ◌+◌, ◌*◌, arith, sym, ap, subst, ◌∙◌, map, length, get_or, [], ◌∷◌, refl}
use Rattle.std.proofs.lemmas.List.{length-map, length-append}
use Rattle.bx_logs.specs.bx_homes.specs.Standing.{BlockStandsAt}
use Rattle.bx_logs.specs.bx_homes.proofs.Sectors.{of_none, of_some}
use Rattle.bx_logs.specs.Bodies.{StandOn}
use Rattle.bx_logs.proofs.Pieces.{more_numbers, more_stand, no_gap}
use Rattle.bx_records.specs.Drafts.{Changed}
use Rattle.bx_recover.specs.Bodies.{held_in}
use Rattle.bx_recover.proofs.Slices.{block_spelled, block_there}
use Rattle.bx_recover.proofs.bodies.read_blocks.Goals as goal

pub returns-in_default-clause-none : goal.returns-in_default-clause-none
returns-in_default-clause-none c = λ changed numbers stand.
    let bytes = c.args.bytes.now in
    let none = of_none c.in_ok-block.field-0 c.in_default.is c.in_ok-block.ensures.none in
    let many = length-map changed (λ (change : Changed). change.0) in
    let same = ap length numbers in
    no_gap (held_in bytes) 0 1 c.loop-at.at changed (omega (arith, many, same, c.loop-at-test.true)) stand
    (λ block at. none block
    (block_spelled bytes (512 + 4608 * c.loop-at.at) _ (1 + 9 * c.loop-at.at) (omega arith) (omega arith) block (omega (arith, c.requires, c.loop-at-test.true)) at))

pub loop-at-preserved : goal.loop-at-preserved
loop-at-preserved c = record {
  count = let long = ap length c.in_ok-push.ensures.ok in let both = length-append c.loop-at.changed ((get_or c.args.numbers.now c.loop-at.at 0, c.in-Some.block) ∷ []) in omega (arith, long, both, c.loop-at.invariant.count);
  numbers = ap (map (λ (change : Changed). change.0)) c.in_ok-push.ensures.ok
      ∙ more_numbers c.loop-at.changed c.args.numbers.now c.loop-at.at (get_or c.args.numbers.now c.loop-at.at 0) c.in-Some.block c.loop-at.invariant.numbers (omega (arith, c.loop-at-test.true)) refl;
  stand =
      let bytes = c.args.bytes.now in
      let spells = of_some _ c.in_ok-block.field-0 c.in-Some.block c.in-Some.is c.in_ok-block.ensures.some in
      let here = block_there bytes (512 + 4608 * c.loop-at.at) _ (1 + 9 * c.loop-at.at) (omega arith) (omega arith) c.in-Some.block spells in
      subst (StandOn (held_in bytes) 0 1) (sym c.in_ok-push.ensures.ok)
      (more_stand (held_in bytes) 0 1 c.loop-at.changed (get_or c.args.numbers.now c.loop-at.at 0, c.in-Some.block) c.loop-at.invariant.stand
      (subst (λ (n : ℕ). BlockStandsAt (held_in bytes) 0 (1 + 9 * n) c.in-Some.block) (sym c.loop-at.invariant.count) here));
}
