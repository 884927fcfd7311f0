use Rattle.std.proofs.Common.{ℕ, ◌+◌, ◌*◌, arith, sym, ap, subst, ◌∙◌, map, length, get_or, [], ◌∷◌, refl}
use Rattle.std.proofs.lemmas.List.{length-map, length-append}
use Rattle.bx_disk.specs.Disks.{Disks}
use Rattle.bx_records.specs.Drafts.{Changed}
use Rattle.bx_homes.specs.Standing.{BlockStandsAt}
use Rattle.bx_homes.proofs.Sectors.{of_none, of_some}
use Rattle.bx_logs.specs.Bodies.{StandOn}
use Rattle.bx_logs.proofs.Pieces.{more_numbers, more_stand, no_gap}
use Rattle.bx_logs.proofs.record.read_blocks.Goals as goal

pub returns-in_default-clause-none : goal.returns-in_default-clause-none
returns-in_default-clause-none g c = λ tells changed numbers stand.
    let told = c.loop-at.invariant.rack.keeps_telling tells in
    let was = c.loop-at.invariant.stays in
    let none = of_none c.in_ok-block.field-0 c.in_default.is (c.in_ok-block.ensures.none told) in
    let many = length-map changed (λ (change : Changed). change.0) in
    let same = ap length numbers in
    no_gap (g.R.Rack.state c.args.rack.now).reads c.args.disk c.args.sector c.loop-at.at changed (omega (arith, many, same, c.loop-at-test.true)) stand
    (λ block at. none block (subst (λ (s : Disks). BlockStandsAt s.reads c.args.disk (c.args.sector + 9 * c.loop-at.at) block) (sym was) at))

pub loop-at-preserved : goal.loop-at-preserved
loop-at-preserved g c = record {
  stays = c.in_ok-block.ensures.stays ∙ c.loop-at.invariant.stays;
  rack = grind arith;
  count = let long = ap length c.in_ok-push.ensures.ok in let both = length-append c.loop-at.changed ((get_or c.args.numbers.now c.loop-at.at 0, c.in-Some.block) ∷ []) in omega (arith, long, both, c.loop-at.invariant.count);
  numbers = ap (map (λ (change : Changed). change.0)) c.in_ok-push.ensures.ok
      ∙ more_numbers c.loop-at.changed c.args.numbers.now c.loop-at.at (get_or c.args.numbers.now c.loop-at.at 0) c.in-Some.block c.loop-at.invariant.numbers (omega (arith, c.loop-at-test.true)) refl;
  stand = λ tells.
      let told = c.loop-at.invariant.rack.keeps_telling tells in
      let was = c.loop-at.invariant.stays in
      let here = of_some _ c.in_ok-block.field-0 c.in-Some.block c.in-Some.is (c.in_ok-block.ensures.some told) in
      let next = subst (λ (s : Disks). BlockStandsAt s.reads c.args.disk (c.args.sector + 9 * c.loop-at.at) c.in-Some.block) was here in
      subst (StandOn (g.R.Rack.state c.args.rack.now).reads c.args.disk c.args.sector) (sym c.in_ok-push.ensures.ok)
      (more_stand (g.R.Rack.state c.args.rack.now).reads c.args.disk c.args.sector c.loop-at.changed (get_or c.args.numbers.now c.loop-at.at 0, c.in-Some.block) (c.loop-at.invariant.stand tells)
      (subst (λ (n : ℕ). BlockStandsAt (g.R.Rack.state c.args.rack.now).reads c.args.disk (c.args.sector + 9 * n) c.in-Some.block) (sym c.loop-at.invariant.count) next));
}
