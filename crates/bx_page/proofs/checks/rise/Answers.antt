use Rattle.std.proofs.Common.{subst, arith, rules, refl}
use Rattle.std.proofs.lemmas.List.{take_all}
use Rattle.bx_page.specs.Keys.{IsBelow}
use Rattle.bx_page.specs.Contents.{Rises}
use Rattle.bx_page.proofs.Rising.{rises_more}
use Rattle.bx_page.proofs.checks.rise.Goals as goal

pub loop-i-preserved : goal.loop-i-preserved
loop-i-preserved c =
    let x = c.index-entries-i.result in
    let y = c.index-entries-i-in-loop-i.result in
    let below : IsBelow x.key y.key = search rules in
    rises_more c.args.entries.now c.loop-i.i x y (omega arith) (omega arith) c.index-entries-i.is c.index-entries-i-in-loop-i.is below c.loop-i.invariant

pub returns : goal.returns
returns c = (λ _. subst Rises (take_all c.loop-i.i c.args.entries.now c.loop-i-test.false) c.loop-i.invariant, λ _. refl)
