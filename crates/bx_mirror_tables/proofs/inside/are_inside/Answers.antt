use Rattle.std.proofs.Common.{refl, sym, arith}
use Rattle.bx_mirror_tables.proofs.Lying.{all_inside, inside_more}
use Rattle.bx_mirror_tables.proofs.inside.are_inside.Goals as goal

pub loop-i-preserved : goal.loop-i-preserved
loop-i-preserved c = inside_more c.args.room c.args.runs.now.1 c.loop-i.i c.in-Some.run'.now (sym c.in-Some.ensures) (c.is_inside.ensures.0 c.if-not-is_inside.false) c.loop-i.invariant

pub returns : goal.returns
returns c = (λ t. all_inside c.args.room c.args.runs.now.1 c.loop-i.i (let over = c.loop-i-test.false in omega (arith, over)) c.loop-i.invariant, λ are. refl)
