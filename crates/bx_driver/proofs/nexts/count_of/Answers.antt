use Rattle.std.proofs.Common.{◌≡◌, ◌+◌, ◌-◌, ◌/◌, ◌<◌, ◌≤◌, arith, ap, sym, ◌∙◌, length, nat_lt, true, false}
use Rattle.std.proofs.lemmas.Bool.Decides.{nat_tests}
use Rattle.std.specs.Prelude.{is_some}
use Rattle.bx_driver.proofs.Numbers.{is_packet, some_copied}
use Rattle.bx_driver.proofs.nexts.count_of.Goals as goal

pub loop-low-preserved-then-is_some : goal.loop-low-preserved-then-is_some
loop-low-preserved-then-is_some g c =
    let post = (g.C.Shows.seen c.args.cluster.now).post in
    let middle = c.loop-low.low + (c.loop-low.high - c.loop-low.low) / 2 in
    let there : nat_lt (middle + 1) (1 + length post) ≡ true =
    sym (is_packet 1 (middle + 1) post (omega arith)) ∙ sym (ap is_some c.packet.ensures) ∙ some_copied c.packet.result ∙ sym c.is_some.ensures ∙ c.if-is_some.true in
    let under : middle + 1 < 1 + length post = grind (arith, nat_tests, there) in
    (omega (arith, under), omega arith, c.loop-low.invariant.2, c.loop-low.invariant.3)

pub loop-low-preserved : goal.loop-low-preserved
loop-low-preserved g c =
    let post = (g.C.Shows.seen c.args.cluster.now).post in
    let middle = c.loop-low.low + (c.loop-low.high - c.loop-low.low) / 2 in
    let lacks : nat_lt (middle + 1) (1 + length post) ≡ false =
    sym (is_packet 1 (middle + 1) post (omega arith)) ∙ sym (ap is_some c.packet.ensures) ∙ some_copied c.packet.result ∙ sym c.is_some.ensures ∙ c.if-is_some.false in
    let over : 1 + length post ≤ middle + 1 = grind (arith, nat_tests, lacks) in
    (c.loop-low.invariant.0, omega arith, omega arith, λ _. omega (arith, over))
