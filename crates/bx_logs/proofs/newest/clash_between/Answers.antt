use Rattle.std.proofs.Common.{sym, subst, arith, refl}
use Rattle.bx_homes.proofs.Sectors.{not_both}
use Rattle.bx_logs.proofs.Clashes.{IsLeft, at_first, next_left, none_or, one_or}
use Rattle.bx_logs.proofs.newest.clash_between.Goals as goal

pub loop-at-init : goal.loop-at-init
loop-at-init c =
    let gives = c.into_iter-at-iterator.ensures.into_iter_gives in
    (tt, tt, subst (IsLeft c.args.one.now c.args.other.now) (sym gives.0) (at_first c.args.one.now c.args.other.now gives.6))

pub loop-at-preserved : goal.loop-at-preserved
loop-at-preserved c =
    let left = subst (IsLeft c.args.one.now c.args.other.now) c.in-Some.ensures.steps c.loop-at.invariant.2 in
    (tt, tt, next_left c.args.one.now c.args.other.now c.in-Some.at.now c.in-Some.block.now c.next.new.self left (none_or c.args.one.now c.in-Some.at.now c.in-Some.block.now (sym c.in_default.ensures.value)))

pub loop-at-preserved-else-not-are_same : goal.loop-at-preserved-else-not-are_same
loop-at-preserved-else-not-are_same c =
    let left = subst (IsLeft c.args.one.now c.args.other.now) c.in-Some.ensures.steps c.loop-at.invariant.2 in
    let same = c.are_same.ensures.0 c.if-not-are_same.false in
    (tt, tt, next_left c.args.one.now c.args.other.now c.in-Some.at.now c.in-Some.block.now c.next.new.self left (one_or c.args.one.now c.in-Some.at.now c.in-Some-get.own.now c.in-Some.block.now (sym c.in-Some-get.ensures.value) same))

pub returns-then-not-are_same-clause-some : goal.returns-then-not-are_same-clause-some
returns-then-not-are_same-clause-some c =
    let left = subst (IsLeft c.args.one.now c.args.other.now) c.in-Some.ensures.steps c.loop-at.invariant.2 in
    record {
      a = c.in-Some-get.own.now;
      b = c.in-Some.block.now;
      one_has = sym c.in-Some-get.ensures.value;
      other_has = left.has 0 (c.in-Some.at.now, c.in-Some.block.now) (omega arith);
      apart = λ same. not_both c.are_same.result (c.are_same.ensures.1 same) c.if-not-are_same.true;
      handle_is = refl;
    }
