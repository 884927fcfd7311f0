use Rattle.std.proofs.Common.{arith}
use Rattle.std.proofs.lemmas.Option.{slice_get-get_or, slice_get_within}
use Rattle.bx_homes.proofs.Absent.{first, one_more}
use Rattle.bx_homes.proofs.sources.first_absent.Goals as goal

pub returns-then-is_absent-clause-some : goal.returns-then-is_absent-clause-some
returns-then-is_absent-clause-some g c =
    first (g.R.Rack.state c.args.rack.now).sizes c.args.rows.now c.loop-device.device _ (slice_get-get_or c.args.rows.now c.loop-device.device _ (omega (arith, c.loop-device-test.true, c.requires)))
    c.loop-device.invariant.done (c.is_absent.ensures.yes c.if-is_absent.true)

pub loop-device-preserved : goal.loop-device-preserved
loop-device-preserved g c = record {
  done = one_more (g.R.Rack.state c.args.rack.now).sizes c.args.rows.now c.loop-device.device _ (slice_get-get_or c.args.rows.now c.loop-device.device _ (omega (arith, c.loop-device-test.true, c.requires)))
      c.loop-device.invariant.done (c.is_absent.ensures.no c.if-is_absent.false);
}

pub returns-clause-none : goal.returns-clause-none
returns-clause-none g c = λ device row is.
    let within = slice_get_within c.args.rows.now device row is in
    c.loop-device.invariant.done device row (omega (arith, within, c.loop-device-test.false, c.requires, c.loop-device.auto.device-end)) is
