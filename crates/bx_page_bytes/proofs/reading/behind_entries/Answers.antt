use Rattle.std.proofs.Common.{None, ◌∙◌, sym, ap}
use Rattle.std.specs.Option.{option_copied}
use Rattle.bx_page_bytes.specs.Checks.{rest_behind, follows, fits_level}
use Rattle.bx_page_bytes.proofs.Behind.{goes_on, is_unfit, is_missing, is_done, is_above, one_unfit, other_unfit}
use Rattle.bx_page_bytes.proofs.reading.behind_entries.Goals as goal
use Rattle.bx_page_bytes.proofs.reading.behind_entries.Goals.{then-not-follows-via-then-not-follows, then-not-follows-via-else-not-follows+then-not-fits_level}

pub returns-in_default : goal.returns-in_default
returns-in_default c = is_missing c.args.level (option_copied c.args.high) c.args.count c.loop.counter (option_copied c.loop.before) c.loop.rest.now (rest_behind c.args.level (option_copied c.args.high) c.args.count None c.args.bytes.now) c.in_default.field-0 c.loop-test.true c.in_default.ensures.value c.in_default.ensures.cause c.loop.invariant

pub returns-then-not-follows : goal.returns-then-not-follows
returns-then-not-follows c =
    let refused = is_unfit c.args.level (option_copied c.args.high) c.args.count c.loop.counter (option_copied c.loop.before) c.loop.rest.now (rest_behind c.args.level (option_copied c.args.high) c.args.count None c.args.bytes.now) c.in-Ok.entry c.in-Ok.after.now c.loop-test.true c.in-Ok.ensures.value in
    elim c.then-not-follows.branch [
      | then-not-follows-via-then-not-follows w ↦ refused (one_unfit (follows (option_copied c.loop.before) c.in-Ok.entry.key) (fits_level c.args.level c.in-Ok.entry.value) (ap (follows (option_copied c.loop.before)) (sym c.key-key.ensures) ∙ sym c.follows.ensures ∙ w.if-not-follows.true)) c.loop.invariant
      | then-not-follows-via-else-not-follows+then-not-fits_level w ↦ refused (other_unfit (follows (option_copied c.loop.before) c.in-Ok.entry.key) (fits_level c.args.level c.in-Ok.entry.value) (ap (fits_level c.args.level) (sym w.value.ensures) ∙ sym w.fits_level.ensures ∙ w.if-not-fits_level.true)) c.loop.invariant
    ]

pub loop-preserved : goal.loop-preserved
loop-preserved c = goes_on c.args.level (option_copied c.args.high) c.args.count c.loop.counter (option_copied c.loop.before) c.loop.rest.now (rest_behind c.args.level (option_copied c.args.high) c.args.count None c.args.bytes.now) c.in-Ok.entry c.in-Ok.after.now c.key-key.result.now c.value.result.now c.key-key.ensures c.value.ensures c.loop-test.true c.in-Ok.ensures.value (sym c.follows.ensures ∙ c.if-not-follows.false) (sym c.fits_level.ensures ∙ c.if-not-fits_level.false) c.loop.invariant

pub returns-then-ends_below : goal.returns-then-ends_below
returns-then-ends_below c = is_done c.args.level (option_copied c.args.high) c.args.count c.loop.counter (option_copied c.loop.before) c.loop.rest.now (rest_behind c.args.level (option_copied c.args.high) c.args.count None c.args.bytes.now) c.loop-test.false (sym c.ends_below.ensures ∙ c.if-ends_below.true) c.loop.invariant

pub returns-else-ends_below : goal.returns-else-ends_below
returns-else-ends_below c = is_above c.args.level (option_copied c.args.high) c.args.count c.loop.counter (option_copied c.loop.before) c.loop.rest.now (rest_behind c.args.level (option_copied c.args.high) c.args.count None c.args.bytes.now) c.loop-test.false (sym c.ends_below.ensures ∙ c.if-ends_below.false) c.loop.invariant
