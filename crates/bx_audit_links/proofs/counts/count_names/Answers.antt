use Rattle.std.proofs.Common.{◌+◌, arith}
use Rattle.std.specs.Prelude.{◌==◌, if◌then◌else◌}
use Rattle.bx_audit_links.proofs.Sums.{count_step}
use Rattle.bx_audit_links.proofs.counts.count_names.Goals as goal

pub loop-entry-preserved : goal.loop-entry-preserved
loop-entry-preserved c = λ handle before is.
    let so_far = c.loop-entry.invariant handle before is in
    let step = count_step (λ entry. entry.handle == handle) c.in-Some.entry.now c.next.new.self c.loop-entry.entry-iterator c.in-Some.ensures.steps in
    (so_far.0 + (if c.in-Some.entry.now.handle == handle then 1 else 0), c.in_ok-count_one.ensures handle so_far.0 so_far.1, omega (arith, so_far.2, step))
