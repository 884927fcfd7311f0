use Rattle.std.proofs.Common.{◌+◌, arith, ap, ◌∙◌}
use Rattle.std.specs.Prelude.{◌==◌, count_by}
use Rattle.bx_audit_links.specs.Counted.{kept}
use Rattle.bx_audit_links.proofs.Sums.{sum_none, sum_step}
use Rattle.bx_tree_files.specs.Names.{names_of}
use Rattle.bx_audit_links.proofs.counts.count_links.Goals as goal

pub loop-file-preserved : goal.loop-file-preserved
loop-file-preserved c = λ handle.
    let so_far = c.loop-file.invariant handle in
    let step = sum_step (λ file. count_by (λ entry. entry.handle == handle) (names_of file.body)) c.in-Some.file.now c.next.new.self c.loop-file.file-iterator c.in-Some.ensures.steps in
    (so_far.0 + count_by (λ entry. entry.handle == handle) (names_of c.in-Some.file.now.body), c.in_ok-count_body.ensures handle so_far.0 so_far.1, omega (arith, so_far.2, step))

pub returns : goal.returns
returns c = λ handle.
    let so_far = c.loop-file.invariant handle in
    let none = sum_none (λ file. count_by (λ entry. entry.handle == handle) (names_of file.body)) c.loop-file.file-iterator c.in-None.ensures.steps.0 in
    so_far.1 ∙ ap kept (omega (arith, so_far.2, none))
