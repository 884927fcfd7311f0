use Rattle.std.proofs.Common.{ap, arith, length, refl, rules}
use Rattle.bx_clean.specs.Trees.{cuts_root, ends, frees_tree, no_page, no_room, shrinks}
use Rattle.bx_clean.proofs.Firsts.{none_there}
use Rattle.bx_clean.proofs.files.clean_tree.Goals as goal

pub returns-then-level-gt0 : goal.returns-then-level-gt0
returns-then-level-gt0 g c = shrinks c.in-Ok.page c.in-Ok.ensures (let l = c.level.ensures in let f = c.if-level-gt0.true in omega (arith, l, f)) c.shrink_above.ensures

pub returns-then-len-gt0 : goal.returns-then-len-gt0
returns-then-len-gt0 g c = cuts_root c.in-Ok.page c.in-Ok.ensures (let l = c.level.ensures in let f = c.if-level-gt0.false in omega (arith, l, f))
    (λ e. let n = c.len.ensures in let f = c.if-len-gt0.true in let m = ap length e in absurd (omega (arith, n, f, m))) c.cut.ensures

pub returns-in-Err : goal.returns-in-Err
returns-in-Err g c = no_page c.in-Err.error c.in-Err.ensures refl

pub returns-in_err-draft-in-Ok : goal.returns-in_err-draft-in-Ok
returns-in_err-draft-in-Ok g c =
    ends c.in-Ok.page c.in-Ok.ensures (let l = c.level.ensures in let f = c.if-level-gt0.false in omega (arith, l, f))
    (none_there c.in-Ok.page.entries (let n = c.len.ensures in let f = c.if-len-gt0.false in omega (arith, n, f))) (no_room (search rules))

pub returns-in_ok-draft-in-Ok : goal.returns-in_ok-draft-in-Ok
returns-in_ok-draft-in-Ok g c =
    ends c.in-Ok.page c.in-Ok.ensures (let l = c.level.ensures in let f = c.if-level-gt0.false in omega (arith, l, f))
    (none_there c.in-Ok.page.entries (let n = c.len.ensures in let f = c.if-len-gt0.false in omega (arith, n, f)))
    (frees_tree c.in_ok-draft-in-Ok.draft c.in_ok-draft-in-Ok.ensures c.freed.ensures)
