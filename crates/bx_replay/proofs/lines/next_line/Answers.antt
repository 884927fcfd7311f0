use Rattle.std.proofs.Common.{◌∙◌, rules}
use Rattle.bx_replay.proofs.NextLines.{refused_too_long, refused_count, refused_line}
use Rattle.bx_replay.proofs.lines.next_line.Goals as goal

pub returns-in-TooLong-clause-gives : goal.returns-in-TooLong-clause-gives
returns-in-TooLong-clause-gives g c = λ tells.
    refused_too_long _ _ c.args.number c.requires (rw c.in-TooLong.is at c.in_ok-next.ensures.too_long tells)

pub returns-then-number-gt-MAX_LINES-clause-gives : goal.returns-then-number-gt-MAX_LINES-clause-gives
returns-then-number-gt-MAX_LINES-clause-gives g c = λ tells.
    let takes = rw c.in-Line.is at c.in_ok-next.ensures.line tells in
    refused_count _ _ _ c.args.number c.if-number-gt-MAX_LINES.true takes.begins

pub returns-in-None-clause-gives : goal.returns-in-None-clause-gives
returns-in-None-clause-gives g c = λ tells.
    let takes = rw c.in-Line.is at c.in_ok-next.ensures.line tells in
    refused_line _ _ _ c.args.number (λ value place same. (rw c.in-None.is at c.in_ok-line.ensures.none) value place (c.line.ensures ∙ same)) takes.begins

pub returns-in-None-clause-first : goal.returns-in-None-clause-first
returns-in-None-clause-first g c = search rules
