use Rattle.std.proofs.Common.{◌≡◌, arith}
use Rattle.std.proofs.lemmas.Slice.Eq.{bytes_eq-Decides}
use Rattle.bx_command_line.proofs.Decimals.{reads_decimal}
use Rattle.bx_command_line.proofs.numbers.number.Goals as goal
use Rattle.bx_command_line.proofs.numbers.number.Goals.{else-eq-via-then-eq+then-least-number+else-number-most, else-eq-via-then-eq+else-least-number, else-eq-via-else-eq}

pub returns-in_err-number-clause-none : goal.returns-in_err-number-clause-none
returns-in_err-number-clause-none c = λ none number least most is.
    let most_fits = c.ranges.most.fits in
    let read = reads_decimal c.args.word.now number c.parse.result (omega (arith, most, most_fits)) is c.parse.ensures.value.0 in
    let was = c.in_err-number.was in
    let given = c.ok.ensures.value in
    cc

pub returns-else-eq-clause-none : goal.returns-else-eq-clause-none
returns-else-eq-clause-none c = λ none number least most is.
    let most_fits = c.ranges.most.fits in
    let read = reads_decimal c.args.word.now number c.parse.result (omega (arith, most, most_fits)) is c.parse.ensures.value.0 in
    let was = c.in_ok-number.was in
    let given = c.ok.ensures.value in
    let same : c.in_ok-number.number ≡ number = cc in
    elim c.else-eq.branch [
      | else-eq-via-then-eq+then-least-number+else-number-most w ↦ let above = w.if-number-most.false in omega (arith, above, most, same)
      | else-eq-via-then-eq+else-least-number w ↦ let below = w.if-least-number.false in omega (arith, below, least, same)
      | else-eq-via-else-eq w ↦
          let text = c.format.ensures.text in
          let equal : c.format.result.now ≡ c.args.word.now = cc in
          let yes = (bytes_eq-Decides c.format.result.now c.args.word.now).1 equal in
          let test = c.eq.ensures in
          let no = w.if-eq.false in
          cc
    ]
