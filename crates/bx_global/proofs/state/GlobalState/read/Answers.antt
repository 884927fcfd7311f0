use Rattle.std.proofs.Common.{◌≡◌, true, false, eqb, [], length, sym, ap, ◌∙◌, eq-eqb}
use Rattle.bx_global.proofs.StateText.{one_front, spells_begins}
use Rattle.bx_global.proofs.state.GlobalState.read.Goals as goal

pub returns-then-not-is_empty-clause-none : goal.returns-then-not-is_empty-clause-none
returns-then-not-is_empty-clause-none c = λ other s.
    let bytes = c.args.bytes.now in
    let rest = c.in-Ok.found.1.now in
    let same = one_front bytes rest [] c.in-Ok.found.0 other c.in-Ok.ensures (spells_begins bytes other s) in
    let empty : eqb (length rest) 0 ≡ true = eq-eqb (length rest) 0 (ap length same.1) in
    let more : eqb (length rest) 0 ≡ false = sym c.is_empty.ensures ∙ c.if-not-is_empty.true in
    absurd cc
