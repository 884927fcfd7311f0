use Rattle.std.proofs.Common.{arith, rules}
use Rattle.bx_script.proofs.Puts.{line_done}
use Rattle.bx_script.proofs.text.put_line.Goals as goal

pub returns-clause-ok : goal.returns-clause-ok
returns-clause-ok c =
    line_done _ _ _ _ c.loop-number.text.items c.push_reserved.new.self.items c.put_hex.new.text.items _ c.loop-number.number-index (omega arith) c.loop-number.invariant.items
    c.push_reserved.ensures.items c.put_hex.ensures.items c.push_reserved-2.ensures.items

pub returns-in_err-reserve-clause-err : goal.returns-in_err-reserve-clause-err
returns-in_err-reserve-clause-err c = search rules
