use Rattle.std.proofs.Common.{arith}
use Rattle.bx_script.proofs.Puts.{byte_step, bytes_done}
use Rattle.bx_script.proofs.text.put_hex.Goals as goal

pub loop-byte-preserved : goal.loop-byte-preserved
loop-byte-preserved c = record {
  items = byte_step _ _ _ _ _ c.loop-byte.byte-index c.from.result c.from-in-loop-byte.result (omega arith) c.from.ensures c.from-in-loop-byte.ensures c.push_reserved.ensures.items c.push_reserved-in-loop-byte.ensures.items c.loop-byte.invariant.items;
  len = omega arith;
  capacity = omega arith;
}

pub returns-clause-items : goal.returns-clause-items
returns-clause-items c = bytes_done _ _ _ c.loop-byte.byte-index (omega arith) c.loop-byte.invariant.items
