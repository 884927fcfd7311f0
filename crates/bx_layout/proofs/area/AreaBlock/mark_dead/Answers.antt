use Rattle.std.proofs.Common.{refl, ap, length, ◌∙◌, arith}
use Rattle.std.proofs.lemmas.List.{length-set}
use Rattle.bx_layout.proofs.SlotWords.{marked}
use Rattle.bx_layout.proofs.area.AreaBlock.mark_dead.Goals as goal

pub returns-clause-marked : goal.returns-clause-marked
returns-clause-marked c = record {
  words = refl;
  len = ap length c.set.ensures ∙ length-set c.args.self.now.dead _ c.with_bit-byte.result;
  bits = λ other lt.
      rw c.set.ensures (marked c.args.self.now.dead c.args.slot other c.with_bit-byte.result c.args.dead (omega (arith, c.requires.area.dead, c.requires.slot)) (rw c.bytes.ensures at c.with_bit-byte.ensures));
}
