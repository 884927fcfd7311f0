use Rattle.std.proofs.Common.{length, ap, arith, sym, subst}
use Rattle.bx_redo.specs.Steps.{IsLoggable}
use Rattle.bx_redo.proofs.Heads.{all_of, parts_of}
use Rattle.bx_redo.proofs.text.record_text.Goals as goal

pub head_of-requires : goal.head_of-requires
head_of-requires c = subst IsLoggable (sym c.blocks-blocks.ensures.is)
    (record { draft = c.blocks-blocks.ensures.draft; blocks = all_of 64 c.args.draft.now c.blocks-blocks.ensures.draft c.requires })

pub overflow_mul-blocks : goal.overflow_mul-blocks
overflow_mul-blocks c = omega (arith, c.blocks-blocks.ensures.draft.most, ap length c.blocks-blocks.ensures.is)

pub overflow_add-blocks : goal.overflow_add-blocks
overflow_add-blocks c = omega (arith, c.blocks-blocks.ensures.draft.most, ap length c.blocks-blocks.ensures.is)

pub put_record-requires-clause-parts : goal.put_record-requires-clause-parts
put_record-requires-clause-parts c = rw c.blocks-blocks.ensures.is (parts_of 64 c.args.draft.now (all_of 64 c.args.draft.now c.blocks-blocks.ensures.draft c.requires))
