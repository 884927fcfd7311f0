use Rattle.std.proofs.Common.{subst}
use Rattle.bx_audit_slots.specs.OwnBlocks.{TellsOwn}
use Rattle.bx_truth.specs.Chunks.{own_block}
use Rattle.bx_truth.proofs.Same.{own_is_block}
use Rattle.bx_audit_slots.proofs.slots.slots_of.Goals as goal

pub returns-in-Wrong-clause-never : goal.returns-in-Wrong-clause-never
returns-in-Wrong-clause-never g c = λ truth told.
    let own = own_block c.args.area in
    let tells = subst (TellsOwn (g.B.Blocks.stands c.args.blocks.now) c.args.area) c.in-Wrong.is (c.in_ok-slots.ensures.tells told.told) in
    tells.1 (truth own) (told.blocks own (own_is_block (g.B.Blocks.areas c.args.blocks.now) c.args.area c.requires.area)) (told.chunked.own c.args.area c.requires.area)
