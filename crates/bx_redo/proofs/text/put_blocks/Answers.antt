use Rattle.std.proofs.Common.{subst, sym, ◌∙◌, arith}
use Rattle.std.specs.List.{flat_map}
use Rattle.std.proofs.lemmas.List.{take_all}
use Rattle.bx_base.specs.Writing.{Writes}
use Rattle.bx_base.proofs.Written.{writes_then}
use Rattle.bx_layout.specs.Blocks.{HasParts, block_text}
use Rattle.bx_records.specs.Drafts.{Changed}
use Rattle.bx_redo.proofs.Pieces.{filled, length_all, room_at, one_more}
use Rattle.bx_redo.proofs.text.put_blocks.Goals as goal
use Rattle.bx_volume.proofs.Sizes.{block_bytes}

pub put_block-end-requires-clause-room : goal.put_block-end-requires-clause-room
put_block-end-requires-clause-room c =
    let room = room_at (λ (change : Changed). block_text change.1) (λ (change : Changed). HasParts change.1) 4608 (λ change is. block_bytes change.1 is)
    c.args.blocks.now c.loop-block.block-index c.requires.parts c.loop-block-test.true in
    omega (arith, room, c.loop-block.invariant.place, c.loop-block.invariant.len, c.requires.size)

pub loop-block-preserved : goal.loop-block-preserved
loop-block-preserved c =
    let more = one_more (λ (change : Changed). block_text change.1) (λ (change : Changed). HasParts change.1) 4608 (λ change is. block_bytes change.1 is)
    c.args.blocks.now c.loop-block.block-index c.loop-block-item.result c.loop-block-item.result c.loop-block-test.true c.loop-block-item.is in
    subst (Writes c.args.into.now c.put_block-end.new.into 0 c.put_block-end.result) (sym more)
    (writes_then _ _ _ 0 _ _ _ _ c.loop-block.invariant c.put_block-end.ensures)

pub returns : goal.returns
returns c =
    let all = take_all c.loop-block.block-index c.args.blocks.now (omega (arith, c.loop-block-test.false)) in
    let text = λ (change : Changed). block_text change.1 in
    let whole = length_all text (λ (change : Changed). HasParts change.1) 4608 (λ change is. block_bytes change.1 is) c.args.blocks.now c.requires.parts in
    let w = subst (λ (xs : _). Writes c.args.into.now c.loop-block.into 0 c.loop-block.end (flat_map text xs)) all c.loop-block.invariant in
    filled c.args.into.now c.loop-block.into _ c.loop-block.end w (whole ∙ sym c.requires.size)
