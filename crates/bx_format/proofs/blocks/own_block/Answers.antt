use Rattle.std.proofs.Common.{ap, ◌∙◌}
use Rattle.bx_base.specs.Writing.{padded}
use Rattle.bx_layout.specs.declared.area.AreaBlock.{AreaBlock}
use Rattle.bx_layout.specs.Areas.{area_text}
use Rattle.bx_places.specs.Handles.{number_of}
use Rattle.bx_truth.specs.Opening.{area_block}
use Rattle.bx_format.proofs.blocks.own_block.Goals as goal

pub returns : goal.returns
unfolding area_block
returns c =
    let e = c.in_ok-of.ensures ∙ c.write.ensures ∙ ap (λ (slots : AreaBlock). padded 4096 (area_text slots)) c.in_ok-slots.ensures.slots in
    let h = c.number.ensures ∙ ap number_of c.own.ensures in
    λ i. record { handle = h i; kind = 4; payload = e i }
