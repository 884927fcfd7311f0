use Rattle.std.proofs.Common.{ap, ◌∙◌, length, ◌/◌}
use Rattle.bx_volume.proofs.Sizes.{length-block_text}
use Rattle.bx_format.proofs.Puts.{holds_more, reads_at, room, writes_at}
use Rattle.bx_format.proofs.Spared.{spares_home, spares_then}
use Rattle.bx_format.specs.Moments.{IsLabelSector}
use Rattle.bx_format.proofs.homes.put_home.Goals as goal

pub write_some-requires-2-clause-range : goal.write_some-requires-2-clause-range
write_some-requires-2-clause-range g c =
    room _ _ c.args.devices c.args.areas c.args.at _ _ c.write_some.ensures.rack.sizes c.requires.sizes c.requires.volume c.requires.there c.place-device.ensures
    (ap (λ (l : _). length l / 512) c.write.ensures ∙ length-block_text c.args.block.now c.requires.parts)

pub returns-clause-puts : goal.returns-clause-puts
returns-clause-puts g c = λ truth tells holds.
    let told = c.write_some.ensures.rack.keeps_telling tells in
    holds_more (g.R.Rack.state c.args.rack.now) (g.R.Rack.state c.write_some-2.new.rack) c.args.devices c.args.areas c.args.at c.args.block.now truth c.requires.volume c.requires.there c.requires.parts
    (writes_at _ _ _ _ _ c.args.block.now _ _ c.requires.parts c.place-device.ensures c.write.ensures (c.write_some.ensures.keeps tells) (c.write_some-2.ensures.keeps told))
    (reads_at _ _ _ _ c.args.block.now _ _ c.place-device.ensures c.write.ensures (c.in_ok-write_some.ensures.written tells) (c.write_some-2.ensures.keeps told) (c.in_ok-write_some-2.ensures.written told)) holds

pub returns-in_err-write_some-clause-spares : goal.returns-in_err-write_some-clause-spares
returns-in_err-write_some-clause-spares g c = λ tells. spares_home _ _ c.args.at c.args.devices _ _ _ _ _ _ _ c.place-device.ensures (c.write_some.ensures.keeps tells) (c.write_some.ensures.any_moment tells)

pub returns-in_err-write_some-2-clause-spares : goal.returns-in_err-write_some-2-clause-spares
returns-in_err-write_some-2-clause-spares g c = λ tells.
    let told = c.write_some.ensures.rack.keeps_telling tells in
    spares_then IsLabelSector _ _ _ _ _ _ _ _ _ (spares_home _ _ c.args.at c.args.devices _ _ _ _ _ _ _ c.place-device.ensures (c.write_some.ensures.keeps tells) (c.write_some.ensures.any_moment tells)) (spares_home _ _ c.args.at c.args.devices _ _ _ _ _ _ _ c.place-device.ensures (c.write_some-2.ensures.keeps told) (c.write_some-2.ensures.any_moment told))

pub returns-clause-spares : goal.returns-clause-spares
returns-clause-spares g c = λ tells.
    let told = c.write_some.ensures.rack.keeps_telling tells in
    spares_then IsLabelSector _ _ _ _ _ _ _ _ _ (spares_home _ _ c.args.at c.args.devices _ _ _ _ _ _ _ c.place-device.ensures (c.write_some.ensures.keeps tells) (c.write_some.ensures.any_moment tells)) (spares_home _ _ c.args.at c.args.devices _ _ _ _ _ _ _ c.place-device.ensures (c.write_some-2.ensures.keeps told) (c.write_some-2.ensures.any_moment told))
