use Rattle.std.proofs.Common.{List, sym, subst, ℕ}
use Rattle.bx_format.specs.Formats.{HasSizes}
use Rattle.bx_rack_commands.proofs.Made.{leaves_made}
use Rattle.bx_rack_commands.proofs.volumes.format.Goals as goal

pub returns-clause-sizes : goal.returns-clause-sizes
returns-clause-sizes g c = subst (λ (sizes : List ℕ). HasSizes sizes c.args.devices c.args.areas) (sym c.finish.ensures.rack.sizes) c.in_ok-lay_out.ensures.sizes

pub returns-clause-made : goal.returns-clause-made
returns-clause-made g c = λ tells. c.in_ok-finish.ensures.made (c.lay_out.ensures.rack.keeps_telling tells) (c.in_ok-lay_out.ensures.blocks tells) (c.in_ok-lay_out.ensures.none tells)

pub returns-clause-moments : goal.returns-clause-moments
returns-clause-moments g c = λ tells.
    let laid = c.lay_out.ensures.rack.keeps_telling tells in
    leaves_made (g.R.Rack.state c.args.rack.now) (g.R.Rack.state c.lay_out.new.rack) (g.R.Rack.state c.finish.new.rack) c.args.devices _ _ _ _ _ _
    (c.in_ok-lay_out.ensures.moments tells) c.finish.ensures.rack.sizes (c.finish.ensures.moments laid (c.in_ok-lay_out.ensures.bare tells))
