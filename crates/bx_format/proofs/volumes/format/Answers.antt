use Rattle.bx_format.proofs.Spared.{leaves_made}
use Rattle.bx_format.proofs.Whole.{is_formatted}
use Rattle.bx_format.proofs.volumes.format.Goals as goal

pub returns-clause-formatted : goal.returns-clause-formatted
returns-clause-formatted g c = λ tells.
    let told = c.lay_out.ensures.rack.keeps_telling tells in
    is_formatted (g.R.Rack.state c.lay_out.new.rack) (g.R.Rack.state c.label_disks.new.rack) (record { volume = c.args.volume; disk = 0; devices = c.args.devices; areas = c.args.areas })
    c.label_disks.ensures.rack.sizes (c.label_disks.ensures.behind told) (λ d s. c.in_ok-label_disks.ensures.sure d s told) (c.in_ok-label_disks.ensures.labels told)
    c.in_ok-lay_out.ensures.sizes (c.in_ok-lay_out.ensures.blocks tells) (c.in_ok-lay_out.ensures.none tells)

pub returns-clause-moments : goal.returns-clause-moments
returns-clause-moments g c = λ tells.
    let told = c.lay_out.ensures.rack.keeps_telling tells in
    leaves_made (g.R.Rack.state c.args.rack.now) (g.R.Rack.state c.lay_out.new.rack) (g.R.Rack.state c.label_disks.new.rack) _ _ _ _ _ _
    (c.in_ok-lay_out.ensures.moments tells) (c.in_ok-lay_out.ensures.bare tells) c.label_disks.ensures.rack.sizes (c.label_disks.ensures.behind told) (c.label_disks.ensures.moments told)
