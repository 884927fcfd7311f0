use Rattle.std.proofs.Common.{◌∙◌, ◌-◌, ◌+◌, ◌*◌, arith, rules}
use Rattle.bx_memory_rack.proofs.Sectors.{put_here, put_elsewhere}
use Rattle.bx_memory_rack.proofs.cells.put_sector.Goals as goal

pub returns-clause-here : goal.returns-clause-here
returns-clause-here c =
    put_here c.args.at (512 * c.args.at + 512 - 512 * c.args.at) c.args.into.now c.copy_from_slice.new.self c.requires.range (search rules)
    ∙ search rules

pub returns-clause-others : goal.returns-clause-others
returns-clause-others c = λ i apart.
    put_elsewhere c.args.at (512 * c.args.at + 512 - 512 * c.args.at) c.args.into.now c.copy_from_slice.new.self i c.requires.range (search rules) (omega arith) apart
