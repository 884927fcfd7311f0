use Rattle.std.proofs.Common.{arith}
use Rattle.bx_homes.proofs.Sectors.{if_none}
use Rattle.bx_homes.proofs.Standing.{spelled}
use Rattle.bx_homes.proofs.homes.read_block.Goals as goal

pub returns-clause-none : goal.returns-clause-none
returns-clause-none g c = λ tells. if_none c.in_ok-found.found
    (λ none block stands. none block
    (spelled (g.R.Rack.state c.args.rack.now).reads c.args.disk c.args.sector c.read_sectors.new.into block stands
    (omega (arith, c.read_sectors.auto.into))
    (c.in_ok-read_sectors.ensures.bytes tells)))
    c.in_ok-found.ensures.none
