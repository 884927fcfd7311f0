use Rattle.std.proofs.Common.{sym, subst}
use Rattle.bx_layout.specs.Blocks.{HasParts}
use Rattle.bx_format.proofs.Made.{page_parts, root_parts}
use Rattle.bx_format.proofs.Spared.{spares_none, spares_then}
use Rattle.bx_format.specs.Moments.{IsLabelSector}
use Rattle.bx_format.proofs.homes.write_root.Goals as goal

pub put_home-requires-clause-parts : goal.put_home-requires-clause-parts
put_home-requires-clause-parts g c = subst HasParts (sym c.in_ok-inode.ensures) root_parts

pub put_home-requires-2-clause-parts : goal.put_home-requires-2-clause-parts
put_home-requires-2-clause-parts g c = subst HasParts (sym c.in_ok-page.ensures) page_parts

pub returns-in_err-inode-clause-spares : goal.returns-in_err-inode-clause-spares
returns-in_err-inode-clause-spares g c = λ tells. spares_none IsLabelSector (g.R.Rack.state c.args.rack.now) (g.R.Rack.moment c.args.rack.now) (g.R.Rack.left_since c.args.rack.now) (λ image left. g.met.R.Rack.only_now c.args.rack.now image tells left)

pub returns-in_err-put_home-clause-spares : goal.returns-in_err-put_home-clause-spares
returns-in_err-put_home-clause-spares g c = λ tells. c.put_home.ensures.spares tells

pub returns-in_err-page-clause-spares : goal.returns-in_err-page-clause-spares
returns-in_err-page-clause-spares g c = λ tells. c.put_home.ensures.spares tells

pub returns-in_err-put_home-2-clause-spares : goal.returns-in_err-put_home-2-clause-spares
returns-in_err-put_home-2-clause-spares g c = λ tells. spares_then IsLabelSector _ _ _ _ _ _ _ _ _ (c.put_home.ensures.spares tells) (c.put_home-2.ensures.spares (c.put_home.ensures.rack.keeps_telling tells))

pub returns-clause-spares : goal.returns-clause-spares
returns-clause-spares g c = λ tells. spares_then IsLabelSector _ _ _ _ _ _ _ _ _ (c.put_home.ensures.spares tells) (c.put_home-2.ensures.spares (c.put_home.ensures.rack.keeps_telling tells))
