use Rattle.std.proofs.Common.{refl}
use Rattle.bx_reads.proofs.Found.{found, no_name, seen_named, stands_over, stopped}
use Rattle.bx_reads.proofs.files.named_inode.Goals as goal

pub returns-in_default-clause-names : goal.returns-in_default-clause-names
returns-in_default-clause-names g c = λ truth tree same s. (refl, no_name c.args.areas c.args.volume truth tree c.args.at.now s c.in_default.ensures)

pub returns-in-Err-clause-names : goal.returns-in-Err-clause-names
returns-in-Err-clause-names g c = λ truth tree same s.
    stopped c.args.areas c.args.volume truth tree c.args.at.now s c.new-none.result c.new-none.ensures c.in-Some.handle c.in-Some.ensures c.in-Err.stop
    (c.in-Err.ensures.tree truth tree same (stands_over c.args.areas c.args.volume truth tree c.args.at.now s c.new-none.result c.new-none.ensures c.in-Some.handle c.in-Some.ensures))

pub returns-clause-names : goal.returns-clause-names
returns-clause-names g c = λ truth tree same s.
    found c.args.areas c.args.volume truth tree c.args.at.now s c.new-none.result c.new-none.ensures c.in-Some.handle c.in-Some.ensures c.in-Ok.inode
    (c.in-Ok.ensures.tree truth tree same (stands_over c.args.areas c.args.volume truth tree c.args.at.now s c.new-none.result c.new-none.ensures c.in-Some.handle c.in-Some.ensures))

pub returns-clause-sees : goal.returns-clause-sees
returns-clause-sees g c =
    seen_named (g.V.View.held c.args.view.now) (g.V.View.hints c.args.view.now) c.args.volume c.args.areas c.args.at.now c.new-none.result c.in-Some.handle c.in-Ok.inode c.new-none.ensures c.in-Some.ensures c.in-Ok.ensures.at
