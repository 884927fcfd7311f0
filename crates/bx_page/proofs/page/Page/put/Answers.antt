use Rattle.std.proofs.Common.{arith}
use Rattle.bx_page.specs.View.{contents_of}
use Rattle.bx_page.proofs.Edits.{put_page}
use Rattle.bx_page.proofs.page.Page.put.Goals as goal

pub invariant_of-self-2 : goal.invariant_of-self-2
invariant_of-self-2 c =
    put_page (contents_of c.self.inside) c.args.self.now c.args.key.now c.args.value.now c.put_at.new.entries.items c.self.view_is c.self.invariant c.requires.key c.requires.both c.requires.child c.requires.below (omega arith) c.in-Ok.ensures.ok
