use Rattle.std.proofs.Common.{arith, inl, inr}
use Rattle.bx_entries.proofs.unlinking.unlink.Goals.{then-inode-eq-DIRECTORY-via-then-inode-eq-DIRECTORY, then-inode-eq-DIRECTORY-via-else-inode-eq-DIRECTORY+then-inode-le1}
use Rattle.bx_entries.proofs.Unlinked.{bare, dies, dying_needs, lessens, stopped}
use Rattle.bx_entries.proofs.unlinking.unlink.Goals as goal

pub returns-in-Err-clause-step : goal.returns-in-Err-clause-step
returns-in-Err-clause-step g c = λ areas truth tree file f.
    stopped areas (g.V.View.held c.args.view.now) truth c.args.draft.now tree c.args.handle c.args.inode file c.args.now f c.bury.new.draft c.requires.few c.in-Err.error c.stop_of_chunks.result c.in-Err.ensures.at
    (c.in-Err.ensures.tree areas truth tree file f.same f.is f.holds f.there (bare areas (g.V.View.held c.args.view.now) truth c.args.draft.now tree c.args.handle c.args.inode file c.args.now f) f.not_root)
    c.stop_of_chunks.ensures

pub returns-in-Ok-clause-step : goal.returns-in-Ok-clause-step
returns-in-Ok-clause-step g c = λ areas truth tree file f.
    dies areas (g.V.View.held c.args.view.now) truth c.args.draft.now tree c.args.handle c.args.inode file c.args.now f c.bury.new.draft (elim c.then-inode-eq-DIRECTORY.branch [ then-inode-eq-DIRECTORY-via-then-inode-eq-DIRECTORY w ↦ inl w.if-inode-eq-DIRECTORY.true | then-inode-eq-DIRECTORY-via-else-inode-eq-DIRECTORY+then-inode-le1 w ↦ inr w.if-inode-le1.true ])
    (c.in-Ok.ensures.tree areas truth tree file f.same f.is f.holds f.there (bare areas (g.V.View.held c.args.view.now) truth c.args.draft.now tree c.args.handle c.args.inode file c.args.now f) f.not_root)

pub returns-clause-step : goal.returns-clause-step
returns-clause-step g c = λ areas truth tree file f.
    lessens areas (g.V.View.held c.args.view.now) truth c.args.draft.now tree c.args.handle c.args.inode file c.args.now f c.put_inode.new.draft c.if-inode-eq-DIRECTORY.false (let more = c.if-inode-le1.false in omega (arith, more))
    c.in-Ok-put_inode.ensures.puts c.in-Ok-put_inode.ensures.tree

pub returns-in-Err-clause-need : goal.returns-in-Err-clause-need
returns-in-Err-clause-need g c = λ areas few.
    dying_needs areas (g.V.View.held c.args.view.now) c.args.draft.now c.bury.new.draft c.args.handle c.args.inode (elim c.then-inode-eq-DIRECTORY.branch [ then-inode-eq-DIRECTORY-via-then-inode-eq-DIRECTORY w ↦ inl w.if-inode-eq-DIRECTORY.true | then-inode-eq-DIRECTORY-via-else-inode-eq-DIRECTORY+then-inode-le1 w ↦ inr w.if-inode-le1.true ])
    c.in-Err.error c.stop_of_chunks.result (c.in-Err.ensures.fair areas few) c.in-Err.ensures.at c.stop_of_chunks.ensures
