use Rattle.std.proofs.Common.{List, subst, sym}
use Rattle.bx_reads.specs.bx_inodes.specs.Inodes.{HoldsInode}
use Rattle.bx_reads.proofs.Told.{over_none}
use Rattle.bx_records.specs.Drafts.{Changed}
use Rattle.bx_views.specs.Truths.{with_draft}
use Rattle.bx_changes.proofs.HintsKept.{put_fits}
use Rattle.bx_changes.proofs.rewriting.rewritten.Goals as goal

pub returns-clause-tree : goal.returns-clause-tree
returns-clause-tree c = λ areas truth tree file file_now old is there holds keeps fields same_handle same_body.
    c.in_ok-put_inode.ensures.tree areas truth tree file file_now old (over_none areas truth tree c.new-draft.result c.new-draft.ensures is) there
    (subst (λ (d : List Changed). HoldsInode areas (with_draft truth d) c.args.handle old) (sym c.new-draft.ensures) holds) keeps fields same_handle same_body

pub returns-clause-hints : goal.returns-clause-hints
returns-clause-hints c = λ areas hints truth old chunked holds same_tree fit.
    put_fits areas hints truth c.args.handle old c.args.inode.now c.new-draft.result c.put_inode.new.draft c.new-draft.ensures chunked holds same_tree fit c.in_ok-put_inode.ensures.puts
