use Rattle.bx_entries.proofs.Taken.{one_block_more}
use Rattle.std.proofs.Common.{ap, arith, length, subst}
use Rattle.bx_inodes.specs.Writing.{PutsInode}
use Rattle.bx_layout.specs.declared.inode.Inode.{Inode}
use Rattle.bx_leaves.proofs.Fair.{seen_held}
use Rattle.bx_model.specs.Edits.{changed}
use Rattle.bx_tree_files.specs.Changes.{moved_to}
use Rattle.bx_truth.specs.Chunks.{block_at}
use Rattle.bx_moving.specs.Edits.{moves_file}
use Rattle.bx_moving.proofs.Edited.{no_stop}
use Rattle.bx_moving.proofs.Settled.{settles}
use Rattle.bx_moving.proofs.settling.settle.Goals as goal

pub returns-in-Err-clause-step : goal.returns-in-Err-clause-step
returns-in-Err-clause-step g c = λ truth tree file r there.
    no_stop c.args.areas truth c.args.draft tree (changed tree c.args.handle (moved_to c.args.now c.args.parent)) c.args.handle file there c.in-Err.stop (c.in-Err.ensures.tree truth tree r.same r.is)

pub returns-in-Ok-put_inode-clause-step : goal.returns-in-Ok-put_inode-clause-step
returns-in-Ok-put_inode-clause-step g c = λ truth tree file r there.
    settles c.args.areas (g.V.View.held c.args.view.now) (g.V.View.hints c.args.view.now) truth c.args.draft c.put_inode.new.draft tree c.args.handle c.in-Ok.inode c.args.parent c.args.now r (c.in-Ok.ensures.tree truth tree r.same r.is)
    (subst (λ (i : Inode). PutsInode c.args.draft c.put_inode.new.draft c.args.handle i) c.settled-moved.ensures c.in-Ok-put_inode.ensures.puts)

pub returns-in-Ok-put_inode-clause-held : goal.returns-in-Ok-put_inode-clause-held
returns-in-Ok-put_inode-clause-held g c = λ held.
    c.in-Ok-put_inode.ensures.held (g.V.View.held c.args.view.now) held (seen_held (g.V.View.held c.args.view.now) c.args.draft (block_at c.args.handle) c.in-Ok.ensures.at.block held c.in-Ok.ensures.at.there)

pub returns-in-Ok-put_inode-clause-few : goal.returns-in-Ok-put_inode-clause-few
returns-in-Ok-put_inode-clause-few g c =
    let one = one_block_more c.args.draft (block_at c.args.handle) c.in-Ok-put_inode.ensures.puts.block in
    let same = ap length c.in-Ok-put_inode.ensures.puts.put in
    omega (arith, one, same)

pub returns-in-Ok-put_inode-clause-edits : goal.returns-in-Ok-put_inode-clause-edits
returns-in-Ok-put_inode-clause-edits g c = λ edited.
    moves_file c.args.draft c.put_inode.new.draft c.args.handle c.in-Ok.inode c.args.parent c.args.now edited c.in-Ok.ensures.at
    (subst (λ (i : Inode). PutsInode c.args.draft c.put_inode.new.draft c.args.handle i) c.settled-moved.ensures c.in-Ok-put_inode.ensures.puts)
