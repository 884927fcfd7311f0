use Rattle.std.proofs.Common.{◌+◌, ◌-◌, List, refl, ◌∙◌, subst, arith}
use Rattle.std.specs.Prelude.{Err}
use Rattle.bx_base.specs.declared.names.Mode.TheVariants.{Shared}
use Rattle.bx_blink.specs.Walks.{reads_with}
use Rattle.bx_inodes.specs.Inodes.{FileAt, IsInodeOf, LiveAt}
use Rattle.bx_model.specs.Moves.{way_errors}
use Rattle.bx_changes.specs.bx_reads.proofs.Told.{over_none}
use Rattle.bx_records.specs.Drafts.{Changed}
use Rattle.bx_views.specs.Truths.{with_draft}
use Rattle.bx_moving.specs.Ways.{itself, parent}
use Rattle.bx_moving.proofs.Parents.{ends, goes_on, met, not_missing, parent_directory, there}
use Rattle.bx_moving.proofs.ways.way_error.Goals as goal

pub loop-moves-init : goal.loop-moves-init
loop-moves-init g c = record { done = λ volume truth tree same s directory. (refl, directory); reached = itself }

pub returns-then-at-handle-clause-step : goal.returns-then-at-handle-clause-step
returns-then-at-handle-clause-step g c = λ volume truth tree same s directory.
    (c.loop-moves.invariant.done volume truth tree same s directory).0 ∙ met tree (512 - c.loop-moves._moves) c.loop-moves.at c.args.handle c.if-at-handle.true

pub returns-then-at-eq-ROOT-clause-step : goal.returns-then-at-eq-ROOT-clause-step
returns-then-at-eq-ROOT-clause-step g c = λ volume truth tree same s directory.
    (c.loop-moves.invariant.done volume truth tree same s directory).0 ∙ there tree (512 - c.loop-moves._moves) c.loop-moves.at c.args.handle s.is.root_is c.if-at-eq-ROOT.true c.if-at-handle.false

pub returns-in-Err-clause-step : goal.returns-in-Err-clause-step
returns-in-Err-clause-step g c = λ volume truth tree same s directory.
    not_missing volume c.args.areas truth tree s c.loop-moves.at (c.loop-moves.invariant.done volume truth tree same s directory).1 c.in-Err.stop
    (subst (λ (d : List Changed). FileAt c.args.areas (with_draft truth d) tree c.loop-moves.at (Err c.in-Err.stop)) c.new-none.ensures
    (c.in-Err.ensures.tree truth tree same (over_none c.args.areas truth tree c.new-none.result c.new-none.ensures s.is)))
    (way_errors tree 512 c.args.directory c.args.handle)

pub loop-moves-preserved : goal.loop-moves-preserved
loop-moves-preserved g c = record {
  done = λ volume truth tree same s directory.
      let was = c.loop-moves.invariant.done volume truth tree same s directory in
      let f = subst (λ (d : List Changed). IsInodeOf c.args.areas (with_draft truth d) tree c.loop-moves.at c.in-Ok.inode) c.new-none.ensures
      (c.in-Ok.ensures.tree truth tree same (over_none c.args.areas truth tree c.new-none.result c.new-none.ensures s.is)) in (
        was.0 ∙ goes_on volume c.args.areas truth tree s c.loop-moves.at was.1 c.in-Ok.inode f (512 - c.loop-moves._moves) (512 - (c.loop-moves._moves + 1)) c.args.handle
            (let less = c.loop-moves-test.true in omega (arith, less)) c.if-at-handle.false c.if-at-eq-ROOT.false,
        parent_directory volume c.args.areas truth tree s c.loop-moves.at was.1 c.in-Ok.inode f (λ root. c.if-at-eq-ROOT.false (root ∙ s.is.root_is)),
      );
  reached = parent c.loop-moves.at c.in-Ok.inode c.loop-moves.invariant.reached
      (subst (λ (d : List Changed). LiveAt (reads_with (g.V.View.held c.args.view.now) (g.V.View.hints c.args.view.now) d) c.args.areas c.loop-moves.at Shared c.in-Ok.inode) c.new-none.ensures c.in-Ok.ensures.at);
}

pub returns-clause-step : goal.returns-clause-step
returns-clause-step g c = λ volume truth tree same s directory.
    let was = c.loop-moves.invariant.done volume truth tree same s directory in
    ends tree (512 - c.loop-moves._moves) c.loop-moves.at c.args.handle s.is.root_is (let over = c.loop-moves-test.false in let moves = c.loop-moves.auto._moves-end in omega (arith, over, moves)) c.end_error.result c.end_error.ensures
    (way_errors tree 512 c.args.directory c.args.handle) was.0
