use Rattle.std.proofs.Common.{◌++◌, length, ◌∙◌, ap, arith}
use Rattle.bx_base.specs.Text.{LacksFeed}
use Rattle.bx_outside.proofs.Feeds.{parts_more, LacksFeed-more, BeginsWith-met, IsTooLong-met, parts_refilled}
use Rattle.bx_outside.proofs.line_reader.LineReader.next.Goals as goal
use Rattle.bx_outside.proofs.line_reader.LineReader.next.Goals.{then-len-self, else-len-self}

pub returns-then-branch-clause-line : goal.returns-then-branch-clause-line
returns-then-branch-clause-line g c = λ t.
    let text = c.args.self.now.ahead ++ g.S.Source.left c.args.source.now in
    let left = g.S.Source.left c.refill.new.source in
    let k = parts_refilled text (g.S.Source.left c.loop-self.source) left c.loop-self.self c.refill.new.self (c.loop-self.invariant.text t) (c.refill.ensures.keeps (c.loop-self.invariant.tells t)) c.refill.ensures.line in
    let l : LacksFeed c.refill.new.self.line = rw c.refill.ensures.line c.loop-self.invariant.lacks in
    let m = c.in_ok-take_up_to_feed.ensures.met c.if-branch.true in
    let line = ap (λ s. length s.line) c.self-in-loop-self-3.view_is in
    let most = ap (λ s. s.most) c.self-in-loop-self-3.view_is in
    elim c.if-len-self.branch [
      | then-len-self w ↦ rw w.result-is record { begins = BeginsWith-met text left c.refill.new.self c.take_up_to_feed.new.self k l m; short = omega (arith, line, most, c.len-then-branch.ensures, w.if-len-self.true) }
      | else-len-self w ↦ rw w.result-is tt
    ]

pub returns-then-branch-clause-too_long : goal.returns-then-branch-clause-too_long
returns-then-branch-clause-too_long g c = λ t.
    let text = c.args.self.now.ahead ++ g.S.Source.left c.args.source.now in
    let left = g.S.Source.left c.refill.new.source in
    let k = parts_refilled text (g.S.Source.left c.loop-self.source) left c.loop-self.self c.refill.new.self (c.loop-self.invariant.text t) (c.refill.ensures.keeps (c.loop-self.invariant.tells t)) c.refill.ensures.line in
    let l : LacksFeed c.refill.new.self.line = rw c.refill.ensures.line c.loop-self.invariant.lacks in
    let m = c.in_ok-take_up_to_feed.ensures.met c.if-branch.true in
    let line = ap (λ s. length s.line) c.self-in-loop-self-3.view_is in
    let most = ap (λ s. s.most) c.self-in-loop-self-3.view_is in
    elim c.if-len-self.branch [
      | then-len-self w ↦ rw w.result-is tt
      | else-len-self w ↦ rw w.result-is (IsTooLong-met text left c.refill.new.self c.take_up_to_feed.new.self c.args.self.now.most k l m (omega (arith, line, most, c.len-then-branch.ensures, w.if-len-self.false, c.take_up_to_feed.ensures.most, c.refill.ensures.most, c.loop-self.invariant.most)))
    ]

pub loop-self-preserved : goal.loop-self-preserved
loop-self-preserved g c =
    let text = c.args.self.now.ahead ++ g.S.Source.left c.args.source.now in
    let left = g.S.Source.left c.refill.new.source in
    let m = c.in_ok-take_up_to_feed.ensures.unmet c.if-branch.false in
    let l : LacksFeed c.refill.new.self.line = rw c.refill.ensures.line c.loop-self.invariant.lacks in
    record {
      text = λ t. parts_more text left c.refill.new.self c.take_up_to_feed.new.self (parts_refilled text (g.S.Source.left c.loop-self.source) left c.loop-self.self c.refill.new.self (c.loop-self.invariant.text t) (c.refill.ensures.keeps (c.loop-self.invariant.tells t)) c.refill.ensures.line) m;
      lacks = LacksFeed-more c.refill.new.self c.take_up_to_feed.new.self l m;
      most = c.take_up_to_feed.ensures.most ∙ (c.refill.ensures.most ∙ c.loop-self.invariant.most);
      same = c.in_ok-refill.ensures.no_fault ∙ c.loop-self.invariant.same;
      tells = λ t. c.refill.ensures.keeps_telling (c.loop-self.invariant.tells t);
    }
