use Rattle.std.proofs.Common.{◌≡◌, ◌++◌, length, ◌-◌, ◌+◌}
use Rattle.bx_base.specs.Text.{LacksFeed}
use Rattle.bx_outside.proofs.line_reader.LineReader.next.Given as goal

abbrev pub invariant-loop-self : goal.invariant-loop-self
invariant-loop-self g l = record {
  text : g.S.Source.tells l.fn.source → l.fn.self.ahead ++ g.S.Source.left l.fn.source ≡ l.self.line ++ (l.self.ahead ++ g.S.Source.left l.source);
  lacks : LacksFeed l.self.line;
  most : l.self.most ≡ l.fn.self.most;
  same : g.S.Source.faults l.source ≡ g.S.Source.faults l.fn.source;
  tells : g.S.Source.tells l.fn.source → g.S.Source.tells l.source;
}

abbrev pub decreases-loop-self : goal.decreases-loop-self
decreases-loop-self g l = (l.self.most + 1) - length l.self.line
