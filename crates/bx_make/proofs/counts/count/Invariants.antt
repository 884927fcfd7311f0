use Rattle.std.proofs.Common.{◌≡◌, ◌+◌, ◌≤◌, true, drop}
use Rattle.bx_make.specs.Counts.{count_lines}
use Rattle.bx_make.proofs.counts.count.Given as goal

abbrev pub invariant-loop-at : goal.invariant-loop-at
invariant-loop-at l = record {
  counted : l.count + count_lines l.word l.starts (drop l.at l.text) ≡ count_lines l.word true l.text;
  few : l.count ≤ l.at;
}
