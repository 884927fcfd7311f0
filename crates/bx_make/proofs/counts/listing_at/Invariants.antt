use Rattle.std.proofs.Common.{◌≡◌, ◌+◌, true, drop}
use Rattle.std.specs.Prelude.{codes}
use Rattle.bx_make.specs.Counts.{bytes_before}
use Rattle.bx_make.proofs.counts.listing_at.Given as goal

abbrev pub invariant-loop-at : goal.invariant-loop-at
invariant-loop-at l = l.at + bytes_before (codes "file ") l.starts (drop l.at l.output) ≡ bytes_before (codes "file ") true l.output
