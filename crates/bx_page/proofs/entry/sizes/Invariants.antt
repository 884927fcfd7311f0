use Rattle.std.proofs.Common.{◌≡◌, sum_by, take}
use Rattle.bx_page.specs.Contents.{entry_size}
use Rattle.bx_page.proofs.entry.sizes.Given as goal

abbrev pub invariant-loop-entry : goal.invariant-loop-entry
invariant-loop-entry l = l.sum ≡ sum_by entry_size (take l.entry-index l.entries)
