use Rattle.std.proofs.Common.{take}
use Rattle.std.specs.List.{flat_map}
use Rattle.bx_base.specs.Writing.{Writes}
use Rattle.bx_page.specs.Spelling.{entry_bytes}
use Rattle.bx_page.proofs.writing.put_entries.Given as goal

abbrev pub invariant-loop-entry : goal.invariant-loop-entry
invariant-loop-entry l = Writes l.fn.payload l.payload l.at l.end (flat_map entry_bytes (take l.entry-index l.entries))
