use Rattle.std.proofs.Common.{◌≡◌, length}
use Rattle.bx_page.specs.Contents.{Rises, last, up_to}
use Rattle.std.specs.Option.{option_or}
use Rattle.bx_page_bytes.proofs.page.PageBytes.last_up_to.Given as goal

-- the entries that are left rise, and the last of them is, or else the one found so far
abbrev pub invariant-loop-entry : goal.invariant-loop-entry
invariant-loop-entry l = record { rises : Rises l.entries; found : option_or (last (up_to l.entries l.key)) l.found ≡ last (up_to l.self.entries l.key) }

abbrev pub decreases-loop-entry : goal.decreases-loop-entry
decreases-loop-entry l = length l.entries
