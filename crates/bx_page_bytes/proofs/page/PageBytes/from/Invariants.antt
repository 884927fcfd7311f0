use Rattle.std.proofs.Common.{◌≡◌, length}
use Rattle.bx_page.specs.Contents.{Rises, from}
use Rattle.bx_page_bytes.proofs.page.PageBytes.from.Given as goal

-- the entries that are left rise, and hold all that aren't below the key
abbrev pub invariant-loop-entry : goal.invariant-loop-entry
invariant-loop-entry l = record { rises : Rises l.entries; rest : l.rest ≡ l.entries; same : from l.entries l.key ≡ from l.self.entries l.key }

abbrev pub decreases-loop-entry : goal.decreases-loop-entry
decreases-loop-entry l = length l.entries
