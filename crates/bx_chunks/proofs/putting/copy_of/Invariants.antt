use Rattle.std.proofs.Common.{◌≡◌, take}
use Rattle.bx_records.specs.Drafts.{IsDraft}
use Rattle.bx_chunks.proofs.putting.copy_of.Given as goal

abbrev pub invariant-loop-at : goal.invariant-loop-at
invariant-loop-at l = IsDraft l.draft → l.copy ≡ take l.at-index l.draft
