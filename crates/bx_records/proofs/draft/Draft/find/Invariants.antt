use Rattle.std.proofs.Common.{◌≡◌, drop}
use Rattle.bx_records.specs.Drafts.{block_in}
use Rattle.bx_records.proofs.draft.Draft.find.Given as goal

abbrev pub invariant-loop-number : goal.invariant-loop-number
invariant-loop-number l = block_in (drop l.number-index l.self) l.at ≡ block_in l.self l.at
