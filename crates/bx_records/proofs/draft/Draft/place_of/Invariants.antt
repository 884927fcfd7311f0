use Rattle.std.proofs.Common.{◌≡◌, ◌+◌, drop}
use Rattle.std.specs.Prelude.{option_map}
use Rattle.bx_records.specs.Drafts.{place_in}
use Rattle.bx_records.proofs.draft.Draft.place_of.Given as goal

abbrev pub invariant-loop-place : goal.invariant-loop-place
invariant-loop-place l = option_map (λ k. l.place + k) (place_in (drop l.place l.self) l.at) ≡ place_in l.self l.at
