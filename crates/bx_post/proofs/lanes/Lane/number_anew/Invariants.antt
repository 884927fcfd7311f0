use Rattle.std.proofs.Common.{◌≡◌}
use Rattle.bx_post.proofs.Each.{part}
use Rattle.bx_post.specs.Lanes.{place_in}
use Rattle.bx_post.proofs.lanes.Lane.number_anew.Given as goal

abbrev pub invariant-loop-at : goal.invariant-loop-at
invariant-loop-at l = (l.self-inside.numbers.items ≡ part (place_in l.waiting.items) l.at l.initial.self-inside.numbers.items) × (l.self-inside.from ≡ l.initial.self-inside.from) × (l.self-inside.to ≡ l.initial.self-inside.to) × (l.self-inside.kind ≡ l.initial.self-inside.kind)
