use Rattle.std.proofs.Common.{◌≡◌, ◌+◌, drop}
use Rattle.bx_clerk.specs.Places.{place_in}
use Rattle.bx_clerk.proofs.places.index_for.Given as goal

abbrev pub invariant-loop-index : goal.invariant-loop-index
invariant-loop-index l = l.index + place_in l.asking (drop l.index l.places) ≡ place_in l.asking l.places
