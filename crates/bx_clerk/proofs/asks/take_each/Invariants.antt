use Rattle.std.proofs.Common.{◌≡◌, drop}
use Rattle.std.specs.BTreeMap.{IsOrdered}
use Rattle.bx_clerk.specs.Places.{key_cmp, without_places}
use Rattle.bx_clerk.proofs.asks.take_each.Given as goal

abbrev pub invariant-loop-place : goal.invariant-loop-place
invariant-loop-place l =
    (without_places (drop l.place-index l.places) l.line.entries ≡ without_places l.places l.fn.line.entries)
    × IsOrdered key_cmp l.line
