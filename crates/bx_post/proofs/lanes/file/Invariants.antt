use Rattle.std.proofs.Common.{◌≡◌, take}
use Rattle.std.specs.List.{AllByRecursion}
use Rattle.bx_post.proofs.Filing.{IsElse}
use Rattle.bx_post.proofs.lanes.file.Given as goal

abbrev pub invariant-loop-at : goal.invariant-loop-at
invariant-loop-at l = (l.lanes.items ≡ l.initial.lanes.items) × AllByRecursion (IsElse l.letter) (take l.at l.lanes.items)
