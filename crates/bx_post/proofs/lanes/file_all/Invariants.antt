use Rattle.std.proofs.Common.{◌≡◌, ◌+◌, ◌++◌, List, length, map, take}
use Rattle.bx_post.specs.Lanes.{AreLanes}
use Rattle.bx_post.specs.Posts.{Posted, fresh}
use Rattle.bx_post.proofs.lanes.file_all.Given as goal

abbrev pub invariant-loop-letter : goal.invariant-loop-letter
invariant-loop-letter l =
    (l.number ≡ l.count + l.letter-index)
    × ((all : List Posted) → length all ≡ l.count → AreLanes all l.initial.lanes.items → AreLanes (all ++ map fresh (take l.letter-index l.letters)) l.lanes.items)
