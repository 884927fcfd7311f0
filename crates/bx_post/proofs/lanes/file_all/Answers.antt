use Rattle.std.proofs.Common.{arith, sym, ◌≡◌, ◌+◌, ◌<◌, ◌≤◌, ◌++◌, List, length, map, subst, suc, take}
use Rattle.bx_post.specs.Lanes.{AreLanes, Laned, lane_to}
use Rattle.bx_post.specs.declared.packets.Letter.{Letter}
use Rattle.bx_post.specs.Posts.{fresh}
use Rattle.bx_post.proofs.Crossing.{goes_back}
use Rattle.bx_post.proofs.Each.{take_all}
use Rattle.bx_post.proofs.Filing.{comes_next}
use Rattle.bx_post.proofs.Slots.{got}
use Rattle.bx_post.proofs.lanes.file_all.Goals as goal

pub loop-letter-preserved : goal.loop-letter-preserved
loop-letter-preserved c =
    let i = c.loop-letter.letter-index in
    let inside : c.loop-letter.letter-index < length c.args.letters.now = omega arith in
    let there = got c.args.letters.now i c.letter-item.result inside c.letter-item.is in
    let next : c.loop-letter.letter-index + 1 ≡ suc c.loop-letter.letter-index = omega arith in (
      omega (arith, c.loop-letter.invariant.0),
      λ all count are.
          subst (AreLanes (all ++ map fresh (take (i + 1) c.args.letters.now))) (sym c.in_ok-file.ensures.ok)
          (comes_next all c.args.letters.now i (i + 1) (c.loop-letter.number + 1) c.letter-item.result c.loop-letter.lanes.items there (omega (arith, c.loop-letter.invariant.0, count)) next (c.loop-letter.invariant.1 all count are)),
    )

pub returns-in_err-file-clause-back : goal.returns-in_err-file-clause-back
returns-in_err-file-clause-back c = λ all count are.
    let more = map fresh (take c.loop-letter.letter-index c.args.letters.now) in
    let P : List Laned → Type 0 = λ ls. AreLanes all (map (lane_to c.args.count) ls) in
    subst P (sym c.in_err-file.ensures.err) (goes_back all more c.args.count c.loop-letter.lanes.items count (c.loop-letter.invariant.1 all count are))

pub returns-clause-back : goal.returns-clause-back
returns-clause-back c = λ all count are.
    let more = map fresh (take c.loop-letter.letter-index c.args.letters.now) in
    goes_back all more c.args.count c.loop-letter.lanes.items count (c.loop-letter.invariant.1 all count are)

pub returns-clause-ok : goal.returns-clause-ok
returns-clause-ok c = λ all count are.
    let past : length c.args.letters.now ≤ c.loop-letter.letter-index = omega arith in
    let P : List Letter → Type 0 = λ ls. AreLanes (all ++ map fresh ls) c.loop-letter.lanes.items in
    subst P (take_all c.loop-letter.letter-index c.args.letters.now past) (c.loop-letter.invariant.1 all count are)
