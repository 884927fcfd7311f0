use Rattle.std.proofs.Common.{◌≡◌, ◌+◌, ◌*◌, ◌/◌, length, take, refl, arith}
use Rattle.bx_calls.specs.Regions.{IsInside}
use Rattle.bx_calls.specs.Laws.{zero_more, keeps_part, leaves_part, may_part, inside_by, blank_front, front_count}
use Rattle.bx_calls.proofs.zero.zero_pieces.Goals as goal

pub write_zeros-requires-clause-blank : goal.write_zeros-requires-clause-blank
write_zeros-requires-clause-blank g c =
    let least = c.min-piece.ensures in
    blank_front _ _ c.requires.blank (let long = c.requires.piece in omega arith)

pub loop-done-preserved : goal.loop-done-preserved
loop-done-preserved g c =
    let least = c.min-piece.ensures in
    let more = c.loop-done-test.true in
    let long = c.requires.piece in
    let piece = c.min-piece.result in
    let count : length (take (512 * piece) c.args.zeros.now) / 512 ≡ piece = front_count piece c.args.zeros.now (omega arith) in
    let over = c.loop-done.invariant.over in
    let inside : IsInside c.args.disk (c.args.sector + c.loop-done.done) piece c.args.disk c.args.sector c.args.count = inside_by _ _ _ _ _ _ refl (omega arith) (omega arith) in
    record {
      over = omega arith;
      zero = λ tells.
          let told = c.loop-done.invariant.rack.keeps_telling tells in
          zero_more _ _ _ _ _ _ (c.loop-done.invariant.zero tells) (rw count at (c.write_zeros.ensures.keeps told)) (rw count at (c.in_ok-write_zeros.ensures.zero told));
      keeps = λ tells.
          let told = c.loop-done.invariant.rack.keeps_telling tells in
          keeps_part _ _ _ _ _ _ _ _ _ (c.loop-done.invariant.keeps tells) (rw count at (c.write_zeros.ensures.keeps told)) inside;
      any_moment = λ tells.
          let told = c.loop-done.invariant.rack.keeps_telling tells in
          leaves_part _ _ _ _ _ _ _ _ _ _ _ _ _ _ (c.loop-done.invariant.any_moment tells) (c.loop-done.invariant.keeps tells) (rw count at (c.write_zeros.ensures.any_moment told)) inside;
      torn = λ tells.
          let told = c.loop-done.invariant.rack.keeps_telling tells in
          may_part _ _ _ _ _ _ _ _ _ (c.loop-done.invariant.torn tells) (rw count at (c.write_zeros.ensures.torn told)) inside;
      rack = grind arith;
    }
