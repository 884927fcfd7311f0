use Rattle.std.proofs.Common.{◌-◌, length, arith}
use Rattle.std.specs.FinSet as set
use Rattle.bx_schedule.specs.Places.{place_of}
use Rattle.bx_replay.proofs.Finishing.{in_range_on}
use Rattle.bx_replay.proofs.ends.+put_lacking.Goals as goal
use Rattle.bx_replay.proofs.ends.+put_lacking.Goals.{then-lacks_point+in_ok-append+in-Took-1, then-lacks_point+in_ok-append+in-Reply-1, then-lacks_point+in_ok-append+in-Again-1, then-lacks_point+in_ok-append+in-Acted-1, else-lacks_point}

pub returns-in_ok-put_lacking-clause-in_range : goal.returns-in_ok-put_lacking-clause-in_range
returns-in_ok-put_lacking-clause-in_range g t c =
    in_range_on (set.contains (place_of c.args.schedule.now).lacking) c.args.points.now (record { call = 0; moment = 0; spare = 0; made = 0 }) c.lacks_point.result
    (length c.args.points.now - 1) (let some = c.in-len1-up.len_at_least in omega (arith, some)) c.lacks_point.ensures.has
    (λ lacks.
    elim c.if-lacks_point.branch [
      | then-lacks_point+in_ok-append+in-Took-1 w ↦ w.append.ensures.in_range
      | then-lacks_point+in_ok-append+in-Reply-1 w ↦ w.append.ensures.in_range
      | then-lacks_point+in_ok-append+in-Again-1 w ↦ w.append.ensures.in_range
      | then-lacks_point+in_ok-append+in-Acted-1 w ↦ w.append.ensures.in_range
      | else-lacks_point w ↦ (let none = w.if-lacks_point.false in cc)
    ])
    c.in_ok-put_lacking.ensures.in_range
