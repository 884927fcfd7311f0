use Rattle.std.proofs.Common.{◌+◌, ◌∙◌, arith, length, refl}
use Rattle.std.proofs.lemmas.Result.{err_from_is_err_and}
use Rattle.std.specs.FinSet as set
use Rattle.bx_schedule.specs.Places.{place_of}
use Rattle.bx_replay.proofs.Finishing.{ended_in_listing, ended_in_points, ended_whole, front, points, shown}
use Rattle.bx_replay.proofs.ends.write_closing.Goals as goal

pub returns-in_err-text-clause-ends : goal.returns-in_err-text-clause-ends
returns-in_err-text-clause-ends g c = λ disks tree tells opened listed stands.
    let p = err_from_is_err_and c.from_residual.result c.from_residual.ensures.1 in
    rw (p.1, p.2) refl

pub returns-in_err-write_all-clause-ends : goal.returns-in_err-write_all-clause-ends
returns-in_err-write_all-clause-ends g c = λ disks tree tells opened listed stands.
    let p = err_from_is_err_and c.from_residual-in_err-write_all.result c.from_residual-in_err-write_all.ensures.1 in
    let lacks = set.contains (place_of c.args.schedule.now).lacking in
    let part = c.in_err-write_all.ensures.part tells in
    let is = c.as_slice.ensures.value ∙ c.in_ok-text.ensures.text in
    rw (p.1, p.2) (
      points disks lacks tree c.args.listed.now.doubt opened stands,
      shown disks lacks tree c.args.listed.now.doubt opened stands c.in_ok-text.ensures.in_range,
      (part.0, ended_in_points disks lacks tree c.args.listed.now.doubt opened stands _ _ _ part.0 is (let less = part.1 in omega (arith, less)) part.2),
    )

pub returns-in_err-write_all-2-clause-ends : goal.returns-in_err-write_all-2-clause-ends
returns-in_err-write_all-2-clause-ends g c = λ disks tree tells opened listed stands.
    let p = err_from_is_err_and c.from_residual-in_err-write_all-2.result c.from_residual-in_err-write_all-2.ensures.1 in
    let lacks = set.contains (place_of c.args.schedule.now).lacking in
    let part = c.in_err-write_all-2.ensures.part (c.in_ok-write_all.ensures.keeps_telling tells) in
    let is = c.as_slice.ensures.value ∙ c.in_ok-text.ensures.text in
    rw (p.1, p.2) (
      points disks lacks tree c.args.listed.now.doubt opened stands,
      shown disks lacks tree c.args.listed.now.doubt opened stands c.in_ok-text.ensures.in_range,
      (
        length (front disks lacks tree c.args.listed.now.doubt opened stands) + part.0,
        ended_in_listing disks lacks tree c.args.listed.now.doubt opened stands _ _ _ _ _ part.0 is (c.bytes.ensures ∙ listed) (c.in_ok-write_all.ensures.ok tells) part.2,
      ),
    )

pub returns-clause-ends : goal.returns-clause-ends
returns-clause-ends g c = λ disks tree tells opened listed stands.
    let lacks = set.contains (place_of c.args.schedule.now).lacking in
    let is = c.as_slice.ensures.value ∙ c.in_ok-text.ensures.text in (
      points disks lacks tree c.args.listed.now.doubt opened stands,
      shown disks lacks tree c.args.listed.now.doubt opened stands c.in_ok-text.ensures.in_range,
      ended_whole disks lacks tree c.args.listed.now.doubt opened stands _ _ _ _ _ is (c.bytes.ensures ∙ listed) (c.in_ok-write_all.ensures.ok tells) (c.in_ok-write_all-2.ensures.ok (c.in_ok-write_all.ensures.keeps_telling tells)),
    )
