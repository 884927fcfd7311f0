use Rattle.std.proofs.Common.{◌≡◌, ⊎_elim, inl, inr, refl, ℕ, ◌<◌, arith, Err, List, length, reverse, Some, ap, sym, ◌∙◌}
use Rattle.std.specs.Prelude.{slice_get}
use Rattle.std.proofs.lemmas.List.{length-map, length-reverse}
use Rattle.bx_disk.specs.declared.fault.RackError.TheVariants.{Fault}
use Rattle.bx_logs.specs.Bodies.{point_of}
use Rattle.bx_logs.specs.Newest.{Newest, newest_at}
use Rattle.bx_volume.specs.Records.{Logged, newest_in}
use Rattle.bx_plain_repair.specs.HomesOf.{HasNone}
use Rattle.bx_plain_repair.specs.Left.{IsLeft}
use Rattle.bx_plain_repair.specs.Resting.{IsOpenLog, closes_log}
use Rattle.bx_plain_repair.specs.declared.reading.OpenLog.{OpenLog}
use Rattle.bx_plain_repair.proofs.Leaving.{rests_left, stands_left}
use Rattle.bx_plain_repair.proofs.Results.{on_err, passed_on}
use Rattle.bx_plain_repair.proofs.Sparing.{spares_same, spares_then}
use Rattle.bx_plain_repair.proofs.repair.close_open.Goals as goal

-- the blocks that were read are the records'
read_are : (newest : Newest) (records : List Logged) (log : OpenLog) → Some newest ≡ slice_get log.newest 0 → IsOpenLog records log → (at : ℕ) → newest_at newest at ≡ newest_in records at
read_are newest records log there is at =
    let same : newest ≡ is.first = (let h = there ∙ is.first_is in cc) in
    ap (λ (n : Newest). newest_at n at) same ∙ is.newest at

-- there are as many records as points
some_of : (records : List Logged) (log : OpenLog) → 0 < length log.points → IsOpenLog records log → 0 < length records
some_of records log some is = let long = ap length is.points ∙ length-map (reverse records) point_of ∙ length-reverse records in omega (arith, long, some)

pub returns-in_err-write_homes-clause-left : goal.returns-in_err-write_homes-clause-left
returns-in_err-write_homes-clause-left g c = λ volume floor tree doubt records tells rests is.
    let z = g.R.Rack.state c.write_homes.new.rack in
    on_err (IsLeft volume floor tree doubt z) c.from_residual.result
    (rests_left volume floor tree doubt records z
    (c.in_err-write_homes.ensures.rests volume floor tree records tells rests (read_are c.in-Some.newest.now records c.args.log.now c.in-Some.ensures is)))

pub returns-in_err-write_homes-clause-cause : goal.returns-in_err-write_homes-clause-cause
returns-in_err-write_homes-clause-cause g c = λ fault. ⊎_elim inl
    (λ (none : HasNone (newest_at c.in-Some.newest.now)). inr (λ records is. record {
      at = none.at;
      block = none.block;
      is = sym (read_are c.in-Some.newest.now records c.args.log.now c.in-Some.ensures is none.at) ∙ none.is;
      none = none.none;
    }))
    (c.in_err-write_homes.ensures.cause (ap Err (passed_on c.in_err-write_homes.field-0.0 Fault c.from_residual.result fault c.from_residual.ensures.1)))

pub returns-in_err-close_first-clause-left : goal.returns-in_err-close_first-clause-left
returns-in_err-close_first-clause-left g c = λ volume floor tree doubt records tells rests is.
    let z = g.R.Rack.state c.close_first.new.rack in
    let some = some_of records c.args.log.now c.requires.some is in
    let homed = c.in_ok-write_homes.ensures.homed volume floor tree records tells rests (read_are c.in-Some.newest.now records c.args.log.now c.in-Some.ensures is) some in
    on_err (IsLeft volume floor tree doubt z) c.from_residual-in_err-close_first.result
    (stands_left volume floor tree doubt records (closes_log (length records)) z refl (λ point at. at)
    (c.in_err-close_first.ensures.stands volume floor (length records) tree records (c.write_homes.ensures.rack.keeps_telling tells) some homed))

pub returns-clause-closes : goal.returns-clause-closes
returns-clause-closes g c = λ volume floor tree records tells rests is.
    let some = some_of records c.args.log.now c.requires.some is in
    let homed = c.in_ok-write_homes.ensures.homed volume floor tree records tells rests (read_are c.in-Some.newest.now records c.args.log.now c.in-Some.ensures is) some in
    c.in_ok-close_first.ensures.closes volume floor (length records) tree records (c.write_homes.ensures.rack.keeps_telling tells) some homed

-- there was nothing to be read
pub returns-in_default-clause-left : goal.returns-in_default-clause-left
returns-in_default-clause-left g c = λ volume floor tree doubt records tells rests is. rests_left volume floor tree doubt records (g.R.Rack.state c.args.rack.now) rests

pub returns-in_default-clause-cause : goal.returns-in_default-clause-cause
returns-in_default-clause-cause g c = λ fault. inr (λ records is. absurd (let h = c.in_default.ensures ∙ is.first_is in cc))

-- the other slots and the replicas are left alone
pub returns-in_default-clause-spares : goal.returns-in_default-clause-spares
returns-in_default-clause-spares g c = λ tells. spares_same (g.R.Rack.state c.args.rack.now) (g.R.Rack.state c.args.rack.now) refl

pub returns-in_err-write_homes-clause-spares : goal.returns-in_err-write_homes-clause-spares
returns-in_err-write_homes-clause-spares g c = λ tells. c.write_homes.ensures.spares tells

pub returns-in_err-close_first-clause-spares : goal.returns-in_err-close_first-clause-spares
returns-in_err-close_first-clause-spares g c = λ tells. spares_then (g.R.Rack.state c.args.rack.now) (g.R.Rack.state c.write_homes.new.rack) (g.R.Rack.state c.close_first.new.rack) (c.write_homes.ensures.spares tells) (c.close_first.ensures.spares (c.write_homes.ensures.rack.keeps_telling tells))

pub returns-clause-spares : goal.returns-clause-spares
returns-clause-spares g c = λ tells. spares_then (g.R.Rack.state c.args.rack.now) (g.R.Rack.state c.write_homes.new.rack) (g.R.Rack.state c.close_first.new.rack) (c.write_homes.ensures.spares tells) (c.close_first.ensures.spares (c.write_homes.ensures.rack.keeps_telling tells))
