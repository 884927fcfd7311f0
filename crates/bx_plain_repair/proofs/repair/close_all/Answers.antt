use Rattle.std.proofs.Common.{◌≡◌, refl, ℕ, arith, List, [], ◌∷◌, length, reverse, ap, ◌∙◌, subst}
use Rattle.std.proofs.lemmas.List.{length-map, length-reverse}
use Rattle.bx_disk.specs.Disks.{Disks}
use Rattle.bx_logs.specs.Bodies.{point_of}
use Rattle.bx_model.specs.declared.tree.Tree.{Tree}
use Rattle.bx_volume.specs.Records.{Logged}
use Rattle.bx_plain_repair.specs.Left.{IsLeft}
use Rattle.bx_plain_repair.specs.Resting.{IsOpenLog, Rests, StandsAs, shuts_log}
use Rattle.bx_plain_repair.specs.declared.reading.OpenLog.{OpenLog}
use Rattle.bx_plain_repair.proofs.Homing.{none_stands}
use Rattle.bx_plain_repair.proofs.Leaving.{stands_left}
use Rattle.bx_plain_repair.proofs.Results.{on_err}
use Rattle.bx_plain_repair.proofs.Sparing.{spares_then}
use Rattle.bx_plain_repair.proofs.repair.close_all.Goals as goal

nil_of : (records : List Logged) → length records ≡ 0 → records ≡ []
nil_of [] is = refl
nil_of (r ∷ records) is = absurd (omega (arith, is))

-- without points there are no records
none_read : (records : List Logged) (log : OpenLog) → length log.points ≡ 0 → IsOpenLog records log → records ≡ []
none_read records log none is = nil_of records (let long = ap length is.points ∙ length-map (reverse records) point_of ∙ length-reverse records in omega (arith, long, none))

empty_stands : (volume floor : ℕ) (tree : Tree) (disks : Disks) (records : List Logged) → records ≡ [] → Rests volume floor tree records disks → StandsAs volume floor tree [] shuts_log disks
empty_stands volume floor tree disks records none rests = none_stands volume floor tree disks (subst (λ (l : List Logged). Rests volume floor tree l disks) none rests)

pub returns-in_err-close_others-clause-left : goal.returns-in_err-close_others-clause-left
returns-in_err-close_others-clause-left g c = λ volume floor tree doubt records tells rests is.
    let x = g.R.Rack.state c.args.rack.now in
    let z = g.R.Rack.state c.close_others.new.rack in
    on_err (IsLeft volume floor tree doubt z) c.from_residual.result
    (stands_left volume floor tree doubt [] shuts_log z refl (λ point at. at)
    (c.in_err-close_others.ensures.stands volume floor tree tells (empty_stands volume floor tree x records (none_read records c.args.log.now (omega arith) is) rests)))

pub returns-then-len-eq0-clause-closes : goal.returns-then-len-eq0-clause-closes
returns-then-len-eq0-clause-closes g c = λ volume floor tree records tells rests is.
    c.in_ok-close_others.ensures.closes volume floor tree tells
    (empty_stands volume floor tree (g.R.Rack.state c.args.rack.now) records (none_read records c.args.log.now (omega arith) is) rests)

pub returns-in_err-close_open-clause-left : goal.returns-in_err-close_open-clause-left
returns-in_err-close_open-clause-left g c = λ volume floor tree doubt records tells rests is.
    let z = g.R.Rack.state c.close_open.new.rack in
    on_err (IsLeft volume floor tree doubt z) c.from_residual-in_err-close_open.result (c.in_err-close_open.ensures.left volume floor tree doubt records tells rests is)

pub returns-in_err-close_others-2-clause-left : goal.returns-in_err-close_others-2-clause-left
returns-in_err-close_others-2-clause-left g c = λ volume floor tree doubt records tells rests is.
    let z = g.R.Rack.state c.close_others-2.new.rack in
    on_err (IsLeft volume floor tree doubt z) c.from_residual-in_err-close_others-2.result
    (stands_left volume floor tree doubt [] shuts_log z refl (λ point at. at)
    (c.in_err-close_others-2.ensures.stands volume floor tree (c.close_open.ensures.rack.keeps_telling tells) (c.in_ok-close_open.ensures.closes volume floor tree records tells rests is)))

pub returns-clause-closes : goal.returns-clause-closes
returns-clause-closes g c = λ volume floor tree records tells rests is.
    c.in_ok-close_others-2.ensures.closes volume floor tree (c.close_open.ensures.rack.keeps_telling tells) (c.in_ok-close_open.ensures.closes volume floor tree records tells rests is)

-- the other slots and the replicas are left alone
pub returns-in_err-close_others-clause-spares : goal.returns-in_err-close_others-clause-spares
returns-in_err-close_others-clause-spares g c = λ tells. c.close_others.ensures.spares tells

pub returns-then-len-eq0-clause-spares : goal.returns-then-len-eq0-clause-spares
returns-then-len-eq0-clause-spares g c = λ tells. c.close_others.ensures.spares tells

pub returns-in_err-close_open-clause-spares : goal.returns-in_err-close_open-clause-spares
returns-in_err-close_open-clause-spares g c = λ tells. c.close_open.ensures.spares tells

pub returns-in_err-close_others-2-clause-spares : goal.returns-in_err-close_others-2-clause-spares
returns-in_err-close_others-2-clause-spares g c = λ tells. spares_then (g.R.Rack.state c.args.rack.now) (g.R.Rack.state c.close_open.new.rack) (g.R.Rack.state c.close_others-2.new.rack) (c.close_open.ensures.spares tells) (c.close_others-2.ensures.spares (c.close_open.ensures.rack.keeps_telling tells))

pub returns-clause-spares : goal.returns-clause-spares
returns-clause-spares g c = λ tells. spares_then (g.R.Rack.state c.args.rack.now) (g.R.Rack.state c.close_open.new.rack) (g.R.Rack.state c.close_others-2.new.rack) (c.close_open.ensures.spares tells) (c.close_others-2.ensures.spares (c.close_open.ensures.rack.keeps_telling tells))
