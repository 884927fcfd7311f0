use Rattle.std.proofs.Common.{refl, subst, length}
use Rattle.bx_global.specs.Opening.{opening_state}
use Rattle.bx_redo.specs.View.{LogView}
use Rattle.bx_plain_repair.specs.Resting.{Rests, StandsAs}
use Rattle.bx_plain_repair.proofs.HomesOf.{behind_label, homes_fit, homes_once, its_homes}
use Rattle.bx_plain_repair.proofs.Homing.{closes_with, homes_stand, rests_still}
use Rattle.bx_plain_repair.proofs.Labels.{labelled_kept}
use Rattle.bx_plain_repair.proofs.Results.{on_err}
use Rattle.bx_plain_repair.proofs.Sparing.{homes_beside, spares_same, written_spares}
use Rattle.bx_plain_repair.proofs.homes.write_homes.Goals as goal

pub write_through-requires-clause-fit : goal.write_through-requires-clause-fit
write_through-requires-clause-fit g c =
    let are = rw c.in-Some.is at c.in_ok-runs.ensures.some in
    homes_fit c.args.newest.now c.in-Some.runs (g.R.Rack.state c.args.rack.now).sizes c.requires.long are

pub write_through-requires-clause-once : goal.write_through-requires-clause-once
write_through-requires-clause-once g c =
    let are = rw c.in-Some.is at c.in_ok-runs.ensures.some in
    homes_once c.args.newest.now c.in-Some.runs are

pub returns-in_err-write_through-clause-rests : goal.returns-in_err-write_through-clause-rests
returns-in_err-write_through-clause-rests g c = λ volume floor tree records tells rests newest.
    let x = g.R.Rack.state c.args.rack.now in
    let z = g.R.Rack.state c.write_through.new.rack in
    let runs = c.in-Some.runs in
    let are = rw c.in-Some.is at c.in_ok-runs.ensures.some in
    on_err (Rests volume floor tree records z) c.from_residual-in_err-write_through.result
    (rests_still x z runs (λ d s content only was. c.write_through.ensures.keeps (opening_state 1 1) d s content tells only was) volume floor tree records rests
    (its_homes c.args.newest.now records runs are newest)
    (labelled_kept x z volume runs rests.labelled c.write_through.ensures.rack.sizes (c.write_through.ensures.members tells) (behind_label c.args.newest.now runs are)))

pub returns-clause-homed : goal.returns-clause-homed
returns-clause-homed g c = λ volume floor tree records tells rests newest some.
    let x = g.R.Rack.state c.args.rack.now in
    let z = g.R.Rack.state c.write_through.new.rack in
    let runs = c.in-Some.runs in
    let are = rw c.in-Some.is at c.in_ok-runs.ensures.some in
    subst (λ (log : LogView). StandsAs volume floor tree records log z) (closes_with (length records) some)
    (homes_stand x z runs (λ d s content only was. c.write_through.ensures.keeps (opening_state 1 1) d s content tells only was) volume floor tree records rests
    (its_homes c.args.newest.now records runs are newest)
    (labelled_kept x z volume runs rests.labelled c.write_through.ensures.rack.sizes (c.write_through.ensures.members tells) (behind_label c.args.newest.now runs are))
    (c.in_ok-write_through.ensures.done (opening_state 1 1) tells refl))

-- the other slots and the replicas are left alone
pub returns-in_err-runs-clause-spares : goal.returns-in_err-runs-clause-spares
returns-in_err-runs-clause-spares g c = λ tells. spares_same (g.R.Rack.state c.args.rack.now) (g.R.Rack.state c.args.rack.now) refl

pub returns-in_default-clause-spares : goal.returns-in_default-clause-spares
returns-in_default-clause-spares g c = λ tells. spares_same (g.R.Rack.state c.args.rack.now) (g.R.Rack.state c.args.rack.now) refl

pub returns-in_err-write_through-clause-spares : goal.returns-in_err-write_through-clause-spares
returns-in_err-write_through-clause-spares g c = λ tells.
    let are = rw c.in-Some.is at c.in_ok-runs.ensures.some in
    written_spares (g.R.Rack.state c.args.rack.now) (g.R.Rack.state c.write_through.new.rack) c.in-Some.runs (c.write_through.ensures.members tells) (homes_beside c.args.newest.now c.in-Some.runs are)

pub returns-clause-spares : goal.returns-clause-spares
returns-clause-spares g c = λ tells.
    let are = rw c.in-Some.is at c.in_ok-runs.ensures.some in
    written_spares (g.R.Rack.state c.args.rack.now) (g.R.Rack.state c.write_through.new.rack) c.in-Some.runs (c.write_through.ensures.members tells) (homes_beside c.args.newest.now c.in-Some.runs are)
