use Rattle.std.proofs.Common.{true, List, Contains, arith, refl, subst}
use Rattle.bx_facts.specs.Writes.{WritesIn}
use Rattle.bx_global.specs.Opening.{opening_state}
use Rattle.bx_plain_repair.specs.Resting.{StandsAs, closes_log}
use Rattle.bx_plain_repair.proofs.Fits.{closes_fits, run_fits}
use Rattle.bx_plain_repair.proofs.Labels.{labelled_kept}
use Rattle.bx_plain_repair.proofs.Results.{on_err}
use Rattle.bx_plain_repair.proofs.Shutting.{first_closed, is_done, is_out, log_stays, not_idle_closes}
use Rattle.bx_records.specs.declared.runs.Run.{Run}
use Rattle.bx_plain_repair.proofs.Sparing.{one_beside, spares_same, written_spares}
use Rattle.bx_redo.proofs.Asked.{as_many}
use Rattle.bx_redo.specs.Stands.{bytes_of}
use Rattle.bx_redo.specs.declared.work.Work.TheVariants.{Closes}
use Rattle.bx_plain_repair.proofs.closing.close_first.Goals as goal

pub write_through-requires-clause-fit : goal.write_through-requires-clause-fit
write_through-requires-clause-fit g c = λ run there. run_fits (g.R.Rack.state c.args.rack.now).sizes run c.requires.long
    (closes_fits.each run (subst (λ (runs : List Run). Contains runs run) c.in_ok-runs.ensures there))

pub write_through-requires-clause-once : goal.write_through-requires-clause-once
write_through-requires-clause-once g c = λ device sector content other one two.
    closes_fits.once device sector content other
    (subst (λ (runs : List Run). WritesIn runs device sector content) c.in_ok-runs.ensures one)
    (subst (λ (runs : List Run). WritesIn runs device sector other) c.in_ok-runs.ensures two)

pub returns-in_err-write_through-clause-stands : goal.returns-in_err-write_through-clause-stands
returns-in_err-write_through-clause-stands g c = λ volume floor count tree records tells some st.
    let x = g.R.Rack.state c.args.rack.now in
    let z = g.R.Rack.state c.write_through.new.rack in
    let runs = c.in_ok-runs.runs in
    on_err (StandsAs volume floor tree records (closes_log count) z) c.from_residual-in_err-write_through.result
    (log_stays x z volume floor tree
    (labelled_kept x z volume runs st.labelled c.write_through.ensures.rack.sizes (c.write_through.ensures.members tells)
    (λ run there. (closes_fits.each run (subst (λ (all : List Run). Contains all run) c.in_ok-runs.ensures there)).behind_label))
    records (closes_log count)
    (is_out x z (closes_log count) runs not_idle_closes c.in_ok-runs.ensures (λ d s content only was. c.write_through.ensures.keeps (opening_state 1 1) d s content tells only was)) st)

pub returns-clause-closes : goal.returns-clause-closes
returns-clause-closes g c = λ volume floor count tree records tells some st.
    let x = g.R.Rack.state c.args.rack.now in
    let z = g.R.Rack.state c.write_through.new.rack in
    let runs = c.in_ok-runs.runs in
    first_closed x z volume floor tree
    (labelled_kept x z volume runs st.labelled c.write_through.ensures.rack.sizes (c.write_through.ensures.members tells)
    (λ run there. (closes_fits.each run (subst (λ (all : List Run). Contains all run) c.in_ok-runs.ensures there)).behind_label))
    count records st
    (is_done x z (record (closes_log count) { out = true }) runs not_idle_closes c.in_ok-runs.ensures (λ d s content only was. c.write_through.ensures.keeps (opening_state 1 1) d s content tells only was)
    st.before (c.in_ok-write_through.ensures.done (opening_state 1 1) tells refl))

-- the other slots and the replicas are left alone
pub returns-in_err-runs-clause-spares : goal.returns-in_err-runs-clause-spares
returns-in_err-runs-clause-spares g c = λ tells. spares_same (g.R.Rack.state c.args.rack.now) (g.R.Rack.state c.args.rack.now) refl

pub returns-in_err-write_through-clause-spares : goal.returns-in_err-write_through-clause-spares
returns-in_err-write_through-clause-spares g c = λ tells. written_spares (g.R.Rack.state c.args.rack.now) (g.R.Rack.state c.write_through.new.rack) c.in_ok-runs.runs (c.write_through.ensures.members tells)
    (one_beside 1 (bytes_of Closes) c.in_ok-runs.runs c.in_ok-runs.ensures (let many = as_many Closes in omega (arith, many)))

pub returns-clause-spares : goal.returns-clause-spares
returns-clause-spares g c = λ tells. written_spares (g.R.Rack.state c.args.rack.now) (g.R.Rack.state c.write_through.new.rack) c.in_ok-runs.runs (c.write_through.ensures.members tells)
    (one_beside 1 (bytes_of Closes) c.in_ok-runs.runs c.in_ok-runs.ensures (let many = as_many Closes in omega (arith, many)))
