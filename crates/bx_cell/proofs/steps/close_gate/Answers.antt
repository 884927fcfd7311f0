use Rattle.std.proofs.Common.{ap, sym, ◌∙◌, arith}
use Rattle.bx_disk.specs.Disks.{Disks}
use Rattle.bx_cell.specs.Halves.{is_open}
use Rattle.bx_cell.proofs.Gates.{gate_read, closed_text}
use Rattle.bx_cell.proofs.Leaves.{closed_still, gate_first, gate_beside, gate_leaves, gate_either}
use Rattle.bx_cell.proofs.steps.close_gate.Goals as goal

pub returns-then-not-reads_open-clause-closed : goal.returns-then-not-reads_open-clause-closed
returns-then-not-reads_open-clause-closed g c = λ tells.
    ap (λ (x : Disks). is_open (x.reads c.args.disk c.args.sector)) c.read_sectors.ensures.stays
    ∙ ap is_open (gate_read _ c.args.disk c.args.sector c.read_sectors.new.into (omega arith) (c.in_ok-read_sectors.ensures.bytes tells))
    ∙ sym c.reads_open.ensures ∙ c.if-not-reads_open.true

pub returns-in_err-write_through-clause-any_moment : goal.returns-in_err-write_through-clause-any_moment
returns-in_err-write_through-clause-any_moment g c = λ tells synced.
    gate_leaves _ _ _ _ _ _ _ _ c.args.disk c.args.sector _ (omega arith)
    (ap is_open (gate_read _ c.args.disk c.args.sector c.read_sectors.new.into (omega arith) (c.in_ok-read_sectors.ensures.bytes tells)) ∙ sym c.reads_open.ensures ∙ c.if-not-reads_open.false)
    c.read_sectors.ensures.stays (c.read_sectors.ensures.any_moment tells) (c.write_through.ensures.any_moment (c.read_sectors.ensures.rack.keeps_telling tells))

pub returns-in_err-write_through-clause-either : goal.returns-in_err-write_through-clause-either
returns-in_err-write_through-clause-either g c = λ tells synced.
    gate_either _ _ _ c.args.disk c.args.sector _ (omega arith)
    (ap is_open (gate_read _ c.args.disk c.args.sector c.read_sectors.new.into (omega arith) (c.in_ok-read_sectors.ensures.bytes tells)) ∙ sym c.reads_open.ensures ∙ c.if-not-reads_open.false)
    c.read_sectors.ensures.stays (c.write_through.ensures.keeps (c.read_sectors.ensures.rack.keeps_telling tells))

pub returns-clause-closed : goal.returns-clause-closed
returns-clause-closed g c = λ tells.
    ap is_open (gate_read _ c.args.disk c.args.sector c.write.new.into (omega arith) (c.in_ok-write_through.ensures.written (c.read_sectors.ensures.rack.keeps_telling tells)))
    ∙ ap is_open c.write.ensures ∙ closed_text

pub returns-clause-any_moment : goal.returns-clause-any_moment
returns-clause-any_moment g c = λ tells synced.
    gate_leaves _ _ _ _ _ _ _ _ c.args.disk c.args.sector _ (omega arith)
    (ap is_open (gate_read _ c.args.disk c.args.sector c.read_sectors.new.into (omega arith) (c.in_ok-read_sectors.ensures.bytes tells)) ∙ sym c.reads_open.ensures ∙ c.if-not-reads_open.false)
    c.read_sectors.ensures.stays (c.read_sectors.ensures.any_moment tells) (c.write_through.ensures.any_moment (c.read_sectors.ensures.rack.keeps_telling tells))

pub returns-clause-either : goal.returns-clause-either
returns-clause-either g c = λ tells synced.
    gate_either _ _ _ c.args.disk c.args.sector _ (omega arith)
    (ap is_open (gate_read _ c.args.disk c.args.sector c.read_sectors.new.into (omega arith) (c.in_ok-read_sectors.ensures.bytes tells)) ∙ sym c.reads_open.ensures ∙ c.if-not-reads_open.false)
    c.read_sectors.ensures.stays (c.write_through.ensures.keeps (c.read_sectors.ensures.rack.keeps_telling tells))

pub returns-in_err-read_sectors-clause-any_moment : goal.returns-in_err-read_sectors-clause-any_moment
returns-in_err-read_sectors-clause-any_moment g c = λ tells synced. closed_still _ c.args.disk c.args.sector _ _ _ _ synced (c.read_sectors.ensures.any_moment tells)

pub returns-in_err-read_sectors-clause-beside : goal.returns-in_err-read_sectors-clause-beside
returns-in_err-read_sectors-clause-beside g c = λ tells. gate_first _ c.args.disk c.args.sector _ _ _ _ (c.read_sectors.ensures.any_moment tells)

pub returns-then-not-reads_open-clause-any_moment : goal.returns-then-not-reads_open-clause-any_moment
returns-then-not-reads_open-clause-any_moment g c = λ tells synced. closed_still _ c.args.disk c.args.sector _ _ _ _ synced (c.read_sectors.ensures.any_moment tells)

pub returns-then-not-reads_open-clause-beside : goal.returns-then-not-reads_open-clause-beside
returns-then-not-reads_open-clause-beside g c = λ tells. gate_first _ c.args.disk c.args.sector _ _ _ _ (c.read_sectors.ensures.any_moment tells)

pub returns-in_err-write_through-clause-beside : goal.returns-in_err-write_through-clause-beside
returns-in_err-write_through-clause-beside g c = λ tells.
    gate_beside _ _ _ _ _ _ _ _ c.args.disk c.args.sector _ (omega arith) c.read_sectors.ensures.stays (c.read_sectors.ensures.any_moment tells) (c.write_through.ensures.any_moment (c.read_sectors.ensures.rack.keeps_telling tells))

pub returns-clause-beside : goal.returns-clause-beside
returns-clause-beside g c = λ tells.
    gate_beside _ _ _ _ _ _ _ _ c.args.disk c.args.sector _ (omega arith) c.read_sectors.ensures.stays (c.read_sectors.ensures.any_moment tells) (c.write_through.ensures.any_moment (c.read_sectors.ensures.rack.keeps_telling tells))
