use Rattle.std.proofs.Common.{◌≡◌, ℕ, ◌≤◌, List, length, subst, sym, ◌∙◌, arith, refl}
use Rattle.std.proofs.lemmas.Result.{IfOk-from_err}
use Rattle.bx_calls.specs.Calls.{LeavesOnly}
use Rattle.bx_cell.specs.Cells.{HasEither, Holds, next}
use Rattle.bx_cell.specs.Images.{EachSure}
use Rattle.bx_global.specs.Bytes.{held_text}
use Rattle.bx_global.proofs.Lengths.{length-held}
use Rattle.bx_acceptor.proofs.Kept.{at_one, each_image, either_stays, moment_stays, writes_cell, writes_nothing}
use Rattle.bx_acceptor.proofs.saving.save.Goals as goal

pub put-requires-clause-short : goal.put-requires-clause-short
put-requires-clause-short g c =
    let most = length-held c.args.held.now c.requires.held.0 c.requires.held.1 in
    let same : c.bytes-2.result.now ≡ held_text c.args.held.now = c.bytes-2.ensures ∙ c.in_ok-bytes.ensures in
    subst (λ (x : List ℕ). length x ≤ 4096) (sym same) (omega (arith, most))

pub returns-then-not-changed-clause-any_moment : goal.returns-then-not-changed-clause-any_moment
returns-then-not-changed-clause-any_moment g c =
    λ tells each. moment_stays (g.R.Rack.state c.args.rack.now) c.args.cell.now.disk c.args.cell.now (held_text c.args.held.now) (g.R.Rack.moment c.args.rack.now) (g.R.Rack.left_since c.args.rack.now) refl c.requires.base (λ image left. g.met.R.Rack.only_now c.args.rack.now image tells left) each

pub returns-then-not-changed-clause-either : goal.returns-then-not-changed-clause-either
returns-then-not-changed-clause-either g c =
    λ tells each. either_stays (g.R.Rack.state c.args.rack.now) c.args.cell.now.disk c.args.cell.now (held_text c.args.held.now) refl c.requires.base each

pub returns-then-not-changed-clause-disks : goal.returns-then-not-changed-clause-disks
returns-then-not-changed-clause-disks g c =
    λ tells. writes_nothing (g.R.Rack.state c.args.rack.now) (g.R.Rack.moment c.args.rack.now) (g.R.Rack.left_since c.args.rack.now) c.args.cell.now.disk (λ image left. g.met.R.Rack.only_now c.args.rack.now image tells left)

pub returns-in_err-bytes-clause-saved : goal.returns-in_err-bytes-clause-saved
returns-in_err-bytes-clause-saved g c =
    IfOk-from_err c.from_residual.result _ c.from_residual.ensures.0

pub returns-in_err-bytes-clause-holds : goal.returns-in_err-bytes-clause-holds
returns-in_err-bytes-clause-holds g c =
    λ tells each. IfOk-from_err c.from_residual.result _ c.from_residual.ensures.0

pub returns-in_err-bytes-clause-any_moment : goal.returns-in_err-bytes-clause-any_moment
returns-in_err-bytes-clause-any_moment g c =
    λ tells each. moment_stays (g.R.Rack.state c.args.rack.now) c.args.cell.now.disk c.args.cell.now (held_text c.args.held.now) (g.R.Rack.moment c.args.rack.now) (g.R.Rack.left_since c.args.rack.now) refl c.requires.base (λ image left. g.met.R.Rack.only_now c.args.rack.now image tells left) each

pub returns-in_err-bytes-clause-either : goal.returns-in_err-bytes-clause-either
returns-in_err-bytes-clause-either g c =
    λ tells each. either_stays (g.R.Rack.state c.args.rack.now) c.args.cell.now.disk c.args.cell.now (held_text c.args.held.now) refl c.requires.base each

pub returns-in_err-bytes-clause-disks : goal.returns-in_err-bytes-clause-disks
returns-in_err-bytes-clause-disks g c =
    λ tells. writes_nothing (g.R.Rack.state c.args.rack.now) (g.R.Rack.moment c.args.rack.now) (g.R.Rack.left_since c.args.rack.now) c.args.cell.now.disk (λ image left. g.met.R.Rack.only_now c.args.rack.now image tells left)

pub returns-in-Ok-clause-holds : goal.returns-in-Ok-clause-holds
returns-in-Ok-clause-holds g c =
    λ tells each. c.in-Ok.ensures.holds tells (each_image (g.R.Rack.state c.args.rack.now) (Holds c.args.cell.now) each)

pub returns-in-Ok-clause-any_moment : goal.returns-in-Ok-clause-any_moment
returns-in-Ok-clause-any_moment g c =
    λ tells each. at_one (λ base value. LeavesOnly (g.R.Rack.moment c.args.rack.now) (g.R.Rack.moment c.put.new.rack) (g.R.Rack.left_since c.args.rack.now) (g.R.Rack.left_since c.put.new.rack) (HasEither (g.R.Rack.state c.args.rack.now) c.args.cell.now.disk base c.args.cell.now.found (next c.args.cell.now.found value))) c.args.cell.now.base c.bytes-2.result.now (held_text c.args.held.now) c.requires.base (c.bytes-2.ensures ∙ c.in_ok-bytes.ensures) (c.in-Ok.ensures.any_moment tells (each_image (g.R.Rack.state c.args.rack.now) (Holds c.args.cell.now) each))

pub returns-in-Ok-clause-either : goal.returns-in-Ok-clause-either
returns-in-Ok-clause-either g c =
    λ tells each. at_one (λ base value. EachSure (g.R.Rack.state c.put.new.rack) (HasEither (g.R.Rack.state c.args.rack.now) c.args.cell.now.disk base c.args.cell.now.found (next c.args.cell.now.found value))) c.args.cell.now.base c.bytes-2.result.now (held_text c.args.held.now) c.requires.base (c.bytes-2.ensures ∙ c.in_ok-bytes.ensures) (c.in-Ok.ensures.either tells each)

pub returns-in-Ok-clause-disks : goal.returns-in-Ok-clause-disks
returns-in-Ok-clause-disks g c =
    λ tells. writes_cell (g.R.Rack.state c.args.rack.now) (g.R.Rack.state c.put.new.rack) (g.R.Rack.moment c.args.rack.now) (g.R.Rack.moment c.put.new.rack) (g.R.Rack.left_since c.args.rack.now) (g.R.Rack.left_since c.put.new.rack) c.args.cell.now.disk c.args.cell.now.base c.requires.base (c.in-Ok.ensures.keeps tells) (c.in-Ok.ensures.beside tells)

pub returns-in-Err-OutOfMemory-clause-any_moment : goal.returns-in-Err-OutOfMemory-clause-any_moment
returns-in-Err-OutOfMemory-clause-any_moment g c =
    λ tells each. at_one (λ base value. LeavesOnly (g.R.Rack.moment c.args.rack.now) (g.R.Rack.moment c.put.new.rack) (g.R.Rack.left_since c.args.rack.now) (g.R.Rack.left_since c.put.new.rack) (HasEither (g.R.Rack.state c.args.rack.now) c.args.cell.now.disk base c.args.cell.now.found (next c.args.cell.now.found value))) c.args.cell.now.base c.bytes-2.result.now (held_text c.args.held.now) c.requires.base (c.bytes-2.ensures ∙ c.in_ok-bytes.ensures) (c.in-Err-OutOfMemory.ensures.any_moment tells (each_image (g.R.Rack.state c.args.rack.now) (Holds c.args.cell.now) each))

pub returns-in-Err-OutOfMemory-clause-either : goal.returns-in-Err-OutOfMemory-clause-either
returns-in-Err-OutOfMemory-clause-either g c =
    λ tells each. at_one (λ base value. EachSure (g.R.Rack.state c.put.new.rack) (HasEither (g.R.Rack.state c.args.rack.now) c.args.cell.now.disk base c.args.cell.now.found (next c.args.cell.now.found value))) c.args.cell.now.base c.bytes-2.result.now (held_text c.args.held.now) c.requires.base (c.bytes-2.ensures ∙ c.in_ok-bytes.ensures) (c.in-Err-OutOfMemory.ensures.either tells each)

pub returns-in-Err-OutOfMemory-clause-disks : goal.returns-in-Err-OutOfMemory-clause-disks
returns-in-Err-OutOfMemory-clause-disks g c =
    λ tells. writes_cell (g.R.Rack.state c.args.rack.now) (g.R.Rack.state c.put.new.rack) (g.R.Rack.moment c.args.rack.now) (g.R.Rack.moment c.put.new.rack) (g.R.Rack.left_since c.args.rack.now) (g.R.Rack.left_since c.put.new.rack) c.args.cell.now.disk c.args.cell.now.base c.requires.base (c.in-Err-OutOfMemory.ensures.keeps tells) (c.in-Err-OutOfMemory.ensures.beside tells)
