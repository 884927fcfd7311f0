use Rattle.std.proofs.Common.{◌≡◌, ℕ, Some, arith, subst, sym}
use Rattle.std.proofs.lemmas.Result.{err_from_is_err_and}
use Rattle.bx_records.specs.declared.runs.Runs.{Runs}
use Rattle.bx_mirror_packets.specs.Reading.{writing_at}
use Rattle.bx_mirror_packets.proofs.Fields.{head_field, writing_field}
use Rattle.bx_mirror_packets.proofs.Parted.{write_front, write_read, write_second}
use Rattle.bx_mirror_packets.proofs.Whole.{has_second, no_front, no_second}
use Rattle.bx_mirror_packets.proofs.bodies.write_in.Goals as goal

pub returns-in_err-head : goal.returns-in_err-head
returns-in_err-head c =
    let p = err_from_is_err_and c.from_residual.result c.from_residual.ensures.1 in
    rw (p.1, p.2) (no_front head_field (write_front c.args.kind) c.in_err-head.field-0.0 c.args.bytes.now c.in_err-head.ensures)

pub returns-in_err-writing_of : goal.returns-in_err-writing_of
returns-in_err-writing_of c =
    let p = err_from_is_err_and c.from_residual-in_err-writing_of.result c.from_residual-in_err-writing_of.ensures.1 in
    rw (p.1, p.2) (no_second head_field (write_front c.args.kind) (λ head. writing_field head.device) (write_second c.args.kind) c.in_err-writing_of.field-0.0 c.args.bytes.now c.in_ok-head.rest.now c.in_ok-head.head c.in_ok-head.ensures c.in_err-writing_of.ensures.value)

pub returns-in_err-until : goal.returns-in_err-until
returns-in_err-until c =
    let p = err_from_is_err_and c.from_residual-in_err-until.result c.from_residual-in_err-until.ensures.1 in
    let read = c.in_ok-writing_of.field-0 in
    rw (p.1, p.2, c.in_err-until.ensures.0) (λ x is. c.in_err-until.ensures.1
    (has_second head_field (write_front c.args.kind) (λ head. writing_field head.device) (write_second c.args.kind) c.args.bytes.now c.in_ok-head.rest.now read.1.now c.in_ok-head.head
    (read.0.0, read.0.1.1) x c.in_ok-head.ensures c.in_ok-writing_of.ensures.value is).1)

pub returns : goal.returns
returns c =
    let read = c.in_ok-writing_of.field-0 in
    let value = subst (λ (x : ℕ × Runs). writing_at c.in_ok-head.head.device c.in_ok-head.rest.now ≡ Some ((x.0, x.1.1), read.1.now)) (sym c.in_ok-until.ensures.0) c.in_ok-writing_of.ensures.value in
    let kind = subst (λ (x : ℕ × Runs). x.1.0 ≡ c.args.kind) (sym c.in_ok-until.ensures.0) c.in_ok-writing_of.ensures.kind in
    write_read c.args.kind c.args.bytes.now c.in_ok-head.rest.now read.1.now c.in_ok-head.head c.in_ok-until.until c.in_ok-until.runs c.requires.least c.requires.most
    (λ i. omega (arith, c.type_inv.bytes i)) c.in_ok-head.ensures value kind c.in_ok-until.ensures.1
