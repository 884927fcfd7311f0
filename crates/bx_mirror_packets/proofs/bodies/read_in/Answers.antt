use Rattle.std.proofs.Common.{◌≡◌, ℕ, Some, arith, subst, sym}
use Rattle.std.proofs.lemmas.Result.{err_from_is_err_and}
use Rattle.bx_mirror_packets.specs.Reading.{extent_at}
use Rattle.bx_mirror_packets.proofs.Fields.{extent_field, head_field}
use Rattle.bx_mirror_packets.proofs.Parted.{read_front, read_read, read_second}
use Rattle.bx_mirror_packets.proofs.Whole.{has_second, no_front, no_second}
use Rattle.bx_mirror_packets.proofs.bodies.read_in.Goals as goal

pub returns-in_err-head : goal.returns-in_err-head
returns-in_err-head c =
    let p = err_from_is_err_and c.from_residual.result c.from_residual.ensures.1 in
    rw (p.1, p.2) (no_front head_field read_front c.in_err-head.field-0.0 c.args.bytes.now c.in_err-head.ensures)

pub returns-in_err-extent_of : goal.returns-in_err-extent_of
returns-in_err-extent_of c =
    let p = err_from_is_err_and c.from_residual-in_err-extent_of.result c.from_residual-in_err-extent_of.ensures.1 in
    rw (p.1, p.2) (no_second head_field read_front (λ head. extent_field) read_second c.in_err-extent_of.field-0.0 c.args.bytes.now c.in_ok-head.rest.now c.in_ok-head.head c.in_ok-head.ensures c.in_err-extent_of.ensures)

pub returns-in_err-place : goal.returns-in_err-place
returns-in_err-place c =
    let p = err_from_is_err_and c.from_residual-in_err-place.result c.from_residual-in_err-place.ensures.1 in
    let read = c.in_ok-extent_of.field-0 in
    rw (p.1, p.2, c.in_err-place.ensures.0) (λ x is. c.in_err-place.ensures.1
    (has_second head_field read_front (λ head. extent_field) read_second c.args.bytes.now c.in_ok-head.rest.now read.1.now c.in_ok-head.head read.0 x c.in_ok-head.ensures c.in_ok-extent_of.ensures is).1)

pub returns : goal.returns
returns c =
    let read = c.in_ok-extent_of.field-0 in
    let extent = subst (λ (x : ℕ × ℕ). extent_at c.in_ok-head.rest.now ≡ Some (x, read.1.now)) (sym c.in_ok-place.ensures.0) c.in_ok-extent_of.ensures in
    read_read c.args.bytes.now c.in_ok-head.rest.now read.1.now c.in_ok-head.head (c.in_ok-place.place, c.in_ok-place.sectors) (λ i. omega (arith, c.type_inv.bytes i)) c.in_ok-head.ensures extent c.in_ok-place.ensures.1
