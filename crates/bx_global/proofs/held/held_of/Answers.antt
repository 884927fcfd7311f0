use Rattle.std.proofs.Common.{◌≡◌, ℕ, ◌∷◌, true, eqb, List, [], length, refl, sym, ap, ◌∙◌, eq-eqb, arith}
use Rattle.std.proofs.lemmas.Bool.{both_ways, eqb-true}
use Rattle.std.proofs.lemmas.Result.{err_from_is_err_and}
use Rattle.bx_global.specs.declared.state.GlobalState.{GlobalState}
use Rattle.bx_global.proofs.HeldText.{accepted_same, decided_same, held_read, no_marks, none_accepted, none_decided}
use Rattle.bx_global.proofs.held.held_of.Goals as goal
use Rattle.bx_global.proofs.held.held_of.Goals.{then-not-is_empty-via-then-not-is_empty, then-not-is_empty-via-else-not-is_empty+then-not-has_devices, then-not-is_empty-via-else-not-is_empty+else-not-has_devices+then-not-has_devices-2}

abbrev devices_of : GlobalState → ℕ
devices_of s = length s.devices

empty_is : (xs : List ℕ) → eqb (length xs) 0 ≡ true → xs ≡ []
empty_is [] e = refl
empty_is (x ∷ xs) e = absurd (omega (arith, eqb-true (length (x ∷ xs)) 0 e))

pub returns-in_err-marks : goal.returns-in_err-marks
returns-in_err-marks c =
    let p = err_from_is_err_and c.from_residual.result c.from_residual.ensures.1 in
    rw (p.1, p.2) (no_marks c.in_err-marks.field-0.0 c.args.devices c.args.bytes.now c.in_err-marks.ensures)

pub returns-in_err-accepted : goal.returns-in_err-accepted
returns-in_err-accepted c =
    let p = err_from_is_err_and c.from_residual-in_err-accepted.result c.from_residual-in_err-accepted.ensures.1 in
    rw (p.1, p.2) (none_accepted c.in_err-accepted.field-0.0 c.args.devices c.args.bytes.now c.in_ok-marks.rest.now c.in_ok-marks.marks c.in_ok-marks.ensures c.in_err-accepted.ensures)

pub returns-in_err-decided : goal.returns-in_err-decided
returns-in_err-decided c =
    let p = err_from_is_err_and c.from_residual-in_err-decided.result c.from_residual-in_err-decided.ensures.1 in
    rw (p.1, p.2) (none_decided c.in_err-decided.field-0.0 c.args.devices c.args.bytes.now c.in_ok-marks.rest.now c.in_ok-accepted.rest.now c.in_ok-marks.marks c.in_ok-accepted.accepted c.in_ok-marks.ensures c.in_ok-accepted.ensures c.in_err-decided.ensures)

pub returns-then-not-is_empty : goal.returns-then-not-is_empty
returns-then-not-is_empty c = λ h s.
    let devices = c.args.devices in
    let bytes = c.args.bytes.now in
    let rest = c.in_ok-marks.rest.now in
    let after = c.in_ok-accepted.rest.now in
    let last = c.in_ok-decided.rest.now in
    let a = c.in_ok-accepted.accepted in
    let d = c.in_ok-decided.decided in
    let first = accepted_same devices bytes rest after c.in_ok-marks.marks a h s c.in_ok-marks.ensures c.in_ok-accepted.ensures in
    let second = decided_same devices bytes rest after last c.in_ok-marks.marks a d h s c.in_ok-marks.ensures c.in_ok-accepted.ensures c.in_ok-decided.ensures in
    elim c.then-not-is_empty.branch [
      | then-not-is_empty-via-then-not-is_empty w ↦ both_ways _ (sym c.is_empty.ensures ∙ w.if-not-is_empty.true) (eq-eqb (length last) 0 (ap length second.1))
      | then-not-is_empty-via-else-not-is_empty+then-not-has_devices w ↦ both_ways _ w.if-not-has_devices.true (w.has_devices.ensures.1 (ap devices_of first.0 ∙ s.is.accepted_devices))
      | then-not-is_empty-via-else-not-is_empty+else-not-has_devices+then-not-has_devices-2 w ↦ both_ways _ w.if-not-has_devices-2.true (w.has_devices-else-not-has_devices.ensures.1 (ap devices_of second.0 ∙ s.is.decided_devices))
    ]

pub returns : goal.returns
returns c =
    held_read c.args.devices c.args.bytes.now c.in_ok-marks.rest.now c.in_ok-accepted.rest.now c.in_ok-decided.rest.now c.in_ok-marks.marks c.in_ok-accepted.accepted c.in_ok-decided.decided (λ i. omega (arith, c.type_inv.bytes i))
    c.in_ok-marks.ensures
    c.in_ok-accepted.ensures
    c.in_ok-decided.ensures
    (empty_is c.in_ok-decided.rest.now (sym c.is_empty.ensures ∙ c.if-not-is_empty.false))
    (c.has_devices.ensures.0 c.if-not-has_devices.false)
    (c.has_devices-else-not-has_devices.ensures.0 c.if-not-has_devices-2.false)
