use Rattle.std.proofs.Common.{◌≡◌, drop}
use Rattle.std.specs.Prelude.{find, not, unwrap_or}
use Rattle.bx_rows.specs.Words.{is_taken, least_free, slots}
use Rattle.bx_rows.proofs.rows.free_slot.Given as goal

-- the slots that are still to come have the free one that all have
abbrev pub invariant-loop-slot : goal.invariant-loop-slot
invariant-loop-slot l = least_free l.rows ≡ unwrap_or (find (λ s. not (is_taken l.rows s)) (drop l.slot slots)) 8
