use Rattle.std.proofs.Common.{◌≡◌, ◌⊎◌, ℕ, None}
use Rattle.bx_facts.specs.Holds.{KeepsHolds}
use Rattle.bx_plain.specs.Asks.{AlikeBut}
use Rattle.bx_plain.specs.Fits.{RowsStand}
use Rattle.bx_plain.specs.Grants.{NoneLeft, Passes}
use Rattle.bx_plain.specs.Rows.{floor_in, hold_in, sessions_at, want_in}
use Rattle.bx_plain.proofs.owners.PlainOwners.grant_waiting.Given as goal

abbrev pub invariant-loop-place : goal.invariant-loop-place
invariant-loop-place l =
    (RowsStand l.fn.self.rows → RowsStand l.self.rows) × KeepsHolds (hold_in l.fn.self.rows) (hold_in l.self.rows) × ((at : ℕ) → floor_in l.self.rows at ≡ floor_in l.fn.self.rows at)
    × ((other at : ℕ) → (want_in l.self.rows other at ≡ None) ⊎ (want_in l.self.rows other at ≡ want_in l.fn.self.rows other at))
    × ((other : ℕ) → want_in l.fn.self.rows other l.block ≡ None → (want_in l.self.rows other l.block ≡ None) × (hold_in l.self.rows other l.block ≡ hold_in l.fn.self.rows other l.block))
    × AlikeBut l.block l.fn.self.rows l.self.rows
    × (l.self.nodes ≡ l.fn.self.nodes)
    × Passes l.block l.fn.self.rows l.self.rows
    × NoneLeft l.block l.fn.self.rows l.self.rows l.place
    × (sessions_at l.block l.self.rows ≡ sessions_at l.block l.fn.self.rows)
