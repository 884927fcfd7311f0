-- The states that clusters begin with are such as they may begin with.
use Rattle.std.proofs.Common.{◌≡◌, ⊎_elim, ℕ, zero, suc, ap}
use Rattle.bx_global.specs.Opening.{formatted_state, node_row, node_rows, opening_state}
use Rattle.bx_lock_machines.proofs.Boots.{row_pushed}
use Rattle.bx_lock_machines.specs.Keeps.{IsStart}
use Rattle.bx_locking.proofs.Openings.{formatted_single, opening_single}
use Rattle.bx_locking.specs.Owned.{IsRowIn}
use Rattle.bx_rows.specs.declared.session.SessionRow.{SessionRow}

first_boots : (n : ℕ) (row : SessionRow) → IsRowIn (node_rows n) row → row.boot ≡ 0
first_boots zero row has = absurd has
first_boots (suc n) row has = ⊎_elim (λ old. first_boots n row old) (λ new. ap (λ (x : SessionRow). x.boot) new) (row_pushed (node_rows n) (node_row n) row has)

pub opening_start : (nodes devices : ℕ) → IsStart (opening_state nodes devices)
opening_start nodes devices = record { single = opening_single nodes devices; first_boots = first_boots nodes }

pub formatted_start : (devices : ℕ) → IsStart (formatted_state devices)
formatted_start devices = record { single = formatted_single devices; first_boots = λ row has. absurd has }
