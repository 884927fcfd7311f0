-- The conditions on rows and on ballots.
use Rattle.std.specs.Prelude.{◌≢◌, ℕ, ◌^◌, ◌<◌, ◌≤◌, List, [], ◌∷◌}
use Rattle.std.specs.List.{AllByRecursion}
use Rattle.bx_rows.specs.declared.ballot.Ballot.{Ballot}
use Rattle.bx_rows.specs.declared.device.DeviceRow.{DeviceRow}
use Rattle.bx_rows.specs.declared.session.SessionRow.{SessionRow}

-- a number of 64 bits
abbrev pub Fits : ℕ → Type 0
Fits n = n < 2 ^ 64

-- the conditions on a session's row, in a term that ends then
pub record IsSession (term_end : ℕ) (row : SessionRow) : Type 0 where
  pub number : Fits row.number
  pub node : row.node < 4
  pub boot : Fits row.boot
  pub slot : row.slot < 8
  pub until : row.until ≤ term_end
  pub dead : row.dead < 2
  pub by : Fits row.by

-- what is tested of a session's row whose numbers fit their fields
pub record IsPlaced (term_end : ℕ) (row : SessionRow) : Type 0 where
  pub node : row.node < 4
  pub slot : row.slot < 8
  pub until : row.until ≤ term_end
  pub dead : row.dead < 2

-- the conditions on a device's row
pub record IsDevice (row : DeviceRow) : Type 0 where
  pub mode : row.mode < 5
  pub epoch : Fits row.epoch
  pub boot_a : Fits row.boot_a
  pub boot_b : Fits row.boot_b

-- the conditions on a ballot
pub record IsBallot (ballot : Ballot) : Type 0 where
  pub round : Fits ballot.round
  pub actor : ballot.actor < 2 ^ 32
  pub boot : Fits ballot.boot

-- the numbers rise, and stay below the next one
abbrev pub AreRising : List SessionRow → ℕ → Type 0
AreRising [] next = Unit {0}
AreRising (row ∷ rows) next = (row.number < next) × AllByRecursion (λ later. row.number < later.number) rows × AreRising rows next

-- no two have the same slot
abbrev pub HaveOwnSlots : List SessionRow → Type 0
HaveOwnSlots [] = Unit {0}
HaveOwnSlots (row ∷ rows) = AllByRecursion (λ other. other.slot ≢ row.slot) rows × HaveOwnSlots rows
