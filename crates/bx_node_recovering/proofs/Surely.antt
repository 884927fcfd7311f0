-- What is settled in a sector is one content, and so is what stands there surely.
use Rattle.std.proofs.Common.{◌≡◌, ◌⊎◌, inl, inr, ◌∙◌, ℕ, Bool, true, false, List, sym, subst, arith}
use Rattle.std.specs.Prelude.{Option}
use Rattle.bx_disk.specs.Disks.{Disks}
use Rattle.bx_facts.specs.Writes.{IsSettled, IsSourceRow, Sent}
use Rattle.bx_global.specs.declared.state.GlobalState.{GlobalState}
use Rattle.bx_redo.proofs.Settled.{there_is}
use Rattle.bx_rows.specs.Modes.{IsReadAtA, IsSource}
use Rattle.bx_rows.specs.declared.device.DeviceRow.{DeviceRow}
use Rattle.bx_world_standing.specs.Rights.{Surely}

-- a device has a member that an audit reads
source : (mode : ℕ) → (second : Bool) × IsSource mode second
source mode = by (either mode)
  where
    either : (mode : ℕ) → IsReadAtA mode ⊎ (IsReadAtA mode → ⊥)
    either mode = grind arith

    by : IsReadAtA mode ⊎ (IsReadAtA mode → ⊥) → (second : Bool) × IsSource mode second
    by (inl is) = (false, is)
    by (inr none) = (true, inr none)

pub one_settled : (x : Disks) (s : GlobalState) (device sector : ℕ) (a b : List ℕ) → IsSettled x s device sector a → IsSettled x s device sector b → a ≡ b
one_settled x s device sector a b one two =
    let row = there_is s.devices device one.there in
    let from = source row.0.mode in
    let is = subst (λ (found : Option DeviceRow). IsSourceRow found from.0) (sym row.1) from.1 in
    sym (one.reads from.0 is) ∙ two.reads from.0 is

-- what stands in a sector is settled there
module _ (stands : ℕ → ℕ → List ℕ → ℕ → Type 0) (x : Disks) (s : GlobalState) (settled : (device sector : ℕ) (content : List ℕ) (index : ℕ) → stands device sector content index → IsSettled x s device sector content) where
  pub one_sure : (reaches : ℕ → ℕ → ℕ → Type 0) (writes : List Sent) (greatest device sector : ℕ) (a b : List ℕ) → Surely stands reaches writes greatest device sector a → Surely stands reaches writes greatest device sector b → a ≡ b
  one_sure reaches writes greatest device sector a b one two = one_settled x s device sector a b (settled device sector a one.index one.is) (settled device sector b two.index two.is)
