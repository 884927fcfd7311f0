-- Blocks that are read over a rack.
use Rattle.std.proofs.Common.{◌≡◌, ℕ, List, subst}
use Rattle.bx_disk.specs.Disks.{Disks}
use Rattle.bx_layout.specs.declared.block.Block.{Block}
use Rattle.bx_logs.specs.declared.members.Members.{Members}
use Rattle.bx_logs.specs.Members.{held_by}
use Rattle.bx_logs.specs.Newest.{Newest}
use Rattle.bx_overlay.specs.Over.{StandsOver}

-- what stands over a rack's homes is the same, whatever names the rack, its members and its logs
pub moved : {Row : Type 0} (state : Row → Disks) (P : (ℕ → Block → Type 0) → Type 0) (now rack : Row) (m members : Members) (l logs : List Newest) → now ≡ rack → m ≡ members → l ≡ logs
    → P (StandsOver (held_by (state now).reads m) m.devices l) → P (StandsOver (held_by (state rack).reads members) members.devices logs)
moved state P now rack m members l logs same_rack same_members same_logs holds =
    subst (λ (x : List Newest). P (StandsOver (held_by (state rack).reads members) members.devices x)) same_logs
    (subst (λ (x : Members). P (StandsOver (held_by (state rack).reads x) x.devices l)) same_members
    (subst (λ x. P (StandsOver (held_by (state x).reads m) m.devices l)) same_rack holds))
