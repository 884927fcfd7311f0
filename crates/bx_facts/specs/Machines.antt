-- Machines, and what is said of each.
use Rattle.std.specs.Prelude.{◌≡◌, ◌≢◌, ℕ, ◌+◌, ◌<◌, Option, Some, None, if◌then◌else◌}
use Rattle.bx_records.specs.bx_base.specs.declared.names.Actor.{Actor}
use Rattle.bx_records.specs.bx_base.specs.declared.names.Actor.TheVariants.{Node, Replica, Server, Member}
pub use Rattle.bx_post.specs.Machines.{is_same}

-- one machine has this, and each other has what it had
abbrev pub put_at : {A : Type 0} → Actor → A → (Actor → A) → Actor → A
put_at who value old other = if is_same who other then value else old other

-- a machine of a cluster of so many nodes
abbrev pub IsMachine : ℕ → Actor → Type 0
IsMachine nodes (Node n) = n < nodes
IsMachine nodes (Replica n) = n < 3
IsMachine nodes (Server n) = n < 2
IsMachine nodes (Member n) = n < 8

-- All but one machine have what they had.
pub record OnlyAt {A : Type 0} (who : Actor) (old new : Actor → A) : Type 0 where
  pub others : (other : Actor) → other ≢ who → new other ≡ old other

-- The same of facts.
pub record OnlyFactsAt (who : Actor) (old new : Actor → Type 0) : Type 0 where
  pub stay : (other : Actor) → other ≢ who → old other → new other
  pub came : (other : Actor) → other ≢ who → new other → old other

pub record SameFacts (old new : Actor → Type 0) : Type 0 where
  pub stay : (other : Actor) → old other → new other
  pub came : (other : Actor) → new other → old other

-- the disks of replicas are the first three, and a member's comes behind them
abbrev pub disk_of : Actor → Option ℕ
disk_of (Node n) = None
disk_of (Replica n) = Some n
disk_of (Server n) = None
disk_of (Member n) = Some (3 + n)
