-- Machines that have nothing to do with devices.
use Rattle.std.specs.Prelude.{◌≡◌, ◌≢◌, ℕ, ◌*◌, ◌<◌, ◌≤◌, Bool, []}
use Rattle.bx_base.specs.declared.names.Actor.{Actor}
use Rattle.bx_base.specs.declared.names.Actor.TheVariants.{Member, Node}
use Rattle.bx_facts.specs.Pasts.{Told}
use Rattle.bx_facts.specs.Writes.{Made, StorePast}
use Rattle.bx_mirror_member.specs.Standing.{MemberView as Serving}
use Rattle.bx_mirror_cluster.specs.Fitting.{Parts}

-- A machine is no node, and no member of the volume.
pub record IsBeside (made : Made) (who : Actor) : Type 0 where
  pub no_node : (n : ℕ) → Node n ≢ who
  pub no_member : (n : ℕ) → n < 2 * made.devices → Member n ≢ who

-- What is said of nodes and members is the same.
pub record SaysSame (made : Made) (told : Told) (knew boots : Actor → ℕ) (down : Actor → Bool) : Type 0 where
  pub node_knew : (n : ℕ) → knew (Node n) ≡ told.knew (Node n)
  pub node_boots : (n : ℕ) → boots (Node n) ≡ told.boots (Node n)
  pub node_down : (n : ℕ) → down (Node n) ≡ told.down (Node n)
  pub member_knew : (n : ℕ) → n < 2 * made.devices → knew (Member n) ≡ told.knew (Member n)
  pub member_boots : (n : ℕ) → n < 2 * made.devices → boots (Member n) ≡ told.boots (Member n)
  pub member_down : (n : ℕ) → n < 2 * made.devices → down (Member n) ≡ told.down (Member n)

-- The volume's members are the same, and all others know and owe nothing.
pub record SameServing (parts : Parts) (members : ℕ → Serving) : Type 0 where
  pub same : (n : ℕ) → n < 2 * parts.made.devices → members n ≡ parts.members n
  pub owed : (n : ℕ) → 2 * parts.made.devices ≤ n → (members n).owed ≡ []
  pub lasts : (n : ℕ) → 2 * parts.made.devices ≤ n → (members n).lasts ≡ []

abbrev pub with_members : Parts → (ℕ → Serving) → Parts
with_members parts members = record parts { members = members }

-- the past where this is said of machines
abbrev pub saying : StorePast → (Actor → ℕ) → (Actor → ℕ) → (Actor → Bool) → StorePast
saying past knew boots down = record past { told = record past.told { knew = knew; boots = boots; down = down } }
