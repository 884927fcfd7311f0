-- A machine that is there has the disk that it needs.
use Rattle.std.proofs.Common.{◌≡◌, ℕ, ◌+◌, ◌*◌, ◌<◌, ◌≤◌, Bool, true, false, List, Some, refl, subst, arith}
use Rattle.std.specs.Prelude.{◌==◌, slice_index}
use Rattle.std.proofs.lemmas.Bool.Decides.{nat_tests}
use Rattle.bx_base.specs.declared.names.Actor.{Actor}
use Rattle.bx_base.specs.declared.names.Actor.TheVariants.{Member, Node, Replica, Server}
use Rattle.bx_facts.specs.Disks.{HasRoom, wanted_by}
use Rattle.bx_facts.specs.Machines.{IsMachine, disk_of}
use Rattle.bx_facts.specs.Writes.{Made, store_room}
use Rattle.bx_places.specs.Places.{replica_sectors}
use Rattle.bx_world_machines.specs.Standing.{HasMachine}

pub is_machine : (nodes devices : ℕ) (who : Actor) → devices ≤ 4 → HasMachine nodes devices who → IsMachine nodes who
is_machine nodes devices (Node n) few has = has
is_machine nodes devices (Replica n) few has = has
is_machine nodes devices (Server n) few has = has
is_machine nodes devices (Member n) few has = omega (arith, few, has)

wants : (own sectors : ℕ) (sizes : List ℕ) → sectors ≤ slice_index sizes own → HasRoom (wanted_by (Some own) sectors) sizes
wants own sectors sizes enough = record { each = λ disk. by disk (own == disk) refl }
  where
    by : (disk : ℕ) (b : Bool) → (own == disk) ≡ b → wanted_by (Some own) sectors disk ≤ slice_index sizes disk
    by disk true is = rw is (let same : own ≡ disk = grind (arith, nat_tests, is) in subst (λ (d : ℕ). sectors ≤ slice_index sizes d) same enough)
    by disk false is = rw is (omega arith)

module _ (made : Made) (nodes devices : ℕ) (sizes : List ℕ) (replicas : (disk : ℕ) → disk < 3 → replica_sectors ≤ slice_index sizes disk) (members : (disk : ℕ) → 3 ≤ disk → disk < 3 + 2 * devices → store_room made ≤ slice_index sizes disk) where
  pub disk_there : (who : Actor) → HasMachine nodes devices who → HasRoom (wanted_by (disk_of who) replica_sectors) sizes
  disk_there (Node n) has = record { each = λ disk. omega arith }
  disk_there (Replica n) has = wants n replica_sectors sizes (replicas n has)
  disk_there (Server n) has = record { each = λ disk. omega arith }
  disk_there (Member n) has = wants (3 + n) replica_sectors sizes (let enough = members (3 + n) (omega arith) (omega (arith, has)) in omega (arith, enough))

  pub member_there : (n : ℕ) → HasMachine nodes devices (Member n) → HasRoom (wanted_by (disk_of (Member n)) (store_room made)) sizes
  member_there n has = wants (3 + n) (store_room made) sizes (members (3 + n) (omega arith) (omega (arith, has)))
