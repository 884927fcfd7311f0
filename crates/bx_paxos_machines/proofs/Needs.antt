-- Which disks a register needs.
use Rattle.std.proofs.Common.{◌≡◌, ℕ, ◌<◌, ◌≤◌, Bool, true, false, List, Option, Some, None, refl, ap, ◌∙◌, arith}
use Rattle.std.specs.Prelude.{nat_lt, if◌then◌else◌, slice_index}
use Rattle.std.proofs.lemmas.Bool.Decides.{nat_tests}
use Rattle.bx_base.specs.declared.names.Actor.TheVariants.{Replica}
use Rattle.bx_disk.specs.Disks.{Disks}
use Rattle.bx_facts.specs.Disks.{HasRoom}
use Rattle.bx_facts.specs.Pasts.{RegisterPast}
use Rattle.bx_paxos_machines.specs.declared.machine.Machine.{Machine}
use Rattle.bx_paxos_machines.specs.Cluster.{Cluster, needs, needs_in}
use Rattle.bx_paxos_machines.specs.Keeps.{Keeps}
use Rattle.bx_paxos_machines.specs.Parts.{cell_of, machine_at, sectors_for}
use Rattle.bx_paxos_machines.proofs.Keeping.{most}

most_in : (o : Option Machine) → needs_in o ≤ 21
most_in None = omega arith
most_in (Some m) = most (cell_of m)

pub needs_most : (g : Cluster) (disk : ℕ) → needs g disk ≤ 21
needs_most g disk = by (nat_lt disk 3)
  where
    by : (t : Bool) → (if t then needs_in (machine_at g.machines (Replica disk)) else 0) ≤ 21
    by true = most_in (machine_at g.machines (Replica disk))
    by false = omega arith

pub needs_far : (g : Cluster) (disk : ℕ) → 3 ≤ disk → needs g disk ≡ 0
needs_far g disk far =
    let t : nat_lt disk 3 ≡ false = grind (arith, nat_tests, far) in
    ap (λ (b : Bool). if b then needs_in (machine_at g.machines (Replica disk)) else 0) t

none_of : (g : Cluster) (n : ℕ) → needs_in (machine_at g.machines (Replica n)) ≡ 0 → needs g n ≡ 0
none_of g n none = by (nat_lt n 3)
  where
    by : (t : Bool) → (if t then needs_in (machine_at g.machines (Replica n)) else 0) ≡ 0
    by true = none
    by false = refl

-- a machine without a cell needs nothing
pub needs_down : (g : Cluster) (n : ℕ) (m : Machine) → machine_at g.machines (Replica n) ≡ Some m → cell_of m ≡ None → needs g n ≡ 0
needs_down g n m at none = none_of g n (ap needs_in at ∙ ap sectors_for none)

pub needs_up : (g : Cluster) (x : Disks) (past : RegisterPast) (n : ℕ) → Keeps g x past → past.down (Replica n) ≡ true → needs g n ≡ 0
needs_up g x past n keeps down = by (machine_at g.machines (Replica n)) refl
  where
    by : (o : Option Machine) → machine_at g.machines (Replica n) ≡ o → needs g n ≡ 0
    by None at = none_of g n (ap needs_in at)
    by (Some m) at = needs_down g n m at (keeps.down (Replica n) m at down)

pub room_of : (g : Cluster) (sizes : List ℕ) → ((n : ℕ) → n < 3 → 21 ≤ slice_index sizes n) → HasRoom (needs g) sizes
room_of g sizes long = record { each = λ disk. by disk (nat_lt disk 3) refl }
  where
    by : (disk : ℕ) (t : Bool) → nat_lt disk 3 ≡ t → (if t then needs_in (machine_at g.machines (Replica disk)) else 0) ≤ slice_index sizes disk
    by disk true e = let low : disk < 3 = grind (arith, nat_tests, e) in let some = long disk low in let few = most_in (machine_at g.machines (Replica disk)) in omega (arith, some, few)
    by disk false e = omega arith
