-- A register of three replicas keeps a past: it led to its machines and to what stands on the disks.
use Rattle.std.specs.Prelude.{◌≡◌, true, Some, None}
use Rattle.bx_base.specs.declared.names.Actor.{Actor}
use Rattle.bx_disk.specs.Disks.{Disks}
use Rattle.bx_facts.specs.Pasts.{RegisterPast}
use Rattle.bx_paxos.specs.Fits.{Fits}
use Rattle.bx_paxos_machines.specs.declared.machine.Machine.{Machine}
use Rattle.bx_paxos_machines.specs.Cluster.{Cluster, IsCluster, voters_of}
use Rattle.bx_paxos_machines.specs.Parts.{HasCells, KnowsPlace, cell_of, machine_at}

-- The cluster is one; the past fits; the images have what the cells of replicas hold; what acceptors know are places of the chain; and a machine that is down
-- has no cell.
pub record Keeps (g : Cluster) (x : Disks) (past : RegisterPast) : Type 0 where
  pub is : IsCluster g
  pub fits : Fits (voters_of g) x past
  pub cells : (who : Actor) (m : Machine) → machine_at g.machines who ≡ Some m → HasCells m x
  pub places : (who : Actor) (m : Machine) → machine_at g.machines who ≡ Some m → KnowsPlace past.chain m
  pub down : (who : Actor) (m : Machine) → machine_at g.machines who ≡ Some m → past.down who ≡ true → cell_of m ≡ None
