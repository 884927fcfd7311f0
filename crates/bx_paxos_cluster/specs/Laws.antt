-- The laws of a register of three replicas.
use Rattle.std.specs.Prelude.{◌≡◌, ◌≢◌, ℕ, ◌≤◌, true, List, length}
use Rattle.std.proofs.Common.{ap, ◌∙◌}
use Rattle.bx_base.specs.declared.names.Actor.{Actor}
use Rattle.bx_base.specs.declared.names.Actor.TheVariants.{Replica}
use Rattle.bx_disk.specs.Disks.{Disks, Image, IsImage}
use Rattle.bx_facts.specs.Chains.{AreLegal, IsNext, IsPlace, last}
use Rattle.bx_facts.specs.Disks.{Crashes, SameLabels, SameLengths, SameReplicas}
use Rattle.bx_facts.specs.Inputs.{AreAmong, IsRegisters}
use Rattle.bx_facts.specs.Labelled.{IsReplicaLabelled}
use Rattle.bx_facts.specs.Pasts.{RegisterPast}
use Rattle.bx_global.specs.Allowed.{IsAllowed}
use Rattle.bx_global.specs.declared.state.GlobalState.{GlobalState}
use Rattle.bx_paxos_machines.specs.bx_paxos.proofs.Events.{is_legal}
use Rattle.bx_paxos_machines.specs.bx_paxos.proofs.OneReading.{one_reading}
use Rattle.bx_paxos_machines.specs.bx_paxos.specs.Reading.{ReadsState}
use Rattle.bx_paxos_machines.specs.bx_paxos_found.proofs.Refusals.{one_greatest}
use Rattle.bx_paxos_machines.specs.bx_paxos_found.specs.Finding.{IsGreatestBoot}
use Rattle.bx_post.specs.declared.packets.Letter.{Letter}
use Rattle.bx_paxos_machines.proofs.Beginnings.{idle_at, new_idle}
use Rattle.bx_paxos_machines.proofs.Needs.{needs_far, needs_most, needs_up as nothing_down}
use Rattle.bx_paxos_machines.proofs.Telling.{crash_survives, elsewhere_keeps, loses_keeps, places_at, reads_on, some_on}
use Rattle.bx_paxos_machines.specs.Beginning.{AreNew}
use Rattle.bx_rounds.specs.declared.course.Course.{Course}
use Rattle.bx_paxos_machines.specs.Cluster.{Cluster, knows, needs, voters_of}
use Rattle.bx_paxos_machines.specs.Keeps.{Keeps}

pub places : (g : Cluster) (x : Disks) (past : RegisterPast) (who : Actor) → Keeps g x past → IsPlace past.chain (knows g who)
places = places_at

pub legal : (g : Cluster) (x : Disks) (past : RegisterPast) → Keeps g x past → AreLegal past.chain.first past.chain.changes
legal g x past keeps = is_legal (voters_of g) x past keeps.fits

pub begins_knows : (g : Cluster) (who : Actor) → (g.first ≡ g.made) × AreNew g.first g.machines → knows g who ≡ g.made
begins_knows g who new = ap (λ (c : Course). c.known) (idle_at g.first g.machines who (new_idle g.first g.machines new.1)) ∙ new.0

pub allowed : (g : Cluster) (x : Disks) (past : RegisterPast) (s : GlobalState) → Keeps g x past → IsPlace past.chain s → IsAllowed s
allowed g x past s keeps place = keeps.fits.allowed s place

pub reads_next : (g : Cluster) (x : Disks) (past : RegisterPast) (image : Image) (s : GlobalState) → Keeps g x past → IsImage x image → ReadsState g.made x.sizes image s → IsNext past.proposed (last past.chain) s
reads_next = reads_on

pub reads_one : (made : GlobalState) (sizes : List ℕ) (image : Image) (s other : GlobalState) → ReadsState made sizes image s → ReadsState made sizes image other → other ≡ s
reads_one = one_reading

pub one_boot : (made : GlobalState) (sizes : List ℕ) (image : Image) (boot other : ℕ) → IsGreatestBoot (length made.devices) sizes image boot → IsGreatestBoot (length made.devices) sizes image other → other ≡ boot
one_boot made sizes image boot other is also = one_greatest (length made.devices) sizes image boot other is also

pub reads_some : (g : Cluster) (x : Disks) (past : RegisterPast) (image : Image) (n m : ℕ) → Keeps g x past → IsImage x image → n ≢ m → IsReplicaLabelled (length g.made.devices) x.sizes image n → IsReplicaLabelled (length g.made.devices) x.sizes image m → (s : GlobalState) × ReadsState g.made x.sizes image s
reads_some = some_on

pub elsewhere : (g : Cluster) (x y : Disks) (past : RegisterPast) → Keeps g x past → SameLengths x y → SameReplicas x y → SameLabels x y → Keeps g y past
elsewhere = elsewhere_keeps

pub survives : (g : Cluster) (x y : Disks) (past : RegisterPast) (n : ℕ) → Keeps g x past → past.down (Replica n) ≡ true → SameLengths x y → Crashes n x y → Keeps g y past
survives = crash_survives

pub loses : (g : Cluster) (x : Disks) (past : RegisterPast) (letters : List Letter) → Keeps g x past → AreAmong IsRegisters letters past.letters → Keeps g x (record past { letters = letters })
loses = loses_keeps

pub needs_little : (g : Cluster) (disk : ℕ) → needs g disk ≤ 21
needs_little = needs_most

pub needs_up : (g : Cluster) (x : Disks) (past : RegisterPast) (n : ℕ) → Keeps g x past → past.down (Replica n) ≡ true → needs g n ≡ 0
needs_up = nothing_down

pub needs_none : (g : Cluster) (disk : ℕ) → 3 ≤ disk → needs g disk ≡ 0
needs_none = needs_far
