-- Registers that begin, over new cells or over cells that were found.
use Rattle.std.proofs.Common.{◌≡◌, ℕ, ◌+◌, ◌-◌, ◌^◌, ◌<◌, ◌≤◌, ◌==◌, Bool, true, false, List, [], ◌∷◌, length, Option, Some, None, refl, sym, ap, subst}
use Rattle.std.specs.Prelude.{IsSome, IsSomeAnd, nat_lt, if◌then◌else◌}
use Rattle.std.proofs.lemmas.Bool.{false≢true}
use Rattle.bx_acceptor.proofs.Taking.{first_is_held}
use Rattle.bx_answers.specs.Handling.{first_held}
use Rattle.bx_acceptor.specs.Standing.{IsFound}
use Rattle.bx_acceptor.specs.Starting.{StartsWith}
use Rattle.bx_acceptor.specs.declared.origin.Origin.{Origin}
use Rattle.bx_acceptor.specs.declared.origin.Origin.TheVariants.{Made}
use Rattle.bx_base.specs.declared.names.Actor.{Actor}
use Rattle.bx_base.specs.declared.names.Actor.TheVariants.{Replica}
use Rattle.bx_cell.specs.Cells.{Known}
use Rattle.bx_cell.specs.Formats.{first}
use Rattle.bx_cell.specs.Halves.{cell_in}
use Rattle.bx_cell.specs.Images.{EachSure}
use Rattle.bx_disk.specs.Disks.{Disks, Image}
use Rattle.bx_facts.specs.Machines.{is_same}
use Rattle.bx_facts.specs.Chains.{found_chain}
use Rattle.bx_facts.specs.Pasts.{found_register, opening_register}
use Rattle.bx_global.specs.Allowed.{IsAllowed}
use Rattle.bx_global.specs.Bytes.{held_text}
use Rattle.bx_global.specs.declared.held.Held.{Held}
use Rattle.bx_global.specs.declared.state.GlobalState.{GlobalState}
use Rattle.bx_paxos.proofs.Starts.{begun, found_begun}
use Rattle.bx_paxos.specs.Reading.{AreMade}
use Rattle.bx_paxos.specs.Shown.{HasFound, StandsAsFound}
use Rattle.bx_paxos_found.specs.Origins.{origin_in}
use Rattle.bx_paxos_found.specs.declared.origins.Origins.{Origins}
use Rattle.bx_paxos_machines.proofs.Keeping.{none_has}
use Rattle.bx_paxos.specs.Counted.{IsCounted}
use Rattle.bx_rounds.specs.Courses.{started}
use Rattle.bx_rounds.specs.declared.course.Course.{Course}
use Rattle.bx_paxos_machines.specs.declared.machine.Machine.{Machine}
use Rattle.bx_paxos_machines.specs.declared.machine.Machine.TheVariants.{Replica as IsReplica, Other}
use Rattle.bx_paxos_machines.specs.Beginning.{AreBegun, AreIdle, AreMachines, AreNew, HasFirst, IsBegun, IsNew}
use Rattle.bx_paxos_machines.specs.Cluster.{Cluster, IsCluster, named, needs, needs_in, voters_of}
use Rattle.bx_paxos_machines.specs.Keeps.{Keeps}
use Rattle.bx_paxos_machines.specs.Parts.{IsOut, KnowsPlace, course_in, machine_at, name_of, sectors_for}

-- ---- a cell with the first state

pub first_found : (made : GlobalState) (sectors : ℕ → List ℕ) → IsAllowed made → made.index + 1 < 2 ^ 64 → cell_in sectors 1 ≡ Some (first (held_text (first_held made))) → IsFound (length made.devices) sectors (first (held_text (first_held made))) (first_held made)
first_found made sectors is index at = record { in_cell = at; spells = record { is = first_is_held made is index; parts = refl } }

pub starts_first : (replica : ℕ) (made : GlobalState) (origin : Origin) (sectors : ℕ → List ℕ) (held : Held) (cell : Option Known) → origin ≡ Made → IsAllowed made → made.index + 1 < 2 ^ 64 → cell_in sectors 1 ≡ Some (first (held_text (first_held made)))
    → StartsWith replica made origin sectors held cell → held.decided ≡ made
starts_first replica made origin sectors held cell e is index at starts =
    let mine = subst (λ (o : Origin). StartsWith replica made o sectors held cell) e starts in
    let found = mine.found (first (held_text (first_held made))) (first_held made) tt (first_found made sectors is index at) in
    ap (λ (h : Held). h.decided) (found.0.as_put (λ bad. bad))

-- ---- a cluster

-- machines of these nodes make a cluster, with a first state of as many devices
pub cluster_of : (g : Cluster) → g.nodes ≤ 16 → IsAllowed g.made → g.made.index + 1 < 2 ^ 64 → IsAllowed g.first → g.first.index + 1 < 2 ^ 64 → length g.first.devices ≡ length g.made.devices → AreMachines g.nodes g.first g.origins g.machines → IsCluster g
cluster_of g few allowed index first_allowed first_index devices are = record {
  few = few;
  allowed = allowed;
  index = index;
  first_allowed = first_allowed;
  first_index = first_index;
  devices = devices;
  parts = are.parts;
  all = are.all;
}

-- ---- a register that begins

pub idle_at : (made : GlobalState) (ms : List Machine) (who : Actor) → AreIdle made ms → course_in made (machine_at ms who) ≡ started 0 0 made
idle_at made [] who are = refl
idle_at made (m ∷ ms) who are = by (is_same (name_of m) who) (idle_at made ms who are.1)
  where
    by : (t : Bool) → course_in made (machine_at ms who) ≡ started 0 0 made → course_in made (if t then Some m else machine_at ms who) ≡ started 0 0 made
    by true more = are.0
    by false more = more

pub not_busy : (made : GlobalState) (ms : List Machine) (who : Actor) → AreIdle made ms → IsSomeAnd (machine_at ms who) IsOut → ⊥
not_busy made ms who are busy = by (machine_at ms who) (idle_at made ms who are) busy
  where
    by : (o : Option Machine) → course_in made o ≡ started 0 0 made → IsSomeAnd o IsOut → ⊥
    by None is out = absurd out
    by (Some m) is out = false≢true (subst (λ (c : Course). IsSome c.out) is out)

pub new_idle : (made : GlobalState) (ms : List Machine) → AreNew made ms → AreIdle made ms
new_idle made [] are = tt
new_idle made (m ∷ ms) are = (are.0.course, new_idle made ms are.1)

pub new_needs : (made : GlobalState) (ms : List Machine) (who : Actor) → AreNew made ms → needs_in (machine_at ms who) ≡ 0
new_needs made [] who are = refl
new_needs made (m ∷ ms) who are = by (is_same (name_of m) who) (new_needs made ms who are.1)
  where
    by : (t : Bool) → needs_in (machine_at ms who) ≡ 0 → needs_in (if t then Some m else machine_at ms who) ≡ 0
    by true more = ap sectors_for are.0.cell
    by false more = more

pub new_needs_none : (g : Cluster) (disk : ℕ) → AreNew g.first g.machines → needs g disk ≡ 0
new_needs_none g disk are = by (nat_lt disk 3)
  where
    by : (t : Bool) → (if t then needs_in (machine_at g.machines (Replica disk)) else 0) ≡ 0
    by true = new_needs g.first g.machines (Replica disk) are
    by false = refl

begun_at : (made : GlobalState) (x : Disks) (ms : List Machine) (who : Actor) (v : Machine) → AreBegun made x ms → machine_at ms who ≡ Some v → IsBegun made x v
begun_at made x [] who v are is = absurd cc
begun_at made x (m ∷ ms) who v are is = by (is_same (name_of m) who) (λ k. begun_at made x ms who v are.1 k) is
  where
    by : (t : Bool) → (machine_at ms who ≡ Some v → IsBegun made x v) → (if t then Some m else machine_at ms who) ≡ Some v → IsBegun made x v
    by true more k = let one : m ≡ v = cc in subst (IsBegun made x) one are.0
    by false more k = more k

first_counts : (made : GlobalState) (origin : Origin) (image : Image) (n : ℕ) → origin ≡ Made → IsAllowed made → made.index + 1 < 2 ^ 64 → n < 3 → HasFirst made image → IsCounted made origin (image n) (first_held made)
first_counts made origin image n same is index low has = subst (λ (o : Origin). IsCounted made o (image n) (first_held made)) (sym same) (record {
  found = first (held_text (first_held made));
  raw = first_held made;
  part = tt;
  is = first_found made (image n) is index (has.each n low);
  catches = record { as_found = λ bad. absurd bad; as_put = λ put. refl };
})

first_place : (made : GlobalState) (x : Disks) (m : Machine) → IsBegun made x m → KnowsPlace (opening_register made).chain m
first_place made x (IsReplica r) is = is.knows
first_place made x (Other p) is = tt

-- each cell was made with the volume
pub made_origins : (origins : Origins) → (origins.first ≡ Made) × (origins.second ≡ Made) × (origins.third ≡ Made) → AreMade (origin_in origins)
made_origins origins made = λ n low. by (n == 0) (n == 1)
  where
    by : (t u : Bool) → (if t then origins.first else (if u then origins.second else origins.third)) ≡ Made
    by true u = made.0
    by false true = made.1
    by false false = made.2

pub begins_keeping : (g : Cluster) (x : Disks) → IsCluster g → AreMade (origin_in g.origins) → AreIdle g.first g.machines → AreBegun g.first x g.machines → EachSure x (HasFirst g.first) → Keeps g x (opening_register g.first)
begins_keeping g x is made idle are first = record {
  is = is;
  fits = begun (voters_of g) x is.first_allowed made (record { each = λ image sure n low. first_counts g.first (origin_in g.origins n) image n (made n low) is.first_allowed is.first_index low (first.each image sure) })
      (λ me. idle_at g.first g.machines (named me) idle);
  cells = λ who m at. (begun_at g.first x g.machines who m are at).cells;
  places = λ who m at. first_place g.first x m (begun_at g.first x g.machines who m are at);
  down = λ who m at down. absurd (false≢true down);
}

-- ---- one that found its volume

new_at : (made : GlobalState) (ms : List Machine) (who : Actor) (v : Machine) → AreNew made ms → machine_at ms who ≡ Some v → IsNew made v
new_at made [] who v are is = absurd cc
new_at made (m ∷ ms) who v are is = by (is_same (name_of m) who) (λ k. new_at made ms who v are.1 k) is
  where
    by : (t : Bool) → (machine_at ms who ≡ Some v → IsNew made v) → (if t then Some m else machine_at ms who) ≡ Some v → IsNew made v
    by true more k = let one : m ≡ v = cc in subst (IsNew made) one are.0
    by false more k = more k

found_place : (made : GlobalState) (m : Machine) → IsNew made m → KnowsPlace (found_chain made) m
found_place made (IsReplica r) is = is.knows
found_place made (Other p) is = tt

pub finds_keeping : (g : Cluster) (x : Disks) (was : ℕ → Option Held) (boot : ℕ) → IsCluster g → AreNew g.first g.machines → HasFound g.first (origin_in g.origins) was → EachSure x (StandsAsFound g.first (origin_in g.origins) was x.sizes) → Keeps g x (found_register g.first boot)
finds_keeping g x was boot is are found stands = record {
  is = is;
  fits = found_begun (voters_of g) x was boot is.first_allowed found stands (λ me. idle_at g.first g.machines (named me) (new_idle g.first g.machines are));
  cells = λ who m at. none_has x m (new_at g.first g.machines who m are at).cell;
  places = λ who m at. found_place g.first m (new_at g.first g.machines who m are at);
  down = λ who m at down. (new_at g.first g.machines who m are at).cell;
}
