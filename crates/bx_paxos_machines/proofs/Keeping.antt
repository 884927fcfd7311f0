-- What a step of one machine leaves of what a register keeps.
use Rattle.std.proofs.Common.{◌≡◌, ◌≢◌, ℕ, ◌+◌, ◌<◌, ◌≤◌, ◌⊎◌, inl, inr, Bool, true, false, ◌==◌, List, Option, Some, None, IfSome, refl, sym, ap, subst, ◌∙◌, max, arith}
use Rattle.std.specs.Prelude.{IsSomeAnd, nat_le, nat_lt, if◌then◌else◌, slice_index}
use Rattle.std.proofs.lemmas.Bool.{false≢true}
use Rattle.std.proofs.lemmas.Bool.Decides.{eqb_tells, nat_tests}
use Rattle.bx_acceptor.specs.Standing.{HasCell, IsCellOf, IsAcceptorView as IsAcceptor, AcceptorView as Acceptor}
use Rattle.bx_base.specs.declared.names.Actor.{Actor}
use Rattle.bx_base.specs.declared.names.Actor.TheVariants.{Node, Replica, Server, Member}
use Rattle.bx_cell.proofs.Words.{cell_sectors}
use Rattle.bx_cell.specs.Cells.{Holds, Known}
use Rattle.bx_cell.specs.Halves.{cell_in}
use Rattle.bx_cell.specs.Images.{EachSure, HasAllSure}
use Rattle.bx_disk.specs.Disks.{Disks, Image, Stays}
use Rattle.bx_facts.proofs.Machines.{is_itself, is_one}
use Rattle.bx_facts.specs.Chains.{Chain, IsPlace}
use Rattle.bx_facts.specs.Disks.{HasRoom, IsKept, NeedsAt, NeedsNoMore, OnlyDiskOf, wanted_by}
use Rattle.bx_facts.specs.Machines.{OnlyAt, OnlyFactsAt, disk_of, is_same}
use Rattle.bx_facts.specs.Pasts.{RegisterPast}
use Rattle.bx_global.specs.declared.state.GlobalState.{GlobalState}
use Rattle.bx_paxos.specs.Fits.{Fits}
use Rattle.bx_paxos_machines.specs.declared.machine.Machine.{Machine}
use Rattle.bx_paxos_machines.specs.declared.machine.Machine.TheVariants.{Replica as IsReplica, Other}
use Rattle.bx_paxos_machines.specs.Cluster.{Cluster, IsCluster, needs, needs_in, voters_of}
use Rattle.bx_paxos_machines.specs.Keeps.{Keeps}
use Rattle.bx_paxos_machines.specs.Parts.{HasCellDisk, HasCells, HasDisk, IsOut, IsWhole, KnowsPlace, cell_of, course_in, machine_at, name_of, sectors_for}
use Rattle.bx_paxos_machines.proofs.Places.{name_at, part_at}

-- ---- cells on other disks

-- an image with one disk's sectors behind the label, over what the disks read as
mixed : Disks → ℕ → Image → ℕ → ℕ → List ℕ
mixed x n image d s = if d == n then (if nat_le 1 s then image d s else x.reads d s) else x.reads d s

mixed_has : (x y : Disks) (n : ℕ) (image : Image) → ((s : ℕ) → 1 ≤ s → IsKept x y n s) → HasAllSure y image → HasAllSure x (mixed x n image)
unfolding mixed
mixed_has x y n image kept is = record {
  sure = λ d s sure. elim (eqb_tells d n) [
    | inl same ↦ rw same.0 (subst (λ (k : ℕ). x.unsure k s ≡ false → (if nat_le 1 s then image k s else x.reads k s) ≡ x.reads k s) (sym same.1) (λ at. by s (nat_le 1 s) refl at) sure)
    | inr apart ↦ rw apart.0 refl
  ];
}
  where
    by : (s : ℕ) (t : Bool) → nat_le 1 s ≡ t → x.unsure n s ≡ false → (if t then image n s else x.reads n s) ≡ x.reads n s
    by s true e sure = let k = kept s (grind (arith, nat_tests, e)) in is.sure n s (k.sure sure) ∙ k.reads
    by s false e sure = refl

mixed_at : (x : Disks) (n : ℕ) (image : Image) (s : ℕ) → 1 ≤ s → image n s ≡ mixed x n image n s
unfolding mixed
mixed_at x n image s low =
    let t : nat_le 1 s ≡ true = grind (arith, nat_tests, low) in
    elim (eqb_tells n n) [ inl same ↦ rw (same.0, t) refl | inr apart ↦ absurd (apart.1 refl) ]

pub cell_kept : (x y : Disks) (a : Acceptor) → IsAcceptor a → ((s : ℕ) → 1 ≤ s → IsKept x y a.replica s) → EachSure x (HasCell a) → EachSure y (HasCell a)
cell_kept x y a is kept has = by a.cell is.cell has
  where
    by : (o : Option Known) → IfSome o (IsCellOf a.replica a.first a.origin a.held) → EachSure x (λ image. IfSome o (λ c. Holds c image)) → EachSure y (λ image. IfSome o (λ c. Holds c image))
    by None cell each = record { each = λ image sure. tt }
    by (Some c) cell each = record {
      each = λ image sure.
          let n = a.replica in
          let was = each.each (mixed x n image) (mixed_has x y n image kept sure) in
          let there = subst (λ (b : ℕ). cell_in (mixed x n image n) b ≡ Some c.found) cell.base (subst (λ (d : ℕ). cell_in (mixed x n image d) c.base ≡ Some c.found) cell.disk was) in
          let now = cell_sectors (mixed x n image n) (image n) 1 (λ s low high. mixed_at x n image s low) ∙ there in
          subst (λ (b : ℕ). cell_in (image c.disk) b ≡ Some c.found) (sym cell.base) (subst (λ (d : ℕ). cell_in (image d) 1 ≡ Some c.found) (sym cell.disk) now);
    }

pub has_kept : (x y : Disks) (m : Machine) → IsWhole m → ((n s : ℕ) → name_of m ≡ Replica n → n < 3 → 1 ≤ s → IsKept x y n s) → HasCells m x → HasCells m y
has_kept x y (IsReplica r) whole kept has = cell_kept x y r.acceptor whole.acceptor (λ s low. kept r.acceptor.replica s whole.at whole.low low) has
has_kept x y (Other p) whole kept has = tt

pub none_has : (y : Disks) (m : Machine) → cell_of m ≡ None → HasCells m y
none_has y (IsReplica r) none = record { each = λ image sure. subst (λ (o : Option Known). IfSome o (λ c. Holds c image)) (sym none) tt }
none_has y (Other p) none = tt

pub stays_kept : (x y : Disks) (d s : ℕ) → Stays x y d s → IsKept x y d s
stays_kept x y d s stays = record { reads = stays.reads; sure = λ e. stays.unsure ∙ e }

disk_is : (who : Actor) (n : ℕ) → n < 3 → disk_of who ≡ Some n → who ≡ Replica n
disk_is (Node k) n low is = absurd cc
disk_is (Replica k) n low is = let one : k ≡ n = cc in ap Replica one
disk_is (Server k) n low is = absurd cc
disk_is (Member k) n low is = let one : 3 + k ≡ n = cc in absurd (omega (arith, low, one))

-- ---- two names

pub tells : (a b : Actor) → (a ≡ b) ⊎ (a ≢ b)
tells a b = by (is_same a b) refl
  where
    by : (t : Bool) → is_same a b ≡ t → (a ≡ b) ⊎ (a ≢ b)
    by true e = inl (is_one a b e)
    by false e = inr (λ same. false≢true (sym e ∙ subst (λ (k : Actor). is_same a k ≡ true) same (is_itself a)))

-- ---- one machine goes on, and the others are as they were

module _ (ms new : List Machine) (who : Actor) (m v : Machine) (at : machine_at ms who ≡ Some m) (here : machine_at new who ≡ Some v) (beside : (other : Actor) → other ≢ who → machine_at new other ≡ machine_at ms other) where
  -- what holds of this step, and of none, holds of each machine
  pub each_machine : (P : Option Machine → Option Machine → Type 0) → P (Some m) (Some v) → ((o : Option Machine) → P o o) → (other : Actor) → P (machine_at ms other) (machine_at new other)
  each_machine P this same other =
      elim (tells other who) [
        | inl is ↦ subst (λ (a : Actor). P (machine_at ms a) (machine_at new a)) (sym is) (subst (λ (o : Option Machine). P o (machine_at new who)) (sym at) (subst (λ (o : Option Machine). P (Some m) o) (sym here) this))
        | inr apart ↦ subst (λ (o : Option Machine). P (machine_at ms other) o) (sym (beside other apart)) (same (machine_at ms other))
      ]

  pub busy_at : OnlyFactsAt who (λ a. IsSomeAnd (machine_at ms a) IsOut) (λ a. IsSomeAnd (machine_at new a) IsOut)
  busy_at = record {
    stay = λ other apart busy. subst (λ (o : Option Machine). IsSomeAnd o IsOut) (sym (beside other apart)) busy;
    came = λ other apart busy. subst (λ (o : Option Machine). IsSomeAnd o IsOut) (beside other apart) busy;
  }

  pub known_at : (made : GlobalState) → OnlyAt who (λ a. (course_in made (machine_at ms a)).known) (λ a. (course_in made (machine_at new a)).known)
  known_at made = record { others = λ other apart. ap (λ (o : Option Machine). (course_in made o).known) (beside other apart) }

-- ---- sectors

pub most : (o : Option Known) → sectors_for o ≤ 21
most None = omega arith
most (Some c) = omega arith

fewer_sectors : (old new : Option Known) → (old ≡ None → new ≡ None) → sectors_for new ≤ sectors_for old
fewer_sectors None new none = subst (λ (o : Option Known). sectors_for o ≤ 0) (sym (none refl)) (omega arith)
fewer_sectors (Some c) new none = most new

needs_by : (P : ℕ → ℕ → Type 0) (g : Cluster) (ms : List Machine) (disk : ℕ) → (disk < 3 → P (needs_in (machine_at g.machines (Replica disk))) (needs_in (machine_at ms (Replica disk)))) → P 0 0 → P (needs g disk) (needs (record g { machines = ms }) disk)
needs_by P g ms disk low far = by (nat_lt disk 3) refl
  where
    by : (t : Bool) → nat_lt disk 3 ≡ t → P (if t then needs_in (machine_at g.machines (Replica disk)) else 0) (if t then needs_in (machine_at ms (Replica disk)) else 0)
    by true e = low (grind (arith, nat_tests, e))
    by false e = far

pub needs_less : (g : Cluster) (ms : List Machine) (who : Actor) (m v : Machine) → machine_at g.machines who ≡ Some m → machine_at ms who ≡ Some v → ((other : Actor) → other ≢ who → machine_at ms other ≡ machine_at g.machines other)
    → (cell_of m ≡ None → cell_of v ≡ None) → NeedsNoMore (needs g) (needs (record g { machines = ms }))
needs_less g ms who m v at here beside none = record {
  each = λ disk. needs_by (λ o n. n ≤ o) g ms disk
      (λ low. each_machine g.machines ms who m v at here beside (λ o k. needs_in k ≤ needs_in o) (fewer_sectors (cell_of m) (cell_of v) none) (λ o. omega arith) (Replica disk)) (omega arith);
}

own_sectors : (n : ℕ) → wanted_by (Some n) 21 n ≡ 21
own_sectors n = elim (eqb_tells n n) [ inl same ↦ rw same.0 refl | inr apart ↦ absurd (apart.1 refl) ]

pub needs_own : (g : Cluster) (ms : List Machine) (who : Actor) (m v : Machine) → machine_at g.machines who ≡ Some m → machine_at ms who ≡ Some v → ((other : Actor) → other ≢ who → machine_at ms other ≡ machine_at g.machines other)
    → NeedsAt who 21 (needs g) (needs (record g { machines = ms }))
needs_own g ms who m v at here beside = record {
  each = λ disk. needs_by (λ o n. n ≤ max o (wanted_by (disk_of who) 21 disk)) g ms disk (λ low. by disk (tells (Replica disk) who)) (omega arith);
}
  where
    by : (disk : ℕ) → (Replica disk ≡ who) ⊎ (Replica disk ≢ who) → needs_in (machine_at ms (Replica disk)) ≤ max (needs_in (machine_at g.machines (Replica disk))) (wanted_by (disk_of who) 21 disk)
    by disk (inl same) =
        let most_v = most (cell_of v) in
        let most_now : needs_in (machine_at ms (Replica disk)) ≤ 21 = subst (λ (a : Actor). needs_in (machine_at ms a) ≤ 21) (sym same) (subst (λ (o : Option Machine). needs_in o ≤ 21) (sym here) most_v) in
        let own : wanted_by (disk_of who) 21 disk ≡ 21 = subst (λ (a : Actor). wanted_by (disk_of a) 21 disk ≡ 21) same (own_sectors disk) in
        omega (arith, most_now, own)
    by disk (inr apart) = let same = ap needs_in (beside (Replica disk) apart) in omega (arith, same)

-- the rack has the disk of a machine that has a cell
pub room_for : (g : Cluster) (who : Actor) (m : Machine) (sizes : List ℕ) → IsWhole m → machine_at g.machines who ≡ Some m → HasRoom (needs g) sizes → HasCellDisk sizes m
room_for g who (Other p) sizes whole at room = tt
room_for g who (IsReplica r) sizes whole at room = by r.acceptor.cell refl
  where
    n : ℕ
    n = r.acceptor.replica

    low : nat_lt n 3 ≡ true
    low = let three = whole.low in grind (arith, nat_tests, three)

    there : machine_at g.machines (Replica n) ≡ Some (IsReplica r)
    there = subst (λ (a : Actor). machine_at g.machines a ≡ Some (IsReplica r)) (sym (name_at g.machines who (IsReplica r) at) ∙ whole.at) at

    needed : needs g n ≡ sectors_for r.acceptor.cell
    needed = ap (λ (t : Bool). if t then needs_in (machine_at g.machines (Replica n)) else 0) low ∙ ap needs_in there

    by : (o : Option Known) → r.acceptor.cell ≡ o → IfSome o (λ _. 21 ≤ slice_index sizes n)
    by None e = tt
    by (Some c) e = subst (λ (k : ℕ). k ≤ slice_index sizes n) (needed ∙ ap sectors_for e) (room.each n)

pub disk_for : (g : Cluster) (who : Actor) (m : Machine) (sizes : List ℕ) → IsWhole m → machine_at g.machines who ≡ Some m → HasRoom (wanted_by (disk_of who) 21) sizes → HasDisk sizes m
disk_for g who (Other p) sizes whole at room = tt
disk_for g who (IsReplica r) sizes whole at room =
    let is : who ≡ Replica r.acceptor.replica = sym (name_at g.machines who (IsReplica r) at) ∙ whole.at in
    subst (λ (k : ℕ). k ≤ slice_index sizes r.acceptor.replica) (own_sectors r.acceptor.replica) (subst (λ (a : Actor). wanted_by (disk_of a) 21 r.acceptor.replica ≤ slice_index sizes r.acceptor.replica) is (room.each r.acceptor.replica))

-- ---- what is kept

pub place_on : (old new : Chain) (m : Machine) → ((s : GlobalState) → IsPlace old s → IsPlace new s) → KnowsPlace old m → KnowsPlace new m
place_on old new (IsReplica r) on place = on r.acceptor.held.decided place
place_on old new (Other p) on place = tt

pub keeps_put : (g : Cluster) (ms : List Machine) (who : Actor) (v : Machine) (x y : Disks) (old new : RegisterPast) → IsCluster g → IsCluster (record g { machines = ms }) → machine_at ms who ≡ Some v → ((other : Actor) → other ≢ who → machine_at ms other ≡ machine_at g.machines other)
    → OnlyDiskOf who x y → ((s : GlobalState) → IsPlace old.chain s → IsPlace new.chain s) → ((other : Actor) → other ≢ who → new.down other ≡ true → old.down other ≡ true)
    → Keeps g x old → HasCells v y → KnowsPlace new.chain v → (new.down who ≡ true → cell_of v ≡ None) → Fits (voters_of (record g { machines = ms })) y new → Keeps (record g { machines = ms }) y new
keeps_put g ms who v x y old new is cluster here beside only on downs keeps cells place down fits = record {
  is = cluster;
  fits = fits;
  cells = λ other m at. each other (λ k. HasCells k y) (λ same. cells) (λ apart k was. has_kept x y k (part_at g.nodes g.first g.origins g.machines other k is.parts was).whole
      (λ n s named low behind. stays_kept x y n s (only.others n s (λ disk. apart (sym (name_at g.machines other k was) ∙ named ∙ sym (disk_is who n low disk))))) (keeps.cells other k was)) m at;
  places = λ other m at. each other (KnowsPlace new.chain) (λ same. place) (λ apart k was. place_on old.chain new.chain k on (keeps.places other k was)) m at;
  down = λ other m at. each other (λ k. new.down other ≡ true → cell_of k ≡ None) (λ same stopped. down (subst (λ (a : Actor). new.down a ≡ true) same stopped)) (λ apart k was stopped. keeps.down other k was (downs other apart stopped)) m at;
}
  where
    each : (other : Actor) (P : Machine → Type 0) → (other ≡ who → P v) → (other ≢ who → (k : Machine) → machine_at g.machines other ≡ Some k → P k) → (m : Machine) → machine_at ms other ≡ Some m → P m
    each other P this rest m at =
        elim (tells other who) [
          | inl same ↦ let one : v ≡ m = (let e : Some v ≡ Some m = sym here ∙ subst (λ (a : Actor). machine_at ms a ≡ Some m) same at in cc) in subst P one (this same)
          | inr apart ↦ rest apart m (sym (beside other apart) ∙ at)
        ]
