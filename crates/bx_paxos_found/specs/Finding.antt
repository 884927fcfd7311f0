-- What is seen of the disks of replicas, and what is made of it.
use Rattle.std.specs.Prelude.{◌≡◌, ℕ, ◌+◌, ◌^◌, ◌<◌, ◌≤◌, ◌⊎◌, max, List, length, Option, Some, None}
use Rattle.bx_acceptor.specs.Standing.{IsFound}
use Rattle.bx_acceptor.specs.declared.origin.Origin.{Origin}
use Rattle.bx_acceptor.specs.declared.origin.Origin.TheVariants.{Found as FoundAs, Apart}
use Rattle.bx_agreement.specs.History.{AreTwo}
use Rattle.bx_cell.specs.Halves.{Found}
use Rattle.bx_disk.specs.Disks.{Image}
use Rattle.bx_facts.specs.Chains.{most_boot}
use Rattle.bx_facts.specs.Labelled.{IsReplicaLabelled}
use Rattle.bx_global.specs.declared.held.Held.{Held}
use Rattle.bx_global.specs.declared.state.GlobalState.{GlobalState}
use Rattle.bx_paxos.specs.Reading.{ReadsState}
use Rattle.bx_paxos.specs.Shown.{IsUnread}
use Rattle.bx_paxos_found.specs.declared.looking.Seen.{Seen}
use Rattle.bx_paxos_found.specs.declared.making.FoundState.{FoundState}
use Rattle.bx_paxos_found.specs.Boots.{boot_of_held}
use Rattle.bx_paxos_found.specs.Choosing.{chosen_of}

-- this is seen of a replica: nothing, where its disk isn't read; else what its cell has, and under which number
abbrev pub IsSeen : ℕ → List ℕ → Image → ℕ → Option Seen → Type 0
IsSeen devices sizes image n None = IsUnread devices sizes image n
IsSeen devices sizes image n (Some x) = IsReplicaLabelled devices sizes image n × ((found : Found) × (found.number ≡ x.number) × IsFound devices (image n) found x.held)

-- what a cell has, how it came to be, its greatest boot, and that it counts
abbrev pub held_of : Option Seen → Option Held
held_of None = None
held_of (Some x) = Some x.held

abbrev pub origin_of : Option Seen → Origin
origin_of None = Apart
origin_of (Some x) = FoundAs x.number

abbrev pub boot_of : Option Seen → ℕ
boot_of None = 0
boot_of (Some x) = boot_of_held x.held

abbrev pub count_of : Option Seen → ℕ
count_of None = 0
count_of (Some x) = 1

-- What is made of what is seen of three replicas: at least two count.
pub record IsMadeOf (a b c : Option Seen) (f : FoundState) : Type 0 where
  pub two : 2 ≤ count_of a + (count_of b + count_of c)
  pub state : chosen_of (held_of a) (held_of b) (held_of c) ≡ Some f.state
  pub first : f.origins.first ≡ origin_of a
  pub second : f.origins.second ≡ origin_of b
  pub third : f.origins.third ≡ origin_of c
  pub boot : f.boot ≡ max (boot_of a) (max (boot_of b) (boot_of c))
  pub index : f.state.index + 1 < 2 ^ 64
  pub most : f.boot ≤ most_boot

-- .. of too few, or of cells that are read as no state that another may follow
abbrev pub AreTooFew : Option Seen → Option Seen → Option Seen → Type 0
AreTooFew a b c = (count_of a + (count_of b + count_of c) < 2) ⊎ ((chosen_of (held_of a) (held_of b) (held_of c) ≡ None)
    ⊎ ((s : GlobalState) × (chosen_of (held_of a) (held_of b) (held_of c) ≡ Some s) × (2 ≤ count_of a + (count_of b + count_of c)) × (2 ^ 64 ≤ s.index + 1)))

-- .. of cells that are read as a state that another may follow, and whose greatest boot is that
pub record IsSpentAt (a b c : Option Seen) (boot : ℕ) : Type 0 where
  pub two : 2 ≤ count_of a + (count_of b + count_of c)
  pub state : (s : GlobalState) × (chosen_of (held_of a) (held_of b) (held_of c) ≡ Some s) × (s.index + 1 < 2 ^ 64)
  pub greatest : boot ≡ max (boot_of a) (max (boot_of b) (boot_of c))
  pub above : most_boot < boot

-- ---- what disks tell

-- The replica is labelled, and its disk has a cell that can be read, which has this.
abbrev pub Counts : ℕ → List ℕ → Image → ℕ → Held → Type 0
Counts devices sizes image n held = IsReplicaLabelled devices sizes image n × ((found : Found) × IsFound devices (image n) found held)

-- Two replicas aren't labelled, or have no cell that can be read.
pub record LackMajority (devices : ℕ) (sizes : List ℕ) (image : Image) : Type 0 where
  pub one : ℕ
  pub other : ℕ
  pub two : AreTwo one other
  pub one_unread : IsUnread devices sizes image one
  pub other_unread : IsUnread devices sizes image other

-- They are read as a state that no other may follow, since its index is the greatest that a number can be.
abbrev pub AreAtTheEnd : ℕ → List ℕ → Image → Type 0
AreAtTheEnd devices sizes image = (made : GlobalState) → length made.devices ≡ devices → (s : GlobalState) × ReadsState made sizes image s × (2 ^ 64 ≤ s.index + 1)

-- They are read as a state that another may follow.
abbrev pub AreFollowed : ℕ → List ℕ → Image → Type 0
AreFollowed devices sizes image = (made : GlobalState) → length made.devices ≡ devices → (s : GlobalState) × ReadsState made sizes image s × (s.index + 1 < 2 ^ 64)

-- This is the greatest boot in the cells of replicas that count.
pub record IsGreatestBoot (devices : ℕ) (sizes : List ℕ) (image : Image) (boot : ℕ) : Type 0 where
  pub most : (n : ℕ) (held : Held) → Counts devices sizes image n held → boot_of_held held ≤ boot
  pub is : (n : ℕ) × (held : Held) × Counts devices sizes image n held × (boot_of_held held ≡ boot)
