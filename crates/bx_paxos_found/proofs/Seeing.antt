-- What is seen of a replica, and what three are read as.
use Rattle.std.proofs.Common.{◌≡◌, ℕ, ◌+◌, ◌<◌, ◌≤◌, ◌⊎◌, inl, inr, Bool, true, false, List, length, Option, Some, None, sym, ◌∙◌}
use Rattle.std.specs.Prelude.{IfNone, IfSome}
use Rattle.bx_acceptor.specs.Standing.{IsFound, IsNotFound}
use Rattle.bx_cell.specs.Halves.{Found}
use Rattle.bx_disk.specs.Disks.{Disks, Image}
use Rattle.bx_facts.specs.Labelled.{IsReplicaLabelled}
use Rattle.bx_global.specs.declared.state.GlobalState.{GlobalState}
use Rattle.bx_paxos.specs.Reading.{ReadsState}
use Rattle.bx_paxos_found.proofs.OneRead.{devices_read}
use Rattle.bx_paxos_found.proofs.Refusals.{few_lack, none_lack, read_so}
use Rattle.bx_paxos_found.specs.Choosing.{chosen_of}
use Rattle.bx_paxos_found.specs.Finding.{IsSeen, LackMajority, count_of, held_of}
use Rattle.bx_paxos_found.specs.declared.looking.Seen.{Seen}

pub seen_of : (devices : ℕ) (sizes : List ℕ) (image : Image) (n : ℕ) (o : Option Seen) → IsReplicaLabelled devices sizes image n
    → IfSome o (λ x. (found : Found) × (found.number ≡ x.number) × IsFound devices (image n) found x.held) → IfNone o (IsNotFound devices (image n)) → IsSeen devices sizes image n o
seen_of devices sizes image n None label some none = record { none = λ found held also is. none found held is }
seen_of devices sizes image n (Some x) label some none = (label, some)

pub not_both : (b : Bool) → b ≡ false → b ≡ true → ⊥
not_both b off on = let bad : false ≡ true = sym off ∙ on in absurd cc

pub some_map : {A : Type 0} (o : Option A) (P Q : A → Type 0) → ((x : A) → P x → Q x) → IfSome o P → IfSome o Q
some_map None P Q map is = tt
some_map (Some x) P Q map is = map x is

pub none_map : {A : Type 0} (o : Option A) (P Q : Type 0) → (P → Q) → IfNone o P → IfNone o Q
none_map None P Q map is = map is
none_map (Some x) P Q map is = tt

module _ (devices : ℕ) (x : Disks) (a b c : Option Seen) (seen_a : IsSeen devices x.sizes x.reads 0 a) (seen_b : IsSeen devices x.sizes x.reads 1 b) (seen_c : IsSeen devices x.sizes x.reads 2 c) where
  pub read_three : (some_made : GlobalState) → length some_made.devices ≡ devices → (s : GlobalState) → (2 ≤ count_of a + (count_of b + count_of c)) × (chosen_of (held_of a) (held_of b) (held_of c) ≡ Some s)
      → (length s.devices ≡ devices) × ((made : GlobalState) → length made.devices ≡ devices → ReadsState made x.sizes x.reads s)
  read_three some_made same s (least, is) =
      let read : (made : GlobalState) → length made.devices ≡ devices → ReadsState made x.sizes x.reads s = λ made same. read_so devices x a b c seen_a seen_b seen_c made s same least is in
      (devices_read devices x.sizes x.reads some_made s same (read some_made same), read)

  pub lack_three : (count_of a + (count_of b + count_of c) < 2) ⊎ (chosen_of (held_of a) (held_of b) (held_of c) ≡ None) → LackMajority devices x.sizes x.reads
  lack_three (inl few) = few_lack devices x a b c seen_a seen_b seen_c few
  lack_three (inr none) = none_lack devices x a b c seen_a seen_b seen_c none
