-- The machines of a cluster, one kind behind the other.
use Rattle.std.proofs.Common.{◌≡◌, ℕ, zero, suc, ◌+◌, ◌*◌, ◌/◌, ◌%◌, ◌<◌, ◌≤◌, List, [], ◌∷◌, ◌++◌, true, false, Bool, filter, length, inl, inr, refl, arith, ap, sym, ◌∙◌, subst, append_assoc}
use Rattle.std.proofs.lemmas.Bool.{cases_lt}
use Rattle.std.proofs.lemmas.List.{append-nil, length-append}
use Rattle.std.proofs.lemmas.List.Elements.{All-append, All-filter, All-nil, All-push, Contains-append_cases, Contains-append_left, Contains-append_right, Contains-push, Contains-push_cases, filter_passes}
use Rattle.std.proofs.lemmas.List.Kept.{AllPairs-filter}
use Rattle.std.proofs.lemmas.List.Quantifiers.{all_pairs_push}
use Rattle.std.specs.Prelude.{cond}
use Rattle.std.specs.List.{All, AllPairs, Contains}
use Rattle.bx_base.specs.Actors.{ComesBefore}
use Rattle.bx_base.specs.declared.names.Actor.{Actor}
use Rattle.bx_base.specs.declared.names.Actor.TheVariants.{Node, Replica, Server, Member}
use Rattle.bx_world_events.specs.Causes.{IsThere}
use Rattle.bx_world_events.specs.Refusals.{Seen}
use Rattle.bx_driver.specs.Machines.{AreInTurn, machines_of}

-- so many machines of one kind, by their numbers from 0 on
abbrev pub first_ones : (ℕ → Actor) → ℕ → List Actor
first_ones name zero = []
first_ones name (suc n) = first_ones name n ++ name n ∷ []

abbrev pub first_member : ℕ → Actor
first_member device = Member (2 * device)

abbrev pub second_member : ℕ → Actor
second_member device = Member (2 * device + 1)

-- one kind behind the other
abbrev pub to_replicas : Seen → List Actor
to_replicas seen = first_ones Node seen.nodes ++ first_ones Replica 3

abbrev pub to_servers : Seen → List Actor
to_servers seen = to_replicas seen ++ first_ones Server 2

abbrev pub to_firsts : Seen → List Actor
to_firsts seen = to_servers seen ++ first_ones first_member seen.devices

abbrev pub machines : Seen → List Actor
machines seen = to_firsts seen ++ first_ones second_member seen.devices

-- ---- one kind

all_first : (P : Actor → Type 0) (name : ℕ → Actor) (n : ℕ) → ((k : ℕ) → k < n → P (name k)) → All P (first_ones name n)
all_first P name zero each = All-nil P
all_first P name (suc n) each = All-push P (first_ones name n) (name n) (all_first P name n (λ k under. each k (omega arith))) (each n (omega arith))

has_first : (name : ℕ → Actor) (n k : ℕ) → k < n → Contains (first_ones name n) (name k)
has_first name zero k under = absurd (omega arith)
has_first name (suc n) k under = elim (cases_lt k n) [
  | inl less ↦ Contains-append_left (first_ones name n) (name n ∷ []) (name k) (has_first name n k less)
  | inr more ↦
      let same : n ≡ k = omega arith in
      subst (λ i. Contains (first_ones name n ++ name n ∷ []) (name i)) same (Contains-push (first_ones name n) (name n))
]

-- behind machines that come before all of the kind
rises_with : (name : ℕ → Actor) (n : ℕ) (before : List Actor) → AllPairs ComesBefore before → All (λ who. (k : ℕ) → ComesBefore who (name k)) before → ((i j : ℕ) → i < j → ComesBefore (name i) (name j)) → AllPairs ComesBefore (before ++ first_ones name n)
rises_with name zero before rise under order = subst (AllPairs ComesBefore) (sym (append-nil before)) rise
rises_with name (suc n) before rise under order =
    let xs = before ++ first_ones name n in
    let ahead : All (λ who. ComesBefore who (name n)) (before ++ first_ones name n) =
    All-append (λ who. ComesBefore who (name n)) before (first_ones name n) (λ k d inside. under k d inside n) (all_first (λ who. ComesBefore who (name n)) name n (λ k less. order k n less)) in
    subst (AllPairs ComesBefore) (append_assoc before (first_ones name n) (name n ∷ [])) (all_pairs_push ComesBefore xs (name n) (rises_with name n before rise under order) ahead)

-- ---- all kinds

all_before : (name next : ℕ → Actor) (n : ℕ) → ((i j : ℕ) → ComesBefore (name i) (next j)) → All (λ who. (k : ℕ) → ComesBefore who (next k)) (first_ones name n)
all_before name next n order = all_first (λ who. (k : ℕ) → ComesBefore who (next k)) name n (λ i less k. order i k)

both_before : (next : ℕ → Actor) (xs ys : List Actor) → All (λ who. (k : ℕ) → ComesBefore who (next k)) xs → All (λ who. (k : ℕ) → ComesBefore who (next k)) ys → All (λ who. (k : ℕ) → ComesBefore who (next k)) (xs ++ ys)
both_before next xs ys first second = All-append (λ who. (k : ℕ) → ComesBefore who (next k)) xs ys first second

node_replica : (i j : ℕ) → ComesBefore (Node i) (Replica j)
node_replica i j = inl (omega arith)

node_server : (i j : ℕ) → ComesBefore (Node i) (Server j)
node_server i j = inl (omega arith)

replica_server : (i j : ℕ) → ComesBefore (Replica i) (Server j)
replica_server i j = inl (omega arith)

node_first : (i j : ℕ) → ComesBefore (Node i) (first_member j)
node_first i j = inl (omega arith)

replica_first : (i j : ℕ) → ComesBefore (Replica i) (first_member j)
replica_first i j = inl (omega arith)

server_first : (i j : ℕ) → ComesBefore (Server i) (first_member j)
server_first i j = inl (omega arith)

node_second : (i j : ℕ) → ComesBefore (Node i) (second_member j)
node_second i j = inl (omega arith)

replica_second : (i j : ℕ) → ComesBefore (Replica i) (second_member j)
replica_second i j = inl (omega arith)

server_second : (i j : ℕ) → ComesBefore (Server i) (second_member j)
server_second i j = inl (omega arith)

first_second : (i j : ℕ) → ComesBefore (first_member i) (second_member j)
first_second i j = inl (omega arith)

first_first : (i j : ℕ) → i < j → ComesBefore (first_member i) (first_member j)
first_first i j less = inr (omega arith, omega arith)

second_second : (i j : ℕ) → i < j → ComesBefore (second_member i) (second_member j)
second_second i j less = inr (omega arith, omega arith)

rises : (seen : Seen) → AllPairs ComesBefore (machines seen)
rises seen =
    let nodes = first_ones Node seen.nodes in
    let one : AllPairs ComesBefore (first_ones Node seen.nodes) = rises_with Node seen.nodes [] (λ i j d less inside. absurd (omega arith)) (All-nil (λ who. (k : ℕ) → ComesBefore who (Node k))) (λ i j less. inr (refl, less)) in
    let two = rises_with Replica 3 nodes one (all_before Node Replica seen.nodes node_replica) (λ i j less. inr (refl, less)) in
    let three =
    rises_with Server 2 (to_replicas seen) two (both_before Server nodes (first_ones Replica 3) (all_before Node Server seen.nodes node_server) (all_before Replica Server 3 replica_server)) (λ i j less. inr (refl, less)) in
    let four =
    rises_with first_member seen.devices (to_servers seen) three
    (both_before first_member (to_replicas seen) (first_ones Server 2)
    (both_before first_member nodes (first_ones Replica 3) (all_before Node first_member seen.nodes node_first) (all_before Replica first_member 3 replica_first)) (all_before Server first_member 2 server_first))
    first_first in
    rises_with second_member seen.devices (to_firsts seen) four
    (both_before second_member (to_servers seen) (first_ones first_member seen.devices)
    (both_before second_member (to_replicas seen) (first_ones Server 2)
    (both_before second_member nodes (first_ones Replica 3) (all_before Node second_member seen.nodes node_second) (all_before Replica second_member 3 replica_second)) (all_before Server second_member 2 server_second))
    (all_before first_member second_member seen.devices first_second))
    second_second

each_there : (seen : Seen) → All (IsThere seen) (machines seen)
each_there seen =
    let nodes = all_first (IsThere seen) Node seen.nodes (λ k less. less) in
    let replicas = All-append (IsThere seen) (first_ones Node seen.nodes) (first_ones Replica 3) nodes (all_first (IsThere seen) Replica 3 (λ k less. less)) in
    let servers = All-append (IsThere seen) (to_replicas seen) (first_ones Server 2) replicas (all_first (IsThere seen) Server 2 (λ k less. less)) in
    let firsts = All-append (IsThere seen) (to_servers seen) (first_ones first_member seen.devices) servers (all_first (IsThere seen) first_member seen.devices (λ k less. omega arith)) in
    All-append (IsThere seen) (to_firsts seen) (first_ones second_member seen.devices) firsts (all_first (IsThere seen) second_member seen.devices (λ k less. omega arith))

-- what stands among some of them stands among all
with_replicas : (seen : Seen) (who : Actor) → Contains (to_replicas seen) who → Contains (machines seen) who
with_replicas seen who has =
    let servers = Contains-append_left (to_replicas seen) (first_ones Server 2) who has in
    let firsts = Contains-append_left (to_servers seen) (first_ones first_member seen.devices) who servers in
    Contains-append_left (to_firsts seen) (first_ones second_member seen.devices) who firsts

every_there : (seen : Seen) (who : Actor) → IsThere seen who → Contains (machines seen) who
every_there seen (Node n) there = with_replicas seen (Node n) (Contains-append_left (first_ones Node seen.nodes) (first_ones Replica 3) (Node n) (has_first Node seen.nodes n there))
every_there seen (Replica n) there = with_replicas seen (Replica n) (Contains-append_right (first_ones Node seen.nodes) (first_ones Replica 3) (Replica n) (has_first Replica 3 n there))
every_there seen (Server n) there =
    let servers = Contains-append_right (to_replicas seen) (first_ones Server 2) (Server n) (has_first Server 2 n there) in
    let firsts = Contains-append_left (to_servers seen) (first_ones first_member seen.devices) (Server n) servers in
    Contains-append_left (to_firsts seen) (first_ones second_member seen.devices) (Server n) firsts
every_there seen (Member n) there = elim (cases_lt (n % 2) 1) [
  | inl even ↦
      let same : 2 * (n / 2) ≡ n = omega (arith, even) in
      let its = subst (λ m. Contains (first_ones first_member seen.devices) (Member m)) same (has_first first_member seen.devices (n / 2) there) in
      let firsts = Contains-append_right (to_servers seen) (first_ones first_member seen.devices) (Member n) its in
      Contains-append_left (to_firsts seen) (first_ones second_member seen.devices) (Member n) firsts
  | inr odd ↦
      let same : 2 * (n / 2) + 1 ≡ n = omega (arith, odd) in
      let its = subst (λ m. Contains (first_ones second_member seen.devices) (Member m)) same (has_first second_member seen.devices (n / 2) there) in
      Contains-append_right (to_firsts seen) (first_ones second_member seen.devices) (Member n) its
]

pub all_machines : (seen : Seen) (these : List Actor) → these ≡ machines seen → AreInTurn (IsThere seen) these
all_machines seen these is = subst (AreInTurn (IsThere seen)) (sym is) (record { each = each_there seen; every = every_there seen; rise = rises seen })

-- put one kind behind the other, they are all
pub gathered : (seen : Seen) (a b c d e : List Actor) (n r s f m : ℕ) → a ≡ first_ones Node n → b ≡ a ++ first_ones Replica r → c ≡ b ++ first_ones Server s → d ≡ c ++ first_ones first_member f → e ≡ d ++ first_ones second_member m
    → n ≡ seen.nodes → r ≡ 3 → s ≡ 2 → f ≡ seen.devices → m ≡ seen.devices → e ≡ machines seen
gathered seen a b c d e n r s f m one two three four five nodes replicas servers firsts seconds =
    let as_nodes : a ≡ first_ones Node seen.nodes = one ∙ ap (first_ones Node) nodes in
    let as_replicas : b ≡ to_replicas seen = two ∙ ap (λ k. a ++ first_ones Replica k) replicas ∙ ap (λ xs. xs ++ first_ones Replica 3) as_nodes in
    let as_servers : c ≡ to_servers seen = three ∙ ap (λ k. b ++ first_ones Server k) servers ∙ ap (λ xs. xs ++ first_ones Server 2) as_replicas in
    let as_firsts : d ≡ to_firsts seen = four ∙ ap (λ k. c ++ first_ones first_member k) firsts ∙ ap (λ xs. xs ++ first_ones first_member seen.devices) as_servers in
    five ∙ ap (λ k. d ++ first_ones second_member k) seconds ∙ ap (λ xs. xs ++ first_ones second_member seen.devices) as_firsts

-- ---- those that pass a test

has_passed : (test : Actor → Bool) (these : List Actor) (who : Actor) → test who ≡ true → Contains these who → Contains (filter test these) who
has_passed test [] who pass has = absurd (omega (arith, has.1))
has_passed test (one ∷ rest) who pass has = elim (Contains-append_cases (one ∷ []) rest who has) [
  | inr later ↦ behind (test one) (has_passed test rest who pass later)
  | inl first ↦ elim (Contains-push_cases [] one who first) [
    | inl none ↦ absurd (omega (arith, none.1))
    | inr same ↦ here same
  ]
]
  where
    behind : (b : Bool) → Contains (filter test rest) who → Contains (cond b (one ∷ filter test rest) (filter test rest)) who
    behind true more = Contains-append_right (one ∷ []) (filter test rest) who more
    behind false more = more

    here : one ≡ who → Contains (cond (test one) (one ∷ filter test rest) (filter test rest)) who
    here same =
        let passes : test one ≡ true = ap test same ∙ pass in
        let first : Contains (one ∷ filter test rest) who = subst (Contains (one ∷ filter test rest)) same (Contains-append_left (one ∷ []) (filter test rest) one (Contains-push [] one)) in
        subst (λ b. Contains (cond b (one ∷ filter test rest) (filter test rest)) who) (sym passes) first

pub passed_in_turn : (P Q : Actor → Type 0) (test : Actor → Bool) (these : List Actor) → ((who : Actor) → P who → test who ≡ true → Q who) → ((who : Actor) → Q who → P who × (test who ≡ true)) → AreInTurn P these → AreInTurn Q (filter test these)
passed_in_turn P Q test these to from all = record {
  each = λ k d inside. to _ (All-filter test P these all.each k d inside) (filter_passes test these k d inside);
  every = λ who stands. has_passed test these who (from who stands).1 (all.every who (from who stands).0);
  rise = AllPairs-filter ComesBefore test these all.rise;
}

-- ---- how many there are

count_ones : (name : ℕ → Actor) (n : ℕ) → length (first_ones name n) ≡ n
count_ones name zero = refl
count_ones name (suc n) = let e = length-append (first_ones name n) (name n ∷ []) in omega (arith, e, count_ones name n)

pub all_counted : (seen : Seen) (these : List Actor) → these ≡ machines seen → length these ≡ machines_of seen
all_counted seen these is =
    let nodes = count_ones Node seen.nodes in
    let firsts = count_ones first_member seen.devices in
    let seconds = count_ones second_member seen.devices in
    let a = length-append (first_ones Node seen.nodes) (first_ones Replica 3) in
    let b = length-append (to_replicas seen) (first_ones Server 2) in
    let c = length-append (to_servers seen) (first_ones first_member seen.devices) in
    let d = length-append (to_firsts seen) (first_ones second_member seen.devices) in
    let e : length these ≡ length (machines seen) = ap length is in
    omega (arith, e, d, c, b, a, nodes, firsts, seconds)

pub fewer_passed : (test : Actor → Bool) (these : List Actor) → length (filter test these) ≤ length these
fewer_passed test [] = omega arith
fewer_passed test (one ∷ rest) = by_test (test one) (fewer_passed test rest)
  where
    by_test : (b : Bool) → length (filter test rest) ≤ length rest → length (cond b (one ∷ filter test rest) (filter test rest)) ≤ suc (length rest)
    by_test true less = omega (arith, less)
    by_test false less = omega (arith, less)
