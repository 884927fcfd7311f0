-- Machines are in order.
use Rattle.std.proofs.Common.{◌≡◌, ℕ, ◌<◌, ◌⊎◌, ap, inl, inr, arith}
use Rattle.std.proofs.lemmas.Bool.{cases_lt}
use Rattle.bx_base.specs.declared.names.Actor.{Actor}
use Rattle.bx_base.specs.declared.names.Actor.TheVariants.{Node, Replica, Server, Member}
use Rattle.bx_base.specs.Actors.{ComesBefore, kind_of, number_of}

pub before_not_itself : (a : Actor) → ComesBefore a a → ⊥
before_not_itself a h = omega arith

pub before_then : (a b c : Actor) → ComesBefore a b → ComesBefore b c → ComesBefore a c
before_then a b c h k = grind arith

-- a machine is told by its kind and its number
same_machine : (a b : Actor) → kind_of a ≡ kind_of b → number_of a ≡ number_of b → a ≡ b
same_machine (Node i) (Node j) k n = ap Node n
same_machine (Node i) (Replica j) k n = absurd (omega (arith, k))
same_machine (Node i) (Server j) k n = absurd (omega (arith, k))
same_machine (Node i) (Member j) k n = absurd (omega (arith, k))
same_machine (Replica i) (Node j) k n = absurd (omega (arith, k))
same_machine (Replica i) (Replica j) k n = ap Replica n
same_machine (Replica i) (Server j) k n = absurd (omega (arith, k))
same_machine (Replica i) (Member j) k n = absurd (omega (arith, k))
same_machine (Server i) (Node j) k n = absurd (omega (arith, k))
same_machine (Server i) (Replica j) k n = absurd (omega (arith, k))
same_machine (Server i) (Server j) k n = ap Server n
same_machine (Server i) (Member j) k n = absurd (omega (arith, k))
same_machine (Member i) (Node j) k n = absurd (omega (arith, k))
same_machine (Member i) (Replica j) k n = absurd (omega (arith, k))
same_machine (Member i) (Server j) k n = absurd (omega (arith, k))
same_machine (Member i) (Member j) k n = let same : i ≡ j = omega (arith, k, n) in ap Member same

-- one of two numbers is less, or they are the same
one_of : (m n : ℕ) → (m < n) ⊎ ((m ≡ n) ⊎ (n < m))
one_of m n = elim (cases_lt m n) [
  | inl lt ↦ inl lt
  | inr le ↦ elim (cases_lt n m) [
    | inl gt ↦ inr (inr gt)
    | inr ge ↦ inr (inl (omega arith))
  ]
]

pub one_before : (a b : Actor) → ComesBefore a b ⊎ ((a ≡ b) ⊎ ComesBefore b a)
one_before a b = elim (one_of (kind_of a) (kind_of b)) [
  | inl lt ↦ inl (inl lt)
  | inr other ↦ elim other [
    | inr gt ↦ inr (inr (inl gt))
    | inl same ↦ elim (one_of (number_of a) (number_of b)) [
      | inl lt ↦ inl (inr (same, lt))
      | inr next ↦ elim next [
        | inr gt ↦ inr (inr (inr (omega (arith, same), gt)))
        | inl equal ↦ inr (inl (same_machine a b same equal))
      ]
    ]
  ]
]
