-- Ballots are in order.
use Rattle.std.proofs.Common.{◌≡◌, ℕ, ◌<◌, ◌⊎◌, refl, sym, inl, inr, arith}
use Rattle.std.proofs.lemmas.Bool.{cases_lt}
use Rattle.bx_rows.specs.declared.ballot.Ballot.{Ballot}
use Rattle.bx_rows.specs.Ballots.{ComesBefore}

-- one of two numbers is less, or they are the same
one_of : (m n : ℕ) → (m < n) ⊎ ((m ≡ n) ⊎ (n < m))
one_of m n = elim (cases_lt m n) [
  | inl lt ↦ inl lt
  | inr le ↦ elim (cases_lt n m) [
    | inl gt ↦ inr (inr gt)
    | inr ge ↦ inr (inl (omega arith))
  ]
]

pub before_not_itself : (a : Ballot) → ComesBefore a a → ⊥
before_not_itself a h = omega arith

pub before_then : (a b c : Ballot) → ComesBefore a b → ComesBefore b c → ComesBefore a c
before_then a b c h k = grind arith

same_ballot : (a b : Ballot) → a.round ≡ b.round → a.actor ≡ b.actor → a.boot ≡ b.boot → a ≡ b
same_ballot a b r i n = rw (← r, ← i, ← n) refl

pub one_before : (a b : Ballot) → ComesBefore a b ⊎ ((a ≡ b) ⊎ ComesBefore b a)
one_before a b = elim (one_of a.round b.round) [
  | inl lt ↦ inl (inl lt)
  | inr other ↦ elim other [
    | inr gt ↦ inr (inr (inl gt))
    | inl same ↦ elim (one_of a.actor b.actor) [
      | inl lt ↦ inl (inr (same, inl lt))
      | inr next ↦ elim next [
        | inr gt ↦ inr (inr (inr (sym same, inl gt)))
        | inl alike ↦ elim (one_of a.boot b.boot) [
          | inl lt ↦ inl (inr (same, inr (alike, lt)))
          | inr last ↦ elim last [
            | inr gt ↦ inr (inr (inr (sym same, inr (sym alike, gt))))
            | inl equal ↦ inr (inl (same_ballot a b same alike equal))
          ]
        ]
      ]
    ]
  ]
]
