-- Ballots in order, and two of three.
use Rattle.std.proofs.Common.{◌≡◌, ℕ, ◌⊎◌, sym, subst, inl, inr, arith}
use Rattle.bx_answers.specs.Handling.{AtMost}
use Rattle.bx_rows.specs.declared.ballot.Ballot.{Ballot}
use Rattle.bx_rows.specs.Ballots.{ComesBefore}
use Rattle.bx_rows.proofs.Ballots.{before_not_itself, before_then}
use Rattle.bx_agreement.specs.History.{AreTwo}

pub most_then : (a b c : Ballot) → AtMost a b → AtMost b c → AtMost a c
most_then a b c (inl e) k = subst (λ (x : Ballot). AtMost x c) (sym e) k
most_then a b c (inr h) (inl e) = inr (subst (λ (x : Ballot). ComesBefore a x) e h)
most_then a b c (inr h) (inr k) = inr (before_then a b c h k)

pub most_before : (a b c : Ballot) → AtMost a b → ComesBefore b c → ComesBefore a c
most_before a b c (inl e) k = subst (λ (x : Ballot). ComesBefore x c) (sym e) k
most_before a b c (inr h) k = before_then a b c h k

pub before_most : (a b c : Ballot) → ComesBefore a b → AtMost b c → ComesBefore a c
before_most a b c h (inl e) = subst (λ (x : Ballot). ComesBefore a x) e h
before_most a b c h (inr k) = before_then a b c h k

-- none comes both ways
pub not_back : (a b : Ballot) → AtMost a b → ComesBefore b a → ⊥
not_back a b h k = before_not_itself a (most_before a b a h k)

-- two of three and two of three have one in common
pub in_common : (a b c d : ℕ) → AreTwo a b → AreTwo c d → ((a ≡ c) ⊎ (a ≡ d)) ⊎ ((b ≡ c) ⊎ (b ≡ d))
in_common a b c d two other = grind (arith, two.one, two.other, two.differ, other.one, other.other, other.differ)
