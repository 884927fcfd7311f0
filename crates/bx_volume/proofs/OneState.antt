-- The cells tell one state.
use Rattle.std.proofs.Common.{◌≡◌, ℕ, ◌<◌, ◌≤◌, ◌⊎◌, inl, inr, arith, sym, ap, ◌∙◌, Some}
use Rattle.bx_rows.specs.declared.ballot.Ballot.{Ballot}
use Rattle.bx_global.specs.declared.held.Held.{Held}
use Rattle.bx_global.specs.declared.state.GlobalState.{GlobalState}
use Rattle.bx_rows.specs.Ballots.{ComesBefore}
use Rattle.bx_volume.specs.States.{Cells, CountsBefore, IsAcceptedState, IsDecidedState, TellsState}

not_both : (a b : Ballot) → ComesBefore a b → ComesBefore b a → ⊥
not_both a b one other = grind arith

not_itself : (a b : Ballot) → a ≡ b → ComesBefore a b → ⊥
not_itself a b same before = grind arith

one_replica : (i j : ℕ) (h k : Held) → CountsBefore i h j k → CountsBefore j k i h → i ≡ j
one_replica i j h k (inl one) (inl other) = absurd (omega (arith, one, other))
one_replica i j h k (inl one) (inr (same, other)) = absurd (omega (arith, one, same))
one_replica i j h k (inr (same, one)) (inl other) = absurd (omega (arith, same, other))
one_replica i j h k (inr (same, inl one)) (inr (again, inl other)) = absurd (not_both k.ballot h.ballot one other)
one_replica i j h k (inr (same, inl one)) (inr (again, inr (ballot, le))) = absurd (not_itself k.ballot h.ballot (sym ballot) one)
one_replica i j h k (inr (same, inr (ballot, le))) (inr (again, inl other)) = absurd (not_itself h.ballot k.ballot (sym ballot) other)
one_replica i j h k (inr (same, inr (ballot, le))) (inr (again, inr (tollab, ge))) = omega (arith, le, ge)

one_cell : (cells : Cells) (i j : ℕ) (h k : Held) → i ≡ j → cells i ≡ Some h → cells j ≡ Some k → h ≡ k
one_cell cells i j h k same one other = some_same h k (sym one ∙ ap cells same ∙ other)
  where
    some_same : (h k : Held) → Some h ≡ Some k → h ≡ k
    some_same h k e = cc

pub one_state : (cells : Cells) (a b : GlobalState) → TellsState cells a → TellsState cells b → a ≡ b
one_state cells a b one other = by one.is other.is
  where
    by : IsAcceptedState cells a ⊎ IsDecidedState cells a → IsAcceptedState cells b ⊎ IsDecidedState cells b → a ≡ b
    by (inl x) (inl y) =
        let same = one_replica x.replica y.replica x.held y.held (x.best y.replica y.held y.is) (y.best x.replica x.held x.is) in
        x.state_is ∙ ap (λ (h : Held). h.accepted) (one_cell cells x.replica y.replica x.held y.held same x.is.has y.is.has) ∙ sym y.state_is
    by (inl x) (inr y) = absurd (y.none_above x.replica x.held x.is)
    by (inr x) (inl y) = absurd (x.none_above y.replica y.held y.is)
    by (inr x) (inr y) =
        let same = lowest x.replica y.replica x.held.decided.index y.held.decided.index (x.best y.replica y.held y.is_replica y.has) (y.best x.replica x.held x.is_replica x.has) in
        x.state_is ∙ ap (λ (h : Held). h.decided) (one_cell cells x.replica y.replica x.held y.held same x.has y.has) ∙ sym y.state_is
      where
        lowest : (i j m n : ℕ) → (n < m) ⊎ ((n ≡ m) × (i ≤ j)) → (m < n) ⊎ ((m ≡ n) × (j ≤ i)) → i ≡ j
        lowest i j m n x y = grind arith
