-- Whether a change is legal is decided by the state.
use Rattle.std.proofs.Common.{◌≡◌, ◌⊎◌, ⊎_elim, inl, inr, ℕ, zero, suc, ◌+◌, ◌<◌, ◌≤◌, Option, Some, None, refl, arith}
use Rattle.std.specs.Prelude.{IsSomeAnd, slice_get}
use Rattle.bx_global.specs.declared.change.Change.{Change}
use Rattle.bx_global.specs.declared.change.Change.TheVariants.{Claim, Close, Expire, Open, Renew, Shift, Take}
use Rattle.bx_global.specs.declared.state.GlobalState.{GlobalState}
use Rattle.bx_global.specs.Table.{IsLegal, MeetsRow, greatest}
use Rattle.bx_rows.specs.Modes.{IsEither, IsOneOf, IsReachable}
use Rattle.bx_rows.specs.Words.{IsLive, least_free, live_in, row_in}
use Rattle.bx_rows.specs.declared.session.SessionRow.{SessionRow}

-- it holds, or it doesn't
abbrev pub Decided : Type 0 → Type 0
Decided A = A ⊎ (A → ⊥)

both : {A B : Type 0} → Decided A → Decided B → Decided (A × B)
both (inl a) (inl b) = inl (a, b)
both (inl a) (inr not) = inr (λ p. not p.1)
both (inr not) b = inr (λ p. not p.0)

regroup : {A B : Type 0} → (A → B) → (B → A) → Decided A → Decided B
regroup on back (inl a) = inl (on a)
regroup on back (inr not) = inr (λ b. not (back b))

three : {A B C : Type 0} → Decided A → Decided B → Decided C → Decided (A × B × C)
three a b c = regroup (λ p. (p.0, p.1.0, p.1.1)) (λ p. (p.0, (p.1, p.2))) (both a (both b c))

four : {A B C D : Type 0} → Decided A → Decided B → Decided C → Decided D → Decided (A × B × C × D)
four a b c d = regroup (λ p. (p.0, p.1.0, p.1.1, p.1.2)) (λ p. (p.0, (p.1, p.2, p.3))) (both a (three b c d))

five : {A B C D E : Type 0} → Decided A → Decided B → Decided C → Decided D → Decided E → Decided (A × B × C × D × E)
five a b c d e = regroup (λ p. (p.0, p.1.0, p.1.1, p.1.2, p.1.3)) (λ p. (p.0, (p.1, p.2, p.3, p.4))) (both a (four b c d e))

either : {A B : Type 0} → Decided A → Decided B → Decided (A ⊎ B)
either (inl a) b = inl (inl a)
either (inr not_a) (inl b) = inl (inr b)
either (inr not_a) (inr not_b) = inr (λ one. ⊎_elim not_a not_b one)

not_so : {A : Type 0} → Decided A → Decided (A → ⊥)
not_so (inl a) = inr (λ not. not a)
not_so (inr not) = inl not

in_some : {A : Type 0} (P : A → Type 0) → ((a : A) → Decided (P a)) → (found : Option A) → Decided (IsSomeAnd found P)
in_some P decides None = inr (λ is. is)
in_some P decides (Some a) = decides a

no_row : (found : Option SessionRow) → Decided (found ≡ None)
no_row None = inl refl
no_row (Some row) = inr (λ e. cc)

same : (a b : ℕ) → Decided (a ≡ b)
same a b = grind arith

low : (a b : ℕ) → Decided (a ≤ b)
low a b = grind arith

is_either : (mode a b : ℕ) → Decided (IsEither mode a b)
is_either mode a b = either (same mode a) (same mode b)

is_one_of : (mode a b c : ℕ) → Decided (IsOneOf mode a b c)
is_one_of mode a b c = either (same mode a) (is_either mode b c)

reachable : (old new : ℕ) → Decided (IsReachable old new)
reachable zero new = is_one_of new 0 1 2
reachable (suc zero) new = is_either new 1 3
reachable (suc (suc zero)) new = is_either new 2 4
reachable (suc (suc (suc zero))) new = is_one_of new 3 1 0
reachable (suc (suc (suc (suc zero)))) new = is_one_of new 4 2 0
reachable (suc (suc (suc (suc (suc other))))) new = inr (λ is. is)

module _ (s : GlobalState) where
  lives : (session : ℕ) → Decided (IsLive s.sessions session)
  lives session = in_some (λ row. row.dead ≡ 0) (λ row. same row.dead 0) (row_in s.sessions session)

  meets : (change : Change) → Decided (MeetsRow s change)
  meets (Renew by boot reading) = four (same by s.master) (same boot s.master_boot) (low reading s.term_end) (low (reading + 8000) greatest)
  meets (Take by boot reading) = four (low (suc by) 2) (low (suc (s.term_end + 500)) reading) (low (s.term + 1) greatest) (low (reading + 8000) greatest)
  meets (Open node boot reading) = five (low (suc node) 4) (low reading s.term_end) (no_row (live_in s.sessions node boot)) (low (suc (least_free s.sessions)) 8) (low (s.next_session + 1) greatest)
  meets (Expire session term reading) = both (same term s.term)
      (in_some (λ row. (row.dead ≡ 0) × (row.until + 500 < reading)) (λ row. both (same row.dead 0) (low (suc (row.until + 500)) reading)) (row_in s.sessions session))
  meets (Claim gone by) = both (in_some (λ row. (row.dead ≡ 1) × (IsLive s.sessions row.by → ⊥)) (λ row. both (same row.dead 1) (not_so (lives row.by))) (row_in s.sessions gone)) (lives by)
  meets (Close gone by) = both (in_some (λ row. (row.dead ≡ 1) × (row.by ≡ by)) (λ row. both (same row.dead 1) (same row.by by)) (row_in s.sessions gone)) (lives by)
  meets (Shift device epoch mode second boot) = in_some (λ row. (epoch ≡ row.epoch) × IsReachable row.mode mode × (row.epoch + 1 ≤ greatest))
      (λ row. three (same epoch row.epoch) (reachable row.mode mode) (low (row.epoch + 1) greatest)) (slice_get s.devices device)

  pub legal_or_not : (change : Change) → Decided (IsLegal s change)
  legal_or_not change = by (low (s.index + 1) greatest) (meets change)
    where
      by : Decided (s.index + 1 ≤ greatest) → Decided (MeetsRow s change) → Decided (IsLegal s change)
      by (inl index) (inl row) = inl (record { index = index; row = row })
      by (inl index) (inr not) = inr (λ is. not is.row)
      by (inr not) row = inr (λ is. not is.index)
