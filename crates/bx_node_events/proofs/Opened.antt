-- A state in which a session has a row is none before that in which it was opened.
use Rattle.std.proofs.Common.{◌≡◌, inl, inr, ℕ, ◌≤◌, Bool, true, false, ◌||◌, List, [], ◌∷◌, refl, sym, ◌∙◌, ap, arith}
use Rattle.std.specs.Prelude.{if◌then◌else◌, is_some}
use Rattle.bx_facts.specs.Chains.{Chain, HasRow, IsAmong, IsPlace, first_index, is_ever, opened_at, state_after}
use Rattle.bx_global.specs.declared.change.Change.{Change}
use Rattle.bx_global.specs.declared.state.GlobalState.{GlobalState}
use Rattle.bx_global.proofs.Rising.{index_rises}
use Rattle.bx_rows.specs.Words.{row_in}

or_right : (a b : Bool) → b ≡ true → (a || b) ≡ true
or_right true b is = refl
or_right false b is = is

or_left : (a b : Bool) → a ≡ true → (a || b) ≡ true
or_left true b is = refl
or_left false b is = absurd cc

-- a session that has a row in some state was there ever
was_ever : (first : GlobalState) (changes : List Change) (s : GlobalState) (n : ℕ) → IsAmong first changes s → HasRow s n → is_ever first changes n ≡ true
was_ever first [] s n is has = ap (λ (t : GlobalState). is_some (row_in t.sessions n)) (sym is) ∙ has
was_ever first (change ∷ older) s n (inl is) has = or_right (is_ever first older n) (is_some (row_in (state_after first (change ∷ older)).sessions n)) (ap (λ (t : GlobalState). is_some (row_in t.sessions n)) (sym is) ∙ has)
was_ever first (change ∷ older) s n (inr among) has = or_left (is_ever first older n) (is_some (row_in (state_after first (change ∷ older)).sessions n)) (was_ever first older s n among has)

-- it was opened in no later state than the last
opened_last : (first : GlobalState) (changes : List Change) (n : ℕ) → first_index first changes n ≤ (state_after first changes).index
opened_last first [] n = omega arith
opened_last first (change ∷ older) n = by (is_ever first older n) refl (opened_last first older n)
  where
    by : (b : Bool) → is_ever first older n ≡ b → first_index first older n ≤ (state_after first older).index → first_index first (change ∷ older) n ≤ (state_after first (change ∷ older)).index
    by true ever low =
        let e = ap (λ (b : Bool). if b then first_index first older n else (state_after first (change ∷ older)).index) ever in
        let more = index_rises (state_after first older) change in
        omega (arith, e, more, low)
    by false ever low =
        let e = ap (λ (b : Bool). if b then first_index first older n else (state_after first (change ∷ older)).index) ever in omega (arith, e)

opened_in : (first : GlobalState) (changes : List Change) (s : GlobalState) (n : ℕ) → IsAmong first changes s → HasRow s n → first_index first changes n ≤ s.index
opened_in first [] s n is has = let e = ap (λ (t : GlobalState). t.index) is in omega (arith, e)
opened_in first (change ∷ older) s n (inl is) has = let e = ap (λ (t : GlobalState). t.index) is in let low = opened_last first (change ∷ older) n in omega (arith, e, low)
opened_in first (change ∷ older) s n (inr among) has =
    let ever = was_ever first older s n among has in
    let e = ap (λ (b : Bool). if b then first_index first older n else (state_after first (change ∷ older)).index) ever in
    let low = opened_in first older s n among has in
    omega (arith, e, low)

pub opened_most : (chain : Chain) (s : GlobalState) (n : ℕ) → IsPlace chain s → HasRow s n → opened_at chain n ≤ s.index
opened_most chain s n place has = opened_in chain.first chain.changes s n place has
