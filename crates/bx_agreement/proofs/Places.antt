-- The places of a chain: one for each index.
use Rattle.std.proofs.Common.{◌≡◌, ◌+◌, ◌<◌, ◌≤◌, List, [], ◌∷◌, refl, sym, ap, ◌∙◌, inl, inr, arith}
use Rattle.std.proofs.lemmas.Bool.{cases_lt}
use Rattle.bx_global.specs.declared.change.Change.{Change}
use Rattle.bx_global.specs.declared.state.GlobalState.{GlobalState}
use Rattle.bx_global.proofs.Rising.{index_rises}
use Rattle.bx_facts.specs.Chains.{state_after, IsAmong}

pub not_above : (first : GlobalState) (changes : List Change) (s : GlobalState) → IsAmong first changes s → s.index ≤ (state_after first changes).index
not_above first [] s e = omega (arith, ap (λ (x : GlobalState). x.index) e)
not_above first (c ∷ older) s (inl e) = omega (arith, ap (λ (x : GlobalState). x.index) e)
not_above first (c ∷ older) s (inr among) = omega (arith, not_above first older s among, index_rises (state_after first older) c)

pub last_among : (first : GlobalState) (changes : List Change) → IsAmong first changes (state_after first changes)
last_among first [] = refl
last_among first (c ∷ older) = inl refl

pub not_below : (first : GlobalState) (changes : List Change) (s : GlobalState) → IsAmong first changes s → first.index ≤ s.index
not_below first [] s e = omega (arith, ap (λ (x : GlobalState). x.index) e)
not_below first (c ∷ older) s (inl e) = omega (arith, ap (λ (x : GlobalState). x.index) e, index_rises (state_after first older) c, not_below first older (state_after first older) (last_among first older))
not_below first (c ∷ older) s (inr among) = not_below first older s among

pub one_place : (first : GlobalState) (changes : List Change) (s t : GlobalState) → IsAmong first changes s → IsAmong first changes t → s.index ≡ t.index → s ≡ t
one_place first [] s t e k index = e ∙ sym k
one_place first (c ∷ older) s t (inl e) (inl k) index = e ∙ sym k
one_place first (c ∷ older) s t (inl e) (inr k) index = absurd (omega (arith, ap (λ (x : GlobalState). x.index) e, index_rises (state_after first older) c, not_above first older t k, index))
one_place first (c ∷ older) s t (inr e) (inl k) index = absurd (omega (arith, ap (λ (x : GlobalState). x.index) k, index_rises (state_after first older) c, not_above first older s e, index))
one_place first (c ∷ older) s t (inr e) (inr k) index = one_place first older s t e k index

-- behind a place below the last there is another
pub one_behind : (first : GlobalState) (changes : List Change) (s : GlobalState) → IsAmong first changes s → s.index < (state_after first changes).index
    → (t : GlobalState) × IsAmong first changes t × (t.index ≡ s.index + 1)
one_behind first [] s e less = absurd (omega (arith, ap (λ (x : GlobalState). x.index) e))
one_behind first (c ∷ older) s (inl e) less = absurd (omega (arith, ap (λ (x : GlobalState). x.index) e))
one_behind first (c ∷ older) s (inr among) less =
    elim (cases_lt s.index (state_after first older).index) [
      | inl lower ↦ let k = one_behind first older s among lower in (k.0, inr k.1, k.2)
      | inr level ↦ (state_after first (c ∷ older), inl refl, omega (arith, level, not_above first older s among, index_rises (state_after first older) c))
    ]
