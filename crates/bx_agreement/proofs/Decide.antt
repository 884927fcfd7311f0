-- A state was chosen: it is a place of the chain, or the chain grows by it.
use Rattle.std.proofs.Common.{◌≡◌, ℕ, ◌+◌, ◌⊎◌, List, ◌∷◌, sym, ap, subst, ◌∙◌, inl, inr, arith}
use Rattle.std.specs.Prelude.{Option, Contains}
use Rattle.std.proofs.lemmas.Bool.{cases_lt}
use Rattle.bx_global.specs.declared.change.Change.{Change}
use Rattle.bx_global.specs.declared.held.Held.{Held}
use Rattle.bx_global.specs.declared.state.GlobalState.{GlobalState}
use Rattle.bx_global.specs.Table.{IsLegal, effect}
use Rattle.bx_global.proofs.Rising.{index_rises}
use Rattle.bx_facts.specs.Chains.{last, IsPlace}
use Rattle.bx_agreement.specs.History.{History, IsChosen, ComesBy}
use Rattle.bx_agreement.specs.Sound.{IsSound, with_state, with_change}
use Rattle.bx_agreement.proofs.Agree.{agree}
use Rattle.bx_agreement.proofs.Places.{not_above, not_below, last_among, one_place, one_behind}

pub decides : (h : History) (cells : ℕ → Option Held) (s : GlobalState) (change : Change) → IsSound h cells → IsChosen h.proposals h.votes s → ComesBy h.chain h.proposed change s
    → IsPlace h.chain s ⊎ (Contains h.proposed change × IsLegal (last h.chain) change × (s ≡ effect (last h.chain) change))
decides h cells s change sound chosen (place, follows) =
    let rises : s.index ≡ place.index + 1 = ap (λ (x : GlobalState). x.index) follows.is ∙ index_rises place change in
    elim (cases_lt place.index (last h.chain).index) [
      | inl less ↦
          let k = one_behind h.chain.first h.chain.changes place follows.stands less in
          elim (sound.chosen k.0 k.1) [
            | inl first ↦ absurd (omega (arith, ap (λ (x : GlobalState). x.index) first, k.2, not_below h.chain.first h.chain.changes place follows.stands))
            | inr was ↦ inl (subst (λ (x : GlobalState). IsPlace h.chain x) (sym (agree h cells s k.0 sound chosen was (rises ∙ sym k.2))) k.1)
          ]
      | inr level ↦
          let same : place ≡ last h.chain = one_place h.chain.first h.chain.changes place (last h.chain) follows.stands (last_among h.chain.first h.chain.changes)
          (omega (arith, level, not_above h.chain.first h.chain.changes place follows.stands)) in
          inr (follows.is_handed, subst (λ (x : GlobalState). IsLegal x change) same follows.legal, follows.is ∙ ap (λ (x : GlobalState). effect x change) same)
    ]

-- the chain grows
pub grows : (h : History) (cells : ℕ → Option Held) (change : Change) → IsSound h cells → IsLegal (last h.chain) change → IsChosen h.proposals h.votes (effect (last h.chain) change)
    → IsSound (with_state change h) cells
grows h cells change sound legal chosen = record {
  cell = λ n held e. let is = sound.cell n held e in record {
    index = is.index;
    place = inr is.place;
    accepted = is.accepted;
    votes = is.votes;
    promises = is.promises;
  };
  silent = sound.silent;
  voted = sound.voted;
  promises = sound.promises;
  single = sound.single;
  backed = sound.backed;
  next = λ b s proposed. let k = sound.next b s proposed in (k.0, k.1, record { stands = inr k.2.stands; is_handed = k.2.is_handed; legal = k.2.legal; is = k.2.is });
  safe = sound.safe;
  changes = λ p sent. let k = sound.changes p sent in (k.0, record { stands = inr k.1.stands; is_handed = k.1.is_handed; legal = k.1.legal; is = k.1.is });
  legal = (legal, sound.legal);
  chosen = λ s place. elim place [
    | inl new ↦ inr (subst (λ (x : GlobalState). IsChosen h.proposals h.votes x) (sym new) chosen)
    | inr old ↦ sound.chosen s old
  ];
}

-- a change is handed in
pub contains_more : (changes : List Change) (new change : Change) → Contains changes change → Contains (new ∷ changes) change
contains_more changes new change (k, less, is) = (k + 1, omega (arith, less), search (arith, is))

pub handed : (h : History) (cells : ℕ → Option Held) (change : Change) → IsSound h cells → IsSound (with_change change h) cells
handed h cells change sound = record {
  cell = λ n held e. let is = sound.cell n held e in record {
    index = is.index;
    place = is.place;
    accepted = is.accepted;
    votes = is.votes;
    promises = is.promises;
  };
  silent = sound.silent;
  voted = sound.voted;
  promises = sound.promises;
  single = sound.single;
  backed = sound.backed;
  next = λ b s proposed. let k = sound.next b s proposed in (k.0, k.1, record { stands = k.2.stands; is_handed = contains_more h.proposed change k.1 k.2.is_handed; legal = k.2.legal; is = k.2.is });
  safe = sound.safe;
  changes = λ p sent. let k = sound.changes p sent in (k.0, record { stands = k.1.stands; is_handed = contains_more h.proposed change p.change k.1.is_handed; legal = k.1.legal; is = k.1.is });
  legal = sound.legal;
  chosen = sound.chosen;
}
