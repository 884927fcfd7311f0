-- What the cells are read as.
use Rattle.std.proofs.Common.{◌≡◌, ℕ, ◌+◌, ◌<◌, ◌≤◌, sym, ap, subst, ◌∙◌, inl, inr, arith}
use Rattle.std.specs.Prelude.{Option, Some}
use Rattle.std.proofs.lemmas.Bool.{cases_lt}
use Rattle.bx_answers.specs.Handling.{AtMost}
use Rattle.bx_rows.specs.declared.ballot.Ballot.{Ballot}
use Rattle.bx_global.specs.declared.change.Change.{Change}
use Rattle.bx_global.specs.declared.held.Held.{Held}
use Rattle.bx_global.specs.declared.state.GlobalState.{GlobalState}
use Rattle.bx_global.specs.Table.{IsLegal, effect}
use Rattle.bx_global.proofs.Rising.{index_rises}
use Rattle.bx_facts.specs.Chains.{last, IsPlace, IsNext}
use Rattle.bx_agreement.specs.History.{History, IsProposed, HasVoted, IsChosenIn, Follows}
use Rattle.bx_agreement.specs.Sound.{IsSound, Remembers, IsAhead, IsLevel, ReadsAs, HasTwo}
use Rattle.bx_agreement.proofs.Order.{in_common, most_then}
use Rattle.bx_agreement.proofs.Agree.{stays_chosen}
use Rattle.bx_agreement.proofs.Places.{not_above, not_below, last_among, one_place}

module _ (h : History) (cells : ℕ → Option Held) (sound : IsSound h cells) (seen : ℕ → Option Held) (within : (n : ℕ) (held : Held) → seen n ≡ Some held → cells n ≡ Some held) (k l : ℕ) (one other : Held) (readable : HasTwo seen k l one other) where
  place_is_last : (s : GlobalState) → IsPlace h.chain s → (last h.chain).index ≤ s.index → s ≡ last h.chain
  place_is_last s place level = one_place h.chain.first h.chain.changes s (last h.chain) place (last_among h.chain.first h.chain.changes)
      (omega (arith, level, not_above h.chain.first h.chain.changes s place))

  -- of those that voted one is readable, and remembers it
  record Voter (b : Ballot) (s : GlobalState) : Type 0 where
    pub at : ℕ
    pub held : Held
    pub is : seen at ≡ Some held
    pub remembers : Remembers held b s

  voter_of : (b : Ballot) (s : GlobalState) (n m : ℕ) → IsChosenIn h.proposals h.votes s b n m → Voter b s
  voter_of b s n m chosen =
      elim (in_common n m k l chosen.two readable.two) [
        | inl first ↦ elim first [
          | inl e ↦ voter k one readable.is_one (subst (λ (x : ℕ). HasVoted h.votes x b) e chosen.one)
          | inr e ↦ voter l other readable.is_other (subst (λ (x : ℕ). HasVoted h.votes x b) e chosen.one)
        ]
        | inr second ↦ elim second [
          | inl e ↦ voter k one readable.is_one (subst (λ (x : ℕ). HasVoted h.votes x b) e chosen.other)
          | inr e ↦ voter l other readable.is_other (subst (λ (x : ℕ). HasVoted h.votes x b) e chosen.other)
        ]
      ]
    where
      voter : (at : ℕ) (held : Held) → seen at ≡ Some held → HasVoted h.votes at b → Voter b s
      voter at held is voted = record { at = at; held = held; is = is; remembers = (sound.cell at held (within at held is)).votes b s voted chosen.proposed }

  -- an accepted state above the last comes next to it, and one at its index is it
  pub ahead : (n : ℕ) (held : Held) → IsAhead seen n held → IsNext h.proposed (last h.chain) held.accepted
  ahead n held is =
      let accepted = (sound.cell n held (within n held is.is)).accepted is.flag in
      let after = sound.next held.ballot held.accepted accepted.proposed in
      at after.0 after.1 after.2 accepted.proposed
    where
      at : (place : GlobalState) (change : Change) → Follows h.chain h.proposed place change held.accepted → IsProposed h.proposals held.ballot held.accepted → IsNext h.proposed (last h.chain) held.accepted
      at place change follows proposed =
          let rises : held.accepted.index ≡ place.index + 1 = ap (λ (x : GlobalState). x.index) follows.is ∙ index_rises place change in
          elim (cases_lt place.index (last h.chain).index) [
            | inr level ↦
                let same : place ≡ last h.chain = place_is_last place follows.stands level in
                inr (change, follows.is_handed, subst (λ (x : GlobalState). IsLegal x change) same follows.legal, follows.is ∙ ap (λ (x : GlobalState). effect x change) same)
            | inl less ↦ elim (sound.chosen (last h.chain) (last_among h.chain.first h.chain.changes)) [
              | inl first ↦ absurd (omega (arith, ap (λ (x : GlobalState). x.index) first, not_below h.chain.first h.chain.changes place follows.stands))
              | inr (b, n, m, chosen) ↦ inl (sym (by b n m chosen rises less (voter_of b (last h.chain) n m chosen)))
            ]
          ]
        where
          by : (b : Ballot) (n m : ℕ) → IsChosenIn h.proposals h.votes (last h.chain) b n m → held.accepted.index ≡ place.index + 1 → place.index < (last h.chain).index → Voter b (last h.chain) → last h.chain ≡ held.accepted
          by b n m chosen rises less v =
              let c = sound.cell v.at v.held (within v.at v.held v.is) in
              let above = is.above v.at v.held v.is in
              elim v.remembers.vote [
                | inl gone ↦ absurd (omega (arith, gone, c.index, above, rises, less))
                | inr (index, flag, most) ↦
                    let level : held.accepted.index ≡ (last h.chain).index = omega (arith, index, c.index, above, rises, less) in
                    let theirs : v.held.accepted.index ≡ held.accepted.index = (c.accepted flag).index ∙ sym index ∙ sym level in
                    let up : AtMost b held.ballot = most_then b v.held.ballot held.ballot most (is.highest v.at v.held v.is flag theirs) in
                    stays_chosen h cells (last h.chain) held.accepted b held.ballot n m sound chosen proposed (sym level) up
              ]

  pub level : (n : ℕ) (held : Held) → IsLevel seen n held → held.decided ≡ last h.chain
  level n held is = place_is_last held.decided (sound.cell n held (within n held is.is)).place
      (elim (sound.chosen (last h.chain) (last_among h.chain.first h.chain.changes)) [
        | inl first ↦ omega (arith, ap (λ (x : GlobalState). x.index) first, not_below h.chain.first h.chain.changes held.decided (sound.cell n held (within n held is.is)).place)
        | inr (b, n, m, chosen) ↦ by (voter_of b (last h.chain) n m chosen)
      ])
    where
      by : {b : Ballot} → Voter b (last h.chain) → (last h.chain).index ≤ held.decided.index
      by v =
          let c = sound.cell v.at v.held (within v.at v.held v.is) in
          elim v.remembers.vote [
            | inl gone ↦ omega (arith, gone, c.index, is.greatest v.at v.held v.is)
            | inr (index, flag, most) ↦ omega (arith, index, (c.accepted flag).index, is.none v.at v.held v.is flag)
          ]

  pub reads_next : (s : GlobalState) → ReadsAs seen s → IsNext h.proposed (last h.chain) s
  reads_next s (inl (n, held, is, same)) = subst (λ (x : GlobalState). IsNext h.proposed (last h.chain) x) (sym same) (ahead n held is)
  reads_next s (inr (n, held, is, same)) = inl (same ∙ level n held is)
