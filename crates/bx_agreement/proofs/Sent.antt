-- Steps of the history: a promise is sent, a vote, an accept.
use Rattle.std.proofs.Common.{◌≡◌, ℕ, ◌<◌, List, ◌∷◌, sym, ap, subst, ◌∙◌, inl, inr, arith}
use Rattle.std.specs.Prelude.{Option, Some}
use Rattle.bx_answers.specs.Handling.{AtMost}
use Rattle.bx_rows.specs.declared.ballot.Ballot.{Ballot}
use Rattle.bx_global.specs.declared.held.Held.{Held}
use Rattle.bx_global.specs.declared.state.GlobalState.{GlobalState}
use Rattle.bx_rows.specs.Ballots.{ComesBefore}
use Rattle.bx_agreement.specs.History.{History, Vote, Promised, IsProposed, HasVoted, HasPromised, HasPromisedAt, IsBarred}
use Rattle.bx_agreement.specs.Sound.{IsSound, IsCell, Remembers, HasAccepted, Tells, promise_sent, with_promise, with_vote}
use Rattle.bx_agreement.proofs.Order.{not_back}

-- ---- a promise

pub promised_more : (ms : List Promised) (p q : Promised) → HasPromised ms p → HasPromised (q ∷ ms) p
promised_more ms p q has = record { is = inr has.is }

promised_at_more : (ms : List Promised) (q : Promised) (n : ℕ) (b : Ballot) → HasPromisedAt ms n b → HasPromisedAt (q ∷ ms) n b
promised_at_more ms q n b at = record { promise = at.promise; is = promised_more ms at.promise q at.is; replica = at.replica; ballot = at.ballot }

barred_more : (vs : List Vote) (ms : List Promised) (q : Promised) (n : ℕ) (b : Ballot) → IsBarred vs ms n b → IsBarred vs (q ∷ ms) n b
barred_more vs ms q n b barred = record { not_voted = barred.not_voted; later = barred.later; after = barred.after; promised = promised_at_more ms q n barred.later barred.promised }

pub sends_promise : (h : History) (cells : ℕ → Option Held) (n : ℕ) (held : Held) → IsSound h cells → n < 3 → cells n ≡ Some held
    → IsSound (with_promise (promise_sent n held) h) cells
sends_promise h cells n held sound three at = record {
  cell = λ m other e. let is = sound.cell m other e in record {
    index = is.index;
    place = is.place;
    accepted = is.accepted;
    votes = is.votes;
    promises = λ p has own. elim has.is [
      | inl new ↦ let same : m ≡ n = sym own ∙ ap (λ (x : Promised). x.replica) new in
          let one : Some held ≡ Some other = sym at ∙ subst (λ (k : ℕ). cells k ≡ Some other) same e in
          let held_is : held ≡ other = cc in
          inl (ap (λ (x : Promised). x.ballot) new ∙ ap (λ (x : Held). x.promise) held_is)
      | inr old ↦ is.promises p (record { is = old }) own
    ];
  };
  silent = sound.silent;
  voted = sound.voted;
  promises = λ p has. elim has.is [
    | inl new ↦ subst (λ (x : Promised). Tells h.proposals h.votes x) (sym new) fresh
    | inr old ↦ sound.promises p (record { is = old })
  ];
  single = sound.single;
  backed = λ b s proposed. let k = sound.backed b s proposed in
      (k.0, k.1, record { two = k.2.two; one = promised_at_more h.promises (promise_sent n held) k.0 b k.2.one; other = promised_at_more h.promises (promise_sent n held) k.1 b k.2.other });
  next = sound.next;
  safe = λ b c s t proposed other index before. elim (sound.safe b c s t proposed other index before) [
    | inl same ↦ inl same
    | inr k ↦ inr (k.0, k.1, record { two = k.2.two; one = barred_more h.votes h.promises (promise_sent n held) k.0 c k.2.one; other = barred_more h.votes h.promises (promise_sent n held) k.1 c k.2.other })
  ];
  changes = sound.changes;
  legal = sound.legal;
  chosen = sound.chosen;
}
  where
    fresh : Tells h.proposals h.votes (promise_sent n held)
    fresh = let is = sound.cell n held at in record {
      replica = three;
      votes = λ b s voted proposed index before. elim (is.votes b s voted proposed).vote [
        | inl less ↦ absurd (omega (arith, index))
        | inr same ↦ (same.1, same.2)
      ];
      proposed = λ flag. (is.accepted flag).proposed;
      index = λ flag. (is.accepted flag).index;
    }

-- ---- a vote

pub voted_more : (vs : List Vote) (v : Vote) (n : ℕ) (b : Ballot) → HasVoted vs n b → HasVoted (v ∷ vs) n b
voted_more vs v n b has = record { is = inr has.is }

pub sends_vote : (h : History) (cells : ℕ → Option Held) (n : ℕ) (held : Held) → IsSound h cells → cells n ≡ Some held → held.flag ≡ 1 → held.promise ≡ held.ballot
    → IsSound (with_vote n held.ballot h) cells
sends_vote h cells n held sound at flag same = record {
  cell = λ m other e. let is = sound.cell m other e in record {
    index = is.index;
    place = is.place;
    accepted = is.accepted;
    votes = λ b s has proposed. elim has.is [
      | inl new ↦ new_vote m other e b s new.0 new.1 proposed
      | inr old ↦ is.votes b s (record { is = old }) proposed
    ];
    promises = is.promises;
  };
  silent = λ m b has. elim has.is [
    | inl new ↦ (held, subst (λ (k : ℕ). cells k ≡ Some held) (sym new.0) at)
    | inr old ↦ sound.silent m b (record { is = old })
  ];
  voted = λ m b has. elim has.is [
    | inl new ↦ (held.accepted, subst (λ (x : Ballot). IsProposed h.proposals x held.accepted) (sym new.1) own.proposed)
    | inr old ↦ sound.voted m b (record { is = old })
  ];
  promises = λ p has. let t = sound.promises p has in record {
    replica = t.replica;
    votes = λ b s voted proposed index before. elim voted.is [
      | inl new ↦ absurd (never p has new.0 (subst (λ (x : Ballot). ComesBefore x p.ballot) new.1 before))
      | inr old ↦ t.votes b s (record { is = old }) proposed index before
    ];
    proposed = t.proposed;
    index = t.index;
  };
  single = sound.single;
  backed = sound.backed;
  next = sound.next;
  safe = λ b c s t proposed other index before. elim (sound.safe b c s t proposed other index before) [
    | inl equal ↦ inl equal
    | inr k ↦ inr (k.0, k.1, record { two = k.2.two; one = still k.0 c k.2.one; other = still k.1 c k.2.other })
  ];
  changes = sound.changes;
  legal = sound.legal;
  chosen = λ s place. elim (sound.chosen s place) [
    | inl first ↦ inl first
    | inr k ↦ inr (k.0, k.1, k.2, record { proposed = k.3.proposed; two = k.3.two; one = voted_more h.votes (record { replica = n; ballot = held.ballot }) k.1 k.0 k.3.one; other = voted_more h.votes (record { replica = n; ballot = held.ballot }) k.2 k.0 k.3.other })
  ];
}
  where
    is_cell : IsCell h n held
    is_cell = sound.cell n held at

    own : HasAccepted h.proposals held
    own = is_cell.accepted flag

    never : (p : Promised) → HasPromised h.promises p → p.replica ≡ n → ComesBefore held.ballot p.ballot → ⊥
    never p has replica before = not_back p.ballot held.ballot (subst (λ (x : Ballot). AtMost p.ballot x) same (is_cell.promises p has replica)) before

    new_vote : (m : ℕ) (other : Held) → cells m ≡ Some other → (b : Ballot) (s : GlobalState) → m ≡ n → b ≡ held.ballot → IsProposed h.proposals b s → Remembers other b s
    new_vote m other e b s replica ballot proposed =
        let one : Some held ≡ Some other = sym at ∙ subst (λ (k : ℕ). cells k ≡ Some other) replica e in
        let held_is : held ≡ other = cc in
        let state : s ≡ held.accepted = sound.single b s held.accepted proposed (subst (λ (x : Ballot). IsProposed h.proposals x held.accepted) (sym ballot) own.proposed) in
        subst (λ (x : Held). Remembers x b s) held_is (record { promise = inl (ballot ∙ sym same); vote = inr (ap (λ (x : GlobalState). x.index) state ∙ own.index, flag, inl ballot) })

    still : (k : ℕ) (c : Ballot) → IsBarred h.votes h.promises k c → IsBarred (record { replica = n; ballot = held.ballot } ∷ h.votes) h.promises k c
    still k c barred = record {
      not_voted = λ has. elim has.is [
        | inl new ↦ let at_later = barred.promised in
            never at_later.promise at_later.is (at_later.replica ∙ new.0)
            (subst (λ (x : Ballot). ComesBefore held.ballot x) (sym at_later.ballot) (subst (λ (x : Ballot). ComesBefore x barred.later) new.1 barred.after))
        | inr old ↦ barred.not_voted (record { is = old })
      ];
      later = barred.later;
      after = barred.after;
      promised = barred.promised;
    }
