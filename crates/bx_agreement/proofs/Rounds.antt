-- Steps of a proposer.
use Rattle.std.proofs.Common.{◌≡◌, ◌≢◌, ℕ, ◌+◌, ◌<◌, ◌≤◌, List, refl, sym, ap, subst, ◌∙◌, inl, inr, arith}
use Rattle.std.specs.Prelude.{Option, Some, None}
use Rattle.bx_rows.specs.declared.ballot.Ballot.{Ballot}
use Rattle.bx_global.specs.declared.change.Change.{Change}
use Rattle.bx_global.specs.declared.state.GlobalState.{GlobalState}
use Rattle.bx_facts.specs.Chains.{IsPlace}
use Rattle.bx_agreement.specs.History.{History, Proposal, Promised, IsProposed, HasVoted, IsChosen, ComesNext, ComesBy}
use Rattle.bx_agreement.specs.Sound.{Picks, MayPropose, with_proposal}
use Rattle.bx_agreement.specs.Round.{Round, HasDrawn, Counts, IsRound, IsProposer, IsLater, prepared, sending}

-- it draws a ballot that nobody has sent an accept in
pub prepares : (h : History) (me boot seen : ℕ) (known own : GlobalState) (out : Option Round) → IsProposer h me boot seen known out → ComesNext h.chain h.proposed own
    → IsProposer h me boot (seen + 1) known (Some (prepared me boot seen own))
prepares h me boot seen known own out is next = record {
  place = is.place;
  before = record { each = λ b s proposed actor. elim (is.before.each b s proposed actor) [ inl less ↦ inl less | inr same ↦ inr (same.0, omega (arith, same.1)) ] };
  round = λ r e. let one : prepared me boot seen own ≡ r = cc in subst (λ (x : Round). IsRound h me boot (seen + 1) x) one round;
}
  where
    round : IsRound h me boot (seen + 1) (prepared me boot seen own)
    round = record {
      actor = refl;
      boot_is = refl;
      drawn = omega arith;
      next = next;
      fresh = λ none t proposed. elim (is.before.each (prepared me boot seen own).ballot t proposed refl) [ inl less ↦ omega (arith, less) | inr same ↦ omega (arith, same.1) ];
      promise = λ p e. absurd cc;
      sent = λ s e. absurd cc;
      accepted = λ n e. absurd cc;
    }

-- it starts again
pub restarts : (h : History) (me boot seen later : ℕ) (known first : GlobalState) (out : Option Round) → IsProposer h me boot seen known out → boot < later → IsPlace h.chain first
    → IsProposer h me later 0 first None
restarts h me boot seen later known first out is above place = record {
  place = place;
  before = record { each = λ b s proposed actor. inl (elim (is.before.each b s proposed actor) [ inl less ↦ omega (arith, less) | inr same ↦ omega (arith, same.0) ]) };
  round = λ r e. absurd cc;
}

-- the second promise came: it may send its accept
pub may_send : (h : History) (me boot seen : ℕ) (round : Round) (p q : Promised) (s : GlobalState) (c : Change) → ComesBy h.chain h.proposed c s → IsRound h me boot seen round → round.sent ≡ None → round.promise ≡ Some p
    → Counts h round q → p.replica ≢ q.replica → Picks p q round.own s → MayPropose h round.ballot p q round.own s c
may_send h me boot seen round p q s change by is none first counts differ picks = let c = is.promise p first in record {
  by = by;
  fresh = is.fresh none;
  differ = differ;
  one = c.is;
  other = counts.is;
  one_ballot = c.ballot;
  other_ballot = counts.ballot;
  one_index = c.index;
  other_index = counts.index;
  next = is.next;
  picks = picks;
}

-- .. and has sent it
pub sends : (h : History) (me boot seen : ℕ) (known : GlobalState) (round : Round) (s : GlobalState) (change : Change) → IsProposer h me boot seen known (Some round)
    → IsProposer (with_proposal round.ballot s change h) me boot seen known (Some (sending s round))
sends h me boot seen known round s change is = record {
  place = is.place;
  before = record {
    each = λ b t proposed actor. elim proposed.is [
      | inl new ↦ inr (ap (λ (x : Ballot). x.boot) new.0 ∙ it.boot_is, subst (λ (x : Ballot). x.round ≤ seen) (sym new.0) it.drawn)
      | inr old ↦ is.before.each b t (record { is = old }) actor
    ];
  };
  round = λ r e. let one : sending s round ≡ r = cc in subst (λ (x : Round). IsRound (with_proposal round.ballot s change h) me boot seen x) one record {
    actor = it.actor;
    boot_is = it.boot_is;
    drawn = it.drawn;
    next = it.next;
    fresh = λ none. absurd cc;
    promise = λ p first. let c = it.promise p first in record { is = c.is; ballot = c.ballot; index = c.index };
    sent = λ t same. record { is = inl (refl, sym (let k : s ≡ t = cc in k)) };
    accepted = it.accepted;
  };
}
  where
    it : IsRound h me boot seen round
    it = is.round round refl

-- another actor sends an accept
pub other_sends : (h : History) (me boot seen : ℕ) (known : GlobalState) (out : Option Round) (b : Ballot) (s : GlobalState) (change : Change) → IsProposer h me boot seen known out → b.actor ≢ me
    → IsProposer (with_proposal b s change h) me boot seen known out
other_sends h me boot seen known out b s change is differ = record {
  place = is.place;
  before = record {
    each = λ c t proposed actor. elim proposed.is [
      | inl new ↦ absurd (differ (sym (ap (λ (x : Ballot). x.actor) new.0) ∙ actor))
      | inr old ↦ is.before.each c t (record { is = old }) actor
    ];
  };
  round = λ r e. let it = is.round r e in record {
    actor = it.actor;
    boot_is = it.boot_is;
    drawn = it.drawn;
    next = it.next;
    fresh = λ none t proposed. elim proposed.is [
      | inl new ↦ differ (sym (ap (λ (x : Ballot). x.actor) new.0) ∙ it.actor)
      | inr old ↦ it.fresh none t (record { is = old })
    ];
    promise = λ p first. let c = it.promise p first in record { is = c.is; ballot = c.ballot; index = c.index };
    sent = λ t same. record { is = inr (it.sent t same).is };
    accepted = it.accepted;
  };
}

-- all else that makes the history longer
pub goes_on : (h new : History) (me boot seen : ℕ) (known : GlobalState) (out : Option Round) → IsProposer h me boot seen known out → IsLater h new → IsProposer new me boot seen known out
goes_on h new me boot seen known out is later = record {
  place = later.places known is.place;
  before = subst (λ (x : List Proposal). HasDrawn x me boot seen) (sym later.proposals) is.before;
  round = λ r e. let it = is.round r e in record {
    actor = it.actor;
    boot_is = it.boot_is;
    drawn = it.drawn;
    next = let k = it.next in (k.0, k.1, record { stands = later.places k.0 k.2.stands; is_handed = later.proposed k.1 k.2.is_handed; legal = k.2.legal; is = k.2.is });
    fresh = λ none t proposed. it.fresh none t (subst (λ (x : List Proposal). IsProposed x r.ballot t) later.proposals proposed);
    promise = λ p first. let c = it.promise p first in record { is = later.promises p c.is; ballot = c.ballot; index = c.index };
    sent = λ t same. subst (λ (x : List Proposal). IsProposed x r.ballot t) (sym later.proposals) (it.sent t same);
    accepted = λ n first. let a = it.accepted n first in (a.0, later.votes n r.ballot a.1);
  };
}

-- the second acceptance came: the state is chosen
pub chooses : (h : History) (me boot seen : ℕ) (round : Round) (s : GlobalState) (n m : ℕ) → IsRound h me boot seen round → round.sent ≡ Some s → round.accepted ≡ Some n → m < 3 → n ≢ m
    → HasVoted h.votes m round.ballot → IsChosen h.proposals h.votes s
chooses h me boot seen round s n m is sent first three differ voted = let a = is.accepted n first in
    (round.ballot, n, m, record { proposed = is.sent s sent; two = record { one = a.0; other = three; differ = differ }; one = a.1; other = voted })
