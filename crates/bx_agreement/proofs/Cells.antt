-- Steps of one cell: it promises, accepts, or takes a newer decided state.
use Rattle.std.proofs.Common.{◌≡◌, ℕ, ◌<◌, refl, sym, subst, ◌∙◌, inl, inr, arith}
use Rattle.std.specs.Prelude.{Option, Some}
use Rattle.std.proofs.lemmas.Bool.Decides.{eqb_tells}
use Rattle.bx_answers.specs.Handling.{AtMost, accepting, caught_up, raised}
use Rattle.bx_rows.specs.declared.ballot.Ballot.{Ballot}
use Rattle.bx_global.specs.declared.held.Held.{Held}
use Rattle.bx_global.specs.declared.state.GlobalState.{GlobalState}
use Rattle.bx_rows.specs.Ballots.{ComesBefore}
use Rattle.bx_facts.specs.Chains.{IsPlace}
use Rattle.bx_agreement.specs.History.{History, IsProposed}
use Rattle.bx_agreement.specs.Sound.{IsSound, IsCell, Puts}
use Rattle.bx_agreement.proofs.Order.{most_then}

-- a cell that is one may come in place of another
pub put : (h : History) (old new : ℕ → Option Held) (n : ℕ) (held : Held) → IsSound h old → Puts n held old new → IsCell h n held → IsSound h new
put h old new n held sound puts is = record {
  cell = λ m other e. elim (eqb_tells m n) [
    | inl same ↦ let at : new m ≡ Some held = subst (λ (k : ℕ). new k ≡ Some held) (sym same.1) puts.at in
        let one : held ≡ other = cc in
        subst (λ (x : Held). IsCell h m x) one (subst (λ (k : ℕ). IsCell h k held) (sym same.1) is)
    | inr apart ↦ sound.cell m other (sym (puts.others m apart.1) ∙ e)
  ];
  silent = λ m b voted. elim (eqb_tells m n) [
    | inl same ↦ (held, subst (λ (k : ℕ). new k ≡ Some held) (sym same.1) puts.at)
    | inr apart ↦ let before = sound.silent m b voted in (before.0, puts.others m apart.1 ∙ before.1)
  ];
  voted = sound.voted;
  promises = sound.promises;
  single = sound.single;
  backed = sound.backed;
  next = sound.next;
  safe = sound.safe;
  changes = sound.changes;
  legal = sound.legal;
  chosen = sound.chosen;
}

pub raises : (h : History) (n : ℕ) (held : Held) (b : Ballot) → IsCell h n held → ComesBefore held.promise b → IsCell h n (raised b held)
raises h n held b is before = record {
  index = is.index;
  place = is.place;
  accepted = λ flag. let a = is.accepted flag in record { proposed = a.proposed; index = a.index; promise = most_then held.ballot held.promise b a.promise (inr before) };
  votes = λ c t voted proposed. let r = is.votes c t voted proposed in record { promise = most_then c held.promise b r.promise (inr before); vote = r.vote };
  promises = λ p has own. most_then p.ballot held.promise b (is.promises p has own) (inr before);
}

pub accepts : (h : History) (n : ℕ) (held : Held) (b : Ballot) (s : GlobalState) → IsCell h n held → IsProposed h.proposals b s → s.index ≡ held.index → AtMost held.promise b
    → IsCell h n (accepting b s held)
accepts h n held b s is proposed index most = record {
  index = is.index;
  place = is.place;
  accepted = λ _. record { proposed = proposed; index = index; promise = inl refl };
  votes = λ c t voted was. let r = is.votes c t voted was in
      let up = most_then c held.promise b r.promise most in
      record { promise = up; vote = elim r.vote [ inl less ↦ inl less | inr same ↦ inr (same.0, refl, up) ] };
  promises = λ p has own. most_then p.ballot held.promise b (is.promises p has own) most;
}

pub catches_up : (h : History) (n : ℕ) (held : Held) (s : GlobalState) → IsCell h n held → IsPlace h.chain s → held.decided.index < s.index → IsCell h n (caught_up s held)
catches_up h n held s is place newer = record {
  index = refl;
  place = place;
  accepted = λ flag. absurd (omega (arith, flag));
  votes = λ c t voted was. let r = is.votes c t voted was in record { promise = r.promise; vote = inl (elim r.vote [ inl less ↦ omega (arith, is.index) | inr same ↦ omega (arith, is.index, same.0) ]) };
  promises = is.promises;
}
