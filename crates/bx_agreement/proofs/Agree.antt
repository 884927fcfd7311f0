-- What was chosen at an index is one state.
use Rattle.std.proofs.Common.{◌≡◌, ℕ, ◌⊎◌, sym, subst, inl, inr}
use Rattle.std.specs.Prelude.{Option}
use Rattle.bx_rows.specs.declared.ballot.Ballot.{Ballot}
use Rattle.bx_global.specs.declared.held.Held.{Held}
use Rattle.bx_global.specs.declared.state.GlobalState.{GlobalState}
use Rattle.bx_rows.specs.Ballots.{ComesBefore}
use Rattle.bx_rows.proofs.Ballots.{one_before}
use Rattle.bx_agreement.specs.History.{History, IsProposed, HasVoted, IsChosen, IsChosenIn, IsBlocked}
use Rattle.bx_agreement.specs.Sound.{IsSound}
use Rattle.bx_agreement.proofs.Order.{in_common}

-- a ballot in which something was chosen isn't blocked
pub not_blocked : (h : History) (s : GlobalState) (b : Ballot) (n m : ℕ) → IsChosenIn h.proposals h.votes s b n m → IsBlocked h.votes h.promises b → ⊥
not_blocked h s b n m chosen (k, l, blocked) =
    elim (in_common n m k l chosen.two blocked.two) [
      | inl first ↦ elim first [
        | inl e ↦ blocked.one.not_voted (subst (λ (x : ℕ). HasVoted h.votes x b) e chosen.one)
        | inr e ↦ blocked.other.not_voted (subst (λ (x : ℕ). HasVoted h.votes x b) e chosen.one)
      ]
      | inr second ↦ elim second [
        | inl e ↦ blocked.one.not_voted (subst (λ (x : ℕ). HasVoted h.votes x b) e chosen.other)
        | inr e ↦ blocked.other.not_voted (subst (λ (x : ℕ). HasVoted h.votes x b) e chosen.other)
      ]
    ]

-- what is proposed at a ballot from the one of a choice on is what was chosen
pub stays_chosen : (h : History) (cells : ℕ → Option Held) (s t : GlobalState) (b c : Ballot) (n m : ℕ) → IsSound h cells → IsChosenIn h.proposals h.votes s b n m
    → IsProposed h.proposals c t → s.index ≡ t.index → (b ≡ c) ⊎ ComesBefore b c → s ≡ t
stays_chosen h cells s t b c n m sound chosen proposed index (inl e) =
    sound.single b s t chosen.proposed (subst (λ (x : Ballot). IsProposed h.proposals x t) (sym e) proposed)
stays_chosen h cells s t b c n m sound chosen proposed index (inr before) =
    elim (sound.safe c b t s proposed chosen.proposed index before) [
      | inl same ↦ same
      | inr blocked ↦ absurd (not_blocked h s b n m chosen blocked)
    ]

pub agree : (h : History) (cells : ℕ → Option Held) (s t : GlobalState) → IsSound h cells → IsChosen h.proposals h.votes s → IsChosen h.proposals h.votes t → s.index ≡ t.index → s ≡ t
agree h cells s t sound (b, n, m, left) (c, k, l, right) index =
    elim (one_before b c) [
      | inl before ↦ stays_chosen h cells s t b c n m sound left right.proposed index (inr before)
      | inr other ↦ elim other [
        | inl same ↦ stays_chosen h cells s t b c n m sound left right.proposed index (inl same)
        | inr after ↦ sym (stays_chosen h cells t s c b k l sound right left.proposed (sym index) (inr after))
      ]
    ]
