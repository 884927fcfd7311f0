-- An accept is sent, after two promises.
use Rattle.std.proofs.Common.{◌≡◌, ◌≢◌, ℕ, ◌⊎◌, ◌∷◌, refl, sym, ap, subst, ◌∙◌, inl, inr}
use Rattle.std.specs.Prelude.{Option}
use Rattle.bx_answers.specs.Handling.{AtMost}
use Rattle.bx_rows.specs.declared.ballot.Ballot.{Ballot}
use Rattle.bx_global.specs.declared.change.Change.{Change}
use Rattle.bx_global.specs.declared.held.Held.{Held}
use Rattle.bx_global.specs.declared.state.GlobalState.{GlobalState}
use Rattle.bx_rows.specs.Ballots.{ComesBefore}
use Rattle.bx_rows.proofs.Ballots.{one_before}
use Rattle.bx_agreement.specs.History.{History, Proposal, Promised, IsProposed, HasVoted, HasPromised, AreTwo, IsBarred, IsBlocked, IsBacked, ComesNext, ComesBy}
use Rattle.bx_agreement.specs.Sound.{IsSound, MayPropose, with_proposal}
use Rattle.bx_agreement.proofs.Order.{most_then, not_back}

module _ (h : History) (cells : ℕ → Option Held) (sound : IsSound h cells) (b : Ballot) (own s : GlobalState) (by : Change) where
  -- a replica that has promised at b and can't have voted in c
  bars : (c : Ballot) (t : GlobalState) (p : Promised) → HasPromised h.promises p → p.ballot ≡ b → IsProposed h.proposals c t → t.index ≡ p.index → ComesBefore c b
      → ((p.flag ≡ 1) × AtMost c p.accepted → ⊥) → IsBarred h.votes h.promises p.replica c
  bars c t p has ballot proposed index before never = record {
    not_voted = λ voted. never ((sound.promises p has).votes c t voted proposed index (subst (λ (x : Ballot). ComesBefore c x) (sym ballot) before));
    later = b;
    after = before;
    promised = record { promise = p; is = has; replica = refl; ballot = ballot };
  }

  two_of : (p q : Promised) → HasPromised h.promises p → HasPromised h.promises q → p.replica ≢ q.replica → AreTwo p.replica q.replica
  two_of p q one other differ = record { one = (sound.promises p one).replica; other = (sound.promises q other).replica; differ = differ }

  -- with a promise whose acceptance is the highest of two
  highest : (c : Ballot) (t : GlobalState) (p q : Promised) → HasPromised h.promises p → HasPromised h.promises q → p.replica ≢ q.replica → p.ballot ≡ b → q.ballot ≡ b
      → p.index ≡ own.index → q.index ≡ own.index → IsProposed h.proposals c t → t.index ≡ own.index → ComesBefore c b
      → p.flag ≡ 1 → s ≡ p.state → (q.flag ≡ 1 → AtMost q.accepted p.accepted) → (t ≡ s) ⊎ IsBlocked h.votes h.promises c
  highest c t p q one other differ at_one at_other index_one index_other proposed index before flag is least =
      elim (one_before c p.accepted) [
        | inl less ↦ elim (sound.safe p.accepted c p.state t accepted proposed (index ∙ sym (state_index ∙ index_one)) less) [
          | inl same ↦ inl (same ∙ sym is)
          | inr blocked ↦ inr blocked
        ]
        | inr rest ↦ elim rest [
          | inl same ↦ inl (sound.single c t p.state proposed (subst (λ (x : Ballot). IsProposed h.proposals x p.state) (sym same) accepted) ∙ sym is)
          | inr more ↦ inr (
            p.replica,
            q.replica,
            record {
              two = two_of p q one other differ;
              one = bars c t p one at_one proposed (index ∙ sym index_one) before (λ k. not_back c p.accepted k.1 more);
              other = bars c t q other at_other proposed (index ∙ sym index_other) before (λ k. not_back c p.accepted (most_then c q.accepted p.accepted k.1 (least k.0)) more);
            },
          )
        ]
      ]
    where
      accepted : IsProposed h.proposals p.accepted p.state
      accepted = (sound.promises p one).proposed flag

      state_index : p.state.index ≡ p.index
      state_index = (sound.promises p one).index flag

  -- each earlier proposal of this index is for this state, or can't be chosen
  earlier : (p q : Promised) → MayPropose h b p q own s by → (c : Ballot) (t : GlobalState) → IsProposed h.proposals c t → t.index ≡ own.index → ComesBefore c b → (t ≡ s) ⊎ IsBlocked h.votes h.promises c
  earlier p q may c t proposed index before =
      elim may.picks [
        | inl none ↦ inr (
          p.replica,
          q.replica,
          record {
            two = two_of p q may.one may.other may.differ;
            one = bars c t p may.one may.one_ballot proposed (index ∙ sym may.one_index) before (λ k. none.0.0 k.0);
            other = bars c t q may.other may.other_ballot proposed (index ∙ sym may.other_index) before (λ k. none.0.1 k.0);
          },
        )
        | inr some ↦ elim some [
          | inl first ↦ highest c t p q may.one may.other may.differ may.one_ballot may.other_ballot may.one_index may.other_index proposed index before first.0 first.1 first.2
          | inr second ↦ highest c t q p may.other may.one (λ e. may.differ (sym e)) may.other_ballot may.one_ballot may.other_index may.one_index proposed index before second.0 second.1 second.2
        ]
      ]

  -- what is picked has the index of one's own, and comes next
  picked_index : (p q : Promised) → MayPropose h b p q own s by → s.index ≡ own.index
  picked_index p q may =
      elim may.picks [
        | inl none ↦ ap (λ (x : GlobalState). x.index) none.1
        | inr some ↦ elim some [
          | inl first ↦ ap (λ (x : GlobalState). x.index) first.1 ∙ (sound.promises p may.one).index first.0 ∙ may.one_index
          | inr second ↦ ap (λ (x : GlobalState). x.index) second.1 ∙ (sound.promises q may.other).index second.0 ∙ may.other_index
        ]
      ]

  picked_next : (p q : Promised) → MayPropose h b p q own s by → ComesNext h.chain h.proposed s
  picked_next p q may =
      elim may.picks [
        | inl none ↦ subst (λ (x : GlobalState). ComesNext h.chain h.proposed x) (sym none.1) may.next
        | inr some ↦ elim some [
          | inl first ↦ subst (λ (x : GlobalState). ComesNext h.chain h.proposed x) (sym first.1) (sound.next p.accepted p.state ((sound.promises p may.one).proposed first.0))
          | inr second ↦ subst (λ (x : GlobalState). ComesNext h.chain h.proposed x) (sym second.1) (sound.next q.accepted q.state ((sound.promises q may.other).proposed second.0))
        ]
      ]

  module _ (p q : Promised) (may : MayPropose h b p q own s by) where
    unvoted : (n : ℕ) → HasVoted h.votes n b → ⊥
    unvoted n voted = let was = sound.voted n b voted in may.fresh was.0 was.1

    -- a ballot that comes after this one, with its proposal, was backed by two that never vote in this one
    later_blocks : (d : Ballot) (t : GlobalState) → IsProposed h.proposals d t → ComesBefore b d → IsBlocked h.votes h.promises b
    later_blocks d t proposed before = let k = sound.backed d t proposed in (
      k.0,
      k.1,
      record {
        two = k.2.two;
        one = record { not_voted = unvoted k.0; later = d; after = before; promised = k.2.one };
        other = record { not_voted = unvoted k.1; later = d; after = before; promised = k.2.other };
      },
    )

    widen : (c : Ballot) (t : GlobalState) → IsProposed h.proposals c t → IsProposed (record { ballot = b; state = s; change = by } ∷ h.proposals) c t
    widen c t proposed = record { is = inr proposed.is }

    safe_now : (d c : Ballot) (u t : GlobalState) → IsProposed (record { ballot = b; state = s; change = by } ∷ h.proposals) d u → IsProposed (record { ballot = b; state = s; change = by } ∷ h.proposals) c t
        → t.index ≡ u.index → ComesBefore c d → (t ≡ u) ⊎ IsBlocked h.votes h.promises c
    safe_now d c u t upper lower index before =
        elim upper.is [
          | inl new ↦ elim lower.is [
            | inl again ↦ inl (again.1 ∙ sym new.1)
            | inr old ↦ elim (earlier p q may c t (record { is = old }) (index ∙ ap (λ (x : GlobalState). x.index) new.1 ∙ picked_index p q may) (subst (λ (x : Ballot). ComesBefore c x) new.0 before)) [
              | inl same ↦ inl (same ∙ sym new.1)
              | inr blocked ↦ inr blocked
            ]
          ]
          | inr known ↦ elim lower.is [
            | inl new ↦ inr (subst (λ (x : Ballot). IsBlocked h.votes h.promises x) (sym new.0) (later_blocks d u (record { is = known }) (subst (λ (x : Ballot). ComesBefore x d) new.0 before)))
            | inr old ↦ sound.safe d c u t (record { is = known }) (record { is = old }) index before
          ]
        ]

    single_now : (c : Ballot) (t u : GlobalState) → IsProposed (record { ballot = b; state = s; change = by } ∷ h.proposals) c t → IsProposed (record { ballot = b; state = s; change = by } ∷ h.proposals) c u → t ≡ u
    single_now c t u one other =
        elim one.is [
          | inl new ↦ elim other.is [
            | inl again ↦ new.1 ∙ sym again.1
            | inr old ↦ absurd (may.fresh u (subst (λ (x : Ballot). IsProposed h.proposals x u) new.0 (record { is = old })))
          ]
          | inr known ↦ elim other.is [
            | inl new ↦ absurd (may.fresh t (subst (λ (x : Ballot). IsProposed h.proposals x t) new.0 (record { is = known })))
            | inr old ↦ sound.single c t u (record { is = known }) (record { is = old })
          ]
        ]

    backed_now : IsBacked h.promises b
    backed_now = (
      p.replica,
      q.replica,
      record {
        two = two_of p q may.one may.other may.differ;
        one = record { promise = p; is = may.one; replica = refl; ballot = may.one_ballot };
        other = record { promise = q; is = may.other; replica = refl; ballot = may.other_ballot };
      },
    )

    pub sends_proposal : IsSound (with_proposal b s by h) cells
    sends_proposal = record {
      cell = λ m held e. let is = sound.cell m held e in record {
        index = is.index;
        place = is.place;
        accepted = λ flag. let a = is.accepted flag in record { proposed = widen held.ballot held.accepted a.proposed; index = a.index; promise = a.promise };
        votes = λ c t voted proposed. elim proposed.is [
          | inl new ↦ absurd (unvoted m (subst (λ (x : Ballot). HasVoted h.votes m x) new.0 voted))
          | inr old ↦ is.votes c t voted (record { is = old })
        ];
        promises = is.promises;
      };
      silent = sound.silent;
      voted = λ m c voted. let was = sound.voted m c voted in (was.0, widen c was.0 was.1);
      promises = λ r has. let t = sound.promises r has in record {
        replica = t.replica;
        votes = λ c u voted proposed index before. elim proposed.is [
          | inl new ↦ absurd (unvoted r.replica (subst (λ (x : Ballot). HasVoted h.votes r.replica x) new.0 voted))
          | inr old ↦ t.votes c u voted (record { is = old }) index before
        ];
        proposed = λ flag. widen r.accepted r.state (t.proposed flag);
        index = t.index;
      };
      single = single_now;
      backed = λ c t proposed. elim proposed.is [
        | inl new ↦ subst (λ (x : Ballot). IsBacked h.promises x) (sym new.0) backed_now
        | inr old ↦ sound.backed c t (record { is = old })
      ];
      next = λ c t proposed. elim proposed.is [
        | inl new ↦ subst (λ (x : GlobalState). ComesNext h.chain h.proposed x) (sym new.1) (picked_next p q may)
        | inr old ↦ sound.next c t (record { is = old })
      ];
      safe = safe_now;
      changes = λ r sent. elim sent.is [
        | inl new ↦ subst (λ (x : Proposal). ComesBy h.chain h.proposed x.change x.state) (sym new) may.by
        | inr old ↦ sound.changes r (record { is = old })
      ];
      legal = sound.legal;
      chosen = λ t place. elim (sound.chosen t place) [
        | inl first ↦ inl first
        | inr k ↦ inr (k.0, k.1, k.2, record { proposed = widen k.0 t k.3.proposed; two = k.3.two; one = k.3.one; other = k.3.other })
      ];
    }
