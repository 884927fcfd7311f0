-- What an audit answers, in the state that the rack tells.
use Rattle.std.proofs.Common.{◌≡◌, ℕ, ◌⊎◌, inl, inr, length, Result, Ok, Err, sym, subst}
use Rattle.std.specs.Prelude.{IfErr, IfOk}
use Rattle.bx_audit.specs.Audited.{IsListed, IsAuditRefusal, StandFor}
use Rattle.bx_audit.specs.declared.listing.Listing.{Listing}
use Rattle.bx_disk.specs.Disks.{Disks}
use Rattle.bx_global.specs.declared.state.GlobalState.{GlobalState}
use Rattle.bx_layout.specs.declared.label.Label.{Label}
use Rattle.bx_model.specs.declared.tree.Tree.{Tree}
use Rattle.bx_overlay.specs.Refusals.{IsBreak}
use Rattle.bx_overlay.specs.declared.error.AuditError.{AuditError}
use Rattle.bx_paxos_found.specs.bx_paxos.specs.Reading.{ReadsState}
use Rattle.bx_paxos_found.specs.Finding.{LackMajority}
use Rattle.bx_rack_audit.proofs.Own.{IsNoState}
use Rattle.bx_rack_audit.proofs.Telling.{in_state, refused_in, refused_label, refused_lack}
use Rattle.bx_rack_audit.specs.Alone.{IsListedAlone, IsOwnState, IsRefusedAlone, StandAlone}
use Rattle.bx_volume.specs.Images.{IsFirstLabel}

-- ---- no state

pub refused_none : (disks : Disks) (error : AuditError) → ((a b : Label) → IsFirstLabel disks.sizes disks.reads a → IsFirstLabel disks.sizes disks.reads b → a ≡ b)
    → ((made state : GlobalState) → LackMajority (length made.devices) disks.sizes disks.reads → ReadsState made disks.sizes disks.reads state → ⊥) → IsNoState disks error → IsBreak error ⊎ IsRefusedAlone disks error
refused_none disks error one lack (inl breaks) = inl breaks
refused_none disks error one lack (inr (inl label)) = inr (refused_label disks error label)
refused_none disks error one lack (inr (inr none)) = inr (refused_lack disks error one lack none)

pub breaks_off : (disks : Disks) (error : AuditError) (tree : Tree) → StandAlone disks tree → IsBreak error ⊎ IsRefusedAlone disks error → IsBreak error
breaks_off disks error tree stands (inl breaks) = breaks
breaks_off disks error tree stands (inr refused) = absurd (refused.none tree stands)

-- ---- a state, after which the disks are as they were

module _ (x y : Disks) (state : GlobalState) (same : y ≡ x) (own : IsOwnState x.sizes x.reads state) where
  pub listed_in_state : (r : Result Listing AuditError) → IfOk r (IsListed y state) → IfOk r (IsListedAlone x)
  listed_in_state (Ok listed) is = record { state = state; is_state = own; is_listed = subst (λ (d : Disks). IsListed d state listed) same is }
  listed_in_state (Err error) is = tt

module _ (x y : Disks) (one_state : (a b : GlobalState) → IsOwnState x.sizes x.reads a → IsOwnState x.sizes x.reads b → a ≡ b) (state : GlobalState) (same : y ≡ x) (own : IsOwnState x.sizes x.reads state) where
  pub refused_state : (r : Result Listing AuditError) → IfErr r (λ error. IsBreak error ⊎ IsAuditRefusal y state error) → IfErr r (λ error. IsBreak error ⊎ IsRefusedAlone x error)
  refused_state (Ok listed) is = tt
  refused_state (Err error) (inl breaks) = inl breaks
  refused_state (Err error) (inr refusal) = inr (refused_in x one_state state error own (subst (λ (d : Disks). IsAuditRefusal d state error) same refusal))

  pub lists : (tree : Tree) → StandAlone x tree → {P : Type 0} → (StandFor y state tree → P) → P
  lists tree stands says = says (subst (λ (d : Disks). StandFor d state tree) (sym same) (in_state x one_state state tree own stands))
