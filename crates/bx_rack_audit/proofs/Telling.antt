-- The state that a rack tells, and what it stands for in it.
use Rattle.std.proofs.Common.{◌≡◌, ℕ, ◌⊎◌, inl, inr, List, length, sym, ap, subst, ◌∙◌}
use Rattle.bx_audit.specs.Audited.{IsListed, IsAuditRefusal, StandFor}
use Rattle.bx_audit.specs.declared.listing.Listing.{Listing}
use Rattle.bx_disk.specs.Disks.{Disks, Image}
use Rattle.bx_global.specs.declared.state.GlobalState.{GlobalState}
use Rattle.bx_layout.specs.declared.label.Label.{Label}
use Rattle.bx_model.specs.declared.tree.Tree.{Tree}
use Rattle.bx_overlay.specs.Refusals.{HasNoLabel}
use Rattle.bx_overlay.specs.declared.error.AuditError.{AuditError}
use Rattle.bx_overlay.specs.declared.error.AuditError.TheVariants.{NoLabel, NoMajority}
use Rattle.bx_paxos_found.specs.bx_paxos.specs.Reading.{ReadsState}
use Rattle.bx_paxos_found.specs.Finding.{LackMajority}
use Rattle.bx_rack_audit.specs.Alone.{IsListedAlone, IsOwnState, IsRefusedAlone, LackState, RefusesAlone, StandAlone}
use Rattle.bx_volume.specs.Images.{IsFirstLabel}

-- ---- a tree in a state

pub alone_of : (disks : Disks) (state : GlobalState) (tree : Tree) → IsOwnState disks.sizes disks.reads state → StandFor disks state tree → StandAlone disks tree
alone_of disks state tree own stands = record {
  state = stands.state;
  is_state = subst (IsOwnState disks.sizes disks.reads) (sym stands.is_state) own;
  second = stands.second;
  reads = stands.reads;
  shows = stands.shows;
}

module _ (disks : Disks) (one_state : (a b : GlobalState) → IsOwnState disks.sizes disks.reads a → IsOwnState disks.sizes disks.reads b → a ≡ b) where
  pub in_state : (state : GlobalState) (tree : Tree) → IsOwnState disks.sizes disks.reads state → StandAlone disks tree → StandFor disks state tree
  in_state state tree own stands = record {
    state = stands.state;
    is_state = one_state stands.state state stands.is_state own;
    second = stands.second;
    reads = stands.reads;
    shows = stands.shows;
  }

  -- refused in the state that it tells
  pub refused_in : (state : GlobalState) (error : AuditError) → IsOwnState disks.sizes disks.reads state → IsAuditRefusal disks state error → IsRefusedAlone disks error
  refused_in state error own refusal = record {
    why = inr (inr (record { state = state; is_state = own; refusal = refusal }));
    none = λ tree stands. refusal.none tree (in_state state tree own stands);
  }

-- ---- a rack that tells no state

module _ (disks : Disks) (error : AuditError) where
  pub refused_label : (error ≡ NoLabel 0) × HasNoLabel disks → IsRefusedAlone disks error
  refused_label (is, none) = record { why = inl (is, none); none = λ tree stands. let own = stands.is_state in none own.first.disk own.first own.is_first.own }

  module _ (one_first : (a b : Label) → IsFirstLabel disks.sizes disks.reads a → IsFirstLabel disks.sizes disks.reads b → a ≡ b)
      (lack : (made state : GlobalState) → LackMajority (length made.devices) disks.sizes disks.reads → ReadsState made disks.sizes disks.reads state → ⊥) where
    pub lacks : LackState disks → (state : GlobalState) → IsOwnState disks.sizes disks.reads state → ⊥
    lacks none state own =
        let same = ap (λ (l : Label). l.devices) (one_first none.first own.first none.is_first own.is_first) ∙ sym own.devices in
        lack state state (subst (λ (n : ℕ). LackMajority n disks.sizes disks.reads) same none.lack) own.reads

    pub refused_lack : (error ≡ NoMajority) × LackState disks → IsRefusedAlone disks error
    refused_lack (is, none) = record { why = inr (inl (is, none)); none = λ tree stands. lacks none stands.state stands.is_state }
