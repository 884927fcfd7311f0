-- The state that was read, by the first label.
use Rattle.std.proofs.Common.{◌≡◌, ℕ, ◌⊎◌, inl, inr, length, Option, Some, None, Result, Ok, Err, refl, sym, ap, subst, ◌∙◌}
use Rattle.std.specs.Prelude.{IfErr, IfNone, IfOk, IfSome}
use Rattle.bx_disk.specs.Disks.{Disks}
use Rattle.bx_global.specs.declared.state.GlobalState.{GlobalState}
use Rattle.bx_layout.specs.declared.label.Label.{Label}
use Rattle.bx_overlay.specs.Refusals.{HasNoLabel, IsBreak}
use Rattle.bx_overlay.specs.declared.error.AuditError.{AuditError}
use Rattle.bx_overlay.specs.declared.error.AuditError.TheVariants.{NoLabel, NoMajority}
use Rattle.bx_paxos_found.specs.bx_paxos.specs.Reading.{ReadsState}
use Rattle.bx_paxos_found.proofs.Labelling.{of_none, of_some}
use Rattle.bx_paxos_found.specs.Finding.{LackMajority}
use Rattle.bx_rack_audit.specs.Alone.{IsOwnState, LackState}
use Rattle.bx_volume.specs.Images.{IsFirstLabel}

-- what is said of a state that was read
abbrev pub IsReadState : Disks → Label → GlobalState → Type 0
IsReadState disks first state = (length state.devices ≡ first.devices) × ((made : GlobalState) → length made.devices ≡ first.devices → ReadsState made disks.sizes disks.reads state)

abbrev pub IsNoState : Disks → AuditError → Type 0
IsNoState disks error = IsBreak error ⊎ (((error ≡ NoLabel 0) × HasNoLabel disks) ⊎ ((error ≡ NoMajority) × LackState disks))

module _ (disks : Disks) (first : Label) (read : Option GlobalState) (is_first : IsFirstLabel disks.sizes disks.reads first) where
  pub own_ok : IfSome read (IsReadState disks first) → (r : Result GlobalState AuditError) → IfOk r (λ state. read ≡ Some state) → IfOk r (IsOwnState disks.sizes disks.reads)
  own_ok some (Ok state) same =
      let is = of_some (IsReadState disks first) read state same some in
      record { first = first; is_first = is_first; devices = is.0; reads = is.1 state is.0 }
  own_ok some (Err error) same = tt

  pub own_err : IfNone read (LackMajority first.devices disks.sizes disks.reads) → (r : Result GlobalState AuditError) → IfErr r (λ error. (error ≡ NoMajority) × (read ≡ None)) → IfErr r (IsNoState disks)
  own_err none (Ok state) same = tt
  own_err none (Err error) (is, same) = inr (inr (is, record { first = first; is_first = is_first; lack = of_none read same none }))
