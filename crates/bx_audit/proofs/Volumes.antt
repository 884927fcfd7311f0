-- What a volume stands for as it reads.
use Rattle.std.proofs.Common.{◌≡◌, ◌↔◌, ℕ, zero, suc, inl, inr, arith, Bool, true, false, sym, ap, subst, refl, Option, Some, None}
use Rattle.std.specs.Prelude.{slice_get}
use Rattle.bx_audit.specs.Audited.{StandFor}
use Rattle.bx_disk.specs.Disks.{Disks, IsImage}
use Rattle.bx_global.specs.declared.state.GlobalState.{GlobalState}
use Rattle.bx_model.specs.declared.tree.Tree.{Tree}
use Rattle.bx_overlay.proofs.There.{is_source}
use Rattle.bx_rows.specs.declared.device.DeviceRow.{DeviceRow}
use Rattle.bx_rows.specs.Modes.{IsReadAtA}
use Rattle.bx_homes.specs.bx_volume.specs.Images.{ShowsTree, by_device}
use Rattle.bx_homes.specs.bx_volume.specs.Volumes.{IsVolumeFor}

-- whether reads go to member B in a mode
abbrev reads_b : ℕ → Bool
reads_b zero = false
reads_b (suc zero) = false
reads_b (suc (suc zero)) = true
reads_b (suc (suc (suc zero))) = false
reads_b (suc (suc (suc (suc mode)))) = true

read_by : (mode : ℕ) → (reads_b mode ≡ false) ↔ IsReadAtA mode
read_by zero = (λ e. inl refl, λ is. refl)
read_by (suc zero) = (λ e. inr (inl refl), λ is. refl)
read_by (suc (suc zero)) = (λ e. absurd cc, λ is. absurd (omega (arith, is)))
read_by (suc (suc (suc zero))) = (λ e. inr (inr refl), λ is. refl)
read_by (suc (suc (suc (suc mode)))) = (λ e. absurd cc, λ is. absurd (omega (arith, is)))

abbrev row_read : Option DeviceRow → Bool
row_read None = false
row_read (Some row) = reads_b row.mode

module _ (state : GlobalState) where
  abbrev second : ℕ → Bool
  second device = row_read (slice_get state.devices device)

  read_from : (device : ℕ) (row : DeviceRow) → slice_get state.devices device ≡ Some row → (second device ≡ false) ↔ IsReadAtA row.mode
  read_from device row there = subst (λ (b : Bool). (b ≡ false) ↔ IsReadAtA row.mode) (sym (ap row_read there)) (read_by row.mode)

pub stands : (disks : Disks) (state : GlobalState) (devices areas : ℕ) (tree : Tree) → IsVolumeFor disks (λ image told. told ≡ state) devices areas (λ before after. before ≡ after) tree
    → IsImage disks disks.reads → StandFor disks state tree
stands disks state devices areas tree volume image =
    let shown = volume.stands record {
      image = disks.reads;
      is_image = image;
      state = state;
      is_state = refl;
      second = by_device (second state);
      sources = λ device sector row there. is_source row.mode (second state device) (read_from state device row there);
    } in
    record {
      state = state;
      is_state = refl;
      second = second state;
      reads = read_from state;
      shows = subst (ShowsTree disks.sizes disks.reads state (by_device (second state))) (sym shown.1) shown.2;
    }
