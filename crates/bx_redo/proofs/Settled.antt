-- Images have what is settled.
use Rattle.std.proofs.Common.{⊎_elim, ◌≡◌, ℕ, ◌<◌, arith, Bool, true, false, List, length, Option, Some, sym, ap, ◌∙◌, subst}
use Rattle.std.specs.Prelude.{slice_get}
use Rattle.std.proofs.lemmas.Option.{slice_get_cases}
use Rattle.bx_disk.specs.Disks.{Image, Disks, IsImage}
use Rattle.bx_facts.specs.Writes.{IsSettled, IsSourceRow, IsSourceIn, member_disk}
use Rattle.bx_global.specs.declared.state.GlobalState.{GlobalState}
use Rattle.bx_rows.specs.declared.device.DeviceRow.{DeviceRow}
use Rattle.bx_volume.specs.Images.{AreSources, devices_of, member_disk as disk_of}
use Rattle.bx_redo.specs.Stands.{HasSure}

pub one_disk : (device : ℕ) (second : Bool) → disk_of device second ≡ member_disk device second
one_disk device false = omega arith
one_disk device true = omega arith

pub there_is : (rows : List DeviceRow) (n : ℕ) → n < length rows → (row : DeviceRow) × (slice_get rows n ≡ Some row)
there_is rows n less = ⊎_elim
    (λ y. (y.0, y.2))
    (λ z. let le = z.0 in absurd (omega (arith, less, le)))
    (slice_get_cases rows n).1

pub settled_has : (disks : Disks) (state : GlobalState) (image : Image) (second : ℕ → ℕ → Bool) → IsImage disks image → AreSources state second
    → HasSure (IsSettled disks state) (devices_of image second)
settled_has disks state image second is sources d s content settled =
    let row = there_is state.devices d settled.there in
    let source : IsSourceIn state d (second d s) = subst (λ (o : Option DeviceRow). IsSourceRow o (second d s)) (sym row.1) (sources d s row.0 row.1) in
    ap (λ (n : ℕ). image n s) (one_disk d (second d s)) ∙ is.sure (member_disk d (second d s)) s (settled.sure (second d s) source) ∙ settled.reads (second d s) source
