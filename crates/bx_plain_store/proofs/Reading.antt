-- What is settled is what a source reads.
use Rattle.std.proofs.Common.{◌≡◌, ℕ, ◌+◌, ◌-◌, ◌*◌, ◌<◌, ◌≤◌, List, length, Some, sym, ◌∙◌, ap, subst, arith, slice_get}
use Rattle.bx_disk.specs.Disks.{Disks, sector_of}
use Rattle.bx_calls.specs.Regions.{ReadsAs}
use Rattle.bx_global.specs.declared.state.GlobalState.{GlobalState}
use Rattle.bx_rows.specs.declared.device.DeviceRow.{DeviceRow}
use Rattle.bx_facts.specs.Writes.{IsSettled, IsSourceIn, IsSourceRow}
use Rattle.bx_plain_store.specs.Sources.{IsSourceDisk}

pub reads_settled : (x : Disks) (s : GlobalState) (row : DeviceRow) (device disk place count sector : ℕ) (content bytes : List ℕ)
    → slice_get s.devices device ≡ Some row → IsSourceDisk row.mode device disk → ReadsAs x.reads disk place bytes → length bytes ≡ 512 * count
    → IsSettled x s device sector content → place ≤ sector → sector < place + count → sector_of bytes (sector - place) ≡ content
reads_settled x s row device disk place count sector content bytes at is reads long settled from below =
    let source : IsSourceIn s device is.second = subst (λ (o : _). IsSourceRow o is.second) (sym at) is.source in
    let there : place + (sector - place) ≡ sector = omega (arith, from) in
    let here = reads.each (sector - place) (omega (arith, from, below, long)) in
    sym here ∙ ap (x.reads disk) there ∙ ap (λ (d : ℕ). x.reads d sector) is.is ∙ settled.reads is.second source
