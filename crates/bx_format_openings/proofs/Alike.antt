-- What is settled on disks whose members are alike, and in states whose devices are.
use Rattle.std.proofs.Common.{◌≡◌, ⊎_elim, ℕ, ◌<◌, Bool, true, false, length, Option, sym, ◌∙◌, ap, subst}
use Rattle.std.proofs.lemmas.Option.{slice_get_cases}
use Rattle.bx_disk.specs.Disks.{Disks, Image}
use Rattle.bx_facts.specs.Writes.{IsSettled, IsSourceIn, IsSourceRow, member_disk}
use Rattle.bx_global.specs.declared.state.GlobalState.{GlobalState}
use Rattle.bx_redo.proofs.Settled.{one_disk}
use Rattle.bx_rows.specs.declared.device.DeviceRow.{DeviceRow}
use Rattle.bx_volume.specs.Images.{devices_of}

-- what devices hold, read off their first members
abbrev pub first_members : Disks → Image
first_members x = devices_of x.reads (λ device sector. false)

-- a device with a source is there
pub source_there : (s : GlobalState) (device : ℕ) (second : Bool) → IsSourceIn s device second → device < length s.devices
source_there s device second source = ⊎_elim
    (λ there. there.1)
    (λ past. absurd (subst (λ (o : Option DeviceRow). IsSourceRow o second) past.1 source))
    (slice_get_cases s.devices device).1

-- a sector that both members have alike, and surely, is settled
pub alike_settled : (x : Disks) (s : GlobalState) (device sector : ℕ) → device < length s.devices → ((second : Bool) → x.unsure (member_disk device second) sector ≡ false)
    → x.reads (member_disk device true) sector ≡ x.reads (member_disk device false) sector → IsSettled x s device sector (first_members x device sector)
alike_settled x s device sector there sure same = record {
  there = there;
  reads = λ second source. by second;
  sure = λ second source. sure second;
}
  where
    first_is : x.reads (member_disk device false) sector ≡ first_members x device sector
    first_is = ap (λ (n : ℕ). x.reads n sector) (sym (one_disk device false))

    by : (second : Bool) → x.reads (member_disk device second) sector ≡ first_members x device sector
    by false = first_is
    by true = same ∙ first_is
