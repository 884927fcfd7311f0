-- What each image has at any moment of a store's calls.
use Rattle.std.proofs.Common.{◌≡◌, ℕ, ◌<◌, ◌⊎◌, ⊎_elim, inl, inr, Bool, true, List, Contains, length, Option, sym, ap, ◌∙◌, subst}
use Rattle.bx_disk.specs.Disks.{Image, Disks}
use Rattle.bx_facts.specs.Writes.{Sent, HasSettled, IsOnly, IsOver, IsSourceIn, IsSourceRow, WritesTo}
use Rattle.bx_global.specs.declared.state.GlobalState.{GlobalState}
use Rattle.bx_rows.specs.declared.device.DeviceRow.{DeviceRow}
use Rattle.bx_rows.specs.declared.session.SessionRow.{SessionRow}
use Rattle.bx_volume.specs.bx_views.specs.Truths.{Truth}
use Rattle.bx_volume.specs.Images.{AreSources, devices_of}
use Rattle.bx_volume.specs.Overlay.{Logs, IsOfLogged, IsOverlaidTruth}
use Rattle.bx_volume.specs.Records.{Logged}
use Rattle.bx_volume.proofs.LoggedHomes.{matters_not}
use Rattle.bx_volume.proofs.Matters.{truth_same}
use Rattle.bx_redo.specs.View.{LogView}
use Rattle.bx_redo.specs.Stands.{LogStands, IsFound, Shows, is_written}
use Rattle.bx_redo.proofs.Own.{most_of}
use Rattle.bx_redo.proofs.Settled.{one_disk, there_is}
use Rattle.bx_redo.proofs.Shown.{shown}

module _ (Sure : ℕ → ℕ → List ℕ → Type 0)
    (disks : Disks) (state : GlobalState) (there : (d s : ℕ) (content : List ℕ) → Sure d s content → d < length state.devices) (image : Image) (second : ℕ → ℕ → Bool) (sources : AreSources state second) (sent : List Sent) (greatest : ℕ)
    (has : HasSettled sent greatest Sure disks state image) where
  -- what is sure, and what members write nothing else to
  image_has : (d s : ℕ) (content : List ℕ) → IsOnly sent greatest d s content → Sure d s content → devices_of image second d s ≡ content
  image_has d s content only sure =
      let row = there_is state.devices d (there d s content sure) in
      let source : IsSourceIn state d (second d s) = subst (λ (o : Option DeviceRow). IsSourceRow o (second d s)) (sym row.1) (sources d s row.0 row.1) in
      ap (λ (n : ℕ). image n s) (one_disk d (second d s)) ∙ has.has d s content (second d s) only sure source

  module _ (devices areas : ℕ) (rows : List SessionRow) (before : Image) (logs : Logs) (truth : Truth) (more : Logged) where
    pub moment_shows : (log : LogView)
        → ((write : Sent) (d s : ℕ) (other : List ℕ) → Contains sent write → WritesTo write d s other
        → (is_written log d s ≡ true) ⊎ (((content : List ℕ) → Sure d s content → other ≡ content) ⊎ IsOver greatest write))
        → LogStands Sure devices areas rows before logs truth more log
        → Shows devices areas rows logs truth more (devices_of image second) log.slot log.work
    moment_shows log each st = shown Sure devices areas rows before (devices_of image second) logs truth more log log.work
        (λ d s apart sure. image_has d s (before d s) (record {
          each = λ write other there w. ⊎_elim
              (λ (is : is_written log d s ≡ true). absurd cc)
              (λ rest. ⊎_elim (λ same. inl (same (before d s) sure)) (λ over. inr over) rest)
              (each write d s other there w);
        }) sure) st

    pub moment_of_homes : (slot : ℕ)
        → ((write : Sent) (d s : ℕ) (other : List ℕ) → Contains sent write → WritesTo write d s other → IsOfLogged devices areas logs d s ⊎ IsOver greatest write)
        → IsFound Sure devices areas rows before logs truth more slot
        → IsOverlaidTruth (devices_of image second) devices areas rows logs truth
    moment_of_homes slot each found = truth_same before (devices_of image second) devices areas rows logs truth
        (λ d s matters. image_has d s (before d s) (record {
          each = λ write other there w. ⊎_elim
              (λ (logged : IsOfLogged devices areas logs d s). absurd (matters_not devices areas logs found.volume (most_of before devices areas rows logs truth found.is_truth) d s matters logged))
              (λ over. inr over)
              (each write d s other there w);
        }) (found.sure d s matters)) found.is_truth
