-- What a content of the devices has, while works are under way in several slots.
use Rattle.std.specs.Prelude.{◌≡◌, ◌⊎◌, ℕ, zero, suc, true, List, [], ◌∷◌}
use Rattle.bx_disk.specs.Disks.{Image}
use Rattle.bx_rows.specs.declared.session.SessionRow.{SessionRow}
use Rattle.bx_views.specs.Truths.{Truth, with_draft}
use Rattle.bx_redo.specs.bx_volume.specs.Overlay.{Logs, IsOverlaidTruth}
use Rattle.bx_redo.specs.bx_volume.specs.Records.{Logged}
use Rattle.bx_world_logs.specs.Logs.{Slot, closes, opens}

module _ (logs : Logs) (slots : ℕ → Slot) where
  -- the run of a slot that is shown: that of its log; or that with the record whose gate is being opened, if one is; or none, if gate 0 is being closed
  abbrev pub IsRun : ℕ → List Logged → Type 0
  IsRun slot run = (run ≡ logs slot) ⊎ (((opens (slots slot).activity ≡ true) × (run ≡ (slots slot).more ∷ logs slot)) ⊎ ((closes (slots slot).activity ≡ true) × (run ≡ [])))

  -- the truth is overlaid by the record that is shown besides
  abbrev pub ShowsSlot : ℕ → List Logged → Truth → Truth → Type 0
  ShowsSlot slot run truth next =
      ((run ≡ logs slot) × (next ≡ truth))
      ⊎ (((opens (slots slot).activity ≡ true) × (run ≡ (slots slot).more ∷ logs slot) × (next ≡ with_draft truth (slots slot).more.changed))
      ⊎ ((closes (slots slot).activity ≡ true) × (run ≡ []) × (next ≡ truth)))

  -- by the runs of so many slots, in their order
  abbrev pub ShowsTo : ℕ → Logs → Truth → Truth → Type 0
  ShowsTo zero shown truth last = last ≡ truth
  ShowsTo (suc n) shown truth last = (next : Truth) × ShowsTo n shown truth next × ShowsSlot n (shown n) next last

  -- the content is the truth with some of the records that are in doubt
  pub record IsShown (devices areas : ℕ) (rows : List SessionRow) (truth : Truth) (now : Image) : Type 0 where
    pub shown : Logs
    pub last : Truth
    pub shows : ShowsTo 8 shown truth last
    pub is_truth : IsOverlaidTruth now devices areas rows shown last
