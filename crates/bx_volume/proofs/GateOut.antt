-- While a gate's write is out, each image has the truth without its record, or with it.
use Rattle.std.proofs.Common.{[], ◌≡◌, ℕ, suc, ◌+◌, ◌<◌, ◌≤◌, ◌⊎◌, ⊎_elim, inl, inr, arith, Bool, true, List, ◌∷◌, length, sym, ap, ◌∙◌, subst, Some, None}
use Rattle.std.specs.Prelude.{◌≢◌}
use Rattle.bx_disk.specs.Disks.{Image, Disks, IsImage}
use Rattle.bx_rows.specs.declared.session.SessionRow.{SessionRow}
use Rattle.bx_rows.specs.Words.{is_taken}
use Rattle.bx_layout.specs.declared.block.Block.{Block}
use Rattle.bx_truth.specs.bx_records.specs.Drafts.{block_in}
use Rattle.bx_layout.specs.Labels.{IsOpenGate}
use Rattle.bx_places.specs.Places.{IsBlock, gate_place, body_place}
use Rattle.bx_volume.specs.Images.{devices_of, member_disk}
use Rattle.bx_volume.specs.Records.{Logged, IsInBody, gate_of, newest_in}
use Rattle.bx_truth.specs.bx_views.specs.Truths.{Truth, with_draft}
use Rattle.bx_volume.specs.Overlay.{Logs, IsHome, IsSureAs, IsOverlaidTruth, IsUnlogged, Matters, MattersMore, Gate, Body, Home, filled_of, with_log}
use Rattle.bx_volume.proofs.Doubt.{gate_in_doubt, closing_in_doubt}
use Rattle.bx_volume.proofs.Sizes.{filled_below, filled_there}
use Rattle.bx_truth.proofs.Cases.{same_or}
use Rattle.bx_volume.proofs.Overlay.{log_here, log_there, older_none}

module _ (devices areas : ℕ) (logs : Logs) (slot : ℕ) (more : Logged) where
  longer : (s : ℕ) → (s ≡ slot) → length (with_log logs slot (more ∷ logs slot) s) ≡ suc (length (logs slot))
  longer s same = ap length (ap (with_log logs slot (more ∷ logs slot)) same ∙ log_here logs slot (more ∷ logs slot))

  as_long : (s : ℕ) → s ≢ slot → length (with_log logs slot (more ∷ logs slot) s) ≡ length (logs s)
  as_long s other = ap length (log_there logs slot s (more ∷ logs slot) other)

  before : (at : ℕ) → slot < 8 → IsUnlogged (with_log logs slot (more ∷ logs slot)) at → IsUnlogged logs at
  before at less unlogged s in_slots = ⊎_elim
      (λ same. ap (λ (n : ℕ). newest_in (logs n) at) same ∙ (older_none (block_in more.changed at) (newest_in (logs slot) at) (sym (ap (λ (l : List Logged). newest_in l at) (log_here logs slot (more ∷ logs slot))) ∙ unlogged slot less)).1)
      (λ other. sym (ap (λ (l : List Logged). newest_in l at) (log_there logs slot s (more ∷ logs slot) other)) ∙ unlogged s in_slots)
      (same_or s slot)

  gate_case : (s gate : ℕ) → s < 8 → gate < 8 → gate ≤ length (with_log logs slot (more ∷ logs slot) s) → (s ≡ slot) ⊎ (s ≢ slot) → MattersMore devices areas logs slot more (gate_place s gate devices).0 (gate_place s gate devices).1
  gate_case s gate less place le (inr other) = inl (Gate s gate less place (omega (arith, le, as_long s other)))
  gate_case s gate less place le (inl same) = ⊎_elim
      (λ few. inl (Gate s gate less place (subst (λ (n : ℕ). gate ≤ length (logs n)) (sym same) few)))
      (λ is. inr (inr (omega (arith, place, is), (λ i. (gate_place (same i) (is i) devices).0), (λ i. (gate_place (same i) (is i) devices).1))))
      (last gate (length (logs slot)) (omega (arith, le, longer s same)))
    where
      last : (n m : ℕ) → n ≤ suc m → (n ≤ m) ⊎ (n ≡ m + 1)
      last n m le = grind (arith, le)

  body_case : (s body sector : ℕ) → s < 8 → body < length (with_log logs slot (more ∷ logs slot) s) → sector < 145
      → sector < filled_of (with_log logs slot (more ∷ logs slot) s) body → (s ≡ slot) ⊎ (s ≢ slot)
      → MattersMore devices areas logs slot more (body_place s body devices).0 ((body_place s body devices).1 + sector)
  body_case s body sector less few within fills (inr other) = inl (Body s body sector less (omega (arith, few, as_long s other)) within
      (subst (λ (records : List Logged). sector < filled_of records body) (log_there logs slot s (more ∷ logs slot) other) fills))
  body_case s body sector less few within fills (inl same) = ⊎_elim
      (λ below. inl (Body s body sector less (subst (λ (n : ℕ). body < length (logs n)) (sym same) below) within
      (subst (λ (n : ℕ). sector < filled_of (logs n) body) (sym same) (omega (arith, here, filled_below (logs slot) more body below)))))
      (λ is. inr (inl (sector, omega (arith, here, filled_there (logs slot) more body is), (λ i. (body_place (same i) (is i) devices).0), (λ i. (body_place (same i) (is i) devices).1 + sector))))
      (last body (length (logs slot)) (omega (arith, few, longer s same)))
    where
      last : (n m : ℕ) → n < suc m → (n < m) ⊎ (n ≡ m)
      last n m less = grind (arith, less)

      here : sector < filled_of (more ∷ logs slot) body
      here = subst (λ (records : List Logged). sector < filled_of records body) (ap (with_log logs slot (more ∷ logs slot)) same ∙ log_here logs slot (more ∷ logs slot)) fills

  pub matters_more : slot < 8 → (d s : ℕ) → Matters devices areas (with_log logs slot (more ∷ logs slot)) d s → MattersMore devices areas logs slot more d s
  matters_more here d s (Gate other gate less place le) = gate_case other gate less place le (same_or other slot)
  matters_more here d s (Body other body sector less few within fills) = body_case other body sector less few within fills (same_or other slot)
  matters_more here d s (Home at sector is unlogged within) = inl (Home at sector is (before at here unlogged) within)

-- The disks while the gate is out: all else that matters is sure and is as it was in a content without the record. Whether the gate reads as
-- closed or as open says nothing.
pub gate_out : (held : Image) (disks : Disks) (image : Image) (second : ℕ → ℕ → Bool) (devices areas : ℕ) (rows : List SessionRow) (logs : Logs) (truth : Truth) (slot : ℕ) (more : Logged)
    → IsImage disks image → slot < 8 → is_taken rows slot ≡ true → length (logs slot) < 8
    → IsOverlaidTruth held devices areas rows logs truth
    → IsInBody held devices areas slot (length (logs slot)) more
    → (length (logs slot) + 1 < 8 → IsOpenGate (gate_of held devices slot (length (logs slot) + 1)) → ⊥)
    → ((s at : ℕ) (block : Block) → s < 8 → s ≢ slot → block_in more.changed at ≡ Some block → newest_in (logs s) at ≡ None)
    → ((d s : ℕ) → MattersMore devices areas logs slot more d s → (d ≢ (gate_place slot (length (logs slot)) devices).0) ⊎ (s ≢ (gate_place slot (length (logs slot)) devices).1)
    → IsSureAs disks (member_disk d (second d s)) s (held d s))
    → IsOverlaidTruth (devices_of image second) devices areas rows logs truth ⊎ IsOverlaidTruth (devices_of image second) devices areas rows (with_log logs slot (more ∷ logs slot)) (with_draft truth more.changed)
gate_out held disks image second devices areas rows logs truth slot more is less taken place was body next alone sure =
    gate_in_doubt held (devices_of image second) devices areas rows logs truth slot more less taken place body next alone
    (λ d s matters apart. at d s (sure d s (inl matters) apart))
    (λ d s matters apart. at d s (sure d s (matters_more devices areas logs slot more less d s matters) apart))
    was
  where
    at : (d s : ℕ) → IsSureAs disks (member_disk d (second d s)) s (held d s) → image (member_disk d (second d s)) s ≡ held d s
    at d s is_sure = is.sure (member_disk d (second d s)) s is_sure.sure ∙ is_sure.reads

-- the same while gate 0 is closed: whether it reads as open or as closed says nothing
pub closing_out : (held : Image) (disks : Disks) (image : Image) (second : ℕ → ℕ → Bool) (devices areas : ℕ) (rows : List SessionRow) (logs : Logs) (truth : Truth) (slot : ℕ)
    → IsImage disks image → slot < 8 → is_taken rows slot ≡ true → 0 < length (logs slot)
    → IsOverlaidTruth held devices areas rows logs truth
    → ((at : ℕ) (block : Block) → IsBlock areas at → newest_in (logs slot) at ≡ Some block → IsHome held devices at block)
    → ((d s : ℕ) → Matters devices areas logs d s ⊎ Matters devices areas (with_log logs slot []) d s → (d ≢ (gate_place slot 0 devices).0) ⊎ (s ≢ (gate_place slot 0 devices).1)
    → IsSureAs disks (member_disk d (second d s)) s (held d s))
    → IsOverlaidTruth (devices_of image second) devices areas rows logs truth ⊎ IsOverlaidTruth (devices_of image second) devices areas rows (with_log logs slot []) truth
closing_out held disks image second devices areas rows logs truth slot is less taken some was homes sure =
    closing_in_doubt held (devices_of image second) devices areas rows logs truth slot less taken some homes
    (λ d s matters apart. at d s (sure d s (inl matters) apart))
    (λ d s matters apart. at d s (sure d s (inr matters) apart))
    was
  where
    at : (d s : ℕ) → IsSureAs disks (member_disk d (second d s)) s (held d s) → image (member_disk d (second d s)) s ≡ held d s
    at d s is_sure = is.sure (member_disk d (second d s)) s is_sure.sure ∙ is_sure.reads
