-- The homes of blocks that logs have hold nothing that matters.
use Rattle.std.proofs.Common.{◌≡◌, ℕ, ◌+◌, ◌*◌, ◌<◌, ◌≤◌, ◌⊎◌, ⊎_elim, inl, inr, arith, Bool, true, false, List, length, sym, ap, ◌∙◌, refl, None}
use Rattle.std.specs.Prelude.{◌≢◌}
use Rattle.bx_disk.specs.Disks.{Image, Disks, IsImage}
use Rattle.bx_rows.specs.declared.session.SessionRow.{SessionRow}
use Rattle.bx_rows.specs.Words.{is_taken}
use Rattle.bx_places.specs.Places.{IsVolume, AreApart, block_place}
use Rattle.bx_truth.specs.bx_views.specs.Truths.{Truth}
use Rattle.bx_truth.proofs.Cases.{same_or}
use Rattle.bx_volume.specs.Images.{devices_of, member_disk}
use Rattle.bx_volume.specs.Overlay.{Logs, IsOverlaidTruth, IsUnlogged, IsOfLogged, Matters, Gate, Body, Home}
use Rattle.bx_volume.specs.Records.{LogWhere, newest_in}
use Rattle.bx_volume.proofs.Apart.{home_and_log, two_homes}
use Rattle.bx_volume.proofs.Matters.{truth_same}

module _ (devices areas : ℕ) (logs : Logs) (volume : IsVolume devices areas) where
  behind_logs : (at slot : ℕ) → slot < 8 → (s : ℕ) → s < 1 + 1168 * slot + 1168 → (sector : ℕ) → s ≡ (block_place at devices).1 + sector → ⊥
  behind_logs at slot less s before sector same = let b = home_and_log at devices slot less in omega (arith, b, before, same)

  not_logged : (at : ℕ) → IsUnlogged logs at → (h : ℕ) → h < 8 → (other : ℕ) → at ≡ other → newest_in (logs h) other ≡ None
  not_logged at unlogged h less other same = ap (newest_in (logs h)) (sym same) ∙ unlogged h less

  apart : (x y i j a b : ℕ) → AreApart x 9 y 9 → i < 9 → j < 9 → a ≡ x + i → a ≡ y + j → ⊥
  apart x y i j a b (inl le) less within one other = omega (arith, le, less, within, one, other)
  apart x y i j a b (inr le) less within one other = omega (arith, le, less, within, one, other)

  pub matters_not : ((slot : ℕ) → slot < 8 → length (logs slot) ≤ 8) → (d s : ℕ) → Matters devices areas logs d s → IsOfLogged devices areas logs d s → ⊥
  matters_not most d s (Gate slot gate less place few) l = behind_logs l.at slot less s (omega (arith, place)) l.sector l.place
  matters_not most d s (Body slot body sector less few within fills) l = behind_logs l.at slot less s (let m = most slot less in omega (arith, few, within, m)) l.sector l.place
  matters_not most d s (Home at sector is unlogged within) l = by (same_or at l.at)
    where
      by : (at ≡ l.at) ⊎ (at ≢ l.at) → ⊥
      by (inl same) = let none = not_logged at unlogged l.slot l.in_slots l.at same in let e = sym none ∙ l.newest in absurd cc
      by (inr other) = apart (block_place at devices).1 (block_place l.at devices).1 sector l.sector s 0
          (two_homes at l.at devices areas volume is l.is other l.device) within l.within refl l.place

  most_of : (held : Image) (rows : List SessionRow) (truth : Truth) → IsOverlaidTruth held devices areas rows logs truth → (slot : ℕ) → slot < 8 → length (logs slot) ≤ 8
  most_of held rows truth was slot less = by (is_taken rows slot) (was.has_logs slot less)
    where
      by : (taken : Bool) → LogWhere taken held devices areas slot (logs slot) → length (logs slot) ≤ 8
      by true log = log.most
      by false none = let e = ap length none in omega (arith, e)

  -- several homes, in part or whole
  pub homes_written : (held now : Image) (rows : List SessionRow) (truth : Truth) → ((d s : ℕ) → (now d s ≡ held d s) ⊎ IsOfLogged devices areas logs d s)
      → IsOverlaidTruth held devices areas rows logs truth → IsOverlaidTruth now devices areas rows logs truth
  homes_written held now rows truth each was = truth_same held now devices areas rows logs truth
      (λ d s matters. ⊎_elim (λ same. same) (λ logged. absurd (matters_not (most_of held rows truth was) d s matters logged)) (each d s)) was

  -- and what a crash leaves of them
  pub homes_out : (disks : Disks) (image : Image) (second : ℕ → ℕ → Bool) (rows : List SessionRow) (truth : Truth) → IsImage disks image
      → ((d s : ℕ) → (disks.unsure (member_disk d (second d s)) s ≡ false) ⊎ IsOfLogged devices areas logs d s)
      → IsOverlaidTruth (devices_of disks.reads second) devices areas rows logs truth → IsOverlaidTruth (devices_of image second) devices areas rows logs truth
  homes_out disks image second rows truth is each = homes_written (devices_of disks.reads second) (devices_of image second) rows truth
      (λ d s. ⊎_elim (λ sure. inl (is.sure (member_disk d (second d s)) s sure)) (λ logged. inr logged) (each d s))
