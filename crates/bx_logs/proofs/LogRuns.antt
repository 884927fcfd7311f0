-- Logs that are read gate by gate and body by body.
use Rattle.std.proofs.Common.{◌≡◌, ℕ, suc, ◌+◌, ◌<◌, ◌⊎◌, ⊎_elim, Bool, arith, List, [], ◌∷◌, ◌++◌, length, reverse, sym, ap, ◌∙◌, subst}
use Rattle.std.proofs.lemmas.List.{reverse-append, length-reverse}
use Rattle.bx_disk.specs.Disks.{Image}
use Rattle.bx_layout.specs.Labels.{IsOpenGate}
use Rattle.bx_places.specs.Places.{log_device, body_place}
use Rattle.bx_homes.specs.bx_volume.specs.Images.{by_device, devices_of, member_disk}
use Rattle.bx_homes.specs.bx_volume.specs.Records.{Logged, IsInBody, StandOpen, IsLog, gate_of}
use Rattle.bx_logs.specs.Bodies.{IsRecordAt}

-- ---- the log of a device depends on what that device holds

module _ (held now : Image) (devices areas slot : ℕ) (same : (s : ℕ) → now (log_device slot devices) s ≡ held (log_device slot devices) s) where
  body_same : (body : ℕ) (logged : Logged) → IsInBody held devices areas slot body logged → IsInBody now devices areas slot body logged
  body_same body logged is = record { is = is.is; reads = record { each = λ i less. same ((body_place slot body devices).1 + i) ∙ is.reads.each i less } }

  pub stand_same : (records : List Logged) → StandOpen held devices areas slot records → StandOpen now devices areas slot records
  stand_same [] stand = tt
  stand_same (newest ∷ older) stand = (
    subst IsOpenGate (sym (same _)) stand.0,
    body_same (length older) newest stand.1,
    stand_same older stand.2,
  )

  pub log_same : (records : List Logged) → IsLog held devices areas slot records → IsLog now devices areas slot records
  log_same records log = record {
    most = log.most;
    stand = stand_same records log.stand;
    end = λ less is_open. log.end less (subst IsOpenGate (same _) is_open);
  }

-- ---- a record in a body

module _ (image : Image) (second : ℕ → Bool) (devices areas slot body disk sector : ℕ) (logged : Logged)
    (same_disk : disk ≡ member_disk (body_place slot body devices).0 (second (body_place slot body devices).0)) (same_sector : sector ≡ (body_place slot body devices).1) where
  there : (i : ℕ) → image disk (sector + i) ≡ devices_of image (by_device second) (body_place slot body devices).0 ((body_place slot body devices).1 + i)
  there i = ap (λ (d : ℕ). image d (sector + i)) same_disk ∙ ap (λ (s : ℕ). devices_of image (by_device second) (body_place slot body devices).0 (s + i)) same_sector

  pub in_body : IsRecordAt image disk sector areas logged → IsInBody (devices_of image (by_device second)) devices areas slot body logged
  in_body at = record { is = at.is; reads = record { each = λ i less. sym (there i) ∙ at.reads.each i less } }

  pub at_body : IsInBody (devices_of image (by_device second)) devices areas slot body logged → IsRecordAt image disk sector areas logged
  at_body is = record { is = is.is; reads = record { each = λ i less. there i ∙ is.reads.each i less } }

-- ---- runs

module _ (held : Image) (devices areas slot : ℕ) where
  -- one record more
  pub one_more : (records : List Logged) (next : Logged) (count : ℕ) → length records ≡ count → StandOpen held devices areas slot (reverse records)
      → IsOpenGate (gate_of held devices slot count) → IsInBody held devices areas slot count next → StandOpen held devices areas slot (reverse (records ++ next ∷ []))
  one_more records next count long stand is_open is =
      let many : count ≡ length (reverse records) = sym (length-reverse records ∙ long) in
      subst (StandOpen held devices areas slot) (sym (reverse-append records (next ∷ [])))
      (subst (λ (n : ℕ). IsOpenGate (gate_of held devices slot n)) many is_open, subst (λ (n : ℕ). IsInBody held devices areas slot n next) many is, stand)

  -- where the run reaches a body, a record is in it
  pub none_missing : (records : List Logged) (k : ℕ) → k < length records → StandOpen held devices areas slot records → ((logged : Logged) → IsInBody held devices areas slot k logged → ⊥) → ⊥
  none_missing [] k less stand none = absurd (omega (arith, less))
  none_missing (newest ∷ older) k less stand none = ⊎_elim
      (λ e. none newest (subst (λ (n : ℕ). IsInBody held devices areas slot n newest) (sym e) stand.1))
      (λ below. none_missing older k below stand.2 none) (last (length older) less)
    where
      last : (n : ℕ) → k < suc n → (k ≡ n) ⊎ (k < n)
      last n less = grind (arith, less)
