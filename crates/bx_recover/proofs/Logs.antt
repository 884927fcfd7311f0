-- What was read is what stands in the log.
use Rattle.std.proofs.Common.{◌≡◌, ◌∙◌, ◌⊎◌, ⊎_elim, inl, inr, ℕ, suc, ◌+◌, ◌-◌, ◌/◌, ◌<◌, ◌≤◌, arith, List, [], ◌∷◌, length, reverse, Some, sym, ap, subst}
use Rattle.std.specs.Prelude.{slice_get}
use Rattle.std.proofs.lemmas.List.{length-reverse, reverse-append}
use Rattle.bx_disk.specs.Disks.{Image, sector_of}
use Rattle.bx_layout.specs.Labels.{IsOpenGate}
use Rattle.bx_places.specs.Places.{body_place}
use Rattle.bx_redo.specs.bx_volume.specs.Records.{IsInBody, IsLog, Logged, StandOpen, gate_of, logged_text}
use Rattle.bx_redo.specs.bx_volume.specs.Overlay.{filled_of}
use Rattle.bx_redo.specs.bx_volume.proofs.OneLog.{one_logged}
use Rattle.bx_redo.specs.bx_volume.proofs.Sizes.{filled_below, filled_there}
use Rattle.bx_recover.specs.Bodies.{IsRecordIn}
use Rattle.bx_recover.specs.Done.{HasRun, IsEmptyBody, RecoveryStep, WasRead}
use Rattle.bx_recover.specs.Reading.{AreBodies, AreGates}
use Rattle.bx_recover.specs.Recovering.{RecoveryView, reads_body}
use Rattle.bx_recover.proofs.Lists.{item_at, same_items, split_last}

-- ---- records in bytes

from_start : (bytes : List ℕ) (sector : ℕ) → sector_of bytes (0 + sector) ≡ sector_of bytes sector
from_start bytes sector = let e : 0 + sector ≡ sector = omega arith in ap (sector_of bytes) e

-- bytes as the first body of a log
abbrev as_body : List ℕ → Image
as_body bytes device sector = sector_of bytes (sector - 9)

in_first : (areas : ℕ) (bytes : List ℕ) (logged : Logged) → IsRecordIn areas bytes logged → IsInBody (as_body bytes) 1 areas 0 0 logged
in_first areas bytes logged is = record {
  is = is.is;
  reads = record {
    each = λ sector less.
        let there : (body_place 0 0 1).1 + sector - 9 ≡ 0 + sector = omega arith in
        ap (sector_of bytes) there ∙ is.reads.each sector less;
  };
}

-- bytes begin with one record
pub one_record : (areas : ℕ) (bytes : List ℕ) (a b : Logged) → IsRecordIn areas bytes a → IsRecordIn areas bytes b → a ≡ b
one_record areas bytes a b is_a is_b = one_logged (as_body bytes) 1 areas 0 0 a b (in_first areas bytes a is_a) (in_first areas bytes b is_b)

module _ (held : Image) (devices areas slot : ℕ) where
  abbrev IsBody : ℕ → Logged → List ℕ → Type 0
  IsBody body logged bytes = (sector : ℕ) → sector < length (logged_text logged) / 512 → held (body_place slot body devices).0 ((body_place slot body devices).1 + sector) ≡ sector_of bytes sector

  read_in : (body : ℕ) (bytes : List ℕ) (logged : Logged) → IsBody body logged bytes → IsInBody held devices areas slot body logged → IsRecordIn areas bytes logged
  read_in body bytes logged same is = record { is = is.is; reads = record { each = λ sector less. from_start bytes sector ∙ sym (same sector less) ∙ is.reads.each sector less } }

  -- ---- a run

  last_or_below : (place count : ℕ) → place < suc count → (place ≡ count) ⊎ (place < count)
  last_or_below place count less = grind (arith, less)

  opened_at : (records : List Logged) (gate : ℕ) → gate < length records → StandOpen held devices areas slot records → IsOpenGate (gate_of held devices slot gate)
  opened_at [] gate less stand = absurd (omega (arith, less))
  opened_at (newest ∷ older) gate less stand = ⊎_elim
      (λ same. subst (λ (n : ℕ). IsOpenGate (gate_of held devices slot n)) (sym same) stand.0)
      (λ below. opened_at older gate below stand.2) (last_or_below gate (length older) less)

  body_at : (records : List Logged) (body : ℕ) (logged : Logged) → StandOpen held devices areas slot records → slice_get (reverse records) body ≡ Some logged → IsInBody held devices areas slot body logged
  body_at [] body logged stand there = absurd cc
  body_at (newest ∷ older) body logged stand there =
      ⊎_elim (λ before. body_at older body logged stand.2 before)
      (λ last. subst (IsInBody held devices areas slot body) last.1 (subst (λ (n : ℕ). IsInBody held devices areas slot n newest) (sym (last.0 ∙ length-reverse older)) stand.1))
      (split_last (reverse older) newest body logged (subst (λ (l : List Logged). slice_get l body ≡ Some logged) (reverse-append (newest ∷ []) older) there))

-- how far a record fills its body
filled_at : (records : List Logged) (body : ℕ) (logged : Logged) → slice_get (reverse records) body ≡ Some logged → (body < length records) × (filled_of records body ≡ length (logged_text logged) / 512)
filled_at [] body logged there = absurd cc
filled_at (newest ∷ older) body logged there =
    ⊎_elim (λ before. let rest = filled_at older body logged before in (omega (arith, rest.0), filled_below older newest body rest.0 ∙ rest.1))
    (λ last.
    let here : body ≡ length older = last.0 ∙ length-reverse older in
    (omega (arith, here), filled_there older newest body here ∙ ap (λ (l : Logged). length (logged_text l) / 512) last.1))
    (split_last (reverse older) newest body logged (subst (λ (l : List Logged). slice_get l body ≡ Some logged) (reverse-append (newest ∷ []) older) there))

module _ (held : Image) (recovery : RecoveryView) (steps : List RecoveryStep) (records : List Logged) (is : HasRun recovery steps) (gates : AreGates held recovery.devices recovery.slot is.settled.gates)
    (bodies : AreBodies held recovery steps records) (log : IsLog held recovery.devices recovery.areas recovery.slot records) where
  sides : (n m : ℕ) → (n < m) ⊎ (m ≤ n)
  sides n m = grind arith

  at_most : is.opened ≤ length records
  at_most = by (sides (length records) is.opened)
    where
      by : (length records < is.opened) ⊎ (is.opened ≤ length records) → is.opened ≤ length records
      by (inl less) =
          let few : length records < 8 = omega (arith, less, is.settled.has.run.most) in
          absurd (log.end few (subst IsOpenGate (sym (gates (length records) few)) (is.settled.has.run.opened (length records) less)))
      by (inr le) = le

  at_least : length records ≤ is.opened
  at_least = by (sides is.opened (length records))
    where
      by : (is.opened < length records) ⊎ (length records ≤ is.opened) → length records ≤ is.opened
      by (inl less) =
          let few : is.opened < 8 = omega (arith, less, log.most) in
          absurd (is.settled.has.run.end few (subst IsOpenGate (gates is.opened few) (opened_at held recovery.devices recovery.areas recovery.slot records is.opened less log.stand)))
      by (inr le) = le

  turned : length (reverse records) ≡ length records
  turned = length-reverse records

  stands : (body : ℕ) (logged : Logged) → slice_get (reverse records) body ≡ Some logged → IsInBody held recovery.devices recovery.areas recovery.slot body logged
  stands body logged there = body_at held recovery.devices recovery.areas recovery.slot records body logged log.stand there

  agrees : (body : ℕ) (bytes : List ℕ) (logged : Logged) → WasRead steps (reads_body recovery body) bytes → slice_get (reverse records) body ≡ Some logged → IsRecordIn recovery.areas bytes logged
  agrees body bytes logged came there =
      let filled = filled_at records body logged there in
      read_in held recovery.devices recovery.areas recovery.slot body bytes logged
      (λ sector less. bodies body sector bytes came filled.0 (omega (arith, less, filled.1)))
      (stands body logged there)

  long : length recovery.records ≡ length (reverse records)
  long = by is.ends
    where
      by : (length recovery.records ≡ is.opened) ⊎ ((length recovery.records < is.opened) × IsEmptyBody recovery steps (length recovery.records)) → length recovery.records ≡ length (reverse records)
      by (inl all) = omega (arith, all, at_most, at_least, turned)
      by (inr short) =
          let next = item_at (reverse records) (length recovery.records) (omega (arith, short.0, at_most, turned)) in
          absurd (short.1.none next.0 (agrees (length recovery.records) short.1.bytes next.0 short.1.came next.1))

  pub the_log : recovery.records ≡ reverse records
  the_log = same_items recovery.records (reverse records) long
      (λ body a b read there.
      let from = is.each body a read in
      one_record recovery.areas from.bytes a b from.is (agrees body from.bytes b from.came there))
