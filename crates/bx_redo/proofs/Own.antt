-- The sectors of a log's slot on which the truth depends: the gates of its run and the first behind it, and the bodies of its records.
use Rattle.std.proofs.Common.{◌≡◌, ℕ, ◌+◌, ◌*◌, ◌<◌, ◌≤◌, ◌⊎◌, inl, inr, arith, Bool, true, false, List, length, sym, ap, subst}
use Rattle.std.specs.Prelude.{◌≢◌}
use Rattle.bx_disk.specs.Disks.{Image}
use Rattle.bx_places.specs.Places.{log_start}
use Rattle.bx_rows.specs.declared.session.SessionRow.{SessionRow}
use Rattle.bx_rows.specs.Words.{is_taken}
use Rattle.bx_volume.specs.bx_truth.proofs.Cases.{same_or}
use Rattle.bx_volume.specs.bx_views.specs.Truths.{Truth}
use Rattle.bx_volume.specs.Overlay.{Logs, IsOverlaidTruth, Matters, Gate, Body, Home}
use Rattle.bx_volume.specs.Records.{LogWhere}
use Rattle.bx_volume.proofs.Apart.{home_and_log}

-- a gate of the run or the first behind it, or a sector of the body of a record
pub record IsOwnGate (slot count s : ℕ) : Type 0 where
  pub gate : ℕ
  pub place : gate < 8
  pub few : gate ≤ count
  pub is : s ≡ log_start slot + gate

pub record IsOwnBody (slot count s : ℕ) : Type 0 where
  pub body : ℕ
  pub few : body < count
  pub sector : ℕ
  pub within : sector < 145
  pub is : s ≡ log_start slot + 8 + 145 * body + sector

pub most_of : (held : Image) (devices areas : ℕ) (rows : List SessionRow) (logs : Logs) (truth : Truth) → IsOverlaidTruth held devices areas rows logs truth
    → (slot : ℕ) → slot < 8 → length (logs slot) ≤ 8
most_of held devices areas rows logs truth was slot less = by (is_taken rows slot) (was.has_logs slot less)
  where
    by : (taken : Bool) → LogWhere taken held devices areas slot (logs slot) → length (logs slot) ≤ 8
    by true log = log.most
    by false none = let e = ap length none in omega (arith, e)

two_slots : (slot other s : ℕ) → slot ≢ other → log_start slot ≤ s → s < log_start slot + 1168 → log_start other ≤ s → s < log_start other + 1168 → ⊥
two_slots slot other s apart a b c d = apart (omega (arith, a, b, c, d))

module _ (devices areas : ℕ) (logs : Logs) (most : (slot : ℕ) → slot < 8 → length (logs slot) ≤ 8) (slot : ℕ) (less : slot < 8) where
  pub own : (d s : ℕ) → Matters devices areas logs d s → log_start slot ≤ s → s < log_start slot + 1168
      → IsOwnGate slot (length (logs slot)) s ⊎ IsOwnBody slot (length (logs slot)) s
  own d s (Gate other gate in_slots place few) from to = by (same_or slot other)
    where
      by : (slot ≡ other) ⊎ (slot ≢ other) → IsOwnGate slot (length (logs slot)) s ⊎ IsOwnBody slot (length (logs slot)) s
      by (inl same) = inl record { gate = gate; place = place; few = subst (λ (n : ℕ). gate ≤ length (logs n)) (sym same) few; is = ap (λ (n : ℕ). log_start n + gate) (sym same) }
      by (inr apart) = absurd (two_slots slot other s apart from to (omega arith) (omega (arith, place)))
  own d s (Body other body sector in_slots few within fills) from to = by (same_or slot other)
    where
      by : (slot ≡ other) ⊎ (slot ≢ other) → IsOwnGate slot (length (logs slot)) s ⊎ IsOwnBody slot (length (logs slot)) s
      by (inl same) = inr record { body = body; few = subst (λ (n : ℕ). body < length (logs n)) (sym same) few; sector = sector; within = within; is = ap (λ (n : ℕ). log_start n + 8 + 145 * body + sector) (sym same) }
      by (inr apart) = absurd (two_slots slot other s apart from to (omega arith) (let m = most other in_slots in omega (arith, few, within, m)))
  own d s (Home at sector is unlogged within) from to = absurd (let b = home_and_log at devices slot less in omega (arith, b, to))
