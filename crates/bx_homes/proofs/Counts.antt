-- How many records a log has is told by its gates.
use Rattle.std.proofs.Common.{◌≡◌, ℕ, ◌<◌, ◌≤◌, ◌⊎◌, ⊎_elim, arith, suc, List, [], ◌∷◌, length, sym, subst}
use Rattle.bx_disk.specs.Disks.{Image}
use Rattle.bx_layout.specs.Labels.{IsOpenGate}
use Rattle.bx_volume.specs.Records.{Logged, IsLog, StandOpen, gate_of}

open_at : (held : Image) (devices areas slot : ℕ) (records : List Logged) (k : ℕ) → k < length records → StandOpen held devices areas slot records → IsOpenGate (gate_of held devices slot k)
open_at held devices areas slot [] k less stand = absurd (omega (arith, less))
open_at held devices areas slot (newest ∷ older) k less stand = ⊎_elim
    (λ e. subst (λ (n : ℕ). IsOpenGate (gate_of held devices slot n)) (sym e) stand.0)
    (λ below. open_at held devices areas slot older k below stand.2) (last (length older) less)
  where
    last : (n : ℕ) → k < suc n → (k ≡ n) ⊎ (k < n)
    last n less = grind (arith, less)

pub as_many : (held : Image) (devices areas slot count : ℕ) (records : List Logged) → count ≤ 8 → ((gate : ℕ) → gate < count → IsOpenGate (gate_of held devices slot gate))
    → (count < 8 → IsOpenGate (gate_of held devices slot count) → ⊥) → IsLog held devices areas slot records → length records ≡ count
as_many held devices areas slot count records most opened end log = ⊎_elim
    (λ less. absurd (log.end (omega (arith, less, most)) (opened (length records) less)))
    (λ le. ⊎_elim (λ more. absurd (end (omega (arith, more, log.most)) (open_at held devices areas slot records count more log.stand))) (λ same. same) (more_or (length records) count le))
    (side (length records) count)
  where
    side : (n m : ℕ) → (n < m) ⊎ (m ≤ n)
    side n m = grind arith

    more_or : (n m : ℕ) → m ≤ n → (m < n) ⊎ (n ≡ m)
    more_or n m le = grind (arith, le)
