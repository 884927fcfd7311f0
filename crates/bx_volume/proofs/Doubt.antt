-- A gate that may be open or closed: the truth with a record or without it, and a closing.
use Rattle.std.proofs.Common.{◌≡◌, ℕ, zero, suc, ◌+◌, ◌<◌, ◌≤◌, ◌⊎◌, ⊎_elim, inl, inr, arith, Bool, true, false, List, [], ◌∷◌, length, take, sym, ap, ◌∙◌, subst, refl, Some, None}
use Rattle.std.specs.Prelude.{◌≢◌, ◌==◌, ◌&&◌, if◌then◌else◌, bytes_eq}
use Rattle.std.proofs.lemmas.Bool.Decides.{nat_tests}
use Rattle.std.proofs.lemmas.Slice.Eq.{bytes_eq-Decides}
use Rattle.bx_disk.specs.Disks.{Image}
use Rattle.bx_rows.specs.declared.session.SessionRow.{SessionRow}
use Rattle.bx_rows.specs.Words.{is_taken}
use Rattle.bx_layout.specs.declared.block.Block.{Block}
use Rattle.bx_truth.specs.bx_records.specs.Drafts.{block_in}
use Rattle.bx_layout.specs.Labels.{IsOpenGate, gate_word}
use Rattle.bx_places.specs.Places.{IsBlock, gate_place}
use Rattle.bx_volume.specs.Records.{Logged, IsInBody, StandOpen, gate_of, newest_in}
use Rattle.bx_truth.specs.bx_views.specs.Truths.{Truth, with_draft}
use Rattle.bx_volume.specs.Overlay.{Logs, IsOverlaidTruth, IsHome, Matters, WritesOnly, with_log}
use Rattle.bx_volume.proofs.Matters.{truth_same}
use Rattle.bx_truth.proofs.Cases.{same_or, eq_true, eq_false}
use Rattle.bx_volume.proofs.Steps.{gate_opens, gate_stays_closed, log_closed, log_rewritten, gate_in}
use Rattle.bx_volume.proofs.Kept.{body_kept, gate_kept, has_log}

pub open_or : (sector : List ℕ) → IsOpenGate sector ⊎ (IsOpenGate sector → ⊥)
open_or sector = by (bytes_eq (take 8 sector) gate_word) refl
  where
    by : (b : Bool) → bytes_eq (take 8 sector) gate_word ≡ b → IsOpenGate sector ⊎ (IsOpenGate sector → ⊥)
    by true is = inl ((bytes_eq-Decides (take 8 sector) gate_word).0 is)
    by false is = inr (λ same. let t = (bytes_eq-Decides (take 8 sector) gate_word).1 same in absurd cc)

-- one content with a single sector of another
abbrev pub with_sector : Image → ℕ → ℕ → List ℕ → Image
with_sector held device sector content d s = if (d == device) && (s == sector) then content else held d s

both_true : (d e s t : ℕ) → d ≡ e → s ≡ t → ((d == e) && (s == t)) ≡ true
both_true d e s t one other = rw (eq_true d e one) (eq_true s t other)

not_both : (d e s t : ℕ) → (d ≢ e) ⊎ (s ≢ t) → ((d == e) && (s == t)) ≡ false
not_both d e s t (inl other) = rw (eq_false d e other) refl
not_both d e s t (inr other) = grind (arith, nat_tests, other)

pub sector_here : (held : Image) (device sector : ℕ) (content : List ℕ) → with_sector held device sector content device sector ≡ content
sector_here held device sector content = ap (λ (b : Bool). if b then content else held device sector) (both_true device device sector sector refl refl)

pub sector_else : (held : Image) (device sector : ℕ) (content : List ℕ) (d s : ℕ) → (d ≢ device) ⊎ (s ≢ sector) → with_sector held device sector content d s ≡ held d s
sector_else held device sector content d s other = ap (λ (b : Bool). if b then content else held d s) (not_both d device s sector other)

pub only_sector : (held : Image) (device sector : ℕ) (content : List ℕ) → WritesOnly held (with_sector held device sector content) device sector 1
only_sector held device sector content = record {
  elsewhere = λ d s other. sector_else held device sector content d s (inl other);
  before = λ s less. sector_else held device sector content device s (inr (λ e. omega (arith, e, less)));
  behind = λ s past. sector_else held device sector content device s (inr (λ e. omega (arith, e, past)));
}

-- a sector is this one, or another
one_or : (d e s t : ℕ) → ((d ≡ e) × (s ≡ t)) ⊎ ((d ≢ e) ⊎ (s ≢ t))
one_or d e s t = ⊎_elim (λ same. ⊎_elim (λ also. inl (same, also)) (λ other. inr (inr other)) (same_or s t)) (λ other. inr (inl other)) (same_or d e)

module _ (held now : Image) (devices areas : ℕ) (rows : List SessionRow) (logs : Logs) (truth : Truth) (slot : ℕ) where
  module _ (gate : ℕ) where
    -- what is read, but for this gate, which is as it is now
    abbrev mid : Image
    mid = with_sector held (gate_place slot gate devices).0 (gate_place slot gate devices).1 (gate_of now devices slot gate)

    as_now : (other : Logs) → ((d s : ℕ) → Matters devices areas other d s → (d ≢ (gate_place slot gate devices).0) ⊎ (s ≢ (gate_place slot gate devices).1) → now d s ≡ held d s)
        → (d s : ℕ) → Matters devices areas other d s → now d s ≡ mid d s
    as_now other same d s matters = by (one_or d (gate_place slot gate devices).0 s (gate_place slot gate devices).1)
      where
        by : ((d ≡ (gate_place slot gate devices).0) × (s ≡ (gate_place slot gate devices).1)) ⊎ ((d ≢ (gate_place slot gate devices).0) ⊎ (s ≢ (gate_place slot gate devices).1)) → now d s ≡ mid d s
        by (inl (is_d, is_s)) =
            (λ i. now (is_d i) (is_s i))
            ∙ sym (sector_here held (gate_place slot gate devices).0 (gate_place slot gate devices).1 (gate_of now devices slot gate))
            ∙ (λ i. mid (sym is_d i) (sym is_s i))
        by (inr apart) = same d s matters apart ∙ sym (sector_else held (gate_place slot gate devices).0 (gate_place slot gate devices).1 (gate_of now devices slot gate) d s apart)

    mid_gate : gate_of mid devices slot gate ≡ gate_of now devices slot gate
    mid_gate = sector_here held (gate_place slot gate devices).0 (gate_place slot gate devices).1 (gate_of now devices slot gate)

  -- with the record or without it
  pub gate_in_doubt : (more : Logged) → slot < 8 → is_taken rows slot ≡ true → length (logs slot) < 8
      → IsInBody held devices areas slot (length (logs slot)) more
      → (length (logs slot) + 1 < 8 → IsOpenGate (gate_of held devices slot (length (logs slot) + 1)) → ⊥)
      → ((s at : ℕ) (block : Block) → s < 8 → s ≢ slot → block_in more.changed at ≡ Some block → newest_in (logs s) at ≡ None)
      → ((d s : ℕ) → Matters devices areas logs d s → (d ≢ (gate_place slot (length (logs slot)) devices).0) ⊎ (s ≢ (gate_place slot (length (logs slot)) devices).1) → now d s ≡ held d s)
      → ((d s : ℕ) → Matters devices areas (with_log logs slot (more ∷ logs slot)) d s → (d ≢ (gate_place slot (length (logs slot)) devices).0) ⊎ (s ≢ (gate_place slot (length (logs slot)) devices).1) → now d s ≡ held d s)
      → IsOverlaidTruth held devices areas rows logs truth
      → IsOverlaidTruth now devices areas rows logs truth ⊎ IsOverlaidTruth now devices areas rows (with_log logs slot (more ∷ logs slot)) (with_draft truth more.changed)
  gate_in_doubt more less taken place body next alone same same_more was = by (open_or (gate_of now devices slot (length (logs slot))))
    where
      only : WritesOnly held (mid (length (logs slot))) (gate_place slot (length (logs slot)) devices).0 (gate_place slot (length (logs slot)) devices).1 1
      only = only_sector held (gate_place slot (length (logs slot)) devices).0 (gate_place slot (length (logs slot)) devices).1 (gate_of now devices slot (length (logs slot)))

      by : IsOpenGate (gate_of now devices slot (length (logs slot))) ⊎ (IsOpenGate (gate_of now devices slot (length (logs slot))) → ⊥)
          → IsOverlaidTruth now devices areas rows logs truth ⊎ IsOverlaidTruth now devices areas rows (with_log logs slot (more ∷ logs slot)) (with_draft truth more.changed)
      by (inl is_open) = inr (truth_same (mid (length (logs slot))) now devices areas rows (with_log logs slot (more ∷ logs slot)) (with_draft truth more.changed)
          (as_now (length (logs slot)) (with_log logs slot (more ∷ logs slot)) same_more)
          (gate_opens held (mid (length (logs slot))) devices areas rows logs truth slot more less taken place only (subst IsOpenGate (sym (mid_gate (length (logs slot)))) is_open) body next alone was))
      by (inr closed) = inl (truth_same (mid (length (logs slot))) now devices areas rows logs truth
          (as_now (length (logs slot)) logs same)
          (gate_stays_closed held (mid (length (logs slot))) devices areas rows logs truth slot less taken place only (λ is_open. closed (subst IsOpenGate (mid_gate (length (logs slot))) is_open)) was))

  -- all gates up to here are open, and the bodies stay
  stand_again : (other : Image) → ((k : ℕ) (logged : Logged) → k < 8 → IsInBody held devices areas slot k logged → IsInBody other devices areas slot k logged)
      → (records : List Logged) → length records ≤ 8 → ((k : ℕ) → k < length records → IsOpenGate (gate_of other devices slot k)) → StandOpen held devices areas slot records → StandOpen other devices areas slot records
  stand_again other bodies [] most gates stand = tt
  stand_again other bodies (newest ∷ older) most gates stand = (
    gates (length older) (omega arith),
    bodies (length older) newest (omega (arith, most)) stand.1,
    stand_again other bodies older (omega (arith, most)) (λ k less. gates k (omega (arith, less))) stand.2,
  )

  open_at : (records : List Logged) (k : ℕ) → k < length records → StandOpen held devices areas slot records → IsOpenGate (gate_of held devices slot k)
  open_at [] k less stand = absurd (omega (arith, less))
  open_at (newest ∷ older) k less stand = ⊎_elim
      (λ e. subst (λ (n : ℕ). IsOpenGate (gate_of held devices slot n)) (sym e) stand.0)
      (λ below. open_at older k below stand.2) (last (length older) less)
    where
      last : (n : ℕ) → k < suc n → (k ≡ n) ⊎ (k < n)
      last n less = grind (arith, less)

  -- gate 0 of a run is written, and is open still
  first_stays_open : slot < 8 → is_taken rows slot ≡ true → 0 < length (logs slot) → IsOpenGate (gate_of (mid 0) devices slot 0)
      → IsOverlaidTruth held devices areas rows logs truth → IsOverlaidTruth (mid 0) devices areas rows logs truth
  first_stays_open less taken some is_open was =
      log_rewritten held (mid 0) devices areas rows logs truth slot (gate_place slot 0 devices).0 (gate_place slot 0 devices).1 1 only (gate_in devices slot 0 (omega arith)) less
      (has_log rows held (mid 0) devices areas slot (logs slot) (λ log. record {
        most = log.most;
        stand = stand_again (mid 0) (λ k logged few. body_kept held (mid 0) (gate_place slot 0 devices).0 (gate_place slot 0 devices).1 1 devices areas slot k logged only (λ same. inl (omega arith)))
            (logs slot) log.most (λ k few. gate k few (open_at (logs slot) k few log.stand)) log.stand;
        end = λ few opened. log.end few (subst IsOpenGate (kept (length (logs slot)) some) opened);
      })) was
    where
      only : WritesOnly held (mid 0) (gate_place slot 0 devices).0 (gate_place slot 0 devices).1 1
      only = only_sector held (gate_place slot 0 devices).0 (gate_place slot 0 devices).1 (gate_of now devices slot 0)

      kept : (k : ℕ) → 0 < k → gate_of (mid 0) devices slot k ≡ gate_of held devices slot k
      kept k more = gate_kept held (mid 0) (gate_place slot 0 devices).0 (gate_place slot 0 devices).1 1 devices areas slot k only (λ same. inl (omega (arith, more)))

      gate : (k : ℕ) → k < length (logs slot) → IsOpenGate (gate_of held devices slot k) → IsOpenGate (gate_of (mid 0) devices slot k)
      gate zero few opened = is_open
      gate (suc k) few opened = subst IsOpenGate (sym (kept (suc k) (omega arith))) opened

  -- a closing: the truth stays, by the whole run or by none of it
  pub closing_in_doubt : slot < 8 → is_taken rows slot ≡ true → 0 < length (logs slot)
      → ((at : ℕ) (block : Block) → IsBlock areas at → newest_in (logs slot) at ≡ Some block → IsHome held devices at block)
      → ((d s : ℕ) → Matters devices areas logs d s → (d ≢ (gate_place slot 0 devices).0) ⊎ (s ≢ (gate_place slot 0 devices).1) → now d s ≡ held d s)
      → ((d s : ℕ) → Matters devices areas (with_log logs slot []) d s → (d ≢ (gate_place slot 0 devices).0) ⊎ (s ≢ (gate_place slot 0 devices).1) → now d s ≡ held d s)
      → IsOverlaidTruth held devices areas rows logs truth
      → IsOverlaidTruth now devices areas rows logs truth ⊎ IsOverlaidTruth now devices areas rows (with_log logs slot []) truth
  closing_in_doubt less taken some homes same same_none was = by (open_or (gate_of now devices slot 0))
    where
      by : IsOpenGate (gate_of now devices slot 0) ⊎ (IsOpenGate (gate_of now devices slot 0) → ⊥) → IsOverlaidTruth now devices areas rows logs truth ⊎ IsOverlaidTruth now devices areas rows (with_log logs slot []) truth
      by (inl is_open) = inl (truth_same (mid 0) now devices areas rows logs truth (as_now 0 logs same) (first_stays_open less taken some (subst IsOpenGate (sym (mid_gate 0)) is_open) was))
      by (inr closed) = inr (truth_same (mid 0) now devices areas rows (with_log logs slot []) truth (as_now 0 (with_log logs slot []) same_none)
          (log_closed held (mid 0) devices areas rows logs truth slot less taken
          (only_sector held (gate_place slot 0 devices).0 (gate_place slot 0 devices).1 (gate_of now devices slot 0))
          (λ is_open. closed (subst IsOpenGate (mid_gate 0) is_open)) homes was))
