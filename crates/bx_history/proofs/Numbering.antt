-- In a trace that fits a history, no call has a number above the count of the calls taken.
use Rattle.std.proofs.Common.{◌≡◌, ◌≤◌, ℕ, suc, Bool, true, false, cond, List, [], ◌∷◌, Option, Some, None, refl, ap, arith, inl, inr, eqb}
use Rattle.std.specs.Prelude.{◌⊎◌}
use Rattle.std.proofs.lemmas.Bool.{eqb-true, or_cases, false_from_ne_true}
use Rattle.bx_script.specs.declared.trace_line.TraceLine.{TraceLine}
use Rattle.bx_script.specs.declared.trace_line.TraceLine.TheVariants.{Took, Acted, Reply, Again}
use Rattle.bx_history.specs.Trace.{Entry, Taking, taken_count, taking_of, has_point, has_reply, entry_of, FitsNewest}

-- a choice whose outcome isn't None, by cases on the test
chosen : {A : Type 0} (b : Bool) (x : A) (other : Option A) (y : A) → cond b (Some x) other ≡ Some y → (b ≡ true) × (x ≡ y) ⊎ (other ≡ Some y)
chosen true x other y e = inl (refl, cc)
chosen false x other y e = inr e

pub taking_bound : (kept : ℕ) (trace : List TraceLine) (history : List Entry) (call : ℕ) (taking : Taking) → FitsNewest kept trace history → taking_of trace call ≡ Some taking → call ≤ taken_count trace
taking_bound kept [] history call taking fits e = absurd cc
taking_bound kept (Took number node client bytes ∷ older) history call taking fits e =
    elim (chosen (eqb number call) (record { call = number; node = node; client = client; bytes = bytes }) (taking_of older call) taking e) [
      | inl here ↦ let same = eqb-true number call here.0 in omega (arith, fits.0)
      | inr there ↦ let below = taking_bound kept older history call taking fits.1 there in omega arith
    ]
taking_bound kept (Acted point ∷ older) [] call taking fits e = absurd fits
taking_bound kept (Acted point ∷ older) (entry ∷ earlier) call taking fits e = taking_bound kept older earlier call taking fits.1 e
taking_bound kept (Reply number reply ∷ older) history call taking fits e = taking_bound kept older history call taking fits.1 e
taking_bound kept (Again node client reply ∷ older) history call taking fits e = taking_bound kept older history call taking fits.1 e

pub point_bound : (kept : ℕ) (trace : List TraceLine) (history : List Entry) (call : ℕ) → FitsNewest kept trace history → has_point trace call ≡ true → call ≤ taken_count trace
point_bound kept [] history call fits e = absurd cc
point_bound kept (Took number node client bytes ∷ older) history call fits e = let below = point_bound kept older history call fits.1 e in omega arith
point_bound kept (Acted point ∷ older) [] call fits e = absurd fits
point_bound kept (Acted point ∷ older) (entry ∷ earlier) call fits e =
    elim (or_cases (eqb point.call call) (has_point older call) e) [
      | inl here ↦
          let same = eqb-true point.call call here in
          let below = taking_bound kept older earlier point.call fits.0.taking fits.1 fits.0.taken in
          omega arith
      | inr there ↦ point_bound kept older earlier call fits.1 there
    ]
point_bound kept (Reply number reply ∷ older) history call fits e = point_bound kept older history call fits.1 e
point_bound kept (Again node client reply ∷ older) history call fits e = point_bound kept older history call fits.1 e

pub entry_bound : (kept : ℕ) (trace : List TraceLine) (history : List Entry) (call : ℕ) (found : Entry) → FitsNewest kept trace history → entry_of history call ≡ Some found → call ≤ taken_count trace
entry_bound kept [] history call found fits e = absurd (let none : entry_of history call ≡ None = ap (λ (h : List Entry). entry_of h call) fits in cc)
entry_bound kept (Took number node client bytes ∷ older) history call found fits e = let below = entry_bound kept older history call found fits.1 e in omega arith
entry_bound kept (Acted point ∷ older) [] call found fits e = absurd fits
entry_bound kept (Acted point ∷ older) (entry ∷ earlier) call found fits e =
    elim (chosen (eqb entry.call call) entry (entry_of earlier call) found e) [
      | inl here ↦
          let same = eqb-true entry.call call here.0 in
          let below = taking_bound kept older earlier point.call fits.0.taking fits.1 fits.0.taken in
          omega (arith, fits.0.call)
      | inr there ↦ entry_bound kept older earlier call found fits.1 there
    ]
entry_bound kept (Reply number reply ∷ older) history call found fits e = entry_bound kept older history call found fits.1 e
entry_bound kept (Again node client reply ∷ older) history call found fits e = entry_bound kept older history call found fits.1 e

pub reply_bound : (kept : ℕ) (trace : List TraceLine) (history : List Entry) (call : ℕ) → FitsNewest kept trace history → has_reply trace call ≡ true → call ≤ taken_count trace
reply_bound kept [] history call fits e = absurd cc
reply_bound kept (Took number node client bytes ∷ older) history call fits e = let below = reply_bound kept older history call fits.1 e in omega arith
reply_bound kept (Acted point ∷ older) [] call fits e = absurd fits
reply_bound kept (Acted point ∷ older) (entry ∷ earlier) call fits e = reply_bound kept older earlier call fits.1 e
reply_bound kept (Reply number reply ∷ older) history call fits e =
    elim (or_cases (eqb number call) (has_reply older call) e) [
      | inl here ↦
          let same = eqb-true number call here in
          let below = entry_bound kept older history number fits.0.entry fits.1 fits.0.entered in
          omega arith
      | inr there ↦ reply_bound kept older history call fits.1 there
    ]
reply_bound kept (Again node client reply ∷ older) history call fits e = reply_bound kept older history call fits.1 e

-- the next call has neither point nor reply
pub next_has_no_point : (kept : ℕ) (trace : List TraceLine) (history : List Entry) → FitsNewest kept trace history → has_point trace (suc (taken_count trace)) ≡ false
next_has_no_point kept trace history fits =
    false_from_ne_true _ (λ e. let below = point_bound kept trace history (suc (taken_count trace)) fits e in omega arith)

pub next_has_no_reply : (kept : ℕ) (trace : List TraceLine) (history : List Entry) → FitsNewest kept trace history → has_reply trace (suc (taken_count trace)) ≡ false
next_has_no_reply kept trace history fits =
    false_from_ne_true _ (λ e. let below = reply_bound kept trace history (suc (taken_count trace)) fits e in omega arith)
