-- What a recovery's step makes of the course is in its slot, and in homes of the blocks of its log.
use Rattle.std.proofs.Common.{◌≡◌, ◌≢◌, ⊎_elim, inl, inr, ◌∙◌, ℕ, ◌+◌, ◌<◌, Bool, true, false, List, length, Option, Some, None, refl, sym, ap, arith}
use Rattle.std.specs.Prelude.{◌-◌, if◌then◌else◌}
use Rattle.bx_disk.specs.Disks.{Image, sector_of}
use Rattle.bx_node_machines.specs.Machines.{IsUnwritten}
use Rattle.bx_node_machines.proofs.Going.{of_homes}
use Rattle.bx_node_recovering.proofs.Beside.{IsInSlot}
use Rattle.bx_node_recovering.proofs.Standing.{near_apart, near_unlogged}
use Rattle.bx_places.specs.Places.{IsVolume, block_place}
use Rattle.bx_records.specs.Drafts.{Block, block_in}
use Rattle.bx_records.specs.declared.runs.Run.{Run}
use Rattle.bx_redo.specs.Homes.{AreItsHomes, with_runs}
use Rattle.bx_redo.specs.Stands.{begins_at, bytes_of, is_written, stored}
use Rattle.bx_redo.specs.View.{LogView}
use Rattle.bx_redo.specs.declared.work.Work.TheVariants as works
use Rattle.bx_redo.proofs.HomeRuns.{written_or}
use Rattle.bx_rows.specs.Words.{is_taken}
use Rattle.bx_rows.specs.declared.session.SessionRow.{SessionRow}
use Rattle.bx_volume.specs.Overlay.{IsUnlogged, Logs}
use Rattle.bx_volume.specs.Records.{Logged, newest_in, or_older}
use Rattle.bx_world_standing.specs.bx_world_logs.specs.Logs.{Activity, Found, LogsStand, OfLog, Slot, begins, opens, writes_in}
use Rattle.bx_world_standing.specs.bx_world_logs.specs.Shown.{IsRun}
use Rattle.bx_world_logs.proofs.Moving.{slot_here, slot_there, with_slot}
use Rattle.bx_world_logs.proofs.Regions.{home_in_none, writes_within}
use Rattle.bx_world_standing.specs.Rights.{IsOfSlot}
use Rattle.bx_world_standing.specs.Standing.{Course}
use Rattle.bx_world_views.specs.Views.{Unacknowledged}

-- where nothing is written all is as it was
pub stored_same : (before : Image) (log : LogView) (d s : ℕ) → is_written log d s ≡ false → stored before log d s ≡ before d s
stored_same before log d s apart = ap (λ (b : Bool). if b then sector_of (bytes_of log.work) (s - begins_at log log.work) else before d s) apart

none_or : (one older : Option Block) → one ≡ None → older ≡ None → or_older one older ≡ None
none_or None older is none = none
none_or (Some block) older is none = absurd cc

opens_begins : (activity : Activity) → opens activity ≡ true → begins activity ≡ true
opens_begins (OfLog works.Idle) is = absurd cc
opens_begins (OfLog (works.Body text point)) is = absurd cc
opens_begins (OfLog (works.Opens point)) is = refl
opens_begins (OfLog works.Closes) is = absurd cc
opens_begins (OfLog works.Shuts) is = absurd cc
opens_begins Found is = absurd cc

-- A run that a slot shows has no block that neither a log nor a record under way has.
pub run_unlogged : (logs : Logs) (slots : ℕ → Slot) (slot : ℕ) → slot < 8 → (run : List Logged) → IsRun logs slots slot run → (block : ℕ) → IsUnlogged logs block → IsUnwritten slots block → newest_in run block ≡ None
run_unlogged logs slots slot low run (inl same) block unlogged unwritten = ap (λ (l : List Logged). newest_in l block) same ∙ unlogged slot low
run_unlogged logs slots slot low run (inr (inl is)) block unlogged unwritten = ap (λ (l : List Logged). newest_in l block) is.1
    ∙ none_or (block_in (slots slot).more.changed block) (newest_in (logs slot) block) (unwritten slot low (opens_begins (slots slot).activity is.0)) (unlogged slot low)
run_unlogged logs slots slot low run (inr (inr is)) block unlogged unwritten = ap (λ (l : List Logged). newest_in l block) is.1

module _ (devices areas : ℕ) (c : Course) (slot gone : ℕ) (low : slot < 8) (is : Slot) (rests : begins is.activity ≡ true → ⊥) where
  none_under_way : (slots : ℕ → Slot) (block : ℕ) → begins (with_slot slots slot is slot).activity ≡ true → block_in (with_slot slots slot is slot).more.changed block ≡ None
  none_under_way slots block on = absurd (rests (sym (ap (λ (l : Slot). begins l.activity) (slot_here slots slot is)) ∙ on))

  -- Once more in the same slot.
  pub in_slot_on : (before : Image) (logs : Logs) (slots : ℕ → Slot) (doubts : ℕ → Option Unacknowledged) → IsInSlot devices areas c slot gone before logs slots doubts → IsInSlot devices areas c slot gone before logs (with_slot slots slot is) doubts
  in_slot_on before logs slots doubts was = record {
    log_others = was.log_others;
    slot_others = λ other ne. slot_there slots slot other is ne ∙ was.slot_others other ne;
    doubt_others = was.doubt_others;
    homes = was.homes;
    elsewhere = was.elsewhere;
    unlogged = was.unlogged;
    unwritten = λ block unwritten on. none_under_way slots block on;
  }

  -- What was under way in the slot is acknowledged, or what was read of it is known: nothing else changes.
  pub in_slot_landed : (Sure : ℕ → ℕ → List ℕ → Type 0) (rows : List SessionRow) → LogsStand Sure devices areas rows c.before c.logs c.slots c.truth → (now : Image) (logs : Logs) (doubts : ℕ → Option Unacknowledged)
      → ((d s : ℕ) → writes_in devices slot (length (c.logs slot)) (c.slots slot).activity d s ≡ false → now d s ≡ c.before d s) → ((other : ℕ) → other ≢ slot → logs other ≡ c.logs other)
      → ((block : ℕ) → IsUnlogged c.logs block → IsUnwritten c.slots block → newest_in (logs slot) block ≡ None) → ((other : ℕ) → other ≢ gone → doubts other ≡ c.doubts other)
      → IsInSlot devices areas c slot gone now logs (with_slot c.slots slot is) doubts
  in_slot_landed Sure rows st now logs doubts same log_others few doubt_others = record {
    log_others = log_others;
    slot_others = λ other ne. slot_there c.slots slot other is ne;
    doubt_others = doubt_others;
    homes = λ block i its unlogged less. by_home block i (writes_in devices slot (length (c.logs slot)) (c.slots slot).activity (block_place block devices).0 ((block_place block devices).1 + i)) refl;
    elsewhere = λ other d s ne less inside. by_slot other d s ne inside (writes_in devices slot (length (c.logs slot)) (c.slots slot).activity d s) refl;
    unlogged = few;
    unwritten = λ block unwritten on. none_under_way c.slots block on;
  }
    where
      by_home : (block i : ℕ) (b : Bool) → writes_in devices slot (length (c.logs slot)) (c.slots slot).activity (block_place block devices).0 ((block_place block devices).1 + i) ≡ b
          → now (block_place block devices).0 ((block_place block devices).1 + i) ≡ c.before (block_place block devices).0 ((block_place block devices).1 + i)
      by_home block i true w = absurd (home_in_none block devices slot i low
          (writes_within Sure devices areas c.before c.logs c.slots slot (block_place block devices).0 ((block_place block devices).1 + i) (is_taken rows slot) (st.each slot low) w))
      by_home block i false w = same (block_place block devices).0 ((block_place block devices).1 + i) w

      by_slot : (other d s : ℕ) → other ≢ slot → IsOfSlot devices other d s → (b : Bool) → writes_in devices slot (length (c.logs slot)) (c.slots slot).activity d s ≡ b → now d s ≡ c.before d s
      by_slot other d s ne inside true w =
          let mine = writes_within Sure devices areas c.before c.logs c.slots slot d s (is_taken rows slot) (st.each slot low) w in
          let a = mine.from in let b = mine.to in let p = inside.from in let q = inside.to in absurd (ne (omega (arith, a, b, p, q)))
      by_slot other d s ne inside false w = same d s w

  -- The blocks of its log are home.
  pub in_slot_homed : IsVolume devices areas → (runs : List Run) → AreItsHomes devices areas c.logs slot runs → IsInSlot devices areas c slot gone (with_runs c.before runs) c.logs (with_slot c.slots slot is) c.doubts
  in_slot_homed volume runs its = record {
    log_others = λ other ne. refl;
    slot_others = λ other ne. slot_there c.slots slot other is ne;
    doubt_others = λ other ne. refl;
    homes = λ block i its_block unlogged few. ⊎_elim (λ same. same.0)
        (λ w. absurd (near_unlogged devices areas volume c.logs slot low (block_place block devices).0 ((block_place block devices).1 + i)
        (of_homes devices areas slot c.logs runs its (block_place block devices).0 ((block_place block devices).1 + i) (with_runs c.before runs (block_place block devices).0 ((block_place block devices).1 + i)) w)
        block its_block unlogged (record { device = refl; i = i; few = few; is = refl })))
        (written_or c.before runs (block_place block devices).0 ((block_place block devices).1 + i));
    elsewhere = λ other d s ne few inside. ⊎_elim (λ same. same.0)
        (λ w. absurd (near_apart devices areas volume c.logs slot low d s (of_homes devices areas slot c.logs runs its d s (with_runs c.before runs d s) w) other ne few inside))
        (written_or c.before runs d s);
    unlogged = λ block unlogged unwritten. unlogged slot low;
    unwritten = λ block unwritten on. none_under_way c.slots block on;
  }
