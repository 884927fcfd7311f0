-- What a store says of a write of the homes of a log's blocks.
use Rattle.std.proofs.Common.{◌≡◌, ℕ, ◌+◌, ◌-◌, ◌/◌, ◌<◌, ◌≤◌, ◌⊎◌, ⊎_elim, inl, inr, arith, Bool, true, false, List, [], ◌∷◌, Contains, length, sym, ap, ◌∙◌, subst, refl}
use Rattle.std.specs.Prelude.{if◌then◌else◌}
use Rattle.bx_disk.specs.Disks.{Image, is_within, sector_of}
use Rattle.bx_facts.specs.Writes.{Sent, IsDone, IsOnly, IsOver, Writes, WritesIn}
use Rattle.bx_facts.proofs.Lists.{front, behind, front_or_behind, nothing}
use Rattle.bx_layout.specs.declared.block.Block.{Block}
use Rattle.bx_layout.specs.Blocks.{block_text}
use Rattle.bx_places.specs.Places.{block_place}
use Rattle.bx_records.specs.declared.runs.Run.{Run}
use Rattle.bx_rows.specs.declared.session.SessionRow.{SessionRow}
use Rattle.bx_volume.specs.bx_truth.proofs.Cases.{same_or, found}
use Rattle.bx_volume.specs.bx_views.specs.Truths.{Truth}
use Rattle.bx_volume.specs.Overlay.{Logs, IsOfLogged, Matters, Gate, Body, Home, filled_of, with_log}
use Rattle.bx_volume.specs.Records.{Logged, newest_in}
use Rattle.bx_volume.proofs.Overlay.{log_here, log_there}
use Rattle.bx_volume.proofs.Sizes.{length-block_text}
use Rattle.bx_redo.specs.Homes.{AreItsHomes, IsItsHome, home_run, with_runs}
use Rattle.bx_redo.specs.Stands.{IsFound, WritesHomes}
use Rattle.bx_redo.proofs.Within.{decided, within_is, within_it}

-- a sector is as it was, and no run writes it; or one of the runs writes it
abbrev pub Written : Image → List Run → ℕ → ℕ → Type 0
Written before runs d s = ((with_runs before runs d s ≡ before d s) × ((content : List ℕ) → WritesIn runs d s content → ⊥)) ⊎ WritesIn runs d s (with_runs before runs d s)

pub written_or : (before : Image) (runs : List Run) (d s : ℕ) → Written before runs d s
written_or before [] d s = inl (refl, λ content w. nothing w.0 w.1)
written_or before (run ∷ runs) d s = by (written_or before runs d s) (decided (is_within run.device run.place (length run.bytes / 512) d s))
  where
    pick : (b : Bool) → is_within run.device run.place (length run.bytes / 512) d s ≡ b
        → with_runs before (run ∷ runs) d s ≡ (if b then sector_of run.bytes (s - run.place) else with_runs before runs d s)
    pick b is = ap (λ (x : Bool). if x then sector_of run.bytes (s - run.place) else with_runs before runs d s) is

    none : ((content : List ℕ) → WritesIn runs d s content → ⊥) → is_within run.device run.place (length run.bytes / 512) d s ≡ false
        → (content : List ℕ) → WritesIn (run ∷ runs) d s content → ⊥
    none other apart content (it, there, w) = ⊎_elim
        (λ (same : run ≡ it).
        let mine : Writes run d s content = subst (λ (r : Run). Writes r d s content) (sym same) w in
        let t = within_it run.device run.place (length run.bytes / 512) d s (sym mine.on) mine.from mine.below in
        absurd cc)
        (λ further. other content (it, further, w))
        (front_or_behind run runs it there)

    by : Written before runs d s → (is_within run.device run.place (length run.bytes / 512) d s ≡ true) ⊎ (is_within run.device run.place (length run.bytes / 512) d s ≡ false) → Written before (run ∷ runs) d s
    by further (inl is) =
        let w = within_is run.device run.place (length run.bytes / 512) d s is in
        inr (run, front run runs, record { on = sym w.on; from = w.begins; below = w.ends; is = sym (pick true is) })
    by further (inr apart) = ⊎_elim
        (λ same. inl (pick false apart ∙ same.0, none same.1 apart))
        (λ (w : WritesIn runs d s (with_runs before runs d s)).
        inr (w.0, behind run runs w.0 w.1, subst (Writes w.0 d s) (sym (pick false apart)) w.2))
        further

module _ (devices areas : ℕ) (logs : Logs) (slot : ℕ) (less : slot < 8) (runs : List Run) (its : AreItsHomes devices areas logs slot runs) where
  -- the run of a block's home writes each of its sectors
  pub home_writes : (at : ℕ) (block : Block) (sector : ℕ) → sector < 9 → IsItsHome devices areas logs slot (home_run devices at block)
      → Writes (home_run devices at block) (block_place at devices).0 ((block_place at devices).1 + sector)
      (sector_of (block_text block) ((block_place at devices).1 + sector - (block_place at devices).1))
  home_writes at block sector within h =
      let nine : length (block_text block) / 512 ≡ 9 = ap (λ (r : Run). length r.bytes / 512) h.run_is ∙ length-block_text h.block h.parts in
      record { on = refl; from = omega arith; below = omega (arith, within, nine); is = refl }

  -- a sector that is written is one of a home whose block the log has
  pub of_logged : (d s : ℕ) (content : List ℕ) → WritesIn runs d s content → IsOfLogged devices areas logs d s
  of_logged d s content (run, there, w) =
      let h = its.each run there in
      let mine : Writes (home_run devices h.at h.block) d s content = subst (λ (r : Run). Writes r d s content) h.run_is w in
      let nine = length-block_text h.block h.parts in
      record {
        at = h.at;
        is = h.is;
        slot = slot;
        in_slots = less;
        block = h.block;
        newest = h.newest;
        sector = s - (block_place h.at devices).1;
        within = let from = mine.from in let below = mine.below in omega (arith, nine, from, below);
        device = sym mine.on;
        place = let from = mine.from in omega (arith, from);
      }

  module _ (Sure Sure_then : ℕ → ℕ → List ℕ → Type 0) (sent : List Sent) (greatest : ℕ)
      (each : (write : Sent) → Contains sent write → (write.runs ≡ runs) ⊎ IsOver greatest write)
      (goes : (d s : ℕ) (content : List ℕ) → IsOnly sent greatest d s content → Sure d s content → Sure_then d s content) where
    -- what none of them writes stays sure
    stays_else : (d s : ℕ) → ((content : List ℕ) → WritesIn runs d s content → ⊥) → (content : List ℕ) → Sure d s content → Sure_then d s content
    stays_else d s none content was = goes d s content (record {
      each = λ write other there w. ⊎_elim
          (λ (is : write.runs ≡ runs). absurd (none other (subst (λ (all : List Run). WritesIn all d s other) is w))) (λ over. inr over) (each write there);
    }) was

    -- while they are written
    pub homes_out : (before : Image) → WritesHomes Sure Sure_then devices areas before before logs
    homes_out before d s = ⊎_elim
        (λ same. inr (refl, stays_else d s same.1))
        (λ (w : WritesIn runs d s (with_runs before runs d s)). inl (of_logged d s (with_runs before runs d s) w))
        (written_or before runs d s)

    -- and once they are
    pub homes_done : (before : Image) → WritesHomes Sure Sure_then devices areas before (with_runs before runs) logs
    homes_done before d s = ⊎_elim
        (λ same. inr (same.0, stays_else d s same.1))
        (λ (w : WritesIn runs d s (with_runs before runs d s)). inl (of_logged d s (with_runs before runs d s) w))
        (written_or before runs d s)

    module _ (rows : List SessionRow) (before : Image) (truth : Truth) (more : Logged) (index : ℕ) (write : Sent) (asks : write.runs ≡ runs)
        (was : IsFound Sure devices areas rows before logs truth more slot)
        (done : IsDone (λ d s content known. Sure_then d s content) index write) where
      -- a sector on which the truth depended, or that is written, is sure
      now_sure : (d s : ℕ) → (((content : List ℕ) → WritesIn runs d s content → ⊥) → Matters devices areas logs d s) → Sure_then d s (with_runs before runs d s)
      now_sure d s matters = ⊎_elim
          (λ same. subst (Sure_then d s) (sym same.0) (stays_else d s same.1 (before d s) (was.sure d s (matters same.1))))
          (λ (w : WritesIn runs d s (with_runs before runs d s)). done.each d s (with_runs before runs d s) (subst (λ (all : List Run). WritesIn all d s (with_runs before runs d s)) (sym asks) w))
          (written_or before runs d s)

      none_here : (s : ℕ) → s ≡ slot → length (with_log logs slot [] s) ≡ 0
      none_here s same = ap length (ap (with_log logs slot []) same ∙ log_here logs slot [])

      -- without the log all on which the truth depends is
      pub all_sure : (d s : ℕ) → Matters devices areas (with_log logs slot []) d s → Sure_then d s (with_runs before runs d s)
      all_sure d s (Gate other gate in_slots place few) = now_sure d s (λ _. Gate other gate in_slots place (⊎_elim
          (λ same. let none = none_here other same in omega (arith, few, none))
          (λ apart. subst (λ (records : List Logged). gate ≤ length records) (log_there logs slot other [] apart) few)
          (same_or other slot)))
      all_sure d s (Body other body sector in_slots few within fills) = ⊎_elim
          (λ same. let none = none_here other same in absurd (omega (arith, few, none)))
          (λ apart. now_sure d s (λ _. Body other body sector in_slots
          (subst (λ (records : List Logged). body < length records) (log_there logs slot other [] apart) few) within
          (subst (λ (records : List Logged). sector < filled_of records body) (log_there logs slot other [] apart) fills)))
          (same_or other slot)
      all_sure d s (Home at sector is unlogged within) = ⊎_elim
          (λ none. now_sure d s (λ _. Home at sector is (λ other in_slots. ⊎_elim
          (λ same. ap (λ (n : ℕ). newest_in (logs n) at) same ∙ none)
          (λ apart. sym (ap (λ (records : List Logged). newest_in records at) (log_there logs slot other [] apart)) ∙ unlogged other in_slots)
          (same_or other slot)) within))
          (λ some. now_sure d s (λ clear. absurd (clear (sector_of (block_text some.0) (s - (block_place at devices).1))
          (let run = its.all at some.0 is some.1 in
          let h = its.each (home_run devices at some.0) run in
          (home_run devices at some.0, run, home_writes at some.0 sector within h)))))
          (found (newest_in (logs slot) at))
