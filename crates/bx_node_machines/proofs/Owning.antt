-- What a node's log writes, and the homes of its blocks, its session may write.
use Rattle.std.proofs.Common.{◌≡◌, ◌∙◌, ⊎_elim, inl, ℕ, ◌+◌, ◌*◌, ◌-◌, ◌<◌, Bool, true, List, [], ◌∷◌, length, Some, IsSome, refl, sym, ap, subst, arith}
use Rattle.bx_disk.specs.Disks.{Image}
use Rattle.bx_facts.specs.Holds.{Holds}
use Rattle.bx_facts.specs.Writes.{Writes, WritesIn}
use Rattle.bx_facts.proofs.Lists.{front_or_behind, nothing}
use Rattle.bx_global.specs.Allowed.{IsAllowed, IsSession}
use Rattle.bx_global.specs.declared.state.GlobalState.{GlobalState}
use Rattle.bx_node_views.specs.bx_volume.proofs.Sizes.{length-block_text}
use Rattle.bx_node_machines.specs.Machines.{IsAbout, MachineView, Scene}
use Rattle.bx_node_machines.proofs.Leaving.{MayWork}
use Rattle.bx_places.specs.Places.{block_place, log_device, log_start}
use Rattle.bx_records.specs.declared.runs.Run.{Run}
use Rattle.bx_node_views.specs.bx_redo.specs.Homes.{AreItsHomes, home_run}
use Rattle.bx_node_views.specs.bx_redo.specs.Stands.{begins_at, run_of, sectors_of}
use Rattle.bx_node_views.specs.bx_redo.specs.Steps.{writes}
use Rattle.bx_node_views.specs.bx_redo.specs.View.{LogView}
use Rattle.bx_node_views.specs.bx_redo.specs.declared.work.Work.{Work}
use Rattle.bx_node_views.specs.bx_redo.specs.declared.work.Work.TheVariants as works
use Rattle.bx_node_views.specs.bx_redo.proofs.Asked.{as_many, one_asked}
use Rattle.bx_node_views.specs.bx_redo.proofs.Within.{within_it}
use Rattle.bx_rows.specs.Words.{row_in}
use Rattle.bx_rows.specs.declared.session.SessionRow.{SessionRow}
use Rattle.bx_views.specs.Truths.{Truth}
use Rattle.bx_node_views.specs.bx_volume.specs.Overlay.{Logs}
use Rattle.bx_node_views.specs.bx_volume.specs.Records.{newest_in}
use Rattle.bx_node_views.specs.bx_world_chains.specs.Entitled.{IsEntitled}
use Rattle.bx_node_views.specs.bx_world_chains.proofs.Rows.{all_row, lives_of, taken_of}
use Rattle.bx_node_views.specs.bx_world_logs.specs.Logs.{Activity, IsInLog, LogsStand, OfLog, Slot, SlotStands, view_of, writes_in}
use Rattle.bx_node_views.specs.bx_world_logs.proofs.Regions.{writes_within}
use Rattle.bx_node_views.specs.bx_world_standing.specs.Rights.{IsOfSlot, MayTouch}
use Rattle.bx_node_views.specs.bx_world_standing.specs.Rights.MayTouch.{OfLogged, OfSlot}

-- a work begins in its slot's view where it begins in the log
begins_same : (log : LogView) (devices slot count : ℕ) → log.slot ≡ slot → log.count ≡ count → (work : Work) → begins_at (view_of devices slot count work) work ≡ begins_at log work
begins_same log devices slot count same many works.Idle = refl
begins_same log devices slot count same many (works.Body text point) =
    ap (λ (n : ℕ). log_start n + 8 + 145 * count) (sym same) ∙ ap (λ (n : ℕ). log_start log.slot + 8 + 145 * n) (sym many)
begins_same log devices slot count same many (works.Opens point) = ap (λ (n : ℕ). log_start n + count) (sym same) ∙ ap (λ (n : ℕ). log_start log.slot + n) (sym many)
begins_same log devices slot count same many works.Closes = ap (λ (n : ℕ). log_start n) (sym same)
begins_same log devices slot count same many works.Shuts = ap (λ (n : ℕ). log_start n + 1) (sym same)

-- what a work's write has is the one run of the work
of_run : (log : LogView) (work : Work) (d sector : ℕ) (content : List ℕ) → WritesIn (writes log work).1 d sector content → Writes (run_of log work) d sector content
of_run log works.Idle d sector content (run, there, is) = absurd (nothing run there)
of_run log (works.Body text point) d sector content is = one (run_of log (works.Body text point)) is
  where
    one : (run : Run) → WritesIn (run ∷ []) d sector content → Writes run d sector content
    one run (other, there, w) = ⊎_elim (λ e. subst (λ (r : Run). Writes r d sector content) (sym e) w) (λ none. absurd (nothing other none)) (front_or_behind run [] other there)
of_run log (works.Opens point) d sector content is = one (run_of log (works.Opens point)) is
  where
    one : (run : Run) → WritesIn (run ∷ []) d sector content → Writes run d sector content
    one run (other, there, w) = ⊎_elim (λ e. subst (λ (r : Run). Writes r d sector content) (sym e) w) (λ none. absurd (nothing other none)) (front_or_behind run [] other there)
of_run log works.Closes d sector content is = one (run_of log works.Closes) (subst (λ (l : List Run). WritesIn l d sector content) (one_asked log works.Closes (λ e. cc)) is)
  where
    one : (run : Run) → WritesIn (run ∷ []) d sector content → Writes run d sector content
    one run (other, there, w) = ⊎_elim (λ e. subst (λ (r : Run). Writes r d sector content) (sym e) w) (λ none. absurd (nothing other none)) (front_or_behind run [] other there)
of_run log works.Shuts d sector content is = one (run_of log works.Shuts) is
  where
    one : (run : Run) → WritesIn (run ∷ []) d sector content → Writes run d sector content
    one run (other, there, w) = ⊎_elim (λ e. subst (λ (r : Run). Writes r d sector content) (sym e) w) (λ none. absurd (nothing other none)) (front_or_behind run [] other there)

module _ (devices areas : ℕ) (Sure : ℕ → ℕ → List ℕ → Type 0) (before : Image) (s : GlobalState) (allowed : IsAllowed s) (holding : Holds) (logs : Logs) (slots : ℕ → Slot) (truth : Truth)
    (st : LogsStand Sure devices areas s.sessions before logs slots truth) (session : ℕ) (row : SessionRow) (is_row : row_in s.sessions session ≡ Some row) (lives : row.dead ≡ 0) where
  pub low : row.slot < 8
  low = (all_row (IsSession s.term_end) s.sessions session row allowed.each_session is_row).slot

  mine : IsEntitled s session row.slot session
  mine = record { row = row; is = is_row; at = refl; lives = lives_of s session row is_row lives; whose = inl refl }

  here : SlotStands Sure devices areas before true logs row.slot (slots row.slot)
  here = subst (λ (t : Bool). SlotStands Sure devices areas before t logs row.slot (slots row.slot)) (taken_of s session row is_row) (st.each row.slot low)

  -- The write of a log's work is what is under way in its slot, in sectors of the slot.
  module _ (log : LogView) (same : log.slot ≡ row.slot) (device : log.device ≡ log_device row.slot devices) (many : log.count ≡ length (logs row.slot)) (doing : (slots row.slot).activity ≡ OfLog log.work) where
    pub under_way : (d sector : ℕ) (content : List ℕ) → WritesIn (writes log log.work).1 d sector content → writes_in devices row.slot (length (logs row.slot)) (slots row.slot).activity d sector ≡ true
    under_way d sector content w =
        let run = of_run log log.work d sector content w in
        let start = begins_same log devices row.slot (length (logs row.slot)) same many log.work in
        let size = as_many log.work in
        let from = run.from in
        let below = run.below in
        ap (λ (a : Activity). writes_in devices row.slot (length (logs row.slot)) a d sector) doing
        ∙ within_it (log_device row.slot devices) (begins_at (view_of devices row.slot (length (logs row.slot)) log.work) log.work) (sectors_of log.work) d sector (sym run.on ∙ device)
        (omega (arith, from, start)) (omega (arith, below, start, size))

    pub of_slot : (d sector : ℕ) (content : List ℕ) → WritesIn (writes log log.work).1 d sector content → IsOfSlot devices row.slot d sector
    of_slot d sector content w =
        let inside = writes_within Sure devices areas before logs slots row.slot d sector true here (under_way d sector content w) in
        record { device = sym (of_run log log.work d sector content w).on ∙ device; from = inside.from; to = inside.to }

    pub log_touches : (d sector : ℕ) (content : List ℕ) → WritesIn (writes log log.work).1 d sector content → MayTouch devices areas s holding logs slots session d sector
    log_touches d sector content w = OfSlot session row.slot low mine (of_slot d sector content w)

  -- The homes of a log are its session's to write where each of its blocks is in the session's log, by these logs or others.
  pub touches_homes : (others : Logs) → ((at : ℕ) → IsSome (newest_in (others row.slot) at) → IsInLog logs slots row.slot at) → (runs : List Run) → AreItsHomes devices areas others row.slot runs
      → (d sector : ℕ) (content : List ℕ) → WritesIn runs d sector content → MayTouch devices areas s holding logs slots session d sector
  touches_homes others in_log runs its d sector content (run, there, w) =
      let h = its.each run there in
      let home : Writes (home_run devices h.at h.block) d sector content = subst (λ (r : Run). Writes r d sector content) h.run_is w in
      let nine = length-block_text h.block h.parts in
      let from = home.from in
      let below = home.below in
      OfLogged h.at session row.slot h.is
      (record { device = sym home.on; i = sector - (block_place h.at devices).1; few = omega (arith, nine, from, below); is = omega (arith, from) })
      low mine (in_log h.at (let newest = h.newest in cc))

  pub home_touches : (runs : List Run) → AreItsHomes devices areas logs row.slot runs → (d sector : ℕ) (content : List ℕ) → WritesIn runs d sector content → MayTouch devices areas s holding logs slots session d sector
  home_touches runs its d sector content w = touches_homes logs (λ at some. inl some) runs its d sector content w

  -- Of a node that is about what its session's log is.
  pub may_work : (Reads : ℕ → List ℕ → Type 0) (scene : Scene) (node : ℕ) (machine : MachineView) → scene.logs ≡ logs → scene.slots ≡ slots
      → IsAbout devices areas Sure Reads scene node session row.slot machine → MayWork devices areas (λ d sector. MayTouch devices areas s holding logs slots session d sector) scene row.slot machine
  may_work Reads scene node machine same_logs same_slots about = record {
    of_log = λ doing d sector content w. log_touches machine.log about.is_slot about.device
        (about.count ∙ ap (λ (l : Logs). length (l row.slot)) same_logs) (ap (λ (f : ℕ → Slot). (f row.slot).activity) (sym same_slots) ∙ doing) d sector content w;
    of_homes = λ runs its d sector content w. home_touches runs (subst (λ (l : Logs). AreItsHomes devices areas l row.slot runs) same_logs its) d sector content w;
  }
