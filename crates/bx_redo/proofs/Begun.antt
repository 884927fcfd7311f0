-- What beginning a record or a closing leaves, and what a write does that is under way.
use Rattle.std.proofs.Common.{ℕ, ◌+◌, ◌*◌, ◌<◌, arith, Bool, false, List, [], refl}
use Rattle.bx_base.specs.declared.names.Point.{Point}
use Rattle.bx_disk.specs.Disks.{Image}
use Rattle.bx_places.specs.Places.{log_start}
use Rattle.bx_rows.specs.declared.session.SessionRow.{SessionRow}
use Rattle.bx_volume.specs.bx_views.specs.Truths.{Truth}
use Rattle.bx_volume.specs.Overlay.{Logs, Matters, with_log}
use Rattle.bx_volume.specs.Records.{Logged, IsLogged, logged_text}
use Rattle.bx_redo.specs.View.{LogView}
use Rattle.bx_redo.specs.Stands.{LogStands, IsAlone, IsOut, AreHome, Finds}
use Rattle.bx_redo.specs.declared.work.Work.{Work}
use Rattle.bx_redo.specs.declared.work.Work.TheVariants.{Idle, Body, Opens, Closes, Shuts}
use Rattle.bx_redo.proofs.Within.{behind_it}

module _ (Sure Sure_then : ℕ → ℕ → List ℕ → Type 0) (devices areas : ℕ) (rows : List SessionRow) (before : Image) (logs : Logs) (truth : Truth) (more : Logged) (log : LogView) (asked : Bool) where
  finds_out : (work : Work) → IsOut Sure Sure_then (record log { work = work }) → Finds Sure devices areas rows before logs truth more (record log { work = work }) work
      → Finds Sure_then devices areas rows before logs truth more (record log { work = work; out = asked }) work
  finds_out Idle out finds = finds
  finds_out (Body text point) out finds = finds
  finds_out (Opens point) out finds = (
    finds.0,
    finds.1,
    λ sector within. out log.device (log_start log.slot + 8 + 145 * log.count + sector) (before log.device (log_start log.slot + 8 + 145 * log.count + sector))
        (behind_it log.device (log_start log.slot + log.count) 1 log.device (log_start log.slot + 8 + 145 * log.count + sector) (omega arith)) (finds.2 sector within),
  )
  finds_out Closes out finds = record { some = finds.some; home = finds.home; sure = λ d s matters apart. out d s (before d s) apart (finds.sure d s matters apart) }
  finds_out Shuts out finds = finds

  -- a write is asked for, or under way
  pub stays : LogStands Sure devices areas rows before logs truth more log → IsOut Sure Sure_then log → LogStands Sure_then devices areas rows before logs truth more (record log { out = asked })
  stays st out = record {
    volume = st.volume;
    is_slot = st.is_slot;
    on_device = st.on_device;
    taken = st.taken;
    is_truth = st.is_truth;
    run = st.run;
    sure = λ d s matters apart. out d s (before d s) apart (st.sure d s matters apart);
    own = λ d s is apart. out d s (before d s) apart (st.own d s is apart);
    finds = finds_out log.work out st.finds;
  }

module _ (Sure : ℕ → ℕ → List ℕ → Type 0) (devices areas : ℕ) (rows : List SessionRow) (before : Image) (logs : Logs) (truth : Truth) (more : Logged) (log : LogView) where
  pub record_begins : (next : Logged) (point : Point) → LogStands Sure devices areas rows before logs truth more (record log { work = Idle; out = false })
      → log.count < 8 → IsLogged areas next → IsAlone logs log.slot next
      → LogStands Sure devices areas rows before logs truth next (record log { work = Body (logged_text next) point; out = false })
  record_begins next point st room is alone = record {
    volume = st.volume;
    is_slot = st.is_slot;
    on_device = st.on_device;
    taken = st.taken;
    is_truth = st.is_truth;
    run = st.run;
    sure = λ d s matters apart. st.sure d s matters (behind_it log.device 0 0 d s (omega arith));
    own = λ d s is apart. st.own d s is (behind_it log.device 0 0 d s (omega arith));
    finds = (refl, record { room = room; is = is; alone = alone; closed = st.finds });
  }

  pub closing_begins : LogStands Sure devices areas rows before logs truth more (record log { work = Idle; out = false })
      → 0 < log.count → AreHome before devices areas logs log.slot
      → ((d s : ℕ) → Matters devices areas (with_log logs log.slot []) d s → Sure d s (before d s))
      → LogStands Sure devices areas rows before logs truth more (record log { work = Closes; out = false })
  closing_begins st some home sure = record {
    volume = st.volume;
    is_slot = st.is_slot;
    on_device = st.on_device;
    taken = st.taken;
    is_truth = st.is_truth;
    run = st.run;
    sure = λ d s matters apart. st.sure d s matters (behind_it log.device 0 0 d s (omega arith));
    own = λ d s is apart. st.own d s is (behind_it log.device 0 0 d s (omega arith));
    finds = record { some = some; home = home; sure = λ d s matters apart. sure d s matters };
  }
