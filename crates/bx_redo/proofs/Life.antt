-- The whole life of a record, by the laws of its events.
use Rattle.std.proofs.Common.{◌≡◌, ℕ, ◌+◌, ◌<◌, arith, true, false, List, [], ◌∷◌}
use Rattle.bx_base.specs.declared.names.Point.{Point}
use Rattle.bx_disk.specs.Disks.{Image}
use Rattle.bx_layout.specs.Labels.{gate_text}
use Rattle.bx_layout.specs.declared.gate.Gate.TheVariants.{Open, Closed as Shut}
use Rattle.bx_rows.specs.declared.session.SessionRow.{SessionRow}
use Rattle.bx_volume.specs.bx_views.specs.Truths.{Truth, with_draft}
use Rattle.bx_volume.specs.Overlay.{Logs, Matters, with_log}
use Rattle.bx_volume.specs.Records.{Logged, IsLogged, logged_text}
use Rattle.bx_redo.specs.View.{LogView}
use Rattle.bx_redo.specs.Stands.{LogStands, AreHome, IsAcknowledged, IsAlone, WritesHomes, doing, resting}
use Rattle.bx_redo.specs.Steps.{shut_text}
use Rattle.bx_redo.specs.declared.work.Work.TheVariants.{Body, Opens, Closes, Shuts}
use Rattle.bx_redo.proofs.Begun.{closing_begins, record_begins, stays}
use Rattle.bx_redo.proofs.Homes.{homes_stand}
use Rattle.bx_redo.proofs.Opened.{body_stands, record_stands}
use Rattle.bx_redo.proofs.Shut.{closing_stands, shut_stands}

module _ (devices areas : ℕ) (rows : List SessionRow) (logs : Logs) (truth : Truth) (more : Logged) (log : LogView) where
  -- from its beginning to its Acked
  pub opens : (next : Logged) (point : Point) (S0 S1 S2 : ℕ → ℕ → List ℕ → Type 0) (b0 b1 b2 : Image)
      → LogStands S0 devices areas rows b0 logs truth more (resting log) → log.count < 8 → IsLogged areas next → IsAlone logs log.slot next
      → IsAcknowledged S0 S1 b0 b1 (doing log (Body (logged_text next) point)) (logged_text next)
      → IsAcknowledged S1 S2 b1 b2 (doing log (Opens point)) (gate_text Open)
      → LogStands S2 devices areas rows b2 (with_log logs log.slot (next ∷ logs log.slot)) (with_draft truth next.changed) more (resting (record log { count = log.count + 1 }))
  opens next point S0 S1 S2 b0 b1 b2 st room is alone body gate =
      let begun = record_begins S0 devices areas rows b0 logs truth more log next point st room is alone in
      let asked = stays S0 S0 devices areas rows b0 logs truth next (record log { work = Body (logged_text next) point; out = false }) true begun (λ d s content apart was. was) in
      let there = body_stands S0 S1 devices areas rows b0 b1 logs truth next log point (logged_text next) asked body in
      record_stands S1 S2 devices areas rows b1 b2 logs truth next log point more there gate

  -- and from there, once the log's blocks are home, to its Closed
  pub closes : (S2 S3 S4 S5 : ℕ → ℕ → List ℕ → Type 0) (b2 b3 b4 b5 : Image)
      → LogStands S2 devices areas rows b2 logs truth more (resting log) → 0 < log.count
      → WritesHomes S2 S3 devices areas b2 b3 logs → AreHome b3 devices areas logs log.slot
      → ((d s : ℕ) → Matters devices areas (with_log logs log.slot []) d s → S3 d s (b3 d s))
      → IsAcknowledged S3 S4 b3 b4 (doing log Closes) (gate_text Shut)
      → IsAcknowledged S4 S5 b4 b5 (doing (record log { count = 0 }) Shuts) shut_text
      → LogStands S5 devices areas rows b5 (with_log logs log.slot []) truth more (resting (record log { count = 0 }))
  closes S2 S3 S4 S5 b2 b3 b4 b5 st some writes home sure first others =
      let homes = homes_stand S2 S3 devices areas rows b2 b3 logs truth more writes log st in
      let begun = closing_begins S3 devices areas rows b3 logs truth more log homes some home sure in
      let asked = stays S3 S3 devices areas rows b3 logs truth more (record log { work = Closes; out = false }) true begun (λ d s content apart was. was) in
      let shut = closing_stands S3 S4 devices areas rows b3 b4 logs truth more more log asked first in
      shut_stands S4 S5 devices areas rows b4 b5 (with_log logs log.slot []) truth more more (record log { count = 0 }) shut others
