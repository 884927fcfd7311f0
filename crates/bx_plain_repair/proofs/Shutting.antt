-- Writes that close the log.
use Rattle.std.proofs.Common.{◌≡◌, ⊎_elim, inl, ℕ, Bool, true, false, List, [], ◌∷◌, sym, ◌∙◌, ap, subst}
use Rattle.bx_disk.specs.Disks.{Disks, Image}
use Rattle.bx_facts.specs.Writes.{IsDone, IsOnly, IsSettled, Sent}
use Rattle.bx_facts.proofs.Lists.{front_or_behind, nothing}
use Rattle.bx_global.specs.Opening.{opening_state}
use Rattle.bx_layout.specs.Labels.{gate_text}
use Rattle.bx_layout.specs.declared.gate.Gate.TheVariants.{Closed as Shut}
use Rattle.bx_model.specs.declared.tree.Tree.{Tree}
use Rattle.bx_records.specs.declared.runs.Run.{Run}
use Rattle.bx_redo.specs.Stands.{LogStands, IsOut, IsAcknowledged, bytes_of, stored}
use Rattle.bx_redo.specs.Steps.{closed_log, shut_text, writes}
use Rattle.bx_redo.specs.View.{LogView}
use Rattle.bx_redo.specs.declared.work.Work.TheVariants.{Idle, Closes, Shuts}
use Rattle.bx_redo.proofs.Begun.{stays}
use Rattle.bx_redo.proofs.Shut.{closing_stands, shut_stands}
use Rattle.bx_redo.proofs.Stored.{done_stored, its_sectors, stays_out}
use Rattle.bx_volume.specs.Overlay.{Logs}
use Rattle.bx_volume.specs.Records.{Logged}
use Rattle.bx_plain_repair.specs.Bench.{IsLabelledBench}
use Rattle.bx_plain_repair.specs.Left.{IsClosed}
use Rattle.bx_plain_repair.specs.Resting.{StandsAs, closes_log, only, shuts_log}
use Rattle.bx_plain_repair.specs.Through.{one_write}
use Rattle.bx_plain_repair.proofs.Only.{only_again, only_none}

pub not_idle_closes : Closes ≡ Idle → ⊥
not_idle_closes e = absurd cc

pub not_idle_shuts : Shuts ≡ Idle → ⊥
not_idle_shuts e = absurd cc

-- the log's write is out
module _ (x z : Disks) (log : LogView) (runs : List Run) (some : log.work ≡ Idle → ⊥) (asks : runs ≡ (writes log log.work).1)
    (goes : (d s : ℕ) (content : List ℕ) → IsOnly (one_write runs ∷ []) 0 d s content → IsSettled x (opening_state 1 1) d s content → IsSettled z (opening_state 1 1) d s content) where
  pub is_out : IsOut (IsSettled x (opening_state 1 1)) (IsSettled z (opening_state 1 1)) log
  is_out = stays_out (IsSettled x (opening_state 1 1)) (IsSettled z (opening_state 1 1)) log (one_write runs ∷ []) 0
      (λ write d s content there brings. ⊎_elim
      (λ (same : one_write runs ≡ write). inl (its_sectors log write some (sym (ap (λ (w : Sent). w.runs) same) ∙ asks) d s content brings))
      (λ none. absurd (nothing write none))
      (front_or_behind (one_write runs) [] write there))
      goes

  pub is_done : (before : Image) → IsDone (λ d s content index. IsSettled z (opening_state 1 1) d s content) 0 (one_write runs)
      → IsAcknowledged (IsSettled x (opening_state 1 1)) (IsSettled z (opening_state 1 1)) before (stored before log) log (bytes_of log.work)
  is_done before done = done_stored log (one_write runs) some asks (IsSettled x (opening_state 1 1)) (IsSettled z (opening_state 1 1)) before 0 is_out done

module _ (x z : Disks) (volume floor : ℕ) (tree : Tree) (labelled : IsLabelledBench z volume) where
  -- a write that is out, or wasn't begun
  pub log_stays : (records : List Logged) (log : LogView) → IsOut (IsSettled x (opening_state 1 1)) (IsSettled z (opening_state 1 1)) log
      → StandsAs volume floor tree records log x → StandsAs volume floor tree records log z
  log_stays records log out st = record {
    before = st.before;
    truth = st.truth;
    more = st.more;
    stands = stays (IsSettled x (opening_state 1 1)) (IsSettled z (opening_state 1 1)) 1 1 (opening_state 1 1).sessions st.before (only records) st.truth st.more log log.out st.stands out;
    told = st.told;
    tree_is = st.tree_is;
    labelled = labelled;
  }

  -- with a write out or not
  asked : (y : Disks) (before : Image) (records : List Logged) (log : LogView) (out : Bool) (st : StandsAs volume floor tree records log y)
      → LogStands (IsSettled y (opening_state 1 1)) 1 1 (opening_state 1 1).sessions st.before (only records) st.truth st.more (record log { out = out })
  asked y before records log out st =
      stays (IsSettled y (opening_state 1 1)) (IsSettled y (opening_state 1 1)) 1 1 (opening_state 1 1).sessions st.before (only records) st.truth st.more log out st.stands (λ d s content free was. was)

  -- gate 0 is closed
  pub first_closed : (count : ℕ) (records : List Logged) (st : StandsAs volume floor tree records (closes_log count) x)
      → IsAcknowledged (IsSettled x (opening_state 1 1)) (IsSettled z (opening_state 1 1)) st.before (stored st.before (record (closes_log count) { out = true })) (record (closes_log count) { out = true }) (gate_text Shut)
      → StandsAs volume floor tree [] shuts_log z
  first_closed count records st ack =
      let now = stored st.before (record (closes_log count) { out = true }) in
      let Sx : ℕ → ℕ → List ℕ → Type 0 = IsSettled x (opening_state 1 1) in
      let Sz : ℕ → ℕ → List ℕ → Type 0 = IsSettled z (opening_state 1 1) in
      let next = closing_stands Sx Sz 1 1 (opening_state 1 1).sessions st.before now (only records) st.truth st.more st.more (closes_log count) (asked x st.before records (closes_log count) true st) ack in
      let here = subst (λ (l : Logs). LogStands Sz 1 1 (opening_state 1 1).sessions now l st.truth st.more (record shuts_log { out = true })) (only_again records []) next in
      record {
        before = now;
        truth = st.truth;
        more = st.more;
        stands = stays Sz Sz 1 1 (opening_state 1 1).sessions now (only []) st.truth st.more (record shuts_log { out = true }) false here (λ d s content free was. was);
        told = λ logged there. absurd (nothing logged there);
        tree_is = st.tree_is;
        labelled = labelled;
      }

  -- the others are closed
  pub all_closed : (st : StandsAs volume floor tree [] shuts_log x)
      → IsAcknowledged (IsSettled x (opening_state 1 1)) (IsSettled z (opening_state 1 1)) st.before (stored st.before (record shuts_log { out = true })) (record shuts_log { out = true }) shut_text
      → IsClosed volume tree z
  all_closed st ack =
      let now = stored st.before (record shuts_log { out = true }) in
      let Sx : ℕ → ℕ → List ℕ → Type 0 = IsSettled x (opening_state 1 1) in
      let Sz : ℕ → ℕ → List ℕ → Type 0 = IsSettled z (opening_state 1 1) in
      let rest = shut_stands Sx Sz 1 1 (opening_state 1 1).sessions st.before now (only []) st.truth st.more st.more shuts_log (asked x st.before [] shuts_log true st) ack in
      record {
        before = now;
        truth = st.truth;
        more = st.more;
        stands = subst (λ (l : Logs). LogStands Sz 1 1 (opening_state 1 1).sessions now l st.truth st.more (closed_log 0 0)) only_none rest;
        tree_is = st.tree_is;
        labelled = labelled;
      }
