-- What a store says of the write that a log asks for.
use Rattle.std.proofs.Common.{◌≡◌, ℕ, ◌+◌, ◌-◌, ◌⊎◌, ⊎_elim, inr, arith, Bool, true, List, [], ◌∷◌, Contains, sym, ap, ◌∙◌, subst, refl}
use Rattle.std.specs.Prelude.{◌≢◌, if◌then◌else◌}
use Rattle.bx_disk.specs.Disks.{Image, sector_of}
use Rattle.bx_facts.specs.Writes.{Sent, IsDone, IsOnly, IsOver, Writes, WritesTo}
use Rattle.bx_facts.proofs.Lists.{front, front_or_behind, nothing}
use Rattle.bx_records.specs.declared.runs.Run.{Run}
use Rattle.bx_redo.specs.View.{LogView}
use Rattle.bx_redo.specs.Steps.{writes}
use Rattle.bx_redo.specs.Stands.{IsAcknowledged, IsOut, begins_at, bytes_of, is_written, run_of, sectors_of, stored}
use Rattle.bx_redo.specs.declared.work.Work.TheVariants.{Idle}
use Rattle.bx_redo.proofs.Asked.{one_asked, as_many}
use Rattle.bx_redo.proofs.Within.{within_it, within_is}

-- in a list of one
pub only_one : (x y : Run) → Contains (x ∷ []) y → x ≡ y
only_one x y there = ⊎_elim (λ same. same) (λ none. absurd (nothing y none)) (front_or_behind x [] y there)

module _ (log : LogView) (write : Sent) (some : log.work ≢ Idle) (asks : write.runs ≡ (writes log log.work).1) where
  run_is : write.runs ≡ run_of log log.work ∷ []
  run_is = asks ∙ one_asked log log.work some

  -- it writes the log's sectors
  pub its_sectors : (d s : ℕ) (content : List ℕ) → WritesTo write d s content → is_written log d s ≡ true
  its_sectors d s content (run, there, w) =
      let same = only_one (run_of log log.work) run (subst (λ (runs : List Run). Contains runs run) run_is there) in
      let mine : Writes (run_of log log.work) d s content = subst (λ (r : Run). Writes r d s content) (sym same) w in
      let many = as_many log.work in
      within_it log.device (begins_at log log.work) (sectors_of log.work) d s (sym mine.on) mine.from (let below = mine.below in omega (arith, below, many))

  -- and all of them, with its bytes
  pub it_writes : (d s : ℕ) → is_written log d s ≡ true → WritesTo write d s (sector_of (bytes_of log.work) (s - begins_at log log.work))
  it_writes d s is =
      let w = within_is log.device (begins_at log log.work) (sectors_of log.work) d s is in
      let many = as_many log.work in (
        run_of log log.work,
        subst (λ (runs : List Run). Contains runs (run_of log log.work)) (sym run_is) (front (run_of log log.work) []),
        record { on = sym w.on; from = w.begins; below = let ends = w.ends in omega (arith, ends, many); is = refl },
      )

  module _ (Sure Sure_then : ℕ → ℕ → List ℕ → Type 0) (before : Image) (index : ℕ) where
    pub done_stored : IsOut Sure Sure_then log → IsDone (λ d s content known. Sure_then d s content) index write
        → IsAcknowledged Sure Sure_then before (stored before log) log (bytes_of log.work)
    done_stored out done = record {
      out = out;
      same = λ d s free. ap (λ (b : Bool). if b then sector_of (bytes_of log.work) (s - begins_at log log.work) else before d s) free;
      sure = λ d s is. subst (Sure_then d s) (sym (here d s is)) (done.each d s (sector_of (bytes_of log.work) (s - begins_at log log.work)) (it_writes d s is));
      reads = record {
        each = λ i less. let many = as_many log.work in
            here log.device (begins_at log log.work + i)
            (within_it log.device (begins_at log log.work) (sectors_of log.work) log.device (begins_at log log.work + i) refl (omega arith) (omega (arith, less, many)))
            ∙ ap (sector_of (bytes_of log.work)) (omega arith);
      };
    }
      where
        here : (d s : ℕ) → is_written log d s ≡ true → stored before log d s ≡ sector_of (bytes_of log.work) (s - begins_at log log.work)
        here d s is = ap (λ (b : Bool). if b then sector_of (bytes_of log.work) (s - begins_at log log.work) else before d s) is

-- what members take elsewhere leaves what is sure
pub stays_out : (Sure Sure_then : ℕ → ℕ → List ℕ → Type 0) (log : LogView) (sent : List Sent) (greatest : ℕ)
    → ((write : Sent) (d s : ℕ) (content : List ℕ) → Contains sent write → WritesTo write d s content → (is_written log d s ≡ true) ⊎ IsOver greatest write)
    → ((d s : ℕ) (content : List ℕ) → IsOnly sent greatest d s content → Sure d s content → Sure_then d s content)
    → IsOut Sure Sure_then log
stays_out Sure Sure_then log sent greatest each goes d s content free was = goes d s content
    (record { each = λ write other there brings. ⊎_elim (λ (is : is_written log d s ≡ true). absurd cc) (λ over. inr over) (each write d s other there brings) }) was
