-- Writes of homes.
use Rattle.std.proofs.Common.{◌≡◌, ◌⊎◌, ⊎_elim, inl, inr, refl, ℕ, suc, zero, ◌+◌, ◌-◌, ◌<◌, arith, Bool, false, List, [], ◌∷◌, Contains, length, sym, ◌∙◌, ap, subst}
use Rattle.std.specs.Prelude.{if◌then◌else◌}
use Rattle.bx_disk.specs.Disks.{Disks, Image}
use Rattle.bx_facts.specs.Writes.{IsDone, IsOnly, IsOver, IsSettled, Sent, Writes, WritesIn, WritesTo}
use Rattle.bx_facts.proofs.Lists.{front_or_behind, nothing}
use Rattle.bx_global.specs.Opening.{opening_state}
use Rattle.bx_model.specs.declared.tree.Tree.{Tree}
use Rattle.bx_places.specs.Places.{block_place}
use Rattle.bx_records.specs.declared.runs.Run.{Run}
use Rattle.bx_redo.specs.Homes.{AreItsHomes, home_run, with_runs}
use Rattle.bx_redo.specs.Stands.{AreHome}
use Rattle.bx_redo.specs.Steps.{found_log}
use Rattle.bx_redo.specs.declared.work.Work.TheVariants.{Closes, Shuts}
use Rattle.bx_redo.proofs.Begins.{found_closes}
use Rattle.bx_redo.proofs.HomeRuns.{all_sure, homes_done, homes_out}
use Rattle.bx_redo.proofs.Homed.{are_home}
use Rattle.bx_redo.proofs.Homes.{homes_found}
use Rattle.bx_truth.proofs.Cases.{eq_false}
use Rattle.bx_volume.specs.Overlay.{Logs, Matters}
use Rattle.bx_volume.specs.Records.{Logged}
use Rattle.bx_plain_repair.specs.Bench.{IsLabelledBench}
use Rattle.bx_plain_repair.specs.Resting.{AreHomed, Rests, StandsAs, closes_log, only, shuts_log}
use Rattle.bx_plain_repair.specs.Through.{one_write}
use Rattle.bx_plain_repair.proofs.Only.{only_again}

-- a log that is being closed, by how many records it has
pub closes_with : (count : ℕ) → 0 < count → found_log 0 0 count ≡ closes_log count
closes_with zero some = absurd (omega (arith, some))
closes_with (suc n) some = ap (λ (b : Bool). record { slot = 0; device = 0; count = suc n; work = if b then Shuts else Closes; out = false }) (eq_false (suc n) 0 (λ e. omega (arith, e)))

-- blocks of no records are home
pub none_homed : (disks : Disks) (before : Image) → ((d s : ℕ) → Matters 1 1 (only []) d s → IsSettled disks (opening_state 1 1) d s (before d s)) → AreHomed disks before []
none_homed disks before sure = record {
  home = λ at block is newest. absurd cc;
  sure = λ d s matters. sure d s (subst (λ (l : Logs). Matters 1 1 l d s) (only_again [] []) matters);
}

-- where the records' blocks are home, their closing may begin
pub homed_stands : (volume floor : ℕ) (tree : Tree) (records : List Logged) (disks : Disks) (rests : Rests volume floor tree records disks) → AreHomed disks rests.before records
    → StandsAs volume floor tree records (found_log 0 0 (length records)) disks
homed_stands volume floor tree records disks rests homed = record {
  before = rests.before;
  truth = rests.truth;
  more = rests.more;
  stands = found_closes (IsSettled disks (opening_state 1 1)) 1 1 (opening_state 1 1).sessions rests.before (only records) rests.truth rests.more 0 rests.found homed.home homed.sure;
  told = rests.told;
  tree_is = rests.tree_is;
  labelled = rests.labelled;
}

-- no record is open
pub none_stands : (volume floor : ℕ) (tree : Tree) (disks : Disks) → Rests volume floor tree [] disks → StandsAs volume floor tree [] shuts_log disks
none_stands volume floor tree disks rests = homed_stands volume floor tree [] disks rests (none_homed disks rests.before rests.found.sure)

module _ (x z : Disks) (runs : List Run)
    (goes : (d s : ℕ) (content : List ℕ) → IsOnly (one_write runs ∷ []) 0 d s content → IsSettled x (opening_state 1 1) d s content → IsSettled z (opening_state 1 1) d s content)
    (volume floor : ℕ) (tree : Tree) (records : List Logged) (rests : Rests volume floor tree records x) (its : AreItsHomes 1 1 (only records) 0 runs) (labelled : IsLabelledBench z volume) where
  each : (write : Sent) → Contains (one_write runs ∷ []) write → (write.runs ≡ runs) ⊎ IsOver 0 write
  each write there = ⊎_elim (λ (same : one_write runs ≡ write). inl (sym (ap (λ (w : Sent). w.runs) same))) (λ none. absurd (nothing write none)) (front_or_behind (one_write runs) [] write there)

  -- a home that stands is written as it is
  as_it_is : AreHome rests.before 1 1 (only records) 0 → (d s : ℕ) (other : List ℕ) → WritesIn runs d s other → other ≡ rests.before d s
  as_it_is home d s other (run, there, w) =
      let h = its.each run there in
      let mine : Writes (home_run 1 h.at h.block) d s other = subst (λ (r : Run). Writes r d s other) h.run_is w in
      let from = mine.from in
      let below = mine.below in
      let reads = (home h.at h.block h.is h.newest).reads.each (s - (block_place h.at 1).1) (omega (arith, from, below)) in
      let place : (block_place h.at 1).1 + (s - (block_place h.at 1).1) ≡ s = omega (arith, from) in
      sym mine.is ∙ sym reads ∙ (λ i. rests.before (mine.on i) (place i))

  only_same : AreHome rests.before 1 1 (only records) 0 → (d s : ℕ) → IsOnly (one_write runs ∷ []) 0 d s (rests.before d s)
  only_same home d s = record {
    each = λ write other there w. inl (as_it_is home d s other (⊎_elim
        (λ (same : one_write runs ≡ write). subst (λ (v : Sent). WritesTo v d s other) (sym same) w)
        (λ none. absurd (nothing write none))
        (front_or_behind (one_write runs) [] write there)));
  }

  -- homes that are written in part or whole
  pub rests_still : Rests volume floor tree records z
  rests_still = record {
    before = rests.before;
    truth = rests.truth;
    more = rests.more;
    found = homes_found (IsSettled x (opening_state 1 1)) (IsSettled z (opening_state 1 1)) 1 1 (opening_state 1 1).sessions rests.before rests.before (only records) rests.truth rests.more
        (homes_out 1 1 (only records) 0 (omega arith) runs its (IsSettled x (opening_state 1 1)) (IsSettled z (opening_state 1 1)) (one_write runs ∷ []) 0 each goes rests.before) 0 rests.found;
    behind = ⊎_elim
        (λ closed. inl closed)
        (λ (homed : AreHomed x rests.before records). inr (record {
          home = homed.home;
          sure = λ d s matters. goes d s (rests.before d s) (only_same homed.home d s) (homed.sure d s matters);
        })) rests.behind;
    told = rests.told;
    tree_is = rests.tree_is;
    labelled = labelled;
  }

  -- and once they are
  pub homes_stand : IsDone (λ d s content index. IsSettled z (opening_state 1 1) d s content) 0 (one_write runs) → StandsAs volume floor tree records (found_log 0 0 (length records)) z
  homes_stand done =
      let Sx : ℕ → ℕ → List ℕ → Type 0 = IsSettled x (opening_state 1 1) in
      let Sz : ℕ → ℕ → List ℕ → Type 0 = IsSettled z (opening_state 1 1) in
      let now = with_runs rests.before runs in
      let found = homes_found Sx Sz 1 1 (opening_state 1 1).sessions rests.before now (only records) rests.truth rests.more
      (homes_done 1 1 (only records) 0 (omega arith) runs its Sx Sz (one_write runs ∷ []) 0 each goes rests.before) 0 rests.found in
      record {
        before = now;
        truth = rests.truth;
        more = rests.more;
        stands = found_closes Sz 1 1 (opening_state 1 1).sessions now (only records) rests.truth rests.more 0 found
            (are_home 1 1 (only records) 0 (omega arith) runs its rests.before rests.found.volume)
            (all_sure 1 1 (only records) 0 (omega arith) runs its Sx Sz (one_write runs ∷ []) 0 each goes (opening_state 1 1).sessions rests.before rests.truth rests.more 0 (one_write runs) refl rests.found done);
        told = rests.told;
        tree_is = rests.tree_is;
        labelled = labelled;
      }
