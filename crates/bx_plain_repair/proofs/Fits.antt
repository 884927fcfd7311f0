-- Runs of a volume of one device and one area lie on both members.
use Rattle.std.proofs.Common.{◌≡◌, ℕ, ◌+◌, ◌*◌, ◌/◌, ◌≤◌, arith, List, [], ◌∷◌, length, sym, ◌∙◌, subst}
use Rattle.std.specs.Prelude.{slice_index}
use Rattle.std.proofs.lemmas.List.{length-replicate}
use Rattle.bx_facts.specs.Writes.{AreRuns, IsRun, Writes, WritesIn}
use Rattle.bx_layout.specs.declared.gate.Gate.TheVariants.{Closed as Shut}
use Rattle.bx_layout.specs.Labels.{gate_text}
use Rattle.bx_plain_store.specs.Out.{IsFitting}
use Rattle.bx_records.specs.declared.runs.Run.{Run}
use Rattle.bx_redo.proofs.Stored.{only_one}
use Rattle.bx_redo.specs.Steps.{shut_text, writes}
use Rattle.bx_redo.specs.declared.work.Work.TheVariants.{Closes, Shuts}
use Rattle.bx_plain_repair.specs.Bench.{AreLong, made_for}
use Rattle.bx_plain_repair.specs.Resting.{closes_log, shuts_log}
use Rattle.bx_plain_repair.proofs.OpenLogs.{many_disks}

pub run_fits : (sizes : List ℕ) (run : Run) → AreLong sizes → IsRun (made_for 0) run → IsFitting 1 sizes run
run_fits sizes run long is =
    let many = many_disks sizes long in
    let device = is.device in
    let within = is.within in
    let zero_is : run.device ≡ 0 = omega (arith, device) in
    record {
      device = device;
      disk = omega (arith, many, device);
      whole = is.whole;
      first = subst (λ (d : ℕ). run.place + length run.bytes / 512 ≤ slice_index sizes (3 + 2 * d)) (sym zero_is) (let three = long.long 3 (omega arith) in omega (arith, within, three));
      second = subst (λ (d : ℕ). run.place + length run.bytes / 512 ≤ slice_index sizes (4 + 2 * d)) (sym zero_is) (let four = long.long 4 (omega arith) in omega (arith, within, four));
    }

-- one run among the gates, which writes nothing twice
gates_fit : (place sectors : ℕ) (bytes : List ℕ) → 1 ≤ place → length bytes ≡ 512 * sectors → 1 ≤ sectors → place + sectors ≤ 9345 → AreRuns (made_for 0) (record { device = 0; place = place; bytes = bytes } ∷ [])
gates_fit place sectors bytes behind_label long least most = record {
  each = λ other there. subst (IsRun (made_for 0)) (only_one run other there) (record {
    device = omega arith;
    behind_label = behind_label;
    some = omega (arith, long, least);
    whole = omega (arith, long);
    within = omega (arith, long, most);
  });
  once = λ d s content other w v. sym (mine d s other v).is ∙ (mine d s content w).is;
}
  where
    run : Run
    run = record { device = 0; place = place; bytes = bytes }

    mine : (d s : ℕ) (content : List ℕ) → WritesIn (run ∷ []) d s content → Writes run d s content
    mine d s content (it, there, w) = subst (λ (r : Run). Writes r d s content) (sym (only_one run it there)) w

pub closes_fits : AreRuns (made_for 0) (writes (closes_log 1) Closes).1
closes_fits = gates_fit 1 1 (gate_text Shut) (omega arith) (length-replicate {A = ℕ} 512 0) (omega arith) (omega arith)

pub shuts_fits : AreRuns (made_for 0) (writes shuts_log Shuts).1
unfolding shut_text
shuts_fits = gates_fit 2 7 shut_text (omega arith) (length-replicate {A = ℕ} 3584 0) (omega arith) (omega arith)
