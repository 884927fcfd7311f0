use Rattle.std.proofs.Common.{◌≡◌, ◌+◌, ◌∷◌, [], List, ◌++◌, length, take, sym, subst, arith}
use Rattle.std.specs.Int.{w32, to_be_bytes}
use Rattle.std.specs.List.{flat_map}
use Rattle.std.proofs.lemmas.List.{take_all}
use Rattle.bx_records.specs.declared.runs.Run.{Run}
use Rattle.bx_mirror_packets.specs.DeviceMessages.{run_text, runs_text}
use Rattle.bx_mirror_packets.specs.Parting.{runs_on}
use Rattle.bx_mirror_packets.proofs.Parted.{run_pushed, texts_more}
use Rattle.bx_mirror_packets.proofs.parting.push_runs_on.Goals as goal

pub loop-i-preserved : goal.loop-i-preserved
loop-i-preserved c =
    let runs = c.args.runs.now.1 in
    let device = c.args.device in
    let run = c.in-Some.run'.now in
    run_pushed c.args.out.now.items (to_be_bytes w32 (length (runs_on device runs))) (flat_map run_text (runs_on device (take c.loop-i.i runs))) (flat_map run_text (runs_on device (run ∷ []))) _ _ (flat_map run_text (runs_on device (take (c.loop-i.i + 1) runs)))
    c.loop-i.invariant c.in_ok-push_if_on.ensures (texts_more device runs c.loop-i.i run (sym c.in-Some.ensures))

pub returns : goal.returns
unfolding runs_text
returns c =
    let runs = c.args.runs.now.1 in
    let device = c.args.device in
    subst (λ (all : List Run). c.loop-i.out.items ≡ c.args.out.now.items ++ (to_be_bytes w32 (length (runs_on device runs)) ++ flat_map run_text (runs_on device all))) (take_all c.loop-i.i runs (omega (arith, c.loop-i-test.false, c.len-i-end.ensures))) c.loop-i.invariant
