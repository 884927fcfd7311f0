use Rattle.std.proofs.Common.{◌∙◌, ℕ, ◌+◌, List, length, IfSome, sym, ap, subst}
use Rattle.std.specs.Prelude.{slice_get}
use Rattle.std.proofs.lemmas.List.{length_push}
use Rattle.bx_node_steps.specs.declared.machine.Machine.{Machine}
use Rattle.bx_nodes.specs.Opening.{IsFirst}
use Rattle.bx_nodes.specs.Stopping.{HasNothing}
use Rattle.bx_nodes.proofs.Firsts.{each_more, first_one, seen_nothing}
use Rattle.bx_nodes.proofs.nodes.first_machines.Goals as goal

pub loop-preserved : goal.loop-preserved
loop-preserved c =
    let items = c.loop.machines.items in
    let machine = c.new.result in
    let made = c.new.ensures in
    let has : HasNothing c.args.devices c.args.areas machine = record {
      session = made.session;
      cache = made.cache;
      log = made.log;
      idle = made.idle.0;
      reads = made.idle.1;
      calls = made.calls.0;
      mark = made.calls.1;
      ticks = made.tidy.0;
      tidy = made.tidy.1;
    } in
    record {
      counted = ap (λ (l : List Machine). length l) c.in_ok-push.ensures.items ∙ length_push items machine ∙ ap (λ (n : ℕ). n + 1) c.loop.invariant.counted;
      first = λ node. subst (λ (l : List Machine). IfSome (slice_get l node) (IsFirst c.args.devices c.args.areas)) (sym c.in_ok-push.ensures.items)
          (each_more (IsFirst c.args.devices c.args.areas) items machine c.loop.invariant.first (first_one c.args.devices c.args.areas machine has) node);
    }

pub returns-clause-seen : goal.returns-clause-seen
returns-clause-seen c = seen_nothing c.args.devices c.args.areas c.loop.machines.items c.loop.invariant.first
