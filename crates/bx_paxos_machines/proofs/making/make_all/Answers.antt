use Rattle.std.proofs.Common.{◌+◌, List, sym, subst, ◌∙◌, arith}
use Rattle.bx_paxos_machines.specs.Beginning.{AreNew}
use Rattle.bx_paxos_machines.specs.declared.machine.Machine.{Machine}
use Rattle.bx_paxos_machines.proofs.Lists.{AreMadeTo, made_all, made_more, new_push}
use Rattle.bx_paxos_machines.proofs.making.make_all.Goals as goal

pub loop-place-preserved : goal.loop-place-preserved
loop-place-preserved c =
    let made = c.args.state.now in
    let m = c.in_ok-machine.machine in
    let did = c.in_ok-machine.ensures in
    record {
      made = subst (λ (ms : List Machine). AreMadeTo c.args.nodes made c.args.origins.now (c.loop-place.place + 1) ms) (sym c.in_ok-put_last.ensures)
          (made_more c.args.nodes made c.args.origins.now c.loop-place.place c.loop-place.all.items m c.loop-place.invariant.made (did.name ∙ c.name_at.ensures) did.part);
      fresh = subst (λ (ms : List Machine). AreNew made ms) (sym c.in_ok-put_last.ensures) (new_push made c.loop-place.all.items m c.loop-place.invariant.fresh did.new);
    }

pub returns-clause-machines : goal.returns-clause-machines
returns-clause-machines c =
    let over = c.loop-place-test.false in
    made_all c.args.nodes c.args.state.now c.args.origins.now c.loop-place.place c.loop-place.all.items (omega (arith, over)) c.loop-place.invariant.made
