use Rattle.std.proofs.Common.{◌≡◌, ℕ, ◌+◌, ◌<◌, ◌≤◌, ◌++◌, ◌∷◌, [], List, length, sym, subst, ◌∙◌, arith}
use Rattle.std.specs.Prelude.{slice_index, slice_set}
use Rattle.bx_facts.specs.Machines.{IsMachine}
use Rattle.bx_paxos_machines.specs.Beginning.{AreBegun, AreIdle, IsNew}
use Rattle.bx_paxos_machines.specs.Parts.{IsPart, IsWhole, name_of}
use Rattle.bx_paxos_machines.specs.declared.machine.Machine.{Machine}
use Rattle.bx_paxos_machines.proofs.Lists.{AreMadeTo, begun_push, calm_begun, calm_first, calm_twice, end_within, has_disk, idle_push, machine_in, made_all, made_more, put_end, read_end}
use Rattle.bx_paxos_machines.proofs.making.begin_all.Goals as goal

pub make-requires-clause-machine : goal.make-requires-clause-machine
make-requires-clause-machine r c = subst (IsMachine c.args.nodes) (sym c.name_at.ensures) (machine_in c.args.nodes c.loop-place.place (omega arith))

pub index_mut-requires : goal.index_mut-requires
index_mut-requires r c =
    let at : c.len-end.result ≡ length c.loop-place.all.items = (let len = c.loop-place.all.ok.0 in let is = c.len-end.ensures in omega (arith, len, is)) in
    let less = end_within c.loop-place.all.items c.put_last.new.all.items c.in_ok-machine.machine c.len-end.result c.in_ok-put_last.ensures at in
    omega (arith, less)

pub begin-requires-clause-whole : goal.begin-requires-clause-whole
begin-requires-clause-whole r c =
    let at : c.len-end.result ≡ length c.loop-place.all.items = (let len = c.loop-place.all.ok.0 in let is = c.len-end.ensures in omega (arith, len, is)) in
    let one = read_end c.loop-place.all.items c.put_last.new.all.items c.in_ok-machine.machine c.index_mut.result.now c.len-end.result c.in_ok-put_last.ensures at c.index_mut.ensures.value in
    subst IsWhole (sym one) c.in_ok-machine.ensures.part.whole

pub begin-requires-clause-room : goal.begin-requires-clause-room
begin-requires-clause-room r c =
    let at : c.len-end.result ≡ length c.loop-place.all.items = (let len = c.loop-place.all.ok.0 in let is = c.len-end.ensures in omega (arith, len, is)) in
    let one = read_end c.loop-place.all.items c.put_last.new.all.items c.in_ok-machine.machine c.index_mut.result.now c.len-end.result c.in_ok-put_last.ensures at c.index_mut.ensures.value in
    has_disk (r.R.Rack.state c.loop-place.rack).sizes c.index_mut.result.now (subst IsWhole (sym one) c.in_ok-machine.ensures.part.whole)
    (subst (λ (sizes : List ℕ). (n : ℕ) → n < 3 → 21 ≤ slice_index sizes n) (sym c.loop-place.invariant.rack.sizes) c.requires.room)

pub loop-place-preserved : goal.loop-place-preserved
loop-place-preserved r c =
    let at : c.len-end.result ≡ length c.loop-place.all.items = (let len = c.loop-place.all.ok.0 in let is = c.len-end.ensures in omega (arith, len, is)) in
    let made = c.args.state.now in
    let k = c.index_mut.result.now in
    let v = c.begin.new.self in
    let ms = c.loop-place.all.items in
    let one : k ≡ c.in_ok-machine.machine = read_end ms c.put_last.new.all.items c.in_ok-machine.machine k c.len-end.result c.in_ok-put_last.ensures at c.index_mut.ensures.value in
    let same : slice_set c.put_last.new.all.items c.len-end.result v ≡ ms ++ v ∷ [] = put_end ms c.put_last.new.all.items c.in_ok-machine.machine v c.len-end.result c.in_ok-put_last.ensures at in
    let did = c.in_ok-machine.ensures in
    let part = subst (IsPart c.args.nodes made c.args.origins.now) (sym one) did.part in
    let new = subst (IsNew made) (sym one) did.new in
    let then = c.begin.ensures in
    let x = r.R.Rack.state c.args.rack.now in
    let y = r.R.Rack.state c.loop-place.rack in
    let z = r.R.Rack.state c.begin.new.rack in
    let was = c.loop-place.invariant in
    record {
      made = subst (λ (l : List Machine). AreMadeTo c.args.nodes made c.args.origins.now (c.loop-place.place + 1) l) (sym same)
          (made_more c.args.nodes made c.args.origins.now c.loop-place.place ms v was.made (then.name ∙ subst (λ (m : Machine). name_of m ≡ c.name_at.result) (sym one) did.name ∙ c.name_at.ensures) (then.part c.args.nodes made c.args.origins.now part));
      begun = λ tells first.
          let told = was.rack.keeps_telling tells in
          subst (λ (l : List Machine). AreBegun made z l) (sym same)
          (begun_push made z ms v (calm_begun made y z ms (then.calm told) (was.begun tells first)) (c.in_ok-begin.ensures.begun c.args.nodes made c.args.origins.now told part c.requires.made new (calm_first made x y (was.calm tells) first)));
      idle = subst (λ (l : List Machine). AreIdle made l) (sym same) (idle_push made ms v was.idle (then.course ∙ new.course));
      calm = λ tells. calm_twice x y z (was.calm tells) (then.calm (was.rack.keeps_telling tells));
      rack = grind arith;
    }

pub returns-clause-machines : goal.returns-clause-machines
returns-clause-machines r c =
    let over = c.loop-place-test.false in
    made_all c.args.nodes c.args.state.now c.args.origins.now c.loop-place.place c.loop-place.all.items (omega (arith, over)) c.loop-place.invariant.made

pub returns-clause-begun : goal.returns-clause-begun
returns-clause-begun r c = λ tells first. c.loop-place.invariant.begun tells first

pub returns-in_err-begin-clause-calm : goal.returns-in_err-begin-clause-calm
returns-in_err-begin-clause-calm r c = λ tells. calm_twice (r.R.Rack.state c.args.rack.now) (r.R.Rack.state c.loop-place.rack) (r.R.Rack.state c.begin.new.rack) (c.loop-place.invariant.calm tells) (c.begin.ensures.calm (c.loop-place.invariant.rack.keeps_telling tells))

pub returns-clause-courses : goal.returns-clause-courses
returns-clause-courses r c = c.loop-place.invariant.idle

pub returns-clause-calm : goal.returns-clause-calm
returns-clause-calm r c = c.loop-place.invariant.calm

pub returns-in_err-machine-clause-calm : goal.returns-in_err-machine-clause-calm
returns-in_err-machine-clause-calm r c = c.loop-place.invariant.calm

pub returns-in_err-put_last-clause-calm : goal.returns-in_err-put_last-clause-calm
returns-in_err-put_last-clause-calm r c = c.loop-place.invariant.calm
