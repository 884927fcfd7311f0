use Rattle.std.proofs.Common.{inl, inr, sym, ◌≡◌}
use Rattle.std.proofs.lemmas.Result.{IfOk-weaker}
use Rattle.bx_creating.proofs.Lacks.{full_if}
use Rattle.bx_creating.proofs.CreateWhole.{comes, comes_first, comes_ready, no_directory, no_name, searched}
use Rattle.std.specs.Prelude.{Err}
use Rattle.bx_layout.specs.declared.inode.Inode.{Inode}
use Rattle.bx_model.specs.Making.{create}
use Rattle.bx_creating.specs.Lacking.{PreparesCreate}
use Rattle.bx_creating.proofs.First.{stop_comes}
use Rattle.bx_creating.proofs.creating.create.Goals as goal

pub returns-in_default-clause-step : goal.returns-in_default-clause-step
returns-in_default-clause-step g c = λ truth tree same s fit. no_name tree c.args.call.now c.args.at.now c.args.name.now c.args.sattr.now c.args.now c.args.volume s.volume_is c.in_default.ensures

pub returns-in-Err-clause-step : goal.returns-in-Err-clause-step
returns-in-Err-clause-step g c = λ truth tree same s fit.
    no_directory tree c.args.call.now c.args.at.now c.args.name.now c.args.sattr.now c.args.now c.args.volume s.volume_is c.in-Some.handle c.in-Some.ensures c.args.areas truth c.in-Err.stop (c.in-Err.ensures.step truth tree same s.is)

pub returns-in-Ok-clause-step : goal.returns-in-Ok-clause-step
returns-in-Ok-clause-step g c = λ truth tree same s fit.
    comes tree c.args.call.now c.args.at.now c.args.name.now c.args.sattr.now c.args.now c.args.volume s.volume_is c.in-Some.handle c.in-Some.ensures c.args.areas (g.V.View.held c.args.view.now) (g.V.View.hints c.args.view.now) truth c.in-Ok.inode
    (c.in-Ok.ensures.step truth tree same s.is) c.requires.areas same s fit c.create_in.result (λ is. c.create_in.ensures.step truth tree is)

pub returns-in-Ok-clause-hints : goal.returns-in-Ok-clause-hints
returns-in-Ok-clause-hints g c = λ other truth tree same s fit other_fit.
    c.create_in.ensures.hints other truth tree
    (searched tree c.args.call.now c.args.at.now c.args.name.now c.args.sattr.now c.args.now c.args.volume s.volume_is c.in-Some.handle c.in-Some.ensures c.args.areas (g.V.View.held c.args.view.now) (g.V.View.hints c.args.view.now) truth
    c.in-Ok.inode (c.in-Ok.ensures.step truth tree same s.is) c.requires.areas same s fit) other_fit

pub returns-in-Ok-clause-lacks : goal.returns-in-Ok-clause-lacks
returns-in-Ok-clause-lacks g c = λ truth tree same s fit.
    comes_first tree c.args.call.now c.args.at.now c.args.name.now c.args.sattr.now c.args.now c.args.volume s.volume_is c.in-Some.handle c.in-Some.ensures c.args.areas (g.V.View.held c.args.view.now) (g.V.View.hints c.args.view.now) truth c.in-Ok.inode
    (c.in-Ok.ensures.step truth tree same s.is) c.requires.areas same s fit c.create_in.result (λ is. c.create_in.ensures.lacks truth tree is)

pub returns-in-Err-clause-lacks : goal.returns-in-Err-clause-lacks
returns-in-Err-clause-lacks g c = λ truth tree same s fit.
    stop_comes Inode (λ status. create tree c.args.call.now c.args.at.now c.args.name.now c.args.sattr.now c.args.now 8 ≡ Err status)
    (PreparesCreate c.args.volume c.args.areas (g.V.View.held c.args.view.now) (g.V.View.hints c.args.view.now) truth tree c.args.at.now c.args.name.now c.args.sattr.now.size) c.in-Err.stop c.in-Err.ensures.inner

pub returns-in-Ok-clause-ready : goal.returns-in-Ok-clause-ready
returns-in-Ok-clause-ready g c = λ truth tree same s fit.
    comes_ready tree c.args.call.now c.args.at.now c.args.name.now c.args.sattr.now c.args.now c.args.volume s.volume_is c.in-Some.handle c.in-Some.ensures c.args.areas (g.V.View.held c.args.view.now) (g.V.View.hints c.args.view.now) truth c.in-Ok.inode
    (c.in-Ok.ensures.step truth tree same s.is) c.requires.areas same s fit c.create_in.result (λ is. c.create_in.ensures.ready truth tree is)

pub returns-in-Ok-clause-full : goal.returns-in-Ok-clause-full
returns-in-Ok-clause-full g c = full_if (λ spare none. record { handle = c.in-Some.handle; is_named = sym c.in-Some.ensures; none = none }) c.create_in.result c.create_in.ensures.full

pub returns-in-Ok-clause-near : goal.returns-in-Ok-clause-near
returns-in-Ok-clause-near g c =
    IfOk-weaker c.create_in.result _ _ (λ made near. elim near [ inl none ↦ inl none | inr first ↦ inr (record { handle = c.in-Some.handle; is_named = sym c.in-Some.ensures; first = first }) ]) c.create_in.ensures.near
