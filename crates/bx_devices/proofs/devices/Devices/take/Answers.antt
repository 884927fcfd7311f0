use Rattle.std.proofs.Common.{Option, subst}
use Rattle.bx_facts.specs.declared.input.Input.{Input}
use Rattle.bx_global.specs.declared.change.Change.{Change}
use Rattle.bx_devices.proofs.Leaving.{event_disk, event_goes, event_session, needs_no_more, owes_only, replicas_kept}
use Rattle.bx_devices.proofs.Results.{if_ok, on_value}
use Rattle.bx_devices.proofs.Stepping.{event_hands, event_steps, hands_kind}
use Rattle.bx_devices.specs.Steps.{Hands, IsStep}
use Rattle.bx_devices.proofs.devices.Devices.take.Goals as goal

pub returns-clause-steps : goal.returns-clause-steps
returns-clause-steps g c = on_value c.take_own.result (λ (change : Option Change) does. subst (λ (input : Input). IsStep c.args.at c.args.known.now input c.args.self.now c.take_own.new.self) c.input_for-input.ensures
    (event_steps (g.R.Rack.tells c.args.rack.now) c.args.at c.args.known.now c.input_for-input.result.now c.args.self.now c.take_own.new.self change c.args.out.now c.take_own.new.out (g.R.Rack.state c.args.rack.now) (g.R.Rack.state c.take_own.new.rack) does c.take_own.ensures.only)) c.take_own.ensures.takes

pub returns-clause-hands : goal.returns-clause-hands
returns-clause-hands g c = if_ok c.take_own.result (λ (change : Option Change) does. subst (λ (input : Input). Hands c.args.at c.args.known.now input c.args.self.now change) c.input_for-input.ensures
    (event_hands (g.R.Rack.tells c.args.rack.now) c.args.at c.args.known.now c.input_for-input.result.now c.args.self.now c.take_own.new.self change c.args.out.now c.take_own.new.out (g.R.Rack.state c.args.rack.now) (g.R.Rack.state c.take_own.new.rack) does)) c.take_own.ensures.takes

pub returns-clause-kind : goal.returns-clause-kind
returns-clause-kind g c = if_ok c.take_own.result (λ (change : Option Change) does. hands_kind c.args.at c.args.known.now c.input_for-input.result.now c.args.self.now change
    (event_hands (g.R.Rack.tells c.args.rack.now) c.args.at c.args.known.now c.input_for-input.result.now c.args.self.now c.take_own.new.self change c.args.out.now c.take_own.new.out (g.R.Rack.state c.args.rack.now) (g.R.Rack.state c.take_own.new.rack) does)) c.take_own.ensures.takes

pub returns-clause-goes : goal.returns-clause-goes
returns-clause-goes g c = λ node. on_value c.take_own.result (λ (change : Option Change) does.
    event_goes (g.R.Rack.tells c.args.rack.now) c.args.at c.args.known.now c.input_for-input.result.now c.args.self.now c.take_own.new.self change c.args.out.now c.take_own.new.out (g.R.Rack.state c.args.rack.now) (g.R.Rack.state c.take_own.new.rack) node c.take_own.ensures.own_read does c.take_own.ensures.only) c.take_own.ensures.takes

pub returns-clause-session : goal.returns-clause-session
returns-clause-session g c = λ node here. on_value c.take_own.result (λ (change : Option Change) does.
    event_session (g.R.Rack.tells c.args.rack.now) c.args.at node c.args.known.now c.input_for-input.result.now c.args.self.now c.take_own.new.self change c.args.out.now c.take_own.new.out (g.R.Rack.state c.args.rack.now) (g.R.Rack.state c.take_own.new.rack) here does) c.take_own.ensures.takes

pub returns-clause-owes : goal.returns-clause-owes
returns-clause-owes g c = owes_only c.args.at c.args.self.now c.take_own.new.self c.take_own.ensures.only

pub returns-clause-needs : goal.returns-clause-needs
returns-clause-needs g c = needs_no_more c.args.self.now c.take_own.new.self c.take_own.ensures.only.made c.take_own.ensures.away

pub returns-clause-disks : goal.returns-clause-disks
returns-clause-disks g c = λ tells. event_disk g.R.Rack c.args.rack.now c.take_own.new.rack tells c.args.at c.args.known.now c.input_for-input.result.now c.args.self.now c.take_own.ensures.shape c.take_own.ensures.works

pub returns-clause-replicas : goal.returns-clause-replicas
returns-clause-replicas g c = λ tells. replicas_kept g.R.Rack c.args.rack.now c.take_own.new.rack tells c.args.at c.args.known.now c.input_for-input.result.now c.args.self.now c.take_own.ensures.shape c.take_own.ensures.works
