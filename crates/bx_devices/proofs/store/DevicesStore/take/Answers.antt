use Rattle.std.proofs.Common.{ℕ, List, None, refl, ap, subst}
use Rattle.std.specs.Prelude.{slice_index}
use Rattle.bx_facts.specs.Writes.{store_heard, store_with}
use Rattle.bx_devices.proofs.Cut.{event_done, event_leaves, fault_fits, fault_goes}
use Rattle.bx_devices.proofs.Going.{goes_on}
use Rattle.bx_devices.proofs.Results.{fault_given}
use Rattle.bx_devices.proofs.Serving.{few_devices}
use Rattle.bx_devices.proofs.Taken.{event_fits, event_goes}
use Rattle.bx_devices.specs.Machines.{IsShape}
use Rattle.bx_devices.proofs.store.DevicesStore.take.Goals as goal

pub take-result-requires-clause-devices : goal.take-result-requires-clause-devices
take-result-requires-clause-devices g c = few_devices c.args.known.now c.requires.known

pub returns-in_err-result-clause-keeps_faulted : goal.returns-in_err-result-clause-keeps_faulted
returns-in_err-result-clause-keeps_faulted g c = λ past tells keeps may fault.
    let faulted = c.take-result.ensures.fault (fault_given c.take-result.result c.from_residual.result _ c.in_err-result.was c.from_residual.ensures.1 fault) in
    fault_fits c.args.self.now (g.R.Rack.state c.args.rack.now) past c.args.known.now c.requires.known c.args.input.now c.args.out.now keeps c.take-result.new.self (g.R.Rack.state c.take-result.new.rack) c.args.at (subst IsShape c.self.view_is c.self.invariant) faulted c.take-result.ensures.only
    (fault_goes c.args.self.now (g.R.Rack.state c.args.rack.now) past c.args.known.now c.requires.known c.args.input.now c.args.out.now keeps g.R.Rack c.args.rack.now c.take-result.new.rack tells refl c.take-result.new.self c.args.at faulted c.take-result.ensures.works c.take-result.ensures.only may)

pub returns-in_err-result-clause-goes_on_faulted : goal.returns-in_err-result-clause-goes_on_faulted
returns-in_err-result-clause-goes_on_faulted g c = λ past tells keeps may fault.
    let faulted = c.take-result.ensures.fault (fault_given c.take-result.result c.from_residual.result _ c.in_err-result.was c.from_residual.ensures.1 fault) in
    goes_on c.args.self.now c.take-result.new.self (g.R.Rack.state c.args.rack.now) (g.R.Rack.state c.take-result.new.rack) (store_with past c.args.out.now) (store_with (store_heard past c.args.at c.args.known.now.index c.args.input.now None) c.args.out.now)
    (fault_goes c.args.self.now (g.R.Rack.state c.args.rack.now) past c.args.known.now c.requires.known c.args.input.now c.args.out.now keeps g.R.Rack c.args.rack.now c.take-result.new.rack tells refl c.take-result.new.self c.args.at faulted c.take-result.ensures.works c.take-result.ensures.only may)

pub returns-in_err-result-clause-any_moment : goal.returns-in_err-result-clause-any_moment
returns-in_err-result-clause-any_moment g c = λ past tells keeps may.
    event_leaves c.args.self.now (g.R.Rack.state c.args.rack.now) past c.args.known.now c.requires.known c.args.input.now c.args.out.now keeps g.R.Rack c.args.rack.now c.take-result.new.rack tells refl (λ image left. g.met.R.Rack.only_now c.args.rack.now image tells left) c.args.at c.take-result.ensures.works may

pub returns-clause-keeps : goal.returns-clause-keeps
returns-clause-keeps g c = λ past tells keeps may.
    event_fits c.args.self.now c.take-result.new.self (g.R.Rack.state c.args.rack.now) (g.R.Rack.state c.take-result.new.rack) past c.args.known.now c.requires.known c.args.input.now c.args.out.now c.take-result.new.out keeps (subst IsShape c.self.view_is c.self.invariant) c.args.at c.in_ok-result.field-0 (g.R.Rack.tells c.args.rack.now) c.take-result.ensures.only c.in_ok-result.ensures.takes
    (event_goes c.args.self.now c.take-result.new.self (g.R.Rack.state c.args.rack.now) (g.R.Rack.state c.take-result.new.rack) past c.args.known.now c.requires.known c.args.input.now c.args.out.now c.take-result.new.out keeps (subst IsShape c.self.view_is c.self.invariant) (record { each = λ k far. ap (λ (sizes : List ℕ). slice_index sizes k) c.take-result.ensures.rack.sizes }) c.args.at c.in_ok-result.field-0 (g.R.Rack.tells c.args.rack.now) tells c.requires.there c.take-result.ensures.only may (c.take-result.ensures.disks tells) c.in_ok-result.ensures.takes)

pub returns-clause-goes_on : goal.returns-clause-goes_on
returns-clause-goes_on g c = λ past tells keeps may.
    goes_on c.args.self.now c.take-result.new.self (g.R.Rack.state c.args.rack.now) (g.R.Rack.state c.take-result.new.rack) (store_with past c.args.out.now) (store_with (store_heard past c.args.at c.args.known.now.index c.args.input.now c.in_ok-result.field-0) c.take-result.new.out)
    (event_goes c.args.self.now c.take-result.new.self (g.R.Rack.state c.args.rack.now) (g.R.Rack.state c.take-result.new.rack) past c.args.known.now c.requires.known c.args.input.now c.args.out.now c.take-result.new.out keeps (subst IsShape c.self.view_is c.self.invariant) (record { each = λ k far. ap (λ (sizes : List ℕ). slice_index sizes k) c.take-result.ensures.rack.sizes }) c.args.at c.in_ok-result.field-0 (g.R.Rack.tells c.args.rack.now) tells c.requires.there c.take-result.ensures.only may (c.take-result.ensures.disks tells) c.in_ok-result.ensures.takes)

pub returns-clause-done : goal.returns-clause-done
returns-clause-done g c = λ past node write tells keeps may out none own lives.
    event_done c.args.self.now (g.R.Rack.state c.args.rack.now) past c.args.known.now c.requires.known c.args.input.now c.args.out.now keeps c.take-result.new.self (g.R.Rack.state c.take-result.new.rack) c.take-result.new.out c.args.at c.in_ok-result.field-0 (g.R.Rack.tells c.args.rack.now) node write c.requires.there c.take-result.ensures.only may c.in_ok-result.ensures.takes out none own lives

pub returns-clause-any_moment : goal.returns-clause-any_moment
returns-clause-any_moment g c = λ past tells keeps may.
    event_leaves c.args.self.now (g.R.Rack.state c.args.rack.now) past c.args.known.now c.requires.known c.args.input.now c.args.out.now keeps g.R.Rack c.args.rack.now c.take-result.new.rack tells refl (λ image left. g.met.R.Rack.only_now c.args.rack.now image tells left) c.args.at c.take-result.ensures.works may
