use Rattle.std.proofs.Common.{ℕ, ◌+◌, ◌^◌, ◌<◌, ◌⊎◌, length, Err, refl, sym, ap, subst, ◌∙◌}
use Rattle.std.proofs.lemmas.Result.{err_from_is_err_and}
use Rattle.bx_base.specs.declared.names.Actor.TheVariants.{Replica}
use Rattle.bx_facts.specs.Chains.{IsAboveBoots}
use Rattle.bx_facts.specs.Pasts.{found_register}
use Rattle.bx_facts.specs.declared.input.OpenError.TheVariants.{NoMajority, Spent}
use Rattle.bx_global.specs.declared.state.GlobalState.{GlobalState}
use Rattle.bx_paxos_machines.specs.bx_paxos.specs.Reading.{ReadsState}
use Rattle.bx_paxos_machines.specs.bx_paxos_found.specs.Finding.{AreAtTheEnd, AreFollowed, IsGreatestBoot, LackMajority}
use Rattle.bx_rounds.specs.declared.course.Course.{Course}
use Rattle.bx_paxos_machines.specs.Cluster.{Cluster}
use Rattle.bx_paxos_machines.specs.Keeps.{Keeps}
use Rattle.bx_paxos_machines.proofs.Beginnings.{cluster_of, finds_keeping, idle_at, new_idle, new_needs_none, not_busy}
use Rattle.bx_paxos_cluster.proofs.Errors.{handed_on}
use Rattle.bx_paxos_cluster.proofs.paxos.Paxos.open.Goals as goal

pub returns-clause-keeps : goal.returns-clause-keeps
returns-clause-keeps r c = λ tells.
    let first = c.in_ok-found.found.state in
    let boot = c.in_ok-found.found.boot in
    let machines = c.in-Ok.machines.items in
    let g : Cluster = record { nodes = c.self.inside.nodes; made = c.self.inside.made; first = first; origins = c.in_ok-found.found.origins; machines = machines } in
    let is = c.self.invariant in
    let did = c.in_ok-found.ensures in
    let new = c.in-Ok.ensures.new in
    let y = r.R.Rack.state c.find.new.rack in
    let cluster = cluster_of g is.few is.allowed is.index did.allowed did.index (did.devices ∙ c.len-devices.ensures) c.in-Ok.ensures.machines in
    let found = did.found tells in
    let known = ap (λ (k : Course). k.known) (idle_at first machines (Replica 0) (new_idle first machines new)) in
    subst (λ (s : GlobalState). Keeps g y (found_register s boot)) (sym known) (finds_keeping g y found.0 boot cluster new found.1 found.2)

pub returns-clause-found : goal.returns-clause-found
returns-clause-found r c = λ tells.
    let first = c.in_ok-found.found.state in
    let machines = c.in-Ok.machines.items in
    let made = c.args.self.now.made in
    let known = ap (λ (k : Course). k.known) (idle_at first machines (Replica 0) (new_idle first machines c.in-Ok.ensures.new)) in
    subst (ReadsState made (r.R.Rack.state c.args.rack.now).sizes (r.R.Rack.state c.args.rack.now).reads) (sym known) (c.in_ok-found.ensures.reads made (ap (λ (k : Cluster). length k.made.devices) (sym c.self.view_is) ∙ sym c.len-devices.ensures) tells)

pub returns-clause-boots : goal.returns-clause-boots
returns-clause-boots r c =
    let first = c.in_ok-found.found.state in
    let machines = c.in-Ok.machines.items in
    let known = ap (λ (k : Course). k.known) (idle_at first machines (Replica 0) (new_idle first machines c.in-Ok.ensures.new)) in
    subst (λ (s : GlobalState). IsAboveBoots s (c.in_ok-found.found.boot + 1)) (sym known) c.in_ok-found.ensures.boots

pub returns-clause-knows : goal.returns-clause-knows
returns-clause-knows r c = λ who.
    let first = c.in_ok-found.found.state in
    let machines = c.in-Ok.machines.items in
    let idle = new_idle first machines c.in-Ok.ensures.new in
    ap (λ (k : Course). k.known) (idle_at first machines who idle) ∙ sym (ap (λ (k : Course). k.known) (idle_at first machines (Replica 0) idle))

pub returns-clause-idle : goal.returns-clause-idle
returns-clause-idle r c = λ who busy.
    let first = c.in_ok-found.found.state in
    let machines = c.in-Ok.machines.items in
    not_busy first machines who (new_idle first machines c.in-Ok.ensures.new) busy

pub returns-clause-needs : goal.returns-clause-needs
returns-clause-needs r c = λ disk.
    let g : Cluster = record { nodes = c.self.inside.nodes; made = c.self.inside.made; first = c.in_ok-found.found.state; origins = c.in_ok-found.found.origins; machines = c.in-Ok.machines.items } in
    new_needs_none g disk c.in-Ok.ensures.new

pub returns-clause-index : goal.returns-clause-index
returns-clause-index r c =
    let first = c.in_ok-found.found.state in
    let machines = c.in-Ok.machines.items in
    let known = ap (λ (k : Course). k.known) (idle_at first machines (Replica 0) (new_idle first machines c.in-Ok.ensures.new)) in
    subst (λ (s : GlobalState). s.index + 1 < 2 ^ 64) (sym known) c.in_ok-found.ensures.index

-- ---- causes

pub returns-in_err-found-clause-no_majority : goal.returns-in_err-found-clause-no_majority
returns-in_err-found-clause-no_majority r c = λ tells is.
    let p = err_from_is_err_and c.from_residual.result c.from_residual.ensures.1 in
    let x = r.R.Rack.state c.args.rack.now in
    let devices = ap (λ (k : Cluster). length k.made.devices) (sym c.self.view_is) ∙ sym c.len-devices.ensures in
    subst (λ (n : ℕ). LackMajority n x.sizes x.reads ⊎ AreAtTheEnd n x.sizes x.reads) (sym devices) (c.in_err-found.ensures.no_majority tells (handed_on (Err c.in_err-found.field-0.0) c.from_residual.result c.in_err-found.field-0.0 NoMajority refl (p.1 ∙ ap Err p.2) is))

pub returns-clause-majority : goal.returns-clause-majority
returns-clause-majority r c = λ tells.
    let x = r.R.Rack.state c.args.rack.now in
    let devices = ap (λ (k : Cluster). length k.made.devices) (sym c.self.view_is) ∙ sym c.len-devices.ensures in
    subst (λ (n : ℕ). LackMajority n x.sizes x.reads → ⊥) (sym devices) (c.in_ok-found.ensures.majority tells)

pub returns-in_err-found-clause-spent : goal.returns-in_err-found-clause-spent
returns-in_err-found-clause-spent r c = λ boot tells is.
    let p = err_from_is_err_and c.from_residual.result c.from_residual.ensures.1 in
    let x = r.R.Rack.state c.args.rack.now in
    let devices = ap (λ (k : Cluster). length k.made.devices) (sym c.self.view_is) ∙ sym c.len-devices.ensures in
    subst (λ (n : ℕ). IsGreatestBoot n x.sizes x.reads boot × AreFollowed n x.sizes x.reads) (sym devices) (c.in_err-found.ensures.spent boot tells (handed_on (Err c.in_err-found.field-0.0) c.from_residual.result c.in_err-found.field-0.0 (Spent boot) refl (p.1 ∙ ap Err p.2) is))

pub returns-clause-greatest : goal.returns-clause-greatest
returns-clause-greatest r c = λ tells.
    let x = r.R.Rack.state c.args.rack.now in
    let devices = ap (λ (k : Cluster). length k.made.devices) (sym c.self.view_is) ∙ sym c.len-devices.ensures in
    subst (λ (n : ℕ). IsGreatestBoot n x.sizes x.reads c.in_ok-found.found.boot) (sym devices) (c.in_ok-found.ensures.greatest tells)
