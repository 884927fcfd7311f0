use Rattle.std.proofs.Common.{sym, ap, subst, ◌∙◌, length, arith}
use Rattle.bx_format_openings.proofs.Opening.{opening_devices}
use Rattle.bx_global.specs.Allowed.{IsAllowed}
use Rattle.bx_global.specs.declared.state.GlobalState.{GlobalState}
use Rattle.bx_cluster_parts.proofs.parts.ClusterParts.new.Goals as goal

pub new-requires-2-clause-rows : goal.new-requires-2-clause-rows
new-requires-2-clause-rows c =
    let many = ap (λ (s : GlobalState). length s.devices) c.in_ok-state.ensures ∙ opening_devices c.args.nodes c.args.devices in
    let most = c.requires.sizes.most_devices in
    omega (arith, many, most)

pub new-requires-3-clause-state : goal.new-requires-3-clause-state
new-requires-3-clause-state c =
    let sizes = c.requires.sizes in
    subst IsAllowed (sym (c.in_ok-first.ensures ∙ c.in_ok-state.ensures)) (c.begins_allowed.ensures.opening c.args.nodes c.args.devices c.requires.nodes sizes.least_devices sizes.most_devices)

pub new-requires-3-clause-index : goal.new-requires-3-clause-index
new-requires-3-clause-index c = let e = ap (λ (s : GlobalState). s.index) (c.in_ok-first.ensures ∙ c.in_ok-state.ensures) in omega (arith, e)
