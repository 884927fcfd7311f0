use Rattle.std.proofs.Common.{refl, ap, ◌∙◌, arith}
use Rattle.bx_cluster_parts.proofs.Opening.{made_rests}
use Rattle.bx_cluster_parts.specs.Made.{made_by}
use Rattle.bx_facts.specs.Writes.{Made}
use Rattle.bx_format_openings.proofs.Opening.{opening_names}
use Rattle.bx_global.proofs.Begins.{opening_allowed}
use Rattle.bx_global.specs.Opening.{opening_state}
use Rattle.bx_cluster_parts.proofs.parts.ClusterParts.begin.Goals as goal

pub returns-in-Ok-clause-new : goal.returns-in-Ok-clause-new
returns-in-Ok-clause-new g c = λ tells.
    let nodes = c.args.nodes in
    let devices = c.args.devices in
    let s = opening_state nodes devices in
    let made = made_by c.args.volume nodes devices c.args.areas in
    let parts = c.in_ok-parts.parts in
    let are = c.in_ok-parts.ensures in
    let wrote = c.in-Ok.ensures in
    let sizes = c.requires.sizes in
    let counted = ap (λ (m : Made). m.nodes) are.store.0.made_is in
    record {
      register_keeps = rw are.register.0 at (wrote.keeps (c.format.ensures.rack.keeps_telling tells));
      knows = λ who. wrote.knows who ∙ are.register.0;
      owners_new = c.made_for.ensures.are_new nodes s parts.owners are.owners;
      owners_for = rw are.store.0.made_is (c.made_for.ensures.opening nodes devices parts.owners are.owners);
      store_new = c.made_for-2.ensures.are_new made s parts.store are.store.0 are.store.1;
      store_for = c.made_for-2.ensures.opening made nodes devices parts.store are.store.0;
      same_boots = refl;
      no_owner = λ node beyond. c.made_for.ensures.nobody nodes node s parts.owners are.owners (let e = counted in omega (arith, beyond, e));
      no_writer = λ node beyond. c.made_for-2.ensures.nobody made s parts.store node are.store.0 are.store.1 (let e = counted in omega (arith, beyond, e));
      allowed = opening_allowed nodes devices c.requires.nodes sizes.least_devices sizes.most_devices;
      names = opening_names nodes devices;
    }

pub returns-in-Ok-clause-rests : goal.returns-in-Ok-clause-rests
returns-in-Ok-clause-rests g c = λ tells.
    let wrote = c.in-Ok.ensures in
    let kept = wrote.members (c.format.ensures.rack.keeps_telling tells) in
    made_rests (g.R.Rack.state c.format.new.rack) (g.R.Rack.state c.format-2.new.rack) c.args.volume c.args.nodes c.args.devices c.args.areas c.ranges.volume.fits c.requires.sizes (c.in_ok-format.ensures.formatted tells)
    wrote.rack.sizes kept.0 kept.1
