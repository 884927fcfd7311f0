use Rattle.std.proofs.Common.{◌≡◌, ◌∙◌, ℕ, [], false, Option, None, Some, IfSome, sym, ap, subst, arith}
use Rattle.std.specs.Prelude.{slice_get}
use Rattle.bx_disk.specs.Disks.{Disks}
use Rattle.bx_facts.specs.Writes.{Made}
use Rattle.bx_node_steps.specs.declared.machine.Machine.{Machine}
use Rattle.bx_nodes.specs.Opening.{IsFirst}
use Rattle.bx_nodes.specs.Stopping.{HasNothing}
use Rattle.bx_places.specs.Places.{IsVolume}
use Rattle.bx_plain_parts.specs.Made.{made_by}
use Rattle.bx_plain_parts.specs.declared.parts.Shape.{Shape}
use Rattle.bx_plain_store.specs.Growing.{idle_new}
use Rattle.bx_plain_store.specs.contracts.store.PlainStoreStore.TheImpl as plain_store
use Rattle.bx_tests_nodes.proofs.desk.begin.Goals as goal

has_nothing : (devices areas : ℕ) (found : Option Machine) → IfSome found (IsFirst devices areas) → IfSome found (HasNothing devices areas)
has_nothing devices areas None is = tt
has_nothing devices areas (Some machine) is = is.has

no_disks : Disks
no_disks = record { sizes = []; reads = λ d s. []; held = λ d s. []; unsure = λ d s. false }

one_area : IsVolume 1 1
one_area = record { least_devices = omega arith; most_devices = omega arith; least_areas = omega arith; most_areas = omega arith }

pub renew-requires : goal.renew-requires
renew-requires c =
    let parts = c.new-nodes.ensures.parts in
    let found = c.in_ok-parts.ensures in
    let store = c.in_ok-parts.parts.store in
    let made : plain_store.ghosts.made store ≡ record { volume = 7; nodes = c.args.count; devices = 1; areas = 1 } = found.made ∙ ap (made_by 7) c.shape.ensures in
    let new = (found.new no_disks).store_new in
    record {
      ready = record {
        counted = rw c.new-nodes.ensures.machines c.in_ok-machines.ensures.count;
        registers = rw parts.0 (found.register.0 ∙ ap (λ (s : Shape). s.nodes) c.shape.ensures);
        devices = rw parts.2 (ap (λ (m : Made). m.devices) made);
        areas = rw parts.2 (ap (λ (m : Made). m.areas) made);
        ready = λ node. c.new-nodes.ensures.ready node
            (subst (λ (m : Made). IsVolume m.devices m.areas) (sym made) one_area)
            (sym (ap (λ (m : Made). m.areas) made))
            (idle_new store.greatest store.slots.items store.inquiries.items node new).1
            (subst (λ (m : Made). IfSome (slice_get c.in_ok-machines.machines.items node) (HasNothing m.devices m.areas)) (sym made) (has_nothing 1 1 _ (c.in_ok-machines.ensures.first node)));
      };
    }
