-- Steps behind others.
use Rattle.std.proofs.Common.{◌≡◌, List, [], ◌∷◌, ◌++◌, refl, ap, sym, ◌∙◌, subst}
use Rattle.bx_cluster.specs.Steps.{part_at}
use Rattle.bx_history.specs.Parts.{Part}
use Rattle.bx_world_events.specs.Refusals.{Seen}
use Rattle.bx_world_events.specs.declared.event.Event.{Event}
use Rattle.bx_driver.specs.Steps.{Along, IsOne, EventStep, parts_with}

pub along_both : (Is : Seen → Event → Type 0) (a b c : Seen) (earlier later : List EventStep) → Along Is a earlier b → Along Is b later c → Along Is a (later ++ earlier) c
along_both Is a b c earlier [] first second = subst (Along Is a earlier) (sym second) first
along_both Is a b c earlier (step ∷ later) first (middle, along, does, goes) = (middle, along_both Is a b middle earlier later first along, does, goes)

pub parts_both : (earlier later : List EventStep) (parts : List Part) → parts_with (later ++ earlier) parts ≡ parts_with later (parts_with earlier parts)
parts_both earlier [] parts = refl
parts_both earlier (step ∷ later) parts = ap (λ (l : List Part). part_at step.event step.outcome ∷ l) (parts_both earlier later parts)

-- one more of which the fact stands
pub along_more : (Is : Seen → Event → Type 0) (event : Event) (a b c : Seen) (earlier later : List EventStep) → Is b event → Along Is a earlier b → IsOne event b later c → Along Is a (later ++ earlier) c
along_more Is event a b c earlier later does along one =
    let is : Is b one.step.event = subst (Is b) (sym one.is) does in
    subst (λ l. Along Is a (l ++ earlier) c) (sym one.alone) (b, along, is, one.goes)

-- machines stay as many
pub nodes_stay : (Is : Seen → Event → Type 0) (from : Seen) (steps : List EventStep) (to : Seen) → Along Is from steps to → to.nodes ≡ from.nodes
nodes_stay Is from [] to along = ap (λ (p : Seen). p.nodes) along
nodes_stay Is from (step ∷ earlier) to (middle, along, does, goes) = goes.shown.nodes ∙ nodes_stay Is from earlier middle along

pub devices_stay : (Is : Seen → Event → Type 0) (from : Seen) (steps : List EventStep) (to : Seen) → Along Is from steps to → to.devices ≡ from.devices
devices_stay Is from [] to along = ap (λ (p : Seen). p.devices) along
devices_stay Is from (step ∷ earlier) to (middle, along, does, goes) = goes.shown.devices ∙ devices_stay Is from earlier middle along
