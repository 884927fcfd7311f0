-- Machines that have their turns.
use Rattle.std.proofs.Common.{◌≡◌, ℕ, ◌+◌, ◌/◌, ◌<◌, ◌≤◌, Bool, true, false, List, [], ◌∷◌, reverse, take, length, refl, arith, ap, sym, subst, ◌∙◌, None}
use Rattle.std.proofs.Math.ListN.{get_or}
use Rattle.std.proofs.lemmas.List.{reverse-append, take_more}
use Rattle.bx_base.specs.declared.names.Actor.{Actor}
use Rattle.bx_base.specs.declared.names.Actor.TheVariants.{Node, Replica, Server, Member}
use Rattle.bx_cluster.specs.Steps.{Counted, IsMoment}
use Rattle.bx_disk.specs.Disks.{Disks}
use Rattle.bx_disk.specs.declared.noise.Noise.{Noise}
use Rattle.bx_disk.specs.declared.rack.Rack as racks
use Rattle.bx_driver.proofs.Turns.{crash_allowed, restart_allowed}
use Rattle.bx_history.specs.Parts.{Part}
use Rattle.bx_model.specs.declared.tree.Tree.{Tree}
use Rattle.bx_world_events.specs.Causes.{IsThere}
use Rattle.bx_world_events.specs.Refusals.{Seen, refusal}
use Rattle.bx_world_events.specs.declared.event.Event.{Event}
use Rattle.bx_world_events.specs.declared.event.Event.TheVariants.{Call, Tick, Deliver, Sync, Crash, Restart, Blank}
use Rattle.bx_schedule.specs.Doing.{AreTurns, HadTurn, turn_of}
use Rattle.bx_schedule.specs.Doing.HadTurn.{Acted, Passed}
use Rattle.bx_schedule.specs.Doing.IsTurn.{Does, Passes}
use Rattle.bx_schedule.specs.Places.{Goes, HasAsMany, IsSteady, IsWithin, Place}
use Rattle.bx_schedule.proofs.Allowing.{not_back}
use Rattle.bx_schedule.proofs.Going.{goes_as, goes_more}

pub there_stays : (old new : Seen) (who : Actor) → HasAsMany old new → IsThere old who → IsThere new who
there_stays old new (Node n) many is = subst (λ k. n < k) (sym many.nodes) is
there_stays old new (Replica n) many is = is
there_stays old new (Server n) many is = is
there_stays old new (Member n) many is = subst (λ k. n / 2 < k) (sym many.devices) is

pub many_both : (a b c : Seen) → HasAsMany a b → HasAsMany b c → HasAsMany a c
many_both a b c one two = record { nodes = two.nodes ∙ one.nodes; devices = two.devices ∙ one.devices }

pub turn_allowed : (down : Bool) (reading : ℕ) (seen : Seen) (clock : ℕ) (who : Actor) → seen.greatest ≤ clock → (down ≡ true → IsSteady clock reading) → IsThere seen who → seen.down who ≡ down → refusal seen (turn_of down reading who) ≡ None
turn_allowed true reading seen clock who under steady there is =
    let late = (steady refl).late in
    restart_allowed seen reading who (there, is) ∙ not_back reading seen (Restart reading who) (omega (arith, under, late)) refl
turn_allowed false reading seen clock who under steady there is = crash_allowed seen who (there, is)

pub turn_moment : (down : Bool) (reading clock : ℕ) (who : Actor) → (down ≡ true → IsSteady clock reading) → IsMoment (turn_of down reading who)
turn_moment true reading clock who steady = (steady refl).time
turn_moment false reading clock who steady = tt

pub turn_within : (down : Bool) (reading clock : ℕ) (who : Actor) → (down ≡ true → IsSteady clock reading) → IsWithin clock (turn_of down reading who)
turn_within true reading clock who steady = (steady refl).under
turn_within false reading clock who steady = tt

pub one_more : (event : Event) (old new : ℕ) → Counted event old new → new ≤ old + 1
one_more (Call reading node client bytes) old new is = omega (arith, is)
one_more (Tick reading at) old new is = omega (arith, is)
one_more (Deliver reading number) old new is = omega (arith, is)
one_more (Sync at) old new is = omega (arith, is)
one_more (Crash at) old new is = omega (arith, is)
one_more (Restart reading at) old new is = omega (arith, is)
one_more (Blank at) old new is = omega (arith, is)

pub turned_more : (these : List Actor) (i : ℕ) (d : Actor) → i < length these → reverse (take (i + 1) these) ≡ get_or these i d ∷ reverse (take i these)
turned_more these i d less = ap reverse (take_more these i d less) ∙ reverse-append (take i these) (get_or these i d ∷ [])

module _ {C R : Type 0} (seen_of : C → Seen) (led_of : C → Disks → Tree → List Part → Type 0) (ra : racks.Ghosts R) where
  pub turn_more : (event : Actor → Event) (its : Event) (down : Bool) (who : Actor) (before : List Actor) (noise : Noise) (old mid new : Place C) (first between after : R)
      → Goes seen_of led_of ra (AreTurns event down before) noise old first mid between → its ≡ event who → HadTurn seen_of led_of ra its down who noise mid between new after
      → Goes seen_of led_of ra (AreTurns event down (who ∷ before)) noise old first new after
  turn_more event its down who before noise old mid new first between after one same (Acted is acts) =
      goes_more seen_of led_of ra (AreTurns event down before) (AreTurns event down (who ∷ before)) noise its old mid new first between after
      (λ steps are step own goes. (seen_of mid.cluster, steps, are, Does is step refl (own ∙ same) goes)) one acts
  turn_more event its down who before noise old mid new first between after one is (Passed isnt same rack) =
      let here = goes_as seen_of led_of ra (AreTurns event down before) (AreTurns event down (who ∷ before)) noise old mid first between (λ steps are. (seen_of mid.cluster, steps, are, Passes isnt refl refl)) one in
      subst (λ r. Goes seen_of led_of ra (AreTurns event down (who ∷ before)) noise old first new r) (sym rack) (subst (λ p. Goes seen_of led_of ra (AreTurns event down (who ∷ before)) noise old first p between) (sym same) here)
