-- What a line names is what its event names.
use Rattle.std.proofs.Common.{◌≡◌, ◌⊎◌, ℕ, List, [], ◌∷◌, Option, Some, None, inl, inr, refl, sym, ap, subst}
use Rattle.bx_base.specs.declared.names.Actor.{Actor}
use Rattle.bx_base.specs.declared.names.Actor.TheVariants.{Node}
use Rattle.bx_history.specs.Parts.{Arrival}
use Rattle.bx_opens.specs.bx_world_events.specs.Events as events
use Rattle.bx_opens.specs.bx_world_events.specs.Refusals.{Seen, receiver}
use Rattle.bx_opens.specs.bx_world_events.specs.declared.event.Event.{Event}
use Rattle.bx_opens.specs.bx_world_events.specs.declared.event.Event.TheVariants.{Call, Tick, Deliver, Sync, Crash, Restart, Blank}
use Rattle.bx_schedule.specs.Refusing.{IsEventOf}
use Rattle.bx_script.specs.Schedule.{reading_of}
use Rattle.bx_script.specs.declared.line.Line.{Line}
use Rattle.bx_script.specs.declared.line.Line.TheVariants as lines
use Rattle.bx_replay.specs.Lines.{IsArrival, IsBlank, IsSync, MayName, machines_of, needs_down, needs_up}

-- the one that is named, or none
abbrev pub listed : Option Actor → List Actor
listed None = []
listed (Some who) = who ∷ []

-- The machines, the reading and the packet that a line names are those of its event.
pub record Names (seen : Seen) (line : Line) (event : Event) : Type 0 where
  pub machines : machines_of line ≡ listed (events.machine_of event)
  pub reading : reading_of line ≡ events.reading_of event
  pub up_named : (who : Actor) → needs_up line ≡ Some who → (events.machine_of event ≡ Some who) × (events.needs_up (receiver seen) event ≡ Some who)
  pub down_named : (who : Actor) → needs_down line ≡ Some who → (events.machine_of event ≡ Some who) × (events.needs_down event ≡ Some who)
  pub up_of : (who : Actor) → events.needs_up (receiver seen) event ≡ Some who → (needs_up line ≡ Some who) ⊎ IsArrival line
  pub down_of : (who : Actor) → events.needs_down event ≡ Some who → needs_down line ≡ Some who
  pub number_of : (number : ℕ) → events.number_of event ≡ Some number → MayName line number
  pub sync_of : (at : Actor) → event ≡ Sync at → IsSync line
  pub blank_of : (at : Actor) → event ≡ Blank at → IsBlank line

some_is : {A : Type 0} (x y : A) → Some x ≡ Some y → x ≡ y
some_is x y e = cc

call_names : (seen : Seen) (reading node client : ℕ) (datagram : List ℕ) (event : Event) → IsEventOf seen (lines.Call reading node client datagram) event → Names seen (lines.Call reading node client datagram) event
call_names seen reading node client datagram (Call its at from bytes) is =
    let there : at ≡ node = ap (λ (a : Arrival). a.node) (some_is _ _ is.1) in
    let same : its ≡ reading = some_is _ _ is.0 in
    record {
      machines = ap (λ (n : ℕ). Node n ∷ []) (sym there);
      reading = ap (λ (r : ℕ). Some r) (sym same);
      up_named = λ who e. (let n : Some (Node at) ≡ Some who = rw there e in (n, n));
      down_named = λ who e. cc;
      up_of = λ who e. inl (let n : Some (Node node) ≡ Some who = rw there at e in n);
      down_of = λ who e. cc;
      number_of = λ number e. cc;
      sync_of = λ who e. cc;
      blank_of = λ who e. cc;
    }
call_names seen reading node client datagram (Tick its who) is = let e = is.1 in cc
call_names seen reading node client datagram (Deliver its number) is = let e = is.1 in cc
call_names seen reading node client datagram (Sync who) is = let e = is.1 in cc
call_names seen reading node client datagram (Crash who) is = let e = is.1 in cc
call_names seen reading node client datagram (Restart its who) is = let e = is.1 in cc
call_names seen reading node client datagram (Blank who) is = let e = is.1 in cc

pub names : (seen : Seen) (line : Line) (event : Event) → IsEventOf seen line event → Names seen line event
names seen (lines.Call reading node client datagram) event is = call_names seen reading node client datagram event is
names seen (lines.Tick reading machine) event is = subst (Names seen (lines.Tick reading machine)) (sym is) (record {
  machines = refl;
  reading = refl;
  up_named = λ who e. (e, e);
  down_named = λ who e. cc;
  up_of = λ who e. inl e;
  down_of = λ who e. cc;
  number_of = λ number e. cc;
  sync_of = λ who e. cc;
  blank_of = λ who e. cc;
})
names seen (lines.Deliver reading number) event is = subst (Names seen (lines.Deliver reading number)) (sym is) (record {
  machines = refl;
  reading = refl;
  up_named = λ who e. cc;
  down_named = λ who e. cc;
  up_of = λ who e. inr tt;
  down_of = λ who e. cc;
  number_of = λ its e. some_is number its e;
  sync_of = λ who e. cc;
  blank_of = λ who e. cc;
})
names seen (lines.Next reading from to) event is = subst (Names seen (lines.Next reading from to)) (sym is.1) (record {
  machines = refl;
  reading = refl;
  up_named = λ who e. cc;
  down_named = λ who e. cc;
  up_of = λ who e. inr tt;
  down_of = λ who e. cc;
  number_of = λ its e. tt;
  sync_of = λ who e. cc;
  blank_of = λ who e. cc;
})
names seen (lines.Sync machine) event is = subst (Names seen (lines.Sync machine)) (sym is) (record {
  machines = refl;
  reading = refl;
  up_named = λ who e. (e, e);
  down_named = λ who e. cc;
  up_of = λ who e. inl e;
  down_of = λ who e. cc;
  number_of = λ its e. cc;
  sync_of = λ who e. tt;
  blank_of = λ who e. cc;
})
names seen (lines.Crash machine noise) event is = subst (Names seen (lines.Crash machine noise)) (sym is) (record {
  machines = refl;
  reading = refl;
  up_named = λ who e. (e, e);
  down_named = λ who e. cc;
  up_of = λ who e. inl e;
  down_of = λ who e. cc;
  number_of = λ its e. cc;
  sync_of = λ who e. cc;
  blank_of = λ who e. cc;
})
names seen (lines.Restart reading machine) event is = subst (Names seen (lines.Restart reading machine)) (sym is) (record {
  machines = refl;
  reading = refl;
  up_named = λ who e. cc;
  down_named = λ who e. (e, e);
  up_of = λ who e. cc;
  down_of = λ who e. e;
  number_of = λ its e. cc;
  sync_of = λ who e. cc;
  blank_of = λ who e. cc;
})
names seen (lines.Blank machine) event is = subst (Names seen (lines.Blank machine)) (sym is) (record {
  machines = refl;
  reading = refl;
  up_named = λ who e. cc;
  down_named = λ who e. (e, e);
  up_of = λ who e. cc;
  down_of = λ who e. e;
  number_of = λ its e. cc;
  sync_of = λ who e. cc;
  blank_of = λ who e. tt;
})
names seen (lines.Heading volume nodes devices areas) event is = absurd is
names seen (lines.Run reading limit) event is = absurd is
names seen (lines.Hold from to kind) event is = absurd is
names seen (lines.Free from to kind) event is = absurd is
names seen (lines.Drop from to kind) event is = absurd is
names seen (lines.CrashAll noise) event is = absurd is
names seen (lines.RestartAll reading) event is = absurd is
