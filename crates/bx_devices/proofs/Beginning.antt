-- Machines that are made for the states that a cluster begins with.
use Rattle.std.proofs.Common.{◌≡◌, inl, ℕ, zero, suc, ◌<◌, ◌≤◌, Bool, true, false, None, length, replicate, refl, sym, ◌∙◌, ap, subst, arith, slice_get}
use Rattle.bx_facts.specs.Writes.{IsSourceRow, Made}
use Rattle.bx_global.specs.declared.state.GlobalState.{GlobalState}
use Rattle.bx_global.specs.Opening.{first_device, formatted_state, opening_state}
use Rattle.bx_locking.proofs.Openings.{formatted_single, opening_single}
use Rattle.bx_mirror_client.specs.Streams.{Streaming}
use Rattle.bx_devices.specs.Fitting.{own_of}
use Rattle.bx_devices.specs.Machines.{AreMade, DeviceMachines, IsShape, made_of, no_stream}
use Rattle.bx_devices.specs.Meanings.{AreNew, IsFor}
use Rattle.bx_devices.specs.Needs.{beyond}

own_made : (made : Made) (s : GlobalState) (o : DeviceMachines) → AreMade made s o → AreMade (made_of o) s o
own_made made s o are = subst (λ (m : Made). AreMade m s o) (sym are.made_is) are

pub are_new : (made : Made) (s : GlobalState) (o : DeviceMachines) → AreMade made s o → IsShape o → AreNew o
are_new made s o are shape = record { state = s; made = own_made made s o are; shape = shape }

-- behind the last stream there is none
pub none_beyond : (made : Made) (s : GlobalState) (o : DeviceMachines) (node : ℕ) → AreMade made s o → IsShape o → made.nodes ≤ node → own_of o node ≡ None
none_beyond made s o node are shape far = ap (λ (one : Streaming). one.session)
    (beyond o.streams node (no_stream node) (subst (λ (n : ℕ). n ≤ node) (sym (shape.streams ∙ ap (λ (m : Made). m.nodes) are.made_is)) far))

-- both members of a device are read, of which no mode was ever set
first_read : (devices d : ℕ) (second : Bool) → d < length (replicate devices first_device) → IsSourceRow (slice_get (replicate devices first_device) d) second
first_read zero d second less = absurd (omega (arith, less))
first_read (suc n) zero false less = inl refl
first_read (suc n) zero true less = inl refl
first_read (suc n) (suc d) second less = first_read n d second (omega (arith, less))

pub opening_for : (made : Made) (nodes devices : ℕ) (o : DeviceMachines) → AreMade made (opening_state nodes devices) o → IsFor (opening_state nodes devices) o
opening_for made nodes devices o are = record {
  made = own_made made (opening_state nodes devices) o are;
  single = opening_single nodes devices;
  all_read = record { each = first_read devices };
}

pub formatted_for : (made : Made) (devices : ℕ) (o : DeviceMachines) → AreMade made (formatted_state devices) o → IsFor (formatted_state devices) o
formatted_for made devices o are = record {
  made = own_made made (formatted_state devices) o are;
  single = formatted_single devices;
  all_read = record { each = first_read devices };
}
