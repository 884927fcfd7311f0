-- What an event meets that isn't refused.
use Rattle.std.proofs.Common.{◌≡◌, ◌≤◌, ◌+◌, ◌/◌, ◌%◌, ◌==◌, ℕ, Bool, true, false, Option, None, Some, IsSomeAnd, refl, ap, subst, arith}
use Rattle.std.specs.Prelude.{not, nat_lt, is_none, slice_get}
use Rattle.std.specs.Bool.{then_some}
use Rattle.std.specs.Option.{option_map, option_or}
use Rattle.std.proofs.lemmas.Bool.Decides.{nat_tests}
use Rattle.bx_base.specs.declared.names.Actor.{Actor}
use Rattle.bx_base.specs.declared.names.Actor.TheVariants.{Node, Replica, Server, Member}
use Rattle.bx_facts.specs.Writes.{IsOnlyOther, IsOnlyOtherRow}
use Rattle.bx_global.specs.declared.state.GlobalState.{GlobalState}
use Rattle.bx_post.specs.Posts.{packet_from}
use Rattle.bx_post.specs.declared.packets.Packet.{Packet}
use Rattle.bx_global.specs.bx_rows.specs.declared.device.DeviceRow.{DeviceRow}
use Rattle.bx_world_events.specs.Causes.{IsThere}
use Rattle.bx_world_events.specs.Events.{machine_of, needs_down, needs_up, reading_of}
use Rattle.bx_world_events.specs.Refusals.{Seen, clock_back, down, goes_to, is_spare, is_there, no_machine, no_packet, nothing_to_sync, receiver, refusal, still_needed, told_of, up, uses_other}
use Rattle.bx_world_events.specs.declared.event.Event.{Event}
use Rattle.bx_world_events.specs.declared.event.Event.TheVariants.{Blank, Deliver}
use Rattle.bx_world_events.specs.declared.event.EventError.{EventError}
use Rattle.bx_world_events.specs.declared.event.EventError.TheVariants.{NoSuchPacket, StillNeeded}

-- no cause stands
pub record Passes (seen : Seen) (event : Event) : Type 0 where
  pub machine : no_machine seen event ≡ None
  pub clock : clock_back seen event ≡ None
  pub packet : no_packet seen event ≡ None
  pub is_up : up seen event ≡ None
  pub is_down : down seen event ≡ None
  pub sync : nothing_to_sync seen event ≡ None
  pub needed : still_needed seen event ≡ None

none_both : {A : Type 0} (one other : Option A) → option_or one other ≡ None → (one ≡ None) × (other ≡ None)
none_both None other is = (refl, is)
none_both (Some x) other is = cc

pub all_pass : (seen : Seen) (event : Event) → refusal seen event ≡ None → Passes seen event
all_pass seen event is =
    let a = none_both (no_machine seen event) _ is in
    let b = none_both (clock_back seen event) _ a.1 in
    let c = none_both (no_packet seen event) _ b.1 in
    let d = none_both (up seen event) _ c.1 in
    let e = none_both (down seen event) _ d.1 in
    let f = none_both (nothing_to_sync seen event) _ e.1 in
    let g = none_both (still_needed seen event) _ f.1 in
    record { machine = a.0; clock = b.0; packet = c.0; is_up = d.0; is_down = e.0; sync = f.0; needed = g.0 }

-- a test that isn't told of fails
fails : (b : Bool) (error : EventError) → then_some b error ≡ None → b ≡ false
fails true error is = cc
fails false error is = refl

turned : (b : Bool) → not b ≡ false → b ≡ true
turned true is = refl
turned false is = cc

untold : {A : Type 0} (test : A → Bool) (error : A → EventError) (named : Option A) (one : A) → told_of test error named ≡ None → named ≡ Some one → test one ≡ false
untold test error None one is named = cc
untold test error (Some other) one is named = let same : other ≡ one = cc in subst (λ x. test x ≡ false) same (fails (test other) (error other) is)

there_is : (seen : Seen) (who : Actor) → is_there seen who ≡ true → IsThere seen who
there_is seen (Node n) is = grind (arith, nat_tests)
there_is seen (Replica n) is = grind (arith, nat_tests)
there_is seen (Server n) is = grind (arith, nat_tests)
there_is seen (Member n) is = grind (arith, nat_tests)

module _ (seen : Seen) (event : Event) (passes : Passes seen event) where
  -- the machine that it names is there
  pub names_one : (who : Actor) → machine_of event ≡ Some who → IsThere seen who
  names_one who is = there_is seen who (turned (is_there seen who) (untold (λ one. not (is_there seen one)) _ (machine_of event) who passes.machine is))

  -- its reading isn't too far back
  pub is_steady : (reading : ℕ) → reading_of event ≡ Some reading → seen.greatest ≤ reading + 500
  is_steady reading is = let late = untold (λ one. nat_lt (one + 500) seen.greatest) _ (reading_of event) reading passes.clock is in grind (arith, nat_tests, late)

  -- the machine that has to be down is; and that which has to be up
  pub sleeps : (who : Actor) → needs_down event ≡ Some who → seen.down who ≡ true
  sleeps who is = turned (seen.down who) (untold (λ one. not (seen.down one)) _ (needs_down event) who passes.is_up is)

  pub is_awake : (who : Actor) → needs_up (receiver seen) event ≡ Some who → seen.down who ≡ false
  is_awake who is = untold (λ one. seen.down one) _ (needs_up (receiver seen) event) who passes.is_down is

-- a packet that arrives is there, and goes to a machine that is up
pub arrives : (seen : Seen) (reading number : ℕ) → Passes seen (Deliver reading number) → IsSomeAnd (packet_from 1 number seen.post) (λ packet. seen.down packet.to ≡ false)
arrives seen reading number passes = by (packet_from 1 number seen.post) refl
  where
    by : (found : Option Packet) → packet_from 1 number seen.post ≡ found → IsSomeAnd found (λ packet. seen.down packet.to ≡ false)
    by None none = absurd (let present = fails (is_none (packet_from 1 number seen.post)) (NoSuchPacket number) passes.packet in let empty = ap is_none none in cc)
    by (Some packet) is = is_awake seen (Deliver reading number) passes packet.to (ap (option_map goes_to) is)

-- ---- whose disk may be replaced

by_row : (second : Bool) (row : Option DeviceRow) → uses_other second row ≡ true → IsOnlyOtherRow row second
by_row second None is = cc
by_row true (Some row) is = grind (arith, nat_tests, is)
by_row false (Some row) is = grind (arith, nat_tests, is)

spare_row : (state : GlobalState) (who : Actor) → is_spare state who ≡ true → (n : ℕ) × (who ≡ Member n) × IsOnlyOther state (n / 2) (n % 2 == 1)
spare_row state (Node n) is = cc
spare_row state (Replica n) is = cc
spare_row state (Server n) is = cc
spare_row state (Member n) is = (n, refl, by_row (n % 2 == 1) (slice_get state.devices (n / 2)) is)

-- it is a member's, whose device needs the other member alone
pub is_replaced : (seen : Seen) (who : Actor) → Passes seen (Blank who) → (n : ℕ) × (who ≡ Member n) × IsOnlyOther seen.most (n / 2) (n % 2 == 1)
is_replaced seen who passes = spare_row seen.most who (turned (is_spare seen.most who) (fails (not (is_spare seen.most who)) StillNeeded passes.needed))
