-- What machines are handed, where all fit what was done with them.
use Rattle.std.proofs.Common.{◌≡◌, ◌⊎◌, inl, inr, ℕ, zero, suc, ◌+◌, ◌-◌, ◌*◌, ◌/◌, ◌^◌, ◌<◌, ◌≤◌, max, Bool, true, false, List, [], ◌∷◌, Option, Some, refl, sym, ◌∙◌, ap, subst, arith}
use Rattle.std.specs.Prelude.{length, slice_get, if◌then◌else◌}
use Rattle.std.specs.List.{AllByRecursion}
use Rattle.std.proofs.lemmas.Bool.{cases_lt}
use Rattle.std.proofs.lemmas.Grind.{not_there}
use Rattle.bx_base.specs.declared.names.Actor.{Actor}
use Rattle.bx_base.specs.declared.names.Actor.TheVariants.{Node, Member}
use Rattle.bx_disk.specs.Disks.{Disks}
use Rattle.bx_facts.proofs.Machines.{is_one}
use Rattle.bx_facts.specs.Inputs.{IsComing as Arrives, IsSteady, greatest_with}
use Rattle.bx_facts.specs.Machines.{is_same}
use Rattle.bx_facts.specs.Pasts.{MayTake}
use Rattle.bx_facts.specs.Writes.{StorePast, store_room}
use Rattle.bx_facts.specs.declared.input.Input.{Input}
use Rattle.bx_facts.specs.declared.input.Input.TheVariants.{Packet, Tick, Synced}
use Rattle.bx_global.specs.Allowed.{IsAllowed}
use Rattle.bx_global.specs.declared.state.GlobalState.{GlobalState}
use Rattle.bx_places.specs.Places.{member_sectors}
use Rattle.bx_post.specs.declared.packets.Letter.{Letter}
use Rattle.bx_rows.specs.Conditions.{IsDevice}
use Rattle.bx_rows.specs.declared.device.DeviceRow.{DeviceRow}
use Rattle.bx_mirror_member.specs.Standing.{MemberView}
use Rattle.bx_mirror_cluster.specs.Learning.{MayLearn}
use Rattle.bx_mirror_cluster.specs.MemberSteps.{IsFor, MayServe}
use Rattle.bx_devices.specs.Events.{input_for}
use Rattle.bx_devices.specs.Fitting.{IsFitting, parts_of}
use Rattle.bx_devices.specs.Machines.{DeviceMachines, IsShape, member_of, or_new, slot_of}

-- ---- states

device_of : (rows : List DeviceRow) (d : ℕ) (row : DeviceRow) → AllByRecursion IsDevice rows → slice_get rows d ≡ Some row → IsDevice row
device_of [] d row all at = absurd cc
device_of (one ∷ rows) zero row all at = let e : one ≡ row = cc in subst IsDevice e all.0
device_of (one ∷ rows) (suc d) row all at = device_of rows d row all.1 at

pub few_devices : (known : GlobalState) → ∥ IsAllowed known ∥₁ → length known.devices ≤ 4
few_devices known allowed = elim (cases_lt 4 (length known.devices)) [
  | inl more ↦ absurd (not_there allowed (λ a. let most = a.most_devices in omega (arith, more, most)))
  | inr few ↦ few
]

modes : (known : GlobalState) → ∥ IsAllowed known ∥₁ → (d : ℕ) (row : DeviceRow) → slice_get known.devices d ≡ Some row → row.mode < 5
modes known allowed d row at = elim (cases_lt row.mode 5) [
  | inl less ↦ less
  | inr far ↦ absurd (not_there allowed (λ a. let less = (device_of known.devices d row a.each_device at).mode in omega (arith, less, far)))
]

four : (n : ℕ) → 1 ≤ n → n ≤ 4 → (n ≡ 1) ⊎ ((n ≡ 2) ⊎ ((n ≡ 3) ⊎ (n ≡ 4)))
four n low high = grind (arith, low, high)

pub room_small : (o : DeviceMachines) → IsShape o → store_room o.made < 2 ^ 32
room_small o shape = elim (four o.made.devices shape.least_devices shape.most_devices) [
  | inl e ↦ with_devices 1 e (omega (arith, most))
  | inr rest ↦ elim rest [
    | inl e ↦ with_devices 2 e (omega (arith, most))
    | inr more ↦ elim more [
      | inl e ↦ with_devices 3 e (omega (arith, most))
      | inr e ↦ with_devices 4 e (omega (arith, most))
    ]
  ]
]
  where
    most : o.made.areas ≤ 64
    most = shape.most_areas

    with_devices : (n : ℕ) → o.made.devices ≡ n → 9345 + 8649 * ((o.made.areas + n - 1) / n) < 2 ^ 32 → store_room o.made < 2 ^ 32
    with_devices n e small = subst (λ (k : ℕ). member_sectors k o.made.areas < 2 ^ 32) (sym e) small

-- ---- machines

pub member_there : (o : DeviceMachines) (n : ℕ) (m : MemberView) → slot_of o n ≡ Some m → member_of o n ≡ m
member_there o n m is = ap (λ (slot : Option MemberView). or_new o.made n slot) is

module _ (o : DeviceMachines) (x : Disks) (past : StorePast) (fitting : IsFitting o x past) (known : GlobalState) (input : Input) where
  pub may_serve : ∥ IsAllowed known ∥₁ → (n : ℕ) (m : MemberView) → n < 2 * o.made.devices → slot_of o n ≡ Some m → MayTake past.told known (Member n) input → MayServe (parts_of o) past n known
  may_serve allowed n m less is may =
      let own = fitting.shape.each n m is in
      let e = member_there o n m is in
      record {
        inside = less;
        itself = ap (λ (k : MemberView). k.number) e ∙ own.number;
        made = ap (λ (k : MemberView). k.made) e ∙ own.made_is;
        up = may.up;
        place = may.place;
        rises = may.rises;
        modes = modes known allowed;
        few = fitting.shape.most_devices;
        room = let small = room_small o fitting.shape in omega (arith, small);
        below = subst (λ (k : MemberView). k.place < store_room o.made) (sym e) own.place;
        quiet = subst (λ (k : MemberView). k.due ≡ false → k.owed ≡ []) (sym e) own.quiet;
      }

  pub may_learn : (n : ℕ) → n < o.made.nodes → MayTake past.told known (Node n) input → MayLearn (parts_of o) past n known
  may_learn n less may = record { inside = less; itself = fitting.itself n; up = may.up; place = may.place; rises = may.rises; own_boot = may.own_boot }

-- ---- a packet for another machine says nothing

pub for_arrives : (at : Actor) (letters : List Letter) (input : Input) → Arrives letters input → Arrives letters (input_for at input)
for_arrives at letters (Packet packet reading) comes = by (is_same at packet.now.to)
  where
    by : (b : Bool) → Arrives letters (if b then Packet packet reading else Synced)
    by true = comes
    by false = tt
for_arrives at letters (Tick reading) comes = tt
for_arrives at letters Synced comes = tt

pub for_it : (at : Actor) (input : Input) → IsFor at (input_for at input)
for_it at (Packet packet reading) = by (is_same at packet.now.to) refl
  where
    by : (b : Bool) → is_same at packet.now.to ≡ b → IsFor at (if b then Packet packet reading else Synced)
    by true e = sym (is_one at packet.now.to e)
    by false e = tt
for_it at (Tick reading) = tt
for_it at Synced = tt

pub for_steady : (at : Actor) (greatest : ℕ) (input : Input) → IsSteady greatest input → IsSteady greatest (input_for at input)
for_steady at greatest (Packet packet reading) steady = by (is_same at packet.now.to)
  where
    by : (b : Bool) → IsSteady greatest (if b then Packet packet reading else Synced)
    by true = steady
    by false = tt
for_steady at greatest (Tick reading) steady = steady
for_steady at greatest Synced steady = tt

pub for_rises : (at : Actor) (greatest : ℕ) (input : Input) → greatest_with greatest (input_for at input) ≤ greatest_with greatest input
for_rises at greatest (Packet packet reading) = by (is_same at packet.now.to)
  where
    by : (b : Bool) → greatest_with greatest (if b then Packet packet reading else Synced) ≤ max greatest reading
    by true = omega arith
    by false = omega arith
for_rises at greatest (Tick reading) = omega arith
for_rises at greatest Synced = omega arith
