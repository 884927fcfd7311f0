-- Whole events: a member learns, and takes what comes.
use Rattle.std.proofs.Common.{◌≡◌, inl, ℕ, ◌+◌, ◌≤◌, Bool, true, false, List, [], Option, Some, None, Result, Ok, Err, IfOk, refl, sym, subst}
use Rattle.std.specs.Prelude.{slice_get, slice_index, if◌then◌else◌}
use Rattle.bx_disk.specs.Disks.{Disks}
use Rattle.bx_disk.specs.declared.rack.Rack as racks
use Rattle.bx_facts.specs.Writes.{Made, store_room}
use Rattle.bx_facts.specs.declared.input.Input.{Input}
use Rattle.bx_facts.specs.declared.input.Input.TheVariants.{Packet, Tick, Synced}
use Rattle.bx_global.specs.declared.change.Change.{Change}
use Rattle.bx_global.specs.declared.state.GlobalState.{GlobalState}
use Rattle.bx_post.specs.declared.packets.Letter.{Letter}
use Rattle.bx_rows.specs.declared.device.DeviceRow.{DeviceRow}
use Rattle.bx_mirror_packets.specs.declared.message.DeviceMessage.{DeviceMessage}
use Rattle.bx_mirror_packets.specs.declared.message.DeviceMessage.TheVariants.{Write, Wrote, Read, Data, Copy, Copied, Alive}
use Rattle.bx_mirror_member.specs.Standing.{MemberView, device_in, disk_in, first_piece, is_news, learned, learned_row, room_in, with_row}
use Rattle.bx_mirror_server.specs.Serving.{BringsOf, BringsOnly, Does, OfInput, SendsAny}
use Rattle.bx_mirror_server.specs.Working.{Works}
use Rattle.bx_mirror_server.proofs.Telling.{input_told}

-- which member it is stays
row_number : (m : MemberView) (row : Option DeviceRow) → (learned_row m row).number ≡ m.number
row_number m None = refl
row_number m (Some row) = by_news (is_news m.row row)
  where
    by_news : (b : Bool) → (if b then with_row m row else m).number ≡ m.number
    by_news true = refl
    by_news false = refl

row_made : (m : MemberView) (row : Option DeviceRow) → (learned_row m row).made ≡ m.made
row_made m None = refl
row_made m (Some row) = by_news (is_news m.row row)
  where
    by_news : (b : Bool) → (if b then with_row m row else m).made ≡ m.made
    by_news true = refl
    by_news false = refl

-- whatever is said of its disk and its room
pub known_same : (known : GlobalState) (m : MemberView) (P : ℕ → ℕ → Type 0) → P (disk_in m) (room_in m) → P (disk_in (learned known m)) (room_in (learned known m))
known_same known m P here =
    subst (λ (number : ℕ). P (3 + number) (room_in (learned known m))) (sym (row_number m (slice_get known.devices (device_in m))))
    (subst (λ (made : Made). P (3 + m.number) (store_room made)) (sym (row_made m (slice_get known.devices (device_in m)))) here)

pub known_before : (known : GlobalState) (m : MemberView) (P : ℕ → ℕ → Type 0) → P (disk_in (learned known m)) (room_in (learned known m)) → P (disk_in m) (room_in m)
known_before known m P there =
    subst (λ (number : ℕ). P (3 + number) (room_in m)) (row_number m (slice_get known.devices (device_in m)))
    (subst (λ (made : Made). P (disk_in (learned known m)) (store_room made)) (row_made m (slice_get known.devices (device_in m))) there)

pub room_then : (known : GlobalState) (m mid : MemberView) (sizes later : List ℕ) → mid ≡ learned known m → later ≡ sizes → room_in m ≤ slice_index sizes (disk_in m) → room_in mid ≤ slice_index later (disk_in mid)
room_then known m mid sizes later learns same room =
    subst (λ (k : MemberView). room_in k ≤ slice_index later (disk_in k)) (sym learns)
    (known_same known m (λ disk sectors. sectors ≤ slice_index later disk) (subst (λ (all : List ℕ). room_in m ≤ slice_index all (disk_in m)) (sym same) room))

pub works_known : {R : Type 0} (rack : racks.Ghosts R) (old new : R) (known : GlobalState) (input : Input) (m mid : MemberView) → mid ≡ learned known m
    → Works rack old new (disk_in mid) (room_in mid) (BringsOnly mid input) → Works rack old new (disk_in m) (room_in m) (BringsOnly (learned known m) input)
works_known rack old new known input m mid learns works =
    known_before known m (λ disk room. Works rack old new disk room (BringsOnly (learned known m) input))
    (subst (λ (k : MemberView). Works rack old new (disk_in k) (room_in k) (BringsOnly k input)) learns works)

-- where a rack told before, it tells
pub does_on : {E : Type 0} (A B : Type 0) (goes : B → A) (known : GlobalState) (input : Input) (m mid new : MemberView) (result : Result (Option Change) E) (before between after : List Letter) (x y z : Disks)
    → mid ≡ learned known m → y ≡ x → SendsAny B (learned known m) (first_piece known m) x before between
    → IfOk result (λ change. OfInput A input mid new change between after y z) → IfOk result (λ change. Does B known input m new change before after x z)
does_on A B goes known input m mid new (Ok change) before between after x y z learns stays begins does = record {
  between = between;
  begins = begins;
  does = subst (λ (k : MemberView). OfInput B input k new change between after x z) learns
      (subst (λ (w : Disks). OfInput B input mid new change between after w z) stays (input_told A B goes mid new between after y z change input does));
}
does_on A B goes known input m mid new (Err e) before between after x y z learns stays begins does = tt

-- ---- what brings nothing

pub message_none : (m : MemberView) (reading : ℕ) (message : DeviceMessage) → BringsOf m reading message []
message_none m reading (Write w) = inl refl
message_none m reading (Wrote w) = refl
message_none m reading (Read r) = refl
message_none m reading (Data d) = refl
message_none m reading (Copy c) = inl refl
message_none m reading (Copied c) = refl
message_none m reading Alive = refl

pub input_none : (m : MemberView) (input : Input) → BringsOnly m input []
input_none m (Packet packet reading) = inl refl
input_none m (Tick reading) = refl
input_none m Synced = refl
