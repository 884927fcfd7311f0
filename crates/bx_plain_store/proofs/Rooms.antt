-- While all members are up, their disks have room for all that is out.
use Rattle.std.proofs.Common.{◌≡◌, ℕ, zero, suc, ◌+◌, ◌-◌, ◌*◌, ◌/◌, ◌<◌, ◌≤◌, Bool, true, false, List, [], ◌∷◌, Contains, length, Option, Some, refl, ◌∙◌, ap, subst, arith, slice_get}
use Rattle.std.specs.Prelude.{slice_index}
use Rattle.bx_records.specs.declared.runs.Run.{Run}
use Rattle.bx_facts.specs.Disks.{HasRoom}
use Rattle.bx_facts.specs.Writes.{Made, store_room}
use Rattle.bx_plain_store.specs.declared.writes.Write.{Write}
use Rattle.bx_plain_store.specs.Out.{IsFitting, at, out_in}
use Rattle.bx_plain_store.specs.declared.inquiries.Inquiry.{Inquiry}
use Rattle.bx_plain_store.specs.Needs.{needs_member}
use Rattle.bx_plain_store.specs.Parts.{IsReadable, IsShape, asked_in}
use Rattle.bx_plain_store.specs.Waiting.{all_up, if_up, needs_of}

up_each : (down : List Bool) (n : ℕ) → n < length down → all_up down ≡ true → slice_get down n ≡ Some false
up_each [] n less up = absurd (omega (arith, less))
up_each (true ∷ down) n less up = absurd cc
up_each (false ∷ down) zero less up = refl
up_each (false ∷ down) (suc n) less up = up_each down n (omega (arith, less)) up

-- a disk that has some sectors is there
pub index_within : (sizes : List ℕ) (disk : ℕ) → 1 ≤ slice_index sizes disk → disk < length sizes
index_within [] disk some = absurd (omega (arith, some))
index_within (size ∷ sizes) zero some = omega arith
index_within (size ∷ sizes) (suc disk) some = let less = index_within sizes disk some in omega (arith, less)

pub some_room : (made : Made) → 1 ≤ store_room made
some_room made = positive ((made.areas + made.devices - 1) / made.devices)
  where
    positive : (n : ℕ) → 1 ≤ 9345 + 8649 * n
    positive n = omega arith

module _ (made : Made) (owns : List (Option ℕ)) (slots : List (Option Write)) (inquiries : List (Option Inquiry)) (down : List Bool) (sizes : List ℕ)
    (shape : IsShape made owns slots inquiries down) (up : all_up down ≡ true) (room : HasRoom (needs_of made down) sizes) where
  room_of : (member : ℕ) → member < 2 * made.devices → store_room made ≤ slice_index sizes (3 + member)
  room_of member less =
      let is_up = up_each down member (omega (arith, less, shape.down_long)) up in
      let all : needs_of made down (3 + member) ≡ store_room made = needs_member made down member ∙ ap (λ (o : Option Bool). if_up o (store_room made)) is_up in
      subst (λ (n : ℕ). n ≤ slice_index sizes (3 + member)) all (room.each (3 + member))

  first_room : (device : ℕ) → device < made.devices → store_room made ≤ slice_index sizes (3 + 2 * device)
  first_room device less = room_of (2 * device) (omega (arith, less))

  second_room : (device : ℕ) → device < made.devices → store_room made ≤ slice_index sizes (4 + 2 * device)
  second_room device less =
      let e : 3 + (2 * device + 1) ≡ 4 + 2 * device = omega arith in
      subst (λ (n : ℕ). store_room made ≤ slice_index sizes n) e (room_of (2 * device + 1) (omega (arith, less)))

  second_there : (device : ℕ) → device < made.devices → 4 + 2 * device < length sizes
  second_there device less = index_within sizes (4 + 2 * device) (let r = second_room device less in let s = some_room made in omega (arith, r, s))

  pub writes_fit : (node : ℕ) (write : Write) (run : Run) → at slots node ≡ Some write → Contains write.runs run → IsFitting made.devices sizes run
  writes_fit node write run is has =
      let fit = shape.runs node _ run (ap out_in is) has in
      record {
        device = fit.device;
        disk = second_there run.device fit.device;
        whole = fit.whole;
        first = (let r = first_room run.device fit.device in let w = fit.within in omega (arith, r, w));
        second = (let r = second_room run.device fit.device in let w = fit.within in omega (arith, r, w));
      }

  pub disks_there : 3 + 2 * made.devices ≤ length sizes
  disks_there =
      let last = second_there (made.devices - 1) (let some = shape.least_devices in omega (arith, some)) in
      let some = shape.least_devices in
      omega (arith, last, some)

  pub reads_fit : (node : ℕ) (inquiry : Inquiry) → at inquiries node ≡ Some inquiry → IsReadable sizes inquiry.ask
  reads_fit node inquiry is =
      let fit = shape.asks node _ (ap asked_in is) in
      record {
        disk = second_there inquiry.ask.device fit.device;
        first = (let r = first_room inquiry.ask.device fit.device in let w = fit.within in omega (arith, r, w));
        second = (let r = second_room inquiry.ask.device fit.device in let w = fit.within in omega (arith, r, w));
      }
