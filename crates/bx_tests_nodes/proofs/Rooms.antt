-- The disks of the volume have room for a register and a store.
use Rattle.std.proofs.Common.{◌≡◌, ℕ, ◌+◌, ◌*◌, ◌<◌, ◌≤◌, Bool, true, false, List, refl, arith}
use Rattle.std.specs.Prelude.{nat_lt, slice_index}
use Rattle.std.proofs.lemmas.Bool.Decides.{nat_tests}
use Rattle.bx_facts.specs.Disks.{HasRoom}
use Rattle.bx_facts.specs.Writes.{Made, store_room}
use Rattle.bx_places.specs.Places.{member_sectors, replica_sectors}
use Rattle.bx_plain_repair.specs.Bench.{AreLong}

replica_long : (sizes : List ℕ) (disk : ℕ) → AreLong sizes → nat_lt disk 3 ≡ true → replica_sectors ≤ slice_index sizes disk
replica_long sizes disk long is =
    let low : disk < 3 = grind (arith, nat_tests, is) in
    let room = long.long disk (omega (arith, low)) in rw is at room

member_long : (sizes : List ℕ) (disk : ℕ) → AreLong sizes → nat_lt disk 3 ≡ false → disk < 5 → member_sectors 1 1 ≤ slice_index sizes disk
member_long sizes disk long is low = let room = long.long disk low in rw is at room

pub register_room : (needs : ℕ → ℕ) (sizes : List ℕ) → ((disk : ℕ) → needs disk ≤ replica_sectors) → ((disk : ℕ) → 3 ≤ disk → needs disk ≡ 0) → AreLong sizes → HasRoom needs sizes
register_room needs sizes little none long = record { each = λ disk. by disk (nat_lt disk 3) refl }
  where
    by : (disk : ℕ) (b : Bool) → nat_lt disk 3 ≡ b → needs disk ≤ slice_index sizes disk
    by disk true is = let most = little disk in let room = replica_long sizes disk long is in omega (arith, most, room)
    by disk false is = let high : 3 ≤ disk = grind (arith, nat_tests, is) in let zero = none disk high in omega (arith, zero)

pub store_has_room : (needs : ℕ → ℕ) (made : Made) (sizes : List ℕ) → made.devices ≡ 1 → made.areas ≡ 1 → ((disk : ℕ) → needs disk ≤ store_room made) → ((disk : ℕ) → disk < 3 → needs disk ≡ 0)
    → ((disk : ℕ) → 3 + 2 * made.devices ≤ disk → needs disk ≡ 0) → AreLong sizes → HasRoom needs sizes
store_has_room needs made sizes devices areas little none far long = record { each = λ disk. by disk (nat_lt disk 3) (nat_lt disk 5) refl refl }
  where
    by : (disk : ℕ) (low there : Bool) → nat_lt disk 3 ≡ low → nat_lt disk 5 ≡ there → needs disk ≤ slice_index sizes disk
    by disk true there is is_there = let low : disk < 3 = grind (arith, nat_tests, is) in let zero = none disk low in omega (arith, zero)
    by disk false true is is_there =
        let low : disk < 5 = grind (arith, nat_tests, is_there) in
        let most : needs disk ≤ member_sectors 1 1 = rw (devices, areas) at little disk in
        let room = member_long sizes disk long is low in omega (arith, most, room)
    by disk false false is is_there = let high : 5 ≤ disk = grind (arith, nat_tests, is_there) in let zero = far disk (omega (arith, high, devices)) in omega (arith, zero)
