-- The rack of the tests of stores has room for mirrored devices.
use Rattle.std.proofs.Common.{◌≡◌, ℕ, zero, suc, ◌≤◌, List, [], ◌∷◌, sym, ap, subst, arith}
use Rattle.std.specs.Prelude.{slice_index}
use Rattle.bx_facts.specs.Disks.{HasRoom}
use Rattle.bx_facts.specs.Writes.{Made, store_room}
use Rattle.bx_devices.specs.Machines.{DeviceMachines, needs_of}
use Rattle.bx_devices.specs.Needs.{needs_little, needs_none, needs_of_volume}
use Rattle.bx_tests_stores.specs.Benches.{made}

of_member : (o : DeviceMachines) (disk : ℕ) → o.made ≡ made → needs_of o disk ≤ 17994
of_member o disk is = subst (λ (m : Made). needs_of o disk ≤ store_room m) is (needs_little o disk)

room_each : (o : DeviceMachines) → o.made ≡ made → (disk : ℕ) → needs_of o disk ≤ slice_index (1 ∷ 1 ∷ 1 ∷ 17994 ∷ 17994 ∷ []) disk
room_each o is zero = let e = needs_none o 0 (omega arith) in omega (arith, e)
room_each o is (suc zero) = let e = needs_none o 1 (omega arith) in omega (arith, e)
room_each o is (suc (suc zero)) = let e = needs_none o 2 (omega arith) in omega (arith, e)
room_each o is (suc (suc (suc zero))) = of_member o 3 is
room_each o is (suc (suc (suc (suc zero)))) = of_member o 4 is
room_each o is (suc (suc (suc (suc (suc n))))) =
    let one = ap (λ (m : Made). m.devices) is in
    let e = needs_of_volume o (suc (suc (suc (suc (suc n))))) (omega (arith, one)) in
    omega (arith, e)

pub mirrors_room : (o : DeviceMachines) (all : List ℕ) → o.made ≡ made → all ≡ 1 ∷ 1 ∷ 1 ∷ 17994 ∷ 17994 ∷ [] → HasRoom (needs_of o) all
mirrors_room o all is sizes = record {
  each = λ disk. subst (λ (xs : List ℕ). needs_of o disk ≤ slice_index xs disk) (sym sizes) (room_each o is disk);
}
