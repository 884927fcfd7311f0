-- The rack of the tests of stores has room for the store.
use Rattle.std.proofs.Common.{◌≡◌, ℕ, zero, suc, ◌+◌, ◌≤◌, Bool, List, [], ◌∷◌, Option, None, sym, ◌∙◌, ap, subst, arith, slice_get}
use Rattle.std.specs.Prelude.{slice_index}
use Rattle.bx_facts.specs.Disks.{HasRoom}
use Rattle.bx_facts.specs.Writes.{Made, store_room}
use Rattle.bx_plain_store.specs.Needs.{needs_little, needs_member, needs_none}
use Rattle.bx_plain_store.specs.Waiting.{if_up, needs_of}
use Rattle.bx_tests_stores.specs.Benches.{made}

room_each : (down : List Bool) → ((member : ℕ) → 2 ≤ member → slice_get down member ≡ None) → (disk : ℕ) → needs_of made down disk ≤ slice_index (1 ∷ 1 ∷ 1 ∷ 17994 ∷ 17994 ∷ []) disk
room_each down none zero = let e = needs_none made down 0 (omega arith) in omega (arith, e)
room_each down none (suc zero) = let e = needs_none made down 1 (omega arith) in omega (arith, e)
room_each down none (suc (suc zero)) = let e = needs_none made down 2 (omega arith) in omega (arith, e)
room_each down none (suc (suc (suc zero))) = needs_little made down 3
room_each down none (suc (suc (suc (suc zero)))) = needs_little made down 4
room_each down none (suc (suc (suc (suc (suc n))))) =
    let there : 3 + (2 + n) ≡ suc (suc (suc (suc (suc n)))) = omega arith in
    let zero_needed : needs_of made down (3 + (2 + n)) ≡ 0 = needs_member made down (2 + n) ∙ ap (λ (o : Option Bool). if_up o (store_room made)) (none (2 + n) (omega arith)) in
    let e = ap (needs_of made down) (sym there) ∙ zero_needed in
    omega (arith, e)

pub bench_room : (m : Made) (down : List Bool) (all : List ℕ) → m ≡ made → all ≡ 1 ∷ 1 ∷ 1 ∷ 17994 ∷ 17994 ∷ [] → ((member : ℕ) → 2 ≤ member → slice_get down member ≡ None) → HasRoom (needs_of m down) all
bench_room m down all same is none = record {
  each = λ disk. subst (λ (xs : List ℕ). needs_of m down disk ≤ slice_index xs disk) (sym is) (subst (λ (w : Made). needs_of w down disk ≤ slice_index (1 ∷ 1 ∷ 1 ∷ 17994 ∷ 17994 ∷ []) disk) (sym same) (room_each down none disk));
}
