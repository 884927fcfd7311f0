-- What is needed of disks.
use Rattle.std.proofs.Common.{◌≡◌, ℕ, ◌+◌, ◌-◌, ◌*◌, ◌<◌, ◌≤◌, length, Bool, true, false, List, Option, Some, None, refl, sym, ◌∙◌, ap, subst, arith, slice_get}
use Rattle.std.specs.Prelude.{nat_lt, if◌then◌else◌}
use Rattle.std.proofs.lemmas.Bool.Decides.{nat_tests}
use Rattle.std.proofs.lemmas.Option.{slice_get_past}
use Rattle.bx_facts.specs.Writes.{Made, store_room}
use Rattle.bx_plain_store.specs.Waiting.{if_up, needs_of}

-- the disks of replicas aren't needed
pub needs_none : (made : Made) (down : List Bool) (disk : ℕ) → disk < 3 → needs_of made down disk ≡ 0
needs_none made down disk less =
    let e : nat_lt disk 3 ≡ true = grind (arith, nat_tests, less) in
    ap (λ (b : Bool). if b then 0 else if_up (slice_get down (disk - 3)) (store_room made)) e

-- a member's disk is needed while it is up
pub needs_member : (made : Made) (down : List Bool) (member : ℕ) → needs_of made down (3 + member) ≡ if_up (slice_get down member) (store_room made)
needs_member made down member =
    let e : nat_lt (3 + member) 3 ≡ false = grind (arith, nat_tests) in
    let same : 3 + member - 3 ≡ member = omega arith in
    ap (λ (b : Bool). if b then 0 else if_up (slice_get down (3 + member - 3)) (store_room made)) e ∙ ap (λ (n : ℕ). if_up (slice_get down n) (store_room made)) same

up_little : (o : Option Bool) (sectors : ℕ) → if_up o sectors ≤ sectors
up_little None sectors = omega arith
up_little (Some true) sectors = omega arith
up_little (Some false) sectors = omega arith

-- and where there is one
pub needs_of_volume : (made : Made) (down : List Bool) (disk : ℕ) → length down ≡ 2 * made.devices → 3 + 2 * made.devices ≤ disk → needs_of made down disk ≡ 0
needs_of_volume made down disk long past =
    let far : 3 ≤ disk = omega (arith, past) in
    let e : nat_lt disk 3 ≡ false = grind (arith, nat_tests, far) in
    let none : slice_get down (disk - 3) ≡ None = slice_get_past down (disk - 3) (omega (arith, past, long)) in
    ap (λ (b : Bool). if b then 0 else if_up (slice_get down (disk - 3)) (store_room made)) e ∙ ap (λ (o : Option Bool). if_up o (store_room made)) none

-- no more than all of them
pub needs_little : (made : Made) (down : List Bool) (disk : ℕ) → needs_of made down disk ≤ store_room made
needs_little made down disk = by_test (nat_lt disk 3) refl
  where
    by_test : (b : Bool) → nat_lt disk 3 ≡ b → needs_of made down disk ≤ store_room made
    by_test true is = subst (λ (n : ℕ). n ≤ store_room made) (sym (ap (λ (b : Bool). if b then 0 else if_up (slice_get down (disk - 3)) (store_room made)) is)) (omega arith)
    by_test false is = subst (λ (n : ℕ). n ≤ store_room made) (sym (ap (λ (b : Bool). if b then 0 else if_up (slice_get down (disk - 3)) (store_room made)) is)) (up_little (slice_get down (disk - 3)) (store_room made))
