-- How many sectors all machines need of disks.
use Rattle.std.specs.Prelude.{◌≡◌, ℕ, zero, suc, ◌+◌, ◌-◌, ◌*◌, ◌<◌, ◌≤◌, Bool, true, false, List, [], ◌∷◌, length, nat_lt, slice_index_or, Option, Some, None, if◌then◌else◌}
use Rattle.std.proofs.Common.{inl, inr, sym, ◌∙◌, ap, subst, arith}
use Rattle.std.proofs.lemmas.Bool.{cases_lt}
use Rattle.std.proofs.lemmas.Bool.Decides.{nat_tests}
use Rattle.bx_facts.specs.Writes.{store_room}
use Rattle.bx_mirror_member.specs.Standing.{MemberView}
use Rattle.bx_devices.specs.Machines.{DeviceMachines, need_in, needs_of, slot_needs, slot_of}

-- nothing stands beyond the end
pub beyond : {A : Type 0} (all : List A) (n : ℕ) (none : A) → length all ≤ n → slice_index_or all n none ≡ none
beyond [] n none far = refl
  where
    refl : none ≡ none
    refl = cc
beyond (one ∷ all) zero none far = absurd (omega (arith, far))
beyond (one ∷ all) (suc n) none far = beyond all n none (omega (arith, far))

-- a member of the volume, and another
pub slot_in : (o : DeviceMachines) (n : ℕ) → n < 2 * o.made.devices → slot_needs o n ≡ need_in (store_room o.made) (slot_of o n)
slot_in o n less =
    let e : nat_lt n (2 * o.made.devices) ≡ true = grind (arith, nat_tests, less) in
    ap (λ (b : Bool). if b then need_in (store_room o.made) (slot_of o n) else 0) e

pub slot_out : (o : DeviceMachines) (n : ℕ) → 2 * o.made.devices ≤ n → slot_needs o n ≡ 0
slot_out o n far =
    let e : nat_lt n (2 * o.made.devices) ≡ false = grind (arith, nat_tests, far) in
    ap (λ (b : Bool). if b then need_in (store_room o.made) (slot_of o n) else 0) e

pub needs_none : (o : DeviceMachines) (disk : ℕ) → disk < 3 → needs_of o disk ≡ 0
needs_none o disk less =
    let e : nat_lt disk 3 ≡ true = grind (arith, nat_tests, less) in
    ap (λ (b : Bool). if b then 0 else slot_needs o (disk - 3)) e

pub needs_behind : (o : DeviceMachines) (disk : ℕ) → 3 ≤ disk → needs_of o disk ≡ slot_needs o (disk - 3)
needs_behind o disk far =
    let e : nat_lt disk 3 ≡ false = grind (arith, nat_tests, far) in
    ap (λ (b : Bool). if b then 0 else slot_needs o (disk - 3)) e

pub needs_here : (o : DeviceMachines) (n : ℕ) → needs_of o (3 + n) ≡ slot_needs o n
needs_here o n = let same : 3 + n - 3 ≡ n = omega arith in needs_behind o (3 + n) (omega arith) ∙ ap (λ (k : ℕ). slot_needs o k) same

need_little : (room : ℕ) (slot : Option MemberView) → need_in room slot ≤ room
need_little room None = omega arith
need_little room (Some m) = omega arith

slot_little : (o : DeviceMachines) (n : ℕ) → slot_needs o n ≤ store_room o.made
slot_little o n = elim (cases_lt n (2 * o.made.devices)) [
  | inl less ↦ subst (λ (k : ℕ). k ≤ store_room o.made) (sym (slot_in o n less)) (need_little (store_room o.made) (slot_of o n))
  | inr far ↦ subst (λ (k : ℕ). k ≤ store_room o.made) (sym (slot_out o n far)) (omega arith)
]

pub needs_little : (o : DeviceMachines) (disk : ℕ) → needs_of o disk ≤ store_room o.made
needs_little o disk = elim (cases_lt disk 3) [
  | inl less ↦ subst (λ (k : ℕ). k ≤ store_room o.made) (sym (needs_none o disk less)) (omega arith)
  | inr far ↦ subst (λ (k : ℕ). k ≤ store_room o.made) (sym (needs_behind o disk far)) (slot_little o (disk - 3))
]

pub needs_of_volume : (o : DeviceMachines) (disk : ℕ) → 3 + 2 * o.made.devices ≤ disk → needs_of o disk ≡ 0
needs_of_volume o disk past = needs_behind o disk (omega (arith, past)) ∙ slot_out o (disk - 3) (omega (arith, past))
