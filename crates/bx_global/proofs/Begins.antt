-- The states to begin with meet the conditions.
use Rattle.std.proofs.Common.{◌≡◌, ℕ, zero, suc, ◌+◌, ◌<◌, ◌≤◌, false, List, [], ◌∷◌, length, refl, arith, ne_eqb, length-append}
use Rattle.std.specs.Prelude.{replicate}
use Rattle.std.specs.List.{AllByRecursion}
use Rattle.bx_rows.specs.declared.session.SessionRow.{SessionRow}
use Rattle.bx_global.specs.Allowed.{IsAllowed}
use Rattle.bx_rows.specs.Conditions.{AreRising, HaveOwnSlots, IsSession, IsDevice}
use Rattle.bx_global.specs.Opening.{first_device, formatted_state, node_row, node_rows, opening_state}
use Rattle.bx_rows.specs.Words.{is_taken}
use Rattle.bx_global.proofs.Kept.{all-push, all_is, rising-push, slots-push}

-- a slot above all that are taken is free
free_above : (rows : List SessionRow) (n : ℕ) → AllByRecursion (λ row. row.slot < n) rows → is_taken rows n ≡ false
free_above [] n a = refl
free_above (row ∷ rows) n a = rw (ne_eqb row.slot n (λ e. omega (arith, e, a.0))) (free_above rows n a.1)

slots_below : (n : ℕ) → AllByRecursion (λ row. row.slot < n) (node_rows n)
slots_below zero = tt
slots_below (suc n) =
    all-push (λ row. row.slot < suc n) (node_rows n) (node_row n) (all_is (λ row. row.slot < n) (λ row. row.slot < suc n) (λ row lt. omega (arith, lt)) (node_rows n) (slots_below n)) (omega arith)

first_sessions_are : (n : ℕ) → n ≤ 4 → AllByRecursion (IsSession 8000) (node_rows n)
first_sessions_are zero few = tt
first_sessions_are (suc n) few =
    all-push (IsSession 8000) (node_rows n) (node_row n) (first_sessions_are n (omega (arith, few)))
    (record { number = omega (arith, few); node = omega (arith, few); boot = omega arith; slot = omega (arith, few); until = omega arith; dead = omega arith; by = omega arith })

first_numbers_rise : (n next : ℕ) → next ≡ n + 1 → AreRising (node_rows n) next
first_numbers_rise zero next is = tt
first_numbers_rise (suc n) next is =
    let so : next ≡ n + 1 + 1 = omega (arith, is) in
    rw so (rising-push (node_rows n) (node_row n) (n + 1) refl (first_numbers_rise n (n + 1) refl))

first_slots : (n : ℕ) → HaveOwnSlots (node_rows n)
first_slots zero = tt
first_slots (suc n) = slots-push (node_rows n) (node_row n) (free_above (node_rows n) n (slots_below n)) (first_slots n)

many_rows : (n : ℕ) → length (node_rows n) ≡ n
many_rows zero = refl
many_rows (suc n) = omega (arith, length-append (node_rows n) (node_row n ∷ []), many_rows n)

first_devices_are : (n : ℕ) → AllByRecursion IsDevice (replicate n first_device)
first_devices_are zero = tt
first_devices_are (suc n) = (record { mode = omega arith; epoch = omega arith; boot_a = omega arith; boot_b = omega arith }, first_devices_are n)

many_devices : (n : ℕ) → length (replicate n first_device) ≡ n
many_devices zero = refl
many_devices (suc n) = omega (arith, many_devices n)

pub opening_allowed : (nodes devices : ℕ) → nodes ≤ 4 → 1 ≤ devices → devices ≤ 4 → IsAllowed (opening_state nodes devices)
opening_allowed nodes devices few least most = record {
  index = omega arith;
  master = omega arith;
  master_boot = omega arith;
  term = omega arith;
  term_end = omega arith;
  next_session = omega (arith, few);
  session_count = omega (arith, many_rows nodes, few);
  each_session = first_sessions_are nodes few;
  rising = first_numbers_rise nodes (nodes + 1) refl;
  own_slots = first_slots nodes;
  least_devices = omega (arith, many_devices devices, least);
  most_devices = omega (arith, many_devices devices, most);
  each_device = first_devices_are devices;
}

pub formatted_allowed : (devices : ℕ) → 1 ≤ devices → devices ≤ 4 → IsAllowed (formatted_state devices)
formatted_allowed devices least most = record {
  index = omega arith;
  master = omega arith;
  master_boot = omega arith;
  term = omega arith;
  term_end = omega arith;
  next_session = omega arith;
  session_count = omega arith;
  each_session = tt;
  rising = tt;
  own_slots = tt;
  least_devices = omega (arith, many_devices devices, least);
  most_devices = omega (arith, many_devices devices, most);
  each_device = first_devices_are devices;
}
