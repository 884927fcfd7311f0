-- The state that the one-machine forms are made with is one that they may be made with.
use Rattle.std.proofs.Common.{◌≡◌, ◌≢◌, ℕ, zero, suc, ◌+◌, ◌<◌, ◌≤◌, ◌==◌, ◌&&◌, Bool, true, false, List, [], ◌∷◌, ◌++◌, Some, None, length, refl, sym, ap, ◌∙◌, arith, ne_eqb, length-append, slice_get}
use Rattle.std.specs.Prelude.{IfSome, find, if◌then◌else◌, nat_lt, replicate}
use Rattle.std.specs.List.{AllByRecursion}
use Rattle.std.proofs.lemmas.Bool.Decides.{nat_tests}
use Rattle.bx_global.specs.Allowed.{IsAllowed}
use Rattle.bx_global.specs.Opening.{first_device}
use Rattle.bx_global.proofs.Begins.{opening_allowed}
use Rattle.bx_global.proofs.Kept.{all-push, all_is, rising-push, slots-push}
use Rattle.bx_rows.specs.Conditions.{AreRising, HaveOwnSlots, IsSession}
use Rattle.bx_rows.specs.Words.{is_taken, row_in}
use Rattle.bx_rows.specs.declared.session.SessionRow.{SessionRow}
use Rattle.bx_facts.specs.Chains.{IsAboveBoots, any_session_of, number_in}
use Rattle.bx_plain.specs.Begin.{plain_row, plain_rows, plain_state}
use Rattle.bx_plain.specs.Fits.{IsPlainState, own_in}

free_above : (rows : List SessionRow) (n : ℕ) → AllByRecursion (λ row. row.slot < n) rows → is_taken rows n ≡ false
free_above [] n a = refl
free_above (row ∷ rows) n a = rw (ne_eqb row.slot n (λ e. omega (arith, e, a.0))) (free_above rows n a.1)

slots_below : (n : ℕ) → AllByRecursion (λ row. row.slot < n) (plain_rows n)
slots_below zero = tt
slots_below (suc n) =
    all-push (λ row. row.slot < suc n) (plain_rows n) (plain_row n) (all_is (λ row. row.slot < n) (λ row. row.slot < suc n) (λ row lt. omega (arith, lt)) (plain_rows n) (slots_below n)) (omega arith)

sessions_are : (n : ℕ) → n ≤ 4 → AllByRecursion (IsSession 4294967295999) (plain_rows n)
sessions_are zero few = tt
sessions_are (suc n) few =
    all-push (IsSession 4294967295999) (plain_rows n) (plain_row n) (sessions_are n (omega (arith, few)))
    (record { number = omega (arith, few); node = omega (arith, few); boot = omega arith; slot = omega (arith, few); until = omega arith; dead = omega arith; by = omega arith })

numbers_rise : (n next : ℕ) → next ≡ n + 1 → AreRising (plain_rows n) next
numbers_rise zero next is = tt
numbers_rise (suc n) next is =
    let so : next ≡ n + 1 + 1 = omega (arith, is) in
    rw so (rising-push (plain_rows n) (plain_row n) (n + 1) refl (numbers_rise n (n + 1) refl))

own_slots : (n : ℕ) → HaveOwnSlots (plain_rows n)
own_slots zero = tt
own_slots (suc n) = slots-push (plain_rows n) (plain_row n) (free_above (plain_rows n) n (slots_below n)) (own_slots n)

many_rows : (n : ℕ) → length (plain_rows n) ≡ n
many_rows zero = refl
many_rows (suc n) = omega (arith, length-append (plain_rows n) (plain_row n ∷ []), many_rows n)

pub plain_allowed : (nodes devices : ℕ) → nodes ≤ 4 → 1 ≤ devices → devices ≤ 4 → IsAllowed (plain_state nodes devices)
plain_allowed nodes devices few least most =
    let first = opening_allowed nodes devices few least most in
    record {
      index = first.index;
      master = first.master;
      master_boot = first.master_boot;
      term = first.term;
      term_end = omega arith;
      next_session = first.next_session;
      session_count = omega (arith, many_rows nodes, few);
      each_session = sessions_are nodes few;
      rising = numbers_rise nodes (nodes + 1) refl;
      own_slots = own_slots nodes;
      least_devices = first.least_devices;
      most_devices = first.most_devices;
      each_device = first.each_device;
    }

-- ---- what is found among rows

pub found_has : (P : SessionRow → Type 0) (test : SessionRow → Bool) (rows : List SessionRow) → AllByRecursion P rows → IfSome (find test rows) P
found_has P test [] all = tt
found_has P test (row ∷ rows) all = by_test (test row) refl (found_has P test rows all.1)
  where
    by_test : (t : Bool) → test row ≡ t → IfSome (find test rows) P → IfSome (find test (row ∷ rows)) P
    by_test true is more = rw is all.0
    by_test false is more = rw is more

find_behind : (test : SessionRow → Bool) (rows : List SessionRow) (row : SessionRow) → find test rows ≡ None → find test (rows ++ row ∷ []) ≡ find test (row ∷ [])
find_behind test [] row none = refl
find_behind test (one ∷ rows) row none = by_test (test one) refl (find_behind test rows row)
  where
    by_test : (t : Bool) → test one ≡ t → (find test rows ≡ None → find test (rows ++ row ∷ []) ≡ find test (row ∷ [])) → find test (one ∷ rows ++ row ∷ []) ≡ find test (row ∷ [])
    by_test true is more = let wrong = rw is at none in absurd cc
    by_test false is more = let here = rw is at none in rw is (more here)

find_front : (test : SessionRow → Bool) (rows others : List SessionRow) (found : SessionRow) → find test rows ≡ Some found → find test (rows ++ others) ≡ Some found
find_front test [] others found is = absurd cc
find_front test (one ∷ rows) others found is = by_test (test one) refl (find_front test rows others found)
  where
    by_test : (t : Bool) → test one ≡ t → (find test rows ≡ Some found → find test (rows ++ others) ≡ Some found) → find test (one ∷ rows ++ others) ≡ Some found
    by_test true hit more = let here = rw hit at is in rw hit here
    by_test false none more = let here = rw none at is in rw none (more here)

-- what is looked for by a node's number, or by its session's
module _ (test : SessionRow → Bool) (node : ℕ) (hits : test (plain_row node) ≡ true) (misses : (other : ℕ) → other ≢ node → test (plain_row other) ≡ false) where
  pub not_there : (n : ℕ) → n ≤ node → find test (plain_rows n) ≡ None
  not_there zero few = refl
  not_there (suc n) few =
      let other : n ≢ node = λ e. omega (arith, e, few) in
      find_behind test (plain_rows n) (plain_row n) (not_there n (omega (arith, few))) ∙ ap (λ t. if t then Some (plain_row n) else None) (misses n other)

  pub is_there : (n : ℕ) → node < n → find test (plain_rows n) ≡ Some (plain_row node)
  is_there zero less = absurd (omega (arith, less))
  is_there (suc n) less = by_test (n == node) refl (is_there n)
    where
      by_test : (t : Bool) → (n == node) ≡ t → (node < n → find test (plain_rows n) ≡ Some (plain_row node)) → find test (plain_rows n ++ plain_row n ∷ []) ≡ Some (plain_row node)
      by_test true is more =
          let same : n ≡ node = grind (arith, nat_tests, is) in
          let last = find_behind test (plain_rows n) (plain_row n) (not_there n (omega (arith, same))) in
          let hit = ap (λ k. test (plain_row k)) same ∙ hits in
          last ∙ ap (λ t. if t then Some (plain_row n) else None) hit ∙ ap (λ k. Some (plain_row k)) same
      by_test false is more =
          let before : node < n = grind (arith, nat_tests, is, less) in
          find_front test (plain_rows n) (plain_row n ∷ []) (plain_row node) (more before)

session_row : (nodes node : ℕ) → node < nodes → row_in (plain_rows nodes) (node + 1) ≡ Some (plain_row node)
session_row nodes node less = is_there (λ row. row.number == node + 1) node (grind (arith, nat_tests)) (λ other apart. grind (arith, nat_tests, apart)) nodes less

pub dead_none : (n : ℕ) → AllByRecursion (λ row. row.dead ≡ 0) (plain_rows n)
dead_none zero = tt
dead_none (suc n) = all-push (λ row. row.dead ≡ 0) (plain_rows n) (plain_row n) (dead_none n) refl

ends_known : (n : ℕ) → AllByRecursion (λ row. row.until ≤ 4294967295999) (plain_rows n)
ends_known zero = tt
ends_known (suc n) = all-push (λ row. row.until ≤ 4294967295999) (plain_rows n) (plain_row n) (ends_known n) (omega arith)

boots_none : (n : ℕ) → AllByRecursion (λ row. row.boot < 1) (plain_rows n)
boots_none zero = tt
boots_none (suc n) = all-push (λ row. row.boot < 1) (plain_rows n) (plain_row n) (boots_none n) (omega arith)

found_session : (nodes devices node : ℕ) → any_session_of (plain_state nodes devices) node ≡ own_in nodes node
found_session nodes devices node = by_test (nat_lt node nodes) refl
  where
    test : SessionRow → Bool
    test row = row.node == node && row.dead == 0

    by_test : (t : Bool) → nat_lt node nodes ≡ t → any_session_of (plain_state nodes devices) node ≡ own_in nodes node
    by_test true is =
        let less : node < nodes = grind (arith, nat_tests, is) in
        ap number_in (is_there (λ row. row.node == node && row.dead == 0) node (grind (arith, nat_tests)) (λ other apart. grind (arith, nat_tests, apart)) nodes less)
        ∙ sym (ap (λ t. if t then Some (node + 1) else None) is)
    by_test false is =
        let past : nodes ≤ node = grind (arith, nat_tests, is) in
        ap number_in (not_there (λ row. row.node == node && row.dead == 0) node (grind (arith, nat_tests)) (λ other apart. grind (arith, nat_tests, apart)) nodes past)
        ∙ sym (ap (λ t. if t then Some (node + 1) else None) is)

pub plain_is : (nodes devices : ℕ) → IsPlainState nodes (plain_state nodes devices)
plain_is nodes devices = record {
  sessions = λ node less. rw (session_row nodes node less) (refl, refl);
  alive = λ session. found_has (λ row. row.dead ≡ 0) (λ row. row.number == session) (plain_rows nodes) (dead_none nodes);
  ends = λ session. found_has (λ row. row.until ≤ 4294967295999) (λ row. row.number == session) (plain_rows nodes) (ends_known nodes);
  below = omega arith;
  found = λ node. found_session nodes devices node;
}

first_boots : (devices device : ℕ) → IfSome (slice_get (replicate devices first_device) device) (λ row. (row.boot_a < 1) × (row.boot_b < 1))
first_boots zero device = tt
first_boots (suc n) zero = (omega arith, omega arith)
first_boots (suc n) (suc device) = first_boots n device

pub plain_boots : (nodes devices : ℕ) → IsAboveBoots (plain_state nodes devices) 1
plain_boots nodes devices = record {
  master = omega arith;
  sessions = λ session. found_has (λ row. row.boot < 1) (λ row. row.number == session) (plain_rows nodes) (boots_none nodes);
  devices = λ device. first_boots devices device;
}
