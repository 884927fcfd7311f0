-- Whose sessions are, by the states of a chain: a session that is a node's by one state is its by each later one in which it lives.
use Rattle.std.proofs.Common.{◌≡◌, ◌⊎◌, ⊎_elim, inl, inr, ℕ, ◌<◌, ◌≤◌, Bool, true, false, List, [], ◌∷◌, Option, Some, None, refl, sym, ◌∙◌, ap, subst, arith}
use Rattle.std.specs.Prelude.{◌==◌, ◌&&◌, find, if◌then◌else◌}
use Rattle.std.specs.List.{AllByRecursion}
use Rattle.std.proofs.lemmas.Bool.Decides.{nat_tests}
use Rattle.bx_locking.specs.bx_facts.specs.Chains.{Chain, IsPlace, LivesIn, last, number_in, session_by}
use Rattle.bx_global.specs.Allowed.{AreRising, IsAllowed}
use Rattle.bx_global.specs.declared.state.GlobalState.{GlobalState}
use Rattle.bx_locking.specs.Owned.{CameOf, IsRowIn}
use Rattle.bx_locking.proofs.Owned.{rows_go}
use Rattle.bx_rows.specs.Rows.{is_of}
use Rattle.bx_rows.specs.Words.{row_in}
use Rattle.bx_rows.specs.declared.session.SessionRow.{SessionRow}
use Rattle.bx_world_chains.specs.Entitled.{AreAllowed}
use Rattle.bx_world_chains.proofs.Chains.{index_most, last_place}
use Rattle.bx_world_chains.proofs.Rows.{lives_of, lives_row}

-- ---- the first row that passes a test

module _ (test : SessionRow → Bool) where
  found_in : (rows : List SessionRow) (row : SessionRow) → find test rows ≡ Some row → IsRowIn rows row × (test row ≡ true)
  found_in [] row is = absurd cc
  found_in (one ∷ rest) row is = by (found_in rest row) (test one) refl is
    where
      by : (find test rest ≡ Some row → IsRowIn rest row × (test row ≡ true)) → (b : Bool) → test one ≡ b → (if b then Some one else find test rest) ≡ Some row → IsRowIn (one ∷ rest) row × (test row ≡ true)
      by later true passes found = let e : one ≡ row = cc in (inl (sym e), ap test (sym e) ∙ passes)
      by later false fails found = let k = later found in (inr k.0, k.1)

  finds_some : (rows : List SessionRow) (row : SessionRow) → IsRowIn rows row → test row ≡ true → (found : SessionRow) × (find test rows ≡ Some found)
  finds_some [] row there passes = absurd there
  finds_some (one ∷ rest) row there passes = by (finds_some rest row) (test one) refl there
    where
      by : (IsRowIn rest row → test row ≡ true → (found : SessionRow) × (find test rest ≡ Some found)) → (b : Bool) → test one ≡ b → IsRowIn (one ∷ rest) row → (found : SessionRow) × (find test (one ∷ rest) ≡ Some found)
      by later true this has = (one, ap (λ (b : Bool). if b then Some one else find test rest) this)
      by later false fails (inl is) = absurd (let wrong : true ≡ false = sym passes ∙ ap test is ∙ fails in cc)
      by later false fails (inr more) = let k = later more passes in (k.0, ap (λ (b : Bool). if b then Some one else find test rest) fails ∙ k.1)

  above : (n : ℕ) (rows : List SessionRow) (row : SessionRow) → AllByRecursion (λ (later : SessionRow). n < later.number) rows → IsRowIn rows row → n < row.number
  above n [] row all has = absurd has
  above n (one ∷ rest) row all (inl is) = let e = ap (λ (x : SessionRow). x.number) is in let l = all.0 in omega (arith, e, l)
  above n (one ∷ rest) row all (inr more) = above n rest row all.1 more

  finds_least : (rows : List SessionRow) (next : ℕ) (found row : SessionRow) → AreRising rows next → find test rows ≡ Some found → IsRowIn rows row → test row ≡ true → found.number ≤ row.number
  finds_least [] next found row rising is there passes = absurd there
  finds_least (one ∷ rest) next found row rising is there passes = by (finds_least rest next found row rising.2) (test one) refl is there
    where
      by : (find test rest ≡ Some found → IsRowIn rest row → test row ≡ true → found.number ≤ row.number) → (b : Bool) → test one ≡ b → (if b then Some one else find test rest) ≡ Some found → IsRowIn (one ∷ rest) row
          → found.number ≤ row.number
      by later true this found_is (inl same) = let e : one ≡ found = cc in let f = ap (λ (x : SessionRow). x.number) e in let h = ap (λ (x : SessionRow). x.number) same in omega (arith, f, h)
      by later true this found_is (inr more) = let e : one ≡ found = cc in let f = ap (λ (x : SessionRow). x.number) e in let h = above one.number rest row rising.1 more in omega (arith, f, h)
      by later false fails found_is (inl same) = absurd (let wrong : true ≡ false = sym passes ∙ ap test same ∙ fails in cc)
      by later false fails found_is (inr more) = later found_is more passes

-- ---- rows by their numbers

abbrev numbered : ℕ → SessionRow → Bool
numbered n row = row.number == n

row_there : (rows : List SessionRow) (n : ℕ) (row : SessionRow) → row_in rows n ≡ Some row → IsRowIn rows row × (row.number ≡ n)
row_there rows n row is = let k = found_in (numbered n) rows row is in let t = k.1 in (k.0, grind (arith, nat_tests, t))

one_row : (rows : List SessionRow) (next : ℕ) (a b : SessionRow) → AreRising rows next → IsRowIn rows a → IsRowIn rows b → a.number ≡ b.number → a ≡ b
one_row [] next a b rising one two same = absurd one
one_row (first ∷ rest) next a b rising (inl one) (inl two) same = one ∙ sym two
one_row (first ∷ rest) next a b rising (inl one) (inr two) same =
    absurd (let l = above (numbered 0) first.number rest b rising.1 two in let e = ap (λ (x : SessionRow). x.number) one in omega (arith, l, e, same))
one_row (first ∷ rest) next a b rising (inr one) (inl two) same =
    absurd (let l = above (numbered 0) first.number rest a rising.1 one in let e = ap (λ (x : SessionRow). x.number) two in omega (arith, l, e, same))
one_row (first ∷ rest) next a b rising (inr one) (inr two) same = one_row rest next a b rising.2 one two same

row_is : (rows : List SessionRow) (next n : ℕ) (row : SessionRow) → AreRising rows next → IsRowIn rows row → row.number ≡ n → row_in rows n ≡ Some row
row_is rows next n row rising there is =
    let t : numbered n row ≡ true = grind (arith, nat_tests, is) in
    let k = finds_some (numbered n) rows row there t in
    let other = row_there rows n k.0 k.1 in
    k.1 ∙ ap (λ (r : SessionRow). Some r) (one_row rows next k.0 row rising other.0 there (other.1 ∙ sym is))

below : (rows : List SessionRow) (next : ℕ) (row : SessionRow) → AreRising rows next → IsRowIn rows row → row.number < next
below [] next row rising there = absurd there
below (one ∷ rest) next row rising (inl is) = let e = ap (λ (x : SessionRow). x.number) is in let l = rising.0 in omega (arith, e, l)
below (one ∷ rest) next row rising (inr more) = below rest next row rising.2 more

-- ---- a node's own session

abbrev is_own : Bool → ℕ → ℕ → SessionRow → Bool
is_own true node boot row = is_of node boot row
is_own false node boot row = row.node == node && row.dead == 0

session_found : (by_boot : Bool) (s : GlobalState) (node boot : ℕ) → session_by by_boot s node boot ≡ number_in (find (is_own by_boot node boot) s.sessions)
session_found true s node boot = refl
session_found false s node boot = refl

two_tests : (a b : Bool) → (a && b) ≡ true → (a ≡ true) × (b ≡ true)
two_tests true true is = (refl, refl)
two_tests true false is = absurd cc
two_tests false b is = absurd cc

own_tells : (by_boot : Bool) (node boot : ℕ) (row : SessionRow) → is_own by_boot node boot row ≡ true → (row.node ≡ node) × (row.dead ≡ 0) × (by_boot ≡ true → row.boot ≡ boot)
own_tells true node boot row is =
    let k = two_tests (row.node == node) (row.boot == boot && row.dead == 0) is in
    let j = two_tests (row.boot == boot) (row.dead == 0) k.1 in
    let a = k.0 in let b = j.0 in let d = j.1 in
    (grind (arith, nat_tests, a), grind (arith, nat_tests, d), λ so. grind (arith, nat_tests, b))
own_tells false node boot row is =
    let k = two_tests (row.node == node) (row.dead == 0) is in let a = k.0 in let d = k.1 in
    (grind (arith, nat_tests, a), grind (arith, nat_tests, d), λ so. absurd cc)

own_so : (by_boot : Bool) (node boot : ℕ) (row : SessionRow) → row.node ≡ node → row.dead ≡ 0 → (by_boot ≡ true → row.boot ≡ boot) → is_own by_boot node boot row ≡ true
own_so true node boot row of lives booted =
    let a : (row.node == node) ≡ true = grind (arith, nat_tests, of) in
    let b : (row.boot == boot) ≡ true = (let e = booted refl in grind (arith, nat_tests, e)) in
    let d : (row.dead == 0) ≡ true = grind (arith, nat_tests, lives) in rw (a, b, d) refl
own_so false node boot row of lives booted =
    let a : (row.node == node) ≡ true = grind (arith, nat_tests, of) in
    let d : (row.dead == 0) ≡ true = grind (arith, nat_tests, lives) in rw (a, d) refl

number_tells : (found : Option SessionRow) (session : ℕ) → number_in found ≡ Some session → (row : SessionRow) × (found ≡ Some row) × (row.number ≡ session)
number_tells None session is = absurd cc
number_tells (Some row) session is = (row, refl, cc)

-- A node's own session has a live row of it.
pub record IsOwnRow (by_boot : Bool) (s : GlobalState) (node boot session : ℕ) : Type 0 where
  pub row : SessionRow
  pub is : row_in s.sessions session ≡ Some row
  pub lives : row.dead ≡ 0
  pub of : row.node ≡ node
  pub booted : by_boot ≡ true → row.boot ≡ boot

pub own_row : (by_boot : Bool) (s : GlobalState) (node boot session : ℕ) → IsAllowed s → session_by by_boot s node boot ≡ Some session → IsOwnRow by_boot s node boot session
own_row by_boot s node boot session allowed is =
    let k = number_tells (find (is_own by_boot node boot) s.sessions) session (sym (session_found by_boot s node boot) ∙ is) in
    let there = found_in (is_own by_boot node boot) s.sessions k.0 k.1 in
    let tells = own_tells by_boot node boot k.0 there.1 in
    record { row = k.0; is = row_is s.sessions s.next_session session k.0 allowed.rising there.0 k.2; lives = tells.1; of = tells.0; booted = tells.2 }

-- A session that is a node's by a state is its by each later one in which it lives.
pub own_stays : (chain : Chain) (by_boot : Bool) (p q : GlobalState) (node boot session : ℕ) → AreAllowed chain → IsPlace chain p → IsPlace chain q → p.index ≤ q.index
    → session_by by_boot p node boot ≡ Some session → LivesIn q session → session_by by_boot q node boot ≡ Some session
own_stays chain by_boot p q node boot session allowed place later order is lives =
    let rows_p = (allowed.each p place).rising in
    let rows_q = (allowed.each q later).rising in
    let own = own_row by_boot p node boot session (allowed.each p place) is in
    let own_there = row_there p.sessions session own.row own.is in
    let now = lives_row q session lives in
    let now_there = row_there q.sessions session now.0 now.1 in
    let came = rows_go chain.first chain.changes p q place later order in
    let low = below p.sessions p.next_session own.row rows_p own_there.0 in
    let was = came.each now.0 now_there.0 (let a = now_there.1 in let b = own_there.1 in omega (arith, low, a, b)) in
    let same_row : was.0 ≡ own.row = one_row p.sessions p.next_session was.0 own.row rows_p was.1 own_there.0 (sym was.2.number ∙ now_there.1 ∙ sym own_there.1) in
    let passes : is_own by_boot node boot now.0 ≡ true = own_so by_boot node boot now.0 (was.2.node ∙ ap (λ (r : SessionRow). r.node) same_row ∙ own.of) now.2 (λ so. was.2.boot ∙ ap (λ (r : SessionRow). r.boot) same_row ∙ own.booted so) in
    let found = finds_some (is_own by_boot node boot) q.sessions now.0 now_there.0 passes in
    let found_there = found_in (is_own by_boot node boot) q.sessions found.0 found.1 in
    let most = finds_least (is_own by_boot node boot) q.sessions q.next_session found.0 now.0 rows_q found.1 now_there.0 passes in
    let before = came.each found.0 found_there.0 (let a = now_there.1 in let b = own_there.1 in omega (arith, low, a, b, most)) in
    let tells = own_tells by_boot node boot found.0 found_there.1 in
    let passed : is_own by_boot node boot before.0 ≡ true = own_so by_boot node boot before.0 (sym before.2.node ∙ tells.0) (before.2.alive tells.1) (λ so. sym before.2.boot ∙ tells.2 so) in
    let first = number_tells (find (is_own by_boot node boot) p.sessions) session (sym (session_found by_boot p node boot) ∙ is) in
    let least = finds_least (is_own by_boot node boot) p.sessions p.next_session first.0 before.0 rows_p first.1 before.1 passed in
    let e : found.0.number ≡ session = (let a = first.2 in let b = before.2.number in let d = now_there.1 in omega (arith, a, b, d, least, most)) in
    session_found by_boot q node boot ∙ ap number_in found.1 ∙ ap (λ (n : ℕ). Some n) e

-- A session that is a node's by a state and lives in the last one is its by each state between.
pub own_kept : (chain : Chain) (by_boot : Bool) (p q : GlobalState) (node boot session : ℕ) → AreAllowed chain → IsPlace chain p → IsPlace chain q → p.index ≤ q.index
    → session_by by_boot p node boot ≡ Some session → LivesIn (last chain) session → session_by by_boot q node boot ≡ Some session
own_kept chain by_boot p q node boot session allowed place later order is lives =
    let ends = last_place chain in
    let own = own_row by_boot p node boot session (allowed.each p place) is in
    let own_there = row_there p.sessions session own.row own.is in
    let low = below p.sessions p.next_session own.row (allowed.each p place).rising own_there.0 in
    let now = lives_row (last chain) session lives in
    let now_there = row_there (last chain).sessions session now.0 now.1 in
    let more = (rows_go chain.first chain.changes p q place later order).next in
    let was = (rows_go chain.first chain.changes q (last chain) later ends (index_most chain q later)).each now.0 now_there.0 (let a = now_there.1 in let b = own_there.1 in omega (arith, low, a, b, more)) in
    let found = row_is q.sessions q.next_session session was.0 (allowed.each q later).rising was.1 (sym was.2.number ∙ now_there.1) in
    own_stays chain by_boot p q node boot session allowed place later order is (lives_of q session was.0 found (was.2.alive now.2))

-- A session is one node's, by whatever states.
module _ (chain : Chain) (by_boot : Bool) (allowed : AreAllowed chain) where
  same_later : (p q : GlobalState) (node other boot boot_too session : ℕ) → IsPlace chain p → IsPlace chain q → p.index ≤ q.index → session_by by_boot p node boot ≡ Some session → session_by by_boot q other boot_too ≡ Some session → other ≡ node
  same_later p q node other boot boot_too session place later order is is_too =
      let one = own_row by_boot p node boot session (allowed.each p place) is in
      let two = own_row by_boot q other boot_too session (allowed.each q later) is_too in
      let one_there = row_there p.sessions session one.row one.is in
      let two_there = row_there q.sessions session two.row two.is in
      let rising = (allowed.each p place).rising in
      let low = below p.sessions p.next_session one.row rising one_there.0 in
      let was = (rows_go chain.first chain.changes p q place later order).each two.row two_there.0 (let a = one_there.1 in let b = two_there.1 in omega (arith, low, a, b)) in
      let e : was.0 ≡ one.row = one_row p.sessions p.next_session was.0 one.row rising was.1 one_there.0 (sym was.2.number ∙ two_there.1 ∙ sym one_there.1) in
      sym two.of ∙ was.2.node ∙ ap (λ (r : SessionRow). r.node) e ∙ one.of

  pub same_owner : (p q : GlobalState) (node other boot boot_too session : ℕ) → IsPlace chain p → IsPlace chain q → session_by by_boot p node boot ≡ Some session → session_by by_boot q other boot_too ≡ Some session → other ≡ node
  same_owner p q node other boot boot_too session place later is is_too = ⊎_elim
      (λ order. same_later p q node other boot boot_too session place later order is is_too)
      (λ order. sym (same_later q p other node boot_too boot session later place order is_too is))
      (either p.index q.index)
    where
      either : (a b : ℕ) → (a ≤ b) ⊎ (b ≤ a)
      either a b = grind arith
