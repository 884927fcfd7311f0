-- Where a session's account stands, and what is put there.
use Rattle.std.proofs.Common.{◌≡◌, ℕ, ◌≤◌, ltb, ◌==◌, true, false, List, [], ◌∷◌, length, slice_set, refl, sym, ap, subst, ◌∙◌, arith}
use Rattle.std.specs.Prelude.{insert, nat_eq, slice_get, slice_index_or}
use Rattle.indexmap.specs.IndexMap.{insert_entry}
use Rattle.bx_lock_tables.specs.Accounts.{Opens, account_for, fresh, is_of, listed, marked, noting, place, with_account}
use Rattle.bx_lock_tables.specs.declared.accounts.Account.{Account}
use Rattle.bx_lock_tables.specs.declared.rows.Row.{Row}

less_tests : (m n : ℕ) → ltb m n ≡ true → ((m == n) ≡ false) × (ltb n m ≡ false)
less_tests m n t = (grind arith, grind arith)

above_test : (m n : ℕ) → ltb m n ≡ false → (m == n) ≡ false → ltb n m ≡ true
above_test m n t e = grind arith

-- the same of an account of the session
below_tests : (x a : Account) (s : ℕ) → a.session ≡ s → ltb x.session s ≡ true → ((x.session == a.session) ≡ false) × (ltb a.session x.session ≡ false)
below_tests x a s same t = less_tests x.session a.session (subst (λ (n : ℕ). ltb x.session n ≡ true) (sym same) t)

pub place_within : (xs : List Account) (s : ℕ) → place xs s ≤ length xs
place_within [] s = omega arith
place_within (x ∷ xs) s = (elim (ltb x.session s) as (λ b. ltb x.session s ≡ b → place (x ∷ xs) s ≤ length (x ∷ xs)) [
  | true ↦ λ t. rw t (omega (arith, place_within xs s))
  | false ↦ λ t. rw t (omega arith)
]) refl

own_session : (xs : List Account) (s : ℕ) → (account_for xs s).session ≡ s
own_session [] s = refl
own_session (x ∷ xs) s = grind (arith, own_session xs s)

-- ---- the account is there

get_there : (xs : List Account) (s : ℕ) (d : Account) → is_of (slice_get xs (place xs s)) s ≡ true → slice_index_or xs (place xs s) d ≡ account_for xs s
get_there [] s d e = absurd cc
get_there (x ∷ xs) s d e = (elim (ltb x.session s) as (λ b. ltb x.session s ≡ b → slice_index_or (x ∷ xs) (place (x ∷ xs) s) d ≡ account_for (x ∷ xs) s) [
  | true ↦ λ t.
      let f = less_tests x.session s t in
      let there : is_of (slice_get xs (place xs s)) s ≡ true = rw t at e in
      rw (t, f.0, f.1) (get_there xs s d there)
  | false ↦ λ t.
      let here : (x.session == s) ≡ true = rw t at e in
      rw (t, here) refl
]) refl

set_there : (xs : List Account) (s : ℕ) (a : Account) → is_of (slice_get xs (place xs s)) s ≡ true → a.session ≡ s → slice_set xs (place xs s) a ≡ with_account xs a
set_there [] s a e same = absurd cc
set_there (x ∷ xs) s a e same = (elim (ltb x.session s) as (λ b. ltb x.session s ≡ b → slice_set (x ∷ xs) (place (x ∷ xs) s) a ≡ with_account (x ∷ xs) a) [
  | true ↦ λ t.
      let f = below_tests x a s same t in
      let there : is_of (slice_get xs (place xs s)) s ≡ true = rw t at e in
      rw (t, f.0, f.1) (ap (λ (l : List Account). x ∷ l) (set_there xs s a there same))
  | false ↦ λ t.
      let here : (x.session == s) ≡ true = rw t at e in
      let own : (x.session == a.session) ≡ true = subst (λ (n : ℕ). (x.session == n) ≡ true) (sym same) here in
      rw (t, own) refl
]) refl

pub opens_there : (xs : List Account) (s at : ℕ) → at ≡ place xs s → is_of (slice_get xs at) s ≡ true → Opens xs s at xs
opens_there xs s at is e =
    subst (λ (n : ℕ). Opens xs s n xs) (sym is)
    (let there : is_of (slice_get xs (place xs s)) s ≡ true = subst (λ (n : ℕ). is_of (slice_get xs n) s ≡ true) is e in
    record { here = λ d. get_there xs s d there; puts = λ a same. set_there xs s a there same })

-- ---- there is none yet

get_new : (xs : List Account) (s : ℕ) (d : Account) → is_of (slice_get xs (place xs s)) s ≡ false → slice_index_or (insert xs (place xs s) (fresh s)) (place xs s) d ≡ account_for xs s
get_new [] s d e = refl
get_new (x ∷ xs) s d e = (elim (ltb x.session s) as (λ b. ltb x.session s ≡ b → slice_index_or (insert (x ∷ xs) (place (x ∷ xs) s) (fresh s)) (place (x ∷ xs) s) d ≡ account_for (x ∷ xs) s) [
  | true ↦ λ t.
      let f = less_tests x.session s t in
      let absent : is_of (slice_get xs (place xs s)) s ≡ false = rw t at e in
      rw (t, f.0, f.1) (get_new xs s d absent)
  | false ↦ λ t.
      let other : (x.session == s) ≡ false = rw t at e in
      rw (t, other, above_test x.session s t other) refl
]) refl

set_new : (xs : List Account) (s : ℕ) (a : Account) → is_of (slice_get xs (place xs s)) s ≡ false → a.session ≡ s → slice_set (insert xs (place xs s) (fresh s)) (place xs s) a ≡ with_account xs a
set_new [] s a e same = refl
set_new (x ∷ xs) s a e same = (elim (ltb x.session s) as (λ b. ltb x.session s ≡ b → slice_set (insert (x ∷ xs) (place (x ∷ xs) s) (fresh s)) (place (x ∷ xs) s) a ≡ with_account (x ∷ xs) a) [
  | true ↦ λ t.
      let f = below_tests x a s same t in
      let absent : is_of (slice_get xs (place xs s)) s ≡ false = rw t at e in
      rw (t, f.0, f.1) (ap (λ (l : List Account). x ∷ l) (set_new xs s a absent same))
  | false ↦ λ t.
      let other : (x.session == s) ≡ false = rw t at e in
      let own : (x.session == a.session) ≡ false = subst (λ (n : ℕ). (x.session == n) ≡ false) (sym same) other in
      let above : ltb a.session x.session ≡ true = subst (λ (n : ℕ). ltb n x.session ≡ true) (sym same) (above_test x.session s t other) in
      rw (t, own, above) refl
]) refl

pub opens_new : (xs new : List Account) (s at : ℕ) → at ≡ place xs s → is_of (slice_get xs at) s ≡ false → new ≡ insert xs at (fresh s) → Opens xs s at new
opens_new xs new s at is e made =
    let absent : is_of (slice_get xs (place xs s)) s ≡ false = subst (λ (n : ℕ). is_of (slice_get xs n) s ≡ false) is e in
    let opens : Opens xs s (place xs s) (insert xs (place xs s) (fresh s)) = record { here = λ d. get_new xs s d absent; puts = λ a same. set_new xs s a absent same } in
    let moved : Opens xs s at (insert xs at (fresh s)) = subst (λ (n : ℕ). Opens xs s n (insert xs n (fresh s))) (sym is) opens in
    subst (Opens xs s at) (sym made) moved

-- ---- what is put into it

pub end_put : (old new : List Account) (s at end : ℕ) (a : Account) → Opens old s at new → a ≡ account_for old s → slice_set new at (record a { noted = end }) ≡ noting s end old
end_put old new s at end a opens is = opens.puts (record a { noted = end }) (ap (λ (x : Account). x.session) is ∙ own_session old s) ∙ ap (λ (x : Account). with_account old (record x { noted = end })) is

pub mark_put : (old new : List Account) (s at : ℕ) (a : Account) → Opens old s at new → a ≡ account_for old s → slice_set new at (record a { expiring = true }) ≡ marked s old
mark_put old new s at a opens is = opens.puts (record a { expiring = true }) (ap (λ (x : Account). x.session) is ∙ own_session old s) ∙ ap (λ (x : Account). with_account old (record x { expiring = true })) is

pub row_put : (old new : List Account) (s at block : ℕ) (row : Row) (a : Account) (rows : List (ℕ × Row)) → Opens old s at new → a ≡ account_for old s → rows ≡ insert_entry nat_eq a.rows block row → slice_set new at (record a { rows = rows }) ≡ listed s block row old
row_put old new s at block row a rows opens is put =
    opens.puts (record a { rows = rows }) (ap (λ (x : Account). x.session) is ∙ own_session old s)
    ∙ ap (λ (l : List (ℕ × Row)). with_account old (record a { rows = l })) put
    ∙ ap (λ (x : Account). with_account old (record x { rows = insert_entry nat_eq x.rows block row })) is
