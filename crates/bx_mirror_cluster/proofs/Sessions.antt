-- Sessions along a chain: whose they are, and that a boot of this life has none of an older one.
use Rattle.std.proofs.Common.{◌≡◌, ◌≢◌, ◌⊎◌, inl, inr, ⊎_elim, ℕ, ◌<◌, ◌≤◌, Bool, true, false, List, [], ◌∷◌, Option, Some, None, refl, sym, ◌∙◌, ap, subst, arith}
use Rattle.std.specs.Prelude.{IfSome, IsSomeAnd, ◌==◌, if◌then◌else◌}
use Rattle.std.specs.List.{AllByRecursion}
use Rattle.std.proofs.lemmas.Bool.Decides.{leb_tells, nat_tests}
use Rattle.bx_facts.specs.Chains.{Chain, HasOwnBoot, IsAmong, IsPlace, LivesIn, session_of}
use Rattle.bx_global.specs.Allowed.{AreRising}
use Rattle.bx_global.specs.declared.change.Change.{Change}
use Rattle.bx_global.specs.declared.state.GlobalState.{GlobalState}
use Rattle.bx_locking.proofs.Owned.{rows_go, session_row}
use Rattle.bx_locking.proofs.Places.{index_least}
use Rattle.bx_locking.specs.Owned.{IsNewBoot, IsRowIn}
use Rattle.bx_rows.specs.Words.{row_in}
use Rattle.bx_rows.specs.declared.session.SessionRow.{SessionRow}

pub same_or_not : (a b : Option ℕ) → (a ≡ b) ⊎ (a ≢ b)
same_or_not None None = inl refl
same_or_not None (Some n) = inr (λ e. cc)
same_or_not (Some m) None = inr (λ e. cc)
same_or_not (Some m) (Some n) = by (numbers m n)
  where
    numbers : (k l : ℕ) → (k ≡ l) ⊎ (k ≢ l)
    numbers k l = grind arith

    by : (m ≡ n) ⊎ (m ≢ n) → (Some m ≡ Some n) ⊎ (Some m ≢ Some n)
    by (inl e) = inl (ap (λ (k : ℕ). Some k) e)
    by (inr e) = inr (λ both. let same : m ≡ n = cc in e same)

pub first_among : (first : GlobalState) (changes : List Change) → IsAmong first changes first
first_among first [] = refl
first_among first (change ∷ older) = inr (first_among first older)

-- what holds of all rows holds of each
pub each_row : (P : SessionRow → Type 0) (rows : List SessionRow) (row : SessionRow) → AllByRecursion P rows → IsRowIn rows row → P row
each_row P [] row all has = absurd has
each_row P (one ∷ rest) row all (inl is) = subst P (sym is) all.0
each_row P (one ∷ rest) row all (inr more) = each_row P rest row all.1 more

row_above : (n : ℕ) (rows : List SessionRow) (row : SessionRow) → AllByRecursion (λ (later : SessionRow). n < later.number) rows → IsRowIn rows row → n < row.number
row_above n [] row all has = absurd has
row_above n (one ∷ rest) row all (inl is) = let e = ap (λ (x : SessionRow). x.number) is in let l = all.0 in omega (arith, e, l)
row_above n (one ∷ rest) row all (inr more) = row_above n rest row all.1 more

pub row_next : (rows : List SessionRow) (next : ℕ) (row : SessionRow) → AreRising rows next → IsRowIn rows row → row.number < next
row_next [] next row rising has = absurd has
row_next (one ∷ rest) next row rising (inl is) = let e = ap (λ (x : SessionRow). x.number) is in let l = rising.0 in omega (arith, e, l)
row_next (one ∷ rest) next row rising (inr more) = row_next rest next row rising.2 more

row_found : (rows : List SessionRow) (row : SessionRow) (next : ℕ) → AreRising rows next → IsRowIn rows row → row_in rows row.number ≡ Some row
row_found [] row next rising has = absurd has
row_found (one ∷ rest) row next rising (inl is) =
    let e : (one.number == row.number) ≡ true = (let f = ap (λ (x : SessionRow). x.number) is in grind (arith, nat_tests, f)) in rw e (ap (λ (x : SessionRow). Some x) (sym is))
row_found (one ∷ rest) row next rising (inr more) =
    let l = row_above one.number rest row rising.1 more in
    let e : (one.number == row.number) ≡ false = grind (arith, nat_tests, l) in rw e (row_found rest row next rising.2 more)

below_boot : (o : Option SessionRow) (row : SessionRow) (boot : ℕ) → o ≡ Some row → IfSome o (λ r. r.boot < boot) → row.boot < boot
below_boot None row boot is less = absurd cc
below_boot (Some other) row boot is less = let same : other ≡ row = cc in let e = ap (λ (x : SessionRow). x.boot) same in omega (arith, e, less)

-- no session of an older life has the boot
pub new_boot : (chain : Chain) (boot : ℕ) (p : GlobalState) → chain.found ≤ chain.first.next_session → AreRising chain.first.sessions chain.first.next_session → HasOwnBoot chain boot → IsPlace chain p → IsNewBoot chain.found boot p
new_boot chain boot p found rising own place = record {
  each = λ row has same. ⊎_elim
      (λ zero. omega (arith, zero))
      (λ above. ⊎_elim
      (λ this. this.1)
      (λ older. absurd (
      let k = (rows_go chain.first chain.changes chain.first p (first_among chain.first chain.changes) place (index_least chain.first chain.changes p place)).each row has (let l = older.1 in omega (arith, l, found)) in
      let there = row_found chain.first.sessions k.0 chain.first.next_session rising k.1 in
      let l = below_boot (row_in chain.first.sessions k.0.number) k.0 boot there (above.sessions k.0.number) in
      let e = k.2.boot in omega (arith, l, e, same)))
      (leb_tells chain.found row.number))
      own;
}

live_row : (s : ℕ) (row : SessionRow) (o : Option SessionRow) → row.dead ≡ 0 → o ≡ Some row → IsSomeAnd o (λ r. r.dead ≡ 0)
live_row s row None dead is = absurd cc
live_row s row (Some r) dead is = let same : r ≡ row = cc in ap (λ (x : SessionRow). x.dead) same ∙ dead

-- an own session lives
pub own_lives : (p : GlobalState) (n b s : ℕ) → AreRising p.sessions p.next_session → session_of p n b ≡ Some s → LivesIn p s
own_lives p n b s rising own =
    let i = session_row p n b s own in
    live_row s i.row (row_in p.sessions s) i.live.alive (ap (row_in p.sessions) (sym i.number) ∙ row_found p.sessions i.row p.next_session rising i.is)

row_of_is : (rows : List SessionRow) (s : ℕ) (row : SessionRow) → row_in rows s ≡ Some row → IsRowIn rows row × (row.number ≡ s)
row_of_is [] s row is = absurd cc
row_of_is (one ∷ rest) s row is = by_test (row_of_is rest s row) (one.number == s) refl is
  where
    by_test : (row_in rest s ≡ Some row → IsRowIn rest row × (row.number ≡ s)) → (b : Bool) → (one.number == s) ≡ b → (if b then Some one else row_in rest s) ≡ Some row → IsRowIn (one ∷ rest) row × (row.number ≡ s)
    by_test later true so found = let same : one ≡ row = cc in let n : one.number ≡ s = grind (arith, nat_tests, so) in (inl (sym same), sym (ap (λ (x : SessionRow). x.number) same) ∙ n)
    by_test later false not_so found = let k = later found in (inr k.0, k.1)

-- the number of a session that lives was given out
pub lives_given : (p : GlobalState) (s : ℕ) → AreRising p.sessions p.next_session → LivesIn p s → s < p.next_session
lives_given p s rising lives = by (row_in p.sessions s) refl lives
  where
    by : (o : Option SessionRow) → row_in p.sessions s ≡ o → IsSomeAnd o (λ row. row.dead ≡ 0) → s < p.next_session
    by None e none = absurd none
    by (Some row) e some = let i = row_of_is p.sessions s row e in let l = row_next p.sessions p.next_session row rising i.0 in let k = i.1 in omega (arith, l, k)
