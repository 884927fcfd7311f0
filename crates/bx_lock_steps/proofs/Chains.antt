-- What holds of the states of a chain: who is the master, when a term ends, and whose a session is.
use Rattle.std.proofs.Common.{◌≡◌, inl, inr, ⊎_elim, ◌⊎◌, ℕ, ◌+◌, ◌<◌, ◌≤◌, true, false, List, [], ◌∷◌, Option, Some, None, refl, sym, ◌∙◌, ap, subst, arith}
use Rattle.std.specs.Prelude.{IfSome, IsSomeAnd, ◌==◌, not}
use Rattle.std.specs.List.{AllByRecursion}
use Rattle.std.proofs.lemmas.Bool.Decides.{leb_tells, nat_tests}
use Rattle.bx_global.specs.declared.change.Change.{Change}
use Rattle.bx_global.specs.declared.change.Change.TheVariants.{Renew, Take, Open, Expire, Claim, Close, Shift}
use Rattle.bx_global.specs.declared.state.GlobalState.{GlobalState}
use Rattle.bx_global.specs.Allowed.{AreRising}
use Rattle.bx_global.specs.Table.{effect, opened}
use Rattle.bx_global.proofs.Kept.{rising-filter, rising-map, rising-push}
use Rattle.bx_global.proofs.Rising.{index_rises, keeps_claimed, keeps_expired}
use Rattle.bx_rows.specs.declared.session.SessionRow.{SessionRow}
use Rattle.bx_rows.specs.Rows.{claimed, dead, expired}
use Rattle.bx_rows.specs.Words.{row_in}
use Rattle.bx_facts.specs.Chains.{Chain, HasOwnBoot, IsAmong, IsPlace, LivesIn, last, session_of, state_after}
use Rattle.bx_locking.specs.Owned.{IsNewBoot, IsRowIn}
use Rattle.bx_locking.specs.Terms.{HasTake, IsNoTake}
use Rattle.bx_locking.proofs.Owned.{rows_go, session_row}
use Rattle.bx_locking.proofs.Places.{index_least, index_most, last_among}
use Rattle.bx_locking.proofs.Terms.{same_term, stays, take_or, takes, term_most}
use Rattle.bx_lock_steps.specs.Machines.{IsMaster}
use Rattle.bx_lock_steps.proofs.Growth.{same_master}

-- ---- the master

-- a state of the last term names the last state's master
same_names : (first : GlobalState) (changes : List Change) (p : GlobalState) → IsAmong first changes p → p.term ≡ (state_after first changes).term → (p.master ≡ (state_after first changes).master) × (p.master_boot ≡ (state_after first changes).master_boot)
same_names first [] p is same = (ap (λ (x : GlobalState). x.master) is, ap (λ (x : GlobalState). x.master_boot) is)
same_names first (change ∷ older) p (inl is) same = (ap (λ (x : GlobalState). x.master) is, ap (λ (x : GlobalState). x.master_boot) is)
same_names first (change ∷ older) p (inr old) same = elim (take_or change) [
  | takes by boot reading is ↦
      let l = term_most first older p old in
      let k : (effect (state_after first older) change).term ≡ (state_after first older).term + 1 = subst (λ (c : Change). (effect (state_after first older) c).term ≡ (state_after first older).term + 1) (sym is) refl in
      absurd (omega (arith, same, l, k))
  | stays calm ↦
      let k = same_names first older p old (same ∙ same_term (state_after first older) change calm) in
      let m = same_master (state_after first older) change calm in
      (k.0 ∙ sym m.0, k.1 ∙ sym m.1)
]

pub is_last_master : (chain : Chain) (p : GlobalState) (id boot : ℕ) → IsPlace chain p → p.term ≡ (last chain).term → IsMaster p id boot → IsMaster (last chain) id boot
is_last_master chain p id boot place same is = let k = same_names chain.first chain.changes p place same in record { server = sym k.0 ∙ is.server; boot_is = sym k.1 ∙ is.boot_is }

-- where no new term began, the last state's master is that of the first
take_or_same : (first : GlobalState) (changes : List Change) → HasTake changes ⊎ ((state_after first changes).master_boot ≡ first.master_boot)
take_or_same first [] = inr refl
take_or_same first (change ∷ older) = by_change change (take_or_same first older)
  where
    by_change : (change : Change) → HasTake older ⊎ ((state_after first older).master_boot ≡ first.master_boot) → HasTake (change ∷ older) ⊎ ((state_after first (change ∷ older)).master_boot ≡ first.master_boot)
    by_change (Renew by boot reading) before = before
    by_change (Take by boot reading) before = inl tt
    by_change (Open node boot reading) before = before
    by_change (Expire session term reading) before = before
    by_change (Claim gone by) before = before
    by_change (Close gone by) before = before
    by_change (Shift device epoch mode second boot) before = before

-- a master of this life of the volume has begun a term, or the volume is new
pub term_began : (chain : Chain) (id boot : ℕ) → IsMaster (last chain) id boot → HasOwnBoot chain boot → (chain.found ≡ 0) ⊎ HasTake chain.changes
term_began chain id boot master own = ⊎_elim
    (λ zero. inl zero)
    (λ above. ⊎_elim
    (λ has. inr has)
    (λ same. absurd (let e = master.boot_is in let l = above.master in omega (arith, e, l, same)))
    (take_or_same chain.first chain.changes))
    own

-- ---- the end of a term

end_rises : (s : GlobalState) (change : Change) → IsNoTake change → s.term_end ≤ (effect s change).term_end
end_rises s (Renew by boot reading) calm = omega arith
end_rises s (Take by boot reading) calm = absurd calm
end_rises s (Open node boot reading) calm = omega arith
end_rises s (Expire session term reading) calm = omega arith
end_rises s (Claim gone by) calm = omega arith
end_rises s (Close gone by) calm = omega arith
end_rises s (Shift device epoch mode second boot) calm = omega arith

ends_on : (first : GlobalState) (changes : List Change) (p q : GlobalState) → IsAmong first changes p → IsAmong first changes q → p.index ≤ q.index → p.term ≡ q.term → p.term_end ≤ q.term_end
ends_on first [] p q is also less same = let e = ap (λ (s : GlobalState). s.term_end) (is ∙ sym also) in omega (arith, e)
ends_on first (change ∷ older) p q (inl is) (inl also) less same = let e = ap (λ (s : GlobalState). s.term_end) (is ∙ sym also) in omega (arith, e)
ends_on first (change ∷ older) p q (inr old) (inr also) less same = ends_on first older p q old also less same
ends_on first (change ∷ older) p q (inl is) (inr also) less same =
    let e = ap (λ (s : GlobalState). s.index) is in let k = index_rises (state_after first older) change in let l = index_most first older q also in absurd (omega (arith, e, k, l, less))
ends_on first (change ∷ older) p q (inr old) (inl also) less same = elim (take_or change) [
  | takes by boot reading is ↦
      let l = term_most first older p old in
      let e = ap (λ (s : GlobalState). s.term) also in
      let k : (effect (state_after first older) change).term ≡ (state_after first older).term + 1 = subst (λ (c : Change). (effect (state_after first older) c).term ≡ (state_after first older).term + 1) (sym is) refl in
      absurd (omega (arith, same, l, k, e))
  | stays calm ↦
      let e = ap (λ (s : GlobalState). s.term) also in let f = ap (λ (s : GlobalState). s.term_end) also in
      let k = same_term (state_after first older) change calm in
      let l = ends_on first older p (state_after first older) old (last_among first older) (index_most first older p old) (same ∙ e ∙ k) in
      let r = end_rises (state_after first older) change calm in omega (arith, f, l, r)
]

pub term_ends : (chain : Chain) (p q : GlobalState) → IsPlace chain p → IsPlace chain q → p.index ≤ q.index → p.term ≡ q.term → p.term_end ≤ q.term_end
term_ends chain p q = ends_on chain.first chain.changes p q

-- a later state isn't of an earlier term
terms_on : (first : GlobalState) (changes : List Change) (p q : GlobalState) → IsAmong first changes p → IsAmong first changes q → p.index ≤ q.index → p.term ≤ q.term
terms_on first [] p q is also less = let e = ap (λ (s : GlobalState). s.term) (is ∙ sym also) in omega (arith, e)
terms_on first (change ∷ older) p q (inl is) (inl also) less = let e = ap (λ (s : GlobalState). s.term) (is ∙ sym also) in omega (arith, e)
terms_on first (change ∷ older) p q (inr old) (inr also) less = terms_on first older p q old also less
terms_on first (change ∷ older) p q (inl is) (inr also) less =
    let e = ap (λ (s : GlobalState). s.index) is in let k = index_rises (state_after first older) change in let l = index_most first older q also in absurd (omega (arith, e, k, l, less))
terms_on first (change ∷ older) p q (inr old) (inl also) less =
    let l = term_most first (change ∷ older) p (inr old) in let e = ap (λ (s : GlobalState). s.term) also in omega (arith, l, e)

pub terms_rise : (chain : Chain) (p q : GlobalState) → IsPlace chain p → IsPlace chain q → p.index ≤ q.index → p.term ≤ q.term
terms_rise chain p q = terms_on chain.first chain.changes p q

-- ---- rows in order

pub rising_grows : (s : GlobalState) (change : Change) → AreRising s.sessions s.next_session → AreRising (effect s change).sessions (effect s change).next_session
rising_grows s (Renew by boot reading) rising = rising
rising_grows s (Take by boot reading) rising = rising-map dead (λ row. refl) s.sessions s.next_session rising
rising_grows s (Open node boot reading) rising = rising-push s.sessions (opened s node boot reading) s.next_session refl rising
rising_grows s (Expire session term reading) rising = rising-map (expired session) (keeps_expired session) s.sessions s.next_session rising
rising_grows s (Claim gone by) rising = rising-map (claimed gone by) (keeps_claimed gone by) s.sessions s.next_session rising
rising_grows s (Close gone by) rising = rising-filter (λ row. not (row.number == gone)) s.sessions s.next_session rising
rising_grows s (Shift device epoch mode second boot) rising = rising

row_above : (n : ℕ) (rows : List SessionRow) (row : SessionRow) → AllByRecursion (λ (later : SessionRow). n < later.number) rows → IsRowIn rows row → n < row.number
row_above n [] row all has = absurd has
row_above n (one ∷ rest) row all (inl is) = let e = ap (λ (x : SessionRow). x.number) is in let l = all.0 in omega (arith, e, l)
row_above n (one ∷ rest) row all (inr more) = row_above n rest row all.1 more

-- rows of one number are one row
one_row : (rows : List SessionRow) (next : ℕ) (a b : SessionRow) → AreRising rows next → IsRowIn rows a → IsRowIn rows b → a.number ≡ b.number → a ≡ b
one_row [] next a b rising has also same = absurd has
one_row (row ∷ rest) next a b rising (inl is) (inl also) same = is ∙ sym also
one_row (row ∷ rest) next a b rising (inl is) (inr more) same = absurd (let e = ap (λ (x : SessionRow). x.number) is in let l = row_above row.number rest b rising.1 more in omega (arith, e, l, same))
one_row (row ∷ rest) next a b rising (inr more) (inl is) same = absurd (let e = ap (λ (x : SessionRow). x.number) is in let l = row_above row.number rest a rising.1 more in omega (arith, e, l, same))
one_row (row ∷ rest) next a b rising (inr more) (inr also) same = one_row rest next a b rising.2 more also same

pub row_next : (rows : List SessionRow) (next : ℕ) (row : SessionRow) → AreRising rows next → IsRowIn rows row → row.number < next
row_next [] next row rising has = absurd has
row_next (one ∷ rest) next row rising (inl is) = let e = ap (λ (x : SessionRow). x.number) is in let l = rising.0 in omega (arith, e, l)
row_next (one ∷ rest) next row rising (inr more) = row_next rest next row rising.2 more

-- ---- whose a session is

pub record IsSameOwner (a b : SessionRow) : Type 0 where
  pub node : a.node ≡ b.node
  pub boot : a.boot ≡ b.boot

owner_later : (chain : Chain) (p q : GlobalState) (a b : SessionRow) → ((s : GlobalState) → IsPlace chain s → AreRising s.sessions s.next_session) → IsPlace chain p → IsPlace chain q → p.index ≤ q.index
    → IsRowIn p.sessions a → IsRowIn q.sessions b → a.number ≡ b.number → IsSameOwner a b
owner_later chain p q a b rising place other order has also same =
    let k = (rows_go chain.first chain.changes p q place other order).each b also (let l = row_next p.sessions p.next_session a (rising p place) has in omega (arith, l, same)) in
    let one : a ≡ k.0 = one_row p.sessions p.next_session a k.0 (rising p place) has k.1 (same ∙ k.2.number) in
    record { node = ap (λ (x : SessionRow). x.node) one ∙ sym k.2.node; boot = ap (λ (x : SessionRow). x.boot) one ∙ sym k.2.boot }

-- rows of one number, in any two states, are of one node and boot
pub one_owner : (chain : Chain) (p q : GlobalState) (a b : SessionRow) → ((s : GlobalState) → IsPlace chain s → AreRising s.sessions s.next_session) → IsPlace chain p → IsPlace chain q
    → IsRowIn p.sessions a → IsRowIn q.sessions b → a.number ≡ b.number → IsSameOwner a b
one_owner chain p q a b rising place other has also same = ⊎_elim
    (λ order. owner_later chain p q a b rising place other order.1 has also same)
    (λ order. let k = owner_later chain q p b a rising other place (let l = order.1 in omega (arith, l)) also has (sym same) in record { node = sym k.node; boot = sym k.boot })
    (leb_tells p.index q.index)

-- so a session is never two nodes' own, nor one's in two boots
pub one_session : (chain : Chain) (p q : GlobalState) (n m b c s : ℕ) → ((s : GlobalState) → IsPlace chain s → AreRising s.sessions s.next_session) → IsPlace chain p → IsPlace chain q
    → session_of p n b ≡ Some s → session_of q m c ≡ Some s → (n ≡ m) × (b ≡ c)
one_session chain p q n m b c s rising place other own also =
    let i = session_row p n b s own in
    let j = session_row q m c s also in
    let k = one_owner chain p q i.row j.row rising place other i.is j.is (i.number ∙ sym j.number) in
    (sym i.live.node_is ∙ k.node ∙ j.live.node_is, sym i.live.boot_is ∙ k.boot ∙ j.live.boot_is)

-- the number of an own session was given out
pub own_given : (p : GlobalState) (n b s : ℕ) → AreRising p.sessions p.next_session → session_of p n b ≡ Some s → s < p.next_session
own_given p n b s rising own = let i = session_row p n b s own in let l = row_next p.sessions p.next_session i.row rising i.is in let e = i.number in omega (arith, l, e)

-- ---- a boot of this life

pub row_found : (rows : List SessionRow) (row : SessionRow) (next : ℕ) → AreRising rows next → IsRowIn rows row → row_in rows row.number ≡ Some row
row_found [] row next rising has = absurd has
row_found (one ∷ rest) row next rising (inl is) =
    let e : (one.number == row.number) ≡ true = (let f = ap (λ (x : SessionRow). x.number) is in grind (arith, nat_tests, f)) in rw e (ap (λ (x : SessionRow). Some x) (sym is))
row_found (one ∷ rest) row next rising (inr more) =
    let l = row_above one.number rest row rising.1 more in
    let e : (one.number == row.number) ≡ false = grind (arith, nat_tests, l) in rw e (row_found rest row next rising.2 more)

below_boot : (o : Option SessionRow) (row : SessionRow) (boot : ℕ) → o ≡ Some row → IfSome o (λ r. r.boot < boot) → row.boot < boot
below_boot None row boot is less = absurd cc
below_boot (Some other) row boot is less = let same : other ≡ row = cc in let e = ap (λ (x : SessionRow). x.boot) same in omega (arith, e, less)

pub first_among : (first : GlobalState) (changes : List Change) → IsAmong first changes first
first_among first [] = refl
first_among first (change ∷ older) = inr (first_among first older)

-- no session of an older life has it
pub new_boot : (chain : Chain) (boot : ℕ) (p : GlobalState) → chain.found ≤ chain.first.next_session → AreRising chain.first.sessions chain.first.next_session → HasOwnBoot chain boot → IsPlace chain p → IsNewBoot chain.found boot p
new_boot chain boot p found rising own place = record {
  each = λ row has same. ⊎_elim
      (λ zero. omega (arith, zero))
      (λ above. ⊎_elim
      (λ this. this.1)
      (λ older. absurd (
      let k = (rows_go chain.first chain.changes chain.first p (first_among chain.first chain.changes) place (index_least chain.first chain.changes p place)).each row has (let l = older.1 in omega (arith, l, found)) in
      let there = row_found chain.first.sessions k.0 chain.first.next_session rising k.1 in
      let l = below_boot (row_in chain.first.sessions k.0.number) k.0 boot there (above.sessions k.0.number) in
      let e = k.2.boot in omega (arith, l, e, same)))
      (leb_tells chain.found row.number))
      own;
}

-- ---- the row of an own session

pub record OwnRow (p : GlobalState) (s : ℕ) : Type 0 where
  pub row : SessionRow
  pub there : row_in p.sessions s ≡ Some row
  pub alive : row.dead ≡ 0

pub own_row : (p : GlobalState) (n b s : ℕ) → AreRising p.sessions p.next_session → session_of p n b ≡ Some s → OwnRow p s
own_row p n b s rising own =
    let i = session_row p n b s own in
    record { row = i.row; there = ap (row_in p.sessions) (sym i.number) ∙ row_found p.sessions i.row p.next_session rising i.is; alive = i.live.alive }

pub row_lives : (p : GlobalState) (s : ℕ) (r : OwnRow p s) → LivesIn p s
row_lives p s r = by_row (row_in p.sessions s) r.there
  where
    by_row : (o : Option SessionRow) → o ≡ Some r.row → IsSomeAnd o (λ row. row.dead ≡ 0)
    by_row None is = absurd cc
    by_row (Some row) is = let same : row ≡ r.row = cc in ap (λ (x : SessionRow). x.dead) same ∙ r.alive
