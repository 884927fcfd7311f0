-- Why owners on one machine go on fitting.
use Rattle.std.proofs.Common.{◌≡◌, ◌≢◌, inl, ⊎_elim, ℕ, ◌+◌, ◌-◌, ◌<◌, ◌≤◌, max, Bool, true, false, List, [], ◌∷◌, Contains, Option, Some, None, IfSome, refl, sym, ◌∙◌, ap, subst, arith}
use Rattle.std.specs.Prelude.{IsSome, IsSomeAnd, nat_lt, is_some, if◌then◌else◌}
use Rattle.bx_post.specs.declared.packets.Letter.{Letter}
use Rattle.bx_facts.proofs.Lists.{front_or_behind, nothing}
use Rattle.std.proofs.lemmas.Bool.Decides.{nat_tests}
use Rattle.bx_base.specs.declared.names.Mode.TheVariants.{Shared}
use Rattle.bx_global.specs.declared.change.Change.{Change}
use Rattle.bx_global.specs.declared.change.Change.TheVariants.{Renew, Take, Open, Expire, Claim, Close, Shift}
use Rattle.bx_rows.specs.declared.session.SessionRow.{SessionRow}
use Rattle.bx_global.specs.declared.state.GlobalState.{GlobalState}
use Rattle.bx_global.specs.Table.{IsLegal}
use Rattle.bx_global.proofs.Rising.{index_rises}
use Rattle.bx_rows.specs.Words.{row_in, IsLive}
use Rattle.bx_facts.specs.Chains.{Chain, IsOwnersOwn, IsPlace, LivesIn, first_index, is_ever, last, opened_at, state_after}
use Rattle.bx_facts.specs.Holds.{Hold, Holds, IsSessionIn, OwnersPast, hold_of, leased, opening_owners, owners_grown}
use Rattle.bx_plain.specs.declared.rows.Row.{Row}
use Rattle.bx_plain.specs.Fits.{Fits, IsOwn, IsPlainState, RowsStand, end_in, own_in}
use Rattle.bx_plain.specs.Rows.{hold_in}

-- the last state is a place
pub last_place : (chain : Chain) → IsPlace chain (last chain)
last_place chain = at chain.first chain.changes
  where
    at : (first : GlobalState) (changes : List Change) → IsPlace (record { found = chain.found; first = first; changes = changes }) (last (record { found = chain.found; first = first; changes = changes }))
    at first [] = refl
    at first (change ∷ older) = inl refl

-- nothing is contained in an empty list
none_there : (change : Change) → Contains [] change → ⊥
none_there change (i, less, is) = absurd (omega (arith, less))

-- no row is dead
no_dead : (o : Option SessionRow) (Q : SessionRow → Type 0) → IfSome o (λ row. row.dead ≡ 0) → IsSomeAnd o (λ row. (row.dead ≡ 1) × Q row) → ⊥
no_dead None Q alive is = absurd is
no_dead (Some row) Q alive is = let zero = alive in let one = is.0 in absurd (omega (arith, zero, one))

-- a session of a node lives
pub lives : (nodes : ℕ) (s : GlobalState) (session : ℕ) → IsPlainState nodes s → IsOwn nodes session → LivesIn s session
lives nodes s session is own = live_row (row_in s.sessions session) (subst (λ (n : ℕ). IsSessionIn s (session - 1) (Some n)) (omega (arith, own.0)) (is.sessions (session - 1) (omega (arith, own.0, own.1))))
  where
    live_row : (o : Option SessionRow) → IsSomeAnd o (λ row. (row.dead ≡ 0) × (row.node ≡ session - 1)) → IsSomeAnd o (λ row. row.dead ≡ 0)
    live_row None is = is
    live_row (Some row) is = is.0

-- no change was handed back
not_own : (past : OwnersPast) (change : Change) → past.told.handed ≡ [] → Contains past.told.handed change → ⊥
not_own past change none own = none_there change (subst (λ (all : List Change). Contains all change) none own)

pub fits_grown : (nodes : ℕ) (rows : List Row) (past : OwnersPast) (change : Change) → Fits nodes rows past → IsLegal (last past.told.chain) change → IsOwnersOwn past.told.handed change → Fits nodes rows (owners_grown past change)
fits_grown nodes rows past (Renew by boot reading) fits legal own = absurd (not_own past (Renew by boot reading) fits.handed own)
fits_grown nodes rows past (Take by boot reading) fits legal own = absurd (not_own past (Take by boot reading) fits.handed own)
fits_grown nodes rows past (Open node boot reading) fits legal own = absurd (not_own past (Open node boot reading) fits.handed own)
fits_grown nodes rows past (Expire session term reading) fits legal own = absurd (not_own past (Expire session term reading) fits.handed own)
fits_grown nodes rows past (Claim gone by) fits legal own = absurd (no_dead (row_in (last past.told.chain).sessions gone) (λ row. IsLive (last past.told.chain).sessions row.by → ⊥) ((fits.states (last past.told.chain) (last_place past.told.chain)).alive gone) legal.row.0)
fits_grown nodes rows past (Close gone by) fits legal own = absurd (no_dead (row_in (last past.told.chain).sessions gone) (λ row. row.by ≡ by) ((fits.states (last past.told.chain) (last_place past.told.chain)).alive gone) legal.row.0)
fits_grown nodes rows past (Shift device epoch mode second boot) fits legal own = record {
  stand = fits.stand;
  holds = fits.holds;
  floors = fits.floors;
  leases = fits.leases;
  states = λ s place. ⊎_elim
      (λ new. let old = fits.states (last past.told.chain) (last_place past.told.chain) in subst (IsPlainState nodes) (sym new) (record { sessions = old.sessions; alive = old.alive; ends = old.ends; below = old.below; found = old.found }))
      (λ old. fits.states s old)
      place;
  oldest_is = fits.oldest_is;
  handed = fits.handed;
}

pub own_is : (nodes node session : ℕ) → own_in nodes node ≡ Some session → (node < nodes) × (session ≡ node + 1)
own_is nodes node session is = by_test (nat_lt node nodes) refl
  where
    by_test : (b : Bool) → nat_lt node nodes ≡ b → (node < nodes) × (session ≡ node + 1)
    by_test true so = (grind (arith, nat_tests, so), (let same = rw so at is in sym cc))
    by_test false not_so = let wrong = rw not_so at is in absurd cc

pub is_own : (nodes node session : ℕ) → own_in nodes node ≡ Some session → IsOwn nodes session
is_own nodes node session is = let o = own_is nodes node session is in (omega (arith, o.0, o.1), omega (arith, o.0, o.1))

pub opened : (nodes node session : ℕ) (s : GlobalState) → IsPlainState nodes s → own_in nodes node ≡ Some session → session < s.next_session
opened nodes node session s is own = let o = own_is nodes node session own in let b = is.below in omega (arith, o.0, o.1, b)

pub held_apart : (nodes : ℕ) (rows : List Row) (past : OwnersPast) (session other block : ℕ) (hold other_hold : Hold) → Fits nodes rows past → session ≢ other
    → past.holding session block ≡ Some hold → past.holding other block ≡ Some other_hold → (hold.0 ≡ Shared) × (other_hold.0 ≡ Shared)
held_apart nodes rows past session other block hold other_hold fits ne held other_held = fits.stand.apart session other block hold other_hold ne (sym (fits.holds session block) ∙ held) (sym (fits.holds other block) ∙ other_held)

-- no state's index is below that of the first
first_least : (first : GlobalState) (changes : List Change) → first.index ≤ (state_after first changes).index
first_least first [] = omega arith
first_least first (change ∷ older) = let low = first_least first older in let rise = index_rises (state_after first older) change in omega (arith, low, rise)

-- nor that of the state in which a session's row first stood
opened_least : (first : GlobalState) (changes : List Change) (session : ℕ) → first.index ≤ first_index first changes session
opened_least first [] session = omega arith
opened_least first (change ∷ older) session = by_test (is_ever first older session) (opened_least first older session)
  where
    by_test : (b : Bool) → first.index ≤ first_index first older session → first.index ≤ (if b then first_index first older session else (state_after first (change ∷ older)).index)
    by_test true before = before
    by_test false before = first_least first (change ∷ older)

pub held_reaches : (nodes : ℕ) (rows : List Row) (past : OwnersPast) (session block : ℕ) (hold : Hold) → Fits nodes rows past → past.holding session block ≡ Some hold → past.floor block ≤ max hold.1 (opened_at past.told.chain session)
held_reaches nodes rows past session block hold fits held =
    let least = fits.floors block in
    let most = fits.stand.reaches session block hold (sym (fits.holds session block) ∙ held) in
    let first = opened_least past.told.chain.first past.told.chain.changes session in
    omega (arith, least, most, first)

-- a session's row ends no later than its node knows
pub begins_end : (nodes node session : ℕ) (s : GlobalState) → IsPlainState nodes s → own_in nodes node ≡ Some session → IsSomeAnd (row_in s.sessions session) (λ row. IfSome (end_in nodes node) (λ end. row.until ≤ end))
begins_end nodes node session s is own =
    let o = own_is nodes node session own in
    let so : nat_lt node nodes ≡ true = let less = o.0 in grind (arith, nat_tests, less) in
    let ends : end_in nodes node ≡ Some 4294967295999 = let never : ℕ = 4294967295999 in ap (λ t. if t then Some never else None) so in
    by_row (row_in s.sessions session) (subst (λ (n : ℕ). IsSessionIn s node (Some n)) (sym o.1) (is.sessions node o.0)) (is.ends session) ends
  where
    by_row : (o : Option SessionRow) → IsSomeAnd o (λ row. (row.dead ≡ 0) × (row.node ≡ node)) → IfSome o (λ row. row.until ≤ 4294967295999) → end_in nodes node ≡ Some 4294967295999 → IsSomeAnd o (λ row. IfSome (end_in nodes node) (λ end. row.until ≤ end))
    by_row None there ends is_end = there
    by_row (Some row) there ends is_end = subst (λ (e : Option ℕ). IfSome e (λ end. row.until ≤ end)) (sym is_end) ends

pub fits_fewer : (nodes : ℕ) (rows : List Row) (past : OwnersPast) (letters : List Letter) → Fits nodes rows past → Fits nodes rows (record past { told = record past.told { letters = letters } })
fits_fewer nodes rows past letters fits = record { stand = fits.stand; holds = fits.holds; floors = fits.floors; leases = fits.leases; states = fits.states; oldest_is = fits.oldest_is; handed = fits.handed }

pub zero_least : (n : ℕ) → 0 ≤ n
zero_least n = omega arith

pub same_hold : (rows : List Row) (holding : Holds) (own : Option ℕ) (block : ℕ) → ((session block : ℕ) → holding session block ≡ hold_in rows session block) → hold_of own (hold_in rows) block ≡ hold_of own holding block
same_hold rows holding None block same = refl
same_hold rows holding (Some session) block same = sym (same session block)

pub has_end : (nodes node session : ℕ) → own_in nodes node ≡ Some session → IsSome (end_in nodes node)
has_end nodes node session is =
    let o = own_is nodes node session is in
    let so : nat_lt node nodes ≡ true = grind (arith, nat_tests, o.0) in
    let never : ℕ = 4294967295999 in ap (λ t. is_some {T = ℕ} (if t then Some never else None)) so

pub has_none : (nodes node : ℕ) → own_in nodes node ≡ None → end_in nodes node ≡ None
has_none nodes node is = by_test (nat_lt node nodes) refl
  where
    by_test : (b : Bool) → nat_lt node nodes ≡ b → end_in nodes node ≡ None
    by_test true so = let wrong = rw so at is in absurd cc
    by_test false not_so = let never : ℕ = 4294967295999 in ap (λ t. if t then Some never else None) not_so

pub fits_leased : (nodes : ℕ) (rows : List Row) (past : OwnersPast) (node session end : ℕ) → Fits nodes rows past → own_in nodes node ≡ Some session → Fits nodes rows (leased past session end)
fits_leased nodes rows past node session end fits own = record {
  stand = fits.stand;
  holds = fits.holds;
  floors = fits.floors;
  leases = λ other later has. ⊎_elim (λ is. subst (IsOwn nodes) (ap (λ (p : ℕ × ℕ). p.0) is) (is_own nodes node session own)) (λ more. fits.leases other later more) (front_or_behind (session, end) past.leases (other, later) has);
  states = fits.states;
  oldest_is = fits.oldest_is;
  handed = fits.handed;
}

nothing_stands : RowsStand []
nothing_stands = record { apart = λ s t block hold other ne none. absurd cc; reaches = λ s block hold none. absurd cc }

pub fits_new : (nodes other : ℕ) (rows : List Row) (s : GlobalState) → rows ≡ [] → (other ≡ nodes) × IsPlainState nodes s → Fits nodes rows (opening_owners s)
fits_new nodes other rows s none is = record {
  stand = subst RowsStand (sym none) nothing_stands;
  holds = λ session block. ap (λ (all : List Row). hold_in all session block) (sym none);
  floors = λ block. omega arith;
  leases = λ session end has. absurd (nothing (session, end) has);
  states = λ t place. subst (IsPlainState nodes) (sym place) is.1;
  oldest_is = refl;
  handed = refl;
}
