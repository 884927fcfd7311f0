-- What a whole chain leaves of sessions.
use Rattle.std.proofs.Common.{inl, inr, ℕ, ◌<◌, ◌≤◌, List, [], ◌∷◌, refl, sym, ap, subst, arith}
use Rattle.bx_locking.specs.bx_facts.specs.Chains.{AreLegal, Chain, HasRow, IsAmong, IsPlace, LivesIn, last, state_after}
use Rattle.bx_global.specs.Allowed.{IsAllowed}
use Rattle.bx_global.specs.declared.change.Change.{Change}
use Rattle.bx_global.specs.declared.state.GlobalState.{GlobalState}
use Rattle.bx_global.proofs.Rising.{index_rises, next_rises}
use Rattle.bx_world_chains.specs.Entitled.{AreAllowed, IsEntitled}
use Rattle.bx_world_chains.proofs.Rows.{below_next, entitled_after, has_before, has_of, lives_before, lives_has, row_of}

-- all states, from the first on
abbrev AllIn : GlobalState → List Change → Type 0
AllIn first changes = (s : GlobalState) → IsAmong first changes s → IsAllowed s

older_in : (first : GlobalState) (change : Change) (older : List Change) → AllIn first (change ∷ older) → AllIn first older
older_in first change older all s among = all s (inr among)

-- a place has no greater index than the last state, and has given out no more sessions
low_in : (first : GlobalState) (changes : List Change) (s : GlobalState) → IsAmong first changes s → (s.index ≤ (state_after first changes).index) × (s.next_session ≤ (state_after first changes).next_session)
low_in first [] s is = (let e = ap (λ (x : GlobalState). x.index) is in omega (arith, e), let e = ap (λ (x : GlobalState). x.next_session) is in omega (arith, e))
low_in first (change ∷ older) s (inl is) = (let e = ap (λ (x : GlobalState). x.index) is in omega (arith, e), let e = ap (λ (x : GlobalState). x.next_session) is in omega (arith, e))
low_in first (change ∷ older) s (inr among) =
    let low = low_in first older s among in let i = index_rises (state_after first older) change in let n = next_rises (state_after first older) change in
    (let a = low.0 in omega (arith, a, i), let b = low.1 in omega (arith, b, n))

pub index_most : (chain : Chain) (s : GlobalState) → IsPlace chain s → s.index ≤ (last chain).index
index_most chain s place = (low_in chain.first chain.changes s place).0

-- A session that has a row in a place was given out in each later state.
less_in : (first : GlobalState) (changes : List Change) (s : GlobalState) (n : ℕ) → AllIn first changes → IsAmong first changes s → HasRow s n → n < (state_after first changes).next_session
less_in first changes s n all among has =
    let row = row_of s n has in
    let less = below_next s.sessions s.next_session n row.0 (all s among).rising row.1 in
    let low = (low_in first changes s among).1 in omega (arith, less, low)

pub has_less : (chain : Chain) (s : GlobalState) (n : ℕ) → AreAllowed chain → IsPlace chain s → HasRow s n → n < (last chain).next_session
has_less chain s n allowed place has = less_in chain.first chain.changes s n allowed.each place has

-- A session that is live in the last state, and had a row in a place, is live there.
lives_in : (first : GlobalState) (changes : List Change) (s : GlobalState) (n : ℕ) → AllIn first changes → IsAmong first changes s → HasRow s n → LivesIn (state_after first changes) n → LivesIn s n
lives_in first [] s n all is has lives = subst (λ (x : GlobalState). LivesIn x n) (sym is) lives
lives_in first (change ∷ older) s n all (inl is) has lives = subst (λ (x : GlobalState). LivesIn x n) (sym is) lives
lives_in first (change ∷ older) s n all (inr among) has lives =
    let before = older_in first change older all in
    let less = less_in first older s n before among has in
    lives_in first older s n before among has (lives_before (state_after first older) change n (before (state_after first older) (last_in first older)) lives less)
  where
    last_in : (f : GlobalState) (cs : List Change) → IsAmong f cs (state_after f cs)
    last_in f [] = refl
    last_in f (c ∷ cs) = inl refl

pub last_place : (chain : Chain) → IsPlace chain (last chain)
last_place chain = at chain.first chain.changes
  where
    at : (f : GlobalState) (cs : List Change) → IsAmong f cs (state_after f cs)
    at f [] = refl
    at f (c ∷ cs) = inl refl

pub lives_there : (chain : Chain) (s : GlobalState) (n : ℕ) → AreAllowed chain → IsPlace chain s → HasRow s n → LivesIn (last chain) n → LivesIn s n
lives_there chain s n allowed place has lives = lives_in chain.first chain.changes s n allowed.each place has lives

-- A session that might write a slot in a place may so in the last state, if it is live there and the slot's session has its row.
entitled_in : (first : GlobalState) (changes : List Change) (s : GlobalState) (owner slot session : ℕ) → AllIn first changes → AreLegal first changes → IsAmong first changes s → IsEntitled s owner slot session
    → LivesIn (state_after first changes) session → HasRow (state_after first changes) owner → IsEntitled (state_after first changes) owner slot session
entitled_in first [] s owner slot session all legal is entitled lives has = subst (λ (x : GlobalState). IsEntitled x owner slot session) is entitled
entitled_in first (change ∷ older) s owner slot session all legal (inl is) entitled lives has = subst (λ (x : GlobalState). IsEntitled x owner slot session) is entitled
entitled_in first (change ∷ older) s owner slot session all legal (inr among) entitled lives has =
    let before = older_in first change older all in
    let allowed = before (state_after first older) (last_in first older) in
    let session_less = less_in first older s session before among (lives_has s session entitled.lives) in
    let owner_less = less_in first older s owner before among (has_of s owner entitled.row entitled.is) in
    entitled_after (state_after first older) change owner slot session allowed legal.0
    (entitled_in first older s owner slot session before legal.1 among entitled (lives_before (state_after first older) change session allowed lives session_less) (has_before (state_after first older) change owner has owner_less))
    lives has
  where
    last_in : (f : GlobalState) (cs : List Change) → IsAmong f cs (state_after f cs)
    last_in f [] = refl
    last_in f (c ∷ cs) = inl refl

pub entitled_last : (chain : Chain) (s : GlobalState) (owner slot session : ℕ) → AreAllowed chain → AreLegal chain.first chain.changes → IsPlace chain s → IsEntitled s owner slot session
    → LivesIn (last chain) session → HasRow (last chain) owner → IsEntitled (last chain) owner slot session
entitled_last chain s owner slot session allowed legal place entitled lives has = entitled_in chain.first chain.changes s owner slot session allowed.each legal place entitled lives has
