-- The chain grows by a change: all fits again.
use Rattle.std.proofs.Common.{◌≡◌, ◌≢◌, inl, inr, ⊎_elim, ℕ, ◌<◌, Bool, true, List, ◌∷◌, Contains, Some, refl, sym, ap, subst, arith}
use Rattle.bx_base.specs.declared.names.Actor.TheVariants.{Node, Server}
use Rattle.bx_global.specs.declared.change.Change.{Change}
use Rattle.bx_global.specs.declared.change.Change.TheVariants.{Renew, Take, Open, Expire, Claim, Close, Shift}
use Rattle.bx_global.specs.declared.state.GlobalState.{GlobalState}
use Rattle.bx_global.specs.Allowed.{AreRising, Fits}
use Rattle.bx_global.specs.Table.{IsLegal, effect, opened}
use Rattle.bx_global.proofs.Rising.{index_rises}
use Rattle.bx_facts.specs.Chains.{Chain, HasOwnBoot, IsOwnersOwn, IsPlace, LivesIn, grown, last, session_of}
use Rattle.bx_facts.specs.Holds.{OwnersPast, floor_after, owners_grown}
use Rattle.bx_locking.specs.Leases.{AreLeases, IsPromised}
use Rattle.bx_locking.specs.Owned.{AreSingle}
use Rattle.bx_locking.specs.Tables.{AreLocks, Term}
use Rattle.bx_locking.specs.Terms.{IsNoTake}
use Rattle.bx_locking.proofs.Basics.{last_place}
use Rattle.bx_locking.proofs.Beginning.{begins_term, new_term}
use Rattle.bx_locking.proofs.Growing.{grows_on}
use Rattle.bx_locking.proofs.Leases.{OpensNone, leases_end, leases_grow, leases_open, still_promised}
use Rattle.bx_locking.proofs.Owned.{single_grows, was_own}
use Rattle.bx_locking.proofs.Terms.{next_most}
use Rattle.bx_master.specs.Masters.{Mastering}
use Rattle.bx_clerk.specs.Clerks.{Clerking}
use Rattle.bx_lock_machines.proofs.Boots.{booted_grows}
use Rattle.bx_lock_machines.specs.Keeps.{AreBooted, Keeps}
use Rattle.bx_lock_steps.specs.Machines.{AreStates, FitsMaster, IsUntied}
use Rattle.bx_lock_steps.proofs.Chains.{first_among, new_boot, one_session, own_given, rising_grows}
use Rattle.bx_lock_steps.proofs.Floors.{grows_floor}
use Rattle.bx_lock_steps.proofs.Functions.{one_at, one_not, one_of}
use Rattle.bx_lock_steps.proofs.Growth.{clerk_grows, master_begins, master_grows, same_master, untied_begins, untied_grows}
use Rattle.bx_lock_steps.proofs.Others.{clerk_promised}

-- ---- the states

next_fits : (s : GlobalState) (change : Change) → IsLegal s change → Fits s.next_session → Fits (effect s change).next_session
next_fits s (Renew by boot reading) legal fits = fits
next_fits s (Take by boot reading) legal fits = fits
next_fits s (Open node boot reading) legal fits = let l = legal.row.4 in omega (arith, l)
next_fits s (Expire session term reading) legal fits = fits
next_fits s (Claim gone by) legal fits = fits
next_fits s (Close gone by) legal fits = fits
next_fits s (Shift device epoch mode second boot) legal fits = fits

end_fits : (s : GlobalState) (change : Change) → IsLegal s change → Fits s.term_end → Fits (effect s change).term_end
end_fits s (Renew by boot reading) legal fits = let l = legal.row.3 in omega (arith, l, fits)
end_fits s (Take by boot reading) legal fits = let l = legal.row.3 in omega (arith, l)
end_fits s (Open node boot reading) legal fits = fits
end_fits s (Expire session term reading) legal fits = fits
end_fits s (Claim gone by) legal fits = fits
end_fits s (Close gone by) legal fits = fits
end_fits s (Shift device epoch mode second boot) legal fits = fits

states_grow : (chain : Chain) (change : Change) (greatest : ℕ) (handed : List Change) (promised : List (ℕ × ℕ)) (noted ends more : ℕ → ℕ) (expiring : ℕ → Bool) → IsLegal (last chain) change → AreStates chain ends
    → AreLeases (grown chain change) greatest handed promised noted more expiring → ((p : GlobalState) (s : ℕ) → IsPlace chain p → LivesIn p s → more s ≡ ends s) → AreStates (grown chain change) more
states_grow chain change greatest handed promised noted ends more expiring legal states leases same = record {
  rising = λ p place. ⊎_elim
      (λ newest. subst (λ (s : GlobalState). AreRising s.sessions s.next_session) (sym newest) (rising_grows (last chain) change (states.rising (last chain) (last_place chain))))
      (λ old. states.rising p old)
      place;
  single = λ p place. ⊎_elim
      (λ newest. subst (λ (s : GlobalState). AreSingle chain.found s) (sym newest) (single_grows chain.found (last chain) change legal (states.single (last chain) (last_place chain))))
      (λ old. states.single p old)
      place;
  ends_most = λ p s place alive. ⊎_elim
      (λ newest. let here = subst (λ (x : GlobalState). LivesIn x s) newest alive in
      let m = leases.most s (more s) (leases.ended p place s alive) here in let e = ap (λ (x : GlobalState). x.term_end) newest in omega (arith, m, e))
      (λ old. let m = states.ends_most p s old alive in let e = same p s old alive in omega (arith, m, e))
      place;
  index_fits = let i = index_rises (last chain) change in let l = legal.index in omega (arith, i, l);
  next_fits = next_fits (last chain) change legal states.next_fits;
  end_fits = end_fits (last chain) change legal states.end_fits;
}

module _ (nodes : ℕ) (masters : ℕ → Mastering) (clerks : ℕ → Clerking) (past : OwnersPast) (change : Change) (keeps : Keeps nodes masters clerks past) (legal : IsLegal (last past.told.chain) change) where
  -- a session that it had, and has no more, isn't its again
  never_now : (s n : ℕ) → keeps.ghosts.had s ≡ true → session_of (last past.told.chain) n (past.told.boots (Node n)) ≢ Some s → session_of (effect (last past.told.chain) change) n (past.told.boots (Node n)) ≢ Some s
  never_now s n had differs own =
      let w = keeps.fits.had_are.was s had in
      let one = one_session (grown past.told.chain change) (effect (last past.told.chain) change) w.state n w.node (past.told.boots (Node n)) w.boot s rising (inl refl) (inr w.place) own w.own in
      let given = own_given w.state w.node w.boot s (keeps.fits.states.rising w.state w.place) w.own in
      let next = next_most past.told.chain.first past.told.chain.changes w.state w.place in
      let i = index_rises (last past.told.chain) change in
      let own_boot : HasOwnBoot past.told.chain (past.told.boots (Node n)) = subst (HasOwnBoot past.told.chain) (sym one.1) w.own_boot in
      differs (was_own (grown past.told.chain change) (last past.told.chain) (effect (last past.told.chain) change) n (past.told.boots (Node n)) s (inr (last_place past.told.chain)) (inl refl) (omega (arith, i))
      (keeps.fits.states.single (last past.told.chain) (last_place past.told.chain))
      (new_boot past.told.chain (past.told.boots (Node n)) (last past.told.chain) keeps.fits.locks.chained.found (keeps.fits.states.rising past.told.chain.first (first_among past.told.chain.first past.told.chain.changes)) own_boot (last_place past.told.chain))
      (omega (arith, given, next)) own)
    where
      rising : (p : GlobalState) → IsPlace (grown past.told.chain change) p → AreRising p.sessions p.next_session
      rising p place = ⊎_elim
          (λ newest. subst (λ (s : GlobalState). AreRising s.sessions s.next_session) (sym newest) (rising_grows (last past.told.chain) change (keeps.fits.states.rising (last past.told.chain) (last_place past.told.chain))))
          (λ old. keeps.fits.states.rising p old)
          place

  -- the data after it
  fits_then : (term : Term) (promised : List (ℕ × ℕ)) (noted ends : ℕ → ℕ) → AreLocks (grown past.told.chain change) past.holding (floor_after past change) keeps.ghosts.said keeps.ghosts.side term
      → AreLeases (grown past.told.chain change) past.told.greatest past.told.handed promised noted ends term.expiring → ((s e : ℕ) → IsPromised keeps.ghosts.promised s e → IsPromised promised s e)
      → ((p : GlobalState) (s : ℕ) → IsPlace past.told.chain p → LivesIn p s → ends s ≡ keeps.ghosts.ends s)
      → ((id : ℕ) (m : Mastering) → FitsMaster past.told.chain (past.told.knew (Server id)) (past.told.boots (Server id)) keeps.ghosts.said keeps.ghosts.side.drawn keeps.ghosts.term keeps.ghosts.noted id m
      → FitsMaster (grown past.told.chain change) (past.told.knew (Server id)) (past.told.boots (Server id)) keeps.ghosts.said keeps.ghosts.side.drawn term noted id m)
      → (past.told.boots (Server (last (grown past.told.chain change)).master) < (last (grown past.told.chain change)).master_boot → IsUntied (grown past.told.chain change) term noted)
      → AreBooted (grown past.told.chain change) past.told.handed past.told.boots
      → Keeps nodes masters clerks (owners_grown past change)
  fits_then term promised noted ends locks leases more same masters_grow before booted = record {
    ghosts = record {
      said = keeps.ghosts.said;
      side = keeps.ghosts.side;
      term = term;
      promised = promised;
      noted = noted;
      ends = ends;
      had = keeps.ghosts.had;
    };
    fits = record {
      locks = locks;
      leases_are = leases;
      had_are = record {
        was = λ s had. let w = keeps.fits.had_are.was s had in record { state = w.state; node = w.node; boot = w.boot; place = inr w.place; own = w.own; own_boot = w.own_boot; most = w.most; seen = w.seen };
        once = λ s n had. ⊎_elim
            (λ own. inl own)
            (λ never. inr (λ p place order. ⊎_elim
            (λ newest own. never_now s n had (never (last past.told.chain) (last_place past.told.chain) (keeps.fits.knew_most (Node n))) (subst (λ (x : GlobalState). session_of x n (past.told.boots (Node n)) ≡ Some s) newest own))
            (λ old. never p old order)
            place))
            (keeps.fits.had_are.once s n had);
        fresh = keeps.fits.had_are.fresh;
      };
      states = states_grow past.told.chain change past.told.greatest past.told.handed promised noted keeps.ghosts.ends ends term.expiring legal keeps.fits.states leases same;
      booted = booted;
      knew_most = λ who. let k = keeps.fits.knew_most who in let i = index_rises (last past.told.chain) change in omega (arith, k, i);
      clerk = λ n. clerk_promised (grown past.told.chain change) (past.told.knew (Node n)) (past.told.boots (Node n)) keeps.ghosts.side keeps.ghosts.had keeps.ghosts.promised promised n (clerks n) more
          (clerk_grows past.told.chain change (past.told.knew (Node n)) (past.told.boots (Node n)) keeps.ghosts.side keeps.ghosts.had keeps.ghosts.promised n (clerks n) (keeps.fits.clerk n));
      node = keeps.fits.node;
      boot = keeps.fits.boot;
      server = keeps.fits.server;
      master = λ id inside up. masters_grow id (masters id) (keeps.fits.master id inside up);
      before = before;
      letters = keeps.fits.letters;
      words = keeps.fits.words;
      promises = λ s e has. more s e (keeps.fits.promises s e has);
      leases = λ s e has. more s e (keeps.fits.leases s e has);
    };
  }

  -- by a change that begins no term
  calm_locks : IsNoTake change → ((n t reading : ℕ) → change ≡ Expire n t reading → Contains past.told.handed change) → AreLocks (grown past.told.chain change) past.holding (floor_after past change) keeps.ghosts.said keeps.ghosts.side keeps.ghosts.term
  calm_locks calm own = grows_on past.told.chain past.holding past.floor (floor_after past change) keeps.ghosts.said keeps.ghosts.side keeps.ghosts.term change keeps.fits.locks calm legal (grows_floor past change)
      (λ n t reading is.
      let has = subst (λ (c : Change). Contains past.told.handed c) is (own n t reading is) in
      let at : IsLegal (last past.told.chain) (Expire n t reading) = subst (λ (c : Change). IsLegal (last past.told.chain) c) is legal in
      ((keeps.fits.leases_are.expires n t reading has).2 at.row.0).marked)

  calm_before : IsNoTake change → past.told.boots (Server (last (grown past.told.chain change)).master) < (last (grown past.told.chain change)).master_boot → IsUntied (grown past.told.chain change) keeps.ghosts.term keeps.ghosts.noted
  calm_before calm ahead =
      let k = same_master (last past.told.chain) change calm in
      let e = ap (λ (m : ℕ). past.told.boots (Server m)) k.0 in let b = k.1 in
      untied_grows past.told.chain change keeps.ghosts.term keeps.ghosts.noted calm keeps.fits.locks.term_is.place (keeps.fits.before (omega (arith, ahead, e, b)))

  calm_master : IsNoTake change → (id : ℕ) (m : Mastering) → FitsMaster past.told.chain (past.told.knew (Server id)) (past.told.boots (Server id)) keeps.ghosts.said keeps.ghosts.side.drawn keeps.ghosts.term keeps.ghosts.noted id m
      → FitsMaster (grown past.told.chain change) (past.told.knew (Server id)) (past.told.boots (Server id)) keeps.ghosts.said keeps.ghosts.side.drawn keeps.ghosts.term keeps.ghosts.noted id m
  calm_master calm id m is = master_grows past.told.chain change (past.told.knew (Server id)) (past.told.boots (Server id)) keeps.ghosts.said keeps.ghosts.side.drawn keeps.ghosts.term keeps.ghosts.noted id m calm keeps.fits.locks.term_is.place is

  calm_grows : IsNoTake change → OpensNone change → ((n t reading : ℕ) → change ≡ Expire n t reading → Contains past.told.handed change) → AreBooted (grown past.told.chain change) past.told.handed past.told.boots
      → Keeps nodes masters clerks (owners_grown past change)
  calm_grows calm opens own booted = fits_then keeps.ghosts.term keeps.ghosts.promised keeps.ghosts.noted keeps.ghosts.ends (calm_locks calm own)
      (leases_grow past.told.chain past.told.greatest past.told.handed keeps.ghosts.promised keeps.ghosts.noted keeps.ghosts.ends keeps.ghosts.term.expiring change keeps.fits.locks.chained keeps.fits.leases_are legal calm opens own)
      (λ s e has. has) (λ p s place alive. refl) (calm_master calm) (calm_before calm) booted

open_grows : (nodes : ℕ) (masters : ℕ → Mastering) (clerks : ℕ → Clerking) (past : OwnersPast) (node boot reading : ℕ) (keeps : Keeps nodes masters clerks past) → IsLegal (last past.told.chain) (Open node boot reading)
    → AreBooted (grown past.told.chain (Open node boot reading)) past.told.handed past.told.boots → Keeps nodes masters clerks (owners_grown past (Open node boot reading))
open_grows nodes masters clerks past node boot reading keeps legal booted =
    fits_then nodes masters clerks past (Open node boot reading) keeps legal keeps.ghosts.term (((last past.told.chain).next_session, until) ∷ keeps.ghosts.promised) keeps.ghosts.noted ends
    (calm_locks nodes masters clerks past (Open node boot reading) keeps legal tt (λ n t r is. absurd cc))
    (leases_open past.told.chain past.told.greatest past.told.handed keeps.ghosts.promised keeps.ghosts.noted keeps.ghosts.ends ends keeps.ghosts.term.expiring node boot reading keeps.fits.locks.chained keeps.fits.leases_are legal
    (one_at (last past.told.chain).next_session until keeps.ghosts.ends) (λ t differ. one_not (last past.told.chain).next_session until keeps.ghosts.ends t differ))
    (λ s e has. still_promised keeps.ghosts.promised ((last past.told.chain).next_session, until) s e has)
    (λ p s place alive. one_not (last past.told.chain).next_session until keeps.ghosts.ends s
    (λ same. let k = keeps.fits.leases_are.known s (keeps.ghosts.ends s) (keeps.fits.leases_are.ended p place s alive) in omega (arith, k, same)))
    (calm_master nodes masters clerks past (Open node boot reading) keeps legal tt)
    (calm_before nodes masters clerks past (Open node boot reading) keeps legal tt) booted
  where
    until : ℕ
    until = (opened (last past.told.chain) node boot reading).until

    ends : ℕ → ℕ
    ends = one_of (last past.told.chain).next_session until keeps.ghosts.ends

take_grows : (nodes : ℕ) (masters : ℕ → Mastering) (clerks : ℕ → Clerking) (past : OwnersPast) (by boot reading : ℕ) (keeps : Keeps nodes masters clerks past) → IsLegal (last past.told.chain) (Take by boot reading) → Contains past.told.handed (Take by boot reading)
    → AreBooted (grown past.told.chain (Take by boot reading)) past.told.handed past.told.boots → Keeps nodes masters clerks (owners_grown past (Take by boot reading))
take_grows nodes masters clerks past by boot reading keeps legal own booted =
    fits_then nodes masters clerks past (Take by boot reading) keeps legal (new_term (last (grown past.told.chain (Take by boot reading)))) keeps.ghosts.promised (λ session. 0) keeps.ghosts.ends
    (begins_term past.told.chain past.holding past.floor keeps.ghosts.said keeps.ghosts.side keeps.ghosts.term by boot reading keeps.fits.locks)
    (leases_end past.told.chain past.told.greatest past.told.handed keeps.ghosts.promised keeps.ghosts.noted keeps.ghosts.ends keeps.ghosts.term.expiring by boot reading keeps.fits.locks.chained keeps.fits.leases_are legal own)
    (λ s e has. has) (λ p s place alive. refl)
    (λ id m is. master_begins past.told.chain by boot reading (past.told.knew (Server id)) (past.told.boots (Server id)) keeps.ghosts.said keeps.ghosts.side.drawn keeps.ghosts.term keeps.ghosts.noted id m is)
    (λ ahead. untied_begins past.told.chain by boot reading) booted

-- no boot of a session comes to be too great
still_booted : (nodes : ℕ) (masters : ℕ → Mastering) (clerks : ℕ → Clerking) (past : OwnersPast) (keeps : Keeps nodes masters clerks past) (change : Change) → IsOwnersOwn past.told.handed change → AreBooted (grown past.told.chain change) past.told.handed past.told.boots
still_booted nodes masters clerks past keeps change own = booted_grows past.told.chain past.told.handed past.told.boots (keeps.fits.states.rising (last past.told.chain) (last_place past.told.chain)) keeps.fits.booted change own

-- The chain may grow by each change that is legal, and that was handed back where owners ask for such.
pub grows : (nodes : ℕ) (masters : ℕ → Mastering) (clerks : ℕ → Clerking) (past : OwnersPast) (change : Change) → Keeps nodes masters clerks past → IsLegal (last past.told.chain) change → IsOwnersOwn past.told.handed change → Keeps nodes masters clerks (owners_grown past change)
grows nodes masters clerks past (Renew by boot reading) keeps legal own = calm_grows nodes masters clerks past (Renew by boot reading) keeps legal tt tt (λ n t r is. absurd cc) (still_booted nodes masters clerks past keeps (Renew by boot reading) own)
grows nodes masters clerks past (Take by boot reading) keeps legal own = take_grows nodes masters clerks past by boot reading keeps legal own (still_booted nodes masters clerks past keeps (Take by boot reading) own)
grows nodes masters clerks past (Open node boot reading) keeps legal own = open_grows nodes masters clerks past node boot reading keeps legal (still_booted nodes masters clerks past keeps (Open node boot reading) own)
grows nodes masters clerks past (Expire session term reading) keeps legal own = calm_grows nodes masters clerks past (Expire session term reading) keeps legal tt tt (λ n t r is. own) (still_booted nodes masters clerks past keeps (Expire session term reading) own)
grows nodes masters clerks past (Claim gone by) keeps legal own = calm_grows nodes masters clerks past (Claim gone by) keeps legal tt tt (λ n t r is. absurd cc) (still_booted nodes masters clerks past keeps (Claim gone by) own)
grows nodes masters clerks past (Close gone by) keeps legal own = calm_grows nodes masters clerks past (Close gone by) keeps legal tt tt (λ n t r is. absurd cc) (still_booted nodes masters clerks past keeps (Close gone by) own)
grows nodes masters clerks past (Shift device epoch mode second boot) keeps legal own = calm_grows nodes masters clerks past (Shift device epoch mode second boot) keeps legal tt tt (λ n t r is. absurd cc) (still_booted nodes masters clerks past keeps (Shift device epoch mode second boot) own)
