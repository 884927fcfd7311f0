-- Boots of sessions, as the chain grows and machines start again.
use Rattle.std.proofs.Common.{◌≡◌, ◌⊎◌, inl, inr, ⊎_elim, ℕ, ◌+◌, ◌<◌, ◌≤◌, Bool, true, false, List, [], ◌∷◌, ◌++◌, Contains, Option, None, Some, IfSome, refl, sym, ◌∙◌, ap, subst, arith}
use Rattle.std.specs.Prelude.{ltb, not, ◌&&◌, if◌then◌else◌}
use Rattle.bx_base.specs.declared.names.Actor.{Actor}
use Rattle.bx_base.specs.declared.names.Actor.TheVariants.{Node}
use Rattle.bx_clerk.specs.Clerks.{Clerking, is_same, learned}
use Rattle.bx_clerk.specs.Events.{tick_change}
use Rattle.bx_facts.proofs.Lists.{front_or_behind, nothing}
use Rattle.bx_facts.specs.Chains.{Chain, HasOwnBoot, IsAboveBoots, IsOwnersOwn, found_chain, grown, last, opening_chain, session_of, with_change}
use Rattle.bx_global.specs.Allowed.{AreRising, IsAllowed}
use Rattle.bx_global.specs.Table.{effect, opened}
use Rattle.bx_global.specs.declared.change.Change.{Change}
use Rattle.bx_global.specs.declared.change.Change.TheVariants.{Claim, Close, Expire, Open, Renew, Shift, Take}
use Rattle.bx_global.specs.declared.state.GlobalState.{GlobalState}
use Rattle.bx_lock_machines.specs.Keeps.{AreBooted}
use Rattle.bx_lock_steps.proofs.Chains.{rising_grows, row_found, row_next}
use Rattle.bx_locking.proofs.Owned.{rows_came}
use Rattle.bx_locking.specs.Owned.{IsRowIn}
use Rattle.bx_master.specs.Events.{change_of, expiry, first_past, take_change}
use Rattle.bx_master.specs.Masters.{Mastering, is_master}
use Rattle.bx_rows.specs.Words.{row_in}
use Rattle.bx_rows.specs.declared.session.SessionRow.{SessionRow}

-- ---- the chain grows

pub row_pushed : (rows : List SessionRow) (new row : SessionRow) → IsRowIn (rows ++ new ∷ []) row → IsRowIn rows row ⊎ (row ≡ new)
row_pushed [] new row (inl is) = inr is
row_pushed [] new row (inr none) = absurd none
row_pushed (one ∷ rest) new row (inl is) = inl (inl is)
row_pushed (one ∷ rest) new row (inr more) = ⊎_elim (λ old. inl (inr old)) (λ is. inr is) (row_pushed rest new row more)

module _ (chain : Chain) (handed : List Change) (boots : Actor → ℕ) (rising : AreRising (last chain).sessions (last chain).next_session) (were : AreBooted chain handed boots) where
  -- by a change that opens no session: each row came of one
  came : (change : Change) → (effect (last chain) change).next_session ≡ (last chain).next_session → AreBooted (grown chain change) handed boots
  came change next = record {
    rows = λ row boot has above own.
        let less = row_next (effect (last chain) change).sessions (effect (last chain) change).next_session row (rising_grows (last chain) change rising) has in
        let was = (rows_came (last chain) change).each row has (omega (arith, less, next)) in
        let same = ap (λ (n : ℕ). boots (Node n)) was.2.node in
        let lower = were.rows was.0 boot was.1 (omega (arith, above, same)) own in
        let e = was.2.boot in omega (arith, lower, e);
    asked = were.asked;
  }

  opens : (node began reading : ℕ) → began ≤ boots (Node node) → AreBooted (grown chain (Open node began reading)) handed boots
  opens node began reading most = record {
    rows = λ row boot has above own. ⊎_elim
        (λ old. were.rows row boot old above own)
        (λ new. let same = ap (λ (x : SessionRow). boots (Node x.node)) new in let e = ap (λ (x : SessionRow). x.boot) new in omega (arith, above, same, e, most))
        (row_pushed (last chain).sessions (opened (last chain) node began reading) row has);
    asked = were.asked;
  }

  pub booted_grows : (change : Change) → IsOwnersOwn handed change → AreBooted (grown chain change) handed boots
  booted_grows (Renew by boot reading) own = came (Renew by boot reading) refl
  booted_grows (Take by boot reading) own = came (Take by boot reading) refl
  booted_grows (Open node boot reading) own = opens node boot reading (were.asked node boot reading own)
  booted_grows (Expire session term reading) own = came (Expire session term reading) refl
  booted_grows (Claim gone by) own = came (Claim gone by) refl
  booted_grows (Close gone by) own = came (Close gone by) refl
  booted_grows (Shift device epoch mode second boot) own = came (Shift device epoch mode second boot) refl

-- ---- machines start again, and ask

pub booted_rises : (chain : Chain) (handed : List Change) (boots more : Actor → ℕ) → ((n : ℕ) → boots (Node n) ≤ more (Node n)) → AreBooted chain handed boots → AreBooted chain handed more
booted_rises chain handed boots more rises were = record {
  rows = λ row boot has above own. were.rows row boot has (let r = rises row.node in omega (arith, above, r)) own;
  asked = λ node boot reading has. let most = were.asked node boot reading has in let r = rises node in omega (arith, most, r);
}

-- what is asked for opens a session of a node in none but its own boot
abbrev pub OpensOwn : (Actor → ℕ) → Option Change → Type 0
OpensOwn boots change = (node boot reading : ℕ) → change ≡ Some (Open node boot reading) → boot ≤ boots (Node node)

pub booted_asks : (chain : Chain) (handed : List Change) (boots : Actor → ℕ) (change : Option Change) → OpensOwn boots change → AreBooted chain handed boots → AreBooted chain (with_change change handed) boots
booted_asks chain handed boots None own were = were
booted_asks chain handed boots (Some change) own were = record {
  rows = were.rows;
  asked = λ node boot reading has. ⊎_elim
      (λ new. own node boot reading (ap (λ (c : Change). Some c) new))
      (λ old. were.asked node boot reading old)
      (front_or_behind change handed (Open node boot reading) has);
}

abbrev pub OpensNone : Option Change → Type 0
OpensNone change = (node boot reading : ℕ) → change ≡ Some (Open node boot reading) → ⊥

pub opens_nothing : OpensNone None
opens_nothing node boot reading is = absurd cc

-- a server asks for no session
takes_term : (known : GlobalState) (reading : ℕ) (m : Mastering) → OpensNone (take_change known reading m)
takes_term known reading m = by (ltb (known.term_end + 500) reading)
  where
    by : (late : Bool) → OpensNone (if late then Some (Take m.server m.boot reading) else None)
    by true node boot at is = absurd cc
    by false node boot at is = absurd cc

expires : (known : GlobalState) (reading : ℕ) (m : Mastering) (past : Option ℕ) → OpensNone (expiry known reading m past)
expires known reading m None = takes_term known reading m
expires known reading m (Some session) = λ node boot at is. absurd cc

pub server_opens : (known : GlobalState) (reading : ℕ) (m : Mastering) → OpensNone (change_of known reading m)
server_opens known reading m = by (not (is_master m known)) (not (ltb known.term_end reading) && ltb known.term_end (reading + 4000))
  where
    by : (other soon : Bool) → OpensNone (if other then take_change known reading m else (if soon then Some (Renew m.server m.boot reading) else expiry known reading m (first_past known reading m known.sessions)))
    by true soon = takes_term known reading m
    by false true = λ node boot at is. absurd cc
    by false false = expires known reading m (first_past known reading m known.sessions)

-- a clerk asks for one in its own boot
pub clerk_opens : (boots : Actor → ℕ) (own : Option ℕ) (c : Clerking) (reading : ℕ) → c.boot ≤ boots (Node c.node) → OpensOwn boots (tick_change own c reading)
clerk_opens boots (Some session) c reading most node boot at is = absurd cc
clerk_opens boots None c reading most node boot at is = let n : c.node ≡ node = cc in let b : c.boot ≡ boot = cc in let e = ap (λ (k : ℕ). boots (Node k)) n in omega (arith, most, b, e)

pub learned_stays : (known : GlobalState) (c : Clerking) → ((learned known c).node ≡ c.node) × ((learned known c).boot ≡ c.boot)
learned_stays known c =
    (elim (is_same c.session (session_of known c.node c.boot)) as (λ (b : Bool). is_same c.session (session_of known c.node c.boot) ≡ b → ((learned known c).node ≡ c.node) × ((learned known c).boot ≡ c.boot)) [
      | true ↦ λ t. rw t (refl, refl)
      | false ↦ λ t. rw t (refl, refl)
    ]) refl

-- ---- to begin with

pub booted_first : (s : GlobalState) → ((row : SessionRow) → IsRowIn s.sessions row → row.boot ≡ 0) → AreBooted (opening_chain s) [] (λ who. 0)
booted_first s none = record {
  rows = λ row boot has above own. let e = none row has in omega (arith, above, e);
  asked = λ node boot reading has. absurd (nothing (Open node boot reading) has);
}

pub booted_found : (s : GlobalState) (boots : Actor → ℕ) → IsAllowed s → AreBooted (found_chain s) [] boots
booted_found s boots allowed = record {
  rows = λ row boot has above own. ⊎_elim
      (λ none. absurd (let less = row_next s.sessions s.next_session row allowed.rising has in omega (arith, none, less)))
      (λ are. by row boot has (are.sessions row.number))
      own;
  asked = λ node boot reading has. absurd (nothing (Open node boot reading) has);
}
  where
    by : (row : SessionRow) (boot : ℕ) → IsRowIn s.sessions row → IfSome (row_in s.sessions row.number) (λ one. one.boot < boot) → row.boot < boot
    by row boot has is = subst (λ (o : Option SessionRow). IfSome o (λ one. one.boot < boot)) (row_found s.sessions row s.next_session allowed.rising has) is
