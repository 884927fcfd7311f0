-- A clerk wants a block: what it keeps fits again.
use Rattle.std.proofs.Common.{◌≡◌, ⊎_elim, ℕ, ◌+◌, ◌<◌, ◌≤◌, Bool, List, ◌∷◌, Some, None, refl, sym, ◌∙◌, ap, subst, arith}
use Rattle.std.proofs.lemmas.Bool.Decides.{eqb_tells}
use Rattle.bx_base.specs.declared.names.Mode.{Mode}
use Rattle.bx_base.specs.declared.names.Mode.TheVariants.{Exclusive}
use Rattle.bx_rows.specs.Conditions.{Fits}
use Rattle.bx_facts.specs.Chains.{Chain, last}
use Rattle.bx_facts.specs.Holds.{Holds}
use Rattle.bx_lock_words.specs.declared.words.Want.{Want}
use Rattle.bx_lock_words.specs.declared.words.Word.{Word}
use Rattle.bx_lock_words.specs.declared.words.Word.TheVariants.{Wants}
use Rattle.bx_locking.specs.Tables.{AreLocks, Puts, Request, Requests, Rises, Side, Term, hold_from}
use Rattle.bx_locking.proofs.Basics.{drop_or, put_at, same_or}
use Rattle.bx_locking.proofs.Clerks.{wanted, wants_block}
use Rattle.bx_clerk.specs.Clerks.{Clerking}
use Rattle.bx_clerk.specs.Requests.{request_in, with_request, without_request}
use Rattle.bx_clerk.specs.declared.requests.Asking.{Asking}
use Rattle.bx_clerk.proofs.Lookups.{out_beside, out_here, put_beside, put_here}
use Rattle.bx_lock_steps.specs.Machines.{AreUnique, FitsClerk, request_from}
use Rattle.bx_lock_steps.proofs.Clerks.{KeepsSides, changed_fits, keeps_sides}
use Rattle.bx_lock_steps.proofs.Requests.{out_unique, put_unique}
use Rattle.bx_lock_steps.proofs.Functions.{one_at, one_not, one_of, one_spot, spot_puts, unheld}

-- ---- a number is drawn

abbrev pub new_asking : Clerking → Mode → Asking
new_asking c mode = record { mode = mode; number = c.drawn + 1; held = None }

abbrev pub asking_now : ℕ → Mode → Clerking → Clerking
asking_now block mode c = record c { drawn = c.drawn + 1; requests = with_request c.requests block (new_asking c mode) }

abbrev pub want_now : Clerking → ℕ → ℕ → Mode → Want
want_now c s block mode = record { session = s; block = block; mode = mode; number = c.drawn + 1 }

abbrev pub side_asking : Side → Clerking → ℕ → ℕ → Mode → Side
side_asking side c s block mode = record {
  requests = one_spot s block (Some (wanted (want_now c s block mode))) side.requests;
  drawn = one_of s (c.drawn + 1) side.drawn;
  given = side.given;
  debt = side.debt;
}

pub record Wanted (chain : Chain) (holding : Holds) (floor : ℕ → ℕ) (said : List Word) (side : Side) (term : Term) (knew boot : ℕ) (had : ℕ → Bool) (promised : List (ℕ × ℕ)) (n : ℕ) (c : Clerking) (s block : ℕ) (mode : Mode) : Type 0 where
  pub locks : AreLocks chain (unheld holding s block) floor (Wants (want_now c s block mode) ∷ said) (side_asking side c s block mode) term
  pub clerk : FitsClerk chain knew boot (side_asking side c s block mode) had promised n (asking_now block mode c)
  pub keeps : KeepsSides s side (side_asking side c s block mode)
  pub rises : Rises side.drawn (side_asking side c s block mode).drawn

pub wants_on : (chain : Chain) (holding : Holds) (floor : ℕ → ℕ) (said : List Word) (side : Side) (term : Term) (knew boot : ℕ) (had : ℕ → Bool) (promised : List (ℕ × ℕ)) (n : ℕ) (c : Clerking) (s block : ℕ) (mode : Mode) → AreLocks chain holding floor said side term
    → FitsClerk chain knew boot side had promised n c → c.session ≡ Some s → s < (last chain).next_session → Fits block → Fits (c.drawn + 1) → Wanted chain holding floor said side term knew boot had promised n c s block mode
wants_on chain holding floor said side term knew boot had promised n c s block mode locks fits own known block_fits number_fits = record {
  locks = wants_block chain holding (unheld holding s block) floor said side term (want_now c s block mode) (side_asking side c s block mode).requests (side_asking side c s block mode).drawn locks
      (fits.this_life s own) known (let d = fits.drawn s own in omega (arith, d)) rise
      (let e = one_at s (c.drawn + 1) side.drawn in omega (arith, e))
      (spot_puts s block (Some (wanted (want_now c s block mode))) side.requests)
      (spot_puts s block None holding);
  clerk = changed_fits chain knew boot side (side_asking side c s block mode) had promised n s block (Some (wanted (want_now c s block mode))) c (asking_now block mode c) own (record {
    session = refl;
    unique = put_unique c.requests block (new_asking c mode) fits.unique;
    requests = spot_puts s block (Some (wanted (want_now c s block mode))) side.requests;
    at = ap request_from (put_here c.requests block (new_asking c mode));
    others = λ b differ. put_beside c.requests block b (new_asking c mode) differ;
    drawn = let e = one_at s (c.drawn + 1) side.drawn in omega (arith, e);
    given = fits.given s own;
    lease = refl;
    block_fits = λ r there. block_fits;
    drawn_fits = number_fits;
    given_fits = fits.given_fits;
    knows_fits = fits.knows_fits;
  }) fits;
  keeps = keeps_sides s block (Some (wanted (want_now c s block mode))) side (side_asking side c s block mode) (spot_puts s block (Some (wanted (want_now c s block mode))) side.requests)
      (λ t differ. one_not s (c.drawn + 1) side.drawn t differ) (λ t differ. refl);
  rises = rise;
}
  where
    rise : Rises side.drawn (one_of s (c.drawn + 1) side.drawn)
    rise = record {
      each = λ t. ⊎_elim
          (λ same. let e = ap (one_of s (c.drawn + 1) side.drawn) same.1 in let f = one_at s (c.drawn + 1) side.drawn in let d = fits.drawn s own in let g = ap side.drawn same.1 in omega (arith, e, f, d, g))
          (λ other. let e = one_not s (c.drawn + 1) side.drawn t other.1 in omega (arith, e))
          (eqb_tells t s);
    }

-- ---- no number is left: the hold ends, and nothing is asked

abbrev pub side_ending : Side → ℕ → ℕ → Side
side_ending side s block = record { requests = one_spot s block None side.requests; drawn = side.drawn; given = side.given; debt = side.debt }

abbrev pub ending_now : ℕ → Clerking → Clerking
ending_now block c = record c { requests = without_request c.requests block }

ends_hold : (chain : Chain) (holding less : Holds) (floor : ℕ → ℕ) (said : List Word) (side : Side) (term : Term) (s b : ℕ) (new : Requests) → AreLocks chain holding floor said side term
    → Puts s b None side.requests new → Puts s b None holding less
    → AreLocks chain less floor said (record { requests = new; drawn = side.drawn; given = side.given; debt = side.debt }) term
ends_hold chain holding less floor said side term s b new locks puts drops = record {
  chained = locks.chained;
  sides = record {
    wants = λ w has r is. locks.sides.wants w has r (fewer w.session w.block r is);
    released = λ l has r is. locks.sides.released l has r (fewer l.session l.block r is);
    want_drawn = locks.sides.want_drawn;
    revoke_drawn = locks.sides.revoke_drawn;
    release_drawn = locks.sides.release_drawn;
    request_drawn = λ t c r is. locks.sides.request_drawn t c r (fewer t c r is);
    debts = locks.sides.debts;
  };
  listed = record {
    entry = locks.listed.entry;
    apart = locks.listed.apart;
    drawn_most = locks.listed.drawn_most;
    grants = locks.listed.grants;
    revokes = locks.listed.revokes;
    releases = locks.listed.releases;
    held = λ t c r i at. locks.listed.held t c r i (fewer t c r at);
    stands = λ t c r i at. locks.listed.stands t c r i (fewer t c r at);
    takable = λ g has of_term row r at. locks.listed.takable g has of_term row r (fewer g.session g.block r at);
    paid = locks.listed.paid;
  };
  term_is = locks.term_is;
  floors = record {
    least = locks.floors.least;
    owed = locks.floors.owed;
    settles = locks.floors.settles;
    reach = λ t c e r alive there at. locks.floors.reach t c e r alive there (fewer t c r at);
  };
  held = record {
    is = λ t c. ⊎_elim
        (λ same. put_at s b None holding less drops t c same.0 same.1 ∙ sym (ap hold_from (put_at s b None side.requests new puts t c same.0 same.1)))
        (λ other. drops.others t c other ∙ locks.held.is t c ∙ ap hold_from (sym (puts.others t c other)))
        (same_or t s c b);
    known = λ t c r at. locks.held.known t c r (fewer t c r at);
    own = λ t c r at. locks.held.own t c r (fewer t c r at);
    apart = λ t u c h k differ has also one two. locks.held.apart t u c h k differ has also (gone t c h one) (gone u c k two);
    reaches = λ t c h lives at. locks.held.reaches t c h lives (gone t c h at);
    closed = λ t c i none at. locks.held.closed t c i none (gone t c (Exclusive, i) at);
  };
}
  where
    fewer : (t c : ℕ) (r : Request) → new t c ≡ Some r → side.requests t c ≡ Some r
    fewer t c r is = (drop_or s b side.requests new puts t c r is).is

    gone : (t c : ℕ) (h : Mode × ℕ) → less t c ≡ Some h → holding t c ≡ Some h
    gone t c h is = (drop_or s b holding less drops t c h is).is

pub record Ended (chain : Chain) (holding : Holds) (floor : ℕ → ℕ) (said : List Word) (side : Side) (term : Term) (knew boot : ℕ) (had : ℕ → Bool) (promised : List (ℕ × ℕ)) (n : ℕ) (new : Clerking) (s block : ℕ) : Type 0 where
  pub locks : AreLocks chain (unheld holding s block) floor said (side_ending side s block) term
  pub clerk : FitsClerk chain knew boot (side_ending side s block) had promised n new
  pub keeps : KeepsSides s side (side_ending side s block)

-- a clerk whose request for a block is gone
pub gone_fits : (chain : Chain) (side more : Side) (knew boot : ℕ) (had : ℕ → Bool) (promised : List (ℕ × ℕ)) (n : ℕ) (c new : Clerking) (s block : ℕ) → FitsClerk chain knew boot side had promised n c → c.session ≡ Some s
    → Puts s block None side.requests more.requests → new.requests ≡ without_request c.requests block → new.session ≡ c.session → new.lease ≡ c.lease → new.knows ≡ c.knows → new.drawn ≡ c.drawn → more.drawn s ≤ c.drawn → more.given s ≤ new.given → Fits new.given
    → FitsClerk chain knew boot more had promised n new
gone_fits chain side more knew boot had promised n c new s block fits own puts requests session lease knows counts drawn given given_fits =
    changed_fits chain knew boot side more had promised n s block None c new own (record {
      session = session;
      unique = subst AreUnique (sym requests) (out_unique c.requests block fits.unique);
      requests = puts;
      at = ap request_from there;
      others = λ b differ. ap (λ (x : List (ℕ × Asking)). request_in x b) requests ∙ out_beside c.requests block b differ;
      drawn = omega (arith, drawn, counts);
      given = given;
      lease = lease;
      block_fits = λ r has. absurd (none_some r (sym there ∙ has));
      drawn_fits = subst Fits (sym counts) fits.drawn_fits;
      given_fits = given_fits;
      knows_fits = subst Fits (sym knows) fits.knows_fits;
    }) fits
  where
    there : request_in new.requests block ≡ None
    there = ap (λ (x : List (ℕ × Asking)). request_in x block) requests ∙ out_here c.requests block

    none_some : (r : Asking) → None ≡ Some r → ⊥
    none_some r wrong = cc

pub ends_on : (chain : Chain) (holding : Holds) (floor : ℕ → ℕ) (said : List Word) (side : Side) (term : Term) (knew boot : ℕ) (had : ℕ → Bool) (promised : List (ℕ × ℕ)) (n : ℕ) (c : Clerking) (s block : ℕ) → AreLocks chain holding floor said side term
    → FitsClerk chain knew boot side had promised n c → c.session ≡ Some s → Ended chain holding floor said side term knew boot had promised n (ending_now block c) s block
ends_on chain holding floor said side term knew boot had promised n c s block locks fits own = record {
  locks = ends_hold chain holding (unheld holding s block) floor said side term s block (side_ending side s block).requests locks (spot_puts s block None side.requests) (spot_puts s block None holding);
  clerk = gone_fits chain side (side_ending side s block) knew boot had promised n c (ending_now block c) s block fits own (spot_puts s block None side.requests) refl refl refl refl refl (fits.drawn s own) (fits.given s own) fits.given_fits;
  keeps = keeps_sides s block None side (side_ending side s block) (spot_puts s block None side.requests) (λ t differ. refl) (λ t differ. refl);
}
