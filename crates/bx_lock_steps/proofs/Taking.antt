-- A clerk takes a grant, gives a block up, answers a revoke, or asks again: what it keeps fits again.
use Rattle.std.proofs.Common.{◌≡◌, ◌≢◌, ⊎_elim, ℕ, ◌≤◌, Bool, List, ◌∷◌, max, Option, Some, None, refl, sym, ◌∙◌, ap, subst, arith}
use Rattle.std.proofs.lemmas.Bool.Decides.{eqb_tells}
use Rattle.bx_global.specs.declared.state.GlobalState.{GlobalState}
use Rattle.bx_rows.specs.Conditions.{Fits}
use Rattle.bx_facts.specs.Chains.{Chain, IsPlace, LivesIn, last}
use Rattle.bx_facts.specs.Holds.{Hold, Holds, given_floor}
use Rattle.bx_lock_words.specs.declared.words.Grant.{Grant}
use Rattle.bx_lock_words.specs.declared.words.Release.{Release}
use Rattle.bx_lock_words.specs.declared.words.Revoke.{Revoke}
use Rattle.bx_lock_words.specs.declared.words.Want.{Want}
use Rattle.bx_lock_words.specs.declared.words.Word.{Word}
use Rattle.bx_lock_words.specs.declared.words.Word.TheVariants.{Wants, Grants, Revokes, Releases}
use Rattle.bx_locking.specs.Tables.{AreLocks, Request, Side, Term, hold_from}
use Rattle.bx_locking.specs.Words.{IsSaid}
use Rattle.bx_locking.proofs.Basics.{last_place, said_or}
use Rattle.bx_locking.proofs.Giving.{gives_up}
use Rattle.bx_locking.proofs.Holding.{answers_revoke, drops_request, held_at, takes_grant}
use Rattle.bx_locking.proofs.Terms.{begins_least}
use Rattle.bx_clerk.specs.Clerks.{Clerking, giving_up}
use Rattle.bx_clerk.specs.Events.{held_by}
use Rattle.bx_clerk.specs.Requests.{request_in, with_request, without_request}
use Rattle.bx_clerk.specs.declared.requests.Asking.{Asking}
use Rattle.bx_clerk.proofs.Lookups.{put_beside, put_here}
use Rattle.bx_lock_steps.specs.Machines.{FitsClerk, request_from}
use Rattle.bx_lock_steps.proofs.Clerks.{KeepsSides, changed_fits, keeps_sides}
use Rattle.bx_lock_steps.proofs.Floors.{gives_floor}
use Rattle.bx_lock_steps.proofs.Requests.{put_unique}
use Rattle.bx_lock_steps.proofs.Functions.{one_at, one_not, one_of, one_spot, spot_puts, unheld}
use Rattle.bx_lock_steps.proofs.Wanting.{gone_fits, side_ending}

-- ---- a grant is taken

abbrev pub taking : Grant → Clerking → Clerking
taking g c = record c { requests = with_request c.requests g.block (held_by c g) }

abbrev pub side_taking : Side → Clerking → Grant → Side
side_taking side c g = record { requests = one_spot g.session g.block (Some (held_at g (max g.index c.given))) side.requests; drawn = side.drawn; given = side.given; debt = side.debt }

abbrev pub holds_now : Holds → Clerking → Grant → Holds
holds_now holding c g = one_spot g.session g.block (Some (g.mode, max g.index c.given)) holding

pub record Taken (chain : Chain) (holding : Holds) (floor : ℕ → ℕ) (said : List Word) (side : Side) (term : Term) (knew boot : ℕ) (had : ℕ → Bool) (promised : List (ℕ × ℕ)) (n : ℕ) (c : Clerking) (g : Grant) : Type 0 where
  pub locks : AreLocks chain (holds_now holding c g) floor said (side_taking side c g) term
  pub clerk : FitsClerk chain knew boot (side_taking side c g) had promised n (taking g c)
  pub keeps : KeepsSides g.session side (side_taking side c g)

-- The session lives in the last state, as its end isn't past: the grant of its latest request, which is out, is taken.
pub takes_on : (chain : Chain) (holding : Holds) (floor : ℕ → ℕ) (said : List Word) (side : Side) (term : Term) (knew boot : ℕ) (had : ℕ → Bool) (promised : List (ℕ × ℕ)) (n : ℕ) (c : Clerking) (g : Grant) (r : Asking) → AreLocks chain holding floor said side term
    → FitsClerk chain knew boot side had promised n c → c.session ≡ Some g.session → IsSaid said (Grants g) → LivesIn (last chain) g.session → request_in c.requests g.block ≡ Some r → r.number ≡ g.number → r.held ≡ None
    → Taken chain holding floor said side term knew boot had promised n c g
takes_on chain holding floor said side term knew boot had promised n c g r locks fits own has lives there number out = record {
  locks = takes_grant chain holding (holds_now holding c g) floor said side term g (max g.index c.given) (record { mode = r.mode; number = r.number; held = r.held }) (side_taking side c g).requests locks has
      (begins_least chain.found chain.first chain.changes (last chain) g.session locks.chained.found (fits.this_life g.session own) (last_place chain) refl lives)
      lives
      (fits.requests g.session own g.block ∙ ap request_from there)
      number out (omega arith) (let d = fits.given g.session own in omega (arith, d))
      (spot_puts g.session g.block (Some (held_at g (max g.index c.given))) side.requests)
      (spot_puts g.session g.block (Some (g.mode, max g.index c.given)) holding);
  clerk = changed_fits chain knew boot side (side_taking side c g) had promised n g.session g.block (Some (held_at g (max g.index c.given))) c (taking g c) own (record {
    session = refl;
    unique = put_unique c.requests g.block (held_by c g) fits.unique;
    requests = spot_puts g.session g.block (Some (held_at g (max g.index c.given))) side.requests;
    at = ap request_from (put_here c.requests g.block (held_by c g));
    others = λ b differ. put_beside c.requests g.block b (held_by c g) differ;
    drawn = fits.drawn g.session own;
    given = fits.given g.session own;
    lease = refl;
    block_fits = λ q has_it. fits.blocks g.block r there;
    drawn_fits = fits.drawn_fits;
    given_fits = fits.given_fits;
    knows_fits = fits.knows_fits;
  }) fits;
  keeps = keeps_sides g.session g.block (Some (held_at g (max g.index c.given))) side (side_taking side c g) (spot_puts g.session g.block (Some (held_at g (max g.index c.given))) side.requests) (λ t differ. refl) (λ t differ. refl);
}

-- ---- a block is given up

abbrev pub new_debt : Side → ℕ → ℕ → ℕ → ℕ → ℕ → ℕ
new_debt side s block index = one_spot s block (max (side.debt s block) index) side.debt

abbrev pub side_giving : Side → Clerking → ℕ → ℕ → ℕ → Side
side_giving side c s block index = record {
  requests = one_spot s block None side.requests;
  drawn = side.drawn;
  given = one_of s (max c.given index) side.given;
  debt = new_debt side s block index;
}

abbrev pub release_now : Clerking → ℕ → ℕ → ℕ → ℕ → Release
release_now c s block number index = record { session = s; block = block; number = number; index = max c.given index }

pub record Given (chain : Chain) (holding : Holds) (floor : ℕ → ℕ) (said : List Word) (side : Side) (term : Term) (knew boot : ℕ) (had : ℕ → Bool) (promised : List (ℕ × ℕ)) (n : ℕ) (c : Clerking) (s block number index : ℕ) (hold : Option Hold) : Type 0 where
  pub locks : AreLocks chain (unheld holding s block) (given_floor hold floor block index) (Releases (release_now c s block number index) ∷ said) (side_giving side c s block index) term
  pub clerk : FitsClerk chain knew boot (side_giving side c s block index) had promised n (giving_up block index c)
  pub keeps : KeepsSides s side (side_giving side c s block index)

pub gives_on : (chain : Chain) (holding : Holds) (floor : ℕ → ℕ) (said : List Word) (side : Side) (term : Term) (knew boot : ℕ) (had : ℕ → Bool) (promised : List (ℕ × ℕ)) (n : ℕ) (c : Clerking) (s block index i : ℕ) (r : Asking) (p : GlobalState) → AreLocks chain holding floor said side term
    → FitsClerk chain knew boot side had promised n c → c.session ≡ Some s → request_in c.requests block ≡ Some r → r.held ≡ Some i → IsPlace chain p → LivesIn p s → p.index ≡ index → Fits index
    → Given chain holding floor said side term knew boot had promised n c s block r.number index (Some (r.mode, i))
gives_on chain holding floor said side term knew boot had promised n c s block index i r p locks fits own there held place lives is index_fits = record {
  locks = gives_up chain holding (unheld holding s block) floor (given_floor (Some (r.mode, i)) floor block index) said side (side_giving side c s block index) term s block index i (record { mode = r.mode; number = r.number; held = r.held }) p (release_now c s block r.number index) locks
      (fits.requests s own block ∙ ap request_from there) held place lives is
      (record {
        requests = spot_puts s block None side.requests;
        drawn = refl;
        given = record {
          each = λ t. ⊎_elim
              (λ same. let e = ap (one_of s (max c.given index) side.given) same.1 in let f = one_at s (max c.given index) side.given in let d = fits.given s own in let g = ap side.given same.1 in omega (arith, e, f, d, g))
              (λ other. let e = one_not s (max c.given index) side.given t other.1 in omega (arith, e))
              (eqb_tells t s);
        };
        given_here = let e = one_at s (max c.given index) side.given in omega (arith, e);
        debt = spot_puts s block (max (side.debt s block) index) side.debt;
      })
      (spot_puts s block None holding) (gives_floor r.mode i block index floor) refl refl refl (omega arith) (let d = fits.given s own in omega (arith, d));
  clerk = gone_fits chain side (side_giving side c s block index) knew boot had promised n c (giving_up block index c) s block fits own (spot_puts s block None side.requests) refl refl refl refl refl (fits.drawn s own)
      (let e = one_at s (max c.given index) side.given in omega (arith, e)) (let g = fits.given_fits in omega (arith, g, index_fits));
  keeps = keeps_sides s block None side (side_giving side c s block index) (spot_puts s block None side.requests) (λ t differ. refl) (λ t differ. one_not s (max c.given index) side.given t differ);
}

-- ---- a revoke is answered

abbrev pub answer_now : Clerking → Revoke → Release
answer_now c v = record { session = v.session; block = v.block; number = v.number; index = max c.knows c.given }

-- its number isn't that of the latest request
pub answers_on : (chain : Chain) (holding : Holds) (floor : ℕ → ℕ) (said : List Word) (side : Side) (term : Term) (knew boot : ℕ) (had : ℕ → Bool) (promised : List (ℕ × ℕ)) (n : ℕ) (c : Clerking) (v : Revoke) → AreLocks chain holding floor said side term
    → FitsClerk chain knew boot side had promised n c → c.session ≡ Some v.session → IsSaid said (Revokes v) → ((r : Asking) → request_in c.requests v.block ≡ Some r → r.number ≢ v.number)
    → AreLocks chain holding floor (Releases (answer_now c v) ∷ said) side term
answers_on chain holding floor said side term knew boot had promised n c v locks fits own has differs =
    answers_revoke chain holding floor said side term v (answer_now c v) locks has refl refl refl (let d = fits.given v.session own in omega (arith, d))
    (λ r at same. by_request (request_in c.requests v.block) refl r at same)
  where
    by_request : (o : Option Asking) → request_in c.requests v.block ≡ o → (r : Request) → side.requests v.session v.block ≡ Some r → v.number ≡ r.number → ⊥
    by_request None there r at same = let e : None ≡ Some r = sym (fits.requests v.session own v.block ∙ ap request_from there) ∙ at in cc
    by_request (Some q) there r at same =
        let e : Some (record { mode = q.mode; number = q.number; held = q.held }) ≡ Some r = sym (fits.requests v.session own v.block ∙ ap request_from there) ∙ at in
        let f : record { mode = q.mode; number = q.number; held = q.held } ≡ r = cc in
        let g = ap (λ (x : Request). x.number) f in differs q there (g ∙ sym same)

abbrev pub dropping : ℕ → Clerking → List (ℕ × ℕ) → Clerking
dropping block c asks = record c { requests = without_request c.requests block; asks = asks }

pub record Dropped (chain : Chain) (holding : Holds) (floor : ℕ → ℕ) (said : List Word) (side : Side) (term : Term) (knew boot : ℕ) (had : ℕ → Bool) (promised : List (ℕ × ℕ)) (n : ℕ) (c : Clerking) (v : Revoke) (asks : List (ℕ × ℕ)) : Type 0 where
  pub locks : AreLocks chain holding floor (Releases (answer_now c v) ∷ said) (side_ending side v.session v.block) term
  pub clerk : FitsClerk chain knew boot (side_ending side v.session v.block) had promised n (dropping v.block c asks)
  pub keeps : KeepsSides v.session side (side_ending side v.session v.block)

-- the request of that number, which is out, is over
pub drops_on : (chain : Chain) (holding : Holds) (floor : ℕ → ℕ) (said : List Word) (side : Side) (term : Term) (knew boot : ℕ) (had : ℕ → Bool) (promised : List (ℕ × ℕ)) (n : ℕ) (c : Clerking) (v : Revoke) (asks : List (ℕ × ℕ)) (r : Asking) → AreLocks chain holding floor said side term
    → FitsClerk chain knew boot side had promised n c → c.session ≡ Some v.session → IsSaid said (Revokes v) → request_in c.requests v.block ≡ Some r → r.held ≡ None
    → Dropped chain holding floor said side term knew boot had promised n c v asks
drops_on chain holding floor said side term knew boot had promised n c v asks r locks fits own has there out = record {
  locks = answers_revoke chain holding floor said (side_ending side v.session v.block) term v (answer_now c v) dropped has refl refl refl (let d = fits.given v.session own in omega (arith, d))
      (λ q at same. none_some q (sym (spot_puts v.session v.block None side.requests).at ∙ at));
  clerk = gone_fits chain side (side_ending side v.session v.block) knew boot had promised n c (dropping v.block c asks) v.session v.block fits own (spot_puts v.session v.block None side.requests) refl refl refl refl refl (fits.drawn v.session own) (fits.given v.session own) fits.given_fits;
  keeps = keeps_sides v.session v.block None side (side_ending side v.session v.block) (spot_puts v.session v.block None side.requests) (λ t differ. refl) (λ t differ. refl);
}
  where
    none_some : (q : Request) → None ≡ Some q → ⊥
    none_some q wrong = cc

    none_held : holding v.session v.block ≡ None
    none_held = locks.held.is v.session v.block ∙ ap hold_from (fits.requests v.session own v.block ∙ ap request_from there) ∙ ap (λ (h : Option ℕ). hold_from (Some (record { mode = r.mode; number = r.number; held = h }))) out

    dropped : AreLocks chain holding floor said (side_ending side v.session v.block) term
    dropped = drops_request chain holding floor said side term v.session v.block (side_ending side v.session v.block).requests locks none_held (spot_puts v.session v.block None side.requests)

-- ---- a request that is out is said again

pub asks_again : (chain : Chain) (holding : Holds) (floor : ℕ → ℕ) (said : List Word) (side : Side) (term : Term) (w : Want) (r : Request) → AreLocks chain holding floor said side term
    → side.requests w.session w.block ≡ Some r → r.number ≡ w.number → AreLocks chain holding floor (Wants w ∷ said) side term
asks_again chain holding floor said side term w r locks there number = record {
  chained = locks.chained;
  sides = record {
    wants = λ v has q at. ⊎_elim
        (λ newest. let same : v ≡ w = cc in
        let e : Some q ≡ Some r = sym at ∙ ap (λ (x : Want). side.requests x.session x.block) same ∙ there in let f : q ≡ r = cc in
        let n = ap (λ (x : Request). x.number) f in let k = ap (λ (x : Want). x.number) same in omega (arith, n, k, number))
        (λ old. locks.sides.wants v old q at)
        (said_or said (Wants v) (Wants w) has);
    released = λ l has. ⊎_elim (λ newest. absurd cc) (λ old. locks.sides.released l old) (said_or said (Releases l) (Wants w) has);
    want_drawn = λ v has. ⊎_elim
        (λ newest. let same : v ≡ w = cc in subst (λ (x : Want). x.number ≤ side.drawn x.session) (sym same) (let d = locks.sides.request_drawn w.session w.block r there in omega (arith, d, number)))
        (λ old. locks.sides.want_drawn v old)
        (said_or said (Wants v) (Wants w) has);
    revoke_drawn = λ v has. ⊎_elim (λ newest. absurd cc) (λ old. locks.sides.revoke_drawn v old) (said_or said (Revokes v) (Wants w) has);
    release_drawn = λ l has. ⊎_elim (λ newest. absurd cc) (λ old. locks.sides.release_drawn l old) (said_or said (Releases l) (Wants w) has);
    request_drawn = locks.sides.request_drawn;
    debts = locks.sides.debts;
  };
  listed = record {
    entry = locks.listed.entry;
    apart = locks.listed.apart;
    drawn_most = locks.listed.drawn_most;
    grants = λ g has. ⊎_elim (λ newest. absurd cc) (λ old. locks.listed.grants g old) (said_or said (Grants g) (Wants w) has);
    revokes = λ v has. ⊎_elim (λ newest. absurd cc) (λ old. locks.listed.revokes v old) (said_or said (Revokes v) (Wants w) has);
    releases = λ l has. ⊎_elim (λ newest. absurd cc) (λ old. locks.listed.releases l old) (said_or said (Releases l) (Wants w) has);
    held = locks.listed.held;
    stands = locks.listed.stands;
    takable = λ g has. ⊎_elim (λ newest. absurd cc) (λ old. locks.listed.takable g old) (said_or said (Grants g) (Wants w) has);
    paid = λ l has. ⊎_elim (λ newest. absurd cc) (λ old. locks.listed.paid l old) (said_or said (Releases l) (Wants w) has);
  };
  term_is = locks.term_is;
  floors = locks.floors;
  held = locks.held;
}
