-- What an event makes of a clerk's session, of its end, and of its requests.
use Rattle.std.proofs.Common.{◌≡◌, ◌≢◌, ◌⊎◌, inl, inr, ℕ, ◌≤◌, max, Bool, true, false, [], ◌∷◌, Option, Some, None, refl, sym, ap, subst, arith}
use Rattle.std.specs.Prelude.{IsSome, not, if◌then◌else◌}
use Rattle.std.proofs.lemmas.Bool.Decides.{nat_tests}
use Rattle.std.proofs.lemmas.Bool.{cases_eq}
use Rattle.bx_facts.specs.Chains.{session_of}
use Rattle.bx_facts.specs.Holds.{without_block}
use Rattle.bx_global.specs.declared.state.GlobalState.{GlobalState}
use Rattle.bx_lock_words.specs.declared.words.Grant.{Grant}
use Rattle.bx_lock_words.specs.declared.words.Revoke.{Revoke}
use Rattle.bx_lock_words.specs.declared.words.Word.{Word}
use Rattle.bx_lock_words.specs.declared.words.Word.TheVariants.{Wants, Grants, Revokes, Releases, Renews, Leases}
use Rattle.bx_lock_words.specs.Sessions.{session_in}
use Rattle.bx_clerk.specs.declared.requests.Asking.{Asking}
use Rattle.bx_clerk.specs.Clerks.{Clerking, Said, is_same, learned, until_of, with_session}
use Rattle.bx_clerk.specs.Events.{answer_of, granted, hear, hear_own, hear_revoke, held_by, takes}
use Rattle.bx_clerk.specs.Requests.{fits, hold_of, is_held, request_in, wish_of, with_ask, with_request, without_request}
use Rattle.bx_clerk.proofs.Lookups.{out_beside, out_here, put_beside, put_here}

-- ---- it learns a state

same_session : (one other : Option ℕ) → is_same one other ≡ true → one ≡ other
same_session None None is = refl
same_session None (Some n) is = absurd cc
same_session (Some m) None is = absurd cc
same_session (Some m) (Some n) is = ap (λ (k : ℕ). Some k) (grind (arith, nat_tests, is))

session_itself : (session : ℕ) → is_same (Some session) (Some session) ≡ true
session_itself session = grind (arith, nat_tests)

-- What a clerk knows of its own session, and what it asked for: as it was, or, with another session, nothing.
pub record Learns (own : Option ℕ) (c new : Clerking) : Type 0 where
  pub session : new.session ≡ own
  pub node : new.node ≡ c.node
  pub boot : new.boot ≡ c.boot
  pub requests : ((new.session ≡ c.session) × (new.requests ≡ c.requests) × (c.lease ≤ new.lease)) ⊎ ((new.session ≢ c.session) × (new.requests ≡ []))

with_learns : (known : GlobalState) (own : Option ℕ) (c : Clerking) → Learns own c (with_session known own c)
with_learns known own c = by_test (is_same c.session own) refl
  where
    by_test : (t : Bool) → is_same c.session own ≡ t → Learns own c (if t then record c { lease = max c.lease (until_of known own) } else record c { session = own; lease = until_of known own; requests = []; asks = [] })
    by_test true is = record { session = same_session c.session own is; node = refl; boot = refl; requests = inl (refl, refl, omega arith) }
    by_test false is = record { session = refl; node = refl; boot = refl; requests = inr (λ same. apart c.session own (sym same) is, refl) }
      where
        apart : (one other : Option ℕ) → one ≡ other → is_same one other ≡ false → ⊥
        apart None None same other = absurd cc
        apart None (Some n) same other = absurd cc
        apart (Some m) None same other = absurd cc
        apart (Some m) (Some n) same other = let one : m ≡ n = cc in absurd (grind (arith, nat_tests, one, other))

pub learns : (known : GlobalState) (c : Clerking) → Learns (session_of known c.node c.boot) c (learned known c)
learns known c = let w = with_learns known (session_of known c.node c.boot) c in record { session = w.session; node = w.node; boot = w.boot; requests = w.requests }

-- ---- it hears

-- A request goes where the block is held then, or where it was revoked.
abbrev pub Goes : Type 0 → Clerking → Clerking → ℕ → Type 0
Goes IsRevoked c new block = ((wish_of (request_in new.requests block) ≡ None) × (IsSome (hold_of (request_in new.requests block)) ⊎ IsRevoked)) ⊎ (wish_of (request_in new.requests block) ≡ wish_of (request_in c.requests block))

-- The session stays, and its end doesn't fall; requests go so.
pub record Stays (IsRevoked : Type 0) (c new : Clerking) : Type 0 where
  pub session : new.session ≡ c.session
  pub lease : c.lease ≤ new.lease
  pub requests : (block : ℕ) → Goes IsRevoked c new block

abbrev pub IsRevoke : Option Word → Type 0
IsRevoke None = ⊥
IsRevoke (Some (Wants w)) = ⊥
IsRevoke (Some (Grants g)) = ⊥
IsRevoke (Some (Revokes v)) = Unit {0}
IsRevoke (Some (Releases l)) = ⊥
IsRevoke (Some (Renews s)) = ⊥
IsRevoke (Some (Leases s u)) = ⊥

pub unchanged : (IsRevoked : Type 0) (c : Clerking) → Stays IsRevoked c c
unchanged IsRevoked c = record { session = refl; lease = omega arith; requests = λ block. inr refl }

grant_stays : (reading : ℕ) (g : Grant) (c : Clerking) → Stays ⊥ c (granted reading g c)
grant_stays reading g c = by_test (takes reading c g)
  where
    by_test : (t : Bool) → Stays ⊥ c (if t then record c { requests = with_request c.requests g.block (held_by c g) } else c)
    by_test true = record {
      session = refl;
      lease = omega arith;
      requests = λ block. elim (cases_eq block g.block) [
        | inl here ↦ subst (λ (b : ℕ). Goes ⊥ c (record c { requests = with_request c.requests g.block (held_by c g) }) b) (sym here) (inl (ap wish_of (put_here c.requests g.block (held_by c g)), inl (subst (λ (o : Option Asking). IsSome (hold_of o)) (sym (put_here c.requests g.block (held_by c g))) refl)))
        | inr apart ↦ inr (ap wish_of (put_beside c.requests g.block block (held_by c g) apart))
      ];
    }
    by_test false = unchanged ⊥ c

abbrev revoke_as : Bool → Bool → Revoke → Clerking → Said
revoke_as t u v c =
    if t then (c, answer_of c v ∷ [])
    else if u then (record c { asks = with_ask (v.block, v.asking) c.asks }, [])
    else (record c { requests = without_request c.requests v.block; asks = without_block v.block c.asks }, answer_of c v ∷ [])

revoke_stays : (v : Revoke) (c : Clerking) → Stays (Unit {0}) c (hear_revoke v c).0
revoke_stays v c = by_tests (not (fits (request_in c.requests v.block) v.number)) (is_held (request_in c.requests v.block))
  where
    by_tests : (t u : Bool) → Stays (Unit {0}) c (revoke_as t u v c).0
    by_tests true u = unchanged (Unit {0}) c
    by_tests false true = record { session = refl; lease = omega arith; requests = λ block. inr refl }
    by_tests false false = record {
      session = refl;
      lease = omega arith;
      requests = λ block. elim (cases_eq block v.block) [
        | inl here ↦ inl (ap wish_of (subst (λ (b : ℕ). request_in (without_request c.requests v.block) b ≡ None) (sym here) (out_here c.requests v.block)), inr tt)
        | inr apart ↦ inr (ap wish_of (out_beside c.requests v.block block apart))
      ];
    }

own_stays : (reading : ℕ) (word : Word) (c : Clerking) → Stays (IsRevoke (Some word)) c (hear_own reading word c).0
own_stays reading (Wants w) c = unchanged ⊥ c
own_stays reading (Grants g) c = grant_stays reading g c
own_stays reading (Revokes v) c = revoke_stays v c
own_stays reading (Releases l) c = unchanged ⊥ c
own_stays reading (Renews s) c = unchanged ⊥ c
own_stays reading (Leases s u) c = record { session = refl; lease = omega arith; requests = λ block. inr refl }

abbrev own_as : Bool → ℕ → Word → Clerking → Said
own_as t reading word c = if t then hear_own reading word c else (c, [])

pub hear_stays : (reading : ℕ) (said : Option Word) (c : Clerking) → Stays (IsRevoke said) c (hear reading said c).0
hear_stays reading None c = unchanged ⊥ c
hear_stays reading (Some word) c = by_test (is_same c.session (Some (session_in word)))
  where
    by_test : (t : Bool) → Stays (IsRevoke (Some word)) c (own_as t reading word c).0
    by_test true = own_stays reading word c
    by_test false = unchanged (IsRevoke (Some word)) c
