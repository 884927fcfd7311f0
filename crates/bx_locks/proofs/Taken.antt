-- What one event makes of the clerk or the lock server to which it comes.
use Rattle.std.proofs.Common.{◌≡◌, ◌≢◌, ◌⊎◌, inl, inr, ⊎_elim, ℕ, ◌≤◌, Bool, true, false, List, Option, Some, None, IfSome, refl, sym, ap, subst, ◌∙◌, arith}
use Rattle.std.specs.Prelude.{IsSome, not, ◌&&◌, ◌+◌, ltb, if◌then◌else◌}
use Rattle.bx_base.specs.declared.names.Actor.TheVariants.{Node}
use Rattle.bx_facts.proofs.Machines.{is_one}
use Rattle.bx_facts.specs.Chains.{IsOwnersKind, session_of}
use Rattle.bx_facts.specs.Holds as holds
use Rattle.bx_facts.specs.Machines.{is_same}
use Rattle.bx_facts.specs.declared.input.Input.{Input}
use Rattle.bx_facts.specs.declared.input.Input.TheVariants.{Packet, Tick, Synced}
use Rattle.bx_global.specs.declared.change.Change.{Change}
use Rattle.bx_global.specs.declared.change.Change.TheVariants as changes
use Rattle.bx_global.specs.declared.state.GlobalState.{GlobalState}
use Rattle.bx_post.specs.declared.packets.Letter.{Letter}
use Rattle.bx_lock_words.specs.declared.words.Word.{Word}
use Rattle.bx_lock_words.specs.declared.words.Word.TheVariants.{Wants, Grants, Revokes, Releases, Renews, Leases}
use Rattle.bx_clerk.specs.Clerks.{Clerking, learned}
use Rattle.bx_clerk.specs.Events.{SaysOr, Takes, TakesIn, hear, tick_change}
use Rattle.bx_clerk.specs.Requests.{hold_of, request_in, wish_of}
use Rattle.bx_master.specs.Events as master_events
use Rattle.bx_master.specs.Masters.{Mastering, both, is_master}
use Rattle.bx_master.specs.Steps as master_steps
use Rattle.bx_locks.specs.Events.{clerk_hands, input_for, master_hands}
use Rattle.bx_locks.proofs.Clerks.{IsRevoke, Learns, Stays, hear_stays, learns, unchanged}

-- what comes is a revoke
abbrev pub ComesRevoke : Input → Type 0
ComesRevoke (Packet packet reading) = packet.now.kind ≡ 10
ComesRevoke (Tick reading) = ⊥
ComesRevoke Synced = ⊥

revoke_kind : (said : Option Word) (kind : ℕ) (body : List ℕ) → SaysOr kind body said → IsRevoke said → kind ≡ 10
revoke_kind None kind body says is = absurd is
revoke_kind (Some (Wants w)) kind body says is = absurd is
revoke_kind (Some (Grants g)) kind body says is = absurd is
revoke_kind (Some (Revokes v)) kind body says is = says.kind_is
revoke_kind (Some (Releases l)) kind body says is = absurd is
revoke_kind (Some (Renews s)) kind body says is = absurd is
revoke_kind (Some (Leases s u)) kind body says is = absurd is

-- a weaker cause
weaker : (P Q : Type 0) (c new : Clerking) → (P → Q) → Stays P c new → Stays Q c new
weaker P Q c new so stays = record {
  session = stays.session;
  lease = stays.lease;
  requests = λ block. ⊎_elim (λ gone. inl (gone.0, ⊎_elim (λ held. inl held) (λ p. inr (so p)) gone.1)) (λ same. inr same) (stays.requests block);
}

-- once it has learned the state
taken_in : (c : Clerking) (input : Input) (new : Clerking) (change : Option Change) (before after : List Letter) → TakesIn c input new change before after → Stays (ComesRevoke input) c new
taken_in c (Packet packet reading) new change before after does =
    let said = does.0.said in
    subst (Stays (packet.now.kind ≡ 10) c) (sym does.0.is) (weaker (IsRevoke said) (packet.now.kind ≡ 10) c (hear reading said c).0 (revoke_kind said packet.now.kind packet.now.body does.0.says) (hear_stays reading said c))
taken_in c (Tick reading) new change before after does = subst (Stays ⊥ c) (sym does.is) (unchanged ⊥ c)
taken_in c Synced new change before after does = subst (Stays ⊥ c) (sym does.0) (unchanged ⊥ c)

-- A clerk took an input: its session is the one that the state tells; where that stays its end doesn't fall; a request goes where its block is
-- held then, where the session went, or where it was revoked.
pub record Took (IsRevoked : Type 0) (own : Option ℕ) (c new : Clerking) : Type 0 where
  pub session : new.session ≡ own
  pub lease : new.session ≡ c.session → c.lease ≤ new.lease
  pub requests : (block : ℕ) → ((wish_of (request_in new.requests block) ≡ None) × (IsSome (hold_of (request_in new.requests block)) ⊎ (new.session ≢ c.session) ⊎ IsRevoked))
      ⊎ (wish_of (request_in new.requests block) ≡ wish_of (request_in c.requests block))

took_both : (IsRevoked : Type 0) (own : Option ℕ) (c between new : Clerking) → Learns own c between → Stays IsRevoked between new → Took IsRevoked own c new
took_both IsRevoked own c between new learned stays = ⊎_elim
    (λ same. record {
      session = stays.session ∙ learned.session;
      lease = λ also. let one = same.2 in let two = stays.lease in omega (arith, one, two);
      requests = λ block. ⊎_elim
          (λ gone. inl (gone.0, ⊎_elim (λ held. inl held) (λ revoked. inr (inr revoked)) gone.1))
          (λ kept. inr (kept ∙ ap (λ requests. wish_of (request_in requests block)) same.1))
          (stays.requests block);
    })
    (λ other. record {
      session = stays.session ∙ learned.session;
      lease = λ same. absurd (other.0 (sym stays.session ∙ same));
      requests = λ block. inl (
        ⊎_elim (λ gone. gone.0) (λ kept. kept ∙ ap (λ requests. wish_of (request_in requests block)) other.1) (stays.requests block),
        inr (inl (λ same. other.0 (sym stays.session ∙ same))),
      );
    })
    learned.requests

pub took : (c : Clerking) (known : GlobalState) (input : Input) (new : Clerking) (change : Option Change) (before after : List Letter) → Takes c known input new change before after → Took (ComesRevoke input) (session_of known c.node c.boot) c new
took c known input new change before after does = took_both (ComesRevoke input) (session_of known c.node c.boot) c (learned known c) new (learns known c) (taken_in (learned known c) input new change before after does)

-- ---- a packet for another machine

-- what comes to a node as a revoke is one, and is for that node
pub revoke_for : (node : ℕ) (input : Input) → ComesRevoke (input_for (Node node) input) → holds.IsRevoke input node
revoke_for node (Packet packet reading) is = by_test (is_same (Node node) packet.now.to) refl is
  where
    by_test : (t : Bool) → is_same (Node node) packet.now.to ≡ t → ComesRevoke (if t then Packet packet reading else Synced) → (packet.now.kind ≡ 10) × (packet.now.to ≡ Node node)
    by_test true same is = (is, sym (is_one (Node node) packet.now.to same))
    by_test false other is = absurd is
revoke_for node (Tick reading) is = absurd is
revoke_for node Synced is = absurd is

-- ---- what is handed back, and said

pub clerk_handed : (c : Clerking) (known : GlobalState) (input : Input) (new : Clerking) (change : Option Change) (before after : List Letter) → Takes c known input new change before after → change ≡ clerk_hands known input c
clerk_handed c known (Packet packet reading) new change before after does = does.1
clerk_handed c known (Tick reading) new change before after does = does.asks
clerk_handed c known Synced new change before after does = does.1

pub master_handed : (m : Mastering) (known : GlobalState) (input : Input) (new : Mastering) (change : Option Change) (before after : List Letter) → master_steps.Takes m known input new change before after → change ≡ master_hands known input m
master_handed m known (Packet packet reading) new change before after does = does.1
master_handed m known (Tick reading) new change before after does = does.asks
master_handed m known Synced new change before after does = does.1

tick_kind : (session : Option ℕ) (c : Clerking) (reading : ℕ) → IfSome (tick_change session c reading) IsOwnersKind
tick_kind None c reading = tt
tick_kind (Some session) c reading = tt

pub clerk_kind : (known : GlobalState) (input : Input) (c : Clerking) → IfSome (clerk_hands known input c) IsOwnersKind
clerk_kind known (Packet packet reading) c = tt
clerk_kind known (Tick reading) c = tick_kind (learned known c).session (learned known c) reading
clerk_kind known Synced c = tt

take_kind : (known : GlobalState) (reading : ℕ) (m : Mastering) → IfSome (master_events.take_change known reading m) IsOwnersKind
take_kind known reading m = by_test (ltb (known.term_end + 500) reading)
  where
    by_test : (t : Bool) → IfSome (if t then Some (changes.Take m.server m.boot reading) else None) IsOwnersKind
    by_test true = tt
    by_test false = tt

expiry_kind : (known : GlobalState) (reading : ℕ) (m : Mastering) (session : Option ℕ) → IfSome (master_events.expiry known reading m session) IsOwnersKind
expiry_kind known reading m None = take_kind known reading m
expiry_kind known reading m (Some session) = tt

change_kind : (known : GlobalState) (reading : ℕ) (m : Mastering) → IfSome (master_events.change_of known reading m) IsOwnersKind
change_kind known reading m = by_tests (not (is_master m known)) (not (ltb known.term_end reading) && ltb known.term_end (reading + 4000))
  where
    by_tests : (t u : Bool) → IfSome (if t then master_events.take_change known reading m else (if u then Some (changes.Renew m.server m.boot reading) else master_events.expiry known reading m (master_events.first_past known reading m known.sessions))) IsOwnersKind
    by_tests true u = take_kind known reading m
    by_tests false true = tt
    by_tests false false = expiry_kind known reading m (master_events.first_past known reading m known.sessions)

pub master_kind : (known : GlobalState) (input : Input) (m : Mastering) → IfSome (master_hands known input m) IsOwnersKind
master_kind known (Packet packet reading) m = tt
master_kind known (Tick reading) m = change_kind known reading (both (master_events.catch_up known reading) (master_events.tick known) m).0
master_kind known Synced m = tt
