-- No step forgets: what is known doesn't go back, and a proposal is out until what is known rises.
use Rattle.std.proofs.Common.{◌≡◌, ℕ, ◌+◌, ◌<◌, Option, Some, None, IfSome, IsSome, IsSomeAnd, refl, sym, ap, subst, inl, inr, arith}
use Rattle.std.proofs.lemmas.Bool.{false≢true}
use Rattle.bx_base.specs.declared.names.Actor.{Actor}
use Rattle.bx_base.specs.declared.names.Actor.TheVariants.{Node, Replica, Server, Member}
use Rattle.bx_facts.specs.declared.input.Input.{Input}
use Rattle.bx_facts.specs.declared.input.Input.TheVariants.{Packet, Tick, Synced}
use Rattle.bx_global.specs.declared.change.Change.{Change}
use Rattle.bx_global.specs.declared.state.GlobalState.{GlobalState}
use Rattle.bx_packets.specs.declared.message.Message.{Message}
use Rattle.bx_packets.specs.declared.message.Message.TheVariants.{Ask, Decided, Prepare, Promise as Promising, Accept, Accepted, Refused}
use Rattle.bx_packets.specs.declared.message.Promise.{Promise}
use Rattle.bx_rows.specs.declared.ballot.Ballot.{Ballot}
use Rattle.bx_rounds.specs.declared.course.Course.{Course}
use Rattle.bx_rounds.specs.declared.course.Move.{Move}
use Rattle.bx_rounds.specs.declared.course.Proposal.{Proposal}
use Rattle.bx_rounds.specs.Courses.{IsCourse, IsProposal, IsSentState, LeadsOn, Steps}
use Rattle.bx_rounds.specs.Steps.{FromReplica, Gathers, Hears, HearsPromise, HearsRefusal, HearsVote, PromiseAt, Proposes, RefusedAt, TickAt, Ticks, VoteAt, learned, noting, preparing, reading_now, with_out}

same : (c new : Course) → new ≡ c → LeadsOn c new
same c new e = subst (LeadsOn c) (sym e) (record { boot = refl; rises = omega arith; still = λ busy k. busy; was = λ busy. (busy, refl) })

-- with another reading of the clock
clocked : (c new : Course) (reading : ℕ) → LeadsOn (reading_now reading c) new → LeadsOn c new
clocked c new reading on = record { boot = on.boot; rises = on.rises; still = on.still; was = on.was }

-- a proposal is out before and afterwards
stays_out : (c new : Course) (p x : Proposal) → c.out ≡ Some p → new ≡ with_out x c → LeadsOn c new
stays_out c new p x at e = subst (LeadsOn c) (sym e) (record { boot = refl; rises = omega arith; still = λ busy k. refl; was = λ busy. (rw at refl, refl) })

begins_anew : (me : ℕ) (c new : Course) (p x : Proposal) → c.out ≡ Some p → new ≡ preparing me x c → LeadsOn c new
begins_anew me c new p x at e = subst (LeadsOn c) (sym e) (record { boot = refl; rises = omega arith; still = λ busy k. refl; was = λ busy. (rw at refl, refl) })

knows_more : (c new : Course) (s : GlobalState) → c.known.index < s.index → new ≡ learned s c → LeadsOn c new
knows_more c new s more e = subst (LeadsOn c) (sym e) (record { boot = refl; rises = omega (arith, more); still = λ busy k. absurd (omega (arith, more, k)); was = λ busy. absurd (false≢true busy) })

-- with a round that was seen
noted : (c new : Course) (round : ℕ) → LeadsOn (noting round c) new → LeadsOn c new
noted c new round on = record { boot = on.boot; rises = on.rises; still = on.still; was = on.was }

promise_at : (out : Option Proposal) (c new : Course) (n : ℕ) (q : Promise) (move : Move) → c.out ≡ out → PromiseAt out c n q new move → LeadsOn c new
promise_at None c new n q move at x = same c new x.0
promise_at (Some p) c new n q move at x = by new.out x
  where
    by : (made : Option Proposal) → IsSomeAnd made (λ y. Gathers p n q y move × (new ≡ with_out y c)) → LeadsOn c new
    by None y = absurd y
    by (Some y) (does, e) = stays_out c new p y at e

votes : (devices : ℕ) (out : Option Proposal) (c new : Course) (n : ℕ) (b : Ballot) (index : ℕ) (move : Move) → IsCourse devices c → c.out ≡ out → VoteAt out c n b index new move → LeadsOn c new
votes devices None c new n b index move is at x = same c new x.0
votes devices (Some p) c new n b index move is at x = by x
  where
    this : IsProposal devices c.known p
    this = rw at at is.out

    known_by : (sent : Option GlobalState) → IfSome sent (IsSentState devices p.own.index) → IsSomeAnd sent (λ s. new ≡ learned s c) → LeadsOn c new
    known_by None kept y = absurd y
    known_by (Some s) kept y = knows_more c new s (omega (arith, kept.index_is, this.index)) y

    by : VoteAt (Some p) c n b index new move → LeadsOn c new
    by (inl (passed, e, silent)) = stays_out c new p p at e
    by (inr (inl (counts, none, e, silent))) = stays_out c new p (record p { accepted = Some n }) at e
    by (inr (inr (counts, another, knows, says))) = known_by p.sent this.sent knows

refusals : (me : ℕ) (out : Option Proposal) (c new : Course) (index : ℕ) (b : Ballot) (move : Move) → c.out ≡ out → RefusedAt me out c index b new move → LeadsOn c new
refusals me None c new index b move at x = same c new x.0
refusals me (Some p) c new index b move at (inl (over, e, says)) = begins_anew me c new p (record p { tries = p.tries + 1 }) at e
refusals me (Some p) c new index b move at (inr (not_over, e, says)) = stays_out c new p p at e

from_replica : (from : Actor) (c new : Course) (hears : ℕ → Course → Move → Type 0) (move : Move) → ((n : ℕ) → hears n new move → LeadsOn c new) → FromReplica from c hears new move → LeadsOn c new
from_replica (Node m) c new hears move does x = same c new x.0
from_replica (Replica m) c new hears move does (inl (there, x)) = does m x
from_replica (Replica m) c new hears move does (inr (far, e, silent)) = same c new e
from_replica (Server m) c new hears move does x = same c new x.0
from_replica (Member m) c new hears move does x = same c new x.0

pub hears_on : (devices me : ℕ) (c new : Course) (from : Actor) (m : Message) (move : Move) → IsCourse devices c → Hears me c from m new move → LeadsOn c new
hears_on devices me c new from Ask move is x = same c new x.0
hears_on devices me c new from (Decided s) move is (inl (newer, e), silent) = knows_more c new s newer e
hears_on devices me c new from (Decided s) move is (inr (older, e), silent) = same c new e
hears_on devices me c new from (Prepare b s) move is x = same c new x.0
hears_on devices me c new from (Promising q) move is x =
    from_replica from c new (λ n. HearsPromise c n q) move
    (λ n h. noted c new q.ballot.round (noted (noting q.ballot.round c) new q.accepted.round (promise_at c.out (noting q.accepted.round (noting q.ballot.round c)) new n q move refl h))) x
hears_on devices me c new from (Accept b s) move is x = same c new x.0
hears_on devices me c new from (Accepted b index) move is x =
    from_replica from c new (λ n. HearsVote c n b index) move
    (λ n h. noted c new b.round (votes devices c.out (noting b.round c) new n b index move (record { known = is.known; boot = is.boot; out = is.out }) refl h)) x
hears_on devices me c new from (Refused index b) move is x =
    from_replica from c new (λ n. HearsRefusal me c index b) move (λ n h. noted c new b.round (refusals me c.out (noting b.round c) new index b move refl h)) x

ticked : (me : ℕ) (out : Option Proposal) (c new : Course) (move : Move) → c.out ≡ out → TickAt me out c new move → LeadsOn c new
ticked me None c new move at x = same c new x.0
ticked me (Some p) c new move at (inl (late, e, says)) = begins_anew me c new p (record p { tries = 0 }) at e
ticked me (Some p) c new move at (inr (early, e, says)) = stays_out c new p (record p { tries = 0 }) at e

pub ticks_on : (me : ℕ) (c new : Course) (move : Move) → Ticks me c new move → LeadsOn c new
ticks_on me c new move x = ticked me c.out c new move refl x

-- whatever comes
pub step_on : (devices me : ℕ) (c new : Course) (input : Input) (move : Move) → IsCourse devices c → Steps me devices c input new move → LeadsOn c new
step_on devices me c new (Packet packet reading) move is (inl (message, spells, does)) =
    clocked c new reading (hears_on devices me (reading_now reading c) new packet.now.from message move (record { known = is.known; boot = is.boot; out = is.out }) does)
step_on devices me c new (Packet packet reading) move is (inr (none, e, silent)) = clocked c new reading (same (reading_now reading c) new e)
step_on devices me c new (Tick reading) move is does = clocked c new reading (ticks_on me (reading_now reading c) new move does)
step_on devices me c new Synced move is (e, silent) = same c new e

-- a change that is proposed is out, and what is known stays
pub proposes_on : (me : ℕ) (c new : Course) (change : Change) (move : Move) → Proposes me c change new move → IsSome new.out × (new.known ≡ c.known)
proposes_on me c new change move (inl (room, e, says)) = (subst (λ (x : Course). IsSome x.out) (sym e) refl, ap (λ (x : Course). x.known) e)
proposes_on me c new change move (inr (none, e, silent)) = (subst (λ (x : Course). IsSome x.out) (sym e) refl, ap (λ (x : Course). x.known) e)
