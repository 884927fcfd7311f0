-- Each step keeps what holds of each proposer.
use Rattle.std.proofs.Common.{◌≡◌, ℕ, ◌+◌, ◌^◌, ◌<◌, List, length, Option, Some, None, IfSome, IsSomeAnd, refl, sym, subst, ◌∙◌, inl, inr}
use Rattle.bx_agreement.specs.Passing.{promised_by}
use Rattle.bx_agreement.specs.Sound.{Picks}
use Rattle.bx_base.specs.declared.names.Actor.{Actor}
use Rattle.bx_base.specs.declared.names.Actor.TheVariants.{Node, Replica, Server, Member}
use Rattle.bx_facts.specs.declared.input.Input.{Input}
use Rattle.bx_facts.specs.declared.input.Input.TheVariants.{Packet, Tick, Synced}
use Rattle.bx_global.specs.Allowed.{Fits, IsChange}
use Rattle.bx_global.specs.Table.{IsLegal, effect}
use Rattle.bx_global.proofs.Places.{length-at_place}
use Rattle.bx_global.proofs.Rising.{index_rises}
use Rattle.bx_global.proofs.StaysAllowed.{stays_allowed}
use Rattle.bx_global.specs.declared.change.Change.{Change}
use Rattle.bx_global.specs.declared.change.Change.TheVariants.{Renew, Take, Open, Expire, Claim, Close, Shift}
use Rattle.bx_rows.specs.Rows.{shifted}
use Rattle.bx_global.specs.declared.state.GlobalState.{GlobalState}
use Rattle.bx_packets.specs.Messages.{IsMessage, IsPromise, IsStateOf}
use Rattle.bx_packets.specs.declared.message.Message.{Message}
use Rattle.bx_packets.specs.declared.message.Message.TheVariants.{Ask, Decided, Prepare, Promise as Promising, Accept, Accepted, Refused}
use Rattle.bx_packets.specs.declared.message.Promise.{Promise}
use Rattle.bx_rows.specs.declared.ballot.Ballot.{Ballot}
use Rattle.bx_rounds.specs.declared.course.Course.{Course}
use Rattle.bx_rounds.specs.declared.course.Move.{Move}
use Rattle.bx_rounds.specs.declared.course.Proposal.{Proposal}
use Rattle.bx_rounds.specs.declared.course.Vouched.{Vouched}
use Rattle.bx_rounds.specs.Courses.{GivesUp, IsCourse, IsKeptPromise, IsProposal, IsSentState, PacketStep, Steps}
use Rattle.bx_rounds.specs.Steps.{FromReplica, Gathers, Hears, HearsPromise, HearsRefusal, HearsVote, Learns, PromiseAt, Proposes, RefusedAt, TickAt, Ticks, VoteAt, fresh, learned, noting, preparing, promised_in, reading_now, with_out}

-- ---- parts

-- with another round seen, or another reading, it is as it was
noted : (devices round : ℕ) (c : Course) → IsCourse devices c → IsCourse devices (noting round c)
noted devices round c is = record { known = is.known; boot = is.boot; out = is.out }

-- a proposal of which nothing is known
begun : (devices me : ℕ) (c : Course) (p : Proposal) → me < 2 ^ 32 → c.seen + 1 < 2 ^ 64 → IsCourse devices c → IsStateOf devices p.own → p.own.index ≡ c.known.index + 1 → IsCourse devices (preparing me p c)
begun devices me c p fits room is own index = record {
  known = is.known;
  boot = is.boot;
  out = record {
    own = own;
    index = index;
    ballot = record { round = room; actor = fits; boot = is.boot };
    promise = tt;
    sent = tt;
  };
}

put_out : (devices : ℕ) (c : Course) (p : Proposal) → IsCourse devices c → IsProposal devices c.known p → IsCourse devices (with_out p c)
put_out devices c p is also = record { known = is.known; boot = is.boot; out = also }

known_now : (devices : ℕ) (c : Course) (s : GlobalState) → IsCourse devices c → IsStateOf devices s → IsCourse devices (learned s c)
known_now devices c s is state = record { known = state; boot = is.boot; out = tt }

-- ---- each message

learns : (devices : ℕ) (c new : Course) (s : GlobalState) → IsCourse devices c → IsStateOf devices s → Learns c s new → IsCourse devices new
learns devices c new s is state (inl (newer, e)) = subst (IsCourse devices) (sym e) (known_now devices c s is state)
learns devices c new s is state (inr (older, e)) = subst (IsCourse devices) (sym e) is

picked : (devices : ℕ) (p : Proposal) (v : Vouched) (n : ℕ) (q : Promise) (s : GlobalState) → IsStateOf devices p.own → IsKeptPromise devices p.own.index v → IsPromise devices q → (q.flag ≡ 1 → q.state.index ≡ p.own.index)
    → Picks (promised_in v) (promised_by n q) p.own s → IsSentState devices p.own.index s
picked devices p v n q s own first other at (inl (none, e)) = subst (IsSentState devices p.own.index) (sym e) (record { is = own; index_is = refl })
picked devices p v n q s own first other at (inr (inl (flag, e, least))) = subst (IsSentState devices p.own.index) (sym e) (record { is = first.is.state; index_is = first.state flag })
picked devices p v n q s own first other at (inr (inr (flag, e, least))) = subst (IsSentState devices p.own.index) (sym e) (record { is = other.state; index_is = at flag })

gathers : (devices : ℕ) (known : GlobalState) (p new : Proposal) (n : ℕ) (q : Promise) (move : Move) → IsProposal devices known p → IsPromise devices q → Gathers p n q new move → IsProposal devices known new
gathers devices known p new n q move is as_promise (inl (passed, e, silent)) = subst (IsProposal devices known) (sym e) is
gathers devices known p new n q move is as_promise (inr (inl (counts, none, e, silent))) = subst (IsProposal devices known) (sym e) record {
  own = is.own;
  index = is.index;
  ballot = is.ballot;
  promise = record { is = as_promise; state = λ flag. counts.state flag ∙ sym counts.index };
  sent = is.sent;
}
gathers devices known p new n q move is as_promise (inr (inr (counts, another, sends, says))) = by new.sent p.promise is.promise sends
  where
    by : (sent : Option GlobalState) (first : Option Vouched) → IfSome first (IsKeptPromise devices p.own.index) → IsSomeAnd sent (λ s. IsSomeAnd first (λ v. Picks (promised_in v) (promised_by n q) p.own s) × (new ≡ record p { sent = Some s })) → IsProposal devices known new
    by None first kept x = absurd x
    by (Some s) None kept x = absurd x.0
    by (Some s) (Some v) kept x = subst (IsProposal devices known) (sym x.1) record {
      own = is.own;
      index = is.index;
      ballot = is.ballot;
      promise = is.promise;
      sent = picked devices p v n q s is.own kept as_promise (λ flag. counts.state flag ∙ sym counts.index) x.0;
    }

promise_at : (devices : ℕ) (out : Option Proposal) (c new : Course) (n : ℕ) (q : Promise) (move : Move) → c.out ≡ out → IsCourse devices c → IsPromise devices q → PromiseAt out c n q new move → IsCourse devices new
promise_at devices None c new n q move at is as_promise x = subst (IsCourse devices) (sym x.0) is
promise_at devices (Some p) c new n q move at is as_promise x = by new.out x
  where
    this : IsProposal devices c.known p
    this = rw at at is.out

    by : (made : Option Proposal) → IsSomeAnd made (λ y. Gathers p n q y move × (new ≡ with_out y c)) → IsCourse devices new
    by None y = absurd y
    by (Some y) (does, e) = subst (IsCourse devices) (sym e) (put_out devices c y is (gathers devices c.known p y n q move this as_promise does))

votes : (devices : ℕ) (out : Option Proposal) (c new : Course) (n : ℕ) (b : Ballot) (index : ℕ) (move : Move) → c.out ≡ out → IsCourse devices c → VoteAt out c n b index new move → IsCourse devices new
votes devices None c new n b index move at is x = subst (IsCourse devices) (sym x.0) is
votes devices (Some p) c new n b index move at is x = by x
  where
    this : IsProposal devices c.known p
    this = rw at at is.out

    known_by : (sent : Option GlobalState) → IfSome sent (IsSentState devices p.own.index) → IsSomeAnd sent (λ s. new ≡ learned s c) → IsCourse devices new
    known_by None kept y = absurd y
    known_by (Some s) kept y = subst (IsCourse devices) (sym y) (known_now devices c s is kept.is)

    by : VoteAt (Some p) c n b index new move → IsCourse devices new
    by (inl (passed, e, silent)) = subst (IsCourse devices) (sym e) (put_out devices c p is this)
    by (inr (inl (counts, none, e, silent))) = subst (IsCourse devices) (sym e) (put_out devices c (record p { accepted = Some n }) is (record { own = this.own; index = this.index; ballot = this.ballot; promise = this.promise; sent = this.sent }))
    by (inr (inr (counts, another, knows, says))) = known_by p.sent this.sent knows

refusals : (devices me : ℕ) (out : Option Proposal) (c new : Course) (index : ℕ) (b : Ballot) (move : Move) → me < 2 ^ 32 → c.out ≡ out → IsCourse devices c → RefusedAt me out c index b new move → IsCourse devices new
refusals devices me None c new index b move fits at is x = subst (IsCourse devices) (sym x.0) is
refusals devices me (Some p) c new index b move fits at is x = by x
  where
    this : IsProposal devices c.known p
    this = rw at at is.out

    by : RefusedAt me (Some p) c index b new move → IsCourse devices new
    by (inl (over, e, says)) = subst (IsCourse devices) (sym e) (begun devices me c (record p { tries = p.tries + 1 }) fits over.left is this.own this.index)
    by (inr (not_over, e, says)) = subst (IsCourse devices) (sym e) (put_out devices c p is this)

from_replica : (devices : ℕ) (from : Actor) (c new : Course) (hears : ℕ → Course → Move → Type 0) (move : Move) → IsCourse devices c → ((n : ℕ) → hears n new move → IsCourse devices new) → FromReplica from c hears new move → IsCourse devices new
from_replica devices (Node m) c new hears move is does x = subst (IsCourse devices) (sym x.0) is
from_replica devices (Replica m) c new hears move is does (inl (there, x)) = does m x
from_replica devices (Replica m) c new hears move is does (inr (far, e, silent)) = subst (IsCourse devices) (sym e) is
from_replica devices (Server m) c new hears move is does x = subst (IsCourse devices) (sym x.0) is
from_replica devices (Member m) c new hears move is does x = subst (IsCourse devices) (sym x.0) is

pub hears_kept : (devices me : ℕ) (c new : Course) (from : Actor) (m : Message) (move : Move) → me < 2 ^ 32 → IsCourse devices c → IsMessage devices m → Hears me c from m new move → IsCourse devices new
hears_kept devices me c new from Ask move fits is says x = subst (IsCourse devices) (sym x.0) is
hears_kept devices me c new from (Decided s) move fits is says x = learns devices c new s is says x.0
hears_kept devices me c new from (Prepare b s) move fits is says x = subst (IsCourse devices) (sym x.0) is
hears_kept devices me c new from (Promising q) move fits is says x =
    from_replica devices from c new (λ n. HearsPromise c n q) move is
    (λ n h. promise_at devices c.out (noting q.accepted.round (noting q.ballot.round c)) new n q move refl (noted devices q.accepted.round (noting q.ballot.round c) (noted devices q.ballot.round c is)) says h) x
hears_kept devices me c new from (Accept b s) move fits is says x = subst (IsCourse devices) (sym x.0) is
hears_kept devices me c new from (Accepted b index) move fits is says x =
    from_replica devices from c new (λ n. HearsVote c n b index) move is (λ n h. votes devices c.out (noting b.round c) new n b index move refl (noted devices b.round c is) h) x
hears_kept devices me c new from (Refused index b) move fits is says x =
    from_replica devices from c new (λ n. HearsRefusal me c index b) move is (λ n h. refusals devices me c.out (noting b.round c) new index b move fits refl (noted devices b.round c is) h) x

-- ---- a tick, what comes, and a change

ticks : (devices me : ℕ) (out : Option Proposal) (c new : Course) (move : Move) → me < 2 ^ 32 → c.out ≡ out → IsCourse devices c → TickAt me out c new move → IsCourse devices new
ticks devices me None c new move fits at is x = subst (IsCourse devices) (sym x.0) is
ticks devices me (Some p) c new move fits at is x = by x
  where
    this : IsProposal devices c.known p
    this = rw at at is.out

    by : TickAt me (Some p) c new move → IsCourse devices new
    by (inl (late, e, says)) = subst (IsCourse devices) (sym e) (begun devices me c (record p { tries = 0 }) fits late.left is this.own this.index)
    by (inr (early, e, says)) = subst (IsCourse devices) (sym e) (put_out devices c (record p { tries = 0 }) is (record { own = this.own; index = this.index; ballot = this.ballot; promise = this.promise; sent = this.sent }))

read_now : (devices reading : ℕ) (c : Course) → IsCourse devices c → IsCourse devices (reading_now reading c)
read_now devices reading c is = record { known = is.known; boot = is.boot; out = is.out }

packet_kept : (devices me : ℕ) (c new : Course) (from : Actor) (kind : ℕ) (body : List ℕ) (move : Move) → me < 2 ^ 32 → IsCourse devices c → PacketStep me devices c from kind body new move → IsCourse devices new
packet_kept devices me c new from kind body move fits is (inl (message, spells, hears)) = hears_kept devices me c new from message move fits is spells.is hears
packet_kept devices me c new from kind body move fits is (inr (none, e, silent)) = subst (IsCourse devices) (sym e) is

pub ticks_kept : (devices me : ℕ) (c new : Course) (move : Move) → me < 2 ^ 32 → IsCourse devices c → Ticks me c new move → IsCourse devices new
ticks_kept devices me c new move fits is x = ticks devices me c.out c new move fits refl is x

pub steps_kept : (devices me : ℕ) (c new : Course) (input : Input) (move : Move) → me < 2 ^ 32 → IsCourse devices c → Steps me devices c input new move → IsCourse devices new
steps_kept devices me c new (Packet packet reading) move fits is x = packet_kept devices me (reading_now reading c) new packet.now.from packet.now.kind packet.now.body move fits (read_now devices reading c is) x
steps_kept devices me c new (Tick reading) move fits is x = ticks devices me c.out (reading_now reading c) new move fits refl (read_now devices reading c is) x
steps_kept devices me c new Synced move fits is x = subst (IsCourse devices) (sym x.0) is

-- no change adds a device
same_count : (s : GlobalState) (change : Change) → length (effect s change).devices ≡ length s.devices
same_count s (Renew by boot reading) = refl
same_count s (Take by boot reading) = refl
same_count s (Open node boot reading) = refl
same_count s (Expire session term reading) = refl
same_count s (Claim gone by) = refl
same_count s (Close gone by) = refl
same_count s (Shift device epoch mode second boot) = length-at_place device (shifted mode second boot) s.devices

pub proposes_kept : (devices me : ℕ) (c new : Course) (change : Change) (move : Move) → me < 2 ^ 32 → IsCourse devices c → IsLegal c.known change → IsChange change → Proposes me c change new move → IsCourse devices new
proposes_kept devices me c new change move fits is legal numbers x = by x
  where
    own : IsStateOf devices (effect c.known change)
    own = record { is = stays_allowed c.known change is.known.is numbers legal; devices_are = same_count c.known change ∙ is.known.devices_are }

    index : (effect c.known change).index ≡ c.known.index + 1
    index = index_rises c.known change

    by : Proposes me c change new move → IsCourse devices new
    by (inl (room, e, says)) = subst (IsCourse devices) (sym e) (begun devices me c (fresh (effect c.known change) c.reading) fits room is own index)
    by (inr (none, e, says)) = subst (IsCourse devices) (sym e) (put_out devices c (fresh (effect c.known change) c.reading) is (record { own = own; index = index; ballot = tt; promise = tt; sent = tt }))

-- where memory runs out
pub gives_up_kept : (devices : ℕ) (c new : Course) → IsCourse devices c → GivesUp c new → IsCourse devices new
gives_up_kept devices c new is gives = record {
  known = subst (IsStateOf devices) (sym gives.known) is.known;
  boot = subst Fits (sym gives.boot) is.boot;
  out = elim gives.out [
    | inl same ↦ subst (λ (s : GlobalState). IfSome new.out (IsProposal devices s)) (sym gives.known) (subst (λ (o : Option Proposal). IfSome o (IsProposal devices c.known)) (sym same) is.out)
    | inr none ↦ subst (λ (o : Option Proposal). IfSome o (IsProposal devices new.known)) (sym none) tt
  ];
}
