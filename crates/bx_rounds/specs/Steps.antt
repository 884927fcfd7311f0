-- What a machine that proposes does in each step.
use Rattle.std.specs.Prelude.{◌≡◌, ◌≢◌, ℕ, ◌+◌, ◌^◌, ◌<◌, ◌≤◌, ◌⊎◌, max, Option, Some, None, IsSome, IsSomeAnd}
use Rattle.bx_agreement.specs.History.{Promised}
use Rattle.bx_agreement.specs.Passing.{promised_by}
use Rattle.bx_agreement.specs.Sound.{Picks}
use Rattle.bx_base.specs.declared.names.Actor.{Actor}
use Rattle.bx_base.specs.declared.names.Actor.TheVariants.{Node, Replica, Server, Member}
use Rattle.bx_global.specs.Table.{effect}
use Rattle.bx_global.specs.declared.change.Change.{Change}
use Rattle.bx_global.specs.declared.state.GlobalState.{GlobalState}
use Rattle.bx_packets.specs.declared.message.Message.{Message}
use Rattle.bx_packets.specs.declared.message.Message.TheVariants.{Ask, Decided, Prepare, Promise as Promising, Accept, Accepted, Refused}
use Rattle.bx_packets.specs.declared.message.Promise.{Promise}
use Rattle.bx_rows.specs.declared.ballot.Ballot.{Ballot}
use Rattle.bx_rows.specs.Ballots.{ComesBefore}
use Rattle.bx_rounds.specs.declared.course.Course.{Course}
use Rattle.bx_rounds.specs.declared.course.Move.{Move}
use Rattle.bx_rounds.specs.declared.course.Move.TheVariants.{Nothing, Prepare as Prepares, Accept as Accepts, Decided as Decides}
use Rattle.bx_rounds.specs.declared.course.Proposal.{Proposal}
use Rattle.bx_rounds.specs.declared.course.Vouched.{Vouched}

-- ---- what it has seen, and what it knows

-- a round that was seen
abbrev pub noting : ℕ → Course → Course
noting round c = record c { seen = max c.seen round }

-- the clock's reading
abbrev pub reading_now : ℕ → Course → Course
reading_now reading c = record c { reading = reading }

-- with this proposal out
abbrev pub with_out : Proposal → Course → Course
with_out p c = record c { out = Some p }

-- a state is known, and nothing is out
abbrev pub learned : GlobalState → Course → Course
learned s c = record c { known = s; out = None }

-- A decided state is taken where it is newer.
abbrev pub Learns : Course → GlobalState → Course → Type 0
Learns c s new = ((c.known.index < s.index) × (new ≡ learned s c)) ⊎ ((s.index ≤ c.known.index) × (new ≡ c))

-- ---- a round begins

-- the proposal in a ballot that was just drawn: nothing has come yet
abbrev pub in_ballot : Ballot → Proposal → Proposal
in_ballot b p = record p { ballot = Some b; promise = None; sent = None; accepted = None }

-- .. whose round is one above the greatest that was seen
abbrev pub drawn : ℕ → Course → Ballot
drawn me c = record { round = c.seen + 1; actor = me; boot = c.boot }

abbrev pub preparing : ℕ → Proposal → Course → Course
preparing me p c = record c { seen = c.seen + 1; out = Some (in_ballot (drawn me c) p) }

-- there is a round left
abbrev pub HasRound : Course → Type 0
HasRound c = c.seen + 1 < 2 ^ 64

-- ---- a proposal

-- a proposal of this state, handed in at a reading
abbrev pub fresh : GlobalState → ℕ → Proposal
fresh s reading = record { own = s; since = reading; tries = 0; ballot = None; promise = None; sent = None; accepted = None }

-- A legal change is out from then on. It is prepared where a round is left.
abbrev pub Proposes : ℕ → Course → Change → Course → Move → Type 0
Proposes me c change new move =
    (HasRound c × (new ≡ preparing me (fresh (effect c.known change) c.reading) c) × (move ≡ Prepares))
    ⊎ ((HasRound c → ⊥) × (new ≡ with_out (fresh (effect c.known change) c.reading) c) × (move ≡ Nothing))

-- ---- promises

abbrev pub promised_in : Vouched → Promised
promised_in v = promised_by v.replica v.promise

-- A promise counts for a proposal: it is of its ballot and its index, and no state was sent in that ballot.
pub record Counts (p : Proposal) (q : Promise) : Type 0 where
  pub ballot : p.ballot ≡ Some q.ballot
  pub index : p.own.index ≡ q.index
  pub unsent : p.sent ≡ None
  pub state : q.flag ≡ 1 → q.state.index ≡ q.index

-- of which replica the first one is
abbrev pub IsFirstOf : ℕ → Option Vouched → Type 0
IsFirstOf n first = IsSomeAnd first (λ v. v.replica ≡ n)

abbrev pub IsOfAnother : ℕ → Option Vouched → Type 0
IsOfAnother n first = IsSomeAnd first (λ v. v.replica ≢ n)

-- a state is sent that the first promise and this one allow
abbrev pub SendsPicked : Proposal → ℕ → Promise → Proposal → Type 0
SendsPicked p n q new = IsSomeAnd new.sent (λ s. IsSomeAnd p.promise (λ v. Picks (promised_in v) (promised_by n q) p.own s) × (new ≡ record p { sent = Some s }))

-- The first promise is kept; one of another replica makes a majority, and the state is chosen by both. What was sent in a ballot stays.
abbrev pub Gathers : Proposal → ℕ → Promise → Proposal → Move → Type 0
Gathers p n q new move =
    (((Counts p q → ⊥) ⊎ IsFirstOf n p.promise) × (new ≡ p) × (move ≡ Nothing))
    ⊎ ((Counts p q × (p.promise ≡ None) × (new ≡ record p { promise = Some (record { replica = n; promise = q }) }) × (move ≡ Nothing))
    ⊎ (Counts p q × IsOfAnother n p.promise × SendsPicked p n q new × (move ≡ Accepts)))

abbrev pub PromiseAt : Option Proposal → Course → ℕ → Promise → Course → Move → Type 0
PromiseAt None c n q new move = (new ≡ c) × (move ≡ Nothing)
PromiseAt (Some p) c n q new move = IsSomeAnd new.out (λ x. Gathers p n q x move × (new ≡ with_out x c))

abbrev pub HearsPromise : Course → ℕ → Promise → Course → Move → Type 0
HearsPromise c n q new move = PromiseAt c.out (noting q.accepted.round (noting q.ballot.round c)) n q new move

-- ---- acceptances

-- An acceptance counts for a proposal: it is of its ballot and its index, and a state was sent in that ballot.
pub record IsVote (p : Proposal) (b : Ballot) (index : ℕ) : Type 0 where
  pub ballot : p.ballot ≡ Some b
  pub index_is : p.own.index ≡ index
  pub sent : IsSome p.sent

-- The first replica that accepted is kept; with another one the state that was sent is known, and all are told.
abbrev pub VoteIn : Proposal → Course → ℕ → Ballot → ℕ → Course → Move → Type 0
VoteIn p c n b index new move =
    (((IsVote p b index → ⊥) ⊎ (p.accepted ≡ Some n)) × (new ≡ with_out p c) × (move ≡ Nothing))
    ⊎ ((IsVote p b index × (p.accepted ≡ None) × (new ≡ with_out (record p { accepted = Some n }) c) × (move ≡ Nothing))
    ⊎ (IsVote p b index × IsSomeAnd p.accepted (λ m. m ≢ n) × IsSomeAnd p.sent (λ s. new ≡ learned s c) × (move ≡ Decides)))

abbrev pub VoteAt : Option Proposal → Course → ℕ → Ballot → ℕ → Course → Move → Type 0
VoteAt None c n b index new move = (new ≡ c) × (move ≡ Nothing)
VoteAt (Some p) c n b index new move = VoteIn p c n b index new move

abbrev pub HearsVote : Course → ℕ → Ballot → ℕ → Course → Move → Type 0
HearsVote c n b index new move = VoteAt c.out (noting b.round c) n b index new move

-- ---- refusals

-- A refusal has a proposal prepared anew: it is of its index, for a later ballot, it is one of eight since the last tick at most,
-- and a round is left.
pub record IsOvertaken (p : Proposal) (c : Course) (index : ℕ) (b : Ballot) : Type 0 where
  pub index_is : p.own.index ≡ index
  pub later : IsSomeAnd p.ballot (λ mine. ComesBefore mine b)
  pub tries : p.tries < 8
  pub left : HasRound c

abbrev pub RefusedIn : ℕ → Proposal → Course → ℕ → Ballot → Course → Move → Type 0
RefusedIn me p c index b new move =
    (IsOvertaken p c index b × (new ≡ preparing me (record p { tries = p.tries + 1 }) c) × (move ≡ Prepares))
    ⊎ ((IsOvertaken p c index b → ⊥) × (new ≡ with_out p c) × (move ≡ Nothing))

abbrev pub RefusedAt : ℕ → Option Proposal → Course → ℕ → Ballot → Course → Move → Type 0
RefusedAt me None c index b new move = (new ≡ c) × (move ≡ Nothing)
RefusedAt me (Some p) c index b new move = RefusedIn me p c index b new move

abbrev pub HearsRefusal : ℕ → Course → ℕ → Ballot → Course → Move → Type 0
HearsRefusal me c index b new move = RefusedAt me c.out (noting b.round c) index b new move

-- ---- each message, and a tick

-- a replica's number
abbrev pub IsReplica : Actor → ℕ → Type 0
IsReplica (Node m) n = ⊥
IsReplica (Replica m) n = (m ≡ n) × (n < 3)
IsReplica (Server m) n = ⊥
IsReplica (Member m) n = ⊥

-- What one of the replicas says counts by the replica; from any other machine it counts for nothing.
abbrev pub FromReplica : Actor → Course → (ℕ → Course → Move → Type 0) → Course → Move → Type 0
FromReplica (Node m) c Hears new move = (new ≡ c) × (move ≡ Nothing)
FromReplica (Replica n) c Hears new move = ((n < 3) × Hears n new move) ⊎ ((3 ≤ n) × (new ≡ c) × (move ≡ Nothing))
FromReplica (Server m) c Hears new move = (new ≡ c) × (move ≡ Nothing)
FromReplica (Member m) c Hears new move = (new ≡ c) × (move ≡ Nothing)

-- The machine with this number takes a message, and goes on so.
abbrev pub Hears : ℕ → Course → Actor → Message → Course → Move → Type 0
Hears me c from Ask new move = (new ≡ c) × (move ≡ Nothing)
Hears me c from (Decided s) new move = Learns c s new × (move ≡ Nothing)
Hears me c from (Prepare b s) new move = (new ≡ c) × (move ≡ Nothing)
Hears me c from (Promising q) new move = FromReplica from c (λ n. HearsPromise c n q) new move
Hears me c from (Accept b s) new move = (new ≡ c) × (move ≡ Nothing)
Hears me c from (Accepted b index) new move = FromReplica from c (λ n. HearsVote c n b index) new move
Hears me c from (Refused index b) new move = FromReplica from c (λ n. HearsRefusal me c index b) new move

-- A proposal that is out for more than a second is prepared anew, where a round is left.
pub record IsLate (p : Proposal) (c : Course) : Type 0 where
  pub late : p.since + 1000 < c.reading
  pub left : HasRound c

abbrev pub TickIn : ℕ → Proposal → Course → Course → Move → Type 0
TickIn me p c new move =
    (IsLate p c × (new ≡ preparing me (record p { tries = 0 }) c) × (move ≡ Prepares))
    ⊎ ((IsLate p c → ⊥) × (new ≡ with_out (record p { tries = 0 }) c) × (move ≡ Nothing))

abbrev pub TickAt : ℕ → Option Proposal → Course → Course → Move → Type 0
TickAt me None c new move = (new ≡ c) × (move ≡ Nothing)
TickAt me (Some p) c new move = TickIn me p c new move

abbrev pub Ticks : ℕ → Course → Course → Move → Type 0
Ticks me c new move = TickAt me c.out c new move
