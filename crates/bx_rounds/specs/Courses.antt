-- What holds of each course, and what a machine does with what comes.
use Rattle.std.specs.Prelude.{◌≡◌, ℕ, ◌+◌, ◌≤◌, ◌⊎◌, List, None, IfSome, IsSome}
use Rattle.bx_base.specs.declared.names.Actor.{Actor}
use Rattle.bx_facts.specs.declared.input.Input.{Input}
use Rattle.bx_facts.specs.declared.input.Input.TheVariants.{Packet, Tick, Synced}
use Rattle.bx_global.specs.Allowed.{Fits}
use Rattle.bx_global.specs.Bytes.{IsBallot}
use Rattle.bx_global.specs.declared.state.GlobalState.{GlobalState}
use Rattle.bx_packets.specs.Messages.{IsPromise, IsStateOf, Spells}
use Rattle.bx_packets.specs.declared.message.Message.{Message}
use Rattle.bx_rounds.specs.declared.course.Course.{Course}
use Rattle.bx_rounds.specs.declared.course.Move.{Move}
use Rattle.bx_rounds.specs.declared.course.Move.TheVariants.{Nothing}
use Rattle.bx_rounds.specs.declared.course.Proposal.{Proposal}
use Rattle.bx_rounds.specs.declared.course.Vouched.{Vouched}
use Rattle.bx_rounds.specs.Steps.{Hears, Ticks, reading_now}

-- ---- what holds of each

-- A promise that was kept: a state that it tells of is of the proposal's index.
pub record IsKeptPromise (devices index : ℕ) (v : Vouched) : Type 0 where
  pub is : IsPromise devices v.promise
  pub state : v.promise.flag ≡ 1 → v.promise.state.index ≡ index

-- A state that was sent is of the proposal's index.
pub record IsSentState (devices index : ℕ) (s : GlobalState) : Type 0 where
  pub is : IsStateOf devices s
  pub index_is : s.index ≡ index

-- a proposal of the state behind the one that is known
pub record IsProposal (devices : ℕ) (known : GlobalState) (p : Proposal) : Type 0 where
  pub own : IsStateOf devices p.own
  pub index : p.own.index ≡ known.index + 1
  pub ballot : IfSome p.ballot IsBallot
  pub promise : IfSome p.promise (IsKeptPromise devices p.own.index)
  pub sent : IfSome p.sent (IsSentState devices p.own.index)

pub record IsCourse (devices : ℕ) (c : Course) : Type 0 where
  pub known : IsStateOf devices c.known
  pub boot : Fits c.boot
  pub out : IfSome c.out (IsProposal devices c.known)

-- ---- what it does

-- it knows the first state and has nothing out
abbrev pub started : ℕ → ℕ → GlobalState → Course
started boot reading first = record { boot = boot; seen = 0; reading = reading; known = first; out = None }

-- it stops
abbrev pub stopped : Course → Course
stopped c = record c { out = None }

-- What a packet of this kind and body says is taken; one that says nothing is passed over.
abbrev pub PacketStep : ℕ → ℕ → Course → Actor → ℕ → List ℕ → Course → Move → Type 0
PacketStep me devices c from kind body new move =
    ((message : Message) × Spells devices message kind body × Hears me c from message new move)
    ⊎ (((message : Message) → Spells devices message kind body → ⊥) × (new ≡ c) × (move ≡ Nothing))

abbrev pub Steps : ℕ → ℕ → Course → Input → Course → Move → Type 0
Steps me devices c (Packet packet reading) new move = PacketStep me devices (reading_now reading c) packet.now.from packet.now.kind packet.now.body new move
Steps me devices c (Tick reading) new move = Ticks me (reading_now reading c) new move
Steps me devices c Synced new move = (new ≡ c) × (move ≡ Nothing)

-- What is left where memory runs out in a step: what it knows stays, and so does the proposal, or it goes.
pub record GivesUp (c new : Course) : Type 0 where
  pub known : new.known ≡ c.known
  pub boot : new.boot ≡ c.boot
  pub out : (new.out ≡ c.out) ⊎ (new.out ≡ None)

-- What is known doesn't go back, and a proposal is out until what is known rises.
pub record LeadsOn (c new : Course) : Type 0 where
  pub boot : new.boot ≡ c.boot
  pub rises : c.known.index ≤ new.known.index
  pub still : IsSome c.out → new.known.index ≡ c.known.index → IsSome new.out
  pub was : IsSome new.out → IsSome c.out × (new.known.index ≡ c.known.index)
