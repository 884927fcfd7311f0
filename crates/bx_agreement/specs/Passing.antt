-- Which messages may come to a replica, and the history after its answer.
use Rattle.std.specs.Prelude.{ℕ, Option, Some, None}
use Rattle.bx_base.specs.declared.names.Actor.{Actor}
use Rattle.bx_base.specs.declared.names.Actor.TheVariants.{Node, Replica, Server, Member}
use Rattle.bx_packets.specs.declared.message.Message.{Message}
use Rattle.bx_packets.specs.declared.message.Message.TheVariants.{Ask, Decided, Prepare, Promise as Promising, Accept, Accepted, Refused}
use Rattle.bx_packets.specs.declared.message.Promise.{Promise}
use Rattle.bx_facts.specs.Chains.{IsPlace}
use Rattle.bx_agreement.specs.History.{HasPromised, HasVoted, History, IsProposed, Promised}
use Rattle.bx_agreement.specs.Sound.{with_promise, with_vote}

-- the promise of a replica
abbrev pub promised_by : ℕ → Promise → Promised
promised_by n p = record { replica = n; ballot = p.ballot; index = p.index; flag = p.flag; accepted = p.accepted; state = p.state }

-- which messages may have been sent to a replica: decided states are places of the chain, and states that are to be
-- accepted were proposed
abbrev pub MayCome : History → Message → Type 0
MayCome h Ask = Unit {0}
MayCome h (Decided s) = IsPlace h.chain s
MayCome h (Prepare b s) = IsPlace h.chain s
MayCome h (Promising p) = Unit {0}
MayCome h (Accept b s) = IsProposed h.proposals b s
MayCome h (Accepted b i) = Unit {0}
MayCome h (Refused i b) = Unit {0}

-- the history after a replica's answer
abbrev pub answered : ℕ → Option Message → History → History
answered n None h = h
answered n (Some Ask) h = h
answered n (Some (Decided s)) h = h
answered n (Some (Prepare b s)) h = h
answered n (Some (Promising p)) h = with_promise (promised_by n p) h
answered n (Some (Accept b s)) h = h
answered n (Some (Accepted b i)) h = with_vote n b h
answered n (Some (Refused i b)) h = h

-- what a replica says that it promised, or that it accepted, it has; of others it says nothing
abbrev pub HasSaid : Actor → (ℕ → Type 0) → Type 0
HasSaid (Node n) Has = Unit {0}
HasSaid (Replica n) Has = Has n
HasSaid (Server n) Has = Unit {0}
HasSaid (Member n) Has = Unit {0}

-- A message of this machine may be under way: decided states are places of the chain, states that are to be accepted were proposed, and
-- what replicas say that they did they have done.
abbrev pub MayPass : History → Actor → Message → Type 0
MayPass h from Ask = Unit {0}
MayPass h from (Decided s) = IsPlace h.chain s
MayPass h from (Prepare b s) = IsPlace h.chain s
MayPass h from (Promising p) = HasSaid from (λ n. HasPromised h.promises (promised_by n p))
MayPass h from (Accept b s) = IsProposed h.proposals b s
MayPass h from (Accepted b i) = HasSaid from (λ n. HasVoted h.votes n b)
MayPass h from (Refused i b) = Unit {0}
