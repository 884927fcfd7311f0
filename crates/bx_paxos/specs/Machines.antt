-- The machine of a replica: its acceptor and its proposer.
use Rattle.std.specs.Prelude.{◌≡◌, ℕ, ◌<◌, ◌≤◌, List}
use Rattle.bx_acceptor.specs.Standing.{IsAcceptorView as IsAcceptor, AcceptorView as Acceptor, TakesIn}
use Rattle.bx_base.specs.declared.names.Actor.TheVariants.{Replica}
use Rattle.bx_facts.specs.declared.input.Input.{Input}
use Rattle.bx_post.specs.declared.packets.Letter.{Letter}
use Rattle.bx_proposer.specs.Standing.{IsProposerView as IsProposer, ProposerView as Proposer, Takes, going_on}
use Rattle.bx_rounds.specs.Courses.{started}
use Rattle.bx_rounds.specs.Steps.{Learns}
use Rattle.bx_paxos.specs.Fits.{Voters}

-- Both are of one machine, and begin with one state.
pub record AreHalves (a : Acceptor) (p : Proposer) : Type 0 where
  pub low : a.replica < 3
  pub at : p.at ≡ Replica a.replica
  pub first : p.first ≡ a.first
  pub acceptor : IsAcceptor a
  pub proposer : IsProposer p

-- They are those of these voters.
pub record AreOf (v : Voters) (a : Acceptor) (p : Proposer) : Type 0 where
  pub first : v.first ≡ a.first
  pub origin : v.origins a.replica ≡ a.origin
  pub course : v.courses p.actor ≡ p.course

-- It is the same machine: of its acceptor the replica, the first state and how its cell came to be stay, and of its proposer all but its course.
pub record IsSame (a b : Acceptor) (p q : Proposer) : Type 0 where
  pub replica : b.replica ≡ a.replica
  pub first : b.first ≡ a.first
  pub origin : b.origin ≡ a.origin
  pub proposer : q ≡ going_on p q.course

-- It takes what comes: its acceptor does, then its proposer is told what that knows, then its proposer takes it.
pub record TakesBoth (a : Acceptor) (p : Proposer) (input : Input) (a_new : Acceptor) (p_new : Proposer) (before after : List Letter) (Same : Type 0) : Type 0 where
  pub between : List Letter
  pub told : Proposer
  pub accepts : TakesIn a input a_new before between Same
  pub learns : Learns p.course a_new.held.decided told.course
  pub stays : told ≡ going_on p told.course
  pub takes : Takes told input p_new between after

-- It starts again in a boot: its proposer knows the first state and has nothing out, and is told what the acceptor knows that has started. It sends
-- nothing, since it is a replica itself.
pub record StartsBoth (p : Proposer) (boot : ℕ) (a_new : Acceptor) (p_new : Proposer) (before after : List Letter) : Type 0 where
  pub learns : Learns (started boot p.course.reading p.first) a_new.held.decided p_new.course
  pub stays : p_new ≡ going_on p p_new.course
  pub sends : after ≡ before

-- Its proposer knows no less than its acceptor.
abbrev pub KnowsAll : Acceptor → Proposer → Type 0
KnowsAll a p = a.held.decided.index ≤ p.course.known.index
