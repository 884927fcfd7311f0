-- All that a register sends is of the register's kinds.
use Rattle.std.proofs.Common.{◌≡◌, ℕ, List, [], ◌∷◌, ◌++◌, Option, Some, None, Contains, refl, sym, subst, inl, inr, lit≤}
use Rattle.std.proofs.lemmas.List.Elements.{Contains-append_cases, Contains-append_left}
use Rattle.bx_acceptor.specs.Standing.{AcceptorView as Acceptor, TakesIn}
use Rattle.bx_answers.specs.Replies.{letters_of as answers_of}
use Rattle.bx_base.specs.declared.names.Actor.{Actor}
use Rattle.bx_base.specs.declared.names.Actor.TheVariants.{Node, Replica, Server, Member}
use Rattle.bx_facts.proofs.Lists.{front_or_behind, nothing}
use Rattle.bx_facts.specs.Inputs.{IsRegisters, SendsOnly}
use Rattle.bx_facts.specs.declared.input.Input.{Input}
use Rattle.bx_facts.specs.declared.input.Input.TheVariants.{Packet, Tick, Synced}
use Rattle.bx_global.specs.declared.change.Change.{Change}
use Rattle.bx_global.specs.declared.state.GlobalState.{GlobalState}
use Rattle.bx_packets.specs.Messages.{letter_with}
use Rattle.bx_packets.specs.declared.message.Message.{Message}
use Rattle.bx_packets.specs.declared.message.Message.TheVariants.{Ask, Decided, Prepare, Promise as Promising, Accept, Accepted, Refused}
use Rattle.bx_post.specs.declared.packets.Letter.{Letter}
use Rattle.bx_proposer.specs.Letters.{accept_in, accept_letters, asks_at, asks_of, letters_of, letters_to, prepare_in, prepare_letters}
use Rattle.bx_proposer.specs.Names.{replicas}
use Rattle.bx_proposer.specs.Standing.{ProposesTo, ProposerView as Proposer, Takes}
use Rattle.bx_rounds.specs.declared.course.Course.{Course}
use Rattle.bx_rounds.specs.declared.course.Move.{Move}
use Rattle.bx_rounds.specs.declared.course.Move.TheVariants.{Nothing, Prepare as Prepares, Accept as Accepts, Decided as Decides}
use Rattle.bx_rounds.specs.declared.course.Proposal.{Proposal}
use Rattle.bx_rows.specs.declared.ballot.Ballot.{Ballot}

-- each letter is of the register's kinds
pub record AreRegisters (letters : List Letter) : Type 0 where
  pub each : (letter : Letter) → Contains letters letter → IsRegisters letter

is_of : (from to : Actor) (m : Message) → IsRegisters (letter_with from to m)
is_of from to Ask = record { least = lit≤ tt; most = lit≤ tt }
is_of from to (Decided s) = record { least = lit≤ tt; most = lit≤ tt }
is_of from to (Prepare b s) = record { least = lit≤ tt; most = lit≤ tt }
is_of from to (Promising p) = record { least = lit≤ tt; most = lit≤ tt }
is_of from to (Accept b s) = record { least = lit≤ tt; most = lit≤ tt }
is_of from to (Accepted b i) = record { least = lit≤ tt; most = lit≤ tt }
is_of from to (Refused i b) = record { least = lit≤ tt; most = lit≤ tt }

none : AreRegisters []
none = record { each = λ letter has. absurd (nothing letter has) }

to_each : (from : Actor) (m : Message) (to : List Actor) → AreRegisters (letters_to from m to)
to_each from m [] = none
to_each from m (who ∷ rest) = record {
  each = λ letter has. elim (front_or_behind (letter_with from who m) (letters_to from m rest) letter has) [
    | inl here ↦ subst IsRegisters here (is_of from who m)
    | inr there ↦ (to_each from m rest).each letter there
  ];
}

-- what an acceptor answers, and what a proposer asks and sends
answer_is : (n : ℕ) (to : Actor) (answer : Option Message) → AreRegisters (answers_of n to answer)
answer_is n to None = none
answer_is n to (Some m) = to_each (Replica n) m (to ∷ [])

asks_are : (me : Actor) → AreRegisters (asks_of me)
asks_are (Node n) = to_each (Node n) Ask replicas
asks_are (Replica n) = none
asks_are (Server n) = to_each (Server n) Ask replicas
asks_are (Member n) = to_each (Member n) Ask replicas

asks_at_are : (me : Actor) (input : Input) → AreRegisters (asks_at me input)
asks_at_are me (Packet packet reading) = none
asks_at_are me (Tick reading) = asks_are me
asks_at_are me Synced = none

prepares_are : (me : Actor) (known : GlobalState) (out : Option Proposal) → AreRegisters (prepare_letters me known out)
prepares_are me known None = none
prepares_are me known (Some p) = by p.ballot
  where
    by : (b : Option Ballot) → AreRegisters (prepare_in me known b)
    by None = none
    by (Some b) = to_each me (Prepare b known) replicas

accepts_are : (me : Actor) (out : Option Proposal) → AreRegisters (accept_letters me out)
accepts_are me None = none
accepts_are me (Some p) = by p.ballot p.sent
  where
    by : (b : Option Ballot) (s : Option GlobalState) → AreRegisters (accept_in me b s)
    by None s = none
    by (Some b) None = none
    by (Some b) (Some s) = to_each me (Accept b s) replicas

moves_are : (me : Actor) (others : List Actor) (c : Course) (move : Move) → AreRegisters (letters_of me others c move)
moves_are me others c Nothing = none
moves_are me others c Prepares = prepares_are me c.known c.out
moves_are me others c Accepts = accepts_are me c.out
moves_are me others c Decides = to_each me (Decided c.known) others

-- ---- boxes

-- with letters of the register's kinds more
sends : (old sent new : List Letter) → AreRegisters sent → new ≡ old ++ sent → SendsOnly IsRegisters old new
sends old sent new are is = subst (SendsOnly IsRegisters old) (sym is) (record {
  kept = λ letter has. Contains-append_left old sent letter has;
  each = λ letter has. elim (Contains-append_cases old sent letter has) [ inl here ↦ inl here | inr there ↦ inr (are.each letter there) ];
})

pub sends_none : (old new : List Letter) → new ≡ old → SendsOnly IsRegisters old new
sends_none old new is = subst (SendsOnly IsRegisters old) (sym is) (record { kept = λ letter has. has; each = λ letter has. inl has })

-- first the one, then the other
pub sends_both : (old mid new : List Letter) → SendsOnly IsRegisters old mid → SendsOnly IsRegisters mid new → SendsOnly IsRegisters old new
sends_both old mid new first second = record {
  kept = λ letter has. second.kept letter (first.kept letter has);
  each = λ letter has. elim (second.each letter has) [ inl before ↦ first.each letter before | inr is ↦ inr is ];
}

pub acceptor_sends : (a : Acceptor) (input : Input) (b : Acceptor) (old new : List Letter) (Same : Type 0) → TakesIn a input b old new Same → SendsOnly IsRegisters old new
acceptor_sends a input b old new Same (inl (same, is, rest)) = sends_none old new is
acceptor_sends a input b old new Same (inr (message, from, brings, takes, did)) = sends old (answers_of a.replica from did.0) new (answer_is a.replica from did.0) did.2

pub proposer_sends : (p : Proposer) (input : Input) (q : Proposer) (old new : List Letter) → Takes p input q old new → SendsOnly IsRegisters old new
proposer_sends p input q old new takes =
    let asked : List Letter = old ++ asks_at p.at input in
    sends_both old asked new (sends old (asks_at p.at input) asked (asks_at_are p.at input) refl) (sends asked (letters_of p.at p.others q.course takes.move) new (moves_are p.at p.others q.course takes.move) takes.sends)

pub change_sends : (p : Proposer) (change : Change) (q : Proposer) (old new : List Letter) → ProposesTo p change q old new → SendsOnly IsRegisters old new
change_sends p change q old new does = sends old (letters_of p.at p.others q.course does.move) new (moves_are p.at p.others q.course does.move) does.sends

pub start_sends : (at : Actor) (old new : List Letter) → new ≡ old ++ asks_of at → SendsOnly IsRegisters old new
start_sends at old new is = sends old (asks_of at) new (asks_are at) is
