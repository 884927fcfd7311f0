-- What a machine that proposes sends.
use Rattle.std.specs.Prelude.{List, [], map, Option, Some, None}
use Rattle.bx_base.specs.declared.names.Actor.{Actor}
use Rattle.bx_base.specs.declared.names.Actor.TheVariants.{Node, Replica, Server, Member}
use Rattle.bx_facts.specs.declared.input.Input.{Input}
use Rattle.bx_facts.specs.declared.input.Input.TheVariants.{Packet, Tick, Synced}
use Rattle.bx_global.specs.declared.state.GlobalState.{GlobalState}
use Rattle.bx_packets.specs.declared.message.Message.{Message}
use Rattle.bx_packets.specs.declared.message.Message.TheVariants.{Ask, Decided, Prepare, Accept}
use Rattle.bx_packets.specs.Messages.{letter_with}
use Rattle.bx_post.specs.declared.packets.Letter.{Letter}
use Rattle.bx_rows.specs.declared.ballot.Ballot.{Ballot}
use Rattle.bx_rounds.specs.declared.course.Course.{Course}
use Rattle.bx_rounds.specs.declared.course.Move.{Move}
use Rattle.bx_rounds.specs.declared.course.Move.TheVariants.{Nothing, Prepare as Prepares, Accept as Accepts, Decided as Decides}
use Rattle.bx_rounds.specs.declared.course.Proposal.{Proposal}
use Rattle.bx_proposer.specs.Names.{replicas}

-- the same to each of these machines
abbrev pub letters_to : Actor → Message → List Actor → List Letter
letters_to me message to = map (λ who. letter_with me who message) to

-- its ballot and what it knows
abbrev pub prepare_in : Actor → GlobalState → Option Ballot → List Letter
prepare_in me known None = []
prepare_in me known (Some b) = letters_to me (Prepare b known) replicas

abbrev pub prepare_letters : Actor → GlobalState → Option Proposal → List Letter
prepare_letters me known None = []
prepare_letters me known (Some p) = prepare_in me known p.ballot

-- its ballot and the state that is sent in it
abbrev pub accept_in : Actor → Option Ballot → Option GlobalState → List Letter
accept_in me None sent = []
accept_in me (Some b) None = []
accept_in me (Some b) (Some s) = letters_to me (Accept b s) replicas

abbrev pub accept_letters : Actor → Option Proposal → List Letter
accept_letters me None = []
accept_letters me (Some p) = accept_in me p.ballot p.sent

-- what is sent after a step, to the replicas or to all others
abbrev pub letters_of : Actor → List Actor → Course → Move → List Letter
letters_of me others c Nothing = []
letters_of me others c Prepares = prepare_letters me c.known c.out
letters_of me others c Accepts = accept_letters me c.out
letters_of me others c Decides = letters_to me (Decided c.known) others

-- the asks for what was decided: a replica sends none
abbrev pub asks_of : Actor → List Letter
asks_of (Node n) = letters_to (Node n) Ask replicas
asks_of (Replica n) = []
asks_of (Server n) = letters_to (Server n) Ask replicas
asks_of (Member n) = letters_to (Member n) Ask replicas

-- they are sent at each tick
abbrev pub asks_at : Actor → Input → List Letter
asks_at me (Packet packet reading) = []
asks_at me (Tick reading) = asks_of me
asks_at me Synced = []
