-- What a reply says, by what is held then.
use Rattle.std.specs.Prelude.{ℕ, List, [], ◌∷◌, Option, Some, None}
use Rattle.bx_base.specs.declared.names.Actor.{Actor}
use Rattle.bx_base.specs.declared.names.Actor.TheVariants.{Replica}
use Rattle.bx_global.specs.declared.held.Held.{Held}
use Rattle.bx_packets.specs.Messages.{letter_with}
use Rattle.bx_packets.specs.declared.message.Message.{Message}
use Rattle.bx_packets.specs.declared.message.Message.TheVariants.{Decided as Deciding, Promise as Promising, Accepted as Accepting, Refused as Refusing}
use Rattle.bx_post.specs.declared.packets.Letter.{Letter}
use Rattle.bx_answers.specs.declared.replies.Reply.{Reply}
use Rattle.bx_answers.specs.declared.replies.Reply.TheVariants.{Nothing, Decided, Promise, Accepted, Refused}
use Rattle.bx_answers.specs.Handling.{promise_of}

abbrev pub answer_of : Held → Reply → Option Message
answer_of held Nothing = None
answer_of held Decided = Some (Deciding held.decided)
answer_of held Promise = Some (Promising (promise_of held))
answer_of held Accepted = Some (Accepting held.ballot held.index)
answer_of held Refused = Some (Refusing held.index held.promise)

-- the letters of an answer
abbrev pub letters_of : ℕ → Actor → Option Message → List Letter
letters_of replica to None = []
letters_of replica to (Some message) = letter_with (Replica replica) to message ∷ []
