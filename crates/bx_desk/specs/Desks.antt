-- The calls that wait at a node and the answers that it keeps for repeats, both with the oldest first.
use Rattle.std.specs.Prelude.{ℕ, Bool, ◌==◌, ◌&&◌, not, List, [], ◌∷◌, ◌++◌, filter, Option, Some, None}
use Rattle.std.specs.List.{find}
use Rattle.std.specs.Str.{bytes_eq}
use Rattle.bx_desk.specs.declared.desk.Asked.{Asked}
use Rattle.bx_replies.specs.Answers.{Answer, with_answer}

pub record AtDesk : Type 0 where
  pub waits : List Asked
  pub kept : List Answer

abbrev pub empty_desk : AtDesk
empty_desk = record { waits = []; kept = [] }

-- whether a call that waits is of this client and has these bytes
abbrev pub is_from : ℕ → List ℕ → Asked → Bool
is_from client bytes asked = (asked.client == client) && bytes_eq asked.bytes bytes

-- once a call more waits
abbrev pub with_call : AtDesk → Asked → AtDesk
with_call desk asked = record { waits = desk.waits ++ asked ∷ []; kept = desk.kept }

-- once an answer is kept to a call that never waited
abbrev pub with_kept : AtDesk → Answer → AtDesk
with_kept desk answer = record { waits = desk.waits; kept = with_answer desk.kept answer }

-- the call with this number among these
abbrev pub asked_as : ℕ → List Asked → Option Asked
asked_as number waits = find (λ asked. number == asked.call) waits

-- these but the call with this number
abbrev pub others : ℕ → List Asked → List Asked
others number waits = filter (λ asked. not (number == asked.call)) waits

-- once this call is answered, which waits, or none
abbrev pub answer_one : Option Asked → AtDesk → List ℕ → AtDesk
answer_one None desk reply = desk
answer_one (Some asked) desk reply =
    record { waits = others asked.call desk.waits; kept = with_answer desk.kept (record { client = asked.client; call = asked.bytes; reply = reply }) }

-- once the call with this number is answered, where it waits
abbrev pub answered : AtDesk → ℕ → List ℕ → AtDesk
answered desk number reply = answer_one (asked_as number desk.waits) desk reply
