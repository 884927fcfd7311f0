-- Answers that are kept, the oldest first.
use Rattle.std.specs.Prelude.{ℕ, ◌-◌, Bool, ◌&&◌, not, ◌==◌, if◌then◌else◌, bytes_eq, List, [], ◌∷◌, ◌++◌, length, drop, filter, Option, Some, None}
use Rattle.std.specs.List.{IsDistinct}

-- whose call it was, the bytes of the call, and those of its reply
pub record Answer : Type 0 where
  pub client : ℕ
  pub call : List ℕ
  pub reply : List ℕ

-- whether an answer is to this client's call: each byte counts
abbrev pub is_to : ℕ → List ℕ → Answer → Bool
is_to client call answer = (client == answer.client) && bytes_eq call answer.call

-- the reply to a client's call, of the oldest answer to it
abbrev pub reply_of : List Answer → ℕ → List ℕ → Option (List ℕ)
reply_of [] client call = None
reply_of (answer ∷ answers) client call =
    if is_to client call answer then Some answer.reply else reply_of answers client call

-- the answers to all other calls
abbrev pub to_others : List Answer → ℕ → List ℕ → List Answer
to_others answers client call = filter (λ answer. not (is_to client call answer)) answers

-- the newest 256
abbrev pub newest : List Answer → List Answer
newest answers = drop (length answers - 256) answers

-- The answers once one more is kept: the older answer to the same call goes, and the oldest where there are
-- more than 256.
abbrev pub with_answer : List Answer → Answer → List Answer
with_answer answers answer = newest (to_others answers answer.client answer.call ++ answer ∷ [])

-- no two answers are to the same call of the same client
abbrev pub IsApart : List Answer → Type 0
IsApart answers = IsDistinct (λ a b. is_to a.client a.call b) answers
