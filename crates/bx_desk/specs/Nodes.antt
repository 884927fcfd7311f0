-- What a desk is by the parts of a run at a node.
use Rattle.std.specs.Prelude.{◌≡◌, ℕ, false, List, [], ◌∷◌, map, reverse, None}
use Rattle.std.specs.List.{AllByRecursion}
use Rattle.bx_desk.specs.declared.desk.Asked.{Asked}
use Rattle.bx_desk.specs.Desks.{AtDesk, is_from}
use Rattle.bx_history.specs.Trace as traces
use Rattle.bx_history.specs.Parts.{Part, kept_at, waiting}
use Rattle.bx_replies.specs.Answers.{Answer, reply_of}

-- a call that waits, as one that was taken at a node
abbrev pub taking_at : ℕ → Asked → traces.Taking
taking_at node asked = record { call = asked.call; node = node; client = asked.client; bytes = asked.bytes }

-- an answer that is kept, as one that a node sent
abbrev pub sent_at : ℕ → Answer → traces.Answer
sent_at node answer = record { node = node; client = answer.client; bytes = answer.call; reply = answer.reply }

-- no two calls that wait are of one client and have the same bytes
abbrev pub AreApart : List Asked → Type 0
AreApart [] = Unit {0}
AreApart (asked ∷ others) = AllByRecursion (λ other. is_from asked.client asked.bytes other ≡ false) others × AreApart others

-- The calls on the desk are those that wait at the node, and its answers the last 256 that the node sent since it ended. No two of the calls are the
-- same, nor of the answers, and no answer is to a call that waits.
pub record IsDeskOf (node : ℕ) (parts : List Part) (desk : AtDesk) : Type 0 where
  pub waits_are : waiting parts node ≡ map (taking_at node) (reverse desk.waits)
  pub kept_are : kept_at 256 parts node ≡ map (sent_at node) (reverse desk.kept)
  pub none_kept : AllByRecursion (λ asked. reply_of desk.kept asked.client asked.bytes ≡ None) desk.waits
  pub waits_apart : AreApart desk.waits
