-- Calls as the keys of a cache, whose entries are the answers, the newest first.
use Rattle.std.specs.Prelude.{ℕ, Bool, ◌&&◌, ◌==◌, bytes_eq, List, [], ◌∷◌, ◌++◌}
use Rattle.std.specs.Cmp.{IsEquivalence, and_equiv, on_equiv, nat_eq_equiv}
use Rattle.std.specs.Cmp.Lexicographic.{nat_list_eq_equiv}
use Rattle.bx_replies.specs.declared.call.Call.{Call}
use Rattle.bx_replies.specs.Answers.{Answer}

-- whether two calls are of the same client and have the same bytes
abbrev pub same_call : Call → Call → Bool
same_call a b = (a.client == b.client) && bytes_eq a.bytes b.bytes

pub same_call_equiv : IsEquivalence same_call
same_call_equiv = and_equiv (on_equiv (λ c. c.client) nat_eq_equiv) (on_equiv (λ c. c.bytes) nat_list_eq_equiv)

-- the answer that an entry of the cache stands for
abbrev pub answer_of : Call × List ℕ → Answer
answer_of entry = record { client = entry.0.client; call = entry.0.bytes; reply = entry.1 }

-- the answers of a cache's entries, the oldest first
abbrev pub kept : List (Call × List ℕ) → List Answer
kept [] = []
kept (entry ∷ entries) = kept entries ++ answer_of entry ∷ []
