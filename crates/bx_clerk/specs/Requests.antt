-- What a node asked for, by block, and what is asked back of it.
use Rattle.std.specs.Prelude.{ℕ, ltb, ◌==◌, ◌&&◌, Bool, true, false, nat_eq, not, filter, List, [], ◌∷◌, Option, Some, None, if◌then◌else◌}
use Rattle.std.specs.List.{list_any}
use Rattle.std.specs.Map.{lookup}
use Rattle.indexmap.specs.IndexMap.{insert_entry}
use Rattle.bx_base.specs.declared.names.Mode.{Mode}
use Rattle.bx_facts.specs.Holds.{Hold}
use Rattle.bx_clerk.specs.declared.requests.Asking.{Asking}

-- ---- the latest request for each block

abbrev pub Requests : Type 0
Requests = List (ℕ × Asking)

abbrev pub request_in : Requests → ℕ → Option Asking
request_in requests block = lookup (nat_eq block) requests

abbrev pub with_request : Requests → ℕ → Asking → Requests
with_request requests block asking = insert_entry nat_eq requests block asking

-- those of all other blocks
abbrev pub without_request : Requests → ℕ → Requests
without_request requests block = filter (λ entry. not (nat_eq block entry.0)) requests

-- how a request holds its block, and how it wants it
abbrev pub hold_as : Mode → Option ℕ → Option Hold
hold_as mode None = None
hold_as mode (Some index) = Some (mode, index)

abbrev pub hold_of : Option Asking → Option Hold
hold_of None = None
hold_of (Some r) = hold_as r.mode r.held

abbrev pub wish_as : Mode → Option ℕ → Option Mode
wish_as mode None = Some mode
wish_as mode (Some index) = None

abbrev pub wish_of : Option Asking → Option Mode
wish_of None = None
wish_of (Some r) = wish_as r.mode r.held

abbrev pub is_at : Option ℕ → Bool
is_at None = false
is_at (Some index) = true

abbrev pub is_held : Option Asking → Bool
is_held None = false
is_held (Some r) = is_at r.held

-- the latest request has this number
abbrev pub fits : Option Asking → ℕ → Bool
fits None number = false
fits (Some r) number = r.number == number

-- ---- blocks that are asked back, each with the session that asks, in the order of those sessions

-- behind those of the same session and of lower ones
abbrev pub put_ask : ℕ × ℕ → List (ℕ × ℕ) → List (ℕ × ℕ)
put_ask ask [] = ask ∷ []
put_ask ask (one ∷ rest) = if ltb ask.1 one.1 then ask ∷ one ∷ rest else one ∷ put_ask ask rest

abbrev pub is_asked : ℕ × ℕ → List (ℕ × ℕ) → Bool
is_asked ask asks = list_any (λ one. (one.0 == ask.0) && (one.1 == ask.1)) asks

abbrev pub with_ask : ℕ × ℕ → List (ℕ × ℕ) → List (ℕ × ℕ)
with_ask ask asks = if is_asked ask asks then asks else put_ask ask asks

-- those of blocks that are held
abbrev pub held_asks : Requests → List (ℕ × ℕ) → List (ℕ × ℕ)
held_asks requests asks = filter (λ ask. is_held (request_in requests ask.0)) asks
