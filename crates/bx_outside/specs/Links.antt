-- A link in memory.
use Rattle.std.specs.Prelude.{◌≡◌, ℕ, ◌+◌, ◌≤◌, List, [], ◌∷◌, ◌++◌, length, slice_get, Option, Some, None}
use Rattle.bx_base.specs.Faults.{count_up}
use Rattle.bx_outside.specs.declared.datagram.Datagram.{Datagram}

-- the datagrams to be given and the place of the next one, what was given and sent, and calls and faults as of a source
pub record Linking : Type 0 where
  pub coming : List Datagram
  pub at : ℕ
  pub given : List (Option Datagram)
  pub sent : List Datagram
  pub calls : ℕ
  pub failing : List ℕ
  pub faults : ℕ

-- no datagram is longer than a link gives
abbrev pub AreShort : List Datagram → Type 0
AreShort datagrams = (at : ℕ) (datagram : Datagram) → slice_get datagrams at ≡ Some datagram → length datagram.bytes ≤ 65536

-- the next datagram, where one is left, and who sent it
abbrev pub next_of : Linking → Option Datagram
next_of link = slice_get link.coming link.at

abbrev pub client_in : Option Datagram → Option ℕ
client_in None = None
client_in (Some datagram) = Some datagram.client

abbrev pub client_of : Linking → Option ℕ
client_of link = client_in (next_of link)

-- the link once a call began
abbrev pub after_call : Linking → Linking
after_call link = record link { calls = count_up link.calls }

-- the link behind a call that failed
abbrev pub after_fault : Linking → Linking
after_fault link = record link { calls = count_up link.calls; faults = count_up link.faults }

-- the place behind the next datagram
abbrev pub place_behind : ℕ → Option Datagram → ℕ
place_behind at None = at
place_behind at (Some datagram) = at + 1

-- the link behind a wait
abbrev pub after_given : Linking → Linking
after_given link = record link { calls = count_up link.calls; at = place_behind link.at (next_of link); given = link.given ++ next_of link ∷ [] }

-- the link behind a datagram that was sent
abbrev pub after_sent : Linking → Datagram → Linking
after_sent link datagram = record link { calls = count_up link.calls; sent = link.sent ++ datagram ∷ [] }
