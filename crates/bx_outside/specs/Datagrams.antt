-- Datagrams on a link.
use Rattle.std.specs.Prelude.{ℕ, List, Option, Some, None}
use Rattle.bx_outside.specs.declared.datagram.Datagram.{Datagram}

-- what a wait for a datagram came to: these bytes of a client, or none
abbrev pub answer_of : Option ℕ → List ℕ → Option Datagram
answer_of None bytes = None
answer_of (Some client) bytes = Some (record { client = client; bytes = bytes })
