-- All packets of a run: letters, each with whether it is pending. A packet's number is its place, counted from 1.
use Rattle.std.specs.Prelude.{ℕ, ◌+◌, Bool, true, false, ◌==◌, ltb, ◌&&◌, List, [], ◌∷◌, Option, Some, None, if◌then◌else◌}
use Rattle.bx_base.specs.declared.names.Actor.{Actor}
use Rattle.bx_post.specs.declared.packets.Letter.{Letter}
use Rattle.bx_post.specs.declared.packets.Packet.{Packet}

pub record Posted : Type 0 where
  pub letter : Letter
  pub waits : Bool

-- a letter that is sent
abbrev pub fresh : Letter → Posted
fresh letter = record { letter = letter; waits = true }

abbrev pub is_waiting : Posted → Bool
is_waiting posted = posted.waits

-- the packet that a letter is under its number, and the letter of a packet
abbrev pub numbered : ℕ → Letter → Packet
numbered number letter = record { number = number; from = letter.from; to = letter.to; kind = letter.kind; body = letter.body }

abbrev pub letter_of : Packet → Letter
letter_of packet = record { from = packet.from; to = packet.to; kind = packet.kind; body = packet.body }

-- the packet with a number, of those that are counted from `first` on
abbrev pub packet_from : ℕ → ℕ → List Posted → Option Packet
packet_from first number [] = None
packet_from first number (posted ∷ rest) = if first == number then Some (numbered number posted.letter) else packet_from (first + 1) number rest

-- all packets, but the one with this number isn't pending
abbrev pub settled_from : ℕ → ℕ → List Posted → List Posted
settled_from first number [] = []
settled_from first number (posted ∷ rest) = (if first == number then record posted { waits = false } else posted) ∷ settled_from (first + 1) number rest

-- the least number above a bound whose packet is pending
abbrev pub next_from : ℕ → ℕ → List Posted → Option ℕ
next_from first after [] = None
next_from first after (posted ∷ rest) = if posted.waits && ltb after first then Some first else next_from (first + 1) after rest

-- a letter passes a test of its sender, its receiver and its kind
abbrev pub passes : (Actor → Actor → ℕ → Bool) → Letter → Bool
passes test letter = test letter.from letter.to letter.kind

-- the least number whose packet is pending and passes a test
abbrev pub passing_from : (Actor → Actor → ℕ → Bool) → ℕ → List Posted → Option ℕ
passing_from test first [] = None
passing_from test first (posted ∷ rest) = if posted.waits && passes test posted.letter then Some first else passing_from test (first + 1) rest
