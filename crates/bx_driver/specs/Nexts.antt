-- The next packet between two machines.
use Rattle.std.specs.Prelude.{◌≡◌, ℕ, ◌+◌, ◌-◌, ◌^◌, nat_lt, ◌&&◌, Bool, List, length, if◌then◌else◌}
use Rattle.bx_base.specs.declared.names.Actor.{Actor}
use Rattle.bx_post.specs.Machines.{is_same}
use Rattle.bx_post.specs.declared.packets.Letter.{Letter}
use Rattle.bx_post.specs.Posts.{Posted}
use Rattle.bx_driver.specs.Pending.{IsLeast, IsPendingAt}

-- the packet with a number is pending, from one machine to another
abbrev pub IsBetween : List Posted → Actor → Actor → ℕ → Type 0
IsBetween post from to number = (letter : Letter) × IsPendingAt post number letter × (letter.from ≡ from) × (letter.to ≡ to)

abbrev pub NoneBetween : List Posted → Actor → Actor → Type 0
NoneBetween post from to = (number : ℕ) → IsBetween post from to number → ⊥

-- one above the count of packets; where that is no number of 64 bits it is 0, which no packet has either
abbrev pub number_above : List Posted → ℕ
number_above post = if nat_lt (length post) (2 ^ 64 - 1) then length post + 1 else 0

-- The number of the next packet from one machine to another: the least that is pending; where none is, the number above all.
pub data IsNextNumber (post : List Posted) (from to : Actor) (number : ℕ) : Type 0 where
  Arrives : IsLeast (IsBetween post from to) number → IsNextNumber post from to number
  Lacks : NoneBetween post from to → number ≡ number_above post → IsNextNumber post from to number

abbrev pub is_between : Actor → Actor → Actor → Actor → ℕ → Bool
is_between from to sender receiver kind = is_same from sender && is_same to receiver
