-- How a post keeps its packets: in their order, each with its number and whether it is pending, beside the numbers of those that are.
use Rattle.std.specs.Prelude.{◌≡◌, ℕ, zero, suc, ◌+◌, Bool, true, false, List, [], ◌∷◌}
use Rattle.bx_post.specs.declared.post.Slot.{Slot}
use Rattle.bx_post.specs.Posts.{Posted, letter_of}

abbrev pub posted_of : Slot → Posted
posted_of slot = record { letter = letter_of slot.packet; waits = slot.waits }

abbrev pub posted : List Slot → List Posted
posted [] = []
posted (slot ∷ rest) = posted_of slot ∷ posted rest

abbrev pub slot_waits : Slot → Bool
slot_waits slot = slot.waits

-- numbers rise by one from `first` on
abbrev pub AreNumbered : ℕ → List Slot → Type 0
AreNumbered first [] = Unit {0}
AreNumbered first (slot ∷ rest) = (slot.packet.number ≡ first) × AreNumbered (first + 1) rest

abbrev pub put_if : Bool → ℕ → List ℕ → List ℕ
put_if true n rest = n ∷ rest
put_if false n rest = rest

-- the numbers of those that are pending
abbrev pub waiting_from : ℕ → List Posted → List ℕ
waiting_from first [] = []
waiting_from first (one ∷ rest) = put_if one.waits first (waiting_from (first + 1) rest)

pub record IsKept (slots : List Slot) (waiting : List ℕ) : Type 0 where
  pub numbers : AreNumbered 1 slots
  pub pending : waiting ≡ waiting_from 1 (posted slots)

-- so many numbers that rise by one
abbrev pub count_from : ℕ → ℕ → List ℕ
count_from first zero = []
count_from first (suc count) = first ∷ count_from (first + 1) count
