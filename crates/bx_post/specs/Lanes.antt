-- Pending packets in lanes: one for each sender, receiver and kind.
use Rattle.std.specs.Prelude.{◌≡◌, ℕ, ◌+◌, ◌-◌, min, Bool, true, false, ◌==◌, leb, not, ◌&&◌, ◌⊎◌, List, [], ◌∷◌, ◌++◌, map, filter, Option, Some, None, slice_get, if◌then◌else◌}
use Rattle.std.specs.List.{AllByRecursion}
use Rattle.bx_base.specs.declared.names.Actor.{Actor}
use Rattle.bx_post.specs.declared.packets.Letter.{Letter}
use Rattle.bx_post.specs.Machines.{is_same}
use Rattle.bx_post.specs.Posts.{Posted}
use Rattle.bx_post.specs.Rising.{IsRising, places_to}
use Rattle.bx_post.specs.declared.post.Slot.{Slot}
use Rattle.bx_post.specs.Slots.{IsKept, posted, put_if}

-- the numbers of pending packets of one kind from one machine to another, in their order
pub record Laned : Type 0 where
  pub from : Actor
  pub to : Actor
  pub kind : ℕ
  pub numbers : List ℕ

-- whether a letter goes on a lane
abbrev pub is_on : Laned → Letter → Bool
is_on lane letter = is_same lane.from letter.from && (is_same lane.to letter.to && lane.kind == letter.kind)

-- the numbers of pending packets whose letters pass a test
abbrev pub numbers_of : (Letter → Bool) → ℕ → List Posted → List ℕ
numbers_of test first [] = []
numbers_of test first (one ∷ rest) = put_if (one.waits && test one.letter) first (numbers_of test (first + 1) rest)

-- a lane has the numbers of the pending packets that go on it, and no other
abbrev pub IsLane : List Posted → Laned → Type 0
IsLane all lane = lane.numbers ≡ numbers_of (is_on lane) 1 all

-- a letter goes on one of these lanes
abbrev pub HasLane : List Laned → Letter → Type 0
HasLane [] letter = ⊥
HasLane (lane ∷ rest) letter = (is_on lane letter ≡ true) ⊎ HasLane rest letter

abbrev pub FindsLane : List Laned → Posted → Type 0
FindsLane lanes one = one.waits ≡ true → HasLane lanes one.letter

-- no letter that goes on a lane goes on one of these
abbrev pub IsApart : Laned → List Laned → Type 0
IsApart lane [] = Unit {0}
IsApart lane (other ∷ rest) = ((letter : Letter) → is_on lane letter ≡ true → is_on other letter ≡ false) × IsApart lane rest

abbrev pub AreSingle : List Laned → Type 0
AreSingle [] = Unit {0}
AreSingle (lane ∷ rest) = IsApart lane rest × AreSingle rest

-- The lanes of packets: each pending packet goes on one.
pub record AreLanes (all : List Posted) (lanes : List Laned) : Type 0 where
  pub each : AllByRecursion (IsLane all) lanes
  pub every : AllByRecursion (FindsLane lanes) all
  pub single : AreSingle lanes

-- what a post keeps, as a whole
pub record IsWhole (slots : List Slot) (waiting : List ℕ) (lanes : List Laned) : Type 0 where
  pub kept : IsKept slots waiting
  pub lanes_are : AreLanes (posted slots) lanes

-- its numbers rise
abbrev pub Rises : Laned → Type 0
Rises lane = IsRising lane.numbers

-- ---- what is done with lanes

-- a lane of its own for a letter with its number
abbrev pub lane_for : Letter → ℕ → Laned
lane_for letter number = record { from = letter.from; to = letter.to; kind = letter.kind; numbers = number ∷ [] }

abbrev pub lane_with : ℕ → Laned → Laned
lane_with number lane = record lane { numbers = lane.numbers ++ number ∷ [] }

-- a letter comes, with its number
abbrev pub filed : Letter → ℕ → List Laned → List Laned
filed letter number [] = lane_for letter number ∷ []
filed letter number (lane ∷ rest) = if is_on lane letter then lane_with number lane ∷ rest else lane ∷ filed letter number rest

-- a lane without a number
abbrev pub lane_without : ℕ → Laned → Laned
lane_without number lane = record lane { numbers = filter (λ n. not (n == number)) lane.numbers }

-- a lane without the numbers above a bound
abbrev pub lane_to : ℕ → Laned → Laned
lane_to bound lane = record lane { numbers = filter (λ n. leb n bound) lane.numbers }

-- the place of a number among numbers that rise, from 1 on
abbrev pub place_in : List ℕ → ℕ → ℕ
place_in waiting n = 1 + places_to (n - 1) waiting

-- a lane whose numbers are places among those of all pending packets
abbrev pub lane_anew : List ℕ → Laned → Laned
lane_anew waiting lane = record lane { numbers = map (place_in waiting) lane.numbers }

-- ---- the least number of lanes that pass a test

abbrev pub sooner : Option ℕ → Option ℕ → Option ℕ
sooner None other = other
sooner (Some n) None = Some n
sooner (Some n) (Some m) = Some (min n m)

abbrev pub first_on : (Actor → Actor → ℕ → Bool) → Laned → Option ℕ
first_on test lane = if test lane.from lane.to lane.kind then slice_get lane.numbers 0 else None

abbrev pub soonest : (Actor → Actor → ℕ → Bool) → List Laned → Option ℕ
soonest test [] = None
soonest test (lane ∷ rest) = sooner (first_on test lane) (soonest test rest)
