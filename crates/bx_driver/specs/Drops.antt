-- Packets that are dropped.
use Rattle.std.specs.Prelude.{ℕ, Bool, List, map, false, if◌then◌else◌}
use Rattle.bx_base.specs.declared.names.Actor.{Actor}
use Rattle.bx_post.specs.Posts.{Posted, passes}
use Rattle.bx_driver.specs.Lanes.{is_on}
use Rattle.bx_driver.specs.declared.lane.Lane.{Lane}

-- a packet that passes a test isn't pending then
abbrev pub dropped_one : (Actor → Actor → ℕ → Bool) → Posted → Posted
dropped_one test one = if passes test one.letter then record one { waits = false } else one

-- No packet that passes a test is pending then, and each other is as it was.
abbrev pub dropped_by : (Actor → Actor → ℕ → Bool) → List Posted → List Posted
dropped_by test post = map (dropped_one test) post

-- those of a lane
abbrev pub dropped : Lane → List Posted → List Posted
dropped lane post = dropped_by (is_on lane) post

-- those to machines that are down
abbrev pub to_down : (Actor → Bool) → Actor → Actor → ℕ → Bool
to_down down from to kind = down to

-- what was so is so
abbrev pub GoesOn : {A B D : Type 0} → (A → B → D → Type 0) → (A → B → D → Type 0) → Type 0
GoesOn {A} {B} {D} old new = (a : A) (b : B) (d : D) → old a b d → new a b d
