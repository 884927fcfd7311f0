-- Pending packets by their numbers.
use Rattle.std.specs.Prelude.{◌≡◌, ℕ, ◌-◌, ◌≤◌, List, Some, slice_get}
use Rattle.bx_post.specs.declared.packets.Letter.{Letter}
use Rattle.bx_post.specs.Posts.{Posted, fresh}

-- the packet with a number is pending, and this is its letter
abbrev pub IsPendingAt : List Posted → ℕ → Letter → Type 0
IsPendingAt post number letter = (1 ≤ number) × (slice_get post (number - 1) ≡ Some (fresh letter))

-- It stands of this number, and of no lower one.
pub record IsLeast (Stands : ℕ → Type 0) (number : ℕ) : Type 0 where
  pub stands : Stands number
  pub least : (other : ℕ) → Stands other → number ≤ other
