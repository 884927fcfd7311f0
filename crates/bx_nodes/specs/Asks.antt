-- What a node does about a block that it wants, and about one that is asked back.
use Rattle.std.specs.Prelude.{◌≡◌, ◌≢◌, ℕ, ◌<◌, ◌≤◌, Bool, false, true, Option, Some, None, IsSome, IsSomeAnd, ◌⊎◌, List, Contains}
use Rattle.bx_base.specs.declared.names.Mode.{Mode}
use Rattle.bx_base.specs.declared.names.Mode.TheVariants.{Shared, Exclusive}
use Rattle.bx_facts.specs.Holds.{Hold}
use Rattle.bx_node_cache.specs.Kept.{kept_in}
use Rattle.bx_node_events.specs.Works.{KeepsWorks}
use Rattle.bx_node_steps.specs.Changing.{LetsGo}
use Rattle.bx_node_steps.specs.declared.machine.Fetch.{Fetch}
use Rattle.bx_node_steps.specs.declared.machine.Fetch.TheVariants as fetches
use Rattle.bx_node_steps.specs.declared.machine.Machine.{Machine}
use Rattle.bx_world_standing.specs.Standing.{Course}

-- whether a mode is weaker than another
abbrev pub is_less : Mode → Mode → Bool
is_less Shared Shared = false
is_less Shared Exclusive = true
is_less Exclusive mode = false

-- a mode that is wanted isn't held yet: the block isn't held, or shared where it is wanted exclusively
abbrev pub is_weaker : Option Hold → Mode → Bool
is_weaker None mode = true
is_weaker (Some hold) mode = is_less hold.0 mode

-- A block that is held may be read: the node reads nothing, and knows the index of its grant.
pub record MayRead (machine : Machine) (index knows : ℕ) : Type 0 where
  pub reads_none : machine.fetch ≡ fetches.Nothing
  pub known : index ≤ knows

-- The home of a block is read, which is to be held so; what the node had of the block it lets go.
pub record Fetches (at : ℕ) (held : Mode) (old new : Machine) : Type 0 where
  pub middle : Machine
  pub goes : LetsGo at old middle
  pub reads : new ≡ record middle { fetch = fetches.Block at held }

-- What comes of a block that a node is to get, by how it is held: nothing, as it isn't; it is read; or nothing, as it can't be read now.
pub data Gets (hold : Option Hold) (knows at : ℕ) (IsAsked : Type 0) (Still : Type 0) (old new : Machine) : Type 0 where
  NotHeld : hold ≡ None → Still → new ≡ old → Gets hold knows at IsAsked Still old new
  Reads : (held : Mode) (index : ℕ) → hold ≡ Some (held, index) → MayRead old index knows → Fetches at held old new → IsAsked → Gets hold knows at IsAsked Still old new
  Waits : (held : Mode) (index : ℕ) → hold ≡ Some (held, index) → (MayRead old index knows → ⊥) → Still → new ≡ old → Gets hold knows at IsAsked Still old new

-- A want was granted at once, or the request is out; or the node has no number left for one.
abbrev pub IsWanted : Option Mode → Option Hold → Mode → Type 0 → Type 0
IsWanted request hold mode IsSpent = ((request ≡ Some mode) ⊎ IsSomeAnd hold (λ held. held.0 ≡ mode)) ⊎ IsSpent

-- What stands about a block that a node needs: a request for it is out; a read of the node is out; the node doesn't know the index of its grant yet; or it has no
-- number left for a request.
pub data IsAsking (request : Option Mode) (hold : Option Hold) (knows : ℕ) (fetch : Fetch) (IsSpent : Type 0) : Type 0 where
  Requested : IsSome request → IsAsking request hold knows fetch IsSpent
  Reading : fetch ≢ fetches.Nothing → IsAsking request hold knows fetch IsSpent
  Unknown : (held : Mode) (index : ℕ) → hold ≡ Some (held, index) → knows < index → IsAsking request hold knows fetch IsSpent
  Spent : IsSpent → IsAsking request hold knows fetch IsSpent

-- What a node has of blocks changes, and what it reads; all else of it stays.
abbrev pub OnlyHolds : Machine → Machine → Type 0
OnlyHolds old new = new ≡ record old { cache = new.cache; fetch = new.fetch }

-- Each block is kept as it was, but those that are wanted.
abbrev pub KeepsUnwanted : List (ℕ × Mode) → Machine → Machine → Type 0
KeepsUnwanted wants old new = (at : ℕ) → (kept_in new.cache.kept at ≡ kept_in old.cache.kept at) ⊎ ((mode : Mode) × Contains wants (at, mode))

abbrev pub KeepsUnneeded : List (List (ℕ × Mode)) → Machine → Machine → Type 0
KeepsUnneeded needs old new = (at : ℕ) → (kept_in new.cache.kept at ≡ kept_in old.cache.kept at) ⊎ ((wants : List (ℕ × Mode)) × Contains needs wants × ((mode : Mode) × Contains wants (at, mode)))

-- There is a later course, of the same chain and logs, with what was under way and in doubt, in which nobody was told anything more, and what stands stands for it.
pub record Later (Stands_then : Course → Type 0) (c : Course) : Type 0 where
  pub later : Course
  pub chain : later.register.chain ≡ c.register.chain
  pub knew : later.store.told.knew ≡ c.store.told.knew
  pub logs : later.logs ≡ c.logs
  pub works : KeepsWorks c later
  pub stands : Stands_then later
