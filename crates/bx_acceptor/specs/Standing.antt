-- How an acceptor stands, and what it takes in.
use Rattle.std.specs.Prelude.{◌≡◌, ℕ, ◌+◌, ◌^◌, ◌<◌, ◌≤◌, ◌⊎◌, true, List, ◌++◌, length, Option, Some, None, IfSome, IsSomeAnd}
use Rattle.bx_base.specs.declared.names.Actor.{Actor}
use Rattle.bx_cell.specs.Cells.{Holds, Known}
use Rattle.bx_disk.specs.Disks.{Image}
use Rattle.bx_facts.specs.declared.input.Input.{Input}
use Rattle.bx_facts.specs.declared.input.Input.TheVariants.{Packet, Tick, Synced}
use Rattle.bx_global.specs.declared.held.Held.{Held}
use Rattle.bx_global.specs.declared.state.GlobalState.{GlobalState}
use Rattle.bx_global.specs.Allowed.{IsAllowed}
use Rattle.bx_global.specs.Bytes.{IsHeld, SpellsHeld}
use Rattle.bx_cell.specs.Halves.{Found, cell_in}
use Rattle.bx_packets.specs.declared.message.Message.{Message}
use Rattle.bx_packets.specs.declared.message.Message.TheVariants.{Ask, Decided, Prepare, Promise as Promising, Accept, Accepted, Refused}
use Rattle.bx_packets.specs.Messages.{Spells}
use Rattle.bx_post.specs.declared.packets.Letter.{Letter}
use Rattle.bx_acceptor.specs.declared.origin.Origin.{Origin}
use Rattle.bx_acceptor.specs.declared.origin.Origin.TheVariants.{Made, Found as FoundAs, Apart}
use Rattle.bx_answers.specs.Handling.{Handles, MayBecome, caught_up, first_held}
use Rattle.bx_answers.specs.Replies.{letters_of}

-- An acceptor: the number of its replica, which is that of its disk; the first state; how its cell came to be; what it holds; and its
-- cell, where it has one.
pub record AcceptorView : Type 0 where
  pub replica : ℕ
  pub first : GlobalState
  pub origin : Origin
  pub held : Held
  pub cell : Option Known

abbrev pub devices_of : AcceptorView → ℕ
devices_of a = length a.first.devices

-- The cell stands as it was found: under that number.
abbrev pub IsAsFound : Origin → ℕ → Type 0
IsAsFound Made number = ⊥
IsAsFound (FoundAs k) number = number ≡ k
IsAsFound Apart number = ⊥

-- What is held of a cell that has something: this, or where it stands as it was found, this caught up with the first state.
pub record CatchesUp (origin : Origin) (first : GlobalState) (number : ℕ) (raw held : Held) : Type 0 where
  pub as_found : IsAsFound origin number → held ≡ caught_up first raw
  pub as_put : (IsAsFound origin number → ⊥) → held ≡ raw

-- The acceptor takes part with a cell under this number: one that was found has that number or a later one.
abbrev pub TakesPart : Origin → ℕ → Type 0
TakesPart Made number = Unit {0}
TakesPart (FoundAs k) number = k ≤ number
TakesPart Apart number = ⊥

-- A cell has what is held, or stands as it was found, and what is held has caught up.
pub record HasContent (origin : Origin) (first : GlobalState) (held : Held) (found : Found) : Type 0 where
  pub raw : Held
  pub spells : SpellsHeld raw found.value (length first.devices)
  pub part : TakesPart origin found.number
  pub catches : CatchesUp origin first found.number raw held

-- the cell is on the disk of the replica, behind its label, may be put, and has what is held
pub record IsCellOf (replica : ℕ) (first : GlobalState) (origin : Origin) (held : Held) (cell : Known) : Type 0 where
  pub disk : cell.disk ≡ replica
  pub base : cell.base ≡ 1
  pub ready : cell.ready ≡ true
  pub content : HasContent origin first held cell.found

-- what holds of each acceptor
pub record IsAcceptorView (a : AcceptorView) : Type 0 where
  pub first : IsAllowed a.first
  pub index : a.first.index + 1 < 2 ^ 64
  pub held : IsHeld (devices_of a) a.held
  pub cell : IfSome a.cell (IsCellOf a.replica a.first a.origin a.held)

-- the packet that comes says this, and is from there
abbrev pub Brings : ℕ → Input → Message → Actor → Type 0
Brings devices (Packet packet reading) message from = Spells devices message packet.now.kind packet.now.body × (from ≡ packet.now.from)
Brings devices (Tick reading) message from = ⊥
Brings devices Synced message from = ⊥

-- An acceptor whose cell has this number takes the message. An ask it always takes; where the number can't rise no other; a
-- state with no index behind it isn't taken as decided; what acceptors send is for others.
abbrev pub IsTaken : ℕ → Message → Type 0
IsTaken number Ask = Unit {0}
IsTaken number (Decided s) = (number + 1 < 2 ^ 64) × (s.index + 1 < 2 ^ 64)
IsTaken number (Prepare b s) = (number + 1 < 2 ^ 64) × (s.index + 1 < 2 ^ 64)
IsTaken number (Promising promise) = ⊥
IsTaken number (Accept b s) = number + 1 < 2 ^ 64
IsTaken number (Accepted b index) = ⊥
IsTaken number (Refused index b) = ⊥

-- there is a cell with such a number
abbrev pub IsTakenBy : Option Known → Message → Type 0
IsTakenBy cell message = IsSomeAnd cell (λ c. IsTaken c.found.number message)

-- the acceptor takes the message
abbrev pub Takes : AcceptorView → Message → Type 0
Takes a message = IsTakenBy a.cell message

-- A message is taken, and its answer put into the box.
abbrev pub Answers : ℕ → Held → Message → Actor → Held → List Letter → List Letter → Type 0
Answers replica held message from new before after = (answer : Option Message) × Handles held message new answer × (after ≡ before ++ letters_of replica from answer)

-- What comes is passed over, and nothing changes; or it brings a message that is taken and answered.
abbrev pub TakesIn : AcceptorView → Input → AcceptorView → List Letter → List Letter → Type 0 → Type 0
TakesIn a input new before after Same =
    ((new ≡ a) × (after ≡ before) × Same)
    ⊎ ((message : Message) × (from : Actor) × Brings (devices_of a) input message from × Takes a message × Answers a.replica a.held message from new.held before after)

-- What is held stays, or it is what a message that came makes of it.
abbrev pub BecomesBy : AcceptorView → Input → Held → Type 0
BecomesBy a input new = (new ≡ a.held) ⊎ ((message : Message) × (from : Actor) × Brings (devices_of a) input message from × MayBecome a.held message new)

-- the image has what the cell holds
abbrev pub HasCell : AcceptorView → Image → Type 0
HasCell a image = IfSome a.cell (λ cell. Holds cell image)

-- the acceptor without a cell, until it starts again
abbrev pub stopped : AcceptorView → AcceptorView
stopped a = record a { cell = None }

-- .. and one that never had a cell that can be read: it knows the first state
abbrev pub without_cell : ℕ → GlobalState → Origin → AcceptorView
without_cell replica s origin = record { replica = replica; first = s; origin = origin; held = first_held s; cell = None }

-- the cell of a replica that may be put, and has this
abbrev pub cell_with : ℕ → Found → Known
cell_with replica found = record { disk = replica; base = 1; found = found; ready = true }

-- the disk, by its sectors, has a cell that can be read, in which this is found
pub record IsFound (devices : ℕ) (sectors : ℕ → List ℕ) (found : Found) (held : Held) : Type 0 where
  pub in_cell : cell_in sectors 1 ≡ Some found
  pub spells : SpellsHeld held found.value devices

-- it has none
abbrev pub IsNotFound : ℕ → (ℕ → List ℕ) → Type 0
IsNotFound devices sectors = (found : Found) (held : Held) → IsFound devices sectors found held → ⊥
