-- A register, owners and a store that machines use together.
use Rattle.std.specs.Prelude.{◌≡◌, ℕ, ◌≤◌, ◌⊎◌, Bool, false, List, ◌++◌, Contains, Option, Some}
use Rattle.bx_base.specs.declared.names.Actor.{Actor}
use Rattle.bx_disk.specs.Disks.{Disks}
use Rattle.bx_global.specs.declared.change.Change.{Change}
use Rattle.bx_global.specs.declared.state.GlobalState.{GlobalState}
use Rattle.bx_post.specs.declared.packets.Letter.{Letter}
use Rattle.bx_facts.specs.declared.input.Input.{Input}
use Rattle.bx_facts.specs.Chains.{Chain, GrowsBy, HasOwnBoot, IsOwnersOwn, IsStoresOwn}
use Rattle.bx_facts.specs.Holds.{Holds, KeepsHolds, OwnersPast}
use Rattle.bx_facts.specs.Inputs.{IsComing, IsSteady, greatest_with}
use Rattle.bx_facts.specs.Machines.{put_at}
use Rattle.bx_facts.specs.Pasts.{RegisterPast, Told}
use Rattle.bx_facts.specs.Writes.{Asked, GoesOn, Sent, StorePast}

-- What was done with all three. Only the changes that were handed back are told apart, by who did.
pub record Past : Type 0 where
  pub chain : Chain
  pub proposed : List Change
  pub by_owners : List Change
  pub by_store : List Change
  pub letters : List Letter
  pub boots : Actor → ℕ
  pub down : Actor → Bool
  pub greatest : ℕ
  pub knew : Actor → ℕ
  pub leases : List (ℕ × ℕ)
  pub holding : Holds
  pub floor : ℕ → ℕ
  pub writes : List Sent

-- the part of each
abbrev pub of_register : Past → RegisterPast
of_register past = record { chain = past.chain; proposed = past.proposed; letters = past.letters; boots = past.boots; down = past.down }

abbrev pub told_of : Past → List Change → Told
told_of past handed = record { chain = past.chain; handed = handed; letters = past.letters; greatest = past.greatest; knew = past.knew; boots = past.boots; down = past.down }

abbrev pub of_owners : Past → OwnersPast
of_owners past = record { told = told_of past past.by_owners; leases = past.leases; holding = past.holding; floor = past.floor }

abbrev pub of_store : Past → StorePast
of_store past = record { told = told_of past past.by_store; writes = past.writes }

-- with more letters
abbrev pub with_letters : Past → List Letter → Past
with_letters past out = record past { letters = past.letters ++ out }

-- Each fits its part; each proposed change that owners or a store ask for was handed back by them; and no machine was handed a later state
-- than it knows.
pub record Together (FitsRegister : RegisterPast → Type 0) (FitsOwners : OwnersPast → Type 0) (FitsStore : StorePast → Type 0) (knows : Actor → GlobalState) (past : Past) : Type 0 where
  pub register : FitsRegister (of_register past)
  pub owners : FitsOwners (of_owners past)
  pub store : FitsStore (of_store past)
  pub owners_own : (change : Change) → Contains past.proposed change → IsOwnersOwn past.by_owners change
  pub store_own : (change : Change) → Contains past.proposed change → IsStoresOwn past.by_store change
  pub knew : (who : Actor) → past.knew who ≤ (knows who).index

-- A machine may be handed this.
pub record MayStep (past : Past) (at : Actor) (input : Input) : Type 0 where
  pub up : past.down at ≡ false
  pub own_boot : HasOwnBoot past.chain (past.boots at)
  pub steady : IsSteady past.greatest input
  pub comes : IsComing past.letters input

-- What an event of a machine, which knows a state of this index by then, makes of a past: the chain has one proposed change more at most, and all that was held
-- is held; only what may be asked for, proposed or held, and the floors, is left open.
pub record Follows (at : Actor) (index : ℕ) (input : Input) (old new : Past) : Type 0 where
  pub grows : GrowsBy old.proposed old.chain new.chain
  pub holds : KeepsHolds old.holding new.holding
  pub letters : new.letters ≡ old.letters
  pub boots : new.boots ≡ old.boots
  pub down : new.down ≡ old.down
  pub greatest : new.greatest ≡ greatest_with old.greatest input
  pub knew : new.knew ≡ put_at at index old.knew
  pub leases : new.leases ≡ old.leases
  pub writes : new.writes ≡ old.writes

-- What was settled, stood and was to be read, with these disks and this past, is so with those, where members write nothing else.
abbrev pub Stays : (ℕ → Option Asked) → (settled settled_then reads reads_then : Disks → StorePast → ℕ → ℕ → List ℕ → Type 0) → (stands stands_then : Disks → StorePast → ℕ → ℕ → List ℕ → ℕ → Type 0) → Disks → Past → Disks → Past → Type 0
Stays asked settled settled_then reads reads_then stands stands_then x old y new = GoesOn old.writes old.greatest asked (settled x (of_store old)) (settled_then y (of_store new)) (reads x (of_store old)) (reads_then y (of_store new)) (stands x (of_store old)) (stands_then y (of_store new))

-- There is a past of which all this holds.
pub record Heard (Fits Follows GoesOn : Past → Type 0) : Type 0 where
  pub past : Past
  pub fits : Fits past
  pub follows : Follows past
  pub goes_on : GoesOn past

-- A register fits this past, but that a change may be among the proposed ones that wasn't.
pub record Offers (Fits : RegisterPast → Type 0) (change : Option Change) (past : RegisterPast) : Type 0 where
  pub proposed : List Change
  pub each : (one : Change) → Contains proposed one → Contains past.proposed one ⊎ (change ≡ Some one)
  pub fits : Fits (record past { proposed = proposed })
