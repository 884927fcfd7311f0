-- A register of three replicas, and the past that led to it.
use Rattle.std.specs.Prelude.{◌≡◌, ℕ, ◌<◌, ◌≤◌, ◌⊎◌, List, ◌++◌, length, Option, Some, Contains}
use Rattle.bx_acceptor.specs.Standing.{HasContent}
use Rattle.bx_acceptor.specs.declared.origin.Origin.{Origin}
use Rattle.bx_agreement.specs.Events.{Machine}
use Rattle.bx_agreement.specs.History.{History}
use Rattle.bx_agreement.specs.Passing.{MayPass}
use Rattle.bx_base.specs.declared.names.Actor.{Actor}
use Rattle.bx_cell.specs.Halves.{Found, cell_in}
use Rattle.bx_cell.specs.Images.{EachSure}
use Rattle.bx_disk.specs.Disks.{Disks}
use Rattle.bx_facts.specs.Chains.{Chain, GrowsBy, IsPlace, last}
use Rattle.bx_facts.specs.Machines.{IsMachine}
use Rattle.bx_facts.specs.Pasts.{RegisterPast}
use Rattle.bx_global.specs.Allowed.{IsAllowed, IsChange}
use Rattle.bx_global.specs.Bytes.{IsHeld}
use Rattle.bx_global.specs.declared.change.Change.{Change}
use Rattle.bx_global.specs.declared.held.Held.{Held}
use Rattle.bx_global.specs.declared.state.GlobalState.{GlobalState}
use Rattle.bx_packets.specs.Messages.{Spells}
use Rattle.bx_packets.specs.declared.message.Message.{Message}
use Rattle.bx_post.specs.declared.packets.Letter.{Letter}
use Rattle.bx_rounds.specs.Agreement.{IsProposing, machine_of}
use Rattle.bx_proposer.specs.Names.{number_of}
use Rattle.bx_rounds.specs.Courses.{IsCourse}
use Rattle.bx_rounds.specs.declared.course.Course.{Course}
use Rattle.bx_paxos.specs.Counted.{IsHeldSound}
use Rattle.bx_paxos.specs.Shown.{HasBegun, Shows}

-- The machines: how many nodes there are, the first state, how each replica's cell came to be, and what each machine knows and has out, by
-- its number in ballots.
pub record Voters : Type 0 where
  pub nodes : ℕ
  pub first : GlobalState
  pub origins : ℕ → Origin
  pub courses : ℕ → Course

abbrev pub devices_of : Voters → ℕ
devices_of v = length v.first.devices

abbrev pub machines_of : (ℕ → Course) → ℕ → Machine
machines_of courses me = machine_of (courses me)

-- with these courses
abbrev pub going : Voters → (ℕ → Course) → Voters
going v courses = record v { courses = courses }

-- one machine's course becomes this, and the others stay
pub record Turned (me : ℕ) (course : Course) (old new : ℕ → Course) : Type 0 where
  pub at : new me ≡ course
  pub others : (m : ℕ) → (m ≡ me → ⊥) → new m ≡ old m

-- A letter may be under way, if what it says may.
pub record Passes (devices : ℕ) (h : History) (letter : Letter) : Type 0 where
  pub each : (message : Message) → Spells devices message letter.kind letter.body → MayPass h letter.from message

pub record AllPass (devices : ℕ) (h : History) (letters : List Letter) : Type 0 where
  pub each : (letter : Letter) → Contains letters letter → Passes devices h letter

-- This past is one that led to these machines and disks: there is a history of votes of which the chain and the changes that were handed in are
-- a part, by which each letter may be under way, each image that has all that is sure is sound, and each machine proposes; and each such image
-- has the cells with which replicas take part, of which those that still stand as they were found told the first state. The numbers of changes
-- that were handed in fit, and each state of the chain meets the conditions.
pub record Fits (v : Voters) (x : Disks) (past : RegisterPast) : Type 0 where
  pub history : History
  pub chain : history.chain ≡ past.chain
  pub proposed : history.proposed ≡ past.proposed
  pub first : history.chain.first ≡ v.first
  pub letters : AllPass (devices_of v) history past.letters
  pub images : EachSure x (IsHeldSound v.first v.origins history)
  pub was : ℕ → Option Held
  pub begun : HasBegun v.first v.origins was
  pub shown : EachSure x (Shows v.first v.origins was x.sizes)
  pub proposing : (me : ℕ) → IsProposing history me (v.courses me)
  pub courses : (me : ℕ) → IsCourse (devices_of v) (v.courses me)
  pub boots : (who : Actor) → IsMachine v.nodes who → (v.courses (number_of who)).boot ≤ past.boots who
  pub numbers : (change : Change) → Contains past.proposed change → IsChange change
  pub allowed : (s : GlobalState) → IsPlace past.chain s → IsAllowed s

-- These machines and disks fit the past with these letters more, in which the chain has one change more that was handed in, or none: one only where
-- the state that is known then is what it makes.
pub record RegisterGoes (v : Voters) (x : Disks) (past : RegisterPast) (known : GlobalState) (sent : List Letter) : Type 0 where
  pub chain : Chain
  pub grows : GrowsBy past.proposed past.chain chain
  pub told : (chain ≡ past.chain) ⊎ (known ≡ last chain)
  pub fits : Fits v x (record past { chain = chain; letters = past.letters ++ sent })

-- A cell stands as it did, or was put.
abbrev pub IsPutOn : Found → Found → Type 0
IsPutOn before after = (after ≡ before) ⊎ (before.number < after.number)

-- What a replica's cell has in each image, by what is known of it.
pub record KnowsCell (v : Voters) (x : Disks) (n : ℕ) (held : Held) (found : Found) : Type 0 where
  pub content : HasContent (v.origins n) v.first held found
  pub each : EachSure x (λ image. cell_in (image n) 1 ≡ Some found)
  pub is : IsHeld (devices_of v) held

-- A letter that may be under way comes to a machine, and says this.
pub record SpellsSent (v : Voters) (past : RegisterPast) (letter : Letter) (message : Message) : Type 0 where
  pub sent : Contains past.letters letter
  pub spells : Spells (devices_of v) message letter.kind letter.body
