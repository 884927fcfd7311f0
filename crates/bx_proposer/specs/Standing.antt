-- How a proposer stands, and what it takes in.
use Rattle.std.specs.Prelude.{◌≡◌, ℕ, ◌^◌, ◌<◌, List, ◌++◌, length, IsSome}
use Rattle.bx_base.specs.declared.names.Actor.{Actor}
use Rattle.bx_facts.specs.Machines.{IsMachine}
use Rattle.bx_facts.specs.declared.input.Input.{Input}
use Rattle.bx_global.specs.Allowed.{IsAllowed}
use Rattle.bx_global.specs.declared.change.Change.{Change}
use Rattle.bx_global.specs.declared.state.GlobalState.{GlobalState}
use Rattle.bx_post.specs.declared.packets.Letter.{Letter}
use Rattle.bx_rounds.specs.declared.course.Course.{Course}
use Rattle.bx_rounds.specs.declared.course.Move.{Move}
use Rattle.bx_rounds.specs.Courses.{IsCourse, Steps}
use Rattle.bx_rounds.specs.Steps.{Proposes}
use Rattle.bx_proposer.specs.Letters.{asks_at, letters_of}
use Rattle.bx_proposer.specs.Names.{number_of, others_of}

-- ---- what holds of each

-- A proposer: its machine, the number of nodes, the first state, the machine's number in ballots, all other machines, and what it knows and
-- has out.
pub record ProposerView : Type 0 where
  pub at : Actor
  pub nodes : ℕ
  pub first : GlobalState
  pub actor : ℕ
  pub others : List Actor
  pub course : Course

abbrev pub devices_of : ProposerView → ℕ
devices_of s = length s.first.devices

pub record IsProposerView (s : ProposerView) : Type 0 where
  pub machine : IsMachine s.nodes s.at
  pub actor : s.actor ≡ number_of s.at
  pub actor_fits : s.actor < 2 ^ 32
  pub others : s.others ≡ others_of s.at s.nodes (devices_of s)
  pub first : IsAllowed s.first
  pub course : IsCourse (devices_of s) s.course

-- ---- what it does

abbrev pub going_on : ProposerView → Course → ProposerView
going_on s c = record s { course = c }

-- a proposal is out
abbrev pub IsBusy : ProposerView → Type 0
IsBusy s = IsSome s.course.out

-- What comes is taken: the proposer goes on so, and puts its letters into the box.
pub record Takes (s : ProposerView) (input : Input) (new : ProposerView) (before after : List Letter) : Type 0 where
  pub move : Move
  pub steps : Steps s.actor (devices_of s) s.course input new.course move
  pub sends : after ≡ (before ++ asks_at s.at input) ++ letters_of s.at s.others new.course move
  pub stays : new ≡ going_on s new.course

-- A change is proposed.
pub record ProposesTo (s : ProposerView) (change : Change) (new : ProposerView) (before after : List Letter) : Type 0 where
  pub move : Move
  pub proposes : Proposes s.actor s.course change new.course move
  pub sends : after ≡ before ++ letters_of s.at s.others new.course move
  pub stays : new ≡ going_on s new.course
