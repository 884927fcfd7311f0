-- What was done with a part of a cluster: what it was handed, what it handed back, and what came of it. No part stores any of this: whoever
-- makes the calls knows it, and each part says of it only that it fits.
use Rattle.std.specs.Prelude.{◌≡◌, ℕ, ◌+◌, ◌≤◌, ◌<◌, ◌⊎◌, max, Bool, true, false, List, [], ◌∷◌, ◌++◌, Option}
use Rattle.bx_records.specs.bx_base.specs.declared.names.Actor.{Actor}
use Rattle.bx_global.specs.declared.change.Change.{Change}
use Rattle.bx_global.specs.declared.state.GlobalState.{GlobalState}
use Rattle.bx_post.specs.declared.packets.Letter.{Letter}
use Rattle.bx_facts.specs.declared.input.Input.{Input}
use Rattle.bx_facts.specs.Chains.{Chain, GrowsBy, HasOwnBoot, IsPlace, found_chain, grown, last, opening_chain, with_change}
use Rattle.bx_facts.specs.Inputs.{IsComing, IsSteady, greatest_with}
use Rattle.bx_facts.specs.Machines.{put_at}

-- Of a register: the chain of states; the changes handed to `propose`, the newest first; the letters that may be under way; the greatest
-- boot that a machine had, or was found; which machines are down.
pub record RegisterPast : Type 0 where
  pub chain : Chain
  pub proposed : List Change
  pub letters : List Letter
  pub boots : Actor → ℕ
  pub down : Actor → Bool

-- of a new volume, and of one that was found, where each machine is to start again with a greater boot
abbrev pub opening_register : GlobalState → RegisterPast
opening_register s = record { chain = opening_chain s; proposed = []; letters = []; boots = λ who. 0; down = λ who. false }

abbrev pub found_register : GlobalState → ℕ → RegisterPast
found_register s boot = record { chain = found_chain s; proposed = []; letters = []; boots = λ who. boot; down = λ who. true }

-- with more letters
abbrev pub register_with : RegisterPast → List Letter → RegisterPast
register_with past out = record past { letters = past.letters ++ out }

-- with a change that was proposed
abbrev pub proposing : RegisterPast → Change → RegisterPast
proposing past change = record past { proposed = change ∷ past.proposed }

-- a machine stopped; it started again; it tried to, and a fault stopped it
abbrev pub register_crashed : RegisterPast → Actor → RegisterPast
register_crashed past who = record past { down = put_at who true past.down }

abbrev pub register_restarted : RegisterPast → Actor → ℕ → RegisterPast
register_restarted past who boot = record past { boots = put_at who boot past.boots; down = put_at who false past.down }

abbrev pub register_failed : RegisterPast → Actor → ℕ → RegisterPast
register_failed past who boot = record past { boots = put_at who boot past.boots; down = put_at who true past.down }

-- What a machine is handed: it is up, and a packet is one of the letters.
pub record MayHear (past : RegisterPast) (at : Actor) (input : Input) : Type 0 where
  pub up : past.down at ≡ false
  pub comes : IsComing past.letters input

-- What holds of a past holds of it, or of it with a change more in its chain, one that was proposed: only where the state that is known then is what
-- the change makes.
pub record Decides (Holds : RegisterPast → Type 0) (known : GlobalState) (past : RegisterPast) : Type 0 where
  pub chain : Chain
  pub grows : GrowsBy past.proposed past.chain chain
  pub told : (chain ≡ past.chain) ⊎ (known ≡ last chain)
  pub holds : Holds (record past { chain = chain })

-- Of owners, or of a store: the chain of states; the changes that were handed back, the newest first; the letters that may be under way; the
-- greatest reading handed in; the index of the state that a machine was handed last, with a new volume that of its first state, or 0 since its
-- start; its boot, or the greatest that was found; which machines are down.
pub record Told : Type 0 where
  pub chain : Chain
  pub handed : List Change
  pub letters : List Letter
  pub greatest : ℕ
  pub knew : Actor → ℕ
  pub boots : Actor → ℕ
  pub down : Actor → Bool

abbrev pub opening_told : GlobalState → Told
opening_told s = record { chain = opening_chain s; handed = []; letters = []; greatest = 0; knew = λ who. s.index; boots = λ who. 0; down = λ who. false }

abbrev pub found_told : GlobalState → ℕ → Told
found_told s boot = record { chain = found_chain s; handed = []; letters = []; greatest = 0; knew = λ who. 0; boots = λ who. boot; down = λ who. true }

abbrev pub told_with : Told → List Letter → Told
told_with told out = record told { letters = told.letters ++ out }

-- a machine was handed an input and a state of this index, and handed back a change or none
abbrev pub heard : Told → Actor → ℕ → Input → Option Change → Told
heard told at index input change = record told {
  handed = with_change change told.handed;
  greatest = greatest_with told.greatest input;
  knew = put_at at index told.knew;
}

abbrev pub told_crashed : Told → Actor → Told
told_crashed told who = record told { down = put_at who true told.down }

abbrev pub told_restarted : Told → Actor → ℕ → ℕ → Told
told_restarted told who boot reading = record told {
  greatest = max told.greatest reading;
  knew = put_at who 0 told.knew;
  boots = put_at who boot told.boots;
  down = put_at who false told.down;
}

abbrev pub told_failed : Told → Actor → ℕ → ℕ → Told
told_failed told who boot reading = record (told_restarted told who boot reading) { down = put_at who true told.down }

-- one change more
abbrev pub told_grown : Told → Change → Told
told_grown told change = record told { chain = grown told.chain change }

-- What `take` is handed: the machine is up; the state is one of the chain, and no older than what the machine was handed before; its boot is
-- one of this life of the volume; the reading isn't more than 500 below the greatest; a packet is one of the letters.
pub record MayTake (told : Told) (known : GlobalState) (at : Actor) (input : Input) : Type 0 where
  pub up : told.down at ≡ false
  pub place : IsPlace told.chain known
  pub rises : told.knew at ≤ known.index
  pub own_boot : HasOwnBoot told.chain (told.boots at)
  pub steady : IsSteady told.greatest input
  pub comes : IsComing told.letters input

-- What a machine starts again with: it was down, its boot is above those it had and those that were found, and the reading is steady.
pub record MayRestart (told : Told) (who : Actor) (boot reading : ℕ) : Type 0 where
  pub down : told.down who ≡ true
  pub boot_rises : told.boots who < boot
  pub own_boot : HasOwnBoot told.chain boot
  pub steady : told.greatest ≤ reading + 500
