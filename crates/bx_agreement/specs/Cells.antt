-- The cells of three replicas: as they are to begin with, as they were found, and as an image has them.
use Rattle.std.specs.Prelude.{◌≡◌, ℕ, ◌+◌, ◌≤◌, ◌⊎◌, ◌==◌, List, [], Option, Some, None, if◌then◌else◌}
use Rattle.bx_answers.specs.Handling.{caught_up}
use Rattle.bx_global.specs.Bytes.{SpellsHeld}
use Rattle.bx_global.specs.declared.held.Held.{Held}
use Rattle.bx_global.specs.declared.state.GlobalState.{GlobalState}
use Rattle.bx_agreement.specs.History.{History}

-- nothing was sent yet
abbrev pub opening : ℕ → GlobalState → History
opening found first = record { chain = record { found = found; first = first; changes = [] }; proposed = []; proposals = []; votes = []; promises = [] }

-- a cell that knows the first state, and has accepted nothing
pub record KnowsFirst (first : GlobalState) (held : Held) : Type 0 where
  pub index : held.index ≡ first.index + 1
  pub decided : held.decided ≡ first
  pub flag : held.flag ≡ 0

-- the values that an image has in three cells are these
pub record AreCells (devices : ℕ) (values : ℕ → Option (List ℕ)) (cells : ℕ → Option Held) : Type 0 where
  pub some : (n : ℕ) (held : Held) → cells n ≡ Some held → (bytes : List ℕ) × (values n ≡ Some bytes) × SpellsHeld held bytes devices
  pub none : (n : ℕ) (held : Held) (bytes : List ℕ) → cells n ≡ None → values n ≡ Some bytes → SpellsHeld held bytes devices → ⊥

-- with another in one place
abbrev pub placed : ℕ → Held → (ℕ → Option Held) → ℕ → Option Held
placed n held cells m = if m == n then Some held else cells m

-- What a replica was found with: nothing above the first state.
pub record WasFound (first : GlobalState) (held : Held) : Type 0 where
  pub decided : held.decided.index ≤ first.index
  pub accepted : held.flag ≡ 1 → held.accepted.index ≤ first.index

-- `raw` is what an image has, and `seen` the same where those that are still as found have caught up. `touched` are the others.
pub record CatchUp (first : GlobalState) (raw seen : ℕ → Option Held) (touched : ℕ → Type 0) : Type 0 where
  pub kinds : (n : ℕ) (held : Held) → raw n ≡ Some held → (touched n × (seen n ≡ Some held) × (first.index ≤ held.decided.index)) ⊎ (WasFound first held × (seen n ≡ Some (caught_up first held)))
  pub whole : (n : ℕ) (held : Held) → seen n ≡ Some held → (old : Held) × (raw n ≡ Some old) × ((held ≡ old) ⊎ ((held ≡ caught_up first old) × WasFound first old))
