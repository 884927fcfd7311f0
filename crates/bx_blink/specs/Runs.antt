-- How the first entry from a key on is looked for: by a walk to the key's leaf, and on along the leaves while they have none.
-- These definitions speak of any content, also of such that is no tree.
use Rattle.std.specs.Prelude.{◌≡◌, ℕ, zero, suc, ◌⊎◌, List, Option, Some, None, Result, Ok, Err}
use Rattle.bx_base.specs.declared.names.Mode.{Mode}
use Rattle.bx_base.specs.declared.names.Mode.TheVariants.{Shared}
use Rattle.bx_page.specs.declared.entry.Entry.{Entry}
use Rattle.bx_page.specs.Contents.{Contents, first, from}
use Rattle.bx_blink.specs.declared.error.BlinkError.{BlinkError}
use Rattle.bx_blink.specs.declared.error.BlinkError.TheVariants.{Need, Stale, Full, NoRoom, Absent, Present, OutOfMemory, Crowded}
use Rattle.bx_blink.specs.declared.steps.Spot.{Spot}
use Rattle.bx_blink.specs.declared.steps.Found.{Found}
use Rattle.bx_blink.specs.declared.steps.End.TheVariants.{Needs, Lost, Lands}
use Rattle.bx_blink.specs.declared.steps.Out.{Out}
use Rattle.bx_blink.specs.declared.steps.Out.TheVariants.{Goes, Stops}
use Rattle.bx_blink.specs.declared.runs.RunEnd.{RunEnd}
use Rattle.bx_blink.specs.declared.runs.RunEnd.TheVariants.{Wants, Broken, First, Nothing}
use Rattle.bx_blink.specs.declared.runs.Turn.{Turn}
use Rattle.bx_blink.specs.declared.runs.Turn.TheVariants.{Moves, Rests}
use Rattle.bx_blink.specs.Walks.{Reads, Finds, decide, MayAsk}

-- what follows at a leaf, by its first entry from the key on and its high key: where it has none, the leaf on the right is the
-- high key's
abbrev pub at_leaf : List ℕ → Contents → Option Entry → Option (List ℕ) → Turn
at_leaf key page (Some entry) high = Rests (First key page entry)
at_leaf key page None None = Rests Nothing
at_leaf key page None (Some high) = Moves high (record { handle = page.right; via = None; mode = Shared })

-- what follows a step
abbrev pub follow : List ℕ → Out → Turn
follow key (Goes next) = Moves key next
follow key (Stops (Needs at mode)) = Rests (Wants at mode)
follow key (Stops Lost) = Rests Broken
follow key (Stops (Lands handle page)) = at_leaf key page (first (from page.entries key)) page.high

abbrev pub Turns : (List ℕ → Spot → Type 0) → RunEnd → Turn → Type 0
Turns Rest end (Moves key next) = Rest key next
Turns Rest end (Rests here) = end ≡ here

-- a run ends so, or is broken where it passes more pages than it may
unfoldable pub Runs : Reads → ℕ → List ℕ → Spot → RunEnd → Type 0
Runs reads zero key spot end = end ≡ Broken
Runs reads (suc more) key spot end =
    (found : Found) × Finds reads 0 spot found × Turns (λ key next. Runs reads more key next end) end (follow key (decide 0 Shared key spot found))

-- The path of a run: what may be asked for at each spot that it comes to.
unfoldable pub OnRun : Reads → ℕ → List ℕ → Spot → ℕ → Mode → Type 0
OnRun reads zero key spot at mode = ⊥
OnRun reads (suc more) key spot at mode =
    MayAsk reads 0 Shared spot at mode
    ⊎ ((found : Found) × Finds reads 0 spot found × (other : List ℕ) × (next : Spot) × (follow key (decide 0 Shared key spot found) ≡ Moves other next) × OnRun reads more other next at mode)

-- a run ends at a leaf with this entry
pub record EndsWith (E : RunEnd → Type 0) (entry : Entry) : Type 0 where
  pub key : List ℕ
  pub page : Contents
  pub end : E (First key page entry)

-- what `next` answers, by a run's end
abbrev pub NextAt : (RunEnd → Type 0) → Result (Option (List ℕ × List ℕ)) BlinkError → Type 0
NextAt E (Ok (Some entry)) = EndsWith E (record { key = entry.0; value = entry.1 })
NextAt E (Ok None) = E Nothing
NextAt E (Err (Need at mode)) = E (Wants at mode)
NextAt E (Err Stale) = E Broken
NextAt E (Err OutOfMemory) = Unit {0}
NextAt E (Err Absent) = ⊥
NextAt E (Err (Full spare)) = ⊥
NextAt E (Err (NoRoom leaf)) = ⊥
NextAt E (Err Present) = ⊥
NextAt E (Err Crowded) = ⊥

-- What `next` answers, by the map. In a tree it is never broken.
abbrev pub NextIn : List Entry → List ℕ → Result (Option (List ℕ × List ℕ)) BlinkError → Type 0
NextIn map key (Ok (Some entry)) = first (from map key) ≡ Some (record { key = entry.0; value = entry.1 })
NextIn map key (Ok None) = first (from map key) ≡ None
NextIn map key (Err (Need at mode)) = Unit {0}
NextIn map key (Err OutOfMemory) = Unit {0}
NextIn map key (Err Stale) = ⊥
NextIn map key (Err Absent) = ⊥
NextIn map key (Err (Full spare)) = ⊥
NextIn map key (Err (NoRoom leaf)) = ⊥
NextIn map key (Err Present) = ⊥
NextIn map key (Err Crowded) = ⊥
