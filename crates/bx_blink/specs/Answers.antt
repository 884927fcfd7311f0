-- What a search answers: by how its walk ends, on any content; and by the map, where there is a tree.
use Rattle.std.specs.Prelude.{◌≡◌, ℕ, List, Option, Some, None, Result, Ok, Err}
use Rattle.bx_base.specs.declared.names.Mode.{Mode}
use Rattle.bx_base.specs.declared.names.Mode.TheVariants.{Shared}
use Rattle.bx_page.specs.declared.entry.Entry.{Entry}
use Rattle.bx_page.specs.Contents.{Contents, value_of}
use Rattle.bx_truth.specs.bx_views.specs.Truths.{Held}
use Rattle.bx_blink.specs.declared.error.BlinkError.{BlinkError}
use Rattle.bx_blink.specs.declared.error.BlinkError.TheVariants.{Need, Stale, Full, NoRoom, Absent, Present, OutOfMemory, Crowded}
use Rattle.bx_blink.specs.declared.steps.End.{End}
use Rattle.bx_blink.specs.declared.steps.End.TheVariants.{Needs, Lost, Lands}

-- a walk ends at a page that has this for a key
pub record LandsWith (E : End → Type 0) (key : List ℕ) (found : Option (List ℕ)) : Type 0 where
  pub handle : ℕ
  pub page : Contents
  pub end : E (Lands handle page)
  pub value : value_of page.entries key ≡ found

-- what `find` answers, by a walk's end
abbrev pub FindsAt : (End → Type 0) → List ℕ → Result (List ℕ) BlinkError → Type 0
FindsAt E key (Ok value) = LandsWith E key (Some value)
FindsAt E key (Err Absent) = LandsWith E key None
FindsAt E key (Err (Need at mode)) = E (Needs at mode)
FindsAt E key (Err Stale) = E Lost
FindsAt E key (Err OutOfMemory) = Unit {0}
FindsAt E key (Err (Full spare)) = ⊥
FindsAt E key (Err (NoRoom leaf)) = ⊥
FindsAt E key (Err Present) = ⊥
FindsAt E key (Err Crowded) = ⊥

-- What `find` answers, by the map. In a tree it is never lost.
abbrev pub FindsIn : List Entry → List ℕ → Result (List ℕ) BlinkError → Type 0
FindsIn map key (Ok value) = value_of map key ≡ Some value
FindsIn map key (Err Absent) = value_of map key ≡ None
FindsIn map key (Err (Need at mode)) = Unit {0}
FindsIn map key (Err OutOfMemory) = Unit {0}
FindsIn map key (Err Stale) = ⊥
FindsIn map key (Err (Full spare)) = ⊥
FindsIn map key (Err (NoRoom leaf)) = ⊥
FindsIn map key (Err Present) = ⊥
FindsIn map key (Err Crowded) = ⊥

-- A block that is needed isn't held, not even shared, and is on a path.
abbrev pub NeedsFairly : {X : Type 0} → Held → (ℕ → Mode → Type 0) → Result X BlinkError → Type 0
NeedsFairly held Path (Ok value) = Unit {0}
NeedsFairly held Path (Err (Need at mode)) = (held at Shared ≡ None) × Path at mode
NeedsFairly held Path (Err Absent) = Unit {0}
NeedsFairly held Path (Err Stale) = Unit {0}
NeedsFairly held Path (Err OutOfMemory) = Unit {0}
NeedsFairly held Path (Err (Full spare)) = ⊥
NeedsFairly held Path (Err (NoRoom leaf)) = ⊥
NeedsFairly held Path (Err Present) = ⊥
NeedsFairly held Path (Err Crowded) = ⊥
