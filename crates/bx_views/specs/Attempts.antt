-- What an attempt of a call answers.
use Rattle.std.specs.Prelude.{◌≡◌, ◌≢◌, ℕ, ◌⊎◌, List, [], Contains, None, Some, IsSome, true}
use Rattle.bx_records.specs.bx_base.specs.declared.names.Mode.{Mode}
use Rattle.bx_records.specs.bx_base.specs.declared.names.Mode.TheVariants.{Exclusive}
use Rattle.bx_records.specs.Drafts.{Block}
use Rattle.bx_records.specs.Blocks.{HasParts}
use Rattle.bx_records.specs.bx_places.specs.Places.{is_block}
use Rattle.bx_records.specs.Drafts.{Changed, block_in}
use Rattle.bx_views.specs.declared.attempt.Attempt.{Attempt}
use Rattle.bx_views.specs.declared.attempt.Attempt.TheVariants.{Need, Change, Inner, Answer}
use Rattle.bx_views.specs.declared.attempt.Done.{Done}
use Rattle.bx_views.specs.Truths.{Truth, Held, Hints, with_draft}

-- a call that acted: whose it is and its bytes, when, the free blocks that it tells, the handle that it made, and the reply's bytes
pub record Deed : Type 0 where
  pub client : ℕ
  pub call : List ℕ
  pub moment : ℕ
  pub spare : ℕ
  pub made : ℕ
  pub reply : List ℕ

abbrev pub deed_of : ℕ → List ℕ → ℕ → Done → Deed
deed_of client call moment done = record { client = client; call = call; moment = moment; spare = done.spare; made = done.made; reply = done.reply }

-- How many blocks are free, or 8 where the reply doesn't tell it.
abbrev pub TellsSpare : ℕ → Done → Type 0
TellsSpare free done = (done.spare ≡ 8) ⊎ (done.spare ≡ free)

-- The truth that a draft leaves stands for the next tree, and all hints that agreed before agree then.
pub record DraftLeads {T : Type 0} (Stands : Truth → Hints → T → Type 0) (truth : Truth) (draft : List Changed) (tree next : T) : Type 0 where
  pub each : (hints : Hints) → Stands truth hints tree → Stands (with_draft truth draft) hints next

-- A call that acted made one step of the tree, and the truth that the draft leaves stands for the next one.
pub record Acts {T : Type 0} (Stands : Truth → Hints → T → Type 0) (Step : T → Deed → T → Type 0) (free : ℕ) (deed : Deed) (done : Done) (truth : Truth) (draft : List Changed) (tree : T) : Type 0 where
  pub next : T
  pub step : Step tree deed next
  pub leads : DraftLeads Stands truth draft tree next
  pub spare : TellsSpare free done

-- What an attempt gives over a truth that stands for a tree: a Change and an Answer are one step of that tree, an Inner leaves it.
abbrev pub Gives : {T : Type 0} → (Truth → Hints → T → Type 0) → (T → Deed → T → Type 0) → ℕ → ℕ → List ℕ → ℕ → Truth → T → Attempt → Type 0
Gives Stands Step free client call moment truth tree (Need wants) = Unit {0}
Gives Stands Step free client call moment truth tree (Change draft done) = Acts Stands Step free (deed_of client call moment done) done truth draft tree
Gives Stands Step free client call moment truth tree (Inner draft) = DraftLeads Stands truth draft tree tree
Gives Stands Step free client call moment truth tree (Answer done) = Acts Stands Step free (deed_of client call moment done) done truth [] tree

-- what the answer says that nothing is left to clean: it has no bytes
abbrev pub all_clean : Done
all_clean = record { reply = []; spare = 8; made = 0 }

-- What a tidy of an area gives: an Inner where it isn't clean, that Answer where it is, and never a Change.
abbrev pub Tidies : {T : Type 0} → (Truth → Hints → T → Type 0) → Type 0 → Truth → T → Attempt → Type 0
Tidies Stands IsClean truth tree (Need wants) = Unit {0}
Tidies Stands IsClean truth tree (Change draft done) = ⊥
Tidies Stands IsClean truth tree (Inner draft) = (IsClean → ⊥) × DraftLeads Stands truth draft tree tree
Tidies Stands IsClean truth tree (Answer done) = IsClean × (done ≡ all_clean)

-- A Need names at least one block; each is one of the volume that isn't held so, and is on the path.
pub record IsFairNeed (areas : ℕ) (held : Held) (Path : ℕ → Mode → Type 0) (wants : List (ℕ × Mode)) : Type 0 where
  pub some : wants ≢ []
  pub each : (at : ℕ) (mode : Mode) → Contains wants (at, mode) → (is_block areas at ≡ true) × (held at mode ≡ None) × Path at mode

-- what is held are blocks
abbrev pub AreBlocks : Held → Type 0
AreBlocks held = (at : ℕ) (mode : Mode) (block : Block) → held at mode ≡ Some block → HasParts block

-- Each block of a draft is one that is held exclusively, and is a block, where those that are held are blocks.
pub record IsHeldDraft (held : Held) (draft : List Changed) : Type 0 where
  pub each : (at : ℕ) → IsSome (block_in draft at) → IsSome (held at Exclusive)
  pub parts : AreBlocks held → (at : ℕ) (block : Block) → block_in draft at ≡ Some block → HasParts block

-- what holds of an attempt over any view
abbrev pub IsFair : ℕ → Held → (ℕ → Mode → Type 0) → Attempt → Type 0
IsFair areas held Path (Need wants) = IsFairNeed areas held Path wants
IsFair areas held Path (Change draft done) = IsHeldDraft held draft
IsFair areas held Path (Inner draft) = IsHeldDraft held draft
IsFair areas held Path (Answer done) = Unit {0}

-- an answer, with no block changed
abbrev pub IsAnswer : Attempt → Type 0
IsAnswer (Need wants) = ⊥
IsAnswer (Change draft done) = ⊥
IsAnswer (Inner draft) = ⊥
IsAnswer (Answer done) = Unit {0}

-- neither blocks to be written first nor a change
abbrev pub ChangesNothing : Attempt → Type 0
ChangesNothing (Need wants) = Unit {0}
ChangesNothing (Change draft done) = ⊥
ChangesNothing (Inner draft) = ⊥
ChangesNothing (Answer done) = Unit {0}

-- what holds of the blocks that are to be written first
abbrev pub IfInner : (List Changed → Type 0) → Attempt → Type 0
IfInner Holds (Need wants) = Unit {0}
IfInner Holds (Change draft done) = Unit {0}
IfInner Holds (Inner draft) = Holds draft
IfInner Holds (Answer done) = Unit {0}

-- what holds where a change is answered
abbrev pub IfChange : Type 0 → Attempt → Type 0
IfChange Holds (Need wants) = Unit {0}
IfChange Holds (Change draft done) = Holds
IfChange Holds (Inner draft) = Unit {0}
IfChange Holds (Answer done) = Unit {0}

-- what holds of a call that acted
abbrev pub IfActed : (Done → Type 0) → Attempt → Type 0
IfActed Holds (Need wants) = Unit {0}
IfActed Holds (Change draft done) = Holds done
IfActed Holds (Inner draft) = Unit {0}
IfActed Holds (Answer done) = Holds done

-- How many blocks are free is told exactly where the reply tells it; else it is 8.
pub record TellsFree (Tells : List ℕ → Type 0) (free : ℕ) (done : Done) : Type 0 where
  pub told : Tells done.reply → done.spare ≡ free
  pub enough : (Tells done.reply → ⊥) → done.spare ≡ 8
