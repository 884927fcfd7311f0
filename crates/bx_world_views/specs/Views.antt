-- What the nodes have of a volume: views of blocks that their sessions hold, and records in doubt.
use Rattle.std.specs.Prelude.{◌≡◌, ◌≢◌, ◌⊎◌, ℕ, List, Option, Some, None, IfSome}
use Rattle.bx_base.specs.declared.names.Mode.{Mode}
use Rattle.bx_base.specs.declared.names.Mode.TheVariants.{Shared, Exclusive}
use Rattle.bx_views.specs.bx_records.specs.Drafts.{Block, Changed, block_in}
use Rattle.bx_views.specs.Attempts.{Deed, DraftLeads}
use Rattle.bx_views.specs.Truths.{Truth, Held, Hints, IsTruth, no_hints}
use Rattle.bx_facts.specs.Holds.{Hold, Holds}

-- A hold allows a mode: it has that mode, or is exclusive.
abbrev pub Allows : Option Hold → Mode → Type 0
Allows None mode = ⊥
Allows (Some hold) mode = (hold.0 ≡ mode) ⊎ (hold.0 ≡ Exclusive)

-- Of two sessions that have rows and hold one block, both share it.
pub record AreApart (holding : Holds) (HasRow : ℕ → Type 0) : Type 0 where
  pub each : (session other block : ℕ) (hold other_hold : Hold) → HasRow session → HasRow other → other ≢ session
      → holding session block ≡ Some hold → holding other block ≡ Some other_hold → (hold.0 ≡ Shared) × (other_hold.0 ≡ Shared)

-- A session's view: what it shows is held so, and is the truth.
pub record ViewStands (holding : Holds) (truth : Truth) (session : ℕ) (held : Held) : Type 0 where
  pub is_truth : IsTruth held truth
  pub holds : (at : ℕ) (mode : Mode) (block : Block) → held at mode ≡ Some block → Allows (holding session at) mode

-- The blocks of a draft are the session's own.
pub record IsDraftHeld (holding : Holds) (session : ℕ) (draft : List Changed) : Type 0 where
  pub each : (at : ℕ) (block : Block) → block_in draft at ≡ Some block → Allows (holding session at) Exclusive

-- a view once a draft is laid over it: what the draft has, it has so, and the rest as before
pub record ShowsDraft (draft : List Changed) (old new : Held) : Type 0 where
  pub has : (at : ℕ) (block : Block) (mode : Mode) → block_in draft at ≡ Some block → new at mode ≡ Some block
  pub others : (at : ℕ) (mode : Mode) → block_in draft at ≡ None → new at mode ≡ old at mode

-- the same for all but one
pub record OnlyOf {A : Type 0} (one : ℕ) (value : A) (old new : ℕ → A) : Type 0 where
  pub here : new one ≡ value
  pub others : (other : ℕ) → other ≢ one → new other ≡ old other

-- what a record does: a call's deed, or nothing that the tree shows
pub data Act : Type 0 where
  OfCall : Deed → Act
  OfTidy : Act

-- a record that was begun and isn't acknowledged: of which call it is (0: of none), and the view over which it was attempted
pub record Unacknowledged : Type 0 where
  pub call : ℕ
  pub act : Act
  pub draft : List Changed
  pub held : Held
  pub hints : Hints

module _ {T : Type 0} (Stands : Truth → Hints → T → Type 0) (Step : T → Deed → T → Type 0) where
  abbrev pub StepOf : Act → T → T → Type 0
  StepOf (OfCall deed) tree next = Step tree deed next
  StepOf OfTidy tree next = next ≡ tree

  -- what a record does to a truth that stands for a tree
  pub record Works (act : Act) (draft : List Changed) (truth : Truth) (tree : T) : Type 0 where
    pub next : T
    pub step : StepOf act tree next
    pub leads : DraftLeads Stands truth draft tree next

  -- A record in doubt works over each truth that agrees with its view; its blocks are the session's own; and its view stands.
  pub record DoubtStands (holding : Holds) (truth : Truth) (tree : T) (session : ℕ) (doubt : Unacknowledged) : Type 0 where
    pub view : ViewStands holding truth session doubt.held
    pub hinted : Stands truth doubt.hints tree
    pub own : IsDraftHeld holding session doubt.draft
    pub works : (other : Truth) (t : T) → IsTruth doubt.held other → Stands other doubt.hints t → Works doubt.act doubt.draft other t

  abbrev pub DoubtIn : (ℕ → Type 0) → Holds → Truth → T → ℕ → Option Unacknowledged → Type 0
  DoubtIn HasRow holding truth tree session found = IfSome found (λ doubt. HasRow session × DoubtStands holding truth tree session doubt)

  -- The truth stands for the tree. The view of each node whose session is live stands; and so does each record in doubt, of which a
  -- session with a row has at most one. (`own` says whose session a node's is, `held` and `hints` what its cache shows.)
  pub record VolumeStands (holding : Holds) (HasRow Lives : ℕ → Type 0) (own : ℕ → Option ℕ) (held : ℕ → Held) (hints : ℕ → Hints) (doubts : ℕ → Option Unacknowledged) (truth : Truth) (tree : T) : Type 0 where
    pub is : Stands truth no_hints tree
    pub apart : AreApart holding HasRow
    pub rows : (session : ℕ) → Lives session → HasRow session
    pub single : (node other session : ℕ) → own node ≡ Some session → own other ≡ Some session → Lives session → other ≡ node
    pub views : (node session : ℕ) → own node ≡ Some session → Lives session → ViewStands holding truth session (held node)
    pub hinted : (node : ℕ) → Stands truth (hints node) tree
    pub in_doubt : (session : ℕ) → DoubtIn HasRow holding truth tree session (doubts session)
