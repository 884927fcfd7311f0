-- The headline: what a trace along a schedule says of the file tree.
use Rattle.std.specs.Prelude.{◌≡◌, ℕ, List, [], ◌∷◌, ◌++◌}
use Rattle.std.specs.List.{AllByRecursion}
use Rattle.bx_history.specs.Legal.{Leads}
use Rattle.bx_history.specs.Placed.{Rules}
use Rattle.bx_history.specs.Trace as traces
use Rattle.bx_model.specs.History.{IsStep}
use Rattle.bx_model.specs.declared.entry.Entry.{Entry}
use Rattle.bx_model.specs.declared.tree.Tree.{Tree}
use Rattle.bx_nfs.specs.Wire.{ReadsAs, reply_text}
use Rattle.bx_opens.specs.Opening.{first_tree}
use Rattle.bx_opens.specs.bx_cluster.specs.Runs as runs
use Rattle.bx_schedule.specs.Placing.{IsPlaced}
use Rattle.bx_script.specs.TraceText.{InTraceRange}
use Rattle.bx_script.specs.declared.line.Line.{Line}
use Rattle.bx_script.specs.declared.line.Line.TheVariants.{Heading}
use Rattle.bx_script.specs.declared.trace_line.TraceLine.{TraceLine}
use Rattle.bx_opens.specs.AtOnce.{IsAtOnce}

-- what the nodes take, send again and answer at once
abbrev pub rules : Rules
rules = runs.rules IsAtOnce

-- the tree that a schedule begins with: the first tree of the heading's volume, with its areas
abbrev pub opening_of : List Line → Tree
opening_of [] = first_tree 0 1
opening_of (Heading volume nodes devices areas ∷ lines) = first_tree volume areas
opening_of (line ∷ lines) = first_tree 0 1

-- The entry as bytes: the call is what its bytes read as, and the reply's bytes are its text.
pub record IsTyped (bytes : traces.Entry) (entry : Entry) : Type 0 where
  pub xid : ℕ
  pub number : bytes.call ≡ entry.call
  pub reads : ReadsAs bytes.bytes xid entry.what
  pub moment : bytes.moment ≡ entry.moment
  pub spare : bytes.spare ≡ entry.spare
  pub made : bytes.made ≡ entry.made
  pub replies : bytes.reply ≡ reply_text xid entry.reply

abbrev pub AreTyped : List traces.Entry → List Entry → Type 0
AreTyped [] [] = Unit {0}
AreTyped [] (entry ∷ entries) = ⊥
AreTyped (bytes ∷ all_bytes) [] = ⊥
AreTyped (bytes ∷ all_bytes) (entry ∷ entries) = IsTyped bytes entry × AreTyped all_bytes entries

-- One step of the tree by an entry in bytes.
pub record EntryStep (tree : Tree) (bytes : traces.Entry) (next : Tree) : Type 0 where
  pub entry : Entry
  pub typed : IsTyped bytes entry
  pub step : IsStep tree entry next

-- The points of the trace, and of the closing lines behind it, spell one history, which they fit. The history is legal from the
-- tree that the heading opens, and leads to the last tree. The trace is placed along the schedule, where a machine may have stopped by itself or not, and all lines are
-- in range. No other history would do, nor another tree.
pub record Headline (MayStop : Type 0) (schedule : List Line) (trace closing : List TraceLine) (last : Tree) : Type 0 where
  pub history : List Entry
  pub bytes : List traces.Entry
  pub typed : AreTyped bytes history
  pub fits : traces.Fits rules.kept (trace ++ closing) bytes
  pub legal : Leads IsStep (opening_of schedule) history last
  pub placed : IsPlaced MayStop rules schedule trace closing
  pub in_range : AllByRecursion InTraceRange (trace ++ closing)
  pub only : (others : List traces.Entry) (tree : Tree) → traces.Fits rules.kept (trace ++ closing) others → Leads EntryStep (opening_of schedule) others tree
      → (others ≡ bytes) × (tree ≡ last)
