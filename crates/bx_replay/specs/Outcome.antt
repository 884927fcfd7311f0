-- What a replay leaves on its output, by the way in which it ends.
use Rattle.std.specs.Prelude.{◌≡◌, ◌≢◌, ℕ, ◌+◌, ◌<◌, ◌≤◌, ◌==◌, Bool, List, [], ◌∷◌, ◌++◌, length, map, filter, reverse, codes, ◌⊎◌, Option, Some}
use Rattle.bx_base.specs.Text.{LacksFeed, ended, text_of, lines_of}
use Rattle.bx_base.specs.declared.names.Point.{Point}
use Rattle.bx_disk.specs.Disks.{Disks}
use Rattle.bx_disk.specs.declared.noise.Noise.TheVariants.{Drop}
use Rattle.bx_model.specs.Listing.{listing}
use Rattle.bx_model.specs.declared.tree.Tree.{Tree}
use Rattle.bx_opens.specs.Opening.{AreOpenAlone}
use Rattle.bx_opens.specs.bx_rack_audit.specs.Alone.{StandAlone}
use Rattle.bx_opens.specs.bx_world_events.specs.declared.event.EventError.{EventError}
use Rattle.bx_schedule.specs.Execution.{RefusesAt, Snapshot}
use Rattle.bx_script.specs.Schedule.{HasPlace, IsSchedule}
use Rattle.bx_script.specs.ScheduleLine.{spelling}
use Rattle.bx_script.specs.TraceText.{trace_text}
use Rattle.bx_script.specs.declared.line.Line.{Line}
use Rattle.bx_script.specs.declared.trace_line.TraceLine.{TraceLine}
use Rattle.bx_script.specs.declared.trace_line.TraceLine.TheVariants.{Acted}
use Rattle.bx_stops.specs.declared.stop.Reason.{Reason}
use Rattle.bx_stops.specs.declared.stop.Reason.TheVariants.{Grammar, NoMachine, ClockBack, NoPacket, Up, Down, NothingToSync, StillNeeded}
use Rattle.bx_stops.specs.declared.stop.Stop.TheVariants.{Refused}
use Rattle.bx_replay.specs.Bench.{all_crashed}
use Rattle.bx_replay.specs.Headline.{Headline}
use Rattle.bx_replay.specs.Lines.{Allows, AreDone, GoesByRun, IsRefusedLine, after_lines}
use Rattle.bx_replay.specs.Stops.{stop_of}

-- what comes after the trace: the word `end`, the closing lines, and the listing of the tree
abbrev pub closing_text : List TraceLine → Tree → List ℕ
closing_text closing tree = ended (codes "end") ++ (trace_text closing ++ listing tree)

-- The text is a schedule each line of which may be done behind those before it.
pub record IsPlayable (MayStop : Type 0) (text : List ℕ) : Type 0 where
  pub schedule : List Line
  pub read : IsSchedule (lines_of text) schedule
  pub are_done : AreDone MayStop schedule

-- The lines are points of records that are open on the disks: of all that are open those of some calls, in their order.
pub record AreOfOpen (disks : Disks) (lines : List TraceLine) : Type 0 where
  pub points : List Point
  pub open_are : AreOpenAlone disks points
  pub of : ℕ → Bool
  pub lines_are : lines ≡ map Acted (filter (λ point. of point.call) points)

-- The disks are those that a schedule leaves, once what was unsure on each was dropped. They stand for the tree in the state that their own cells tell; and what is told of it behind `end` is of records that are open
-- on them.
pub record IsShownBy (disks : Disks) (now : Option Snapshot) (tree : Tree) (closing : List TraceLine) : Type 0 where
  pub left : Snapshot
  pub leaves : now ≡ Some left
  pub dropped : disks ≡ all_crashed left.disks Drop
  pub stands : StandAlone disks tree
  pub closing_open : AreOfOpen disks closing

-- what is told of the end of a replay: where its schedule stood, the tree, and the closing lines
abbrev pub AtEnd : Type 1
AtEnd = Option Snapshot → Tree → List TraceLine → Type 0

-- The output is the trace of such a text, `end`, closing lines, and the listing of the tree after it, which stand so.
pub record IsReplayed (MayStop : Type 0) (text : List ℕ) (ReplayStands : AtEnd) (output : List ℕ) : Type 0 where
  pub input : IsPlayable MayStop text
  pub trace : List TraceLine
  pub closing : List TraceLine
  pub last : Tree
  pub headline : Headline MayStop input.schedule trace closing last
  pub output-is : output ≡ trace_text trace ++ closing_text closing last
  pub stands : ReplayStands headline.placed.now last closing

-- the text spells a line that has its place behind these lines, and that is refused so
pub record IsTurnedAway (MayStop : Type 0) (before : List Line) (text : List ℕ) (reason : Reason) : Type 0 where
  pub few : length before < 4294967295
  pub value : Line
  pub in_place : HasPlace (length before == 0) value
  pub spelled : text ≡ spelling value
  pub why : IsRefusedLine MayStop reason (after_lines (reverse before)) value

-- A line of text is refused behind these lines, for a reason. The text decides that it is outside the grammar: no line that has its place there is spelled so, or there is no room for one.
abbrev pub Refuses : Type 0 → List Line → List ℕ → Reason → Type 0
Refuses MayStop before text Grammar = (4294967295 ≤ length before) ⊎ ((value : Line) → HasPlace (length before == 0) value → text ≢ spelling value)
Refuses MayStop before text NoMachine = IsTurnedAway MayStop before text NoMachine
Refuses MayStop before text (ClockBack by) = IsTurnedAway MayStop before text (ClockBack by)
Refuses MayStop before text (NoPacket packet) = IsTurnedAway MayStop before text (NoPacket packet)
Refuses MayStop before text Up = IsTurnedAway MayStop before text Up
Refuses MayStop before text Down = IsTurnedAway MayStop before text Down
Refuses MayStop before text NothingToSync = IsTurnedAway MayStop before text NothingToSync
Refuses MayStop before text StillNeeded = IsTurnedAway MayStop before text StillNeeded

-- Behind the lines that were done, the next one is refused. An empty schedule lacks its first line.
abbrev pub IsRefusedAt : Type 0 → List Line → List (List ℕ) → Reason → Type 0
IsRefusedAt MayStop done [] reason = (done ≡ []) × (reason ≡ Grammar)
IsRefusedAt MayStop done (line ∷ lines) reason = Refuses MayStop done line reason

-- The lines before the one with this number may be done, and it is refused behind them, for this reason.
pub record IsReplayRefusal (MayStop : Type 0) (text : List ℕ) (number : ℕ) (reason : Reason) : Type 0 where
  pub done : List Line
  pub others : List (List ℕ)
  pub read : lines_of text ≡ map spelling done ++ others
  pub are_done : AreDone MayStop done
  pub number-is : number ≡ length done + 1
  pub refused : IsRefusedAt MayStop done others reason

-- A line that may be done as lines tell is refused behind lines that were done, for a reason that they don't tell.
pub record IsRefusedByRun (MayStop : Type 0) (text : List ℕ) : Type 0 where
  pub number : ℕ
  pub reason : Reason
  pub refused : IsReplayRefusal MayStop text number reason
  pub line : Line
  pub rest : List (List ℕ)
  pub next : refused.others ≡ spelling line ∷ rest
  pub allowed : Allows MayStop (reverse refused.done) line
  pub by_run : GoesByRun MayStop reason line

-- Where a schedule stands, the first of these lines is refused, for the cause that the reason tells.
pub record IsTurnedAwayThere (now : Option Snapshot) (others : List (List ℕ)) (number : ℕ) (reason : Reason) : Type 0 where
  pub line : Line
  pub rest : List (List ℕ)
  pub next : others ≡ spelling line ∷ rest
  pub error : EventError
  pub refuses : RefusesAt now line error
  pub tells : stop_of number error ≡ Refused number reason

-- That line is refused so: it is outside the grammar, or it was refused where the lines before led to; and the output is the trace of the lines before.
pub record IsRefused (MayStop : Type 0) (text : List ℕ) (number : ℕ) (reason : Reason) (output : List ℕ) : Type 0 where
  pub first : IsReplayRefusal MayStop text number reason
  pub trace : List TraceLine
  pub last : Tree
  pub headline : Headline MayStop first.done trace [] last
  pub there : (reason ≡ Grammar) ⊎ IsTurnedAwayThere headline.placed.now first.others number reason
  pub output-is : output ≡ trace_text trace

-- The text is these lines, and then the rest; or it is these lines, of which the last lacks its line feed, and no rest.
abbrev pub IsReadTo : List ℕ → List Line → List ℕ → Type 0
IsReadTo text done rest = (text ≡ text_of (map spelling done) ++ rest) ⊎ ((rest ≡ []) × (lines_of text ≡ map spelling done))

-- The source failed when these bytes were left. The lines before were done; of the next line only a piece without a line feed had come.
pub record IsCut (MayStop : Type 0) (text left : List ℕ) : Type 0 where
  pub done : List Line
  pub piece : List ℕ
  pub read : IsReadTo text done (piece ++ left)
  pub lacks : LacksFeed piece
  pub short : length piece ≤ 18600
  pub are_done : AreDone MayStop done

-- The source failed so, and the output is the trace of the lines before.
pub record IsCutOff (MayStop : Type 0) (text left output : List ℕ) : Type 0 where
  pub cut : IsCut MayStop text left
  pub trace : List TraceLine
  pub last : Tree
  pub headline : Headline MayStop cut.done trace [] last
  pub output-is : output ≡ trace_text trace

-- The output is a part, from its front, of the trace of some first lines of the text; or of all of them, with what comes after.
pub record IsBroken (MayStop : Type 0) (text output : List ℕ) : Type 0 where
  pub done : List Line
  pub others : List (List ℕ)
  pub trace : List TraceLine
  pub closing : List TraceLine
  pub last : Tree
  pub more : List ℕ
  pub read : lines_of text ≡ map spelling done ++ others
  pub are_done : AreDone MayStop done
  pub headline : Headline MayStop done trace closing last
  pub part : (output ++ more ≡ trace_text trace) ⊎ ((others ≡ []) × (output ++ more ≡ trace_text trace ++ closing_text closing last))
