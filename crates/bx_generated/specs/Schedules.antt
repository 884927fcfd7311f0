-- The schedule that is made of a number.
use Rattle.std.specs.Prelude.{ℕ, zero, suc, ◌+◌, ◌*◌, ◌/◌, ◌%◌, ◌==◌, ◌&&◌, nat_le, if◌then◌else◌, List, [], ◌∷◌, ◌++◌, map}
use Rattle.bx_base.specs.Text.{text_of}
use Rattle.bx_base.specs.declared.names.Actor.{Actor}
use Rattle.bx_base.specs.declared.names.Actor.TheVariants.{Node, Server, Member}
use Rattle.bx_disk.specs.declared.noise.Noise.TheVariants.{Keep}
use Rattle.bx_script.specs.ScheduleLine.{spelling}
use Rattle.bx_script.specs.declared.line.Line.{Line}
use Rattle.bx_script.specs.declared.line.Line.TheVariants.{Heading, Call, Run, Tick, Hold, Free, Drop, Crash, Restart}
use Rattle.bx_generated.specs.Datagrams.{datagram}
use Rattle.bx_generated.specs.Draws.{draw_behind}
use Rattle.bx_generated.specs.declared.draws.Draw.{Draw}

-- the reading at the call with a number, from 1 on, in milliseconds
abbrev pub reading_at : ℕ → ℕ
reading_at number = 50 * number

-- what is due happens, at most 20000 events
abbrev pub run_line : ℕ → Line
run_line number = Run (reading_at number) 20000

abbrev pub call_line : ℕ → ℕ → Draw → Line
call_line volume number draw = Call (reading_at number) draw.node draw.node (datagram volume number draw)

-- Wants of blocks (kind 8), from the call's node to the first lock server, are held back before the call, at turn 1; and dropped and let go behind it.
unfoldable pub held_lines : Draw → List Line
held_lines draw = if draw.turn == 1 then Hold (Node draw.node) (Server 0) 8 ∷ [] else []

unfoldable pub freed_lines : Draw → List Line
freed_lines draw = if draw.turn == 1 then Drop (Node draw.node) (Server 0) 8 ∷ Free (Node draw.node) (Server 0) 8 ∷ [] else []

-- the same call again, at turn 0
unfoldable pub again_lines : ℕ → ℕ → Draw → List Line
again_lines volume number draw = if draw.turn == 0 then call_line volume number draw ∷ [] else []

-- the lines of a call
unfoldable pub call_lines : ℕ → ℕ → Draw → List Line
call_lines volume number draw = held_lines draw ++ (call_line volume number draw ∷ run_line number ∷ (again_lines volume number draw ++ freed_lines draw))

-- a machine's clock ticks, and what is due happens
abbrev pub tick_lines : ℕ → Actor → List Line
tick_lines number machine = Tick (reading_at number) machine ∷ run_line number ∷ []

-- of the first so many nodes
unfoldable pub node_ticks : ℕ → ℕ → List Line
node_ticks number zero = []
node_ticks number (suc n) = node_ticks number n ++ tick_lines number (Node n)

-- behind each call whose number 20 divides the clocks of the lock servers, of both members and of the nodes tick
unfoldable pub ticks : ℕ → ℕ → List Line
ticks nodes number =
    if number % 20 == 0 then tick_lines number (Server 0) ++ (tick_lines number (Server 1) ++ (tick_lines number (Member 0) ++ (tick_lines number (Member 1) ++ node_ticks number nodes)))
    else []

-- A node crashes and starts again behind each fifth of the calls but the last, where there are five and more: behind the fifth with number j, from 1 on, node j modulo the count of nodes.
unfoldable pub crash_lines : ℕ → ℕ → ℕ → List Line
crash_lines nodes calls number =
    if nat_le 5 calls && ((number % (calls / 5) == 0) && nat_le (number / (calls / 5)) 4) then
    Crash (Node (number / (calls / 5) % nodes)) Keep ∷ Restart (reading_at number) (Node (number / (calls / 5) % nodes)) ∷ run_line number ∷ []
    else []

-- the lines of the call behind so many others, whose number is one more, and of what comes behind it
unfoldable pub lines_behind : ℕ → ℕ → ℕ → ℕ → List Line
lines_behind seed nodes calls others = call_lines seed (others + 1) (draw_behind seed nodes others) ++ (ticks nodes (others + 1) ++ crash_lines nodes calls (others + 1))

-- the lines of the first so many calls
unfoldable pub lines_to : ℕ → ℕ → ℕ → ℕ → List Line
lines_to seed nodes calls zero = []
lines_to seed nodes calls (suc n) = lines_to seed nodes calls n ++ lines_behind seed nodes calls n

-- The schedule of a seed, with so many nodes and calls: a volume with the number of the seed, of one device and two areas.
unfoldable pub generated : ℕ → ℕ → ℕ → List Line
generated seed nodes calls = Heading seed nodes 1 2 ∷ lines_to seed nodes calls calls

-- as text
abbrev pub text_of_lines : List Line → List ℕ
text_of_lines lines = text_of (map spelling lines)

abbrev pub generated_text : ℕ → ℕ → ℕ → List ℕ
generated_text seed nodes calls = text_of_lines (generated seed nodes calls)
