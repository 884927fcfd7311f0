-- Each line of a generated schedule is in the grammar, and in its place.
use Rattle.std.proofs.Common.{◌≡◌, ℕ, zero, suc, ◌+◌, ◌*◌, ◌/◌, ◌%◌, ◌^◌, ◌<◌, ◌≤◌, Bool, true, false, cond, eqb, leb, ◌&&◌, List, [], ◌∷◌, ◌++◌, length, refl, arith}
use Rattle.std.specs.List.{AllByRecursion}
use native.Mathlib.Nat.{mod-lt}
use Rattle.bx_base.specs.declared.names.Actor.{Actor}
use Rattle.bx_base.specs.declared.names.Actor.TheVariants.{Node, Server, Member}
use Rattle.bx_disk.specs.declared.noise.Noise.TheVariants.{Keep}
use Rattle.bx_script.specs.Schedule.{BeginsSchedule, HasPlace}
use Rattle.bx_script.specs.ScheduleLine.{InRange, IsCall, IsLane, IsNamed}
use Rattle.bx_script.specs.declared.line.Line.{Line}
use Rattle.bx_script.specs.declared.line.Line.TheVariants.{Heading, Call, Run, Tick, Hold, Free, Drop, Crash, Restart}
use Rattle.bx_generated.specs.Datagrams.{datagram}
use Rattle.bx_generated.specs.Draws.{draw_behind, generator_behind, word_of}
use Rattle.bx_generated.specs.Schedules.{again_lines, call_line, call_lines, crash_lines, freed_lines, generated, held_lines, lines_behind, lines_to, node_ticks, reading_at, run_line, tick_lines, ticks}
use Rattle.bx_generated.specs.declared.draws.Draw.{Draw}
use Rattle.bx_generated.proofs.Sized.{AreBytes, IsBytes-from_each, datagram_are}

-- whether a line is of a kind that generated schedules have
abbrev pub is_own : Line → Bool
is_own (Heading volume nodes devices areas) = true
is_own (Call reading node client datagram) = true
is_own (Run reading limit) = true
is_own (Tick reading machine) = true
is_own (Hold from to kind) = true
is_own (Free from to kind) = true
is_own (Drop from to kind) = true
is_own (Crash machine noise) = true
is_own (Restart reading machine) = true
is_own line = false

-- the line has its place behind the heading, and is of such a kind
pub record IsLater (line : Line) : Type 0 where
  pub place : HasPlace false line
  pub own : is_own line ≡ true

abbrev pub AreLater : List Line → Type 0
AreLater lines = AllByRecursion IsLater lines

joined : (a b : List Line) → AreLater a → AreLater b → AreLater (a ++ b)
joined [] b p q = q
joined (x ∷ a) b p q = (p.0, joined a b p.1 q)

-- lines that come or not
chosen : (test : Bool) (lines : List Line) → AreLater lines → AreLater (cond test lines [])
chosen true lines p = p
chosen false lines p = tt

-- what is drawn is within its bounds
pub record IsDrawn (draw : Draw) : Type 0 where
  pub node : draw.node ≤ 3
  pub first : draw.first < 100
  pub second : draw.second < 100

pub draw_behind_is : (seed nodes calls : ℕ) → 1 ≤ nodes → nodes ≤ 4 → IsDrawn (draw_behind seed nodes calls)
draw_behind_is seed nodes calls some most = record {
  node = let h = mod-lt (word_of (generator_behind seed calls)) {m = nodes} (omega (arith, some)) in omega (arith, h, most);
  first = omega arith;
  second = omega arith;
}

pub run_later : (number : ℕ) → number ≤ 20000 → IsLater (run_line number)
run_later number few = record { place = (record { reading_fits = omega (arith, few); some = omega arith; most = omega arith }, refl); own = refl }

pub call_later : (volume number : ℕ) (draw : Draw) → number ≤ 20000 → IsDrawn draw → IsLater (call_line volume number draw)
call_later volume number draw few drawn =
    let bytes = datagram_are volume number draw drawn.first drawn.second in
    let call : IsCall (reading_at number) draw.node draw.node (datagram volume number draw) =
    record {
      reading_fits = omega (arith, few);
      node_fits = omega (arith, drawn.node);
      client_fits = omega (arith, drawn.node);
      short = omega (arith, bytes.few);
      bytes = IsBytes-from_each _ bytes.each;
    } in
    record { place = (call, refl); own = refl }

-- a line for wants of a node, by which packets are held, freed or dropped
abbrev pub IsWants : ℕ → Type 0
IsWants node = IsLane (Node node) (Server 0) 8

pub wants_are : (node : ℕ) → node ≤ 3 → IsWants node
wants_are node low = record { from_named = low; to_named = omega arith; is_kind = record { least = omega arith; most = omega arith } }

pub hold_later : (node : ℕ) → node ≤ 3 → IsLater (Hold (Node node) (Server 0) 8)
hold_later node low = record { place = (wants_are node low, refl); own = refl }

pub free_later : (node : ℕ) → node ≤ 3 → IsLater (Free (Node node) (Server 0) 8)
free_later node low = record { place = (wants_are node low, refl); own = refl }

pub drop_later : (node : ℕ) → node ≤ 3 → IsLater (Drop (Node node) (Server 0) 8)
drop_later node low = record { place = (wants_are node low, refl); own = refl }

pub tick_line_later : (number : ℕ) (machine : Actor) → number ≤ 20000 → IsNamed machine → IsLater (Tick (reading_at number) machine)
tick_line_later number machine few named = record { place = ((omega (arith, few), named), refl); own = refl }

pub crash_later : (node : ℕ) → node ≤ 3 → IsLater (Crash (Node node) Keep)
crash_later node low = record { place = ((low, tt), refl); own = refl }

pub restart_later : (number node : ℕ) → number ≤ 20000 → node ≤ 3 → IsLater (Restart (reading_at number) (Node node))
restart_later number node few low = record { place = ((omega (arith, few), low), refl); own = refl }

call_lines_later : (volume number : ℕ) (draw : Draw) → number ≤ 20000 → IsDrawn draw → AreLater (call_lines volume number draw)
unfolding call_lines held_lines freed_lines again_lines
call_lines_later volume number draw few drawn =
    let call = call_later volume number draw few drawn in
    joined (cond (eqb draw.turn 1) (Hold (Node draw.node) (Server 0) 8 ∷ []) []) _ (chosen (eqb draw.turn 1) (Hold (Node draw.node) (Server 0) 8 ∷ []) (hold_later draw.node drawn.node, tt)) (
      call,
      (
        run_later number few,
        joined (cond (eqb draw.turn 0) (call_line volume number draw ∷ []) []) _ (chosen (eqb draw.turn 0) (call_line volume number draw ∷ []) (call, tt))
            (chosen (eqb draw.turn 1) (Drop (Node draw.node) (Server 0) 8 ∷ Free (Node draw.node) (Server 0) 8 ∷ []) (drop_later draw.node drawn.node, (free_later draw.node drawn.node, tt))),
      ),
    )

tick_later : (number : ℕ) (machine : Actor) → number ≤ 20000 → IsNamed machine → AreLater (tick_lines number machine)
tick_later number machine few named = (tick_line_later number machine few named, (run_later number few, tt))

node_ticks_later : (number nodes : ℕ) → number ≤ 20000 → nodes ≤ 4 → AreLater (node_ticks number nodes)
unfolding node_ticks
node_ticks_later number zero few most = tt
node_ticks_later number (suc n) few most = joined (node_ticks number n) (tick_lines number (Node n)) (node_ticks_later number n few (omega (arith, most))) (tick_later number (Node n) few (omega (arith, most)))

ticks_later : (nodes number : ℕ) → number ≤ 20000 → nodes ≤ 4 → AreLater (ticks nodes number)
unfolding ticks
ticks_later nodes number few most =
    let d : List Line = tick_lines number (Member 1) ++ node_ticks number nodes in
    let c : List Line = tick_lines number (Member 0) ++ d in
    let b : List Line = tick_lines number (Server 1) ++ c in
    let last : AreLater d = joined (tick_lines number (Member 1)) (node_ticks number nodes) (tick_later number (Member 1) few (omega arith)) (node_ticks_later number nodes few most) in
    let third : AreLater c = joined (tick_lines number (Member 0)) d (tick_later number (Member 0) few (omega arith)) last in
    let second : AreLater b = joined (tick_lines number (Server 1)) c (tick_later number (Server 1) few (omega arith)) third in
    chosen (eqb (number % 20) 0) (tick_lines number (Server 0) ++ b) (joined (tick_lines number (Server 0)) b (tick_later number (Server 0) few (omega arith)) second)

crash_lines_later : (nodes calls number : ℕ) → number ≤ 20000 → 1 ≤ nodes → nodes ≤ 4 → AreLater (crash_lines nodes calls number)
unfolding crash_lines
crash_lines_later nodes calls number few some most =
    let node = number / (calls / 5) % nodes in
    let named : node ≤ 3 = let h = mod-lt (number / (calls / 5)) {m = nodes} (omega (arith, some)) in omega (arith, h, most) in
    chosen (leb 5 calls && (eqb (number % (calls / 5)) 0 && leb (number / (calls / 5)) 4)) (Crash (Node node) Keep ∷ Restart (reading_at number) (Node node) ∷ run_line number ∷ [])
    (crash_later node named, (restart_later number node few named, (run_later number few, tt)))

lines_behind_later : (seed nodes calls others : ℕ) → others < 20000 → 1 ≤ nodes → nodes ≤ 4 → AreLater (lines_behind seed nodes calls others)
unfolding lines_behind
lines_behind_later seed nodes calls others few some most =
    joined (call_lines seed (others + 1) (draw_behind seed nodes others)) _ (call_lines_later seed (others + 1) (draw_behind seed nodes others) (omega (arith, few)) (draw_behind_is seed nodes others some most)) (
    joined (ticks nodes (others + 1)) (crash_lines nodes calls (others + 1)) (ticks_later nodes (others + 1) (omega (arith, few)) most) (crash_lines_later nodes calls (others + 1) (omega (arith, few)) some most))

pub lines_to_later : (seed nodes calls n : ℕ) → n ≤ 20000 → 1 ≤ nodes → nodes ≤ 4 → AreLater (lines_to seed nodes calls n)
unfolding lines_to
lines_to_later seed nodes calls zero few some most = tt
lines_to_later seed nodes calls (suc n) few some most =
    joined (lines_to seed nodes calls n) (lines_behind seed nodes calls n) (lines_to_later seed nodes calls n (omega (arith, few)) some most) (lines_behind_later seed nodes calls n (omega (arith, few)) some most)

places : (lines : List Line) → AreLater lines → AllByRecursion (HasPlace false) lines
places [] later = tt
places (line ∷ lines) later = (later.0.place, places lines later.1)

pub are_own : (lines : List Line) → AreLater lines → AllByRecursion (λ line. is_own line ≡ true) lines
are_own [] later = tt
are_own (line ∷ lines) later = (later.0.own, are_own lines later.1)

-- the lines of a generated schedule are of its own kinds
pub generated_own : (seed nodes calls : ℕ) → 1 ≤ nodes → nodes ≤ 4 → calls ≤ 20000 → AllByRecursion (λ line. is_own line ≡ true) (generated seed nodes calls)
unfolding generated
generated_own seed nodes calls some most few = (refl, are_own (lines_to seed nodes calls calls) (lines_to_later seed nodes calls calls few some most))

pub begins_schedule : (seed nodes calls : ℕ) → seed < 2 ^ 64 → 1 ≤ nodes → nodes ≤ 4 → calls ≤ 20000 → BeginsSchedule (generated seed nodes calls)
unfolding generated
begins_schedule seed nodes calls fits some most few = (
  (
    record { volume_fits = fits; some_nodes = some; most_nodes = most; some_devices = omega arith; most_devices = omega arith; some_areas = omega arith; most_areas = omega arith },
    refl,
  ),
  places (lines_to seed nodes calls calls) (lines_to_later seed nodes calls calls few some most),
)
