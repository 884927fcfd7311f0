-- The spellings of lines in range.
use Rattle.std.proofs.Common.{◌≡◌, ℕ, ◌+◌, ◌≤◌, List, [], ◌∷◌, ◌++◌, length, refl, sym, ap, ◌∙◌, arith}
use Rattle.std.specs.Prelude.{codes}
use Rattle.std.specs.Fmt.{decimal}
use Rattle.std.specs.List.{AllByRecursion}
use Rattle.std.proofs.lemmas.Fmt.{length-decimal-le}
use Rattle.std.proofs.lemmas.List.{length-append}
use Rattle.hex.specs.Hex.{encode_lower, lower_digits}
use Rattle.hex.proofs.HexLemmas.{length-encode_with}
use Rattle.bx_base.specs.Text.{LacksFeed}
use Rattle.bx_base.specs.declared.names.Actor.{Actor}
use Rattle.bx_script.specs.declared.line.Line.{Line}
use Rattle.bx_disk.specs.declared.noise.Noise.{Noise}
use Rattle.bx_disk.specs.declared.noise.Noise.TheVariants.{Keep, Drop, Seed}
use Rattle.bx_script.specs.declared.line.Line.TheVariants.{Heading, Call, Run, Tick, Deliver, Next, Sync, Hold, Free, Drop as DropPackets, Crash, CrashAll, Restart, RestartAll, Blank}
use Rattle.bx_script.specs.ScheduleLine.{InRange, IsHeading, IsCall, IsLane, IsNoise, IsReading, IsRun, fields, kind_text, machine_text, noise_text, spelling}
use Rattle.bx_script.specs.Reading.{line_of}
use Rattle.bx_script.proofs.Fields.{Lacks, Lacks-append, lacks_from_test, then_space, some_is}
use Rattle.bx_script.proofs.Numbers.{Lacks-decimal}
use Rattle.bx_script.proofs.HexText.{Lacks-hex}
use Rattle.bx_script.proofs.Spaced.{Lacks-spaced, LacksFeed-from_lacks}
use Rattle.bx_script.proofs.Lines.{line_again}
use Rattle.bx_script.proofs.MachineLines.{lane_text}
use Rattle.bx_script.proofs.Naming.{kind_lacks, kind_length, machine_lacks, machine_length}

-- two lines in range have different spellings
pub spelling_injective : (a b : Line) → InRange a → InRange b → spelling a ≡ spelling b → a ≡ b
spelling_injective a b p q e = some_is a b (sym (line_again a p) ∙ ap line_of e ∙ line_again b q)

-- ---- lengths

length-then_space : (a b : List ℕ) → length (then_space a b) ≡ length a + 1 + length b
length-then_space a b = omega (arith, length-append a (32 ∷ b))

short_heading : (version : List ℕ) (volume nodes devices areas : ℕ) → IsHeading volume nodes devices areas
    → length (then_space version (then_space (decimal volume) (then_space (decimal nodes) (then_space (decimal devices) (decimal areas))))) ≤ length version + 60
short_heading version volume nodes devices areas fits =
    let v = length-decimal-le 20 volume (omega arith) (omega (arith, fits.volume_fits)) fits.volume_fits in
    let n = length-decimal-le 2 nodes (omega arith) (omega (arith, fits.most_nodes)) (omega (arith, fits.most_nodes)) in
    let d = length-decimal-le 2 devices (omega arith) (omega (arith, fits.most_devices)) (omega (arith, fits.most_devices)) in
    let a = length-decimal-le 2 areas (omega arith) (omega (arith, fits.most_areas)) (omega (arith, fits.most_areas)) in
    omega (
      arith,
      length-then_space version (then_space (decimal volume) (then_space (decimal nodes) (then_space (decimal devices) (decimal areas)))),
      length-then_space (decimal volume) (then_space (decimal nodes) (then_space (decimal devices) (decimal areas))),
      length-then_space (decimal nodes) (then_space (decimal devices) (decimal areas)),
      length-then_space (decimal devices) (decimal areas),
    )

short_call : (reading node client : ℕ) (bytes : List ℕ) → IsCall reading node client bytes
    → length (then_space (decimal reading) (then_space (decimal node) (then_space (decimal client) (encode_lower bytes)))) ≤ 18500
short_call reading node client bytes fits =
    let r = length-decimal-le 13 reading (omega arith) (omega (arith, fits.reading_fits)) (omega (arith, fits.reading_fits)) in
    let n = length-decimal-le 10 node (omega arith) (omega (arith, fits.node_fits)) (omega (arith, fits.node_fits)) in
    let c = length-decimal-le 10 client (omega arith) (omega (arith, fits.client_fits)) (omega (arith, fits.client_fits)) in
    omega (
      arith,
      fits.short,
      length-encode_with lower_digits bytes,
      length-then_space (decimal reading) (then_space (decimal node) (then_space (decimal client) (encode_lower bytes))),
      length-then_space (decimal node) (then_space (decimal client) (encode_lower bytes)),
      length-then_space (decimal client) (encode_lower bytes),
    )

short_run : (reading limit : ℕ) → IsRun reading limit → length (then_space (decimal reading) (decimal limit)) ≤ 100
short_run reading limit fits =
    let r = length-decimal-le 13 reading (omega arith) (omega (arith, fits.reading_fits)) (omega (arith, fits.reading_fits)) in
    let l = length-decimal-le 7 limit (omega arith) (omega (arith, fits.most)) (omega (arith, fits.most)) in
    omega (arith, length-then_space (decimal reading) (decimal limit))

short_noise : (noise : Noise) → IsNoise noise → length (noise_text noise) ≤ 25
short_noise Keep fits = omega arith
short_noise Drop fits = omega arith
short_noise (Seed seed) fits =
    let s = length-decimal-le 20 seed (omega arith) (omega (arith, fits)) fits in
    omega (arith, length-append (codes "seed:") (decimal seed))

short_timed : (reading : ℕ) (rest : List ℕ) → IsReading reading → length (then_space (decimal reading) rest) ≤ 14 + length rest
short_timed reading rest fits =
    let r = length-decimal-le 13 reading (omega arith) (omega (arith, fits)) (omega (arith, fits)) in
    omega (arith, length-then_space (decimal reading) rest)

short_lane : (from to : Actor) (kind : ℕ) → IsLane from to kind → length (lane_text from to kind) ≤ 20
short_lane from to kind fits =
    omega (
      arith,
      length-then_space (machine_text from) (then_space (machine_text to) (kind_text kind)),
      length-then_space (machine_text to) (kind_text kind),
      machine_length from fits.from_named,
      machine_length to fits.to_named,
      kind_length kind fits.is_kind,
    )

-- no line is longer than the most
pub short_spelling : (line : Line) → InRange line → length (spelling line) ≤ 18600
short_spelling (Heading volume nodes devices areas) fits =
    omega (arith, length-then_space (codes "boxwood") (then_space (codes "1") (then_space (decimal volume) (then_space (decimal nodes) (then_space (decimal devices) (decimal areas))))), short_heading (codes "1") volume nodes devices areas fits)
short_spelling (Call reading node client bytes) fits =
    omega (arith, length-then_space (codes "call") (then_space (decimal reading) (then_space (decimal node) (then_space (decimal client) (encode_lower bytes)))), short_call reading node client bytes fits)
short_spelling (Run reading limit) fits =
    omega (arith, length-then_space (codes "run") (then_space (decimal reading) (decimal limit)), short_run reading limit fits)
short_spelling (Tick reading machine) fits =
    omega (arith, length-then_space (codes "tick") (then_space (decimal reading) (machine_text machine)), short_timed reading (machine_text machine) fits.0, machine_length machine fits.1)
short_spelling (Deliver reading number) fits =
    let n = length-decimal-le 20 number (omega arith) (omega (arith, fits.1)) fits.1 in
    omega (arith, length-then_space (codes "deliver") (then_space (decimal reading) (decimal number)), short_timed reading (decimal number) fits.0)
short_spelling (Next reading from to) fits =
    omega (
      arith,
      length-then_space (codes "next") (then_space (decimal reading) (then_space (machine_text from) (machine_text to))),
      short_timed reading (then_space (machine_text from) (machine_text to)) fits.0,
      length-then_space (machine_text from) (machine_text to),
      machine_length from fits.1,
      machine_length to fits.2,
    )
short_spelling (Sync machine) fits = omega (arith, length-then_space (codes "sync") (machine_text machine), machine_length machine fits)
short_spelling (Hold from to kind) fits = omega (arith, length-then_space (codes "hold") (lane_text from to kind), short_lane from to kind fits)
short_spelling (Free from to kind) fits = omega (arith, length-then_space (codes "free") (lane_text from to kind), short_lane from to kind fits)
short_spelling (DropPackets from to kind) fits = omega (arith, length-then_space (codes "drop") (lane_text from to kind), short_lane from to kind fits)
short_spelling (Crash machine noise) fits =
    omega (arith, length-then_space (codes "crash") (then_space (machine_text machine) (noise_text noise)), length-then_space (machine_text machine) (noise_text noise), machine_length machine fits.0, short_noise noise fits.1)
short_spelling (CrashAll noise) fits =
    omega (arith, length-then_space (codes "crash") (then_space (codes "all") (noise_text noise)), length-then_space (codes "all") (noise_text noise), short_noise noise fits)
short_spelling (Restart reading machine) fits =
    omega (arith, length-then_space (codes "restart") (then_space (decimal reading) (machine_text machine)), short_timed reading (machine_text machine) fits.0, machine_length machine fits.1)
short_spelling (RestartAll reading) fits =
    omega (arith, length-then_space (codes "restart") (then_space (decimal reading) (codes "all")), short_timed reading (codes "all") fits)
short_spelling (Blank machine) fits = omega (arith, length-then_space (codes "blank") (machine_text machine), machine_length machine fits)

-- ---- no line feed

noise_lacks_feed : (noise : Noise) → IsNoise noise → Lacks 10 (noise_text noise)
noise_lacks_feed Keep fits = lacks_from_test 10 (codes "keep") refl
noise_lacks_feed Drop fits = lacks_from_test 10 (codes "drop") refl
noise_lacks_feed (Seed seed) fits = Lacks-append 10 (codes "seed:") (decimal seed) (lacks_from_test 10 (codes "seed:") refl) (Lacks-decimal 10 seed (omega arith) fits)

reading_lacks : (reading : ℕ) → IsReading reading → Lacks 10 (decimal reading)
reading_lacks reading fits = Lacks-decimal 10 reading (omega arith) (omega (arith, fits))

lane_lacks : (from to : Actor) (kind : ℕ) → IsLane from to kind → AllByRecursion (Lacks 10) (machine_text from ∷ machine_text to ∷ kind_text kind ∷ [])
lane_lacks from to kind fits =
    (machine_lacks 10 from (omega arith) fits.from_named, (machine_lacks 10 to (omega arith) fits.to_named, (kind_lacks 10 kind refl fits.is_kind, tt)))

fields_lack_feed : (line : Line) → InRange line → AllByRecursion (Lacks 10) (fields line)
fields_lack_feed (Heading volume nodes devices areas) fits = (
  lacks_from_test 10 (codes "boxwood") refl,
  (
    lacks_from_test 10 (codes "1") refl,
    (
      Lacks-decimal 10 volume (omega arith) fits.volume_fits,
      (Lacks-decimal 10 nodes (omega arith) (omega (arith, fits.most_nodes)), (Lacks-decimal 10 devices (omega arith) (omega (arith, fits.most_devices)), (Lacks-decimal 10 areas (omega arith) (omega (arith, fits.most_areas)), tt))),
    ),
  ),
)
fields_lack_feed (Call reading node client bytes) fits = (
  lacks_from_test 10 (codes "call") refl,
  (
    Lacks-decimal 10 reading (omega arith) (omega (arith, fits.reading_fits)),
    (
      Lacks-decimal 10 node (omega arith) (omega (arith, fits.node_fits)),
      (Lacks-decimal 10 client (omega arith) (omega (arith, fits.client_fits)), (Lacks-hex 10 bytes (omega arith) fits.bytes, tt)),
    ),
  ),
)
fields_lack_feed (Run reading limit) fits =
    (lacks_from_test 10 (codes "run") refl, (Lacks-decimal 10 reading (omega arith) (omega (arith, fits.reading_fits)), (Lacks-decimal 10 limit (omega arith) (omega (arith, fits.most)), tt)))
fields_lack_feed (Tick reading machine) fits = (lacks_from_test 10 (codes "tick") refl, (reading_lacks reading fits.0, (machine_lacks 10 machine (omega arith) fits.1, tt)))
fields_lack_feed (Deliver reading number) fits = (lacks_from_test 10 (codes "deliver") refl, (reading_lacks reading fits.0, (Lacks-decimal 10 number (omega arith) fits.1, tt)))
fields_lack_feed (Next reading from to) fits =
    (lacks_from_test 10 (codes "next") refl, (reading_lacks reading fits.0, (machine_lacks 10 from (omega arith) fits.1, (machine_lacks 10 to (omega arith) fits.2, tt))))
fields_lack_feed (Sync machine) fits = (lacks_from_test 10 (codes "sync") refl, (machine_lacks 10 machine (omega arith) fits, tt))
fields_lack_feed (Hold from to kind) fits = (lacks_from_test 10 (codes "hold") refl, lane_lacks from to kind fits)
fields_lack_feed (Free from to kind) fits = (lacks_from_test 10 (codes "free") refl, lane_lacks from to kind fits)
fields_lack_feed (DropPackets from to kind) fits = (lacks_from_test 10 (codes "drop") refl, lane_lacks from to kind fits)
fields_lack_feed (Crash machine noise) fits = (lacks_from_test 10 (codes "crash") refl, (machine_lacks 10 machine (omega arith) fits.0, (noise_lacks_feed noise fits.1, tt)))
fields_lack_feed (CrashAll noise) fits = (lacks_from_test 10 (codes "crash") refl, (lacks_from_test 10 (codes "all") refl, (noise_lacks_feed noise fits, tt)))
fields_lack_feed (Restart reading machine) fits = (lacks_from_test 10 (codes "restart") refl, (reading_lacks reading fits.0, (machine_lacks 10 machine (omega arith) fits.1, tt)))
fields_lack_feed (RestartAll reading) fits = (lacks_from_test 10 (codes "restart") refl, (reading_lacks reading fits, (lacks_from_test 10 (codes "all") refl, tt)))
fields_lack_feed (Blank machine) fits = (lacks_from_test 10 (codes "blank") refl, (machine_lacks 10 machine (omega arith) fits, tt))

-- no line has a line feed
pub spelling_lacks_feed : (line : Line) → InRange line → LacksFeed (spelling line)
spelling_lacks_feed line fits = LacksFeed-from_lacks (spelling line) (Lacks-spaced 10 (fields line) (λ e. omega arith) (fields_lack_feed line fits))
