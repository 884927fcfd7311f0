-- What is read is in range and spelled so, and what is in range and spelled so is read.
use Rattle.std.proofs.Common.{◌≡◌, ℕ, ◌-◌, ◌^◌, ◌<◌, ◌≤◌, inl, inr, true, cond, leb, eqb, ◌&&◌, List, ◌++◌, Option, Some, None, Result, Ok, Err, refl, sym, ap, subst, ◌∙◌, arith}
use Rattle.std.specs.Prelude.{IfOk, IfSome, codes}
use Rattle.std.specs.Fmt.{decimal}
use Rattle.std.specs.Str.{bytes_eq}
use Rattle.std.proofs.lemmas.Bool.{and_parts, eqb-true, leb-true, le-leb}
use Rattle.std.proofs.lemmas.Option.{cond_some, option_and_then_some}
use Rattle.hex.specs.Hex.{encode_lower}
use Rattle.bx_base.specs.declared.memory.OutOfMemory.{OutOfMemory}
use Rattle.bx_script.specs.declared.line.Line.{Line}
use Rattle.bx_script.specs.declared.line.Line.TheVariants.{Heading, Call, Run, Tick, Deliver, Next, Sync, Hold, Free, Drop, Crash, CrashAll, Restart, RestartAll, Blank}
use Rattle.bx_script.specs.ScheduleLine.{InRange, IsHeading, IsCall, IsRun, machine_text, noise_text, spelling}
use Rattle.bx_script.specs.Reading.{◌>>=◌, cut, number_of, number_at, datagram_of, heading_of, call_fields_of, call_of, machines_line_of, run_of, line_of}
use Rattle.bx_script.proofs.Fields.{some_is, Lacks, lacks_from_test, then_space, cut_takes, cut_again}
use Rattle.std.proofs.lemmas.Fmt.{decimal_digit}
use Rattle.bx_script.proofs.Numbers.{IsNumber, number_takes, number_again}
use Rattle.bx_script.proofs.HexText.{IsDatagram, datagram_takes, datagram_again}
use Rattle.bx_script.proofs.Taking.{IsNumberAt, Reads, chosen, joined, number_at_takes, number_at_again, under_word}
use Rattle.bx_script.proofs.MachineLines.{blank_line, crash_all_line, crash_line, deliver_line, drop_line, free_line, hold_line, lane_text, machines_take, next_line, restart_all_line, restart_line, sync_line, tick_line}

-- ---- `run`

run_parts : (text : List ℕ) (reading : ℕ) (rest : List ℕ) (limit : ℕ) (line : Line) → IsNumberAt 4294967295999 text reading rest → IsNumber 1000000 limit rest
    → cond (leb 1 limit) (Some (Run reading limit)) None ≡ Some line → Reads (codes "run") text line
run_parts text reading rest limit line p q e =
    let d = cond_some (leb 1 limit) (Run reading limit) line e in
    let spelled = joined text rest (decimal reading) (decimal limit) p.spelled q.spelled in
    subst (λ (l : Line). Reads (codes "run") text l) d.1
    (record { reading_fits = p.within; some = leb-true _ _ d.0; most = q.within }, ap (λ (t : List ℕ). then_space (codes "run") t) spelled)

run_takes : (text : List ℕ) (line : Line) → run_of text ≡ Some line → Reads (codes "run") text line
unfolding run_of
run_takes text line e =
    option_and_then_some _ (number_at 4294967295999 text) line e (λ reading e1 f1.
    option_and_then_some _ (number_of 1000000 reading.1) line f1 (λ limit e2 f2.
    run_parts text reading.0 reading.1 limit line (number_at_takes 4294967295999 text reading (omega arith) e1) (number_takes 1000000 reading.1 limit (omega arith) e2) f2))

run_again : (reading limit : ℕ) → IsRun reading limit → run_of (then_space (decimal reading) (decimal limit)) ≡ Some (Run reading limit)
unfolding run_of
run_again reading limit fits =
    let low : leb 1 limit ≡ true = le-leb _ _ fits.some in
    rw (number_at_again 4294967295999 reading (decimal limit) (omega arith) fits.reading_fits, number_again 1000000 limit (omega arith) fits.most, low) refl

-- ---- `boxwood`

heading_parts : (text : List ℕ) (version : ℕ) (r1 : List ℕ) (volume : ℕ) (r2 : List ℕ) (nodes : ℕ) (r3 : List ℕ) (devices : ℕ) (r4 : List ℕ) (areas : ℕ) (line : Line)
    → IsNumberAt (2 ^ 32 - 1) text version r1 → IsNumberAt (2 ^ 64 - 1) r1 volume r2 → IsNumberAt 4 r2 nodes r3 → IsNumberAt 4 r3 devices r4 → IsNumber 64 areas r4
    → cond (eqb version 1 && leb 1 nodes && leb 1 devices && leb 1 areas) (Some (Heading volume nodes devices areas)) None ≡ Some line → Reads (codes "boxwood") text line
heading_parts text version r1 volume r2 nodes r3 devices r4 areas line p1 p2 p3 p4 p5 e =
    let d = cond_some (eqb version 1 && leb 1 nodes && leb 1 devices && leb 1 areas) (Heading volume nodes devices areas) line e in
    let t1 = and_parts (eqb version 1 && leb 1 nodes && leb 1 devices) (leb 1 areas) d.0 in
    let t2 = and_parts (eqb version 1 && leb 1 nodes) (leb 1 devices) t1.0 in
    let t3 = and_parts (eqb version 1) (leb 1 nodes) t2.0 in
    let one : decimal version ≡ codes "1" = ap decimal (eqb-true _ _ t3.0) ∙ decimal_digit 1 (omega arith) in
    let s4 = joined r3 r4 (decimal devices) (decimal areas) p4.spelled p5.spelled in
    let s3 = joined r2 r3 (decimal nodes) (then_space (decimal devices) (decimal areas)) p3.spelled s4 in
    let s2 = joined r1 r2 (decimal volume) (then_space (decimal nodes) (then_space (decimal devices) (decimal areas))) p2.spelled s3 in
    let s1 = joined text r1 (decimal version) (then_space (decimal volume) (then_space (decimal nodes) (then_space (decimal devices) (decimal areas)))) p1.spelled s2 in
    let spelled = s1 ∙ ap (λ (w : List ℕ). then_space w (then_space (decimal volume) (then_space (decimal nodes) (then_space (decimal devices) (decimal areas))))) one in
    subst (λ (l : Line). Reads (codes "boxwood") text l) d.1 (
      record {
        volume_fits = omega (arith, p2.within);
        some_nodes = leb-true _ _ t3.1;
        most_nodes = p3.within;
        some_devices = leb-true _ _ t2.1;
        most_devices = p4.within;
        some_areas = leb-true _ _ t1.1;
        most_areas = p5.within;
      },
      ap (λ (t : List ℕ). then_space (codes "boxwood") t) spelled,
    )

heading_takes : (text : List ℕ) (line : Line) → heading_of text ≡ Some line → Reads (codes "boxwood") text line
unfolding heading_of
heading_takes text line e =
    option_and_then_some _ (number_at (2 ^ 32 - 1) text) line e (λ version e1 f1.
    option_and_then_some _ (number_at (2 ^ 64 - 1) version.1) line f1 (λ volume e2 f2.
    option_and_then_some _ (number_at 4 volume.1) line f2 (λ nodes e3 f3.
    option_and_then_some _ (number_at 4 nodes.1) line f3 (λ devices e4 f4.
    option_and_then_some _ (number_of 64 devices.1) line f4 (λ areas e5 f5.
    heading_parts text version.0 version.1 volume.0 volume.1 nodes.0 nodes.1 devices.0 devices.1 areas line
    (number_at_takes (2 ^ 32 - 1) text version (omega arith) e1) (number_at_takes (2 ^ 64 - 1) version.1 volume (omega arith) e2) (number_at_takes 4 volume.1 nodes (omega arith) e3)
    (number_at_takes 4 nodes.1 devices (omega arith) e4) (number_takes 64 devices.1 areas (omega arith) e5) f5)))))

heading_again : (volume nodes devices areas : ℕ) → IsHeading volume nodes devices areas
    → heading_of (then_space (decimal 1) (then_space (decimal volume) (then_space (decimal nodes) (then_space (decimal devices) (decimal areas))))) ≡ Some (Heading volume nodes devices areas)
unfolding heading_of
heading_again volume nodes devices areas fits =
    let n : leb 1 nodes ≡ true = le-leb _ _ fits.some_nodes in
    let d : leb 1 devices ≡ true = le-leb _ _ fits.some_devices in
    let a : leb 1 areas ≡ true = le-leb _ _ fits.some_areas in
    rw (
      number_at_again (2 ^ 32 - 1) 1 (then_space (decimal volume) (then_space (decimal nodes) (then_space (decimal devices) (decimal areas)))) (omega arith) (omega arith),
      number_at_again (2 ^ 64 - 1) volume (then_space (decimal nodes) (then_space (decimal devices) (decimal areas))) (omega arith) (omega (arith, fits.volume_fits)),
      number_at_again 4 nodes (then_space (decimal devices) (decimal areas)) (omega arith) fits.most_nodes,
      number_at_again 4 devices (decimal areas) (omega arith) fits.most_devices,
      number_again 64 areas (omega arith) fits.most_areas,
      n,
      d,
      a,
    ) refl

-- ---- `call`

pub record IsFields (text : List ℕ) (reading node client : ℕ) (hex : List ℕ) : Type 0 where
  pub spelled : text ≡ then_space (decimal reading) (then_space (decimal node) (then_space (decimal client) hex))
  pub reading_fits : reading ≤ 4294967295999
  pub node_fits : node ≤ 2 ^ 32 - 1
  pub client_fits : client ≤ 2 ^ 32 - 1

abbrev Fields : Type 0
Fields = ℕ × ℕ × ℕ × List ℕ

fields_parts : (text : List ℕ) (reading : ℕ) (r1 : List ℕ) (node : ℕ) (r2 : List ℕ) (client : ℕ) (r3 : List ℕ) (f : Fields)
    → IsNumberAt 4294967295999 text reading r1 → IsNumberAt (2 ^ 32 - 1) r1 node r2 → IsNumberAt (2 ^ 32 - 1) r2 client r3
    → Some (reading, node, client, r3) ≡ Some f → IsFields text f.0 f.1 f.2 f.3
fields_parts text reading r1 node r2 client r3 f p1 p2 p3 e =
    let made : Fields = (reading, node, client, r3) in
    let d : made ≡ f = some_is made f e in
    let s2 = joined r1 r2 (decimal node) (then_space (decimal client) r3) p2.spelled p3.spelled in
    let s1 = joined text r1 (decimal reading) (then_space (decimal node) (then_space (decimal client) r3)) p1.spelled s2 in
    subst (λ (g : Fields). IsFields text g.0 g.1 g.2 g.3) d (record { spelled = s1; reading_fits = p1.within; node_fits = p2.within; client_fits = p3.within })

fields_take : (text : List ℕ) (f : Fields) → call_fields_of text ≡ Some f → IsFields text f.0 f.1 f.2 f.3
unfolding call_fields_of
fields_take text f e =
    option_and_then_some _ (number_at 4294967295999 text) f e (λ reading e1 f1.
    option_and_then_some _ (number_at (2 ^ 32 - 1) reading.1) f f1 (λ node e2 f2.
    option_and_then_some _ (number_at (2 ^ 32 - 1) node.1) f f2 (λ client e3 f3.
    fields_parts text reading.0 reading.1 node.0 node.1 client.0 client.1 f
    (number_at_takes 4294967295999 text reading (omega arith) e1) (number_at_takes (2 ^ 32 - 1) reading.1 node (omega arith) e2) (number_at_takes (2 ^ 32 - 1) node.1 client (omega arith) e3) f3)))

fields_again : (reading node client : ℕ) (hex : List ℕ) → reading ≤ 4294967295999 → node < 2 ^ 32 → client < 2 ^ 32
    → call_fields_of (then_space (decimal reading) (then_space (decimal node) (then_space (decimal client) hex))) ≡ Some (reading, node, client, hex)
unfolding call_fields_of
fields_again reading node client hex p m q =
    rw (
      number_at_again 4294967295999 reading (then_space (decimal node) (then_space (decimal client) hex)) (omega arith) p,
      number_at_again (2 ^ 32 - 1) node (then_space (decimal client) hex) (omega arith) (omega arith),
      number_at_again (2 ^ 32 - 1) client hex (omega arith) (omega arith),
    ) refl

call_parts : (text : List ℕ) (reading node client : ℕ) (hex bytes : List ℕ) → IsFields text reading node client hex → IsDatagram hex bytes → Reads (codes "call") text (Call reading node client bytes)
call_parts text reading node client hex bytes p q =
    let spelled : text ≡ then_space (decimal reading) (then_space (decimal node) (then_space (decimal client) (encode_lower bytes))) =
    p.spelled ∙ ap (λ (h : List ℕ). then_space (decimal reading) (then_space (decimal node) (then_space (decimal client) h))) q.spelled in
    (record { reading_fits = p.reading_fits; node_fits = omega (arith, p.node_fits); client_fits = omega (arith, p.client_fits); short = q.short; bytes = q.fits }, ap (λ (t : List ℕ). then_space (codes "call") t) spelled)

call_takes : (text : List ℕ) (line : Line) → call_of text ≡ Some line → Reads (codes "call") text line
unfolding call_of
call_takes text line e =
    option_and_then_some _ (call_fields_of text) line e (λ f e1 f1.
    option_and_then_some _ (datagram_of f.3) line f1 (λ bytes e2 f2.
    subst (λ (l : Line). Reads (codes "call") text l) (some_is (Call f.0 f.1 f.2 bytes) line f2)
    (call_parts text f.0 f.1 f.2 f.3 bytes (fields_take text f e1) (datagram_takes f.3 bytes e2))))

call_again : (reading node client : ℕ) (bytes : List ℕ) → IsCall reading node client bytes
    → call_of (then_space (decimal reading) (then_space (decimal node) (then_space (decimal client) (encode_lower bytes)))) ≡ Some (Call reading node client bytes)
unfolding call_of
call_again reading node client bytes fits =
    rw (fields_again reading node client (encode_lower bytes) fits.reading_fits fits.node_fits fits.client_fits, datagram_again bytes fits.short fits.bytes) refl

-- ---- a line

-- what follows the word
abbrev rest_of : List ℕ → List ℕ → Option Line
rest_of word rest = cond (bytes_eq word (codes "boxwood")) (heading_of rest) (cond (bytes_eq word (codes "call")) (call_of rest) (cond (bytes_eq word (codes "run")) (run_of rest) (machines_line_of word rest)))

rest_takes : (word rest : List ℕ) (line : Line) → rest_of word rest ≡ Some line → Reads word rest line
rest_takes word rest line e =
    elim (chosen (bytes_eq word (codes "boxwood")) (heading_of rest) _ (Some line) e) [
      | inl h ↦ under_word word (codes "boxwood") rest line h.0 (heading_takes rest line h.1)
      | inr h ↦
          elim (chosen (bytes_eq word (codes "call")) (call_of rest) _ (Some line) h.1) [
            | inl c ↦ under_word word (codes "call") rest line c.0 (call_takes rest line c.1)
            | inr c ↦
                elim (chosen (bytes_eq word (codes "run")) (run_of rest) _ (Some line) c.1) [
                  | inl r ↦ under_word word (codes "run") rest line r.0 (run_takes rest line r.1)
                  | inr r ↦ machines_take word rest line r.1
                ]
          ]
    ]

pub line_takes : (text : List ℕ) (line : Line) → line_of text ≡ Some line → InRange line × (text ≡ spelling line)
unfolding line_of
line_takes text line e =
    option_and_then_some _ (cut text) line e (λ x e1 f1.
    let h = rest_takes x.0 x.1 line f1 in
    (h.0, cut_takes text x e1 ∙ h.1))

word_again : (word rest : List ℕ) → Lacks 32 word → line_of (then_space word rest) ≡ rest_of word rest
unfolding line_of
word_again word rest h = rw (cut_again word rest h) refl

abbrev heading_text : List ℕ → ℕ → ℕ → ℕ → ℕ → List ℕ
heading_text version volume nodes devices areas = then_space version (then_space (decimal volume) (then_space (decimal nodes) (then_space (decimal devices) (decimal areas))))

heading_line : (volume nodes devices areas : ℕ) → IsHeading volume nodes devices areas → heading_of (heading_text (codes "1") volume nodes devices areas) ≡ Some (Heading volume nodes devices areas)
heading_line volume nodes devices areas fits =
    ap (λ (w : List ℕ). heading_of (heading_text w volume nodes devices areas)) (sym (decimal_digit 1 (omega arith))) ∙ heading_again volume nodes devices areas fits

pub line_again : (line : Line) → InRange line → line_of (spelling line) ≡ Some line
line_again (Heading volume nodes devices areas) fits =
    word_again (codes "boxwood") (heading_text (codes "1") volume nodes devices areas) (lacks_from_test 32 (codes "boxwood") refl) ∙ heading_line volume nodes devices areas fits
line_again (Call reading node client bytes) fits =
    word_again (codes "call") (then_space (decimal reading) (then_space (decimal node) (then_space (decimal client) (encode_lower bytes)))) (lacks_from_test 32 (codes "call") refl) ∙ call_again reading node client bytes fits
line_again (Run reading limit) fits =
    word_again (codes "run") (then_space (decimal reading) (decimal limit)) (lacks_from_test 32 (codes "run") refl) ∙ run_again reading limit fits
line_again (Tick reading machine) fits = word_again (codes "tick") (then_space (decimal reading) (machine_text machine)) (lacks_from_test 32 (codes "tick") refl) ∙ tick_line reading machine fits.0 fits.1
line_again (Deliver reading number) fits = word_again (codes "deliver") (then_space (decimal reading) (decimal number)) (lacks_from_test 32 (codes "deliver") refl) ∙ deliver_line reading number fits.0 fits.1
line_again (Next reading from to) fits = word_again (codes "next") (then_space (decimal reading) (then_space (machine_text from) (machine_text to))) (lacks_from_test 32 (codes "next") refl) ∙ next_line reading from to fits.0 fits.1 fits.2
line_again (Sync machine) fits = word_again (codes "sync") (machine_text machine) (lacks_from_test 32 (codes "sync") refl) ∙ sync_line machine fits
line_again (Hold from to kind) fits = word_again (codes "hold") (lane_text from to kind) (lacks_from_test 32 (codes "hold") refl) ∙ hold_line from to kind fits
line_again (Free from to kind) fits = word_again (codes "free") (lane_text from to kind) (lacks_from_test 32 (codes "free") refl) ∙ free_line from to kind fits
line_again (Drop from to kind) fits = word_again (codes "drop") (lane_text from to kind) (lacks_from_test 32 (codes "drop") refl) ∙ drop_line from to kind fits
line_again (Crash machine noise) fits = word_again (codes "crash") (then_space (machine_text machine) (noise_text noise)) (lacks_from_test 32 (codes "crash") refl) ∙ crash_line machine noise fits.0 fits.1
line_again (CrashAll noise) fits = word_again (codes "crash") (then_space (codes "all") (noise_text noise)) (lacks_from_test 32 (codes "crash") refl) ∙ crash_all_line noise fits
line_again (Restart reading machine) fits = word_again (codes "restart") (then_space (decimal reading) (machine_text machine)) (lacks_from_test 32 (codes "restart") refl) ∙ restart_line reading machine fits.0 fits.1
line_again (RestartAll reading) fits = word_again (codes "restart") (then_space (decimal reading) (codes "all")) (lacks_from_test 32 (codes "restart") refl) ∙ restart_all_line reading fits
line_again (Blank machine) fits = word_again (codes "blank") (machine_text machine) (lacks_from_test 32 (codes "blank") refl) ∙ blank_line machine fits

-- ---- what `read` answers

pub is_found : (r : Result (Option Line) OutOfMemory) (text : List ℕ) → IfOk r (λ found. found ≡ line_of text) → IfOk r (λ found. IfSome found (λ line. InRange line × (text ≡ spelling line)))
is_found (Ok (Some line)) text h = line_takes text line (sym h)
is_found (Ok None) text h = tt
is_found (Err e) text h = tt

pub is_only : (r : Result (Option Line) OutOfMemory) (text : List ℕ) → IfOk r (λ found. found ≡ line_of text)
    → IfOk r (λ found. (line : Line) → InRange line → text ≡ spelling line → found ≡ Some line)
is_only (Ok found) text h = λ line fits spelled. h ∙ ap line_of spelled ∙ line_again line fits
is_only (Err e) text h = tt
