-- Lines that say what happens to machines and to packets.
use Rattle.std.proofs.Common.{◌≡◌, ℕ, ◌-◌, ◌^◌, ◌<◌, ◌≤◌, inl, inr, Bool, true, false, cond, List, ◌++◌, Option, Some, None, refl, sym, ap, subst, ◌∙◌, arith}
use Rattle.std.specs.Prelude.{codes}
use Rattle.std.specs.Fmt.{decimal}
use Rattle.std.specs.Str.{bytes_eq}
use Rattle.std.proofs.lemmas.Option.{option_and_then_some}
use Rattle.bx_base.specs.declared.names.Actor.{Actor}
use Rattle.bx_disk.specs.declared.noise.Noise.{Noise}
use Rattle.bx_script.specs.declared.line.Line.{Line}
use Rattle.bx_script.specs.declared.line.Line.TheVariants.{Tick, Deliver, Next, Sync, Hold, Free, Drop, Crash, CrashAll, Restart, RestartAll, Blank}
use Rattle.bx_script.specs.ScheduleLine.{InRange, IsLane, IsNamed, IsNoise, IsReading, kind_text, machine_text, noise_text, spelling}
use Rattle.bx_script.specs.Reading.{◌>>=◌, blank_of, crash_of, cut, deliver_of, drop_of, free_of, hold_of, kind_named, lane_of, machine_named, machines_line_of, next_of, noise_of, number_at, number_of, packets_line_of, restart_of, sync_of, tick_of}
use Rattle.bx_script.proofs.Fields.{some_is, lacks_from_test, then_space, cut_takes, cut_again}
use Rattle.bx_script.proofs.Naming.{kind_again, kind_takes, machine_again, machine_lacks, machine_takes, noise_again, noise_takes, not_all}
use Rattle.bx_script.proofs.Numbers.{number_again, number_takes}
use Rattle.bx_script.proofs.Taking.{Reads, chosen, joined, number_at_again, number_at_takes, text_is, under_word}

-- ---- machines

tick_takes : (text : List ℕ) (line : Line) → tick_of text ≡ Some line → Reads (codes "tick") text line
unfolding tick_of
tick_takes text line e =
    option_and_then_some _ (number_at 4294967295999 text) line e (λ reading e1 f1.
    option_and_then_some _ (machine_named reading.1) line f1 (λ machine e2 f2.
    let number = number_at_takes 4294967295999 text reading (omega arith) e1 in
    let who = machine_takes reading.1 machine e2 in
    let spelled = joined text reading.1 (decimal reading.0) (machine_text machine) number.spelled who.spelled in
    subst (λ (l : Line). Reads (codes "tick") text l) (some_is (Tick reading.0 machine) line f2)
    ((number.within, who.fits), ap (λ (t : List ℕ). then_space (codes "tick") t) spelled)))

tick_again : (reading : ℕ) (machine : Actor) → IsReading reading → IsNamed machine → tick_of (then_space (decimal reading) (machine_text machine)) ≡ Some (Tick reading machine)
unfolding tick_of
tick_again reading machine fits named = rw (number_at_again 4294967295999 reading (machine_text machine) (omega arith) fits, machine_again machine named) refl

sync_takes : (text : List ℕ) (line : Line) → sync_of text ≡ Some line → Reads (codes "sync") text line
unfolding sync_of
sync_takes text line e =
    option_and_then_some _ (machine_named text) line e (λ machine e1 f1.
    let who = machine_takes text machine e1 in
    subst (λ (l : Line). Reads (codes "sync") text l) (some_is (Sync machine) line f1) (who.fits, ap (λ (t : List ℕ). then_space (codes "sync") t) who.spelled))

sync_again : (machine : Actor) → IsNamed machine → sync_of (machine_text machine) ≡ Some (Sync machine)
unfolding sync_of
sync_again machine named = rw (machine_again machine named) refl

blank_takes : (text : List ℕ) (line : Line) → blank_of text ≡ Some line → Reads (codes "blank") text line
unfolding blank_of
blank_takes text line e =
    option_and_then_some _ (machine_named text) line e (λ machine e1 f1.
    let who = machine_takes text machine e1 in
    subst (λ (l : Line). Reads (codes "blank") text l) (some_is (Blank machine) line f1) (who.fits, ap (λ (t : List ℕ). then_space (codes "blank") t) who.spelled))

blank_again : (machine : Actor) → IsNamed machine → blank_of (machine_text machine) ≡ Some (Blank machine)
unfolding blank_of
blank_again machine named = rw (machine_again machine named) refl

-- a name, and what a crash makes of a disk
crashed : (text : List ℕ) (who : List ℕ × List ℕ) (name : List ℕ) (noise : Noise) → text ≡ then_space who.0 who.1 → who.0 ≡ name → who.1 ≡ noise_text noise
    → then_space (codes "crash") text ≡ then_space (codes "crash") (then_space name (noise_text noise))
crashed text who name noise is named told =
    ap (λ (t : List ℕ). then_space (codes "crash") t) (is ∙ ap (λ (w : List ℕ). then_space w who.1) named ∙ ap (λ (n : List ℕ). then_space name n) told)

crash_takes : (text : List ℕ) (line : Line) → crash_of text ≡ Some line → Reads (codes "crash") text line
unfolding crash_of
crash_takes text line e =
    option_and_then_some _ (cut text) line e (λ who e1 f1.
    option_and_then_some _ (noise_of who.1) line f1 (λ noise e2 f2.
    let read = noise_takes who.1 noise e2 in
    elim (chosen (bytes_eq who.0 (codes "all")) (Some (CrashAll noise)) _ (Some line) f2) [
      | inl all ↦ subst (λ (l : Line). Reads (codes "crash") text l) (some_is (CrashAll noise) line all.1)
          (read.fits, crashed text who (codes "all") noise (cut_takes text who e1) (text_is who.0 (codes "all") all.0) read.spelled)
      | inr one ↦
          option_and_then_some _ (machine_named who.0) line one.1 (λ machine e3 f3.
          let named = machine_takes who.0 machine e3 in
          subst (λ (l : Line). Reads (codes "crash") text l) (some_is (Crash machine noise) line f3)
          ((named.fits, read.fits), crashed text who (machine_text machine) noise (cut_takes text who e1) named.spelled read.spelled))
    ]))

crash_all_again : (noise : Noise) → IsNoise noise → crash_of (then_space (codes "all") (noise_text noise)) ≡ Some (CrashAll noise)
unfolding crash_of
crash_all_again noise fits = rw (cut_again (codes "all") (noise_text noise) (lacks_from_test 32 (codes "all") refl), noise_again noise fits) refl

crash_again : (machine : Actor) (noise : Noise) → IsNamed machine → IsNoise noise → crash_of (then_space (machine_text machine) (noise_text noise)) ≡ Some (Crash machine noise)
unfolding crash_of
crash_again machine noise named fits =
    rw (cut_again (machine_text machine) (noise_text noise) (machine_lacks 32 machine (omega arith) named), noise_again noise fits, not_all machine named, machine_again machine named) refl

restart_takes : (text : List ℕ) (line : Line) → restart_of text ≡ Some line → Reads (codes "restart") text line
unfolding restart_of
restart_takes text line e =
    option_and_then_some _ (number_at 4294967295999 text) line e (λ reading e1 f1.
    let number = number_at_takes 4294967295999 text reading (omega arith) e1 in
    elim (chosen (bytes_eq reading.1 (codes "all")) (Some (RestartAll reading.0)) _ (Some line) f1) [
      | inl all ↦ subst (λ (l : Line). Reads (codes "restart") text l) (some_is (RestartAll reading.0) line all.1)
          (number.within, ap (λ (t : List ℕ). then_space (codes "restart") t) (joined text reading.1 (decimal reading.0) (codes "all") number.spelled (text_is reading.1 (codes "all") all.0)))
      | inr one ↦
          option_and_then_some _ (machine_named reading.1) line one.1 (λ machine e2 f2.
          let named = machine_takes reading.1 machine e2 in
          subst (λ (l : Line). Reads (codes "restart") text l) (some_is (Restart reading.0 machine) line f2)
          ((number.within, named.fits), ap (λ (t : List ℕ). then_space (codes "restart") t) (joined text reading.1 (decimal reading.0) (machine_text machine) number.spelled named.spelled)))
    ])

restart_all_again : (reading : ℕ) → IsReading reading → restart_of (then_space (decimal reading) (codes "all")) ≡ Some (RestartAll reading)
unfolding restart_of
restart_all_again reading fits = rw (number_at_again 4294967295999 reading (codes "all") (omega arith) fits) refl

restart_again : (reading : ℕ) (machine : Actor) → IsReading reading → IsNamed machine → restart_of (then_space (decimal reading) (machine_text machine)) ≡ Some (Restart reading machine)
unfolding restart_of
restart_again reading machine fits named =
    rw (number_at_again 4294967295999 reading (machine_text machine) (omega arith) fits, not_all machine named, machine_again machine named) refl

-- ---- packets

deliver_takes : (text : List ℕ) (line : Line) → deliver_of text ≡ Some line → Reads (codes "deliver") text line
unfolding deliver_of
deliver_takes text line e =
    option_and_then_some _ (number_at 4294967295999 text) line e (λ reading e1 f1.
    option_and_then_some _ (number_of (2 ^ 64 - 1) reading.1) line f1 (λ number e2 f2.
    let first = number_at_takes 4294967295999 text reading (omega arith) e1 in
    let second = number_takes (2 ^ 64 - 1) reading.1 number (omega arith) e2 in
    subst (λ (l : Line). Reads (codes "deliver") text l) (some_is (Deliver reading.0 number) line f2)
    ((first.within, omega (arith, second.within)), ap (λ (t : List ℕ). then_space (codes "deliver") t) (joined text reading.1 (decimal reading.0) (decimal number) first.spelled second.spelled))))

deliver_again : (reading number : ℕ) → IsReading reading → number < 2 ^ 64 → deliver_of (then_space (decimal reading) (decimal number)) ≡ Some (Deliver reading number)
unfolding deliver_of
deliver_again reading number fits small =
    rw (number_at_again 4294967295999 reading (decimal number) (omega arith) fits, number_again (2 ^ 64 - 1) number (omega arith) (omega (arith, small))) refl

-- two names
between : (text : List ℕ) (pair : List ℕ × List ℕ) (from to : Actor) → text ≡ then_space pair.0 pair.1 → pair.0 ≡ machine_text from → pair.1 ≡ machine_text to
    → text ≡ then_space (machine_text from) (machine_text to)
between text pair from to is first second = is ∙ ap (λ (w : List ℕ). then_space w pair.1) first ∙ ap (λ (w : List ℕ). then_space (machine_text from) w) second

next_takes : (text : List ℕ) (line : Line) → next_of text ≡ Some line → Reads (codes "next") text line
unfolding next_of
next_takes text line e =
    option_and_then_some _ (number_at 4294967295999 text) line e (λ reading e1 f1.
    option_and_then_some _ (cut reading.1) line f1 (λ pair e2 f2.
    option_and_then_some _ (machine_named pair.0) line f2 (λ from e3 f3.
    option_and_then_some _ (machine_named pair.1) line f3 (λ to e4 f4.
    let number = number_at_takes 4294967295999 text reading (omega arith) e1 in
    let sender = machine_takes pair.0 from e3 in
    let receiver = machine_takes pair.1 to e4 in
    let names = between reading.1 pair from to (cut_takes reading.1 pair e2) sender.spelled receiver.spelled in
    subst (λ (l : Line). Reads (codes "next") text l) (some_is (Next reading.0 from to) line f4)
    ((number.within, sender.fits, receiver.fits), ap (λ (t : List ℕ). then_space (codes "next") t) (joined text reading.1 (decimal reading.0) (then_space (machine_text from) (machine_text to)) number.spelled names))))))

next_again : (reading : ℕ) (from to : Actor) → IsReading reading → IsNamed from → IsNamed to
    → next_of (then_space (decimal reading) (then_space (machine_text from) (machine_text to))) ≡ Some (Next reading from to)
unfolding next_of
next_again reading from to fits first second =
    rw (
      number_at_again 4294967295999 reading (then_space (machine_text from) (machine_text to)) (omega arith) fits,
      cut_again (machine_text from) (machine_text to) (machine_lacks 32 from (omega arith) first),
      machine_again from first,
      machine_again to second,
    ) refl

-- ---- lanes

abbrev Lane : Type 0
Lane = Actor × Actor × ℕ

abbrev pub lane_text : Actor → Actor → ℕ → List ℕ
lane_text from to kind = then_space (machine_text from) (then_space (machine_text to) (kind_text kind))

record IsLaneText (text : List ℕ) (from to : Actor) (kind : ℕ) : Type 0 where
  pub spelled : text ≡ lane_text from to kind
  pub fits : IsLane from to kind

lane_takes : (text : List ℕ) (lane : Lane) → lane_of text ≡ Some lane → IsLaneText text lane.0 lane.1 lane.2
unfolding lane_of
lane_takes text lane e =
    option_and_then_some _ (cut text) lane e (λ one e1 f1.
    option_and_then_some _ (cut one.1) lane f1 (λ two e2 f2.
    option_and_then_some _ (machine_named one.0) lane f2 (λ from e3 f3.
    option_and_then_some _ (machine_named two.0) lane f3 (λ to e4 f4.
    option_and_then_some _ (kind_named two.1) lane f4 (λ kind e5 f5.
    let sender = machine_takes one.0 from e3 in
    let receiver = machine_takes two.0 to e4 in
    let word = kind_takes two.1 kind e5 in
    let behind : one.1 ≡ then_space (machine_text to) (kind_text kind) =
    cut_takes one.1 two e2 ∙ ap (λ (w : List ℕ). then_space w two.1) receiver.spelled ∙ ap (λ (w : List ℕ). then_space (machine_text to) w) word.spelled in
    let spelled : text ≡ lane_text from to kind = cut_takes text one e1 ∙ ap (λ (w : List ℕ). then_space w one.1) sender.spelled ∙ ap (λ (w : List ℕ). then_space (machine_text from) w) behind in
    let made : Lane = (from, to, kind) in
    subst (λ (l : Lane). IsLaneText text l.0 l.1 l.2) (some_is made lane f5)
    (record { spelled = spelled; fits = record { from_named = sender.fits; to_named = receiver.fits; is_kind = word.is } }))))))

lane_again : (from to : Actor) (kind : ℕ) → IsLane from to kind → lane_of (lane_text from to kind) ≡ Some (from, to, kind)
unfolding lane_of
lane_again from to kind fits =
    rw (
      cut_again (machine_text from) (then_space (machine_text to) (kind_text kind)) (machine_lacks 32 from (omega arith) fits.from_named),
      cut_again (machine_text to) (kind_text kind) (machine_lacks 32 to (omega arith) fits.to_named),
      machine_again from fits.from_named,
      machine_again to fits.to_named,
      kind_again kind fits.is_kind,
    ) refl

hold_takes : (text : List ℕ) (line : Line) → hold_of text ≡ Some line → Reads (codes "hold") text line
unfolding hold_of
hold_takes text line e =
    option_and_then_some _ (lane_of text) line e (λ lane e1 f1.
    let read = lane_takes text lane e1 in
    subst (λ (l : Line). Reads (codes "hold") text l) (some_is (Hold lane.0 lane.1 lane.2) line f1) (read.fits, ap (λ (t : List ℕ). then_space (codes "hold") t) read.spelled))

free_takes : (text : List ℕ) (line : Line) → free_of text ≡ Some line → Reads (codes "free") text line
unfolding free_of
free_takes text line e =
    option_and_then_some _ (lane_of text) line e (λ lane e1 f1.
    let read = lane_takes text lane e1 in
    subst (λ (l : Line). Reads (codes "free") text l) (some_is (Free lane.0 lane.1 lane.2) line f1) (read.fits, ap (λ (t : List ℕ). then_space (codes "free") t) read.spelled))

drop_takes : (text : List ℕ) (line : Line) → drop_of text ≡ Some line → Reads (codes "drop") text line
unfolding drop_of
drop_takes text line e =
    option_and_then_some _ (lane_of text) line e (λ lane e1 f1.
    let read = lane_takes text lane e1 in
    subst (λ (l : Line). Reads (codes "drop") text l) (some_is (Drop lane.0 lane.1 lane.2) line f1) (read.fits, ap (λ (t : List ℕ). then_space (codes "drop") t) read.spelled))

hold_again : (from to : Actor) (kind : ℕ) → IsLane from to kind → hold_of (lane_text from to kind) ≡ Some (Hold from to kind)
unfolding hold_of
hold_again from to kind fits = rw (lane_again from to kind fits) refl

free_again : (from to : Actor) (kind : ℕ) → IsLane from to kind → free_of (lane_text from to kind) ≡ Some (Free from to kind)
unfolding free_of
free_again from to kind fits = rw (lane_again from to kind fits) refl

drop_again : (from to : Actor) (kind : ℕ) → IsLane from to kind → drop_of (lane_text from to kind) ≡ Some (Drop from to kind)
unfolding drop_of
drop_again from to kind fits = rw (lane_again from to kind fits) refl

-- ---- by the word

packets_take : (word rest : List ℕ) (line : Line) → packets_line_of word rest ≡ Some line → Reads word rest line
unfolding packets_line_of
packets_take word rest line e =
    elim (chosen (bytes_eq word (codes "deliver")) (deliver_of rest) _ (Some line) e) [
      | inl s ↦ under_word word (codes "deliver") rest line s.0 (deliver_takes rest line s.1)
      | inr s ↦
          elim (chosen (bytes_eq word (codes "next")) (next_of rest) _ (Some line) s.1) [
            | inl t ↦ under_word word (codes "next") rest line t.0 (next_takes rest line t.1)
            | inr t ↦
                elim (chosen (bytes_eq word (codes "hold")) (hold_of rest) _ (Some line) t.1) [
                  | inl u ↦ under_word word (codes "hold") rest line u.0 (hold_takes rest line u.1)
                  | inr u ↦
                      elim (chosen (bytes_eq word (codes "free")) (free_of rest) _ (Some line) u.1) [
                        | inl v ↦ under_word word (codes "free") rest line v.0 (free_takes rest line v.1)
                        | inr v ↦
                            elim (chosen (bytes_eq word (codes "drop")) (drop_of rest) None (Some line) v.1) [
                              | inl w ↦ under_word word (codes "drop") rest line w.0 (drop_takes rest line w.1)
                              | inr w ↦ absurd (cc w.1)
                            ]
                      ]
                ]
          ]
    ]

pub machines_take : (word rest : List ℕ) (line : Line) → machines_line_of word rest ≡ Some line → Reads word rest line
unfolding machines_line_of
machines_take word rest line e =
    elim (chosen (bytes_eq word (codes "tick")) (tick_of rest) _ (Some line) e) [
      | inl s ↦ under_word word (codes "tick") rest line s.0 (tick_takes rest line s.1)
      | inr s ↦
          elim (chosen (bytes_eq word (codes "sync")) (sync_of rest) _ (Some line) s.1) [
            | inl t ↦ under_word word (codes "sync") rest line t.0 (sync_takes rest line t.1)
            | inr t ↦
                elim (chosen (bytes_eq word (codes "crash")) (crash_of rest) _ (Some line) t.1) [
                  | inl u ↦ under_word word (codes "crash") rest line u.0 (crash_takes rest line u.1)
                  | inr u ↦
                      elim (chosen (bytes_eq word (codes "restart")) (restart_of rest) _ (Some line) u.1) [
                        | inl v ↦ under_word word (codes "restart") rest line v.0 (restart_takes rest line v.1)
                        | inr v ↦
                            elim (chosen (bytes_eq word (codes "blank")) (blank_of rest) _ (Some line) v.1) [
                              | inl w ↦ under_word word (codes "blank") rest line w.0 (blank_takes rest line w.1)
                              | inr w ↦ packets_take word rest line w.1
                            ]
                      ]
                ]
          ]
    ]

-- ---- a line in range is read again, by its word

pub tick_line : (reading : ℕ) (machine : Actor) → IsReading reading → IsNamed machine → machines_line_of (codes "tick") (then_space (decimal reading) (machine_text machine)) ≡ Some (Tick reading machine)
unfolding machines_line_of
tick_line reading machine fits named = tick_again reading machine fits named

pub sync_line : (machine : Actor) → IsNamed machine → machines_line_of (codes "sync") (machine_text machine) ≡ Some (Sync machine)
unfolding machines_line_of
sync_line machine named = sync_again machine named

pub blank_line : (machine : Actor) → IsNamed machine → machines_line_of (codes "blank") (machine_text machine) ≡ Some (Blank machine)
unfolding machines_line_of
blank_line machine named = blank_again machine named

pub crash_line : (machine : Actor) (noise : Noise) → IsNamed machine → IsNoise noise → machines_line_of (codes "crash") (then_space (machine_text machine) (noise_text noise)) ≡ Some (Crash machine noise)
unfolding machines_line_of
crash_line machine noise named fits = crash_again machine noise named fits

pub crash_all_line : (noise : Noise) → IsNoise noise → machines_line_of (codes "crash") (then_space (codes "all") (noise_text noise)) ≡ Some (CrashAll noise)
unfolding machines_line_of
crash_all_line noise fits = crash_all_again noise fits

pub restart_line : (reading : ℕ) (machine : Actor) → IsReading reading → IsNamed machine → machines_line_of (codes "restart") (then_space (decimal reading) (machine_text machine)) ≡ Some (Restart reading machine)
unfolding machines_line_of
restart_line reading machine fits named = restart_again reading machine fits named

pub restart_all_line : (reading : ℕ) → IsReading reading → machines_line_of (codes "restart") (then_space (decimal reading) (codes "all")) ≡ Some (RestartAll reading)
unfolding machines_line_of
restart_all_line reading fits = restart_all_again reading fits

of_packets : (word rest : List ℕ) → bytes_eq word (codes "tick") ≡ false → bytes_eq word (codes "sync") ≡ false → bytes_eq word (codes "crash") ≡ false → bytes_eq word (codes "restart") ≡ false → bytes_eq word (codes "blank") ≡ false
    → machines_line_of word rest ≡ packets_line_of word rest
unfolding machines_line_of
of_packets word rest a b c d e = rw (a, b, c, d, e) refl

pub deliver_line : (reading number : ℕ) → IsReading reading → number < 2 ^ 64 → machines_line_of (codes "deliver") (then_space (decimal reading) (decimal number)) ≡ Some (Deliver reading number)
unfolding packets_line_of
deliver_line reading number fits small = of_packets (codes "deliver") (then_space (decimal reading) (decimal number)) refl refl refl refl refl ∙ deliver_again reading number fits small

pub next_line : (reading : ℕ) (from to : Actor) → IsReading reading → IsNamed from → IsNamed to
    → machines_line_of (codes "next") (then_space (decimal reading) (then_space (machine_text from) (machine_text to))) ≡ Some (Next reading from to)
unfolding packets_line_of
next_line reading from to fits first second =
    of_packets (codes "next") (then_space (decimal reading) (then_space (machine_text from) (machine_text to))) refl refl refl refl refl ∙ next_again reading from to fits first second

pub hold_line : (from to : Actor) (kind : ℕ) → IsLane from to kind → machines_line_of (codes "hold") (lane_text from to kind) ≡ Some (Hold from to kind)
unfolding packets_line_of
hold_line from to kind fits = of_packets (codes "hold") (lane_text from to kind) refl refl refl refl refl ∙ hold_again from to kind fits

pub free_line : (from to : Actor) (kind : ℕ) → IsLane from to kind → machines_line_of (codes "free") (lane_text from to kind) ≡ Some (Free from to kind)
unfolding packets_line_of
free_line from to kind fits = of_packets (codes "free") (lane_text from to kind) refl refl refl refl refl ∙ free_again from to kind fits

pub drop_line : (from to : Actor) (kind : ℕ) → IsLane from to kind → machines_line_of (codes "drop") (lane_text from to kind) ≡ Some (Drop from to kind)
unfolding packets_line_of
drop_line from to kind fits = of_packets (codes "drop") (lane_text from to kind) refl refl refl refl refl ∙ drop_again from to kind fits
