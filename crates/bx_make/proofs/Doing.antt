-- Each line of a generated schedule may be done behind those before it.
use Rattle.std.proofs.Common.{◌≡◌, ℕ, zero, suc, ◌+◌, ◌*◌, ◌/◌, ◌%◌, ◌^◌, ◌<◌, ◌≤◌, ◌⊎◌, inl, inr, Bool, true, false, cond, eqb, leb, ◌&&◌, ◌||◌, not, List, [], ◌∷◌, ◌++◌, length, refl, sym, ap, subst, ◌∙◌, arith, append_assoc}
use Rattle.std.specs.Prelude.{Option, Some, None, IfSome, map, max, reverse}
use Rattle.std.specs.List.{AllByRecursion}
use Rattle.std.proofs.lemmas.List.{append-nil, reverse-append, length-append}
use Rattle.std.proofs.lemmas.Bool.Decides.{eqb_tells}
use native.Mathlib.Nat.{mod-lt}
use Rattle.bx_base.specs.declared.names.Actor.{Actor}
use Rattle.bx_base.specs.declared.names.Actor.TheVariants.{Node, Server, Member}
use Rattle.bx_disk.specs.declared.noise.Noise.TheVariants.{Keep}
use Rattle.bx_generated.specs.Draws.{draw_behind}
use Rattle.bx_generated.specs.Schedules.{again_lines, call_line, call_lines, crash_lines, freed_lines, generated, held_lines, lines_behind, lines_to, node_ticks, reading_at, run_line, tick_lines, ticks}
use Rattle.bx_generated.specs.declared.draws.Draw.{Draw}
use Rattle.bx_generated.proofs.Grammar.{IsDrawn, IsLater, begins_schedule, call_later, crash_later, draw_behind_is, drop_later, free_later, hold_later, restart_later, run_later, tick_line_later}
use Rattle.bx_history.specs.Along.{AllowedNewest}
use Rattle.bx_lease.specs.Readings.{IsTooFarBack}
use Rattle.bx_post.specs.Machines.{is_same}
use Rattle.bx_schedule.specs.Placing.{is_down_after, is_down_by, nodes_after}
use Rattle.bx_script.specs.Schedule.{HasPlace, reading_of}
use Rattle.bx_script.specs.ScheduleLine.{IsNamed}
use Rattle.bx_script.specs.declared.line.Line.{Line}
use Rattle.bx_script.specs.declared.line.Line.TheVariants.{Heading, Call, Run, Tick, Hold, Free, Drop, Crash, Restart}
use Rattle.bx_replay.specs.Lines.{AllAreThere, Allows, AreDone, HasMachine, IsFit, IsSteady, Machines, after_lines, devices_in, greatest_of, needs_down, needs_up}

-- the lines, the newest first, in front of others
abbrev pub onto : List Line → List Line → List Line
onto [] before = before
onto (line ∷ lines) before = onto lines (line ∷ before)

onto_append : (a b before : List Line) → onto (a ++ b) before ≡ onto b (onto a before)
onto_append [] b before = refl
onto_append (line ∷ a) b before = onto_append a b (line ∷ before)

onto_reverse : (lines before : List Line) → onto lines before ≡ reverse lines ++ before
onto_reverse [] before = refl
onto_reverse (line ∷ lines) before =
    onto_reverse lines (line ∷ before) ∙ sym (ap (λ (l : List Line). l ++ before) (reverse-append (line ∷ []) lines) ∙ append_assoc (reverse lines) (line ∷ []) before)

onto_length : (lines before : List Line) → length (onto lines before) ≡ length lines + length before
onto_length [] before = omega arith
onto_length (line ∷ lines) before = let h = onto_length lines (line ∷ before) in omega (arith, h)

module _ (MayStop : Type 0) (nodes : ℕ) where
  -- How it stands behind lines, the newest first: each was allowed, the cluster has the nodes and one device, no clock is past a reading, and every machine is up, but maybe one.
  record Stands (down : Actor → Bool) (reading most : ℕ) (before : List Line) : Type 0 where
    allowed : AllowedNewest (Allows MayStop) before
    nodes_are : nodes_after before ≡ nodes
    devices_are : devices_in before ≡ 1
    greatest : greatest_of before ≤ reading
    downs : (who : Actor) → is_down_after before who ≡ down who
    some : 1 ≤ length before
    few : length before ≤ most

  abbrev none_down : Actor → Bool
  none_down who = false

  -- a later reading, and a greater bound, serve too
  wider : (down : Actor → Bool) (a b m n : ℕ) (before : List Line) → a ≤ b → m ≤ n → Stands down a m before → Stands down b n before
  wider down a b m n before le more s = record {
    allowed = s.allowed;
    nodes_are = s.nodes_are;
    devices_are = s.devices_are;
    greatest = omega (arith, le, s.greatest);
    downs = s.downs;
    some = s.some;
    few = omega (arith, more, s.few);
  }

  -- A line that may come then: it has its place, the machines that it names are there, it has this reading or none; and what it changes.
  record May (down after : Actor → Bool) (reading : ℕ) (line : Line) : Type 0 where
    place : HasPlace false line
    there : (m : Machines) → m.nodes ≡ nodes → m.devices ≡ 1 → AllAreThere m line
    read : (reading_of line ≡ None) ⊎ (reading_of line ≡ Some reading)
    up : IfSome (needs_up line) (λ who. down who ≡ false)
    lies : IfSome (needs_down line) (λ who. down who ≡ true)
    same_nodes : (before : List Line) → nodes_after (line ∷ before) ≡ nodes_after before
    same_devices : (before : List Line) → devices_in (line ∷ before) ≡ devices_in before
    now_down : (who : Actor) → is_down_by line who (down who) ≡ after who

  steady_by : (greatest reading : ℕ) (its : Option ℕ) → greatest ≤ reading → (its ≡ None) ⊎ (its ≡ Some reading) → IfSome its (λ r. IsTooFarBack greatest r → ⊥)
  steady_by greatest reading None le is = tt
  steady_by greatest reading (Some r) le (inl e) = absurd cc
  steady_by greatest reading (Some r) le (inr e) = λ back. let same : r ≡ reading = cc in omega (arith, same, back, le)

  greatest_by : (line : Line) (before : List Line) (reading : ℕ) → greatest_of before ≤ reading → (reading_of line ≡ None) ⊎ (reading_of line ≡ Some reading) → greatest_of (line ∷ before) ≤ reading
  greatest_by line before reading le (inl e) = rw e le
  greatest_by line before reading le (inr e) = rw e (omega (arith, le))

  up_by : (machines down : Actor → Bool) (one : Option Actor) (wanted : Bool) → ((who : Actor) → machines who ≡ down who) → IfSome one (λ who. down who ≡ wanted) → IfSome one (λ who. machines who ≡ wanted)
  up_by machines down None wanted same h = tt
  up_by machines down (Some who) wanted same h = same who ∙ h

  down_or : (machines : Actor → Bool) (one : Option Actor) → IfSome one (λ who. machines who ≡ true) → IfSome one (λ who. (machines who ≡ true) ⊎ MayStop)
  down_or machines None h = tt
  down_or machines (Some who) h = inl h

  not_first : (n : ℕ) → 1 ≤ n → eqb n 0 ≡ false
  not_first n some = elim (eqb_tells n 0) [ inl h ↦ absurd (omega (arith, h.1, some)) | inr h ↦ h.0 ]

  -- one line more
  one_more : (down after : Actor → Bool) (reading most : ℕ) (line : Line) (before : List Line) → most < 4294967295 → May down after reading line → Stands down reading most before → Stands after reading (most + 1) (line ∷ before)
  one_more down after reading most line before room may s =
      let first : eqb (length before) 0 ≡ false = not_first (length before) s.some in
      let allows : Allows MayStop before line = record {
        few = omega (arith, s.few, room);
        in_place = rw first may.place;
        there = may.there (after_lines before) s.nodes_are s.devices_are;
        steady = steady_by (greatest_of before) reading (reading_of line) s.greatest may.read;
        fit = (up_by (is_down_after before) down (needs_up line) false s.downs may.up, down_or (is_down_after before) (needs_down line) (up_by (is_down_after before) down (needs_down line) true s.downs may.lies));
      } in
      record {
        allowed = (allows, s.allowed);
        nodes_are = may.same_nodes before ∙ s.nodes_are;
        devices_are = may.same_devices before ∙ s.devices_are;
        greatest = greatest_by line before reading s.greatest may.read;
        downs = λ who. ap (is_down_by line who) (s.downs who) ∙ may.now_down who;
        some = omega arith;
        few = omega (arith, s.few);
      }

  -- ---- the lines of a generated schedule

  may_call : (volume number : ℕ) (draw : Draw) → number ≤ 20000 → IsDrawn draw → draw.node < nodes → May none_down none_down (reading_at number) (call_line volume number draw)
  may_call volume number draw few drawn low = record {
    place = (call_later volume number draw few drawn).place;
    there = λ m n d. (omega (arith, low, n), tt);
    read = inr refl;
    up = refl;
    lies = tt;
    same_nodes = λ before. refl;
    same_devices = λ before. refl;
    now_down = λ who. refl;
  }

  may_run : (number : ℕ) → number ≤ 20000 → May none_down none_down (reading_at number) (run_line number)
  may_run number few = record { place = (run_later number few).place; there = λ m n d. tt; read = inr refl; up = tt; lies = tt; same_nodes = λ before. refl; same_devices = λ before. refl; now_down = λ who. refl }

  may_tick : (number : ℕ) (machine : Actor) → number ≤ 20000 → IsNamed machine → ((m : Machines) → m.nodes ≡ nodes → m.devices ≡ 1 → HasMachine m machine) → May none_down none_down (reading_at number) (Tick (reading_at number) machine)
  may_tick number machine few named there = record {
    place = (tick_line_later number machine few named).place;
    there = λ m n d. (there m n d, tt);
    read = inr refl;
    up = refl;
    lies = tt;
    same_nodes = λ before. refl;
    same_devices = λ before. refl;
    now_down = λ who. refl;
  }

  may_hold : (reading node : ℕ) → node ≤ 3 → node < nodes → May none_down none_down reading (Hold (Node node) (Server 0) 8)
  may_hold reading node low lt = record {
    place = (hold_later node low).place;
    there = λ m n d. (omega (arith, lt, n), (omega arith, tt));
    read = inl refl;
    up = tt;
    lies = tt;
    same_nodes = λ before. refl;
    same_devices = λ before. refl;
    now_down = λ who. refl;
  }

  may_free : (reading node : ℕ) → node ≤ 3 → node < nodes → May none_down none_down reading (Free (Node node) (Server 0) 8)
  may_free reading node low lt = record {
    place = (free_later node low).place;
    there = λ m n d. (omega (arith, lt, n), (omega arith, tt));
    read = inl refl;
    up = tt;
    lies = tt;
    same_nodes = λ before. refl;
    same_devices = λ before. refl;
    now_down = λ who. refl;
  }

  may_drop : (reading node : ℕ) → node ≤ 3 → node < nodes → May none_down none_down reading (Drop (Node node) (Server 0) 8)
  may_drop reading node low lt = record {
    place = (drop_later node low).place;
    there = λ m n d. (omega (arith, lt, n), (omega arith, tt));
    read = inl refl;
    up = tt;
    lies = tt;
    same_nodes = λ before. refl;
    same_devices = λ before. refl;
    now_down = λ who. refl;
  }

  -- the one machine that is down
  abbrev only_down : ℕ → Actor → Bool
  only_down node who = is_same (Node node) who || false

  may_crash : (reading node : ℕ) → node ≤ 3 → node < nodes → May none_down (only_down node) reading (Crash (Node node) Keep)
  may_crash reading node low lt = record {
    place = (crash_later node low).place;
    there = λ m n d. (omega (arith, lt, n), tt);
    read = inl refl;
    up = refl;
    lies = tt;
    same_nodes = λ before. refl;
    same_devices = λ before. refl;
    now_down = λ who. refl;
  }

  same_itself : (n : ℕ) → eqb n n ≡ true
  same_itself n = elim (eqb_tells n n) [ inl h ↦ h.0 | inr h ↦ absurd (h.1 refl) ]

  up_again : (same : Bool) → (not same && (same || false)) ≡ false
  up_again true = refl
  up_again false = refl

  may_restart : (number node : ℕ) → number ≤ 20000 → node ≤ 3 → node < nodes → May (only_down node) none_down (reading_at number) (Restart (reading_at number) (Node node))
  may_restart number node few low lt = record {
    place = (restart_later number node few low).place;
    there = λ m n d. (omega (arith, lt, n), tt);
    read = inr refl;
    up = tt;
    lies = ap (λ (b : Bool). b || false) (same_itself node);
    same_nodes = λ before. refl;
    same_devices = λ before. refl;
    now_down = λ who. up_again (is_same (Node node) who);
  }

  -- ---- lines one behind the other

  abbrev Up : ℕ → ℕ → List Line → Type 0
  Up reading most before = Stands none_down reading most before

  -- lines that come or not
  chosen : (test : Bool) (reading most extra : ℕ) (lines before : List Line) → Up reading most before → Up reading (most + extra) (onto lines before) → Up reading (most + extra) (onto (cond test lines []) before)
  chosen true reading most extra lines before s t = t
  chosen false reading most extra lines before s t = wider none_down reading reading most (most + extra) before (omega arith) (omega arith) s

  after_call : (volume number most : ℕ) (draw : Draw) (before : List Line) → number ≤ 20000 → most < 1000000 → IsDrawn draw → draw.node < nodes → Up (reading_at number) most before
      → Up (reading_at number) (most + 6) (onto (call_lines volume number draw) before)
  unfolding call_lines held_lines freed_lines again_lines
  after_call volume number most draw before few room drawn low s =
      let t = reading_at number in
      let n = draw.node in
      let call = call_line volume number draw in
      let hold = Hold (Node n) (Server 0) 8 in
      let drop = Drop (Node n) (Server 0) 8 in
      let free = Free (Node n) (Server 0) 8 in
      let b1 : List Line = onto (cond (eqb draw.turn 1) (hold ∷ []) []) before in
      let s1 : Up t (most + 1) b1 = chosen (eqb draw.turn 1) t most 1 (hold ∷ []) before s (one_more none_down none_down t most hold before (omega (arith, room)) (may_hold t n drawn.node low) s) in
      let s2 : Up t (most + 1 + 1) (call ∷ b1) = one_more none_down none_down t (most + 1) call b1 (omega (arith, room)) (may_call volume number draw few drawn low) s1 in
      let s3 : Up t (most + 1 + 1 + 1) (run_line number ∷ call ∷ b1) = one_more none_down none_down t (most + 1 + 1) (run_line number) (call ∷ b1) (omega (arith, room)) (may_run number few) s2 in
      let b3 : List Line = run_line number ∷ call ∷ b1 in
      let b4 : List Line = onto (cond (eqb draw.turn 0) (call ∷ []) []) b3 in
      let s4 : Up t (most + 1 + 1 + 1 + 1) b4 = chosen (eqb draw.turn 0) t (most + 1 + 1 + 1) 1 (call ∷ []) b3 s3 (one_more none_down none_down t (most + 1 + 1 + 1) call b3 (omega (arith, room)) (may_call volume number draw few drawn low) s3) in
      let s5 : Up t (most + 1 + 1 + 1 + 1 + 1) (drop ∷ b4) = one_more none_down none_down t (most + 1 + 1 + 1 + 1) drop b4 (omega (arith, room)) (may_drop t n drawn.node low) s4 in
      let s6 : Up t (most + 1 + 1 + 1 + 1 + 1 + 1) (free ∷ drop ∷ b4) = one_more none_down none_down t (most + 1 + 1 + 1 + 1 + 1) free (drop ∷ b4) (omega (arith, room)) (may_free t n drawn.node low) s5 in
      let s7 : Up t (most + 1 + 1 + 1 + 1 + 2) (onto (cond (eqb draw.turn 1) (drop ∷ free ∷ []) []) b4) =
      chosen (eqb draw.turn 1) t (most + 1 + 1 + 1 + 1) 2 (drop ∷ free ∷ []) b4 s4 (wider none_down t t (most + 1 + 1 + 1 + 1 + 1 + 1) (most + 1 + 1 + 1 + 1 + 2) (free ∷ drop ∷ b4) (omega arith) (omega arith) s6) in
      let s8 : Up t (most + 6) (onto (cond (eqb draw.turn 1) (drop ∷ free ∷ []) []) b4) = wider none_down t t (most + 1 + 1 + 1 + 1 + 2) (most + 6) _ (omega arith) (omega arith) s7 in
      let whole : onto (cond (eqb draw.turn 1) (hold ∷ []) [] ++ (call ∷ run_line number ∷ (cond (eqb draw.turn 0) (call ∷ []) [] ++ cond (eqb draw.turn 1) (drop ∷ free ∷ []) []))) before
      ≡ onto (cond (eqb draw.turn 1) (drop ∷ free ∷ []) []) b4 =
      onto_append (cond (eqb draw.turn 1) (hold ∷ []) []) (call ∷ run_line number ∷ (cond (eqb draw.turn 0) (call ∷ []) [] ++ cond (eqb draw.turn 1) (drop ∷ free ∷ []) [])) before
      ∙ onto_append (cond (eqb draw.turn 0) (call ∷ []) []) (cond (eqb draw.turn 1) (drop ∷ free ∷ []) []) b3 in
      subst (Up t (most + 6)) (sym whole) s8

  after_tick : (number most : ℕ) (machine : Actor) (before : List Line) → number ≤ 20000 → most < 1000000 → IsNamed machine → ((m : Machines) → m.nodes ≡ nodes → m.devices ≡ 1 → HasMachine m machine)
      → Up (reading_at number) most before → Up (reading_at number) (most + 2) (onto (tick_lines number machine) before)
  after_tick number most machine before few room named there s =
      let t = reading_at number in
      let tick = Tick t machine in
      let s1 : Up t (most + 1) (tick ∷ before) = one_more none_down none_down t most tick before (omega (arith, room)) (may_tick number machine few named there) s in
      let s2 : Up t (most + 1 + 1) (run_line number ∷ tick ∷ before) = one_more none_down none_down t (most + 1) (run_line number) (tick ∷ before) (omega (arith, room)) (may_run number few) s1 in
      wider none_down t t (most + 1 + 1) (most + 2) (run_line number ∷ tick ∷ before) (omega arith) (omega arith) s2

  after_node_ticks : (number most n : ℕ) (before : List Line) → number ≤ 20000 → most < 999000 → n ≤ nodes → n ≤ 4 → Up (reading_at number) most before → Up (reading_at number) (most + 2 * n) (onto (node_ticks number n) before)
  unfolding node_ticks
  after_node_ticks number most zero before few room le four s = wider none_down (reading_at number) (reading_at number) most (most + 2 * 0) before (omega arith) (omega arith) s
  after_node_ticks number most (suc n) before few room le four s =
      let t = reading_at number in
      let b = onto (node_ticks number n) before in
      let s1 : Up t (most + 2 * n) b = after_node_ticks number most n before few room (omega (arith, le)) (omega (arith, four)) s in
      let s2 : Up t (most + 2 * n + 2) (onto (tick_lines number (Node n)) b) = after_tick number (most + 2 * n) (Node n) b few (omega (arith, room, four)) (omega (arith, four)) (λ m is d. omega (arith, is, le)) s1 in
      let s3 : Up t (most + 2 * suc n) (onto (tick_lines number (Node n)) b) = wider none_down t t (most + 2 * n + 2) (most + 2 * suc n) _ (omega arith) (omega arith) s2 in
      subst (Up t (most + 2 * suc n)) (sym (onto_append (node_ticks number n) (tick_lines number (Node n)) before)) s3

  after_ticks : (number most : ℕ) (before : List Line) → number ≤ 20000 → most < 900000 → nodes ≤ 4 → Up (reading_at number) most before → Up (reading_at number) (most + 16) (onto (ticks nodes number) before)
  unfolding ticks
  after_ticks number most before few room four s =
      let t = reading_at number in
      let k0 = tick_lines number (Server 0) in
      let k1 = tick_lines number (Server 1) in
      let k2 = tick_lines number (Member 0) in
      let k3 = tick_lines number (Member 1) in
      let kn = node_ticks number nodes in
      let b0 = onto k0 before in
      let b1 = onto k1 b0 in
      let b2 = onto k2 b1 in
      let b3 = onto k3 b2 in
      let s0 : Up t (most + 2) b0 = after_tick number most (Server 0) before few (omega (arith, room)) (omega arith) (λ m is d. omega arith) s in
      let s1 : Up t (most + 2 + 2) b1 = after_tick number (most + 2) (Server 1) b0 few (omega (arith, room)) (omega arith) (λ m is d. omega arith) s0 in
      let s2 : Up t (most + 2 + 2 + 2) b2 = after_tick number (most + 2 + 2) (Member 0) b1 few (omega (arith, room)) (omega arith) (λ m is d. omega (arith, d)) s1 in
      let s3 : Up t (most + 2 + 2 + 2 + 2) b3 = after_tick number (most + 2 + 2 + 2) (Member 1) b2 few (omega (arith, room)) (omega arith) (λ m is d. omega (arith, d)) s2 in
      let s4 : Up t (most + 2 + 2 + 2 + 2 + 2 * nodes) (onto kn b3) = after_node_ticks number (most + 2 + 2 + 2 + 2) nodes b3 few (omega (arith, room)) (omega arith) four s3 in
      let s5 : Up t (most + 16) (onto kn b3) = wider none_down t t (most + 2 + 2 + 2 + 2 + 2 * nodes) (most + 16) (onto kn b3) (omega arith) (omega (arith, four)) s4 in
      let whole : onto (k0 ++ (k1 ++ (k2 ++ (k3 ++ kn)))) before ≡ onto kn b3 =
      onto_append k0 (k1 ++ (k2 ++ (k3 ++ kn))) before ∙ onto_append k1 (k2 ++ (k3 ++ kn)) b0 ∙ onto_append k2 (k3 ++ kn) b1 ∙ onto_append k3 kn b2 in
      chosen (eqb (number % 20) 0) t most 16 (k0 ++ (k1 ++ (k2 ++ (k3 ++ kn)))) before s (subst (Up t (most + 16)) (sym whole) s5)

  after_crash : (calls number most : ℕ) (before : List Line) → number ≤ 20000 → most < 900000 → 1 ≤ nodes → nodes ≤ 4 → Up (reading_at number) most before → Up (reading_at number) (most + 3) (onto (crash_lines nodes calls number) before)
  unfolding crash_lines
  after_crash calls number most before few room one four s =
      let t = reading_at number in
      let n : ℕ = number / (calls / 5) % nodes in
      let low : n < nodes = mod-lt (number / (calls / 5)) {m = nodes} (omega (arith, one)) in
      let three : n ≤ 3 = omega (arith, low, four) in
      let crash = Crash (Node n) Keep in
      let restart = Restart t (Node n) in
      let s1 : Stands (only_down n) t (most + 1) (crash ∷ before) = one_more none_down (only_down n) t most crash before (omega (arith, room)) (may_crash t n three low) s in
      let s2 : Up t (most + 1 + 1) (restart ∷ crash ∷ before) = one_more (only_down n) none_down t (most + 1) restart (crash ∷ before) (omega (arith, room)) (may_restart number n few three low) s1 in
      let s3 : Up t (most + 1 + 1 + 1) (run_line number ∷ restart ∷ crash ∷ before) = one_more none_down none_down t (most + 1 + 1) (run_line number) (restart ∷ crash ∷ before) (omega (arith, room)) (may_run number few) s2 in
      chosen (leb 5 calls && (eqb (number % (calls / 5)) 0 && leb (number / (calls / 5)) 4)) t most 3 (crash ∷ restart ∷ run_line number ∷ []) before s
      (wider none_down t t (most + 1 + 1 + 1) (most + 3) (run_line number ∷ restart ∷ crash ∷ before) (omega arith) (omega arith) s3)

  after_one : (seed calls others most : ℕ) (before : List Line) → others < 20000 → most < 800000 → 1 ≤ nodes → nodes ≤ 4 → Up (reading_at others) most before
      → Up (reading_at (others + 1)) (most + 25) (onto (lines_behind seed nodes calls others) before)
  unfolding lines_behind
  after_one seed calls others most before few room one four s =
      let t = reading_at (others + 1) in
      let draw = draw_behind seed nodes others in
      let low : draw.node < nodes = mod-lt _ {m = nodes} (omega (arith, one)) in
      let c = call_lines seed (others + 1) draw in
      let k = ticks nodes (others + 1) in
      let f = crash_lines nodes calls (others + 1) in
      let s0 : Up t most before = wider none_down (reading_at others) t most most before (omega arith) (omega arith) s in
      let s1 : Up t (most + 6) (onto c before) = after_call seed (others + 1) most draw before (omega (arith, few)) (omega (arith, room)) (draw_behind_is seed nodes others one four) low s0 in
      let s2 : Up t (most + 6 + 16) (onto k (onto c before)) = after_ticks (others + 1) (most + 6) (onto c before) (omega (arith, few)) (omega (arith, room)) four s1 in
      let s3 : Up t (most + 6 + 16 + 3) (onto f (onto k (onto c before))) = after_crash calls (others + 1) (most + 6 + 16) (onto k (onto c before)) (omega (arith, few)) (omega (arith, room)) one four s2 in
      let s4 : Up t (most + 25) (onto f (onto k (onto c before))) = wider none_down t t (most + 6 + 16 + 3) (most + 25) _ (omega arith) (omega arith) s3 in
      let whole : onto (c ++ (k ++ f)) before ≡ onto f (onto k (onto c before)) = onto_append c (k ++ f) before ∙ onto_append k f (onto c before) in
      subst (Up t (most + 25)) (sym whole) s4

  after_all : (seed calls n : ℕ) (before : List Line) → n ≤ 20000 → 1 ≤ nodes → nodes ≤ 4 → Up (reading_at 0) 1 before → Up (reading_at n) (1 + 25 * n) (onto (lines_to seed nodes calls n) before)
  unfolding lines_to
  after_all seed calls zero before few one four s = wider none_down (reading_at 0) (reading_at 0) 1 (1 + 25 * 0) before (omega arith) (omega arith) s
  after_all seed calls (suc n) before few one four s =
      let b = onto (lines_to seed nodes calls n) before in
      let s1 : Up (reading_at n) (1 + 25 * n) b = after_all seed calls n before (omega (arith, few)) one four s in
      let s2 : Up (reading_at (n + 1)) (1 + 25 * n + 25) (onto (lines_behind seed nodes calls n) b) = after_one seed calls n (1 + 25 * n) b (omega (arith, few)) (omega (arith, few)) one four s1 in
      let s3 : Up (reading_at (suc n)) (1 + 25 * suc n) (onto (lines_behind seed nodes calls n) b) = wider none_down (reading_at (n + 1)) (reading_at (suc n)) (1 + 25 * n + 25) (1 + 25 * suc n) _ (omega arith) (omega arith) s2 in
      subst (Up (reading_at (suc n)) (1 + 25 * suc n)) (sym (onto_append (lines_to seed nodes calls n) (lines_behind seed nodes calls n) before)) s3

  begun : (seed : ℕ) → seed < 2 ^ 64 → 1 ≤ nodes → nodes ≤ 4 → Up (reading_at 0) 1 (Heading seed nodes 1 2 ∷ [])
  begun seed fits one four = record {
    allowed = (
      record {
        few = omega arith;
        in_place = (
          record { volume_fits = fits; some_nodes = one; most_nodes = four; some_devices = omega arith; most_devices = omega arith; some_areas = omega arith; most_areas = omega arith },
          refl,
        );
        there = tt;
        steady = tt;
        fit = (tt, tt);
      },
      tt,
    );
    nodes_are = refl;
    devices_are = refl;
    greatest = omega arith;
    downs = λ who. refl;
    some = omega arith;
    few = omega arith;
  }

  -- each line may be done behind those before it
  pub generated_done : (seed calls : ℕ) → seed < 2 ^ 64 → 1 ≤ nodes → nodes ≤ 4 → calls ≤ 20000 → AreDone MayStop (generated seed nodes calls)
  unfolding generated
  generated_done seed calls fits one four few =
      let heading = Heading seed nodes 1 2 in
      let all = after_all seed calls calls (heading ∷ []) few one four (begun seed fits one four) in
      let whole : onto (lines_to seed nodes calls calls) (heading ∷ []) ≡ reverse (heading ∷ lines_to seed nodes calls calls) =
      onto_reverse (heading ∷ lines_to seed nodes calls calls) [] ∙ append-nil (reverse (heading ∷ lines_to seed nodes calls calls)) in
      subst (AllowedNewest (Allows MayStop)) whole all.allowed

  -- there are few of them
  pub generated_few : (seed calls : ℕ) → seed < 2 ^ 64 → 1 ≤ nodes → nodes ≤ 4 → calls ≤ 20000 → length (generated seed nodes calls) ≤ 4294967295
  unfolding generated
  generated_few seed calls fits one four few =
      let all = after_all seed calls calls (Heading seed nodes 1 2 ∷ []) few one four (begun seed fits one four) in
      let h = all.few in
      omega (arith, h, few, onto_length (lines_to seed nodes calls calls) (Heading seed nodes 1 2 ∷ []))
