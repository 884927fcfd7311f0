-- What a line does is placed: its parts are those of the line, and which machines are down goes on by lines.
use Rattle.std.proofs.Common.{◌≡◌, ℕ, ◌<◌, ◌||◌, Bool, true, false, List, [], ◌∷◌, ◌++◌, length, reverse, inl, inr, ◌⊎◌, refl, arith, ap, sym, subst, ◌∙◌, Some, None}
use Rattle.std.proofs.lemmas.Bool.Decides.{nat_tests}
use Rattle.std.proofs.lemmas.List.{reverse-append}
use Rattle.std.proofs.lemmas.List.Elements.{Contains-append_left, Contains-push}
use Rattle.std.specs.FinSet as set
use Rattle.std.specs.List.{Contains}
use Rattle.std.specs.Prelude.{is_some}
use Rattle.bx_base.specs.declared.names.Actor.{Actor}
use Rattle.bx_base.specs.declared.names.Actor.TheVariants.{Node}
use Rattle.bx_cluster.specs.Steps.{arrives_in, down_with, ends_in}
use Rattle.bx_driver.proofs.Stepping.{devices_stay, nodes_stay}
use Rattle.bx_driver.specs.Lanes.{lane_cmp}
use Rattle.bx_disk.specs.declared.noise.Noise.{Noise}
use Rattle.bx_driver.specs.Steps.{IsDueNow, IsOne, IsRun, EventStep, parts_with}
use Rattle.bx_history.specs.Along.{ends_one}
use Rattle.bx_script.specs.Schedule.{is_heading}
use Rattle.bx_script.specs.declared.line.Line.{Line}
use Rattle.bx_script.specs.declared.line.Line.TheVariants as lines
use Rattle.bx_world_events.specs.Causes.{IsThere}
use Rattle.bx_world_events.specs.Events.{reading_of as event_reading}
use Rattle.bx_world_events.specs.Refusals.{Seen}
use Rattle.bx_world_events.specs.declared.event.Event.{Event}
use Rattle.bx_world_events.specs.declared.event.Event.TheVariants.{Crash, Restart}
use Rattle.bx_schedule.specs.Doing.{AllCrash, AllRestart, IsLine}
use Rattle.bx_schedule.specs.Doing.IsLine.{OneEvent, Runs, Crashes, Restarts, Holds, Frees, Drops}
use Rattle.bx_schedule.specs.Places.{HasAsMany, has_stopped}
use Rattle.bx_schedule.specs.Placing.{ArePartsOf, Ends, EndsIn, HasCount, IsByLines, is_down_after, is_down_by, nodes_after}
use Rattle.bx_schedule.specs.Refusing.{IsEventOf}
use Rattle.bx_schedule.proofs.Downs.{crashes_all, crashes_keep, crashes_why, event_down, restarts_up, run_down, shown_down, turns_many}
use Rattle.bx_schedule.proofs.Holding.{in_cases, none_in}
use Rattle.bx_schedule.proofs.Parting.{AllEvents, HasCrash, crash_ends, due_events, each_part, ends_only, event_ends, event_part, line_crashes, one_event, one_part, turn_events}
use Rattle.bx_schedule.proofs.Turning.{there_stays}

pub turned_in : {X : Type 0} (xs : List X) (x : X) → Contains xs x → Contains (reverse xs) x
turned_in [] x inside = absurd (none_in x inside)
turned_in (y ∷ ys) x inside = by (λ rest. turned_in ys x rest) (in_cases y x ys inside)
  where
    whole : reverse (y ∷ ys) ≡ reverse ys ++ y ∷ []
    whole = reverse-append (y ∷ []) ys

    by : (Contains ys x → Contains (reverse ys) x) → (y ≡ x) ⊎ Contains ys x → Contains (reverse (y ∷ ys)) x
    by recur (inl same) = subst (Contains (reverse (y ∷ ys))) same (subst (λ l. Contains l y) (sym whole) (Contains-push (reverse ys) y))
    by recur (inr rest) = subst (λ l. Contains l x) (sym whole) (Contains-append_left (reverse ys) (y ∷ []) x (recur rest))

pub as_many_parts : (steps : List EventStep) → length (parts_with steps []) ≡ length steps
as_many_parts [] = refl
as_many_parts (step ∷ earlier) = let e = as_many_parts earlier in let both : length (parts_with (step ∷ earlier) []) ≡ length (step ∷ earlier) = omega (arith, e) in both

-- ---- there are as many machines as there were

pub line_many : (held : set.FinSet lane_cmp) (line : Line) (from to : Seen) (steps : List EventStep) → IsLine held line from steps to → HasAsMany from to
line_many held line from to steps (OneEvent event is one) = record { nodes = one.goes.shown.nodes; devices = one.goes.shown.devices }
line_many held line from to steps (Runs reading limit same run) = record { nodes = nodes_stay (IsDueNow held reading) from steps to run.along; devices = devices_stay (IsDueNow held reading) from steps to run.along }
line_many held line from to steps (Crashes noise same all) = turns_many Crash false (reverse all.machines) from to steps all.goes
line_many held line from to steps (Restarts reading same all) = turns_many (Restart reading) true (reverse all.machines) from to steps all.goes
line_many held line from to steps (Holds lane same none) = record { nodes = ap (λ (s : Seen). s.nodes) none.1; devices = ap (λ (s : Seen). s.devices) none.1 }
line_many held line from to steps (Frees lane same none) = record { nodes = ap (λ (s : Seen). s.nodes) none.1; devices = ap (λ (s : Seen). s.devices) none.1 }
line_many held line from to steps (Drops lane same none) = record { nodes = ap (λ (s : Seen). s.nodes) none.1; devices = ap (λ (s : Seen). s.devices) none.1 }

pub same_nodes : (line : Line) (before : List Line) → is_heading line ≡ false → nodes_after (line ∷ before) ≡ nodes_after before
same_nodes (lines.Heading volume nodes devices areas) before is = cc
same_nodes (lines.Call reading node client datagram) before is = refl
same_nodes (lines.Run reading limit) before is = refl
same_nodes (lines.Tick reading machine) before is = refl
same_nodes (lines.Deliver reading number) before is = refl
same_nodes (lines.Next reading from to) before is = refl
same_nodes (lines.Sync machine) before is = refl
same_nodes (lines.Hold from to kind) before is = refl
same_nodes (lines.Free from to kind) before is = refl
same_nodes (lines.Drop from to kind) before is = refl
same_nodes (lines.Crash machine noise) before is = refl
same_nodes (lines.CrashAll noise) before is = refl
same_nodes (lines.Restart reading machine) before is = refl
same_nodes (lines.RestartAll reading) before is = refl
same_nodes (lines.Blank machine) before is = refl

-- ---- the parts

only_by : (MayStop : Type 0) (Is : Event → Type 0) (line : Line) (steps : List EventStep) → AllEvents Is steps → ((event : Event) (node : ℕ) → Is event → ends_in event node ≡ true → Ends line node) → (has_stopped steps ≡ true → MayStop)
    → (node : ℕ) → EndsIn (parts_with steps []) node → Ends line node ⊎ MayStop
only_by MayStop Is line steps all ends may node inside = by (ends_only Is steps node all inside)
  where
    by : ((event : Event) × Is event × (ends_in event node ≡ true)) ⊎ (has_stopped steps ≡ true) → Ends line node ⊎ MayStop
    by (inl (event, is, its)) = inl (ends event node is its)
    by (inr stopped) = inr (may stopped)

never : (a : Bool) → a ≡ false → a ≡ true → ⊥
never a off on = cc

-- a line that does no event
none_placed : (MayStop : Type 0) (before : List Line) (line : Line) (steps : List EventStep) → steps ≡ [] → ((node : ℕ) → Ends line node → ⊥) → HasCount line 0 → ArePartsOf MayStop before line (parts_with steps [])
none_placed MayStop before line steps none ends count = subst (λ l. ArePartsOf MayStop before line (parts_with l [])) (sym none) (record {
  each = tt;
  count = count;
  ends = record { only = λ node inside. absurd (none_in inside.0 inside.1); each = λ node under up its. absurd (ends node its) };
})

module _ (MayStop : Type 0) (before : List Line) (from to : Seen) (steps : List EventStep) (may : has_stopped steps ≡ true → MayStop) where
  run_placed : (held : set.FinSet lane_cmp) (reading limit : ℕ) → IsRun held reading limit from steps to → ArePartsOf MayStop before (lines.Run reading limit) (parts_with steps [])
  run_placed held reading limit run =
      record {
        each = each_part (lines.Run reading limit) Is (λ event is. (is.0, is.1)) steps all;
        count = let same = as_many_parts steps in let within = run.within in omega (arith, same, within);
        ends = record { only = only_by MayStop Is (lines.Run reading limit) steps all (λ event node is ends. never (ends_in event node) (is.2 node) ends) may; each = λ node under up ends. absurd ends };
      }
    where
      Is : Event → Type 0
      Is event = (arrives_in event ≡ None) × ((event_reading event ≡ Some reading) ⊎ (event_reading event ≡ None)) × ((node : ℕ) → ends_in event node ≡ false)

      all : AllEvents Is steps
      all = due_events Is held reading from to steps (λ number. (refl, inl refl, λ node. refl)) (λ at. (refl, inr refl, λ node. refl)) run.along

  crashes_placed : (noise : Noise) → AllCrash from steps to → from.nodes ≡ nodes_after before → IsByLines MayStop before from → ArePartsOf MayStop before (lines.CrashAll noise) (parts_with steps [])
  crashes_placed noise it nodes by_lines =
      record {
        each = each_part (lines.CrashAll noise) Is (λ event is. (ap arrives_in is.1, ap event_reading is.1)) steps (turn_events Is Crash false (reverse it.machines) from to steps (λ who. (who, refl)) it.goes);
        count = tt;
        ends = record { only = λ node inside. inl tt; each = λ node under up ends. ended node (subst (λ n. node < n) (sym nodes) under) up (by_lines (Node node) (subst (λ n. node < n) (sym nodes) under)) };
      }
    where
      Is : Event → Type 0
      Is event = (who : Actor) × (event ≡ Crash who)

      ended : (node : ℕ) → node < from.nodes → is_down_after before (Node node) ≡ false → (from.down (Node node) ≡ is_down_after before (Node node)) ⊎ MayStop → EndsIn (parts_with steps []) node ⊎ MayStop
      ended node there up (inr stops) = inr stops
      ended node there up (inl is) =
          let inside = turned_in it.machines (Node node) (it.turn.every (Node node) (there, is ∙ up)) in
          by (crashes_why (reverse it.machines) from to steps (Node node) it.goes (crashes_all (reverse it.machines) from to steps (Node node) it.goes inside))
        where
          by : (from.down (Node node) ≡ true) ⊎ (HasCrash steps (Node node) ⊎ (has_stopped steps ≡ true)) → EndsIn (parts_with steps []) node ⊎ MayStop
          by (inl down) = absurd (never (from.down (Node node)) (is ∙ up) down)
          by (inr (inl crash)) = let own : ends_one (Node node) node ≡ true = grind (arith, nat_tests) in inl (crash_ends steps (Node node) node own crash)
          by (inr (inr stopped)) = inr (may stopped)

  restarts_placed : (reading : ℕ) → AllRestart reading from steps to → ArePartsOf MayStop before (lines.RestartAll reading) (parts_with steps [])
  restarts_placed reading it =
      record {
        each = each_part (lines.RestartAll reading) Is (λ event is. (ap arrives_in is.1, ap event_reading is.1)) steps all;
        count = tt;
        ends = record { only = only_by MayStop Is (lines.RestartAll reading) steps all (λ event node is ends. never (ends_in event node) (ap (λ (e : Event). ends_in e node) is.1) ends) may; each = λ node under up ends. absurd ends };
      }
    where
      Is : Event → Type 0
      Is event = (who : Actor) × (event ≡ Restart reading who)

      all : AllEvents Is steps
      all = turn_events Is (Restart reading) true (reverse it.machines) from to steps (λ who. (who, refl)) it.goes

  event_placed : (line : Line) (event : Event) → IsEventOf from line event → IsOne event from steps to → ArePartsOf MayStop before line (parts_with steps [])
  event_placed line event is one =
      record {
        each = each_part line (IsEventOf from line) (event_part from line) steps all;
        count = one_part from line event (length (parts_with steps [])) is (ap (λ (l : List EventStep). length (parts_with l [])) one.alone);
        ends = record {
          only = only_by MayStop (IsEventOf from line) line steps all (event_ends from line) may;
          each = λ node under up ends.
              let crash = line_crashes from line event node is ends in
              inl (crash_ends steps crash.0 node crash.2 (subst (λ l. HasCrash l crash.0) (sym one.alone) (inl (one.is ∙ crash.1))));
        };
      }
    where
      all : AllEvents (IsEventOf from line) steps
      all = one_event (IsEventOf from line) event from to steps is one

  pub parts_placed : (held : set.FinSet lane_cmp) (line : Line) → IsLine held line from steps to → from.nodes ≡ nodes_after before → IsByLines MayStop before from → ArePartsOf MayStop before line (parts_with steps [])
  parts_placed held line (OneEvent event is one) nodes by_lines = event_placed line event is one
  parts_placed held line (Runs reading limit same run) nodes by_lines = subst (λ l. ArePartsOf MayStop before l (parts_with steps [])) (sym same) (run_placed held reading limit run)
  parts_placed held line (Crashes noise same all) nodes by_lines = subst (λ l. ArePartsOf MayStop before l (parts_with steps [])) (sym same) (crashes_placed noise all nodes by_lines)
  parts_placed held line (Restarts reading same all) nodes by_lines = subst (λ l. ArePartsOf MayStop before l (parts_with steps [])) (sym same) (restarts_placed reading all)
  parts_placed held line (Holds lane same none) nodes by_lines = subst (λ l. ArePartsOf MayStop before l (parts_with steps [])) (sym same) (none_placed MayStop before (lines.Hold lane.from lane.to lane.kind) steps none.0 (λ node ends. ends) refl)
  parts_placed held line (Frees lane same none) nodes by_lines = subst (λ l. ArePartsOf MayStop before l (parts_with steps [])) (sym same) (none_placed MayStop before (lines.Free lane.from lane.to lane.kind) steps none.0 (λ node ends. ends) refl)
  parts_placed held line (Drops lane same none) nodes by_lines = subst (λ l. ArePartsOf MayStop before l (parts_with steps [])) (sym same) (none_placed MayStop before (lines.Drop lane.from lane.to lane.kind) steps none.0 (λ node ends. ends) refl)

  -- ---- which machines are down

  -- a machine that is there is down behind the line as the line says, or one stopped
  abbrev pub Moves : Line → Actor → Type 0
  Moves line who = (to.down who ≡ is_down_by line who (from.down who)) ⊎ MayStop

  run_moves : (held : set.FinSet lane_cmp) (reading limit : ℕ) (who : Actor) → IsRun held reading limit from steps to → Moves (lines.Run reading limit) who
  run_moves held reading limit who run = by (run_down held reading from to steps who run.along)
    where
      by : (to.down who ≡ from.down who) ⊎ (has_stopped steps ≡ true) → Moves (lines.Run reading limit) who
      by (inl is) = inl is
      by (inr stopped) = inr (may stopped)

  crashes_move : (noise : Noise) (who : Actor) → AllCrash from steps to → IsThere from who → Moves (lines.CrashAll noise) who
  crashes_move noise who it there = by (from.down who) refl
    where
      by : (b : Bool) → from.down who ≡ b → Moves (lines.CrashAll noise) who
      by true was = inl (crashes_keep (reverse it.machines) from to steps who it.goes was)
      by false was = inl (crashes_all (reverse it.machines) from to steps who it.goes (turned_in it.machines who (it.turn.every who (there, was))))

  restarts_move : (reading : ℕ) (who : Actor) → AllRestart reading from steps to → IsThere from who → Moves (lines.RestartAll reading) who
  restarts_move reading who it there = by (from.down who) refl
    where
      up : (to.down who ≡ false) ⊎ (has_stopped steps ≡ true) → Moves (lines.RestartAll reading) who
      up (inl is) = inl is
      up (inr stopped) = inr (may stopped)

      by : (b : Bool) → from.down who ≡ b → Moves (lines.RestartAll reading) who
      by true was = up (restarts_up reading (reverse it.machines) from to steps who it.goes (inr (turned_in it.machines who (it.turn.every who (there, was)))))
      by false was = up (restarts_up reading (reverse it.machines) from to steps who it.goes (inl was))

  event_moves : (line : Line) (event : Event) (who : Actor) → IsEventOf from line event → IsOne event from steps to → Moves line who
  event_moves line event who is one = by (shown_down one.step.event one.step.outcome.stopped from to who one.goes.shown)
    where
      by : (to.down who ≡ down_with one.step.event from.down who) ⊎ (is_some one.step.outcome.stopped ≡ true) → Moves line who
      by (inl down) = inl (down ∙ ap (λ (e : Event). down_with e from.down who) one.is ∙ event_down from line event from.down who is)
      by (inr stopped) = inr (may (subst (λ l. has_stopped l ≡ true) (sym one.alone) (ap (λ b. b || false) stopped)))

  pub line_moves : (held : set.FinSet lane_cmp) (line : Line) (who : Actor) → IsLine held line from steps to → IsThere from who → Moves line who
  line_moves held line who (OneEvent event is one) there = event_moves line event who is one
  line_moves held line who (Runs reading limit same run) there = subst (λ l. Moves l who) (sym same) (run_moves held reading limit who run)
  line_moves held line who (Crashes noise same all) there = subst (λ l. Moves l who) (sym same) (crashes_move noise who all there)
  line_moves held line who (Restarts reading same all) there = subst (λ l. Moves l who) (sym same) (restarts_move reading who all there)
  line_moves held line who (Holds lane same none) there = subst (λ l. Moves l who) (sym same) (inl (ap (λ (s : Seen). s.down who) none.1))
  line_moves held line who (Frees lane same none) there = subst (λ l. Moves l who) (sym same) (inl (ap (λ (s : Seen). s.down who) none.1))
  line_moves held line who (Drops lane same none) there = subst (λ l. Moves l who) (sym same) (inl (ap (λ (s : Seen). s.down who) none.1))

  pub down_goes_on : (held : set.FinSet lane_cmp) (line : Line) → IsLine held line from steps to → IsByLines MayStop before from → IsByLines MayStop (line ∷ before) to
  down_goes_on held line is by_lines who there =
      let many = line_many held line from to steps is in
      let was = there_stays to from who (record { nodes = sym many.nodes; devices = sym many.devices }) there in
      by (by_lines who was) (line_moves held line who is was)
    where
      by : (from.down who ≡ is_down_after before who) ⊎ MayStop → Moves line who → (to.down who ≡ is_down_after (line ∷ before) who) ⊎ MayStop
      by (inr stops) moves = inr stops
      by (inl were) (inr stops) = inr stops
      by (inl were) (inl moves) = inl (moves ∙ ap (is_down_by line who) were)
