-- What the logs have is told: the records that come in are of calls that are answered.
use Rattle.std.proofs.Common.{◌≡◌, ◌≢◌, ◌⊎◌, ⊎_elim, ◌∙◌, inl, inr, ℕ, Bool, true, false, eqb, List, [], ◌++◌, Contains, Option, None, Some, refl, sym, subst, arith}
use Rattle.std.specs.Prelude.{option_to_list}
use Rattle.std.proofs.lemmas.Bool.Decides.{nat_tests}
use Rattle.std.proofs.lemmas.List.Elements.{Contains-append_left, Contains-append_right}
use Rattle.bx_base.specs.declared.names.Point.{Point}
use Rattle.bx_node_machines.specs.Machines.{number_of}
use Rattle.bx_node_steps.specs.Calls.{IsAnswered}
use Rattle.bx_node_steps.specs.Logging.{said_of}
use Rattle.bx_node_steps.specs.Seen.{replying}
use Rattle.bx_node_tries.specs.declared.round.Said.{Said}
use Rattle.bx_node_tries.specs.declared.round.Waiting.{Waiting}
use Rattle.bx_nodes.specs.Turns.{IsOldOrTold}
use Rattle.bx_volume.specs.Overlay.{Logs, with_log}
use Rattle.bx_volume.specs.Records.{Logged}
use Rattle.bx_volume.proofs.Overlay.{log_here, log_there}

-- ---- answers among more answers

answered_first : (said more : List Said) (number : ℕ) → IsAnswered said number → IsAnswered (said ++ more) number
answered_first said more number is = record { one = is.one; there = Contains-append_left said more is.one is.there; same = is.same }

answered_then : (said more : List Said) (number : ℕ) → IsAnswered more number → IsAnswered (said ++ more) number
answered_then said more number is = record { one = is.one; there = Contains-append_right said more is.one is.there; same = is.same }

-- ---- what was there before, or is told

-- by answers, and by more behind them
pub told_on : (first middle last : Logs) (said more : List Said) → ((slot : ℕ) (one : Logged) → Contains (middle slot) one → IsOldOrTold first said slot one)
    → ((slot : ℕ) (one : Logged) → Contains (last slot) one → IsOldOrTold middle more slot one) → (slot : ℕ) (one : Logged) → Contains (last slot) one → IsOldOrTold first (said ++ more) slot one
told_on first middle last said more one_by two_by slot one has = ⊎_elim
    (λ there. ⊎_elim inl (λ told. inr (⊎_elim inl (λ is. inr (answered_first said more one.head.call is)) told)) (one_by slot one there))
    (λ told. inr (⊎_elim inl (λ is. inr (answered_then said more one.head.call is)) told))
    (two_by slot one has)

-- where the logs are others' before
pub told_from : (first middle last : Logs) (said : List Said) → middle ≡ first → ((slot : ℕ) (one : Logged) → Contains (last slot) one → IsOldOrTold middle said slot one)
    → (slot : ℕ) (one : Logged) → Contains (last slot) one → IsOldOrTold first said slot one
told_from first middle last said same by slot one has = subst (λ (logs : Logs). IsOldOrTold logs said slot one) same (by slot one has)

-- and where they are then
pub told_as : (first middle last : Logs) (said : List Said) → last ≡ middle → ((slot : ℕ) (one : Logged) → Contains (middle slot) one → IsOldOrTold first said slot one)
    → (slot : ℕ) (one : Logged) → Contains (last slot) one → IsOldOrTold first said slot one
told_as first middle last said same by slot one has = by slot one (subst (λ (logs : Logs). Contains (logs slot) one) same has)

-- ---- one record

-- the record of a call is told with its answer
pub told_with : (call : Option (Waiting × List ℕ)) (point : Point) (one : Logged) → one.head.call ≡ number_of (replying call) → point.call ≡ number_of (replying call)
    → (one.head.call ≡ 0) ⊎ IsAnswered (option_to_list (said_of call point)) one.head.call
told_with None point one is numbered = inl is
told_with (Some call) point one is numbered = inr (record {
  one = record { point = point; client = call.0.client; call = call.0.message; reply = call.1 };
  there = (0, omega arith, refl);
  same = numbered ∙ sym is;
})

-- a log that is emptied has nothing besides
pub emptied : (logs : Logs) (slot other : ℕ) (one : Logged) → Contains (with_log logs slot [] other) one → Contains (logs other) one
emptied logs slot other one has = by (eqb other slot) refl
  where
    by : (b : Bool) → eqb other slot ≡ b → Contains (logs other) one
    by true same =
        let e : other ≡ slot = grind (arith, nat_tests, same) in
        let none = subst (λ (l : List Logged). Contains l one) (log_here logs slot []) (subst (λ (n : ℕ). Contains (with_log logs slot [] n) one) e has) in
        absurd (let less = none.1 in omega (arith, less))
    by false differ =
        let ne : other ≢ slot = grind (arith, nat_tests, differ) in
        subst (λ (l : List Logged). Contains l one) (log_there logs slot other [] ne) has
