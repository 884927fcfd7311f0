-- What a tidy does to its node.
use Rattle.std.proofs.Common.{◌≡◌, ◌∙◌, ⊎_elim, inl, inr, ℕ, All, Contains, List, [], ◌∷◌, Option, None, Some, IfSome, IsSome, refl, sym, ap, subst}
use Rattle.std.specs.Prelude.{option_map, true}
use Rattle.std.specs.List.{AllByRecursion}
use Rattle.std.proofs.lemmas.List.Elements.{All-cons, All-weaker}
use Rattle.bx_base.specs.declared.names.Mode.{Mode}
use Rattle.bx_facts.proofs.Lists.{behind, front}
use Rattle.bx_facts.specs.Writes.{Sent}
use Rattle.bx_node_cache.specs.Kept.{held_in, hint_in}
use Rattle.bx_node_steps.proofs.Acting.{acts_unwritten}
use Rattle.bx_node_steps.proofs.Answering.{fits_numbered, idle_numbered, same_as, same_calls}
use Rattle.bx_node_steps.specs.Calls.{acting_of, call_written, point_in, under_way}
use Rattle.bx_node_steps.specs.Gives.{marked}
use Rattle.bx_node_steps.specs.Logging.{FitsStage}
use Rattle.bx_node_steps.specs.Tidying.{Ends, GoesOn, IsToClean, NoTidy, Rests, TidyGoes, area_of, tidying}
use Rattle.bx_node_steps.specs.declared.machine.Machine.{Machine}
use Rattle.bx_node_steps.specs.declared.machine.Mark.{Mark}
use Rattle.bx_node_steps.specs.declared.machine.Stage.{Stage}
use Rattle.bx_node_steps.specs.declared.machine.Stage.TheVariants as stages
use Rattle.bx_node_steps.specs.declared.machine.Tidy.{Tidy}
use Rattle.bx_node_tries.specs.Tries.{AreNeeded}
use Rattle.bx_node_tries.specs.declared.round.Said.{Said}
use Rattle.bx_node_tries.specs.declared.round.Waiting.{Waiting}
use Rattle.bx_nodes.proofs.Calling.{AnswersWell}
use Rattle.bx_nodes.proofs.Machines.{if_between, if_both, if_some, of_there, was_there}
use Rattle.bx_nodes.proofs.Giving.{among_more, among_needs, wanted_as, wanted_then}
use Rattle.bx_nodes.proofs.Noting.{each_on, needed_as}
use Rattle.bx_nodes.proofs.Tidying.{GoesBy, LeavesTidy, SameTidy}
use Rattle.bx_nodes.specs.Asks.{KeepsUnneeded, KeepsUnwanted, OnlyHolds}
use Rattle.bx_nodes.specs.Cleaning.{CleansArea}
use Rattle.bx_nodes.specs.Sending.{SendsBody, WorksOver}
use Rattle.bx_nodes.specs.Giving.{AreWanted, IsInNeeds}
use Rattle.bx_nodes.specs.Turns.{AreNeededBy, HasCause, Waits}
use Rattle.bx_nodes.specs.Turns.HasCause.{AskedBack, Needs, Over, Writes}
use Rattle.bx_facts.specs.declared.owners.Owners as owners
use Rattle.bx_records.specs.Drafts.{Changed}
use Rattle.bx_views.specs.Attempts.{IsFairNeed, Tidies}
use Rattle.bx_views.specs.Truths.{IsTruth, Truth}
use Rattle.bx_views.specs.declared.attempt.Attempt.{Attempt}
use Rattle.bx_views.specs.declared.attempt.Attempt.TheVariants.{Inner}
use Rattle.bx_views.specs.declared.engine.Engine as engine

-- ---- what becomes of a tidy

-- it rests
abbrev pub resting : Option Tidy → Option Tidy
resting = option_map (λ tidy. record { tick = tidy.tick; rests = true })

pub rest_goes : (a : Machine) (area : ℕ) → IsToClean a area → IsSome a.mark → GoesBy a (record a { tidy = resting a.tidy })
rest_goes a area is asked = Rests is.tidy is.is is.awake (ap resting is.is) asked (λ call waits. is.none_wait call waits)

-- it stays before it goes on
pub same_goes : (a b c : Machine) → LeavesTidy a b → GoesBy b c → GoesBy a c
same_goes a b c same (NoTidy is is_then) = NoTidy (sym same.0 ∙ is) is_then
same_goes a b c same (GoesOn tidy is now) = GoesOn tidy (sym same.0 ∙ is) now
same_goes a b c same (Rests before is awake now asked none) = Rests before (sym same.0 ∙ is) awake now (subst (λ (m : Option Mark). IsSome m) same.1 asked) none
same_goes a b c same (Ends before is now none) = Ends before (sym same.0 ∙ is) now none

-- or behind that, and so do the calls
pub goes_same : {Asked : Type 0} (a b : Machine) (mark : Option Mark) → TidyGoes Asked a b → TidyGoes Asked a (record b { mark = mark })
goes_same a b mark (NoTidy is is_then) = NoTidy is is_then
goes_same a b mark (GoesOn tidy is now) = GoesOn tidy is now
goes_same a b mark (Rests before is awake now asked none) = Rests before is awake now asked (λ call waits. none call waits)
goes_same a b mark (Ends before is now none) = Ends before is now (λ call waits. none call waits)

-- What is noted is what the node is asked for.
noted_some : (asked : Option (ℕ × ℕ)) (a : Machine) → IsSome (marked asked a) → IsSome asked
noted_some None a some = some
noted_some (Some one) a some = refl

pub noted_goes : (asked : Option (ℕ × ℕ)) (a c : Machine) → GoesBy (record a { mark = marked asked a }) c → TidyGoes (IsSome asked) a c
noted_goes asked a c (NoTidy is now) = NoTidy is now
noted_goes asked a c (GoesOn tidy is now) = GoesOn tidy is now
noted_goes asked a c (Rests before is awake now some none) = Rests before is awake now (noted_some asked a some) none
noted_goes asked a c (Ends before is now none) = Ends before is now none

-- ---- what it cleans

module _ (IsClean : ℕ → Type 0) (areas : ℕ) where
  pub cleans_same : (was is : Option Tidy) → is ≡ was → CleansArea IsClean areas was is
  cleans_same None is same = tt
  cleans_same (Some tidy) is same = subst (λ (t : Option Tidy). CleansArea IsClean areas (Some tidy) t) (sym same) tt

  pub cleans_rest : (was : Option Tidy) → CleansArea IsClean areas was (resting was)
  cleans_rest None = tt
  cleans_rest (Some tidy) = tt

  pub cleans_end : (was : Option Tidy) (tidy : Tidy) → was ≡ Some tidy → IsClean (area_of areas tidy) → CleansArea IsClean areas was None
  cleans_end was tidy is clean = subst (λ (t : Option Tidy). CleansArea IsClean areas t None) (sym is) clean

-- ---- calls that wait meanwhile

pub unseen_answers : (moment areas : ℕ) (a : Machine) (ticks : ℕ) (tidy : Option Tidy) → FitsStage areas a.log a.stage → AnswersWell moment [] a (record a { ticks = ticks; tidy = tidy })
unseen_answers moment areas a ticks tidy fits apart = same_calls moment a (record a { ticks = ticks; tidy = tidy }) refl refl refl refl (fits_numbered areas a fits) apart

-- A tidy's record is of no call.
pub sent_answers : (moment at : ℕ) (draft : List Changed) (own : Option ℕ) (until : ℕ) (out : Option Sent) (a b : Machine) → a.stage ≡ stages.Idle → SendsBody (tidying draft at) own until out a b → AnswersWell moment [] a b
sent_answers moment at draft own until out a b idle sends apart =
    same_as moment a b sends.begins.calls
    (ap (λ (m : Machine). call_written m.stage) sends.begins.only ∙ sym (ap call_written idle))
    (ap under_way sends.begins.only ∙ sym (ap (λ (s : Stage). acting_of (call_written s) (point_in a.log.work)) idle))
    (acts_unwritten a b sends.begins.calls (ap (λ (m : Machine). call_written m.stage) sends.begins.only)) (idle_numbered a idle) apart

-- ---- what it does to the tree: nothing

pub tidy_works : {E T : Type 0} (e : engine.Ghosts E T) (engine_is : E) (area moment : ℕ) (machine : Machine) (draft : List Changed) (attempt : Attempt) → attempt ≡ Inner draft
    → ((truth : Truth) (tree : T) → IsTruth (held_in machine.cache.kept) truth → e.stands engine_is truth (hint_in machine.cache.hinted) tree → Tidies (e.stands engine_is) (e.is_clean engine_is truth area) truth tree attempt)
    → WorksOver e engine_is (tidying draft moment) machine
tidy_works e engine_is area moment machine draft attempt is gives truth tree holds agrees =
    let gave = subst (λ (one : Attempt). Tidies (e.stands engine_is) (e.is_clean engine_is truth area) truth tree one) is (gives truth tree holds agrees) in
    record { next = tree; step = refl; leads = gave.1 }

-- ---- what waits where it asks for blocks

module _ {O E T : Type 0} (o : owners.Ghosts O) (e : engine.Ghosts E T) (engine_is : E) (node moment session : ℕ) (said : List Said) (before between after : O) (out : Option Sent) (IsAsked IsAsked_then : ℕ → Type 0) (on : (at : ℕ) → IsAsked at → IsAsked_then at) (first : Machine) where
  more_causes : (middle : Machine) (newest : Option ℕ) (needs : List (List (ℕ × Mode))) (wants : List (ℕ × Mode)) (call : Waiting) → HasCause e engine_is middle moment out newest needs call → HasCause e engine_is middle moment out newest (wants ∷ needs) call
  more_causes middle newest needs wants call (Over is) = Over is
  more_causes middle newest needs wants call (Writes some) = Writes some
  more_causes middle newest needs wants call (AskedBack is) = AskedBack is
  more_causes middle newest needs wants call (Needs wanted tried there) = Needs wanted tried (behind wants needs wanted there)

  still_kept : (needs : List (List (ℕ × Mode))) (wants : List (ℕ × Mode)) (middle a b : Machine) → KeepsUnneeded needs middle a → KeepsUnwanted wants a b → KeepsUnneeded (wants ∷ needs) middle b
  still_kept needs wants middle a b kept keeps at = ⊎_elim
      (λ same. ⊎_elim (λ was. inl (same ∙ was)) (λ needed. inr (needed.0, behind wants needs needed.0 needed.1, needed.2)) (kept at))
      (λ wanted. inr (wants, front wants needs, wanted)) (keeps at)

  pub wanted_waits : (wants : List (ℕ × Mode)) (a b : Machine) (tidy : Tidy) → first.tidy ≡ Some tidy → OnlyHolds a b → KeepsUnwanted wants a b
      → IsFairNeed (e.areas engine_is) (held_in a.cache.kept) (e.tidy_path engine_is (area_of (e.areas engine_is) tidy) (held_in a.cache.kept) (hint_in a.cache.hinted)) wants
      → AreWanted o node (λ at mode. Contains wants (at, mode)) between after → AllByRecursion (λ wanted. IsAsked_then wanted.0) wants
      → Waits o e engine_is node moment session said before between out IsAsked first a → Waits o e engine_is node moment session said before after out IsAsked_then first b
  wanted_waits wants a b tidy is only keeps fair wanted asks waits =
      let calls : b.calls.items ≡ a.calls.items = ap (λ (m : Machine). m.calls.items) only in
      let needs = wants ∷ waits.needs in
      record {
        middle = waits.middle;
        between = waits.between;
        back = waits.back;
        given = waits.given;
        calls = waits.calls;
        answered = waits.answered;
        in_turn = waits.in_turn;
        newest = waits.newest;
        noted = waits.noted;
        later = λ call has newer. subst (λ (l : List Waiting). Contains l call) (sym calls) (waits.later call has newer);
        needs = needs;
        needed = All-cons (AreNeededBy e engine_is needs first waits.middle b moment) wants waits.needs
            (inr (record { before = a; tidy = tidy; is = is; fair = fair; keeps = λ at. ⊎_elim (λ same. inl same) (λ one. inr (wants, front wants waits.needs, one)) (keeps at) }))
            (All-weaker (AreNeededBy e engine_is waits.needs first waits.middle a moment) (AreNeededBy e engine_is needs first waits.middle b moment)
            (λ some need. ⊎_elim (λ by_call. inl (subst (λ (l : List Waiting). AreNeeded e engine_is (held_in waits.middle.cache.kept) (hint_in waits.middle.cache.hinted) moment l some) (sym calls) by_call))
            (λ of_tidy. inr (record { before = of_tidy.before; tidy = of_tidy.tidy; is = of_tidy.is; fair = of_tidy.fair; keeps = still_kept waits.needs wants of_tidy.before a b of_tidy.keeps keeps })) need) waits.needs waits.needed);
        wanted = wanted_then o node (IsInNeeds needs) waits.between between after (wanted_as o node (IsInNeeds waits.needs) (IsInNeeds needs) (λ at mode has. among_more wants waits.needs at mode has) waits.between between waits.wanted)
            (wanted_as o node (λ at mode. Contains wants (at, mode)) (IsInNeeds needs) (λ at mode has. among_needs wants waits.needs at mode has) between after wanted);
        causes = subst (λ (l : List Waiting). All (HasCause e engine_is waits.middle moment out waits.newest needs) l) (sym calls)
            (All-weaker (HasCause e engine_is waits.middle moment out waits.newest waits.needs) (HasCause e engine_is waits.middle moment out waits.newest needs) (more_causes waits.middle waits.newest waits.needs wants) a.calls.items waits.causes);
        left = ⊎_elim (λ some. inl some) (λ rest. inr (⊎_elim (λ none. inl none) (λ same. inr (calls ∙ same)) rest)) waits.left;
        asking = ⊎_elim (λ some. inl some) (λ all. inr (asks, each_on IsAsked IsAsked_then on waits.needs all)) waits.asking;
        keeps = ⊎_elim (λ some. inl some) (λ kept. inr (still_kept waits.needs wants waits.middle a b kept keeps)) waits.keeps;
      }

-- .. and where its record begins
pub sent_waits : {O E T : Type 0} (o : owners.Ghosts O) (e : engine.Ghosts E T) (engine_is : E) (node moment session : ℕ) (said : List Said) (before after : O) (out out_then : Option Sent) (IsAsked IsAsked_then : ℕ → Type 0) (first a b : Machine) → IsSome out_then → b.calls.items ≡ a.calls.items → b.cache ≡ a.cache
    → Waits o e engine_is node moment session said before after out IsAsked first a → Waits o e engine_is node moment session said before after out_then IsAsked_then first b
sent_waits o e engine_is node moment session said before after out out_then IsAsked IsAsked_then first a b some calls cache waits = record {
  middle = waits.middle;
  between = waits.between;
  back = waits.back;
  given = waits.given;
  calls = waits.calls;
  answered = waits.answered;
  in_turn = waits.in_turn;
  newest = waits.newest;
  noted = waits.noted;
  later = λ call has newer. subst (λ (l : List Waiting). Contains l call) (sym calls) (waits.later call has newer);
  needs = waits.needs;
  needed = needed_as e engine_is waits.needs first waits.middle moment a b calls cache waits.needed;
  wanted = waits.wanted;
  causes = λ k d less. Writes some;
  left = inl some;
  asking = inl some;
  keeps = inl some;
}

-- ---- nodes in their list

pub goes_there : (old middle new : Option Machine) → (middle ≡ None → ⊥) → IfSome old (λ a. IfSome middle (LeavesTidy a)) → IfSome middle (λ a. IfSome new (GoesBy a)) → IfSome old (λ a. IfSome new (GoesBy a))
goes_there old middle new some same goes = if_between old middle new LeavesTidy GoesBy GoesBy some same_goes same goes

-- .. of a node that notes what it is asked for, before and after
pub goes_asked : (asked : Option (ℕ × ℕ)) (old noted new : Option Machine) (a : Machine) → old ≡ Some a → noted ≡ Some (record a { mark = marked asked a }) → IfSome noted (λ b. IfSome new (GoesBy b)) → IfSome old (λ b. IfSome new (TidyGoes (IsSome asked) b))
goes_asked asked old noted new a was is goes =
    was_there (λ (m : Machine). IfSome new (TidyGoes (IsSome asked) m)) old a was
    (if_some new (GoesBy (record a { mark = marked asked a })) (TidyGoes (IsSome asked) a) (λ c. noted_goes asked a c) (of_there (λ (m : Machine). IfSome new (GoesBy m)) noted (record a { mark = marked asked a }) is goes))

pub goes_noted : (Asked : Type 0) (old middle new : Option Machine) (b : Machine) (mark : Option Mark) → middle ≡ Some b → new ≡ Some (record b { mark = mark }) → IfSome old (λ a. IfSome middle (TidyGoes Asked a)) → IfSome old (λ a. IfSome new (TidyGoes Asked a))
goes_noted Asked None middle new b mark was is goes = tt
goes_noted Asked (Some a) middle new b mark was is goes = was_there (TidyGoes Asked a) new (record b { mark = mark }) is (goes_same a b mark (of_there (TidyGoes Asked a) middle b was goes))

module _ (IsClean : ℕ → Type 0) (areas : ℕ) where
  -- what a tidy cleaned from one turn of its node to another
  abbrev pub Cleans : Machine → Machine → Type 0
  Cleans a b = CleansArea IsClean areas a.tidy b.tidy

  pub cleans_kept : (old new : Option Machine) → IfSome old (λ a. IfSome new (SameTidy a)) → IfSome old (λ a. IfSome new (Cleans a))
  cleans_kept old new same = if_both old new SameTidy Cleans (λ a b is. cleans_same IsClean areas a.tidy b.tidy is) same

  pub cleans_then : (old middle new : Option Machine) → (middle ≡ None → ⊥) → IfSome old (λ a. IfSome middle (SameTidy a)) → IfSome middle (λ a. IfSome new (Cleans a)) → IfSome old (λ a. IfSome new (Cleans a))
  cleans_then old middle new some same cleans = if_between old middle new SameTidy Cleans Cleans some (λ a b c is cleaned. subst (λ (t : Option Tidy). CleansArea IsClean areas t c.tidy) is cleaned) same cleans

  pub then_cleans : (old middle new : Option Machine) → (middle ≡ None → ⊥) → IfSome old (λ a. IfSome middle (Cleans a)) → IfSome middle (λ a. IfSome new (SameTidy a)) → IfSome old (λ a. IfSome new (Cleans a))
  then_cleans old middle new some cleans same = if_between old middle new Cleans SameTidy Cleans some (λ a b c cleaned is. subst (λ (t : Option Tidy). CleansArea IsClean areas a.tidy t) (sym is) cleaned) cleans same
