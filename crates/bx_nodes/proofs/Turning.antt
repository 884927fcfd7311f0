-- What a node waits for at the end of a turn.
use Rattle.std.proofs.Common.{◌≡◌, ◌⊎◌, ⊎_elim, ◌∙◌, inl, inr, Bool, ℕ, ◌+◌, ◌<◌, ◌≤◌, false, true, List, [], ◌∷◌, ◌++◌, length, Contains, All, Option, Some, None, IfSome, IsSome, refl, sym, ap, subst, arith}
use Rattle.std.specs.List.{AllByRecursion}
use Rattle.std.specs.Prelude.{IsSomeAnd}
use Rattle.std.proofs.lemmas.Bool.Decides.{nat_tests}
use Rattle.std.proofs.lemmas.List.{append_assoc, append-nil, length-append}
use Rattle.std.proofs.lemmas.List.Elements.{All-contains_itself, All-nil, All-weaker, Contains-append_left, Contains-append_right, Contains-push, Contains-push_cases, recursion_from_All}
use Rattle.bx_base.specs.declared.names.Mode.{Mode}
use Rattle.bx_facts.proofs.Lists.{nothing}
use Rattle.bx_facts.specs.Holds.{first_of}
use Rattle.bx_facts.specs.Writes.{Asked, Sent}
use Rattle.bx_node_cache.specs.Kept.{held_in, hint_in, kept_in}
use Rattle.bx_node_steps.specs.Calls.{IsAnswered}
use Rattle.bx_node_steps.specs.Changing.{TakesAnswer}
use Rattle.bx_node_steps.specs.Logging.{Closed, LogGoes, Rests, SendsClosing, SendsGate, SendsHomes, SendsShut}
use Rattle.bx_node_steps.specs.declared.machine.Stage.{Stage}
use Rattle.bx_node_steps.specs.declared.machine.Stage.TheVariants.{Idle}
use Rattle.bx_node_tries.specs.declared.round.Said.{Said}
use Rattle.bx_node_steps.specs.declared.machine.Machine.{Machine}
use Rattle.bx_node_tries.specs.Tries.{AllGo, AreNeeded, CallGoes, MayWait, is_newer}
use Rattle.bx_node_tries.specs.Tries.AllGo.{MoreGo, NoneGo}
use Rattle.bx_node_tries.specs.Tries.CallGoes.{Answered, Begins, Needs as Needing, Stays}
use Rattle.bx_node_tries.specs.Tries.MayWait.{Changes, Newer, Over as IsOver, Wants}
use Rattle.bx_node_steps.proofs.Order.{wait_still}
use Rattle.bx_node_tries.specs.declared.round.Begun.{Begun}
use Rattle.bx_node_tries.specs.declared.round.Round.{Round}
use Rattle.bx_node_tries.specs.declared.round.Waiting.{Waiting}
use Rattle.bx_nodes.specs.Asks.{KeepsUnneeded, OnlyHolds}
use Rattle.bx_nodes.specs.Going.{Settle}
use Rattle.bx_nodes.specs.Sending.{BeginsBy, IsSentBy, StepsLog}
use Rattle.bx_nodes.specs.declared.answers.Attempted.{Attempted}
use Rattle.bx_nodes.proofs.Machines.{count_waiting}
use Rattle.bx_records.specs.Runs.{KindAndRuns}
use Rattle.bx_nodes.proofs.Giving.{AreOf, gives_on, wanted_none}
use Rattle.bx_nodes.specs.Giving.{AreWanted, GivesBack, IsInNeeds}
use Rattle.bx_nodes.specs.Turns.{AreNeededBy, CameInTurn, HasCause, Waits, newest_of}
use Rattle.bx_nodes.specs.Turns.HasCause.{AskedBack, Needs, Over, Writes}
use Rattle.bx_facts.specs.declared.owners.Owners as owners
use Rattle.bx_places.specs.Places.{IsBlock, is_block}
use Rattle.bx_views.specs.Attempts.{IsFairNeed}
use Rattle.bx_views.specs.Truths.{Held, Hints}
use Rattle.bx_views.specs.declared.engine.Engine as engine

-- ---- calls that are answered wait no more

pushed : {A : Type 0} (items later : List A) (item : A) → later ≡ items ++ item ∷ [] → length later ≡ length items + 1
pushed items later item is = ap length is ∙ length-append items (item ∷ [])

one_goes : {newest : Option ℕ} (moment : ℕ) (call : Waiting) (old new : Round) → CallGoes newest moment call old new → length new.waiting.items + length new.said.items ≤ length old.waiting.items + length old.said.items + 1
one_goes moment call old new (Stays waits said begun needs) = let w = pushed old.waiting.items new.waiting.items call waits in let s = ap length said in omega (arith, w, s)
one_goes moment call old new (Needing wants waits said begun needs older) = let w = pushed old.waiting.items new.waiting.items call waits in let s = ap length said in omega (arith, w, s)
one_goes moment call old new (Answered one is said waits begun needs older attempted) = let s = pushed old.said.items new.said.items one said in let w = ap length waits in omega (arith, w, s)
one_goes moment call old new (Begins none begun said waits needs older attempted) = let s = ap length said in let w = ap length waits in omega (arith, w, s)

pub all_go : {newest : Option ℕ} (moment : ℕ) (calls : List Waiting) (old new : Round) → AllGo newest moment calls old new → length new.waiting.items + length new.said.items ≤ length old.waiting.items + length old.said.items + length calls
all_go moment calls old new (NoneGo round) = omega arith
all_go moment calls old new (MoreGo before call first middle last all goes) =
    let one = one_goes moment call middle last goes in
    let some = all_go moment before first middle all in
    let more = length-append before (call ∷ []) in
    omega (arith, one, some, more)

-- ---- blocks that are needed

tested : (areas at : ℕ) → is_block areas at ≡ true → IsBlock areas at
tested areas at is = record { area = grind (arith, nat_tests, is); slot = grind (arith, nat_tests, is) }

pub one_needs : (areas made : ℕ) (held : Held) (path : ℕ → Mode → Type 0) (wants : List (ℕ × Mode)) → areas ≡ made → IsFairNeed areas held path wants → AllByRecursion (λ wanted. IsBlock made wanted.0) wants
one_needs areas made held path wants same fair = recursion_from_All (λ (wanted : ℕ × Mode). IsBlock made wanted.0) wants
    (All-weaker (Contains wants) (λ (wanted : ℕ × Mode). IsBlock made wanted.0) (λ wanted has. subst (λ (n : ℕ). IsBlock n wanted.0) same (tested areas wanted.0 (fair.each wanted.0 wanted.1 has).0)) wants (All-contains_itself wants))

-- What calls need are blocks of the volume.
pub all_need : {E T : Type 0} (e : engine.Ghosts E T) (engine_is : E) (held : Held) (hints : Hints) (moment made : ℕ) (calls : List Waiting) (needs : List (List (ℕ × Mode))) → e.areas engine_is ≡ made
    → All (AreNeeded e engine_is held hints moment calls) needs → AllByRecursion (AllByRecursion (λ wanted. IsBlock made wanted.0)) needs
all_need e engine_is held hints moment made calls needs same all = recursion_from_All (AllByRecursion (λ (wanted : ℕ × Mode). IsBlock made wanted.0)) needs
    (All-weaker (AreNeeded e engine_is held hints moment calls) (AllByRecursion (λ (wanted : ℕ × Mode). IsBlock made wanted.0))
    (λ wants is. one_needs (e.areas engine_is) made held (e.path engine_is is.call.client is.call.message held hints) wants same is.tried.fair) needs all)

-- ---- calls that are attempted

settled_from : {newest : Option ℕ} (moment : ℕ) (calls : List Waiting) (old new : Round) → AllGo newest moment calls old new → (call : Waiting) → Contains new.waiting.items call → Contains old.waiting.items call ⊎ Contains calls call
settled_from moment calls old new (NoneGo round) call has = inl has
settled_from {newest = newest} moment calls old new (MoreGo before one first middle last all goes) call has = ⊎_elim
    (λ old_one. ⊎_elim (λ was. inl was) (λ more. inr (Contains-append_left before (one ∷ []) call more)) (settled_from moment before first middle all call old_one))
    (λ is. inr (subst (Contains (before ++ one ∷ [])) is (Contains-push before one)))
    (by goes)
  where
    pushed_on : last.waiting.items ≡ middle.waiting.items ++ one ∷ [] → Contains middle.waiting.items call ⊎ (one ≡ call)
    pushed_on is = Contains-push_cases middle.waiting.items one call (subst (λ (l : List Waiting). Contains l call) is has)

    by : CallGoes newest moment one middle last → Contains middle.waiting.items call ⊎ (one ≡ call)
    by (Stays waits said begun needs) = pushed_on waits
    by (Needing wants waits said begun needs older) = pushed_on waits
    by (Answered answer is said waits begun needs older attempted) = inl (subst (λ (l : List Waiting). Contains l call) waits has)
    by (Begins none begun said waits needs older attempted) = inl (subst (λ (l : List Waiting). Contains l call) waits has)

-- Where none is answered and none begins a record, all wait on.
settled_all : {newest : Option ℕ} (moment : ℕ) (calls : List Waiting) (old new : Round) → AllGo newest moment calls old new → new.said.items ≡ [] → new.begun ≡ None → new.waiting.items ≡ old.waiting.items ++ calls
settled_all moment calls old new (NoneGo round) said begun = sym (append-nil round.waiting.items)
settled_all {newest = newest} moment calls old new (MoreGo before one first middle last all goes) none_said none_begun = by (λ said begun. settled_all moment before first middle all said begun) goes
  where
    on : (middle.said.items ≡ [] → middle.begun ≡ None → middle.waiting.items ≡ first.waiting.items ++ before) → last.waiting.items ≡ middle.waiting.items ++ one ∷ [] → last.said.items ≡ middle.said.items → last.begun ≡ middle.begun
        → last.waiting.items ≡ first.waiting.items ++ (before ++ one ∷ [])
    on earlier waits said begun = waits ∙ ap (λ (l : List Waiting). l ++ one ∷ []) (earlier (sym said ∙ none_said) (sym begun ∙ none_begun)) ∙ append_assoc first.waiting.items before (one ∷ [])

    by : (middle.said.items ≡ [] → middle.begun ≡ None → middle.waiting.items ≡ first.waiting.items ++ before) → CallGoes newest moment one middle last → last.waiting.items ≡ first.waiting.items ++ (before ++ one ∷ [])
    by earlier (Stays waits said begun needs) = on earlier waits said begun
    by earlier (Needing wants waits said begun needs older) = on earlier waits said begun
    by earlier (Answered answer is said waits begun needs older attempted) = absurd (let e = ap (λ (l : List Said). length l) (sym said ∙ none_said) in let n = length-append middle.said.items (answer ∷ []) in omega (arith, e, n))
    by earlier (Begins none begun said waits needs older attempted) = absurd (subst (λ b. IsSomeAnd b (λ begins. begins.call ≡ one)) none_begun begun)

-- Where none begins a record, each waits on or is answered.
settled_each : {newest : Option ℕ} (moment : ℕ) (calls : List Waiting) (old new : Round) → AllGo newest moment calls old new → new.begun ≡ None → (call : Waiting) → Contains calls call → Contains new.waiting.items call ⊎ IsAnswered new.said.items call.number
settled_each moment calls old new (NoneGo round) none_begun call has = absurd (nothing call has)
settled_each {newest = newest} moment calls old new (MoreGo before one first middle last all goes) none_begun call has = by (λ begun before_it. settled_each moment before first middle all begun call before_it) goes
  where
    Earlier : Type 0
    Earlier = middle.begun ≡ None → Contains before call → Contains middle.waiting.items call ⊎ IsAnswered middle.said.items call.number

    on : Earlier → last.waiting.items ≡ middle.waiting.items ++ one ∷ [] → last.said.items ≡ middle.said.items → last.begun ≡ middle.begun → Contains last.waiting.items call ⊎ IsAnswered last.said.items call.number
    on earlier waits said begun = ⊎_elim
        (λ older. ⊎_elim (λ waiting. inl (subst (λ (l : List Waiting). Contains l call) (sym waits) (Contains-append_left middle.waiting.items (one ∷ []) call waiting)))
        (λ answered. inr (subst (λ (l : List Said). IsAnswered l call.number) (sym said) answered)) (earlier (sym begun ∙ none_begun) older))
        (λ is. inl (subst (λ (l : List Waiting). Contains l call) (sym waits) (subst (Contains (middle.waiting.items ++ one ∷ [])) is (Contains-push middle.waiting.items one))))
        (Contains-push_cases before one call has)

    by : Earlier → CallGoes newest moment one middle last → Contains last.waiting.items call ⊎ IsAnswered last.said.items call.number
    by earlier (Stays waits said begun needs) = on earlier waits said begun
    by earlier (Needing wants waits said begun needs older) = on earlier waits said begun
    by earlier (Answered answer is said waits begun needs older attempted) = ⊎_elim
        (λ older. ⊎_elim (λ waiting. inl (subst (λ (l : List Waiting). Contains l call) (sym waits) waiting))
        (λ answered. inr (record { one = answered.one; there = subst (λ (l : List Said). Contains l answered.one) (sym said) (Contains-append_left middle.said.items (answer ∷ []) answered.one answered.there); same = answered.same }))
        (earlier (sym begun ∙ none_begun) older))
        (λ same. inr (record { one = answer; there = subst (λ (l : List Said). Contains l answer) (sym said) (Contains-push middle.said.items answer); same = is.number ∙ ap (λ (w : Waiting). w.number) same }))
        (Contains-push_cases before one call has)
    by earlier (Begins none begun said waits needs older attempted) = absurd (subst (λ b. IsSomeAnd b (λ begins. begins.call ≡ one)) none_begun begun)

-- One that is newer than those that are attempted waits on.
settled_newer : {newest : Option ℕ} (moment : ℕ) (calls : List Waiting) (old new : Round) → AllGo newest moment calls old new → (call : Waiting) → Contains calls call → is_newer newest call.number ≡ true → Contains new.waiting.items call
settled_newer moment calls old new (NoneGo round) call has newer = absurd (nothing call has)
settled_newer {newest = newest} moment calls old new (MoreGo before one first middle last all goes) call has newer = by (λ before_it. settled_newer moment before first middle all call before_it newer) goes
  where
    Earlier : Type 0
    Earlier = Contains before call → Contains middle.waiting.items call

    pushed_on : Earlier → last.waiting.items ≡ middle.waiting.items ++ one ∷ [] → Contains last.waiting.items call
    pushed_on earlier waits = subst (λ (l : List Waiting). Contains l call) (sym waits) (⊎_elim
        (λ older. Contains-append_left middle.waiting.items (one ∷ []) call (earlier older))
        (λ is. subst (Contains (middle.waiting.items ++ one ∷ [])) is (Contains-push middle.waiting.items one)) (Contains-push_cases before one call has))

    is_older : Earlier → last.waiting.items ≡ middle.waiting.items → is_newer newest one.number ≡ false → Contains last.waiting.items call
    is_older earlier waits older = subst (λ (l : List Waiting). Contains l call) (sym waits) (⊎_elim earlier
        (λ is. absurd (let wrong = sym newer ∙ sym (ap (λ (w : Waiting). is_newer newest w.number) is) ∙ older in cc)) (Contains-push_cases before one call has))

    by : Earlier → CallGoes newest moment one middle last → Contains last.waiting.items call
    by earlier (Stays waits said begun needs) = pushed_on earlier waits
    by earlier (Needing wants waits said begun needs older) = pushed_on earlier waits
    by earlier (Answered answer is said waits begun needs older attempted) = is_older earlier waits older
    by earlier (Begins none begun said waits needs older attempted) = is_older earlier waits older

-- So at a node.
pub settles_of : {newest : Option ℕ} (moment : ℕ) (a b : Machine) (attempted : Attempted) → Settle newest moment (Some a) (Some b) attempted → AreOf a.calls.items b.calls.items
settles_of moment a b attempted settles call has = ⊎_elim
    (λ none. absurd (nothing call (subst (λ (l : List Waiting). Contains l call) settles.none.waiting none))) (λ is. is)
    (settled_from moment a.calls.items settles.first (record { said = attempted.said; waiting = b.calls; begun = attempted.begun; needs = attempted.needs }) settles.go call has)

pub settles_each : {newest : Option ℕ} (moment : ℕ) (a b : Machine) (attempted : Attempted) → Settle newest moment (Some a) (Some b) attempted → attempted.begun ≡ None → (call : Waiting) → Contains a.calls.items call → Contains b.calls.items call ⊎ IsAnswered attempted.said.items call.number
settles_each moment a b attempted settles none_begun =
    settled_each moment a.calls.items settles.first (record { said = attempted.said; waiting = b.calls; begun = attempted.begun; needs = attempted.needs }) settles.go none_begun

pub settles_all : {newest : Option ℕ} (moment : ℕ) (a b : Machine) (attempted : Attempted) → Settle newest moment (Some a) (Some b) attempted → attempted.said.items ≡ [] → attempted.begun ≡ None → b.calls.items ≡ a.calls.items
settles_all moment a b attempted settles none_said none_begun =
    settled_all moment a.calls.items settles.first (record { said = attempted.said; waiting = b.calls; begun = attempted.begun; needs = attempted.needs }) settles.go none_said none_begun
    ∙ ap (λ (l : List Waiting). l ++ a.calls.items) settles.none.waiting

pub settles_newer : {newest : Option ℕ} (moment : ℕ) (a b : Machine) (attempted : Attempted) → Settle newest moment (Some a) (Some b) attempted → (call : Waiting) → Contains a.calls.items call → is_newer newest call.number ≡ true → Contains b.calls.items call
settles_newer moment a b attempted settles =
    settled_newer moment a.calls.items settles.first (record { said = attempted.said; waiting = b.calls; begun = attempted.begun; needs = attempted.needs }) settles.go

-- Where one of them begins a record, those that waited behind the attempts still wait.
pub begins_still : (moment : ℕ) (begins : Begun) (own : Option ℕ) (until : ℕ) (out : Option Sent) (a b : Machine) → BeginsBy moment begins own until out a b → (call : Waiting) → Contains a.calls.items call → Contains b.calls.items call
begins_still moment begins own until out a b begun = wait_still begun.recording.waits a.calls.items b.calls.items begun.sends.begins.calls

pub none_said : (said : List Said) → length said ≡ 0 → said ≡ []
none_said [] is = refl
none_said (one ∷ said) is = absurd (omega (arith, is))

-- ---- why calls wait

-- an answer that is said behind others is said
said_later : (earlier later said : List Said) (number : ℕ) → said ≡ earlier ++ later → IsAnswered later number → IsAnswered said number
said_later earlier later said number is one = subst (λ (l : List Said). IsAnswered l number) (sym is) (record { one = one.one; there = Contains-append_right earlier later one.one one.there; same = one.same })

-- a node of which only what it has of blocks changed, with the calls that wait at it then
same_calls : (a b : Machine) → OnlyHolds a b → record a { calls = b.calls } ≡ a
same_calls a b only = ap (λ (m : Machine). record a { calls = m.calls }) only

module _ {O E T : Type 0} (o : owners.Ghosts O) (e : engine.Ghosts E T) (engine_is : E) (node moment session : ℕ) (said : List Said) (before between after : O) (back : List ℕ) (out : Option Sent) (IsAsked : ℕ → Type 0) (old given : Machine)
    (gives : GivesBack o node session back before old between given) (held : OnlyHolds old given) where
  first_calls : given.calls.items ≡ old.calls.items
  first_calls = ap (λ (m : Machine). m.calls.items) held

  first_given : GivesBack o node session back before (record old { calls = given.calls }) between given
  first_given = subst (λ (m : Machine). GivesBack o node session back before m between given) (sym (same_calls old given held)) gives

  -- A call that is newer than those that are attempted waits on.
  abbrev pub NewerWait : Option ℕ → Machine → Type 0
  NewerWait newest machine = (call : Waiting) → Contains given.calls.items call → is_newer newest call.number ≡ true → Contains machine.calls.items call

  -- A record begins.
  pub begun : (machine : Machine) (newest : Option ℕ) → newest ≡ newest_of (first_of (o.asks between node)) given → NewerWait newest machine → IsSome out → after ≡ between → Waits o e engine_is node moment session said before after out IsAsked old machine
  begun machine newest noted later some same = record {
    middle = given;
    between = between;
    back = back;
    given = first_given;
    calls = λ call has. subst (λ (l : List Waiting). Contains l call) first_calls has;
    answered = λ call has. inl (subst (λ (l : List Waiting). Contains l call) (sym first_calls) has);
    in_turn = λ call has. inl (subst (λ (l : List Waiting). Contains l call) (sym first_calls) has);
    newest = newest;
    noted = noted;
    later = later;
    needs = [];
    needed = All-nil (AreNeededBy e engine_is [] old given machine moment);
    wanted = wanted_none o node (IsInNeeds []) between after same;
    causes = λ k d less. Writes some;
    left = inl some;
    asking = inl some;
    keeps = inl some;
  }

  cause : (newest : Option ℕ) (needs : List (List (ℕ × Mode))) (call : Waiting) → MayWait e engine_is (held_in given.cache.kept) (hint_in given.cache.hinted) moment newest true needs call
      → HasCause e engine_is given moment out newest needs call
  cause newest needs call (IsOver is) = Over is
  cause newest needs call (Newer is) = AskedBack is
  cause newest needs call (Wants wants tried there) = Needs wants tried there
  cause newest needs call (Changes attempt may changes tried) = absurd cc

  -- Its calls were attempted, none began a record, and what they need was asked for.
  pub rested : (tried machine : Machine) (newest : Option ℕ) (needs : List (List (ℕ × Mode))) → newest ≡ newest_of (first_of (o.asks between node)) given
      → tried ≡ record given { calls = tried.calls } → NewerWait newest tried → (newest ≡ None) ⊎ (tried.calls.items ≡ given.calls.items) → OnlyHolds tried machine → KeepsUnneeded needs tried machine → AreWanted o node (IsInNeeds needs) between after
      → All (MayWait e engine_is (held_in tried.cache.kept) (hint_in tried.cache.hinted) moment newest true needs) tried.calls.items
      → All (AreNeeded e engine_is (held_in tried.cache.kept) (hint_in tried.cache.hinted) moment tried.calls.items) needs → AllByRecursion (AllByRecursion (λ wanted. IsAsked wanted.0)) needs
      → Waits o e engine_is node moment session said before after out IsAsked old machine
  rested tried machine newest needs noted attempted later left only keeps wanted waits needed asking =
      let calls : machine.calls.items ≡ tried.calls.items = ap (λ (m : Machine). m.calls.items) only in
      let cache : tried.cache ≡ given.cache = ap (λ (m : Machine). m.cache) attempted in
      record {
        middle = given;
        between = between;
        back = back;
        given = first_given;
        calls = λ call has. subst (λ (l : List Waiting). Contains l call) first_calls has;
        answered = λ call has. inl (subst (λ (l : List Waiting). Contains l call) (sym first_calls) has);
        in_turn = λ call has. inl (subst (λ (l : List Waiting). Contains l call) (sym first_calls) has);
        newest = newest;
        noted = noted;
        later = λ call has newer. subst (λ (l : List Waiting). Contains l call) (sym calls) (later call has newer);
        needs = needs;
        needed = All-weaker (AreNeeded e engine_is (held_in tried.cache.kept) (hint_in tried.cache.hinted) moment tried.calls.items) (AreNeededBy e engine_is needs old given machine moment)
            (λ wants need. inl (subst (λ (l : List Waiting). AreNeeded e engine_is (held_in given.cache.kept) (hint_in given.cache.hinted) moment l wants) (sym calls)
            (subst (λ k. AreNeeded e engine_is (held_in k.kept) (hint_in k.hinted) moment tried.calls.items wants) cache need))) needs needed;
        wanted = wanted;
        causes = subst (λ (l : List Waiting). All (HasCause e engine_is given moment out newest needs) l) (sym calls)
            (All-weaker _ (HasCause e engine_is given moment out newest needs)
            (λ call waits. cause newest needs call (subst (λ k. MayWait e engine_is (held_in k.kept) (hint_in k.hinted) moment newest true needs call) cache waits)) tried.calls.items waits);
        left = inr (⊎_elim (λ none. inl none) (λ same. inr (calls ∙ same)) left);
        asking = inr asking;
        keeps = inr (λ at. subst (λ k. (kept_in machine.cache.kept at ≡ kept_in k.kept at) ⊎ ((wants : List (ℕ × Mode)) × Contains needs wants × ((mode : Mode) × Contains wants (at, mode)))) cache (keeps at));
      }

  -- One that isn't newer than those that a block is kept for comes in its turn.
  comes : (newest : Option ℕ) → newest ≡ newest_of (first_of (o.asks between node)) given → (call : Waiting) → Contains given.calls.items call → is_newer newest call.number ≡ false → CameInTurn o node session said before old call
  comes newest noted call waited older = record {
    middle = given;
    between = between;
    back = back;
    given = first_given;
    calls = λ other has. subst (λ (l : List Waiting). Contains l other) first_calls has;
    answered = λ other has. inl (subst (λ (l : List Waiting). Contains l other) (sym first_calls) has);
    waited = waited;
    older = subst (λ (n : Option ℕ). is_newer n call.number ≡ false) noted older;
  }

  waits_or_comes : (newest : Option ℕ) (tried : Machine) → newest ≡ newest_of (first_of (o.asks between node)) given → NewerWait newest tried → (call : Waiting) → Contains given.calls.items call → (is : Bool) → is_newer newest call.number ≡ is
      → Contains tried.calls.items call ⊎ CameInTurn o node session said before old call
  waits_or_comes newest tried noted newer call there true is = inl (newer call there is)
  waits_or_comes newest tried noted newer call there false is = inr (comes newest noted call there is)

  -- They were attempted, and then it went on with a further round.
  module _ (earlier later : List Said) (tried : Machine) (is : said ≡ earlier ++ later) (attempted : tried ≡ record given { calls = tried.calls }) (of : AreOf given.calls.items tried.calls.items)
      (answered : (call : Waiting) → Contains given.calls.items call → Contains tried.calls.items call ⊎ IsAnswered earlier call.number) where
    calls_on : (middle : Machine) → AreOf tried.calls.items middle.calls.items → AreOf old.calls.items middle.calls.items
    calls_on middle few call has = subst (λ (l : List Waiting). Contains l call) first_calls (of call (few call has))

    given_on : (middle : Machine) (then : O) (more : List ℕ) → AreOf tried.calls.items middle.calls.items → GivesBack o node session more between (record tried { calls = middle.calls }) then middle
        → GivesBack o node session (back ++ more) before (record old { calls = middle.calls }) then middle
    given_on middle then more few given_more = gives_on o node session middle back more before between then old given middle gives (calls_on middle few)
        (subst (λ (m : Machine). GivesBack o node session more between m then middle) (ap (λ (m : Machine). record m { calls = middle.calls }) attempted) given_more)

    answered_on : (middle : Machine) → ((call : Waiting) → Contains tried.calls.items call → Contains middle.calls.items call ⊎ IsAnswered later call.number)
        → (call : Waiting) → Contains old.calls.items call → Contains middle.calls.items call ⊎ IsAnswered said call.number
    answered_on middle more call has = ⊎_elim (λ still. ⊎_elim (λ on. inl on) (λ one. inr (said_later earlier later said call.number is one)) (more call still))
        (λ one. inr (subst (λ (l : List Said). IsAnswered l call.number) (sym is) (record { one = one.one; there = Contains-append_left earlier later one.one one.there; same = one.same })))
        (answered call (subst (λ (l : List Waiting). Contains l call) (sym first_calls) has))

    came_on : (call : Waiting) → CameInTurn o node session later between tried call → CameInTurn o node session said before old call
    came_on call came = record {
      middle = came.middle;
      between = came.between;
      back = back ++ came.back;
      given = given_on came.middle came.between came.back came.calls came.given;
      calls = calls_on came.middle came.calls;
      answered = answered_on came.middle came.answered;
      waited = came.waited;
      older = came.older;
    }

    pub again : (machine : Machine) (newest : Option ℕ) → newest ≡ newest_of (first_of (o.asks between node)) given → NewerWait newest tried → Waits o e engine_is node moment session later between after out IsAsked tried machine
        → Waits o e engine_is node moment session said before after out IsAsked old machine
    again machine newest noted newer waits =
        let tidy : tried.tidy ≡ old.tidy = ap (λ (m : Machine). m.tidy) attempted ∙ ap (λ (m : Machine). m.tidy) held in
        record {
          middle = waits.middle;
          between = waits.between;
          back = back ++ waits.back;
          given = given_on waits.middle waits.between waits.back waits.calls waits.given;
          calls = calls_on waits.middle waits.calls;
          answered = answered_on waits.middle waits.answered;
          in_turn = λ call has. ⊎_elim (λ still. ⊎_elim (λ on. inl on) (λ came. inr (came_on call came)) (waits.in_turn call still)) (λ came. inr came)
              (waits_or_comes newest tried noted newer call (subst (λ (l : List Waiting). Contains l call) (sym first_calls) has) (is_newer newest call.number) refl);
          newest = waits.newest;
          noted = waits.noted;
          later = waits.later;
          needs = waits.needs;
          needed = All-weaker (AreNeededBy e engine_is waits.needs tried waits.middle machine moment) (AreNeededBy e engine_is waits.needs old waits.middle machine moment)
              (λ wants need. ⊎_elim (λ calls. inl calls)
              (λ of_tidy. inr (record { before = of_tidy.before; tidy = of_tidy.tidy; is = sym tidy ∙ of_tidy.is; fair = of_tidy.fair; keeps = of_tidy.keeps })) need) waits.needs waits.needed;
          wanted = waits.wanted;
          causes = waits.causes;
          left = waits.left;
          asking = waits.asking;
          keeps = waits.keeps;
        }

-- What was answered before counts too.
pub answered_more : {O E T : Type 0} (o : owners.Ghosts O) (e : engine.Ghosts E T) (engine_is : E) (node moment session : ℕ) (earlier later said : List Said) (before after : O) (out : Option Sent) (IsAsked : ℕ → Type 0) (first machine : Machine) → said ≡ earlier ++ later
    → Waits o e engine_is node moment session later before after out IsAsked first machine → Waits o e engine_is node moment session said before after out IsAsked first machine
answered_more o e engine_is node moment session earlier later said before after out IsAsked first machine is waits = record {
  middle = waits.middle;
  between = waits.between;
  back = waits.back;
  given = waits.given;
  calls = waits.calls;
  answered = λ call has. ⊎_elim (λ on. inl on) (λ one. inr (said_later earlier later said call.number is one)) (waits.answered call has);
  in_turn = λ call has. ⊎_elim (λ on. inl on)
      (λ came. inr (record {
        middle = came.middle;
        between = came.between;
        back = came.back;
        given = came.given;
        calls = came.calls;
        answered = λ other waited. ⊎_elim (λ on. inl on) (λ one. inr (said_later earlier later said other.number is one)) (came.answered other waited);
        waited = came.waited;
        older = came.older;
      })) (waits.in_turn call has);
  newest = waits.newest;
  noted = waits.noted;
  later = waits.later;
  needs = waits.needs;
  needed = waits.needed;
  wanted = waits.wanted;
  causes = waits.causes;
  left = waits.left;
  asking = waits.asking;
  keeps = waits.keeps;
}

-- ---- fewer calls wait

pub waiting_same : (old new : Option Machine) → (old ≡ None → ⊥) → (new ≡ None → ⊥) → IfSome old (λ a. IfSome new (OnlyHolds a)) → count_waiting new ≡ count_waiting old
waiting_same None new some some_then only = absurd (some refl)
waiting_same (Some a) None some some_then only = absurd (some_then refl)
waiting_same (Some a) (Some b) some some_then only = ap (λ (m : Machine). length m.calls.items) only

pub fewer_wait : (newest : Option ℕ) (moment : ℕ) (old new : Option Machine) (attempted : Attempted) → Settle newest moment old new attempted → 0 < length attempted.said.items → count_waiting new < count_waiting old
fewer_wait newest moment None new attempted settles some = absurd settles
fewer_wait newest moment (Some old) None attempted settles some = absurd settles
fewer_wait newest moment (Some old) (Some new) attempted settles some =
    let all = all_go moment old.calls.items settles.first _ settles.go in
    let said = ap length settles.none.said in
    let waits = ap length settles.none.waiting in
    omega (arith, all, said, waits, some)

-- what was sent is out
pub some_sent : (own : Option ℕ) (until : ℕ) (runs : KindAndRuns) (out : Option Sent) → IsSome own → IsSentBy own until (Some runs) out → IsSome out
some_sent None until runs out some sent = absurd cc
some_sent (Some session) until runs out some sent = subst (λ (o : Option Sent). IsSome o) (sym (sent session refl)) refl

-- ---- what a log's step leaves

-- Where no write is out behind it the log rests.
pub steps_rest : (own : Option ℕ) (until : ℕ) (out out_then : Option Sent) (old new : Machine) (said : Option Said) → IsSome own → StepsLog own until out out_then old new said → out_then ≡ None → new.stage ≡ Idle
steps_rest own until (Some write) out_then old new said some steps none = absurd (let h = sym steps.2 ∙ none in cc)
steps_rest own until None out_then old new said some (Some runs, goes, sent) none = absurd (let h = subst (λ (o : Option Sent). IsSome o) none (some_sent own until runs out_then some sent) in cc)
steps_rest own until None out_then old new said some (None, goes, sent) none = by None said refl goes
  where
    by : (runs : Option KindAndRuns) (said : Option Said) → runs ≡ None → LogGoes old new runs said → new.stage ≡ Idle
    by runs said nothing (Rests stage same) = ap (λ (m : Machine). m.stage) same ∙ stage
    by runs said nothing (SendsGate pending text point stage work same) = absurd (let h = nothing in cc)
    by runs said nothing (SendsHomes pending point stage work same volume commits homes) = absurd (let h = nothing in cc)
    by runs said nothing (SendsClosing stage same volume settles) = absurd (let h = nothing in cc)
    by runs said nothing (SendsShut stage work same) = absurd (let h = nothing in cc)
    by runs said nothing (Closed stage work same) = ap (λ (m : Machine). m.stage) same

-- .. and nothing changed but the log.
pub steps_only : (own : Option ℕ) (until : ℕ) (out out_then : Option Sent) (old new : Machine) (said : Option Said) → IsSome own → StepsLog own until out out_then old new said → out_then ≡ None → new ≡ record old { log = new.log; stage = Idle }
steps_only own until (Some write) out_then old new said some steps none = absurd (let h = sym steps.2 ∙ none in cc)
steps_only own until None out_then old new said some (Some runs, goes, sent) none = absurd (let h = subst (λ (o : Option Sent). IsSome o) none (some_sent own until runs out_then some sent) in cc)
steps_only own until None out_then old new said some (None, goes, sent) none = by None said refl goes
  where
    by : (runs : Option KindAndRuns) (said : Option Said) → runs ≡ None → LogGoes old new runs said → new ≡ record old { log = new.log; stage = Idle }
    by runs said nothing_sent (Rests stage same) = same ∙ ap (λ (s : Stage). record old { stage = s }) stage ∙ ap (λ (m : Machine). record old { log = m.log; stage = Idle }) (sym same)
    by runs said nothing_sent (SendsGate pending text point stage work same) = absurd (let h = nothing_sent in cc)
    by runs said nothing_sent (SendsHomes pending point stage work same volume commits homes) = absurd (let h = nothing_sent in cc)
    by runs said nothing_sent (SendsClosing stage same volume settles) = absurd (let h = nothing_sent in cc)
    by runs said nothing_sent (SendsShut stage work same) = absurd (let h = nothing_sent in cc)
    by runs said nothing_sent (Closed stage work same) = same ∙ ap (λ (m : Machine). record old { log = m.log; stage = Idle }) (sym same)

pub rest_there : (own : Option ℕ) (until : ℕ) (out out_then : Option Sent) (old new : Option Machine) (said : Option Said) → IsSome own → (old ≡ None → ⊥) → IfSome old (λ a. IfSome new (λ b. StepsLog own until out out_then a b said)) → out_then ≡ None → IfSome new (λ b. b.stage ≡ Idle)
rest_there own until out out_then None new said some_own some steps none = absurd (some refl)
rest_there own until out out_then (Some a) None said some_own some steps none = tt
rest_there own until out out_then (Some a) (Some b) said some_own some steps none = steps_rest own until out out_then a b said some_own steps none

-- A step of the log is one under the same session.
pub steps_under : (own : Option ℕ) (until : ℕ) (out out_then : Option Sent) (old new : Machine) (said : Option Said) → StepsLog own until out out_then old new said → new.session ≡ old.session
steps_under own until (Some write) out_then old new said steps = ap (λ (m : Machine). m.session) steps.0
steps_under own until None out_then old new said (runs, goes, sent) = by runs said goes
  where
    by : (runs : Option KindAndRuns) (said : Option Said) → LogGoes old new runs said → new.session ≡ old.session
    by runs said (Rests stage same) = ap (λ (m : Machine). m.session) same
    by runs said (SendsGate pending text point stage work same) = ap (λ (m : Machine). m.session) same
    by runs said (SendsHomes pending point stage work same volume commits homes) = ap (λ (m : Machine). m.session) same
    by runs said (SendsClosing stage same volume settles) = ap (λ (m : Machine). m.session) same
    by runs said (SendsShut stage work same) = ap (λ (m : Machine). m.session) same
    by runs said (Closed stage work same) = ap (λ (m : Machine). m.session) same

pub under_there : (own : Option ℕ) (until : ℕ) (out out_then : Option Sent) (old new : Option Machine) (said : Option Said) (session : ℕ) → (old ≡ None → ⊥) → IfSome old (λ a. IfSome new (λ b. StepsLog own until out out_then a b said))
    → IfSome old (λ a. a.session ≡ Some session) → IfSome new (λ b. b.session ≡ Some session)
under_there own until out out_then None new said session some steps mine = absurd (some refl)
under_there own until out out_then (Some a) None said session some steps mine = tt
under_there own until out out_then (Some a) (Some b) said session some steps mine = steps_under own until out out_then a b said steps ∙ mine

-- and so is what has come of a read
pub takes_under : (answer : Option (List ℕ)) (asked : Option Asked) (old new : Machine) → TakesAnswer answer asked old new → new.session ≡ old.session
takes_under None None old new takes = ap (λ (m : Machine). m.session) takes
takes_under None (Some asks) old new takes = ap (λ (m : Machine). m.session) takes
takes_under (Some bytes) asked old new takes = ap (λ (m : Machine). m.session) takes.only

pub taken_under : (answer : Option (List ℕ)) (asked : Option Asked) (old new : Option Machine) (session : ℕ) → (old ≡ None → ⊥) → IfSome old (λ a. IfSome new (TakesAnswer answer asked a)) → IfSome old (λ a. a.session ≡ Some session) → IfSome new (λ b. b.session ≡ Some session)
taken_under answer asked None new session some takes mine = absurd (some refl)
taken_under answer asked (Some a) None session some takes mine = tt
taken_under answer asked (Some a) (Some b) session some takes mine = takes_under answer asked a b takes ∙ mine
