-- Calls that are attempted, and the record that one begins.
use Rattle.std.proofs.Common.{◌≡◌, ◌≢◌, ◌⊎◌, ◌∙◌, ⊎_elim, inl, inr, ℕ, ◌<◌, Bool, false, true, List, [], ◌∷◌, ◌++◌, Contains, Option, Some, None, IfSome, refl, sym, ap, subst, arith}
use Rattle.std.specs.Prelude.{◌&&◌, IsSomeAnd, nat_lt, not}
use Rattle.std.proofs.lemmas.List.{append-nil}
use Rattle.std.proofs.lemmas.List.Elements.{Contains-append_left, Contains-push, Contains-push_cases}
use Rattle.bx_base.specs.declared.names.Point.{Point}
use Rattle.bx_facts.proofs.Lists.{nothing}
use Rattle.bx_node_steps.specs.Calls.{Acting, ActsAt, Answers, AreInOrder, AreToOthers, CallOf, IsAmong, IsAnswered, IsThat, MayAct, acting_of, acting_said, call_of, call_written}
use Rattle.bx_node_steps.specs.Logging.{IsPutBack, IsRecordingOf, WaitsOn}
use Rattle.bx_node_steps.specs.declared.machine.Stage.TheVariants as stages
use Rattle.bx_node_steps.specs.declared.recording.Recording.{Recording}
use Rattle.bx_node_steps.proofs.Answering.{AnswersFrom, AreNumbered, IsOther, answers_on, begins_one, others_append, then_as}
use Rattle.bx_node_steps.proofs.Order.{among_put, behind_all, may_put, order_front, order_last, put_among, put_in_order}
use Rattle.bx_node_tries.specs.Tries.{AllGo, AreNone, CallGoes, IsAnswerTo, is_attempted}
use Rattle.bx_node_tries.specs.Tries.AllGo.{MoreGo, NoneGo}
use Rattle.bx_node_tries.specs.Tries.CallGoes.{Answered, Begins, Needs, Stays}
use Rattle.bx_node_tries.specs.declared.round.Begun.{Begun}
use Rattle.bx_node_tries.specs.declared.round.Round.{Round}
use Rattle.bx_node_tries.specs.declared.round.Said.{Said}
use Rattle.bx_node_tries.specs.declared.round.Waiting.{Waiting}
use Rattle.bx_views.specs.declared.attempt.Attempt.{Attempt}
use Rattle.bx_views.specs.declared.attempt.Attempt.TheVariants as attempts

-- Calls were attempted, in their order: each waits on, begins the record, or is answered, and is one of these alone.
pub record Went (moment : ℕ) (calls waiting : List Waiting) (said : List Said) (begun : Option Begun) : Type 0 where
  pub waiting_from : (one : Waiting) → Contains waiting one → Contains calls one
  pub said_from : (answer : Said) → Contains said answer → (one : Waiting) × Contains calls one × IsAnswerTo moment one answer
  pub said_still : (answer : Said) → Contains said answer → MayAct calls answer.point.call
  pub begun_from : IfSome begun (λ begins. Contains calls begins.call)
  pub begun_still : IfSome begun (λ begins. begins.call.is_over ≡ false)
  pub each : (one : Waiting) → Contains calls one → (Contains waiting one ⊎ IsSomeAnd begun (λ begins. begins.call ≡ one)) ⊎ ((answer : Said) × Contains said answer × IsAnswerTo moment one answer)
  pub said_apart : (answer : Said) (one : Waiting) → Contains said answer → Contains waiting one → answer.point.call ≢ one.number
  pub begun_apart : IfSome begun (λ begins. (one : Waiting) → Contains waiting one → one.number ≢ begins.call.number)
  pub begun_said : IfSome begun (λ begins. (answer : Said) → Contains said answer → answer.point.call ≢ begins.call.number)
  pub once : AreToOthers said
  pub order : AreInOrder waiting

none_went : (moment : ℕ) → Went moment [] [] [] None
none_went moment = record {
  waiting_from = λ one there. there;
  said_from = λ answer there. absurd (nothing answer there);
  said_still = λ answer there. absurd (nothing answer there);
  begun_from = tt;
  begun_still = tt;
  each = λ one there. absurd (nothing one there);
  said_apart = λ answer one there has. absurd (nothing one has);
  begun_apart = tt;
  begun_said = tt;
  once = tt;
  order = tt;
}

-- what is said of a call that begins the record, where there is one
if_begun : (begun : Option Begun) (P Q : Begun → Type 0) → ((begins : Begun) → begun ≡ Some begins → P begins → Q begins) → IfSome begun P → IfSome begun Q
if_begun None P Q leads is = tt
if_begun (Some begins) P Q leads is = leads begins refl is

module _ (moment : ℕ) (calls waiting : List Waiting) (said : List Said) (call : Waiting) (below : (one : Waiting) → Contains calls one → one.number < call.number) where
  module _ (begun : Option Begun) (went : Went moment calls waiting said begun) where
    more : (one : Waiting) → Contains calls one → Contains (calls ++ call ∷ []) one
    more one there = Contains-append_left calls (call ∷ []) one there

    may_more : (number : ℕ) → MayAct calls number → MayAct (calls ++ call ∷ []) number
    may_more number may = record { one = may.one; there = more may.one may.there; same = may.same; still = may.still }

    said_below : (answer : Said) → Contains said answer → answer.point.call < call.number
    said_below answer there = let from = went.said_from answer there in let less = below from.0 from.1 in let same = from.2.number in omega (arith, less, same)

    stays : Went moment (calls ++ call ∷ []) (waiting ++ call ∷ []) said begun
    stays = record {
      waiting_from = λ one there. ⊎_elim (λ old. more one (went.waiting_from one old)) (λ same. subst (Contains (calls ++ call ∷ [])) same (Contains-push calls call)) (Contains-push_cases waiting call one there);
      said_from = λ answer there. let from = went.said_from answer there in (from.0, more from.0 from.1, from.2);
      said_still = λ answer there. may_more answer.point.call (went.said_still answer there);
      begun_from = if_begun begun _ _ (λ begins is there. more begins.call there) went.begun_from;
      begun_still = went.begun_still;
      each = λ one there. ⊎_elim
          (λ old. ⊎_elim (λ on. ⊎_elim (λ waits. inl (inl (Contains-append_left waiting (call ∷ []) one waits))) (λ begins. inl (inr begins)) on) (λ answered. inr answered) (went.each one old))
          (λ same. inl (inl (subst (Contains (waiting ++ call ∷ [])) same (Contains-push waiting call)))) (Contains-push_cases calls call one there);
      said_apart = λ answer one there has. ⊎_elim (λ old. went.said_apart answer one there old)
          (λ same e. let less = said_below answer there in let n : call.number ≡ one.number = ap (λ (w : Waiting). w.number) same in omega (arith, less, n, e)) (Contains-push_cases waiting call one has);
      begun_apart = apart begun went.begun_from went.begun_apart;
      begun_said = went.begun_said;
      once = went.once;
      order = behind_all call waiting (λ one there. below one (went.waiting_from one there)) went.order;
    }
      where
        apart : (begins : Option Begun) → IfSome begins (λ b. Contains calls b.call) → IfSome begins (λ b. (one : Waiting) → Contains waiting one → one.number ≢ b.call.number) → IfSome begins (λ b. (one : Waiting) → Contains (waiting ++ call ∷ []) one → one.number ≢ b.call.number)
        apart None from is = tt
        apart (Some b) from is = λ one there. ⊎_elim (λ old. is one old) (λ same e. let less = below b.call from in let n : call.number ≡ one.number = ap (λ (w : Waiting). w.number) same in omega (arith, less, n, e)) (Contains-push_cases waiting call one there)

    answers : (answer : Said) → IsAnswerTo moment call answer → call.is_over ≡ false → Went moment (calls ++ call ∷ []) waiting (said ++ answer ∷ []) begun
    answers answer is not_over = record {
      waiting_from = λ one there. more one (went.waiting_from one there);
      said_from = λ other there. ⊎_elim (λ old. let from = went.said_from other old in (from.0, more from.0 from.1, from.2))
          (λ same. (call, Contains-push calls call, subst (IsAnswerTo moment call) same is)) (Contains-push_cases said answer other there);
      said_still = λ other there. ⊎_elim (λ old. may_more other.point.call (went.said_still other old))
          (λ same. record { one = call; there = Contains-push calls call; same = sym is.number ∙ ap (λ (s : Said). s.point.call) same; still = not_over }) (Contains-push_cases said answer other there);
      begun_from = if_begun begun _ _ (λ begins it there. more begins.call there) went.begun_from;
      begun_still = went.begun_still;
      each = λ one there. ⊎_elim
          (λ old. ⊎_elim (λ on. inl on) (λ answered. inr (answered.0, Contains-append_left said (answer ∷ []) answered.0 answered.1, answered.2)) (went.each one old))
          (λ same. inr (answer, Contains-push said answer, subst (λ (w : Waiting). IsAnswerTo moment w answer) same is)) (Contains-push_cases calls call one there);
      said_apart = λ other one there has. ⊎_elim (λ old. went.said_apart other one old has)
          (λ same e. let less = below one (went.waiting_from one has) in let n : answer.point.call ≡ other.point.call = ap (λ (s : Said). s.point.call) same in let m = is.number in omega (arith, less, n, m, e)) (Contains-push_cases said answer other there);
      begun_apart = went.begun_apart;
      begun_said = apart begun went.begun_from went.begun_said;
      once = others_append said (answer ∷ []) went.once ((λ other there. absurd (nothing other there)), tt)
          (λ one other there has e. let less = said_below one there in
          ⊎_elim (λ none. nothing other none) (λ same. let n : answer.point.call ≡ other.point.call = ap (λ (s : Said). s.point.call) same in let m = is.number in omega (arith, less, n, m, e)) (Contains-push_cases [] answer other has));
      order = went.order;
    }
      where
        apart : (begins : Option Begun) → IfSome begins (λ b. Contains calls b.call) → IfSome begins (λ b. (other : Said) → Contains said other → other.point.call ≢ b.call.number) → IfSome begins (λ b. (other : Said) → Contains (said ++ answer ∷ []) other → other.point.call ≢ b.call.number)
        apart None from it = tt
        apart (Some b) from it = λ other there. ⊎_elim (λ old. it other old)
            (λ same e. let less = below b.call from in let n : answer.point.call ≡ other.point.call = ap (λ (s : Said). s.point.call) same in let m = is.number in omega (arith, less, n, m, e)) (Contains-push_cases said answer other there)

  begins_it : (begins : Begun) → begins.call ≡ call → call.is_over ≡ false → Went moment calls waiting said None → Went moment (calls ++ call ∷ []) waiting said (Some begins)
  begins_it begins is not_over went = record {
    waiting_from = λ one there. more None went one (went.waiting_from one there);
    said_from = λ answer there. let from = went.said_from answer there in (from.0, more None went from.0 from.1, from.2);
    said_still = λ answer there. may_more None went answer.point.call (went.said_still answer there);
    begun_from = subst (Contains (calls ++ call ∷ [])) (sym is) (Contains-push calls call);
    begun_still = ap (λ (w : Waiting). w.is_over) is ∙ not_over;
    each = λ one there. ⊎_elim (λ old. ⊎_elim (λ on. ⊎_elim (λ waits. inl (inl waits)) (λ none. absurd none) on) (λ answered. inr answered) (went.each one old)) (λ same. inl (inr (is ∙ same))) (Contains-push_cases calls call one there);
    said_apart = went.said_apart;
    begun_apart = λ one there e. let less = below one (went.waiting_from one there) in let n : begins.call.number ≡ call.number = ap (λ (w : Waiting). w.number) is in omega (arith, less, n, e);
    begun_said = λ answer there e. let less = said_below None went answer there in let n : begins.call.number ≡ call.number = ap (λ (w : Waiting). w.number) is in omega (arith, less, n, e);
    once = went.once;
    order = went.order;
  }

-- the lists of a round
went_as : (moment : ℕ) (calls : List Waiting) (waiting waiting_then : List Waiting) (said said_then : List Said) (begun begun_then : Option Begun) → waiting_then ≡ waiting → said_then ≡ said → begun_then ≡ begun → Went moment calls waiting said begun → Went moment calls waiting_then said_then begun_then
went_as moment calls waiting waiting_then said said_then begun begun_then same_waiting same_said same_begun went =
    subst (λ (l : List Waiting). Went moment calls l said_then begun_then) (sym same_waiting)
    (subst (λ (l : List Said). Went moment calls waiting l begun_then) (sym same_said) (subst (λ (b : Option Begun). Went moment calls waiting said b) (sym same_begun) went))

-- a call that is attempted isn't over
not_over : (call : Waiting) → is_attempted call ≡ true → call.is_over ≡ false
not_over call is = by call.is_over refl is
  where
    by : (b : Bool) → call.is_over ≡ b → (not b && nat_lt call.inners 200000) ≡ true → call.is_over ≡ false
    by false same more = same
    by true same more = cc

one_goes : {newest : Option ℕ} (moment : ℕ) (calls : List Waiting) (call : Waiting) (old new : Round) → ((one : Waiting) → Contains calls one → one.number < call.number) → Went moment calls old.waiting.items old.said.items old.begun → CallGoes newest moment call old new
    → Went moment (calls ++ call ∷ []) new.waiting.items new.said.items new.begun
one_goes moment calls call old new below went (Stays waits said begun needs) = went_as moment _ _ _ _ _ _ _ waits said begun (stays moment calls old.waiting.items old.said.items call below old.begun went)
one_goes moment calls call old new below went (Needs wants waits said begun needs older) = went_as moment _ _ _ _ _ _ _ waits said begun (stays moment calls old.waiting.items old.said.items call below old.begun went)
one_goes moment calls call old new below went (Answered answer is said waits begun needs older attempted) = went_as moment _ _ _ _ _ _ _ waits said begun (answers moment calls old.waiting.items old.said.items call below old.begun went answer is (not_over call attempted))
one_goes moment calls call old new below went (Begins none begun said waits needs older attempted) = by new.begun refl begun
  where
    by : (found : Option Begun) → new.begun ≡ found → IsSomeAnd found (λ begins. begins.call ≡ call) → Went moment (calls ++ call ∷ []) new.waiting.items new.said.items new.begun
    by None is wrong = absurd wrong
    by (Some begins) is same = went_as moment _ _ _ _ _ _ _ waits said is
        (begins_it moment calls old.waiting.items old.said.items call below begins same (not_over call attempted) (subst (λ (b : Option Begun). Went moment calls old.waiting.items old.said.items b) none went))

pub all_went : {newest : Option ℕ} (moment : ℕ) (calls : List Waiting) (first round : Round) → AreNone first → AreInOrder calls → AllGo newest moment calls first round → Went moment calls round.waiting.items round.said.items round.begun
all_went moment calls first round none order (NoneGo same) = went_as moment _ _ _ _ _ _ _ none.waiting none.said none.begun (none_went moment)
all_went moment calls first round none order (MoreGo before call from middle last all goes) =
    one_goes moment before call middle last (order_last before call order) (all_went moment before from middle none (order_front before call order) all) goes

-- ---- a node

-- it is the call that begins the record
abbrev pub IsBegun : Option Begun → CallOf → Type 0
IsBegun None call = ⊥
IsBegun (Some begins) call = call_of begins.call ≡ call

-- those that wait once calls were attempted, and that which begins the record
abbrev pub StillWaits : List Waiting → Option Waiting → Option Begun → CallOf → Type 0
StillWaits waiting written begun call = (IsAmong waiting call ⊎ IsThat written call) ⊎ IsBegun begun call

-- an answer to a call has it
said_call : (moment : ℕ) (one : Waiting) (answer : Said) → IsAnswerTo moment one answer → call_of one ≡ (acting_said answer).call
said_call moment one answer is =
    ap (λ (n : ℕ). record { number = n; client = one.client; bytes = one.message }) (sym is.number)
    ∙ ap (λ (n : ℕ). record { number = answer.point.call; client = n; bytes = one.message }) (sym is.client)
    ∙ ap (λ (l : List ℕ). record { number = answer.point.call; client = answer.client; bytes = l }) (sym is.bytes)

module _ (moment : ℕ) (calls waiting : List Waiting) (said : List Said) (begun : Option Begun) (went : Went moment calls waiting said begun) (written : Option Waiting) (other : IsOther calls written) (point : Option Point) (numbered : AreNumbered written point) where
  was_begun : (call : CallOf) → IsBegun begun call → IsAmong calls call
  was_begun call is = by begun went.begun_from is
    where
      by : (b : Option Begun) → IfSome b (λ begins. Contains calls begins.call) → IsBegun b call → IsAmong calls call
      by None from it = absurd it
      by (Some begins) from it = record { one = begins.call; there = from; same = it }

  not_begun : (call : CallOf) → IsBegun begun call → IsAnswered said call.number → ⊥
  not_begun call is answered = by begun went.begun_said is
    where
      by : (b : Option Begun) → IfSome b (λ begins. (answer : Said) → Contains said answer → answer.point.call ≢ begins.call.number) → IsBegun b call → ⊥
      by None from it = it
      by (Some begins) from it = from answered.one answered.there (answered.same ∙ sym (ap (λ (c : CallOf). c.number) it))

  not_written : (call : CallOf) → IsThat written call → IsAnswered said call.number → ⊥
  not_written call is answered = by written other is
    where
      by : (w : Option Waiting) → IsOther calls w → IsThat w call → ⊥
      by None from it = it
      by (Some one) from it = let asked = went.said_from answered.one answered.there in from asked.0 asked.1 (sym asked.2.number ∙ answered.same ∙ sym (ap (λ (c : CallOf). c.number) it))

  at_points : (answer : Said) → Contains said answer → ActsAt moment (acting_of written point) (acting_said answer)
  at_points answer there = by written point other
    where
      asked : (one : Waiting) × Contains calls one × IsAnswerTo moment one answer
      asked = went.said_from answer there

      by : (w : Option Waiting) (p : Option Point) → IsOther calls w → ActsAt moment (acting_of w p) (acting_said answer)
      by None p from = asked.2.when
      by (Some one) None from = asked.2.when
      by (Some one) (Some p) from = inr (asked.2.when, λ same. from asked.0 asked.1 (sym asked.2.number ∙ same))

  still_waits : (call : CallOf) → StillWaits waiting written begun call → IsAmong calls call ⊎ IsThat written call
  still_waits call waits = ⊎_elim (λ on. ⊎_elim (λ among. inl (record { one = among.one; there = went.waiting_from among.one among.there; same = among.same })) (λ that. inr that) on) (λ is. inl (was_begun call is)) waits

  not_answered : (call : CallOf) → StillWaits waiting written begun call → IsAnswered said call.number → ⊥
  not_answered call waits answered = ⊎_elim
      (λ on. ⊎_elim (λ among. went.said_apart answered.one among.one answered.there among.there (answered.same ∙ sym (ap (λ (c : CallOf). c.number) among.same))) (λ that. not_written call that answered) on)
      (λ is. not_begun call is answered) waits

  waits_still : (call : CallOf) → IsAmong calls call ⊎ IsThat written call → (IsAnswered said call.number → ⊥) → StillWaits waiting written begun call
  waits_still call was not = ⊎_elim
      (λ among. ⊎_elim (λ on. ⊎_elim (λ waits. inl (inl (record { one = among.one; there = waits; same = among.same }))) (λ begins. inr (by begun among.one begins among.same)) on)
      (λ answered. absurd (not (record { one = answered.0; there = answered.1; same = answered.2.number ∙ ap (λ (c : CallOf). c.number) among.same }))) (went.each among.one among.there))
      (λ that. inl (inr that)) was
    where
      by : (b : Option Begun) (one : Waiting) → IsSomeAnd b (λ begins. begins.call ≡ one) → call_of one ≡ call → IsBegun b call
      by None one it same = absurd it
      by (Some begins) one it same = ap call_of it ∙ same

  -- Calls were attempted.
  pub tried : Answers moment (λ (c : CallOf). IsAmong calls c ⊎ IsThat written c) (acting_of written point) (StillWaits waiting written begun) (acting_of written point) said
  tried = record {
    waited = λ answer there. let from = went.said_from answer there in inl (record { one = from.0; there = from.1; same = said_call moment from.0 answer from.2 });
    points = at_points;
    once = went.once;
    left = λ call. ((λ waits. (still_waits call waits, not_answered call waits)), (λ was. waits_still call was.0 was.1));
    goes = goes_on (acting_of written point);
    begun = on (acting_of written point);
    waits = has written point numbered;
  }
    where
      goes_on : (a : Option Acting) → IfSome a (λ acts. (a ≡ Some acts) ⊎ IsAnswered said acts.call.number)
      goes_on None = tt
      goes_on (Some acts) = inl refl

      on : (a : Option Acting) → IfSome a (ActsAt moment a)
      on None = tt
      on (Some acts) = inl refl

      has : (w : Option Waiting) (p : Option Point) → AreNumbered w p → IfSome (acting_of w p) (λ acts. StillWaits waiting w begun acts.call × (acts.point.call ≡ acts.call.number))
      has None p is = tt
      has (Some one) None is = tt
      has (Some one) (Some p) is = (inl (inr refl), is)

-- None began a record.
pub tried_none : (moment : ℕ) (calls waiting : List Waiting) (said : List Said) → Went moment calls waiting said None → (written : Option Waiting) → IsOther calls written → (point : Option Point) → AreNumbered written point
    → AnswersFrom moment calls written (acting_of written point) waiting written (acting_of written point) said
tried_none moment calls waiting said went written other point numbered =
    then_as moment _ (StillWaits waiting written None) _ (acting_of written point) (acting_of written point) said (λ call. ((λ waits. inl waits), (λ waits. ⊎_elim (λ on. on) (λ none. absurd none) waits))) (tried moment calls waiting said None went written other point numbered)

-- One began a record.
module _ (moment : ℕ) (calls waiting : List Waiting) (said : List Said) (begins : Begun) (went : Went moment calls waiting said (Some begins)) (later : List Waiting) where
  -- what comes of the calls, by the record
  pub record Begun_by (recording : Recording) : Type 0 where
    pub answers : AnswersFrom moment calls None None later (call_written (stages.Records recording.pending)) (acting_of (call_written (stages.Records recording.pending)) (Some recording.point)) said
    pub order : AreInOrder later
    pub other : IsOther later (call_written (stages.Records recording.pending))
    pub may : (number : ℕ) → MayAct later number → MayAct calls number
    pub writes : (one : Waiting) → call_written (stages.Records recording.pending) ≡ Some one → MayAct calls one.number

  behind_it : (written : Option Waiting) (under : Option Acting) → ((call : CallOf) → ((IsAmong later call ⊎ IsThat written call) → StillWaits waiting None (Some begins) call) × (StillWaits waiting None (Some begins) call → IsAmong later call ⊎ IsThat written call))
      → IfSome under (λ acts. acts.point.moment ≡ moment) → IfSome under (λ acts. (IsAmong later acts.call ⊎ IsThat written acts.call) × (acts.point.call ≡ acts.call.number)) → AnswersFrom moment calls None None later written under said
  behind_it written under same now waits =
      subst (λ (l : List Said). AnswersFrom moment calls None None later written under l) (append-nil said)
      (answers_on moment _ None (StillWaits waiting None (Some begins)) None _ under said [] (tried moment calls waiting said (Some begins) went None tt None tt)
      (begins_one moment (StillWaits waiting None (Some begins)) (λ (c : CallOf). IsAmong later c ⊎ IsThat written c) same under now waits))

  pub begun_by : (recording : Recording) → IsRecordingOf moment begins.call begins.attempt recording → WaitsOn recording.waits waiting later → Begun_by recording
  begun_by recording asks waits = by begins.attempt asks
    where
      waited : (number : ℕ) → MayAct waiting number → MayAct calls number
      waited number may = record { one = may.one; there = went.waiting_from may.one may.there; same = may.same; still = may.still }

      by : (attempt : Attempt) → IsRecordingOf moment begins.call attempt recording → Begun_by recording
      by (attempts.Need wants) is = absurd is
      by (attempts.Change draft done) is =
          let same : later ≡ waiting = subst (λ (r : Recording). WaitsOn r.waits waiting later) is waits in
          subst Begun_by (sym is) (record {
            answers = behind_it (Some begins.call) _
                (λ call. (
                  (λ there. ⊎_elim (λ among. inl (inl (subst (λ (l : List Waiting). IsAmong l call) same among))) (λ that. inr that) there),
                  (λ there. ⊎_elim (λ on. ⊎_elim (λ among. inl (subst (λ (l : List Waiting). IsAmong l call) (sym same) among)) (λ none. absurd none) on) (λ that. inr that) there),
                ))
                refl (inr refl, refl);
            order = subst AreInOrder (sym same) went.order;
            other = λ one there. went.begun_apart one (subst (λ (l : List Waiting). Contains l one) same there);
            may = λ number may. waited number (subst (λ (l : List Waiting). MayAct l number) same may);
            writes = λ one written. record { one = begins.call; there = went.begun_from; same = let e : begins.call ≡ one = cc in ap (λ (w : Waiting). w.number) e; still = went.begun_still };
          })
      by (attempts.Inner draft) (inners, counts, is) =
          let put : IsPutBack (record begins.call { inners = inners }) waiting later = subst (λ (r : Recording). WaitsOn r.waits waiting later) is waits in
          subst Begun_by (sym is) (record {
            answers = behind_it None None
                (λ call. (
                  (λ there. ⊎_elim (λ among. ⊎_elim (λ on. inl (inl on)) (λ that. inr that) (put_among (record begins.call { inners = inners }) waiting later put call among)) (λ none. absurd none) there),
                  (λ there. ⊎_elim (λ on. ⊎_elim (λ among. inl (among_put (record begins.call { inners = inners }) waiting later put call (inl among))) (λ none. absurd none) on)
                      (λ that. inl (among_put (record begins.call { inners = inners }) waiting later put call (inr that))) there),
                ))
                tt tt;
            order = put_in_order (record begins.call { inners = inners }) waiting later put went.begun_apart went.order;
            other = tt;
            may = λ number may. ⊎_elim
                (λ old. waited number old)
                (λ same. record { one = begins.call; there = went.begun_from; same = same.0; still = went.begun_still })
                (may_put (record begins.call { inners = inners }) waiting later put number may);
            writes = λ one written. cc;
          })
      by (attempts.Answer done) is = absurd is
