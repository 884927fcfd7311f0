-- How the desk of a node goes on with the parts of a run.
use Rattle.std.proofs.Common.{◌≡◌, ℕ, Bool, true, false, cond, eqb, List, [], ◌∷◌, ◌++◌, take, Some, None, inl, inr, refl, sym, ap, subst, ◌∙◌}
use Rattle.std.specs.Prelude.{◌⊎◌, ◌==◌, not, filter, map, reverse}
use Rattle.std.specs.List.{AllByRecursion, find, list_any}
use Rattle.std.proofs.lemmas.Bool.{eq-eqb, eqb-true}
use Rattle.std.proofs.lemmas.List.{append-nil, map-append, reverse-append, take-map}
use Rattle.std.proofs.lemmas.List.Elements.{filter-append}
use Rattle.bx_history.specs.Trace as traces
use Rattle.bx_history.specs.Trace.{IsIn}
use Rattle.bx_history.specs.Parts.{Part, kept_at, trace_since, waiting}
use Rattle.bx_history.specs.Account.{answers_at}
use Rattle.bx_history.proofs.Lists.{all_passed, one_of}
use Rattle.bx_replies.specs.Answers.{Answer, reply_of, with_answer}
use Rattle.bx_desk.specs.declared.desk.Asked.{Asked}
use Rattle.bx_desk.specs.Desks.{AtDesk, answered, asked_as, empty_desk, is_from, others, with_call, with_kept}
use Rattle.bx_desk.specs.Nodes.{AreApart, IsDeskOf, sent_at, taking_at}
use Rattle.bx_desk.proofs.Answers.{kept_then, none_then, turned_same}
use Rattle.bx_desk.proofs.Lists.{all_both, all_push, in_mapped, in_reversed, mapped_in, newest_reversed, none_any, reversed_in, take_once}

-- nothing waits, and nothing is kept
pub desk_opened : (node : ℕ) (parts : List Part) → waiting parts node ≡ [] → kept_at 256 parts node ≡ [] → IsDeskOf node parts empty_desk
desk_opened node parts waits kept = record { waits_are = waits; kept_are = kept; none_kept = tt; waits_apart = tt }

-- neither changes
pub desk_stays : (node : ℕ) (before after : List Part) (desk : AtDesk) → IsDeskOf node before desk → waiting after node ≡ waiting before node → kept_at 256 after node ≡ kept_at 256 before node → IsDeskOf node after desk
desk_stays node before after desk is waits kept = record { waits_are = waits ∙ is.waits_are; kept_are = kept ∙ is.kept_are; none_kept = is.none_kept; waits_apart = is.waits_apart }

-- ---- a call more waits

apart_push : (waits : List Asked) (asked : Asked) → AreApart waits → AllByRecursion (λ other. is_from asked.client asked.bytes other ≡ false) waits → AreApart (waits ++ asked ∷ [])
apart_push [] asked apart new = (tt, tt)
apart_push (one ∷ waits) asked apart new =
    (all_push (λ other. is_from one.client one.bytes other ≡ false) waits asked apart.0 (turned_same asked.client one.client asked.bytes one.bytes ∙ new.0), apart_push waits asked apart.1 new.1)

pub desk_taken : (node : ℕ) (before after : List Part) (desk : AtDesk) (asked : Asked) → IsDeskOf node before desk → waiting after node ≡ taking_at node asked ∷ waiting before node → kept_at 256 after node ≡ kept_at 256 before node
    → list_any (is_from asked.client asked.bytes) desk.waits ≡ false → reply_of desk.kept asked.client asked.bytes ≡ None → IsDeskOf node after (with_call desk asked)
desk_taken node before after desk asked is waits kept new none = record {
  waits_are = waits ∙ ap (λ (l : List traces.Taking). taking_at node asked ∷ l) is.waits_are ∙ sym (ap (map (taking_at node)) (reverse-append desk.waits (asked ∷ [])));
  kept_are = kept ∙ is.kept_are;
  none_kept = all_push _ desk.waits asked is.none_kept none;
  waits_apart = apart_push desk.waits asked is.waits_apart (none_any (is_from asked.client asked.bytes) desk.waits new);
}

-- ---- one answer more

module _ (kept : List Answer) (answer : Answer) (none_to : reply_of kept answer.client answer.call ≡ None) where
  newest_kept : reverse (with_answer kept answer) ≡ take 256 (answer ∷ reverse kept)
  newest_kept = ap reverse (kept_then kept answer none_to) ∙ newest_reversed 256 (kept ++ answer ∷ []) ∙ ap (take 256) (reverse-append kept (answer ∷ []))

  kept_more : (node : ℕ) (before after : List Part) → kept_at 256 before node ≡ map (sent_at node) (reverse kept)
      → answers_at (trace_since after node) node ≡ sent_at node answer ∷ answers_at (trace_since before node) node → kept_at 256 after node ≡ map (sent_at node) (reverse (with_answer kept answer))
  kept_more node before after kept_are sent =
      ap (take 256) sent ∙ ap (λ (l : List traces.Answer). sent_at node answer ∷ l) (sym (take_once 255 (answers_at (trace_since before node) node)) ∙ ap (take 255) kept_are)
      ∙ take-map (sent_at node) 256 (answer ∷ reverse kept) ∙ ap (map (sent_at node)) (sym newest_kept)

  -- there is still none to another call that waits
  others_none : (waits : List Asked) → AllByRecursion (λ other. reply_of kept other.client other.bytes ≡ None) waits → AllByRecursion (λ other. is_from answer.client answer.call other ≡ false) waits
      → AllByRecursion (λ other. reply_of (with_answer kept answer) other.client other.bytes ≡ None) waits
  others_none waits none apart =
      all_both (λ other. reply_of kept other.client other.bytes ≡ None) (λ other. is_from answer.client answer.call other ≡ false) _ waits
      (λ other none apart. none_then kept answer other.client other.bytes none_to none apart) none apart

-- ---- a call that never waited is answered

pub desk_kept : (node : ℕ) (before after : List Part) (desk : AtDesk) (answer : Answer) → IsDeskOf node before desk → waiting after node ≡ waiting before node
    → answers_at (trace_since after node) node ≡ sent_at node answer ∷ answers_at (trace_since before node) node
    → list_any (is_from answer.client answer.call) desk.waits ≡ false → reply_of desk.kept answer.client answer.call ≡ None → IsDeskOf node after (with_kept desk answer)
desk_kept node before after desk answer is waits sent new none = record {
  waits_are = waits ∙ is.waits_are;
  kept_are = kept_more desk.kept answer none node before after is.kept_are sent;
  none_kept = others_none desk.kept answer none desk.waits is.none_kept (none_any (is_from answer.client answer.call) desk.waits new);
  waits_apart = is.waits_apart;
}

-- ---- a call that waits is answered

apart_passed : (p : Asked → Bool) (waits : List Asked) → AreApart waits → AreApart (filter p waits)
apart_passed p [] apart = tt
apart_passed p (one ∷ waits) apart = by (p one) (apart_passed p waits apart.1)
  where
    by : (b : Bool) → AreApart (filter p waits) → AreApart (cond b (one ∷ filter p waits) (filter p waits))
    by true later = (all_passed (λ other. is_from one.client one.bytes other ≡ false) (λ other. is_from one.client one.bytes other ≡ false) p waits (λ other is other_is. other_is) apart.0, later)
    by false later = later

-- what is found among calls that wait: a call with that number, which has no kept answer, and which no other call repeats
pub record IsAsked (number : ℕ) (waits : List Asked) (kept : List Answer) (asked : Asked) : Type 0 where
  pub waited : IsIn asked waits
  pub number_is : asked.call ≡ number
  pub none_to : reply_of kept asked.client asked.bytes ≡ None
  pub others_differ : AllByRecursion (λ other. is_from asked.client asked.bytes other ≡ false) (others asked.call waits)

asked_at : (number : ℕ) (waits : List Asked) (kept : List Answer) (asked : Asked) → asked_as number waits ≡ Some asked
    → AllByRecursion (λ one. reply_of kept one.client one.bytes ≡ None) waits → AreApart waits → IsAsked number waits kept asked
asked_at number [] kept asked is none apart = absurd cc
asked_at number (one ∷ waits) kept asked is none apart = by (eqb number one.call) refl is (λ later. asked_at number waits kept asked later none.1 apart.1)
  where
    some_is : (a b : Asked) → Some a ≡ Some b → a ≡ b
    some_is a b e = cc

    -- it is the first
    first : number ≡ one.call → one ≡ asked → IsAsked number (one ∷ waits) kept asked
    first same this = subst (IsAsked number (one ∷ waits) kept) this (record {
      waited = inl refl;
      number_is = sym same;
      none_to = none.0;
      others_differ = rw (eq-eqb one.call one.call refl) (all_passed (λ other. is_from one.client one.bytes other ≡ false) (λ other. is_from one.client one.bytes other ≡ false) (λ other. not (eqb one.call other.call)) waits (λ other is other_is. other_is) apart.0);
    })

    -- it is one behind the first
    behind : IsAsked number waits kept asked → IsAsked number (one ∷ waits) kept asked
    behind there = record {
      waited = inr there.waited;
      number_is = there.number_is;
      none_to = there.none_to;
      others_differ = with_first (eqb asked.call one.call);
    }
      where
        with_first : (b : Bool) → AllByRecursion (λ other. is_from asked.client asked.bytes other ≡ false) (cond (not b) (one ∷ others asked.call waits) (others asked.call waits))
        with_first true = there.others_differ
        with_first false = (turned_same one.client asked.client one.bytes asked.bytes ∙ one_of (λ other. is_from one.client one.bytes other ≡ false) waits asked apart.0 there.waited, there.others_differ)

    by : (b : Bool) → eqb number one.call ≡ b → cond b (Some one) (find (λ other. number == other.call) waits) ≡ Some asked
        → (asked_as number waits ≡ Some asked → IsAsked number waits kept asked) → IsAsked number (one ∷ waits) kept asked
    by true same is later = first (eqb-true number one.call same) (some_is one asked is)
    by false same is later = behind (later is)

-- calls that wait, as calls that were taken, the newest first
mapped_others : (node number : ℕ) (waits : List Asked) → filter (λ t. not (number == t.call)) (map (taking_at node) (reverse waits)) ≡ map (taking_at node) (reverse (others number waits))
mapped_others node number [] = refl
mapped_others node number (one ∷ waits) =
    ap (λ (l : List Asked). filter (λ (t : traces.Taking). not (number == t.call)) (map (taking_at node) l)) (reverse-append (one ∷ []) waits)
    ∙ ap (filter (λ (t : traces.Taking). not (number == t.call))) (map-append (taking_at node) (reverse waits) (one ∷ []))
    ∙ filter-append (λ (t : traces.Taking). not (number == t.call)) (map (taking_at node) (reverse waits)) (taking_at node one ∷ [])
    ∙ ap (λ (l : List traces.Taking). l ++ filter (λ (t : traces.Taking). not (number == t.call)) (taking_at node one ∷ [])) (mapped_others node number waits)
    ∙ by (not (number == one.call))
  where
    by : (b : Bool) → map (taking_at node) (reverse (others number waits)) ++ cond b (taking_at node one ∷ []) [] ≡ map (taking_at node) (reverse (cond b (one ∷ others number waits) (others number waits)))
    by true = sym (ap (map (taking_at node)) (reverse-append (one ∷ []) (others number waits)) ∙ map-append (taking_at node) (reverse (others number waits)) (one ∷ []))
    by false = append-nil (map (taking_at node) (reverse (others number waits)))

-- one of those is on the desk
pub asked_there : (node : ℕ) (waits : List Asked) (taking : traces.Taking) → IsIn taking (map (taking_at node) (reverse waits)) → (asked : Asked) × (asked_as taking.call waits ≡ Some asked)
asked_there node waits taking is =
    let one = in_mapped (taking_at node) (reverse waits) taking is in
    found_some taking.call waits one.0 (in_reversed waits one.0 one.1) (ap (λ (t : traces.Taking). t.call) (sym one.2))
  where
    found_some : (number : ℕ) (waits : List Asked) (asked : Asked) → IsIn asked waits → number ≡ asked.call → (found : Asked) × (asked_as number waits ≡ Some found)
    found_some number [] asked there same = absurd there
    found_some number (one ∷ waits) asked there same = by (eqb number one.call) refl there (λ behind. found_some number waits asked behind same)
      where
        by : (b : Bool) → eqb number one.call ≡ b → IsIn asked (one ∷ waits) → (IsIn asked waits → (found : Asked) × (asked_as number waits ≡ Some found))
            → (found : Asked) × (cond b (Some one) (find (λ other. number == other.call) waits) ≡ Some found)
        by true test there later = (one, refl)
        by false test (inl here) later = absurd (let this : eqb number one.call ≡ true = eq-eqb number one.call (same ∙ sym (ap (λ (a : Asked). a.call) here)) in cc)
        by false test (inr behind) later = later behind

module _ (node number : ℕ) (before : List Part) (desk : AtDesk) (is : IsDeskOf node before desk) (asked : Asked) (found : asked_as number desk.waits ≡ Some asked) where
  abbrev on_desk : IsAsked number desk.waits desk.kept asked
  on_desk = asked_at number desk.waits desk.kept asked found is.none_kept is.waits_apart

  -- it is one of those that wait at the node
  pub asked_waits : IsIn (taking_at node asked) (waiting before node) × (asked.call ≡ number)
  asked_waits = (
    subst (IsIn (taking_at node asked)) (sym is.waits_are) (mapped_in (taking_at node) (reverse desk.waits) asked (reversed_in desk.waits asked on_desk.waited)),
    on_desk.number_is,
  )

  module _ (after : List Part) (reply : List ℕ) where
    abbrev answer : Answer
    answer = record { client = asked.client; call = asked.bytes; reply = reply }

    pub desk_answered : waiting after node ≡ filter (λ t. not (number == t.call)) (waiting before node) → answers_at (trace_since after node) node ≡ sent_at node answer ∷ answers_at (trace_since before node) node
        → IsDeskOf node after (answered desk number reply)
    desk_answered waits sent = rw found (record {
      waits_are = waits ∙ ap (filter (λ (t : traces.Taking). not (number == t.call))) is.waits_are ∙ mapped_others node number desk.waits ∙ ap (λ (n : ℕ). map (taking_at node) (reverse (others n desk.waits))) (sym on_desk.number_is);
      kept_are = kept_more desk.kept answer on_desk.none_to node before after is.kept_are sent;
      none_kept = others_none desk.kept answer on_desk.none_to (others asked.call desk.waits)
          (all_passed (λ other. reply_of desk.kept other.client other.bytes ≡ None) (λ other. reply_of desk.kept other.client other.bytes ≡ None) (λ other. not (asked.call == other.call)) desk.waits (λ other is none. none) is.none_kept) on_desk.others_differ;
      waits_apart = apart_passed (λ other. not (asked.call == other.call)) desk.waits is.waits_apart;
    })
