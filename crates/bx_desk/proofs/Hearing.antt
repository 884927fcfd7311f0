-- What comes of a datagram at a node, by its desk: whether it is taken, and what is sent again.
use Rattle.std.proofs.Common.{◌≡◌, ℕ, Bool, true, false, List, [], ◌∷◌, length, Some, None, inl, inr, refl, ap, ◌∙◌, arith}
use Rattle.std.specs.Prelude.{◌&&◌, ◌==◌, ◌⊎◌, is_none, nat_le, nat_lt, not, reverse}
use Rattle.std.specs.List.{find, list_any}
use Rattle.std.specs.Str.{bytes_eq}
use Rattle.std.proofs.lemmas.Bool.{and_from, eq-eqb, false_from_ne_true, leb-false, leb-true, lt-ltb, ltb-true}
use Rattle.std.proofs.lemmas.List.{length-map, length-reverse}
use Rattle.std.proofs.lemmas.Slice.Eq.{bytes_eq-Decides}
use Rattle.bx_history.specs.Trace as traces
use Rattle.bx_history.specs.Trace.{IsSentBefore, Taking}
use Rattle.bx_history.specs.Parts.{Arrival, Part, kept_at, trace_of, trace_since, waiting}
use Rattle.bx_history.specs.Placed.{Rules, again_by, again_if, kept_answer, taken_by, taken_if, waits_already}
use Rattle.bx_history.specs.Account.{IsSplit, answers_at}
use Rattle.bx_replies.specs.Answers.{IsApart, reply_of}
use Rattle.bx_desk.specs.Desks.{AtDesk, is_from}
use Rattle.bx_desk.specs.Nodes.{IsDeskOf, sent_at, taking_at}
use Rattle.bx_desk.proofs.Answers.{asks, find_none, find_reply}
use Rattle.bx_desk.proofs.Lists.{any_first, any_mapped, any_reversed, found_any}

-- it isn't taken, and nothing is sent again
pub record IsPassed (rules : Rules) (parts : List Part) (arrival : Arrival) : Type 0 where
  pub not_taken : taken_by rules parts (Some arrival) ≡ []
  pub no_repeat : again_by rules parts (Some arrival) ≡ []

-- it isn't taken, and this reply is sent again, which the node sent before
pub record IsRepeated (rules : Rules) (parts : List Part) (arrival : Arrival) (reply : List ℕ) : Type 0 where
  pub not_taken : taken_by rules parts (Some arrival) ≡ []
  pub repeats : again_by rules parts (Some arrival) ≡ record { node = arrival.node; client = arrival.client; reply = reply } ∷ []
  pub sent : IsSentBefore rules.kept (trace_of parts) arrival.node arrival.client reply

-- it is taken
pub record IsNew (rules : Rules) (parts : List Part) (arrival : Arrival) : Type 0 where
  pub is_taken : taken_by rules parts (Some arrival) ≡ arrival ∷ []
  pub no_repeat : again_by rules parts (Some arrival) ≡ []

module _ (rules : Rules) (wary : rules.is_wary ≡ true) (keeps : rules.kept ≡ 256) (node : ℕ) (parts : List Part) (desk : AtDesk) (is : IsDeskOf node parts desk) (client : ℕ) (bytes : List ℕ) where
  abbrev arrival : Arrival
  arrival = record { node = node; client = client; bytes = bytes }

  waits_so : waits_already parts arrival ≡ list_any (is_from client bytes) desk.waits
  waits_so = ap (list_any (λ (taking : Taking). (taking.client == client) && bytes_eq taking.bytes bytes)) is.waits_are
      ∙ any_mapped (λ (taking : Taking). (taking.client == client) && bytes_eq taking.bytes bytes) (taking_at node) (reverse desk.waits) ∙ any_reversed (is_from client bytes) desk.waits

  count_so : length (waiting parts node) ≡ length desk.waits
  count_so = ap length is.waits_are ∙ length-map (reverse desk.waits) (taking_at node) ∙ length-reverse desk.waits

  none_so : reply_of desk.kept client bytes ≡ None → kept_answer rules.kept parts arrival ≡ None
  none_so none = rw keeps (ap (find (asks client bytes)) is.kept_are ∙ find_none node client bytes desk.kept none)

  pub no_call : rules.is_call bytes ≡ false → IsPassed rules parts arrival
  no_call none = record { not_taken = rw none refl; no_repeat = rw none refl }

  -- a call, where nodes take what is new alone
  when_wary : rules.is_call bytes ≡ true
      → taken_by rules parts (Some arrival) ≡ taken_if (nat_lt (length (waiting parts node)) 64 && not (waits_already parts arrival) && is_none (kept_answer rules.kept parts arrival)) arrival
  when_wary call = rw (call, wary) refl

  again_wary : rules.is_call bytes ≡ true → again_by rules parts (Some arrival) ≡ again_if (not (waits_already parts arrival)) arrival (kept_answer rules.kept parts arrival)
  again_wary call = rw (call, wary) refl

  untaken : (few waits new : Bool) → (few ≡ false) ⊎ ((waits ≡ true) ⊎ (new ≡ false)) → taken_if (few && not waits && new) arrival ≡ []
  untaken false waits new why = refl
  untaken true true new why = refl
  untaken true false false why = refl
  untaken true false true (inl few) = absurd cc
  untaken true false true (inr (inl waits)) = absurd cc
  untaken true false true (inr (inr new)) = absurd cc

  none_again : (b : Bool) → again_if b arrival None ≡ []
  none_again true = refl
  none_again false = refl

  -- it repeats a call that waits
  pub waits_still : rules.is_call bytes ≡ true → list_any (is_from client bytes) desk.waits ≡ true → IsPassed rules parts arrival
  waits_still call waits =
      let already : waits_already parts arrival ≡ true = waits_so ∙ waits in
      record {
        not_taken = when_wary call ∙ untaken _ (waits_already parts arrival) _ (inr (inl already));
        no_repeat = again_wary call ∙ ap (λ (b : Bool). again_if (not b) arrival (kept_answer rules.kept parts arrival)) already;
      }

  -- as many calls wait as may
  pub crowded : rules.is_call bytes ≡ true → reply_of desk.kept client bytes ≡ None → nat_le 64 (length desk.waits) ≡ true → IsPassed rules parts arrival
  crowded call none full = record {
    not_taken = when_wary call ∙ untaken (nat_lt (length (waiting parts node)) 64) _ _ (inl (rw count_so (full_not (length desk.waits) full)));
    no_repeat = again_wary call ∙ ap (again_if (not (waits_already parts arrival)) arrival) (none_so none) ∙ none_again _;
  }
    where
      full_not : (count : ℕ) → nat_le 64 count ≡ true → nat_lt count 64 ≡ false
      full_not count full = let le = leb-true _ _ full in false_from_ne_true (nat_lt count 64) (λ less. let lt = ltb-true _ _ less in omega (arith, le, lt))

  -- it is new
  pub is_new : rules.is_call bytes ≡ true → list_any (is_from client bytes) desk.waits ≡ false → reply_of desk.kept client bytes ≡ None → nat_le 64 (length desk.waits) ≡ false → IsNew rules parts arrival
  is_new call waits none room =
      let not_yet : waits_already parts arrival ≡ false = waits_so ∙ waits in
      let few : nat_lt (length (waiting parts node)) 64 ≡ true = rw count_so (few_then (length desk.waits) room) in
      record {
        is_taken = when_wary call ∙ taken _ _ _ few not_yet (ap is_none (none_so none));
        no_repeat = again_wary call ∙ ap (again_if (not (waits_already parts arrival)) arrival) (none_so none) ∙ none_again _;
      }
    where
      few_then : (count : ℕ) → nat_le 64 count ≡ false → nat_lt count 64 ≡ true
      few_then count room = lt-ltb _ _ (let over = leb-false _ _ room in omega (arith, over))

      taken : (few waits new : Bool) → few ≡ true → waits ≡ false → new ≡ true → taken_if (few && not waits && new) arrival ≡ arrival ∷ []
      taken true false true a b c = refl
      taken false waits new a b c = absurd cc
      taken true true new a b c = absurd cc
      taken true false false a b c = absurd cc

  -- it repeats a call that was answered
  pub was_answered : (reply : List ℕ) → rules.is_call bytes ≡ true → IsSplit (answers_at (trace_of parts) node) (answers_at (trace_since parts node) node) → IsApart desk.kept
      → list_any (is_from client bytes) desk.waits ≡ false → reply_of desk.kept client bytes ≡ Some reply → IsRepeated rules parts arrival reply
  was_answered reply call split apart waits kept =
      let finds = find_reply node client bytes desk.kept reply apart kept in
      let found : find (asks client bytes) (kept_at 256 parts node) ≡ Some (sent_at node finds.answer) = ap (find (asks client bytes)) is.kept_are ∙ finds.found in
      let there : kept_answer rules.kept parts arrival ≡ Some (sent_at node finds.answer) = rw keeps found in
      let not_yet : waits_already parts arrival ≡ false = waits_so ∙ waits in
      let hit : ((finds.answer.client == client) && bytes_eq finds.answer.reply reply) ≡ true =
      and_from _ _ (eq-eqb finds.answer.client client finds.of) ((bytes_eq-Decides finds.answer.reply reply).1 finds.same) in
      record {
        not_taken = when_wary call ∙ untaken _ _ (is_none (kept_answer rules.kept parts arrival)) (inr (inr (ap is_none there)));
        repeats = again_wary call ∙ ap (λ (b : Bool). again_if (not b) arrival (kept_answer rules.kept parts arrival)) not_yet ∙ ap (again_if true arrival) there
            ∙ ap (λ (r : List ℕ). record { node = node; client = client; reply = r } ∷ []) finds.same;
        sent = rw (keeps, split.whole) (any_first (λ (a : traces.Answer). (a.client == client) && bytes_eq a.reply reply) 256 (answers_at (trace_since parts node) node) split.before
            (found_any (asks client bytes) (λ (a : traces.Answer). (a.client == client) && bytes_eq a.reply reply) (kept_at 256 parts node) (sent_at node finds.answer) found hit));
      }
