-- The answer that is kept to a call, looked for from the oldest on and from the newest on.
use Rattle.std.proofs.Common.{◌≡◌, ℕ, zero, suc, ◌-◌, Bool, true, false, cond, List, [], ◌∷◌, ◌++◌, length, drop, Some, None, refl, sym, ap, ◌∙◌}
use Rattle.std.specs.Prelude.{◌&&◌, ◌==◌, not, if◌then◌else◌, map, reverse}
use Rattle.std.specs.List.{AllByRecursion, find}
use Rattle.std.specs.Str.{bytes_eq}
use Rattle.std.proofs.lemmas.Bool.{and_from, and_parts, eq-eqb, eqb-true}
use Rattle.std.proofs.lemmas.List.{reverse-append, map-append}
use Rattle.std.proofs.lemmas.List.Folds.{find-append}
use Rattle.std.proofs.lemmas.Map.Keys.{IsDistinct-head, IsDistinct-tail}
use Rattle.std.proofs.lemmas.Slice.Eq.{bytes_eq-Decides}
use Rattle.bx_history.specs.Trace as traces
use Rattle.bx_replies.specs.Answers.{Answer, IsApart, is_to, newest, reply_of, to_others, with_answer}
use Rattle.bx_desk.specs.Nodes.{sent_at}

-- ---- a call is the same whichever is said first

bytes_same : (a b : List ℕ) → bytes_eq a b ≡ true → bytes_eq b a ≡ true
bytes_same a b is = (bytes_eq-Decides b a).1 (sym ((bytes_eq-Decides a b).0 is))

same_turned : (c d : ℕ) (a b : List ℕ) → ((c == d) && bytes_eq a b) ≡ true → ((d == c) && bytes_eq b a) ≡ true
same_turned c d a b is = let both = and_parts (c == d) (bytes_eq a b) is in and_from _ _ (eq-eqb d c (sym (eqb-true c d both.0))) (bytes_same a b both.1)

either_way : (x y : Bool) → (x ≡ true → y ≡ true) → (y ≡ true → x ≡ true) → x ≡ y
either_way true true there back = refl
either_way true false there back = sym (there refl)
either_way false true there back = back refl
either_way false false there back = refl

pub turned_same : (c d : ℕ) (a b : List ℕ) → ((c == d) && bytes_eq a b) ≡ ((d == c) && bytes_eq b a)
turned_same c d a b = either_way _ _ (same_turned c d a b) (same_turned d c b a)

-- the test by which a trace finds an answer
abbrev pub asks : ℕ → List ℕ → traces.Answer → Bool
asks client bytes answer = (answer.client == client) && bytes_eq answer.bytes bytes

-- ---- no answer

pub find_none : (node client : ℕ) (bytes : List ℕ) (kept : List Answer) → reply_of kept client bytes ≡ None → find (asks client bytes) (map (sent_at node) (reverse kept)) ≡ None
find_none node client bytes [] none = refl
find_none node client bytes (answer ∷ kept) none = by (is_to client bytes answer) refl none (find_none node client bytes kept)
  where
    by : (b : Bool) → is_to client bytes answer ≡ b → (if b then Some answer.reply else reply_of kept client bytes) ≡ None
        → (reply_of kept client bytes ≡ None → find (asks client bytes) (map (sent_at node) (reverse kept)) ≡ None) → find (asks client bytes) (map (sent_at node) (reverse (answer ∷ kept))) ≡ None
    by true test none later = absurd cc
    by false test none later =
        rw (
          reverse-append (answer ∷ []) kept,
          map-append (sent_at node) (reverse kept) (answer ∷ []),
          find-append (asks client bytes) (map (sent_at node) (reverse kept)) (sent_at node answer ∷ []),
          later none,
          turned_same answer.client client answer.call bytes,
          test,
        ) refl

-- ---- the one answer

-- it is found, and has the reply
pub record FindsReply (node client : ℕ) (bytes : List ℕ) (kept : List Answer) (reply : List ℕ) : Type 0 where
  pub answer : Answer
  pub found : find (asks client bytes) (map (sent_at node) (reverse kept)) ≡ Some (sent_at node answer)
  pub of : answer.client ≡ client
  pub same : answer.reply ≡ reply

none_behind : (client : ℕ) (bytes : List ℕ) (answer : Answer) (kept : List Answer) → is_to client bytes answer ≡ true → AllByRecursion (λ b. is_to answer.client answer.call b ≡ false) kept → reply_of kept client bytes ≡ None
none_behind client bytes answer [] is all = refl
none_behind client bytes answer (one ∷ kept) is all =
    let both = and_parts (client == answer.client) (bytes_eq bytes answer.call) is in
    let other : is_to client bytes one ≡ false = rw (eqb-true client answer.client both.0, (bytes_eq-Decides bytes answer.call).0 both.1) all.0 in
    rw other (none_behind client bytes answer kept is all.1)

pub find_reply : (node client : ℕ) (bytes : List ℕ) (kept : List Answer) (reply : List ℕ) → IsApart kept → reply_of kept client bytes ≡ Some reply → FindsReply node client bytes kept reply
find_reply node client bytes [] reply apart found = absurd cc
find_reply node client bytes (answer ∷ kept) reply apart found = by (is_to client bytes answer) refl found (find_reply node client bytes kept reply (IsDistinct-tail (λ a b. is_to a.client a.call b) answer kept apart))
  where
    some_is : (a b : List ℕ) → Some a ≡ Some b → a ≡ b
    some_is a b e = cc

    turned : map (sent_at node) (reverse (answer ∷ kept)) ≡ map (sent_at node) (reverse kept) ++ sent_at node answer ∷ []
    turned = ap (map (sent_at node)) (reverse-append (answer ∷ []) kept) ∙ map-append (sent_at node) (reverse kept) (answer ∷ [])

    by : (b : Bool) → is_to client bytes answer ≡ b → (if b then Some answer.reply else reply_of kept client bytes) ≡ Some reply
        → (reply_of kept client bytes ≡ Some reply → FindsReply node client bytes kept reply) → FindsReply node client bytes (answer ∷ kept) reply
    by true test found later = record {
      answer = answer;
      found = rw (
        turned,
        find-append (asks client bytes) (map (sent_at node) (reverse kept)) (sent_at node answer ∷ []),
        find_none node client bytes kept (none_behind client bytes answer kept test (IsDistinct-head (λ a b. is_to a.client a.call b) answer kept apart)),
        turned_same answer.client client answer.call bytes,
        test,
      ) refl;
      of = sym (eqb-true client answer.client (and_parts (client == answer.client) (bytes_eq bytes answer.call) test).0);
      same = some_is answer.reply reply found;
    }
    by false test found later =
        let behind = later found in
        record {
          answer = behind.answer;
          found = rw (turned, find-append (asks client bytes) (map (sent_at node) (reverse kept)) (sent_at node answer ∷ []), behind.found) refl;
          of = behind.of;
          same = behind.same;
        }

-- ---- one answer more

pub others_all : (kept : List Answer) (client : ℕ) (bytes : List ℕ) → reply_of kept client bytes ≡ None → to_others kept client bytes ≡ kept
others_all [] client bytes none = refl
others_all (answer ∷ kept) client bytes none = by (is_to client bytes answer) none (others_all kept client bytes)
  where
    by : (b : Bool) → (if b then Some answer.reply else reply_of kept client bytes) ≡ None → (reply_of kept client bytes ≡ None → to_others kept client bytes ≡ kept)
        → cond (not b) (answer ∷ to_others kept client bytes) (to_others kept client bytes) ≡ answer ∷ kept
    by true none later = absurd cc
    by false none later = ap (λ (l : List Answer). answer ∷ l) (later none)

none_push : (kept : List Answer) (client : ℕ) (bytes : List ℕ) (answer : Answer) → reply_of kept client bytes ≡ None → is_to client bytes answer ≡ false → reply_of (kept ++ answer ∷ []) client bytes ≡ None
none_push [] client bytes answer none other = rw other refl
none_push (one ∷ kept) client bytes answer none other = by (is_to client bytes one) none (λ n. none_push kept client bytes answer n other)
  where
    by : (b : Bool) → (if b then Some one.reply else reply_of kept client bytes) ≡ None → (reply_of kept client bytes ≡ None → reply_of (kept ++ answer ∷ []) client bytes ≡ None)
        → (if b then Some one.reply else reply_of (kept ++ answer ∷ []) client bytes) ≡ None
    by true none later = absurd cc
    by false none later = later none

none_drop : (n : ℕ) (kept : List Answer) (client : ℕ) (bytes : List ℕ) → reply_of kept client bytes ≡ None → reply_of (drop n kept) client bytes ≡ None
none_drop zero kept client bytes none = none
none_drop (suc n) [] client bytes none = none
none_drop (suc n) (one ∷ kept) client bytes none = by (is_to client bytes one) none (none_drop n kept client bytes)
  where
    by : (b : Bool) → (if b then Some one.reply else reply_of kept client bytes) ≡ None → (reply_of kept client bytes ≡ None → reply_of (drop n kept) client bytes ≡ None) → reply_of (drop n kept) client bytes ≡ None
    by true none later = absurd cc
    by false none later = later none

-- the newest, where none was kept to that call
pub kept_then : (kept : List Answer) (answer : Answer) → reply_of kept answer.client answer.call ≡ None → with_answer kept answer ≡ newest (kept ++ answer ∷ [])
kept_then kept answer none = ap (λ (l : List Answer). newest (l ++ answer ∷ [])) (others_all kept answer.client answer.call none)

-- another call still has none
pub none_then : (kept : List Answer) (answer : Answer) (client : ℕ) (bytes : List ℕ) → reply_of kept answer.client answer.call ≡ None → reply_of kept client bytes ≡ None → is_to client bytes answer ≡ false
    → reply_of (with_answer kept answer) client bytes ≡ None
none_then kept answer client bytes new none other =
    rw (kept_then kept answer new) (none_drop (length (kept ++ answer ∷ []) - 256) (kept ++ answer ∷ []) client bytes (none_push kept client bytes answer none other))
