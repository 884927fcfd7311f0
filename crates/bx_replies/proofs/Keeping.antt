-- What a cache's entries say of the answers that are kept.
use Rattle.std.proofs.Common.{◌≡◌, ℕ, zero, suc, ◌-◌, ◌≤◌, not, Bool, true, false, cond, List, [], ◌∷◌, ◌++◌, length, take, drop, Option, Some, None, refl, ◌∙◌, arith, length-append, append-nil, eqb-true, eq-eqb, bytes_eq}
use Rattle.std.specs.List.{AllByRecursion, IsDistinct}
use Rattle.std.specs.Map.{keys_of, lookup_entry, remove_entry}
use Rattle.std.specs.Option.{option_map_or}
use Rattle.std.specs.Cmp.Lexicographic.{bytes_decides}
use Rattle.std.proofs.lemmas.Bool.{and_parts, and_from}
use Rattle.std.proofs.lemmas.List.{drop_all, take_all, drop-append-le}
use Rattle.std.proofs.lemmas.List.Elements.{filter-append}
use Rattle.lru.specs.LruCache.{LruCache, put_entries}
use Rattle.lru.proofs.CallerLemmas.{Contains-lookup_entry}
use Rattle.bx_replies.specs.declared.call.Call.{Call}
use Rattle.bx_replies.specs.Answers.{Answer, is_to, IsApart, reply_of, to_others, newest, with_answer}
use Rattle.bx_replies.specs.Calls.{same_call, same_call_equiv, answer_of, kept}

abbrev Entries : Type 0
Entries = List (Call × List ℕ)

-- ---- the oldest entry, and how many there are

pub kept-push : (entries : Entries) (e : Call × List ℕ) → kept (entries ++ e ∷ []) ≡ answer_of e ∷ kept entries
kept-push [] e = refl
kept-push (f ∷ entries) e = rw (kept-push entries e) refl

pub length-kept : (entries : Entries) → length (kept entries) ≡ length entries
length-kept [] = refl
length-kept (e ∷ entries) = rw (length-append (kept entries) (answer_of e ∷ []), length-kept entries) (omega arith)

-- ---- an answer is looked for, from the oldest on

module _ (client : ℕ) (call : List ℕ) (entries left : Entries) (e : Call × List ℕ) (oldest : entries ≡ left ++ e ∷ []) where
  pub reply_of-oldest : is_to client call (answer_of e) ≡ true → reply_of (kept entries) client call ≡ Some e.1
  reply_of-oldest t = rw (oldest, kept-push left e, t) refl

  pub reply_of-newer : is_to client call (answer_of e) ≡ false → reply_of (kept entries) client call ≡ reply_of (kept left) client call
  reply_of-newer t = rw (oldest, kept-push left e, t) refl

-- ---- the newest entries

kept-take : (n : ℕ) (entries : Entries) → drop (length entries - n) (kept entries) ≡ kept (take n entries)
kept-take zero entries = drop_all _ (kept entries) (omega (arith, length-kept entries))
kept-take (suc n) [] = drop_all _ [] (omega arith)
kept-take (suc n) (e ∷ entries) =
    let fewer : suc (length entries) - suc n ≡ length entries - n = omega arith in
    let within : length entries - n ≤ length (kept entries) = omega (arith, length-kept entries) in
    rw (fewer, drop-append-le (length entries - n) (kept entries) (answer_of e ∷ []) within, kept-take n entries) refl

newest-kept : (entries : Entries) → newest (kept entries) ≡ kept (take 256 entries)
newest-kept entries = rw (length-kept entries) (kept-take 256 entries)

-- ---- the answers to other calls

module _ (k : Call) where
  abbrev OtherCalls : Entries → Type 0
  OtherCalls entries = AllByRecursion (λ c. same_call k c ≡ false) (keys_of entries)

  others-append : (entries : Entries) (e : Call × List ℕ) → to_others (kept (e ∷ entries)) k.client k.bytes ≡ to_others (kept entries) k.client k.bytes ++ cond (not (same_call k e.0)) (answer_of e ∷ []) []
  others-append entries e = filter-append (λ a. not (is_to k.client k.bytes a)) (kept entries) (answer_of e ∷ [])

  others_all : (entries : Entries) → OtherCalls entries → to_others (kept entries) k.client k.bytes ≡ kept entries
  others_all [] h = refl
  others_all (e ∷ entries) h = rw (others-append entries e, h.0, others_all entries h.1) refl

  none_from_lookup : (entries : Entries) → lookup_entry (same_call k) entries ≡ None → OtherCalls entries
  none_from_lookup [] h = tt
  none_from_lookup (e ∷ entries) h = (elim (same_call k e.0) as (λ y. same_call k e.0 ≡ y → OtherCalls (e ∷ entries)) [
    | true ↦ λ t. let h' = rw t at h in cc
    | false ↦ λ t. (t, none_from_lookup entries (rw t at h))
  ]) refl

  none_behind : (d : Call) → same_call k d ≡ true → (calls : List Call) → AllByRecursion (λ c. same_call d c ≡ false) calls → AllByRecursion (λ c. same_call k c ≡ false) calls
  none_behind d t [] h = tt
  none_behind d t (c ∷ calls) h = (same_call_equiv.congr k d c t ∙ h.0, none_behind d t calls h.1)

  others_removed : (entries : Entries) (e : Call × List ℕ) → IsDistinct same_call (keys_of entries) → lookup_entry (same_call k) entries ≡ Some e → to_others (kept entries) k.client k.bytes ≡ kept (remove_entry (same_call k) entries)
  unfolding IsDistinct
  others_removed [] e d h = cc
  others_removed (f ∷ entries) e d h = (elim (same_call k f.0) as (λ y. same_call k f.0 ≡ y → to_others (kept (f ∷ entries)) k.client k.bytes ≡ kept (remove_entry (same_call k) (f ∷ entries))) [
    | true ↦ λ t. rw (others-append entries f, t, others_all entries (map_none f t entries d.0)) (append-nil (kept entries))
    | false ↦ λ t. rw (others-append entries f, t, others_removed entries e d.1 (rw t at h)) refl
  ]) refl
    where
      map_none : (f : Call × List ℕ) → same_call k f.0 ≡ true → (entries : Entries) → AllByRecursion (λ c. same_call f.0 c ≡ false) (keys_of entries) → OtherCalls entries
      map_none f t entries h = none_behind f.0 t (keys_of entries) h

  length-removed : (entries : Entries) (e : Call × List ℕ) → lookup_entry (same_call k) entries ≡ Some e → length entries ≡ suc (length (remove_entry (same_call k) entries))
  length-removed [] e h = cc
  length-removed (f ∷ entries) e h = (elim (same_call k f.0) as (λ y. same_call k f.0 ≡ y → length (f ∷ entries) ≡ suc (length (remove_entry (same_call k) (f ∷ entries)))) [
    | true ↦ λ t. rw t refl
    | false ↦ λ t. rw (t, length-removed entries e (rw t at h)) refl
  ]) refl

  same_answer : (d : Call) (v : List ℕ) → same_call k d ≡ true → answer_of (d, v) ≡ answer_of (k, v)
  same_answer d v t =
      let parts = and_parts _ _ t in
      let client : k.client ≡ d.client = eqb-true k.client d.client parts.0 in
      let bytes : k.bytes ≡ d.bytes = (bytes_decides k.bytes d.bytes).0 parts.1 in
      cc

-- ---- an answer is kept

module _ (c : LruCache Call (List ℕ)) (k : Call) (v : List ℕ) where
  newest-put : (entries : Entries) → newest (kept entries ++ answer_of (k, v) ∷ []) ≡ kept (take 256 ((k, v) ∷ entries))
  newest-put entries = newest-kept ((k, v) ∷ entries)

  put_by : c.cap ≡ 256 → IsDistinct same_call (keys_of c.entries) → length c.entries ≤ 256
      → (o : Option (Call × List ℕ)) → lookup_entry (same_call k) c.entries ≡ o
      → kept (option_map_or (λ e. (e.0, v) ∷ remove_entry (same_call k) c.entries) o ((k, v) ∷ take (c.cap - 1) c.entries)) ≡ with_answer (kept c.entries) (answer_of (k, v))
  put_by full d n None h =
      rw (full, others_all k c.entries (none_from_lookup k c.entries h), newest-put c.entries) refl
  put_by full d n (Some e) h =
      let few : length (remove_entry (same_call k) c.entries) ≤ 255 = omega (arith, length-removed k c.entries e h) in
      rw (others_removed k c.entries e d h, newest-put (remove_entry (same_call k) c.entries), take_all 255 (remove_entry (same_call k) c.entries) few, same_answer k e.0 v (Contains-lookup_entry (same_call k) c.entries e h).1) refl

  pub put_keeps : c.cap ≡ 256 → IsDistinct same_call (keys_of c.entries) → length c.entries ≤ 256 → kept (put_entries same_call c k v) ≡ with_answer (kept c.entries) (answer_of (k, v))
  put_keeps full d n = put_by full d n (lookup_entry (same_call k) c.entries) refl

-- ---- what was kept last is found

bytes_eq-same : (bytes : List ℕ) → bytes_eq bytes bytes ≡ true
bytes_eq-same bytes = (bytes_decides bytes bytes).1 refl

module _ (client : ℕ) (call : List ℕ) where
  -- an answer to another call in front makes no difference
  past : (b : Answer) (others : List Answer) (a : Answer) → is_to client call b ≡ false → (n : ℕ)
      → ((m : ℕ) → reply_of (drop m others ++ a ∷ []) client call ≡ Some a.reply) → reply_of (drop n (b ∷ others) ++ a ∷ []) client call ≡ Some a.reply
  past b others a u zero h = rw u (h 0)
  past b others a u (suc n) h = h n

  reply_of-missed : (n : ℕ) (answers : List Answer) (a : Answer) → is_to client call a ≡ true → reply_of (drop n (to_others answers client call) ++ a ∷ []) client call ≡ Some a.reply
  reply_of-missed n [] a t = rw (drop_all {X = Answer} n [] (omega arith), t) refl
  reply_of-missed n (b ∷ answers) a t = (elim (is_to client call b) as (λ y. is_to client call b ≡ y → reply_of (drop n (to_others (b ∷ answers) client call) ++ a ∷ []) client call ≡ Some a.reply) [
    | true ↦ λ u. rw u (reply_of-missed n answers a t)
    | false ↦ λ u. rw u (past b (to_others answers client call) a u n (λ m. reply_of-missed m answers a t))
  ]) refl

pub reply_of-with_answer : (answers : List Answer) (a : Answer) → reply_of (with_answer answers a) a.client a.call ≡ Some a.reply
reply_of-with_answer answers a =
    let others = to_others answers a.client a.call in
    let size = length-append others (a ∷ []) in
    let within : length (others ++ a ∷ []) - 256 ≤ length others = omega arith in
    rw (drop-append-le (length (others ++ a ∷ []) - 256) others (a ∷ []) within)
    (reply_of-missed a.client a.call (length (others ++ a ∷ []) - 256) answers a (and_from _ _ (eq-eqb a.client a.client refl) (bytes_eq-same a.call)))

-- ---- no two are to the same call

abbrev alike : Answer → Answer → Bool
alike a b = is_to a.client a.call b

distinct-push : (answers : List Answer) (a : Answer) → IsDistinct alike answers → AllByRecursion (λ b. alike b a ≡ false) answers → IsDistinct alike (answers ++ a ∷ [])
unfolding IsDistinct
distinct-push [] a d h = (tt, tt)
distinct-push (b ∷ answers) a d h = (each answers b d.0 h.0, distinct-push answers a d.1 h.1)
  where
    each : (answers : List Answer) (b : Answer) → AllByRecursion (λ x. alike b x ≡ false) answers → alike b a ≡ false → AllByRecursion (λ x. alike b x ≡ false) (answers ++ a ∷ [])
    each [] b h t = (t, tt)
    each (x ∷ answers) b h t = (h.0, each answers b h.1 t)

all-push : (P : Answer → Type 0) (answers : List Answer) (a : Answer) → AllByRecursion P answers → P a → AllByRecursion P (answers ++ a ∷ [])
all-push P [] a h p = (p, tt)
all-push P (x ∷ answers) a h p = (h.0, all-push P answers a h.1 p)

none_alike : (e : Call × List ℕ) (entries : Entries) → AllByRecursion (λ c. same_call e.0 c ≡ false) (keys_of entries) → AllByRecursion (λ b. alike b (answer_of e) ≡ false) (kept entries)
none_alike e [] h = tt
none_alike e (f ∷ entries) h = all-push (λ b. alike b (answer_of e) ≡ false) (kept entries) (answer_of f) (none_alike e entries h.1) (same_call_equiv.symm f.0 e.0 ∙ h.0)

pub apart-kept : (entries : Entries) → IsDistinct same_call (keys_of entries) → IsApart (kept entries)
unfolding IsDistinct
apart-kept [] d = tt
apart-kept (e ∷ entries) d = distinct-push (kept entries) (answer_of e) (apart-kept entries d.1) (none_alike e entries d.0)
