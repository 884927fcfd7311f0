-- A page with an entry put, taken or moved is a page.
use Rattle.std.proofs.Common.{◌≡◌, ℕ, zero, suc, ◌+◌, ◌^◌, ◌<◌, ◌≤◌, List, [], ◌∷◌, ◌++◌, length, take, drop, get_or, set, Option, Some, None, refl, sym, ap, subst, ◌∙◌, add-one, arith}
use Rattle.std.specs.Prelude.{All, AllPairs, IfSome, IsSome, sum_by, slice_get}
use Rattle.std.specs.List.{insert, remove}
use Rattle.std.specs.Option.{option_map}
use Rattle.std.proofs.lemmas.List.{set_split, get_or-take, get_or-drop, length-take, length-drop, take-append-drop, drop_more, get_or_default}
use Rattle.std.proofs.lemmas.List.Elements.{All-append, All-cons, All-head, All-tail, All-filter, All-take, All-drop, All-weaker, filter_passes}
use Rattle.std.proofs.lemmas.List.Kept.{AllPairs-cons, AllPairs-filter}
use Rattle.std.proofs.lemmas.List.Sums.{sum_by-cons, sum_by-take-drop, sum_by-set, sum_by-insert, sum_by-remove}
use Rattle.std.proofs.lemmas.Option.{slice_get-get_or}
use Rattle.bx_page.specs.declared.entry.Entry.{Entry}
use Rattle.bx_page.specs.Keys.{is_below, IsBelow}
use Rattle.bx_page.specs.Contents.{Contents, entry_size, size, IsEntry, Rises, IsPage, below, above, with_entry, with_value, without_key, value_of, half, first_half, other_half}
use Rattle.bx_page.specs.Places.{StandsAt, WouldStandAt}
use Rattle.bx_page.proofs.Order.{below_trans}
use Rattle.bx_page.proofs.Cuts.{All-take_below}

-- ---- order

pairs_head : {X : Type 0} (R : X → X → Type 0) (x : X) (xs : List X) → AllPairs R (x ∷ xs) → All (R x) xs
pairs_head R x xs a = λ k d lt. a 0 (suc k) d (omega arith) (omega arith)

pairs_tail : {X : Type 0} (R : X → X → Type 0) (x : X) (xs : List X) → AllPairs R (x ∷ xs) → AllPairs R xs
pairs_tail R x xs a = λ i j d lt within. a (suc i) (suc j) d (omega arith) (omega arith)

pairs_append : {X : Type 0} (R : X → X → Type 0) (xs ys : List X) → AllPairs R xs → AllPairs R ys → All (λ x. All (R x) ys) xs → AllPairs R (xs ++ ys)
pairs_append R [] ys a b across = b
pairs_append R (x ∷ xs) ys a b across =
    AllPairs-cons R x (xs ++ ys)
    (All-append (R x) xs ys (pairs_head R x xs a) (All-head (λ x. All (R x) ys) x xs across))
    (pairs_append R xs ys (pairs_tail R x xs a) b (All-tail (λ x. All (R x) ys) x xs across))

pub pairs_take : {X : Type 0} (R : X → X → Type 0) (n : ℕ) (xs : List X) → AllPairs R xs → AllPairs R (take n xs)
pairs_take R n xs a = λ i j d lt within.
    let j-below : j < n = omega (arith, length-take n xs) in
    let i-below : i < n = omega arith in
    rw (get_or-take n xs i d i-below, get_or-take n xs j d j-below) (a i j d lt (omega (arith, length-take n xs)))

pub pairs_drop : {X : Type 0} (R : X → X → Type 0) (n : ℕ) (xs : List X) → AllPairs R xs → AllPairs R (drop n xs)
pairs_drop R n xs a = λ i j d lt within.
    rw (get_or-drop n xs i d, get_or-drop n xs j d) (a (n + i) (n + j) d (omega arith) (omega (arith, length-drop n xs)))

below_key : (es : List Entry) (key : List ℕ) → All (λ e. IsBelow e.key key) (below es key)
below_key es key = filter_passes (λ e. is_below e.key key) es

above_key : (es : List Entry) (key : List ℕ) → All (λ e. IsBelow key e.key) (above es key)
above_key es key = filter_passes (λ e. is_below key e.key) es

rises_with : (es : List Entry) (e : Entry) → Rises es → Rises (below es e.key ++ e ∷ above es e.key)
rises_with es e rises =
    pairs_append (λ a b. IsBelow a.key b.key) (below es e.key) (e ∷ above es e.key)
    (AllPairs-filter (λ a b. IsBelow a.key b.key) (λ x. is_below x.key e.key) es rises)
    (AllPairs-cons (λ a b. IsBelow a.key b.key) e (above es e.key) (above_key es e.key) (AllPairs-filter (λ a b. IsBelow a.key b.key) (λ x. is_below e.key x.key) es rises))
    (All-weaker (λ x. IsBelow x.key e.key) (λ x. All (λ y. IsBelow x.key y.key) (e ∷ above es e.key))
    (λ x lt. All-cons (λ y. IsBelow x.key y.key) e (above es e.key) lt (All-weaker (λ y. IsBelow e.key y.key) (λ y. IsBelow x.key y.key) (λ y h. below_trans x.key e.key y.key lt h) (above es e.key) (above_key es e.key)))
    (below es e.key) (below_key es e.key))

rises_without : (es : List Entry) (key : List ℕ) → Rises es → Rises (below es key ++ above es key)
rises_without es key rises =
    pairs_append (λ a b. IsBelow a.key b.key) (below es key) (above es key)
    (AllPairs-filter (λ a b. IsBelow a.key b.key) (λ x. is_below x.key key) es rises)
    (AllPairs-filter (λ a b. IsBelow a.key b.key) (λ x. is_below key x.key) es rises)
    (All-weaker (λ x. IsBelow x.key key) (λ x. All (λ y. IsBelow x.key y.key) (above es key))
    (λ x lt. All-weaker (λ y. IsBelow key y.key) (λ y. IsBelow x.key y.key) (λ y h. below_trans x.key key y.key lt h) (above es key) (above_key es key))
    (below es key) (below_key es key))

-- ---- what holds of each entry

all_with : (P : Entry → Type 0) (es : List Entry) (e : Entry) → All P es → P e → All P (below es e.key ++ e ∷ above es e.key)
all_with P es e a p = All-append P (below es e.key) (e ∷ above es e.key) (All-filter (λ x. is_below x.key e.key) P es a) (All-cons P e (above es e.key) p (All-filter (λ x. is_below e.key x.key) P es a))

all_without : (P : Entry → Type 0) (es : List Entry) (key : List ℕ) → All P es → All P (below es key ++ above es key)
all_without P es key a = All-append P (below es key) (above es key) (All-filter (λ x. is_below x.key key) P es a) (All-filter (λ x. is_below key x.key) P es a)

high_with : (o : Option (List ℕ)) (es : List Entry) (e : Entry) → IfSome o (λ h. All (λ x. IsBelow x.key h) es) → IfSome o (λ h. IsBelow e.key h) → IfSome o (λ h. All (λ x. IsBelow x.key h) (below es e.key ++ e ∷ above es e.key))
high_with None es e a p = tt
high_with (Some h) es e a p = all_with (λ x. IsBelow x.key h) es e a p

high_without : (o : Option (List ℕ)) (es : List Entry) (key : List ℕ) → IfSome o (λ h. All (λ x. IsBelow x.key h) es) → IfSome o (λ h. All (λ x. IsBelow x.key h) (below es key ++ above es key))
high_without None es key a = tt
high_without (Some h) es key a = all_without (λ x. IsBelow x.key h) es key a

-- ---- put

pub with_page : (p : Contents) (key value : List ℕ) → IsPage p → length key ≤ 256 → length key + length value ≤ 268 → (0 < p.level → length value ≡ 8) → IfSome p.high (λ h. IsBelow key h) → size (with_value p key value) ≤ 4096 → IsPage (with_value p key value)
with_page p key value is k v child lt room =
    let e : Entry = record { key = key; value = value } in
    record {
      level = is.level;
      right = is.right;
      high = is.high;
      entries = all_with IsEntry p.entries e is.entries record { key = k; both = v };
      rises = rises_with p.entries e is.rises;
      below = high_with p.high p.entries e is.below lt;
      children = λ above. all_with (λ x. length x.value ≡ 8) p.entries e (is.children above) (child above);
      room = room;
    }

-- the entries where the value of a key is replaced
pub replaced_is : (es : List Entry) (e : Entry) (n : ℕ) → StandsAt es e.key n → set es n e ≡ below es e.key ++ e ∷ above es e.key
replaced_is es e n at = set_split es n e at.within ∙ rw (at.before, at.behind, add-one) refl

pub inserted_is : (es : List Entry) (e : Entry) (n : ℕ) → WouldStandAt es e.key n → insert es n e ≡ below es e.key ++ e ∷ above es e.key
inserted_is es e n at = rw (at.before, at.behind) refl

pub replaced_size : (es : List Entry) (e d : Entry) (n : ℕ) → StandsAt es e.key n → sum_by entry_size (below es e.key ++ e ∷ above es e.key) + entry_size (get_or es n d) ≡ sum_by entry_size es + entry_size e
replaced_size es e d n at = rw (← (replaced_is es e n at)) (sum_by-set entry_size es n e d at.within)

pub inserted_size : (es : List Entry) (e : Entry) (n : ℕ) → WouldStandAt es e.key n → sum_by entry_size (below es e.key ++ e ∷ above es e.key) ≡ sum_by entry_size es + entry_size e
inserted_size es e n at = rw (← (inserted_is es e n at)) (sum_by-insert entry_size es n e)

-- how much the page takes with the value
pub size_there : (p : Contents) (key value : List ℕ) (n : ℕ) (x : Entry) → StandsAt p.entries key n → x ≡ get_or p.entries n x → size (with_value p key value) + length x.value ≡ size p + length value
size_there p key value n x at is =
    let e : Entry = record { key = key; value = value } in
    let same : x.key ≡ key = ap (λ (y : Entry). y.key) is ∙ at.here x in
    let sum = rw (← is) at (replaced_size p.entries e x n at) in
    omega (arith, sum, ap length same)

pub size_missing : (p : Contents) (key value : List ℕ) (n : ℕ) → WouldStandAt p.entries key n → size (with_value p key value) ≡ size p + (4 + (length key + length value))
size_missing p key value n at =
    let e : Entry = record { key = key; value = value } in
    omega (arith, inserted_size p.entries e n at)

entry_is : (e : Entry) (key value : List ℕ) → e.key ≡ key → e.value ≡ value → e ≡ record { key = key; value = value }
entry_is e key value k v = rw (← k, ← v) refl

-- the page p is the value q of a struct, to which the conditions speak
pub put_page : (p q : Contents) (key value : List ℕ) (items : List Entry) → p ≡ q → IsPage p → length key ≤ 256 → length key + length value ≤ 268 → (0 < q.level → length value ≡ 8) → IfSome q.high (λ h. IsBelow key h) → size (with_value q key value) ≤ 4096
    → items ≡ with_entry p.entries key value → IsPage (record p { entries = items })
put_page p q key value items view is k v child lt room same =
    rw same (subst (λ (page : Contents). IsPage (with_value page key value)) (sym view) (with_page q key value (subst IsPage view is) k v child lt room))

-- the entries once the value is there
pub there_is : (es : List Entry) (key value : List ℕ) (n : ℕ) (e : Entry) → StandsAt es key n → e.key ≡ key → e.value ≡ value → set es n e ≡ with_entry es key value
there_is es key value n e at k v = ap (set es n) (entry_is e key value k v) ∙ replaced_is es record { key = key; value = value } n at

-- ---- take

pub removed_is : (es : List Entry) (key : List ℕ) (n : ℕ) → StandsAt es key n → remove es n ≡ below es key ++ above es key
removed_is es key n at = rw (at.before, at.behind, add-one) refl

pub lacking_is : (es : List Entry) (key : List ℕ) (n : ℕ) → WouldStandAt es key n → below es key ++ above es key ≡ es
lacking_is es key n at = rw (at.before, at.behind) (take-append-drop n es)

removed_size : (es : List Entry) (key : List ℕ) (n : ℕ) → StandsAt es key n → sum_by entry_size (below es key ++ above es key) ≤ sum_by entry_size es
removed_size es key n at =
    let d : Entry = record { key = []; value = [] } in
    rw (← (removed_is es key n at)) (omega (arith, sum_by-remove entry_size es n d at.within))

pub without_page : (p : Contents) (key : List ℕ) (n : ℕ) → IsPage p → StandsAt p.entries key n → IsPage (without_key p key)
without_page p key n is at = record {
  level = is.level;
  right = is.right;
  high = is.high;
  entries = all_without IsEntry p.entries key is.entries;
  rises = rises_without p.entries key is.rises;
  below = high_without p.high p.entries key is.below;
  children = λ above. all_without (λ x. length x.value ≡ 8) p.entries key (is.children above);
  room = omega (arith, is.room, removed_size p.entries key n at);
}

-- ---- halve

pub first_half_page : (p : Contents) (right : ℕ) → IsPage p → right < 2 ^ 64 → 2 ≤ length p.entries → IsPage (first_half p right)
first_half_page p right is fits two =
    let n = half p in
    let lt : n < length p.entries = omega arith in
    let d : Entry = record { key = []; value = [] } in
    let e = get_or p.entries n d in
    let high : option_map (λ (x : Entry). x.key) (slice_get p.entries n) ≡ Some e.key = ap (option_map (λ (x : Entry). x.key)) (slice_get-get_or p.entries n d lt) in
    let sum = sum_by-take-drop entry_size p.entries n in
    let rest : entry_size e ≤ sum_by entry_size (drop n p.entries) = rw (drop_more p.entries n d lt) (omega (arith, sum_by-cons entry_size e (drop (n + 1) p.entries))) in
    record {
      level = is.level;
      right = fits;
      high = rw high (is.entries n d lt).key;
      entries = All-take IsEntry n p.entries is.entries;
      rises = pairs_take (λ a b. IsBelow a.key b.key) n p.entries is.rises;
      below = rw high (All-take_below (λ x. IsBelow x.key e.key) p.entries n (omega arith) (λ k x below. rw (get_or_default p.entries n d x lt) (is.rises k n x below lt)));
      children = λ above. All-take (λ x. length x.value ≡ 8) n p.entries (is.children above);
      room = rw high (omega (arith, is.room, sum, rest));
    }

high_drop : (o : Option (List ℕ)) (es : List Entry) (n : ℕ) → IfSome o (λ h. All (λ x. IsBelow x.key h) es) → IfSome o (λ h. All (λ x. IsBelow x.key h) (drop n es))
high_drop None es n a = tt
high_drop (Some h) es n a = All-drop (λ x. IsBelow x.key h) n es a

pub other_half_page : (p : Contents) → IsPage p → IsPage (other_half p)
other_half_page p is = record {
  level = is.level;
  right = is.right;
  high = is.high;
  entries = All-drop IsEntry (half p) p.entries is.entries;
  rises = pairs_drop (λ a b. IsBelow a.key b.key) (half p) p.entries is.rises;
  below = high_drop p.high p.entries (half p) is.below;
  children = λ above. All-drop (λ x. length x.value ≡ 8) (half p) p.entries (is.children above);
  room = omega (arith, is.room, sum_by-take-drop entry_size p.entries (half p));
}

-- ---- values

pub value_there : (es : List Entry) (key : List ℕ) (n : ℕ) → StandsAt es key n → IsSome (value_of es key)
value_there es key n at =
    let d : Entry = record { key = []; value = [] } in
    rw (at.value, slice_get-get_or es n d at.within) refl

-- the high key of a page that was halved
pub middle_key : (p : Contents) (n : ℕ) (x : Entry) → n ≡ half p → n < length p.entries → x ≡ get_or p.entries n x → option_map (λ (e : Entry). e.key) (slice_get p.entries (half p)) ≡ Some x.key
middle_key p n x is lt at =
    ap (λ k. option_map (λ (e : Entry). e.key) (slice_get p.entries k)) (sym is)
    ∙ ap (option_map (λ (e : Entry). e.key)) (slice_get-get_or p.entries n x lt)
    ∙ ap (λ (e : Entry). Some e.key) (sym at)

pub slice_get-drop : (es : List Entry) (n : ℕ) → slice_get (drop n es) 0 ≡ slice_get es n
slice_get-drop es zero = refl
slice_get-drop [] (suc n) = refl
slice_get-drop (e ∷ es) (suc n) = slice_get-drop es n
