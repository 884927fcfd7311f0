-- Pages with an entry more or less, as they are written.
use Rattle.std.proofs.Common.{◌≡◌, ℕ, ◌+◌, ◌-◌, ◌≤◌, List, [], ◌∷◌, ◌++◌, length, take, drop, sum_by, Option, Some, None, refl, sym, ap, subst, ◌∙◌, append_assoc, arith}
use Rattle.std.specs.Prelude.{All, IsSome, IfSome, replicate}
use Rattle.std.specs.List.{flat_map}
use Rattle.std.proofs.lemmas.Grind.{flat_map-append}
use Rattle.std.proofs.lemmas.List.{take_at, drop_at, length-append}
use Rattle.std.proofs.lemmas.List.Concat.{flat_map-cons}
use Rattle.std.proofs.lemmas.List.Elements.{All-append, All-cons, All-head, All-tail, All-filter}
use Rattle.std.proofs.lemmas.List.Kept.{AllPairs-cons}
use Rattle.std.proofs.lemmas.List.Sums.{sum_by-cons, sum_by-append}
use Rattle.bx_base.specs.Writing.{Writes}
use Rattle.bx_base.proofs.Written.{writes_then}
use Rattle.bx_page.specs.declared.entry.Entry.{Entry}
use Rattle.bx_page.specs.Keys.{is_below, IsBelow}
use Rattle.bx_page.specs.Contents.{Contents, IsEntry, IsPage, Rises, entry_size, high_bytes, size, value_of, below, above, with_entry, with_value, without_key}
use Rattle.bx_page.specs.Spelling.{Spells, page_bytes, entry_bytes, numbers}
use Rattle.bx_page.proofs.Written.{front, length-front, length-entries, page_bytes_is, ended}
use Rattle.bx_page_bytes.specs.Pages.{head_bytes}
use Rattle.bx_page_bytes.proofs.Searches.{rises_behind, above_first}
use Rattle.bx_page_bytes.proofs.Cuts.{Cut, Parted, parted}

-- ---- lists without their middle

apart : {X : Type 0} (P : X → Type 0) (xs ys zs : List X) → All P (xs ++ (ys ++ zs)) → All P (xs ++ zs)
apart P [] [] zs all = all
apart P [] (y ∷ ys) zs all = apart P [] ys zs (All-tail P y (ys ++ zs) all)
apart P (x ∷ xs) ys zs all = All-cons P x (xs ++ zs) (All-head P x (xs ++ (ys ++ zs)) all) (apart P xs ys zs (All-tail P x (xs ++ (ys ++ zs)) all))

rises_apart : (xs ys zs : List Entry) → Rises (xs ++ (ys ++ zs)) → Rises (xs ++ zs)
rises_apart [] [] zs rises = rises
rises_apart [] (y ∷ ys) zs rises = rises_apart [] ys zs (rises_behind y (ys ++ zs) rises)
rises_apart (x ∷ xs) ys zs rises =
    AllPairs-cons (λ a b. IsBelow a.key b.key) x (xs ++ zs) (apart (λ b. IsBelow x.key b.key) xs ys zs (above_first x (xs ++ (ys ++ zs)) rises)) (rises_apart xs ys zs (rises_behind x (xs ++ (ys ++ zs)) rises))

-- ---- how much pages take

module _ (p : Contents) (key : List ℕ) (rises : Rises p.entries) where
  parts : Parted p.entries key
  parts = parted p.entries key rises

  sums : sum_by entry_size p.entries ≡ sum_by entry_size (below p.entries key) + (sum_by entry_size parts.same + sum_by entry_size (above p.entries key))
  sums =
      let whole = ap (sum_by entry_size) parts.parts in
      let one = sum_by-append entry_size (below p.entries key) (parts.same ++ above p.entries key) in
      let other = sum_by-append entry_size parts.same (above p.entries key) in
      omega (arith, whole, one, other)

  counts : length p.entries ≡ length (below p.entries key) + (length parts.same + length (above p.entries key))
  counts =
      let whole = ap length parts.parts in
      let one = length-append (below p.entries key) (parts.same ++ above p.entries key) in
      let other = length-append parts.same (above p.entries key) in
      omega (arith, whole, one, other)

  pub size_more : (value : List ℕ) → value_of p.entries key ≡ None → size (with_value p key value) ≡ size p + (4 + (length key + length value))
  size_more value absent =
      let e : Entry = record { key = key; value = value } in
      let none : sum_by entry_size parts.same ≡ 0 = ap (sum_by entry_size) (parts.absent absent) in
      let all = sums in
      omega (arith, all, none, sum_by-append entry_size (below p.entries key) (e ∷ above p.entries key), sum_by-cons entry_size e (above p.entries key))

  -- the parts of a page with one entry more
  pub record PartsFit (value : List ℕ) : Type 0 where
    pub all : 16 + length (high_bytes p.high) + (length (flat_map entry_bytes (below p.entries key)) + (4 + (length key + length value) + length (flat_map entry_bytes (above p.entries key)))) ≡ size p + (4 + (length key + length value))

  pub size_with : (value : List ℕ) → value_of p.entries key ≡ None → PartsFit value
  size_with value absent =
      let none : sum_by entry_size parts.same ≡ 0 = ap (sum_by entry_size) (parts.absent absent) in
      let all = sums in
      record { all = omega (arith, all, none, length-entries (below p.entries key), length-entries (above p.entries key)) }

  -- without the key's entry they take no more
  pub size_apart : 16 + length (high_bytes p.high) + (length (flat_map entry_bytes (below p.entries key)) + length (flat_map entry_bytes (above p.entries key))) ≤ size p
  size_apart =
      let all = sums in
      omega (arith, all, length-entries (below p.entries key), length-entries (above p.entries key))

  pub count_more : (value : List ℕ) → value_of p.entries key ≡ None → length (with_entry p.entries key value) ≡ length p.entries + 1
  count_more value absent =
      let e : Entry = record { key = key; value = value } in
      let none : length parts.same ≡ 0 = ap length (parts.absent absent) in
      let all = counts in
      omega (arith, all, none, length-append (below p.entries key) (e ∷ above p.entries key))

  pub size_less : size (without_key p key) ≤ size p
  size_less =
      let all = sums in
      omega (arith, all, sum_by-append entry_size (below p.entries key) (above p.entries key))

  pub count_less : IsSome (value_of p.entries key) → length (without_key p key).entries ≡ length p.entries - 1
  count_less some =
      let one : length parts.same ≡ 1 = parts.present some in
      let all = counts in
      omega (arith, all, one, length-append (below p.entries key) (above p.entries key))

  -- the entries without the key's rise
  pub rises_less : Rises (below p.entries key ++ above p.entries key)
  rises_less = rises_apart (below p.entries key) parts.same (above p.entries key) (subst Rises parts.parts rises)

  -- ---- the bytes around a key

  flat_parts : flat_map entry_bytes p.entries ≡ flat_map entry_bytes (below p.entries key) ++ (flat_map entry_bytes parts.same ++ flat_map entry_bytes (above p.entries key))
  flat_parts =
      ap (flat_map entry_bytes) parts.parts
      ∙ flat_map-append entry_bytes (below p.entries key) (parts.same ++ above p.entries key)
      ∙ ap (λ (t : List ℕ). flat_map entry_bytes (below p.entries key) ++ t) (flat_map-append entry_bytes parts.same (above p.entries key))

  pub front_is : (before behind : ℕ) → Cut p.entries key before behind → take before (flat_map entry_bytes p.entries) ≡ flat_map entry_bytes (below p.entries key)
  front_is before behind cut =
      ap (take before) flat_parts ∙ take_at (flat_map entry_bytes (below p.entries key)) (flat_map entry_bytes parts.same ++ flat_map entry_bytes (above p.entries key)) before (length-entries (below p.entries key) ∙ sym cut.before_is)

  pub back_is : (before behind : ℕ) → Cut p.entries key before behind → drop behind (flat_map entry_bytes p.entries) ≡ flat_map entry_bytes (above p.entries key)
  back_is before behind cut =
      let front = flat_map entry_bytes (below p.entries key) in
      let middle = flat_map entry_bytes parts.same in
      let back = flat_map entry_bytes (above p.entries key) in
      let whole = sums in
      let cut_is = cut.behind_is in
      let len : length (front ++ middle) ≡ behind = omega (arith, length-append front middle, length-entries (below p.entries key), length-entries parts.same, whole, cut_is) in
      ap (drop behind) (flat_parts ∙ sym (append_assoc front middle back)) ∙ drop_at (front ++ middle) back behind len

all_less : (P : Entry → Type 0) (es : List Entry) (key : List ℕ) → All P es → All P (below es key ++ above es key)
all_less P es key all = All-append P (below es key) (above es key) (All-filter (λ x. is_below x.key key) P es all) (All-filter (λ x. is_below key x.key) P es all)

high_less : (o : Option (List ℕ)) (es : List Entry) (key : List ℕ) → IfSome o (λ h. All (λ x. IsBelow x.key h) es) → IfSome o (λ h. All (λ x. IsBelow x.key h) (below es key ++ above es key))
high_less None es key all = tt
high_less (Some h) es key all = all_less (λ x. IsBelow x.key h) es key all

-- a page without a key's entry is a page
pub page_less : (p : Contents) (key : List ℕ) → IsPage p → IsPage (without_key p key)
page_less p key is = record {
  level = is.level;
  right = is.right;
  high = is.high;
  entries = all_less IsEntry p.entries key is.entries;
  rises = rises_less p key is.rises;
  below = high_less p.high p.entries key is.below;
  children = λ above. all_less (λ x. length x.value ≡ 8) p.entries key (is.children above);
  room = (let most = is.room in omega (arith, most, size_less p key is.rises));
}

-- the bytes of a page up to its zeros, and behind its head
pub used_is : (p : Contents) (payload : List ℕ) (room : ℕ) → Spells p payload → room + size p ≡ 4096 → take (4096 - room) payload ≡ front p
used_is p payload room spells rest =
    ap (take (4096 - room)) (spells.parts ∙ page_bytes_is p) ∙ take_at (front p) (replicate (4096 - size p) 0) (4096 - room) (omega (arith, length-front p, rest))

pub entries_are : (p : Contents) → drop (16 + length (high_bytes p.high)) (front p) ≡ flat_map entry_bytes p.entries
entries_are p =
    ap (drop (16 + length (high_bytes p.high))) (sym (append_assoc (numbers p) (high_bytes p.high) (flat_map entry_bytes p.entries)))
    ∙ drop_at (numbers p ++ high_bytes p.high) (flat_map entry_bytes p.entries) (16 + length (high_bytes p.high)) (omega (arith, length-append (numbers p) (high_bytes p.high)))

pub behind_head : (p : Contents) (payload used entries : List ℕ) (room head : ℕ) → Spells p payload → room + size p ≡ 4096 → head ≡ 16 + length (high_bytes p.high)
    → used ≡ take (4096 - room) payload → entries ≡ drop head used → entries ≡ flat_map entry_bytes p.entries
behind_head p payload used entries room head spells rest head_is used_at entries_at =
    entries_at ∙ ap (drop head) (used_at ∙ used_is p payload room spells rest) ∙ ap (λ (n : ℕ). drop n (front p)) head_is ∙ entries_are p

pub before-le : (es : List Entry) (key : List ℕ) (before behind : ℕ) → Rises es → Cut es key before behind → before ≤ length (flat_map entry_bytes es)
before-le es key before behind rises cut =
    let p : Contents = record { level = 0; right = 0; high = None; entries = es } in
    let all = sums p key rises in
    let front = cut.before_is in
    omega (arith, all, front, length-entries es)

pub behind-le : (es : List Entry) (key : List ℕ) (before behind : ℕ) → Cut es key before behind → behind ≤ length (flat_map entry_bytes es)
behind-le es key before behind cut = let back = cut.behind_is in omega (arith, back, length-entries es)

-- ---- what is written

-- a head and the bytes of entries are the front of a page
pub front_of : (q : Contents) (count : ℕ) (text : List ℕ) → count ≡ length q.entries → text ≡ flat_map entry_bytes q.entries → head_bytes q.level count q.right q.high ++ text ≡ front q
front_of q count text count_is text_is = rw (count_is, text_is) refl

pub written_more : (p : Contents) (key value : List ℕ) (count : ℕ) (old b1 b2 b3 b4 last x y : List ℕ) (a1 a2 a3 a4 : ℕ) → Rises p.entries → value_of p.entries key ≡ None → count ≡ length p.entries + 1
    → x ≡ flat_map entry_bytes (below p.entries key) → y ≡ flat_map entry_bytes (above p.entries key)
    → Writes old b1 0 a1 (head_bytes p.level count p.right p.high) → Writes b1 b2 a1 a2 x → Writes b2 b3 a2 a3 (entry_bytes (record { key = key; value = value })) → Writes b3 b4 a3 a4 y
    → length old ≡ 4096 → last ≡ take a4 b4 ++ replicate (length b4 - a4) 0 → last ≡ page_bytes (with_value p key value)
written_more p key value count old b1 b2 b3 b4 last x y a1 a2 a3 a4 rises absent count_is x_is y_is w1 w2 w3 w4 len is =
    let e : Entry = record { key = key; value = value } in
    let q = with_value p key value in
    let text : x ++ (entry_bytes e ++ y) ≡ flat_map entry_bytes q.entries =
    ap (λ (t : List ℕ). t ++ (entry_bytes e ++ y)) x_is ∙ ap (λ (t : List ℕ). flat_map entry_bytes (below p.entries key) ++ (entry_bytes e ++ t)) y_is
    ∙ ap (λ (t : List ℕ). flat_map entry_bytes (below p.entries key) ++ t) (sym (flat_map-cons entry_bytes e (above p.entries key)))
    ∙ sym (flat_map-append entry_bytes (below p.entries key) (e ∷ above p.entries key)) in
    let same : head_bytes q.level count q.right q.high ++ (x ++ (entry_bytes e ++ y)) ≡ front q = front_of q count (x ++ (entry_bytes e ++ y)) (count_is ∙ sym (count_more p key rises value absent)) text in
    let all = writes_then old b1 b4 0 a1 a4 (head_bytes p.level count p.right p.high) _ w1 (writes_then b1 b2 b4 a1 a2 a4 x _ w2 (writes_then b2 b3 b4 a2 a3 a4 (entry_bytes e) y w3 w4)) in
    ended q old b4 last a4 (subst (Writes old b4 0 a4) same all) len is

pub written_less : (p : Contents) (key : List ℕ) (count : ℕ) (old b1 b2 b3 last x y : List ℕ) (a1 a2 a3 : ℕ) → Rises p.entries → IsSome (value_of p.entries key) → count ≡ length p.entries - 1
    → x ≡ flat_map entry_bytes (below p.entries key) → y ≡ flat_map entry_bytes (above p.entries key)
    → Writes old b1 0 a1 (head_bytes p.level count p.right p.high) → Writes b1 b2 a1 a2 x → Writes b2 b3 a2 a3 y
    → length old ≡ 4096 → last ≡ take a3 b3 ++ replicate (length b3 - a3) 0 → last ≡ page_bytes (without_key p key)
written_less p key count old b1 b2 b3 last x y a1 a2 a3 rises some count_is x_is y_is w1 w2 w3 len is =
    let q = without_key p key in
    let text : x ++ y ≡ flat_map entry_bytes q.entries =
    ap (λ (t : List ℕ). t ++ y) x_is ∙ ap (λ (t : List ℕ). flat_map entry_bytes (below p.entries key) ++ t) y_is
    ∙ sym (flat_map-append entry_bytes (below p.entries key) (above p.entries key)) in
    let same : head_bytes q.level count q.right q.high ++ (x ++ y) ≡ front q = front_of q count (x ++ y) (count_is ∙ sym (count_less p key rises some)) text in
    let all = writes_then old b1 b3 0 a1 a3 (head_bytes p.level count p.right p.high) _ w1 (writes_then b1 b2 b3 a1 a2 a3 x y w2 w3) in
    ended q old b3 last a3 (subst (Writes old b3 0 a3) same all) len is
