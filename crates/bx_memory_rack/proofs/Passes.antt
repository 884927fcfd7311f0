-- A pass over the cells of a disk, in the order of their sectors: what was written to each, and what each sector is then.
use Rattle.std.proofs.Common.{◌≡◌, ◌∙◌, ℕ, zero, suc, ◌+◌, ◌<◌, ◌≤◌, Bool, true, false, List, [], ◌∷◌, arith, sym, ap, refl}
use Rattle.std.specs.Prelude.{Option, Some, None, ◌==◌, ◌&&◌, nat_lt, if◌then◌else◌, cond, unwrap_or}
use Rattle.std.specs.Option.{option_map}
use Rattle.std.specs.Ordering.{nat_cmp}
use Rattle.std.specs.declared.cmp.Ordering.TheVariants.{Less}
use Rattle.std.specs.List.{AllByRecursion}
use Rattle.std.specs.List.Sorted.{IsStrictlySortedBy}
use Rattle.std.specs.Map.{keys_of, lookup}
use Rattle.std.specs.Map.Calls.{RetainsPairs}
use Rattle.std.specs.BTreeMap.{BTreeMap, IsOrdered, is_at}
use Rattle.std.proofs.lemmas.Map.Made.{map_same_pairs, lookup-map_values}
use Rattle.std.proofs.lemmas.Map.Keys.{sorted_head, sorted_tail}
use Rattle.std.proofs.lemmas.Bool.Decides.{nat_tests}
use Rattle.rand_pcg.specs.Lcg.{Lcg}
use Rattle.bx_disk.specs.Crash.{drawn, after_sectors, count_below, noise_at}
use Rattle.bx_memory_rack.specs.Cells.{cell_at, blank_cell, is_unsure, left_cell}
use Rattle.bx_memory_rack.specs.declared.cell.Cell.{Cell}

-- a sector that was never written isn't unsure
pub blank_sure : (synced : ℕ) → is_unsure synced blank_cell ≡ false
blank_sure synced = grind (arith, nat_tests)

pub blank_left : (synced : ℕ) (content : List ℕ) → left_cell synced blank_cell content ≡ blank_cell
blank_left synced content = rw (blank_sure synced) refl

-- what is written to each cell that was written, and to none that wasn't
at_option : (g : Cell → Cell) (o : Option Cell) → g blank_cell ≡ blank_cell → unwrap_or (option_map g o) blank_cell ≡ g (unwrap_or o blank_cell)
at_option g None blank = sym blank
at_option g (Some cell) blank = refl

-- Each cell was written by itself.
pub cells_mapped : {F : Type 0} (T : F → ℕ → Cell → Bool → Cell → F → Type 0) (g : Cell → Cell) (f : F)
    → ((k : ℕ) (v : Cell) (b : Bool) (w : Cell) (f' : F) → T f k v b w f' → (b ≡ true) × (w ≡ g v) × (f' ≡ f))
    → g blank_cell ≡ blank_cell → (old new : BTreeMap ℕ Cell) → RetainsPairs T f old.entries new.entries
    → (s : ℕ) → cell_at new s ≡ g (cell_at old s)
cells_mapped T g f told blank old new kept s =
    ap (λ (es : List (ℕ × Cell)). unwrap_or (lookup (is_at (nat_cmp s)) es) blank_cell) (map_same_pairs T g f told old.entries new.entries kept)
    ∙ ap (λ (o : Option Cell). unwrap_or o blank_cell) (lookup-map_values g (is_at (nat_cmp s)) old.entries)
    ∙ at_option g (lookup (is_at (nat_cmp s)) old.entries) blank

-- the generator once it has passed a cell
abbrev pub past_cell : ℕ → Cell → Lcg → Lcg
past_cell synced cell generator = if is_unsure synced cell then (drawn generator).1 else generator

-- the cells once noise was left in those that are unsure
abbrev filled : ℕ → Lcg → List (ℕ × Cell) → List (ℕ × Cell)
filled synced generator [] = []
filled synced generator (e ∷ es) = (e.0, left_cell synced e.1 (drawn generator).0) ∷ filled synced (past_cell synced e.1 generator) es

filled_from_retain : {F : Type 0} (T : F → ℕ → Cell → Bool → Cell → F → Type 0) (I : F → Type 0) (generator : F → Lcg) (synced : ℕ)
    → ((f : F) (k : ℕ) (v : Cell) (b : Bool) (w : Cell) (f' : F) → I f → T f k v b w f'
    → (b ≡ true) × (w ≡ left_cell synced v (drawn (generator f)).0) × (generator f' ≡ past_cell synced v (generator f)) × I f')
    → (f : F) (es kept : List (ℕ × Cell)) → I f → RetainsPairs T f es kept → kept ≡ filled synced (generator f) es
filled_from_retain T I generator synced told f [] kept i ran = ran
filled_from_retain T I generator synced told f (e ∷ es) kept i ran =
    let call = told f e.0 e.1 ran.0 ran.1 ran.2 i ran.4 in
    let rest = filled_from_retain T I generator synced told ran.2 es ran.3 call.3 ran.5 in
    ran.6 ∙ ap (λ b. cond b ((e.0, ran.1) ∷ ran.3) ran.3) call.0
    ∙ ap (λ (w : Cell). (e.0, w) ∷ ran.3) call.1
    ∙ ap (λ (l : List (ℕ × Cell)). (e.0, left_cell synced e.1 (drawn (generator f)).0) ∷ l) (rest ∙ ap (λ (g : Lcg). filled synced g es) call.2)

-- how many unsure cells there are below a sector
abbrev unsure_below : ℕ → List (ℕ × Cell) → ℕ → ℕ
unsure_below synced [] s = 0
unsure_below synced (e ∷ es) s = (if nat_lt e.0 s && is_unsure synced e.1 then 1 else 0) + unsure_below synced es s

after_one : (generator : Lcg) (n : ℕ) → after_sectors (drawn generator).1 n ≡ after_sectors generator (suc n)
after_one generator zero = refl
after_one generator (suc n) = ap (λ (g : Lcg). (drawn g).1) (after_one generator n)

after_past : (b : Bool) (generator : Lcg) (n : ℕ) → after_sectors (if b then (drawn generator).1 else generator) n ≡ after_sectors generator ((if b then 1 else 0) + n)
after_past true generator n = let same : suc n ≡ 1 + n = omega arith in after_one generator n ∙ ap (after_sectors generator) same
after_past false generator n = let same : n ≡ 0 + n = omega arith in ap (after_sectors generator) same

-- where a sector stands beside the cell at k
below_apart : (s k : ℕ) → s < k → is_at (nat_cmp s) k ≡ false
below_apart s k less = grind (arith, nat_tests)

above_apart : (s k : ℕ) → k < s → is_at (nat_cmp s) k ≡ false
above_apart s k less = grind (arith, nat_tests)

apart_from : (s k : ℕ) → (s == k) ≡ false → is_at (nat_cmp s) k ≡ false
apart_from s k is = grind (arith, nat_tests)

here_equal : (k : ℕ) → is_at (nat_cmp k) k ≡ true
here_equal k = grind (arith, nat_tests)

less_is : (a b : ℕ) → nat_cmp a b ≡ Less → a < b
less_is a b is = grind (arith, nat_tests)

abbrev AreAbove : ℕ → List (ℕ × Cell) → Type 0
AreAbove k es = AllByRecursion (λ y. nat_cmp k y ≡ Less) (keys_of es)

-- no cell stands at a sector that is at most k, where all cells are above k
none_at : (k s : ℕ) (es : List (ℕ × Cell)) → AreAbove k es → s ≤ k → lookup (is_at (nat_cmp s)) es ≡ None
none_at k s [] above le = refl
none_at k s (e ∷ es) above le =
    let less = less_is k e.0 above.0 in
    let apart = below_apart s e.0 (omega arith) in
    rw apart (none_at k s es above.1 le)

none_below : (synced k s : ℕ) (es : List (ℕ × Cell)) → AreAbove k es → s ≤ k → unsure_below synced es s ≡ 0
none_below synced k s [] above le = refl
none_below synced k s (e ∷ es) above le =
    let less = less_is k e.0 above.0 in
    let apart : nat_lt e.0 s ≡ false = grind (arith, nat_tests, less, le) in
    rw apart (let rest = none_below synced k s es above.1 le in omega arith)

-- what a sector's cell is once the noise was left
abbrev noisy : ℕ → Lcg → ℕ → Cell → Cell
noisy synced generator n cell = left_cell synced cell (drawn (after_sectors generator n)).0

abbrev IsFilledAt : ℕ → Lcg → List (ℕ × Cell) → ℕ → Type 0
IsFilledAt synced generator es s = lookup (is_at (nat_cmp s)) (filled synced generator es) ≡ option_map (noisy synced generator (unsure_below synced es s)) (lookup (is_at (nat_cmp s)) es)

-- one cell more in front
filled_more : (synced : ℕ) (generator : Lcg) (e : ℕ × Cell) (es : List (ℕ × Cell)) (s : ℕ) → AreAbove e.0 es
    → IsFilledAt synced (past_cell synced e.1 generator) es s → IsFilledAt synced generator (e ∷ es) s
filled_more synced generator e es s above rest = side (nat_lt s e.0) (s == e.0) refl refl
  where
    side : (less same : Bool) → nat_lt s e.0 ≡ less → (s == e.0) ≡ same → IsFilledAt synced generator (e ∷ es) s
    side true same less is =
        let le : s ≤ e.0 = grind (arith, nat_tests, less) in
        let none = none_at e.0 s es above le in
        let apart = below_apart s e.0 (grind (arith, nat_tests, less)) in
        rw (apart, none) (rest ∙ rw none refl)
    side false true less is =
        let equal : s ≡ e.0 = grind (arith, nat_tests, is) in
        let here : is_at (nat_cmp s) e.0 ≡ true = rw equal (here_equal e.0) in
        let first : nat_lt e.0 s ≡ false = grind (arith, nat_tests, equal) in
        let none : unsure_below synced es s ≡ 0 = none_below synced e.0 s es above (omega arith) in
        let count : unsure_below synced (e ∷ es) s ≡ 0 = rw (first, none) refl in
        rw (count, here) refl
    side false false less is =
        let past : e.0 < s = grind (arith, nat_tests, less, is) in
        let apart = above_apart s e.0 past in
        let first : nat_lt e.0 s ≡ true = grind (arith, nat_tests, past) in
        rw apart (rest ∙ ap (λ (g : Lcg). option_map (λ (cell : Cell). left_cell synced cell (drawn g).0) (lookup (is_at (nat_cmp s)) es))
        (after_past (is_unsure synced e.1) generator (unsure_below synced es s) ∙ rw first refl))

filled_at : (synced : ℕ) (generator : Lcg) (es : List (ℕ × Cell)) (s : ℕ) → IsStrictlySortedBy nat_cmp (keys_of es) → IsFilledAt synced generator es s
filled_at synced generator [] s sorted = refl
filled_at synced generator (e ∷ es) s sorted =
    filled_more synced generator e es s (sorted_head nat_cmp e.0 (keys_of es) sorted) (filled_at synced (past_cell synced e.1 generator) es s (sorted_tail nat_cmp e.0 (keys_of es) sorted))

-- Two tests that differ at one number alone: how many numbers below another pass them.
count_step : (test other : ℕ → Bool) (k : ℕ) (b : Bool) (s : ℕ) → ((t : ℕ) → (t == k) ≡ false → test t ≡ other t) → test k ≡ b → other k ≡ false
    → count_below test s ≡ (if nat_lt k s && b then 1 else 0) + count_below other s
    → count_below test (suc s) ≡ (if nat_lt k (suc s) && b then 1 else 0) + count_below other (suc s)
count_step test other k b s same here none before = side (s == k) refl
  where
    side : (at_k : Bool) → (s == k) ≡ at_k → count_below test (suc s) ≡ (if nat_lt k (suc s) && b then 1 else 0) + count_below other (suc s)
    side true is =
        let equal : s ≡ k = grind (arith, nat_tests, is) in
        let not_yet : nat_lt k s ≡ false = grind (arith, nat_tests, equal) in
        let now : nat_lt k (suc s) ≡ true = grind (arith, nat_tests, equal) in
        let passes : test s ≡ b = rw equal here in
        let fails : other s ≡ false = rw equal none in
        let count = rw not_yet at before in
        rw (passes, fails, now) (omega arith)
    side false is =
        let alike = same s is in
        let later : nat_lt k (suc s) ≡ nat_lt k s = grind (arith, nat_tests, is) in
        rw (alike, later) (omega arith)

count_one : (test other : ℕ → Bool) (k : ℕ) (b : Bool) → ((t : ℕ) → (t == k) ≡ false → test t ≡ other t) → test k ≡ b → other k ≡ false
    → (s : ℕ) → count_below test s ≡ (if nat_lt k s && b then 1 else 0) + count_below other s
count_one test other k b same here none zero = let nothing : nat_lt k 0 ≡ false = grind (arith, nat_tests) in rw nothing refl
count_one test other k b same here none (suc s) = count_step test other k b s same here none (count_one test other k b same here none s)

count_same : (test other : ℕ → Bool) → ((t : ℕ) → test t ≡ other t) → (s : ℕ) → count_below test s ≡ count_below other s
count_same test other same zero = refl
count_same test other same (suc s) = rw (same s, count_same test other same s) refl

-- whether a sector is unsure by the cells
abbrev unsure_in : ℕ → List (ℕ × Cell) → ℕ → Bool
unsure_in synced es t = is_unsure synced (unwrap_or (lookup (is_at (nat_cmp t)) es) blank_cell)

count_none : (synced s : ℕ) → count_below (unsure_in synced []) s ≡ 0
count_none synced zero = refl
count_none synced (suc s) = rw (count_none synced s, blank_sure synced) refl

tail_alike : (synced : ℕ) (e : ℕ × Cell) (es : List (ℕ × Cell)) (t : ℕ) → (t == e.0) ≡ false → unsure_in synced (e ∷ es) t ≡ unsure_in synced es t
tail_alike synced e es t is =
    let apart : is_at (nat_cmp t) e.0 ≡ false = apart_from t e.0 is in
    rw apart refl

head_unsure : (synced : ℕ) (e : ℕ × Cell) (es : List (ℕ × Cell)) → unsure_in synced (e ∷ es) e.0 ≡ is_unsure synced e.1
head_unsure synced e es = rw (here_equal e.0) refl

none_unsure_at : (synced k : ℕ) (es : List (ℕ × Cell)) → AreAbove k es → unsure_in synced es k ≡ false
none_unsure_at synced k es above = rw (none_at k k es above (omega arith)) (blank_sure synced)

below_is_count : (synced : ℕ) (es : List (ℕ × Cell)) (s : ℕ) → IsStrictlySortedBy nat_cmp (keys_of es) → unsure_below synced es s ≡ count_below (unsure_in synced es) s
below_is_count synced [] s sorted = sym (count_none synced s)
below_is_count synced (e ∷ es) s sorted =
    let above = sorted_head nat_cmp e.0 (keys_of es) sorted in
    let rest = below_is_count synced es s (sorted_tail nat_cmp e.0 (keys_of es) sorted) in
    ap (λ (n : ℕ). (if nat_lt e.0 s && is_unsure synced e.1 then 1 else 0) + n) rest
    ∙ sym (count_one (unsure_in synced (e ∷ es)) (unsure_in synced es) e.0 (is_unsure synced e.1) (λ t apart. tail_alike synced e es t apart) (head_unsure synced e es)
    (none_unsure_at synced e.0 es above) s)

-- Noise was left in the unsure cells, in the order of their sectors.
pub cells_filled : {F : Type 0} (T : F → ℕ → Cell → Bool → Cell → F → Type 0) (I : F → Type 0) (generator : F → Lcg) (synced : ℕ)
    → ((f : F) (k : ℕ) (v : Cell) (b : Bool) (w : Cell) (f' : F) → I f → T f k v b w f'
    → (b ≡ true) × (w ≡ left_cell synced v (drawn (generator f)).0) × (generator f' ≡ past_cell synced v (generator f)) × I f')
    → (f : F) → I f → (old new : BTreeMap ℕ Cell) → IsOrdered nat_cmp old → RetainsPairs T f old.entries new.entries
    → (s : ℕ) → cell_at new s ≡ left_cell synced (cell_at old s) (noise_at (λ t. is_unsure synced (cell_at old t)) (generator f) s)
cells_filled T I generator synced told f i old new sorted kept s =
    ap (λ (es : List (ℕ × Cell)). unwrap_or (lookup (is_at (nat_cmp s)) es) blank_cell) (filled_from_retain T I generator synced told f old.entries new.entries i kept)
    ∙ ap (λ (o : Option Cell). unwrap_or o blank_cell) (filled_at synced (generator f) old.entries s sorted)
    ∙ at_option (noisy synced (generator f) (unsure_below synced old.entries s)) (lookup (is_at (nat_cmp s)) old.entries) (blank_left synced (drawn (after_sectors (generator f) (unsure_below synced old.entries s))).0)
    ∙ ap (λ (n : ℕ). noisy synced (generator f) n (cell_at old s)) (below_is_count synced old.entries s sorted)
