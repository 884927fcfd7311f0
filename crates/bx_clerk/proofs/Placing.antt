-- The line of the blocks that are asked back, where one is put or a block is taken out.
use Rattle.std.proofs.Common.{◌≡◌, ℕ, ◌+◌, ◌<◌, ◌≤◌, ltb, ◌==◌, ◌||◌, not, Bool, true, false, List, [], ◌∷◌, length, insert, Option, Some, None, Vec, Global, if◌then◌else◌, refl, sym, ap, subst, ◌∙◌, arith}
use Rattle.std.specs.Prelude.{filter}
use Rattle.std.specs.List.{AllByRecursion, list_any}
use Rattle.std.specs.List.Sorted.{IsStrictlySortedBy}
use Rattle.std.specs.BTreeMap.{BTreeMap, IsOrdered, UpdatesBy, get, insert_entry, is_at as is_at_key}
use Rattle.std.specs.Map.{keys_of, remove_entry}
use Rattle.std.specs.declared.cmp.Ordering.TheVariants.{Less, Greater}
use Rattle.std.specs.Ordering.{is_eq, nat_cmp}
use Rattle.std.proofs.lemmas.Bool.{eqb-true}
use Rattle.std.proofs.lemmas.Bool.Decides.{nat_tests}
use Rattle.bx_facts.specs.Holds.{without_block}
use Rattle.bx_clerk.specs.Requests.{is_asked, put_ask, with_ask}
use Rattle.bx_clerk.specs.Places.{AreAsks, Line, Place, asks_of, is_at, items_or_none, key_cmp, place_in, places_at, put_place, without_places}

-- ---- places

same_key : (k : Place) → is_at_key (key_cmp k) k ≡ true
same_key k = grind (arith, nat_tests)

less_key : (j k : Place) → key_cmp j k ≡ Less → is_at_key (key_cmp k) j ≡ false
less_key j k h = grind (arith, nat_tests)

-- of a lower session: it comes before
before : (j k : Place) → ltb j.0 k.0 ≡ true → key_cmp j k ≡ Less
before j k h = grind (arith, nat_tests, h)

-- of a session that isn't lower, and of a higher turn: it comes behind
behind : (j k : Place) → ltb j.0 k.0 ≡ false → k.1 < j.1 → key_cmp j k ≡ Greater
behind j k h t = grind (arith, nat_tests, h, t)

greater_key : (j k : Place) → key_cmp j k ≡ Greater → is_at_key (key_cmp j) k ≡ false
greater_key j k h = grind (arith, nat_tests)

before_all : (asking : ℕ) (j k : Place) → ltb asking j.0 ≡ true → key_cmp j k ≡ Less → ltb asking k.0 ≡ true
before_all asking j k h less = grind (arith, nat_tests, h)

-- ---- where a place is put

put_there : (places : List Place) (place : Place) → insert places (place_in place.0 places) place ≡ put_place place places
put_there [] place = refl
put_there (one ∷ rest) place = grind (arith, put_there rest place)

pub place_within : (places : List Place) (asking : ℕ) → place_in asking places ≤ length places
place_within [] asking = omega arith
place_within (one ∷ rest) asking = grind (arith, place_within rest asking)

pub put_new : (places new : List Place) (place : Place) (index : ℕ) → index ≡ place_in place.0 places → new ≡ insert places index place → new ≡ put_place place places
put_new places new place index at is = is ∙ ap (λ (n : ℕ). insert places n place) at ∙ put_there places place

put_front : (place : Place) (places : List Place) → AllByRecursion (λ one. ltb place.0 one.0 ≡ true) places → put_place place places ≡ place ∷ places
put_front place [] h = refl
put_front place (one ∷ rest) h = rw h.0 refl

-- ---- what is kept of a list

filter_out : {X : Type 0} (p : X → Bool) (x : X) (xs : List X) → p x ≡ false → filter p (x ∷ xs) ≡ filter p xs
filter_out p x xs t = rw t refl

filter_in : {X : Type 0} (p : X → Bool) (x : X) (xs : List X) → p x ≡ true → filter p (x ∷ xs) ≡ x ∷ filter p xs
filter_in p x xs t = rw t refl

keys_kept : (P : Place → Type 0) (p : Place × ℕ → Bool) (line : Line) → AllByRecursion P (keys_of line) → AllByRecursion P (keys_of (filter p line))
keys_kept P p [] h = tt
keys_kept P p (x ∷ xs) h = (elim (p x) as (λ b. p x ≡ b → AllByRecursion P (keys_of (filter p (x ∷ xs)))) [
  | true ↦ λ t. rw t (h.0, keys_kept P p xs h.1)
  | false ↦ λ t. rw t (keys_kept P p xs h.1)
]) refl

all_weaker : (P Q : Place → Type 0) (places : List Place) → ((k : Place) → P k → Q k) → AllByRecursion P places → AllByRecursion Q places
all_weaker P Q [] f h = tt
all_weaker P Q (k ∷ ks) f h = (f k h.0, all_weaker P Q ks f h.1)

-- ---- whether a session asks

pub asked_found : (block asking : ℕ) (line : Line) → list_any (λ place. place.0 == asking) (keys_of (filter (is_at block) line)) ≡ is_asked (block, asking) (asks_of line)
asked_found block asking [] = refl
asked_found block asking (x ∷ xs) = (elim (x.1 == block) as (λ b. (x.1 == block) ≡ b → list_any (λ place. place.0 == asking) (keys_of (filter (is_at block) (x ∷ xs))) ≡ is_asked (block, asking) (asks_of (x ∷ xs))) [
  | true ↦ λ t. rw t (ap (λ (b : Bool). (x.0.0 == asking) || b) (asked_found block asking xs))
  | false ↦ λ t. rw t (asked_found block asking xs)
]) refl

-- ---- one is put

module _ (place : Place) (block : ℕ) where
  asks_put : (line : Line) → AllByRecursion (λ one. one.1 < place.1) (keys_of line) → asks_of (insert_entry key_cmp line place block) ≡ put_ask (block, place.0) (asks_of line)
  asks_put [] h = refl
  asks_put (x ∷ xs) h = (elim (ltb place.0 x.0.0) as (λ b. ltb place.0 x.0.0 ≡ b → asks_of (insert_entry key_cmp (x ∷ xs) place block) ≡ put_ask (block, place.0) (asks_of (x ∷ xs))) [
    | true ↦ λ t. rw (before place x.0 t, t) refl
    | false ↦ λ t. rw (behind place x.0 t h.0, t) (ap (λ (l : List (ℕ × ℕ)). (x.1, x.0.0) ∷ l) (asks_put xs h.1))
  ]) refl

  -- all of a property: it has it, too
  keys_put : (P : Place → Type 0) (line : Line) → AllByRecursion (λ one. one.1 < place.1) (keys_of line) → P place → AllByRecursion P (keys_of line) → AllByRecursion P (keys_of (insert_entry key_cmp line place block))
  keys_put P [] h p all = (p, tt)
  keys_put P (x ∷ xs) h p all = (elim (ltb place.0 x.0.0) as (λ b. ltb place.0 x.0.0 ≡ b → AllByRecursion P (keys_of (insert_entry key_cmp (x ∷ xs) place block))) [
    | true ↦ λ t. rw (before place x.0 t) (p, all)
    | false ↦ λ t. rw (behind place x.0 t h.0) (all.0, keys_put P xs h.1 p all.1)
  ]) refl

  -- it is taken back
  pub put_back : (line : Line) → AllByRecursion (λ one. one.1 < place.1) (keys_of line) → remove_entry (is_at_key (key_cmp place)) (insert_entry key_cmp line place block) ≡ line
  put_back [] h = rw (same_key place) refl
  put_back (x ∷ xs) h = (elim (ltb place.0 x.0.0) as (λ b. ltb place.0 x.0.0 ≡ b → remove_entry (is_at_key (key_cmp place)) (insert_entry key_cmp (x ∷ xs) place block) ≡ x ∷ xs) [
    | true ↦ λ t. ap (λ (l : Line). remove_entry (is_at_key (key_cmp place)) l) (in_front t) ∙ own
    | false ↦ λ t. ap (λ (l : Line). remove_entry (is_at_key (key_cmp place)) l) (further t) ∙ apart (greater_key place x.0 (behind place x.0 t h.0)) ∙ ap (λ (l : Line). x ∷ l) (put_back xs h.1)
  ]) refl
    where
      in_front : ltb place.0 x.0.0 ≡ true → insert_entry key_cmp (x ∷ xs) place block ≡ (place, block) ∷ x ∷ xs
      in_front t = rw (before place x.0 t) refl

      further : ltb place.0 x.0.0 ≡ false → insert_entry key_cmp (x ∷ xs) place block ≡ x ∷ insert_entry key_cmp xs place block
      further t = rw (behind place x.0 t h.0) refl

      own : remove_entry (is_at_key (key_cmp place)) ((place, block) ∷ x ∷ xs) ≡ x ∷ xs
      own = rw (same_key place) refl

      apart : is_at_key (key_cmp place) x.0 ≡ false → remove_entry (is_at_key (key_cmp place)) (x ∷ insert_entry key_cmp xs place block) ≡ x ∷ remove_entry (is_at_key (key_cmp place)) (insert_entry key_cmp xs place block)
      apart t = rw t refl

  -- the places of its block, and of others
  here_put : (line : Line) → IsStrictlySortedBy key_cmp (keys_of line) → AllByRecursion (λ one. one.1 < place.1) (keys_of line) → keys_of (filter (is_at block) (insert_entry key_cmp line place block)) ≡ put_place place (keys_of (filter (is_at block) line))
  unfolding IsStrictlySortedBy
  here_put [] rises h = rw same refl
    where
      same : (block == block) ≡ true
      same = grind (arith, nat_tests)
  here_put (x ∷ xs) rises h = (elim (ltb place.0 x.0.0) as (λ b. ltb place.0 x.0.0 ≡ b → keys_of (filter (is_at block) (insert_entry key_cmp (x ∷ xs) place block)) ≡ put_place place (keys_of (filter (is_at block) (x ∷ xs)))) [
    | true ↦ λ t.
        let all : AllByRecursion (λ one. ltb place.0 one.0 ≡ true) (keys_of (x ∷ xs)) = (t, all_weaker (λ one. key_cmp x.0 one ≡ Less) (λ one. ltb place.0 one.0 ≡ true) (keys_of xs) (λ one less. before_all place.0 x.0 one t less) rises.0) in
        ap (λ (l : Line). keys_of (filter (is_at block) l)) (in_front t)
        ∙ ap keys_of (filter_in (is_at block) (place, block) (x ∷ xs) same)
        ∙ sym (put_front place (keys_of (filter (is_at block) (x ∷ xs))) (keys_kept (λ one. ltb place.0 one.0 ≡ true) (is_at block) (x ∷ xs) all))
    | false ↦ λ t. ap (λ (l : Line). keys_of (filter (is_at block) l)) (further t) ∙ (elim (x.1 == block) as (λ b. (x.1 == block) ≡ b → keys_of (filter (is_at block) (x ∷ insert_entry key_cmp xs place block)) ≡ put_place place (keys_of (filter (is_at block) (x ∷ xs)))) [
      | true ↦ λ u.
          ap keys_of (filter_in (is_at block) x (insert_entry key_cmp xs place block) u)
          ∙ ap (λ (l : List Place). x.0 ∷ l) (here_put xs rises.1 h.1)
          ∙ sym (ap (λ (b : Bool). if b then place ∷ x.0 ∷ keys_of (filter (is_at block) xs) else x.0 ∷ put_place place (keys_of (filter (is_at block) xs))) t)
          ∙ sym (ap (λ (l : Line). put_place place (keys_of l)) (filter_in (is_at block) x xs u))
      | false ↦ λ u.
          ap keys_of (filter_out (is_at block) x (insert_entry key_cmp xs place block) u)
          ∙ here_put xs rises.1 h.1
          ∙ sym (ap (λ (l : Line). put_place place (keys_of l)) (filter_out (is_at block) x xs u))
    ]) refl
  ]) refl
    where
      same : (block == block) ≡ true
      same = grind (arith, nat_tests)

      in_front : ltb place.0 x.0.0 ≡ true → insert_entry key_cmp (x ∷ xs) place block ≡ (place, block) ∷ x ∷ xs
      in_front t = rw (before place x.0 t) refl

      further : ltb place.0 x.0.0 ≡ false → insert_entry key_cmp (x ∷ xs) place block ≡ x ∷ insert_entry key_cmp xs place block
      further t = rw (behind place x.0 t h.0) refl

  there_put : (other : ℕ) (line : Line) → (block == other) ≡ false → AllByRecursion (λ one. one.1 < place.1) (keys_of line) → keys_of (filter (is_at other) (insert_entry key_cmp line place block)) ≡ keys_of (filter (is_at other) line)
  there_put other [] apart h = rw apart refl
  there_put other (x ∷ xs) apart h = (elim (ltb place.0 x.0.0) as (λ b. ltb place.0 x.0.0 ≡ b → keys_of (filter (is_at other) (insert_entry key_cmp (x ∷ xs) place block)) ≡ keys_of (filter (is_at other) (x ∷ xs))) [
    | true ↦ λ t. ap (λ (l : Line). keys_of (filter (is_at other) l)) (in_front t) ∙ ap keys_of (filter_out (is_at other) (place, block) (x ∷ xs) apart)
    | false ↦ λ t. ap (λ (l : Line). keys_of (filter (is_at other) l)) (further t) ∙ (elim (x.1 == other) as (λ b. (x.1 == other) ≡ b → keys_of (filter (is_at other) (x ∷ insert_entry key_cmp xs place block)) ≡ keys_of (filter (is_at other) (x ∷ xs))) [
      | true ↦ λ u.
          ap keys_of (filter_in (is_at other) x (insert_entry key_cmp xs place block) u)
          ∙ ap (λ (l : List Place). x.0 ∷ l) (there_put other xs apart h.1)
          ∙ sym (ap keys_of (filter_in (is_at other) x xs u))
      | false ↦ λ u.
          ap keys_of (filter_out (is_at other) x (insert_entry key_cmp xs place block) u)
          ∙ there_put other xs apart h.1
          ∙ sym (ap keys_of (filter_out (is_at other) x xs u))
    ]) refl
  ]) refl
    where
      in_front : ltb place.0 x.0.0 ≡ true → insert_entry key_cmp (x ∷ xs) place block ≡ (place, block) ∷ x ∷ xs
      in_front t = rw (before place x.0 t) refl

      further : ltb place.0 x.0.0 ≡ false → insert_entry key_cmp (x ∷ xs) place block ≡ x ∷ insert_entry key_cmp xs place block
      further t = rw (behind place x.0 t h.0) refl

-- ---- a block goes

abbrev pub is_other : ℕ → Place × ℕ → Bool
is_other block entry = not (entry.1 == block)

asks_left : (block : ℕ) (line : Line) → asks_of (filter (is_other block) line) ≡ without_block block (asks_of line)
asks_left block [] = refl
asks_left block (x ∷ xs) = (elim (x.1 == block) as (λ b. (x.1 == block) ≡ b → asks_of (filter (is_other block) (x ∷ xs)) ≡ without_block block (asks_of (x ∷ xs))) [
  | true ↦ λ t. rw t (asks_left block xs)
  | false ↦ λ t. rw t (ap (λ (l : List (ℕ × ℕ)). (x.1, x.0.0) ∷ l) (asks_left block xs))
]) refl

-- what stands before all of the places stays there
passed : (x : Place × ℕ) (places : List Place) (line : Line) → AllByRecursion (λ one. key_cmp x.0 one ≡ Less) places → without_places places (x ∷ line) ≡ x ∷ without_places places line
passed x [] line h = refl
passed x (place ∷ places) line h =
    let apart : is_at_key (key_cmp place) x.0 ≡ false = less_key x.0 place h.0 in
    ap (without_places places) (stays apart) ∙ passed x places (remove_entry (is_at_key (key_cmp place)) line) h.1
  where
    stays : is_at_key (key_cmp place) x.0 ≡ false → remove_entry (is_at_key (key_cmp place)) (x ∷ line) ≡ x ∷ remove_entry (is_at_key (key_cmp place)) line
    stays t = rw t refl

all_out : (block : ℕ) (line : Line) → IsStrictlySortedBy key_cmp (keys_of line) → without_places (keys_of (filter (is_at block) line)) line ≡ filter (is_other block) line
unfolding IsStrictlySortedBy
all_out block [] rises = refl
all_out block (x ∷ xs) rises = (elim (x.1 == block) as (λ b. (x.1 == block) ≡ b → without_places (keys_of (filter (is_at block) (x ∷ xs))) (x ∷ xs) ≡ filter (is_other block) (x ∷ xs)) [
  | true ↦ λ t.
      ap (λ (l : Line). without_places (keys_of l) (x ∷ xs)) (filter_in (is_at block) x xs t)
      ∙ ap (without_places (keys_of (filter (is_at block) xs))) own
      ∙ all_out block xs rises.1
      ∙ sym (filter_out (is_other block) x xs (ap not t))
  | false ↦ λ t.
      ap (λ (l : Line). without_places (keys_of l) (x ∷ xs)) (filter_out (is_at block) x xs t)
      ∙ passed x (keys_of (filter (is_at block) xs)) xs (keys_kept (λ one. key_cmp x.0 one ≡ Less) (is_at block) xs rises.0)
      ∙ ap (λ (l : Line). x ∷ l) (all_out block xs rises.1)
      ∙ sym (filter_in (is_other block) x xs (ap not t))
]) refl
  where
    own : remove_entry (is_at_key (key_cmp x.0)) (x ∷ xs) ≡ xs
    own = rw (same_key x.0) refl

none_at : (block : ℕ) (line : Line) → filter (is_at block) (filter (is_other block) line) ≡ []
none_at block [] = refl
none_at block (x ∷ xs) = (elim (x.1 == block) as (λ b. (x.1 == block) ≡ b → filter (is_at block) (filter (is_other block) (x ∷ xs)) ≡ []) [
  | true ↦ λ t. ap (λ (l : Line). filter (is_at block) l) (filter_out (is_other block) x xs (ap not t)) ∙ none_at block xs
  | false ↦ λ t. ap (λ (l : Line). filter (is_at block) l) (filter_in (is_other block) x xs (ap not t)) ∙ filter_out (is_at block) x (filter (is_other block) xs) t ∙ none_at block xs
]) refl

others_at : (block one : ℕ) (line : Line) → (one == block) ≡ false → filter (is_at one) (filter (is_other block) line) ≡ filter (is_at one) line
others_at block one [] apart = refl
others_at block one (x ∷ xs) apart = (elim (x.1 == block) as (λ b. (x.1 == block) ≡ b → filter (is_at one) (filter (is_other block) (x ∷ xs)) ≡ filter (is_at one) (x ∷ xs)) [
  | true ↦ λ t.
      let here : (x.1 == one) ≡ false = grind (arith, nat_tests, t, apart) in
      ap (λ (l : Line). filter (is_at one) l) (filter_out (is_other block) x xs (ap not t)) ∙ others_at block one xs apart ∙ sym (filter_out (is_at one) x xs here)
  | false ↦ λ t. ap (λ (l : Line). filter (is_at one) l) (filter_in (is_other block) x xs (ap not t)) ∙ (elim (x.1 == one) as (λ b. (x.1 == one) ≡ b → filter (is_at one) (x ∷ filter (is_other block) xs) ≡ filter (is_at one) (x ∷ xs)) [
    | true ↦ λ u. filter_in (is_at one) x (filter (is_other block) xs) u ∙ ap (λ (l : Line). x ∷ l) (others_at block one xs apart) ∙ sym (filter_in (is_at one) x xs u)
    | false ↦ λ u. filter_out (is_at one) x (filter (is_other block) xs) u ∙ others_at block one xs apart ∙ sym (filter_out (is_at one) x xs u)
  ]) refl
]) refl

-- none of the block is there
none_stays : (block : ℕ) (line : Line) → keys_of (filter (is_at block) line) ≡ [] → filter (is_other block) line ≡ line
none_stays block [] none = refl
none_stays block (x ∷ xs) none = (elim (x.1 == block) as (λ b. (x.1 == block) ≡ b → filter (is_other block) (x ∷ xs) ≡ x ∷ xs) [
  | true ↦ λ t.
      let here : x.0 ∷ keys_of (filter (is_at block) xs) ≡ [] = sym (ap keys_of (filter_in (is_at block) x xs t)) ∙ none in
      absurd cc
  | false ↦ λ t. filter_in (is_other block) x xs (ap not t) ∙ ap (λ (l : Line). x ∷ l) (none_stays block xs (sym (ap keys_of (filter_out (is_at block) x xs t)) ∙ none))
]) refl

-- ---- the places of each block

abbrev pub Blocks : Type 0
Blocks = BTreeMap ℕ (Vec Place Global)

differ : (a b : ℕ) → (a == b) ≡ false → is_eq (nat_cmp b a) ≡ false
differ a b apart = grind (arith, nat_tests)

-- those that each block has now, where one has a place more
abbrev pub Puts : Blocks → ℕ → Place → Blocks → Type 0
Puts old block place new = (b : ℕ) → places_at new b ≡ (if b == block then put_place place (places_at old b) else places_at old b)

-- one block has other places now, or none any more
module _ (old new : Blocks) (block : ℕ) (places : Option (Vec Place Global)) (updates : UpdatesBy nat_cmp (nat_cmp block) old new places) where
  at_block : (b : ℕ) → (b == block) ≡ true → places_at new b ≡ items_or_none places
  at_block b t = ap (λ (n : ℕ). places_at new n) (eqb-true b block t) ∙ ap (λ (o : Option (Vec Place Global)). items_or_none o) updates.1

  at_others : (b : ℕ) → (b == block) ≡ false → places_at new b ≡ places_at old b
  at_others b t = ap (λ (o : Option (Vec Place Global)). items_or_none o) (updates.2 b (differ b block t))

  pub puts : (place : Place) → items_or_none places ≡ put_place place (places_at old block) → Puts old block place new
  puts place is b = (elim (b == block) as (λ t. (b == block) ≡ t → places_at new b ≡ (if b == block then put_place place (places_at old b) else places_at old b)) [
    | true ↦ λ t. rw t (at_block b t ∙ is ∙ ap (λ (n : ℕ). put_place place (places_at old n)) (sym (eqb-true b block t)))
    | false ↦ λ t. rw t (at_others b t)
  ]) refl

-- ---- what is kept

module _ (next : ℕ) (line : BTreeMap Place ℕ) (blocks : Blocks) (kept : AreAsks next line blocks) (block : ℕ) where
  -- one is put
  module _ (asking : ℕ) (after : BTreeMap Place ℕ) (comes : after.entries ≡ insert_entry key_cmp line.entries (asking, next) block) where
    pub put_asks : is_asked (block, asking) (asks_of line.entries) ≡ false → asks_of after.entries ≡ with_ask (block, asking) (asks_of line.entries)
    put_asks none = ap asks_of comes ∙ asks_put (asking, next) block line.entries kept.below ∙ sym (ap (λ (b : Bool). if b then asks_of line.entries else put_ask (block, asking) (asks_of line.entries)) none)

    pub put_kept : IsOrdered key_cmp after → (more : Blocks) → Puts blocks block (asking, next) more → (last : ℕ) → last ≡ next + 1 → AreAsks last after more
    put_kept rises more puts last bound = record {
      rises = rises;
      below = subst (λ (l : Line). AllByRecursion (λ one. one.1 < last) (keys_of l)) (sym comes) (keys_put (asking, next) block (λ one. one.1 < last) line.entries kept.below (omega (arith, bound)) (all_weaker (λ one. one.1 < next) (λ one. one.1 < last) (keys_of line.entries) (λ one h. omega (arith, h, bound)) kept.below));
      by_block = λ b. (elim (b == block) as (λ t. (b == block) ≡ t → places_at more b ≡ keys_of (filter (is_at b) after.entries)) [
        | true ↦ λ t.
            let one : b ≡ block = eqb-true b block t in
            subst (λ (u : Bool). places_at more b ≡ (if u then put_place (asking, next) (places_at blocks b) else places_at blocks b)) t (puts b)
            ∙ ap (λ (l : List Place). put_place (asking, next) l) (kept.by_block b)
            ∙ ap (λ (n : ℕ). put_place (asking, next) (keys_of (filter (is_at n) line.entries))) one
            ∙ sym (here_put (asking, next) block line.entries kept.rises kept.below)
            ∙ sym (ap (λ (n : ℕ). keys_of (filter (is_at n) (insert_entry key_cmp line.entries (asking, next) block))) one)
            ∙ sym (ap (λ (l : Line). keys_of (filter (is_at b) l)) comes)
        | false ↦ λ t.
            let apart : (block == b) ≡ false = grind (arith, nat_tests, t) in
            subst (λ (u : Bool). places_at more b ≡ (if u then put_place (asking, next) (places_at blocks b) else places_at blocks b)) t (puts b)
            ∙ kept.by_block b
            ∙ sym (there_put (asking, next) block b line.entries apart kept.below)
            ∙ sym (ap (λ (l : Line). keys_of (filter (is_at b) l)) comes)
      ]) refl;
    }

    -- it is taken back
    module _ (back : BTreeMap Place ℕ) (goes : back.entries ≡ remove_entry (is_at_key (key_cmp (asking, next))) after.entries) where
      pub same_entries : back.entries ≡ line.entries
      same_entries = goes ∙ ap (λ (l : Line). remove_entry (is_at_key (key_cmp (asking, next))) l) comes ∙ put_back (asking, next) block line.entries kept.below

      pub back_kept : IsOrdered key_cmp back → (same : Blocks) → ((b : ℕ) → places_at same b ≡ places_at blocks b) → AreAsks next back same
      back_kept rises same stays = record {
        rises = rises;
        below = subst (λ (l : Line). AllByRecursion (λ one. one.1 < next) (keys_of l)) (sym same_entries) kept.below;
        by_block = λ b. stays b ∙ kept.by_block b ∙ sym (ap (λ (l : Line). keys_of (filter (is_at b) l)) same_entries);
      }

  -- the block goes
  module _ (fewer : Blocks) (updates : UpdatesBy nat_cmp (nat_cmp block) blocks fewer None) where
    module _ (places : Vec Place Global) (found : get nat_cmp blocks block ≡ Some places) (after : BTreeMap Place ℕ) (goes : after.entries ≡ without_places places.items line.entries) where
      its : places.items ≡ keys_of (filter (is_at block) line.entries)
      its = sym (ap (λ (o : Option (Vec Place Global)). items_or_none o) found) ∙ kept.by_block block

      left : after.entries ≡ filter (is_other block) line.entries
      left = goes ∙ ap (λ (l : List Place). without_places l line.entries) its ∙ all_out block line.entries kept.rises

      pub out_asks : asks_of after.entries ≡ without_block block (asks_of line.entries)
      out_asks = ap asks_of left ∙ asks_left block line.entries

      pub out_kept : IsOrdered key_cmp after → AreAsks next after fewer
      out_kept rises = record {
        rises = rises;
        below = subst (λ (l : Line). AllByRecursion (λ one. one.1 < next) (keys_of l)) (sym left) (keys_kept (λ one. one.1 < next) (is_other block) line.entries kept.below);
        by_block = λ b. (elim (b == block) as (λ t. (b == block) ≡ t → places_at fewer b ≡ keys_of (filter (is_at b) after.entries)) [
          | true ↦ λ t.
              let one : b ≡ block = eqb-true b block t in
              at_block blocks fewer block None updates b t
              ∙ sym (ap keys_of (none_at block line.entries))
              ∙ sym (ap (λ (n : ℕ). keys_of (filter (is_at n) (filter (is_other block) line.entries))) one)
              ∙ sym (ap (λ (l : Line). keys_of (filter (is_at b) l)) left)
          | false ↦ λ t.
              at_others blocks fewer block None updates b t
              ∙ kept.by_block b
              ∙ sym (ap keys_of (others_at block b line.entries t))
              ∙ sym (ap (λ (l : Line). keys_of (filter (is_at b) l)) left)
        ]) refl;
      }

  -- the block isn't there
  pub none_asks : get nat_cmp blocks block ≡ None → asks_of line.entries ≡ without_block block (asks_of line.entries)
  none_asks none =
      let absent : places_at blocks block ≡ [] = ap (λ (o : Option (Vec Place Global)). items_or_none o) none in
      ap asks_of (sym (none_stays block line.entries (sym (kept.by_block block) ∙ absent))) ∙ asks_left block line.entries
