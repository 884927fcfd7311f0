-- Requests and their turns, where one is put or taken out.
use Rattle.std.proofs.Common.{◌≡◌, ℕ, ◌+◌, ◌<◌, Bool, true, false, nat_eq, List, [], ◌∷◌, ◌++◌, Option, Some, None, if◌then◌else◌, refl, sym, ap, subst, ◌∙◌, arith}
use Rattle.std.specs.Prelude.{filter, not}
use Rattle.std.specs.List.{AllByRecursion}
use Rattle.std.specs.List.Sorted.{IsStrictlySortedBy}
use Rattle.std.specs.BTreeMap.{BTreeMap, IsOrdered, UpdatesBy, get, keys, values, insert_entry, is_at as is_at_key}
use Rattle.std.specs.Map.{keys_of, lookup, values_of, remove_entry}
use Rattle.std.specs.declared.cmp.Ordering.TheVariants.{Less, Equal, Greater}
use Rattle.std.specs.Ordering.{is_eq, nat_cmp}
use Rattle.std.proofs.lemmas.Bool.Decides.{nat_tests}
use Rattle.bx_clerk.specs.declared.requests.Asking.{Asking}
use Rattle.bx_clerk.specs.Requests.{Requests, request_in, with_request, without_request}
use Rattle.bx_clerk.specs.Turns.{AreKept, AreOnce, Turns, asking_of, blocks_of, turn_of}

-- ---- numbers

eq_of : (a b : ℕ) → nat_eq a b ≡ true → a ≡ b
eq_of a b t = grind (arith, nat_tests)

swap_false : (a b : ℕ) → nat_eq a b ≡ false → nat_eq b a ≡ false
swap_false a b t = grind (arith, nat_tests)

same_key : (n : ℕ) → is_at_key (nat_cmp n) n ≡ true
same_key n = grind (arith, nat_tests)

less_key : (m n : ℕ) → nat_cmp m n ≡ Less → is_at_key (nat_cmp n) m ≡ false
less_key m n h = grind (arith, nat_tests)

less_after : (m n : ℕ) → nat_cmp m n ≡ Less → nat_cmp n m ≡ Greater
less_after m n h = grind (arith, nat_tests)

same_order : (n : ℕ) → nat_cmp n n ≡ Equal
same_order n = grind (arith, nat_tests)

-- ---- none of the block is here

absent_get : (block : ℕ) (turns : Turns) → turn_of block turns ≡ None → lookup (nat_eq block) (values_of turns) ≡ None
absent_get block [] none = refl
absent_get block (x ∷ xs) none = (elim (nat_eq block x.1.0) as (λ b. nat_eq block x.1.0 ≡ b → lookup (nat_eq block) (values_of (x ∷ xs)) ≡ None) [
  | true ↦ λ t.
      let here : Some x.0 ≡ None = rw t at none in
      absurd cc
  | false ↦ λ t.
      let rest : turn_of block xs ≡ None = rw t at none in
      rw t (absent_get block xs rest)
]) refl

absent_put : (block : ℕ) (asking : Asking) (turns : Turns) → turn_of block turns ≡ None → with_request (values_of turns) block asking ≡ values_of turns ++ (block, asking) ∷ []
absent_put block asking [] none = refl
absent_put block asking (x ∷ xs) none = (elim (nat_eq block x.1.0) as (λ b. nat_eq block x.1.0 ≡ b → with_request (values_of (x ∷ xs)) block asking ≡ values_of (x ∷ xs) ++ (block, asking) ∷ []) [
  | true ↦ λ t.
      let here : Some x.0 ≡ None = rw t at none in
      absurd cc
  | false ↦ λ t.
      let rest : turn_of block xs ≡ None = rw t at none in
      rw t (ap (λ (l : Requests). x.1 ∷ l) (absent_put block asking xs rest))
]) refl

absent_out : (block : ℕ) (turns : Turns) → turn_of block turns ≡ None → values_of turns ≡ without_request (values_of turns) block
absent_out block [] none = refl
absent_out block (x ∷ xs) none = (elim (nat_eq block x.1.0) as (λ b. nat_eq block x.1.0 ≡ b → values_of (x ∷ xs) ≡ without_request (values_of (x ∷ xs)) block) [
  | true ↦ λ t.
      let here : Some x.0 ≡ None = rw t at none in
      absurd cc
  | false ↦ λ t.
      let rest : turn_of block xs ≡ None = rw t at none in
      rw t (ap (λ (l : Requests). x.1 ∷ l) (absent_out block xs rest))
]) refl

absent_all : (block : ℕ) (turns : Turns) → turn_of block turns ≡ None → AllByRecursion (λ other. nat_eq block other ≡ false) (blocks_of turns)
absent_all block [] none = tt
absent_all block (x ∷ xs) none = (elim (nat_eq block x.1.0) as (λ b. nat_eq block x.1.0 ≡ b → AllByRecursion (λ other. nat_eq block other ≡ false) (blocks_of (x ∷ xs))) [
  | true ↦ λ t.
      let here : Some x.0 ≡ None = rw t at none in
      absurd cc
  | false ↦ λ t.
      let rest : turn_of block xs ≡ None = rw t at none in
      (t, absent_all block xs rest)
]) refl

-- ---- the turn of the block is here

found_above : (block : ℕ) (turns : Turns) (turn : ℕ) (P : ℕ → Type 0) → AllByRecursion P (keys_of turns) → turn_of block turns ≡ Some turn → P turn
found_above block [] turn P h found = absurd cc
found_above block (x ∷ xs) turn P h found = (elim (nat_eq block x.1.0) as (λ b. nat_eq block x.1.0 ≡ b → P turn) [
  | true ↦ λ t.
      let here : Some x.0 ≡ Some turn = rw t at found in
      let is : x.0 ≡ turn = cc in
      subst P is h.0
  | false ↦ λ t.
      let rest : turn_of block xs ≡ Some turn = rw t at found in
      found_above block xs turn P h.1 rest
]) refl

-- a turn that is found further back is above the first
apart_first : (x : ℕ × (ℕ × Asking)) (xs : Turns) (block turn : ℕ) → AllByRecursion (λ n. nat_cmp x.0 n ≡ Less) (keys_of xs) → turn_of block xs ≡ Some turn → nat_cmp x.0 turn ≡ Less
apart_first x xs block turn above found = found_above block xs turn (λ n. nat_cmp x.0 n ≡ Less) above found

found_get : (block : ℕ) (turns : Turns) (turn : ℕ) → IsStrictlySortedBy nat_cmp (keys_of turns) → turn_of block turns ≡ Some turn → asking_of (lookup (is_at_key (nat_cmp turn)) turns) ≡ lookup (nat_eq block) (values_of turns)
unfolding IsStrictlySortedBy
found_get block [] turn rises found = absurd cc
found_get block (x ∷ xs) turn rises found = (elim (nat_eq block x.1.0) as (λ b. nat_eq block x.1.0 ≡ b → asking_of (lookup (is_at_key (nat_cmp turn)) (x ∷ xs)) ≡ lookup (nat_eq block) (values_of (x ∷ xs))) [
  | true ↦ λ t.
      let here : Some x.0 ≡ Some turn = rw t at found in
      let is : x.0 ≡ turn = cc in
      let own : is_at_key (nat_cmp turn) x.0 ≡ true = subst (λ (n : ℕ). is_at_key (nat_cmp n) x.0 ≡ true) is (same_key x.0) in
      rw (own, t) refl
  | false ↦ λ t.
      let rest : turn_of block xs ≡ Some turn = rw t at found in
      let apart : is_at_key (nat_cmp turn) x.0 ≡ false = less_key x.0 turn (apart_first x xs block turn rises.0 rest) in
      rw (apart, t) (found_get block xs turn rises.1 rest)
]) refl

-- it gets another request
module _ (block turn : ℕ) (asking : Asking) where
  replaced : (turns : Turns) → IsStrictlySortedBy nat_cmp (keys_of turns) → turn_of block turns ≡ Some turn → (values_of (insert_entry nat_cmp turns turn (block, asking)) ≡ with_request (values_of turns) block asking) × (keys_of (insert_entry nat_cmp turns turn (block, asking)) ≡ keys_of turns) × (blocks_of (insert_entry nat_cmp turns turn (block, asking)) ≡ blocks_of turns) × ((other : ℕ) → turn_of other (insert_entry nat_cmp turns turn (block, asking)) ≡ turn_of other turns)
  unfolding IsStrictlySortedBy
  replaced [] rises found = absurd cc
  replaced (x ∷ xs) rises found = (elim (nat_eq block x.1.0) as (λ b. nat_eq block x.1.0 ≡ b → Replaced) [
    | true ↦ λ t.
        let here : Some x.0 ≡ Some turn = rw t at found in
        let is : x.0 ≡ turn = cc in
        let own : nat_cmp turn x.0 ≡ Equal = subst (λ (n : ℕ). nat_cmp n x.0 ≡ Equal) is (same_order x.0) in
        let one : block ≡ x.1.0 = eq_of block x.1.0 t in
        rw (own, t) (ap (λ (n : ℕ). (n, asking) ∷ values_of xs) one, refl, ap (λ (n : ℕ). n ∷ blocks_of xs) one, λ other. ap (λ (n : ℕ). if nat_eq other n then Some x.0 else turn_of other xs) one)
    | false ↦ λ t.
        let rest : turn_of block xs ≡ Some turn = rw t at found in
        let after : nat_cmp turn x.0 ≡ Greater = less_after x.0 turn (apart_first x xs block turn rises.0 rest) in
        let more = replaced xs rises.1 rest in
        rw (after, t) (ap (λ (l : Requests). x.1 ∷ l) more.0, ap (λ (l : List ℕ). x.0 ∷ l) more.1, ap (λ (l : List ℕ). x.1.0 ∷ l) more.2, λ other. ap (λ (o : Option ℕ). if nat_eq other x.1.0 then Some x.0 else o) (more.3 other))
  ]) refl
    where
      Replaced : Type 0
      Replaced = (values_of (insert_entry nat_cmp (x ∷ xs) turn (block, asking)) ≡ with_request (values_of (x ∷ xs)) block asking) × (keys_of (insert_entry nat_cmp (x ∷ xs) turn (block, asking)) ≡ keys_of (x ∷ xs)) × (blocks_of (insert_entry nat_cmp (x ∷ xs) turn (block, asking)) ≡ blocks_of (x ∷ xs)) × ((other : ℕ) → turn_of other (insert_entry nat_cmp (x ∷ xs) turn (block, asking)) ≡ turn_of other (x ∷ xs))

-- ---- the block's request goes

-- of another block
abbrev other : ℕ → ℕ × (ℕ × Asking) → Bool
other block turn = not (nat_eq block turn.1.0)

filter_out : {X : Type 0} (p : X → Bool) (x : X) (xs : List X) → p x ≡ false → filter p (x ∷ xs) ≡ filter p xs
filter_out p x xs t = rw t refl

filter_in : {X : Type 0} (p : X → Bool) (x : X) (xs : List X) → p x ≡ true → filter p (x ∷ xs) ≡ x ∷ filter p xs
filter_in p x xs t = rw t refl

values_out : (block : ℕ) (turns : Turns) → values_of (filter (other block) turns) ≡ without_request (values_of turns) block
values_out block [] = refl
values_out block (x ∷ xs) = (elim (nat_eq block x.1.0) as (λ b. nat_eq block x.1.0 ≡ b → values_of (filter (other block) (x ∷ xs)) ≡ without_request (values_of (x ∷ xs)) block) [
  | true ↦ λ t. rw t (values_out block xs)
  | false ↦ λ t. rw t (ap (λ (l : Requests). x.1 ∷ l) (values_out block xs))
]) refl

keys_out : (P : ℕ → Type 0) (block : ℕ) (turns : Turns) → AllByRecursion P (keys_of turns) → AllByRecursion P (keys_of (filter (other block) turns))
keys_out P block [] h = tt
keys_out P block (x ∷ xs) h = (elim (nat_eq block x.1.0) as (λ b. nat_eq block x.1.0 ≡ b → AllByRecursion P (keys_of (filter (other block) (x ∷ xs)))) [
  | true ↦ λ t. rw t (keys_out P block xs h.1)
  | false ↦ λ t. rw t (h.0, keys_out P block xs h.1)
]) refl

blocks_out : (P : ℕ → Type 0) (block : ℕ) (turns : Turns) → AllByRecursion P (blocks_of turns) → AllByRecursion P (blocks_of (filter (other block) turns))
blocks_out P block [] h = tt
blocks_out P block (x ∷ xs) h = (elim (nat_eq block x.1.0) as (λ b. nat_eq block x.1.0 ≡ b → AllByRecursion P (blocks_of (filter (other block) (x ∷ xs)))) [
  | true ↦ λ t. rw t (blocks_out P block xs h.1)
  | false ↦ λ t. rw t (h.0, blocks_out P block xs h.1)
]) refl

once_out : (block : ℕ) (turns : Turns) → AreOnce (blocks_of turns) → AreOnce (blocks_of (filter (other block) turns))
once_out block [] h = tt
once_out block (x ∷ xs) h = (elim (nat_eq block x.1.0) as (λ b. nat_eq block x.1.0 ≡ b → AreOnce (blocks_of (filter (other block) (x ∷ xs)))) [
  | true ↦ λ t. rw t (once_out block xs h.1)
  | false ↦ λ t. rw t (blocks_out (λ b. nat_eq x.1.0 b ≡ false) block xs h.0, once_out block xs h.1)
]) refl

none_left : (block : ℕ) (turns : Turns) → turn_of block (filter (other block) turns) ≡ None
none_left block [] = refl
none_left block (x ∷ xs) = (elim (nat_eq block x.1.0) as (λ b. nat_eq block x.1.0 ≡ b → turn_of block (filter (other block) (x ∷ xs)) ≡ None) [
  | true ↦ λ t. ap (turn_of block) (filter_out (other block) x xs (ap not t)) ∙ none_left block xs
  | false ↦ λ t. ap (turn_of block) (filter_in (other block) x xs (ap not t)) ∙ ap (λ (b : Bool). if b then Some x.0 else turn_of block (filter (other block) xs)) t ∙ none_left block xs
]) refl

others_left : (block one : ℕ) (turns : Turns) → nat_eq one block ≡ false → turn_of one (filter (other block) turns) ≡ turn_of one turns
others_left block one [] apart = refl
others_left block one (x ∷ xs) apart = (elim (nat_eq block x.1.0) as (λ b. nat_eq block x.1.0 ≡ b → turn_of one (filter (other block) (x ∷ xs)) ≡ turn_of one (x ∷ xs)) [
  | true ↦ λ t.
      let here : nat_eq one x.1.0 ≡ false = subst (λ (n : ℕ). nat_eq one n ≡ false) (eq_of block x.1.0 t) apart in
      ap (turn_of one) (filter_out (other block) x xs (ap not t)) ∙ others_left block one xs apart ∙ sym (ap (λ (b : Bool). if b then Some x.0 else turn_of one xs) here)
  | false ↦ λ t. ap (turn_of one) (filter_in (other block) x xs (ap not t)) ∙ ap (λ (o : Option ℕ). if nat_eq one x.1.0 then Some x.0 else o) (others_left block one xs apart)
]) refl

all_other : (block : ℕ) (turns : Turns) → AllByRecursion (λ b. nat_eq block b ≡ false) (blocks_of turns) → filter (other block) turns ≡ turns
all_other block [] h = refl
all_other block (x ∷ xs) h = filter_in (other block) x xs (ap not h.0) ∙ ap (λ (l : Turns). x ∷ l) (all_other block xs h.1)

one_out : (block : ℕ) (turns : Turns) (turn : ℕ) → IsStrictlySortedBy nat_cmp (keys_of turns) → AreOnce (blocks_of turns) → turn_of block turns ≡ Some turn → remove_entry (is_at_key (nat_cmp turn)) turns ≡ filter (other block) turns
unfolding IsStrictlySortedBy
one_out block [] turn rises once found = absurd cc
one_out block (x ∷ xs) turn rises once found = (elim (nat_eq block x.1.0) as (λ b. nat_eq block x.1.0 ≡ b → remove_entry (is_at_key (nat_cmp turn)) (x ∷ xs) ≡ filter (other block) (x ∷ xs)) [
  | true ↦ λ t.
      let here : Some x.0 ≡ Some turn = rw t at found in
      let is : x.0 ≡ turn = cc in
      let own : is_at_key (nat_cmp turn) x.0 ≡ true = subst (λ (n : ℕ). is_at_key (nat_cmp n) x.0 ≡ true) is (same_key x.0) in
      let all : AllByRecursion (λ b. nat_eq block b ≡ false) (blocks_of xs) = subst (λ (n : ℕ). AllByRecursion (λ b. nat_eq n b ≡ false) (blocks_of xs)) (sym (eq_of block x.1.0 t)) once.0 in
      rw own (sym (filter_out (other block) x xs (ap not t) ∙ all_other block xs all))
  | false ↦ λ t.
      let rest : turn_of block xs ≡ Some turn = rw t at found in
      let apart : is_at_key (nat_cmp turn) x.0 ≡ false = less_key x.0 turn (apart_first x xs block turn rises.0 rest) in
      rw apart (ap (λ (l : Turns). x ∷ l) (one_out block xs turn rises.1 once.1 rest) ∙ sym (filter_in (other block) x xs (ap not t)))
]) refl

-- ---- one comes behind the others

put_last : (turns : Turns) (turn : ℕ) (entry : ℕ × Asking) → AllByRecursion (λ n. n < turn) (keys_of turns) → insert_entry nat_cmp turns turn entry ≡ turns ++ (turn, entry) ∷ []
put_last [] turn entry h = refl
put_last (x ∷ xs) turn entry h =
    let above : nat_cmp turn x.0 ≡ Greater = grind (arith, nat_tests, h.0) in
    rw above (ap (λ (l : Turns). x ∷ l) (put_last xs turn entry h.1))

values_more : (turns : Turns) (turn : ℕ × (ℕ × Asking)) → values_of (turns ++ turn ∷ []) ≡ values_of turns ++ turn.1 ∷ []
values_more [] turn = refl
values_more (x ∷ xs) turn = ap (λ (l : Requests). x.1 ∷ l) (values_more xs turn)

keys_more : (turns : Turns) (next : ℕ) (entry : ℕ × Asking) → AllByRecursion (λ n. n < next) (keys_of turns) → AllByRecursion (λ n. n < next + 1) (keys_of (turns ++ (next, entry) ∷ []))
keys_more [] next entry h = (omega arith, tt)
keys_more (x ∷ xs) next entry h = (omega (arith, h.0), keys_more xs next entry h.1)

all_more : (P : ℕ → Type 0) (turns : Turns) (turn : ℕ × (ℕ × Asking)) → AllByRecursion P (blocks_of turns) → P turn.1.0 → AllByRecursion P (blocks_of (turns ++ turn ∷ []))
all_more P [] turn h p = (p, tt)
all_more P (x ∷ xs) turn h p = (h.0, all_more P xs turn h.1 p)

once_more : (turns : Turns) (turn : ℕ × (ℕ × Asking)) → AreOnce (blocks_of turns) → AllByRecursion (λ b. nat_eq turn.1.0 b ≡ false) (blocks_of turns) → AreOnce (blocks_of (turns ++ turn ∷ []))
once_more [] turn h none = (tt, tt)
once_more (x ∷ xs) turn h none = (all_more (λ b. nat_eq x.1.0 b ≡ false) xs turn h.0 (swap_false turn.1.0 x.1.0 none.0), once_more xs turn h.1 none.1)

its_turn : (turns : Turns) (next : ℕ) (entry : ℕ × Asking) → turn_of entry.0 turns ≡ None → turn_of entry.0 (turns ++ (next, entry) ∷ []) ≡ Some next
its_turn [] next entry none =
    let own : nat_eq entry.0 entry.0 ≡ true = grind (arith, nat_tests) in
    rw own refl
its_turn (x ∷ xs) next entry none = (elim (nat_eq entry.0 x.1.0) as (λ b. nat_eq entry.0 x.1.0 ≡ b → turn_of entry.0 (x ∷ (xs ++ (next, entry) ∷ [])) ≡ Some next) [
  | true ↦ λ t.
      let here : Some x.0 ≡ None = rw t at none in
      absurd cc
  | false ↦ λ t.
      let rest : turn_of entry.0 xs ≡ None = rw t at none in
      ap (λ (b : Bool). if b then Some x.0 else turn_of entry.0 (xs ++ (next, entry) ∷ [])) t ∙ its_turn xs next entry rest
]) refl

others_turn : (turns : Turns) (next : ℕ) (entry : ℕ × Asking) (one : ℕ) → nat_eq one entry.0 ≡ false → turn_of one (turns ++ (next, entry) ∷ []) ≡ turn_of one turns
others_turn [] next entry one apart = ap (λ (b : Bool). if b then Some next else None) apart
others_turn (x ∷ xs) next entry one apart = ap (λ (o : Option ℕ). if nat_eq one x.1.0 then Some x.0 else o) (others_turn xs next entry one apart)

-- ---- what is kept

differ : (a b : ℕ) → nat_eq a b ≡ false → is_eq (nat_cmp b a) ≡ false
differ a b apart = grind (arith, nat_tests)

-- the turns of blocks, where one has another now
abbrev Turn : (BTreeMap ℕ ℕ) → (BTreeMap ℕ ℕ) → ℕ → Option ℕ → Type 0
Turn old new block turn = UpdatesBy nat_cmp (nat_cmp block) old new turn

turns_are : (old new : BTreeMap ℕ ℕ) (block : ℕ) (turn : Option ℕ) (f g : ℕ → Option ℕ) → Turn old new block turn → ((b : ℕ) → get nat_cmp old b ≡ f b) → turn ≡ g block → ((b : ℕ) → nat_eq b block ≡ false → f b ≡ g b) → (b : ℕ) → get nat_cmp new b ≡ g b
turns_are old new block turn f g updates was here beside b = (elim (nat_eq b block) as (λ t. nat_eq b block ≡ t → get nat_cmp new b ≡ g b) [
  | true ↦ λ t.
      let one : b ≡ block = eq_of b block t in
      ap (λ (n : ℕ). get nat_cmp new n) one ∙ updates.1 ∙ here ∙ ap g (sym one)
  | false ↦ λ t. updates.2 b (differ b block t) ∙ was b ∙ beside b t
]) refl

module _ (next : ℕ) (line : BTreeMap ℕ (ℕ × Asking)) (turns : BTreeMap ℕ ℕ) (kept : AreKept next line turns) (block : ℕ) where
  pub none_is : get nat_cmp turns block ≡ None → request_in (values line) block ≡ None
  none_is none = absent_get block line.entries (sym (kept.by_block block) ∙ none)

  pub none_goes : get nat_cmp turns block ≡ None → values line ≡ without_request (values line) block
  none_goes none = absent_out block line.entries (sym (kept.by_block block) ∙ none)

  pub one_is : (turn : ℕ) → get nat_cmp turns block ≡ Some turn → asking_of (get nat_cmp line turn) ≡ request_in (values line) block
  one_is turn found = found_get block line.entries turn kept.rises (sym (kept.by_block block) ∙ found)

  module _ (turn : ℕ) (found : get nat_cmp turns block ≡ Some turn) (after : BTreeMap ℕ (ℕ × Asking)) (rises : IsOrdered nat_cmp after) where
    has : turn_of block line.entries ≡ Some turn
    has = sym (kept.by_block block) ∙ found

    -- it gets another request
    module _ (asking : Asking) (comes : after.entries ≡ insert_entry nat_cmp line.entries turn (block, asking)) where
      so : (values_of (insert_entry nat_cmp line.entries turn (block, asking)) ≡ with_request (values_of line.entries) block asking) × (keys_of (insert_entry nat_cmp line.entries turn (block, asking)) ≡ keys_of line.entries) × (blocks_of (insert_entry nat_cmp line.entries turn (block, asking)) ≡ blocks_of line.entries) × ((one : ℕ) → turn_of one (insert_entry nat_cmp line.entries turn (block, asking)) ≡ turn_of one line.entries)
      so = replaced block turn asking line.entries kept.rises has

      pub put_values : values after ≡ with_request (values line) block asking
      put_values = ap values_of comes ∙ so.0

      pub put_kept : AreKept next after turns
      put_kept = record {
        rises = rises;
        below = subst (λ (l : List ℕ). AllByRecursion (λ n. n < next) l) (sym (ap keys_of comes ∙ so.1)) kept.below;
        once = subst AreOnce (sym (ap blocks_of comes ∙ so.2)) kept.once;
        by_block = λ one. kept.by_block one ∙ sym (ap (turn_of one) comes ∙ so.3 one);
      }

    -- it goes
    module _ (goes : after.entries ≡ remove_entry (is_at_key (nat_cmp turn)) line.entries) where
      left : after.entries ≡ filter (other block) line.entries
      left = goes ∙ one_out block line.entries turn kept.rises kept.once has

      pub out_values : values after ≡ without_request (values line) block
      out_values = ap values_of left ∙ values_out block line.entries

      pub out_kept : (fewer : BTreeMap ℕ ℕ) → Turn turns fewer block None → AreKept next after fewer
      out_kept fewer updates = record {
        rises = rises;
        below = subst (λ (l : Turns). AllByRecursion (λ n. n < next) (keys_of l)) (sym left) (keys_out (λ n. n < next) block line.entries kept.below);
        once = subst (λ (l : Turns). AreOnce (blocks_of l)) (sym left) (once_out block line.entries kept.once);
        by_block = turns_are turns fewer block None (λ b. turn_of b line.entries) (λ b. turn_of b after.entries) updates kept.by_block (sym (ap (turn_of block) left ∙ none_left block line.entries)) (λ b apart. sym (ap (turn_of b) left ∙ others_left block b line.entries apart));
      }

  -- a new one comes
  module _ (none : get nat_cmp turns block ≡ None) (more : BTreeMap ℕ ℕ) (updates : Turn turns more block (Some next)) where
    lacks : turn_of block line.entries ≡ None
    lacks = sym (kept.by_block block) ∙ none

    module _ (after : BTreeMap ℕ (ℕ × Asking)) (rises : IsOrdered nat_cmp after) (asking : Asking) (comes : after.entries ≡ insert_entry nat_cmp line.entries next (block, asking)) where
      all : after.entries ≡ line.entries ++ (next, (block, asking)) ∷ []
      all = comes ∙ put_last line.entries next (block, asking) kept.below

      pub new_values : values after ≡ with_request (values line) block asking
      new_values = ap values_of all ∙ values_more line.entries (next, (block, asking)) ∙ sym (absent_put block asking line.entries lacks)

      pub new_kept : (last : ℕ) → last ≡ next + 1 → AreKept last after more
      new_kept last bound = record {
        rises = rises;
        below = subst (λ (n : ℕ). AllByRecursion (λ m. m < n) (keys after)) (sym bound) (subst (λ (l : Turns). AllByRecursion (λ m. m < next + 1) (keys_of l)) (sym all) (keys_more line.entries next (block, asking) kept.below));
        once = subst (λ (l : Turns). AreOnce (blocks_of l)) (sym all) (once_more line.entries (next, (block, asking)) kept.once (absent_all block line.entries lacks));
        by_block = turns_are turns more block (Some next) (λ b. turn_of b line.entries) (λ b. turn_of b after.entries) updates kept.by_block (sym (ap (turn_of block) all ∙ its_turn line.entries next (block, asking) lacks)) (λ b apart. sym (ap (turn_of b) all ∙ others_turn line.entries next (block, asking) b apart));
      }

    -- its turn is taken back
    pub undone : (after : BTreeMap ℕ (ℕ × Asking)) → IsOrdered nat_cmp after → after.entries ≡ line.entries → (fewer : BTreeMap ℕ ℕ) → Turn more fewer block None → AreKept next after fewer
    undone after rises same fewer back =
        let were = turns_are turns more block (Some next) (λ b. turn_of b line.entries) (λ b. if nat_eq b block then Some next else turn_of b line.entries) updates kept.by_block (sym (ap (λ (t : Bool). if t then Some next else turn_of block line.entries) own)) (λ b apart. sym (ap (λ (t : Bool). if t then Some next else turn_of b line.entries) apart)) in
        record {
          rises = rises;
          below = subst (λ (l : Turns). AllByRecursion (λ n. n < next) (keys_of l)) (sym same) kept.below;
          once = subst (λ (l : Turns). AreOnce (blocks_of l)) (sym same) kept.once;
          by_block = turns_are more fewer block None (λ b. if nat_eq b block then Some next else turn_of b line.entries) (λ b. turn_of b after.entries) back were (sym (ap (turn_of block) same ∙ lacks)) (λ b apart. ap (λ (t : Bool). if t then Some next else turn_of b line.entries) apart ∙ sym (ap (turn_of b) same));
        }
      where
        own : nat_eq block block ≡ true
        own = grind (arith, nat_tests)
