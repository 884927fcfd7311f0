-- Wants that wait, each with a turn; and those of one block.
use Rattle.std.proofs.Common.{◌≡◌, ℕ, ◌+◌, ◌<◌, ltb, ◌==◌, ◌&&◌, ◌||◌, not, Bool, true, false, List, [], ◌∷◌, ◌++◌, Option, Some, None, if◌then◌else◌, refl, sym, ap, subst, ◌∙◌, arith, append_assoc, append-nil, drop, take}
use Rattle.std.specs.Prelude.{filter}
use Rattle.std.specs.List.{AllByRecursion, list_any}
use Rattle.std.specs.List.Sorted.{IsStrictlySortedBy}
use Rattle.std.specs.BTreeMap.{insert_entry, is_at as is_at_key}
use Rattle.std.specs.Map.{keys_of, values_of, remove_entry}
use Rattle.std.specs.declared.cmp.Ordering.TheVariants.{Less, Greater}
use Rattle.std.specs.Ordering.{nat_cmp}
use Rattle.std.proofs.lemmas.Bool.Decides.{nat_tests}
use Rattle.std.proofs.lemmas.List.Elements.{filter-append}
use Rattle.bx_global.specs.declared.state.GlobalState.{GlobalState}
use Rattle.bx_lock_words.specs.declared.words.Want.{Want}
use Rattle.bx_lock_tables.specs.Queue.{AreOnce, Turns, has_newer, is_at, is_other, still_waiting, turn_in, without}
use Rattle.bx_lock_tables.specs.Rows.{lives}

-- of another session or block, by a turn
abbrev pub other : Want → ℕ × Want → Bool
other w turn = is_other w turn.1

-- ---- two wants

pub not_other : (w : Want) → is_other w w ≡ false
not_other w = grind arith

other_back : (v w : Want) → is_other v w ≡ true → is_other w v ≡ true
other_back v w h = grind arith

-- those that are other than one of the same session and block
other_as : (v w x : Want) → is_other v w ≡ false → is_other w x ≡ true → is_other v x ≡ true
other_as v w x same h = grind arith

-- ---- what stands first is dropped, or stays

filter_out : {X : Type 0} (p : X → Bool) (x : X) (xs : List X) → p x ≡ false → filter p (x ∷ xs) ≡ filter p xs
filter_out p x xs t = rw t refl

filter_in : {X : Type 0} (p : X → Bool) (x : X) (xs : List X) → p x ≡ true → filter p (x ∷ xs) ≡ x ∷ filter p xs
filter_in p x xs t = rw t refl

-- ---- lists of wants

without_others : (w : Want) (ws : List Want) → AllByRecursion (λ x. is_other w x ≡ true) ws → without w ws ≡ ws
without_others w [] h = refl
without_others w (x ∷ xs) h = rw h.0 (ap (λ (l : List Want). x ∷ l) (without_others w xs h.1))

all_filter : (P : Want → Type 0) (p : Want → Bool) (ws : List Want) → AllByRecursion P ws → AllByRecursion P (filter p ws)
all_filter P p [] h = tt
all_filter P p (w ∷ ws) h = (elim (p w) as (λ b. p w ≡ b → AllByRecursion P (filter p (w ∷ ws))) [
  | true ↦ λ t. rw t (h.0, all_filter P p ws h.1)
  | false ↦ λ t. rw t (all_filter P p ws h.1)
]) refl

pub once_filter : (p : Want → Bool) (ws : List Want) → AreOnce ws → AreOnce (filter p ws)
once_filter p [] h = tt
once_filter p (w ∷ ws) h = (elim (p w) as (λ b. p w ≡ b → AreOnce (filter p (w ∷ ws))) [
  | true ↦ λ t. rw t (all_filter (λ x. is_other w x ≡ true) p ws h.0, once_filter p ws h.1)
  | false ↦ λ t. rw t (once_filter p ws h.1)
]) refl

pub without_twice : (w : Want) (ws : List Want) → without w (without w ws) ≡ without w ws
without_twice w [] = refl
without_twice w (x ∷ xs) = (elim (is_other w x) as (λ b. is_other w x ≡ b → without w (without w (x ∷ xs)) ≡ without w (x ∷ xs)) [
  | true ↦ λ t.
      ap (λ (l : List Want). without w l) (filter_in (is_other w) x xs t)
      ∙ filter_in (is_other w) x (without w xs) t
      ∙ ap (λ (l : List Want). x ∷ l) (without_twice w xs)
      ∙ sym (filter_in (is_other w) x xs t)
  | false ↦ λ t.
      ap (λ (l : List Want). without w l) (filter_out (is_other w) x xs t)
      ∙ without_twice w xs
      ∙ sym (filter_out (is_other w) x xs t)
]) refl

-- nothing is dropped: all are others
all_others : (w : Want) (ws : List Want) → AllByRecursion (λ x. is_other w x ≡ true) (without w ws)
all_others w [] = tt
all_others w (x ∷ xs) = (elim (is_other w x) as (λ b. is_other w x ≡ b → AllByRecursion (λ y. is_other w y ≡ true) (without w (x ∷ xs))) [
  | true ↦ λ t. rw t (t, all_others w xs)
  | false ↦ λ t. rw t (all_others w xs)
]) refl

pub others_of : (w : Want) (ws : List Want) → without w ws ≡ ws → AllByRecursion (λ x. is_other w x ≡ true) ws
others_of w ws h = subst (AllByRecursion (λ x. is_other w x ≡ true)) h (all_others w ws)

all_push : (P : Want → Type 0) (ws : List Want) (w : Want) → AllByRecursion P ws → P w → AllByRecursion P (ws ++ w ∷ [])
all_push P [] w h p = (p, tt)
all_push P (x ∷ xs) w h p = (h.0, all_push P xs w h.1 p)

-- one more, that none is of
pub once_push : (ws : List Want) (w : Want) → AreOnce ws → AllByRecursion (λ x. is_other w x ≡ true) ws → AreOnce (ws ++ w ∷ [])
once_push [] w h o = (tt, tt)
once_push (x ∷ xs) w h o = (all_push (λ y. is_other x y ≡ true) xs w h.0 (other_back w x o.0), once_push xs w h.1 o.1)

-- one of them is dropped
pub without_one : (before : List Want) (w : Want) (behind : List Want) → AreOnce (before ++ w ∷ behind) → without w (before ++ w ∷ behind) ≡ before ++ behind
without_one [] w behind h = rw (not_other w) (without_others w behind h.0)
without_one (x ∷ xs) w behind h =
    let apart : is_other w x ≡ true = other_back x w (among xs behind h.0) in
    rw apart (ap (λ (l : List Want). x ∷ l) (without_one xs w behind h.1))
  where
    among : (front back : List Want) → AllByRecursion (λ y. is_other x y ≡ true) (front ++ w ∷ back) → is_other x w ≡ true
    among [] back all = all.0
    among (y ∷ ys) back all = among ys back all.1

-- ---- lists of turns

pub values_filter : (p : Want → Bool) (turns : Turns) → values_of (filter (λ turn. p turn.1) turns) ≡ filter p (values_of turns)
values_filter p [] = refl
values_filter p (x ∷ xs) = (elim (p x.1) as (λ b. p x.1 ≡ b → values_of (filter (λ turn. p turn.1) (x ∷ xs)) ≡ filter p (values_of (x ∷ xs))) [
  | true ↦ λ t. rw t (ap (λ (l : List Want). x.1 ∷ l) (values_filter p xs))
  | false ↦ λ t. rw t (values_filter p xs)
]) refl

-- the turn of a session and block
abbrev pub turn_of : Want → Turns → Option ℕ
turn_of w [] = None
turn_of w (turn ∷ turns) = if other w turn then turn_of w turns else Some turn.0

-- a session's turn is found among those of its block
pub turn_found : (w : Want) (turns : Turns) → turn_in (filter (is_at w.block) turns) w.session ≡ turn_of w turns
turn_found w [] = refl
turn_found w (x ∷ xs) = (elim (x.1.block == w.block) as (λ b. (x.1.block == w.block) ≡ b → turn_in (filter (is_at w.block) (x ∷ xs)) w.session ≡ turn_of w (x ∷ xs)) [
  | true ↦ λ t. (elim (x.1.session == w.session) as (λ b. (x.1.session == w.session) ≡ b → turn_in (filter (is_at w.block) (x ∷ xs)) w.session ≡ turn_of w (x ∷ xs)) [
    | true ↦ λ u. rw (t, u) refl
    | false ↦ λ u. rw (t, u) (turn_found w xs)
  ]) refl
  | false ↦ λ t. (elim (x.1.session == w.session) as (λ b. (x.1.session == w.session) ≡ b → turn_in (filter (is_at w.block) (x ∷ xs)) w.session ≡ turn_of w (x ∷ xs)) [
    | true ↦ λ u. rw (t, u) (turn_found w xs)
    | false ↦ λ u. rw (t, u) (turn_found w xs)
  ]) refl
]) refl

-- whether a newer one waits is found there, too
pub newer_found : (w : Want) (turns : Turns) → list_any (λ turn. not (is_other w turn.1) && not (ltb turn.1.number w.number)) (filter (is_at w.block) turns) ≡ has_newer w (values_of turns)
newer_found w [] = refl
newer_found w (x ∷ xs) = (elim (x.1.block == w.block) as (λ b. (x.1.block == w.block) ≡ b → list_any (λ turn. not (is_other w turn.1) && not (ltb turn.1.number w.number)) (filter (is_at w.block) (x ∷ xs)) ≡ has_newer w (values_of (x ∷ xs))) [
  | true ↦ λ t.
      subst (λ (l : Turns). list_any (λ turn. not (is_other w turn.1) && not (ltb turn.1.number w.number)) l ≡ has_newer w (values_of (x ∷ xs))) (sym (filter_in (is_at w.block) x xs t))
      (ap (λ (b : Bool). (not (is_other w x.1) && not (ltb x.1.number w.number)) || b) (newer_found w xs))
  | false ↦ λ t.
      let apart : (not (is_other w x.1) && not (ltb x.1.number w.number)) ≡ false = grind arith in
      subst (λ (l : Turns). list_any (λ turn. not (is_other w turn.1) && not (ltb turn.1.number w.number)) l ≡ has_newer w (values_of (x ∷ xs))) (sym (filter_out (is_at w.block) x xs t)) (newer_found w xs ∙ sym (ap (λ (b : Bool). b || has_newer w (values_of xs)) apart))
]) refl

-- none is of that session and block
pub none_dropped : (w : Want) (turns : Turns) → turn_of w turns ≡ None → filter (other w) turns ≡ turns
none_dropped w [] h = refl
none_dropped w (x ∷ xs) h = (elim (is_other w x.1) as (λ b. is_other w x.1 ≡ b → filter (other w) (x ∷ xs) ≡ x ∷ xs) [
  | true ↦ λ t.
      let rest : turn_of w xs ≡ None = rw t at h in
      rw t (ap (λ (l : Turns). x ∷ l) (none_dropped w xs rest))
  | false ↦ λ t.
      let here : Some x.0 ≡ None = rw t at h in
      absurd cc
]) refl

-- a turn that is found is above those before it
found_above : (w : Want) (turns : Turns) (turn : ℕ) (P : ℕ → Type 0) → AllByRecursion P (keys_of turns) → turn_of w turns ≡ Some turn → P turn
found_above w [] turn P h found = absurd cc
found_above w (x ∷ xs) turn P h found = (elim (is_other w x.1) as (λ b. is_other w x.1 ≡ b → P turn) [
  | true ↦ λ t.
      let rest : turn_of w xs ≡ Some turn = rw t at found in
      found_above w xs turn P h.1 rest
  | false ↦ λ t.
      let here : Some x.0 ≡ Some turn = rw t at found in
      let is : x.0 ≡ turn = cc in
      subst P is h.0
]) refl

all_other : (v w : Want) (turns : Turns) → is_other v w ≡ false → AllByRecursion (λ x. is_other w x ≡ true) (values_of turns) → filter (other v) turns ≡ turns
all_other v w [] same h = refl
all_other v w (x ∷ xs) same h = rw (other_as v w x.1 same h.0) (ap (λ (l : Turns). x ∷ l) (all_other v w xs same h.1))

same_key : (n : ℕ) → is_at_key (nat_cmp n) n ≡ true
same_key n = grind (arith, nat_tests)

less_key : (m n : ℕ) → nat_cmp m n ≡ Less → is_at_key (nat_cmp n) m ≡ false
less_key m n h = grind (arith, nat_tests)

-- the turn is taken out: all others stay
pub one_dropped : (w : Want) (turns : Turns) (turn : ℕ) → IsStrictlySortedBy nat_cmp (keys_of turns) → AreOnce (values_of turns) → turn_of w turns ≡ Some turn → remove_entry (is_at_key (nat_cmp turn)) turns ≡ filter (other w) turns
unfolding IsStrictlySortedBy
one_dropped w [] turn rises once found = absurd cc
one_dropped w (x ∷ xs) turn rises once found = (elim (is_other w x.1) as (λ b. is_other w x.1 ≡ b → remove_entry (is_at_key (nat_cmp turn)) (x ∷ xs) ≡ filter (other w) (x ∷ xs)) [
  | true ↦ λ t.
      let rest : turn_of w xs ≡ Some turn = rw t at found in
      let apart : is_at_key (nat_cmp turn) x.0 ≡ false = less_key x.0 turn (found_above w xs turn (λ n. nat_cmp x.0 n ≡ Less) rises.0 rest) in
      rw (apart, t) (ap (λ (l : Turns). x ∷ l) (one_dropped w xs turn rises.1 once.1 rest))
  | false ↦ λ t.
      let here : Some x.0 ≡ Some turn = rw t at found in
      let is : x.0 ≡ turn = cc in
      let own : is_at_key (nat_cmp turn) x.0 ≡ true = subst (λ (n : ℕ). is_at_key (nat_cmp n) x.0 ≡ true) is (same_key x.0) in
      rw (own, t) (sym (all_other w x.1 xs t once.0))
]) refl

-- a turn above all others goes to the end
pub put_last : (turns : Turns) (turn : ℕ) (w : Want) → AllByRecursion (λ n. n < turn) (keys_of turns) → insert_entry nat_cmp turns turn w ≡ turns ++ (turn, w) ∷ []
put_last [] turn w h = refl
put_last (x ∷ xs) turn w h =
    let above : nat_cmp turn x.0 ≡ Greater = grind (arith, nat_tests, h.0) in
    rw above (ap (λ (l : Turns). x ∷ l) (put_last xs turn w h.1))

-- ---- those of one block

-- others stay where one of a block goes
pub apart_stays : (w : Want) (block : ℕ) (turns : Turns) → (block == w.block) ≡ false → filter (is_at block) (filter (other w) turns) ≡ filter (is_at block) turns
apart_stays w block [] h = refl
apart_stays w block (x ∷ xs) h = (elim (x.1.block == block) as (λ b. (x.1.block == block) ≡ b → filter (is_at block) (filter (other w) (x ∷ xs)) ≡ filter (is_at block) (x ∷ xs)) [
  | true ↦ λ t.
      let stays : is_other w x.1 ≡ true = grind arith in
      ap (λ (l : Turns). filter (is_at block) l) (filter_in (other w) x xs stays)
      ∙ filter_in (is_at block) x (filter (other w) xs) t
      ∙ ap (λ (l : Turns). x ∷ l) (apart_stays w block xs h)
      ∙ sym (filter_in (is_at block) x xs t)
  | false ↦ λ t. (elim (is_other w x.1) as (λ b. is_other w x.1 ≡ b → filter (is_at block) (filter (other w) (x ∷ xs)) ≡ filter (is_at block) (x ∷ xs)) [
    | true ↦ λ u.
        ap (λ (l : Turns). filter (is_at block) l) (filter_in (other w) x xs u)
        ∙ filter_out (is_at block) x (filter (other w) xs) t
        ∙ apart_stays w block xs h
        ∙ sym (filter_out (is_at block) x xs t)
    | false ↦ λ u.
        ap (λ (l : Turns). filter (is_at block) l) (filter_out (other w) x xs u)
        ∙ apart_stays w block xs h
        ∙ sym (filter_out (is_at block) x xs t)
  ]) refl
]) refl

pub filters_swap : (p q : ℕ × Want → Bool) (turns : Turns) → filter p (filter q turns) ≡ filter q (filter p turns)
filters_swap p q [] = refl
filters_swap p q (x ∷ xs) = (elim (p x) as (λ b. p x ≡ b → filter p (filter q (x ∷ xs)) ≡ filter q (filter p (x ∷ xs))) [
  | true ↦ λ t. (elim (q x) as (λ b. q x ≡ b → filter p (filter q (x ∷ xs)) ≡ filter q (filter p (x ∷ xs))) [
    | true ↦ λ u.
        ap (λ (l : Turns). filter p l) (filter_in q x xs u)
        ∙ filter_in p x (filter q xs) t
        ∙ ap (λ (l : Turns). x ∷ l) (filters_swap p q xs)
        ∙ sym (filter_in q x (filter p xs) u)
        ∙ sym (ap (λ (l : Turns). filter q l) (filter_in p x xs t))
    | false ↦ λ u.
        ap (λ (l : Turns). filter p l) (filter_out q x xs u)
        ∙ filters_swap p q xs
        ∙ sym (filter_out q x (filter p xs) u)
        ∙ sym (ap (λ (l : Turns). filter q l) (filter_in p x xs t))
  ]) refl
  | false ↦ λ t. (elim (q x) as (λ b. q x ≡ b → filter p (filter q (x ∷ xs)) ≡ filter q (filter p (x ∷ xs))) [
    | true ↦ λ u.
        ap (λ (l : Turns). filter p l) (filter_in q x xs u)
        ∙ filter_out p x (filter q xs) t
        ∙ filters_swap p q xs
        ∙ sym (ap (λ (l : Turns). filter q l) (filter_out p x xs t))
    | false ↦ λ u.
        ap (λ (l : Turns). filter p l) (filter_out q x xs u)
        ∙ filters_swap p q xs
        ∙ sym (ap (λ (l : Turns). filter q l) (filter_out p x xs t))
  ]) refl
]) refl

-- ---- those of sessions that live

-- one is dropped where its session doesn't live
abbrev pub kept_if : GlobalState → Want → List Want → List Want
kept_if known w ws = if lives known w.session then ws else without w ws

pub record AreKept (known : GlobalState) (before behind now : List Want) : Type 0 where
  pub is : now ≡ still_waiting known before ++ behind
  pub once : AreOnce now

pub kept_on : (known : GlobalState) (all : List Want) (i : ℕ) (w : Want) (old new : List Want) → drop i all ≡ w ∷ drop (i + 1) all → take (i + 1) all ≡ take i all ++ w ∷ [] → AreKept known (take i all) (drop i all) old → new ≡ kept_if known w old → AreKept known (take (i + 1) all) (drop (i + 1) all) new
kept_on known all i w old new cut more kept is = (elim (lives known w.session) as (λ b. lives known w.session ≡ b → AreKept known (take (i + 1) all) (drop (i + 1) all) new) [
  | true ↦ λ t.
      let stays : new ≡ old = subst (λ (b : Bool). new ≡ (if b then old else without w old)) t is in
      let one : filter (λ v. lives known v.session) (w ∷ []) ≡ w ∷ [] = filter_in (λ v. lives known v.session) w [] t in
      record {
        is = stays ∙ kept.is ∙ ap (λ (l : List Want). still_waiting known (take i all) ++ l) cut ∙ sym (append_assoc (still_waiting known (take i all)) (w ∷ []) (drop (i + 1) all))
            ∙ ap (λ (l : List Want). (still_waiting known (take i all) ++ l) ++ drop (i + 1) all) (sym one)
            ∙ ap (λ (l : List Want). l ++ drop (i + 1) all) (sym (filter-append (λ v. lives known v.session) (take i all) (w ∷ [])) ∙ ap (still_waiting known) (sym more));
        once = subst AreOnce (sym stays) kept.once;
      }
  | false ↦ λ t.
      let goes : new ≡ without w old = subst (λ (b : Bool). new ≡ (if b then old else without w old)) t is in
      let none : filter (λ v. lives known v.session) (w ∷ []) ≡ [] = filter_out (λ v. lives known v.session) w [] t in
      let split : old ≡ still_waiting known (take i all) ++ w ∷ drop (i + 1) all = kept.is ∙ ap (λ (l : List Want). still_waiting known (take i all) ++ l) cut in
      record {
        is = goes ∙ ap (without w) split ∙ without_one (still_waiting known (take i all)) w (drop (i + 1) all) (subst AreOnce split kept.once)
            ∙ ap (λ (l : List Want). l ++ drop (i + 1) all) (sym (append-nil (still_waiting known (take i all))) ∙ ap (λ (l : List Want). still_waiting known (take i all) ++ l) (sym none) ∙ sym (filter-append (λ v. lives known v.session) (take i all) (w ∷ [])) ∙ ap (still_waiting known) (sym more));
        once = subst AreOnce (sym goes) (once_filter (is_other w) old kept.once);
      }
]) refl
