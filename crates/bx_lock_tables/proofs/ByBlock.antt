-- A queue after a want is put into it or taken out.
use Rattle.std.proofs.Common.{◌≡◌, ℕ, ◌+◌, ◌<◌, ◌==◌, Bool, true, false, List, [], ◌∷◌, ◌++◌, Option, Some, None, Vec, Global, if◌then◌else◌, refl, sym, ap, subst, ◌∙◌, arith, append-nil}
use Rattle.std.specs.Prelude.{filter}
use Rattle.std.specs.List.{AllByRecursion}
use Rattle.std.specs.BTreeMap.{BTreeMap, IsOrdered, UpdatesBy, get, keys, values, insert_entry, is_at as is_at_key}
use Rattle.std.specs.Map.{keys_of, values_of, remove_entry}
use Rattle.std.specs.Ordering.{is_eq, nat_cmp}
use Rattle.std.proofs.lemmas.Bool.{eqb-true}
use Rattle.std.proofs.lemmas.Bool.Decides.{nat_tests}
use Rattle.std.proofs.lemmas.List.Elements.{filter-append}
use Rattle.bx_lock_words.specs.declared.words.Want.{Want}
use Rattle.bx_lock_tables.specs.Queue.{AreOnce, IsQueue, Turns, is_at, is_other, items_or_none, turn_in, turns_at, wants_at, without}
use Rattle.bx_lock_tables.proofs.Waiting.{apart_stays, filters_swap, none_dropped, not_other, once_filter, once_push, one_dropped, other, others_of, put_last, turn_found, turn_of, values_filter}

abbrev pub Blocks : Type 0
Blocks = BTreeMap ℕ (Vec (ℕ × Want) Global)

-- ---- one block's list is another now

differ : (a b : ℕ) → (a == b) ≡ false → is_eq (nat_cmp b a) ≡ false
differ a b apart = grind (arith, nat_tests)

-- what each block has, where one has these
abbrev pub Puts : Blocks → ℕ → (Turns → Turns) → Blocks → Type 0
Puts old block change new = (b : ℕ) → turns_at new b ≡ (if b == block then change (turns_at old b) else turns_at old b)

module _ (old new : Blocks) (block : ℕ) (list : Vec (ℕ × Want) Global) (updates : UpdatesBy nat_cmp (nat_cmp block) old new (Some list)) where
  put_here : (change : Turns → Turns) → list.items ≡ change (turns_at old block) → Puts old block change new
  put_here change is b = (elim (b == block) as (λ t. (b == block) ≡ t → turns_at new b ≡ (if b == block then change (turns_at old b) else turns_at old b)) [
    | true ↦ λ t.
        let here : b ≡ block = eqb-true b block t in
        rw t
        (ap (λ (n : ℕ). turns_at new n) here
        ∙ ap (λ (o : Option (Vec (ℕ × Want) Global)). items_or_none o) updates.1
        ∙ is
        ∙ ap (λ (n : ℕ). change (turns_at old n)) (sym here))
    | false ↦ λ t. rw t (ap (λ (o : Option (Vec (ℕ × Want) Global)). items_or_none o) (updates.2 b (differ b block t)))
  ]) refl

  pub put_first : (turn : ℕ × Want) → get nat_cmp old block ≡ None → list.items ≡ turn ∷ [] → Puts old block (λ l. l ++ turn ∷ []) new
  put_first turn none is = put_here (λ l. l ++ turn ∷ []) (is ∙ sym (ap (λ (o : Option (Vec (ℕ × Want) Global)). items_or_none o ++ turn ∷ []) none))

  pub put_filtered : (p : ℕ × Want → Bool) (was : Vec (ℕ × Want) Global) → get nat_cmp old block ≡ Some was → list.items ≡ filter p was.items → Puts old block (λ l. filter p l) new
  put_filtered p was there is = put_here (λ l. filter p l) (is ∙ sym (ap (λ (o : Option (Vec (ℕ × Want) Global)). filter p (items_or_none o)) there))

pub none_filtered : (old new : Blocks) (block : ℕ) (p : ℕ × Want → Bool) → new ≡ old → get nat_cmp old block ≡ None → Puts old block (λ l. filter p l) new
none_filtered old new block p same none b = (elim (b == block) as (λ t. (b == block) ≡ t → turns_at new b ≡ (if b == block then filter p (turns_at old b) else turns_at old b)) [
  | true ↦ λ t.
      let here : b ≡ block = eqb-true b block t in
      let empty : turns_at old b ≡ [] = ap (λ (n : ℕ). turns_at old n) here ∙ ap (λ (o : Option (Vec (ℕ × Want) Global)). items_or_none o) none in
      rw t (ap (λ (m : Blocks). turns_at m b) same ∙ empty ∙ sym (ap (λ (l : Turns). filter p l) empty))
  | false ↦ λ t. rw t (ap (λ (m : Blocks). turns_at m b) same)
]) refl

pub changed : (old new : Blocks) (block : ℕ) (change : Turns → Turns) → Puts old block change new → (b : ℕ) → (b == block) ≡ true → turns_at new b ≡ change (turns_at old b)
changed old new block change puts b t = subst (λ (u : Bool). turns_at new b ≡ (if u then change (turns_at old b) else turns_at old b)) t (puts b)

pub unchanged : (old new : Blocks) (block : ℕ) (change : Turns → Turns) → Puts old block change new → (b : ℕ) → (b == block) ≡ false → turns_at new b ≡ turns_at old b
unchanged old new block change puts b t = subst (λ (u : Bool). turns_at new b ≡ (if u then change (turns_at old b) else turns_at old b)) t (puts b)

-- ---- keys

keys_kept : (P : ℕ → Type 0) (p : ℕ × Want → Bool) (turns : Turns) → AllByRecursion P (keys_of turns) → AllByRecursion P (keys_of (filter p turns))
keys_kept P p [] h = tt
keys_kept P p (x ∷ xs) h = (elim (p x) as (λ b. p x ≡ b → AllByRecursion P (keys_of (filter p (x ∷ xs)))) [
  | true ↦ λ t. rw t (h.0, keys_kept P p xs h.1)
  | false ↦ λ t. rw t (keys_kept P p xs h.1)
]) refl

keys_more : (turns : Turns) (next : ℕ) (w : Want) → AllByRecursion (λ n. n < next) (keys_of turns) → AllByRecursion (λ n. n < next + 1) (keys_of (turns ++ (next, w) ∷ []))
keys_more [] next w h = (omega arith, tt)
keys_more (x ∷ xs) next w h = (omega (arith, h.0), keys_more xs next w h.1)

values_more : (turns : Turns) (turn : ℕ × Want) → values_of (turns ++ turn ∷ []) ≡ values_of turns ++ turn.1 ∷ []
values_more [] turn = refl
values_more (x ∷ xs) turn = ap (λ (l : List Want). x.1 ∷ l) (values_more xs turn)

-- ---- the queue

module _ (next : ℕ) (line : BTreeMap ℕ Want) (blocks : Blocks) (is : IsQueue next line blocks) (w : Want) where
  turn_is : turn_in (turns_at blocks w.block) w.session ≡ turn_of w line.entries
  turn_is = ap (λ (l : Turns). turn_in l w.session) (is.by_block w.block) ∙ turn_found w line.entries

  pub nothing_dropped : turn_in (turns_at blocks w.block) w.session ≡ None → values line ≡ without w (values line)
  nothing_dropped none = ap values_of (sym (none_dropped w line.entries (sym turn_is ∙ none))) ∙ values_filter (is_other w) line.entries

  module _ (turn : ℕ) (found : turn_in (turns_at blocks w.block) w.session ≡ Some turn) (after : BTreeMap ℕ Want) (goes : after.entries ≡ remove_entry (is_at_key (nat_cmp turn)) line.entries) where
    left : after.entries ≡ filter (other w) line.entries
    left = goes ∙ one_dropped w line.entries turn is.rises is.once (sym turn_is ∙ found)

    pub dropped_values : values after ≡ without w (values line)
    dropped_values = ap values_of left ∙ values_filter (is_other w) line.entries

    pub dropped : (kept : Blocks) → IsOrdered nat_cmp after → Puts blocks w.block (λ l. filter (other w) l) kept → IsQueue next after kept
    dropped kept rises puts = record {
      rises = rises;
      below = subst (λ (l : Turns). AllByRecursion (λ n. n < next) (keys_of l)) (sym left) (keys_kept (λ n. n < next) (other w) line.entries is.below);
      once = subst AreOnce (sym dropped_values) (once_filter (is_other w) (values line) is.once);
      by_block = λ b. (elim (b == w.block) as (λ t. (b == w.block) ≡ t → turns_at kept b ≡ filter (is_at b) after.entries) [
        | true ↦ λ t.
            let there = changed blocks kept w.block (λ l. filter (other w) l) puts b t in
            there ∙ ap (λ (l : Turns). filter (other w) l) (is.by_block b) ∙ filters_swap (other w) (is_at b) line.entries ∙ ap (λ (l : Turns). filter (is_at b) l) (sym left)
        | false ↦ λ t.
            let there = unchanged blocks kept w.block (λ l. filter (other w) l) puts b t in
            there ∙ is.by_block b ∙ sym (apart_stays w b line.entries t) ∙ ap (λ (l : Turns). filter (is_at b) l) (sym left)
      ]) refl;
    }

  module _ (others : without w (values line) ≡ values line) (more : Blocks) (puts : Puts blocks w.block (λ l. l ++ (next, w) ∷ []) more) (after : BTreeMap ℕ Want) where
    pub pushed_values : after.entries ≡ insert_entry nat_cmp line.entries next w → values after ≡ values line ++ w ∷ []
    pushed_values comes = ap values_of (comes ∙ put_last line.entries next w is.below) ∙ values_more line.entries (next, w)

    pub pushed : after.entries ≡ insert_entry nat_cmp line.entries next w → IsOrdered nat_cmp after → (last : ℕ) → last ≡ next + 1 → IsQueue last after more
    pushed comes rises last bound =
        let all : after.entries ≡ line.entries ++ (next, w) ∷ [] = comes ∙ put_last line.entries next w is.below in
        record {
          rises = rises;
          below = subst (λ (n : ℕ). AllByRecursion (λ m. m < n) (keys after)) (sym bound) (subst (λ (l : Turns). AllByRecursion (λ m. m < next + 1) (keys_of l)) (sym all) (keys_more line.entries next w is.below));
          once = subst AreOnce (sym (pushed_values comes)) (once_push (values line) w is.once (others_of w (values line) others));
          by_block = λ b. (elim (b == w.block) as (λ t. (b == w.block) ≡ t → turns_at more b ≡ filter (is_at b) after.entries) [
            | true ↦ λ t.
                let there = changed blocks more w.block (λ l. l ++ (next, w) ∷ []) puts b t in
                let same : (w.block == b) ≡ true = grind arith in
                let one : filter (is_at b) ((next, w) ∷ []) ≡ (next, w) ∷ [] = rw same refl in
                there ∙ ap (λ (l : Turns). l ++ (next, w) ∷ []) (is.by_block b) ∙ ap (λ (l : Turns). filter (is_at b) line.entries ++ l) (sym one)
                ∙ sym (filter-append (is_at b) line.entries ((next, w) ∷ [])) ∙ ap (λ (l : Turns). filter (is_at b) l) (sym all)
            | false ↦ λ t.
                let there = unchanged blocks more w.block (λ l. l ++ (next, w) ∷ []) puts b t in
                let apart : (w.block == b) ≡ false = grind arith in
                let none : filter (is_at b) ((next, w) ∷ []) ≡ [] = rw apart refl in
                there ∙ is.by_block b ∙ sym (append-nil (filter (is_at b) line.entries)) ∙ ap (λ (l : Turns). filter (is_at b) line.entries ++ l) (sym none)
                ∙ sym (filter-append (is_at b) line.entries ((next, w) ∷ [])) ∙ ap (λ (l : Turns). filter (is_at b) l) (sym all)
          ]) refl;
        }

    -- it is taken out again
    pub undone : after.entries ≡ line.entries → IsOrdered nat_cmp after → (kept : Blocks) → Puts more w.block (λ l. filter (other w) l) kept → IsQueue next after kept
    undone same rises kept takes =
        let apart : filter (other w) ((next, w) ∷ []) ≡ [] = rw (not_other w) refl in
        let all : filter (other w) line.entries ≡ line.entries = none_dropped w line.entries (absent line.entries others) in
        record {
          rises = rises;
          below = subst (λ (l : Turns). AllByRecursion (λ n. n < next) (keys_of l)) (sym same) is.below;
          once = subst (λ (l : Turns). AreOnce (values_of l)) (sym same) is.once;
          by_block = λ b. (elim (b == w.block) as (λ t. (b == w.block) ≡ t → turns_at kept b ≡ filter (is_at b) after.entries) [
            | true ↦ λ t.
                let there = changed blocks more w.block (λ l. l ++ (next, w) ∷ []) puts b t in
                let back = changed more kept w.block (λ l. filter (other w) l) takes b t in
                back ∙ ap (λ (l : Turns). filter (other w) l) there ∙ filter-append (other w) (turns_at blocks b) ((next, w) ∷ []) ∙ ap (λ (l : Turns). filter (other w) (turns_at blocks b) ++ l) apart
                ∙ append-nil (filter (other w) (turns_at blocks b)) ∙ ap (λ (l : Turns). filter (other w) l) (is.by_block b) ∙ filters_swap (other w) (is_at b) line.entries
                ∙ ap (λ (l : Turns). filter (is_at b) l) (all ∙ sym same)
            | false ↦ λ t.
                let there = unchanged blocks more w.block (λ l. l ++ (next, w) ∷ []) puts b t in
                let back = unchanged more kept w.block (λ l. filter (other w) l) takes b t in
                back ∙ there ∙ is.by_block b ∙ ap (λ (l : Turns). filter (is_at b) l) (sym same)
          ]) refl;
        }
      where
        absent : (turns : Turns) → without w (values_of turns) ≡ values_of turns → turn_of w turns ≡ None
        absent turns h = by turns (others_of w (values_of turns) h)
          where
            by : (turns : Turns) → AllByRecursion (λ x. is_other w x ≡ true) (values_of turns) → turn_of w turns ≡ None
            by [] h = refl
            by (x ∷ xs) h = rw h.0 (by xs h.1)

pub found_at : (next : ℕ) (line : BTreeMap ℕ Want) (blocks : Blocks) → IsQueue next line blocks → (block : ℕ) → values_of (turns_at blocks block) ≡ wants_at block (values line)
found_at next line blocks is block = ap values_of (is.by_block block) ∙ values_filter (λ v. v.block == block) line.entries
