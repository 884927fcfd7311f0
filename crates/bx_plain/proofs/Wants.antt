-- Wants, where a row is put.
use Rattle.std.proofs.Common.{◌≡◌, ◌≢◌, ◌⊎◌, inl, inr, ⊎_elim, ℕ, ltb, Bool, true, false, List, [], ◌∷◌, Option, Some, None, refl, sym, ap, subst, ◌∙◌}
use Rattle.std.specs.Prelude.{IsSome, IsSomeAnd, option_map, suc, if◌then◌else◌, not}
use Rattle.bx_base.specs.declared.names.Mode.{Mode}
use Rattle.bx_facts.specs.Holds.{Hold}
use Rattle.bx_plain.specs.declared.rows.Row.{Row}
use Rattle.bx_plain.specs.Asks.{AlikeBut}
use Rattle.bx_plain.specs.Rows.{hold_in, hold_of_row, is_row, place_in, lock_row, want_in, want_of_row, with_row}
use Rattle.bx_plain.proofs.Asking.{alike_put}
use Rattle.bx_plain.proofs.Puts.{held_beside, held_here, is_its_own, keys_of_row, not_row, row_is, same_test}
use Rattle.bx_plain.proofs.Stands.{hold_of_its, want_of_its}

pub want_here : (rows : List Row) (new : Row) → want_in (with_row rows new) new.session new.block ≡ want_of_row new
want_here [] new = rw (is_its_own new) refl
want_here (row ∷ rows) new = (elim (is_row new.session new.block row) as (λ b. is_row new.session new.block row ≡ b → want_in (with_row (row ∷ rows) new) new.session new.block ≡ want_of_row new) [
  | true ↦ λ t. rw (t, is_its_own new) refl
  | false ↦ λ t. (elim (ltb new.block row.block) as (λ b. ltb new.block row.block ≡ b → want_in (with_row (row ∷ rows) new) new.session new.block ≡ want_of_row new) [
    | true ↦ λ l. rw (t, l, is_its_own new) refl
    | false ↦ λ l. rw (t, l, t, want_here rows new) refl
  ]) refl
]) refl

pub want_beside : (rows : List Row) (new : Row) (session block : ℕ) → is_row session block new ≡ false → want_in (with_row rows new) session block ≡ want_in rows session block
want_beside [] new session block other = rw other refl
want_beside (row ∷ rows) new session block other = (elim (is_row new.session new.block row) as (λ b. is_row new.session new.block row ≡ b → want_in (with_row (row ∷ rows) new) session block ≡ want_in (row ∷ rows) session block) [
  | true ↦ λ t. rw (t, other, same_test session block row new t ∙ other) refl
  | false ↦ λ t. (elim (ltb new.block row.block) as (λ b. ltb new.block row.block ≡ b → want_in (with_row (row ∷ rows) new) session block ≡ want_in (row ∷ rows) session block) [
    | true ↦ λ l. rw (t, l, other) refl
    | false ↦ λ l. rw (t, l, want_beside rows new session block other) refl
  ]) refl
]) refl

-- what is held and wanted, by the row
pub held_as : (rows : List Row) (session block : ℕ) (row : Row) → row ≡ lock_row rows session block → row.is_held ≡ true → Some (row.mode, row.index) ≡ hold_in rows session block
held_as rows session block row its held = sym (ap (λ t. if t then Some (row.mode, row.index) else None) held) ∙ ap hold_of_row its ∙ sym (hold_of_its rows session block)

pub not_held : (rows : List Row) (session block : ℕ) (row : Row) → row ≡ lock_row rows session block → row.is_held ≡ false → hold_in rows session block ≡ None
not_held rows session block row its free = hold_of_its rows session block ∙ sym (ap hold_of_row its) ∙ ap (λ t. if t then Some (row.mode, row.index) else None) free

pub wanted_as : (rows : List Row) (session block : ℕ) (row : Row) → row ≡ lock_row rows session block → row.is_wanted ≡ true → Some row.mode ≡ want_in rows session block
wanted_as rows session block row its wanted = sym (ap (λ t. if t then Some row.mode else None) wanted) ∙ ap want_of_row its ∙ sym (want_of_its rows session block)

pub not_wanted : (rows : List Row) (session block : ℕ) (row : Row) → row ≡ lock_row rows session block → row.is_wanted ≡ false → want_in rows session block ≡ None
not_wanted rows session block row its free = want_of_its rows session block ∙ sym (ap want_of_row its) ∙ ap (λ t. if t then Some row.mode else None) free

pub was_true : (b : Bool) → not b ≡ false → b ≡ true
was_true true is = refl
was_true false is = absurd cc

-- a row by which something is wanted stands there
place_wanted : (rows : List Row) (session block : ℕ) → (lock_row rows session block).is_wanted ≡ true → IsSome (place_in rows session block)
place_wanted [] session block wanted = absurd cc
place_wanted (row ∷ rows) session block wanted = (elim (is_row session block row) as (λ b. is_row session block row ≡ b → IsSome (place_in (row ∷ rows) session block)) [
  | true ↦ λ t. rw t refl
  | false ↦ λ t. let later : IsSome (place_in rows session block) = place_wanted rows session block (let h = rw t at wanted in h) in rw t (some_more (place_in rows session block) later)
]) refl
  where
    some_more : (o : Option ℕ) → IsSome o → IsSome (option_map suc o)
    some_more None some = some
    some_more (Some n) some = refl

pub wanted_place : (rows : List Row) (session block : ℕ) (row : Row) → row ≡ lock_row rows session block → row.is_wanted ≡ true → IsSome (place_in rows session block)
wanted_place rows session block row its wanted = place_wanted rows session block (sym (ap (λ (r : Row). r.is_wanted) its) ∙ wanted)

-- where a row is put that wants nothing, wants only go
module _ (rows : List Row) (new : Row) (nothing : new.is_wanted ≡ false) where
  pub wants_go : (other at : ℕ) → (want_in (with_row rows new) other at ≡ None) ⊎ (want_in (with_row rows new) other at ≡ want_in rows other at)
  wants_go other at = by_test (is_row other at new) refl
    where
      none : want_of_row new ≡ None
      none = ap (λ t. if t then Some new.mode else None) nothing

      by_test : (t : Bool) → is_row other at new ≡ t → (want_in (with_row rows new) other at ≡ None) ⊎ (want_in (with_row rows new) other at ≡ want_in rows other at)
      by_test true is =
          let keys = row_is other at new is in
          let P : ℕ → Type 0 = λ n. want_in (with_row rows new) n new.block ≡ None in
          let Q : ℕ → Type 0 = λ n. want_in (with_row rows new) other n ≡ None in
          inl (subst Q keys.1 (subst P keys.0 (want_here rows new ∙ none)))
      by_test false apart = inr (want_beside rows new other at apart)

-- where a row is put, all of other sessions and blocks stays
pub put_beside : (rows : List Row) (new : Row) (other at : ℕ) → (other ≢ new.session) ⊎ (at ≢ new.block) → want_in (with_row rows new) other at ≡ want_in rows other at
put_beside rows new other at apart = want_beside rows new other at (not_row other at new (⊎_elim (λ one. inl (λ same. one (sym same))) (λ one. inr (λ same. one (sym same))) apart))

-- a row of a session and a block, by its keys
module _ (rows : List Row) (session block : ℕ) (row : Row) (its : row ≡ lock_row rows session block) where
  pub its_session : row.session ≡ session
  its_session = ap (λ (r : Row). r.session) its ∙ (keys_of_row rows session block).0

  pub its_block : row.block ≡ block
  its_block = ap (λ (r : Row). r.block) its ∙ (keys_of_row rows session block).1

  -- who wanted nothing is left alone where another's want is granted
  pub left_alone : (new : Row) → new.session ≡ row.session → new.block ≡ row.block → row.is_wanted ≡ true → (other : ℕ) → want_in rows other block ≡ None
      → (want_in (with_row rows new) other block ≡ None) × (hold_in (with_row rows new) other block ≡ hold_in rows other block)
  left_alone new same_session same_block wanted other none =
      let apart : other ≢ new.session = (λ same.
      let P : ℕ → Type 0 = λ n. want_in rows n block ≡ None in
      let gone = subst P (same ∙ same_session ∙ its_session) none in
      let there = wanted_as rows session block row its wanted in
      let wrong = there ∙ gone in absurd cc) in
      let no = not_row other block new (inl (λ same. apart (sym same))) in
      (want_beside rows new other block no ∙ none, held_beside rows new other block no)

  -- rows but those of the block are as they were
  pub alike_its : (new : Row) → new.block ≡ row.block → AlikeBut block rows (with_row rows new)
  alike_its new same = let P : ℕ → Type 0 = λ n. AlikeBut n rows (with_row rows new) in subst P (same ∙ its_block) (alike_put rows new)

  -- what stands in the row that is put
  pub want_of_new : (new : Row) → new.session ≡ row.session → new.block ≡ row.block → want_in (with_row rows new) session block ≡ want_of_row new
  want_of_new new same_session same_block =
      let P : ℕ → Type 0 = λ n. want_in (with_row rows new) n new.block ≡ want_of_row new in
      let Q : ℕ → Type 0 = λ n. want_in (with_row rows new) session n ≡ want_of_row new in
      subst Q (same_block ∙ its_block) (subst P (same_session ∙ its_session) (want_here rows new))

  pub hold_of_new : (new : Row) → new.session ≡ row.session → new.block ≡ row.block → hold_in (with_row rows new) session block ≡ hold_of_row new
  hold_of_new new same_session same_block =
      let P : ℕ → Type 0 = λ n. hold_in (with_row rows new) n new.block ≡ hold_of_row new in
      let Q : ℕ → Type 0 = λ n. hold_in (with_row rows new) session n ≡ hold_of_row new in
      subst Q (same_block ∙ its_block) (subst P (same_session ∙ its_session) (held_here rows new))

  -- a want that is put is out, or is granted
  pub asked_or_granted : (new : Row) (mode : Mode) (free : Bool) → new.session ≡ row.session → new.block ≡ row.block → new.mode ≡ mode → new.is_held ≡ free → new.is_wanted ≡ not free
      → (want_in (with_row rows new) session block ≡ Some mode) ⊎ IsSomeAnd (hold_in (with_row rows new) session block) (λ held. held.0 ≡ mode)
  asked_or_granted new mode true same_session same_block is held wanted =
      let there : hold_in (with_row rows new) session block ≡ Some (new.mode, new.index) = hold_of_new new same_session same_block ∙ ap (λ t. if t then Some (new.mode, new.index) else None) held in
      inr (subst (λ (o : Option Hold). IsSomeAnd o (λ h. h.0 ≡ mode)) (sym there) is)
  asked_or_granted new mode false same_session same_block is held wanted =
      inl (want_of_new new same_session same_block ∙ ap (λ t. if t then Some new.mode else None) wanted ∙ ap Some is)
