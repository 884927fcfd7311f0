-- A legal change keeps the conditions on a state.
use Rattle.std.proofs.Common.{◌≡◌, ◌≢◌, ℕ, zero, suc, ◌+◌, ◌<◌, ◌≤◌, Bool, true, false, not, eqb, List, [], ◌∷◌, ◌++◌, length, map, filter, refl, sym, ap, ◌∙◌, inl, inr, arith, ne_eqb}
use Rattle.std.specs.Prelude.{find, unwrap_or}
use Rattle.std.specs.List.{AllByRecursion}
use Rattle.std.proofs.lemmas.Bool.Decides.{eqb_tells}
use Rattle.bx_rows.specs.declared.session.SessionRow.{SessionRow}
use Rattle.bx_rows.specs.Conditions.{AreRising, HaveOwnSlots}
use Rattle.bx_rows.specs.Words.{is_taken, least_free, slots}

-- ---- what holds of each item

pub all-map : {X Y : Type 0} (P : X → Type 0) (Q : Y → Type 0) (f : X → Y) → ((x : X) → P x → Q (f x)) → (xs : List X) → AllByRecursion P xs → AllByRecursion Q (map f xs)
all-map P Q f k [] a = tt
all-map P Q f k (x ∷ xs) a = (k x a.0, all-map P Q f k xs a.1)

pub all-filter : {X : Type 0} (P : X → Type 0) (p : X → Bool) (xs : List X) → AllByRecursion P xs → AllByRecursion P (filter p xs)
all-filter P p [] a = tt
all-filter P p (x ∷ xs) a =
    (elim (p x) as (λ (b : Bool). p x ≡ b → AllByRecursion P (filter p (x ∷ xs))) [
      | true ↦ λ t. rw t (a.0, all-filter P p xs a.1)
      | false ↦ λ t. rw t (all-filter P p xs a.1)
    ]) refl

pub all-push : {X : Type 0} (P : X → Type 0) (xs : List X) (x : X) → AllByRecursion P xs → P x → AllByRecursion P (xs ++ x ∷ [])
all-push P [] x a h = (h, tt)
all-push P (y ∷ xs) x a h = (a.0, all-push P xs x a.1 h)

pub all_is : {X : Type 0} (P Q : X → Type 0) → ((x : X) → P x → Q x) → (xs : List X) → AllByRecursion P xs → AllByRecursion Q xs
all_is P Q k [] a = tt
all_is P Q k (x ∷ xs) a = (k x a.0, all_is P Q k xs a.1)

pub length-filter : {X : Type 0} (p : X → Bool) (xs : List X) → length (filter p xs) ≤ length xs
length-filter p [] = omega arith
length-filter p (x ∷ xs) =
    (elim (p x) as (λ (b : Bool). p x ≡ b → length (filter p (x ∷ xs)) ≤ length (x ∷ xs)) [
      | true ↦ λ t. rw t (omega (arith, length-filter p xs))
      | false ↦ λ t. rw t (omega (arith, length-filter p xs))
    ]) refl

-- ---- numbers that rise

module _ (f : SessionRow → SessionRow) (keeps : (row : SessionRow) → (f row).number ≡ row.number) where
  pub rising-map : (rows : List SessionRow) (next : ℕ) → AreRising rows next → AreRising (map f rows) next
  rising-map [] next r = tt
  rising-map (row ∷ rows) next r = (
    omega (arith, keeps row, r.0),
    all-map (λ later. row.number < later.number) (λ later. (f row).number < later.number) f (λ later lt. omega (arith, lt, keeps row, keeps later)) rows r.1,
    rising-map rows next r.2,
  )

pub rising-filter : (p : SessionRow → Bool) (rows : List SessionRow) (next : ℕ) → AreRising rows next → AreRising (filter p rows) next
rising-filter p [] next r = tt
rising-filter p (row ∷ rows) next r =
    (elim (p row) as (λ (b : Bool). p row ≡ b → AreRising (filter p (row ∷ rows)) next) [
      | true ↦ λ t. rw t (r.0, all-filter (λ later. row.number < later.number) p rows r.1, rising-filter p rows next r.2)
      | false ↦ λ t. rw t (rising-filter p rows next r.2)
    ]) refl

pub rising-push : (rows : List SessionRow) (new : SessionRow) (next : ℕ) → new.number ≡ next → AreRising rows next → AreRising (rows ++ new ∷ []) (next + 1)
rising-push [] new next is r = (omega (arith, is), tt, tt)
rising-push (row ∷ rows) new next is r = (omega (arith, r.0), all-push (λ later. row.number < later.number) rows new r.1 (omega (arith, is, r.0)), rising-push rows new next is r.2)

-- ---- slots of their own

module _ (f : SessionRow → SessionRow) (keeps : (row : SessionRow) → (f row).slot ≡ row.slot) where
  pub slots-map : (rows : List SessionRow) → HaveOwnSlots rows → HaveOwnSlots (map f rows)
  slots-map [] h = tt
  slots-map (row ∷ rows) h = (all-map (λ other. other.slot ≢ row.slot) (λ other. other.slot ≢ (f row).slot) f (λ other ne e. ne (sym (keeps other) ∙ e ∙ keeps row)) rows h.0, slots-map rows h.1)

pub slots-filter : (p : SessionRow → Bool) (rows : List SessionRow) → HaveOwnSlots rows → HaveOwnSlots (filter p rows)
slots-filter p [] h = tt
slots-filter p (row ∷ rows) h =
    (elim (p row) as (λ (b : Bool). p row ≡ b → HaveOwnSlots (filter p (row ∷ rows))) [
      | true ↦ λ t. rw t (all-filter (λ other. other.slot ≢ row.slot) p rows h.0, slots-filter p rows h.1)
      | false ↦ λ t. rw t (slots-filter p rows h.1)
    ]) refl

pub slots-push : (rows : List SessionRow) (new : SessionRow) → is_taken rows new.slot ≡ false → HaveOwnSlots rows → HaveOwnSlots (rows ++ new ∷ [])
slots-push [] new free h = (tt, tt)
slots-push (row ∷ rows) new free h =
    elim (eqb_tells row.slot new.slot) [
      | inl k ↦ let bad = rw k.0 at free in absurd cc
      | inr k ↦ let rest = rw k.0 at free in (all-push (λ other. other.slot ≢ row.slot) rows new h.0 (λ e. k.1 (sym e)), slots-push rows new rest h.1)
    ]

-- the least free slot isn't taken
find_free : (rows : List SessionRow) (some : List ℕ) → unwrap_or (find (λ slot. not (is_taken rows slot)) some) 8 < 8 → is_taken rows (unwrap_or (find (λ slot. not (is_taken rows slot)) some) 8) ≡ false
find_free rows [] lt = absurd (omega arith)
find_free rows (slot ∷ some) lt =
    (elim (is_taken rows slot) as (λ (b : Bool). is_taken rows slot ≡ b → is_taken rows (unwrap_or (find (λ slot. not (is_taken rows slot)) (slot ∷ some)) 8) ≡ false) [
      | true ↦ λ t. let lt' = rw t at lt in rw t (find_free rows some lt')
      | false ↦ λ t. rw t t
    ]) refl

pub free_slot_is_free : (rows : List SessionRow) → least_free rows < 8 → is_taken rows (least_free rows) ≡ false
free_slot_is_free rows lt = find_free rows slots lt

-- ---- as many rows as slots

module _ (n : ℕ) where
  abbrev elsewhere : SessionRow → Bool
  elsewhere row = not (eqb row.slot n)

  all_stay : (rows : List SessionRow) → AllByRecursion (λ other. other.slot ≢ n) rows → filter elsewhere rows ≡ rows
  all_stay [] a = refl
  all_stay (row ∷ rows) a = rw (ne_eqb row.slot n a.0, all_stay rows a.1) refl

  one_gone : (rows : List SessionRow) → HaveOwnSlots rows → length rows ≤ suc (length (filter elsewhere rows))
  one_gone [] h = omega arith
  one_gone (row ∷ rows) h =
      elim (eqb_tells row.slot n) [
        | inl k ↦ rw k.0 (omega (arith, ap (λ (rs : List SessionRow). length rs) (all_stay rows (all_is (λ other. other.slot ≢ row.slot) (λ other. other.slot ≢ n) (λ other ne e. ne (e ∙ sym k.1)) rows h.0))))
        | inr k ↦ rw k.0 (omega (arith, one_gone rows h.1))
      ]

  lower : (rows : List SessionRow) → AllByRecursion (λ row. row.slot < suc n) rows → AllByRecursion (λ row. row.slot < n) (filter elsewhere rows)
  lower [] a = tt
  lower (row ∷ rows) a =
      elim (eqb_tells row.slot n) [
        | inl k ↦ rw k.0 (lower rows a.1)
        | inr k ↦ rw k.0 (omega (arith, a.0, k.1), lower rows a.1)
      ]

pub few_rows : (n : ℕ) (rows : List SessionRow) → HaveOwnSlots rows → AllByRecursion (λ row. row.slot < n) rows → length rows ≤ n
few_rows zero [] h a = omega arith
few_rows zero (row ∷ rows) h a = absurd (omega (arith, a.0))
few_rows (suc n) rows h a =
    omega (arith, one_gone n rows h, few_rows n (filter (elsewhere n) rows) (slots-filter (elsewhere n) rows h) (lower n rows a))
