-- A row of fields as a value, where some of what was read is only tested.
use Rattle.std.proofs.Common.{◌≡◌, ℕ, Bool, true, List, Some, refl, sym, subst}
use Rattle.bx_base.specs.Reading.{Reader, as_at, tested_at}
use Rattle.bx_base.proofs.Fields.{IsField, Takes, bind_some, some_is, tested_field}

-- What passes the test is the row of the value that is made of it, and fits; and the row of each value that fits passes.
pub record IsRow {A B : Type 0} (f : A → B) (g : B → A) (test : A → Bool) (Fits : A → Type 0) (P : B → Type 0) : Type 0 where
  pub back : (x : A) → Fits x → test x ≡ true → g (f x) ≡ x
  pub fits : (x : A) → Fits x → test x ≡ true → P (f x)
  pub there : (y : B) → P y → Fits (g y)
  pub passes : (y : B) → P y → test (g y) ≡ true
  pub forth : (y : B) → f (g y) ≡ y

pub row_field : {A B : Type 0} {a : Reader A} {text : A → List ℕ} {Fits : A → Type 0} {f : A → B} {g : B → A} {test : A → Bool} {P : B → Type 0}
    → IsRow f g test Fits P → IsField a text Fits → IsField (as_at f (tested_at test a)) (λ y. text (g y)) P
row_field {A} {B} {a} {text} {Fits} {f} {g} {test} {P} row p =
    let tested : IsField (tested_at test a) text (λ x. Fits x × (test x ≡ true)) = tested_field test (λ x. test x ≡ true) (λ x t. t) (λ x t. t) p in
    record {
      takes = λ bytes x fits e.
          let first = bind_some (tested_at test a bytes) (λ u. Some (f u.0, u.1)) x e in
          let t = tested.takes bytes first.0 fits first.1 in
          let made : B × List ℕ = (f first.0.0, first.0.1) in
          subst (λ (y : B × List ℕ). Takes bytes (text (g y.0)) y.1 × P y.0) (some_is made x first.2)
          (subst (λ (z : A). Takes bytes (text z) first.0.1) (sym (row.back first.0.0 t.1.0 t.1.1)) t.0, row.fits first.0.0 t.1.0 t.1.1);
      again = λ y rest fits.
          rw (tested.again (g y) rest (row.there y fits, row.passes y fits), row.forth y) refl;
    }
