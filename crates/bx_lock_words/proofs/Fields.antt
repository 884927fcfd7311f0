-- Words are read again from their bytes, and no other bytes are read as such.
use Rattle.std.proofs.Common.{◌≡◌, ℕ, zero, suc, ◌^◌, ◌<◌, List, Some, refl, sym, subst, arith}
use Rattle.std.proofs.lemmas.Bool.{lt-ltb, ltb-true}
use Rattle.bx_base.specs.declared.names.Mode.{Mode}
use Rattle.bx_base.specs.declared.names.Mode.TheVariants.{Shared, Exclusive}
use Rattle.bx_base.specs.Reading.{Reader, as_at}
use Rattle.bx_base.proofs.Fields.{IsField, Takes, as_field, bind_some, field32, field64, fits_field, some_is, tested_field, then_field}
use Rattle.bx_rows.specs.Conditions.{Fits}
use Rattle.bx_lock_words.specs.declared.words.Grant.{Grant}
use Rattle.bx_lock_words.specs.declared.words.Release.{Release}
use Rattle.bx_lock_words.specs.declared.words.Revoke.{Revoke}
use Rattle.bx_lock_words.specs.declared.words.Want.{Want}
use Rattle.bx_lock_words.specs.Reading
use Rattle.bx_lock_words.specs.Words.{grant_text, mode_number, mode_text, numbers_text, release_text, revoke_text, want_text}

-- a part as another value, where what is read fits
fitting_field : {A B : Type 0} {a : Reader A} {text : A → List ℕ} {Fit : A → Type 0} (f : A → B) (g : B → A) → ((x : A) → Fit x → g (f x) ≡ x) → ((y : B) → f (g y) ≡ y)
    → IsField a text Fit → IsField (as_at f a) (λ y. text (g y)) (λ y. Fit (g y))
fitting_field {A} {B} {a} {text} {Fit} f g back forth p = record {
  takes = λ bytes x fits e.
      let first = bind_some (a bytes) (λ u. Some (f u.0, u.1)) x e in
      let t = p.takes bytes first.0 fits first.1 in
      let made : B × List ℕ = (f first.0.0, first.0.1) in
      subst (λ (y : B × List ℕ). Takes bytes (text (g y.0)) y.1 × Fit (g y.0)) (some_is made x first.2)
      (subst (λ (z : A). Takes bytes (text z) first.0.1 × Fit z) (sym (back first.0.0 t.1)) t);
  again = λ y rest fits. rw (p.again (g y) rest fits, forth y) refl;
}

-- ---- parts

abbrev NumbersFit : ℕ × ℕ → Type 0
NumbersFit x = Fits x.0 × Fits x.1

abbrev numbers_of : ℕ × ℕ → List ℕ
numbers_of x = numbers_text x.0 x.1

pub numbers_field : IsField Reading.numbers_at numbers_of NumbersFit
unfolding Reading.numbers_at numbers_text
numbers_field = then_field field64 field64

below_two : (n : ℕ) → (n < 2 ^ 32) × (n < 2) → mode_number (Reading.mode_with n) ≡ n
below_two zero fits = refl
below_two (suc zero) fits = refl
below_two (suc (suc n)) fits = absurd (omega (arith, fits.1))

modes_back : (mode : Mode) → Reading.mode_with (mode_number mode) ≡ mode
modes_back Shared = refl
modes_back Exclusive = refl

modes_fit : (mode : Mode) → (mode_number mode < 2 ^ 32) × (mode_number mode < 2)
modes_fit Shared = (omega arith, omega arith)
modes_fit Exclusive = (omega arith, omega arith)

pub mode_field : IsField Reading.mode_at mode_text (λ mode. Unit {0})
unfolding Reading.mode_at
mode_field =
    fits_field (λ mode. Unit {0}) (λ mode fits. tt) (λ mode fits. modes_fit mode)
    (fitting_field Reading.mode_with mode_number below_two modes_back
    (tested_field Reading.is_mode (λ n. n < 2) (λ n t. ltb-true n 2 t) (λ n lt. lt-ltb n 2 lt) field32))

-- ---- words

abbrev pub WantFits : Want → Type 0
WantFits w = Fits w.session × Fits w.block × Fits w.number

pub want_field : IsField Reading.want_at want_text WantFits
unfolding Reading.want_at want_text
want_field =
    fits_field WantFits (λ w fits. (fits.0.0, fits.0.1, fits.1.1)) (λ w fits. ((fits.0, fits.1), (tt, fits.2)))
    (as_field Reading.want_with Reading.want_fields (λ x. refl) (λ y. refl) (then_field numbers_field (then_field mode_field field64)))

abbrev pub GrantFits : Grant → Type 0
GrantFits g = Fits g.session × Fits g.block × Fits g.number × Fits g.index

pub grant_field : IsField Reading.grant_at grant_text GrantFits
unfolding Reading.grant_at grant_text
grant_field =
    fits_field GrantFits (λ g fits. (fits.0.0, fits.0.1, fits.1.1.0, fits.1.1.1)) (λ g fits. ((fits.0, fits.1), (tt, (fits.2, fits.3))))
    (as_field Reading.grant_with Reading.grant_fields (λ x. refl) (λ y. refl) (then_field numbers_field (then_field mode_field numbers_field)))

abbrev pub RevokeFits : Revoke → Type 0
RevokeFits v = Fits v.session × Fits v.block × Fits v.number × Fits v.asking

pub revoke_field : IsField Reading.revoke_at revoke_text RevokeFits
unfolding Reading.revoke_at revoke_text
revoke_field =
    fits_field RevokeFits (λ v fits. (fits.0.0, fits.0.1, fits.1.0, fits.1.1)) (λ v fits. ((fits.0, fits.1), (fits.2, fits.3)))
    (as_field Reading.revoke_with Reading.revoke_fields (λ x. refl) (λ y. refl) (then_field numbers_field numbers_field))

abbrev pub ReleaseFits : Release → Type 0
ReleaseFits l = Fits l.session × Fits l.block × Fits l.number × Fits l.index

pub release_field : IsField Reading.release_at release_text ReleaseFits
unfolding Reading.release_at release_text
release_field =
    fits_field ReleaseFits (λ l fits. (fits.0.0, fits.0.1, fits.1.0, fits.1.1)) (λ l fits. ((fits.0, fits.1), (fits.2, fits.3)))
    (as_field Reading.release_with Reading.release_fields (λ x. refl) (λ y. refl) (then_field numbers_field numbers_field))
