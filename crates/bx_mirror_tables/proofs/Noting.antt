-- Last sequences that are noted.
use Rattle.std.proofs.Common.{◌≡◌, ℕ, zero, suc, ◌<◌, ◌≤◌, Bool, true, false, List, [], ◌∷◌, ◌++◌, length, Option, Some, None, refl, sym, ◌∙◌, ap, arith, get_or}
use Rattle.std.specs.Prelude.{◌==◌, find, position, slice_set, if◌then◌else◌}
use Rattle.std.specs.List.{position_or_len}
use Rattle.std.proofs.lemmas.Bool.Decides.{nat_tests}
use Rattle.std.proofs.lemmas.Grind.{common_steps}
use Rattle.std.proofs.lemmas.List.Quantifiers.{position-Some}
use Rattle.std.proofs.lemmas.List.Sums.{fails_before_first}
use Rattle.bx_mirror_tables.specs.Lasts.{IsFirst, entry, is_of, last_in, noted, put_at, sequence_of, with_last}
use Rattle.bx_mirror_tables.specs.declared.lasts.Last.{Last}

pub found_first : (session at : ℕ) (lasts : List Last) → position (is_of session) lasts ≡ Some at → IsFirst session at lasts
found_first session at lasts found = record {
  within = (position-Some (is_of session) lasts at (entry 0 0) found).0;
  here = λ d. (position-Some (is_of session) lasts at d found).1;
  before = λ k d less. (position-Some (is_of session) lasts at d found).2 k less;
}

-- ---- none of the session yet

none_before : (session : ℕ) (lasts : List Last) (k : ℕ) (d : Last) → position (is_of session) lasts ≡ None → k < length lasts → is_of session (get_or lasts k d) ≡ false
none_before session lasts k d none less =
    let far : length lasts ≤ position_or_len (is_of session) lasts = grind (arith, common_steps) in
    fails_before_first (is_of session) lasts k d (omega (arith, far, less))

pub pushed_reads : (lasts : List Last) (session sequence of : ℕ) → ((k : ℕ) (d : Last) → k < length lasts → is_of session (get_or lasts k d) ≡ false)
    → last_in (lasts ++ entry session sequence ∷ []) of ≡ with_last (last_in lasts) session sequence of
pushed_reads [] session sequence of lacks = by_test (session == of)
  where
    by_test : (b : Bool) → sequence_of (if b then Some (entry session sequence) else None) ≡ (if b then sequence else 0)
    by_test true = refl
    by_test false = refl
pushed_reads (x ∷ xs) session sequence of lacks = by_tests (pushed_reads xs session sequence of (λ k d less. lacks (suc k) d (omega (arith, less)))) (x.session == of) (session == of) refl refl
  where
    by_tests : last_in (xs ++ entry session sequence ∷ []) of ≡ with_last (last_in xs) session sequence of → (a b : Bool) → (x.session == of) ≡ a → (session == of) ≡ b
        → sequence_of (if a then Some x else find (is_of of) (xs ++ entry session sequence ∷ [])) ≡ (if b then sequence else sequence_of (if a then Some x else find (is_of of) xs))
    by_tests rest true true is too =
        let apart : (x.session == session) ≡ false = lacks 0 x (omega arith) in
        absurd (grind (arith, nat_tests, is, too, apart))
    by_tests rest true false is too = refl
    by_tests rest false true is too = rest ∙ ap (λ (t : Bool). if t then sequence else last_in xs of) too
    by_tests rest false false is too = rest ∙ ap (λ (t : Bool). if t then sequence else last_in xs of) too

-- ---- one is changed

later : {session at : ℕ} {x : Last} {xs : List Last} → IsFirst session (suc at) (x ∷ xs) → IsFirst session at xs
later first = record {
  within = let less = first.within in omega (arith, less);
  here = first.here;
  before = λ k d less. first.before (suc k) d (omega (arith, less));
}

pub noted_reads : (lasts : List Last) (at session sequence of : ℕ) → IsFirst session at lasts → last_in (slice_set lasts at (entry session sequence)) of ≡ with_last (last_in lasts) session sequence of
noted_reads [] at session sequence of first = let none = first.within in absurd (omega (arith, none))
noted_reads (x ∷ xs) zero session sequence of first = by_test (session == of) refl
  where
    by_test : (b : Bool) → (session == of) ≡ b → sequence_of (if b then Some (entry session sequence) else find (is_of of) xs) ≡ (if b then sequence else sequence_of (if x.session == of then Some x else find (is_of of) xs))
    by_test true is = refl
    by_test false is =
        let here : (x.session == session) ≡ true = first.here x in
        let other : (x.session == of) ≡ false = grind (arith, nat_tests, is, here) in
        sym (ap (λ (t : Bool). sequence_of (if t then Some x else find (is_of of) xs)) other)
noted_reads (x ∷ xs) (suc at) session sequence of first = by_tests (noted_reads xs at session sequence of (later first)) (x.session == of) (session == of) refl refl
  where
    by_tests : last_in (slice_set xs at (entry session sequence)) of ≡ with_last (last_in xs) session sequence of → (a b : Bool) → (x.session == of) ≡ a → (session == of) ≡ b
        → sequence_of (if a then Some x else find (is_of of) (slice_set xs at (entry session sequence))) ≡ (if b then sequence else sequence_of (if a then Some x else find (is_of of) xs))
    by_tests rest true true is too =
        let apart : (x.session == session) ≡ false = first.before 0 x (omega arith) in
        absurd (grind (arith, nat_tests, is, too, apart))
    by_tests rest true false is too = refl
    by_tests rest false true is too = rest ∙ ap (λ (t : Bool). if t then sequence else last_in xs of) too
    by_tests rest false false is too = rest ∙ ap (λ (t : Bool). if t then sequence else last_in xs of) too

pub noted_last : (lasts : List Last) (session sequence of : ℕ) → last_in (noted lasts session sequence) of ≡ with_last (last_in lasts) session sequence of
noted_last lasts session sequence of = by_place (position (is_of session) lasts) refl
  where
    by_place : (place : Option ℕ) → position (is_of session) lasts ≡ place → last_in (put_at place lasts (entry session sequence)) of ≡ with_last (last_in lasts) session sequence of
    by_place None is = pushed_reads lasts session sequence of (λ k d less. none_before session lasts k d is less)
    by_place (Some at) is = noted_reads lasts at session sequence of (found_first session at lasts is)

-- ---- what is read

pub first_reads : (lasts : List Last) (session at : ℕ) (d : Last) → IsFirst session at lasts → (get_or lasts at d).sequence ≡ last_in lasts session
first_reads [] session at d first = let none = first.within in absurd (omega (arith, none))
first_reads (x ∷ xs) session zero d first = sym (ap (λ (t : Bool). sequence_of (if t then Some x else find (is_of session) xs)) (first.here x))
first_reads (x ∷ xs) session (suc at) d first =
    first_reads xs session at d (later first) ∙ sym (ap (λ (t : Bool). sequence_of (if t then Some x else find (is_of session) xs)) (first.before 0 x (omega arith)))

absent_reads : (lasts : List Last) (session : ℕ) → ((k : ℕ) (d : Last) → k < length lasts → is_of session (get_or lasts k d) ≡ false) → 0 ≡ last_in lasts session
absent_reads [] session lacks = refl
absent_reads (x ∷ xs) session lacks =
    absent_reads xs session (λ k d less. lacks (suc k) d (omega (arith, less))) ∙ sym (ap (λ (t : Bool). sequence_of (if t then Some x else find (is_of session) xs)) (lacks 0 x (omega arith)))

pub found_reads : (lasts : List Last) (session at : ℕ) (d : Last) → position (is_of session) lasts ≡ Some at → (get_or lasts at d).sequence ≡ last_in lasts session
found_reads lasts session at d found = first_reads lasts session at d (found_first session at lasts found)

pub none_reads : (lasts : List Last) (session : ℕ) → position (is_of session) lasts ≡ None → 0 ≡ last_in lasts session
none_reads lasts session none = absent_reads lasts session (λ k d less. none_before session lasts k d none less)
