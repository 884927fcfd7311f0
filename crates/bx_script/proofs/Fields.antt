-- A field that is read is what stood before the first space, and fields without spaces are read again.
use Rattle.std.proofs.Common.{◌≡◌, ℕ, ◌+◌, ◌<◌, ◌≢◌, true, ltb, eqb, not, List, [], ◌∷◌, ◌++◌, length, get_or, take, drop, Option, Some, None, refl, sym, ap, subst, ◌∙◌, add-one, arith, drop-cons}
use Rattle.std.specs.Prelude.{position, ◌==◌}
use Rattle.std.specs.List.{AllByRecursion, list_all, position_or_len}
use Rattle.std.proofs.lemmas.Bool.{and_parts, eqb-true, lt-ltb, ne_eqb}
use Rattle.std.proofs.lemmas.Bool.Decides.{nat_tests}
use Rattle.std.proofs.lemmas.List.{take-append-drop, take_at, length-append}
use Rattle.std.proofs.Math.Seq.{drop-append-add}
use Rattle.std.proofs.lemmas.List.Quantifiers.{position-Some}
use Rattle.bx_script.specs.Reading.{◌>>=◌, cut}

-- the value of a step that did not fail
pub bind_some : {A B : Type 0} (o : Option A) (f : A → Option B) (y : B) → (o >>= f) ≡ Some y → (x : A) × (o ≡ Some x) × (f x ≡ Some y)
bind_some (Some x) f y e = (x, refl, e)
bind_some None f y e = absurd cc

abbrev pub some : {A : Type 0} → A → Option A
some x = Some x

pub some_is : {A : Type 0} (x y : A) → some x ≡ some y → x ≡ y
some_is x y e = cc

-- no byte is c
abbrev pub Lacks : ℕ → List ℕ → Type 0
Lacks c bytes = AllByRecursion (λ b. b ≢ c) bytes

pub Lacks-append : (c : ℕ) (xs ys : List ℕ) → Lacks c xs → Lacks c ys → Lacks c (xs ++ ys)
Lacks-append c [] ys p q = q
Lacks-append c (x ∷ xs) ys p q = (p.0, Lacks-append c xs ys p.1 q)

pub lacks_from_test : (c : ℕ) (bytes : List ℕ) → list_all (λ b. not (eqb b c)) bytes ≡ true → Lacks c bytes
lacks_from_test c [] h = tt
lacks_from_test c (b ∷ bs) h =
    let parts = and_parts (not (eqb b c)) (list_all (λ x. not (eqb x c)) bs) h in
    (λ same. grind (arith, nat_tests), lacks_from_test c bs parts.1)

-- a field, a space, and the rest
abbrev pub then_space : List ℕ → List ℕ → List ℕ
then_space field rest = field ++ 32 ∷ rest

pub cut_takes : (text : List ℕ) (x : List ℕ × List ℕ) → cut text ≡ Some x → text ≡ then_space x.0 x.1
unfolding cut
cut_takes text x e =
    let a = bind_some (position (λ c. c == 32) text) (λ n. Some (take n text, drop (n + 1) text)) x e in
    let n = a.0 in
    let p = position-Some (λ c. c == 32) text n 0 a.1 in
    let is_space : get_or text n 0 ≡ 32 = eqb-true _ _ p.1 in
    let lt : n < length text = p.0 in
    let front : drop n text ≡ 32 ∷ drop (n + 1) text = drop-cons text n 0 lt ∙ rw (is_space, add-one) refl in
    subst (λ (y : List ℕ × List ℕ). text ≡ then_space y.0 y.1) (some_is (take n text, drop (n + 1) text) x a.2)
    (sym (take-append-drop n text) ∙ ap (λ (r : List ℕ). take n text ++ r) front)

space_after : (field rest : List ℕ) → Lacks 32 field → position_or_len (λ c. c == 32) (then_space field rest) ≡ length field
space_after [] rest h = refl
space_after (c ∷ cs) rest h = rw (ne_eqb c 32 h.0) (omega (arith, space_after cs rest h.1))

pub cut_again : (field rest : List ℕ) → Lacks 32 field → cut (then_space field rest) ≡ Some (field, rest)
unfolding cut
cut_again field rest h =
    let at = space_after field rest h in
    let within : ltb (length field) (length (then_space field rest)) ≡ true = lt-ltb _ _ (omega (arith, length-append field (32 ∷ rest))) in
    let found : position (λ c. c == 32) (then_space field rest) ≡ Some (length field) = rw (at, within) refl in
    let after : drop (length field + 1) (then_space field rest) ≡ rest = drop-append-add field (32 ∷ rest) 1 in
    rw (found, take_at field (32 ∷ rest) (length field) refl, after) refl
