-- Fields: a part that is read is the text that stands there, and a text is read again. Fields are joined to greater ones.
use Rattle.std.proofs.Common.{◌≡◌, ℕ, zero, suc, ◌+◌, ◌^◌, ◌<◌, ◌≤◌, Bool, true, false, cond, ltb, List, [], ◌∷◌, ◌++◌, length, take, drop, Option, Some, None, refl, sym, ap, subst, ◌∙◌, append_assoc, arith, inl, inr}
use Rattle.std.specs.List.{flat_map, AllByRecursion}
use Rattle.std.specs.Int.{Width, w16, w32, w64, byte_len, from_be_bytes, to_be_bytes}
use Rattle.std.proofs.lemmas.Bool.{cases_lt, ltb-false, le-ltb}
use Rattle.std.proofs.lemmas.List.{take_at, drop_at, take-append-drop, length-append, length-take, get_or-drop, get_or-take, get_or_past}
use Rattle.std.proofs.lemmas.List.Concat.{flat_map-cons}
use Rattle.std.proofs.lemmas.Nat.{be_bytes_2, be_bytes_4, be_bytes_8, from_be_bytes-to_be_bytes_2, from_be_bytes-to_be_bytes_4, from_be_bytes-to_be_bytes_8}
use Rattle.bx_base.specs.Bytes.{IsBytes}
use Rattle.bx_base.specs.Reading.{◌>>=◌, Reader, number_at, bytes_at, then_at, as_at, tested_at, sized_at, list_at}

IsBytes-drop : (n : ℕ) (bytes : List ℕ) → IsBytes bytes → IsBytes (drop n bytes)
IsBytes-drop n bytes h i = rw get_or-drop (h (n + i))

IsBytes-take : (n : ℕ) (bytes : List ℕ) → IsBytes bytes → IsBytes (take n bytes)
IsBytes-take n bytes h i =
    elim (cases_lt i n) [
      | inl lt ↦ rw (get_or-take n bytes i 0 lt) (h i)
      | inr le ↦ rw (get_or_past (take n bytes) i 0 (omega (arith, length-take n bytes))) (omega arith)
    ]

-- the value of a step that did not fail
pub bind_some : {A B : Type 0} (r : Option A) (f : A → Option B) (y : B) → (r >>= f) ≡ Some y → (x : A) × (r ≡ Some x) × (f x ≡ Some y)
bind_some (Some x) f y e = (x, refl, e)
bind_some None f y e = absurd cc

-- a test that did not fail
pub guard_some : {A : Type 0} (b : Bool) (x y : A) → cond b None (Some x) ≡ Some y → (b ≡ false) × (x ≡ y)
guard_some true x y e = absurd cc
guard_some false x y e = (refl, cc)

passed_some : {A : Type 0} (b : Bool) (x y : A) → cond b (Some x) None ≡ Some y → (b ≡ true) × (x ≡ y)
passed_some true x y e = (refl, cc)
passed_some false x y e = absurd cc

abbrev done : {A : Type 0} → A → Option A
done x = Some x

pub some_is : {A : Type 0} (x y : A) → done x ≡ done y → x ≡ y
some_is x y e = cc

-- what a reader took from the front
pub record Takes (bytes text rest : List ℕ) : Type 0 where
  pub parts : bytes ≡ text ++ rest
  pub rest_fits : IsBytes rest

pub Takes-then : (a x b y c : List ℕ) → Takes a x b → Takes b y c → Takes a (x ++ y) c
Takes-then a x b y c p q = record { parts = p.parts ∙ ap (λ (t : List ℕ). x ++ t) q.parts ∙ sym (append_assoc x y c); rest_fits = q.rest_fits }

-- What is read is what the text spells, and fits; and each text of what fits is read again, whatever is behind it.
pub record IsField {X : Type 0} (read : Reader X) (text : X → List ℕ) (Fits : X → Type 0) : Type 0 where
  pub takes : (bytes : List ℕ) (x : X × List ℕ) → IsBytes bytes → read bytes ≡ Some x → Takes bytes (text x.0) x.1 × Fits x.0
  pub again : (x : X) (rest : List ℕ) → Fits x → read (text x ++ rest) ≡ Some (x, rest)

-- ---- numbers

record IsWide (w : Width) (limit : ℕ) : Type 0 where
  len : (n : ℕ) → length (to_be_bytes w n) ≡ byte_len w
  back : (bytes : List ℕ) → length bytes ≡ byte_len w → IsBytes bytes → to_be_bytes w (from_be_bytes w bytes) ≡ bytes
  once_more : (n : ℕ) → n < limit → from_be_bytes w (to_be_bytes w n) ≡ n
  below : (bytes : List ℕ) → IsBytes bytes → from_be_bytes w bytes < limit

wide16 : IsWide w16 (2 ^ 16)
wide16 = record {
  len = λ n. refl;
  back = λ bytes len fits. be_bytes_2 bytes _ len fits refl;
  once_more = λ n lt. from_be_bytes-to_be_bytes_2 n lt;
  below = λ bytes fits. omega (arith, fits 0, fits 1);
}

wide32 : IsWide w32 (2 ^ 32)
wide32 = record {
  len = λ n. refl;
  back = λ bytes len fits. be_bytes_4 bytes _ len fits refl;
  once_more = λ n lt. from_be_bytes-to_be_bytes_4 n lt;
  below = λ bytes fits. omega (arith, fits 0, fits 1, fits 2, fits 3);
}

wide64 : IsWide w64 (2 ^ 64)
wide64 = record {
  len = λ n. refl;
  back = λ bytes len fits. be_bytes_8 bytes _ len fits refl;
  once_more = λ n lt. from_be_bytes-to_be_bytes_8 n lt;
  below = λ bytes fits. omega (arith, fits 0, fits 1, fits 2, fits 3, fits 4, fits 5, fits 6, fits 7);
}

number_takes : (w : Width) (limit : ℕ) (wide : IsWide w limit) (bytes : List ℕ) (n : ℕ) (rest : List ℕ) → IsBytes bytes → number_at w bytes ≡ Some (n, rest) → Takes bytes (to_be_bytes w n) rest × (n < limit)
number_takes w limit wide bytes n rest fits e =
    let g = guard_some (ltb (length bytes) (byte_len w)) (from_be_bytes w (take (byte_len w) bytes), drop (byte_len w) bytes) (n, rest) e in
    let long : byte_len w ≤ length bytes = ltb-false _ _ g.0 in
    let n-is : from_be_bytes w (take (byte_len w) bytes) ≡ n = ap (λ (p : ℕ × List ℕ). p.0) g.1 in
    let rest-is : drop (byte_len w) bytes ≡ rest = ap (λ (p : ℕ × List ℕ). p.1) g.1 in
    let front : to_be_bytes w n ≡ take (byte_len w) bytes = rw (← n-is) (wide.back (take (byte_len w) bytes) (omega (arith, length-take (byte_len w) bytes)) (IsBytes-take (byte_len w) bytes fits)) in
    (record { parts = rw (front, ← rest-is) (sym (take-append-drop (byte_len w) bytes)); rest_fits = rw (← rest-is) (IsBytes-drop (byte_len w) bytes fits) }, rw (← n-is) (wide.below (take (byte_len w) bytes) (IsBytes-take (byte_len w) bytes fits)))

number_again : (w : Width) (limit : ℕ) (wide : IsWide w limit) (n : ℕ) (rest : List ℕ) → n < limit → number_at w (to_be_bytes w n ++ rest) ≡ Some (n, rest)
number_again w limit wide n rest lt =
    let len = wide.len n in
    let long : ltb (length (to_be_bytes w n ++ rest)) (byte_len w) ≡ false = le-ltb _ _ (omega (arith, length-append (to_be_bytes w n) rest)) in
    rw (long, take_at (to_be_bytes w n) rest (byte_len w) len, drop_at (to_be_bytes w n) rest (byte_len w) len, wide.once_more n lt) refl

number_field : (w : Width) (limit : ℕ) → IsWide w limit → IsField (number_at w) (to_be_bytes w) (λ n. n < limit)
number_field w limit wide = record {
  takes = λ bytes x fits e. number_takes w limit wide bytes x.0 x.1 fits e;
  again = λ n rest lt. number_again w limit wide n rest lt;
}

pub field16 : IsField (number_at w16) (to_be_bytes w16) (λ n. n < 2 ^ 16)
field16 = number_field w16 (2 ^ 16) wide16

pub field32 : IsField (number_at w32) (to_be_bytes w32) (λ n. n < 2 ^ 32)
field32 = number_field w32 (2 ^ 32) wide32

pub field64 : IsField (number_at w64) (to_be_bytes w64) (λ n. n < 2 ^ 64)
field64 = number_field w64 (2 ^ 64) wide64

-- ---- bytes

abbrev same_bytes : List ℕ → List ℕ
same_bytes bytes = bytes

pub bytes_field : (n : ℕ) → IsField (bytes_at n) (λ bytes. bytes) (λ bytes. length bytes ≡ n)
bytes_field n = record {
  takes = λ bytes x fits e.
      let g = guard_some (ltb (length bytes) n) (take n bytes, drop n bytes) x e in
      let long : n ≤ length bytes = ltb-false _ _ g.0 in
      let found : Takes bytes (take n bytes) (drop n bytes) = record { parts = sym (take-append-drop n bytes); rest_fits = IsBytes-drop n bytes fits } in
      subst (λ (p : List ℕ × List ℕ). Takes bytes p.0 p.1 × (length p.0 ≡ n)) g.1 (found, omega (arith, length-take n bytes));
  again = λ text rest len.
      let long : ltb (length (text ++ rest)) n ≡ false = le-ltb _ _ (omega (arith, length-append text rest)) in
      rw (long, take_at text rest n len, drop_at text rest n len) refl;
}

-- ---- fields of fields

pub then_field : {A B : Type 0} {a : Reader A} {b : Reader B} {text : A → List ℕ} {more : B → List ℕ} {Fits : A → Type 0} {More : B → Type 0}
    → IsField a text Fits → IsField b more More → IsField (then_at a b) (λ p. text p.0 ++ more p.1) (λ p. Fits p.0 × More p.1)
then_field {A} {B} {a} {b} {text} {more} {Fits} {More} p q = record {
  takes = λ bytes x fits e.
      let first = bind_some (a bytes) (λ u. b u.1 >>= λ v. Some ((u.0, v.0), v.1)) x e in
      let second = bind_some (b first.0.1) (λ v. Some ((first.0.0, v.0), v.1)) x first.2 in
      let t = p.takes bytes first.0 fits first.1 in
      let s = q.takes first.0.1 second.0 t.0.rest_fits second.1 in
      let made : (A × B) × List ℕ = ((first.0.0, second.0.0), second.0.1) in
      subst (λ (y : (A × B) × List ℕ). Takes bytes (text y.0.0 ++ more y.0.1) y.1 × (Fits y.0.0 × More y.0.1)) (some_is made x second.2)
      (Takes-then bytes (text first.0.0) first.0.1 (more second.0.0) second.0.1 t.0 s.0, (t.1, s.1));
  again = λ x rest fits.
      ap (then_at a b) (append_assoc (text x.0) (more x.1) rest) ∙ rw (p.again x.0 (more x.1 ++ rest) fits.0, q.again x.1 rest fits.1) refl;
}

pub as_field : {A B : Type 0} {a : Reader A} {text : A → List ℕ} {Fits : A → Type 0} (f : A → B) (g : B → A) → ((x : A) → g (f x) ≡ x) → ((y : B) → f (g y) ≡ y)
    → IsField a text Fits → IsField (as_at f a) (λ y. text (g y)) (λ y. Fits (g y))
as_field {A} {B} {a} {text} {Fits} f g back forth p = record {
  takes = λ bytes x fits e.
      let first = bind_some (a bytes) (λ u. Some (f u.0, u.1)) x e in
      let t = p.takes bytes first.0 fits first.1 in
      let made : B × List ℕ = (f first.0.0, first.0.1) in
      subst (λ (y : B × List ℕ). Takes bytes (text (g y.0)) y.1 × Fits (g y.0)) (some_is made x first.2)
      (subst (λ (z : A). Takes bytes (text z) first.0.1 × Fits z) (sym (back first.0.0)) t);
  again = λ y rest fits. rw (p.again (g y) rest fits, forth y) refl;
}

pub tested_field : {A : Type 0} {a : Reader A} {text : A → List ℕ} {Fits : A → Type 0} (test : A → Bool) (P : A → Type 0)
    → ((x : A) → test x ≡ true → P x) → ((x : A) → P x → test x ≡ true)
    → IsField a text Fits → IsField (tested_at test a) text (λ x. Fits x × P x)
tested_field {A} {a} {text} {Fits} test P so if_so p = record {
  takes = λ bytes x fits e.
      let first = bind_some (a bytes) (λ u. cond (test u.0) (Some u) None) x e in
      let passed = passed_some (test first.0.0) first.0 x first.2 in
      let t = p.takes bytes first.0 fits first.1 in
      subst (λ (y : A × List ℕ). Takes bytes (text y.0) y.1 × (Fits y.0 × P y.0)) passed.1 (t.0, (t.1, so first.0.0 passed.0));
  again = λ x rest fits. rw (p.again x rest fits.0, if_so x fits.1) refl;
}

list_takes : {A : Type 0} {a : Reader A} {text : A → List ℕ} {Fits : A → Type 0} → IsField a text Fits → (n : ℕ) (bytes : List ℕ) (x : List A × List ℕ)
    → IsBytes bytes → list_at n a bytes ≡ Some x → Takes bytes (flat_map text x.0) x.1 × ((length x.0 ≡ n) × AllByRecursion Fits x.0)
unfolding list_at
list_takes {A} {a} {text} {Fits} p zero bytes x fits e =
    subst (λ (y : List A × List ℕ). Takes bytes (flat_map text y.0) y.1 × ((length y.0 ≡ 0) × AllByRecursion Fits y.0)) (some_is ([], bytes) x e) (record { parts = refl; rest_fits = fits }, (refl, tt))
list_takes {A} {a} {text} {Fits} p (suc n) bytes x fits e =
    let first = bind_some (a bytes) (λ u. list_at n a u.1 >>= λ others. Some (u.0 ∷ others.0, others.1)) x e in
    let second = bind_some (list_at n a first.0.1) (λ others. Some (first.0.0 ∷ others.0, others.1)) x first.2 in
    let t = p.takes bytes first.0 fits first.1 in
    let s = list_takes p n first.0.1 second.0 t.0.rest_fits second.1 in
    let both = Takes-then bytes (text first.0.0) first.0.1 (flat_map text second.0.0) second.0.1 t.0 s.0 in
    let made : List A × List ℕ = (first.0.0 ∷ second.0.0, second.0.1) in
    let whole : Takes bytes (flat_map text made.0) second.0.1 = subst (λ (t : List ℕ). Takes bytes t second.0.1) (sym (flat_map-cons text first.0.0 second.0.0)) both in
    subst (λ (y : List A × List ℕ). Takes bytes (flat_map text y.0) y.1 × ((length y.0 ≡ suc n) × AllByRecursion Fits y.0)) (some_is made x second.2) (whole, (ap suc s.1.0, (t.1, s.1.1)))

list_again : {A : Type 0} {a : Reader A} {text : A → List ℕ} {Fits : A → Type 0} → IsField a text Fits → (xs : List A) (rest : List ℕ) → AllByRecursion Fits xs
    → list_at (length xs) a (flat_map text xs ++ rest) ≡ Some (xs, rest)
unfolding list_at
list_again p [] rest fits = refl
list_again {A} {a} {text} {Fits} p (x ∷ xs) rest fits =
    let regrouped : flat_map text (x ∷ xs) ++ rest ≡ text x ++ (flat_map text xs ++ rest) = ap (λ (t : List ℕ). t ++ rest) (flat_map-cons text x xs) ∙ append_assoc (text x) (flat_map text xs) rest in
    ap (list_at (suc (length xs)) a) regrouped ∙ rw (p.again x (flat_map text xs ++ rest) fits.0, list_again p xs rest fits.1) refl

pub list_field : {A : Type 0} {a : Reader A} {text : A → List ℕ} {Fits : A → Type 0} (n : ℕ) → IsField a text Fits
    → IsField (list_at n a) (flat_map text) (λ xs. (length xs ≡ n) × AllByRecursion Fits xs)
list_field {A} {a} {text} {Fits} n p = record {
  takes = λ bytes x fits e. list_takes p n bytes x fits e;
  again = λ xs rest fits. subst (λ (k : ℕ). list_at k a (flat_map text xs ++ rest) ≡ Some (xs, rest)) fits.0 (list_again p xs rest fits.1);
}

-- the same with what fits in other words
pub fits_field : {A : Type 0} {a : Reader A} {text : A → List ℕ} {Fits : A → Type 0} (P : A → Type 0) → ((x : A) → Fits x → P x) → ((x : A) → P x → Fits x)
    → IsField a text Fits → IsField a text P
fits_field {A} {a} {text} {Fits} P so if_so p = record {
  takes = λ bytes x fits e. let t = p.takes bytes x fits e in (t.0, so x.0 t.1);
  again = λ x rest fits. p.again x rest (if_so x fits);
}

pub sized_field : {A : Type 0} {count : Reader ℕ} {part : ℕ → Reader A} {count_text : ℕ → List ℕ} {text : A → List ℕ} {CountFits : ℕ → Type 0} {Fits : A → Type 0} (size : A → ℕ)
    → IsField count count_text CountFits → ((n : ℕ) → IsField (part n) text (λ x. (size x ≡ n) × Fits x))
    → IsField (sized_at count part) (λ x. count_text (size x) ++ text x) (λ x. CountFits (size x) × Fits x)
sized_field {A} {count} {part} {count_text} {text} {CountFits} {Fits} size p q = record {
  takes = λ bytes x fits e.
      let first = bind_some (count bytes) (λ n. part n.0 n.1) x e in
      let t = p.takes bytes first.0 fits first.1 in
      let s = (q first.0.0).takes first.0.1 x t.0.rest_fits first.2 in
      let same : size x.0 ≡ first.0.0 = s.1.0 in
      let front : Takes bytes (count_text (size x.0)) first.0.1 × CountFits (size x.0) = subst (λ (n : ℕ). Takes bytes (count_text n) first.0.1 × CountFits n) (sym same) t in
      (Takes-then bytes (count_text (size x.0)) first.0.1 (text x.0) x.1 front.0 s.0, (front.1, s.1.1));
  again = λ x rest fits.
      ap (sized_at count part) (append_assoc (count_text (size x)) (text x) rest) ∙ rw (p.again (size x) (text x ++ rest) fits.0) ((q (size x)).again x rest (refl, fits.1));
}

-- bytes behind their number
pub sized_bytes_field : {count : Reader ℕ} {count_text : ℕ → List ℕ} {CountFits : ℕ → Type 0} → IsField count count_text CountFits
    → IsField (sized_at count bytes_at) (λ bytes. count_text (length bytes) ++ bytes) (λ bytes. CountFits (length bytes))
sized_bytes_field {count} {count_text} {CountFits} p =
    fits_field (λ bytes. CountFits (length bytes)) (λ bytes fits. fits.0) (λ bytes fits. (fits, tt))
    (sized_field {Fits = λ bytes. Unit {0}} length p (λ n. fits_field (λ bytes. (length bytes ≡ n) × Unit {0}) (λ bytes is. (is, tt)) (λ bytes is. is.0) (bytes_field n)))
