-- A part that is read is the part that was written, and what was written is read again.
use Rattle.std.proofs.Common.{◌≡◌, ℕ, ◌+◌, ◌^◌, ◌<◌, ◌≤◌, Bool, true, false, ◌||◌, cond, ltb, eqb, List, [], ◌∷◌, ◌++◌, length, Option, Some, None, refl, sym, ap, subst, ◌∙◌, append_assoc, arith, inl, inr, ◌⊎◌}
use Rattle.std.specs.Prelude.{IfSome, All}
use Rattle.std.specs.List.{flat_map}
use Rattle.std.specs.Int.{w16, w64, to_be_bytes}
use Rattle.std.proofs.lemmas.Bool.{ltb-false, le-ltb, eqb-true, ne_eqb}
use Rattle.std.proofs.lemmas.List.Elements.{All-from_recursion, recursion_from_All}
use Rattle.bx_page.specs.declared.entry.Entry.{Entry}
use Rattle.bx_page.specs.Contents.{Contents, IsEntry, high_bytes}
use Rattle.bx_page.specs.Spelling.{high_len, entry_bytes, numbers}
use Rattle.bx_page.specs.Reading.{lengths_at, entry_at, high_of, high_at, numbers_at, contents_at}
use Rattle.bx_page.proofs.Written.{front}
use Rattle.bx_base.specs.Bytes.{IsBytes}
use Rattle.bx_base.specs.Reading.{◌>>=◌, number_at, bytes_at, list_at}
use Rattle.bx_base.proofs.Fields.{IsField, Takes, Takes-then, bind_some, guard_some, some_is, field16, field64, bytes_field, list_field}

-- ---- entries

or_false : (a b : Bool) → (a || b) ≡ false → (a ≡ false) × (b ≡ false)
or_false true b e = absurd cc
or_false false b e = (refl, e)

lengths_take : (bytes : List ℕ) (x : (ℕ × ℕ) × List ℕ) → IsBytes bytes → lengths_at bytes ≡ Some x → Takes bytes (to_be_bytes w16 x.0.0 ++ to_be_bytes w16 x.0.1) x.1 × (x.0.0 ≤ 256) × (x.0.0 + x.0.1 ≤ 268)
unfolding lengths_at
lengths_take bytes x fits e =
    let a = bind_some (number_at w16 bytes) (λ key. number_at w16 key.1 >>= λ value. cond (ltb 256 key.0 || ltb 268 (key.0 + value.0)) None (Some ((key.0, value.0), value.1))) x e in
    let b = bind_some (number_at w16 a.0.1) (λ value. cond (ltb 256 a.0.0 || ltb 268 (a.0.0 + value.0)) None (Some ((a.0.0, value.0), value.1))) x a.2 in
    let g = guard_some (ltb 256 a.0.0 || ltb 268 (a.0.0 + b.0.0)) ((a.0.0, b.0.0), b.0.1) x b.2 in
    let both = or_false (ltb 256 a.0.0) (ltb 268 (a.0.0 + b.0.0)) g.0 in
    let t0 = field16.takes bytes a.0 fits a.1 in
    let t1 = field16.takes a.0.1 b.0 t0.0.rest_fits b.1 in
    subst (λ (y : (ℕ × ℕ) × List ℕ). Takes bytes (to_be_bytes w16 y.0.0 ++ to_be_bytes w16 y.0.1) y.1 × (y.0.0 ≤ 256) × (y.0.0 + y.0.1 ≤ 268)) g.1
    (Takes-then bytes (to_be_bytes w16 a.0.0) a.0.1 (to_be_bytes w16 b.0.0) b.0.1 t0.0 t1.0, ltb-false _ _ both.0, ltb-false _ _ both.1)

lengths_again : (k v : ℕ) (rest : List ℕ) → k ≤ 256 → k + v ≤ 268 → lengths_at (to_be_bytes w16 k ++ (to_be_bytes w16 v ++ rest)) ≡ Some ((k, v), rest)
unfolding lengths_at
lengths_again k v rest key both =
    let first : ltb 256 k ≡ false = le-ltb _ _ key in
    let second : ltb 268 (k + v) ≡ false = le-ltb _ _ both in
    rw (field16.again k (to_be_bytes w16 v ++ rest) (omega arith), field16.again v rest (omega arith), first, second) refl

entry_takes : (bytes : List ℕ) (x : Entry × List ℕ) → IsBytes bytes → entry_at bytes ≡ Some x → Takes bytes (entry_bytes x.0) x.1 × IsEntry x.0
unfolding entry_at
entry_takes bytes x fits e =
    let a = bind_some (lengths_at bytes) (λ lengths. bytes_at lengths.0.0 lengths.1 >>= λ key. bytes_at lengths.0.1 key.1 >>= λ value. Some (record { key = key.0; value = value.0 }, value.1)) x e in
    let b = bind_some (bytes_at a.0.0.0 a.0.1) (λ key. bytes_at a.0.0.1 key.1 >>= λ value. Some (record { key = key.0; value = value.0 }, value.1)) x a.2 in
    let c = bind_some (bytes_at a.0.0.1 b.0.1) (λ value. Some (record { key = b.0.0; value = value.0 }, value.1)) x b.2 in
    let t0 = lengths_take bytes a.0 fits a.1 in
    let t1 = (bytes_field a.0.0.0).takes a.0.1 b.0 t0.0.rest_fits b.1 in
    let t2 = (bytes_field a.0.0.1).takes b.0.1 c.0 t1.0.rest_fits c.1 in
    let e12 = Takes-then a.0.1 b.0.0 b.0.1 c.0.0 c.0.1 t1.0 t2.0 in
    let e02 : Takes bytes (to_be_bytes w16 a.0.0.0 ++ (to_be_bytes w16 a.0.0.1 ++ (b.0.0 ++ c.0.0))) c.0.1 = Takes-then bytes (to_be_bytes w16 a.0.0.0 ++ to_be_bytes w16 a.0.0.1) a.0.1 (b.0.0 ++ c.0.0) c.0.1 t0.0 e12 in
    let made : Entry × List ℕ = (record { key = b.0.0; value = c.0.0 }, c.0.1) in
    let text : Takes bytes (entry_bytes made.0) c.0.1 = subst (λ (n : ℕ). Takes bytes (to_be_bytes w16 n ++ (to_be_bytes w16 (length c.0.0) ++ (b.0.0 ++ c.0.0))) c.0.1) (sym t1.1) (subst (λ (n : ℕ). Takes bytes (to_be_bytes w16 a.0.0.0 ++ (to_be_bytes w16 n ++ (b.0.0 ++ c.0.0))) c.0.1) (sym t2.1) e02) in
    subst (λ (y : Entry × List ℕ). Takes bytes (entry_bytes y.0) y.1 × IsEntry y.0) (some_is made x c.2) (text, record { key = omega (arith, t1.1, t0.1); both = omega (arith, t1.1, t2.1, t0.2) })

entry_again : (e : Entry) (rest : List ℕ) → IsEntry e → entry_at (entry_bytes e ++ rest) ≡ Some (e, rest)
unfolding entry_at
entry_again e rest fits =
    let regrouped : entry_bytes e ++ rest ≡ to_be_bytes w16 (length e.key) ++ (to_be_bytes w16 (length e.value) ++ (e.key ++ (e.value ++ rest))) =
    ap (λ (t : List ℕ). to_be_bytes w16 (length e.key) ++ (to_be_bytes w16 (length e.value) ++ t)) (append_assoc e.key e.value rest) in
    ap entry_at regrouped ∙ rw (lengths_again (length e.key) (length e.value) (e.key ++ (e.value ++ rest)) fits.key fits.both, (bytes_field (length e.key)).again e.key (e.value ++ rest) refl, (bytes_field (length e.value)).again e.value rest refl) refl

entry_field : IsField entry_at entry_bytes IsEntry
entry_field = record {
  takes = λ bytes x fits e. entry_takes bytes x fits e;
  again = λ e rest fits. entry_again e rest fits;
}

-- ---- the high key

abbrev pub ShortHigh : Option (List ℕ) → Type 0
ShortHigh o = IfSome o (λ high. length high ≤ 256)

-- which of two ways a test went
chosen : {A : Type 0} (b : Bool) (x y z : A) → cond b x y ≡ z → ((b ≡ true) × (x ≡ z)) ⊎ ((b ≡ false) × (y ≡ z))
chosen true x y z e = inl (refl, e)
chosen false x y z e = inr (refl, e)

no_some : {A : Type 0} (x : A) → ◌≡◌ {A = Option A} None (Some x) → ⊥
no_some x e = absurd cc

high_read : (n : ℕ) (bytes : List ℕ) (x : Option (List ℕ) × List ℕ) → IsBytes bytes → n ≤ 256 → (bytes_at n bytes >>= λ high. Some (Some high.0, high.1)) ≡ Some x → Takes bytes (high_bytes x.0) x.1 × (high_len x.0 ≡ n) × ShortHigh x.0
high_read n bytes x fits short e =
    let a = bind_some (bytes_at n bytes) (λ high. Some (Some high.0, high.1)) x e in
    let t = (bytes_field n).takes bytes a.0 fits a.1 in
    subst (λ (y : Option (List ℕ) × List ℕ). Takes bytes (high_bytes y.0) y.1 × (high_len y.0 ≡ n) × ShortHigh y.0) (some_is (Some a.0.0, a.0.1) x a.2) (t.0, t.1, omega (arith, t.1))

high_of_there : (n : ℕ) (bytes : List ℕ) (x : Option (List ℕ) × List ℕ) → IsBytes bytes → cond (ltb 256 n) None (bytes_at n bytes >>= λ high. Some (Some high.0, high.1)) ≡ Some x → Takes bytes (high_bytes x.0) x.1 × (high_len x.0 ≡ n) × ShortHigh x.0
high_of_there n bytes x fits e =
    elim (chosen (ltb 256 n) None (bytes_at n bytes >>= λ high. Some (Some high.0, high.1)) (Some x) e) [
      | inl h ↦ absurd (no_some x h.1)
      | inr h ↦ high_read n bytes x fits (ltb-false _ _ h.0) h.1
    ]

high_of_takes : (n : ℕ) (bytes : List ℕ) (x : Option (List ℕ) × List ℕ) → IsBytes bytes → high_of n bytes ≡ Some x → Takes bytes (high_bytes x.0) x.1 × (high_len x.0 ≡ n) × ShortHigh x.0
unfolding high_of
high_of_takes n bytes x fits e =
    elim (chosen (eqb n 65535) (Some (None, bytes)) (cond (ltb 256 n) None (bytes_at n bytes >>= λ high. Some (Some high.0, high.1))) (Some x) e) [
      | inl h ↦ subst (λ (y : Option (List ℕ) × List ℕ). Takes bytes (high_bytes y.0) y.1 × (high_len y.0 ≡ n) × ShortHigh y.0) (some_is (None, bytes) x h.1) (record { parts = refl; rest_fits = fits }, sym (eqb-true n 65535 h.0), tt)
      | inr h ↦ high_of_there n bytes x fits h.1
    ]

high_of_again : (o : Option (List ℕ)) (rest : List ℕ) → ShortHigh o → high_of (high_len o) (high_bytes o ++ rest) ≡ Some (o, rest)
unfolding high_of
high_of_again None rest short = refl
high_of_again (Some high) rest short =
    let other : eqb (length high) 65535 ≡ false = ne_eqb (length high) 65535 (omega arith) in
    let fits : ltb 256 (length high) ≡ false = le-ltb _ _ short in
    rw (other, fits, (bytes_field (length high)).again high rest refl) refl

high_joined : (bytes b1 b2 : List ℕ) (n z : ℕ) (x : Option (List ℕ) × List ℕ) → Takes bytes (to_be_bytes w16 n) b1 → Takes b1 (to_be_bytes w16 z) b2 → z ≡ 0 → Takes b2 (high_bytes x.0) x.1 × (high_len x.0 ≡ n) × ShortHigh x.0
    → Takes bytes (to_be_bytes w16 (high_len x.0) ++ (0 ∷ 0 ∷ high_bytes x.0)) x.1 × ShortHigh x.0
high_joined bytes b1 b2 n z x t0 t1 none t2 =
    let first : Takes bytes (to_be_bytes w16 (high_len x.0)) b1 = subst (λ (k : ℕ). Takes bytes (to_be_bytes w16 k) b1) (sym t2.1) t0 in
    let second : Takes b1 (0 ∷ 0 ∷ []) b2 = subst (λ (k : ℕ). Takes b1 (to_be_bytes w16 k) b2) none t1 in
    (Takes-then bytes (to_be_bytes w16 (high_len x.0)) b1 (0 ∷ 0 ∷ high_bytes x.0) x.1 first (Takes-then b1 (0 ∷ 0 ∷ []) b2 (high_bytes x.0) x.1 second t2.0), t2.2)

high_len_fits : (o : Option (List ℕ)) → ShortHigh o → high_len o < 2 ^ 16
high_len_fits None short = omega arith
high_len_fits (Some high) short = omega (arith, short)

high_takes : (bytes : List ℕ) (x : Option (List ℕ) × List ℕ) → IsBytes bytes → high_at bytes ≡ Some x → Takes bytes (to_be_bytes w16 (high_len x.0) ++ (0 ∷ 0 ∷ high_bytes x.0)) x.1 × ShortHigh x.0
unfolding high_at
high_takes bytes x fits e =
    let a = bind_some (number_at w16 bytes) (λ n. number_at w16 n.1 >>= λ zeros. cond (eqb zeros.0 0) (high_of n.0 zeros.1) None) x e in
    let b = bind_some (number_at w16 a.0.1) (λ zeros. cond (eqb zeros.0 0) (high_of a.0.0 zeros.1) None) x a.2 in
    let t0 = field16.takes bytes a.0 fits a.1 in
    let t1 = field16.takes a.0.1 b.0 t0.0.rest_fits b.1 in
    elim (chosen (eqb b.0.0 0) (high_of a.0.0 b.0.1) None (Some x) b.2) [
      | inl h ↦ high_joined bytes a.0.1 b.0.1 a.0.0 b.0.0 x t0.0 t1.0 (eqb-true _ _ h.0) (high_of_takes a.0.0 b.0.1 x t1.0.rest_fits h.1)
      | inr h ↦ absurd (no_some x h.1)
    ]

high_again : (o : Option (List ℕ)) (rest : List ℕ) → ShortHigh o → high_at (to_be_bytes w16 (high_len o) ++ (0 ∷ 0 ∷ (high_bytes o ++ rest))) ≡ Some (o, rest)
unfolding high_at
high_again o rest short =
    rw (field16.again (high_len o) (0 ∷ 0 ∷ (high_bytes o ++ rest)) (high_len_fits o short), field16.again 0 (high_bytes o ++ rest) (omega arith)) (high_of_again o rest short)

-- ---- all of the parts

-- the limits of each part
pub record AreParts (p : Contents) : Type 0 where
  pub level : p.level < 2 ^ 16
  pub right : p.right < 2 ^ 64
  pub count : length p.entries < 2 ^ 16
  pub high : ShortHigh p.high
  pub entries : All IsEntry p.entries

-- the numbers in front of the high key's length
abbrev numbers_text : ℕ × ℕ × ℕ → List ℕ
numbers_text n = to_be_bytes w16 n.0 ++ (to_be_bytes w16 n.1 ++ to_be_bytes w64 n.2)

numbers_take : (bytes : List ℕ) (x : (ℕ × ℕ × ℕ) × List ℕ) → IsBytes bytes → numbers_at bytes ≡ Some x → Takes bytes (numbers_text x.0) x.1 × (x.0.0 < 2 ^ 16) × (x.0.1 < 2 ^ 16) × (x.0.2 < 2 ^ 64)
unfolding numbers_at
numbers_take bytes x fits e =
    let a = bind_some (number_at w16 bytes) (λ level. number_at w16 level.1 >>= λ count. number_at w64 count.1 >>= λ right. Some ((level.0, count.0, right.0), right.1)) x e in
    let b = bind_some (number_at w16 a.0.1) (λ count. number_at w64 count.1 >>= λ right. Some ((a.0.0, count.0, right.0), right.1)) x a.2 in
    let c = bind_some (number_at w64 b.0.1) (λ right. Some ((a.0.0, b.0.0, right.0), right.1)) x b.2 in
    let t0 = field16.takes bytes a.0 fits a.1 in
    let t1 = field16.takes a.0.1 b.0 t0.0.rest_fits b.1 in
    let t2 = field64.takes b.0.1 c.0 t1.0.rest_fits c.1 in
    let made : (ℕ × ℕ × ℕ) × List ℕ = ((a.0.0, b.0.0, c.0.0), c.0.1) in
    subst (λ (y : (ℕ × ℕ × ℕ) × List ℕ). Takes bytes (numbers_text y.0) y.1 × (y.0.0 < 2 ^ 16) × (y.0.1 < 2 ^ 16) × (y.0.2 < 2 ^ 64)) (some_is made x c.2)
    (Takes-then bytes (to_be_bytes w16 a.0.0) a.0.1 (to_be_bytes w16 b.0.0 ++ to_be_bytes w64 c.0.0) c.0.1 t0.0 (Takes-then a.0.1 (to_be_bytes w16 b.0.0) b.0.1 (to_be_bytes w64 c.0.0) c.0.1 t1.0 t2.0), t0.1, t1.1, t2.1)

numbers_again : (level count right : ℕ) (rest : List ℕ) → level < 2 ^ 16 → count < 2 ^ 16 → right < 2 ^ 64 → numbers_at (to_be_bytes w16 level ++ (to_be_bytes w16 count ++ (to_be_bytes w64 right ++ rest))) ≡ Some ((level, count, right), rest)
unfolding numbers_at
numbers_again level count right rest first second third =
    rw (field16.again level (to_be_bytes w16 count ++ (to_be_bytes w64 right ++ rest)) first, field16.again count (to_be_bytes w64 right ++ rest) second, field64.again right rest third) refl

-- the parts one behind the other
joined : (p : Contents) (b0 b1 b2 rest : List ℕ) (count : ℕ) → Takes b0 (numbers_text (p.level, count, p.right)) b1
    → Takes b1 (to_be_bytes w16 (high_len p.high) ++ (0 ∷ 0 ∷ high_bytes p.high)) b2 → Takes b2 (flat_map entry_bytes p.entries) rest → length p.entries ≡ count → b0 ≡ front p ++ rest
joined p b0 b1 b2 rest count t0 t1 t2 is =
    let one : Takes b0 (numbers_text (p.level, length p.entries, p.right)) b1 = subst (λ (n : ℕ). Takes b0 (numbers_text (p.level, n, p.right)) b1) (sym is) t0 in
    let all : Takes b0 (front p) rest = Takes-then b0 (numbers_text (p.level, length p.entries, p.right)) b1 _ rest one (Takes-then b1 (to_be_bytes w16 (high_len p.high) ++ (0 ∷ 0 ∷ high_bytes p.high)) b2 (flat_map entry_bytes p.entries) rest t1 t2) in
    all.parts

abbrev Found : List ℕ → Contents × List ℕ → Type 0
Found bytes x = (bytes ≡ front x.0 ++ x.1) × AreParts x.0

pub contents_take : (bytes : List ℕ) (x : Contents × List ℕ) → IsBytes bytes → contents_at bytes ≡ Some x → (bytes ≡ front x.0 ++ x.1) × AreParts x.0
unfolding contents_at
contents_take bytes x fits e =
    let a = bind_some (numbers_at bytes) (λ numbers. high_at numbers.1 >>= λ high. list_at numbers.0.1 entry_at high.1 >>= λ entries. Some (record { level = numbers.0.0; right = numbers.0.2; high = high.0; entries = entries.0 }, entries.1)) x e in
    let b = bind_some (high_at a.0.1) (λ high. list_at a.0.0.1 entry_at high.1 >>= λ entries. Some (record { level = a.0.0.0; right = a.0.0.2; high = high.0; entries = entries.0 }, entries.1)) x a.2 in
    let c = bind_some (list_at a.0.0.1 entry_at b.0.1) (λ entries. Some (record { level = a.0.0.0; right = a.0.0.2; high = b.0.0; entries = entries.0 }, entries.1)) x b.2 in
    let t0 = numbers_take bytes a.0 fits a.1 in
    let t1 = high_takes a.0.1 b.0 t0.0.rest_fits b.1 in
    let t2 = (list_field a.0.0.1 entry_field).takes b.0.1 c.0 t1.0.rest_fits c.1 in
    let made : Contents × List ℕ = (record { level = a.0.0.0; right = a.0.0.2; high = b.0.0; entries = c.0.0 }, c.0.1) in
    subst (Found bytes) (some_is made x c.2)
    (joined made.0 bytes a.0.1 b.0.1 c.0.1 a.0.0.1 t0.0 t1.0 t2.0 t2.1.0, record { level = t0.1; right = t0.3; count = omega (arith, t2.1.0, t0.2); high = t1.1; entries = All-from_recursion IsEntry c.0.0 t2.1.1 })

-- the parts are read again, whatever is behind them
pub contents_again : (p : Contents) (rest : List ℕ) → AreParts p → contents_at (front p ++ rest) ≡ Some (p, rest)
unfolding contents_at
contents_again p rest fits =
    let entries = flat_map entry_bytes p.entries ++ rest in
    let high = to_be_bytes w16 (high_len p.high) ++ (0 ∷ 0 ∷ (high_bytes p.high ++ entries)) in
    let regrouped : front p ++ rest ≡ to_be_bytes w16 p.level ++ (to_be_bytes w16 (length p.entries) ++ (to_be_bytes w64 p.right ++ high)) =
    ap (λ (t : List ℕ). numbers p ++ t) (append_assoc (high_bytes p.high) (flat_map entry_bytes p.entries) rest) in
    ap contents_at regrouped
    ∙ rw (
      numbers_again p.level (length p.entries) p.right high fits.level fits.count fits.right,
      high_again p.high entries fits.high,
      (list_field (length p.entries) entry_field).again p.entries rest (refl, recursion_from_All IsEntry p.entries fits.entries),
    ) refl
