-- Fields that were read after one another.
use Rattle.std.proofs.Common.{◌≡◌, ℕ, ◌^◌, ◌<◌, ◌≤◌, ◌⊎◌, inl, inr, Bool, true, false, cond, List, ◌++◌, Option, Some, None, refl, sym, ap, subst, ◌∙◌, arith}
use Rattle.std.specs.Fmt.{decimal}
use Rattle.std.specs.Str.{bytes_eq}
use Rattle.std.proofs.lemmas.Slice.Eq.{bytes_eq-Decides}
use Rattle.bx_script.specs.declared.line.Line.{Line}
use Rattle.bx_script.specs.ScheduleLine.{InRange, spelling}
use Rattle.bx_script.specs.Reading.{◌>>=◌, cut, number_of, number_at}
use Rattle.bx_script.proofs.Fields.{bind_some, some_is, then_space, cut_takes, cut_again}
use Rattle.bx_script.proofs.Numbers.{number_takes, number_again, Lacks-decimal}

-- which way a test went
pub chosen : {A : Type 0} (b : Bool) (x y z : A) → cond b x y ≡ z → ((b ≡ true) × (x ≡ z)) ⊎ ((b ≡ false) × (y ≡ z))
chosen true x y z e = inl (refl, e)
chosen false x y z e = inr (refl, e)

-- ---- a number and a space

pub record IsNumberAt (most : ℕ) (text : List ℕ) (n : ℕ) (rest : List ℕ) : Type 0 where
  pub spelled : text ≡ then_space (decimal n) rest
  pub within : n ≤ most

pub number_at_takes : (most : ℕ) (text : List ℕ) (x : ℕ × List ℕ) → most < 2 ^ 64 → number_at most text ≡ Some x → IsNumberAt most text x.0 x.1
unfolding number_at
number_at_takes most text x small e =
    let a = bind_some (cut text) (λ y. number_of most y.0 >>= λ n. Some (n, y.1)) x e in
    let b = bind_some (number_of most a.0.0) (λ n. Some (n, a.0.1)) x a.2 in
    let field = number_takes most a.0.0 b.0 small b.1 in
    let spelled : text ≡ then_space (decimal b.0) a.0.1 = cut_takes text a.0 a.1 ∙ ap (λ (f : List ℕ). then_space f a.0.1) field.spelled in
    subst (λ (y : ℕ × List ℕ). IsNumberAt most text y.0 y.1) (some_is (b.0, a.0.1) x b.2) (record { spelled = spelled; within = field.within })

pub number_at_again : (most n : ℕ) (rest : List ℕ) → most < 2 ^ 64 → n ≤ most → number_at most (then_space (decimal n) rest) ≡ Some (n, rest)
unfolding number_at
number_at_again most n rest small le =
    rw (cut_again (decimal n) rest (Lacks-decimal 32 n (omega arith) (omega arith)), number_again most n small le) refl

-- two parts that were read after one another
pub joined : (text rest a b : List ℕ) → text ≡ then_space a rest → rest ≡ b → text ≡ then_space a b
joined text rest a b p q = p ∙ ap (λ (r : List ℕ). then_space a r) q

pub text_is : (a b : List ℕ) → bytes_eq a b ≡ true → a ≡ b
text_is a b e = (bytes_eq-Decides a b).0 e

-- ---- a line of a word and its rest

abbrev pub Reads : List ℕ → List ℕ → Line → Type 0
Reads word text line = InRange line × (then_space word text ≡ spelling line)

-- the word is another
pub under_word : (word other rest : List ℕ) (line : Line) → bytes_eq word other ≡ true → Reads other rest line → Reads word rest line
under_word word other rest line e h = subst (λ (w : List ℕ). Reads w rest line) (sym (text_is word other e)) h
