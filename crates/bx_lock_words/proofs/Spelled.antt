-- A body is one word at most, and what is read is what it spells.
use Rattle.std.proofs.Common.{◌≡◌, ℕ, ◌⊎◌, Bool, cond, List, [], ◌∷◌, ◌++◌, length, true, false, eqb, Option, Some, None, refl, sym, ap, subst, ◌∙◌, arith, eq-eqb, inl, inr}
use Rattle.std.proofs.lemmas.Bool.{eqb-true}
use Rattle.std.proofs.lemmas.List.{append-nil}
use Rattle.std.proofs.lemmas.Option.{some_pair_parts}
use Rattle.bx_base.specs.Bytes.{IsBytes}
use Rattle.bx_base.specs.Reading.{Reader, as_at}
use Rattle.bx_base.proofs.Fields.{IsField, Takes, bind_some, field64, some_is}
use Rattle.bx_lock_words.specs.declared.words.Word.{Word}
use Rattle.bx_lock_words.specs.declared.words.Word.TheVariants.{Wants, Grants, Revokes, Releases, Renews, Leases}
use Rattle.bx_lock_words.specs.Reading
use Rattle.bx_lock_words.specs.Reading.{word_at}
use Rattle.bx_lock_words.specs.Words.{IsWord, Spells, body_text, kind_of}
use Rattle.bx_lock_words.proofs.Fields.{grant_field, numbers_field, release_field, revoke_field, want_field}

-- ---- each word is read again

pub reads_again : (word : Word) (rest : List ℕ) → IsWord word → word_at (kind_of word) (body_text word ++ rest) ≡ Some (word, rest)
unfolding word_at
reads_again (Wants w) rest is = rw (want_field.again w rest is) refl
reads_again (Grants g) rest is = rw (grant_field.again g rest is) refl
reads_again (Revokes v) rest is = rw (revoke_field.again v rest is) refl
reads_again (Releases l) rest is = rw (release_field.again l rest is) refl
reads_again (Renews s) rest is = rw (field64.again s rest is) refl
reads_again (Leases s u) rest is = rw (numbers_field.again (s, u) rest is) refl

-- ---- and what is read is a word

-- a word of a kind stands at the front
abbrev pub Stands : ℕ → List ℕ → Word × List ℕ → Type 0
Stands kind bytes x = Takes bytes (body_text x.0) x.1 × (IsWord x.0 × (kind ≡ kind_of x.0))

one_of : {A : Type 0} {a : Reader A} {text : A → List ℕ} {Fit : A → Type 0} (f : A → Word) (kind : ℕ) → IsField a text Fit
    → ((x : A) → body_text (f x) ≡ text x) → ((x : A) → Fit x → IsWord (f x)) → ((x : A) → kind ≡ kind_of (f x))
    → (bytes : List ℕ) (x : Word × List ℕ) → IsBytes bytes → as_at f a bytes ≡ Some x → Stands kind bytes x
one_of {A} {a} {text} {Fit} f kind p texts words kinds bytes x fits e =
    let first = bind_some (a bytes) (λ u. Some (f u.0, u.1)) x e in
    let t = p.takes bytes first.0 fits first.1 in
    let made : Word × List ℕ = (f first.0.0, first.0.1) in
    let front : Takes bytes (body_text (f first.0.0)) first.0.1 = subst (λ (y : List ℕ). Takes bytes y first.0.1) (sym (texts first.0.0)) t.0 in
    subst (λ (y : Word × List ℕ). Stands kind bytes y) (some_is made x first.2) (front, (words first.0.0 t.1, kinds first.0.0))

either : (b : Bool) (one other : Option (Word × List ℕ)) (x : Word × List ℕ) → cond b one other ≡ Some x → ((b ≡ true) × (one ≡ Some x)) ⊎ (other ≡ Some x)
either true one other x e = inl (refl, e)
either false one other x e = inr e

pub reads_word : (kind : ℕ) (bytes : List ℕ) (x : Word × List ℕ) → IsBytes bytes → word_at kind bytes ≡ Some x → Stands kind bytes x
unfolding word_at
reads_word kind bytes x fits e =
    elim (either (eqb kind 8) _ _ x e) [
      | inl h ↦ one_of Wants kind want_field (λ w. refl) (λ w fit. fit) (λ w. eqb-true kind 8 h.0) bytes x fits h.1
      | inr e9 ↦ elim (either (eqb kind 9) _ _ x e9) [
        | inl h ↦ one_of Grants kind grant_field (λ g. refl) (λ g fit. fit) (λ g. eqb-true kind 9 h.0) bytes x fits h.1
        | inr e10 ↦ elim (either (eqb kind 10) _ _ x e10) [
          | inl h ↦ one_of Revokes kind revoke_field (λ v. refl) (λ v fit. fit) (λ v. eqb-true kind 10 h.0) bytes x fits h.1
          | inr e11 ↦ elim (either (eqb kind 11) _ _ x e11) [
            | inl h ↦ one_of Releases kind release_field (λ l. refl) (λ l fit. fit) (λ l. eqb-true kind 11 h.0) bytes x fits h.1
            | inr e12 ↦ elim (either (eqb kind 12) _ _ x e12) [
              | inl h ↦ one_of Renews kind field64 (λ s. refl) (λ s fit. fit) (λ s. eqb-true kind 12 h.0) bytes x fits h.1
              | inr e13 ↦ elim (either (eqb kind 13) _ _ x e13) [
                | inl h ↦ one_of Reading.leases_with kind numbers_field (λ p. refl) (λ p fit. fit) (λ p. eqb-true kind 13 h.0) bytes x fits h.1
                | inr none ↦ absurd cc
              ]
            ]
          ]
        ]
      ]
    ]

-- ---- a whole body

whole_again : (word : Word) (kind : ℕ) (body : List ℕ) → Spells word kind body → word_at kind body ≡ Some (word, [])
whole_again word kind body is =
    ap (λ (k : ℕ). word_at k body) is.kind_is ∙ (ap (word_at (kind_of word)) (is.body_is ∙ sym (append-nil (body_text word))) ∙ reads_again word [] is.is)

pub reads_whole : (kind : ℕ) (body rest : List ℕ) (word : Word) → IsBytes body → word_at kind body ≡ Some (word, rest) → rest ≡ [] → Spells word kind body
reads_whole kind body rest word fits e none =
    let s = reads_word kind body (word, rest) fits e in
    record { is = s.1.0; kind_is = s.1.1; body_is = s.0.parts ∙ (ap (λ (r : List ℕ). body_text word ++ r) none ∙ append-nil (body_text word)) }

pub reads_none : (kind : ℕ) (body : List ℕ) → word_at kind body ≡ None → (word : Word) → Spells word kind body → ⊥
reads_none kind body none word is =
    let both : ◌≡◌ {A = Option (Word × List ℕ)} None (Some (word, [])) = sym none ∙ whole_again word kind body is in
    absurd cc

pub reads_end : (kind : ℕ) (body rest : List ℕ) (word other : Word) → word_at kind body ≡ Some (word, rest) → Spells other kind body → rest ≡ []
reads_end kind body rest word other e is = (some_pair_parts word other rest [] (sym e ∙ whole_again other kind body is)).1

pub one_word : (a b : Word) (kind : ℕ) (body : List ℕ) → Spells a kind body → Spells b kind body → a ≡ b
one_word a b kind body is also = (some_pair_parts a b [] [] (sym (whole_again a kind body is) ∙ whole_again b kind body also)).0

pub not_empty : (xs : List ℕ) → eqb (length xs) 0 ≡ false → xs ≡ [] → ⊥
not_empty xs e is =
    let yes : eqb (length xs) 0 ≡ true = eq-eqb (length xs) 0 (ap length is) in
    absurd cc

pub empty_is : (xs : List ℕ) → eqb (length xs) 0 ≡ true → xs ≡ []
empty_is [] e = refl
empty_is (x ∷ xs) e = absurd (omega (arith, eqb-true (length (x ∷ xs)) 0 e))
