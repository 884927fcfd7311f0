-- Fields without spaces are determined by their line, and lines without line feeds by their text.
use Rattle.std.proofs.Common.{◌≡◌, ℕ, zero, suc, ◌<◌, ◌≢◌, List, [], ◌∷◌, ◌++◌, length, get_or, refl, sym, ap, ◌∙◌, append_assoc, arith}
use Rattle.std.specs.Prelude.{map}
use Rattle.std.specs.List.{AllByRecursion}
use Rattle.std.proofs.lemmas.List.Concat.{flat_map-cons}
use Rattle.bx_base.specs.Text.{spaced, ended, text_of, LacksFeed}
use Rattle.bx_script.proofs.Fields.{Lacks, Lacks-append}

-- ---- what a byte lacks

pub lacks_at : (c : ℕ) (bytes : List ℕ) → 0 < c → Lacks c bytes → (i : ℕ) → get_or bytes i 0 ≢ c
lacks_at c [] some h i = λ e. omega arith
lacks_at c (b ∷ bs) some h zero = h.0
lacks_at c (b ∷ bs) some h (suc i) = lacks_at c bs some h.1 i

pub LacksFeed-from_lacks : (bytes : List ℕ) → Lacks 10 bytes → LacksFeed bytes
LacksFeed-from_lacks bytes h = lacks_at 10 bytes (omega arith) h

-- a line lacks what its fields lack
pub Lacks-spaced : (c : ℕ) (fields : List (List ℕ)) → 32 ≢ c → AllByRecursion (Lacks c) fields → Lacks c (spaced fields)
Lacks-spaced c [] other h = tt
Lacks-spaced c (x ∷ []) other h = h.0
Lacks-spaced c (x ∷ y ∷ fields) other h = Lacks-append c x (32 ∷ spaced (y ∷ fields)) h.0 (other, Lacks-spaced c (y ∷ fields) other h.1)

-- ---- the first seam

pub record SameParts (x r y s : List ℕ) : Type 0 where
  pub front : x ≡ y
  pub rest : r ≡ s

-- what stands before the first c, and what stands after it
pub seam : (c : ℕ) (x r y s : List ℕ) → Lacks c x → Lacks c y → x ++ c ∷ r ≡ y ++ c ∷ s → SameParts x r y s
seam c [] r [] s p q e = record { front = refl; rest = cc }
seam c [] r (b ∷ y) s p q e = let same : c ≡ b = cc in absurd (q.0 (sym same))
seam c (a ∷ x) r [] s p q e = let same : a ≡ c = cc in absurd (p.0 same)
seam c (a ∷ x) r (b ∷ y) s p q e =
    let head : a ≡ b = cc in
    let tail : x ++ c ∷ r ≡ y ++ c ∷ s = cc in
    let h = seam c x r y s p.1 q.1 tail in
    let front : a ∷ x ≡ b ∷ y = cc (head, h.front) in
    record { front = front; rest = h.rest }

pub no_seam : (c : ℕ) (x y s : List ℕ) → Lacks c x → x ≡ y ++ c ∷ s → ⊥
no_seam c [] [] s p e = cc
no_seam c [] (b ∷ y) s p e = cc
no_seam c (a ∷ x) [] s p e = let same : a ≡ c = cc in p.0 same
no_seam c (a ∷ x) (b ∷ y) s p e = let tail : x ≡ y ++ c ∷ s = cc in no_seam c x y s p.1 tail

-- fields without spaces, at least one, are determined by their line
pub spaced_injective : (a b : List (List ℕ)) → AllByRecursion (Lacks 32) a → AllByRecursion (Lacks 32) b → 0 < length a → 0 < length b → spaced a ≡ spaced b → a ≡ b
spaced_injective [] b p q la lb e = absurd (omega arith)
spaced_injective (x ∷ xs) [] p q la lb e = absurd (omega arith)
spaced_injective (x ∷ []) (y ∷ []) p q la lb e = ap (λ (f : List ℕ). f ∷ []) e
spaced_injective (x ∷ []) (y ∷ y' ∷ ys) p q la lb e = absurd (no_seam 32 x y (spaced (y' ∷ ys)) p.0 e)
spaced_injective (x ∷ x' ∷ xs) (y ∷ []) p q la lb e = absurd (no_seam 32 y x (spaced (x' ∷ xs)) q.0 (sym e))
spaced_injective (x ∷ x' ∷ xs) (y ∷ y' ∷ ys) p q la lb e =
    let h = seam 32 x (spaced (x' ∷ xs)) y (spaced (y' ∷ ys)) p.0 q.0 e in
    let front = h.front in
    let rest = spaced_injective (x' ∷ xs) (y' ∷ ys) p.1 q.1 (omega arith) (omega arith) h.rest in
    cc

-- ---- lines

text_of-cons : (line : List ℕ) (lines : List (List ℕ)) → text_of (line ∷ lines) ≡ line ++ 10 ∷ text_of lines
text_of-cons line lines = flat_map-cons ended line lines ∙ append_assoc line (10 ∷ []) (text_of lines)

nil_ne : (x r : List ℕ) (c : ℕ) → [] ≡ x ++ c ∷ r → ⊥
nil_ne [] r c e = cc
nil_ne (a ∷ x) r c e = cc

-- lines without line feeds are determined by their text
pub text_of_injective : (a b : List (List ℕ)) → AllByRecursion (Lacks 10) a → AllByRecursion (Lacks 10) b → text_of a ≡ text_of b → a ≡ b
text_of_injective [] [] p q e = refl
text_of_injective [] (y ∷ ys) p q e = absurd (nil_ne y (text_of ys) 10 (e ∙ text_of-cons y ys))
text_of_injective (x ∷ xs) [] p q e = absurd (nil_ne x (text_of xs) 10 (sym e ∙ text_of-cons x xs))
text_of_injective (x ∷ xs) (y ∷ ys) p q e =
    let h = seam 10 x (text_of xs) y (text_of ys) p.0 q.0 (sym (text_of-cons x xs) ∙ e ∙ text_of-cons y ys) in
    let front = h.front in
    let rest = text_of_injective xs ys p.1 q.1 h.rest in
    cc

-- what differs where P holds has different images there
pub map_injective : {A B : Type 0} (f : A → B) (P : A → Type 0) → ((x y : A) → P x → P y → f x ≡ f y → x ≡ y) → (a b : List A) → AllByRecursion P a → AllByRecursion P b → map f a ≡ map f b → a ≡ b
map_injective f P one [] [] p q e = refl
map_injective f P one [] (y ∷ ys) p q e = absurd cc
map_injective f P one (x ∷ xs) [] p q e = absurd cc
map_injective f P one (x ∷ xs) (y ∷ ys) p q e =
    let head : f x ≡ f y = cc in
    let tail : map f xs ≡ map f ys = cc in
    let front = one x y p.0 q.0 head in
    let rest = map_injective f P one xs ys p.1 q.1 tail in
    cc

pub all_map : {A B : Type 0} (f : A → B) (P : A → Type 0) (Q : B → Type 0) → ((x : A) → P x → Q (f x)) → (xs : List A) → AllByRecursion P xs → AllByRecursion Q (map f xs)
all_map f P Q each [] h = tt
all_map f P Q each (x ∷ xs) h = (each x h.0, all_map f P Q each xs h.1)
