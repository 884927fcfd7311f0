-- What the lines of a text are.
use Rattle.std.proofs.Common.{◌≡◌, ℕ, suc, ◌<◌, ◌≤◌, false, eqb, List, [], ◌∷◌, ◌++◌, length, refl, inl, inr, arith}
use Rattle.std.specs.List.{AllByRecursion}
use Rattle.std.proofs.lemmas.List.{append_assoc, append-nil}
use Rattle.std.proofs.lemmas.List.Concat.{flat_map-append}
use Rattle.std.proofs.lemmas.Bool.Decides.{eqb_tells}
use Rattle.bx_base.specs.Text.{ended, text_of, onto_first, lines_of, LacksFeed, BeginsWith}

-- What holds at the first byte and behind it.
LacksFeed-head : (c : ℕ) (cs : List ℕ) → LacksFeed (c ∷ cs) → eqb c 10 ≡ false
LacksFeed-head c cs l = elim (eqb_tells c 10) [ inl h ↦ absurd (l 0 h.1) | inr h ↦ h.0 ]

LacksFeed-tail : (c : ℕ) (cs : List ℕ) → LacksFeed (c ∷ cs) → LacksFeed cs
LacksFeed-tail c cs l = λ i. l (suc i)

-- A line and its line feed come off the front.
lines_of-ended : (line rest : List ℕ) → LacksFeed line → lines_of (line ++ 10 ∷ rest) ≡ line ∷ lines_of rest
lines_of-ended [] rest l = refl
lines_of-ended (c ∷ cs) rest l = rw (LacksFeed-head c cs l, lines_of-ended cs rest (LacksFeed-tail c cs l)) refl

-- A byte that lacks a line feed behind it.
lines_of-last : (c : ℕ) (cs : List ℕ) → LacksFeed (c ∷ cs) → lines_of (c ∷ cs) ≡ (c ∷ cs) ∷ []
lines_of-last c [] l = rw (LacksFeed-head c [] l) refl
lines_of-last c (d ∷ ds) l = rw (LacksFeed-head c (d ∷ ds) l, lines_of-last d ds (LacksFeed-tail c (d ∷ ds) l)) refl

pub lines_of-lacks_feed : (text : List ℕ) → LacksFeed text → 0 < length text → lines_of text ≡ text ∷ []
lines_of-lacks_feed [] l n = absurd (omega arith)
lines_of-lacks_feed (c ∷ cs) l n = lines_of-last c cs l

pub lines_of-begins : (text line rest : List ℕ) → BeginsWith text line rest → lines_of text ≡ line ∷ lines_of rest
lines_of-begins text line rest b =
    elim b.parts [
      | inl e ↦ rw (e, append_assoc line (10 ∷ []) rest) (lines_of-ended line rest b.lacks)
      | inr e ↦ rw (e.0, e.2) (lines_of-lacks_feed line b.lacks e.1)
    ]

-- A byte in front of lines of which the first is long enough.
onto_first-long : (c n : ℕ) (lines : List (List ℕ)) → (first : List ℕ) × (more : List (List ℕ)) × (lines ≡ first ∷ more) × (n ≤ length first) → (first : List ℕ) × (more : List (List ℕ)) × (onto_first c lines ≡ first ∷ more) × (suc n ≤ length first)
onto_first-long c n lines h = (c ∷ h.0, h.1, rw h.2 refl, omega (arith, h.3))

-- A byte alone in front is a line, or begins one.
onto_first-one : (c : ℕ) (lines : List (List ℕ)) → (first : List ℕ) × (more : List (List ℕ)) × (onto_first c lines ≡ first ∷ more) × (1 ≤ length first)
onto_first-one c [] = (c ∷ [], [], refl, omega arith)
onto_first-one c (line ∷ lines) = (c ∷ line, lines, refl, omega arith)

too_long-from_cons : (c : ℕ) (cs rest : List ℕ) → LacksFeed (c ∷ cs) → (line : List ℕ) × (lines : List (List ℕ)) × (lines_of (c ∷ (cs ++ rest)) ≡ line ∷ lines) × (length (c ∷ cs) ≤ length line)
too_long-from_cons c [] rest l = rw (LacksFeed-head c [] l) (onto_first-one c (lines_of rest))
too_long-from_cons c (d ∷ ds) rest l =
    rw (LacksFeed-head c (d ∷ ds) l) (onto_first-long c (length (d ∷ ds)) _ (too_long-from_cons d ds rest (LacksFeed-tail c (d ∷ ds) l)))

pub lines_of-too_long : (front rest : List ℕ) → LacksFeed front → 0 < length front → (line : List ℕ) × (lines : List (List ℕ)) × (lines_of (front ++ rest) ≡ line ∷ lines) × (length front ≤ length line)
lines_of-too_long [] rest l n = absurd (omega arith)
lines_of-too_long (c ∷ cs) rest l n = too_long-from_cons c cs rest l

pub lines_of-append : (lines : List (List ℕ)) (rest : List ℕ) → AllByRecursion LacksFeed lines → lines_of (text_of lines ++ rest) ≡ lines ++ lines_of rest
lines_of-append [] rest a = refl
lines_of-append (line ∷ lines) rest a =
    rw (append_assoc (ended line) (text_of lines) rest, append_assoc line (10 ∷ []) (text_of lines ++ rest), lines_of-ended line (text_of lines ++ rest) a.0, lines_of-append lines rest a.1) refl

pub lines_of-text_of : (lines : List (List ℕ)) → AllByRecursion LacksFeed lines → lines_of (text_of lines) ≡ lines
lines_of-text_of lines a = rw (append-nil (text_of lines), append-nil lines) at (lines_of-append lines [] a)

pub text_of-append : (xs ys : List (List ℕ)) → text_of (xs ++ ys) ≡ text_of xs ++ text_of ys
text_of-append xs ys = flat_map-append ended xs ys
