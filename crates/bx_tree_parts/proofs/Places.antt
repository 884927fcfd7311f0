-- Lists of bytes by what is at each place.
use Rattle.std.proofs.Common.{◌≡◌, ℕ, zero, suc, ◌+◌, ◌-◌, ◌<◌, ◌≤◌, ◌⊎◌, inl, inr, arith, List, ◌∷◌, ◌++◌, length, take, drop, get_or, replicate, refl, sym, ap, ◌∙◌}
use Rattle.std.specs.Prelude.{◌≢◌}
use Rattle.std.proofs.lemmas.List.{ext_get_or, length-append, length-take, length-drop, length-replicate, get_or-replicate, get_or-take, get_or-drop, get_or-append_right}
use Rattle.std.proofs.Math.ListN.{get_or-append}
use Rattle.bx_tree_parts.specs.Bytes.{bytes_from}

pub side : (a b : ℕ) → (a < b) ⊎ (b ≤ a)
side a b = grind arith

pub same_or : (a b : ℕ) → (a ≡ b) ⊎ (a ≢ b)
same_or a b = by (side a b) (side b a)
  where
    by : (a < b) ⊎ (b ≤ a) → (b < a) ⊎ (a ≤ b) → (a ≡ b) ⊎ (a ≢ b)
    by (inl less) other = inr (λ same. omega (arith, less, same))
    by (inr from) (inl less) = inr (λ same. omega (arith, less, same))
    by (inr from) (inr to) = inl (omega (arith, from, to))

-- ---- bytes from a place on

pub bytes_len : (at : ℕ → ℕ) (start count : ℕ) → length (bytes_from at start count) ≡ count
unfolding bytes_from
bytes_len at start zero = refl
bytes_len at start (suc count) = ap suc (bytes_len at (suc start) count)

pub byte_there : (at : ℕ → ℕ) (start count i : ℕ) → i < count → get_or (bytes_from at start count) i 0 ≡ at (start + i)
unfolding bytes_from
byte_there at start zero i less = absurd (omega (arith, less))
byte_there at start (suc count) zero less = ap at (omega arith)
byte_there at start (suc count) (suc i) less = byte_there at (suc start) count i (omega (arith, less)) ∙ ap at (omega arith)

-- a list that has these bytes
pub is_bytes : (at : ℕ → ℕ) (start count : ℕ) (bytes : List ℕ) → length bytes ≡ count → ((i : ℕ) → i < count → get_or bytes i 0 ≡ at (start + i)) → bytes ≡ bytes_from at start count
is_bytes at start count bytes long each =
    ext_get_or 0 bytes (bytes_from at start count) (long ∙ sym (bytes_len at start count))
    (λ i less. each i (omega (arith, less, long)) ∙ sym (byte_there at start count i (omega (arith, less, long))))

-- the same bytes at each place
pub same_bytes : (at new : ℕ → ℕ) (start count : ℕ) → ((i : ℕ) → i < count → at (start + i) ≡ new (start + i)) → bytes_from at start count ≡ bytes_from new start count
same_bytes at new start count each =
    is_bytes new start count (bytes_from at start count) (bytes_len at start count) (λ i less. byte_there at start count i less ∙ each i less)

pub zero_bytes : (at : ℕ → ℕ) (start count : ℕ) → ((i : ℕ) → i < count → at (start + i) ≡ 0) → replicate count 0 ≡ bytes_from at start count
zero_bytes at start count each =
    is_bytes at start count (replicate count 0) (length-replicate {A = ℕ} count 0)
    (λ i less. get_or-replicate count i 0 0 less ∙ sym (each i less))

-- a part of a list
pub part_bytes : (at : ℕ → ℕ) (start count inner : ℕ) (bytes : List ℕ) → inner + count ≤ length bytes → ((i : ℕ) → i < count → get_or bytes (inner + i) 0 ≡ at (start + i))
    → take count (drop inner bytes) ≡ bytes_from at start count
part_bytes at start count inner bytes fits each =
    let long : length (take count (drop inner bytes)) ≡ count =
    (let t = length-take count (drop inner bytes) in let d = length-drop inner bytes in omega (arith, t, d, fits)) in
    is_bytes at start count (take count (drop inner bytes)) long (λ i less. get_or-take count (drop inner bytes) i 0 less ∙ get_or-drop inner bytes i 0 ∙ each i less)

-- some, and then others
pub bytes_more : (at : ℕ → ℕ) (start a b : ℕ) → bytes_from at start (a + b) ≡ bytes_from at start a ++ bytes_from at (start + a) b
unfolding bytes_from
bytes_more at start zero b =
    let e : start + 0 ≡ start = omega arith in
    let f : 0 + b ≡ b = omega arith in
    ap (bytes_from at start) f ∙ ap (λ (n : ℕ). bytes_from at n b) (sym e)
bytes_more at start (suc a) b =
    let e : suc start + a ≡ start + suc a = omega arith in
    let f : suc a + b ≡ suc (a + b) = omega arith in
    ap (bytes_from at start) f
    ∙ ap (λ (others : List ℕ). at start ∷ others) (bytes_more at (suc start) a b ∙ ap (λ (n : ℕ). bytes_from at (suc start) a ++ bytes_from at n b) e)

-- ---- bytes written into a list

abbrev pub spliced : ℕ → List ℕ → List ℕ → List ℕ
spliced inner part old = take inner old ++ part ++ drop (inner + length part) old

module _ (inner : ℕ) (part old : List ℕ) (within : inner + length part ≤ length old) where
  front_long : length (take inner old) ≡ inner
  front_long = let e = length-take inner old in omega (arith, e, within)

  both_long : length (take inner old ++ part) ≡ inner + length part
  both_long = let e = length-append (take inner old) part in omega (arith, e, front_long)

  pub spliced_long : length (spliced inner part old) ≡ length old
  spliced_long =
      let e = length-append (take inner old ++ part) (drop (inner + length part) old) in
      let d = length-drop (inner + length part) old in omega (arith, e, d, both_long, within)

  pub spliced_before : (i : ℕ) → i < inner → get_or (spliced inner part old) i 0 ≡ get_or old i 0
  spliced_before i less =
      get_or-append (take inner old ++ part) (drop (inner + length part) old) 0 i (omega (arith, both_long, less))
      ∙ get_or-append (take inner old) part 0 i (omega (arith, front_long, less))
      ∙ get_or-take inner old i 0 less

  pub spliced_here : (i : ℕ) → inner ≤ i → i < inner + length part → get_or (spliced inner part old) i 0 ≡ get_or part (i - inner) 0
  spliced_here i from less =
      get_or-append (take inner old ++ part) (drop (inner + length part) old) 0 i (omega (arith, both_long, less))
      ∙ get_or-append_right (take inner old) part inner i 0 front_long from

  pub spliced_behind : (i : ℕ) → inner + length part ≤ i → get_or (spliced inner part old) i 0 ≡ get_or old i 0
  spliced_behind i from =
      get_or-append_right (take inner old ++ part) (drop (inner + length part) old) (inner + length part) i 0 both_long from
      ∙ get_or-drop (inner + length part) old (i - (inner + length part)) 0
      ∙ ap (λ (n : ℕ). get_or old n 0) (omega (arith, from))
