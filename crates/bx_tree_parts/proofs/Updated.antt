-- Maps of pieces after a change at one index.
use Rattle.std.proofs.Common.{◌≡◌, ℕ, ◌+◌, ◌-◌, ◌*◌, ◌/◌, ◌%◌, ◌<◌, ◌≤◌, ◌⊎◌, inl, inr, arith, false, List, length, take, drop, get_or, replicate, refl, sym, ap, ◌∙◌, subst, Option, Some, None, Vec, Global}
use Rattle.std.specs.Prelude.{◌≢◌, IfSome, IsSome, is_some}
use Rattle.std.specs.BTreeMap.{BTreeMap, UpdatesBy, get}
use Rattle.std.specs.Ordering.{is_eq, nat_cmp}
use Rattle.std.proofs.lemmas.Bool.Decides.{nat_tests}
use Rattle.std.proofs.lemmas.List.{get_or-replicate, get_or_past, get_or-drop, get_or-take, length-take, length-drop, length-replicate}
use Rattle.bx_tree_parts.specs.Bytes.{bytes_from, IsCleared, IsPut}
use Rattle.bx_tree_parts.specs.Pieces.{byte_in}
use Rattle.bx_tree_parts.proofs.Places.{part_bytes, side, same_or, spliced, spliced_long, spliced_before, spliced_here, spliced_behind}

abbrev pub Piece : Type 0
Piece = Vec ℕ Global

differ : (a b : ℕ) → a ≢ b → is_eq (nat_cmp b a) ≡ false
differ a b apart = grind (arith, nat_tests, apart)

abbrev pub byte_of : BTreeMap ℕ Piece → ℕ → ℕ
byte_of map place = byte_in (get nat_cmp map (place / 4096)) (place % 4096)

abbrev pub Whole : BTreeMap ℕ Piece → Type 0
Whole map = (index : ℕ) → IfSome (get nat_cmp map index) (λ piece. length piece.items ≡ 4096)

abbrev pub Long : Option Piece → Type 0
Long o = IfSome o (λ piece. length piece.items ≡ 4096)

module _ (old new : BTreeMap ℕ Piece) (index : ℕ) (w : Option Piece) (updates : UpdatesBy nat_cmp (nat_cmp index) old new w) where
  pub at_index : (q : ℕ) → q ≡ index → get nat_cmp new q ≡ w
  at_index q same = subst (λ (n : ℕ). get nat_cmp new n ≡ w) (sym same) updates.1

  pub at_other : (q : ℕ) → q ≢ index → get nat_cmp new q ≡ get nat_cmp old q
  at_other q apart = updates.2 q (differ q index apart)

pub zeros_in : (place : ℕ) → get_or (replicate {A = ℕ} 4096 0) place 0 ≡ 0
zeros_in place = by (side place 4096)
  where
    by : (place < 4096) ⊎ (4096 ≤ place) → get_or (replicate {A = ℕ} 4096 0) place 0 ≡ 0
    by (inl less) = get_or-replicate 4096 place 0 0 less
    by (inr from) = get_or_past (replicate {A = ℕ} 4096 0) place 0 (omega (arith, from, length-replicate {A = ℕ} 4096 0))

absent : (o : Option Piece) → is_some o ≡ false → o ≡ None
absent None is = refl
absent (Some piece) is = absurd cc

module _ (old new : BTreeMap ℕ Piece) (index : ℕ) (zeros : Piece) (updates : UpdatesBy nat_cmp (nat_cmp index) old new (Some zeros)) (none : is_some (get nat_cmp old index) ≡ false)
    (are : zeros.items ≡ replicate 4096 0) where
  pub held_same : (place : ℕ) → byte_of new place ≡ byte_of old place
  held_same place = by (same_or (place / 4096) index)
    where
      by : (place / 4096 ≡ index) ⊎ (place / 4096 ≢ index) → byte_of new place ≡ byte_of old place
      by (inl same) =
          ap (λ (o : Option Piece). byte_in o (place % 4096)) (at_index old new index (Some zeros) updates (place / 4096) same)
          ∙ ap (λ (l : List ℕ). get_or l (place % 4096) 0) are
          ∙ zeros_in (place % 4096)
          ∙ sym (ap (λ (o : Option Piece). byte_in o (place % 4096)) (ap (λ (n : ℕ). get nat_cmp old n) same ∙ absent (get nat_cmp old index) none))
      by (inr apart) = ap (λ (o : Option Piece). byte_in o (place % 4096)) (at_other old new index (Some zeros) updates (place / 4096) apart)

  pub held_keeps : (other : ℕ) → IsSome (get nat_cmp old other) → IsSome (get nat_cmp new other)
  held_keeps other held = by (same_or other index)
    where
      by : (other ≡ index) ⊎ (other ≢ index) → IsSome (get nat_cmp new other)
      by (inl same) = subst IsSome (sym (at_index old new index (Some zeros) updates other same)) refl
      by (inr apart) = subst IsSome (sym (at_other old new index (Some zeros) updates other apart)) held

  pub held_whole : Whole old → Whole new
  held_whole whole other = by (same_or other index)
    where
      by : (other ≡ index) ⊎ (other ≢ index) → Long (get nat_cmp new other)
      by (inl same) = subst Long (sym (at_index old new index (Some zeros) updates other same)) (ap length are ∙ length-replicate {A = ℕ} 4096 0)
      by (inr apart) = subst Long (sym (at_other old new index (Some zeros) updates other apart)) (whole other)

module _ (old new : BTreeMap ℕ Piece) (index inner : ℕ) (part : List ℕ) (was piece : Piece) (updates : UpdatesBy nat_cmp (nat_cmp index) old new (Some piece)) (there : get nat_cmp old index ≡ Some was)
    (long : length was.items ≡ 4096) (fits : inner + length part ≤ 4096) (is : piece.items ≡ spliced inner part was.items) where
  within : inner + length part ≤ length was.items
  within = omega (arith, long, fits)

  now_at : (place : ℕ) → place / 4096 ≡ index → byte_of new place ≡ get_or (spliced inner part was.items) (place % 4096) 0
  now_at place same =
      ap (λ (o : Option Piece). byte_in o (place % 4096)) (at_index old new index (Some piece) updates (place / 4096) same) ∙ ap (λ (l : List ℕ). get_or l (place % 4096) 0) is

  was_at : (place : ℕ) → place / 4096 ≡ index → byte_of old place ≡ get_or was.items (place % 4096) 0
  was_at place same = ap (λ (o : Option Piece). byte_in o (place % 4096)) (ap (λ (n : ℕ). get nat_cmp old n) same ∙ there)

  stays : (place : ℕ) → place / 4096 ≢ index → byte_of new place ≡ byte_of old place
  stays place apart = ap (λ (o : Option Piece). byte_in o (place % 4096)) (at_other old new index (Some piece) updates (place / 4096) apart)

  pub part_put : IsPut (byte_of old) (byte_of new) (4096 * index + inner) part
  part_put = record {
    before = λ place less. before place less (same_or (place / 4096) index);
    here = λ place from less.
        let same : place / 4096 ≡ index = omega (arith, from, less, fits) in
        now_at place same
        ∙ spliced_here inner part was.items within (place % 4096) (omega (arith, from, same)) (omega (arith, less, same))
        ∙ ap (λ (n : ℕ). get_or part n 0) (omega (arith, from, same));
    behind = λ place from. behind place from (same_or (place / 4096) index);
  }
    where
      before : (place : ℕ) → place < 4096 * index + inner → (place / 4096 ≡ index) ⊎ (place / 4096 ≢ index) → byte_of new place ≡ byte_of old place
      before place less (inl same) = now_at place same ∙ spliced_before inner part was.items within (place % 4096) (omega (arith, less, same)) ∙ sym (was_at place same)
      before place less (inr apart) = stays place apart

      behind : (place : ℕ) → 4096 * index + inner + length part ≤ place → (place / 4096 ≡ index) ⊎ (place / 4096 ≢ index) → byte_of new place ≡ byte_of old place
      behind place from (inl same) = now_at place same ∙ spliced_behind inner part was.items within (place % 4096) (omega (arith, from, same)) ∙ sym (was_at place same)
      behind place from (inr apart) = stays place apart

  pub part_keeps : (other : ℕ) → IsSome (get nat_cmp old other) → IsSome (get nat_cmp new other)
  part_keeps other held = by (same_or other index)
    where
      by : (other ≡ index) ⊎ (other ≢ index) → IsSome (get nat_cmp new other)
      by (inl same) = subst IsSome (sym (at_index old new index (Some piece) updates other same)) refl
      by (inr apart) = subst IsSome (sym (at_other old new index (Some piece) updates other apart)) held

  pub part_whole : Whole old → Whole new
  part_whole whole other = by (same_or other index)
    where
      by : (other ≡ index) ⊎ (other ≢ index) → Long (get nat_cmp new other)
      by (inl same) = subst Long (sym (at_index old new index (Some piece) updates other same)) (ap length is ∙ spliced_long inner part was.items within ∙ long)
      by (inr apart) = subst Long (sym (at_other old new index (Some piece) updates other apart)) (whole other)

-- ---- parts of pieces

module _ (map : BTreeMap ℕ Piece) (index inner len : ℕ) (fits : inner + len ≤ 4096) where
  at_piece : (i : ℕ) → i < len → (4096 * index + inner + i) / 4096 ≡ index
  at_piece i less = omega (arith, less, fits)

  in_piece : (i : ℕ) → i < len → (4096 * index + inner + i) % 4096 ≡ inner + i
  in_piece i less = omega (arith, less, fits)

  pub piece_part : (piece : Piece) → get nat_cmp map index ≡ Some piece → length piece.items ≡ 4096 → take len (drop inner piece.items) ≡ bytes_from (byte_of map) (4096 * index + inner) len
  piece_part piece there long =
      part_bytes (byte_of map) (4096 * index + inner) len inner piece.items (omega (arith, long, fits))
      (λ i less.
      ap (λ (n : ℕ). get_or piece.items n 0) (sym (in_piece i less))
      ∙ sym (ap (λ (o : Option Piece). byte_in o ((4096 * index + inner + i) % 4096)) (ap (λ (n : ℕ). get nat_cmp map n) (at_piece i less) ∙ there)))

  pub zeros_part : get nat_cmp map index ≡ None → take len (replicate 4096 0) ≡ bytes_from (byte_of map) (4096 * index + inner) len
  zeros_part none =
      part_bytes (byte_of map) (4096 * index + inner) len 0 (replicate 4096 0) (omega (arith, length-replicate {A = ℕ} 4096 0, fits))
      (λ i less.
      zeros_in (0 + i)
      ∙ sym (ap (λ (o : Option Piece). byte_in o ((4096 * index + inner + i) % 4096)) (ap (λ (n : ℕ). get nat_cmp map n) (at_piece i less) ∙ none)))

-- ---- cuts

module _ (old taken new : BTreeMap ℕ Piece) (size : ℕ) (below : (index : ℕ) → index < size / 4096 + 1 → get nat_cmp taken index ≡ get nat_cmp old index)
    (none : (index : ℕ) → size / 4096 + 1 ≤ index → get nat_cmp taken index ≡ None) where
  pub taken_whole : Whole old → Whole taken
  taken_whole whole index = by (side index (size / 4096 + 1))
    where
      by : (index < size / 4096 + 1) ⊎ (size / 4096 + 1 ≤ index) → Long (get nat_cmp taken index)
      by (inl less) = subst Long (sym (below index less)) (whole index)
      by (inr from) = subst Long (sym (none index from)) tt

  pub is_cut : ((place : ℕ) → place < 4096 * (size / 4096) + size % 4096 → byte_of new place ≡ byte_of taken place)
      → ((place : ℕ) → 4096 * (size / 4096) + size % 4096 ≤ place → place < 4096 * (size / 4096) + 4096 → byte_of new place ≡ 0)
      → ((place : ℕ) → 4096 * (size / 4096) + 4096 ≤ place → byte_of new place ≡ byte_of taken place) → IsCleared (byte_of old) (byte_of new) size
  is_cut before here behind = record {
    before = λ place less.
        before place (omega (arith, less)) ∙ ap (λ (o : Option Piece). byte_in o (place % 4096)) (below (place / 4096) (omega (arith, less)));
    behind = λ place from. by place from (side place (4096 * (size / 4096) + 4096));
  }
    where
      by : (place : ℕ) → size ≤ place → (place < 4096 * (size / 4096) + 4096) ⊎ (4096 * (size / 4096) + 4096 ≤ place) → byte_of new place ≡ 0
      by place from (inl near) = here place (omega (arith, from)) near
      by place from (inr far) = behind place far ∙ ap (λ (o : Option Piece). byte_in o (place % 4096)) (none (place / 4096) (omega (arith, far)))

pub cleared_part : (len inner i : ℕ) → get_or (take len (drop inner (replicate {A = ℕ} 4096 0))) i 0 ≡ 0
cleared_part len inner i = by (side i len)
  where
    by : (i < len) ⊎ (len ≤ i) → get_or (take len (drop inner (replicate {A = ℕ} 4096 0))) i 0 ≡ 0
    by (inl less) = get_or-take len (drop inner (replicate {A = ℕ} 4096 0)) i 0 less ∙ get_or-drop inner (replicate {A = ℕ} 4096 0) i 0 ∙ zeros_in (inner + i)
    by (inr from) =
        let long : length (take len (drop inner (replicate {A = ℕ} 4096 0))) ≤ i = (let e = length-take len (drop inner (replicate {A = ℕ} 4096 0)) in omega (arith, e, from)) in
        get_or_past (take len (drop inner (replicate {A = ℕ} 4096 0))) i 0 long

pub cleared_long : (inner : ℕ) → length (take (4096 - inner) (drop inner (replicate {A = ℕ} 4096 0))) ≡ 4096 - inner
cleared_long inner =
    let e = length-take (4096 - inner) (drop inner (replicate {A = ℕ} 4096 0)) in
    let d = length-drop inner (replicate {A = ℕ} 4096 0) in omega (arith, e, d, length-replicate {A = ℕ} 4096 0)
