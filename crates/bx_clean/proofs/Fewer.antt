-- Where a slot is freed and none is taken, fewer slots are in use.
use Rattle.std.proofs.Common.{◌≡◌, ℕ, zero, suc, ◌+◌, ◌*◌, ◌^◌, ◌<◌, ◌≤◌, arith, Bool, true, false, Option, Some, None, refl, sym, ap, subst, ◌∙◌, inl, inr}
use Rattle.std.specs.Prelude.{◌≢◌, ◌⊎◌, ◌&&◌, if◌then◌else◌}
use Rattle.bx_layout.specs.declared.block.Block.{Block}
use Rattle.bx_layout.specs.Areas.{generation_in, in_use}
use Rattle.bx_truth.specs.Chunks.{IsSlot, block_at, chunks_of, handle_of, is_slot, word_at}
use Rattle.bx_truth.proofs.Cases.{same_or}
use Rattle.bx_truth.proofs.Put.{some_there}
use Rattle.bx_truth.proofs.Same.{chunk_is, slot_tested}
use Rattle.bx_truth.proofs.SlotWords.{block_back, is_slot_true}
use Rattle.bx_views.specs.Truths.{Truth}
use Rattle.bx_blink.proofs.Sees.{chunk_from}
use Rattle.bx_clean.specs.Falling.{FreesOne, StripsOne}
use Rattle.bx_clean.specs.Used.{CleansInSteps, frees, is_in_use, none, strips, used_below, used_slots}

none_some : (block : Block) → ◌≡◌ {A = Option Block} None (Some block) → ⊥
none_some block e = absurd cc

small : (word : ℕ) → generation_in word < 2 ^ 32
small word = omega arith

both : (a b : Bool) → (a && b) ≡ true → (a ≡ true) × (b ≡ true)
both true true e = (refl, refl)
both true false e = absurd cc
both false b e = absurd cc

abbrev one_of : Bool → ℕ
one_of t = if t then 1 else 0

less_or : (s t : Bool) → (s ≡ true → t ≡ true) → one_of s ≤ one_of t
less_or true true h = omega arith
less_or true false h = let e = h refl in absurd cc
less_or false true h = omega arith
less_or false false h = omega arith

module _ (areas : ℕ) (truth now : Truth) (few : areas ≤ 64) (none_new : (handle : ℕ) (block : Block) → chunks_of areas now handle ≡ Some block → chunks_of areas truth handle ≢ None) where
  -- a slot in use is that of a chunk
  chunk_of_slot : (t : Truth) (b : ℕ) → is_in_use areas t b ≡ true → (block : Block) × (chunks_of areas t (handle_of b (generation_in (word_at t b))) ≡ Some block)
  chunk_of_slot t b used =
      let parts = both (is_slot areas b) (in_use (word_at t b)) used in
      let slot = slot_tested areas b parts.0 in
      let at : block_at (handle_of b (generation_in (word_at t b))) ≡ b = block_back areas b (generation_in (word_at t b)) few slot (small (word_at t b)) in (
        t b,
        chunk_from areas t (handle_of b (generation_in (word_at t b))) (t b) (record {
          slot = subst (IsSlot areas) (sym at) slot;
          used = ap (λ (n : ℕ). in_use (word_at t n)) at ∙ parts.1;
          is_handle = ap (λ (n : ℕ). handle_of n (generation_in (word_at t n))) (sym at);
          is_block = ap t at;
        }),
      )

  -- and the other way round
  slot_of_chunk : (t : Truth) (h : ℕ) (block : Block) → chunks_of areas t h ≡ Some block → is_in_use areas t (block_at h) ≡ true
  slot_of_chunk t h block some = let c = chunk_is areas t h block some in rw (is_slot_true areas (block_at h) c.slot, c.used) refl

  still : (b : ℕ) → is_in_use areas now b ≡ true → is_in_use areas truth b ≡ true
  still b used =
      let c = chunk_of_slot now b used in
      let w = some_there (chunks_of areas truth (handle_of b (generation_in (word_at now b)))) (none_new (handle_of b (generation_in (word_at now b))) c.0 c.1) in
      let parts = both (is_slot areas b) (in_use (word_at now b)) used in
      let at : block_at (handle_of b (generation_in (word_at now b))) ≡ b = block_back areas b (generation_in (word_at now b)) few (slot_tested areas b parts.0) (small (word_at now b)) in
      subst (λ (n : ℕ). is_in_use areas truth n ≡ true) at (slot_of_chunk truth (handle_of b (generation_in (word_at now b))) w.0 w.1)

  no_more : (n : ℕ) → used_below areas now n ≤ used_below areas truth n
  unfolding used_below
  no_more zero = omega arith
  no_more (suc n) = let rest = no_more n in let here = less_or (is_in_use areas now n) (is_in_use areas truth n) (still n) in omega (arith, rest, here)

module _ (areas : ℕ) (truth now : Truth) (few : areas ≤ 64) (f : FreesOne areas truth now) where
  was : (block : Block) × (chunks_of areas truth f.gone ≡ Some block)
  was = some_there (chunks_of areas truth f.gone) f.was

  used_before : is_in_use areas truth (block_at f.gone) ≡ true
  used_before = slot_of_chunk areas truth now few f.none_new truth f.gone was.0 was.1

  unused_now : is_in_use areas now (block_at f.gone) ≡ false
  unused_now = by (is_in_use areas now (block_at f.gone)) refl
    where
      by : (t : Bool) → is_in_use areas now (block_at f.gone) ≡ t → is_in_use areas now (block_at f.gone) ≡ false
      by false e = e
      by true e =
          let c = chunk_of_slot areas truth now few f.none_new now (block_at f.gone) e in
          let slot = (chunk_is areas truth f.gone was.0 was.1).slot in
          let at : block_at (handle_of (block_at f.gone) (generation_in (word_at now (block_at f.gone)))) ≡ block_at f.gone = block_back areas (block_at f.gone) (generation_in (word_at now (block_at f.gone))) few slot (small (word_at now (block_at f.gone))) in
          let w = some_there (chunks_of areas truth (handle_of (block_at f.gone) (generation_in (word_at now (block_at f.gone))))) (f.none_new (handle_of (block_at f.gone) (generation_in (word_at now (block_at f.gone)))) c.0 c.1) in
          let same : handle_of (block_at f.gone) (generation_in (word_at now (block_at f.gone))) ≡ f.gone =
          (chunk_is areas truth (handle_of (block_at f.gone) (generation_in (word_at now (block_at f.gone)))) w.0 w.1).is_handle
          ∙ ap (λ (n : ℕ). handle_of n (generation_in (word_at truth n))) at
          ∙ sym (chunk_is areas truth f.gone was.0 was.1).is_handle in
          absurd (none_some c.0 (sym f.none ∙ ap (chunks_of areas now) (sym same) ∙ c.1))

  fewer : (n : ℕ) → block_at f.gone < n → used_below areas now n < used_below areas truth n
  unfolding used_below
  fewer zero less = absurd (omega (arith, less))
  fewer (suc n) less = by (same_or (block_at f.gone) n) (λ l. fewer n l)
    where
      by : (block_at f.gone ≡ n) ⊎ (block_at f.gone ≢ n) → (block_at f.gone < n → used_below areas now n < used_below areas truth n) → used_below areas now (suc n) < used_below areas truth (suc n)
      by (inl e) lower =
          let rest = no_more areas truth now few f.none_new n in
          let a : one_of (is_in_use areas now n) ≡ 0 = ap one_of (subst (λ (b : ℕ). is_in_use areas now b ≡ false) e unused_now) in
          let b : one_of (is_in_use areas truth n) ≡ 1 = ap one_of (subst (λ (b : ℕ). is_in_use areas truth b ≡ true) e used_before) in
          omega (arith, rest, a, b)
      by (inr other) lower =
          let rest = lower (omega (arith, less, other)) in
          let here = less_or (is_in_use areas now n) (is_in_use areas truth n) (still areas truth now few f.none_new n) in
          omega (arith, rest, here)

  pub fewer_used : used_slots areas now < used_slots areas truth
  fewer_used = let s = (chunk_is areas truth f.gone was.0 was.1).slot.area in fewer (1024 * areas) (omega (arith, s))

pub no_more_used : (areas : ℕ) (truth now : Truth) → areas ≤ 64 → StripsOne areas truth now → used_slots areas now ≤ used_slots areas truth
no_more_used areas truth now few s = no_more areas truth now few (λ h b some. by h b some (same_or h s.handle)) (1024 * areas)
  where
    by : (h : ℕ) (b : Block) → chunks_of areas now h ≡ Some b → (h ≡ s.handle) ⊎ (h ≢ s.handle) → chunks_of areas truth h ≢ None
    by h b some (inl e) gone = none_some s.was.block (sym gone ∙ ap (chunks_of areas truth) e ∙ s.was.chunk)
    by h b some (inr other) gone = none_some b (sym gone ∙ sym (s.others h other) ∙ some)

pub all_fall : (areas steps : ℕ) (truth last : Truth) → areas ≤ 64 → CleansInSteps areas steps truth last → steps + used_slots areas last ≤ used_slots areas truth
all_fall areas steps truth last few (none start) = omega arith
all_fall areas steps truth last few (frees before start next end f more) = let rest = all_fall areas before next last few more in let less = fewer_used areas truth next few f in omega (arith, rest, less)
all_fall areas steps truth last few (strips before start next end s more) = let rest = all_fall areas steps next last few more in let less = no_more_used areas truth next few s in omega (arith, rest, less)
