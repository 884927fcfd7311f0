-- The words and the bits of an area, read off its payload.
use Rattle.std.proofs.Common.{◌≡◌, ℕ, zero, suc, ◌+◌, ◌-◌, ◌*◌, ◌/◌, ◌%◌, ◌<◌, arith, List, [], ◌∷◌, ◌++◌, length, take, drop, get_or, ap, ◌∙◌, refl}
use Rattle.std.specs.Prelude.{replicate}
use Rattle.std.specs.Int.{w32, to_be_bytes, from_be_bytes}
use Rattle.std.proofs.lemmas.List.{get_or-append_right, get_or_append_left, append_assoc}
use Rattle.std.proofs.lemmas.Nat.{from_be_bytes-to_be_bytes_4}
use Rattle.bx_page.specs.bx_base.specs.Bytes.{words}
use Rattle.bx_views.specs.bx_layout.specs.declared.area.AreaBlock.{AreaBlock}
use Rattle.bx_views.specs.bx_layout.specs.Areas.{SpellsArea, area_text, bit, is_dead}
use Rattle.bx_views.specs.bx_layout.proofs.Lengths.{length-words}
use Rattle.bx_truth.specs.Chunks.{word_in, dead_in}

front_word : (xs rest : List ℕ) (slot : ℕ) → slot < length xs → take 4 (drop (4 * slot) (words xs ++ rest)) ≡ to_be_bytes w32 (get_or xs slot 0)
front_word [] rest slot less = absurd (omega (arith, less))
front_word (x ∷ xs) rest zero less = refl
front_word (x ∷ xs) rest (suc slot) less =
    let four : 4 * suc slot ≡ suc (suc (suc (suc (4 * slot)))) = omega arith in
    ap (λ (n : ℕ). take 4 (drop n (words (x ∷ xs) ++ rest))) four ∙ front_word xs rest slot (omega (arith, less))

pub word_is : (area : AreaBlock) (payload : List ℕ) (slot : ℕ) → SpellsArea area payload → slot < 960 → word_in payload slot ≡ get_or area.words slot 0
unfolding word_in
word_is area payload slot spells less =
    let count = spells.is.words in
    let parts : payload ≡ words area.words ++ (area.dead ++ replicate (4096 - length (area_text area)) 0) = spells.parts ∙ append_assoc (words area.words) area.dead (replicate (4096 - length (area_text area)) 0) in
    let here : take 4 (drop (4 * slot) payload) ≡ to_be_bytes w32 (get_or area.words slot 0) =
    ap (λ (l : List ℕ). take 4 (drop (4 * slot) l)) parts ∙ front_word area.words (area.dead ++ replicate (4096 - length (area_text area)) 0) slot (omega (arith, less, count)) in
    ap (from_be_bytes w32) here ∙ from_be_bytes-to_be_bytes_4 (get_or area.words slot 0) (spells.is.fits slot)

pub dead_is : (area : AreaBlock) (payload : List ℕ) (slot : ℕ) → SpellsArea area payload → slot < 960 → dead_in payload slot ≡ is_dead area slot
unfolding dead_in
dead_is area payload slot spells less = ap (λ (byte : ℕ). bit byte (slot % 8)) here
  where
    here : get_or payload (3840 + slot / 8) 0 ≡ get_or area.dead (slot / 8) 0
    here =
        let long : length (words area.words) ≡ 3840 = length-words area.words ∙ ap (λ (n : ℕ). 4 * n) spells.is.words in
        let zeros : List ℕ = replicate (4096 - length (area_text area)) 0 in
        let parts : payload ≡ words area.words ++ (area.dead ++ zeros) = spells.parts ∙ append_assoc (words area.words) area.dead zeros in
        let few : slot / 8 < length area.dead = omega (arith, less, spells.is.dead) in
        ap (λ (l : List ℕ). get_or l (3840 + slot / 8) 0) parts
        ∙ get_or-append_right (words area.words) (area.dead ++ zeros) 3840 (3840 + slot / 8) 0 long (omega arith)
        ∙ ap (λ (n : ℕ). get_or (area.dead ++ zeros) n 0) (back (slot / 8))
        ∙ get_or_append_left area.dead zeros 0 (slot / 8) few
      where
        back : (n : ℕ) → 3840 + n - 3840 ≡ n
        back n = omega arith
