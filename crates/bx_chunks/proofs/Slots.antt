-- What a slot put into a draft makes of a truth.
use Rattle.std.proofs.Common.{◌≡◌, ℕ, ◌^◌, ◌<◌, ◌⊎◌, inl, inr, arith, List, Some, refl, sym, ap, subst, ◌∙◌}
use Rattle.std.specs.Prelude.{◌≢◌, slice_index, slice_set, unwrap_or}
use Rattle.std.proofs.lemmas.Bool.{cases_eq}
use Rattle.std.proofs.lemmas.List.{get_or-set_same, get_or-set_other, length-set}
use Rattle.bx_base.specs.declared.names.Mode.{Mode}
use Rattle.bx_layout.specs.declared.area.AreaBlock.{AreaBlock}
use Rattle.bx_layout.specs.declared.block.Block.{Block}
use Rattle.bx_layout.specs.Areas.{IsArea, SpellsArea, with_word}
use Rattle.bx_places.specs.Places.{block_area, block_slot}
use Rattle.bx_records.specs.Drafts.{Changed, block_in, with_block}
use Rattle.bx_truth.specs.Chunks.{IsAreaBlock, IsSlot, own_block}
use Rattle.bx_truth.specs.Slots.{SetsWord}
use Rattle.bx_truth.specs.bx_views.specs.Truths.{Held, IsTruth, Truth, with_draft}
use Rattle.bx_chunks.specs.Areas.{seen_in}
use Rattle.bx_chunks.specs.Putting.{empty_of, own_of, slot_put}
use Rattle.bx_chunks.proofs.Drafts.{draft_here, draft_elsewhere}
use Rattle.bx_chunks.proofs.Options.{some_there}

-- what is seen is what the truth with the draft has
pub seen_true : (held : Held) (truth : Truth) (draft : List Changed) (at : ℕ) (mode : Mode) (block : Block) → IsTruth held truth → seen_in held draft at mode ≡ Some block → with_draft truth draft at ≡ block
seen_true held truth draft at mode block same seen =
    let h = some_there (unwrap_or (block_in draft at)) (held at mode) block seen in
    ap (λ (b : Block). unwrap_or (block_in draft at) b) (same.each at mode h.0 h.1) ∙ h.2

pub word_area : (slots : AreaBlock) (slot word : ℕ) → IsArea slots → slot < 960 → word < 2 ^ 32 → IsArea (with_word slots slot word)
word_area slots slot word is less fits = record {
  words = length-set slots.words slot word ∙ is.words;
  fits = λ other. by other (cases_eq other slot);
  dead = is.dead;
}
  where
    by : (other : ℕ) → ((other ≡ slot) ⊎ (other ≡ slot → ⊥)) → slice_index (slice_set slots.words slot word) other < 2 ^ 32
    by other (inl same) = subst (λ (n : ℕ). slice_index (slice_set slots.words slot word) n < 2 ^ 32) (sym same)
        (subst (λ (w : ℕ). w < 2 ^ 32) (sym (get_or-set_same slots.words slot word 0 (let l = is.words in omega (arith, less, l)))) fits)
    by other (inr apart) = subst (λ (w : ℕ). w < 2 ^ 32) (sym (get_or-set_other slots.words slot other word 0 apart)) (is.fits other)

module _ (areas : ℕ) (truth : Truth) (old new : List Changed) (block : ℕ) (slots : AreaBlock) (word handle kind : ℕ) (is_block : IsSlot areas block)
    (spells : SpellsArea slots (with_draft truth old (own_block (block_area block))).payload) (fits : word < 2 ^ 32)
    (now : new ≡ slot_put old (block_area block) (with_word slots (block_slot block) word) block handle kind) where
  abbrev own : ℕ
  own = own_block (block_area block)

  abbrev half : List Changed
  half = with_block old own (own_of (block_area block) (with_word slots (block_slot block) word))

  pub not_own : block ≢ own
  not_own same = let slot = is_block.slot in omega (arith, slot, same)

  pub here : with_draft truth new block ≡ empty_of handle kind
  here = ap (λ (d : List Changed). with_draft truth d block) now ∙ draft_here truth half block (empty_of handle kind)

  own_now : with_draft truth new own ≡ own_of (block_area block) (with_word slots (block_slot block) word)
  own_now =
      ap (λ (d : List Changed). with_draft truth d own) now
      ∙ draft_elsewhere truth half block own (empty_of handle kind) (λ e. not_own (sym e))
      ∙ draft_here truth old own (own_of (block_area block) (with_word slots (block_slot block) word))

  area : IsArea (with_word slots (block_slot block) word)
  area = word_area slots (block_slot block) word spells.is is_block.slot fits

  pub sets : SetsWord (with_draft truth old) (with_draft truth new) block slots word
  sets = record {
    spells = spells;
    own = subst (IsAreaBlock (block_area block)) (sym own_now) (record { handle = refl; kind = refl; slots = with_word slots (block_slot block) word; spells = record { is = area; parts = refl } });
    spells_now = subst (λ (b : Block). SpellsArea (with_word slots (block_slot block) word) b.payload) (sym own_now) (record { is = area; parts = refl });
    others = λ at not_area not_it.
        ap (λ (d : List Changed). with_draft truth d at) now
        ∙ draft_elsewhere truth half block at (empty_of handle kind) not_it
        ∙ draft_elsewhere truth old own at (own_of (block_area block) (with_word slots (block_slot block) word)) not_area;
  }
