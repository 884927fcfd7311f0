-- What a call reads of a truth with a draft over it.
use Rattle.std.proofs.Common.{◌≡◌, ℕ, Bool, true, false, List, Option, Some, None, refl, sym, ap, ◌∙◌, arith}
use Rattle.std.specs.Prelude.{◌&&◌, ◌==◌, if◌then◌else◌}
use Rattle.std.specs.Option.{option_or, unwrap_or}
use Rattle.std.proofs.lemmas.Bool.{eq-eqb, lt-ltb}
use Rattle.std.proofs.lemmas.Bool.Decides.{nat_tests}
use Rattle.bx_truth.specs.bx_layout.specs.declared.block.Block.{Block}
use Rattle.bx_truth.specs.bx_layout.specs.Areas.{in_use, generation_in}
use Rattle.bx_places.specs.Places.{block_area, block_slot}
use Rattle.bx_truth.specs.bx_records.specs.Drafts.{Changed, block_in}
use Rattle.bx_truth.specs.bx_views.specs.Truths.{Truth, Held, Hints, IsTruth, with_draft}
use Rattle.bx_truth.specs.Chunks.{block_at, handle_of, IsSlot, is_slot, word_at, chunks_of, IsChunked, IsName}
use Rattle.bx_blink.specs.Walks.{reads_with}
use Rattle.bx_blink.specs.Hints.{Sees}

-- what a chunk is
pub record IsChunk (areas : ℕ) (truth : Truth) (handle : ℕ) (block : Block) : Type 0 where
  pub slot : IsSlot areas (block_at handle)
  pub used : in_use (word_at truth (block_at handle)) ≡ true
  pub is_handle : handle ≡ handle_of (block_at handle) (generation_in (word_at truth (block_at handle)))
  pub is_block : truth (block_at handle) ≡ block

tests : (t u e : Bool) (b c : Block) → (if (t && (u && e)) then Some b else None) ≡ Some c → (t ≡ true) × (u ≡ true) × (e ≡ true) × (b ≡ c)
tests true true true b c is = (refl, refl, refl, cc)
tests true true false b c is = absurd cc
tests true false e b c is = absurd cc
tests false u e b c is = absurd cc

pub slot_tested : (areas block : ℕ) → is_slot areas block ≡ true → IsSlot areas block
slot_tested areas block is = record { area = grind (arith, nat_tests, is); slot = grind (arith, nat_tests, is) }

pub slot_passes : (areas block : ℕ) → IsSlot areas block → is_slot areas block ≡ true
slot_passes areas block is = rw (lt-ltb (block_area block) areas is.area, lt-ltb (block_slot block) 960 is.slot) refl

pub chunk_is : (areas : ℕ) (truth : Truth) (handle : ℕ) (block : Block) → chunks_of areas truth handle ≡ Some block → IsChunk areas truth handle block
chunk_is areas truth handle block is =
    let t = tests (is_slot areas (block_at handle)) (in_use (word_at truth (block_at handle))) (handle == handle_of (block_at handle) (generation_in (word_at truth (block_at handle)))) (truth (block_at handle)) block is in
    record {
      slot = slot_tested areas (block_at handle) t.0;
      used = t.1;
      is_handle = equal handle (handle_of (block_at handle) (generation_in (word_at truth (block_at handle)))) t.2;
      is_block = t.3;
    }
  where
    equal : (a b : ℕ) → (a == b) ≡ true → a ≡ b
    equal a b is = grind (arith, nat_tests, is)

pub chunk_from : (areas : ℕ) (truth : Truth) (handle : ℕ) (block : Block) → IsChunk areas truth handle block → chunks_of areas truth handle ≡ Some block
chunk_from areas truth handle block c = rw (slot_passes areas (block_at handle) c.slot, c.used, eq-eqb handle (handle_of (block_at handle) (generation_in (word_at truth (block_at handle)))) c.is_handle) (ap Some c.is_block)

-- What is held is the truth's, and the truth with the draft has the rules of chunks.
pub record Holds (areas : ℕ) (held : Held) (truth : Truth) (draft : List Changed) : Type 0 where
  pub same : IsTruth held truth
  pub chunked : IsChunked areas (with_draft truth draft)

pub read_is : (o held : Option Block) (there block : Block) → (held ≡ Some block → there ≡ block) → option_or o held ≡ Some block → unwrap_or o there ≡ block
read_is None held there block h e = h e
read_is (Some changed) held there block h e = cc

pub sees : (areas : ℕ) (held : Held) (hint : Hints) (truth : Truth) (draft : List Changed) → Holds areas held truth draft
    → Sees areas (reads_with held hint draft) (chunks_of areas (with_draft truth draft))
sees areas held hint truth draft h = record {
  same = λ handle mode block chunk e is.
      sym (read_is (block_in draft (block_at handle)) (held (block_at handle) mode) (truth (block_at handle)) block ((h.same).each (block_at handle) mode block) e)
      ∙ (chunk_is areas (with_draft truth draft) handle chunk is).is_block;
  header = λ handle chunk is.
      let c = chunk_is areas (with_draft truth draft) handle chunk is in
      ap (λ (b : Block). b.handle) (sym c.is_block) ∙ (h.chunked).used (block_at handle) c.slot c.used ∙ sym c.is_handle;
  slot = λ handle chunk is. (chunk_is areas (with_draft truth draft) handle chunk is).slot;
  named = λ handle mode block name e header.
      let there = read_is (block_in draft (block_at handle)) (held (block_at handle) mode) (truth (block_at handle)) block ((h.same).each (block_at handle) mode block) e in
      by_use handle block name there header (in_use (word_at (with_draft truth draft) (block_at handle))) refl;
}
  where
    by_use : (handle : ℕ) (block : Block) → IsName areas handle → with_draft truth draft (block_at handle) ≡ block → block.handle ≡ handle → (b : Bool) → in_use (word_at (with_draft truth draft) (block_at handle)) ≡ b
        → chunks_of areas (with_draft truth draft) handle ≡ Some block
    by_use handle block name there header true used =
        chunk_from areas (with_draft truth draft) handle block
        (record { slot = name.slot; used = used; is_handle = sym header ∙ ap (λ (b : Block). b.handle) (sym there) ∙ (h.chunked).used (block_at handle) name.slot used; is_block = there })
    by_use handle block name there header false used =
        absurd (name.some (sym header ∙ ap (λ (b : Block). b.handle) (sym there) ∙ (h.chunked).unused (block_at handle) name.slot used))
