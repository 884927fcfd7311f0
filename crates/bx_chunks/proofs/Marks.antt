-- Marks of dead inodes, under a truth.
use Rattle.std.proofs.Common.{◌≡◌, ℕ, ◌^◌, ◌<◌, ◌≤◌, ◌⊎◌, inl, inr, arith, Bool, List, get_or, length, Result, Ok, Err, refl, sym, ap, subst, ◌∙◌}
use Rattle.bx_base.specs.declared.names.Mode.TheVariants.{Exclusive}
use Rattle.bx_layout.specs.declared.block.Block.{Block}
use Rattle.bx_layout.specs.Areas.{IsArea, MarksDead, SpellsArea}
use Rattle.bx_places.specs.Places.{block_area}
use Rattle.bx_records.specs.Drafts.{Changed}
use Rattle.bx_truth.specs.Chunks.{IsAreaBlock, IsChunked, block_at, own_block}
use Rattle.bx_truth.specs.Slots.{SetsMark}
use Rattle.bx_truth.proofs.Marking.{chunk_marked, marks_set}
use Rattle.bx_truth.proofs.Same.{IsChunk}
use Rattle.bx_truth.specs.bx_views.specs.Truths.{Held, IsTruth, Truth, with_draft}
use Rattle.bx_chunks.specs.Freeing.{IsNotGiven, own_at}
use Rattle.bx_chunks.specs.Marking.{Marked, Marks, MarksAs, MarksAt, MarksIn, area_put}
use Rattle.bx_chunks.specs.Putting.{PutsAs, own_of}
use Rattle.bx_chunks.specs.declared.error.ChunkError.{ChunkError}
use Rattle.bx_chunks.specs.declared.error.ChunkError.TheVariants.{Need, Stale, Full, OutOfMemory, Crowded}
use Rattle.bx_chunks.proofs.Chunked.{area_of, slot_of, block_area_is, block_slot_is, chunk_slot, no_chunk, slot_there}
use Rattle.bx_chunks.proofs.Drafts.{draft_here, draft_elsewhere}
use Rattle.bx_chunks.proofs.Given.{is_given}
use Rattle.bx_chunks.proofs.Slots.{seen_true}

-- ---- on any content

pub marks_at : (held : Held) (old new : List Changed) (handle : ℕ) (dead : Bool) → (m : Marked held old handle dead) → (r : Result (Unit {0}) ChunkError)
    → PutsAs new (area_put old handle m.slots_now) r → MarksAt held old new handle dead r
marks_at held old new handle dead m (Ok done) puts = record { marked = m; now = puts }
marks_at held old new handle dead m (Err Crowded) puts = record { marked = m; no_room = puts }
marks_at held old new handle dead m (Err OutOfMemory) puts = tt
marks_at held old new handle dead m (Err (Need at mode)) puts = absurd puts
marks_at held old new handle dead m (Err Stale) puts = absurd puts
marks_at held old new handle dead m (Err (Full spare)) puts = absurd puts

-- ---- under a truth

module _ (areas : ℕ) (held : Held) (truth : Truth) (old : List Changed) (handle : ℕ) (within : area_of handle < areas) (same : IsTruth held truth) (is : IsChunked areas (with_draft truth old)) where
  abbrev block : ℕ
  block = block_at handle

  abbrev before : Truth
  before = with_draft truth old

  module _ (dead : Bool) (new : List Changed) (m : MarksAs held old new handle dead) where
    abbrev after : Truth
    after = with_draft truth new

    abbrev own : ℕ
    own = own_at handle

    less : slot_of handle < 960
    less = m.marked.slot

    area_now : IsArea m.marked.slots_now
    area_now = record {
      words = ap (λ (l : List ℕ). length l) m.marked.marks.words ∙ m.marked.given.has.spells.is.words;
      fits = λ slot. subst (λ (l : List ℕ). get_or l slot 0 < 2 ^ 32) (sym m.marked.marks.words) (m.marked.given.has.spells.is.fits slot);
      dead = m.marked.marks.len ∙ m.marked.given.has.spells.is.dead;
    }

    own_now : after own ≡ own_of (area_of handle) m.marked.slots_now
    own_now = ap (λ (d : List Changed). with_draft truth d own) m.now ∙ draft_here truth old own (own_of (area_of handle) m.marked.slots_now)

    own_same : own_block (block_area block) ≡ own
    own_same = ap own_block (block_area_is handle less)

    sets : SetsMark before after block m.marked.slots m.marked.slots_now dead
    sets = record {
      spells = subst (λ (b : Block). SpellsArea m.marked.slots b.payload) (sym (ap before own_same ∙ seen_true held truth old own Exclusive m.marked.given.own same m.marked.given.there)) m.marked.given.has.spells;
      own = subst (λ (a : ℕ). IsAreaBlock a (after (own_block a))) (sym (block_area_is handle less))
          (subst (IsAreaBlock (area_of handle)) (sym own_now) (record { handle = refl; kind = refl; slots = m.marked.slots_now; spells = record { is = area_now; parts = refl } }));
      spells_now = subst (λ (b : Block). SpellsArea m.marked.slots_now b.payload) (sym (ap after own_same ∙ own_now)) (record { is = area_now; parts = refl });
      marks = subst (λ (n : ℕ). MarksDead m.marked.slots m.marked.slots_now n dead) (sym (block_slot_is handle less)) m.marked.marks;
      others = λ at not_area. ap (λ (d : List Changed). with_draft truth d at) m.now ∙ draft_elsewhere truth old own at (own_of (area_of handle) m.marked.slots_now) (λ e. not_area (e ∙ sym own_same));
    }

    pub marks : Marks areas before after handle dead
    marks = record {
      slots = m.marked.slots;
      slots_now = m.marked.slots_now;
      sets = sets;
      marks = marks_set areas before after block m.marked.slots m.marked.slots_now dead sets handle (slot_there areas handle within less) refl is;
      chunks = chunk_marked areas before after block m.marked.slots m.marked.slots_now dead sets;
    }

  not_marked : ((960 ≤ slot_of handle) ⊎ ((slot_of handle < 960) × IsNotGiven held old handle)) → (b : Block) → IsChunk areas before handle b → ⊥
  not_marked (inl many) b c = let less = chunk_slot areas before handle b c in absurd (omega (arith, many, less))
  not_marked (inr without) b c = is_given areas held truth old handle within same is b c without.1

  pub marks_in : (dead : Bool) (new : List Changed) (r : Result (Unit {0}) ChunkError) → MarksAt held old new handle dead r → MarksIn areas truth old new handle dead r
  marks_in dead new (Ok done) m = marks dead new m
  marks_in dead new (Err Stale) m = no_chunk areas before handle (not_marked m)
  marks_in dead new (Err (Need at mode)) m = tt
  marks_in dead new (Err Crowded) m = tt
  marks_in dead new (Err OutOfMemory) m = tt
  marks_in dead new (Err (Full spare)) m = m
