-- A slot that is freed in a draft of one block, and a page that is put before, by the truth.
use Rattle.std.proofs.Common.{◌≡◌, ℕ, ◌+◌, ◌<◌, ◌≤◌, arith, Bool, true, false, List, [], ◌∷◌, get_or, length, Option, Some, None, Result, Ok, Err, refl, sym, ap, subst, ◌∙◌}
use Rattle.std.specs.Prelude.{◌≢◌, ◌==◌, if◌then◌else◌}
use Rattle.bx_chunks.specs.Freeing.{FreesAt, FreesIn, RemovesChunk}
use Rattle.bx_chunks.specs.Putting.{empty_of, own_of}
use Rattle.bx_chunks.specs.declared.error.ChunkError.{ChunkError}
use Rattle.bx_chunks.specs.declared.error.ChunkError.TheVariants.{Need, Stale, Full, OutOfMemory, Crowded}
use Rattle.bx_chunks.proofs.Removed.{frees_in}
use Rattle.bx_places.specs.Handles.{parts_of}
use Rattle.bx_layout.specs.Areas.{freed_word, with_word}
use Rattle.bx_layout.specs.declared.block.Block.{Block}
use Rattle.bx_leaves.specs.Leaves.{PutsPage}
use Rattle.bx_leaves.proofs.Written.{draft_elsewhere, holds_still, own_not_slot, puts_writes}
use Rattle.bx_page.specs.Contents.{Contents}
use Rattle.bx_records.specs.Drafts.{Changed, with_block}
use Rattle.bx_truth.specs.Chunks.{IsChunked, IsSlot, block_at, chunks_of, own_block}
use Rattle.bx_truth.specs.Edits.{ChunkAnew}
use Rattle.bx_truth.specs.Shown.{KeepsSlots}
use Rattle.bx_truth.proofs.Cases.{eq_false, eq_true}
use Rattle.bx_truth.proofs.Dirs.{keeps_slots}
use Rattle.bx_truth.proofs.Same.{chunk_is}
use Rattle.bx_views.specs.Truths.{Truth, Held, IsTruth, with_draft}
use Rattle.bx_blink.proofs.Sees.{Holds}
use Rattle.bx_clean.specs.Shrinking.{ChunkGone}
use Rattle.bx_clean.proofs.Slots.{removes_keeps, slots_steps}
use Rattle.bx_clean.specs.Puts.{FreesSlotOf, FreesTo, PutsAndFrees, frees, memory, outside, puts}
use Rattle.bx_clean.proofs.Found.{IsWant}

none_some : (block : Block) → ◌≡◌ {A = Option Block} None (Some block) → ⊥
none_some block e = absurd cc

pub one_more : (draft : List Changed) (at : ℕ) (block : Block) → length (with_block draft at block) ≤ length draft + 1
one_more [] at block = omega arith
one_more (x ∷ draft) at block = by (x.0 == at) (one_more draft at block)
  where
    by : (t : Bool) → length (with_block draft at block) ≤ length draft + 1 → length (if t then (at, block) ∷ draft else x ∷ with_block draft at block) ≤ length (x ∷ draft) + 1
    by true rest = omega arith
    by false rest = omega (arith, rest)

pub two_more : (draft : List Changed) (one other : ℕ) (a b : Block) → length (with_block (with_block draft one a) other b) ≤ length draft + 2
two_more draft one other a b = let x = one_more draft one a in let y = one_more (with_block draft one a) other b in omega (arith, x, y)

pub within : (areas handle : ℕ) → IsSlot areas (block_at handle) → (parts_of handle).area < areas
within areas handle slot = let s = slot.area in omega (arith, s)

module _ (areas : ℕ) (held : Held) (truth : Truth) (few : areas ≤ 64) (same : IsTruth held truth) where
  -- what freeing a slot answers
  abbrev pub FreedIn : List Changed → ℕ → Result (List Changed) ChunkError → Type 0
  FreedIn old handle (Ok new) = RemovesChunk areas (with_draft truth old) (with_draft truth new) handle
  FreedIn old handle (Err error) = IsWant error

  pub freed_in : (old : List Changed) (handle : ℕ) (block : Block) → length old ≤ 1 → IsChunked areas (with_draft truth old) → chunks_of areas (with_draft truth old) handle ≡ Some block
      → (result : Result (List Changed) ChunkError) → FreesSlotOf held areas old handle result → FreedIn old handle result
  freed_in old handle block short chunked chunk result (outside other e) = absurd (other (chunk_is areas (with_draft truth old) handle block chunk).slot)
  freed_in old handle block short chunked chunk result (frees slot f) = by result f
    where
      is : (new : List Changed) (r : Result Unit ChunkError) → FreesAt held old new handle r → FreesIn areas truth old new handle r
      is new r at = frees_in areas few held truth old handle (within areas handle slot) same chunked new r at

      by : (r : Result (List Changed) ChunkError) → FreesTo held old handle r → FreedIn old handle r
      by (Ok new) at = is new (Ok tt) at
      by (Err (Need at mode)) f = tt
      by (Err OutOfMemory) f = tt
      by (Err Stale) f = none_some block (sym (is old (Err Stale) f) ∙ chunk)
      by (Err Crowded) f = let n = f.no_room in let m = two_more old (own_block (parts_of handle).area) (block_at handle)
          (own_of (parts_of handle).area (with_word f.slots (parts_of handle).slot (freed_word (get_or f.slots.words (parts_of handle).slot 0)))) (empty_of 0 0) in absurd (omega (arith, n, m, short))
      by (Err (Full spare)) f = f

  -- a block that is put, in a draft of its own
  module _ (handle : ℕ) (mid : List Changed) (before after : Block) (chunked : IsChunked areas truth) (chunk : chunks_of areas truth handle ≡ Some before) (header : after.handle ≡ handle)
      (put : mid ≡ with_block [] (block_at handle) after) where
    holds : Holds areas held truth []
    holds = record { same = same; chunked = chunked }

    pub short : length mid ≤ 1
    short = let m = one_more [] (block_at handle) after in let e = ap length put in omega (arith, m, e)

    pub put_anew : ChunkAnew (chunks_of areas truth) (chunks_of areas (with_draft truth mid)) handle after
    put_anew = subst (λ (d : List Changed). ChunkAnew (chunks_of areas truth) (chunks_of areas (with_draft truth d)) handle after) (sym put) (puts_writes areas held truth [] handle before after holds chunk header)

    pub put_keeps : KeepsSlots areas truth (with_draft truth mid)
    put_keeps = subst (λ (d : List Changed). KeepsSlots areas truth (with_draft truth d)) (sym put) (keeps_slots areas truth (with_draft truth (with_block [] (block_at handle) after)) (record {
      chunked = (holds_still areas held truth [] handle before after holds chunk header).chunked;
      own = λ area less. draft_elsewhere truth [] (block_at handle) (own_block area) after (own_not_slot areas (block_at handle) area (chunk_is areas truth handle before chunk).slot);
    }))

  -- a page that is put, and a slot that is freed then
  pub record PutFreed (handle : ℕ) (page : Contents) (gone : ℕ) (new : List Changed) : Type 0 where
    pub mid : List Changed
    pub puts : PutsPage [] mid handle page
    pub removes : RemovesChunk areas (with_draft truth mid) (with_draft truth new) gone
    pub chunks : ChunkGone (chunks_of areas truth) (chunks_of areas (with_draft truth new)) handle gone puts.block
    pub slots : KeepsSlots areas truth (with_draft truth new)

  abbrev pub PutFreedIn : ℕ → Contents → ℕ → Result (List Changed) ChunkError → Type 0
  PutFreedIn handle page gone (Ok new) = PutFreed handle page gone new
  PutFreedIn handle page gone (Err error) = IsWant error

  pub put_freed : (handle : ℕ) (page : Contents) (gone : ℕ) (before block : Block) → IsChunked areas truth → chunks_of areas truth handle ≡ Some before → chunks_of areas truth gone ≡ Some block → handle ≢ gone
      → (result : Result (List Changed) ChunkError) → PutsAndFrees held areas handle page gone result → PutFreedIn handle page gone result
  put_freed handle page gone before block chunked chunk there apart result (memory e) = subst (PutFreedIn handle page gone) (sym e) tt
  put_freed handle page gone before block chunked chunk there apart result (puts mid p f) = by result (freed_in mid gone block (short handle mid before p.block chunked chunk p.header p.put) keeps.chunked still result f)
    where
      keeps : KeepsSlots areas truth (with_draft truth mid)
      keeps = put_keeps handle mid before p.block chunked chunk p.header p.put

      anew : ChunkAnew (chunks_of areas truth) (chunks_of areas (with_draft truth mid)) handle p.block
      anew = put_anew handle mid before p.block chunked chunk p.header p.put

      still : chunks_of areas (with_draft truth mid) gone ≡ Some block
      still = anew.others gone (λ e. apart (sym e)) ∙ there

      by : (r : Result (List Changed) ChunkError) → FreedIn mid gone r → PutFreedIn handle page gone r
      by (Err error) want = want
      by (Ok new) r = record {
        mid = mid;
        puts = p;
        removes = r;
        chunks = record {
          here = r.chunks handle ∙ ap (λ (t : Bool). if t then None else chunks_of areas (with_draft truth mid) handle) (eq_false handle gone apart) ∙ anew.here;
          none = r.chunks gone ∙ ap (λ (t : Bool). if t then None else chunks_of areas (with_draft truth mid) gone) (eq_true gone gone refl);
          others = λ other one two. r.chunks other ∙ ap (λ (t : Bool). if t then None else chunks_of areas (with_draft truth mid) other) (eq_false other gone two) ∙ anew.others other one;
        };
        slots = slots_steps areas truth (with_draft truth mid) (with_draft truth new) keeps (removes_keeps areas (with_draft truth mid) (with_draft truth new) gone few keeps.chunked r);
      }
