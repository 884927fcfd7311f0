-- A step leaves less.
use Rattle.std.proofs.Common.{◌≡◌, ℕ, Bool, Option, Some, None, refl, sym, ap, ◌∙◌, inl, inr}
use Rattle.std.specs.Prelude.{◌≢◌, ◌⊎◌, if◌then◌else◌}
use Rattle.bx_chunks.specs.Freeing.{RemovesChunk}
use Rattle.bx_layout.specs.declared.block.Block.{Block}
use Rattle.bx_truth.specs.Chunks.{chunks_of}
use Rattle.bx_truth.specs.Edits.{ChunkAnew}
use Rattle.bx_truth.proofs.Cases.{eq_false, eq_true, same_or}
use Rattle.bx_truth.proofs.Put.{some_not}
use Rattle.bx_views.specs.Truths.{Truth}
use Rattle.bx_clean.specs.Shrinking.{ChunkGone}
use Rattle.bx_clean.specs.Falling.{Falls}

none_some : (block : Block) → ◌≡◌ {A = Option Block} None (Some block) → ⊥
none_some block e = absurd cc

module _ (areas : ℕ) (truth now : Truth) (handle gone : ℕ) (block before left : Block) (there : chunks_of areas truth handle ≡ Some before) (was : chunks_of areas truth gone ≡ Some left) where
  -- a chunk is anew, and another is gone
  pub gone_falls : ChunkGone (chunks_of areas truth) (chunks_of areas now) handle gone block → Falls areas truth now
  gone_falls c = inl (record {
    gone = gone;
    was = some_not (chunks_of areas truth gone) left was;
    none = c.none;
    none_new = λ h b some. by h b some (same_or h handle) (same_or h gone);
  })
    where
      by : (h : ℕ) (b : Block) → chunks_of areas now h ≡ Some b → (h ≡ handle) ⊎ (h ≢ handle) → (h ≡ gone) ⊎ (h ≢ gone) → chunks_of areas truth h ≢ None
      by h b some (inl e) other = some_not (chunks_of areas truth h) before (ap (chunks_of areas truth) e ∙ there)
      by h b some (inr apart) (inl e) = absurd (none_some b (sym c.none ∙ ap (chunks_of areas now) (sym e) ∙ some))
      by h b some (inr apart) (inr other) = some_not (chunks_of areas truth h) b (sym (c.others h apart other) ∙ some)

-- the same in two steps
pub then_gone : (areas : ℕ) (truth mid now : Truth) (handle gone : ℕ) (block : Block) → handle ≢ gone → ChunkAnew (chunks_of areas truth) (chunks_of areas mid) handle block → RemovesChunk areas mid now gone
    → ChunkGone (chunks_of areas truth) (chunks_of areas now) handle gone block
then_gone areas truth mid now handle gone block apart anew r = record {
  here = r.chunks handle ∙ ap (λ (t : Bool). if t then None else chunks_of areas mid handle) (eq_false handle gone apart) ∙ anew.here;
  none = r.chunks gone ∙ ap (λ (t : Bool). if t then None else chunks_of areas mid gone) (eq_true gone gone refl);
  others = λ other one two. r.chunks other ∙ ap (λ (t : Bool). if t then None else chunks_of areas mid other) (eq_false other gone two) ∙ anew.others other one;
}

-- a chunk goes alone
pub alone_falls : (areas : ℕ) (truth mid now : Truth) (gone : ℕ) (left : Block) → chunks_of areas truth gone ≡ Some left → ((h : ℕ) → chunks_of areas mid h ≡ chunks_of areas truth h) → RemovesChunk areas mid now gone → Falls areas truth now
alone_falls areas truth mid now gone left was same r = inl (record {
  gone = gone;
  was = some_not (chunks_of areas truth gone) left was;
  none = none;
  none_new = λ h b some. by h b some (same_or h gone);
})
  where
    none : chunks_of areas now gone ≡ None
    none = r.chunks gone ∙ ap (λ (t : Bool). if t then None else chunks_of areas mid gone) (eq_true gone gone refl)

    by : (h : ℕ) (b : Block) → chunks_of areas now h ≡ Some b → (h ≡ gone) ⊎ (h ≢ gone) → chunks_of areas truth h ≢ None
    by h b some (inl e) = absurd (none_some b (sym none ∙ ap (chunks_of areas now) (sym e) ∙ some))
    by h b some (inr other) = some_not (chunks_of areas truth h) b (sym (r.chunks h ∙ ap (λ (t : Bool). if t then None else chunks_of areas mid h) (eq_false h gone other) ∙ same h) ∙ some)
