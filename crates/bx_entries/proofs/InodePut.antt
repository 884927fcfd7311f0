-- An inode put into a draft over others: all other chunks stay, and hints that fitted still fit.
use Rattle.std.proofs.Common.{◌≡◌, ℕ, Bool, List, [], ◌∷◌, Some, None, sym, ap, ◌∙◌, subst, inl, inr}
use Rattle.std.specs.Prelude.{◌≢◌, ◌⊎◌, if◌then◌else◌, unwrap_or}
use Rattle.bx_changes.proofs.HintsKept.{still_fit}
use Rattle.bx_inodes.specs.Fitting.{HintsFitAll}
use Rattle.bx_inodes.specs.Inodes.{HoldsInode}
use Rattle.bx_inodes.specs.Writing.{PutsInode}
use Rattle.bx_layout.specs.declared.inode.Inode.{Inode}
use Rattle.bx_leaves.proofs.Written.{draft_elsewhere, draft_here}
use Rattle.bx_making.proofs.Puts.{put_chunk}
use Rattle.bx_records.specs.Drafts.{Changed, with_block}
use Rattle.bx_truth.specs.Chunks.{IsChunked, block_at, chunks_of}
use Rattle.bx_truth.specs.Edits.{ChunkAnew}
use Rattle.bx_truth.proofs.Cases.{eq_false, eq_true, same_or}
use Rattle.bx_views.specs.Truths.{Held, Hints, IsTruth, Truth, with_draft}

module _ (areas : ℕ) (held : Held) (truth : Truth) (old new : List Changed) (handle : ℕ) (before after : Inode) (same : IsTruth held truth) (chunked : IsChunked areas (with_draft truth old))
    (holds : HoldsInode areas (with_draft truth old) handle before) (puts : PutsInode old new handle after) where
  anew : ChunkAnew (chunks_of areas (with_draft truth old)) (chunks_of areas (with_draft truth new)) handle puts.block
  anew = put_chunk areas held truth old new handle holds.block puts.block (record { same = same; chunked = chunked }) holds.chunk puts.is.header puts.put

  pub elsewhere : (other : ℕ) → other ≢ handle → chunks_of areas (with_draft truth new) other ≡ chunks_of areas (with_draft truth old) other
  elsewhere other apart = anew.others other apart

  -- block by block
  each : (n : ℕ) → with_draft (with_draft truth old) ((block_at handle, puts.block) ∷ []) n ≡ with_draft truth (with_block old (block_at handle) puts.block) n
  each n = by (same_or (block_at handle) n)
    where
      by : (block_at handle ≡ n) ⊎ (block_at handle ≢ n) → with_draft (with_draft truth old) ((block_at handle, puts.block) ∷ []) n ≡ with_draft truth (with_block old (block_at handle) puts.block) n
      by (inl e) =
          ap (λ (t : Bool). unwrap_or (if t then Some puts.block else None) (with_draft truth old n)) (eq_true (block_at handle) n e)
          ∙ sym (draft_here truth old (block_at handle) puts.block) ∙ ap (with_draft truth (with_block old (block_at handle) puts.block)) e
      by (inr other) =
          ap (λ (t : Bool). unwrap_or (if t then Some puts.block else None) (with_draft truth old n)) (eq_false (block_at handle) n other)
          ∙ sym (draft_elsewhere truth old (block_at handle) n puts.block (λ e. other (sym e)))

  one : ◌≡◌ {A = Truth} (with_draft (with_draft truth old) ((block_at handle, puts.block) ∷ [])) (with_draft truth (with_block old (block_at handle) puts.block))
  one = λ i n. each n i

  pub fits : (hints : Hints) → after.tree ≡ before.tree → HintsFitAll areas hints (with_draft truth old) → HintsFitAll areas hints (with_draft truth new)
  fits hints tree fit =
      subst (λ (d : List Changed). HintsFitAll areas hints (with_draft truth d)) (sym puts.put)
      (subst (λ (t : Truth). HintsFitAll areas hints t) one
      (still_fit areas hints (with_draft truth old) handle before after puts.block chunked holds puts.is.has puts.is.header tree fit))
