-- Hints that fit all trees of a volume still do once an inode is rewritten that keeps its tree.
use Rattle.std.proofs.Common.{◌≡◌, ℕ, ◌*◌, ◌+◌, ◌%◌, ◌<◌, arith, Bool, List, [], ◌∷◌, Option, Some, None, refl, sym, ap, ◌∙◌, subst, inl, inr}
use Rattle.std.specs.Prelude.{◌≢◌, ◌⊎◌, if◌then◌else◌, unwrap_or}
use Rattle.bx_reads.specs.bx_blink.specs.Hints.{HintsFit}
use Rattle.bx_reads.specs.bx_inodes.specs.Fitting.{Continues, HintsFitAll}
use Rattle.bx_reads.specs.bx_inodes.proofs.Later.{fit_later}
use Rattle.bx_reads.specs.bx_inodes.specs.Inodes.{HoldsInode}
use Rattle.bx_reads.specs.bx_inodes.specs.Writing.{PutsInode}
use Rattle.bx_layout.specs.Areas.{generation_in}
use Rattle.bx_layout.specs.declared.block.Block.{Block}
use Rattle.bx_layout.specs.declared.inode.Inode.{Inode}
use Rattle.bx_records.specs.Drafts.{Changed, block_in, with_block}
use Rattle.bx_reads.specs.bx_truth.specs.Chunks.{IsChunked, block_at, chunks_of, handle_of, own_block, word_at}
use Rattle.bx_reads.specs.bx_truth.specs.PageTrees.{IsPageOf, IsTree, Node, PageTree}
use Rattle.bx_reads.specs.bx_truth.specs.Stored.{HasInode}
use Rattle.bx_reads.specs.bx_truth.proofs.Cases.{eq_false, eq_true, same_or}
use Rattle.bx_reads.specs.bx_truth.proofs.Frames.{tree_kept}
use Rattle.bx_reads.specs.bx_truth.proofs.InPlace.{some_laid, word_stays}
use Rattle.bx_reads.specs.bx_truth.proofs.OneFiles.{one_inode}
use Rattle.bx_reads.specs.bx_truth.proofs.Same.{IsChunk, chunk_is}
use Rattle.bx_views.specs.Truths.{Hints, Truth, with_draft}

some_same : {X : Type 0} (x y : X) → Some x ≡ Some y → x ≡ y
some_same x y e = cc

module _ (areas : ℕ) (hints : Hints) (truth : Truth) (handle : ℕ) (old new : Inode) (after : Block) (chunked : IsChunked areas truth) (holds : HoldsInode areas truth handle old)
    (has : HasInode new after) (header : after.handle ≡ handle) (same_tree : new.tree ≡ old.tree) (fit : HintsFitAll areas hints truth) where
  abbrev now : Truth
  now = with_draft truth ((block_at handle, after) ∷ [])

  here : IsChunk areas truth handle holds.block
  here = chunk_is areas truth handle holds.block holds.chunk

  no_own : (area : ℕ) → area < areas → block_in ((block_at handle, after) ∷ []) (own_block area) ≡ None
  no_own area less = ap (λ (b : Bool). if b then Some after else None) (eq_false (block_at handle) (own_block area) (apart (block_at handle) here.slot.slot))
    where
      apart : (n : ℕ) → n % 1024 < 960 → n ≢ 1024 * area + 960
      apart n less same = omega (arith, less, same)

  headed : (at : ℕ) (b : Block) → block_in ((block_at handle, after) ∷ []) at ≡ Some b → b.handle ≡ (truth at).handle
  headed at b some = by (same_or (block_at handle) at)
    where
      by : (block_at handle ≡ at) ⊎ (block_at handle ≢ at) → b.handle ≡ (truth at).handle
      by (inl same) =
          let there : Some after ≡ Some b = sym (ap (λ (t : Bool). if t then Some after else None) (eq_true (block_at handle) at same)) ∙ some in
          ap (λ (x : Block). x.handle) (sym (some_same after b there)) ∙ header ∙ here.is_handle ∙ sym (chunked.used (block_at handle) here.slot here.used) ∙ ap (λ (n : ℕ). (truth n).handle) same
      by (inr other) = let none : None ≡ Some b = sym (ap (λ (t : Bool). if t then Some after else None) (eq_false (block_at handle) at other)) ∙ some in absurd cc

  -- another chunk was there before, and is in another block
  before : (h : ℕ) (b : Block) → h ≢ handle → chunks_of areas now h ≡ Some b → chunks_of areas truth h ≡ Some b
  before h b other some =
      let was = some_laid areas truth ((block_at handle, after) ∷ []) no_own headed h b some in
      let c = chunk_is areas truth h was.0 was.1 in
      let elsewhere : block_in ((block_at handle, after) ∷ []) (block_at h) ≡ None = ap (λ (t : Bool). if t then Some after else None)
      (eq_false (block_at handle) (block_at h) (λ same. other (c.is_handle ∙ ap (λ (n : ℕ). handle_of n (generation_in (word_at truth n))) (sym same) ∙ sym here.is_handle))) in
      was.1 ∙ ap (λ (x : Block). Some x) (sym (ap (λ (o : Option Block). unwrap_or o was.0) elsewhere) ∙ was.2)

  -- the chunk is the new block
  anew : (b : Block) → chunks_of areas now handle ≡ Some b → after ≡ b
  anew b some =
      let was = some_laid areas truth ((block_at handle, after) ∷ []) no_own headed handle b some in
      sym (ap (λ (o : Option Block). unwrap_or o was.0) (ap (λ (t : Bool). if t then Some after else None) (eq_true (block_at handle) (block_at handle) refl))) ∙ was.2

  continues : Continues areas truth now
  continues = record {
    given = λ block slot. let same = ap generation_in (word_stays areas truth ((block_at handle, after) ∷ []) no_own headed block slot) in omega (arith, same);
    used = λ h b some given. let was = some_laid areas truth ((block_at handle, after) ∷ []) no_own headed h b some in (was.0, was.1);
  }

  page_before : (pages : PageTree) (root : ℕ) → IsTree (chunks_of areas now) root pages → (node : Node) (b : Block) → IsPageOf pages node → chunks_of areas now node.handle ≡ Some b
      → chunks_of areas truth node.handle ≡ Some b
  page_before pages root is node b page some = by (same_or node.handle handle)
    where
      by : (node.handle ≡ handle) ⊎ (node.handle ≢ handle) → chunks_of areas truth node.handle ≡ Some b
      by (inl same) =
          let n = (is.levels page.level page.within).nodes_are node page.there in
          let one : after ≡ n.block = anew n.block (ap (chunks_of areas now) (sym same) ∙ n.chunk) in
          let kind : after.kind ≡ 2 = ap (λ (x : Block). x.kind) one ∙ n.has.kind in
          let inode = has.kind in
          absurd (omega (arith, kind, inode))
      by (inr other) = before node.handle b other some

  each : (h : ℕ) (inode : Inode) (pages : PageTree) → HoldsInode areas now h inode → IsTree (chunks_of areas now) inode.tree pages → HintsFit areas hints now inode.tree pages
  each h inode pages held is = by (same_or h handle)
    where
      was : IsTree (chunks_of areas truth) inode.tree pages
      was = tree_kept (chunks_of areas now) (chunks_of areas truth) inode.tree pages is (page_before pages inode.tree is)

      by : (h ≡ handle) ⊎ (h ≢ handle) → HintsFit areas hints now inode.tree pages
      by (inl same) =
          let block : after ≡ held.block = anew held.block (ap (chunks_of areas now) (sym same) ∙ held.chunk) in
          let one : new ≡ inode = one_inode new inode held.block.payload (subst (λ (b : Block). HasInode new b) block has).spells held.has.spells in
          let root : old.tree ≡ inode.tree = sym same_tree ∙ ap (λ (i : Inode). i.tree) one in
          fit_later areas hints truth now inode.tree pages continues
          (subst (λ (r : ℕ). HintsFit areas hints truth r pages) root (fit.each handle old pages holds (subst (λ (r : ℕ). IsTree (chunks_of areas truth) r pages) (sym root) was)))
      by (inr other) =
          fit_later areas hints truth now inode.tree pages continues
          (fit.each h inode pages (record { block = held.block; chunk = before h held.block other held.chunk; has = held.has }) was)

  pub still_fit : HintsFitAll areas hints now
  still_fit = record { each = each }

-- the same of a draft that an inode was put into
pub put_fits : (areas : ℕ) (hints : Hints) (truth : Truth) (handle : ℕ) (old new : Inode) (draft made : List Changed) → draft ≡ [] → IsChunked areas truth → HoldsInode areas truth handle old → new.tree ≡ old.tree
    → HintsFitAll areas hints truth → PutsInode draft made handle new → HintsFitAll areas hints (with_draft truth made)
put_fits areas hints truth handle old new draft made none chunked holds same_tree fit puts =
    let is : made ≡ (block_at handle, puts.block) ∷ [] = puts.put ∙ ap (λ (d : List Changed). with_block d (block_at handle) puts.block) none in
    subst (λ (d : List Changed). HintsFitAll areas hints (with_draft truth d)) (sym is) (still_fit areas hints truth handle old new puts.block chunked holds puts.is.has puts.is.header same_tree fit)
