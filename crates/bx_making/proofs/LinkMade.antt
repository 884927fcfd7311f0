-- What a link that is made leaves of a tree.
use Rattle.std.proofs.Common.{◌≡◌, ℕ, ◌%◌, ◌^◌, ◌≤◌, ◌⊎◌, arith, Bool, true, List, [], inl, inr, sym, ap, ◌∙◌, subst, refl, Some, Result, Ok, Err}
use Rattle.std.specs.Prelude.{◌≢◌, if◌then◌else◌, Contains, OnOk}
use Rattle.bx_layout.specs.declared.block.Block.{Block}
use Rattle.bx_layout.specs.declared.inode.Inode.{Inode}
use Rattle.bx_layout.specs.Areas.{generation_in}
use Rattle.bx_model.specs.Edits.{is_unused, with_new}
use Rattle.bx_model.specs.declared.tree.Tree.{Tree}
use Rattle.bx_records.specs.Drafts.{Changed}
use Rattle.bx_tree_files.specs.Given.{with_handle}
use Rattle.bx_tree_files.specs.declared.file.Body.TheVariants.{Path}
use Rattle.bx_tree_laws.proofs.Put.{with_handle_cases}
use Rattle.bx_truth.specs.Chunks.{block_at, chunks_of, word_at}
use Rattle.bx_truth.specs.Edits.{ChunkAnew}
use Rattle.bx_truth.specs.Making.{MakesOne}
use Rattle.bx_truth.specs.PageTrees.{PageTree, IsTree}
use Rattle.bx_truth.specs.Shown.{KeepsSlots}
use Rattle.bx_truth.specs.Stands.{StandsFor, WasGiven}
use Rattle.bx_truth.specs.Stored.{HasInode}
use Rattle.bx_truth.proofs.Cases.{eq_false, eq_true, same_or}
use Rattle.bx_truth.proofs.Fresh.{never_given, none_there}
use Rattle.bx_truth.proofs.Linked.{link_made}
use Rattle.bx_truth.proofs.Made.{keeps_and}
use Rattle.bx_truth.proofs.Named.{named}
use Rattle.bx_truth.proofs.OneFiles.{one_inode}
use Rattle.bx_truth.proofs.Taking.{taken_keeps}
use Rattle.bx_views.specs.Attempts.{IsHeldDraft}
use Rattle.bx_views.specs.Truths.{Truth, Held, Hints, IsTruth, with_draft}
use Rattle.bx_leaves.specs.bx_blink.specs.Hints.{HintsFit}
use Rattle.bx_leaves.specs.bx_blink.proofs.Sees.{Holds}
use Rattle.bx_chunks.specs.Allocating.{AddsChunk, NeedsFairly}
use Rattle.bx_chunks.specs.Putting.{empty_of}
use Rattle.bx_chunks.specs.declared.error.ChunkError.{ChunkError}
use Rattle.bx_chunks.specs.declared.error.ChunkError.TheVariants.{Need, Stale, Full, OutOfMemory, Crowded}
use Rattle.bx_chunks.proofs.Allocates.{allocates_in}
use Rattle.bx_chunks.proofs.FairNeeds.{Shares, fair}
use Rattle.bx_inodes.specs.Fitting.{HintsFitAll, IsPageUnder}
use Rattle.bx_inodes.proofs.Later.{fit_still}
use Rattle.bx_inodes.proofs.Pages.{one_block}
use Rattle.bx_inodes.specs.Inodes.{HoldsInode}
use Rattle.bx_leaves.proofs.Fair.{put_held}
use Rattle.bx_making.specs.Links.{LinksAt, LinksOne}
use Rattle.bx_making.specs.Made.{MakesFile, MakesIn, file_of}
use Rattle.bx_making.specs.Making.{rooted}
use Rattle.bx_making.proofs.FileMade.{some_none}
use Rattle.bx_making.proofs.Puts.{put_chunk, put_slots}
use Rattle.bx_making.proofs.Steps.{taken_held}
use Rattle.bx_making.proofs.Unused.{unused_is}

module _ (areas near : ℕ) (held : Held) (truth : Truth) (old new : List Changed) (tree : Tree) (inode : Inode) (handle : ℕ) (few : areas ≤ 64) (same : IsTruth held truth)
    (is : StandsFor areas (with_draft truth old) tree) (kind : inode.kind ≡ 5) (no_tree : inode.tree ≡ 0) (m : LinksOne held old new inode near areas handle) where
  a : AddsChunk areas (with_draft truth old) (with_draft truth m.one) handle
  a = allocates_in areas near held truth old m.one few same is.chunked (Ok handle) m.first

  chunk_one : (h : ℕ) → h ≢ handle → chunks_of areas (with_draft truth m.one) h ≡ chunks_of areas (with_draft truth old) h
  chunk_one h other = a.chunks h ∙ ap (λ (t : Bool). if t then Some (empty_of handle 3) else chunks_of areas (with_draft truth old) h) (eq_false h handle other)

  handle_one : chunks_of areas (with_draft truth m.one) handle ≡ Some (empty_of handle 3)
  handle_one = a.chunks handle ∙ ap (λ (t : Bool). if t then Some (empty_of handle 3) else chunks_of areas (with_draft truth old) handle) (eq_true handle handle refl)

  holds_one : Holds areas held truth m.one
  holds_one = record { same = same; chunked = a.chunked }

  anew : ChunkAnew (chunks_of areas (with_draft truth m.one)) (chunks_of areas (with_draft truth new)) handle m.puts.block
  anew = put_chunk areas held truth m.one new handle (empty_of handle 3) m.puts.block holds_one handle_one m.puts.is.header m.puts.put

  elsewhere : (h : ℕ) → h ≢ handle → chunks_of areas (with_draft truth new) h ≡ chunks_of areas (with_draft truth old) h
  elsewhere h other = anew.others h other ∙ chunk_one h other

  slots : KeepsSlots areas (with_draft truth old) (with_draft truth new)
  slots = keeps_and areas (with_draft truth old) (with_draft truth m.one) (with_draft truth new) (taken_keeps areas few (with_draft truth old) (with_draft truth m.one) a.block a.slots a.slot a.takes is.chunked)
      (put_slots areas held truth m.one new handle (empty_of handle 3) m.puts.block holds_one handle_one m.puts.is.header m.puts.put)

  makes : MakesOne (chunks_of areas (with_draft truth old)) (chunks_of areas (with_draft truth new)) handle m.puts.block
  makes = record { fresh = a.fresh; here = anew.here; others = elsewhere }

  stands : StandsFor areas (with_draft truth new) (with_new tree (file_of inode handle (Path inode.path)))
  stands = link_made areas (with_draft truth old) (with_draft truth new) tree handle m.puts.block inode (file_of inode handle (Path inode.path)) inode.path is slots makes
      m.puts.is.has kind no_tree refl refl (record { kind = refl; mode = refl; nlink = refl; uid = refl; gid = refl; atime = refl; mtime = refl; ctime = refl }) refl (with_handle tree.given handle)
      (λ other there. turn other (with_handle_cases tree.given handle other there))
    where
      turn : (other : ℕ) → Contains tree.given other ⊎ (handle ≡ other) → (other ≡ handle) ⊎ Contains tree.given other
      turn other (inl there) = inr there
      turn other (inr e) = inl (sym e)

  unused : is_unused tree handle ≡ true
  unused = unused_is tree handle a.name.some
      (λ given. never_given areas few (with_draft truth old) (with_draft truth m.one) tree a.block a.slots a.slot a.takes is (subst (Contains tree.given) (sym (ap (λ (x : Block). x.handle) a.here)) given))
      (λ h at. none_there areas few (with_draft truth old) (with_draft truth m.one) tree a.block a.slots a.slot a.takes is h (at ∙ a.at))

  not_given : WasGiven areas (with_draft truth old) handle → ⊥
  not_given g = let never = a.never in let w = g.generation in
      let l : handle % 2 ^ 32 ≤ generation_in (word_at (with_draft truth old) a.block) = subst (λ (n : ℕ). handle % 2 ^ 32 ≤ generation_in (word_at (with_draft truth old) n)) a.at w in omega (arith, never, l)

  root_is : inode ≡ rooted inode 0
  root_is = λ i. record inode { tree = no_tree i }

  holds : HoldsInode areas (with_draft truth new) handle (rooted inode 0)
  holds = record { block = m.puts.block; chunk = anew.here; has = subst (λ (i : Inode). HasInode i m.puts.block) root_is m.puts.is.has }

  used : (h : ℕ) (block : Block) → chunks_of areas (with_draft truth new) h ≡ Some block → WasGiven areas (with_draft truth old) h → (was : Block) × (chunks_of areas (with_draft truth old) h ≡ Some was)
  used h block some g = (block, sym (elsewhere h (λ e. not_given (subst (WasGiven areas (with_draft truth old)) e g))) ∙ some)

  each : (h : ℕ) (block : Block) → chunks_of areas (with_draft truth new) h ≡ Some block
      → (chunks_of areas (with_draft truth old) h ≡ Some block) ⊎ ((h ≡ handle) ⊎ (IsPageUnder areas (with_draft truth new) handle h ⊎ (block.kind ≡ 3)))
  each h block some = by (same_or h handle)
    where
      by : (h ≡ handle) ⊎ (h ≢ handle) → (chunks_of areas (with_draft truth old) h ≡ Some block) ⊎ ((h ≡ handle) ⊎ (IsPageUnder areas (with_draft truth new) handle h ⊎ (block.kind ≡ 3)))
      by (inl e) = inr (inl e)
      by (inr other) = inl (sym (elsewhere h other) ∙ some)

  -- no tree is under 0
  no_pages : (pages : PageTree) → IsTree (chunks_of areas (with_draft truth new)) 0 pages → ⊥
  no_pages pages at =
      let n = (at.levels pages.height (omega arith)).nodes_are at.top (record { before = []; behind = []; parts = at.root_alone }) in
      (named areas (with_draft truth new) (with_new tree (file_of inode handle (Path inode.path))) at.top.handle n.block stands n.chunk).some at.root_is

  leads : (other : Hints) → HintsFitAll areas other (with_draft truth old) → HintsFitAll areas other (with_draft truth new)
  leads other fit = fit_still areas other (with_draft truth old) (with_draft truth new) (with_new tree (file_of inode handle (Path inode.path))) handle stands
      (record { given = slots.given; used = used }) (record { inode = rooted inode 0; holds = holds; each = each }) this fit
    where
      this : (i : Inode) (pages : PageTree) → HoldsInode areas (with_draft truth new) handle i → IsTree (chunks_of areas (with_draft truth new)) i.tree pages → HintsFit areas other (with_draft truth new) i.tree pages
      this i pages h at =
          let block : h.block ≡ m.puts.block = one_block h.block m.puts.block (sym h.chunk ∙ anew.here) in
          let e : i ≡ inode = one_inode i inode m.puts.block.payload (subst (HasInode i) block h.has).spells m.puts.is.has.spells in
          absurd (no_pages pages (subst (λ (r : ℕ). IsTree (chunks_of areas (with_draft truth new)) r pages) (ap (λ (x : Inode). x.tree) e ∙ no_tree) at))

  pub link_is_made : MakesFile areas truth old new tree inode (Path inode.path) handle
  link_is_made = record {
    unused = unused;
    fresh = none_there areas few (with_draft truth old) (with_draft truth m.one) tree a.block a.slots a.slot a.takes is handle a.at;
    stands = stands;
    page = 0;
    holds = holds;
    kept = λ other block some. elsewhere other (λ e. some_none block (sym some ∙ ap (chunks_of areas (with_draft truth old)) e ∙ a.fresh)) ∙ some;
    leads = λ other at file there tree_of fit. leads other fit;
  }

pub links_in : (areas near : ℕ) (held : Held) (truth : Truth) (old new : List Changed) (tree : Tree) (inode : Inode) → areas ≤ 64 → IsTruth held truth → StandsFor areas (with_draft truth old) tree → inode.kind ≡ 5 → inode.tree ≡ 0
    → (result : Result ℕ ChunkError) → LinksAt held old new inode near areas result → MakesIn areas truth old new tree inode (Path inode.path) result
links_in areas near held truth old new tree inode few same is kind no_tree (Ok handle) m = link_is_made areas near held truth old new tree inode handle few same is kind no_tree m
links_in areas near held truth old new tree inode few same is kind no_tree (Err error) m = by error m
  where
    by : (e : ChunkError) → LinksAt held old new inode near areas (Err e) → MakesIn areas truth old new tree inode (Path inode.path) (Err e)
    by (Full spare) (inl x) = (allocates_in areas near held truth old old few same is.chunked (Err (Full spare)) x).0
    by (Full spare) (inr x) = let e : Full spare ≡ Crowded = x.0 in absurd cc
    by (Need at mode) x = tt
    by Crowded x = tt
    by OutOfMemory x = tt
    by Stale (inl x) = x
    by Stale (inr x) = let e : Stale ≡ Crowded = x.0 in absurd cc

pub link_needs : (areas near : ℕ) (held : Held) (old new : List Changed) (inode : Inode) → Shares held → (result : Result ℕ ChunkError) → LinksAt held old new inode near areas result → NeedsFairly areas held result
link_needs areas near held old new inode shares (Ok handle) m = tt
link_needs areas near held old new inode shares (Err (Need at mode)) (inl x) = fair areas near held old old shares (Err (Need at mode)) x
link_needs areas near held old new inode shares (Err (Need at mode)) (inr x) = let e : Need at mode ≡ Crowded = x.0 in absurd cc
link_needs areas near held old new inode shares (Err Stale) m = tt
link_needs areas near held old new inode shares (Err (Full spare)) m = tt
link_needs areas near held old new inode shares (Err OutOfMemory) m = tt
link_needs areas near held old new inode shares (Err Crowded) m = tt

pub link_held : (areas near : ℕ) (held : Held) (old new : List Changed) (inode : Inode) → IsHeldDraft held old → (result : Result ℕ ChunkError) → LinksAt held old new inode near areas result → OnOk result (IsHeldDraft held new)
link_held areas near held old new inode before (Ok handle) m =
    let a = taken_held areas near held old m.one handle before m.first in
    subst (IsHeldDraft held) (sym m.puts.put) (put_held held m.one (block_at handle) m.puts.block a.0 a.1 m.puts.is.parts)
link_held areas near held old new inode before (Err error) m = tt
