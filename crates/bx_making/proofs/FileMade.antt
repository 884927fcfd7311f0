-- What a file that is made leaves of a tree.
use Rattle.std.proofs.Common.{◌≡◌, ℕ, ◌%◌, ◌^◌, ◌≤◌, ◌⊎◌, arith, Bool, true, List, [], inl, inr, sym, ap, ◌∙◌, subst, refl, Option, Some, None, Result, Ok, Err}
use Rattle.std.specs.Prelude.{◌≢◌, if◌then◌else◌, Contains}
use Rattle.bx_layout.specs.declared.block.Block.{Block}
use Rattle.bx_layout.specs.declared.inode.Inode.{Inode}
use Rattle.bx_layout.specs.Areas.{generation_in}
use Rattle.bx_model.specs.Edits.{is_unused, with_new}
use Rattle.bx_model.specs.declared.tree.Tree.{Tree}
use Rattle.bx_records.specs.Drafts.{Changed}
use Rattle.bx_tree_files.specs.Given.{with_handle}
use Rattle.bx_tree_files.specs.declared.file.Body.{Body}
use Rattle.bx_tree_files.specs.declared.file.Body.TheVariants.{Bytes, Path, Names}
use Rattle.bx_tree_files.specs.declared.file.File.{File}
use Rattle.bx_tree_files.specs.Files.{file_at}
use Rattle.bx_tree_laws.proofs.Put.{with_handle_cases}
use Rattle.bx_truth.specs.Chunks.{IsChunked, IsName, block_at, chunks_of, word_at}
use Rattle.bx_truth.specs.Edits.{ChunkAnew}
use Rattle.bx_truth.specs.Making.{IsEmptyBody, MakesTwo}
use Rattle.bx_truth.specs.PageTrees.{PageTree, IsTree}
use Rattle.bx_truth.specs.Shown.{KeepsSlots}
use Rattle.bx_truth.specs.Stands.{StandsFor, WasGiven}
use Rattle.bx_truth.specs.Stored.{HasInode}
use Rattle.bx_truth.proofs.Cases.{eq_false, eq_true, same_or}
use Rattle.bx_truth.proofs.Fresh.{never_given, none_there}
use Rattle.bx_truth.proofs.Made.{empty_is, empty_node, empty_tree, file_made, keeps_and}
use Rattle.bx_truth.proofs.OneFiles.{one_inode}
use Rattle.bx_truth.proofs.Put.{shown}
use Rattle.bx_truth.proofs.Taking.{taken_keeps}
use Rattle.bx_views.specs.Truths.{Truth, Held, Hints, IsTruth, with_draft}
use Rattle.bx_leaves.specs.bx_blink.specs.Hints.{HintsFit}
use Rattle.bx_leaves.specs.bx_blink.proofs.Sees.{Holds}
use Rattle.bx_chunks.specs.Allocating.{AddsChunk, AllocatesAt}
use Rattle.bx_chunks.specs.Putting.{empty_of}
use Rattle.bx_chunks.specs.declared.error.ChunkError.{ChunkError}
use Rattle.bx_chunks.specs.declared.error.ChunkError.TheVariants.{Need, Stale, Full, OutOfMemory, Crowded}
use Rattle.bx_chunks.proofs.Allocates.{allocates_in}
use Rattle.bx_inodes.specs.Fitting.{HintsFitAll, IsPageUnder}
use Rattle.bx_inodes.proofs.Later.{fit_still, given_later}
use Rattle.bx_inodes.proofs.Pages.{has_pages, one_block}
use Rattle.bx_inodes.proofs.Trees.{fit_other}
use Rattle.bx_inodes.specs.Inodes.{HoldsInode}
use Rattle.bx_making.specs.Made.{MakesFile, MakesIn, file_of}
use Rattle.bx_making.specs.Making.{FillsAt, MakesAt, MakesBoth, rooted}
use Rattle.bx_making.proofs.Puts.{put_chunk, put_holds, put_slots}
use Rattle.bx_making.proofs.Unused.{unused_is}

pub some_none : {X : Type 0} (x : X) → ◌≡◌ {A = Option X} (Some x) None → ⊥
some_none x e = absurd cc

module _ (areas near : ℕ) (held : Held) (truth : Truth) (old new : List Changed) (tree : Tree) (inode : Inode) (body : Body) (handle : ℕ) (few : areas ≤ 64) (same : IsTruth held truth)
    (is : StandsFor areas (with_draft truth old) tree) (empty : IsEmptyBody inode body) (m : MakesBoth held old new inode near areas handle) where
  abbrev t0 : Truth
  t0 = with_draft truth old

  abbrev t4 : Truth
  t4 = with_draft truth new

  a : AddsChunk areas (with_draft truth old) (with_draft truth m.one) handle
  a = allocates_in areas near held truth old m.one few same is.chunked (Ok handle) m.first

  b : AddsChunk areas (with_draft truth m.one) (with_draft truth m.two) m.page
  b = allocates_in areas near held truth m.one m.two few same a.chunked (Ok m.page) m.second

  chunk_one : (h : ℕ) → h ≢ handle → chunks_of areas (with_draft truth m.one) h ≡ chunks_of areas (with_draft truth old) h
  chunk_one h other = a.chunks h ∙ ap (λ (t : Bool). if t then Some (empty_of handle 3) else chunks_of areas (with_draft truth old) h) (eq_false h handle other)

  chunk_two : (h : ℕ) → h ≢ m.page → chunks_of areas (with_draft truth m.two) h ≡ chunks_of areas (with_draft truth m.one) h
  chunk_two h other = b.chunks h ∙ ap (λ (t : Bool). if t then Some (empty_of m.page 3) else chunks_of areas (with_draft truth m.one) h) (eq_false h m.page other)

  handle_one : chunks_of areas (with_draft truth m.one) handle ≡ Some (empty_of handle 3)
  handle_one = a.chunks handle ∙ ap (λ (t : Bool). if t then Some (empty_of handle 3) else chunks_of areas (with_draft truth old) handle) (eq_true handle handle refl)

  apart : m.page ≢ handle
  apart e = some_none (empty_of handle 3) (sym handle_one ∙ ap (chunks_of areas (with_draft truth m.one)) (sym e) ∙ b.fresh)

  handle_two : chunks_of areas (with_draft truth m.two) handle ≡ Some (empty_of handle 3)
  handle_two = chunk_two handle (λ e. apart (sym e)) ∙ handle_one

  page_two : chunks_of areas (with_draft truth m.two) m.page ≡ Some (empty_of m.page 3)
  page_two = b.chunks m.page ∙ ap (λ (t : Bool). if t then Some (empty_of m.page 3) else chunks_of areas (with_draft truth m.one) m.page) (eq_true m.page m.page refl)

  holds_two : Holds areas held truth m.two
  holds_two = record { same = same; chunked = b.chunked }

  anew_three : ChunkAnew (chunks_of areas (with_draft truth m.two)) (chunks_of areas (with_draft truth m.fills.mid)) m.page m.fills.page_put.block
  anew_three = put_chunk areas held truth m.two m.fills.mid m.page (empty_of m.page 3) m.fills.page_put.block holds_two page_two m.fills.page_put.header m.fills.page_put.put

  holds_three : Holds areas held truth m.fills.mid
  holds_three = put_holds areas held truth m.two m.fills.mid m.page (empty_of m.page 3) m.fills.page_put.block holds_two page_two m.fills.page_put.header m.fills.page_put.put

  handle_three : chunks_of areas (with_draft truth m.fills.mid) handle ≡ Some (empty_of handle 3)
  handle_three = anew_three.others handle (λ e. apart (sym e)) ∙ handle_two

  anew_four : ChunkAnew (chunks_of areas (with_draft truth m.fills.mid)) (chunks_of areas (with_draft truth new)) handle m.fills.inode_put.block
  anew_four = put_chunk areas held truth m.fills.mid new handle (empty_of handle 3) m.fills.inode_put.block holds_three handle_three m.fills.inode_put.is.header m.fills.inode_put.put

  elsewhere : (h : ℕ) → h ≢ handle → h ≢ m.page → chunks_of areas (with_draft truth new) h ≡ chunks_of areas (with_draft truth old) h
  elsewhere h one two = anew_four.others h one ∙ anew_three.others h two ∙ chunk_two h two ∙ chunk_one h one

  makes : MakesTwo (chunks_of areas (with_draft truth old)) (chunks_of areas (with_draft truth new)) handle m.page m.fills.inode_put.block m.fills.page_put.block
  makes = record {
    fresh = a.fresh;
    fresh_page = sym (chunk_one m.page apart) ∙ b.fresh;
    apart = apart;
    here = anew_four.here;
    page_here = anew_four.others m.page apart ∙ anew_three.here;
    others = elsewhere;
  }

  slots : KeepsSlots areas (with_draft truth old) (with_draft truth new)
  slots =
      keeps_and areas (with_draft truth old) (with_draft truth m.one) (with_draft truth new) (taken_keeps areas few (with_draft truth old) (with_draft truth m.one) a.block a.slots a.slot a.takes is.chunked)
      (keeps_and areas (with_draft truth m.one) (with_draft truth m.two) (with_draft truth new) (taken_keeps areas few (with_draft truth m.one) (with_draft truth m.two) b.block b.slots b.slot b.takes a.chunked)
      (keeps_and areas (with_draft truth m.two) (with_draft truth m.fills.mid) (with_draft truth new)
      (put_slots areas held truth m.two m.fills.mid m.page (empty_of m.page 3) m.fills.page_put.block holds_two page_two m.fills.page_put.header m.fills.page_put.put)
      (put_slots areas held truth m.fills.mid new handle (empty_of handle 3) m.fills.inode_put.block holds_three handle_three m.fills.inode_put.is.header m.fills.inode_put.put)))

  empty_rooted : (body : Body) → IsEmptyBody inode body → IsEmptyBody (rooted inode m.page) body
  empty_rooted (Bytes bytes) e = e
  empty_rooted (Path path) e = e
  empty_rooted (Names parent next names) e = e

  stands : StandsFor areas (with_draft truth new) (with_new tree (file_of inode handle body))
  stands = file_made areas (with_draft truth old) (with_draft truth new) tree handle m.page m.fills.inode_put.block m.fills.page_put.block (rooted inode m.page) (file_of inode handle body) is slots makes
      m.fills.inode_put.is.has m.fills.page_put.has refl b.name.some refl
      (record { kind = refl; mode = refl; nlink = refl; uid = refl; gid = refl; atime = refl; mtime = refl; ctime = refl })
      (empty_rooted body empty) (with_handle tree.given handle)
      (λ other there. turn other (with_handle_cases tree.given handle other there))
    where
      turn : (other : ℕ) → Contains tree.given other ⊎ (handle ≡ other) → (other ≡ handle) ⊎ Contains tree.given other
      turn other (inl there) = inr there
      turn other (inr e) = inl (sym e)

  at_block : (with_draft truth m.one a.block).handle ≡ handle
  at_block = ap (λ (x : Block). x.handle) a.here

  unused : is_unused tree handle ≡ true
  unused = unused_is tree handle a.name.some
      (λ given. never_given areas few (with_draft truth old) (with_draft truth m.one) tree a.block a.slots a.slot a.takes is (subst (Contains tree.given) (sym at_block) given))
      (λ h at. none_there areas few (with_draft truth old) (with_draft truth m.one) tree a.block a.slots a.slot a.takes is h (at ∙ a.at))

  gone : file_at tree.files handle ≡ None
  gone = none_there areas few (with_draft truth old) (with_draft truth m.one) tree a.block a.slots a.slot a.takes is handle a.at

  kept : (other : ℕ) (block : Block) → chunks_of areas (with_draft truth old) other ≡ Some block → chunks_of areas (with_draft truth new) other ≡ Some block
  kept other block some = elsewhere other
      (λ e. some_none block (sym some ∙ ap (chunks_of areas (with_draft truth old)) e ∙ a.fresh))
      (λ e. some_none block (sym some ∙ ap (chunks_of areas (with_draft truth old)) e ∙ makes.fresh_page)) ∙ some

  -- ---- hints

  holds : HoldsInode areas (with_draft truth new) handle (rooted inode m.page)
  holds = record { block = m.fills.inode_put.block; chunk = anew_four.here; has = m.fills.inode_put.is.has }

  lone : IsTree (chunks_of areas (with_draft truth new)) m.page (empty_tree m.page)
  lone = empty_is m.page (chunks_of areas (with_draft truth new)) m.fills.page_put.block makes.page_here m.fills.page_put.has

  -- neither handle was given
  not_given : WasGiven areas (with_draft truth old) handle → ⊥
  not_given g = let never = a.never in let e : block_at handle ≡ a.block = a.at in let w = g.generation in
      let l : handle % 2 ^ 32 ≤ generation_in (word_at (with_draft truth old) a.block) = subst (λ (n : ℕ). handle % 2 ^ 32 ≤ generation_in (word_at (with_draft truth old) n)) e w in omega (arith, never, l)

  page_not_given : WasGiven areas (with_draft truth old) m.page → ⊥
  page_not_given g =
      let s = taken_keeps areas few (with_draft truth old) (with_draft truth m.one) a.block a.slots a.slot a.takes is.chunked in
      let never = b.never in
      let w = g.generation in
      let more = s.given (block_at m.page) g.slot in
      let l : m.page % 2 ^ 32 ≤ generation_in (word_at (with_draft truth m.one) b.block) =
      subst (λ (n : ℕ). m.page % 2 ^ 32 ≤ generation_in (word_at (with_draft truth m.one) n)) b.at (omega (arith, w, more)) in omega (arith, never, l)

  used : (h : ℕ) (block : Block) → chunks_of areas (with_draft truth new) h ≡ Some block → WasGiven areas (with_draft truth old) h → (was : Block) × (chunks_of areas (with_draft truth old) h ≡ Some was)
  used h block some g = (block, sym (elsewhere h (λ e. not_given (subst (WasGiven areas (with_draft truth old)) e g)) (λ e. page_not_given (subst (WasGiven areas (with_draft truth old)) e g))) ∙ some)

  module _ (other : Hints) (at : ℕ) (file : File) (there : file_at tree.files at ≡ Some file) (tree_of : file.kind ≢ 5) (fit : HintsFitAll areas other (with_draft truth old)) where
    -- the hints of some tree that was there
    some_fit : (handle : ℕ) (block : Block) → other (block_at handle) ≡ Some block → block.handle ≡ handle → IsName areas handle → WasGiven areas (with_draft truth old) handle
    some_fit = by
      where
        open_file : (chunk : Block) × (i : Inode) × HoldsInode areas (with_draft truth old) at i × (i.kind ≡ file.kind)
        open_file =
            let s = shown areas (with_draft truth old) tree at file is there in
            (s.block, (is.stored at).inode, record { block = s.block; chunk = s.chunk; has = s.has }, s.fields.kind)

        by : (handle : ℕ) (block : Block) → other (block_at handle) ≡ Some block → block.handle ≡ handle → IsName areas handle → WasGiven areas (with_draft truth old) handle
        by =
            let p = has_pages areas held other truth old tree at open_file.1 file few same is fit open_file.2 there (λ five. tree_of (sym open_file.3 ∙ five)) in
            p.under.hints.given.hints

    lone_fits : HintsFit areas other (with_draft truth new) m.page (empty_tree m.page)
    lone_fits = record {
      agree = record {
        home = λ h. None;
        names = λ h place none. absurd (some_none place (sym none));
        root_apart = refl;
        most = 0;
        highest = omega arith;
        placed = λ level node less within. absurd (omega (arith, less));
        stands = λ h place block none some. absurd (some_none place (sym none));
        hints = λ h place block page none some header has above. absurd (some_none place (sym none));
        root_hints = λ block page some header has above. absurd (page_not_given (some_fit m.page block some header b.name));
      };
      given = record {
        homes = λ h place none. absurd (some_none place (sym none));
        hints = λ h block some header name. given_later areas (with_draft truth old) (with_draft truth new) (record { given = slots.given; used = used }) h (some_fit h block some header name);
      };
    }

    each : (h : ℕ) (block : Block) → chunks_of areas (with_draft truth new) h ≡ Some block
        → (chunks_of areas (with_draft truth old) h ≡ Some block) ⊎ ((h ≡ handle) ⊎ (IsPageUnder areas (with_draft truth new) handle h ⊎ (block.kind ≡ 3)))
    each h block some = by (same_or h handle) (same_or h m.page)
      where
        by : (h ≡ handle) ⊎ (h ≢ handle) → (h ≡ m.page) ⊎ (h ≢ m.page)
            → (chunks_of areas (with_draft truth old) h ≡ Some block) ⊎ ((h ≡ handle) ⊎ (IsPageUnder areas (with_draft truth new) handle h ⊎ (block.kind ≡ 3)))
        by (inl e) p = inr (inl e)
        by (inr one) (inl e) = inr (inr (inl (record {
          inode = rooted inode m.page;
          holds = holds;
          tree = empty_tree m.page;
          is = lone;
          node = empty_node m.page;
          there = record { level = 0; within = omega arith; there = record { before = []; behind = []; parts = refl } };
          names = sym e;
        })))
        by (inr one) (inr two) = inl (sym (elsewhere h one two) ∙ some)

    this : (i : Inode) (pages : PageTree) → HoldsInode areas (with_draft truth new) handle i → IsTree (chunks_of areas (with_draft truth new)) i.tree pages → HintsFit areas other (with_draft truth new) i.tree pages
    this i pages h at_root =
        let block : h.block ≡ m.fills.inode_put.block = one_block h.block m.fills.inode_put.block (sym h.chunk ∙ anew_four.here) in
        let same_inode : i ≡ rooted inode m.page = one_inode i (rooted inode m.page) m.fills.inode_put.block.payload (subst (HasInode i) block h.has).spells m.fills.inode_put.is.has.spells in
        let root : i.tree ≡ m.page = ap (λ (x : Inode). x.tree) same_inode in
        subst (λ (r : ℕ). HintsFit areas other (with_draft truth new) r pages) (sym root)
        (fit_other areas other (with_draft truth new) m.page (empty_tree m.page) pages lone (subst (λ (r : ℕ). IsTree (chunks_of areas (with_draft truth new)) r pages) root at_root) lone_fits)

    fits_now : HintsFitAll areas other (with_draft truth new)
    fits_now = fit_still areas other (with_draft truth old) (with_draft truth new) (with_new tree (file_of inode handle body)) handle stands
        (record { given = slots.given; used = used }) (record { inode = rooted inode m.page; holds = holds; each = each }) this fit

  pub file_is_made : MakesFile areas truth old new tree inode body handle
  file_is_made = record {
    unused = unused;
    fresh = gone;
    stands = stands;
    page = m.page;
    holds = holds;
    kept = kept;
    leads = fits_now;
  }

pub makes_in : (areas near : ℕ) (held : Held) (truth : Truth) (old new : List Changed) (tree : Tree) (inode : Inode) (body : Body) → areas ≤ 64 → IsTruth held truth → StandsFor areas (with_draft truth old) tree → IsEmptyBody inode body
    → (result : Result ℕ ChunkError) → MakesAt held old new inode near areas result → MakesIn areas truth old new tree inode body result
makes_in areas near held truth old new tree inode body few same is empty (Ok handle) m = file_is_made areas near held truth old new tree inode body handle few same is empty m
makes_in areas near held truth old new tree inode body few same is empty (Err error) m = by error m
  where
    of_first : (draft : List Changed) → IsChunked areas (with_draft truth draft) → (e : ChunkError) → AllocatesAt held draft draft near areas (Err e) → MakesIn areas truth old new tree inode body (Err e)
    of_first draft chunked (Full spare) x = (allocates_in areas near held truth draft draft few same chunked (Err (Full spare)) x).0
    of_first draft chunked (Need at mode) x = tt
    of_first draft chunked Crowded x = tt
    of_first draft chunked OutOfMemory x = tt
    of_first draft chunked Stale x = x

    of_fills : (e : ChunkError) (two : List Changed) (handle page : ℕ) → FillsAt two two handle page inode (Err e) → MakesIn areas truth old new tree inode body (Err e)
    of_fills (Full spare) two handle page x = absurd x
    of_fills (Need at mode) two handle page x = tt
    of_fills Crowded two handle page x = tt
    of_fills OutOfMemory two handle page x = tt
    of_fills Stale two handle page x = x

    by : (e : ChunkError) → MakesAt held old new inode near areas (Err e) → MakesIn areas truth old new tree inode body (Err e)
    by e (inl first) = of_first old is.chunked e first
    by e (inr (inl second)) =
        let adds : AddsChunk areas (with_draft truth old) (with_draft truth second.one) second.handle = allocates_in areas near held truth old second.one few same is.chunked (Ok second.handle) second.first in
        of_first second.one adds.chunked e second.second
    by e (inr (inr third)) = of_fills e third.two third.handle third.page third.fills
