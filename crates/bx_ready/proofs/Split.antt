-- Full leaves that are split.
use Rattle.std.proofs.Common.{◌≡◌, ℕ, ◌+◌, ◌<◌, ◌⊎◌, arith, List, [], inl, inr, sym, ap, ◌∙◌, subst, refl, Some, None, Err}
use Rattle.bx_base.specs.declared.names.Mode.{Mode}
use Rattle.bx_base.specs.declared.names.Mode.TheVariants.{Exclusive}
use Rattle.bx_blink.specs.Hints.{Under}
use Rattle.bx_blink.specs.Places.{IsPlaceOf}
use Rattle.bx_blink.specs.Walks.{Reads, most, reads_with, start}
use Rattle.bx_blink.specs.declared.error.BlinkError.{BlinkError}
use Rattle.bx_blink.specs.declared.error.BlinkError.TheVariants.{Need, Stale, Full, NoRoom, Absent, Present, OutOfMemory, Crowded}
use Rattle.bx_blink.specs.declared.steps.End.TheVariants.{Lost}
use Rattle.bx_blink.proofs.Found.{place}
use Rattle.bx_blink.proofs.Landings.{landing}
use Rattle.bx_blink.proofs.Tired.{never_lost}
use Rattle.bx_blink.proofs.Under.{agrees}
use Rattle.bx_chunks.specs.Taking.{NoSlots, OnSlots}
use Rattle.bx_layout.specs.declared.block.Block.{Block}
use Rattle.bx_leaves.specs.Changes.{NeedsUnheld}
use Rattle.bx_leaves.specs.Leaves.{IsLeafAt, LeafEnds}
use Rattle.bx_leaves.proofs.Fair.{Shares, removes_fair}
use Rattle.bx_page.specs.Contents.{Contents, size}
use Rattle.bx_page.proofs.Whole.{one_page}
use Rattle.bx_truth.specs.Chunks.{block_at, chunks_of}
use Rattle.bx_records.specs.Drafts.{Changed}
use Rattle.bx_truth.specs.PageTrees.{HasPage, PageTree}
use Rattle.bx_views.specs.Attempts.{IsHeldDraft}
use Rattle.bx_views.specs.Truths.{Truth, Held, Hints, with_draft}
use Rattle.bx_posts.specs.bx_splits.specs.Cutting.{IsOwnPage, NeedsForSplit, SplitsAt}
use Rattle.bx_posts.specs.bx_splits.specs.Splits.{SplitsIn}
use Rattle.bx_ready.specs.Rooms.{FindsFull, LeafHasRoom, LandsFull, OnSplitPath, SplitsForIn}
use Rattle.bx_ready.specs.Spare.{IfNoSlot}
use Rattle.bx_ready.proofs.Bounds.{split_crowds, split_full}

some_same : (a b : Block) → Some a ≡ Some b → a ≡ b
some_same a b e = cc

same_page : (a b : Block) (p q : Contents) → a ≡ b → HasPage p a → HasPage q b → p ≡ q
same_page a b p q e hp hq = one_page p q b.payload (subst (λ (x : Block). HasPage p x) e hp).spells hq.spells

-- what is held exclusively at a full leaf is full
pub full_owned : (held : Held) (hints : Hints) (root : ℕ) (key : List ℕ) (handle : ℕ) → Shares held → LandsFull (reads_with held hints []) root key handle
    → (contents : Contents) → IsOwnPage (reads_with held hints []) handle contents → 4096 < size contents + 544
full_owned held hints root key handle shares f contents o =
    let reads : Reads = reads_with held hints [] in
    let l = landing reads 0 Exclusive key most (start root Exclusive) handle f.page f.leaf.end in
    let same : f.page ≡ contents = same_page l.block o.block f.page contents (some_same l.block o.block (sym l.there ∙ shares _ o.block o.there)) l.has o.has in
    let sizes : size f.page ≡ size contents = ap size same in
    let full = f.full in
    omega (arith, sizes, full)

-- an empty draft is held
pub none_held : (held : Held) → IsHeldDraft held []
none_held held = record { each = λ at some. absurd cc; parts = λ are at block some. absurd cc }

module _ (areas : ℕ) (held : Held) (hints : Hints) (truth : Truth) (root : ℕ) (tree : PageTree) (key : List ℕ) (u : Under areas held hints truth [] root tree) where
  pub place_of : (handle : ℕ) (page : Contents) → IsLeafAt (reads_with held hints []) root key handle page → IsPlaceOf tree 0 key handle page
  place_of handle page l =
      place areas (reads_with held hints []) (chunks_of areas (with_draft truth [])) root tree 0 Exclusive key (agrees areas held hints truth [] root tree u) (omega arith) handle page l.end

  not_lost : LeafEnds (reads_with held hints []) root key Lost → ⊥
  not_lost e =
      let a = agrees areas held hints truth [] root tree u in
      never_lost areas (reads_with held hints []) (chunks_of areas (with_draft truth [])) root tree 0 Exclusive key a.few a.sees a.is a.hints 61440 refl (omega arith) e

  pub walk_error : (error : BlinkError) → FindsFull (reads_with held hints []) root key (Err error) → SplitsForIn areas held hints truth root tree key (Err error)
  walk_error (Need at mode) f = tt
  walk_error Stale f = not_lost f
  walk_error OutOfMemory f = tt
  walk_error (Full spare) f = absurd f
  walk_error (NoRoom leaf) f = f
  walk_error Absent f = f
  walk_error Present f = f
  walk_error Crowded f = absurd f

  pub split_error : (near : ℕ) (new : List Changed) (leaf : ℕ) (error : BlinkError) → (LeafHasRoom tree key → ⊥) → SplitsAt held hints [] [] root leaf near areas (Err error) → SplitsIn areas held hints truth [] new root tree leaf (Err error)
      → SplitsForIn areas held hints truth root tree key (Err error)
  split_error near new leaf (Need at mode) lacks a s = tt
  split_error near new leaf Stale lacks a s = s
  split_error near new leaf OutOfMemory lacks a s = tt
  split_error near new leaf (Full spare) lacks a s = (split_full areas near held truth u.few u.same u.chunked hints root leaf spare a, lacks)
  split_error near new leaf (NoRoom other) lacks a s = s
  split_error near new leaf Absent lacks a s = s
  split_error near new leaf Present lacks a s = s
  split_error near new leaf Crowded lacks a s = split_crowds held near areas hints root leaf a

-- ---- what is needed

module _ (near areas : ℕ) (held : Held) (hints : Hints) (root : ℕ) (key : List ℕ) (shares : Shares held) where
  pub walk_fair : (X : Type 0) (error : BlinkError) → FindsFull (reads_with held hints []) root key (Err error) → NeedsUnheld {X = X} held (OnSplitPath near areas held hints root key) (Err error)
  walk_fair X (Need at mode) f = let n = removes_fair held hints [] root key shares [] (Err (Need at mode)) f in (n.0, inl n.1)
  walk_fair X Stale f = tt
  walk_fair X OutOfMemory f = tt
  walk_fair X (Full spare) f = tt
  walk_fair X (NoRoom leaf) f = tt
  walk_fair X Absent f = tt
  walk_fair X Present f = tt
  walk_fair X Crowded f = tt

  -- the leaf itself is held
  leaf_held : (leaf at : ℕ) (mode : Mode) → LandsFull (reads_with held hints []) root key leaf → at ≡ block_at leaf → mode ≡ Exclusive → held at mode ≡ None → ⊥
  leaf_held leaf at mode f at_is mode_is none =
      let both : None ≡ Some f.leaf.block = sym none ∙ ap (λ (m : Mode). held at m) mode_is ∙ ap (λ (n : ℕ). held n Exclusive) at_is ∙ f.leaf.held in absurd cc

  pub split_fair : (X : Type 0) (leaf : ℕ) (error : BlinkError) → LandsFull (reads_with held hints []) root key leaf → NeedsForSplit held near areas [] leaf (Err error) → NeedsUnheld {X = X} held (OnSplitPath near areas held hints root key) (Err error)
  split_fair X leaf (Need at mode) f n = (n.0, by n.1)
    where
      by : ((at ≡ block_at leaf) × (mode ≡ Exclusive)) ⊎ OnSlots held near areas [] at mode → OnSplitPath near areas held hints root key at mode
      by (inl e) = absurd (leaf_held leaf at mode f e.0 e.1 n.0)
      by (inr on) = inr on
  split_fair X leaf Stale f n = tt
  split_fair X leaf OutOfMemory f n = tt
  split_fair X leaf (Full spare) f n = tt
  split_fair X leaf (NoRoom other) f n = tt
  split_fair X leaf Absent f n = tt
  split_fair X leaf Present f n = tt
  split_fair X leaf Crowded f n = tt

-- ---- where no slot is left

pub walk_full : (Holds : ℕ → Type 0) (held : Held) (hints : Hints) (root : ℕ) (key : List ℕ) (X : Type 0) (error : BlinkError) → FindsFull (reads_with held hints []) root key (Err error) → IfNoSlot {X = X} Holds (Err error)
walk_full Holds held hints root key X (Need at mode) f = tt
walk_full Holds held hints root key X Stale f = tt
walk_full Holds held hints root key X OutOfMemory f = tt
walk_full Holds held hints root key X (Full spare) f = absurd f
walk_full Holds held hints root key X (NoRoom leaf) f = tt
walk_full Holds held hints root key X Absent f = tt
walk_full Holds held hints root key X Present f = tt
walk_full Holds held hints root key X Crowded f = tt

pub split_ends : (near areas : ℕ) (held : Held) (leaf : ℕ) (X : Type 0) (error : BlinkError) → NeedsForSplit held near areas [] leaf (Err error) → IfNoSlot {X = X} (NoSlots held near areas []) (Err error)
split_ends near areas held leaf X (Need at mode) n = tt
split_ends near areas held leaf X Stale n = tt
split_ends near areas held leaf X OutOfMemory n = tt
split_ends near areas held leaf X (Full spare) n = n
split_ends near areas held leaf X (NoRoom other) n = tt
split_ends near areas held leaf X Absent n = tt
split_ends near areas held leaf X Present n = tt
split_ends near areas held leaf X Crowded n = tt
