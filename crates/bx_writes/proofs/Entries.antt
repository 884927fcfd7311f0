-- Pieces that aren't there, over drafts of pieces: what they ask for, and what they leave.
use Rattle.std.proofs.Common.{◌≡◌, ◌∙◌, ℕ, ◌+◌, ◌<◌, arith, List, [], Option, None, Some, refl, sym, subst, inl, inr}
use Rattle.std.specs.Prelude.{IfErr, IfOk, Result, Ok, Err}
use Rattle.bx_changes.specs.Stopping.{StopsChange}
use Rattle.bx_blink.specs.Walks.{reads_with}
use Rattle.bx_blink.specs.declared.error.BlinkError.{BlinkError}
use Rattle.bx_blink.specs.declared.error.BlinkError.TheVariants as tree_error
use Rattle.bx_changes.specs.Growing.{IfFull, NeedsBy}
use Rattle.bx_changes.specs.declared.error.ChangeError.{ChangeError}
use Rattle.bx_changes.specs.declared.error.ChangeError.TheVariants.{Stopped, Full}
use Rattle.bx_chunks.specs.Allocating.{AllocatesAt, NeedsFairly}
use Rattle.bx_chunks.specs.Taking.{NoSlots}
use Rattle.bx_chunks.specs.declared.error.ChunkError.{ChunkError}
use Rattle.bx_chunks.specs.declared.error.ChunkError.TheVariants as chunk
use Rattle.bx_files.specs.Paths.{LandsAtValue}
use Rattle.bx_layout.specs.declared.inode.Inode.{Inode}
use Rattle.bx_leaves.specs.Changes.{NeedsUnheld}
use Rattle.bx_leaves.specs.Leaves.{InsertsAt, OnLeafPath}
use Rattle.bx_records.specs.Drafts.{Changed}
use Rattle.bx_truth.specs.Keys.{content_key}
use Rattle.bx_views.specs.Truths.{Held, Hints}
use Rattle.bx_writes.specs.Laid.{FoundBy, IsLaid, LacksSlot, NoneLeft, OnAnew, TakesPiece, alone, entry, over, slot}
use Rattle.bx_writes.specs.Laying.{InodeAlone}
use Rattle.bx_writes.specs.Steps.{PutsBlock}
use Rattle.bx_changes.specs.Stopping.{StopsByChunks}

-- ---- the slot

module _ (held : Held) (hints : Hints) (near areas handle root index : ℕ) (draft : List Changed) (laid : IsLaid held hints near areas handle root draft) where
  pub slot_needs : (error : ChunkError) (stop : ChangeError) → NeedsFairly {X = ℕ} areas held (Err error) → AllocatesAt held draft draft near areas (Err error) → StopsByChunks error stop
      → NeedsBy areas held (OnAnew held hints near areas handle root index) stop
  slot_needs (chunk.Need at mode) stop n a s = subst (NeedsBy areas held (OnAnew held hints near areas handle root index)) (sym s) (n.0, n.1, slot draft at mode laid a)
  slot_needs (chunk.Full spare) stop n a s = subst (NeedsBy areas held (OnAnew held hints near areas handle root index)) (sym s) tt
  slot_needs chunk.OutOfMemory stop n a s = subst (NeedsBy areas held (OnAnew held hints near areas handle root index)) (sym s) tt
  slot_needs chunk.Stale stop n a s = subst (NeedsBy areas held (OnAnew held hints near areas handle root index)) (sym s) tt
  slot_needs chunk.Crowded stop n a s = subst (NeedsBy areas held (OnAnew held hints near areas handle root index)) (sym s) tt

  pub slot_full : (error : ChunkError) (stop : ChangeError) → AllocatesAt held draft draft near areas (Err error) → StopsByChunks error stop → IfFull (NoneLeft held hints near areas handle root) stop
  slot_full (chunk.Need at mode) stop a s = subst (IfFull (NoneLeft held hints near areas handle root)) (sym s) tt
  slot_full (chunk.Full spare) stop a s = subst (IfFull (NoneLeft held hints near areas handle root)) (sym s) (inr (draft, laid, a))
  slot_full chunk.OutOfMemory stop a s = subst (IfFull (NoneLeft held hints near areas handle root)) (sym s) tt
  slot_full chunk.Stale stop a s = subst (IfFull (NoneLeft held hints near areas handle root)) (sym s) tt
  slot_full chunk.Crowded stop a s = subst (IfFull (NoneLeft held hints near areas handle root)) (sym s) tt

  -- ---- the entry

  pub entry_needs : (mid : List Changed) (names : ℕ) (key : List ℕ) → key ≡ content_key index → TakesPiece held near areas draft mid names → (error : BlinkError) (stop : ChangeError)
      → NeedsUnheld {X = Unit {0}} held (OnLeafPath (reads_with held hints mid) root key) (Err error) → StopsChange areas error stop → NeedsBy areas held (OnAnew held hints near areas handle root index) stop
  entry_needs mid names key key_is takes (tree_error.Need at mode) stop n (inl s) = subst (NeedsBy areas held (OnAnew held hints near areas handle root index)) (sym s.1)
      (s.0, n.0, entry draft mid names at mode laid takes (subst (λ (k : List ℕ). OnLeafPath (reads_with held hints mid) root k at mode) key_is n.1))
  entry_needs mid names key key_is takes (tree_error.Need at mode) stop n (inr s) = subst (NeedsBy areas held (OnAnew held hints near areas handle root index)) (sym s.1) tt
  entry_needs mid names key key_is takes (tree_error.Full spare) stop n s = subst (NeedsBy areas held (OnAnew held hints near areas handle root index)) (sym s) tt
  entry_needs mid names key key_is takes tree_error.OutOfMemory stop n s = subst (NeedsBy areas held (OnAnew held hints near areas handle root index)) (sym s) tt
  entry_needs mid names key key_is takes tree_error.Stale stop n s = subst (NeedsBy areas held (OnAnew held hints near areas handle root index)) (sym s) tt
  entry_needs mid names key key_is takes tree_error.Absent stop n s = subst (NeedsBy areas held (OnAnew held hints near areas handle root index)) (sym s) tt
  entry_needs mid names key key_is takes tree_error.Present stop n s = subst (NeedsBy areas held (OnAnew held hints near areas handle root index)) (sym s) tt
  entry_needs mid names key key_is takes (tree_error.NoRoom leaf) stop n s = subst (NeedsBy areas held (OnAnew held hints near areas handle root index)) (sym s) tt
  entry_needs mid names key key_is takes tree_error.Crowded stop n s = subst (NeedsBy areas held (OnAnew held hints near areas handle root index)) (sym s) tt

  -- a piece that is there
  pub over_laid : (new : List Changed) (names : ℕ) (payload : List ℕ) (found : Option ℕ) → found ≡ Some names → FoundBy held hints root index found → PutsBlock draft names payload new → IsLaid held hints near areas handle root new
  over_laid new names payload None some f puts = absurd cc
  over_laid new names payload (Some other) some f puts =
      let one : other ≡ names = cc in
      over draft new index f.0 payload laid f.1 (subst (λ (n : ℕ). PutsBlock draft n payload new) (sym one ∙ f.2) puts)

-- an entry that is put takes no slot
pub entry_full : (held : Held) (hints : Hints) (areas : ℕ) (mid new : List Changed) (root : ℕ) (key value : List ℕ) (Holds : ℕ → Type 0) (error : BlinkError) (stop : ChangeError) → InsertsAt held hints mid new root key value (Err error)
    → StopsChange areas error stop → IfFull Holds stop
entry_full held hints areas mid new root key value Holds (tree_error.Need at mode) stop i (inl s) = subst (IfFull Holds) (sym s.1) tt
entry_full held hints areas mid new root key value Holds (tree_error.Need at mode) stop i (inr s) = subst (IfFull Holds) (sym s.1) tt
entry_full held hints areas mid new root key value Holds (tree_error.Full spare) stop i s = absurd i
entry_full held hints areas mid new root key value Holds tree_error.OutOfMemory stop i s = subst (IfFull Holds) (sym s) tt
entry_full held hints areas mid new root key value Holds tree_error.Stale stop i s = subst (IfFull Holds) (sym s) tt
entry_full held hints areas mid new root key value Holds tree_error.Absent stop i s = subst (IfFull Holds) (sym s) tt
entry_full held hints areas mid new root key value Holds tree_error.Present stop i s = subst (IfFull Holds) (sym s) tt
entry_full held hints areas mid new root key value Holds (tree_error.NoRoom leaf) stop i s = subst (IfFull Holds) (sym s) tt
entry_full held hints areas mid new root key value Holds tree_error.Crowded stop i s = subst (IfFull Holds) (sym s) tt

-- ---- all pieces

-- the inode alone
pub alone_is : (held : Held) (hints : Hints) (near areas handle : ℕ) (inode : Inode) (result : Result (List Changed) ChangeError) → InodeAlone handle inode result → IfOk result (IsLaid held hints near areas handle inode.tree)
alone_is held hints near areas handle inode (Ok draft) puts = alone draft inode refl puts
alone_is held hints near areas handle inode (Err error) a = tt

pub alone_full : (Holds : ℕ → Type 0) (handle : ℕ) (inode : Inode) (result : Result (List Changed) ChangeError) → InodeAlone handle inode result → IfErr result (IfFull Holds)
alone_full Holds handle inode (Ok draft) a = tt
alone_full Holds handle inode (Err (Stopped stop)) a = tt
alone_full Holds handle inode (Err (Full spare)) a = absurd a

module _ (held : Held) (hints : Hints) (near areas handle root index count : ℕ) (some : 0 < count) where
  pub first_full : (error : ChangeError) → IfFull (λ spare. LandsAtValue held hints root (content_key index) None × NoSlots held near areas [] spare) error → IfFull (LacksSlot held hints near areas handle root index (index + count)) error
  first_full (Stopped stop) f = tt
  first_full (Full spare) f = record { index = index; above = omega arith; below = omega (arith, some); missing = f.0; none = inl f.1 }

  pub put_full : (result : Result (List Changed) ChangeError) → IfErr result (IfFull (λ spare. LandsAtValue held hints root (content_key index) None × NoneLeft held hints near areas handle root spare))
      → IfErr result (IfFull (LacksSlot held hints near areas handle root index (index + count)))
  put_full (Ok draft) f = tt
  put_full (Err (Stopped stop)) f = tt
  put_full (Err (Full spare)) f = record { index = index; above = omega arith; below = omega (arith, some); missing = f.0; none = f.1 }

  pub rest_full : (few : ℕ) → few + 1 ≡ count → (error : ChangeError) → IfFull (LacksSlot held hints near areas handle root (index + 1) (index + 1 + few)) error → IfFull (LacksSlot held hints near areas handle root index (index + count)) error
  rest_full few same (Stopped stop) f = tt
  rest_full few same (Full spare) f = let above = f.above in let below = f.below in record { index = f.index; above = omega (arith, above); below = omega (arith, below, same); missing = f.missing; none = f.none }
