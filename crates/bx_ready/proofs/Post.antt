-- Separators that are posted, by how a descent ends.
use Rattle.std.proofs.Common.{ℕ, List, [], inr}
use Rattle.std.specs.Prelude.{Err}
use Rattle.bx_blink.specs.Hints.{Under}
use Rattle.bx_blink.specs.declared.error.BlinkError.{BlinkError}
use Rattle.bx_blink.specs.declared.error.BlinkError.TheVariants.{Need, Stale, Full, NoRoom, Absent, Present, OutOfMemory, Crowded}
use Rattle.bx_chunks.specs.Taking.{NoSlots}
use Rattle.bx_leaves.specs.Changes.{NeedsUnheld}
use Rattle.bx_posts.specs.Posts.{NeedsForPost, PostsAt, PostsIn}
use Rattle.bx_records.specs.Drafts.{Changed}
use Rattle.bx_truth.specs.PageTrees.{Node, PageTree}
use Rattle.bx_views.specs.Truths.{Truth, Held, Hints}
use Rattle.bx_ready.specs.Descents.{LeadsWhere}
use Rattle.bx_ready.specs.Separators.{HasSeparators, OnPostForPath, PostsForIn}
use Rattle.bx_ready.specs.Spare.{IfNoSlot}
use Rattle.bx_ready.specs.declared.descents.Descent.TheVariants.{Short}
use Rattle.bx_ready.proofs.Bounds.{post_crowds, post_full}

module _ (areas : ℕ) (held : Held) (hints : Hints) (truth : Truth) (root : ℕ) (tree : PageTree) (key : List ℕ) (u : Under areas held hints truth [] root tree) where
  pub post_error : (near page : ℕ) (new : List Changed) (node : Node) (error : BlinkError) → (HasSeparators tree key → ⊥) → PostsAt held hints [] [] root page near areas (Err error) → PostsIn areas held hints truth [] new root tree node (Err error)
      → PostsForIn areas held hints truth root tree key (Err error)
  post_error near page new node (Need at mode) lacks a p = tt
  post_error near page new node Stale lacks a p = p
  post_error near page new node OutOfMemory lacks a p = tt
  post_error near page new node (Full spare) lacks a p = (post_full areas near held truth u.few u.same u.chunked hints root page spare a, lacks)
  post_error near page new node (NoRoom other) lacks a p = p
  post_error near page new node Absent lacks a p = p
  post_error near page new node Present lacks a p = p
  post_error near page new node Crowded lacks a p = post_crowds held near areas hints root page a

module _ (near areas : ℕ) (held : Held) (hints : Hints) (root : ℕ) (key : List ℕ) where
  pub post_fair : (X : Type 0) (page : ℕ) (error : BlinkError) → LeadsWhere held root key (Short page) → NeedsForPost held hints [] root page near areas (Err error) → NeedsUnheld {X = X} held (OnPostForPath near areas held hints root key) (Err error)
  post_fair X page (Need at mode) w n = (n.0, inr (record { page = page; short = w; on = n.1 }))
  post_fair X page Stale w n = tt
  post_fair X page OutOfMemory w n = tt
  post_fair X page (Full spare) w n = tt
  post_fair X page (NoRoom other) w n = tt
  post_fair X page Absent w n = tt
  post_fair X page Present w n = tt
  post_fair X page Crowded w n = tt

-- where no slot is left
pub post_ends : (near areas : ℕ) (held : Held) (hints : Hints) (root page : ℕ) (X : Type 0) (error : BlinkError) → NeedsForPost held hints [] root page near areas (Err error) → IfNoSlot {X = X} (NoSlots held near areas []) (Err error)
post_ends near areas held hints root page X (Need at mode) n = tt
post_ends near areas held hints root page X Stale n = tt
post_ends near areas held hints root page X OutOfMemory n = tt
post_ends near areas held hints root page X (Full spare) n = n
post_ends near areas held hints root page X (NoRoom other) n = tt
post_ends near areas held hints root page X Absent n = tt
post_ends near areas held hints root page X Present n = tt
post_ends near areas held hints root page X Crowded n = tt
