-- What is to be written first, by what posting and splitting answer.
use Rattle.std.proofs.Common.{ℕ, List, Option, Some, None, inl, inr}
use Rattle.std.specs.Prelude.{Result, Ok, Err}
use Rattle.bx_base.specs.declared.names.Mode.{Mode}
use Rattle.bx_blink.specs.declared.error.BlinkError.{BlinkError}
use Rattle.bx_blink.specs.declared.error.BlinkError.TheVariants.{Need, Stale, Full, NoRoom, Absent, Present, OutOfMemory, Crowded}
use Rattle.bx_leaves.specs.Changes.{NeedsUnheld}
use Rattle.bx_records.specs.Drafts.{Changed}
use Rattle.bx_truth.specs.PageTrees.{PageTree}
use Rattle.bx_views.specs.Truths.{Truth, Held, Hints}
use Rattle.bx_ready.specs.Ready.{OnReadyPath, ReadiesIn}
use Rattle.bx_ready.specs.Rooms.{OnSplitPath, SplitsForIn}
use Rattle.bx_ready.specs.Separators.{HasSeparators, OnPostForPath, PostsForIn}

module _ (areas : ℕ) (held : Held) (hints : Hints) (truth : Truth) (root : ℕ) (tree : PageTree) (key : List ℕ) where
  pub post_fails : (error : BlinkError) → PostsForIn areas held hints truth root tree key (Err error) → ReadiesIn areas held hints truth root tree key (Err error)
  post_fails (Need at mode) p = tt
  post_fails Stale p = p
  post_fails OutOfMemory p = tt
  post_fails (Full spare) p = (p.0, λ ready. p.1 ready.posted)
  post_fails (NoRoom leaf) p = p
  post_fails Absent p = p
  post_fails Present p = p
  post_fails Crowded p = p

  pub then_splits : HasSeparators tree key → (result : Result (Option (List Changed)) BlinkError) → SplitsForIn areas held hints truth root tree key result → ReadiesIn areas held hints truth root tree key result
  then_splits posted (Ok (Some new)) s = inr (record { posted = posted; splits = s })
  then_splits posted (Ok None) s = record { posted = posted; room = s }
  then_splits posted (Err (Need at mode)) s = tt
  then_splits posted (Err Stale) s = s
  then_splits posted (Err OutOfMemory) s = tt
  then_splits posted (Err (Full spare)) s = (s.0, λ ready. s.1 ready.room)
  then_splits posted (Err (NoRoom leaf)) s = s
  then_splits posted (Err Absent) s = s
  then_splits posted (Err Present) s = s
  then_splits posted (Err Crowded) s = s

-- what is needed for one is needed for both
pub wider : {X : Type 0} (held : Held) (P Q : ℕ → Mode → Type 0) → ((at : ℕ) (mode : Mode) → P at mode → Q at mode) → (result : Result X BlinkError) → NeedsUnheld held P result → NeedsUnheld held Q result
wider held P Q f (Ok value) n = tt
wider held P Q f (Err (Need at mode)) n = (n.0, f at mode n.1)
wider held P Q f (Err Stale) n = tt
wider held P Q f (Err OutOfMemory) n = tt
wider held P Q f (Err (Full spare)) n = tt
wider held P Q f (Err (NoRoom leaf)) n = tt
wider held P Q f (Err Absent) n = tt
wider held P Q f (Err Present) n = tt
wider held P Q f (Err Crowded) n = tt

module _ (near areas : ℕ) (held : Held) (hints : Hints) (root : ℕ) (key : List ℕ) where
  pub posting_fair : (result : Result (Option (List Changed)) BlinkError) → NeedsUnheld held (OnPostForPath near areas held hints root key) result → NeedsUnheld held (OnReadyPath near areas held hints root key) result
  posting_fair result n = wider held (OnPostForPath near areas held hints root key) (OnReadyPath near areas held hints root key) (λ at mode p. inl p) result n

  pub splitting_fair : (result : Result (Option (List Changed)) BlinkError) → NeedsUnheld held (OnSplitPath near areas held hints root key) result → NeedsUnheld held (OnReadyPath near areas held hints root key) result
  splitting_fair result n = wider held (OnSplitPath near areas held hints root key) (OnReadyPath near areas held hints root key) (λ at mode p. inr p) result n
