-- What is written first leaves the files as they are.
use Rattle.std.proofs.Common.{ℕ, List, [], Option, Some, None, sym, subst, inl, inr}
use Rattle.std.specs.Prelude.{Result, Ok, Err, IfOk, IfSome, ◌⊎◌}
use Rattle.bx_blink.specs.Hints.{Under}
use Rattle.bx_blink.specs.declared.error.BlinkError.{BlinkError}
use Rattle.bx_ready.specs.Keeping.{KeepsFiles}
use Rattle.bx_ready.proofs.Kept.{post_keeps, split_keeps}
use Rattle.bx_inodes.specs.Pages.{HasPages}
use Rattle.bx_inodes.proofs.Pages.{has_pages}
use Rattle.bx_model.specs.declared.tree.Tree.{Tree}
use Rattle.bx_posts.specs.Posts.{PostsPage}
use Rattle.bx_records.specs.Drafts.{Changed}
use Rattle.bx_posts.specs.bx_splits.specs.Splits.{SplitsPage}
use Rattle.bx_truth.specs.PageTrees.{PageTree}
use Rattle.bx_views.specs.Truths.{Truth, Held, Hints}
use Rattle.bx_ready.specs.Ready.{IsFileUnder, ReadiesIn, SplitsReady}
use Rattle.bx_ready.specs.Separators.{PostsMissing}

module _ (areas : ℕ) (held : Held) (hints : Hints) (truth : Truth) (root : ℕ) (tree : Tree) (key : List ℕ) (f : IsFileUnder areas held hints truth root tree) where
  pages : HasPages areas held hints truth [] tree f.is f.handle f.inode f.file
  pages = has_pages areas held hints truth [] tree f.handle f.inode f.file f.few f.same f.is f.fit f.holds f.there f.no_link

  under : Under areas held hints truth [] root (pages.pages)
  under = subst (λ (r : ℕ). Under areas held hints truth [] r (pages.pages)) f.root_is pages.under

  posts : (new : List Changed) → PostsMissing areas held hints truth new root (pages.pages) key → KeepsFiles areas truth [] new tree
  posts new p =
      post_keeps areas held hints truth [] new tree f.handle f.inode f.file pages.pages f.is f.holds f.there (pages.under).is p.node p.posted
      (subst (λ (r : ℕ). PostsPage areas held hints truth [] new r (pages.pages) p.node p.posted) (sym f.root_is) p.posts)

  splits : (new : List Changed) → SplitsReady areas held hints truth new root (pages.pages) key → KeepsFiles areas truth [] new tree
  splits new s =
      split_keeps areas held hints truth [] new tree f.handle f.inode f.file pages.pages f.is f.holds f.there (pages.under).is (s.splits).handle
      (subst (λ (r : ℕ). SplitsPage areas held hints truth [] new r (pages.pages) (s.splits).handle) (sym f.root_is) (s.splits).splits)

  pub keeps : (result : Result (Option (List Changed)) BlinkError) → ((pages : PageTree) → Under areas held hints truth [] root pages → ReadiesIn areas held hints truth root pages key result)
      → IfOk result (λ found. IfSome found (λ new. KeepsFiles areas truth [] new tree))
  keeps (Err error) r = tt
  keeps (Ok None) r = tt
  keeps (Ok (Some new)) r = by (r pages.pages under)
    where
      by : PostsMissing areas held hints truth new root (pages.pages) key ⊎ SplitsReady areas held hints truth new root (pages.pages) key → KeepsFiles areas truth [] new tree
      by (inl p) = posts new p
      by (inr s) = splits new s
