-- What a post needs isn't held and is on its path, and what it puts are blocks that are held exclusively.
use Rattle.std.proofs.Common.{◌≡◌, ℕ, Bool, true, false, List, Option, Some, None, refl, sym, subst, ◌∙◌, inl, inr}
use Rattle.std.specs.Prelude.{Result, Ok, Err, IsSome, OnOk}
use Rattle.std.specs.Option.{option_or}
use Rattle.bx_base.specs.declared.names.Mode.{Mode}
use Rattle.bx_base.specs.declared.names.Mode.TheVariants.{Shared, Exclusive}
use Rattle.bx_layout.specs.declared.block.Block.{Block}
use Rattle.bx_records.specs.Drafts.{Changed, block_in}
use Rattle.bx_page.specs.Contents.{Contents}
use Rattle.bx_truth.specs.Chunks.{block_at}
use Rattle.bx_views.specs.Attempts.{IsHeldDraft}
use Rattle.bx_views.specs.Truths.{Held, Hints}
use Rattle.bx_chunks.specs.Taking.{NoSlots}
use Rattle.bx_chunks.proofs.FairNeeds.{Shares}
use Rattle.bx_chunks.proofs.TakenSlots.{slots_unheld}
use Rattle.bx_blink.specs.declared.error.BlinkError.{BlinkError}
use Rattle.bx_blink.specs.declared.error.BlinkError.TheVariants.{Need, Stale, Full, NoRoom, Absent, Present, OutOfMemory, Crowded}
use Rattle.bx_blink.specs.Walks.{Reads, reads_with, passes, most, start}
use Rattle.bx_blink.proofs.Landings.{landing}
use Rattle.bx_blink.proofs.Paths.{needs, not_led}
use Rattle.bx_splits.specs.bx_leaves.proofs.Fair.{page_held, seen_held}
use Rattle.bx_splits.specs.declared.halves.Halves.{Halves}
use Rattle.bx_splits.specs.Halves.{half_in}
use Rattle.bx_splits.proofs.SplitFair.{halves_full, halves_held, halves_need}
use Rattle.bx_posts.specs.declared.posting.Posted.{Posted}
use Rattle.bx_posts.specs.declared.posting.Posted.TheVariants.{Put, SplitAlone}
use Rattle.bx_posts.specs.declared.separators.Separator.{Separator}
use Rattle.bx_posts.specs.Parents.{NeedsParent, OnParentPath, PutsAt, PutsInHalf, PutsInParent}
use Rattle.bx_posts.specs.Posts.{NeedsForPost, OnPostPath, page, parent, slot, PostsAt}

none_left : (o held : Option Block) → option_or o held ≡ None → held ≡ None
none_left None held e = e
none_left (Some block) held e = absurd cc

none_exclusive : (held : Held) (at : ℕ) → Shares held → held at Shared ≡ None → (mode : Mode) → held at mode ≡ None
none_exclusive held at shares none Shared = none
none_exclusive held at shares none Exclusive = by_held (held at Exclusive) refl
  where
    by_held : (o : Option Block) → held at Exclusive ≡ o → held at Exclusive ≡ None
    by_held None e = e
    by_held (Some block) e = let both : None ≡ Some block = sym none ∙ shares at block e in absurd cc

module _ (areas near : ℕ) (held : Held) (hints : Hints) (old : List Changed) (root handle : ℕ) (shares : Shares held) where
  abbrev reads : Reads
  reads = reads_with held hints old

  parent_fair : (separator : Separator) (at : ℕ) (mode : Mode) → NeedsParent (reads_with held hints old) root separator.level separator.key at mode → (held at mode ≡ None) × OnParentPath (reads_with held hints old) root separator.level separator.key at mode
  parent_fair separator at mode (inl e) =
      let path = OnParentPath reads root separator.level separator.key in
      let n = needs reads separator.level Exclusive separator.key path most (start root Exclusive) at mode e (not_led reads path root Exclusive) (λ a m o. o) in
      (none_exclusive held at shares (none_left (block_in old at) (held at Shared) n.0) mode, n.1)
  parent_fair separator at mode (inr s) =
      let l = landing reads separator.level Exclusive separator.key most (start root Exclusive) s.handle s.page s.end in
      subst (λ (m : Mode). (held at m ≡ None) × OnParentPath reads root separator.level separator.key at m) (sym s.mode_is)
      (subst (λ (a : ℕ). (held a Exclusive ≡ None) × OnParentPath reads root separator.level separator.key a Exclusive) (sym s.at_is)
      (none_left (block_in old (block_at s.handle)) (held (block_at s.handle) Exclusive) s.none, l.path))

  put_fair : (contents : Contents) (p : ℕ) (separator : Separator) (at : ℕ) (mode : Mode) → PutsInParent held old old root p contents separator near areas (Err (Need at mode)) → (held at mode ≡ None) × OnPostPath held hints old root handle near areas at mode
  put_fair contents p separator at mode s = elim s [
    | inl r ↦ absurd r.1
    | inr t ↦ elim t.1 [
      | inl h ↦ (let n = halves_need areas near held old old root p contents at mode h in (slots_unheld held near areas old at mode shares n, slot at mode n))
      | inr q ↦ absurd q.puts
    ]
  ]

  put_full : (contents : Contents) (p : ℕ) (separator : Separator) (spare : ℕ) → PutsInParent held old old root p contents separator near areas (Err (Full spare)) → NoSlots held near areas old spare
  put_full contents p separator spare s = elim s [
    | inl r ↦ absurd r.1
    | inr t ↦ elim t.1 [
      | inl h ↦ halves_full areas near held old old root p contents spare h
      | inr q ↦ absurd q.puts
    ]
  ]

  pub post_fair : (new : List Changed) (result : Result Posted BlinkError) → PostsAt held hints old new root handle near areas result → NeedsForPost held hints old root handle near areas result
  post_fair new (Err (Need at mode)) s = elim s [
    | inl o ↦ subst (λ (m : Mode). (held at m ≡ None) × OnPostPath held hints old root handle near areas at m) (sym o.1)
        (subst (λ (a : ℕ). (held a Shared ≡ None) × OnPostPath held hints old root handle near areas a Shared) (sym o.0) (none_left (block_in old (block_at handle)) (held (block_at handle) Shared) o.2, page))
    | inr r ↦ elim r [
      | inl l ↦ (let f = parent_fair l.separator at mode l.fails in (f.0, parent l.separator at mode l.shows f.1))
      | inr t ↦ put_fair t.page t.parent t.separator at mode t.puts
    ]
  ]
  post_fair new (Err Stale) s = tt
  post_fair new (Err (Full spare)) s = elim s [
    | inl o ↦ absurd o
    | inr r ↦ elim r [
      | inl l ↦ absurd l.fails
      | inr t ↦ put_full t.page t.parent t.separator spare t.puts
    ]
  ]
  post_fair new (Err (NoRoom leaf)) s = tt
  post_fair new (Err Absent) s = tt
  post_fair new (Err Present) s = tt
  post_fair new (Err OutOfMemory) s = tt
  post_fair new (Err Crowded) s = tt
  post_fair new (Ok posted) s = tt

-- ---- what is put is held exclusively

put_held : (held : Held) (old new : List Changed) (h : ℕ) (contents : Contents) (separator : Separator) (posted : Posted) → IsHeldDraft held old → IsSome (held (block_at h) Exclusive) → PutsAt old new h contents separator (Ok posted) → IsHeldDraft held new
put_held held old new h contents separator Put before there s = page_held held old new h _ before there s
put_held held old new h contents separator SplitAlone before there s = subst (λ (d : List Changed). IsHeldDraft held d) (sym s.0) before

half_there : (held : Held) (halves : Halves) (key : List ℕ) → IsSome (held (block_at halves.left) Exclusive) → IsSome (held (block_at halves.right) Exclusive) → IsSome (held (block_at (half_in halves key).0) Exclusive)
half_there held halves key left right = by_test (passes halves.first key) refl
  where
    by_test : (b : Bool) → passes halves.first key ≡ b → IsSome (held (block_at (half_in halves key).0) Exclusive)
    by_test false e = rw e left
    by_test true e = rw e right

module _ (areas near : ℕ) (held : Held) (hints : Hints) (old new : List Changed) (root handle : ℕ) (before : IsHeldDraft held old) where
  in_half_held : (p : ℕ) (contents : Contents) (separator : Separator) (posted : Posted) → IsSome (held (block_at p) Exclusive) → PutsInHalf held old new root p contents separator near areas (Ok posted) → IsHeldDraft held new
  in_half_held p contents separator posted there q =
      let h = halves_held areas near held old q.mid root p contents before there q.halves q.splits in
      put_held held q.mid new (half_in q.halves separator.key).0 (half_in q.halves separator.key).1 separator posted h.0 (half_there held q.halves separator.key h.1 h.2) q.puts

  there_held : (p : ℕ) (contents : Contents) (separator : Separator) (posted : Posted) → IsSome (held (block_at p) Exclusive) → PutsInParent held old new root p contents separator near areas (Ok posted) → IsHeldDraft held new
  there_held p contents separator Put there s = elim s [ inl r ↦ put_held held old new p contents separator Put before there r.1 | inr t ↦ in_half_held p contents separator Put there t.1 ]
  there_held p contents separator SplitAlone there s = in_half_held p contents separator SplitAlone there s.1

  pub post_held : (result : Result Posted BlinkError) → PostsAt held hints old new root handle near areas result → OnOk result (IsHeldDraft held new)
  post_held (Err e) s = tt
  post_held (Ok posted) s =
      there_held s.parent s.page s.separator posted (seen_held held old (block_at s.parent) ((s.finds).found).block before ((s.finds).found).held) s.puts
