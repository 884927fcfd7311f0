-- What the steps of putting a separator into its parent come to.
use Rattle.std.proofs.Common.{◌≡◌, ℕ, ◌+◌, ◌<◌, ◌≤◌, Bool, true, false, List, length, refl, sym, subst, arith, inl, inr}
use Rattle.std.specs.Prelude.{Result, Ok, Err, IfSome}
use Rattle.std.specs.Int.{w64, to_be_bytes}
use Rattle.bx_records.specs.Drafts.{Changed}
use Rattle.bx_page.specs.Keys.{IsBelow}
use Rattle.bx_page.specs.Contents.{Contents, size, first_half}
use Rattle.bx_page.proofs.Room.{size_with-le}
use Rattle.bx_views.specs.Truths.{Held}
use Rattle.bx_blink.specs.declared.error.BlinkError.{BlinkError}
use Rattle.bx_blink.specs.declared.error.BlinkError.TheVariants.{Need, Stale, Full, NoRoom, Absent, Present, OutOfMemory, Crowded}
use Rattle.bx_blink.specs.Walks.{passes}
use Rattle.bx_blink.proofs.Handles.{kept}
use Rattle.bx_splits.specs.declared.halves.Halves.{Halves}
use Rattle.bx_splits.specs.Halves.{HalvesAt, halves_of, half_in}
use Rattle.bx_posts.specs.declared.posting.Posted.{Posted}
use Rattle.bx_posts.specs.declared.posting.Posted.TheVariants.{Put, SplitAlone}
use Rattle.bx_posts.specs.declared.separators.Separator.{Separator}
use Rattle.bx_posts.specs.Parents.{PutsAt, PutsInParent}

-- an error tells nothing of the draft that is left
err_same : (one two three : List Changed) (handle : ℕ) (page : Contents) (separator : Separator) (e : BlinkError) → PutsAt one two handle page separator (Err e) → PutsAt one three handle page separator (Err e)
err_same one two three handle page separator Crowded p = p
err_same one two three handle page separator OutOfMemory p = tt
err_same one two three handle page separator (Need at mode) p = p
err_same one two three handle page separator Stale p = p
err_same one two three handle page separator (Full spare) p = p
err_same one two three handle page separator (NoRoom leaf) p = p
err_same one two three handle page separator Absent p = p
err_same one two three handle page separator Present p = p

module _ (held : Held) (old new : List Changed) (root handle : ℕ) (page : Contents) (separator : Separator) (near areas : ℕ) where
  -- a page with room takes the separator
  pub room_puts : (room : ℕ) → room + size page ≡ 4096 → 544 ≤ room → length separator.key ≤ 256 → (result : Result Posted BlinkError) → PutsAt old new handle page separator result → PutsInParent held old new root handle page separator near areas result
  room_puts room sum enough short (Ok Put) p = inl (omega (arith, sum, enough), p)
  room_puts room sum enough short (Ok SplitAlone) p =
      let more = p.1 in
      let most = size_with-le page separator.key (to_be_bytes w64 separator.child) in
      let eight : length (to_be_bytes w64 separator.child) ≡ 8 = refl in
      absurd (omega (arith, more, most, eight, sum, enough, short))
  room_puts room sum enough short (Err e) p = inl (omega (arith, sum, enough), err_same old new old handle page separator e p)

  -- one without is split
  pub half_puts : (room : ℕ) → room + size page ≡ 4096 → room < 544 → (mid : List Changed) (halves : Halves) → HalvesAt held old mid root handle page near areas (Ok halves) → (result : Result Posted BlinkError)
      → PutsAt mid new (half_in halves separator.key).0 (half_in halves separator.key).1 separator result → PutsInParent held old new root handle page separator near areas result
  half_puts room sum few mid halves h (Ok Put) p = inr (omega (arith, sum, few), record { halves = halves; mid = mid; splits = h; puts = p })
  half_puts room sum few mid halves h (Ok SplitAlone) p = (omega (arith, sum, few), record { halves = halves; mid = mid; splits = h; puts = p })
  half_puts room sum few mid halves h (Err e) p =
      inr (omega (arith, sum, few), inr (record { halves = halves; mid = mid; splits = h; puts = err_same mid new old (half_in halves separator.key).0 (half_in halves separator.key).1 separator e p }))

  below_half : (key : List ℕ) (left right : ℕ) → IfSome page.high (IsBelow key) → IfSome (half_in (halves_of page left right) key).1.high (IsBelow key)
  below_half key left right below = by_test (passes (first_half page right) key) refl
    where
      by_test : (b : Bool) → passes (first_half page right) key ≡ b → IfSome (half_in (halves_of page left right) key).1.high (IsBelow key)
      by_test false e = rw e (kept (first_half page right) key e)
      by_test true e = rw e below

  -- a key below a page's high key is below that of the half for it
  pub half_below : (mid : List Changed) (halves : Halves) (key : List ℕ) → HalvesAt held old mid root handle page near areas (Ok halves) → IfSome page.high (IsBelow key) → IfSome (half_in halves key).1.high (IsBelow key)
  half_below mid halves key h below = elim h [
    | inl r ↦ subst (λ (x : Halves). IfSome (half_in x key).1.high (IsBelow key)) (sym (r.1).halves_are) (below_half key (r.1).cuts.left (r.1).cuts.right below)
    | inr r ↦ subst (λ (x : Halves). IfSome (half_in x key).1.high (IsBelow key)) (sym (r.1).halves_are) (below_half key handle (r.1).cuts.right below)
  ]
