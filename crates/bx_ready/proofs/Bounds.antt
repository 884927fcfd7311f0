-- Splits and posts over a view with no draft: they are never crowded, and where no slot is left for one they tell fewer than 8.
use Rattle.std.proofs.Common.{ℕ, ◌≤◌, arith, List, [], length, inl, inr, Ok, Err}
use Rattle.bx_blink.specs.declared.error.BlinkError.TheVariants.{Full, Crowded}
use Rattle.bx_chunks.specs.Allocating.{AllocatesAt}
use Rattle.bx_chunks.specs.declared.error.ChunkError.TheVariants as chunk
use Rattle.bx_leaves.specs.Leaves.{IsCrowded}
use Rattle.bx_page.specs.Contents.{Contents, first_half, other_half}
use Rattle.bx_posts.specs.Posts.{PostsAt}
use Rattle.bx_posts.specs.Parents.{PutsInParent}
use Rattle.bx_records.specs.Drafts.{Changed}
use Rattle.bx_posts.specs.bx_splits.specs.Cutting.{AllotTwoFails, CutFails, CutsPage, CutsRoot, PutsTwo, RaiseFails, RootCrowds, SplitsAt}
use Rattle.bx_posts.specs.bx_splits.specs.Halves.{HalvesAt}
use Rattle.bx_truth.specs.Chunks.{IsChunked}
use Rattle.bx_views.specs.Truths.{Held, Hints, IsTruth, Truth}
use Rattle.bx_ready.specs.Spare.{TellsFew}
use Rattle.bx_ready.proofs.Lengths.{crowded_many, put_more, taken_more}
use Rattle.bx_ready.proofs.Spare.{full_none, taken, taken_less, told}

-- ---- room in the draft

-- a draft of a few blocks has room for one more
few_blocks : (draft : List Changed) (at : ℕ) → length draft ≤ 14 → IsCrowded draft at → ⊥
few_blocks draft at less c = let many = c.many in omega (arith, less, many)

few_taken : (held : Held) (old new : List Changed) (near areas : ℕ) → length old ≤ 14 → AllocatesAt held old new near areas (Err chunk.Crowded) → ⊥
few_taken held old new near areas less at = omega (arith, less, crowded_many held old new near areas at)

puts_two : (old : List Changed) (one other : ℕ) (first second : Contents) → length old ≤ 13 → PutsTwo old old one first other second (Err Crowded) → ⊥
puts_two old one other first second less (inl c) = few_blocks old _ (omega (arith, less)) c
puts_two old one other first second less (inr (mid, puts, c)) = few_blocks mid _ (omega (arith, less, put_more old mid one first puts)) c

module _ (held : Held) (near areas : ℕ) where
  two_taken : AllotTwoFails held [] near areas Crowded → ⊥
  two_taken (inl at) = few_taken held [] [] near areas (omega arith) at
  two_taken (inr (left, one, first, at)) = few_taken held one one near areas (omega (arith, taken_more held [] one near areas left first)) at

  root_crowds : (root : ℕ) (page : Contents) → RootCrowds held [] root page near areas → ⊥
  root_crowds root page r =
      let long : length r.two ≤ 4 = omega (arith, taken_more held [] r.allots.0 near areas r.left r.allots.1, taken_more held r.allots.0 r.two near areas r.right r.allots.2) in
      elim r.crowds [
        | inl c ↦ puts_two r.two r.left r.right (first_half page r.right) (other_half page) (omega (arith, long)) c
        | inr p ↦ few_blocks p.1 _ (omega (arith, long, put_more r.two p.0 r.left (first_half page r.right) p.2, put_more p.0 p.1 r.right (other_half page) p.3)) p.4
      ]

  raises : (root : ℕ) (page : Contents) → RaiseFails held [] root page near areas Crowded → ⊥
  raises root page (inl at) = two_taken at
  raises root page (inr r) = root_crowds root page r

  cuts : (handle : ℕ) (page : Contents) → CutFails held [] handle page near areas Crowded → ⊥
  cuts handle page (inl at) = few_taken held [] [] near areas (omega arith) at
  cuts handle page (inr c) = puts_two c.one c.right handle (other_half page) (first_half page c.right) (omega (arith, taken_more held [] c.one near areas c.right c.allots)) c.crowds

  -- how many blocks the halves of a page are
  root_long : (new : List Changed) (root : ℕ) (page : Contents) → CutsRoot held [] new root page near areas → length new ≤ 7
  root_long new root page c =
      omega (
        arith,
        taken_more held [] c.allots.0 near areas c.left c.allots.1,
        taken_more held c.allots.0 c.two near areas c.right c.allots.2,
        put_more c.two c.three c.left _ c.puts_first,
        put_more c.three c.four c.right _ c.puts_other,
        put_more c.four new root _ c.puts_root,
      )

  page_long : (new : List Changed) (handle : ℕ) (page : Contents) → CutsPage held [] new handle page near areas → length new ≤ 7
  page_long new handle page c = omega (arith, taken_more held [] c.one near areas c.right c.allots, put_more c.one c.two c.right _ c.puts_other, put_more c.two new handle _ c.puts_first)

  halves_long : (new : List Changed) (root handle : ℕ) (page : Contents) (halves : _) → HalvesAt held [] new root handle page near areas (Ok halves) → length new ≤ 7
  halves_long new root handle page halves (inl (same, r)) = root_long new root page r.cuts
  halves_long new root handle page halves (inr (other, c)) = page_long new handle page c.cuts

  halves_crowd : (root handle : ℕ) (page : Contents) → HalvesAt held [] [] root handle page near areas (Err Crowded) → ⊥
  halves_crowd root handle page (inl (same, r)) = raises root page r
  halves_crowd root handle page (inr (other, c)) = cuts handle page c

  parent_crowds : (root handle : ℕ) (page : Contents) (separator : _) → PutsInParent held [] [] root handle page separator near areas (Err Crowded) → ⊥
  parent_crowds root handle page separator (inl (room, puts)) = few_blocks [] _ (omega arith) puts.1
  parent_crowds root handle page separator (inr (full, inl h)) = halves_crowd root handle page h
  parent_crowds root handle page separator (inr (full, inr p)) = few_blocks p.mid _ (omega (arith, halves_long p.mid root handle page p.halves p.splits)) p.puts.1

  -- a split isn't crowded, and neither is a post
  pub split_crowds : (hints : Hints) (root handle : ℕ) → SplitsAt held hints [] [] root handle near areas (Err Crowded) → ⊥
  split_crowds hints root handle (inl never) = never
  split_crowds hints root handle (inr c) = elim c.cuts [ inl r ↦ raises root c.page r.1 | inr p ↦ cuts handle c.page p.1 ]

  pub post_crowds : (hints : Hints) (root handle : ℕ) → PostsAt held hints [] [] root handle near areas (Err Crowded) → ⊥
  post_crowds hints root handle (inl never) = never
  post_crowds hints root handle (inr (inl l)) = l.fails
  post_crowds hints root handle (inr (inr p)) = parent_crowds root p.parent p.page p.separator p.puts

-- ---- slots that are left

module _ (areas near : ℕ) (held : Held) (truth : Truth) (few : areas ≤ 64) (same : IsTruth held truth) (is : IsChunked areas truth) where
  few_first : (spare : ℕ) → AllocatesAt held [] [] near areas (Err (chunk.Full spare)) → TellsFew areas truth spare
  few_first spare at =
      let tells = told areas near held truth [] [] spare few same is is at in
      (tells, omega (arith, tells, full_none areas near held truth few same [] is [] spare at))

  few_second : (one : List Changed) (left spare : ℕ) → AllocatesAt held [] one near areas (Ok left) → AllocatesAt held one one near areas (Err (chunk.Full spare)) → TellsFew areas truth spare
  few_second one left spare first at =
      let chunked = (taken areas near held truth few same [] is one left first).chunked in
      let tells = told areas near held truth one one spare few same is chunked at in
      (tells, omega (arith, tells, taken_less areas near held truth few same [] is one left first, full_none areas near held truth few same one chunked one spare at))

  -- where no slot is left for one of two chunks, fewer than 8 are free
  pub few_two : (spare : ℕ) → AllotTwoFails held [] near areas (Full spare) → TellsFew areas truth spare
  few_two spare (inl at) = few_first spare at
  few_two spare (inr (left, one, first, at)) = few_second one left spare first at

  halves_full : (root handle : ℕ) (page : Contents) (spare : ℕ) → HalvesAt held [] [] root handle page near areas (Err (Full spare)) → TellsFew areas truth spare
  halves_full root handle page spare (inl (same_handle, r)) = few_two spare r
  halves_full root handle page spare (inr (other, c)) = few_first spare c

  pub split_full : (hints : Hints) (root handle spare : ℕ) → SplitsAt held hints [] [] root handle near areas (Err (Full spare)) → TellsFew areas truth spare
  split_full hints root handle spare (inl never) = absurd never
  split_full hints root handle spare (inr c) = elim c.cuts [ inl r ↦ few_two spare r.1 | inr p ↦ few_first spare p.1 ]

  pub post_full : (hints : Hints) (root handle spare : ℕ) → PostsAt held hints [] [] root handle near areas (Err (Full spare)) → TellsFew areas truth spare
  post_full hints root handle spare (inl never) = absurd never
  post_full hints root handle spare (inr (inl l)) = absurd l.fails
  post_full hints root handle spare (inr (inr p)) = by p.puts
    where
      by : PutsInParent held [] [] root p.parent p.page p.separator near areas (Err (Full spare)) → TellsFew areas truth spare
      by (inl (room, puts)) = absurd puts
      by (inr (full, inl h)) = halves_full root p.parent p.page spare h
      by (inr (full, inr q)) = absurd q.puts
