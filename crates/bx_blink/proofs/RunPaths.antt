-- What a run needs is on its path, and isn't held.
use Rattle.std.proofs.Common.{◌≡◌, ℕ, zero, suc, List, Option, Some, None, refl, sym, ap, subst, ◌∙◌, inl, inr}
use Rattle.std.specs.Prelude.{Result, Ok, Err}
use Rattle.bx_base.specs.declared.names.Mode.{Mode}
use Rattle.bx_base.specs.declared.names.Mode.TheVariants.{Shared}
use Rattle.bx_page.specs.declared.entry.Entry.{Entry}
use Rattle.bx_page.specs.Contents.{Contents, first, from}
use Rattle.bx_truth.specs.Chunks.{block_at}
use Rattle.bx_blink.specs.declared.error.BlinkError.{BlinkError}
use Rattle.bx_blink.specs.declared.error.BlinkError.TheVariants.{Need, Stale, Full, NoRoom, Absent, Present, OutOfMemory, Crowded}
use Rattle.bx_blink.specs.declared.steps.Spot.{Spot}
use Rattle.bx_blink.specs.declared.steps.Found.{Found}
use Rattle.bx_blink.specs.declared.steps.End.TheVariants.{Needs, Lost, Lands}
use Rattle.bx_blink.specs.declared.steps.Out.{Out}
use Rattle.bx_blink.specs.declared.steps.Out.TheVariants.{Goes, Stops}
use Rattle.bx_blink.specs.declared.runs.RunEnd.TheVariants.{Wants}
use Rattle.bx_blink.specs.declared.runs.Turn.{Turn}
use Rattle.bx_blink.specs.declared.runs.Turn.TheVariants.{Moves, Rests}
use Rattle.bx_blink.specs.Walks.{Reads, Finds, decide, shared, start, most}
use Rattle.bx_blink.specs.Runs.{at_leaf, follow, Turns, Runs, OnRun, NextAt}
use Rattle.bx_blink.specs.Answers.{NeedsFairly}
use Rattle.bx_blink.specs.Leaves.{LeafAt}
use Rattle.bx_blink.proofs.Paths.{Led, stop, next_led, not_led}

some_not_none : (via : ℕ) → None ≡ Some via → ⊥
some_not_none via e = cc

via_none : (a b : Spot) (x y : List ℕ) → Moves x a ≡ Moves y b → a.via ≡ None → b.via ≡ None
via_none a b x y e none = let same : a ≡ b = cc in subst (λ (s : Spot). s.via ≡ None) same none

leaf_via : (key : List ℕ) (page : Contents) (o : Option Entry) (high : Option (List ℕ)) (other : List ℕ) (next : Spot) → at_leaf key page o high ≡ Moves other next → next.via ≡ None
leaf_via key page (Some entry) high other next e = absurd cc
leaf_via key page None None other next e = absurd cc
leaf_via key page None (Some high) other next e = via_none (record { handle = page.right; via = None; mode = Shared }) next high other e refl

leaf_wants : (key : List ℕ) (page : Contents) (o : Option Entry) (high : Option (List ℕ)) (at : ℕ) (mode : Mode) → at_leaf key page o high ≡ Rests (Wants at mode) → ⊥
leaf_wants key page (Some entry) high at mode e = cc
leaf_wants key page None None at mode e = cc
leaf_wants key page None (Some high) at mode e = cc

needs_here : (key : List ℕ) (out : Out) (at : ℕ) (mode : Mode) → follow key out ≡ Rests (Wants at mode) → Stops (Needs at mode) ≡ out
needs_here key (Goes next) at mode e = absurd cc
needs_here key (Stops (Needs a m)) at mode e = cc
needs_here key (Stops Lost) at mode e = absurd cc
needs_here key (Stops (Lands handle page)) at mode e = absurd (leaf_wants key page (first (from page.entries key)) page.high at mode e)

module _ (reads : Reads) where
  none_led : (P : ℕ → Mode → Type 0) (next : Spot) → next.via ≡ None → Led reads P next
  unfolding Led
  none_led P next e = λ via is. absurd (some_not_none via (sym e ∙ is))

  -- the next spot is led to by a hint, or by none
  moves_led : (P : ℕ → Mode → Type 0) (key other : List ℕ) (spot next : Spot) (found : Found) → Finds reads 0 spot found → follow key (decide 0 Shared key spot found) ≡ Moves other next → P (block_at spot.handle) Shared → Led reads P next
  moves_led P key other spot next found f e p = by_out (decide 0 Shared key spot found) refl e
    where
      by_out : (out : Out) → decide 0 Shared key spot found ≡ out → follow key out ≡ Moves other next → Led reads P next
      by_out (Goes there) d e = let same : there ≡ next = cc in subst (λ (s : Spot). Led reads P s) same (next_led reads 0 Shared key P spot there found f d p)
      by_out (Stops (Needs at mode)) d e = absurd cc
      by_out (Stops Lost) d e = absurd cc
      by_out (Stops (Lands handle page)) d e = none_led P next (leaf_via key page (first (from page.entries key)) page.high other next e)

  -- What a run needs isn't held and is on the path, or on what was passed before.
  pub run_needs : (P : ℕ → Mode → Type 0) (n : ℕ) (key : List ℕ) (spot : Spot) (at : ℕ) (mode : Mode) → Runs reads n key spot (Wants at mode) → Led reads P spot → ((a : ℕ) (m : Mode) → OnRun reads n key spot a m → P a m)
      → (reads.held at Shared ≡ None) × P at mode
  unfolding Runs OnRun
  run_needs P zero key spot at mode e led all = absurd cc
  run_needs P (suc n) key spot at mode e led all = by_turn (follow key (decide 0 Shared key spot e.0)) refl e.2 (λ other next. run_needs P n other next at mode)
    where
      by_turn : (t : Turn) → follow key (decide 0 Shared key spot e.0) ≡ t → Turns (λ k s. Runs reads n k s (Wants at mode)) (Wants at mode) t
          → ((other : List ℕ) (next : Spot) → Runs reads n other next (Wants at mode) → Led reads P next → ((a : ℕ) (m : Mode) → OnRun reads n other next a m → P a m) → (reads.held at Shared ≡ None) × P at mode)
          → (reads.held at Shared ≡ None) × P at mode
      by_turn (Moves other next) d f rest = rest other next f (moves_led P key other spot next e.0 e.1 d (all (block_at spot.handle) Shared (inl shared))) (λ a m o. all a m (inr (e.0, e.1, other, next, d, o)))
      by_turn (Rests end) d f rest =
          let s = stop reads 0 Shared key P spot e.0 at mode e.1 (needs_here key (decide 0 Shared key spot e.0) at mode (d ∙ ap Rests (sym f))) led in
          (s.0, elim s.1 [ inl p ↦ p | inr a ↦ all at mode (inl a) ])

-- what a run needs isn't held, and is on its path
module _ (reads : Reads) (from : ℕ) (key : List ℕ) where
  wants_fair : (at : ℕ) (mode : Mode) → Runs reads most key (start from Shared) (Wants at mode) → (reads.held at Shared ≡ None) × OnRun reads most key (start from Shared) at mode
  wants_fair at mode f = run_needs reads (OnRun reads most key (start from Shared)) most key (start from Shared) at mode f (not_led reads (OnRun reads most key (start from Shared)) from Shared) (λ a m o. o)

  pub run_fair : (result : Result (Option (List ℕ × List ℕ)) BlinkError) → NextAt (Runs reads most key (start from Shared)) result → NeedsFairly reads.held (OnRun reads most key (start from Shared)) result
  run_fair (Ok (Some entry)) f = tt
  run_fair (Ok None) f = tt
  run_fair (Err (Need at mode)) f = wants_fair at mode f
  run_fair (Err Absent) f = tt
  run_fair (Err Stale) f = tt
  run_fair (Err OutOfMemory) f = tt
  run_fair (Err (Full spare)) f = f
  run_fair (Err (NoRoom leaf)) f = f
  run_fair (Err Present) f = f
  run_fair (Err Crowded) f = f

  pub leaf_fair : (result : Result (Option (List ℕ × Contents)) BlinkError) → LeafAt (Runs reads most key (start from Shared)) result → NeedsFairly reads.held (OnRun reads most key (start from Shared)) result
  leaf_fair (Ok (Some found)) f = tt
  leaf_fair (Ok None) f = tt
  leaf_fair (Err (Need at mode)) f = wants_fair at mode f
  leaf_fair (Err Absent) f = tt
  leaf_fair (Err Stale) f = tt
  leaf_fair (Err OutOfMemory) f = tt
  leaf_fair (Err (Full spare)) f = f
  leaf_fair (Err (NoRoom leaf)) f = f
  leaf_fair (Err Present) f = f
  leaf_fair (Err Crowded) f = f
