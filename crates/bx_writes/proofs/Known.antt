-- What is known of a piece that is prepared, by the search for it.
use Rattle.std.proofs.Common.{◌≡◌, ℕ, List, Option, None, Some, sym, subst}
use Rattle.std.specs.Prelude.{IfErr, IfOk, Result, Ok, Err}
use Rattle.bx_changes.specs.Growing.{IfFull}
use Rattle.bx_changes.specs.declared.error.ChangeError.{ChangeError}
use Rattle.bx_changes.specs.declared.error.ChangeError.TheVariants.{Stopped, Full}
use Rattle.bx_files.specs.Paths.{LandsAtValue}
use Rattle.bx_truth.specs.Keys.{content_key}
use Rattle.bx_truth.specs.PageTrees.{handle_in}
use Rattle.bx_views.specs.Truths.{Held, Hints}
use Rattle.bx_writes.specs.Laid.{FoundBy}
use Rattle.bx_writes.specs.Steps.{FoundAt}

module _ (held : Held) (hints : Hints) where
  pub none_known : (root index : ℕ) (result : Result (Option ℕ × List ℕ) ChangeError) → IfOk result (λ made. made.0 ≡ None) → LandsAtValue held hints root (content_key index) None → IfOk result (λ made. FoundBy held hints root index made.0)
  none_known root index (Ok made) none finds = subst (λ (o : Option ℕ). FoundBy held hints root index o) (sym none) finds
  none_known root index (Err error) none finds = tt

  pub some_known : (areas root index place : ℕ) (part value : List ℕ) (names : ℕ) → names ≡ handle_in value → LandsAtValue held hints root (content_key index) (Some value) → (result : Result (Option ℕ × List ℕ) ChangeError)
      → FoundAt areas held names place part result → IfOk result (λ made. FoundBy held hints root index made.0)
  some_known areas root index place part value names names_is finds (Ok made) at = subst (λ (o : Option ℕ). FoundBy held hints root index o) (sym at.found_is) (value, finds, names_is)
  some_known areas root index place part value names names_is finds (Err error) at = tt

-- a piece that is there takes no slot
pub found_full : (areas : ℕ) (held : Held) (names place : ℕ) (part : List ℕ) (Holds : ℕ → Type 0) (result : Result (Option ℕ × List ℕ) ChangeError) → FoundAt areas held names place part result → IfErr result (IfFull Holds)
found_full areas held names place part Holds (Ok made) at = tt
found_full areas held names place part Holds (Err (Stopped stop)) at = tt
found_full areas held names place part Holds (Err (Full spare)) at = absurd at
