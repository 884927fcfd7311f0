use Rattle.std.proofs.Common.{◌≡◌, ℕ, ◌^◌, ◌<◌, List, [], sym, subst, ◌∙◌, Some, None, Err}
use Rattle.bx_page.specs.Contents.{first, from}
use Rattle.bx_truth.specs.Chunks.{chunks_of}
use Rattle.bx_truth.specs.PageTrees.{map_of}
use Rattle.bx_views.specs.Truths.{with_draft}
use Rattle.bx_leaves.specs.bx_blink.specs.Runs.{NextIn}
use Rattle.bx_dirs.specs.Entries.{IsNoNumbered}
use Rattle.bx_dirs.proofs.Rising.{map_rises}
use Rattle.bx_dirs.proofs.Searched.{follows, next_error_in, no_stray_behind, nothing_behind}
use Rattle.bx_dirs.proofs.searches.after.Goals as goal

pub returns-in-Err-clause-list : goal.returns-in-Err-clause-list
returns-in-Err-clause-list g c = λ areas truth names h.
    next_error_in (map_of h.tree) names c.args.number (map_rises (chunks_of areas (with_draft truth [])) c.args.root h.tree h.under.is) h.entries c.ranges.number.fits c.in-Err.error
    (subst (λ (k : List ℕ). NextIn (map_of h.tree) k (Err c.in-Err.error)) (c.bytes.ensures ∙ c.in_ok-key.ensures) (rw c.in-Err.error-is at (c.in-Err.ensures.map areas truth h.tree h.under)))

pub returns-in-Ok-None-clause-list : goal.returns-in-Ok-None-clause-list
returns-in-Ok-None-clause-list g c = λ areas truth names h.
    nothing_behind (map_of h.tree) names c.args.number (map_rises (chunks_of areas (with_draft truth [])) c.args.root h.tree h.under.is) h.entries c.ranges.number.fits
    (subst (λ (k : List ℕ). first (from (map_of h.tree) k) ≡ None) (c.bytes.ensures ∙ c.in_ok-key.ensures) (rw c.in-Ok-None.field-0-is at (c.in-Ok-None.ensures.map areas truth h.tree h.under)))

pub returns-in-None-clause-list : goal.returns-in-None-clause-list
returns-in-None-clause-list g c = λ areas truth names h.
    no_stray_behind (map_of h.tree) names c.args.number (map_rises (chunks_of areas (with_draft truth [])) c.args.root h.tree h.under.is) h.entries c.ranges.number.fits c.in-Ok-Some.key c.in-Ok-Some.value
    (subst (λ (k : List ℕ). first (from (map_of h.tree) k) ≡ Some (record { key = c.in-Ok-Some.key; value = c.in-Ok-Some.value })) (c.bytes.ensures ∙ c.in_ok-key.ensures)
    (rw c.in-Ok-Some.field-0-is at (c.in-Ok-Some.ensures.map areas truth h.tree h.under)))
    (subst (λ (k : List ℕ). IsNoNumbered k c.in-Ok-Some.value) c.bytes-in-Ok-Some.ensures
    (subst (λ (v : List ℕ). IsNoNumbered c.bytes-in-Ok-Some.result.now v) c.bytes-in-Ok-Some-2.ensures (rw c.in-None.is at c.in_ok-entry_in-in-Ok-Some.ensures.none)))

pub returns-clause-list : goal.returns-clause-list
returns-clause-list g c = λ areas truth names h.
    let fits : (c.in-Some.entry.number < 2 ^ 32) × (c.in-Some.entry.handle < 2 ^ 64) = rw c.in-Some.is at c.in_ok-entry_in-in-Ok-Some.ensures.fits in
    follows (map_of h.tree) names c.args.number (map_rises (chunks_of areas (with_draft truth [])) c.args.root h.tree h.under.is) h.entries c.ranges.number.fits c.in-Some.entry c.in-Ok-Some.key c.in-Ok-Some.value
    fits.0 fits.1
    (sym c.bytes-in-Ok-Some.ensures ∙ (rw c.in-Some.is at c.in_ok-entry_in-in-Ok-Some.ensures.key))
    (sym c.bytes-in-Ok-Some-2.ensures ∙ (rw c.in-Some.is at c.in_ok-entry_in-in-Ok-Some.ensures.value))
    (subst (λ (k : List ℕ). first (from (map_of h.tree) k) ≡ Some (record { key = c.in-Ok-Some.key; value = c.in-Ok-Some.value })) (c.bytes.ensures ∙ c.in_ok-key.ensures)
    (rw c.in-Ok-Some.field-0-is at (c.in-Ok-Some.ensures.map areas truth h.tree h.under)))
