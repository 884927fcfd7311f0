use Rattle.std.proofs.Common.{◌≡◌, ℕ, List, sym, ap, subst, ◌∙◌, Some, Err}
use Rattle.bx_page.specs.Contents.{value_of}
use Rattle.bx_truth.specs.PageTrees.{map_of}
use Rattle.bx_leaves.specs.bx_blink.specs.Answers.{FindsIn}
use Rattle.bx_dirs.proofs.Names.{is_named}
use Rattle.bx_dirs.proofs.Searched.{error_in, no_stray}
use Rattle.bx_dirs.proofs.searches.lookup.Goals as goal

pub returns-in-Err-clause-list : goal.returns-in-Err-clause-list
returns-in-Err-clause-list g c = λ areas truth names h.
    error_in (map_of h.tree) names c.args.name.now h.entries c.in-Err.error
    (subst (λ (k : List ℕ). FindsIn (map_of h.tree) k (Err c.in-Err.error)) (c.bytes.ensures ∙ c.in_ok-key.ensures) (c.in-Err.ensures.map areas truth h.tree h.under))

pub returns-in-None-clause-list : goal.returns-in-None-clause-list
returns-in-None-clause-list g c = λ areas truth names h.
    no_stray (map_of h.tree) names c.args.name.now h.entries c.bytes-in-Ok.result.now
    (subst (λ (k : List ℕ). value_of (map_of h.tree) k ≡ Some c.in-Ok.value) (c.bytes.ensures ∙ c.in_ok-key.ensures) (c.in-Ok.ensures.map areas truth h.tree h.under) ∙ ap Some (sym c.bytes-in-Ok.ensures))
    c.in-None.ensures.none

pub returns-clause-list : goal.returns-clause-list
returns-clause-list g c = λ areas truth names h.
    is_named (map_of h.tree) names c.args.name.now h.entries c.in-Some.found.0 c.in-Some.found.1 c.in-Some.ensures.fits.0 c.in-Some.ensures.fits.1
    (subst (λ (k : List ℕ). value_of (map_of h.tree) k ≡ Some c.in-Ok.value) (c.bytes.ensures ∙ c.in_ok-key.ensures) (c.in-Ok.ensures.map areas truth h.tree h.under)
    ∙ ap Some (sym c.bytes-in-Ok.ensures ∙ c.in-Some.ensures.some))
