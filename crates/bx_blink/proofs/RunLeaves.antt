-- The leaf that a run ends at has an entry from its key on.
use Rattle.std.proofs.Common.{◌≡◌, ℕ, zero, suc, ◌<◌, List, [], ◌∷◌, length, Option, Some, None, refl, sym, ap, subst, ◌∙◌, arith}
use Rattle.std.specs.Prelude.{Result, Ok, Err, IfOk, IfSome}
use Rattle.bx_base.specs.declared.names.Mode.TheVariants.{Shared}
use Rattle.bx_page.specs.declared.entry.Entry.{Entry}
use Rattle.bx_page.specs.Contents.{Contents, first, from}
use Rattle.bx_blink.specs.declared.error.BlinkError.{BlinkError}
use Rattle.bx_blink.specs.declared.steps.Spot.{Spot}
use Rattle.bx_blink.specs.declared.steps.End.TheVariants.{Needs, Lost, Lands}
use Rattle.bx_blink.specs.declared.steps.Out.{Out}
use Rattle.bx_blink.specs.declared.steps.Out.TheVariants.{Goes, Stops}
use Rattle.bx_blink.specs.declared.runs.RunEnd.TheVariants.{First}
use Rattle.bx_blink.specs.declared.runs.Turn.{Turn}
use Rattle.bx_blink.specs.declared.runs.Turn.TheVariants.{Moves, Rests}
use Rattle.bx_blink.specs.Walks.{Reads, decide}
use Rattle.bx_blink.specs.Leaves.{LeafAt}
use Rattle.bx_blink.specs.Runs.{at_leaf, follow, Turns, Runs}

some_long : (entries : List Entry) (entry : Entry) → first entries ≡ Some entry → 0 < length entries
some_long [] entry is = absurd cc
some_long (x ∷ xs) entry is = omega arith

same_rest : (key other : List ℕ) (page leaf : Contents) (entry first_one : Entry) → Rests (First key page entry) ≡ Rests (First other leaf first_one) → (key ≡ other) × (page ≡ leaf)
same_rest key other page leaf entry first_one e = (cc, cc)

leaf_long : (key other : List ℕ) (page leaf : Contents) (entry : Entry) (o : Option Entry) (high : Option (List ℕ)) → first (from page.entries key) ≡ o → at_leaf key page o high ≡ Rests (First other leaf entry)
    → 0 < length (from leaf.entries other)
leaf_long key other page leaf entry (Some x) high is e =
    let same = same_rest key other page leaf x entry e in
    let long : 0 < length (from page.entries key) = some_long (from page.entries key) x is in
    subst (λ (n : ℕ). 0 < n) (λ i. length (from (same.1 i).entries (same.0 i))) long
leaf_long key other page leaf entry None None is e = absurd cc
leaf_long key other page leaf entry None (Some high) is e = absurd cc

out_long : (key other : List ℕ) (out : Out) (leaf : Contents) (entry : Entry) → follow key out ≡ Rests (First other leaf entry) → 0 < length (from leaf.entries other)
out_long key other (Goes next) leaf entry e = absurd cc
out_long key other (Stops (Needs at mode)) leaf entry e = absurd cc
out_long key other (Stops Lost) leaf entry e = absurd cc
out_long key other (Stops (Lands handle page)) leaf entry e = leaf_long key other page leaf entry (first (from page.entries key)) page.high refl e

run_long : (reads : Reads) (n : ℕ) (key other : List ℕ) (spot : Spot) (leaf : Contents) (entry : Entry) → Runs reads n key spot (First other leaf entry) → 0 < length (from leaf.entries other)
unfolding Runs
run_long reads zero key other spot leaf entry e = absurd cc
run_long reads (suc n) key other spot leaf entry e = by_turn (follow key (decide 0 Shared key spot e.0)) refl e.2 (λ k next. run_long reads n k other next leaf entry)
  where
    by_turn : (t : Turn) → follow key (decide 0 Shared key spot e.0) ≡ t → Turns (λ k s. Runs reads n k s (First other leaf entry)) (First other leaf entry) t
        → ((k : List ℕ) (next : Spot) → Runs reads n k next (First other leaf entry) → 0 < length (from leaf.entries other)) → 0 < length (from leaf.entries other)
    by_turn (Moves k next) d f rest = rest k next f
    by_turn (Rests end) d f rest = out_long key other (decide 0 Shared key spot e.0) leaf entry (d ∙ ap Rests (sym f))

pub leaf_has : (reads : Reads) (n : ℕ) (key : List ℕ) (spot : Spot) (result : Result (Option (List ℕ × Contents)) BlinkError) → LeafAt (Runs reads n key spot) result
    → IfOk result (λ found. IfSome found (λ x. 0 < length (from x.1.entries x.0)))
leaf_has reads n key spot (Ok (Some found)) f = run_long reads n key found.0 spot found.1 f.entry f.end
leaf_has reads n key spot (Ok None) f = tt
leaf_has reads n key spot (Err error) f = tt
