-- Legal histories, over any relation of steps.
use Rattle.std.specs.Prelude.{◌≡◌, List, [], ◌∷◌, reverse}

-- The entries, the newest first, lead from the one tree to the other, step by step.
abbrev pub LeadsNewest : {Tree Entry : Type 0} → (Tree → Entry → Tree → Type 0) → Tree → List Entry → Tree → Type 0
LeadsNewest Step first [] last = last ≡ first
LeadsNewest {Tree = Tree} Step first (entry ∷ earlier) last = (middle : Tree) × LeadsNewest Step first earlier middle × Step middle entry last

-- The same, with the oldest entry first: the history is legal from the one tree, and the other is the tree after it.
abbrev pub Leads : {Tree Entry : Type 0} → (Tree → Entry → Tree → Type 0) → Tree → List Entry → Tree → Type 0
Leads Step first history last = LeadsNewest Step first (reverse history) last
