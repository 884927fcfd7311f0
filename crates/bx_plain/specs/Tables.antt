-- How the rows are kept: by block; and blocks of which something may be wanted.
use Rattle.std.specs.Prelude.{◌≡◌, ℕ, true, filter, List, [], ◌∷◌, ◌++◌, Option, Some, None, Vec}
use Rattle.std.specs.List.{AllByRecursion}
use Rattle.std.specs.BTreeMap.{BTreeMap, IsOrdered, get}
use Rattle.std.specs.BTreeSet.{BTreeSet, IsOrdered as AreOrdered, contains}
use Rattle.std.specs.Ordering.{nat_cmp}
use Rattle.bx_plain.specs.declared.rows.Row.{Row}
use Rattle.bx_plain.specs.Rows.{rows_at}

-- all rows are of this block
abbrev pub AreOf : ℕ → List Row → Type 0
AreOf block rows = AllByRecursion (λ row. row.block ≡ block) rows

-- the rows of all blocks, in their order
abbrev pub flat : {A : Type 0} → List (ℕ × Vec Row A) → List Row
flat [] = []
flat (entry ∷ entries) = entry.1.items ++ flat entries

-- each block's rows are its own
abbrev pub AreTheirs : {A : Type 0} → List (ℕ × Vec Row A) → Type 0
AreTheirs entries = AllByRecursion (λ entry. AreOf entry.0 entry.1.items) entries

abbrev pub items_or_none : {A : Type 0} → Option (Vec Row A) → List Row
items_or_none None = []
items_or_none (Some rows) = rows.items

-- the rows that are kept of a block
abbrev pub kept_at : {A : Type 0} → BTreeMap ℕ (Vec Row A) → ℕ → List Row
kept_at blocks block = items_or_none (get nat_cmp blocks block)

-- the rows by which something is wanted
abbrev pub wanted : List Row → List Row
wanted rows = filter (λ row. row.is_wanted) rows

-- the rows of these blocks, one block behind the other
abbrev pub gather : List ℕ → List Row → List Row
gather [] rows = []
gather (block ∷ blocks) rows = rows_at block rows ++ gather blocks rows

-- what a row wants waits
abbrev pub Waits : BTreeSet ℕ → Row → Type 0
Waits waiting row = row.is_wanted ≡ true → contains nat_cmp waiting row.block ≡ true

-- Rows stand with their block, and each block of which something is wanted is among those that wait.
pub record IsTable {A : Type 0} (blocks : BTreeMap ℕ (Vec Row A)) (waiting : BTreeSet ℕ) : Type 0 where
  pub ordered : IsOrdered nat_cmp blocks
  pub theirs : AreTheirs blocks.entries
  pub rises : AreOrdered nat_cmp waiting
  pub wait : AllByRecursion (Waits waiting) (flat blocks.entries)
