-- Numbers of entries by their names.
use Rattle.std.specs.Prelude.{ℕ, List, Option}
use Rattle.std.specs.BTreeMap.{get_by}
use Rattle.std.specs.Cmp.Lexicographic.{slice_cmp}
use Rattle.std.specs.Ordering.{nat_cmp}
use Rattle.bx_tree_parts.specs.declared.name_index.NameIndex.{NameIndex}

-- the number that a name has
abbrev pub number_in : NameIndex → List ℕ → Option ℕ
number_in index name = get_by (λ key. slice_cmp nat_cmp name key.items) index.by_name
