-- Counts of entries, kept in 64 bits: where one has no room, its greatest number stands for it.
use Rattle.std.specs.Prelude.{◌≡◌, ℕ, ◌-◌, ◌^◌, min, List, unwrap_or}
use Rattle.std.specs.BTreeMap.{BTreeMap, get}
use Rattle.std.specs.Ordering.{nat_cmp}
use Rattle.bx_model.specs.FileTrees.{links_to}
use Rattle.bx_tree_files.specs.declared.file.File.{File}

abbrev pub kept : ℕ → ℕ
kept n = min n (2 ^ 64 - 1)

-- the count that a map has for a handle
abbrev pub count_in : BTreeMap ℕ ℕ → ℕ → ℕ
count_in counts handle = unwrap_or (get nat_cmp counts handle) 0

-- each count is that of the entries that name the handle
abbrev pub AreCounted : List File → BTreeMap ℕ ℕ → Type 0
AreCounted files counts = (handle : ℕ) → count_in counts handle ≡ kept (links_to files handle)
