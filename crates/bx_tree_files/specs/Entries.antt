-- Entries of directories, as lists.
use Rattle.std.specs.Prelude.{◌≡◌, ℕ, ◌<◌, ◌==◌, nat_lt, Bool, not, ◌||◌, List, [], ◌∷◌, ◌++◌, filter, find, codes, length, Option, None, option_map}
use Rattle.std.specs.List.{list_any}
use Rattle.std.specs.List.Sorted.{IsStrictlySortedBy}
use Rattle.std.specs.Map.{keys_of, values_of}
use Rattle.std.specs.Ordering.{nat_cmp}
use Rattle.std.specs.Str.{bytes_eq}
use Rattle.bx_tree_files.specs.declared.file.Name.{Name}
use Rattle.bx_tree_parts.specs.declared.name_index.NameIndex.{NameIndex}
use Rattle.bx_tree_parts.specs.NameIndex.{number_in}

-- a name that no entry may have: it is empty, `.` or `..`, or has a byte `/` or 0
abbrev pub is_bad : List ℕ → Bool
is_bad name = (length name == 0) || bytes_eq name (codes ".") || bytes_eq name (codes "..") || list_any (λ byte. (byte == 47) || (byte == 0)) name

-- all entries have numbers below the next one
abbrev pub AreBelow : ℕ → List Name → Type 0
AreBelow next [] = Unit {0}
AreBelow next (entry ∷ entries) = (entry.number < next) × AreBelow next entries

-- the entries with numbers above one
abbrev pub above : ℕ → List Name → List Name
above number names = filter (λ entry. nat_lt number entry.number) names

-- the entry with a name
abbrev pub entry_named : List Name → List ℕ → Option Name
entry_named names name = find (λ entry. bytes_eq entry.name name) names

-- entries with one more behind them
abbrev pub with_name : List Name → ℕ → List ℕ → ℕ → List Name
with_name names number name handle = names ++ record { number = number; name = name; handle = handle } ∷ []

-- entries without those of a name
abbrev pub without_name : List Name → List ℕ → List Name
without_name names name = filter (λ entry. not (bytes_eq entry.name name)) names

-- What a map from numbers to entries keeps: each entry stands at its own number, and no later one has its name.
abbrev pub AreApart : List (ℕ × Name) → Type 0
AreApart [] = Unit {0}
AreApart (entry ∷ entries) = (entry.0 ≡ entry.1.number) × (entry_named (values_of entries) entry.1.name ≡ None) × AreApart entries

-- The numbers rise besides, and an index has them by the names.
pub record AreEntries (entries : List (ℕ × Name)) (index : NameIndex) : Type 0 where
  pub apart : AreApart entries
  pub rise : IsStrictlySortedBy nat_cmp (keys_of entries)
  pub indexed : (name : List ℕ) → number_in index name ≡ option_map (λ entry. entry.number) (entry_named (values_of entries) name)
