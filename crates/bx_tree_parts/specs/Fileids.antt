-- The numbers of a tree's files, each with the file's handle.
use Rattle.std.specs.Prelude.{ℕ, Bool}
use Rattle.std.specs.BTreeSet.{contains}
use Rattle.std.specs.Ordering.{nat_cmp, ordering_then}
use Rattle.bx_tree_parts.specs.declared.fileids.Fileids.{Fileids}

-- whether a number stands among them with a handle
abbrev pub has_pair : Fileids → ℕ → ℕ → Bool
has_pair fileids fileid handle = contains (λ x y. ordering_then (nat_cmp x.0 y.0) (nat_cmp x.1 y.1)) fileids.pairs (fileid, handle)
