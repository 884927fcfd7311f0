-- Reading the parts of an inode.
use Rattle.std.specs.Prelude.{ℕ, Bool, ◌&&◌, ◌||◌, ◌==◌, nat_lt, List}
use Rattle.std.specs.Int.{w32, w64}
use Rattle.bx_base.specs.Reading.{Reader, number_at, bytes_at, then_at, as_at, tested_at, sized_at}
use Rattle.bx_layout.specs.declared.parts.OwnerPart.{OwnerPart}
use Rattle.bx_layout.specs.declared.parts.SizePart.{SizePart}
use Rattle.bx_layout.specs.declared.parts.TreePart.{TreePart}

-- ---- pairs of numbers

abbrev pub Pairs : Type 0
Pairs = (ℕ × ℕ) × ((ℕ × ℕ) × (ℕ × ℕ))

unfoldable pub pair_at : Reader (ℕ × ℕ)
pair_at bytes = then_at (number_at w32) (number_at w32) bytes

unfoldable pub pairs_at : Reader Pairs
pairs_at bytes = then_at pair_at (then_at pair_at pair_at) bytes

-- ---- the owner: the last number is zero

abbrev pub owner_with : Pairs → OwnerPart
owner_with x = record { kind = x.0.0; mode = x.0.1; nlink = x.1.0.0; uid = x.1.0.1; gid = x.1.1.0 }

abbrev pub owner_fields : OwnerPart → Pairs
owner_fields part = ((part.kind, part.mode), ((part.nlink, part.uid), (part.gid, 0)))

-- the number of a type of files
abbrev pub is_kind : ℕ → Bool
is_kind kind = (kind == 0) || ((kind == 1) || ((kind == 2) || (kind == 5)))

abbrev pub is_owner : Pairs → Bool
is_owner x = is_kind x.0.0 && (nat_lt x.0.1 4096 && (x.1.1.1 == 0))

unfoldable pub owner_at : Reader OwnerPart
owner_at bytes = as_at owner_with (tested_at is_owner pairs_at) bytes

-- ---- the size, the tail and the times

abbrev pub SizeFields : Type 0
SizeFields = ℕ × (ℕ × Pairs)

abbrev pub size_with : SizeFields → SizePart
size_with x = record { size = x.0; tail = x.1.0; atime = x.1.1.0; mtime = x.1.1.1.0; ctime = x.1.1.1.1 }

abbrev pub size_fields : SizePart → SizeFields
size_fields part = (part.size, (part.tail, (part.atime, (part.mtime, part.ctime))))

unfoldable pub sizes_at : Reader SizePart
sizes_at bytes = as_at size_with (then_at (number_at w64) (then_at (number_at w64) pairs_at)) bytes

-- ---- the tree, and a link's path

abbrev pub TreeFields : Type 0
TreeFields = ℕ × (ℕ × (ℕ × List ℕ))

abbrev pub tree_with : TreeFields → TreePart
tree_with x = record { tree = x.0; parent = x.1.0; next = x.1.1.0; path = x.1.1.1 }

abbrev pub tree_fields : TreePart → TreeFields
tree_fields part = (part.tree, (part.parent, (part.next, part.path)))

-- the path behind its length
unfoldable pub path_at : Reader (List ℕ)
path_at bytes = sized_at (number_at w32) bytes_at bytes

unfoldable pub tree_at : Reader TreePart
tree_at bytes = as_at tree_with (then_at (number_at w64) (then_at (number_at w64) (then_at (number_at w32) path_at))) bytes
