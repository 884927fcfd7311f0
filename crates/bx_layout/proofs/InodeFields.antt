-- An inode as a field of three.
use Rattle.std.proofs.Common.{◌≡◌, ℕ, ◌+◌, ◌^◌, ◌<◌, ◌≤◌, true, ◌++◌, length, refl, arith, inl, inr, eqb-true}
use Rattle.std.specs.Int.{w32, w64, to_be_bytes}
use Rattle.std.proofs.lemmas.Bool.{and_parts, and_from, ltb-true, lt-ltb}
use Rattle.std.proofs.lemmas.List.{length-append}
use Rattle.bx_base.proofs.Fields.{IsField, as_field, then_field, fits_field, sized_bytes_field, field32, field64}
use Rattle.bx_layout.specs.declared.inode.Inode.{Inode}
use Rattle.bx_layout.specs.declared.parts.OwnerPart.{OwnerPart}
use Rattle.bx_layout.specs.declared.parts.SizePart.{SizePart}
use Rattle.bx_layout.specs.declared.parts.TreePart.{TreePart}
use Rattle.bx_layout.specs.Inodes.{IsKind, IsTime, IsInode, time_text, owner_text, size_text, tree_text, inode_text}
use Rattle.bx_layout.specs.InodeParts.{Pairs, pair_at, pairs_at, owner_with, owner_fields, is_kind, is_owner, owner_at, size_with, size_fields, sizes_at, tree_with, tree_fields, path_at, tree_at}
use Rattle.bx_layout.specs.InodeReading.{inode_with, inode_parts, inode_at}
use Rattle.bx_layout.proofs.Rows.{IsRow, row_field}

-- ---- what the parts have

record IsOwner (part : OwnerPart) : Type 0 where
  kind : IsKind part.kind
  mode : part.mode < 2 ^ 12
  nlink : part.nlink < 2 ^ 32
  uid : part.uid < 2 ^ 32
  gid : part.gid < 2 ^ 32

record IsSize (part : SizePart) : Type 0 where
  size : part.size < 2 ^ 64
  tail : part.tail < 2 ^ 64
  atime : IsTime part.atime
  mtime : IsTime part.mtime
  ctime : IsTime part.ctime

record IsTree (part : TreePart) : Type 0 where
  tree : part.tree < 2 ^ 64
  parent : part.parent < 2 ^ 64
  next : part.next < 2 ^ 32
  path : length part.path < 2 ^ 32

-- ---- pairs

pair_field : IsField pair_at time_text IsTime
unfolding pair_at
pair_field = then_field field32 field32

abbrev FitPairs : Pairs → Type 0
FitPairs x = IsTime x.0 × (IsTime x.1.0 × IsTime x.1.1)

pairs_field : IsField pairs_at (λ x. time_text x.0 ++ (time_text x.1.0 ++ time_text x.1.1)) FitPairs
unfolding pairs_at
pairs_field = then_field pair_field (then_field pair_field pair_field)

-- ---- the owner

kind_from : (kind : ℕ) → is_kind kind ≡ true → IsKind kind
kind_from kind t = grind arith

kind_test : (kind : ℕ) → IsKind kind → is_kind kind ≡ true
kind_test kind (inl e) = rw e refl
kind_test kind (inr (inl e)) = rw e refl
kind_test kind (inr (inr (inl e))) = rw e refl
kind_test kind (inr (inr (inr e))) = rw e refl

owner_row : IsRow owner_with owner_fields is_owner FitPairs IsOwner
owner_row = record {
  back = λ x fits t.
      let zeros : x.1.1.1 ≡ 0 = eqb-true _ _ (and_parts _ _ (and_parts _ _ t).1).1 in
      rw (← zeros) refl;
  fits = λ x fits t.
      let rest = and_parts _ _ (and_parts _ _ t).1 in
      record { kind = kind_from x.0.0 (and_parts _ _ t).0; mode = ltb-true _ _ rest.0; nlink = fits.1.0.0; uid = fits.1.0.1; gid = fits.1.1.0 };
  there = λ y is. ((kind_below y.kind is.kind, omega (arith, is.mode)), ((is.nlink, is.uid), (is.gid, omega arith)));
  passes = λ y is. and_from _ _ (kind_test y.kind is.kind) (and_from _ _ (lt-ltb _ _ is.mode) refl);
  forth = λ y. refl;
}
  where
    kind_below : (kind : ℕ) → IsKind kind → kind < 2 ^ 32
    kind_below kind is = omega (arith, is)

owner_field : IsField owner_at (λ part. to_be_bytes w32 part.kind ++ (to_be_bytes w32 part.mode ++ (to_be_bytes w32 part.nlink ++ (to_be_bytes w32 part.uid ++ (to_be_bytes w32 part.gid ++ to_be_bytes w32 0))))) IsOwner
unfolding owner_at
owner_field = row_field owner_row pairs_field

-- ---- the size and the times

sizes_field : IsField sizes_at (λ part. to_be_bytes w64 part.size ++ (to_be_bytes w64 part.tail ++ (time_text part.atime ++ (time_text part.mtime ++ time_text part.ctime)))) IsSize
unfolding sizes_at
sizes_field =
    fits_field IsSize
    (λ x fits. record { size = fits.0; tail = fits.1.0; atime = fits.1.1.0; mtime = fits.1.1.1.0; ctime = fits.1.1.1.1 })
    (λ x is. (is.size, (is.tail, (is.atime, (is.mtime, is.ctime)))))
    (as_field size_with size_fields (λ x. refl) (λ y. refl) (then_field field64 (then_field field64 pairs_field)))

-- ---- the tree and the path

path_field : IsField path_at (λ path. to_be_bytes w32 (length path) ++ path) (λ path. length path < 2 ^ 32)
unfolding path_at
path_field = sized_bytes_field field32

tree_field : IsField tree_at (λ part. to_be_bytes w64 part.tree ++ (to_be_bytes w64 part.parent ++ (to_be_bytes w32 part.next ++ (to_be_bytes w32 (length part.path) ++ part.path)))) IsTree
unfolding tree_at
tree_field =
    fits_field IsTree
    (λ x fits. record { tree = fits.0; parent = fits.1.0; next = fits.1.1.0; path = fits.1.1.1 })
    (λ x is. (is.tree, (is.parent, (is.next, is.path))))
    (as_field tree_with tree_fields (λ x. refl) (λ y. refl) (then_field field64 (then_field field64 (then_field field32 path_field))))

-- ---- all of it

-- what every inode has but that its path fits into a payload
pub record HasParts (inode : Inode) : Type 0 where
  pub kind : IsKind inode.kind
  pub mode : inode.mode < 2 ^ 12
  pub nlink : inode.nlink < 2 ^ 32
  pub uid : inode.uid < 2 ^ 32
  pub gid : inode.gid < 2 ^ 32
  pub size : inode.size < 2 ^ 64
  pub tail : inode.tail < 2 ^ 64
  pub atime : IsTime inode.atime
  pub mtime : IsTime inode.mtime
  pub ctime : IsTime inode.ctime
  pub tree : inode.tree < 2 ^ 64
  pub parent : inode.parent < 2 ^ 64
  pub next : inode.next < 2 ^ 32
  pub path : length inode.path < 2 ^ 32

pub parts_of : (inode : Inode) → IsInode inode → HasParts inode
parts_of inode is = record {
  kind = is.kind;
  mode = is.mode;
  nlink = is.nlink;
  uid = is.uid;
  gid = is.gid;
  size = is.size;
  tail = is.tail;
  atime = is.atime;
  mtime = is.mtime;
  ctime = is.ctime;
  tree = is.tree;
  parent = is.parent;
  next = is.next;
  path = omega (arith, is.path);
}

pub inode_from : (inode : Inode) → HasParts inode → 88 + length inode.path ≤ 4096 → IsInode inode
inode_from inode is room = record {
  kind = is.kind;
  mode = is.mode;
  nlink = is.nlink;
  uid = is.uid;
  gid = is.gid;
  size = is.size;
  tail = is.tail;
  atime = is.atime;
  mtime = is.mtime;
  ctime = is.ctime;
  tree = is.tree;
  parent = is.parent;
  next = is.next;
  path = room;
}

pub inode_field : IsField inode_at inode_text HasParts
unfolding inode_at
inode_field =
    fits_field HasParts
    (λ x fits. record {
      kind = fits.0.kind;
      mode = fits.0.mode;
      nlink = fits.0.nlink;
      uid = fits.0.uid;
      gid = fits.0.gid;
      size = fits.1.0.size;
      tail = fits.1.0.tail;
      atime = fits.1.0.atime;
      mtime = fits.1.0.mtime;
      ctime = fits.1.0.ctime;
      tree = fits.1.1.tree;
      parent = fits.1.1.parent;
      next = fits.1.1.next;
      path = fits.1.1.path;
    })
    (λ x is. (
      record { kind = is.kind; mode = is.mode; nlink = is.nlink; uid = is.uid; gid = is.gid },
      (
        record { size = is.size; tail = is.tail; atime = is.atime; mtime = is.mtime; ctime = is.ctime },
        record { tree = is.tree; parent = is.parent; next = is.next; path = is.path },
      ),
    ))
    (as_field inode_with inode_parts (λ x. refl) (λ y. refl) (then_field owner_field (then_field sizes_field tree_field)))

pub length-inode_text : (inode : Inode) → length (inode_text inode) ≡ 88 + length inode.path
length-inode_text inode =
    omega (arith, length-append (owner_text inode) (size_text inode ++ tree_text inode), length-append (size_text inode) (tree_text inode))
