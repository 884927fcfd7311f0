-- Whose the chunks of the sample volume are.
use Rattle.std.proofs.Common.{◌≡◌, ℕ, zero, suc, ◌/◌, ◌^◌, ◌<◌, ◌≤◌, ⊎_elim, inl, inr, arith, List, [], ◌∷◌, get_or, sym, ap, ◌∙◌, subst, refl, Option, Some}
use Rattle.std.specs.Prelude.{◌≢◌, ◌==◌, if◌then◌else◌, bytes_eq}
use Rattle.bx_views.specs.bx_layout.specs.declared.block.Block.{Block}
use Rattle.bx_views.specs.bx_layout.specs.declared.inode.Inode.{Inode}
use Rattle.bx_views.specs.bx_layout.specs.Inodes.{IsInode}
use Rattle.bx_model.specs.bx_tree_files.specs.declared.file.File.{File}
use Rattle.bx_model.specs.bx_tree_files.specs.declared.file.Name.{Name}
use Rattle.bx_page.specs.Contents.{Contents, with_entry}
use Rattle.bx_truth.specs.Chunks.{chunks_of}
use Rattle.bx_truth.specs.Keys.{name_key, name_value, entry_key, entry_value}
use Rattle.bx_truth.specs.Opening.{free_block}
use Rattle.bx_truth.specs.PageTrees.{Node, PageTree, IsPageOf, IsIn}
use Rattle.bx_truth.specs.Sample.{nth, blocks, in_root, in_directory, one_name, leaf_of, top_page, left_page, right_page, root_file, directory_file, regular_file, root_inode, directory_inode, regular_inode, dead_inode, inode_block, tree_block, piece_block, sample_truth}
use Rattle.bx_truth.specs.Stands.{IsOwned, HasOne}
use Rattle.bx_truth.specs.Stored.{Owner, Inodes, PageOf, DataOf, Stored, HasInode, HasTree, AreNames}
use Rattle.bx_truth.proofs.Names.{names_added, value_with}
use Rattle.bx_truth.proofs.OpeningTree.{no_names}
use Rattle.bx_truth.proofs.SampleBytes.{contents_are, bytes_are}
use Rattle.bx_truth.proofs.SampleSlots.{chunk_there}
use Rattle.bx_truth.proofs.SampleTrees.{one_node, two_nodes, single, leaf_node, root_tree, directory_tree, top_node, left_node, right_node, file_tree, file_tree_is}

-- ---- whose what is

abbrev pub owners : List Owner
owners =
    Inodes ∷ PageOf (nth 0) ∷ Inodes ∷ PageOf (nth 2) ∷ Inodes ∷ PageOf (nth 4) ∷ PageOf (nth 4) ∷ PageOf (nth 4) ∷ DataOf (nth 4) 0 ∷ DataOf (nth 4) 2 ∷ Inodes ∷ []

abbrev pub the_owner : ℕ → Owner
the_owner handle = get_or owners (handle / 2 ^ 32) Inodes

abbrev pub the_stored : ℕ → Stored
the_stored handle =
    if handle == nth 0 then record { inode = root_inode; tree = single (nth 1) (one_name in_root) }
    else if handle == nth 2 then record { inode = directory_inode; tree = single (nth 3) (one_name in_directory) }
    else if handle == nth 4 then record { inode = regular_inode; tree = file_tree }
    else record { inode = dead_inode; tree = file_tree }

abbrev pub the_files : List File
the_files = root_file ∷ directory_file ∷ regular_file ∷ []

-- ---- inodes

directory_is : (mode nlink tree next : ℕ) → mode < 2 ^ 12 → nlink < 2 ^ 32 → tree < 2 ^ 64 → next < 2 ^ 32
    → IsInode (record { kind = 2; mode = mode; nlink = nlink; uid = 0; gid = 0; size = 0; tail = 0; atime = (0, 0); mtime = (0, 0); ctime = (0, 0); tree = tree; parent = 1; next = next; path = [] })
directory_is mode nlink tree next m n t x = record {
  kind = inr (inr (inl refl));
  mode = m;
  nlink = n;
  uid = omega arith;
  gid = omega arith;
  size = omega arith;
  tail = omega arith;
  atime = (omega arith, omega arith);
  mtime = (omega arith, omega arith);
  ctime = (omega arith, omega arith);
  tree = t;
  parent = omega arith;
  next = x;
  path = omega arith;
}

regular_is : IsInode regular_inode
regular_is = record {
  kind = inr (inl refl);
  mode = omega arith;
  nlink = omega arith;
  uid = omega arith;
  gid = omega arith;
  size = omega arith;
  tail = omega arith;
  atime = (omega arith, omega arith);
  mtime = (omega arith, omega arith);
  ctime = (omega arith, omega arith);
  tree = omega arith;
  parent = omega arith;
  next = omega arith;
  path = omega arith;
}

dead_is : IsInode dead_inode
dead_is = record {
  kind = inl refl;
  mode = omega arith;
  nlink = omega arith;
  uid = omega arith;
  gid = omega arith;
  size = omega arith;
  tail = omega arith;
  atime = (omega arith, omega arith);
  mtime = (omega arith, omega arith);
  ctime = (omega arith, omega arith);
  tree = omega arith;
  parent = omega arith;
  next = omega arith;
  path = omega arith;
}

has_inode : (handle : ℕ) (inode : Inode) → IsInode inode → HasInode inode (inode_block handle inode)
unfolding inode_block
has_inode handle inode is = record { kind = refl; spells = record { is = is; parts = refl } }

-- ---- the trees are their inodes'

root_has : HasTree (chunks_of 1 sample_truth) the_owner (nth 0) (the_stored (nth 0))
root_has = record { is = root_tree; pages = λ node page. subst (λ (n : Node). the_owner n.handle ≡ PageOf (nth 0)) (sym (one_node (leaf_node (nth 1) (one_name in_root)) node page.there)) refl }

directory_has : HasTree (chunks_of 1 sample_truth) the_owner (nth 2) (the_stored (nth 2))
directory_has = record { is = directory_tree; pages = λ node page. subst (λ (n : Node). the_owner n.handle ≡ PageOf (nth 2)) (sym (one_node (leaf_node (nth 3) (one_name in_directory)) node page.there)) refl }

regular_has : HasTree (chunks_of 1 sample_truth) the_owner (nth 4) (the_stored (nth 4))
regular_has = record { is = file_tree_is; pages = λ node page. by node page.level page.within page.there }
  where
    by : (node : Node) (level : ℕ) → level ≤ 1 → IsIn node (file_tree.level level) → the_owner node.handle ≡ PageOf (nth 4)
    by node zero le there = ⊎_elim
        (λ same. subst (λ (n : Node). the_owner n.handle ≡ PageOf (nth 4)) (sym same) refl)
        (λ same. subst (λ (n : Node). the_owner n.handle ≡ PageOf (nth 4)) (sym same) refl)
        (two_nodes left_node right_node node there)
    by node (suc zero) le there = subst (λ (n : Node). the_owner n.handle ≡ PageOf (nth 4)) (sym (one_node top_node node there)) refl
    by node (suc (suc level)) le there = absurd (omega (arith, le))

-- the entries of a directory with one name
names_are : (name : Name) → name.number < 2 ^ 32 → name.handle < 2 ^ 64 → AreNames (one_name name) (name ∷ [])
names_are name number handle =
    names_added [] (one_name name) [] name (no_names 1 (omega arith)) number handle (λ x within. absurd (omega (arith, within.1))) refl
    (λ key.
    value_with (with_entry [] (name_key name.name) (name_value name.number name.handle)) (entry_key name.number) (entry_value name.handle name.name) key
    ∙ ap (λ (o : Option (List ℕ)). if bytes_eq key (entry_key name.number) then Some (entry_value name.handle name.name) else o) (value_with [] (name_key name.name) (name_value name.number name.handle) key))

-- ---- the owners

one_of : (inode : ℕ) (block : Block) → chunks_of 1 sample_truth inode ≡ Some block → the_owner inode ≡ Inodes → (the_stored inode).inode.tree ≢ 0 → HasOne (chunks_of 1 sample_truth) the_owner the_stored inode
one_of inode block chunk itself has = record { block = block; chunk = chunk; itself = itself; has_tree = has }

tree_kind : (handle : ℕ) (page : Contents) → (tree_block handle page).kind ≡ 2
unfolding tree_block
tree_kind handle page = refl

piece_kind : (handle byte : ℕ) → (piece_block handle byte).kind ≡ 3
unfolding piece_block
piece_kind handle byte = refl

top_of : (inode : ℕ) (tree : PageTree) (node : Node) → tree.level tree.height ≡ node ∷ [] → IsPageOf tree node
top_of inode tree node alone = record { level = tree.height; within = omega arith; there = record { before = []; behind = []; parts = alone } }

pub owned : (k : ℕ) → k < 11 → IsOwned (chunks_of 1 sample_truth) the_owner the_stored the_files (nth k) (get_or blocks k free_block) (the_owner (nth k))
owned zero less = record {
  inode = has_inode (nth 0) root_inode (directory_is 0o777 3 (nth 1) 4 (omega arith) (omega arith) (omega arith) (omega arith));
  file = (
    refl,
    record { kind = refl; mode = refl; nlink = refl; uid = refl; gid = refl; atime = refl; mtime = refl; ctime = refl },
    record { kind = refl; tree = root_has; parent_is = refl; next_is = refl; entries = names_are in_root (omega arith) (omega arith) },
  );
}
owned (suc zero) less = record {
  kind = tree_kind (nth 1) (leaf_of (one_name in_root));
  of = one_of (nth 0) (inode_block (nth 0) root_inode) (chunk_there 0 (omega arith)) refl (λ e. omega (arith, e));
  node = leaf_node (nth 1) (one_name in_root);
  there = top_of (nth 0) (single (nth 1) (one_name in_root)) (leaf_node (nth 1) (one_name in_root)) refl;
  names = refl;
}
owned (suc (suc zero)) less = record {
  inode = has_inode (nth 2) directory_inode (directory_is 0o777 2 (nth 3) 4 (omega arith) (omega arith) (omega arith) (omega arith));
  file = (
    refl,
    record { kind = refl; mode = refl; nlink = refl; uid = refl; gid = refl; atime = refl; mtime = refl; ctime = refl },
    record { kind = refl; tree = directory_has; parent_is = refl; next_is = refl; entries = names_are in_directory (omega arith) (omega arith) },
  );
}
owned (suc (suc (suc zero))) less = record {
  kind = tree_kind (nth 3) (leaf_of (one_name in_directory));
  of = one_of (nth 2) (inode_block (nth 2) directory_inode) (chunk_there 2 (omega arith)) refl (λ e. omega (arith, e));
  node = leaf_node (nth 3) (one_name in_directory);
  there = top_of (nth 2) (single (nth 3) (one_name in_directory)) (leaf_node (nth 3) (one_name in_directory)) refl;
  names = refl;
}
owned (suc (suc (suc (suc zero)))) less = record {
  inode = has_inode (nth 4) regular_inode regular_is;
  file = (
    refl,
    record { kind = refl; mode = refl; nlink = refl; uid = refl; gid = refl; atime = refl; mtime = refl; ctime = refl },
    record { kind = refl; tree = regular_has; contents = contents_are the_owner refl refl; bytes_are = bytes_are },
  );
}
owned (suc (suc (suc (suc (suc zero))))) less = record {
  kind = tree_kind (nth 5) top_page;
  of = one_of (nth 4) (inode_block (nth 4) regular_inode) (chunk_there 4 (omega arith)) refl (λ e. omega (arith, e));
  node = top_node;
  there = top_of (nth 4) file_tree top_node refl;
  names = refl;
}
owned (suc (suc (suc (suc (suc (suc zero)))))) less = record {
  kind = tree_kind (nth 6) left_page;
  of = one_of (nth 4) (inode_block (nth 4) regular_inode) (chunk_there 4 (omega arith)) refl (λ e. omega (arith, e));
  node = left_node;
  there = record { level = 0; within = omega arith; there = record { before = []; behind = right_node ∷ []; parts = refl } };
  names = refl;
}
owned (suc (suc (suc (suc (suc (suc (suc zero))))))) less = record {
  kind = tree_kind (nth 7) right_page;
  of = one_of (nth 4) (inode_block (nth 4) regular_inode) (chunk_there 4 (omega arith)) refl (λ e. omega (arith, e));
  node = right_node;
  there = record { level = 0; within = omega arith; there = record { before = left_node ∷ []; behind = []; parts = refl } };
  names = refl;
}
owned (suc (suc (suc (suc (suc (suc (suc (suc zero)))))))) less = record {
  kind = piece_kind (nth 8) 1;
  of = one_of (nth 4) (inode_block (nth 4) regular_inode) (chunk_there 4 (omega arith)) refl (λ e. omega (arith, e));
  names = refl;
}
owned (suc (suc (suc (suc (suc (suc (suc (suc (suc zero))))))))) less = record {
  kind = piece_kind (nth 9) 2;
  of = one_of (nth 4) (inode_block (nth 4) regular_inode) (chunk_there 4 (omega arith)) refl (λ e. omega (arith, e));
  names = refl;
}
owned (suc (suc (suc (suc (suc (suc (suc (suc (suc (suc zero)))))))))) less = record {
  inode = has_inode (nth 10) dead_inode dead_is;
  file = record { kind = refl; tree = inl refl };
}
owned (suc (suc (suc (suc (suc (suc (suc (suc (suc (suc (suc k))))))))))) less = absurd (omega (arith, less))
