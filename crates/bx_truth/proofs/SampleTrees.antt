-- The page trees of the sample volume.
use Rattle.std.proofs.Common.{◌≡◌, ℕ, zero, suc, ◌+◌, ◌<◌, ◌≤◌, ◌⊎◌, ⊎_elim, inl, inr, arith, false, List, [], ◌∷◌, ◌++◌, length, get_or, sym, ap, subst, refl, Some}
use Rattle.std.specs.Prelude.{◌==◌, if◌then◌else◌, All}
use Rattle.std.proofs.lemmas.List.{length-append}
use Rattle.std.proofs.lemmas.List.Elements.{All-cons, All-nil}
use Rattle.std.proofs.lemmas.List.Kept.{AllPairs-cons}
use Rattle.std.proofs.lemmas.Nat.{from_be_bytes-to_be_bytes_8}
use Rattle.bx_views.specs.bx_layout.specs.declared.block.Block.{Block}
use Rattle.bx_model.specs.bx_tree_files.specs.declared.file.Name.{Name}
use Rattle.bx_page.specs.declared.entry.Entry.{Entry}
use Rattle.bx_page.specs.Contents.{Contents, IsEntry, IsPage, Rises}
use Rattle.bx_page.specs.Keys.{is_below, IsBelow}
use Rattle.bx_page.proofs.Whole.{page_written}
use Rattle.bx_truth.specs.Chunks.{chunks_of}
use Rattle.bx_truth.specs.Keys.{content_key}
use Rattle.bx_truth.specs.PageTrees.{Chunks, Node, IsIn, HasPage, IsNode, IsLevel, IsInterior, NamesChild, PageTree, IsTree}
use Rattle.bx_truth.specs.Sample.{nth, in_root, in_directory, one_name, leaf_of, top_page, left_page, right_page, tree_block, sample_truth}
use Rattle.bx_truth.proofs.SampleSlots.{chunk_there}

-- ---- lists of one and of two

pub one_entry : (P : Entry → Type 0) (a : Entry) → P a → All P (a ∷ [])
one_entry P a is = All-cons P a [] is (All-nil P)

pub two_entries : (P : Entry → Type 0) (a b : Entry) → P a → P b → All P (a ∷ b ∷ [])
two_entries P a b is_a is_b = All-cons P a (b ∷ []) is_a (one_entry P b is_b)

rises_none : Rises []
rises_none i j d less within = absurd (omega (arith, within))

rises_one : (a : Entry) → Rises (a ∷ [])
rises_one a = AllPairs-cons (λ (x y : Entry). IsBelow x.key y.key) a [] (All-nil (λ (y : Entry). IsBelow a.key y.key)) rises_none

rises_two : (a b : Entry) → IsBelow a.key b.key → Rises (a ∷ b ∷ [])
rises_two a b below = AllPairs-cons (λ (x y : Entry). IsBelow x.key y.key) a (b ∷ []) (one_entry (λ (y : Entry). IsBelow a.key y.key) b below) (rises_one b)

pub one_node : (x node : Node) → IsIn node (x ∷ []) → node ≡ x
one_node x node there = by there.before there.behind there.parts
  where
    by : (before behind : List Node) → x ∷ [] ≡ before ++ node ∷ behind → node ≡ x
    by [] behind parts = let same : x ≡ node = cc in sym same
    by (y ∷ before) behind parts = absurd (omega (arith, ap length parts, length-append before (node ∷ behind)))

pub two_nodes : (x y node : Node) → IsIn node (x ∷ y ∷ []) → (node ≡ x) ⊎ (node ≡ y)
two_nodes x y node there = by there.before there.behind there.parts
  where
    by : (before behind : List Node) → x ∷ y ∷ [] ≡ before ++ node ∷ behind → (node ≡ x) ⊎ (node ≡ y)
    by [] behind parts = let same : x ≡ node = cc in inl (sym same)
    by (z ∷ before) behind parts = let rest : y ∷ [] ≡ before ++ node ∷ behind = cc in inr (one_node y node record { before = before; behind = behind; parts = rest })

none_below : (key : List ℕ) → is_below key [] ≡ false
none_below [] = refl
none_below (x ∷ key) = refl

-- ---- the pages

two_names : (name : Name) → length name.name ≤ 255 → IsPage (leaf_of (one_name name))
two_names name short = record {
  level = omega arith;
  right = omega arith;
  high = tt;
  entries = two_entries IsEntry _ _ record { key = omega (arith, short); both = omega (arith, short) } record { key = omega arith; both = omega (arith, short) };
  rises = rises_two _ _ refl;
  below = tt;
  children = λ up. absurd (omega (arith, up));
  room = omega (arith, short);
}

top_is : IsPage top_page
top_is = record {
  level = omega arith;
  right = omega arith;
  high = tt;
  entries = two_entries IsEntry _ _ record { key = omega arith; both = omega arith } record { key = omega arith; both = omega arith };
  rises = rises_two _ _ refl;
  below = tt;
  children = λ up. two_entries (λ entry. length entry.value ≡ 8) _ _ refl refl;
  room = omega arith;
}

left_is : IsPage left_page
left_is = record {
  level = omega arith;
  right = omega arith;
  high = omega arith;
  entries = one_entry IsEntry _ record { key = omega arith; both = omega arith };
  rises = rises_one _;
  below = one_entry (λ entry. IsBelow entry.key (content_key 2)) _ refl;
  children = λ up. absurd (omega (arith, up));
  room = omega arith;
}

right_is : IsPage right_page
right_is = record {
  level = omega arith;
  right = omega arith;
  high = tt;
  entries = one_entry IsEntry _ record { key = omega arith; both = omega arith };
  rises = rises_one _;
  below = tt;
  children = λ up. absurd (omega (arith, up));
  room = omega arith;
}

has_page : (handle : ℕ) (page : Contents) → IsPage page → HasPage page (tree_block handle page)
unfolding tree_block
has_page handle page is = record { kind = refl; spells = page_written page is }

-- ---- trees of one page

abbrev pub leaf_node : ℕ → List Entry → Node
leaf_node handle entries = record { handle = handle; begins = []; page = leaf_of entries }

abbrev pub single : ℕ → List Entry → PageTree
single handle entries = record { height = 0; level = λ level. leaf_node handle entries ∷ [] }

single_is : (chunks : Chunks) (handle : ℕ) (entries : List Entry) (block : Block) → chunks handle ≡ Some block → HasPage (leaf_of entries) block → IsTree chunks handle (single handle entries)
single_is chunks handle entries block chunk has = record {
  levels = λ level le. record {
    nodes_are = λ node there. subst (IsNode chunks level) (sym (one_node (leaf_node handle entries) node there)) (subst (λ (n : ℕ). IsNode chunks n (leaf_node handle entries)) (none level le) node_is);
    chain = (refl, record { right = refl; high = refl });
  };
  interior = λ level less. absurd (omega (arith, less));
  top = leaf_node handle entries;
  root_alone = refl;
  root_is = refl;
}
  where
    none : (level : ℕ) → level ≤ 0 → 0 ≡ level
    none level le = omega arith

    node_is : IsNode chunks 0 (leaf_node handle entries)
    node_is = record { block = block; chunk = chunk; has = has; same_level = refl; lowest = λ k d less. none_below (get_or entries k d).key; highest = tt }

pub root_tree : IsTree (chunks_of 1 sample_truth) (nth 1) (single (nth 1) (one_name in_root))
root_tree = single_is (chunks_of 1 sample_truth) (nth 1) (one_name in_root) (tree_block (nth 1) (leaf_of (one_name in_root))) (chunk_there 1 (omega arith)) (has_page (nth 1) (leaf_of (one_name in_root)) (two_names in_root (omega arith)))

pub directory_tree : IsTree (chunks_of 1 sample_truth) (nth 3) (single (nth 3) (one_name in_directory))
directory_tree = single_is (chunks_of 1 sample_truth) (nth 3) (one_name in_directory) (tree_block (nth 3) (leaf_of (one_name in_directory))) (chunk_there 3 (omega arith)) (has_page (nth 3) (leaf_of (one_name in_directory)) (two_names in_directory (omega arith)))

-- ---- the tree of two levels

abbrev pub top_node : Node
top_node = record { handle = nth 5; begins = []; page = top_page }

abbrev pub left_node : Node
left_node = record { handle = nth 6; begins = []; page = left_page }

abbrev pub right_node : Node
right_node = record { handle = nth 7; begins = content_key 2; page = right_page }

abbrev pub file_tree : PageTree
file_tree = record { height = 1; level = λ level. if level == 0 then left_node ∷ right_node ∷ [] else top_node ∷ [] }

top_stands : IsNode (chunks_of 1 sample_truth) 1 top_node
top_stands = record {
  block = tree_block (nth 5) top_page;
  chunk = chunk_there 5 (omega arith);
  has = has_page (nth 5) top_page top_is;
  same_level = refl;
  lowest = λ k d less. none_below (get_or top_page.entries k d).key;
  highest = tt;
}

left_stands : IsNode (chunks_of 1 sample_truth) 0 left_node
left_stands = record {
  block = tree_block (nth 6) left_page;
  chunk = chunk_there 6 (omega arith);
  has = has_page (nth 6) left_page left_is;
  same_level = refl;
  lowest = λ k d less. none_below (get_or left_page.entries k d).key;
  highest = refl;
}

right_stands : IsNode (chunks_of 1 sample_truth) 0 right_node
right_stands = record {
  block = tree_block (nth 7) right_page;
  chunk = chunk_there 7 (omega arith);
  has = has_page (nth 7) right_page right_is;
  same_level = refl;
  lowest = one_entry (λ entry. is_below entry.key (content_key 2) ≡ false) _ refl;
  highest = tt;
}

top_leads : IsInterior (left_node ∷ right_node ∷ []) top_node
top_leads = record {
  first = refl;
  names = two_entries (NamesChild (left_node ∷ right_node ∷ [])) _ _
      record { child = left_node; there = record { before = []; behind = right_node ∷ []; parts = refl }; eight = refl; value = from_be_bytes-to_be_bytes_8 (nth 6) (omega arith); key = refl }
      record { child = right_node; there = record { before = left_node ∷ []; behind = []; parts = refl }; eight = refl; value = from_be_bytes-to_be_bytes_8 (nth 7) (omega arith); key = refl };
}

pub file_tree_is : IsTree (chunks_of 1 sample_truth) (nth 5) file_tree
file_tree_is = record {
  levels = levels;
  interior = interior;
  top = top_node;
  root_alone = refl;
  root_is = refl;
}
  where
    levels : (level : ℕ) → level ≤ 1 → IsLevel (chunks_of 1 sample_truth) level (file_tree.level level)
    levels zero le = record {
      nodes_are = λ node there. ⊎_elim
          (λ same. subst (IsNode (chunks_of 1 sample_truth) 0) (sym same) left_stands)
          (λ same. subst (IsNode (chunks_of 1 sample_truth) 0) (sym same) right_stands)
          (two_nodes left_node right_node node there);
      chain = (refl, (record { right = refl; high = refl }, record { right = refl; high = refl }));
    }
    levels (suc zero) le = record {
      nodes_are = λ node there. subst (IsNode (chunks_of 1 sample_truth) 1) (sym (one_node top_node node there)) top_stands;
      chain = (refl, record { right = refl; high = refl });
    }
    levels (suc (suc level)) le = absurd (omega (arith, le))

    interior : (level : ℕ) → level < 1 → (node : Node) → IsIn node (file_tree.level (level + 1)) → IsInterior (file_tree.level level) node
    interior zero less node there = subst (IsInterior (left_node ∷ right_node ∷ [])) (sym (one_node top_node node there)) top_leads
    interior (suc level) less node there = absurd (omega (arith, less))
