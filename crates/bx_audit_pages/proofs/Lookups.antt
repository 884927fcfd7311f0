-- A key is looked up in the leaves of a tree.
use Rattle.std.proofs.Common.{◌≡◌, ℕ, zero, suc, ◌-◌, ◌<◌, ◌≤◌, arith, Bool, true, false, List, [], ◌∷◌, ◌++◌, length, take, drop, get_or, refl, sym, ap, ◌∙◌, subst, Option, Some, None, Err, Ok}
use Rattle.std.specs.Prelude.{All, IfSome, bytes_eq}
use Rattle.std.specs.List.{find}
use Rattle.std.specs.List.Sorted.{IsBinarySearchResult, IsSearchInRange}
use Rattle.std.specs.Option.{option_map, option_or}
use Rattle.std.specs.Ordering.{nat_cmp, is_lt}
use Rattle.std.specs.Cmp.Lexicographic.{slice_cmp}
use Rattle.std.proofs.lemmas.List.{get_or_read, length-append}
use Rattle.std.proofs.lemmas.List.Elements.{All-append}
use Rattle.std.proofs.lemmas.List.Folds.{find-append}
use Rattle.std.proofs.lemmas.Slice.Eq.{bytes_eq-Decides}
use Rattle.bx_page.specs.declared.entry.Entry.{Entry}
use Rattle.bx_page.specs.Keys.{is_below, IsBelow}
use Rattle.bx_page.specs.Contents.{value_of}
use Rattle.bx_page.proofs.Cuts.{All-drop_from, find_none}
use Rattle.bx_page.proofs.Order.{below_trans, not_below_itself, not_below_back, greater_cmp}
use Rattle.bx_truth.specs.PageTrees.{Chunks, Node, IsIn, IsNode, PagesLead, IsLevel, entries_of}
use Rattle.bx_audit_pages.specs.Leaves.{IsLeafFor}
use Rattle.bx_audit_pages.specs.Pages.{BeginningsRise}
use Rattle.bx_audit_pages.proofs.NodeLists.{all_in, searchable, found_at, level_rises}
use Rattle.bx_audit_pages.proofs.Walk.{here, later}

no_true : false ≡ true → ⊥
no_true e = cc

-- ---- the place that a search finds

pub split : {X : Type 0} (xs : List X) (m : ℕ) (d : X) → m < length xs → xs ≡ take m xs ++ get_or xs m d ∷ drop (suc m) xs
split [] m d less = absurd (omega (arith, less))
split (x ∷ xs) zero d less = refl
split (x ∷ xs) (suc m) d less = let rest = split xs m d (omega (arith, less)) in λ i. x ∷ rest i

leaf_at : (nodes : List Node) (key : List ℕ) (m : ℕ) (node : Node) → m < length nodes → node ≡ get_or nodes m node → is_below key node.begins ≡ false
    → ((k : ℕ) (d : Node) → suc m ≤ k → k < length nodes → IsBelow key (get_or nodes k d).begins) → IsLeafFor nodes key node
leaf_at nodes key m node less is from behind = record {
  before = take m nodes;
  behind = drop (suc m) nodes;
  parts = split nodes m node less ∙ (λ i. take m nodes ++ (sym is) i ∷ drop (suc m) nodes);
  from = from;
  to = All-drop_from (λ other. IsBelow key other.begins) nodes (suc m) behind;
}

pub leaf_here : (nodes : List Node) (key : List ℕ) (n : ℕ) (node : Node) → BeginningsRise nodes → IsSearchInRange (Ok n) (length nodes) → IsBinarySearchResult (λ n. slice_cmp nat_cmp n.begins key) nodes (Ok n)
    → node ≡ get_or nodes n node → IsLeafFor nodes key node
leaf_here nodes key n node rise within found is =
    let begins : node.begins ≡ key = ap (λ (x : Node). x.begins) is ∙ found_at nodes key n within found node in
    leaf_at nodes key n node within is (subst (λ (k : List ℕ). is_below key k ≡ false) (sym begins) (not_below_itself key))
    (λ k d from k_in. subst (λ (b : List ℕ). IsBelow b (get_or nodes k d).begins) begins (subst (λ (x : Node). IsBelow x.begins (get_or nodes k d).begins) (sym (get_or_read nodes n node within is d)) (rise n k d (omega (arith, from)) k_in)))

pub leaf_before : (nodes : List Node) (key : List ℕ) (n m : ℕ) (node : Node) → n ≡ suc m → BeginningsRise nodes → IsSearchInRange (Err n) (length nodes) → IsBinarySearchResult (λ n. slice_cmp nat_cmp n.begins key) nodes (Err n)
    → node ≡ get_or nodes m node → IsLeafFor nodes key node
leaf_before nodes key n m node is_n rise within found is =
    let parted = found (searchable nodes key rise) in
    let below : IsBelow node.begins key = subst (λ (x : Node). IsBelow x.begins key) (sym is) (ap is_lt (parted.0 m node (omega (arith, is_n, within)) (omega (arith, is_n)))) in
    leaf_at nodes key m node (omega (arith, is_n, within)) is (not_below_back node.begins key below)
    (λ k d from k_in. greater_cmp (get_or nodes k d).begins key (parted.1 k d (omega (arith, is_n, from)) k_in))

pub no_leaf : (nodes : List Node) (key : List ℕ) (n : ℕ) → n ≡ 0 → BeginningsRise nodes → IsBinarySearchResult (λ n. slice_cmp nat_cmp n.begins key) nodes (Err n) → All (λ node. IsBelow key node.begins) nodes
no_leaf nodes key n none rise found k d less = greater_cmp (get_or nodes k d).begins key ((found (searchable nodes key rise)).1 k d (omega (arith, none)) less)

pub one_less : (n : ℕ) → (n ≡ 0 → ⊥) → n ≡ suc (n - 1)
one_less n some = omega (arith, some)

-- ---- the entries of other pages

module _ (chunks : Chunks) (level : ℕ) (key : List ℕ) where
  abbrev is_key : Entry → Bool
  is_key entry = bytes_eq entry.key key

  other : (entry : Entry) → (entry.key ≡ key → ⊥) → is_key entry ≡ false
  other entry apart = by (bytes_eq entry.key key) refl
    where
      by : (t : Bool) → bytes_eq entry.key key ≡ t → bytes_eq entry.key key ≡ false
      by true is = absurd (apart ((bytes_eq-Decides entry.key key).0 is))
      by false is = is

  none_behind : (nodes : List Node) → ((node : Node) → IsIn node nodes → IsNode chunks level node) → All (λ node. IsBelow key node.begins) nodes → find is_key (entries_of nodes) ≡ None
  none_behind nodes all above = find_none is_key (entries_of nodes) (each nodes all above)
    where
      each : (nodes : List Node) → ((node : Node) → IsIn node nodes → IsNode chunks level node) → All (λ node. IsBelow key node.begins) nodes → All (λ entry. is_key entry ≡ false) (entries_of nodes)
      each [] all above = λ k d less. absurd (omega (arith, less))
      each (x ∷ xs) all above = All-append (λ entry. is_key entry ≡ false) x.page.entries (entries_of xs)
          (λ k d less. other (get_or x.page.entries k d) (λ same.
          no_true (sym ((all x (here x xs)).lowest k d less) ∙ subst (λ (b : List ℕ). IsBelow b x.begins) (sym same) (above 0 x (omega arith)))))
          (each xs (λ node there. all node (later node x xs there)) (λ k d less. above (suc k) d (omega (arith, less))))

  -- a page whose high key isn't above the key
  none_before : (x : Node) (high : List ℕ) → IsNode chunks level x → x.page.high ≡ Some high → is_below key high ≡ false → find is_key x.page.entries ≡ None
  none_before x high is has from = find_none is_key x.page.entries (λ k d less. other (get_or x.page.entries k d) (λ same.
      let below : All (λ (e : Entry). IsBelow e.key high) x.page.entries = subst (λ (o : Option (List ℕ)). IfSome o (λ h. All (λ (e : Entry). IsBelow e.key h) x.page.entries)) has is.has.spells.is.below in
      no_true (sym from ∙ subst (λ (b : List ℕ). IsBelow b high) same (below k d less))))

  find_at : (before behind : List Node) (node : Node) (x : Node) (others : List Node) → x ∷ others ≡ before ++ node ∷ behind → ((n : Node) → IsIn n (x ∷ others) → IsNode chunks level n) → PagesLead x others → BeginningsRise (x ∷ others)
      → is_below key node.begins ≡ false → All (λ n. IsBelow key n.begins) behind → find is_key (entries_of (x ∷ others)) ≡ find is_key node.page.entries
  find_at [] behind node x others parts all leads rise from to =
      let same : x ≡ node = cc in
      let rest : others ≡ behind = cc in
      let none = none_behind others (λ n there. all n (later n x others there)) (subst (All (λ n. IsBelow key n.begins)) (sym rest) to) in
      find-append is_key x.page.entries (entries_of others) ∙ ap (option_or (find is_key x.page.entries)) none ∙ or_none (find is_key x.page.entries) ∙ ap (λ (n : Node). find is_key n.page.entries) same
    where
      or_none : (o : Option Entry) → option_or o None ≡ o
      or_none None = refl
      or_none (Some entry) = refl
  find_at (z ∷ before) behind node x [] parts all leads rise from to = absurd (omega (arith, ap length parts, length-append before (node ∷ behind)))
  find_at (z ∷ before) behind node x (y ∷ others) parts all leads rise from to =
      let rest : y ∷ others ≡ before ++ node ∷ behind = cc in
      let none = none_before x y.begins (all x (here x (y ∷ others))) leads.0.high (not_above before rest) in
      find-append is_key x.page.entries (entries_of (y ∷ others)) ∙ ap (λ (o : Option Entry). option_or o (find is_key (entries_of (y ∷ others)))) none
      ∙ find_at before behind node y others rest (λ n there. all n (later n x (y ∷ others) there)) leads.1 (λ i j d less within. rise (suc i) (suc j) d (omega (arith, less)) (omega (arith, within))) from to
    where
      false_or : (b : Bool) → (b ≡ true → ⊥) → b ≡ false
      false_or true never = absurd (never refl)
      false_or false never = refl

      not_above : (before : List Node) → y ∷ others ≡ before ++ node ∷ behind → is_below key y.begins ≡ false
      not_above [] parts = let same : y ≡ node = cc in subst (λ (n : Node). is_below key n.begins ≡ false) (sym same) from
      not_above (w ∷ before) parts =
          let within : others ≡ before ++ node ∷ behind = cc in
          let above : IsBelow y.begins node.begins = all_in (λ (n : Node). IsBelow y.begins n.begins) others (λ k d less. rise 1 (suc (suc k)) d (omega arith) (omega (arith, less))) node record { before = before; behind = behind; parts = within } in
          false_or (is_below key y.begins) (λ below. no_true (sym from ∙ below_trans key y.begins node.begins below above))

  pub value_there : (nodes : List Node) (node : Node) → IsLevel chunks level nodes → IsLeafFor nodes key node → value_of (entries_of nodes) key ≡ value_of node.page.entries key
  value_there [] node is leaf = absurd is.chain
  value_there (x ∷ others) node is leaf = ap (option_map (λ (e : Entry). e.value))
      (find_at leaf.before leaf.behind node x others leaf.parts is.nodes_are is.chain.1 (level_rises chunks level (x ∷ others) is) leaf.from leaf.to)

  pub value_nowhere : (nodes : List Node) → IsLevel chunks level nodes → All (λ node. IsBelow key node.begins) nodes → value_of (entries_of nodes) key ≡ None
  value_nowhere nodes is above = ap (option_map (λ (e : Entry). e.value)) (none_behind nodes is.nodes_are above)
