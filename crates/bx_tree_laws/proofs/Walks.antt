-- The way up from a directory: where it doesn't lead through a handle, what is below that handle is apart.
use Rattle.std.proofs.Common.{◌≡◌, ℕ, zero, suc, ◌<◌, ◌≤◌, arith, Bool, true, false, List, [], ◌∷◌, Some, Option, refl, sym, ap, ◌∙◌, inl, inr}
use Rattle.std.specs.Prelude.{◌≢◌, ◌==◌, ◌||◌, option_map, unwrap_or, Contains}
use Rattle.std.specs.List.{list_any}
use Rattle.std.proofs.lemmas.Bool.{eq-eqb, ne_eqb}
use Rattle.bx_model.specs.bx_tree_files.specs.declared.file.Body.{Body}
use Rattle.bx_model.specs.bx_tree_files.specs.declared.file.Body.TheVariants.{Bytes, Path, Names}
use Rattle.bx_model.specs.bx_tree_files.specs.declared.file.File.{File}
use Rattle.bx_model.specs.bx_tree_files.specs.declared.file.Name.{Name}
use Rattle.bx_model.specs.declared.tree.Tree.{Tree}
use Rattle.bx_model.specs.bx_tree_files.specs.Files.{file_at}
use Rattle.bx_model.specs.FileTrees.{IsFileTree}
use Rattle.bx_model.specs.bx_tree_files.specs.Names.{names_of, parent_of}
use Rattle.bx_model.specs.Renaming.{parent_at, way_up}
use Rattle.bx_tree_laws.proofs.Counts.{none_contained}
use Rattle.bx_tree_laws.proofs.Lookups.{SameOr, same_or}
use Rattle.bx_tree_laws.proofs.Members.{parent_names}

-- a test that holds of a directory, and else of one just as of its parent
pub record Cut (tree : Tree) (top apart : ℕ) : Type 0 where
  pub below : ℕ → Bool
  pub top_is : below top ≡ true
  pub apart_is : below apart ≡ false
  pub closed : (handle : ℕ) (file : File) (parent next : ℕ) (names : List Name) → file_at tree.files handle ≡ Some file → file.body ≡ Names parent next names
      → handle ≢ tree.root → handle ≢ top → below handle ≡ below parent

abbrev pub leads : ℕ → List ℕ → Bool
leads to way = list_any (λ other. other == to) way

or_false : (a b : Bool) → (a || b) ≡ false → (a ≡ false) × (b ≡ false)
or_false true b e = absurd cc
or_false false b e = (refl, e)

module _ (tree : Tree) (to : ℕ) where
  way_zero : (handle : ℕ) → way_up tree zero handle ≡ handle ∷ []
  unfolding way_up
  way_zero handle = refl

  way_root : (moves handle : ℕ) → handle ≡ tree.root → way_up tree moves handle ≡ handle ∷ []
  unfolding way_up
  way_root zero handle is = refl
  way_root (suc moves) handle is = rw (eq-eqb handle tree.root is) refl

  way_more : (moves handle : ℕ) → handle ≢ tree.root → way_up tree (suc moves) handle ≡ handle ∷ way_up tree moves (parent_at tree.files handle)
  unfolding way_up
  way_more moves handle apart = rw (ne_eqb handle tree.root apart) refl

  -- a way that reaches the root is the whole of it
  pub whole_way : (moves handle : ℕ) → leads tree.root (way_up tree moves handle) ≡ true → leads to (way_up tree moves handle) ≡ false → (more : ℕ) → leads to (way_up tree more handle) ≡ false
  whole_way zero handle reaches none more = by (same_or handle tree.root) more
    where
      one : leads to (handle ∷ []) ≡ false
      one = rw (way_zero handle) at none

      by : SameOr handle tree.root → (more : ℕ) → leads to (way_up tree more handle) ≡ false
      by (inl same) more = rw (way_root more handle same.1) one
      by (inr apart) more = let test : (handle == tree.root) || false ≡ true = rw (way_zero handle) at reaches in let no' : false ≡ true = rw apart.0 at test in absurd cc
  whole_way (suc moves) handle reaches none more = by (same_or handle tree.root) more (whole_way moves (parent_at tree.files handle))
    where
      by : SameOr handle tree.root → (more : ℕ)
          → (leads tree.root (way_up tree moves (parent_at tree.files handle)) ≡ true → leads to (way_up tree moves (parent_at tree.files handle)) ≡ false → (more : ℕ) → leads to (way_up tree more (parent_at tree.files handle)) ≡ false)
          → leads to (way_up tree more handle) ≡ false
      by (inl same) more later = rw (way_root more handle same.1) (rw (way_root (suc moves) handle same.1) at none)
      by (inr apart) zero later =
          let parts = or_false (handle == to) (leads to (way_up tree moves (parent_at tree.files handle))) (rw (way_more moves handle apart.1) at none) in
          rw (way_zero handle, parts.0) refl
      by (inr apart) (suc more) later =
          let parts = or_false (handle == to) (leads to (way_up tree moves (parent_at tree.files handle))) (rw (way_more moves handle apart.1) at none) in
          let reach : leads tree.root (way_up tree moves (parent_at tree.files handle)) ≡ true = rw apart.0 at (rw (way_more moves handle apart.1) at reaches) in
          rw (way_more more handle apart.1, parts.0) (later reach parts.1 more)

  -- a way has its first
  way_first : (moves : ℕ) → leads to (way_up tree moves to) ≡ true
  way_first zero = rw (way_zero to, eq-eqb to to refl) refl
  way_first (suc moves) = by (same_or to tree.root)
    where
      by : SameOr to tree.root → leads to (way_up tree (suc moves) to) ≡ true
      by (inl same) = rw (way_root (suc moves) to same.1, eq-eqb to to refl) refl
      by (inr apart) = rw (way_more moves to apart.1, eq-eqb to to refl) refl

-- ---- the depth suffices

pub record IsThere (tree : Tree) (handle : ℕ) : Type 0 where
  pub file : File
  pub parent : ℕ
  pub next : ℕ
  pub names : List Name
  pub there : file_at tree.files handle ≡ Some file
  pub body : file.body ≡ Names parent next names

pub some_names : (body : Body) (entry : Name) → Contains (names_of body) entry → (parent : ℕ) × (next : ℕ) × (names : List Name) × (body ≡ Names parent next names)
some_names (Bytes bytes) entry there = absurd (none_contained entry there)
some_names (Path path) entry there = absurd (none_contained entry there)
some_names (Names parent next names) entry there = (parent, next, names, refl)

module _ (tree : Tree) (was : IsFileTree tree) where
  pub parent_is : (handle : ℕ) (is : IsThere tree handle) → parent_at tree.files handle ≡ is.parent
  parent_is handle is = ap (λ (found : Option File). unwrap_or (option_map (λ (file : File). parent_of file.body) found) handle) is.there ∙ ap parent_of is.body

  up : (handle : ℕ) (is : IsThere tree handle) → handle ≢ tree.root → IsThere tree is.parent
  up handle is apart =
      let it = parent_names tree was handle is.file is.parent is.next is.names is.there is.body apart in
      let body = some_names it.0.directory.body it.0.entry it.0.contains in
      record { file = it.0.directory; parent = body.0; next = body.1; names = body.2; there = ap (file_at tree.files) (sym it.1) ∙ it.0.there; body = body.3 }

  nearer : (handle : ℕ) (is : IsThere tree handle) → handle ≢ tree.root → was.depth is.parent < was.depth handle
  nearer handle is apart = was.nearer handle is.file is.parent is.next is.names is.there is.body apart

  same_way : (to one other handle : ℕ) → IsThere tree handle → was.depth handle ≤ one → was.depth handle ≤ other → way_up tree one handle ≡ way_up tree other handle
  same_way to zero zero handle is le less = refl
  same_way to zero (suc other) handle is le less = by (same_or handle tree.root)
    where
      by : SameOr handle tree.root → way_up tree zero handle ≡ way_up tree (suc other) handle
      by (inl same) = way_root tree to zero handle same.1 ∙ sym (way_root tree to (suc other) handle same.1)
      by (inr apart) = absurd (omega (arith, nearer handle is apart.1, le))
  same_way to (suc one) zero handle is le less = by (same_or handle tree.root)
    where
      by : SameOr handle tree.root → way_up tree (suc one) handle ≡ way_up tree zero handle
      by (inl same) = way_root tree to (suc one) handle same.1 ∙ sym (way_root tree to zero handle same.1)
      by (inr apart) = absurd (omega (arith, nearer handle is apart.1, less))
  same_way to (suc one) (suc other) handle is le less = by (same_or handle tree.root) (same_way to one other)
    where
      by : SameOr handle tree.root → ((handle : ℕ) → IsThere tree handle → was.depth handle ≤ one → was.depth handle ≤ other → way_up tree one handle ≡ way_up tree other handle)
          → way_up tree (suc one) handle ≡ way_up tree (suc other) handle
      by (inl same) later = way_root tree to (suc one) handle same.1 ∙ sym (way_root tree to (suc other) handle same.1)
      by (inr apart) later =
          let closer = nearer handle is apart.1 in
          let rest = later is.parent (up handle is apart.1) (omega (arith, closer, le)) (omega (arith, closer, less)) in
          way_more tree to one handle apart.1 ∙ ap (λ (h : ℕ). handle ∷ way_up tree one h) (parent_is handle is)
          ∙ ap (λ (l : List ℕ). handle ∷ l) rest
          ∙ ap (λ (h : ℕ). handle ∷ way_up tree other h) (sym (parent_is handle is)) ∙ sym (way_more tree to other handle apart.1)

  pub cut_of : (top apart moves : ℕ) → leads top (way_up tree moves apart) ≡ false → leads tree.root (way_up tree moves apart) ≡ true → Cut tree top apart
  cut_of top apart moves none reaches = record {
    below = below;
    top_is = way_first tree top (was.depth top);
    apart_is = whole_way tree top moves apart reaches none (was.depth apart);
    closed = λ handle file parent next names there body other away.
        by handle record { file = file; parent = parent; next = next; names = names; there = there; body = body } other away (was.depth handle) refl;
  }
    where
      below : ℕ → Bool
      below handle = leads top (way_up tree (was.depth handle) handle)

      by : (handle : ℕ) (is : IsThere tree handle) → handle ≢ tree.root → handle ≢ top → (n : ℕ) → was.depth handle ≡ n → below handle ≡ below is.parent
      by handle is other away zero e = absurd (omega (arith, nearer handle is other, e))
      by handle is other away (suc n) e =
          ap (λ (d : ℕ). leads top (way_up tree d handle)) e
          ∙ ap (leads top) (way_more tree top n handle other ∙ ap (λ (h : ℕ). handle ∷ way_up tree n h) (parent_is handle is))
          ∙ ap (λ (b : Bool). b || leads top (way_up tree n is.parent)) (ne_eqb handle top away)
          ∙ ap (leads top) (same_way top n (was.depth is.parent) is.parent (up handle is other) (omega (arith, nearer handle is other, e)) (omega arith))
