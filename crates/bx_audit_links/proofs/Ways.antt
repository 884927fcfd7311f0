-- Ways from the root, as they grow by what one directory names; and that a file tree has a way to each directory.
use Rattle.std.proofs.Common.{◌≡◌, ℕ, zero, suc, ◌<◌, ◌⊎◌, inl, inr, Bool, true, false, cond, List, [], ◌∷◌, Option, Some, None, arith, refl, sym, ap, ◌∙◌, subst}
use Rattle.std.specs.Prelude.{◌≢◌, Contains}
use Rattle.std.specs.BTreeSet.{BTreeSet}
use Rattle.bx_audit_links.specs.Reached.{AreBelow, Reaches, has}
use Rattle.bx_audit_links.proofs.ReachedOnes.{contains_either, contains_front}
use Rattle.bx_model.specs.declared.tree.Tree.{Tree}
use Rattle.bx_model.specs.FileTrees.{IsFileTree, is_directory_at, is_directory_in}
use Rattle.bx_tree_files.specs.declared.file.File.{File}
use Rattle.bx_tree_files.specs.Files.{file_at, is_directory, kind_of}
use Rattle.bx_tree_laws.specs.Ways.{IsIn}
use Rattle.std.proofs.lemmas.Bool.{eq-eqb}
use Rattle.bx_tree_laws.proofs.Counts.{contained_cases, none_contained}
use Rattle.bx_tree_laws.proofs.Lookups.{SameOr, same_or}
use Rattle.bx_tree_laws.proofs.Members.{entry_nearer, is_file}
use Rattle.bx_tree_laws.proofs.Walks.{some_names}
use Rattle.bx_audit_links.proofs.Rests.{contains_same}
use Rattle.bx_tree_laws.proofs.Links.{NamesIt, named_by}

-- a handle is named by one of those reached, which is nearer
pub record IsNamedIn (files : List File) (reached : List ℕ) (depth : ℕ → ℕ) (handle : ℕ) : Type 0 where
  pub directory : ℕ
  pub there : Contains reached directory
  pub into : IsIn files directory handle
  pub nearer : depth directory < depth handle

-- each of those reached but the root is
pub record Ways (files : List File) (root : ℕ) (reached : List ℕ) : Type 0 where
  pub depth : ℕ → ℕ
  pub each : (handle : ℕ) → Contains reached handle → handle ≢ root → IsNamedIn files reached depth handle

-- the root alone
pub ways_root : (files : List File) (root : ℕ) → Ways files root (root ∷ [])
ways_root files root = record { depth = λ handle. 0; each = λ handle there other. absurd (other (only (contained_cases root handle [] there))) }
  where
    only : {handle : ℕ} → (root ≡ handle) ⊎ Contains [] handle → handle ≡ root
    only (inl same) = sym same
    only (inr none) = absurd (none_contained _ none)

-- those that one of them names are reached, too
pub ways_more : (files : List File) (root directory : ℕ) (before now : BTreeSet ℕ) (reached reached_now : List ℕ) → Ways files root reached → Contains reached directory
    → ((handle : ℕ) → Contains reached handle → has before handle ≡ false) → Reaches (IsIn files directory) before reached now reached_now → Ways files root reached_now
ways_more files root directory before now reached reached_now ways there apart reaches = record {
  depth = deeper;
  each = λ handle within other. by handle other (contains_either reached reaches.more handle (contains_same _ _ handle reaches.behind within));
}
  where
    deeper : ℕ → ℕ
    deeper handle = cond (has before handle) (suc (ways.depth directory)) (ways.depth handle)

    as_before : (handle : ℕ) → Contains reached handle → deeper handle ≡ ways.depth handle
    as_before handle within = rw (apart handle within) refl

    still : (handle : ℕ) → Contains reached handle → Contains reached_now handle
    still handle within = contains_same _ _ handle (sym reaches.behind) (contains_front reached reaches.more handle within)

    by : (handle : ℕ) → handle ≢ root → Contains reached handle ⊎ Contains reaches.more handle → IsNamedIn files reached_now deeper handle
    by handle other (inl within) =
        let was = ways.each handle within other in
        record {
          directory = was.directory;
          there = still was.directory was.there;
          into = was.into;
          nearer = let a = as_before was.directory was.there in let b = as_before handle within in let less = was.nearer in omega (arith, a, b, less);
        }
    by handle other (inr new) =
        let e = reaches.each handle new in
        record {
          directory = directory;
          there = still directory there;
          into = e.0;
          nearer = let a = as_before directory there in let b : deeper handle ≡ suc (ways.depth directory) = rw e.1 refl in omega (arith, a, b);
        }

-- all directories are reached
pub below_all : (files : List File) (root : ℕ) (reached : List ℕ) → Ways files root reached → ((handle : ℕ) → is_directory_at files handle ≡ true → handle ≢ root → Contains reached handle) → AreBelow files root
below_all files root reached ways all = record {
  depth = ways.depth;
  each = λ handle is other. let was = ways.each handle (all handle is other) other in record { directory = was.directory; into = was.into; nearer = was.nearer };
}

module _ (tree : Tree) (was : IsFileTree tree) where
  -- what has entries is a directory
  names_directory : (handle : ℕ) (it : NamesIt tree.files handle) → is_directory_at tree.files it.directory.handle ≡ true
  names_directory handle it = ap is_directory_in it.there ∙ kind
    where
      kind : is_directory it.directory ≡ true
      kind = let body = some_names it.directory.body it.entry it.contains in eq-eqb it.directory.kind 2 ((is_file tree was it.directory.handle it.directory it.there).kind ∙ ap kind_of body.3)

  module _ (set : BTreeSet ℕ) (reached : List ℕ) (apart : (handle : ℕ) → Contains reached handle → has set handle ≡ false)
      (known : (handle : ℕ) → is_directory_at tree.files handle ≡ true → handle ≢ tree.root → Contains reached handle ⊎ (has set handle ≡ true))
      (closed : (directory : ℕ) → Contains reached directory → (handle : ℕ) → IsIn tree.files directory handle → has set handle ≡ false)
      (root : Contains reached tree.root) where
    -- a directory of a file tree is reached from the root
    reached_at : (n handle : ℕ) → ((file : File) × (file_at tree.files handle ≡ Some file) × (is_directory file ≡ true)) → was.depth handle < n → Contains reached handle
    reached_at zero handle is less = absurd (omega (arith, less))
    reached_at (suc n) handle (file, there, is) less = by (same_or handle tree.root) (reached_at n)
      where
        by : SameOr handle tree.root → ((above : ℕ) → ((file : File) × (file_at tree.files above ≡ Some file) × (is_directory file ≡ true)) → was.depth above < n → Contains reached above) → Contains reached handle
        by (inl same) later = contains_same_handle (sym same.1)
          where
            contains_same_handle : tree.root ≡ handle → Contains reached handle
            contains_same_handle e = subst (Contains reached) e root
        by (inr other) later = step (known handle (ap is_directory_in there ∙ is) other.1)
          where
            it : NamesIt tree.files handle
            it = named_by tree.files handle was.rise (was.named handle file there other.1)

            above_there : Contains reached it.directory.handle
            above_there =
                let nearer = entry_nearer tree was it.directory.handle it.directory it.entry handle file it.there it.contains it.names_it there is in
                let kind = names_directory handle it in
                later it.directory.handle (it.directory, it.there, sym (ap is_directory_in it.there) ∙ kind) (omega (arith, nearer, less))

            step : Contains reached handle ⊎ (has set handle ≡ true) → Contains reached handle
            step (inl here) = here
            step (inr left) =
                let none = closed it.directory.handle above_there handle (record { file = it.directory; there = it.there; entry = it.entry; contains = it.contains; names_it = it.names_it }) in
                let both : false ≡ true = sym none ∙ left in absurd cc

    -- so none is left
    pub none_left : ((handle : ℕ) → has set handle ≡ true → is_directory_at tree.files handle ≡ true) → (handle : ℕ) → has set handle ≡ false
    none_left each handle = by (has set handle) refl
      where
        by : (b : Bool) → has set handle ≡ b → b ≡ false
        by false is = refl
        by true is =
            let found = directory_at handle (each handle is) in
            let none = apart handle (reached_at (suc (was.depth handle)) handle found (omega arith)) in
            let both : true ≡ false = sym is ∙ none in absurd cc
          where
            directory_at : (handle : ℕ) → is_directory_at tree.files handle ≡ true → (file : File) × (file_at tree.files handle ≡ Some file) × (is_directory file ≡ true)
            directory_at handle is = some (file_at tree.files handle) refl is
              where
                some : (found : Option File) → file_at tree.files handle ≡ found → is_directory_in found ≡ true → (file : File) × (file_at tree.files handle ≡ Some file) × (is_directory file ≡ true)
                some None e is = absurd cc
                some (Some file) e is = (file, e, is)
