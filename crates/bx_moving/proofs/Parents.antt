-- Parents of directories, by their inodes.
use Rattle.std.proofs.Common.{◌≡◌, ℕ, suc, true, false, Option, Some, None, refl, sym, ap, ◌∙◌, subst, arith, inl, inr}
use Rattle.std.specs.Prelude.{◌≢◌, ◌⊎◌, ◌==◌, if◌then◌else◌, Contains, Result, Ok, Err}
use Rattle.std.specs.Option.{option_map, unwrap_or}
use Rattle.std.proofs.lemmas.Bool.{eqb-true}
use Rattle.bx_inodes.proofs.Pages.{inode_is}
use Rattle.bx_inodes.specs.Inodes.{FileAt, IsInodeOf}
use Rattle.bx_inodes.specs.Stands.{Stands}
use Rattle.bx_inodes.specs.declared.stop.Stop.{Stop}
use Rattle.bx_inodes.specs.declared.stop.Stop.TheVariants.{Need, Inner, Status, OutOfMemory}
use Rattle.bx_layout.specs.declared.inode.Inode.{Inode}
use Rattle.bx_model.specs.FileTrees.{is_directory_at, is_directory_in}
use Rattle.bx_model.specs.Moves.{way_errors}
use Rattle.bx_model.specs.Renaming.{parent_at}
use Rattle.bx_model.specs.declared.tree.Tree.{Tree}
use Rattle.bx_model.proofs.Ways.{way_long, way_met, way_on, way_there}
use Rattle.bx_tree_files.specs.declared.file.Body.{Body}
use Rattle.bx_tree_files.specs.declared.file.Body.TheVariants.{Bytes, Path, Names}
use Rattle.bx_tree_files.specs.declared.file.File.{File}
use Rattle.bx_tree_files.specs.declared.file.Name.{Name}
use Rattle.bx_tree_files.specs.Files.{kind_of}
use Rattle.bx_tree_files.specs.Names.{names_of, parent_of}
use Rattle.bx_tree_laws.proofs.Counts.{none_contained}
use Rattle.bx_tree_laws.proofs.Members.{parent_names}
use Rattle.bx_tree_laws.proofs.Rises.{contains_at}
use Rattle.bx_truth.specs.Chunks.{chunks_of}
use Rattle.bx_truth.specs.Stored.{HasBody}
use Rattle.bx_truth.proofs.Cases.{eq_false, eq_true, same_or}
use Rattle.bx_truth.proofs.Put.{shown}
use Rattle.bx_views.specs.Truths.{Truth}
use Rattle.bx_moving.specs.Ways.{TellsError}

is_names_kind : (b : Body) (e : Name) → Contains (names_of b) e → kind_of b ≡ 2
is_names_kind (Bytes bytes) e there = absurd (none_contained e there)
is_names_kind (Path path) e there = absurd (none_contained e there)
is_names_kind (Names parent next names) e there = refl

module _ (volume areas : ℕ) (truth : Truth) (tree : Tree) (s : Stands volume areas truth tree) (at : ℕ) (directory : is_directory_at tree.files at ≡ true) where
  -- a directory is there, so that none is not read
  pub not_missing : (stop : Stop) → FileAt areas truth tree at (Err stop) → (errors : Result (Unit {0}) ℕ) → TellsError errors (Err stop)
  not_missing (Status status) (code, none) errors = let both : false ≡ true = sym (ap is_directory_in none) ∙ directory in absurd cc
  not_missing (Need mode asked) f errors = tt
  not_missing (Inner blocks) f errors = f
  not_missing OutOfMemory f errors = tt

  module _ (inode : Inode) (f : IsInodeOf areas truth tree at inode) where
    two : f.file.kind ≡ 2
    two = eqb-true f.file.kind 2 (sym (ap is_directory_in f.there) ∙ directory)

    stored_is : (s.is.stored at).inode ≡ inode
    stored_is = inode_is areas truth tree s.is at inode f.holds

    parent_by : (b : Body) → f.file.body ≡ b → HasBody (chunks_of areas truth) s.is.owner at (s.is.stored at) b → inode.parent ≡ parent_of b
    parent_by (Bytes bytes) is has = absurd (let one = has.kind in let k = ap (λ (i : Inode). i.kind) stored_is in let kinds = f.fields.kind in let t = two in omega (arith, one, k, kinds, t))
    parent_by (Path path) is has = absurd (let five = has.kind in let k = ap (λ (i : Inode). i.kind) stored_is in let kinds = f.fields.kind in let t = two in omega (arith, five, k, kinds, t))
    parent_by (Names parent next names) is has = ap (λ (i : Inode). i.parent) (sym stored_is) ∙ has.parent_is

    body : HasBody (chunks_of areas truth) s.is.owner at (s.is.stored at) f.file.body
    body = (shown areas truth tree at f.file s.is f.there).body

    pub parent_is : parent_at tree.files at ≡ inode.parent
    parent_is = ap (λ (o : Option File). unwrap_or (option_map (λ (file : File). parent_of file.body) o) at) f.there ∙ sym (parent_by f.file.body refl body)

    pub parent_directory : at ≢ tree.root → is_directory_at tree.files inode.parent ≡ true
    parent_directory other = by f.file.body refl body
      where
        by : (b : Body) → f.file.body ≡ b → HasBody (chunks_of areas truth) s.is.owner at (s.is.stored at) b → is_directory_at tree.files inode.parent ≡ true
        by (Bytes bytes) is has = absurd (let one = has.kind in let k = ap (λ (i : Inode). i.kind) stored_is in let kinds = f.fields.kind in let t = two in omega (arith, one, k, kinds, t))
        by (Path path) is has = absurd (let five = has.kind in let k = ap (λ (i : Inode). i.kind) stored_is in let kinds = f.fields.kind in let t = two in omega (arith, five, k, kinds, t))
        by (Names parent next names) is has =
            let up = parent_names tree s.file_tree at f.file parent next names f.there is other in
            let it = up.0 in
            let kind : it.directory.kind ≡ 2 = (s.file_tree.is_file it.directory (contains_at tree.files it.directory.handle it.directory it.there)).kind ∙ is_names_kind it.directory.body it.entry it.contains in
            let same : inode.parent ≡ it.directory.handle = parent_by (Names parent next names) is has ∙ sym up.1 in
            ap (is_directory_at tree.files) same ∙ ap is_directory_in it.there ∙ eq_true it.directory.kind 2 kind

    pub goes_on : (moves fewer handle : ℕ) → moves ≡ suc fewer → at ≢ handle → at ≢ 1 → way_errors tree moves at handle ≡ way_errors tree fewer inode.parent handle
    goes_on moves fewer handle one apart below =
        ap (λ (n : ℕ). way_errors tree n at handle) one
        ∙ way_on tree fewer at handle (eq_false at handle apart) (eq_false at tree.root (λ e. below (e ∙ s.is.root_is)))
        ∙ ap (λ (h : ℕ). way_errors tree fewer h handle) parent_is

pub met : (tree : Tree) (moves at handle : ℕ) → at ≡ handle → way_errors tree moves at handle ≡ Err 1
met tree moves at handle same = ap (λ (h : ℕ). way_errors tree moves h handle) same ∙ way_met tree moves handle

pub there : (tree : Tree) (moves at handle : ℕ) → tree.root ≡ 1 → at ≡ 1 → at ≢ handle → way_errors tree moves at handle ≡ Ok tt
there tree moves at handle root one apart =
    ap (λ (h : ℕ). way_errors tree moves h handle) (one ∙ sym root) ∙ way_there tree moves handle (eq_false tree.root handle (λ e. apart (one ∙ sym root ∙ e)))

-- where no move is left
pub ends : (tree : Tree) (moves at handle : ℕ) → tree.root ≡ 1 → moves ≡ 0 → (found : Option ℕ) → found ≡ (if at == handle then Some 1 else if at == 1 then None else Some 63)
    → (errors : Result (Unit {0}) ℕ) → errors ≡ way_errors tree moves at handle → TellsError errors (Ok found)
ends tree moves at handle root none found is errors errors_are =
    subst (λ (o : Option ℕ). TellsError errors (Ok o)) (sym is) (subst (λ (e : Result (Unit {0}) ℕ). TellsError e (Ok (if at == handle then Some 1 else if at == 1 then None else Some 63))) (sym errors_are)
    (by (same_or at handle) (same_or at 1)))
  where
    by : (at ≡ handle) ⊎ (at ≢ handle) → (at ≡ 1) ⊎ (at ≢ 1) → TellsError (way_errors tree moves at handle) (Ok (if at == handle then Some 1 else if at == 1 then None else Some 63))
    by (inl same) r = rw (eq_true at handle same) (met tree moves at handle same)
    by (inr apart) (inl one) = rw (eq_false at handle apart, eq_true at 1 one) (there tree moves at handle root one apart)
    by (inr apart) (inr below) = rw (eq_false at handle apart, eq_false at 1 below)
        (ap (λ (n : ℕ). way_errors tree n at handle) none ∙ way_long tree at handle (eq_false at handle apart) (eq_false at tree.root (λ e. below (e ∙ root))))
