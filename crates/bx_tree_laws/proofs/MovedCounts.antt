-- What is counted once a file has moved.
use Rattle.std.proofs.Common.{◌≡◌, ℕ, ◌+◌, ◌≤◌, arith, true, false, List, Some, None, refl, sym, ap, ◌∙◌, inl, inr}
use Rattle.std.specs.Prelude.{◌≢◌, ◌==◌, ◌⊎◌}
use Rattle.bx_model.specs.bx_tree_files.specs.declared.file.File.{File}
use Rattle.bx_model.specs.bx_tree_files.specs.declared.file.Name.{Name}
use Rattle.bx_model.specs.declared.tree.Tree.{Tree}
use Rattle.bx_model.specs.bx_tree_files.specs.Files.{with_changed, file_at, is_directory}
use Rattle.bx_model.specs.FileTrees.{IsFileTree, is_directory_at, links_to}
use Rattle.bx_model.specs.bx_tree_files.specs.Names.{names_of, without_entry}
use Rattle.bx_model.specs.bx_tree_files.specs.Changes.{moved_to}
use Rattle.bx_model.specs.bx_tree_files.specs.Times.{Time}
use Rattle.bx_tree_laws.specs.Every.{Every}
use Rattle.bx_tree_laws.proofs.Entries.{others}
use Rattle.bx_tree_laws.proofs.Everys.{every_kept}
use Rattle.bx_tree_laws.proofs.Inside.{directory_changed, inside, inside_entered, inside_kept, inside_other}
use Rattle.bx_tree_laws.proofs.Links.{IsNames, one_if, links_entered, links_kept}
use Rattle.bx_tree_laws.proofs.Lookups.{SameOr, same_or, changed_here, changed_other, some_same}
use Rattle.bx_tree_laws.proofs.Members.{directory_at}
use Rattle.bx_tree_laws.proofs.Rises.{rise_changed}
use Rattle.bx_tree_laws.proofs.Stays.{names_moved}
use Rattle.bx_tree_laws.proofs.Taken.{taken_away, taken_inside, taken_links}
use Rattle.bx_model.specs.bx_tree_files.specs.Entries.{entry_named, is_bad}
use Rattle.bx_tree_laws.proofs.Halves.{entered, taken_out}
use Rattle.bx_tree_laws.proofs.Moved.{StillDeeper}

module _ (tree : Tree) (was : IsFileTree tree) (source target moved : File) (from to top : ℕ) (now : Time) (name new_name : List ℕ) (entry : Name) (depth : ℕ → ℕ)
    (source_there : file_at tree.files from ≡ Some source) (target_there : file_at tree.files to ≡ Some target) (moved_there : file_at tree.files top ≡ Some moved)
    (found : entry_named (names_of source.body) name ≡ Some entry) (names_it : entry.handle ≡ top)
    (target_names : IsNames target.body) (good : is_bad new_name ≡ false) (absent : entry_named (names_of target.body) new_name ≡ None)
    (deeper : StillDeeper tree depth top to) where
  abbrev first : List File
  first = with_changed tree.files from (taken_out now name)

  abbrev second : List File
  second = with_changed first to (entered now new_name top)

  abbrev moved_files : List File
  moved_files = with_changed second top (moved_to now to)

  less : (handle : ℕ) → links_to first handle + one_if (top == handle) ≡ links_to tree.files handle
  less = taken_links tree was source from now name entry top source_there found names_it

  first_target : (file : File) × (file_at first to ≡ Some file) × IsNames file.body
  first_target = by (same_or from to)
    where
      by : SameOr from to → (file : File) × (file_at first to ≡ Some file) × IsNames file.body
      by (inl one) =
          let both : source ≡ target = some_same source target (sym source_there ∙ ap (file_at tree.files) one.1 ∙ target_there) in (
            taken_out now name target,
            ap (file_at first) (sym one.1) ∙ changed_here tree.files from (taken_out now name) source (λ g. refl) source_there ∙ ap (λ (g : File). Some (taken_out now name g)) both,
            record { parent = target_names.parent; next = target_names.next; names = others name target_names.names; is = ap (without_entry name) target_names.is },
          )
      by (inr apart) = (target, changed_other tree.files from (taken_out now name) to (λ g. refl) apart.1 ∙ target_there, target_names)

  pub moved_links : (handle : ℕ) → links_to tree.files handle ≡ links_to moved_files handle
  moved_links handle =
      let more = links_entered first to now new_name top first_target.0 handle (rise_changed tree.files from (taken_out now name) (λ f. refl) was.rise) first_target.1 first_target.2 in
      omega (arith, less handle, more, links_kept second top (moved_to now to) handle (λ f. names_moved to f.body))

  -- what the directory counts that it leaves, and the one that it comes to
  pub moved_count : ℕ
  moved_count = one_if (is_directory moved)

  count_is : one_if (is_directory_at tree.files top) ≡ moved_count
  unfolding moved_count
  count_is = ap {B = ℕ} one_if (directory_at tree was top moved moved_there)

  moved_inside_is : (handle : ℕ) → inside moved_files handle ≡ inside second handle
  moved_inside_is handle = inside_kept second top (moved_to now to) (λ f. refl) (λ f. refl) (λ f. names_moved to f.body) handle

  here_less : inside first from + moved_count ≡ inside tree.files from
  here_less = omega (arith, taken_inside tree was source from now name entry top source_there found names_it, count_is)

  there_more : inside second to ≡ inside first to + moved_count
  there_more =
      let more = inside_entered first to now new_name top first_target.0 first_target.1 first_target.2 in
      omega (arith, more, count_is, ap {B = ℕ} one_if (directory_changed tree.files from (taken_out now name) top (λ f. refl) (λ f. refl)))

  away_from : (handle : ℕ) → from ≢ handle → inside first handle ≡ inside tree.files handle
  away_from = taken_away tree was source from now name entry top source_there found names_it

  away_to : (handle : ℕ) → to ≢ handle → inside second handle ≡ inside first handle
  away_to handle apart = inside_other first to (entered now new_name top) (λ f. refl) (λ f. refl) handle apart

  -- within one directory, or of a file that is no directory, no count changes
  pub inside_still : (from ≡ to) ⊎ (is_directory moved ≡ false) → (handle : ℕ) → inside tree.files handle ≡ inside moved_files handle
  unfolding moved_count
  inside_still which handle = by which (same_or from handle) (same_or to handle) ∙ sym (moved_inside_is handle)
    where
      by : (from ≡ to) ⊎ (is_directory moved ≡ false) → SameOr from handle → SameOr to handle → inside tree.files handle ≡ inside second handle
      by (inl one) (inl a) (inl b) = omega (arith, here_less, there_more, ap (inside first) one, ap (inside tree.files) a.1, ap (inside second) b.1)
      by (inl one) (inl a) (inr b) = absurd (b.1 (sym one ∙ a.1))
      by (inl one) (inr a) (inl b) = absurd (a.1 (one ∙ b.1))
      by (inr file) (inl a) (inl b) = omega (arith, here_less, there_more, ap {B = ℕ} one_if file, ap (inside first) a.1, ap (inside first) b.1, ap (inside tree.files) a.1, ap (inside second) b.1)
      by (inr file) (inl a) (inr b) = omega (arith, here_less, away_to handle b.1, ap {B = ℕ} one_if file, ap (inside first) a.1, ap (inside tree.files) a.1)
      by (inr file) (inr a) (inl b) = omega (arith, there_more, away_from handle a.1, ap {B = ℕ} one_if file, ap (inside first) b.1, ap (inside second) b.1)
      by which (inr a) (inr b) = omega (arith, away_from handle a.1, away_to handle b.1)

  -- a directory that moves to another one
  pub inside_moves : from ≢ to → is_directory moved ≡ true
      → (inside moved_files from + 1 ≡ inside tree.files from) × (inside moved_files to ≡ inside tree.files to + 1) × ((handle : ℕ) → from ≢ handle → to ≢ handle → inside moved_files handle ≡ inside tree.files handle)
  unfolding moved_count
  inside_moves apart one = (
    omega (arith, moved_inside_is from, away_to from (λ e. apart (sym e)), here_less, ap {B = ℕ} one_if one),
    omega (arith, moved_inside_is to, there_more, away_from to apart, ap {B = ℕ} one_if one),
    (λ handle a b. omega (arith, moved_inside_is handle, away_to handle b, away_from handle a)),
  )

  pub moved_named : Every (λ handle f. handle ≢ tree.root → 1 ≤ links_to tree.files handle) moved_files
  moved_named = every_kept (λ handle f. handle ≢ tree.root → 1 ≤ links_to tree.files handle) second top (moved_to now to) (λ f. refl) (λ handle f h. h)
      (every_kept (λ handle f. handle ≢ tree.root → 1 ≤ links_to tree.files handle) first to (entered now new_name top) (λ f. refl) (λ handle f h. h)
      (every_kept (λ handle f. handle ≢ tree.root → 1 ≤ links_to tree.files handle) tree.files from (taken_out now name) (λ f. refl) (λ handle f h. h) was.named))

  pub moved_once : Every (λ handle f. is_directory f ≡ true → links_to tree.files handle ≤ 1) moved_files
  moved_once = every_kept (λ handle f. is_directory f ≡ true → links_to tree.files handle ≤ 1) second top (moved_to now to) (λ f. refl) (λ handle f h. h)
      (every_kept (λ handle f. is_directory f ≡ true → links_to tree.files handle ≤ 1) first to (entered now new_name top) (λ f. refl) (λ handle f h. h)
      (every_kept (λ handle f. is_directory f ≡ true → links_to tree.files handle ≤ 1) tree.files from (taken_out now name) (λ f. refl) (λ handle f h. h) was.once))
