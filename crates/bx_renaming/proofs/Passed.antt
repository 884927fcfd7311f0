-- A file may move where the tests found nothing against it.
use Rattle.std.proofs.Common.{◌≡◌, ℕ, Bool, true, false, List, [], ◌∷◌, Option, Some, None, refl, sym, ap, ◌∙◌, arith, inl, inr}
use Rattle.std.specs.Prelude.{◌≢◌, ◌⊎◌, ◌==◌, ◌&&◌, not, nat_lt, length, Contains, Result, Ok}
use Rattle.std.proofs.lemmas.Bool.Decides.{nat_tests}
use Rattle.bx_changes.specs.declared.error.ChangeError.{ChangeError}
use Rattle.bx_linking.specs.bx_entries.specs.declared.taking.Known.{Known}
use Rattle.bx_linking.specs.Drafting.{ComesBy}
use Rattle.bx_model.specs.declared.tree.Tree.{Tree}
use Rattle.bx_model.specs.FileTrees.{links_to}
use Rattle.bx_model.specs.Opening.{root_handle}
use Rattle.bx_model.specs.Removing.{has_entries}
use Rattle.bx_model.specs.Renaming.{changes_parent, leads_by, replace_errors}
use Rattle.bx_moving.specs.declared.moves.Moving.{Moving}
use Rattle.bx_moving.specs.declared.moves.Replaced.{Replaced}
use Rattle.bx_moving.specs.Moves.{IsReplaced}
use Rattle.bx_records.specs.Drafts.{Changed}
use Rattle.bx_tree_files.specs.declared.file.File.{File}
use Rattle.bx_tree_files.specs.declared.file.Name.{Name}
use Rattle.bx_tree_files.specs.Entries.{entry_named}
use Rattle.bx_tree_files.specs.Files.{file_at, is_directory}
use Rattle.bx_tree_files.specs.Names.{names_of}
use Rattle.bx_tree_files.specs.Times.{Time}
use Rattle.bx_tree_laws.proofs.Below.{not_below_itself}
use Rattle.bx_tree_laws.proofs.Counts.{none_contained}
use Rattle.bx_tree_laws.proofs.Entries.{entry_found}
use Rattle.bx_tree_laws.proofs.Links.{names_count}
use Rattle.bx_tree_laws.proofs.Lookups.{some_same}
use Rattle.bx_tree_laws.proofs.Steps.{after_refuse, refused_not}
use Rattle.bx_tree_laws.proofs.Walks.{Cut, cut_of}
use Rattle.bx_truth.proofs.Cases.{eq_true, same_or}
use Rattle.bx_views.specs.Truths.{Held, Hints, Truth}
use Rattle.bx_renaming.specs.declared.places.Places.{Places}
use Rattle.bx_renaming.specs.Found.{IsMoved}
use Rattle.bx_renaming.specs.Renaming.{AreDirectories, IsPassed, coming_in, depth_errors, move_of, replaced_by}
use Rattle.bx_renaming.proofs.Tested.{depth_by, other_handles}

passes_depth : (l r : Bool) → depth_by true false l r ≡ Ok tt → (l ≡ false) × (r ≡ true)
passes_depth true r e = absurd cc
passes_depth false true e = (refl, refl)
passes_depth false false e = absurd cc

longer : (names : List Name) (entry : Name) → Contains names entry → nat_lt 0 (length names) ≡ true
longer [] entry there = absurd (none_contained entry there)
longer (x ∷ names) entry there = grind (arith, nat_tests)

module _ (volume areas : ℕ) (held : Held) (hints : Hints) (truth : Truth) (tree : Tree) (places : Places) (are : AreDirectories volume areas held hints truth tree places)
    (name : List ℕ) (number : ℕ) (known : Known) (is : IsMoved areas truth tree (names_of are.source.file.body) name number known) where
  abbrev entry : Name
  entry = record { number = number; name = name; handle = known.handle }

  listed : Contains (names_of are.source.file.body) entry
  listed = (entry_found (names_of are.source.file.body) name entry is.found).0

  not_source : known.handle ≢ places.source.handle
  not_source e = not_below_itself tree are.stands.file_tree places.source.handle [] (record { file = are.source.file; there = are.source.there; entry = entry; contains = listed; names_it = e })

  module _ (none : depth_errors tree are.source.file are.target.file is.at.file ≡ Ok tt) where
    not_target : known.handle ≢ places.target.handle
    not_target e = by (same_or places.source.handle places.target.handle)
      where
        same : is.at.file ≡ are.target.file
        same = some_same is.at.file are.target.file (sym is.at.there ∙ ap (file_at tree.files) e ∙ are.target.there)

        one : is_directory is.at.file ≡ true
        one = ap (λ (f : File). is_directory f) same ∙ eq_true are.target.file.kind 2 (sym are.target.fields.kind ∙ are.target_kind)

        by : (places.source.handle ≡ places.target.handle) ⊎ (places.source.handle ≢ places.target.handle) → ⊥
        by (inl within) = not_source (e ∙ sym within)
        by (inr apart) =
            let at_all : depth_errors tree are.source.file are.target.file is.at.file ≡ depth_by true false (leads_by tree are.target.file is.at.file.handle) (leads_by tree are.target.file tree.root) =
            ap (λ (d : Bool). depth_by d (are.source.file.handle == are.target.file.handle) (leads_by tree are.target.file is.at.file.handle) (leads_by tree are.target.file tree.root)) one
            ∙ ap (λ (s : Bool). depth_by true s (leads_by tree are.target.file is.at.file.handle) (leads_by tree are.target.file tree.root))
            (other_handles volume areas held hints truth tree places are known.handle known.inode is.at apart) in
            let passed : depth_by true false (leads_by tree are.target.file is.at.file.handle) (leads_by tree are.target.file tree.root) ≡ Ok tt =
            sym {a = depth_errors tree are.source.file are.target.file is.at.file} at_all ∙ none in
            let both = passes_depth (leads_by tree are.target.file is.at.file.handle) (leads_by tree are.target.file tree.root) passed in
            let cut : Cut tree is.at.file.handle are.target.file.handle = cut_of tree are.stands.file_tree is.at.file.handle are.target.file.handle 512 both.0 both.1 in
            let clash : true ≡ false = sym cut.top_is ∙ ap (λ (f : File). cut.below f.handle) same ∙ cut.apart_is in
            absurd cc

    module _ (moving : Moving) (m : moving ≡ move_of places number known) where
      counts_is : moving.counts ≡ changes_parent are.source.file are.target.file is.at.file
      counts_is = ap (λ (v : Moving). v.counts) m
          ∙ ap (λ (k : ℕ). (k == 2) && not (places.source.handle == places.target.handle)) is.at.fields.kind
          ∙ ap (λ (h : ℕ). is_directory is.at.file && not (h == places.target.handle)) (sym are.source.handle_is)
          ∙ ap (λ (h : ℕ). is_directory is.at.file && not (are.source.file.handle == h)) (sym are.target.handle_is)

      found_is : entry_named (names_of are.source.file.body) name ≡ Some (record { number = moving.number; name = name; handle = moving.handle })
      found_is = is.found ∙ ap (λ (v : Moving). Some (record { number = v.number; name = name; handle = v.handle })) (sym m)

      there_is : file_at tree.files moving.handle ≡ Some is.at.file
      there_is = ap (λ (v : Moving). file_at tree.files v.handle) m ∙ is.at.there

      -- in one directory there is one entry of a name
      one_place : moving.source ≡ moving.target → are.source.file ≡ are.target.file
      one_place e =
          let same : places.source.handle ≡ places.target.handle = sym (ap (λ (v : Moving). v.source) m) ∙ e ∙ ap (λ (v : Moving). v.target) m in
          some_same are.source.file are.target.file (sym are.source.there ∙ ap (file_at tree.files) same ∙ are.target.there)

      one_name : (new_name : List ℕ) → moving.source ≡ moving.target → new_name ≡ name → entry_named (names_of are.target.file.body) new_name ≡ Some entry
      one_name new_name e same = sym (ap (λ (f : File). entry_named (names_of f.body) new_name) (one_place e)) ∙ ap (entry_named (names_of are.source.file.body)) same ∙ is.found

      pub free : (new_name : List ℕ) → entry_named (names_of are.target.file.body) new_name ≡ None → IsPassed tree are.source.file are.target.file moving name new_name None
      free new_name nobody = record {
        source_is = are.source.handle_is ∙ sym (ap (λ (v : Moving). v.source) m);
        target_is = are.target.handle_is ∙ sym (ap (λ (v : Moving). v.target) m);
        found = found_is;
        moved = is.at.file;
        moved_there = there_is;
        moved_is = is.at.handle_is ∙ sym (ap (λ (v : Moving). v.handle) m);
        counts = counts_is;
        not_source = λ e. not_source (sym (ap (λ (v : Moving). v.handle) m) ∙ e ∙ ap (λ (v : Moving). v.source) m);
        not_target = λ e. not_target (sym (ap (λ (v : Moving). v.handle) m) ∙ e ∙ ap (λ (v : Moving). v.target) m);
        other = nobody;
        names = λ e same. let both : ◌≡◌ {A = Option Name} None (Some entry) = sym nobody ∙ one_name new_name e same in absurd cc;
      }

      -- what moving it then comes to
      pub free_comes : (new_name : List ℕ) (nobody : entry_named (names_of are.target.file.body) new_name ≡ None) (now : Time) (result : Result (List Changed) ChangeError)
          → ComesBy areas truth (coming_in tree are.source.file name are.target.file new_name (free new_name nobody).moved None now) result
          → ComesBy areas truth (coming_in tree are.source.file name are.target.file new_name is.at.file None now) result
      unfolding free
      free_comes new_name nobody now result c = c

      -- ---- the name is another file's

      module _ (new_name : List ℕ) (second : ℕ) (other : Known) (had : IsMoved areas truth tree (names_of are.target.file.body) new_name second other)
          (apart : other.handle ≢ known.handle) (may : replace_errors is.at.file (Some had.at.file) ≡ Ok tt) where
        abbrev entry_then : Name
        entry_then = record { number = second; name = new_name; handle = other.handle }

        listed_then : Contains (names_of are.target.file.body) entry_then
        listed_then = (entry_found (names_of are.target.file.body) new_name entry_then had.found).0

        not_root : other.handle ≢ root_handle
        not_root e =
            let one = names_count tree.files places.target.handle are.target.file entry_then are.target.there listed_then in
            let none : links_to tree.files other.handle ≡ 0 = ap (links_to tree.files) (e ∙ sym are.stands.is.root_is) ∙ are.stands.file_tree.root_unnamed in
            omega (arith, one, none)

        empty_then : has_entries had.at.file ≡ false
        empty_then =
            after_refuse (is_directory is.at.file && not (is_directory had.at.file)) 20 _ tt may λ a rest.
            after_refuse (not (is_directory is.at.file) && is_directory had.at.file) 21 _ tt rest λ b rest.
            refused_not (has_entries had.at.file) 66 tt rest

        not_from : other.handle ≢ places.source.handle
        not_from e =
            let same : had.at.file ≡ are.source.file = some_same had.at.file are.source.file (sym had.at.there ∙ ap (file_at tree.files) e ∙ are.source.there) in
            let clash : true ≡ false = sym (longer (names_of are.source.file.body) entry listed) ∙ sym (ap (λ (f : File). has_entries f) same) ∙ empty_then in
            absurd cc

        not_to : other.handle ≢ places.target.handle
        not_to e = not_below_itself tree are.stands.file_tree places.target.handle [] (record { file = are.target.file; there = are.target.there; entry = entry_then; contains = listed_then; names_it = e })

        module _ (replaced : Replaced) (r : replaced ≡ replaced_by second other) where
          replaces : IsReplaced tree moving (names_of are.target.file.body) new_name replaced
          replaces = record {
            file = had.at.file;
            there = ap (λ (v : Replaced). file_at tree.files v.handle) r ∙ had.at.there;
            handle_is = had.at.handle_is ∙ sym (ap (λ (v : Replaced). v.handle) r);
            found = had.found ∙ ap (λ (v : Replaced). Some (record { number = v.number; name = new_name; handle = v.handle })) (sym r);
            sort = ap (λ (v : Replaced). v.is_directory) r ∙ ap (λ (k : ℕ). k == 2) had.at.fields.kind;
            empty = λ one. empty_then;
            not_root = λ e. not_root (sym (ap (λ (v : Replaced). v.handle) r) ∙ e);
            not_source = λ e. not_from (sym (ap (λ (v : Replaced). v.handle) r) ∙ e ∙ ap (λ (v : Moving). v.source) m);
            not_target = λ e. not_to (sym (ap (λ (v : Replaced). v.handle) r) ∙ e ∙ ap (λ (v : Moving). v.target) m);
            not_moved = λ e. apart (sym (ap (λ (v : Replaced). v.handle) r) ∙ e ∙ ap (λ (v : Moving). v.handle) m);
          }

          pub over : IsPassed tree are.source.file are.target.file moving name new_name (Some replaced)
          over = record {
            source_is = are.source.handle_is ∙ sym (ap (λ (v : Moving). v.source) m);
            target_is = are.target.handle_is ∙ sym (ap (λ (v : Moving). v.target) m);
            found = found_is;
            moved = is.at.file;
            moved_there = there_is;
            moved_is = is.at.handle_is ∙ sym (ap (λ (v : Moving). v.handle) m);
            counts = counts_is;
            not_source = λ e. not_source (sym (ap (λ (v : Moving). v.handle) m) ∙ e ∙ ap (λ (v : Moving). v.source) m);
            not_target = λ e. not_target (sym (ap (λ (v : Moving). v.handle) m) ∙ e ∙ ap (λ (v : Moving). v.target) m);
            other = replaces;
            names = λ e same. apart (ap (λ (n : Name). n.handle) (some_same entry_then entry (sym had.found ∙ one_name new_name e same)));
          }

          pub over_comes : (now : Time) (result : Result (List Changed) ChangeError)
              → ComesBy areas truth (coming_in tree are.source.file name are.target.file new_name over.moved (Some over.other.file) now) result
              → ComesBy areas truth (coming_in tree are.source.file name are.target.file new_name is.at.file (Some had.at.file) now) result
          unfolding over replaces
          over_comes now result c = c
