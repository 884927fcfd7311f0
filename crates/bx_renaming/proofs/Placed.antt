-- The two directories, by what is found of them.
use Rattle.std.proofs.Common.{◌≡◌, ℕ, Bool, true, false, List, Option, Some, None, refl, sym, ap, ◌∙◌}
use Rattle.std.specs.Prelude.{◌&&◌, ◌||◌, not, if◌then◌else◌, Result, Ok, Err}
use Rattle.bx_places.specs.Handles.{named}
use Rattle.bx_inodes.specs.Heads.{head_of}
use Rattle.bx_inodes.specs.Inodes.{FileAt, IsInodeOf}
use Rattle.bx_inodes.specs.declared.stop.Stop.{Stop}
use Rattle.bx_inodes.specs.declared.stop.Stop.TheVariants.{Need, Inner, Status, OutOfMemory}
use Rattle.bx_layout.specs.declared.inode.Inode.{Inode}
use Rattle.bx_model.specs.declared.call.Call.{Call}
use Rattle.bx_model.specs.declared.permissions.Want.TheVariants as want
use Rattle.bx_model.specs.declared.tree.Tree.{Tree}
use Rattle.bx_model.specs.Moves.{move_places}
use Rattle.bx_model.specs.Permissions.{may}
use Rattle.bx_model.specs.Reading.{named_file}
use Rattle.bx_model.specs.Steps.{must, refuse, ◌>>=◌, ◌>>◌}
use Rattle.bx_changes.specs.bx_reads.proofs.Told.{named_as}
use Rattle.bx_tree_files.specs.declared.file.File.{File}
use Rattle.bx_tree_files.specs.Entries.{is_bad}
use Rattle.bx_tree_files.specs.Files.{file_at, is_directory}
use Rattle.bx_truth.specs.Stored.{HasFields}
use Rattle.bx_views.specs.Truths.{Truth}
use Rattle.bx_renaming.specs.declared.places.Places.{Places}
use Rattle.bx_renaming.specs.Places.{PlacesFor, place_error, places_from}

abbrev or_error : Option ℕ → Result (File × File) ℕ → Result (File × File) ℕ
or_error (Some status) rest = Err status
or_error None rest = rest

abbrev first_error : Bool → Bool → Bool → Bool → Bool → Bool → Option ℕ
first_error s t a b m n = if s && t then (if a || b then Some 13 else if m && n then None else Some 13) else Some 20

tests : (s t a b m n : Bool) (rest : Result (File × File) ℕ)
    → refuse (not s) 20 >> (refuse (not t) 20 >> (refuse a 13 >> (refuse b 13 >> (refuse (not m) 13 >> (refuse (not n) 13 >> rest))))) ≡ or_error (first_error s t a b m n) rest
tests false t a b m n rest = refl
tests true false a b m n rest = refl
tests true true true b m n rest = refl
tests true true false true m n rest = refl
tests true true false false false n rest = refl
tests true true false false true false rest = refl
tests true true false false true true rest = refl

error_is : (call : Call) (name new_name : List ℕ) (s t : ℕ) (of_s of_t : Inode) (source target : File) → HasFields of_s source → HasFields of_t target
    → place_error call name new_name (head_of s of_s) (head_of t of_t) ≡ place_error call name new_name source target
error_is call name new_name s t of_s of_t source target a b = λ i. place_error call name new_name
    (record source { kind = a.kind i; mode = a.mode i; uid = a.uid i; gid = a.gid i }) (record target { kind = b.kind i; mode = b.mode i; uid = b.uid i; gid = b.gid i })

module _ (tree : Tree) (call : Call) (name new_name : List ℕ) (volume : ℕ) (same : tree.volume ≡ volume) (areas : ℕ) (truth : Truth) where
  module _ (source : File) (to : List ℕ) where
    abbrev goal_of : Option File → Result (File × File) ℕ
    goal_of found = places_from call name new_name source found

    pub no_name : None ≡ named volume to → places_from call name new_name source (named_file tree to) ≡ Err 70
    no_name is = ap goal_of (named_as tree volume to None same is)

    module _ (handle : ℕ) (is : Some handle ≡ named volume to) where
      pub no_target : (stop : Stop) → FileAt areas truth tree handle (Err stop) → PlacesFor areas truth tree (places_from call name new_name source (named_file tree to)) (Err stop)
      no_target (Status status) (code, none) = ap goal_of (named_as tree volume to (Some handle) same is ∙ none) ∙ ap Err (sym code)
      no_target (Need at mode) f = tt
      no_target (Inner blocks) f = f
      no_target OutOfMemory f = tt

      module _ (s : ℕ) (of_s of_t : Inode) (fields : HasFields of_s source) (f : IsInodeOf areas truth tree handle of_t) where
        comes : (error : Option ℕ) → error ≡ place_error call name new_name (head_of s of_s) (head_of handle of_t) → places_from call name new_name source (named_file tree to) ≡ or_error error (Ok (source, f.file))
        comes error e =
            ap goal_of (named_as tree volume to (Some handle) same is ∙ f.there)
            ∙ tests (is_directory source) (is_directory f.file) (is_bad name) (is_bad new_name) (may call source want.Change) (may call f.file want.Change) (Ok (source, f.file))
            ∙ ap (λ (o : Option ℕ). or_error o (Ok (source, f.file))) (sym (e ∙ error_is call name new_name s handle of_s of_t source f.file fields f.fields))

        pub refused : (status : ℕ) (error : Option ℕ) → error ≡ Some status → error ≡ place_error call name new_name (head_of s of_s) (head_of handle of_t) → places_from call name new_name source (named_file tree to) ≡ Err status
        refused status error some e = comes error e ∙ ap (λ (o : Option ℕ). or_error o (Ok (source, f.file))) some

        pub placed : (error : Option ℕ) → error ≡ None → error ≡ place_error call name new_name (head_of s of_s) (head_of handle of_t) → places_from call name new_name source (named_file tree to) ≡ Ok (source, f.file)
        placed error none e = comes error e ∙ ap (λ (o : Option ℕ). or_error o (Ok (source, f.file))) none

  module _ (from to : List ℕ) where
    abbrev from_source : Option File → Result (File × File) ℕ
    from_source found = must found 70 >>= (λ source. places_from call name new_name source (named_file tree to))

    pub no_source_named : None ≡ named volume from → move_places tree call from name to new_name ≡ Err 70
    no_source_named is = ap from_source (named_as tree volume from None same is)

    module _ (handle : ℕ) (is : Some handle ≡ named volume from) where
      pub no_source : (stop : Stop) → FileAt areas truth tree handle (Err stop) → PlacesFor areas truth tree (move_places tree call from name to new_name) (Err stop)
      no_source (Status status) (code, none) = ap from_source (named_as tree volume from (Some handle) same is ∙ none) ∙ ap Err (sym code)
      no_source (Need at mode) f = tt
      no_source (Inner blocks) f = f
      no_source OutOfMemory f = tt

      pub from_there : (source : File) → file_at tree.files handle ≡ Some source → move_places tree call from name to new_name ≡ places_from call name new_name source (named_file tree to)
      from_there source there = ap from_source (named_as tree volume from (Some handle) same is ∙ there)

      pub places : (source : File) → file_at tree.files handle ≡ Some source → (result : Result Places Stop) → PlacesFor areas truth tree (places_from call name new_name source (named_file tree to)) result
          → PlacesFor areas truth tree (move_places tree call from name to new_name) result
      places source there (Ok found) p = record { source = p.source; target = p.target; comes_to = from_there source there ∙ p.comes_to }
      places source there (Err (Status status)) p = from_there source there ∙ p
      places source there (Err (Need at mode)) p = tt
      places source there (Err (Inner blocks)) p = p
      places source there (Err OutOfMemory) p = tt
