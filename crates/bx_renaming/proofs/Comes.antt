-- What RENAME comes to by what it finds.
use Rattle.std.proofs.Common.{◌≡◌, ℕ, ◌≤◌, Bool, true, false, eqb-true, List, [], Option, Some, None, refl, sym, ap, ◌∙◌, subst}
use Rattle.std.specs.Prelude.{◌≢◌, ◌&&◌, not, if◌then◌else◌, Result, Ok, Err}
use Rattle.std.proofs.lemmas.Bool.{not-false}
use Rattle.bx_linking.specs.Lacking.{IfFirst}
use Rattle.bx_changes.specs.Changes.{Changes}
use Rattle.bx_changes.specs.First.{ComesFirst}
use Rattle.bx_changes.specs.Growing.{IsChangeBy}
use Rattle.bx_changes.specs.declared.error.ChangeError.{ChangeError}
use Rattle.bx_changes.specs.declared.error.ChangeError.TheVariants.{Stopped, Full}
use Rattle.bx_linking.specs.bx_entries.specs.declared.taking.Known.{Known}
use Rattle.bx_inodes.specs.Fitting.{HintsFitAll}
use Rattle.bx_inodes.specs.Stands.{Stands}
use Rattle.bx_inodes.specs.declared.stop.Stop.{Stop}
use Rattle.bx_inodes.specs.declared.stop.Stop.TheVariants.{Need, Inner, Status, OutOfMemory}
use Rattle.bx_linking.specs.Drafting.{ComesBy, ComesSo}
use Rattle.bx_model.specs.declared.call.Call.{Call}
use Rattle.bx_model.specs.declared.permissions.Want.TheVariants as want
use Rattle.bx_model.specs.declared.reply.Reply.TheVariants as reply
use Rattle.bx_model.specs.declared.tree.Tree.{Tree}
use Rattle.bx_model.specs.Making.{entry_errors}
use Rattle.bx_model.specs.Moves.{move_between, move_places}
use Rattle.bx_model.specs.Permissions.{may}
use Rattle.bx_model.specs.Reading.{named_file}
use Rattle.bx_model.specs.Renaming.{changes_parent, file_of_entry, leads_by, rename, replace_errors}
use Rattle.bx_model.specs.Steps.{Outcome, must, refuse, ◌>>=◌, ◌>>◌}
use Rattle.bx_model.proofs.Renamed.{rename_in_two}
use Rattle.bx_changes.specs.bx_reads.proofs.Told.{over_none}
use Rattle.bx_records.specs.Drafts.{Changed}
use Rattle.bx_tree_files.specs.declared.file.File.{File}
use Rattle.bx_tree_files.specs.declared.file.Name.{Name}
use Rattle.bx_tree_files.specs.Entries.{entry_named, is_bad}
use Rattle.bx_tree_files.specs.Files.{file_at, is_directory}
use Rattle.bx_tree_files.specs.Names.{names_of}
use Rattle.bx_tree_files.specs.Times.{Time}
use Rattle.bx_tree_laws.proofs.Renamings.{rename_keeps}
use Rattle.bx_tree_laws.proofs.Steps.{after_must, after_refuse}
use Rattle.bx_truth.proofs.Cases.{eq_false, eq_true}
use Rattle.bx_views.specs.Truths.{Held, Hints, IsTruth, Truth, with_draft}
use Rattle.bx_moving.specs.Ways.{TellsError}
use Rattle.bx_renaming.specs.declared.places.Places.{Places}
use Rattle.bx_renaming.specs.Found.{IsMoved, MovedFor, OtherFor}
use Rattle.bx_renaming.specs.Places.{ArePlaces, PlacesFor}
use Rattle.bx_renaming.specs.Renaming.{AreDirectories, coming_in, depth_errors, done_so, moving_onto, moving_so, onto_errors}

-- ---- what comes to the same

pub comes_along : (areas : ℕ) (truth : Truth) (from to : ℕ → Outcome) → ((spare : ℕ) → to spare ≡ from spare) → (result : Result (List Changed) ChangeError) → ComesBy areas truth from result → ComesBy areas truth to result
comes_along areas truth from to same (Ok new) c = record { next = c.next; comes_to = same 8 ∙ c.comes_to; leaves = c.leaves }
comes_along areas truth from to same (Err (Stopped (Status status))) c = same 8 ∙ c
comes_along areas truth from to same (Err (Stopped (Need at mode))) c = tt
comes_along areas truth from to same (Err (Stopped (Inner blocks))) c = (c.0, λ status is. c.1 status (sym (same 8) ∙ is))
comes_along areas truth from to same (Err (Stopped OutOfMemory)) c = tt
comes_along areas truth from to same (Err (Full spare)) c = (c.0, same spare ∙ c.1)

pub stopped_so : (areas : ℕ) (truth : Truth) (outcome : ℕ → Outcome) (errors : Result (Unit {0}) ℕ) (stop : Stop) → TellsError errors (Err stop) → ComesBy areas truth outcome (Err (Stopped stop))
stopped_so areas truth outcome errors (Need at mode) t = tt
stopped_so areas truth outcome errors (Inner blocks) t = absurd t
stopped_so areas truth outcome errors (Status status) t = absurd t
stopped_so areas truth outcome errors OutOfMemory t = tt

-- ---- the tests before the directory's

abbrev tests : Bool → Bool → Result (Unit {0}) ℕ → Result (Unit {0}) ℕ → Outcome → Outcome
tests a b x y rest = (refuse a 1 >> (refuse b 63 >> (x >> y))) >> rest

in_two : (a b : Bool) (x y : Result (Unit {0}) ℕ) (rest : Outcome) → tests a b x y rest ≡ ((refuse a 1 >> refuse b 63) >> x) >> (y >> rest)
in_two true b x y rest = refl
in_two false true x y rest = refl
in_two false false (Ok done) y rest = refl
in_two false false (Err status) y rest = refl

-- nothing is replaced
in_free : (a b : Bool) (y : Result (Unit {0}) ℕ) (rest : Outcome) → tests a b (Ok tt) y rest ≡ (refuse a 1 >> refuse b 63) >> (y >> rest)
in_free true b y rest = refl
in_free false true y rest = refl
in_free false false y rest = refl

module _ (tree : Tree) (source : File) (name : List ℕ) (target : File) (new_name : List ℕ) (moved : File) (now : Time) where
  abbrev a_of : Bool
  a_of = changes_parent source target moved && leads_by tree target moved.handle

  abbrev b_of : Bool
  b_of = changes_parent source target moved && not (leads_by tree target tree.root)

  free_is : (spare : ℕ) → moving_so tree source name target new_name moved None now spare ≡ depth_errors tree source target moved >> coming_in tree source name target new_name moved None now spare
  free_is spare = in_free a_of b_of (entry_errors target spare) (done_so tree source name target new_name moved None now)

  over_is : (other : File) (spare : ℕ)
      → moving_so tree source name target new_name moved (Some other) now spare ≡ onto_errors tree source target moved other >> coming_in tree source name target new_name moved (Some other) now spare
  over_is other spare = in_two a_of b_of (replace_errors moved (Some other)) (entry_errors target spare) (done_so tree source name target new_name moved (Some other) now)

  pub free_fails : (status : ℕ) (error : Option ℕ) → error ≡ Some status → TellsError (depth_errors tree source target moved) (Ok error) → moving_so tree source name target new_name moved None now 8 ≡ Err status
  free_fails status error some told =
      free_is 8 ∙ ap (λ (r : Result (Unit {0}) ℕ). r >> coming_in tree source name target new_name moved None now 8) (subst (λ (o : Option ℕ). TellsError (depth_errors tree source target moved) (Ok o)) some told)

  pub over_fails : (other : File) (status : ℕ) (error : Option ℕ) → error ≡ Some status → TellsError (onto_errors tree source target moved other) (Ok error) → moving_so tree source name target new_name moved (Some other) now 8 ≡ Err status
  over_fails other status error some told =
      over_is other 8 ∙ ap (λ (r : Result (Unit {0}) ℕ). r >> coming_in tree source name target new_name moved (Some other) now 8) (subst (λ (o : Option ℕ). TellsError (onto_errors tree source target moved other) (Ok o)) some told)

  pub free_passes : (areas : ℕ) (truth : Truth) → depth_errors tree source target moved ≡ Ok tt → (result : Result (List Changed) ChangeError)
      → ComesBy areas truth (coming_in tree source name target new_name moved None now) result → ComesBy areas truth (moving_so tree source name target new_name moved None now) result
  free_passes areas truth none result c =
      comes_along areas truth (coming_in tree source name target new_name moved None now) (moving_so tree source name target new_name moved None now)
      (λ spare. free_is spare ∙ ap (λ (r : Result (Unit {0}) ℕ). r >> coming_in tree source name target new_name moved None now spare) none) result c

  pub over_passes : (other : File) (areas : ℕ) (truth : Truth) → onto_errors tree source target moved other ≡ Ok tt → (result : Result (List Changed) ChangeError)
      → ComesBy areas truth (coming_in tree source name target new_name moved (Some other) now) result → ComesBy areas truth (moving_so tree source name target new_name moved (Some other) now) result
  over_passes other areas truth none result c =
      comes_along areas truth (coming_in tree source name target new_name moved (Some other) now) (moving_so tree source name target new_name moved (Some other) now)
      (λ spare. over_is other spare ∙ ap (λ (r : Result (Unit {0}) ℕ). r >> coming_in tree source name target new_name moved (Some other) now spare) none) result c

  -- both tests found nothing
  both_by : (first rest : Result (Unit {0}) ℕ) → first >> rest ≡ Ok tt → (first ≡ Ok tt) × (rest ≡ Ok tt)
  both_by (Ok done) rest e = (refl, e)
  both_by (Err status) rest e = absurd cc

  pub both_passed : (other : File) → onto_errors tree source target moved other ≡ Ok tt → (depth_errors tree source target moved ≡ Ok tt) × (replace_errors moved (Some other) ≡ Ok tt)
  both_passed other e = both_by (depth_errors tree source target moved) (replace_errors moved (Some other)) e

  -- ---- by what has the new name

  abbrev onto : ℕ → Result (Option File) ℕ → Outcome
  onto spare found = moving_onto tree source name target new_name moved now spare found

  pub nobody_has : (areas : ℕ) (truth : Truth) → entry_named (names_of target.body) new_name ≡ None → (result : Result (List Changed) ChangeError)
      → ComesBy areas truth (moving_so tree source name target new_name moved None now) result
      → ComesBy areas truth (λ spare. moving_onto tree source name target new_name moved now spare (file_of_entry tree (entry_named (names_of target.body) new_name))) result
  nobody_has areas truth none result c =
      comes_along areas truth (moving_so tree source name target new_name moved None now) (λ spare. onto spare (file_of_entry tree (entry_named (names_of target.body) new_name)))
      (λ spare. ap (λ (o : Option Name). onto spare (file_of_entry tree o)) none) result c

  pub not_had : (areas : ℕ) (truth : Truth) (stop : Stop) → OtherFor areas truth tree (names_of target.body) new_name (Err stop)
      → ComesBy areas truth (λ spare. moving_onto tree source name target new_name moved now spare (file_of_entry tree (entry_named (names_of target.body) new_name))) (Err (Stopped stop))
  not_had areas truth (Status status) e = ap (onto 8) e
  not_had areas truth (Need at mode) e = tt
  not_had areas truth (Inner blocks) e = absurd e
  not_had areas truth OutOfMemory e = tt

  module _ (areas : ℕ) (truth : Truth) (second : ℕ) (other : Known) (had : IsMoved areas truth tree (names_of target.body) new_name second other) where
    found_is : file_of_entry tree (entry_named (names_of target.body) new_name) ≡ Ok (Some had.at.file)
    found_is = ap (file_of_entry tree) had.found ∙ ap (λ (o : Option File). must o 70 >>= (λ file. Ok (Some file))) had.at.there

    pub other_has : (handle : ℕ) → moved.handle ≡ handle → other.handle ≢ handle → (result : Result (List Changed) ChangeError)
        → ComesBy areas truth (moving_so tree source name target new_name moved (Some had.at.file) now) result
        → ComesBy areas truth (λ spare. moving_onto tree source name target new_name moved now spare (file_of_entry tree (entry_named (names_of target.body) new_name))) result
    other_has handle moved_is apart result c =
        comes_along areas truth (moving_so tree source name target new_name moved (Some had.at.file) now) (λ spare. onto spare (file_of_entry tree (entry_named (names_of target.body) new_name)))
        (λ spare. ap (onto spare) found_is ∙ ap (λ (b : Bool). if b then Ok (reply.Status 0, tree) else moving_so tree source name target new_name moved (Some had.at.file) now spare)
        (eq_false moved.handle had.at.file.handle (λ e. apart (sym had.at.handle_is ∙ sym e ∙ moved_is)))) result c

    pub itself_has : (handle : ℕ) → moved.handle ≡ handle → other.handle ≡ handle → (volume : ℕ) → Stands volume areas truth tree → (draft : List Changed) → draft ≡ []
        → ComesSo areas truth (moving_onto tree source name target new_name moved now 8 (file_of_entry tree (entry_named (names_of target.body) new_name))) draft
    itself_has handle moved_is same volume stands draft none = record {
      next = tree;
      comes_to = ap (onto 8) found_is ∙ ap (λ (b : Bool). if b then Ok (reply.Status 0, tree) else moving_so tree source name target new_name moved (Some had.at.file) now 8)
          (eq_true moved.handle had.at.file.handle (moved_is ∙ sym same ∙ sym had.at.handle_is));
      leaves = record {
        stands = over_none areas truth tree draft none stands.is;
        leads = λ hints fit. subst (λ (d : List Changed). HintsFitAll areas hints (with_draft truth d)) (sym none) fit;
      };
    }

-- ---- from the two directories on

module _ (tree : Tree) (source : File) (name : List ℕ) (target : File) (new_name : List ℕ) (now : Time) where
  abbrev onto_from : ℕ → File → Outcome
  onto_from spare moved = moving_onto tree source name target new_name moved now spare (file_of_entry tree (entry_named (names_of target.body) new_name))

  abbrev from_moved : ℕ → Option Name → Outcome
  from_moved spare found = must found 2 >>= (λ entry. must (file_at tree.files entry.handle) 70 >>= onto_from spare)

  between_is : (spare : ℕ) → move_between tree source name target new_name now spare ≡ from_moved spare (entry_named (names_of source.body) name)
  between_is spare = refl

  binds : (o : Option Name) (spare : ℕ) → from_moved spare o ≡ ((must o 2 >>= (λ entry. must (file_at tree.files entry.handle) 70)) >>= onto_from spare)
  binds None spare = refl
  binds (Some entry) spare = refl

  pub not_moved : (areas : ℕ) (truth : Truth) (stop : Stop) → MovedFor areas truth tree (names_of source.body) name (Err stop) → ComesBy areas truth (move_between tree source name target new_name now) (Err (Stopped stop))
  not_moved areas truth (Status status) e = binds (entry_named (names_of source.body) name) 8 ∙ ap (λ (r : Result File ℕ). r >>= onto_from 8) e
  not_moved areas truth (Need at mode) e = tt
  not_moved areas truth (Inner blocks) e = absurd e
  not_moved areas truth OutOfMemory e = tt

  pub moves_from : (areas : ℕ) (truth : Truth) (number : ℕ) (known : Known) (is : IsMoved areas truth tree (names_of source.body) name number known) (result : Result (List Changed) ChangeError)
      → ComesBy areas truth (λ spare. moving_onto tree source name target new_name is.at.file now spare (file_of_entry tree (entry_named (names_of target.body) new_name))) result
      → ComesBy areas truth (move_between tree source name target new_name now) result
  moves_from areas truth number known is result c =
      comes_along areas truth (λ spare. onto_from spare is.at.file) (move_between tree source name target new_name now)
      (λ spare. ap (from_moved spare) is.found ∙ ap (λ (o : Option File). must o 70 >>= onto_from spare) is.at.there) result c

-- ---- RENAME

module _ (tree : Tree) (call : Call) (from name to new_name : List ℕ) where
  pub kinds : (source target : File) → move_places tree call from name to new_name ≡ Ok (source, target) → (is_directory source ≡ true) × (is_directory target ≡ true)
  kinds source target e =
      after_must (named_file tree from) 70 _ (source, target) e λ one one_found rest.
      after_must (named_file tree to) 70 _ (source, target) rest λ other other_found rest.
      after_refuse (not (is_directory one)) 20 _ (source, target) rest λ one_is rest.
      after_refuse (not (is_directory other)) 20 _ (source, target) rest λ other_is rest.
      after_refuse (is_bad name) 13 _ (source, target) rest λ fine rest.
      after_refuse (is_bad new_name) 13 _ (source, target) rest λ good rest.
      after_refuse (not (may call one want.Change)) 13 _ (source, target) rest λ one_may rest.
      after_refuse (not (may call other want.Change)) 13 _ (source, target) rest λ other_may rest.
      both one other (not-false (is_directory one) one_is) (not-false (is_directory other) other_is) rest
    where
      both : (one other : File) → is_directory one ≡ true → is_directory other ≡ true → ◌≡◌ {A = Result (File × File) ℕ} (Ok (one, other)) (Ok (source, target)) → (is_directory source ≡ true) × (is_directory target ≡ true)
      both one other a b e =
          let pair : ◌≡◌ {A = File × File} (one, other) (source, target) = cc in
          (sym (ap (λ (p : File × File). is_directory p.0) pair) ∙ a, sym (ap (λ (p : File × File). is_directory p.1) pair) ∙ b)

  module _ (now : Time) where
    abbrev with_places : ℕ → Result (File × File) ℕ → Outcome
    with_places spare found = found >>= λ (places : File × File). move_between tree places.0 name places.1 new_name now spare

    pub no_places : (volume areas : ℕ) (truth : Truth) (stop : Stop) → PlacesFor areas truth tree (move_places tree call from name to new_name) (Err stop)
        → IsChangeBy volume areas truth (λ spare. rename tree call from name to new_name now spare) (Err (Stopped stop))
    no_places volume areas truth (Status status) e = rename_in_two tree call from name to new_name now 8 ∙ ap (with_places 8) e
    no_places volume areas truth (Need at mode) e = tt
    no_places volume areas truth (Inner blocks) e = absurd e
    no_places volume areas truth OutOfMemory e = tt

    module _ (volume areas : ℕ) (truth : Truth) (places : Places) (p : ArePlaces areas truth tree places (move_places tree call from name to new_name)) where
      comes : (spare : ℕ) → rename tree call from name to new_name now spare ≡ move_between tree p.source.file name p.target.file new_name now spare
      comes spare = rename_in_two tree call from name to new_name now spare ∙ ap (with_places spare) p.comes_to

      pub is_stopped : (error : ChangeError) → ComesBy areas truth (move_between tree p.source.file name p.target.file new_name now) (Err error)
          → IsChangeBy volume areas truth (λ spare. rename tree call from name to new_name now spare) (Err error)
      is_stopped (Stopped (Status status)) e = comes 8 ∙ e
      is_stopped (Stopped (Need at mode)) e = tt
      is_stopped (Stopped (Inner blocks)) e = e.0
      is_stopped (Stopped OutOfMemory) e = tt
      is_stopped (Full spare) e = (e.0, comes spare ∙ e.1)

      -- blocks are to be written first where there is no error
      pub is_first : (Prepares : List Changed → Type 0) (error : ChangeError) → ComesBy areas truth (move_between tree p.source.file name p.target.file new_name now) (Err error) → IfFirst Prepares error
          → ComesFirst (λ status. rename tree call from name to new_name now 8 ≡ Err status) Prepares error
      is_first Prepares (Stopped (Inner blocks)) e prepares = ((λ status is. e.1 status (sym (comes 8) ∙ is)), prepares)
      is_first Prepares (Stopped (Status status)) e prepares = tt
      is_first Prepares (Stopped (Need at mode)) e prepares = tt
      is_first Prepares (Stopped OutOfMemory) e prepares = tt
      is_first Prepares (Full spare) e prepares = tt

      pub is_renamed : Stands volume areas truth tree → (new : List Changed) → ComesSo areas truth (move_between tree p.source.file name p.target.file new_name now 8) new
          → Changes volume areas truth (rename tree call from name to new_name now 8) new (reply.Status 0)
      is_renamed stands new c =
          let is = comes 8 ∙ c.comes_to in
          let keeps = rename_keeps tree stands.file_tree call from name to new_name now 8 (reply.Status 0) c.next is in
          record { next = c.next; comes_to = is; stands = record { is = c.leaves.stands; volume_is = keeps.grows.volume ∙ stands.volume_is; file_tree = keeps.is } }

      abbrev pub between : (held : Held) (hints : Hints) → areas ≤ 64 → IsTruth held truth → Stands volume areas truth tree → HintsFitAll areas hints truth → AreDirectories volume areas held hints truth tree places
      between held hints few same stands fit =
          let two = kinds p.source.file p.target.file p.comes_to in
          record {
            few = few;
            same = same;
            stands = stands;
            fit = fit;
            source = p.source;
            target = p.target;
            source_kind = p.source.fields.kind ∙ eqb-true p.source.file.kind 2 two.0;
            target_kind = p.target.fields.kind ∙ eqb-true p.target.file.kind 2 two.1;
          }
