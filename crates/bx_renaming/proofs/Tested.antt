-- The errors of a move, by what is found of the files.
use Rattle.std.proofs.Common.{◌≡◌, ℕ, Bool, true, false, List, [], Option, Some, None, refl, sym, ap, ◌∙◌, subst}
use Rattle.std.specs.Prelude.{◌≢◌, ◌==◌, ◌&&◌, not, if◌then◌else◌, nat_lt, length, Result, Ok, Err}
use Rattle.bx_linking.specs.bx_directory_reads.specs.Listings.{FollowsSo}
use Rattle.bx_linking.specs.bx_dirs.specs.Entries.{HasEntries}
use Rattle.bx_linking.specs.bx_entries.proofs.Emptied.{has_none, has_some, has_stopped}
use Rattle.bx_linking.specs.bx_entries.specs.Finding.{IsKnownFile}
use Rattle.bx_inodes.specs.Inodes.{IsInodeOf}
use Rattle.bx_inodes.specs.declared.stop.Stop.{Stop}
use Rattle.bx_inodes.specs.declared.stop.Stop.TheVariants.{Need, Inner, Status, OutOfMemory}
use Rattle.bx_changes.specs.bx_files.specs.Reads.{Tells}
use Rattle.bx_layout.specs.declared.inode.Inode.{Inode}
use Rattle.bx_model.specs.declared.tree.Tree.{Tree}
use Rattle.bx_model.specs.FileTrees.{is_directory_at, is_directory_in}
use Rattle.bx_model.specs.Moves.{way_errors}
use Rattle.bx_model.specs.Removing.{has_entries}
use Rattle.bx_model.specs.Renaming.{leads_by, replace_errors}
use Rattle.bx_model.specs.Steps.{refuse, ◌>>◌}
use Rattle.bx_tree_files.specs.declared.file.Name.{Name}
use Rattle.bx_tree_files.specs.Files.{is_directory}
use Rattle.bx_tree_laws.proofs.Members.{no_entries}
use Rattle.bx_truth.proofs.Cases.{eq_false, eq_true}
use Rattle.bx_views.specs.Truths.{Held, Hints, Truth}
use Rattle.bx_moving.specs.Ways.{TellsError}
use Rattle.bx_renaming.specs.declared.places.Places.{Places}
use Rattle.bx_renaming.specs.Renaming.{AreDirectories, depth_errors}

-- ---- the way up

abbrev pub depth_by : Bool → Bool → Bool → Bool → Result (Unit {0}) ℕ
depth_by d s l r = refuse ((d && not s) && l) 1 >> refuse ((d && not s) && not r) 63

same_by : (d l r : Bool) → depth_by d true l r ≡ Ok tt
same_by true l r = refl
same_by false l r = refl

module _ (volume areas : ℕ) (held : Held) (hints : Hints) (truth : Truth) (tree : Tree) (places : Places) (are : AreDirectories volume areas held hints truth tree places)
    (handle : ℕ) (inode : Inode) (is : IsInodeOf areas truth tree handle inode) where
  abbrev d_of : Bool
  d_of = is_directory is.file

  abbrev s_of : Bool
  s_of = are.source.file.handle == are.target.file.handle

  abbrev l_of : Bool
  l_of = leads_by tree are.target.file is.file.handle

  abbrev r_of : Bool
  r_of = leads_by tree are.target.file tree.root

  pub same_handles : places.source.handle ≡ places.target.handle → (are.source.file.handle == are.target.file.handle) ≡ true
  same_handles e = eq_true are.source.file.handle are.target.file.handle (are.source.handle_is ∙ e ∙ sym are.target.handle_is)

  pub other_handles : places.source.handle ≢ places.target.handle → (are.source.file.handle == are.target.file.handle) ≡ false
  other_handles apart = eq_false are.source.file.handle are.target.file.handle (λ e. apart (sym are.source.handle_is ∙ e ∙ are.target.handle_is))

  pub plain : (inode.kind ≡ 2 → ⊥) → depth_errors tree are.source.file are.target.file is.file ≡ Ok tt
  plain other = ap (λ (d : Bool). depth_by d s_of l_of r_of) (eq_false is.file.kind 2 (λ two. other (is.fields.kind ∙ two)))

  pub within_one : places.source.handle ≡ places.target.handle → depth_errors tree are.source.file are.target.file is.file ≡ Ok tt
  within_one e = ap (λ (s : Bool). depth_by d_of s l_of r_of) (same_handles e) ∙ same_by d_of l_of r_of

  pub is_one : is_directory_at tree.files places.target.handle ≡ true
  is_one = ap is_directory_in are.target.there ∙ eq_true are.target.file.kind 2 (sym are.target.fields.kind ∙ are.target_kind)

  pub by_way : inode.kind ≡ 2 → places.source.handle ≢ places.target.handle → (result : Result (Option ℕ) Stop) → TellsError (way_errors tree 512 places.target.handle handle) result
      → TellsError (depth_errors tree are.source.file are.target.file is.file) result
  by_way two apart result told = subst (λ (e : Result (Unit {0}) ℕ). TellsError e result) (sym same) told
    where
      same : depth_errors tree are.source.file are.target.file is.file ≡ way_errors tree 512 places.target.handle handle
      same =
          ap (λ (d : Bool). depth_by d s_of l_of r_of) (eq_true is.file.kind 2 (sym is.fields.kind ∙ two))
          ∙ ap (λ (s : Bool). depth_by true s l_of r_of) (other_handles apart)
          ∙ ap (λ (h : ℕ). way_errors tree 512 h is.file.handle) are.target.handle_is
          ∙ ap (way_errors tree 512 places.target.handle) is.handle_is

-- ---- the file whose name is taken

abbrev pub replace_by : Bool → Bool → Bool → Result (Unit {0}) ℕ
replace_by m o e = refuse (m && not o) 20 >> (refuse (not m && o) 21 >> refuse e 66)

abbrev directory_error : Bool → Option ℕ
directory_error e = if e then Some 66 else None

some_entry : (e : Bool) → Some 66 ≡ directory_error e → e ≡ true
some_entry true is = refl
some_entry false is = absurd cc

no_entry : (e : Bool) → None ≡ directory_error e → e ≡ false
no_entry true is = absurd cc
no_entry false is = refl

module _ (volume areas : ℕ) (held : Held) (hints : Hints) (truth : Truth) (tree : Tree) (handle other : ℕ) (inode of_other : Inode) (is : IsInodeOf areas truth tree handle inode)
    (known : IsKnownFile volume areas held hints truth tree other of_other) where
  errors_by : (m o e : Bool) → is_directory is.file ≡ m → is_directory known.at.file ≡ o → has_entries known.at.file ≡ e → replace_errors is.file (Some known.at.file) ≡ replace_by m o e
  errors_by m o e m_is o_is e_is = λ i. replace_by (m_is i) (o_is i) (e_is i)

  moves : inode.kind ≡ 2 → is_directory is.file ≡ true
  moves two = eq_true is.file.kind 2 (sym is.fields.kind ∙ two)

  moves_not : (inode.kind ≡ 2 → ⊥) → is_directory is.file ≡ false
  moves_not not_two = eq_false is.file.kind 2 (λ two. not_two (is.fields.kind ∙ two))

  gives : of_other.kind ≡ 2 → is_directory known.at.file ≡ true
  gives two = eq_true known.at.file.kind 2 (sym known.at.fields.kind ∙ two)

  gives_not : (of_other.kind ≡ 2 → ⊥) → is_directory known.at.file ≡ false
  gives_not not_two = eq_false known.at.file.kind 2 (λ two. not_two (known.at.fields.kind ∙ two))

  bare : (of_other.kind ≡ 2 → ⊥) → has_entries known.at.file ≡ false
  bare not_two = ap (λ (l : List Name). nat_lt 0 (length l)) (no_entries tree known.stands.file_tree other known.at.file known.at.there (gives_not not_two))

  pub not_onto : (of_other.kind ≡ 2 → ⊥) → inode.kind ≡ 2 → replace_errors is.file (Some known.at.file) ≡ Err 20
  not_onto not_two two = errors_by true false false (moves two) (gives_not not_two) (bare not_two)

  pub plain_onto : (of_other.kind ≡ 2 → ⊥) → (inode.kind ≡ 2 → ⊥) → replace_errors is.file (Some known.at.file) ≡ Ok tt
  plain_onto not_two plain = errors_by false false false (moves_not plain) (gives_not not_two) (bare not_two)

  pub not_plain : of_other.kind ≡ 2 → (inode.kind ≡ 2 → ⊥) → replace_errors is.file (Some known.at.file) ≡ Err 21
  not_plain two plain = errors_by false true (has_entries known.at.file) (moves_not plain) (gives two) refl

  abbrev Told : Result (Option Name) Stop → Type 0
  Told result = (truth : Truth) (names : List Name) → HasEntries areas held hints truth [] of_other.tree names → FollowsSo names 0 result

  error_is : of_other.kind ≡ 2 → (e : Option ℕ) → e ≡ (if is_directory known.at.file then directory_error (has_entries known.at.file) else Some 20) → e ≡ directory_error (has_entries known.at.file)
  error_is two e is = is ∙ ap (λ (d : Bool). if d then directory_error (has_entries known.at.file) else Some 20) (gives two)

  pub full : of_other.kind ≡ 2 → inode.kind ≡ 2 → (found : Option Name) (entry : Name) → found ≡ Some entry → Told (Ok found) → replace_errors is.file (Some known.at.file) ≡ Err 66
  full two moved found entry some told =
      errors_by true true true (moves moved) (gives two) (some_entry (has_entries known.at.file) (error_is two (Some 66) (has_some volume areas held hints truth tree other of_other known two found entry some told)))

  pub empty : of_other.kind ≡ 2 → inode.kind ≡ 2 → (found : Option Name) → found ≡ None → Told (Ok found) → replace_errors is.file (Some known.at.file) ≡ Ok tt
  empty two moved found none told =
      errors_by true true false (moves moved) (gives two) (no_entry (has_entries known.at.file) (error_is two None (has_none volume areas held hints truth tree other of_other known two found none told)))

  pub not_listed : of_other.kind ≡ 2 → (stop : Stop) → Told (Err stop) → TellsError (replace_errors is.file (Some known.at.file)) (Err stop)
  not_listed two stop told = by stop (has_stopped volume areas held hints truth tree other of_other known two stop told None)
    where
      by : (stop : Stop) → Tells {T = Option ℕ} None (Err stop) → TellsError (replace_errors is.file (Some known.at.file)) (Err stop)
      by (Need at mode) t = tt
      by (Inner blocks) t = t
      by (Status status) t = t
      by OutOfMemory t = tt

-- ---- one test behind another

pub stopped_first : (first rest : Result (Unit {0}) ℕ) (stop : Stop) → TellsError first (Err stop) → TellsError (first >> rest) (Err stop)
stopped_first first rest (Need at mode) t = tt
stopped_first first rest (Inner blocks) t = t
stopped_first first rest (Status status) t = t
stopped_first first rest OutOfMemory t = tt

pub failed_first : (first rest : Result (Unit {0}) ℕ) (status : ℕ) (error : Option ℕ) → error ≡ Some status → TellsError first (Ok error) → first >> rest ≡ Err status
failed_first first rest status error some told = ap (λ (r : Result (Unit {0}) ℕ). r >> rest) (subst (λ (o : Option ℕ). TellsError first (Ok o)) some told)

pub passed_first : (first rest : Result (Unit {0}) ℕ) (error : Option ℕ) → error ≡ None → TellsError first (Ok error) → (result : Result (Option ℕ) Stop) → TellsError rest result → TellsError (first >> rest) result
passed_first first rest error none told result t =
    subst (λ (r : Result (Unit {0}) ℕ). TellsError r result) (sym (ap (λ (r : Result (Unit {0}) ℕ). r >> rest) (subst (λ (o : Option ℕ). TellsError first (Ok o)) none told))) t
