-- What a removal comes to, from the directory on.
use Rattle.std.proofs.Common.{◌≡◌, ℕ, ◌+◌, ◌*◌, ◌/◌, ◌<◌, ◌≤◌, eqb-true, Bool, true, false, List, [], Option, Some, None, refl, sym, ap, ◌∙◌, arith}
use Rattle.std.specs.Prelude.{not, if◌then◌else◌, Result, Ok, Err}
use Rattle.bx_base.specs.declared.names.Mode.{Mode}
use Rattle.bx_changes.specs.Changes.{Changes, IsChange}
use Rattle.bx_changes.specs.bx_files.proofs.Needs.{needs_along}
use Rattle.bx_inodes.specs.Stops.{NeedsOn}
use Rattle.bx_directory_reads.specs.bx_dirs.specs.Entries.{HasEntries}
use Rattle.bx_places.specs.Handles.{named, parts_of}
use Rattle.bx_inodes.specs.Fitting.{HintsFitAll}
use Rattle.bx_inodes.proofs.Pages.{has_pages}
use Rattle.bx_inodes.specs.Stands.{Stands}
use Rattle.bx_inodes.specs.declared.stop.Stop.{Stop}
use Rattle.bx_inodes.specs.declared.stop.Stop.TheVariants.{Need, Inner, Status, OutOfMemory}
use Rattle.bx_layout.specs.declared.inode.Inode.{Inode}
use Rattle.bx_model.specs.declared.call.Call.{Call}
use Rattle.bx_model.specs.declared.permissions.Want.TheVariants as want
use Rattle.bx_model.specs.declared.reply.Reply.TheVariants as reply
use Rattle.bx_model.specs.declared.tree.Tree.{Tree}
use Rattle.bx_model.specs.Reading.{named_file}
use Rattle.bx_model.specs.Edits.{changed, without}
use Rattle.bx_model.specs.FileTrees.{IsFileTree}
use Rattle.bx_model.specs.Removing.{has_entries, without_link}
use Rattle.bx_model.specs.Steps.{Outcome, must, refuse, ◌>>=◌, ◌>>◌}
use Rattle.bx_directory_reads.proofs.Told.{named_as}
use Rattle.bx_records.specs.Drafts.{Changed}
use Rattle.bx_tree_files.specs.declared.file.Body.{Body}
use Rattle.bx_tree_files.specs.declared.file.Body.TheVariants as bodies
use Rattle.bx_tree_files.specs.declared.file.File.{File}
use Rattle.bx_tree_files.specs.declared.file.Name.{Name}
use Rattle.bx_tree_files.specs.Changes.{taken_out}
use Rattle.bx_tree_files.specs.Entries.{entry_named}
use Rattle.bx_tree_files.specs.Files.{file_at, is_directory}
use Rattle.bx_tree_files.specs.Names.{names_of}
use Rattle.bx_tree_files.specs.Times.{Time}
use Rattle.bx_tree_laws.proofs.Grows.{Follows}
use Rattle.bx_tree_laws.proofs.Removings.{remove_keeps, rmdir_keeps}
use Rattle.bx_truth.specs.Chunks.{IsName, chunks_of}
use Rattle.bx_truth.specs.PageTrees.{Chunks}
use Rattle.bx_truth.specs.Stored.{HasBody, IsDirectory, Owner, Stored}
use Rattle.bx_views.specs.Truths.{Held, Hints, IsTruth, Truth}
use Rattle.bx_entries.specs.declared.finding.Removable.{Removable}
use Rattle.bx_entries.specs.declared.finding.Removable.TheVariants as of
use Rattle.bx_entries.specs.Finding.{DirectoryFor, EntryFor, FileFor, IsDirectoryOf, MayUse, MayRemove, RemovesFrom, RemovesSo, usable, removal as comes_of, removal_error, removing, removing_entry, unless}
use Rattle.bx_entries.specs.Removing.{IsRemoval, RemovesIn, removed}
use Rattle.bx_entries.proofs.Found.{is_a_directory, is_removed, may_be_empty, uses}

-- the area of a handle of the volume
less_area : (area slot areas : ℕ) → (1024 * area + slot) / 1024 < areas → area < areas
less_area area slot areas less = omega (arith, less)

pub area_within : (areas handle : ℕ) → IsName areas handle → (parts_of handle).area < areas
area_within areas handle name = less_area (parts_of handle).area (parts_of handle).slot areas name.slot.area

-- ---- the directory's entries

record IsNames (chunks : Chunks) (owner : ℕ → Owner) (handle : ℕ) (stored : Stored) (body : Body) : Type 0 where
  parent : ℕ
  next : ℕ
  names : List Name
  body_is : body ≡ bodies.Names parent next names
  is : IsDirectory chunks owner handle stored parent next names

is_names : (chunks : Chunks) (owner : ℕ → Owner) (handle : ℕ) (stored : Stored) (body : Body) → HasBody chunks owner handle stored body → stored.inode.kind ≡ 2 → IsNames chunks owner handle stored body
is_names chunks owner handle stored (bodies.Bytes bytes) has two = absurd (let one = has.kind in omega (arith, one, two))
is_names chunks owner handle stored (bodies.Path path) has two = absurd (let five = has.kind in omega (arith, five, two))
is_names chunks owner handle stored (bodies.Names parent next names) has two = record { parent = parent; next = next; names = names; body_is = refl; is = has }

pub record IsListed (areas : ℕ) (held : Held) (hints : Hints) (truth : Truth) (inode : Inode) (file : File) : Type 0 where
  pub parent : ℕ
  pub next : ℕ
  pub names : List Name
  pub body_is : file.body ≡ bodies.Names parent next names
  pub entries : HasEntries areas held hints truth [] inode.tree names

no_link : (kind : ℕ) → kind ≡ 2 → kind ≡ 5 → ⊥
no_link kind two five = omega (arith, two, five)

module _ (sort : Removable) (volume areas : ℕ) (held : Held) (hints : Hints) (truth : Truth) (tree : Tree) (handle : ℕ) (inode : Inode) (name : List ℕ) (now : Time) (d : IsDirectoryOf volume areas held hints truth tree handle inode) where
  pub listed : IsListed areas held hints truth inode d.at.file
  listed =
      let pages = has_pages areas held hints truth [] tree handle inode d.at.file d.few d.same d.stands.is d.fit d.at.holds d.at.there (no_link inode.kind d.kind) in
      let b = is_names (chunks_of areas truth) d.stands.is.owner handle (record { inode = inode; tree = pages.pages }) d.at.file.body pages.body d.kind in
      record { parent = b.parent; next = b.next; names = b.names; body_is = b.body_is; entries = record { tree = pages.pages; under = pages.under; entries = b.is.entries } }

  same_names : entry_named (names_of d.at.file.body) name ≡ entry_named listed.names name
  same_names = ap (λ (b : Body). entry_named (names_of b) name) listed.body_is

  abbrev outcome : Outcome
  outcome = removing_entry sort tree d.at.file name now (entry_named (names_of d.at.file.body) name)

  pub no_entry : (stop : Stop) → EntryFor (listed.names) name (Err stop) → RemovesFrom areas truth (removing_entry sort tree d.at.file name now (entry_named (names_of d.at.file.body) name)) (Err stop)
  no_entry (Status status) (two, none) = ap (removing_entry sort tree d.at.file name now) (same_names ∙ none) ∙ ap Err (sym two)
  no_entry (Need at mode) e = tt
  no_entry (Inner blocks) never = never
  no_entry OutOfMemory e = tt

  module _ (number other : ℕ) (found : EntryFor (listed.names) name (Ok (number, other))) where
    to_file : outcome ≡ removing sort tree d.at.file name now (file_at tree.files other)
    to_file = ap (removing_entry sort tree d.at.file name now) (same_names ∙ found)

    pub no_file : (stop : Stop) → FileFor sort areas truth tree d.at.file name now other (Err stop) → RemovesFrom areas truth (removing_entry sort tree d.at.file name now (entry_named (names_of d.at.file.body) name)) (Err stop)
    no_file (Status status) e = to_file ∙ e
    no_file (Need at mode) e = tt
    no_file (Inner blocks) never = never
    no_file OutOfMemory e = tt

    module _ (of : Inode) (m : MayRemove sort areas truth tree other of) where
      pub removal : IsRemoval volume areas held hints truth tree handle inode number name other of
      removal = record {
        few = d.few;
        same = d.same;
        stands = d.stands;
        fit = d.fit;
        at = d.at;
        kind = d.kind;
        parent = listed.parent;
        next = listed.next;
        names = listed.names;
        body = listed.body_is;
        found = found;
        file = m.at;
        empty = may_be_empty sort m.at.file m.may;
      }

      comes_by : (result : Result (List Changed) Stop) → RemovesIn areas truth (removed tree d.at.file name m.at.file now) result → RemovesFrom areas truth (removing_entry sort tree d.at.file name now (entry_named (names_of d.at.file.body) name)) result
      comes_by (Ok new) r = record { next = removed tree d.at.file name m.at.file now; comes_to = to_file ∙ is_removed sort areas truth tree d.at.file name now other of m.at m.may; removes = r }
      comes_by (Err (Need at mode)) r = tt
      comes_by (Err OutOfMemory) r = tt
      comes_by (Err (Status status)) r = absurd r
      comes_by (Err (Inner blocks)) r = r

      pub comes : (result : Result (List Changed) Stop) → ((is : IsRemoval volume areas held hints truth tree handle inode number name other of) → RemovesIn areas truth (removed tree is.at.file name is.file.file now) result)
          → RemovesFrom areas truth (removing_entry sort tree d.at.file name now (entry_named (names_of d.at.file.body) name)) result
      unfolding removal
      comes result r = comes_by result (r removal)

-- what is needed on one path is needed on a wider one
pub needs_wider : {T : Type 0} (areas : ℕ) (held : Held) (P Q : ℕ → Mode → Type 0) → ((at : ℕ) (mode : Mode) → P at mode → Q at mode) → (result : Result T Stop) → NeedsOn areas held P result → NeedsOn areas held Q result
needs_wider areas held P Q wider (Ok done) n = tt
needs_wider {T = T} areas held P Q wider (Err stop) n = needs_along T T areas held P Q wider stop n

-- ---- REMOVE and RMDIR

-- a step that does the same whatever it is given
same_next : {A B : Type 0} (f g : A → Result B ℕ) → ((a : A) → f a ≡ g a) → (r : Result A ℕ) → r >>= f ≡ r >>= g
same_next f g same (Ok a) = same a
same_next f g same (Err status) = refl

module _ (sort : Removable) (tree : Tree) (call : Call) (name : List ℕ) (now : Time) where
  abbrev with_file_of : File → Option File → Result (File × File) ℕ
  with_file_of directory found = must found 70 >>= (λ file. Ok (directory, file))

  abbrev with_entry_of : File → Option Name → Result (File × File) ℕ
  with_entry_of directory found = must found 2 >>= (λ entry. with_file_of directory (file_at tree.files entry.handle))

  abbrev last : Result (File × File) ℕ → Outcome
  last found = found >>= (λ both. unless (removal_error sort both.1) (Ok (reply.Status 0, removed tree both.0 name both.1 now)))

  abbrev from : Result File ℕ → Result (File × File) ℕ
  from found = found >>= (λ directory. with_entry_of directory (entry_named (names_of directory.body) name))

  abbrev rest : Result File ℕ → Outcome
  rest found = last (from found)

  rest_ok : (directory : File) → rest (Ok directory) ≡ removing_entry sort tree directory name now (entry_named (names_of directory.body) name)
  rest_ok directory = by_entry (entry_named (names_of directory.body) name)
    where
      by_file : (o : Option File) → last (with_file_of directory o) ≡ removing sort tree directory name now o
      by_file None = refl
      by_file (Some file) = refl

      by_entry : (o : Option Name) → last (with_entry_of directory o) ≡ removing_entry sort tree directory name now o
      by_entry None = refl
      by_entry (Some entry) = by_file (file_at tree.files entry.handle)

  abbrev error : Removable → Bool → Bool → Option ℕ
  error of.Plain d e = if d then Some 21 else None
  error of.Directory d e = if d then (if e then Some 66 else None) else Some 20

  -- what REMOVE and RMDIR say of a directory and a file is said of both at once
  plain : (directory file : File) (d e : Bool) (h n : ℕ)
      → refuse d 21 >> Ok (reply.Status 0, without_link now (changed tree directory.handle (taken_out now name false)) h n)
      ≡ unless (error of.Plain d e) (Ok (reply.Status 0, if d then without (changed tree directory.handle (taken_out now name d)) h else without_link now (changed tree directory.handle (taken_out now name d)) h n))
  plain directory file true e h n = refl
  plain directory file false e h n = refl

  directory_too : (directory file : File) (d e : Bool) (h n : ℕ)
      → refuse (not d) 20 >> (refuse e 66 >> Ok (reply.Status 0, without (changed tree directory.handle (taken_out now name true)) h))
      ≡ unless (error of.Directory d e) (Ok (reply.Status 0, if d then without (changed tree directory.handle (taken_out now name d)) h else without_link now (changed tree directory.handle (taken_out now name d)) h n))
  directory_too directory file true true h n = refl
  directory_too directory file true false h n = refl
  directory_too directory file false e h n = refl

  keeps_by : (sort : Removable) (bytes : List ℕ) → IsFileTree tree → (next : Tree) → comes_of sort tree call bytes name now ≡ Ok (reply.Status 0, next) → Follows [] tree next
  keeps_by of.Plain bytes was next comes = remove_keeps tree was call bytes name now (reply.Status 0) next comes
  keeps_by of.Directory bytes was next comes = rmdir_keeps tree was call bytes name now (reply.Status 0) next comes

  removal_is : (bytes : List ℕ) → comes_of sort tree call bytes name now ≡ rest (usable want.Change call name (named_file tree bytes))
  removal_is bytes = by sort
    where
      by : (sort : Removable) → comes_of sort tree call bytes name now ≡ (from (usable want.Change call name (named_file tree bytes)) >>= (λ both. unless (removal_error sort both.1) (Ok (reply.Status 0, removed tree both.0 name both.1 now))))
      by of.Plain = same_next _ _ (λ both. plain both.0 both.1 (is_directory both.1) (has_entries both.1) both.1.handle both.1.nlink) (from (usable want.Change call name (named_file tree bytes)))
      by of.Directory = same_next _ _ (λ both. directory_too both.0 both.1 (is_directory both.1) (has_entries both.1) both.1.handle both.1.nlink) (from (usable want.Change call name (named_file tree bytes)))

  module _ (volume : ℕ) (bytes : List ℕ) (same : tree.volume ≡ volume) where
    pub no_name : None ≡ named volume bytes → comes_of sort tree call bytes name now ≡ Err 70
    no_name is = removal_is bytes ∙ ap (λ (o : Option File). rest (usable want.Change call name o)) (named_as tree volume bytes None same is)

    module _ (handle : ℕ) (is : Some handle ≡ named volume bytes) where
      by_handle : comes_of sort tree call bytes name now ≡ rest (usable want.Change call name (file_at tree.files handle))
      by_handle = removal_is bytes ∙ ap (λ (o : Option File). rest (usable want.Change call name o)) (named_as tree volume bytes (Some handle) same is)

      pub no_directory : (areas : ℕ) (truth : Truth) (stop : Stop) → DirectoryFor want.Change areas truth tree call name handle (Err stop) → IsChange volume areas truth tree (comes_of sort tree call bytes name now) (Err stop)
      no_directory areas truth (Status status) e = by_handle ∙ ap rest e
      no_directory areas truth (Need at mode) e = tt
      no_directory areas truth (Inner blocks) never = never
      no_directory areas truth OutOfMemory e = tt

      module _ (areas : ℕ) (truth : Truth) (inode : Inode) (m : MayUse want.Change areas truth tree call name handle inode) where
        pub is_outcome : comes_of sort tree call bytes name now ≡ removing_entry sort tree m.at.file name now (entry_named (names_of m.at.file.body) name)
        is_outcome = by_handle ∙ ap (λ (o : Option File). rest (usable want.Change call name o)) m.at.there ∙ ap rest (uses want.Change call name m.at.file m.may) ∙ rest_ok m.at.file

        pub directory : (held : Held) (hints : Hints) → areas ≤ 64 → IsTruth held truth → Stands volume areas truth tree → HintsFitAll areas hints truth → IsDirectoryOf volume areas held hints truth tree handle inode
        directory held hints few agrees stands fit =
            record { few = few; same = agrees; stands = stands; fit = fit; at = m.at; kind = m.at.fields.kind ∙ eqb-true m.at.file.kind 2 (is_a_directory want.Change call name m.at.file m.may) }

        pub not_removed : (stop : Stop) → RemovesFrom areas truth (removing_entry sort tree m.at.file name now (entry_named (names_of m.at.file.body) name)) (Err stop) → IsChange volume areas truth tree (comes_of sort tree call bytes name now) (Err stop)
        not_removed (Status status) e = is_outcome ∙ e
        not_removed (Need at mode) e = tt
        not_removed (Inner blocks) never = never
        not_removed OutOfMemory e = tt

        pub is_changed : (stands : Stands volume areas truth tree) (new : List Changed) → RemovesSo areas truth (removing_entry sort tree m.at.file name now (entry_named (names_of m.at.file.body) name)) new
            → Changes volume areas truth (comes_of sort tree call bytes name now) new (reply.Status 0)
        is_changed stands new r =
            let comes = is_outcome ∙ r.comes_to in
            let keeps = keeps_by sort bytes stands.file_tree r.next comes in
            record { next = r.next; comes_to = comes; stands = record { is = r.removes.stands; volume_is = keeps.grows.volume ∙ stands.volume_is; file_tree = keeps.is } }

        module _ (held : Held) (hints : Hints) (few : areas ≤ 64) (agrees : IsTruth held truth) (stands : Stands volume areas truth tree) (fit : HintsFitAll areas hints truth)
            (result : Result (List Changed) Stop) (r : (is : IsDirectoryOf volume areas held hints truth tree handle inode) → RemovesFrom areas truth (removing_entry sort tree is.at.file name now (entry_named (names_of is.at.file.body) name)) result) where
          pub removes_from : RemovesFrom areas truth (removing_entry sort tree m.at.file name now (entry_named (names_of m.at.file.body) name)) result
          unfolding directory
          removes_from = r (directory held hints few agrees stands fit)
