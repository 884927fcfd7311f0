-- Edits over a draft, by the inode that is read over it.
use Rattle.std.proofs.Common.{◌≡◌, ℕ, ◌<◌, Bool, true, false, List, Some, None, sym, ap, ◌∙◌, subst, arith}
use Rattle.std.specs.Prelude.{◌≢◌, IfErr, IfOk, Result, Ok, Err}
use Rattle.bx_entries.specs.Entering.{EntersIn, MayEnter}
use Rattle.bx_base.specs.declared.names.Mode.{Mode}
use Rattle.bx_changes.proofs.FileChanged.{changed_is_put}
use Rattle.bx_changes.specs.Growing.{NeedsBy}
use Rattle.bx_changes.specs.declared.error.ChangeError.{ChangeError}
use Rattle.bx_changes.specs.declared.error.ChangeError.TheVariants.{Stopped, Full}
use Rattle.bx_entries.specs.Taking.{IsEntryOf, TakesEntry, TakesOutAt}
use Rattle.bx_entries.specs.Unlinking.{IsFileOf, Unlinks, UnlinksIn, without_name_of}
use Rattle.bx_inodes.proofs.Pages.{inode_is}
use Rattle.bx_inodes.specs.Inodes.{FileAt, HoldsInode, IsInodeOf}
use Rattle.bx_inodes.specs.declared.stop.Stop.{Stop}
use Rattle.bx_inodes.specs.declared.stop.Stop.TheVariants.{Need, Inner, Status, OutOfMemory}
use Rattle.bx_layout.specs.declared.inode.Inode.{Inode}
use Rattle.bx_model.specs.Edits.{changed}
use Rattle.bx_model.specs.Opening.{root_handle}
use Rattle.bx_model.specs.Removing.{has_entries}
use Rattle.bx_model.specs.declared.tree.Tree.{Tree}
use Rattle.bx_records.specs.Drafts.{Changed}
use Rattle.bx_tree_files.specs.declared.file.Body.{Body}
use Rattle.bx_tree_files.specs.declared.file.Body.TheVariants.{Names}
use Rattle.bx_tree_files.specs.declared.file.File.{File}
use Rattle.bx_tree_files.specs.declared.file.Name.{Name}
use Rattle.bx_tree_files.specs.Changes.{entered, taken_out}
use Rattle.bx_tree_files.specs.Entries.{entry_named}
use Rattle.bx_tree_files.specs.Files.{IsNumbered, file_at, is_directory}
use Rattle.bx_tree_files.specs.Times.{Time}
use Rattle.bx_tree_laws.proofs.Lookups.{some_same}
use Rattle.bx_truth.specs.Chunks.{chunks_of}
use Rattle.bx_truth.specs.Stands.{StandsFor}
use Rattle.bx_truth.specs.Stored.{HasBody, IsDirectory}
use Rattle.bx_truth.proofs.Put.{shown}
use Rattle.bx_views.specs.Truths.{Held, Hints, Truth, with_draft}
use Rattle.bx_moving.specs.Edits.{EditedTo, EditsTo, GrowsTo, HasRoomFor, Rests}
use Rattle.bx_moving.proofs.Rooms.{rooms_stay}

-- ---- the inode isn't seen

module _ (areas : ℕ) (truth : Truth) (old : List Changed) (tree next : Tree) (handle : ℕ) (file : File) (there : file_at tree.files handle ≡ Some file) where
  pub no_stop : (stop : Stop) → FileAt areas (with_draft truth old) tree handle (Err stop) → EditsTo areas truth old next (Err stop)
  no_stop (Status status) (code, none) = let both : Some file ≡ None = sym there ∙ none in absurd cc
  no_stop (Need at mode) f = tt
  no_stop (Inner blocks) f = f
  no_stop OutOfMemory f = tt

  pub no_stop_by : (stop : Stop) → FileAt areas (with_draft truth old) tree handle (Err stop) → GrowsTo areas truth old next (Err (Stopped stop))
  no_stop_by (Status status) (code, none) = let both : Some file ≡ None = sym there ∙ none in absurd cc
  no_stop_by (Need at mode) f = tt
  no_stop_by (Inner blocks) f = f
  no_stop_by OutOfMemory f = tt

-- ---- it is seen

module _ (areas : ℕ) (held : Held) (hints : Hints) (truth : Truth) (old : List Changed) (tree : Tree) (handle : ℕ) (inode : Inode) (r : Rests areas held hints truth old tree)
    (f : IsInodeOf areas (with_draft truth old) tree handle inode) (file : File) (there : file_at tree.files handle ≡ Some file) where
  same : file ≡ f.file
  same = some_same file f.file (sym there ∙ f.there)

  -- an entry goes
  pub entry_in : (parent next : ℕ) (names : List Name) (entry : Name) (number : ℕ) (name : List ℕ) → file.body ≡ Names parent next names → file.kind ≡ 2 → entry_named names name ≡ Some entry → entry.number ≡ number
      → IsEntryOf areas held hints truth old tree handle inode f.file number name
  entry_in parent next names entry number name body two found number_is = record {
    few = r.few;
    same = r.same;
    is = r.is;
    fit = r.fit;
    there = f.there;
    handle_is = f.handle_is;
    holds = f.holds;
    fields = f.fields;
    kind = f.fields.kind ∙ ap (λ (x : File). x.kind) (sym same) ∙ two;
    parent = parent;
    next = next;
    names = names;
    body = ap (λ (x : File). x.body) (sym same) ∙ body;
    entry = entry;
    found = found;
    number_is = number_is;
  }

  pub leaves : (name : List ℕ) (counts : Bool) (now : Time) (result : Result (List Changed) Stop) → TakesEntry areas truth old tree handle f.file name counts now result
      → EditsTo areas truth old (changed tree handle (taken_out now name counts)) result
  leaves name counts now (Ok new) t = record {
    stands = subst (λ (files : List File). StandsFor areas (with_draft truth new) (record tree { files = files })) (sym (changed_is_put tree.files handle (taken_out now name counts) f.file r.is.in_order f.there f.handle_is)) t.stands;
    leads = t.leads;
  }
  leaves name counts now (Err (Need at mode)) t = tt
  leaves name counts now (Err OutOfMemory) t = tt
  leaves name counts now (Err (Status status)) t = t
  leaves name counts now (Err (Inner blocks)) t = t

  -- a name goes
  pub file_in : (is_directory file ≡ true → has_entries file ≡ false) → handle ≢ root_handle → IsFileOf areas held truth old tree handle inode f.file
  file_in empty other = record {
    same = r.same;
    is = r.is;
    there = f.there;
    handle_is = f.handle_is;
    holds = f.holds;
    fields = f.fields;
    empty = subst (λ (x : File). is_directory x ≡ true → has_entries x ≡ false) same empty;
    not_root = other;
  }

  pub loses : (now : Time) (new : List Changed) → Unlinks areas truth old new tree handle f.file now → EditedTo areas truth old new (without_name_of now tree handle file)
  loses now new u = record {
    stands = subst (λ (x : File). StandsFor areas (with_draft truth new) (without_name_of now tree handle x)) (sym same) u.stands;
    leads = u.leads;
  }

  pub not_lost : (now : Time) (new : List Changed) (stop : Stop) → UnlinksIn areas truth old new tree handle f.file now (Err stop) → EditsTo areas truth old (without_name_of now tree handle file) (Err stop)
  not_lost now new (Need at mode) u = tt
  not_lost now new OutOfMemory u = tt
  not_lost now new (Status status) u = u
  not_lost now new (Inner blocks) u = u

  -- an entry comes
  pub enter_in : (parent next : ℕ) (names : List Name) (name : List ℕ) → file.body ≡ Names parent next names → entry_named names name ≡ None → IsNumbered file.nlink file.body → next < 4294967295
      → HasRoomFor areas held truth old handle name → MayEnter areas held hints truth old tree handle inode f.file name
  enter_in parent next names name body absent numbered fewer rooms = record {
    few = r.few;
    same = r.same;
    is = r.is;
    fit = r.fit;
    there = f.there;
    handle_is = f.handle_is;
    holds = f.holds;
    fields = f.fields;
    parent = parent;
    next = next;
    names = names;
    body = body_is;
    absent = absent;
    numbered = subst (λ (x : File). IsNumbered x.nlink x.body) same numbered;
    number = omega (arith, next_is, fewer);
    rooms = rooms inode f.holds;
  }
    where
      body_is : f.file.body ≡ Names parent next names
      body_is = ap (λ (x : File). x.body) (sym same) ∙ body

      is_dir : IsDirectory (chunks_of areas (with_draft truth old)) r.is.owner handle (r.is.stored handle) parent next names
      is_dir = subst (λ (b : Body). HasBody (chunks_of areas (with_draft truth old)) r.is.owner handle (r.is.stored handle) b) body_is (shown areas (with_draft truth old) tree handle f.file r.is f.there).body

      next_is : inode.next ≡ next
      next_is = ap (λ (i : Inode). i.next) (sym (inode_is areas (with_draft truth old) tree r.is handle inode f.holds)) ∙ is_dir.next_is

  pub comes : (name : List ℕ) (made : ℕ) (counts : Bool) (now : Time) (result : Result (List Changed) ChangeError) → EntersIn areas truth old tree handle inode name made counts now result
      → GrowsTo areas truth old (changed tree handle (entered now name made counts)) result
  comes name made counts now (Ok new) e = record { stands = e.stands; leads = e.leads }
  comes name made counts now (Err (Stopped (Need at mode))) e = tt
  comes name made counts now (Err (Stopped OutOfMemory)) e = tt
  comes name made counts now (Err (Stopped (Status status))) e = e
  comes name made counts now (Err (Stopped (Inner blocks))) e = e
  comes name made counts now (Err (Full spare)) e = e

-- ---- what is needed on one path is needed on a wider one

pub needs_if : {T : Type 0} (areas : ℕ) (held : Held) (P Q : ℕ → Mode → Type 0) → ((at : ℕ) (mode : Mode) → P at mode → Q at mode) → (result : Result T ChangeError) → IfErr result (NeedsBy areas held P) → IfErr result (NeedsBy areas held Q)
needs_if areas held P Q wider (Ok done) n = tt
needs_if areas held P Q wider (Err (Stopped (Need at mode))) n = (n.0, n.1, wider at mode n.2)
needs_if areas held P Q wider (Err (Stopped (Inner blocks))) n = tt
needs_if areas held P Q wider (Err (Stopped (Status status))) n = tt
needs_if areas held P Q wider (Err (Stopped OutOfMemory)) n = tt
needs_if areas held P Q wider (Err (Full spare)) n = tt

-- ---- room stays

pub rooms_if : (areas : ℕ) (held : Held) (hints : Hints) (truth : Truth) (old : List Changed) (tree : Tree) (handle : ℕ) (inode : Inode) (file : File) (number : ℕ) (name : List ℕ) (counts : Bool) (now : Time)
    → IsEntryOf areas held hints truth old tree handle inode file number name → HoldsInode areas (with_draft truth old) handle inode → (new_name : List ℕ) → HasRoomFor areas held truth old handle new_name
    → (result : Result (List Changed) Stop) → IfOk result (λ new. TakesOutAt held hints old new handle inode number name counts now) → IfOk result (λ new. HasRoomFor areas held truth new handle new_name)
rooms_if areas held hints truth old tree handle inode file number name counts now e holds new_name rooms (Ok new) t = rooms_stay areas held hints truth old new tree handle inode file number name counts now e t new_name (rooms inode holds)
rooms_if areas held hints truth old tree handle inode file number name counts now e holds new_name rooms (Err stop) t = tt
