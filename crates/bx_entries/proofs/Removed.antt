-- An entry removed, with a name of its file, by the two steps.
use Rattle.std.proofs.Common.{◌≡◌, ℕ, Bool, List, [], refl, sym, ap, ◌∙◌, subst, arith}
use Rattle.std.specs.Prelude.{◌≢◌, if◌then◌else◌, Contains, Err}
use Rattle.bx_changes.proofs.FileChanged.{changed_is_put}
use Rattle.bx_inodes.specs.declared.stop.Stop.{Stop}
use Rattle.bx_inodes.specs.declared.stop.Stop.TheVariants.{Need, Inner, Status, OutOfMemory}
use Rattle.bx_layout.specs.declared.block.Block.{Block}
use Rattle.bx_layout.specs.declared.inode.Inode.{Inode}
use Rattle.bx_model.specs.Edits.{without}
use Rattle.bx_model.specs.FileTrees.{links_to}
use Rattle.bx_model.specs.Opening.{root_handle}
use Rattle.bx_model.specs.Removing.{without_link}
use Rattle.bx_model.specs.declared.tree.Tree.{Tree}
use Rattle.bx_records.specs.Drafts.{Changed}
use Rattle.bx_tree_files.specs.declared.file.Body.{Body}
use Rattle.bx_tree_files.specs.declared.file.File.{File}
use Rattle.bx_tree_files.specs.Changes.{taken_out}
use Rattle.bx_tree_files.specs.Entries.{entry_named}
use Rattle.bx_tree_files.specs.Files.{is_directory, with_changed, with_file}
use Rattle.bx_tree_files.specs.Names.{names_of}
use Rattle.bx_tree_files.specs.Times.{Time}
use Rattle.bx_tree_laws.proofs.Lookups.{with_other}
use Rattle.bx_tree_laws.proofs.Below.{not_below_itself}
use Rattle.bx_tree_laws.proofs.Entries.{entry_found}
use Rattle.bx_tree_laws.proofs.Links.{names_count}
use Rattle.bx_truth.specs.Stands.{StandsFor}
use Rattle.bx_views.specs.Truths.{Held, Hints, Truth, with_draft}
use Rattle.bx_entries.specs.Removing.{IsRemoval, RemovesEntry, RemovesIn, removed}
use Rattle.bx_entries.specs.Taking.{IsEntryOf, LeavesOthers, TakesEntry, without_entry_of}
use Rattle.bx_entries.specs.Unlinking.{IsFileOf, Unlinks, UnlinksIn}

module _ (volume areas : ℕ) (held : Held) (hints : Hints) (truth : Truth) (tree : Tree) (directory : ℕ) (inode : Inode) (number : ℕ) (name : List ℕ) (handle : ℕ) (of : Inode) (now : Time)
    (r : IsRemoval volume areas held hints truth tree directory inode number name handle of) where
  listed : Contains (names_of r.at.file.body) (record { number = number; name = name; handle = handle })
  listed = (entry_found (names_of r.at.file.body) name (record { number = number; name = name; handle = handle }) (ap (λ (b : Body). entry_named (names_of b) name) r.body ∙ r.found)).0

  -- the file isn't the directory that it is in, nor the root
  apart : handle ≢ directory
  apart e = not_below_itself tree r.stands.file_tree directory []
      (record { file = r.at.file; there = r.at.there; entry = record { number = number; name = name; handle = handle }; contains = listed; names_it = e })

  not_root : handle ≢ root_handle
  not_root e =
      let one = names_count tree.files directory r.at.file (record { number = number; name = name; handle = handle }) r.at.there listed in
      let none : links_to tree.files handle ≡ 0 = ap (links_to tree.files) (e ∙ sym r.stands.is.root_is) ∙ r.stands.file_tree.root_unnamed in
      omega (arith, one, none)

  pub entry : IsEntryOf areas held hints truth [] tree directory inode r.at.file number name
  entry = record {
    few = r.few;
    same = r.same;
    is = r.stands.is;
    fit = r.fit;
    there = r.at.there;
    handle_is = r.at.handle_is;
    holds = r.at.holds;
    fields = r.at.fields;
    kind = r.kind;
    parent = r.parent;
    next = r.next;
    names = r.names;
    body = r.body;
    entry = record { number = number; name = name; handle = handle };
    found = r.found;
    number_is = refl;
  }

  pub stopped_taking : (counts : Bool) (stop : Stop) → TakesEntry areas truth [] tree directory r.at.file name counts now (Err stop) → RemovesIn areas truth (removed tree r.at.file name r.file.file now) (Err stop)
  stopped_taking counts (Need at mode) t = tt
  stopped_taking counts OutOfMemory t = tt
  stopped_taking counts (Status status) t = t
  stopped_taking counts (Inner blocks) t = t

  module _ (counts : Bool) (counts_is : counts ≡ is_directory r.file.file) (mid : List Changed) (left : LeavesOthers areas truth [] mid (without_entry_of tree r.at.file name counts now) directory) where
    not_page : (block : Block) → block.kind ≡ 1 → block.kind ≢ 2
    not_page block one two = absurd (omega (arith, one, two))

    pub file_of : IsFileOf areas held truth mid (without_entry_of tree r.at.file name counts now) handle of r.file.file
    file_of = record {
      same = r.same;
      is = left.stands;
      there = with_other tree.files (taken_out now name counts r.at.file) handle (λ e. apart (sym e ∙ r.at.handle_is)) ∙ r.file.there;
      handle_is = r.file.handle_is;
      holds = record {
        block = r.file.holds.block;
        chunk = left.kept handle r.file.holds.block apart r.file.holds.chunk (not_page r.file.holds.block r.file.holds.has.kind);
        has = r.file.holds.has;
      };
      fields = r.file.fields;
      empty = r.empty;
      not_root = not_root;
    }

    pub stopped_unlinking : (new : List Changed) (stop : Stop) → UnlinksIn areas truth mid new (without_entry_of tree r.at.file name counts now) handle r.file.file now (Err stop)
        → RemovesIn areas truth (removed tree r.at.file name r.file.file now) (Err stop)
    stopped_unlinking new (Need at mode) t = tt
    stopped_unlinking new OutOfMemory t = tt
    stopped_unlinking new (Status status) t = t
    stopped_unlinking new (Inner blocks) t = t

    files : with_file tree.files (taken_out now name counts r.at.file) ≡ with_changed tree.files r.at.file.handle (taken_out now name counts)
    files = sym (ap (λ (h : ℕ). with_changed tree.files h (taken_out now name counts)) r.at.handle_is
        ∙ changed_is_put tree.files directory (taken_out now name counts) r.at.file r.stands.is.in_order r.at.there r.at.handle_is)

    -- the tree that is left, by whether the entry counts
    abbrev left_by : Bool → List File → ℕ → Tree
    left_by d files h = if d then without (record tree { files = files }) h else without_link now (record tree { files = files }) h r.file.file.nlink

    removed_is : left_by (is_directory r.file.file) (with_file tree.files (taken_out now name counts r.at.file)) handle ≡ removed tree r.at.file name r.file.file now
    removed_is =
        ap (λ (l : List File). left_by (is_directory r.file.file) l handle) files
        ∙ ap (λ (h : ℕ). left_by (is_directory r.file.file) (with_changed tree.files r.at.file.handle (taken_out now name counts)) h) (sym r.file.handle_is)
        ∙ ap (λ (c : Bool). left_by (is_directory r.file.file) (with_changed tree.files r.at.file.handle (taken_out now name c)) r.file.file.handle) counts_is

    pub removes : (new : List Changed) → Unlinks areas truth mid new (without_entry_of tree r.at.file name counts now) handle r.file.file now → RemovesEntry areas truth new (removed tree r.at.file name r.file.file now)
    removes new u = record {
      stands = subst (λ (t : Tree). StandsFor areas (with_draft truth new) t) removed_is u.stands;
      leads = λ other fit. u.leads other (left.leads other fit);
    }
