-- An entry put into a directory, by the two changes of its tree and its inode.
use Rattle.std.proofs.Common.{◌≡◌, ℕ, zero, suc, ◌+◌, ◌<◌, ◌≤◌, Bool, true, false, List, [], ◌∷◌, length, Option, Some, None, refl, sym, ap, ◌∙◌, subst, arith, inl, inr}
use Rattle.std.specs.Prelude.{◌≢◌, Contains, Err, IsSome, if◌then◌else◌}
use Rattle.bx_blink.specs.declared.error.BlinkError.{BlinkError}
use Rattle.bx_blink.specs.declared.error.BlinkError.TheVariants as tree_error
use Rattle.bx_blink.specs.Hints.{Under}
use Rattle.bx_changes.proofs.FileChanged.{changed_is_put}
use Rattle.bx_changes.specs.declared.error.ChangeError.{ChangeError}
use Rattle.bx_directory_reads.specs.bx_dirs.specs.Changes.{AddsAt, AddsIn, OnAddPath, entry_of}
use Rattle.bx_directory_reads.specs.bx_dirs.specs.Edits.{EditsDirectory, IsDirectoryUnder, with_names}
use Rattle.bx_directory_reads.specs.bx_dirs.specs.Entries.{HasEntries}
use Rattle.bx_directory_reads.specs.bx_dirs.proofs.Directories.{has_entries}
use Rattle.bx_entries.proofs.InodePut.{elsewhere, fits}
use Rattle.bx_entries.proofs.Twice.{twice}
use Rattle.bx_inodes.proofs.Pages.{inode_is}
use Rattle.bx_inodes.specs.Inodes.{HoldsInode}
use Rattle.bx_inodes.specs.Writing.{PutsInode}
use Rattle.bx_layout.specs.declared.block.Block.{Block}
use Rattle.bx_layout.specs.declared.inode.Inode.{Inode}
use Rattle.bx_leaves.specs.Changes.{NeedsUnheld}
use Rattle.bx_leaves.proofs.Written.{draft_elsewhere, own_not_slot}
use Rattle.bx_making.proofs.Puts.{put_chunk, put_holds}
use Rattle.bx_model.specs.declared.tree.Tree.{Tree}
use Rattle.bx_records.specs.Drafts.{Changed}
use Rattle.bx_tree_files.specs.declared.file.Body.{Body}
use Rattle.bx_tree_files.specs.declared.file.File.{File}
use Rattle.bx_tree_files.specs.declared.file.Name.{Name}
use Rattle.bx_tree_files.specs.Changes.{entered}
use Rattle.bx_tree_files.specs.Entries.{AreBelow, with_name}
use Rattle.bx_tree_files.specs.Files.{IsNumbered, with_file}
use Rattle.bx_tree_files.specs.Names.{with_entry}
use Rattle.bx_tree_files.specs.Times.{Time}
use Rattle.bx_truth.specs.Chunks.{block_at, chunks_of, own_block}
use Rattle.bx_truth.specs.Edits.{ChunkAnew, SameSlots}
use Rattle.bx_truth.specs.PageTrees.{IsTree, map_of}
use Rattle.bx_truth.specs.Stands.{StandsFor}
use Rattle.bx_truth.specs.Stored.{AreNames, HasBody, HasFields, IsDirectory}
use Rattle.bx_truth.proofs.Dirs.{file_anew}
use Rattle.bx_truth.proofs.Put.{shown}
use Rattle.bx_truth.proofs.Same.{chunk_is}
use Rattle.bx_views.specs.Truths.{Held, Hints, Truth, with_draft}
use Rattle.bx_entries.specs.Entering.{Enters, EntersIn, MayEnter, entered_inode}
use Rattle.bx_changes.specs.Stopping.{StopsChange}
use Rattle.bx_entries.proofs.Asked.{add_block}
use Rattle.bx_entries.proofs.Room.{never_full}

-- all numbers of entries are below the next one
below_all : (next : ℕ) (names : List Name) → AreBelow next names → (other : Name) → Contains names other → other.number < next
below_all next [] below other there = absurd (omega (arith, there.1))
below_all next (x ∷ xs) below other (zero, less, is) = subst (λ (n : Name). n.number < next) is below.0
below_all next (x ∷ xs) below other (suc k, less, is) = below_all next xs below.1 other (k, omega (arith, less), is)

none_some : (o : Option Name) → o ≡ None → IsSome o → ⊥
none_some None none some = let both : false ≡ true = some in absurd cc
none_some (Some found) none some = absurd cc

module _ (areas : ℕ) (held : Held) (hints : Hints) (truth : Truth) (old : List Changed) (tree : Tree) (handle : ℕ) (inode : Inode) (file : File) (name : List ℕ) (made : ℕ) (counts : Bool) (now : Time)
    (e : MayEnter areas held hints truth old tree handle inode file name) where
  is_directory : IsDirectory (chunks_of areas (with_draft truth old)) e.is.owner handle (e.is.stored handle) e.parent e.next e.names
  is_directory = subst (λ (b : Body). HasBody (chunks_of areas (with_draft truth old)) e.is.owner handle (e.is.stored handle) b) e.body (shown areas (with_draft truth old) tree handle file e.is e.there).body

  next_is : inode.next ≡ e.next
  next_is = ap (λ (i : Inode). i.next) (sym (inode_is areas (with_draft truth old) tree e.is handle inode e.holds)) ∙ is_directory.next_is

  numbered : (file.nlink < e.next) × AreBelow e.next e.names
  numbered = subst (IsNumbered file.nlink) e.body e.numbered

  pub above : (other : Name) → Contains e.names other → other.number < inode.next
  above other there = subst (λ (n : ℕ). other.number < n) (sym next_is) (below_all e.next e.names numbered.1 other there)

  -- another number of entries and of links fits
  pub has_numbers : (inode.next < 4294967295) × ((if counts then inode.nlink else 0) < 4294967295)
  has_numbers = (e.number, by counts)
    where
      less : inode.nlink < 4294967295
      less = let n = numbered.0 in let number = e.number in omega (arith, n, number, next_is, e.fields.nlink)

      by : (b : Bool) → (if b then inode.nlink else 0) < 4294967295
      by true = less
      by false = omega arith

  pub directory : IsDirectoryUnder areas held hints truth old inode.tree tree handle file e.parent e.next e.names
  directory = record { few = e.few; same = e.same; is = e.is; fit = e.fit; inode = inode; holds = e.holds; root_is = refl; there = e.there; body = e.body }

  pub listed : HasEntries areas held hints truth old inode.tree e.names
  listed = has_entries areas held hints truth old tree handle inode file e.parent e.next e.names e.few e.same e.is e.fit e.holds e.there e.body

  under_rooms : Under areas held hints truth old inode.tree (e.rooms.pages)
  under_rooms = record { few = e.few; same = e.same; chunked = e.is.chunked; is = e.rooms.is; hints = e.fit.each handle inode e.rooms.pages e.holds e.rooms.is }

  -- what stops it is a block or want of memory
  pub stopped : (new : List Changed) (error : BlinkError) (stop : ChangeError) → length old ≤ 13 → length name ≤ 255
      → AddsAt held hints old new inode.tree (entry_of inode.next name made) (Err error) → AddsIn areas held hints truth old new inode.tree e.names (entry_of inode.next name made) (Err error)
      → NeedsUnheld {X = Unit {0}} held (OnAddPath held hints old inode.tree (entry_of inode.next name made)) (Err error) → StopsChange areas error stop
      → EntersIn areas truth old tree handle inode name made counts now (Err stop)
  stopped new (tree_error.Need at mode) stop few short a t n (inl s) = subst (λ (x : ChangeError). EntersIn areas truth old tree handle inode name made counts now (Err x)) (sym s.1) tt
  stopped new (tree_error.Need at mode) stop few short a t n (inr s) =
      let block = add_block areas held hints truth old inode.tree (listed.tree) (entry_of inode.next name made) at mode (listed.under) n.1 in
      let both : true ≡ false = sym block ∙ s.0 in absurd cc
  stopped new tree_error.OutOfMemory stop few short a t n s = subst (λ (x : ChangeError). EntersIn areas truth old tree handle inode name made counts now (Err x)) (sym s) tt
  stopped new tree_error.Stale stop few short a t n s = absurd t
  stopped new tree_error.Absent stop few short a t n s = absurd t
  stopped new tree_error.Present stop few short a t n s = absurd (none_some _ e.absent t)
  stopped new (tree_error.Full spare) stop few short a t n s = absurd t
  stopped new (tree_error.NoRoom leaf) stop few short a t n s =
      absurd (never_full areas held hints truth old inode.tree e.rooms.pages inode.next made name under_rooms e.rooms.by_name e.rooms.by_number short new leaf a)
  stopped new tree_error.Crowded stop few short a t n s = absurd (let many = t.1 in omega (arith, few, many))

  module _ (mid new : List Changed) (d : EditsDirectory areas held hints truth old mid inode.tree tree handle file e.parent e.next (with_name e.names inode.next name made)) (puts : PutsInode mid new handle (entered_inode inode now counts)) where
    abbrev names_now : List Name
    names_now = with_name e.names inode.next name made

    abbrev between_file : File
    between_file = with_names file e.parent e.next (with_name e.names inode.next name made)

    abbrev between : Tree
    between = record tree { files = with_file tree.files between_file }

    abbrev after : Inode
    after = entered_inode inode now counts

    abbrev file_now : File
    file_now = entered now name made counts file

    abbrev mid_truth : Truth
    mid_truth = with_draft truth mid

    not_page : (block : Block) → block.kind ≡ 1 → block.kind ≢ 2
    not_page block one two = absurd (omega (arith, one, two))

    holds_mid : HoldsInode areas (with_draft truth mid) handle inode
    holds_mid = record { block = e.holds.block; chunk = d.kept handle e.holds.block e.holds.chunk (not_page e.holds.block e.holds.has.kind); has = e.holds.has }

    stored_mid : (d.directory.is.stored handle).inode ≡ inode
    stored_mid = inode_is areas mid_truth between d.directory.is handle inode holds_mid

    directory_mid : IsDirectory (chunks_of areas (with_draft truth mid)) d.directory.is.owner handle (d.directory.is.stored handle) e.parent e.next (with_name e.names inode.next name made)
    directory_mid = (shown areas mid_truth between handle between_file d.directory.is d.directory.there).body

    directory_new : IsDirectory (chunks_of areas (with_draft truth mid)) d.directory.is.owner handle (record { inode = entered_inode inode now counts; tree = (d.directory.is.stored handle).tree }) e.parent (e.next + 1) (with_name e.names e.next name made)
    directory_new = record {
      kind = ap (λ (i : Inode). i.kind) (sym stored_mid) ∙ directory_mid.kind;
      tree = record {
        is = subst (λ (i : Inode). IsTree (chunks_of areas (with_draft truth mid)) i.tree (d.directory.is.stored handle).tree) stored_mid directory_mid.tree.is;
        pages = directory_mid.tree.pages;
      };
      parent_is = ap (λ (i : Inode). i.parent) (sym stored_mid) ∙ directory_mid.parent_is;
      next_is = ap (λ (n : ℕ). n + 1) next_is;
      entries = subst (λ (n : ℕ). AreNames (map_of (d.directory.is.stored handle).tree) (with_name e.names n name made)) next_is directory_mid.entries;
    }

    body_new : HasBody (chunks_of areas (with_draft truth mid)) d.directory.is.owner handle (record { inode = entered_inode inode now counts; tree = (d.directory.is.stored handle).tree }) (entered now name made counts file).body
    body_new = subst (λ (b : Body). HasBody (chunks_of areas (with_draft truth mid)) d.directory.is.owner handle (record { inode = after; tree = (d.directory.is.stored handle).tree }) b) (sym (ap (with_entry name made) e.body)) directory_new

    fields : HasFields (entered_inode inode now counts) (entered now name made counts file)
    fields = record {
      kind = e.fields.kind;
      mode = e.fields.mode;
      nlink = ap (λ (n : ℕ). if counts then n + 1 else n) e.fields.nlink;
      uid = e.fields.uid;
      gid = e.fields.gid;
      atime = e.fields.atime;
      mtime = refl;
      ctime = refl;
    }

    anew : ChunkAnew (chunks_of areas (with_draft truth mid)) (chunks_of areas (with_draft truth new)) handle puts.block
    anew = put_chunk areas held truth mid new handle holds_mid.block puts.block (record { same = e.same; chunked = d.directory.is.chunked }) holds_mid.chunk puts.is.header puts.put

    slots : SameSlots areas (with_draft truth mid) (with_draft truth new)
    slots = record {
      chunked = (put_holds areas held truth mid new handle holds_mid.block puts.block (record { same = e.same; chunked = d.directory.is.chunked }) holds_mid.chunk puts.is.header puts.put).chunked;
      own = λ area less. subst (λ (x : List Changed). with_draft truth x (own_block area) ≡ with_draft truth mid (own_block area)) (sym puts.put)
          (draft_elsewhere truth mid (block_at handle) (own_block area) puts.block (own_not_slot areas (block_at handle) area (chunk_is areas mid_truth handle holds_mid.block holds_mid.chunk).slot));
    }

    stands_new : StandsFor areas (with_draft truth new) (record tree { files = with_file (with_file tree.files between_file) file_now })
    stands_new =
        file_anew areas mid_truth (with_draft truth new) between handle between_file file_now after puts.block d.directory.is d.directory.there slots anew puts.is.has (ap (λ (i : Inode). i.tree) (sym stored_mid)) e.handle_is fields body_new

    pub enters : Enters areas truth old new tree handle inode name made counts now
    enters = record {
      stands = subst (λ (files : List File). StandsFor areas (with_draft truth new) (record tree { files = files }))
          (twice tree.files between_file file_now refl ∙ sym (changed_is_put tree.files handle (entered now name made counts) file e.is.in_order e.there e.handle_is)) stands_new;
      holds = record { block = puts.block; chunk = anew.here; has = puts.is.has };
      kept = λ other block apart some kind. elsewhere areas held truth mid new handle inode after e.same d.directory.is.chunked holds_mid puts other apart ∙ d.kept other block some kind;
      leads = λ other fit. fits areas held truth mid new handle inode after e.same d.directory.is.chunked holds_mid puts other refl (d.leads other fit);
    }
