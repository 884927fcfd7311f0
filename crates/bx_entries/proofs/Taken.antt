-- An entry taken out of a directory, by the two changes of its tree and its inode.
use Rattle.std.proofs.Common.{◌≡◌, ℕ, ◌≤◌, Bool, true, false, List, [], ◌∷◌, Some, refl, sym, ap, ◌∙◌, subst, arith, inl, inr}
use Rattle.std.specs.Prelude.{◌≢◌, ◌+◌, ◌==◌, if◌then◌else◌, length, Ok, Err}
use Rattle.bx_blink.specs.declared.error.BlinkError.{BlinkError}
use Rattle.bx_blink.specs.declared.error.BlinkError.TheVariants as tree_error
use Rattle.bx_directory_reads.specs.bx_dirs.specs.Changes.{OnTakePath, TakesAt, TakesIn}
use Rattle.bx_directory_reads.specs.bx_dirs.specs.Edits.{EditsDirectory, IsDirectoryUnder, with_names}
use Rattle.bx_directory_reads.specs.bx_dirs.specs.Entries.{HasEntries}
use Rattle.bx_directory_reads.specs.bx_dirs.proofs.DirectoryEdits.{entries, pages, under}
use Rattle.bx_inodes.specs.Inodes.{HoldsInode}
use Rattle.bx_inodes.specs.Writing.{PutsInode}
use Rattle.bx_inodes.specs.declared.stop.Stop.{Stop}
use Rattle.bx_layout.specs.declared.block.Block.{Block}
use Rattle.bx_layout.specs.declared.inode.Inode.{Inode}
use Rattle.bx_leaves.specs.Changes.{NeedsUnheld}
use Rattle.bx_model.specs.declared.tree.Tree.{Tree}
use Rattle.bx_records.specs.Drafts.{Changed, with_block}
use Rattle.bx_tree_files.specs.declared.file.File.{File}
use Rattle.bx_tree_files.specs.declared.file.Name.{Name}
use Rattle.bx_tree_files.specs.Changes.{taken_out}
use Rattle.bx_tree_files.specs.Entries.{without_name}
use Rattle.bx_tree_files.specs.Files.{file_at, with_file}
use Rattle.bx_tree_files.specs.Names.{without_entry}
use Rattle.bx_tree_files.specs.Times.{Time}
use Rattle.bx_truth.specs.Chunks.{block_at}
use Rattle.bx_truth.specs.Rewritten.{KeepsBody}
use Rattle.bx_truth.specs.Stands.{StandsFor}
use Rattle.bx_truth.specs.Stored.{HasFields}
use Rattle.bx_views.specs.Truths.{Held, Hints, Truth, with_draft}
use Rattle.bx_entries.specs.Stopping.{StopsBy}
use Rattle.bx_entries.specs.Taking.{IsEntryOf, LeavesOthers, TakesEntry, inode_without, links_left, without_entry_of}
use Rattle.bx_entries.proofs.InodePut.{elsewhere, fits}
use Rattle.bx_entries.proofs.Leaves.{take_block}
use Rattle.bx_entries.proofs.Twice.{twice}

module _ (areas : ℕ) (held : Held) (hints : Hints) (truth : Truth) (old : List Changed) (tree : Tree) (handle : ℕ) (inode : Inode) (file : File) (number : ℕ) (name : List ℕ) (counts : Bool) (now : Time)
    (e : IsEntryOf areas held hints truth old tree handle inode file number name) where
  pub directory : IsDirectoryUnder areas held hints truth old inode.tree tree handle file e.parent e.next e.names
  directory = record { few = e.few; same = e.same; is = e.is; fit = e.fit; inode = inode; holds = e.holds; root_is = refl; there = e.there; body = e.body }

  pub listed : HasEntries areas held hints truth old inode.tree e.names
  listed = record {
    tree = pages areas held hints truth old inode.tree tree handle file e.parent e.next e.names directory;
    under = under areas held hints truth old inode.tree tree handle file e.parent e.next e.names directory;
    entries = entries areas held hints truth old inode.tree tree handle file e.parent e.next e.names directory;
  }

  -- what stops it is a block or want of memory
  pub stopped : (new : List Changed) → length old ≤ 12 → (error : BlinkError) (stop : Stop) → TakesIn areas held hints truth old new inode.tree e.names name (Err error)
      → NeedsUnheld {X = Unit {0}} held (OnTakePath held hints old inode.tree number name) (Err error) → StopsBy areas error stop → TakesEntry areas truth old tree handle file name counts now (Err stop)
  stopped new few (tree_error.Need at mode) stop t n (inl s) = subst (λ (x : Stop). TakesEntry areas truth old tree handle file name counts now (Err x)) (sym s.1) tt
  stopped new few (tree_error.Need at mode) stop t n (inr s) =
      let block = take_block areas held hints truth old inode.tree (listed.tree) number name at mode (listed.under) n.1 in
      let both : true ≡ false = sym block ∙ s.0 in absurd cc
  stopped new few tree_error.OutOfMemory stop t n s = subst (λ (x : Stop). TakesEntry areas truth old tree handle file name counts now (Err x)) (sym s) tt
  stopped new few tree_error.Stale stop t n s = absurd t
  stopped new few tree_error.Absent stop t n s = absurd t
  stopped new few tree_error.Present stop t n s = absurd t
  stopped new few (tree_error.Full spare) stop t n s = absurd t
  stopped new few (tree_error.NoRoom leaf) stop t n s = absurd t
  stopped new few tree_error.Crowded stop t n s = absurd (omega (arith, few, t))

  abbrev names_now : List Name
  names_now = without_name e.names name

  abbrev between : Tree
  between = record tree { files = with_file tree.files (with_names file e.parent e.next names_now) }

  abbrev changed : Inode
  changed = inode_without counts now inode

  not_page : (block : Block) → block.kind ≡ 1 → block.kind ≢ 2
  not_page block one two = absurd (omega (arith, one, two))

  module _ (mid new : List Changed) (d : EditsDirectory areas held hints truth old mid inode.tree tree handle file e.parent e.next (without_name e.names name)) where
    holds_mid : HoldsInode areas (with_draft truth mid) handle inode
    holds_mid = record { block = e.holds.block; chunk = d.kept handle e.holds.block e.holds.chunk (not_page e.holds.block e.holds.has.kind); has = e.holds.has }

    keeps : KeepsBody inode changed
    keeps = record { kind = refl; size = refl; tail = refl; tree = refl; parent = refl; next = refl; path = refl }

    fields : HasFields changed (taken_out now name counts file)
    fields = record { kind = e.fields.kind; mode = e.fields.mode; nlink = ap (links_left counts) e.fields.nlink; uid = e.fields.uid; gid = e.fields.gid; atime = e.fields.atime; mtime = refl; ctime = refl }

    body : (taken_out now name counts file).body ≡ (with_names file e.parent e.next (without_name e.names name)).body
    body = ap (without_entry name) e.body

    pub left : PutsInode mid new handle (inode_without counts now inode) → ((areas : ℕ) (truth : Truth) (tree : Tree) (file file_now : File) (old : Inode) → StandsFor areas (with_draft truth mid) tree
        → file_at tree.files handle ≡ Some file → HoldsInode areas (with_draft truth mid) handle old → KeepsBody old (inode_without counts now inode)
        → HasFields (inode_without counts now inode) file_now → file_now.handle ≡ handle → file_now.body ≡ file.body
        → StandsFor areas (with_draft truth new) (record tree { files = with_file tree.files file_now })) → LeavesOthers areas truth old new (without_entry_of tree file name counts now) handle
    left puts put = record {
      stands = subst (λ (files : List File). StandsFor areas (with_draft truth new) (record tree { files = files })) (twice tree.files (with_names file e.parent e.next names_now) (taken_out now name counts file) refl)
          (put areas truth between (with_names file e.parent e.next names_now) (taken_out now name counts file) inode d.directory.is d.directory.there holds_mid keeps fields e.handle_is body);
      kept = λ other block apart some kind. elsewhere areas held truth mid new handle inode changed e.same d.directory.is.chunked holds_mid puts other apart ∙ d.kept other block some kind;
      leads = λ other fit. fits areas held truth mid new handle inode changed e.same d.directory.is.chunked holds_mid puts other refl (d.leads other fit);
    }

    -- the same, by an inode that is that one
    pub left_as : (written : Inode) → written ≡ inode_without counts now inode → PutsInode mid new handle written
        → ((areas : ℕ) (truth : Truth) (tree : Tree) (file file_now : File) (old : Inode) → StandsFor areas (with_draft truth mid) tree
        → file_at tree.files handle ≡ Some file → HoldsInode areas (with_draft truth mid) handle old → KeepsBody old written
        → HasFields written file_now → file_now.handle ≡ handle → file_now.body ≡ file.body
        → StandsFor areas (with_draft truth new) (record tree { files = with_file tree.files file_now })) → LeavesOthers areas truth old new (without_entry_of tree file name counts now) handle
    left_as written same puts put = left (subst (λ (i : Inode). PutsInode mid new handle i) same puts)
        (subst (λ (i : Inode). (areas : ℕ) (truth : Truth) (tree : Tree) (file file_now : File) (old : Inode) → StandsFor areas (with_draft truth mid) tree
        → file_at tree.files handle ≡ Some file → HoldsInode areas (with_draft truth mid) handle old → KeepsBody old i
        → HasFields i file_now → file_now.handle ≡ handle → file_now.body ≡ file.body
        → StandsFor areas (with_draft truth new) (record tree { files = with_file tree.files file_now })) same put)

-- a draft gets one block more, or two, at most
pub one_block_more : (draft : List Changed) (at : ℕ) (block : Block) → length (with_block draft at block) ≤ length draft + 1
one_block_more [] at block = omega arith
one_block_more (x ∷ draft) at block = by (x.0 == at) (one_block_more draft at block)
  where
    by : (t : Bool) → length (with_block draft at block) ≤ length draft + 1 → length (if t then (at, block) ∷ draft else x ∷ with_block draft at block) ≤ length (x ∷ draft) + 1
    by true more = omega arith
    by false more = omega (arith, more)

pub two_more : (held : Held) (hints : Hints) (old new : List Changed) (root number : ℕ) (name : List ℕ) → TakesAt held hints old new root number name (Ok tt) → length new ≤ length old + 2
two_more held hints old new root number name t =
    let one = one_block_more old (block_at t.named.handle) t.named.puts.block in
    let two = one_block_more t.mid (block_at t.numbered.handle) t.numbered.puts.block in
    let first = ap length t.named.puts.put in
    let second = ap length t.numbered.puts.put in
    omega (arith, one, two, first, second)
