-- A file with one more name: the entry, and then the file's inode.
use Rattle.std.proofs.Common.{◌≡◌, ℕ, ◌+◌, ◌<◌, true, false, List, [], Some, refl, sym, ap, ◌∙◌, subst, arith}
use Rattle.std.specs.Prelude.{◌≢◌, is_some, nat_le, Err}
use Rattle.std.proofs.lemmas.Bool.Decides.{nat_tests}
use Rattle.bx_entries.specs.Entering.{Enters, EntersIn, MayEnter}
use Rattle.bx_changes.proofs.FileChanged.{changed_is_put}
use Rattle.bx_changes.specs.declared.error.ChangeError.{ChangeError}
use Rattle.bx_changes.specs.declared.error.ChangeError.TheVariants.{Stopped, Full}
use Rattle.bx_entries.specs.Finding.{IsDirectoryOf}
use Rattle.bx_entries.proofs.InodePut.{fits}
use Rattle.bx_inodes.specs.Inodes.{HoldsInode}
use Rattle.bx_inodes.specs.Writing.{PutsInode}
use Rattle.bx_inodes.specs.declared.stop.Stop.TheVariants.{Need, Inner, Status, OutOfMemory}
use Rattle.bx_layout.specs.declared.block.Block.{Block}
use Rattle.bx_layout.specs.declared.inode.Inode.{Inode}
use Rattle.bx_model.specs.Edits.{changed}
use Rattle.bx_model.specs.declared.tree.Tree.{Tree}
use Rattle.bx_records.specs.Drafts.{Changed}
use Rattle.bx_tree_files.specs.declared.file.Body.{Body}
use Rattle.bx_tree_files.specs.declared.file.File.{File}
use Rattle.bx_tree_files.specs.Changes.{entered, linked}
use Rattle.bx_tree_files.specs.Entries.{entry_named}
use Rattle.bx_tree_files.specs.Files.{file_at, is_directory, with_file}
use Rattle.bx_tree_files.specs.Names.{names_of, next_of}
use Rattle.bx_tree_files.specs.Times.{Time}
use Rattle.bx_tree_laws.proofs.Lookups.{changed_other, some_same}
use Rattle.bx_tree_laws.proofs.Places.{none_is}
use Rattle.bx_tree_laws.proofs.Rises.{contains_at}
use Rattle.bx_truth.specs.Rewritten.{KeepsBody}
use Rattle.bx_truth.specs.Stands.{StandsFor}
use Rattle.bx_truth.specs.Stored.{HasFields}
use Rattle.bx_truth.proofs.Cases.{eq_true}
use Rattle.bx_views.specs.Truths.{Held, Hints, Truth, with_draft}
use Rattle.bx_linking.specs.Drafting.{Leaves}
use Rattle.bx_linking.specs.Linking.{IsLinking, LinksIn, MayLink, with_link}
use Rattle.bx_linking.proofs.Tested.{IsPlaceOf, PassesAll, into, passes, place}

module _ (volume areas : ℕ) (held : Held) (hints : Hints) (truth : Truth) (tree : Tree) (handle : ℕ) (of_file : Inode) (directory : ℕ) (inode : Inode) (name : List ℕ) (now : Time)
    (is : IsLinking volume areas held hints truth tree handle of_file directory inode) (may : MayLink areas held truth is.file.file is.at.file inode name) where
  abbrev d : IsDirectoryOf volume areas held hints truth tree directory inode
  d = into volume areas held hints truth tree handle of_file directory inode name is

  list : IsPlaceOf areas held hints truth inode is.at.file
  list = place volume areas held hints truth tree directory inode d

  passed : PassesAll (is_directory is.file.file) (is_some (entry_named (names_of is.at.file.body) name)) (nat_le 32000 is.file.file.nlink) (nat_le 4294967295 (next_of is.at.file.body))
  passed = passes is.file.file is.at.file name may.none

  less_last : (n m : ℕ) → nat_le 4294967295 n ≡ false → n ≡ m → m < 4294967295
  less_last n m test same = grind (arith, nat_tests, test, same)

  pub enters : MayEnter areas held hints truth [] tree directory inode is.at.file name
  enters = record {
    few = is.few;
    same = is.same;
    is = is.stands.is;
    fit = is.fit;
    there = is.at.there;
    handle_is = is.at.handle_is;
    holds = is.at.holds;
    fields = is.at.fields;
    parent = list.parent;
    next = list.next;
    names = list.names;
    body = list.body_is;
    absent = sym (ap (λ (b : Body). entry_named (names_of b) name) list.body_is) ∙ none_is _ passed.h_is;
    numbered = (is.stands.file_tree.is_file is.at.file (contains_at tree.files directory is.at.file is.at.there)).numbers;
    number = less_last (next_of is.at.file.body) inode.next passed.n_is (ap next_of list.body_is ∙ sym list.next_is);
    rooms = may.ready.rooms;
  }

  pub stopped : (error : ChangeError) → EntersIn areas truth [] tree directory inode name handle false now (Err error) → LinksIn areas truth (with_link tree is.file.file is.at.file name now) (Err error)
  stopped (Stopped (Need at mode)) e = tt
  stopped (Stopped OutOfMemory) e = tt
  stopped (Stopped (Status status)) e = e
  stopped (Stopped (Inner blocks)) e = e
  stopped (Full spare) e = e

  apart : handle ≢ directory
  apart e =
      let same : is.file.file ≡ is.at.file = some_same is.file.file is.at.file (sym is.file.there ∙ ap (file_at tree.files) e ∙ is.at.there) in
      let two = ap (λ (f : File). is_directory f) same ∙ eq_true is.at.file.kind 2 (sym is.at.fields.kind ∙ is.kind) in
      let both : true ≡ false = sym two ∙ passed.d_is in absurd cc

  abbrev between : Tree
  between = changed tree directory (entered now name handle false)

  abbrev more : Inode
  more = record of_file { nlink = of_file.nlink + 1; ctime = now }

  fields : HasFields more (linked now is.file.file)
  fields = record { kind = is.file.fields.kind; mode = is.file.fields.mode; nlink = ap (λ (n : ℕ). n + 1) is.file.fields.nlink; uid = is.file.fields.uid; gid = is.file.fields.gid; atime = is.file.fields.atime; mtime = is.file.fields.mtime; ctime = refl }

  keeps : KeepsBody of_file more
  keeps = record { kind = refl; size = refl; tail = refl; tree = refl; parent = refl; next = refl; path = refl }

  not_page : (block : Block) → block.kind ≡ 1 → block.kind ≢ 2
  not_page block one two = absurd (omega (arith, one, two))

  there : file_at between.files handle ≡ Some is.file.file
  there = changed_other tree.files directory (entered now name handle false) handle (λ f. refl) (λ e. apart (sym e)) ∙ is.file.there

  module _ (mid new : List Changed) (e : Enters areas truth [] mid tree directory inode name handle false now) where
    holds : HoldsInode areas (with_draft truth mid) handle of_file
    holds = record {
      block = is.file.holds.block;
      chunk = e.kept handle is.file.holds.block apart is.file.holds.chunk (not_page is.file.holds.block is.file.holds.has.kind);
      has = is.file.holds.has;
    }

    linked_is : record between { files = with_file between.files (linked now is.file.file) } ≡ with_link tree is.file.file is.at.file name now
    linked_is =
        ap (λ (files : List File). record tree { files = files }) (sym (changed_is_put between.files handle (linked now) is.file.file e.stands.in_order there is.file.handle_is))
        ∙ ap (λ (h : ℕ). changed (changed tree h (entered now name handle false)) handle (linked now)) (sym is.at.handle_is)
        ∙ ap (λ (h : ℕ). changed (changed tree is.at.file.handle (entered now name h false)) h (linked now)) (sym is.file.handle_is)

    pub links : PutsInode mid new handle (record of_file { nlink = of_file.nlink + 1; ctime = now })
        → ((areas : ℕ) (truth : Truth) (tree : Tree) (file file_now : File) (old : Inode) → StandsFor areas (with_draft truth mid) tree
        → file_at tree.files handle ≡ Some file → HoldsInode areas (with_draft truth mid) handle old → KeepsBody old (record of_file { nlink = of_file.nlink + 1; ctime = now })
        → HasFields (record of_file { nlink = of_file.nlink + 1; ctime = now }) file_now → file_now.handle ≡ handle → file_now.body ≡ file.body
        → StandsFor areas (with_draft truth new) (record tree { files = with_file tree.files file_now })) → Leaves areas truth new (with_link tree is.file.file is.at.file name now)
    links puts put = record {
      stands = subst (λ (t : Tree). StandsFor areas (with_draft truth new) t) linked_is (put areas truth between is.file.file (linked now is.file.file) of_file e.stands there holds keeps fields is.file.handle_is refl);
      leads = λ other fit. fits areas held truth mid new handle of_file more is.same e.stands.chunked holds puts other refl (e.leads other fit);
    }
