-- A file that has moved: its inode anew, with another parent where it is a directory.
use Rattle.std.proofs.Common.{◌≡◌, ℕ, Bool, List, refl, sym, ap, subst}
use Rattle.std.specs.Prelude.{if◌then◌else◌}
use Rattle.bx_changes.proofs.FileChanged.{changed_is_put}
use Rattle.bx_entries.proofs.InodePut.{fits}
use Rattle.bx_inodes.proofs.Pages.{inode_is}
use Rattle.bx_inodes.specs.Inodes.{IsInodeOf}
use Rattle.bx_inodes.specs.Writing.{PutsInode}
use Rattle.bx_layout.specs.declared.inode.Inode.{Inode}
use Rattle.bx_leaves.proofs.Written.{draft_elsewhere, own_not_slot}
use Rattle.bx_entries.specs.bx_making.proofs.Puts.{put_chunk, put_holds}
use Rattle.bx_model.specs.Edits.{changed}
use Rattle.bx_model.specs.declared.tree.Tree.{Tree}
use Rattle.bx_records.specs.Drafts.{Changed}
use Rattle.bx_tree_files.specs.declared.file.Body.{Body}
use Rattle.bx_tree_files.specs.declared.file.Body.TheVariants.{Bytes, Path, Names}
use Rattle.bx_tree_files.specs.declared.file.File.{File}
use Rattle.bx_tree_files.specs.Changes.{moved_to}
use Rattle.bx_tree_files.specs.Names.{with_parent}
use Rattle.bx_tree_files.specs.Times.{Time}
use Rattle.bx_truth.specs.Chunks.{block_at, chunks_of, own_block}
use Rattle.bx_truth.specs.Edits.{ChunkAnew, SameSlots}
use Rattle.bx_truth.specs.Stands.{StandsFor}
use Rattle.bx_truth.specs.Stored.{HasBody, HasFields, Stored}
use Rattle.bx_truth.proofs.Cases.{eq_true}
use Rattle.bx_truth.proofs.Dirs.{file_anew}
use Rattle.bx_truth.proofs.Put.{shown}
use Rattle.bx_truth.proofs.Same.{chunk_is}
use Rattle.bx_views.specs.Truths.{Held, Hints, Truth, with_draft}
use Rattle.bx_moving.specs.Edits.{EditedTo, Rests, settled_inode}

module _ (areas : ℕ) (held : Held) (hints : Hints) (truth : Truth) (old new : List Changed) (tree : Tree) (handle : ℕ) (inode : Inode) (parent : ℕ) (now : Time) (r : Rests areas held hints truth old tree)
    (f : IsInodeOf areas (with_draft truth old) tree handle inode) (puts : PutsInode old new handle (settled_inode parent now inode)) where
  abbrev after : Inode
  after = settled_inode parent now inode

  abbrev file_now : File
  file_now = moved_to now parent f.file

  fields : HasFields (settled_inode parent now inode) (moved_to now parent f.file)
  fields = record { kind = f.fields.kind; mode = f.fields.mode; nlink = f.fields.nlink; uid = f.fields.uid; gid = f.fields.gid; atime = f.fields.atime; mtime = f.fields.mtime; ctime = refl }

  body_was : HasBody (chunks_of areas (with_draft truth old)) r.is.owner handle (r.is.stored handle) f.file.body
  body_was = (shown areas (with_draft truth old) tree handle f.file r.is f.there).body

  stored_is : (r.is.stored handle).inode ≡ inode
  stored_is = inode_is areas (with_draft truth old) tree r.is handle inode f.holds

  anew : ChunkAnew (chunks_of areas (with_draft truth old)) (chunks_of areas (with_draft truth new)) handle puts.block
  anew = put_chunk areas held truth old new handle f.holds.block puts.block (record { same = r.same; chunked = r.is.chunked }) f.holds.chunk puts.is.header puts.put

  slots : SameSlots areas (with_draft truth old) (with_draft truth new)
  slots = record {
    chunked = (put_holds areas held truth old new handle f.holds.block puts.block (record { same = r.same; chunked = r.is.chunked }) f.holds.chunk puts.is.header puts.put).chunked;
    own = λ area less. subst (λ (x : List Changed). with_draft truth x (own_block area) ≡ with_draft truth old (own_block area)) (sym puts.put)
        (draft_elsewhere truth old (block_at handle) (own_block area) puts.block (own_not_slot areas (block_at handle) area (chunk_is areas (with_draft truth old) handle f.holds.block f.holds.chunk).slot));
  }

  abbrev stored_then : Stored
  stored_then = record { inode = settled_inode parent now inode; tree = (r.is.stored handle).tree }

  abbrev stored_with : Inode → Stored
  stored_with i = record { inode = i; tree = (r.is.stored handle).tree }

  -- what the body is with the inode that was read
  body_read : HasBody (chunks_of areas (with_draft truth old)) r.is.owner handle (record { inode = inode; tree = (r.is.stored handle).tree }) f.file.body
  body_read = subst (λ (i : Inode). HasBody (chunks_of areas (with_draft truth old)) r.is.owner handle (record { inode = i; tree = (r.is.stored handle).tree }) f.file.body) stored_is body_was

  body_then : (b : Body) → HasBody (chunks_of areas (with_draft truth old)) r.is.owner handle (record { inode = inode; tree = (r.is.stored handle).tree }) b
      → HasBody (chunks_of areas (with_draft truth old)) r.is.owner handle (record { inode = settled_inode parent now inode; tree = (r.is.stored handle).tree }) (with_parent parent b)
  body_then (Bytes bytes) has = record { kind = has.kind; tree = record { is = has.tree.is; pages = has.tree.pages }; contents = has.contents; bytes_are = has.bytes_are }
  body_then (Path path) has = record { kind = has.kind; no_tree = has.no_tree; path_is = has.path_is }
  body_then (Names p next names) has = record {
    kind = has.kind;
    tree = record { is = has.tree.is; pages = has.tree.pages };
    parent_is = ap (λ (t : Bool). if t then parent else inode.parent) (eq_true inode.kind 2 has.kind);
    next_is = has.next_is;
    entries = has.entries;
  }

  pub settles : EditedTo areas truth old new (changed tree handle (moved_to now parent))
  settles = record {
    stands = subst (λ (files : List File). StandsFor areas (with_draft truth new) (record tree { files = files })) (sym (changed_is_put tree.files handle (moved_to now parent) f.file r.is.in_order f.there f.handle_is))
        (file_anew areas (with_draft truth old) (with_draft truth new) tree handle f.file file_now after puts.block r.is f.there slots anew puts.is.has (ap (λ (i : Inode). i.tree) (sym stored_is)) f.handle_is fields
        (body_then f.file.body body_read));
    leads = λ other fit. fits areas held truth old new handle inode after r.same r.is.chunked f.holds puts other refl fit;
  }
