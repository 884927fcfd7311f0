-- A new file placed in a directory, by the steps: room, the file, the entry.
use Rattle.std.proofs.Common.{◌≡◌, ℕ, List, [], Option, Some, None, sym, ap, ◌∙◌, arith}
use Rattle.std.specs.Prelude.{◌≢◌, ◌==◌, Err}
use Rattle.bx_entries.specs.Entering.{Enters, EntersIn, MayEnter}
use Rattle.bx_entries.specs.RoomFinding.{IsReadyFor, RoomIn}
use Rattle.bx_entries.proofs.Kept.{rooms_kept}
use Rattle.bx_changes.specs.declared.error.ChangeError.{ChangeError}
use Rattle.bx_changes.specs.declared.error.ChangeError.TheVariants.{Stopped, Full}
use Rattle.bx_entries.specs.Finding.{IsDirectoryOf}
use Rattle.bx_entries.specs.declared.finding.Removable.TheVariants as of
use Rattle.bx_entries.proofs.RemovedFrom.{IsListed, listed}
use Rattle.bx_inodes.specs.declared.stop.Stop.TheVariants.{Need, Inner, Status, OutOfMemory}
use Rattle.bx_layout.specs.declared.inode.Inode.{Inode}
use Rattle.bx_entries.specs.bx_making.specs.Made.{MakesFile, file_of}
use Rattle.bx_model.specs.Edits.{with_new}
use Rattle.bx_model.specs.declared.tree.Tree.{Tree}
use Rattle.bx_records.specs.Drafts.{Changed}
use Rattle.bx_tree_files.specs.declared.file.Body.{Body}
use Rattle.bx_tree_files.specs.declared.file.File.{File}
use Rattle.bx_tree_files.specs.Entries.{entry_named}
use Rattle.bx_tree_files.specs.Files.{file_at}
use Rattle.bx_tree_files.specs.Names.{names_of}
use Rattle.bx_tree_files.specs.Times.{Time}
use Rattle.bx_tree_laws.proofs.Lookups.{with_other}
use Rattle.bx_tree_laws.proofs.Rises.{contains_at}
use Rattle.bx_views.specs.Truths.{Held, Hints, Truth}
use Rattle.bx_creating.specs.Finding.{IsPlaceFor}
use Rattle.bx_creating.specs.Placing.{MakesNew, Places, PlacesIn}

some_none : (o : Option File) (file : File) → o ≡ Some file → o ≡ None → ⊥
some_none o file some none = let both : Some file ≡ None = sym some ∙ none in absurd cc

module _ (volume areas : ℕ) (held : Held) (hints : Hints) (truth : Truth) (tree : Tree) (handle : ℕ) (inode : Inode) (name : List ℕ) (p : IsPlaceFor volume areas held hints truth tree handle inode name) (now : Time) (new : Inode) (body : Body) where
  pub room_stops : (stop : ChangeError) → RoomIn areas held truth inode.tree name inode.next (Err stop) → PlacesIn areas truth tree handle name now new body (Err stop)
  room_stops (Stopped (Need at mode)) r = tt
  room_stops (Stopped (Inner blocks)) r = r
  room_stops (Stopped (Status status)) r = r
  room_stops (Stopped OutOfMemory) r = tt
  room_stops (Full spare) r = r.0

  pub make_stops : (stop : ChangeError) → MakesNew areas truth tree new body (Err stop) → PlacesIn areas truth tree handle name now new body (Err stop)
  make_stops (Stopped (Need at mode)) m = tt
  make_stops (Stopped (Inner blocks)) m = absurd m
  make_stops (Stopped (Status status)) m = m
  make_stops (Stopped OutOfMemory) m = tt
  make_stops (Full spare) m = m

  abbrev d : IsDirectoryOf volume areas held hints truth tree handle inode
  d = p.directory

  abbrev file : File
  file = d.at.file

  module _ (ready : IsReadyFor areas held truth inode.tree name inode.next) (draft : List Changed) (made : ℕ) (m : MakesFile areas truth [] draft tree new body made) where
    list : IsListed areas held hints truth inode p.directory.at.file
    list = listed of.Plain volume areas held hints truth tree handle inode name now p.directory

    apart : made ≢ handle
    apart same = some_none (file_at tree.files handle) file d.at.there (ap (file_at tree.files) (sym same) ∙ m.fresh)

    no_link : file.kind ≢ 5
    no_link five = let two = sym d.at.fields.kind ∙ d.kind in omega (arith, two, five)

    pub may_enter : MayEnter areas held hints truth draft (with_new tree (file_of new made body)) handle inode p.directory.at.file name
    may_enter = record {
      few = d.few;
      same = d.same;
      is = m.stands;
      fit = m.leads hints handle file d.at.there no_link d.fit;
      there = with_other tree.files (file_of new made body) handle apart ∙ d.at.there;
      handle_is = d.at.handle_is;
      holds = record { block = d.at.holds.block; chunk = m.kept handle d.at.holds.block d.at.holds.chunk; has = d.at.holds.has };
      fields = d.at.fields;
      parent = list.parent;
      next = list.next;
      names = list.names;
      body = list.body_is;
      absent = ap (λ (b : Body). entry_named (names_of b) name) (sym list.body_is) ∙ p.absent;
      numbered = (d.stands.file_tree.is_file file (contains_at tree.files handle file d.at.there)).numbers;
      number = p.number;
      rooms = rooms_kept areas held truth [] draft inode.tree name inode.next m.kept ready.rooms;
    }

    pub enter_stops : (stop : ChangeError) → EntersIn areas truth draft (with_new tree (file_of new made body)) handle inode name made (new.kind == 2) now (Err stop) → PlacesIn areas truth tree handle name now new body (Err stop)
    enter_stops (Stopped (Need at mode)) e = tt
    enter_stops (Stopped (Inner blocks)) e = absurd e
    enter_stops (Stopped (Status status)) e = e
    enter_stops (Stopped OutOfMemory) e = tt
    enter_stops (Full spare) e = absurd e

    pub places : (last : List Changed) → Enters areas truth draft last (with_new tree (file_of new made body)) handle inode name made (new.kind == 2) now → Places areas truth tree handle name now new body last made
    places last e = record {
      unused = m.unused;
      stands = e.stands;
      leads = λ other fit. e.leads other (m.leads other handle file d.at.there no_link fit);
    }
