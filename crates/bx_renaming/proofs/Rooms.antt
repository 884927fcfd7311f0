-- A move into a directory with a number left and room for the name.
use Rattle.std.proofs.Common.{◌≡◌, ℕ, ◌≤◌, ◌<◌, Bool, true, false, List, [], Option, refl, sym, ap, ◌∙◌, subst, arith}
use Rattle.std.specs.Prelude.{nat_le, nat_lt, Result, Ok, Err}
use Rattle.std.proofs.lemmas.Bool.{le-leb}
use Rattle.std.proofs.lemmas.Bool.Decides.{nat_tests}
use Rattle.bx_linking.specs.RoomFinding.{IsReadyFor, RoomIn}
use Rattle.bx_changes.specs.declared.error.ChangeError.{ChangeError}
use Rattle.bx_changes.specs.declared.error.ChangeError.TheVariants.{Stopped, Full}
use Rattle.bx_linking.specs.bx_entries.specs.Finding.{IsDirectoryOf}
use Rattle.bx_inodes.specs.declared.stop.Stop.TheVariants.{Need, Inner, Status, OutOfMemory}
use Rattle.bx_linking.specs.Drafting.{ComesBy}
use Rattle.bx_linking.proofs.Tested.{IsPlaceOf, place}
use Rattle.bx_model.specs.declared.reply.Reply.{Reply}
use Rattle.bx_model.specs.declared.tree.Tree.{Tree}
use Rattle.bx_model.specs.Renaming.{changes_parent, renamed}
use Rattle.bx_model.specs.Steps.{Outcome, refuse, ◌>>◌}
use Rattle.bx_moving.specs.declared.moves.Moving.{Moving}
use Rattle.bx_moving.specs.declared.moves.Replaced.{Replaced}
use Rattle.bx_moving.specs.Edits.{GrowsTo, HasRoomFor}
use Rattle.bx_moving.specs.Moves.{IsMoving, IsPlace, other_of}
use Rattle.bx_moving.proofs.Rooms.{rooms_there}
use Rattle.bx_records.specs.Drafts.{Changed}
use Rattle.bx_tree_files.specs.declared.file.Body.TheVariants.{Names}
use Rattle.bx_tree_files.specs.declared.file.File.{File}
use Rattle.bx_tree_files.specs.declared.file.Name.{Name}
use Rattle.bx_tree_files.specs.Files.{file_at}
use Rattle.bx_tree_files.specs.Names.{names_of, next_of}
use Rattle.bx_tree_files.specs.Times.{Time}
use Rattle.bx_tree_laws.proofs.Rises.{contains_at}
use Rattle.bx_views.specs.Truths.{Held, Hints, Truth}
use Rattle.bx_renaming.specs.declared.places.Places.{Places}
use Rattle.bx_renaming.specs.Renaming.{AreDirectories, IsPassed, coming_in, done_so, other_file}

-- ---- the tests of the directory

abbrev enters_by : Bool → Bool → Outcome → Outcome
enters_by last few done = (refuse last 69 >> refuse few 28) >> done

no_error : (given : Reply × Tree) (status : ℕ) → ◌≡◌ {A = Outcome} (Ok given) (Err status) → ⊥
no_error given status is = absurd cc

few_so : (spare : ℕ) → spare < 8 → nat_lt spare 8 ≡ true
few_so spare less = grind (arith, nat_tests, less)

module _ (volume areas : ℕ) (held : Held) (hints : Hints) (truth : Truth) (tree : Tree) (places : Places) (are : AreDirectories volume areas held hints truth tree places) where
  abbrev pub from : IsDirectoryOf volume areas held hints truth tree places.source.handle places.source.inode
  from = record { few = are.few; same = are.same; stands = are.stands; fit = are.fit; at = are.source; kind = are.source_kind }

  abbrev pub into : IsDirectoryOf volume areas held hints truth tree places.target.handle places.target.inode
  into = record { few = are.few; same = are.same; stands = are.stands; fit = are.fit; at = are.target; kind = are.target_kind }

  of_source : IsPlaceOf areas held hints truth places.source.inode are.source.file
  of_source = place volume areas held hints truth tree places.source.handle places.source.inode from

  of_target : IsPlaceOf areas held hints truth places.target.inode are.target.file
  of_target = place volume areas held hints truth tree places.target.handle places.target.inode into

  next_is : next_of are.target.file.body ≡ places.target.inode.next
  next_is = ap next_of of_target.body_is ∙ sym of_target.next_is

  module _ (name : List ℕ) (new_name : List ℕ) (now : Time) (moving : Moving) (replaced : Option Replaced) (passed : IsPassed tree are.source.file are.target.file moving name new_name replaced) where
    abbrev done : Outcome
    done = done_so tree are.source.file name are.target.file new_name passed.moved (other_file tree are.source.file are.target.file moving name new_name replaced passed) now

    abbrev outcome : ℕ → Outcome
    outcome spare = coming_in tree are.source.file name are.target.file new_name passed.moved (other_file tree are.source.file are.target.file moving name new_name replaced passed) now spare

    by_tests : (last few : Bool) (spare : ℕ) → nat_le 4294967295 (next_of are.target.file.body) ≡ last → nat_lt spare 8 ≡ few → outcome spare ≡ enters_by last few done
    by_tests last few spare last_is few_is = λ i. enters_by (last_is i) (few_is i) done

    pub no_number : 4294967295 ≤ places.target.inode.next
        → coming_in tree are.source.file name are.target.file new_name passed.moved (other_file tree are.source.file are.target.file moving name new_name replaced passed) now 8 ≡ Err 69
    no_number last =
        let more : 4294967295 ≤ next_of are.target.file.body = omega (arith, next_is, last) in
        by_tests true false 8 (le-leb 4294967295 (next_of are.target.file.body) more) refl

    module _ (left : places.target.inode.next < 4294967295) where
      lower : next_of are.target.file.body < 4294967295
      lower = omega (arith, next_is, left)

      not_last : nat_le 4294967295 (next_of are.target.file.body) ≡ false
      not_last = grind (arith, nat_tests, lower)

      pub no_room : (error : ChangeError) → RoomIn areas held truth places.target.inode.tree new_name places.target.inode.next (Err error)
          → ComesBy areas truth (coming_in tree are.source.file name are.target.file new_name passed.moved (other_file tree are.source.file are.target.file moving name new_name replaced passed) now) (Err error)
      no_room (Stopped (Status status)) r = absurd r
      no_room (Stopped (Need at mode)) r = tt
      no_room (Stopped (Inner blocks)) r = (r, λ status is. no_error _ status (sym (by_tests false false 8 not_last refl) ∙ is))
      no_room (Stopped OutOfMemory) r = tt
      no_room (Full spare) r =
          (r.0, by_tests false true spare not_last (few_so spare (r.0).few))

      -- ---- the move may be made

      module _ (ready : IsReadyFor areas held truth places.target.inode.tree new_name places.target.inode.next) where
        source_is : places.source.handle ≡ moving.source
        source_is = sym are.source.handle_is ∙ passed.source_is

        target_is : places.target.handle ≡ moving.target
        target_is = sym are.target.handle_is ∙ passed.target_is

        body_by : (file : File) (parent next : ℕ) (names : List Name) → file.body ≡ Names parent next names → file.body ≡ Names parent next (names_of file.body)
        body_by file parent next names is = is ∙ ap (Names parent next) (sym (ap names_of is))

        source : IsPlace tree moving.source
        source = record {
          file = are.source.file;
          there = sym (ap (file_at tree.files) source_is) ∙ are.source.there;
          handle_is = passed.source_is;
          kind = sym are.source.fields.kind ∙ are.source_kind;
          parent = of_source.parent;
          next = of_source.next;
          names = names_of are.source.file.body;
          body = body_by are.source.file of_source.parent of_source.next of_source.names of_source.body_is;
        }

        target : IsPlace tree moving.target
        target = record {
          file = are.target.file;
          there = sym (ap (file_at tree.files) target_is) ∙ are.target.there;
          handle_is = passed.target_is;
          kind = sym are.target.fields.kind ∙ are.target_kind;
          parent = of_target.parent;
          next = of_target.next;
          names = names_of are.target.file.body;
          body = body_by are.target.file of_target.parent of_target.next of_target.names of_target.body_is;
        }

        less_last : (n m : ℕ) → n ≡ m → n < 4294967295 → m < 4294967295
        less_last n m same less = omega (arith, same, less)

        pub may_move : IsMoving areas held hints truth tree moving name new_name replaced
        unfolding source target
        may_move = record {
          rests = record { few = are.few; same = are.same; is = are.stands.is; fit = are.fit };
          source = source;
          found = passed.found;
          target = target;
          numbered = (are.stands.file_tree.is_file are.target.file (contains_at tree.files places.target.handle are.target.file are.target.there)).numbers;
          left = less_last (next_of are.target.file.body) of_target.next (ap next_of of_target.body_is) lower;
          rooms = subst (λ (h : ℕ). HasRoomFor areas held truth [] h new_name) target_is
              (rooms_there areas held truth places.target.handle places.target.inode new_name are.target.holds ready.rooms);
          moved = passed.moved;
          moved_there = passed.moved_there;
          moved_is = passed.moved_is;
          not_source = passed.not_source;
          not_target = passed.not_target;
          other = passed.other;
          names = passed.names;
        }

        pub moves : (result : Result (List Changed) ChangeError)
            → GrowsTo areas truth [] (renamed now tree are.source.file name are.target.file new_name passed.moved (other_file tree are.source.file are.target.file moving name new_name replaced passed)) result
            → ComesBy areas truth (coming_in tree are.source.file name are.target.file new_name passed.moved (other_file tree are.source.file are.target.file moving name new_name replaced passed) now) result
        moves (Ok new) g = record {
          next = renamed now tree are.source.file name are.target.file new_name passed.moved (other_file tree are.source.file are.target.file moving name new_name replaced passed);
          comes_to = by_tests false false 8 not_last refl;
          leaves = record { stands = g.stands; leads = g.leads };
        }
        moves (Err (Stopped (Need at mode))) g = tt
        moves (Err (Stopped OutOfMemory)) g = tt
        moves (Err (Stopped (Status status))) g = absurd g
        moves (Err (Stopped (Inner blocks))) g = absurd g
        moves (Err (Full spare)) g = absurd g

        pub moves_so : (result : Result (List Changed) ChangeError)
            → GrowsTo areas truth [] (renamed now tree may_move.source.file name may_move.target.file new_name may_move.moved (other_of tree moving may_move.target.names new_name replaced may_move.other)) result
            → ComesBy areas truth (coming_in tree are.source.file name are.target.file new_name passed.moved (other_file tree are.source.file are.target.file moving name new_name replaced passed) now) result
        unfolding may_move
        moves_so result g = moves result g

        pub counts_so : moving.counts ≡ changes_parent may_move.source.file may_move.target.file may_move.moved
        unfolding may_move
        counts_so = passed.counts
