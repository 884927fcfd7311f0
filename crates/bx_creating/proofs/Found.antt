-- The directory that a new entry comes into, by what is found.
use Rattle.std.proofs.Common.{◌≡◌, ℕ, ◌<◌, ◌≤◌, Bool, true, false, eqb-true, List, Option, Some, None, refl, sym, ap, ◌∙◌, arith}
use Rattle.std.specs.Prelude.{is_some, nat_le, nat_lt, Result, Ok, Err}
use Rattle.std.proofs.lemmas.Bool.{le-leb, lt-ltb}
use Rattle.bx_entries.specs.Finding.{DirectoryFor, IsDirectoryOf, MayUse, usable}
use Rattle.bx_entries.specs.declared.finding.Removable.TheVariants as of
use Rattle.bx_entries.proofs.Found.{is_a_directory, uses}
use Rattle.bx_entries.proofs.RemovedFrom.{IsListed, listed}
use Rattle.bx_inodes.specs.Fitting.{HintsFitAll}
use Rattle.bx_inodes.proofs.Pages.{inode_is}
use Rattle.bx_places.specs.Handles.{named}
use Rattle.bx_inodes.specs.Stands.{Stands}
use Rattle.bx_inodes.specs.declared.stop.Stop.{Stop}
use Rattle.bx_inodes.specs.declared.stop.Stop.TheVariants.{Need, Inner, Status, OutOfMemory}
use Rattle.bx_layout.specs.declared.inode.Inode.{Inode}
use Rattle.bx_model.specs.declared.call.Call.{Call}
use Rattle.bx_model.specs.declared.permissions.Want.TheVariants as want
use Rattle.bx_model.specs.declared.tree.Tree.{Tree}
use Rattle.bx_model.specs.Making.{entry_errors, has_entry, new_place}
use Rattle.bx_model.specs.Reading.{named_file}
use Rattle.bx_model.specs.Steps.{refuse, ◌>>=◌, ◌>>◌}
use Rattle.bx_changes.specs.bx_reads.proofs.Told.{named_as}
use Rattle.bx_tree_files.specs.declared.file.Body.{Body}
use Rattle.bx_tree_files.specs.declared.file.Body.TheVariants.{Bytes, Path, Names}
use Rattle.bx_tree_files.specs.declared.file.File.{File}
use Rattle.bx_tree_files.specs.declared.file.Name.{Name}
use Rattle.bx_tree_files.specs.Entries.{entry_named}
use Rattle.bx_tree_files.specs.Files.{file_at}
use Rattle.bx_tree_files.specs.Names.{names_of, next_of}
use Rattle.bx_truth.specs.Chunks.{chunks_of}
use Rattle.bx_truth.specs.PageTrees.{Chunks}
use Rattle.bx_truth.specs.Stored.{HasBody, Owner, Stored}
use Rattle.bx_truth.proofs.Put.{shown}
use Rattle.bx_views.specs.Truths.{Held, Hints, IsTruth, Truth}
use Rattle.bx_creating.specs.Finding.{AbsentIn, FindsPlace, PlaceIn}

-- a directory's next number is its inode's
next_of_body : (chunks : Chunks) (owner : ℕ → Owner) (handle : ℕ) (stored : Stored) (body : Body) → HasBody chunks owner handle stored body → stored.inode.kind ≡ 2 → stored.inode.next ≡ next_of body
next_of_body chunks owner handle stored (Bytes bytes) has two = absurd (let one = has.kind in omega (arith, one, two))
next_of_body chunks owner handle stored (Path path) has two = absurd (let five = has.kind in omega (arith, five, two))
next_of_body chunks owner handle stored (Names parent next names) has two = has.next_is

pub next_is : (volume areas : ℕ) (held : Held) (hints : Hints) (truth : Truth) (tree : Tree) (handle : ℕ) (inode : Inode) (d : IsDirectoryOf volume areas held hints truth tree handle inode) → inode.next ≡ next_of d.at.file.body
next_is volume areas held hints truth tree handle inode d =
    let same = inode_is areas truth tree d.stands.is handle inode d.at.holds in
    ap (λ (i : Inode). i.next) (sym same)
    ∙ next_of_body (chunks_of areas truth) d.stands.is.owner handle (d.stands.is.stored handle) d.at.file.body (shown areas truth tree handle d.at.file d.stands.is d.at.there).body (ap (λ (i : Inode). i.kind) same ∙ d.kind)

-- the last tests: an entry has the name, no number is left, too few blocks are free
abbrev tested : Bool → Bool → Bool → File → Result File ℕ
tested exists full few file = refuse exists 17 >> ((refuse full 69 >> refuse few 28) >> Ok file)

module _ (tree : Tree) (call : Call) (name : List ℕ) where
  abbrev rest : ℕ → Result File ℕ → Result File ℕ
  rest spare found = found >>= (λ directory. refuse (has_entry directory name) 17 >> (entry_errors directory spare >> Ok directory))

  abbrev after : ℕ → File → Result File ℕ
  after spare file = tested (has_entry file name) (nat_le 4294967295 (next_of file.body)) (nat_lt spare 8) file

  place_is : (bytes : List ℕ) (spare : ℕ) → new_place tree call bytes name spare ≡ rest spare (usable want.Change call name (named_file tree bytes))
  place_is bytes spare = refl

  module _ (volume : ℕ) (bytes : List ℕ) (same : tree.volume ≡ volume) where
    pub no_name : (spare : ℕ) → None ≡ named volume bytes → new_place tree call bytes name spare ≡ Err 70
    no_name spare is = ap (λ (o : Option File). rest spare (usable want.Change call name o)) (named_as tree volume bytes None same is)

    module _ (handle : ℕ) (is : Some handle ≡ named volume bytes) where
      by_handle : (spare : ℕ) → new_place tree call bytes name spare ≡ rest spare (usable want.Change call name (file_at tree.files handle))
      by_handle spare = ap (λ (o : Option File). rest spare (usable want.Change call name o)) (named_as tree volume bytes (Some handle) same is)

      pub no_directory : (areas : ℕ) (held : Held) (hints : Hints) (truth : Truth) (stop : Stop) → DirectoryFor want.Change areas truth tree call name handle (Err stop) → PlaceIn volume areas held hints truth tree call bytes name (Err stop)
      no_directory areas held hints truth (Status status) e = by_handle 8 ∙ ap (rest 8) e
      no_directory areas held hints truth (Need at mode) e = tt
      no_directory areas held hints truth (Inner blocks) never = never
      no_directory areas held hints truth OutOfMemory e = tt

      module _ (areas : ℕ) (held : Held) (hints : Hints) (truth : Truth) (inode : Inode) (m : MayUse want.Change areas truth tree call name handle inode) (few : areas ≤ 64) (agrees : IsTruth held truth) (stands : Stands volume areas truth tree)
          (fit : HintsFitAll areas hints truth) where
        place_of : (spare : ℕ) → new_place tree call bytes name spare ≡ after spare m.at.file
        place_of spare = by_handle spare ∙ ap (λ (o : Option File). rest spare (usable want.Change call name o)) m.at.there ∙ ap (rest spare) (uses want.Change call name m.at.file m.may)

        pub directory : IsDirectoryOf volume areas held hints truth tree handle inode
        directory = record {
          few = few;
          same = agrees;
          stands = stands;
          fit = fit;
          at = m.at;
          kind = m.at.fields.kind ∙ eqb-true m.at.file.kind 2 (is_a_directory want.Change call name m.at.file m.may);
        }

        at_same : directory.at ≡ m.at
        unfolding directory
        at_same = refl

        pub list : IsListed areas held hints truth inode m.at.file
        unfolding directory
        list = listed of.Plain volume areas held hints truth tree handle inode name (0, 0) directory

        same_names : entry_named (names_of m.at.file.body) name ≡ entry_named list.names name
        same_names = ap (λ (b : Body). entry_named (names_of b) name) list.body_is

        next_same : inode.next ≡ next_of m.at.file.body
        unfolding directory
        next_same = next_is volume areas held hints truth tree handle inode directory

        -- an entry has the name
        pub exists : (stop : Stop) → AbsentIn list.names name (Err stop) → PlaceIn volume areas held hints truth tree call bytes name (Err stop)
        exists (Status status) (code, some) =
            let there : has_entry m.at.file name ≡ true = ap (λ (o : Option Name). is_some o) same_names ∙ some in
            place_of 8 ∙ ap (λ (b : Bool). tested b (nat_le 4294967295 (next_of m.at.file.body)) (nat_lt 8 8) m.at.file) there ∙ ap Err (sym code)
        exists (Need at mode) a = tt
        exists (Inner blocks) never = never
        exists OutOfMemory a = tt

        module _ (absent : AbsentIn list.names name (Ok tt)) where
          none : has_entry m.at.file name ≡ false
          none = ap (λ (o : Option Name). is_some o) (same_names ∙ absent)

          pub no_number : inode.next ≡ 4294967295 → PlaceIn volume areas held hints truth tree call bytes name (Err (Status 69))
          no_number most =
              let full : nat_le 4294967295 (next_of m.at.file.body) ≡ true = le-leb 4294967295 (next_of m.at.file.body) (omega (arith, most, next_same)) in
              place_of 8 ∙ (λ i. tested (none i) (full i) (nat_lt 8 8) m.at.file)

          pub found : inode.next < 4294967295 → FindsPlace volume areas held hints truth tree call bytes name (record { handle = handle; inode = inode })
          unfolding directory
          found number =
              let room : nat_le 4294967295 (next_of m.at.file.body) ≡ false = more (next_of m.at.file.body) (omega (arith, number, next_same)) in
              record {
                place = record { directory = directory; absent = same_names ∙ absent; number = number };
                enough = place_of 8 ∙ (λ i. tested (none i) (room i) false m.at.file);
                full = λ spare less. place_of spare ∙ (λ i. tested (none i) (room i) (lt-ltb spare 8 less i) m.at.file);
              }
            where
              more : (n : ℕ) → n < 4294967295 → nat_le 4294967295 n ≡ false
              more n less = grind (arith, less)
