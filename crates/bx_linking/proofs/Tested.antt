-- The errors of one more name for a file, in a directory.
use Rattle.std.proofs.Common.{◌≡◌, ℕ, ◌≤◌, ◌<◌, Bool, true, false, List, [], Option, Some, None, refl, sym, ap, ◌∙◌, subst, arith, inl, inr}
use Rattle.std.specs.Prelude.{◌⊎◌, nat_le, nat_lt, is_some, Result, Ok, Err}
use Rattle.std.proofs.lemmas.Bool.{le-leb}
use Rattle.std.proofs.lemmas.Bool.Decides.{nat_tests}
use Rattle.bx_entries.specs.RoomFinding.{RoomIn}
use Rattle.bx_changes.specs.declared.error.ChangeError.{ChangeError}
use Rattle.bx_changes.specs.declared.error.ChangeError.TheVariants.{Stopped, Full}
use Rattle.bx_entries.specs.bx_dirs.specs.Entries.{HasEntries}
use Rattle.bx_entries.specs.declared.finding.Removable.TheVariants as of
use Rattle.bx_entries.specs.Finding.{IsDirectoryOf}
use Rattle.bx_entries.proofs.RemovedFrom.{IsListed, listed}
use Rattle.bx_changes.specs.bx_files.specs.Paths.{IsNeed}
use Rattle.bx_inodes.proofs.Pages.{inode_is}
use Rattle.bx_inodes.specs.declared.stop.Stop.{Stop}
use Rattle.bx_inodes.specs.declared.stop.Stop.TheVariants.{Need, Inner, Status, OutOfMemory}
use Rattle.bx_layout.specs.declared.inode.Inode.{Inode}
use Rattle.bx_model.specs.declared.tree.Tree.{Tree}
use Rattle.bx_model.specs.Steps.{refuse, ◌>>◌}
use Rattle.bx_places.specs.Places.{is_block}
use Rattle.bx_tree_files.specs.declared.file.Body.{Body}
use Rattle.bx_tree_files.specs.declared.file.Body.TheVariants.{Names}
use Rattle.bx_tree_files.specs.declared.file.File.{File}
use Rattle.bx_tree_files.specs.declared.file.Name.{Name}
use Rattle.bx_tree_files.specs.Entries.{entry_named}
use Rattle.bx_tree_files.specs.Files.{is_directory}
use Rattle.bx_tree_files.specs.Names.{names_of, next_of}
use Rattle.bx_truth.specs.Chunks.{chunks_of}
use Rattle.bx_truth.specs.Stored.{HasBody, IsDirectory}
use Rattle.bx_truth.proofs.Cases.{eq_false, eq_true}
use Rattle.bx_truth.proofs.Put.{shown}
use Rattle.bx_views.specs.Truths.{Held, Hints, Truth}
use Rattle.bx_linking.specs.Linking.{IsLinking, LinkErrorIn, MayLinkIn, TellsEntry, link_errors}

-- ---- what a search that needs a block tells

pub need_told : (names : List Name) (name : List ℕ) (areas at : ℕ) (stop : Stop) → IsNeed areas at stop → is_block areas at ≡ true → TellsEntry names name (Err stop)
need_told names name areas at stop (inl need) block = subst (λ (s : Stop). TellsEntry names name (Err s)) (sym need.1) tt
need_told names name areas at stop (inr none) block = let both : true ≡ false = sym block ∙ none.0 in absurd cc

-- ---- the tests, one after the other

abbrev chain : Bool → Bool → Bool → Bool → Bool → Result (Unit {0}) ℕ
chain d h m n f = refuse d 1 >> (refuse h 17 >> (refuse m 69 >> (refuse n 69 >> refuse f 28)))

full_after : (d h m n : Bool) → chain d h m n false ≡ Ok tt → chain d h m n true ≡ Err 28
full_after true h m n e = absurd cc
full_after false true m n e = absurd cc
full_after false false true n e = absurd cc
full_after false false false true e = absurd cc
full_after false false false false e = refl

-- what comes of tests that found nothing
pub record PassesAll (d h m n : Bool) : Type 0 where
  pub d_is : d ≡ false
  pub h_is : h ≡ false
  pub m_is : m ≡ false
  pub n_is : n ≡ false

passes_all : (d h m n : Bool) → chain d h m n false ≡ Ok tt → PassesAll d h m n
passes_all true h m n e = absurd cc
passes_all false true m n e = absurd cc
passes_all false false true n e = absurd cc
passes_all false false false true e = absurd cc
passes_all false false false false e = record { d_is = refl; h_is = refl; m_is = refl; n_is = refl }

module _ (file directory : File) (name : List ℕ) where
  abbrev named : Bool
  named = is_some (entry_named (names_of directory.body) name)

  abbrev many : Bool
  many = nat_le 32000 file.nlink

  abbrev last : Bool
  last = nat_le 4294967295 (next_of directory.body)

  errors_are : (spare : ℕ) → link_errors file directory name spare ≡ chain (is_directory file) named many last (nat_lt spare 8)
  errors_are spare = refl

  pub passes : link_errors file directory name 8 ≡ Ok tt → PassesAll (is_directory file) (is_some (entry_named (names_of directory.body) name)) (nat_le 32000 file.nlink) (nat_le 4294967295 (next_of directory.body))
  passes none = passes_all (is_directory file) named many last none

  pub is_full : (spare : ℕ) → spare < 8 → link_errors file directory name 8 ≡ Ok tt → link_errors file directory name spare ≡ Err 28
  is_full spare less none =
      let few : nat_lt spare 8 ≡ true = grind (arith, nat_tests, less) in
      ap (chain (is_directory file) named many last) few ∙ full_after (is_directory file) named many last none

-- ---- by what is found

-- what the directory's inode says
pub record IsPlaceOf (areas : ℕ) (held : Held) (hints : Hints) (truth : Truth) (inode : Inode) (file : File) : Type 0 where
  pub parent : ℕ
  pub next : ℕ
  pub names : List Name
  pub body_is : file.body ≡ Names parent next names
  pub entries : HasEntries areas held hints truth [] inode.tree names
  pub next_is : inode.next ≡ next

module _ (volume areas : ℕ) (held : Held) (hints : Hints) (truth : Truth) (tree : Tree) (handle : ℕ) (inode : Inode) (d : IsDirectoryOf volume areas held hints truth tree handle inode) where
  by_names : (l : IsListed areas held hints truth inode d.at.file) → IsPlaceOf areas held hints truth inode d.at.file
  by_names l =
      let is : IsDirectory (chunks_of areas truth) d.stands.is.owner handle (d.stands.is.stored handle) l.parent l.next l.names =
      subst (λ (b : Body). HasBody (chunks_of areas truth) d.stands.is.owner handle (d.stands.is.stored handle) b) l.body_is (shown areas truth tree handle d.at.file d.stands.is d.at.there).body in
      record {
        parent = l.parent;
        next = l.next;
        names = l.names;
        body_is = l.body_is;
        entries = l.entries;
        next_is = ap (λ (i : Inode). i.next) (sym (inode_is areas truth tree d.stands.is handle inode d.at.holds)) ∙ is.next_is;
      }

  pub place : IsPlaceOf areas held hints truth inode d.at.file
  place = by_names (listed of.Plain volume areas held hints truth tree handle inode [] (0, 0) d)

module _ (volume areas : ℕ) (held : Held) (hints : Hints) (truth : Truth) (tree : Tree) (handle : ℕ) (of_file : Inode) (directory : ℕ) (inode : Inode) (name : List ℕ)
    (is : IsLinking volume areas held hints truth tree handle of_file directory inode) where
  abbrev pub into : IsDirectoryOf volume areas held hints truth tree directory inode
  into = record { few = is.few; same = is.same; stands = is.stands; fit = is.fit; at = is.at; kind = is.kind }

  abbrev d_of : Bool
  d_of = is_directory is.file.file

  abbrev h_of : Bool
  h_of = is_some (entry_named (names_of is.at.file.body) name)

  abbrev m_of : Bool
  m_of = nat_le 32000 is.file.file.nlink

  abbrev n_of : Bool
  n_of = nat_le 4294967295 (next_of is.at.file.body)

  chains : (d h m n : Bool) → d_of ≡ d → h_of ≡ h → m_of ≡ m → n_of ≡ n → link_errors is.file.file is.at.file name 8 ≡ chain d h m n false
  chains d h m n de he me ne = λ i. chain (de i) (he i) (me i) (ne i) false

  pub is_one : of_file.kind ≡ 2 → link_errors is.file.file is.at.file name 8 ≡ Err 1
  is_one two = chains true h_of m_of n_of (eq_true is.file.file.kind 2 (sym is.file.fields.kind ∙ two)) refl refl refl

  -- what looking for the entry was told
  abbrev Told : Option (ℕ × ℕ) → Type 0
  Told found = (truth : Truth) (names : List Name) → HasEntries areas held hints truth [] inode.tree names → TellsEntry names name (Ok found)

  plain : (of_file.kind ≡ 2 → ⊥) → is_directory is.file.file ≡ false
  plain other = eq_false is.file.file.kind 2 (λ two. other (is.file.fields.kind ∙ two))

  list : IsPlaceOf areas held hints truth inode is.at.file
  list = place volume areas held hints truth tree directory inode into

  named_is : entry_named (names_of is.at.file.body) name ≡ entry_named list.names name
  named_is = ap (λ (b : Body). entry_named (names_of b) name) list.body_is

  next_is : next_of is.at.file.body ≡ inode.next
  next_is = ap next_of list.body_is ∙ sym list.next_is

  pub exists : (of_file.kind ≡ 2 → ⊥) → (found : Option (ℕ × ℕ)) (it : ℕ × ℕ) → found ≡ Some it → Told found → link_errors is.file.file is.at.file name 8 ≡ Err 17
  exists other found it some told =
      let there = subst (λ (o : Option (ℕ × ℕ)). TellsEntry list.names name (Ok o)) some (told truth list.names list.entries) in
      chains false true m_of n_of (plain other) (ap (λ (o : Option Name). is_some o) (named_is ∙ there)) refl refl

  pub absent : (found : Option (ℕ × ℕ)) → found ≡ None → Told found → entry_named (names_of is.at.file.body) name ≡ None
  absent found none told = named_is ∙ subst (λ (o : Option (ℕ × ℕ)). TellsEntry list.names name (Ok o)) none (told truth list.names list.entries)

  pub quota : (of_file.kind ≡ 2 → ⊥) → entry_named (names_of is.at.file.body) name ≡ None → (32000 ≤ of_file.nlink) ⊎ (4294967295 ≤ inode.next) → link_errors is.file.file is.at.file name 8 ≡ Err 69
  quota other gone (inl many) =
      let more : 32000 ≤ is.file.file.nlink = let same = is.file.fields.nlink in omega (arith, same, many) in
      chains false false true n_of (plain other) (ap (λ (o : Option Name). is_some o) gone) (le-leb 32000 is.file.file.nlink more) refl
  quota other gone (inr last) =
      let more : 4294967295 ≤ next_of is.at.file.body = omega (arith, next_is, last) in
      chains false false m_of true (plain other) (ap (λ (o : Option Name). is_some o) gone) refl (le-leb 4294967295 (next_of is.at.file.body) more) ∙ either m_of
    where
      either : (m : Bool) → chain false false m true false ≡ Err 69
      either true = refl
      either false = refl

  pub no_error : (of_file.kind ≡ 2 → ⊥) → entry_named (names_of is.at.file.body) name ≡ None → of_file.nlink < 32000 → inode.next < 4294967295 → link_errors is.file.file is.at.file name 8 ≡ Ok tt
  no_error other gone few left =
      let fewer : is.file.file.nlink < 32000 = let same = is.file.fields.nlink in omega (arith, same, few) in
      let lower : next_of is.at.file.body < 4294967295 = omega (arith, next_is, left) in
      chains false false false false (plain other) (ap (λ (o : Option Name). is_some o) gone) (grind (arith, nat_tests, fewer)) (grind (arith, nat_tests, lower))

  pub stopped_search : (stop : Stop) → ((truth : Truth) (names : List Name) → HasEntries areas held hints truth [] inode.tree names → TellsEntry names name (Err stop)) → LinkErrorIn is.file.file is.at.file name (Err stop)
  stopped_search stop told = by stop (told truth list.names list.entries)
    where
      by : (stop : Stop) → TellsEntry list.names name (Err stop) → LinkErrorIn is.file.file is.at.file name (Err stop)
      by (Need at mode) t = tt
      by (Inner blocks) t = t
      by (Status status) t = absurd t
      by OutOfMemory t = tt

-- ---- and room

pub stopped : (areas : ℕ) (held : Held) (truth : Truth) (file directory : File) (inode : Inode) (name : List ℕ) (stop : Stop) → LinkErrorIn file directory name (Err stop) → MayLinkIn areas held truth file directory inode name (Err (Stopped stop))
stopped areas held truth file directory inode name (Need at mode) e = tt
stopped areas held truth file directory inode name (Inner blocks) e = absurd e
stopped areas held truth file directory inode name (Status status) e = absurd e
stopped areas held truth file directory inode name OutOfMemory e = tt

pub with_room : (areas : ℕ) (held : Held) (truth : Truth) (file directory : File) (inode : Inode) (name : List ℕ) → link_errors file directory name 8 ≡ Ok tt
    → (result : Result (Unit {0}) ChangeError) → RoomIn areas held truth inode.tree name inode.next result → MayLinkIn areas held truth file directory inode name result
with_room areas held truth file directory inode name passed (Ok done) r = record { none = passed; ready = r }
with_room areas held truth file directory inode name passed (Err (Stopped (Status status))) r = absurd r
with_room areas held truth file directory inode name passed (Err (Stopped (Need at mode))) r = tt
with_room areas held truth file directory inode name passed (Err (Stopped (Inner blocks))) r = (r, passed)
with_room areas held truth file directory inode name passed (Err (Stopped OutOfMemory)) r = tt
with_room areas held truth file directory inode name passed (Err (Full spare)) r = (r.0, is_full file directory name spare r.0.few passed, r.1)
