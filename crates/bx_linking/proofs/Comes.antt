-- What LINK comes to by what it finds.
use Rattle.std.proofs.Common.{◌≡◌, ℕ, ◌≤◌, Bool, true, false, List, Option, Some, None, refl, sym, ap, ◌∙◌, eqb-true}
use Rattle.std.specs.Prelude.{nat_le, nat_lt, IfErr, Result, Ok, Err}
use Rattle.bx_base.specs.declared.names.Mode.{Mode}
use Rattle.bx_blink.specs.Walks.{Reads}
use Rattle.bx_entries.specs.Lacking.{FindsBoth, IfFirst}
use Rattle.bx_changes.specs.Stopping.{NeverFirst}
use Rattle.bx_entries.proofs.Lacks.{never_first}
use Rattle.bx_changes.specs.Changes.{Changes}
use Rattle.bx_changes.specs.First.{ComesFirst}
use Rattle.bx_changes.specs.Growing.{IfFull, IsChangeBy, NeedsBy}
use Rattle.bx_changes.specs.declared.error.ChangeError.{ChangeError}
use Rattle.bx_changes.specs.declared.error.ChangeError.TheVariants.{Stopped, Full}
use Rattle.bx_entries.specs.Finding.{DirectoryFor, MayUse, usable}
use Rattle.bx_entries.proofs.Found.{is_a_directory, uses}
use Rattle.bx_places.specs.Handles.{named}
use Rattle.bx_inodes.specs.Fitting.{HintsFitAll}
use Rattle.bx_inodes.specs.Inodes.{FileAt, InodeAt, IsInodeOf}
use Rattle.bx_inodes.specs.Stands.{Stands}
use Rattle.bx_inodes.specs.Stops.{NeverInner}
use Rattle.bx_inodes.specs.declared.stop.Stop.{Stop}
use Rattle.bx_inodes.specs.declared.stop.Stop.TheVariants.{Need, Inner, Status, OutOfMemory}
use Rattle.bx_layout.specs.declared.inode.Inode.{Inode}
use Rattle.bx_model.specs.declared.call.Call.{Call}
use Rattle.bx_model.specs.declared.permissions.Want.TheVariants as want
use Rattle.bx_model.specs.declared.reply.Reply.TheVariants as reply
use Rattle.bx_model.specs.declared.tree.Tree.{Tree}
use Rattle.bx_model.specs.Making.{has_entry, link}
use Rattle.bx_model.specs.Reading.{named_file}
use Rattle.bx_model.specs.Steps.{Outcome, must, refuse, ◌>>=◌, ◌>>◌}
use Rattle.bx_changes.specs.bx_reads.proofs.Told.{named_as}
use Rattle.bx_records.specs.Drafts.{Changed}
use Rattle.bx_tree_files.specs.declared.file.File.{File}
use Rattle.bx_tree_files.specs.Files.{file_at, is_directory}
use Rattle.bx_tree_files.specs.Names.{next_of}
use Rattle.bx_tree_files.specs.Times.{Time}
use Rattle.bx_tree_laws.proofs.Makings.{link_keeps}
use Rattle.bx_views.specs.Truths.{Held, Hints, IsTruth, Truth}
use Rattle.bx_linking.specs.Drafting.{ComesBy, ComesSo}
use Rattle.bx_linking.specs.Linking.{IsLinking, LinksIn, MayLinkIn, link_errors, linking, linking_in, with_link}

-- ---- from a directory on

module _ (tree : Tree) (file directory : File) (name : List ℕ) (now : Time) where
  abbrev then : Result (Unit {0}) ℕ → Outcome
  then errors = errors >> Ok (reply.Status 0, with_link tree file directory name now)

  comes_in : (spare : ℕ) → linking_in tree file name now spare directory ≡ then (link_errors file directory name spare)
  comes_in spare = refl

-- what LINK comes to in a directory is what it comes to
module _ (areas : ℕ) (truth : Truth) (outcome : ℕ → Outcome) (tree : Tree) (file directory : File) (name : List ℕ) (now : Time)
    (same : (spare : ℕ) → outcome spare ≡ linking_in tree file name now spare directory) where
  pub not_linked : (held : Held) (inode : Inode) (error : ChangeError) → MayLinkIn areas held truth file directory inode name (Err error) → ComesBy areas truth outcome (Err error)
  not_linked held inode (Stopped (Status status)) e = same 8 ∙ ap (then tree file directory name now) e
  not_linked held inode (Stopped (Need at mode)) e = tt
  not_linked held inode (Stopped (Inner blocks)) e = (e.0, λ status is. no_error status (sym (same 8 ∙ ap (then tree file directory name now) e.1) ∙ is))
    where
      no_error : (status : ℕ) → ◌≡◌ {A = Outcome} (Ok (reply.Status 0, with_link tree file directory name now)) (Err status) → ⊥
      no_error status is = absurd cc
  not_linked held inode (Stopped OutOfMemory) e = tt
  not_linked held inode (Full spare) e = (e.0, same spare ∙ ap (then tree file directory name now) e.1)

  pub is_linked : link_errors file directory name 8 ≡ Ok tt → (result : Result (List Changed) ChangeError) → LinksIn areas truth (with_link tree file directory name now) result → ComesBy areas truth outcome result
  is_linked none (Ok new) l = record { next = with_link tree file directory name now; comes_to = same 8 ∙ ap (then tree file directory name now) none; leaves = l }
  is_linked none (Err (Stopped (Need at mode))) l = tt
  is_linked none (Err (Stopped OutOfMemory)) l = tt
  is_linked none (Err (Stopped (Status status))) l = absurd l
  is_linked none (Err (Stopped (Inner blocks))) l = absurd l
  is_linked none (Err (Full spare)) l = absurd l

-- ---- from the file on

module _ (tree : Tree) (call : Call) (file : File) (name : List ℕ) (now : Time) (volume : ℕ) (bytes : List ℕ) (same : tree.volume ≡ volume) where
  pub no_name : None ≡ named volume bytes → linking tree call file name now 8 (named_file tree bytes) ≡ Err 70
  no_name is = ap (linking tree call file name now 8) (named_as tree volume bytes None same is)

  module _ (handle : ℕ) (is : Some handle ≡ named volume bytes) (areas : ℕ) (truth : Truth) where
    by_handle : (spare : ℕ) → linking tree call file name now spare (named_file tree bytes) ≡ linking tree call file name now spare (file_at tree.files handle)
    by_handle spare = ap (linking tree call file name now spare) (named_as tree volume bytes (Some handle) same is)

    pub no_directory : (stop : Stop) → DirectoryFor want.Change areas truth tree call name handle (Err stop) → ComesBy areas truth (λ spare. linking tree call file name now spare (named_file tree bytes)) (Err (Stopped stop))
    no_directory (Status status) e = by_handle 8 ∙ ap (λ (r : Result File ℕ). r >>= linking_in tree file name now 8) e
    no_directory (Need at mode) e = tt
    no_directory (Inner blocks) e = absurd e
    no_directory OutOfMemory e = tt

    module _ (inode : Inode) (m : MayUse want.Change areas truth tree call name handle inode) where
      pub into : (spare : ℕ) → linking tree call file name now spare (named_file tree bytes) ≡ linking_in tree file name now spare m.at.file
      into spare = by_handle spare ∙ ap (linking tree call file name now spare) m.at.there ∙ ap (λ (r : Result File ℕ). r >>= linking_in tree file name now spare) (uses want.Change call name m.at.file m.may)

      abbrev pub both : (held : Held) (hints : Hints) (of_file : Inode) (from : ℕ) → areas ≤ 64 → IsTruth held truth → Stands volume areas truth tree → HintsFitAll areas hints truth
          → IsInodeOf areas truth tree from of_file → IsLinking volume areas held hints truth tree from of_file handle inode
      both held hints of_file from few agrees stands fit f = record {
        few = few;
        same = agrees;
        stands = stands;
        fit = fit;
        file = f;
        at = m.at;
        kind = m.at.fields.kind ∙ eqb-true m.at.file.kind 2 (is_a_directory want.Change call name m.at.file m.may);
      }

-- ---- LINK

next_same : {A B : Type 0} (f g : A → Result B ℕ) → ((a : A) → f a ≡ g a) → (r : Result A ℕ) → r >>= f ≡ r >>= g
next_same f g same (Ok a) = same a
next_same f g same (Err status) = refl

-- the tests of the model, one behind the other, are those of both files and then what comes
in_one : (d h m n f : Bool) (rest : Outcome) → refuse d 1 >> (refuse h 17 >> (refuse m 69 >> ((refuse n 69 >> refuse f 28) >> rest))) ≡ (refuse d 1 >> (refuse h 17 >> (refuse m 69 >> (refuse n 69 >> refuse f 28)))) >> rest
in_one true h m n f rest = refl
in_one false true m n f rest = refl
in_one false false true n f rest = refl
in_one false false false n f rest = refl

module _ (tree : Tree) (call : Call) (at name : List ℕ) (now : Time) (volume : ℕ) (bytes : List ℕ) (same : tree.volume ≡ volume) where
  abbrev from_file : ℕ → Option File → Outcome
  from_file spare found = must found 70 >>= (λ file. linking tree call file name now spare (named_file tree at))

  link_is : (spare : ℕ) → link tree call bytes at name now spare ≡ from_file spare (named_file tree bytes)
  link_is spare = next_same _ _ (λ file. next_same _ _ (λ directory.
      in_one (is_directory file) (has_entry directory name) (nat_le 32000 file.nlink) (nat_le 4294967295 (next_of directory.body)) (nat_lt spare 8) (Ok (reply.Status 0, with_link tree file directory name now)))
      (usable want.Change call name (named_file tree at))) (must (named_file tree bytes) 70)

  pub no_file_named : None ≡ named volume bytes → link tree call bytes at name now 8 ≡ Err 70
  no_file_named is = link_is 8 ∙ ap (from_file 8) (named_as tree volume bytes None same is)

  module _ (handle : ℕ) (is : Some handle ≡ named volume bytes) (areas : ℕ) (truth : Truth) where
    pub no_file : (stop : Stop) → FileAt areas truth tree handle (Err stop) → IsChangeBy volume areas truth (λ spare. link tree call bytes at name now spare) (Err (Stopped stop))
    no_file (Status status) (code, none) = link_is 8 ∙ ap (from_file 8) (named_as tree volume bytes (Some handle) same is ∙ none) ∙ ap Err (sym code)
    no_file (Need at mode) f = tt
    no_file (Inner blocks) f = absurd f
    no_file OutOfMemory f = tt

    module _ (inode : Inode) (f : IsInodeOf areas truth tree handle inode) where
      comes : (spare : ℕ) → link tree call bytes at name now spare ≡ linking tree call f.file name now spare (named_file tree at)
      comes spare = link_is spare ∙ ap (from_file spare) (named_as tree volume bytes (Some handle) same is ∙ f.there)

      pub is_stopped : (error : ChangeError) → ComesBy areas truth (λ spare. linking tree call f.file name now spare (named_file tree at)) (Err error) → IsChangeBy volume areas truth (λ spare. link tree call bytes at name now spare) (Err error)
      is_stopped (Stopped (Status status)) e = comes 8 ∙ e
      is_stopped (Stopped (Need at mode)) e = tt
      is_stopped (Stopped (Inner blocks)) e = e.0
      is_stopped (Stopped OutOfMemory) e = tt
      is_stopped (Full spare) e = (e.0, comes spare ∙ e.1)

      -- blocks are to be written first where there is no error
      pub is_first : (Prepares : List Changed → Type 0) (error : ChangeError) → ComesBy areas truth (λ spare. linking tree call f.file name now spare (named_file tree at)) (Err error) → IfFirst Prepares error
          → ComesFirst (λ status. link tree call bytes at name now 8 ≡ Err status) Prepares error
      is_first Prepares (Stopped (Inner blocks)) e prepares = ((λ status is. e.1 status (sym (comes 8) ∙ is)), prepares)
      is_first Prepares (Stopped (Status status)) e prepares = tt
      is_first Prepares (Stopped (Need at mode)) e prepares = tt
      is_first Prepares (Stopped OutOfMemory) e prepares = tt
      is_first Prepares (Full spare) e prepares = tt

      pub is_changed : (stands : Stands volume areas truth tree) (new : List Changed) → ComesSo areas truth (linking tree call f.file name now 8 (named_file tree at)) new
          → Changes volume areas truth (link tree call bytes at name now 8) new (reply.Status 0)
      is_changed stands new c =
          let to = comes 8 ∙ c.comes_to in
          let keeps = link_keeps tree call bytes at name now 8 (reply.Status 0) c.next stands.file_tree to in
          record { next = c.next; comes_to = to; stands = record { is = c.leaves.stands; volume_is = keeps.grows.volume ∙ stands.volume_is; file_tree = keeps.is } }

-- ---- what is needed on one path is needed on a wider one

pub needs_by : (areas : ℕ) (held : Held) (P Q : ℕ → Mode → Type 0) → ((at : ℕ) (mode : Mode) → P at mode → Q at mode) → (error : ChangeError) → NeedsBy areas held P error → NeedsBy areas held Q error
needs_by areas held P Q wider (Stopped (Need at mode)) n = (n.0, n.1, wider at mode n.2)
needs_by areas held P Q wider (Stopped (Inner blocks)) n = tt
needs_by areas held P Q wider (Stopped (Status status)) n = tt
needs_by areas held P Q wider (Stopped OutOfMemory) n = tt
needs_by areas held P Q wider (Full spare) n = tt

pub needs_if : {T : Type 0} (areas : ℕ) (held : Held) (P Q : ℕ → Mode → Type 0) → ((at : ℕ) (mode : Mode) → P at mode → Q at mode) → (result : Result T ChangeError) → IfErr result (NeedsBy areas held P) → IfErr result (NeedsBy areas held Q)
needs_if areas held P Q wider (Ok done) n = tt
needs_if areas held P Q wider (Err error) n = needs_by areas held P Q wider error n

-- ---- nothing is written first where nothing ever is
pub stop_comes : (T : Type 0) (Fails : ℕ → Type 0) (Prepares : List Changed → Type 0) (stop : Stop) → NeverInner {T = T} (Err stop) → ComesFirst Fails Prepares (Stopped stop)
stop_comes T Fails Prepares (Need at mode) never = tt
stop_comes T Fails Prepares (Inner blocks) never = absurd never
stop_comes T Fails Prepares (Status status) never = tt
stop_comes T Fails Prepares OutOfMemory never = tt

pub stop_first : (T : Type 0) (Holds : List Changed → Type 0) (stop : Stop) → NeverInner {T = T} (Err stop) → IfFirst Holds (Stopped stop)
stop_first T Holds (Need at mode) never = tt
stop_first T Holds (Inner blocks) never = absurd never
stop_first T Holds (Status status) never = tt
stop_first T Holds OutOfMemory never = tt

pub never_if : {X : Type 0} (Holds : List Changed → Type 0) (result : Result X ChangeError) → IfErr result NeverFirst → IfErr result (IfFirst Holds)
never_if Holds (Ok value) never = tt
never_if Holds (Err error) never = never_first Holds error never

pub inode_never : (reads : Reads) (areas handle : ℕ) (mode : Mode) (stop : Stop) → InodeAt reads areas handle mode (Err stop) → NeverInner {T = Inode} (Err stop)
inode_never reads areas handle mode (Need at asked) is = tt
inode_never reads areas handle mode (Inner blocks) is = absurd is
inode_never reads areas handle mode (Status status) is = tt
inode_never reads areas handle mode OutOfMemory is = tt

-- ---- where it is full room is lacking

pub lacks_room : (areas : ℕ) (held : Held) (truth : Truth) (file directory : File) (inode : Inode) (name : List ℕ) (error : ChangeError) → MayLinkIn areas held truth file directory inode name (Err error)
    → IfFull (λ spare. FindsBoth areas truth inode.tree name inode.next → ⊥) error
lacks_room areas held truth file directory inode name (Stopped stop) e = tt
lacks_room areas held truth file directory inode name (Full spare) e = e.2
