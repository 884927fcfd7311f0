-- The tree after a move, in the order of its steps, is the one that RENAME comes to.
use Rattle.std.proofs.Common.{◌≡◌, ℕ, ◌+◌, Bool, true, false, cond, eqb, not, ◌&&◌, List, [], ◌∷◌, ◌++◌, Option, Some, None, refl, sym, ap, ◌∙◌, subst}
use Rattle.std.specs.Prelude.{◌≢◌, bytes_eq, nat_le}
use Rattle.std.proofs.lemmas.Bool.{eqb-true}
use Rattle.std.proofs.lemmas.Slice.Eq.{bytes_eq-Decides}
use Rattle.bx_entries.specs.Unlinking.{without_name_of}
use Rattle.bx_model.specs.declared.tree.Tree.{Tree}
use Rattle.bx_model.specs.Edits.{changed, without}
use Rattle.bx_model.specs.Renaming.{changes_parent, renamed}
use Rattle.bx_model.proofs.Swapped.{swapped_apart, swapped_gone, swapped_here}
use Rattle.bx_moving.specs.declared.moves.Moving.{Moving}
use Rattle.bx_moving.specs.declared.moves.Replaced.{Replaced}
use Rattle.bx_tree_files.specs.declared.file.Body.{Body}
use Rattle.bx_tree_files.specs.declared.file.Body.TheVariants.{Bytes, Path, Names}
use Rattle.bx_tree_files.specs.declared.file.File.{File}
use Rattle.bx_tree_files.specs.declared.file.Name.{Name}
use Rattle.bx_tree_files.specs.Changes.{entered, moved_to, taken_out, unlinked}
use Rattle.bx_tree_files.specs.Entries.{without_name}
use Rattle.bx_tree_files.specs.Files.{file_at, is_directory}
use Rattle.bx_tree_files.specs.Names.{with_entry, without_entry}
use Rattle.bx_tree_files.specs.Times.{Time}
use Rattle.bx_truth.proofs.Cases.{eq_false, eq_true}
use Rattle.bx_views.specs.Truths.{Held, Hints, Truth}
use Rattle.bx_moving.specs.Moves.{IsMoving, IsOther, IsReplaced, ended, other_of, sent}
use Rattle.bx_moving.proofs.Brought.{dying_in, elsewhere_sent}

abbrev with_files : Tree → List File → Tree
with_files tree files = record tree { files = files }

-- ---- an entry goes and another one comes, in either order

last_by : (b : Bool) (f e : Name) (left : List Name) → cond b (f ∷ (left ++ e ∷ [])) (left ++ e ∷ []) ≡ cond b (f ∷ left) left ++ e ∷ []
last_by true f e left = refl
last_by false f e left = refl

names_swapped : (names : List Name) (e : Name) (name : List ℕ) → bytes_eq e.name name ≡ false → without_name (names ++ e ∷ []) name ≡ without_name names name ++ e ∷ []
names_swapped [] e name apart = rw apart refl
names_swapped (f ∷ names) e name apart =
    ap (λ (left : List Name). cond (not (bytes_eq f.name name)) (f ∷ left) left) (names_swapped names e name apart) ∙ last_by (not (bytes_eq f.name name)) f e (without_name names name)

body_swapped : (name new_name : List ℕ) (handle : ℕ) (body : Body) → bytes_eq new_name name ≡ false → with_entry new_name handle (without_entry name body) ≡ without_entry name (with_entry new_name handle body)
body_swapped name new_name handle (Bytes bytes) apart = refl
body_swapped name new_name handle (Path path) apart = refl
body_swapped name new_name handle (Names parent next names) apart =
    ap (λ (left : List Name). Names parent (next + 1) left) (sym (names_swapped names (record { number = next; name = new_name; handle = handle }) name apart))

entry_swapped : (now : Time) (name new_name : List ℕ) (handle : ℕ) (counts : Bool) → counts ≡ false → bytes_eq new_name name ≡ false → (file : File)
    → entered now new_name handle counts (taken_out now name counts file) ≡ taken_out now name counts (entered now new_name handle counts file)
entry_swapped now name new_name handle true none apart file = absurd cc
entry_swapped now name new_name handle false none apart file = ap (λ (body : Body). record file { mtime = now; ctime = now; body = body }) (body_swapped name new_name handle file.body apart)

counts_not : (b directory : Bool) → b ≡ true → (directory && not b) ≡ false
counts_not true true is = refl
counts_not true false is = refl
counts_not false directory is = absurd cc

entries_swapped : (b : Bool) (tree : Tree) (source target : ℕ) (now : Time) (name new_name : List ℕ) (handle : ℕ) (counts : Bool) → eqb source target ≡ b
    → (b ≡ true → counts ≡ false) → (b ≡ true → bytes_eq new_name name ≡ false)
    → changed (changed tree source (taken_out now name counts)) target (entered now new_name handle counts)
    ≡ changed (changed tree target (entered now new_name handle counts)) source (taken_out now name counts)
entries_swapped false tree source target now name new_name handle counts is none apart =
    ap (with_files tree) (swapped_apart tree.files source target (taken_out now name counts) (entered now new_name handle counts) (λ file. refl) (λ file. refl) is)
entries_swapped true tree source target now name new_name handle counts is none apart =
    let same : source ≡ target = eqb-true source target is in
    let e : File → File = entered now new_name handle counts in
    let t : File → File = taken_out now name counts in
    subst (λ (at : ℕ). changed (changed tree source t) at e ≡ changed (changed tree at e) source t) same
    (ap (with_files tree) (swapped_here tree.files source t e (λ file. refl) (λ file. refl) (entry_swapped now name new_name handle counts (none refl) (apart refl))))

-- ---- a file changes, and another one loses its name

gone_swapped : (now : Time) (tree : Tree) (at : ℕ) (change : File → File) (file : File) → ((file : File) → (change file).handle ≡ file.handle) → eqb file.handle at ≡ false
    → changed (without_name_of now tree file.handle file) at change ≡ without_name_of now (changed tree at change) file.handle file
gone_swapped now tree at change file keeps apart = by (is_directory file) (nat_le file.nlink 1)
  where
    by : (b few : Bool) → changed (cond b (without tree file.handle) (cond few (without tree file.handle) (changed tree file.handle (unlinked now)))) at change
        ≡ cond b (without (changed tree at change) file.handle) (cond few (without (changed tree at change) file.handle) (changed (changed tree at change) file.handle (unlinked now)))
    by true few = ap (with_files tree) (swapped_gone tree.files file.handle at change keeps)
    by false true = ap (with_files tree) (swapped_gone tree.files file.handle at change keeps)
    by false false = ap (with_files tree) (swapped_apart tree.files file.handle at (unlinked now) change (λ file. refl) keeps apart)

not_same : (a b : List ℕ) → a ≢ b → bytes_eq a b ≡ false
not_same a b apart = by (bytes_eq a b) refl
  where
    by : (t : Bool) → bytes_eq a b ≡ t → bytes_eq a b ≡ false
    by true is = absurd (apart ((bytes_eq-Decides a b).0 is))
    by false is = is

module _ (areas : ℕ) (held : Held) (hints : Hints) (truth : Truth) (tree : Tree) (moving : Moving) (name new_name : List ℕ) (replaced : Option Replaced) (now : Time)
    (m : IsMoving areas held hints truth tree moving name new_name replaced) (counts : moving.counts ≡ changes_parent m.source.file m.target.file m.moved) where
  abbrev entry : File → File
  entry = entered now new_name moving.handle moving.counts

  abbrev go : File → File
  go = taken_out now name moving.counts

  abbrev steps : Tree → Tree
  steps t = changed (changed (changed t moving.target entry) moving.source go) moving.handle (moved_to now moving.target)

  not_counted : eqb moving.source moving.target ≡ true → moving.counts ≡ false
  not_counted same = counts ∙ counts_not (eqb m.source.file.handle m.target.file.handle) (is_directory m.moved) (eq_true m.source.file.handle m.target.file.handle
      (m.source.handle_is ∙ eqb-true moving.source moving.target same ∙ sym m.target.handle_is))

  swap : (t : Tree) → changed (changed t moving.source go) moving.target entry ≡ changed (changed t moving.target entry) moving.source go
  swap t = entries_swapped (eqb moving.source moving.target) t moving.source moving.target now name new_name moving.handle moving.counts refl not_counted
      (λ same. not_same new_name name (m.names (eqb-true moving.source moving.target same)))

  -- what RENAME does once the name is nobody's
  moves_after : (left : Tree) → changed (changed (changed left m.source.file.handle (taken_out now name (changes_parent m.source.file m.target.file m.moved))) m.target.file.handle (entered now new_name m.moved.handle (changes_parent m.source.file m.target.file m.moved))) m.moved.handle (moved_to now m.target.file.handle)
      ≡ steps left
  moves_after left =
      (λ i. changed (changed (changed left (m.source.handle_is i) (taken_out now name (sym counts i))) (m.target.handle_is i) (entered now new_name (m.moved_is i) (sym counts i))) (m.moved_is i) (moved_to now (m.target.handle_is i)))
      ∙ ap (λ (t : Tree). changed t moving.handle (moved_to now moving.target)) (swap left)

  -- what the last step leaves
  abbrev end_of : (o : Option Replaced) → IsOther tree moving m.target.names new_name o → Tree → Tree
  end_of None is t = t
  end_of (Some r) is t = without_name_of now t r.handle is.file

  module _ (r : Replaced) (is : IsReplaced tree moving m.target.names new_name r) where
    apart_from : (h : ℕ) → r.handle ≢ h → eqb is.file.handle h ≡ false
    apart_from h other = eq_false is.file.handle h (λ e. other (sym is.handle_is ∙ e))

    abbrev first : Tree
    first = changed tree moving.target (taken_out now new_name (is_directory is.file))

    over : steps (without_name_of now first is.file.handle is.file) ≡ without_name_of now (steps first) is.file.handle is.file
    over =
        ap (λ (t : Tree). changed (changed t moving.source go) moving.handle (moved_to now moving.target)) (gone_swapped now first moving.target entry is.file (λ f. refl) (apart_from moving.target is.not_target))
        ∙ ap (λ (t : Tree). changed t moving.handle (moved_to now moving.target)) (gone_swapped now (changed first moving.target entry) moving.source go is.file (λ f. refl) (apart_from moving.source is.not_source))
        ∙ gone_swapped now (changed (changed first moving.target entry) moving.source go) moving.handle (moved_to now moving.target) is.file (λ f. refl) (apart_from moving.handle is.not_moved)

    target_is : without_name_of now (changed tree m.target.file.handle (taken_out now new_name (is_directory is.file))) is.file.handle is.file ≡ without_name_of now first is.file.handle is.file
    target_is = ap (λ (h : ℕ). without_name_of now (changed tree h (taken_out now new_name (is_directory is.file))) is.file.handle is.file) m.target.handle_is

    some_is : renamed now tree m.source.file name m.target.file new_name m.moved (Some is.file) ≡ without_name_of now (steps (changed tree moving.target (taken_out now new_name r.is_directory))) r.handle is.file
    some_is =
        moves_after (without_name_of now (changed tree m.target.file.handle (taken_out now new_name (is_directory is.file))) is.file.handle is.file)
        ∙ ap steps target_is
        ∙ over
        ∙ ap (λ (b : Bool). without_name_of now (steps (changed tree moving.target (taken_out now new_name b))) is.file.handle is.file) (sym is.sort)
        ∙ ap (λ (h : ℕ). without_name_of now (steps (changed tree moving.target (taken_out now new_name r.is_directory))) h is.file) is.handle_is

  by_other : (o : Option Replaced) (is : IsOther tree moving m.target.names new_name o)
      → renamed now tree m.source.file name m.target.file new_name m.moved (other_of tree moving m.target.names new_name o is) ≡ end_of o is (sent now tree moving name new_name o)
  by_other None is = moves_after tree
  by_other (Some r) is = some_is r is

  end_is : (last : Tree) (stays : (h : ℕ) → moving.target ≢ h → moving.source ≢ h → moving.handle ≢ h → file_at last.files h ≡ file_at tree.files h)
      (o : Option Replaced) (is : IsOther tree moving m.target.names new_name o) → end_of o is last ≡ ended now last o (dying_in areas held hints truth tree moving name new_name replaced now m last stays o is)
  end_is last stays None is = refl
  end_is last stays (Some r) is = refl

  -- the last tree is RENAME's
  pub comes_to : ended now (sent now tree moving name new_name replaced) replaced
      (dying_in areas held hints truth tree moving name new_name replaced now m (sent now tree moving name new_name replaced) (elsewhere_sent areas held hints truth tree moving name new_name replaced now m) replaced m.other)
      ≡ renamed now tree m.source.file name m.target.file new_name m.moved (other_of tree moving m.target.names new_name replaced m.other)
  comes_to =
      sym (by_other replaced m.other
      ∙ end_is (sent now tree moving name new_name replaced) (elsewhere_sent areas held hints truth tree moving name new_name replaced now m) replaced m.other)
