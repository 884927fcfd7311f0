-- A move in the order of its steps is RENAME's.
use Rattle.std.proofs.Common.{◌≡◌, ℕ, ◌+◌, Bool, true, false, cond, eqb, not, ◌&&◌, List, [], ◌∷◌, ◌++◌, Option, Some, None, Bor, refl, sym, ap, subst, ◌∙◌}
use Rattle.std.specs.Prelude.{bytes_eq, nat_le}
use Rattle.std.proofs.lemmas.Bool.{eqb-true}
use Rattle.bx_tree_files.specs.declared.file.Body.{Body}
use Rattle.bx_tree_files.specs.declared.file.Body.TheVariants.{Bytes, Path, Names}
use Rattle.bx_tree_files.specs.declared.file.File.{File}
use Rattle.bx_tree_files.specs.declared.file.Name.{Name}
use Rattle.bx_tree_moves.specs.declared.renaming.Displaced.{Displaced}
use Rattle.bx_tree_moves.specs.declared.renaming.Move.{Move}
use Rattle.bx_model.specs.declared.tree.Tree.{Tree}
use Rattle.bx_model.specs.Edits.{changed, without}
use Rattle.bx_tree_files.specs.Entries.{without_name}
use Rattle.bx_tree_files.specs.Files.{is_directory}
use Rattle.bx_tree_files.specs.Changes.{entered, taken_out, unlinked, moved_to}
use Rattle.bx_tree_moves.specs.Moving.{after_move, displaced_of, without_displaced}
use Rattle.bx_tree_files.specs.Names.{with_entry, without_entry}
use Rattle.bx_model.specs.Renaming.{changes_parent, renamed}
use Rattle.bx_tree_files.specs.Times.{Time}
use Rattle.bx_model.proofs.Swapped.{changed_twice, swapped_apart, swapped_gone, swapped_here}

abbrev with_files : Tree → List File → Tree
with_files tree files = record tree { files = files }

last_by : (b : Bool) (f e : Name) (left : List Name) → cond b (f ∷ (left ++ e ∷ [])) (left ++ e ∷ []) ≡ cond b (f ∷ left) left ++ e ∷ []
last_by true f e left = refl
last_by false f e left = refl

-- an entry of another name stays the last
names_swapped : (names : List Name) (e : Name) (name : List ℕ) → bytes_eq e.name name ≡ false → without_name (names ++ e ∷ []) name ≡ without_name names name ++ e ∷ []
names_swapped [] e name apart = rw apart refl
names_swapped (f ∷ names) e name apart =
    ap (λ (left : List Name). cond (not (bytes_eq f.name name)) (f ∷ left) left) (names_swapped names e name apart) ∙ last_by (not (bytes_eq f.name name)) f e (without_name names name)

body_swapped : (name new_name : List ℕ) (handle : ℕ) (body : Body) → bytes_eq new_name name ≡ false
    → with_entry new_name handle (without_entry name body) ≡ without_entry name (with_entry new_name handle body)
body_swapped name new_name handle (Bytes bytes) apart = refl
body_swapped name new_name handle (Path path) apart = refl
body_swapped name new_name handle (Names parent next names) apart =
    ap (λ (left : List Name). Names parent (next + 1) left) (sym (names_swapped names (record { number = next; name = new_name; handle = handle }) name apart))

-- one entry goes and another one comes, in one directory
entry_swapped : (now : Time) (name new_name : List ℕ) (handle : ℕ) (counts : Bool) → counts ≡ false → bytes_eq new_name name ≡ false → (file : File)
    → entered now new_name handle counts (taken_out now name counts file) ≡ taken_out now name counts (entered now new_name handle counts file)
entry_swapped now name new_name handle true none apart file = absurd cc
entry_swapped now name new_name handle false none apart file =
    ap (λ (body : Body). record file { mtime = now; ctime = now; body = body }) (body_swapped name new_name handle file.body apart)

counts_not : (b directory : Bool) → b ≡ true → (directory && not b) ≡ false
counts_not true true is = refl
counts_not true false is = refl
counts_not false directory is = absurd cc

-- or in two directories
entries_swapped : (b : Bool) (tree : Tree) (source target : ℕ) (now : Time) (name new_name : List ℕ) (handle : ℕ) (counts : Bool) → eqb source target ≡ b
    → (b ≡ true → counts ≡ false) → (b ≡ true → bytes_eq new_name name ≡ false)
    → changed (changed tree source (taken_out now name counts)) target (entered now new_name handle counts)
    ≡ changed (changed tree target (entered now new_name handle counts)) source (taken_out now name counts)
entries_swapped false tree source target now name new_name handle counts is none apart =
    ap (with_files tree) (swapped_apart tree.files source target (taken_out now name counts) (entered now new_name handle counts) (λ file. refl) (λ file. refl) is)
entries_swapped true tree source target now name new_name handle counts is none apart =
    let same : source ≡ target = eqb-true source target is in
    let e : File → File = entered now new_name handle counts in
    let t : File → File = taken_out now name counts in
    subst (λ (at : ℕ). changed (changed tree source t) at e ≡ changed (changed tree at e) source t) same
    (ap (with_files tree) (swapped_here tree.files source t e (λ file. refl) (λ file. refl) (entry_swapped now name new_name handle counts (none refl) (apart refl))))

-- a file that lost its name, and an entry that comes into another one
gone_swapped : (now : Time) (tree : Tree) (target : ℕ) (change : File → File) (d : Displaced) → ((file : File) → (change file).handle ≡ file.handle)
    → (d.is_directory ≡ false → eqb d.handle target ≡ false)
    → changed (without_displaced now tree (Some d)) target change ≡ without_displaced now (changed tree target change) (Some d)
gone_swapped now tree target change d keeps apart = by d.is_directory (nat_le d.nlink 1) apart
  where
    by : (b few : Bool) → (b ≡ false → eqb d.handle target ≡ false)
        → changed (cond b (without tree d.handle) (cond few (without tree d.handle) (changed tree d.handle (unlinked now)))) target change
        ≡ cond b (without (changed tree target change) d.handle) (cond few (without (changed tree target change) d.handle) (changed (changed tree target change) d.handle (unlinked now)))
    by true few apart = ap (with_files tree) (swapped_gone tree.files d.handle target change keeps)
    by false true apart = ap (with_files tree) (swapped_gone tree.files d.handle target change keeps)
    by false false apart = ap (with_files tree) (swapped_apart tree.files d.handle target (unlinked now) change (λ file. refl) keeps (apart refl))

-- What is known of a move: the names differ in one directory, and a file that loses its name is no directory that one
-- comes into.
pub record IsMove (source target moved : File) (name new_name : List ℕ) (other : Option File) : Type 0 where
  pub names : eqb source.handle target.handle ≡ true → bytes_eq new_name name ≡ false
  pub apart : (file : File) → other ≡ Some file → is_directory file ≡ false → eqb file.handle target.handle ≡ false

module _ (tree : Tree) (source target moved : File) (name new_name : List ℕ) (now : Time) where
  abbrev counts : Bool
  counts = changes_parent source target moved

  abbrev come : File → File
  come = entered now new_name moved.handle counts

  abbrev go : File → File
  go = taken_out now name counts

  -- the old entry goes and the new one comes, in either order
  entry_moves : (now_tree : Tree) (other : Option File) → IsMove source target moved name new_name other
      → changed (changed now_tree source.handle go) target.handle come ≡ changed (changed now_tree target.handle come) source.handle go
  entry_moves now_tree other is =
      entries_swapped (eqb source.handle target.handle) now_tree source.handle target.handle now name new_name moved.handle counts refl
      (λ same. counts_not (eqb source.handle target.handle) (is_directory moved) same) is.names

-- the move as the code has it
abbrev move_as : File → File → File → Bor (List ℕ) → Bor (List ℕ) → Time → Bool → Option Displaced → Move
move_as source target moved name new_name now counts displaced = record {
  source = source.handle;
  name = name;
  target = target.handle;
  new_name = new_name;
  handle = moved.handle;
  counts = counts;
  displaced = displaced;
  time = now;
}

after_is_renamed : (tree : Tree) (source target moved : File) (name new_name : Bor (List ℕ)) (now : Time) (other : Option File) → IsMove source target moved name.now new_name.now other
    → after_move tree (move_as source target moved name new_name now (changes_parent source target moved) (displaced_of other)) ≡ renamed now tree source name.now target new_name.now moved other
after_is_renamed tree source target moved name new_name now None is =
    ap (λ (left : Tree). changed left moved.handle (moved_to now target.handle)) (sym (entry_moves tree source target moved name.now new_name.now now tree None is))
after_is_renamed tree source target moved name new_name now (Some file) is =
    let d : Displaced = record { handle = file.handle; nlink = file.nlink; is_directory = is_directory file } in
    let first : File → File = taken_out now new_name.now (is_directory file) in
    let entry : File → File = entered now new_name.now moved.handle (changes_parent source target moved) in
    let left : Tree = changed tree target.handle first in
    ap (λ (t : Tree). changed t moved.handle (moved_to now target.handle))
    (sym (
    entry_moves tree source target moved name.now new_name.now now (without_displaced now left (Some d)) (Some file) is
    ∙ ap (λ (t : Tree). changed t source.handle (taken_out now name.now (changes_parent source target moved)))
    (gone_swapped now left target.handle entry d (λ f. refl) (is.apart file refl) ∙ ap (λ (files : List File). without_displaced now (with_files tree files) (Some d)) (changed_twice tree.files target.handle first entry (λ f. refl)))
    ))

-- the tree after it is the one that RENAME gives
pub renamed_by : (tree : Tree) (source target moved : File) (name new_name : Bor (List ℕ)) (now : Time) (other : Option File) (has : Bool) (displaced : Option Displaced)
    → IsMove source target moved name.now new_name.now other → has ≡ changes_parent source target moved → displaced ≡ displaced_of other
    → after_move tree (move_as source target moved name new_name now has displaced) ≡ renamed now tree source name.now target new_name.now moved other
renamed_by tree source target moved name new_name now other has displaced is counts_is displaced_is =
    ap (λ (b : Bool). after_move tree (move_as source target moved name new_name now b displaced)) counts_is
    ∙ ap (λ (d : Option Displaced). after_move tree (move_as source target moved name new_name now (changes_parent source target moved) d)) displaced_is
    ∙ after_is_renamed tree source target moved name new_name now other is
