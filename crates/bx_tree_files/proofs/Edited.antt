-- Files stay files when they are edited.
use Rattle.std.proofs.Common.{◌≡◌, ℕ, ◌+◌, ◌-◌, ◌<◌, Bool, true, false, cond, not, List, [], ◌∷◌, refl, arith}
use Rattle.std.specs.Prelude.{bytes_eq, IfSome, OnOk, OnErr, Option, Some, None, Result, Ok, Err}
use Rattle.bx_tree_files.specs.declared.edits.Edit.{Edit}
use Rattle.bx_tree_files.specs.declared.edits.Edit.TheVariants.{Fields, Size, Data, Entered, Replaced, TakenOut, Linked, Unlinked, MovedTo}
use Rattle.bx_tree_files.specs.declared.file.Body.{Body}
use Rattle.bx_tree_files.specs.declared.file.Body.TheVariants.{Bytes, Path, Names}
use Rattle.bx_tree_files.specs.declared.file.File.{File}
use Rattle.bx_tree_files.specs.declared.file.Name.{Name}
use Rattle.bx_tree_files.specs.Entries.{AreBelow, with_name, without_name}
use Rattle.bx_tree_files.specs.FileEdits.{CanEdit, edited, is_free, is_sure, replaced}
use Rattle.bx_tree_files.specs.Files.{IsFile, IsNumbered, kind_of, size_of}
use Rattle.bx_tree_files.specs.Changes.{entered, taken_out}
use Rattle.bx_tree_files.specs.Names.{with_entry, without_entry}
use Rattle.bx_tree_parts.specs.Times.{Time}

below_more : (next : ℕ) (names : List Name) → AreBelow next names → AreBelow (next + 1) names
below_more next [] below = tt
below_more next (entry ∷ names) below = (omega arith, below_more next names below.1)

below_with : (next : ℕ) (names : List Name) (name : List ℕ) (handle : ℕ) → AreBelow next names → AreBelow (next + 1) (with_name names next name handle)
below_with next [] name handle below = (omega arith, tt)
below_with next (entry ∷ names) name handle below = (omega arith, below_with next names name handle below.1)

below_by : (b : Bool) (next : ℕ) (entry : Name) (names : List Name) → entry.number < next → AreBelow next names → AreBelow next (cond b (entry ∷ names) names)
below_by true next entry names first others = (first, others)
below_by false next entry names first others = others

below_without : (next : ℕ) (names : List Name) (name : List ℕ) → AreBelow next names → AreBelow next (without_name names name)
below_without next [] name below = tt
below_without next (entry ∷ names) name below =
    below_by (not (bytes_eq entry.name name)) next entry (without_name names name) below.0 (below_without next names name below.1)

one_more : (counts : Bool) (nlink next : ℕ) → nlink < next → cond counts (nlink + 1) nlink < next + 1
one_more true nlink next less = omega arith
one_more false nlink next less = omega arith

one_less : (counts : Bool) (nlink next : ℕ) → nlink < next → cond counts (nlink - 1) nlink < next
one_less true nlink next less = omega arith
one_less false nlink next less = less

kind_with : (name : List ℕ) (handle : ℕ) (body : Body) → kind_of (with_entry name handle body) ≡ kind_of body
kind_with name handle (Bytes bytes) = refl
kind_with name handle (Path path) = refl
kind_with name handle (Names parent next names) = refl

size_with : (name : List ℕ) (handle : ℕ) (body : Body) → size_of (with_entry name handle body) ≡ size_of body
size_with name handle (Bytes bytes) = refl
size_with name handle (Path path) = refl
size_with name handle (Names parent next names) = refl

kind_without : (name : List ℕ) (body : Body) → kind_of (without_entry name body) ≡ kind_of body
kind_without name (Bytes bytes) = refl
kind_without name (Path path) = refl
kind_without name (Names parent next names) = refl

size_without : (name : List ℕ) (body : Body) → size_of (without_entry name body) ≡ size_of body
size_without name (Bytes bytes) = refl
size_without name (Path path) = refl
size_without name (Names parent next names) = refl

numbered_with : (counts : Bool) (nlink : ℕ) (name : List ℕ) (handle : ℕ) (body : Body) → IsNumbered nlink body → IsNumbered (cond counts (nlink + 1) nlink) (with_entry name handle body)
numbered_with counts nlink name handle (Bytes bytes) numbers = tt
numbered_with counts nlink name handle (Path path) numbers = tt
numbered_with counts nlink name handle (Names parent next names) numbers = (one_more counts nlink next numbers.0, below_with next names name handle numbers.1)

numbered_without : (counts : Bool) (nlink : ℕ) (name : List ℕ) (body : Body) → IsNumbered nlink body → IsNumbered (cond counts (nlink - 1) nlink) (without_entry name body)
numbered_without counts nlink name (Bytes bytes) numbers = tt
numbered_without counts nlink name (Path path) numbers = tt
numbered_without counts nlink name (Names parent next names) numbers = (one_less counts nlink next numbers.0, below_without next names name numbers.1)

pub is_entered : (now : Time) (name : List ℕ) (handle : ℕ) (counts : Bool) (file : File) → IsFile file → IsFile (entered now name handle counts file)
is_entered now name handle counts file is = record {
  kind = rw kind_with is.kind;
  mode = is.mode;
  size = rw size_with is.size;
  numbers = numbered_with counts file.nlink name handle file.body is.numbers;
}

pub is_taken_out : (now : Time) (name : List ℕ) (counts : Bool) (file : File) → IsFile file → IsFile (taken_out now name counts file)
is_taken_out now name counts file is = record {
  kind = rw kind_without is.kind;
  mode = is.mode;
  size = rw size_without is.size;
  numbers = numbered_without counts file.nlink name file.body is.numbers;
}

pub is_replaced : (now : Time) (name : List ℕ) (handle : ℕ) (goes comes : Bool) (file : File) → IsFile file → IsFile (replaced now name handle goes comes file)
is_replaced now name handle goes comes file is =
    is_entered now name handle comes (taken_out now name goes file) (is_taken_out now name goes file is)

pub on_ok_from : {T E : Type 0} (r : Result T E) (P Q : Type 0) → (P → Q) → OnOk r P → OnOk r Q
on_ok_from (Ok x) P Q next holds = next holds
on_ok_from (Err e) P Q next holds = tt

-- an edit keeps a file's handle
pub edited_handle : (now : Time) (edit : Edit) (file : File) → (edited now edit file).handle ≡ file.handle
edited_handle now (Fields sattr) file = refl
edited_handle now (Size size) file = refl
edited_handle now (Data offset written) file = refl
edited_handle now (Entered name handle counts) file = refl
edited_handle now (Replaced name handle goes comes) file = refl
edited_handle now (TakenOut name counts) file = refl
edited_handle now Linked file = refl
edited_handle now Unlinked file = refl
edited_handle now (MovedTo parent) file = refl

-- a file after an edit that was made or not
pub file_after : {T E : Type 0} (r : Result T E) (old new : File) → OnOk r (IsFile new) → OnErr r (new ≡ old) → IsFile old → IsFile new
file_after (Ok x) old new made same is = made
file_after (Err e) old new made same is = rw same is

pub handle_after : {T E : Type 0} (r : Result T E) (now : Time) (edit : Edit) (old new : File) → OnOk r (new ≡ edited now edit old) → OnErr r (new ≡ old) → new.handle ≡ old.handle
handle_after (Ok x) now edit old new made same = rw made (edited_handle now edit old)
handle_after (Err e) now edit old new made same = rw same refl

pub on_err_from : {T E : Type 0} (r : Result T E) (P Q : Type 0) → (P → Q) → OnErr r P → OnErr r Q
on_err_from (Ok x) P Q next holds = tt
on_err_from (Err e) P Q next holds = next holds

can_by : (edit : Edit) → is_free edit ≡ true → (file : File) → CanEdit edit file
can_by (Fields sattr) free file = absurd cc
can_by (Size size) free file = absurd cc
can_by (Data offset written) free file = absurd cc
can_by (Entered name handle counts) free file = absurd cc
can_by (Replaced name handle goes comes) free file = absurd cc
can_by (TakenOut name counts) free file = tt
can_by Linked free file = absurd cc
can_by Unlinked free file = tt
can_by (MovedTo parent) free file = tt

-- an edit that every file may have
pub can_free : (edit : Edit) → is_free edit ≡ true → (found : Option File) → IfSome found (CanEdit edit)
can_free edit free None = tt
can_free edit free (Some file) = can_by edit free file

pub sure_free : (edit : Edit) → is_free edit ≡ true → is_sure edit ≡ true
sure_free (Fields sattr) free = absurd cc
sure_free (Size size) free = absurd cc
sure_free (Data offset written) free = absurd cc
sure_free (Entered name handle counts) free = absurd cc
sure_free (Replaced name handle goes comes) free = absurd cc
sure_free (TakenOut name counts) free = refl
sure_free Linked free = absurd cc
sure_free Unlinked free = refl
sure_free (MovedTo parent) free = refl
