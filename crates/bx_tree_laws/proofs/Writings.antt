-- SETATTR and WRITE keep a file tree.
use Rattle.std.proofs.Common.{◌≡◌, ℕ, ◌+◌, ◌<◌, ◌^◌, arith, Bool, true, false, List, refl, subst, []}
use Rattle.std.specs.Prelude.{◌==◌, ◌%◌, ◌&&◌, not, if◌then◌else◌, nat_lt, length, Result, Ok}
use Rattle.std.proofs.lemmas.Bool.Decides.{nat_tests}
use Rattle.bx_model.specs.declared.call.Call.{Call}
use Rattle.bx_model.specs.bx_tree_files.specs.declared.sattr.Sattr.{Sattr}
use Rattle.bx_model.specs.bx_tree_files.specs.declared.file.Body.{Body}
use Rattle.bx_model.specs.bx_tree_files.specs.declared.file.Body.TheVariants.{Bytes, Path, Names}
use Rattle.bx_model.specs.bx_tree_files.specs.declared.file.File.{File}
use Rattle.bx_model.specs.declared.permissions.Want.TheVariants as want
use Rattle.bx_model.specs.declared.reply.Reply.{Reply}
use Rattle.bx_model.specs.declared.status.TheConstants.{ACCES, FBIG, ISDIR, NXIO, PERM, STALE}
use Rattle.bx_model.specs.declared.tree.Tree.{Tree}
use Rattle.bx_model.specs.Edits.{changed}
use Rattle.bx_model.specs.bx_tree_files.specs.Files.{is_directory, is_link}
use Rattle.bx_model.specs.FileTrees.{IsFileTree}
use Rattle.bx_model.specs.bx_tree_files.specs.Names.{names_of}
use Rattle.bx_model.specs.Permissions.{may}
use Rattle.bx_model.specs.Reading.{named_file, attributes_reply}
use Rattle.bx_model.specs.bx_tree_files.specs.Times.{Time, is_given}
use Rattle.bx_model.specs.bx_tree_files.specs.Changes.{most_bytes, overwritten, resized, with_data, with_fields, with_size}
use Rattle.bx_model.specs.Writing.{is_forbidden, resize_errors, setattr, write, write_errors}
use Rattle.bx_tree_laws.proofs.Grows.{Follows, follows_same}
use Rattle.bx_tree_laws.proofs.DirectoryParts.{SameParent}
use Rattle.bx_tree_laws.proofs.Parts.{part_mode, part_overwritten, part_resized}
use Rattle.bx_tree_laws.proofs.Plans.{IsPart, Plan}
use Rattle.bx_tree_laws.proofs.Stays.{parent_overwritten, parent_resized, parent_same}
use Rattle.bx_tree_laws.proofs.Steps.{after, after_must, after_refuse, next_is, refused_not}
use Rattle.bx_tree_laws.proofs.Touched.{IsTouch, touched_follows}

names_resized : (size : ℕ) (body : Body) → names_of (resized size body) ≡ names_of body
names_resized size (Bytes bytes) = refl
names_resized size (Path path) = refl
names_resized size (Names parent next names) = refl

names_overwritten : (offset : ℕ) (written : List ℕ) (body : Body) → names_of (overwritten offset written body) ≡ names_of body
names_overwritten offset written (Bytes bytes) = refl
names_overwritten offset written (Path path) = refl
names_overwritten offset written (Names parent next names) = refl

-- a size that is set, if it is given
if_resized : (given : Bool) (size : ℕ) (body : Body) → names_of (if given then resized size body else body) ≡ names_of body
if_resized true size body = names_resized size body
if_resized false size body = refl

if_parent : (given : Bool) (size : ℕ) (body : Body) → SameParent body (if given then resized size body else body)
if_parent true size body = parent_resized size body
if_parent false size body = parent_same body

if_part : (given : Bool) (size : ℕ) (plan : Plan) (handle kind mode nlink : ℕ) (body : Body) → (given ≡ true → size < 2 ^ 31) → IsPart plan handle kind mode nlink body
    → IsPart plan handle kind mode nlink (if given then resized size body else body)
if_part true size plan handle kind mode nlink body fits part = part_resized plan handle kind mode nlink size body (fits refl) part
if_part false size plan handle kind mode nlink body fits part = part

if_mode : (given : Bool) (bits : ℕ) (plan : Plan) (handle kind mode nlink : ℕ) (body : Body) → IsPart plan handle kind mode nlink body
    → IsPart plan handle kind (if given then bits % 4096 else mode) nlink body
if_mode true bits plan handle kind mode nlink body part = part_mode plan handle kind mode nlink (bits % 4096) body (omega arith) part
if_mode false bits plan handle kind mode nlink body part = part

fields_touch : (now : Time) (sattr : Sattr) → (is_given sattr.size ≡ true → sattr.size < 2 ^ 31) → IsTouch (with_fields now sattr)
fields_touch now sattr fits = record {
  handle = λ f. refl;
  kind = λ f. refl;
  names = λ f. if_resized (is_given sattr.size) sattr.size f.body;
  parent = λ f. if_parent (is_given sattr.size) sattr.size f.body;
  part = λ plan handle f part.
      if_part (is_given sattr.size) sattr.size plan handle f.kind (if is_given sattr.mode then sattr.mode % 4096 else f.mode) f.nlink f.body fits
      (if_mode (is_given sattr.mode) sattr.mode plan handle f.kind f.mode f.nlink f.body part);
}

pub size_touch : (now : Time) (size : ℕ) → size < 2 ^ 31 → IsTouch (with_size now size)
size_touch now size fits = record {
  handle = λ f. refl;
  kind = λ f. refl;
  names = λ f. names_resized size f.body;
  parent = λ f. parent_resized size f.body;
  part = λ plan handle f part. part_resized plan handle f.kind f.mode f.nlink size f.body fits part;
}

data_touch : (now : Time) (offset : ℕ) (written : List ℕ) → offset + length written < 2 ^ 31 → IsTouch (with_data now offset written)
data_touch now offset written fits = record {
  handle = λ f. refl;
  kind = λ f. refl;
  names = λ f. names_overwritten offset written f.body;
  parent = λ f. parent_overwritten offset written f.body;
  part = λ plan handle f part. part_overwritten plan handle f.kind f.mode f.nlink offset written f.body fits part;
}

-- a size that meets no error fits
pub within : (given : Bool) (size : ℕ) → given && nat_lt most_bytes size ≡ false → given ≡ true → size < 2 ^ 31
within given size e is = grind (arith, nat_tests)

pub resize_fits : (call : Call) (file : File) (size : ℕ) → resize_errors call file size ≡ Ok tt → is_given size ≡ true → size < 2 ^ 31
resize_fits call file size e given =
    after_refuse (is_given size && is_directory file) ISDIR _ tt e λ directory rest.
    after_refuse (is_given size && is_link file) NXIO _ tt rest λ link rest.
    after_refuse (is_given size && not (may call file want.Write)) ACCES _ tt rest λ may rest.
    within (is_given size) size (refused_not (is_given size && nat_lt most_bytes size) FBIG tt rest) given

pub setattr_keeps : (tree : Tree) (call : Call) (at : List ℕ) (sattr : Sattr) (now : Time) (reply : Reply) (next : Tree) → IsFileTree tree → setattr tree call at sattr now ≡ Ok (reply, next) → Follows [] tree next
setattr_keeps tree call at sattr now reply next was e =
    after_must (named_file tree at) STALE _ (reply, next) e λ file found rest.
    after_refuse (is_forbidden call file sattr) PERM _ (reply, next) rest λ allowed rest.
    after (resize_errors call file sattr.size) _ (reply, next) rest λ fits rest.
    subst (Follows [] tree) (next_is _ reply _ next rest) (touched_follows tree file.handle (with_fields now sattr) (fields_touch now sattr (resize_fits call file sattr.size fits)) was)

data_fits : (call : Call) (file : File) (offset count spare : ℕ) → write_errors call file offset count spare ≡ Ok tt → nat_lt 0 count && nat_lt most_bytes (offset + count) ≡ false
data_fits call file offset count spare e =
    after_refuse (is_directory file) ISDIR _ tt e λ directory rest.
    after_refuse (is_link file) NXIO _ tt rest λ link rest.
    after_refuse (not (may call file want.Write)) ACCES _ tt rest λ may rest.
    after_refuse (nat_lt 0 count && nat_lt most_bytes (offset + count)) FBIG _ tt rest λ fits rest. fits

pub write_keeps : (tree : Tree) (call : Call) (at : List ℕ) (offset : ℕ) (written : List ℕ) (now : Time) (spare : ℕ) (reply : Reply) (next : Tree) → IsFileTree tree
    → write tree call at offset written now spare ≡ Ok (reply, next) → Follows [] tree next
write_keeps tree call at offset written now spare reply next was e =
    after_must (named_file tree at) STALE _ (reply, next) e λ file found rest.
    after (write_errors call file offset (length written) spare) _ (reply, next) rest λ allowed rest.
    by file (length written == 0) refl (data_fits call file offset (length written) spare allowed) rest
  where
    short : (b : Bool) → (length written == 0) ≡ b → b ≡ false → nat_lt 0 (length written) && nat_lt most_bytes (offset + length written) ≡ false → offset + length written < 2 ^ 31
    short b t more fits = grind (arith, nat_tests)

    by : (file : File) (b : Bool) → (length written == 0) ≡ b → nat_lt 0 (length written) && nat_lt most_bytes (offset + length written) ≡ false
        → ◌≡◌ {A = Result (Reply × Tree) ℕ} (if b then Ok (attributes_reply tree file, tree) else Ok (attributes_reply tree (with_data now offset written file), changed tree file.handle (with_data now offset written))) (Ok (reply, next))
        → Follows [] tree next
    by file true t fits rest = subst (Follows [] tree) (next_is _ reply tree next rest) (follows_same tree was)
    by file false t fits rest =
        subst (Follows [] tree) (next_is _ reply _ next rest) (touched_follows tree file.handle (with_data now offset written) (data_touch now offset written (short false t refl fits)) was)
