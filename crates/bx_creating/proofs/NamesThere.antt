-- What CREATE finds: the file that has its name, which it tells of.
use Rattle.std.proofs.Common.{◌≡◌, ℕ, Bool, false, Option, refl, sym, ap, ◌∙◌}
use Rattle.std.specs.Prelude.{◌≢◌, ◌&&◌, not, nat_lt, if◌then◌else◌, Ok, Err}
use Rattle.bx_inodes.specs.Inodes.{FileAt, IsInodeOf}
use Rattle.bx_inodes.specs.declared.stop.Stop.{Stop}
use Rattle.bx_inodes.specs.declared.stop.Stop.TheVariants.{Need, Inner, Status, OutOfMemory}
use Rattle.bx_layout.specs.declared.inode.Inode.{Inode}
use Rattle.bx_entries.specs.bx_making.specs.Made.{file_of}
use Rattle.bx_model.specs.declared.call.Call.{Call}
use Rattle.bx_model.specs.declared.permissions.Want.TheVariants as want
use Rattle.bx_model.specs.declared.reply.Reply.{Reply}
use Rattle.bx_model.specs.declared.tree.Tree.{Tree}
use Rattle.bx_model.specs.Edits.{changed}
use Rattle.bx_model.specs.Making.{create_over}
use Rattle.bx_model.specs.Permissions.{may}
use Rattle.bx_model.specs.Reading.{handle_reply}
use Rattle.bx_model.specs.Steps.{Making, must, refuse, ◌>>=◌, ◌>>◌}
use Rattle.bx_model.specs.Steps.Step.{Gives}
use Rattle.bx_tree_files.specs.declared.file.File.{File}
use Rattle.bx_tree_files.specs.declared.sattr.Sattr.{Sattr}
use Rattle.bx_tree_files.specs.Changes.{most_bytes, with_size}
use Rattle.bx_tree_files.specs.Files.{file_at, is_directory, is_link, is_regular}
use Rattle.bx_tree_files.specs.Times.{Time, is_given}
use Rattle.bx_truth.specs.Stored.{HasFields}
use Rattle.bx_truth.proofs.Cases.{eq_false, eq_true}
use Rattle.bx_views.specs.Truths.{Truth}
use Rattle.bx_creating.specs.Existing.{GivesIn}

-- ---- the file that has the name

-- the file of an inode with its fields
pub of_fields : (inode : Inode) (handle : ℕ) (file : File) → file.handle ≡ handle → HasFields inode file → file_of inode handle file.body ≡ file
of_fields inode handle file handle_is fields = λ i. record {
  handle = sym handle_is i;
  kind = fields.kind i;
  mode = fields.mode i;
  nlink = fields.nlink i;
  uid = fields.uid i;
  gid = fields.gid i;
  atime = fields.atime i;
  mtime = fields.mtime i;
  ctime = fields.ctime i;
  body = file.body;
}

module _ (tree : Tree) (call : Call) (sattr : Sattr) (now : Time) where
  -- what comes of a file by whether it is regular, and whether a size is given
  abbrev with_tests : Bool → Bool → File → Making
  with_tests regular given file =
      refuse (not regular) 17
      >> ((refuse (given && is_directory file) 21 >> (refuse (given && is_link file) 6 >> (refuse (given && not (may call file want.Write)) 13 >> refuse (given && nat_lt most_bytes sattr.size) 27)))
      >> (if given then Ok (Gives (handle_reply tree (with_size now sattr.size file)) (changed tree file.handle (with_size now sattr.size))) else Ok (Gives (handle_reply tree file) tree)))

  abbrev over : Option File → Making
  over found = must found 70 >>= (λ file. with_tests (is_regular file) (is_given sattr.size) file)

  over_is : (handle : ℕ) → create_over tree call handle sattr now ≡ over (file_at tree.files handle)
  over_is handle = refl

  module _ (areas : ℕ) (truth : Truth) (handle : ℕ) where
    pub not_there : (stop : Stop) → FileAt areas truth tree handle (Err stop) → GivesIn tree (create_over tree call handle sattr now) (Err stop)
    not_there (Status status) (code, none) = over_is handle ∙ ap over none ∙ ap Err (sym code)
    not_there (Need at mode) f = tt
    not_there (Inner blocks) never = never
    not_there OutOfMemory f = tt

    module _ (inode : Inode) (f : IsInodeOf areas truth tree handle inode) where
      pub irregular : inode.kind ≢ 1 → create_over tree call handle sattr now ≡ Err 17
      irregular other =
          over_is handle ∙ ap over f.there ∙ ap (λ (r : Bool). with_tests r (is_given sattr.size) f.file) (eq_false f.file.kind 1 (λ one. other (f.fields.kind ∙ one)))

      pub gives : is_given sattr.size ≡ false → inode.kind ≡ 1 → (reply : Reply) → reply ≡ handle_reply tree (file_of inode handle f.file.body) → create_over tree call handle sattr now ≡ Ok (Gives reply tree)
      gives none one reply told =
          over_is handle ∙ ap over f.there ∙ (λ i. with_tests (eq_true f.file.kind 1 (sym f.fields.kind ∙ one) i) (none i) f.file)
          ∙ ap (λ (r : Reply). Ok (Gives r tree)) (sym (told ∙ ap (handle_reply tree) (of_fields inode handle f.file f.handle_is f.fields)))
