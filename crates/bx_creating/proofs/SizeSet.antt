-- What CREATE comes to where a file has the name, by the size.
use Rattle.std.proofs.Common.{◌≡◌, ℕ, ◌<◌, ◌^◌, Bool, true, false, List, [], Option, Some, sym, ap, ◌∙◌, subst}
use Rattle.std.specs.Prelude.{◌||◌, not, if◌then◌else◌, Result, Ok, Err}
use Rattle.bx_changes.specs.First.{StopsFirst}
use Rattle.bx_changes.specs.Growing.{Makes}
use Rattle.bx_changes.proofs.FileChanged.{changed_is_put}
use Rattle.bx_inodes.specs.Heads.{head_of}
use Rattle.bx_inodes.specs.Inodes.{IsInodeOf, shown_size}
use Rattle.bx_inodes.specs.Stands.{Stands}
use Rattle.bx_inodes.specs.declared.stop.Stop.{Stop}
use Rattle.bx_inodes.specs.declared.stop.Stop.TheVariants.{Need, Inner, Status, OutOfMemory}
use Rattle.bx_layout.specs.declared.inode.Inode.{Inode}
use Rattle.bx_entries.specs.bx_making.specs.Made.{file_of}
use Rattle.bx_model.specs.declared.call.Call.{Call}
use Rattle.bx_model.specs.declared.reply.Reply.{Reply}
use Rattle.bx_model.specs.declared.tree.Tree.{Tree}
use Rattle.bx_model.specs.Edits.{changed}
use Rattle.bx_model.specs.Making.{create_over}
use Rattle.bx_model.specs.Reading.{handle_reply}
use Rattle.bx_model.specs.Steps.{Making, Step, must, refuse, taken, ◌>>=◌, ◌>>◌}
use Rattle.bx_model.specs.Steps.Step.{Gives}
use Rattle.bx_model.specs.Writing.{resize_errors}
use Rattle.bx_records.specs.Drafts.{Changed}
use Rattle.bx_sizes.specs.Answers.{PutsFile, SetsSize}
use Rattle.bx_sizes.specs.Cuts.{ClearsFirst}
use Rattle.bx_sizes.specs.Lengths.{grows_over}
use Rattle.bx_tree_files.specs.declared.file.Body.{Body}
use Rattle.bx_tree_files.specs.declared.file.File.{File}
use Rattle.bx_tree_files.specs.declared.sattr.Sattr.{Sattr}
use Rattle.bx_tree_files.specs.Changes.{resized, with_fields, with_size}
use Rattle.bx_tree_files.specs.Files.{is_regular, size_of, with_changed, with_file}
use Rattle.bx_tree_files.specs.Times.{Time, is_given}
use Rattle.bx_tree_laws.proofs.Touched.{touched_follows}
use Rattle.bx_tree_laws.proofs.Writings.{resize_fits, size_touch}
use Rattle.bx_truth.specs.Stands.{StandsFor}
use Rattle.bx_truth.specs.Stored.{HasFields}
use Rattle.bx_truth.proofs.Cases.{eq_true}
use Rattle.bx_views.specs.Truths.{Truth, with_draft}
use Rattle.bx_creating.specs.Existing.{ComesOver, GivesIn, size_alone}
use Rattle.bx_creating.specs.Lacking.{ClearsGiven, ReadyToResize}
use Rattle.bx_creating.proofs.Lacks.{inode_there}
use Rattle.bx_creating.proofs.NamesThere.{of_fields}

-- setting the size alone
pub alone_sets : (now : Time) (size : ℕ) (file : File) → is_given size ≡ true → with_fields now (size_alone size) file ≡ with_size now size file
alone_sets now size file given = λ i. record file {
  mtime = if given i then now else file.mtime;
  ctime = if false || false || false || given i || false || false then now else file.ctime;
  body = if given i then resized size file.body else file.body;
}

errors_are : (call : Call) (size handle : ℕ) (inode : Inode) (file : File) → HasFields inode file → resize_errors call (head_of handle inode) size ≡ resize_errors call file size
errors_are call size handle inode file fields = λ i. resize_errors call (record file { kind = fields.kind i; mode = fields.mode i; uid = fields.uid i; gid = fields.gid i }) size

-- ---- other relations of the same answers

pub stops_over : (volume areas : ℕ) (truth : Truth) (tree : Tree) (making : Making) (stop : Stop) → GivesIn tree making (Err stop) → ComesOver volume areas truth tree making (Err stop)
stops_over volume areas truth tree making (Need at mode) e = tt
stops_over volume areas truth tree making (Inner blocks) never = absurd never
stops_over volume areas truth tree making (Status status) e = e
stops_over volume areas truth tree making OutOfMemory e = tt

pub tells_over : (volume areas : ℕ) (truth : Truth) (tree : Tree) (making : Making) (draft : List Changed) (reply : Reply) → draft ≡ [] → Stands volume areas truth tree → GivesIn tree making (Ok reply)
    → Makes volume areas truth tree making draft reply 0
tells_over volume areas truth tree making draft reply empty stands e =
    subst (λ (d : List Changed). Makes volume areas truth tree making d reply 0) (sym empty) (record { next = tree; comes_to = ap (taken tree 0) e; stands = stands })

pub size_stops : (volume areas : ℕ) (truth : Truth) (tree : Tree) (file : File) (making : Making) (stop : Stop) → SetsSize areas truth tree file (Err stop) → ComesOver volume areas truth tree making (Err stop)
size_stops volume areas truth tree file making (Need at mode) is = tt
size_stops volume areas truth tree file making (Inner blocks) is = is
size_stops volume areas truth tree file making (Status status) is = absurd is
size_stops volume areas truth tree file making OutOfMemory is = tt

-- without a size nothing is wanted
pub not_given : (areas : ℕ) (truth : Truth) (handle size : ℕ) → is_given size ≡ false → ReadyToResize areas truth handle size
not_given areas truth handle size none given = let both : true ≡ false = sym given ∙ none in absurd cc

-- ---- the file, by its inode

no_error : (step : Step) (status : ℕ) → ◌≡◌ {A = Making} (Ok step) (Err status) → ⊥
no_error step status is = absurd cc

module _ (volume areas : ℕ) (truth : Truth) (tree : Tree) (call : Call) (sattr : Sattr) (now : Time) (handle : ℕ) (inode : Inode) (s : Stands volume areas truth tree) (f : IsInodeOf areas truth tree handle inode) (one : inode.kind ≡ 1) where
  -- what comes of a file by whether it is regular, the errors of its size, and whether one is given
  abbrev rest : File → Bool → Result (Unit {0}) ℕ → Bool → Making
  rest file regular errors given =
      refuse (not regular) 17
      >> (errors >> (if given then Ok (Gives (handle_reply tree (with_size now sattr.size file)) (changed tree file.handle (with_size now sattr.size))) else Ok (Gives (handle_reply tree file) tree)))

  over_is : create_over tree call handle sattr now ≡ rest f.file true (resize_errors call (head_of handle inode) sattr.size) (is_given sattr.size)
  over_is =
      ap (λ (found : Option File). must found 70 >>= (λ file. rest file (is_regular file) (resize_errors call file sattr.size) (is_given sattr.size))) f.there
      ∙ (λ i. rest f.file (eq_true f.file.kind 1 (sym f.fields.kind ∙ one) i) (sym (errors_are call sattr.size handle inode f.file f.fields) i) (is_given sattr.size))

  pub refused : (status : ℕ) → resize_errors call (head_of handle inode) sattr.size ≡ Err status → create_over tree call handle sattr now ≡ Err status
  refused status error = over_is ∙ ap (λ (errors : Result (Unit {0}) ℕ). rest f.file true errors (is_given sattr.size)) error

  module _ (given : is_given sattr.size ≡ true) where
    -- it grows over nothing that was cut
    pub resizes : (alone : Sattr) → alone ≡ size_alone sattr.size → grows_over inode alone.size ≡ false → ReadyToResize areas truth handle sattr.size
    resizes alone is over again other holds =
        subst (λ (i : Inode). grows_over i sattr.size ≡ false) (inode_there areas truth handle inode other f.holds holds) (subst (λ (a : Sattr). grows_over inode a.size ≡ false) is over)

    abbrev sized : File
    sized = with_size now sattr.size f.file

    pub stopped : (alone : Sattr) (stop : Stop) → SetsSize areas truth tree (with_fields now alone f.file) (Err stop) → ComesOver volume areas truth tree (create_over tree call handle sattr now) (Err stop)
    stopped alone stop is = size_stops volume areas truth tree (with_fields now alone f.file) (create_over tree call handle sattr now) stop is

    module _ (fine : resize_errors call (head_of handle inode) sattr.size ≡ Ok tt) where
      is_set : create_over tree call handle sattr now ≡ Ok (Gives (handle_reply tree sized) (changed tree f.file.handle (with_size now sattr.size)))
      is_set = over_is ∙ (λ i. rest f.file true (fine i) (given i))

      -- bytes are cleared first only where there is no error
      pub sized_first : (alone : Sattr) → alone ≡ size_alone sattr.size → (stop : Stop) → StopsFirst (λ status. ⊥) (ClearsFirst areas truth handle alone.size) stop
          → StopsFirst (λ status. create_over tree call handle sattr now ≡ Err status) (ClearsGiven areas truth handle sattr.size) stop
      sized_first alone is (Inner blocks) first = (
        (λ status error. no_error _ status (sym is_set ∙ error)),
        record { given = given; clears = subst (λ (a : Sattr). ClearsFirst areas truth handle a.size blocks) is first.1 },
      )
      sized_first alone is (Need at mode) first = tt
      sized_first alone is (Status status) first = tt
      sized_first alone is OutOfMemory first = tt

      fits : sattr.size < 2 ^ 31
      fits = resize_fits call f.file sattr.size (sym (errors_are call sattr.size handle inode f.file f.fields) ∙ fine) given

      files_are : with_file tree.files sized ≡ with_changed tree.files f.file.handle (with_size now sattr.size)
      files_are =
          sym (ap (λ (h : ℕ). with_changed tree.files h (with_size now sattr.size)) f.handle_is ∙ changed_is_put tree.files handle (with_size now sattr.size) f.file s.is.in_order f.there f.handle_is)

      by_file : (draft : List Changed) (made : Inode) (reply : Reply) → PutsFile areas truth tree sized draft made
          → ((other : Tree) (body : Body) → other.volume ≡ volume → size_of body ≡ shown_size made → size_of body < 2 ^ 31 → reply ≡ handle_reply other (file_of made handle body))
          → Makes volume areas truth tree (create_over tree call handle sattr now) draft reply 0
      by_file draft made reply p tells =
          let told : reply ≡ handle_reply tree sized = tells tree sized.body s.volume_is p.size p.small ∙ ap (handle_reply tree) (of_fields made handle sized f.handle_is p.fields) in
          record {
            next = changed tree f.file.handle (with_size now sattr.size);
            comes_to = ap (taken tree 0) is_set ∙ ap (λ (r : Reply). Some (r, changed tree f.file.handle (with_size now sattr.size))) (sym told);
            stands = record {
              is = subst (λ (l : List File). StandsFor areas (with_draft truth draft) (record tree { files = l })) files_are p.stands;
              volume_is = s.volume_is;
              file_tree = (touched_follows tree f.file.handle (with_size now sattr.size) (size_touch now sattr.size fits) s.file_tree).is;
            };
          }

      pub sets : (alone : Sattr) → alone ≡ size_alone sattr.size → (draft : List Changed) (made : Inode) (reply : Reply) → PutsFile areas truth tree (with_fields now alone f.file) draft made
          → ((other : Tree) (body : Body) → other.volume ≡ volume → size_of body ≡ shown_size made → size_of body < 2 ^ 31 → reply ≡ handle_reply other (file_of made handle body))
          → Makes volume areas truth tree (create_over tree call handle sattr now) draft reply 0
      sets alone is draft made reply p tells =
          by_file draft made reply
          (subst (λ (file : File). PutsFile areas truth tree file draft made) (ap (λ (a : Sattr). with_fields now a f.file) is ∙ alone_sets now sattr.size f.file given) p) tells
