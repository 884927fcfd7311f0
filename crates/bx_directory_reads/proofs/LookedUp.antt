-- What LOOKUP comes to, by the directory that is found.
use Rattle.std.proofs.Common.{◌≡◌, ℕ, ◌≤◌, Bool, true, false, eqb-true, arith, List, [], Option, Some, None, refl, sym, ap, ◌∙◌, subst, inl, inr}
use Rattle.std.specs.Prelude.{not, if◌then◌else◌, codes, Result, Ok, Err, option_and_then}
use Rattle.std.specs.Str.{bytes_eq}
use Rattle.bx_dirs.specs.Entries.{HasEntries}
use Rattle.bx_reads.specs.bx_files.specs.Paths.{IsNeed}
use Rattle.bx_reads.specs.bx_inodes.specs.Fitting.{HintsFitAll}
use Rattle.bx_reads.specs.bx_inodes.proofs.Pages.{has_pages}
use Rattle.bx_reads.specs.bx_inodes.specs.declared.stop.Stop.{Stop}
use Rattle.bx_reads.specs.bx_inodes.specs.declared.stop.Stop.TheVariants.{Need, Inner, Status, OutOfMemory}
use Rattle.bx_reads.specs.bx_inodes.specs.Heads.{head_of}
use Rattle.bx_reads.specs.bx_inodes.specs.Stands.{Stands}
use Rattle.bx_places.specs.Handles.{file_text}
use Rattle.bx_layout.specs.declared.inode.Inode.{Inode}
use Rattle.bx_model.specs.declared.call.Call.{Call}
use Rattle.bx_model.specs.declared.permissions.Want.TheVariants as want
use Rattle.bx_model.specs.declared.reply.Reply.{Reply}
use Rattle.bx_model.specs.declared.reply.Reply.TheVariants as replies
use Rattle.bx_model.specs.declared.tree.Tree.{Tree}
use Rattle.bx_model.specs.Permissions.{may}
use Rattle.bx_model.specs.Reading.{lookup, meant}
use Rattle.bx_model.specs.Steps.{Outcome, refuse, ◌>>◌}
use Rattle.bx_places.specs.Places.{is_block}
use Rattle.bx_tree_files.specs.declared.file.Body.{Body}
use Rattle.bx_tree_files.specs.declared.file.Body.TheVariants as bodies
use Rattle.bx_tree_files.specs.declared.file.File.{File}
use Rattle.bx_tree_files.specs.declared.file.Name.{Name}
use Rattle.bx_tree_files.specs.Attributes.{attributes_of}
use Rattle.bx_tree_files.specs.Entries.{entry_named}
use Rattle.bx_tree_files.specs.Files.{file_at, is_directory}
use Rattle.bx_tree_files.specs.Names.{names_of, parent_of}
use Rattle.bx_truth.specs.Chunks.{chunks_of}
use Rattle.bx_truth.specs.PageTrees.{Chunks}
use Rattle.bx_truth.specs.Stored.{HasBody, HasFields, IsDirectory, Owner, Stored}
use Rattle.bx_views.specs.Truths.{Held, Hints, IsTruth, Truth}
use Rattle.bx_reads.specs.Answers.{IsOutcome}
use Rattle.bx_reads.specs.Files.{IsNamed}
use Rattle.bx_reads.proofs.Told.{told}
use Rattle.bx_directory_reads.specs.Lookups.{MeansIn, open_error, telling}

-- ---- what a name means

module _ (tree : Tree) (directory : File) (parent next : ℕ) (names : List Name) (name : List ℕ) (body_is : directory.body ≡ bodies.Names parent next names)
    (not_dot : bytes_eq name (codes ".") ≡ false) (not_dots : bytes_eq name (codes "..") ≡ false) where
  abbrev by_entry : Option Name → Option File
  by_entry found = option_and_then (λ entry. file_at tree.files entry.handle) found

  by_name : meant tree directory name ≡ by_entry (entry_named names name)
  by_name =
      ap (λ (t : Bool). if t then Some directory else if bytes_eq name (codes "..") then file_at tree.files (parent_of directory.body) else by_entry (entry_named (names_of directory.body) name)) not_dot
      ∙ ap (λ (t : Bool). if t then file_at tree.files (parent_of directory.body) else by_entry (entry_named (names_of directory.body) name)) not_dots
      ∙ ap (λ (b : Body). by_entry (entry_named (names_of b) name)) body_is

  pub entry_means : (number handle : ℕ) → entry_named names name ≡ Some (record { number = number; name = name; handle = handle }) → meant tree directory name ≡ file_at tree.files handle
  entry_means number handle found = by_name ∙ ap by_entry found

  pub none_means : entry_named names name ≡ None → meant tree directory name ≡ None
  none_means none = by_name ∙ ap by_entry none

-- a need of a block of the volume says nothing of what is meant
pub need_means : (tree : Tree) (directory : File) (name : List ℕ) (areas at : ℕ) (stop : Stop) → IsNeed areas at stop → is_block areas at ≡ true → MeansIn tree directory name (Err stop)
need_means tree directory name areas at stop (inl need) block = subst (λ (s : Stop). MeansIn tree directory name (Err s)) (sym need.1) tt
need_means tree directory name areas at stop (inr none) block = let both : true ≡ false = sym block ∙ none.0 in absurd cc

-- ---- what is told of a file

module _ (tree : Tree) (volume : ℕ) (same : tree.volume ≡ volume) where
  pub file_told : (handle : ℕ) (file : File) (bytes words : List ℕ) → file_at tree.files handle ≡ Some file → file.handle ≡ handle → bytes ≡ file_text volume handle → words ≡ attributes_of volume file
      → telling tree (file_at tree.files handle) ≡ Ok (replies.Handle bytes words, tree)
  file_told handle file bytes words there handle_is bytes_are words_are =
      ap (telling tree) there
      ∙ (λ i. Ok (replies.Handle (file_text (same i) (handle_is i)) (attributes_of (same i) file), tree))
      ∙ (λ i. Ok (replies.Handle (sym bytes_are i) (sym words_are i), tree))

pub none_told : (tree : Tree) (handle : ℕ) → file_at tree.files handle ≡ None → telling tree (file_at tree.files handle) ≡ Err 2
none_told tree handle none = ap (telling tree) none

-- ---- the error

abbrev or_error : Option ℕ → Outcome → Outcome
or_error (Some status) rest = Err status
or_error None rest = rest

abbrev first_error : Bool → Bool → Option ℕ
first_error d m = if d then (if m then None else Some 13) else Some 20

tests : (d m : Bool) (rest : Outcome) → refuse (not d) 20 >> (refuse (not m) 13 >> rest) ≡ or_error (first_error d m) rest
tests false m rest = refl
tests true true rest = refl
tests true false rest = refl

no_tests : (d m : Bool) → first_error d m ≡ None → d ≡ true
no_tests false m none = absurd cc
no_tests true m none = refl

error_is : (call : Call) (handle : ℕ) (inode : Inode) (file : File) → HasFields inode file → open_error want.Search call (head_of handle inode) ≡ open_error want.Search call file
error_is call handle inode file fields = λ i. open_error want.Search call (record file { kind = fields.kind i; mode = fields.mode i; uid = fields.uid i; gid = fields.gid i })

-- ---- the directory

-- the body of a directory
record IsNames (chunks : Chunks) (owner : ℕ → Owner) (handle : ℕ) (stored : Stored) (body : Body) : Type 0 where
  parent : ℕ
  next : ℕ
  names : List Name
  body_is : body ≡ bodies.Names parent next names
  is : IsDirectory chunks owner handle stored parent next names

is_names : (chunks : Chunks) (owner : ℕ → Owner) (handle : ℕ) (stored : Stored) (body : Body) → HasBody chunks owner handle stored body → stored.inode.kind ≡ 2 → IsNames chunks owner handle stored body
is_names chunks owner handle stored (bodies.Bytes bytes) has two = absurd (omega (arith, has.kind, two))
is_names chunks owner handle stored (bodies.Path path) has two = absurd (omega (arith, has.kind, two))
is_names chunks owner handle stored (bodies.Names parent next names) has two = record { parent = parent; next = next; names = names; body_is = refl; is = has }

-- a directory that is found, with its entries
pub record IsFound (areas : ℕ) (held : Held) (hints : Hints) (truth : Truth) (inode : Inode) (file : File) : Type 0 where
  pub parent : ℕ
  pub next : ℕ
  pub names : List Name
  pub body_is : file.body ≡ bodies.Names parent next names
  pub parent_is : inode.parent ≡ parent
  pub entries : HasEntries areas held hints truth [] inode.tree names

pub found : (areas : ℕ) (held : Held) (hints : Hints) (truth : Truth) (tree : Tree) (volume handle : ℕ) (bytes : List ℕ) (inode : Inode) → areas ≤ 64 → IsTruth held truth → Stands volume areas truth tree
    → HintsFitAll areas hints truth → (named : IsNamed areas truth tree bytes handle inode) → is_directory named.file ≡ true → IsFound areas held hints truth inode named.file
found areas held hints truth tree volume handle bytes inode few same s fit named directory =
    let two : inode.kind ≡ 2 = named.fields.kind ∙ eqb-true named.file.kind 2 directory in
    let pages = has_pages areas held hints truth [] tree handle inode named.file few same s.is fit named.holds named.found (λ five. absurd (omega (arith, two, five))) in
    let b = is_names (chunks_of areas truth) s.is.owner handle (record { inode = inode; tree = pages.pages }) named.file.body pages.body two in
    record { parent = b.parent; next = b.next; names = b.names; body_is = b.body_is; parent_is = b.is.parent_is; entries = record { tree = pages.pages; under = pages.under; entries = b.is.entries } }

-- ---- LOOKUP

module _ (tree : Tree) (call : Call) (name : List ℕ) where
  abbrev rest : File → Outcome
  rest directory = telling tree (meant tree directory name)

  -- what LOOKUP does with a directory
  abbrev pub looking : File → Outcome
  looking directory = refuse (not (is_directory directory)) 20 >> (refuse (not (may call directory want.Search)) 13 >> rest directory)

  module _ (bytes : List ℕ) (areas handle : ℕ) (truth : Truth) (inode : Inode) (named : IsNamed areas truth tree bytes handle inode) where
    comes : (error : Option ℕ) → error ≡ open_error want.Search call (head_of handle inode) → lookup tree call bytes name ≡ or_error error (rest named.file)
    comes error is =
        ap (told tree bytes looking) named.there ∙ tests (is_directory named.file) (may call named.file want.Search) (rest named.file)
        ∙ ap (λ (o : Option ℕ). or_error o (rest named.file)) (sym (is ∙ error_is call handle inode named.file named.fields))

    pub refused : (status : ℕ) (error : Option ℕ) → error ≡ Some status → error ≡ open_error want.Search call (head_of handle inode) → lookup tree call bytes name ≡ Err status
    refused status error some is = comes error is ∙ ap (λ (o : Option ℕ). or_error o (rest named.file)) some

    module _ (volume : ℕ) (held : Held) (hints : Hints) (few : areas ≤ 64) (same : IsTruth held truth) (s : Stands volume areas truth tree) (fit : HintsFitAll areas hints truth)
        (none : None ≡ open_error want.Search call (head_of handle inode)) where
      pub directory : IsFound areas held hints truth inode named.file
      directory = found areas held hints truth tree volume handle bytes inode few same s fit named
          (no_tests (is_directory named.file) (may call named.file want.Search) (sym (none ∙ error_is call handle inode named.file named.fields)))

      pub stops_meant : (stop : Stop) → MeansIn tree named.file name (Err stop) → IsOutcome tree (lookup tree call bytes name) (Err stop)
      stops_meant (Need at mode) means = tt
      stops_meant (Inner blocks) means = means
      stops_meant (Status status) means = comes None none ∙ ap (telling tree) means.1 ∙ ap (λ (n : ℕ). Err n) (sym means.0)
      stops_meant OutOfMemory means = tt

      pub meant_told : (target : ℕ) → MeansIn tree named.file name (Ok target) → (result : Result Reply Stop) → IsOutcome tree (telling tree (file_at tree.files target)) result
          → IsOutcome tree (lookup tree call bytes name) result
      meant_told target means result told = subst (λ (o : Outcome). IsOutcome tree o result) (sym (comes None none ∙ ap (telling tree) means)) told
