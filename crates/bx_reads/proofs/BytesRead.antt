-- What READ comes to, by the file that is found.
use Rattle.std.proofs.Common.{◌≡◌, ℕ, ◌≤◌, Bool, true, false, List, [], take, drop, Option, Some, None, refl, sym, ap, ◌∙◌}
use Rattle.std.specs.Prelude.{◌≢◌, not, min, if◌then◌else◌, Result, Ok, Err}
use Rattle.bx_files.specs.Reads.{Tells}
use Rattle.bx_files.specs.bx_inodes.specs.Fitting.{HintsFitAll}
use Rattle.bx_files.specs.bx_inodes.specs.Pages.{HasPages}
use Rattle.bx_files.specs.bx_inodes.proofs.Pages.{has_pages}
use Rattle.bx_files.specs.bx_blink.specs.Hints.{Under}
use Rattle.bx_files.specs.bx_inodes.specs.declared.stop.Stop.{Stop}
use Rattle.bx_files.specs.bx_inodes.specs.declared.stop.Stop.TheVariants.{Need, Inner, Status, OutOfMemory}
use Rattle.bx_files.specs.bx_inodes.specs.Heads.{head_of}
use Rattle.bx_files.specs.bx_inodes.specs.Stands.{Stands}
use Rattle.bx_layout.specs.declared.inode.Inode.{Inode}
use Rattle.bx_model.specs.declared.call.Call.{Call}
use Rattle.bx_model.specs.declared.permissions.Want.TheVariants as want
use Rattle.bx_model.specs.declared.reply.Reply.TheVariants as replies
use Rattle.bx_model.specs.declared.tree.Tree.{Tree}
use Rattle.bx_model.specs.Permissions.{may}
use Rattle.bx_model.specs.Reading.{bytes_of, most_data, read}
use Rattle.bx_model.specs.Steps.{Outcome, refuse, ◌>>◌}
use Rattle.bx_tree_files.specs.declared.file.Body.{Body}
use Rattle.bx_tree_files.specs.declared.file.Body.TheVariants as bodies
use Rattle.bx_tree_files.specs.declared.file.File.{File}
use Rattle.bx_tree_files.specs.Attributes.{attributes_of}
use Rattle.bx_tree_files.specs.Files.{is_directory, is_link}
use Rattle.bx_files.specs.bx_truth.specs.Chunks.{chunks_of}
use Rattle.bx_files.specs.bx_truth.specs.PageTrees.{Chunks}
use Rattle.bx_files.specs.bx_truth.specs.Stored.{HasBody, HasFields, IsRegular, Owner, Stored}
use Rattle.bx_files.specs.bx_truth.proofs.Cases.{eq_true}
use Rattle.bx_views.specs.Truths.{Held, Hints, IsTruth, Truth}
use Rattle.bx_reads.specs.Answers.{IsOutcome}
use Rattle.bx_reads.specs.Bytes.{read_error}
use Rattle.bx_reads.specs.Files.{IsNamed}
use Rattle.bx_reads.proofs.Told.{told}

-- an error, or what comes behind
abbrev or_error : Option ℕ → Outcome → Outcome
or_error (Some status) rest = Err status
or_error None rest = rest

abbrev first_error : Bool → Bool → Bool → Option ℕ
first_error d l m = if d then Some 21 else if l then Some 6 else if m then None else Some 13

tests : (d l m : Bool) (rest : Outcome) → refuse d 21 >> (refuse l 6 >> (refuse (not m) 13 >> rest)) ≡ or_error (first_error d l m) rest
tests true l m rest = refl
tests false true m rest = refl
tests false false true rest = refl
tests false false false rest = refl

no_tests : (d l m : Bool) → first_error d l m ≡ None → (d ≡ false) × (l ≡ false)
no_tests true l m none = absurd cc
no_tests false true m none = absurd cc
no_tests false false m none = (refl, refl)

-- the error, by the inode, is that by the file
pub error_is : (call : Call) (handle : ℕ) (inode : Inode) (file : File) → HasFields inode file → read_error call (head_of handle inode) ≡ read_error call file
error_is call handle inode file fields = λ i. read_error call (record file { kind = fields.kind i; mode = fields.mode i; uid = fields.uid i; gid = fields.gid i })

-- what stops the telling of bytes stops the procedure
pub stopped_bytes : (tree : Tree) (outcome : Outcome) (bytes : List ℕ) (stop : Stop) → Tells bytes (Err stop) → IsOutcome tree outcome (Err stop)
stopped_bytes tree outcome bytes (Need at mode) told = tt
stopped_bytes tree outcome bytes (Inner blocks) told = told
stopped_bytes tree outcome bytes (Status status) told = absurd told
stopped_bytes tree outcome bytes OutOfMemory told = tt

-- the body of a file that is no directory and no link
record IsBytes (chunks : Chunks) (owner : ℕ → Owner) (handle : ℕ) (stored : Stored) (body : Body) : Type 0 where
  bytes : List ℕ
  body_is : body ≡ bodies.Bytes bytes
  is : IsRegular chunks owner handle stored bytes

is_bytes : (chunks : Chunks) (owner : ℕ → Owner) (handle : ℕ) (stored : Stored) (body : Body) → HasBody chunks owner handle stored body → stored.inode.kind ≢ 2 → stored.inode.kind ≢ 5
    → IsBytes chunks owner handle stored body
is_bytes chunks owner handle stored (bodies.Bytes bytes) has not_directory not_link = record { bytes = bytes; body_is = refl; is = has }
is_bytes chunks owner handle stored (bodies.Path path) has not_directory not_link = absurd (not_link has.kind)
is_bytes chunks owner handle stored (bodies.Names parent next names) has not_directory not_link = absurd (not_directory has.kind)

module _ (tree : Tree) (call : Call) (offset count : ℕ) where
  abbrev rest : File → Outcome
  rest file = Ok (replies.Bytes (attributes_of tree.volume file) (take (min count most_data) (drop offset (bytes_of file.body))), tree)

  -- what READ does with a file
  abbrev pub reading : File → Outcome
  reading file = refuse (is_directory file) 21 >> (refuse (is_link file) 6 >> (refuse (not (may call file want.Read)) 13 >> rest file))

  module _ (bytes : List ℕ) (areas handle : ℕ) (truth : Truth) (inode : Inode) (named : IsNamed areas truth tree bytes handle inode) where
    comes : (error : Option ℕ) → error ≡ read_error call (head_of handle inode) → read tree call bytes offset count ≡ or_error error (rest named.file)
    comes error is =
        ap (told tree bytes reading) named.there ∙ tests (is_directory named.file) (is_link named.file) (may call named.file want.Read) (rest named.file)
        ∙ ap (λ (o : Option ℕ). or_error o (rest named.file)) (sym (is ∙ error_is call handle inode named.file named.fields))

    pub refused : (status : ℕ) (error : Option ℕ) → error ≡ Some status → error ≡ read_error call (head_of handle inode) → read tree call bytes offset count ≡ Err status
    refused status error some is = comes error is ∙ ap (λ (o : Option ℕ). or_error o (rest named.file)) some

    module _ (volume : ℕ) (held : Held) (hints : Hints) (few : areas ≤ 64) (same : IsTruth held truth) (s : Stands volume areas truth tree) (fit : HintsFitAll areas hints truth)
        (none : None ≡ read_error call (head_of handle inode)) where
      kinds : (is_directory named.file ≡ false) × (is_link named.file ≡ false)
      kinds = no_tests (is_directory named.file) (is_link named.file) (may call named.file want.Read) (sym (none ∙ error_is call handle inode named.file named.fields))

      not_directory : inode.kind ≢ 2
      not_directory two = let yes = eq_true named.file.kind 2 (sym named.fields.kind ∙ two) in let both : true ≡ false = sym yes ∙ kinds.0 in absurd cc

      not_link : inode.kind ≢ 5
      not_link five = let yes = eq_true named.file.kind 5 (sym named.fields.kind ∙ five) in let both : true ≡ false = sym yes ∙ kinds.1 in absurd cc

      pages : HasPages areas held hints truth [] tree s.is handle inode named.file
      pages = has_pages areas held hints truth [] tree handle inode named.file few same s.is fit named.holds named.found not_link

      abbrev stored : Stored
      stored = record { inode = inode; tree = pages.pages }

      body : IsBytes (chunks_of areas truth) s.is.owner handle stored named.file.body
      body = is_bytes (chunks_of areas truth) s.is.owner handle stored named.file.body pages.body not_directory not_link

      -- what is read of a file's bytes
      abbrev pub FileReads : ℕ → Result (List ℕ) Stop → Type 0
      FileReads most result = (truth' : Truth) (owner : ℕ → Owner) (handle' : ℕ) (kept : Stored) (bytes' : List ℕ) → kept.inode ≡ inode → Under areas held hints truth' [] kept.inode.tree kept.tree
          → IsRegular (chunks_of areas truth') owner handle' kept bytes' → Tells (take most (drop offset bytes')) result

      pub read_stops : (most : ℕ) (stop : Stop) → FileReads most (Err stop) → IsOutcome tree (read tree call bytes offset count) (Err stop)
      read_stops most stop reads = stopped_bytes tree (read tree call bytes offset count) (take most (drop offset body.bytes)) stop (reads truth s.is.owner handle stored body.bytes refl pages.under body.is)

      pub read_told : (most : ℕ) (words part : List ℕ) → words ≡ attributes_of volume named.file → most ≡ min count most_data → FileReads most (Ok part)
          → read tree call bytes offset count ≡ Ok (replies.Bytes words part, tree)
      read_told most words part words_are most_is reads =
          let part_is : part ≡ take (min count most_data) (drop offset body.bytes) =
          reads truth s.is.owner handle stored body.bytes refl pages.under body.is ∙ ap (λ (n : ℕ). take n (drop offset body.bytes)) most_is in
          comes None none
          ∙ (λ i. Ok (replies.Bytes (attributes_of (s.volume_is i) named.file) (take (min count most_data) (drop offset (bytes_of (body.body_is i)))), tree))
          ∙ (λ i. Ok (replies.Bytes (sym words_are i) (sym part_is i), tree))
