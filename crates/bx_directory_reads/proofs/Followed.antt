-- What follows a number, and what READDIR comes to.
use Rattle.std.proofs.Common.{◌≡◌, ℕ, ◌≤◌, Bool, true, false, List, ◌++◌, Option, Some, None, refl, sym, ap, ◌∙◌, subst, inl, inr}
use Rattle.std.specs.Prelude.{not, if◌then◌else◌, Result, Ok, Err}
use Rattle.bx_dirs.specs.Searches.{FollowsIn}
use Rattle.bx_reads.specs.bx_files.specs.Paths.{IsNeed}
use Rattle.bx_reads.specs.bx_files.specs.Reads.{Tells}
use Rattle.bx_reads.specs.bx_inodes.specs.Fitting.{HintsFitAll}
use Rattle.bx_reads.specs.bx_inodes.specs.declared.stop.Stop.{Stop}
use Rattle.bx_reads.specs.bx_inodes.specs.declared.stop.Stop.TheVariants.{Need, Inner, Status, OutOfMemory}
use Rattle.bx_reads.specs.bx_inodes.specs.Heads.{head_of}
use Rattle.bx_reads.specs.bx_inodes.specs.Stands.{Stands}
use Rattle.bx_layout.specs.declared.inode.Inode.{Inode}
use Rattle.bx_model.specs.declared.call.Call.{Call}
use Rattle.bx_model.specs.declared.permissions.Want.TheVariants as want
use Rattle.bx_model.specs.declared.reply.Reply.{Reply}
use Rattle.bx_model.specs.declared.tree.Tree.{Tree}
use Rattle.bx_model.specs.Directories.{behind, numbered, readdir}
use Rattle.bx_model.specs.Permissions.{may}
use Rattle.bx_model.specs.Steps.{Outcome, refuse, ◌>>◌}
use Rattle.bx_places.specs.Places.{is_block}
use Rattle.bx_tree_files.specs.declared.file.File.{File}
use Rattle.bx_tree_files.specs.declared.file.Name.{Name}
use Rattle.bx_tree_files.specs.Files.{is_directory}
use Rattle.bx_tree_files.specs.Names.{names_of, parent_of}
use Rattle.bx_truth.specs.Stored.{HasFields}
use Rattle.bx_views.specs.Truths.{Held, Hints, IsTruth, Truth}
use Rattle.bx_reads.specs.Answers.{IsOutcome}
use Rattle.bx_reads.specs.Files.{IsNamed}
use Rattle.bx_reads.proofs.Told.{told}
use Rattle.bx_directory_reads.specs.Listings.{FollowsSo, listing}
use Rattle.bx_directory_reads.specs.Lookups.{open_error}
use Rattle.bx_call_parts.specs.Pages.{dots}
use Rattle.bx_directory_reads.proofs.LookedUp.{IsFound, found}

pub need_follows : (names : List Name) (number areas at : ℕ) (stop : Stop) → IsNeed areas at stop → is_block areas at ≡ true → FollowsSo names number (Err stop)
need_follows names number areas at stop (inl need) block = subst (λ (s : Stop). FollowsSo names number (Err s)) (sym need.1) tt
need_follows names number areas at stop (inr none) block = let both : true ≡ false = sym block ∙ none.0 in absurd cc

pub follows : (names : List Name) (number : ℕ) (entry : Option Name) → FollowsIn names number (Ok entry) → FollowsSo names number (Ok entry)
follows names number None is = is
follows names number (Some entry) is = is

-- ---- the error

abbrev or_error : Option ℕ → Outcome → Outcome
or_error (Some status) rest = Err status
or_error None rest = rest

abbrev first_error : Bool → Bool → Option ℕ
first_error d m = if d then (if m then None else Some 13) else Some 20

tests : (d m : Bool) (rest : Outcome) → refuse (not d) 20 >> (refuse (not m) 13 >> rest) ≡ or_error (first_error d m) rest
tests false m rest = refl
tests true true rest = refl
tests true false rest = refl

no_tests : (d m : Bool) → first_error d m ≡ None → d ≡ true
no_tests false m none = absurd cc
no_tests true m none = refl

error_is : (call : Call) (handle : ℕ) (inode : Inode) (file : File) → HasFields inode file → open_error want.List call (head_of handle inode) ≡ open_error want.List call file
error_is call handle inode file fields = λ i. open_error want.List call (record file { kind = fields.kind i; mode = fields.mode i; uid = fields.uid i; gid = fields.gid i })

-- ---- READDIR

module _ (tree : Tree) (call : Call) (cookie count : ℕ) where
  abbrev rest : File → Outcome
  rest directory = Ok (listing (behind cookie (numbered directory)) count, tree)

  -- what READDIR does with a directory
  abbrev pub listed_of : File → Outcome
  listed_of directory = refuse (not (is_directory directory)) 20 >> (refuse (not (may call directory want.List)) 13 >> rest directory)

  module _ (bytes : List ℕ) (areas handle : ℕ) (truth : Truth) (inode : Inode) (named : IsNamed areas truth tree bytes handle inode) where
    comes : (error : Option ℕ) → error ≡ open_error want.List call (head_of handle inode) → readdir tree call bytes cookie count ≡ or_error error (rest named.file)
    comes error is =
        ap (told tree bytes listed_of) named.there ∙ tests (is_directory named.file) (may call named.file want.List) (rest named.file)
        ∙ ap (λ (o : Option ℕ). or_error o (rest named.file)) (sym (is ∙ error_is call handle inode named.file named.fields))

    pub refused : (status : ℕ) (error : Option ℕ) → error ≡ Some status → error ≡ open_error want.List call (head_of handle inode) → readdir tree call bytes cookie count ≡ Err status
    refused status error some is = comes error is ∙ ap (λ (o : Option ℕ). or_error o (rest named.file)) some

    module _ (volume : ℕ) (held : Held) (hints : Hints) (few : areas ≤ 64) (same : IsTruth held truth) (s : Stands volume areas truth tree) (fit : HintsFitAll areas hints truth)
        (none : None ≡ open_error want.List call (head_of handle inode)) where
      pub directory : IsFound areas held hints truth inode named.file
      directory = found areas held hints truth tree volume handle bytes inode few same s fit named
          (no_tests (is_directory named.file) (may call named.file want.List) (sym (none ∙ error_is call handle inode named.file named.fields)))

      numbers : numbered named.file ≡ dots handle inode.parent ++ directory.names
      numbers = λ i. dots (named.handle_is i) ((ap parent_of directory.body_is ∙ sym directory.parent_is) i) ++ ap names_of directory.body_is i

      pub lists : (result : Result Reply Stop) → Tells (listing (behind cookie (dots handle inode.parent ++ directory.names)) count) result → IsOutcome tree (readdir tree call bytes cookie count) result
      lists (Ok reply) tells = comes None none ∙ ap (λ (names : List Name). Ok (listing (behind cookie names) count, tree)) numbers ∙ ap (λ (r : Reply). Ok (r, tree)) (sym tells)
      lists (Err (Need at mode)) tells = tt
      lists (Err (Inner blocks)) tells = tells
      lists (Err (Status status)) tells = absurd tells
      lists (Err OutOfMemory) tells = tt
