-- What the procedures are answered, by the file that is found.
use Rattle.std.proofs.Common.{◌≡◌, ℕ, Bool, true, false, eqb-true, List, refl, sym, ap, ◌∙◌, subst, Option}
use Rattle.std.specs.Prelude.{◌≢◌, ◌==◌, not, Result, Ok, Err}
use Rattle.std.specs.Prelude.{◌<◌, ◌^◌, option_and_then, [], Some}
use Rattle.bx_places.specs.Handles.{named}
use Rattle.bx_model.specs.FileTrees.{IsFileTree}
use Rattle.bx_views.specs.bx_records.specs.Drafts.{Changed}
use Rattle.bx_tree_files.specs.Files.{file_at, size_of}
use Rattle.bx_tree_laws.proofs.Rises.{contains_at}
use Rattle.bx_files.specs.bx_truth.specs.Stands.{StandsFor}
use Rattle.bx_views.specs.Truths.{Truth, with_draft}
use Rattle.bx_files.specs.bx_inodes.specs.declared.stop.Stop.{Stop}
use Rattle.bx_files.specs.bx_inodes.specs.declared.stop.Stop.TheVariants.{Need, Inner, Status, OutOfMemory}
use Rattle.bx_layout.specs.declared.inode.Inode.{Inode}
use Rattle.bx_model.specs.declared.reply.Reply.{Reply}
use Rattle.bx_model.specs.declared.reply.Reply.TheVariants.{Attributes, Path}
use Rattle.bx_model.specs.declared.tree.Tree.{Tree}
use Rattle.bx_model.specs.Reading.{attributes_reply, getattr, named_file, path_of, readlink}
use Rattle.bx_model.specs.Steps.{Outcome, must, refuse, ◌>>=◌, ◌>>◌}
use Rattle.bx_tree_files.specs.declared.file.File.{File}
use Rattle.bx_tree_files.specs.Attributes.{attributes_of}
use Rattle.bx_tree_files.specs.Files.{is_link}
use Rattle.bx_files.specs.bx_truth.proofs.Cases.{eq_false, eq_true}
use Rattle.bx_reads.specs.Answers.{IsOutcome}
use Rattle.bx_reads.specs.Files.{IsNamed, NamesFile}

-- a draft of nothing leaves what stood for a tree
pub over_none : (areas : ℕ) (truth : Truth) (tree : Tree) (draft : List Changed) → draft ≡ [] → StandsFor areas truth tree → StandsFor areas (with_draft truth draft) tree
over_none areas truth tree draft none is = subst (λ (d : List Changed). StandsFor areas (with_draft truth d) tree) (sym none) is

-- files of a file tree have sizes of 31 bits
pub size_fits : (tree : Tree) (handle : ℕ) (file : File) → IsFileTree tree → file_at tree.files handle ≡ Some file → size_of file.body < 2 ^ 31
size_fits tree handle file is there = (is.is_file file (contains_at tree.files handle file there)).size

-- the file that is named, by the handle that the bytes have
pub named_as : (tree : Tree) (volume : ℕ) (bytes : List ℕ) (o : Option ℕ) → tree.volume ≡ volume → o ≡ named volume bytes → named_file tree bytes ≡ option_and_then (file_at tree.files) o
named_as tree volume bytes o same is = (λ i. option_and_then (file_at tree.files) (named (same i) bytes)) ∙ ap (option_and_then (file_at tree.files)) (sym is)

-- what READLINK does with a file
abbrev pub linked : Tree → File → Outcome
linked tree file = refuse (not (is_link file)) 6 >> Ok (Path (path_of file.body), tree)

module _ (tree : Tree) (bytes : List ℕ) where
  -- a procedure about the file that is named
  abbrev pub told : (File → Outcome) → Option File → Outcome
  told then found = must found 70 >>= then

  pub stops : (areas : ℕ) (truth : Truth) (then : File → Outcome) (stop : Stop) → NamesFile areas truth tree bytes (Err stop) → IsOutcome tree (told then (named_file tree bytes)) (Err stop)
  stops areas truth then (Status status) (code, none) = ap (told then) none ∙ ap Err (sym code)
  stops areas truth then (Need at mode) f = tt
  stops areas truth then (Inner blocks) never = never
  stops areas truth then OutOfMemory f = tt

  module _ (areas : ℕ) (truth : Truth) (volume handle : ℕ) (inode : Inode) (same : tree.volume ≡ volume) (is : IsNamed areas truth tree bytes handle inode) where
    pub shown : (words : List ℕ) → words ≡ attributes_of volume is.file → getattr tree bytes ≡ Ok (Attributes words, tree)
    shown words words_are =
        ap (told (λ file. Ok (attributes_reply tree file, tree))) is.there ∙ (λ i. Ok (Attributes (attributes_of (same i) is.file), tree)) ∙ ap (λ (w : List ℕ). Ok (Attributes w, tree)) (sym words_are)

    pub link_told : inode.kind ≡ 5 → readlink tree bytes ≡ Ok (Path inode.path, tree)
    link_told link =
        ap (told (linked tree)) is.there ∙ ap (λ t. refuse (not t) 6 >> Ok (Path (path_of is.file.body), tree)) (eq_true is.file.kind 5 (sym is.fields.kind ∙ link)) ∙ ap (λ (p : List ℕ). Ok (Path p, tree)) (is.path link)

    pub other_told : inode.kind ≢ 5 → readlink tree bytes ≡ Err 6
    other_told other =
        ap (told (linked tree)) is.there ∙ ap (λ t. refuse (not t) 6 >> Ok (Path (path_of is.file.body), tree)) (eq_false is.file.kind 5 (λ link. other (is.fields.kind ∙ link)))

    -- by what the inode is answered
    pub path_told : (result : Result Reply Stop) → (inode.kind ≡ 5 → result ≡ Ok (Path inode.path)) → (inode.kind ≢ 5 → result ≡ Err (Status 6)) → IsOutcome tree (readlink tree bytes) result
    path_told result link other = by (inode.kind == 5) refl
      where
        by : (b : Bool) → (inode.kind == 5) ≡ b → IsOutcome tree (readlink tree bytes) result
        by true t = let five = eqb-true _ _ t in subst (IsOutcome tree (readlink tree bytes)) (sym (link five)) (link_told five)
        by false t = let none = λ (five : inode.kind ≡ 5). let yes = eq_true inode.kind 5 five in absurd cc in subst (IsOutcome tree (readlink tree bytes)) (sym (other none)) (other_told none)
