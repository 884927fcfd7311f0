-- What is in use has a name.
use Rattle.std.proofs.Common.{◌≡◌, ℕ, ◌+◌, ◌*◌, ◌^◌, arith, true, false, sym, ap, ◌∙◌, refl, Option, Some, None}
use Rattle.std.specs.Prelude.{◌≢◌}
use Rattle.std.proofs.lemmas.Bool.Decides.{nat_tests}
use Rattle.bx_views.specs.bx_layout.specs.declared.block.Block.{Block}
use Rattle.bx_views.specs.bx_layout.specs.Areas.{in_use, generation_in, is_free}
use Rattle.bx_model.specs.bx_tree_files.specs.declared.file.File.{File}
use Rattle.bx_model.specs.declared.tree.Tree.{Tree}
use Rattle.bx_model.specs.bx_tree_files.specs.Files.{file_at}
use Rattle.bx_model.specs.Opening.{root_handle}
use Rattle.bx_truth.specs.Chunks.{IsName, block_at, chunks_of, is_free_at, word_at}
use Rattle.bx_truth.specs.Stands.{StandsFor}
use Rattle.bx_views.specs.Truths.{Truth}
use Rattle.bx_truth.proofs.Put.{some_there}
use Rattle.bx_truth.proofs.Same.{chunk_is}

file_or : (o : Option File) → o ≢ None → (f : File) × (o ≡ Some f)
file_or None is = absurd (is refl)
file_or (Some f) is = (f, refl)

free_unused : (word : ℕ) → is_free word ≡ true → in_use word ≡ false
free_unused word free = grind (arith, nat_tests, free)

pub named : (areas : ℕ) (truth : Truth) (tree : Tree) (handle : ℕ) (block : Block) → StandsFor areas truth tree → chunks_of areas truth handle ≡ Some block → IsName areas handle
named areas truth tree handle block is some = record { slot = (chunk_is areas truth handle block some).slot; some = not_zero }
  where
    root : (f : File) × (file_at tree.files root_handle ≡ Some f)
    root = file_or (file_at tree.files root_handle) is.has_root

    root_chunk : (b : Block) × (chunks_of areas truth root_handle ≡ Some b)
    root_chunk = some_there (chunks_of areas truth root_handle) (is.are_files.all root_handle root.0 root.1).1

    apart : (n : ℕ) → 1 ≡ 0 * 2 ^ 48 + 0 * 2 ^ 32 + n → 0 ≡ 0 * 2 ^ 48 + 0 * 2 ^ 32 + n → ⊥
    apart n one none = omega (arith, one, none)

    not_zero : handle ≡ 0 → ⊥
    not_zero zero =
        let here : chunks_of areas truth 0 ≡ Some block = ap (chunks_of areas truth) (sym zero) ∙ some in
        apart (generation_in (word_at truth 0)) (chunk_is areas truth root_handle root_chunk.0 root_chunk.1).is_handle (chunk_is areas truth 0 block here).is_handle

pub free_names_none : (areas : ℕ) (truth : Truth) (block handle : ℕ) → is_free_at truth block ≡ true → block_at handle ≡ block → chunks_of areas truth handle ≡ None
free_names_none areas truth block handle free at = by (chunks_of areas truth handle) refl
  where
    by : (o : Option Block) → chunks_of areas truth handle ≡ o → chunks_of areas truth handle ≡ None
    by None none = none
    by (Some b) some =
        let c = chunk_is areas truth handle b some in
        let unused = free_unused (word_at truth block) free in
        let used : in_use (word_at truth block) ≡ true = ap (λ (n : ℕ). in_use (word_at truth n)) (sym at) ∙ c.used in
        absurd cc
