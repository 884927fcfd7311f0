-- What an inode that is put into a draft makes of a tree, and that it is held.
use Rattle.std.proofs.Common.{◌≡◌, ℕ, Bool, true, false, eqb-true, List, [], ◌∷◌, sym, ap, ◌∙◌, subst, refl, Option, Some, None}
use Rattle.std.specs.Prelude.{◌==◌, if◌then◌else◌, IsSome, unwrap_or}
use Rattle.bx_base.specs.declared.names.Mode.TheVariants.{Exclusive}
use Rattle.bx_layout.specs.declared.block.Block.{Block}
use Rattle.bx_layout.specs.declared.inode.Inode.{Inode}
use Rattle.bx_layout.specs.Blocks.{HasParts}
use Rattle.bx_blink.specs.bx_model.specs.declared.tree.Tree.{Tree}
use Rattle.bx_blink.specs.bx_records.specs.Drafts.{Changed, block_in, with_block}
use Rattle.bx_blink.specs.bx_tree_files.specs.declared.file.File.{File}
use Rattle.bx_blink.specs.bx_tree_files.specs.Files.{file_at, with_file}
use Rattle.bx_blink.specs.bx_truth.specs.Chunks.{block_at}
use Rattle.bx_blink.specs.bx_truth.specs.Rewritten.{KeepsBody}
use Rattle.bx_blink.specs.bx_truth.specs.Stands.{StandsFor}
use Rattle.bx_blink.specs.bx_truth.specs.Stored.{HasFields}
use Rattle.bx_blink.specs.bx_truth.proofs.Cases.{eq_false, eq_true}
use Rattle.bx_blink.specs.bx_truth.proofs.Rewrite.{rewritten_stands}
use Rattle.bx_blink.specs.bx_truth.proofs.Same.{chunk_is, stands_same}
use Rattle.bx_blink.specs.bx_views.specs.Attempts.{AreBlocks, IsHeldDraft}
use Rattle.bx_blink.specs.bx_views.specs.Truths.{Held, Truth, with_draft}
use Rattle.bx_inodes.specs.Inodes.{HoldsInode}
use Rattle.bx_inodes.specs.Writing.{PutsInode}

-- ---- a draft with one block put

module _ (at : ℕ) (block : Block) where
  -- what has a number once a block is put
  found_with : (changed : List Changed) (n : ℕ) → block_in (with_block changed at block) n ≡ (if at == n then Some block else block_in changed n)
  found_with [] n = refl
  found_with (x ∷ changed) n = (elim (x.0 == at) as (λ b. (x.0 == at) ≡ b → block_in (with_block (x ∷ changed) at block) n ≡ (if at == n then Some block else block_in (x ∷ changed) n)) [
    | true ↦ λ t. (elim (at == n) as (λ b. (at == n) ≡ b → block_in (with_block (x ∷ changed) at block) n ≡ (if at == n then Some block else block_in (x ∷ changed) n)) [
      | true ↦ λ u. rw (t, u) refl
      | false ↦ λ u. let other : (x.0 == n) ≡ false = subst (λ (m : ℕ). (m == n) ≡ false) (sym (eqb-true _ _ t)) u in rw (t, u, other) refl
    ]) refl
    | false ↦ λ t. (elim (x.0 == n) as (λ b. (x.0 == n) ≡ b → block_in (with_block (x ∷ changed) at block) n ≡ (if at == n then Some block else block_in (x ∷ changed) n)) [
      | true ↦ λ u. let other : (at == n) ≡ false = eq_false at n (λ e. let same = eq_true x.0 at (eqb-true _ _ u ∙ sym e) in absurd cc) in rw (t, u, other) refl
      | false ↦ λ u. rw (t, u) (found_with changed n)
    ]) refl
  ]) refl

  laid_over : (o : Option Block) (there : Block) (test : Bool) → unwrap_or (if test then Some block else None) (unwrap_or o there) ≡ unwrap_or (if test then Some block else o) there
  laid_over o there true = refl
  laid_over o there false = refl

  -- the block laid over what the draft leaves is what the draft with it leaves
  truth_with : (truth : Truth) (changed : List Changed) (n : ℕ) → with_draft (with_draft truth changed) ((at, block) ∷ []) n ≡ with_draft truth (with_block changed at block) n
  truth_with truth changed n = laid_over (block_in changed n) (truth n) (at == n) ∙ ap (λ (o : Option Block). unwrap_or o (truth n)) (sym (found_with changed n))

-- ---- the tree

module _ (areas : ℕ) (truth : Truth) (old_draft new_draft : List Changed) (tree : Tree) (handle : ℕ) (file file_now : File) (old new : Inode)
    (is : StandsFor areas (with_draft truth old_draft) tree) (there : file_at tree.files handle ≡ Some file) (holds : HoldsInode areas (with_draft truth old_draft) handle old)
    (keeps : KeepsBody old new) (fields : HasFields new file_now) (same_handle : file_now.handle ≡ handle) (same_body : file_now.body ≡ file.body) where
  abbrev after : Tree
  after = record tree { files = with_file tree.files file_now }

  pub put_stands : PutsInode old_draft new_draft handle new → StandsFor areas (with_draft truth new_draft) after
  put_stands p =
      let c = chunk_is areas (with_draft truth old_draft) handle holds.block holds.chunk in
      let header : holds.block.handle ≡ handle = ap (λ (b : Block). b.handle) (sym c.is_block) ∙ is.chunked.used (block_at handle) c.slot c.used ∙ sym c.is_handle in
      let laid = rewritten_stands areas (with_draft truth old_draft) tree handle holds.block p.block file file_now old new is holds.chunk there holds.has p.is.has (p.is.header ∙ sym header) keeps fields same_handle same_body in
      subst (λ (d : List Changed). StandsFor areas (with_draft truth d) after) (sym p.put)
      (stands_same areas (with_draft (with_draft truth old_draft) ((block_at handle, p.block) ∷ [])) (with_draft truth (with_block old_draft (block_at handle) p.block))
      (λ at in_volume. truth_with (block_at handle) p.block truth old_draft at) after laid)

-- ---- what is held

module _ (held : Held) (old new : List Changed) (handle : ℕ) (inode : Inode) (is : IsHeldDraft held old) (some : IsSome (held (block_at handle) Exclusive)) where
  pub put_held : PutsInode old new handle inode → IsHeldDraft held new
  put_held p = subst (IsHeldDraft held) (sym p.put) (record {
    each = λ at found. each_test at (block_at handle == at) refl (subst (λ (o : Option Block). IsSome o) (found_with (block_at handle) p.block old at) found);
    parts = λ are at block found. parts_test are at block (block_at handle == at) (sym (found_with (block_at handle) p.block old at) ∙ found);
  })
    where
      each_test : (at : ℕ) (test : Bool) → (block_at handle == at) ≡ test → IsSome (if (block_at handle == at) then Some p.block else block_in old at) → IsSome (held at Exclusive)
      each_test at true same found = subst (λ (n : ℕ). IsSome (held n Exclusive)) (eqb-true _ _ same) some
      each_test at false other found = is.each at (subst (λ (b : Bool). IsSome (if b then Some p.block else block_in old at)) other found)

      parts_test : AreBlocks held → (at : ℕ) (block : Block) (test : Bool) → (if test then Some p.block else block_in old at) ≡ Some block → HasParts block
      parts_test are at block true found = let same : p.block ≡ block = cc in subst HasParts same p.is.parts
      parts_test are at block false found = is.parts are at block found
