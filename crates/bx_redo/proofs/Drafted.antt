-- Drafts of blocks of a volume: with one more they are one still.
use Rattle.std.proofs.Common.{◌≡◌, ℕ, Bool, true, false, eqb-true, List, [], ◌∷◌, Some, refl, sym, ◌∙◌, subst}
use Rattle.std.specs.Prelude.{◌==◌, if◌then◌else◌}
use Rattle.bx_layout.specs.declared.block.Block.{Block}
use Rattle.bx_layout.specs.Blocks.{HasParts}
use Rattle.bx_places.specs.Places.{IsBlock}
use Rattle.bx_records.specs.Drafts.{Changed, block_in, with_block}
use Rattle.bx_volume.specs.bx_truth.proofs.Cases.{eq_true, eq_false}
use Rattle.bx_redo.specs.Steps.{AreBlocksOf}

module _ (at : ℕ) (block : Block) where
  -- what has a number once a block is put
  found_with : (changed : List Changed) (n : ℕ) → block_in (with_block changed at block) n ≡ (if at == n then Some block else block_in changed n)
  found_with [] n = refl
  found_with (x ∷ changed) n = (elim (x.0 == at) as (λ b. (x.0 == at) ≡ b → block_in (with_block (x ∷ changed) at block) n ≡ (if at == n then Some block else block_in (x ∷ changed) n)) [
    | true ↦ λ t. (elim (at == n) as (λ b. (at == n) ≡ b → block_in (with_block (x ∷ changed) at block) n ≡ (if at == n then Some block else block_in (x ∷ changed) n)) [
      | true ↦ λ u. rw (t, u) refl
      | false ↦ λ u. let other : (x.0 == n) ≡ false = subst (λ (m : ℕ). (m == n) ≡ false) (sym (eqb-true _ _ t)) u in rw (t, u, other) refl
    ]) refl
    | false ↦ λ t. (elim (x.0 == n) as (λ b. (x.0 == n) ≡ b → block_in (with_block (x ∷ changed) at block) n ≡ (if at == n then Some block else block_in (x ∷ changed) n)) [
      | true ↦ λ u. let other : (at == n) ≡ false = eq_false at n (λ e. let same = eq_true x.0 at (eqb-true _ _ u ∙ sym e) in absurd cc) in rw (t, u, other) refl
      | false ↦ λ u. rw (t, u) (found_with changed n)
    ]) refl
  ]) refl

  pub blocks_with : (areas : ℕ) (changed : List Changed) → IsBlock areas at → HasParts block → AreBlocksOf areas changed → AreBlocksOf areas (with_block changed at block)
  blocks_with areas changed is_block parts are n other found = by (at == n) refl (sym (found_with changed n) ∙ found)
    where
      by : (b : Bool) → (at == n) ≡ b → (if b then Some block else block_in changed n) ≡ Some other → IsBlock areas n × HasParts other
      by true same is = (subst (IsBlock areas) (eqb-true _ _ same) is_block, subst HasParts (let e : block ≡ other = cc in e) parts)
      by false apart is = are n other is
